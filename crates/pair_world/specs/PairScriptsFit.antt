-- While a script with two front ends is carried out, the two whole streams, folded into the front ends, meet no fault, and these show just
-- what each session's client sees.
use Rattle.std.specs.Prelude.{◌≡◌, ℕ, ◌≤◌, List, [], ◌∷◌, length, take, true, ⊤}
use Rattle.page_forms.specs.Pages.{LoadedPage}
use Rattle.front_mirror.specs.declared.panels.PanelKind.{PanelKind}
use Rattle.replay_script.specs.Forms.{load}
use Rattle.replay_script.specs.PairLines.{PairForm, attach_session, detach_session, of_first, of_second, may_be_first, may_be_second}
use Rattle.inspect_world.specs.ScriptsFit.{IsLater}
use Rattle.replay_script.specs.PairScript.{pair_script_forms}
use Rattle.inspect_world.specs.Fits.{most_bytes}
use Rattle.pair_world.specs.Clients.{pair_reads, client_steps}
use Rattle.pair_world.specs.PairFits.{PairFits, BothShown}
use Rattle.pair_world.specs.PairRuns.{PairRun, PairDeed, pair_loaded_run}
use Rattle.pair_world.specs.PairFresh.{PairRoom}
use Rattle.pair_world.specs.PairScripts.{deeds, after_pair_line, after_pair_lines, pair_shown_lines}
use Rattle.session_runs.specs.Stream.{arriving}
use Rattle.session_runs.specs.World.{sent_up}
use Rattle.session_runs.specs.Fold.{RoomThroughout}
use Rattle.session_runs.specs.Passages.{Passage, sending, turning, delivering_up, delivering_down, settling}
use Rattle.session_runs.specs.Pairs.{pair_step}
use Rattle.session_runs.specs.PairRuns.{passing, targeting}
use Rattle.back_end.specs.Steps.{Turn}
use Rattle.pair_world.specs.PairRuns.{PairSpent, pair_settled, after_deed_by}
use Rattle.pair_world.specs.PairFresh.{SettleHasRoom}

-- a line that may come after the load
abbrev pub IsPairLater : PairForm → Type 0
IsPairLater attach_session = ⊤
IsPairLater detach_session = ⊤
IsPairLater (of_first form) = IsLater form × (may_be_first form ≡ true)
IsPairLater (of_second form) = IsLater form × (may_be_second form ≡ true)

-- there is room for a part of the run that the report tells
abbrev pub PassageRoom : Passage Turn PairSpent → PairRun → Type 0
PassageRoom (sending text more) w = ⊤
PassageRoom (turning x) w = PairRoom w.state
PassageRoom (delivering_up n) w = RoomThroughout (pair_step pair_reads client_steps) PairRoom w.state (arriving n w.up)
PassageRoom (delivering_down n) w = ⊤
PassageRoom settling w = SettleHasRoom w

-- for one that may be an attach or a detach
abbrev pub DeedRoom : PairDeed → PairRun → Type 0
DeedRoom (passing p) w = PassageRoom p w
DeedRoom (targeting text more) w = SettleHasRoom w × SettleHasRoom (sent_up text more (pair_settled w))

-- for some of them
abbrev pub DeedsRoom : List PairDeed → PairRun → Type 0
DeedsRoom [] w = ⊤
DeedsRoom (d ∷ ds) w = DeedRoom d w × DeedsRoom ds (after_deed_by pair_settled d w)

-- there is room before each step of some lines
abbrev pub LinesRoom : List PairForm → PairRun → Type 0
LinesRoom [] w = ⊤
LinesRoom (line ∷ lines) w = DeedsRoom (deeds line w) w × LinesRoom lines (after_pair_line line w)

-- With each input that a replay with two front ends reads, panels of any kinds, and after any number of the lines that are carried out:
-- where there is room before each step, the two whole streams, folded, fit both sessions.
abbrev pub PairInputsFit : Type 0
PairInputsFit = (input : List ℕ) (page : LoadedPage) (lines : List PairForm) → pair_script_forms input ≡ of_first (load page) ∷ lines
    → length input ≤ most_bytes → (kinds : List PanelKind) (n : ℕ)
    → let carried = take n (pair_shown_lines lines (pair_loaded_run kinds page)) in
    LinesRoom carried (pair_loaded_run kinds page) → PairFits (after_pair_lines carried (pair_loaded_run kinds page))

-- Where then all sent bytes have been taken in, a second front end stands just where a session is attached, each front end shows just what
-- its session's client sees, and no ask waits.
abbrev pub PairInputsShow : Type 0
PairInputsShow = (input : List ℕ) (page : LoadedPage) (lines : List PairForm) → pair_script_forms input ≡ of_first (load page) ∷ lines
    → length input ≤ most_bytes → (kinds : List PanelKind) (n : ℕ)
    → let carried = take n (pair_shown_lines lines (pair_loaded_run kinds page)) in
    let w = after_pair_lines carried (pair_loaded_run kinds page) in
    LinesRoom carried (pair_loaded_run kinds page) → w.up.flying ≡ [] → w.down.flying ≡ [] → BothShown w
