-- After any number of lines, a settle with its fetches leaves each front end of two showing its client, with each text.
use Rattle.std.proofs.Common.{◌≡◌, ℕ, zero, suc, ◌+◌, ◌*◌, List, [], ◌∷◌, length, take, All, Option, Some, None, refl, subst, arith}
use Rattle.std.proofs.lemmas.List.Elements.{All-head, All-tail}
use Rattle.replay_script.specs.declared.faults.LineFault.{LineFault}
use Rattle.replay_script.specs.PairLines.{PairForm}
use Rattle.replay_script.specs.PairScript.{pairs_unless_bad}
use Rattle.inspect_world.specs.Costs.{least_line}
use Rattle.pair_world.specs.PairRuns.{PairRun, pair_loaded_run}
use Rattle.pair_world.specs.PairScripts.{after_pair_line, after_pair_lines, pair_lacking, pair_shown_lines}
use Rattle.pair_world.specs.PairFresh.{fresh_pair_line, fresh_pair_lines}
use Rattle.pair_world.specs.PairScriptsFit.{IsPairLater}
use Rattle.pair_world.specs.FetchShown.{FreshLinesHaveRoom, PairLinesShow}
use Rattle.pair_world.proofs.FetchParts.{Together, together-fewer, loaded-together}
use Rattle.pair_world.proofs.FetchLines.{line-together}
use Rattle.pair_world.proofs.KeptShown.{pair-refresh-shows}
use Rattle.pair_world.proofs.PairScriptLemmas.{first-none}

-- after any number of the lines that are carried out
pub lines-together : (n bytes : ℕ) (lines : List PairForm) (w v : PairRun) → All IsPairLater lines
    → Together (bytes + length lines * least_line) w v → FreshLinesHaveRoom (take n (pair_shown_lines lines w)) v
    → Together bytes (after_pair_lines (take n (pair_shown_lines lines w)) w) (fresh_pair_lines (take n (pair_shown_lines lines w)) v)
lines-together zero bytes lines w v later both room =
    together-fewer bytes (bytes + length lines * least_line) w v (omega arith) both
lines-together (suc n) bytes [] w v later both room = together-fewer bytes (bytes + 0 * least_line) w v (omega arith) both
lines-together (suc n) bytes (line ∷ lines) w v later both room =
    by (pair_lacking line w) refl
    (λ next. lines-together n bytes lines (after_pair_line line w) (fresh_pair_line line v) (All-tail IsPairLater line lines later) next)
    room
  where
    rest : List PairForm
    rest = pair_shown_lines lines (after_pair_line line w)

    nothing : Together bytes w v
    nothing = together-fewer bytes (bytes + suc (length lines) * least_line) w v (omega arith) both

    by : (o : Option LineFault) → pair_lacking line w ≡ o
        → (Together (bytes + length lines * least_line) (after_pair_line line w) (fresh_pair_line line v)
        → FreshLinesHaveRoom (take n rest) (fresh_pair_line line v)
        → Together bytes (after_pair_lines (take n rest) (after_pair_line line w))
        (fresh_pair_lines (take n rest) (fresh_pair_line line v)))
        → FreshLinesHaveRoom (take (suc n) (pairs_unless_bad o (line ∷ rest))) v
        → Together bytes (after_pair_lines (take (suc n) (pairs_unless_bad o (line ∷ rest))) w)
        (fresh_pair_lines (take (suc n) (pairs_unless_bad o (line ∷ rest))) v)
    by None is next room =
        let bytes_are : bytes + suc (length lines) * least_line ≡ bytes + length lines * least_line + least_line = omega arith in
        next
        (line-together (bytes + length lines * least_line) line w v (All-head IsPairLater line lines later) (first-none _ _ is)
        (subst (λ k. Together k w v) bytes_are both) room.0)
        room.1
    by (Some fault) is next room = nothing

pub pair-lines-show : PairLinesShow
pair-lines-show kinds page lines can texts later few n room last =
    let start : PairRun = pair_loaded_run kinds page in
    let carried = take n (pair_shown_lines lines start) in
    pair-refresh-shows (after_pair_lines carried start) (fresh_pair_lines carried start)
    (lines-together n 1 lines start start later (loaded-together (1 + length lines * least_line) kinds page can texts few) room) last
