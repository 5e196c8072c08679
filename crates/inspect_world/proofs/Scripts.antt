-- The streams of a script fit the state of the page, line by line.
use Rattle.std.proofs.Common.{◌≡◌, ℕ, zero, suc, ◌+◌, ◌*◌, ◌^◌, ◌<◌, ◌≤◌, List, [], ◌∷◌, length, take, Ok, refl, sym, ◌∙◌, ap, arith}
use Rattle.std.specs.Prelude.{Bool, true, false, ◌&&◌, nat_le}
use Rattle.std.specs.List.{list_all}
use Rattle.std.proofs.lemmas.Bool.{leb-true}
use Rattle.page_forms.specs.declared.sheets.SheetForm.{SheetForm}
use Rattle.page_forms.specs.Sheets.{max_sheets, is_short, can_hold_sheets}
use Rattle.node_tree.specs.Nodes.{node_count}
use Rattle.page_forms.specs.Pages.{LoadedPage, CanLoadPage}
use Rattle.cdp_messages.specs.Asked.{command_text}
use Rattle.front_mirror.specs.Front.{first_value, take_frame}
use Rattle.replay_script.specs.Forms as forms
use Rattle.replay_script.specs.Forms.{AskForm, LineForm, load, ask, up, down, settle, show_front, show_page, show_sheets, show_replies}
use Rattle.replay_script.specs.Forms.{show_pauses, show_panels, show_styles, close}
use Rattle.pipe_frames.specs.Frames.{IsText, frames_of}
use Rattle.session_runs.specs.Stream.{sent, held, awaited, arriving}
use Rattle.session_runs.specs.Fold.{folded, asks_joined}
use Rattle.front_mirror.specs.declared.panels.PanelKind.{PanelKind}
use Rattle.session_runs.specs.World.{delivered_up, settled}
use Rattle.inspect_world.specs.World.{World, Audience, audience, Spent, nothing_spent, one_ask, one_raw, raw, turned}
use Rattle.back_end.proofs.StartLemmas.{IsState-first}
use Rattle.back_end.specs.Steps.{Turn, acts, loads}
use Rattle.inspect_world.specs.RunStates.{RunState, run_start, run_step, run_turn}
use Rattle.inspect_world.proofs.Growing.{pauses-of}
use Rattle.inspect_world.specs.Fits.{join, asks_among, next_raw, IsBare, IsNextTurn, HasLeft, most_bytes, most_frames, most_sheets}
use Rattle.inspect_world.specs.Fits.{most_fetches, IsFit, AlwaysRoom, IsNextIn, replay, Fits}
use Rattle.inspect_world.specs.Costs.{ask_edits, least_line, line_cost, lines_cost}
use Rattle.inspect_world.specs.Scripts.{sends, after_line, after_lines, loaded_world}
use Rattle.page_forms.specs.Texts.{PageHasTexts}
use Rattle.inspect_world.specs.ScriptsFit.{IsLater, AreLater, LinesFit, BareFramesFit, TurnsFit, DeliveriesFit, SettledShows}
use Rattle.replay_script.specs.Sound.{CanSend}
use Rattle.inspect_world.proofs.Messages.{IsText-sent, IsNext-sent}
use Rattle.session_runs.proofs.Frames.{given-all, sent-all, awaited-none}
use Rattle.inspect_world.proofs.Replies.{replies-of}
use Rattle.session_runs.proofs.Worlds.{fits-first, fits-sent_up, fits-turned, fits-delivered_up, fits-delivered_down}
use Rattle.session_runs.proofs.Worlds.{fits-settled}
use Rattle.inspect_world.proofs.FitLemmas.{world_laws, room-always}

-- ---- the start

and-true : (a b : Bool) → (a && b) ≡ true → (a ≡ true) × (b ≡ true)
and-true true b e = (refl, e)
and-true false b e = absurd cc

-- the sheets of a page that is loaded
few-sheets : (sheets : List SheetForm) → can_hold_sheets sheets ≡ true → length sheets ≤ 1000
few-sheets sheets can = leb-true (length sheets) 1000 (and-true (nat_le (length sheets) max_sheets) (list_all is_short sheets) can).0

pub fit-first : (page : LoadedPage) → CanLoadPage page → PageHasTexts page → IsFit nothing_spent (first_value []) (run_start page) []
fit-first page can texts = record {
  has = record { tree = refl; sheets = tt };
  styles = refl;
  asks = refl;
  sendable = tt;
  is_state = IsState-first page can texts;
  few = omega arith;
  few_turns = omega arith;
  few_edits = omega arith;
  drawn = omega arith;
  trees = omega arith;
  edits = omega arith;
  serials = let room : suc (node_count page.nodes) ≤ 100000 = can.nodes.room in omega (arith, room);
  numbers = let few : length page.sheets ≤ 1000 = few-sheets page.sheets can.sheets in omega (arith, few);
  searches = omega arith;
}

pub fits-loaded : (kinds : List PanelKind) (page : LoadedPage) → CanLoadPage page → PageHasTexts page → Fits (loaded_world kinds page)
fits-loaded kinds page can texts =
    fits-first replay AlwaysRoom IsNextIn IsNextTurn IsFit world_laws (first_value []) nothing_spent (audience kinds) (run_start page)
    (fit-first page can texts)

-- ---- a line

pub fits-sent : (a : AskForm) (w : World RunState) → CanSend a → w.spent.asks + w.spent.raws + 1 ≤ most_frames
    → w.spent.edits + ask_edits a ≤ most_bytes → Fits w → Fits (sends a w)
fits-sent a w can few few_edits fits =
    let small : w.spent.asks + 1 < 2 ^ 30 = omega (arith, few) in
    fits-sent_up replay AlwaysRoom IsNextIn IsNextTurn IsFit world_laws (first_value [])
    (command_text (w.spent.asks + 1) a.method a.params a.session) (one_ask (ask_edits a)) w
    (IsText-sent (w.spent.asks + 1) a can (omega (arith, few))) (IsNext-sent w.spent a can few few_edits small) fits

-- what was told says nothing of the streams
pub fits-told : (w : World RunState) (n : Audience) → Fits w
    → Fits (record w { told = n })
fits-told w n fits = record {
  front = fits.front;
  is_fold = fits.is_fold;
  fit = fits.fit;
  up_whole = fits.up_whole;
  down_whole = fits.down_whole;
}

settled-fits : (w : World RunState) → Fits w → Fits (settled run_step w)
settled-fits w fits = fits-settled replay AlwaysRoom IsNextIn IsNextTurn IsFit world_laws (first_value []) w
    (room-always w.state (arriving (length w.up.flying) w.up)) fits

turned-fits : (x : Turn) (w : World RunState) → IsNextTurn w.spent x → Fits w → Fits (turned run_turn x w)
turned-fits x w next fits = fits-turned replay AlwaysRoom IsNextIn IsNextTurn IsFit world_laws (first_value []) x w tt next fits

raw-fits : (text : List ℕ) (w : World RunState) → IsText text → IsBare text → w.spent.asks + w.spent.raws + 1 ≤ most_frames → Fits w
    → Fits (raw text w)
raw-fits text w letters bare few fits = fits-sent_up replay AlwaysRoom IsNextIn IsNextTurn IsFit world_laws
    (first_value []) text one_raw w letters
    (next_raw bare few) fits

-- room for a line is room for a frame, for the edits of an ask and for a step of the script
pub frame-left : (n : Spent) (more : ℕ) → HasLeft n (least_line + more) → n.asks + n.raws + 1 ≤ most_frames
frame-left n more left = let room : (n.asks + n.raws) * 4 + (least_line + more) ≤ most_bytes = left.frames in omega (arith, room)

pub edits-left : (n : Spent) (more : ℕ) → HasLeft n (least_line + more) → n.edits + more ≤ most_bytes
edits-left n more left = let room : n.edits + (least_line + more) ≤ most_bytes = left.edits in omega (arith, room)

pub turn-left : (n : Spent) → HasLeft n least_line → n.turns + 1 ≤ most_bytes
turn-left n left = let room : n.turns + least_line ≤ most_bytes = left.turns in omega (arith, room)

pub fits-line : (line : LineForm) (w : World RunState) → IsLater line → HasLeft w.spent (line_cost line) → Fits w → Fits (after_line line w)
fits-line (load page) w later left fits = turned-fits (loads page) w (record { is_turn = later; few = turn-left w.spent left }) fits
fits-line (forms.act a) w later left fits = turned-fits (acts a) w (record { is_turn = later; few = turn-left w.spent left }) fits
fits-line (ask a) w later left fits = fits-sent a w later (frame-left w.spent (ask_edits a) left)
    (edits-left w.spent (ask_edits a) left) fits
fits-line (forms.raw text) w later left fits = raw-fits text w later.0 later.1 (frame-left w.spent 0 left) fits
fits-line (up n) w later left fits = fits-delivered_up replay AlwaysRoom IsNextIn IsNextTurn IsFit world_laws (first_value []) n w
    (room-always w.state (arriving n w.up)) fits
fits-line (down n) w later left fits = fits-delivered_down replay AlwaysRoom IsNextIn IsNextTurn IsFit world_laws (first_value []) n w fits
fits-line settle w later left fits = settled-fits w fits
fits-line show_front w later left fits = settled-fits w fits
fits-line show_page w later left fits = fits
fits-line show_sheets w later left fits = settled-fits w fits
fits-line show_replies w later left fits = fits-told (settled run_step w) _ (settled-fits w fits)
fits-line show_pauses w later left fits = fits-told (settled run_step w) _ (settled-fits w fits)
fits-line show_panels w later left fits = settled-fits w fits
fits-line (show_styles k) w later left fits = settled-fits w fits
fits-line (close k) w later left fits = fits-told w _ fits

-- what a line of so many bytes spends at most
pub record Spends (n m : Spent) (cost : ℕ) : Type 0 where
  pub frames : (m.asks + m.raws) * 4 ≤ (n.asks + n.raws) * 4 + cost
  pub fetches : m.fetches ≤ n.fetches + most_sheets
  pub turns : m.turns ≤ n.turns + 1
  pub edits : m.edits ≤ n.edits + cost
  pub some : 1 ≤ cost

left-bytes : (before after k cost : ℕ) → after ≤ before + cost → before + (k + cost) ≤ most_bytes → after + k ≤ most_bytes
left-bytes before after k cost more left = omega (arith, more, left)

left-turns : (before after k cost : ℕ) → after ≤ before + 1 → 1 ≤ cost → before + (k + cost) ≤ most_bytes → after + k ≤ most_bytes
left-turns before after k cost more some left = omega (arith, more, some, left)

-- of fetches a page's sheets at most
left-fetches : (before after k cost : ℕ) → after ≤ before + most_sheets → 1 ≤ cost → before + (k + cost + 1) * most_sheets ≤ most_fetches
    → after + (k + 1) * most_sheets ≤ most_fetches
left-fetches before after k cost more some left = omega (arith, more, some, left)

-- a line spends no more
pub spent-on : (k cost : ℕ) (n m : Spent) → Spends n m cost → HasLeft n (k + cost) → HasLeft m k
spent-on k cost n m spends left = record {
  frames = left-bytes ((n.asks + n.raws) * 4) ((m.asks + m.raws) * 4) k cost spends.frames left.frames;
  fetches = left-fetches n.fetches m.fetches k cost spends.fetches spends.some left.fetches;
  turns = left-turns n.turns m.turns k cost spends.turns spends.some left.turns;
  edits = left-bytes n.edits m.edits k cost spends.edits left.edits;
}

-- lines that spend nothing, but for fetches
pub spends-nothing : (n m : Spent) → m.asks ≡ n.asks → m.raws ≡ n.raws → m.turns ≡ n.turns → m.edits ≡ n.edits
    → m.fetches ≤ n.fetches + most_sheets → Spends n m least_line
spends-nothing n m asks raws turns edits fetches =
    record {
      frames = omega (arith, asks, raws);
      fetches = fetches;
      turns = omega (arith, turns);
      edits = omega (arith, edits);
      some = omega arith;
    }

-- and those that send a frame, or make a step
pub spends-ask : (a : AskForm) (w : World RunState) → Spends w.spent (sends a w).spent (line_cost (ask a))
spends-ask a w = record { frames = omega arith; fetches = omega arith; turns = omega arith; edits = omega arith; some = omega arith }

pub spends-raw : (text : List ℕ) (w : World RunState) → Spends w.spent (raw text w).spent least_line
spends-raw text w = record { frames = omega arith; fetches = omega arith; turns = omega arith; edits = omega arith; some = omega arith }

pub spends-turn : (x : Turn) (w : World RunState) → Spends w.spent (turned run_turn x w).spent least_line
spends-turn x w = record { frames = omega arith; fetches = omega arith; turns = omega arith; edits = omega arith; some = omega arith }

spends-line : (line : LineForm) (w : World RunState) → Spends w.spent (after_line line w).spent (line_cost line)
spends-line (load page) w = spends-turn (loads page) w
spends-line (forms.act a) w = spends-turn (acts a) w
spends-line (ask a) w = spends-ask a w
spends-line (forms.raw text) w = spends-raw text w
spends-line (up n) w = spends-nothing w.spent w.spent refl refl refl refl (omega arith)
spends-line (down n) w = spends-nothing w.spent w.spent refl refl refl refl (omega arith)
spends-line settle w = spends-nothing w.spent w.spent refl refl refl refl (omega arith)
spends-line show_front w = spends-nothing w.spent w.spent refl refl refl refl (omega arith)
spends-line show_page w = spends-nothing w.spent w.spent refl refl refl refl (omega arith)
spends-line show_sheets w = spends-nothing w.spent w.spent refl refl refl refl (omega arith)
spends-line show_replies w = spends-nothing w.spent w.spent refl refl refl refl (omega arith)
spends-line show_pauses w = spends-nothing w.spent w.spent refl refl refl refl (omega arith)
spends-line show_panels w = spends-nothing w.spent w.spent refl refl refl refl (omega arith)
spends-line (show_styles k) w = spends-nothing w.spent w.spent refl refl refl refl (omega arith)
spends-line (close k) w = spends-nothing w.spent w.spent refl refl refl refl (omega arith)

pub left-after : (line : LineForm) (k : ℕ) (w : World RunState) → HasLeft w.spent (k + line_cost line) → HasLeft (after_line line w).spent k
left-after line k w left = spent-on k (line_cost line) w.spent (after_line line w).spent (spends-line line w) left

-- room for more bytes is room for fewer
fewer-bytes : (before j k : ℕ) → j ≤ k → before + k ≤ most_bytes → before + j ≤ most_bytes
fewer-bytes before j k less left = omega (arith, less, left)

fewer-fetches : (before j k : ℕ) → j ≤ k → before + (k + 1) * most_sheets ≤ most_fetches → before + (j + 1) * most_sheets ≤ most_fetches
fewer-fetches before j k less left = omega (arith, less, left)

pub left-fewer : (n : Spent) (j k : ℕ) → j ≤ k → HasLeft n k → HasLeft n j
left-fewer n j k less left = record {
  frames = fewer-bytes ((n.asks + n.raws) * 4) j k less left.frames;
  fetches = fewer-fetches n.fetches j k less left.fetches;
  turns = fewer-bytes n.turns j k less left.turns;
  edits = fewer-bytes n.edits j k less left.edits;
}

-- any line costs as much as a line does at least
pub cost-least : (line : LineForm) → least_line ≤ line_cost line
cost-least (load page) = omega arith
cost-least (forms.act a) = omega arith
cost-least (ask a) = omega arith
cost-least (forms.raw text) = omega arith
cost-least (up n) = omega arith
cost-least (down n) = omega arith
cost-least settle = omega arith
cost-least show_front = omega arith
cost-least show_page = omega arith
cost-least show_sheets = omega arith
cost-least show_replies = omega arith
cost-least show_pauses = omega arith
cost-least show_panels = omega arith
cost-least (show_styles k) = omega arith
cost-least (close k) = omega arith

-- one line of some
pub left-one : (n : Spent) (k cost : ℕ) → HasLeft n (k + cost) → HasLeft n cost
left-one n k cost left = left-fewer n cost (k + cost) (omega arith) left

fits-lines : (n : ℕ) (lines : List LineForm) (w : World RunState) → AreLater lines → HasLeft w.spent (lines_cost lines) → Fits w
    → Fits (after_lines (take n lines) w)
fits-lines zero lines w later left fits = fits
fits-lines (suc n) [] w later left fits = fits
fits-lines (suc n) (line ∷ lines) w later left fits =
    fits-lines n lines (after_line line w) later.1 (left-after line (lines_cost lines) w left)
    (fits-line line w later.0 (left-one w.spent (lines_cost lines) (line_cost line) left) fits)

-- nothing was spent at the start
pub left-first : (kinds : List PanelKind) (page : LoadedPage) (k : ℕ) → k ≤ most_bytes → HasLeft (loaded_world kinds page).spent k
left-first kinds page k few = record {
  frames = omega (arith, few);
  fetches = omega (arith, few);
  turns = omega (arith, few);
  edits = omega (arith, few);
}

pub lines-fit : LinesFit
lines-fit page lines can texts later few kinds n = fits-lines n lines (loaded_world kinds page) later
    (left-first kinds page (lines_cost lines) few) (fits-loaded kinds page can texts)

-- ---- frames that name no ask

pub bare-frames-fit : BareFramesFit
bare-frames-fit w text letters bare few fits = raw-fits text w letters bare few fits

pub turns-fit : TurnsFit
turns-fit w x next fits = turned-fits x w next fits

-- ---- deliveries

pub deliveries-fit : DeliveriesFit
deliveries-fit w n fits = (
  fits-delivered_up replay AlwaysRoom IsNextIn IsNextTurn IsFit world_laws (first_value []) n w
      (room-always w.state (arriving n w.up)) fits,
  fits-delivered_down replay AlwaysRoom IsNextIn IsNextTurn IsFit world_laws (first_value []) n w fits,
)

pub settled-shows : SettledShows
settled-shows w fits =
    let w' = settled run_step w in
    let all : Fits w' = settled-fits w fits in
    let up_none : w'.up.flying ≡ [] = given-all w.up in
    let down_none : w'.down.flying ≡ [] = given-all (delivered_up run_step (length w.up.flying) w).down in
    let up_held : held w'.up ≡ [] = ap (λ bytes. (frames_of bytes).rest) (sym (sent-all w'.up up_none)) ∙ all.up_whole in
    let awaits : awaited w'.up ≡ [] = awaited-none w'.up up_none up_held in
    let given_fold : folded take_frame (asks_joined join (first_value []) (frames_of w'.up.given).whole) (frames_of w'.down.given).whole
    ≡ Ok all.front =
    ap (λ bytes. folded take_frame (asks_joined join (first_value []) (frames_of bytes).whole) (frames_of w'.down.given).whole)
    (sym (sent-all w'.up up_none))
    ∙ ap (λ bytes. folded take_frame (asks_joined join (first_value []) (frames_of (sent w'.up)).whole) (frames_of bytes).whole)
    (sym (sent-all w'.down down_none))
    ∙ all.is_fold in
    record {
      front = all.front;
      is_fold = given_fold;
      shows = all.fit.has;
      told = λ plain. replies-of (frames_of w'.up.given).whole (frames_of w'.down.given).whole all.front plain given_fold;
      pauses = pauses-of (frames_of w'.up.given).whole (frames_of w'.down.given).whole all.front given_fold;
      styles = all.fit.styles;
      waits = sym all.fit.asks ∙ ap asks_among awaits;
      whole = ap (λ bytes. (frames_of bytes).rest) (sym (sent-all w'.down down_none)) ∙ all.down_whole;
    }
