-- A step is well: what holds of a state at each moment holds after it, its moves lead from the view before to the view after, and it draws
-- few numbers.
use Rattle.std.proofs.Common.{◌≡◌, ℕ, ◌+◌, ◌^◌, ◌<◌, ◌≤◌, Bool, true, false, cond, List, [], ◌∷◌, ◌++◌, length, refl, ◌∙◌, arith}
use Rattle.cdp_json.specs.Kinds.{is_counted}
use Rattle.node_tree.specs.Nodes.{node_count}
use Rattle.node_binding.proofs.StartLemmas.{count-alone}
use Rattle.client_views.specs.Views.{ShownSheet}
use Rattle.cdp_messages.specs.declared.down.ReplyBody.TheVariants.{Nothing}
use Rattle.client_views.specs.Moves.{Move as Told, replied, CanBeTold, Moves, Course, ends, goes}
use Rattle.dom_agent.specs.Laws.{CanTell, CanTellSheets, session_view as seen_by}
use Rattle.dom_agent.proofs.StepLemmas.{course-join}
use Rattle.dom_agent.proofs.TellableLemmas.{can_say}
use Rattle.back_end.specs.Sheets.{AreSheetsBelow}
use Rattle.undo_marks.specs.Marks.{Marks}
use Rattle.undo_marks.specs.Changes.{HistoryEntry as Entry}
use Rattle.undo_marks.specs.Saved.{Saved}
use Rattle.undo_marks.specs.declared.inverse_lists.Inverse.{Inverse}
use Rattle.page_tree.specs.Pages.{IsValid}
use Rattle.shown_pages.proofs.ShownTrees.{shown-valid}
use Rattle.dom_agent.proofs.ModeLemmas.{shown_can_be_told}
use Rattle.back_end.specs.States.{State, page_nodes, page_shown, sheets_shown, view_of, HoldsNow}
use Rattle.back_end.specs.Steps.{Step, with_marks, answering}
use Rattle.back_end.specs.Laws.{HasRoom}
use Rattle.back_end.proofs.SheetLemmas.{can-tell-sheets, below-none}

-- a step that draws at most so many ids, serials and numbers of sheets, and no number of a search
pub record Well (before : State) (done : Step) (ids serials sheets : ℕ) : Type 0 where
  pub now : HoldsNow done.state
  pub course : Course done.moves (view_of before) (view_of done.state)
  pub few_ids : length done.state.client.session.pushed ≤ length before.client.session.pushed + ids
  pub few_serials : done.state.side.page.next ≤ before.side.page.next + serials
  pub few_sheets : done.state.side.next_sheet ≤ before.side.next_sheet + sheets
  pub given : done.state.client.searches.given ≡ before.client.searches.given

-- numbers are left for messages
pub record HasNumbers (state : State) : Type 0 where
  pub ids : length state.client.session.pushed < 2 ^ 52
  pub serials : state.side.page.next ≤ 2 ^ 52
  pub sheets : state.side.next_sheet ≤ 2 ^ 52

pub room-numbers : (state : State) → HasRoom state → HasNumbers state
room-numbers state room = record {
  ids = omega (arith, room.ids);
  serials = omega (arith, room.serials);
  sheets = omega (arith, room.sheets);
}

-- ---- what can be told of a state

shown-below : (state : State) → HoldsNow state → AreSheetsBelow state.side.next_sheet (sheets_shown state)
shown-below state is = at state.client.css_on where
  at : (b : Bool) → AreSheetsBelow state.side.next_sheet (cond b state.side.sheets [])
  at true = is.sheets
  at false = below-none state.side.next_sheet state.side.sheets is.sheets

pub can-sheets : (state : State) → HoldsNow state → HasNumbers state → CanTellSheets (sheets_shown state)
can-sheets state is low = can-tell-sheets state.side.next_sheet (sheets_shown state) (omega (arith, low.sheets)) (shown-below state is)

-- the page as it is shown is a valid one
pub valid-shown : (state : State) → HoldsNow state → IsValid (page_shown state)
valid-shown state is = shown-valid state.client.mode state.side.page is.page

pub can-tell : (state : State) → HoldsNow state → HasNumbers state → CanTell (page_shown state) state.client.session
can-tell state is low =
    let few : node_count (page_nodes state) ≤ 100000 = count-alone state.side.page is.page in
    shown_can_be_told state.client.mode state.side.page state.client.session
    (record { serials = omega (arith, low.serials); ids = omega (arith, low.ids, few); texts = is.texts })

-- the page as it is shown, with any sheets
pub told-with : (state : State) (sheets : List ShownSheet) → HoldsNow state → HasNumbers state → CanTellSheets sheets
    → CanBeTold (seen_by state.client.session (page_shown state) sheets)
told-with state sheets is low can =
    can_say (page_shown state) state.client.session sheets (valid-shown state is) (can-tell state is low) can state.client.session
    is.session (omega arith)

pub told-view : (state : State) → HoldsNow state → HasNumbers state → CanBeTold (view_of state)
told-view state is low = told-with state (sheets_shown state) is low (can-sheets state is low)

-- ---- steps

-- nothing changes, and nothing is told
pub stays : (state : State) → HoldsNow state → HasNumbers state → Well state (record { state = state; moves = [] }) 0 0 0
stays state is low = record {
  now = is;
  course = ends (view_of state) (told-view state is low);
  few_ids = omega arith;
  few_serials = omega arith;
  few_sheets = omega arith;
  given = refl;
}

-- nothing changes, and a move is told that says so
pub stays-with : (m : Told) (state : State) → HoldsNow state → HasNumbers state → Moves m (view_of state) (view_of state)
    → Well state (record { state = state; moves = m ∷ [] }) 0 0 0
stays-with m state is low moves =
    let told = told-view state is low in
    record {
      now = is;
      course = goes m [] (view_of state) (view_of state) (view_of state) told moves (ends (view_of state) told);
      few_ids = omega arith;
      few_serials = omega arith;
      few_sheets = omega arith;
      given = refl;
    }

-- a step, and then another
pub then-well : {before : State} {first later : Step} {i s n j t m : ℕ} → Well before first i s n → Well first.state later j t m
    → Well before (record { state = later.state; moves = first.moves ++ later.moves }) (i + j) (s + t) (n + m)
then-well first later = record {
  now = later.now;
  course = course-join first.course later.course;
  few_ids = omega (arith, first.few_ids, later.few_ids);
  few_serials = omega (arith, first.few_serials, later.few_serials);
  few_sheets = omega (arith, first.few_sheets, later.few_sheets);
  given = later.given ∙ first.given;
}

pub more : {before : State} {done : Step} {i s n j t m : ℕ} → i ≤ j → s ≤ t → n ≤ m → Well before done i s n → Well before done j t m
more ids serials sheets well = record {
  now = well.now;
  course = well.course;
  few_ids = omega (arith, well.few_ids, ids);
  few_serials = omega (arith, well.few_serials, serials);
  few_sheets = omega (arith, well.few_sheets, sheets);
  given = well.given;
}

-- with another history all is as it was
pub now-marked : (marks : Marks (Entry Saved Inverse)) (state : State) → HoldsNow state → HoldsNow (with_marks marks state)
now-marked marks state is = record {
  page = is.page;
  texts = is.texts;
  sheets = is.sheets;
  session = is.session;
  off = is.off;
  css_off = is.css_off;
  all_shown = is.all_shown;
  watched = is.watched;
  none_watched = is.none_watched;
}

-- the same of a step
pub well-marked : {before : State} {done : Step} {ids serials sheets : ℕ} (marks : Marks (Entry Saved Inverse))
    → Well before done ids serials sheets
    → Well before (record { state = with_marks marks done.state; moves = done.moves }) ids serials sheets
well-marked {done = done} marks well = record {
  now = now-marked marks done.state well.now;
  course = well.course;
  few_ids = well.few_ids;
  few_serials = well.few_serials;
  few_sheets = well.few_sheets;
  given = well.given;
}

-- a step, and then the empty result
pub well-answered : {before : State} {done : Step} {ids serials sheets : ℕ} (id : ℕ) → is_counted id ≡ true → HasNumbers done.state
    → Well before done ids serials sheets
    → Well before (answering id done) ids serials sheets
well-answered {done = done} id small low well =
    more (omega arith) (omega arith) (omega arith)
    (then-well well (stays-with (replied id Nothing) done.state well.now low
    (refl, record { id_fits = small; plain = refl; fits = refl; texts = tt; levels = omega arith })))
