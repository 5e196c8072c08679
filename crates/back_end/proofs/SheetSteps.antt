-- Sheets come and go: what a client sees of them changes by moves.
use Rattle.std.proofs.Common.{◌≡◌, ℕ, ◌+◌, ◌^◌, ◌<◌, ◌≤◌, Bool, true, false, cond, ◌&&◌, ◌||◌, List, [], ◌∷◌, ◌++◌, length, None, refl, sym}
use Rattle.std.proofs.Common.{ap, ◌∙◌, subst, append-nil, append_assoc, arith}
use Rattle.std.specs.Prelude.{⊤}
use Rattle.node_tree.specs.Nodes.{Nodes, none}
use Rattle.node_tree.specs.Seen.{Seen}
use Rattle.cdp_json.specs.Kinds.{is_counted}
use Rattle.page_tree.specs.Pages.{PageValue}
use Rattle.node_binding.specs.Sessions.{Session, reset}
use Rattle.cdp_messages.specs.declared.down.ReplyBody.TheVariants.{Nothing}
use Rattle.client_views.specs.Views.{ShownSheet, View, text_units, shows_sheet, sheets_without}
use Rattle.client_views.specs.Moves.{Move as Told, clear as cleared, added, dropped, replied, sheets_off, CanBeTold, Moves, Course, ends}
use Rattle.client_views.specs.Moves.{goes}
use Rattle.css_agent.proofs.TellableStyles.{counted, units-few}
use Rattle.dom_agent.specs.Laws.{CanTellSheets, session_view as seen_by}
use Rattle.dom_agent.proofs.StepLemmas.{course-join}
use Rattle.page_forms.specs.Sheets.{max_sheet_bytes}
use Rattle.back_end.specs.Sheets.{SheetChange, leaves, comes, AreSheetsBelow}
use Rattle.shown_pages.specs.ShownPages.{shown_page}
use Rattle.back_end.specs.States.{State, page_shown, view_of, HoldsNow}
use Rattle.back_end.specs.Steps.{with_client, side_changed, sheet_move, sheet_step, sheet_steps, moves_gone, moves_come, css_on_step}
use Rattle.back_end.specs.Steps.{css_off_step}
use Rattle.back_end.proofs.SheetLemmas.{own-test, can-tell-sheets, below-front, below-tail, below-none, texts-of-back, FitsBeside}
use Rattle.back_end.proofs.SheetLemmas.{sheets-come, sheets-leave}
use Rattle.back_end.proofs.WellSteps.{Well, HasNumbers, told-with, told-view, stays, then-well, more}

-- a view of this tree and these sheets
abbrev seen : Nodes Seen → List ShownSheet → View
seen tree sheets = record { tree = tree; sheets = sheets }

-- with this tree any sheets that messages can tell can be told
abbrev TellsWith : Nodes Seen → Type 0
TellsWith tree = (sheets : List ShownSheet) → CanTellSheets sheets → CanBeTold (seen tree sheets)

units-counted : (text : List ℕ) → length text ≤ max_sheet_bytes → is_counted (text_units text) ≡ true
units-counted text short = let few = units-few text in counted (text_units text) (omega (arith, few, short))

-- ---- several sheets, one after the other

-- each comes
pub come-course : (tree : Nodes Seen) (next : ℕ) (front ss : List ShownSheet) → TellsWith tree → next ≤ 2 ^ 53
    → AreSheetsBelow next (front ++ ss)
    → Course (moves_come ss) (seen tree front) (seen tree (front ++ ss))
come-course tree next front [] told low is =
    let here : Course [] (seen tree front) (seen tree front) = ends (seen tree front)
    (told front (can-tell-sheets next front low (below-front next front [] is))) in
    subst (λ (sheets : List ShownSheet). Course [] (seen tree front) (seen tree sheets)) (sym (append-nil front)) here
come-course tree next front (s ∷ ss) told low is =
    let texts = texts-of-back next front (s ∷ ss) is in
    let joined : (front ++ s ∷ []) ++ ss ≡ front ++ s ∷ ss = append_assoc front (s ∷ []) ss in
    let here = told front (can-tell-sheets next front low (below-front next front (s ∷ ss) is)) in
    let later : Course (moves_come ss) (seen tree (front ++ s ∷ [])) (seen tree (front ++ s ∷ ss)) =
    subst (λ (sheets : List ShownSheet). Course (moves_come ss) (seen tree (front ++ s ∷ [])) (seen tree sheets)) joined
    (come-course tree next (front ++ s ∷ []) ss told low (subst (AreSheetsBelow next) (sym joined) is)) in
    goes (added s) (moves_come ss) (seen tree front) (seen tree (front ++ s ∷ [])) (seen tree (front ++ s ∷ ss)) here
    (refl, units-counted s.text texts.1) later

-- each goes
gone-course : (tree : Nodes Seen) (next : ℕ) (ss : List ShownSheet) → TellsWith tree → next ≤ 2 ^ 53 → AreSheetsBelow next ss
    → Course (moves_gone ss) (seen tree ss) (seen tree [])
gone-course tree next [] told low is = ends (seen tree []) (told [] (can-tell-sheets next [] low is))
gone-course tree next (s ∷ ss) told low is =
    let first : sheets_without s.number (s ∷ ss) ≡ ss = ap (λ (b : Bool). cond b ss (s ∷ sheets_without s.number ss)) (own-test s.number) in
    let shows : shows_sheet s.number (s ∷ ss) ≡ true = ap (λ (b : Bool). b || shows_sheet s.number ss) (own-test s.number) in
    goes (dropped s.number) (moves_gone ss) (seen tree (s ∷ ss)) (seen tree ss) (seen tree [])
    (told (s ∷ ss) (can-tell-sheets next (s ∷ ss) low is))
    (ap (seen tree) (sym first), shows) (gone-course tree next ss told low (below-tail next s ss is))

-- ---- one change

-- what is needed of a change
abbrev pub CanChange : SheetChange → List ShownSheet → Type 0
CanChange (leaves n) sheets = shows_sheet n sheets ≡ true
CanChange (comes origin text) sheets = FitsBeside text sheets

pub side-below : (c : SheetChange) (state : State) → AreSheetsBelow state.side.next_sheet state.side.sheets → CanChange c state.side.sheets
    → AreSheetsBelow (side_changed c state.side).next_sheet (side_changed c state.side).sheets
side-below (leaves n) state is can = sheets-leave state.side.next_sheet n state.side.sheets is
side-below (comes origin text) state is can = sheets-come state.side.next_sheet origin text state.side.sheets can is

change-moves : (c : SheetChange) (state : State) (tree : Nodes Seen) → CanChange c state.side.sheets
    → Moves (sheet_move c state.side) (seen tree state.side.sheets) (seen tree (side_changed c state.side).sheets)
change-moves (leaves n) state tree can = (refl, can)
change-moves (comes origin text) state tree can = (refl, units-counted text can.short)

page-kept : (c : SheetChange) (state : State) → (side_changed c state.side).page ≡ state.side.page
page-kept (leaves n) state = refl
page-kept (comes origin text) state = refl

pub change-is : (c : SheetChange) (state : State) → HoldsNow state → CanChange c state.side.sheets → HoldsNow (sheet_step c state).state
change-is (leaves n) state is can = record {
  page = is.page;
  texts = is.texts;
  sheets = side-below (leaves n) state is.sheets can;
  session = is.session;
  off = is.off;
  css_off = is.css_off;
  all_shown = is.all_shown;
  watched = is.watched;
  none_watched = is.none_watched;
}
change-is (comes origin text) state is can = record {
  page = is.page;
  texts = is.texts;
  sheets = side-below (comes origin text) state is.sheets can;
  session = is.session;
  off = is.off;
  css_off = is.css_off;
  all_shown = is.all_shown;
  watched = is.watched;
  none_watched = is.none_watched;
}

change-few : (c : SheetChange) (state : State) → (side_changed c state.side).next_sheet ≤ state.side.next_sheet + 1
change-few (leaves n) state = omega arith
change-few (comes origin text) state = omega arith

-- a change while the domain is on, and while it is off
pub change-course : (w : Session) (page : PageValue) (old new : List ShownSheet) (m : Told) (on : Bool)
    → ((sheets : List ShownSheet) → CanTellSheets sheets → CanBeTold (seen_by w page sheets)) → CanTellSheets old → CanTellSheets new
    → CanTellSheets []
    → ((tree : Nodes Seen) → Moves m (seen tree old) (seen tree new))
    → Course (cond on (m ∷ []) []) (seen_by w page (cond on old [])) (seen_by w page (cond on new []))
change-course w page old new m true told can later nothing moves =
    goes m [] (seen_by w page old) (seen_by w page new) (seen_by w page new) (told old can) (moves _)
    (ends (seen_by w page new) (told new later))
change-course w page old new m false told can later nothing moves = ends (seen_by w page []) (told [] nothing)

pub change-well : (c : SheetChange) (state : State) → HoldsNow state → HasNumbers state → state.side.next_sheet < 2 ^ 52
    → CanChange c state.side.sheets → Well state (sheet_step c state) 0 0 1
change-well c state is low room can =
    let few = change-few c state in
    let later : AreSheetsBelow (side_changed c state.side).next_sheet
    (side_changed c state.side).sheets = side-below c state is.sheets can in
    let old_can = can-tell-sheets state.side.next_sheet state.side.sheets (omega (arith, low.sheets)) is.sheets in
    let new_can = can-tell-sheets (side_changed c state.side).next_sheet (side_changed c state.side).sheets
    (omega (arith, few, room)) later in
    let nothing = can-tell-sheets state.side.next_sheet [] (omega (arith, low.sheets))
    (below-none state.side.next_sheet state.side.sheets is.sheets) in
    let same = page-kept c state in
    let course : Course (cond state.client.css_on (sheet_move c state.side ∷ []) []) (view_of state)
    (seen_by state.client.session (page_shown state) (cond state.client.css_on (side_changed c state.side).sheets [])) =
    change-course state.client.session (page_shown state) state.side.sheets (side_changed c state.side).sheets
    (sheet_move c state.side) state.client.css_on
    (λ sheets k. told-with state sheets is low k) old_can new_can nothing (λ tree. change-moves c state tree can) in
    record {
      now = change-is c state is can;
      course = subst (λ (page : PageValue). Course (cond state.client.css_on (sheet_move c state.side ∷ []) []) (view_of state)
          (seen_by state.client.session (shown_page state.client.mode page)
          (cond state.client.css_on (side_changed c state.side).sheets [])))
          (sym same) course;
      few_ids = omega arith;
      few_serials = omega (arith, ap (λ (page : PageValue). page.next) same);
      few_sheets = few;
      given = refl;
    }

-- ---- several changes

-- each can be made where the ones before it were
abbrev pub CanChangeAll : List SheetChange → State → Type 0
CanChangeAll [] state = ⊤
CanChangeAll (c ∷ cs) state = CanChange c state.side.sheets × CanChangeAll cs (sheet_step c state).state

ids-kept : (c : SheetChange) (state : State) → (sheet_step c state).state.client ≡ state.client
ids-kept c state = refl

pub changes-well : (cs : List SheetChange) (state : State) → HoldsNow state → HasNumbers state → state.side.next_sheet + length cs < 2 ^ 52
    → CanChangeAll cs state
    → Well state (sheet_steps cs state) 0 0 (length cs)
changes-well [] state is low room can = stays state is low
changes-well (c ∷ cs) state is low room can =
    let first : Well state (sheet_step c state) 0 0 1 = change-well c state is low (omega (arith, room)) can.0 in
    let next : HasNumbers (sheet_step c state).state = record {
      ids = omega (arith, low.ids, first.few_ids);
      serials = omega (arith, low.serials, first.few_serials);
      sheets = omega (arith, first.few_sheets, room);
    } in
    more (omega arith) (omega arith) (omega arith)
    (then-well first (changes-well cs (sheet_step c state).state first.now next (omega (arith, first.few_sheets, room)) can.1))

-- ---- a load

-- what is seen by a client to whom nothing is known
abbrev nothing_seen : List ShownSheet → View
nothing_seen sheets = seen none sheets

pub load-course : (w z : Session) (page new_page : PageValue) (old new : List ShownSheet) (next last : ℕ) (on css : Bool)
    → ((sheets : List ShownSheet) → CanTellSheets sheets → CanBeTold (seen_by w page sheets)) → TellsWith none
    → next ≤ 2 ^ 53 → last ≤ 2 ^ 53 → AreSheetsBelow next old → AreSheetsBelow last new
    → (on ≡ false → w.opened ≡ None) → (on ≡ false → css ≡ false)
    → Course (cond on (cleared ∷ []) [] ++ cond css (moves_gone old ++ moves_come new) []) (seen_by w page (cond css old []))
    (seen_by (reset z) new_page (cond (css && on) new []))
load-course w z page new_page old new next last true true told empty low lower is later off css_off =
    goes cleared (moves_gone old ++ moves_come new) (seen_by w page old) (nothing_seen old) (nothing_seen new)
    (told old (can-tell-sheets next old low is)) refl
    (course-join (gone-course none next old empty low is) (come-course none last [] new empty lower later))
load-course w z page new_page old new next last true false told empty low lower is later off css_off =
    let can = can-tell-sheets next [] low (below-none next old is) in
    goes cleared [] (seen_by w page []) (nothing_seen []) (nothing_seen []) (told [] can) refl (ends (nothing_seen []) (empty [] can))
load-course w z page new_page old new next last false true told empty low lower is later off css_off = absurd (no (css_off refl)) where
  no : true ≡ false → ⊥
  no e = cc
load-course w z page new_page old new next last false false told empty low lower is later off css_off =
    let can = can-tell-sheets next [] low (below-none next old is) in
    let same : seen_by w page [] ≡ nothing_seen [] = unseen w (off refl) in
    subst (λ (v : View). Course [] v (nothing_seen [])) (sym same) (ends (nothing_seen []) (empty [] can))
  where
    unseen : (w : Session) → w.opened ≡ None → seen_by w page [] ≡ nothing_seen []
    unseen w h = rw h refl

-- ---- the domain comes on, and goes off

pub css-on-is : (state : State) → HoldsNow state → state.client.dom_on ≡ true
    → HoldsNow (with_client (record state.client { css_on = true }) state)
css-on-is state is on = record {
  page = is.page;
  texts = is.texts;
  sheets = is.sheets;
  session = is.session;
  off = is.off;
  css_off = λ h. absurd (no (sym on ∙ h));
  all_shown = is.all_shown;
  watched = is.watched;
  none_watched = is.none_watched;
}
  where
    no : true ≡ false → ⊥
    no e = cc

on-course : (w : Session) (page : PageValue) (sheets : List ShownSheet) (next id : ℕ) (css : Bool)
    → ((ss : List ShownSheet) → CanTellSheets ss → CanBeTold (seen_by w page ss))
    → next ≤ 2 ^ 53 → AreSheetsBelow next sheets → is_counted id ≡ true
    → Course (cond css [] (moves_come sheets) ++ replied id Nothing ∷ []) (seen_by w page (cond css sheets [])) (seen_by w page sheets)
on-course w page sheets next id css told low is small = at css where
  can : CanBeTold (seen_by w page sheets)
  can = told sheets (can-tell-sheets next sheets low is)

  last : Course (replied id Nothing ∷ []) (seen_by w page sheets) (seen_by w page sheets)
  last = goes (replied id Nothing) [] (seen_by w page sheets) (seen_by w page sheets) (seen_by w page sheets) can
      (refl, record { id_fits = small; plain = refl; fits = refl; texts = tt; levels = omega arith }) (ends (seen_by w page sheets) can)

  at : (css : Bool) → Course (cond css [] (moves_come sheets) ++ replied id Nothing ∷ []) (seen_by w page (cond css sheets []))
      (seen_by w page sheets)
  at true = last
  at false = course-join (come-course _ next [] sheets told low is) last

pub css-on-well : (id : ℕ) (state : State) → HoldsNow state → HasNumbers state → state.client.dom_on ≡ true → is_counted id ≡ true
    → Well state (css_on_step id state) 0 0 0
css-on-well id state is low on small = record {
  now = css-on-is state is on;
  course = on-course state.client.session (page_shown state) state.side.sheets state.side.next_sheet id state.client.css_on
      (λ ss k. told-with state ss is low k) (omega (arith, low.sheets)) is.sheets small;
  few_ids = omega arith;
  few_serials = omega arith;
  few_sheets = omega arith;
  given = refl;
}

pub css-off-is : (state : State) → HoldsNow state → HoldsNow (with_client (record state.client { css_on = false }) state)
css-off-is state is = record {
  page = is.page;
  texts = is.texts;
  sheets = is.sheets;
  session = is.session;
  off = is.off;
  css_off = λ h. refl;
  all_shown = is.all_shown;
  watched = is.watched;
  none_watched = is.none_watched;
}

pub css-off-well : (id : ℕ) (state : State) → HoldsNow state → HasNumbers state → is_counted id ≡ true
    → Well state (css_off_step id state) 0 0 0
css-off-well id state is low small =
    let after : State = with_client (record state.client { css_on = false }) state in
    let none_can = can-tell-sheets state.side.next_sheet [] (omega (arith, low.sheets))
    (below-none state.side.next_sheet state.side.sheets is.sheets) in
    record {
      now = css-off-is state is;
      course = goes (sheets_off id) [] (view_of state) (view_of after) (view_of after) (told-view state is low) (refl, small)
          (ends (view_of after) (told-with state [] is low none_can));
      few_ids = omega arith;
      few_serials = omega arith;
      few_sheets = omega arith;
      given = refl;
    }
