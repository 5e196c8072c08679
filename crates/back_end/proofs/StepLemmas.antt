-- What a script does: its step is well.
use Rattle.std.proofs.Common.{◌≡◌, ℕ, suc, ◌+◌, ◌*◌, ◌^◌, ◌<◌, ◌≤◌, Bool, true, false, not, ◌&&◌, cond, nat_le, List, [], ◌∷◌, length}
use Rattle.std.proofs.Common.{Option, Some, None, refl, sym, ◌∙◌, ap, subst, arith}
use Rattle.std.specs.Prelude.{⊤, option_map}
use Rattle.std.specs.FinSet as set
use Rattle.std.specs.Ordering.{nat_cmp}
use Rattle.std.specs.Cmp.{nat_cmp_total}
use Rattle.std.specs.Str.{IsUtf8}
use Rattle.std.proofs.lemmas.Bool.{leb-true}
use Rattle.std.proofs.lemmas.Str.{IsUtf8-nil}
use Rattle.node_tree.specs.Nodes.{none, Branch, alone, node_count, branch_count}
use Rattle.node_tree.specs.Labels.{Label}
use Rattle.page_tree.specs.Pages.{PageRow, row_serial, PageValue, IsValid, node_at}
use Rattle.page_tree.specs.Edits.{after, drawn}
use Rattle.page_tree.specs.EditFaults.{CanApply, CanApplyAll, attach_faults, insert_fault}
use Rattle.page_tree.specs.declared.edits.TreeEdit.{TreeEdit}
use Rattle.page_tree.specs.declared.edits.TreeEdit.TheVariants as edit
use Rattle.page_tree.specs.declared.edit_faults.EditFault.{EditFault}
use Rattle.page_forms.specs.declared.acts.Act.{Act}
use Rattle.page_forms.specs.declared.acts.Act.TheVariants.{SetAttr, DropAttr, SetText, Insert, Remove, Move, AddSheet, DropSheet}
use Rattle.page_forms.specs.declared.acts.Act.TheVariants.{ReplaceSheet, Medium as SetMedium}
use Rattle.page_forms.specs.Acts.{IsInsertable}
use Rattle.page_forms.specs.Pages.{LoadedPage, CanLoadPage}
use Rattle.page_tree.proofs.EditLemmas.{valid-after, clear}
use Rattle.page_tree.proofs.InsertLemmas.{next-stays, insert-leads}
use Rattle.page_tree.proofs.MoveLemmas.{move-leads}
use Rattle.page_tree.proofs.NumberLemmas.{loaded_valid}
use Rattle.page_tree.proofs.WholeLemmas.{whole-valid}
use Rattle.node_tree.proofs.KeyLemmas.{tally_row}
use Rattle.node_binding.specs.Sessions.{Session, IsSession, is_open}
use Rattle.node_binding.specs.Openings.{opened_without}
use Rattle.node_binding.proofs.SessionLemmas.{IsSession-reset}
use Rattle.node_binding.proofs.StartLemmas.{count-alone}
use Rattle.sheet_reader.specs.declared.book.SheetEntry.{SheetEntry}
use Rattle.sheet_reader.specs.Books.{removed}
use Rattle.style_edits.specs.declared.faults.SheetFault.TheVariants.{TooBig}
use Rattle.style_edits.specs.Edits.{is_too_big}
use Rattle.client_views.specs.Views.{ShownSheet, sheets_without}
use Rattle.client_views.specs.Moves.{CanBeTold, Course, ends}
use Rattle.css_agent.specs.Asks.{sheet_named}
use Rattle.dom_agent.specs.Laws.{CanTell, CanTellSheets, RowsHaveUtf8, session_view as seen_by}
use Rattle.shown_pages.specs.declared.modes.Mode.{Mode}
use Rattle.shown_pages.specs.declared.modes.Mode.TheVariants.{All}
use Rattle.shown_pages.specs.declared.sights.TextSight.{TextSight}
use Rattle.shown_pages.specs.declared.sights.TextSight.TheVariants.{Unseen, Comes, Goes, Stays}
use Rattle.shown_pages.specs.ShownPages.{shown_branch, shown_page}
use Rattle.shown_pages.specs.ShownEdits.{sight_at, shown_edit}
use Rattle.dom_agent.specs.EditLaws.{session_edited}
use Rattle.dom_agent.specs.ModeEdits.{edited_if, shown_session_edited}
use Rattle.dom_agent.proofs.ModeLemmas.{shown_edit_keeps_session, shown_edits_are_moves, shown_edit_draws_one, shown_can_be_told}
use Rattle.dom_breakpoints.specs.Pauses.{pause_of}
use Rattle.dom_breakpoints.specs.Watched.{unwatched, is_within, outside, without_subtree}
use Rattle.undo_marks.specs.Marks.{crossed_over}
use Rattle.back_end.specs.declared.faults.ActFault.{ActFault}
use Rattle.back_end.specs.declared.faults.ActFault.TheVariants.{Sheet}
use Rattle.back_end.specs.Sheets.{as_book, AreSheetsBelow}
use Rattle.media_rules.specs.declared.medium.Medium.{Medium}
use Rattle.back_end.specs.Steps.{idle, on_medium}
use Rattle.back_end.specs.States.{Side, Client, State, page_shown, book_in, sheets_shown, view_of, loaded_side, AreAmong, HoldsNow}
use Rattle.back_end.specs.States.{HasHistory, IsState}
use Rattle.back_end.specs.Plans.{Plan, Deed, edits, restyles, shows_on, edit_fault, size_fault, drop_fault, replace_fault, dropping}
use Rattle.back_end.specs.Plans.{replacing}
use Rattle.back_end.specs.Plans.{act_fault, act_plan}
use Rattle.back_end.specs.Steps.{Step, with_page, watches_of_text, watched_after, edit_step, pause_step, script_step, script_steps}
use Rattle.back_end.specs.Steps.{with_crossed, crossing}
use Rattle.back_end.specs.Steps.{deed_step, sheet_steps, planned_step, act_step, client_reset, load_step, Turn, acts, loads, turn_step}
use Rattle.back_end.specs.Texts.{PageHasTexts, ActHasTexts, EditHasTexts}
use Rattle.back_end.specs.Laws.{HasRoom, StepsWell, KeepsAtMost, IsTurn}
use Rattle.back_end.proofs.TextLemmas.{node_at-texts, after-texts, numbered-texts, branch-texts}
use Rattle.back_end.proofs.SheetLemmas.{ascend-order, sheets-loaded, sheets-few, book-without, named-is, fits-beside}
use Rattle.back_end.proofs.SheetSteps.{CanChangeAll, changes-well, load-course}
use Rattle.back_end.proofs.PushSteps.{not-begun, begun-shown}
use Rattle.back_end.proofs.WatchedLemmas.{none-set, among-shown}
use Rattle.back_end.proofs.PauseSteps.{Pauses, edit-pauses}
use Rattle.back_end.proofs.WellSteps.{Well, HasNumbers, room-numbers, can-sheets, can-tell, told-view, told-with, now-marked, stays}
use Rattle.back_end.proofs.WellSteps.{then-well, more}
use Rattle.back_end.proofs.KeptSteps.{Recalls, recalls-same, recalls-none, recalls-crossed, steps-well}

-- ---- one edit

at-none : (o : Option (ℕ → Bool)) (s : ℕ) → o ≡ None → is_open o s ≡ false
at-none o s h = ap (λ o. is_open o s) h

-- where nothing is known, nothing becomes known
edited-off : (e : TreeEdit) (page : PageValue) (w : Session) → w.opened ≡ None → (session_edited e page w).state.opened ≡ None
edited-off (edit.SetAttr serial name value) page w h = h
edited-off (edit.DropAttr serial name) page w h = h
edited-off (edit.SetText serial value) page w h = h
edited-off (edit.Attach parent before x) page w h = rw (at-none w.opened parent h) h
edited-off (edit.Detach serial) page w h = ap (option_map (opened_without (node_at serial page.tree))) h

-- of no serials none are left
no-serials : (root : ℕ) (tree : Branch PageRow) → outside root tree set.empty ≡ set.empty
no-serials root tree =
    set.same_set nat_cmp_total set.nat_cmp-IsAntisymmetric (outside root tree set.empty) set.empty
    (λ q. set.contains-retain set.empty (λ serial. not (is_within serial root tree)) q
    (λ x e. ap (λ s. not (is_within s root tree)) (sym (set.nat_cmp-IsAntisymmetric q x e)))
    ∙ ap (λ b. b && not (is_within q root tree)) (set.contains-empty nat_cmp q) ∙ sym (set.contains-empty nat_cmp q))

none-left : (root : ℕ) (tree : Branch PageRow) → without_subtree root tree unwatched ≡ unwatched
none-left root tree = λ i. record { subtree = no-serials root tree i; attribute = no-serials root tree i; removed = no-serials root tree i }

-- the same of an edit of the page as it is shown
shown-off : (o : Option TreeEdit) (page : PageValue) (w : Session) → w.opened ≡ None
    → (edited_if (λ f. session_edited f page) o w).state.opened ≡ None
shown-off None page w h = h
shown-off (Some e) page w h = edited-off e page w h

-- where nothing is opened after an edit, nothing was
none-before : (mode : Mode) (e : TreeEdit) (page : PageValue) (w : Session) → (shown_session_edited mode e page w).state.opened ≡ None
    → w.opened ≡ None
none-before mode e page w h = at w.opened refl where
  at : (o : Option (ℕ → Bool)) → w.opened ≡ o → w.opened ≡ None
  at None is = is
  at (Some o) is = not-begun (shown_session_edited mode e page w).state (begun-shown mode e page w (o, is)) h

-- no watch is set after an edit, where none was
unwatched-after : (e : TreeEdit) (state : State) → state.client.watched ≡ unwatched → watched_after e state ≡ unwatched
unwatched-after (edit.SetAttr serial name value) state h = h
unwatched-after (edit.DropAttr serial name) state h = h
unwatched-after (edit.SetText serial value) state h = at (sight_at state.client.mode serial value state.side.page.tree) where
  at : (t : TextSight) → watches_of_text t serial state.side.page.tree state.client.watched ≡ unwatched
  at Unseen = h
  at Comes = h
  at Goes = ap (without_subtree serial state.side.page.tree) h ∙ none-left serial state.side.page.tree
  at Stays = h
unwatched-after (edit.Attach parent before x) state h = h
unwatched-after (edit.Detach serial) state h = ap (without_subtree serial state.side.page.tree) h ∙ none-left serial state.side.page.tree

-- what holds after an edit
pub edit-is : (state : State) (e : TreeEdit) → HoldsNow state → CanApply state.side.page.next e state.side.page.tree → EditHasTexts e
    → HoldsNow (edit_step e state).state
edit-is state e is can texts =
    let mode = state.client.mode in
    let page = state.side.page in
    let w = state.client.session in
    record {
      page = valid-after page e is.page can;
      texts = after-texts e page.tree texts is.texts;
      sheets = is.sheets;
      session = shown_edit_keeps_session mode page e w is.page can is.session;
      off = λ h. shown-off (shown_edit mode e page.tree) (shown_page mode page) w (is.off h);
      css_off = is.css_off;
      all_shown = is.all_shown;
      watched = among-shown e state is.page can is.watched;
      none_watched = λ h. unwatched-after e state (is.none_watched (none-before mode e page w h));
    }

pub edit-well : (state : State) (e : TreeEdit) → HoldsNow state → HasNumbers state → suc (length state.client.session.pushed) < 2 ^ 52
    → CanApply state.side.page.next e state.side.page.tree → EditHasTexts e → Well state (edit_step e state) 1 0 0
edit-well state e is low ids can texts =
    let mode = state.client.mode in
    let page = state.side.page in
    let w = state.client.session in
    let z = (shown_session_edited mode e page w).state in
    let next : (after e page).next ≡ page.next = next-stays page e can in
    let few : length z.pushed ≤ length w.pushed + 1 = shown_edit_draws_one mode page e w in
    let done : HoldsNow (edit_step e state).state = edit-is state e is can texts in
    let count : node_count (alone (after e page).tree) ≤ 100000 = count-alone (after e page) done.page in
    let later : CanTell (after e page) z = record {
      serials = omega (arith, next, low.serials);
      ids = omega (arith, few, count, ids);
      texts = done.texts;
    } in
    let later_shown : CanTell (shown_page mode (after e page)) z = shown_can_be_told mode (after e page) z later in
    record {
      now = done;
      course = shown_edits_are_moves mode page e w (sheets_shown state) is.page can is.session (can-tell state is low) later_shown
          (can-sheets state is low);
      few_ids = few;
      few_serials = omega (arith, next);
      few_sheets = omega arith;
      given = refl;
    }

-- ---- edits, one after the other

-- the texts of each edit are UTF-8
abbrev pub EditsHaveTexts : List TreeEdit → Type 0
EditsHaveTexts [] = ⊤
EditsHaveTexts (e ∷ es) = EditHasTexts e × EditsHaveTexts es

-- an edit by a script: a pause, where it comes to one, and then the edit
pub script-well : (state : State) (e : TreeEdit) → HoldsNow state → HasNumbers state → length state.client.session.pushed + 200001 < 2 ^ 52
    → CanApply state.side.page.next e state.side.page.tree → EditHasTexts e
    → Well state (script_step e state) 200001 0 0 × ((script_step e state).state.side.page ≡ after e state.side.page)
script-well state e is low ids can texts =
    let paused : Step = pause_step (pause_of state.client.watched state.side.page.tree e) state in
    let p : Pauses state paused = edit-pauses state e is low (omega (arith, ids)) can in
    let well : Well state paused 200000 0 0 = p.well in
    let next : HasNumbers paused.state = record {
      ids = omega (arith, ids, well.few_ids);
      serials = omega (arith, low.serials, well.few_serials);
      sheets = omega (arith, low.sheets, well.few_sheets);
    } in
    let still : CanApply paused.state.side.page.next e paused.state.side.page.tree = subst
    (λ (side : Side). CanApply side.page.next e side.page.tree) (sym p.side) can in (
      more (omega arith) (omega arith) (omega arith)
          (then-well well (edit-well paused.state e well.now next (omega (arith, ids, well.few_ids)) still texts)),
      ap (λ (side : Side). after e side.page) p.side,
    )

scripts-well : (es : List TreeEdit) (state : State) → HoldsNow state → HasNumbers state
    → 200001 * length es + length state.client.session.pushed < 2 ^ 52
    → CanApplyAll es state.side.page → EditsHaveTexts es → Well state (script_steps es state) (200001 * length es) 0 0
scripts-well [] state is low ids can texts = more (omega arith) (omega arith) (omega arith) (stays state is low)
scripts-well (e ∷ es) state is low ids can texts =
    let one = script-well state e is low (omega (arith, ids)) can.0 texts.0 in
    let first : Well state (script_step e state) 200001 0 0 = one.0 in
    let next : HasNumbers (script_step e state).state = record {
      ids = omega (arith, ids, first.few_ids);
      serials = omega (arith, low.serials, first.few_serials);
      sheets = omega (arith, low.sheets, first.few_sheets);
    } in
    let rest : CanApplyAll es (script_step e state).state.side.page = subst (CanApplyAll es) (sym one.1) can.1 in
    more (omega arith) (omega arith) (omega arith)
    (then-well first (scripts-well es (script_step e state).state first.now next (omega (arith, ids, first.few_ids)) rest texts.1))

-- ---- acts

-- a page whose next serial has gone on
pub drawn-valid : (form : Branch Label) (page : PageValue) → IsValid page → IsValid (drawn form page)
drawn-valid form page valid = record {
  root = valid.root;
  nodes = valid.nodes;
  distinct = valid.distinct;
  least = valid.least;
  below_next = λ serial some. let below : serial < page.next = valid.below_next serial some in omega (arith, below);
}

-- what a plan begins with, and that its edits are taken
pub record Planned (state : State) (plan : Plan) : Type 0 where
  pub page : IsValid plan.page
  pub same : plan.page.tree ≡ state.side.page.tree
  pub low : state.side.page.next ≤ plan.page.next
  pub serials : plan.page.next ≤ state.side.page.next + 100000
  pub taken : CanApplyAll plan.edits plan.page
  pub texts : EditsHaveTexts plan.edits
  pub short : length plan.edits ≤ 2

-- an edit alone
pub planned-edit : (state : State) (e : TreeEdit) → HoldsNow state → CanApply state.side.page.next e state.side.page.tree → EditHasTexts e
    → Planned state (record { page = state.side.page; edits = e ∷ [] })
planned-edit state e is can texts = record {
  page = is.page;
  same = refl;
  low = omega arith;
  serials = omega arith;
  taken = (can, tt);
  texts = (texts, tt);
  short = omega arith;
}

-- the new nodes of an insert are few
room-is : (a b : ℕ) → nat_le (a + b) 100000 ≡ true → b ≤ 100000
room-is a b h = let low : a + b ≤ 100000 = leb-true (a + b) 100000 h in omega (arith, low)

form-few : (state : State) (parent before : ℕ) (form : Branch Label) → insert_fault parent before form state.side.page.tree ≡ None
    → branch_count form ≤ 100000
form-few state parent before form h =
    let all = clear (attach_faults parent before form state.side.page.tree) h in
    room-is (branch_count state.side.page.tree) (branch_count form) (negated _ all.1.1.1.0)
  where
    negated : (b : Bool) → not b ≡ false → b ≡ true
    negated true e = refl
    negated false e = absurd cc

-- what an act's deed begins with, and that what it comes to can be done
abbrev CanDo : Deed → State → Type 0
CanDo (edits plan) state = Planned state plan
CanDo (restyles changes) state = CanChangeAll changes state × (length changes ≤ 2)
CanDo (shows_on medium) state = ⊤

unmapped : (o : Option EditFault) → edit_fault o ≡ None → o ≡ None
unmapped None e = refl
unmapped (Some f) e = absurd cc

fits-size : (text : List ℕ) (book : List SheetEntry) → size_fault text book ≡ None → is_too_big text book ≡ false
fits-size text book e = at (is_too_big text book) e where
  at : (b : Bool) → cond b (Some (Sheet TooBig)) None ≡ None → b ≡ false
  at true e = absurd cc
  at false e = refl

-- a sheet that is there goes
drops-can : (sheet : List ℕ) (state : State) (o : Option SheetEntry) → sheet_named sheet (book_in state) ≡ o → drop_fault o ≡ None
    → CanChangeAll (dropping o) state × (length (dropping o) ≤ 2)
drops-can sheet state None e fits = absurd cc
drops-can sheet state (Some x) e fits = (((named-is sheet state.side.sheets x e).shows, tt), omega arith)

-- and another comes in its place
replaces-can : (sheet text : List ℕ) (state : State) (o : Option SheetEntry) → IsUtf8 text → sheet_named sheet (book_in state) ≡ o
    → replace_fault text (book_in state) o ≡ None
    → CanChangeAll (replacing text o) state × (length (replacing text o) ≤ 2)
replaces-can sheet text state None utf8 e fits = absurd cc
replaces-can sheet text state (Some x) utf8 e fits =
    let rest : is_too_big text (as_book (sheets_without x.id state.side.sheets)) ≡ false =
    subst (λ (book : List SheetEntry). is_too_big text book ≡ false) (book-without x.id state.side.sheets)
    (fits-size text (removed x.id (book_in state)) fits) in
    (((named-is sheet state.side.sheets x e).shows, (fits-beside text (sheets_without x.id state.side.sheets) utf8 rest, tt)), omega arith)

can-do : (state : State) (act : Act) → HoldsNow state → IsInsertable act → ActHasTexts act
    → act_fault act state.side.page (book_in state) ≡ None
    → CanDo (act_plan act state.side.page (book_in state)) state
can-do state (SetAttr serial name value) is can texts h = planned-edit state (edit.SetAttr serial name value) is
    (record { fits = unmapped _ h; ready = tt }) texts
can-do state (DropAttr serial name) is can texts h = planned-edit state (edit.DropAttr serial name) is
    (record { fits = unmapped _ h; ready = tt }) texts
can-do state (SetText serial value) is can texts h = planned-edit state (edit.SetText serial value) is
    (record { fits = unmapped _ h; ready = tt }) texts
can-do state (Insert parent before form) is can texts h =
    let fits : insert_fault parent before form state.side.page.tree ≡ None = unmapped _ h in
    let few : branch_count form ≤ 100000 = form-few state parent before form fits in
    record {
      page = drawn-valid form state.side.page is.page;
      same = refl;
      low = omega arith;
      serials = omega (arith, few);
      taken = (insert-leads state.side.page parent before form is.page can fits).taken;
      texts = (branch-texts state.side.page.next form texts, tt);
      short = omega arith;
    }
can-do state (Remove serial) is can texts h = planned-edit state (edit.Detach serial) is (record { fits = unmapped _ h; ready = tt }) tt
can-do state (Move serial parent before) is can texts h = record {
  page = is.page;
  same = refl;
  low = omega arith;
  serials = omega arith;
  taken = move-leads state.side.page serial parent before is.page (unmapped _ h);
  texts = (tt, (node_at-texts serial state.side.page.tree is.texts, tt));
  short = omega arith;
}
can-do state (AddSheet origin text) is can texts h =
    ((fits-beside text state.side.sheets texts (fits-size text (book_in state) h), tt), omega arith)
can-do state (DropSheet sheet) is can texts h = drops-can sheet state (sheet_named sheet (book_in state)) refl h
can-do state (ReplaceSheet sheet text) is can texts h = replaces-can sheet text state (sheet_named sheet (book_in state)) texts.1 refl h
can-do state (SetMedium medium) is can texts h = tt

-- a state with the plan's page
pub with-page-is : (state : State) (page : PageValue) → HoldsNow state → IsValid page → page.tree ≡ state.side.page.tree
    → HoldsNow (with_page page state)
with-page-is state page is valid same = record {
  page = valid;
  texts = subst (λ tree. RowsHaveUtf8 (alone tree)) (sym same) is.texts;
  sheets = is.sheets;
  session = subst (λ tree. IsSession (alone (shown_branch state.client.mode tree)) state.client.session) (sym same) is.session;
  off = is.off;
  css_off = is.css_off;
  all_shown = is.all_shown;
  watched = subst (λ tree. AreAmong state.client.watched (alone (shown_branch state.client.mode tree))) (sym same) is.watched;
  none_watched = is.none_watched;
}

-- the client sees the same where only the next serial is another
pub same-view : (state : State) (page : PageValue) → page.tree ≡ state.side.page.tree → view_of (with_page page state) ≡ view_of state
same-view state page same =
    ap (λ tree. seen_by state.client.session (record { tree = shown_branch state.client.mode tree; next = 0 }) (sheets_shown state)) same

-- and where it is not the client's
pub crossed-is : (state : State) → HoldsNow state → HoldsNow (with_crossed state)
crossed-is state is = now-marked (crossed_over state.client.marks) state is

-- a step that is not the client's is as well as the step itself
crossing-well : {before : State} {done : Step} {ids serials sheets : ℕ} → Well before done ids serials sheets
    → Well before (crossing done) ids serials sheets
crossing-well {done = done} well = record {
  now = crossed-is done.state well.now;
  course = well.course;
  few_ids = well.few_ids;
  few_serials = well.few_serials;
  few_sheets = well.few_sheets;
  given = well.given;
}

plan-well : (state : State) (plan : Plan) → HoldsNow state → HasRoom state → Planned state plan
    → Well state (deed_step (edits plan) state) 400002 100000 1
plan-well state plan is room p =
    let begun : HoldsNow (with_page plan.page state) = with-page-is state plan.page is p.page p.same in
    let low : HasNumbers (with_page plan.page state) = record {
      ids = omega (arith, room.ids);
      serials = omega (arith, room.serials, p.serials);
      sheets = omega (arith, room.sheets);
    } in
    let steps : Step = script_steps plan.edits (with_page plan.page state) in
    let done : Well (with_page plan.page state) steps (200001 * length plan.edits) 0 0 =
    scripts-well plan.edits (with_page plan.page state) begun low (omega (arith, room.ids, p.short)) p.taken p.texts in
    record {
      now = crossed-is steps.state done.now;
      course = subst (λ v. Course steps.moves v (view_of steps.state)) (same-view state plan.page p.same) done.course;
      few_ids = omega (arith, done.few_ids, p.short);
      few_serials = omega (arith, done.few_serials, p.serials);
      few_sheets = omega (arith, done.few_sheets);
      given = done.given;
    }

-- a page that is shown on another medium
pub medium-is : (state : State) (medium : Medium) → HoldsNow state → HoldsNow (on_medium medium state)
medium-is state medium is = record {
  page = is.page;
  texts = is.texts;
  sheets = is.sheets;
  session = is.session;
  off = is.off;
  css_off = is.css_off;
  all_shown = is.all_shown;
  watched = is.watched;
  none_watched = is.none_watched;
}

medium-well : (state : State) (medium : Medium) → HoldsNow state → HasRoom state → Well state (idle (on_medium medium state)) 0 0 0
medium-well state medium is room = record {
  now = medium-is state medium is;
  course = ends (view_of state) (told-view state is (room-numbers state room));
  few_ids = omega arith;
  few_serials = omega arith;
  few_sheets = omega arith;
  given = refl;
}

deed-well : (state : State) (deed : Deed) → HoldsNow state → HasRoom state → CanDo deed state
    → Well state (deed_step deed state) 400002 100000 2
deed-well state (edits plan) is room can = more (omega arith) (omega arith) (omega arith) (plan-well state plan is room can)
deed-well state (restyles changes) is room can =
    more (omega arith) (omega arith) can.1
    (crossing-well (changes-well changes state is (room-numbers state room) (omega (arith, room.sheets, can.1)) can.0))
deed-well state (shows_on medium) is room can =
    more (omega arith) (omega arith) (omega arith) (crossing-well (medium-well state medium is room))

act-well : (state : State) (act : Act) → HoldsNow state → HasRoom state → IsInsertable act → ActHasTexts act
    → Well state (act_step act state) 400002 100000 2
act-well state act is room can texts = at (act_fault act state.side.page (book_in state)) refl where
  at : (o : Option ActFault) → act_fault act state.side.page (book_in state) ≡ o
      → Well state (planned_step o (act_plan act state.side.page (book_in state)) state) 400002 100000 2
  at None h = deed-well state (act_plan act state.side.page (book_in state)) is room (can-do state act is can texts h)
  at (Some f) h = more (omega arith) (omega arith) (omega arith) (stays state is (room-numbers state room))

-- ---- loads

and-false : (b : Bool) → (b && false) ≡ false
and-false true = refl
and-false false = refl

-- the client of a page that went, in some mode
pub reset-is : (state : State) (side : Side) (on : Bool) (mode : Mode) → IsValid side.page → RowsHaveUtf8 (alone side.page.tree)
    → AreSheetsBelow side.next_sheet side.sheets → (on ≡ false → mode ≡ All)
    → HoldsNow (record { side = side; client = record (client_reset on state.client) { mode = mode } })
reset-is state side on mode valid texts sheets all = record {
  page = valid;
  texts = texts;
  sheets = sheets;
  session = IsSession-reset (alone (shown_page mode side.page).tree) state.client.session;
  off = λ h. refl;
  css_off = λ h. ap (λ b. state.client.css_on && b) h ∙ and-false state.client.css_on;
  all_shown = all;
  watched = λ kind serial h. none-set kind serial h;
  none_watched = λ h. refl;
}

-- where nothing is known, messages can tell any sheets
pub nothing-told : (sheets : List ShownSheet) → CanTellSheets sheets → CanBeTold (record { tree = none; sheets = sheets })
nothing-told sheets can = record {
  tree = record {
    view = record { ids = λ x. omega arith; serials = λ x. omega arith; above = refl; levels = omega arith; bare = refl };
    forms = refl;
    texts = tt;
  };
  sheets = can.are;
  apart = can.apart;
}

-- the next serial is at least 1
pub page-least : (page : PageValue) → IsValid page → 1 ≤ page.next
page-least page valid =
    let below = (whole-valid page valid).below page.tree.row.serial
    (tally_row row_serial page.tree.row.serial page.tree.row page.tree.children none refl) in
    omega (arith, below)

next-least : (state : State) → HoldsNow state → 1 ≤ state.side.page.next
next-least state is = page-least state.side.page is.page

pub loaded-is : (serial number : ℕ) (page : LoadedPage) (client : Client) → 1 ≤ serial → 1 ≤ number
    → (client.dom_on ≡ false → client.mode ≡ All) → CanLoadPage page → PageHasTexts page
    → HoldsNow (record { side = loaded_side serial number page; client = client_reset client.dom_on client })
loaded-is serial number page client least some all can texts =
    reset-is (record { side = loaded_side serial number page; client = client }) (loaded_side serial number page) client.dom_on client.mode
    (loaded_valid serial page.nodes least can.nodes)
    ((IsUtf8-nil, IsUtf8-nil, tt), numbered-texts (serial + 1) page.nodes texts.nodes, tt)
    (sheets-loaded number page.sheets some can.sheets texts.sheets) all

pub load-is : (state : State) (page : LoadedPage) → HoldsNow state → CanLoadPage page → PageHasTexts page
    → HoldsNow (load_step page state).state
load-is state page is can texts =
    loaded-is state.side.page.next state.side.next_sheet page state.client (next-least state is)
    (ascend-order 1 state.side.next_sheet state.side.sheets is.sheets.numbers) is.all_shown can texts

load-well : (state : State) (page : LoadedPage) → HoldsNow state → HasRoom state → CanLoadPage page → PageHasTexts page
    → Well state (load_step page state) 0 100001 1000
load-well state page is room can texts =
    let nodes : suc (node_count page.nodes) ≤ 100000 = can.nodes.room in
    let few = sheets-few page.sheets can.sheets in
    let done : HoldsNow (load_step page state).state = load-is state page is can texts in
    let low = room-numbers state room in
    record {
      now = done;
      course = load-course state.client.session state.client.session (page_shown state)
          (page_shown (load_step page state).state) state.side.sheets (load_step page state).state.side.sheets
          state.side.next_sheet (load_step page state).state.side.next_sheet state.client.dom_on state.client.css_on
          (λ sheets k. told-with state sheets is low k) nothing-told (omega (arith, low.sheets))
          (omega (arith, room.sheets, few)) is.sheets done.sheets is.off is.css_off;
      few_ids = omega arith;
      few_serials = omega (arith, nodes);
      few_sheets = omega (arith, few);
      given = refl;
    }

-- ---- the law of a script's own steps

-- nothing that a script does is kept
turn-recalls : (x : Turn) (state : State) → HasHistory state → Recalls state (turn_step x state).state 0 0
turn-recalls (acts act) state history = at (act_fault act state.side.page (book_in state))
    (act_plan act state.side.page (book_in state)) where
      at : (o : Option ActFault) (deed : Deed) → Recalls state (planned_step o deed state).state 0 0
      at None (edits plan) = recalls-crossed state (script_steps plan.edits (with_page plan.page state)).state
      at None (restyles changes) = recalls-crossed state (sheet_steps changes state).state
      at None (shows_on medium) = recalls-crossed state (on_medium medium state)
      at (Some f) deed = recalls-same state state history refl refl (omega arith)
turn-recalls (loads page) state history = recalls-none state (load_step page state).state refl

turn-well : (state : State) (x : Turn) → HoldsNow state → HasRoom state → IsTurn x → Well state (turn_step x state) 500000 100001 1000
turn-well state (acts act) is room can = more (omega arith) (omega arith) (omega arith) (act-well state act is room can.0 can.1)
turn-well state (loads page) is room can = more (omega arith) (omega arith) (omega arith) (load-well state page is room can.0 can.1)

pub turn-steps-well : (state : State) (x : Turn) → IsState state → HasRoom state → IsTurn x
    → StepsWell state (turn_step x state) × KeepsAtMost 0 state (turn_step x state).state
turn-steps-well state x is room can =
    let recalls = turn-recalls x state is.history in
    (steps-well {ids = 500000} (omega arith) (omega arith) (turn-well state x is.now room can) recalls, recalls.few_edits)
