-- What a script does at a seat is the step of the state.
use Rattle.std.proofs.Common.{◌≡◌, ℕ, suc, ◌+◌, ◌^◌, ◌<◌, ◌≤◌, List, ◌++◌, length, Bool, true, false, cond, Option, Some, None, Result, Ok}
use Rattle.std.proofs.Common.{Err, refl, sym, ◌∙◌, ap, subst, append-nil, append_assoc, arith}
use Rattle.std.proofs.lemmas.List.Concat.{flat_map-append}
use Rattle.node_tree.specs.Nodes.{Nodes, none, node, Branch, alone, branch_count}
use Rattle.node_tree.specs.Labels.{Label}
use Rattle.page_tree.specs.Pages.{PageRow, PageValue, IsValid, node_at}
use Rattle.page_tree.specs.Edits.{after, drawn, numbered_branch, moved_before}
use Rattle.page_tree.specs.EditFaults.{CanApply, CanInsert, RefusesEdit, first_fault, insert_fault, move_fault}
use Rattle.page_tree.proofs.InsertLemmas.{insert-leads}
use Rattle.page_tree.proofs.MoveLemmas.{move-leads}
use Rattle.page_tree.specs.declared.edits.TreeEdit.{TreeEdit}
use Rattle.page_tree.specs.declared.edits.TreeEdit.TheVariants.{SetAttr, DropAttr, SetText, Attach, Detach}
use Rattle.page_tree.specs.declared.edit_faults.EditFault.{EditFault}
use Rattle.page_tree.specs.declared.edit_faults.EditErr.{EditErr}
use Rattle.page_tree.specs.declared.edit_faults.EditErr.TheVariants.{Fault}
use Rattle.page_forms.specs.declared.acts.Act.TheVariants.{Insert, Move}
use Rattle.node_binding.specs.Bindings.{BindingValue, Stands, with_bound, forgotten, all_forgotten, opened_in}
use Rattle.dom_agent.specs.Edits.{Edited, OnFault}
use Rattle.std.specs.Result.{OnOk}
use Rattle.client_views.specs.Moves.{Move as Told, frames_of_moves, move_text}
use Rattle.pipe_frames.specs.Frames.{framed}
use Rattle.shown_pages.specs.declared.modes.Mode.{Mode}
use Rattle.shown_pages.specs.ShownPages.{shown_branch, shown_page}
use Rattle.shown_pages.specs.ShownEdits.{shown_edit}
use Rattle.dom_agent.specs.EditLaws.{binding_edited}
use Rattle.dom_agent.specs.ModeEdits.{edited_if, shown_session_edited, shown_binding_edited}
use Rattle.dom_agent.proofs.ModeLemmas.{shown_edit_keeps_bound, same_shown_moves}
use Rattle.dom_agent.proofs.KeptMode.{shown_edit_keeps_mode}
use Rattle.dom_breakpoints.specs.Watched.{Watched}
use Rattle.back_end.specs.Sheets.{NumberedBook}
use Rattle.back_end.specs.States.{State, nodes_shown, book_in}
use Rattle.back_end.specs.Plans.{one_edit, edit_fault, act_plan}
use Rattle.back_end.specs.Steps.{with_page, watches_left, watched_after, edit_step, script_step, with_crossed, planned_step, act_step}
use Rattle.back_end.specs.Steps.{lone_step}
use Rattle.back_end.specs.Texts.{FormHasTexts, EditHasTexts}
use Rattle.dom_agent.specs.Laws.{RowsHaveUtf8}
use Rattle.back_end.proofs.TextLemmas.{node_at-texts, branch-texts}
use Rattle.back_end.specs.declared.desk.Desk.{Desk}
use Rattle.back_end.specs.declared.side.PageSide.{PageSide}
use Rattle.back_end.specs.Seats.{DeskStandsFor}
use Rattle.back_end.proofs.WellSteps.{Well, HasNumbers}
use Rattle.undo_marks.specs.Marks.{crossed_over}
use Rattle.back_end.proofs.StepLemmas.{edit-well, with-page-is, drawn-valid}
use Rattle.back_end.proofs.SeatLemmas.{marks-stands}

-- ids that are left at the desk are left in the state
ids-left : (n next most : ℕ) → next ≡ n + 1 → next < most → suc n < most + 1
ids-left n next most is h = omega (arith, is, h)

-- ---- an edit that the page takes

-- the watches of a desk that are left after an edit are the state's
left-is : (e : TreeEdit) (mode : Mode) (page : PageValue) (w : Watched) (state : State) → mode ≡ state.client.mode
    → page ≡ state.side.page → w ≡ state.client.watched → watches_left mode e page.tree w ≡ watched_after e state
left-is e mode page w state mode_is page_is is = λ i. watches_left (mode_is i) e (page_is i).tree (is i)

-- what an edit comes to for the agent, by the state's page and mode
edited-here : {A : Type 0} (d : Desk) (s : PageSide) (state : State) (e : TreeEdit) (f : Edited BindingValue → A) → DeskStandsFor d s state
    → f (shown_binding_edited d.agent.mode e s.page d.agent) ≡ f (shown_binding_edited state.client.mode e state.side.page d.agent)
edited-here d s state e f stands = λ i. f (shown_binding_edited (stands.mode_is i) e (stands.page_is i) d.agent)

pub edit-stands : (d d1 : Desk) (s s1 : PageSide) (state : State) (e : TreeEdit) → DeskStandsFor d s state
    → CanApply s.page.next e s.page.tree → EditHasTexts e → d.agent.next < 2 ^ 51 → s.page.next < 2 ^ 51 → s.sheets.next < 2 ^ 51
    → s1.page ≡ after e s.page → s1.sheets ≡ s.sheets → d1.is_on ≡ d.is_on → d1.css ≡ d.css
    → d1.watches ≡ watches_left d.agent.mode e s.page.tree d.watches → d1.searches ≡ d.searches
    → d1.agent ≡ (shown_binding_edited d.agent.mode e s.page d.agent).state
    → DeskStandsFor d1 s1 (edit_step e state).state
edit-stands d d1 s s1 state e stands can texts ids serials sheets page_is sheets_is on_is css_is watches_is searches_is agent_is =
    let page = state.side.page in
    let w = state.client.session in
    let same : s.page ≡ page = stands.page_is in
    let can_here : CanApply page.next e page.tree = subst (λ (p : PageValue). CanApply p.next e p.tree) same can in
    let next : d.agent.next ≡ length w.pushed + 1 = stands.stands.next_is in
    let low : s.page.next ≡ page.next = ap (λ (p : PageValue). p.next) same in
    let last : s.sheets.next ≡ state.side.next_sheet = stands.next_is in
    let numbers : HasNumbers state = record {
      ids = omega (arith, next, ids);
      serials = omega (arith, low, serials);
      sheets = omega (arith, last, sheets);
    } in
    let well : Well state (edit_step e state) 1 0 0 = edit-well state e stands.now numbers (omega (arith, next, ids)) can_here texts in
    let mode = state.client.mode in
    let bound = shown_edit_keeps_bound mode page e w d.agent stands.now.page can_here
    (record { session = stands.now.session; stands = stands.stands }) in
    let agent_now : d1.agent ≡ (shown_binding_edited mode e page d.agent).state = agent_is
    ∙ edited-here d s state e (λ x. x.state) stands in
    record {
      now = well.now;
      page_is = page_is ∙ ap (after e) same;
      sheets_are = ap (λ (b : NumberedBook). b.entries) sheets_is ∙ stands.sheets_are;
      next_is = ap (λ (b : NumberedBook). b.next) sheets_is ∙ stands.next_is;
      medium_is = ap (λ (b : NumberedBook). b.medium) sheets_is ∙ stands.medium_is;
      on_is = on_is ∙ stands.on_is;
      css_is = css_is ∙ stands.css_is;
      mode_is = ap (λ (b : BindingValue). b.mode) agent_now ∙ shown_edit_keeps_mode mode page e d.agent ∙ stands.mode_is;
      watches_are = watches_is ∙ left-is e d.agent.mode s.page d.watches state stands.mode_is same stands.watches_are;
      searches_are = searches_is ∙ stands.searches_are;
      stands = subst (λ a. Stands (alone (shown_page mode (after e page)).tree) (shown_session_edited mode e page w).state a)
          (sym agent_now)
          bound.stands;
    }

pub edit-sent : (d : Desk) (s : PageSide) (state : State) (e : TreeEdit) (old new : List ℕ) → DeskStandsFor d s state
    → CanApply s.page.next e s.page.tree
    → new ≡ old ++ frames_of_moves (shown_binding_edited d.agent.mode e s.page d.agent).moves
    → new ≡ old ++ frames_of_moves (edit_step e state).moves
edit-sent d s state e old new stands can sent =
    let page = state.side.page in
    let same : s.page ≡ page = stands.page_is in
    let can_here : CanApply page.next e page.tree = subst (λ (p : PageValue). CanApply p.next e p.tree) same can in
    sent ∙ edited-here d s state e (λ x. old ++ frames_of_moves x.moves) stands
    ∙ ap (λ ms. old ++ frames_of_moves ms)
    (same_shown_moves state.client.mode page e state.client.session d.agent stands.now.page can_here
    (record { session = stands.now.session; stands = stands.stands }))

-- the ids that an edit draws at a desk
forgotten-next : (n : Nodes PageRow) (b : BindingValue) → (all_forgotten n b).next ≡ b.next
forgotten-next none b = refl
forgotten-next (node r c t) b = forgotten-next t (all_forgotten c (forgotten r.serial b)) ∙ forgotten-next c (forgotten r.serial b)

came-few : (o : Bool) (b : BindingValue) (s : ℕ) (ms ks : List Told)
    → (cond {A = Edited BindingValue} o (record { state = with_bound s b; moves = ms })
    (record { state = b; moves = ks })).state.next < b.next + 2
came-few true b s ms ks = omega arith
came-few false b s ms ks = omega arith

bound-few : (page : PageValue) (e : TreeEdit) (b : BindingValue) → (binding_edited e page b).state.next < b.next + 2
bound-few page (SetAttr serial name value) b = omega arith
bound-few page (DropAttr serial name) b = omega arith
bound-few page (SetText serial value) b = omega arith
bound-few page (Attach parent before x) b = came-few (opened_in b parent) b x.row.serial _ _
bound-few page (Detach serial) b = let same = forgotten-next (alone (node_at serial page.tree)) b in omega (arith, same)

bound-if-few : (o : Option TreeEdit) (page : PageValue) (b : BindingValue)
    → (edited_if (λ f. binding_edited f page) o b).state.next < b.next + 2
bound-if-few None page b = omega arith
bound-if-few (Some e) page b = bound-few page e b

pub edit-few : (mode : Mode) (page : PageValue) (e : TreeEdit) (b b1 : BindingValue) → b1 ≡ (shown_binding_edited mode e page b).state
    → b1.next < b.next + 2
edit-few mode page e b b1 is = let few = bound-if-few (shown_edit mode e page.tree) (shown_page mode page) b in let same : b1.next
    ≡ (shown_binding_edited mode e page b).state.next = ap (λ (x : BindingValue). x.next) is in omega (arith, few, same)

-- ---- plans

-- at the end of a plan the history is crossed
pub crossed-stands : (d : Desk) (s : PageSide) (state : State) → DeskStandsFor d s state → DeskStandsFor d s (with_crossed state)
crossed-stands d s state stands = marks-stands (crossed_over state.client.marks) d s state stands

-- the page with drawn serials
pub drawn-stands : (d : Desk) (s s1 : PageSide) (state : State) (page : PageValue) → DeskStandsFor d s state → s1.page ≡ page
    → s1.sheets ≡ s.sheets → IsValid page → page.tree ≡ state.side.page.tree
    → DeskStandsFor d s1 (with_page page state)
drawn-stands d s s1 state page stands is sheets_is valid same = record {
  now = with-page-is state page stands.now valid same;
  page_is = is;
  sheets_are = ap (λ (b : NumberedBook). b.entries) sheets_is ∙ stands.sheets_are;
  next_is = ap (λ (b : NumberedBook). b.next) sheets_is ∙ stands.next_is;
  medium_is = ap (λ (b : NumberedBook). b.medium) sheets_is ∙ stands.medium_is;
  on_is = stands.on_is;
  css_is = stands.css_is;
  mode_is = stands.mode_is;
  watches_are = stands.watches_are;
  searches_are = stands.searches_are;
  stands = subst (λ tree. Stands (alone (shown_branch state.client.mode tree)) state.client.session d.agent) (sym same) stands.stands;
}

-- one edit
pub lone-stands : (d d1 : Desk) (s s1 : PageSide) (state : State) (e : TreeEdit) → s.page ≡ state.side.page
    → first_fault e s.page.tree ≡ None
    → DeskStandsFor d1 s1 (script_step e state).state → DeskStandsFor d1 s1 (lone_step e state).state
lone-stands d d1 s s1 state e same fits stands =
    let here : first_fault e state.side.page.tree ≡ None = ap (λ (p : PageValue). first_fault e p.tree) (sym same) ∙ fits in
    subst (λ o. DeskStandsFor d1 s1 (planned_step o (one_edit e state.side.page) state).state) (sym (ap edit_fault here))
    (crossed-stands d1 s1 (script_step e state).state stands)

-- ---- inserts

pub grown-can : (page drawn_page : PageValue) (parent before : ℕ) (form : Branch Label) (tree : Branch PageRow) → IsValid page
    → CanInsert form
    → insert_fault parent before form page.tree ≡ None → drawn_page ≡ drawn form page → tree ≡ numbered_branch page.next form
    → CanApply drawn_page.next (Attach parent before tree) drawn_page.tree
grown-can page drawn_page parent before form tree valid can fits drawn_is tree_is =
    subst (λ (p : PageValue). CanApply p.next (Attach parent before tree) p.tree) (sym drawn_is)
    (subst (λ t. CanApply (drawn form page).next (Attach parent before t) page.tree) (sym tree_is)
    (insert-leads page parent before form valid can fits).taken.0)

pub grown-texts : (page : PageValue) (form : Branch Label) (tree : Branch PageRow) → FormHasTexts form
    → tree ≡ numbered_branch page.next form → RowsHaveUtf8 (alone tree)
grown-texts page form tree texts tree_is = subst (λ t. RowsHaveUtf8 (alone t)) (sym tree_is) (branch-texts page.next form texts)

pub grown-low : (page drawn_page : PageValue) (form : Branch Label) → page.next < 2 ^ 50 → branch_count form ≤ 100000
    → drawn_page ≡ drawn form page → drawn_page.next < 2 ^ 51
grown-low page drawn_page form low few drawn_is = let is : drawn_page.next
    ≡ page.next + branch_count form = ap (λ (p : PageValue). p.next) drawn_is in omega (arith, low, few, is)

pub drawn-form : (d : Desk) (s s1 : PageSide) (state : State) (form : Branch Label) → DeskStandsFor d s state → s1.page ≡ drawn form s.page
    → s1.sheets ≡ s.sheets
    → DeskStandsFor d s1 (with_page (drawn form state.side.page) state)
drawn-form d s s1 state form stands is sheets_is =
    let same : s1.page ≡ drawn form state.side.page = is ∙ ap (drawn form) stands.page_is in
    drawn-stands d s s1 state (drawn form state.side.page) stands same sheets_is (drawn-valid form state.side.page stands.now.page) refl

pub grown-stands : (d1 : Desk) (s1 : PageSide) (state : State) (parent before : ℕ) (form : Branch Label) (tree : Branch PageRow)
    (page : PageValue) → page ≡ state.side.page
    → insert_fault parent before form page.tree ≡ None → tree ≡ numbered_branch page.next form
    → DeskStandsFor d1 s1 (script_step (Attach parent before tree) (with_page (drawn form state.side.page) state)).state
    → DeskStandsFor d1 s1 (act_step (Insert parent before form) state).state
grown-stands d1 s1 state parent before form tree page same fits tree_is stands =
    let here : insert_fault parent before form state.side.page.tree
    ≡ None = ap (λ (p : PageValue). insert_fault parent before form p.tree) (sym same) ∙ fits in
    let tree_here : tree ≡ numbered_branch state.side.page.next form = tree_is ∙ ap (λ (p : PageValue). numbered_branch p.next form) same in
    subst (λ o. DeskStandsFor d1 s1 (planned_step o (act_plan (Insert parent before form) state.side.page (book_in state)) state).state)
    (sym (ap edit_fault here))
    (crossed-stands d1 s1 (script_step (Attach parent before (numbered_branch state.side.page.next form))
    (with_page (drawn form state.side.page) state)).state
    (subst (λ t. DeskStandsFor d1 s1
    (script_step (Attach parent before t) (with_page (drawn form state.side.page) state)).state) tree_here stands))

pub grown-sent : (state : State) (parent before : ℕ) (form : Branch Label) (tree : Branch PageRow) (page : PageValue) (old new : List ℕ)
    → page ≡ state.side.page
    → insert_fault parent before form page.tree ≡ None → tree ≡ numbered_branch page.next form
    → new ≡ old ++ frames_of_moves (script_step (Attach parent before tree) (with_page (drawn form state.side.page) state)).moves
    → new ≡ old ++ frames_of_moves (act_step (Insert parent before form) state).moves
grown-sent state parent before form tree page old new same fits tree_is sent =
    let here : insert_fault parent before form state.side.page.tree
    ≡ None = ap (λ (p : PageValue). insert_fault parent before form p.tree) (sym same) ∙ fits in
    let tree_here : tree ≡ numbered_branch state.side.page.next form = tree_is ∙ ap (λ (p : PageValue). numbered_branch p.next form) same in
    sent
    ∙ ap (λ t. old ++ frames_of_moves (script_step (Attach parent before t) (with_page (drawn form state.side.page) state)).moves) tree_here
    ∙ ap (λ ms. old ++ frames_of_moves ms)
    (sym (append-nil (script_step (Attach parent before (numbered_branch state.side.page.next form))
    (with_page (drawn form state.side.page) state)).moves))
    ∙ ap (λ o. old ++ frames_of_moves (planned_step o (act_plan (Insert parent before form) state.side.page (book_in state)) state).moves)
    (sym (ap edit_fault here))

-- ---- moves

-- the tree of an attach
abbrev tree_of : Branch PageRow → TreeEdit → Branch PageRow
tree_of other (SetAttr serial name value) = other
tree_of other (DropAttr serial name) = other
tree_of other (SetText serial value) = other
tree_of other (Attach parent before tree) = tree
tree_of other (Detach serial) = other

-- what a detach leads back to has the tree that was taken out
pub taken-out : {back : TreeEdit} {p q b c : ℕ} {tree out : Branch PageRow} → back ≡ Attach p b tree → back ≡ Attach q c out → tree ≡ out
taken-out {tree = tree} is was = ap (tree_of tree) (sym is ∙ was)

pub moved-can : (page taken_page : PageValue) (serial parent before there : ℕ) (tree : Branch PageRow) → IsValid page
    → move_fault serial parent before page.tree ≡ None → there ≡ moved_before serial parent before page.tree
    → taken_page ≡ after (Detach serial) page
    → tree ≡ node_at serial page.tree → CanApply taken_page.next (Attach parent there tree) taken_page.tree
moved-can page taken_page serial parent before there tree valid fits there_is page_is tree_is =
    subst (λ (p : PageValue). CanApply p.next (Attach parent there tree) p.tree) (sym page_is)
    (subst (λ b. CanApply (after (Detach serial) page).next (Attach parent b tree) (after (Detach serial) page).tree) (sym there_is)
    (subst (λ t. CanApply (after (Detach serial) page).next (Attach parent (moved_before serial parent before page.tree) t)
    (after (Detach serial) page).tree) (sym tree_is)
    (move-leads page serial parent before valid fits).1.0))

pub moved-texts : (d : Desk) (s : PageSide) (state : State) (serial : ℕ) (tree : Branch PageRow) → DeskStandsFor d s state
    → tree ≡ node_at serial s.page.tree
    → RowsHaveUtf8 (alone tree)
moved-texts d s state serial tree stands is =
    subst (λ t. RowsHaveUtf8 (alone t)) (sym (is ∙ ap (λ (p : PageValue). node_at serial p.tree) stands.page_is))
    (node_at-texts serial state.side.page.tree stands.now.texts)

pub moved-stands : (d1 : Desk) (s1 : PageSide) (state : State) (serial parent before there : ℕ) (tree : Branch PageRow) (page : PageValue)
    → page ≡ state.side.page
    → move_fault serial parent before page.tree ≡ None → there ≡ moved_before serial parent before page.tree
    → tree ≡ node_at serial page.tree
    → DeskStandsFor d1 s1 (script_step (Attach parent there tree) (script_step (Detach serial) state).state).state
    → DeskStandsFor d1 s1 (act_step (Move serial parent before) state).state
moved-stands d1 s1 state serial parent before there tree page same fits there_is tree_is stands =
    let here : move_fault serial parent before state.side.page.tree
    ≡ None = ap (λ (p : PageValue). move_fault serial parent before p.tree) (sym same) ∙ fits in
    let there_here : there ≡ moved_before serial parent before state.side.page.tree = there_is ∙ ap
    (λ (p : PageValue). moved_before serial parent before p.tree) same in
    let tree_here : tree ≡ node_at serial state.side.page.tree = tree_is ∙ ap (λ (p : PageValue). node_at serial p.tree) same in
    let first = (script_step (Detach serial) state).state in
    subst (λ o. DeskStandsFor d1 s1 (planned_step o (act_plan (Move serial parent before) state.side.page (book_in state)) state).state)
    (sym (ap edit_fault here))
    (crossed-stands d1 s1 (script_step
    (Attach parent (moved_before serial parent before state.side.page.tree) (node_at serial state.side.page.tree)) first).state
    (subst (λ b. DeskStandsFor d1 s1 (script_step (Attach parent b (node_at serial state.side.page.tree)) first).state) there_here
    (subst (λ t. DeskStandsFor d1 s1 (script_step (Attach parent there t) first).state) tree_here stands)))

pub moved-sent : (state : State) (serial parent before there : ℕ) (tree : Branch PageRow) (page : PageValue) (old middle new : List ℕ)
    → page ≡ state.side.page
    → move_fault serial parent before page.tree ≡ None → there ≡ moved_before serial parent before page.tree
    → tree ≡ node_at serial page.tree
    → middle ≡ old ++ frames_of_moves (script_step (Detach serial) state).moves
    → new ≡ middle ++ frames_of_moves (script_step (Attach parent there tree) (script_step (Detach serial) state).state).moves
    → new ≡ old ++ frames_of_moves (act_step (Move serial parent before) state).moves
moved-sent state serial parent before there tree page old middle new same fits there_is tree_is first second =
    let here : move_fault serial parent before state.side.page.tree
    ≡ None = ap (λ (p : PageValue). move_fault serial parent before p.tree) (sym same) ∙ fits in
    let there_here : there ≡ moved_before serial parent before state.side.page.tree = there_is ∙ ap
    (λ (p : PageValue). moved_before serial parent before p.tree) same in
    let tree_here : tree ≡ node_at serial state.side.page.tree = tree_is ∙ ap (λ (p : PageValue). node_at serial p.tree) same in
    let one = (script_step (Detach serial) state).moves in
    let later : TreeEdit → List Told = λ e. (script_step e (script_step (Detach serial) state).state).moves in
    let last = later (Attach parent (moved_before serial parent before state.side.page.tree) (node_at serial state.side.page.tree)) in
    second
    ∙ ap (λ b. middle ++ frames_of_moves (later (Attach parent b tree))) there_here
    ∙ ap (λ t. middle ++ frames_of_moves (later (Attach parent (moved_before serial parent before state.side.page.tree) t))) tree_here
    ∙ ap (λ (m : List ℕ). m ++ frames_of_moves last) first
    ∙ append_assoc old (frames_of_moves one) (frames_of_moves last)
    ∙ ap (λ bs. old ++ bs) (sym (flat_map-append (λ (m : Told). framed (move_text m)) one last))
    ∙ ap (λ ms. old ++ frames_of_moves (one ++ ms)) (sym (append-nil last))
    ∙ ap (λ o. old ++ frames_of_moves (planned_step o (act_plan (Move serial parent before) state.side.page (book_in state)) state).moves)
    (sym (ap edit_fault here))

-- ---- what an edit gave

-- what stays the same then
pub kept-with : {T : Type 0} (result : Result T EditErr) (P : Type 0) (f : EditFault) → result ≡ Err (Fault f) → OnFault result P → P
kept-with result P f is keeps = subst (λ r. OnFault r P) is keeps

-- what holds anyway holds where a call answers Ok
pub in_any : {T E : Type 0} (result : Result T E) (P : Type 0) → P → OnOk result P
in_any (Ok value) P holds = holds
in_any (Err fault) P holds = tt

-- a call without an answer says nothing
pub in_none : {T E : Type 0} (result : Result T E) (P : Type 0) (fault : E) → result ≡ Err fault → OnOk result P
in_none result P fault is = subst (λ r. OnOk r P) (sym is) tt

-- a desk and a side that stayed as they were
pub stayed-stands : (d d1 : Desk) (s s1 : PageSide) (state : State) → d1.is_on ≡ d.is_on → d1.css ≡ d.css → d1.watches ≡ d.watches
    → d1.searches ≡ d.searches
    → d1.agent ≡ d.agent → s1.page ≡ s.page → s1.sheets ≡ s.sheets
    → DeskStandsFor d s state → DeskStandsFor d1 s1 state
stayed-stands d d1 s s1 state on_is css_is watches_is searches_is agent_is page_is sheets_is stands = record {
  now = stands.now;
  page_is = page_is ∙ stands.page_is;
  sheets_are = ap (λ (b : NumberedBook). b.entries) sheets_is ∙ stands.sheets_are;
  next_is = ap (λ (b : NumberedBook). b.next) sheets_is ∙ stands.next_is;
  medium_is = ap (λ (b : NumberedBook). b.medium) sheets_is ∙ stands.medium_is;
  on_is = on_is ∙ stands.on_is;
  css_is = css_is ∙ stands.css_is;
  mode_is = ap (λ (b : BindingValue). b.mode) agent_is ∙ stands.mode_is;
  watches_are = watches_is ∙ stands.watches_are;
  searches_are = searches_is ∙ stands.searches_are;
  stands = subst (λ a. Stands (nodes_shown state) state.client.session a) (sym agent_is) stands.stands;
}
