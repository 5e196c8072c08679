-- What a seat does on a client's edit of the tree is the step of the state.
use Rattle.std.proofs.Common.{◌≡◌, map as mapped, ℕ, ◌&&◌, Bool, true, false, not, List, ◌++◌, Option, Some, None, Result, Ok}
use Rattle.std.proofs.Common.{Err, refl, sym, ◌∙◌, ap, subst, append-nil, append_assoc}
use Rattle.std.specs.FinMap as map
use Rattle.std.proofs.lemmas.List.Concat.{flat_map-append}
use Rattle.std.specs.Prelude.{OnOk, IsSome, is_some}
use Rattle.node_tree.specs.Nodes.{Branch, alone}
use Rattle.page_tree.specs.Pages.{PageRow, PageValue, IsValid, find_in, node_at}
use Rattle.sheet_reader.specs.declared.book.SheetEntry.{SheetEntry}
use Rattle.undo_marks.specs.Marks.{Marks, noted, noted_singly}
use Rattle.undo_marks.specs.Changes.{back_all}
use Rattle.undo_marks.specs.SavedEdits.{saved_of, page_after, way_back}
use Rattle.undo_marks.specs.declared.inverse_lists.Inverse.{Inverse}
use Rattle.undo_marks.specs.declared.inverse_lists.Inverse.TheVariants.{Tree}
use Rattle.page_tree.specs.Edits.{back_tree, drawn, form_at, numbered_branch, moved_before}
use Rattle.page_tree.specs.EditFaults.{CanApply, move_fault, copy_fault}
use Rattle.page_tree.specs.declared.edits.TreeEdit.{TreeEdit}
use Rattle.page_tree.specs.declared.edits.TreeEdit.TheVariants.{Attach, Detach}
use Rattle.page_tree.specs.declared.edit_faults.EditFault.{EditFault}
use Rattle.page_tree.proofs.FaultLemmas.{move_live}
use Rattle.page_tree.proofs.InsertLemmas.{copy-leads}
use Rattle.cdp_messages.specs.declared.command.Why.{Why}
use Rattle.client_views.specs.Moves.{Move as Told, frames_of_moves, move_text}
use Rattle.pipe_frames.specs.Frames.{framed}
use Rattle.cdp_messages.specs.declared.dom_edit.DomEdit.{DomEdit}
use Rattle.back_end.specs.declared.node_edits.TreeWish.{TreeWish}
use Rattle.back_end.specs.declared.node_edits.TreeWish.TheVariants.{MoveNode, CopyNode}
use Rattle.back_end.specs.declared.desk.Desk.{Desk}
use Rattle.back_end.specs.declared.side.PageSide.{PageSide}
use Rattle.back_end.specs.States.{State}
use Rattle.back_end.specs.OwnMethods.{edit_why}
use Rattle.back_end.specs.Plans.{node_edit_fault, node_edit_plan, node_put}
use Rattle.cdp_messages.specs.declared.command.Command.TheVariants.{EditDom}
use Rattle.back_end.specs.Steps.{Step, refusing, idle, with_page, edit_step, push_step, serial_now, lowered, edit_named, keeping, plan_step}
use Rattle.back_end.specs.Steps.{planned_by_client, put_answer, unless_fault, node_edit_step, command_step}
use Rattle.dom_agent.specs.Laws.{RowsHaveUtf8}
use Rattle.back_end.specs.Seats.{HasBegun, DeskStandsFor, BothStandFor}
use Rattle.back_end.proofs.TextLemmas.{branch-texts, form-texts}
use Rattle.back_end.proofs.PushSteps.{is-begun, begun-is, begun-known}
use Rattle.back_end.proofs.TreeSteps.{begun-after, named-known}
use Rattle.back_end.proofs.SheetSeats.{dom-on}
use Rattle.back_end.proofs.SeatLemmas.{on-is}
use Rattle.cdp_messages.specs.declared.method.Domains.{Domains}
use Rattle.cdp_messages.specs.Methods.{needs_both}
use Rattle.cdp_messages.proofs.Commands.{edits-need-dom}

-- ---- a move

pub moved-plan-stands : (d1 : Desk) (s1 : PageSide) (state : State) (serial parent before there : ℕ) (tree : Branch PageRow)
    (page : PageValue) → page ≡ state.side.page
    → there ≡ moved_before serial parent before page.tree → tree ≡ node_at serial page.tree
    → DeskStandsFor d1 s1 (edit_step (Attach parent there tree) (edit_step (Detach serial) state).state).state
    → DeskStandsFor d1 s1 (plan_step (node_edit_plan (MoveNode serial parent before) state.side.page) state).state
moved-plan-stands d1 s1 state serial parent before there tree page same there_is tree_is stands =
    let first = (edit_step (Detach serial) state).state in
    subst (λ (p : PageValue). DeskStandsFor d1 s1
    (edit_step (Attach parent (moved_before serial parent before p.tree) (node_at serial p.tree)) first).state) same
    (subst (λ b. DeskStandsFor d1 s1 (edit_step (Attach parent b (node_at serial page.tree)) first).state) there_is
    (subst (λ t. DeskStandsFor d1 s1 (edit_step (Attach parent there t) first).state) tree_is stands))

pub moved-plan-sent : (state : State) (serial parent before there : ℕ) (tree : Branch PageRow) (page : PageValue) (old middle new : List ℕ)
    → page ≡ state.side.page
    → there ≡ moved_before serial parent before page.tree → tree ≡ node_at serial page.tree
    → middle ≡ old ++ frames_of_moves (edit_step (Detach serial) state).moves
    → new ≡ middle ++ frames_of_moves (edit_step (Attach parent there tree) (edit_step (Detach serial) state).state).moves
    → new ≡ old ++ frames_of_moves (plan_step (node_edit_plan (MoveNode serial parent before) state.side.page) state).moves
moved-plan-sent state serial parent before there tree page old middle new same there_is tree_is first second =
    let one = (edit_step (Detach serial) state).moves in
    let later : TreeEdit → List Told = λ e. (edit_step e (edit_step (Detach serial) state).state).moves in
    let last = later (Attach parent (moved_before serial parent before state.side.page.tree) (node_at serial state.side.page.tree)) in
    second
    ∙ ap (λ b. middle ++ frames_of_moves (later (Attach parent b tree))) there_is
    ∙ ap (λ t. middle ++ frames_of_moves (later (Attach parent (moved_before serial parent before page.tree) t))) tree_is
    ∙ ap (λ (p : PageValue). middle
    ++ frames_of_moves (later (Attach parent (moved_before serial parent before p.tree) (node_at serial p.tree)))) same
    ∙ ap (λ (m : List ℕ). m ++ frames_of_moves last) first
    ∙ append_assoc old (frames_of_moves one) (frames_of_moves last)
    ∙ ap (λ bs. old ++ bs) (sym (flat_map-append (λ (m : Told). framed (move_text m)) one last))
    ∙ ap (λ ms. old ++ frames_of_moves (one ++ ms)) (sym (append-nil last))

-- both edits are noted by what leads back
pub moved-noted : (h h1 h2 : Marks Inverse) (page : PageValue) (book : List SheetEntry) (serial parent before : ℕ) (tree : Branch PageRow)
    → tree ≡ node_at serial page.tree
    → h1 ≡ noted (Tree (back_tree (Detach serial) page.tree)) h → h2 ≡ noted (Tree (Detach tree.row.serial)) h1
    → h2 ≡ noted_singly (back_all page_after way_back (mapped (λ e. Tree e) (node_edit_plan (MoveNode serial parent before) page).edits)
    (saved_of page.tree book)) h
moved-noted h h1 h2 page book serial parent before tree is first second =
    second ∙ ap (λ (t : Branch PageRow). noted (Tree (Detach t.row.serial)) h1) is ∙ ap
    (λ (m : Marks Inverse). noted (Tree (Detach (node_at serial page.tree).row.serial)) m) first

-- the node that is to be moved is there
pub moved-there : (serial parent before : ℕ) (tree : Branch PageRow) → move_fault serial parent before tree ≡ None
    → IsSome (find_in serial tree)
moved-there serial parent before tree fits = (move_live serial parent before tree fits).0

-- ---- a copy

pub copied-noted : (h h1 : Marks Inverse) (page : PageValue) (book : List SheetEntry) (serial parent before : ℕ) (tree : Branch PageRow)
    → tree ≡ numbered_branch page.next (form_at serial page.tree)
    → h1 ≡ noted (Tree (Detach tree.row.serial)) h
    → h1 ≡ noted_singly (back_all page_after way_back (mapped (λ e. Tree e) (node_edit_plan (CopyNode serial parent before) page).edits)
    (saved_of page.tree book)) h
copied-noted h h1 page book serial parent before tree is first = first ∙ ap
    (λ (t : Branch PageRow). noted (Tree (Detach t.row.serial)) h) is

pub copied-can : (page drawn_page : PageValue) (serial parent before : ℕ) (tree : Branch PageRow) → IsValid page
    → copy_fault serial parent before page.tree ≡ None
    → drawn_page ≡ drawn (form_at serial page.tree) page → tree ≡ numbered_branch page.next (form_at serial page.tree)
    → CanApply drawn_page.next (Attach parent before tree) drawn_page.tree
copied-can page drawn_page serial parent before tree valid fits drawn_is tree_is =
    subst (λ (p : PageValue). CanApply p.next (Attach parent before tree) p.tree) (sym drawn_is)
    (subst (λ t. CanApply (drawn (form_at serial page.tree) page).next (Attach parent before t) page.tree) (sym tree_is)
    (copy-leads page serial parent before valid fits).taken.0)

pub copied-texts : (d : Desk) (s : PageSide) (state : State) (serial : ℕ) (tree : Branch PageRow) → DeskStandsFor d s state
    → tree ≡ numbered_branch s.page.next (form_at serial s.page.tree)
    → RowsHaveUtf8 (alone tree)
copied-texts d s state serial tree stands is =
    subst (λ t. RowsHaveUtf8 (alone t)) (sym (is ∙ ap (λ (p : PageValue). numbered_branch p.next (form_at serial p.tree)) stands.page_is))
    (branch-texts state.side.page.next (form_at serial state.side.page.tree) (form-texts serial state.side.page.tree stands.now.texts))

pub copied-stands : (d1 : Desk) (s1 : PageSide) (state : State) (serial parent before : ℕ) (tree : Branch PageRow) (page : PageValue)
    → page ≡ state.side.page
    → tree ≡ numbered_branch page.next (form_at serial page.tree)
    → DeskStandsFor d1 s1 (edit_step (Attach parent before tree) (with_page (drawn (form_at serial page.tree) state.side.page) state)).state
    → DeskStandsFor d1 s1 (plan_step (node_edit_plan (CopyNode serial parent before) state.side.page) state).state
copied-stands d1 s1 state serial parent before tree page same tree_is stands =
    subst (λ (p : PageValue). DeskStandsFor d1 s1
    (edit_step (Attach parent before (numbered_branch p.next (form_at serial p.tree)))
    (with_page (drawn (form_at serial p.tree) state.side.page) state)).state) same
    (subst (λ t. DeskStandsFor d1 s1
    (edit_step (Attach parent before t) (with_page (drawn (form_at serial page.tree) state.side.page) state)).state) tree_is stands)

pub copied-sent : (state : State) (serial parent before : ℕ) (tree : Branch PageRow) (page : PageValue) (old new : List ℕ)
    → page ≡ state.side.page
    → tree ≡ numbered_branch page.next (form_at serial page.tree)
    → new ≡ old ++ frames_of_moves
    (edit_step (Attach parent before tree) (with_page (drawn (form_at serial page.tree) state.side.page) state)).moves
    → new ≡ old ++ frames_of_moves (plan_step (node_edit_plan (CopyNode serial parent before) state.side.page) state).moves
copied-sent state serial parent before tree page old new same tree_is sent =
    let told : Branch PageRow → PageValue
    → List Told = λ t p. (edit_step (Attach parent before t) (with_page (drawn (form_at serial p.tree) state.side.page) state)).moves in
    sent
    ∙ ap (λ t. old ++ frames_of_moves (told t page)) tree_is
    ∙ ap (λ (p : PageValue). old ++ frames_of_moves (told (numbered_branch p.next (form_at serial p.tree)) p)) same
    ∙ ap (λ ms. old ++ frames_of_moves ms)
    (sym (append-nil (told (numbered_branch state.side.page.next (form_at serial state.side.page.tree)) state.side.page)))

-- ---- the node that was put

not-true : (b : Bool) → not b ≡ false → b ≡ true
not-true true e = refl
not-true false e = absurd cc

-- after a plan something is opened, where it was before
pub can-push : (state : State) (e : TreeWish) → HasBegun state → HasBegun (plan_step (node_edit_plan e state.side.page) state).state
can-push state e begun =
    let plan = node_edit_plan e state.side.page in
    begun-is (plan_step plan state).state.client.session
    (begun-after plan.edits (with_page plan.page state) (is-begun state.client.session begun))

-- ---- the answer

-- the answer after a step is that from the state after it
pub put-state : (id : ℕ) (put : Option ℕ) (done : Step) → (put_answer id put (idle done.state)).state ≡ (put_answer id put done).state
put-state id None done = refl
put-state id (Some serial) done = refl

put-moves : (id : ℕ) (put : Option ℕ) (done : Step)
    → done.moves ++ (put_answer id put (idle done.state)).moves ≡ (put_answer id put done).moves
put-moves id None done = refl
put-moves id (Some serial) done = sym (append_assoc done.moves (push_step serial done.state).moves _)

-- the fault at the desk is that of the state
pub fault-here : (s : PageSide) (state : State) (e : TreeWish) (o : Option EditFault) → s.page ≡ state.side.page
    → node_edit_fault e s.page ≡ o → node_edit_fault e state.side.page ≡ o
fault-here s state e o same h = ap (λ (p : PageValue). node_edit_fault e p) (sym same) ∙ h

-- what is kept of an edit is not told
kept-moves : (id : ℕ) (put : Option ℕ) (es : List Inverse) (state : State) (done : Step)
    → (put_answer id put done).moves ≡ (put_answer id put (keeping es state done)).moves
kept-moves id None es state done = refl
kept-moves id (Some serial) es state done = refl

pub put-answered-sent : (s : PageSide) (state : State) (id : ℕ) (e : TreeWish) (put : Option ℕ) (old middle new : List ℕ)
    → s.page ≡ state.side.page → node_edit_fault e s.page ≡ None → put ≡ node_put e s.page
    → middle ≡ old ++ frames_of_moves (plan_step (node_edit_plan e state.side.page) state).moves
    → new ≡ middle ++ frames_of_moves (put_answer id put (idle (plan_step (node_edit_plan e state.side.page) state).state)).moves
    → new ≡ old ++ frames_of_moves (node_edit_step id (Ok e) state).moves
put-answered-sent s state id e put old middle new same fits put_is first second =
    let plan = node_edit_plan e state.side.page in
    let done : Step = plan_step plan state in
    let last = (put_answer id put (idle done.state)).moves in
    let here : put ≡ node_put e state.side.page = put_is ∙ ap (λ (p : PageValue). node_put e p) same in
    second
    ∙ ap (λ (m : List ℕ). m ++ frames_of_moves last) first
    ∙ append_assoc old (frames_of_moves done.moves) (frames_of_moves last)
    ∙ ap (λ bs. old ++ bs) (sym (flat_map-append (λ (m : Told). framed (move_text m)) done.moves last))
    ∙ ap (λ ms. old ++ frames_of_moves ms) (put-moves id put done)
    ∙ ap (λ ms. old ++ frames_of_moves ms) (kept-moves id put (mapped (λ e. Tree e) plan.edits) state done)
    ∙ ap (λ o. old ++ frames_of_moves (put_answer id o (planned_by_client plan state)).moves) here
    ∙ ap (λ o. old ++ frames_of_moves (unless_fault id o e state).moves) (sym (fault-here s state e None same fits))

-- one that the page refuses
pub fault-both : (d : Desk) (h : Marks Inverse) (s : PageSide) (state : State) (id : ℕ) (e : TreeWish) (f : EditFault)
    → BothStandFor d h s state → node_edit_fault e s.page ≡ Some f
    → BothStandFor d h s (node_edit_step id (Ok e) state).state
fault-both d h s state id e f both fault =
    subst (λ o. BothStandFor d h s (unless_fault id o e state).state) (sym (fault-here s state e (Some f) both.stands.page_is fault)) both

pub fault-sent : (s : PageSide) (state : State) (id : ℕ) (e : TreeWish) (f : EditFault) (old new : List ℕ) → s.page ≡ state.side.page
    → node_edit_fault e s.page ≡ Some f
    → new ≡ old ++ frames_of_moves (refusing (Some id) (edit_why f) state).moves
    → new ≡ old ++ frames_of_moves (node_edit_step id (Ok e) state).moves
fault-sent s state id e f old new same fault sent =
    sent ∙ ap (λ o. old ++ frames_of_moves (unless_fault id o e state).moves) (sym (fault-here s state e (Some f) same fault))

-- ---- the command

-- the edit that is named at the desk is the state's
pub named-here : (d : Desk) (s : PageSide) (state : State) (edit : DomEdit) (r : Result TreeWish Why) → DeskStandsFor d s state
    → r ≡ edit_named (map.get d.agent.serials) (lowered edit)
    → edit_named (serial_now state) (lowered edit) ≡ r
named-here d s state edit r stands is = sym
    (is ∙ ap (λ (serials : ℕ → Option ℕ). edit_named serials (lowered edit)) (λ i id. stands.stands.serials_are id i))

-- where one is named, something is opened
pub named-begun : (state : State) (edit : DomEdit) (e : TreeWish) → edit_named (serial_now state) (lowered edit) ≡ Ok e
    → is_some state.client.session.opened ≡ true
named-begun state edit e h =
    let k = named-known (serial_now state) (lowered edit) e h in
    begun-is state.client.session (begun-known state.client.session state k.id k.serial k.is)

pub edit-is : (d : Desk) (s : PageSide) (state : State) (id : ℕ) (edit : DomEdit) (r : Result TreeWish Why) → DeskStandsFor d s state
    → d.is_on ≡ true → r ≡ edit_named (map.get d.agent.serials) (lowered edit)
    → node_edit_step id r state ≡ command_step id (EditDom edit) state
edit-is d s state id edit r stands on is =
    ap (λ x. node_edit_step id x state) (sym (named-here d s state edit r stands is))
    ∙ sym (on-is id (EditDom edit) state (dom-on (EditDom edit) d s state stands on)
    (ap (λ (w : Domains). needs_both w && not state.client.css_on) (edits-need-dom edit)))

pub named-both : {T E : Type 0} (result : Result T E) (d d1 : Desk) (h h1 : Marks Inverse) (s s1 : PageSide) (state : State) (id : ℕ)
    (edit : DomEdit) (e : TreeWish) → DeskStandsFor d s state → d.is_on ≡ true
    → Ok e ≡ edit_named (map.get d.agent.serials) (lowered edit)
    → (is_some state.client.session.opened ≡ true → OnOk result (BothStandFor d1 h1 s1 (node_edit_step id (Ok e) state).state))
    → OnOk result (BothStandFor d1 h1 s1 (command_step id (EditDom edit) state).state)
named-both result d d1 h h1 s s1 state id edit e stands on is done =
    subst (λ (x : Step). OnOk result (BothStandFor d1 h1 s1 x.state)) (edit-is d s state id edit (Ok e) stands on is)
    (done (named-begun state edit e (named-here d s state edit (Ok e) stands is)))

-- one that names no node
pub unnamed-both : (d : Desk) (h : Marks Inverse) (s : PageSide) (state : State) (id : ℕ) (edit : DomEdit) (why : Why)
    → BothStandFor d h s state → d.is_on ≡ true
    → Err why ≡ edit_named (map.get d.agent.serials) (lowered edit) → BothStandFor d h s (command_step id (EditDom edit) state).state
unnamed-both d h s state id edit why both on is =
    subst (λ (x : Step). BothStandFor d h s x.state) (edit-is d s state id edit (Err why) both.stands on is) both

pub edited-sent : {T E : Type 0} (result : Result T E) (d : Desk) (s : PageSide) (state : State) (id : ℕ) (edit : DomEdit) (e : TreeWish)
    (old new : List ℕ) → DeskStandsFor d s state → d.is_on ≡ true
    → Ok e ≡ edit_named (map.get d.agent.serials) (lowered edit)
    → (is_some state.client.session.opened ≡ true → OnOk result (new ≡ old ++ frames_of_moves (node_edit_step id (Ok e) state).moves))
    → OnOk result (new ≡ old ++ frames_of_moves (command_step id (EditDom edit) state).moves)
edited-sent result d s state id edit e old new stands on is done =
    subst (λ (x : Step). OnOk result (new ≡ old ++ frames_of_moves x.moves)) (edit-is d s state id edit (Ok e) stands on is)
    (done (named-begun state edit e (named-here d s state edit (Ok e) stands is)))
