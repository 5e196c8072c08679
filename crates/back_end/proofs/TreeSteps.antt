-- A client's edit of the tree: its step is well, and answers its command once.
use Rattle.std.proofs.Common.{cond}
use Rattle.std.proofs.Common.{◌≡◌, ℕ, ◌+◌, ◌^◌, ◌<◌, ◌≤◌, Bool, true, false, not, nat_le, List, [], ◌∷◌, length, map, Option, Some, None}
use Rattle.std.proofs.Common.{Result, Ok, Err, refl, sym, ◌∙◌, ap, subst, arith, lt-ltb}
use Rattle.std.specs.Prelude.{⊤}
use Rattle.std.proofs.lemmas.Bool.{and_from, leb-true}
use Rattle.std.proofs.lemmas.List.{length-map}
use Rattle.std_alloc.proofs.string.Cased.{lowered as utf8-lowered}
use Rattle.cdp_json.specs.Kinds.{is_counted}
use Rattle.node_tree.specs.Nodes.{Branch, alone, branch_count}
use Rattle.page_tree.specs.Pages.{PageRow, PageValue, IsValid}
use Rattle.page_tree.specs.Edits.{after, form_at}
use Rattle.page_tree.specs.EditFaults.{CanApplyAll, IsReady, copy_faults, copy_fault}
use Rattle.page_tree.specs.declared.edits.TreeEdit.{TreeEdit}
use Rattle.page_tree.specs.declared.edits.TreeEdit.TheVariants.{SetAttr, DropAttr, SetText, Detach}
use Rattle.page_tree.specs.declared.edit_faults.EditFault.{EditFault}
use Rattle.page_tree.proofs.EditLemmas.{valid-after, clear}
use Rattle.page_tree.proofs.InsertLemmas.{next-stays, copy-leads}
use Rattle.page_tree.proofs.MoveLemmas.{move-leads}
use Rattle.node_binding.specs.Sessions.{Session, session_ids}
use Rattle.cdp_messages.specs.declared.command.Why.{Why}
use Rattle.cdp_messages.specs.declared.command.Why.TheVariants.{UnknownNode}
use Rattle.cdp_messages.specs.declared.down.ReplyBody.TheVariants.{Nothing, NodeId}
use Rattle.client_views.specs.Moves.{replied, Course}
use Rattle.sheet_reader.specs.declared.book.SheetEntry.{SheetEntry}
use Rattle.dom_agent.proofs.StepLemmas.{is_small, ids-below}
use Rattle.cdp_messages.specs.declared.command.Command.TheVariants.{EditDom}
use Rattle.cdp_messages.specs.Asked.{method_name}
use Rattle.cdp_messages.specs.declared.dom_edit.DomEdit.{DomEdit}
use Rattle.cdp_messages.specs.declared.dom_edit.DomEdit.TheVariants as dom
use Rattle.back_end.specs.declared.node_edits.TreeWish.{TreeWish}
use Rattle.back_end.specs.declared.node_edits.TreeWish.TheVariants.{One, MoveNode, CopyNode}
use Rattle.back_end.specs.OwnMethods.{edit_why}
use Rattle.dom_agent.specs.Laws.{RowsHaveUtf8}
use Rattle.undo_marks.specs.Changes.{after_all, AllTaken}
use Rattle.undo_marks.specs.Saved.{Saved}
use Rattle.undo_marks.specs.SavedEdits.{saved_of, page_after}
use Rattle.undo_marks.specs.declared.inverse_lists.Inverse.{Inverse}
use Rattle.undo_marks.specs.declared.inverse_lists.Inverse.TheVariants.{Tree}
use Rattle.back_end.specs.States.{State, nodes_shown, book_in, view_of, HoldsNow, saved_now, TakesWell, IsState}
use Rattle.back_end.specs.Plans.{Plan, node_edit_fault, node_edit_plan, node_put}
use Rattle.back_end.specs.Steps.{Step, with_page, edit_step, edit_steps, push_step, followed_by, is_shown_now, id_told, serial_now, of_node}
use Rattle.back_end.specs.Steps.{put_node}
use Rattle.back_end.specs.Steps.{before_by, lowered, edit_named, put_answer, plan_step, planned_by_client, unless_fault, node_edit_step}
use Rattle.back_end.specs.Steps.{tree_edit_step}
use Rattle.back_end.specs.Texts.{EditHasTexts, HasTreeTexts, IsPlainEdit}
use Rattle.back_end.specs.Laws.{HasRoom, MayAnswer}
use Rattle.back_end.proofs.TextLemmas.{after-texts, node_at-texts, branch-texts, form-texts}
use Rattle.back_end.proofs.WellSteps.{Well, HasNumbers, stays, stays-with, then-well, more, well-marked, well-answered}
use Rattle.back_end.proofs.PushSteps.{IsBegun, begun-known, begun-shown, push-well}
use Rattle.back_end.proofs.StepLemmas.{edit-well, EditsHaveTexts, Planned, planned-edit, drawn-valid, with-page-is, same-view}
use Rattle.back_end.proofs.TurnAnswers.{AreEvents, openings-events, events-append, shown-edit-events}
use Rattle.back_end.proofs.GroupCounts.{trees-in-length}
use Rattle.back_end.proofs.KeptSteps.{Recalls, recalls-edited, recalls-more, recalls-on, steps-well}
use Rattle.back_end.proofs.AnsweredSteps.{Answered, reply-answered, refusal-answered}

-- ---- edits, one after the other

after-first : (state : State) (e : TreeEdit) → HasNumbers state → Well state (edit_step e state) 1 0 0
    → 1 + length state.client.session.pushed < 2 ^ 52 → HasNumbers (edit_step e state).state
after-first state e low first ids = record {
  ids = omega (arith, ids, first.few_ids);
  serials = omega (arith, low.serials, first.few_serials);
  sheets = omega (arith, low.sheets, first.few_sheets);
}

pub all-well : (es : List TreeEdit) (state : State) → HoldsNow state → HasNumbers state
    → length es + length state.client.session.pushed < 2 ^ 52
    → CanApplyAll es state.side.page → EditsHaveTexts es → Well state (edit_steps es state) (length es) 0 0
all-well [] state is low ids can texts = stays state is low
all-well (e ∷ es) state is low ids can texts =
    let first : Well state (edit_step e state) 1 0 0 = edit-well state e is low (omega (arith, ids)) can.0 texts.0 in
    let next : HasNumbers (edit_step e state).state = after-first state e low first (omega (arith, ids)) in
    more (omega arith) (omega arith) (omega arith)
    (then-well first (all-well es (edit_step e state).state first.now next (omega (arith, ids, first.few_ids)) can.1 texts.1))

pub begun-after : (es : List TreeEdit) (state : State) → IsBegun state.client.session → IsBegun (edit_steps es state).state.client.session
begun-after [] state begun = begun
begun-after (e ∷ es) state begun = begun-after es (edit_step e state).state
    (begun-shown state.client.mode e state.side.page state.client.session begun)

all-events : (es : List TreeEdit) (state : State) → AreEvents (edit_steps es state).moves
all-events [] state = tt
all-events (e ∷ es) state =
    events-append (edit_step e state).moves (edit_steps es (edit_step e state).state).moves
    (shown-edit-events state.client.mode e state.side.page state.client.session) (all-events es (edit_step e state).state)

-- ---- what an edit is

-- what is known of an edit whose nodes are known: its texts, and that the method may be answered so
abbrev pub IsNamed : List ℕ → TreeWish → Type 0
IsNamed method (One e) = EditHasTexts e × ((next : ℕ) (tree : Branch PageRow) → IsReady next e tree) × MayAnswer method (replied 0 Nothing)
IsNamed method (MoveNode node parent before) = (id : ℕ) → MayAnswer method (replied 0 (NodeId id))
IsNamed method (CopyNode node parent before) = (id : ℕ) → MayAnswer method (replied 0 (NodeId id))

-- a method that asks for that edit
abbrev pub AsksFor : List ℕ → DomEdit → Type 0
AsksFor method (dom.SetAttributeValue node name value) = MayAnswer method (replied 0 Nothing)
AsksFor method (dom.RemoveAttribute node name) = MayAnswer method (replied 0 Nothing)
AsksFor method (dom.SetNodeValue node value) = MayAnswer method (replied 0 Nothing)
AsksFor method (dom.RemoveNode node) = MayAnswer method (replied 0 Nothing)
AsksFor method (dom.MoveTo node target before) = (id : ℕ) → MayAnswer method (replied 0 (NodeId id))
AsksFor method (dom.CopyTo node target before) = (id : ℕ) → MayAnswer method (replied 0 (NodeId id))

-- the reply to each of a client's edits of the tree
pub asks-for : (edit : DomEdit) → AsksFor (method_name (EditDom edit)) edit
asks-for (dom.SetAttributeValue node name value) = (refl, refl)
asks-for (dom.RemoveAttribute node name) = (refl, refl)
asks-for (dom.SetNodeValue node value) = (refl, refl)
asks-for (dom.RemoveNode node) = (refl, refl)
asks-for (dom.MoveTo node target before) = λ id. (refl, refl)
asks-for (dom.CopyTo node target before) = λ id. (refl, refl)

-- in lower case its texts are UTF-8 still
pub lowered-texts : (edit : DomEdit) → HasTreeTexts edit → HasTreeTexts (lowered edit)
lowered-texts (dom.SetAttributeValue node name value) texts = (utf8-lowered name texts.0, texts.1)
lowered-texts (dom.RemoveAttribute node name) texts = utf8-lowered name texts
lowered-texts (dom.SetNodeValue node value) texts = texts
lowered-texts (dom.RemoveNode node) texts = tt
lowered-texts (dom.MoveTo node target before) texts = tt
lowered-texts (dom.CopyTo node target before) texts = tt

pub lowered-asks : (method : List ℕ) (edit : DomEdit) → AsksFor method edit → AsksFor method (lowered edit)
lowered-asks method (dom.SetAttributeValue node name value) asks = asks
lowered-asks method (dom.RemoveAttribute node name) asks = asks
lowered-asks method (dom.SetNodeValue node value) asks = asks
lowered-asks method (dom.RemoveNode node) asks = asks
lowered-asks method (dom.MoveTo node target before) asks = asks
lowered-asks method (dom.CopyTo node target before) asks = asks

-- some node is known
pub record HasKnown (serials : ℕ → Option ℕ) : Type 0 where
  pub id : ℕ
  pub serial : ℕ
  pub is : serials id ≡ Some serial

no-ok : {P : Type 0} (why : Why) (e : TreeWish) → ◌≡◌ {A = Result TreeWish Why} (Err why) (Ok e) → P
no-ok why e h = let no : ◌≡◌ {A = Result TreeWish Why} (Err why) (Ok e) = h in absurd cc

same-ok : (d e : TreeWish) → ◌≡◌ {A = Result TreeWish Why} (Ok d) (Ok e) → d ≡ e
same-ok d e h = cc

one-named : (P : TreeWish → Type 0) (edit : ℕ → TreeWish) (serials : ℕ → Option ℕ) (node : ℕ) (o : Option ℕ) (e : TreeWish)
    → serials node ≡ o → ((s : ℕ) → P (edit s))
    → of_node edit o ≡ Ok e → P e × HasKnown serials
one-named P edit serials node None e is has h = no-ok UnknownNode e h
one-named P edit serials node (Some s) e is has h = (subst P (same-ok (edit s) e h) (has s), record { id = node; serial = s; is = is })

put-named : (P : TreeWish → Type 0) (edit : ℕ → ℕ → ℕ → TreeWish) (serials : ℕ → Option ℕ) (node : ℕ) (o p q : Option ℕ) (e : TreeWish)
    → serials node ≡ o → ((s t b : ℕ) → P (edit s t b))
    → put_node edit o p q ≡ Ok e → P e × HasKnown serials
put-named P edit serials node None p q e is has h = no-ok UnknownNode e h
put-named P edit serials node (Some s) None q e is has h = no-ok UnknownNode e h
put-named P edit serials node (Some s) (Some t) None e is has h = no-ok UnknownNode e h
put-named P edit serials node (Some s) (Some t) (Some b) e is has h =
    (subst P (same-ok (edit s t b) e h) (has s t b), record { id = node; serial = s; is = is })

pub named-is : (method : List ℕ) (serials : ℕ → Option ℕ) (edit : DomEdit) (e : TreeWish) → HasTreeTexts edit → AsksFor method edit
    → edit_named serials edit ≡ Ok e → IsNamed method e × HasKnown serials
named-is method serials (dom.SetAttributeValue node name value) e texts asks h =
    one-named (IsNamed method) (λ s. One (SetAttr s name value)) serials node (serials node) e refl (λ s. (texts, λ next tree. tt, asks)) h
named-is method serials (dom.RemoveAttribute node name) e texts asks h =
    one-named (IsNamed method) (λ s. One (DropAttr s name)) serials node (serials node) e refl (λ s. (texts, λ next tree. tt, asks)) h
named-is method serials (dom.SetNodeValue node value) e texts asks h = one-named (IsNamed method) (λ s. One (SetText s value)) serials node
    (serials node) e refl (λ s. (texts, λ next tree. tt, asks)) h
named-is method serials (dom.RemoveNode node) e texts asks h = one-named (IsNamed method) (λ s. One (Detach s)) serials node
    (serials node) e refl (λ s. (tt, λ next tree. tt, asks)) h
named-is method serials (dom.MoveTo node target before) e texts asks h = put-named (IsNamed method) MoveNode serials node (serials node)
    (serials target) (before_by serials before) e refl (λ s t b. asks) h
named-is method serials (dom.CopyTo node target before) e texts asks h = put-named (IsNamed method) CopyNode serials node (serials node)
    (serials target) (before_by serials before) e refl (λ s t b. asks) h

-- what the code carries out
pub named-plain : (serials : ℕ → Option ℕ) (edit : DomEdit) (e : TreeWish) → HasTreeTexts edit → edit_named serials edit ≡ Ok e
    → IsPlainEdit e
named-plain serials (dom.SetAttributeValue node name value) e texts h =
    (one-named IsPlainEdit (λ s. One (SetAttr s name value)) serials node (serials node) e refl (λ s. (texts, λ next tree. tt)) h).0
named-plain serials (dom.RemoveAttribute node name) e texts h =
    (one-named IsPlainEdit (λ s. One (DropAttr s name)) serials node (serials node) e refl (λ s. (texts, λ next tree. tt)) h).0
named-plain serials (dom.SetNodeValue node value) e texts h =
    (one-named IsPlainEdit (λ s. One (SetText s value)) serials node (serials node) e refl (λ s. (texts, λ next tree. tt)) h).0
named-plain serials (dom.RemoveNode node) e texts h =
    (one-named IsPlainEdit (λ s. One (Detach s)) serials node (serials node) e refl (λ s. (tt, λ next tree. tt)) h).0
named-plain serials (dom.MoveTo node target before) e texts h =
    (put-named IsPlainEdit MoveNode serials node (serials node) (serials target) (before_by serials before) e refl (λ s t b. tt) h).0
named-plain serials (dom.CopyTo node target before) e texts h =
    (put-named IsPlainEdit CopyNode serials node (serials node) (serials target) (before_by serials before) e refl (λ s t b. tt) h).0

-- an edit is named only where some node is known
pub named-known : (serials : ℕ → Option ℕ) (edit : DomEdit) (e : TreeWish) → edit_named serials edit ≡ Ok e → HasKnown serials
named-known serials (dom.SetAttributeValue node name value) e h =
    (one-named (λ x. ⊤) (λ s. One (SetAttr s name value)) serials node (serials node) e refl (λ s. tt) h).1
named-known serials (dom.RemoveAttribute node name) e h =
    (one-named (λ x. ⊤) (λ s. One (DropAttr s name)) serials node (serials node) e refl (λ s. tt) h).1
named-known serials (dom.SetNodeValue node value) e h =
    (one-named (λ x. ⊤) (λ s. One (SetText s value)) serials node (serials node) e refl (λ s. tt) h).1
named-known serials (dom.RemoveNode node) e h = (one-named (λ x. ⊤) (λ s. One (Detach s)) serials node (serials node) e refl (λ s. tt) h).1
named-known serials (dom.MoveTo node target before) e h =
    (put-named (λ x. ⊤) MoveNode serials node (serials node) (serials target) (before_by serials before) e refl (λ s t b. tt) h).1
named-known serials (dom.CopyTo node target before) e h =
    (put-named (λ x. ⊤) CopyNode serials node (serials node) (serials target) (before_by serials before) e refl (λ s t b. tt) h).1

-- ---- plans

room-is : (a b : ℕ) → nat_le (a + b) 100000 ≡ true → b ≤ 100000
room-is a b h = let low : a + b ≤ 100000 = leb-true (a + b) 100000 h in omega (arith, low)

-- the nodes of a copy are few
pub copy-few : (serial parent before : ℕ) (tree : Branch PageRow) → copy_fault serial parent before tree ≡ None
    → branch_count (form_at serial tree) ≤ 100000
copy-few serial parent before tree h =
    let tests = clear (copy_faults serial parent before tree) h in
    room-is (branch_count tree) (branch_count (form_at serial tree)) (negated _ tests.1.1.1.1.0)
  where
    negated : (b : Bool) → not b ≡ false → b ≡ true
    negated true e = refl
    negated false e = absurd cc

pub node-edit-planned : (method : List ℕ) (state : State) (e : TreeWish) → HoldsNow state → IsNamed method e
    → node_edit_fault e state.side.page ≡ None → Planned state (node_edit_plan e state.side.page)
node-edit-planned method state (One e) is named fits = planned-edit state e is
    (record { fits = fits; ready = named.1 state.side.page.next state.side.page.tree }) named.0
node-edit-planned method state (MoveNode serial parent before) is named fits = record {
  page = is.page;
  same = refl;
  low = omega arith;
  serials = omega arith;
  taken = move-leads state.side.page serial parent before is.page fits;
  texts = (tt, (node_at-texts serial state.side.page.tree is.texts, tt));
  short = omega arith;
}
node-edit-planned method state (CopyNode serial parent before) is named fits =
    let few : branch_count (form_at serial state.side.page.tree) ≤ 100000 = copy-few serial parent before state.side.page.tree fits in
    record {
      page = drawn-valid (form_at serial state.side.page.tree) state.side.page is.page;
      same = refl;
      low = omega arith;
      serials = omega (arith, few);
      taken = (copy-leads state.side.page serial parent before is.page fits).taken;
      texts = (
        branch-texts state.side.page.next (form_at serial state.side.page.tree)
            (form-texts serial state.side.page.tree is.texts),
        tt,
      );
      short = omega arith;
    }

pub plan-page-well : (state : State) (plan : Plan) → HoldsNow state → HasRoom state → Planned state plan
    → Well state (plan_step plan state) 2 100000 0
plan-page-well state plan is room p =
    let begun : HoldsNow (with_page plan.page state) = with-page-is state plan.page is p.page p.same in
    let low : HasNumbers (with_page plan.page state) = record {
      ids = omega (arith, room.ids);
      serials = omega (arith, room.serials, p.serials);
      sheets = omega (arith, room.sheets);
    } in
    let done : Well (with_page plan.page state) (plan_step plan state) (length plan.edits) 0 0 = all-well plan.edits
    (with_page plan.page state) begun low (omega (arith, room.ids, p.short)) p.taken p.texts in
    record {
      now = done.now;
      course = subst (λ v. Course (plan_step plan state).moves v (view_of (plan_step plan state).state))
          (same-view state plan.page p.same) done.course;
      few_ids = omega (arith, done.few_ids, p.short);
      few_serials = omega (arith, done.few_serials, p.serials);
      few_sheets = omega (arith, done.few_sheets);
      given = done.given;
    }

-- ---- edits are kept

-- edits of the tree as they are kept
abbrev pub trees_kept : List TreeEdit → List Inverse
trees_kept es = map (λ e. Tree e) es

pub trees-saved : (es : List TreeEdit) (state : State)
    → saved_now (edit_steps es state).state ≡ after_all page_after (trees_kept es) (saved_now state)
trees-saved [] state = refl
trees-saved (e ∷ es) state = trees-saved es (edit_step e state).state

pub trees-next : (es : List TreeEdit) (state : State) → CanApplyAll es state.side.page
    → (edit_steps es state).state.side.page.next ≡ state.side.page.next
trees-next [] state can = refl
trees-next (e ∷ es) state can = trees-next es (edit_step e state).state can.1 ∙ next-stays state.side.page e can.0

-- each is taken by the saved page
pub trees-taken : (es : List TreeEdit) (page : PageValue) (book : List SheetEntry) → IsValid page → RowsHaveUtf8 (alone page.tree)
    → CanApplyAll es page → EditsHaveTexts es
    → AllTaken page_after (TakesWell page.next) (trees_kept es) (saved_of page.tree book)
trees-taken [] page book valid texts can has = tt
trees-taken (e ∷ es) page book valid texts can has =
    let rest : AllTaken page_after (TakesWell (after e page).next) (trees_kept es) (saved_of (after e page).tree book) =
    trees-taken es (after e page) book (valid-after page e valid can.0) (after-texts e page.tree has.0 texts) can.1 has.1 in (
      record { taken = record { valid = valid; taken = can.0 }; texts = texts; own = has.0 },
      subst (λ (n : ℕ). AllTaken page_after (TakesWell n) (trees_kept es) (saved_of (after e page).tree book))
          (next-stays page e can.0) rest,
    )

-- the history is kept on
pub plan-recalls : (state : State) (plan : Plan) → IsState state → Planned state plan
    → Recalls state (planned_by_client plan state).state 2 2
plan-recalls state plan is p =
    let es = plan.edits in
    let first : State = with_page plan.page state in
    let done : Step = plan_step plan state in
    let next : done.state.side.page.next ≡ plan.page.next = trees-next es first p.taken in
    let begun : HoldsNow first = with-page-is state plan.page is.now p.page p.same in
    let page : saved_now first ≡ saved_now state = λ i. record { tree = p.same i; sheets = (saved_now state).sheets } in
    let there : AllTaken page_after (TakesWell plan.page.next) (trees_kept es) (saved_now first) = trees-taken es plan.page
    (book_in state) p.page begun.texts p.taken p.texts in
    let here : AllTaken page_after (TakesWell plan.page.next) (trees_kept es) (saved_now state) =
    subst (λ (s : Saved). AllTaken page_after (TakesWell plan.page.next) (trees_kept es) s) page there in
    let taken : AllTaken page_after (TakesWell done.state.side.page.next) (trees_kept es) (saved_now state) =
    subst (λ (n : ℕ). AllTaken page_after (TakesWell n) (trees_kept es) (saved_now state)) (sym next) here in
    let saved : saved_now done.state ≡ after_all page_after (trees_kept es) (saved_now state) =
    trees-saved es first ∙ ap (λ (s : Saved). after_all page_after (trees_kept es) s) page in
    let count = length-map es (λ (e : TreeEdit). Tree e) in
    recalls-more (omega (arith, trees-in-length (trees_kept es), count, p.short)) (omega (arith, count, p.short))
    (recalls-edited (trees_kept es) state done is.history taken saved (omega (arith, next, p.low)))

-- ---- the answer

numbers-after : {before : State} {done : Step} {ids : ℕ} → HasRoom before → ids ≤ 200000 → Well before done ids 100000 0
    → HasNumbers done.state
numbers-after room most well = record {
  ids = omega (arith, room.ids, most, well.few_ids);
  serials = omega (arith, room.serials, well.few_serials);
  sheets = omega (arith, room.sheets, well.few_sheets);
}

-- an id that is told is none that was not given
told-below : (shown : Bool) (id n : ℕ) → id ≤ n → cond shown id 0 ≤ n
told-below true id n h = h
told-below false id n h = omega arith

answer-well : (id : ℕ) (put : Option ℕ) (before : State) (done : Step) → HasRoom before → IsBegun done.state.client.session
    → is_counted id ≡ true → Well before done 2 100000 0
    → Well before (put_answer id put done) 100002 100000 0
answer-well id None before done room begun small well =
    more (omega arith) (omega arith) (omega arith) (well-answered id small (numbers-after room (omega arith) well) well)
answer-well id (Some serial) before done room begun small well =
    let pushed : Well done.state (push_step serial done.state) 100000 0 0 = push-well serial done.state well.now
    (numbers-after room (omega arith) well) begun in
    let shown : Well before (followed_by done (push_step serial)) 100002 100000 0 = then-well well pushed in
    let low : HasNumbers (push_step serial done.state).state = numbers-after room (omega arith) shown in
    let w : Session = (push_step serial done.state).state.client.session in
    let told = id_told (push_step serial done.state).state serial in
    let below : told ≤ length w.pushed = told-below (is_shown_now (push_step serial done.state).state serial) (session_ids w serial)
    (length w.pushed) (ids-below (nodes_shown (push_step serial done.state).state) w serial shown.now.session) in
    more (omega arith) (omega arith) (omega arith)
    (then-well shown (stays-with (replied id (NodeId told)) (push_step serial done.state).state shown.now low (
      refl,
      record {
        id_fits = small;
        plain = refl;
        fits = and_from (is_small told) true (lt-ltb told (2 ^ 53) (omega (arith, below, low.ids))) refl;
        texts = tt;
        levels = omega arith;
      },
    )))

-- ---- the step

-- the method may be answered so
abbrev MayPut : List ℕ → Option ℕ → Type 0
MayPut method None = MayAnswer method (replied 0 Nothing)
MayPut method (Some serial) = (id : ℕ) → MayAnswer method (replied 0 (NodeId id))

may-put : (method : List ℕ) (e : TreeWish) (page : PageValue) → IsNamed method e → MayPut method (node_put e page)
may-put method (One e) page named = named.2
may-put method (MoveNode node parent before) page named = named
may-put method (CopyNode node parent before) page named = named

-- the history is that of the edit, whatever becomes known behind it
put-recalls : (id : ℕ) (put : Option ℕ) (before : State) (done : Step) → Recalls before done.state 2 2
    → Recalls before (put_answer id put done).state 2 2
put-recalls id None before done recalls = recalls
put-recalls id (Some serial) before done recalls = recalls-on (push_step serial done.state).state recalls refl refl (omega arith)

answer-answered : (method : List ℕ) (sheet : Option ℕ) (id : ℕ) (put : Option ℕ) (before : State) (done : Step) → MayPut method put
    → AreEvents done.moves → Well before (put_answer id put done) 100002 100000 0
    → Recalls before (put_answer id put done).state 2 2 → Answered method sheet id 2 before (put_answer id put done)
answer-answered method sheet id None before done can are well recalls =
    reply-answered method sheet id 2 Nothing before done can are
    (steps-well {ids = 100002} (omega arith) (omega arith)
    (more (omega arith) (omega arith) (omega arith) well) recalls) recalls.few_edits
answer-answered method sheet id (Some serial) before done can are well recalls =
    let shown : Step = followed_by done (push_step serial) in
    let events : AreEvents shown.moves = events-append done.moves (push_step serial done.state).moves are (openings-events _) in
    reply-answered method sheet id 2 (NodeId (id_told shown.state serial)) before shown (can (id_told shown.state serial)) events
    (steps-well {ids = 100002} (omega arith) (omega arith) (more (omega arith) (omega arith) (omega arith) well) recalls) recalls.few_edits

unless-answered : (method : List ℕ) (sheet : Option ℕ) (id : ℕ) (fault : Option EditFault) (e : TreeWish) (state : State)
    → node_edit_fault e state.side.page ≡ fault → IsNamed method e → IsBegun state.client.session
    → IsState state → HasRoom state → is_counted id ≡ true → Answered method sheet id 2 state (unless_fault id fault e state)
unless-answered method sheet id (Some f) e state fits named begun is room small = refusal-answered method sheet id 2
    (edit_why f) state is room small
unless-answered method sheet id None e state fits named begun is room small =
    let page = state.side.page in
    let plan : Plan = node_edit_plan e page in
    let p : Planned state plan = node-edit-planned method state e is.now named fits in
    let done : Step = planned_by_client plan state in
    let well : Well state done 2 100000 0 = well-marked done.state.client.marks (plan-page-well state plan is.now room p) in
    answer-answered method sheet id (node_put e page) state done (may-put method e page named)
    (all-events plan.edits (with_page plan.page state))
    (answer-well id (node_put e page) state done room (begun-after plan.edits (with_page plan.page state) begun) small well)
    (put-recalls id (node_put e page) state done (plan-recalls state plan is p))

pub tree-edit-answered : (method : List ℕ) (sheet : Option ℕ) (id : ℕ) (edit : DomEdit) (state : State) → HasTreeTexts edit
    → AsksFor method edit → IsState state → HasRoom state → is_counted id ≡ true
    → Answered method sheet id 2 state (tree_edit_step id edit state)
tree-edit-answered method sheet id edit state texts asks is room small = at (edit_named (serial_now state) (lowered edit)) refl where
  at : (r : Result TreeWish Why) → edit_named (serial_now state) (lowered edit) ≡ r
      → Answered method sheet id 2 state (node_edit_step id r state)
  at (Err why) h = refusal-answered method sheet id 2 why state is room small
  at (Ok e) h =
      let named = named-is method (serial_now state) (lowered edit) e (lowered-texts edit texts) (lowered-asks method edit asks) h in
      unless-answered method sheet id (node_edit_fault e state.side.page) e state refl named.0
      (begun-known state.client.session state named.1.id named.1.serial named.1.is) is room small
