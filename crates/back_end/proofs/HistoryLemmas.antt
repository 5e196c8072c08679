-- The history of a client's edits: for each change of the state, the edits that are kept for it then.
use Rattle.std.proofs.Common.{◌≡◌, ◌≤◌, ℕ, Bool, true, false, cond, bytes_eq, List, [], ◌∷◌, map, reverse, Option, Some, None, refl, sym}
use Rattle.std.specs.Prelude.{option_map}
use Rattle.std.proofs.Common.{ap, ◌∙◌, subst}
use Rattle.std.specs.Str.{IsUtf8}
use Rattle.std.proofs.lemmas.List.{reverse-reverse}
use Rattle.cdp_json.proofs.ReadTexts.{IfSome}
use Rattle.node_tree.specs.Nodes.{Branch, alone}
use Rattle.node_tree.specs.Labels.{Pair, value_of}
use Rattle.page_tree.specs.Pages.{PageRow}
use Rattle.page_tree.specs.Edits.{label_at, restored, back_tree}
use Rattle.page_tree.specs.declared.edits.TreeEdit.{TreeEdit}
use Rattle.page_tree.specs.declared.edits.TreeEdit.TheVariants.{SetAttr, DropAttr, SetText, Attach, Detach}
use Rattle.node_tree.specs.Labels.{PairsHaveUtf8}
use Rattle.dom_agent.specs.Laws.{RowsHaveUtf8}
use Rattle.undo_marks.specs.Marks.{Marks, no_marks, newest, handed_out, noted_singly, edited, marked, crossed_over, groups_of, group_moved}
use Rattle.undo_marks.specs.Marks.{group_popped, group_pushed}
use Rattle.undo_marks.specs.declared.histories.Direction.{Direction}
use Rattle.undo_marks.specs.declared.histories.Direction.TheVariants as directions
use Rattle.undo_marks.specs.Changes.{HistoryEntry as Entry, page_undone, page_redone, after_all, changes_on, back_all, AllTaken, backs_of}
use Rattle.undo_marks.specs.Changes.{again_of, kept_of, KeptFor, AreBacks, KeepsOn}
use Rattle.undo_marks.specs.Saved.{Saved}
use Rattle.undo_marks.specs.SavedEdits.{page_after, way_back}
use Rattle.undo_marks.specs.declared.inverse_lists.Inverse.{Inverse}
use Rattle.undo_marks.specs.declared.inverse_lists.Inverse.TheVariants.{Tree, Sheet}
use Rattle.undo_marks.proofs.HistoryLemmas.{keeps_on, kept_grow}
use Rattle.undo_marks.proofs.PageLemmas.{edits_are_backs, taken_later}
use Rattle.back_end.specs.Texts.{EditHasTexts}
use Rattle.back_end.specs.States.{State, saved_now, TakesWell, HasHistory, Keeps}
use Rattle.back_end.specs.Steps.{Step, with_marks, keeping, with_crossed, taken_edits}
use Rattle.back_end.proofs.TextLemmas.{node_at-texts, after-texts}

-- ---- edits, and the edits that lead back

value-texts : (name : List ℕ) (ps : List Pair) → PairsHaveUtf8 ps → IfSome IsUtf8 (value_of name ps)
value-texts name [] us = tt
value-texts name (p ∷ ps) us = at (bytes_eq p.0 name) (value-texts name ps us.2) where
  at : (b : Bool) → IfSome IsUtf8 (value_of name ps) → IfSome IsUtf8 (cond b (Some p.1) (value_of name ps))
  at true later = us.1
  at false later = later

restored-texts : (serial : ℕ) (name : List ℕ) (o : Option (List ℕ)) → IsUtf8 name → IfSome IsUtf8 o → EditHasTexts (restored serial name o)
restored-texts serial name None has old = has
restored-texts serial name (Some value) has old = (has, old)

-- the texts of the edit that leads back are those of the tree before
pub back-texts : (e : TreeEdit) (tree : Branch PageRow) → EditHasTexts e → RowsHaveUtf8 (alone tree) → EditHasTexts (back_tree e tree)
back-texts (SetAttr serial name value) tree has us =
    let node = node_at-texts serial tree us in
    restored-texts serial name (value_of name (label_at serial tree).attributes) has.0
    (value-texts name (label_at serial tree).attributes node.0.2)
back-texts (DropAttr serial name) tree has us =
    let node = node_at-texts serial tree us in
    restored-texts serial name (value_of name (label_at serial tree).attributes) has
    (value-texts name (label_at serial tree).attributes node.0.2)
back-texts (SetText serial value) tree has us = let node = node_at-texts serial tree us in node.0.1
back-texts (Attach parent before w) tree has us = tt
back-texts (Detach serial) tree has us = node_at-texts serial tree us

taken-back : (next : ℕ) (e : Inverse) (page : Saved) → TakesWell next e page → TakesWell next (way_back e page) (page_after e page)
taken-back next (Tree e) page t = record {
  taken = (edits_are_backs next).takes_back (Tree e) page t.taken;
  texts = after-texts e page.tree t.own t.texts;
  own = back-texts e page.tree t.own t.texts;
}
taken-back next (Sheet s) page t =
    let back = (edits_are_backs next).takes_back (Sheet s) page t.taken in
    record { taken = back; texts = t.texts; own = back.text }

pub backs-well : (next : ℕ) → AreBacks page_after way_back (TakesWell next)
backs-well next = record {
  takes_back = taken-back next;
  leads_back = λ e page t. (edits_are_backs next).leads_back e page t.taken;
  back_back = λ e page t. (edits_are_backs next).back_back e page t.taken;
}

pub keeps-on : (next : ℕ) → KeepsOn page_after way_back (TakesWell next)
keeps-on next = keeps_on page_after way_back (TakesWell next) (backs-well next)

-- what a page takes, it takes under a later next serial
pub well-later : (next later : ℕ) → next ≤ later → (e : Inverse) (page : Saved) → TakesWell next e page → TakesWell later e page
well-later next later h e page t = record { taken = taken_later next later h e page t.taken; texts = t.texts; own = t.own }

-- ---- what is kept

-- these edits are kept for this history, whose page this is
abbrev pub KeepsFor : ℕ → Marks Inverse → Marks (Entry Saved Inverse) → Saved → Type 0
KeepsFor next h m page = KeptFor page_after way_back (TakesWell next) h m page

pub keeps-later : (next later : ℕ) (h : Marks Inverse) (m : Marks (Entry Saved Inverse)) (page : Saved) → next ≤ later
    → KeepsFor next h m page → KeepsFor later h m page
keeps-later next later h m page low k = kept_grow page_after way_back (TakesWell next) (TakesWell later)
    (well-later next later low) h m page k

-- what a valid state keeps
abbrev pub kept_in : State → Marks Inverse
kept_in state = kept_of way_back state.client.marks

pub history-kept : (state : State) → HasHistory state → Keeps (kept_in state) state
history-kept state h = record { edits = refl; history = h }

-- the history and the page stay, and the next serial may go on
pub keeps-same : (h : Marks Inverse) (before after : State) → Keeps h before → after.client.marks ≡ before.client.marks
    → saved_now after ≡ saved_now before
    → before.side.page.next ≤ after.side.page.next → Keeps h after
keeps-same h before after k marks saved low =
    let next = after.side.page.next in
    let m = before.client.marks in
    let grown : KeepsFor next h m (saved_now before) = keeps-later before.side.page.next next h m (saved_now before) low k in
    let here : KeepsFor next h m (saved_now after) = subst (λ (page : Saved). KeepsFor next h m page) (sym saved) grown in
    subst (λ (x : Marks (Entry Saved Inverse)). KeepsFor next h x (saved_now after)) (sym marks) here

-- a client's edits are noted by the edits that lead back
pub keeps-edited : (h : Marks Inverse) (es : List Inverse) (state : State) (done : Step) → Keeps h state
    → AllTaken page_after (TakesWell done.state.side.page.next) es (saved_now state)
    → saved_now done.state ≡ after_all page_after es (saved_now state)
    → state.side.page.next ≤ done.state.side.page.next
    → Keeps (noted_singly (back_all page_after way_back es (saved_now state)) h) (keeping es state done).state
keeps-edited h es state done k taken saved low =
    let next = done.state.side.page.next in
    let m = state.client.marks in
    let page = saved_now state in
    let grown : KeepsFor next h m page = keeps-later state.side.page.next next h m page low k in
    let backs = noted_singly (back_all page_after way_back es page) h in
    let noted : KeepsFor next backs (edited (changes_on page_after es page) m) (after_all page_after es page) =
    ((keeps-on next).after_changes h m page grown).after_notes es taken in
    subst (λ (p : Saved). KeepsFor next backs (edited (changes_on page_after es page) m) p) (sym saved) noted

pub keeps-marked : (h : Marks Inverse) (state : State) → Keeps h state → Keeps (marked h) (with_marks (marked state.client.marks) state)
keeps-marked h state k = ((keeps-on state.side.page.next).after_changes h state.client.marks (saved_now state) k).after_mark

-- a change that is not the client's empties it, whatever the page is then
pub keeps-crossed : (h : Marks Inverse) (before after : State) → Keeps h before → after.client.marks ≡ before.client.marks
    → Keeps (crossed_over h) (with_crossed after)
keeps-crossed h before after k marks =
    let next = before.side.page.next in
    let crossed : KeepsFor next (crossed_over h) (crossed_over before.client.marks) (saved_now before) =
    ((keeps-on next).after_changes h before.client.marks (saved_now before) k).after_cross (saved_now before) in
    record {
      edits = crossed.edits ∙ ap (λ (m : Marks (Entry Saved Inverse)). kept_of way_back (crossed_over m)) (sym marks);
      history = record { past = tt; future = tt; going = λ t n. cc };
    }

-- nothing is kept after a load
pub keeps-cleared : (state : State) → state.client.marks ≡ no_marks → Keeps no_marks state
keeps-cleared state marks =
    subst (λ (m : Marks (Entry Saved Inverse)). KeepsFor state.side.page.next no_marks m (saved_now state)) (sym marks)
    ((keeps-on state.side.page.next).at_start (saved_now state))

-- ---- undo and redo

-- what is handed out of what is kept is what the state carries out
past-out : (past : List (List (Entry Saved Inverse)))
    → handed_out (map (backs_of way_back) past) ≡ option_map (λ g. reverse (backs_of way_back g)) (newest past)
past-out [] = refl
past-out (g ∷ gs) = refl

future-out : (future : List (List (Entry Saved Inverse)))
    → handed_out (map (again_of way_back) future) ≡ option_map (λ g. map (λ e. e.edit) g) (newest future)
future-out [] = refl
future-out (g ∷ gs) = ap (λ (l : List Inverse). Some l) (reverse-reverse (map (λ (e : Entry Saved Inverse). e.edit) g))

kept-out : (way : Direction) (m : Marks (Entry Saved Inverse)) → handed_out (groups_of way (kept_of way_back m)) ≡ taken_edits way m
kept-out directions.Undo m = past-out m.past
kept-out directions.Redo m = future-out m.future

pub taken-out : (way : Direction) (h : Marks Inverse) (o : Option (List Inverse)) (state : State) → Keeps h state
    → handed_out (groups_of way h) ≡ o → taken_edits way state.client.marks ≡ o
taken-out way h o state k out =
    sym (kept-out way state.client.marks) ∙ ap (λ (x : Marks Inverse). handed_out (groups_of way x)) (sym k.edits) ∙ out

-- the saved page that an undo or a redo leads to
abbrev pub page_led : Direction → Marks (Entry Saved Inverse) → Saved → Saved
page_led directions.Undo m page = page_undone m.past page
page_led directions.Redo m page = page_redone m.future page

-- Edits that are handed out are those that the state carries out, and the page takes each; where they led, the history is kept on.
pub record Hands (way : Direction) (h : Marks Inverse) (es : List Inverse) (state : State) : Type 0 where
  pub edits : taken_edits way state.client.marks ≡ Some es
  pub taken : AllTaken page_after (TakesWell state.side.page.next) es (saved_now state)
  pub ends : after_all page_after es (saved_now state) ≡ page_led way state.client.marks (saved_now state)
  pub kept : (after : State) → saved_now after ≡ after_all page_after es (saved_now state) → state.side.page.next ≤ after.side.page.next
      → Keeps (group_pushed way (back_all page_after way_back es (saved_now state)) (group_popped way h))
      (with_marks (group_moved way state.client.marks) after)

-- what is kept for a page is kept for a state with that page
kept-there : (next : ℕ) (h : Marks Inverse) (m : Marks (Entry Saved Inverse)) (page : Saved) (after : State) → KeepsFor next h m page
    → saved_now after ≡ page → next ≤ after.side.page.next → Keeps h (with_marks m after)
kept-there next h m page after k saved low =
    subst (λ (p : Saved). KeepsFor after.side.page.next h m p) (sym saved) (keeps-later next after.side.page.next h m page low k)

pub hands-group : (way : Direction) (h : Marks Inverse) (es : List Inverse) (state : State) → Keeps h state
    → handed_out (groups_of way h) ≡ Some es → Hands way h es state
hands-group directions.Undo h es state k out =
    let u = ((keeps-on state.side.page.next).after_changes h state.client.marks (saved_now state) k).after_undo es out in
    record {
      edits = taken-out directions.Undo h (Some es) state k out;
      taken = u.taken;
      ends = u.ends;
      kept = λ after saved low. kept-there state.side.page.next _ _ _ after u.kept_on (saved ∙ u.ends) low;
    }
hands-group directions.Redo h es state k out =
    let u = ((keeps-on state.side.page.next).after_changes h state.client.marks (saved_now state) k).after_redo es out in
    record {
      edits = taken-out directions.Redo h (Some es) state k out;
      taken = u.taken;
      ends = u.ends;
      kept = λ after saved low. kept-there state.side.page.next _ _ _ after u.kept_on (saved ∙ u.ends) low;
    }

-- Nothing is handed out: there is nothing that the state carries out, and nothing changes.
pub record HandsNone (way : Direction) (h : Marks Inverse) (state : State) : Type 0 where
  pub edits : taken_edits way state.client.marks ≡ None
  pub kept : Keeps (group_popped way h) state
  pub crossed : h.crossed ≡ state.client.marks.crossed
  pub stays : group_moved way state.client.marks ≡ state.client.marks
  pub ends : page_led way state.client.marks (saved_now state) ≡ saved_now state

pub hands-none : (way : Direction) (h : Marks Inverse) (state : State) → Keeps h state → handed_out (groups_of way h) ≡ None
    → HandsNone way h state
hands-none directions.Undo h state k out =
    let s = (keeps-on state.side.page.next).after_changes h state.client.marks (saved_now state) k in
    record {
      edits = taken-out directions.Undo h None state k out;
      kept = subst (λ (x : Marks Inverse). Keeps x state) (sym (s.at_no_past out).kept_stays) k;
      crossed = s.flags.1;
      stays = (s.at_no_past out).stays;
      ends = ap (λ (past : List (List (Entry Saved Inverse))). page_undone past (saved_now state)) (s.at_no_past out).none_saved;
    }
hands-none directions.Redo h state k out =
    let s = (keeps-on state.side.page.next).after_changes h state.client.marks (saved_now state) k in
    record {
      edits = taken-out directions.Redo h None state k out;
      kept = subst (λ (x : Marks Inverse). Keeps x state) (sym (s.at_no_future out).kept_stays) k;
      crossed = s.flags.1;
      stays = (s.at_no_future out).stays;
      ends = ap (λ (future : List (List (Entry Saved Inverse))). page_redone future (saved_now state)) (s.at_no_future out).none_saved;
    }
