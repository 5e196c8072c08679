-- How many edits a history has after each change of it.
use Rattle.std.proofs.Common.{◌≡◌, ℕ, ◌+◌, ◌≤◌, Bool, true, false, cond, List, [], ◌∷◌, ◌++◌, length, map, reverse, Option, Some, None}
use Rattle.std.proofs.Common.{refl, ap, ◌∙◌, subst, length-append, arith}
use Rattle.std.proofs.lemmas.List.{reverse-append, length-reverse, length-map}
use Rattle.undo_marks.specs.Marks.{Marks, entry_count, onto_newest, edited, group_moved}
use Rattle.undo_marks.specs.declared.histories.Direction.{Direction}
use Rattle.undo_marks.specs.declared.histories.Direction.TheVariants as directions
use Rattle.undo_marks.specs.Changes.{HistoryEntry as Entry, changes_on, backs_of}
use Rattle.undo_marks.specs.Saved.{Saved}
use Rattle.undo_marks.specs.SavedEdits.{page_after, way_back}
use Rattle.undo_marks.specs.declared.inverse_lists.Inverse.{Inverse}
use Rattle.undo_marks.specs.declared.inverse_lists.Inverse.TheVariants.{Tree, Sheet}
use Rattle.back_end.specs.States.{State}
use Rattle.back_end.specs.Steps.{taken_edits}
use Rattle.back_end.specs.Laws.{tree_edit, tree_edits_in, tree_edits_among, tree_edits, edits_kept}

-- an entry of a client's history
abbrev Noted : Type 0
Noted = Entry Saved Inverse

-- ---- edits of the tree among edits

tree-one : (e : Inverse) → tree_edit e ≤ 1
tree-one (Tree e) = omega arith
tree-one (Sheet s) = omega arith

trees-length : (g : List Noted) → tree_edits_in g ≤ length g
trees-length [] = omega arith
trees-length (x ∷ xs) = omega (arith, tree-one x.edit, trees-length xs)

trees-count : (gs : List (List Noted)) → tree_edits_among gs ≤ entry_count gs
trees-count [] = omega arith
trees-count (g ∷ gs) = omega (arith, trees-length g, trees-count gs)

pub trees-few : (state : State) → tree_edits state ≤ edits_kept state
trees-few state = omega (arith, trees-count state.client.marks.past, trees-count state.client.marks.future)

abbrev pub trees_in : List Inverse → ℕ
trees_in [] = 0
trees_in (e ∷ es) = tree_edit e + trees_in es

pub trees-in-length : (es : List Inverse) → trees_in es ≤ length es
trees-in-length [] = omega arith
trees-in-length (e ∷ es) = omega (arith, tree-one e, trees-in-length es)

pub changes-trees : (es : List Inverse) (page : Saved) → tree_edits_in (changes_on page_after es page) ≡ trees_in es
changes-trees [] page = refl
changes-trees (e ∷ es) page = omega (arith, changes-trees es (page_after e page))

pub changes-length : (es : List Inverse) (page : Saved) → length (changes_on page_after es page) ≡ length es
changes-length [] page = refl
changes-length (e ∷ es) page = omega (arith, changes-length es (page_after e page))

in-append : (xs ys : List Inverse) → trees_in (xs ++ ys) ≡ trees_in xs + trees_in ys
in-append [] ys = omega arith
in-append (x ∷ xs) ys = omega (arith, in-append xs ys)

in-reverse : (xs : List Inverse) → trees_in (reverse xs) ≡ trees_in xs
in-reverse [] = refl
in-reverse (x ∷ xs) =
    let split : trees_in (reverse (x ∷ xs)) ≡ trees_in (reverse xs) + trees_in (x ∷ []) =
    ap trees_in (reverse-append (x ∷ []) xs) ∙ in-append (reverse xs) (x ∷ []) in
    omega (arith, split, in-reverse xs)

-- what takes an edit of the tree back is one, and what takes a splice back is one
back-tree : (e : Inverse) (page : Saved) → tree_edit (way_back e page) ≡ tree_edit e
back-tree (Tree e) page = refl
back-tree (Sheet s) page = refl

backs-trees : (g : List Noted) → trees_in (backs_of way_back g) ≡ tree_edits_in g
backs-trees [] = refl
backs-trees (x ∷ xs) = omega (arith, back-tree x.edit x.before, backs-trees xs)

-- the edits that take a group back
pub undo-trees : (g : List Noted) → trees_in (reverse (backs_of way_back g)) ≡ tree_edits_in g
undo-trees g = in-reverse (backs_of way_back g) ∙ backs-trees g

-- and those that do it again
pub redo-trees : (g : List Noted) → trees_in (map (λ (e : Noted). e.edit) g) ≡ tree_edits_in g
redo-trees [] = refl
redo-trees (x ∷ xs) = omega (arith, redo-trees xs)

-- ---- a client's edit

trees-append : (xs ys : List Noted) → tree_edits_in (xs ++ ys) ≡ tree_edits_in xs + tree_edits_in ys
trees-append [] ys = omega arith
trees-append (x ∷ xs) ys = omega (arith, trees-append xs ys)

onto-trees : (xs : List Noted) (past : List (List Noted))
    → tree_edits_among (onto_newest xs past) ≡ tree_edits_among past + tree_edits_in xs
onto-trees xs [] = omega arith
onto-trees xs (g ∷ gs) = omega (arith, trees-append g xs)

onto-count : (xs : List Noted) (past : List (List Noted)) → entry_count (onto_newest xs past) ≡ entry_count past + length xs
onto-count xs [] = omega arith
onto-count xs (g ∷ gs) = omega (arith, length-append g xs)

past-trees : (going : Bool) (xs : List Noted) (past : List (List Noted))
    → tree_edits_among (cond going (onto_newest xs past) (xs ∷ past)) ≡ tree_edits_among past + tree_edits_in xs
past-trees true xs past = onto-trees xs past
past-trees false xs past = omega arith

past-count : (going : Bool) (xs : List Noted) (past : List (List Noted))
    → entry_count (cond going (onto_newest xs past) (xs ∷ past)) ≡ entry_count past + length xs
past-count true xs past = onto-count xs past
past-count false xs past = omega arith

-- the edits of the tree in a history, and all its edits
abbrev pub trees_of : Marks (Entry Saved Inverse) → ℕ
trees_of m = tree_edits_among m.past + tree_edits_among m.future

abbrev pub count_of : Marks (Entry Saved Inverse) → ℕ
count_of m = entry_count m.past + entry_count m.future

pub edited-trees : (xs : List Noted) (m : Marks Noted) → trees_of (edited xs m) ≤ trees_of m + tree_edits_in xs
edited-trees [] m = omega arith
edited-trees (x ∷ xs) m = omega (arith, past-trees m.going (x ∷ xs) m.past)

pub edited-count : (xs : List Noted) (m : Marks Noted) → count_of (edited xs m) ≤ count_of m + length xs
edited-count [] m = omega arith
edited-count (x ∷ xs) m = omega (arith, past-count m.going (x ∷ xs) m.past)

-- ---- a group goes from the one list to the other

-- neither number changes
pub record SameCounts (before after : Marks (Entry Saved Inverse)) : Type 0 where
  pub trees : trees_of after ≡ trees_of before
  pub count : count_of after ≡ count_of before

pub moved-counts : (way : Direction) (m : Marks Noted) → SameCounts m (group_moved way m)
moved-counts way m = at way m.past m.future m.going m.crossed where
  at : (way : Direction) (past future : List (List Noted)) (going crossed : Bool)
      → (let m : Marks Noted = record { past = past; future = future; going = going; crossed = crossed } in
      SameCounts m (group_moved way m))
  at directions.Undo [] future going crossed = record { trees = refl; count = refl }
  at directions.Undo (g ∷ gs) future going crossed = record { trees = omega arith; count = omega arith }
  at directions.Redo past [] going crossed = record { trees = refl; count = refl }
  at directions.Redo past (g ∷ gs) going crossed = record { trees = omega arith; count = omega arith }

-- ---- what is carried out

-- no more edits than the history has
pub record FewEdits (es : List Inverse) (m : Marks (Entry Saved Inverse)) : Type 0 where
  pub trees : trees_in es ≤ trees_of m
  pub count : length es ≤ count_of m

same-edits : (xs ys : List Inverse) → ◌≡◌ {A = Option (List Inverse)} (Some xs) (Some ys) → xs ≡ ys
same-edits xs ys e = cc

no-edits : {P : Type 0} (es : List Inverse) → ◌≡◌ {A = Option (List Inverse)} None (Some es) → P
no-edits es e = let no : ◌≡◌ {A = Option (List Inverse)} None (Some es) = e in absurd cc

pub few-taken : (way : Direction) (m : Marks Noted) (es : List Inverse) → taken_edits way m ≡ Some es → FewEdits es m
few-taken way m es e = at way m.past m.future m.going m.crossed e where
  at : (way : Direction) (past future : List (List Noted)) (going crossed : Bool)
      → (let m : Marks Noted = record { past = past; future = future; going = going; crossed = crossed } in taken_edits way m ≡ Some es
      → FewEdits es m)
  at directions.Undo [] future going crossed e = no-edits es e
  at directions.Undo (g ∷ gs) future going crossed e =
      let m : Marks Noted = record { past = g ∷ gs; future = future; going = going; crossed = crossed } in
      subst (λ (xs : List Inverse). FewEdits xs m) (same-edits (reverse (backs_of way_back g)) es e)
      (record {
        trees = omega (arith, undo-trees g);
        count = omega (arith, length-reverse (backs_of way_back g), length-map g (λ (x : Noted). way_back x.edit x.before));
      })
  at directions.Redo past [] going crossed e = no-edits es e
  at directions.Redo past (g ∷ gs) going crossed e =
      let m : Marks Noted = record { past = past; future = g ∷ gs; going = going; crossed = crossed } in
      subst (λ (xs : List Inverse). FewEdits xs m) (same-edits (map (λ (x : Noted). x.edit) g) es e)
      (record { trees = omega (arith, redo-trees g); count = omega (arith, length-map g (λ (x : Noted). x.edit)) })
