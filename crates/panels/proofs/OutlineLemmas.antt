-- The text of an outline after each change.
use Rattle.std.proofs.Common.{◌≡◌, ℕ, ◌+◌, ◌^◌, ◌<◌, ◌≤◌, Bool, true, Option, Some, None, IsSome, Result, Ok, Err, List, ◌++◌}
use Rattle.std.proofs.Common.{length, take, drop, refl, sym, ap, ◌∙◌, subst, arith, is_some}
use Rattle.std.specs.Prelude.{IfOk, IfSome}
use Rattle.std.specs.Option.{SomeIff}
use Rattle.std.specs.List.{list_all, concat}
use Rattle.node_tree.specs.Nodes.{Nodes, Branch, height}
use Rattle.node_tree.specs.Keys.{At, here, within, past, find, level_of}
use Rattle.node_tree.specs.Seen.{Seen, seen_id}
use Rattle.node_tree.proofs.KeyLemmas.{stands-find, found_key, height_above-at}
use Rattle.node_tree.proofs.ChangeLemmas.{at-back, level-at}
use Rattle.client_views.specs.Views.{IsMirror}
use Rattle.front_mirror.specs.Shown.{known_at}
use Rattle.front_mirror.specs.Outline.{seen_line, outline_text}
use Rattle.front_mirror.proofs.ChildLemmas.{known-found}
use Rattle.panels.specs.Lines.{is_line, outline_lines, shown_lines}
use Rattle.panels.proofs.RootLemmas.{concat-append, face-lines}
use Rattle.panels.proofs.LineLemmas.{lines_of}
use Rattle.panels.proofs.SpliceLemmas.{LinesTurn}

shown-at : {old new : Branch Seen} {depth : ℕ} {n m : Nodes Seen} → At old new depth n m → shown_lines n ≡ outline_lines n
shown-at (here t) = refl
shown-at (within depth r c m t e) = refl
shown-at (past depth r c t m e) = refl

if_ok : {A E : Type 0} (r : Result A E) (P Q : A → Type 0) → ((x : A) → P x → Q x) → IfOk r P → IfOk r Q
if_ok (Ok x) P Q f p = f x p
if_ok (Err e) P Q f p = p

-- lines in a text gave way to others
module _ {E : Type 0} (r : Result Bool E) (place count : ℕ) (old_text new_text more : List ℕ)
    (clause : (lines : List (List ℕ)) → old_text ≡ concat lines → list_all is_line lines ≡ true → place + count ≤ length lines
    → IfOk r (λ done. done ≡ true → new_text ≡ concat (take place lines) ++ (more ++ concat (drop (place + count) lines))))
    (before after : Nodes Seen) (was : IsMirror before) {old new : Branch Seen} {depth : ℕ} (e : At old new depth before after)
    (lines : List (List ℕ)) (made : more ≡ concat lines) (turn : LinesTurn place count lines before after)
    (shown : old_text ≡ outline_text seen_line before) where
  abbrev front : List (List ℕ)
  front = take place (outline_lines before)

  abbrev rest : List (List ℕ)
  rest = drop (place + count) (outline_lines before)

  after_is : concat front ++ (more ++ concat rest) ≡ outline_text seen_line after
  after_is =
      ap (λ k. concat front ++ (k ++ concat rest)) made
      ∙ ap (λ k. concat front ++ k) (sym (concat-append lines rest)) ∙ sym (concat-append front (lines ++ rest))
      ∙ ap (λ (l : List (List ℕ)). concat l) (sym turn.turned) ∙ ap (λ (l : List (List ℕ)). concat l) (sym (shown-at (at-back e)))
      ∙ sym (face-lines after)

  -- then the text is the outline after the change
  pub text_turned : IfOk r (λ done. done ≡ true → new_text ≡ outline_text seen_line after)
  text_turned =
      if_ok r (λ done. done ≡ true → new_text ≡ concat front ++ (more ++ concat rest)) _ (λ done f yes. f yes ∙ after_is)
      (clause (outline_lines before) (shown ∙ face-lines before ∙ ap (λ (l : List (List ℕ)). concat l) (shown-at e))
      (lines_of 0 before was.labels) turn.fits)

-- ---- a known node is not deep

pub known_low : (id level : ℕ) (n : Nodes Seen) → IsMirror n → IsSome (find seen_id id n) → level_of seen_id id 0 n ≡ Some level
    → level + height (known_at id n).children < 2 ^ 60
known_low id level n mirror known at =
    let found = known-found id n known in
    let s = stands-find seen_id id n (known_at id n) found in
    let key = found_key seen_id id n (known_at id n) found in
    let l : level_of seen_id id 0 n ≡ Some (0 + s.0) =
    subst (λ x. level_of seen_id x 0 n ≡ Some (0 + s.0)) key (level-at seen_id 0 s.2 (mirror.view.ids (known_at id n).row.id))
    in
    let same : level ≡ 0 + s.0 = let both : ◌≡◌ {A = Option ℕ} (Some level) (Some (0 + s.0)) = sym at ∙ l in cc in
    let h = height_above-at (at-back s.2) in
    let k = height_above-at s.2 in
    let low = mirror.view.levels in
    omega arith

pub shown_known : (id : ℕ) (n : Nodes Seen) (b : Bool) → b ≡ is_some (find seen_id id n) → b ≡ true → IsSome (find seen_id id n)
shown_known id n b e f = sym e ∙ f

-- a sum that fits is the number
pub sum_is : (o : Option ℕ) (P : Type 0) (v w : ℕ) → SomeIff o P v → v ≡ w → IfSome o (λ x. x ≡ w)
sum_is None P v w s e = tt
sum_is (Some x) P v w s e = s.1 ∙ e

-- a known node stands on a level
pub level_there : (id : ℕ) (n : Nodes Seen) → IsMirror n → IsSome (find seen_id id n) → (level : ℕ) × (level_of seen_id id 0 n ≡ Some level)
level_there id n mirror known =
    let found = known-found id n known in
    let s = stands-find seen_id id n (known_at id n) found in
    let key = found_key seen_id id n (known_at id n) found in (
      0 + s.0,
      subst (λ x. level_of seen_id x 0 n ≡ Some (0 + s.0)) key (level-at seen_id 0 s.2 (mirror.view.ids (known_at id n).row.id)),
    )

-- a node stands on one level
pub same_level : (o : Option ℕ) (a b : ℕ) → o ≡ Some a → o ≡ Some b → a ≡ b
same_level o a b e f = let both : ◌≡◌ {A = Option ℕ} (Some a) (Some b) = sym e ∙ f in cc
