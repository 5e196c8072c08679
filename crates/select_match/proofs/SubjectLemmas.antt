-- What is computed of an element once.
use Rattle.std.proofs.Common.{◌≡◌, ℕ, ◌<◌, ◌≤◌, ◌==◌, Bool, true, false, not, ◌&&◌, ◌||◌, List, [], ◌∷◌, length, Option, Some, None, subst}
use Rattle.std.proofs.Common.{refl, sym, ap, ◌∙◌}
use Rattle.std.specs.Str.{bytes_eq}
use Rattle.std.specs.List.{list_any, list_all}
use Rattle.selectors.specs.Forms.{SimpleForm}
use Rattle.page_tree.specs.Zippers.{Zipper, earlier, later}
use Rattle.selectors.specs.declared.selector.NthKind.{NthKind}
use Rattle.select_match.specs.Texts.{has_word, value_passes}
use Rattle.select_match.specs.Elements.{index}
use Rattle.select_match.specs.Subjects.{pieces_in}
use Rattle.select_match.proofs.TextLemmas.{some_word, no_word}
use Rattle.select_match.proofs.WalkLemmas.{index-bound}

-- a place is bounded, since there are few siblings
pub place-bound : (kind : NthKind) (z w : Zipper) (place : ℕ) → place ≡ index kind z → w ≡ z → length (earlier w) < 100000
    → length (later w) < 100000 → place ≤ 100000
place-bound kind z w place is same before after =
    let at : index kind w ≡ place = ap (λ (v : Zipper). index kind v) same ∙ sym is in
    subst (λ (n : ℕ). n ≤ 100000) at (index-bound kind w before after)

module _ (quick p : SimpleForm → Bool) where
  -- all hold where the quick ones do and the others do
  quick-all : (ss : List SimpleForm) → (list_all (λ s. not (quick s) || p s) ss && list_all (λ s. quick s || p s) ss) ≡ list_all p ss
  quick-all [] = refl
  quick-all (s ∷ ss) = by (quick s) (p s) (list_all (λ s. not (quick s) || p s) ss) (quick-all ss)
    where
      by : (b c l : Bool) → (l && list_all (λ s. quick s || p s) ss) ≡ list_all p ss
          → (((not b || c) && l) && ((b || c) && list_all (λ s. quick s || p s) ss)) ≡ (c && list_all p ss)
      by true true l e = e
      by true false l e = refl
      by false true l e = e
      by false false true e = refl
      by false false false e = refl

  pub quick-fail : (ss : List SimpleForm) (element b : Bool) → b ≡ list_all (λ s. not (quick s) || p s) ss → b ≡ false
      → false ≡ (element && list_all p ss)
  quick-fail ss element b is fails =
      let none : list_all p ss ≡ false = sym (quick-all ss) ∙ ap (λ (l : Bool). l && list_all (λ s. quick s || p s) ss) (sym is ∙ fails) in
      sym (ap (λ (l : Bool). element && l) none ∙ and_false element)
    where
      and_false : (b : Bool) → (b && false) ≡ false
      and_false true = refl
      and_false false = refl

  pub quick-hold : (ss : List SimpleForm) (element b r : Bool) → element ≡ true → b ≡ list_all (λ s. not (quick s) || p s) ss → b ≡ true
      → r ≡ list_all (λ s. quick s || p s) ss → r ≡ (element && list_all p ss)
  quick-hold ss element b r there is holds others =
      others ∙ ap (λ (l : Bool). l && list_all (λ s. quick s || p s) ss) (sym (sym is ∙ holds)) ∙ quick-all ss ∙ ap
      (λ (e : Bool). e && list_all p ss) (sym there)

-- a word that is not empty is sought among the pieces
pub some_piece : (word : List ℕ) (value : Option (List ℕ)) → (length word == 0) ≡ false
    → list_any (λ w. bytes_eq w word) (pieces_in value) ≡ value_passes (has_word word) value
some_piece word None e = refl
some_piece word (Some text) e = some_word word text e

pub no_piece : (word : List ℕ) (value : Option (List ℕ)) → (length word == 0) ≡ true → false ≡ value_passes (has_word word) value
no_piece word None e = refl
no_piece word (Some text) e = no_word word text e
