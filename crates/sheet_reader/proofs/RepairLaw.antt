-- A reading of which a part is read anew is that of the new text.
use Rattle.std.proofs.Common.{◌≡◌, ◌⊎◌, inl, inr, ℕ, suc, ◌+◌, ◌-◌, ◌<◌, ◌≤◌, Bool, true, false, cond, List, [], ◌∷◌, ◌++◌, map, take}
use Rattle.std.proofs.Common.{drop}
use Rattle.std.proofs.Common.{length, All, Option, Some, None, refl, sym, ap, subst, ◌∙◌, append_assoc, length-append, arith}
use Rattle.std.specs.Prelude.{nat_le, option_map, IfSome}
use Rattle.std.specs.List.{prefix_len}
use Rattle.std.proofs.lemmas.List.{length-map}
use Rattle.std.proofs.lemmas.List.Elements.{All-nil, All-cons, All-head, All-tail}
use Rattle.std.proofs.lemmas.Bool.Decides.{nat_tests}
use Rattle.std.proofs.Math.Seq.{drop-append_seam, take-append_seam}
use Rattle.node_tree.specs.Numbers.{number_limit}
use Rattle.css_tokens.specs.declared.token.Range.{Range}
use Rattle.css_tokens.specs.Pieces.{pieces}
use Rattle.selectors.specs.Forms.{SelectorForm}
use Rattle.selectors.specs.Moves.{Cut, cut, moved_place, placed_range, placed_selector, CanPlace, CanPlaceRange}
use Rattle.sheet_reader.specs.declared.parts.Level.TheVariants.{Top}
use Rattle.sheet_reader.specs.declared.repairs.Share.{Share}
use Rattle.sheet_reader.specs.declared.sheet.MediaRule.{MediaRule}
use Rattle.sheet_reader.specs.declared.sheet.Property.{Property}
use Rattle.sheet_reader.specs.declared.sheet.Sheet.{Sheet}
use Rattle.sheet_reader.specs.Around.{IsBelow}
use Rattle.sheet_reader.specs.Forms.{RuleForm}
use Rattle.sheet_reader.specs.Joins.{is_shut_text, behind_rule, behind_media, joined}
use Rattle.sheet_reader.specs.Moves.{placed_property, IsWithin, IsPropertyWithin, CanPlaceProperty}
use Rattle.sheet_reader.specs.Parts.{parts}
use Rattle.sheet_reader.specs.Repairs.{shared, moved_number, renumbered_rule, renumbered_media, IsShare, CanNumber, CanRenumberRule}
use Rattle.sheet_reader.specs.Repairs.{CanRenumberMedia, IsRuleWithin, IsShareOf, body_starts, prelude_ends}
use Rattle.sheet_reader.specs.Sheets.{places_in, sheet_of}
use Rattle.sheet_reader.proofs.LaidMoves.{goes}
use Rattle.sheet_reader.proofs.JoinedLaw.{joined_holds, map_both}
use Rattle.sheet_reader.proofs.JoinForms.{map_append}
use Rattle.sheet_reader.proofs.RepairSeams.{empty_rules, empty_media, empty_places, joined_or}
use Rattle.sheet_reader.proofs.RepairBounds.{starts_from, ends_from, places_from, AreFrom, raised_from}

-- ---- what is moved twice
module _ (f h h2 g l l2 : ℕ → ℕ) (at : (x : ℕ) → f (h x) ≡ h2 x) (number : (x : ℕ) → g (l x) ≡ l2 x) where
  number_both : (o : Option ℕ) → option_map g (option_map l o) ≡ option_map l2 o
  number_both None = refl
  number_both (Some x) = ap (λ (n : ℕ). Some n) (number x)

  rule_both : (r : RuleForm) → renumbered_rule f g (renumbered_rule h l r) ≡ renumbered_rule h2 l2 r
  rule_both r =
      let ss = map_both (placed_selector f) (placed_selector h) (placed_selector h2) (λ s. λ i. record {
        compounds = s.compounds;
        pseudo_element = s.pseudo_element;
        range = record { start = at s.range.start i; end = at s.range.end i };
      }) r.selectors in
      let ps = map_both (placed_property f) (placed_property h) (placed_property h2) (λ s. λ i. record {
        name = s.name;
        value = record { start = at s.value.start i; end = at s.value.end i };
        important = s.important;
        whole = record { start = at s.whole.start i; end = at s.whole.end i };
      }) r.properties in
      let o = number_both r.media in
      λ i. record {
        prelude = record { start = at r.prelude.start i; end = at r.prelude.end i };
        selectors = ss i;
        body = record { start = at r.body.start i; end = at r.body.end i };
        properties = ps i;
        media = o i;
      }

  media_both : (m : MediaRule) → renumbered_media f g (renumbered_media h l m) ≡ renumbered_media h2 l2 m
  media_both m =
      let o = number_both m.inside in
      λ i. record { prelude = record { start = at m.prelude.start i; end = at m.prelude.end i }; inside = o i }

-- ---- what stands behind the part, with all its places and numbers moved

-- a rule behind n bytes and k media rules, and then behind others
abbrev pub twice_rule : ℕ → ℕ → ℕ → ℕ → RuleForm → RuleForm
twice_rule p k m j r = behind_rule p k (behind_rule m j r)

-- so for a media rule
abbrev pub twice_media : ℕ → ℕ → ℕ → ℕ → MediaRule → MediaRule
twice_media p k m j r = behind_media p k (behind_media m j r)

twice_is : (p k m j : ℕ) (r : RuleForm) → twice_rule p k m j r ≡ renumbered_rule (λ x. p + (m + x)) (λ x. k + (j + x)) r
twice_is p k m j r =
    rule_both (λ x. p + x) (λ x. m + x) (λ x. p + (m + x)) (λ x. k + x) (λ x. j + x) (λ x. k + (j + x)) (λ x. refl) (λ x. refl) r

media_twice : (p k m j : ℕ) (r : MediaRule) → twice_media p k m j r ≡ renumbered_media (λ x. p + (m + x)) (λ x. k + (j + x)) r
media_twice p k m j r =
    media_both (λ x. p + x) (λ x. m + x) (λ x. p + (m + x)) (λ x. k + x) (λ x. j + x) (λ x. k + (j + x)) (λ x. refl) (λ x. refl) r

-- the part of m bytes and j media rules, behind p bytes and k media rules, makes way for n bytes and i media rules
module _ (p m n k j i : ℕ) (some : 0 < p + m) where
  place_goes : (x : ℕ) → moved_place (cut 0 (p + m) (p + n)) (p + (m + x)) ≡ p + (n + x)
  place_goes x = goes (cut 0 (p + m) (p + n)) (p + (m + x)) (omega (arith, some)) ∙ omega arith

  number_goes : (x : ℕ) → moved_number (record { before = k; to = k + j }) i (k + (j + x)) ≡ k + (i + x)
  number_goes x = let e : k + (j + x) - (k + j) + (k + i) ≡ k + (i + x) = omega arith in e

  pub rule_goes : (r : RuleForm)
      → renumbered_rule (moved_place (cut 0 (p + m) (p + n))) (moved_number (record { before = k; to = k + j }) i) (twice_rule p k m j r)
      ≡ twice_rule p k n i r
  rule_goes r =
      let f = moved_place (cut 0 (p + m) (p + n)) in
      let g = moved_number (record { before = k; to = k + j }) i in
      ap (renumbered_rule f g) (twice_is p k m j r)
      ∙ rule_both f (λ x. p + (m + x)) (λ x. p + (n + x)) g (λ x. k + (j + x)) (λ x. k + (i + x)) place_goes number_goes r
      ∙ sym (twice_is p k n i r)

  pub media_goes : (r : MediaRule)
      → renumbered_media (moved_place (cut 0 (p + m) (p + n))) (moved_number (record { before = k; to = k + j }) i) (twice_media p k m j r)
      ≡ twice_media p k n i r
  media_goes r =
      let f = moved_place (cut 0 (p + m) (p + n)) in
      let g = moved_number (record { before = k; to = k + j }) i in
      ap (renumbered_media f g) (media_twice p k m j r)
      ∙ media_both f (λ x. p + (m + x)) (λ x. p + (n + x)) g (λ x. k + (j + x)) (λ x. k + (i + x)) place_goes number_goes r
      ∙ sym (media_twice p k n i r)

  pub places_go : (xs : List ℕ) → map (moved_place (cut 0 (p + m) (p + n))) (map (λ x. p + x) (map (λ x. m + x) xs))
      ≡ map (λ x. p + x) (map (λ x. n + x) xs)
  places_go xs =
      let g = moved_place (cut 0 (p + m) (p + n)) in
      ap (map g) (map_both (λ x. p + x) (λ x. m + x) (λ x. p + (m + x)) (λ x. refl) xs)
      ∙ map_both g (λ x. p + (m + x)) (λ x. p + (n + x)) place_goes xs
      ∙ sym (map_both (λ x. p + x) (λ x. n + x) (λ x. p + (n + x)) (λ x. refl) xs)

  -- and what stands there can be moved, where the new text is not too long
  place_can : (b x : ℕ) → p + n + b < number_limit → x ≤ b → CanPlace (cut 0 (p + m) (p + n)) (p + (m + x))
  place_can b x short fits = record { outside = λ _. omega arith; fits = let e = place_goes x in omega (arith, e, short, fits) }

  range_can : (b : ℕ) (r : Range) → p + n + b < number_limit → IsWithin b r
      → CanPlaceRange (cut 0 (p + m) (p + n)) (placed_range (λ x. p + x) (placed_range (λ x. m + x) r))
  range_can b r short w = record { front = place_can b r.start short w.front; back = place_can b r.end short w.back }

  selectors_can : (b : ℕ) (ss : List SelectorForm) → p + n + b < number_limit → All (λ s. IsWithin b s.range) ss
      → All (λ s. CanPlaceRange (cut 0 (p + m) (p + n)) s.range)
      (map (placed_selector (λ x. p + x)) (map (placed_selector (λ x. m + x)) ss))
  selectors_can b [] short all = All-nil (λ (s : SelectorForm). CanPlaceRange (cut 0 (p + m) (p + n)) s.range)
  selectors_can b (s ∷ ss) short all =
      All-cons (λ (s : SelectorForm). CanPlaceRange (cut 0 (p + m) (p + n)) s.range) _ _
      (range_can b s.range short (All-head (λ (s : SelectorForm). IsWithin b s.range) s ss all))
      (selectors_can b ss short (All-tail (λ (s : SelectorForm). IsWithin b s.range) s ss all))

  properties_can : (b : ℕ) (ps : List Property) → p + n + b < number_limit → All (IsPropertyWithin b) ps
      → All (CanPlaceProperty (cut 0 (p + m) (p + n))) (map (placed_property (λ x. p + x)) (map (placed_property (λ x. m + x)) ps))
  properties_can b [] short all = All-nil (CanPlaceProperty (cut 0 (p + m) (p + n)))
  properties_can b (s ∷ ss) short all =
      let w = All-head (IsPropertyWithin b) s ss all in
      All-cons (CanPlaceProperty (cut 0 (p + m) (p + n))) _ _
      (record { value = range_can b s.value short w.value; whole = range_can b s.whole short w.whole })
      (properties_can b ss short (All-tail (IsPropertyWithin b) s ss all))

  number_can : (d : ℕ) (o : Option ℕ) → k + i + d < number_limit → IsBelow d o
      → IfSome (option_map (λ x. k + x) (option_map (λ x. j + x) o)) (CanNumber (record { before = k; to = k + j }) i)
  number_can d None few below = tt
  number_can d (Some x) few below =
      let less : x < d = below in record { behind = omega arith; fits = let e = number_goes x in omega (arith, e, few, less) }

  pub rules_can : (b d : ℕ) (rs : List RuleForm) → p + n + b < number_limit → k + i + d < number_limit → All (IsRuleWithin b) rs
      → All (λ r. IsBelow d r.media) rs
      → All (CanRenumberRule (cut 0 (p + m) (p + n)) (record { before = k; to = k + j }) i) (map (twice_rule p k m j) rs)
  rules_can b d [] short few all below = All-nil (CanRenumberRule (cut 0 (p + m) (p + n)) (record { before = k; to = k + j }) i)
  rules_can b d (r ∷ rs) short few all below =
      let w = All-head (IsRuleWithin b) r rs all in
      All-cons (CanRenumberRule (cut 0 (p + m) (p + n)) (record { before = k; to = k + j }) i) _ _ (record {
        places = record {
          head = record { prelude = range_can b r.prelude short w.prelude; selectors = selectors_can b r.selectors short w.selectors };
          body = range_can b r.body short w.body;
          properties = properties_can b r.properties short w.properties;
        };
        number = number_can d r.media few (All-head (λ (r : RuleForm). IsBelow d r.media) r rs below);
      }) (rules_can b d rs short few (All-tail (IsRuleWithin b) r rs all) (All-tail (λ (r : RuleForm). IsBelow d r.media) r rs below))

  pub media_can : (b d : ℕ) (ms : List MediaRule) → p + n + b < number_limit → k + i + d < number_limit
      → All (λ r. IsWithin b r.prelude) ms → All (λ r. IsBelow d r.inside) ms
      → All (CanRenumberMedia (cut 0 (p + m) (p + n)) (record { before = k; to = k + j }) i) (map (twice_media p k m j) ms)
  media_can b d [] short few all below = All-nil (CanRenumberMedia (cut 0 (p + m) (p + n)) (record { before = k; to = k + j }) i)
  media_can b d (r ∷ rs) short few all below =
      All-cons (CanRenumberMedia (cut 0 (p + m) (p + n)) (record { before = k; to = k + j }) i) _ _ (record {
        places = range_can b r.prelude short (All-head (λ (r : MediaRule). IsWithin b r.prelude) r rs all);
        number = number_can d r.inside few (All-head (λ (r : MediaRule). IsBelow d r.inside) r rs below);
      }) (media_can b d rs short few (All-tail (λ (r : MediaRule). IsWithin b r.prelude) r rs all)
      (All-tail (λ (r : MediaRule). IsBelow d r.inside) r rs below))

  pub places_can : (b : ℕ) (xs : List ℕ) → p + n + b < number_limit → AreFrom 0 b xs
      → All (CanPlace (cut 0 (p + m) (p + n))) (map (λ x. p + x) (map (λ x. m + x) xs))
  places_can b [] short all = All-nil (CanPlace (cut 0 (p + m) (p + n)))
  places_can b (x ∷ xs) short all =
      All-cons (CanPlace (cut 0 (p + m) (p + n))) _ _ (place_can b x short all.1) (places_can b xs short all.2)

-- ---- shares

-- so many of these do not stand behind a place
abbrev pub count : ℕ → List ℕ → ℕ
count place xs = prefix_len (λ x. nat_le x place) xs

le_true : (a b : ℕ) → a ≤ b → nat_le a b ≡ true
le_true a b e = grind (arith, nat_tests)

le_false : (a b : ℕ) → b < a → nat_le a b ≡ false
le_false a b e = grind (arith, nat_tests)

count_more : (p x : ℕ) (xs : List ℕ) → x ≤ p → count p (x ∷ xs) ≡ suc (count p xs)
count_more p x xs e =
    let one : 1 + count p xs ≡ suc (count p xs) = omega arith in
    ap (λ (b : Bool). cond b (1 + count p xs) 0) (le_true x p e) ∙ one

count_none : (p hi : ℕ) (ys : List ℕ) → AreFrom p hi ys → count p ys ≡ 0
count_none p hi [] all = refl
count_none p hi (y ∷ ys) all = ap (λ (b : Bool). cond b (1 + count p ys) 0) (le_false y p all.0)

-- none stands behind a place
abbrev pub AreUpTo : ℕ → List ℕ → Type 0
AreUpTo p [] = Unit {0}
AreUpTo p (x ∷ xs) = (x ≤ p) × AreUpTo p xs

from_up : (lo hi p : ℕ) (xs : List ℕ) → hi ≤ p → AreFrom lo hi xs → AreUpTo p xs
from_up lo hi p [] fits all = tt
from_up lo hi p (x ∷ xs) fits all = (omega (arith, fits, all.1), from_up lo hi p xs fits all.2)

up_wide : (p q : ℕ) (xs : List ℕ) → p ≤ q → AreUpTo p xs → AreUpTo q xs
up_wide p q [] fits all = tt
up_wide p q (x ∷ xs) fits all = (omega (arith, fits, all.0), up_wide p q xs fits all.1)

up_append : (p : ℕ) (xs ys : List ℕ) → AreUpTo p xs → AreUpTo p ys → AreUpTo p (xs ++ ys)
up_append p [] ys a b = b
up_append p (x ∷ xs) ys a b = (a.0, up_append p xs ys a.1 b)

count_front : (p hi : ℕ) (xs ys : List ℕ) → AreUpTo p xs → AreFrom p hi ys → count p (xs ++ ys) ≡ length xs
count_front p hi [] ys all more = count_none p hi ys more
count_front p hi (x ∷ xs) ys all more = count_more p x (xs ++ ys) all.0 ∙ ap suc (count_front p hi xs ys all.1 more)

from_wide : (lo hi lo2 hi2 : ℕ) (xs : List ℕ) → lo2 ≤ lo → hi ≤ hi2 → AreFrom lo hi xs → AreFrom lo2 hi2 xs
from_wide lo hi lo2 hi2 [] a b all = tt
from_wide lo hi lo2 hi2 (x ∷ xs) a b all = (omega (arith, a, all.0), omega (arith, b, all.1), from_wide lo hi lo2 hi2 xs a b all.2)

from_append : (lo hi : ℕ) (xs ys : List ℕ) → AreFrom lo hi xs → AreFrom lo hi ys → AreFrom lo hi (xs ++ ys)
from_append lo hi [] ys a b = b
from_append lo hi (x ∷ xs) ys a b = (a.0, a.1, from_append lo hi xs ys a.2 b)

-- of two places no fewer stand before the later one
pub count_less : (p q : ℕ) (xs : List ℕ) → p ≤ q → count p xs ≤ count q xs
count_less p q [] e = omega arith
count_less p q (x ∷ xs) e = by (count_less p q xs e) (nat_le x p) refl
  where
    le : nat_le x p ≡ true → x ≤ p
    le e = grind (arith, nat_tests)

    by : count p xs ≤ count q xs → (b : Bool) → nat_le x p ≡ b
        → cond (nat_le x p) (1 + count p xs) 0 ≤ cond (nat_le x q) (1 + count q xs) 0
    by more false is = let none = ap (λ (b : Bool). cond b (1 + count p xs) 0) is in omega (arith, none)
    by more true is =
        let first = ap (λ (b : Bool). cond b (1 + count p xs) 0) is in
        let less = le is in
        let second = ap (λ (b : Bool). cond b (1 + count q xs) 0) (le_true x q (omega (arith, less, e))) in
        omega (arith, first, second, more)

pub count_fits : (p : ℕ) (xs : List ℕ) → count p xs ≤ length xs
count_fits p [] = omega arith
count_fits p (x ∷ xs) = by (nat_le x p) (count_fits p xs)
  where
    by : (b : Bool) → count p xs ≤ length xs → cond b (1 + count p xs) 0 ≤ suc (length xs)
    by true more = omega (arith, more)
    by false more = omega arith

pub share_within : (xs : List ℕ) (stretch : Range) (share : Share) → stretch.start ≤ stretch.end → IsShareOf xs stretch share
    → IsShare (length xs) share
share_within xs stretch share order s =
    let less = count_less stretch.start stretch.end xs order in
    let fits = count_fits stretch.end xs in
    let before = s.before in
    let to = s.to in
    record { order = omega (arith, before, to, less); inside = omega (arith, to, fits) }

-- the share of a list in three parts is its second part
pub record IsSecondOf {X : Type 0} (xs ys zs all : List X) (share : Share) : Type 0 where
  pub is : all ≡ xs ++ (ys ++ zs)
  pub before : share.before ≡ length xs
  pub to : share.to ≡ length xs + length ys

-- places up to p, then those of m bytes behind p, and then others behind these
counted : (p m b : ℕ) (xs ys zs all : List ℕ) (stretch : Range) (share : Share) → AreUpTo p xs → AreFrom 0 m ys → AreFrom 0 b zs
    → all ≡ xs ++ (map (λ x. p + x) ys ++ map (λ x. p + x) (map (λ x. m + x) zs)) → p ≡ stretch.start → p + m ≡ stretch.end
    → IsShareOf all stretch share → (share.before ≡ length xs) × (share.to ≡ length xs + length ys)
counted p m b xs ys zs all stretch share front own behind spelled start end s =
    let mid = map (λ x. p + x) ys in
    let far = map (λ x. p + x) (map (λ x. m + x) zs) in
    let hi = p + (m + b) in
    let zero_is : p + 0 ≡ p = omega arith in
    let far_is : p + (m + 0) ≡ p + m = omega arith in
    let mid_from : AreFrom p (p + m) mid = subst (λ (z : ℕ). AreFrom z (p + m) mid) zero_is (raised_from p 0 m ys own) in
    let far_from : AreFrom (p + m) hi far = subst (λ (z : ℕ). AreFrom z hi far) far_is
    (raised_from p (m + 0) (m + b) (map (λ x. m + x) zs) (raised_from m 0 b zs behind)) in
    let first : count p (xs ++ (mid ++ far)) ≡ length xs = count_front p hi xs (mid ++ far) front
    (from_append p hi mid far (from_wide p (p + m) p hi mid (omega arith) (omega arith) mid_from)
    (from_wide (p + m) hi p hi far (omega arith) (omega arith) far_from)) in
    let second : count (p + m) ((xs ++ mid) ++ far) ≡ length (xs ++ mid) = count_front (p + m) hi (xs ++ mid) far
    (up_append (p + m) xs mid (up_wide p (p + m) xs (omega arith) front) (from_up p (p + m) (p + m) mid (omega arith) mid_from))
    far_from in
    let size : length (xs ++ mid) ≡ length xs + length ys = omega (arith, length-append xs mid, length-map ys (λ x. p + x)) in (
      s.before ∙ (λ i. count (sym start i) (spelled i)) ∙ first,
      s.to ∙ (λ i. count (sym end i) (spelled i)) ∙ ap (count (p + m)) (sym (append_assoc xs mid far)) ∙ second ∙ size,
    )

-- such a list with other elements in the place of the share
pub shared_is : {X : Type 0} (f : X → X) (share : Share) (new xs ys zs all : List X) → IsSecondOf xs ys zs all share
    → (shared f share new all ≡ xs ++ (new ++ map f zs)) × (drop share.to all ≡ zs)
shared_is f share new xs ys zs all s =
    let size : share.to ≡ length (xs ++ ys) = omega (arith, s.to, length-append xs ys) in
    let front : take share.before all ≡ xs = (λ i. take (s.before i) (s.is i)) ∙ take-append_seam xs (ys ++ zs) in
    let back : drop share.to all ≡ zs =
    (λ i. drop (size i) ((s.is ∙ sym (append_assoc xs ys zs)) i)) ∙ drop-append_seam (xs ++ ys) zs in
    ((λ i. front i ++ (new ++ map f (back i))), back)

pub share_fits : {X : Type 0} (share : Share) (xs ys zs all : List X) → IsSecondOf xs ys zs all share → IsShare (length all) share
share_fits share xs ys zs all s =
    let size = ap length s.is in
    let before = s.before in
    let to = s.to in
    record {
      order = omega (arith, before, to);
      inside = omega (arith, to, size, length-append xs (ys ++ zs), length-append ys zs);
    }

map_swap : {X : Type 0} (key : X → ℕ) (f : X → X) (g : ℕ → ℕ) → ((x : X) → key (f x) ≡ g (key x)) → (xs : List X)
    → map key (map f xs) ≡ map g (map key xs)
map_swap key f g e [] = refl
map_swap key f g e (x ∷ xs) = let a = e x in let more = map_swap key f g e xs in λ i. a i ∷ more i

-- ---- the reading of three texts, of which the first and the second end with a rule
abbrev pub places_of : List ℕ → List ℕ
places_of text = places_in text (parts Top (pieces text))

-- how many media rules a text has
abbrev pub media_count : List ℕ → ℕ
media_count text = length (sheet_of text).media

-- the share of the media rules that the second text has
abbrev pub numbers_of : List ℕ → List ℕ → Share
numbers_of front own = record { before = media_count front; to = media_count front + media_count own }

-- a rule of the third text
abbrev pub far_rule : List ℕ → List ℕ → RuleForm → RuleForm
far_rule front own r = twice_rule (length front) (media_count front) (length own) (media_count own) r

-- a media rule of the third text
abbrev pub far_media : List ℕ → List ℕ → MediaRule → MediaRule
far_media front own m = twice_media (length front) (media_count front) (length own) (media_count own) m

-- a place of the third text
abbrev pub far_places : List ℕ → List ℕ → List ℕ → List ℕ
far_places front own xs = map (λ x. length front + x) (map (λ x. length own + x) xs)

-- the second text makes way for another one
abbrev pub cut_at : List ℕ → List ℕ → List ℕ → Cut
cut_at front own new = cut 0 (length front + length own) (length front + length new)

module _ (front own behind : List ℕ) (front_shut : is_shut_text front ≡ true) (own_shut : (is_shut_text own ≡ true) ⊎ (behind ≡ [])) where
  both : sheet_of (front ++ (own ++ behind))
      ≡ joined (length front) (sheet_of front) (joined (length own) (sheet_of own) (sheet_of behind))
  both = joined_holds front (own ++ behind) front_shut ∙ ap (joined (length front) (sheet_of front)) (joined_or own behind own_shut)

  pub three_rules : (sheet_of (front ++ (own ++ behind))).rules
      ≡ (sheet_of front).rules ++ (map (behind_rule (length front) (media_count front)) (sheet_of own).rules
      ++ map (far_rule front own) (sheet_of behind).rules)
  three_rules =
      let f = behind_rule (length front) (media_count front) in
      let g = behind_rule (length own) (media_count own) in
      ap (λ (s : Sheet). s.rules) both
      ∙ ap (λ (rs : List RuleForm). (sheet_of front).rules ++ rs)
      (map_append f (sheet_of own).rules (map g (sheet_of behind).rules)
      ∙ ap (λ (rs : List RuleForm). map f (sheet_of own).rules ++ rs)
      (map_both f g (far_rule front own) (λ r. refl) (sheet_of behind).rules))

  pub three_media : (sheet_of (front ++ (own ++ behind))).media
      ≡ (sheet_of front).media ++ (map (behind_media (length front) (media_count front)) (sheet_of own).media
      ++ map (far_media front own) (sheet_of behind).media)
  three_media =
      let f = behind_media (length front) (media_count front) in
      let g = behind_media (length own) (media_count own) in
      ap (λ (s : Sheet). s.media) both
      ∙ ap (λ (rs : List MediaRule). (sheet_of front).media ++ rs)
      (map_append f (sheet_of own).media (map g (sheet_of behind).media)
      ∙ ap (λ (rs : List MediaRule). map f (sheet_of own).media ++ rs)
      (map_both f g (far_media front own) (λ r. refl) (sheet_of behind).media))

  pub three_places : (sheet_of (front ++ (own ++ behind))).places
      ≡ (0 ∷ places_of front) ++ (map (λ x. length front + x) (places_of own) ++ far_places front own (places_of behind))
  three_places =
      ap (λ (s : Sheet). s.places) both
      ∙ ap (λ (xs : List ℕ). 0 ∷ (places_of front ++ xs))
      (map_append (λ x. length front + x) (places_of own) (map (λ x. length own + x) (places_of behind)))

  -- the shares of the second text
  module _ (stretch : Range) (start : length front ≡ stretch.start) (end : length front + length own ≡ stretch.end) where
    pub rules_second : (share : Share) → IsShareOf (body_starts (sheet_of (front ++ (own ++ behind))).rules) stretch share
        → IsSecondOf (sheet_of front).rules (map (behind_rule (length front) (media_count front)) (sheet_of own).rules)
        (map (far_rule front own) (sheet_of behind).rules) (sheet_of (front ++ (own ++ behind))).rules share
    rules_second share s =
        let key = λ (r : RuleForm). r.body.start in
        let f = behind_rule (length front) (media_count front) in
        let own_rules = map f (sheet_of own).rules in
        let far_rules = map (far_rule front own) (sheet_of behind).rules in
        let own_starts = map_swap key f (λ x. length front + x) (λ r. refl) (sheet_of own).rules in
        let far_starts : body_starts far_rules ≡ far_places front own (body_starts (sheet_of behind).rules) =
        map_swap key (far_rule front own) (λ x. length front + (length own + x)) (λ r. refl) (sheet_of behind).rules
        ∙ sym (map_both (λ x. length front + x) (λ x. length own + x) (λ x. length front + (length own + x)) (λ x. refl)
        (body_starts (sheet_of behind).rules)) in
        let spelled = ap body_starts three_rules ∙ map_append key (sheet_of front).rules (own_rules ++ far_rules)
        ∙ ap (λ (xs : List ℕ). body_starts (sheet_of front).rules ++ xs)
        (map_append key own_rules far_rules ∙ (λ i. own_starts i ++ far_starts i)) in
        let c = counted (length front) (length own) (length behind) (body_starts (sheet_of front).rules) (body_starts (sheet_of own).rules)
        (body_starts (sheet_of behind).rules) (body_starts (sheet_of (front ++ (own ++ behind))).rules) stretch share
        (from_up 0 (length front) (length front) (body_starts (sheet_of front).rules) (omega arith) (starts_from front))
        (starts_from own) (starts_from behind) spelled start end s in
        let front_size = length-map (sheet_of front).rules key in
        let own_size = length-map (sheet_of own).rules key in
        let moved_size = length-map (sheet_of own).rules f in
        record {
          is = three_rules;
          before = omega (arith, c.0, front_size);
          to = omega (arith, c.1, front_size, own_size, moved_size);
        }

    pub media_second : (share : Share) → IsShareOf (prelude_ends (sheet_of (front ++ (own ++ behind))).media) stretch share
        → IsSecondOf (sheet_of front).media (map (behind_media (length front) (media_count front)) (sheet_of own).media)
        (map (far_media front own) (sheet_of behind).media) (sheet_of (front ++ (own ++ behind))).media share
    media_second share s =
        let key = λ (m : MediaRule). m.prelude.end in
        let f = behind_media (length front) (media_count front) in
        let own_media = map f (sheet_of own).media in
        let far = map (far_media front own) (sheet_of behind).media in
        let own_ends = map_swap key f (λ x. length front + x) (λ m. refl) (sheet_of own).media in
        let far_ends : prelude_ends far ≡ far_places front own (prelude_ends (sheet_of behind).media) =
        map_swap key (far_media front own) (λ x. length front + (length own + x)) (λ m. refl) (sheet_of behind).media
        ∙ sym (map_both (λ x. length front + x) (λ x. length own + x) (λ x. length front + (length own + x)) (λ x. refl)
        (prelude_ends (sheet_of behind).media)) in
        let spelled = ap prelude_ends three_media ∙ map_append key (sheet_of front).media (own_media ++ far)
        ∙ ap (λ (xs : List ℕ). prelude_ends (sheet_of front).media ++ xs)
        (map_append key own_media far ∙ (λ i. own_ends i ++ far_ends i)) in
        let c = counted (length front) (length own) (length behind) (prelude_ends (sheet_of front).media)
        (prelude_ends (sheet_of own).media) (prelude_ends (sheet_of behind).media)
        (prelude_ends (sheet_of (front ++ (own ++ behind))).media) stretch share
        (from_up 0 (length front) (length front) (prelude_ends (sheet_of front).media) (omega arith) (ends_from front))
        (ends_from own) (ends_from behind) spelled start end s in
        let front_size = length-map (sheet_of front).media key in
        let own_size = length-map (sheet_of own).media key in
        let moved_size = length-map (sheet_of own).media f in
        record {
          is = three_media;
          before = omega (arith, c.0, front_size);
          to = omega (arith, c.1, front_size, own_size, moved_size);
        }

    pub places_second : (share : Share) → IsShareOf (sheet_of (front ++ (own ++ behind))).places stretch share
        → IsSecondOf (0 ∷ places_of front) (map (λ x. length front + x) (places_of own)) (far_places front own (places_of behind))
        (sheet_of (front ++ (own ++ behind))).places share
    places_second share s =
        let c = counted (length front) (length own) (length behind) (0 ∷ places_of front) (places_of own) (places_of behind)
        (sheet_of (front ++ (own ++ behind))).places stretch share
        (omega arith, from_up 0 (length front) (length front) (places_of front) (omega arith) (places_from front))
        (places_from own) (places_from behind) three_places start end s in
        let moved_size = length-map (places_of own) (λ x. length front + x) in
        record { is = three_places; before = c.0; to = omega (arith, c.1, moved_size) }

-- ---- the third text is moved
module _ (front own new behind : List ℕ) (some : (0 < length front + length own) ⊎ (behind ≡ [])) where
  pub far_rules_go : map (far_rule front new) (sheet_of behind).rules
      ≡ map (renumbered_rule (moved_place (cut_at front own new)) (moved_number (numbers_of front own) (media_count new)))
      (map (far_rule front own) (sheet_of behind).rules)
  far_rules_go =
      let f = renumbered_rule (moved_place (cut_at front own new)) (moved_number (numbers_of front own) (media_count new)) in
      elim some [
        | inl less ↦ sym (map_both f (far_rule front own) (far_rule front new)
            (rule_goes (length front) (length own) (length new) (media_count front) (media_count own) (media_count new) less)
            (sheet_of behind).rules)
        | inr e ↦
            let gone : (sheet_of behind).rules ≡ [] = ap (λ (t : List ℕ). (sheet_of t).rules) e ∙ empty_rules in
            ap (map (far_rule front new)) gone ∙ sym (ap (λ (rs : List RuleForm). map f (map (far_rule front own) rs)) gone)
      ]

  pub far_media_go : map (far_media front new) (sheet_of behind).media
      ≡ map (renumbered_media (moved_place (cut_at front own new)) (moved_number (numbers_of front own) (media_count new)))
      (map (far_media front own) (sheet_of behind).media)
  far_media_go =
      let f = renumbered_media (moved_place (cut_at front own new)) (moved_number (numbers_of front own) (media_count new)) in
      elim some [
        | inl less ↦ sym (map_both f (far_media front own) (far_media front new)
            (media_goes (length front) (length own) (length new) (media_count front) (media_count own) (media_count new) less)
            (sheet_of behind).media)
        | inr e ↦
            let gone : (sheet_of behind).media ≡ [] = ap (λ (t : List ℕ). (sheet_of t).media) e ∙ empty_media in
            ap (map (far_media front new)) gone ∙ sym (ap (λ (rs : List MediaRule). map f (map (far_media front own) rs)) gone)
      ]

  pub far_places_go : far_places front new (places_of behind)
      ≡ map (moved_place (cut_at front own new)) (far_places front own (places_of behind))
  far_places_go =
      let g = moved_place (cut_at front own new) in
      elim some [
        | inl less ↦ sym (places_go (length front) (length own) (length new) (media_count front) (media_count own) (media_count new) less
            (places_of behind))
        | inr e ↦
            let gone : places_of behind ≡ [] = ap (λ (t : List ℕ). drop 1 (sheet_of t).places) e ∙ ap (drop 1) empty_places in
            ap (far_places front new) gone ∙ sym (ap (λ (xs : List ℕ). map g (far_places front own xs)) gone)
      ]
