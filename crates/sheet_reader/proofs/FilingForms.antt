-- The numbers of what selectors and rules are filed under: one after the other, and where rules are moved.
use Rattle.std.proofs.Common.{◌≡◌, ℕ, zero, suc, ◌+◌, ◌<◌, ◌≤◌, List, [], ◌∷◌, ◌++◌, map, take, drop, length, get_or, fold, Option, Some}
use Rattle.std.proofs.Common.{None, refl, ap, sym, ◌∙◌, subst}
use Rattle.std.proofs.lemmas.List.{drop_more, drop_all}
use Rattle.std.proofs.lemmas.Option.{slice_get_within, get_or_from_slice_get}
use Rattle.std.specs.List.{slice_get}
use Rattle.std.specs.Option.{option_map, option_or}
use Rattle.selectors.specs.declared.selector.Simple.{Simple}
use Rattle.selectors.specs.Forms.{SelectorForm, SimpleForm, simple_seen}
use Rattle.selectors.specs.Moves.{Cut, moved_place, placed_selector}
use Rattle.sheet_reader.specs.declared.sheet.Property.{Property}
use Rattle.sheet_reader.specs.declared.sheet.StyleRule.{StyleRule}
use Rattle.sheet_reader.specs.Forms.{RuleForm, rule_seen}
use Rattle.sheet_reader.specs.Moves.{placed_rule, moved_rules}
use Rattle.sheet_reader.specs.Filings.{Filing, simple_filing, last_filing, filing_digest, selector_digest, agreed, list_digest, rule_digest}
use Rattle.sheet_reader.specs.Filings.{AreDigests}
use Rattle.sheet_reader.proofs.PartMoves.{map_append, map_take}

-- ---- one test, one selector after the other

abbrev told_last : List SimpleForm → Option ℕ
told_last tests = option_map filing_digest (last_filing tests)

-- one test more: what is behind it counts first
told_more : (s : SimpleForm) (rest : List SimpleForm) (last : Option ℕ)
    → option_or (told_last rest) (option_or (option_map filing_digest (simple_filing s)) last) ≡ option_or (told_last (s ∷ rest)) last
told_more s rest last = by (last_filing rest) (simple_filing s)
  where
    by : (a b : Option Filing) → option_or (option_map filing_digest a) (option_or (option_map filing_digest b) last)
        ≡ option_or (option_map filing_digest (option_or a b)) last
    by None None = refl
    by None (Some g) = refl
    by (Some f) b = refl

-- the test at a place
pub last-step : (xs : List Simple) (i : ℕ) (x : Simple) (last read next : Option ℕ) → i < length xs → x ≡ get_or xs i x
    → read ≡ option_map filing_digest (simple_filing (simple_seen x)) → next ≡ option_or read last
    → option_or (option_map filing_digest (last_filing (map simple_seen (drop (i + 1) xs)))) next
    ≡ option_or (option_map filing_digest (last_filing (map simple_seen (drop i xs)))) last
last-step xs i x last read next inside is e n =
    let rest = map simple_seen (drop (i + 1) xs) in
    let at : drop i xs ≡ x ∷ drop (i + 1) xs = drop_more xs i x inside ∙ ap (λ (y : Simple). y ∷ drop (i + 1) xs) (sym is) in
    ap (λ (o : Option ℕ). option_or (told_last rest) o) (n ∙ ap (λ (o : Option ℕ). option_or o last) e)
    ∙ told_more (simple_seen x) rest last
    ∙ sym (ap (λ (l : List Simple). option_or (told_last (map simple_seen l)) last) at)

abbrev all_agreed : Option ℕ → List SelectorForm → Option ℕ
all_agreed n ss = fold (λ n t. agreed n (selector_digest t)) n ss

-- the first selector
pub list-init : (ss : List SelectorForm) (s : SelectorForm) (n : Option ℕ) → slice_get ss 0 ≡ Some s → n ≡ selector_digest s
    → fold (λ n t. agreed n (selector_digest t)) n (drop 1 ss) ≡ list_digest ss
list-init [] s n at e = absurd (cc)
list-init (x ∷ ss) s n at e =
    let same : x ≡ s = cc in
    ap (λ (m : Option ℕ). all_agreed m ss) (e ∙ ap (λ (t : SelectorForm). selector_digest t) (sym same))

-- the selector at a place
pub list-step : (ss : List SelectorForm) (i : ℕ) (s : SelectorForm) (n read next : Option ℕ) → slice_get ss i ≡ Some s
    → read ≡ selector_digest s → next ≡ agreed n read
    → fold (λ n t. agreed n (selector_digest t)) next (drop (i + 1) ss) ≡ fold (λ n t. agreed n (selector_digest t)) n (drop i ss)
list-step ss i s n read next at e is =
    let here : drop i ss ≡ s ∷ drop (i + 1) ss = drop_more ss i s (slice_get_within ss i s at)
    ∙ ap (λ (t : SelectorForm). t ∷ drop (i + 1) ss) (get_or_from_slice_get ss i s s at) in
    ap (λ (m : Option ℕ). all_agreed m (drop (i + 1) ss)) (is ∙ ap (agreed n) e)
    ∙ sym (ap (all_agreed n) here)

-- no selector is left
pub list-done : (ss : List SelectorForm) (i : ℕ) (n : Option ℕ) → length ss ≤ i
    → n ≡ fold (λ n t. agreed n (selector_digest t)) n (drop i ss)
list-done ss i n past = sym (ap (all_agreed n) (drop_all i ss past))

-- ---- rules that are moved

fold-placed : (f : ℕ → ℕ) (ss : List SelectorForm) (n : Option ℕ) → all_agreed n (map (placed_selector f) ss) ≡ all_agreed n ss
fold-placed f [] n = refl
fold-placed f (s ∷ ss) n = fold-placed f ss (agreed n (selector_digest s))

list-placed : (f : ℕ → ℕ) (ss : List SelectorForm) → list_digest (map (placed_selector f) ss) ≡ list_digest ss
list-placed f [] = refl
list-placed f (s ∷ ss) = fold-placed f ss (selector_digest s)

all-placed : (f : ℕ → ℕ) (rs : List RuleForm) → map rule_digest (map (placed_rule f) rs) ≡ map rule_digest rs
all-placed f [] = refl
all-placed f (r ∷ rs) = λ i. list-placed f r.selectors i ∷ all-placed f rs i

all-moved : (c : Cut) (ps : List Property) (k : ℕ) (rs : List RuleForm) → map rule_digest (moved_rules c ps k rs) ≡ map rule_digest rs
all-moved c ps k [] = refl
all-moved c ps zero (r ∷ rs) = λ i. list-placed (moved_place c) r.selectors i ∷ all-placed (moved_place c) rs i
all-moved c ps (suc k) (r ∷ rs) = λ i. list-placed (moved_place c) r.selectors i ∷ all-moved c ps k rs i

-- a rule gets another body
pub digests-moved : (c : Cut) (ps : List Property) (k : ℕ) (digests : List (Option ℕ)) (rs : List RuleForm) → AreDigests digests rs
    → AreDigests digests (moved_rules c ps k rs)
digests-moved c ps k digests rs are = are ∙ sym (ap (take (length digests)) (all-moved c ps k rs))

module _ {A : Type 0} where
  -- fewer are kept, and what stands behind them is another
  front-fewer : (n : ℕ) (ds xs ys : List A) → ds ≡ take (length ds) xs → take n ds ≡ take (length (take n ds)) (take n xs ++ ys)
  front-fewer zero ds xs ys e = refl
  front-fewer (suc n) [] xs ys e = refl
  front-fewer (suc n) (d ∷ ds) [] ys e = absurd (cc)
  front-fewer (suc n) (d ∷ ds) (x ∷ xs) ys e =
      let head : d ≡ x = cc in
      let tail : ds ≡ take (length ds) xs = cc in
      λ i. head i ∷ front-fewer n ds xs ys tail i

digests-fewer : (n : ℕ) (digests : List (Option ℕ)) (rs rest : List RuleForm) → AreDigests digests rs
    → AreDigests (take n digests) (take n rs ++ rest)
digests-fewer n digests rs rest are =
    front-fewer n digests (map rule_digest rs) (map rule_digest rest) are
    ∙ sym (ap (take (length (take n digests)))
    (map_append rule_digest (take n rs) rest ∙ ap (λ (l : List (Option ℕ)). l ++ map rule_digest rest) (sym (map_take rule_digest n rs))))

-- rules are kept up to a place, and others stand behind them
pub digests-joined : (n : ℕ) (digests kept : List (Option ℕ)) (rs : List RuleForm) (all front new back : List StyleRule)
    → AreDigests digests rs → kept ≡ take n digests → all ≡ front ++ (new ++ back) → map rule_seen front ≡ take n rs
    → AreDigests kept (map rule_seen all)
digests-joined n digests kept rs all front new back are is made seen =
    let rest = map rule_seen (new ++ back) in
    let whole : take n rs ++ rest ≡ map rule_seen all =
    sym (ap (map rule_seen) made ∙ map_append rule_seen front (new ++ back) ∙ ap (λ (l : List RuleForm). l ++ rest) seen) in
    subst (λ (ds : List (Option ℕ)). AreDigests ds (map rule_seen all)) (sym is)
    (subst (AreDigests (take n digests)) whole (digests-fewer n digests rs rest are))
