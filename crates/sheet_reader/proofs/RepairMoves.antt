-- The rules of a part further back, and lists of which a share makes way for others.
use Rattle.std.proofs.Common.{◌≡◌, ℕ, suc, ◌+◌, ◌-◌, ◌<◌, ◌≤◌, Bool, true, false, cond, length, drop, List, [], ◌∷◌, ◌++◌, map, All}
use Rattle.std.proofs.Common.{refl, sym, ap, subst, ◌∙◌, arith}
use Rattle.std.proofs.lemmas.List.Elements.{All-nil, All-cons, All-head, All-tail}
use Rattle.node_tree.specs.Numbers.{number_limit}
use Rattle.selectors.specs.Forms.{SelectorForm}
use Rattle.selectors.specs.Lists.{moved_selector, CanMove}
use Rattle.selectors.specs.Moves.{placed_selector}
use Rattle.sheet_reader.specs.declared.sheet.StyleRule.{StyleRule}
use Rattle.sheet_reader.specs.Forms.{RuleForm, rule_seen}
use Rattle.sheet_reader.specs.Moves.{IsWithin}
use Rattle.sheet_reader.specs.Repairs.{IsShareOf, body_starts}
use Rattle.css_tokens.specs.declared.token.Range.{Range}
use Rattle.sheet_reader.specs.declared.repairs.Share.{Share}
use Rattle.std.specs.List.{prefix_len}
use Rattle.std.specs.Prelude.{nat_le}
use Rattle.sheet_reader.proofs.PartMoves.{map_append}

pub can_shift : (start size : ℕ) (ss : List SelectorForm) → start + size < number_limit → All (λ s. IsWithin size s.range) ss
    → All (λ s. CanMove 0 start s.range) ss
can_shift start size [] short all = All-nil (λ (s : SelectorForm). CanMove 0 start s.range)
can_shift start size (s ∷ ss) short all =
    let w = All-head (λ (s : SelectorForm). IsWithin size s.range) s ss all in
    All-cons (λ (s : SelectorForm). CanMove 0 start s.range) s ss
    (omega arith, omega arith, omega (arith, short, w.front), omega (arith, short, w.back))
    (can_shift start size ss short (All-tail (λ (s : SelectorForm). IsWithin size s.range) s ss all))

pub shifted : (start : ℕ) (ss : List SelectorForm) → map (moved_selector 0 start) ss ≡ map (placed_selector (λ x. start + x)) ss
shifted start [] = refl
shifted start (s ∷ ss) =
    let a : s.range.start - 0 + start ≡ start + s.range.start = omega arith in
    let b : s.range.end - 0 + start ≡ start + s.range.end = omega arith in
    let more = shifted start ss in
    λ i. (record { compounds = s.compounds; pseudo_element = s.pseudo_element; range = record { start = a i; end = b i } }) ∷ more i

pub joined_seen : (all front new back : List StyleRule) → all ≡ front ++ (new ++ back)
    → map rule_seen all ≡ map rule_seen front ++ (map rule_seen new ++ map rule_seen back)
joined_seen all front new back e =
    ap (map rule_seen) e ∙ map_append rule_seen front (new ++ back)
    ∙ ap (λ (rs : List RuleForm). map rule_seen front ++ rs) (map_append rule_seen new back)

-- what holds of each rule of a list holds of one in its midst
pub among : (P : RuleForm → Type 0) (front : List StyleRule) (r : StyleRule) (back all : List StyleRule) → front ++ r ∷ back ≡ all
    → All P (map rule_seen all) → P (rule_seen r)
among P front r back all e holds = by front (subst (λ (rs : List StyleRule). All P (map rule_seen rs)) (sym e) holds)
  where
    by : (front : List StyleRule) → All P (map rule_seen (front ++ r ∷ back)) → P (rule_seen r)
    by [] holds = All-head P (rule_seen r) (map rule_seen back) holds
    by (x ∷ front) holds = by front (All-tail P (rule_seen x) (map rule_seen (front ++ r ∷ back)) holds)

-- where the bodies of rules start that are seen so
pub starts_seen : (rules : List StyleRule) → map (λ r. r.body.start) rules ≡ body_starts (map rule_seen rules)
starts_seen [] = refl
starts_seen (r ∷ rules) = ap (λ (xs : List ℕ). r.body.start ∷ xs) (starts_seen rules)

pub share_seen : (rules : List StyleRule) (all : List RuleForm) (stretch : Range) (share : Share) → map rule_seen rules ≡ all
    → IsShareOf (map (λ r. r.body.start) rules) stretch share → IsShareOf (body_starts all) stretch share
share_seen rules all stretch share seen s = subst (λ (xs : List ℕ). IsShareOf xs stretch share) (starts_seen rules ∙ ap body_starts seen) s

-- how many of a list do not stand behind a place, by the places alone
pub count_of : {X : Type 0} (key : X → ℕ) (place : ℕ) (xs : List X)
    → prefix_len (λ x. nat_le (key x) place) xs ≡ prefix_len (λ x. nat_le x place) (map key xs)
count_of key place [] = refl
count_of key place (x ∷ xs) = ap (λ (n : ℕ). cond (nat_le (key x) place) (1 + n) 0) (count_of key place xs)

pub count_inside : {X : Type 0} (key : X → ℕ) (place : ℕ) (xs : List X) → prefix_len (λ x. nat_le (key x) place) xs ≤ length xs
count_inside key place [] = omega arith
count_inside key place (x ∷ xs) = by (nat_le (key x) place) (count_inside key place xs)
  where
    by : (b : Bool) → prefix_len (λ x. nat_le (key x) place) xs ≤ length xs
        → cond b (1 + prefix_len (λ x. nat_le (key x) place) xs) 0 ≤ suc (length xs)
    by true more = omega (arith, more)
    by false more = omega arith

pub all_behind : (n : ℕ) (xs : List ℕ) → All (λ place. place ≤ n) xs → All (λ place. place ≤ n) (drop 1 xs)
all_behind n [] all = all
all_behind n (x ∷ xs) all = All-tail (λ (place : ℕ). place ≤ n) x xs all
