-- A text that ends with a rule, in front of another.
use Rattle.std.proofs.Common.{◌≡◌, ℕ, zero, suc, ◌+◌, ◌<◌, ◌≤◌, nat_lt, Bool, true, false, All, List, [], ◌∷◌, ◌++◌, map}
use Rattle.std.proofs.Common.{length, Some, refl, sym, ap, subst, ◌∙◌, append-nil}
use Rattle.std.proofs.Common.{length-append, arith}
use Rattle.std.specs.Prelude.{slice_get}
use Rattle.std.proofs.lemmas.Bool.Decides.{nat_tests}
use Rattle.std.proofs.lemmas.List.{length-map, take_all, drop_all}
use Rattle.std.proofs.lemmas.List.Elements.{All-head, All-tail, All-nil, All-cons}
use Rattle.node_tree.specs.Numbers.{number_limit}
use Rattle.css_tokens.specs.declared.token.Range.{Range}
use Rattle.sheet_reader.specs.declared.sheet.Property.{Property}
use Rattle.sheet_reader.specs.declared.sheet.Sheet.{Sheet}
use Rattle.selectors.specs.Moves.{Cut, moved_place}
use Rattle.sheet_reader.specs.Declarations.{style_of}
use Rattle.sheet_reader.specs.Forms.{range, RuleForm}
use Rattle.sheet_reader.specs.Joins.{is_shut_text, behind_rule}
use Rattle.sheet_reader.specs.Moves.{placed_rule, moved_rules, body_cut, moved_by, replaced, IsPropertyWithin, CanMoveBody}
use Rattle.sheet_reader.specs.Repairs.{IsRuleWithin}
use Rattle.sheet_reader.specs.Sealing.{is_sealed}
use Rattle.sheet_reader.specs.Sheets.{sheet_of}
use Rattle.sheet_reader.proofs.MovedLaw.{moved_holds}
use Rattle.sheet_reader.proofs.ClearBodies.{body_clear}
use Rattle.sheet_reader.proofs.JoinedLaw.{joined_holds}
use Rattle.sheet_reader.proofs.RepairBounds.{all_within}
use Rattle.style_edits.proofs.LoneRules.{OneRule}
use Rattle.style_edits.proofs.Fronts.{map_moved, StartsBefore, Fronts}

-- ---- the rules of a text that ends with a rule start before its end

moved_length : (c : Cut) (ps : List Property) (k : ℕ) (rules : List RuleForm) → length (moved_rules c ps k rules) ≡ length rules
moved_length c ps k [] = refl
moved_length c ps zero (x ∷ rules) = ap (λ (n : ℕ). suc n) (length-map rules (placed_rule (moved_place c)))
moved_length c ps (suc k) (x ∷ rules) = ap (λ (n : ℕ). suc n) (moved_length c ps k rules)

-- a body at the end of such a text would take in the rule that is put behind it
body_inside : (front put : List ℕ) (o : OneRule put) → is_sealed put ≡ true → is_shut_text front ≡ true → (k : ℕ) (r : RuleForm)
    → slice_get (sheet_of front).rules k ≡ Some r → r.body ≡ range (length front) (length front) → ⊥
body_inside front put o sealed shut k r e at =
    let n = length front in
    let rules = (sheet_of front).rules in
    let whole : replaced front (range n n) put ≡ front ++ put =
    (λ i. take_all n front (omega arith) i ++ (put ++ drop_all n front (omega arith) i))
    ∙ ap (λ (t : List ℕ). front ++ t) (append-nil put) in
    let moved = ap (λ (b : Range). sheet_of (replaced front b put)) (sym at) ∙ moved_holds front put k r e sealed
    ∙ ap (moved_by (sheet_of front) k (style_of put) (length put)) e in
    let as_moved : length (sheet_of (front ++ put)).rules ≡ length rules =
    ap (λ (t : List ℕ). length (sheet_of t).rules) (sym whole) ∙ ap (λ (t : Sheet). length t.rules) moved
    ∙ moved_length (body_cut r (length put)) (style_of put) k rules in
    let behind = map (behind_rule n (length (sheet_of front).media)) (sheet_of put).rules in
    let as_joined : length (sheet_of (front ++ put)).rules ≡ length rules + length behind =
    ap (λ (t : Sheet). length t.rules) (joined_holds front put shut) ∙ length-append rules behind in
    let one : length behind ≡ 1 = length-map (sheet_of put).rules (behind_rule n (length (sheet_of front).media))
    ∙ ap (λ (rs : List RuleForm). length rs) o.rules in
    absurd (omega (arith, as_moved, as_joined, one))

-- what holds of each rule by its place holds of all
all_by : (P : RuleForm → Type 0) (rules : List RuleForm) → ((k : ℕ) (r : RuleForm) → slice_get rules k ≡ Some r → P r) → All P rules
all_by P [] each = All-nil P
all_by P (x ∷ rules) each = All-cons P x rules (each 0 x refl) (all_by P rules (λ k r e. each (suc k) r e))

-- and the other way
one_of : (P : RuleForm → Type 0) (rules : List RuleForm) (k : ℕ) (r : RuleForm) → All P rules → slice_get rules k ≡ Some r → P r
one_of P [] k r all e = absurd (cc)
one_of P (x ∷ rules) zero r all e = let same : x ≡ r = cc in subst P same (All-head P x rules all)
one_of P (x ∷ rules) (suc k) r all e = one_of P rules k r (All-tail P x rules all) e

all_start : (front put : List ℕ) → length front + 0 < number_limit → (o : OneRule put) → is_sealed put ≡ true → is_shut_text front ≡ true
    → All (StartsBefore (length front)) (sheet_of front).rules
all_start front put small o sealed shut = all_by (StartsBefore (length front)) (sheet_of front).rules own
  where
    own : (k : ℕ) (r : RuleForm) → slice_get (sheet_of front).rules k ≡ Some r → r.body.start < length front
    own k r e = by (nat_lt r.body.start (length front)) refl
      where
        within : IsRuleWithin (length front) r
        within = one_of (IsRuleWithin (length front)) (sheet_of front).rules k r (all_within front) e

        clear : CanMoveBody (sheet_of front) k [] 0 r
        clear = body_clear front k r [] 0 e (All-nil (IsPropertyWithin 0)) small

        by : (b : Bool) → nat_lt r.body.start (length front) ≡ b → r.body.start < length front
        by true less = grind (arith, nat_tests, less)
        by false less =
            let over : length front ≤ r.body.start = grind (arith, nat_tests, less) in
            let start : r.body.start ≡ length front = omega (arith, over, within.body.front) in
            let end : r.body.end ≡ length front = omega (arith, over, clear.order, within.body.back) in
            absurd (body_inside front put o sealed shut k r e (λ i. range (start i) (end i)))

-- a text that ends with a rule in front of any other
pub shut_front : (front other put : List ℕ) → length front + 0 < number_limit → OneRule put → is_sealed put ≡ true
    → is_shut_text front ≡ true → Fronts front other
shut_front front other put small o sealed shut =
    let n = length front in
    let k = length (sheet_of front).media in
    record {
      own = (sheet_of front).rules;
      starts = all_start front put small o sealed shut;
      rest = map (behind_rule n k) (sheet_of other).rules;
      is = ap (λ (t : Sheet). t.rules) (joined_holds front other shut);
      moved = map_moved n (behind_rule n k) (λ r. record { prelude = refl; start = refl; end = refl }) (sheet_of other).rules;
    }
