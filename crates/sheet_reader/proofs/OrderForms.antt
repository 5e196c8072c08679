-- What a sheet has stands in the order of the text, and so a search by halves counts what does not stand behind a place.
use Rattle.std.proofs.Common.{◌≡◌, ℕ, zero, suc, ◌+◌, ◌<◌, ◌≤◌, Bool, true, false, cond, List, [], ◌∷◌, map, length, All}
use Rattle.std.proofs.Common.{sym, ap, subst, ◌∙◌, arith}
use Rattle.std.specs.Prelude.{slice_index_or}
use Rattle.std.specs.Str.{IsUtf8}
use Rattle.std.specs.List.{prefix_len}
use Rattle.std.specs.List.Sorted.{IsNonDecreasing, IsNonDecreasingBy, IsPartitionPoint}
use Rattle.std.proofs.lemmas.List.{length-map, get_or-map}
use Rattle.std.proofs.lemmas.List.Elements.{All-head, All-tail}
use Rattle.selectors.specs.Ranges.{AreBetween}
use Rattle.sheet_reader.specs.declared.sheet.MediaRule.{MediaRule}
use Rattle.sheet_reader.specs.declared.sheet.Sheet.{Sheet}
use Rattle.sheet_reader.specs.declared.sheet.StyleRule.{StyleRule}
use Rattle.sheet_reader.specs.Forms.{RuleForm, rule_seen}
use Rattle.sheet_reader.specs.Repairs.{body_starts, prelude_ends, IsInOrder}
use Rattle.sheet_reader.specs.Sheets.{sheet_of}
use Rattle.sheet_reader.specs.Usable.{AreEdgesBehind, AreEdges, IsRuleOf, rule_range}
use Rattle.sheet_reader.proofs.RepairMoves.{starts_seen}
use Rattle.sheet_reader.proofs.UsableForms.{sheet_usable}

-- ---- numbers that do not fall, from one on

abbrev Climb : ℕ → List ℕ → Type 0
Climb lo [] = Unit {0}
Climb lo (x ∷ xs) = (lo ≤ x) × Climb x xs

climb_lower : (lo hi : ℕ) (xs : List ℕ) → lo ≤ hi → Climb hi xs → Climb lo xs
climb_lower lo hi [] less all = all
climb_lower lo hi (x ∷ xs) less all = (omega (arith, less, all.0), all.1)

climb_low : (lo : ℕ) (xs : List ℕ) → Climb lo xs → (j d : ℕ) → j < length xs → lo ≤ slice_index_or xs j d
climb_low lo [] all j d within = absurd (omega (arith, within))
climb_low lo (x ∷ xs) all zero d within = all.0
climb_low lo (x ∷ xs) all (suc j) d within =
    let more = climb_low x xs all.1 j d (omega (arith, within)) in omega (arith, more, all.0)

climb_order : (lo : ℕ) (xs : List ℕ) → Climb lo xs → IsNonDecreasing xs
climb_order lo [] all i j d less within = absurd (omega (arith, within))
climb_order lo (x ∷ xs) all zero zero d less within = omega arith
climb_order lo (x ∷ xs) all zero (suc j) d less within = climb_low x xs all.1 j d (omega (arith, within))
climb_order lo (x ∷ xs) all (suc i) zero d less within = absurd (omega (arith, less))
climb_order lo (x ∷ xs) all (suc i) (suc j) d less within =
    climb_order x xs all.1 i j d (omega (arith, less)) (omega (arith, within))

-- ---- what a sheet has

bodies_climb : (text : List ℕ) (from to : ℕ) (rs : List RuleForm) → AreBetween text from to (map rule_range rs) → All (IsRuleOf text) rs
    → Climb from (body_starts rs)
bodies_climb text from to [] all each = tt
bodies_climb text from to (r ∷ rs) all each =
    let own = All-head (IsRuleOf text) r rs each in
    let more = bodies_climb text r.body.end to rs all.2 (All-tail (IsRuleOf text) r rs each) in (
      omega (arith, all.0, own.prelude.order, own.behind),
      climb_lower r.body.start r.body.end (body_starts rs) own.body.order more,
    )

preludes_climb : (text : List ℕ) (from to : ℕ) (ms : List MediaRule) → AreBetween text from to (map (λ m. m.prelude) ms)
    → Climb from (prelude_ends ms)
preludes_climb text from to [] all = tt
preludes_climb text from to (m ∷ ms) all = (omega (arith, all.0, all.1.order), preludes_climb text m.prelude.end to ms all.2)

edges_climb : (text : List ℕ) (place : ℕ) (xs : List ℕ) → AreEdgesBehind text place xs → Climb place xs
edges_climb text place [] all = tt
edges_climb text place (x ∷ xs) all = (omega (arith, all.0), edges_climb text x xs all.2)

places_climb : (text xs : List ℕ) → AreEdges text xs → Climb 0 xs
places_climb text [] all = tt
places_climb text (x ∷ xs) all = (omega arith, edges_climb text x xs all.1)

pub sheet_order : (text : List ℕ) (s : Sheet) → IsUtf8 text → s ≡ sheet_of text → IsInOrder s
sheet_order text s utf8 read =
    let usable = sheet_usable text utf8 in
    subst IsInOrder (sym read) (record {
      rules = climb_order 0 (body_starts (sheet_of text).rules)
          (bodies_climb text 0 (length text) (sheet_of text).rules usable.rules usable.each);
      places = climb_order 0 (sheet_of text).places (places_climb text (sheet_of text).places usable.places);
      media = climb_order 0 (prelude_ends (sheet_of text).media) (preludes_climb text 0 (length text) (sheet_of text).media usable.media);
    })

-- ---- searches by halves

-- numbers of elements that do not fall
pub order_by : {X : Type 0} (key : X → ℕ) (xs : List X) → IsNonDecreasing (map key xs) → IsNonDecreasingBy key xs
order_by key xs up i j d less within =
    let size = length-map xs key in
    let first = get_or-map key xs i d 0 (omega (arith, less, within)) in
    let second = get_or-map key xs j d 0 within in
    let order = up i j 0 less (omega (arith, size, within)) in
    omega (arith, first, second, order)

pub bodies_order : (rules : List StyleRule) (all : List RuleForm) → map rule_seen rules ≡ all → IsNonDecreasing (body_starts all)
    → IsNonDecreasingBy (λ (r : StyleRule). r.body.start) rules
bodies_order rules all seen up =
    order_by (λ (r : StyleRule). r.body.start) rules (subst IsNonDecreasing (sym (starts_seen rules ∙ ap body_starts seen)) up)

-- the place between those that pass and those that do not is how many pass from the front on
pub point_is : {X : Type 0} (p : X → Bool) (xs : List X) (i : ℕ) → i ≤ length xs
    → IsPartitionPoint (λ y. p y ≡ true) (λ y. p y ≡ false) xs i → i ≡ prefix_len p xs
point_is p [] i fits point = omega (arith, fits)
point_is p (x ∷ xs) zero fits point =
    let fails : p x ≡ false = point.1 0 x (omega arith) (omega arith) in
    sym (ap (λ (b : Bool). cond b (1 + prefix_len p xs) 0) fails)
point_is p (x ∷ xs) (suc i) fits point =
    let passes : p x ≡ true = point.0 0 x (omega arith) (omega arith) in
    let more = point_is p xs i (omega (arith, fits)) (
      λ k d low high. point.0 (suc k) d (omega arith) (omega (arith, high)),
      λ k d low high. point.1 (suc k) d (omega (arith, low)) (omega (arith, high)),
    ) in
    let next : suc i ≡ 1 + prefix_len p xs = omega (arith, more) in
    next ∙ sym (ap (λ (b : Bool). cond b (1 + prefix_len p xs) 0) passes)
