-- What is kept by numbers, as an ordered map keeps it; and ranges.
use Rattle.std.proofs.Common.{◌≡◌, ℕ, ◌<◌, ◌≤◌, Bool, true, false, cond, ◌&&◌, List, [], ◌∷◌, length, Option, Some, None, refl, sym, ap}
use Rattle.std.proofs.Common.{◌∙◌}
use Rattle.std.proofs.lemmas.Bool.{le-ltb, lt-ltb, le-leb, lt-leb}
use Rattle.std.specs.Prelude.{nat_le, Ok, Err}
use Rattle.std.specs.Ordering.{nat_cmp, eq_by_cmp}
use Rattle.std.specs.Cmp.{nat_cmp_total, eq_by_cmp_equiv}
use Rattle.std.specs.Map.{lookup}
use Rattle.std.specs.FinMap as map
use Rattle.dom_search.specs.declared.searches.SearchFault.TheVariants.{NoSearch, SearchRange}
use Rattle.dom_search.specs.Searches.{between, slice_in}

-- ---- a map of entries

find-lookup : (es : List (ℕ × List ℕ)) (q : ℕ) → map.find nat_cmp q es ≡ lookup (eq_by_cmp nat_cmp q) es
find-lookup [] q = refl
find-lookup (e ∷ es) q = ap (cond (eq_by_cmp nat_cmp q e.0) (Some e.1)) (find-lookup es q)

pub get-lookup : (es : List (ℕ × List ℕ)) (q : ℕ) → map.get (map.from_entries {R = nat_cmp} es) q ≡ lookup (eq_by_cmp nat_cmp q) es
get-lookup es q = map.get-from_entries nat_cmp_total es q ∙ find-lookup es q

turned : (k q : ℕ) → eq_by_cmp nat_cmp k q ≡ eq_by_cmp nat_cmp q k
turned k q = (eq_by_cmp_equiv nat_cmp_total).symm k q

-- entries with one more are the map with it
pub inserted : (old new : List (ℕ × List ℕ)) (k : ℕ) (v : List ℕ)
    → ((q : ℕ) → lookup (eq_by_cmp nat_cmp q) new ≡ cond (eq_by_cmp nat_cmp k q) (Some v) (lookup (eq_by_cmp nat_cmp q) old))
    → map.from_entries {R = nat_cmp} new ≡ map.insert (map.from_entries old) k v
inserted old new k v alike =
    map.same_map nat_cmp_total map.nat_cmp-IsAntisymmetric _ _
    (λ q. get-lookup new q ∙ alike q
    ∙ ap (λ b. cond b (Some v) (lookup (eq_by_cmp nat_cmp q) old)) (turned k q)
    ∙ ap (cond (eq_by_cmp nat_cmp q k) (Some v)) (sym (get-lookup old q))
    ∙ sym (map.get-insert nat_cmp_total (map.from_entries old) k v q))

-- and without one
pub removed : (old new : List (ℕ × List ℕ)) (k : ℕ)
    → ((q : ℕ) → lookup (eq_by_cmp nat_cmp q) new ≡ cond (eq_by_cmp nat_cmp k q) None (lookup (eq_by_cmp nat_cmp q) old))
    → map.from_entries {R = nat_cmp} new ≡ map.remove (map.from_entries old) k
removed old new k alike =
    map.same_map nat_cmp_total map.nat_cmp-IsAntisymmetric _ _
    (λ q. get-lookup new q ∙ alike q
    ∙ ap (λ b. cond b None (lookup (eq_by_cmp nat_cmp q) old)) (turned k q)
    ∙ ap (cond (eq_by_cmp nat_cmp q k) None) (sym (get-lookup old q))
    ∙ sym (map.get-remove nat_cmp_total (map.from_entries old) k q))

-- ---- ranges

-- a range that is empty or upside down
pub upside-down : (from to : ℕ) (xs : List ℕ) → to ≤ from → slice_in from to (Some xs) ≡ Err SearchRange
upside-down from to xs h = ap (λ (b : Bool). cond (b && nat_le to (length xs)) (Ok (between from to xs)) (Err SearchRange))
    (le-ltb from to h)

-- one that ends behind the list
pub too-far : (from to : ℕ) (xs : List ℕ) → from < to → length xs < to → slice_in from to (Some xs) ≡ Err SearchRange
too-far from to xs low high =
    (λ i. cond (lt-ltb from to low i && nat_le to (length xs)) (Ok (between from to xs)) (Err SearchRange))
    ∙ ap (λ (b : Bool). cond b (Ok (between from to xs)) (Err SearchRange)) (lt-leb to (length xs) high)

-- and one that does not
pub in-range : (from to : ℕ) (xs : List ℕ) → from < to → to ≤ length xs → slice_in from to (Some xs) ≡ Ok (between from to xs)
in-range from to xs low high =
    λ i. cond (lt-ltb from to low i && le-leb to (length xs) high i) (Ok (between from to xs)) (Err SearchRange)
