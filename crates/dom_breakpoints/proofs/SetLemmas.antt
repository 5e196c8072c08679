-- Sets of serials as lists.
use Rattle.std.proofs.Common.{◌≡◌, ℕ, ◌&&◌, ◌||◌, not, Bool, true, false, cond, List, refl, sym, ap, ◌∙◌}
use Rattle.std.specs.Prelude.{filter}
use Rattle.std.specs.List.{list_any}
use Rattle.std.specs.Ordering.{nat_cmp, eq_by_cmp}
use Rattle.std.specs.Cmp.{nat_cmp_total, Equal-is, eq_by_cmp_equiv}
use Rattle.std.specs.FinSet as set
use Rattle.std.proofs.lemmas.Map.Views.{any-filter_same}

abbrev in_list : ℕ → List ℕ → Bool
in_list q ks = list_any (eq_by_cmp nat_cmp q) ks

or-cond : (b x : Bool) → cond b true x ≡ (b || x)
or-cond true x = refl
or-cond false x = refl

false-cond : (b x : Bool) → cond b false x ≡ (not b && x)
false-cond true x = refl
false-cond false x = refl

and_swap : (a b : Bool) → (a && b) ≡ (b && a)
and_swap true true = refl
and_swap true false = refl
and_swap false true = refl
and_swap false false = refl

turned : (k q : ℕ) → eq_by_cmp nat_cmp k q ≡ eq_by_cmp nat_cmp q k
turned k q = (eq_by_cmp_equiv nat_cmp_total).symm k q

-- a list that answers like another after an insert, or a removal, is that set
pub from_list-insert : (old new : List ℕ) (k : ℕ) → ((q : ℕ) → in_list q new ≡ cond (eq_by_cmp nat_cmp k q) true (in_list q old))
    → set.from_list {R = nat_cmp} new ≡ set.insert (set.from_list old) k
from_list-insert old new k updates =
    set.same_set nat_cmp_total set.nat_cmp-IsAntisymmetric _ _
    (λ q. set.contains-from_list nat_cmp_total new q
    ∙ updates q
    ∙ or-cond (eq_by_cmp nat_cmp k q) (in_list q old)
    ∙ ap (λ b. b || in_list q old) (turned k q)
    ∙ ap (λ b. eq_by_cmp nat_cmp q k || b) (sym (set.contains-from_list nat_cmp_total old q))
    ∙ sym (set.contains-insert nat_cmp_total _ k q))

pub from_list-remove : (old new : List ℕ) (k : ℕ) → ((q : ℕ) → in_list q new ≡ cond (eq_by_cmp nat_cmp k q) false (in_list q old))
    → set.from_list {R = nat_cmp} new ≡ set.remove (set.from_list old) k
from_list-remove old new k updates =
    set.same_set nat_cmp_total set.nat_cmp-IsAntisymmetric _ _
    (λ q. set.contains-from_list nat_cmp_total new q
    ∙ updates q
    ∙ false-cond (eq_by_cmp nat_cmp k q) (in_list q old)
    ∙ ap (λ b. not b && in_list q old) (turned k q)
    ∙ ap (λ b. not (eq_by_cmp nat_cmp q k) && b) (sym (set.contains-from_list nat_cmp_total old q))
    ∙ sym (set.contains-remove nat_cmp_total _ k q))

-- the set of the numbers of a list that pass a test
pub from_list-filter : (p : ℕ → Bool) (ks : List ℕ) → set.from_list {R = nat_cmp} (filter p ks) ≡ set.retain (set.from_list ks) p
from_list-filter p ks =
    set.same_set nat_cmp_total set.nat_cmp-IsAntisymmetric _ _
    (λ q. set.contains-from_list nat_cmp_total (filter p ks) q
    ∙ any-filter_same (eq_by_cmp nat_cmp q) p (p q)
    (λ k tied. ap p (sym (set.nat_cmp-IsAntisymmetric q k ((Equal-is (nat_cmp q k)).0 tied)))) ks
    ∙ and_swap (p q) (in_list q ks)
    ∙ ap (λ b. b && p q) (sym (set.contains-from_list nat_cmp_total ks q))
    ∙ sym (set.contains-retain (set.from_list ks) p q (λ x tied. ap p (sym (set.nat_cmp-IsAntisymmetric q x tied)))))
