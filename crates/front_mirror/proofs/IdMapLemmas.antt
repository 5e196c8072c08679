-- The map of ids by serials, changed at one serial.
use Rattle.std.proofs.Common.{◌≡◌, ℕ, cond, Option, Some, None, refl, ap, ◌∙◌}
use Rattle.std.proofs.lemmas.Bool.{eq-eqb, ne_eqb}
use Rattle.std.specs.Ordering.{nat_cmp, eq_by_cmp}
use Rattle.std.specs.Cmp.{nat_cmp_total, unsigned_tied}
use Rattle.std.specs.FinMap as numbers
use Rattle.front_mirror.specs.Tables.{PutsAt}

changed : (old new : ℕ → Option ℕ) (k : ℕ) (w : Option ℕ)
    → ((q : ℕ) → new q ≡ cond (eq_by_cmp nat_cmp q k) w (old q)) → PutsAt old new k w
changed old new k w is =
    record {
      at = is k ∙ ap (λ b. cond b w (old k)) (unsigned_tied k k ∙ eq-eqb k k refl);
      others = λ j other. is j ∙ ap (λ b. cond b w (old j)) (unsigned_tied j k ∙ ne_eqb j k other);
    }

pub puts-insert : (old new : numbers.FinMap nat_cmp ℕ) (k v : ℕ) → new ≡ numbers.insert old k v
    → PutsAt (numbers.get old) (numbers.get new) k (Some v)
puts-insert old new k v is =
    changed _ _ k (Some v) (λ q. ap (λ m. numbers.get m q) is ∙ numbers.get-insert nat_cmp_total old k v q)

pub puts-remove : (old new : numbers.FinMap nat_cmp ℕ) (k : ℕ) → new ≡ numbers.remove old k
    → PutsAt (numbers.get old) (numbers.get new) k None
puts-remove old new k is =
    changed _ _ k None (λ q. ap (λ m. numbers.get m q) is ∙ numbers.get-remove nat_cmp_total old k q)
