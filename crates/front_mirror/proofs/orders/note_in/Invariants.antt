-- The ids that are left, over what was noted.
use Rattle.std.proofs.Common.{◌≡◌, ℕ, cond, drop, Some}
use Rattle.std.specs.FinMap as map
use Rattle.client_views.specs.Views.{is_in}
use Rattle.front_mirror.proofs.orders.note_in.Given as goal

abbrev pub invariant-loop-id : goal.invariant-loop-id
invariant-loop-id l = (k : ℕ) → cond (is_in k (drop l.id-index l.ids)) (Some l.number) (map.get l.numbers k)
    ≡ cond (is_in k l.ids) (Some l.number) (map.get l.initial.numbers k)
