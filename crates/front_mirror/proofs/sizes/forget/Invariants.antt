-- The numbers of other ids stay.
use Rattle.std.proofs.Common.{◌≡◌, ℕ, false}
use Rattle.std.specs.FinMap as map
use Rattle.client_views.specs.Views.{is_in}
use Rattle.front_mirror.proofs.sizes.forget.Given as goal

abbrev pub invariant-loop-id : goal.invariant-loop-id
invariant-loop-id l = (k : ℕ) → is_in k l.ids ≡ false → map.get l.counts k ≡ map.get l.initial.counts k
