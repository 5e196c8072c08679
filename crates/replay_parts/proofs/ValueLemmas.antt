-- An optional value behind a reference.
use Rattle.std.proofs.Common.{◌≡◌, Option, Some, None, ap}
use Rattle.std.specs.Borrow.{Bor}
use Rattle.std.specs.Option.{option_copied, option_map}
use Rattle.serde_json.specs.declared.value.Value.{Value}
use Rattle.serde_json.specs.View.{view}

-- what it is seen as
pub refs-seen : (r : Option (Bor Value)) (o : Option Value) → option_copied r ≡ o
    → option_map (λ (p : Bor Value). view p.now) r ≡ option_map view o
refs-seen None o e = ap (option_map view) e
refs-seen (Some p) o e = ap (option_map view) e
