-- Its place is among those of the list.
use Rattle.std.proofs.Common.{ℕ, nat_lt, ap, ◌∙◌}
use Rattle.number_map.specs.Places.{number_place}
use Rattle.front_mirror.proofs.IdLemmas.{place_there}
use Rattle.front_mirror.proofs.child_ids.ChildIds.has.Goals as goal

pub returns : goal.returns
returns c =
    ap (λ (p : ℕ). nat_lt p c.len.result) c.place.ensures
    ∙ ap (λ (n : ℕ). nat_lt (number_place c.args.id c.args.self.now) n) c.len.ensures
    ∙ place_there c.args.id c.args.self.now
