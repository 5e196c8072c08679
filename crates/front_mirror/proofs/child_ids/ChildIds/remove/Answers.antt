-- The first that is the id is out, or none is.
use Rattle.std.proofs.Common.{ℕ, List, ap, ◌∙◌}
use Rattle.std.specs.List.{remove}
use Rattle.number_map.specs.Places.{number_place}
use Rattle.front_mirror.proofs.IdLemmas.{place_out}
use Rattle.front_mirror.proofs.child_ids.ChildIds.remove.Goals as goal

pub returns : goal.returns
returns c =
    c.remove.ensures
    ∙ ap (λ (p : ℕ). remove c.self.inside.ids p) c.place-i.ensures
    ∙ ap (λ (ks : List ℕ). remove ks (number_place c.args.id c.args.self.now)) c.self.view_is
    ∙ place_out c.args.id c.args.self.now
