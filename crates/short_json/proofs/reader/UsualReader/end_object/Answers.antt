use Rattle.std.proofs.Common.{rules, ◌∷◌, sym, ap, ◌∙◌}
use Rattle.json.specs.Token.{end_object}
use Rattle.short_json.specs.Places.{place_seen}
use Rattle.short_json.proofs.Places.{object_ends}
use Rattle.short_json.proofs.reader.UsualReader.end_object.Goals as goal

pub returns-clause-some : goal.returns-clause-some
returns-clause-some c =
    sym c.self.view_is
    ∙ object_ends (place_seen c.self.inside.place) c.self.inside.left.now c.in_ok-rest.rest.now c.in_ok-rest.ensures (search rules)
    ∙ ap (λ ts. end_object ∷ ts) (sym c.passed.ensures)
