use Rattle.std.proofs.Common.{rules, sym, ◌∙◌}
use Rattle.short_json.specs.Places.{place_seen}
use Rattle.short_json.proofs.Places.{object_begins}
use Rattle.short_json.proofs.reader.UsualReader.begin_object.Goals as goal

pub returns-clause-some : goal.returns-clause-some
returns-clause-some c =
    sym c.self.view_is
    ∙ object_begins (place_seen c.self.inside.place) c.self.inside.left.now c.in_ok-rest.rest.now c.in_ok-rest.ensures (search rules)
