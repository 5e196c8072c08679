use Rattle.std.proofs.Common.{rules, ◌∷◌, sym, ap, ◌∙◌}
use Rattle.json.specs.Token.{string}
use Rattle.short_json.specs.Places.{place_seen}
use Rattle.short_json.proofs.Places.{text_next}
use Rattle.short_json.proofs.reader.UsualReader.text.Goals as goal

pub returns-clause-some : goal.returns-clause-some
returns-clause-some c =
    sym c.self.view_is
    ∙ text_next (place_seen c.self.inside.place) c.self.inside.left.now c.in_ok-text.rest.now c.in_ok-text.text.now c.in_ok-text.ensures
    (search rules) (search rules)
    ∙ ap (λ ts. string c.in_ok-text.text.now ∷ ts) (sym c.passed.ensures)
