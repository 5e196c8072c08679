use Rattle.std.proofs.Common.{rules, ◌∷◌, decimal, sym, ap, ◌∙◌}
use Rattle.json.specs.Token.{number}
use Rattle.short_json.specs.Places.{place_seen}
use Rattle.short_json.proofs.Places.{whole_next}
use Rattle.short_json.proofs.reader.UsualReader.whole.Goals as goal

pub returns-clause-some : goal.returns-clause-some
returns-clause-some c =
    sym c.self.view_is
    ∙ whole_next (place_seen c.self.inside.place) c.self.inside.left.now c.in_ok-whole.rest.now (decimal c.in_ok-whole.whole)
    c.in_ok-whole.ensures (search rules)
    ∙ ap (λ ts. number (decimal c.in_ok-whole.whole) ∷ ts) (sym c.passed.ensures)
