use Rattle.std.proofs.Common.{rules, ◌∷◌, sym, ap, ◌∙◌}
use Rattle.json.specs.Token.{key}
use Rattle.json.specs.Lex.{fresh, punctuate}
use Rattle.short_json.specs.Places.{place_seen}
use Rattle.short_json.proofs.Places.{name_next}
use Rattle.short_json.proofs.reader.UsualReader.name.Goals as goal

pub returns-clause-some : goal.returns-clause-some
returns-clause-some c =
    sym c.self.view_is
    ∙ name_next (place_seen c.self.inside.place) c.self.inside.left.now c.in_ok-name.mark.now c.in_ok-rest.rest.now c.in_ok-name.name.now
    c.in_ok-name.ensures c.in_ok-rest.ensures (search rules)
    ∙ ap (λ ls. key c.in_ok-name.name.now ∷ punctuate fresh ls) (sym c.behind_space-self-inside.ensures)
