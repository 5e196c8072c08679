use Rattle.std.proofs.Common.{rules, ◌∷◌, sym, ap, ◌∙◌}
use Rattle.json.specs.Token.{key}
use Rattle.json.specs.Lex.{fresh, punctuate}
use Rattle.short_json.specs.Places.{place_seen}
use Rattle.short_json.proofs.Places.{named_next}
use Rattle.short_json.proofs.reader.UsualReader.take_name.Goals as goal

pub returns : goal.returns
returns c =
    sym c.self.view_is
    ∙ named_next (place_seen c.self.inside.place) c.self.inside.left.now c.in-Some.rest.now c.args.name.now c.in-Some.ensures (search rules)
    ∙ ap (λ ls. key c.args.name.now ∷ punctuate fresh ls) (sym c.behind_space-self-inside.ensures)
