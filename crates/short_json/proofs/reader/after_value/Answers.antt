use Rattle.std.proofs.Common.{ap, ◌∙◌}
use Rattle.json.specs.Lex.{after_comma, punctuate}
use Rattle.short_json.proofs.Places.{comma_passed}
use Rattle.short_json.proofs.reader.after_value.Goals as goal

pub returns-in-Some : goal.returns-in-Some
returns-in-Some c = ap (punctuate after_comma) c.behind_space.ensures ∙ comma_passed c.args.left.now c.in-Some.rest.now c.in-Some.ensures
