use Rattle.short_json.proofs.Places.{space_passed}
use Rattle.short_json.proofs.lexemes.behind_space.Goals as goal

pub returns-in-Some : goal.returns-in-Some
returns-in-Some c = space_passed c.args.text.now c.in-Some.rest.now c.in-Some.ensures
