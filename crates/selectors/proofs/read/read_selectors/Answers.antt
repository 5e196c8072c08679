use Rattle.std.proofs.Common.{rules, arith}
use Rattle.std.proofs.lemmas.Grind.{common_steps}
use Rattle.selectors.specs.Forms.{GivesRead}
use Rattle.selectors.specs.Lists.{list_seen}
use Rattle.selectors.specs.Reading.{selectors_of}
use Rattle.selectors.proofs.GrammarAgain.{spells_none}
use Rattle.selectors.proofs.GrammarTakes.{read_is_spelled}
use Rattle.selectors.proofs.read.read_selectors.Goals as goal

pub returns-clause-invalid : goal.returns-clause-invalid
returns-clause-invalid c =
    let read : GivesRead list_seen c.read_list.result (selectors_of c.args.text.now) = first_of
    (search rules, grind (arith, common_steps)) in
    spells_none c.read_list.result c.args.text.now read

pub returns-clause-found : goal.returns-clause-found
returns-clause-found c =
    let read : GivesRead list_seen c.read_list.result (selectors_of c.args.text.now) = first_of
    (search rules, grind (arith, common_steps)) in
    read_is_spelled c.read_list.result c.args.text.now read
