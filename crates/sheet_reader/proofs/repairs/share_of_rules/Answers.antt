use Rattle.std.proofs.Common.{◌∙◌, arith}
use Rattle.sheet_reader.specs.declared.sheet.StyleRule.{StyleRule}
use Rattle.sheet_reader.proofs.RepairMoves.{count_of, count_inside}
use Rattle.sheet_reader.proofs.repairs.share_of_rules.Goals as goal

pub returns-clause-share : goal.returns-clause-share
returns-clause-share c =
    let key = λ (r : StyleRule). r.body.start in
    record {
      before = c.bodies_up_to.ensures.count ∙ count_of key c.args.stretch.start c.args.rules.now;
      to = c.bodies_up_to-2.ensures.count ∙ count_of key c.args.stretch.end c.args.rules.now;
    }

pub returns-clause-front : goal.returns-clause-front
returns-clause-front c =
    let fits = count_inside (λ (r : StyleRule). r.body.start) c.args.stretch.start c.args.rules.now in
    omega (arith, fits, c.bodies_up_to.ensures.count)

pub returns-clause-inside : goal.returns-clause-inside
returns-clause-inside c =
    let fits = count_inside (λ (r : StyleRule). r.body.start) c.args.stretch.end c.args.rules.now in
    omega (arith, fits, c.bodies_up_to-2.ensures.count)
