use Rattle.sheet_reader.specs.Forms.{rule_seen}
use Rattle.sheet_reader.specs.Late.{cut_at}
use Rattle.sheet_reader.proofs.LateForms.{head_late, rebodied_late}
use Rattle.sheet_reader.proofs.late.rebody_late.Goals as goal

pub rebody-requires-clause-head : goal.rebody-requires-clause-head
rebody-requires-clause-head c =
    head_late rule_seen (cut_at c.args.gap) (cut_at c.args.late) c.args.own c.args.moved c.reach-to.result c.args.rules.now
    c.settle.new.rules c.index-rules-own-2.result c.requires.there c.requires.can c.reach-to.ensures c.settle.ensures.same
    c.settle.auto.rules

pub rebody-requires-clause-within : goal.rebody-requires-clause-within
rebody-requires-clause-within c = c.requires.within

pub rebody-requires-clause-fits : goal.rebody-requires-clause-fits
rebody-requires-clause-fits c = c.requires.can.fits

pub returns-clause-rules : goal.returns-clause-rules
returns-clause-rules c =
    let n = rebodied_late rule_seen (cut_at c.args.gap) (cut_at c.args.late) c.args.properties c.args.own c.args.moved c.reach-to.result
    c.args.rules.now c.settle.new.rules c.index-rules-own.result c.index-rules-own-2.result c.rebody.new.rule c.requires.there
    c.requires.inside c.requires.late c.requires.can c.reach-to.ensures c.settle.ensures.same c.settle.ensures.late c.settle.auto.rules
    c.rebody.ensures in
    n.rules_are

pub returns-clause-late : goal.returns-clause-late
returns-clause-late c =
    let n = rebodied_late rule_seen (cut_at c.args.gap) (cut_at c.args.late) c.args.properties c.args.own c.args.moved c.reach-to.result
    c.args.rules.now c.settle.new.rules c.index-rules-own.result c.index-rules-own-2.result c.rebody.new.rule c.requires.there
    c.requires.inside c.requires.late c.requires.can c.reach-to.ensures c.settle.ensures.same c.settle.ensures.late c.settle.auto.rules
    c.rebody.ensures in
    n.late
