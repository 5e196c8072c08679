use Rattle.std.proofs.Common.{◌-◌, All, map, sym, subst}
use Rattle.sheet_reader.specs.Forms.{rule_seen}
use Rattle.sheet_reader.specs.Late.{cut_at, EachPlace, IsLate}
use Rattle.sheet_reader.proofs.LateForms.{settled, stretch_can, late_rest}
use Rattle.sheet_reader.proofs.late.settle.Goals as goal

pub move_rules-requires : goal.move_rules-requires
move_rules-requires c =
    stretch_can rule_seen (cut_at c.args.late) c.args.moved (c.args.to - c.args.moved) c.args.rules.now c.requires.late

pub returns : goal.returns
returns c =
    let s = settled rule_seen (cut_at c.args.late) c.args.moved c.args.to c.args.rules.now c.move_rules.new.rules c.requires.order
    c.requires.inside c.move_rules.ensures in
    record {
      same = s.same;
      late = subst (All (EachPlace (IsLate (cut_at c.args.late)))) (sym s.rest)
          (late_rest (cut_at c.args.late) c.args.moved c.args.to (map rule_seen c.args.rules.now) c.requires.order c.requires.late);
    }
