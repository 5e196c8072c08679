-- Each line that is written is the next.
use Rattle.std.proofs.Common.{◌∷◌, ◌++◌}
use Rattle.inspect_world.specs.SheetTexts.{known_lines}
use Rattle.replay_parts.proofs.SheetLineLemmas.{lines-turn}
use Rattle.replay_parts.proofs.sheet_lines.sheets_text.Goals as goal

pub loop-i-preserved : goal.loop-i-preserved
loop-i-preserved g c =
    lines-turn c.loop-i.text.items c.write_known.new.out.items
    (c.args.heading.now ++ 10 ∷ known_lines c.args.front.now.value.sheets) c.args.front.now.value.sheets c.loop-i.i
    c.in_ok-write_known.ensures c.loop-i.invariant
