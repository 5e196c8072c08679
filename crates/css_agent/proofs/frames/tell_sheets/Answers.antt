use Rattle.std.proofs.Common.{◌∙◌}
use Rattle.css_agent.proofs.ToldLemmas.{told-turn}
use Rattle.css_agent.proofs.frames.tell_sheets.Goals as goal

pub loop-i-preserved : goal.loop-i-preserved
loop-i-preserved c =
    told-turn c.args.book.now c.loop-i.i c.at.result.now c.loop-i.out.items c.tell_sheet.new.out.items c.at.ensures.at
    (c.in_ok-tell_sheet.ensures {u = tt}) ∙ c.loop-i.invariant
