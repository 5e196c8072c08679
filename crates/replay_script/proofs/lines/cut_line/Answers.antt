use Rattle.replay_script.proofs.LineLemmas.{lines_of-found, lines_of-absent}
use Rattle.replay_script.proofs.lines.cut_line.Goals as goal

pub returns-in-Some : goal.returns-in-Some
returns-in-Some c = rw (c.split_at.ensures.front, c.split_at-in-Some.ensures.back)
    (lines_of-found c.args.bytes.now c.in-Some.end c.in-Some.ensures)

pub returns-in-None : goal.returns-in-None
returns-in-None c = lines_of-absent c.args.bytes.now c.requires c.in-None.ensures
