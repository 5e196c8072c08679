use Rattle.front_mirror.proofs.MoveLemmas.{move_gives, course_gives, turns_are_awaited}
use Rattle.front_mirror.proofs.laws.move_law.Goals as goal

pub returns-clause-moves : goal.returns-clause-moves
returns-clause-moves c = move_gives

pub returns-clause-course : goal.returns-clause-course
returns-clause-course c = course_gives

pub returns-clause-turns : goal.returns-clause-turns
returns-clause-turns c = turns_are_awaited
