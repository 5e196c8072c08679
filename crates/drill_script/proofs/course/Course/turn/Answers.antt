use Rattle.std.proofs.Common.{refl, ap, arith}
use Rattle.drill_script.specs.Draws.{next_number, drawn}
use Rattle.drill_script.specs.DrillLines.{div_drawn, sets_class, asks_title, asks_matched, left_of}
use Rattle.drill_script.proofs.LineLaws.{turn-is, turn-three}
use Rattle.drill_script.proofs.course.Course.turn.Goals as goal

pub returns-in-0-clause-line : goal.returns-in-0-clause-line
returns-in-0-clause-line c =
    let x = c.args.self.now.draws.at in
    let divs = c.args.self.now.divs in
    turn-is c.class_turn.result divs c.args.number x 0 (sets_class (div_drawn divs x) (drawn (next_number x) 8)) c.class_turn.new.self
    c.in-0.is (omega (arith, c.turns_of.ensures)) refl c.class_turn.ensures.line (ap left_of c.class_turn.ensures.new)

pub returns-in-1-clause-line : goal.returns-in-1-clause-line
returns-in-1-clause-line c =
    let x = c.args.self.now.draws.at in
    let divs = c.args.self.now.divs in
    turn-is c.title_turn.result divs c.args.number x 1 (asks_title (div_drawn divs x) (drawn (next_number x) 10)) c.title_turn.new.self
    c.in-1.is (omega (arith, c.turns_of.ensures)) refl c.title_turn.ensures.line (ap left_of c.title_turn.ensures.new)

pub returns-in-2-clause-line : goal.returns-in-2-clause-line
returns-in-2-clause-line c =
    let x = c.args.self.now.draws.at in
    let divs = c.args.self.now.divs in
    turn-is c.matched_turn.result divs c.args.number x 2 (asks_matched (div_drawn divs x)) c.matched_turn.new.self
    c.in-2.is (omega (arith, c.turns_of.ensures)) refl c.matched_turn.ensures.line (ap left_of c.matched_turn.ensures.new)

pub returns-in_default-clause-line : goal.returns-in_default-clause-line
returns-in_default-clause-line c =
    turn-three c.text_act.result c.args.self.now.divs c.args.number c.args.self.now.draws.at (omega arith)
    (omega (arith, c.turns_of.ensures)) c.text_act.ensures
