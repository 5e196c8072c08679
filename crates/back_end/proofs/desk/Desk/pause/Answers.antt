-- The pause that an edit comes to is one by a watch of the state.
use Rattle.std.proofs.Common.{Some, sym, ◌∙◌}
use Rattle.back_end.proofs.SeatLemmas.{on_ok}
use Rattle.back_end.proofs.PauseSeats.{pause-here, edit-is-pause, before-stands, before-sent}
use Rattle.back_end.proofs.desk.Desk.pause.Goals as goal

pub returns-in-Some-clause-stands : goal.returns-in-Some-clause-stands
returns-in-Some-clause-stands c = λ state stands.
    let is = pause-here c.args.self.now c.args.side.now state c.args.edit.now c.page.result.now
    (Some c.in-Some.pause) stands c.page.ensures (sym c.in-Some.is ∙ c.pause_for.ensures) in
    on_ok c.tell_pause.result _ _
    (c.tell_pause.ensures.stands state stands
    (edit-is-pause c.args.self.now c.args.side.now state c.args.edit.now c.in-Some.pause stands c.requires.can is))
    (before-stands c.tell_pause.new.self c.args.side.now state c.args.edit.now (Some c.in-Some.pause) is)

pub returns-in-Some-clause-sent : goal.returns-in-Some-clause-sent
returns-in-Some-clause-sent c = λ state stands.
    let is = pause-here c.args.self.now c.args.side.now state c.args.edit.now c.page.result.now
    (Some c.in-Some.pause) stands c.page.ensures (sym c.in-Some.is ∙ c.pause_for.ensures) in
    on_ok c.tell_pause.result _ _
    (c.tell_pause.ensures.sent state stands
    (edit-is-pause c.args.self.now c.args.side.now state c.args.edit.now c.in-Some.pause stands c.requires.can is))
    (before-sent state c.args.edit.now (Some c.in-Some.pause) c.args.out.now.items c.tell_pause.new.out.items is)
