-- `DOM.enable`: the agent comes to be in the mode that is asked for, where DOM was off.
use Rattle.std.proofs.Common.{refl}
use Rattle.back_end.proofs.SeatLemmas.{off-knows, enabled-stands}
use Rattle.back_end.proofs.desk.Desk.enable.Goals as goal

pub show_as_asked-requires : goal.show_as_asked-requires
show_as_asked-requires c = λ off. off-knows c.args.self.now c.args.side.now c.requires.standing off

pub returns-clause-stands : goal.returns-clause-stands
returns-clause-stands c = λ state stands.
    enabled-stands c.args.self.now (record { alloc = _; is_on = _; css = _; agent = _; watches = _; searches = _ }) c.args.side.now
    c.args.side.now state c.args.id c.args.word stands refl refl refl refl refl refl c.show_as_asked.ensures
