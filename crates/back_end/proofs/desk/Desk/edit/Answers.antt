-- An edit that the page takes is the step of the state.
use Rattle.std.proofs.Common.{sym, arith}
use Rattle.back_end.proofs.ScriptLemmas.{lone-stands}
use Rattle.back_end.proofs.GuestSeats.{hear-fewer}
use Rattle.back_end.proofs.GuestSteps.{guest-texts, lone-acted, lone-unacted}
use Rattle.back_end.proofs.desk.Desk.edit.Goals as goal

pub returns-clause-stands : goal.returns-clause-stands
returns-clause-stands c = λ state stands.
    lone-stands c.args.self.now c.apply_by_script.new.self c.args.side.now c.apply_by_script.new.side state c.args.edit stands.page_is
    (sym c.in_default.ensures)
    ((c.in_ok-apply_by_script.ensures {u = tt}).stands state stands c.requires.texts)

pub returns-in-Some-clause-told : goal.returns-in-Some-clause-told
returns-in-Some-clause-told c = λ other stands.
    lone-unacted c.args.guest.now c.args.side.now other c.args.edit c.in-Some.fault stands (sym c.in-Some.ensures)

pub returns-clause-told : goal.returns-clause-told
returns-clause-told c = λ other stands.
    lone-acted c.args.guest.now c.apply_by_script.new.guest c.args.side.now c.apply_by_script.new.side other c.args.edit stands
    (sym c.in_default.ensures)
    ((c.in_ok-apply_by_script.ensures {u = tt}).told other stands (guest-texts c.args.guest.now c.args.edit c.requires.texts))

pub apply_by_script-requires-clause-can_hear : goal.apply_by_script-requires-clause-can_hear
apply_by_script-requires-clause-can_hear c = hear-fewer 2 1 c.args.guest.now c.args.side.now (omega arith) c.requires.can_hear
