-- An act that the page takes is carried out, and one that it refuses changes nothing.
use Rattle.std.proofs.Common.{sym, ◌∙◌}
use Rattle.back_end.proofs.SeatLemmas.{on_ok}
use Rattle.back_end.proofs.ScriptLemmas.{in_any}
use Rattle.back_end.proofs.OwnSeats.{taken-both, taken-sent, faulty-both, faulty-sent}
use Rattle.back_end.proofs.GuestSteps.{taken-hears, faulty-hears}
use Rattle.back_end.proofs.desk.Desk.answer_changed.Goals as goal

pub returns-in-Some-clause-stands : goal.returns-in-Some-clause-stands
returns-in-Some-clause-stands c = λ state both.
    in_any c.refuse.result _
    (faulty-both c.args.self.now c.script.new.self c.args.history.now c.args.side.now c.script.new.side state c.args.id c.args.act
    c.in-Some.fault both
    (sym c.in-Some.is ∙ c.in_ok-fault.ensures.fault) (c.in_ok-fault.ensures.stands state both.stands))

pub returns-in-Some-clause-sent : goal.returns-in-Some-clause-sent
returns-in-Some-clause-sent c = λ state stands.
    on_ok c.refuse.result _ _ (c.refuse.ensures state)
    (λ sent. faulty-sent c.args.self.now c.args.side.now state c.args.id c.args.act c.in-Some.fault c.act_why.result c.args.out.now.items
    c.script.new.out.items _ stands
    (sym c.in-Some.is ∙ c.in_ok-fault.ensures.fault) c.act_why.ensures (c.in_ok-fault.ensures.sent state stands) sent)

pub returns-clause-stands : goal.returns-clause-stands
returns-clause-stands c = λ state both.
    in_any c.write_reply.result _
    (taken-both c.args.self.now c.script.new.self c.args.history.now c.cross.new.self c.args.side.now c.script.new.side state c.args.id
    c.args.act both
    (sym c.in_default.is ∙ c.in_ok-fault.ensures.fault) c.cross.ensures (c.in_ok-fault.ensures.stands state both.stands))

pub returns-clause-sent : goal.returns-clause-sent
returns-clause-sent c = λ state stands.
    on_ok c.write_reply.result _ _ c.write_reply.ensures.ok
    (λ sent. taken-sent c.args.self.now c.args.side.now state c.args.id c.args.act c.args.out.now.items c.script.new.out.items _ stands
    (sym c.in_default.is ∙ c.in_ok-fault.ensures.fault) (c.in_ok-fault.ensures.sent state stands) sent)

pub returns-in-Some-clause-told : goal.returns-in-Some-clause-told
returns-in-Some-clause-told c = λ other stands.
    in_any c.refuse.result _
    (faulty-hears c.args.guest.now c.script.new.guest c.args.side.now c.script.new.side other c.args.act c.in-Some.fault stands
    (sym c.in-Some.is ∙ c.in_ok-fault.ensures.fault) (c.in_ok-fault.ensures.told other stands))

pub returns-clause-told : goal.returns-clause-told
returns-clause-told c = λ other stands.
    in_any c.write_reply.result _
    (taken-hears c.args.guest.now c.script.new.guest c.args.side.now c.script.new.side other c.args.act
    (sym c.in_default.is ∙ c.in_ok-fault.ensures.fault) (c.in_ok-fault.ensures.told other stands))
