-- A frame for which there is room is answered whole, or in part where the write stops.
use Rattle.std.proofs.Common.{[], ◌∷◌, refl}
use Rattle.replay_parts.specs.declared.stop.Stop.TheVariants.{WriteFault, Memory}
use Rattle.inspect_replay.specs.Serving.{serve_moment}
use Rattle.inspect_replay.proofs.ServeLemmas.{frame-answered, frame-in-part, frame-halted, frame-lost, full-first}
use Rattle.inspect_replay.proofs.ClientLemmas.{room-there, no-room-there}
use Rattle.inspect_replay.proofs.service.Service.answer.Goals as goal

pub returns-then-not-has_room-clause-answers : goal.returns-then-not-has_room-clause-answers
returns-then-not-has_room-clause-answers g c = λ now stands.
    full-first now c.args.frame.now (g.K.Sink.taken c.args.out.now)
    (no-room-there c.args.self.now.clients c.args.self.now.side now stands c.if-not-has_room.ensures.1)

pub returns-in-Ok-clause-answers : goal.returns-in-Ok-clause-answers
returns-in-Ok-clause-answers g c = λ now stands.
    frame-answered now c.args.frame.now c.new-message.result.items c.take_message.new.out.items c.deref.result.now
    (g.K.Sink.taken c.args.out.now)
    (serve_moment (record {
      alloc = c.args.self.now.alloc;
      side = c.take_message.new.side;
      clients = c.take_message.new.self;
      splitter = c.args.self.now.splitter;
      seated = c.take_message.ensures.seated;
    }) (g.K.Sink.taken c.write_all.new.out))
    (room-there c.args.self.now.clients c.args.self.now.side now stands (c.if-not-has_room.ensures.0 refl))
    c.new-message.ensures.items (c.in_ok-take_message.ensures.sent now stands) c.deref.ensures.value
    (c.in_ok-take_message.ensures.stands now stands) c.in-Ok.ensures.ok

pub returns-in-Err-Failed-clause-answers : goal.returns-in-Err-Failed-clause-answers
returns-in-Err-Failed-clause-answers g c = λ now stands.
    frame-halted WriteFault now c.args.frame.now (g.K.Sink.taken c.args.out.now) (g.K.Sink.taken c.write_all.new.out)
    (room-there c.args.self.now.clients c.args.self.now.side now stands (c.if-not-has_room.ensures.0 refl))
    (frame-in-part now c.args.frame.now c.new-message.result.items c.take_message.new.out.items c.deref.result.now
    (g.K.Sink.taken c.args.out.now) (g.K.Sink.taken c.write_all.new.out)
    c.new-message.ensures.items (c.in_ok-take_message.ensures.sent now stands) c.deref.ensures.value c.in-Err-Failed.ensures.err)

pub returns-clause-answers : goal.returns-clause-answers
returns-clause-answers g c = λ now stands.
    frame-halted Memory now c.args.frame.now (g.K.Sink.taken c.args.out.now) (g.K.Sink.taken c.write_all.new.out)
    (room-there c.args.self.now.clients c.args.self.now.side now stands (c.if-not-has_room.ensures.0 refl))
    (frame-in-part now c.args.frame.now c.new-message.result.items c.take_message.new.out.items c.deref.result.now
    (g.K.Sink.taken c.args.out.now) (g.K.Sink.taken c.write_all.new.out)
    c.new-message.ensures.items (c.in_ok-take_message.ensures.sent now stands) c.deref.ensures.value c.in-Err-Memory.ensures.err)

pub returns-in_err-take_message-clause-answers : goal.returns-in_err-take_message-clause-answers
returns-in_err-take_message-clause-answers g c = λ now stands.
    frame-lost c.from_residual.result now (c.args.frame.now ∷ []) (g.K.Sink.taken c.args.out.now)
    (record {
      alloc = c.args.self.now.alloc;
      side = c.take_message.new.side;
      clients = c.take_message.new.self;
      splitter = c.args.self.now.splitter;
      seated = c.take_message.ensures.seated;
    }) c.from_residual.ensures.1

pub take_message-requires : goal.take_message-requires
take_message-requires g c = record { room = c.if-not-has_room.ensures.0 refl; seated = c.args.self.now.seated }
