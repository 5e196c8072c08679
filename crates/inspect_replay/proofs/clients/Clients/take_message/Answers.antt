-- The step is that of the seats that there are.
use Rattle.std.proofs.Common.{subst}
use Rattle.inspect_replay.specs.declared.clients.Clients.{Clients}
use Rattle.inspect_replay.specs.Served.{ClientsStandFor, AreSeated, HaveRoomLeft}
use Rattle.inspect_replay.proofs.ClientLemmas.{alone-steps, alone-sends, paired-steps, paired-sends}
use Rattle.inspect_replay.proofs.ClientLemmas.{alone-seated, seated-alone, paired-seated, seated-paired}
use Rattle.inspect_replay.proofs.clients.Clients.take_message.Goals as goal

pub take_message-requires : goal.take_message-requires
take_message-requires c = record {
  room = subst (λ (clients : Clients). HaveRoomLeft clients c.args.side.now) c.in-Alone.is c.requires.room;
  seated = alone-seated c.in-Alone.seat c.args.side.now
      (subst (λ (clients : Clients). AreSeated clients c.args.side.now) c.in-Alone.is c.requires.seated);
}

pub returns-in-Alone-clause-seated : goal.returns-in-Alone-clause-seated
returns-in-Alone-clause-seated c = seated-alone c.take_message.new.self c.take_message.new.side c.take_message.ensures.seated

pub returns-in-Alone-clause-stands : goal.returns-in-Alone-clause-stands
returns-in-Alone-clause-stands c = λ now stands.
    alone-steps c.take_message.result c.in-Alone.seat c.take_message.new.self c.args.side.now c.take_message.new.side
    c.args.frame.now c.take_message.ensures.stands now
    (subst (λ (clients : Clients). ClientsStandFor clients c.args.side.now now) c.in-Alone.is stands)

pub returns-in-Alone-clause-sent : goal.returns-in-Alone-clause-sent
returns-in-Alone-clause-sent c = λ now stands.
    alone-sends c.take_message.result c.in-Alone.seat c.args.side.now c.args.frame.now c.args.out.now.items
    c.take_message.new.out.items c.take_message.ensures.sent now
    (subst (λ (clients : Clients). ClientsStandFor clients c.args.side.now now) c.in-Alone.is stands)

pub take_message-requires-in-Paired : goal.take_message-requires-in-Paired
take_message-requires-in-Paired c = record {
  room = subst (λ (clients : Clients). HaveRoomLeft clients c.args.side.now) c.in-Paired.is c.requires.room;
  seated = paired-seated c.in-Paired.mux c.args.side.now
      (subst (λ (clients : Clients). AreSeated clients c.args.side.now) c.in-Paired.is c.requires.seated);
}

pub returns-in-Paired-clause-seated : goal.returns-in-Paired-clause-seated
returns-in-Paired-clause-seated c =
    seated-paired c.take_message-in-Paired.new.self c.take_message-in-Paired.new.side c.take_message-in-Paired.ensures.seated

pub returns-in-Paired-clause-stands : goal.returns-in-Paired-clause-stands
returns-in-Paired-clause-stands c = λ now stands.
    paired-steps c.take_message-in-Paired.result c.in-Paired.mux c.take_message-in-Paired.new.self c.args.side.now
    c.take_message-in-Paired.new.side c.args.frame.now c.take_message-in-Paired.ensures.stands now
    (subst (λ (clients : Clients). ClientsStandFor clients c.args.side.now now) c.in-Paired.is stands)

pub returns-in-Paired-clause-sent : goal.returns-in-Paired-clause-sent
returns-in-Paired-clause-sent c = λ now stands.
    paired-sends c.take_message-in-Paired.result c.in-Paired.mux c.args.side.now c.args.frame.now c.args.out.now.items
    c.take_message-in-Paired.new.out.items c.take_message-in-Paired.ensures.sent now
    (subst (λ (clients : Clients). ClientsStandFor clients c.args.side.now now) c.in-Paired.is stands)
