-- What the agent is asked is carried out, or refused since DOM is off.
use Rattle.std.proofs.Common.{refl, sym}
use Rattle.dom_agent.proofs.OutcomeLemmas.{depth-fits}
use Rattle.back_end.proofs.SeatLemmas.{asked-stands, asked-sent}
use Rattle.back_end.proofs.AskCounts.{ask-few}
use Rattle.back_end.proofs.desk.Desk.ask_agent.Goals as goal

pub returns-clause-stands : goal.returns-clause-stands
returns-clause-stands c = λ state stands.
    asked-stands c.args.self.now (record {
      alloc = _;
      is_on = _;
      css = _;
      agent = _;
      watches = _;
      searches = _;
    }) c.args.side.now c.args.side.now state c.args.id c.args.ask.now c.page.result.now
    (depth-fits c.args.ask.now c.requires.ask)
    (sym c.requires.on) stands refl refl c.page.ensures c.is_on_after-self.ensures refl refl refl c.in_ok-ask.ensures.known

pub returns-clause-sent : goal.returns-clause-sent
returns-clause-sent c = λ state stands.
    asked-sent c.args.self.now c.args.side.now state c.args.id c.args.ask.now c.page.result.now c.args.out.now.items c.ask.new.out.items
    (depth-fits c.args.ask.now c.requires.ask) (sym c.requires.on) stands c.page.ensures c.in_ok-ask.ensures.sent

pub ask-requires-clause-few : goal.ask-requires-clause-few
ask-requires-clause-few c =
    ask-few c.args.self.now c.args.side.now c.page.result.now c.args.ask.now
    (depth-fits c.args.ask.now c.requires.ask) c.requires.room.ids c.page.ensures
    c.requires.standing
