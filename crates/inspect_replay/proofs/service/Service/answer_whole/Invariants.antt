-- Some frames are answered, and the splitter holds the others.
use Rattle.std.proofs.Common.{◌≡◌, length}
use Rattle.inspect_replay.specs.Served.{Served, ClientsStandFor}
use Rattle.inspect_replay.specs.Serving.{serve_moment}
use Rattle.inspect_replay.proofs.ServeLemmas.{AnswersSoFar}
use Rattle.inspect_replay.proofs.service.Service.answer_whole.Given as goal

abbrev pub invariant-loop-frame : goal.invariant-loop-frame
invariant-loop-frame g l = record {
  rest : l.self.splitter.rest ≡ l.initial.self.splitter.rest;
  same : g.K.Sink.faults l.out ≡ g.K.Sink.faults l.initial.out;
  answers : (now : Served) → ClientsStandFor l.initial.self.clients l.initial.self.side now
      → AnswersSoFar (g.K.Sink.taken l.initial.out) (serve_moment l.self (g.K.Sink.taken l.out)) now l.initial.self.splitter.whole;
}

abbrev pub decreases-loop-frame : goal.decreases-loop-frame
decreases-loop-frame g l = length l.self.splitter.whole
