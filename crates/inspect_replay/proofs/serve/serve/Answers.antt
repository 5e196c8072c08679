-- A stop is the status that was served.
use Rattle.std.proofs.Common.{Ok, Err, sym, subst}
use Rattle.inspect_replay.specs.Served.{first_alone}
use Rattle.replay_parts.specs.declared.status.Status.TheVariants.{Done}
use Rattle.replay_parts.specs.Answers.{StatusRose}
use Rattle.inspect_replay.specs.Serving.{ServeCall, ServeTook, IsServeStatus}
use Rattle.inspect_replay.proofs.ServeEnds.{end-took, stop-served, serve-status, stop-rose, served-reads}
use Rattle.inspect_replay.proofs.FaultAnswers.{answers-faults, stop-answers}
use Rattle.inspect_replay.proofs.serve.serve.Goals as goal

pub serve_source-requires : goal.serve_source-requires
serve_source-requires g c = record {
  off = c.new.ensures.off;
  css = c.new.ensures.css;
  agent_is = c.new.ensures.agent;
  watches_are = c.new.ensures.watches;
  searches_are = c.new.ensures.searches;
  history_is = c.new.ensures.history;
  alive = c.new.ensures.alive;
}

pub returns-in-Err-clause-took : goal.returns-in-Err-clause-took
returns-in-Err-clause-took g c = λ input left.
    let call : ServeCall = record {
      left_before = g.S.Source.left c.args.src.now;
      left_after = g.S.Source.left c.serve_source.new.src;
      taken_before = g.K.Sink.taken c.args.out.now;
      taken_after = g.K.Sink.taken c.serve_source.new.out;
    } in
    subst (λ status. ServeTook status input call) (sym c.status_of.ensures)
    (stop-served c.in-Err.stop first_alone input call left c.in-Err.ensures.served)

pub returns-in-Err-clause-only : goal.returns-in-Err-clause-only
returns-in-Err-clause-only g c =
    let call : ServeCall = record {
      left_before = g.S.Source.left c.args.src.now;
      left_after = g.S.Source.left c.serve_source.new.src;
      taken_before = g.K.Sink.taken c.args.out.now;
      taken_after = g.K.Sink.taken c.serve_source.new.out;
    } in
    subst IsServeStatus (sym c.status_of.ensures) (serve-status c.in-Err.stop call c.in-Err.ensures.served)

pub returns-in-Err-clause-reads : goal.returns-in-Err-clause-reads
returns-in-Err-clause-reads g c =
    let call : ServeCall = record {
      left_before = g.S.Source.left c.args.src.now;
      left_after = g.S.Source.left c.serve_source.new.src;
      taken_before = g.K.Sink.taken c.args.out.now;
      taken_after = g.K.Sink.taken c.serve_source.new.out;
    } in
    served-reads first_alone call (Err c.in-Err.stop) c.in-Err.ensures.served

pub returns-in-Err-clause-answered : goal.returns-in-Err-clause-answered
returns-in-Err-clause-answered g c = stop-answers _ c.in-Err.stop c.status_of.result c.status_of.ensures c.in-Err.ensures.cause.others

pub returns-in-Err-clause-in_turn : goal.returns-in-Err-clause-in_turn
returns-in-Err-clause-in_turn g c = c.serve_source.ensures.in_turn

pub returns-in-Err-clause-cause : goal.returns-in-Err-clause-cause
returns-in-Err-clause-cause g c = λ before after.
    subst (StatusRose (record {
      source_before = g.S.Source.faults c.args.src.now;
      source_after = g.S.Source.faults c.serve_source.new.src;
      sink_before = g.K.Sink.faults c.args.out.now;
      sink_after = g.K.Sink.faults c.serve_source.new.out;
      link_before = before;
      link_after = after;
    })) (sym c.status_of.ensures)
    (stop-rose c.in-Err.stop (record {
      source_before = g.S.Source.faults c.args.src.now;
      source_after = g.S.Source.faults c.serve_source.new.src;
      sink_before = g.K.Sink.faults c.args.out.now;
      sink_after = g.K.Sink.faults c.serve_source.new.out;
      link_before = 0;
      link_after = 0;
    }) before after c.in-Err.ensures.cause.rose)

pub returns-in-Ok-clause-took : goal.returns-in-Ok-clause-took
returns-in-Ok-clause-took g c = λ input left.
    let call : ServeCall = record {
      left_before = g.S.Source.left c.args.src.now;
      left_after = g.S.Source.left c.serve_source.new.src;
      taken_before = g.K.Sink.taken c.args.out.now;
      taken_after = g.K.Sink.taken c.serve_source.new.out;
    } in
    end-took first_alone input call left (c.in-Ok.ensures {u = c.in-Ok.field-0}).served

pub returns-in-Ok-clause-reads : goal.returns-in-Ok-clause-reads
returns-in-Ok-clause-reads g c =
    let call : ServeCall = record {
      left_before = g.S.Source.left c.args.src.now;
      left_after = g.S.Source.left c.serve_source.new.src;
      taken_before = g.K.Sink.taken c.args.out.now;
      taken_after = g.K.Sink.taken c.serve_source.new.out;
    } in
    served-reads first_alone call (Ok c.in-Ok.field-0) (c.in-Ok.ensures {u = c.in-Ok.field-0}).served

pub returns-in-Ok-clause-in_turn : goal.returns-in-Ok-clause-in_turn
returns-in-Ok-clause-in_turn g c = c.serve_source.ensures.in_turn

pub returns-in-Ok-clause-answered : goal.returns-in-Ok-clause-answered
returns-in-Ok-clause-answered g c = answers-faults _ Done (c.in-Ok.ensures {u = c.in-Ok.field-0}).cause.others
