-- Bytes that come down take the front ends along, and never to a fault.
use Rattle.std.proofs.Common.{rules, ◌≡◌, ◌≤◌, ◌+◌, length, arith, ap, refl, min, ◌∙◌, Result, Ok, Err}
use Rattle.front_mirror.specs.declared.faults.FrontErr.{FrontErr}
use Rattle.front_mirror.specs.declared.faults.FrontErr.TheVariants.{Fault}
use Rattle.multi_replay.specs.States.{after_taken}
use Rattle.pair_world.proofs.PairCalls.{no_fault}
use Rattle.pair_replay.specs.Running.{pair_ends_of}
use Rattle.pair_replay.proofs.EndLemmas.{got-run}
use Rattle.pair_replay.proofs.FollowLemmas.{got-follows, refused-folds, kept-with}
use Rattle.pair_replay.proofs.two_fronts.TwoFronts.deliver_down.Goals as goal

pub returns-in-Ok-take : goal.returns-in-Ok-take
returns-in-Ok-take g c = record {
  honest = search rules;
  cause = search rules;
  follows = λ start up0 down0 run.
      kept-with (Ok c.in-Ok-take.field-0) start up0 down0 (g.L.Link.up c.take_down.new.link) (g.L.Link.down c.take_down.new.link)
      c.take_down.new.self (record (pair_ends_of c.args.self.now) { fronts = c.take.new.self }) tt
      (got-follows start up0 down0 (g.L.Link.up c.args.link.now) (g.L.Link.down c.args.link.now)
      (g.L.Link.up c.take_down.new.link) (g.L.Link.down c.take_down.new.link) c.args.self.now.ends c.take_down.new.self
      (pair_ends_of c.args.self.now) c.deref.result.now c.in-Ok.piece.items c.take.new.self run c.take_down.ensures.ends
      c.in-Ok.ensures.count (c.take_down.ensures.sent, c.in-Ok.ensures.given) c.take_down.ensures.up c.deref.ensures.value
      (c.in-Ok-take.ensures {u = c.in-Ok-take.field-0}).ok (c.in-Ok-take.ensures {u = c.in-Ok-take.field-0}).well);
  steps = λ mode up0 down0 w may run. (
    tt,
    got-run (g.L.Link.honest c.args.link.now) (g.L.Link.honest c.take_down.new.link) mode up0 down0 (g.L.Link.up c.args.link.now)
        (g.L.Link.down c.args.link.now) (g.L.Link.up c.take_down.new.link) (g.L.Link.down c.take_down.new.link) w c.args.n
        c.args.self.now.ends c.take_down.new.self (pair_ends_of c.args.self.now) c.deref.result.now c.in-Ok.piece.items c.take.new.self
        run c.take_down.ensures.honest c.take_down.ensures.ends c.in-Ok.ensures.count c.in-Ok.ensures.all
        (c.take_down.ensures.sent, c.in-Ok.ensures.given) c.take_down.ensures.up c.deref.ensures.value
        (c.in-Ok-take.ensures {u = c.in-Ok-take.field-0}).ok,
  );
}

pub returns-in-Err-Fault : goal.returns-in-Err-Fault
returns-in-Err-Fault g c =
    let is : ◌≡◌ {A = Result (Unit {0}) FrontErr} (Err c.in-Err-Fault.field-0) (Err (Fault c.in-Err-Fault.refused)) = ap
    (λ fault. Err fault) c.in-Err-Fault.field-0-is in
    let count : c.take_down.new.self.down_there + length c.in-Ok.piece.items ≡ c.args.self.now.ends.down_there = c.in-Ok.ensures.count in
    let most : length c.in-Ok.piece.items ≤ c.args.self.now.ends.down_there = omega (arith, count) in
    record {
      honest = search rules;
      cause = search rules;
      follows = λ start up0 down0 run. (
        tt,
        refused-folds start up0 down0 (g.L.Link.up c.args.link.now) (g.L.Link.down c.args.link.now) (g.L.Link.up c.take_down.new.link)
            (g.L.Link.down c.take_down.new.link) c.args.self.now.ends.splitter.whole (pair_ends_of c.args.self.now) c.deref.result.now
            c.in-Ok.piece.items c.take.new.self c.in-Err-Fault.refused run.so_far most
            (c.take_down.ensures.sent, c.in-Ok.ensures.given) c.take_down.ensures.up c.deref.ensures.value
            (c.in-Err-Fault.ensures.fault c.in-Err-Fault.refused is) (c.in-Err-Fault.ensures.kept c.in-Err-Fault.refused is),
      );
      steps = λ mode up0 down0 w may run. (
        no_fault mode up0 down0 _ _ w _ (pair_ends_of c.args.self.now) c.args.n (min c.args.n c.args.self.now.ends.down_there)
            c.in-Ok.piece.items c.take.new.self c.in-Err-Fault.refused run.so_far.in_world refl (c.in-Ok.ensures.all run.so_far.is_honest)
            (c.in-Err-Fault.ensures.fault c.in-Err-Fault.refused is
            ∙ ap (after_taken c.args.self.now.fronts) c.deref.ensures.value)
            (c.in-Err-Fault.ensures.kept c.in-Err-Fault.refused is),
        tt,
      );
    }
