-- Bytes that come down take the front end along, and never to a fault.
use Rattle.std.proofs.Common.{rules, ◌≡◌, ◌≤◌, ◌+◌, length, arith, ap, refl, min, Result, Ok, Err}
use Rattle.front_mirror.specs.declared.faults.FrontErr.{FrontErr}
use Rattle.front_mirror.specs.declared.faults.FrontErr.TheVariants.{Fault}
use Rattle.inspect_replay.specs.Runs.{ends_of}
use Rattle.inspect_replay.proofs.EndLemmas.{got-run, no_fault}
use Rattle.inspect_replay.proofs.FollowLemmas.{got-follows, refused-folds, kept-with}
use Rattle.inspect_replay.proofs.one_front.OneFront.deliver_down.Goals as goal

pub returns-in-Ok-take_owned : goal.returns-in-Ok-take_owned
returns-in-Ok-take_owned g c = record {
  honest = search rules;
  cause = search rules;
  follows = λ state0 up0 down0 run.
      kept-with (Ok c.in-Ok-take_owned.field-0) state0 up0 down0 (g.L.Link.up c.take_down.new.link) (g.L.Link.down c.take_down.new.link)
      c.take_down.new.self (record (ends_of c.args.self.now) { front = c.take_owned.new.self }) tt
      (got-follows state0 up0 down0 (g.L.Link.up c.args.link.now) (g.L.Link.down c.args.link.now) (g.L.Link.up c.take_down.new.link)
      (g.L.Link.down c.take_down.new.link)
      c.args.self.now.ends c.take_down.new.self (ends_of c.args.self.now) c.in-Ok.piece.items c.take_owned.new.self run
      c.take_down.ensures.ends
      c.in-Ok.ensures.count (c.take_down.ensures.sent, c.in-Ok.ensures.given) c.take_down.ensures.up
      c.in-Ok-take_owned.ensures.ok c.in-Ok-take_owned.ensures.well);
  steps = λ up0 down0 w run. (
    tt,
    got-run (g.L.Link.honest c.args.link.now) (g.L.Link.honest c.take_down.new.link) up0 down0 (g.L.Link.up c.args.link.now)
        (g.L.Link.down c.args.link.now)
        (g.L.Link.up c.take_down.new.link) (g.L.Link.down c.take_down.new.link) w c.args.n c.args.self.now.ends c.take_down.new.self
        (ends_of c.args.self.now) c.in-Ok.piece.items c.take_owned.new.self run c.take_down.ensures.honest c.take_down.ensures.ends
        c.in-Ok.ensures.count c.in-Ok.ensures.all (c.take_down.ensures.sent, c.in-Ok.ensures.given) c.take_down.ensures.up
        c.in-Ok-take_owned.ensures.ok,
  );
}

pub returns-in-Err-Fault : goal.returns-in-Err-Fault
returns-in-Err-Fault g c =
    let is : ◌≡◌ {A = Result (Unit {0}) FrontErr} (Err c.in-Err-Fault.field-0) (Err (Fault c.in-Err-Fault.refused)) = ap
    (λ fault. Err fault) c.in-Err-Fault.field-0-is in
    let count : c.take_down.new.self.down_there + length c.in-Ok.piece.items ≡ c.args.self.now.ends.down_there = c.in-Ok.ensures.count in
    let most : length c.in-Ok.piece.items ≤ c.args.self.now.ends.down_there = omega (arith, count) in
    record {
      honest = search rules;
      cause = search rules;
      follows = λ state0 up0 down0 run. (
        tt,
        refused-folds state0 up0 down0 (g.L.Link.up c.args.link.now) (g.L.Link.down c.args.link.now) (g.L.Link.up c.take_down.new.link)
            (g.L.Link.down c.take_down.new.link)
            c.args.self.now.ends.splitter.whole (ends_of c.args.self.now) c.in-Ok.piece.items c.in-Ok.piece.items c.take_owned.new.self
            c.in-Err-Fault.refused run.so_far most (c.take_down.ensures.sent, c.in-Ok.ensures.given) c.take_down.ensures.up refl
            (c.in-Err-Fault.ensures.fault c.in-Err-Fault.refused is) (c.in-Err-Fault.ensures.kept c.in-Err-Fault.refused is),
      );
      steps = λ up0 down0 w run. (
        no_fault up0 down0 _ _ w _ (ends_of c.args.self.now) c.args.n (min c.args.n c.args.self.now.ends.down_there) c.in-Ok.piece.items
            c.take_owned.new.self c.in-Err-Fault.refused run.so_far.in_world refl (c.in-Ok.ensures.all run.so_far.is_honest)
            (c.in-Err-Fault.ensures.fault c.in-Err-Fault.refused is) (c.in-Err-Fault.ensures.kept c.in-Err-Fault.refused is),
        tt,
      );
    }
