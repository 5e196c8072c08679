-- All of the up pipe is delivered, and then all of the down pipe.
use Rattle.std.proofs.Common.{rules, subst, ◌∙◌}
use Rattle.session_runs.specs.World.{delivered_down}
use Rattle.replay_parts.specs.Moments.{moment}
use Rattle.inspect_replay.specs.Runs.{Steps}
use Rattle.inspect_replay.proofs.EndLemmas.{settle_goes}
use Rattle.inspect_replay.proofs.one_front.OneFront.deliver_all.Goals as goal

pub returns-in-Ok : goal.returns-in-Ok
returns-in-Ok g c = record {
  honest = search rules;
  cause = search rules;
  follows = λ state0 up0 down0 run.
      c.deliver_down.ensures.follows state0 up0 down0 (c.in-Ok.ensures.follows state0 up0 down0 run).0;
  steps = λ up0 down0 w run.
      settle_goes c.deliver_down.result (g.L.Link.honest c.deliver_up.new.link) (g.L.Link.honest c.deliver_down.new.link) up0 down0
      (g.L.Link.up c.deliver_up.new.link) (g.L.Link.down c.deliver_up.new.link) (g.L.Link.up c.deliver_down.new.link)
      (g.L.Link.down c.deliver_down.new.link) w c.up_there-up.result c.deliver_up.new.self c.deliver_down.new.self
      (c.up_there-up.ensures ∙ run.so_far.in_world.on_link.up_left) (c.in-Ok.ensures.steps up0 down0 w run).1
      (subst (λ n. Steps (moment (g.L.Link.honest c.deliver_up.new.link) (g.L.Link.up c.deliver_up.new.link)
      (g.L.Link.down c.deliver_up.new.link) c.deliver_up.new.self)
      (moment (g.L.Link.honest c.deliver_down.new.link) (g.L.Link.up c.deliver_down.new.link)
      (g.L.Link.down c.deliver_down.new.link) c.deliver_down.new.self) c.deliver_down.result (λ v. delivered_down n v))
      c.down_there-down.ensures c.deliver_down.ensures.steps);
}
