-- The texts that are old are fetched.
use Rattle.std.proofs.Common.{rules, subst, ◌∙◌}
use Rattle.replay_parts.specs.Moments.{moment}
use Rattle.inspect_replay.specs.Runs.{FetchesAll}
use Rattle.inspect_replay.proofs.one_front.OneFront.fetch_stale.Goals as goal

pub returns : goal.returns
returns g c = record {
  honest = search rules;
  cause = search rules;
  follows = search rules;
  steps = subst (λ numbers. FetchesAll (moment (g.L.Link.honest c.args.link.now) (g.L.Link.up c.args.link.now)
      (g.L.Link.down c.args.link.now) c.args.self.now)
      (moment (g.L.Link.honest c.fetch_all.new.link) (g.L.Link.up c.fetch_all.new.link)
      (g.L.Link.down c.fetch_all.new.link) c.fetch_all.new.self) numbers c.fetch_all.result)
      (c.deref.ensures.value ∙ c.in_ok-numbers.ensures.sheets) c.fetch_all.ensures.steps;
}
