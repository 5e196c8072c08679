-- The texts that are old are fetched.
use Rattle.std.proofs.Common.{rules, ℕ, List, length, ◌∙◌, subst}
use Rattle.replay_parts.specs.Moments.{moment}
use Rattle.pair_replay.specs.Running.{PairFetches, fetching_all}
use Rattle.pair_replay.proofs.two_fronts.TwoFronts.fetch_stale.Goals as goal

pub returns : goal.returns
returns g c =
    let old = moment (g.L.Link.honest c.args.link.now) (g.L.Link.up c.args.link.now) (g.L.Link.down c.args.link.now) c.args.self.now in
    let new = moment (g.L.Link.honest c.fetch_all.new.link) (g.L.Link.up c.fetch_all.new.link)
    (g.L.Link.down c.fetch_all.new.link) c.fetch_all.new.self in
    record {
      honest = search rules;
      cause = search rules;
      follows = search rules;
      steps = subst (λ (numbers : List ℕ).
          PairFetches c.args.second (length numbers) old new c.fetch_all.result (fetching_all c.args.second numbers))
          (c.deref.ensures.value ∙ c.in_ok-numbers.ensures) c.fetch_all.ensures.steps;
    }
