use Rattle.std.proofs.Common.{rules, ◌≡◌, ◌<◌, ◌∙◌, [], Some, false, ap, sym, map, is_some}
use Rattle.session_runs.specs.Pairs.{front_pair}
use Rattle.front_mirror.specs.Front.{first_state}
use Rattle.multi_replay.specs.States.{at_rest}
use Rattle.multi_replay.specs.Held.{waiting_seen}
use Rattle.multi_replay.proofs.TakeLemmas.{second-made}
use Rattle.multi_replay.proofs.pair.Pair.make_second.Goals as goal

pub returns-clause-takes : goal.returns-clause-takes
returns-clause-takes g c =
    let none : is_some c.args.self.now.second ≡ false = search rules in
    let up : c.args.self.now.top < c.args.number = search rules in
    let fresh : at_rest c.in_ok-front.front ≡ first_state [] =
    ap at_rest (c.in_ok-front.ensures ∙ ap (λ xs. first_state (map g.P.Panel.kind_of xs)) c.new.ensures.items) in
    second-made c.args.self.now.second c.args.self.now.top c.args.number _ _ none up
    (ap (λ s. front_pair (at_rest c.args.self.now.first) (Some (record { text = c.args.session; value = s }))
    (map waiting_seen c.args.self.now.waiting.items) [] c.args.number) (sym fresh))
