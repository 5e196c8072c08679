use Rattle.std.proofs.Common.{◌≡◌, ◌∙◌, Some, None, ap, sym, refl, map, option_map}
use Rattle.session_runs.specs.Pairs.{without_id}
use Rattle.multi_replay.specs.Held.{command_kind, waiting_seen, command_among, outcome_seen, pair_seen}
use Rattle.multi_replay.proofs.TakeLemmas.{kind-among, without-among, target-none, target-refused, target-undone, target-carried}
use Rattle.multi_replay.proofs.pair.Pair.take_target.Goals as goal

pub returns-in_default-clause-takes : goal.returns-in_default-clause-takes
returns-in_default-clause-takes g c =
    let none : command_among c.args.id c.args.self.now.waiting.items ≡ None = sym c.command_under.ensures ∙ c.in_default.is in (
      target-none (pair_seen c.args.self.now) c.args.id c.args.frame.now
          (kind-among c.args.id c.args.self.now.waiting.items ∙ ap (option_map command_kind) none),
      refl,
    )

pub returns-in-Err-clause-takes : goal.returns-in-Err-clause-takes
returns-in-Err-clause-takes g c =
    let some : command_among c.args.id c.args.self.now.waiting.items ≡ Some c.in-Some.command =
    sym c.command_under.ensures ∙ c.in-Some.is in
    target-refused (pair_seen c.args.self.now) c.args.id c.args.frame.now (command_kind c.in-Some.command)
    (kind-among c.args.id c.args.self.now.waiting.items ∙ ap (option_map command_kind) some) c.in-Err.error c.in-Err.ensures

pub returns-in-Err-carry_out-clause-takes : goal.returns-in-Err-carry_out-clause-takes
returns-in-Err-carry_out-clause-takes g c =
    let some : command_among c.args.id c.args.self.now.waiting.items ≡ Some c.in-Some.command =
    sym c.command_under.ensures ∙ c.in-Some.is in
    target-undone (pair_seen c.args.self.now) c.args.id c.args.frame.now (command_kind c.in-Some.command)
    (kind-among c.args.id c.args.self.now.waiting.items ∙ ap (option_map command_kind) some) (outcome_seen c.in-Ok.outcome)
    (pair_seen c.carry_out.new.self) c.in-Err-carry_out.error c.in-Ok.ensures c.in-Err-carry_out.ensures.takes

pub returns-clause-takes : goal.returns-clause-takes
returns-clause-takes g c =
    let some : command_among c.args.id c.args.self.now.waiting.items ≡ Some c.in-Some.command =
    sym c.command_under.ensures ∙ c.in-Some.is in
    let left : map waiting_seen c.take_waiting-answered.new.waiting.items
    ≡ without_id c.args.id (map waiting_seen c.args.self.now.waiting.items) =
    ap (map waiting_seen) c.take_waiting-answered.ensures
    ∙ without-among c.args.id c.carry_out.new.self.waiting.items
    ∙ ap (λ ws. without_id c.args.id (map waiting_seen ws.items)) c.carry_out.ensures.waiting in
    target-carried (pair_seen c.args.self.now) c.args.id c.args.frame.now (command_kind c.in-Some.command)
    (kind-among c.args.id c.args.self.now.waiting.items ∙ ap (option_map command_kind) some) (outcome_seen c.in-Ok.outcome)
    (pair_seen c.carry_out.new.self) (map waiting_seen c.take_waiting-answered.new.waiting.items) c.in-Ok.ensures
    (c.in-Ok-carry_out.ensures {u = c.in-Ok-carry_out.field-0}).takes left
