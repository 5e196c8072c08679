use Rattle.std.proofs.Common.{sym, ap, subst}
use Rattle.serde_json.specs.View.{view}
use Rattle.front_mirror.specs.Front.{FrontValue}
use Rattle.front_mirror.specs.Known.{known_value, Takes}
use Rattle.front_mirror.proofs.MessageLemmas.{effect_fits, IsRead, matched_taken, other_taken}
use Rattle.front_mirror.proofs.known.Known.take_reply.Goals as goal

pub take_effect-requires : goal.take_effect-requires
take_effect-requires c = effect_fits c.in-Some.method.now (view c.args.value.now) _ _ c.in-Ok.ensures c.of_reply-effect.ensures

pub returns-in-Matched : goal.returns-in-Matched
returns-in-Matched c =
    let read : IsRead (known_value c.args.self.now) c.args.id (view c.args.value.now) c.in-Some.method.now c.in-Ok.body =
    record { waits = sym c.in-Some.ensures; result = c.in-Ok.ensures } in (
      matched_taken (known_value c.args.self.now)
          (known_value c.keep_matched.new.self) c.args.id c.args.frame _ _ _ c.in-Matched.matched read c.in-Matched.is
          (c.in_ok-keep_matched-in-Matched.ensures {u = tt}),
      ap (λ (v : FrontValue). v.tree) (c.in_ok-keep_matched-in-Matched.ensures {u = tt}),
    )

pub returns-in-Ok : goal.returns-in-Ok
returns-in-Ok c =
    let read : IsRead (known_value c.args.self.now) c.args.id (view c.args.value.now) c.in-Some.method.now c.in-Ok.body =
    record { waits = sym c.in-Some.ensures; result = c.in-Ok.ensures } in
    subst (Takes (known_value c.args.self.now) (known_value c.take_effect.new.self) c.take_effect.result)
    (sym (other_taken (known_value c.args.self.now) c.args.id c.args.frame _ _ _ _ read c.in_default-body.not-Matched
    c.of_reply-effect.ensures)) c.take_effect.ensures
