use Rattle.client_views.proofs.EffectLemmas.{nothing-else}
use Rattle.client_views.proofs.effects.Effect.of_reply.Goals as goal

pub returns : goal.returns
returns c = nothing-else c.args.method.now c.args.body c.in_default.not-Nothing c.in_default.not-Root c.in_default.not-SheetText
