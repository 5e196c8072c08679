use Rattle.std.proofs.Common.{◌≡◌, false, sym, ap, ◌∙◌, subst}
use Rattle.serde_json.specs.Data.{Data}
use Rattle.serde_json.specs.View.{view}
use Rattle.serde_json.specs.Written.{has_float}
use Rattle.cdp_messages.specs.Events.{news_of, news_data}
use Rattle.cdp_messages.specs.Forms.{event_said}
use Rattle.cdp_messages.proofs.Floats.{has_float-news}
use Rattle.cdp_messages.proofs.event_write.write_event.Goals as goal

pub append-requires : goal.append-requires
append-requires c =
    let said : news_data (news_of c.args.event.now) ≡ view c.in-Plain.value = sym c.in-Ok.ensures ∙ ap event_said c.in-Plain.is in
    subst (λ (d : Data). has_float d ≡ false) said (has_float-news (news_of c.args.event.now))
