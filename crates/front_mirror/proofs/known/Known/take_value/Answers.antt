use Rattle.front_mirror.proofs.MessageLemmas.{news_fit}
use Rattle.front_mirror.proofs.known.Known.take_value.Goals as goal

pub take_event-requires : goal.take_event-requires
take_event-requires c = news_fit _ _ _ (c.in-Ok-Event.ensures {u = tt}) c.in-Ok-Event.field-0-is
