use Rattle.dom_objects.proofs.ScannedTokens.{attributes_read}
use Rattle.dom_objects.proofs.scan.attributes_ahead.Goals as goal

pub returns-in_ok-take_key : goal.returns-in_ok-take_key
returns-in_ok-take_key c =
    attributes_read c.in_ok-pairs.pairs c.if-take_name.ensures c.in_ok-pairs.ensures c.in_ok-take_key.ensures
