use Rattle.css_objects.proofs.ReadLists.{some_items}
use Rattle.css_objects.proofs.styles.has_none.Goals as goal

pub returns-in-len1-up : goal.returns-in-len1-up
returns-in-len1-up c = some_items c.args.items.now c.in-len1-up.len_at_least
