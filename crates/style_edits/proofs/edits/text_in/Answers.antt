use Rattle.style_edits.proofs.LineForms.{whole_usable}
use Rattle.style_edits.proofs.edits.text_in.Goals as goal

pub placed-requires-clause-part : goal.placed-requires-clause-part
placed-requires-clause-part c = whole_usable c.args.entry.now.text c.as_str.result.now c.whole.result c.as_str.ensures c.as_str.utf8
    c.whole.ensures
