use Rattle.cascade_match.proofs.HeldForms.{entry-cut}
use Rattle.cascade_match.proofs.media_held.media_held.Goals as goal

pub held_among-requires : goal.held_among-requires
held_among-requires c = entry-cut c.args.entry.now c.as_str.result.now c.as_slice.result.now c.as_str.ensures c.as_slice.ensures
    c.requires.read c.as_str.utf8
