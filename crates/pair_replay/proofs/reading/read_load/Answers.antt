-- The first line loads a page, where it is not refused.
use Rattle.std.proofs.Common.{sym}
use Rattle.page_forms.specs.Pages.{loaded_page}
use Rattle.replay_script.specs.PairSeen.{pair_seen}
use Rattle.pair_replay.proofs.FirstLine.{loads-not, loads-these, loads-can}
use Rattle.pair_replay.proofs.reading.read_load.Goals as goal

pub unreachable-requires : goal.unreachable-requires
unreachable-requires c =
    let read = c.in-Ok.ensures {u = tt} in
    loads-not c.args.text.now (pair_seen c.in-Ok.line) read.good read.form (sym (c.in-None.ensures {u = tt}))

pub returns-in-Some-clause-form : goal.returns-in-Some-clause-form
returns-in-Some-clause-form c =
    let read = c.in-Ok.ensures {u = tt} in
    loads-these c.args.text.now (pair_seen c.in-Ok.line) (loaded_page c.in-Some.page) read.good read.form (sym (c.in-Some.ensures {u = tt}))

pub returns-in-Some-clause-can : goal.returns-in-Some-clause-can
returns-in-Some-clause-can c =
    let read = c.in-Ok.ensures {u = tt} in
    loads-can c.args.text.now (pair_seen c.in-Ok.line) (loaded_page c.in-Some.page) read.good read.form read.sound
    (sym (c.in-Some.ensures {u = tt}))
