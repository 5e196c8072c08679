-- The first line loads a page, where it is not refused.
use Rattle.std.proofs.Common.{sym}
use Rattle.page_forms.specs.Pages.{loaded_page}
use Rattle.replay_script.specs.Seen.{seen}
use Rattle.inspect_replay.proofs.FirstLine.{loads-not, loads-these}
use Rattle.inspect_replay.proofs.run.read_load.Goals as goal

pub unreachable-requires : goal.unreachable-requires
unreachable-requires c =
    let read = c.in-Ok.ensures {u = tt} in
    loads-not c.args.text.now (seen c.in-Ok.line) read.good read.form (sym (c.in-None.ensures {u = tt}))

pub returns-in-Some-clause-form : goal.returns-in-Some-clause-form
returns-in-Some-clause-form c =
    let read = c.in-Ok.ensures {u = tt} in
    loads-these c.args.text.now (seen c.in-Ok.line) (loaded_page c.in-Some.page) read.good read.form (sym (c.in-Some.ensures {u = tt}))
