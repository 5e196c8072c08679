use Rattle.style_edits.proofs.RunForms.{run_refused, only_olds, only_restored}
use Rattle.style_edits.proofs.DraftForms.{kept_all, kept_same}
use Rattle.style_edits.proofs.style_runs.set_run.Goals as goal

pub returns-in-Err-clause-fault : goal.returns-in-Err-clause-fault
returns-in-Err-clause-fault c =
    run_refused c.args.sheet c.args.edits.now c.args.book.now c.in-Err.fault c.requires.own c.requires.some c.in-Err.ensures.found

pub set_apart-requires-clause-client : goal.set_apart-requires-clause-client
set_apart-requires-clause-client c =
    record { sheet = c.in-Ok.entry.now; is = c.in-Ok.ensures.found; entry = c.in-Ok.ensures.entry }

pub returns-in-Ok-keep-clause-olds : goal.returns-in-Ok-keep-clause-olds
returns-in-Ok-keep-clause-olds c =
    only_olds c.args.sheet c.args.book.now c.set_apart.new.book c.args.olds.now.items c.keep.new.olds.items c.in-Ok.entry.now
    c.in-Ok.ensures.found c.in-Ok.ensures.entry c.in-Ok-keep.ensures.olds c.requires.olds c.set_apart.ensures.only

pub returns-in-Ok-keep-clause-same : goal.returns-in-Ok-keep-clause-same
returns-in-Ok-keep-clause-same c =
    only_restored c.args.sheet c.args.book.now c.set_apart.new.book c.args.olds.now.items c.keep.new.olds.items c.in-Ok.entry.now
    c.in-Ok.ensures.found c.in-Ok-keep.ensures.olds c.in-Ok-keep.ensures.kept c.set_apart.ensures.only

pub returns-in-Err-keep-clause-olds : goal.returns-in-Err-keep-clause-olds
returns-in-Err-keep-clause-olds c =
    kept_all c.args.book.now c.args.olds.now.items c.keep.new.olds.items c.in-Ok.entry.now c.in-Ok.ensures.entry c.in-Ok.ensures.there
    c.in-Err-keep.ensures.olds c.requires.olds

pub returns-in-Err-keep-clause-same : goal.returns-in-Err-keep-clause-same
returns-in-Err-keep-clause-same c =
    kept_same c.args.book.now c.args.olds.now.items c.keep.new.olds.items c.in-Ok.entry.now c.in-Ok.ensures.there c.in-Err-keep.ensures.olds
