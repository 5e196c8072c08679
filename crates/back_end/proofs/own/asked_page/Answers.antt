-- A load is refused as its fault says.
use Rattle.std.proofs.Common.{Err, sym, ap, subst, ◌∙◌}
use Rattle.serde_json.specs.View.{view}
use Rattle.page_tree.specs.declared.faults.LoadErr.{LoadErr}
use Rattle.page_forms.specs.Pages.{ReadsPage}
use Rattle.back_end.proofs.OwnLemmas.{refused_with, load-refused}
use Rattle.back_end.proofs.own.asked_page.Goals as goal

pub returns-in-Err-Fault-clause-finds : goal.returns-in-Err-Fault-clause-finds
returns-in-Err-Fault-clause-finds c =
    let read = c.in-Err-Fault.ensures {u = tt} in
    load-refused (view c.args.params.now) c.in-Err-Fault.fault c.all_whole.result c.all_whole.ensures c.if-not-all_whole.false
    (subst (λ (e : LoadErr). ReadsPage (Err e) (view c.args.params.now)) c.in-Err-Fault.field-0-is read.reads)
    ∙ ap refused_with (sym c.load_why.ensures)
