use Rattle.std.proofs.Common.{◌≡◌, ◌+◌, ◌-◌, ◌≤◌, ◌<◌, ◌++◌, ℕ, List, length, take, drop, get_or, subst, ◌∙◌, arith, length-drop}
use Rattle.std.proofs.lemmas.List.{length-take-le}
use Rattle.style_edits.specs.declared.edits.StyleEdit.{StyleEdit}
use Rattle.style_edits.specs.Drafts.{with_backs}
use Rattle.style_edits.specs.Edits.{styles_edited}
use Rattle.style_edits.specs.EditedRules.{edited_rules}
use Rattle.style_edits.specs.StyleRuns.{IsRun}
use Rattle.style_edits.proofs.EditForms.{edits_none}
use Rattle.style_edits.proofs.RuleForms.{rules_none}
use Rattle.style_edits.proofs.RunForms.{run_here, parted, run_more, run_rules, run_fault, run_stops}
use Rattle.style_edits.proofs.style_runs.set_each.Goals as goal

pub set_run-requires-clause-own : goal.set_run-requires-clause-own
set_run-requires-clause-own c =
    let edits = c.args.edits.now in
    let at = c.loop-at.at in
    let n = c.run_len.result in
    let r = run_here edits at c.index-edits-at.result n (omega (arith, c.loop-at-test.true)) c.run_len.ensures.count in
    let same : n ≡ at + n - at = omega arith in
    subst (λ (m : ℕ). IsRun (get_or edits at c.index-edits-at.result).sheet (take m (drop at edits))) same r.run

pub set_run-requires-clause-some : goal.set_run-requires-clause-some
set_run-requires-clause-some c =
    let edits = c.args.edits.now in
    let at = c.loop-at.at in
    let n = c.run_len.result in
    let r = run_here edits at c.index-edits-at.result n (omega (arith, c.loop-at-test.true)) c.run_len.ensures.count in
    let some : 0 < n = r.some in
    let inside : at + n ≤ length edits = r.inside in
    let left = length-drop at edits in
    let taken = length-take-le (at + n - at) (drop at edits) (omega (arith, inside, left)) in
    omega (arith, some, taken)

pub loop-at-preserved : goal.loop-at-preserved
loop-at-preserved c =
    let edits = c.args.edits.now in
    let at = c.loop-at.at in
    let n = c.run_len.result in
    let r = run_here edits at c.index-edits-at.result n (omega (arith, c.loop-at-test.true)) c.run_len.ensures.count in
    let next = at + n in
    let order : at ≤ next = omega arith in
    let inside : next ≤ length edits = r.inside in
    let run = take (next - at) (drop at edits) in
    let parts : drop at edits ≡ run ++ drop next edits = parted edits at next order inside in
    let so_far = subst (λ (ys : List StyleEdit). with_backs c.loop-at.backs.items (styles_edited ys c.loop-at.book)
    ≡ with_backs c.args.backs.now.items (styles_edited edits c.args.book.now)) parts c.loop-at.invariant.so_far in
    let rules = subst (λ (ys : List StyleEdit). c.loop-at.rules.items ++ edited_rules ys c.loop-at.book
    ≡ c.args.rules.now.items ++ edited_rules edits c.args.book.now) parts c.loop-at.invariant.rules in
    record {
      inside = inside;
      olds = c.in-Ok.ensures.olds;
      same = c.in-Ok.ensures.same ∙ c.loop-at.invariant.same;
      so_far = run_more run (drop next edits) c.loop-at.backs.items c.set_run.new.backs.items c.loop-at.book c.set_run.new.book _
          c.in-Ok.ensures.done so_far;
      rules = run_rules run (drop next edits) c.loop-at.backs.items c.set_run.new.backs.items c.loop-at.rules.items
          c.set_run.new.rules.items c.loop-at.book c.set_run.new.book _ c.in-Ok.ensures.done c.in-Ok.ensures.rules rules;
    }

pub returns-in-Err-clause-fault : goal.returns-in-Err-clause-fault
returns-in-Err-clause-fault c =
    let edits = c.args.edits.now in
    let at = c.loop-at.at in
    let n = c.run_len.result in
    let r = run_here edits at c.index-edits-at.result n (omega (arith, c.loop-at-test.true)) c.run_len.ensures.count in
    let next = at + n in
    let order : at ≤ next = omega arith in
    let inside : next ≤ length edits = r.inside in
    let run = take (next - at) (drop at edits) in
    let parts : drop at edits ≡ run ++ drop next edits = parted edits at next order inside in
    run_stops (Unit {0}) (Unit {0}) c.in-Err.stop (styles_edited run c.loop-at.book) (styles_edited edits c.args.book.now)
    c.in-Err.ensures.fault
    (λ f e. run_fault run (drop next edits) edits c.loop-at.backs.items c.args.backs.now.items c.loop-at.book c.args.book.now f e
    (subst (λ (ys : List StyleEdit). with_backs c.loop-at.backs.items (styles_edited ys c.loop-at.book)
    ≡ with_backs c.args.backs.now.items (styles_edited edits c.args.book.now)) parts c.loop-at.invariant.so_far))

pub returns-clause-done : goal.returns-clause-done
returns-clause-done c =
    edits_none c.args.edits.now c.loop-at.at c.loop-at.backs.items c.loop-at.book _ (omega (arith, c.loop-at-test.false))
    c.loop-at.invariant.so_far

pub returns-clause-rules : goal.returns-clause-rules
returns-clause-rules c =
    rules_none c.args.edits.now c.loop-at.at c.loop-at.rules.items c.loop-at.book _ (omega (arith, c.loop-at-test.false))
    c.loop-at.invariant.rules
