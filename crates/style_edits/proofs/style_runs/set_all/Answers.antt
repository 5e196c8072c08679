use Rattle.std.proofs.Common.{ℕ, ◌<◌, [], ◌∷◌, ◌++◌, length, ap, sym, subst, ◌∙◌, arith}
use Rattle.std.specs.Prelude.{IsSome}
use Rattle.sheet_reader.specs.Books.{entry_of, book_changed}
use Rattle.style_edits.specs.declared.rule_places.RulePlace.{RulePlace}
use Rattle.style_edits.specs.declared.style_runs.Made.{Made}
use Rattle.style_edits.specs.Edits.{styles_edited, style_in}
use Rattle.style_edits.proofs.EditForms.{edits_more, edits_fail, edits_none, fault_of_all}
use Rattle.style_edits.proofs.RuleForms.{rules_more, rules_none}
use Rattle.style_edits.proofs.RunForms.{made_done, made_fault, made_rule, client_stays, run_id}
use Rattle.style_edits.proofs.style_runs.set_all.Goals as goal

pub returns-in-Err-clause-fault : goal.returns-in-Err-clause-fault
returns-in-Err-clause-fault c =
    let x = c.edit-item.result in
    let o = c.loop-edit.opened in
    let inside : c.loop-edit.edit-index < length c.args.edits.now = omega (arith, c.loop-edit-test.true) in
    let own = run_id c.args.opened.now.id c.args.edits.now c.loop-edit.edit-index x c.requires.own inside c.edit-item.is
    ∙ sym c.loop-edit.invariant.id in
    let there = subst (λ (k : ℕ). IsSome (entry_of k c.args.book.now)) (sym c.loop-edit.invariant.id) c.requires.there in
    fault_of_all Made (Unit {0}) c.in-Err.stop (style_in x o)
    (styles_edited c.args.edits.now (book_changed c.args.opened.now c.args.book.now)) c.in-Err.ensures.fault
    (λ f e. edits_fail c.args.edits.now c.loop-edit.edit-index x f c.loop-edit.backs.items c.args.backs.now.items
    (book_changed o c.args.book.now) (book_changed c.args.opened.now c.args.book.now) inside c.edit-item.is
    (made_fault x o c.args.book.now f there c.loop-edit.invariant.client own e) c.loop-edit.invariant.so_far)

pub loop-edit-preserved : goal.loop-edit-preserved
loop-edit-preserved c =
    let x = c.edit-item.result in
    let o = c.loop-edit.opened in
    let new = c.set_in.new.opened in
    let left = c.in-Ok.made in
    let book = c.args.book.now in
    let inside : c.loop-edit.edit-index < length c.args.edits.now = omega (arith, c.loop-edit-test.true) in
    let own = run_id c.args.opened.now.id c.args.edits.now c.loop-edit.edit-index x c.requires.own inside c.edit-item.is
    ∙ sym c.loop-edit.invariant.id in
    let there = subst (λ (k : ℕ). IsSome (entry_of k book)) (sym c.loop-edit.invariant.id) c.requires.there in
    let m = c.in-Ok.ensures.made in
    let done = made_done x o new left book there c.loop-edit.invariant.client own m in
    record {
      id = ap (λ e. e.id) m.new_is ∙ c.loop-edit.invariant.id;
      client = client_stays x o new left m c.loop-edit.invariant.client;
      so_far = edits_more c.args.edits.now c.loop-edit.edit-index x c.loop-edit.backs.items c.push_made.new.backs.items
          (book_changed o book) (book_changed new book) left.back _ inside c.edit-item.is
          done (c.in_ok-push_made.ensures {u = tt}).backs c.loop-edit.invariant.so_far;
      rules = rules_more c.args.edits.now c.loop-edit.edit-index x c.loop-edit.rules.items c.push_made.new.rules.items
          (book_changed o book) (book_changed new book) left.back _ inside c.edit-item.is
          done ((c.in_ok-push_made.ensures {u = tt}).rules ∙ ap
          (λ (p : RulePlace). c.loop-edit.rules.items ++ p ∷ []) (sym (made_rule x o new left book there m))) c.loop-edit.invariant.rules;
    }

pub returns-clause-done : goal.returns-clause-done
returns-clause-done c =
    edits_none c.args.edits.now c.loop-edit.edit-index c.loop-edit.backs.items (book_changed c.loop-edit.opened c.args.book.now) _
    (omega (arith, c.loop-edit-test.false)) c.loop-edit.invariant.so_far

pub returns-clause-rules : goal.returns-clause-rules
returns-clause-rules c =
    rules_none c.args.edits.now c.loop-edit.edit-index c.loop-edit.rules.items (book_changed c.loop-edit.opened c.args.book.now) _
    (omega (arith, c.loop-edit-test.false)) c.loop-edit.invariant.rules
