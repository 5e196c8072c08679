use Rattle.std.proofs.Common.{◌≡◌, ℕ, ◌<◌, subst, sym, ap, ◌∙◌}
use Rattle.std.specs.Prelude.{IsSome}
use Rattle.node_tree.specs.Numbers.{counted_limit}
use Rattle.sheet_reader.specs.declared.book.SheetEntry.{SheetEntry}
use Rattle.sheet_reader.specs.Books.{entry_of, book_changed}
use Rattle.style_edits.specs.StyleRuns.{IsRun}
use Rattle.style_edits.proofs.RunForms.{client_id, taken_out, apart_done, apart_rules, apart_fault, apart_only, only_same}
use Rattle.style_edits.proofs.style_runs.set_apart.Goals as goal

pub blank-requires-clause-some : goal.blank-requires-clause-some
blank-requires-clause-some c =
    subst (λ (n : ℕ). 0 < n) (client_id c.args.sheet c.args.book.now c.requires.client) c.requires.client.entry.some

pub blank-requires-clause-id : goal.blank-requires-clause-id
blank-requires-clause-id c =
    subst (λ (n : ℕ). n < counted_limit) (client_id c.args.sheet c.args.book.now c.requires.client) c.requires.client.entry.id

pub returns-in_err-empty-clause-only : goal.returns-in_err-empty-clause-only
returns-in_err-empty-clause-only c = only_same c.args.sheet c.args.book.now c.requires.client

pub set_all-result-requires-clause-there : goal.set_all-result-requires-clause-there
set_all-result-requires-clause-there c =
    let t = taken_out c.args.sheet c.args.book.now c.take_out-opened.new.book c.in_ok-empty.empty c.take_out-opened.result c.requires.client
    c.in_ok-empty.ensures.id c.take_out-opened.ensures.book c.take_out-opened.ensures.opened in
    t.there

pub set_all-result-requires-clause-own : goal.set_all-result-requires-clause-own
set_all-result-requires-clause-own c =
    let t = taken_out c.args.sheet c.args.book.now c.take_out-opened.new.book c.in_ok-empty.empty c.take_out-opened.result c.requires.client
    c.in_ok-empty.ensures.id c.take_out-opened.ensures.book c.take_out-opened.ensures.opened in
    subst (λ (k : ℕ). IsRun k c.args.edits.now) (sym t.own) c.requires.own

pub change-blank-requires-clause-there : goal.change-blank-requires-clause-there
change-blank-requires-clause-there c =
    let t = taken_out c.args.sheet c.args.book.now c.take_out-opened.new.book c.in_ok-empty.empty c.take_out-opened.result c.requires.client
    c.in_ok-empty.ensures.id c.take_out-opened.ensures.book c.take_out-opened.ensures.opened in
    let same = ap (λ (e : SheetEntry). e.id) c.into_entry.ensures.same ∙ c.set_all-result.ensures.id in
    subst (λ (k : ℕ). IsSome (entry_of k c.take_out-opened.new.book)) (sym same) t.there

pub returns-clause-done : goal.returns-clause-done
returns-clause-done c =
    let t = taken_out c.args.sheet c.args.book.now c.take_out-opened.new.book c.in_ok-empty.empty c.take_out-opened.result c.requires.client
    c.in_ok-empty.ensures.id c.take_out-opened.ensures.book c.take_out-opened.ensures.opened in
    let new = c.set_all-result.new.opened in
    let is : c.change-blank.new.self ≡ book_changed new c.take_out-opened.new.book =
    c.change-blank.ensures.changed ∙ ap (λ (e : SheetEntry). book_changed e c.take_out-opened.new.book) c.into_entry.ensures.same in
    apart_done c.set_all-result.result c.args.edits.now c.args.sheet c.args.book.now c.take_out-opened.new.book c.change-blank.new.self
    c.take_out-opened.result new c.args.backs.now.items c.set_all-result.new.backs.items t is c.set_all-result.ensures.done

pub returns-clause-rules : goal.returns-clause-rules
returns-clause-rules c =
    let t = taken_out c.args.sheet c.args.book.now c.take_out-opened.new.book c.in_ok-empty.empty c.take_out-opened.result c.requires.client
    c.in_ok-empty.ensures.id c.take_out-opened.ensures.book c.take_out-opened.ensures.opened in
    apart_rules c.set_all-result.result c.args.edits.now c.args.sheet c.args.book.now c.take_out-opened.new.book c.take_out-opened.result
    c.args.rules.now.items c.set_all-result.new.rules.items t c.set_all-result.ensures.rules

pub returns-clause-fault : goal.returns-clause-fault
returns-clause-fault c =
    let t = taken_out c.args.sheet c.args.book.now c.take_out-opened.new.book c.in_ok-empty.empty c.take_out-opened.result c.requires.client
    c.in_ok-empty.ensures.id c.take_out-opened.ensures.book c.take_out-opened.ensures.opened in
    apart_fault c.set_all-result.result c.args.edits.now c.args.sheet c.args.book.now c.take_out-opened.new.book c.take_out-opened.result t
    c.set_all-result.ensures.fault

pub returns-clause-only : goal.returns-clause-only
returns-clause-only c =
    let t = taken_out c.args.sheet c.args.book.now c.take_out-opened.new.book c.in_ok-empty.empty c.take_out-opened.result c.requires.client
    c.in_ok-empty.ensures.id c.take_out-opened.ensures.book c.take_out-opened.ensures.opened in
    let new = c.set_all-result.new.opened in
    let is : c.change-blank.new.self ≡ book_changed new c.take_out-opened.new.book =
    c.change-blank.ensures.changed ∙ ap (λ (e : SheetEntry). book_changed e c.take_out-opened.new.book) c.into_entry.ensures.same in
    apart_only c.args.sheet c.args.book.now c.take_out-opened.new.book c.change-blank.new.self c.take_out-opened.result new t
    c.set_all-result.ensures.id is
