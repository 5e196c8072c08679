use Rattle.std.proofs.Common.{rules, ◌≡◌, ◌+◌, ℕ, List, true, length, ap, subst, sym, ◌∙◌}
use Rattle.std.specs.Prelude.{slice_get, slice_range, nat_le, IsSomeAnd}
use Rattle.node_tree.specs.Numbers.{max_sheet_bytes}
use Rattle.sheet_reader.specs.declared.book.SheetEntry.{SheetEntry}
use Rattle.sheet_reader.specs.Forms.{range}
use Rattle.sheet_reader.specs.Moves.{replaced}
use Rattle.sheet_reader.specs.Rereads.{HasBody, retold}
use Rattle.sheet_reader.specs.Sealing.{is_sealed}
use Rattle.style_edits.specs.Splices.{spliced}
use Rattle.style_edits.proofs.RunForms.{made_in}
use Rattle.style_edits.proofs.style_runs.set_in.Goals as goal

pub returns-clause-made : goal.returns-clause-made
returns-clause-made c =
    let x = c.args.edit.now in
    let old = c.args.opened.now in
    let new = c.set_body.new.self in
    let body = c.in-Some.found.body in
    let put = c.as_str-text.result.now in
    let put_is : put ≡ x.text = c.as_str-text.ensures in
    let sealed : is_sealed put ≡ true = search rules in
    let short : nat_le (length (spliced old.text body.start body.end put)) max_sheet_bytes ≡ true = search rules in
    let set : new ≡ retold (replaced old.text body put) old = c.in_ok-set_body.ensures.set in
    let sheet : c.id-sheet.result ≡ old.id = c.id-sheet.ensures ∙ ap (λ (e : SheetEntry). e.id) set in
    let taken : c.in_ok-taken.taken ≡ slice_range old.text body.start body.end =
    c.in_ok-taken.ensures ∙ c.range.ensures.value ∙ ap (λ (t : List ℕ). slice_range t body.start body.end) c.as_str-2.ensures.text in
    made_in x old new c.in-Some.found.rule body _ c.in-Some.ensures.found (ap is_sealed (sym put_is) ∙ sealed)
    (ap (λ (p : List ℕ). nat_le (length (spliced old.text body.start body.end p)) max_sheet_bytes) (sym put_is) ∙ short)
    (set ∙ ap (λ (p : List ℕ). retold (replaced old.text body p) old) put_is) c.as_str-new.ensures.stored
    (subst (λ (p : List ℕ). IsSomeAnd (slice_get new.reading.rules c.in-Some.found.rule)
    (HasBody (range body.start (body.start + length p)))) put_is c.in_ok-set_body.ensures.rule)
    (λ i. record { sheet = sheet i; start = body.start; end = body.start + length (put_is i); text = taken i })
    (λ i. record { sheet = sheet i; rule = c.in-Some.found.rule })
