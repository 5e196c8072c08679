use Rattle.std.proofs.Common.{◌≡◌, ◌==◌, List, Bool, true, false, sym, ap, ◌∙◌}
use Rattle.std.specs.List.{list_any}
use Rattle.sheet_reader.specs.declared.book.SheetEntry.{SheetEntry}
use Rattle.style_edits.proofs.edits.keep.Goals as goal

apart : {A : Type 0} → (b : Bool) → b ≡ true → b ≡ false → A
apart b is other = absurd (cc)

pub returns-clause-once : goal.returns-clause-once
returns-clause-once c kept =
    let any : List SheetEntry → Bool = λ olds. list_any (λ (old : SheetEntry). old.id == c.args.entry.now.id) olds in
    apart (any c.args.olds.now.items) kept (sym (c.is_kept.ensures ∙ ap any c.as_slice.ensures.value) ∙ c.if-is_kept.false)
