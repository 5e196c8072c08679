use Rattle.std.proofs.Common.{◌≡◌, subst, sym, ◌∙◌}
use Rattle.sheet_reader.specs.Books.{IsEntry}
use Rattle.sheet_reader.specs.Opened.{entry_with, reading_with}
use Rattle.sheet_reader.proofs.opened.OpenSheet.into_entry.Goals as goal

pub returns-clause-same : goal.returns-clause-same
returns-clause-same c =
    (λ i. entry_with c.self.inside.id c.self.inside.origin c.self.inside.text
    (reading_with (c.into_rules.ensures i) c.self.inside.places c.self.inside.media))
    ∙ c.self.view_is

pub returns-clause-entry : goal.returns-clause-entry
returns-clause-entry c =
    let is : entry_with c.self.inside.id c.self.inside.origin c.self.inside.text
    (reading_with c.into_rules.result c.self.inside.places c.self.inside.media)
    ≡ entry_with c.self.inside.id c.self.inside.origin c.self.inside.text
    (reading_with c.self.inside.rules c.self.inside.places c.self.inside.media) =
    λ i. entry_with c.self.inside.id c.self.inside.origin c.self.inside.text
    (reading_with (c.into_rules.ensures i) c.self.inside.places c.self.inside.media) in
    subst IsEntry (sym is) c.self.invariant.entry
