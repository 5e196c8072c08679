use Rattle.std.proofs.Common.{ap, sym, subst, ◌∙◌}
use Rattle.front_mirror.specs.declared.sheets.KnownSheet.{KnownSheet}
use Rattle.front_mirror.specs.Sheets.{fresh_sheet, with_fetched, sheets_in, AreNumbered}
use Rattle.front_mirror.proofs.SheetLemmas.{Entries, changed_in, changed_numbered, unchanged_in}
use Rattle.front_mirror.proofs.sheets.KnownSheets.keep_text.Goals.{in-Some, in_default}
use Rattle.front_mirror.proofs.sheets.KnownSheets.keep_text.Goals as goal

pub invariant_of-self : goal.invariant_of-self
invariant_of-self c = elim c.match-get_mut.branch [
  | in-Some w ↦
      let entries = ap (λ k. k.sheets.entries) w.self-inside-is ∙ (c.get_mut.follows.holds w.freshen.new.sheet).0 in
      let number = ap (λ (s : KnownSheet). s.number) w.freshen.ensures in
      subst AreNumbered (sym entries)
      (changed_numbered c.args.number c.self.inside.sheets.entries w.in-Some.sheet.now w.freshen.new.sheet c.self.invariant
      (sym w.in-Some.ensures.value) number)
  | in_default w ↦
      let entries = ap (λ k. k.sheets.entries) w.self-inside-is ∙ ap (λ m. m.entries) c.get_mut.follows.holds-at-none in
      subst AreNumbered (sym entries) c.self.invariant
]

pub returns : goal.returns
returns c = elim c.match-get_mut.branch [
  | in-Some w ↦
      let entries = ap (λ k. k.sheets.entries) w.self-inside-is ∙ (c.get_mut.follows.holds w.freshen.new.sheet).0 in
      ap (λ (es : Entries). sheets_in es) entries
      ∙ changed_in (fresh_sheet c.args.text) c.args.number c.self.inside.sheets.entries w.in-Some.sheet.now w.freshen.new.sheet
      c.self.invariant (sym w.in-Some.ensures.value) w.freshen.ensures
      ∙ ap (with_fetched c.args.number c.args.text) c.self.view_is
  | in_default w ↦
      let entries = ap (λ k. k.sheets.entries) w.self-inside-is ∙ ap (λ m. m.entries) c.get_mut.follows.holds-at-none in
      ap (λ (es : Entries). sheets_in es) entries
      ∙ unchanged_in (fresh_sheet c.args.text) c.args.number c.self.inside.sheets.entries c.self.invariant (sym w.in_default.ensures.value)
      ∙ ap (with_fetched c.args.number c.args.text) c.self.view_is
]
