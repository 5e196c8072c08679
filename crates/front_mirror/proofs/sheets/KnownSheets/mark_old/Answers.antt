use Rattle.std.proofs.Common.{ap, sym, subst, ◌∙◌}
use Rattle.front_mirror.specs.declared.sheets.KnownSheet.{KnownSheet}
use Rattle.front_mirror.specs.Sheets.{stale_sheet, marked_old, sheets_in, AreNumbered}
use Rattle.front_mirror.proofs.SheetLemmas.{Entries, changed_in, changed_numbered, unchanged_in}
use Rattle.front_mirror.proofs.sheets.KnownSheets.mark_old.Goals.{in-Some, in_default}
use Rattle.front_mirror.proofs.sheets.KnownSheets.mark_old.Goals as goal

pub invariant_of-self : goal.invariant_of-self
invariant_of-self c = elim c.match-get_mut.branch [
  | in-Some w ↦
      let entries = ap (λ k. k.sheets.entries) w.self-inside-is ∙ (c.get_mut.follows.holds w.mark.new.sheet).0 in
      let number = ap (λ (s : KnownSheet). s.number) w.mark.ensures in
      subst AreNumbered (sym entries)
      (changed_numbered c.args.number c.self.inside.sheets.entries w.in-Some.sheet.now w.mark.new.sheet c.self.invariant
      (sym w.in-Some.ensures.value) number)
  | in_default w ↦
      let entries = ap (λ k. k.sheets.entries) w.self-inside-is ∙ ap (λ m. m.entries) c.get_mut.follows.holds-at-none in
      subst AreNumbered (sym entries) c.self.invariant
]

pub returns : goal.returns
returns c = elim c.match-get_mut.branch [
  | in-Some w ↦
      let entries = ap (λ k. k.sheets.entries) w.self-inside-is ∙ (c.get_mut.follows.holds w.mark.new.sheet).0 in
      ap (λ (es : Entries). sheets_in es) entries
      ∙ changed_in (stale_sheet) c.args.number c.self.inside.sheets.entries w.in-Some.sheet.now w.mark.new.sheet c.self.invariant
      (sym w.in-Some.ensures.value) w.mark.ensures
      ∙ ap (marked_old c.args.number) c.self.view_is
  | in_default w ↦
      let entries = ap (λ k. k.sheets.entries) w.self-inside-is ∙ ap (λ m. m.entries) c.get_mut.follows.holds-at-none in
      ap (λ (es : Entries). sheets_in es) entries
      ∙ unchanged_in (stale_sheet) c.args.number c.self.inside.sheets.entries c.self.invariant (sym w.in_default.ensures.value)
      ∙ ap (marked_old c.args.number) c.self.view_is
]
