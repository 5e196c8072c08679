-- The sheet that is meant goes, and one of its origin comes.
use Rattle.std.proofs.Common.{sym, ◌∙◌}
use Rattle.back_end.specs.Sheets.{leaves}
use Rattle.back_end.specs.Steps.{sheet_step}
use Rattle.back_end.proofs.SheetSeats.{named-found, named-none, named-there, replaced-stands, replaced-sent}
use Rattle.page_forms.specs.declared.acts.Act.TheVariants as act
use Rattle.std.proofs.Common.{ap}
use Rattle.back_end.specs.Sheets.{comes}
use Rattle.back_end.specs.Plans.{restyles, replace_fault, replacing}
use Rattle.back_end.specs.Steps.{with_crossed, crossing}
use Rattle.back_end.proofs.GuestSeats.{hears-stands}
use Rattle.back_end.proofs.SheetSeats.{big-fault, fits-fault}
use Rattle.back_end.proofs.GuestSteps.{unacted-hears}
use Rattle.back_end.proofs.GuestSheets.{twice-hears}
use Rattle.back_end.proofs.desk.Desk.replace_sheet.Goals as goal

pub is_full_without-requires : goal.is_full_without-requires
is_full_without-requires c = record {
  there = named-there c.args.sheet.now c.args.side.now.sheets.entries c.in-Some.entry.now
      (named-found c.args.sheet.now c.book.result.now c.args.side.now.sheets.entries c.in-Some.entry.now c.in-Some.ensures.found
      c.book.ensures);
}

pub sheet_leaves-requires : goal.sheet_leaves-requires
sheet_leaves-requires c = record {
  there = named-there c.args.sheet.now c.args.side.now.sheets.entries c.in-Some.entry.now
      (named-found c.args.sheet.now c.book.result.now c.args.side.now.sheets.entries c.in-Some.entry.now c.in-Some.ensures.found
      c.book.ensures);
}

pub returns-clause-stands : goal.returns-clause-stands
returns-clause-stands c = λ state stands.
    replaced-stands c.args.self.now c.sheet_comes.new.self c.args.side.now c.sheet_comes.new.side state c.args.sheet.now c.args.text.now
    c.in-Some.entry.now stands
    (named-found c.args.sheet.now c.book.result.now c.args.side.now.sheets.entries c.in-Some.entry.now c.in-Some.ensures.found
    c.book.ensures)
    (sym c.is_full_without.ensures ∙ c.if-is_full_without.false)
    ((c.in_ok-sheet_comes.ensures {u = tt}).stands (sheet_step (leaves c.in-Some.entry.now.id) state).state
    ((c.in_ok-sheet_leaves.ensures {u = tt}).stands state stands) c.requires.text)

pub returns-clause-sent : goal.returns-clause-sent
returns-clause-sent c = λ state stands.
    replaced-sent c.args.self.now c.args.side.now state c.args.sheet.now c.args.text.now c.in-Some.entry.now c.args.out.now.items
    c.sheet_leaves.new.out.items c.sheet_comes.new.out.items stands
    (named-found c.args.sheet.now c.book.result.now c.args.side.now.sheets.entries c.in-Some.entry.now c.in-Some.ensures.found
    c.book.ensures)
    (sym c.is_full_without.ensures ∙ c.if-is_full_without.false)
    ((c.in_ok-sheet_leaves.ensures {u = tt}).sent state stands)
    ((c.in_ok-sheet_comes.ensures {u = tt}).sent (sheet_step (leaves c.in-Some.entry.now.id) state).state
    ((c.in_ok-sheet_leaves.ensures {u = tt}).stands state stands))

pub returns-in_default-clause-told : goal.returns-in_default-clause-told
returns-in_default-clause-told c = λ other stands.
    unacted-hears c.args.guest.now c.args.side.now other (act.ReplaceSheet c.args.sheet.now c.args.text.now) _ stands
    (ap (replace_fault c.args.text.now c.args.side.now.sheets.entries)
    (named-none c.args.sheet.now c.book.result.now c.args.side.now.sheets.entries (c.in_default.ensures {u = tt}).found c.book.ensures))

pub returns-then-is_full_without-clause-told : goal.returns-then-is_full_without-clause-told
returns-then-is_full_without-clause-told c = λ other stands.
    let found = named-found c.args.sheet.now c.book.result.now c.args.side.now.sheets.entries c.in-Some.entry.now c.in-Some.ensures.found
    c.book.ensures in
    unacted-hears c.args.guest.now c.args.side.now other (act.ReplaceSheet c.args.sheet.now c.args.text.now) _ stands
    (sym (big-fault c.args.sheet.now c.args.text.now c.args.side.now.sheets.entries c.in-Some.entry.now found
    (sym c.is_full_without.ensures ∙ c.if-is_full_without.true)))

pub returns-clause-told : goal.returns-clause-told
returns-clause-told c = λ other stands.
    let found = named-found c.args.sheet.now c.book.result.now c.args.side.now.sheets.entries c.in-Some.entry.now c.in-Some.ensures.found
    c.book.ensures in
    let one = leaves c.in-Some.entry.now.id in
    let two = comes c.in-Some.entry.now.origin c.args.text.now in
    let first = (c.in_ok-sheet_leaves.ensures {u = tt}).told other stands in
    twice-hears c.args.guest.now c.sheet_leaves.new.guest c.sheet_comes.new.guest c.args.side.now c.sheet_leaves.new.side
    c.sheet_comes.new.side other (act.ReplaceSheet c.args.sheet.now c.args.text.now) one two stands
    (sym (fits-fault c.args.sheet.now c.args.text.now c.args.side.now.sheets.entries c.in-Some.entry.now found
    (sym c.is_full_without.ensures ∙ c.if-is_full_without.false)))
    (ap (λ o. restyles (replacing c.args.text.now o)) found) first
    ((c.in_ok-sheet_comes.ensures {u = tt}).told (with_crossed (sheet_step one other).state)
    (hears-stands c.args.guest.now c.sheet_leaves.new.guest c.sheet_leaves.new.side (crossing (sheet_step one other)) first)
    c.requires.text)
