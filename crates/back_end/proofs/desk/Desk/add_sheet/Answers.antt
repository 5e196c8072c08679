-- A sheet that is not too big comes.
use Rattle.std.proofs.Common.{refl, sym, ◌∙◌}
use Rattle.back_end.proofs.SheetSeats.{added-stands}
use Rattle.page_forms.specs.declared.acts.Act.TheVariants as act
use Rattle.back_end.proofs.GuestSteps.{unacted-hears}
use Rattle.back_end.proofs.GuestSheets.{once-hears, small-fault, too-big-fault}
use Rattle.back_end.specs.Sheets.{comes}
use Rattle.back_end.proofs.desk.Desk.add_sheet.Goals as goal

pub returns-clause-stands : goal.returns-clause-stands
returns-clause-stands c = λ state stands.
    added-stands c.args.self.now c.sheet_comes.new.self c.args.side.now c.sheet_comes.new.side state c.args.origin c.args.text.now stands
    (sym c.is_full_for.ensures ∙ c.if-is_full_for.false)
    ((c.in_ok-sheet_comes.ensures {u = tt}).stands state stands c.requires.text)

pub returns-then-is_full_for-clause-told : goal.returns-then-is_full_for-clause-told
returns-then-is_full_for-clause-told c = λ other stands.
    unacted-hears c.args.guest.now c.args.side.now other (act.AddSheet c.args.origin c.args.text.now) _ stands
    (too-big-fault c.args.text.now c.args.side.now.sheets.entries (sym c.is_full_for.ensures ∙ c.if-is_full_for.true))

pub returns-clause-told : goal.returns-clause-told
returns-clause-told c = λ other stands.
    once-hears c.args.guest.now c.sheet_comes.new.guest c.args.side.now c.sheet_comes.new.side other
    (act.AddSheet c.args.origin c.args.text.now) (comes c.args.origin c.args.text.now) stands
    (small-fault c.args.text.now c.args.side.now.sheets.entries (sym c.is_full_for.ensures ∙ c.if-is_full_for.false)) refl
    ((c.in_ok-sheet_comes.ensures {u = tt}).told other stands c.requires.text)
