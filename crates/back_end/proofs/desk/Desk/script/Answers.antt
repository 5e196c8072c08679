-- Another medium is told to none.
use Rattle.std.proofs.Common.{sym, subst}
use Rattle.page_forms.specs.declared.acts.Act.{Act}
use Rattle.page_forms.specs.declared.acts.Act.TheVariants.{Medium as SetMedium}
use Rattle.back_end.specs.Sheets.{NumberedBook}
use Rattle.back_end.specs.Steps.{act_step}
use Rattle.back_end.specs.Guests.{Hears}
use Rattle.back_end.proofs.GuestSteps.{medium-hears}
use Rattle.back_end.proofs.desk.Desk.script.Goals as goal

pub returns-in-Medium-clause-told : goal.returns-in-Medium-clause-told
returns-in-Medium-clause-told c = λ other stands.
    subst (λ (act : Act). Hears c.args.guest.now c.cross_guest.new.guest
    (record { page = c.args.side.now.page; sheets = c.show_on.new.self }) (act_step act other)) (sym c.in-Medium.is)
    (subst (λ (b : NumberedBook). Hears c.args.guest.now c.cross_guest.new.guest (record { page = c.args.side.now.page; sheets = b })
    (act_step (SetMedium c.in-Medium.medium) other)) (sym c.show_on.ensures)
    (medium-hears c.args.guest.now c.cross_guest.new.guest c.args.side.now other c.in-Medium.medium stands c.cross_guest.ensures))
