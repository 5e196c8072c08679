-- An edit that the page takes is the client's step, and for the guest that of an edit by a script.
use Rattle.std.proofs.Common.{refl, ap, ◌∙◌}
use Rattle.back_end.specs.Steps.{watches_left}
use Rattle.back_end.proofs.ScriptLemmas.{edit-stands, edit-sent, edit-few}
use Rattle.back_end.proofs.GuestSeats.{heard-stands, heard-sent}
use Rattle.back_end.proofs.desk.Desk.apply_both.Goals as goal

pub returns-in-Ok-clause-few : goal.returns-in-Ok-clause-few
returns-in-Ok-clause-few c = edit-few c.args.self.now.agent.mode c.args.side.now.page c.args.edit c.args.self.now.agent
    c.edit_both.new.self c.in-Ok.ensures.agent

pub returns-in-Ok-clause-stands : goal.returns-in-Ok-clause-stands
returns-in-Ok-clause-stands c = λ state stands texts.
    edit-stands c.args.self.now (record { alloc = _; is_on = _; css = _; agent = _; watches = _; searches = _ }) c.args.side.now
    (record { page = _; sheets = _ }) state c.args.edit stands
    c.requires.can texts c.requires.ids c.requires.serials c.requires.sheets c.in-Ok.ensures.page refl refl refl
    (c.forget_gone.ensures
    ∙ ap (λ m. watches_left m c.args.edit c.args.side.now.page.tree c.args.self.now.watches) c.mode-mode.ensures)
    refl c.in-Ok.ensures.agent

pub returns-in-Ok-clause-sent : goal.returns-in-Ok-clause-sent
returns-in-Ok-clause-sent c = λ state stands.
    edit-sent c.args.self.now c.args.side.now state c.args.edit c.args.out.now.items c.edit_both.new.out.items stands c.requires.can
    c.in-Ok.ensures.sent

pub returns-in-Ok-clause-guest_stands : goal.returns-in-Ok-clause-guest_stands
returns-in-Ok-clause-guest_stands c = λ other both texts.
    heard-stands c.args.guest.now.seat.desk c.pause.new.self
    (record { alloc = _; is_on = _; css = _; agent = _; watches = _; searches = _ }) c.args.guest.now.seat.history c.cross.new.self
    c.args.side.now (record { page = _; sheets = _ }) other c.args.edit both c.requires.can texts c.requires.guest_ids
    c.requires.serials c.requires.sheets (c.in_ok-pause.ensures.stands other both.stands) c.in-Ok.ensures.page refl refl refl
    (c.forget_gone-2.ensures
    ∙ ap (λ m. watches_left m c.args.edit c.args.side.now.page.tree c.pause.new.self.watches) c.mode-guest_mode.ensures)
    refl c.in-Ok.ensures.other_agent c.cross.ensures

pub returns-in-Ok-clause-guest_sent : goal.returns-in-Ok-clause-guest_sent
returns-in-Ok-clause-guest_sent c = λ other stands.
    heard-sent c.pause.new.self c.args.side.now other c.args.edit c.args.guest.now.out.items c.pause.new.out.items
    c.edit_both.new.other_out.items (c.in_ok-pause.ensures.stands other stands) c.requires.can
    (c.in_ok-pause.ensures.sent other stands) c.in-Ok.ensures.other_sent
