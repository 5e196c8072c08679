-- An edit that the page takes is the step of the state.
use Rattle.std.proofs.Common.{refl, ap, ◌∙◌}
use Rattle.back_end.specs.Steps.{watches_left}
use Rattle.back_end.proofs.ScriptLemmas.{edit-stands, edit-sent, edit-few}
use Rattle.back_end.proofs.desk.Desk.apply_alone.Goals as goal

pub returns-in-Ok-clause-few : goal.returns-in-Ok-clause-few
returns-in-Ok-clause-few c = edit-few c.args.self.now.agent.mode c.args.side.now.page c.args.edit c.args.self.now.agent c.edit.new.self
    c.in-Ok.ensures.agent

pub returns-in-Ok-clause-stands : goal.returns-in-Ok-clause-stands
returns-in-Ok-clause-stands c = λ state stands texts.
    edit-stands c.args.self.now (record { alloc = _; is_on = _; css = _; agent = _; watches = _; searches = _ }) c.args.side.now
    (record { page = _; sheets = _ }) state c.args.edit stands
    c.requires.can texts c.requires.ids c.requires.serials c.requires.sheets c.in-Ok.ensures.page refl refl refl
    (c.forget_gone.ensures
    ∙ ap (λ m. watches_left m c.args.edit c.args.side.now.page.tree c.args.self.now.watches) c.mode-mode.ensures)
    refl c.in-Ok.ensures.agent

pub returns-in-Ok-clause-sent : goal.returns-in-Ok-clause-sent
returns-in-Ok-clause-sent c = λ state stands.
    edit-sent c.args.self.now c.args.side.now state c.args.edit c.args.out.now.items c.edit.new.out.items stands c.requires.can
    c.in-Ok.ensures.sent
