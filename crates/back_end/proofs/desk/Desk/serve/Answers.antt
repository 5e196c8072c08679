-- Each part of the seat answers its commands; where it leaves the history alone, what is kept is kept on.
use Rattle.std.proofs.Common.{◌≡◌, ◌^◌, true, refl, sym, ap, subst, ◌∙◌, arith}
use Rattle.std.proofs.Math.Logic.{∥∥₁_map}
use Rattle.serde_json.specs.View.{view}
use Rattle.cdp_messages.specs.Asked.{fits_command}
use Rattle.cdp_messages.specs.declared.command.Command.{Command}
use Rattle.cdp_messages.specs.declared.command.Command.TheVariants as commands
use Rattle.cdp_messages.specs.Methods.{needs_dom, needs_both}
use Rattle.cdp_messages.proofs.Commands.{edits-need-dom, styles-need-both, style_edits-need-both, searches-need-dom}
use Rattle.back_end.proofs.DomainLemmas.{met-on, met-css, met-ask}
use Rattle.back_end.proofs.KeepSeats.{enables-alone, css-enables-alone, css-disables-alone, styles-alone, watches-alone, unwatches-alone}
use Rattle.back_end.proofs.KeepSeats.{searches-alone, agent-alone, plain-both, part-both, part-sent}
use Rattle.back_end.proofs.GuestSeats.{hear-fewer}
use Rattle.back_end.proofs.GuestSteps.{plain-hears, part-hears}
use Rattle.back_end.proofs.desk.Desk.serve.Goals as goal

pub ask_agent-requires-clause-ask : goal.ask_agent-requires-clause-ask
ask_agent-requires-clause-ask c = subst (λ (x : Command). fits_command x ≡ true) c.in-AskDom.is c.requires.command

pub ask_agent-requires-clause-standing : goal.ask_agent-requires-clause-standing
ask_agent-requires-clause-standing c = ∥∥₁_map c.requires.standing (λ p. (p.0, p.1.stands))

pub enable-requires : goal.enable-requires
enable-requires c = record { standing = ∥∥₁_map c.requires.standing (λ p. (p.0, p.1.stands)) }

pub returns-in-DomEnable-clause-stands : goal.returns-in-DomEnable-clause-stands
returns-in-DomEnable-clause-stands c = λ state both.
    plain-both c.enable.result c.args.self.now c.enable.new.self c.args.side.now c.args.side.now c.args.history.now state c.args.id
    (commands.DomEnable c.in-DomEnable.include_whitespace) c.args.command (sym c.in-DomEnable.is)
    (enables-alone c.in-DomEnable.include_whitespace) both
    (c.enable.ensures.stands state both.stands)

pub returns-in-DomEnable-clause-sent : goal.returns-in-DomEnable-clause-sent
returns-in-DomEnable-clause-sent c = λ state both.
    part-sent c.enable.result state c.args.id
    (commands.DomEnable c.in-DomEnable.include_whitespace) c.args.command c.args.out.now.items c.enable.new.out.items
    (sym c.in-DomEnable.is) (c.enable.ensures.sent state)

pub returns-in-CssEnable-clause-stands : goal.returns-in-CssEnable-clause-stands
returns-in-CssEnable-clause-stands c = λ state both.
    plain-both c.enable_css.result c.args.self.now c.enable_css.new.self c.args.side.now c.args.side.now c.args.history.now state
    c.args.id commands.CssEnable c.args.command (sym c.in-CssEnable.is) css-enables-alone both
    (c.enable_css.ensures.stands state both.stands)

pub returns-in-CssEnable-clause-sent : goal.returns-in-CssEnable-clause-sent
returns-in-CssEnable-clause-sent c = λ state both.
    part-sent c.enable_css.result state c.args.id commands.CssEnable c.args.command c.args.out.now.items c.enable_css.new.out.items
    (sym c.in-CssEnable.is) (c.enable_css.ensures.sent state both.stands)

pub returns-in-CssDisable-clause-stands : goal.returns-in-CssDisable-clause-stands
returns-in-CssDisable-clause-stands c = λ state both.
    plain-both c.disable_css.result c.args.self.now c.disable_css.new.self c.args.side.now c.args.side.now c.args.history.now state
    c.args.id commands.CssDisable c.args.command (sym c.in-CssDisable.is) css-disables-alone both
    (c.disable_css.ensures.stands state both.stands)

pub returns-in-CssDisable-clause-sent : goal.returns-in-CssDisable-clause-sent
returns-in-CssDisable-clause-sent c = λ state both.
    part-sent c.disable_css.result state c.args.id commands.CssDisable
    c.args.command c.args.out.now.items c.disable_css.new.out.items (sym c.in-CssDisable.is)
    (c.disable_css.ensures.sent state both.stands)

pub returns-in-AskCss-clause-stands : goal.returns-in-AskCss-clause-stands
returns-in-AskCss-clause-stands c = λ state both.
    plain-both c.answer_styles.result c.args.self.now c.answer_styles.new.self c.args.side.now c.args.side.now c.args.history.now
    state c.args.id (commands.AskCss c.in-AskCss.ask) c.args.command (sym c.in-AskCss.is)
    (styles-alone c.in-AskCss.ask) both
    (c.answer_styles.ensures.stands state both.stands)

pub returns-in-AskCss-clause-sent : goal.returns-in-AskCss-clause-sent
returns-in-AskCss-clause-sent c = λ state both.
    part-sent c.answer_styles.result state c.args.id (commands.AskCss c.in-AskCss.ask)
    c.args.command c.args.out.now.items c.answer_styles.new.out.items (sym c.in-AskCss.is)
    (c.answer_styles.ensures.sent state both.stands)

pub answer_search-requires-clause-on : goal.answer_search-requires-clause-on
answer_search-requires-clause-on c =
    met-on c.args.self.now.is_on c.args.self.now.css (commands.AskSearch c.in-AskSearch.ask)
    c.args.command c.in-AskSearch.is (ap needs_dom (searches-need-dom c.in-AskSearch.ask)) c.requires.met

pub answer_search-requires-clause-standing : goal.answer_search-requires-clause-standing
answer_search-requires-clause-standing c = ∥∥₁_map c.requires.standing (λ p. (p.0, p.1.stands))

pub returns-in-AskSearch-clause-stands : goal.returns-in-AskSearch-clause-stands
returns-in-AskSearch-clause-stands c = λ state both.
    plain-both c.answer_search.result c.args.self.now c.answer_search.new.self c.args.side.now c.args.side.now c.args.history.now
    state c.args.id (commands.AskSearch c.in-AskSearch.ask) c.args.command (sym c.in-AskSearch.is)
    (searches-alone c.in-AskSearch.ask) both
    (c.answer_search.ensures.stands state both.stands)

pub returns-in-AskSearch-clause-sent : goal.returns-in-AskSearch-clause-sent
returns-in-AskSearch-clause-sent c = λ state both.
    part-sent c.answer_search.result state c.args.id (commands.AskSearch c.in-AskSearch.ask)
    c.args.command c.args.out.now.items c.answer_search.new.out.items (sym c.in-AskSearch.is)
    (c.answer_search.ensures.sent state both.stands)

pub returns-in-SetBreakpoint-clause-stands : goal.returns-in-SetBreakpoint-clause-stands
returns-in-SetBreakpoint-clause-stands c = λ state both.
    plain-both c.watch.result c.args.self.now c.watch.new.self c.args.side.now c.args.side.now c.args.history.now state c.args.id
    (commands.SetBreakpoint c.in-SetBreakpoint.node c.in-SetBreakpoint.kind) c.args.command (sym c.in-SetBreakpoint.is)
    (watches-alone c.in-SetBreakpoint.node c.in-SetBreakpoint.kind) both
    (c.watch.ensures.stands state both.stands)

pub returns-in-SetBreakpoint-clause-sent : goal.returns-in-SetBreakpoint-clause-sent
returns-in-SetBreakpoint-clause-sent c = λ state both.
    part-sent c.watch.result state c.args.id (commands.SetBreakpoint c.in-SetBreakpoint.node c.in-SetBreakpoint.kind)
    c.args.command c.args.out.now.items c.watch.new.out.items (sym c.in-SetBreakpoint.is)
    (c.watch.ensures.sent state both.stands)

pub returns-in-RemoveBreakpoint-clause-stands : goal.returns-in-RemoveBreakpoint-clause-stands
returns-in-RemoveBreakpoint-clause-stands c = λ state both.
    plain-both c.watch-in-RemoveBreakpoint.result c.args.self.now c.watch-in-RemoveBreakpoint.new.self c.args.side.now c.args.side.now
    c.args.history.now state c.args.id
    (commands.RemoveBreakpoint c.in-RemoveBreakpoint.node c.in-RemoveBreakpoint.kind) c.args.command (sym c.in-RemoveBreakpoint.is)
    (unwatches-alone c.in-RemoveBreakpoint.node c.in-RemoveBreakpoint.kind) both
    (c.watch-in-RemoveBreakpoint.ensures.stands state both.stands)

pub returns-in-RemoveBreakpoint-clause-sent : goal.returns-in-RemoveBreakpoint-clause-sent
returns-in-RemoveBreakpoint-clause-sent c = λ state both.
    part-sent c.watch-in-RemoveBreakpoint.result state c.args.id
    (commands.RemoveBreakpoint c.in-RemoveBreakpoint.node c.in-RemoveBreakpoint.kind)
    c.args.command c.args.out.now.items c.watch-in-RemoveBreakpoint.new.out.items (sym c.in-RemoveBreakpoint.is)
    (c.watch-in-RemoveBreakpoint.ensures.sent state both.stands)

pub returns-in-AskDom-clause-stands : goal.returns-in-AskDom-clause-stands
returns-in-AskDom-clause-stands c = λ state both.
    plain-both c.ask_agent.result c.args.self.now c.ask_agent.new.self c.args.side.now c.args.side.now
    c.args.history.now state c.args.id (commands.AskDom c.in-AskDom.ask) c.args.command
    (sym c.in-AskDom.is) (agent-alone c.in-AskDom.ask) both
    (c.ask_agent.ensures.stands state both.stands)

pub returns-in-AskDom-clause-sent : goal.returns-in-AskDom-clause-sent
returns-in-AskDom-clause-sent c = λ state both.
    part-sent c.ask_agent.result state c.args.id (commands.AskDom c.in-AskDom.ask)
    c.args.command c.args.out.now.items c.ask_agent.new.out.items (sym c.in-AskDom.is)
    (c.ask_agent.ensures.sent state both.stands)

pub returns-in-DomDisable-clause-stands : goal.returns-in-DomDisable-clause-stands
returns-in-DomDisable-clause-stands c = λ state both.
    part-both c.disable.result c.disable.new.self c.args.side.now c.disable.new.history state c.args.id commands.DomDisable
    c.args.command (sym c.in-DomDisable.is) (c.disable.ensures.stands state both)

pub returns-in-DomDisable-clause-sent : goal.returns-in-DomDisable-clause-sent
returns-in-DomDisable-clause-sent c = λ state both.
    part-sent c.disable.result state c.args.id commands.DomDisable c.args.command c.args.out.now.items c.disable.new.out.items
    (sym c.in-DomDisable.is) (c.disable.ensures.sent state both.stands)

pub returns-in-EditDom-clause-stands : goal.returns-in-EditDom-clause-stands
returns-in-EditDom-clause-stands c = λ state both.
    part-both c.answer_tree_edit.result c.answer_tree_edit.new.self c.answer_tree_edit.new.side c.answer_tree_edit.new.history state
    c.args.id (commands.EditDom c.in-EditDom.edit) c.args.command (sym c.in-EditDom.is)
    (c.answer_tree_edit.ensures.stands state both)

pub returns-in-EditDom-clause-sent : goal.returns-in-EditDom-clause-sent
returns-in-EditDom-clause-sent c = λ state both.
    part-sent c.answer_tree_edit.result state c.args.id (commands.EditDom c.in-EditDom.edit)
    c.args.command c.args.out.now.items c.answer_tree_edit.new.out.items (sym c.in-EditDom.is)
    (c.answer_tree_edit.ensures.sent state both.stands)

pub returns-in-EditCss-clause-stands : goal.returns-in-EditCss-clause-stands
returns-in-EditCss-clause-stands c = λ state both.
    part-both c.answer_sheet_edit.result c.answer_sheet_edit.new.self c.answer_sheet_edit.new.side c.answer_sheet_edit.new.history state
    c.args.id (commands.EditCss c.in-EditCss.edit) c.args.command (sym c.in-EditCss.is)
    (c.answer_sheet_edit.ensures.stands state both)

pub returns-in-EditCss-clause-sent : goal.returns-in-EditCss-clause-sent
returns-in-EditCss-clause-sent c = λ state both.
    part-sent c.answer_sheet_edit.result state c.args.id (commands.EditCss c.in-EditCss.edit)
    c.args.command c.args.out.now.items c.answer_sheet_edit.new.out.items (sym c.in-EditCss.is)
    (c.answer_sheet_edit.ensures.sent state both.stands)

pub returns-in-MarkUndoableState-clause-stands : goal.returns-in-MarkUndoableState-clause-stands
returns-in-MarkUndoableState-clause-stands c = λ state both.
    part-both c.end_group.result c.end_group.new.self c.args.side.now c.end_group.new.history state c.args.id
    commands.MarkUndoableState c.args.command (sym c.in-MarkUndoableState.is) (c.end_group.ensures.stands state both)

pub returns-in-MarkUndoableState-clause-sent : goal.returns-in-MarkUndoableState-clause-sent
returns-in-MarkUndoableState-clause-sent c = λ state both.
    part-sent c.end_group.result state c.args.id commands.MarkUndoableState c.args.command c.args.out.now.items c.end_group.new.out.items
    (sym c.in-MarkUndoableState.is) (c.end_group.ensures.sent state both.stands)

pub returns-in-Undo-clause-stands : goal.returns-in-Undo-clause-stands
returns-in-Undo-clause-stands c = λ state both.
    part-both c.take_group.result c.take_group.new.self c.take_group.new.side c.take_group.new.history state c.args.id commands.Undo
    c.args.command (sym c.in-Undo.is) (c.take_group.ensures.stands state both)

pub returns-in-Undo-clause-sent : goal.returns-in-Undo-clause-sent
returns-in-Undo-clause-sent c = λ state both.
    part-sent c.take_group.result state c.args.id commands.Undo c.args.command c.args.out.now.items c.take_group.new.out.items
    (sym c.in-Undo.is) (c.take_group.ensures.sent state both)

pub returns-in-Redo-clause-stands : goal.returns-in-Redo-clause-stands
returns-in-Redo-clause-stands c = λ state both.
    part-both c.take_group-in-Redo.result c.take_group-in-Redo.new.self c.take_group-in-Redo.new.side
    c.take_group-in-Redo.new.history state c.args.id commands.Redo c.args.command (sym c.in-Redo.is)
    (c.take_group-in-Redo.ensures.stands state both)

pub returns-in-Redo-clause-sent : goal.returns-in-Redo-clause-sent
returns-in-Redo-clause-sent c = λ state both.
    part-sent c.take_group-in-Redo.result state c.args.id commands.Redo c.args.command c.args.out.now.items
    c.take_group-in-Redo.new.out.items (sym c.in-Redo.is) (c.take_group-in-Redo.ensures.sent state both)

pub returns-in-ReplayLoad-clause-stands : goal.returns-in-ReplayLoad-clause-stands
returns-in-ReplayLoad-clause-stands c = λ state both.
    part-both c.answer_load.result c.answer_load.new.self c.answer_load.new.side c.answer_load.new.history state c.args.id
    (commands.ReplayLoad (view c.as_value.result.now)) c.args.command
    (ap (λ params. commands.ReplayLoad params) c.as_value.ensures ∙ sym c.in-ReplayLoad.is)
    (c.answer_load.ensures.stands state both)

pub returns-in-ReplayLoad-clause-sent : goal.returns-in-ReplayLoad-clause-sent
returns-in-ReplayLoad-clause-sent c = λ state both.
    part-sent c.answer_load.result state c.args.id (commands.ReplayLoad (view c.as_value.result.now))
    c.args.command c.args.out.now.items c.answer_load.new.out.items
    (ap (λ params. commands.ReplayLoad params) c.as_value.ensures ∙ sym c.in-ReplayLoad.is)
    (c.answer_load.ensures.sent state both.stands)

pub returns-in-ReplayAct-clause-stands : goal.returns-in-ReplayAct-clause-stands
returns-in-ReplayAct-clause-stands c = λ state both.
    part-both c.answer_act.result c.answer_act.new.self c.answer_act.new.side c.answer_act.new.history state c.args.id
    (commands.ReplayAct (view c.as_value-in-ReplayAct.result.now)) c.args.command
    (ap (λ params. commands.ReplayAct params) c.as_value-in-ReplayAct.ensures ∙ sym c.in-ReplayAct.is)
    (c.answer_act.ensures.stands state both)

pub returns-in-ReplayAct-clause-sent : goal.returns-in-ReplayAct-clause-sent
returns-in-ReplayAct-clause-sent c = λ state both.
    part-sent c.answer_act.result state c.args.id (commands.ReplayAct (view c.as_value-in-ReplayAct.result.now))
    c.args.command c.args.out.now.items c.answer_act.new.out.items
    (ap (λ params. commands.ReplayAct params) c.as_value-in-ReplayAct.ensures ∙ sym c.in-ReplayAct.is)
    (c.answer_act.ensures.sent state both.stands)

pub disable-requires : goal.disable-requires
disable-requires c = record {
  on = met-on c.args.self.now.is_on c.args.self.now.css (commands.DomDisable) c.args.command c.in-DomDisable.is refl c.requires.met;
}

pub enable_css-requires : goal.enable_css-requires
enable_css-requires c = record {
  on = met-on c.args.self.now.is_on c.args.self.now.css (commands.CssEnable) c.args.command c.in-CssEnable.is refl c.requires.met;
}

pub disable_css-requires-clause-on : goal.disable_css-requires-clause-on
disable_css-requires-clause-on c =
    met-on c.args.self.now.is_on c.args.self.now.css (commands.CssDisable)
    c.args.command c.in-CssDisable.is refl c.requires.met

pub answer_styles-requires-clause-on : goal.answer_styles-requires-clause-on
answer_styles-requires-clause-on c =
    met-on c.args.self.now.is_on c.args.self.now.css (commands.AskCss c.in-AskCss.ask)
    c.args.command c.in-AskCss.is (ap needs_dom (styles-need-both c.in-AskCss.ask)) c.requires.met

pub answer_sheet_edit-requires-clause-on : goal.answer_sheet_edit-requires-clause-on
answer_sheet_edit-requires-clause-on c =
    met-on c.args.self.now.is_on c.args.self.now.css (commands.EditCss c.in-EditCss.edit)
    c.args.command c.in-EditCss.is (ap needs_dom (style_edits-need-both c.in-EditCss.edit)) c.requires.met

pub answer_tree_edit-requires-clause-on : goal.answer_tree_edit-requires-clause-on
answer_tree_edit-requires-clause-on c =
    met-on c.args.self.now.is_on c.args.self.now.css (commands.EditDom c.in-EditDom.edit)
    c.args.command c.in-EditDom.is (ap needs_dom (edits-need-dom c.in-EditDom.edit)) c.requires.met

pub end_group-requires : goal.end_group-requires
end_group-requires c = record {
  on = met-on c.args.self.now.is_on c.args.self.now.css (commands.MarkUndoableState)
      c.args.command c.in-MarkUndoableState.is refl c.requires.met;
}

pub take_group-requires-clause-on : goal.take_group-requires-clause-on
take_group-requires-clause-on c =
    met-on c.args.self.now.is_on c.args.self.now.css (commands.Undo) c.args.command c.in-Undo.is refl c.requires.met

pub take_group-requires-in-Redo-clause-on : goal.take_group-requires-in-Redo-clause-on
take_group-requires-in-Redo-clause-on c =
    met-on c.args.self.now.is_on c.args.self.now.css (commands.Redo) c.args.command c.in-Redo.is refl c.requires.met

pub watch-requires : goal.watch-requires
watch-requires c = record {
  on = met-on c.args.self.now.is_on c.args.self.now.css (commands.SetBreakpoint c.in-SetBreakpoint.node c.in-SetBreakpoint.kind)
      c.args.command c.in-SetBreakpoint.is refl c.requires.met;
}

pub watch-requires-in-RemoveBreakpoint : goal.watch-requires-in-RemoveBreakpoint
watch-requires-in-RemoveBreakpoint c = record {
  on = met-on c.args.self.now.is_on c.args.self.now.css (commands.RemoveBreakpoint c.in-RemoveBreakpoint.node c.in-RemoveBreakpoint.kind)
      c.args.command c.in-RemoveBreakpoint.is refl c.requires.met;
}

pub disable_css-requires-clause-css : goal.disable_css-requires-clause-css
disable_css-requires-clause-css c =
    met-css c.args.self.now.is_on c.args.self.now.css (commands.CssDisable)
    c.args.command c.in-CssDisable.is refl c.requires.met

pub answer_styles-requires-clause-css : goal.answer_styles-requires-clause-css
answer_styles-requires-clause-css c =
    met-css c.args.self.now.is_on c.args.self.now.css (commands.AskCss c.in-AskCss.ask)
    c.args.command c.in-AskCss.is (ap needs_both (styles-need-both c.in-AskCss.ask)) c.requires.met

pub answer_sheet_edit-requires-clause-css : goal.answer_sheet_edit-requires-clause-css
answer_sheet_edit-requires-clause-css c =
    met-css c.args.self.now.is_on c.args.self.now.css (commands.EditCss c.in-EditCss.edit)
    c.args.command c.in-EditCss.is (ap needs_both (style_edits-need-both c.in-EditCss.edit)) c.requires.met

pub ask_agent-requires-clause-on : goal.ask_agent-requires-clause-on
ask_agent-requires-clause-on c =
    met-ask c.args.self.now.is_on c.args.self.now.css c.in-AskDom.ask
    c.args.command c.in-AskDom.is c.requires.met

pub returns-in-DomEnable-clause-told : goal.returns-in-DomEnable-clause-told
returns-in-DomEnable-clause-told c = λ state other both stands.
    plain-hears c.enable.result c.args.guest.now c.args.self.now c.args.side.now state other
    (commands.DomEnable c.in-DomEnable.include_whitespace)
    c.args.command c.in-DomEnable.is refl both.stands stands

pub returns-in-DomDisable-clause-told : goal.returns-in-DomDisable-clause-told
returns-in-DomDisable-clause-told c = λ state other both stands.
    plain-hears c.disable.result c.args.guest.now c.args.self.now c.args.side.now state other commands.DomDisable
    c.args.command c.in-DomDisable.is refl both.stands stands

pub returns-in-AskDom-clause-told : goal.returns-in-AskDom-clause-told
returns-in-AskDom-clause-told c = λ state other both stands.
    plain-hears c.ask_agent.result c.args.guest.now c.args.self.now c.args.side.now state other (commands.AskDom c.in-AskDom.ask)
    c.args.command c.in-AskDom.is refl both.stands stands

pub returns-in-AskSearch-clause-told : goal.returns-in-AskSearch-clause-told
returns-in-AskSearch-clause-told c = λ state other both stands.
    plain-hears c.answer_search.result c.args.guest.now c.args.self.now c.args.side.now state other (commands.AskSearch c.in-AskSearch.ask)
    c.args.command c.in-AskSearch.is refl both.stands stands

pub returns-in-MarkUndoableState-clause-told : goal.returns-in-MarkUndoableState-clause-told
returns-in-MarkUndoableState-clause-told c = λ state other both stands.
    plain-hears c.end_group.result c.args.guest.now c.args.self.now c.args.side.now state other commands.MarkUndoableState
    c.args.command c.in-MarkUndoableState.is refl both.stands stands

pub returns-in-CssEnable-clause-told : goal.returns-in-CssEnable-clause-told
returns-in-CssEnable-clause-told c = λ state other both stands.
    plain-hears c.enable_css.result c.args.guest.now c.args.self.now c.args.side.now state other commands.CssEnable
    c.args.command c.in-CssEnable.is refl both.stands stands

pub returns-in-CssDisable-clause-told : goal.returns-in-CssDisable-clause-told
returns-in-CssDisable-clause-told c = λ state other both stands.
    plain-hears c.disable_css.result c.args.guest.now c.args.self.now c.args.side.now state other commands.CssDisable
    c.args.command c.in-CssDisable.is refl both.stands stands

pub returns-in-AskCss-clause-told : goal.returns-in-AskCss-clause-told
returns-in-AskCss-clause-told c = λ state other both stands.
    plain-hears c.answer_styles.result c.args.guest.now c.args.self.now c.args.side.now state other (commands.AskCss c.in-AskCss.ask)
    c.args.command c.in-AskCss.is refl both.stands stands

pub returns-in-SetBreakpoint-clause-told : goal.returns-in-SetBreakpoint-clause-told
returns-in-SetBreakpoint-clause-told c = λ state other both stands.
    plain-hears c.watch.result c.args.guest.now c.args.self.now c.args.side.now state other
    (commands.SetBreakpoint c.in-SetBreakpoint.node c.in-SetBreakpoint.kind)
    c.args.command c.in-SetBreakpoint.is refl both.stands stands

pub returns-in-RemoveBreakpoint-clause-told : goal.returns-in-RemoveBreakpoint-clause-told
returns-in-RemoveBreakpoint-clause-told c = λ state other both stands.
    plain-hears c.watch-in-RemoveBreakpoint.result c.args.guest.now c.args.self.now c.args.side.now state other
    (commands.RemoveBreakpoint c.in-RemoveBreakpoint.node c.in-RemoveBreakpoint.kind)
    c.args.command c.in-RemoveBreakpoint.is refl both.stands stands

pub returns-in-EditDom-clause-told : goal.returns-in-EditDom-clause-told
returns-in-EditDom-clause-told c = λ state other both stands.
    part-hears c.answer_tree_edit.result c.args.guest.now c.answer_tree_edit.new.guest c.answer_tree_edit.new.side state other
    (commands.EditDom c.in-EditDom.edit) c.args.command
    (sym c.in-EditDom.is)
    (c.answer_tree_edit.ensures.told state other both.stands stands)

pub returns-in-EditCss-clause-told : goal.returns-in-EditCss-clause-told
returns-in-EditCss-clause-told c = λ state other both stands.
    part-hears c.answer_sheet_edit.result c.args.guest.now c.answer_sheet_edit.new.guest c.answer_sheet_edit.new.side state other
    (commands.EditCss c.in-EditCss.edit) c.args.command
    (sym c.in-EditCss.is)
    (c.answer_sheet_edit.ensures.told state other both.stands stands)

pub returns-in-Undo-clause-told : goal.returns-in-Undo-clause-told
returns-in-Undo-clause-told c = λ state other both stands.
    part-hears c.take_group.result c.args.guest.now c.take_group.new.guest c.take_group.new.side state other
    commands.Undo c.args.command
    (sym c.in-Undo.is)
    (c.take_group.ensures.told state other both stands)

pub returns-in-Redo-clause-told : goal.returns-in-Redo-clause-told
returns-in-Redo-clause-told c = λ state other both stands.
    part-hears c.take_group-in-Redo.result c.args.guest.now c.take_group-in-Redo.new.guest c.take_group-in-Redo.new.side state other
    commands.Redo c.args.command
    (sym c.in-Redo.is)
    (c.take_group-in-Redo.ensures.told state other both stands)

pub returns-in-ReplayLoad-clause-told : goal.returns-in-ReplayLoad-clause-told
returns-in-ReplayLoad-clause-told c = λ state other both stands.
    part-hears c.answer_load.result c.args.guest.now c.answer_load.new.guest c.answer_load.new.side state other
    (commands.ReplayLoad (view c.as_value.result.now)) c.args.command
    (ap (λ params. commands.ReplayLoad params) c.as_value.ensures ∙ sym c.in-ReplayLoad.is)
    (c.answer_load.ensures.told state other both.stands stands)

pub returns-in-ReplayAct-clause-told : goal.returns-in-ReplayAct-clause-told
returns-in-ReplayAct-clause-told c = λ state other both stands.
    part-hears c.answer_act.result c.args.guest.now c.answer_act.new.guest c.answer_act.new.side state other
    (commands.ReplayAct (view c.as_value-in-ReplayAct.result.now)) c.args.command
    (ap (λ params. commands.ReplayAct params) c.as_value-in-ReplayAct.ensures ∙ sym c.in-ReplayAct.is)
    (c.answer_act.ensures.told state other both.stands stands)

pub answer_tree_edit-requires-clause-can_hear : goal.answer_tree_edit-requires-clause-can_hear
answer_tree_edit-requires-clause-can_hear c = hear-fewer (2 ^ 30) 2 c.args.guest.now c.args.side.now (omega arith) c.requires.can_hear

pub answer_act-requires-clause-can_hear : goal.answer_act-requires-clause-can_hear
answer_act-requires-clause-can_hear c = hear-fewer (2 ^ 30) 2 c.args.guest.now c.args.side.now (omega arith) c.requires.can_hear
