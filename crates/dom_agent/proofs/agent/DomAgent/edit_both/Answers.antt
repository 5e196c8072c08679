use Rattle.page_tree.specs.EditFaults.{CanApply}
use Rattle.shown_pages.specs.ShownPages.{shown_page}
use Rattle.shown_pages.specs.ShownEdits.{shown_edit}
use Rattle.dom_agent.proofs.ForesightLemmas.{edit_came, edit_kept, edit_frames, foreseen_room}
use Rattle.dom_agent.proofs.agent.DomAgent.edit_both.Goals as goal

pub tell-requires-clause-came : goal.tell-requires-clause-came
tell-requires-clause-came c =
    let can : CanApply c.args.page.now.next c.args.edit c.args.page.now.tree =
    record { fits = c.in_ok-back.ensures.fault; ready = c.requires.ready } in
    edit_came c.args.page.now c.apply.new.self c.args.edit c.in_ok-foreseen.foreseen c.args.self.now c.foresee.new.self c.valid.ensures can
    c.in_ok-foreseen.ensures c.in_ok-back.ensures.after

pub tell-requires-clause-room : goal.tell-requires-clause-room
tell-requires-clause-room c =
    let mode = c.args.self.now.mode in
    foreseen_room c.in_ok-foreseen.foreseen (shown_edit mode c.args.edit c.args.page.now.tree)
    (shown_page mode c.args.page.now) c.args.self.now c.foresee.new.self c.in_ok-foreseen.ensures c.requires.room

pub tell-requires-2-clause-came : goal.tell-requires-2-clause-came
tell-requires-2-clause-came c =
    let can : CanApply c.args.page.now.next c.args.edit c.args.page.now.tree =
    record { fits = c.in_ok-back.ensures.fault; ready = c.requires.ready } in
    edit_came c.args.page.now c.apply.new.self c.args.edit c.in_ok-other_foreseen.other_foreseen c.args.other.now c.foresee-2.new.self
    c.valid.ensures can c.in_ok-other_foreseen.ensures c.in_ok-back.ensures.after

pub tell-requires-2-clause-room : goal.tell-requires-2-clause-room
tell-requires-2-clause-room c =
    let mode = c.args.other.now.mode in
    foreseen_room c.in_ok-other_foreseen.other_foreseen (shown_edit mode c.args.edit c.args.page.now.tree)
    (shown_page mode c.args.page.now) c.args.other.now c.foresee-2.new.self c.in_ok-other_foreseen.ensures c.requires.other_room

pub returns-clause-agent : goal.returns-clause-agent
returns-clause-agent c =
    let can : CanApply c.args.page.now.next c.args.edit c.args.page.now.tree =
    record { fits = c.in_ok-back.ensures.fault; ready = c.requires.ready } in
    edit_kept c.args.page.now c.apply.new.self c.args.edit c.in_ok-foreseen.foreseen c.args.self.now c.foresee.new.self c.valid.ensures can
    c.in_ok-foreseen.ensures c.in_ok-back.ensures.after c.tell.new.self c.in_ok-tell.ensures.known

pub returns-clause-sent : goal.returns-clause-sent
returns-clause-sent c =
    let can : CanApply c.args.page.now.next c.args.edit c.args.page.now.tree =
    record { fits = c.in_ok-back.ensures.fault; ready = c.requires.ready } in
    edit_frames c.args.page.now c.apply.new.self c.args.edit c.in_ok-foreseen.foreseen c.args.self.now c.foresee.new.self c.valid.ensures
    can c.in_ok-foreseen.ensures c.in_ok-back.ensures.after c.args.out.now.items c.tell.new.out.items c.in_ok-tell.ensures.sent

pub returns-clause-other_agent : goal.returns-clause-other_agent
returns-clause-other_agent c =
    let can : CanApply c.args.page.now.next c.args.edit c.args.page.now.tree =
    record { fits = c.in_ok-back.ensures.fault; ready = c.requires.ready } in
    edit_kept c.args.page.now c.apply.new.self c.args.edit c.in_ok-other_foreseen.other_foreseen c.args.other.now c.foresee-2.new.self
    c.valid.ensures can c.in_ok-other_foreseen.ensures c.in_ok-back.ensures.after c.tell-2.new.self c.in_ok-tell-2.ensures.known

pub returns-clause-other_sent : goal.returns-clause-other_sent
returns-clause-other_sent c =
    let can : CanApply c.args.page.now.next c.args.edit c.args.page.now.tree =
    record { fits = c.in_ok-back.ensures.fault; ready = c.requires.ready } in
    edit_frames c.args.page.now c.apply.new.self c.args.edit c.in_ok-other_foreseen.other_foreseen c.args.other.now c.foresee-2.new.self
    c.valid.ensures can c.in_ok-other_foreseen.ensures c.in_ok-back.ensures.after c.args.other_out.now.items c.tell-2.new.out.items
    c.in_ok-tell-2.ensures.sent
