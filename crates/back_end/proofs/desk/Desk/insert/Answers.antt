-- An insert is one attach of new nodes, whose serials are drawn.
use Rattle.std.proofs.Common.{[], refl, sym, ap, arith}
use Rattle.page_tree.proofs.FaultLemmas.{insert_few}
use Rattle.back_end.proofs.ScriptLemmas.{grown-can, grown-texts, grown-low, drawn-form, grown-stands, grown-sent}
use Rattle.page_forms.specs.declared.acts.Act.TheVariants as act
use Rattle.page_tree.specs.Edits.{drawn, numbered_branch}
use Rattle.page_tree.specs.declared.edits.TreeEdit.TheVariants.{Attach}
use Rattle.back_end.specs.Plans.{edit_fault}
use Rattle.back_end.proofs.GuestSeats.{hear-fewer}
use Rattle.back_end.proofs.GuestSteps.{guest-texts, guest-drawn, can-hear-drawn, drawn-hears, act-hears, unacted-hears}
use Rattle.back_end.proofs.desk.Desk.insert.Goals as goal

pub grow-requires-clause-few : goal.grow-requires-clause-few
grow-requires-clause-few c = insert_few c.args.parent c.args.before c.args.form c.args.side.now.page.tree (sym c.in_default.ensures)

pub apply_by_script-requires-clause-can : goal.apply_by_script-requires-clause-can
apply_by_script-requires-clause-can c =
    grown-can c.args.side.now.page c.grow.new.self c.args.parent c.args.before c.args.form c.in_ok-tree.tree c.valid.ensures
    c.requires.form (sym c.in_default.ensures) c.in_ok-tree.ensures.drawn c.in_ok-tree.ensures.tree

pub apply_by_script-requires-clause-serials : goal.apply_by_script-requires-clause-serials
apply_by_script-requires-clause-serials c = grown-low c.args.side.now.page c.grow.new.self c.args.form c.requires.room.serials
    (insert_few c.args.parent c.args.before c.args.form c.args.side.now.page.tree (sym c.in_default.ensures)) c.in_ok-tree.ensures.drawn

pub returns-clause-stands : goal.returns-clause-stands
returns-clause-stands c = λ state stands.
    grown-stands c.apply_by_script.new.self c.apply_by_script.new.side state c.args.parent c.args.before c.args.form c.in_ok-tree.tree
    c.args.side.now.page stands.page_is (sym c.in_default.ensures) c.in_ok-tree.ensures.tree
    (c.in_ok-apply_by_script.ensures.stands _
    (drawn-form c.args.self.now c.args.side.now
    (record { page = _; sheets = _ }) state c.args.form stands c.in_ok-tree.ensures.drawn refl)
    (grown-texts c.args.side.now.page c.args.form c.in_ok-tree.tree c.requires.texts c.in_ok-tree.ensures.tree))

pub returns-clause-sent : goal.returns-clause-sent
returns-clause-sent c = λ state stands.
    grown-sent state c.args.parent c.args.before c.args.form c.in_ok-tree.tree c.args.side.now.page c.args.out.now.items
    c.apply_by_script.new.out.items stands.page_is (sym c.in_default.ensures) c.in_ok-tree.ensures.tree
    (c.in_ok-apply_by_script.ensures.sent _
    (drawn-form c.args.self.now c.args.side.now
    (record { page = _; sheets = _ }) state c.args.form stands c.in_ok-tree.ensures.drawn refl))

pub apply_by_script-requires-clause-can_hear : goal.apply_by_script-requires-clause-can_hear
apply_by_script-requires-clause-can_hear c =
    can-hear-drawn 1 c.args.guest.now c.args.side.now (record { page = _; sheets = _ }) c.args.form c.in_ok-tree.ensures.drawn refl
    (hear-fewer 2 1 c.args.guest.now c.args.side.now (omega arith) c.requires.can_hear)

pub returns-in-Some-clause-told : goal.returns-in-Some-clause-told
returns-in-Some-clause-told c = λ other stands.
    unacted-hears c.args.guest.now c.args.side.now other (act.Insert c.args.parent c.args.before c.args.form) _ stands
    (ap edit_fault (sym c.in-Some.ensures))

pub returns-clause-told : goal.returns-clause-told
returns-clause-told c = λ other stands.
    let page = c.args.side.now.page in
    let tree = c.in_ok-tree.tree in
    let attach = Attach c.args.parent c.args.before tree in
    act-hears c.args.guest.now c.apply_by_script.new.guest c.args.side.now c.apply_by_script.new.side other
    (act.Insert c.args.parent c.args.before c.args.form) (Attach c.args.parent c.args.before (numbered_branch page.next c.args.form)) []
    (drawn c.args.form page) stands (ap edit_fault (sym c.in_default.ensures)) refl
    (drawn-hears c.args.guest.now c.apply_by_script.new.guest c.apply_by_script.new.side other c.args.parent c.args.before c.args.form tree
    page c.in_ok-tree.ensures.tree
    (c.in_ok-apply_by_script.ensures.told _
    (guest-drawn c.args.guest.now c.args.side.now (record { page = _; sheets = _ }) other c.args.form c.in_ok-tree.ensures.drawn refl
    stands)
    (guest-texts c.args.guest.now attach
    (grown-texts page c.args.form tree c.requires.texts c.in_ok-tree.ensures.tree))))
