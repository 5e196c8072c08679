-- A tree comes in, or all stays as it was.
use Rattle.std.proofs.Common.{sym, ap, ◌∙◌}
use Rattle.node_tree.specs.Nodes.{Branch}
use Rattle.page_tree.specs.Pages.{PageRow}
use Rattle.page_tree.proofs.ArenaSteps.{either_way}
use Rattle.page_tree.proofs.ArenaEdits.{attach_key, attach_fresh, tree_attached, same_page, on_ok, on_err}
use Rattle.page_tree.proofs.pages.Page.attach.Goals as goal

pub unreachable-requires : goal.unreachable-requires
unreachable-requires c = attach_key c.self.inside.arena c.self.inside.arena c.self.inside.root c.self.inside.next c.self.invariant
    c.args.self.now c.self.view_is c.args.parent c.args.before c.args.tree c.requires (sym c.key.ensures ∙ c.in_default.is)

pub invariant_of-self : goal.invariant_of-self
invariant_of-self c =
    let key_is = sym c.key.ensures ∙ c.in-Some.is in
    let fresh = attach_fresh c.self.inside.arena c.self.inside.arena c.self.inside.root c.self.inside.next c.self.invariant c.args.self.now
    c.self.view_is c.args.parent c.args.before c.args.tree c.requires in
    either_way c.attach.result _ _ _ c.attach.ensures.ok c.attach.ensures.err
    (λ grafted. (tree_attached c.self.inside.arena c.attach.new.self c.self.inside.root c.self.inside.next c.self.invariant c.args.self.now
    c.self.view_is c.args.parent c.args.before c.in-Some.key c.args.tree c.requires key_is grafted c.attach.ensures.filed fresh).page)
    (λ same. (same_page c.self.inside.arena c.attach.new.self c.self.inside.root c.self.inside.next c.self.invariant same
    c.attach.ensures.filed).1)

pub returns-clause-ok : goal.returns-clause-ok
returns-clause-ok c =
    let key_is = sym c.key.ensures ∙ c.in-Some.is in
    let fresh = attach_fresh c.self.inside.arena c.self.inside.arena c.self.inside.root c.self.inside.next c.self.invariant c.args.self.now
    c.self.view_is c.args.parent c.args.before c.args.tree c.requires in
    on_ok c.attach.result _ _ (λ grafted.
    (tree_attached c.self.inside.arena c.attach.new.self c.self.inside.root c.self.inside.next c.self.invariant c.args.self.now
    c.self.view_is c.args.parent c.args.before c.in-Some.key c.args.tree c.requires key_is grafted c.attach.ensures.filed fresh).shown)
    c.attach.ensures.ok

pub returns-clause-err : goal.returns-clause-err
returns-clause-err c =
    on_err c.attach.result _ _ (λ same. ap (λ (t : Branch PageRow). record { tree = t; next = c.self.inside.next })
    (same_page c.self.inside.arena c.attach.new.self c.self.inside.root c.self.inside.next c.self.invariant same
    c.attach.ensures.filed).0 ∙ c.self.view_is) c.attach.ensures.err
