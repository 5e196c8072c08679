-- A tree goes out, or all stays as it was.
use Rattle.std.proofs.Common.{sym, ap, subst, ◌∙◌}
use Rattle.std.specs.Option.{option_copied}
use Rattle.page_tree.specs.Pages.{PageValue, node_at}
use Rattle.page_tree.specs.Arenas.{IsPage}
use Rattle.page_tree.specs.declared.arenas.Arena.{Arena}
use Rattle.page_tree.proofs.ArenaEdits.{detach_slot, detach_parent, detach_key, detach_tree, tree_detached, if_ok, if_both, if_way}
use Rattle.page_tree.proofs.pages.Page.detach.Goals as goal

pub unreachable-requires : goal.unreachable-requires
unreachable-requires c = detach_slot c.self.inside.arena c.self.inside.arena c.self.inside.root c.self.inside.next c.self.invariant
    c.args.self.now c.self.view_is c.args.serial c.requires (sym c.find.ensures ∙ ap (λ o. option_copied o) c.in-None.is)

pub unreachable-requires-in_default : goal.unreachable-requires-in_default
unreachable-requires-in_default c = detach_parent c.self.inside.arena c.self.inside.arena c.self.inside.root c.self.inside.next
    c.self.invariant c.args.self.now c.self.view_is c.args.serial c.in-Some.slot.now c.requires
    (sym c.find.ensures ∙ ap (λ o. option_copied o) c.in-Some.is) c.in_default.is

pub detach-requires-clause-above : goal.detach-requires-clause-above
detach-requires-clause-above c = detach_key c.self.inside.arena c.self.inside.arena c.self.inside.root c.self.inside.next c.self.invariant
    c.args.self.now c.self.view_is c.args.serial c.in-Some-above.key c.in-Some.slot.now c.requires
    (sym c.find.ensures ∙ ap (λ o. option_copied o) c.in-Some.is) c.in-Some-above.is

pub invariant_of-self : goal.invariant_of-self
invariant_of-self c =
    let at = sym c.find.ensures ∙ ap (λ o. option_copied o) c.in-Some.is in
    if_way c.detach.result _ _ _ _
    (λ w copied cut. (tree_detached c.self.inside.arena c.detach.new.self c.self.inside.root c.self.inside.next c.self.invariant
    c.args.self.now c.self.view_is c.args.serial c.in-Some-above.key c.in-Some.slot.now w c.requires at c.in-Some-above.is
    (detach_tree c.self.inside.arena c.self.inside.arena c.self.inside.root c.self.inside.next c.self.invariant c.args.self.now
    c.self.view_is c.args.serial c.in-Some.slot.now w at (copied c.in-Some.slot.now at)) cut c.detach.ensures.filed).page)
    (λ same. subst (λ (b : Arena). IsPage b c.self.inside.root c.self.inside.next) (sym same) c.self.invariant)
    c.detach.ensures.tree c.detach.ensures.ok c.detach.ensures.err

pub returns-clause-ok : goal.returns-clause-ok
returns-clause-ok c =
    let at = sym c.find.ensures ∙ ap (λ o. option_copied o) c.in-Some.is in
    if_both c.detach.result _ _ _
    (λ w copied cut. (tree_detached c.self.inside.arena c.detach.new.self c.self.inside.root c.self.inside.next c.self.invariant
    c.args.self.now c.self.view_is c.args.serial c.in-Some-above.key c.in-Some.slot.now w c.requires at c.in-Some-above.is
    (detach_tree c.self.inside.arena c.self.inside.arena c.self.inside.root c.self.inside.next c.self.invariant c.args.self.now
    c.self.view_is c.args.serial c.in-Some.slot.now w at (copied c.in-Some.slot.now at)) cut c.detach.ensures.filed).shown)
    c.detach.ensures.tree c.detach.ensures.ok

pub returns-clause-tree : goal.returns-clause-tree
returns-clause-tree c =
    let at = sym c.find.ensures ∙ ap (λ o. option_copied o) c.in-Some.is in
    if_ok c.detach.result _ _
    (λ w copied. detach_tree c.self.inside.arena c.self.inside.arena c.self.inside.root c.self.inside.next c.self.invariant c.args.self.now
    c.self.view_is c.args.serial c.in-Some.slot.now w at (copied c.in-Some.slot.now at) ∙ ap
    (λ (q : PageValue). node_at c.args.serial q.tree) c.self.view_is)
    c.detach.ensures.tree
