-- The slot of the element gets the attribute, or all stays as it was.
use Rattle.std.proofs.Common.{refl, sym, ap, ◌∙◌}
use Rattle.node_tree.specs.Nodes.{Branch}
use Rattle.node_tree.specs.Labels.{Label, value_of}
use Rattle.page_tree.specs.Pages.{PageRow}
use Rattle.page_tree.proofs.ArenaSteps.{either_way, filed_turned, filed_same}
use Rattle.page_tree.proofs.ArenaEdits.{attr_there, attr_ascends, attr_set, label_here, same_page, on_ok, on_err, if_ok}
use Rattle.page_tree.proofs.pages.Page.set_attr.Goals as goal

pub unreachable-requires : goal.unreachable-requires
unreachable-requires c = attr_there c.self.inside.arena c.self.inside.arena c.self.inside.root c.self.inside.next c.self.invariant
    c.args.self.now c.self.view_is c.args.serial c.args.name c.args.value c.requires (sym c.key.ensures ∙ c.in_default.is)

pub set_attr-requires : goal.set_attr-requires
set_attr-requires c = attr_ascends c.self.inside.arena c.self.inside.arena c.self.inside.root c.self.inside.next c.self.invariant
    c.args.self.now c.self.view_is c.args.serial c.in-Some.key c.args.name c.args.value c.requires (sym c.key.ensures ∙ c.in-Some.is)

pub invariant_of-self : goal.invariant_of-self
invariant_of-self c =
    let key_is = sym c.key.ensures ∙ c.in-Some.is in
    let (slot, at, label_is) = label_here c.self.inside.arena c.self.inside.arena c.self.inside.root c.self.inside.next c.self.invariant
    c.args.self.now c.self.view_is c.args.serial c.in-Some.key key_is in
    either_way c.set_attr.result _ _ _ c.set_attr.ensures.ok c.set_attr.ensures.err
    (λ turned. (attr_set c.self.inside.arena c.set_attr.new.self c.self.inside.root c.self.inside.next c.self.invariant c.args.self.now
    c.self.view_is c.args.serial c.in-Some.key c.args.name c.args.value c.requires key_is turned
    (filed_turned c.self.inside.arena c.set_attr.new.self c.in-Some.key slot _ at refl turned c.set_attr.ensures.keys
    c.self.invariant.arena.files)).page)
    (λ same. (same_page c.self.inside.arena c.set_attr.new.self c.self.inside.root c.self.inside.next c.self.invariant same
    (filed_same c.self.inside.arena c.set_attr.new.self same c.set_attr.ensures.keys c.self.invariant.arena.files)).1)

pub returns-clause-ok : goal.returns-clause-ok
returns-clause-ok c =
    let key_is = sym c.key.ensures ∙ c.in-Some.is in
    let (slot, at, label_is) = label_here c.self.inside.arena c.self.inside.arena c.self.inside.root c.self.inside.next c.self.invariant
    c.args.self.now c.self.view_is c.args.serial c.in-Some.key key_is in
    on_ok c.set_attr.result _ _
    (λ turned. (attr_set c.self.inside.arena c.set_attr.new.self c.self.inside.root c.self.inside.next c.self.invariant c.args.self.now
    c.self.view_is c.args.serial c.in-Some.key c.args.name c.args.value c.requires key_is turned
    (filed_turned c.self.inside.arena c.set_attr.new.self c.in-Some.key slot _ at refl turned c.set_attr.ensures.keys
    c.self.invariant.arena.files)).shown)
    c.set_attr.ensures.ok

pub returns-clause-was : goal.returns-clause-was
returns-clause-was c =
    let (slot, at, label_is) = label_here c.self.inside.arena c.self.inside.arena c.self.inside.root c.self.inside.next c.self.invariant
    c.args.self.now c.self.view_is c.args.serial c.in-Some.key (sym c.key.ensures ∙ c.in-Some.is) in
    if_ok c.set_attr.result _ _ (λ was told. told slot at ∙ ap
    (λ (l : Label). value_of c.args.name l.attributes) label_is) c.set_attr.ensures.was

pub returns-clause-err : goal.returns-clause-err
returns-clause-err c =
    on_err c.set_attr.result _ _
    (λ same. ap (λ (t : Branch PageRow). record { tree = t; next = c.self.inside.next })
    (same_page c.self.inside.arena c.set_attr.new.self c.self.inside.root c.self.inside.next c.self.invariant same
    (filed_same c.self.inside.arena c.set_attr.new.self same c.set_attr.ensures.keys c.self.invariant.arena.files)).0 ∙ c.self.view_is)
    c.set_attr.ensures.err
