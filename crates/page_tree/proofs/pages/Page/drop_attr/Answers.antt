-- The slot of the element loses the attribute.
use Rattle.std.proofs.Common.{refl, sym, ap, ◌∙◌}
use Rattle.node_tree.specs.Labels.{Label, value_of}
use Rattle.page_tree.proofs.ArenaSteps.{filed_turned}
use Rattle.page_tree.proofs.ArenaEdits.{drop_there, drop_ascends, attr_dropped, label_here}
use Rattle.page_tree.proofs.pages.Page.drop_attr.Goals as goal

pub unreachable-requires : goal.unreachable-requires
unreachable-requires c = drop_there c.self.inside.arena c.self.inside.arena c.self.inside.root c.self.inside.next c.self.invariant
    c.args.self.now c.self.view_is c.args.serial c.args.name.now c.requires (sym c.key.ensures ∙ c.in_default.is)

pub drop_attr-requires : goal.drop_attr-requires
drop_attr-requires c = drop_ascends c.self.inside.arena c.self.inside.arena c.self.inside.root c.self.inside.next c.self.invariant
    c.args.self.now c.self.view_is c.args.serial c.in-Some.key c.args.name.now c.requires (sym c.key.ensures ∙ c.in-Some.is)

pub invariant_of-self : goal.invariant_of-self
invariant_of-self c =
    let key_is = sym c.key.ensures ∙ c.in-Some.is in
    let (slot, at, label_is) = label_here c.self.inside.arena c.self.inside.arena c.self.inside.root c.self.inside.next c.self.invariant
    c.args.self.now c.self.view_is c.args.serial c.in-Some.key key_is in
    let files = filed_turned c.self.inside.arena c.drop_attr.new.self c.in-Some.key slot _ at refl c.drop_attr.ensures.slots
    c.drop_attr.ensures.keys c.self.invariant.arena.files in
    (attr_dropped c.self.inside.arena c.drop_attr.new.self c.self.inside.root c.self.inside.next c.self.invariant c.args.self.now
    c.self.view_is c.args.serial c.in-Some.key c.args.name.now c.requires key_is c.drop_attr.ensures.slots files).page

pub returns-clause-after : goal.returns-clause-after
returns-clause-after c =
    let key_is = sym c.key.ensures ∙ c.in-Some.is in
    let (slot, at, label_is) = label_here c.self.inside.arena c.self.inside.arena c.self.inside.root c.self.inside.next c.self.invariant
    c.args.self.now c.self.view_is c.args.serial c.in-Some.key key_is in
    let files = filed_turned c.self.inside.arena c.drop_attr.new.self c.in-Some.key slot _ at refl c.drop_attr.ensures.slots
    c.drop_attr.ensures.keys c.self.invariant.arena.files in
    (attr_dropped c.self.inside.arena c.drop_attr.new.self c.self.inside.root c.self.inside.next c.self.invariant c.args.self.now
    c.self.view_is c.args.serial c.in-Some.key c.args.name.now c.requires key_is c.drop_attr.ensures.slots files).shown

pub returns-clause-was : goal.returns-clause-was
returns-clause-was c =
    let (slot, at, label_is) = label_here c.self.inside.arena c.self.inside.arena c.self.inside.root c.self.inside.next c.self.invariant
    c.args.self.now c.self.view_is c.args.serial c.in-Some.key (sym c.key.ensures ∙ c.in-Some.is) in
    c.drop_attr.ensures.was slot at ∙ ap (λ (l : Label). value_of c.args.name.now l.attributes) label_is
