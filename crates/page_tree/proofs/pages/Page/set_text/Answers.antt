-- The slot of the node gets another value.
use Rattle.std.proofs.Common.{◌≡◌, Some, refl, sym, ap, ◌∙◌}
use Rattle.node_tree.specs.Labels.{Label}
use Rattle.page_tree.proofs.ArenaSteps.{filed_turned}
use Rattle.page_tree.proofs.ArenaEdits.{text_there, text_set, label_here}
use Rattle.page_tree.proofs.pages.Page.set_text.Goals as goal

pub unreachable-requires : goal.unreachable-requires
unreachable-requires c = text_there c.self.inside.arena c.self.inside.arena c.self.inside.root c.self.inside.next c.self.invariant
    c.args.self.now c.self.view_is c.args.serial c.args.value c.requires (sym c.key.ensures ∙ c.in_default.is)

pub invariant_of-self : goal.invariant_of-self
invariant_of-self c =
    let key_is = sym c.key.ensures ∙ c.in-Some.is in
    let (slot, at, label_is) = label_here c.self.inside.arena c.self.inside.arena c.self.inside.root c.self.inside.next c.self.invariant
    c.args.self.now c.self.view_is c.args.serial c.in-Some.key key_is in
    let files = filed_turned c.self.inside.arena c.set_value.new.self c.in-Some.key slot _ at refl c.set_value.ensures.slots
    c.set_value.ensures.keys c.self.invariant.arena.files in
    (text_set c.self.inside.arena c.set_value.new.self c.self.inside.root c.self.inside.next c.self.invariant c.args.self.now
    c.self.view_is c.args.serial c.in-Some.key c.args.value c.requires key_is c.set_value.ensures.slots files).page

pub returns-clause-after : goal.returns-clause-after
returns-clause-after c =
    let key_is = sym c.key.ensures ∙ c.in-Some.is in
    let (slot, at, label_is) = label_here c.self.inside.arena c.self.inside.arena c.self.inside.root c.self.inside.next c.self.invariant
    c.args.self.now c.self.view_is c.args.serial c.in-Some.key key_is in
    let files = filed_turned c.self.inside.arena c.set_value.new.self c.in-Some.key slot _ at refl c.set_value.ensures.slots
    c.set_value.ensures.keys c.self.invariant.arena.files in
    (text_set c.self.inside.arena c.set_value.new.self c.self.inside.root c.self.inside.next c.self.invariant c.args.self.now
    c.self.view_is c.args.serial c.in-Some.key c.args.value c.requires key_is c.set_value.ensures.slots files).shown

pub returns-clause-was : goal.returns-clause-was
returns-clause-was c =
    let (slot, at, label_is) = label_here c.self.inside.arena c.self.inside.arena c.self.inside.root c.self.inside.next c.self.invariant
    c.args.self.now c.self.view_is c.args.serial c.in-Some.key (sym c.key.ensures ∙ c.in-Some.is) in
    let both : Some c.in-Some-set_value.was ≡ Some slot.value = sym c.in-Some-set_value.is ∙ c.set_value.ensures.was slot at in
    let same : c.in-Some-set_value.was ≡ slot.value = cc in
    same ∙ ap (λ (l : Label). l.value) label_is
