-- The slot of the parent knows the siblings.
use Rattle.std.proofs.Common.{Option, None, IsSome, subst, sym, ap, ◌∙◌}
use Rattle.std.specs.Option.{option_copied}
use Rattle.page_tree.specs.declared.slots.Slot.{Slot}
use Rattle.page_tree.proofs.ArenaEdits.{detach_slot, detach_parent, detach_key, sibling_is}
use Rattle.page_tree.proofs.pages.Page.sibling_after.Goals as goal

pub unreachable-requires : goal.unreachable-requires
unreachable-requires c = detach_slot c.self.inside.arena c.self.inside.arena c.self.inside.root c.self.inside.next c.self.invariant
    c.args.self.now c.self.view_is c.args.serial c.requires (sym c.find.ensures ∙ ap (λ o. option_copied o) c.in-None.is)

pub unreachable-requires-in_default : goal.unreachable-requires-in_default
unreachable-requires-in_default c = detach_parent c.self.inside.arena c.self.inside.arena c.self.inside.root c.self.inside.next
    c.self.invariant c.args.self.now c.self.view_is c.args.serial c.in-Some.slot.now c.requires
    (sym c.find.ensures ∙ ap (λ o. option_copied o) c.in-Some.is) c.in_default.is

pub unreachable-requires-in-None-get : goal.unreachable-requires-in-None-get
unreachable-requires-in-None-get c =
    let there = detach_key c.self.inside.arena c.self.inside.arena c.self.inside.root c.self.inside.next c.self.invariant c.args.self.now
    c.self.view_is c.args.serial c.in-Some-above.key c.in-Some.slot.now c.requires
    (sym c.find.ensures ∙ ap (λ o. option_copied o) c.in-Some.is) c.in-Some-above.is in
    let clash : IsSome {T = Slot} None = subst (λ (o : Option Slot). IsSome o)
    (sym c.get.ensures ∙ ap (λ o. option_copied o) c.in-None-get.is) there in
    absurd (cc)

pub returns : goal.returns
returns c =
    c.next_sibling.ensures
    ∙ sibling_is c.self.inside.arena c.self.inside.arena c.self.inside.root c.self.inside.next c.self.invariant c.args.self.now
    c.self.view_is c.args.serial c.in-Some-above.key c.in-Some.slot.now c.in-Some-get.over.now c.requires
    (sym c.find.ensures ∙ ap (λ o. option_copied o) c.in-Some.is) c.in-Some-above.is
    (sym c.get.ensures ∙ ap (λ o. option_copied o) c.in-Some-get.is)
