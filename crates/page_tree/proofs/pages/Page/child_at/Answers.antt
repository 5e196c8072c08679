-- The slot of the child.
use Rattle.std.proofs.Common.{◌≡◌, Some, ap, sym, ◌∙◌, arith}
use Rattle.std.specs.Option.{option_copied}
use Rattle.page_tree.specs.Pages.{PageValue}
use Rattle.page_tree.specs.declared.slots.Slot.{Slot}
use Rattle.page_tree.proofs.PlaceLemmas.{reads-there, reads-node, reads-child}
use Rattle.page_tree.proofs.pages.Page.child_at.Goals as goal

pub unreachable-requires : goal.unreachable-requires
unreachable-requires c = reads-there c.self.inside.arena c.self.inside.root c.self.inside.next c.self.invariant c.args.self.now.tree
    (ap (λ (p : PageValue). p.tree) c.self.view_is) c.args.serial c.requires.live
    (sym c.find.ensures ∙ ap (λ o. option_copied o) c.in_default.is)

pub at-requires : goal.at-requires
at-requires c =
    let node = reads-node c.self.inside.arena c.self.inside.root c.self.inside.next c.self.invariant c.args.self.now.tree
    (ap (λ (p : PageValue). p.tree) c.self.view_is) c.args.serial c.in-Some.slot.now
    (sym c.find.ensures ∙ ap (λ o. option_copied o) c.in-Some.is) in
    omega (arith, node.1, c.requires.in_range)

pub unreachable-requires-in-None : goal.unreachable-requires-in-None
unreachable-requires-in-None c =
    let (child, at, serial_is) = reads-child c.self.inside.arena c.self.inside.root c.self.inside.next c.self.invariant
    c.args.self.now.tree (ap (λ (p : PageValue). p.tree) c.self.view_is) c.args.serial c.in-Some.slot.now c.args.i c.at.result
    (sym c.find.ensures ∙ ap (λ o. option_copied o) c.in-Some.is) c.at.ensures in
    let clash = sym (ap (λ o. option_copied o) c.in-None.is) ∙ c.get.ensures ∙ at in
    absurd (cc)

pub returns : goal.returns
returns c =
    let (child, at, serial_is) = reads-child c.self.inside.arena c.self.inside.root c.self.inside.next c.self.invariant
    c.args.self.now.tree (ap (λ (p : PageValue). p.tree) c.self.view_is) c.args.serial c.in-Some.slot.now c.args.i c.at.result
    (sym c.find.ensures ∙ ap (λ o. option_copied o) c.in-Some.is) c.at.ensures in
    let both : Some child ≡ Some c.in-Some-get.child.now = sym at ∙ sym c.get.ensures ∙ ap (λ o. option_copied o) c.in-Some-get.is in
    let same : child ≡ c.in-Some-get.child.now = cc in
    serial_is ∙ ap (λ (s : Slot). Some s.serial) same
