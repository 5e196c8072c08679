-- The slot of the parent, where there is one.
use Rattle.std.proofs.Common.{◌≡◌, Some, ap, sym, ◌∙◌}
use Rattle.std.specs.Option.{option_copied}
use Rattle.page_tree.specs.Pages.{PageValue}
use Rattle.page_tree.specs.declared.slots.Slot.{Slot}
use Rattle.page_tree.proofs.PlaceLemmas.{reads-there, reads-top, reads-over}
use Rattle.page_tree.proofs.pages.Page.parent.Goals as goal

pub unreachable-requires : goal.unreachable-requires
unreachable-requires c = reads-there c.self.inside.arena c.self.inside.root c.self.inside.next c.self.invariant c.args.self.now.tree
    (ap (λ (p : PageValue). p.tree) c.self.view_is) c.args.serial c.requires
    (sym c.find.ensures ∙ ap (λ o. option_copied o) c.in_default.is)

pub returns-in_default-parent : goal.returns-in_default-parent
returns-in_default-parent c = reads-top c.self.inside.arena c.self.inside.root c.self.inside.next c.self.invariant c.args.self.now.tree
    (ap (λ (p : PageValue). p.tree) c.self.view_is) c.args.serial c.in-Some.slot.now
    (sym c.find.ensures ∙ ap (λ o. option_copied o) c.in-Some.is) c.in_default-parent.is

pub unreachable-requires-in-None : goal.unreachable-requires-in-None
unreachable-requires-in-None c =
    let (over, at, serial_is) = reads-over c.self.inside.arena c.self.inside.root c.self.inside.next c.self.invariant c.args.self.now.tree
    (ap (λ (p : PageValue). p.tree) c.self.view_is) c.args.serial c.in-Some.slot.now c.in-Some-parent.key
    (sym c.find.ensures ∙ ap (λ o. option_copied o) c.in-Some.is) c.in-Some-parent.is in
    let clash = sym (ap (λ o. option_copied o) c.in-None.is) ∙ c.get.ensures ∙ at in
    absurd (cc)

pub returns : goal.returns
returns c =
    let (over, at, serial_is) = reads-over c.self.inside.arena c.self.inside.root c.self.inside.next c.self.invariant c.args.self.now.tree
    (ap (λ (p : PageValue). p.tree) c.self.view_is) c.args.serial c.in-Some.slot.now c.in-Some-parent.key
    (sym c.find.ensures ∙ ap (λ o. option_copied o) c.in-Some.is) c.in-Some-parent.is in
    let both : Some over ≡ Some c.in-Some-get.over.now = sym at ∙ sym c.get.ensures ∙ ap (λ o. option_copied o) c.in-Some-get.is in
    let same : over ≡ c.in-Some-get.over.now = cc in
    sym (ap (λ (s : Slot). s.serial) same) ∙ serial_is
