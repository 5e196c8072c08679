-- All panels were told that nothing is shown.
use Rattle.std.proofs.Common.{◌≡◌, ap, sym, ◌∙◌, subst, map, option_map, All, None, false}
use Rattle.std.specs.Option.{ForSome}
use Rattle.node_tree.specs.Nodes.{none}
use Rattle.client_views.specs.Views.{IsMirror}
use Rattle.front_mirror.specs.Front.{FrontValue}
use Rattle.front_mirror.specs.Known.{known_value}
use Rattle.front_mirror.specs.Panels.{face, Turns}
use Rattle.front_mirror.specs.declared.panels.Change.TheVariants.{Cleared}
use Rattle.front_mirror.proofs.PlaceLemmas.{kinds-open, written, all_for, any_some}
use Rattle.front_mirror.proofs.front.Front.new.Goals as goal

pub returns : goal.returns
returns g c =
    let kinds = ap (map (option_map g.P.Panel.kind_of))
    (written c.tell_slots.new.slots c.in_ok-places.places.items c.in_ok-places.places.len (c.tell_slots.auto.slots
    ∙ c.as_mut_slice.ensures.len))
    ∙ c.in_ok-tell_slots.ensures.kinds
    ∙ ap (map (option_map g.P.Panel.kind_of)) (c.as_mut_slice.ensures.value ∙ c.in_ok-places.ensures)
    ∙ kinds-open g.P.Panel.kind_of c.args.panels.items in
    λ i. record {
      value = c.new-known.ensures i;
      rest = (c.new.ensures i).rest;
      fault = None;
      next = 1;
      fetches = 0;
      dead = false;
      panels = kinds i;
    }

pub invariant_of-result : goal.invariant_of-result
invariant_of-result g c =
    let empty = ap (λ (v : FrontValue). v.tree) c.new-known.ensures in
    let turns : Turns none Cleared c.new-known.result.mirror = record {
      was = subst IsMirror empty c.valid.ensures;
      is = c.valid.ensures;
      turns = empty;
    } in (
      λ alive well. ap (λ f. f.whole) c.new.ensures,
      λ alive. subst (λ os. All (λ o. ForSome o (λ p. g.P.Panel.shown p ≡ face (g.P.Panel.kind_of p)
          (known_value c.new-known.result).tree)) os)
          (sym (written c.tell_slots.new.slots c.in_ok-places.places.items c.in_ok-places.places.len (c.tell_slots.auto.slots
          ∙ c.as_mut_slice.ensures.len)))
          (all_for (λ p. g.P.Panel.shown p ≡ face (g.P.Panel.kind_of p) (known_value c.new-known.result).tree) c.tell_slots.new.slots
          (c.in_ok-tell_slots.ensures.shows none turns (λ k d less. any_some _))),
    )
