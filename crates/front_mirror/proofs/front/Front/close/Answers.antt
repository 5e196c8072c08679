use Rattle.std.proofs.Common.{◌≡◌, ap, sym, ◌∙◌, option_map, subst, is_some, map, All, length}
use Rattle.std.specs.Option.{ForSome}
use Rattle.front_mirror.specs.Panels.{face}
use Rattle.front_mirror.specs.Front.{FrontState}
use Rattle.front_mirror.specs.Known.{known_value}
use Rattle.front_mirror.specs.Places.{closed_at, open_at}
use Rattle.front_mirror.proofs.PlaceLemmas.{is_open-map, closed-map, closed-all, written}
use Rattle.front_mirror.proofs.front.Front.close.Goals as goal

pub returns-clause-closed : goal.returns-clause-closed
returns-clause-closed g c =
    c.close_at.ensures.closed
    ∙ ap (λ os. is_some (open_at c.args.place os)) c.as_mut_slice.ensures.value
    ∙ is_open-map g.P.Panel.kind_of c.args.place c.self.inside.panels.items
    ∙ ap (λ v. is_some (open_at c.args.place v.panels)) c.self.view_is

new_is : (g : _) (c : goal.After-self-1 g) → c.close_at.new.slots ≡ closed_at c.args.place c.self.inside.panels.items
new_is g c = c.close_at.ensures.slots ∙ ap (closed_at c.args.place) c.as_mut_slice.ensures.value

long_is : (g : _) (c : goal.After-self-1 g) → length c.close_at.new.slots ≡ c.self.inside.panels.len
long_is g c = c.close_at.auto.slots ∙ c.as_mut_slice.ensures.len

pub invariant_of-self : goal.invariant_of-self
invariant_of-self g c = (
  c.self.invariant.0,
  λ alive. subst (λ os. All (λ o. ForSome o (λ p. g.P.Panel.shown p ≡ face (g.P.Panel.kind_of p)
      (known_value c.self.inside.known).tree)) os)
      (sym (written c.close_at.new.slots c.self.inside.panels.items c.self.inside.panels.len (long_is g c) ∙ new_is g c))
      (closed-all (λ p. g.P.Panel.shown p ≡ face (g.P.Panel.kind_of p) (known_value c.self.inside.known).tree) c.args.place
      c.self.inside.panels.items (c.self.invariant.1 alive)),
)

pub returns-clause-panels : goal.returns-clause-panels
returns-clause-panels g c =
    let kinds = ap (map (option_map g.P.Panel.kind_of))
    (written c.close_at.new.slots c.self.inside.panels.items c.self.inside.panels.len (long_is g c) ∙ new_is g c)
    ∙ closed-map g.P.Panel.kind_of c.args.place c.self.inside.panels.items in
    (λ i. record {
      value = known_value c.self.inside.known;
      rest = c.self.inside.splitter.rest;
      fault = c.self.inside.fault;
      next = c.self.inside.next;
      fetches = c.self.inside.fetches;
      dead = c.self.inside.is_dead;
      panels = kinds i;
    }) ∙ ap (λ (v : FrontState). record v { panels = closed_at c.args.place v.panels }) c.self.view_is
