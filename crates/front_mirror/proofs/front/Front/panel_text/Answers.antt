use Rattle.std.proofs.Common.{◌≡◌, ap, sym, ◌∙◌, option_map, option_copied, Some, is_some}
use Rattle.front_mirror.specs.Panels.{face}
use Rattle.front_mirror.specs.Front.{FrontState}
use Rattle.front_mirror.specs.Known.{known_value}
use Rattle.front_mirror.specs.Places.{open_at}
use Rattle.front_mirror.proofs.PlaceLemmas.{open-map, open-all}
use Rattle.front_mirror.proofs.front.Front.panel_text.Goals as goal

pub returns-in-Some-clause-text : goal.returns-in-Some-clause-text
returns-in-Some-clause-text g c = λ alive.
    let tree = ap (λ (v : FrontState). v.value.tree) c.self.view_is in
    let here = sym c.open_at.ensures ∙ ap option_copied c.in-Some.is in
    let there = ap (open_at c.args.place) (sym c.as_slice.ensures.value) ∙ here in
    let living = ap (λ (v : FrontState). v.dead) c.self.view_is ∙ alive in
    let shows = open-all (λ p. g.P.Panel.shown p ≡ face (g.P.Panel.kind_of p) (known_value c.self.inside.known).tree) c.args.place
    c.self.inside.panels.items (c.self.invariant.1 living) c.in-Some.panel.now there in
    ap Some (c.text.ensures ∙ shows)
    ∙ sym (ap (λ (v : FrontState). option_map (λ k. face k v.value.tree) (open_at c.args.place v.panels)) (sym c.self.view_is)
    ∙ ap (option_map (λ k. face k (known_value c.self.inside.known).tree))
    (open-map g.P.Panel.kind_of c.args.place c.self.inside.panels.items ∙ ap (option_map g.P.Panel.kind_of) there))

pub returns-in-None-clause-text : goal.returns-in-None-clause-text
returns-in-None-clause-text g c = λ alive.
    let there = ap (open_at c.args.place) (sym c.as_slice.ensures.value) ∙ sym c.open_at.ensures ∙ ap option_copied c.in-None.is in
    sym (ap (λ (v : FrontState). option_map (λ k. face k v.value.tree) (open_at c.args.place v.panels)) (sym c.self.view_is)
    ∙ ap (option_map (λ k. face k (known_value c.self.inside.known).tree))
    (open-map g.P.Panel.kind_of c.args.place c.self.inside.panels.items ∙ ap (option_map g.P.Panel.kind_of) there))

pub returns-in-Some-clause-open : goal.returns-in-Some-clause-open
returns-in-Some-clause-open g c =
    let here = sym c.open_at.ensures ∙ ap option_copied c.in-Some.is in
    let there = ap (open_at c.args.place) (sym c.as_slice.ensures.value) ∙ here in
    sym (ap (λ (v : FrontState). is_some (open_at c.args.place v.panels)) (sym c.self.view_is)
    ∙ ap is_some (open-map g.P.Panel.kind_of c.args.place c.self.inside.panels.items ∙ ap (option_map g.P.Panel.kind_of) there))

pub returns-in-None-clause-open : goal.returns-in-None-clause-open
returns-in-None-clause-open g c =
    let there = ap (open_at c.args.place) (sym c.as_slice.ensures.value) ∙ sym c.open_at.ensures ∙ ap option_copied c.in-None.is in
    sym (ap (λ (v : FrontState). is_some (open_at c.args.place v.panels)) (sym c.self.view_is)
    ∙ ap is_some (open-map g.P.Panel.kind_of c.args.place c.self.inside.panels.items ∙ ap (option_map g.P.Panel.kind_of) there))
