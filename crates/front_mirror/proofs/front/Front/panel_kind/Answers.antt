use Rattle.std.proofs.Common.{ap, sym, ◌∙◌, option_map, option_copied, Some}
use Rattle.front_mirror.specs.Places.{open_at}
use Rattle.front_mirror.proofs.PlaceLemmas.{open-map}
use Rattle.front_mirror.proofs.front.Front.panel_kind.Goals as goal

pub returns-in-Some : goal.returns-in-Some
returns-in-Some g c =
    sym (ap (λ v. open_at c.args.place v.panels) (sym c.self.view_is)
    ∙ open-map g.P.Panel.kind_of c.args.place c.self.inside.panels.items
    ∙ ap (λ os. option_map g.P.Panel.kind_of (open_at c.args.place os)) (sym c.as_slice.ensures.value)
    ∙ ap (option_map g.P.Panel.kind_of) (sym c.open_at.ensures)
    ∙ ap (λ o. option_map g.P.Panel.kind_of (option_copied o)) c.in-Some.is
    ∙ ap Some (sym c.kind.ensures))

pub returns-in-None : goal.returns-in-None
returns-in-None g c =
    sym (ap (λ v. open_at c.args.place v.panels) (sym c.self.view_is)
    ∙ open-map g.P.Panel.kind_of c.args.place c.self.inside.panels.items
    ∙ ap (λ os. option_map g.P.Panel.kind_of (open_at c.args.place os)) (sym c.as_slice.ensures.value)
    ∙ ap (option_map g.P.Panel.kind_of) (sym c.open_at.ensures)
    ∙ ap (λ o. option_map g.P.Panel.kind_of (option_copied o)) c.in-None.is)
