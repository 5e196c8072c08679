-- The pair at its place in a shelf is that of the list.
use Rattle.std.proofs.Common.{◌≡◌, List, Some, slice_get, slice_set, ap, ◌∙◌}
use Rattle.node_tree.specs.Labels.{Pair}
use Rattle.node_tree.specs.Shelves.{all_of, number_of, place_of, pairs_in}
use Rattle.node_tree.proofs.attribute_lists.Attributes.set_value.Goals as goal

pub returns : goal.returns
returns c =
    λ name was there.
    let qs = c.args.self.now in
    let ps = pairs_in c.self.inside.shelves in
    let place = place_of (all_of c.self.inside.shelves) (number_of c.within-k.result.0) c.within-k.result.1 in
    let e : place ≡ c.args.i = c.within-k.ensures.place in
    let here : slice_get ps place ≡ Some (name, was) =
    ap (slice_get ps) e ∙ ap (λ (l : List Pair). slice_get l c.args.i) c.self.view_is ∙ there
    in
    let both = c.set.ensures.set name was here in (
      both.0 ∙ ap (λ (l : List Pair). slice_set l place (name, c.args.value)) c.self.view_is
          ∙ ap (λ n. slice_set qs n (name, c.args.value)) e,
      both.1,
    )
