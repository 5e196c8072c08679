-- The attribute is there, and goes; or none is.
use Rattle.std.proofs.Common.{◌≡◌, Ok, Err, [], Some, List, slice_get, sym, ap, ◌∙◌}
use Rattle.std.specs.List.{remove}
use Rattle.node_tree.specs.Labels.{Pair}
use Rattle.node_tree.specs.Searches.{shifted, search_name}
use Rattle.node_tree.specs.Shelves.{all_of, number_of, start_of, place_of}
use Rattle.node_tree.proofs.PairLemmas.{without-absent}
use Rattle.node_tree.proofs.SearchedLemmas.{searched_ok, searched_err}
use Rattle.node_tree.proofs.ShelfLemmas.{one_at}
use Rattle.node_tree.proofs.attribute_lists.Attributes.remove_named.Goals as goal

pub returns-in-Ok-clause-rest : goal.returns-in-Ok-clause-rest
returns-in-Ok-clause-rest c =
    let qs = c.args.self.now in
    let place = place_of (all_of c.self.inside.shelves) (number_of c.find-k.result.0) c.in-Ok.j in
    let from = shifted (start_of (all_of c.self.inside.shelves) (number_of c.find-k.result.0)) in
    let is : search_name c.args.name.now qs ≡ Ok place =
    ap (search_name c.args.name.now) (sym c.self.view_is) ∙ c.find-k.ensures.found ∙ ap from c.in-Ok.is
    in
    let (was, at, put, value, without) = searched_ok c.args.name.now [] qs place is in
    c.take-name.ensures.rest ∙ ap (λ (l : List Pair). remove l place) c.self.view_is ∙ sym without

pub returns-in-Ok-clause-was : goal.returns-in-Ok-clause-was
returns-in-Ok-clause-was c =
    let qs = c.args.self.now in
    let place = place_of (all_of c.self.inside.shelves) (number_of c.find-k.result.0) c.in-Ok.j in
    let from = shifted (start_of (all_of c.self.inside.shelves) (number_of c.find-k.result.0)) in
    let is : search_name c.args.name.now qs ≡ Ok place =
    ap (search_name c.args.name.now) (sym c.self.view_is) ∙ c.find-k.ensures.found ∙ ap from c.in-Ok.is
    in
    let (was, at, put, value, without) = searched_ok c.args.name.now [] qs place is in
    let there = ap (λ (l : List Pair). slice_get l place) (sym c.self.view_is) ∙ c.take-name.ensures.pair in
    sym (value ∙ ap (λ (p : Pair). Some p.1) (one_at qs place was c.take-name.result at there))

pub returns-in-Err-clause-rest : goal.returns-in-Err-clause-rest
returns-in-Err-clause-rest c =
    let qs = c.args.self.now in
    let place = place_of (all_of c.self.inside.shelves) (number_of c.find-k.result.0) c.in-Err.field-0 in
    let from = shifted (start_of (all_of c.self.inside.shelves) (number_of c.find-k.result.0)) in
    let is : search_name c.args.name.now qs ≡ Err place =
    ap (search_name c.args.name.now) (sym c.self.view_is) ∙ c.find-k.ensures.found ∙ ap from c.in-Err.is
    in
    let (within, put, absent) = searched_err c.args.name.now [] qs place is in
    sym (without-absent c.args.name.now qs (absent c.requires))

pub returns-in-Err-clause-was : goal.returns-in-Err-clause-was
returns-in-Err-clause-was c =
    let qs = c.args.self.now in
    let place = place_of (all_of c.self.inside.shelves) (number_of c.find-k.result.0) c.in-Err.field-0 in
    let from = shifted (start_of (all_of c.self.inside.shelves) (number_of c.find-k.result.0)) in
    let is : search_name c.args.name.now qs ≡ Err place =
    ap (search_name c.args.name.now) (sym c.self.view_is) ∙ c.find-k.ensures.found ∙ ap from c.in-Err.is
    in
    let (within, put, absent) = searched_err c.args.name.now [] qs place is in
    sym (absent c.requires)
