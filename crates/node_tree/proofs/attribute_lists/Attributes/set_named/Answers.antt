-- The attribute is there and gets another value, or comes into its place.
use Rattle.std.proofs.Common.{◌≡◌, Ok, Err, Some, List, slice_get, slice_set, sym, ap, ◌∙◌}
use Rattle.std.specs.List.{insert}
use Rattle.node_tree.specs.Labels.{Pair}
use Rattle.node_tree.specs.Searches.{shifted, search_name}
use Rattle.node_tree.specs.Shelves.{all_of, number_of, start_of, place_of}
use Rattle.node_tree.proofs.SearchedLemmas.{searched_ok, searched_err}
use Rattle.node_tree.proofs.attribute_lists.Attributes.set_named.Goals as goal

pub returns-in-Ok-clause-ok : goal.returns-in-Ok-clause-ok
returns-in-Ok-clause-ok c =
    let qs = c.args.self.now in
    let place = place_of (all_of c.self.inside.shelves) (number_of c.find-k.result.0) c.in-Ok.j in
    let from = shifted (start_of (all_of c.self.inside.shelves) (number_of c.find-k.result.0)) in
    let is : search_name c.args.name qs ≡ Ok place =
    ap (λ n. search_name n qs) (sym c.as_str.ensures) ∙ ap (search_name c.as_str.result.now) (sym c.self.view_is)
    ∙ c.find-k.ensures.found ∙ ap from c.in-Ok.is
    in
    let (was, at, put, value, without) = searched_ok c.args.name c.args.value qs place is in
    let there = ap (λ (l : List Pair). slice_get l place) c.self.view_is ∙ at in
    (c.set.ensures.set was.0 was.1 there).0
    ∙ ap (λ (l : List Pair). slice_set l place (was.0, c.args.value)) c.self.view_is ∙ sym put

pub returns-in-Ok-clause-was : goal.returns-in-Ok-clause-was
returns-in-Ok-clause-was c =
    let qs = c.args.self.now in
    let place = place_of (all_of c.self.inside.shelves) (number_of c.find-k.result.0) c.in-Ok.j in
    let from = shifted (start_of (all_of c.self.inside.shelves) (number_of c.find-k.result.0)) in
    let is : search_name c.args.name qs ≡ Ok place =
    ap (λ n. search_name n qs) (sym c.as_str.ensures) ∙ ap (search_name c.as_str.result.now) (sym c.self.view_is)
    ∙ c.find-k.ensures.found ∙ ap from c.in-Ok.is
    in
    let (was, at, put, value, without) = searched_ok c.args.name c.args.value qs place is in
    let there = ap (λ (l : List Pair). slice_get l place) c.self.view_is ∙ at in
    ap (λ v. Some v) (c.set.ensures.set was.0 was.1 there).1 ∙ sym value

pub returns-in_ok-insert-in-Err-clause-ok : goal.returns-in_ok-insert-in-Err-clause-ok
returns-in_ok-insert-in-Err-clause-ok c =
    let qs = c.args.self.now in
    let place = place_of (all_of c.self.inside.shelves) (number_of c.find-k.result.0) c.in-Err.j in
    let from = shifted (start_of (all_of c.self.inside.shelves) (number_of c.find-k.result.0)) in
    let is : search_name c.args.name qs ≡ Err place =
    ap (λ n. search_name n qs) (sym c.as_str.ensures) ∙ ap (search_name c.as_str.result.now) (sym c.self.view_is)
    ∙ c.find-k.ensures.found ∙ ap from c.in-Err.is
    in
    let (within, put, absent) = searched_err c.args.name c.args.value qs place is in
    (c.in_ok-insert-in-Err.ensures {u = tt}).ok
    ∙ ap (λ (l : List Pair). insert l place (c.args.name, c.args.value)) c.self.view_is ∙ sym put

pub returns-in_ok-insert-in-Err-clause-was : goal.returns-in_ok-insert-in-Err-clause-was
returns-in_ok-insert-in-Err-clause-was c =
    let qs = c.args.self.now in
    let place = place_of (all_of c.self.inside.shelves) (number_of c.find-k.result.0) c.in-Err.j in
    let from = shifted (start_of (all_of c.self.inside.shelves) (number_of c.find-k.result.0)) in
    let is : search_name c.args.name qs ≡ Err place =
    ap (λ n. search_name n qs) (sym c.as_str.ensures) ∙ ap (search_name c.as_str.result.now) (sym c.self.view_is)
    ∙ c.find-k.ensures.found ∙ ap from c.in-Err.is
    in
    let (within, put, absent) = searched_err c.args.name c.args.value qs place is in
    sym (absent c.requires)
