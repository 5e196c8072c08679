-- The search in the shelf is that in all.
use Rattle.std.proofs.Common.{◌≡◌, suc, ◌-◌, refl, ap, ◌∙◌, arith}
use Rattle.node_tree.specs.Labels.{is_ascending}
use Rattle.node_tree.specs.Searches.{search_name}
use Rattle.node_tree.specs.Shelves.{all_of}
use Rattle.node_tree.proofs.ShelfLemmas.{read_at, shelf_ascends, shelf_found, searched_in}
use Rattle.node_tree.proofs.shelves.Shelves.find.Goals as goal

pub search_name-requires : goal.search_name-requires
search_name-requires c =
    ap is_ascending c.as_slice.ensures.value
    ∙ shelf_ascends c.args.name.now (all_of c.args.self.now) 0 c.args.self.now.first refl c.requires.ascending

pub returns-then-before-eq0-clause-found : goal.returns-then-before-eq0-clause-found
returns-then-before-eq0-clause-found c =
    searched_in c.args.name.now c.args.self.now.first c.args.self.now.later.items c.shelves_before-before.result 0 c.args.self.now.first
    c.if-before-eq0.true refl c.search_name.result c.shelves_before-before.ensures.passed c.shelves_before-before.ensures.behind
    (c.search_name.ensures ∙ ap (search_name c.args.name.now) c.as_slice.ensures.value)

pub returns-then-before-eq0-clause-shelf : goal.returns-then-before-eq0-clause-shelf
returns-then-before-eq0-clause-shelf c =
    shelf_found c.args.name.now (all_of c.args.self.now) 0 c.args.self.now.first refl c.search_name.result
    (c.search_name.ensures ∙ ap (search_name c.args.name.now) c.as_slice.ensures.value)

pub search_name-requires-2 : goal.search_name-requires-2
search_name-requires-2 c =
    let all = all_of c.args.self.now in
    let later = c.args.self.now.later.items in
    let k = c.shelves_before-before.result - 1 in
    let m = c.index.result.now in
    let inside = c.shelves_before-before.ensures.inside in
    let at = read_at later k m (omega (arith, inside, c.if-before-eq0.false)) c.index.ensures in
    ap is_ascending c.as_slice-2.ensures.value ∙ shelf_ascends c.args.name.now all (suc k) m at c.requires.ascending

pub returns-clause-found : goal.returns-clause-found
returns-clause-found c =
    let all = all_of c.args.self.now in
    let later = c.args.self.now.later.items in
    let k = c.shelves_before-before.result - 1 in
    let m = c.index.result.now in
    let inside = c.shelves_before-before.ensures.inside in
    let at = read_at later k m (omega (arith, inside, c.if-before-eq0.false)) c.index.ensures in
    let is : c.shelves_before-before.result ≡ suc k = omega (arith, c.if-before-eq0.false) in
    searched_in c.args.name.now c.args.self.now.first later c.shelves_before-before.result (suc k) m is at c.search_name-2.result
    c.shelves_before-before.ensures.passed c.shelves_before-before.ensures.behind
    (c.search_name-2.ensures ∙ ap (search_name c.args.name.now) c.as_slice-2.ensures.value)

pub returns-clause-shelf : goal.returns-clause-shelf
returns-clause-shelf c =
    let all = all_of c.args.self.now in
    let later = c.args.self.now.later.items in
    let k = c.shelves_before-before.result - 1 in
    let m = c.index.result.now in
    let inside = c.shelves_before-before.ensures.inside in
    let at = read_at later k m (omega (arith, inside, c.if-before-eq0.false)) c.index.ensures in
    shelf_found c.args.name.now all (suc k) m at c.search_name-2.result
    (c.search_name-2.ensures ∙ ap (search_name c.args.name.now) c.as_slice-2.ensures.value)
