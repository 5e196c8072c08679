-- One row more is read.
use Rattle.std.proofs.Common.{◌≡◌, ◌+◌, List, [], ◌∷◌, ◌++◌, map, drop, option_map, sym, ap, subst, ◌∙◌}
use Rattle.std.proofs.lemmas.List.{map-append}
use Rattle.serde_json.specs.View.{items_view}
use Rattle.page_tree.specs.Flat.{FlatRow}
use Rattle.page_tree.specs.FlatRows.{row_of, rows_of}
use Rattle.page_tree.proofs.FlatLoads.{rows-turn}
use Rattle.page_tree.proofs.flat_rows.rows_in.Goals as goal

pub loop-v-preserved : goal.loop-v-preserved
loop-v-preserved c =
    let is_row = sym (ap (option_map row_of) c.in-Some.is) ∙ c.in_ok-row.ensures {u = tt} in
    let turn = rows-turn c.args.values.now c.loop-v.v-index c.v-item.result (map row_of c.loop-v.rows.items) (row_of c.in-Some.row) _
    c.loop-v-test.true c.v-item.is is_row c.loop-v.invariant in
    subst (λ (l : List FlatRow). option_map (λ rs. l ++ rs) (rows_of (items_view (drop (c.loop-v.v-index + 1) c.args.values.now)))
    ≡ rows_of (items_view c.args.values.now))
    (sym (ap (map row_of) (c.in_ok-push.ensures {u = tt}).items ∙ map-append row_of c.loop-v.rows.items (c.in-Some.row ∷ []))) turn
