-- The rows so far, before those that the rest spells, are those that all values spell.
use Rattle.std.proofs.Common.{◌≡◌, ◌++◌, map, drop, option_map}
use Rattle.serde_json.specs.View.{items_view}
use Rattle.page_tree.specs.FlatRows.{row_of, rows_of}
use Rattle.page_tree.proofs.flat_rows.rows_in.Given as goal

abbrev pub invariant-loop-v : goal.invariant-loop-v
invariant-loop-v l = option_map (λ rs. map row_of l.rows.items ++ rs) (rows_of (items_view (drop l.v-index l.values)))
    ≡ rows_of (items_view l.values)
