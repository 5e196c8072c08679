-- The nodes that the rows of a list tell: their texts are UTF-8 where those of the list are.
use Rattle.std.proofs.Common.{◌≡◌, ℕ, ◌+◌, ◌==◌, Bool, true, false, cond, List, [], ◌∷◌, ◌++◌, codes, Option, Some, None, option_map}
use Rattle.std.proofs.Common.{IsUtf8}
use Rattle.std.proofs.Common.{option_and_then, refl, sym, subst}
use Rattle.std.proofs.lemmas.Str.{IsUtf8-nil}
use Rattle.serde_json.specs.Data.{Data, Items, no_items, item}
use Rattle.serde_json.specs.Find.{get, as_array}
use Rattle.cdp_json.specs.Plain.{HasUtf8, ItemsHaveUtf8}
use Rattle.cdp_json.proofs.ReadTexts.{IfSome, map_keeps, then_keeps}
use Rattle.node_tree.specs.Nodes.{Nodes, none, node, node_count}
use Rattle.node_tree.specs.Labels.{Label, PairsHaveUtf8, LabelHasUtf8}
use Rattle.node_tree.specs.declared.Kind.TheVariants.{Element, Text, Comment, Doctype}
use Rattle.page_tree.specs.Loads.{property_count, times_of, text_at, labelled, attributes_at}
use Rattle.page_tree.specs.Flat.{FlatRow, flat_rows, flat_nodes, are_held, flat_formed}
use Rattle.page_tree.specs.FlatRows.{up_at, text_beside, row_name, element_row, row_label, row_with, row_spelled, row_before, rows_of}
use Rattle.page_tree.specs.FlatRows.{flat_in}
use Rattle.page_tree.proofs.FlatLemmas.{flat-is}
use Rattle.page_forms.specs.Texts.{HaveTexts}
use Rattle.page_forms.proofs.NodeTexts.{array_utf8, get_utf8, text_at-utf8, listed, either_utf8, when}

-- ---- a row

beside_utf8 : (k : List ℕ) (d : Data) → HasUtf8 d → IfSome IsUtf8 (text_beside k d)
beside_utf8 k d u = when IsUtf8 (property_count d == 2) (text_at k d) (text_at-utf8 k d u)

element_utf8 : (d : Data) → HasUtf8 d → IfSome LabelHasUtf8 (element_row d)
element_utf8 d u =
    then_keeps IsUtf8 LabelHasUtf8 (λ name. option_map (labelled Element name []) (attributes_at d))
    (λ name un. map_keeps PairsHaveUtf8 LabelHasUtf8 (labelled Element name []) (λ ps us. (un, IsUtf8-nil, us)) (attributes_at d)
    (listed (get (codes "a") d) (get_utf8 (codes "a") d u)))
    (row_name d)
    (when IsUtf8 (property_count d == 2 + times_of (codes "a") d) (text_at (codes "e") d) (text_at-utf8 (codes "e") d u))

label_utf8 : (d : Data) → HasUtf8 d → IfSome LabelHasUtf8 (row_label d)
label_utf8 d u =
    either_utf8 LabelHasUtf8 (element_row d) _ (element_utf8 d u)
    (either_utf8 LabelHasUtf8 (option_map (λ text. labelled Text [] text []) (text_beside (codes "t") d)) _
    (map_keeps IsUtf8 LabelHasUtf8 (λ text. labelled Text [] text []) (λ text v. (IsUtf8-nil, v, tt)) (text_beside (codes "t") d)
    (beside_utf8 (codes "t") d u))
    (either_utf8 LabelHasUtf8 (option_map (λ text. labelled Comment [] text []) (text_beside (codes "k") d)) _
    (map_keeps IsUtf8 LabelHasUtf8 (λ text. labelled Comment [] text []) (λ text v. (IsUtf8-nil, v, tt)) (text_beside (codes "k") d)
    (beside_utf8 (codes "k") d u))
    (map_keeps IsUtf8 LabelHasUtf8 (λ name. labelled Doctype name [] []) (λ name v. (v, IsUtf8-nil, tt)) (text_beside (codes "d") d)
    (beside_utf8 (codes "d") d u))))

-- ---- rows

abbrev RowsHaveTexts : List FlatRow → Type 0
RowsHaveTexts [] = Unit {0}
RowsHaveTexts (r ∷ rs) = LabelHasUtf8 r.label × RowsHaveTexts rs

before_utf8 : (up : Option ℕ) (l : Option Label) (rs : Option (List FlatRow)) → IfSome LabelHasUtf8 l → IfSome RowsHaveTexts rs
    → IfSome RowsHaveTexts (row_before (row_with up l) rs)
before_utf8 None l rs u v = tt
before_utf8 (Some up) None rs u v = tt
before_utf8 (Some up) (Some l) None u v = tt
before_utf8 (Some up) (Some l) (Some rs) u v = (u, v)

rows_utf8 : (ds : Items) → ItemsHaveUtf8 ds → IfSome RowsHaveTexts (rows_of ds)
rows_utf8 no_items u = tt
rows_utf8 (item d ds) u = before_utf8 (up_at d) (row_label d) (rows_of ds) (label_utf8 d u.0) (rows_utf8 ds u.1)

apart : (a b : List FlatRow) → RowsHaveTexts (a ++ b) → RowsHaveTexts a × RowsHaveTexts b
apart [] b u = (tt, u)
apart (r ∷ rs) b u = let p = apart rs b u.1 in ((u.0, p.0), p.1)

-- ---- the nodes of rows

nodes_utf8 : (n : Nodes Label) (up next : ℕ) → RowsHaveTexts (flat_rows up next n) → HaveTexts n
nodes_utf8 none up next u = tt
nodes_utf8 (node l c t) up next u =
    let p = apart (flat_rows next (next + 1) c) (flat_rows up (next + 1 + node_count c) t) u.1 in
    (u.0, nodes_utf8 c next (next + 1) p.0, nodes_utf8 t up (next + 1 + node_count c) p.1)

formed_utf8 : (rows : List FlatRow) → RowsHaveTexts rows → IfSome HaveTexts (flat_formed rows)
formed_utf8 rows u = step (flat_nodes rows) (λ n e. nodes_utf8 n 0 1 (subst RowsHaveTexts ((flat-is rows n).0 e) u))
  where
    step : (o : Option (Nodes Label)) → ((n : Nodes Label) → o ≡ Some n → HaveTexts n)
        → IfSome HaveTexts (option_and_then (λ n. cond (are_held true n) (Some n) None) o)
    step None h = tt
    step (Some n) h = when HaveTexts (are_held true n) (Some n) (h n refl)

-- the nodes that the rows of a list tell
pub flat_utf8 : (d : Data) → HasUtf8 d → IfSome HaveTexts (flat_in d)
flat_utf8 d u =
    then_keeps RowsHaveTexts HaveTexts flat_formed formed_utf8 (option_and_then rows_of (as_array d))
    (then_keeps ItemsHaveUtf8 RowsHaveTexts rows_of rows_utf8 (as_array d) (array_utf8 d u))
