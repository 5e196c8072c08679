-- What the rows of a list spell, row by row, and that it may be loaded where it has no fault.
use Rattle.std.proofs.Common.{◌≡◌, ℕ, zero, suc, ◌+◌, ◌<◌, ◌≤◌, ◌==◌, Bool, true, false, not, ◌&&◌, ◌||◌, cond, min, List, [], ◌∷◌, ◌++◌}
use Rattle.std.proofs.Common.{length, get_or, drop, add-one, append_assoc, append-nil, codes, Option, Some, None, option_map, refl, sym, ap}
use Rattle.std.proofs.Common.{◌∙◌, arith}
use Rattle.std.specs.Option.{option_map_or, option_and_then}
use Rattle.std.proofs.Math.Seq.{drop-cons}
use Rattle.std.proofs.lemmas.List.{drop_all}
use Rattle.std.proofs.lemmas.Bool.{leb-true, lt-leb, and_parts}
use Rattle.serde_json.specs.Data.{Data, Items, no_items, item}
use Rattle.serde_json.specs.Find.{get, as_array}
use Rattle.serde_json.specs.View.{view, items_view}
use Rattle.serde_json.specs.declared.value.Value.{Value}
use Rattle.node_tree.specs.Nodes.{Nodes, none, node, height, node_count, is_no_node}
use Rattle.node_tree.specs.Labels.{Pair, Label, is_formed_label, is_ascending, holds}
use Rattle.node_tree.specs.Levels.{max_level, most_levels}
use Rattle.node_tree.specs.Keys.{first_of, first_true}
use Rattle.node_tree.specs.declared.Kind.TheVariants.{Element, Text, Comment, Doctype}
use Rattle.node_tree.proofs.PairLemmas.{both}
use Rattle.page_tree.specs.Forms.{may_stand, are_formed, CanLoad}
use Rattle.page_tree.specs.Loads.{attributes_at, attributes_spelled, labelled, first_load_fault, limit_faults}
use Rattle.page_tree.specs.Flat.{FlatRow, flat_rows, flat_nodes, are_held, flat_formed}
use Rattle.page_tree.specs.FlatRows.{row_label, row_name, text_beside, element_row, row_with, up_at, row_spelled, row_before, rows_of}
use Rattle.page_tree.specs.FlatRows.{flat_in}
use Rattle.page_tree.specs.declared.faults.LoadFault.TheVariants.{BadForm, TooDeep}
use Rattle.page_tree.proofs.FlatLemmas.{flat-is}
use Rattle.page_tree.proofs.FormedLemmas.{attributes_ascending_at, all_clear}

-- ---- a list of rows, row by row

rows_step : (done : List FlatRow) (r : FlatRow) (rest all : Option (List FlatRow))
    → option_map (λ rs. done ++ rs) (row_before (Some r) rest) ≡ all → option_map (λ rs. (done ++ r ∷ []) ++ rs) rest ≡ all
rows_step done r None all e = e
rows_step done r (Some rs) all e = ap Some (append_assoc done (r ∷ []) rs) ∙ e

rows-drop : (vs : List Value) (i : ℕ) (v : Value) → i < length vs → v ≡ get_or vs i v
    → rows_of (items_view (drop i vs)) ≡ row_before (row_spelled (view v)) (rows_of (items_view (drop (i + 1) vs)))
rows-drop vs i v h e = rw (add-one, drop-cons vs i v)
    (ap (λ (u : Value). row_before (row_spelled (view u)) (rows_of (items_view (drop (suc i) vs)))) (sym e))

-- one row more is read
pub rows-turn : (vs : List Value) (i : ℕ) (v : Value) (done : List FlatRow) (r : FlatRow) (all : Option (List FlatRow)) → i < length vs
    → v ≡ get_or vs i v → Some r ≡ row_spelled (view v) → option_map (λ rs. done ++ rs) (rows_of (items_view (drop i vs))) ≡ all
    → option_map (λ rs. (done ++ r ∷ []) ++ rs) (rows_of (items_view (drop (i + 1) vs))) ≡ all
rows-turn vs i v done r all h e is so_far = rows_step done r _ all (rw (rows-drop vs i v h e, ← is) at so_far)

-- ---- labels have their form

abbrev labels_formed : Nodes Label → Bool
labels_formed none = true
labels_formed (node l c t) = is_formed_label l && labels_formed c && labels_formed t

abbrev rows_formed : List FlatRow → Bool
rows_formed [] = true
rows_formed (r ∷ rs) = is_formed_label r.label && rows_formed rs

element_formed : (name : Option (List ℕ)) (ps : Option (List Pair)) (l : Label)
    → ((qs : List Pair) → ps ≡ Some qs → is_ascending qs ≡ true)
    → option_and_then (λ n. option_map (labelled Element n []) ps) name ≡ Some l → is_formed_label l ≡ true
element_formed None ps l h e = absurd cc
element_formed (Some n) None l h e = absurd cc
element_formed (Some n) (Some ps) l h e =
    let same : labelled Element n [] ps ≡ l = cc in sym (ap is_formed_label same) ∙ both _ _ (both _ _ (h ps refl) refl) refl

label_formed : (e : Option Label) (t k n : Option (List ℕ)) (l : Label) → ((m : Label) → e ≡ Some m → is_formed_label m ≡ true)
    → first_of e (first_of (option_map (λ text. labelled Text [] text []) t)
    (first_of (option_map (λ text. labelled Comment [] text []) k) (option_map (λ name. labelled Doctype name [] []) n))) ≡ Some l
    → is_formed_label l ≡ true
label_formed (Some m) t k n l h e = h l e
label_formed None (Some x) k n l h e = let same : labelled Text [] x [] ≡ l = cc in sym (ap is_formed_label same)
label_formed None None (Some x) n l h e = let same : labelled Comment [] x [] ≡ l = cc in sym (ap is_formed_label same)
label_formed None None None (Some x) l h e = let same : labelled Doctype x [] [] ≡ l = cc in sym (ap is_formed_label same)
label_formed None None None None l h e = absurd cc

row_formed : (d : Data) (l : Label) → row_label d ≡ Some l → is_formed_label l ≡ true
row_formed d l e =
    label_formed (element_row d) (text_beside (codes "t") d) (text_beside (codes "k") d) (text_beside (codes "d") d) l
    (λ m f. element_formed (row_name d) (attributes_at d) m (attributes_ascending_at (get (codes "a") d)) f) e

rows_formed_step : (up : Option ℕ) (l : Option Label) (rest : Option (List FlatRow)) (rs : List FlatRow)
    → ((m : Label) → l ≡ Some m → is_formed_label m ≡ true) → ((qs : List FlatRow) → rest ≡ Some qs → rows_formed qs ≡ true)
    → row_before (row_with up l) rest ≡ Some rs → rows_formed rs ≡ true
rows_formed_step None l rest rs h k e = absurd cc
rows_formed_step (Some up) None rest rs h k e = absurd cc
rows_formed_step (Some up) (Some l) None rs h k e = absurd cc
rows_formed_step (Some up) (Some l) (Some qs) rs h k e =
    let same : ◌≡◌ {A = List FlatRow} (record { up = up; label = l } ∷ qs) rs = cc in
    sym (ap rows_formed same) ∙ both (is_formed_label l) (rows_formed qs) (h l refl) (k qs refl)

rows_of-formed : (ds : Items) (rs : List FlatRow) → rows_of ds ≡ Some rs → rows_formed rs ≡ true
rows_of-formed no_items rs e = let same : [] ≡ rs = cc in sym (ap rows_formed same)
rows_of-formed (item d ds) rs e = rows_formed_step (up_at d) (row_label d) (rows_of ds) rs (row_formed d) (rows_of-formed ds) e

formed-append : (a b : List FlatRow) → rows_formed (a ++ b) ≡ true → (rows_formed a ≡ true) × (rows_formed b ≡ true)
formed-append [] b e = (refl, e)
formed-append (r ∷ rs) b e =
    let parts = and_parts (is_formed_label r.label) (rows_formed (rs ++ b)) e in
    let p = formed-append rs b parts.1 in (both (is_formed_label r.label) (rows_formed rs) parts.0 p.0, p.1)

flat-formed : (n : Nodes Label) (up next : ℕ) → rows_formed (flat_rows up next n) ≡ true → labels_formed n ≡ true
flat-formed none up next e = refl
flat-formed (node l c t) up next e =
    let below : List FlatRow = flat_rows next (next + 1) c in
    let rest : List FlatRow = flat_rows up (next + 1 + node_count c) t in
    let parts = and_parts (is_formed_label l) (rows_formed (below ++ rest)) e in
    let p = formed-append below rest parts.1 in
    both (is_formed_label l && labels_formed c) (labels_formed t)
    (both (is_formed_label l) (labels_formed c) parts.0 (flat-formed c next (next + 1) p.0))
    (flat-formed t up (next + 1 + node_count c) p.1)

held-formed : (n : Nodes Label) (top : Bool) → labels_formed n ≡ true → are_held top n ≡ true → are_formed top n ≡ true
held-formed none top f h = refl
held-formed (node l c t) top f h =
    let named = and_parts (is_formed_label l && labels_formed c) (labels_formed t) f in
    let named_c = and_parts (is_formed_label l) (labels_formed c) named.0 in
    let held = and_parts (may_stand top l.kind && (holds l.kind || is_no_node c) && are_held false c) (are_held top t) h in
    let held_c = and_parts (may_stand top l.kind && (holds l.kind || is_no_node c)) (are_held false c) held.0 in
    let here = and_parts (may_stand top l.kind) (holds l.kind || is_no_node c) held_c.0 in
    both (is_formed_label l && may_stand top l.kind && (holds l.kind || is_no_node c) && are_formed false c) (are_formed top t)
    (both (is_formed_label l && may_stand top l.kind && (holds l.kind || is_no_node c)) (are_formed false c)
    (both (is_formed_label l && may_stand top l.kind) (holds l.kind || is_no_node c)
    (both (is_formed_label l) (may_stand top l.kind) named_c.0 here.0) here.1)
    (held-formed c false named_c.1 held_c.1))
    (held-formed t top named.1 held.1)

-- ---- the whole

formed_parts : (o : Option (Nodes Label)) (n : Nodes Label) → option_and_then (λ m. cond (are_held true m) (Some m) None) o ≡ Some n
    → (o ≡ Some n) × (are_held true n ≡ true)
formed_parts None n e = absurd cc
formed_parts (Some m) n e = step (are_held true m) refl e
  where
    step : (b : Bool) → are_held true m ≡ b → cond b (Some m) None ≡ Some n → (Some m ≡ Some n) × (are_held true n ≡ true)
    step true is f = let same : m ≡ n = cc in (f, sym (ap (are_held true) same) ∙ is)
    step false is f = absurd cc

flat_formed-formed : (rows : List FlatRow) (n : Nodes Label) → rows_formed rows ≡ true → flat_formed rows ≡ Some n
    → are_formed true n ≡ true
flat_formed-formed rows n f e =
    let p = formed_parts (flat_nodes rows) n e in
    held-formed n true (flat-formed n 0 1 (sym (ap rows_formed ((flat-is rows n).0 p.0)) ∙ f)) p.1

flat_in-formed : (o : Option Items) (n : Nodes Label) → option_and_then flat_formed (option_and_then rows_of o) ≡ Some n
    → are_formed true n ≡ true
flat_in-formed None n e = absurd cc
flat_in-formed (Some ds) n e = step (rows_of ds) (rows_of-formed ds) e
  where
    step : (o : Option (List FlatRow)) → ((rs : List FlatRow) → o ≡ Some rs → rows_formed rs ≡ true)
        → option_and_then flat_formed o ≡ Some n → are_formed true n ≡ true
    step None h f = absurd cc
    step (Some rs) h f = flat_formed-formed rs n (h rs refl) f

-- rows without a fault may be loaded
pub can_load_flat : (d : Data) (n : Nodes Label) → flat_in d ≡ Some n → first_true (limit_faults n) ≡ None → CanLoad n
can_load_flat d n e clear =
    let tests = all_clear _ _ _ clear in
    record { formed = flat_in-formed (as_array d) n e; named = tests.2; levels = leb-true _ _ tests.0; room = leb-true _ _ tests.1 }

-- they are those of the rows
pub flat-some : (o : Option (Nodes Label)) (k : ℕ)
    → Some k ≡ option_map (λ n. min (height n) most_levels) (option_and_then (λ m. cond (are_held true m) (Some m) None) o)
    → option_and_then (λ m. cond (are_held true m) (Some m) None) o ≡ o
flat-some None k e = refl
flat-some (Some n) k e = step (are_held true n) refl e
  where
    step : (b : Bool) → are_held true n ≡ b → Some k ≡ option_map (λ n. min (height n) most_levels) (cond b (Some n) None)
        → cond b (Some n) None ≡ Some n
    step true is f = refl
    step false is f = absurd cc
