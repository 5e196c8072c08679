-- Flat rows and the nodes that they are of.
use Rattle.std.proofs.Common.{◌≡◌, ℕ, zero, suc, ◌+◌, ◌<◌, ◌≤◌, ◌==◌, ◌↔◌, Bool, true, false, cond, List, [], ◌∷◌, ◌++◌}
use Rattle.std.proofs.Common.{append_assoc, append-nil, Option, Some, None, option_map, refl, sym, ap, subst, ◌∙◌, arith}
use Rattle.std.proofs.lemmas.Bool.{eq-eqb, eqb-true, ne_eqb}
use Rattle.node_tree.specs.Nodes.{Nodes, none, node, Branch, alone, node_count, branch_count}
use Rattle.node_tree.specs.Labels.{Label}
use Rattle.page_tree.specs.Flat.{FlatRow, flat_rows, Pending, kids_of, others_of, under, gathered, top_trees, flat_nodes, FlatIs}

-- ---- the rows of pending trees

abbrev flat_all : ℕ → List Pending → List FlatRow
flat_all i [] = []
flat_all i (p ∷ ps) = flat_rows p.up i (alone p.tree) ++ flat_all (i + branch_count p.tree) ps

split_step : (i j : ℕ) (p : Pending) (ps : List Pending) (b : Bool) → (p.up == i) ≡ b
    → ((k : ℕ) → flat_all k ps ≡ flat_rows i k (kids_of i ps) ++ flat_all (k + node_count (kids_of i ps)) (others_of i ps))
    → flat_all j (p ∷ ps)
    ≡ flat_rows i j (cond b (node p.tree.row p.tree.children (kids_of i ps)) none)
    ++ flat_all (j + node_count (cond b (node p.tree.row p.tree.children (kids_of i ps)) none)) (cond b (others_of i ps) (p ∷ ps))
split_step i j p ps true is later =
    let c = p.tree.children in
    let kids = kids_of i ps in
    let k : ℕ = j + 1 + node_count p.tree.children in
    let same : p.up ≡ i = eqb-true p.up i is in
    let first : j + branch_count p.tree ≡ j + 1 + node_count p.tree.children = omega arith in
    let last : j + 1 + node_count p.tree.children + node_count (kids_of i ps)
    ≡ j + suc (node_count p.tree.children + node_count (kids_of i ps)) = omega arith in
    ap (λ u. flat_rows u j (alone p.tree) ++ flat_all (j + branch_count p.tree) ps) same
    ∙ ap (λ m. flat_rows i j (alone p.tree) ++ flat_all m ps) first
    ∙ ap (λ l. flat_rows i j (alone p.tree) ++ l) (later (j + 1 + node_count p.tree.children))
    ∙ ap (λ l. record { up = i; label = p.tree.row } ∷ (l ++ (flat_rows i (j + 1 + node_count p.tree.children) (kids_of i ps)
    ++ flat_all (j + 1 + node_count p.tree.children + node_count (kids_of i ps)) (others_of i ps))))
    (append-nil (flat_rows j (j + 1) p.tree.children))
    ∙ ap (λ l. record { up = i; label = p.tree.row } ∷ l)
    (sym (append_assoc (flat_rows j (j + 1) p.tree.children) (flat_rows i (j + 1 + node_count p.tree.children) (kids_of i ps))
    (flat_all (j + 1 + node_count p.tree.children + node_count (kids_of i ps)) (others_of i ps))))
    ∙ ap (λ m. flat_rows i j (node p.tree.row p.tree.children (kids_of i ps)) ++ flat_all m (others_of i ps)) last
split_step i j p ps false is later = ap (λ m. flat_all m (p ∷ ps)) (let e : j ≡ j + 0 = omega arith in e)

split : (i j : ℕ) (ps : List Pending)
    → flat_all j ps ≡ flat_rows i j (kids_of i ps) ++ flat_all (j + node_count (kids_of i ps)) (others_of i ps)
split i j [] = refl
split i j (p ∷ ps) = split_step i j p ps (p.up == i) refl (λ k. split i k ps)

gathered-rows : (i : ℕ) (rows : List FlatRow) → rows ≡ flat_all i (gathered i rows)
gathered-rows i [] = refl
gathered-rows i (r ∷ rs) =
    let ps : List Pending = gathered (i + 1) rs in
    let kids : Nodes Label = kids_of i (gathered (i + 1) rs) in
    let last : i + 1 + node_count (kids_of i (gathered (i + 1) rs))
    ≡ i + suc (node_count (kids_of i (gathered (i + 1) rs))) = omega arith in
    ap (λ l. r ∷ l)
    (gathered-rows (i + 1) rs
    ∙ split i (i + 1) (gathered (i + 1) rs)
    ∙ ap (λ m. flat_rows i (i + 1) (kids_of i (gathered (i + 1) rs)) ++ flat_all m (others_of i (gathered (i + 1) rs))) last
    ∙ ap (λ l. l ++ flat_all (i + suc (node_count (kids_of i (gathered (i + 1) rs)))) (others_of i (gathered (i + 1) rs)))
    (sym (append-nil (flat_rows i (i + 1) (kids_of i (gathered (i + 1) rs))))))

top_step : (j : ℕ) (p : Pending) (ps : List Pending) (n : Nodes Label) (b : Bool) (o : Option (Nodes Label)) → (p.up == 0) ≡ b
    → cond b (option_map (node p.tree.row p.tree.children) o) None ≡ Some n
    → ((k : ℕ) (m : Nodes Label) → o ≡ Some m → flat_all k ps ≡ flat_rows 0 k m)
    → flat_all j (p ∷ ps) ≡ flat_rows 0 j n
top_step j p ps n true None is e later = absurd (cc)
top_step j p ps n true (Some m) is e later =
    let same : node p.tree.row p.tree.children m ≡ n = cc in
    let first : j + branch_count p.tree ≡ j + 1 + node_count p.tree.children = omega arith in
    ap (λ u. flat_rows u j (alone p.tree) ++ flat_all (j + branch_count p.tree) ps) (eqb-true p.up 0 is)
    ∙ ap (λ k. flat_rows 0 j (alone p.tree) ++ flat_all k ps) first
    ∙ ap (λ l. flat_rows 0 j (alone p.tree) ++ l) (later (j + 1 + node_count p.tree.children) m refl)
    ∙ ap (λ l. record { up = 0; label = p.tree.row } ∷ (l ++ flat_rows 0 (j + 1 + node_count p.tree.children) m))
    (append-nil (flat_rows j (j + 1) p.tree.children))
    ∙ ap (flat_rows 0 j) same
top_step j p ps n false o is e later = absurd (cc)

top-rows : (j : ℕ) (ps : List Pending) (n : Nodes Label) → top_trees ps ≡ Some n → flat_all j ps ≡ flat_rows 0 j n
top-rows j [] n e = ap (flat_rows 0 j) (let same : none ≡ n = cc in same)
top-rows j (p ∷ ps) n e = top_step j p ps n (p.up == 0) (top_trees ps) refl e (λ k m f. top-rows k ps m f)

-- ---- the trees of written rows

abbrev pend : ℕ → Nodes Label → List Pending → List Pending
pend up none ps = ps
pend up (node l c t) ps = record { up = up; tree = record { row = l; children = c } } ∷ pend up t ps

-- the first of them stands below an earlier row
abbrev IsLow : ℕ → List Pending → Type 0
IsLow i [] = Unit {0}
IsLow i (p ∷ ps) = p.up < i

low-later : (i j : ℕ) (ps : List Pending) → i ≤ j → IsLow i ps → IsLow j ps
low-later i j [] h low = tt
low-later i j (p ∷ ps) h low = omega arith

low-pend : (i up : ℕ) (t : Nodes Label) (ps : List Pending) → up < i → IsLow i ps → IsLow i (pend up t ps)
low-pend i up none ps h low = low
low-pend i up (node l c t) ps h low = h

no_kids : (i : ℕ) (ps : List Pending) → IsLow i ps → kids_of i ps ≡ none
no_kids i [] low = refl
no_kids i (p ∷ ps) low = ap (λ b. cond b (node p.tree.row p.tree.children (kids_of i ps)) none) (ne_eqb p.up i (λ e. omega arith))

all_others : (i : ℕ) (ps : List Pending) → IsLow i ps → others_of i ps ≡ ps
all_others i [] low = refl
all_others i (p ∷ ps) low = ap (λ b. cond b (others_of i ps) (p ∷ ps)) (ne_eqb p.up i (λ e. omega arith))

kids-pend : (i : ℕ) (c : Nodes Label) (ps : List Pending) → IsLow i ps → kids_of i (pend i c ps) ≡ c
kids-pend i none ps low = no_kids i ps low
kids-pend i (node l c t) ps low = rw (eq-eqb i i refl) (ap (node l c) (kids-pend i t ps low))

others-pend : (i : ℕ) (c : Nodes Label) (ps : List Pending) → IsLow i ps → others_of i (pend i c ps) ≡ ps
others-pend i none ps low = all_others i ps low
others-pend i (node l c t) ps low = rw (eq-eqb i i refl) (others-pend i t ps low)

under-pend : (i : ℕ) (r : FlatRow) (c : Nodes Label) (ps qs : List Pending) → qs ≡ pend i c ps → IsLow i ps
    → under i r qs ≡ record { up = r.up; tree = record { row = r.label; children = c } } ∷ ps
under-pend i r c ps qs e low =
    let kids : kids_of i qs ≡ c = ap (kids_of i) e ∙ kids-pend i c ps low in
    let others : others_of i qs ≡ ps = ap (others_of i) e ∙ others-pend i c ps low in
    ap (λ k. record { up = r.up; tree = record { row = r.label; children = k } } ∷ others_of i qs) kids
    ∙ ap (λ l. record { up = r.up; tree = record { row = r.label; children = c } } ∷ l) others

gathered-flat : (up i : ℕ) (n : Nodes Label) (rest : List FlatRow) → up < i → IsLow i (gathered (i + node_count n) rest)
    → gathered i (flat_rows up i n ++ rest) ≡ pend up n (gathered (i + node_count n) rest)
gathered-flat up i none rest h low = ap (λ k. gathered k rest) (let e : i ≡ i + 0 = omega arith in e)
gathered-flat up i (node l c t) rest h low =
    let j : ℕ = i + 1 + node_count c in
    let last : i + 1 + node_count c + node_count t ≡ i + suc (node_count c + node_count t) = omega arith in
    let g : List Pending = gathered (i + suc (node_count c + node_count t)) rest in
    let low_rest : IsLow i (gathered (i + 1 + node_count c + node_count t) rest) = subst (λ k. IsLow i (gathered k rest)) (sym last) low in
    let others = gathered-flat up (i + 1 + node_count c) t rest (omega arith)
    (low-later i (i + 1 + node_count c) (gathered (i + 1 + node_count c + node_count t) rest) (omega arith) low_rest) in
    let others_low : IsLow i (gathered (i + 1 + node_count c) (flat_rows up (i + 1 + node_count c) t ++ rest)) =
    subst (λ ps. IsLow i ps) (sym others)
    (low-pend i up t (gathered (i + 1 + node_count c + node_count t) rest) h low_rest) in
    let below = gathered-flat i (i + 1) c (flat_rows up (i + 1 + node_count c) t ++ rest) (omega arith)
    (low-later i (i + 1) (gathered (i + 1 + node_count c) (flat_rows up (i + 1 + node_count c) t ++ rest)) (omega arith) others_low) in
    ap (λ rs. under i (record { up = up; label = l }) (gathered (i + 1) rs))
    (append_assoc (flat_rows i (i + 1) c) (flat_rows up (i + 1 + node_count c) t) rest)
    ∙ under-pend i (record { up = up; label = l }) c (gathered (i + 1 + node_count c) (flat_rows up (i + 1 + node_count c) t ++ rest))
    (gathered (i + 1) (flat_rows i (i + 1) c ++ (flat_rows up (i + 1 + node_count c) t ++ rest))) below others_low
    ∙ ap (λ ps. record { up = up; tree = record { row = l; children = c } } ∷ ps) others
    ∙ ap (λ k. record { up = up; tree = record { row = l; children = c } } ∷ pend up t (gathered k rest)) last

top-pend : (n : Nodes Label) → top_trees (pend 0 n []) ≡ Some n
top-pend none = refl
top-pend (node l c t) = ap (option_map (node l c)) (top-pend t)

-- ---- both ways

flat_read : (rows : List FlatRow) (n : Nodes Label) → flat_nodes rows ≡ Some n → rows ≡ flat_rows 0 1 n
flat_read rows n e = gathered-rows 1 rows ∙ top-rows 1 (gathered 1 rows) n e

flat_written : (rows : List FlatRow) (n : Nodes Label) → rows ≡ flat_rows 0 1 n → flat_nodes rows ≡ Some n
flat_written rows n e =
    ap flat_nodes (e ∙ sym (append-nil (flat_rows 0 1 n)))
    ∙ ap top_trees (gathered-flat 0 1 n [] (omega arith) tt)
    ∙ top-pend n

pub flat-is : FlatIs
flat-is rows n = (flat_read rows n, flat_written rows n)
