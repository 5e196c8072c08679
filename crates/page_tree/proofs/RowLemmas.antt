-- Rows taken from the last to the first.
use Rattle.std.proofs.Common.{◌≡◌, ℕ, zero, suc, ◌+◌, ◌<◌, ◌==◌, Bool, true, false, cond, List, [], ◌∷◌, ◌++◌, map, length}
use Rattle.std.proofs.Common.{Option, Some, None, option_map, refl, sym, ap, ◌∙◌, arith}
use Rattle.std.proofs.lemmas.Bool.{eq-eqb}
use Rattle.std.proofs.lemmas.List.{map-append, length-append, length-map}
use Rattle.node_tree.specs.Nodes.{Nodes, none, node, Branch, nodes_of, beside}
use Rattle.node_tree.specs.Labels.{Label}
use Rattle.node_tree.proofs.NodeLemmas.{beside_assoc, beside-none, nodes_of-append}
use Rattle.page_tree.specs.Flat.{FlatRow, Pending, kids_of, others_of, under, gathered, top_trees, flat_nodes}
use Rattle.page_tree.specs.FlatRows.{row_of, is_none_left, is_next, Takes}
use Rattle.page_tree.specs.declared.flat_rows.Row as held

-- rows that are put on the trees of those behind them
abbrev pub onto : ℕ → List FlatRow → List Pending → List Pending
onto i [] ps = ps
onto i (r ∷ rs) ps = under i r (onto (i + 1) rs ps)

pub gathered-onto : (i : ℕ) (rows : List FlatRow) → gathered i rows ≡ onto i rows []
gathered-onto i [] = refl
gathered-onto i (r ∷ rs) = ap (under i r) (gathered-onto (i + 1) rs)

pub onto-last : (i : ℕ) (rows : List FlatRow) (x : FlatRow) (ps : List Pending)
    → onto i (rows ++ x ∷ []) ps ≡ onto i rows (under (length rows + i) x ps)
onto-last i [] x ps = ap (λ k. under k x ps) (let e : i ≡ 0 + i = omega arith in e)
onto-last i (r ∷ rs) x ps = ap (under i r) (onto-last (i + 1) rs x ps ∙ ap (λ k. onto (i + 1) rs (under k x ps))
    (let e : length rs + (i + 1) ≡ suc (length rs) + i = omega arith in e))

-- ---- children, one after another

pub kid-next : (i : ℕ) (b : Branch Label) (ps qs : List Pending) → ps ≡ record { up = i; tree = b } ∷ qs
    → (kids_of i ps ≡ node b.row b.children (kids_of i qs)) × (others_of i ps ≡ others_of i qs)
kid-next i b ps qs e = (
  ap (kids_of i) e ∙ ap (λ t. cond t (node b.row b.children (kids_of i qs)) none) (eq-eqb i i refl),
  ap (others_of i) e ∙ ap (λ t. cond t (others_of i qs) (record { up = i; tree = b } ∷ qs)) (eq-eqb i i refl),
)

pub kid-none : (i : ℕ) (ps : List Pending) → is_next i ps ≡ false → (kids_of i ps ≡ none) × (others_of i ps ≡ ps)
kid-none i [] e = (refl, refl)
kid-none i (p ∷ ps) e = (
  ap (λ t. cond t (node p.tree.row p.tree.children (kids_of i ps)) none) e,
  ap (λ t. cond t (others_of i ps) (p ∷ ps)) e,
)

-- ---- the tops

tops_step : (p : Pending) (ps : List Pending) (b : Bool) (e : Bool) (o : Option (Nodes Label))
    → o ≡ cond e (Some (kids_of 0 ps)) None → e ≡ is_none_left (others_of 0 ps)
    → cond b (option_map (node p.tree.row p.tree.children) o) None
    ≡ cond (is_none_left (cond b (others_of 0 ps) (p ∷ ps))) (Some (cond b (node p.tree.row p.tree.children (kids_of 0 ps)) none)) None
tops_step p ps true true o f g = ap (option_map (node p.tree.row p.tree.children)) f
    ∙ ap (λ b. cond b (Some (node p.tree.row p.tree.children (kids_of 0 ps))) None) g
tops_step p ps true false o f g = ap (option_map (node p.tree.row p.tree.children)) f
    ∙ ap (λ b. cond b (Some (node p.tree.row p.tree.children (kids_of 0 ps))) None) g
tops_step p ps false e o f g = refl

pub tops-are : (ps : List Pending) → top_trees ps ≡ cond (is_none_left (others_of 0 ps)) (Some (kids_of 0 ps)) None
tops-are [] = refl
tops-are (p ∷ ps) = tops_step p ps (p.up == 0) (is_none_left (others_of 0 ps)) (top_trees ps) (tops-are ps) refl

pub tops-some : (ps : List Pending) (trees : Nodes Label) (left : List Pending) → trees ≡ kids_of 0 ps → left ≡ others_of 0 ps
    → is_none_left left ≡ true → Some trees ≡ top_trees ps
tops-some ps trees left e f g =
    ap (λ t. Some t) e ∙ sym (tops-are ps ∙ ap (λ b. cond b (Some (kids_of 0 ps)) None) (ap is_none_left (sym f) ∙ g))

pub tops-none : (ps : List Pending) (left : List Pending) → left ≡ others_of 0 ps → is_none_left left ≡ false → None ≡ top_trees ps
tops-none ps left f g = sym (tops-are ps ∙ ap (λ b. cond b (Some (kids_of 0 ps)) None) (ap is_none_left (sym f) ∙ g))

pub kid-pushed : (i : ℕ) (old new : List (Branch Label)) (b : Branch Label) (ps qs : List Pending) (all : Nodes Label)
    → new ≡ old ++ b ∷ [] → ps ≡ record { up = i; tree = b } ∷ qs → beside (nodes_of old) (kids_of i ps) ≡ all
    → beside (nodes_of new) (kids_of i qs) ≡ all
kid-pushed i old new b ps qs all e f was =
    ap (λ l. beside (nodes_of l) (kids_of i qs)) e
    ∙ ap (λ t. beside t (kids_of i qs)) (nodes_of-append old (b ∷ []))
    ∙ beside_assoc (nodes_of old) (node b.row b.children none) (kids_of i qs)
    ∙ ap (beside (nodes_of old)) (sym (kid-next i b ps qs f).0)
    ∙ was

pub kids-ended : (i : ℕ) (kids : Nodes Label) (ps : List Pending) (all : Nodes Label) → is_next i ps ≡ false
    → beside kids (kids_of i ps) ≡ all → kids ≡ all
kids-ended i kids ps all e was = sym (beside-none kids) ∙ ap (beside kids) (sym (kid-none i ps e).0) ∙ was

-- ---- one row after another

pub nest-turn : (rows rest : List held.Row) (x : held.Row) (ps qs all : List Pending) (k : ℕ) → rows ≡ rest ++ x ∷ []
    → qs ≡ under (k + 1) (row_of x) ps → k ≡ length rest → onto 1 (map row_of rows) ps ≡ all → onto 1 (map row_of rest) qs ≡ all
nest-turn rows rest x ps qs all k e f g was =
    let h = length-map rest row_of in
    ap (onto 1 (map row_of rest)) (f ∙ ap (λ j. under j (row_of x) ps) (let i : k + 1 ≡ length (map row_of rest) + 1 = omega arith in i))
    ∙ sym (onto-last 1 (map row_of rest) (row_of x) ps)
    ∙ ap (λ l. onto 1 l ps) (sym (ap (map row_of) e ∙ map-append row_of rest (x ∷ [])))
    ∙ was

pub nest-end : (rows all : List held.Row) (ps : List Pending) → rows ≡ [] → onto 1 (map row_of rows) ps ≡ onto 1 (map row_of all) []
    → ps ≡ gathered 1 (map row_of all)
nest-end rows all ps e was = sym (ap (λ l. onto 1 (map row_of l) ps) e) ∙ was ∙ sym (gathered-onto 1 (map row_of all))

pub none_long : {A : Type 0} (xs : List A) → length xs ≡ 0 → xs ≡ []
none_long [] e = refl
none_long (x ∷ xs) e = absurd (omega arith)
