-- The events of a request stand in document order.
use Rattle.std.proofs.Common.{◌≡◌, ℕ, zero, suc, Bool, true, false, cond, not, ◌&&◌, List, [], ◌∷◌, ◌++◌, append-nil, Option, refl, sym, ap}
use Rattle.std.proofs.Common.{subst}
use Rattle.std.specs.List.{All}
use Rattle.std.proofs.lemmas.List.Elements.{All-cons, All-nil}
use Rattle.node_tree.specs.Nodes.{Nodes, none, node, Branch}
use Rattle.node_tree.specs.Levels.{most_told}
use Rattle.node_tree.specs.Labels.{holds}
use Rattle.page_tree.specs.Pages.{PageRow}
use Rattle.node_binding.specs.Openings.{less, is_spent, containers_within}
use Rattle.node_binding.specs.Deals.{capped, dealt, deal, more_told}
use Rattle.dom_agent.specs.Requests.{Opening, requested}
use Rattle.dom_agent.specs.Events.{container_serials, AreAmong, no_more, taken, left_out}
use Rattle.dom_agent.proofs.ShowsLemmas.{AreRequested}
use Rattle.dom_agent.proofs.EventLemmas.{nodes_of}

-- ---- some of a list

among-skip : (us xs ys : List ℕ) → AreAmong us ys → AreAmong us (xs ++ ys)
among-skip us [] ys a = a
among-skip us (x ∷ xs) ys a = left_out us x (xs ++ ys) (among-skip us xs ys a)

among-join : (xs ys us vs : List ℕ) → AreAmong xs ys → AreAmong us vs → AreAmong (xs ++ us) (ys ++ vs)
among-join _ _ us vs (no_more ys) b = among-skip us ys vs b
among-join _ _ us vs (taken x xs ys a) b = taken x (xs ++ us) (ys ++ vs) (among-join xs ys us vs a b)
among-join _ _ us vs (left_out xs y ys a) b = left_out (xs ++ us) y (ys ++ vs) (among-join xs ys us vs a b)

-- ---- openings

abbrev serials_of : List Opening → List ℕ
serials_of xs = container_serials (nodes_of xs)

serials-append : (xs ys : List Opening) → serials_of (xs ++ ys) ≡ serials_of xs ++ serials_of ys
serials-append [] ys = refl
serials-append (x ∷ xs) ys = ap (λ l. x.node.row.serial ∷ l) (serials-append xs ys)

among-if : (g : Bool) (xs : List Opening) (ys : List ℕ) → AreAmong (serials_of xs) ys → AreAmong (serials_of (cond g xs [])) (cond g ys [])
among-if true xs ys a = a
among-if false xs ys a = no_more []

-- those of a tree, and then those of the trees beside it
among-node : (xs ys : List Opening) (us vs : List ℕ) → AreAmong (serials_of xs) us → AreAmong (serials_of ys) vs
    → AreAmong (serials_of (xs ++ ys)) (us ++ vs)
among-node xs ys us vs a b = subst (λ l. AreAmong l (us ++ vs)) (sym (serials-append xs ys))
    (among-join (serials_of xs) us (serials_of ys) vs a b)

dealt-among : (left : ℕ) (d : Option ℕ) (n : Nodes PageRow) → AreAmong (serials_of (dealt more_told left d n)) (containers_within d n)
dealt-among left d none = no_more []
dealt-among zero d (node r c t) =
    let g : Bool = holds r.label.kind && not (is_spent d) in
    let x : Opening = record { levels = capped most_told d; node = record { row = r; children = c } } in
    among-node (cond g (x ∷ dealt more_told more_told (less d) c) []) (dealt more_told 0 d t)
    (cond g (r.serial ∷ containers_within (less d) c) []) (containers_within d t)
    (among-if g (x ∷ dealt more_told more_told (less d) c) (r.serial ∷ containers_within (less d) c)
    (taken r.serial (serials_of (dealt more_told more_told (less d) c)) (containers_within (less d) c) (dealt-among more_told (less d) c)))
    (dealt-among zero d t)
dealt-among (suc k) d (node r c t) =
    let g : Bool = holds r.label.kind && not (is_spent d) in
    among-node (cond g (dealt more_told k (less d) c) []) (dealt more_told (suc k) d t)
    (cond g (r.serial ∷ containers_within (less d) c) []) (containers_within d t)
    (among-if g (dealt more_told k (less d) c) (r.serial ∷ containers_within (less d) c)
    (left_out (serials_of (dealt more_told k (less d) c)) r.serial (containers_within (less d) c) (dealt-among k (less d) c)))
    (dealt-among (suc k) d t)

twice : (g : Bool) (ys : List Opening) → cond g (cond g ys [] ++ []) [] ≡ cond g ys []
twice true ys = append-nil ys
twice false ys = refl

-- a request tells containers in document order
pub requested-among : (o : ℕ → Bool) (d : Option ℕ) (n : Nodes PageRow) → AreAmong (serials_of (requested o d n)) (containers_within d n)
requested-among o d none = no_more []
requested-among o d (node r c t) =
    among-node (cond g (cond (o r.serial) (requested o (less d) c) (deal more_told d (record { row = r; children = c }))) [])
    (requested o d t) (cond g (r.serial ∷ containers_within (less d) c) []) (containers_within d t)
    (by_row (o r.serial) (requested-among o (less d) c))
    (requested-among o d t)
  where
    g : Bool
    g = holds r.label.kind && not (is_spent d)

    pieces : List Opening
    pieces = record { levels = capped most_told d; node = record { row = r; children = c } } ∷ dealt more_told more_told (less d) c

    by_row : (a : Bool) → AreAmong (serials_of (requested o (less d) c)) (containers_within (less d) c)
        → AreAmong (serials_of (cond g (cond a (requested o (less d) c) (deal more_told d (record { row = r; children = c }))) []))
        (cond g (r.serial ∷ containers_within (less d) c) [])
    by_row true h = among-if g (requested o (less d) c) (r.serial ∷ containers_within (less d) c)
        (left_out (serials_of (requested o (less d) c)) r.serial (containers_within (less d) c) h)
    by_row false h =
        subst (λ (l : List Opening). AreAmong (serials_of l) (cond g (r.serial ∷ containers_within (less d) c) [])) (sym (twice g pieces))
        (among-if g pieces (r.serial ∷ containers_within (less d) c)
        (taken r.serial (serials_of (dealt more_told more_told (less d) c)) (containers_within (less d) c)
        (dealt-among more_told (less d) c)))

-- and those that are not opened
pub requested-shut : (d : Option ℕ) (n : Nodes PageRow) (o : ℕ → Bool) (ys : List Opening) → AreRequested d n o ys
    → All (λ (y : Branch PageRow). o y.row.serial ≡ false) (nodes_of ys)
requested-shut d n o [] at = All-nil (λ (y : Branch PageRow). o y.row.serial ≡ false)
requested-shut d n o (y ∷ ys) at = All-cons (λ (y : Branch PageRow). o y.row.serial ≡ false) y.node (nodes_of ys) at.0.shut
    (requested-shut d n o ys at.1)
