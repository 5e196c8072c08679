-- Nodes numbered in document order.
use Rattle.std.proofs.Common.{◌≡◌, ℕ, ◌+◌, ◌<◌, ◌≤◌, List, [], ◌∷◌, ◌++◌, length, refl, sym, ◌∙◌, inl, inr, add-zero, arith}
use Rattle.std.proofs.lemmas.Bool.{cases_lt}
use Rattle.node_tree.proofs.KeyLemmas.{tally_cases}
use Rattle.node_tree.specs.Nodes.{Nodes, none, node, Branch, nodes_of, beside, node_count, map_rows}
use Rattle.node_tree.specs.Labels.{Label}
use Rattle.node_tree.specs.Keys.{tally}
use Rattle.node_tree.proofs.NodeLemmas.{nodes_of-append, beside-none, beside_assoc}
use Rattle.page_tree.specs.Forms.{CanLoad}
use Rattle.page_tree.specs.Pages.{PageRow, row_serial, row_label, numbered, loaded, document_label, times_in, IsValid}

pub map_rows-numbered : (first : ℕ) (n : Nodes Label) → map_rows row_label (numbered first n) ≡ n
map_rows-numbered first none = refl
map_rows-numbered first (node l c t) = rw (map_rows-numbered (first + 1) c, map_rows-numbered (first + 1 + node_count c) t)

-- The serials are from the first on, without a gap: none is below, none is above, and each is there once.
module _ (x : ℕ) where
  pub tally-numbered_below : (first : ℕ) (n : Nodes Label) → x < first → tally row_serial x (numbered first n) ≡ 0
  tally-numbered_below first none h = refl
  tally-numbered_below first (node l c t) h =
      let u = tally-numbered_below (first + 1) c (omega arith) in
      let v = tally-numbered_below (first + 1 + node_count c) t (omega arith) in
      elim (tally_cases row_serial x (record { serial = first; label = l }) (numbered (first + 1) c)
      (numbered (first + 1 + node_count c) t)) [ inl p ↦ omega arith | inr p ↦ omega arith ]

  pub tally-numbered_above : (first : ℕ) (n : Nodes Label) → first + node_count n ≤ x → tally row_serial x (numbered first n) ≡ 0
  tally-numbered_above first none h = refl
  tally-numbered_above first (node l c t) h =
      let u = tally-numbered_above (first + 1) c (omega arith) in
      let v = tally-numbered_above (first + 1 + node_count c) t (omega arith) in
      elim (tally_cases row_serial x (record { serial = first; label = l }) (numbered (first + 1) c)
      (numbered (first + 1 + node_count c) t)) [ inl p ↦ omega arith | inr p ↦ omega arith ]

  pub tally-numbered_once : (first : ℕ) (n : Nodes Label) → tally row_serial x (numbered first n) ≤ 1
  tally-numbered_once first none = omega arith
  tally-numbered_once first (node l c t) =
      let u = tally-numbered_once (first + 1) c in
      let v = tally-numbered_once (first + 1 + node_count c) t in
      elim (tally_cases row_serial x (record { serial = first; label = l }) (numbered (first + 1) c)
      (numbered (first + 1 + node_count c) t)) [
        | inl p ↦
            let a = tally-numbered_below (first + 1) c (omega arith) in
            let b = tally-numbered_below (first + 1 + node_count c) t (omega arith) in
            omega arith
        | inr p ↦ elim (cases_lt x (first + 1 + node_count c)) [
          | inl lt ↦ let b = tally-numbered_below (first + 1 + node_count c) t lt in omega arith
          | inr ge ↦ let a = tally-numbered_above (first + 1) c ge in omega arith
        ]
      ]

-- a loaded page is valid
pub loaded_valid : (first : ℕ) (n : Nodes Label) → 1 ≤ first → CanLoad n → IsValid (loaded first n)
loaded_valid first n least fit = record {
  root = refl;
  nodes = rw (map_rows-numbered (first + 1) n) fit;
  distinct = λ s. within s (tally-numbered_once s first (node document_label n none));
  least = λ s h. elim (cases_lt s first) [
    | inl lt ↦ absurd
        (let e = tally-numbered_below s first (node document_label n none) lt in omega (arith, whole s))
    | inr ge ↦ omega arith
  ];
  below_next = λ s h. elim (cases_lt s (first + 1 + node_count n)) [
    | inl lt ↦ lt
    | inr ge ↦ absurd
        (let e = tally-numbered_above s first (node document_label n none) (omega arith) in omega (arith, whole s))
  ];
}
  where
    whole : (s : ℕ) → times_in s (loaded first n).tree ≡ tally row_serial s (numbered first (node document_label n none))
    whole s = sym (add-zero _)

    within : (s : ℕ) → tally row_serial s (numbered first (node document_label n none)) ≤ 1 → times_in s (loaded first n).tree ≤ 1
    within s h = omega (arith, whole s)

-- ---- a numbering, form by form

-- the tree that a form becomes, with its children numbered
abbrev pub grown : ℕ → Label → Nodes PageRow → Branch PageRow
grown serial label children = record { row = record { serial = serial; label = label }; children = children }

pub number_turn : (done : List (Branch PageRow)) (label : Label) (below : Nodes Label) (children : Nodes PageRow) (later all : Nodes Label)
    (first next after : ℕ)
    → beside (nodes_of done) (numbered next (node label below later)) ≡ numbered first all
    → children ≡ numbered (next + 1) below
    → after ≡ next + 1 + node_count below
    → beside (nodes_of (done ++ grown next label children ∷ [])) (numbered after later) ≡ numbered first all
number_turn done label below children later all first next after so_far is_children is_after =
    rw (
      is_children,
      is_after,
      nodes_of-append done (grown next label (numbered (next + 1) below) ∷ []),
      beside_assoc (nodes_of done)
          (nodes_of (grown next label (numbered (next + 1) below) ∷ [])) (numbered (next + 1 + node_count below) later),
    ) so_far

pub number_end : (done : List (Branch PageRow)) (rest : List (Branch Label)) (all : Nodes Label) (first next : ℕ) → length rest ≡ 0
    → beside (nodes_of done) (numbered next (nodes_of rest)) ≡ numbered first all → nodes_of done ≡ numbered first all
number_end done [] all first next e so_far = sym (beside-none (nodes_of done)) ∙ so_far
number_end done (b ∷ bs) all first next e so_far = absurd (omega arith)

pub count_end : (rest : List (Branch Label)) (next total : ℕ) → length rest ≡ 0 → next + node_count (nodes_of rest) ≡ total → next ≡ total
count_end [] next total e p = omega arith
count_end (b ∷ bs) next total e p = absurd (omega arith)
