-- The lines of a page, written piece by piece.
use Rattle.std.proofs.Common.{◌≡◌, ℕ, zero, suc, ◌+◌, ◌<◌, List, [], ◌∷◌, ◌++◌, Some, refl, sym, ◌∙◌, ap, append_assoc, append-nil, add-one}
use Rattle.node_tree.specs.Nodes.{Nodes, none, node, Branch, alone, from, width, tree_at}
use Rattle.page_tree.specs.Pages.{PageRow}
use Rattle.page_tree.proofs.CursorLemmas.{from-next}
use Rattle.front_mirror.specs.Outline.{indent, lines_at}
use Rattle.inspect_world.specs.Scripts.{page_line}

spaces-suc : (n : ℕ) → indent n ++ 32 ∷ 32 ∷ [] ≡ 32 ∷ 32 ∷ indent n
spaces-suc zero = refl
spaces-suc (suc n) = ap (λ (spaces : List ℕ). 32 ∷ 32 ∷ spaces) (spaces-suc n)

-- two spaces more are one level more
pub spaces_more : (out : List ℕ) (n : ℕ) → (out ++ indent n) ++ 32 ∷ 32 ∷ [] ≡ out ++ indent (n + 1)
spaces_more out n = rw (append_assoc, spaces-suc n, add-one) refl

-- the lines of a tree, and then of those beside it
lines-node : (level : ℕ) (x : Branch PageRow) (rest : Nodes PageRow)
    → lines_at page_line level (node x.row x.children rest) ≡ lines_at page_line level (alone x) ++ lines_at page_line level rest
lines-node level x rest =
    let tree = ((indent level ++ page_line x.row) ++ 10 ∷ []) ++ lines_at page_line (suc level) x.children in
    ap (λ ls. ls ++ lines_at page_line level rest) (sym (append-nil tree))

-- one child more is written
pub lines_turn : (level : ℕ) (n : Nodes PageRow) (i : ℕ) (x : Branch PageRow) (out out1 all : List ℕ) → i < width n → tree_at i n ≡ Some x
    → out1 ≡ out ++ lines_at page_line level (alone x)
    → out ++ lines_at page_line level (from i n) ≡ all → out1 ++ lines_at page_line level (from (i + 1) n) ≡ all
lines_turn level n i x out out1 all inside at wrote was =
    let rest = lines_at page_line level (from (i + 1) n) in
    ap (λ bytes. bytes ++ rest) wrote
    ∙ append_assoc out (lines_at page_line level (alone x)) rest
    ∙ ap (λ ls. out ++ ls) (sym (lines-node level x (from (i + 1) n)))
    ∙ ap (λ m. out ++ lines_at page_line level m) (sym (from-next n i x inside at))
    ∙ was

-- no child is left
pub lines_end : (level : ℕ) (left : Nodes PageRow) (out all : List ℕ) → left ≡ none → out ++ lines_at page_line level left ≡ all → out ≡ all
lines_end level left out all ended was = sym (append-nil out) ∙ ap (λ m. out ++ lines_at page_line level m) (sym ended) ∙ was

-- the pieces of a tree's lines
pub lines_of_one : (level : ℕ) (x : Branch PageRow) (out out1 out2 out3 out4 : List ℕ)
    → out1 ≡ out ++ indent level → out2 ≡ out1 ++ page_line x.row → out3 ≡ out2 ++ 10 ∷ []
    → out4 ≡ out3 ++ lines_at page_line (level + 1) x.children
    → out4 ≡ out ++ lines_at page_line level (alone x)
lines_of_one level x out out1 out2 out3 out4 a b c d =
    let line = page_line x.row in
    let more = lines_at page_line (level + 1) x.children in
    let head = (indent level ++ line) ++ 10 ∷ [] in
    d ∙ ap (λ t. t ++ more) (c ∙ ap (λ t. t ++ 10 ∷ []) (b ∙ ap (λ t. t ++ line) a))
    ∙ ap (λ t. t ++ more) (ap (λ t. t ++ 10 ∷ []) (append_assoc out (indent level) line) ∙ append_assoc out (indent level ++ line)
    (10 ∷ []))
    ∙ append_assoc out head more
    ∙ ap (λ l. out ++ (head ++ lines_at page_line l x.children)) (add-one level)
    ∙ ap (λ ls. out ++ ls) (sym (append-nil (head ++ lines_at page_line (suc level) x.children)))
