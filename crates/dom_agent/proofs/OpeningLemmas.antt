-- What a request and a push open.
use Rattle.std.proofs.Common.{◌≡◌, ℕ, Bool, true, false, not, ◌&&◌, ◌||◌, ◌==◌, cond, List, [], ◌∷◌, ◌++◌, map}
use Rattle.std.proofs.Common.{reverse, append_assoc, append-nil, Option, Some, None, refl, sym, ap, ◌∙◌}
use Rattle.std.proofs.lemmas.List.{map-append, reverse-append, reverse-reverse}
use Rattle.std.specs.List.{filter}
use Rattle.node_tree.specs.Nodes.{Nodes, none, node, Branch, alone}
use Rattle.node_tree.specs.Keys.{has}
use Rattle.node_tree.specs.Labels.{holds}
use Rattle.page_tree.specs.Pages.{PageRow, row_serial}
use Rattle.node_binding.specs.Openings.{less, is_spent}
use Rattle.node_binding.specs.Deals.{deal, more_told}
use Rattle.dom_agent.specs.Requests.{Opening, requested, ancestors_down, pushing}

-- ---- requests

-- those of the first tree, and then those of the others
pub requested-node : (o : ℕ → Bool) (d : Option ℕ) (x : Branch PageRow) (t : Nodes PageRow)
    → requested o d (node x.row x.children t) ≡ requested o d (alone x) ++ requested o d t
requested-node o d x t = ap (λ l. l ++ requested o d t) (sym (append-nil _))

pub request_turn : (o : ℕ → Bool) (d : Option ℕ) (x : Branch PageRow) (n rest : Nodes PageRow) (before after all : List Opening)
    → n ≡ node x.row x.children rest → after ≡ before ++ requested o d (alone x) → before ++ requested o d n ≡ all
    → after ++ requested o d rest ≡ all
request_turn o d x n rest before after all split this was =
    ap (λ l. l ++ requested o d rest) this
    ∙ append_assoc before (requested o d (alone x)) (requested o d rest)
    ∙ ap (λ l. before ++ l) (sym (requested-node o d x rest))
    ∙ ap (λ m. before ++ requested o d m) (sym split)
    ∙ was

pub request_end : (o : ℕ → Bool) (d : Option ℕ) (left : Nodes PageRow) (before all : List Opening) → left ≡ none
    → before ++ requested o d left ≡ all → before ≡ all
request_end o d left before all ended was =
    sym (append-nil before) ∙ ap (λ m. before ++ requested o d m) (sym ended) ∙ was

-- a container that is reached and not opened, by its deal
pub request_dealt : (o : ℕ → Bool) (d : Option ℕ) (x : Branch PageRow) (reached : Bool) (old new : List Opening)
    → reached ≡ (holds x.row.label.kind && not (is_spent d)) → reached ≡ true → o x.row.serial ≡ false → new ≡ old ++ deal more_told d x
    → new ≡ old ++ requested o d (alone x)
request_dealt o d x reached old new is on shut dealt =
    dealt
    ∙ ap (λ l. old ++ l)
    (sym (append-nil (cond (holds x.row.label.kind && not (is_spent d))
    (cond (o x.row.serial) (requested o (less d) x.children) (deal more_told d x)) [])
    ∙ ap (λ g. cond g (cond (o x.row.serial) (requested o (less d) x.children) (deal more_told d x)) []) (sym is ∙ on)
    ∙ ap (λ b. cond b (requested o (less d) x.children) (deal more_told d x)) shut))

-- ---- ancestors

pub no_or : (a b c : Bool) → (a || b || c) ≡ false → b ≡ false
no_or true b c h = cc
no_or false true c h = cc
no_or false false c h = refl

no_or_last : (a b c : Bool) → (a || b || c) ≡ false → c ≡ false
no_or_last true b c h = cc
no_or_last false true c h = cc
no_or_last false false c h = h

-- a node that is not there has no ancestors there
pub ancestors-absent : (s : ℕ) (n : Nodes PageRow) → has row_serial s n ≡ false → ancestors_down s n ≡ []
ancestors-absent s none h = refl
ancestors-absent s (node r c t) h =
    ap (λ b. cond b (record { row = r; children = c } ∷ ancestors_down s c) (ancestors_down s t))
    (no_or (row_serial r == s) (has row_serial s c) (has row_serial s t) h)
    ∙ ancestors-absent s t (no_or_last (row_serial r == s) (has row_serial s c) (has row_serial s t) h)

-- those of the nodes that are not opened, by one level each
abbrev pub opened_by_push : (ℕ → Bool) → List (Branch PageRow) → List Opening
opened_by_push o xs = map (λ x. record { levels = Some 1; node = x }) (filter (λ (x : Branch PageRow). not (o x.row.serial)) xs)

module _ (o : ℕ → Bool) (s : ℕ) where
  pub pushing-absent : (n : Nodes PageRow) → has row_serial s n ≡ false → pushing o s n ≡ []
  pushing-absent n h = ap (opened_by_push o) (ancestors-absent s n h)

-- ---- from the top down

map-reverse : {A B : Type 0} (f : A → B) (xs : List A) → map f (reverse xs) ≡ reverse (map f xs)
map-reverse f [] = refl
map-reverse f (x ∷ xs) =
    ap (map f) (reverse-append (x ∷ []) xs)
    ∙ map-append f (reverse xs) (x ∷ [])
    ∙ ap (λ l. l ++ f x ∷ []) (map-reverse f xs)
    ∙ sym (reverse-append (f x ∷ []) (map f xs))

pub climbed_all : {A B : Type 0} (f : A → B) (climbed turned : List A) (all : List B) → map f climbed ≡ reverse all
    → turned ≡ reverse climbed → map f turned ≡ all
climbed_all f climbed turned all is turned_is =
    ap (map f) turned_is ∙ map-reverse f climbed ∙ ap reverse is ∙ reverse-reverse all

pub listed : {A : Type 0} (there : Bool) (found all : List A) → there ≡ true → found ≡ all → Some found ≡ cond there (Some all) None
listed there found all h is = ap Some is ∙ ap (λ b. cond b (Some all) None) (sym h)
