-- Paths of nodes: an index and a node name for each level, from the document's children down.
use Rattle.std.specs.Prelude.{ℕ, ◌+◌, ◌*◌, ◌-◌, ◌==◌, Bool, true, false, not, ◌&&◌, nat_le, cond, List, [], ◌∷◌, length, Option, Some, None}
use Rattle.std.specs.Prelude.{option_map, option_and_then, bytes_eq}
use Rattle.std.specs.List.{list_all, onto_first}
use Rattle.node_tree.specs.Nodes.{Nodes, Branch, tree_at}
use Rattle.page_tree.specs.Pages.{PageRow}
use Rattle.dom_objects.specs.NodeObject.{node_name}

-- the stretches between commas
abbrev pub parts_of : List ℕ → List (List ℕ)
parts_of [] = [] ∷ []
parts_of (b ∷ bs) = cond (b == 44) ([] ∷ parts_of bs) (onto_first b (parts_of bs))

-- the stretches after a comma, where there is one
abbrev pub parts_after_comma : Option (List ℕ) → List (List ℕ)
parts_after_comma None = []
parts_after_comma (Some text) = parts_of text

-- the byte is a decimal digit
abbrev pub is_digit : ℕ → Bool
is_digit b = nat_le 48 b && nat_le b 57

-- the number that digits spell, after those that spell n
abbrev pub number_from : ℕ → List ℕ → ℕ
number_from n [] = n
number_from n (b ∷ bs) = number_from (n * 10 + (b - 48)) bs

-- the number that digits spell
abbrev pub number_in : List ℕ → ℕ
number_in digits = number_from 0 digits

-- no digit, or a zero before others
abbrev pub leads_badly : List ℕ → Bool
leads_badly [] = true
leads_badly (b ∷ []) = false
leads_badly (b ∷ c ∷ bs) = b == 48

-- 1 to 9 decimal digits without a leading zero
abbrev pub is_index : List ℕ → Bool
is_index text = list_all is_digit text && not (leads_badly text) && nat_le (length text) 9

-- a child's index, counted from 0, and its name
pub record PathStep : Type 0 where
  pub index : ℕ
  pub name : List ℕ

-- the step of an index and a name; None where the index does not have its form
abbrev pub step_of : List ℕ → List ℕ → Option PathStep
step_of index name = cond (is_index index) (Some (record { index = number_in index; name = name })) None

-- a step before the others, where all are there
abbrev pub onto : Option PathStep → Option (List PathStep) → Option (List PathStep)
onto None steps = None
onto (Some s) steps = option_map (λ ss. s ∷ ss) steps

-- indices and names in turn, at least one of each
abbrev pub steps_of : List (List ℕ) → Option (List PathStep)
steps_of [] = None
steps_of (index ∷ []) = None
steps_of (index ∷ name ∷ []) = option_map (λ s. s ∷ []) (step_of index name)
steps_of (index ∷ name ∷ next ∷ more) = onto (step_of index name) (steps_of (next ∷ more))

-- the child that a step leads to
abbrev pub child_by : PathStep → Nodes PageRow → Option (Branch PageRow)
child_by s n = option_and_then (λ b. cond (bytes_eq (node_name b.row.label) s.name) (Some b) None) (tree_at s.index n)

-- the node that steps lead to from these children
abbrev pub node_by : List PathStep → Nodes PageRow → Option (Branch PageRow)
node_by [] n = None
node_by (s ∷ []) n = child_by s n
node_by (s ∷ next ∷ more) n = option_and_then (λ (b : Branch PageRow). node_by (next ∷ more) b.children) (child_by s n)

-- the node that a path leads to from the document
abbrev pub node_at_path : List ℕ → Branch PageRow → Option (Branch PageRow)
node_at_path path document = option_and_then (λ steps. node_by steps document.children) (steps_of (parts_of path))
