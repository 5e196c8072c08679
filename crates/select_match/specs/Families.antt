-- How many of some siblings are elements, and how many of them have each name.
use Rattle.std.specs.Prelude.{◌≡◌, ℕ, ◌+◌, Bool, cond, ◌&&◌, List, [], ◌∷◌, ◌++◌, filter, length, Option, Some, None, unwrap_or}
use Rattle.std.specs.Ordering.{nat_cmp}
use Rattle.std.specs.Str.{bytes_eq}
use Rattle.std.specs.Cmp.Lexicographic.{slice_cmp}
use Rattle.std.specs.BTreeMap.{BTreeMap, get_by}
use Rattle.std.specs.Borrow.{Bor}
use Rattle.page_tree.specs.Zippers.{Zipper, earlier, later, next_of, first_child_of}
use Rattle.select_match.specs.declared.families.Tally.{Tally}
use Rattle.select_match.specs.declared.families.Family.{Family}
use Rattle.select_match.specs.declared.families.Line.{Line}
use Rattle.select_match.specs.declared.families.Siblings.{Siblings}
use Rattle.select_match.specs.declared.families.Siblings.TheVariants as siblings
use Rattle.select_match.specs.Elements.{is_element_node, zipper_name}

-- the count that stands beside a name
abbrev pub named_in : List ℕ → BTreeMap (Bor (List ℕ)) ℕ → ℕ
named_in name names = unwrap_or (get_by (λ k. slice_cmp nat_cmp name k.now) names) 0

-- a tally's count of elements, or of those of a name
abbrev pub tally_count : Option (List ℕ) → Tally → ℕ
tally_count None t = t.all
tally_count (Some name) t = named_in name t.names

-- an element, of that name if one is given
abbrev pub is_counted : Option (List ℕ) → Zipper → Bool
is_counted None z = is_element_node z
is_counted (Some name) z = is_element_node z && bytes_eq (zipper_name z) name

-- how many of the nodes are
abbrev pub count_of : Option (List ℕ) → List Zipper → ℕ
count_of key zs = length (filter (is_counted key) zs)

-- one for a node that is counted, none for another
abbrev pub one_of : Option (List ℕ) → Zipper → ℕ
one_of key z = cond (is_counted key z) 1 0

-- a tally has counted the nodes
abbrev pub Counts : Tally → List Zipper → Type 0
Counts t zs = (key : Option (List ℕ)) → tally_count key t ≡ count_of key zs

-- the siblings before a node are counted, and so are it and those behind it
pub record Faces (f : Family) (z : Zipper) : Type 0 where
  pub before : Counts f.before (earlier z)
  pub after : Counts f.after (z ∷ later z)

-- the siblings before a node, it and those behind it are counted, if there is such a node
abbrev pub FacesNext : Family → Option Zipper → Type 0
FacesNext f at = (z : Zipper) → at ≡ Some z → Faces f z

-- the siblings before the last of some nodes, it and those behind it are counted, if there are any nodes
abbrev pub FacesLast : Family → List Zipper → Type 0
FacesLast f before = (bs : List Zipper) (z : Zipper) → before ≡ bs ++ z ∷ [] → Faces f z

-- the elements before a node are counted, and so are those from it on
pub record LineFaces (l : Line) (z : Zipper) : Type 0 where
  pub before : l.before ≡ count_of None (earlier z)
  pub after : l.after ≡ count_of None (z ∷ later z)

-- the siblings are counted as far as they are counted at all
abbrev pub SiblingsFace : Siblings → Zipper → Type 0
SiblingsFace siblings.Nothing z = Unit {0}
SiblingsFace (siblings.Elements l) z = LineFaces l z
SiblingsFace (siblings.Types f) z = Faces f z

-- the siblings of a node are counted as far as they are counted at all, if there is such a node
abbrev pub SiblingsFaceNext : Siblings → Option Zipper → Type 0
SiblingsFaceNext s at = (z : Zipper) → at ≡ Some z → SiblingsFace s z
