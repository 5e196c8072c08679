-- What an edit makes of a node's label: an attribute set or gone, another value.
use Rattle.std.specs.Prelude.{ℕ, cond, List, [], ◌∷◌, bytes_eq}
use Rattle.std.specs.Ordering.{nat_cmp, match_ordering}
use Rattle.std.specs.Cmp.Lexicographic.{slice_cmp}
use Rattle.node_tree.specs.Labels.{Pair, Label}

-- pairs that ascend by the bytes of their names, with one more in its place; one that has its name takes the value
abbrev pub placed : Pair → List Pair → List Pair
placed p [] = p ∷ []
placed p (q ∷ qs) = match_ordering (slice_cmp nat_cmp p.0 q.0) (p ∷ q ∷ qs) ((q.0, p.1) ∷ qs) (q ∷ placed p qs)

-- the pairs without the first of that name
abbrev pub pairs_without : List ℕ → List Pair → List Pair
pairs_without name [] = []
pairs_without name (p ∷ ps) = cond (bytes_eq p.0 name) ps (p ∷ pairs_without name ps)

-- the label with the attribute of that name set: one that is there keeps its place, and a new one stands in the order of names
abbrev pub with_attribute : List ℕ → List ℕ → Label → Label
with_attribute name value l = record l { attributes = placed (name, value) l.attributes }

-- the label without the attribute of that name
abbrev pub without_attribute : List ℕ → Label → Label
without_attribute name l = record l { attributes = pairs_without name l.attributes }

-- the label with another value
abbrev pub with_value : List ℕ → Label → Label
with_value value l = record l { value = value }
