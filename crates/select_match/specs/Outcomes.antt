-- What a search to the left tells, also of other nodes, so that no search is done twice.
use Rattle.std.specs.Prelude.{◌≡◌, Bool, true, false, List, [], ◌∷◌, ◌++◌}
use Rattle.std.specs.List.{list_any}
use Rattle.page_tree.specs.Zippers.{Generation, Zipper, zipper_of, earlier}
use Rattle.select_match.specs.declared.outcome.Outcome.{Outcome}
use Rattle.select_match.specs.declared.outcome.Outcome.TheVariants.{Found, NotHere, NotBeside, Nowhere}

-- the ancestors, the nearest first, each with the siblings before it
abbrev pub behind_in : List Generation → List Zipper
behind_in [] = []
behind_in (g ∷ above) = zipper_of g above ∷ (earlier (zipper_of g above) ++ behind_in above)

-- a node, the siblings before it, its ancestors, and the siblings before these
abbrev pub behind : Zipper → List Zipper
behind z = z ∷ (earlier z ++ behind_in z.above)

-- the nodes that an outcome speaks of
abbrev pub scope : Outcome → Zipper → List Zipper
scope Found z = z ∷ []
scope NotHere z = z ∷ []
scope NotBeside z = z ∷ earlier z
scope Nowhere z = behind z

-- the test holds where it was found to, and at none of the nodes that another outcome speaks of
abbrev pub Tells : Outcome → (Zipper → Bool) → Zipper → Type 0
Tells Found test z = test z ≡ true
Tells NotHere test z = list_any test (scope NotHere z) ≡ false
Tells NotBeside test z = list_any test (scope NotBeside z) ≡ false
Tells Nowhere test z = list_any test (scope Nowhere z) ≡ false

-- a search among ancestors ends with this outcome at one of them
abbrev pub ends_above : Outcome → Bool
ends_above Found = true
ends_above NotHere = false
ends_above NotBeside = false
ends_above Nowhere = true

-- a search among the siblings before ends with this outcome at one of them
abbrev pub ends_before : Outcome → Bool
ends_before Found = true
ends_before NotHere = false
ends_before NotBeside = true
ends_before Nowhere = true

-- what the outcome at the parent is for its children, which all have that parent
abbrev pub at_child : Outcome → Outcome
at_child Found = Found
at_child NotHere = NotBeside
at_child NotBeside = NotBeside
at_child Nowhere = Nowhere
