-- Nodes in document order against a list of the serials of some of them in the same order: a walk takes from it as it meets them.
use Rattle.std.specs.Prelude.{ℕ, Bool, false, ◌==◌, ◌||◌, cond, List, [], ◌∷◌, drop}
use Rattle.page_tree.specs.Zippers.{Zipper, serial_of}
use Rattle.dom_search.specs.declared.finding.Listed.{Listed}

-- what a walk has not met yet
abbrev pub waiting : Listed → List ℕ
waiting l = drop l.taken l.serials.now

-- the serial is the next of the list
abbrev pub is_next : ℕ → List ℕ → Bool
is_next serial [] = false
is_next serial (s ∷ ss) = serial == s

-- what is left of the list once it was met
abbrev pub left_behind : ℕ → List ℕ → List ℕ
left_behind serial [] = []
left_behind serial (s ∷ ss) = cond (serial == s) ss (s ∷ ss)

-- what is left of the list behind these nodes
abbrev pub left_after : List ℕ → List Zipper → List ℕ
left_after listed [] = listed
left_after listed (z ∷ zs) = left_after (left_behind (serial_of z) listed) zs

-- the serials of those nodes that pass the test or are listed
abbrev pub merged : (Zipper → Bool) → List ℕ → List Zipper → List ℕ
merged test listed [] = []
merged test listed (z ∷ zs) =
    let later = merged test (left_behind (serial_of z) listed) zs in
    cond (test z || is_next (serial_of z) listed) (serial_of z ∷ later) later
