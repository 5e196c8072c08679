-- The groups of a stack that keeps the newest last.
use Rattle.std.specs.Prelude.{ℕ, ◌*◌, List, [], ◌∷◌, ◌++◌, Vec}
use Rattle.std.specs.declared.alloc.Global.{Global}
use Rattle.node_tree.specs.Numbers.{memory_limit}

-- the newest first
abbrev pub groups_in : {A : Type 0} → List (Vec A Global) → List (List A)
groups_in [] = []
groups_in (v ∷ vs) = groups_in vs ++ v.items ∷ []

-- all groups of a stack have fewer entries than this: it has fewer groups than `memory_limit`, and each has fewer entries
abbrev pub entries_limit : ℕ
entries_limit = memory_limit * memory_limit
