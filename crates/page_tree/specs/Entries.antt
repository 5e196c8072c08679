-- Attributes by name, as an ordered map keeps them.
use Rattle.std.specs.Prelude.{ℕ, List, [], ◌∷◌, String, string_bytes}
use Rattle.std.specs.declared.alloc.Global.{Global}
use Rattle.node_tree.specs.Labels.{Pair}

-- the pairs of the entries, by bytes
abbrev pub entry_pairs : List (String Global × List ℕ) → List Pair
entry_pairs [] = []
entry_pairs (e ∷ es) = (string_bytes e.0, e.1) ∷ entry_pairs es
