-- What hangs below the body and each div while the divs are gone through from the last to the first.
use Rattle.std.specs.Prelude.{◌≡◌, ℕ, zero, suc, ◌<◌, List, [], ◌∷◌, slice_set, ⊤}
use Rattle.std.proofs.Common.{get_or}
use Rattle.node_tree.specs.Nodes.{Nodes, none, node, Branch}
use Rattle.node_tree.specs.Labels.{Label}
use Rattle.drill_script.specs.declared.divs.Div.{Div}

-- nothing below so many
abbrev pub nothing_hangs : ℕ → List (Nodes Label)
nothing_hangs zero = []
nothing_hangs (suc n) = none ∷ nothing_hangs n

-- a tree hung below the one of that number, before those that hang there
abbrev pub hung : List (Nodes Label) → ℕ → Branch Label → List (Nodes Label)
hung trees up b = slice_set trees up (node b.row b.children (get_or trees up none))

-- the divs are numbered one after another, and each is put into the body or a div before it
abbrev pub AreDivsNumbered : ℕ → List Div → Type 0
AreDivsNumbered number [] = ⊤
AreDivsNumbered number (d ∷ ds) = (d.number ≡ number) × (d.up < number) × AreDivsNumbered (suc number) ds
