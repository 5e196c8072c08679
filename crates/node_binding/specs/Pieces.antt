-- Openings, as code lists them.
use Rattle.std.specs.Prelude.{ℕ, zero, suc, List, [], ◌∷◌, Option}
use Rattle.node_tree.specs.Nodes.{Branch}
use Rattle.page_tree.specs.Pages.{PageRow}
use Rattle.node_binding.specs.declared.pieces.Opening as held
use Rattle.node_binding.specs.Deals.{Opening, capped}

-- the opening that code holds
abbrev pub opening_of : held.Opening → Opening
opening_of p = record { levels = p.levels; node = p.node }

-- the piece that begins where no level is left of the one before
abbrev pub begun : ℕ → ℕ → Option ℕ → Branch PageRow → List Opening
begun m zero d x = record { levels = capped (suc m) d; node = x } ∷ []
begun m (suc k) d x = []

-- the levels that are left below it
abbrev pub left_below : ℕ → ℕ → ℕ
left_below m zero = m
left_below m (suc k) = k
