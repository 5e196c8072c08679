-- Climbing from a node to the root.
use Rattle.std.specs.Prelude.{ℕ, Bool, not, List, [], ◌∷◌, cond, map, reverse, filter, Some}
use Rattle.node_tree.specs.Nodes.{Branch}
use Rattle.page_tree.specs.Pages.{PageRow}
use Rattle.page_tree.specs.Zippers.{Generation, Zipper, ancestors_in}
use Rattle.dom_agent.specs.Requests.{Opening}

-- the branches above, from the top down
abbrev pub climbed : List Generation → List (Branch PageRow)
climbed above = reverse (map (λ a. a.branch) (ancestors_in above))

-- what the opening of one node by a push is
abbrev pub unopened_at : (ℕ → Bool) → ℕ → Branch PageRow → List Opening
unopened_at o serial b = cond (o serial) [] (record { levels = Some 1; node = b } ∷ [])

-- the openings of those of some nodes that are not opened, by one level each
abbrev pub up_openings : (ℕ → Bool) → List Zipper → List Opening
up_openings o zs =
    map (λ x. record { levels = Some 1; node = x })
    (filter (λ (x : Branch PageRow). not (o x.row.serial)) (map (λ z. z.branch) zs))
