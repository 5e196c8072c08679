-- Where a style sheet comes from.
use Rattle.std.specs.Prelude.{ℕ, List, [], ◌∷◌, codes}
use Rattle.node_tree.specs.declared.origins.Origin.{Origin}
use Rattle.node_tree.specs.declared.origins.Origin.TheVariants.{UserAgent, Regular}

-- the name of an origin (`CSS.StyleSheetOrigin`)
abbrev pub origin_name : Origin → List ℕ
origin_name UserAgent = codes "user-agent"
origin_name Regular = codes "regular"

-- all that there are
abbrev pub all_origins : List Origin
all_origins = UserAgent ∷ Regular ∷ []
