-- Which declarations win.
use Rattle.std.specs.Prelude.{ℕ, nat_lt, Bool, true, false, not, ◌&&◌, List, [], ◌∷◌, ◌++◌, map}
use Rattle.std.specs.List.{list_any, flat_map}
use Rattle.std.specs.Str.{bytes_eq}
use Rattle.node_tree.specs.declared.origins.Origin.{Origin}
use Rattle.node_tree.specs.declared.origins.Origin.TheVariants.{UserAgent, Regular}
use Rattle.cascade_match.specs.declared.blocks.Decl.{Decl}
use Rattle.cascade_match.specs.declared.blocks.Block.{Block}

-- normal declarations of the browser, those of the page, important ones of the page, those of the browser
abbrev pub rank_of : Origin → Bool → ℕ
rank_of UserAgent false = 0
rank_of Regular false = 1
rank_of Regular true = 2
rank_of UserAgent true = 3

-- a declaration as it competes with others of its name
pub record Candidate : Type 0 where
  pub name : List ℕ
  pub rank : ℕ

-- a declaration of a sheet of that origin, as a candidate
abbrev pub candidate_of : Origin → Decl → Candidate
candidate_of origin d = record { name = d.name; rank = rank_of origin d.important }

-- the declarations of the blocks, one behind the other
abbrev pub candidates : List Block → List Candidate
candidates blocks = flat_map (λ b. map (candidate_of b.origin) b.declarations) blocks

-- of the same name, and of a greater rank
abbrev pub outranks : Candidate → Candidate → Bool
outranks r other = bytes_eq other.name r.name && nat_lt r.rank other.rank

-- of the same name, and of a rank that is not lower
abbrev pub overrides : Candidate → Candidate → Bool
overrides r other = bytes_eq other.name r.name && not (nat_lt other.rank r.rank)

-- none before outranks it, and none after overrides it: it is the greatest of its name, by rank and then by place
abbrev pub is_winner : List Candidate → Candidate → List Candidate → Bool
is_winner before r after = not (list_any (outranks r) before) && not (list_any (overrides r) after)

-- for each candidate that follows those before, whether it wins
abbrev pub wins_from : List Candidate → List Candidate → List Bool
wins_from before [] = []
wins_from before (r ∷ after) = is_winner before r after ∷ wins_from (before ++ r ∷ []) after

-- for each declaration of the blocks, whether it wins
abbrev pub wins : List Block → List Bool
wins blocks = wins_from [] (candidates blocks)
