-- The best declaration of a name so far.
use Rattle.std.specs.Prelude.{ℕ, ◌+◌, ◌==◌, nat_lt, Bool, false, cond, List, [], ◌∷◌, Option, Some, None}
use Rattle.std.specs.Str.{bytes_eq}
use Rattle.cascade_match.specs.declared.winning.Top.{Top}
use Rattle.cascade_match.specs.declared.winning.Ranked.{Ranked}
use Rattle.cascade_match.specs.Winning.{Candidate}

-- a ranked name as a candidate
abbrev pub ranked_seen : Ranked → Candidate
ranked_seen r = record { name = r.name.now; rank = r.rank }

-- the best so far is of a greater rank
abbrev pub covers : Option Top → ℕ → Bool
covers None rank = false
covers (Some t) rank = nat_lt rank t.rank

-- the best so far, where there is one that is to be kept, and else the new one
abbrev pub kept_top : Bool → Option Top → Top → Top
kept_top keep None new = new
kept_top keep (Some t) new = cond keep t new

-- the best after one of this rank at place i
abbrev pub better : Option Top → ℕ → ℕ → Top
better best i rank = kept_top (covers best rank) best (record { rank = rank; place = i })

-- the best of the name q, after `best`, among those from place i on
abbrev pub top : List ℕ → Option Top → ℕ → List Candidate → Option Top
top q best i [] = best
top q best i (r ∷ rs) = top q (cond (bytes_eq r.name q) (Some (better best i r.rank)) best) (i + 1) rs

-- there is a best one, and it stands at place i
abbrev pub is_at_place : Option Top → ℕ → Bool
is_at_place None i = false
is_at_place (Some t) i = t.place == i
