-- Searches: what was found, by the number of each search.
use Rattle.std.specs.Prelude.{ℕ, ◌+◌, ◌-◌, nat_lt, nat_le, ◌&&◌, cond, List, take, drop, length, Option, Some, None, Result, Ok, Err, refl}
use Rattle.std.specs.Ordering.{nat_cmp}
use Rattle.std.specs.FinMap as map
use Rattle.std.specs.Coded.{Coded, code_by, coded×, coded_ℕ, coded_list}
use Rattle.dom_search.specs.declared.searches.SearchFault.{SearchFault}
use Rattle.dom_search.specs.declared.searches.SearchFault.TheVariants.{NoSearch, SearchRange}

-- The serials that each search found which is kept, by its number, and how many searches there were: they have the numbers from 1 on.
pub record Kept : Type 0 where
  pub lists : map.FinMap nat_cmp (List ℕ)
  pub given : ℕ

-- what is kept, by its parts
abbrev pub coded_kept : Coded Kept
coded_kept = code_by (map.FinMap nat_cmp (List ℕ) × ℕ) (coded× (map.code coded_ℕ (coded_list coded_ℕ)) coded_ℕ)
    (λ k. (k.lists, k.given)) (λ p. record { lists = p.0; given = p.1 }) (λ _. refl)

-- there were none
abbrev pub no_searches : Kept
no_searches = record { lists = map.empty; given = 0 }

-- the number that the next search gets
abbrev pub next_search : Kept → ℕ
next_search k = k.given + 1

-- a search more: what it found is kept under the next number
abbrev pub with_search : List ℕ → Kept → Kept
with_search serials k = record { lists = map.insert k.lists (next_search k) serials; given = next_search k }

-- without the search of that number, which no other gets
abbrev pub without_search : ℕ → Kept → Kept
without_search search k = record k { lists = map.remove k.lists search }

-- without any search; the numbers go on
abbrev pub forgotten : Kept → Kept
forgotten k = record k { lists = map.empty }

-- from the place `from` up to before the place `to` of a list, counted from 0
abbrev pub between : ℕ → ℕ → List ℕ → List ℕ
between from to serials = take (to - from) (drop from serials)

-- of a list, if there is one: the serials in a range that is not empty and ends in it, or why there are none
abbrev pub slice_in : ℕ → ℕ → Option (List ℕ) → Result (List ℕ) SearchFault
slice_in from to None = Err NoSearch
slice_in from to (Some serials) =
    cond (nat_lt from to && nat_le to (length serials)) (Ok (between from to serials)) (Err SearchRange)

-- the serials in a range of what a search found, or why there are none
abbrev pub slice_of : ℕ → ℕ → ℕ → Kept → Result (List ℕ) SearchFault
slice_of search from to k = slice_in from to (map.get k.lists search)
