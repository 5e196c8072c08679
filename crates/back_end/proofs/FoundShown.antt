-- A search of a client finds exactly the shown nodes that its query finds, each once, in document order, and keeps them.
use Rattle.std.proofs.Common.{◌≡◌, ℕ, ◌≤◌, ◌==◌, Bool, true, false, cond, List, [], ◌∷◌, map, length, Some, arith, refl, ap, ◌∙◌}
use Rattle.std.specs.List.{filter}
use Rattle.std.specs.Ordering.{nat_cmp}
use Rattle.std.specs.Cmp.{nat_cmp_total, eq_by_cmp_equiv}
use Rattle.std.specs.FinMap as table
use Rattle.page_tree.specs.Zippers.{serial_of, zippers}
use Rattle.dom_search.specs.Found.{found_in}
use Rattle.dom_search.specs.FoundLaws.{IsOutOf, at_end, passes, takes, FindsExactly}
use Rattle.dom_search.specs.Searches.{next_search}
use Rattle.dom_search.proofs.FoundLemmas.{passes-in, in-passes, finds-exactly}
use Rattle.back_end.specs.Steps.{found_now, is_shown_now}
use Rattle.back_end.specs.SearchLaws.{SearchesFindShown, SearchesKeepFound}

module _ (test : ℕ → Bool) where
  -- what passes a test is out of all that the list is out of
  out-step : (x : ℕ) (xs ys : List ℕ) → IsOutOf (filter test xs) ys → (b : Bool)
      → IsOutOf (cond b (x ∷ filter test xs) (filter test xs)) (x ∷ ys)
  out-step x xs ys rest true = takes x _ _ rest
  out-step x xs ys rest false = passes x _ _ rest

  filtered-out : (xs ys : List ℕ) → IsOutOf xs ys → IsOutOf (filter test xs) ys
  filtered-out _ _ (at_end) = at_end
  filtered-out _ _ (passes y xs ys rest) = passes y _ _ (filtered-out xs ys rest)
  filtered-out _ _ (takes x xs ys rest) = out-step x xs ys (filtered-out xs ys rest) (test x)

  -- and no serial stands in it more often
  fewer-step : (s x : ℕ) (xs : List ℕ) → length (filter (λ k. k == s) (filter test xs)) ≤ length (filter (λ k. k == s) xs)
      → (b c : Bool) → (x == s) ≡ c
      → length (filter (λ k. k == s) (cond b (x ∷ filter test xs) (filter test xs)))
      ≤ length (cond c (x ∷ filter (λ k. k == s) xs) (filter (λ k. k == s) xs))
  fewer-step s x xs rest true true is = rw is (omega (arith, rest))
  fewer-step s x xs rest true false is = rw is (omega (arith, rest))
  fewer-step s x xs rest false true is = omega (arith, rest)
  fewer-step s x xs rest false false is = omega (arith, rest)

  fewer : (s : ℕ) (xs : List ℕ) → length (filter (λ k. k == s) (filter test xs)) ≤ length (filter (λ k. k == s) xs)
  fewer s [] = omega arith
  fewer s (x ∷ xs) = fewer-step s x xs (fewer s xs) (test x) (x == s) refl

-- a search finds exactly the shown nodes that its query finds
pub searches-find-shown : SearchesFindShown
searches-find-shown state query holds =
    let test = is_shown_now state in
    let all = found_in state.side.page.tree query in
    let exact : FindsExactly state.side.page query = finds-exactly state.side.page holds.page query in
    record {
      members = λ s. (
        λ i. let r = passes-in test s all i in record { found = (exact.members s).0 r.0; shown = r.1 },
        λ f. in-passes test s all ((exact.members s).1 f.found) f.shown,
      );
      once = λ s. omega (arith, fewer test s all, exact.once s);
      in_order = filtered-out test all (map serial_of (zippers state.side.page.tree)) exact.in_order;
    }

-- what is put under a number stands under it
under : (lists : table.FinMap nat_cmp (List ℕ)) (search : ℕ) (found : List ℕ)
    → table.get (table.insert lists search found) search ≡ Some found
under lists search found =
    table.get-insert nat_cmp_total lists search found search
    ∙ ap (λ (b : Bool). cond b (Some found) (table.get lists search)) ((eq_by_cmp_equiv nat_cmp_total).refl search)

-- and a search keeps what it finds
pub searches-keep-found : SearchesKeepFound
searches-keep-found id query state =
    under state.client.searches.lists (next_search state.client.searches) (found_now query state)
