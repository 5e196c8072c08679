-- A settle fetches for the first front end, and then for the second: then no text of either is old.
use Rattle.std.proofs.Common.{◌≡◌, ℕ, ◌+◌, ◌≤◌, List, [], length, refl, sym, ◌∙◌, ap, subst, arith}
use Rattle.session_runs.specs.Stream.{arriving}
use Rattle.session_runs.specs.World.{World, settled}
use Rattle.session_runs.specs.Fold.{Machine, Laws, RoomThroughout, Fits}
use Rattle.session_runs.specs.Fetches.{Fetcher, stale_in, all_fetched, refreshed, refreshed_both, FetchLaws}
use Rattle.session_runs.specs.Agreement.{IsAtRest, RunsAgree}
use Rattle.session_runs.proofs.FetchLemmas.{IsRefreshed, refreshed-made, AreFetched, all-fetched, fit-rests}

module _ {S F E X A N L M R : Type 0} (machine : Machine S F E X N) (HasRoom : S → Type 0)
    (IsNext : N → S → List (List ℕ) → List ℕ → N → Type 0) (IsTurn : N → X → Type 0) (Fit : N → F → S → List (List ℕ) → Type 0)
    (laws : Laws machine HasRoom IsNext IsTurn Fit) (plainly : N → M) (one two : Fetcher F N) (seen : F → A) (rest : F → R)
    (sheets most : ℕ) (fetching : FetchLaws machine HasRoom IsNext Fit plainly one seen rest sheets most)
    (fetching2 : FetchLaws machine HasRoom IsNext Fit plainly two seen one.stale sheets most) where
  -- the run goes on from w, and no text of either front end is old
  pub record BothRefreshed (start : F) (w after : World S N L) : Type 0 where
    pub fits : Fits machine.take machine.join Fit start after
    pub rests : IsAtRest after
    pub agrees : RunsAgree machine plainly start seen (settled machine.step w) after
    pub none : one.stale agrees.fresh ≡ []
    pub none_two : two.stale agrees.fresh ≡ []

  pub both-refreshed : (start : F) (w v : World S N L)
      → Fits machine.take machine.join Fit start w → Fits machine.take machine.join Fit start v
      → RunsAgree machine plainly start seen w v → one.count v.spent + sheets ≤ most
      → two.count (refreshed machine one start v).spent + sheets ≤ most
      → RoomThroughout machine.step HasRoom w.state (arriving (length w.up.flying) w.up)
      → RoomThroughout machine.step HasRoom v.state (arriving (length v.up.flying) v.up)
      → HasRoom (settled machine.step v).state
      → BothRefreshed start w (refreshed_both machine one two start v)
  both-refreshed start w v fits fits1 agrees room room2 has has1 last =
      let v1 = refreshed machine one start v in
      let made : IsRefreshed machine HasRoom IsNext IsTurn Fit laws plainly one seen rest sheets most fetching start w v v1 =
      refreshed-made machine HasRoom IsNext IsTurn Fit laws plainly one seen rest sheets most fetching start w v fits fits1 agrees room
      has has1 last in
      let numbers = two.stale made.agrees.fresh in
      let few : length numbers ≤ sheets = fetching2.few v1.spent made.agrees.fresh v1.state []
      (fit-rests machine Fit start v1 made.agrees.fresh made.fits
      made.rests made.agrees.fresh_is) in
      let all : AreFetched machine HasRoom IsNext IsTurn Fit laws plainly two seen one.stale sheets most fetching2 start
      (settled machine.step w) v1 (all_fetched machine two start numbers v1) made.agrees.fresh numbers =
      all-fetched machine HasRoom IsNext IsTurn Fit laws plainly two seen one.stale sheets most fetching2 start numbers
      (settled machine.step w) v1 made.fits made.rests made.agrees refl (omega (arith, few, room2))
      (subst HasRoom (sym made.state_is) last) in
      let whole : BothRefreshed start w (all_fetched machine two start numbers v1) = record {
        fits = all.fits;
        rests = all.rests;
        agrees = all.agrees;
        none = all.others ∙ made.none;
        none_two = all.none;
      } in
      subst (λ stale. BothRefreshed start w (all_fetched machine two start stale v1)) (sym (ap (stale_in two) made.agrees.fresh_is)) whole
