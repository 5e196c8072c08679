-- A settle of two front ends, with its fetches, beside a run without: room is asked for where a text is fetched alone.
use Rattle.std.proofs.Common.{◌≡◌, ℕ, ◌+◌, ◌≤◌, List, [], ◌∷◌, length, refl, sym, ◌∙◌, ap, subst, arith}
use Rattle.std.specs.List.{All}
use Rattle.pipe_frames.specs.Frames.{frames_of}
use Rattle.session_runs.specs.Stream.{sent, arriving}
use Rattle.session_runs.specs.World.{World, settled}
use Rattle.session_runs.specs.Fold.{Machine, Laws, RoomThroughout, Fits}
use Rattle.session_runs.specs.Fetches.{Fetcher, front_in, stale_in, all_fetched, refreshed, refreshed_both, FetchLaws}
use Rattle.session_runs.specs.Agreement.{IsAtRest, RunsAgree, RunTogether}
use Rattle.session_runs.proofs.Frames.{sent-passed}
use Rattle.session_runs.proofs.Worlds.{fits-settled}
use Rattle.session_runs.proofs.AgreeLemmas.{agrees-settled}
use Rattle.session_runs.proofs.FetchLemmas.{settled-rests, fit-rests, IsRefreshed, AreFetched, all-fetched}

module _ {S F E X A N L M R : Type 0} (machine : Machine S F E X N) (HasRoom : S → Type 0)
    (IsNext : N → S → List (List ℕ) → List ℕ → N → Type 0) (IsTurn : N → X → Type 0) (Fit : N → F → S → List (List ℕ) → Type 0)
    (laws : Laws machine HasRoom IsNext IsTurn Fit) (plainly : N → M) (fetcher : Fetcher F N) (seen : F → A) (rest : F → R)
    (sheets most : ℕ) (fetching : FetchLaws machine HasRoom IsNext Fit plainly fetcher seen rest sheets most) where
  -- where there are texts to fetch, there is room for a step
  pub all-fetched-if : (start : F) (numbers : List ℕ) (w v : World S N L)
      → Fits machine.take machine.join Fit start v → IsAtRest v → (agrees : RunsAgree machine plainly start seen w v)
      → fetcher.stale agrees.fresh ≡ numbers → fetcher.count v.spent + length numbers ≤ most → ((numbers ≡ [] → ⊥) → HasRoom v.state)
      → AreFetched machine HasRoom IsNext IsTurn Fit laws plainly fetcher seen rest sheets most fetching start w v
      (all_fetched machine fetcher start numbers v) agrees.fresh numbers
  all-fetched-if start [] w v fits rests agrees stale room has = record {
    fits = fits;
    rests = rests;
    agrees = agrees;
    none = stale;
    fetches = omega arith;
    others = refl;
    state_is = refl;
  }
  all-fetched-if start (number ∷ numbers) w v fits rests agrees stale room has =
      all-fetched machine HasRoom IsNext IsTurn Fit laws plainly fetcher seen rest sheets most fetching start (number ∷ numbers) w v fits
      rests agrees stale room (has (λ e. absurd (some number numbers e)))
    where
      some : (number : ℕ) (numbers : List ℕ) → number ∷ numbers ≡ [] → ⊥
      some number numbers e = absurd cc

  -- a settle with its fetches, where there is room for a step once all has come, if some text is old then
  pub refreshed-made-if : (start : F) (w v : World S N L)
      → Fits machine.take machine.join Fit start w → Fits machine.take machine.join Fit start v
      → RunsAgree machine plainly start seen w v → fetcher.count v.spent + sheets ≤ most
      → RoomThroughout machine.step HasRoom w.state (arriving (length w.up.flying) w.up)
      → RoomThroughout machine.step HasRoom v.state (arriving (length v.up.flying) v.up)
      → ((stale_in fetcher (front_in machine start (settled machine.step v)) ≡ [] → ⊥) → HasRoom (settled machine.step v).state)
      → IsRefreshed machine HasRoom IsNext IsTurn Fit laws plainly fetcher seen rest sheets most fetching start w v
      (refreshed machine fetcher start v)
  refreshed-made-if start w v fits fits1 agrees room has has1 last =
      let v1 = settled machine.step v in
      let settles : Fits machine.take machine.join Fit start v1 = fits-settled machine HasRoom IsNext IsTurn Fit laws start v has1 fits1 in
      let rests : IsAtRest v1 = settled-rests machine Fit start v settles in
      let on : RunsAgree machine plainly start seen
      (settled machine.step w) v1 = agrees-settled machine HasRoom IsNext IsTurn Fit laws plainly fetcher seen rest sheets most
      fetching start w v has
      (subst (λ k. RoomThroughout machine.step HasRoom v.state (arriving k v.up)) (sym (ap length agrees.up.flying)) has1) fits fits1
      agrees in
      let numbers = fetcher.stale on.fresh in
      let same : stale_in fetcher (front_in machine start v1) ≡ numbers = ap (stale_in fetcher) on.fresh_is in
      let few : length numbers ≤ sheets = fetching.few v1.spent on.fresh v1.state []
      (fit-rests machine Fit start v1 on.fresh settles rests on.fresh_is) in
      let all : AreFetched machine HasRoom IsNext IsTurn Fit laws plainly fetcher seen rest sheets most fetching start
      (settled machine.step w) v1 (all_fetched machine fetcher start numbers v1) on.fresh numbers =
      all-fetched-if start numbers (settled machine.step w) v1 settles rests on refl (omega (arith, few, room))
      (λ some. last (λ e. some (sym same ∙ e))) in
      let whole : IsRefreshed machine HasRoom IsNext IsTurn Fit laws plainly fetcher seen rest sheets most fetching start w v
      (all_fetched machine fetcher start numbers v1) = record {
        fits = all.fits;
        rests = all.rests;
        agrees = all.agrees;
        none = all.none;
        fetches = let e = all.fetches in omega (arith, e, few);
        state_is = all.state_is;
      } in
      subst (λ stale. IsRefreshed machine HasRoom IsNext IsTurn Fit laws plainly fetcher seen rest sheets most fetching start w v
      (all_fetched machine fetcher start stale v1)) (sym same) whole

module _ {S F E X A N L M R : Type 0} (machine : Machine S F E X N) (HasRoom : S → Type 0)
    (IsNext : N → S → List (List ℕ) → List ℕ → N → Type 0) (IsTurn : N → X → Type 0) (Fit : N → F → S → List (List ℕ) → Type 0)
    (laws : Laws machine HasRoom IsNext IsTurn Fit) (plainly : N → M) (one : Fetcher F N) (seen : F → A) (rest : F → R)
    (sheets most : ℕ) (fetching : FetchLaws machine HasRoom IsNext Fit plainly one seen rest sheets most) (IsPlain : List ℕ → Type 0) where
  -- Two runs after a settle of one front end, with its fetches in the one run and without them in the other; the front end has no old text.
  pub record OneRefreshed (start : F) (w v after : World S N L) : Type 0 where
    pub runs : RunTogether machine plainly Fit start seen IsPlain (settled machine.step w) after
    pub rests : IsAtRest after
    pub none : one.stale runs.agrees.fresh ≡ []
    pub fetches : one.count after.spent ≤ one.count v.spent + sheets

  pub together-one : (start : F) (w v : World S N L) → one.count v.spent + sheets ≤ most
      → RoomThroughout machine.step HasRoom w.state (arriving (length w.up.flying) w.up)
      → RoomThroughout machine.step HasRoom v.state (arriving (length v.up.flying) v.up)
      → ((stale_in one (front_in machine start (settled machine.step v)) ≡ [] → ⊥) → HasRoom (settled machine.step v).state)
      → RunTogether machine plainly Fit start seen IsPlain w v
      → OneRefreshed start w v (refreshed machine one start v)
  together-one start w v left has has1 last both =
      let made : IsRefreshed machine HasRoom IsNext IsTurn Fit laws plainly one seen rest sheets most fetching start w v
      (refreshed machine one start v) =
      refreshed-made-if machine HasRoom IsNext IsTurn Fit laws plainly one seen rest sheets most fetching start w v both.fits
      both.fits_fresh both.agrees left has has1 last in
      record {
        runs = record {
          fits = fits-settled machine HasRoom IsNext IsTurn Fit laws start w has both.fits;
          fits_fresh = made.fits;
          agrees = made.agrees;
          plain = subst (λ bytes. All IsPlain (frames_of bytes).whole) (sym (sent-passed (length w.up.flying) w.up)) both.plain;
        };
        rests = made.rests;
        none = made.none;
        fetches = made.fetches;
      }

  module _ (two : Fetcher F N) (fetching2 : FetchLaws machine HasRoom IsNext Fit plainly two seen one.stale sheets most) where
    -- the same of two front ends: those of the second are fetched behind those of the first, which has no old text then either
    pub record TwoRefreshed (start : F) (w v after : World S N L) : Type 0 where
      pub runs : RunTogether machine plainly Fit start seen IsPlain (settled machine.step w) after
      pub rests : IsAtRest after
      pub none : one.stale runs.agrees.fresh ≡ []
      pub none_two : two.stale runs.agrees.fresh ≡ []
      pub fetches : two.count after.spent ≤ two.count v.spent + sheets

    pub together-two : (start : F) (w v after : World S N L) → OneRefreshed start w v after → two.count after.spent + sheets ≤ most
        → ((stale_in two (front_in machine start after) ≡ [] → ⊥) → HasRoom after.state)
        → TwoRefreshed start w after (all_fetched machine two start (stale_in two (front_in machine start after)) after)
    together-two start w v after first left last =
        let on = first.runs.agrees in
        let numbers = two.stale on.fresh in
        let same : stale_in two (front_in machine start after) ≡ numbers = ap (stale_in two) on.fresh_is in
        let few : length numbers ≤ sheets = fetching2.few after.spent on.fresh after.state []
        (fit-rests machine Fit start after on.fresh first.runs.fits_fresh first.rests on.fresh_is) in
        let all : AreFetched machine HasRoom IsNext IsTurn Fit laws plainly two seen one.stale sheets most fetching2 start
        (settled machine.step w) after (all_fetched machine two start numbers after) on.fresh numbers =
        all-fetched-if machine HasRoom IsNext IsTurn Fit laws plainly two seen one.stale sheets most fetching2 start numbers
        (settled machine.step w) after first.runs.fits_fresh first.rests on refl (omega (arith, few, left))
        (λ some. last (λ e. some (sym same ∙ e))) in
        let whole : TwoRefreshed start w after (all_fetched machine two start numbers after) = record {
          runs = record {
            fits = first.runs.fits;
            fits_fresh = all.fits;
            agrees = all.agrees;
            plain = first.runs.plain;
          };
          rests = all.rests;
          none = all.others ∙ first.none;
          none_two = all.none;
          fetches = let e = all.fetches in omega (arith, e, few);
        } in
        subst (λ stale. TwoRefreshed start w after (all_fetched machine two start stale after)) (sym same) whole
