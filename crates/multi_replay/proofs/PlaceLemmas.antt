-- Two fronts that take frames one after the other, with the places of faults.
use Rattle.std.proofs.Common.{◌≡◌, ℕ, suc, ◌+◌, List, [], ◌∷◌, ◌++◌, length, None, refl, sym, ◌∙◌, ap, subst, arith}
use Rattle.std.proofs.Common.{Result, Ok, Err}
use Rattle.cdp_json.specs.Lookups.{then_ok}
use Rattle.front_mirror.specs.declared.replies.Ask.{Ask}
use Rattle.front_mirror.specs.declared.faults.FrontKind.{FrontKind}
use Rattle.front_mirror.specs.declared.faults.FrontFault.{FrontFault}
use Rattle.front_mirror.specs.Front.{FrontValue, FrontState}
use Rattle.session_runs.specs.Fold.{folded}
use Rattle.session_runs.specs.Pairs.{FrontReads, SessionAsks, FrontPair, take_pair}
use Rattle.multi_replay.specs.Folds.{UpReads, FoldedPair, after_down, pair_folded, pair_result, value_reads, state_reads}
use Rattle.multi_replay.specs.States.{StatePair}
use Rattle.multi_replay.specs.Laws.{pair_value}
use Rattle.multi_replay.proofs.StepLemmas.{KnownPair, Alike, frame-alike}

module _ {V : Type 0} (r : FrontReads V FrontKind Ask (List ℕ)) where
  abbrev Pair : Type 0
  Pair = FrontPair V Ask (List ℕ)

  -- what the fold of some frames came to
  abbrev ResultOf : FoldedPair V → Result Pair FrontFault
  ResultOf end = pair_result end.pair end.fault

  -- frames in two parts, where the first meets no fault
  pub folded-on : (first more : List (List ℕ)) (p q : Pair) (n : ℕ) → ResultOf (pair_folded r p n first) ≡ Ok q
      → pair_folded r p n (first ++ more) ≡ pair_folded r q (n + length first) more
  folded-on [] more p q n e =
      let same : p ≡ q = cc in
      let count : n ≡ n + 0 = omega arith in
      ap (λ x. pair_folded r x n more) same ∙ ap (λ m. pair_folded r q m more) count
  folded-on (frame ∷ first) more p q n e =
      (elim (take_pair r p frame) as (λ (result : Result Pair FrontKind).
      ResultOf (after_down p n (λ x. pair_folded r x (n + 1) first) result) ≡ Ok q
      → after_down p n (λ x. pair_folded r x (n + 1) (first ++ more)) result ≡ pair_folded r q (n + suc (length first)) more) [
        | Ok x ↦ λ h.
            let count : n + 1 + length first ≡ n + suc (length first) = omega arith in
            folded-on first more x q (n + 1) h ∙ ap (λ m. pair_folded r q m more) count
        | Err kind ↦ λ h. absurd cc
      ]) e

  -- how many frames were taken, where none met a fault
  pub counted-on : (frames : List (List ℕ)) (p : Pair) (n : ℕ) → (pair_folded r p n frames).fault ≡ None
      → (pair_folded r p n frames).taken ≡ n + length frames
  counted-on [] p n e = omega arith
  counted-on (frame ∷ frames) p n e =
      (elim (take_pair r p frame) as (λ (result : Result Pair FrontKind).
      (after_down p n (λ x. pair_folded r x (n + 1) frames) result).fault ≡ None
      → (after_down p n (λ x. pair_folded r x (n + 1) frames) result).taken ≡ n + suc (length frames)) [
        | Ok x ↦ λ h.
            let count : n + 1 + length frames ≡ n + suc (length frames) = omega arith in counted-on frames x (n + 1) h ∙ count
        | Err kind ↦ λ h. absurd cc
      ]) e

  -- without places the fold is that of the theory of runs
  pub as-folded : (frames : List (List ℕ)) (p q : Pair) (n : ℕ) → ResultOf (pair_folded r p n frames) ≡ Ok q
      → folded (take_pair r) p frames ≡ Ok q
  as-folded [] p q n e = let same : p ≡ q = cc in ap (λ x. Ok x) same
  as-folded (frame ∷ frames) p q n e =
      (elim (take_pair r p frame) as (λ (result : Result Pair FrontKind).
      ResultOf (after_down p n (λ x. pair_folded r x (n + 1) frames) result) ≡ Ok q
      → then_ok result (λ next. folded (take_pair r) next frames) ≡ Ok q) [
        | Ok x ↦ λ h. as-folded frames x q (n + 1) h
        | Err kind ↦ λ h. absurd cc
      ]) e

  pub from-folded : (frames : List (List ℕ)) (p q : Pair) (n : ℕ) → folded (take_pair r) p frames ≡ Ok q
      → ResultOf (pair_folded r p n frames) ≡ Ok q
  from-folded [] p q n e = let same : p ≡ q = cc in ap (λ x. Ok x) same
  from-folded (frame ∷ frames) p q n e =
      (elim (take_pair r p frame) as (λ (result : Result Pair FrontKind).
      then_ok result (λ next. folded (take_pair r) next frames) ≡ Ok q
      → ResultOf (after_down p n (λ x. pair_folded r x (n + 1) frames) result) ≡ Ok q) [
        | Ok x ↦ λ h. from-folded frames x q (n + 1) h
        | Err kind ↦ λ h. absurd cc
      ]) e

-- ---- states and values

-- what a fold of states came to, by values
abbrev pub by_values : List (SessionAsks Ask (List ℕ)) → FoldedPair FrontState → FoldedPair FrontValue
by_values asked end = record { pair = pair_value asked end.pair; taken = end.taken; fault = end.fault }

module _ (u : UpReads) (asked : List (SessionAsks Ask (List ℕ))) where
  -- what came of states, and what came of values
  abbrev pub AlikeFolds : FoldedPair FrontState → FoldedPair FrontValue → Type 0
  AlikeFolds states values = (values ≡ by_values asked states) × KnownPair asked states.pair

  -- frames take the states and the values of two fronts alike
  pub folds-alike : (frames : List (List ℕ)) (p : StatePair) (n : ℕ) → KnownPair asked p
      → AlikeFolds (pair_folded state_reads p n frames) (pair_folded (value_reads u) (pair_value asked p) n frames)
  folds-alike [] p n known = (refl, known)
  folds-alike (frame ∷ frames) p n known =
      at (take_pair state_reads p frame) (take_pair (value_reads u) (pair_value asked p) frame) (frame-alike u asked p known frame)
      (λ q. folds-alike frames q (n + 1))
    where
      at : (states : Result StatePair FrontKind) (values : Result (FrontPair FrontValue Ask (List ℕ)) FrontKind)
          → Alike asked states values
          → ((q : StatePair) → KnownPair asked q
          → AlikeFolds (pair_folded state_reads q (n + 1) frames) (pair_folded (value_reads u) (pair_value asked q) (n + 1) frames))
          → AlikeFolds (after_down p n (λ q. pair_folded state_reads q (n + 1) frames) states)
          (after_down (pair_value asked p) n (λ q. pair_folded (value_reads u) q (n + 1) frames) values)
      at (Ok q) values alike later =
          subst (λ (values : Result (FrontPair FrontValue Ask (List ℕ)) FrontKind).
          AlikeFolds (pair_folded state_reads q (n + 1) frames)
          (after_down (pair_value asked p) n (λ q. pair_folded (value_reads u) q (n + 1) frames) values))
          (sym alike.0) (later q alike.1)
      at (Err kind) values alike later =
          (ap (after_down (pair_value asked p) n (λ q. pair_folded (value_reads u) q (n + 1) frames)) alike, known)
