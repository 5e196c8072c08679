-- Two fronts that take bytes.
use Rattle.std.proofs.Common.{arith, ◌≡◌, ℕ, ◌+◌, List, [], ◌++◌, length, Some, None, refl, sym, ◌∙◌, ap, subst, Err}
use Rattle.std.proofs.lemmas.List.{length-append}
use Rattle.pipe_frames.specs.Frames.{frames_of, frames_from, held_after}
use Rattle.pipe_frames.proofs.FrameLemmas.{frames_of-append}
use Rattle.front_mirror.specs.declared.faults.FrontFault.{FrontFault}
use Rattle.front_mirror.specs.Front.{FrontState}
use Rattle.session_runs.specs.Fold.{asks_joined}
use Rattle.session_runs.specs.Pairs.{first_pair, join_pair}
use Rattle.multi_replay.specs.Folds.{UpReads, FoldedPair, value_reads, state_reads, pair_folded, pair_result, fold_both}
use Rattle.multi_replay.specs.States.{FrontsState, after_down_bytes, unless_faulty, after_taken}
use Rattle.multi_replay.specs.Laws.{pair_value, IsFoldOfBoth, BothBegin, BothTake, FaultsAreOfFold}
use Rattle.multi_replay.proofs.StepLemmas.{KnownPair}
use Rattle.multi_replay.proofs.PlaceLemmas.{folded-on, counted-on, folds-alike}

pub both-begin : BothBegin
unfolding frames_of
both-begin u kinds = record {
  asked = [];
  value = refl;
  taken = refl;
  rest = refl;
  well = refl;
  unread = refl;
  whole = refl;
  were_attached = tt;
  second = tt;
}

module _ (u : UpReads) (up down piece : List ℕ) (s : FrontsState) (is : IsFoldOfBoth u up down s) where
  -- the frames that become whole
  abbrev come : List (List ℕ)
  come = frames_from s.rest piece

  -- what the states came to
  abbrev end : FoldedPair FrontState
  end = pair_folded state_reads s.pair s.taken come

  frames-are : frames_of (down ++ piece) ≡ record { whole = (frames_of down).whole ++ come; rest = held_after s.rest piece }
  frames-are =
      frames_of-append down piece
      ∙ ap (λ rest. record { whole = (frames_of down).whole ++ frames_from rest piece; rest = held_after rest piece }) (sym is.rest)

  known : KnownPair is.asked s.pair
  known = record { unread = is.unread; were_attached = is.were_attached; second = is.second }

  -- the fold goes on by what the states came to
  goes-on : fold_both u up (down ++ piece) ≡ pair_result (pair_value is.asked end.pair) end.fault
  goes-on =
      let r = value_reads u in
      let start = asks_joined (join_pair r) (first_pair r) (frames_of up).whole in
      let taken = is.taken in
      let count : 0 + length (frames_of down).whole ≡ s.taken = omega arith in
      ap (λ frames. let last = pair_folded r start 0 frames.whole in pair_result last.pair last.fault) frames-are
      ∙ ap (λ last. pair_result last.pair last.fault)
      (folded-on r (frames_of down).whole come start (pair_value is.asked s.pair) 0 is.value
      ∙ ap (λ n. pair_folded r (pair_value is.asked s.pair) n come) count
      ∙ (folds-alike u is.asked come s.pair s.taken known).0)

  -- no fault was met before
  taken-on : after_taken s piece ≡ after_down_bytes s piece
  taken-on = ap (λ f. unless_faulty f s (after_down_bytes s piece)) is.well

  stays : end.fault ≡ None → IsFoldOfBoth u up (down ++ piece) (after_down_bytes s piece)
  stays none = let k = (folds-alike u is.asked come s.pair s.taken known).1 in record {
    asked = is.asked;
    value = goes-on ∙ ap (pair_result (pair_value is.asked end.pair)) none;
    taken =
        counted-on state_reads come s.pair s.taken none
        ∙ ap (λ n. n + length come) is.taken
        ∙ sym (length-append (frames_of down).whole come)
        ∙ ap (λ frames. length frames.whole) (sym frames-are);
    rest = ap (λ frames. frames.rest) (sym frames-are);
    well = none;
    unread = k.unread;
    whole = is.whole;
    were_attached = k.were_attached;
    second = k.second;
  }

  took : (after_taken s piece).fault ≡ None → IsFoldOfBoth u up (down ++ piece) (after_taken s piece)
  took none = subst (IsFoldOfBoth u up (down ++ piece)) (sym taken-on) (stays (ap (λ t. t.fault) (sym taken-on) ∙ none))

  refused : (f : FrontFault) → (after_taken s piece).fault ≡ Some f → fold_both u up (down ++ piece) ≡ Err f
  refused f met = goes-on ∙ ap (pair_result (pair_value is.asked end.pair)) (ap (λ t. t.fault) (sym taken-on) ∙ met)

pub both-take : BothTake
both-take u up down piece s is none = took u up down piece s is none

pub faults-are-of-fold : FaultsAreOfFold
faults-are-of-fold u up down piece s f is met = refused u up down piece s is f met
