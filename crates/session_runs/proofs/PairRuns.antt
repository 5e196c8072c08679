-- After any parts of a run both front ends show their sessions.
use Rattle.std.proofs.Common.{◌≡◌, ℕ, zero, suc, List, [], ◌∷◌, take, Option, None, refl, sym, ◌∙◌, ap, subst, arith}
use Rattle.pipe_frames.specs.Frames.{frames_of}
use Rattle.session_runs.specs.Stream.{awaited}
use Rattle.session_runs.specs.World.{World, first_world, sent_up, settled}
use Rattle.session_runs.specs.Fold.{Machine, Fits}
use Rattle.session_runs.specs.Passages.{RoomToSettle}
use Rattle.session_runs.specs.Pairs.{FrontReads, Second, FrontPair, first_pair, take_pair, join_pair, ClientPair, client_pair, ClientSteps}
use Rattle.session_runs.specs.PairFit.{ReadLaws, ClientLaws, BothHaveRoom, TwoFit, neither, both, Calm, PairFit, is_calm, is_targeting}
use Rattle.session_runs.specs.PairFit.{next_target}
use Rattle.session_runs.specs.PairRuns.{PairPassage, passing, targeting, pair_machine, after_pair_passage, after_pair_passages}
use Rattle.session_runs.specs.PairRuns.{NextIsCalm, NextInPair, MayTargetNext, MayPassPair, MayPassPairAll, PairFits, SecondShows}
use Rattle.session_runs.specs.PairRuns.{no_second}
use Rattle.session_runs.specs.PairRuns.{one_second, BothShown}
use Rattle.session_runs.proofs.Frames.{given-all, sent-all, awaited-none}
use Rattle.session_runs.proofs.Worlds.{fits-first, fits-sent_up, fits-settled}
use Rattle.session_runs.proofs.Passages.{passage-fits}
use Rattle.session_runs.proofs.PairLaws.{pair_laws, calm_laws}

module _ {V E A P C D X T N : Type 0} (r : FrontReads V E A T) (b : ClientSteps P C D X T) (reads : ReadLaws r)
    (HasRoom : P → C → Type 0) (IsNumber : ℕ → Type 0) (MaySend : List ℕ → Type 0) (IsTurn : X → Type 0) (IsOutward : P → D → P → Type 0)
    (Shows : V → P → C → List A → Type 0) (laws : ClientLaws r b IsNumber HasRoom MaySend IsTurn IsOutward Shows) (one_turn : N → N) where
  -- the machine of both sessions
  abbrev machine : Machine (ClientPair P C) (FrontPair V A T) E X N
  machine = pair_machine r b one_turn

  -- both have room
  abbrev Room : ClientPair P C → Type 0
  Room = BothHaveRoom r b IsNumber HasRoom

  -- what may be sent while no attach and no detach is on its way
  abbrev CalmNext : N → ClientPair P C → List (List ℕ) → List ℕ → N → Type 0
  CalmNext = NextIsCalm r b one_turn IsNumber HasRoom MaySend IsTurn

  -- what may be sent at all
  abbrev AnyNext : N → ClientPair P C → List (List ℕ) → List ℕ → N → Type 0
  AnyNext = NextInPair r b one_turn IsNumber HasRoom MaySend IsTurn

  -- the front ends show the sessions, and no command waits
  abbrev CalmFit : N → FrontPair V A T → ClientPair P C → List (List ℕ) → Type 0
  CalmFit n = Calm r b IsNumber Shows MaySend

  -- the front ends show the sessions, whether a command waits or none
  abbrev AnyFit : N → FrontPair V A T → ClientPair P C → List (List ℕ) → Type 0
  AnyFit n = PairFit r b IsNumber Shows MaySend

  -- where nothing waits, no command does
  calm-by : (p : FrontPair V A T) (s : ClientPair P C) (frames : List (List ℕ)) → frames ≡ []
      → PairFit r b IsNumber Shows MaySend p s frames
      → Calm r b IsNumber Shows MaySend p s frames
  calm-by p s frames none (is_calm c) = c
  calm-by p s frames none (is_targeting t) = let wrong : t.frame ∷ [] ≡ [] = sym t.frames_are ∙ none in absurd cc

  -- a second front end that fits shows its session
  second-shown : (side : P) (second : C) (next : ℕ) (two : Option (Second V T)) (attached : Option ℕ)
      → TwoFit r b IsNumber Shows side second next [] two attached → SecondShows r b IsNumber Shows side second two attached
  second-shown side second next _ _ neither = no_second
  second-shown side second next _ _ (both k v number few shows) = one_second k v shows

  module _ {L : Type 0} where
    -- the streams fit the sessions, and no command waits
    abbrev Fit : World (ClientPair P C) N L → Type 0
    Fit w = PairFits r b IsNumber Shows MaySend w

    -- the streams fit the sessions, whether a command waits or none
    abbrev AnyFits : World (ClientPair P C) N L → Type 0
    AnyFits w = Fits (take_pair r) (join_pair r) AnyFit (first_pair r) w

    -- ---- the start

    pub pair-first : (nothing : N) (told : L) (side : P) → Shows r.begin side b.fresh []
        → Fit (first_world nothing told (client_pair side b.fresh b.fresh None 1))
    pair-first nothing told side shows =
        fits-first machine Room CalmNext (λ n. IsTurn) CalmFit
        (calm_laws r b reads HasRoom IsNumber MaySend IsTurn IsOutward Shows laws one_turn) (first_pair r) nothing told
        (client_pair side b.fresh b.fresh None 1)
        (record {
          one = shows;
          two = neither;
          calm = tt;
          none_waiting = refl;
          top = omega arith;
          attached_told = refl;
          asked = λ k low more. refl;
        })

    -- ---- an attach or a detach, between two settles

    any : (w : World (ClientPair P C) N L) → Fit w → AnyFits w
    any w fits = record {
      front = fits.front;
      is_fold = fits.is_fold;
      fit = is_calm fits.fit;
      up_whole = fits.up_whole;
      down_whole = fits.down_whole;
    }

    -- nothing waits after a settle
    still : (w : World (ClientPair P C) N L) → AnyFits (settled machine.step w) → awaited (settled machine.step w).up ≡ []
    still w fits =
        let w1 = settled machine.step w in
        let none : w1.up.flying ≡ [] = given-all w.up in
        awaited-none w1.up none (ap (λ bytes. (frames_of bytes).rest) (sym (sent-all w1.up none)) ∙ fits.up_whole)

    settled-any : (w : World (ClientPair P C) N L) → RoomToSettle machine Room w → AnyFits w → AnyFits (settled machine.step w)
    settled-any w room fits =
        fits-settled machine Room AnyNext (λ n. IsTurn) AnyFit
        (pair_laws r b reads HasRoom IsNumber MaySend IsTurn IsOutward Shows laws one_turn) (first_pair r) w room fits

    target-fits : (text : List ℕ) (more : N → N) (w : World (ClientPair P C) N L)
        → MayTargetNext r b one_turn IsNumber HasRoom MaySend IsTurn text more w → Fit w
        → Fit (settled machine.step (sent_up text more (settled machine.step w)))
    target-fits text more w may fits =
        let w1 = settled machine.step w in
        let first : AnyFits w1 = settled-any w may.room (any w fits) in
        let w2 = sent_up text more w1 in
        let second : AnyFits w2 =
        fits-sent_up machine Room AnyNext (λ n. IsTurn) AnyFit
        (pair_laws r b reads HasRoom IsNumber MaySend IsTurn IsOutward Shows laws one_turn) (first_pair r) text more w1 may.letters
        (next_target may.waiting (still w first) may.may_target) first in
        let third : AnyFits (settled machine.step w2) = settled-any w2 may.room_after second in
        record {
          front = third.front;
          is_fold = third.is_fold;
          fit = calm-by third.front (settled machine.step w2).state (awaited (settled machine.step w2).up) (still w2 third) third.fit;
          up_whole = third.up_whole;
          down_whole = third.down_whole;
        }

    -- ---- any part

    pair-passage-fits : (p : PairPassage X N) (w : World (ClientPair P C) N L)
        → MayPassPair r b one_turn IsNumber HasRoom MaySend IsTurn p w → Fit w → Fit (after_pair_passage r b one_turn p w)
    pair-passage-fits (passing p) w may fits =
        passage-fits machine Room CalmNext (λ n. IsTurn) CalmFit
        (calm_laws r b reads HasRoom IsNumber MaySend IsTurn IsOutward Shows laws one_turn) (first_pair r) p w may fits
    pair-passage-fits (targeting text more) w may fits = target-fits text more w may fits

    pub pair-passages-fit : (n : ℕ) (ps : List (PairPassage X N)) (w : World (ClientPair P C) N L)
        → MayPassPairAll r b one_turn IsNumber HasRoom MaySend IsTurn ps w → Fit w → Fit (after_pair_passages r b one_turn (take n ps) w)
    pair-passages-fit zero ps w may fits = fits
    pair-passages-fit (suc n) [] w may fits = fits
    pair-passages-fit (suc n) (p ∷ ps) w may fits =
        pair-passages-fit n ps (after_pair_passage r b one_turn p w) may.1 (pair-passage-fits p w may.0 fits)

    -- ---- once all has come

    both-shown : (w : World (ClientPair P C) N L) → awaited w.up ≡ [] → Fit w → BothShown r b IsNumber Shows w
    both-shown w none fits =
        let c : Calm r b IsNumber Shows MaySend fits.front w.state [] =
        subst (λ frames. Calm r b IsNumber Shows MaySend fits.front w.state frames) none fits.fit in
        record {
          fronts = fits.front;
          is_fold = fits.is_fold;
          first_shows = c.one;
          second_shows = second-shown w.state.side w.state.second w.state.next fits.front.two w.state.attached c.two;
          none_waits = c.none_waiting;
        }

    pub settled-shown : (w : World (ClientPair P C) N L) → RoomToSettle machine Room w → Fit w
        → BothShown r b IsNumber Shows (settled machine.step w)
    settled-shown w room fits =
        let fits1 : Fit (settled machine.step w) =
        fits-settled machine Room CalmNext (λ n. IsTurn) CalmFit
        (calm_laws r b reads HasRoom IsNumber MaySend IsTurn IsOutward Shows laws one_turn) (first_pair r) w room fits in
        both-shown (settled machine.step w) (still w (any (settled machine.step w) fits1)) fits1
