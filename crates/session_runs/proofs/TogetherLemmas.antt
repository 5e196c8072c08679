-- Two runs of one script go on together, line by line.
use Rattle.std.proofs.Common.{◌≡◌, ℕ, ◌+◌, ◌≤◌, List, [], ◌∷◌, length, refl, sym, subst}
use Rattle.std.specs.List.{All}
use Rattle.std.proofs.lemmas.List.Elements.{All-nil, All-cons, All-append}
use Rattle.pipe_frames.specs.Frames.{IsText, frames_of}
use Rattle.session_runs.specs.Stream.{sent, awaited, arriving}
use Rattle.session_runs.specs.World.{World, first_world, sent_up, turned}
use Rattle.session_runs.specs.World.{delivered_up, delivered_down, settled}
use Rattle.session_runs.specs.Fold.{Machine, Laws, RoomThroughout, Fits}
use Rattle.session_runs.specs.Fetches.{Fetcher, refreshed, FetchLaws}
use Rattle.session_runs.specs.Agreement.{RunTogether}
use Rattle.session_runs.proofs.Frames.{sent-passed}
use Rattle.session_runs.proofs.Worlds.{whole-framed, fits-first, fits-sent_up, fits-turned, fits-delivered_up, fits-delivered_down}
use Rattle.session_runs.proofs.Worlds.{fits-settled}
use Rattle.session_runs.proofs.AgreeLemmas.{agrees-sent_up, agrees-turned, agrees-delivered_up, agrees-delivered_down}
use Rattle.session_runs.proofs.FetchLemmas.{IsRefreshed, refreshed-made}

module _ {S F E X A N L M R : Type 0} (machine : Machine S F E X N) (HasRoom : S → Type 0)
    (IsNext : N → S → List (List ℕ) → List ℕ → N → Type 0) (IsTurn : N → X → Type 0) (Fit : N → F → S → List (List ℕ) → Type 0)
    (laws : Laws machine HasRoom IsNext IsTurn Fit) (plainly : N → M) (fetcher : Fetcher F N) (seen : F → A) (rest : F → R)
    (sheets most : ℕ)
    (fetching : FetchLaws machine HasRoom IsNext Fit plainly fetcher seen rest sheets most)
    (IsPlain : List ℕ → Type 0) where
  -- a run that is at its start goes together with itself
  pub together-first : (start : F) (nothing : N) (told : L) (state : S) → Fit nothing start state []
      → RunTogether machine plainly Fit start seen IsPlain (first_world nothing told state) (first_world nothing told state)
  unfolding frames_of
  together-first start nothing told state fit =
      let fits : Fits machine.take machine.join Fit start (first_world nothing told state) =
      fits-first machine HasRoom IsNext IsTurn Fit laws start nothing told state fit in
      record {
        fits = fits;
        fits_fresh = fits;
        agrees = record {
          state = refl;
          up = record { flying = refl; held = refl };
          down = record { flying = refl; held = refl };
          spent = refl;
          plain = start;
          fresh = start;
          plain_is = refl;
          fresh_is = refl;
          same = refl;
        };
        plain = All-nil IsPlain;
      }

  -- one plain frame more
  plain-framed : (text : List ℕ) (w : World S N L) (more : N → N) → IsText text → (frames_of (sent w.up)).rest ≡ [] → IsPlain text
      → All IsPlain (frames_of (sent w.up)).whole → All IsPlain (frames_of (sent (sent_up text more w).up)).whole
  plain-framed text w more letters none one all =
      subst (λ frames. All IsPlain frames) (sym (whole-framed text w.up letters none))
      (All-append IsPlain (frames_of (sent w.up)).whole (text ∷ []) all (All-cons IsPlain text [] one (All-nil IsPlain)))

  -- a frame is sent that is no fetch
  pub together-sent_up : (start : F) (text : List ℕ) (more : N → N) (w v : World S N L) → IsText text → IsPlain text
      → plainly (more w.spent) ≡ plainly (more v.spent)
      → IsNext w.spent w.state (awaited w.up) text (more w.spent) → IsNext v.spent v.state (awaited v.up) text (more v.spent)
      → RunTogether machine plainly Fit start seen IsPlain w v
      → RunTogether machine plainly Fit start seen IsPlain (sent_up text more w) (sent_up text more v)
  together-sent_up start text more w v letters one spent next next1 both = record {
    fits = fits-sent_up machine HasRoom IsNext IsTurn Fit laws start text more w letters next both.fits;
    fits_fresh = fits-sent_up machine HasRoom IsNext IsTurn Fit laws start text more v letters next1 both.fits_fresh;
    agrees = agrees-sent_up machine HasRoom IsNext IsTurn Fit laws plainly fetcher seen rest sheets most fetching start text
        more w v letters spent both.fits both.fits_fresh both.agrees;
    plain = plain-framed text w more letters both.fits.up_whole one both.plain;
  }

  -- the script makes a step by itself
  pub together-turned : (start : F) (x : X) (w v : World S N L) → HasRoom w.state → HasRoom v.state → IsTurn w.spent x → IsTurn v.spent x
      → RunTogether machine plainly Fit start seen IsPlain w v
      → RunTogether machine plainly Fit start seen IsPlain (turned machine.one_turn machine.act x w)
      (turned machine.one_turn machine.act x v)
  together-turned start x w v room room1 turn turn1 both = record {
    fits = fits-turned machine HasRoom IsNext IsTurn Fit laws start x w room turn both.fits;
    fits_fresh = fits-turned machine HasRoom IsNext IsTurn Fit laws start x v room1 turn1 both.fits_fresh;
    agrees = agrees-turned machine HasRoom IsNext IsTurn Fit laws plainly fetcher seen rest sheets most fetching start x w v both.agrees;
    plain = both.plain;
  }

  -- bytes are delivered
  pub together-delivered_up : (start : F) (n : ℕ) (w v : World S N L)
      → RoomThroughout machine.step HasRoom w.state (arriving n w.up) → RoomThroughout machine.step HasRoom v.state (arriving n v.up)
      → RunTogether machine plainly Fit start seen IsPlain w v
      → RunTogether machine plainly Fit start seen IsPlain (delivered_up machine.step n w) (delivered_up machine.step n v)
  together-delivered_up start n w v room room1 both = record {
    fits = fits-delivered_up machine HasRoom IsNext IsTurn Fit laws start n w room both.fits;
    fits_fresh = fits-delivered_up machine HasRoom IsNext IsTurn Fit laws start n v room1 both.fits_fresh;
    agrees = agrees-delivered_up machine HasRoom IsNext IsTurn Fit laws plainly fetcher seen rest sheets most fetching start n w v
        both.agrees;
    plain = subst (λ bytes. All IsPlain (frames_of bytes).whole) (sym (sent-passed n w.up)) both.plain;
  }

  pub together-delivered_down : (start : F) (n : ℕ) (w v : World S N L)
      → RunTogether machine plainly Fit start seen IsPlain w v
      → RunTogether machine plainly Fit start seen IsPlain (delivered_down n w) (delivered_down n v)
  together-delivered_down start n w v both = record {
    fits = fits-delivered_down machine HasRoom IsNext IsTurn Fit laws start n w both.fits;
    fits_fresh = fits-delivered_down machine HasRoom IsNext IsTurn Fit laws start n v both.fits_fresh;
    agrees = agrees-delivered_down machine HasRoom IsNext IsTurn Fit laws plainly fetcher seen rest sheets most fetching start n w
        v both.fits both.fits_fresh both.agrees;
    plain = both.plain;
  }

  -- a settle: with its fetches in the one run, and without them in the other
  pub together-settled : (start : F) (w v : World S N L) → fetcher.count v.spent + sheets ≤ most
      → RoomThroughout machine.step HasRoom w.state (arriving (length w.up.flying) w.up)
      → RoomThroughout machine.step HasRoom v.state (arriving (length v.up.flying) v.up)
      → HasRoom (settled machine.step v).state
      → RunTogether machine plainly Fit start seen IsPlain w v
      → RunTogether machine plainly Fit start seen IsPlain (settled machine.step w) (refreshed machine fetcher start v)
  together-settled start w v room has has1 last both =
      let made : IsRefreshed machine HasRoom IsNext IsTurn Fit laws plainly fetcher seen rest sheets most fetching start w v
      (refreshed machine fetcher start v) =
      refreshed-made machine HasRoom IsNext IsTurn Fit laws plainly fetcher seen rest sheets most fetching start w v both.fits
      both.fits_fresh both.agrees room has has1 last
      in
      record {
        fits = fits-settled machine HasRoom IsNext IsTurn Fit laws start w has both.fits;
        fits_fresh = made.fits;
        agrees = made.agrees;
        plain = subst (λ bytes. All IsPlain (frames_of bytes).whole) (sym (sent-passed (length w.up.flying) w.up)) both.plain;
      }
