-- A settle over an honest link: all is delivered, and then texts are fetched.
use Rattle.std.proofs.Common.{◌≡◌, ℕ, List, [], ◌++◌, length, Option, Some, None, option_map}
use Rattle.std.proofs.Common.{refl, sym, ◌∙◌, ap, subst, Result, Ok, Err}
use Rattle.std.specs.Prelude.{⊤}
use Rattle.std.specs.Result.{OnOk}
use Rattle.front_mirror.specs.declared.panels.Panel.{Ghosts}
use Rattle.front_mirror.specs.declared.replies.Ask.{Ask}
use Rattle.front_mirror.specs.Front.{FrontValue, FrontState}
use Rattle.pipe_frames.specs.Pipe.{Pipe}
use Rattle.session_mux.specs.Sessions.{session_text}
use Rattle.session_runs.specs.Stream.{arriving, awaited}
use Rattle.session_runs.specs.World.{delivered_up, delivered_down}
use Rattle.session_runs.specs.Fold.{RoomThroughout, Fits, FitsWith}
use Rattle.session_runs.specs.Agreement.{IsAtRest}
use Rattle.session_runs.specs.Pairs.{Second, pair_step}
use Rattle.session_runs.specs.PairFit.{TwoFit, neither, both}
use Rattle.session_runs.proofs.Frames.{awaited-none}
use Rattle.session_runs.proofs.FetchLemmas.{settled-rests, fit-rests}
use Rattle.multi_replay.specs.Laws.{pair_value, second_value}
use Rattle.back_end.specs.States.{Side}
use Rattle.pair_world.specs.Clients.{pair_reads, RunClient, client_steps}
use Rattle.pair_world.specs.Shown.{IsSessionNumber, Shows}
use Rattle.pair_world.specs.PairRuns.{PairRun, pair_settled}
use Rattle.pair_world.specs.PairFresh.{FrontValues, pair_runner, no_fronts, PairIsCalm, PairIsFit, PairRoom, SettleHasRoom}
use Rattle.pair_world.specs.PairHeld.{PairMode, calm, targeted, IsSecondOf}
use Rattle.pair_world.proofs.FetchBoth.{calm-alone}
use Rattle.replay_parts.specs.declared.stop.Stop.{Stop}
use Rattle.replay_parts.specs.Moments.{Moment}
use Rattle.pair_replay.specs.declared.two_fronts.TwoFronts.{TwoFronts}
use Rattle.pair_replay.specs.PairAnswers.{RoomTold}
use Rattle.pair_replay.specs.Running.{InPairRun, Aim, PairSteps, PairGoes, delivers_up, delivers_down, delivers_all}
use Rattle.pair_replay.proofs.StopLemmas.{room-iff}
use Rattle.pair_replay.proofs.LineRuns.{run-front}

-- what a part leads to, where it came through
pub on-ok : {T P Q : Type 0} (result : Result T Stop) → (P → Q) → OnOk result P → OnOk result Q
on-ok (Ok value) f p = f p
on-ok (Err stop) f p = tt

-- a call that goes whatever was spent goes where so much is left
pub any-spent : {P : Type 0} {g : Ghosts P} {T : Type 0} (result : Result T Stop) (old new : Moment (TwoFronts P g)) (bytes : ℕ) (aim : Aim)
    → PairGoes old new result aim → PairSteps bytes old new result aim
any-spent result old new bytes aim goes = λ mode up0 down0 w left may run. goes mode up0 down0 w may run

-- ---- once all has come

-- a second front end stands where a session is attached, and has its text
abbrev IsValueOf : Option (Second FrontValue (List ℕ)) → Option ℕ → Type 0
IsValueOf None None = ⊤
IsValueOf None (Some k) = ⊥
IsValueOf (Some v) None = ⊥
IsValueOf (Some v) (Some k) = v.text ≡ session_text k

two-is : (side : Side) (second : RunClient) (next : ℕ) (asks : List Ask) (two : Option (Second FrontValue (List ℕ))) (attached : Option ℕ)
    → TwoFit pair_reads client_steps IsSessionNumber Shows side second next asks two attached → IsValueOf two attached
two-is side second next asks _ _ neither = tt
two-is side second next asks _ _ (both k v is_number few shows) = refl

second-known : (two : Option (Second FrontState (List ℕ))) (attached : Option ℕ) → IsValueOf (option_map second_value two) attached
    → IsSecondOf two attached
second-known None None is = tt
second-known None (Some k) is = absurd is
second-known (Some w) None is = absurd is
second-known (Some w) (Some k) is = is

module _ {P : Type 0} {g : Ghosts P} (honest : Type 0) (up0 down0 up down : Pipe) (w : PairRun) (e : TwoFronts P g) where
  -- after a settle both pipes are still
  pub settled-still : (mode : PairMode) → InPairRun mode honest up0 down0 up down (pair_settled w) e → IsAtRest (pair_settled w)
  settled-still calm run =
      settled-rests pair_runner PairIsCalm no_fronts w
      (subst (λ ws. FitsWith pair_runner.take pair_runner.join PairIsCalm no_fronts (pair_settled w) (ws ++ awaited (pair_settled w).up))
      run.none_whole run.so_far.in_world.on_link.fits)
  settled-still targeted run =
      settled-rests pair_runner PairIsFit no_fronts w
      (subst (λ ws. FitsWith pair_runner.take pair_runner.join PairIsFit no_fronts (pair_settled w) (ws ++ awaited (pair_settled w).up))
      run.none_whole run.so_far.in_world.on_link.fits)

  -- and no attach and no detach is on its way
  pub calm-run : (mode : PairMode) → InPairRun mode honest up0 down0 up down (pair_settled w) e
      → InPairRun calm honest up0 down0 up down (pair_settled w) e
  calm-run calm run = run
  calm-run targeted run =
      let w1 = pair_settled w in
      let world = run.so_far.in_world in
      let link = world.on_link in
      let rests : IsAtRest w1 = settled-still targeted run in
      let still : awaited w1.up ≡ [] = awaited-none w1.up rests.up.flying rests.up.held in
      let none : e.ends.splitter.whole ++ awaited w1.up ≡ [] = ap (λ ws. ws ++ awaited w1.up) run.none_whole ∙ still in
      let fits : Fits pair_runner.take pair_runner.join PairIsFit no_fronts w1 =
      subst (λ ws. FitsWith pair_runner.take pair_runner.join PairIsFit no_fronts w1 (ws ++ awaited w1.up)) run.none_whole link.fits in
      let p : FrontValues = pair_value world.fronts_are.asked e.fronts.pair in
      let fit : PairIsCalm w1.spent p w1.state [] =
      calm-alone w1.spent p w1.state
      (fit-rests pair_runner PairIsFit no_fronts w1 p fits rests (run-front targeted honest up0 down0 up down w1 e run)) in
      record {
        so_far = record {
          is_honest = run.so_far.is_honest;
          in_world = record {
            on_link = record {
              up_is = link.up_is;
              down_is = link.down_is;
              back_is = link.back_is;
              up_left = link.up_left;
              down_left = link.down_left;
              fits = record {
                front = link.fits.front;
                is_fold = link.fits.is_fold;
                fit = subst (λ frames. PairIsCalm w1.spent link.fits.front w1.state frames) (sym none)
                    (calm-alone w1.spent link.fits.front w1.state
                    (subst (λ frames. PairIsFit w1.spent link.fits.front w1.state frames) none link.fits.fit));
                up_whole = link.fits.up_whole;
                down_whole = link.fits.down_whole;
              };
            };
            usual = world.usual;
            stands = world.stands;
            fronts_are = world.fronts_are;
            numbered = world.numbered;
            session = (
              fit.none_waiting,
              second-known e.fronts.pair.two w1.state.attached
                  (two-is w1.state.side w1.state.second w1.state.next _ p.two w1.state.attached fit.two),
            );
            alive = world.alive;
            first_alive = world.first_alive;
            panels = world.panels;
            first_told = world.first_told;
            second_told = world.second_told;
          };
        };
        none_whole = run.none_whole;
      }

-- ---- all is delivered

-- the room for all that is on its way up, by how many bytes the back end counts of it
abbrev UpHasRoom : PairRun → ℕ → Type 0
UpHasRoom w n = RoomThroughout (pair_step pair_reads client_steps) PairRoom w.state (arriving n w.up)

-- the up pipe was delivered, and then the down pipe
pub deliver-goes : {P : Type 0} {g : Ghosts P} (result : Result (Unit {0}) Stop) (old mid new : Moment (TwoFronts P g))
    → PairGoes {T = Unit {0}} old mid (Ok tt) (delivers_up old.ends.ends.up_there)
    → PairGoes mid new result (delivers_down mid.ends.ends.down_there)
    → PairGoes old new result delivers_all
deliver-goes result old mid new up down = λ mode up0 down0 w may run.
    let first = up mode up0 down0 w tt run in
    let after : ℕ → PairRun = λ n. delivered_up (pair_step pair_reads client_steps) n w in
    let all : old.ends.ends.up_there ≡ length w.up.flying = run.so_far.in_world.on_link.up_left in
    let then = down mode up0 down0 (after old.ends.ends.up_there) tt first.1 in
    let same : delivered_down mid.ends.ends.down_there (after old.ends.ends.up_there) ≡ pair_settled w =
    ap (λ m. delivered_down m (after old.ends.ends.up_there)) first.1.so_far.in_world.on_link.down_left
    ∙ ap (λ m. delivered_down (length (after m).down.flying) (after m)) all in (
      room-iff result ⊤ (SettleHasRoom w) (λ room. tt) (λ t. subst (UpHasRoom w) all first.0) then.0,
      on-ok result
          (λ r. calm-run new.honest up0 down0 new.up new.down w new.ends mode
          (subst (λ v. InPairRun mode new.honest up0 down0 new.up new.down v new.ends) same r)) then.1,
    )

-- or the up pipe was not
pub deliver-stops : {P : Type 0} {g : Ghosts P} (stop : Stop) (old new : Moment (TwoFronts P g))
    → PairGoes {T = Unit {0}} old new (Err stop) (delivers_up old.ends.ends.up_there)
    → PairGoes {T = Unit {0}} old new (Err stop) delivers_all
deliver-stops stop old new up = λ mode up0 down0 w may run.
    let all : old.ends.ends.up_there ≡ length w.up.flying = run.so_far.in_world.on_link.up_left in
    (subst (λ n. RoomTold {T = Unit {0}} (Err stop) (UpHasRoom w n)) all (up mode up0 down0 w tt run).0, tt)
