-- Each part of a run keeps that the whole streams, folded, fit the state.
use Rattle.std.proofs.Common.{◌≡◌, ℕ, List, [], ◌∷◌, ◌++◌, length, refl, sym, ◌∙◌, ap, subst, append_assoc, append-nil}
use Rattle.pipe_frames.specs.Frames.{IsText, framed, frames_of, frames_from, held_after}
use Rattle.pipe_frames.proofs.FrameLemmas.{frames_of-append, frames_of-one, frames_from-append}
use Rattle.session_runs.specs.Stream.{Stream, sent, put_last, passed, held, arriving, awaited}
use Rattle.session_runs.specs.World.{World, Stepped, first_world, steps, sent_up, turned}
use Rattle.session_runs.specs.World.{answered, given_up, delivered_up, delivered_down, settled}
use Rattle.cdp_json.specs.Lookups.{then_ok}
use Rattle.session_runs.specs.Fold.{folded, asks_joined, Machine, Laws, Leads, RoomThroughout, FitsWith, Fits}
use Rattle.session_runs.proofs.Frames.{rest-sent, sent-passed, awaited-passed}
use Rattle.session_runs.proofs.Folds.{folded-append, joined-append}

-- bytes after whole frames
pub whole-after : (before more : List ℕ) → (frames_of before).rest ≡ []
    → (frames_of (before ++ more)).whole ≡ (frames_of before).whole ++ (frames_of more).whole
whole-after before more none =
    ap (λ fs. fs.whole) (frames_of-append before more)
    ∙ ap (λ rest. (frames_of before).whole ++ frames_from rest more) none

pub rest-after : (before more : List ℕ) → (frames_of before).rest ≡ []
    → (frames_of (before ++ more)).rest ≡ (frames_of more).rest
rest-after before more none =
    ap (λ fs. fs.rest) (frames_of-append before more) ∙ ap (λ rest. held_after rest more) none

-- the frames of a stream on which one frame more was put_last
pub whole-framed : (text : List ℕ) (s : Stream) → IsText text → (frames_of (sent s)).rest ≡ []
    → (frames_of (sent (put_last (framed text) s))).whole ≡ (frames_of (sent s)).whole ++ text ∷ []
whole-framed text s letters none =
    ap (λ bytes. (frames_of bytes).whole) (sym (append_assoc s.given s.flying (framed text)))
    ∙ whole-after (sent s) (framed text) none
    ∙ ap (λ fs. (frames_of (sent s)).whole ++ fs.whole) (frames_of-one text letters)

-- nothing is sent
pub put-nil : (s : Stream) → put_last [] s ≡ s
put-nil s = ap (λ bytes. record { given = s.given; flying = bytes }) (append-nil s.flying)

-- one frame is answered, and then the others
pub answered-cons : {S N L : Type 0} (step : S → List ℕ → Stepped S) (frame : List ℕ) (frames : List (List ℕ)) (w : World S N L)
    → answered step (frame ∷ frames) w ≡ answered step frames (answered step (frame ∷ []) w)
answered-cons step frame frames w =
    let first = (step w.state frame).sent in
    let later = (steps step (step w.state frame).state frames).sent in
    let state = (steps step (step w.state frame).state frames).state in
    let same : w.down.flying ++ (first ++ later) ≡ (w.down.flying ++ (first ++ [])) ++ later =
    sym (append_assoc w.down.flying first later)
    ∙ ap (λ bytes. (w.down.flying ++ bytes) ++ later) (sym (append-nil first)) in
    ap (λ bytes. record w { state = state; down = record w.down { flying = bytes } }) same

-- where there always is room, there is room throughout
pub always-room : {S : Type 0} (step : S → List ℕ → Stepped S) (HasRoom : S → Type 0) → ((state : S) → HasRoom state) → (state : S)
    (frames : List (List ℕ)) → RoomThroughout step HasRoom state frames
always-room step HasRoom always state [] = tt
always-room step HasRoom always state (frame ∷ frames) = (always state, always-room step HasRoom always (step state frame).state frames)

module _ {S F E X N L : Type 0} (machine : Machine S F E X N) (HasRoom : S → Type 0) (IsNext : N → S → List (List ℕ) → List ℕ → N → Type 0)
    (IsTurn : N → X → Type 0) (Fit : N → F → S → List (List ℕ) → Type 0) (laws : Laws machine HasRoom IsNext IsTurn Fit) where
  -- before anything was sent
  pub fits-first : (start : F) (nothing : N) (told : L) (state : S) → Fit nothing start state []
      → Fits machine.take machine.join Fit start (first_world nothing told state)
  unfolding frames_of
  fits-first start nothing told state fit = record { front = start; is_fold = refl; fit = fit; up_whole = refl; down_whole = refl }

  -- a frame is sent
  pub fits-sent_up : (start : F) (ask : List ℕ) (more : N → N) (w : World S N L) → IsText ask → IsNext w.spent w.state (awaited w.up) ask
      (more w.spent)
      → Fits machine.take machine.join Fit start w → Fits machine.take machine.join Fit start (sent_up ask more w)
  fits-sent_up start ask more w letters is_next fits =
      let all : (frames_of (sent (sent_up ask more w).up)).whole
      ≡ (frames_of (sent w.up)).whole ++ ask ∷ [] = whole-framed ask w.up letters fits.up_whole in
      let none : held_after (held w.up) w.up.flying ≡ [] = sym (rest-sent w.up) ∙ fits.up_whole in
      let last : awaited (sent_up ask more w).up ≡ awaited w.up ++ ask ∷ [] =
      frames_from-append (held w.up) w.up.flying (framed ask)
      ∙ ap (λ rest. awaited w.up ++ frames_from rest (framed ask)) none
      ∙ ap (λ fs. awaited w.up ++ fs.whole) (frames_of-one ask letters) in
      record {
        front = machine.join fits.front ask;
        is_fold =
            ap (λ asks. folded machine.take (asks_joined machine.join start asks) (frames_of (sent w.down)).whole) all
            ∙ ap (λ front. folded machine.take front (frames_of (sent w.down)).whole)
            (joined-append machine.join start (frames_of (sent w.up)).whole (ask ∷ []))
            ∙ laws.later ask (asks_joined machine.join start (frames_of (sent w.up)).whole) fits.front
            (frames_of (sent w.down)).whole fits.is_fold;
        fit = subst (λ frames. Fit (more w.spent) (machine.join fits.front ask) w.state frames) (sym last)
            (laws.asks w.spent (more w.spent) ask fits.front w.state (awaited w.up) is_next fits.fit);
        up_whole =
            ap (λ bytes. (frames_of bytes).rest) (sym (append_assoc w.up.given w.up.flying (framed ask)))
            ∙ rest-after (sent w.up) (framed ask) fits.up_whole
            ∙ ap (λ fs. fs.rest) (frames_of-one ask letters);
        down_whole = fits.down_whole;
      }

  -- bytes are given up: the frames that become whole are the first that wait
  pub fits-given_up : (start : F) (n : ℕ) (w : World S N L) → Fits machine.take machine.join Fit start w
      → FitsWith machine.take machine.join Fit start (given_up n w) (arriving n w.up ++ awaited (passed n w.up))
  fits-given_up start n w fits = record {
    front = fits.front;
    is_fold =
        ap (λ bytes. folded machine.take (asks_joined machine.join start (frames_of bytes).whole) (frames_of (sent w.down)).whole)
        (sent-passed n w.up)
        ∙ fits.is_fold;
    fit = subst (λ frames. Fit w.spent fits.front w.state frames) (awaited-passed n w.up) fits.fit;
    up_whole = ap (λ bytes. (frames_of bytes).rest) (sent-passed n w.up) ∙ fits.up_whole;
    down_whole = fits.down_whole;
  }

  -- what a step sends is put_last down after all else
  fits-put : (start : F) (frames : List (List ℕ)) (w : World S N L) (fits : FitsWith machine.take machine.join Fit start w frames)
      (stepped : Stepped S) (n : N) (more : List (List ℕ)) → Leads machine.take (Fit n) fits.front stepped more
      → FitsWith machine.take machine.join Fit start
      (record w { state = stepped.state; down = put_last stepped.sent w.down; spent = n }) more
  fits-put start frames w fits stepped n more leads =
      let front = asks_joined machine.join start (frames_of (sent w.up)).whole in
      let out = stepped.sent in
      let all : (frames_of (sent (put_last out w.down))).whole ≡ (frames_of (sent w.down)).whole ++ (frames_of out).whole =
      ap (λ bytes. (frames_of bytes).whole) (sym (append_assoc w.down.given w.down.flying out))
      ∙ whole-after (sent w.down) out fits.down_whole in
      record {
        front = leads.after;
        is_fold =
            ap (folded machine.take front) all
            ∙ folded-append machine.take front (frames_of (sent w.down)).whole (frames_of out).whole
            ∙ ap (λ result. then_ok result (λ next. folded machine.take next (frames_of out).whole)) fits.is_fold
            ∙ leads.is_fold;
        fit = leads.fit;
        up_whole = fits.up_whole;
        down_whole =
            ap (λ bytes. (frames_of bytes).rest) (sym (append_assoc w.down.given w.down.flying out))
            ∙ rest-after (sent w.down) out fits.down_whole
            ∙ leads.whole;
      }

  -- the script makes a step by itself
  pub fits-turned : (start : F) (x : X) (w : World S N L) → HasRoom w.state → IsTurn w.spent x → Fits machine.take machine.join Fit start w
      → Fits machine.take machine.join Fit start (turned machine.one_turn machine.act x w)
  fits-turned start x w room is_turn fits =
      fits-put start (awaited w.up) w fits (machine.act x w.state) (machine.one_turn w.spent) (awaited w.up)
      (laws.turns w.spent x fits.front w.state (awaited w.up) room is_turn fits.fit)

  -- one frame is answered
  pub fits-answered_one : (start : F) (frame : List ℕ) (frames : List (List ℕ)) (w : World S N L) → HasRoom w.state
      → FitsWith machine.take machine.join Fit start w (frame ∷ frames)
      → FitsWith machine.take machine.join Fit start (answered machine.step (frame ∷ []) w) frames
  fits-answered_one start frame frames w room fits =
      subst (λ bytes. FitsWith machine.take machine.join Fit start
      (record w { state = (machine.step w.state frame).state; down = put_last bytes w.down }) frames)
      (sym (append-nil (machine.step w.state frame).sent))
      (fits-put start (frame ∷ frames) w fits (machine.step w.state frame) w.spent frames
      (laws.answers w.spent frame fits.front w.state frames room fits.fit))

  -- all of some frames are answered
  pub fits-answered : (start : F) (frames more : List (List ℕ)) (w : World S N L) → RoomThroughout machine.step HasRoom w.state frames
      → FitsWith machine.take machine.join Fit start w (frames ++ more)
      → FitsWith machine.take machine.join Fit start (answered machine.step frames w) more
  fits-answered start [] more w room fits =
      subst (λ down. FitsWith machine.take machine.join Fit start
      (record w { down = down }) more) (sym (put-nil w.down)) fits
  fits-answered start (frame ∷ frames) more w room fits =
      subst (λ v. FitsWith machine.take machine.join Fit start v more) (sym (answered-cons machine.step frame frames w))
      (fits-answered start frames more (answered machine.step (frame ∷ []) w) room.1
      (fits-answered_one start frame (frames ++ more) w room.0 fits))

  pub fits-delivered_up : (start : F) (n : ℕ) (w : World S N L) → RoomThroughout machine.step HasRoom w.state (arriving n w.up)
      → Fits machine.take machine.join Fit start w → Fits machine.take machine.join Fit start (delivered_up machine.step n w)
  fits-delivered_up start n w room fits =
      fits-answered start (arriving n w.up) (awaited (passed n w.up)) (given_up n w) room (fits-given_up start n w fits)

  pub fits-delivered_down : (start : F) (n : ℕ) (w : World S N L)
      → Fits machine.take machine.join Fit start w → Fits machine.take machine.join Fit start (delivered_down n w)
  fits-delivered_down start n w fits = record {
    front = fits.front;
    is_fold =
        ap (λ bytes. folded machine.take (asks_joined machine.join start (frames_of (sent w.up)).whole) (frames_of bytes).whole)
        (sent-passed n w.down)
        ∙ fits.is_fold;
    fit = fits.fit;
    up_whole = fits.up_whole;
    down_whole = ap (λ bytes. (frames_of bytes).rest) (sent-passed n w.down) ∙ fits.down_whole;
  }

  pub fits-settled : (start : F) (w : World S N L) → RoomThroughout machine.step HasRoom w.state (arriving (length w.up.flying) w.up)
      → Fits machine.take machine.join Fit start w → Fits machine.take machine.join Fit start (settled machine.step w)
  fits-settled start w room fits =
      let after = delivered_up machine.step (length w.up.flying) w in
      fits-delivered_down start (length after.down.flying) after (fits-delivered_up start (length w.up.flying) w room fits)
