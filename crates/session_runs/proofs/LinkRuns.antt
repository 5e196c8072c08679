-- A run goes on over a link as bytes are sent and given.
use Rattle.std.proofs.Common.{◌≡◌, ℕ, ◌+◌, ◌-◌, ◌≤◌, min, List, [], ◌∷◌, ◌++◌, length, take, drop, refl, sym, ◌∙◌, ap, subst, arith}
use Rattle.std.proofs.Common.{append_assoc, append-nil, length-append, Ok}
use Rattle.std.proofs.lemmas.List.{take-append-drop, take_min}
use Rattle.std.proofs.Math.Seq.{drop-append_seam}
use Rattle.pipe_frames.specs.Pipe.{Pipe, waiting}
use Rattle.pipe_frames.specs.Frames.{IsText, framed, frames_of, frames_from, held_after}
use Rattle.pipe_frames.proofs.FrameLemmas.{frames_of-one, frames_from-append}
use Rattle.session_runs.specs.Stream.{Stream, no_stream, sent, put_last, passed, held, arriving, awaited}
use Rattle.session_runs.specs.World.{World, first_world, steps, sent_up, turned, answered, given_up, delivered_up, delivered_down, settled}
use Rattle.cdp_json.specs.Lookups.{then_ok}
use Rattle.session_runs.specs.Fold.{folded, asks_joined, Machine, Laws}
use Rattle.session_runs.specs.LinkRuns.{Carries, Pipes, LinkCounts, OnLink}
use Rattle.session_runs.proofs.Frames.{rest-sent, sent-passed, awaited-passed, whole-sent, rest-given, whole-given}
use Rattle.session_runs.proofs.Folds.{Halves, folded-append, folded-halves, folded-rest}
use Rattle.session_runs.proofs.Worlds.{fits-first, fits-sent_up, fits-turned, fits-given_up, fits-answered_one}

-- ---- one pipe

-- at the start nothing is on its way
pub carries-start : (start : Pipe) → start.given ≡ start.sent → Carries start start no_stream
carries-start start level = record { level = level; sent_is = sym (append-nil start.sent); given_is = sym (append-nil start.given) }

-- after a put
pub carries-put : (start old new : Pipe) (piece : List ℕ) (s : Stream) → Carries start old s
    → new.sent ≡ old.sent ++ piece → new.given ≡ old.given → Carries start new (put_last piece s)
carries-put start old new piece s carries put_is given_is = record {
  level = carries.level;
  sent_is =
      put_is ∙ ap (λ bytes. bytes ++ piece) carries.sent_is
      ∙ append_assoc start.sent (sent s) piece
      ∙ ap (λ bytes. start.sent ++ bytes) (append_assoc s.given s.flying piece);
  given_is = given_is ∙ carries.given_is;
}

-- what waits in the pipe is what is on its way
pub waiting-is : (start now : Pipe) (s : Stream) → Carries start now s → waiting now ≡ s.flying
waiting-is start now s carries =
    ap (λ bytes. drop (length now.given) bytes)
    (carries.sent_is ∙ sym (append_assoc start.sent s.given s.flying)
    ∙ ap (λ bytes. bytes ++ s.given ++ s.flying) (sym carries.level)
    ∙ ap (λ bytes. bytes ++ s.flying) (sym carries.given_is))
    ∙ drop-append_seam now.given s.flying

-- after a get that gave what was asked for and is there
pub carries-get : (start old new : Pipe) (piece : List ℕ) (n : ℕ) (s : Stream) → Carries start old s
    → new.sent ≡ old.sent → new.given ≡ old.given ++ piece → piece ≡ take n s.flying → Carries start new (passed n s)
carries-get start old new piece n s carries sent_is given_is is_front = record {
  level = carries.level;
  sent_is = sent_is ∙ carries.sent_is ∙ ap (λ bytes. start.sent ++ bytes) (sym (sent-passed n s));
  given_is =
      given_is ∙ ap (λ bytes. bytes ++ piece) carries.given_is
      ∙ append_assoc start.given s.given piece
      ∙ ap (λ bytes. start.given ++ (s.given ++ bytes)) is_front;
}

-- ---- counts

-- how many bytes are left of a stream
pub left-passed : (n there there' : ℕ) (piece : List ℕ) (s : Stream) → there ≡ length s.flying → piece ≡ take n s.flying
    → there' ≡ there - length piece → there' ≡ length (passed n s).flying
left-passed n there there' piece s is front after =
    let whole : length (take n s.flying) + length (drop n s.flying) ≡ length s.flying =
    sym (length-append (take n s.flying) (drop n s.flying)) ∙ ap length (take-append-drop n s.flying) in
    let same : length piece ≡ length (take n s.flying) = ap length front in
    omega (arith, is, after, whole, same)

-- as many bytes as are asked for and are there
pub came-front : (now : Pipe) (n there max : ℕ) (piece : List ℕ) (s : Stream) → waiting now ≡ s.flying → there ≡ length s.flying
    → max ≡ min n there → piece ≡ take max (waiting now) → piece ≡ take n s.flying
came-front now n there max piece s waits is max_is front =
    front ∙ ap (take max) waits ∙ ap (λ m. take m s.flying) max_is
    ∙ ap (λ m. take (min n m) s.flying) is ∙ take_min n s.flying

-- what is sent is put last
left-put : (old there : ℕ) (piece flying : List ℕ) → old ≡ length flying → there ≡ old + length piece → there ≡ length (flying ++ piece)
left-put old there piece flying before after = after ∙ ap (λ n. n + length piece) before ∙ sym (length-append flying piece)

-- ---- frames on their way

-- a frame more that is sent is the last of those on their way
pub awaited-framed : (text : List ℕ) (s : Stream) → IsText text → (frames_of (sent s)).rest ≡ []
    → awaited (put_last (framed text) s) ≡ awaited s ++ text ∷ []
awaited-framed text s letters whole =
    let none : held_after (held s) s.flying ≡ [] = sym (rest-sent s) ∙ whole in
    frames_from-append (held s) s.flying (framed text)
    ∙ ap (λ rest. awaited s ++ frames_from rest (framed text)) none
    ∙ ap (λ fs. awaited s ++ fs.whole) (frames_of-one text letters)

-- all that was sent
pub sent-framed : (text : List ℕ) (s : Stream) → sent (put_last (framed text) s) ≡ sent s ++ framed text
sent-framed text s = sym (append_assoc s.given s.flying (framed text))

module _ {S F E X N L : Type 0} (machine : Machine S F E X N) (HasRoom : S → Type 0) (IsNext : N → S → List (List ℕ) → List ℕ → N → Type 0)
    (IsTurn : N → X → Type 0) (Fit : N → F → S → List (List ℕ) → Type 0) (laws : Laws machine HasRoom IsNext IsTurn Fit) (first : F) where
  -- what the ends count waits in the link
  pub link-waits : (start now : Pipes) (w : World S N L) (frames : List (List ℕ)) (c : LinkCounts)
      → OnLink machine Fit first start now w frames c
      → (c.up_there ≤ length (waiting now.up)) × (c.down_there ≤ length (waiting now.down))
  link-waits start now w frames c on =
      let above : length (waiting now.up) ≡ length w.up.flying = ap length (waiting-is start.up now.up w.up on.up_is) in
      let below : length (waiting now.down) ≡ length w.down.flying = ap length (waiting-is start.down now.down w.down on.down_is) in
      (omega (arith, above, on.up_left), omega (arith, below, on.down_left))

  -- before anything was sent
  pub link-first : (start : Pipes) (nothing : N) (told : L) (state : S) → start.up.given ≡ start.up.sent
      → start.down.given ≡ start.down.sent
      → Fit nothing first state []
      → OnLink machine Fit first start start (first_world nothing told state) [] (record { back_rest = []; up_there = 0; down_there = 0 })
  unfolding frames_of
  link-first start nothing told state up_level down_level fit = record {
    up_is = carries-start start.up up_level;
    down_is = carries-start start.down down_level;
    back_is = refl;
    up_left = refl;
    down_left = refl;
    fits = fits-first machine HasRoom IsNext IsTurn Fit laws first nothing told state fit;
  }

  -- a frame is sent
  pub link-sent_up : (start now : Pipes) (up1 : Pipe) (w : World S N L) (c : LinkCounts) (text : List ℕ) (more : N → N) (there : ℕ)
      → OnLink machine Fit first start now w (awaited w.up) c → IsText text → IsNext w.spent w.state (awaited w.up) text (more w.spent)
      → up1.sent ≡ now.up.sent ++ framed text → up1.given ≡ now.up.given → there ≡ c.up_there + length (framed text)
      → OnLink machine Fit first start (record { up = up1; down = now.down }) (sent_up text more w) (awaited (sent_up text more w).up)
      (record c { up_there = there })
  link-sent_up start now up1 w c text more there on letters is_next sent_is given_is left = record {
    up_is = carries-put start.up now.up up1 (framed text) w.up on.up_is sent_is given_is;
    down_is = on.down_is;
    back_is = on.back_is;
    up_left = left-put c.up_there there (framed text) w.up.flying on.up_left left;
    down_left = on.down_left;
    fits = fits-sent_up machine HasRoom IsNext IsTurn Fit laws first text more w letters is_next on.fits;
  }

  -- bytes come up
  pub link-given_up : (start now : Pipes) (up1 : Pipe) (w : World S N L) (c : LinkCounts) (n there : ℕ) (piece rest : List ℕ)
      → OnLink machine Fit first start now w (awaited w.up) c → piece ≡ take n w.up.flying
      → up1.sent ≡ now.up.sent → up1.given ≡ now.up.given ++ piece → there ≡ c.up_there - length piece
      → rest ≡ held_after c.back_rest piece
      → OnLink machine Fit first start (record { up = up1; down = now.down }) (given_up n w) (arriving n w.up ++ awaited (passed n w.up))
      (record c { back_rest = rest; up_there = there })
  link-given_up start now up1 w c n there piece rest on front_part sent_is given_is left rest_is = record {
    up_is = carries-get start.up now.up up1 piece n w.up on.up_is sent_is given_is front_part;
    down_is = on.down_is;
    back_is =
        rest_is ∙ ap (λ held. held_after held piece) on.back_is
        ∙ ap (λ bytes. held_after (held w.up) bytes) front_part ∙ sym (rest-given n w.up);
    up_left = left-passed n c.up_there there piece w.up on.up_left front_part left;
    down_left = on.down_left;
    fits = fits-given_up machine HasRoom IsNext IsTurn Fit laws first n w on.fits;
  }

  -- a frame that came up whole is answered
  pub link-answered : (start now : Pipes) (down1 : Pipe) (w : World S N L) (frame : List ℕ) (frames : List (List ℕ)) (c : LinkCounts)
      (out : List ℕ) (there : ℕ)
      → OnLink machine Fit first start now w (frame ∷ frames) c → HasRoom w.state → out ≡ (machine.step w.state frame).sent
      → down1.sent ≡ now.down.sent ++ out → down1.given ≡ now.down.given → there ≡ c.down_there + length out
      → OnLink machine Fit first start (record { up = now.up; down = down1 }) (answered machine.step (frame ∷ []) w) frames
      (record c { down_there = there })
  link-answered start now down1 w frame frames c out there on room out_is sent_is given_is left =
      let all : out ≡ (steps machine.step w.state (frame ∷ [])).sent = out_is ∙ sym (append-nil (machine.step w.state frame).sent) in
      record {
        up_is = on.up_is;
        down_is = subst (λ piece. Carries start.down down1 (put_last piece w.down)) all
            (carries-put start.down now.down down1 out w.down on.down_is sent_is given_is);
        back_is = on.back_is;
        up_left = on.up_left;
        down_left = subst (λ piece. there ≡ length (w.down.flying ++ piece)) all
            (left-put c.down_there there out w.down.flying on.down_left left);
        fits = fits-answered_one machine HasRoom IsNext IsTurn Fit laws first frame frames w room on.fits;
      }

  -- the script makes a step by itself
  pub link-turned : (start now : Pipes) (down1 : Pipe) (w : World S N L) (x : X) (c : LinkCounts) (out : List ℕ) (there : ℕ)
      → OnLink machine Fit first start now w (awaited w.up) c → HasRoom w.state → IsTurn w.spent x → out ≡ (machine.act x w.state).sent
      → down1.sent ≡ now.down.sent ++ out → down1.given ≡ now.down.given → there ≡ c.down_there + length out
      → OnLink machine Fit first start (record { up = now.up; down = down1 }) (turned machine.one_turn machine.act x w) (awaited w.up)
      (record c { down_there = there })
  link-turned start now down1 w x c out there on room is_turn out_is sent_is given_is left = record {
    up_is = on.up_is;
    down_is = subst (λ piece. Carries start.down down1 (put_last piece w.down)) out_is
        (carries-put start.down now.down down1 out w.down on.down_is sent_is given_is);
    back_is = on.back_is;
    up_left = on.up_left;
    down_left = subst (λ piece. there ≡ length (w.down.flying ++ piece)) out_is
        (left-put c.down_there there out w.down.flying on.down_left left);
    fits = fits-turned machine HasRoom IsNext IsTurn Fit laws first x w room is_turn on.fits;
  }

  -- bytes come down
  pub link-delivered_down : (start now : Pipes) (down1 : Pipe) (w : World S N L) (frames : List (List ℕ)) (c : LinkCounts) (n there : ℕ)
      (piece : List ℕ)
      → OnLink machine Fit first start now w frames c → piece ≡ take n w.down.flying
      → down1.sent ≡ now.down.sent → down1.given ≡ now.down.given ++ piece → there ≡ c.down_there - length piece
      → OnLink machine Fit first start (record { up = now.up; down = down1 }) (delivered_down n w) frames (record c { down_there = there })
  link-delivered_down start now down1 w frames c n there piece on front_part sent_is given_is left = record {
    up_is = on.up_is;
    down_is = carries-get start.down now.down down1 piece n w.down on.down_is sent_is given_is front_part;
    back_is = on.back_is;
    up_left = on.up_left;
    down_left = left-passed n c.down_there there piece w.down on.down_left front_part left;
    fits = record {
      front = on.fits.front;
      is_fold =
          ap (λ bytes. folded machine.take (asks_joined machine.join first (frames_of (sent w.up)).whole) (frames_of bytes).whole)
          (sent-passed n w.down)
          ∙ on.fits.is_fold;
      fit = on.fits.fit;
      up_whole = on.fits.up_whole;
      down_whole = ap (λ bytes. (frames_of bytes).rest) (sent-passed n w.down) ∙ on.fits.down_whole;
    };
  }

  -- ---- the fold of what came down

  -- The fold of what was given, and what the front ends take of what comes next: it meets no fault.
  pub record TakesMore (w : World S N L) (value : F) (n : ℕ) : Type 0 where
    pub after : F
    pub coming : folded machine.take value (arriving n w.down) ≡ Ok after
    pub is_fold : folded machine.take (asks_joined machine.join first (frames_of (sent w.up)).whole) (frames_of (passed n
        w.down).given).whole ≡ Ok after

  pub link-takes : (start now : Pipes) (w : World S N L) (frames : List (List ℕ)) (c : LinkCounts) (value : F) (n : ℕ)
      → OnLink machine Fit first start now w frames c
      → folded machine.take (asks_joined machine.join first (frames_of (sent w.up)).whole) (frames_of w.down.given).whole ≡ Ok value
      → TakesMore w value n
  link-takes start now w frames c value n on is_fold =
      let begin = asks_joined machine.join first (frames_of (sent w.up)).whole in
      let given = (frames_of w.down.given).whole in
      let all : folded machine.take begin (given ++ awaited w.down) ≡ Ok on.fits.front =
      ap (folded machine.take begin) (sym (whole-sent w.down)) ∙ on.fits.is_fold in
      let coming : folded machine.take value (awaited w.down) ≡ Ok on.fits.front =
      folded-rest machine.take begin value on.fits.front given (awaited w.down) is_fold all in
      let halves : Halves machine.take value on.fits.front (arriving n w.down) (awaited (passed n w.down)) =
      folded-halves machine.take value on.fits.front (arriving n w.down) (awaited (passed n w.down))
      (ap (folded machine.take value) (sym (awaited-passed n w.down)) ∙ coming) in
      record {
        after = halves.middle;
        coming = halves.before;
        is_fold =
            ap (folded machine.take begin) (whole-given n w.down)
            ∙ folded-append machine.take begin given (arriving n w.down)
            ∙ ap (λ result. then_ok result (λ next. folded machine.take next (arriving n w.down))) is_fold
            ∙ halves.before;
      }
