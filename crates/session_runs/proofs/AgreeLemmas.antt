-- Two runs go on alike as the same is sent, done and delivered in both.
use Rattle.std.proofs.Common.{◌≡◌, ℕ, List, [], ◌∷◌, ◌++◌, length, take, drop, sym, ◌∙◌, ap, subst, Result, Ok, Err}
use Rattle.pipe_frames.specs.Frames.{IsText, framed, frames_of, frames_from, held_after}
use Rattle.session_runs.specs.Stream.{Stream, sent, put_last, passed, held, arriving, awaited}
use Rattle.session_runs.specs.World.{World, Stepped, steps, sent_up, turned, given_up, delivered_up}
use Rattle.session_runs.specs.World.{delivered_down, settled}
use Rattle.cdp_json.specs.Lookups.{then_ok}
use Rattle.session_runs.specs.Fold.{folded, asks_joined, Machine, Laws, RoomThroughout, Fits}
use Rattle.session_runs.specs.Fetches.{Fetcher, front_in, FetchLaws}
use Rattle.session_runs.specs.Agreement.{IsLike, RunsAgree}
use Rattle.session_runs.proofs.Frames.{sent-passed, awaited-passed, whole-sent, whole-given, rest-given}
use Rattle.session_runs.proofs.Folds.{Halves, folded-append, folded-halves, folded-rest, joined-append}
use Rattle.session_runs.proofs.Worlds.{whole-framed, fits-delivered_up}

-- ---- streams

pub like-put : (piece : List ℕ) (s t : Stream) → IsLike s t → IsLike (put_last piece s) (put_last piece t)
like-put piece s t like = record { flying = ap (λ bytes. bytes ++ piece) like.flying; held = like.held }

pub like-arriving : (n : ℕ) (s t : Stream) → IsLike s t → arriving n s ≡ arriving n t
like-arriving n s t like = ap (λ rest. frames_from rest (take n s.flying)) like.held ∙ ap
    (λ bytes. frames_from (held t) (take n bytes)) like.flying

pub like-passed : (n : ℕ) (s t : Stream) → IsLike s t → IsLike (passed n s) (passed n t)
like-passed n s t like = record {
  flying = ap (drop n) like.flying;
  held =
      rest-given n s
      ∙ ap (λ rest. held_after rest (take n s.flying)) like.held
      ∙ ap (λ bytes. held_after (held t) (take n bytes)) like.flying
      ∙ sym (rest-given n t);
}

-- ---- folds

-- a result with its value is that value
then-ok : {F E : Type 0} (result : Result F E) (value : F) → then_ok result (λ next. Ok next) ≡ Ok value → result ≡ Ok value
then-ok (Ok next) value e = e
then-ok (Err fault) value e = absurd cc

ok-same : {F E : Type 0} (a b : F) → ◌≡◌ {A = Result F E} (Ok a) (Ok b) → a ≡ b
ok-same a b e = cc

pub ok-one : {F E : Type 0} (result : Result F E) (a b : F) → result ≡ Ok a → result ≡ Ok b → a ≡ b
ok-one {F} {E} result a b x y = ok-same {F = F} {E = E} a b (sym x ∙ y)

-- fronts that show the same and take the same frames show the same then
seen-folded : {F E A : Type 0} (take : F → List ℕ → Result F E) (seen : F → A)
    → ((v w v1 w1 : F) (frame : List ℕ) → seen v ≡ seen w → take v frame ≡ Ok v1 → take w frame ≡ Ok w1 → seen v1 ≡ seen w1)
    → (frames : List (List ℕ)) (v w v1 w1 : F) → seen v ≡ seen w → folded take v frames ≡ Ok v1 → folded take w frames ≡ Ok w1
    → seen v1 ≡ seen w1
seen-folded {F} {E} take seen takes [] v w v1 w1 same a b =
    sym (ap seen (ok-same {F = F} {E = E} v v1 a)) ∙ same ∙ ap seen (ok-same {F = F} {E = E} w w1 b)
seen-folded take seen takes (frame ∷ frames) v w v1 w1 same a b =
    let p : Halves take v v1 (frame ∷ []) frames = folded-halves take v v1 (frame ∷ []) frames a in
    let q : Halves take w w1 (frame ∷ []) frames = folded-halves take w w1 (frame ∷ []) frames b in
    seen-folded take seen takes frames p.middle q.middle v1 w1
    (takes v w p.middle q.middle frame same (then-ok (take v frame) p.middle p.before) (then-ok (take w frame) q.middle q.before))
    p.after q.after

module _ {S F E X A N L M R : Type 0} (machine : Machine S F E X N) (HasRoom : S → Type 0)
    (IsNext : N → S → List (List ℕ) → List ℕ → N → Type 0) (IsTurn : N → X → Type 0) (Fit : N → F → S → List (List ℕ) → Type 0)
    (laws : Laws machine HasRoom IsNext IsTurn Fit) (plainly : N → M) (fetcher : Fetcher F N) (seen : F → A) (rest : F → R)
    (sheets most : ℕ)
    (fetching : FetchLaws machine HasRoom IsNext Fit plainly fetcher seen rest sheets most) where
  -- the front end after a frame was sent
  pub front-sent_up : (start : F) (text : List ℕ) (more : N → N) (w : World S N L) (front : F) → IsText text
      → Fits machine.take machine.join Fit start w
      → front_in machine start w ≡ Ok front → front_in machine start (sent_up text more w) ≡ Ok (machine.join front text)
  front-sent_up start text more w front letters fits is =
      ap (λ asks. folded machine.take (asks_joined machine.join start asks) (frames_of w.down.given).whole)
      (whole-framed text w.up letters fits.up_whole)
      ∙ ap (λ first. folded machine.take first (frames_of w.down.given).whole)
      (joined-append machine.join start (frames_of (sent w.up)).whole (text ∷ []))
      ∙ laws.later text (asks_joined machine.join start (frames_of (sent w.up)).whole) front (frames_of w.down.given).whole is

  -- the front end after bytes came down
  record IsGiven (start : F) (n : ℕ) (w : World S N L) (front : F) : Type 0 where
    after : F
    is_front : front_in machine start (delivered_down n w) ≡ Ok after
    is_fold : folded machine.take front (arriving n w.down) ≡ Ok after

  front-given : (start : F) (n : ℕ) (w : World S N L) (front : F) → Fits machine.take machine.join Fit start w
      → front_in machine start w ≡ Ok front
      → IsGiven start n w front
  front-given start n w front fits is =
      let first = asks_joined machine.join start (frames_of (sent w.up)).whole in
      let given = (frames_of w.down.given).whole in
      let all : folded machine.take first (given ++ awaited w.down)
      ≡ Ok fits.front = ap (folded machine.take first) (sym (whole-sent w.down)) ∙ fits.is_fold in
      let coming : folded machine.take front (awaited w.down)
      ≡ Ok fits.front = folded-rest machine.take first front fits.front given (awaited w.down) is all in
      let halves : Halves machine.take front fits.front (arriving n w.down) (awaited (passed n w.down)) =
      folded-halves machine.take front fits.front (arriving n w.down) (awaited (passed n w.down))
      (ap (folded machine.take front) (sym (awaited-passed n w.down)) ∙ coming) in
      record {
        after = halves.middle;
        is_front =
            ap (folded machine.take first) (whole-given n w.down)
            ∙ folded-append machine.take first given (arriving n w.down)
            ∙ ap (λ result. then_ok result (λ next. folded machine.take next (arriving n w.down))) is
            ∙ halves.before;
        is_fold = halves.before;
      }

  -- a frame is sent that is no fetch
  pub agrees-sent_up : (start : F) (text : List ℕ) (more : N → N) (w v : World S N L) → IsText text
      → plainly (more w.spent) ≡ plainly (more v.spent)
      → Fits machine.take machine.join Fit start w → Fits machine.take machine.join Fit start v
      → RunsAgree machine plainly start seen w v → RunsAgree machine plainly start seen (sent_up text more w) (sent_up text more v)
  agrees-sent_up start text more w v letters spent fits fits1 agrees = record {
    state = agrees.state;
    up = like-put (framed text) w.up v.up agrees.up;
    down = agrees.down;
    spent = spent;
    plain = machine.join agrees.plain text;
    fresh = machine.join agrees.fresh text;
    plain_is = front-sent_up start text more w agrees.plain letters fits agrees.plain_is;
    fresh_is = front-sent_up start text more v agrees.fresh letters fits1 agrees.fresh_is;
    same = fetching.joins agrees.plain agrees.fresh text agrees.same;
  }

  -- what a step sends is put_last down in both
  agrees-put : (start : F) (stepped stepped1 : Stepped S) (n n1 : N) (w v : World S N L) → stepped ≡ stepped1
      → plainly n ≡ plainly n1 → RunsAgree machine plainly start seen w v
      → RunsAgree machine plainly start seen (record w {
        state = stepped.state;
        down = put_last stepped.sent w.down;
        spent = n;
      })
      (record v { state = stepped1.state; down = put_last stepped1.sent v.down; spent = n1 })
  agrees-put start stepped stepped1 n n1 w v is spent agrees = record {
    state = ap (λ (s : Stepped S). s.state) is;
    up = agrees.up;
    down = subst (λ (s : Stepped S). IsLike (put_last stepped.sent w.down) (put_last s.sent v.down)) is
        (like-put stepped.sent w.down v.down agrees.down);
    spent = spent;
    plain = agrees.plain;
    fresh = agrees.fresh;
    plain_is = agrees.plain_is;
    fresh_is = agrees.fresh_is;
    same = agrees.same;
  }

  -- the script makes a step by itself
  pub agrees-turned : (start : F) (x : X) (w v : World S N L)
      → RunsAgree machine plainly start seen w v → RunsAgree machine plainly start seen (turned machine.one_turn machine.act x w)
      (turned machine.one_turn machine.act x v)
  agrees-turned start x w v agrees =
      agrees-put start (machine.act x w.state) (machine.act x v.state) (machine.one_turn w.spent) (machine.one_turn v.spent) w v
      (ap (machine.act x) agrees.state)
      (fetching.turns w.spent v.spent agrees.spent) agrees

  -- bytes are given up
  agrees-given_up : (start : F) (n : ℕ) (w v : World S N L) → RunsAgree machine plainly start seen w v
      → RunsAgree machine plainly start seen (given_up n w) (given_up n v)
  agrees-given_up start n w v agrees = record {
    state = agrees.state;
    up = like-passed n w.up v.up agrees.up;
    down = agrees.down;
    spent = agrees.spent;
    plain = agrees.plain;
    fresh = agrees.fresh;
    plain_is = ap (λ bytes. folded machine.take (asks_joined machine.join start (frames_of bytes).whole) (frames_of w.down.given).whole)
        (sent-passed n w.up) ∙ agrees.plain_is;
    fresh_is = ap (λ bytes. folded machine.take (asks_joined machine.join start (frames_of bytes).whole) (frames_of v.down.given).whole)
        (sent-passed n v.up) ∙ agrees.fresh_is;
    same = agrees.same;
  }

  pub agrees-delivered_up : (start : F) (n : ℕ) (w v : World S N L)
      → RunsAgree machine plainly start seen w v → RunsAgree machine plainly start seen (delivered_up machine.step n w)
      (delivered_up machine.step n v)
  agrees-delivered_up start n w v agrees =
      agrees-put start (steps machine.step w.state (arriving n w.up)) (steps machine.step v.state (arriving n v.up)) w.spent v.spent
      (given_up n w) (given_up n v)
      (ap (λ state. steps machine.step state (arriving n w.up)) agrees.state ∙ ap (steps machine.step v.state)
      (like-arriving n w.up v.up agrees.up))
      agrees.spent (agrees-given_up start n w v agrees)

  pub agrees-delivered_down : (start : F) (n : ℕ) (w v : World S N L)
      → Fits machine.take machine.join Fit start w → Fits machine.take machine.join Fit start v
      → RunsAgree machine plainly start seen w v → RunsAgree machine plainly start seen (delivered_down n w) (delivered_down n v)
  agrees-delivered_down start n w v fits fits1 agrees =
      let p : IsGiven start n w agrees.plain = front-given start n w agrees.plain fits agrees.plain_is in
      let q : IsGiven start n v agrees.fresh = front-given start n v agrees.fresh fits1 agrees.fresh_is in
      record {
        state = agrees.state;
        up = agrees.up;
        down = like-passed n w.down v.down agrees.down;
        spent = agrees.spent;
        plain = p.after;
        fresh = q.after;
        plain_is = p.is_front;
        fresh_is = q.is_front;
        same =
            seen-folded machine.take seen fetching.takes (arriving n w.down) agrees.plain agrees.fresh p.after q.after agrees.same p.is_fold
            (ap (folded machine.take agrees.fresh) (like-arriving n w.down v.down agrees.down) ∙ q.is_fold);
      }

  -- all is delivered
  pub agrees-settled : (start : F) (w v : World S N L) → RoomThroughout machine.step HasRoom w.state (arriving (length w.up.flying) w.up)
      → RoomThroughout machine.step HasRoom v.state (arriving (length w.up.flying) v.up)
      → Fits machine.take machine.join Fit start w → Fits machine.take machine.join Fit start v
      → RunsAgree machine plainly start seen w v → RunsAgree machine plainly start seen (settled machine.step w) (settled machine.step v)
  agrees-settled start w v room room1 fits fits1 agrees =
      let n = length w.up.flying in
      let up : RunsAgree machine plainly start seen (delivered_up machine.step n w)
      (delivered_up machine.step n v) = agrees-delivered_up start n w v agrees in
      let m = length (delivered_up machine.step n w).down.flying in
      let down : RunsAgree machine plainly start seen (delivered_down m (delivered_up machine.step n w))
      (delivered_down m (delivered_up machine.step n v)) =
      agrees-delivered_down start m (delivered_up machine.step n w) (delivered_up machine.step n v)
      (fits-delivered_up machine HasRoom IsNext IsTurn Fit laws start n w room fits)
      (fits-delivered_up machine HasRoom IsNext IsTurn Fit laws start n v room1 fits1) up in
      subst (λ k. RunsAgree machine plainly start seen (settled machine.step w)
      (delivered_down (length (delivered_up machine.step k v).down.flying) (delivered_up machine.step k v)))
      (ap length agrees.up.flying)
      (subst (λ k. RunsAgree machine plainly start seen (settled machine.step w) (delivered_down k (delivered_up machine.step n v)))
      (ap length up.down.flying) down)
