-- The fetches of a settle: the run with them goes on agreeing with the run without, and no text is old after them.
use Rattle.std.proofs.Common.{◌≡◌, ℕ, ◌+◌, ◌≤◌, true, cond, List, [], ◌∷◌, ◌++◌, length, refl, sym, ◌∙◌, ap, subst, append-nil, arith, Ok}
use Rattle.std.proofs.Math.Seq.{take-length}
use Rattle.pipe_frames.specs.Frames.{IsText, framed, frames_of, frames_from}
use Rattle.pipe_frames.proofs.FrameLemmas.{frames_of-one}
use Rattle.session_runs.specs.Stream.{Stream, sent, put_last, held, arriving, awaited}
use Rattle.session_runs.specs.World.{World, Stepped, steps, sent_up, delivered_up, settled}
use Rattle.session_runs.specs.Fold.{folded, asks_joined, Machine, Laws, RoomThroughout, Fits}
use Rattle.session_runs.specs.Fetches.{Fetcher, front_in, fetched, fetched_if, all_fetched, stale_in, refreshed, IsDue, GivesText}
use Rattle.session_runs.specs.Fetches.{FetchLaws}
use Rattle.session_runs.specs.Agreement.{IsLike, IsStill, IsAtRest, RunsAgree}
use Rattle.session_runs.proofs.Frames.{sent-passed, given-all, sent-all, awaited-none}
use Rattle.session_runs.proofs.Folds.{folded-rest}
use Rattle.session_runs.proofs.Worlds.{whole-after, fits-sent_up, fits-settled}
use Rattle.session_runs.proofs.AgreeLemmas.{ok-one, front-sent_up, agrees-settled}

-- still streams are alike
like-still : (s t : Stream) → IsStill s → IsStill t → IsLike s t
like-still s t a b = record { flying = a.flying ∙ sym b.flying; held = a.held ∙ sym b.held }

-- a stream like a still one is still
still-like : (s t : Stream) → IsLike s t → IsStill t → IsStill s
still-like s t like still = record { flying = like.flying ∙ still.flying; held = like.held ∙ still.held }

-- one frame arrives where the stream was still
pub arriving-one : (text : List ℕ) (s : Stream) → IsText text → IsStill s
    → arriving (length (put_last (framed text) s).flying) (put_last (framed text) s) ≡ text ∷ []
arriving-one text s letters still =
    let bytes = s.flying ++ framed text in
    ap (frames_from (held s)) (take-length bytes)
    ∙ ap (λ rest. frames_from rest bytes) still.held
    ∙ ap (λ flying. (frames_of (flying ++ framed text)).whole) still.flying
    ∙ ap (λ fs. fs.whole) (frames_of-one text letters)

module _ {S F E X N L : Type 0} (machine : Machine S F E X N) (Fit : N → F → S → List (List ℕ) → Type 0) where
  -- after a settle both pipes are still
  pub settled-rests : (start : F) (w : World S N L) → Fits machine.take machine.join Fit start (settled machine.step w)
      → IsAtRest (settled machine.step w)
  settled-rests start w fits =
      let w1 = settled machine.step w in
      let up : w1.up.flying ≡ [] = given-all w.up in
      let down : w1.down.flying ≡ [] = given-all (delivered_up machine.step (length w.up.flying) w).down in
      record {
        up = record { flying = up; held = ap (λ bytes. (frames_of bytes).rest) (sym (sent-all w1.up up)) ∙ fits.up_whole };
        down = record { flying = down; held = ap (λ bytes. (frames_of bytes).rest) (sym (sent-all w1.down down)) ∙ fits.down_whole };
      }

  -- where nothing is on its way, the front end is the one that fits
  pub front-rests : (start : F) (w : World S N L) (fits : Fits machine.take machine.join Fit start w) → IsAtRest w
      → front_in machine start w ≡ Ok fits.front
  front-rests start w fits rests =
      ap (λ bytes. folded machine.take (asks_joined machine.join start (frames_of (sent w.up)).whole) (frames_of bytes).whole)
      (sym (sent-all w.down rests.down.flying))
      ∙ fits.is_fold

  -- and it waits for nothing
  pub fit-rests : (start : F) (w : World S N L) (front : F) (fits : Fits machine.take machine.join Fit start w) → IsAtRest w
      → front_in machine start w ≡ Ok front
      → Fit w.spent front w.state []
  fit-rests start w front fits rests is =
      subst (λ frames. Fit w.spent front w.state frames) (awaited-none w.up rests.up.flying rests.up.held)
      (subst (λ f. Fit w.spent f w.state (awaited w.up))
      (ok-one (front_in machine start w) fits.front front (front-rests start w fits rests) is) fits.fit)

module _ {S F E X A N L M R : Type 0} (machine : Machine S F E X N) (HasRoom : S → Type 0)
    (IsNext : N → S → List (List ℕ) → List ℕ → N → Type 0) (IsTurn : N → X → Type 0) (Fit : N → F → S → List (List ℕ) → Type 0)
    (laws : Laws machine HasRoom IsNext IsTurn Fit) (plainly : N → M) (fetcher : Fetcher F N) (seen : F → A) (rest : F → R)
    (sheets most : ℕ)
    (fetching : FetchLaws machine HasRoom IsNext Fit plainly fetcher seen rest sheets most) where
  -- ---- one fetch

  -- the run v goes on with a fetch to after, and agrees with w as before
  pub record IsFetched (start : F) (w v after : World S N L) (before : F) (numbers : List ℕ) : Type 0 where
    pub fits : Fits machine.take machine.join Fit start after
    pub rests : IsAtRest after
    pub agrees : RunsAgree machine plainly start seen w after
    pub left : fetcher.stale agrees.fresh ≡ numbers
    pub fetches : fetcher.count after.spent ≡ fetcher.count v.spent + 1
    pub others : rest agrees.fresh ≡ rest before

  pub one-fetched : (start : F) (w v : World S N L) (number : ℕ) (numbers : List ℕ)
      → Fits machine.take machine.join Fit start v → IsAtRest v → (agrees : RunsAgree machine plainly start seen w v)
      → fetcher.stale agrees.fresh ≡ number ∷ numbers → fetcher.count v.spent + 1 ≤ most → HasRoom v.state
      → IsFetched start w v (fetched machine fetcher number v) agrees.fresh numbers
  one-fetched start w v number numbers fits rests agrees first room has =
      let front = agrees.fresh in
      let text = fetcher.text (fetcher.count v.spent) number in
      let due : IsDue Fit fetcher most v.spent front v.state number numbers =
      record { fit = fit-rests machine Fit start v front fits rests agrees.fresh_is; first = first; left = room } in
      let letters : IsText text = fetching.letters v.spent front v.state number numbers due in
      let v1 = sent_up text fetcher.one_more v in
      let after = settled machine.step v1 in
      let fits1 : Fits machine.take machine.join Fit start v1 =
      fits-sent_up machine HasRoom IsNext IsTurn Fit laws start text fetcher.one_more v letters
      (subst (λ frames. IsNext v.spent v.state frames text (fetcher.one_more v.spent))
      (sym (awaited-none v.up rests.up.flying rests.up.held))
      (fetching.next v.spent front v.state number numbers has due)) fits in
      let fits2 : Fits machine.take machine.join Fit start after = fits-settled machine HasRoom IsNext IsTurn Fit laws start v1
      (subst (RoomThroughout machine.step HasRoom v.state) (sym (arriving-one text v.up letters rests.up)) (has, tt)) fits1 in
      let rests2 : IsAtRest after = settled-rests machine Fit start v1 fits2 in
      let stepped : Stepped S = machine.step v.state text in
      let made : steps machine.step v.state (arriving (length v1.up.flying) v1.up)
      ≡ record { state = stepped.state; sent = stepped.sent ++ [] } =
      ap (steps machine.step v.state) (arriving-one text v.up letters rests.up) in
      let out = (steps machine.step v.state (arriving (length v1.up.flying) v1.up)).sent in
      let out_is : out ≡ stepped.sent = ap (λ (s : Stepped S). s.sent) made ∙ append-nil stepped.sent in
      let asked : F = machine.join front text in
      let start1 = asks_joined machine.join start (frames_of (sent v1.up)).whole in
      let given : folded machine.take start1 (frames_of v.down.given).whole ≡ Ok asked =
      front-sent_up machine HasRoom IsNext IsTurn Fit laws plainly fetcher seen rest sheets most fetching start text
      fetcher.one_more v front letters fits agrees.fresh_is in
      let down : sent after.down ≡ v.down.given ++ stepped.sent =
      sent-passed (length (put_last out v.down).flying) (put_last out v.down)
      ∙ ap (λ flying. v.down.given ++ (flying ++ out)) rests.down.flying ∙ ap (λ bytes. v.down.given ++ bytes) out_is in
      let all : folded machine.take start1 ((frames_of v.down.given).whole ++ (frames_of stepped.sent).whole) ≡ Ok fits2.front =
      ap (folded machine.take start1) (sym (whole-after v.down.given stepped.sent rests.down.held))
      ∙ ap (λ bytes. folded machine.take start1 (frames_of bytes).whole) (sym down)
      ∙ ap (λ bytes. folded machine.take (asks_joined machine.join start (frames_of bytes).whole) (frames_of (sent after.down)).whole)
      (sym (sent-passed (length v1.up.flying) v1.up))
      ∙ fits2.is_fold in
      let coming : folded machine.take asked (frames_of stepped.sent).whole ≡ Ok fits2.front =
      folded-rest machine.take start1 asked fits2.front (frames_of v.down.given).whole (frames_of stepped.sent).whole given all in
      let gives : GivesText fetcher seen rest front fits2.front v.state stepped.state numbers =
      fetching.answer v.spent front fits2.front v.state number numbers has due coming in
      record {
        fits = fits2;
        rests = rests2;
        agrees = record {
          state = agrees.state ∙ sym gives.state_is ∙ sym (ap (λ (s : Stepped S). s.state) made);
          up = like-still w.up after.up (still-like w.up v.up agrees.up rests.up) rests2.up;
          down = like-still w.down after.down (still-like w.down v.down agrees.down rests.down) rests2.down;
          spent = agrees.spent ∙ sym (fetching.plain v.spent);
          plain = agrees.plain;
          fresh = fits2.front;
          plain_is = agrees.plain_is;
          fresh_is = front-rests machine Fit start after fits2 rests2;
          same = agrees.same ∙ sym gives.same;
        };
        left = gives.left;
        fetches = fetching.counts v.spent;
        others = gives.others;
      }

  -- ---- all fetches of a settle

  -- the run v goes on with these fetches to after, and agrees with w as before; no text is old
  pub record AreFetched (start : F) (w v after : World S N L) (before : F) (numbers : List ℕ) : Type 0 where
    pub fits : Fits machine.take machine.join Fit start after
    pub rests : IsAtRest after
    pub agrees : RunsAgree machine plainly start seen w after
    pub none : fetcher.stale agrees.fresh ≡ []
    pub fetches : fetcher.count after.spent ≡ fetcher.count v.spent + length numbers
    pub others : rest agrees.fresh ≡ rest before
    pub state_is : after.state ≡ v.state

  -- a sheet that the front end knows is fetched
  fetched-known : (start : F) (v : World S N L) (front : F) (number : ℕ) → front_in machine start v ≡ Ok front
      → fetcher.knows front number ≡ true
      → fetched_if machine fetcher (front_in machine start v) number v ≡ fetched machine fetcher number v
  fetched-known start v front number is known =
      ap (λ result. fetched_if machine fetcher result number v) is ∙ ap (λ b. cond b (fetched machine fetcher number v) v) known

  pub all-fetched : (start : F) (numbers : List ℕ) (w v : World S N L)
      → Fits machine.take machine.join Fit start v → IsAtRest v → (agrees : RunsAgree machine plainly start seen w v)
      → fetcher.stale agrees.fresh ≡ numbers → fetcher.count v.spent + length numbers ≤ most → HasRoom v.state
      → AreFetched start w v (all_fetched machine fetcher start numbers v) agrees.fresh numbers
  all-fetched start [] w v fits rests agrees stale room has = record {
    fits = fits;
    rests = rests;
    agrees = agrees;
    none = stale;
    fetches = omega arith;
    others = refl;
    state_is = refl;
  }
  all-fetched start (number ∷ numbers) w v fits rests agrees stale room has =
      let known = fetching.known agrees.fresh number numbers stale in
      let one : IsFetched start w v
      (fetched machine fetcher number v) agrees.fresh numbers = one-fetched start w v number numbers fits rests agrees
      stale (omega (arith, room)) has in
      let same : (fetched machine fetcher number v).state ≡ v.state = sym one.agrees.state ∙ agrees.state in
      let fetches : fetcher.count (fetched machine fetcher number v).spent ≡ fetcher.count v.spent + 1 = one.fetches in
      let others : AreFetched start w (fetched machine fetcher number v)
      (all_fetched machine fetcher start numbers (fetched machine fetcher number v)) one.agrees.fresh numbers =
      all-fetched start numbers w (fetched machine fetcher number v) one.fits one.rests one.agrees one.left (omega (arith, room))
      (subst HasRoom (sym same) has) in
      let whole : AreFetched start w v (all_fetched machine fetcher start numbers (fetched machine fetcher number v))
      agrees.fresh (number ∷ numbers) = record {
        fits = others.fits;
        rests = others.rests;
        agrees = others.agrees;
        none = others.none;
        fetches = let e = others.fetches in omega (arith, e);
        others = others.others ∙ one.others;
        state_is = others.state_is ∙ same;
      } in
      subst (λ u. AreFetched start w v (all_fetched machine fetcher start numbers u) agrees.fresh (number ∷ numbers))
      (sym (fetched-known start v agrees.fresh number agrees.fresh_is known)) whole

  -- ---- a settle

  -- a settle with its fetches: the run goes on to after, which agrees with the settled w; no text is old
  pub record IsRefreshed (start : F) (w v after : World S N L) : Type 0 where
    pub fits : Fits machine.take machine.join Fit start after
    pub rests : IsAtRest after
    pub agrees : RunsAgree machine plainly start seen (settled machine.step w) after
    pub none : fetcher.stale agrees.fresh ≡ []
    pub fetches : fetcher.count after.spent ≤ fetcher.count v.spent + sheets
    pub state_is : after.state ≡ (settled machine.step v).state

  pub refreshed-made : (start : F) (w v : World S N L)
      → Fits machine.take machine.join Fit start w → Fits machine.take machine.join Fit start v
      → RunsAgree machine plainly start seen w v → fetcher.count v.spent + sheets ≤ most
      → RoomThroughout machine.step HasRoom w.state (arriving (length w.up.flying) w.up)
      → RoomThroughout machine.step HasRoom v.state (arriving (length v.up.flying) v.up)
      → HasRoom (settled machine.step v).state
      → IsRefreshed start w v (refreshed machine fetcher start v)
  refreshed-made start w v fits fits1 agrees room has has1 last =
      let v1 = settled machine.step v in
      let settles : Fits machine.take machine.join Fit start v1 = fits-settled machine HasRoom IsNext IsTurn Fit laws start v has1 fits1 in
      let rests : IsAtRest v1 = settled-rests machine Fit start v settles in
      let on : RunsAgree machine plainly start seen
      (settled machine.step w) v1 = agrees-settled machine HasRoom IsNext IsTurn Fit laws plainly fetcher seen rest sheets most
      fetching start w v has
      (subst (λ k. RoomThroughout machine.step HasRoom v.state (arriving k v.up)) (sym (ap length agrees.up.flying)) has1) fits fits1
      agrees in
      let numbers = fetcher.stale on.fresh in
      let few : length numbers ≤ sheets = fetching.few v1.spent on.fresh v1.state []
      (fit-rests machine Fit start v1 on.fresh settles rests on.fresh_is) in
      let all : AreFetched start (settled machine.step w) v1 (all_fetched machine fetcher start numbers v1) on.fresh numbers =
      all-fetched start numbers (settled machine.step w) v1 settles rests on refl (omega (arith, few, room)) last in
      let whole : IsRefreshed start w v (all_fetched machine fetcher start numbers v1) = record {
        fits = all.fits;
        rests = all.rests;
        agrees = all.agrees;
        none = all.none;
        fetches = let e = all.fetches in omega (arith, e, few);
        state_is = all.state_is;
      } in
      subst (λ stale. IsRefreshed start w v (all_fetched machine fetcher start stale v1)) (sym (ap (stale_in fetcher) on.fresh_is)) whole
