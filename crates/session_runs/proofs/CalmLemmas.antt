-- Frames that are the root's or the attached session's attach and detach none.
use Rattle.std.proofs.Common.{◌≡◌, ℕ, Bool, true, false, cond, length, List, [], ◌∷◌, ◌++◌, Option, Some, refl, sym, ◌∙◌, subst}
use Rattle.session_runs.specs.Stream.{awaited, arriving, passed}
use Rattle.session_runs.specs.World.{World, Stepped, steps, delivered_up, settled}
use Rattle.session_runs.specs.Pairs.{Way, FrontReads, ClientPair, client_pair, ClientSteps, way_step, pair_step, second_step, answers_with}
use Rattle.session_runs.specs.PairFit.{IsCalm, calm_root, calm_second, AreCalm}
use Rattle.session_runs.proofs.Frames.{awaited-passed}

module _ {V E A P C D X T : Type 0} (r : FrontReads V E A T) (b : ClientSteps P C D X T) (MaySend : List ℕ → Type 0) where
  -- whichever of two steps it is, no session is attached or detached
  either-keeps : (attached : Option ℕ) (same : Bool) (one two : Stepped (ClientPair P C)) → one.state.attached ≡ attached
      → two.state.attached ≡ attached
      → (cond same one two).state.attached ≡ attached
  either-keeps attached true one two first second = first
  either-keeps attached false one two first second = second

  way-keeps : (side : P) (root second : C) (attached : Option ℕ) (next : ℕ) (way : Way T) → IsCalm r b MaySend attached way
      → (way_step r b way (client_pair side root second attached next)).state.attached ≡ attached
  way-keeps side root second attached next _ (calm_root text may) = refl
  way-keeps side root second _ next _ (calm_second k text may) =
      let s = client_pair side root second (Some k) next in
      either-keeps (Some k) (r.same (b.text_of k) (b.text_of k)) (second_step r b k text s) (answers_with r b (b.unknown_reply text) s) refl
      refl

  -- a step on such a frame keeps the session that is attached
  pub step-keeps : (s : ClientPair P C) (frame : List ℕ) → IsCalm r b MaySend s.attached (r.way frame)
      → (pair_step r b s frame).state.attached ≡ s.attached
  step-keeps s frame calm = way-keeps s.side s.root s.second s.attached s.next (r.way frame) calm

  -- so do the steps on some
  pub steps-keep : (frames : List (List ℕ)) (s : ClientPair P C) → AreCalm r b MaySend s.attached frames
      → (steps (pair_step r b) s frames).state.attached ≡ s.attached
  steps-keep [] s calm = refl
  steps-keep (frame ∷ frames) s calm =
      let next = (pair_step r b s frame).state in
      let same : next.attached ≡ s.attached = step-keeps s frame calm.0 in
      let later : AreCalm r b MaySend next.attached frames =
      subst (λ attached. AreCalm r b MaySend attached frames) (sym same) calm.1 in
      steps-keep frames next later ∙ same

  -- the first of such frames are such
  pub calm-front : (attached : Option ℕ) (first more : List (List ℕ)) → AreCalm r b MaySend attached (first ++ more)
      → AreCalm r b MaySend attached first
  calm-front attached [] more calm = tt
  calm-front attached (frame ∷ first) more calm = (calm.0, calm-front attached first more calm.1)

  -- bytes that come up attach and detach none, and neither does a settle
  pub up-keeps : {N L : Type 0} (n : ℕ) (w : World (ClientPair P C) N L) → AreCalm r b MaySend w.state.attached (awaited w.up)
      → (delivered_up (pair_step r b) n w).state.attached ≡ w.state.attached
  up-keeps n w calm =
      steps-keep (arriving n w.up) w.state
      (calm-front w.state.attached (arriving n w.up) (awaited (passed n w.up))
      (subst (λ frames. AreCalm r b MaySend w.state.attached frames) (awaited-passed n w.up) calm))

  pub settle-keeps : {N L : Type 0} (w : World (ClientPair P C) N L) → AreCalm r b MaySend w.state.attached (awaited w.up)
      → (settled (pair_step r b) w).state.attached ≡ w.state.attached
  settle-keeps w calm = up-keeps (length w.up.flying) w calm
