-- What came to each of two front ends was folded into it.
use Rattle.std.proofs.Common.{◌≡◌, ℕ, ◌<◌, ◌≤◌, Bool, true, false, cond, ◌&&◌, nat_lt, List, [], ◌∷◌, ◌++◌, Option, Some, None, refl, sym}
use Rattle.std.proofs.Common.{◌∙◌, ap, subst, Result, Ok, Err, arith}
use Rattle.std.specs.Prelude.{⊤, is_none}
use Rattle.std.proofs.lemmas.Bool.{lt-ltb, ltb-true}
use Rattle.cdp_json.specs.Lookups.{then_ok}
use Rattle.session_runs.specs.Fold.{folded}
use Rattle.session_runs.specs.Pairs.{Down, bare, of_session, TargetKind, WaitingTarget, TargetOutcome, nothing_done, session_made}
use Rattle.session_runs.specs.Pairs.{session_dropped, SessionAsks, FrontReads, Second, FrontPair, front_pair, kind_waiting, without_id}
use Rattle.session_runs.specs.Pairs.{asks_of_session, with_one, take_two, target_done, take_target, take_down, take_pair}
use Rattle.session_runs.specs.PairCame.{of_first, first_came, of_that, session_came, NumberLaws}
use Rattle.session_runs.proofs.Folds.{folded-append}

module _ {V E A T : Type 0} (r : FrontReads V E A T) where
  -- two front ends are these
  is-front : (p q : FrontPair V A T) → ◌≡◌ {A = Result (FrontPair V A T) E} (Ok p) (Ok q) → p ≡ q
  is-front p q e = cc

  no-front : {P : Type 0} (e : E) (q : FrontPair V A T) → ◌≡◌ {A = Result (FrontPair V A T) E} (Err e) (Ok q) → P
  no-front e q wrong = absurd cc

  -- ---- the first front end

  -- a frame of a session leaves it as it is
  two-one : (t : T) (text : List ℕ) (o : Option (Second V T)) (p q : FrontPair V A T) → take_two r t text o p ≡ Ok q → q.one ≡ p.one
  two-one t text None p q e = no-front r.strange q e
  two-one t text (Some w) p q e =
      (elim (r.same w.text t) as (λ (b : Bool).
      cond b (then_ok (r.take w.value text) (λ v. Ok (record p { two = Some (record { text = w.text; value = v }) }))) (Err r.strange)
      ≡ Ok q → q.one ≡ p.one) [
        | true ↦ λ h. at (r.take w.value text) h
        | false ↦ λ h. no-front r.strange q h
      ]) e
    where
      at : (result : Result V E)
          → then_ok {E = E} result (λ v. Ok (record p { two = Some (record { text = w.text; value = v }) })) ≡ Ok q → q.one ≡ p.one
      at (Ok v) h =
          ap (λ (x : FrontPair V A T). x.one) (sym (is-front (record p { two = Some (record { text = w.text; value = v }) }) q h))
      at (Err x) h = no-front x q h

  -- so does the reply to an attach or a detach
  done-one : (outcome : TargetOutcome T) (p q : FrontPair V A T) → target_done r outcome p ≡ Ok q → q.one ≡ p.one
  done-one nothing_done p q e = ap (λ (x : FrontPair V A T). x.one) (sym (is-front p q e))
  done-one (session_made t n) p q e =
      (elim (is_none p.two && nat_lt p.top n) as (λ (b : Bool).
      cond {A = Result (FrontPair V A T) E} b
      (Ok (front_pair p.one (Some (record { text = t; value = r.join r.begin (asks_of_session r t p.asked) })) p.waiting p.asked n))
      (Err r.strange) ≡ Ok q → q.one ≡ p.one) [
        | true ↦ λ h. ap (λ (x : FrontPair V A T). x.one) (sym (is-front
            (front_pair p.one (Some (record { text = t; value = r.join r.begin (asks_of_session r t p.asked) })) p.waiting p.asked n) q h))
        | false ↦ λ h. no-front r.strange q h
      ]) e
  done-one session_dropped p q e = ap (λ (x : FrontPair V A T). x.one) (sym (is-front (record p { two = None }) q e))

  target-one : (id : ℕ) (frame : List ℕ) (o : Option TargetKind) (p q : FrontPair V A T) → take_target r id frame o p ≡ Ok q
      → q.one ≡ p.one
  target-one id frame None p q e = no-front r.unasked q e
  target-one id frame (Some kind) p q e = at (r.outcome kind frame) e where
    p1 : FrontPair V A T
    p1 = record p { waiting = without_id id p.waiting }

    at : (result : Result (TargetOutcome T) E) → then_ok result (λ outcome. target_done r outcome p1) ≡ Ok q → q.one ≡ p.one
    at (Ok outcome) h = done-one outcome p1 q h
    at (Err x) h = no-front x q h

  -- it takes a frame that is its own
  own-step : (frame : List ℕ) (p q : FrontPair V A T) (result : Result V E) → with_one r result p ≡ Ok q
      → then_ok result (λ next. folded r.take next []) ≡ Ok q.one
  own-step frame p q (Ok v) e = ap (λ (x : FrontPair V A T). Ok x.one) (is-front (record p { one = v }) q e)
  own-step frame p q (Err x) e = no-front x q e

  first-step : (down : Down T) (frame : List ℕ) (p q : FrontPair V A T) → take_down r down frame p ≡ Ok q
      → folded r.take p.one (of_first r frame down) ≡ Ok q.one
  first-step (of_session t text) frame p q e = ap (λ v. Ok v) (sym (two-one t text p.two p q e))
  first-step (bare None) frame p q e = own-step frame p q (r.take p.one frame) e
  first-step (bare (Some id)) frame p q e =
      (elim (r.is_target id) as (λ (b : Bool).
      cond b (take_target r id frame (kind_waiting id p.waiting) p) (with_one r (r.take p.one frame) p) ≡ Ok q
      → folded r.take p.one (cond b [] (frame ∷ [])) ≡ Ok q.one) [
        | true ↦ λ h. ap (λ v. Ok v) (sym (target-one id frame (kind_waiting id p.waiting) p q h))
        | false ↦ λ h. own-step frame p q (r.take p.one frame) h
      ]) e

  -- The first front end is the fold of the frames that came to it.
  pub first-took : (frames : List (List ℕ)) (p q : FrontPair V A T) → folded (take_pair r) p frames ≡ Ok q
      → folded r.take p.one (first_came r frames) ≡ Ok q.one
  first-took [] p q e = ap (λ (x : FrontPair V A T). Ok x.one) (is-front p q e)
  first-took (frame ∷ frames) p q e =
      (elim (take_pair r p frame) as (λ (result : Result (FrontPair V A T) E). take_pair r p frame ≡ result
      → then_ok result (λ next. folded (take_pair r) next frames) ≡ Ok q
      → folded r.take p.one (of_first r frame (r.down frame) ++ first_came r frames) ≡ Ok q.one) [
        | Ok next ↦ λ is rest.
            folded-append r.take p.one (of_first r frame (r.down frame)) (first_came r frames)
            ∙ ap (λ result. then_ok result (λ v. folded r.take v (first_came r frames))) (first-step (r.down frame) frame p next is)
            ∙ first-took frames next q rest
        | Err x ↦ λ is rest. no-front x q rest
      ]) refl e

  -- ---- the second

  module _ (number : T → Option ℕ) (laws : NumberLaws r number) (t : T) (n : ℕ) (is_numbered : number t ≡ Some n) where
    -- what the front end of the session begins with, where that is still to come
    abbrev beginning : ℕ → List (SessionAsks A T) → Option V
    beginning top xs = cond (nat_lt top n) (Some (r.join r.begin (asks_of_session r t xs))) None

    -- what it has or begins with
    abbrev pub expected : Option (Second V T) → ℕ → List (SessionAsks A T) → Option V
    expected None top xs = beginning top xs
    expected (Some w) top xs = cond (r.same w.text t) (Some w.value) (beginning top xs)

    -- the second front end that stands has a number, no greater than the greatest so far
    abbrev pub IsNumbered : Option (Second V T) → ℕ → Type 0
    IsNumbered None top = ⊤
    IsNumbered (Some w) top = (m : ℕ) × (number w.text ≡ Some m) × (m ≤ top)

    -- it had or began with a value, and took these frames
    pub record Begun (before : Option V) (came : List (List ℕ)) (after : V) : Type 0 where
      pub value : V
      pub is : before ≡ Some value
      pub took : folded r.take value came ≡ Ok after

    -- a step of the fold, for this session
    record Steps (two : Option (Second V T)) (top : ℕ) (xs : List (SessionAsks A T)) (q : FrontPair V A T) (came : List (List ℕ))
        : Type 0 where
      numbered : IsNumbered q.two q.top
      back : (v : V) → expected q.two q.top q.asked ≡ Some v → Begun (expected two top xs) came v

    -- nothing came, and nothing changed
    quiet : (o : Option V) (v : V) → o ≡ Some v → Begun o [] v
    quiet o v e = record { value = v; is = e; took = refl }

    some-same : (a b : V) → Some a ≡ Some b → a ≡ b
    some-same a b e = cc

    number-same : (a b : ℕ) → Some a ≡ Some b → a ≡ b
    number-same a b e = cc

    -- a session that is the same has the same number
    same-number : (s : T) (m : ℕ) → number s ≡ Some m → s ≡ t → m ≡ n
    same-number s m is same = number-same m n (sym is ∙ ap number same ∙ is_numbered)

    -- where a later session is still to come, this is
    come-before : (top m : ℕ) (xs : List (SessionAsks A T)) (v : V) → top < m → beginning m xs ≡ Some v → beginning top xs ≡ Some v
    come-before top m xs v less e =
        (elim (nat_lt m n) as (λ (b : Bool). nat_lt m n ≡ b
        → cond b (Some (r.join r.begin (asks_of_session r t xs))) None ≡ Some v → beginning top xs ≡ Some v) [
          | true ↦ λ is h.
              let more : m < n = ltb-true m n is in
              ap (λ b. cond b (Some (r.join r.begin (asks_of_session r t xs))) None) (lt-ltb top n (omega (arith, less, more))) ∙ h
          | false ↦ λ is h. let no : ◌≡◌ {A = Option V} None (Some v) = h in absurd cc
        ]) refl e

    is-to-come : (top : ℕ) (xs : List (SessionAsks A T)) (v : V) → beginning top xs ≡ Some v → top < n
    is-to-come top xs v e =
        (elim (nat_lt top n) as (λ (b : Bool). nat_lt top n ≡ b
        → cond b (Some (r.join r.begin (asks_of_session r t xs))) None ≡ Some v → top < n) [
          | true ↦ λ is h. ltb-true top n is
          | false ↦ λ is h. let no : ◌≡◌ {A = Option V} None (Some v) = h in absurd cc
        ]) refl e

    -- a frame of a session
    module _ (s : T) (text : List ℕ) (one : V) (ws : List WaitingTarget) (xs : List (SessionAsks A T)) (top : ℕ) (q : FrontPair V A T) where
      taken-step : (w : Second V T) (result : Result V E) → r.take w.value text ≡ result → IsNumbered (Some w) top → w.text ≡ s
          → then_ok {E = E} result (λ v. Ok (front_pair one (Some (record { text = w.text; value = v })) ws xs top)) ≡ Ok q
          → Steps (Some w) top xs q (cond (r.same s t) (text ∷ []) [])
      taken-step w (Ok v) is numbered same e =
          let after : FrontPair V A T = front_pair one (Some (record { text = w.text; value = v })) ws xs top in
          subst (λ x. Steps (Some w) top xs x (cond (r.same s t) (text ∷ []) [])) (is-front after q e)
          (subst (λ u. Steps (Some w) top xs after (cond (r.same u t) (text ∷ []) [])) same (record { numbered = numbered; back = back }))
        where
          back : (v1 : V) → cond (r.same w.text t) (Some v) (beginning top xs) ≡ Some v1
              → Begun (cond (r.same w.text t) (Some w.value) (beginning top xs)) (cond (r.same w.text t) (text ∷ []) []) v1
          back v1 h =
              (elim (r.same w.text t) as (λ (b : Bool). cond b (Some v) (beginning top xs) ≡ Some v1
              → Begun (cond b (Some w.value) (beginning top xs)) (cond b (text ∷ []) []) v1) [
                | true ↦ λ h. record {
                  value = w.value;
                  is = refl;
                  took = ap (λ result. then_ok result (λ next. folded r.take next [])) is ∙ ap (λ x. Ok x) (some-same v v1 h);
                }
                | false ↦ λ h. quiet (beginning top xs) v1 h
              ]) h
      taken-step w (Err x) is numbered same e = no-front x q e

      two-step : (o : Option (Second V T)) → IsNumbered o top → take_two r s text o (front_pair one o ws xs top) ≡ Ok q
          → Steps o top xs q (cond (r.same s t) (text ∷ []) [])
      two-step None numbered e = no-front r.strange q e
      two-step (Some w) numbered e =
          (elim (r.same w.text s) as (λ (b : Bool). r.same w.text s ≡ b
          → cond b (then_ok (r.take w.value text) (λ v. Ok (front_pair one (Some (record { text = w.text; value = v })) ws xs top)))
          (Err r.strange) ≡ Ok q
          → Steps (Some w) top xs q (cond (r.same s t) (text ∷ []) [])) [
            | true ↦ λ is h. taken-step w (r.take w.value text) refl numbered (laws.same_is w.text s is) h
            | false ↦ λ is h. no-front r.strange q h
          ]) refl e

    -- a session is attached
    module _ (one : V) (ws : List WaitingTarget) (xs : List (SessionAsks A T)) (top : ℕ) (q : FrontPair V A T) where
      made-step : (s : T) (m : ℕ) → number s ≡ Some m → top < m
          → front_pair one (Some (record { text = s; value = r.join r.begin (asks_of_session r s xs) })) ws xs m ≡ q
          → Steps None top xs q []
      made-step s m is less same = subst (λ x. Steps None top xs x []) same (record { numbered = (m, is, omega arith); back = back }) where
        back : (v : V) → cond (r.same s t) (Some (r.join r.begin (asks_of_session r s xs))) (beginning m xs) ≡ Some v
            → Begun (beginning top xs) [] v
        back v h =
            (elim (r.same s t) as (λ (b : Bool). r.same s t ≡ b
            → cond b (Some (r.join r.begin (asks_of_session r s xs))) (beginning m xs) ≡ Some v → Begun (beginning top xs) [] v) [
              | true ↦ λ e h.
                  let here : s ≡ t = laws.same_is s t e in
                  let equal : m ≡ n = same-number s m is here in
                  quiet (beginning top xs) v
                  (ap (λ b. cond b (Some (r.join r.begin (asks_of_session r t xs))) None) (lt-ltb top n (omega (arith, less, equal)))
                  ∙ ap (λ u. Some (r.join r.begin (asks_of_session r u xs))) (sym here) ∙ h)
              | false ↦ λ e h. quiet (beginning top xs) v (come-before top m xs v less h)
            ]) refl h

      -- one is detached
      dropped-step : (o : Option (Second V T)) → IsNumbered o top → front_pair one None ws xs top ≡ q → Steps o top xs q []
      dropped-step o numbered same = subst (λ x. Steps o top xs x []) same (record { numbered = tt; back = by o numbered }) where
        by : (o : Option (Second V T)) → IsNumbered o top → (v : V) → beginning top xs ≡ Some v → Begun (expected o top xs) [] v
        by None numbered v h = quiet (beginning top xs) v h
        by (Some w) numbered v h =
            (elim (r.same w.text t) as (λ (b : Bool). r.same w.text t ≡ b → Begun (cond b (Some w.value) (beginning top xs)) [] v) [
              | true ↦ λ e.
                  let equal : numbered.0 ≡ n = same-number w.text numbered.0 numbered.1 (laws.same_is w.text t e) in
                  let low : numbered.0 ≤ top = numbered.2 in
                  let less : top < n = is-to-come top xs v h in
                  absurd (omega (arith, equal, low, less))
              | false ↦ λ e. quiet (beginning top xs) v h
            ]) refl

      done-step : (outcome : TargetOutcome T) (o : Option (Second V T)) → IsNumbered o top
          → ((s : T) (m : ℕ) → outcome ≡ session_made s m → number s ≡ Some m)
          → target_done r outcome (front_pair one o ws xs top) ≡ Ok q → Steps o top xs q []
      done-step nothing_done o numbered made e =
          subst (λ x. Steps o top xs x []) (is-front (front_pair one o ws xs top) q e)
          (record { numbered = numbered; back = quiet (expected o top xs) })
      done-step (session_made s m) None numbered made e =
          (elim (nat_lt top m) as (λ (b : Bool). nat_lt top m ≡ b
          → cond {A = Result (FrontPair V A T) E} b
          (Ok (front_pair one (Some (record { text = s; value = r.join r.begin (asks_of_session r s xs) })) ws xs m)) (Err r.strange) ≡ Ok q
          → Steps None top xs q []) [
            | true ↦ λ is h.
                made-step s m (made s m refl) (ltb-true top m is)
                (is-front (front_pair one (Some (record { text = s; value = r.join r.begin (asks_of_session r s xs) })) ws xs m) q h)
            | false ↦ λ is h. no-front r.strange q h
          ]) refl e
      done-step (session_made s m) (Some w) numbered made e = no-front r.strange q e
      done-step session_dropped o numbered made e = dropped-step o numbered (is-front (front_pair one None ws xs top) q e)

    target-step : (id : ℕ) (frame : List ℕ) (kind : Option TargetKind) (p q : FrontPair V A T) → IsNumbered p.two p.top
        → take_target r id frame kind p ≡ Ok q → Steps p.two p.top p.asked q []
    target-step id frame None p q numbered e = no-front r.unasked q e
    target-step id frame (Some kind) p q numbered e = at (r.outcome kind frame) refl e where
      at : (result : Result (TargetOutcome T) E) → r.outcome kind frame ≡ result
          → then_ok result (λ outcome. target_done r outcome (record p { waiting = without_id id p.waiting })) ≡ Ok q
          → Steps p.two p.top p.asked q []
      at (Ok outcome) is h =
          done-step p.one (without_id id p.waiting) p.asked p.top q outcome p.two numbered
          (λ s m made. laws.made kind frame s m (is ∙ ap (λ x. Ok x) made)) h
      at (Err x) is h = no-front x q h

    -- a frame of the first front end
    one-step : (p q : FrontPair V A T) (result : Result V E) → IsNumbered p.two p.top → with_one r result p ≡ Ok q
        → Steps p.two p.top p.asked q []
    one-step p q (Ok v) numbered e =
        subst (λ x. Steps p.two p.top p.asked x []) (is-front (record p { one = v }) q e)
        (record { numbered = numbered; back = quiet (expected p.two p.top p.asked) })
    one-step p q (Err x) numbered e = no-front x q e

    down-step : (down : Down T) (frame : List ℕ) (p q : FrontPair V A T) → IsNumbered p.two p.top → take_down r down frame p ≡ Ok q
        → Steps p.two p.top p.asked q (of_that r t down)
    down-step (of_session s text) frame p q numbered e = two-step s text p.one p.waiting p.asked p.top q p.two numbered e
    down-step (bare None) frame p q numbered e = one-step p q (r.take p.one frame) numbered e
    down-step (bare (Some id)) frame p q numbered e =
        (elim (r.is_target id) as (λ (b : Bool).
        cond b (take_target r id frame (kind_waiting id p.waiting) p) (with_one r (r.take p.one frame) p) ≡ Ok q
        → Steps p.two p.top p.asked q []) [
          | true ↦ λ h. target-step id frame (kind_waiting id p.waiting) p q numbered h
          | false ↦ λ h. one-step p q (r.take p.one frame) numbered h
        ]) e

    session-took : (frames : List (List ℕ)) (p q : FrontPair V A T) (v : V) → IsNumbered p.two p.top
        → folded (take_pair r) p frames ≡ Ok q → expected q.two q.top q.asked ≡ Some v
        → Begun (expected p.two p.top p.asked) (session_came r t frames) v
    session-took [] p q v numbered e h =
        let same : p ≡ q = is-front p q e in
        quiet (expected p.two p.top p.asked) v (ap (λ (x : FrontPair V A T). expected x.two x.top x.asked) same ∙ h)
    session-took (frame ∷ frames) p q v numbered e h =
        (elim (take_pair r p frame) as (λ (result : Result (FrontPair V A T) E). take_pair r p frame ≡ result
        → then_ok result (λ next. folded (take_pair r) next frames) ≡ Ok q
        → Begun (expected p.two p.top p.asked) (of_that r t (r.down frame) ++ session_came r t frames) v) [
          | Ok next ↦ λ is rest.
              let one : Steps p.two p.top p.asked next (of_that r t (r.down frame)) = down-step (r.down frame) frame p next numbered is in
              let later = session-took frames next q v one.numbered rest h in
              let first = one.back later.value later.is in
              record {
                value = first.value;
                is = first.is;
                took =
                    folded-append r.take first.value (of_that r t (r.down frame)) (session_came r t frames)
                    ∙ ap (λ result. then_ok result (λ x. folded r.take x (session_came r t frames))) first.took
                    ∙ later.took;
              }
          | Err x ↦ λ is rest. no-front x q rest
        ]) refl e

    -- Where no session was attached before, the second front end that stands has taken all frames of its session, after the asks that were
    -- sent of it.
    pub second-took : (frames : List (List ℕ)) (p q : FrontPair V A T) (v : V) → p.two ≡ None → p.top < n
        → folded (take_pair r) p frames ≡ Ok q → q.two ≡ Some (record { text = t; value = v })
        → folded r.take (r.join r.begin (asks_of_session r t p.asked)) (session_came r t frames) ≡ Ok v
    second-took frames p q v none low e stands =
        let here : expected q.two q.top q.asked ≡ Some v =
        ap (λ o. expected o q.top q.asked) stands ∙ ap (λ b. cond b (Some v) (beginning q.top q.asked)) (laws.same_all t) in
        let all = session-took frames p q v (subst (λ o. IsNumbered o p.top) (sym none) tt) e here in
        let begins : expected p.two p.top p.asked ≡ Some (r.join r.begin (asks_of_session r t p.asked)) =
        ap (λ o. expected o p.top p.asked) none
        ∙ ap (λ b. cond b (Some (r.join r.begin (asks_of_session r t p.asked))) None) (lt-ltb p.top n low) in
        let same : all.value ≡ r.join r.begin (asks_of_session r t p.asked) =
        some-same all.value (r.join r.begin (asks_of_session r t p.asked)) (sym all.is ∙ begins) in
        ap (λ u. folded r.take u (session_came r t frames)) (sym same) ∙ all.took
