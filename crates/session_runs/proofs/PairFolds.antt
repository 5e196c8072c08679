-- The fold of one stream into two front ends.
use Rattle.std.proofs.Common.{◌≡◌, ℕ, ◌==◌, Bool, true, false, cond, ◌&&◌, List, [], ◌∷◌, ◌++◌, Option, Some, None, refl, sym, ◌∙◌, ap}
use Rattle.std.proofs.Common.{Result, Ok, Err, append_assoc, append-nil}
use Rattle.std.specs.Prelude.{option_map, is_none, nat_lt}
use Rattle.cdp_json.specs.Lookups.{then_ok}
use Rattle.session_runs.specs.Fold.{folded}
use Rattle.session_runs.specs.PairFit.{ReadLaws}
use Rattle.session_runs.specs.Pairs.{Way, to_root, to_session, attaches, detaches, Down, bare, of_session, TargetKind, attach, detach}
use Rattle.session_runs.specs.Pairs.{TargetOutcome}
use Rattle.session_runs.specs.Pairs.{nothing_done, session_made, session_dropped, WaitingTarget, SessionAsks, FrontReads, Second, FrontPair}
use Rattle.session_runs.specs.Pairs.{front_pair, kind_waiting, without_id, asks_of_session}
use Rattle.session_runs.specs.Pairs.{with_one, take_two, target_done, take_target, take_down, take_pair, join_two, join_way, join_pair}

module _ {V E A T : Type 0} (r : FrontReads V E A T) (laws : ReadLaws r) where
  -- a later command is not the first
  kind-later : (id : ℕ) (ws : List WaitingTarget) (w : WaitingTarget) (kind : TargetKind) → kind_waiting id ws ≡ Some kind
      → kind_waiting id (ws ++ w ∷ []) ≡ Some kind
  kind-later id [] w kind e = absurd cc
  kind-later id (x ∷ ws) w kind e =
      (elim (x.id == id) as (λ (b : Bool). cond b (Some x.kind) (kind_waiting id ws) ≡ Some kind
      → cond b (Some x.kind) (kind_waiting id (ws ++ w ∷ [])) ≡ Some kind) [
        | true ↦ λ h. h
        | false ↦ λ h. kind-later id ws w kind h
      ]) e

  without-later : (id : ℕ) (ws : List WaitingTarget) (w : WaitingTarget) (kind : TargetKind) → kind_waiting id ws ≡ Some kind
      → without_id id (ws ++ w ∷ []) ≡ without_id id ws ++ w ∷ []
  without-later id [] w kind e = absurd cc
  without-later id (x ∷ ws) w kind e =
      (elim (x.id == id) as (λ (b : Bool). cond b (Some x.kind) (kind_waiting id ws) ≡ Some kind
      → cond b (ws ++ w ∷ []) (x ∷ without_id id (ws ++ w ∷ [])) ≡ cond b ws (x ∷ without_id id ws) ++ w ∷ []) [
        | true ↦ λ h. refl
        | false ↦ λ h. ap (λ ys. x ∷ ys) (without-later id ws w kind h)
      ]) e

  pub asks-later : (t u : T) (more : List A) (xs : List (SessionAsks A T))
      → asks_of_session r t (xs ++ record { text = u; asks = more } ∷ []) ≡ asks_of_session r t xs ++ cond (r.same u t) more []
  asks-later t u more [] = append-nil (cond (r.same u t) more [])
  asks-later t u more (x ∷ xs) =
      ap (λ ys. cond (r.same x.text t) x.asks [] ++ ys) (asks-later t u more xs)
      ∙ sym (append_assoc (cond (r.same x.text t) x.asks []) (asks_of_session r t xs) (cond (r.same u t) more []))

  -- ---- an ask more that waits

  -- what an ask more makes of the front ends, while these go from p to after
  abbrev Later : (FrontPair V A T → FrontPair V A T) → Result (FrontPair V A T) E → Result (FrontPair V A T) E → Type 0
  Later f before after = (q : FrontPair V A T) → before ≡ Ok q → after ≡ Ok (f q)

  ok-by : (f : FrontPair V A T → FrontPair V A T) (p q : FrontPair V A T) → ◌≡◌ {A = Result (FrontPair V A T) E} (Ok p) (Ok q)
      → ◌≡◌ {A = Result (FrontPair V A T) E} (Ok (f p)) (Ok (f q))
  ok-by f p q e = let same : p ≡ q = cc in ap (λ x. Ok (f x)) same

  no-ok : {P : Type 0} (e : E) (q : FrontPair V A T) → ◌≡◌ {A = Result (FrontPair V A T) E} (Err e) (Ok q) → P
  no-ok e q wrong = absurd cc

  -- the first front end takes a frame, and another part of the two changes
  one-apart : (f : FrontPair V A T → FrontPair V A T) (p : FrontPair V A T) (result : Result V E)
      → ((v : V) → f (record p { one = v }) ≡ record (f p) { one = v }) → Later f (with_one r result p) (with_one r result (f p))
  one-apart f p (Ok v) apart q e = ap (λ x. Ok x) (sym (apart v)) ∙ ok-by f (record p { one = v }) q e
  one-apart f p (Err x) apart q e = no-ok x q e

  -- or it gets an ask more itself
  one-asked : (more : List A) (p : FrontPair V A T) (frame : List ℕ) (result : Result V E) → r.take p.one frame ≡ result
      → Later (λ p. record p { one = r.join p.one more }) (with_one r result p)
      (with_one r (r.take (r.join p.one more) frame) (record p { one = r.join p.one more }))
  one-asked more p frame (Ok v) is q e =
      ap (λ result. with_one r result (record p { one = r.join p.one more })) (laws.later more p.one v frame is)
      ∙ ok-by (λ p. record p { one = r.join p.one more }) (record p { one = v }) q e
  one-asked more p frame (Err x) is q e = no-ok x q e

  -- ---- the first front end gets an ask more

  module _ (more : List A) where
    abbrev asked_one : FrontPair V A T → FrontPair V A T
    asked_one p = record p { one = r.join p.one more }

    two-asked_one : (t : T) (frame : List ℕ) (o : Option (Second V T)) (p : FrontPair V A T)
        → Later asked_one (take_two r t frame o p) (take_two r t frame o (asked_one p))
    two-asked_one t frame None p q e = no-ok r.strange q e
    two-asked_one t frame (Some w) p q e =
        (elim (r.same w.text t) as (λ (b : Bool).
        cond b (then_ok (r.take w.value frame) (λ v. Ok (record p { two = Some (record { text = w.text; value = v }) }))) (Err r.strange)
        ≡ Ok q
        → cond b (then_ok (r.take w.value frame) (λ v. Ok (record (asked_one p) { two = Some (record { text = w.text; value = v }) })))
        (Err r.strange) ≡ Ok (asked_one q)) [
          | true ↦ λ h. at (r.take w.value frame) h
          | false ↦ λ h. no-ok r.strange q h
        ]) e
      where
        at : (result : Result V E)
            → then_ok {E = E} result (λ v. Ok (record p { two = Some (record { text = w.text; value = v }) })) ≡ Ok q
            → then_ok {E = E} result (λ v. Ok (record (asked_one p) { two = Some (record { text = w.text; value = v }) })) ≡ Ok
            (asked_one q)
        at (Ok v) h = ok-by asked_one (record p { two = Some (record { text = w.text; value = v }) }) q h
        at (Err x) h = no-ok x q h

    done-asked_one : (outcome : Result (TargetOutcome T) E) (p : FrontPair V A T)
        → Later asked_one (then_ok outcome (λ o. target_done r o p)) (then_ok outcome (λ o. target_done r o (asked_one p)))
    done-asked_one (Err x) p q e = no-ok x q e
    done-asked_one (Ok nothing_done) p q e = ok-by asked_one p q e
    done-asked_one (Ok (session_made t n)) p q e =
        (elim (is_none p.two && nat_lt p.top n) as (λ (b : Bool).
        cond {A = Result (FrontPair V A T) E} b
        (Ok (front_pair p.one (Some (record { text = t; value = r.join r.begin (asks_of_session r t p.asked) })) p.waiting p.asked n))
        (Err r.strange) ≡ Ok q
        → cond {A = Result (FrontPair V A T) E} b
        (Ok (front_pair (r.join p.one more)
        (Some (record { text = t; value = r.join r.begin (asks_of_session r t p.asked) })) p.waiting p.asked n))
        (Err r.strange) ≡ Ok (asked_one q)) [
          | true ↦ λ h. ok-by asked_one
              (front_pair p.one (Some (record { text = t; value = r.join r.begin (asks_of_session r t p.asked) })) p.waiting
              p.asked n) q h
          | false ↦ λ h. no-ok r.strange q h
        ]) e
    done-asked_one (Ok session_dropped) p q e = ok-by asked_one (record p { two = None }) q e

    target-asked_one : (id : ℕ) (frame : List ℕ) (k : Option TargetKind) (p : FrontPair V A T)
        → Later asked_one (take_target r id frame k p) (take_target r id frame k (asked_one p))
    target-asked_one id frame None p q e = no-ok r.unasked q e
    target-asked_one id frame (Some kind) p q e = done-asked_one (r.outcome kind frame) (record p { waiting = without_id id p.waiting }) q e

    down-asked_one : (down : Down T) (frame : List ℕ) (p : FrontPair V A T)
        → Later asked_one (take_down r down frame p) (take_down r down frame (asked_one p))
    down-asked_one (of_session t text) frame p q e = two-asked_one t text p.two p q e
    down-asked_one (bare None) frame p q e = one-asked more p frame (r.take p.one frame) refl q e
    down-asked_one (bare (Some id)) frame p q e =
        (elim (r.is_target id) as (λ (b : Bool).
        cond b (take_target r id frame (kind_waiting id p.waiting) p) (with_one r (r.take p.one frame) p) ≡ Ok q
        → cond b (take_target r id frame (kind_waiting id p.waiting) (asked_one p))
        (with_one r (r.take (r.join p.one more) frame) (asked_one p)) ≡ Ok (asked_one q)) [
          | true ↦ λ h. target-asked_one id frame (kind_waiting id p.waiting) p q h
          | false ↦ λ h. one-asked more p frame (r.take p.one frame) refl q h
        ]) e

  -- ---- a command more waits

  module _ (w : WaitingTarget) where
    abbrev waiting_more : FrontPair V A T → FrontPair V A T
    waiting_more p = record p { waiting = p.waiting ++ w ∷ [] }

    two-waiting : (t : T) (frame : List ℕ) (o : Option (Second V T)) (p : FrontPair V A T)
        → Later waiting_more (take_two r t frame o p) (take_two r t frame o (waiting_more p))
    two-waiting t frame None p q e = no-ok r.strange q e
    two-waiting t frame (Some s) p q e =
        (elim (r.same s.text t) as (λ (b : Bool).
        cond b (then_ok (r.take s.value frame) (λ v. Ok (record p { two = Some (record { text = s.text; value = v }) }))) (Err r.strange)
        ≡ Ok q
        → cond b (then_ok (r.take s.value frame) (λ v. Ok (record (waiting_more p) { two = Some (record { text = s.text; value = v }) })))
        (Err r.strange) ≡ Ok (waiting_more q)) [
          | true ↦ λ h. at (r.take s.value frame) h
          | false ↦ λ h. no-ok r.strange q h
        ]) e
      where
        at : (result : Result V E)
            → then_ok {E = E} result (λ v. Ok (record p { two = Some (record { text = s.text; value = v }) })) ≡ Ok q
            → then_ok {E = E} result (λ v. Ok (record (waiting_more p) { two = Some (record { text = s.text; value = v }) }))
            ≡ Ok (waiting_more q)
        at (Ok v) h = ok-by waiting_more (record p { two = Some (record { text = s.text; value = v }) }) q h
        at (Err x) h = no-ok x q h

    done-waiting : (outcome : Result (TargetOutcome T) E) (p : FrontPair V A T)
        → Later waiting_more (then_ok outcome (λ o. target_done r o p)) (then_ok outcome (λ o. target_done r o (waiting_more p)))
    done-waiting (Err x) p q e = no-ok x q e
    done-waiting (Ok nothing_done) p q e = ok-by waiting_more p q e
    done-waiting (Ok (session_made t n)) p q e =
        (elim (is_none p.two && nat_lt p.top n) as (λ (b : Bool).
        cond {A = Result (FrontPair V A T) E} b
        (Ok (front_pair p.one (Some (record { text = t; value = r.join r.begin (asks_of_session r t p.asked) })) p.waiting p.asked n))
        (Err r.strange) ≡ Ok q
        → cond {A = Result (FrontPair V A T) E} b
        (Ok (front_pair p.one (Some (record { text = t; value = r.join r.begin (asks_of_session r t p.asked) }))
        (p.waiting ++ w ∷ []) p.asked n))
        (Err r.strange) ≡ Ok (waiting_more q)) [
          | true ↦ λ h. ok-by waiting_more
              (front_pair p.one (Some (record { text = t; value = r.join r.begin (asks_of_session r t p.asked) })) p.waiting
              p.asked n) q h
          | false ↦ λ h. no-ok r.strange q h
        ]) e
    done-waiting (Ok session_dropped) p q e = ok-by waiting_more (record p { two = None }) q e

    target-waiting : (id : ℕ) (frame : List ℕ) (p : FrontPair V A T) (k : Option TargetKind) → kind_waiting id p.waiting ≡ k
        → Later waiting_more (take_target r id frame k p) (take_target r id frame (kind_waiting id (p.waiting ++ w ∷ [])) (waiting_more p))
    target-waiting id frame p None is q e = no-ok r.unasked q e
    target-waiting id frame p (Some kind) is q e =
        ap (λ k. take_target r id frame k (waiting_more p)) (kind-later id p.waiting w kind is)
        ∙ ap (λ ws. then_ok (r.outcome kind frame) (λ o. target_done r o (record p { waiting = ws })))
        (without-later id p.waiting w kind is)
        ∙ done-waiting (r.outcome kind frame) (record p { waiting = without_id id p.waiting }) q e

    down-waiting : (down : Down T) (frame : List ℕ) (p : FrontPair V A T)
        → Later waiting_more (take_down r down frame p) (take_down r down frame (waiting_more p))
    down-waiting (of_session t text) frame p q e = two-waiting t text p.two p q e
    down-waiting (bare None) frame p q e = one-apart waiting_more p (r.take p.one frame) (λ v. refl) q e
    down-waiting (bare (Some id)) frame p q e =
        (elim (r.is_target id) as (λ (b : Bool).
        cond b (take_target r id frame (kind_waiting id p.waiting) p) (with_one r (r.take p.one frame) p) ≡ Ok q
        → cond b (take_target r id frame (kind_waiting id (p.waiting ++ w ∷ [])) (waiting_more p))
        (with_one r (r.take p.one frame) (waiting_more p)) ≡ Ok (waiting_more q)) [
          | true ↦ λ h. target-waiting id frame p (kind_waiting id p.waiting) refl q h
          | false ↦ λ h. one-apart waiting_more p (r.take p.one frame) (λ v. refl) q h
        ]) e

  -- ---- an ask of a session more waits

  module _ (u : T) (more : List A) where
    abbrev asked_two : FrontPair V A T → FrontPair V A T
    asked_two p = front_pair p.one (option_map (join_two r u more) p.two) p.waiting (p.asked ++ record { text = u; asks = more } ∷ []) p.top

    two-takes : (w : Second V T) (frame : List ℕ) (p q : FrontPair V A T) (result : Result V E) → r.take w.value frame ≡ result
        → then_ok {E = E} result (λ v. Ok (record p { two = Some (record { text = w.text; value = v }) })) ≡ Ok q
        → then_ok {E = E} (r.take (join_two r u more w).value frame)
        (λ v. Ok (record (asked_two p) { two = Some (record { text = (join_two r u more w).text; value = v }) })) ≡ Ok (asked_two q)
    two-takes w frame p q (Err x) is h = no-ok x q h
    two-takes w frame p q (Ok v) is h =
        (elim (r.same u w.text) as (λ (b : Bool).
        then_ok {E = E} (r.take (cond b (record { text = w.text; value = r.join w.value more }) w).value frame)
        (λ v. Ok (record (asked_two p) {
          two = Some (record {
            text = (cond b (record { text = w.text; value = r.join w.value more }) w).text;
            value = v;
          });
        }))
        ≡ Ok (record (asked_two p)
        { two = Some (cond b (record { text = w.text; value = r.join v more }) (record { text = w.text; value = v })) })) [
          | true ↦ ap (λ result. then_ok {E = E} result
              (λ v. Ok (record (asked_two p) { two = Some (record { text = w.text; value = v }) })))
              (laws.later more w.value v frame is)
          | false ↦ ap (λ result. then_ok {E = E} result
              (λ v. Ok (record (asked_two p) { two = Some (record { text = w.text; value = v }) })))
              is
        ])
        ∙ ok-by asked_two (record p { two = Some (record { text = w.text; value = v }) }) q h

    text-joined : (w : Second V T) → (join_two r u more w).text ≡ w.text
    text-joined w =
        elim (r.same u w.text) as (λ (b : Bool). (cond b (record { text = w.text; value = r.join w.value more }) w).text ≡ w.text) [
          | true ↦ refl
          | false ↦ refl
        ]

    two-asked_two : (t : T) (frame : List ℕ) (o : Option (Second V T)) (p : FrontPair V A T)
        → Later asked_two (take_two r t frame o p) (take_two r t frame (option_map (join_two r u more) o) (asked_two p))
    two-asked_two t frame None p q e = no-ok r.strange q e
    two-asked_two t frame (Some w) p q e =
        ap (λ text. cond (r.same text t) (then_ok (r.take (join_two r u more w).value frame)
        (λ v. Ok (record (asked_two p) { two = Some (record { text = (join_two r u more w).text; value = v }) }))) (Err r.strange))
        (text-joined w)
        ∙ ((elim (r.same w.text t) as (λ (b : Bool).
        cond b (then_ok (r.take w.value frame) (λ v. Ok (record p { two = Some (record { text = w.text; value = v }) }))) (Err r.strange)
        ≡ Ok q
        → cond b (then_ok (r.take (join_two r u more w).value frame)
        (λ v. Ok (record (asked_two p) { two = Some (record { text = (join_two r u more w).text; value = v }) })))
        (Err r.strange) ≡ Ok (asked_two q)) [
          | true ↦ λ h. two-takes w frame p q (r.take w.value frame) refl h
          | false ↦ λ h. no-ok r.strange q h
        ]) e)

    new-asked : (t : T) (xs : List (SessionAsks A T))
        → record { text = t; value = r.join r.begin (asks_of_session r t (xs ++ record { text = u; asks = more } ∷ [])) }
        ≡ join_two r u more (record { text = t; value = r.join r.begin (asks_of_session r t xs) })
    new-asked t xs =
        ap (λ xs. record { text = t; value = r.join r.begin xs }) (asks-later t u more xs)
        ∙ (elim (r.same u t) as (λ (b : Bool).
        ◌≡◌ {A = Second V T} (record { text = t; value = r.join r.begin (asks_of_session r t xs ++ cond b more []) })
        (cond b (record { text = t; value = r.join (r.join r.begin (asks_of_session r t xs)) more })
        (record { text = t; value = r.join r.begin (asks_of_session r t xs) }))) [
          | true ↦ ap (λ v. record { text = t; value = v }) (sym (laws.joins r.begin (asks_of_session r t xs) more))
          | false ↦ ap (λ xs. record { text = t; value = r.join r.begin xs }) (append-nil (asks_of_session r t xs))
        ])

    is_none-mapped : (o : Option (Second V T)) → is_none (option_map (join_two r u more) o) ≡ is_none o
    is_none-mapped None = refl
    is_none-mapped (Some w) = refl

    done-asked_two : (outcome : Result (TargetOutcome T) E) (p : FrontPair V A T)
        → Later asked_two (then_ok outcome (λ o. target_done r o p)) (then_ok outcome (λ o. target_done r o (asked_two p)))
    done-asked_two (Err x) p q e = no-ok x q e
    done-asked_two (Ok nothing_done) p q e = ok-by asked_two p q e
    done-asked_two (Ok (session_made t n)) p q e =
        ap (λ b. cond {A = Result (FrontPair V A T) E} (b && nat_lt p.top n)
        (Ok (front_pair p.one
        (Some (record { text = t; value = r.join r.begin (asks_of_session r t (p.asked ++ record { text = u; asks = more } ∷ [])) }))
        p.waiting (p.asked ++ record { text = u; asks = more } ∷ []) n)) (Err r.strange)) (is_none-mapped p.two)
        ∙ ((elim (is_none p.two && nat_lt p.top n) as (λ (b : Bool).
        cond {A = Result (FrontPair V A T) E} b
        (Ok (front_pair p.one (Some (record { text = t; value = r.join r.begin (asks_of_session r t p.asked) })) p.waiting p.asked n))
        (Err r.strange) ≡ Ok q
        → cond {A = Result (FrontPair V A T) E} b
        (Ok (front_pair p.one
        (Some (record { text = t; value = r.join r.begin (asks_of_session r t (p.asked ++ record { text = u; asks = more } ∷ [])) }))
        p.waiting (p.asked ++ record { text = u; asks = more } ∷ []) n))
        (Err r.strange) ≡ Ok (asked_two q)) [
          | true ↦ λ h.
              ap (λ s. Ok (front_pair p.one (Some s) p.waiting (p.asked ++ record { text = u; asks = more } ∷ []) n)) (new-asked t p.asked)
              ∙ ok-by asked_two (front_pair p.one
              (Some (record { text = t; value = r.join r.begin (asks_of_session r t p.asked) })) p.waiting
              p.asked n) q h
          | false ↦ λ h. no-ok r.strange q h
        ]) e)
    done-asked_two (Ok session_dropped) p q e = ok-by asked_two (record p { two = None }) q e

    target-asked_two : (id : ℕ) (frame : List ℕ) (k : Option TargetKind) (p : FrontPair V A T)
        → Later asked_two (take_target r id frame k p) (take_target r id frame k (asked_two p))
    target-asked_two id frame None p q e = no-ok r.unasked q e
    target-asked_two id frame (Some kind) p q e = done-asked_two (r.outcome kind frame) (record p { waiting = without_id id p.waiting }) q e

    down-asked_two : (down : Down T) (frame : List ℕ) (p : FrontPair V A T)
        → Later asked_two (take_down r down frame p) (take_down r down frame (asked_two p))
    down-asked_two (of_session t text) frame p q e = two-asked_two t text p.two p q e
    down-asked_two (bare None) frame p q e = one-apart asked_two p (r.take p.one frame) (λ v. refl) q e
    down-asked_two (bare (Some id)) frame p q e =
        (elim (r.is_target id) as (λ (b : Bool).
        cond b (take_target r id frame (kind_waiting id p.waiting) p) (with_one r (r.take p.one frame) p) ≡ Ok q
        → cond b (take_target r id frame (kind_waiting id p.waiting) (asked_two p))
        (with_one r (r.take p.one frame) (asked_two p)) ≡ Ok (asked_two q)) [
          | true ↦ λ h. target-asked_two id frame (kind_waiting id p.waiting) p q h
          | false ↦ λ h. one-apart asked_two p (r.take p.one frame) (λ v. refl) q h
        ]) e

  -- ---- whatever is sent up

  later-way : (way : Way T) (down : Down T) (frame : List ℕ) (p : FrontPair V A T)
      → Later (join_way r way) (take_down r down frame p) (take_down r down frame (join_way r way p))
  later-way (to_root text) down frame p q e = down-asked_one (r.asks text) down frame p q e
  later-way (to_session t text) down frame p q e = down-asked_two t (r.asks text) down frame p q e
  later-way (attaches id) down frame p q e = down-waiting (record { id = id; kind = attach }) down frame p q e
  later-way (detaches id t) down frame p q e = down-waiting (record { id = id; kind = detach }) down frame p q e

  pub later-pair : (ask : List ℕ) (before after : FrontPair V A T) (frames : List (List ℕ))
      → folded (take_pair r) before frames ≡ Ok after → folded (take_pair r) (join_pair r before ask) frames ≡ Ok (join_pair r after ask)
  later-pair ask before after [] e = ok-by (λ p. join_pair r p ask) before after e
  later-pair ask before after (frame ∷ frames) e =
      (elim (take_pair r before frame) as (λ (result : Result (FrontPair V A T) E). take_pair r before frame ≡ result
      → then_ok result (λ next. folded (take_pair r) next frames) ≡ Ok after
      → then_ok (take_pair r (join_pair r before ask) frame) (λ next. folded (take_pair r) next frames) ≡ Ok (join_pair r after ask)) [
        | Ok next ↦ λ is rest.
            ap (λ result. then_ok result (λ next. folded (take_pair r) next frames))
            (later-way (r.way ask) (r.down frame) frame before next is)
            ∙ later-pair ask next after frames rest
        | Err x ↦ λ is rest. no-ok x after rest
      ]) refl e
