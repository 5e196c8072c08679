-- Two pairs of front ends that show the same, but for what is fetched, show the same after a frame that both take or send.
use Rattle.std.proofs.Common.{◌≡◌, ℕ, ◌<◌, Bool, true, false, cond, nat_lt, List, [], ◌∷◌, ◌++◌, Option, Some, None, refl, sym}
use Rattle.std.proofs.Common.{option_map, ◌∙◌, ap, Result, Ok, Err, arith}
use Rattle.std.proofs.lemmas.Bool.{lt-ltb, ltb-true}
use Rattle.cdp_json.specs.Lookups.{then_ok}
use Rattle.session_runs.specs.Pairs.{Way, to_root, to_session, attaches, detaches, Down, bare, of_session, TargetKind, attach, detach}
use Rattle.session_runs.specs.Pairs.{WaitingTarget, TargetOutcome, nothing_done, session_made, session_dropped, SessionAsks, FrontReads}
use Rattle.session_runs.specs.Pairs.{Second, FrontPair}
use Rattle.session_runs.specs.Pairs.{front_pair, kind_waiting, without_id, asks_of_session, with_one, take_two, target_done, take_target}
use Rattle.session_runs.specs.Pairs.{take_down, take_pair, join_two, join_way, join_pair}
use Rattle.session_runs.specs.PairCame.{is_to_come, asks_to_come, second_seen, pair_seen, NumberLaws}

-- an ask more of a session stands last
pub come-last : {A T : Type 0} (number : T → Option ℕ) (top : ℕ) (xs : List (SessionAsks A T)) (a : SessionAsks A T)
    → asks_to_come number top (xs ++ a ∷ []) ≡ asks_to_come number top xs ++ cond (is_to_come top (number a.text)) (a ∷ []) []
come-last number top [] a = refl
come-last number top (x ∷ xs) a =
    ap (λ ys. cond (is_to_come top (number x.text)) (x ∷ ys) ys) (come-last number top xs a)
    ∙ (elim (is_to_come top (number x.text)) as (λ (b : Bool).
    cond b (x ∷ (asks_to_come number top xs ++ cond (is_to_come top (number a.text)) (a ∷ []) []))
    (asks_to_come number top xs ++ cond (is_to_come top (number a.text)) (a ∷ []) [])
    ≡ cond b (x ∷ asks_to_come number top xs) (asks_to_come number top xs) ++ cond (is_to_come top (number a.text)) (a ∷ []) []) [
      | true ↦ refl
      | false ↦ refl
    ])

module _ {V U E A T : Type 0} (r : FrontReads V E A T) (seen : V → U) (number : T → Option ℕ) (laws : NumberLaws r number)
    (takes : (v w v1 w1 : V) (frame : List ℕ) → seen v ≡ seen w → r.take v frame ≡ Ok v1 → r.take w frame ≡ Ok w1 → seen v1 ≡ seen w1)
    (joins : (v w : V) (more : List A) → seen v ≡ seen w → seen (r.join v more) ≡ seen (r.join w more)) where
  -- ---- asks of sessions that are still to come

  -- the asks of such a session are among them
  asks-come : (s : T) (m top : ℕ) (xs : List (SessionAsks A T)) → number s ≡ Some m → top < m
      → asks_of_session r s (asks_to_come number top xs) ≡ asks_of_session r s xs
  asks-come s m top [] is less = refl
  asks-come s m top (a ∷ xs) is less =
      (elim (is_to_come top (number a.text)) as (λ (b : Bool). is_to_come top (number a.text) ≡ b
      → asks_of_session r s (cond b (a ∷ asks_to_come number top xs) (asks_to_come number top xs))
      ≡ cond (r.same a.text s) a.asks [] ++ asks_of_session r s xs) [
        | true ↦ λ e. ap (λ ys. cond (r.same a.text s) a.asks [] ++ ys) (asks-come s m top xs is less)
        | false ↦ λ e.
            asks-come s m top xs is less
            ∙ ap (λ b. cond b a.asks [] ++ asks_of_session r s xs) (sym (apart (r.same a.text s) refl e))
      ]) refl
    where
      apart : (b : Bool) → r.same a.text s ≡ b → is_to_come top (number a.text) ≡ false → r.same a.text s ≡ false
      apart true same e =
          let comes : is_to_come top (number a.text) ≡ true =
          ap (λ u. is_to_come top (number u)) (laws.same_is a.text s same) ∙ ap (is_to_come top) is ∙ lt-ltb top m less in
          let no : true ≡ false = sym comes ∙ e in absurd cc
      apart false same e = same

  not-yet : (top m : ℕ) (o : Option ℕ) → top < m → is_to_come top o ≡ false → is_to_come m o ≡ false
  not-yet top m None less e = refl
  not-yet top m (Some n) less e =
      (elim (nat_lt m n) as (λ (b : Bool). nat_lt m n ≡ b → b ≡ false) [
        | true ↦ λ is.
            let more : m < n = ltb-true m n is in
            let no : true ≡ false = sym (lt-ltb top n (omega (arith, less, more))) ∙ e in absurd cc
        | false ↦ λ is. refl
      ]) refl

  -- those that are still to come later are among those that are now
  come-later : (top m : ℕ) (xs : List (SessionAsks A T)) → top < m
      → asks_to_come number m (asks_to_come number top xs) ≡ asks_to_come number m xs
  come-later top m [] less = refl
  come-later top m (a ∷ xs) less =
      (elim (is_to_come top (number a.text)) as (λ (b : Bool). is_to_come top (number a.text) ≡ b
      → asks_to_come number m (cond b (a ∷ asks_to_come number top xs) (asks_to_come number top xs))
      ≡ cond (is_to_come m (number a.text)) (a ∷ asks_to_come number m xs) (asks_to_come number m xs)) [
        | true ↦ λ e. ap (λ ys. cond (is_to_come m (number a.text)) (a ∷ ys) ys) (come-later top m xs less)
        | false ↦ λ e.
            come-later top m xs less
            ∙ ap (λ b. cond b (a ∷ asks_to_come number m xs) (asks_to_come number m xs)) (sym (not-yet top m (number a.text) less e))
      ]) refl

  -- ---- what is seen

  abbrev S : FrontPair V A T → FrontPair U A T
  S p = pair_seen seen number p

  like : (one one2 : V) (two two2 : Option (Second V T)) (ws : List WaitingTarget) (xs xs2 : List (SessionAsks A T)) (top : ℕ)
      → seen one ≡ seen one2 → option_map (second_seen seen) two ≡ option_map (second_seen seen) two2
      → asks_to_come number top xs ≡ asks_to_come number top xs2
      → S (front_pair one two ws xs top) ≡ S (front_pair one2 two2 ws xs2 top)
  like one one2 two two2 ws xs xs2 top a b c = λ i. front_pair (a i) (b i) ws (c i) top

  both-ok : (x y p q : FrontPair V A T) → S x ≡ S y → ◌≡◌ {A = Result (FrontPair V A T) E} (Ok x) (Ok p)
      → ◌≡◌ {A = Result (FrontPair V A T) E} (Ok y) (Ok q) → S p ≡ S q
  both-ok x y p q same e f =
      let a : x ≡ p = cc e in
      let b : y ≡ q = cc f in
      sym (ap S a) ∙ same ∙ ap S b

  not-ok : {P : Type 0} (e : E) (q : FrontPair V A T) → ◌≡◌ {A = Result (FrontPair V A T) E} (Err e) (Ok q) → P
  not-ok e q wrong = absurd cc

  no-second : {P : Type 0} (w : Second U T) → ◌≡◌ {A = Option (Second U T)} None (Some w) → P
  no-second w e = absurd cc

  second-same : (a b : Second U T) → Some a ≡ Some b → a ≡ b
  second-same a b e = cc

  module _ (one one2 : V) (ws : List WaitingTarget) (xs xs2 : List (SessionAsks A T)) (top : ℕ) (p q : FrontPair V A T)
      (ones : seen one ≡ seen one2) (later : asks_to_come number top xs ≡ asks_to_come number top xs2) where
    -- ---- a frame of a session

    took-both : (t s : T) (text : List ℕ) (v v2 : V) (result result2 : Result V E) → seen v ≡ seen v2 → r.take v text ≡ result
        → r.take v2 text ≡ result2
        → then_ok {E = E} result (λ x. Ok (front_pair one (Some (record { text = t; value = x })) ws xs top)) ≡ Ok p
        → then_ok {E = E} result2 (λ x. Ok (front_pair one2 (Some (record { text = t; value = x })) ws xs2 top)) ≡ Ok q → S p ≡ S q
    took-both t s text v v2 (Ok x) (Ok y) same is is2 e f =
        both-ok (front_pair one (Some (record { text = t; value = x })) ws xs top)
        (front_pair one2 (Some (record { text = t; value = y })) ws xs2 top) p q
        (like one one2 (Some (record { text = t; value = x })) (Some (record { text = t; value = y })) ws xs xs2 top ones
        (ap (λ u. Some (record { text = t; value = u })) (takes v v2 x y text same is is2)) later) e f
    took-both t s text v v2 (Ok x) (Err y) same is is2 e f = not-ok y q f
    took-both t s text v v2 (Err x) result2 same is is2 e f = not-ok x p e

    two-seen : (s : T) (text : List ℕ) (two two2 : Option (Second V T))
        → option_map (second_seen seen) two ≡ option_map (second_seen seen) two2
        → take_two r s text two (front_pair one two ws xs top) ≡ Ok p → take_two r s text two2 (front_pair one2 two2 ws xs2 top) ≡ Ok q
        → S p ≡ S q
    two-seen s text None two2 same e f = not-ok r.strange p e
    two-seen s text (Some w) None same e f = not-ok r.strange q f
    two-seen s text (Some w) (Some w2) same e f =
        let seconds : second_seen seen w ≡ second_seen seen w2 = second-same (second_seen seen w) (second_seen seen w2) same in
        let texts : w.text ≡ w2.text = ap (λ (u : Second U T). u.text) seconds in
        let f2 : step w.text w2.value (r.same w.text s) one2 xs2 ≡ Ok q =
        ap (λ t. step t w2.value (r.same t s) one2 xs2) texts ∙ f in
        (elim (r.same w.text s) as (λ (b : Bool).
        step w.text w.value b one xs ≡ Ok p → step w.text w2.value b one2 xs2 ≡ Ok q → S p ≡ S q) [
          | true ↦ λ g h.
              took-both w.text s text w.value w2.value (r.take w.value text) (r.take w2.value text)
              (ap (λ (u : Second U T). u.value) seconds) refl refl g h
          | false ↦ λ g h. not-ok r.strange p g
        ]) e f2
      where
        step : T → V → Bool → V → List (SessionAsks A T) → Result (FrontPair V A T) E
        step t v b first ys =
            cond b (then_ok (r.take v text) (λ x. Ok (front_pair first (Some (record { text = t; value = x })) ws ys top))) (Err r.strange)

    -- ---- one of the first front end

    one-seen : (frame : List ℕ) (two two2 : Option (Second V T)) (result result2 : Result V E)
        → option_map (second_seen seen) two ≡ option_map (second_seen seen) two2 → r.take one frame ≡ result → r.take one2 frame ≡ result2
        → with_one r result (front_pair one two ws xs top) ≡ Ok p → with_one r result2 (front_pair one2 two2 ws xs2 top) ≡ Ok q
        → S p ≡ S q
    one-seen frame two two2 (Ok v) (Ok v2) same is is2 e f =
        both-ok (front_pair v two ws xs top) (front_pair v2 two2 ws xs2 top) p q
        (like v v2 two two2 ws xs xs2 top (takes one one2 v v2 frame ones is is2) same later) e f
    one-seen frame two two2 (Ok v) (Err y) same is is2 e f = not-ok y q f
    one-seen frame two two2 (Err x) result2 same is is2 e f = not-ok x p e

    -- ---- a reply to an attach or a detach

    made-seen : (s : T) (m : ℕ) (two two2 : Option (Second V T)) → number s ≡ Some m
        → option_map (second_seen seen) two ≡ option_map (second_seen seen) two2
        → target_done r (session_made s m) (front_pair one two ws xs top) ≡ Ok p
        → target_done r (session_made s m) (front_pair one2 two2 ws xs2 top) ≡ Ok q → S p ≡ S q
    made-seen s m (Some w) two2 is same e f = not-ok r.strange p e
    made-seen s m None (Some w2) is same e f = not-ok r.strange q f
    made-seen s m None None is same e f =
        (elim (nat_lt top m) as (λ (b : Bool). nat_lt top m ≡ b
        → cond {A = Result (FrontPair V A T) E} b (Ok (begun one xs)) (Err r.strange) ≡ Ok p
        → cond {A = Result (FrontPair V A T) E} b (Ok (begun one2 xs2)) (Err r.strange) ≡ Ok q → S p ≡ S q) [
          | true ↦ λ less g h.
              let low : top < m = ltb-true top m less in
              let asks : asks_of_session r s xs ≡ asks_of_session r s xs2 =
              sym (asks-come s m top xs is low) ∙ ap (asks_of_session r s) later ∙ asks-come s m top xs2 is low in
              both-ok (begun one xs) (begun one2 xs2) p q
              (like one one2 (second xs) (second xs2) ws xs xs2 m ones
              (ap (λ ys. Some (record { text = s; value = seen (r.join r.begin ys) })) asks)
              (sym (come-later top m xs low) ∙ ap (asks_to_come number m) later ∙ come-later top m xs2 low)) g h
          | false ↦ λ less g h. not-ok r.strange p g
        ]) refl e f
      where
        second : List (SessionAsks A T) → Option (Second V T)
        second ys = Some (record { text = s; value = r.join r.begin (asks_of_session r s ys) })

        begun : V → List (SessionAsks A T) → FrontPair V A T
        begun first ys = front_pair first (second ys) ws ys m

    done-seen : (outcome : TargetOutcome T) (two two2 : Option (Second V T))
        → ((s : T) (m : ℕ) → outcome ≡ session_made s m → number s ≡ Some m)
        → option_map (second_seen seen) two ≡ option_map (second_seen seen) two2
        → target_done r outcome (front_pair one two ws xs top) ≡ Ok p → target_done r outcome (front_pair one2 two2 ws xs2 top) ≡ Ok q
        → S p ≡ S q
    done-seen nothing_done two two2 made same e f =
        both-ok (front_pair one two ws xs top) (front_pair one2 two2 ws xs2 top) p q
        (like one one2 two two2 ws xs xs2 top ones same later) e f
    done-seen (session_made s m) two two2 made same e f = made-seen s m two two2 (made s m refl) same e f
    done-seen session_dropped two two2 made same e f =
        both-ok (front_pair one None ws xs top) (front_pair one2 None ws xs2 top) p q
        (like one one2 None None ws xs xs2 top ones refl later) e f

  -- ---- any frame

  module _ (frame : List ℕ) (one one2 : V) (two two2 : Option (Second V T)) (ws : List WaitingTarget) (xs xs2 : List (SessionAsks A T))
      (top : ℕ) (p q : FrontPair V A T) (ones : seen one ≡ seen one2)
      (twos : option_map (second_seen seen) two ≡ option_map (second_seen seen) two2)
      (later : asks_to_come number top xs ≡ asks_to_come number top xs2) where
    abbrev before : FrontPair V A T
    before = front_pair one two ws xs top

    abbrev before2 : FrontPair V A T
    before2 = front_pair one2 two2 ws xs2 top

    target-seen : (id : ℕ) (o : Option TargetKind) → take_target r id frame o before ≡ Ok p → take_target r id frame o before2 ≡ Ok q
        → S p ≡ S q
    target-seen id None e f = not-ok r.unasked p e
    target-seen id (Some kind) e f = at (r.outcome kind frame) refl e f where
      at : (result : Result (TargetOutcome T) E) → r.outcome kind frame ≡ result
          → then_ok result (λ outcome. target_done r outcome (record before { waiting = without_id id ws })) ≡ Ok p
          → then_ok result (λ outcome. target_done r outcome (record before2 { waiting = without_id id ws })) ≡ Ok q → S p ≡ S q
      at (Ok outcome) is g h =
          done-seen one one2 (without_id id ws) xs xs2 top p q ones later outcome two two2
          (λ s m made. laws.made kind frame s m (is ∙ ap (λ x. Ok x) made)) twos g h
      at (Err x) is g h = not-ok x p g

    down-seen : (down : Down T) → take_down r down frame before ≡ Ok p → take_down r down frame before2 ≡ Ok q → S p ≡ S q
    down-seen (of_session s text) e f = two-seen one one2 ws xs xs2 top p q ones later s text two two2 twos e f
    down-seen (bare None) e f =
        one-seen one one2 ws xs xs2 top p q ones later frame two two2 (r.take one frame) (r.take one2 frame) twos refl refl e f
    down-seen (bare (Some id)) e f =
        (elim (r.is_target id) as (λ (b : Bool).
        cond b (take_target r id frame (kind_waiting id ws) before) (with_one r (r.take one frame) before) ≡ Ok p
        → cond b (take_target r id frame (kind_waiting id ws) before2) (with_one r (r.take one2 frame) before2) ≡ Ok q → S p ≡ S q) [
          | true ↦ λ g h. target-seen id (kind_waiting id ws) g h
          | false ↦ λ g h.
              one-seen one one2 ws xs xs2 top p q ones later frame two two2 (r.take one frame) (r.take one2 frame) twos refl refl g h
        ]) e f

  pub seen-takes : (v w v1 w1 : FrontPair V A T) (frame : List ℕ) → S v ≡ S w → take_pair r v frame ≡ Ok v1 → take_pair r w frame ≡ Ok w1
      → S v1 ≡ S w1
  seen-takes v w v1 w1 frame same e f =
      let waits : v.waiting ≡ w.waiting = ap (λ (x : FrontPair U A T). x.waiting) same in
      let tops : v.top ≡ w.top = ap (λ (x : FrontPair U A T). x.top) same in
      down-seen frame v.one w.one v.two w.two v.waiting v.asked w.asked v.top v1 w1 (ap (λ (x : FrontPair U A T). x.one) same)
      (ap (λ (x : FrontPair U A T). x.two) same)
      (ap (λ (x : FrontPair U A T). x.asked) same ∙ ap (λ top. asks_to_come number top w.asked) (sym tops)) (r.down frame) e
      (ap (λ ws. take_pair r (front_pair w.one w.two ws w.asked v.top) frame) waits
      ∙ ap (λ top. take_pair r (front_pair w.one w.two w.waiting w.asked top) frame) tops ∙ f)

  -- ---- what is sent

  two-joined : (s : T) (more : List A) (o o2 : Option (Second V T))
      → option_map (second_seen seen) o ≡ option_map (second_seen seen) o2
      → option_map (second_seen seen) (option_map (join_two r s more) o) ≡ option_map (second_seen seen) (option_map (join_two r s more) o2)
  two-joined s more None None e = refl
  two-joined s more None (Some w2) e = no-second (second_seen seen w2) e
  two-joined s more (Some w) None e = no-second (second_seen seen w) (sym e)
  two-joined s more (Some w) (Some w2) e =
      let seconds : second_seen seen w ≡ second_seen seen w2 = second-same (second_seen seen w) (second_seen seen w2) e in
      let texts : w.text ≡ w2.text = ap (λ (u : Second U T). u.text) seconds in
      let values : seen w.value ≡ seen w2.value = ap (λ (u : Second U T). u.value) seconds in
      ap (λ u. Some u)
      ((elim (r.same s w.text) as (λ (b : Bool). second_seen seen (either b w.text w.value) ≡ second_seen seen (either b w.text w2.value)) [
        | true ↦ λ i. record { text = w.text; value = joins w.value w2.value more values i }
        | false ↦ λ i. record { text = w.text; value = values i }
      ])
      ∙ ap (λ t. second_seen seen (either (r.same s t) t w2.value)) texts)
    where
      either : Bool → T → V → Second V T
      either b t v = cond b (record { text = t; value = r.join v more }) (record { text = t; value = v })

  way-seen : (way : Way T) (v w : FrontPair V A T) → S v ≡ S w → S (join_way r way v) ≡ S (join_way r way w)
  way-seen (to_root text) v w same =
      let ones : seen (r.join v.one (r.asks text)) ≡ seen (r.join w.one (r.asks text)) =
      joins v.one w.one (r.asks text) (ap (λ (x : FrontPair U A T). x.one) same) in
      λ i. front_pair (ones i) (same i).two (same i).waiting (same i).asked (same i).top
  way-seen (to_session s text) v w same =
      let twos = two-joined s (r.asks text) v.two w.two (ap (λ (x : FrontPair U A T). x.two) same) in
      let one : SessionAsks A T = record { text = s; asks = r.asks text } in
      let more : asks_to_come number v.top (v.asked ++ one ∷ []) ≡ asks_to_come number w.top (w.asked ++ one ∷ []) =
      come-last number v.top v.asked one
      ∙ ap (λ (x : FrontPair U A T). x.asked ++ cond (is_to_come x.top (number s)) (one ∷ []) []) same
      ∙ sym (come-last number w.top w.asked one) in
      λ i. front_pair (same i).one (twos i) (same i).waiting (more i) (same i).top
  way-seen (attaches id) v w same =
      λ i. front_pair (same i).one (same i).two ((same i).waiting ++ record { id = id; kind = attach } ∷ []) (same i).asked (same i).top
  way-seen (detaches id t) v w same =
      λ i. front_pair (same i).one (same i).two ((same i).waiting ++ record { id = id; kind = detach } ∷ []) (same i).asked (same i).top

  pub seen-joins : (v w : FrontPair V A T) (ask : List ℕ) → S v ≡ S w → S (join_pair r v ask) ≡ S (join_pair r w ask)
  seen-joins v w ask same = way-seen (r.way ask) v w same
