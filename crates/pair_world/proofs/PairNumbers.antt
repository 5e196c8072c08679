-- Front ends number what they send as the run counts it.
use Rattle.std.proofs.Common.{◌≡◌, ℕ, ◌+◌, ◌==◌, Bool, true, false, ◌&&◌, cond, nat_lt, List, [], ◌∷◌, Option, Some, None, is_none}
use Rattle.std.proofs.Common.{is_some}
use Rattle.std.proofs.Common.{refl, sym, ◌∙◌, ap, subst, arith, Result, Ok, Err}
use Rattle.std.specs.Prelude.{All, option_map, bytes_eq}
use Rattle.std.proofs.lemmas.List.Elements.{All-nil, All-cons, All-append, All-head, All-tail, All-weaker}
use Rattle.cdp_json.specs.Lookups.{then_ok}
use Rattle.front_mirror.specs.declared.faults.FrontKind.{FrontKind}
use Rattle.front_mirror.specs.Front.{FrontValue, FrontState, after_ask, after_fetch, take_frame}
use Rattle.session_runs.specs.Pairs.{TargetKind, attach, detach, TargetOutcome, nothing_done, session_made, session_dropped, WaitingTarget}
use Rattle.session_runs.specs.Pairs.{Down, bare, of_session, Second, front_pair, kind_waiting, without_id, target_done, take_target}
use Rattle.session_runs.specs.Pairs.{take_two}
use Rattle.session_runs.specs.Pairs.{take_down, take_pair, with_one, asks_of_session}
use Rattle.multi_replay.specs.Folds.{after_down, pair_folded, take_whole, state_reads}
use Rattle.multi_replay.specs.Incoming.{frame_down, is_target_id, reply_says, target_says}
use Rattle.cdp_messages.specs.Replies.{Message, reply, fault, event, down_of}
use Rattle.pipe_frames.specs.Frames.{frames_from}
use Rattle.front_mirror.specs.declared.faults.FrontFault.{FrontFault}
use Rattle.multi_replay.specs.States.{StatePair, FrontsState, is_there, after_target, after_asked, after_fetched}
use Rattle.multi_replay.specs.States.{after_taken, after_down_bytes, unless_faulty}
use Rattle.pair_world.specs.PairRuns.{PairSpent, one_ask_on, one_fetch_on, one_attach, one_detach}
use Rattle.pair_world.specs.PairHeld.{SecondCounted, CountsNone, NumberAsCounted}

-- ---- what front ends send

-- an ask of the front end that is meant
pub numbered-asked : (second : Bool) (n : PairSpent) (s : FrontsState) (method : List ℕ) → is_there second s.pair ≡ true
    → (second ≡ true → All (λ (t : WaitingTarget). t.kind ≡ attach → ⊥) s.pair.waiting)
    → NumberAsCounted n s → NumberAsCounted (one_ask_on second n) (after_asked s second method)
numbered-asked false n s method there none num = record {
  asks = ap (λ k. k + 1) num.asks;
  fetches = num.fetches;
  second = num.second;
  attaching = num.attaching;
  targets = num.targets;
}
numbered-asked true n s method there none num = record {
  asks = num.asks;
  fetches = num.fetches;
  second = by s.pair.two num.second;
  attaching = All-weaker (λ (t : WaitingTarget). t.kind ≡ attach → ⊥) (CountsNone (one_ask_on true n))
      (λ t no is. absurd (no is)) s.pair.waiting (none refl);
  targets = num.targets;
}
  where
    by : (two : Option (Second FrontState (List ℕ))) → SecondCounted n two
        → SecondCounted (one_ask_on true n)
        (option_map (λ (w : Second FrontState (List ℕ)). record { text = w.text; value = after_ask w.value method }) two)
    by None counted = tt
    by (Some w) counted = (ap (λ k. k + 1) counted.0, counted.1)

-- a fetch of it
pub numbered-fetched : (second : Bool) (n : PairSpent) (s : FrontsState) (sheet : ℕ) → is_there second s.pair ≡ true
    → (second ≡ true → All (λ (t : WaitingTarget). t.kind ≡ attach → ⊥) s.pair.waiting)
    → NumberAsCounted n s → NumberAsCounted (one_fetch_on second n) (after_fetched s second sheet)
numbered-fetched false n s sheet there none num = record {
  asks = num.asks;
  fetches = ap (λ k. k + 1) num.fetches;
  second = num.second;
  attaching = num.attaching;
  targets = num.targets;
}
numbered-fetched true n s sheet there none num = record {
  asks = num.asks;
  fetches = num.fetches;
  second = by s.pair.two num.second;
  attaching = All-weaker (λ (t : WaitingTarget). t.kind ≡ attach → ⊥) (CountsNone (one_fetch_on true n))
      (λ t no is. absurd (no is)) s.pair.waiting (none refl);
  targets = num.targets;
}
  where
    by : (two : Option (Second FrontState (List ℕ))) → SecondCounted n two
        → SecondCounted (one_fetch_on true n)
        (option_map (λ (w : Second FrontState (List ℕ)). record { text = w.text; value = after_fetch w.value sheet }) two)
    by None counted = tt
    by (Some w) counted = (counted.0, ap (λ k. k + 1) counted.1)

-- an attach, where no second front end stands
pub numbered-attach : (n : PairSpent) (s : FrontsState) → is_there true s.pair ≡ false → NumberAsCounted n s
    → NumberAsCounted (one_attach n) (after_target s attach)
numbered-attach n s alone num = record {
  asks = num.asks;
  fetches = num.fetches;
  second = by s.pair.two alone;
  attaching = All-append (CountsNone (one_attach n)) s.pair.waiting (record { id = s.next; kind = attach } ∷ [])
      (All-weaker (CountsNone n) (CountsNone (one_attach n)) (λ t old is. (refl, refl)) s.pair.waiting num.attaching)
      (All-cons (CountsNone (one_attach n)) (record { id = s.next; kind = attach }) [] (λ is. (refl, refl))
      (All-nil (CountsNone (one_attach n))));
  targets = let target = num.targets in omega (arith, target);
}
  where
    by : (two : Option (Second FrontState (List ℕ))) → is_some two ≡ false → SecondCounted (one_attach n) two
    by None alone = tt
    by (Some w) alone = absurd cc

-- a detach
pub numbered-detach : (n : PairSpent) (s : FrontsState) → NumberAsCounted n s → NumberAsCounted (one_detach n) (after_target s detach)
numbered-detach n s num = record {
  asks = num.asks;
  fetches = num.fetches;
  second = by s.pair.two num.second;
  attaching = All-append (CountsNone (one_detach n)) s.pair.waiting (record { id = s.next; kind = detach } ∷ [])
      (All-weaker (CountsNone n) (CountsNone (one_detach n)) (λ t old is. old is) s.pair.waiting num.attaching)
      (All-cons (CountsNone (one_detach n)) (record { id = s.next; kind = detach }) [] (λ is. absurd (apart is))
      (All-nil (CountsNone (one_detach n))));
  targets = let target = num.targets in omega (arith, target);
}
  where
    apart : ◌≡◌ {A = TargetKind} detach attach → ⊥
    apart e = absurd cc

    by : (two : Option (Second FrontState (List ℕ))) → SecondCounted n two → SecondCounted (one_detach n) two
    by None counted = tt
    by (Some w) counted = counted

-- ---- what front ends take

-- how two front ends number, without their next attach or detach
pub record PairNumbered (n : PairSpent) (p : StatePair) : Type 0 where
  pub asks : p.one.next ≡ n.asks + 1
  pub fetches : p.one.fetches ≡ n.fetches
  pub second : SecondCounted n p.two
  pub attaching : All (CountsNone n) p.waiting

-- what went well is one pair
pub pairs-same : (a b : StatePair) → ◌≡◌ {A = Result StatePair FrontKind} (Ok a) (Ok b) → a ≡ b
pairs-same a b e = cc

-- a front end that takes a frame numbers as before
pub whole-keeps : (s t : FrontState) (frame : List ℕ) → take_whole s frame ≡ Ok t → (t.next ≡ s.next) × (t.fetches ≡ s.fetches)
whole-keeps s t frame e = by (take_frame s.value frame) e where
  by : (result : Result FrontValue FrontKind) → then_ok result (λ v. Ok (record s { value = v })) ≡ Ok t
      → (t.next ≡ s.next) × (t.fetches ≡ s.fetches)
  by (Ok v) e =
      let same : record s { value = v } ≡ t = cc in
      (ap (λ (x : FrontState). x.next) (sym same), ap (λ (x : FrontState). x.fetches) (sym same))
  by (Err kind) e = let no : ◌≡◌ {A = Result FrontState FrontKind} (Err kind) (Ok t) = e in absurd cc

-- a command that was answered is gone
without-none : (n : PairSpent) (id : ℕ) (ws : List WaitingTarget) → All (CountsNone n) ws → All (CountsNone n) (without_id id ws)
without-none n id [] all = all
without-none n id (w ∷ ws) all =
    elim (w.id == id) as (λ (b : Bool). All (CountsNone n) (cond b ws (w ∷ without_id id ws))) [
      | true ↦ All-tail (CountsNone n) w ws all
      | false ↦ All-cons (CountsNone n) w (without_id id ws) (All-head (CountsNone n) w ws all)
          (without-none n id ws (All-tail (CountsNone n) w ws all))
    ]

-- an attach that waits counts none
kind-none : (n : PairSpent) (id : ℕ) (ws : List WaitingTarget) → All (CountsNone n) ws → kind_waiting id ws ≡ Some attach
    → (n.second_asks ≡ 0) × (n.second_fetches ≡ 0)
kind-none n id [] all is = absurd cc
kind-none n id (w ∷ ws) all is =
    (elim (w.id == id) as (λ (b : Bool). cond b (Some w.kind) (kind_waiting id ws) ≡ Some attach
    → (n.second_asks ≡ 0) × (n.second_fetches ≡ 0)) [
      | true ↦ λ e. All-head (CountsNone n) w ws all (some-same w.kind attach e)
      | false ↦ λ e. kind-none n id ws (All-tail (CountsNone n) w ws all) e
    ]) is
  where
    some-same : (a b : TargetKind) → Some a ≡ Some b → a ≡ b
    some-same a b e = cc

-- what a reply to an attach or a detach does
target-numbered : (n : PairSpent) (o : TargetOutcome (List ℕ)) (p q : StatePair)
    → ((t : List ℕ) (k : ℕ) → o ≡ session_made t k → (n.second_asks ≡ 0) × (n.second_fetches ≡ 0))
    → target_done state_reads o p ≡ Ok q → PairNumbered n p → PairNumbered n q
target-numbered n nothing_done p q made e num =
    let same : p ≡ q = pairs-same p q e in subst (PairNumbered n) same num
target-numbered n (session_made t k) p q made e num = by (is_none p.two && nat_lt p.top k) e where
  zero : (n.second_asks ≡ 0) × (n.second_fetches ≡ 0)
  zero = made t k refl

  fresh : StatePair
  fresh = front_pair p.one (Some (record {
    text = t;
    value = state_reads.join state_reads.begin (asks_of_session state_reads t p.asked);
  })) p.waiting p.asked k

  by : (b : Bool) → cond b (Ok fresh) (Err state_reads.strange) ≡ Ok q → PairNumbered n q
  by true e = subst (PairNumbered n) (pairs-same fresh q e) (record {
    asks = num.asks;
    fetches = num.fetches;
    second = (sym (ap (λ c. c + 1) zero.0), sym zero.1);
    attaching = num.attaching;
  })
  by false e = let no : ◌≡◌ {A = Result StatePair FrontKind} (Err state_reads.strange) (Ok q) = e in absurd cc
target-numbered n session_dropped p q made e num =
    let same : record p { two = None } ≡ q = pairs-same (record p { two = None }) q e in
    subst (PairNumbered n) same (record { asks = num.asks; fetches = num.fetches; second = tt; attaching = num.attaching })

-- a session is made by an attach alone
made-by-attach : (kind : TargetKind) (frame t : List ℕ) (k : ℕ) → target_says kind frame ≡ Ok (session_made t k) → kind ≡ attach
made-by-attach attach frame t k e = refl
made-by-attach detach frame t k e = absurd (by (down_of frame) e) where
  by : (m : Option Message) → reply_says detach m ≡ Ok (session_made t k) → ⊥
  by None e = absurd cc
  by (Some (reply id result)) e = absurd cc
  by (Some (fault id code text)) e = absurd cc
  by (Some (event news)) e = absurd cc

-- a frame that comes down
take-numbered : (n : PairSpent) (p q : StatePair) (frame : List ℕ) → take_pair state_reads p frame ≡ Ok q → PairNumbered n p
    → PairNumbered n q
take-numbered n p q frame e num = by (frame_down frame) e where
  first : (result : Result FrontState FrontKind) → take_whole p.one frame ≡ result → with_one state_reads result p ≡ Ok q → PairNumbered n q
  first (Ok t) is e =
      let kept = whole-keeps p.one t frame is in
      subst (PairNumbered n) (pairs-same (record p { one = t }) q e)
      (record { asks = kept.0 ∙ num.asks; fetches = kept.1 ∙ num.fetches; second = num.second; attaching = num.attaching })
  first (Err kind) is e = let no : ◌≡◌ {A = Result StatePair FrontKind} (Err kind) (Ok q) = e in absurd cc

  with_second : (w : Second FrontState (List ℕ)) (text : List ℕ) → SecondCounted n (Some w) → (result : Result FrontState FrontKind)
      → take_whole w.value text ≡ result
      → then_ok result (λ v. Ok (record p { two = Some (record { text = w.text; value = v }) })) ≡ Ok q → PairNumbered n q
  with_second w text counted (Ok t) is e =
      let kept = whole-keeps w.value t text is in
      subst (PairNumbered n) (pairs-same (record p { two = Some (record { text = w.text; value = t }) }) q e)
      (record {
        asks = num.asks;
        fetches = num.fetches;
        second = (kept.0 ∙ counted.0, kept.1 ∙ counted.1);
        attaching = num.attaching;
      })
  with_second w text counted (Err kind) is e = let no : ◌≡◌ {A = Result StatePair FrontKind} (Err kind) (Ok q) = e in absurd cc

  second : (t text : List ℕ) (two : Option (Second FrontState (List ℕ))) → two ≡ p.two → take_two state_reads t text two p ≡ Ok q
      → PairNumbered n q
  second t text None is e = let no : ◌≡◌ {A = Result StatePair FrontKind} (Err state_reads.strange) (Ok q) = e in absurd cc
  second t text (Some w) is e =
      (elim (bytes_eq w.text t) as (λ (b : Bool).
      cond b (then_ok (take_whole w.value text) (λ v. Ok (record p { two = Some (record { text = w.text; value = v }) })))
      (Err state_reads.strange) ≡ Ok q → PairNumbered n q) [
        | true ↦ λ h. with_second w text (subst (SecondCounted n) (sym is) num.second) (take_whole w.value text) refl h
        | false ↦ λ h. let no : ◌≡◌ {A = Result StatePair FrontKind} (Err state_reads.strange) (Ok q) = h in absurd cc
      ]) e

  answered : (id : ℕ) (kind : TargetKind) → kind_waiting id p.waiting ≡ Some kind
      → (result : Result (TargetOutcome (List ℕ)) FrontKind) → target_says kind frame ≡ result
      → then_ok result (λ outcome. target_done state_reads outcome (record p { waiting = without_id id p.waiting })) ≡ Ok q
      → PairNumbered n q
  answered id kind waits (Ok outcome) says e =
      target-numbered n outcome (record p { waiting = without_id id p.waiting }) q
      (λ t k is. kind-none n id p.waiting num.attaching
      (waits ∙ ap (λ (x : TargetKind). Some x) (made-by-attach kind frame t k (says ∙ ap (λ o. Ok o) is)))) e
      (record {
        asks = num.asks;
        fetches = num.fetches;
        second = num.second;
        attaching = without-none n id p.waiting num.attaching;
      })
  answered id kind waits (Err refused) says e = let no : ◌≡◌ {A = Result StatePair FrontKind} (Err refused) (Ok q) = e in absurd cc

  target : (id : ℕ) (kind : Option TargetKind) → kind_waiting id p.waiting ≡ kind → take_target state_reads id frame kind p ≡ Ok q
      → PairNumbered n q
  target id None waits e = let no : ◌≡◌ {A = Result StatePair FrontKind} (Err state_reads.unasked) (Ok q) = e in absurd cc
  target id (Some kind) waits e = answered id kind waits (target_says kind frame) refl e

  by : (d : Down (List ℕ)) → take_down state_reads d frame p ≡ Ok q → PairNumbered n q
  by (of_session t text) e = second t text p.two refl e
  by (bare None) e = first (take_whole p.one frame) refl e
  by (bare (Some id)) e =
      (elim (is_target_id id) as (λ (b : Bool).
      cond b (take_target state_reads id frame (kind_waiting id p.waiting) p) (with_one state_reads (take_whole p.one frame) p) ≡ Ok q
      → PairNumbered n q) [
        | true ↦ λ h. target id (kind_waiting id p.waiting) refl h
        | false ↦ λ h. first (take_whole p.one frame) refl h
      ]) e

-- frames that come down, up to the first that is refused
folded-numbered : (n : PairSpent) (frames : List (List ℕ)) (p : StatePair) (taken : ℕ) → PairNumbered n p
    → PairNumbered n (pair_folded state_reads p taken frames).pair
folded-numbered n [] p taken num = num
folded-numbered n (frame ∷ frames) p taken num =
    by (take_pair state_reads p frame) refl (λ q is. folded-numbered n frames q (taken + 1) (take-numbered n p q frame is num))
  where
    by : (result : Result StatePair FrontKind) → take_pair state_reads p frame ≡ result
        → ((q : StatePair) → take_pair state_reads p frame ≡ Ok q → PairNumbered n (pair_folded state_reads q (taken + 1) frames).pair)
        → PairNumbered n (after_down p taken (λ q. pair_folded state_reads q (taken + 1) frames) result).pair
    by (Ok q) is next = next q is
    by (Err kind) is next = num

-- bytes that come down
pub numbered-taken : (n : PairSpent) (s : FrontsState) (bytes : List ℕ) → NumberAsCounted n s → NumberAsCounted n (after_taken s bytes)
numbered-taken n s bytes num = by s.fault where
  so_far : PairNumbered n s.pair
  so_far = record { asks = num.asks; fetches = num.fetches; second = num.second; attaching = num.attaching }

  done : PairNumbered n (pair_folded state_reads s.pair s.taken (frames_from s.rest bytes)).pair
  done = folded-numbered n (frames_from s.rest bytes) s.pair s.taken so_far

  by : (fault : Option FrontFault) → NumberAsCounted n (unless_faulty fault s (after_down_bytes s bytes))
  by None = record {
    asks = done.asks;
    fetches = done.fetches;
    second = done.second;
    attaching = done.attaching;
    targets = num.targets;
  }
  by (Some f) = num
