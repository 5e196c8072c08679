-- One frame takes the states of two fronts and their values alike.
use Rattle.std.proofs.Common.{◌≡◌, ℕ, ◌<◌, ◌≤◌, Bool, true, false, cond, ◌&&◌, nat_lt, List, [], ◌∷◌, ◌++◌, Option, Some, None}
use Rattle.std.proofs.Common.{refl, sym, ◌∙◌, ap, subst, arith, Result, Ok, Err, bytes_eq, ltb-true, is_none}
use Rattle.std.specs.Prelude.{option_map, ⊤}
use Rattle.std.proofs.lemmas.Slice.Eq.{bytes_eq-Decides}
use Rattle.cdp_json.specs.Lookups.{then_ok}
use Rattle.serde_json.specs.Data.{Data}
use Rattle.cdp_messages.specs.Replies.{Message, reply, fault, event, down_of}
use Rattle.front_mirror.specs.declared.replies.Ask.{Ask}
use Rattle.front_mirror.specs.declared.faults.FrontKind.{FrontKind}
use Rattle.front_mirror.specs.declared.faults.FrontKind.TheVariants.{NotMessage}
use Rattle.front_mirror.specs.Front.{FrontValue, first_value, take_frame, FrontState, first_state}
use Rattle.session_mux.specs.Targets.{attached_kind}
use Rattle.session_runs.specs.Pairs.{Down, bare, of_session, TargetKind, attach, detach, TargetOutcome, nothing_done, session_made}
use Rattle.session_runs.specs.Pairs.{session_dropped, SessionAsks, Second, FrontPair, front_pair, kind_waiting, without_id, asks_of_session}
use Rattle.session_runs.specs.Pairs.{with_one}
use Rattle.session_runs.specs.Pairs.{take_two, target_done, take_target, take_down, take_pair}
use Rattle.multi_replay.specs.Incoming.{frame_down, is_target_id, session_number, made_numbered, made_told, result_says, reply_says}
use Rattle.multi_replay.specs.Incoming.{target_says}
use Rattle.multi_replay.specs.Folds.{UpReads, value_reads, state_reads, take_whole, asks_more, waits_more}
use Rattle.multi_replay.specs.States.{StatePair}
use Rattle.multi_replay.specs.Laws.{second_value, pair_value, WasAttached, WereAttached, SecondWasAttached}

-- ---- the number of a session that a reply tells

numbered : (text t : List ℕ) (n : ℕ) (o : Option ℕ) → session_number text ≡ o → made_numbered text o ≡ Ok (session_made t n)
    → session_number t ≡ Some n
numbered text t n None is e = absurd cc
numbered text t n (Some m) is e =
    let same : text ≡ t = cc in
    let number : m ≡ n = cc in
    ap session_number (sym same) ∙ is ∙ ap Some number

told : (o : Option (List ℕ × ⊤)) (t : List ℕ) (n : ℕ) → made_told o ≡ Ok (session_made t n) → session_number t ≡ Some n
told None t n e = absurd cc
told (Some p) t n e = numbered p.0 t n (session_number p.0) refl e

result-told : (kind : TargetKind) (d : Data) (t : List ℕ) (n : ℕ) → result_says kind d ≡ Ok (session_made t n) → session_number t ≡ Some n
result-told attach d t n e = told (attached_kind.reads d) t n e
result-told detach d t n e = absurd cc

message-told : (kind : TargetKind) (m : Option Message) (t : List ℕ) (n : ℕ) → reply_says kind m ≡ Ok (session_made t n)
    → session_number t ≡ Some n
message-told kind None t n e = absurd cc
message-told kind (Some (reply id d)) t n e = result-told kind d t n e
message-told kind (Some (fault id code said)) t n e = absurd cc
message-told kind (Some (event x)) t n e = absurd cc

-- the session that a reply says was made has the number that it says
pub made-is-numbered : (kind : TargetKind) (frame t : List ℕ) (n : ℕ) → target_says kind frame ≡ Ok (session_made t n)
    → session_number t ≡ Some n
made-is-numbered kind frame t n e = message-told kind (down_of frame) t n e

-- ---- sessions that were attached

pub was-attached-on : (top more : ℕ) (t : List ℕ) → top ≤ more → WasAttached top t → WasAttached more t
was-attached-on top more t up w = record { number = w.number; is = w.is; low = let low = w.low in omega arith }

pub were-attached-on : (top more : ℕ) (asked : List (SessionAsks Ask (List ℕ))) → top ≤ more → WereAttached top asked
    → WereAttached more asked
were-attached-on top more [] up w = tt
were-attached-on top more (a ∷ asked) up w = (was-attached-on top more a.text up w.0, were-attached-on top more asked up w.1)

-- a session with a greater number has another text
apart : (top n : ℕ) (t text : List ℕ) → WasAttached top text → session_number t ≡ Some n → top < n → bytes_eq text t ≡ false
apart top n t text w is high = at (bytes_eq text t) refl where
  at : (b : Bool) → bytes_eq text t ≡ b → b ≡ false
  at false e = refl
  at true e =
      let same : text ≡ t = (bytes_eq-Decides text t).0 e in
      let number : ◌≡◌ {A = Option ℕ} (Some w.number) (Some n) = sym w.is ∙ ap session_number same ∙ is in
      let equal : w.number ≡ n = cc in
      let low = w.low in absurd (omega arith)

-- none was asked of a session whose number is greater than all before
pub none-asked : (u : UpReads) (top n : ℕ) (t : List ℕ) (asked : List (SessionAsks Ask (List ℕ))) → WereAttached top asked
    → session_number t ≡ Some n → top < n → asks_of_session (value_reads u) t asked ≡ []
none-asked u top n t [] w is high = refl
none-asked u top n t (a ∷ asked) w is high =
    ap (λ b. cond b a.asks [] ++ asks_of_session (value_reads u) t asked) (apart top n t a.text w.0 is high)
    ∙ none-asked u top n t asked w.1 is high

-- ---- one frame

-- what is known of two fronts, where these asks of sessions were sent
pub record KnownPair (asked : List (SessionAsks Ask (List ℕ))) (p : StatePair) : Type 0 where
  pub unread : p.asked ≡ []
  pub were_attached : WereAttached p.top asked
  pub second : SecondWasAttached p.top p.two

-- the states and the values of two fronts are taken alike
abbrev pub Alike : List (SessionAsks Ask (List ℕ)) → Result StatePair FrontKind → Result (FrontPair FrontValue Ask (List ℕ)) FrontKind
    → Type 0
Alike asked (Ok q) values = (values ≡ Ok (pair_value asked q)) × KnownPair asked q
Alike asked (Err kind) values = values ≡ Err kind

module _ (u : UpReads) (asked : List (SessionAsks Ask (List ℕ))) (p : StatePair) (known : KnownPair asked p) where
  one-alike : (result : Result FrontValue FrontKind)
      → Alike asked (with_one state_reads (then_ok result (λ v. Ok (record p.one { value = v }))) p)
      (with_one (value_reads u) result (pair_value asked p))
  one-alike (Ok v) = (refl, record { unread = known.unread; were_attached = known.were_attached; second = known.second })
  one-alike (Err kind) = refl

  second-alike : (w : Second FrontState (List ℕ)) → WasAttached p.top w.text → (result : Result FrontValue FrontKind)
      → Alike asked
      (then_ok (then_ok result (λ v. Ok (record w.value { value = v })))
      (λ s. Ok (record p { two = Some (record { text = w.text; value = s }) })))
      (then_ok result (λ v. Ok (record (pair_value asked p) { two = Some (record { text = w.text; value = v }) })))
  second-alike w was (Ok v) = (refl, record { unread = known.unread; were_attached = known.were_attached; second = was })
  second-alike w was (Err kind) = refl

  two-alike : (t text : List ℕ) (o : Option (Second FrontState (List ℕ))) → SecondWasAttached p.top o
      → Alike asked (take_two state_reads t text o p) (take_two (value_reads u) t text (option_map second_value o) (pair_value asked p))
  two-alike t text None was = refl
  two-alike t text (Some w) was = at (bytes_eq w.text t) where
    at : (b : Bool)
        → Alike asked
        (cond b (then_ok (take_whole w.value text)
        (λ s. Ok (record p { two = Some (record { text = w.text; value = s }) }))) (Err NotMessage))
        (cond b (then_ok (take_frame w.value.value text)
        (λ v. Ok (record (pair_value asked p) { two = Some (record { text = w.text; value = v }) }))) (Err NotMessage))
    at true = second-alike w was (take_frame w.value.value text)
    at false = refl

  none-alike : (o : Option (Second FrontState (List ℕ))) → is_none (option_map second_value o) ≡ is_none o
  none-alike None = refl
  none-alike (Some w) = refl

  -- a second front that is made waits for nothing: its session was asked nothing
  made-alike : (t : List ℕ) (n : ℕ) → session_number t ≡ Some n
      → Alike asked (target_done state_reads (session_made t n) p) (target_done (value_reads u) (session_made t n) (pair_value asked p))
  made-alike t n is =
      subst (λ b. Alike asked (target_done state_reads (session_made t n) p)
      (cond (b && nat_lt p.top n)
      (Ok (front_pair p.one.value
      (Some (record { text = t; value = asks_more (first_value []) (asks_of_session (value_reads u) t asked) })) p.waiting asked n))
      (Err NotMessage)))
      (sym (none-alike p.two))
      (at (is_none p.two) (nat_lt p.top n) refl)
    where
      at : (alone high : Bool) → nat_lt p.top n ≡ high
          → Alike asked
          (cond (alone && high)
          (Ok (front_pair p.one
          (Some (record { text = t; value = waits_more (first_state []) (asks_of_session state_reads t p.asked) })) p.waiting p.asked n))
          (Err NotMessage))
          (cond (alone && high)
          (Ok (front_pair p.one.value
          (Some (record { text = t; value = asks_more (first_value []) (asks_of_session (value_reads u) t asked) })) p.waiting asked n))
          (Err NotMessage))
      at false high e = refl
      at true false e = refl
      at true true e =
          let up : p.top < n = ltb-true p.top n e in
          let before : asks_of_session state_reads t p.asked ≡ [] = ap (asks_of_session state_reads t) known.unread in (
            ap (λ asks. Ok (front_pair p.one.value
                (Some (record { text = t; value = asks_more (first_value []) asks })) p.waiting asked n))
                (none-asked u p.top n t asked known.were_attached is up ∙ sym before),
            record {
              unread = known.unread;
              were_attached = were-attached-on p.top n asked (omega arith) known.were_attached;
              second = record { number = n; is = is; low = omega arith };
            },
          )

  done-alike : (outcome : TargetOutcome (List ℕ)) → ((t : List ℕ) (n : ℕ) → outcome ≡ session_made t n → session_number t ≡ Some n)
      → Alike asked (target_done state_reads outcome p) (target_done (value_reads u) outcome (pair_value asked p))
  done-alike nothing_done numbers = (refl, known)
  done-alike (session_made t n) numbers = made-alike t n (numbers t n refl)
  done-alike session_dropped numbers = (refl, record { unread = known.unread; were_attached = known.were_attached; second = tt })

module _ (u : UpReads) (asked : List (SessionAsks Ask (List ℕ))) (p : StatePair) (known : KnownPair asked p) where
  says-alike : (kind : TargetKind) (frame : List ℕ) (q : StatePair) → KnownPair asked q
      → (result : Result (TargetOutcome (List ℕ)) FrontKind) → target_says kind frame ≡ result
      → Alike asked (then_ok result (λ outcome. target_done state_reads outcome q))
      (then_ok result (λ outcome. target_done (value_reads u) outcome (pair_value asked q)))
  says-alike kind frame q k (Ok outcome) is =
      done-alike u asked q k outcome (λ t n e. made-is-numbered kind frame t n (is ∙ ap Ok e))
  says-alike kind frame q k (Err x) is = refl

  target-alike : (id : ℕ) (frame : List ℕ) (o : Option TargetKind)
      → Alike asked (take_target state_reads id frame o p) (take_target (value_reads u) id frame o (pair_value asked p))
  target-alike id frame None = refl
  target-alike id frame (Some kind) =
      says-alike kind frame (record p { waiting = without_id id p.waiting })
      (record { unread = known.unread; were_attached = known.were_attached; second = known.second })
      (target_says kind frame) refl

  down-alike : (down : Down (List ℕ)) (frame : List ℕ)
      → Alike asked (take_down state_reads down frame p) (take_down (value_reads u) down frame (pair_value asked p))
  down-alike (of_session t text) frame = two-alike u asked p known t text p.two known.second
  down-alike (bare None) frame = one-alike u asked p known (take_frame p.one.value frame)
  down-alike (bare (Some id)) frame = at (is_target_id id) where
    at : (b : Bool)
        → Alike asked
        (cond b (take_target state_reads id frame (kind_waiting id p.waiting) p) (with_one state_reads (take_whole p.one frame) p))
        (cond b (take_target (value_reads u) id frame (kind_waiting id p.waiting) (pair_value asked p))
        (with_one (value_reads u) (take_frame p.one.value frame) (pair_value asked p)))
    at true = target-alike id frame (kind_waiting id p.waiting)
    at false = one-alike u asked p known (take_frame p.one.value frame)

  -- a frame takes the states and the values of two fronts alike
  pub frame-alike : (frame : List ℕ) → Alike asked (take_pair state_reads p frame) (take_pair (value_reads u) (pair_value asked p) frame)
  frame-alike frame = down-alike (frame_down frame) frame
