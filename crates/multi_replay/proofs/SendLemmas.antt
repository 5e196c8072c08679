-- Two fronts that send a frame more.
use Rattle.std.proofs.Common.{◌≡◌, ℕ, ◌+◌, true, false, cond, List, [], ◌∷◌, ◌++◌, Option, Some, None, refl, sym, ◌∙◌, ap, subst}
use Rattle.std.proofs.Common.{Ok, append_assoc, append-nil}
use Rattle.std.specs.Prelude.{option_map}
use Rattle.std.specs.Cmp.Lexicographic.{nat_list_eq_equiv}
use Rattle.pipe_frames.specs.Frames.{IsText, framed, frames_of}
use Rattle.pipe_frames.proofs.FrameLemmas.{frames_of-last}
use Rattle.front_mirror.specs.declared.replies.Ask.{Ask}
use Rattle.front_mirror.specs.Front.{FrontValue, take_frame, FrontState, plain_ask, fetch_ask, after_ask, after_fetch}
use Rattle.front_mirror.proofs.FoldLemmas.{take_frame-more}
use Rattle.session_runs.specs.Fold.{asks_joined}
use Rattle.session_runs.specs.PairFit.{ReadLaws}
use Rattle.session_runs.specs.Pairs.{to_root, SessionAsks, Second, FrontPair, front_pair}
use Rattle.session_runs.specs.Pairs.{first_pair, join_two, join_way, join_pair}
use Rattle.session_runs.proofs.Folds.{joined-append}
use Rattle.session_runs.proofs.PairFolds.{later-pair}
use Rattle.multi_replay.specs.Folds.{UpReads, asks_more, value_reads, pair_result, pair_folded, fold_both}
use Rattle.multi_replay.specs.States.{FrontsState, with_meant}
use Rattle.multi_replay.specs.Laws.{second_value, pair_value, WasAttached, WereAttached, SecondWasAttached, IsFoldOfBoth, AsksRoot}
use Rattle.multi_replay.specs.Laws.{AsksSession, FirstAsks, FirstFetches, SecondAsks, SecondFetches, BothAttach, BothDetach}
use Rattle.multi_replay.proofs.PlaceLemmas.{as-folded, from-folded}

-- ---- what the fold of one front end keeps

more-later : (more : List Ask) (v w : FrontValue) (frame : List ℕ) → take_frame v frame ≡ Ok w
    → take_frame (asks_more v more) frame ≡ Ok (asks_more w more)
more-later [] v w frame e =
    ap (λ asks. take_frame (record v { asks = asks }) frame) (append-nil v.asks) ∙ e
    ∙ ap (λ asks. Ok (record w { asks = asks })) (sym (append-nil w.asks))
more-later (ask ∷ more) v w frame e =
    ap (λ asks. take_frame (record v { asks = asks }) frame) (sym (append_assoc v.asks (ask ∷ []) more))
    ∙ more-later more (record v { asks = v.asks ++ ask ∷ [] }) (record w { asks = w.asks ++ ask ∷ [] }) frame
    (take_frame-more v w ask frame e)
    ∙ ap (λ asks. Ok (record w { asks = asks })) (append_assoc w.asks (ask ∷ []) more)

-- what the fold of one front end of this protocol keeps
pub read-laws : (u : UpReads) → ReadLaws (value_reads u)
read-laws u = record {
  later = more-later;
  joins = λ v first second. ap (λ asks. record v { asks = asks }) (append_assoc v.asks first second);
  same_all = nat_list_eq_equiv.refl;
}

-- ---- a frame more

-- the fronts at the start of a fold, which wait for what stands in these frames
abbrev waiting_for : UpReads → List (List ℕ) → FrontPair FrontValue Ask (List ℕ)
waiting_for u frames = asks_joined (join_pair (value_reads u)) (first_pair (value_reads u)) frames

-- after a frame more went up the fold is the one in which this waits too
sent-more : (u : UpReads) (up down frame : List ℕ) (p : FrontPair FrontValue Ask (List ℕ)) → (frames_of up).rest ≡ [] → IsText frame
    → fold_both u up down ≡ Ok p → fold_both u (up ++ framed frame) down ≡ Ok (join_pair (value_reads u) p frame)
sent-more u up down frame p whole letters e =
    let r = value_reads u in
    let start = waiting_for u (frames_of up).whole in
    let downs = (frames_of down).whole in
    let starts : waiting_for u (frames_of (up ++ framed frame)).whole ≡ join_pair r start frame =
    ap (λ frames. waiting_for u frames.whole) (frames_of-last up frame letters whole)
    ∙ joined-append (join_pair r) (first_pair r) (frames_of up).whole (frame ∷ []) in
    ap (λ p. let end = pair_folded r p 0 downs in pair_result end.pair end.fault) starts
    ∙ from-folded r downs (join_pair r start frame) (join_pair r p frame) 0
    (later-pair r (read-laws u) frame start p downs (as-folded r downs start p 0 e))

whole-more : (up frame : List ℕ) → IsText frame → (frames_of up).rest ≡ [] → (frames_of (up ++ framed frame)).rest ≡ []
whole-more up frame letters whole = ap (λ frames. frames.rest) (frames_of-last up frame letters whole)

-- ---- the first front

first-waits : (u : UpReads) (up down frame : List ℕ) (s : FrontsState) (ask : Ask) (f : FrontState → FrontState)
    → IsFoldOfBoth u up down s → AsksRoot u frame ask → (f s.pair.one).value ≡ asks_more s.pair.one.value (ask ∷ [])
    → IsFoldOfBoth u (up ++ framed frame) down (record s { pair = with_meant false f s.pair })
first-waits u up down frame s ask f is asks value = record {
  asked = is.asked;
  value =
      let r = value_reads u in
      let p = pair_value is.asked s.pair in
      sent-more u up down frame p is.whole asks.letters is.value
      ∙ ap (λ way. Ok (join_way r way p)) asks.way
      ∙ ap (λ more. Ok (record p { one = asks_more p.one more })) asks.asks
      ∙ ap (λ v. Ok (record p { one = v })) (sym value);
  taken = is.taken;
  rest = is.rest;
  well = is.well;
  unread = is.unread;
  whole = whole-more up frame asks.letters is.whole;
  were_attached = is.were_attached;
  second = is.second;
}

pub first-asks : FirstAsks
first-asks u up down frame method s is asks =
    first-waits u up down frame s (plain_ask s.pair.one.next method) (λ f. after_ask f method) is asks refl

pub first-fetches : FirstFetches
first-fetches u up down frame sheet s is asks =
    first-waits u up down frame s (fetch_ask s.pair.one.fetches sheet) (λ f. after_fetch f sheet) is asks refl

-- ---- the second front

were-attached-more : (top : ℕ) (asked : List (SessionAsks Ask (List ℕ))) (a : SessionAsks Ask (List ℕ)) → WereAttached top asked
    → WasAttached top a.text → WereAttached top (asked ++ a ∷ [])
were-attached-more top [] a were was = (was, tt)
were-attached-more top (b ∷ asked) a were was = (were.0, were-attached-more top asked a were.1 was)

second-was : (top : ℕ) (o : Option (Second FrontState (List ℕ))) (w : Second FrontState (List ℕ)) → o ≡ Some w → SecondWasAttached top o
    → WasAttached top w.text
second-was top o w is was = subst (SecondWasAttached top) is was

second-kept : (top : ℕ) (o : Option (Second FrontState (List ℕ))) (f : FrontState → FrontState) → SecondWasAttached top o
    → SecondWasAttached top (option_map (λ (w : Second FrontState (List ℕ)). record { text = w.text; value = f w.value }) o)
second-kept top None f was = tt
second-kept top (Some w) f was = was

-- an ask more of its session
joins-second : (u : UpReads) (w : Second FrontState (List ℕ)) (ask : Ask) (f : FrontState → FrontState)
    → (f w.value).value ≡ asks_more w.value.value (ask ∷ [])
    → join_two (value_reads u) w.text (ask ∷ []) (second_value w) ≡ record { text = w.text; value = (f w.value).value }
joins-second u w ask f value =
    ap (λ b. cond b (record { text = w.text; value = asks_more w.value.value (ask ∷ []) }) (second_value w)) (nat_list_eq_equiv.refl w.text)
    ∙ ap (λ v. record { text = w.text; value = v }) (sym value)

second-waits : (u : UpReads) (up down frame : List ℕ) (s : FrontsState) (w : Second FrontState (List ℕ)) (ask : Ask)
    (f : FrontState → FrontState) → IsFoldOfBoth u up down s → s.pair.two ≡ Some w → AsksSession u w.text frame ask
    → (f w.value).value ≡ asks_more w.value.value (ask ∷ [])
    → IsFoldOfBoth u (up ++ framed frame) down (record s { pair = with_meant true f s.pair })
second-waits u up down frame s w ask f is stands asks value = record {
  asked = is.asked ++ record { text = w.text; asks = ask ∷ [] } ∷ [];
  value =
      let r = value_reads u in
      let p = pair_value is.asked s.pair in
      let two : option_map (join_two r w.text (ask ∷ [])) (option_map second_value s.pair.two)
      ≡ option_map second_value
      (option_map (λ (w : Second FrontState (List ℕ)). record { text = w.text; value = f w.value }) s.pair.two) =
      ap (λ o. option_map (join_two r w.text (ask ∷ [])) (option_map second_value o)) stands
      ∙ ap Some (joins-second u w ask f value)
      ∙ ap (λ o. option_map second_value
      (option_map (λ (w : Second FrontState (List ℕ)). record { text = w.text; value = f w.value }) o)) (sym stands) in
      sent-more u up down frame p is.whole asks.letters is.value
      ∙ ap (λ way. Ok (join_way r way p)) asks.way
      ∙ ap (λ more. Ok (front_pair p.one (option_map (join_two r w.text more) p.two) p.waiting
      (p.asked ++ record { text = w.text; asks = more } ∷ []) p.top)) asks.asks
      ∙ ap (λ o. Ok (front_pair p.one o p.waiting (p.asked ++ record { text = w.text; asks = ask ∷ [] } ∷ []) p.top)) two;
  taken = is.taken;
  rest = is.rest;
  well = is.well;
  unread = is.unread;
  whole = whole-more up frame asks.letters is.whole;
  were_attached =
      were-attached-more s.pair.top is.asked (record { text = w.text; asks = ask ∷ [] }) is.were_attached
      (second-was s.pair.top s.pair.two w stands is.second);
  second = second-kept s.pair.top s.pair.two f is.second;
}

pub second-asks : SecondAsks
second-asks u up down frame method s w is stands asks =
    second-waits u up down frame s w (plain_ask w.value.next method) (λ f. after_ask f method) is stands asks refl

pub second-fetches : SecondFetches
second-fetches u up down frame sheet s w is stands asks =
    second-waits u up down frame s w (fetch_ask w.value.fetches sheet) (λ f. after_fetch f sheet) is stands asks refl

-- ---- frames that ask for nothing

-- after a frame that names no ask they are the fold of what they took as before
pub both-unasked : (u : UpReads) (up down frame text : List ℕ) (s : FrontsState) → IsFoldOfBoth u up down s → IsText frame
    → u.way frame ≡ to_root text → u.asks text ≡ [] → IsFoldOfBoth u (up ++ framed frame) down s
both-unasked u up down frame text s is letters way asks = record {
  asked = is.asked;
  value =
      let r = value_reads u in
      let p = pair_value is.asked s.pair in
      sent-more u up down frame p is.whole letters is.value
      ∙ ap (λ way. Ok (join_way r way p)) way
      ∙ ap (λ more. Ok (record p { one = asks_more p.one more })) asks
      ∙ ap (λ asks. Ok (record p { one = record p.one { asks = asks } })) (append-nil p.one.asks);
  taken = is.taken;
  rest = is.rest;
  well = is.well;
  unread = is.unread;
  whole = whole-more up frame letters is.whole;
  were_attached = is.were_attached;
  second = is.second;
}

-- ---- commands

pub both-attach : BothAttach
both-attach u up down frame s is letters way = record {
  asked = is.asked;
  value =
      sent-more u up down frame (pair_value is.asked s.pair) is.whole letters is.value
      ∙ ap (λ way. Ok (join_way (value_reads u) way (pair_value is.asked s.pair))) way;
  taken = is.taken;
  rest = is.rest;
  well = is.well;
  unread = is.unread;
  whole = whole-more up frame letters is.whole;
  were_attached = is.were_attached;
  second = is.second;
}

pub both-detach : BothDetach
both-detach u up down frame session s is letters way = record {
  asked = is.asked;
  value =
      sent-more u up down frame (pair_value is.asked s.pair) is.whole letters is.value
      ∙ ap (λ way. Ok (join_way (value_reads u) way (pair_value is.asked s.pair))) way;
  taken = is.taken;
  rest = is.rest;
  well = is.well;
  unread = is.unread;
  whole = whole-more up frame letters is.whole;
  were_attached = is.were_attached;
  second = is.second;
}
