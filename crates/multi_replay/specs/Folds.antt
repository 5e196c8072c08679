-- The fold of one stream into two front ends, as an instance of the theory of runs, with the places of faults.
use Rattle.std.specs.Prelude.{ℕ, ◌+◌, List, [], ◌∷◌, ◌++◌, bytes_eq, Option, Some, None, Result, Ok, Err}
use Rattle.pipe_frames.specs.Frames.{frames_of}
use Rattle.cdp_json.specs.Lookups.{then_ok}
use Rattle.front_mirror.specs.declared.replies.Ask.{Ask}
use Rattle.front_mirror.specs.declared.faults.FrontKind.{FrontKind}
use Rattle.front_mirror.specs.declared.faults.FrontKind.TheVariants.{NotMessage}
use Rattle.front_mirror.specs.declared.faults.FrontFault.{FrontFault}
use Rattle.front_mirror.specs.Front.{FrontValue, first_value, take_frame, FrontState, first_state}
use Rattle.session_runs.specs.Fold.{asks_joined}
use Rattle.session_runs.specs.Pairs.{Way, to_root, FrontReads, FrontPair, first_pair, take_pair, join_pair}
use Rattle.multi_replay.specs.Incoming.{frame_down, is_target_id, target_says}

-- How the frames that go up are read: what each is, and which asks stand in a text.
pub record UpReads : Type 0 where
  pub way : List ℕ → Way (List ℕ)
  pub asks : List ℕ → List Ask

-- two front ends of this protocol, by what one of them takes, how asks join those that it waits for, and one that has taken nothing
abbrev pub front_reads : {V : Type 0} → UpReads → (V → List ℕ → Result V FrontKind) → (V → List Ask → V) → V
    → FrontReads V FrontKind Ask (List ℕ)
front_reads u take join begin = record {
  take = take;
  join = join;
  begin = begin;
  same = bytes_eq;
  way = u.way;
  asks = u.asks;
  down = frame_down;
  is_target = is_target_id;
  outcome = target_says;
  strange = NotMessage;
  unasked = NotMessage;
}

-- a front that waits for these asks more
abbrev pub asks_more : FrontValue → List Ask → FrontValue
asks_more v more = record v { asks = v.asks ++ more }

-- two front ends by their values
abbrev pub value_reads : UpReads → FrontReads FrontValue FrontKind Ask (List ℕ)
value_reads u = front_reads u take_frame asks_more (first_value [])

-- ---- places

-- Two front ends that took so many frames, and the first fault that they met, if they met one.
pub record FoldedPair (V : Type 0) : Type 0 where
  pub pair : FrontPair V Ask (List ℕ)
  pub taken : ℕ
  pub fault : Option FrontFault

-- `next` says how they go on after a frame; one that is refused leaves both as they were, and its place counts all frames of the stream
abbrev pub after_down : {V : Type 0} → FrontPair V Ask (List ℕ) → ℕ → (FrontPair V Ask (List ℕ) → FoldedPair V)
    → Result (FrontPair V Ask (List ℕ)) FrontKind → FoldedPair V
after_down p taken next (Ok q) = next q
after_down p taken next (Err kind) = record { pair = p; taken = taken; fault = Some (record { place = taken + 1; kind = kind }) }

-- two front ends, which took so many frames, after these, up to the first that is refused
abbrev pub pair_folded : {V : Type 0} → FrontReads V FrontKind Ask (List ℕ) → FrontPair V Ask (List ℕ) → ℕ → List (List ℕ) → FoldedPair V
pair_folded r p taken [] = record { pair = p; taken = taken; fault = None }
pair_folded r p taken (frame ∷ frames) = after_down p taken (λ q. pair_folded r q (taken + 1) frames) (take_pair r p frame)

-- the two front ends, or else the fault
abbrev pub pair_result : {V : Type 0} → FrontPair V Ask (List ℕ) → Option FrontFault → Result (FrontPair V Ask (List ℕ)) FrontFault
pair_result p None = Ok p
pair_result p (Some f) = Err f

-- The fold of what went up and what came down: two front ends that wait for what stands in the frames of `up`, after the whole frames
-- of `down`, one by one, or the first fault with its place.
abbrev pub fold_both : UpReads → (up down : List ℕ) → Result (FrontPair FrontValue Ask (List ℕ)) FrontFault
fold_both u up down =
    let r = value_reads u in
    let end = pair_folded r (asks_joined (join_pair r) (first_pair r) (frames_of up).whole) 0 (frames_of down).whole in
    pair_result end.pair end.fault

-- ---- two fronts that run

-- a front takes one whole frame; all but its value stays as it is
abbrev pub take_whole : FrontState → List ℕ → Result FrontState FrontKind
take_whole s frame = then_ok (take_frame s.value frame) (λ v. Ok (record s { value = v }))

-- a front that runs waits for these asks more
abbrev pub waits_more : FrontState → List Ask → FrontState
waits_more s more = record s { value = asks_more s.value more }

-- What fronts that run know of the asks that were sent, they know from where these were made: frames that go up are not read.
abbrev pub not_read : UpReads
not_read = record { way = to_root; asks = λ text. [] }

-- two front ends that run
abbrev pub state_reads : FrontReads FrontState FrontKind Ask (List ℕ)
state_reads = front_reads not_read take_whole waits_more (first_state [])
