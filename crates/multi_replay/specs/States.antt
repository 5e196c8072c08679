-- Two front ends that run, as contracts see them, and what each call makes of them.
use Rattle.std.specs.Prelude.{ℕ, ◌+◌, ◌<◌, Bool, true, false, List, [], ◌∷◌, ◌++◌, codes, Option, Some, None, option_map, is_some}
use Rattle.std.specs.Prelude.{unwrap_or}
use Rattle.std.specs.Prelude.{⊤}
use Rattle.node_tree.specs.Numbers.{first_fetch, fetch_limit, counted_limit}
use Rattle.serde_json.specs.Data.{Data, string}
use Rattle.cdp_json.specs.Rows.{object_of, and_need, ends}
use Rattle.cdp_json.specs.Kinds.{text, flag}
use Rattle.pipe_frames.specs.Frames.{frames_from, held_after}
use Rattle.cdp_messages.specs.Asked.{command_text}
use Rattle.cdp_messages.specs.SessionFrames.{session_name}
use Rattle.front_mirror.specs.declared.replies.Ask.{Ask}
use Rattle.front_mirror.specs.declared.faults.FrontFault.{FrontFault}
use Rattle.front_mirror.specs.declared.panels.PanelKind.{PanelKind}
use Rattle.front_mirror.specs.Front.{FrontState, first_state, after_ask, after_fetch, fetch_params}
use Rattle.front_mirror.specs.Places.{closed_at}
use Rattle.session_mux.specs.Targets.{page_target}
use Rattle.session_runs.specs.Pairs.{TargetKind, Second, FrontPair, front_pair}
use Rattle.multi_replay.specs.Folds.{FoldedPair, pair_folded, state_reads}

-- two fronts by their states; asks of the second stand with it alone
abbrev pub StatePair : Type 0
StatePair = FrontPair FrontState Ask (List ℕ)

-- What contracts see of two fronts: their states, with the attaches and detaches that wait and the greatest number of a session; how many
-- frames were taken, the bytes after the last whole one, the fault that was met, the id of the next attach or detach, and whether they
-- are dead.
pub record FrontsState : Type 0 where
  pub pair : StatePair
  pub taken : ℕ
  pub rest : List ℕ
  pub fault : Option FrontFault
  pub next : ℕ
  pub dead : Bool

-- the first front alone, with these panels
abbrev pub first_pair : List PanelKind → StatePair
first_pair kinds = front_pair (first_state kinds) None [] [] 0

-- the first front alone, which has sent and taken nothing
abbrev pub first_fronts : List PanelKind → FrontsState
first_fronts kinds = record { pair = first_pair kinds; taken = 0; rest = []; fault = None; next = fetch_limit; dead = false }

-- A front between two frames. The bytes of a frame that is not whole, and the fault, are those of both fronts together.
abbrev pub at_rest : FrontState → FrontState
at_rest s = record s { rest = []; fault = None }

-- ---- one of the two

-- the second front stands, where it is the one that is meant
abbrev pub is_there : Bool → StatePair → Bool
is_there false p = true
is_there true p = is_some p.two

-- the front that is meant; the first, where no second stands
abbrev pub front_meant : Bool → StatePair → FrontState
front_meant false p = p.one
front_meant true p = unwrap_or (option_map (λ (w : Second FrontState (List ℕ)). w.value) p.two) p.one

-- the session of the front that is meant: the first has none
abbrev pub session_meant : Bool → StatePair → Option Data
session_meant false p = None
session_meant true p = option_map (λ (w : Second FrontState (List ℕ)). string w.text) p.two

-- the fronts after a change of the one that is meant
abbrev pub with_meant : Bool → (FrontState → FrontState) → StatePair → StatePair
with_meant false f p = record p { one = f p.one }
with_meant true f p = record p { two = option_map (λ (w : Second FrontState (List ℕ)). record { text = w.text; value = f w.value }) p.two }

-- ---- room

-- a front has an id for one ask more and one for one fetch more
abbrev pub FrontHasRoom : FrontState → Type 0
FrontHasRoom s = (s.next < first_fetch) × (first_fetch + s.fetches < fetch_limit)

-- the second front has room, where it stands
abbrev pub SecondHasRoom : Option (Second FrontState (List ℕ)) → Type 0
SecondHasRoom None = ⊤
SecondHasRoom (Some w) = FrontHasRoom w.value

-- each front that stands has room, and there is an id for one attach or detach more
abbrev pub HaveRoom : FrontsState → Type 0
HaveRoom s = FrontHasRoom s.pair.one × SecondHasRoom s.pair.two × (s.next < counted_limit)

-- ---- frames that go up

-- the command that attaches a session
abbrev pub attach_text : ℕ → List ℕ
attach_text id =
    command_text id (codes "Target.attachToTarget")
    (Some ((object_of (and_need (codes "flatten") flag (and_need (codes "targetId") text ends))).spell (true, (page_target, tt)))) None

-- the command that detaches the session of that text
abbrev pub detach_text : ℕ → List ℕ → List ℕ
detach_text id session =
    command_text id (codes "Target.detachFromTarget") (Some ((object_of (and_need session_name text ends)).spell (session, tt))) None

-- the next ask of the front that is meant
abbrev pub ask_text : Bool → StatePair → List ℕ → Option Data → List ℕ
ask_text second p method params = command_text (front_meant second p).next method params (session_meant second p)

-- its next fetch, of the text of that sheet
abbrev pub fetch_text : Bool → StatePair → ℕ → List ℕ
fetch_text second p sheet =
    command_text (first_fetch + (front_meant second p).fetches) (codes "CSS.getStyleSheetText") (Some (fetch_params sheet))
    (session_meant second p)

-- ---- what calls make of the fronts

-- a command waits more
abbrev pub waits_for : ℕ → TargetKind → StatePair → StatePair
waits_for id kind p = record p { waiting = p.waiting ++ record { id = id; kind = kind } ∷ [] }

-- after an attach or a detach, which waits under the next id
abbrev pub after_target : FrontsState → TargetKind → FrontsState
after_target s kind = record s { pair = waits_for s.next kind s.pair; next = s.next + 1 }

-- after an ask of the front that is meant
abbrev pub after_asked : FrontsState → Bool → List ℕ → FrontsState
after_asked s second method = record s { pair = with_meant second (λ f. after_ask f method) s.pair }

-- after a fetch of the front that is meant
abbrev pub after_fetched : FrontsState → Bool → ℕ → FrontsState
after_fetched s second sheet = record s { pair = with_meant second (λ f. after_fetch f sheet) s.pair }

-- after the panel at that place was dropped
abbrev pub after_close : FrontsState → ℕ → FrontsState
after_close s place = record s { pair = with_meant false (λ f. record f { panels = closed_at place f.panels }) s.pair }

-- the fronts, with what a fold came to
abbrev pub with_folded : FrontsState → FoldedPair FrontState → FrontsState
with_folded s end = record s { pair = end.pair; taken = end.taken; fault = end.fault }

-- after more bytes, where no fault was met before
abbrev pub after_down_bytes : FrontsState → List ℕ → FrontsState
after_down_bytes s bytes =
    with_folded (record s { rest = held_after s.rest bytes }) (pair_folded state_reads s.pair s.taken (frames_from s.rest bytes))

-- fronts that have met a fault stay as they are
abbrev pub unless_faulty : Option FrontFault → FrontsState → FrontsState → FrontsState
unless_faulty None before after = after
unless_faulty (Some f) before after = before

-- After more bytes: each frame that becomes whole is folded, up to the first that is refused. Fronts that met a fault stay as they are.
abbrev pub after_taken : FrontsState → List ℕ → FrontsState
after_taken s bytes = unless_faulty s.fault s (after_down_bytes s bytes)
