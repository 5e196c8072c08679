-- What two fronts keep: they are the fold of the frames that they sent and the bytes that they took.
use Rattle.std.specs.Prelude.{◌≡◌, ◌≤◌, ◌<◌, ◌↔◌, ℕ, List, [], ◌∷◌, ◌++◌, length, ⊤, true, false, Option, Some, None, option_map, Ok, Err}
use Rattle.node_tree.specs.Numbers.{counted_limit}
use Rattle.pipe_frames.specs.Frames.{IsText, framed, frames_of}
use Rattle.front_mirror.specs.declared.replies.Ask.{Ask}
use Rattle.front_mirror.specs.declared.faults.FrontFault.{FrontFault}
use Rattle.front_mirror.specs.declared.panels.PanelKind.{PanelKind}
use Rattle.front_mirror.specs.Front.{FrontValue, FrontState, plain_ask, fetch_ask}
use Rattle.session_mux.specs.Sessions.{session_text}
use Rattle.session_runs.specs.Pairs.{to_root, to_session, attaches, detaches, attach, detach, Second, SessionAsks, FrontPair, front_pair}
use Rattle.multi_replay.specs.Folds.{UpReads, fold_both}
use Rattle.multi_replay.specs.Incoming.{session_number}
use Rattle.multi_replay.specs.States.{StatePair, FrontsState, first_fronts, after_target, after_asked, after_fetched, after_taken}

-- ---- two fronts that are a fold

-- the value of the second front, with its session
abbrev pub second_value : Second FrontState (List ℕ) → Second FrontValue (List ℕ)
second_value w = record { text = w.text; value = w.value.value }

-- the values of both fronts, where these are the asks of sessions that were sent
abbrev pub pair_value : List (SessionAsks Ask (List ℕ)) → StatePair → FrontPair FrontValue Ask (List ℕ)
pair_value asked p = front_pair p.one.value (option_map second_value p.two) p.waiting asked p.top

-- a session of that text was attached once: its number is none above the greatest so far
pub record WasAttached (top : ℕ) (text : List ℕ) : Type 0 where
  pub number : ℕ
  pub is : session_number text ≡ Some number
  pub low : number ≤ top

-- each of these asks is one of a session that was attached once
abbrev pub WereAttached : ℕ → List (SessionAsks Ask (List ℕ)) → Type 0
WereAttached top [] = ⊤
WereAttached top (a ∷ more) = WasAttached top a.text × WereAttached top more

-- so is the second front's session, where it stands
abbrev pub SecondWasAttached : ℕ → Option (Second FrontState (List ℕ)) → Type 0
SecondWasAttached top None = ⊤
SecondWasAttached top (Some w) = WasAttached top w.text

-- The state of two fronts is that of the fold: of the frames that they sent, and of the bytes that they took, in whatever pieces. Only a
-- session that was attached was asked.
pub record IsFoldOfBoth (u : UpReads) (up down : List ℕ) (s : FrontsState) : Type 0 where
  pub asked : List (SessionAsks Ask (List ℕ))
  pub value : fold_both u up down ≡ Ok (pair_value asked s.pair)
  pub taken : s.taken ≡ length (frames_of down).whole
  pub rest : s.rest ≡ (frames_of down).rest
  pub well : s.fault ≡ None
  pub unread : s.pair.asked ≡ []
  pub whole : (frames_of up).rest ≡ []
  pub were_attached : WereAttached s.pair.top asked
  pub second : SecondWasAttached s.pair.top s.pair.two

-- new fronts are the fold of nothing
abbrev pub BothBegin : Type 0
BothBegin = (u : UpReads) (kinds : List PanelKind) → IsFoldOfBoth u [] [] (first_fronts kinds)

-- ---- what they take

-- fronts in which there was no fault stay the fold of what they took
abbrev pub BothTake : Type 0
BothTake =
    (u : UpReads) (up down piece : List ℕ) (s : FrontsState) → IsFoldOfBoth u up down s → (after_taken s piece).fault ≡ None
    → IsFoldOfBoth u up (down ++ piece) (after_taken s piece)

-- a fault of theirs is the one that this fold meets, in its place
abbrev pub FaultsAreOfFold : Type 0
FaultsAreOfFold =
    (u : UpReads) (up down piece : List ℕ) (s : FrontsState) (f : FrontFault) → IsFoldOfBoth u up down s
    → (after_taken s piece).fault ≡ Some f
    → fold_both u up (down ++ piece) ≡ Err f

-- ---- what they send

-- a frame that goes up is read as this ask of the root session
pub record AsksRoot (u : UpReads) (frame : List ℕ) (ask : Ask) : Type 0 where
  pub letters : IsText frame
  pub text : List ℕ
  pub way : u.way frame ≡ to_root text
  pub asks : u.asks text ≡ ask ∷ []

-- a frame that goes up is read as this ask of the session of that text
pub record AsksSession (u : UpReads) (session frame : List ℕ) (ask : Ask) : Type 0 where
  pub letters : IsText frame
  pub text : List ℕ
  pub way : u.way frame ≡ to_session session text
  pub asks : u.asks text ≡ ask ∷ []

-- after an ask of the first front they are the fold in which it waits for this one too
abbrev pub FirstAsks : Type 0
FirstAsks =
    (u : UpReads) (up down frame method : List ℕ) (s : FrontsState) → IsFoldOfBoth u up down s
    → AsksRoot u frame (plain_ask s.pair.one.next method) → IsFoldOfBoth u (up ++ framed frame) down (after_asked s false method)

-- and so after a fetch of it
abbrev pub FirstFetches : Type 0
FirstFetches =
    (u : UpReads) (up down frame : List ℕ) (sheet : ℕ) (s : FrontsState) → IsFoldOfBoth u up down s
    → AsksRoot u frame (fetch_ask s.pair.one.fetches sheet) → IsFoldOfBoth u (up ++ framed frame) down (after_fetched s false sheet)

-- after an ask of the second front, in its session
abbrev pub SecondAsks : Type 0
SecondAsks =
    (u : UpReads) (up down frame method : List ℕ) (s : FrontsState) (w : Second FrontState (List ℕ)) → IsFoldOfBoth u up down s
    → s.pair.two ≡ Some w → AsksSession u w.text frame (plain_ask w.value.next method)
    → IsFoldOfBoth u (up ++ framed frame) down (after_asked s true method)

-- and after a fetch of it
abbrev pub SecondFetches : Type 0
SecondFetches =
    (u : UpReads) (up down frame : List ℕ) (sheet : ℕ) (s : FrontsState) (w : Second FrontState (List ℕ)) → IsFoldOfBoth u up down s
    → s.pair.two ≡ Some w → AsksSession u w.text frame (fetch_ask w.value.fetches sheet)
    → IsFoldOfBoth u (up ++ framed frame) down (after_fetched s true sheet)

-- after an attach, which waits then
abbrev pub BothAttach : Type 0
BothAttach =
    (u : UpReads) (up down frame : List ℕ) (s : FrontsState) → IsFoldOfBoth u up down s → IsText frame → u.way frame ≡ attaches s.next
    → IsFoldOfBoth u (up ++ framed frame) down (after_target s attach)

-- and after a detach
abbrev pub BothDetach : Type 0
BothDetach =
    (u : UpReads) (up down frame session : List ℕ) (s : FrontsState) → IsFoldOfBoth u up down s → IsText frame
    → u.way frame ≡ detaches s.next session
    → IsFoldOfBoth u (up ++ framed frame) down (after_target s detach)

-- ---- sessions

-- the number of a text is the one number from 1 to 2^53-1 of whose session this is the text
abbrev pub NumbersAreOfTexts : Type 0
NumbersAreOfTexts =
    (text : List ℕ) (n : ℕ) → session_number text ≡ Some n ↔ ((text ≡ session_text n) × (0 < n) × (n < counted_limit))
