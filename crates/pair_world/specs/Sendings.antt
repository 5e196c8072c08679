-- What front ends send may come in a run.
use Rattle.std.specs.Prelude.{◌≡◌, ℕ, List, true, false, Option, Some, None}
use Rattle.serde_json.specs.Data.{Data, string}
use Rattle.pipe_frames.specs.Frames.{IsText}
use Rattle.cdp_messages.specs.Asked.{command_text}
use Rattle.inspect_world.specs.Fits.{IsBare}
use Rattle.session_mux.specs.Sessions.{session_text}
use Rattle.session_mux.specs.Targets.{target_named}
use Rattle.session_runs.specs.Pairs.{TargetKind, attach, detach}
use Rattle.session_runs.specs.PairFit.{MayTarget, IsCalm}
use Rattle.multi_replay.specs.Incoming.{is_target_id}
use Rattle.pair_world.specs.SessionWays.{frame_way}
use Rattle.multi_replay.specs.States.{attach_text, detach_text}
use Rattle.pair_world.specs.Clients.{pair_reads, client_steps}
use Rattle.pair_world.specs.Shown.{IsSessionNumber, MaySend}
use Rattle.pair_world.specs.FrameLaws.{IsCommand, are_object}

-- the frame has no zero byte, and may come while that session is attached, or none
abbrev pub MayBeSent : Option ℕ → List ℕ → Type 0
MayBeSent attached frame = IsText frame × IsCalm pair_reads client_steps MaySend attached (frame_way frame)

-- the frame has no zero byte, and is the command of that id that attaches a session or detaches the one that is attached
abbrev pub MayAttach : Option ℕ → ℕ → TargetKind → List ℕ → Type 0
MayAttach attached id kind frame =
    IsText frame × MayTarget pair_reads client_steps attached (frame_way frame) (record { id = id; kind = kind })

-- a command without a session, an ask or a fetch, of any method but the two
abbrev pub AsksMayBeSent : Type 0
AsksMayBeSent = (id : ℕ) (method : List ℕ) (params : Option Data) (attached : Option ℕ) → IsCommand id method params None
    → is_target_id id ≡ false → target_named method ≡ None → MayBeSent attached (command_text id method params None)

-- a command of the attached session, whose parameters are an object
abbrev pub SessionAsksMayBeSent : Type 0
SessionAsksMayBeSent = (id k : ℕ) (method : List ℕ) (params : Option Data) → IsCommand id method params (Some (string (session_text k)))
    → IsCommand id method params None → are_object params ≡ true → is_target_id id ≡ false
    → MayBeSent (Some k) (command_text id method params (Some (string (session_text k))))

-- a frame that names no ask
abbrev pub BareFramesMayBeSent : Type 0
BareFramesMayBeSent = (frame : List ℕ) (attached : Option ℕ) → IsText frame → IsBare frame → MayBeSent attached frame

-- an attach where none is attached, and a detach where that session is
abbrev pub TargetsMayBeSent : Type 0
TargetsMayBeSent = (id k : ℕ) → is_target_id id ≡ true → IsSessionNumber k
    → MayAttach None id attach (attach_text id) × MayAttach (Some k) id detach (detach_text id (session_text k))
