-- The replies among the messages that came down, as a show tells them.
use Rattle.std.specs.Prelude.{ℕ, false, List, [], ◌∷◌, ◌++◌, codes, decimal, Option, Some, None, Result, Ok, Err}
use Rattle.std.specs.List.{flat_map}
use Rattle.pipe_frames.specs.Frames.{frames_of}
use Rattle.cdp_messages.specs.declared.command.Asked.{Asked}
use Rattle.cdp_messages.specs.declared.command.Refused.{Refused}
use Rattle.cdp_messages.specs.Asked.{asked}
use Rattle.cdp_messages.specs.Replies.{Message, reply, fault, event, down_of}
use Rattle.front_mirror.specs.declared.replies.Kept.{Kept}

-- a reply: the id of the ask that it answers, none where the back end read none; and the frame as it came
pub record ShownReply : Type 0 where
  pub id : Option ℕ
  pub text : List ℕ

-- the reply that a frame is, by its message
abbrev pub replies_in_frame : List ℕ → Option Message → List ShownReply
replies_in_frame frame None = []
replies_in_frame frame (Some (reply id result)) = record { id = Some id; text = frame } ∷ []
replies_in_frame frame (Some (fault id code said)) = record { id = id; text = frame } ∷ []
replies_in_frame frame (Some (event n)) = []

-- the replies among frames, in their order
abbrev pub replies_among : List (List ℕ) → List ShownReply
replies_among [] = []
replies_among (frame ∷ frames) = replies_in_frame frame (down_of frame) ++ replies_among frames

-- a reply that a front end has kept
abbrev pub reply_shown : Kept → ShownReply
reply_shown k = record { id = k.id; text = k.text }

-- the replies among the whole frames of these bytes
abbrev pub replies_in : List ℕ → List ShownReply
replies_in bytes = replies_among (frames_of bytes).whole

-- `k TEXT`, or `- TEXT` without an id
abbrev pub id_text : Option ℕ → List ℕ
id_text None = codes "-"
id_text (Some id) = decimal id

-- the line that a show prints for a reply
abbrev pub told_line : ShownReply → List ℕ
told_line t = id_text t.id ++ codes " " ++ t.text ++ 10 ∷ []

-- the lines of some replies
abbrev pub told_lines : List ShownReply → List ℕ
told_lines ts = flat_map told_line ts

-- ---- the ids that replies have to have

-- the id of what is asked, or of the refusal
abbrev pub id_asked : Result Asked Refused → Option ℕ
id_asked (Ok a) = Some a.id
id_asked (Err r) = r.id

-- the id of the reply to a frame, none where the frame has none
abbrev pub reply_id : List ℕ → Option ℕ
reply_id frame = id_asked (asked frame false)
