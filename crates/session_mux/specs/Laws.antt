-- The laws of two sessions on one pipe.
use Rattle.std.specs.Prelude.{◌≡◌, ◌≢◌, ◌↔◌, ◌⊎◌, ℕ, ◌<◌, ◌≤◌, List, [], ◌∷◌, Some, IfSome}
use Rattle.cdp_json.specs.declared.fields.Field.TheVariants.{Is, Missing}
use Rattle.cdp_messages.specs.Replies.{Message, message_data, message_text, message_frames}
use Rattle.cdp_messages.specs.SessionFrames.{without_session}
use Rattle.session_mux.specs.declared.router.Routed.TheVariants.{Attached, Answered}
use Rattle.session_mux.specs.declared.targets.Target.{Target}
use Rattle.session_mux.specs.Sessions.{Sessions, session_text}
use Rattle.session_mux.specs.Targets.{target_named}
use Rattle.session_mux.specs.Routes.{Request, request_of, routing}
use Rattle.session_mux.specs.Tags.{AreMessages, with_session, session_frame}
use Rattle.session_mux.specs.TaggedTexts.{session_end, tagged_frame}

-- the bytes are a request that names the attached session
pub record IsOfAttached (bytes : List ℕ) (s : Sessions) : Type 0 where
  pub request : Request
  pub number : ℕ
  pub is : request_of bytes ≡ Some request
  pub attached : s.attached ≡ Some number
  pub names : request.session ≡ Is (session_text number)

-- the bytes are a request that names a session which is not attached
pub record IsOfNone (bytes : List ℕ) (s : Sessions) : Type 0 where
  pub request : Request
  pub is : request_of bytes ≡ Some request
  pub names : request.session ≢ Missing
  pub other : (n : ℕ) → s.attached ≡ Some n → request.session ≢ Is (session_text n)

-- the bytes are a request that names no session and asks for one of the two methods
pub record IsOfTarget (bytes : List ℕ) : Type 0 where
  pub request : Request
  pub target : Target
  pub is : request_of bytes ≡ Some request
  pub names : request.session ≡ Missing
  pub method : target_named request.method ≡ Some target

-- a frame is the attached session's exactly where it names it
abbrev pub AttachedByName : Type 0
AttachedByName = (bytes : List ℕ) (s : Sessions) → (routing bytes s).routed ≡ Attached ↔ IsOfAttached bytes s

-- a frame is answered at once exactly where it names another session, or names none and has one of the two methods
abbrev pub AnsweredAtOnce : Type 0
AnsweredAtOnce = (bytes : List ℕ) (s : Sessions) → (routing bytes s).routed ≡ Answered ↔ (IsOfNone bytes s ⊎ IsOfTarget bytes)

-- one message answers such a frame
abbrev pub OneAnswer : Type 0
OneAnswer = (bytes : List ℕ) (s : Sessions) → (routing bytes s).routed ≡ Answered → (m : Message) × ((routing bytes s).said ≡ m ∷ [])

-- such an answer can be given a session itself
abbrev pub AnswersAreMessages : Type 0
AnswersAreMessages = (bytes : List ℕ) (s : Sessions) → AreMessages (message_frames (routing bytes s).said)

-- every other frame is left to a session: nothing is said, and nothing changes
abbrev pub OthersLeft : Type 0
OthersLeft = (bytes : List ℕ) (s : Sessions) → (routing bytes s).routed ≢ Answered
    → ((routing bytes s).said ≡ []) × ((routing bytes s).sessions ≡ s)

-- the attached session's number is below the next
abbrev pub AreInOrder : Sessions → Type 0
AreInOrder s = IfSome s.attached (λ n. n < s.next)

-- the session that is attached after a frame was attached before it, or has a number that none had
abbrev pub NumbersGoOn : Type 0
NumbersGoOn = (bytes : List ℕ) (s : Sessions) → AreInOrder s
    → AreInOrder (routing bytes s).sessions × (s.next ≤ (routing bytes s).sessions.next)
    × ((n : ℕ) → (routing bytes s).sessions.attached ≡ Some n → (s.attached ≡ Some n) ⊎ (s.next ≤ n))

-- a message's session stands behind its other properties, before the closing brace
abbrev pub TagsStandLast : Type 0
TagsStandLast = (n : ℕ) (m : Message) → session_frame n m ≡ tagged_frame (session_end n) (message_text m)

-- without its session a message is the one that was given
abbrev pub TagsComeOff : Type 0
TagsComeOff = (n : ℕ) (m : Message) → without_session (with_session n (message_data m)) ≡ message_data m
