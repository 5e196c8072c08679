-- Two sessions on one pipe: which is attached beside the root's, and by which texts sessions are named.
use Rattle.std.specs.Prelude.{ℕ, ◌+◌, ◌^◌, Bool, false, List, ◌∷◌, Option, Some, None, decimal, bytes_eq}

-- the number of the next session is below this when a frame comes, so that the one after it is a number as well
abbrev pub session_limit : ℕ
session_limit = 2 ^ 60

-- the number of the attached session, if one is attached, and the number of the next
pub record Sessions : Type 0 where
  pub attached : Option ℕ
  pub next : ℕ

-- at first none is attached, and the numbers start at 1
abbrev pub no_sessions : Sessions
no_sessions = record { attached = None; next = 1 }

-- the next session is attached; its number comes no more
abbrev pub one_attached : Sessions → Sessions
one_attached s = record { attached = Some s.next; next = s.next + 1 }

-- none is attached any more; the numbers go on
abbrev pub none_attached : Sessions → Sessions
none_attached s = record { attached = None; next = s.next }

-- the text of a session: `S` and its number, in decimal digits
abbrev pub session_text : ℕ → List ℕ
session_text n = 83 ∷ decimal n

-- the text is that of the attached session
abbrev pub is_attached : Option ℕ → List ℕ → Bool
is_attached None text = false
is_attached (Some n) text = bytes_eq (session_text n) text
