-- A session put behind the properties of messages, in their texts.
use Rattle.std.specs.Prelude.{ℕ, ◌-◌, List, [], ◌∷◌, ◌++◌, length, take, codes, decimal}
use Rattle.json.specs.Print.{quoted}
use Rattle.cdp_messages.specs.SessionFrames.{session_name}
use Rattle.session_mux.specs.Sessions.{session_text}

-- the session of that number as a property behind others, the closing brace, and the zero byte of the frame
abbrev pub session_end : ℕ → List ℕ
session_end n = 44 ∷ (quoted session_name ++ 58 ∷ (quoted (session_text n) ++ 125 ∷ 0 ∷ []))

-- the same as it is written, where no digit is escaped
abbrev pub written_end : ℕ → List ℕ
written_end n = codes ",\"sessionId\":\"S" ++ (decimal n ++ 34 ∷ 125 ∷ 0 ∷ [])

-- a text with this end in the place of its last byte
abbrev pub tagged_frame : List ℕ → List ℕ → List ℕ
tagged_frame end text = take (length text - 1) text ++ end
