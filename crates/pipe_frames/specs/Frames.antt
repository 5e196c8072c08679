-- Frames: texts without a zero byte, each followed by one zero byte.
use Rattle.std.specs.Prelude.{◌≡◌, ◌≢◌, ◌==◌, ◌+◌, ℕ, List, [], ◌∷◌, ◌++◌, length, All, if◌then◌else◌}
use Rattle.std.specs.List.{flat_map}

-- the whole frames, without their zero bytes, and the bytes after the last zero byte
pub record Frames : Type 0 where
  pub whole : List (List ℕ)
  pub rest : List ℕ

-- no byte is zero
abbrev pub IsText : List ℕ → Type 0
IsText bytes = All (λ byte. byte ≢ 0) bytes

-- a text as it is sent: with one zero byte after it
abbrev pub framed : List ℕ → List ℕ
framed text = text ++ 0 ∷ []

-- the bytes are one text, as it is sent
pub record IsFrame (bytes : List ℕ) : Type 0 where
  pub text : List ℕ
  pub letters : IsText text
  pub is : bytes ≡ framed text

-- the bytes that these frames are cut from
abbrev pub bytes_of : Frames → List ℕ
bytes_of frames = flat_map framed frames.whole ++ frames.rest

-- the frames are texts, and so is the rest, and together they are these bytes
pub record Splits (bytes : List ℕ) (frames : Frames) : Type 0 where
  pub joined : bytes ≡ bytes_of frames
  pub texts : All IsText frames.whole
  pub partial : IsText frames.rest

-- one byte more at the front of what comes first, a whole frame or the rest
abbrev pub lengthened : ℕ → List (List ℕ) → List ℕ → Frames
lengthened byte [] rest = record { whole = []; rest = byte ∷ rest }
lengthened byte (frame ∷ more) rest = record { whole = (byte ∷ frame) ∷ more; rest = rest }

-- one byte more at the front, where a zero byte ends an empty frame
abbrev pub put_front : ℕ → Frames → Frames
put_front byte frames =
    if byte == 0 then record { whole = [] ∷ frames.whole; rest = frames.rest }
    else lengthened byte frames.whole frames.rest

-- the frames of these bytes: `frames_law` says that no others split them
unfoldable pub frames_of : List ℕ → Frames
frames_of [] = record { whole = []; rest = [] }
frames_of (byte ∷ bytes) = put_front byte (frames_of bytes)

-- the whole frames that come of more bytes after a rest
abbrev pub frames_from : List ℕ → List ℕ → List (List ℕ)
frames_from rest bytes = (frames_of (rest ++ bytes)).whole

-- the rest that more bytes leave after a rest
abbrev pub held_after : List ℕ → List ℕ → List ℕ
held_after rest bytes = (frames_of (rest ++ bytes)).rest

-- the frames after more bytes
abbrev pub continued : Frames → List ℕ → Frames
continued frames bytes =
    record { whole = frames.whole ++ frames_from frames.rest bytes; rest = held_after frames.rest bytes }

-- whole frames, and one more
abbrev pub with_frame : Frames → List ℕ → Frames
with_frame frames text = record { whole = frames.whole ++ text ∷ []; rest = [] }

-- what a splitter's fields are: texts
pub record IsCut (whole : List (List ℕ)) (rest : List ℕ) : Type 0 where
  pub texts : All IsText whole
  pub partial : IsText rest

-- the bytes of frames, each with its zero
abbrev pub bytes_in : List (List ℕ) → ℕ
bytes_in [] = 0
bytes_in (frame ∷ frames) = length frame + 1 + bytes_in frames
