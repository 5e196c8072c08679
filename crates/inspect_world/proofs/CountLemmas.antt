-- How many frames bytes hold at most, and how much steps draw at most.
use Rattle.std.proofs.Common.{◌≡◌, ◌==◌, if◌then◌else◌, ℕ, suc, ◌+◌, ◌*◌, ◌^◌, ◌<◌, ◌≤◌, Bool, true, false, List, [], ◌∷◌, ◌++◌, length}
use Rattle.std.proofs.Common.{refl, inl, inr, Result, Ok, Err, mul-le-mul, arith}
use Rattle.std.proofs.lemmas.Bool.{cases_lt}
use Rattle.pipe_frames.specs.Frames.{Frames, frames_of, lengthened}
use Rattle.cdp_messages.specs.declared.command.Asked.{Asked}
use Rattle.cdp_messages.specs.declared.command.Refused.{Refused}
use Rattle.cdp_messages.specs.Asked.{asked}
use Rattle.back_end.proofs.EditSizes.{frame-long}
use Rattle.inspect_world.specs.Links.{Happening, came, made, frames_among, made_among, commands_in, commands_among, bytes_among}

-- ---- frames

lengthened-few : (byte n : ℕ) (whole : List (List ℕ)) (rest : List ℕ) → length whole ≤ n → length (lengthened byte whole rest).whole ≤ suc n
lengthened-few byte n [] rest few = omega (arith, few)
lengthened-few byte n (frame ∷ more) rest few = omega (arith, few)

put-few : (b : Bool) (byte n : ℕ) (f : Frames) → length f.whole ≤ n
    → length (if b then record { whole = [] ∷ f.whole; rest = f.rest } else lengthened byte f.whole f.rest).whole ≤ suc n
put-few true byte n f few = omega (arith, few)
put-few false byte n f few = lengthened-few byte n f.whole f.rest few

-- each whole frame has a byte at least, its zero
pub frames-few : (bytes : List ℕ) → length (frames_of bytes).whole ≤ length bytes
unfolding frames_of
frames-few [] = omega arith
frames-few (byte ∷ bytes) = put-few (byte == 0) byte (length bytes) (frames_of bytes) (frames-few bytes)

-- ---- what happened

pub events-counted : (hs : List Happening) → length hs ≡ length (frames_among hs) + made_among hs
events-counted [] = refl
events-counted (came frame ∷ hs) = let e = events-counted hs in omega (arith, e)
events-counted (made x ∷ hs) = let e = events-counted hs in omega (arith, e)

pub made-last : (hs : List Happening) (h : Happening) → made_among (hs ++ h ∷ []) ≡ made_among hs + made_among (h ∷ [])
made-last [] h = omega arith
made-last (came frame ∷ hs) h = made-last hs h
made-last (made x ∷ hs) h = let e = made-last hs h in omega (arith, e)

-- ---- bytes

lengthened-bytes : (byte n : ℕ) (whole : List (List ℕ)) (rest : List ℕ) → bytes_among whole ≤ n
    → bytes_among (lengthened byte whole rest).whole ≤ suc n
lengthened-bytes byte n [] rest few = omega (arith, few)
lengthened-bytes byte n (frame ∷ more) rest few = omega (arith, few)

put-bytes : (b : Bool) (byte n : ℕ) (f : Frames) → bytes_among f.whole ≤ n
    → bytes_among (if b then record { whole = [] ∷ f.whole; rest = f.rest } else lengthened byte f.whole f.rest).whole ≤ suc n
put-bytes true byte n f few = omega (arith, few)
put-bytes false byte n f few = lengthened-bytes byte n f.whole f.rest few

-- frames with their zeros are no longer than the bytes that they are cut from
pub frames-within : (bytes : List ℕ) → bytes_among (frames_of bytes).whole ≤ length bytes
unfolding frames_of
frames-within [] = omega arith
frames-within (byte ∷ bytes) = put-bytes (byte == 0) byte (length bytes) (frames_of bytes) (frames-within bytes)

pub bytes-append : (first second : List (List ℕ)) → bytes_among (first ++ second) ≡ bytes_among first + bytes_among second
bytes-append [] second = omega arith
bytes-append (frame ∷ first) second = more (length frame + 1) (bytes_among (first ++ second)) (bytes_among first) (bytes_among second)
    (bytes-append first second)
  where
    more : (one both left right : ℕ) → both ≡ left + right → both + one ≡ left + one + right
    more one both left right e = omega (arith, e)

-- a command has nine bytes with its zero
command-long : (frame : List ℕ) (r : Result Asked Refused) → asked frame false ≡ r → commands_in r * 9 ≤ length frame + 1
command-long frame (Ok a) e = let long : 8 ≤ length frame = frame-long false frame a e in omega (arith, long)
command-long frame (Err r) e = omega arith

pub commands-long : (hs : List Happening) → commands_among hs * 9 ≤ bytes_among (frames_among hs)
commands-long [] = omega arith
commands-long (came frame ∷ hs) = more (commands_among hs) (commands_in (asked frame false)) (bytes_among (frames_among hs))
    (length frame + 1) (commands-long hs) (command-long frame (asked frame false) refl)
  where
    more : (all one bytes frame_bytes : ℕ) → all * 9 ≤ bytes → one * 9 ≤ frame_bytes → (all + one) * 9 ≤ bytes + frame_bytes
    more all one bytes frame_bytes e f = omega (arith, e, f)
commands-long (made x ∷ hs) = commands-long hs

pub commands-last : (hs : List Happening) (h : Happening) → commands_among (hs ++ h ∷ []) ≡ commands_among hs + commands_among (h ∷ [])
commands-last [] h = omega arith
commands-last (came frame ∷ hs) h = more (commands_among (hs ++ h ∷ [])) (commands_among hs) (commands_among (h ∷ []))
    (commands_in (asked frame false)) (commands-last hs h)
  where
    more : (both all last one : ℕ) → both ≡ all + last → both + one ≡ all + one + last
    more both all last one e = omega (arith, e)
commands-last (made x ∷ hs) h = commands-last hs h

-- ---- what is drawn

-- one command more: it draws as many ids more as there were edits of the tree, each of the commands before having kept two
pub command-ids : (pushed trees pushed1 trees1 c m : ℕ) → pushed1 ≤ pushed + (500000 + trees) → trees1 ≤ trees + 2 → trees ≤ c * 2
    → pushed + trees ≤ (c + m) * 500000 + (c * c + c) → pushed1 + trees1 ≤ (c + 1 + m) * 500000 + ((c + 1) * (c + 1) + (c + 1))
command-ids pushed trees pushed1 trees1 c m few more kept h =
    let square : (c + 1) * (c + 1) ≡ c * c + c * 2 + 1 = grind arith in
    by (c * c) ((c + 1) * (c + 1)) square h
  where
    by : (s t : ℕ) → t ≡ s + c * 2 + 1 → pushed + trees ≤ (c + m) * 500000 + (s + c)
        → pushed1 + trees1 ≤ (c + 1 + m) * 500000 + (t + (c + 1))
    by s t e h = omega (arith, few, more, kept, e, h)

pub command-trees : (trees trees1 c : ℕ) → trees1 ≤ trees + 2 → trees ≤ c * 2 → trees1 ≤ (c + 1) * 2
command-trees trees trees1 c more kept = omega (arith, more, kept)

pub command-edits : (kept kept1 more bytes frame : ℕ) → kept1 ≤ kept + more → more ≤ frame → kept ≤ bytes → kept1 ≤ bytes + (frame + 1)
command-edits kept kept1 more bytes frame step few h = omega (arith, step, few, h)

pub count-bytes : (b n : ℕ) → b + (0 + (n + 1)) ≡ b + (n + 1)
count-bytes b n = omega arith

pub more-bytes : (kept b n : ℕ) → kept ≤ b → kept ≤ b + (n + 1)
more-bytes kept b n few = omega (arith, few)

pub no-more : (before after most : ℕ) → after ≤ before → before ≤ most → after ≤ most
no-more before after most less few = omega (arith, less, few)

-- a step of the script
pub made-ids : (before after squares c m : ℕ) → after ≤ before + 500000 → before ≤ (c + m) * 500000 + squares
    → after ≤ (c + (m + 1)) * 500000 + squares
made-ids before after squares c m few h = omega (arith, few, h)

pub few-edits : (kept bytes : ℕ) → bytes < 2 ^ 28 → kept ≤ bytes → kept < 2 ^ 30
few-edits kept bytes few h = omega (arith, few, h)

pub more_serials : (before after n m : ℕ) → m ≡ n + 1 → before ≤ (n + 1) * 100001 → after ≤ before + 100001 → after ≤ (m + 1) * 100001
more_serials before after n m one few more = omega (arith, one, few, more)

pub more_numbers : (before after n m : ℕ) → m ≡ n + 1 → before ≤ (n + 1) * 1000 + 1 → after ≤ before + 1000 → after ≤ (m + 1) * 1000 + 1
more_numbers before after n m one few more = omega (arith, one, few, more)

-- fewer than 2^28 bytes, and no more steps of the script than a script has bytes, leave ids
square-most : (c most : ℕ) → c ≤ most → c * c ≤ most * most
square-most c most few = mul-le-mul few few

pub ids-left : (pushed trees c m bytes : ℕ) → c * 9 ≤ bytes → bytes < 2 ^ 28 → m ≤ 2 ^ 26 → pushed + trees ≤ (c + m) * 500000 + (c * c + c)
    → pushed + 1 < 2 ^ 50
ids-left pushed trees c m bytes long few few_made drawn =
    let most : c ≤ 29826161 = omega (arith, long, few) in
    let square : c * c ≤ 29826161 * 29826161 = square-most c 29826161 most in
    by (c * c) square most drawn
  where
    by : (s : ℕ) → s ≤ 29826161 * 29826161 → c ≤ 29826161 → pushed + trees ≤ (c + m) * 500000 + (s + c) → pushed + 1 < 2 ^ 50
    by s square most drawn = omega (arith, square, most, few_made, drawn)

pub more_searches : (before after n m : ℕ) → m ≡ n + 1 → before ≤ n → after ≤ before + 1 → after ≤ m
more_searches before after n m one few more = omega (arith, one, few, more)

-- fewer than 2^29 steps leave serials and numbers of sheets and searches
pub serials-left : (next events : ℕ) → events < 2 ^ 29 → next ≤ (events + 1) * 100001 → next < 2 ^ 50
serials-left next events few drawn = omega (arith, few, drawn)

pub numbers-left : (next events : ℕ) → events < 2 ^ 29 → next ≤ (events + 1) * 1000 + 1 → next < 2 ^ 50
numbers-left next events few drawn = omega (arith, few, drawn)

pub searches-left : (given events : ℕ) → events < 2 ^ 29 → given ≤ events → given + 1 < 2 ^ 50
searches-left given events few drawn = omega (arith, few, drawn)

-- what cannot be with fewer than 2^28 bytes
pub is-full : (sent : ℕ) → (sent < 2 ^ 28 → ⊥) → 2 ^ 28 ≤ sent
is-full sent none = elim (cases_lt sent (2 ^ 28)) [
  | inl less ↦ absurd (none less)
  | inr most ↦ most
]
