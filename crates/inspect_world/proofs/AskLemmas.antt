-- The asks that stand in frames.
use Rattle.std.proofs.Common.{◌≡◌, ◌≤◌, ℕ, ◌+◌, Bool, true, false, cond, List, [], ◌∷◌, ◌++◌, Option, Some, is_some, refl, sym, ◌∙◌, ap}
use Rattle.std.proofs.Common.{append_assoc, arith}
use Rattle.std.specs.Option.{option_to_list}
use Rattle.inspect_world.specs.Fits.{ask_of_frame, sheet_fetched, IsPlainFrame, edits_of_frame, drawing, asking, Sendable, AreSendable}
use Rattle.inspect_world.specs.Fits.{asks_among}

pub asks_among-append : (first second : List (List ℕ)) → asks_among (first ++ second) ≡ asks_among first ++ asks_among second
asks_among-append [] second = refl
asks_among-append (frame ∷ first) second =
    ap (λ asks. option_to_list (ask_of_frame frame) ++ asks) (asks_among-append first second)
    ∙ sym (append_assoc (option_to_list (ask_of_frame frame)) (asks_among first) (asks_among second))

-- one frame more that may be sent
pub sendable-last : (frames : List (List ℕ)) (frame : List ℕ) → AreSendable frames → Sendable frame → AreSendable (frames ++ frame ∷ [])
sendable-last [] frame all one = (one, tt)
sendable-last (first ∷ frames) frame all one = (all.0, sendable-last frames frame all.1 one)

-- ---- frames that may draw ids and serials

-- a frame that is no fetch is one of them
pub draws-one : (frame : List ℕ) (frames : List (List ℕ)) → IsPlainFrame frame → drawing (frame ∷ frames) ≡ 1 + drawing frames
draws-one frame frames plain = ap (λ (sheet : Option ℕ). cond (is_some sheet) 0 1 + drawing frames) plain

-- and a fetch is none
pub draws-none : (frame : List ℕ) (frames : List (List ℕ)) (sheet : ℕ) → sheet_fetched frame ≡ Some sheet
    → drawing (frame ∷ frames) ≡ 0 + drawing frames
draws-none frame frames sheet fetches = ap (λ (found : Option ℕ). cond (is_some found) 0 1 + drawing frames) fetches

pub drawing-append : (first second : List (List ℕ)) → drawing (first ++ second) ≡ drawing first + drawing second
drawing-append [] second = omega arith
drawing-append (frame ∷ first) second = more (cond (is_some (sheet_fetched frame)) 0 1) (drawing (first ++ second)) (drawing first)
    (drawing second) (drawing-append first second)
  where
    more : (one both left right : ℕ) → both ≡ left + right → one + both ≡ one + left + right
    more one both left right e = omega (arith, e)

-- one frame more is one more of them at most
pub drawing-last : (frames : List (List ℕ)) (frame : List ℕ) → drawing (frames ++ frame ∷ []) ≤ drawing frames + 1
drawing-last frames frame = at (is_some (sheet_fetched frame)) (drawing (frames ++ frame ∷ [])) (drawing frames)
    (drawing-append frames (frame ∷ []))
  where
    at : (fetches : Bool) (all before : ℕ) → all ≡ before + (cond fetches 0 1 + 0) → all ≤ before + 1
    at true all before e = omega (arith, e)
    at false all before e = omega (arith, e)

-- and a fetch more is none
pub drawing-fetch : (frames : List (List ℕ)) (frame : List ℕ) (sheet : ℕ) → sheet_fetched frame ≡ Some sheet
    → drawing (frames ++ frame ∷ []) ≡ drawing frames
drawing-fetch frames frame sheet fetches = at (drawing (frames ++ frame ∷ [])) (drawing frames) (drawing (frame ∷ []))
    (drawing-append frames (frame ∷ [])) (draws-none frame [] sheet fetches)
  where
    at : (all before one : ℕ) → all ≡ before + one → one ≡ 0 + 0 → all ≡ before
    at all before one e f = omega (arith, e, f)

-- ---- edits that frames ask for

-- those of a frame that is no fetch count
pub asks-edits : (frame : List ℕ) (frames : List (List ℕ)) → IsPlainFrame frame
    → asking (frame ∷ frames) ≡ edits_of_frame frame + asking frames
asks-edits frame frames plain = ap (λ (sheet : Option ℕ). cond (is_some sheet) 0 (edits_of_frame frame) + asking frames) plain

-- and a fetch has none
pub asks-none : (frame : List ℕ) (frames : List (List ℕ)) (sheet : ℕ) → sheet_fetched frame ≡ Some sheet
    → asking (frame ∷ frames) ≡ 0 + asking frames
asks-none frame frames sheet fetches = ap (λ (found : Option ℕ). cond (is_some found) 0 (edits_of_frame frame) + asking frames) fetches

asking-append : (first second : List (List ℕ)) → asking (first ++ second) ≡ asking first + asking second
asking-append [] second = omega arith
asking-append (frame ∷ first) second = more (cond (is_some (sheet_fetched frame)) 0 (edits_of_frame frame)) (asking (first ++ second))
    (asking first) (asking second) (asking-append first second)
  where
    more : (one both left right : ℕ) → both ≡ left + right → one + both ≡ one + left + right
    more one both left right e = omega (arith, e)

-- one frame more asks for its edits more at most
pub asking-last : (frames : List (List ℕ)) (frame : List ℕ) → asking (frames ++ frame ∷ []) ≤ asking frames + edits_of_frame frame
asking-last frames frame = at (is_some (sheet_fetched frame)) (asking (frames ++ frame ∷ [])) (asking frames) (edits_of_frame frame)
    (asking-append frames (frame ∷ []))
  where
    at : (fetches : Bool) (all before one : ℕ) → all ≡ before + (cond fetches 0 one + 0) → all ≤ before + one
    at true all before one e = omega (arith, e)
    at false all before one e = omega (arith, e)

-- and a fetch more for none
pub asking-fetch : (frames : List (List ℕ)) (frame : List ℕ) (sheet : ℕ) → sheet_fetched frame ≡ Some sheet
    → asking (frames ++ frame ∷ []) ≡ asking frames
asking-fetch frames frame sheet fetches = at (asking (frames ++ frame ∷ [])) (asking frames) (asking (frame ∷ []))
    (asking-append frames (frame ∷ [])) (asks-none frame [] sheet fetches)
  where
    at : (all before one : ℕ) → all ≡ before + one → one ≡ 0 + 0 → all ≡ before
    at all before one e f = omega (arith, e, f)
