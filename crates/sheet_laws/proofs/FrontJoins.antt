-- What stands behind a place of a sheet is read as it is alone: the reading of both is that of the text up to the place, and behind it
-- that of the other. So it is for each text that ends in a whole part.
use Rattle.std.proofs.Common.{◌≡◌, ℕ, false, List, [], ◌∷◌, ◌++◌, length, None, sym, subst}
use Rattle.css_tokens.specs.Codes.{is_white, begins}
use Rattle.css_tokens.specs.Pieces.{pieces}
use Rattle.css_tokens.specs.Seams.{IsWholeBefore}
use Rattle.sheet_reader.specs.Grammar.{IsShutEnding, IsShut, AreShut}
use Rattle.sheet_reader.specs.Joins.{joined}
use Rattle.sheet_reader.specs.Layout.{level_of}
use Rattle.sheet_reader.specs.Parts.{EndingForm, PartForm, passed, at_rule, qualified, parts}
use Rattle.sheet_reader.specs.Sheets.{sheet_of}
use Rattle.sheet_reader.proofs.GrammarForms.{parts_spelled}
use Rattle.sheet_reader.proofs.JoinedLaw.{joined_whole}
use Rattle.sheet_reader.proofs.PartMoves.{flat_of}
use Rattle.sheet_laws.specs.Places.{IsWholeEnding, whole_semicolon, whole_block}
use Rattle.sheet_laws.proofs.FrontCuts.{IsEnded, AreEnded, ended_join, FrontAt, front_pieces, front_parts}

-- ---- the end of the text cuts no block short

ending_shut : (ending : EndingForm) → IsWholeEnding ending → IsShutEnding ending
ending_shut _ (whole_semicolon t) = tt
ending_shut _ (whole_block first close inside) = tt

ended_shut : (p : PartForm) → IsEnded p → IsShut p
ended_shut (passed t) ended = tt
ended_shut (at_rule keyword prelude ending) ended = ending_shut ending ended
ended_shut (qualified prelude ending) ended = ending_shut ending ended

all_shut : (ps : List PartForm) → AreEnded ps → AreShut ps
all_shut [] ended = tt
all_shut (p ∷ ps) ended = (ended_shut p ended.0, all_shut ps ended.1)

-- ---- both texts

joined_ended : (front other : List ℕ) → IsWholeBefore other 0 front (pieces front) → AreEnded (parts (level_of None) (pieces front))
    → sheet_of (front ++ other) ≡ joined (length front) (sheet_of front) (sheet_of other)
joined_ended front other whole ended =
    let ps = parts (level_of None) (pieces front) in
    let both = flat_of (level_of None) ps (pieces front) (parts_spelled (level_of None) (pieces front)) in
    joined_whole front other whole (all_shut ps ended) (λ qs all. ended_join (level_of None) ps qs ended both.1 all)

-- what begins with no white space, or stood there before, is read behind the text up to a place as it is read alone
pub joined_at : (text : List ℕ) (place : ℕ) (f : FrontAt text place) (other : List ℕ)
    → (begins is_white f.after ≡ false → begins is_white other ≡ false)
    → sheet_of (f.front ++ other) ≡ joined (length f.front) (sheet_of f.front) (sheet_of other)
joined_at text place f other apart =
    joined_ended f.front other
    (subst (IsWholeBefore other 0 f.front) (sym (front_pieces text place f)) (f.whole other apart))
    (subst AreEnded (front_parts text place f) f.ended)
