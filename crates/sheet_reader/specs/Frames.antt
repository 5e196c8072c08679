-- A sheet that is being read: what it says so far, and what is still to be read.
use Rattle.std.specs.Prelude.{◌≡◌, ℕ, suc, ◌+◌, List, [], ◌∷◌, ◌++◌, length, Option, Some, None, option_to_list, All}
use Rattle.css_tokens.specs.declared.token.Token.{Token}
use Rattle.css_tokens.specs.Marks.{IsPieceOf}
use Rattle.sheet_reader.specs.declared.parts.Level.TheVariants.{Top}
use Rattle.sheet_reader.specs.declared.sheet.Sheet.{Sheet}
use Rattle.sheet_reader.specs.Parts.{PartForm, parts}
use Rattle.sheet_reader.specs.Layout.{MediaForm, media_rule, media_in, Laid, laid_out}
use Rattle.sheet_reader.specs.Sheets.{rule_of, place_of, rules_in, places_in}

-- pieces that are left of the sheet or of the block of a media rule, with the place of that rule
pub record FrameForm : Type 0 where
  pub left : List Token
  pub around : Option ℕ

abbrev pub frame : Option ℕ → List Token → FrameForm
frame around left = record { left = left; around = around }

-- these pieces are left at top level, and nothing else is
abbrev pub left_at_top : List Token → List FrameForm
left_at_top left = frame None left ∷ []

-- the place behind a part at top level
abbrev pub top_place : List ℕ → Option ℕ → PartForm → Option ℕ
top_place text None p = place_of text p
top_place text (Some place) p = None

-- the sheet with what this part is, but for media rules
abbrev pub with_part : List ℕ → Option ℕ → PartForm → Sheet → Sheet
with_part text around p s = record {
  rules = s.rules ++ option_to_list (rule_of text around p);
  places = s.places ++ option_to_list (top_place text around p);
  media = s.media;
}

-- the sheet with this media rule, if there is one
abbrev pub with_media : List ℕ → Option ℕ → Option MediaForm → Sheet → Sheet
with_media text around None s = s
with_media text around (Some m) s = record { rules = s.rules; places = s.places; media = s.media ++ media_rule text around m ∷ [] }

-- what is in the block of this media rule in front, if there is one; k media rules stand before it
abbrev pub opened : ℕ → Option MediaForm → List FrameForm → List FrameForm
opened k None fs = fs
opened k (Some m) fs = frame (Some k) m.inside ∷ fs

-- the parts that are left, behind k media rules
abbrev pub laid_left : List ℕ → ℕ → List FrameForm → List Laid
laid_left text k [] = []
laid_left text k (f ∷ fs) =
    laid_out text f.around k f.left ++ laid_left text (k + length (media_in text (laid_out text f.around k f.left))) fs

-- the places behind the parts that are left at top level
abbrev pub places_at : List ℕ → Option ℕ → List Token → List ℕ
places_at text None left = places_in text (parts Top left)
places_at text (Some place) left = []

abbrev pub places_left : List ℕ → List FrameForm → List ℕ
places_left text [] = []
places_left text (f ∷ fs) = places_at text f.around f.left ++ places_left text fs

-- what the sheet says in the end
abbrev pub read_on : List ℕ → Sheet → List FrameForm → Sheet
read_on text s fs = record {
  rules = s.rules ++ rules_in text (laid_left text (length s.media) fs);
  places = s.places ++ places_left text fs;
  media = s.media ++ media_in text (laid_left text (length s.media) fs);
}

-- how many pieces and frames are left
abbrev pub left_size : List FrameForm → ℕ
left_size [] = 0
left_size (f ∷ fs) = suc (length f.left) + left_size fs

-- the pieces that are left are pieces of the text
abbrev pub AreLeftOf : List ℕ → List FrameForm → Type 0
AreLeftOf text fs = All (λ f. All (IsPieceOf text) f.left) fs

-- these pieces begin with those of this media rule, up to the last in its block
abbrev pub BeginsWith : List Token → MediaForm → Type 0
BeginsWith left m = (bracket : Token) × (rest : List Token) × (left ≡ m.keyword ∷ (m.prelude ++ bracket ∷ (m.inside ++ rest)))

-- a sheet that says nothing
abbrev pub empty_sheet : Sheet
empty_sheet = record { rules = []; places = 0 ∷ []; media = [] }
