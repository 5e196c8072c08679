-- What a reading becomes where the selector list of a style rule, or the prelude of a media rule, is replaced. No text is read: of what
-- is put in it is known how long it is, and what it says by itself.
use Rattle.std.specs.Prelude.{ℕ, zero, suc, ◌+◌, ◌-◌, ◌==◌, Bool, not, List, [], ◌∷◌, map, length, slice_get, slice_index, Option, Some}
use Rattle.std.specs.Prelude.{None}
use Rattle.css_tokens.specs.declared.token.Range.{Range}
use Rattle.css_tokens.specs.Pieces.{pieces}
use Rattle.selectors.specs.Forms.{SelectorForm}
use Rattle.selectors.specs.Moves.{Cut, moved_place, placed_range, placed_selector}
use Rattle.sheet_reader.specs.declared.sheet.MediaRule.{MediaRule}
use Rattle.sheet_reader.specs.declared.sheet.Sheet.{Sheet}
use Rattle.sheet_reader.specs.Forms.{RuleForm}
use Rattle.sheet_reader.specs.Lone.{is_blank_kind}
use Rattle.sheet_reader.specs.Moves.{placed_property, placed_rule, placed_media}
use Rattle.sheet_reader.specs.Sealing.{kind_passes}

-- ---- the new text

-- the first piece is neither white space nor a comment: so the text joins with none that stands before it
abbrev pub starts_solid : List ℕ → Bool
starts_solid text = kind_passes (λ kind. not (is_blank_kind kind)) (slice_get (pieces text) 0)

-- the last code is a CR, which an LF behind it would make one newline with
abbrev pub ends_in_return : List ℕ → Bool
ends_in_return text = slice_index text (length text - 1) == 13

-- ---- what is moved

-- n bytes in the place of this range
abbrev pub range_cut : Range → ℕ → Cut
range_cut r n = record { start = r.start; end = r.end; size = n }

-- a range of what takes the place, behind what stands before the cut
abbrev pub own_range : Cut → Range → Range
own_range c r = placed_range (λ place. c.start + place) r

-- a list of which element k changes by itself, and each other one alike
abbrev pub changed_at : {A : Type 0} → (A → A) → (A → A) → ℕ → List A → List A
changed_at own other k [] = []
changed_at own other zero (x ∷ xs) = own x ∷ map other xs
changed_at own other (suc k) (x ∷ xs) = other x ∷ changed_at own other k xs

-- ---- the selector list of a style rule

-- the rule whose prelude is cut out: its prelude is this range of what takes the place, and its selectors are those
abbrev pub reheaded : Cut → Range → List SelectorForm → RuleForm → RuleForm
reheaded c head ss r = record {
  prelude = own_range c head;
  selectors = map (placed_selector (λ place. c.start + place)) ss;
  body = placed_range (moved_place c) r.body;
  properties = map (placed_property (moved_place c)) r.properties;
  media = r.media;
}

-- the sheet with another prelude for this rule, which is its rule number k
abbrev pub head_moved_by : Sheet → ℕ → Range → List SelectorForm → ℕ → Option RuleForm → Sheet
head_moved_by s k head ss n None = s
head_moved_by s k head ss n (Some r) = record {
  rules = changed_at (reheaded (range_cut r.prelude n) head ss) (placed_rule (moved_place (range_cut r.prelude n))) k s.rules;
  places = map (moved_place (range_cut r.prelude n)) s.places;
  media = map (placed_media (moved_place (range_cut r.prelude n))) s.media;
}

-- The sheet where the prelude of rule k is replaced by n bytes. The range of their words and these selectors are places in what takes
-- the place. A sheet without a rule k stays.
abbrev pub moved_head : Sheet → ℕ → Range → List SelectorForm → ℕ → Sheet
moved_head s k head ss n = head_moved_by s k head ss n (slice_get s.rules k)

-- ---- the prelude of a media rule

-- the media rule whose prelude is cut out, which has this one now
abbrev pub repreluded : Range → MediaRule → MediaRule
repreluded prelude m = record { prelude = prelude; inside = m.inside }

-- the sheet with this prelude for this media rule, which is its media rule number k
abbrev pub media_moved_by : Sheet → ℕ → Range → ℕ → Option MediaRule → Sheet
media_moved_by s k prelude n None = s
media_moved_by s k prelude n (Some m) = record {
  rules = map (placed_rule (moved_place (range_cut m.prelude n))) s.rules;
  places = map (moved_place (range_cut m.prelude n)) s.places;
  media = changed_at (repreluded prelude) (placed_media (moved_place (range_cut m.prelude n))) k s.media;
}

-- The sheet where the prelude of media rule k is replaced by n bytes, and is this range then. A sheet without a media rule k stays.
abbrev pub moved_media : Sheet → ℕ → Range → ℕ → Sheet
moved_media s k prelude n = media_moved_by s k prelude n (slice_get s.media k)
