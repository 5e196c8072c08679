-- What a sheet says: its style rules, and the places where a rule may be added.
use Rattle.std.specs.Prelude.{ℕ, ◌+◌, ◌-◌, nat_le, Bool, false, ◌&&◌, ◌==◌, List, [], ◌∷◌, ◌++◌, slice_index, length, Option, Some, None}
use Rattle.std.specs.Prelude.{option_to_list, if◌then◌else◌}
use Rattle.css_tokens.specs.declared.token.Token.{Token}
use Rattle.css_tokens.specs.declared.token.Range.{Range}
use Rattle.css_tokens.specs.declared.token.TokenKind.{TokenKind}
use Rattle.css_tokens.specs.declared.token.TokenKind.TheVariants.{Comment}
use Rattle.css_tokens.specs.Pieces.{pieces}
use Rattle.selectors.specs.declared.words.Word.{Word}
use Rattle.selectors.specs.Words.{word_reading, words_after}
use Rattle.selectors.specs.Forms.{◌>>=◌}
use Rattle.selectors.specs.Reading.{range_of, selector_list_of}
use Rattle.sheet_reader.specs.declared.parts.Level.TheVariants.{Top}
use Rattle.sheet_reader.specs.declared.sheet.Sheet.{Sheet}
use Rattle.sheet_reader.specs.Forms.{range, RuleForm}
use Rattle.sheet_reader.specs.Parts.{PartForm, passed, at_rule, qualified, EndingForm, text_end, semicolon, block, parts}
use Rattle.sheet_reader.specs.Layout.{Laid, media_in, laid_out}
use Rattle.sheet_reader.specs.Declarations.{declarations}

-- where a body ends: before its `}`, or at the text's end
abbrev pub body_end : List ℕ → Option Token → ℕ
body_end text (Some close) = close.start
body_end text None = length text

-- the style rule whose prelude has these words, if they spell a selector list
abbrev pub style_rule : List ℕ → Option ℕ → List Word → Range → List Token → Option RuleForm
style_rule text around words body inside =
    range_of words >>= λ prelude. selector_list_of (word_reading text words) >>= λ selectors.
    Some (record {
      prelude = prelude;
      selectors = selectors;
      body = body;
      properties = declarations text inside;
      media = around;
    })

-- the style rule with this prelude and this ending: none where it ends without a block, or the prelude is no selector list
abbrev pub rule_by : List ℕ → Option ℕ → List Token → EndingForm → Option RuleForm
rule_by text around prelude (block first inside close) = style_rule text around (words_after text false prelude)
    (range first.end (body_end text close)) inside
rule_by text around prelude (semicolon t) = None
rule_by text around prelude text_end = None

-- the style rule that a part is: a qualified rule whose prelude is a selector list; with the place of the innermost media rule
-- around it
unfoldable pub rule_of : List ℕ → Option ℕ → PartForm → Option RuleForm
rule_of text around (qualified prelude ending) = rule_by text around prelude ending
rule_of text around (passed t) = None
rule_of text around (at_rule keyword prelude ending) = None

-- `*/` ends it
abbrev pub is_closed_comment : List ℕ → Token → Bool
is_closed_comment text t = nat_le (t.start + 4) t.end && (slice_index text (t.end - 2) == 42 && slice_index text (t.end - 1) == 47)

-- the place behind a piece that is passed over, unless it is a comment without its `*/`
abbrev pub passed_place : List ℕ → Token → TokenKind → Option ℕ
passed_place text t Comment = if is_closed_comment text t then Some t.end else None
passed_place text t _ = Some t.end

-- the place behind a block's `}`, if it has one
abbrev pub closing_place : Option Token → Option ℕ
closing_place (Some close) = Some close.end
closing_place None = None

-- the place behind the ending of a rule, unless the text's end cut the rule short
abbrev pub ending_place : EndingForm → Option ℕ
ending_place text_end = None
ending_place (semicolon t) = Some t.end
ending_place (block first inside close) = closing_place close

-- the place behind a part, unless the text's end cut the part short
unfoldable pub place_of : List ℕ → PartForm → Option ℕ
place_of text (passed t) = passed_place text t t.kind
place_of text (at_rule keyword prelude ending) = ending_place ending
place_of text (qualified prelude ending) = ending_place ending

-- the style rules among these parts, in their order
unfoldable pub rules_in : List ℕ → List Laid → List RuleForm
rules_in text [] = []
rules_in text (l ∷ ls) = option_to_list (rule_of text l.around l.part) ++ rules_in text ls

-- the places behind these parts, in their order
unfoldable pub places_in : List ℕ → List PartForm → List ℕ
places_in text [] = []
places_in text (p ∷ ps) = option_to_list (place_of text p) ++ places_in text ps

-- the reading of a text
abbrev pub sheet_of : List ℕ → Sheet
sheet_of text = record {
  rules = rules_in text (laid_out text None 0 (pieces text));
  places = 0 ∷ places_in text (parts Top (pieces text));
  media = media_in text (laid_out text None 0 (pieces text));
}
