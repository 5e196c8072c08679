-- Texts that are one rule, but for white space and comments.
use Rattle.std.specs.Prelude.{ℕ, Bool, true, false, not, List, [], ◌∷◌, drop, Some, None, is_some, if◌then◌else◌}
use Rattle.std.specs.List.{filter, prefix_len}
use Rattle.css_tokens.specs.declared.token.Token.{Token}
use Rattle.css_tokens.specs.declared.token.TokenKind.{TokenKind}
use Rattle.css_tokens.specs.declared.token.TokenKind.TheVariants.{Comment, WhiteSpace}
use Rattle.css_tokens.specs.Pieces.{pieces}
use Rattle.sheet_reader.specs.declared.lone.LoneRule.{LoneRule}
use Rattle.sheet_reader.specs.declared.lone.LoneRule.TheVariants.{Other, Dropped, Style}
use Rattle.sheet_reader.specs.declared.parts.Level.TheVariants.{Top}
use Rattle.sheet_reader.specs.Parts.{EndingForm, text_end, semicolon, block, PartForm, passed, at_rule, qualified, parts}
use Rattle.sheet_reader.specs.Sheets.{rule_of}

-- white space, or a comment
abbrev pub is_blank_kind : TokenKind → Bool
is_blank_kind Comment = true
is_blank_kind WhiteSpace = true
is_blank_kind _ = false

-- a piece that is white space or a comment
abbrev pub is_blank_piece : Token → Bool
is_blank_piece t = is_blank_kind t.kind

-- the pieces from the first one on that is neither
abbrev pub skip_blank : List Token → List Token
skip_blank ts = drop (prefix_len is_blank_piece ts) ts

-- a part that is white space or a comment
abbrev pub is_blank_part : PartForm → Bool
is_blank_part (passed t) = is_blank_piece t
is_blank_part (at_rule keyword prelude ending) = false
is_blank_part (qualified prelude ending) = false

-- a block has its `}`
abbrev pub is_closed_ending : EndingForm → Bool
is_closed_ending text_end = false
is_closed_ending (semicolon t) = false
is_closed_ending (block first inside None) = false
is_closed_ending (block first inside (Some close)) = true

-- a qualified rule with a block that has its `}`
abbrev pub is_closed_rule : PartForm → Bool
is_closed_rule (passed t) = false
is_closed_rule (at_rule keyword prelude ending) = false
is_closed_rule (qualified prelude ending) = is_closed_ending ending

-- the parts but white space and comments
abbrev pub solid_parts : List PartForm → List PartForm
solid_parts ps = filter (λ p. not (is_blank_part p)) ps

-- a closed rule is dropped where its prelude is no selector list
abbrev pub lone_by : List ℕ → PartForm → LoneRule
lone_by text p = if is_closed_rule p then (if is_some (rule_of text None p) then Style else Dropped) else Other

-- what these parts are as one rule: what the part is where there is just one, and no such rule where there is none or more
abbrev pub lone_of : List ℕ → List PartForm → LoneRule
lone_of text [] = Other
lone_of text (p ∷ []) = lone_by text p
lone_of text (p ∷ q ∷ ps) = Other

-- what a text is as one rule
abbrev pub lone_rule : List ℕ → LoneRule
lone_rule text = lone_of text (solid_parts (parts Top (pieces text)))
