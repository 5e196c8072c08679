-- Pieces, parts and items whose places are moved.
use Rattle.std.specs.Prelude.{ℕ, List, [], ◌∷◌, ◌++◌, map, option_map}
use Rattle.css_tokens.specs.declared.token.Token.{Token}
use Rattle.selectors.specs.declared.words.Word.{Word}
use Rattle.sheet_reader.specs.Parts.{EndingForm, text_end, semicolon, block, PartForm, passed, at_rule, qualified, part_pieces}
use Rattle.sheet_reader.specs.Layout.{Laid, laid, MediaForm}
use Rattle.sheet_reader.specs.Declarations as body

-- a piece with its places moved
abbrev pub raised : (ℕ → ℕ) → Token → Token
raised f t = record { kind = t.kind; start = f t.start; end = f t.end }

-- a word with its places moved
abbrev pub raised_word : (ℕ → ℕ) → Word → Word
raised_word f w = record { kind = w.kind; start = f w.start; end = f w.end; spaced = w.spaced }

abbrev pub raised_ending : (ℕ → ℕ) → EndingForm → EndingForm
raised_ending f text_end = text_end
raised_ending f (semicolon t) = semicolon (raised f t)
raised_ending f (block first inside close) = block (raised f first) (map (raised f) inside) (option_map (raised f) close)

abbrev pub raised_part : (ℕ → ℕ) → PartForm → PartForm
raised_part f (passed t) = passed (raised f t)
raised_part f (at_rule keyword prelude ending) = at_rule (raised f keyword) (map (raised f) prelude) (raised_ending f ending)
raised_part f (qualified prelude ending) = qualified (map (raised f) prelude) (raised_ending f ending)

abbrev pub raised_item : (ℕ → ℕ) → body.ItemForm → body.ItemForm
raised_item f (body.passed t) = body.passed (raised f t)
raised_item f (body.at_rule p) = body.at_rule (raised_part f p)
raised_item f (body.candidate ts) = body.candidate (map (raised f) ts)
raised_item f (body.other ts) = body.other (map (raised f) ts)

-- a part that is laid out, with its places moved
abbrev pub raised_laid : (ℕ → ℕ) → Laid → Laid
raised_laid f l = laid l.around (raised_part f l.part)

-- a media rule with its places moved
abbrev pub raised_media : (ℕ → ℕ) → MediaForm → MediaForm
raised_media f m = record { keyword = raised f m.keyword; prelude = map (raised f) m.prelude; inside = map (raised f) m.inside }

-- all the pieces of these parts, in their order
abbrev pub flat : List PartForm → List Token
flat [] = []
flat (p ∷ ps) = part_pieces p ++ flat ps
