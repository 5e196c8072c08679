-- How names and the values of attributes compare (Selectors 3, section 6.3).
use Rattle.std.specs.Prelude.{ℕ, nat_eq, Bool, true, false, not, ◌&&◌, ◌||◌, ◌==◌, List, [], ◌∷◌, ◌++◌, filter, map, length, Option, Some}
use Rattle.std.specs.Prelude.{None}
use Rattle.std.specs.Str.{bytes_eq}
use Rattle.std.specs.Char.{is_ascii_whitespace, to_ascii_lowercase}
use Rattle.std.specs.List.{slice_split, list_any, starts_with, ends_with}
use Rattle.node_tree.specs.Labels.{Pair}
use Rattle.selectors.specs.declared.selector.AttrOp.{AttrOp}
use Rattle.selectors.specs.declared.selector.AttrOp.TheVariants.{Exists, Equal, Word, Dash, Prefix, Suffix, Part}

-- the names are equal but for the case of ASCII letters
abbrev pub same_name : List ℕ → List ℕ → Bool
same_name a b = bytes_eq (map to_ascii_lowercase a) (map to_ascii_lowercase b)

-- the text has no byte
abbrev pub has_no_byte : List ℕ → Bool
has_no_byte text = length text == 0

-- the words of a text, which tabs, line feeds, form feeds, carriage returns and spaces part
abbrev pub words : List ℕ → List (List ℕ)
words text = filter (λ piece. not (has_no_byte piece)) (slice_split is_ascii_whitespace text)

-- the text is one of the words
abbrev pub has_word : List ℕ → List ℕ → Bool
has_word word text = list_any (λ w. bytes_eq w word) (words text)

-- the part stands somewhere in the text
abbrev pub has_part : List ℕ → List ℕ → Bool
has_part part [] = starts_with nat_eq [] part
has_part part (b ∷ text) = starts_with nat_eq (b ∷ text) part || has_part part text

-- an attribute's value is as the operator and the operand ask
abbrev pub compares : AttrOp → List ℕ → List ℕ → Bool
compares Exists operand value = true
compares Equal operand value = bytes_eq value operand
compares Word operand value = has_word operand value
compares Dash operand value = bytes_eq value operand || starts_with nat_eq value (operand ++ 45 ∷ [])
compares Prefix operand value = not (has_no_byte operand) && starts_with nat_eq value operand
compares Suffix operand value = not (has_no_byte operand) && ends_with nat_eq value operand
compares Part operand value = not (has_no_byte operand) && has_part operand value

-- some attribute has that name, in any ASCII case, and a value that passes
abbrev pub has_attribute : List ℕ → (List ℕ → Bool) → List Pair → Bool
has_attribute name passes pairs = list_any (λ p. same_name p.0 name && passes p.1) pairs

-- there is a value, and it passes
abbrev pub value_passes : (List ℕ → Bool) → Option (List ℕ) → Bool
value_passes passes None = false
value_passes passes (Some value) = passes value
