-- The words of `includeWhitespace`.
use Rattle.std.specs.Prelude.{ℕ, List, [], ◌∷◌, codes}
use Rattle.cdp_json.specs.Kinds.{Kind, choice}
use Rattle.cdp_messages.specs.declared.command.WhitespaceWord.{WhitespaceWord}
use Rattle.cdp_messages.specs.declared.command.WhitespaceWord.TheVariants.{Hidden, Shown}

-- the word of each
abbrev pub whitespace_name : WhitespaceWord → List ℕ
whitespace_name Hidden = codes "none"
whitespace_name Shown = codes "all"

-- each of the words
abbrev pub all_whitespace : List WhitespaceWord
all_whitespace = Hidden ∷ Shown ∷ []

-- a word, as JSON
abbrev pub whitespace : Kind WhitespaceWord
whitespace = choice whitespace_name all_whitespace
