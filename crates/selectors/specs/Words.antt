-- The words of a text: its pieces but white space and comments. Each knows whether white space stands before it.
use Rattle.std.specs.Prelude.{◌≡◌, ℕ, ◌+◌, ◌-◌, ◌<◌, Bool, true, false, ◌==◌, not, List, [], ◌∷◌, take, drop, slice_index, Option, Some}
use Rattle.std.specs.Prelude.{None, option_map}
use Rattle.std.specs.List.{prefix_len}
use Rattle.std.specs.Str.{IsCharBoundary}
use Rattle.css_tokens.specs.declared.token.Token.{Token}
use Rattle.css_tokens.specs.declared.token.TokenKind.{TokenKind}
use Rattle.css_tokens.specs.declared.token.TokenKind.TheVariants as tokens
use Rattle.css_tokens.specs.Pieces.{pieces}
use Rattle.selectors.specs.declared.words.Word.{Word}
use Rattle.selectors.specs.declared.words.WordKind.{WordKind}
use Rattle.selectors.specs.declared.words.WordKind.TheVariants.{Ident, Function, Str, Id, AtKeyword, Mark, Cdo, Cdc, Bad, Other}

-- the kind of a word, of which c is the first code: an id is a hash with its flag, a mark a character of its own
abbrev pub word_kind : TokenKind → ℕ → WordKind
word_kind tokens.Ident c = Ident
word_kind tokens.Function c = Function
word_kind tokens.Str c = Str
word_kind (tokens.Hash true) c = Id
word_kind tokens.AtKeyword c = AtKeyword
word_kind tokens.Colon c = Mark c
word_kind tokens.Semicolon c = Mark c
word_kind tokens.Comma c = Mark c
word_kind tokens.OpenSquare c = Mark c
word_kind tokens.CloseSquare c = Mark c
word_kind tokens.OpenRound c = Mark c
word_kind tokens.CloseRound c = Mark c
word_kind tokens.OpenCurly c = Mark c
word_kind tokens.CloseCurly c = Mark c
word_kind tokens.Delim c = Mark c
word_kind tokens.Cdo c = Cdo
word_kind tokens.Cdc c = Cdc
word_kind tokens.BadString c = Bad
word_kind tokens.BadUrl c = Bad
word_kind _ c = Other

-- a piece as a word, with whether white space stands before it
abbrev pub word_of : List ℕ → Bool → Token → Word
word_of text spaced t = record { kind = word_kind t.kind (slice_index text t.start); start = t.start; end = t.end; spaced = spaced }

-- Where a piece is passed over: whether what follows it is spaced, if the piece itself is. Any other piece is a word.
abbrev pub passed_over : TokenKind → Bool → Option Bool
passed_over tokens.Comment spaced = Some spaced
passed_over tokens.WhiteSpace spaced = Some true
passed_over _ spaced = None

-- the words from a piece on: the word w in front unless the piece is passed over, then those that follow
abbrev pub words_by : Option Bool → Word → (Bool → List Word) → List Word
words_by None w more = w ∷ more false
words_by (Some spaced) w more = more spaced

-- the words of these pieces, the first with white space before it or not
unfoldable pub words_after : List ℕ → Bool → List Token → List Word
words_after text spaced [] = []
words_after text spaced (t ∷ ts) = words_by (passed_over t.kind spaced) (word_of text spaced t) (λ s. words_after text s ts)

-- the words of a whole text
abbrev pub words_of : List ℕ → List Word
words_of text = words_after text false (pieces text)

-- a mark stands in front that the word's value lacks: `#` or a quote
abbrev pub opens_word : WordKind → Bool
opens_word Id = true
opens_word Str = true
opens_word _ = false

-- a function ends in `(`, a string in its quote unless the text ends before
abbrev pub closes : List ℕ → Word → WordKind → Bool
closes text w Function = true
closes text w Str = slice_index text (w.end - 1) == slice_index text w.start
closes text w _ = false

-- the text may be cut at the word's ends, and inside its marks
pub record IsWordOf (text : List ℕ) (w : Word) : Type 0 where
  pub some : w.start < w.end
  pub front : IsCharBoundary text w.start
  pub back : IsCharBoundary text w.end
  pub opened : opens_word w.kind ≡ true → IsCharBoundary text (w.start + 1)
  pub closed : closes text w w.kind ≡ true → IsCharBoundary text (w.end - 1)

-- a text, and those of its words that are still to come
pub record WordReading : Type 0 where
  pub text : List ℕ
  pub words : List Word

-- the reading of this text with these words still to come
abbrev pub word_reading : List ℕ → List Word → WordReading
word_reading text words = record { text = text; words = words }

-- the first of these words and the reading behind it, if there is a word
abbrev pub first_word_of : List ℕ → List Word → Option (Word × WordReading)
first_word_of text [] = None
first_word_of text (w ∷ ws) = Some (w, word_reading text ws)

-- the next word and the reading behind it, if there is one
abbrev pub next_word : WordReading → Option (Word × WordReading)
next_word r = first_word_of r.text r.words

-- the next word, if there is one
abbrev pub head : WordReading → Option Word
head r = option_map (λ x. x.0) (next_word r)

-- the text between two places, none where the second stands before the first
abbrev pub between : List ℕ → ℕ → ℕ → List ℕ
between text start end = take (end - start) (drop start text)

-- the kind is the mark with this code
abbrev pub is_mark : ℕ → WordKind → Bool
is_mark c (Mark d) = d == c
is_mark c _ = false

-- the word is not a comma
abbrev pub is_no_comma : Word → Bool
is_no_comma w = not (is_mark 44 w.kind)

-- up to the first comma, and from it on
abbrev pub before_comma : List Word → List Word
before_comma ws = take (prefix_len is_no_comma ws) ws

-- the words from the first comma on; no words where there is no comma
abbrev pub from_comma : List Word → List Word
from_comma ws = drop (prefix_len is_no_comma ws) ws
