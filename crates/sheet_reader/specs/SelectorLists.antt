-- Pieces of a text that are a selector list by the grammar of Selectors 3, where they stand: the whole text need not be one.
use Rattle.std.specs.Prelude.{◌≡◌, ℕ, Bool, true, false, List, [], ◌∷◌, ◌++◌}
use Rattle.std.specs.List.{AllByRecursion}
use Rattle.css_tokens.specs.declared.token.Token.{Token}
use Rattle.css_tokens.specs.declared.token.TokenKind.TheVariants.{Comment, WhiteSpace}
use Rattle.selectors.specs.declared.words.Word.{Word}
use Rattle.selectors.specs.declared.words.WordKind.TheVariants.{Mark}
use Rattle.selectors.specs.Words.{is_mark, word_of}
use Rattle.selectors.specs.Forms.{SelectorForm}
use Rattle.selectors.specs.Grammar.{IsSelector}
use Rattle.sheet_reader.specs.Lone.{is_blank_piece}

-- the words of these pieces: white space and comments are none, and each word knows whether white space stands before it
pub data AreWordsOf (text : List ℕ) : Bool → List Token → List Word → Type 0 where
  no_words : {spaced : Bool} → AreWordsOf text spaced [] []
  past_comment : {spaced : Bool} {ts : List Token} {ws : List Word} (t : Token)
      → t.kind ≡ Comment → AreWordsOf text spaced ts ws → AreWordsOf text spaced (t ∷ ts) ws
  past_white : {spaced : Bool} {ts : List Token} {ws : List Word} (t : Token)
      → t.kind ≡ WhiteSpace → AreWordsOf text true ts ws → AreWordsOf text spaced (t ∷ ts) ws
  word_and : {spaced : Bool} {ts : List Token} {ws : List Word} (t : Token)
      → is_blank_piece t ≡ false → AreWordsOf text false ts ws → AreWordsOf text spaced (t ∷ ts) (word_of text spaced t ∷ ws)

-- no comma is among them
abbrev pub HasNoComma : List Word → Type 0
HasNoComma ws = AllByRecursion (λ w. is_mark 44 w.kind ≡ false) ws

-- one or more selectors with commas between
pub data AreListed (text : List ℕ) : List Word → List SelectorForm → Type 0 where
  last_listed : {own : List Word} (s : SelectorForm) → HasNoComma own → IsSelector text own s → AreListed text own (s ∷ [])
  comma_and : {all : List Word} {ss : List SelectorForm} (own : List Word) (comma : Word) (others : List Word) (s : SelectorForm)
      → all ≡ own ++ comma ∷ others → HasNoComma own → IsSelector text own s → comma.kind ≡ Mark 44
      → AreListed text others ss → AreListed text all (s ∷ ss)

-- these pieces of a text are this selector list
pub record AreSelectorList (text : List ℕ) (ts : List Token) (ss : List SelectorForm) : Type 0 where
  pub words : List Word
  pub are_words : AreWordsOf text false ts words
  pub listed : AreListed text words ss
