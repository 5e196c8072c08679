-- The rows of the table in their order, and what the pieces of a text are by it.
use Rattle.std.specs.Prelude.{◌≡◌, ℕ, ◌-◌, ◌<◌, ◌≤◌, List, [], ◌∷◌, ◌++◌, length, drop, Option, Some, IsSome}
use Rattle.css_tokens.specs.declared.token.TokenKind.{TokenKind}
use Rattle.css_tokens.specs.declared.token.Token.{Token}
use Rattle.css_tokens.specs.declared.token.Piece.{Piece}
use Rattle.css_tokens.specs.Rows.{piece, comment, white_space, string, bad_string, hash, numeric, cdc, url, bad_url, ident, cdo, at_keyword}
use Rattle.css_tokens.specs.Rows.{mark}
use Rattle.css_tokens.specs.Forms.{CommentForm, WhiteSpaceForm, StringForm, BadStringForm, HashForm, NumericForm, CdcForm, UrlForm}
use Rattle.css_tokens.specs.Forms.{BadUrlForm, IdentForm, CdoForm, AtKeywordForm, MarkForm}

-- the rows of the table of pieces, in its order
pub data PieceRow : Type 0 where
  comment_row : PieceRow
  white_space_row : PieceRow
  string_row : PieceRow
  bad_string_row : PieceRow
  hash_row : PieceRow
  numeric_row : PieceRow
  cdc_row : PieceRow
  url_row : PieceRow
  bad_url_row : PieceRow
  ident_row : PieceRow
  cdo_row : PieceRow
  at_keyword_row : PieceRow
  mark_row : PieceRow

-- the rows in their order: those of url and bad-url take precedence over that of ident and function
abbrev pub table : List PieceRow
table =
    comment_row ∷ white_space_row ∷ string_row ∷ bad_string_row ∷ hash_row ∷ numeric_row ∷ cdc_row
    ∷ url_row ∷ bad_url_row ∷ ident_row ∷ cdo_row ∷ at_keyword_row ∷ mark_row ∷ []

-- the form of a row: a kind, a piece of that kind, and what follows it
abbrev pub FormOf : PieceRow → TokenKind → List ℕ → List ℕ → Type 0
FormOf comment_row = CommentForm
FormOf white_space_row = WhiteSpaceForm
FormOf string_row = StringForm
FormOf bad_string_row = BadStringForm
FormOf hash_row = HashForm
FormOf numeric_row = NumericForm
FormOf cdc_row = CdcForm
FormOf url_row = UrlForm
FormOf bad_url_row = BadUrlForm
FormOf ident_row = IdentForm
FormOf cdo_row = CdoForm
FormOf at_keyword_row = AtKeywordForm
FormOf mark_row = MarkForm

-- the function that computes a row
abbrev pub row_of : PieceRow → List ℕ → Option Piece
row_of comment_row = comment
row_of white_space_row = white_space
row_of string_row = string
row_of bad_string_row = bad_string
row_of hash_row = hash
row_of numeric_row = numeric
row_of cdc_row = cdc
row_of url_row = url
row_of bad_url_row = bad_url
row_of ident_row = ident
row_of cdo_row = cdo
row_of at_keyword_row = at_keyword
row_of mark_row = mark

-- the text begins with a piece of a form, and with no longer one
pub record IsLongest (Form : TokenKind → List ℕ → List ℕ → Type 0) (text : List ℕ) (p : Piece) : Type 0 where
  pub front : List ℕ
  pub rest : List ℕ
  pub is : text ≡ front ++ rest
  pub len : p.len ≡ length front
  pub form : Form p.kind front rest
  pub longest : (kind : TokenKind) (other others : List ℕ) → text ≡ other ++ others → Form kind other others → length other ≤ p.len

-- the text begins with no piece of a form
abbrev pub HasNone : (TokenKind → List ℕ → List ℕ → Type 0) → List ℕ → Type 0
HasNone Form text = (kind : TokenKind) (front rest : List ℕ) → text ≡ front ++ rest → Form kind front rest → ⊥

-- a function gives the longest piece of a form where there is one, and nothing where there is none
pub record GivesLongest (Form : TokenKind → List ℕ → List ℕ → Type 0) (row : List ℕ → Option Piece) : Type 0 where
  pub longest : (text : List ℕ) (p : Piece) → row text ≡ Some p → IsLongest Form text p
  pub where_any : (text front rest : List ℕ) (kind : TokenKind) → text ≡ front ++ rest → Form kind front rest → IsSome (row text)

-- none of the rows has a piece at the head of the text
abbrev pub NoneOf : List PieceRow → List ℕ → Type 0
NoneOf [] text = Unit {0}
NoneOf (row ∷ rows) text = HasNone (FormOf row) text × NoneOf rows text

-- the piece of a text: the longest piece of the first row that has one
pub record IsFirstPiece (text : List ℕ) (p : Piece) : Type 0 where
  pub earlier : List PieceRow
  pub row : PieceRow
  pub later : List PieceRow
  pub order : table ≡ earlier ++ row ∷ later
  pub none_earlier : NoneOf earlier text
  pub longest : IsLongest (FormOf row) text p

-- tokens cut a text from a place to its end, one behind the other, each the first piece of the text from its start on
abbrev pub Cuts : List ℕ → ℕ → List Token → Type 0
Cuts text place [] = place ≡ length text
Cuts text place (t ∷ ts) = (t.start ≡ place) × (t.start < t.end) × IsFirstPiece (drop place text) (piece t.kind (t.end - t.start))
    × Cuts text t.end ts
