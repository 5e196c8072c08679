-- The table of pieces as it is written (CSS Syntax 3, 4.3): the form of each row as a relation between a piece and what
-- follows it, apart from any order of reading.
use Rattle.std.specs.Prelude.{◌≡◌, ◌⊎◌, ℕ, ◌<◌, ◌≤◌, true, false, ◌==◌, ◌&&◌, ◌||◌, List, [], ◌∷◌, ◌++◌, length, map}
use Rattle.std.specs.List.{list_all}
use Rattle.std.specs.Char.{is_ascii_digit, is_ascii_hexdigit, to_ascii_lowercase}
use Rattle.css_tokens.specs.declared.token.TokenKind.{TokenKind}
use Rattle.css_tokens.specs.declared.token.TokenKind.TheVariants.{Comment, WhiteSpace, Str, BadString, Hash, Number, Percentage, Dimension}
use Rattle.css_tokens.specs.declared.token.TokenKind.TheVariants.{Cdc, Ident, Function, Url, BadUrl, Cdo, AtKeyword}
use Rattle.css_tokens.specs.Codes.{is_newline, is_white, is_ident, is_quote, begins}
use Rattle.css_tokens.specs.Escapes.{begins_escape, unescaped}
use Rattle.css_tokens.specs.Runs.{starts_ident, ends_url}
use Rattle.css_tokens.specs.Rows.{mark_kind}

-- a newline: CR LF counts as one
pub data IsNewline : List ℕ → List ℕ → Type 0 where
  line_crlf : {rest : List ℕ} → IsNewline (13 ∷ 10 ∷ []) rest
  line_code : {c : ℕ} {rest : List ℕ} → is_newline c ≡ true → (c == 13 && begins (λ d. d == 10) rest) ≡ false → IsNewline (c ∷ []) rest

-- the white space that an escape takes: one where there is one, and CR LF counts as one
pub data IsOneWhite : List ℕ → List ℕ → Type 0 where
  white_none : {rest : List ℕ} → begins is_white rest ≡ false → IsOneWhite [] rest
  white_crlf : {rest : List ℕ} → IsOneWhite (13 ∷ 10 ∷ []) rest
  white_code : {c : ℕ} {rest : List ℕ} → is_white c ≡ true → (c == 13 && begins (λ d. d == 10) rest) ≡ false → IsOneWhite (c ∷ []) rest

-- hex digits: one to six, and as many as there are
pub record AreHexDigits (digits rest : List ℕ) : Type 0 where
  pub some : 0 < length digits
  pub at_most_six : length digits ≤ 6
  pub hex : list_all is_ascii_hexdigit digits ≡ true
  pub all : length digits < 6 → begins is_ascii_hexdigit rest ≡ false

-- an escape: `\` and hex digits and at most one white space; or `\` and one other code but a newline; or `\` at the text's end
pub data IsEscape : List ℕ → List ℕ → Type 0 where
  escape_hex : {escape rest : List ℕ} (digits white : List ℕ) → escape ≡ 92 ∷ (digits ++ white) → AreHexDigits digits (white ++ rest)
      → IsOneWhite white rest → IsEscape escape rest
  escape_code : {c : ℕ} {rest : List ℕ} → is_ascii_hexdigit c ≡ false → is_newline c ≡ false → IsEscape (92 ∷ c ∷ []) rest
  escape_end : IsEscape (92 ∷ []) []

-- a text cut into units of form U, where U takes a unit and what follows it
pub data Units (U : List ℕ → List ℕ → Type 0) : List ℕ → List ℕ → Type 0 where
  no_units : {rest : List ℕ} → Units U [] rest
  unit_and : {first others all rest : List ℕ} → all ≡ first ++ others → U first (others ++ rest) → Units U others rest → Units U all rest

-- no unit of form U stands at the front
abbrev pub NoUnit : (List ℕ → List ℕ → Type 0) → List ℕ → Type 0
NoUnit U text = (unit rest : List ℕ) → text ≡ unit ++ rest → U unit rest → ⊥

-- a maximal run of units
pub record IsRun (U : List ℕ → List ℕ → Type 0) (piece rest : List ℕ) : Type 0 where
  pub units : Units U piece rest
  pub maximal : NoUnit U rest

-- an ident character, or an escape
pub data NameUnit : List ℕ → List ℕ → Type 0 where
  name_code : {c : ℕ} {rest : List ℕ} → is_ident c ≡ true → NameUnit (c ∷ []) rest
  name_escape : {unit rest : List ℕ} → IsEscape unit rest → NameUnit unit rest

-- a name: a maximal run of ident characters and escapes
abbrev pub IsName : List ℕ → List ℕ → Type 0
IsName = IsRun NameUnit

-- a maximal run of white space, empty or not
abbrev pub IsWhiteRun : List ℕ → List ℕ → Type 0
IsWhiteRun piece rest = (list_all is_white piece ≡ true) × (begins is_white rest ≡ false)

-- a closing mark, or nothing at the text's end
abbrev pub ClosesWith : List ℕ → List ℕ → List ℕ → Type 0
ClosesWith mark close rest = (close ≡ mark) ⊎ ((close ≡ []) × (rest ≡ []))

-- a code at which no `*/` begins
pub data CommentUnit : List ℕ → List ℕ → Type 0 where
  comment_code : {c : ℕ} {rest : List ℕ} → (c == 42 && begins (λ d. d == 47) rest) ≡ false → CommentUnit (c ∷ []) rest

-- `/*` up to and with the next `*/`, or to the text's end
pub record CommentForm (kind : TokenKind) (piece rest : List ℕ) : Type 0 where
  pub named : kind ≡ Comment
  pub body : List ℕ
  pub close : List ℕ
  pub is : piece ≡ 47 ∷ 42 ∷ (body ++ close)
  pub units : Units CommentUnit body (close ++ rest)
  pub closed : ClosesWith (42 ∷ 47 ∷ []) close rest

-- a maximal run
pub record WhiteSpaceForm (kind : TokenKind) (piece rest : List ℕ) : Type 0 where
  pub named : kind ≡ WhiteSpace
  pub some : 0 < length piece
  pub run : IsWhiteRun piece rest

-- in a string: a character, an escape, or `\` with a newline
pub data StringUnit (quote : ℕ) : List ℕ → List ℕ → Type 0 where
  string_code : {c : ℕ} {rest : List ℕ} → (c == quote || is_newline c) ≡ false → (c == 92) ≡ false → StringUnit quote (c ∷ []) rest
  string_escape : {unit rest : List ℕ} → IsEscape unit rest → StringUnit quote unit rest
  string_line : {unit rest : List ℕ} (line : List ℕ) → unit ≡ 92 ∷ line → IsNewline line rest → StringUnit quote unit rest

-- a quote, what may stand in the string, and the same quote, or nothing at the text's end
pub record StringForm (kind : TokenKind) (piece rest : List ℕ) : Type 0 where
  pub named : kind ≡ Str
  pub quote : ℕ
  pub body : List ℕ
  pub close : List ℕ
  pub a_quote : is_quote quote ≡ true
  pub is : piece ≡ quote ∷ (body ++ close)
  pub units : Units (StringUnit quote) body (close ++ rest)
  pub closed : ClosesWith (quote ∷ []) close rest

-- a string ended before a newline that no `\` precedes
pub record BadStringForm (kind : TokenKind) (piece rest : List ℕ) : Type 0 where
  pub named : kind ≡ BadString
  pub quote : ℕ
  pub body : List ℕ
  pub a_quote : is_quote quote ≡ true
  pub is : piece ≡ quote ∷ body
  pub units : Units (StringUnit quote) body rest
  pub line : begins is_newline rest ≡ true

-- `#` and a name, where an ident character or an escape follows; the flag says whether what follows starts an ident
pub record HashForm (kind : TokenKind) (piece rest : List ℕ) : Type 0 where
  pub name : List ℕ
  pub named : kind ≡ Hash (starts_ident (name ++ rest))
  pub is : piece ≡ 35 ∷ name
  pub some : 0 < length name
  pub a_name : IsName name rest

-- digits, at least one
abbrev pub AreDigits : List ℕ → Type 0
AreDigits digits = (0 < length digits) × (list_all is_ascii_digit digits ≡ true)

-- digits, or digits with `.` and digits, or `.` and digits
pub data IsDecimal : List ℕ → Type 0 where
  decimal_whole : {digits : List ℕ} → AreDigits digits → IsDecimal digits
  decimal_fraction : {all : List ℕ} (whole digits : List ℕ) → list_all is_ascii_digit whole ≡ true → AreDigits digits
      → all ≡ whole ++ 46 ∷ digits → IsDecimal all

-- an optional sign
pub data IsSign : List ℕ → Type 0 where
  sign_none : IsSign []
  sign_plus : IsSign (43 ∷ [])
  sign_minus : IsSign (45 ∷ [])

-- `e` or `E`, an optional sign, digits; or nothing
pub data IsExponent : List ℕ → Type 0 where
  exponent_none : IsExponent []
  exponent_some : {all : List ℕ} (mark : ℕ) (sign digits : List ℕ) → (mark == 69 || mark == 101) ≡ true → IsSign sign → AreDigits digits
      → all ≡ mark ∷ (sign ++ digits) → IsExponent all

-- what a number is
pub record IsNumber (number : List ℕ) : Type 0 where
  pub sign : List ℕ
  pub decimal : List ℕ
  pub exponent : List ℕ
  pub is : number ≡ sign ++ (decimal ++ exponent)
  pub a_sign : IsSign sign
  pub a_decimal : IsDecimal decimal
  pub an_exponent : IsExponent exponent

-- the longest number at the front of a text
pub record IsLongestNumber (number rest : List ℕ) : Type 0 where
  pub form : IsNumber number
  pub longest : (other others : List ℕ) → number ++ rest ≡ other ++ others → IsNumber other → length other ≤ length number

-- a number; with `%` after it; with a name after it, where what follows starts an ident
pub data NumericForm : TokenKind → List ℕ → List ℕ → Type 0 where
  a_percentage : {piece rest : List ℕ} (number : List ℕ) → IsLongestNumber number (37 ∷ rest) → piece ≡ number ++ 37 ∷ []
      → NumericForm Percentage piece rest
  a_dimension : {piece rest : List ℕ} (number name : List ℕ) → IsLongestNumber number (name ++ rest) → piece ≡ number ++ name
      → starts_ident (name ++ rest) ≡ true → IsName name rest → NumericForm Dimension piece rest
  a_number : {piece rest : List ℕ} → IsLongestNumber piece rest → begins (λ c. c == 37) rest ≡ false → starts_ident rest ≡ false
      → NumericForm Number piece rest

-- `-->`
pub record CdcForm (kind : TokenKind) (piece rest : List ℕ) : Type 0 where
  pub named : kind ≡ Cdc
  pub is : piece ≡ 45 ∷ 45 ∷ 62 ∷ []

-- in a url: a character that ends none, or an escape
pub data UrlUnit : List ℕ → List ℕ → Type 0 where
  url_code : {c : ℕ} {rest : List ℕ} → ends_url c ≡ false → (c == 92) ≡ false → UrlUnit (c ∷ []) rest
  url_escape : {unit rest : List ℕ} → IsEscape unit rest → UrlUnit unit rest

-- the name `url` in any case, `(`, white space, characters and escapes, white space: as much as there is, and no quote behind the first
-- white space
pub record OpensUrl (front rest : List ℕ) : Type 0 where
  pub name : List ℕ
  pub before : List ℕ
  pub body : List ℕ
  pub after : List ℕ
  pub is : front ≡ name ++ 40 ∷ (before ++ (body ++ after))
  pub a_name : IsName name (40 ∷ (before ++ (body ++ (after ++ rest))))
  pub url : map to_ascii_lowercase (unescaped name) ≡ 117 ∷ 114 ∷ 108 ∷ []
  pub first_white : IsWhiteRun before (body ++ (after ++ rest))
  pub no_quote : begins is_quote (body ++ (after ++ rest)) ≡ false
  pub units : IsRun UrlUnit body (after ++ rest)
  pub last_white : IsWhiteRun after rest

-- that, and `)` or the text's end
pub record UrlForm (kind : TokenKind) (piece rest : List ℕ) : Type 0 where
  pub named : kind ≡ Url
  pub front : List ℕ
  pub close : List ℕ
  pub is : piece ≡ front ++ close
  pub opens : OpensUrl front (close ++ rest)
  pub closed : ClosesWith (41 ∷ []) close rest

-- in a bad-url: an escape, or any other code but `)`
pub data BadUrlUnit : List ℕ → List ℕ → Type 0 where
  bad_code : {c : ℕ} {rest : List ℕ} → (c == 41) ≡ false → begins_escape (c ∷ rest) ≡ false → BadUrlUnit (c ∷ []) rest
  bad_escape : {unit rest : List ℕ} → IsEscape unit rest → BadUrlUnit unit rest

-- what opens as a url and goes on with neither `)` nor the text's end, up to and with the next `)` outside escapes, or to the text's end
pub record BadUrlForm (kind : TokenKind) (piece rest : List ℕ) : Type 0 where
  pub named : kind ≡ BadUrl
  pub front : List ℕ
  pub body : List ℕ
  pub close : List ℕ
  pub is : piece ≡ front ++ (body ++ close)
  pub opens : OpensUrl front (body ++ (close ++ rest))
  pub some : 0 < length body
  pub units : Units BadUrlUnit body (close ++ rest)
  pub closed : ClosesWith (41 ∷ []) close rest

-- a name where the text starts an ident; with `(` after it a function
pub record IdentForm (kind : TokenKind) (piece rest : List ℕ) : Type 0 where
  pub name : List ℕ
  pub close : List ℕ
  pub is : piece ≡ name ++ close
  pub starts : starts_ident (name ++ (close ++ rest)) ≡ true
  pub a_name : IsName name (close ++ rest)
  pub kinds : ((kind ≡ Function) × (close ≡ 40 ∷ [])) ⊎ ((kind ≡ Ident) × (close ≡ []) × (begins (λ c. c == 40) rest ≡ false))

-- `<!--`
pub record CdoForm (kind : TokenKind) (piece rest : List ℕ) : Type 0 where
  pub named : kind ≡ Cdo
  pub is : piece ≡ 60 ∷ 33 ∷ 45 ∷ 45 ∷ []

-- `@` and a name, where what follows starts an ident
pub record AtKeywordForm (kind : TokenKind) (piece rest : List ℕ) : Type 0 where
  pub named : kind ≡ AtKeyword
  pub name : List ℕ
  pub is : piece ≡ 64 ∷ name
  pub starts : starts_ident (name ++ rest) ≡ true
  pub a_name : IsName name rest

-- colon, semicolon, comma, a bracket, or any other character
pub record MarkForm (kind : TokenKind) (piece rest : List ℕ) : Type 0 where
  pub character : ℕ
  pub is : piece ≡ character ∷ []
  pub named : kind ≡ mark_kind character
