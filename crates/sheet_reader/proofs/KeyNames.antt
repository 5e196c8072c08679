-- An at-keyword before other codes than those that it stood before: it stays, or takes a space that ends its last escape.
use Rattle.std.proofs.Common.{◌≡◌, inl, inr, ℕ, ◌+◌, ◌<◌, ◌≤◌, ◌==◌, Bool, true, false, cond, ◌&&◌, ◌||◌, not, List, [], ◌∷◌, ◌++◌, map}
use Rattle.std.proofs.Common.{length, take, drop, Some, refl, sym, ap, subst, ◌∙◌, append_assoc, append-nil, arith}
use Rattle.std.specs.Prelude.{codes}
use Rattle.std.specs.List.{list_all}
use Rattle.std.specs.Char.{is_ascii_hexdigit, to_ascii_lowercase, encode_utf8}
use Rattle.std.specs.Str.{bytes_eq}
use Rattle.std.proofs.lemmas.Bool.{eqb-true}
use Rattle.std.proofs.Math.Seq.{take-append_seam, drop-append_seam}
use Rattle.css_tokens.specs.declared.token.TokenKind.{TokenKind}
use Rattle.css_tokens.specs.declared.token.TokenKind.TheVariants.{AtKeyword}
use Rattle.css_tokens.specs.declared.token.TokenKind.TheVariants as tokens
use Rattle.css_tokens.specs.Codes.{begins, is_newline, is_ident, is_ident_start}
use Rattle.css_tokens.specs.Escapes.{escape_len, escape_tail, escape_value, escape_bytes, begins_escape, hex_len, hex_value, character_of}
use Rattle.css_tokens.specs.Escapes.{unescaped, unescaped_after}
use Rattle.css_tokens.specs.Runs.{number_len, name_unit, name_len, starts_ident}
use Rattle.css_tokens.specs.Rows.{piece, first_piece, mark_kind, comment, white_space, string, bad_string, hash, numeric, cdc, url, bad_url}
use Rattle.css_tokens.specs.Rows.{opens_url, ident, cdo, at_keyword, mark}
use Rattle.css_tokens.specs.Forms.{AreHexDigits, IsOneWhite, white_none, white_crlf, white_code, IsEscape, escape_hex, escape_code}
use Rattle.css_tokens.specs.Forms.{Units, no_units, unit_and, NameUnit, name_code, name_escape, AtKeywordForm}
use Rattle.css_tokens.specs.Forms.{a_percentage, a_dimension, a_number}
use Rattle.css_tokens.specs.Table.{PieceRow, comment_row, white_space_row, string_row, bad_string_row, hash_row, numeric_row, cdc_row}
use Rattle.css_tokens.specs.Table.{url_row, bad_url_row, ident_row, cdo_row, at_keyword_row, mark_row, FormOf}
use Rattle.css_tokens.proofs.EscapeForms.{hex_exact, escape_only}
use Rattle.css_tokens.proofs.RunForms.{units_run}
use Rattle.css_tokens.proofs.TableForms.{first_is_first}
use Rattle.css_tokens.proofs.Unescaping.{escape}
use Rattle.css_tokens.proofs.UnitForms.{name_law}
use Rattle.sheet_reader.specs.Grammar.{is_at_keyword}

-- ---- the row of at-keywords

-- a predicate that holds of none of the kinds of marks
pub mark_not : (p : TokenKind → Bool) → p tokens.Colon ≡ false → p tokens.Semicolon ≡ false → p tokens.Comma ≡ false
    → p tokens.OpenSquare ≡ false
    → p tokens.CloseSquare ≡ false → p tokens.OpenRound ≡ false → p tokens.CloseRound ≡ false → p tokens.OpenCurly ≡ false
    → p tokens.CloseCurly ≡ false → p tokens.Delim ≡ false → (c : ℕ) → p (mark_kind c) ≡ false
mark_not p e1 e2 e3 e4 e5 e6 e7 e8 e9 e0 c =
    by (c == 58) (c == 59) (c == 44) (c == 91) (c == 93) (c == 40) (c == 41) (c == 123) (c == 125)
  where
    by : (b1 b2 b3 b4 b5 b6 b7 b8 b9 : Bool)
        → p (cond b1 tokens.Colon (cond b2 tokens.Semicolon (cond b3 tokens.Comma (cond b4 tokens.OpenSquare
        (cond b5 tokens.CloseSquare (cond b6 tokens.OpenRound (cond b7 tokens.CloseRound (cond b8 tokens.OpenCurly
        (cond b9 tokens.CloseCurly tokens.Delim))))))))) ≡ false
    by true b2 b3 b4 b5 b6 b7 b8 b9 = e1
    by false true b3 b4 b5 b6 b7 b8 b9 = e2
    by false false true b4 b5 b6 b7 b8 b9 = e3
    by false false false true b5 b6 b7 b8 b9 = e4
    by false false false false true b6 b7 b8 b9 = e5
    by false false false false false true b7 b8 b9 = e6
    by false false false false false false true b8 b9 = e7
    by false false false false false false false true b9 = e8
    by false false false false false false false false true = e9
    by false false false false false false false false false = e0

pub kind_clash : (p : TokenKind → Bool) (k named : TokenKind) → k ≡ named → p named ≡ false → p k ≡ true → ⊥
kind_clash p k named e a b = clash (p k) b (ap p e ∙ a)
  where
    clash : (b : Bool) → b ≡ true → b ≡ false → ⊥
    clash true e g = cc
    clash false e g = cc

at_row : (row : PieceRow) (k : TokenKind) (front rest : List ℕ) → is_at_keyword k ≡ true → FormOf row k front rest
    → AtKeywordForm k front rest
at_row at_keyword_row k front rest e f = f
at_row comment_row k front rest e f = absurd (kind_clash is_at_keyword k _ f.named refl e)
at_row white_space_row k front rest e f = absurd (kind_clash is_at_keyword k _ f.named refl e)
at_row string_row k front rest e f = absurd (kind_clash is_at_keyword k _ f.named refl e)
at_row bad_string_row k front rest e f = absurd (kind_clash is_at_keyword k _ f.named refl e)
at_row hash_row k front rest e f = absurd (kind_clash is_at_keyword k _ f.named refl e)
at_row numeric_row k front rest e (a_percentage number l is) = cc
at_row numeric_row k front rest e (a_dimension number name l is s n) = cc
at_row numeric_row k front rest e (a_number l a b) = cc
at_row cdc_row k front rest e f = absurd (kind_clash is_at_keyword k _ f.named refl e)
at_row url_row k front rest e f = absurd (kind_clash is_at_keyword k _ f.named refl e)
at_row bad_url_row k front rest e f = absurd (kind_clash is_at_keyword k _ f.named refl e)
at_row ident_row k front rest e f =
    elim f.kinds [ inl a ↦ absurd (kind_clash is_at_keyword k _ a.0 refl e) | inr b ↦ absurd (kind_clash is_at_keyword k _ b.0 refl e) ]
at_row cdo_row k front rest e f = absurd (kind_clash is_at_keyword k _ f.named refl e)
at_row mark_row k front rest e f = absurd
    (kind_clash is_at_keyword k _ f.named (mark_not is_at_keyword refl refl refl refl refl refl refl refl refl refl f.character) e)

-- what begins with `@` and an ident start is an at-keyword
at_first : (x : List ℕ) → starts_ident x ≡ true → first_piece (64 ∷ x) ≡ Some (piece AtKeyword (1 + name_len x))
unfolding first_piece comment white_space string bad_string hash numeric number_len cdc url bad_url opens_url ident cdo at_keyword mark
    escape_len
at_first x e = rw e refl

-- ---- the units of a name before other codes

and_none : (b : Bool) → (b && false) ≡ false
and_none true = refl
and_none false = refl

-- an escape turns on the first code behind it alone
escape_front : (unit : List ℕ) (o : ℕ) (x y : List ℕ) → IsEscape unit (o ∷ x) → IsEscape unit (o ∷ y)
escape_front unit o x y (escape_hex digits _ is are (white_none none)) =
    escape_hex digits [] is (record { some = are.some; at_most_six = are.at_most_six; hex = are.hex; all = are.all }) (white_none none)
escape_front unit o x y (escape_hex digits _ is are white_crlf) =
    escape_hex digits (13 ∷ 10 ∷ []) is (record { some = are.some; at_most_six = are.at_most_six; hex = are.hex; all = are.all }) white_crlf
escape_front unit o x y (escape_hex digits _ is are (white_code {c = c} white single)) =
    escape_hex digits (c ∷ []) is (record { some = are.some; at_most_six = are.at_most_six; hex = are.hex; all = are.all })
    (white_code white single)
escape_front _ o x y (escape_code hex line) = escape_code hex line

pub unit_front : (unit : List ℕ) (o : ℕ) (x y : List ℕ) → NameUnit unit (o ∷ x) → NameUnit unit (o ∷ y)
unit_front _ o x y (name_code e) = name_code e
unit_front unit o x y (name_escape e) = name_escape (escape_front unit o x y e)

-- so do the units of a name
pub units_front : (name : List ℕ) (o : ℕ) (x y : List ℕ) → Units NameUnit name (o ∷ x) → Units NameUnit name (o ∷ y)
units_front _ o x y no_units = no_units
units_front name o x y (unit_and {first = first} {others = others} is unit more) =
    unit_and is (by others unit) (units_front others o x y more)
  where
    by : (others : List ℕ) → NameUnit first (others ++ o ∷ x) → NameUnit first (others ++ o ∷ y)
    by [] u = unit_front first o x y u
    by (p ∷ ps) u = unit_front first p (ps ++ o ∷ x) (ps ++ o ∷ y) u

-- ---- values

pub digits_bytes : (digits x : List ℕ) → 0 < length digits → length digits ≤ 6 → list_all is_ascii_hexdigit digits ≡ true
    → (length digits < 6 → begins is_ascii_hexdigit x ≡ false) → escape_bytes (digits ++ x) ≡ encode_utf8 (character_of (hex_value digits))
unfolding escape_bytes escape_value
digits_bytes [] x some few hex all = absurd (omega (arith, some))
digits_bytes (d ∷ digits) x some few hex all =
    let t = d ∷ (digits ++ x) in
    let first : is_ascii_hexdigit d ≡ true = by (is_ascii_hexdigit d) hex in
    let exact : hex_len t ≡ length (d ∷ digits) = hex_exact 6 (d ∷ digits) x few hex all in
    let taken : take (hex_len t) t ≡ d ∷ digits = ap (λ (n : ℕ). take n t) exact ∙ take-append_seam (d ∷ digits) x in
    λ i. cond (first i) (encode_utf8 (cond (first i) (character_of (hex_value (taken i))) d)) (d ∷ [])
  where
    by : (b : Bool) → (b && list_all is_ascii_hexdigit digits) ≡ true → b ≡ true
    by true e = refl
    by false e = cc

-- what stands behind an escape is replaced apart from it
pub escape_apart : (tail rest : List ℕ) → IsEscape (92 ∷ tail) rest
    → unescaped ((92 ∷ tail) ++ rest) ≡ escape_bytes (tail ++ rest) ++ unescaped rest
unfolding escape_len
escape_apart tail rest e =
    let o = escape_only (92 ∷ tail) rest e in
    let line : begins is_newline (tail ++ rest) ≡ false = by (begins is_newline (tail ++ rest)) o.begins in
    let size : escape_tail (tail ++ rest) ≡ length tail =
    sizes (begins is_newline (tail ++ rest)) line (escape_tail (tail ++ rest)) o.len in
    escape (tail ++ rest) line
    ∙ ap (λ (x : List ℕ). escape_bytes (tail ++ rest) ++ unescaped x)
    (ap (λ (n : ℕ). drop n (tail ++ rest)) size ∙ drop-append_seam tail rest)
  where
    by : (b : Bool) → not b ≡ true → b ≡ false
    by false e = refl
    by true e = cc

    sizes : (b : Bool) → b ≡ false → (n : ℕ) → cond (not b) (1 + n) 0 ≡ length (92 ∷ tail) → n ≡ length tail
    sizes false f n e = omega (arith, e)
    sizes true f n e = cc

-- the bytes of an escape turn on the escape alone
pub record SameBytes (unit x y : List ℕ) : Type 0 where
  pub bytes : List ℕ
  pub one : unescaped (unit ++ x) ≡ bytes ++ unescaped x
  pub two : unescaped (unit ++ y) ≡ bytes ++ unescaped y

hex_same : (digits white x y : List ℕ) → AreHexDigits digits (white ++ x) → IsOneWhite white x → AreHexDigits digits (white ++ y)
    → IsOneWhite white y → SameBytes (92 ∷ (digits ++ white)) x y
hex_same digits white x y are w also v = record {
  bytes = encode_utf8 (character_of (hex_value digits));
  one = escape_apart (digits ++ white) x (escape_hex digits white refl are w)
      ∙ ap (λ (b : List ℕ). b ++ unescaped x) (ap escape_bytes (append_assoc digits white x)
      ∙ digits_bytes digits (white ++ x) are.some are.at_most_six are.hex are.all);
  two = escape_apart (digits ++ white) y (escape_hex digits white refl also v)
      ∙ ap (λ (b : List ℕ). b ++ unescaped y) (ap escape_bytes (append_assoc digits white y)
      ∙ digits_bytes digits (white ++ y) also.some also.at_most_six also.hex also.all);
}

code_same : (c : ℕ) (x y : List ℕ) → is_ascii_hexdigit c ≡ false → is_newline c ≡ false → SameBytes (92 ∷ c ∷ []) x y
unfolding escape_bytes
code_same c x y hex line = record {
  bytes = c ∷ [];
  one = escape_apart (c ∷ []) x (escape_code hex line)
      ∙ ap (λ (b : Bool). cond b (encode_utf8 (escape_value (c ∷ x))) (c ∷ []) ++ unescaped x) hex;
  two = escape_apart (c ∷ []) y (escape_code hex line)
      ∙ ap (λ (b : Bool). cond b (encode_utf8 (escape_value (c ∷ y))) (c ∷ []) ++ unescaped y) hex;
}

escape_same : (unit : List ℕ) (o : ℕ) (x y : List ℕ) → IsEscape unit (o ∷ x) → SameBytes unit (o ∷ x) (o ∷ y)
escape_same unit o x y (escape_hex digits _ is are (white_none none)) =
    subst (λ (u : List ℕ). SameBytes u (o ∷ x) (o ∷ y)) (sym is)
    (hex_same digits [] (o ∷ x) (o ∷ y) are (white_none none)
    (record { some = are.some; at_most_six = are.at_most_six; hex = are.hex; all = are.all }) (white_none none))
escape_same unit o x y (escape_hex digits _ is are white_crlf) =
    subst (λ (u : List ℕ). SameBytes u (o ∷ x) (o ∷ y)) (sym is)
    (hex_same digits (13 ∷ 10 ∷ []) (o ∷ x) (o ∷ y) are white_crlf
    (record { some = are.some; at_most_six = are.at_most_six; hex = are.hex; all = are.all }) white_crlf)
escape_same unit o x y (escape_hex digits _ is are (white_code {c = c} white single)) =
    subst (λ (u : List ℕ). SameBytes u (o ∷ x) (o ∷ y)) (sym is)
    (hex_same digits (c ∷ []) (o ∷ x) (o ∷ y) are (white_code white single)
    (record { some = are.some; at_most_six = are.at_most_six; hex = are.hex; all = are.all }) (white_code white single))
escape_same _ o x y (escape_code {c = c} hex line) = code_same c (o ∷ x) (o ∷ y) hex line

no_back : (c : ℕ) → is_ident c ≡ true → (c == 92) ≡ false
no_back c e = by (c == 92) refl
  where
    wrong : is_ident 92 ≡ true → ⊥
    wrong h = cc

    by : (b : Bool) → (c == 92) ≡ b → (c == 92) ≡ false
    by false h = h
    by true h = absurd (wrong (sym (ap is_ident (eqb-true c 92 h)) ∙ e))

plain_code : (c : ℕ) (x : List ℕ) → (c == 92) ≡ false → unescaped (c ∷ x) ≡ c ∷ unescaped x
unfolding unescaped_after
plain_code c x e = rw e refl

pub unit_same : (unit : List ℕ) (o : ℕ) (x y : List ℕ) → NameUnit unit (o ∷ x) → SameBytes unit (o ∷ x) (o ∷ y)
unit_same _ o x y (name_code {c = c} e) = record {
  bytes = c ∷ [];
  one = plain_code c (o ∷ x) (no_back c e);
  two = plain_code c (o ∷ y) (no_back c e);
}
unit_same unit o x y (name_escape e) = escape_same unit o x y e

-- ---- a name before a space

-- a name ends before a space, whatever stands behind that; or takes it, as the end of its last escape, and says the same
pub data Moves (name : List ℕ) : Type 0 where
  stays : ((x : List ℕ) → Units NameUnit name (32 ∷ x)) → Moves name
  grows : ((x : List ℕ) → Units NameUnit (name ++ 32 ∷ []) x) → unescaped (name ++ 32 ∷ []) ≡ unescaped name → Moves name

last_hex : (unit digits : List ℕ) → unit ≡ 92 ∷ (digits ++ []) → 0 < length digits → length digits ≤ 6
    → list_all is_ascii_hexdigit digits ≡ true → Moves unit
last_hex unit digits is some few hex = subst Moves (sym (is ∙ ap (λ (x : List ℕ). 92 ∷ x) (append-nil digits)))
    (grows (λ x. unit_and (sym (append-nil ((92 ∷ digits) ++ 32 ∷ []))) (name_escape (with_space x)) no_units) value)
  where
    with_space : (x : List ℕ) → IsEscape (92 ∷ (digits ++ 32 ∷ [])) x
    with_space x = escape_hex digits (32 ∷ []) refl
        (record { some = some; at_most_six = few; hex = hex; all = λ less. refl }) (white_code refl refl)

    bare : IsEscape (92 ∷ digits) []
    bare = escape_hex digits [] (ap (λ (x : List ℕ). 92 ∷ x) (sym (append-nil digits)))
        (record { some = some; at_most_six = few; hex = hex; all = λ less. refl }) (white_none refl)

    value : unescaped ((92 ∷ digits) ++ 32 ∷ []) ≡ unescaped (92 ∷ digits)
    value =
        ap unescaped (sym (append-nil (92 ∷ (digits ++ 32 ∷ []))))
        ∙ escape_apart (digits ++ 32 ∷ []) [] (with_space [])
        ∙ ap (λ (b : List ℕ). b ++ unescaped [])
        (ap escape_bytes (append-nil (digits ++ 32 ∷ [])) ∙ digits_bytes digits (32 ∷ []) some few hex (λ less. refl)
        ∙ sym (digits_bytes digits [] some few hex (λ less. refl)))
        ∙ sym (escape_apart digits [] bare) ∙ ap unescaped (append-nil (92 ∷ digits))

last_escape : (unit : List ℕ) (d : ℕ) (x : List ℕ) → IsEscape unit (d ∷ x) → Moves unit
last_escape unit d x (escape_hex digits _ is are (white_none none)) = last_hex unit digits is are.some are.at_most_six are.hex
last_escape unit d x (escape_hex digits _ is are white_crlf) =
    stays (λ y. unit_and (sym (append-nil unit)) (name_escape (escape_hex digits (13 ∷ 10 ∷ []) is
    (record { some = are.some; at_most_six = are.at_most_six; hex = are.hex; all = are.all }) white_crlf)) no_units)
last_escape unit d x (escape_hex digits _ is are (white_code {c = c} white single)) =
    stays (λ y. unit_and (sym (append-nil unit)) (name_escape (escape_hex digits (c ∷ []) is
    (record { some = are.some; at_most_six = are.at_most_six; hex = are.hex; all = are.all })
    (white_code white (and_none (c == 13))))) no_units)
last_escape _ d x (escape_code {c = c} hex line) =
    stays (λ y. unit_and refl (name_escape (escape_code hex line)) no_units)

last_unit : (unit : List ℕ) (d : ℕ) (x : List ℕ) → NameUnit unit (d ∷ x) → Moves unit
last_unit _ d x (name_code e) = stays (λ y. unit_and refl (name_code e) no_units)
last_unit unit d x (name_escape e) = last_escape unit d x e

pub units_move : (name : List ℕ) (d : ℕ) (x : List ℕ) → Units NameUnit name (d ∷ x) → Moves name
units_move _ d x no_units = stays (λ y. no_units)
units_move name d x (unit_and {first = first} {others = others} is unit more) = by others is unit (units_move others d x more)
  where
    by : (others : List ℕ) → name ≡ first ++ others → NameUnit first (others ++ d ∷ x) → Moves others → Moves name
    by [] is unit m = subst Moves (sym (is ∙ append-nil first)) (last_unit first d x unit)
    by (o ∷ os) is unit (stays f) = stays (λ y. unit_and is (unit_front first o (os ++ d ∷ x) (os ++ 32 ∷ y) unit) (f y))
    by (o ∷ os) is unit (grows f same) =
        let longer : name ++ 32 ∷ [] ≡ first ++ ((o ∷ os) ++ 32 ∷ []) =
        ap (λ (t : List ℕ). t ++ 32 ∷ []) is ∙ append_assoc first (o ∷ os) (32 ∷ []) in
        let own = unit_same first o os (os ++ 32 ∷ []) (unit_front first o (os ++ d ∷ x) os unit) in
        grows
        (λ y. unit_and longer (unit_front first o (os ++ d ∷ x) ((os ++ 32 ∷ []) ++ y) unit) (f y))
        (ap unescaped longer ∙ own.two ∙ ap (λ (t : List ℕ). own.bytes ++ t) same ∙ sym own.one ∙ sym (ap unescaped is))

-- ---- a keyword that is named `media`

-- the name says `media`, in any case
abbrev pub SaysMedia : List ℕ → Type 0
SaysMedia name = bytes_eq (map to_ascii_lowercase (unescaped name)) (codes "media") ≡ true

one_is_none : (c : ℕ) → bytes_eq (c ∷ []) (codes "media") ≡ true → ⊥
one_is_none c e = by (c == 109) e
  where
    by : (b : Bool) → (b && false) ≡ true → ⊥
    by true h = cc
    by false h = cc

no_dash : (x : List ℕ) → bytes_eq (45 ∷ x) (codes "media") ≡ true → ⊥
no_dash x e = cc

lone_back : unescaped (92 ∷ []) ≡ 239 ∷ 191 ∷ 189 ∷ []
unfolding unescaped_after escape_bytes encode_utf8
lone_back = refl

no_replacement : bytes_eq (map to_ascii_lowercase (239 ∷ 191 ∷ 189 ∷ [])) (codes "media") ≡ true → ⊥
no_replacement e = cc

-- so it starts an ident, whatever stands behind it
pub starts_media : (name rest other : List ℕ) → SaysMedia name → starts_ident (name ++ rest) ≡ true → starts_ident (name ++ other) ≡ true
unfolding unescaped_after escape_bytes
starts_media [] rest other says e = absurd (cc)
starts_media (a ∷ []) rest other says e = by (a == 92) refl
  where
    by : (b : Bool) → (a == 92) ≡ b → starts_ident (a ∷ other) ≡ true
    by true h = absurd (no_replacement (sym (ap (λ (x : List ℕ). bytes_eq (map to_ascii_lowercase x) (codes "media")) lone_back)
        ∙ subst (λ (c : ℕ). SaysMedia (c ∷ [])) (eqb-true a 92 h) says))
    by false h = absurd (one_is_none (to_ascii_lowercase a)
        (sym (ap (λ (x : List ℕ). bytes_eq (map to_ascii_lowercase x) (codes "media")) (plain_code a [] h)) ∙ says))
starts_media (a ∷ b ∷ name) rest other says e = by (a == 45) refl e
  where
    dash : (t : List ℕ) → SaysMedia (45 ∷ t) → ⊥
    dash t h = no_dash (map to_ascii_lowercase (unescaped t))
        (sym (ap (λ (x : List ℕ). bytes_eq (map to_ascii_lowercase x) (codes "media")) (plain_code 45 t refl)) ∙ h)

    by : (d : Bool) → (a == 45) ≡ d
        → cond d (begins (λ c. is_ident_start c || c == 45) (b ∷ (name ++ rest)) || begins_escape (b ∷ (name ++ rest)))
        (is_ident_start a || begins_escape (a ∷ b ∷ (name ++ rest))) ≡ true → starts_ident (a ∷ b ∷ (name ++ other)) ≡ true
    by true h g = absurd (dash (b ∷ name) (subst (λ (c : ℕ). SaysMedia (c ∷ b ∷ name)) (eqb-true a 45 h) says))
    by false h g = rw h g

-- ---- at-keywords

-- the name of an at-keyword at the front of a text
pub record KeyName (key rest : List ℕ) : Type 0 where
  pub name : List ℕ
  pub is : key ≡ 64 ∷ name
  pub starts : starts_ident (name ++ rest) ≡ true
  pub units : Units NameUnit name rest

pub key_name : (key rest : List ℕ) (k : TokenKind) → is_at_keyword k ≡ true → first_piece (key ++ rest) ≡ Some (piece k (length key))
    → KeyName key rest
key_name key rest k at found =
    let first = first_is_first (key ++ rest) (piece k (length key)) found in
    let l = first.longest in
    let size : length l.front ≡ length key = sym l.len in
    let same : l.front ≡ key = sym (take-append_seam l.front l.rest) ∙ (λ i. take (size i) (sym l.is i)) ∙ take-append_seam key rest in
    let behind : l.rest ≡ rest = sym (drop-append_seam l.front l.rest) ∙ (λ i. drop (size i) (sym l.is i)) ∙ drop-append_seam key rest in
    let form = at_row first.row k l.front l.rest at l.form in
    record {
      name = form.name;
      is = sym same ∙ form.is;
      starts = ap (λ (x : List ℕ). starts_ident (form.name ++ x)) (sym behind) ∙ form.starts;
      units = subst (Units NameUnit form.name) behind form.a_name.units;
    }

-- a name with these units makes an at-keyword
pub key_piece : (name rest : List ℕ) → starts_ident (name ++ rest) ≡ true → Units NameUnit name rest → name_unit rest ≡ 0
    → first_piece ((64 ∷ name) ++ rest) ≡ Some (piece AtKeyword (length (64 ∷ name)))
key_piece name rest starts units none =
    let size : 1 + name_len (name ++ rest) ≡ length (64 ∷ name) =
    let e = units_run NameUnit name_unit name_law name rest units none in omega (arith, e) in
    at_first (name ++ rest) starts ∙ ap (λ (n : ℕ). Some (piece AtKeyword n)) size
