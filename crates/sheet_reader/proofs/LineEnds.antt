-- A sealed text that ends in a CR, before an LF: its pieces are those before a space, of which the last one may take the LF.
use Rattle.std.proofs.Common.{◌≡◌, ◌⊎◌, inl, inr, ℕ, suc, ◌+◌, ◌<◌, ◌≤◌, nat_lt, ◌==◌, Bool, true, false, cond, List, [], ◌∷◌}
use Rattle.std.proofs.Common.{◌++◌, map, length, drop, Some, refl, sym, ap, subst, ◌∙◌, append_assoc, append-nil, length-append, arith}
use Rattle.std.specs.List.{AllByRecursion, list_all}
use Rattle.std.specs.Char.{is_ascii_hexdigit}
use Rattle.std.proofs.lemmas.Bool.{eqb-true}
use Rattle.std.proofs.lemmas.Bool.Decides.{nat_tests}
use Rattle.css_tokens.specs.declared.token.Token.{Token}
use Rattle.css_tokens.specs.declared.token.TokenKind.{TokenKind}
use Rattle.css_tokens.specs.declared.token.TokenKind.TheVariants as tokens
use Rattle.css_tokens.specs.Codes.{begins, is_ident, is_newline}
use Rattle.css_tokens.specs.Escapes.{unescaped, escape_bytes}
use Rattle.css_tokens.specs.Forms.{white_none, white_crlf, white_code, IsEscape, escape_hex, escape_code, escape_end}
use Rattle.css_tokens.specs.Forms.{Units, no_units, unit_and, NameUnit, name_code, name_escape}
use Rattle.css_tokens.specs.Forms.{a_percentage, a_dimension, a_number}
use Rattle.css_tokens.specs.Rows.{piece, first_piece}
use Rattle.css_tokens.specs.Seams.{IsWholeBefore, no_more, piece_and}
use Rattle.css_tokens.specs.Table.{PieceRow, comment_row, white_space_row, string_row, bad_string_row, hash_row, numeric_row, cdc_row}
use Rattle.css_tokens.specs.Table.{url_row, bad_url_row, ident_row, cdo_row, at_keyword_row, mark_row, FormOf, IsFirstPiece}
use Rattle.css_tokens.proofs.TableForms.{first_fits, first_is_first}
use Rattle.sheet_reader.proofs.Behind.{spaced, Piece}
use Rattle.sheet_reader.proofs.KeyNames.{mark_not, kind_clash, digits_bytes, escape_apart, unit_front, unit_same}
use Rattle.sheet_reader.proofs.Raised.{raised}
use Rattle.sheet_reader.proofs.SealedCuts.{SealedPieces, equal_halves}
use Rattle.sheet_reader.proofs.SpaceRows.{ends_in_name}
use Rattle.sheet_reader.proofs.SpaceNames.{TakesLine, piece_more}
use Rattle.sheet_reader.proofs.SpaceUnits.{ends_return, both, Facts, over_seam, seam_line}

-- ---- the value of a name that takes the LF

ends_behind : (xs : List ℕ) (y : ℕ) (ys : List ℕ) → ends_return (xs ++ y ∷ ys) ≡ ends_return (y ∷ ys)
ends_behind [] y ys = refl
ends_behind (a ∷ []) y ys = refl
ends_behind (a ∷ b ∷ xs) y ys = ends_behind (b ∷ xs) y ys

no_digit : (d : ℕ) (digits : List ℕ) → list_all is_ascii_hexdigit digits ≡ true → (d == 13) ≡ false → ends_return (d ∷ digits) ≡ true → ⊥
no_digit d [] hex other e = clash (d == 13) other e
  where
    clash : (b : Bool) → b ≡ false → b ≡ true → ⊥
    clash false e g = cc
    clash true e g = cc
no_digit d (c ∷ digits) hex other e =
    let h = both (is_ascii_hexdigit c) (list_all is_ascii_hexdigit digits) hex in
    no_digit c digits h.1 (apart c h.0) e
  where
    apart : (c : ℕ) → is_ascii_hexdigit c ≡ true → (c == 13) ≡ false
    apart c e = grind (arith, nat_tests)

hex_line : (digits : List ℕ) → 0 < length digits → length digits ≤ 6 → list_all is_ascii_hexdigit digits ≡ true
    → unescaped ((92 ∷ (digits ++ 13 ∷ [])) ++ 10 ∷ []) ≡ unescaped (92 ∷ (digits ++ 13 ∷ []))
hex_line digits some few hex =
    let one = escape_apart (digits ++ 13 ∷ []) [] (escape_hex digits (13 ∷ []) refl
    (record { some = some; at_most_six = few; hex = hex; all = λ less. refl }) (white_code refl refl)) in
    let two = escape_apart (digits ++ 13 ∷ 10 ∷ []) [] (escape_hex digits (13 ∷ 10 ∷ []) refl
    (record { some = some; at_most_six = few; hex = hex; all = λ less. refl }) white_crlf) in
    let short = ap escape_bytes (append-nil (digits ++ 13 ∷ [])) ∙ digits_bytes digits (13 ∷ []) some few hex (λ less. refl) in
    let long = ap escape_bytes (append-nil (digits ++ 13 ∷ 10 ∷ [])) ∙ digits_bytes digits (13 ∷ 10 ∷ []) some few hex (λ less. refl) in
    ap (λ (t : List ℕ). unescaped (92 ∷ t)) (append_assoc digits (13 ∷ []) (10 ∷ []))
    ∙ ap unescaped (sym (append-nil (92 ∷ (digits ++ 13 ∷ 10 ∷ [])))) ∙ two
    ∙ ap (λ (b : List ℕ). b ++ unescaped []) (long ∙ sym short) ∙ sym one ∙ ap unescaped (append-nil (92 ∷ (digits ++ 13 ∷ [])))

escape_line : (unit rest : List ℕ) → IsEscape unit rest → ends_return unit ≡ true → unescaped (unit ++ 10 ∷ []) ≡ unescaped unit
escape_line unit rest (escape_hex digits _ is are (white_none none)) e =
    absurd (no_digit 92 digits are.hex refl (sym (ap ends_return (is ∙ ap (λ (t : List ℕ). 92 ∷ t) (append-nil digits))) ∙ e))
escape_line unit rest (escape_hex digits _ is are white_crlf) e =
    let ends : ends_return (13 ∷ 10 ∷ []) ≡ true = sym (ends_behind (92 ∷ digits) 13 (10 ∷ [])) ∙ sym (ap ends_return is) ∙ e in absurd (cc)
escape_line unit rest (escape_hex digits _ is are (white_code {c = c} white single)) e =
    let code : c ≡ 13 = eqb-true c 13 (sym (ends_behind (92 ∷ digits) c []) ∙ sym (ap ends_return is) ∙ e) in
    subst (λ (u : List ℕ). unescaped (u ++ 10 ∷ []) ≡ unescaped u) (sym (is ∙ ap (λ (d : ℕ). 92 ∷ (digits ++ d ∷ [])) code))
    (hex_line digits are.some are.at_most_six are.hex)
escape_line _ rest (escape_code {c = c} hex line) e =
    let at : is_newline c ≡ true = ap is_newline (eqb-true c 13 e) in absurd (clash (is_newline c) line at)
  where
    clash : (b : Bool) → b ≡ false → b ≡ true → ⊥
    clash false e g = cc
    clash true e g = cc
escape_line _ _ escape_end e = absurd (cc)

unit_line : (unit rest : List ℕ) → NameUnit unit rest → ends_return unit ≡ true → unescaped (unit ++ 10 ∷ []) ≡ unescaped unit
unit_line _ rest (name_code {c = c} is) e = absurd (wrong (sym (ap is_ident (eqb-true c 13 e)) ∙ is))
  where
    wrong : is_ident 13 ≡ true → ⊥
    wrong h = cc
unit_line unit rest (name_escape x) e = escape_line unit rest x e

name_line : (name : List ℕ) → Units NameUnit name spaced → ends_return name ≡ true → unescaped (name ++ 10 ∷ []) ≡ unescaped name
name_line _ no_units e = absurd (cc)
name_line name (unit_and {first = first} {others = others} is unit more) e =
    subst (λ (t : List ℕ). unescaped (t ++ 10 ∷ []) ≡ unescaped t) (sym is)
    (by others unit (sym (ap ends_return is) ∙ e) (name_line others more))
  where
    by : (others : List ℕ) → NameUnit first (others ++ spaced) → ends_return (first ++ others) ≡ true
        → (ends_return others ≡ true → unescaped (others ++ 10 ∷ []) ≡ unescaped others)
        → unescaped ((first ++ others) ++ 10 ∷ []) ≡ unescaped (first ++ others)
    by [] u e below =
        subst (λ (t : List ℕ). unescaped (t ++ 10 ∷ []) ≡ unescaped t) (sym (append-nil first))
        (unit_line first spaced u (sym (ap ends_return (append-nil first)) ∙ e))
    by (o ∷ os) u e below =
        let b = unit_same first o os (os ++ 10 ∷ []) (unit_front first o (os ++ spaced) os u) in
        ap unescaped (append_assoc first (o ∷ os) (10 ∷ [])) ∙ b.two
        ∙ ap (λ (t : List ℕ). b.bytes ++ t) (below (sym (ends_behind first o os) ∙ e)) ∙ sym b.one

-- ---- which pieces do

is_plain : TokenKind → Bool
is_plain tokens.Ident = true
is_plain _ = false

is_hash : TokenKind → Bool
is_hash (tokens.Hash flag) = true
is_hash _ = false

ident_units : (row : PieceRow) (k : TokenKind) (front rest : List ℕ) → is_plain k ≡ true → FormOf row k front rest
    → Units NameUnit front rest
unfolding is_plain
ident_units ident_row k front rest e f = by f.kinds
  where
    by : ((k ≡ tokens.Function) × (f.close ≡ 40 ∷ [])) ⊎ ((k ≡ tokens.Ident) × (f.close ≡ []) × (begins (λ c. c == 40) rest ≡ false))
        → Units NameUnit front rest
    by (inl a) = absurd (kind_clash is_plain k _ a.0 refl e)
    by (inr b) =
        let whole : front ≡ f.name = f.is ∙ ap (λ (t : List ℕ). f.name ++ t) b.1 ∙ append-nil f.name in
        subst (λ (t : List ℕ). Units NameUnit t rest) (sym whole)
        (subst (λ (t : List ℕ). Units NameUnit f.name (t ++ rest)) b.1 f.a_name.units)
ident_units hash_row k front rest e f = absurd (kind_clash is_plain k _ f.named refl e)
ident_units at_keyword_row k front rest e f = absurd (kind_clash is_plain k _ f.named refl e)
ident_units comment_row k front rest e f = absurd (kind_clash is_plain k _ f.named refl e)
ident_units white_space_row k front rest e f = absurd (kind_clash is_plain k _ f.named refl e)
ident_units string_row k front rest e f = absurd (kind_clash is_plain k _ f.named refl e)
ident_units bad_string_row k front rest e f = absurd (kind_clash is_plain k _ f.named refl e)
ident_units numeric_row k front rest e (a_percentage number l is) = absurd (cc)
ident_units numeric_row k front rest e (a_dimension number name l is s n) = absurd (cc)
ident_units numeric_row k front rest e (a_number l a b) = absurd (cc)
ident_units cdc_row k front rest e f = absurd (kind_clash is_plain k _ f.named refl e)
ident_units url_row k front rest e f = absurd (kind_clash is_plain k _ f.named refl e)
ident_units bad_url_row k front rest e f = absurd (kind_clash is_plain k _ f.named refl e)
ident_units cdo_row k front rest e f = absurd (kind_clash is_plain k _ f.named refl e)
ident_units mark_row k front rest e f =
    absurd (kind_clash is_plain k _ f.named (mark_not is_plain refl refl refl refl refl refl refl refl refl refl f.character) e)

record HashName (front rest : List ℕ) : Type 0 where
  name : List ℕ
  is : front ≡ 35 ∷ name
  some : 0 < length name
  units : Units NameUnit name rest

hash_name : (row : PieceRow) (k : TokenKind) (front rest : List ℕ) → is_hash k ≡ true → FormOf row k front rest → HashName front rest
unfolding is_hash
hash_name hash_row k front rest e f = record { name = f.name; is = f.is; some = f.some; units = f.a_name.units }
hash_name ident_row k front rest e f =
    elim f.kinds [ inl a ↦ absurd (kind_clash is_hash k _ a.0 refl e) | inr b ↦ absurd (kind_clash is_hash k _ b.0 refl e) ]
hash_name at_keyword_row k front rest e f = absurd (kind_clash is_hash k _ f.named refl e)
hash_name comment_row k front rest e f = absurd (kind_clash is_hash k _ f.named refl e)
hash_name white_space_row k front rest e f = absurd (kind_clash is_hash k _ f.named refl e)
hash_name string_row k front rest e f = absurd (kind_clash is_hash k _ f.named refl e)
hash_name bad_string_row k front rest e f = absurd (kind_clash is_hash k _ f.named refl e)
hash_name numeric_row k front rest e (a_percentage number l is) = absurd (cc)
hash_name numeric_row k front rest e (a_dimension number name l is s n) = absurd (cc)
hash_name numeric_row k front rest e (a_number l a b) = absurd (cc)
hash_name cdc_row k front rest e f = absurd (kind_clash is_hash k _ f.named refl e)
hash_name url_row k front rest e f = absurd (kind_clash is_hash k _ f.named refl e)
hash_name bad_url_row k front rest e f = absurd (kind_clash is_hash k _ f.named refl e)
hash_name cdo_row k front rest e f = absurd (kind_clash is_hash k _ f.named refl e)
hash_name mark_row k front rest e f =
    absurd (kind_clash is_hash k _ f.named (mark_not is_hash refl refl refl refl refl refl refl refl refl refl f.character) e)

-- the value of such a piece is the same with the LF
pub record SaysSame (k : TokenKind) (x : List ℕ) : Type 0 where
  pub name : ends_in_name k ≡ true
  pub value : k ≡ tokens.Ident → unescaped (x ++ 10 ∷ []) ≡ unescaped x
  pub hash : k ≡ tokens.Hash true → unescaped (drop 1 (x ++ 10 ∷ [])) ≡ unescaped (drop 1 x)

says_same : (x : List ℕ) (p : Piece) → first_piece (x ++ spaced) ≡ Some p → p.len ≡ length x → ends_return x ≡ true
    → ends_in_name p.kind ≡ true → SaysSame p.kind x
unfolding is_plain is_hash
says_same x p found len e name = record {
  name = name;
  value = λ k. name_line x (ident_units first.row p.kind x spaced (ap is_plain k) form) e;
  hash = λ k. by (hash_name first.row p.kind x spaced (ap is_hash k) form);
}
  where
    first : IsFirstPiece (x ++ spaced) p
    first = first_is_first (x ++ spaced) p found

    halves : (first.longest.front ≡ x) × (first.longest.rest ≡ spaced)
    halves = equal_halves first.longest.front first.longest.rest x spaced (sym first.longest.is) (sym first.longest.len ∙ len)

    form : FormOf first.row p.kind x spaced
    form = subst (λ (t : List ℕ). FormOf first.row p.kind x t) halves.1
        (subst (λ (t : List ℕ). FormOf first.row p.kind t first.longest.rest) halves.0 first.longest.form)

    by : HashName x spaced → unescaped (drop 1 (x ++ 10 ∷ [])) ≡ unescaped (drop 1 x)
    by h =
        subst (λ (t : List ℕ). unescaped (drop 1 (t ++ 10 ∷ [])) ≡ unescaped (drop 1 t)) (sym h.is)
        (name_line h.name h.units (ends h.name h.some (sym (ap ends_return h.is) ∙ e)))
      where
        ends : (name : List ℕ) → 0 < length name → ends_return (35 ∷ name) ≡ true → ends_return name ≡ true
        ends [] some g = absurd (omega (arith, some))
        ends (c ∷ name) some g = g

-- ---- the pieces before it

-- a place behind the LF, which stands at n
abbrev pub past_line : ℕ → ℕ → ℕ
past_line n x = cond (nat_lt x n) x (suc x)

pub below_line : (n x : ℕ) → x < n → past_line n x ≡ x
below_line n x less = let e : nat_lt x n ≡ true = grind (arith, nat_tests, less) in ap (λ (b : Bool). cond b x (suc x)) e

pub at_line : (n x : ℕ) → x ≡ n → past_line n x ≡ suc n
at_line n x same = let e : nat_lt x n ≡ false = grind (arith, nat_tests, same) in ap (λ (b : Bool). cond b x (suc x)) e ∙ ap suc same

-- the codes of a piece that ends the text, which stands at a place
pub record LastCodes (place : ℕ) (f : List ℕ) (t : Token) : Type 0 where
  pub before : List ℕ
  pub own : List ℕ
  pub is : f ≡ before ++ own
  pub start : t.start ≡ place + length before
  pub says : SaysSame t.kind own

pub record StandsIn (place : ℕ) (f : List ℕ) (t : Token) : Type 0 where
  pub low : place ≤ t.start
  pub some : t.start < t.end
  pub high : t.end ≤ place + length f
  pub last : t.end ≡ place + length f → LastCodes place f t

-- the last piece takes the LF that what stands behind begins with
pub record TakesOne (v g : List ℕ) (place : ℕ) (f : List ℕ) (us : List Token) : Type 0 where
  pub rest : List ℕ
  pub is : v ≡ 10 ∷ rest
  pub none : g ≡ []
  pub some : 0 < length f
  pub whole : IsWholeBefore rest place (f ++ 10 ∷ []) (map (raised (past_line (place + length f))) us)
  pub stand : AllByRecursion (StandsIn place f) us

stand_behind : (place n : ℕ) (front rest : List ℕ) (ts : List Token) → n ≡ length front → AllByRecursion (StandsIn (place + n) rest) ts
    → AllByRecursion (StandsIn place (front ++ rest)) ts
stand_behind place n front rest [] len all = tt
stand_behind place n front rest (t ∷ ts) len all = (one all.0, stand_behind place n front rest ts len all.1)
  where
    one : StandsIn (place + n) rest t → StandsIn place (front ++ rest) t
    one h =
        let size = length-append front rest in
        record {
          low = omega (arith, h.low);
          some = h.some;
          high = omega (arith, h.high, size, len);
          last = λ e.
              let l = h.last (omega (arith, e, size, len)) in
              record {
                before = front ++ l.before;
                own = l.own;
                is = ap (λ (x : List ℕ). front ++ x) l.is ∙ sym (append_assoc front l.before l.own);
                start = omega (arith, l.start, len, length-append front l.before);
                says = l.says;
              };
        }

line_behind : (v : List ℕ) → begins (λ d. d == 10) v ≡ true → v ≡ 10 ∷ drop 1 v
line_behind [] e = absurd (cc)
line_behind (c ∷ v) e = ap (λ (d : ℕ). d ∷ v) (eqb-true c 10 e)

no_codes : (x : List ℕ) → length x ≡ 0 → x ≡ []
no_codes [] e = refl
no_codes (c ∷ x) e = absurd (omega (arith, e))

none_left : (after : List ℕ) (place : ℕ) (f : List ℕ) (ts : List Token) → f ≡ [] → IsWholeBefore after place f ts → ts ≡ []
none_left after place f _ none no_more = refl
none_left after place f _ none (piece_and p front rest is len found whole) =
    let some = (first_fits (f ++ after) 0 p (omega arith) found).0 in
    absurd (omega (arith, some, len, ap length is, ap length none, length-append front rest))

seam_ends : (v x : List ℕ) → over_seam x v ≡ true → ends_return x ≡ true
seam_ends v x e = (both (ends_return x) _ e).0

pub whole_near : (v : List ℕ) → Facts v → (g : List ℕ) (place : ℕ) (f : List ℕ) (us : List Token)
    → IsWholeBefore (g ++ spaced) place f us → IsWholeBefore (g ++ v) place f us ⊎ TakesOne v g place f us
whole_near v b g place _ _ no_more = inl no_more
whole_near v b g place text _ (piece_and {ts = more} p front rest is len found whole) =
    by (piece_more v b (text ++ g) p holds (omega (arith, len, ap length is, length-append front rest, length-append text g)) here)
    (whole_near v b g (place + p.len) rest more whole)
  where
    holds : 0 < p.len
    holds = (first_fits (text ++ (g ++ spaced)) 0 p (omega arith) found).0

    here : first_piece ((text ++ g) ++ spaced) ≡ Some p
    here = ap first_piece (append_assoc text g spaced) ∙ found

    token : Token
    token = record { kind = p.kind; start = place; end = place + p.len }

    size : length text ≡ length front + length rest
    size = ap length is ∙ length-append front rest

    n : ℕ
    n = place + length text

    ahead : first_piece ((text ++ g) ++ v) ≡ Some p → TakesOne v g (place + p.len) rest more → TakesOne v g place text (token ∷ more)
    ahead same m =
        let text_is : (text ++ 10 ∷ []) ++ m.rest ≡ (text ++ g) ++ v =
        append_assoc text (10 ∷ []) m.rest ∙ (λ i. sym (append-nil text) i ++ sym m.is i) ∙ (λ i. (text ++ sym m.none i) ++ v) in
        let at : place + p.len + length rest ≡ n = omega (arith, size, len) in
        let token_is : raised (past_line n) token ≡ token =
        λ i. record {
          kind = p.kind;
          start = below_line n place (omega (arith, size, m.some)) i;
          end = below_line n (place + p.len) (omega (arith, size, len, m.some)) i;
        } in
        let behind =
        subst (λ (k : ℕ). IsWholeBefore m.rest (place + p.len) (rest ++ 10 ∷ []) (map (raised (past_line k)) more)) at m.whole in
        record {
          rest = m.rest;
          is = m.is;
          none = m.none;
          some = omega (arith, size, m.some);
          whole = subst (λ (t : Token). IsWholeBefore m.rest place (text ++ 10 ∷ []) (t ∷ map (raised (past_line n)) more)) (sym token_is)
              (piece_and p front (rest ++ 10 ∷ [])
              (ap (λ (t : List ℕ). t ++ 10 ∷ []) is ∙ append_assoc front rest (10 ∷ [])) len (ap first_piece text_is ∙ same) behind);
          stand = (
            record {
              low = omega arith;
              some = omega (arith, holds);
              high = omega (arith, size, len);
              last = λ e. absurd (omega (arith, e, size, len, m.some));
            },
            subst (λ (t : List ℕ). AllByRecursion (StandsIn place t) more) (sym is)
                (stand_behind place p.len front rest more len m.stand),
          );
        }

    ends : TakesLine v (text ++ g) p → TakesOne v g place text (token ∷ more)
    ends t =
        let long = length-append text g in
        let no_g = no_codes g (omega (arith, t.len, long, len, size)) in
        let no_rest = no_codes rest (omega (arith, t.len, long, len, size)) in
        let none = none_left (g ++ spaced) (place + p.len) rest more no_rest whole in
        let all : p.len ≡ length text = omega (arith, t.len, long, len, size) in
        let bare : text ++ g ≡ text = ap (λ (x : List ℕ). text ++ x) no_g ∙ append-nil text in
        let line = line_behind v (seam_line v (text ++ g) t.over) in
        let text_is : (text ++ 10 ∷ []) ++ drop 1 v ≡ (text ++ g) ++ v =
        append_assoc text (10 ∷ []) (drop 1 v) ∙ (λ i. sym bare i ++ sym line i) in
        let last : first_piece ((text ++ 10 ∷ []) ++ drop 1 v) ≡ Some (piece p.kind (suc (length text))) =
        ap first_piece text_is ∙ t.found ∙ ap (λ (x : List ℕ). Some (piece p.kind (suc (length x)))) bare in
        let token_is : raised (past_line n) token ≡ (record { kind = p.kind; start = place; end = place + suc (length text) }) =
        λ i. record {
          kind = p.kind;
          start = below_line n place (omega (arith, all, holds)) i;
          end = (at_line n (place + p.len) (omega (arith, all)) ∙ next) i;
        } in
        record {
          rest = drop 1 v;
          is = line;
          none = no_g;
          some = omega (arith, all, holds);
          whole = subst (λ (ts : List Token). IsWholeBefore (drop 1 v) place (text ++ 10 ∷ []) (raised (past_line n) token ∷ map (raised
              (past_line n)) ts)) (sym none)
              (subst (λ (u : Token). IsWholeBefore (drop 1 v) place (text ++ 10 ∷ []) (u ∷ [])) (sym token_is)
              (piece_and (piece p.kind (suc (length text))) (text ++ 10 ∷ []) [] (sym (append-nil (text ++ 10 ∷ [])))
              (omega (arith, length-append text (10 ∷ []))) last no_more));
          stand = (
            record {
              low = omega arith;
              some = omega (arith, holds);
              high = omega (arith, all);
              last = λ e. record {
                before = [];
                own = text;
                is = refl;
                start = omega arith;
                says = says_same text p (ap (λ (x : List ℕ). first_piece (x ++ spaced)) (sym bare) ∙ here) all
                    (sym (ap ends_return bare) ∙ seam_ends v (text ++ g) t.over) t.name;
              };
            },
            subst (AllByRecursion (StandsIn place text)) (sym none) tt,
          );
        }
      where
        next : suc n ≡ place + suc (length text)
        next = omega arith

    by : (first_piece ((text ++ g) ++ v) ≡ Some p) ⊎ TakesLine v (text ++ g) p
        → IsWholeBefore (g ++ v) (place + p.len) rest more ⊎ TakesOne v g (place + p.len) rest more
        → IsWholeBefore (g ++ v) place text (token ∷ more) ⊎ TakesOne v g place text (token ∷ more)
    by (inl same) (inl w) = inl (piece_and p front rest is len (sym (ap first_piece (append_assoc text g v)) ∙ same) w)
    by (inl same) (inr m) = inr (ahead same m)
    by (inr t) below = inr (ends t)

-- the pieces of a sealed text before what stands behind it
pub sealed_near : (t : List ℕ) (s : SealedPieces t) (v : List ℕ) → Facts v
    → IsWholeBefore (s.trail ++ v) 0 s.front s.us ⊎ TakesOne v s.trail 0 s.front s.us
sealed_near t s v f = whole_near v f s.trail 0 s.front s.us s.spaces
