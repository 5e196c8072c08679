-- The pieces that are passed over between the parts of a sheet: which texts they are, and that they stay what they are.
use Rattle.std.proofs.Common.{◌≡◌, inl, inr, ℕ, suc, ◌-◌, ◌<◌, ◌≤◌, Bool, true, false, cond, ◌&&◌, ◌==◌, List, [], ◌∷◌, ◌++◌, length}
use Rattle.std.proofs.Common.{take}
use Rattle.std.proofs.Common.{drop, Some, None, refl, sym, ap, subst, ◌∙◌, append-nil, length-append, arith}
use Rattle.std.specs.List.{list_all}
use Rattle.std.specs.Prelude.{slice_index}
use Rattle.std.proofs.Math.Seq.{take-append_seam, drop-append_seam}
use Rattle.css_tokens.specs.declared.token.TokenKind.{TokenKind}
use Rattle.css_tokens.specs.declared.token.TokenKind.TheVariants.{Comment, WhiteSpace}
use Rattle.css_tokens.specs.declared.token.TokenKind.TheVariants as tokens
use Rattle.css_tokens.specs.Codes.{is_white, begins}
use Rattle.css_tokens.specs.Escapes.{escape_len}
use Rattle.css_tokens.specs.Forms.{Units, no_units, unit_and, CommentUnit, comment_code, ClosesWith, CommentForm, WhiteSpaceForm, CdcForm}
use Rattle.css_tokens.specs.Forms.{CdoForm, NumericForm, a_percentage, a_dimension, a_number}
use Rattle.css_tokens.specs.Rows.{piece, first_piece, mark_kind, comment, white_space, string, bad_string, hash, numeric, cdc, url, bad_url}
use Rattle.css_tokens.specs.Rows.{opens_url, ident, cdo, at_keyword, mark}
use Rattle.css_tokens.specs.Runs.{number_len}
use Rattle.css_tokens.specs.Table.{PieceRow, comment_row, white_space_row, string_row, bad_string_row, hash_row, numeric_row, cdc_row}
use Rattle.css_tokens.specs.Table.{url_row, bad_url_row, ident_row, cdo_row, at_keyword_row, mark_row, FormOf}
use Rattle.css_tokens.proofs.RowForms.{comment_row_law, white_row_law, begins_all}
use Rattle.css_tokens.proofs.TableForms.{first_is_first}
use Rattle.sheet_reader.specs.Layout.{level_of}
use Rattle.sheet_reader.specs.Parts.{is_passed}

-- ---- white space

pub no_comment : (c : ℕ) (text : List ℕ) → is_white c ≡ true → comment (c ∷ text) ≡ None
no_comment c text white = by (comment (c ∷ text)) refl
  where
    by : (o : _) → comment (c ∷ text) ≡ o → comment (c ∷ text) ≡ None
    by None e = e
    by (Some p) e =
        let k = comment_row_law.form (c ∷ text) p e in
        let same : c ∷ text ≡ 47 ∷ (42 ∷ ((k.form.body ++ k.form.close) ++ k.rest)) = k.is ∙ ap (λ (x : List ℕ). x ++ k.rest) k.form.is in
        let slash : c ≡ 47 = cc in
        let not_white : is_white 47 ≡ true = ap is_white (sym slash) ∙ white in
        absurd (cc)

-- a run of white space is one piece
pub white_piece : (front other : List ℕ) → list_all is_white front ≡ true → 0 < length front → begins is_white other ≡ false
    → first_piece (front ++ other) ≡ Some (piece WhiteSpace (length front))
unfolding first_piece
white_piece [] other all some stops = absurd (omega arith)
white_piece (c ∷ front) other all some stops =
    let first = begins_all is_white (c ∷ front) other some all in
    let own = white_row_law.only WhiteSpace (c ∷ front) other (record { named = refl; some = some; run = (all, stops) }) in
    rw (no_comment c (front ++ other) first, own) refl

pub all_both : (xs ys : List ℕ) → list_all is_white xs ≡ true → list_all is_white ys ≡ true → list_all is_white (xs ++ ys) ≡ true
all_both [] ys a b = b
all_both (x ∷ xs) ys a b = by (is_white x) a (λ h. all_both xs ys h b)
  where
    by : (t : Bool) → (t && list_all is_white xs) ≡ true → (list_all is_white xs ≡ true → list_all is_white (xs ++ ys) ≡ true)
        → (t && list_all is_white (xs ++ ys)) ≡ true
    by true h rest = rest h
    by false h rest = cc

-- ---- comments

-- what is in a comment is in it before any text that begins with `*/`
units_before : (body rest other : List ℕ) → Units CommentUnit body (42 ∷ 47 ∷ rest) → Units CommentUnit body (42 ∷ 47 ∷ other)
units_before body rest other no_units = no_units
units_before body rest other (unit_and {first = first} {others = others} is unit more) =
    unit_and is (one first others unit) (units_before others rest other more)
  where
    one : (first others : List ℕ) → CommentUnit first (others ++ 42 ∷ 47 ∷ rest) → CommentUnit first (others ++ 42 ∷ 47 ∷ other)
    one _ [] (comment_code apart) = comment_code apart
    one _ (d ∷ others) (comment_code apart) = comment_code apart

-- the codes of a comment up to its end hold no `*/`
no_end : (body front rest : List ℕ) → Units CommentUnit body rest → body ≡ front ++ 42 ∷ 47 ∷ [] → ⊥
no_end body [] rest no_units e = absurd (cc)
no_end body (c ∷ front) rest no_units e = absurd (cc)
no_end body front rest (unit_and {others = others} is (comment_code {c = c} apart) more) e =
    by front (sym is ∙ e) (λ xs h. no_end others xs rest more h)
  where
    by : (front : List ℕ) → c ∷ others ≡ front ++ 42 ∷ 47 ∷ [] → ((xs : List ℕ) → others ≡ xs ++ 42 ∷ 47 ∷ [] → ⊥) → ⊥
    by [] same again =
        let star : c ≡ 42 = cc in
        let slash : others ≡ 47 ∷ [] = cc in
        let wrong : (42 == 42 && begins (λ d. d == 47) ((47 ∷ []) ++ rest)) ≡ false =
        (λ i. sym star i == 42 && begins (λ d. d == 47) (sym slash i ++ rest)) ∙ apart in
        absurd (cc)
    by (x ∷ front) same again = again front (cc)

-- what begins with `/*` has the piece that the first row gives
is_first : (inside other front : List ℕ) → front ≡ 47 ∷ 42 ∷ inside → comment (front ++ other) ≡ Some (piece Comment (length front))
    → first_piece (front ++ other) ≡ Some (piece Comment (length front))
unfolding first_piece
is_first inside other front e row = rw row refl

inside : {xs ys : List ℕ} → ◌≡◌ {A = List ℕ} (47 ∷ 42 ∷ xs) (47 ∷ 42 ∷ ys) → xs ≡ ys
inside e = cc

cut_off : (xs ys end : List ℕ) → xs ++ end ≡ ys ++ end → xs ≡ ys
cut_off xs ys end e =
    let size : length xs ≡ length ys = omega (arith, ap length e, length-append xs end, length-append ys end) in
    sym (take-append_seam xs end) ∙ (λ i. take (size i) (e i)) ∙ take-append_seam ys end

-- what is in such a comment
comment_units : (k : TokenKind) (front rest inner : List ℕ) → CommentForm k front rest → front ≡ 47 ∷ 42 ∷ (inner ++ 42 ∷ 47 ∷ [])
    → Units CommentUnit inner (42 ∷ 47 ∷ rest)
comment_units k front rest inner f is = by f.body f.close (inside (sym f.is ∙ is)) f.units f.closed
  where
    by : (body close : List ℕ) → body ++ close ≡ inner ++ 42 ∷ 47 ∷ [] → Units CommentUnit body (close ++ rest)
        → ClosesWith (42 ∷ 47 ∷ []) close rest → Units CommentUnit inner (42 ∷ 47 ∷ rest)
    by body close held units (inl closed) =
        subst (λ (x : List ℕ). Units CommentUnit x (42 ∷ 47 ∷ rest))
        (cut_off body inner (42 ∷ 47 ∷ []) (ap (λ (x : List ℕ). body ++ x) (sym closed) ∙ held))
        (subst (λ (x : List ℕ). Units CommentUnit body (x ++ rest)) closed units)
    by body close held units (inr none) =
        absurd (no_end body inner (close ++ rest) units (sym (append-nil body) ∙ ap (λ (x : List ℕ). body ++ x) (sym none.0) ∙ held))

-- a comment with its `*/` is one piece, whatever stands behind it
pub comment_piece : (k : TokenKind) (front rest other inner : List ℕ) → CommentForm k front rest
    → front ≡ 47 ∷ 42 ∷ (inner ++ 42 ∷ 47 ∷ []) → first_piece (front ++ other) ≡ Some (piece Comment (length front))
comment_piece k front rest other inner f is =
    is_first (inner ++ 42 ∷ 47 ∷ []) other front is (comment_row_law.only Comment front other (record {
      named = refl;
      body = inner;
      close = 42 ∷ 47 ∷ [];
      is = is;
      units = units_before inner rest other (comment_units k front rest inner f is);
      closed = inl refl;
    }))

-- which form such a piece has
pub data PassedForm (k : TokenKind) (front rest : List ℕ) : Type 0 where
  a_comment : CommentForm k front rest → PassedForm k front rest
  white : WhiteSpaceForm k front rest → PassedForm k front rest
  an_opening : CdoForm k front rest → PassedForm k front rest
  a_closing : CdcForm k front rest → PassedForm k front rest

-- it is passed over at top level
abbrev pub over : TokenKind → Bool
over k = is_passed (level_of None) k

-- a mark is none
no_mark : (c : ℕ) → over (mark_kind c) ≡ true → ⊥
no_mark c e = by (c == 58) (c == 59) (c == 44) (c == 91) (c == 93) (c == 40) (c == 41) (c == 123) (c == 125) e
  where
    by : (b1 b2 b3 b4 b5 b6 b7 b8 b9 : Bool)
        → over (cond b1 tokens.Colon (cond b2 tokens.Semicolon (cond b3 tokens.Comma (cond b4 tokens.OpenSquare (cond b5 tokens.CloseSquare
        (cond b6 tokens.OpenRound (cond b7 tokens.CloseRound (cond b8 tokens.OpenCurly (cond b9 tokens.CloseCurly tokens.Delim)))))))))
        ≡ true → ⊥
    by true b2 b3 b4 b5 b6 b7 b8 b9 h = absurd (cc)
    by false true b3 b4 b5 b6 b7 b8 b9 h = absurd (cc)
    by false false true b4 b5 b6 b7 b8 b9 h = absurd (cc)
    by false false false true b5 b6 b7 b8 b9 h = absurd (cc)
    by false false false false true b6 b7 b8 b9 h = absurd (cc)
    by false false false false false true b7 b8 b9 h = absurd (cc)
    by false false false false false false true b8 b9 h = absurd (cc)
    by false false false false false false false true b9 h = absurd (cc)
    by false false false false false false false false true h = absurd (cc)
    by false false false false false false false false false h = absurd (cc)

other_kind : (k named : TokenKind) → k ≡ named → over k ≡ true → over named ≡ true
other_kind k named e h = ap over (sym e) ∙ h

passed_form : (row : PieceRow) (k : TokenKind) (front rest : List ℕ) → FormOf row k front rest → over k ≡ true → PassedForm k front rest
passed_form comment_row k front rest f h = a_comment f
passed_form white_space_row k front rest f h = white f
passed_form cdc_row k front rest f h = a_closing f
passed_form cdo_row k front rest f h = an_opening f
passed_form string_row k front rest f h = let e = other_kind k tokens.Str f.named h in absurd (cc)
passed_form bad_string_row k front rest f h = let e = other_kind k tokens.BadString f.named h in absurd (cc)
passed_form hash_row k front rest f h = let e = other_kind k (tokens.Hash _) f.named h in absurd (cc)
passed_form numeric_row k front rest f h = absurd (by k front rest f h)
  where
    by : (k : TokenKind) (front rest : List ℕ) → NumericForm k front rest → over k ≡ true → ⊥
    by _ front rest (a_percentage number long is) h = cc
    by _ front rest (a_dimension number name long is starts named) h = cc
    by _ front rest (a_number long percent starts) h = cc
passed_form url_row k front rest f h = let e = other_kind k tokens.Url f.named h in absurd (cc)
passed_form bad_url_row k front rest f h = let e = other_kind k tokens.BadUrl f.named h in absurd (cc)
passed_form ident_row k front rest f h = absurd (elim f.kinds [
  | inl call ↦ by (other_kind k tokens.Function call.0 h)
  | inr name ↦ by_name (other_kind k tokens.Ident name.0 h)
])
  where
    by : over tokens.Function ≡ true → ⊥
    by e = cc

    by_name : over tokens.Ident ≡ true → ⊥
    by_name e = cc
passed_form at_keyword_row k front rest f h = let e = other_kind k tokens.AtKeyword f.named h in absurd (cc)
passed_form mark_row k front rest f h = absurd (no_mark f.character (other_kind k (mark_kind f.character) f.named h))

-- `<!--` and `-->` are pieces, whatever stands behind them
pub opening_piece : (rest : List ℕ) → first_piece (60 ∷ 33 ∷ 45 ∷ 45 ∷ rest) ≡ Some (piece tokens.Cdo 4)
unfolding first_piece comment white_space string bad_string hash numeric number_len cdc url bad_url opens_url ident cdo at_keyword mark
    escape_len
opening_piece rest = refl

pub closing_piece : (rest : List ℕ) → first_piece (45 ∷ 45 ∷ 62 ∷ rest) ≡ Some (piece tokens.Cdc 3)
unfolding first_piece comment white_space string bad_string hash numeric number_len cdc url bad_url opens_url ident cdo at_keyword mark
    escape_len
closing_piece rest = refl

-- the form of a text's first piece, where that is passed over, and what stands behind it
pub piece_form : (front rest : List ℕ) (k : TokenKind) → first_piece (front ++ rest) ≡ Some (piece k (length front)) → over k ≡ true
    → (behind : List ℕ) × (behind ≡ rest) × PassedForm k front behind
piece_form front rest k found h =
    let first = (first_is_first (front ++ rest) (piece k (length front)) found).longest in
    let row = (first_is_first (front ++ rest) (piece k (length front)) found).row in
    let size : length first.front ≡ length front = sym first.len in
    let same : first.front ≡ front = sym (take-append_seam first.front first.rest) ∙ (λ i. take (size i) (sym first.is i))
    ∙ take-append_seam front rest in
    let behind : first.rest ≡ rest = sym (drop-append_seam first.front first.rest) ∙ (λ i. drop (size i) (sym first.is i))
    ∙ drop-append_seam front rest in
    (first.rest, behind, passed_form row k front first.rest (subst (λ (x : List ℕ). FormOf row k x first.rest) same first.form) h)

-- ---- comments that have their `*/`

-- the last two codes
last_two : (xs : List ℕ) → 2 ≤ length xs → slice_index xs (length xs - 2) ≡ 42 → slice_index xs (length xs - 1) ≡ 47
    → (inner : List ℕ) × (xs ≡ inner ++ 42 ∷ 47 ∷ [])
last_two [] some a b = absurd (omega (arith, some))
last_two (x ∷ []) some a b = absurd (omega (arith, some))
last_two (x ∷ y ∷ []) some a b =
    let first : length (x ∷ y ∷ []) - 2 ≡ 0 = omega arith in
    let second : length (x ∷ y ∷ []) - 1 ≡ 1 = omega arith in
    let star : x ≡ 42 = sym (ap (slice_index (x ∷ y ∷ [])) first) ∙ a in
    let slash : y ≡ 47 = sym (ap (slice_index (x ∷ y ∷ [])) second) ∙ b in
    ([], λ i. star i ∷ slash i ∷ [])
last_two (x ∷ y ∷ z ∷ xs) some a b =
    let first : length (x ∷ y ∷ z ∷ xs) - 2 ≡ suc (length (y ∷ z ∷ xs) - 2) = omega arith in
    let second : length (x ∷ y ∷ z ∷ xs) - 1 ≡ suc (length (y ∷ z ∷ xs) - 1) = omega arith in
    let more = last_two (y ∷ z ∷ xs) (omega arith) (sym (ap (slice_index (x ∷ y ∷ z ∷ xs)) first) ∙ a)
    (sym (ap (slice_index (x ∷ y ∷ z ∷ xs)) second) ∙ b) in
    (x ∷ more.0, ap (λ (ys : List ℕ). x ∷ ys) more.1)

-- a comment with something behind it, or with its mark, has its `*/`
pub comment_closed : (front rest : List ℕ) (k : TokenKind) → first_piece (front ++ rest) ≡ Some (piece k (length front)) → over k ≡ true
    → (k ≡ tokens.Comment → rest ≡ []
    → (4 ≤ length front) × (slice_index front (length front - 2) ≡ 42) × (slice_index front (length front - 1) ≡ 47))
    → k ≡ tokens.Comment → (inner : List ℕ) × (front ≡ 47 ∷ 42 ∷ (inner ++ 42 ∷ 47 ∷ []))
comment_closed front rest k found h at_end is =
    let g = piece_form front rest k found h in by g.0 g.1 g.2
  where
    body_of : (body close behind : List ℕ) → front ≡ 47 ∷ 42 ∷ (body ++ close) → ClosesWith (42 ∷ 47 ∷ []) close behind → behind ≡ rest
        → (inner : List ℕ) × (front ≡ 47 ∷ 42 ∷ (inner ++ 42 ∷ 47 ∷ []))
    body_of body close behind form (inl closed) same = (body, form ∙ ap (λ (x : List ℕ). 47 ∷ 42 ∷ (body ++ x)) closed)
    body_of body close behind form (inr none) same =
        let m = at_end is (sym same ∙ none.1) in
        let own : front ≡ 47 ∷ 42 ∷ body = form ∙ ap (λ (x : List ℕ). 47 ∷ 42 ∷ (body ++ x)) none.0
        ∙ ap (λ (x : List ℕ). 47 ∷ 42 ∷ x) (append-nil body) in
        let size : length front ≡ length (47 ∷ 42 ∷ body) = ap (λ (x : List ℕ). length x) own in
        let first : length (47 ∷ 42 ∷ body) - 2 ≡ suc (suc (length body - 2)) = omega (arith, size, m.0) in
        let second : length (47 ∷ 42 ∷ body) - 1 ≡ suc (suc (length body - 1)) = omega (arith, size, m.0) in
        let two = last_two body (omega (arith, size, m.0))
        (sym (ap (slice_index (47 ∷ 42 ∷ body)) first) ∙ sym (ap (λ (x : List ℕ). slice_index x (length x - 2)) own) ∙ m.1)
        (sym (ap (slice_index (47 ∷ 42 ∷ body)) second) ∙ sym (ap (λ (x : List ℕ). slice_index x (length x - 1)) own) ∙ m.2) in
        (two.0, own ∙ ap (λ (x : List ℕ). 47 ∷ 42 ∷ x) two.1)

    by : (behind : List ℕ) → behind ≡ rest → PassedForm k front behind → (inner : List ℕ) × (front ≡ 47 ∷ 42 ∷ (inner ++ 42 ∷ 47 ∷ []))
    by behind same (a_comment f) = body_of f.body f.close behind f.is f.closed same
    by behind same (white f) = let wrong : tokens.WhiteSpace ≡ tokens.Comment = sym f.named ∙ is in absurd (cc)
    by behind same (an_opening f) = let wrong : tokens.Cdo ≡ tokens.Comment = sym f.named ∙ is in absurd (cc)
    by behind same (a_closing f) = let wrong : tokens.Cdc ≡ tokens.Comment = sym f.named ∙ is in absurd (cc)
