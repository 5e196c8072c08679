-- How a text is cut, a piece at a time.
use Rattle.std.proofs.Common.{◌≡◌, inl, inr, slice_index, true, subst, lit<, ℕ, zero, suc, ◌+◌, ◌-◌, ◌<◌, ◌≤◌, List, [], ◌∷◌, length, take}
use Rattle.std.proofs.Common.{drop, Option, Some, None, refl, ap, sym, ◌∙◌, arith}
use Rattle.std.proofs.lemmas.List.{drop-drop, length-drop, get_or-drop}
use Rattle.std.proofs.lemmas.Bool.Decides.{nat_tests}
use Rattle.std.proofs.lemmas.Str.{IsCharBoundary-after_ascii, IsCharBoundary-before_ascii}
use Rattle.std.specs.Str.{IsUtf8, IsCharBoundary}
use Rattle.css_tokens.specs.Codes.{is_quote}
use Rattle.css_tokens.specs.Marks.{HasMarks, IsCutInside, IsMark}
use Rattle.css_tokens.proofs.Ends.{IsBesideAscii, first_of_rest, first_whole}
use Rattle.css_tokens.specs.declared.token.TokenKind.{TokenKind}
use Rattle.css_tokens.specs.declared.token.TokenKind.TheVariants.{Str, Hash, Function, AtKeyword, Colon, Semicolon, Comma, OpenSquare}
use Rattle.css_tokens.specs.declared.token.TokenKind.TheVariants.{CloseSquare, OpenRound, CloseRound, OpenCurly, CloseCurly, Delim}
use Rattle.css_tokens.specs.declared.token.Piece.{Piece}
use Rattle.css_tokens.specs.Rows.{◌or◌, piece, IsFront, first_piece, comment, white_space, string, bad_string, hash, numeric, cdc, url}
use Rattle.css_tokens.specs.Rows.{bad_url, ident, cdo, at_keyword, mark, mark_kind}
use Rattle.css_tokens.specs.Pieces.{pieces_after}
use Rattle.css_tokens.proofs.RunSteps.{between_to_end}

pieces_after_skip : (place skip : ℕ) (text : List ℕ) → skip ≤ length text
    → pieces_after place skip text ≡ pieces_after (place + skip) 0 (drop skip text)
unfolding pieces_after
pieces_after_skip place zero text fits = ap (λ n. pieces_after n 0 text) (omega arith)
pieces_after_skip place (suc skip) [] fits = absurd (omega arith)
pieces_after_skip place (suc skip) (c ∷ rest) fits =
    pieces_after_skip (place + 1) skip rest (omega arith) ∙ ap (λ n. pieces_after n 0 (drop skip rest)) (omega arith)

-- a text that begins with a piece
pub piece_first : (text : List ℕ) (place : ℕ) (p : Piece) → first_piece text ≡ Some p → 0 < p.len → p.len ≤ length text
    → pieces_after place 0 text ≡ (record { kind = p.kind; start = place; end = place + p.len })
    ∷ pieces_after (place + p.len) 0 (drop p.len text)
unfolding pieces_after
piece_first [] place p found some fits = absurd (omega arith)
piece_first (c ∷ rest) place p found some fits =
    rw found
    (ap (λ more. (record { kind = p.kind; start = place; end = place + p.len }) ∷ more)
    (pieces_after_skip (place + 1) (p.len - 1) rest (omega arith) ∙ ap (λ n. pieces_after n 0 (drop (p.len - 1) rest)) (omega arith) ∙ ap
    (pieces_after (place + p.len) 0) (drop_one c rest p.len some)))
  where
    drop_one : (c : ℕ) (rest : List ℕ) (n : ℕ) → 0 < n → drop (n - 1) rest ≡ drop n (c ∷ rest)
    drop_one c rest zero some = absurd (omega arith)
    drop_one c rest (suc n) some = ap (λ k. drop k rest) (omega arith)

or_none : (a b : Option Piece) → (a or b) ≡ None → b ≡ None
or_none (Some q) b e = cc
or_none None b e = e

-- each text but the empty one begins with a piece
pub none_at_end : (text : List ℕ) → first_piece text ≡ None → text ≡ []
unfolding first_piece mark
none_at_end [] none = refl
none_at_end (c ∷ rest) none =
    let text = c ∷ rest in
    let last : Some (piece (mark_kind c) 1) ≡ None =
    or_none (at_keyword text) _ (or_none (cdo text) _ (or_none (ident text) _ (or_none (bad_url text) _
    (or_none (url text) _ (or_none (cdc text) _ (or_none (numeric text) _ (or_none (hash text) _
    (or_none (bad_string text) _ (or_none (string text) _ (or_none (white_space text) _ (or_none (comment text) _ none))))))))))) in
    cc

-- the same where a reading has come to a place of the bytes
pub next_token : (text bytes : List ℕ) (place : ℕ) (p : Piece) → bytes ≡ text → place ≤ length text
    → first_piece (take (length bytes - place) (drop place bytes)) ≡ Some p → IsFront (take (length bytes - place) (drop place bytes)) p
    → pieces_after place 0 (drop place text)
    ≡ (record { kind = p.kind; start = place; end = place + p.len }) ∷ pieces_after (place + p.len) 0 (drop (place + p.len) text)
next_token text bytes place p same within found front =
    let rest : take (length bytes - place) (drop place bytes) ≡ drop place bytes = between_to_end bytes place (length bytes) refl in
    let here : drop place bytes ≡ drop place text = ap (drop place) same in
    let fits : p.len ≤ length (drop place text) = rw (rest, here) at front.1 in
    piece_first (drop place text) place p (rw (rest, here) at found) front.0 fits
    ∙ ap (λ more. (record { kind = p.kind; start = place; end = place + p.len }) ∷ pieces_after (place + p.len) 0 more)
    (drop-drop p.len place text)

pub no_token : (text bytes : List ℕ) (place : ℕ) → bytes ≡ text → first_piece (take (length bytes - place) (drop place bytes)) ≡ None
    → pieces_after place 0 (drop place text) ≡ []
unfolding pieces_after
no_token text bytes place same none =
    let rest : take (length bytes - place) (drop place bytes) ≡ drop place bytes = between_to_end bytes place (length bytes) refl in
    let here : drop place bytes ≡ drop place text = ap (drop place) same in
    let end : drop place text ≡ [] = none_at_end (drop place text) (rw (rest, here) at none) in
    rw end refl

pub fits_in : (text bytes : List ℕ) (place : ℕ) (p : Piece) → bytes ≡ text → place ≤ length text
    → IsFront (take (length bytes - place) (drop place bytes)) p → place + p.len ≤ length text
fits_in text bytes place p same within front =
    let rest : take (length bytes - place) (drop place bytes) ≡ drop place bytes = between_to_end bytes place (length bytes) refl in
    let here : drop place bytes ≡ drop place text = ap (drop place) same in
    let fits : p.len ≤ length (drop place text) = rw (rest, here) at front.1 in
    omega (arith, length-drop place text)

-- a text may be cut where a piece ends
ends_at : (text : List ℕ) (place n : ℕ) → IsUtf8 text → 0 < n → place + n ≤ length text → IsBesideAscii (drop place text) n
    → IsCharBoundary text (place + n)
ends_at text place n utf8 some fits (inl next) =
    let low : slice_index text (place + n) < 128 = omega (arith, get_or-drop place text n 0) in
    (fits, λ within wide. absurd (omega arith))
ends_at text place n utf8 some fits (inr last) =
    let same : place + n - 1 ≡ place + (n - 1) = omega arith in
    let low : slice_index text (place + n - 1) < 128 = rw same (omega (arith, get_or-drop place text (n - 1) 0)) in
    let whole : place + n - 1 + 1 ≡ place + n = omega arith in
    subst (IsCharBoundary text) whole (IsCharBoundary-after_ascii text (place + n - 1) utf8 (omega arith) low)

pub token_end : (text bytes : List ℕ) (place : ℕ) (p : Piece) → bytes ≡ text → IsUtf8 text → place ≤ length text
    → first_piece (take (length bytes - place) (drop place bytes)) ≡ Some p → IsFront (take (length bytes - place) (drop place bytes)) p
    → IsCharBoundary text (place + p.len)
token_end text bytes place p same utf8 within found front =
    let rest : take (length bytes - place) (drop place bytes) ≡ drop place bytes = between_to_end bytes place (length bytes) refl in
    let here : drop place bytes ≡ drop place text = ap (drop place) same in
    ends_at text place p.len utf8 front.0 (fits_in text bytes place p same within front)
    (first_whole (drop place text) p (rw (rest, here) at found)).beside

last_at : (text : List ℕ) (place n : ℕ) → 0 < n → slice_index text (place + n - 1) ≡ slice_index (drop place text) (n - 1)
last_at text place n some = let same : place + n - 1 ≡ place + (n - 1) = omega arith in rw same (sym (get_or-drop place text (n - 1) 0))

one_at : (kind : TokenKind) (text : List ℕ) (place n : ℕ) → IsMark kind (drop place text) 0 n → IsMark kind text place (place + n)
one_at kind text place n h = record { one = omega (arith, h.one); gives = h.gives ∙ ap mark_kind (first_of_rest text place) }

-- the marks of a piece, in the text that it stands in
marks_at : (kind : TokenKind) (text : List ℕ) (place n : ℕ) → 0 < n → place + n ≤ length text → HasMarks kind (drop place text) 0 n
    → HasMarks kind text place (place + n)
marks_at (Hash flag) text place n some fits h = record { is = sym (first_of_rest text place) ∙ h.is; some = omega (arith, h.some) }
marks_at AtKeyword text place n some fits h = record { is = sym (first_of_rest text place) ∙ h.is; some = omega (arith, h.some) }
marks_at Function text place n some fits h = record { is = last_at text place n some ∙ h.is; some = omega (arith, h.some) }
marks_at Str text place n some fits h = record {
  quote = rw (← first_of_rest text place) h.quote;
  some = omega arith;
  closed = elim h.closed [
    | inl closed ↦ inl (last_at text place n some ∙ closed.0 ∙ first_of_rest text place, omega (arith, closed.1))
    | inr end ↦ inr (omega (arith, length-drop place text, end))
  ];
}
marks_at Colon text place n some fits h = one_at Colon text place n h
marks_at Semicolon text place n some fits h = one_at Semicolon text place n h
marks_at Comma text place n some fits h = one_at Comma text place n h
marks_at OpenSquare text place n some fits h = one_at OpenSquare text place n h
marks_at CloseSquare text place n some fits h = one_at CloseSquare text place n h
marks_at OpenRound text place n some fits h = one_at OpenRound text place n h
marks_at CloseRound text place n some fits h = one_at CloseRound text place n h
marks_at OpenCurly text place n some fits h = one_at OpenCurly text place n h
marks_at CloseCurly text place n some fits h = one_at CloseCurly text place n h
marks_at Delim text place n some fits h = one_at Delim text place n h
marks_at kind text place n some fits h = tt

pub token_marks : (text bytes : List ℕ) (place : ℕ) (p : Piece) → bytes ≡ text → place ≤ length text
    → first_piece (take (length bytes - place) (drop place bytes)) ≡ Some p → IsFront (take (length bytes - place) (drop place bytes)) p
    → HasMarks p.kind text place (place + p.len)
token_marks text bytes place p same within found front =
    let rest : take (length bytes - place) (drop place bytes) ≡ drop place bytes = between_to_end bytes place (length bytes) refl in
    let here : drop place bytes ≡ drop place text = ap (drop place) same in
    marks_at p.kind text place p.len front.0 (fits_in text bytes place p same within front)
    (first_whole (drop place text) p (rw (rest, here) at found)).marks

behind : (text : List ℕ) (i m : ℕ) → IsUtf8 text → i < length text → slice_index text i ≡ m → m < 128 → IsCharBoundary text (i + 1)
behind text i m utf8 within is low = IsCharBoundary-after_ascii text i utf8 within (omega arith)

before : (text : List ℕ) (i m : ℕ) → i < length text → slice_index text i ≡ m → m < 128 → IsCharBoundary text i
before text i m within is low = IsCharBoundary-before_ascii text i within (omega arith)

quote_low : (c : ℕ) → is_quote c ≡ true → c < 128
quote_low c quote = grind (arith, nat_tests)

-- and so it may be cut inside its marks
pub cut_inside : (kind : TokenKind) (text : List ℕ) (start end : ℕ) → IsUtf8 text → start < end → end ≤ length text
    → HasMarks kind text start end → IsCutInside kind text start end
cut_inside (Hash flag) text start end utf8 some fits h = behind text start 35 utf8 (omega arith) h.is (lit< tt)
cut_inside AtKeyword text start end utf8 some fits h = behind text start 64 utf8 (omega arith) h.is (lit< tt)
cut_inside Function text start end utf8 some fits h = before text (end - 1) 40 (omega arith) h.is (lit< tt)
cut_inside Str text start end utf8 some fits h =
    let low : slice_index text start < 128 = quote_low (slice_index text start) h.quote in (
      behind text start (slice_index text start) utf8 (omega arith) refl low,
      λ same. before text (end - 1) (slice_index text start)
          (omega arith) same low,
    )
cut_inside kind text start end utf8 some fits h = tt
