-- The table, whole: the rows in their order, and the pieces of a text by them.
use Rattle.std.proofs.Common.{◌≡◌, ℕ, zero, suc, ◌+◌, ◌-◌, ◌<◌, ◌≤◌, List, [], ◌∷◌, ◌++◌, length, drop, Option, Some, None, IsSome, refl}
use Rattle.std.proofs.Common.{ap, sym, ◌∙◌, subst, length-append, arith}
use Rattle.std.proofs.lemmas.List.{drop-drop, length-drop}
use Rattle.css_tokens.specs.declared.token.TokenKind.{TokenKind}
use Rattle.css_tokens.specs.declared.token.Piece.{Piece}
use Rattle.css_tokens.specs.Rows.{◌or◌, piece, first_piece}
use Rattle.css_tokens.specs.Pieces.{pieces, pieces_after}
use Rattle.css_tokens.specs.Forms.{NumericForm, a_percentage, a_dimension, a_number}
use Rattle.css_tokens.specs.Table.{PieceRow, comment_row, white_space_row, string_row, bad_string_row, hash_row, numeric_row, cdc_row}
use Rattle.css_tokens.specs.Table.{url_row, bad_url_row, ident_row, cdo_row, at_keyword_row, mark_row, FormOf, row_of, HasNone}
use Rattle.css_tokens.specs.Table.{GivesLongest, NoneOf, IsFirstPiece, Cuts}
use Rattle.css_tokens.proofs.Named.{name_some}
use Rattle.css_tokens.proofs.Cuts.{piece_first, none_at_end}
use Rattle.css_tokens.proofs.RowForms.{RowLaw, gives, comment_row_law, white_row_law}
use Rattle.css_tokens.proofs.NameForms.{string_row_law, bad_string_row_law, hash_row_law, at_keyword_row_law, ident_row_law, mark_row_law}
use Rattle.css_tokens.proofs.NameForms.{cdc_row_law, cdo_row_law, name_is}
use Rattle.css_tokens.proofs.NumberForms.{numeric_row_law, number_some}
use Rattle.css_tokens.proofs.UrlForms.{url_row_law, bad_url_row_law}

law_of : (row : PieceRow) → RowLaw (FormOf row) (row_of row)
law_of comment_row = comment_row_law
law_of white_space_row = white_row_law
law_of string_row = string_row_law
law_of bad_string_row = bad_string_row_law
law_of hash_row = hash_row_law
law_of numeric_row = numeric_row_law
law_of cdc_row = cdc_row_law
law_of url_row = url_row_law
law_of bad_url_row = bad_url_row_law
law_of ident_row = ident_row_law
law_of cdo_row = cdo_row_law
law_of at_keyword_row = at_keyword_row_law
law_of mark_row = mark_row_law

pub rows_give : (row : PieceRow) → GivesLongest (FormOf row) (row_of row)
rows_give row = gives (FormOf row) (row_of row) (law_of row)

-- the first of some rows that applies
first_of : PieceRow → List PieceRow → List ℕ → Option Piece
first_of row [] text = row_of row text
first_of row (next ∷ rows) text = row_of row text or first_of next rows text

first_is : (text : List ℕ) → first_piece text
    ≡ first_of comment_row (white_space_row ∷ string_row ∷ bad_string_row ∷ hash_row ∷ numeric_row ∷ cdc_row ∷ url_row ∷ bad_url_row
    ∷ ident_row ∷ cdo_row ∷ at_keyword_row ∷ mark_row ∷ []) text
unfolding first_piece first_of
first_is text = refl

record Found (rows : List PieceRow) (text : List ℕ) (p : Piece) : Type 0 where
  earlier : List PieceRow
  row : PieceRow
  later : List PieceRow
  order : rows ≡ earlier ++ row ∷ later
  none_earlier : NoneOf earlier text
  found : row_of row text ≡ Some p

has_none : (row : PieceRow) (text : List ℕ) → row_of row text ≡ None → HasNone (FormOf row) text
has_none row text none kind front rest e f = let some : IsSome (row_of row text) =
    (rows_give row).where_any text front rest kind e f in no_some (row_of row text) none some
  where
    no_some : (o : Option Piece) → o ≡ None → IsSome o → ⊥
    no_some (Some p) e some = cc
    no_some None e some = cc

by_or : {P : Type 0} (a b : Option Piece) (p : Piece) → (a or b) ≡ Some p → (a ≡ Some p → P) → (a ≡ None → b ≡ Some p → P) → P
by_or (Some q) b p e first next = first e
by_or None b p e first next = next refl e

found_in : (row : PieceRow) (rows : List PieceRow) (text : List ℕ) (p : Piece) → first_of row rows text ≡ Some p → Found (row ∷ rows) text p
unfolding first_of
found_in row [] text p e = record { earlier = []; row = row; later = []; order = refl; none_earlier = tt; found = e }
found_in row (next ∷ rows) text p e =
    by_or (row_of row text) (first_of next rows text) p e
    (λ here. record { earlier = []; row = row; later = next ∷ rows; order = refl; none_earlier = tt; found = here })
    (λ none more.
    let f = found_in next rows text p more in
    record {
      earlier = row ∷ f.earlier;
      row = f.row;
      later = f.later;
      order = ap (λ (x : List PieceRow). row ∷ x) f.order;
      none_earlier = (has_none row text none, f.none_earlier);
      found = f.found;
    })

pub first_is_first : (text : List ℕ) (p : Piece) → first_piece text ≡ Some p → IsFirstPiece text p
first_is_first text p found =
    let f = found_in comment_row _ text p (sym (first_is text) ∙ found) in
    record {
      earlier = f.earlier;
      row = f.row;
      later = f.later;
      order = f.order;
      none_earlier = f.none_earlier;
      longest = (rows_give f.row).longest text p f.found;
    }

-- each piece has some code
numeric_some : (kind : TokenKind) (front rest : List ℕ) → NumericForm kind front rest → 0 < length front
numeric_some kind front rest (a_percentage number h is) = omega (arith, ap length is, length-append number (37 ∷ []))
numeric_some kind front rest (a_dimension number name h is starts a_name) = omega
    (arith, ap length is, length-append number name, number_some number h.form)
numeric_some kind front rest (a_number h percent none) = number_some front h.form

form_some : (row : PieceRow) (kind : TokenKind) (front rest : List ℕ) → FormOf row kind front rest → 0 < length front
form_some comment_row kind front rest f = omega (arith, ap length f.is)
form_some white_space_row kind front rest f = f.some
form_some string_row kind front rest f = omega (arith, ap length f.is)
form_some bad_string_row kind front rest f = omega (arith, ap length f.is)
form_some hash_row kind front rest f = omega (arith, ap length f.is)
form_some numeric_row kind front rest f = numeric_some kind front rest f
form_some cdc_row kind front rest f = omega (arith, ap length f.is)
form_some url_row kind front rest f = omega (
  arith,
  ap length f.is,
  length-append f.front f.close,
  ap length f.opens.is,
  length-append f.opens.name
      (40 ∷ (f.opens.before ++ (f.opens.body ++ f.opens.after))),
)
form_some bad_url_row kind front rest f = omega
    (arith, ap length f.is, length-append f.front (f.body ++ f.close), length-append f.body f.close, f.some)
form_some ident_row kind front rest f = omega (
  arith,
  ap length f.is,
  length-append f.name f.close,
  name_is f.name (f.close ++ rest) f.a_name,
  name_some
      (f.name ++ (f.close ++ rest)) f.starts,
)
form_some cdo_row kind front rest f = omega (arith, ap length f.is)
form_some at_keyword_row kind front rest f = omega (arith, ap length f.is)
form_some mark_row kind front rest f = omega (arith, ap length f.is)

-- a text is cut into first pieces
pub first_fits : (text : List ℕ) (place : ℕ) (p : Piece) → place ≤ length text → first_piece (drop place text) ≡ Some p
    → (0 < p.len) × (p.len ≤ length (drop place text)) × (place + p.len ≤ length text)
first_fits text place p within e =
    let f = first_is_first (drop place text) p e in
    let l = f.longest in
    let some : 0 < length l.front = form_some f.row p.kind l.front l.rest l.form in (
      omega (arith, l.len),
      omega (arith, l.len, ap length l.is, length-append l.front l.rest),
      omega
          (arith, l.len, ap length l.is, length-append l.front l.rest, length-drop place text),
    )

cut_ends : (text : List ℕ) (place : ℕ) → place ≤ length text → first_piece (drop place text) ≡ None
    → Cuts text place (pieces_after place 0 (drop place text))
unfolding pieces_after
cut_ends text place within e =
    let end : drop place text ≡ [] = none_at_end (drop place text) e in
    rw end (omega (arith, ap length end, length-drop place text))

cut_goes_on : (text : List ℕ) (place : ℕ) (p : Piece) → place ≤ length text → first_piece (drop place text) ≡ Some p
    → Cuts text (place + p.len) (pieces_after (place + p.len) 0 (drop (place + p.len) text))
    → Cuts text place (pieces_after place 0 (drop place text))
cut_goes_on text place p within e more =
    let fits = first_fits text place p within e in
    let len : p.len ≡ place + p.len - place = omega arith in
    subst (Cuts text place) (sym (piece_first (drop place text) place p e fits.0 fits.1)) (
      refl,
      omega (arith, fits.0),
      subst (λ (n : ℕ). IsFirstPiece (drop place text) (piece p.kind n)) len (first_is_first (drop place text) p e),
      subst (λ (x : List ℕ). Cuts text (place + p.len) (pieces_after (place + p.len) 0 x)) (sym (drop-drop p.len place text)) more,
    )

cuts_from : (k : ℕ) (text : List ℕ) (place : ℕ) → length text ≤ place + k → place ≤ length text
    → Cuts text place (pieces_after place 0 (drop place text))
cuts_from zero text place near within =
    elim (first_piece (drop place text)) as
    (λ o. first_piece (drop place text) ≡ o → Cuts text place (pieces_after place 0 (drop place text))) [
      | None ↦ λ e. cut_ends text place within e
      | Some p ↦ λ e. let fits = first_fits text place p within e in absurd (omega (arith, fits.0, fits.2))
    ] refl
cuts_from (suc k) text place near within =
    elim (first_piece (drop place text)) as
    (λ o. first_piece (drop place text) ≡ o → Cuts text place (pieces_after place 0 (drop place text))) [
      | None ↦ λ e. cut_ends text place within e
      | Some p ↦ λ e.
          let fits = first_fits text place p within e in
          cut_goes_on text place p within e (cuts_from k text (place + p.len) (omega (arith, fits.0)) fits.2)
    ] refl

pub cuts_whole : (text : List ℕ) → Cuts text 0 (pieces text)
cuts_whole text = cuts_from (length text) text 0 (omega arith) (omega arith)
