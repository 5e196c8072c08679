-- A text is cut by the table of pieces in one way.
use Rattle.std.proofs.Common.{◌≡◌, ℕ, zero, suc, ◌+◌, ◌-◌, ◌<◌, ◌≤◌, true, List, [], ◌∷◌, ◌++◌, length, drop, slice_index, Contains, Some}
use Rattle.std.proofs.Common.{None, refl, ap, sym, ◌∙◌, subst, length-append, arith}
use Rattle.std.proofs.lemmas.List.{length-drop, drop-drop}
use Rattle.std.specs.List.{AllByRecursion}
use Rattle.css_tokens.specs.declared.token.TokenKind.{TokenKind}
use Rattle.css_tokens.specs.declared.token.TokenKind.TheVariants.{Colon, Semicolon, Comma, OpenSquare, CloseSquare, OpenRound, CloseRound}
use Rattle.css_tokens.specs.declared.token.TokenKind.TheVariants.{OpenCurly, CloseCurly, Delim}
use Rattle.css_tokens.specs.declared.token.Token.{Token}
use Rattle.css_tokens.specs.Marks.{HasMarks}
use Rattle.css_tokens.specs.Rows.{piece, first_piece, mark_kind}
use Rattle.css_tokens.specs.Pieces.{pieces, pieces_after}
use Rattle.css_tokens.specs.Table.{PieceRow, comment_row, white_space_row, string_row, bad_string_row, hash_row, numeric_row, cdc_row}
use Rattle.css_tokens.specs.Table.{url_row, bad_url_row, ident_row, cdo_row, at_keyword_row, mark_row, FormOf, row_of, IsLongest, HasNone}
use Rattle.css_tokens.specs.Table.{NoneOf, IsFirstPiece, Cuts}
use Rattle.css_tokens.proofs.Cuts.{piece_first, none_at_end}
use Rattle.css_tokens.proofs.Ends.{first_of_rest, first_whole}
use Rattle.css_tokens.proofs.RowForms.{RowLaw, comment_row_law, white_row_law}
use Rattle.css_tokens.proofs.NameForms.{string_row_law, bad_string_row_law, hash_row_law, at_keyword_row_law, ident_row_law, mark_row_law}
use Rattle.css_tokens.proofs.NameForms.{cdc_row_law, cdo_row_law}
use Rattle.css_tokens.proofs.NumberForms.{numeric_row_law}
use Rattle.css_tokens.proofs.UrlForms.{url_row_law, bad_url_row_law}
use Rattle.css_tokens.proofs.TableForms.{first_is_first, first_fits, cuts_whole}
use Rattle.sheet_reader.specs.Solids.{StandBetween, is_character_kind}

law_of : (row : PieceRow) → RowLaw (FormOf row) (row_of row)
law_of comment_row = comment_row_law
law_of white_space_row = white_row_law
law_of string_row = string_row_law
law_of bad_string_row = bad_string_row_law
law_of hash_row = hash_row_law
law_of numeric_row = numeric_row_law
law_of cdc_row = cdc_row_law
law_of url_row = url_row_law
law_of bad_url_row = bad_url_row_law
law_of ident_row = ident_row_law
law_of cdo_row = cdo_row_law
law_of at_keyword_row = at_keyword_row_law
law_of mark_row = mark_row_law

-- what a text begins with by a row is what the row gives
row_given : (row : PieceRow) (text : List ℕ) (kind : TokenKind) (n : ℕ) → IsLongest (FormOf row) text (piece kind n)
    → row_of row text ≡ Some (piece kind n)
row_given row text kind n l =
    ap (row_of row) l.is ∙ (law_of row).only kind l.front l.rest l.form ∙ ap (λ (m : ℕ). Some (piece kind m)) (sym l.len)

clashes : (row : PieceRow) (text : List ℕ) (kind : TokenKind) (n : ℕ) → IsLongest (FormOf row) text (piece kind n)
    → HasNone (FormOf row) text → ⊥
clashes row text kind n l none = none kind l.front l.rest l.is l.form

-- a piece of a text by a row
record ByRow (row : PieceRow) (text : List ℕ) : Type 0 where
  kind : TokenKind
  n : ℕ
  longest : IsLongest (FormOf row) text (piece kind n)

-- the first row that has a piece is one
same_row : (text : List ℕ) (before : List PieceRow) (row : PieceRow) (behind others : List PieceRow) (other : PieceRow)
    (left : List PieceRow) → before ++ row ∷ behind ≡ others ++ other ∷ left
    → NoneOf before text → NoneOf others text → ByRow row text → ByRow other text → row ≡ other
same_row text [] row behind [] other left e none silent l m = cc
same_row text [] row behind (x ∷ others) other left e none silent l m =
    let same : row ≡ x = cc in
    let b : ByRow x text = subst (λ (r : PieceRow). ByRow r text) same l in
    absurd (clashes x text b.kind b.n b.longest silent.0)
same_row text (x ∷ before) row behind [] other left e none silent l m =
    let same : other ≡ x = cc in
    let b : ByRow x text = subst (λ (r : PieceRow). ByRow r text) same m in
    absurd (clashes x text b.kind b.n b.longest none.0)
same_row text (x ∷ before) row behind (y ∷ others) other left e none silent l m =
    let below : before ++ row ∷ behind ≡ others ++ other ∷ left = cc in
    same_row text before row behind others other left below none.1 silent.1 l m

one_piece : (text : List ℕ) (kind other : TokenKind) (n m : ℕ) → IsFirstPiece text (piece kind n) → IsFirstPiece text (piece other m)
    → Some (piece kind n) ≡ Some (piece other m)
one_piece text kind other n m f g =
    let same = same_row text f.earlier f.row f.later g.earlier g.row g.later (sym f.order ∙ g.order) f.none_earlier g.none_earlier
    (record { kind = kind; n = n; longest = f.longest }) (record { kind = other; n = m; longest = g.longest }) in
    sym (row_given f.row text kind n f.longest) ∙ ap (λ (r : PieceRow). row_of r text) same ∙ row_given g.row text other m g.longest

no_room : (text : List ℕ) (kind : TokenKind) (n : ℕ) → 0 < n → IsFirstPiece text (piece kind n) → text ≡ [] → ⊥
no_room text kind n some f over =
    let l = f.longest in
    let len : length text ≡ length l.front + length l.rest = ap length l.is ∙ length-append l.front l.rest in
    let none : length text ≡ 0 = ap length over in
    absurd (omega (arith, len, none, l.len, some))

first_only : (text : List ℕ) (kind : TokenKind) (n : ℕ) → 0 < n → IsFirstPiece text (piece kind n) → first_piece text ≡ Some (piece kind n)
first_only text kind n some f =
    elim (first_piece text) as (λ o. first_piece text ≡ o → first_piece text ≡ Some (piece kind n)) [
      | None ↦ λ e. absurd (no_room text kind n some f (none_at_end text e))
      | Some q ↦ λ e. e ∙ one_piece text q.kind kind q.len n (first_is_first text q e) f
    ] refl

no_codes : (xs : List ℕ) → length xs < 1 → xs ≡ []
no_codes [] few = refl
no_codes (x ∷ xs) few = absurd (omega (arith, few))

cuts_from_place : (text : List ℕ) (place : ℕ) (ts : List Token) → place ≤ length text → Cuts text place ts
    → ts ≡ pieces_after place 0 (drop place text)
unfolding pieces_after
cuts_from_place text place [] within c =
    let gone : drop place text ≡ [] = no_codes (drop place text) (omega (arith, c, length-drop place text)) in
    sym (ap (pieces_after place 0) gone)
cuts_from_place text place (t ∷ ts) within c =
    let p = piece t.kind (t.end - t.start) in
    let found = first_only (drop place text) t.kind (t.end - t.start) (omega (arith, c.1)) c.2 in
    let fits = first_fits text place p within found in
    let end : place + (t.end - t.start) ≡ t.end = omega (arith, c.0, c.1) in
    let more = cuts_from_place text t.end ts (omega (arith, end, fits.2)) c.3 in
    let left : drop (t.end - t.start) (drop place text)
    ≡ drop t.end text = drop-drop (t.end - t.start) place text ∙ ap (λ (n : ℕ). drop n text) end in
    let head : t ≡ record { kind = t.kind; start = place; end = place + (t.end - t.start) } = λ i. record {
      kind = t.kind;
      start = c.0 i;
      end = sym end i;
    } in
    ap (λ (xs : List Token). t ∷ xs) (more ∙ (λ i. pieces_after (sym end i) 0 (sym left i))) ∙ ap
    (λ (u : Token). u ∷ pieces_after (place + (t.end - t.start)) 0 (drop (t.end - t.start) (drop place text))) head
    ∙ sym (piece_first (drop place text) place p found fits.0 fits.1)

pub cuts_only : (text : List ℕ) (ts : List Token) → Cuts text 0 ts → ts ≡ pieces text
cuts_only text ts c = cuts_from_place text 0 ts (omega arith) c

-- ---- where pieces stand, and of what kind they are

cuts_stand : (text : List ℕ) (place : ℕ) (ts : List Token) → Cuts text place ts → StandBetween place (length text) ts
cuts_stand text place [] c = c
cuts_stand text place (t ∷ ts) c = (c.0, c.1, cuts_stand text t.end ts c.3)

pub pieces_stand : (text : List ℕ) → StandBetween 0 (length text) (pieces text)
pieces_stand text = cuts_stand text 0 (pieces text) (cuts_whole text)

pub element_holds : {X : Type 0} (P : X → Type 0) (xs : List X) (x : X) → AllByRecursion P xs → Contains xs x → P x
element_holds P [] x all (k, within, is) = absurd (omega (arith, within))
element_holds P (y ∷ ys) x all (zero, within, is) = subst P is all.0
element_holds P (y ∷ ys) x all (suc k, within, is) = element_holds P ys x all.1 (k, omega (arith, within), is)

abbrev pub HasItsKind : List ℕ → Token → Type 0
HasItsKind text t = is_character_kind t.kind ≡ true → (t.end ≡ t.start + 1) × (t.kind ≡ mark_kind (slice_index text t.start))

by_kind : (kind : TokenKind) (text : List ℕ) (place n : ℕ) → HasMarks kind (drop place text) 0 n → is_character_kind kind ≡ true
    → (n ≡ 1) × (kind ≡ mark_kind (slice_index text place))
by_kind Colon text place n h e = (omega (arith, h.one), h.gives ∙ ap mark_kind (first_of_rest text place))
by_kind Semicolon text place n h e = (omega (arith, h.one), h.gives ∙ ap mark_kind (first_of_rest text place))
by_kind Comma text place n h e = (omega (arith, h.one), h.gives ∙ ap mark_kind (first_of_rest text place))
by_kind OpenSquare text place n h e = (omega (arith, h.one), h.gives ∙ ap mark_kind (first_of_rest text place))
by_kind CloseSquare text place n h e = (omega (arith, h.one), h.gives ∙ ap mark_kind (first_of_rest text place))
by_kind OpenRound text place n h e = (omega (arith, h.one), h.gives ∙ ap mark_kind (first_of_rest text place))
by_kind CloseRound text place n h e = (omega (arith, h.one), h.gives ∙ ap mark_kind (first_of_rest text place))
by_kind OpenCurly text place n h e = (omega (arith, h.one), h.gives ∙ ap mark_kind (first_of_rest text place))
by_kind CloseCurly text place n h e = (omega (arith, h.one), h.gives ∙ ap mark_kind (first_of_rest text place))
by_kind Delim text place n h e = (omega (arith, h.one), h.gives ∙ ap mark_kind (first_of_rest text place))
by_kind _ text place n h e = absurd (cc)

cuts_kinds : (text : List ℕ) (place : ℕ) (ts : List Token) → Cuts text place ts → AllByRecursion (HasItsKind text) ts
cuts_kinds text place [] c = tt
cuts_kinds text place (t ∷ ts) c = (own, cuts_kinds text t.end ts c.3)
  where
    own : HasItsKind text t
    own e =
        let p = piece t.kind (t.end - t.start) in
        let found = first_only (drop place text) t.kind (t.end - t.start) (omega (arith, c.1)) c.2 in
        let is = by_kind t.kind text place (t.end - t.start) (first_whole (drop place text) p found).marks e in
        (omega (arith, is.0, c.1), is.1 ∙ ap (λ (n : ℕ). mark_kind (slice_index text n)) (sym c.0))

pub characters : (text : List ℕ) (t : Token) → Contains (pieces text) t → is_character_kind t.kind ≡ true
    → (t.end ≡ t.start + 1) × (t.kind ≡ mark_kind (slice_index text t.start))
characters text t within = element_holds (HasItsKind text) (pieces text) t (cuts_kinds text 0 (pieces text) (cuts_whole text)) within

pub kinds_whole : (text : List ℕ) → AllByRecursion (HasItsKind text) (pieces text)
kinds_whole text = cuts_kinds text 0 (pieces text) (cuts_whole text)
