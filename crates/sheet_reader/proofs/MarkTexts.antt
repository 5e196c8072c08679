-- The text up to a mark, which is cut into the same pieces whatever stands behind the mark.
use Rattle.std.proofs.Common.{◌≡◌, ℕ, ◌+◌, ◌==◌, Bool, true, false, cond, List, [], ◌∷◌, ◌++◌, length, drop, Some, refl, sym, ap, subst}
use Rattle.std.proofs.Common.{◌∙◌}
use Rattle.std.proofs.Common.{append_assoc, length-append, arith}
use Rattle.std.specs.Prelude.{slice_index}
use Rattle.std.proofs.lemmas.Bool.{eqb-true}
use Rattle.css_tokens.specs.declared.token.Token.{Token}
use Rattle.css_tokens.specs.declared.token.TokenKind.{TokenKind}
use Rattle.css_tokens.specs.declared.token.TokenKind.TheVariants as tokens
use Rattle.css_tokens.specs.Marks.{HasMarks}
use Rattle.css_tokens.specs.Pieces.{pieces, pieces_after}
use Rattle.css_tokens.specs.Rows.{piece, first_piece, mark_kind, comment, white_space, string, bad_string, hash, numeric, cdc, url, bad_url}
use Rattle.css_tokens.specs.Rows.{opens_url, ident, cdo, at_keyword, mark}
use Rattle.css_tokens.specs.Runs.{number_len}
use Rattle.css_tokens.specs.Escapes.{escape_len}
use Rattle.css_tokens.specs.Seams.{is_stop, IsWholeBefore}
use Rattle.css_tokens.proofs.Ends.{first_whole}
use Rattle.css_tokens.proofs.SeamPieces.{whole_before}
use Rattle.sheet_reader.proofs.SealedCuts.{FirstOf, first_of, MarkFirst, split_at, one_more}

-- the text up to a `;` or a `}`
pub record Marked (text : List ℕ) (us : List Token) (t : Token) (ts : List Token) : Type 0 where
  pub front : List ℕ
  pub after : List ℕ
  pub is : text ≡ front ++ after
  pub left : ts ≡ pieces_after (length front) 0 after
  pub end : t.end ≡ length front
  pub whole : (other : List ℕ) → IsWholeBefore other 0 front (us ++ t ∷ [])

pub mark_part : (c : ℕ) (k : TokenKind) → is_stop c ≡ true → ((rest : List ℕ) → first_piece (c ∷ rest) ≡ Some (piece k 1))
    → ((text : List ℕ) (place : ℕ) (t : Token) (ts : List Token) → t.kind ≡ k → pieces_after place 0 text ≡ t ∷ ts
    → MarkFirst c text place t ts)
    → (text : List ℕ) (us : List Token) (t : Token) (ts : List Token) → pieces text ≡ us ++ t ∷ ts → t.kind ≡ k → Marked text us t ts
mark_part c k stop is_piece first text us t ts cuts kind =
    let s = split_at us (t ∷ ts) 0 text cuts in
    let m = first s.after (0 + length s.front) t ts kind (sym s.left) in
    let size : 0 + length s.front + 1 ≡ length (s.front ++ c ∷ []) = omega (arith, length-append s.front (c ∷ [])) in
    let token : ◌≡◌ {A = Token} (record { kind = k; start = 0 + length s.front; end = 0 + length s.front + 1 }) t =
    λ i. record { kind = sym kind i; start = sym m.start i; end = sym m.end i } in
    record {
      front = s.front ++ c ∷ [];
      after = m.behind;
      is = s.is ∙ ap (λ (x : List ℕ). s.front ++ x) m.is ∙ sym (append_assoc s.front (c ∷ []) m.behind);
      left = sym m.more ∙ ap (λ (n : ℕ). pieces_after n 0 m.behind) size;
      end = m.end ∙ size;
      whole = λ other. subst (λ (u : Token). IsWholeBefore other 0 (s.front ++ c ∷ []) (us ++ u ∷ [])) token
          (one_more other (c ∷ []) (piece k 1) 0 s.front us
          (whole_before c stop m.behind other 0 s.front us (subst (λ (x : List ℕ). IsWholeBefore x 0 s.front us) m.is s.whole)) refl
          (is_piece other));
    }

pub semi_piece : (rest : List ℕ) → first_piece (59 ∷ rest) ≡ Some (piece tokens.Semicolon 1)
unfolding first_piece comment white_space string bad_string hash numeric number_len cdc url bad_url opens_url ident cdo at_keyword mark
    escape_len
semi_piece rest = refl

-- the mark of that kind
mark_semi : (c : ℕ) → tokens.Semicolon ≡ mark_kind c → c ≡ 59
mark_semi c e = by (c == 58) (c == 59) (c == 44) (c == 91) (c == 93) (c == 40) (c == 41) (c == 123) (c == 125) refl e
  where
    by : (b1 b2 b3 b4 b5 b6 b7 b8 b9 : Bool) → (c == 59) ≡ b2
        → tokens.Semicolon ≡ (cond b1 tokens.Colon (cond b2 tokens.Semicolon (cond b3 tokens.Comma (cond b4 tokens.OpenSquare
        (cond b5 tokens.CloseSquare (cond b6 tokens.OpenRound (cond b7 tokens.CloseRound (cond b8 tokens.OpenCurly
        (cond b9 tokens.CloseCurly tokens.Delim))))))))) → c ≡ 59
    by true b2 b3 b4 b5 b6 b7 b8 b9 is h = absurd (cc)
    by false true b3 b4 b5 b6 b7 b8 b9 is h = eqb-true c 59 is
    by false false true b4 b5 b6 b7 b8 b9 is h = absurd (cc)
    by false false false true b5 b6 b7 b8 b9 is h = absurd (cc)
    by false false false false true b6 b7 b8 b9 is h = absurd (cc)
    by false false false false false true b7 b8 b9 is h = absurd (cc)
    by false false false false false false true b8 b9 is h = absurd (cc)
    by false false false false false false false true b9 is h = absurd (cc)
    by false false false false false false false false true is h = absurd (cc)
    by false false false false false false false false false is h = absurd (cc)

semi_marks : (k : TokenKind) (text : List ℕ) (n : ℕ) → k ≡ tokens.Semicolon → HasMarks k text 0 n → (n ≡ 1) × (slice_index text 0 ≡ 59)
semi_marks tokens.Semicolon text n e h = (omega (arith, h.one), mark_semi (slice_index text 0) h.gives)
semi_marks _ text n e h = absurd (cc)

pub semi_first : (text : List ℕ) (place : ℕ) (t : Token) (ts : List Token) → t.kind ≡ tokens.Semicolon → pieces_after place 0 text ≡ t ∷ ts
    → MarkFirst 59 text place t ts
semi_first text place t ts kind e =
    let f = first_of text place t ts e in
    let m = semi_marks f.p.kind text f.p.len (ap (λ (u : Token). u.kind) f.head ∙ kind) (first_whole text f.p f.found).marks in
    by text f m.0 m.1
  where
    by : (text : List ℕ) (f : FirstOf text place t ts) → f.p.len ≡ 1 → slice_index text 0 ≡ 59 → MarkFirst 59 text place t ts
    by [] f one code = absurd (omega (arith, f.fits, f.some))
    by (c ∷ rest) f one code = record {
      behind = rest;
      is = ap (λ (x : ℕ). x ∷ rest) code;
      start = sym (ap (λ (u : Token). u.start) f.head);
      end = sym (ap (λ (u : Token). u.end) f.head) ∙ ap (λ (n : ℕ). place + n) one;
      more = sym (ap (λ (n : ℕ). pieces_after (place + n) 0 (drop n (c ∷ rest))) one) ∙ f.more;
    }
