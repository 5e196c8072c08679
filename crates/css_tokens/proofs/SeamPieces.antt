-- Whole pieces before a seam stay as they are, whatever stands behind the character at the seam.
use Rattle.std.proofs.Common.{◌≡◌, ℕ, ◌+◌, ◌<◌, ◌≤◌, true, List, [], ◌∷◌, ◌++◌, length, drop, Some, refl, ap, sym, ◌∙◌, append_assoc}
use Rattle.std.proofs.Common.{length-append, arith}
use Rattle.std.proofs.Math.Seq.{drop-append_seam}
use Rattle.css_tokens.specs.declared.token.Token.{Token}
use Rattle.css_tokens.specs.declared.token.Piece.{Piece}
use Rattle.css_tokens.specs.Rows.{first_piece}
use Rattle.css_tokens.specs.Pieces.{pieces, pieces_after}
use Rattle.css_tokens.specs.Seams.{is_stop, IsWholeBefore, no_more, piece_and}
use Rattle.css_tokens.proofs.Cuts.{piece_first}
use Rattle.css_tokens.proofs.TableForms.{first_fits}
use Rattle.css_tokens.proofs.SeamNames.{piece_same}

pub whole_before : (c : ℕ) → is_stop c ≡ true → (rest other : List ℕ) (place : ℕ) (front : List ℕ) (ts : List Token)
    → IsWholeBefore (c ∷ rest) place front ts → IsWholeBefore (c ∷ other) place front ts
whole_before c stop rest other place front ts (no_more) = no_more
whole_before c stop rest other place text ts (piece_and {ts = more} p front behind is len found whole) =
    let fits = first_fits (text ++ c ∷ rest) 0 p (omega arith) found in
    piece_and p front behind is len
    (piece_same c stop rest other text p fits.0 (omega (arith, len, ap length is, length-append front behind)) found)
    (whole_before c stop rest other (place + p.len) behind more whole)

whole_pieces : (after : List ℕ) (place : ℕ) (text : List ℕ) (ts : List Token) → IsWholeBefore after place text ts
    → pieces_after place 0 (text ++ after) ≡ ts ++ pieces_after (place + length text) 0 after
whole_pieces after place text ts (no_more) = ap (λ (n : ℕ). pieces_after n 0 after) (omega arith)
whole_pieces after place text ts (piece_and {ts = more} p front behind is len found whole) =
    let fits = first_fits (text ++ after) 0 p (omega arith) found in
    let past : drop p.len (text ++ after) ≡ behind ++ after =
    ap (λ (n : ℕ). drop n (text ++ after)) len ∙ ap (drop (length front))
    (ap (λ (x : List ℕ). x ++ after) is ∙ append_assoc front behind after) ∙ drop-append_seam front (behind ++ after) in
    let size : place + p.len + length behind ≡ place + length text = omega (arith, len, ap length is, length-append front behind) in
    piece_first (text ++ after) place p found fits.0 fits.1
    ∙ ap (λ (xs : List Token). (record { kind = p.kind; start = place; end = place + p.len }) ∷ xs)
    (ap (pieces_after (place + p.len) 0) past ∙ whole_pieces after (place + p.len) behind more whole ∙ ap
    (λ (n : ℕ). more ++ pieces_after n 0 after) size)

pub pieces_at : (after front : List ℕ) (ts : List Token) → IsWholeBefore after 0 front ts
    → pieces (front ++ after) ≡ ts ++ pieces_after (length front) 0 after
pieces_at after front ts whole = whole_pieces after 0 front ts whole ∙ ap (λ (n : ℕ). ts ++ pieces_after n 0 after) (omega arith)
