-- The text of a sheet around a prelude: what stands before it is cut as before where the new text begins with no white space, and what
-- stands behind it where the new text is sealed.
use Rattle.std.proofs.Common.{◌≡◌, ◌⊎◌, inl, inr, ℕ, suc, ◌+◌, ◌-◌, ◌<◌, ◌≤◌, ◌==◌, Bool, true, false, ◌&&◌, List, [], ◌∷◌, ◌++◌, map}
use Rattle.std.proofs.Common.{length, Option, Some, None, refl, sym, ap, subst, ◌∙◌, append_assoc, length-append, arith}
use Rattle.std.specs.Prelude.{slice_index}
use Rattle.std.proofs.lemmas.List.{append-nil}
use Rattle.css_tokens.specs.declared.token.Token.{Token}
use Rattle.css_tokens.specs.declared.token.TokenKind.TheVariants as tokens
use Rattle.css_tokens.specs.Codes.{begins, is_white}
use Rattle.css_tokens.specs.Pieces.{pieces, pieces_after}
use Rattle.css_tokens.specs.Rows.{piece, first_piece}
use Rattle.css_tokens.specs.Seams.{IsWholeBefore, no_more, piece_and}
use Rattle.css_tokens.proofs.Cuts.{piece_first}
use Rattle.selectors.specs.Moves.{Cut, cut, moved_place}
use Rattle.selectors.specs.Words.{words_after, words_of}
use Rattle.sheet_reader.specs.Brackets.{nesting, nesting_of}
use Rattle.sheet_reader.specs.Forms.{RuleForm}
use Rattle.sheet_reader.specs.Layout.{level_of}
use Rattle.sheet_reader.specs.Parts.{is_passed}
use Rattle.sheet_reader.specs.Sealing.{is_sealed}
use Rattle.sheet_reader.proofs.Gaps.{AllPassed, Gap, gap_append, gap_whites, LeadIs, skips, passed_top}
use Rattle.sheet_reader.proofs.LaidMoves.{stays, goes}
use Rattle.sheet_reader.proofs.MadePreludes.{Placed, placed_at, ends_whole, put_on}
use Rattle.sheet_reader.proofs.MovedLaw.{white_last, closed_is}
use Rattle.sheet_reader.proofs.PreludeWords.{trail_words}
use Rattle.sheet_reader.proofs.PutPieces.{whole_split}
use Rattle.sheet_reader.proofs.Raised.{raised}
use Rattle.sheet_reader.proofs.ReadMoves.{AllTokens}
use Rattle.sheet_reader.proofs.SealedCuts.{sealed_pieces, sealed_either, white_is, AllWhite, open_piece, whole_kept}
use Rattle.sheet_reader.proofs.SpaceUnits.{ends_return, Facts}
use Rattle.sheet_reader.proofs.SpotEnds.{strip}
use Rattle.sheet_reader.proofs.Spots.{Spot}
use Rattle.sheet_reader.proofs.TextMoves.{pieces_from, same_part, whole_tokens, widen}
use Rattle.sheet_reader.proofs.WordMoves.{SamePart}
use Rattle.sheet_laws.specs.Heads.{ends_in_return}
use Rattle.sheet_laws.proofs.FrontCuts.{passed_piece}
use Rattle.sheet_reader.proofs.Names.{Level, block_level}

-- ---- what stands before

-- whole pieces one behind the other
pub whole_join : (after y : List ℕ) (place : ℕ) (x : List ℕ) (xs ys : List Token) → IsWholeBefore (y ++ after) place x xs
    → IsWholeBefore after (place + length x) y ys → IsWholeBefore after place (x ++ y) (xs ++ ys)
whole_join after y place _ _ ys no_more second =
    let at : place + 0 ≡ place = omega arith in subst (λ (n : ℕ). IsWholeBefore after n y ys) at second
whole_join after y place x _ ys (piece_and {ts = more} p front rest is len found whole) second =
    let at : place + length x ≡ place + p.len + length rest = omega (arith, len, ap length is, length-append front rest) in
    piece_and p front (rest ++ y) (ap (λ (t : List ℕ). t ++ y) is ∙ append_assoc front rest y) len
    (ap first_piece (append_assoc x y after) ∙ found)
    (whole_join after y (place + p.len) rest more ys whole (subst (λ (n : ℕ). IsWholeBefore after n y ys) at second))

-- pieces that are passed over stay what they are before another text that begins with no white space
pub lead_whole : (level : Level) (after other : List ℕ) → 0 < length after → begins is_white other ≡ false → (place : ℕ) (z : List ℕ)
    (lead : List Token) → IsWholeBefore after place z lead → AllPassed level lead → IsWholeBefore other place z lead
lead_whole level after other some solid place z _ no_more all = no_more
lead_whole level after other some solid place z _ (piece_and {ts = more} p front rest is len found whole) all =
    piece_and p front rest is len there (lead_whole level after other some solid (place + p.len) rest more whole all.1)
  where
    here : first_piece (front ++ (rest ++ after)) ≡ Some (piece p.kind (length front))
    here = ap first_piece (sym (append_assoc front rest after) ∙ ap (λ (x : List ℕ). x ++ after) (sym is)) ∙ found
        ∙ ap (λ (n : ℕ). Some (piece p.kind n)) len

    still : (rest : List ℕ) → begins is_white (rest ++ after) ≡ false → begins is_white (rest ++ other) ≡ false
    still [] e = solid
    still (c ∷ rest) e = e

    there : first_piece (z ++ other) ≡ Some p
    there = ap first_piece (ap (λ (x : List ℕ). x ++ other) is ∙ append_assoc front rest other)
        ∙ passed_piece front (rest ++ after) (rest ++ other) p.kind here (passed_top level p.kind all.0)
        (λ named none. absurd (omega (arith, ap length none, length-append rest after, some))) (still rest)
        ∙ ap (λ (n : ℕ). Some (piece p.kind n)) (sym len)

-- what stands before a place between parts is cut as before
pub front_again : (text front after : List ℕ) (a : Option ℕ) (j : ℕ) (rs : List RuleForm) (xs : List Token) → text ≡ front ++ after
    → 0 < length after → IsWholeBefore after 0 front xs → Spot text None 0 a j rs xs → (other : List ℕ) → begins is_white other ≡ false
    → IsWholeBefore other 0 front xs
front_again text front after a j rs xs is some whole spot other solid = by (placed_at text a j xs (strip text rs xs spot))
  where
    by : Placed text xs → IsWholeBefore other 0 front xs
    by l =
        let w = whole_split after 0 front l.own l.lead (subst (IsWholeBefore after 0 front) l.is whole) in
        let parted : text ≡ w.front ++ (w.behind ++ after) =
        is ∙ ap (λ (t : List ℕ). t ++ after) w.is ∙ append_assoc w.front w.behind after in
        let first = ends_whole text w.front (w.behind ++ after) l.own parted w.first l.ends (w.behind ++ other) in
        let second = lead_whole (level_of l.a) after other some solid (0 + length w.front) w.behind l.lead w.second l.passed in
        subst (λ (t : List ℕ). IsWholeBefore other 0 t xs) (sym w.is)
        (subst (IsWholeBefore other 0 (w.front ++ w.behind)) (sym l.is) (whole_join other w.behind 0 w.front l.own l.lead first second))

-- ---- the new text

returns_same : (x : List ℕ) → ends_return x ≡ ends_in_return x
returns_same [] = refl
returns_same (a ∷ []) =
    let one : length (a ∷ []) - 1 ≡ 0 = omega arith in ap (λ (n : ℕ). slice_index (a ∷ []) n == 13) (sym one)
returns_same (a ∷ b ∷ x) =
    let one : length (a ∷ b ∷ x) - 1 ≡ suc (length (b ∷ x) - 1) = omega arith in
    returns_same (b ∷ x) ∙ ap (λ (n : ℕ). slice_index (a ∷ b ∷ x) n == 13) (sym one)

-- a sealed text that ends in no CR: its pieces but for white space at its end, whole before white space, comments and a `{`
pub record PutCut (put : List ℕ) : Type 0 where
  pub us : List Token
  pub front : List ℕ
  pub trail : List ℕ
  pub parted : put ≡ front ++ trail
  pub blank : AllWhite trail
  pub whole : (v : List ℕ) → Facts v → IsWholeBefore (trail ++ v) 0 front us
  pub closed : nesting us ≡ nesting_of []
  pub either : (pieces put ≡ us) ⊎ ((w : Token) × (pieces put ≡ us ++ w ∷ []) × (w.kind ≡ tokens.WhiteSpace))
  pub inside : AllTokens 0 (length put) us

pub put_cut : (put : List ℕ) → is_sealed put ≡ true → ends_in_return put ≡ false → PutCut put
put_cut put sealed no_return =
    let s = sealed_pieces put sealed in
    let apart = λ (v : List ℕ). ap (λ (b : Bool). b && begins (λ d. d == 10) v)
    (ap ends_return (sym s.parted) ∙ returns_same put ∙ no_return) in
    let whole = λ (v : List ℕ) (f : Facts v). whole_kept v f s.trail 0 s.front s.us (apart v) s.spaces in
    let size : length s.front ≤ length put = omega (arith, ap length s.parted, length-append s.front s.trail) in
    let all = whole_tokens (s.trail ++ 32 ∷ 125 ∷ []) 0 s.front s.us s.spaces in
    record {
      us = s.us;
      front = s.front;
      trail = s.trail;
      parted = s.parted;
      blank = s.blank;
      whole = whole;
      closed = sym (white_last [] s.us s.white (white_is s.white.kind s.is_white))
          ∙ closed_is (nesting (s.us ++ s.white ∷ [])) s.nested;
      either = sealed_either put s;
      inside = widen 0 (0 + length s.front) 0 (length put) s.us (omega arith) (omega (arith, size)) all;
    }

-- its words
pub put_words : (put : List ℕ) (p : PutCut put) → words_of put ≡ words_after put false p.us
put_words put p = by p.either
  where
    by : (pieces put ≡ p.us) ⊎ ((w : Token) × (pieces put ≡ p.us ++ w ∷ []) × (w.kind ≡ tokens.WhiteSpace))
        → words_of put ≡ words_after put false p.us
    by (inl e) = ap (words_after put false) e
    by (inr w) = ap (words_after put false) w.1 ∙ trail_words put false p.us (w.0 ∷ []) (ap (is_passed block_level) w.2, tt)

-- ---- the `{` behind it

abbrev pub brace_at : ℕ → Token
brace_at n = record { kind = tokens.OpenCurly; start = n; end = n + 1 }

brace_pieces : (place : ℕ) (rest : List ℕ) → pieces_after place 0 (123 ∷ rest) ≡ brace_at place ∷ pieces_after (place + 1) 0 rest
brace_pieces place rest = piece_first (123 ∷ rest) place (piece tokens.OpenCurly 1) (open_piece rest) (omega arith) (omega arith)

-- white space and comments, and the `{` behind them
pub gap_pieces : (place : ℕ) (gap rest : List ℕ) → Gap block_level gap
    → LeadIs block_level (pieces_after place 0 (gap ++ 123 ∷ rest))
    (brace_at (place + length gap) ∷ pieces_after (place + length gap + 1) 0 rest)
gap_pieces place gap rest blank =
    let k = (skips block_level (123 ∷ rest) refl gap blank place).start in
    record {
      lead = k.lead;
      is = k.is ∙ ap (λ (ts : List Token). k.lead ++ ts) (brace_pieces (place + length gap) rest);
      passed = k.passed;
    }

-- The pieces of a part of the new text up to its end, and of what stands behind it. That part stands at m in it, it stands at n, and the
-- `{` at e.
pub put_pieces : (put main trail gap rest : List ℕ) (n m e : ℕ) (ts : List Token) → n + (m + length main) + length (trail ++ gap) ≡ e
    → AllWhite trail → Gap block_level gap → IsWholeBefore (trail ++ (gap ++ 123 ∷ rest)) m main ts
    → (tail : List Token) × AllPassed block_level tail × (pieces_after (n + m) 0 (main ++ (trail ++ (gap ++ 123 ∷ rest)))
    ≡ (map (raised (λ x. n + x)) ts ++ tail) ++ brace_at e ∷ pieces_after (e + 1) 0 rest)
put_pieces put main trail gap rest n m e ts at spaces blank whole =
    let k = gap_pieces (n + (m + length main)) (trail ++ gap) rest
    (gap_append block_level trail gap (gap_whites block_level trail spaces) blank) in
    let own = map (raised (λ x. n + x)) ts in (
      k.lead,
      k.passed,
      put_on put n main (trail ++ (gap ++ 123 ∷ rest)) m ts whole
          ∙ ap (λ (ys : List Token). own ++ ys)
          (ap (pieces_after (n + (m + length main)) 0) (sym (append_assoc trail gap (123 ∷ rest))) ∙ k.is
          ∙ ap (λ (x : ℕ). k.lead ++ brace_at x ∷ pieces_after (x + 1) 0 rest) at)
          ∙ sym (append_assoc own k.lead (brace_at e ∷ pieces_after (e + 1) 0 rest)),
    )

-- ---- what stands in both texts

raised_twice : (f g h : ℕ → ℕ) → ((x : ℕ) → f (g x) ≡ h x) → (ts : List Token) → map (raised f) (map (raised g) ts) ≡ map (raised h) ts
raised_twice f g h e [] = refl
raised_twice f g h e (t ∷ ts) =
    let more = raised_twice f g h e ts in
    λ i. (record { kind = t.kind; start = e t.start i; end = e t.end i }) ∷ more i

-- the pieces of a text that stands elsewhere
pub pieces_there : (f : ℕ → ℕ) (e e2 : ℕ) (rest : List ℕ) → ((x : ℕ) → f (e + x) ≡ e2 + x)
    → pieces_after e2 0 rest ≡ map (raised f) (pieces_after e 0 rest)
pieces_there f e e2 rest at =
    pieces_from e2 rest ∙ sym (raised_twice f (λ x. e + x) (λ x. e2 + x) at (pieces rest)) ∙ sym (ap (map (raised f)) (pieces_from e rest))

-- the same front
pub front_in_both : (front a b : List ℕ) (c : Cut) → length front ≤ c.start
    → SamePart (front ++ a) (front ++ b) (moved_place c) 0 (length front)
front_in_both front a b c within =
    let both : SamePart ([] ++ (front ++ a)) ([] ++ (front ++ b)) (moved_place c) 0 (0 + length front) =
    same_part [] front a [] b (moved_place c)
    (λ x fits. let z : 0 + x ≡ x = omega arith in ap (moved_place c) z ∙ stays c x (omega (arith, fits, within)) ∙ sym z) in
    let at : 0 + length front ≡ length front = omega arith in
    subst (λ (n : ℕ). SamePart (front ++ a) (front ++ b) (moved_place c) 0 n) at both

-- the same end
pub end_in_both : (p p2 rest : List ℕ) (f : ℕ → ℕ) → ((x : ℕ) → f (length p + x) ≡ length p2 + x)
    → SamePart (p ++ rest) (p2 ++ rest) f (length p) (length p + length rest)
end_in_both p p2 rest f at =
    let both : SamePart (p ++ (rest ++ [])) (p2 ++ (rest ++ [])) f (length p) (length p + length rest) =
    same_part p rest [] p2 [] f (λ x fits. at x) in
    subst (λ (t : List ℕ). SamePart (p ++ t) (p2 ++ t) f (length p) (length p + length rest)) (append-nil rest) both

-- a text in the midst of another
pub put_in_both : (front put behind : List ℕ) → SamePart put (front ++ (put ++ behind)) (λ x. length front + x) 0 (length put)
put_in_both front put behind =
    let both : SamePart ([] ++ (put ++ [])) (front ++ (put ++ behind)) (λ x. length front + x) 0 (0 + length put) =
    same_part [] put [] front behind (λ x. length front + x)
    (λ x fits. let z : 0 + x ≡ x = omega arith in ap (λ (m : ℕ). length front + m) z) in
    let at : 0 + length put ≡ length put = omega arith in
    subst (λ (n : ℕ). SamePart put (front ++ (put ++ behind)) (λ x. length front + x) 0 n) at
    (subst (λ (t : List ℕ). SamePart t (front ++ (put ++ behind)) (λ x. length front + x) 0 (0 + length put)) (append-nil put) both)

-- ---- the two texts

-- the text with this between what stands before it and what stands behind it, up to a `{`
abbrev pub with_head : List ℕ → List ℕ → List ℕ → List ℕ → List ℕ
with_head front own gap rest = front ++ (own ++ (gap ++ 123 ∷ rest))

-- where the pieces behind that `{` begin
abbrev pub behind_brace : List ℕ → List ℕ → List ℕ → ℕ
behind_brace front own gap = length front + length own + length gap + 1

-- the cut at that place
abbrev pub head_cut : List ℕ → List ℕ → List ℕ → Cut
head_cut front old put = cut (length front) (length front + length old) (length put)

text_size : (front own gap : List ℕ) → length (front ++ (own ++ (gap ++ 123 ∷ []))) ≡ behind_brace front own gap
text_size front own gap = omega (
  arith,
  length-append front (own ++ (gap ++ 123 ∷ [])),
  length-append own (gap ++ 123 ∷ []),
  length-append gap (123 ∷ []),
)

text_parted : (front own gap rest : List ℕ) → with_head front own gap rest ≡ (front ++ (own ++ (gap ++ 123 ∷ []))) ++ rest
text_parted front own gap rest =
    ap (λ (x : List ℕ). front ++ (own ++ x)) (sym (append_assoc gap (123 ∷ []) rest))
    ∙ ap (λ (x : List ℕ). front ++ x) (sym (append_assoc own (gap ++ 123 ∷ []) rest))
    ∙ sym (append_assoc front (own ++ (gap ++ 123 ∷ [])) rest)

module _ (front old put gap rest : List ℕ) where
  -- what stands behind the `{` moves
  pub moves : (x : ℕ) → moved_place (head_cut front old put) (behind_brace front old gap + x) ≡ behind_brace front put gap + x
  moves x = goes (head_cut front old put) (behind_brace front old gap + x) (omega arith) ∙ omega arith

  pub ends_move : moved_place (head_cut front old put) (length (with_head front old gap rest)) ≡ length (with_head front put gap rest)
  ends_move =
      let size = λ (own : List ℕ). ap length (text_parted front own gap rest) ∙ length-append (front ++ (own ++ (gap ++ 123 ∷ []))) rest
      ∙ ap (λ (n : ℕ). n + length rest) (text_size front own gap) in
      ap (moved_place (head_cut front old put)) (size old) ∙ moves (length rest) ∙ sym (size put)

  pub front_stands : SamePart (with_head front old gap rest) (with_head front put gap rest) (moved_place (head_cut front old put)) 0
      (length front)
  front_stands = front_in_both front (old ++ (gap ++ 123 ∷ rest)) (put ++ (gap ++ 123 ∷ rest)) (head_cut front old put) (omega arith)

  pub end_stands : SamePart (with_head front old gap rest) (with_head front put gap rest) (moved_place (head_cut front old put))
      (behind_brace front old gap) (behind_brace front old gap + length rest)
  end_stands =
      let f = moved_place (head_cut front old put) in
      let p = front ++ (old ++ (gap ++ 123 ∷ [])) in
      let p2 = front ++ (put ++ (gap ++ 123 ∷ [])) in
      let e = behind_brace front old gap in
      let both : SamePart (p ++ rest) (p2 ++ rest) f (length p) (length p + length rest) =
      end_in_both p p2 rest f
      (λ x. ap (λ (n : ℕ). f (n + x)) (text_size front old gap) ∙ moves x ∙ ap (λ (n : ℕ). n + x) (sym (text_size front put gap))) in
      subst (λ (t : List ℕ). SamePart t (with_head front put gap rest) f e (e + length rest)) (sym (text_parted front old gap rest))
      (subst (λ (t : List ℕ). SamePart (p ++ rest) t f e (e + length rest)) (sym (text_parted front put gap rest))
      (subst (λ (n : ℕ). SamePart (p ++ rest) (p2 ++ rest) f n (n + length rest)) (text_size front old gap) both))
