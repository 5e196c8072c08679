-- The prelude of a style rule in the text of its sheet, and its pieces.
use Rattle.std.proofs.Common.{◌≡◌, ◌⊎◌, inl, inr, ℕ, ◌+◌, ◌<◌, false, List, [], ◌∷◌, ◌++◌, length, Some, sym}
use Rattle.std.proofs.Common.{ap, subst, ◌∙◌, append_assoc, arith}
use Rattle.css_tokens.specs.declared.token.Range.{Range}
use Rattle.css_tokens.specs.declared.token.Token.{Token}
use Rattle.css_tokens.specs.declared.token.TokenKind.TheVariants as tokens
use Rattle.css_tokens.specs.Codes.{begins, is_white}
use Rattle.css_tokens.specs.Pieces.{pieces, pieces_after}
use Rattle.css_tokens.specs.Seams.{IsWholeBefore}
use Rattle.selectors.specs.Words.{words_after}
use Rattle.selectors.specs.Reading.{range_of}
use Rattle.sheet_reader.specs.Parts.{is_passed}
use Rattle.sheet_reader.proofs.Gaps.{AllPassed, Gap, gap_of}
use Rattle.sheet_reader.proofs.PreludeWords.{trail_words}
use Rattle.sheet_reader.proofs.PutPieces.{starts_there, ends_there, solid_begin, TrailSolid, split_trail, words_end, words_start, no_range}
use Rattle.sheet_reader.proofs.SealedCuts.{split_at, open_first}
use Rattle.sheet_reader.proofs.Names.{block_level}

-- the first of these pieces, which is neither white space nor a comment, begins the text
record FirstThere (after : List ℕ) (place : ℕ) (own : List ℕ) (t : Token) : Type 0 where
  start : t.start ≡ place
  begin : begins is_white (own ++ after) ≡ false
  some : 0 < length own

first_at : (after : List ℕ) (place : ℕ) (own : List ℕ) (t u : Token) (us : List Token) → t ≡ u → is_passed block_level t.kind ≡ false
    → IsWholeBefore after place own (u ∷ us) → FirstThere after place own t
first_at after place own t u us same solid whole =
    let b = solid_begin after place own u us whole (subst (λ (x : Token). is_passed block_level x.kind ≡ false) same solid) in
    record { start = ap (λ (x : Token). x.start) same ∙ starts_there after place own u us whole; begin = b.0; some = b.1 }

first_there : (after : List ℕ) (place : ℕ) (own : List ℕ) (t : Token) (ts main : List Token) (last : Token) (trail : List Token)
    → t ∷ ts ≡ (main ++ last ∷ []) ++ trail → is_passed block_level t.kind ≡ false → IsWholeBefore after place own (main ++ last ∷ [])
    → FirstThere after place own t
first_there after place own t ts [] last trail is solid whole = first_at after place own t last [] (cc) solid whole
first_there after place own t ts (x ∷ main) last trail is solid whole = first_at after place own t x (main ++ last ∷ []) (cc) solid whole

-- the text taken apart around the prelude, up to the `{`
pub record HeadText (text : List ℕ) (r : Range) (xs : List Token) (brace : Token) (zs : List Token) : Type 0 where
  pub front : List ℕ
  pub prelude : List ℕ
  pub gap : List ℕ
  pub rest : List ℕ
  pub is : text ≡ front ++ (prelude ++ (gap ++ 123 ∷ rest))
  pub start : r.start ≡ length front
  pub end : r.end ≡ length front + length prelude
  pub blank : Gap block_level gap
  pub whole : IsWholeBefore (prelude ++ (gap ++ 123 ∷ rest)) 0 front xs
  pub some : 0 < length prelude
  pub brace_end : brace.end ≡ length front + length prelude + length gap + 1
  pub left : zs ≡ pieces_after (length front + length prelude + length gap + 1) 0 rest

pub head_text : (text : List ℕ) (r : Range) (xs : List Token) (t : Token) (ts : List Token) (brace : Token) (zs : List Token)
    → pieces text ≡ xs ++ ((t ∷ ts) ++ brace ∷ zs) → is_passed block_level t.kind ≡ false → brace.kind ≡ tokens.OpenCurly
    → range_of (words_after text false (t ∷ ts)) ≡ Some r → HeadText text r xs brace zs
head_text text r xs t ts brace zs cut solid kind ranged = by (split_trail (t ∷ ts))
  where
    by : AllPassed block_level (t ∷ ts) ⊎ TrailSolid (t ∷ ts) → HeadText text r xs brace zs
    by (inl all) = absurd (no_range text (t ∷ ts) r all ranged)
    by (inr l) =
        let ms = l.main ++ l.last ∷ [] in
        let s = split_at xs ((t ∷ ts) ++ brace ∷ zs) 0 text cut in
        let place = 0 + length s.front in
        let sp = split_at ms (l.trail ++ brace ∷ zs) place s.after
        (sym s.left ∙ ap (λ (x : List Token). x ++ brace ∷ zs) l.is ∙ append_assoc ms l.trail (brace ∷ zs)) in
        let sg = split_at l.trail (brace ∷ zs) (place + length sp.front) sp.after (sym sp.left) in
        let m = open_first sg.after (place + length sp.front + length sg.front) brace zs kind (sym sg.left) in
        let own : range_of (words_after text false ms) ≡ Some r =
        sym (ap range_of (ap (words_after text false) l.is ∙ trail_words text false ms l.trail l.passed)) ∙ ranged in
        let last = words_end text l.main l.last r l.solid own in
        let at = ends_there sp.after place sp.front l.main l.last sp.whole in
        let first = first_there sp.after place sp.front t ts l.main l.last l.trail l.is solid sp.whole in
        let start = words_start text t ts r solid ranged in
        let behind : s.after ≡ sp.front ++ (sg.front ++ 123 ∷ m.behind) =
        sp.is ∙ ap (λ (x : List ℕ). sp.front ++ x) (sg.is ∙ ap (λ (x : List ℕ). sg.front ++ x) m.is) in
        let seam : place + length sp.front + length sg.front + 1 ≡ length s.front + length sp.front + length sg.front + 1 = omega arith in
        record {
          front = s.front;
          prelude = sp.front;
          gap = sg.front;
          rest = m.behind;
          is = s.is ∙ ap (λ (x : List ℕ). s.front ++ x) behind;
          start = omega (arith, start, first.start);
          end = omega (arith, last, at);
          blank = gap_of block_level sg.after (omega (arith, ap length m.is)) (place + length sp.front) sg.front l.trail sg.whole l.passed;
          whole = subst (λ (x : List ℕ). IsWholeBefore x 0 s.front xs) behind s.whole;
          some = first.some;
          brace_end = m.end ∙ seam;
          left = sym m.more ∙ ap (λ (n : ℕ). pieces_after n 0 m.behind) seam;
        }
