-- A sealed text with no `{` or `;` outside brackets, behind the keyword of a media rule: the pieces that it is as a prelude.
use Rattle.std.proofs.Common.{◌≡◌, ◌⊎◌, inl, inr, ℕ, suc, ◌+◌, ◌-◌, Bool, true, false, List, [], ◌∷◌, ◌++◌, map, length, Option, Some}
use Rattle.std.proofs.Common.{None, refl, sym, ap, subst, ◌∙◌, append_assoc, length-append, arith}
use Rattle.std.specs.Prelude.{option_map, slice_get}
use Rattle.css_tokens.specs.declared.token.Range.{Range}
use Rattle.css_tokens.specs.declared.token.Token.{Token}
use Rattle.css_tokens.specs.declared.token.TokenKind.TheVariants as tokens
use Rattle.css_tokens.specs.Codes.{begins, is_white}
use Rattle.css_tokens.specs.Pieces.{pieces_after}
use Rattle.css_tokens.specs.Seams.{IsWholeBefore}
use Rattle.selectors.specs.declared.words.Word.{Word}
use Rattle.selectors.specs.Words.{word_of, words_after, words_of}
use Rattle.selectors.specs.Reading.{range_by, range_of}
use Rattle.selectors.specs.Moves.{placed_range}
use Rattle.sheet_reader.specs.Brackets.{stops_at, until, nesting}
use Rattle.sheet_reader.specs.Brackets.{nesting_of}
use Rattle.sheet_reader.specs.Forms.{range}
use Rattle.sheet_reader.specs.Grammar.{AreNested}
use Rattle.sheet_reader.specs.Layout.{prelude_range}
use Rattle.sheet_reader.specs.Parts.{is_passed}
use Rattle.sheet_reader.specs.Sealing.{is_sealed, is_sealed_prelude}
use Rattle.sheet_reader.proofs.BracketLemmas.{stop_here}
use Rattle.sheet_reader.proofs.Gaps.{AllPassed, Gap, LeadIs, gap_append, gap_whites, gap_of, skips, facts_gap}
use Rattle.sheet_reader.proofs.NestingForms.{closed_nested}
use Rattle.sheet_reader.proofs.MediaPreludes.{passed_on, us_on}
use Rattle.sheet_reader.proofs.PartMoves.{map_length}
use Rattle.sheet_reader.proofs.PreludeWords.{lead_words, trail_words, first_word, range_some, passed_nested, nested_append, passed_nesting}
use Rattle.sheet_reader.proofs.PreludeWords.{until_front}
use Rattle.sheet_reader.proofs.PutPieces.{whole_split, solid_begin, LeadSolid, split_lead, no_range, passed_words}
use Rattle.sheet_reader.proofs.Raised.{raised}
use Rattle.sheet_reader.proofs.ReadMoves.{AllTokens, tokens_split, words_same, nesting_raised}
use Rattle.sheet_reader.proofs.SealedCuts.{AllWhite}
use Rattle.sheet_reader.proofs.SpaceUnits.{Facts, both}
use Rattle.sheet_reader.proofs.WordMoves.{SamePart, range_same}
use Rattle.sheet_laws.specs.Heads.{ends_in_return}
use Rattle.sheet_laws.proofs.HeadCuts.{PutCut, put_cut, put_words, put_pieces, gap_pieces, brace_at}
use Rattle.sheet_reader.proofs.Names.{block_level, block_or_semicolon}

-- the range of words does not look at the white space before the first
range_flag : (text : List ℕ) (a b : Bool) (t : Token) (ws : List Word)
    → range_of (word_of text a t ∷ ws) ≡ range_of (word_of text b t ∷ ws)
range_flag text a b t [] =
    let e : length (word_of text a t ∷ []) - 1 ≡ 0 = omega arith in
    ap (λ (n : ℕ). range_by (Some (word_of text a t)) (slice_get (word_of text a t ∷ []) n)) e
    ∙ sym (ap (λ (n : ℕ). range_by (Some (word_of text b t)) (slice_get (word_of text b t ∷ []) n)) e)
range_flag text a b t (x ∷ ws) =
    let e : length (word_of text a t ∷ x ∷ ws) - 1 ≡ suc (length ws) = omega arith in
    ap (λ (n : ℕ). range_by (Some (word_of text a t)) (slice_get (word_of text a t ∷ x ∷ ws) n)) e
    ∙ by (slice_get (x ∷ ws) (length ws))
    ∙ sym (ap (λ (n : ℕ). range_by (Some (word_of text b t)) (slice_get (word_of text b t ∷ x ∷ ws) n)) e)
  where
    by : (o : Option Word) → range_by (Some (word_of text a t)) o ≡ range_by (Some (word_of text b t)) o
    by None = refl
    by (Some w) = refl

-- the text from its first word on, before what stands behind it
pub record WordPut (put v : List ℕ) (head : Range) : Type 0 where
  pub lead : List ℕ
  pub main : List ℕ
  pub trail : List ℕ
  pub parted : put ≡ lead ++ (main ++ trail)
  pub open_lead : Gap block_level lead
  pub blank : AllWhite trail
  pub first : Token
  pub others : List Token
  pub solid : is_passed block_level first.kind ≡ false
  pub whole : IsWholeBefore (trail ++ v) (length lead) main (first ∷ others)
  pub begin : begins is_white (main ++ (trail ++ v)) ≡ false
  pub closed : nesting (first ∷ others) ≡ nesting_of []
  pub pass : (ys : List Token)
      → until block_or_semicolon ((first ∷ others) ++ ys) ≡ length (first ∷ others) + until block_or_semicolon ys
  pub inside : AllTokens 0 (length put) (first ∷ others)
  pub ranged : (spaced : Bool) → range_of (words_after put spaced (first ∷ others)) ≡ Some head

pub word_put : (put v : List ℕ) (head : Range) → is_sealed_prelude put ≡ true → ends_in_return put ≡ false
    → range_of (words_of put) ≡ Some head → Facts v → WordPut put v head
word_put put v head sealed no_return spans facts = by (split_lead p.us)
  where
    p : PutCut put
    p = put_cut put (both (is_sealed put) _ sealed).0 no_return

    spans_us : range_of (words_after put false p.us) ≡ Some head
    spans_us = ap range_of (sym (put_words put p)) ∙ spans

    by : AllPassed block_level p.us ⊎ LeadSolid p.us → WordPut put v head
    by (inl all) = absurd (no_range put p.us head all spans_us)
    by (inr l) =
        let ts = l.first ∷ l.rest in
        let w = whole_split (p.trail ++ v) 0 p.front l.lead ts (subst (IsWholeBefore (p.trail ++ v) 0 p.front) l.is (p.whole v facts)) in
        let whole : IsWholeBefore (p.trail ++ v) (length w.front) w.behind ts =
        subst (λ (n : ℕ). IsWholeBefore (p.trail ++ v) n w.behind ts) (omega arith) w.second in
        let b = solid_begin (p.trail ++ v) (length w.front) w.behind l.first l.rest whole l.solid in
        let words = lead_words put false l.lead ts l.passed in
        let one : range_of (word_of put words.0 l.first ∷ words_after put false l.rest) ≡ Some head =
        ap range_of (sym (first_word put words.0 l.first l.rest l.solid)) ∙ ap range_of (sym words.1)
        ∙ ap (λ (us : List Token). range_of (words_after put false us)) (sym l.is) ∙ spans_us in
        record {
          lead = w.front;
          main = w.behind;
          trail = p.trail;
          parted = p.parted ∙ ap (λ (x : List ℕ). x ++ p.trail) w.is ∙ append_assoc w.front w.behind p.trail;
          open_lead = gap_of block_level (w.behind ++ (p.trail ++ v)) (omega (arith, b.1, length-append w.behind (p.trail ++ v))) 0 w.front
              l.lead w.first l.passed;
          blank = p.blank;
          first = l.first;
          others = l.rest;
          solid = l.solid;
          whole = whole;
          begin = b.0;
          closed = sym (passed_nesting block_level l.lead l.passed [] ts) ∙ sym (ap nesting l.is) ∙ p.closed;
          pass = λ ys.
              let on = passed_on block_level l.lead l.passed [] (ts ++ ys) in
              let all = us_on put p.us sealed p.closed p.either ys in
              let cut : until block_or_semicolon (p.us ++ ys) ≡ until block_or_semicolon (l.lead ++ (ts ++ ys)) =
              ap (λ (xs : List Token). until block_or_semicolon (xs ++ ys)) l.is
              ∙ ap (until block_or_semicolon) (append_assoc l.lead ts ys) in
              let size : length p.us ≡ length l.lead + length ts = ap (λ (xs : List Token). length xs) l.is ∙ length-append l.lead ts in
              omega (arith, on, all, cut, size);
          inside = (tokens_split 0 (length put) l.lead ts (subst (AllTokens 0 (length put)) l.is p.inside)).1;
          ranged = λ spaced. ap range_of (first_word put spaced l.first l.rest l.solid)
              ∙ range_flag put spaced words.0 l.first (words_after put false l.rest) ∙ one;
        }

-- ---- as a prelude

-- what the text is as a prelude, behind a keyword that ends at n and such a gap, before another and a `{` at e; its range is `made`
pub record NewPrelude (put gap behind rest : List ℕ) (n e : ℕ) (made : Range) : Type 0 where
  pub prelude : List Token
  pub nested : AreNested prelude
  pub ends : (brace : Token) (ys : List Token) → brace.kind ≡ tokens.OpenCurly
      → until block_or_semicolon (prelude ++ brace ∷ ys) ≡ length prelude
  pub is : pieces_after n 0 (gap ++ (put ++ (behind ++ 123 ∷ rest))) ≡ prelude ++ brace_at e ∷ pieces_after (e + 1) 0 rest
  pub read : (other : List ℕ) (keyword : Token) → keyword.end ≡ n → SamePart put other (λ x. n + length gap + x) 0 (length put)
      → prelude_range keyword (range_of (words_after other false prelude)) ≡ made

-- where it has words
pub with_words : (put gap behind rest : List ℕ) (n e : ℕ) (head : Range) → is_sealed_prelude put ≡ true → ends_in_return put ≡ false
    → range_of (words_of put) ≡ Some head → Gap block_level gap → Gap block_level behind → n + length gap + length put + length behind ≡ e
    → NewPrelude put gap behind rest n e (placed_range (λ x. n + length gap + x) head)
with_words put gap behind rest n e head sealed no_return spans open_gap blank at = record {
  prelude = prelude;
  nested = nested_append quiet.lead (own ++ cut.0) (passed_nested block_level quiet.lead quiet.passed)
      (nested_append own cut.0 (closed_nested own (nesting_raised (λ x. g + x) [] (p.first ∷ p.others) ∙ p.closed))
      (passed_nested block_level cut.0 cut.1));
  ends = ends;
  is = ap (pieces_after n 0) tail_is ∙ quiet.is
      ∙ ap (λ (ys : List Token). quiet.lead ++ ys)
      (ap (λ (x : ℕ). pieces_after x 0 (p.main ++ (p.trail ++ v))) place_is ∙ cut.2)
      ∙ sym (append_assoc quiet.lead (own ++ cut.0) (brace_at e ∷ pieces_after (e + 1) 0 rest));
  read = λ other keyword end same. ap (prelude_range keyword) (read other same);
}
  where
    v : List ℕ
    v = behind ++ 123 ∷ rest

    p : WordPut put v head
    p = word_put put v head sealed no_return spans (facts_gap behind rest blank)

    g : ℕ
    g = n + length gap

    own : List Token
    own = map (raised (λ x. g + x)) (p.first ∷ p.others)

    size : g + (length p.lead + length p.main) + length (p.trail ++ behind) ≡ e
    size = omega (
      arith,
      at,
      ap length p.parted,
      length-append p.lead (p.main ++ p.trail),
      length-append p.main p.trail,
      length-append p.trail behind,
    )

    cut : (tail : List Token) × AllPassed block_level tail × (pieces_after (g + length p.lead) 0 (p.main ++ (p.trail ++ v))
        ≡ (own ++ tail) ++ brace_at e ∷ pieces_after (e + 1) 0 rest)
    cut = put_pieces put p.main p.trail behind rest g (length p.lead) e (p.first ∷ p.others) size p.blank blank p.whole

    quiet : LeadIs block_level (pieces_after n 0 ((gap ++ p.lead) ++ (p.main ++ (p.trail ++ v))))
        (pieces_after (n + length (gap ++ p.lead)) 0 (p.main ++ (p.trail ++ v)))
    quiet = (skips block_level (p.main ++ (p.trail ++ v)) p.begin (gap ++ p.lead)
        (gap_append block_level gap p.lead open_gap p.open_lead) n).start

    prelude : List Token
    prelude = quiet.lead ++ (own ++ cut.0)

    tail_is : gap ++ (put ++ v) ≡ (gap ++ p.lead) ++ (p.main ++ (p.trail ++ v))
    tail_is =
        ap (λ (x : List ℕ). gap ++ (x ++ v)) p.parted
        ∙ ap (λ (x : List ℕ). gap ++ x) (append_assoc p.lead (p.main ++ p.trail) v
        ∙ ap (λ (x : List ℕ). p.lead ++ x) (append_assoc p.main p.trail v))
        ∙ sym (append_assoc gap p.lead (p.main ++ (p.trail ++ v)))

    place_is : n + length (gap ++ p.lead) ≡ g + length p.lead
    place_is = omega (arith, length-append gap p.lead)

    ends : (brace : Token) (ys : List Token) → brace.kind ≡ tokens.OpenCurly
        → until block_or_semicolon (prelude ++ brace ∷ ys) ≡ length prelude
    ends brace ys curly =
        let ts = p.first ∷ p.others in
        let one = ap (until block_or_semicolon) (append_assoc quiet.lead (own ++ cut.0) (brace ∷ ys)
        ∙ ap (λ (x : List Token). quiet.lead ++ x) (append_assoc own cut.0 (brace ∷ ys))) in
        let two = passed_on block_level quiet.lead quiet.passed [] (own ++ (cut.0 ++ brace ∷ ys)) in
        let three = until_front block_or_semicolon (λ x. g + x) [] ts (cut.0 ++ brace ∷ ys) in
        let four = p.pass (cut.0 ++ brace ∷ ys) in
        let five = passed_on block_level cut.0 cut.1 [] (brace ∷ ys) in
        let six = stop_here block_or_semicolon [] brace ys (ap (stops_at block_or_semicolon) curly) in
        omega (
          arith,
          one,
          two,
          three,
          four,
          five,
          six,
          length-append quiet.lead (own ++ cut.0),
          length-append own cut.0,
          map_length (raised (λ x. g + x)) ts,
        )

    read : (other : List ℕ) → SamePart put other (λ x. g + x) 0 (length put)
        → range_of (words_after other false prelude) ≡ Some (placed_range (λ x. g + x) head)
    read other same =
        let ts = p.first ∷ p.others in
        let words = lead_words other false quiet.lead (own ++ cut.0) quiet.passed in
        ap range_of (words.1 ∙ trail_words other words.0 own cut.0 cut.1
        ∙ words_same put other (λ x. g + x) 0 (length put) same words.0 ts p.inside)
        ∙ range_same put other (λ x. g + x) 0 (length put) same (words_after put words.0 ts)
        ∙ ap (option_map (placed_range (λ x. g + x))) (p.ranged words.0)

-- where it has none
pub without_words : (put gap behind rest : List ℕ) (n e : ℕ) → is_sealed_prelude put ≡ true → ends_in_return put ≡ false
    → range_of (words_of put) ≡ None → Gap block_level gap → Gap block_level behind → n + length gap + length put + length behind ≡ e
    → NewPrelude put gap behind rest n e (range n n)
without_words put gap behind rest n e sealed no_return spans open_gap blank at = by (split_lead p.us)
  where
    v : List ℕ
    v = behind ++ 123 ∷ rest

    p : PutCut put
    p = put_cut put (both (is_sealed put) _ sealed).0 no_return

    some_words : (l : LeadSolid p.us) → ⊥
    some_words l =
        let words = lead_words put false l.lead (l.first ∷ l.rest) l.passed in
        let one = range_some (word_of put words.0 l.first) (words_after put false l.rest) in
        let found : range_of (words_of put) ≡ Some one.0 =
        ap range_of (put_words put p ∙ ap (words_after put false) l.is ∙ words.1 ∙ first_word put words.0 l.first l.rest l.solid) ∙ one.1 in
        clash one.0 (sym spans ∙ found)
      where
        clash : (r : Range) → ◌≡◌ {A = Option Range} None (Some r) → ⊥
        clash r h = cc

    by : AllPassed block_level p.us ⊎ LeadSolid p.us → NewPrelude put gap behind rest n e (range n n)
    by (inr l) = absurd (some_words l)
    by (inl all) =
        let open_put = gap_of block_level (p.trail ++ v)
        (omega (arith, length-append p.trail v, length-append behind (123 ∷ rest))) 0 p.front p.us
        (p.whole v (facts_gap behind rest blank)) all in
        let z = gap ++ (p.front ++ (p.trail ++ behind)) in
        let k = gap_pieces n z rest
        (gap_append block_level gap (p.front ++ (p.trail ++ behind)) open_gap
        (gap_append block_level p.front (p.trail ++ behind) open_put
        (gap_append block_level p.trail behind (gap_whites block_level p.trail p.blank) blank))) in
        let whole : gap ++ (put ++ v) ≡ z ++ 123 ∷ rest =
        ap (λ (x : List ℕ). gap ++ (x ++ v)) p.parted
        ∙ ap (λ (x : List ℕ). gap ++ x) (append_assoc p.front p.trail v
        ∙ ap (λ (x : List ℕ). p.front ++ x) (sym (append_assoc p.trail behind (123 ∷ rest)))
        ∙ sym (append_assoc p.front (p.trail ++ behind) (123 ∷ rest)))
        ∙ sym (append_assoc gap (p.front ++ (p.trail ++ behind)) (123 ∷ rest)) in
        let size : n + length z ≡ e = omega (
          arith,
          at,
          ap length p.parted,
          length-append p.front p.trail,
          length-append gap (p.front ++ (p.trail ++ behind)),
          length-append p.front (p.trail ++ behind),
          length-append p.trail behind,
        ) in
        record {
          prelude = k.lead;
          nested = passed_nested block_level k.lead k.passed;
          ends = λ brace ys curly.
              let on = passed_on block_level k.lead k.passed [] (brace ∷ ys) in
              let here = stop_here block_or_semicolon [] brace ys (ap (stops_at block_or_semicolon) curly) in
              omega (arith, on, here);
          is = ap (pieces_after n 0) whole ∙ k.is ∙ ap (λ (x : ℕ). k.lead ++ brace_at x ∷ pieces_after (x + 1) 0 rest) size;
          read = λ other keyword end same.
              ap (λ (ws : List Word). prelude_range keyword (range_of ws)) (passed_words other k.lead k.passed)
              ∙ (λ i. range (end i) (end i));
        }
