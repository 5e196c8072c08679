-- A sealed text with no `{` or `;` outside brackets, behind the keyword of a media rule and before a `{`: the pieces of its prelude.
use Rattle.std.proofs.Common.{◌≡◌, ◌⊎◌, inl, inr, ℕ, ◌+◌, ◌<◌, ◌≤◌, ◌&&◌, Bool, true, false, List, [], ◌∷◌, ◌++◌, map}
use Rattle.std.proofs.Common.{length, Option, Some, None, refl, sym, ap, subst, ◌∙◌, append_assoc, append-nil, length-append}
use Rattle.std.proofs.Common.{arith}
use Rattle.std.proofs.lemmas.Bool.{eqb-true}
use Rattle.css_tokens.specs.declared.token.Token.{Token}
use Rattle.css_tokens.specs.declared.token.TokenKind.{TokenKind}
use Rattle.css_tokens.specs.declared.token.TokenKind.TheVariants as tokens
use Rattle.css_tokens.specs.Pieces.{pieces, pieces_after}
use Rattle.css_tokens.specs.Seams.{IsWholeBefore}
use Rattle.selectors.specs.Words.{words_after}
use Rattle.selectors.specs.Reading.{range_of}
use Rattle.sheet_reader.specs.declared.brackets.Bracket.{Bracket}
use Rattle.sheet_reader.specs.declared.brackets.Nesting.TheVariants.{Closed}
use Rattle.sheet_reader.specs.declared.brackets.Stop.TheVariants as stops
use Rattle.sheet_reader.specs.declared.parts.Level.{Level}
use Rattle.sheet_reader.specs.declared.parts.Level.TheVariants.{Top, Inner}
use Rattle.sheet_reader.specs.Brackets.{opened_by, closed_by, is_none_open, stops_at, open_after, open_by, until_in, until, nesting}
use Rattle.sheet_reader.specs.Grammar.{AreNested}
use Rattle.sheet_reader.specs.Layout.{prelude_range}
use Rattle.sheet_reader.specs.Parts.{is_passed}
use Rattle.sheet_reader.specs.Sealing.{is_sealed, is_sealed_prelude}
use Rattle.sheet_reader.proofs.BracketLemmas.{go_on, stop_here}
use Rattle.sheet_reader.proofs.ExchangeForms.{reaches}
use Rattle.sheet_reader.proofs.FreeWords.{closed_opens}
use Rattle.sheet_reader.proofs.Gaps.{AllPassed, Gap, gap_append, gap_whites}
use Rattle.sheet_reader.proofs.Gaps.{gap_of, skips, passed_top}
use Rattle.sheet_reader.proofs.MadePreludes.{tail_pieces, put_on}
use Rattle.std.specs.List.{AllByRecursion}
use Rattle.css_tokens.specs.declared.token.Range.{Range}
use Rattle.selectors.specs.Words.{word_of}
use Rattle.selectors.specs.declared.words.Word.{Word}
use Rattle.sheet_reader.proofs.PutPieces.{at_place, passed_words}
use Rattle.sheet_reader.proofs.PreludeWords.{lead_words, first_word, range_some}
use Rattle.sheet_reader.proofs.MovedLaw.{white_last, closed_is}
use Rattle.sheet_reader.proofs.NestingForms.{closed_nested}
use Rattle.sheet_reader.proofs.OpenForms.{passes}
use Rattle.sheet_reader.proofs.PartMoves.{map_length}
use Rattle.sheet_reader.proofs.PreludeWords.{passed_nested, nested_append, passed_nesting, until_front}
use Rattle.sheet_reader.proofs.PutPieces.{WholeParts, whole_split, solid_begin, LeadSolid, split_lead}
use Rattle.sheet_reader.proofs.Raised.{raised}
use Rattle.sheet_reader.proofs.ReadMoves.{AllTokens, nesting_raised}
use Rattle.sheet_reader.proofs.SealedCuts.{SealedPieces, sealed_pieces, sealed_either, white_is, AllWhite}
use Rattle.sheet_reader.proofs.SealedSeams.{CutBefore, cut_before}
use Rattle.sheet_reader.proofs.SpaceUnits.{both}

-- ---- the pieces behind the keyword

pub and_no : (a b : Bool) → b ≡ false → (a && b) ≡ false
and_no true b e = e
and_no false b e = refl

plain_kind : (k : TokenKind) → is_passed Top k ≡ true
    → (opened_by k ≡ None) × (closed_by k ≡ None) × (stops_at stops.BlockOrSemicolon k ≡ false)
plain_kind tokens.Comment e = (refl, refl, refl)
plain_kind tokens.WhiteSpace e = (refl, refl, refl)
plain_kind tokens.Cdo e = (refl, refl, refl)
plain_kind tokens.Cdc e = (refl, refl, refl)
plain_kind _ e = absurd (cc)

-- the search passes pieces that are passed over
pub passed_on : (level : Level) (lead : List Token) → AllPassed level lead → (bs : List Bracket) (rest : List Token)
    → until_in stops.BlockOrSemicolon bs (lead ++ rest) ≡ length lead + until_in stops.BlockOrSemicolon bs rest
passed_on level [] all bs rest = omega arith
passed_on level (t ∷ lead) all bs rest =
    let p = plain_kind t.kind (passed_top level t.kind all.0) in
    let on = go_on stops.BlockOrSemicolon bs t (lead ++ rest) (and_no (is_none_open bs) (stops_at stops.BlockOrSemicolon t.kind) p.2) in
    let same : open_after bs t.kind ≡ bs = λ i. open_by bs (p.0 i) (p.1 i) in
    let next = ap (λ (x : List Bracket). until_in stops.BlockOrSemicolon x (lead ++ rest)) same in
    let more = passed_on level lead all.1 bs rest in
    omega (arith, on, next, more)

-- a prelude and its `{`
pub record NewPrelude (place size : ℕ) (tail : List ℕ) : Type 0 where
  pub prelude : List Token
  pub brace : Token
  pub zs : List Token
  pub is : pieces_after place 0 tail ≡ prelude ++ brace ∷ zs
  pub nested : AreNested prelude
  pub curly : brace.kind ≡ tokens.OpenCurly
  pub ends : (rest : List Token) → until stops.BlockOrSemicolon (prelude ++ brace ∷ rest) ≡ length prelude
  -- it starts among the first codes, and the `{` stands behind them
  pub starts : (text : List ℕ) (keyword : Token) → keyword.end ≤ place
      → (prelude_range keyword (range_of (words_after text false prelude))).start ≤ place + size
  pub far : place + size < brace.end
  pub hi : ℕ
  pub left : AllTokens brace.end hi zs

brace_here : (brace : Token) (rest : List Token) → brace.kind ≡ tokens.OpenCurly → until stops.BlockOrSemicolon (brace ∷ rest) ≡ 0
brace_here brace rest curly = stop_here stops.BlockOrSemicolon [] brace rest (ap (stops_at stops.BlockOrSemicolon) curly)

-- the search passes the pieces of the text put in, but for white space at its end
pub us_on : (put : List ℕ) (us : List Token) → is_sealed_prelude put ≡ true → nesting us ≡ Closed
    → (pieces put ≡ us) ⊎ ((w : Token) × (pieces put ≡ us ++ w ∷ []) × (w.kind ≡ tokens.WhiteSpace)) → (ys : List Token)
    → until stops.BlockOrSemicolon (us ++ ys) ≡ length us + until stops.BlockOrSemicolon ys
us_on put us sealed closed either ys =
    passes stops.BlockOrSemicolon us ys [] (by either)
    ∙ ap (λ (bs : List Bracket). length us + until_in stops.BlockOrSemicolon bs ys) (closed_opens [] us closed)
  where
    all : until stops.BlockOrSemicolon (pieces put) ≡ length (pieces put)
    all = eqb-true _ _ (both (is_sealed put) _ sealed).1

    by : (pieces put ≡ us) ⊎ ((w : Token) × (pieces put ≡ us ++ w ∷ []) × (w.kind ≡ tokens.WhiteSpace))
        → length us ≤ until stops.BlockOrSemicolon (us ++ ys)
    by (inl e) =
        let cut : until stops.BlockOrSemicolon (us ++ []) ≡ length us =
        ap (until stops.BlockOrSemicolon) (append-nil us)
        ∙ subst (λ (ts : List Token). until stops.BlockOrSemicolon ts ≡ length ts) e all in
        reaches stops.BlockOrSemicolon us [] ys [] (omega (arith, cut))
    by (inr w) =
        let cut : until stops.BlockOrSemicolon (us ++ w.0 ∷ []) ≡ length (us ++ w.0 ∷ []) =
        subst (λ (ts : List Token). until stops.BlockOrSemicolon ts ≡ length ts) w.1 all in
        reaches stops.BlockOrSemicolon us (w.0 ∷ []) ys [] (omega (arith, cut, length-append us (w.0 ∷ [])))

-- where it has words or marks
put_prelude : (put gap rest lead front trail : List ℕ) (us : List Token) → put ≡ front ++ trail → AllWhite trail → Gap Inner gap
    → Gap Inner lead → (place : ℕ) (l : LeadSolid us)
    → nesting us ≡ Closed
    → ((ys : List Token) → until stops.BlockOrSemicolon (us ++ ys) ≡ length us + until stops.BlockOrSemicolon ys)
    → WholeParts (trail ++ (gap ++ 123 ∷ rest)) 0 front l.lead (l.first ∷ l.rest)
    → (size : ℕ) → l.first.start < size → size ≤ length put → NewPrelude place (length lead + size) (lead ++ (put ++ (gap ++ 123 ∷ rest)))
put_prelude put gap rest lead front trail us parts_are white blank open_lead place l closed ends w limit early within =
    let v = gap ++ 123 ∷ rest in
    let ts = l.first ∷ l.rest in
    let Y = w.behind ++ (trail ++ v) in
    let whole : IsWholeBefore (trail ++ v) (length w.front) w.behind ts =
    subst (λ (n : ℕ). IsWholeBefore (trail ++ v) n w.behind ts) (omega arith) w.second in
    let b = solid_begin (trail ++ v) (length w.front) w.behind l.first l.rest whole l.solid in
    let open_front = gap_of Inner Y (omega (arith, b.1, length-append w.behind (trail ++ v))) 0 w.front l.lead w.first l.passed in
    let z = lead ++ w.front in
    let parted : lead ++ (put ++ v) ≡ z ++ Y =
    ap (λ (t : List ℕ). lead ++ (t ++ v)) (parts_are ∙ ap (λ (t : List ℕ). t ++ trail) w.is)
    ∙ ap (λ (t : List ℕ). lead ++ t) (append_assoc (w.front ++ w.behind) trail v ∙ append_assoc w.front w.behind (trail ++ v))
    ∙ sym (append_assoc lead w.front Y) in
    let k = (skips Inner Y b.0 z (gap_append Inner lead w.front open_lead open_front) place).start in
    let n = place + length lead in
    let at : place + length z ≡ n + length w.front = omega (arith, length-append lead w.front) in
    let t = tail_pieces (n + (length w.front + length w.behind)) (trail ++ gap) rest
    (gap_append Inner trail gap (gap_whites Inner trail white) blank) in
    let f = λ (x : ℕ). n + x in
    let own = map (raised f) ts in
    let on = put_on put n w.behind (trail ++ v) (length w.front) ts whole in
    let closed_rest : nesting ts ≡ Closed = sym (passed_nesting Inner l.lead l.passed [] ts) ∙ sym (ap nesting l.is) ∙ closed in
    record {
      prelude = k.lead ++ (own ++ t.trail);
      brace = t.brace;
      zs = t.zs;
      is = ap (pieces_after place 0) parted ∙ k.is
          ∙ ap (λ (x : List Token). k.lead ++ x)
          (ap (λ (m : ℕ). pieces_after m 0 Y) at ∙ on
          ∙ ap (λ (x : List Token). own ++ x)
          (ap (pieces_after (n + (length w.front + length w.behind)) 0) (sym (append_assoc trail gap (123 ∷ rest))) ∙ t.is)
          ∙ sym (append_assoc own t.trail (t.brace ∷ t.zs)))
          ∙ sym (append_assoc k.lead (own ++ t.trail) (t.brace ∷ t.zs));
      nested = nested_append k.lead (own ++ t.trail) (passed_nested Inner k.lead k.passed)
          (nested_append own t.trail (closed_nested own (nesting_raised f [] ts ∙ closed_rest)) (passed_nested Inner t.trail t.blank));
      curly = t.curly;
      ends = λ ys. count k.lead k.passed t.trail t.blank t.brace t.curly f ys;
      starts = λ text keyword at.
          let moved = lead_words text false k.lead (own ++ t.trail) k.passed in
          let one = range_some (word_of text moved.0 (raised f l.first)) (words_after text false (map (raised f) l.rest ++ t.trail)) in
          let found : range_of (words_after text false (k.lead ++ (own ++ t.trail))) ≡ Some one.0 =
          ap range_of (moved.1 ∙ first_word text moved.0 (raised f l.first) (map (raised f) l.rest ++ t.trail) l.solid) ∙ one.1 in
          let start : (prelude_range keyword (range_of (words_after text false (k.lead ++ (own ++ t.trail))))).start ≡ n + l.first.start =
          ap (λ (o : Option Range). (prelude_range keyword o).start) found ∙ one.2 in
          omega (arith, start, early);
      far = omega (
        arith,
        t.far,
        within,
        ap length parts_are,
        ap length w.is,
        length-append front trail,
        length-append w.front w.behind,
        length-append trail gap,
      );
      hi = t.brace.end + length rest;
      left = t.left;
    }
  where
    own_ends : (ys : List Token)
        → until stops.BlockOrSemicolon ((l.first ∷ l.rest) ++ ys) ≡ length (l.first ∷ l.rest) + until stops.BlockOrSemicolon ys
    own_ends ys =
        let on = passed_on Inner l.lead l.passed [] ((l.first ∷ l.rest) ++ ys) in
        let all = ends ys in
        let cut : until stops.BlockOrSemicolon (us ++ ys) ≡ until stops.BlockOrSemicolon (l.lead ++ ((l.first ∷ l.rest) ++ ys)) =
        ap (λ (xs : List Token). until stops.BlockOrSemicolon (xs ++ ys)) l.is
        ∙ ap (until stops.BlockOrSemicolon) (append_assoc l.lead (l.first ∷ l.rest) ys) in
        let size : length us ≡ length l.lead + length (l.first ∷ l.rest) =
        ap (λ (xs : List Token). length xs) l.is ∙ length-append l.lead (l.first ∷ l.rest) in
        omega (arith, on, all, cut, size)

    count : (lead : List Token) → AllPassed Inner lead → (trail : List Token) → AllPassed Inner trail → (brace : Token)
        → brace.kind ≡ tokens.OpenCurly → (f : ℕ → ℕ) (ys : List Token)
        → until stops.BlockOrSemicolon ((lead ++ (map (raised f) (l.first ∷ l.rest) ++ trail)) ++ brace ∷ ys)
        ≡ length (lead ++ (map (raised f) (l.first ∷ l.rest) ++ trail))
    count lead quiet trail blank brace curly f ys =
        let ts = l.first ∷ l.rest in
        let own = map (raised f) ts in
        let one = ap (until stops.BlockOrSemicolon) (append_assoc lead (own ++ trail) (brace ∷ ys)
        ∙ ap (λ (x : List Token). lead ++ x) (append_assoc own trail (brace ∷ ys))) in
        let two = passed_on Inner lead quiet [] (own ++ (trail ++ brace ∷ ys)) in
        let three = until_front stops.BlockOrSemicolon f [] ts (trail ++ brace ∷ ys) in
        let four = own_ends (trail ++ brace ∷ ys) in
        let five = passed_on Inner trail blank [] (brace ∷ ys) in
        let six = brace_here brace ys curly in
        omega
        (arith, one, two, three, four, five, six, length-append lead (own ++ trail), length-append own trail, map_length (raised f) ts)

-- where it has none
blank_prelude : (put gap rest lead front trail : List ℕ) (us : List Token) → put ≡ front ++ trail → AllWhite trail → Gap Inner gap
    → Gap Inner lead → (place : ℕ) → AllPassed Inner us → (size : ℕ) → size ≤ length put
    → IsWholeBefore (trail ++ (gap ++ 123 ∷ rest)) 0 front us → NewPrelude place (length lead + size) (lead ++ (put ++ (gap ++ 123 ∷ rest)))
blank_prelude put gap rest lead front trail us parts_are white blank open_lead place all limit within whole =
    let v = gap ++ 123 ∷ rest in
    let open_front =
    gap_of Inner (trail ++ v) (omega (arith, length-append trail v, length-append gap (123 ∷ rest))) 0 front us whole all in
    let z = lead ++ (front ++ (trail ++ gap)) in
    let t = tail_pieces place z rest
    (gap_append Inner lead (front ++ (trail ++ gap)) open_lead
    (gap_append Inner front (trail ++ gap) open_front (gap_append Inner trail gap (gap_whites Inner trail white) blank))) in
    let parted : lead ++ (put ++ v) ≡ z ++ 123 ∷ rest =
    ap (λ (x : List ℕ). lead ++ (x ++ v)) parts_are
    ∙ ap (λ (x : List ℕ). lead ++ x) (append_assoc front trail v
    ∙ ap (λ (x : List ℕ). front ++ x) (sym (append_assoc trail gap (123 ∷ rest)))
    ∙ sym (append_assoc front (trail ++ gap) (123 ∷ rest)))
    ∙ sym (append_assoc lead (front ++ (trail ++ gap)) (123 ∷ rest)) in
    record {
      prelude = t.trail;
      brace = t.brace;
      zs = t.zs;
      is = ap (pieces_after place 0) parted ∙ t.is;
      nested = passed_nested Inner t.trail t.blank;
      curly = t.curly;
      ends = λ ys.
          let on = passed_on Inner t.trail t.blank [] (t.brace ∷ ys) in
          let here = brace_here t.brace ys t.curly in
          omega (arith, on, here);
      starts = λ text keyword at.
          let none : (prelude_range keyword (range_of (words_after text false t.trail))).start ≡ keyword.end =
          ap (λ (ws : List Word). (prelude_range keyword (range_of ws)).start) (passed_words text t.trail t.blank) in
          omega (arith, none, at);
      far = omega (
        arith,
        t.far,
        within,
        ap length parts_are,
        length-append front trail,
        length-append lead (front ++ (trail ++ gap)),
        length-append front (trail ++ gap),
        length-append trail gap,
      );
      hi = t.brace.end + length rest;
      left = t.left;
    }

pub new_prelude : (put gap rest lead : List ℕ) → is_sealed_prelude put ≡ true → Gap Inner gap → Gap Inner lead → (place : ℕ)
    → NewPrelude place (length lead + length put) (lead ++ (put ++ (gap ++ 123 ∷ rest)))
new_prelude put gap rest lead sealed blank open_lead place =
    subst (λ (t : List ℕ). NewPrelude place (length lead + length put) (lead ++ t)) c.same (by (split_lead us))
  where
    s : SealedPieces put
    s = sealed_pieces put (both (is_sealed put) _ sealed).0

    c : CutBefore put gap rest s
    c = cut_before put gap rest s blank

    us : List Token
    us = map (raised c.moved) s.us

    all_closed : nesting s.us ≡ Closed
    all_closed = sym (white_last [] s.us s.white (white_is s.white.kind s.is_white)) ∙ closed_is (nesting (s.us ++ s.white ∷ [])) s.nested

    ends : (ys : List Token) → until stops.BlockOrSemicolon (us ++ ys) ≡ length us + until stops.BlockOrSemicolon ys
    ends ys =
        let same = until_front stops.BlockOrSemicolon c.moved [] s.us ys in
        let on = us_on put s.us sealed all_closed (sealed_either put s) ys in
        omega (arith, same, on, map_length (raised c.moved) s.us)

    by : AllPassed Inner us ⊎ LeadSolid us → NewPrelude place (length lead + length put) (lead ++ (c.text ++ (c.behind ++ 123 ∷ rest)))
    by (inl all) = blank_prelude c.text c.behind rest lead c.front c.trail us c.parted c.white c.blank open_lead place all
        (length put) c.long c.whole
    by (inr l) = put_prelude c.text c.behind rest lead c.front c.trail us c.parted c.white c.blank open_lead place l
        (nesting_raised c.moved [] s.us ∙ all_closed) ends
        (whole_split (c.trail ++ (c.behind ++ 123 ∷ rest)) 0 c.front l.lead (l.first ∷ l.rest)
        (subst (IsWholeBefore (c.trail ++ (c.behind ++ 123 ∷ rest)) 0 c.front) l.is c.whole))
        (length put) (at_place (length put) l.lead l.first l.rest (subst (AllByRecursion (λ t. t.start < length put)) l.is c.early)) c.long
