-- Where the prelude of a style rule is replaced by a sealed list of selectors, there is a rule with that prelude.
use Rattle.std.proofs.Common.{◌≡◌, ◌⊎◌, inl, inr, ℕ, suc, ◌+◌, ◌<◌, ◌≤◌, nat_lt, Bool, true, false, cond, ◌&&◌, List, [], ◌∷◌, ◌++◌, map}
use Rattle.std.proofs.Common.{length, take}
use Rattle.std.proofs.Common.{drop, Option, Some, None, refl, sym, ap, subst, ◌∙◌, append_assoc, append-nil, length-append, arith}
use Rattle.std.specs.List.{AllByRecursion, prefix_len}
use Rattle.std.specs.Prelude.{slice_get, option_map, IsSomeAnd}
use Rattle.std.specs.Str.{IsUtf8}
use Rattle.std.proofs.lemmas.Str.{IsCharBoundary-start}
use Rattle.std.proofs.lemmas.Bool.Decides.{nat_tests}
use Rattle.std.proofs.Math.Seq.{drop-append_seam, take-append_seam}
use Rattle.css_tokens.specs.declared.token.Range.{Range}
use Rattle.css_tokens.specs.declared.token.Token.{Token}
use Rattle.css_tokens.specs.declared.token.TokenKind.{TokenKind}
use Rattle.css_tokens.specs.declared.token.TokenKind.TheVariants as tokens
use Rattle.css_tokens.specs.Pieces.{pieces, pieces_after}
use Rattle.css_tokens.specs.Rows.{piece}
use Rattle.css_tokens.specs.Seams.{IsWholeBefore, no_more}
use Rattle.css_tokens.proofs.Cuts.{piece_first}
use Rattle.css_tokens.proofs.SeamPieces.{pieces_at}
use Rattle.selectors.specs.declared.words.Word.{Word}
use Rattle.selectors.specs.Words.{word_reading, word_of, words_after}
use Rattle.selectors.specs.Forms.{SelectorForm}
use Rattle.selectors.specs.Moves.{placed_range, placed_selector}
use Rattle.selectors.specs.Ranges.{AreTiles}
use Rattle.selectors.specs.Reading.{range_of, selector_list_of, selectors_of}
use Rattle.selectors.proofs.RangeForms.{tiles_whole, tiles_cut}
use Rattle.sheet_reader.specs.declared.brackets.Bracket.{Bracket}
use Rattle.sheet_reader.specs.declared.brackets.Bracket.TheVariants.{Curly}
use Rattle.sheet_reader.specs.declared.brackets.Nesting.TheVariants.{Closed}
use Rattle.sheet_reader.specs.declared.brackets.Stop.TheVariants as stops
use Rattle.sheet_reader.specs.declared.parts.Level.{Level}
use Rattle.sheet_reader.specs.declared.parts.Level.TheVariants.{Top, Inner}
use Rattle.sheet_reader.specs.Brackets.{is_none_open, open_after, stops_at, until_in, until, nesting}
use Rattle.sheet_reader.specs.Forms.{range, RuleForm}
use Rattle.sheet_reader.specs.Moves.{replaced}
use Rattle.sheet_reader.specs.Preludes.{BeginsIn, HasPreludeIn}
use Rattle.sheet_reader.specs.Grammar.{is_at_keyword, AreNested}
use Rattle.sheet_reader.specs.Parts.{is_passed, parts}
use Rattle.sheet_reader.specs.Layout.{level_of, laid_out}
use Rattle.sheet_reader.specs.Sealing.{is_sealed}
use Rattle.sheet_reader.specs.Sheets.{rules_in, sheet_of}
use Rattle.sheet_reader.proofs.BracketLemmas.{go_on, stop_here}
use Rattle.sheet_reader.proofs.Gaps.{AllPassed, Gap, gap_append, gap_anywhere, gap_whites, gap_of, skips, passed_top}
use Rattle.sheet_reader.proofs.MarkTexts.{Marked, mark_part, semi_piece, semi_first}
use Rattle.sheet_reader.proofs.NestingForms.{closed_nested}
use Rattle.sheet_reader.proofs.OldPreludes.{OldPrelude, old_prelude, same_front}
use Rattle.sheet_reader.proofs.PartMoves.{map_append, map_length}
use Rattle.sheet_reader.proofs.PreludeWords.{first_word, range_some, trail_words, passed_until, passed_nested, nested_append, until_front}
use Rattle.sheet_reader.proofs.PutPieces.{WholeParts, whole_split, whole_on, ends_there, inner_solid, PutPieces, put_pieces}
use Rattle.sheet_reader.proofs.Raised.{raised, raised_word}
use Rattle.sheet_reader.proofs.ReadMoves.{AllTokens, words_same, words_in, nesting_raised}
use Rattle.sheet_reader.proofs.SealedCuts.{open_first, open_piece, close_first, close_piece, equal_halves, split_at}
use Rattle.sheet_reader.proofs.SpotEnds.{is_mark_kind, EndsMarked, Strip, bare, marked, strip}
use Rattle.sheet_reader.proofs.SpotPaths.{spot_of}
use Rattle.sheet_reader.proofs.Spots.{Spot, at_spot, Led, reads, nested_stays, led_lead}
use Rattle.sheet_reader.proofs.SpotStarts.{StartsBy, all_by, whole_seam, spot_starts}
use Rattle.sheet_reader.proofs.TextMoves.{pieces_moved, same_part, whole_tokens, widen}
use Rattle.sheet_reader.proofs.WordMoves.{SamePart, list_same, range_same}

-- ---- the place between parts, where the prelude begins
pub record Placed (text : List ℕ) (front : List Token) : Type 0 where
  pub a : Option ℕ
  pub j : ℕ
  pub rs : List RuleForm
  pub own : List Token
  pub lead : List Token
  pub is : front ≡ own ++ lead
  pub spot : Spot text None 0 a j rs own
  pub passed : AllPassed (level_of a) lead
  pub ends : (own ≡ []) ⊎ EndsMarked own

pub placed_with : (text : List ℕ) (a : Option ℕ) (j : ℕ) (front : List Token) → Strip text None 0 a j front
    → (l : Placed text front) × (l.j ≡ j)
placed_with text a j front s = by s refl refl
  where
    by : {around b : Option ℕ} {k g : ℕ} → Strip text around k b g front → around ≡ None → k ≡ 0 → (l : Placed text front) × (l.j ≡ g)
    by {around = around} {k = k} (bare _ all) e f = (
      record {
        a = around;
        j = k;
        rs = [];
        own = [];
        lead = front;
        is = refl;
        spot = subst (λ (x : Option ℕ). Spot text x 0 around k [] []) e
            (subst (λ (n : ℕ). Spot text around n around k [] []) f at_spot);
        passed = all;
        ends = inl refl;
      },
      refl,
    )
    by {around = around} {b = b} {g = g} (marked _ own lead rs is ends spot all) e f = (
      record {
        a = b;
        j = g;
        rs = rs;
        own = own;
        lead = lead;
        is = is;
        spot = subst (λ (x : Option ℕ). Spot text x 0 b g rs own) e
            (subst (λ (n : ℕ). Spot text around n b g rs own) f spot);
        passed = all;
        ends = inr ends;
      },
      refl,
    )

pub placed_at : (text : List ℕ) (a : Option ℕ) (j : ℕ) (front : List Token) → Strip text None 0 a j front → Placed text front
placed_at text a j front s = (placed_with text a j front s).0

-- pieces up to a mark, or none, are whole before anything
none_whole : (after other front : List ℕ) (own : List Token) → own ≡ [] → IsWholeBefore after 0 front own → IsWholeBefore other 0 front own
none_whole after other _ _ e no_more = no_more
none_whole after other front (t ∷ ts) e whole = absurd (cc)

mark_whole : (text front after : List ℕ) (own : List Token) → text ≡ front ++ after → IsWholeBefore after 0 front own → EndsMarked own
    → (other : List ℕ) → IsWholeBefore other 0 front own
mark_whole text front after own is whole m other =
    let ts = pieces_after (length front) 0 after in
    let cuts : pieces text ≡ m.before ++ m.last ∷ ts =
    ap pieces is ∙ pieces_at after front own whole ∙ ap (λ (l : List Token). l ++ ts) m.is ∙ append_assoc m.before (m.last ∷ []) ts in
    let k = by ts cuts m.last.kind refl m.kind in
    let end = ends_there after 0 front m.before m.last (subst (IsWholeBefore after 0 front) m.is whole) in
    let same = (equal_halves front after k.front k.after (sym is ∙ k.is) (omega (arith, end, k.end))).0 in
    subst (λ (x : List ℕ). IsWholeBefore other 0 x own) (sym same)
    (subst (IsWholeBefore other 0 k.front) (sym m.is) (k.whole other))
  where
    by : (ts : List Token) → pieces text ≡ m.before ++ m.last ∷ ts → (k : TokenKind) → m.last.kind ≡ k → is_mark_kind k ≡ true
        → Marked text m.before m.last ts
    by ts cuts tokens.OpenCurly e h = mark_part 123 tokens.OpenCurly refl open_piece open_first text m.before m.last ts cuts e
    by ts cuts tokens.CloseCurly e h = mark_part 125 tokens.CloseCurly refl close_piece close_first text m.before m.last ts cuts e
    by ts cuts tokens.Semicolon e h = mark_part 59 tokens.Semicolon refl semi_piece semi_first text m.before m.last ts cuts e
    by ts cuts _ e h = absurd (cc)

pub ends_whole : (text front after : List ℕ) (own : List Token) → text ≡ front ++ after → IsWholeBefore after 0 front own
    → (own ≡ []) ⊎ EndsMarked own → (other : List ℕ) → IsWholeBefore other 0 front own
ends_whole text front after own is whole (inl none) other = none_whole after other front own none whole
ends_whole text front after own is whole (inr m) other = mark_whole text front after own is whole m other

-- ---- the new prelude

-- what is read from its pieces
record NewPrelude (text put : List ℕ) (n : ℕ) (first : Token) (rest trail : List Token) : Type 0 where
  place : Range
  start : place.start ≡ n + first.start
  ss : List SelectorForm
  ranged : range_of (words_after text false (map (raised (λ x. n + x)) (first ∷ rest) ++ trail)) ≡ Some place
  listed : selector_list_of (word_reading text (words_after text false (map (raised (λ x. n + x)) (first ∷ rest) ++ trail))) ≡ Some ss

new_prelude : (text put : List ℕ) (n : ℕ) (first : Token) (rest trail : List Token) (ss : List SelectorForm)
    → SamePart put text (λ x. n + x) 0 (length put) → AllTokens 0 (length put) (first ∷ rest) → is_passed Inner first.kind ≡ false
    → AllPassed Inner trail → selector_list_of (word_reading put (words_after put false (first ∷ rest))) ≡ Some ss
    → NewPrelude text put n first rest trail
new_prelude text put n first rest trail ss same inside solid passed listed =
    let f = λ (x : ℕ). n + x in
    let ts = first ∷ rest in
    let ws = words_after put false ts in
    let words : words_after text false (map (raised f) ts ++ trail) ≡ map (raised_word f) ws =
    trail_words text false (map (raised f) ts) trail passed ∙ words_same put text f 0 (length put) same false ts inside in
    let own = range_some (word_of put false first) (words_after put false rest) in
    let found : range_of ws ≡ Some own.0 = ap range_of (first_word put false first rest solid) ∙ own.1 in
    record {
      place = placed_range f own.0;
      start = ap (λ (x : ℕ). n + x) own.2;
      ss = map (placed_selector f) ss;
      ranged = ap range_of words ∙ range_same put text f 0 (length put) same ws ∙ ap (option_map (placed_range f)) found;
      listed = ap (λ (xs : List Word). selector_list_of (word_reading text xs)) words
          ∙ list_same put text f 0 (length put) same ws (words_in put text f 0 (length put) same false ts inside)
          ∙ ap (option_map (map (placed_selector f))) listed;
    }

-- the search for its `{`
new_ends : (f : ℕ → ℕ) (ts trail : List Token) (brace : Token) → brace.kind ≡ tokens.OpenCurly → AllPassed Inner trail
    → ((ys : List Token) → until stops.Block (ts ++ ys) ≡ length ts + until stops.Block ys) → (rest : List Token)
    → until stops.Block ((map (raised f) ts ++ trail) ++ brace ∷ rest) ≡ length (map (raised f) ts ++ trail)
new_ends f ts trail brace curly passed ends rest =
    let whole = ap (until stops.Block) (append_assoc (map (raised f) ts) trail (brace ∷ rest)) in
    let front = until_front stops.Block f [] ts (trail ++ brace ∷ rest) in
    let own = ends (trail ++ brace ∷ rest) in
    let on = passed_until Inner trail passed [] (brace ∷ rest) in
    let here = stop_here stops.Block [] brace rest (ap (stops_at stops.Block) curly) in
    omega (arith, whole, front, own, on, here, length-append (map (raised f) ts) trail, map_length (raised f) ts)

-- the search passes a `{`
pub curly_on : (bs : List Bracket) (brace : Token) (rest : List Token) → brace.kind ≡ tokens.OpenCurly
    → until_in stops.BlockEnd bs (brace ∷ rest) ≡ suc (until_in stops.BlockEnd (Curly ∷ bs) rest)
curly_on bs brace rest curly =
    go_on stops.BlockEnd bs brace rest (by (is_none_open bs) (stops_at stops.BlockEnd brace.kind) (ap (stops_at stops.BlockEnd) curly))
    ∙ ap (λ (k : TokenKind). suc (until_in stops.BlockEnd (open_after bs k) rest)) curly
  where
    by : (a b : Bool) → b ≡ false → (a && b) ≡ false
    by true b e = e
    by false b e = refl

not_passed : (level : Level) (k : TokenKind) → is_passed Top k ≡ false → is_passed level k ≡ false
not_passed level k e = by (is_passed level k) refl
  where
    clash : (b : Bool) → b ≡ true → b ≡ false → ⊥
    clash true g h = cc
    clash false g h = cc

    by : (b : Bool) → is_passed level k ≡ b → is_passed level k ≡ false
    by true h = absurd (clash (is_passed Top k) (passed_top level k h) e)
    by false h = h

-- what the rule that it makes has
abbrev pub MadeAt : Range → Token → RuleForm → Type 0
MadeAt place brace r = (r.prelude ≡ place) × (r.body.start ≡ brace.end)

led_more : (text : List ℕ) (A B : RuleForm → Type 0) (rs : List RuleForm) (ls : _) → ((r : RuleForm) → A r → B r) → Led text A rs ls
    → Led text B rs ls
led_more text A B rs ls give l = record { rule = l.rule; more = l.more; is = l.is; own = give l.rule l.own }

-- such pieces at a place between parts are the prelude of a rule
made_there : (text put : List ℕ) (n : ℕ) (first : Token) (rest lead trail : List Token) (brace : Token) (a : Option ℕ) (j : ℕ)
    (rs : List RuleForm) (own : List Token) → Spot text None 0 a j rs own → AllPassed (level_of a) lead → AllPassed Inner trail
    → brace.kind ≡ tokens.OpenCurly → is_passed Top first.kind ≡ false → is_at_keyword first.kind ≡ false
    → nesting (first ∷ rest) ≡ Closed
    → ((ys : List Token) → until stops.Block ((first ∷ rest) ++ ys) ≡ length (first ∷ rest) + until stops.Block ys)
    → (p : NewPrelude text put n first rest trail) → (zs : List Token)
    → Led text (MadeAt p.place brace) rs
    (laid_out text None 0 (own ++ (lead ++ ((map (raised (λ x. n + x)) (first ∷ rest) ++ trail) ++ brace ∷ zs))))
made_there text put n first rest lead trail brace a j rs own spot passed blank curly solid no_at closed ends p zs =
    subst (λ (l : List Token). Led text (MadeAt p.place brace) rs (laid_out text None 0 (own ++ l))) (core_is zs)
    (reads text core (MadeAt p.place brace) a j stays leads rs own spot zs)
  where
    f : ℕ → ℕ
    f x = n + x

    others : List Token
    others = map (raised f) rest ++ trail

    prelude : List Token
    prelude = raised f first ∷ others

    core : List Token
    core = lead ++ (prelude ++ brace ∷ [])

    core_is : (ys : List Token) → core ++ ys ≡ lead ++ (prelude ++ brace ∷ ys)
    core_is ys = append_assoc lead (prelude ++ brace ∷ []) ys ∙ ap (λ (l : List Token). lead ++ l) (append_assoc prelude (brace ∷ []) ys)

    nested : AreNested (lead ++ prelude)
    nested = nested_append lead prelude (passed_nested (level_of a) lead passed)
        (nested_append (map (raised f) (first ∷ rest)) trail
        (closed_nested (map (raised f) (first ∷ rest)) (nesting_raised f [] (first ∷ rest) ∙ closed)) (passed_nested Inner trail blank))

    stays : (bs : List Bracket) (ys : List Token) → length core ≤ until_in stops.BlockEnd bs (core ++ ys)
    stays bs ys =
        let cut : until_in stops.BlockEnd bs (core ++ ys) ≡ until_in stops.BlockEnd bs ((lead ++ prelude) ++ brace ∷ ys) =
        ap (until_in stops.BlockEnd bs) (core_is ys ∙ sym (append_assoc lead prelude (brace ∷ ys))) in
        let on = nested_stays (lead ++ prelude) nested bs (brace ∷ ys) in
        let one = curly_on bs brace ys curly in
        let size : length core ≡ length (lead ++ prelude) + 1 =
        ap (λ (l : List Token). length l) (sym (append_assoc lead prelude (brace ∷ []))) ∙ length-append (lead ++ prelude) (brace ∷ []) in
        omega (arith, cut, on, one, size)

    leads : (ys : List Token) → Led text (MadeAt p.place brace) [] (laid_out text a j (core ++ ys))
    leads ys =
        subst (λ (l : List Token). Led text (MadeAt p.place brace) [] (laid_out text a j l)) (sym (core_is ys))
        (led_more text _ (MadeAt p.place brace) [] (laid_out text a j (lead ++ (prelude ++ brace ∷ ys))) (λ r o. (o.0, o.2))
        (led_lead text a (raised f first) others brace curly (not_passed (level_of a) first.kind solid) no_at
        (λ ys. new_ends f (first ∷ rest) trail brace curly blank ends ys) p.place p.ss p.ranged p.listed lead passed j ys))

-- ---- the pieces of the new text
record NewPieces (text : List ℕ) (level : Level) (n : ℕ) (own : List Token) (first : Token) (rest : List Token) : Type 0 where
  lead : List Token
  trail : List Token
  brace : Token
  zs : List Token
  is : pieces text ≡ own ++ (lead ++ ((map (raised (λ x. n + x)) (first ∷ rest) ++ trail) ++ brace ∷ zs))
  passed : AllPassed level lead
  blank : AllPassed Inner trail
  curly : brace.kind ≡ tokens.OpenCurly
  far : n ≤ brace.end

brace_pieces : (place : ℕ) (rest : List ℕ) → pieces_after place 0 (123 ∷ rest)
    ≡ (record { kind = tokens.OpenCurly; start = place; end = place + 1 }) ∷ pieces_after (place + 1) 0 rest
brace_pieces place rest = piece_first (123 ∷ rest) place (piece tokens.OpenCurly 1) (open_piece rest) (omega arith) (omega arith)

-- what stands behind the text put in
pub record TailPieces (place : ℕ) (gap rest : List ℕ) : Type 0 where
  pub trail : List Token
  pub brace : Token
  pub zs : List Token
  pub is : pieces_after place 0 (gap ++ 123 ∷ rest) ≡ trail ++ brace ∷ zs
  pub blank : AllPassed Inner trail
  pub curly : brace.kind ≡ tokens.OpenCurly
  pub far : place + length gap < brace.end
  pub left : AllTokens brace.end (brace.end + length rest) zs

-- the pieces of a text that stands at a place
pieces_left : (place : ℕ) (text : List ℕ) → AllTokens place (place + length text) (pieces_after place 0 text)
pieces_left place text =
    let s = split_at (pieces_after place 0 text) [] place text (sym (append-nil (pieces_after place 0 text))) in
    widen place (place + length s.front) place (place + length text) (pieces_after place 0 text) (omega arith)
    (omega (arith, ap length s.is, length-append s.front s.after)) (whole_tokens s.after place s.front (pieces_after place 0 text) s.whole)

pub tail_pieces : (place : ℕ) (gap rest : List ℕ) → Gap Inner gap → TailPieces place gap rest
tail_pieces place gap rest g =
    let k = (skips Inner (123 ∷ rest) refl gap g place).start in
    record {
      trail = k.lead;
      brace = record { kind = tokens.OpenCurly; start = place + length gap; end = place + length gap + 1 };
      zs = pieces_after (place + length gap + 1) 0 rest;
      is = k.is ∙ ap (λ (ts : List Token). k.lead ++ ts) (brace_pieces (place + length gap) rest);
      blank = k.passed;
      curly = refl;
      far = omega arith;
      left = pieces_left (place + length gap + 1) rest;
    }

-- the text put in, and what stands behind it
pub put_on : (put : List ℕ) (n : ℕ) (main behind : List ℕ) (m : ℕ) (ts : List Token) → IsWholeBefore behind m main ts
    → pieces_after (n + m) 0 (main ++ behind) ≡ map (raised (λ x. n + x)) ts ++ pieces_after (n + (m + length main)) 0 behind
put_on put n main behind m ts whole =
    pieces_moved n m 0 (main ++ behind)
    ∙ ap (map (raised (λ x. n + x))) (whole_on behind m main ts whole)
    ∙ map_append (raised (λ x. n + x)) ts (pieces_after (m + length main) 0 behind)
    ∙ ap (λ (l : List Token). map (raised (λ x. n + x)) ts ++ l) (sym (pieces_moved n (m + length main) 0 behind))

new_pieces : (put gap rest : List ℕ) (ss : List SelectorForm) (size : ℕ) → Gap Inner gap → (p : PutPieces put (gap ++ 123 ∷ rest) ss size)
    → (level : Level)
    → (front before : List ℕ) (own : List Token) → IsWholeBefore (before ++ (put ++ (gap ++ 123 ∷ rest))) 0 front own → Gap level before
    → NewPieces (front ++ (before ++ (put ++ (gap ++ 123 ∷ rest)))) level (length (front ++ before)) own p.first p.rest
new_pieces put gap rest ss size blank p level front before own whole g =
    let v = gap ++ 123 ∷ rest in
    let Y = p.main ++ (p.trail ++ v) in
    let n = length (front ++ before) in
    let z = before ++ p.lead in
    let parted : before ++ (put ++ v) ≡ z ++ Y =
    ap (λ (t : List ℕ). before ++ (t ++ v)) p.parted
    ∙ ap (λ (t : List ℕ). before ++ t) (append_assoc p.lead (p.main ++ p.trail) v
    ∙ ap (λ (t : List ℕ). p.lead ++ t) (append_assoc p.main p.trail v))
    ∙ sym (append_assoc before p.lead Y) in
    let k = (skips level Y p.begin z (gap_append level before p.lead g (gap_anywhere level p.lead p.gap)) (length front)).start in
    let at : length front + length z ≡ n + length p.lead = omega (arith, length-append before p.lead, length-append front before) in
    let t = tail_pieces (n + (length p.lead + length p.main)) (p.trail ++ gap) rest
    (gap_append Inner p.trail gap (gap_whites Inner p.trail p.blank) blank) in
    let put_is = put_on put n p.main (p.trail ++ v) (length p.lead) (p.first ∷ p.rest) p.whole in
    let own_ts = map (raised (λ x. n + x)) (p.first ∷ p.rest) in
    record {
      lead = k.lead;
      trail = t.trail;
      brace = t.brace;
      zs = t.zs;
      is = pieces_at (before ++ (put ++ v)) front own whole
          ∙ ap (λ (l : List Token). own ++ l)
          (ap (pieces_after (length front) 0) parted ∙ k.is
          ∙ ap (λ (l : List Token). k.lead ++ l)
          (ap (λ (m : ℕ). pieces_after m 0 Y) at ∙ put_is
          ∙ ap (λ (l : List Token). own_ts ++ l)
          (ap (pieces_after (n + (length p.lead + length p.main)) 0) (sym (append_assoc p.trail gap (123 ∷ rest))) ∙ t.is)
          ∙ sym (append_assoc own_ts t.trail (t.brace ∷ t.zs))));
      passed = k.passed;
      blank = t.blank;
      curly = t.curly;
      far = omega (arith, t.far);
    }

-- ---- the rule that is made
pub record MadePrelude (text put : List ℕ) (old : Range) : Type 0 where
  pub rs : List RuleForm
  pub rule : RuleForm
  pub more : List RuleForm
  pub is : (sheet_of (take old.start text ++ (put ++ drop old.end text))).rules ≡ rs ++ rule ∷ more
  pub starts : old.start ≤ rule.prelude.start
  pub ends : rule.prelude.start < old.start + length put
  pub body : old.start ≤ rule.body.start
  pub before : AllByRecursion (StartsBy old.start) rs

pub front_same : (front x y : List ℕ) → SamePart (front ++ x) (front ++ y) (λ n. n) 0 (length front)
front_same front x y =
    let both : SamePart ([] ++ (front ++ x)) ([] ++ (front ++ y)) (λ n. n) 0 (0 + length front) =
    same_part [] front x [] y (λ n. n) (λ n fits. refl) in
    let at : 0 + length front ≡ length front = omega arith in
    subst (λ (n : ℕ). SamePart (front ++ x) (front ++ y) (λ n. n) 0 n) at both

put_same : (front put behind : List ℕ) → SamePart put (front ++ (put ++ behind)) (λ x. length front + x) 0 (length put)
put_same front put behind =
    let both : SamePart ([] ++ (put ++ [])) (front ++ (put ++ behind)) (λ x. length front + x) 0 (0 + length put) =
    same_part [] put [] front behind (λ x. length front + x)
    (λ x fits. let z : 0 + x ≡ x = omega arith in ap (λ (m : ℕ). length front + m) z) in
    let at : 0 + length put ≡ length put = omega arith in
    subst (λ (n : ℕ). SamePart put (front ++ (put ++ behind)) (λ x. length front + x) 0 n) at
    (subst (λ (t : List ℕ). SamePart t (front ++ (put ++ behind)) (λ x. length front + x) 0 (0 + length put)) (append-nil put) both)

record MadeIn (text : List ℕ) (n size : ℕ) : Type 0 where
  rs : List RuleForm
  rule : RuleForm
  more : List RuleForm
  is : (sheet_of text).rules ≡ rs ++ rule ∷ more
  starts : n ≤ rule.prelude.start
  ends : rule.prelude.start < n + size
  body : n ≤ rule.body.start
  before : AllByRecursion (StartsBy n) rs

-- in the text taken apart
made_in : (text : List ℕ) (r : RuleForm) (o : OldPrelude text r) (put gap : List ℕ) (ss : List SelectorForm) (size : ℕ) → Gap Inner gap
    → PutPieces put (gap ++ 123 ∷ o.rest) ss size → IsUtf8 (o.front ++ (put ++ (gap ++ 123 ∷ o.rest)))
    → MadeIn (o.front ++ (put ++ (gap ++ 123 ∷ o.rest))) (length o.front) size
made_in text r o put gap ss size blank p utf8 =
    let v = o.gap ++ 123 ∷ o.rest in
    let new = o.front ++ (put ++ (gap ++ 123 ∷ o.rest)) in
    let n = length o.front in
    let same = subst (λ (t : List ℕ). SamePart t new (λ x. x) 0 n) (sym o.is)
    (front_same o.front (o.prelude ++ v) (put ++ (gap ++ 123 ∷ o.rest))) in
    let all = subst (λ (m : ℕ). AllTokens 0 m o.before) (omega arith) (whole_tokens (o.prelude ++ v) 0 o.front o.before o.whole) in
    let s =
    spot_of text new n same r o.q None 0 (parts Top (pieces text)) (laid_out text None 0 (pieces text)) o.rs o.xs o.more o.path o.flat
    (λ front e. subst (AllTokens 0 n) (same_front o.before front o.q.prelude (sym o.parted ∙ e)) all) in
    let front_is : s.front ≡ o.before = same_front s.front o.before o.q.prelude (sym s.parted ∙ o.parted) in
    let l = placed_at new s.a s.j s.front (strip new s.rs s.front s.spot) in
    let w =
    whole_split (o.prelude ++ v) 0 o.front l.own l.lead (subst (IsWholeBefore (o.prelude ++ v) 0 o.front) (sym front_is ∙ l.is) o.whole) in
    by l w
  where
    v : List ℕ
    v = o.gap ++ 123 ∷ o.rest

    left : List ℕ
    left = gap ++ 123 ∷ o.rest

    new : List ℕ
    new = o.front ++ (put ++ left)

    by : {ts : List Token} → (l : Placed new ts) → WholeParts (o.prelude ++ v) 0 o.front l.own l.lead
        → MadeIn new (length o.front) size
    by l w =
        let after = w.behind ++ (o.prelude ++ v) in
        let text_is : text ≡ w.front ++ after =
        o.is ∙ ap (λ (t : List ℕ). t ++ (o.prelude ++ v)) w.is ∙ append_assoc w.front w.behind (o.prelude ++ v) in
        let some : 0 < length (o.prelude ++ v) = omega (arith, length-append o.prelude v, length-append o.gap (123 ∷ o.rest)) in
        let open_lead = gap_of (level_of l.a) (o.prelude ++ v) some (0 + length w.front) w.behind l.lead w.second l.passed in
        let cut = new_pieces put gap o.rest ss size blank p (level_of l.a) w.front w.behind l.own
        (ends_whole text w.front after l.own text_is w.first l.ends (w.behind ++ (put ++ left))) open_lead in
        let new_is : w.front ++ (w.behind ++ (put ++ left)) ≡ new =
        sym (append_assoc w.front w.behind (put ++ left)) ∙ ap (λ (t : List ℕ). t ++ (put ++ left)) (sym w.is) in
        let pieces_are = sym (ap pieces new_is) ∙ cut.is in
        put_in l w (w.first) (length (w.front ++ w.behind)) (sym (ap length w.is))
        (omega (arith, length-append w.front w.behind)) cut.lead cut.trail cut.brace cut.zs pieces_are cut.passed cut.blank
        cut.curly cut.far
      where
        put_in : {ts : List Token} → (l : Placed new ts) → (w : WholeParts (o.prelude ++ v) 0 o.front l.own l.lead)
            → IsWholeBefore (w.behind ++ (o.prelude ++ v)) 0 w.front l.own → (n : ℕ) → n ≡ length o.front → length w.front ≤ n
            → (lead trail : List Token) (brace : Token) (zs : List Token)
            → pieces new ≡ l.own ++ (lead ++ ((map (raised (λ x. n + x)) (p.first ∷ p.rest) ++ trail) ++ brace ∷ zs))
            → AllPassed (level_of l.a) lead → AllPassed Inner trail → brace.kind ≡ tokens.OpenCurly → n ≤ brace.end
            → MadeIn new (length o.front) size
        put_in l w whole n at less lead trail brace zs pieces_are passed blank curly far =
            let same = subst (λ (m : ℕ). SamePart put new (λ x. m + x) 0 (length put)) (sym at) (put_same o.front put left) in
            let q =
            new_prelude new put n p.first p.rest trail ss same p.inside (inner_solid Top p.first.kind p.solid.solid) blank p.words in
            let led = made_there new put n p.first p.rest lead trail brace l.a l.j l.rs l.own l.spot passed blank curly p.solid.solid
            p.solid.no_at p.closed p.ends q zs in
            let behind = lead ++ ((map (raised (λ x. n + x)) (p.first ∷ p.rest) ++ trail) ++ brace ∷ zs) in
            let tiles = tiles_cut new 0 (length new) l.own behind (subst (AreTiles new 0 (length new)) pieces_are (tiles_whole new utf8)) in
            let seam = whole_seam new (w.behind ++ (o.prelude ++ v)) 0 tiles.seam w.front l.own whole tiles.left in
            let start : led.rule.prelude.start ≡ n + p.first.start = ap (λ (x : Range). x.start) led.own.0 ∙ q.start in
            record {
              rs = l.rs;
              rule = led.rule;
              more = led.more;
              is = ap (λ (ts : List Token). rules_in new (laid_out new None 0 ts)) pieces_are ∙ led.is;
              starts = omega (arith, start, at);
              ends = omega (arith, start, at, p.starts);
              body = omega (arith, led.own.1, far, at);
              before = all_by tiles.seam (length o.front) (omega (arith, seam, less, at)) l.rs
                  (spot_starts new l.rs l.own l.spot 0 tiles.seam (IsCharBoundary-start new utf8) tiles.left);
            }

pub made_prelude : (text put : List ℕ) (k : ℕ) (r : RuleForm) (ss : List SelectorForm) → slice_get (sheet_of text).rules k ≡ Some r
    → is_sealed put ≡ true → selectors_of put ≡ Some ss
    → IsUtf8 (take r.prelude.start text ++ (put ++ drop r.prelude.end text)) → MadePrelude text put r.prelude
made_prelude text put k r ss e sealed found utf8 =
    let o = old_prelude text k r e in
    let v = o.gap ++ 123 ∷ o.rest in
    let behind : drop r.prelude.end text ≡ v =
    ap (λ (n : ℕ). drop n text) (o.end ∙ sym (length-append o.front o.prelude))
    ∙ ap (drop (length (o.front ++ o.prelude))) (o.is ∙ sym (append_assoc o.front o.prelude v))
    ∙ drop-append_seam (o.front ++ o.prelude) v in
    let before : take r.prelude.start text ≡ o.front =
    ap (λ (n : ℕ). take n text) o.start ∙ ap (take (length o.front)) o.is ∙ take-append_seam o.front (o.prelude ++ v) in
    let p = put_pieces put o.gap o.rest ss sealed found o.blank in
    let new_is : take r.prelude.start text ++ (put ++ drop r.prelude.end text) ≡ o.front ++ (p.text ++ (p.behind ++ 123 ∷ o.rest)) =
    (λ i. before i ++ (put ++ behind i)) ∙ ap (λ (t : List ℕ). o.front ++ t) (sym p.same) in
    let m = made_in text r o p.text p.behind p.ss (length put) p.blank p.cut (subst IsUtf8 new_is utf8) in
    record {
      rs = m.rs;
      rule = m.rule;
      more = m.more;
      is = ap (λ (t : List ℕ). (sheet_of t).rules) new_is ∙ m.is;
      starts = omega (arith, m.starts, o.start);
      ends = omega (arith, m.ends, o.start);
      body = omega (arith, m.body, o.start);
      before = subst (λ (n : ℕ). AllByRecursion (StartsBy n) m.rs) (sym o.start) m.before;
    }

-- the first rule whose body does not start before a place
count_all : (place : ℕ) (xs : List RuleForm) (y : RuleForm) (ys : List RuleForm) → AllByRecursion (StartsBy place) xs
    → place ≤ y.body.start → prefix_len (λ r. nat_lt r.body.start place) (xs ++ y ∷ ys) ≡ length xs
count_all place [] y ys all behind =
    let over : nat_lt y.body.start place ≡ false = grind (arith, nat_tests, behind) in
    ap (λ (b : Bool). cond b (1 + prefix_len (λ (r : RuleForm). nat_lt r.body.start place) ys) 0) over
count_all place (x ∷ xs) y ys all behind =
    let order = all.0 in
    let before : nat_lt x.body.start place ≡ true = grind (arith, nat_tests, order) in
    let one : 1 + length xs ≡ suc (length xs) = omega arith in
    ap (λ (b : Bool). cond b (1 + prefix_len (λ (r : RuleForm). nat_lt r.body.start place) (xs ++ y ∷ ys)) 0) before
    ∙ ap (λ (n : ℕ). 1 + n) (count_all place xs y ys all.1 behind) ∙ one

get_behind : (xs : List RuleForm) (y : RuleForm) (ys : List RuleForm) → slice_get (xs ++ y ∷ ys) (length xs) ≡ Some y
get_behind [] y ys = refl
get_behind (x ∷ xs) y ys = get_behind xs y ys

pub prelude_there : (text put : List ℕ) (k : ℕ) (r : RuleForm) (ss : List SelectorForm) → slice_get (sheet_of text).rules k ≡ Some r
    → is_sealed put ≡ true → selectors_of put ≡ Some ss → IsUtf8 (replaced text r.prelude put)
    → HasPreludeIn (range r.prelude.start (r.prelude.start + length put)) (sheet_of (replaced text r.prelude put)).rules
prelude_there text put k r ss e sealed found utf8 =
    let m = made_prelude text put k r ss e sealed found utf8 in
    let count = ap (λ (rs : List RuleForm). prefix_len (λ (x : RuleForm). nat_lt x.body.start r.prelude.start) rs) m.is
    ∙ count_all r.prelude.start m.rs m.rule m.more m.before m.body in
    let there : slice_get (sheet_of (replaced text r.prelude put)).rules
    (prefix_len (λ (x : RuleForm). nat_lt x.body.start r.prelude.start) (sheet_of (replaced text r.prelude put)).rules) ≡ Some m.rule =
    ap (slice_get (sheet_of (replaced text r.prelude put)).rules) count
    ∙ ap (λ (rs : List RuleForm). slice_get rs (length m.rs)) m.is ∙ get_behind m.rs m.rule m.more in
    subst (λ (o : Option RuleForm). IsSomeAnd o (BeginsIn (range r.prelude.start (r.prelude.start + length put)))) (sym there)
    (record { starts = m.starts; within = m.ends; body = m.body })
