-- The pieces of a sealed text that is a list of selectors, before white space, comments and a `{`.
use Rattle.std.proofs.Common.{◌≡◌, ◌⊎◌, inl, inr, ℕ, ◌+◌, ◌-◌, ◌<◌, ◌≤◌, Bool, true, false, List, [], ◌∷◌, ◌++◌, map, length, drop, Option}
use Rattle.std.proofs.Common.{Some, None, refl, sym, ap, subst, ◌∙◌, append_assoc, append-nil, length-append, arith}
use Rattle.std.specs.Prelude.{slice_get}
use Rattle.std.specs.List.{AllByRecursion}
use Rattle.css_tokens.specs.declared.token.Range.{Range}
use Rattle.css_tokens.specs.declared.token.Token.{Token}
use Rattle.css_tokens.specs.declared.token.TokenKind.{TokenKind}
use Rattle.css_tokens.specs.declared.token.TokenKind.TheVariants as tokens
use Rattle.css_tokens.specs.Codes.{begins, is_white}
use Rattle.css_tokens.specs.Pieces.{pieces, pieces_after}
use Rattle.css_tokens.specs.Rows.{first_piece}
use Rattle.css_tokens.specs.Seams.{IsWholeBefore, no_more, piece_and}
use Rattle.css_tokens.proofs.Cuts.{piece_first}
use Rattle.css_tokens.proofs.TableForms.{first_fits}
use Rattle.std.proofs.Math.Seq.{drop-append_seam}
use Rattle.selectors.specs.declared.words.Word.{Word}
use Rattle.selectors.specs.Words.{word_reading, word_of, passed_over, words_by, words_after}
use Rattle.selectors.specs.Forms.{SelectorForm}
use Rattle.selectors.specs.Reading.{range_by, range_of, segments, selectors_in, selector_of, selector_list_of, selectors_of}
use Rattle.sheet_reader.specs.declared.brackets.Nesting.TheVariants.{Closed}
use Rattle.sheet_reader.specs.declared.brackets.Stop.TheVariants as stops
use Rattle.sheet_reader.specs.declared.brackets.Bracket.{Bracket}
use Rattle.sheet_reader.specs.declared.parts.Level.{Level}
use Rattle.sheet_reader.specs.declared.parts.Level.TheVariants.{Inner}
use Rattle.sheet_reader.specs.Brackets.{until, until_in, nesting}
use Rattle.sheet_reader.specs.Parts.{is_passed}
use Rattle.sheet_reader.specs.Sealing.{is_sealed}
use Rattle.sheet_reader.proofs.ExchangeForms.{reaches}
use Rattle.sheet_reader.proofs.FreeWords.{selectors_pass, closed_opens}
use Rattle.sheet_reader.proofs.Gaps.{AllPassed, Gap, gap_of, passed_anywhere, white_first}
use Rattle.sheet_reader.proofs.MovedLaw.{sealed_nesting, white_last, closed_is}
use Rattle.sheet_reader.proofs.OpenForms.{passes}
use Rattle.sheet_reader.proofs.PreludeWords.{lead_words, trail_words, first_word, list_flag, range_some, BeginsPrelude, begins_prelude}
use Rattle.sheet_reader.proofs.PreludeWords.{passed_until, passed_nesting, until_front}
use Rattle.sheet_reader.proofs.PartMoves.{map_length}
use Rattle.sheet_reader.proofs.Raised.{raised}
use Rattle.sheet_reader.proofs.ReadMoves.{AllTokens, nesting_raised}
use Rattle.sheet_reader.proofs.SealedCuts.{SealedPieces, sealed_pieces, sealed_own, white_is, AllWhite}
use Rattle.sheet_reader.proofs.SealedSeams.{CutBefore, IsListOf, cut_before}
use Rattle.sheet_reader.proofs.TextMoves.{whole_tokens, widen}

-- ---- whole pieces taken apart
pub record WholeParts (after : List ℕ) (place : ℕ) (text : List ℕ) (xs ys : List Token) : Type 0 where
  pub front : List ℕ
  pub behind : List ℕ
  pub is : text ≡ front ++ behind
  pub first : IsWholeBefore (behind ++ after) place front xs
  pub second : IsWholeBefore after (place + length front) behind ys

pub whole_split : (after : List ℕ) (place : ℕ) (text : List ℕ) (xs ys : List Token) → IsWholeBefore after place text (xs ++ ys)
    → WholeParts after place text xs ys
whole_split after place text [] ys whole =
    let at : place ≡ place + 0 = omega arith in
    record {
      front = [];
      behind = text;
      is = refl;
      first = no_more;
      second = subst (λ (n : ℕ). IsWholeBefore after n text ys) at whole;
    }
whole_split after place text (_ ∷ xs) ys (piece_and p front rest is len found whole) =
    let w = whole_split after (place + p.len) rest xs ys whole in
    let parted : text ≡ (front ++ w.front) ++ w.behind =
    is ∙ ap (λ (t : List ℕ). front ++ t) w.is ∙ sym (append_assoc front w.front w.behind) in
    let at : place + p.len + length w.front ≡ place + length (front ++ w.front) = omega (arith, len, length-append front w.front) in
    record {
      front = front ++ w.front;
      behind = w.behind;
      is = parted;
      first = piece_and p front w.front refl len
          (ap first_piece (sym (append_assoc (front ++ w.front) w.behind after) ∙ ap (λ (t : List ℕ). t ++ after) (sym parted)) ∙ found)
          w.first;
      second = subst (λ (n : ℕ). IsWholeBefore after n w.behind ys) at w.second;
    }

-- the pieces from a place on
pub whole_on : (after : List ℕ) (place : ℕ) (text : List ℕ) (ts : List Token) → IsWholeBefore after place text ts
    → pieces_after place 0 (text ++ after) ≡ ts ++ pieces_after (place + length text) 0 after
whole_on after place text ts no_more = ap (λ (n : ℕ). pieces_after n 0 after) (omega arith)
whole_on after place text ts (piece_and {ts = more} p front behind is len found whole) =
    let fits = first_fits (text ++ after) 0 p (omega arith) found in
    let past : drop p.len (text ++ after) ≡ behind ++ after =
    ap (λ (n : ℕ). drop n (text ++ after)) len ∙ ap (drop (length front))
    (ap (λ (x : List ℕ). x ++ after) is ∙ append_assoc front behind after) ∙ drop-append_seam front (behind ++ after) in
    let size : place + p.len + length behind ≡ place + length text = omega (arith, len, ap length is, length-append front behind) in
    piece_first (text ++ after) place p found fits.0 fits.1
    ∙ ap (λ (xs : List Token). (record { kind = p.kind; start = place; end = place + p.len }) ∷ xs)
    (ap (pieces_after (place + p.len) 0) past ∙ whole_on after (place + p.len) behind more whole ∙ ap
    (λ (n : ℕ). more ++ pieces_after n 0 after) size)

pub starts_there : (after : List ℕ) (place : ℕ) (text : List ℕ) (t : Token) (ts : List Token) → IsWholeBefore after place text (t ∷ ts)
    → t.start ≡ place
starts_there after place text _ ts (piece_and p front rest is len found whole) = refl

pub ends_there : (after : List ℕ) (place : ℕ) (text : List ℕ) (ts : List Token) (t : Token) → IsWholeBefore after place text (ts ++ t ∷ [])
    → t.end ≡ place + length text
ends_there after place text [] _ (piece_and p front rest is len found no_more) =
    omega (arith, len, ap length is, length-append front [])
ends_there after place text (_ ∷ ts) t (piece_and p front rest is len found whole) =
    let more = ends_there after (place + p.len) rest ts t whole in
    omega (arith, more, len, ap length is, length-append front rest)

clash : (b : Bool) → b ≡ true → b ≡ false → ⊥
clash true e g = cc
clash false e g = cc

pub inner_solid : (level : Level) (k : TokenKind) → is_passed level k ≡ false → is_passed Inner k ≡ false
inner_solid level k e = by (is_passed Inner k) refl
  where
    by : (b : Bool) → is_passed Inner k ≡ b → is_passed Inner k ≡ false
    by true h = absurd (clash (is_passed level k) (passed_anywhere Inner level k h) e)
    by false h = h

-- no white space stands where a piece begins that is not passed over, and something does
pub solid_begin : (after : List ℕ) (place : ℕ) (text : List ℕ) (t : Token) (ts : List Token) → IsWholeBefore after place text (t ∷ ts)
    → is_passed Inner t.kind ≡ false → (begins is_white (text ++ after) ≡ false) × (0 < length text)
solid_begin after place [] _ ts (piece_and p front rest is len found whole) solid =
    let fits = first_fits ([] ++ after) 0 p (omega arith) found in
    absurd (omega (arith, fits.0, len, ap length is, length-append front rest))
solid_begin after place (c ∷ text) _ ts (piece_and p front rest is len found whole) solid = (by (is_white c) refl, omega arith)
  where
    by : (b : Bool) → is_white c ≡ b → is_white c ≡ false
    by false e = e
    by true e =
        let same = sym (white_first c (text ++ after) e) ∙ found in
        let kind : tokens.WhiteSpace ≡ p.kind = cc in
        absurd (clash (is_passed Inner p.kind) (sym (ap (is_passed Inner) kind)) solid)

-- ---- the first and the last piece that is not passed over
pub record LeadSolid (ts : List Token) : Type 0 where
  pub lead : List Token
  pub first : Token
  pub rest : List Token
  pub is : ts ≡ lead ++ first ∷ rest
  pub passed : AllPassed Inner lead
  pub solid : is_passed Inner first.kind ≡ false

pub split_lead : (ts : List Token) → AllPassed Inner ts ⊎ LeadSolid ts
split_lead [] = inl tt
split_lead (t ∷ ts) = by (is_passed Inner t.kind) refl (split_lead ts)
  where
    by : (b : Bool) → is_passed Inner t.kind ≡ b → AllPassed Inner ts ⊎ LeadSolid ts → AllPassed Inner (t ∷ ts) ⊎ LeadSolid (t ∷ ts)
    by false e more = inr (record { lead = []; first = t; rest = ts; is = refl; passed = tt; solid = e })
    by true e (inl all) = inl (e, all)
    by true e (inr l) = inr (record {
      lead = t ∷ l.lead;
      first = l.first;
      rest = l.rest;
      is = ap (λ (xs : List Token). t ∷ xs) l.is;
      passed = (e, l.passed);
      solid = l.solid;
    })

pub record TrailSolid (ts : List Token) : Type 0 where
  pub main : List Token
  pub last : Token
  pub trail : List Token
  pub is : ts ≡ (main ++ last ∷ []) ++ trail
  pub passed : AllPassed Inner trail
  pub solid : is_passed Inner last.kind ≡ false

pub split_trail : (ts : List Token) → AllPassed Inner ts ⊎ TrailSolid ts
split_trail [] = inl tt
split_trail (t ∷ ts) = by (is_passed Inner t.kind) refl (split_trail ts)
  where
    by : (b : Bool) → is_passed Inner t.kind ≡ b → AllPassed Inner ts ⊎ TrailSolid ts → AllPassed Inner (t ∷ ts) ⊎ TrailSolid (t ∷ ts)
    by b e (inr l) = inr (record {
      main = t ∷ l.main;
      last = l.last;
      trail = l.trail;
      is = ap (λ (xs : List Token). t ∷ xs) l.is;
      passed = l.passed;
      solid = l.solid;
    })
    by true e (inl all) = inl (e, all)
    by false e (inl all) = inr (record { main = []; last = t; trail = ts; is = refl; passed = all; solid = e })

-- the last word of pieces that end in one
record LastWord (text : List ℕ) (ws : List Word) (last : Token) : Type 0 where
  before : List Word
  spaced : Bool
  is : ws ≡ before ++ word_of text spaced last ∷ []

last_word : (text : List ℕ) (spaced : Bool) (main : List Token) (last : Token) → is_passed Inner last.kind ≡ false
    → LastWord text (words_after text spaced (main ++ last ∷ [])) last
unfolding words_after
last_word text spaced [] last solid = record { before = []; spaced = spaced; is = first_word text spaced last [] solid }
last_word text spaced (t ∷ main) last solid = by (passed_over t.kind spaced) (λ s. last_word text s main last solid)
  where
    by : (o : Option Bool) → ((s : Bool) → LastWord text (words_after text s (main ++ last ∷ [])) last)
        → LastWord text (words_by o (word_of text spaced t) (λ s. words_after text s (main ++ last ∷ []))) last
    by None more =
        let m = more false in
        record {
          before = word_of text spaced t ∷ m.before;
          spaced = m.spaced;
          is = ap
              (λ (ws : List Word). word_of text spaced t ∷ ws) m.is;
        }
    by (Some s) more = more s

get_last : (ws : List Word) (w : Word) → slice_get (ws ++ w ∷ []) (length ws) ≡ Some w
get_last [] w = refl
get_last (x ∷ ws) w = get_last ws w

range_last : (ws : List Word) (w : Word) (r : Range) → range_of (ws ++ w ∷ []) ≡ Some r → r.end ≡ w.end
range_last ws w r e =
    let size : length (ws ++ w ∷ []) - 1 ≡ length ws = omega (arith, length-append ws (w ∷ [])) in
    by (slice_get (ws ++ w ∷ []) 0)
    (sym (ap (range_by (slice_get (ws ++ w ∷ []) 0)) (ap (slice_get (ws ++ w ∷ [])) size ∙ get_last ws w)) ∙ e)
  where
    by : (o : Option Word) → range_by o (Some w) ≡ Some r → r.end ≡ w.end
    by None h = absurd (cc)
    by (Some f) h = let same : (record { start = f.start; end = w.end }) ≡ r = cc in sym (ap (λ (x : Range). x.end) same)

-- where the words of pieces end whose last one is a word
pub words_end : (text : List ℕ) (main : List Token) (last : Token) (r : Range) → is_passed Inner last.kind ≡ false
    → range_of (words_after text false (main ++ last ∷ [])) ≡ Some r → r.end ≡ last.end
words_end text main last r solid e =
    let l = last_word text false main last solid in
    range_last l.before (word_of text l.spaced last) r (sym (ap range_of l.is) ∙ e)

pub words_end_by : (text : List ℕ) (spaced : Bool) (main : List Token) (last : Token) (r : Range) → is_passed Inner last.kind ≡ false
    → range_of (words_after text spaced (main ++ last ∷ [])) ≡ Some r → r.end ≡ last.end
words_end_by text spaced main last r solid e =
    let l = last_word text spaced main last solid in
    range_last l.before (word_of text l.spaced last) r (sym (ap range_of l.is) ∙ e)

-- where the words of pieces start whose first one is a word
pub words_start : (text : List ℕ) (first : Token) (ts : List Token) (r : Range) → is_passed Inner first.kind ≡ false
    → range_of (words_after text false (first ∷ ts)) ≡ Some r → r.start ≡ first.start
words_start text first ts r solid e =
    let own = range_some (word_of text false first) (words_after text false ts) in
    let both : ◌≡◌ {A = Option Range} (Some own.0) (Some r) = sym own.1 ∙ sym (ap range_of (first_word text false first ts solid)) ∙ e in
    let same : own.0 ≡ r = cc in
    sym (ap (λ (x : Range). x.start) same) ∙ own.2

no_pieces_words : (text : List ℕ) (spaced : Bool) → words_after text spaced [] ≡ []
unfolding words_after
no_pieces_words text spaced = refl

pub passed_words : (text : List ℕ) (ts : List Token) → AllPassed Inner ts → words_after text false ts ≡ []
passed_words text ts all = trail_words text false [] ts all ∙ no_pieces_words text false

pub no_range : (text : List ℕ) (ts : List Token) (r : Range) → AllPassed Inner ts → range_of (words_after text false ts) ≡ Some r → ⊥
no_range text ts r all e = by (sym (ap range_of (passed_words text ts all)) ∙ e)
  where
    by : ◌≡◌ {A = Option Range} None (Some r) → ⊥
    by h = cc

-- ---- a sealed list of selectors before what stands behind it
pub record PutPieces (put v : List ℕ) (ss : List SelectorForm) (size : ℕ) : Type 0 where
  pub lead : List ℕ
  pub main : List ℕ
  pub trail : List ℕ
  pub parted : put ≡ lead ++ (main ++ trail)
  pub gap : Gap Inner lead
  pub blank : AllWhite trail
  pub first : Token
  pub rest : List Token
  pub solid : BeginsPrelude first.kind
  pub whole : IsWholeBefore (trail ++ v) (length lead) main (first ∷ rest)
  pub begin : begins is_white (main ++ (trail ++ v)) ≡ false
  pub closed : nesting (first ∷ rest) ≡ Closed
  pub ends : (ys : List Token) → until stops.Block ((first ∷ rest) ++ ys) ≡ length (first ∷ rest) + until stops.Block ys
  pub words : selector_list_of (word_reading put (words_after put false (first ∷ rest))) ≡ Some ss
  pub inside : AllTokens 0 (length put) (first ∷ rest)
  pub starts : first.start < size

-- the search for a block passes its pieces, but for white space at its end
us_pass : (put : List ℕ) (ss : List SelectorForm) → selectors_of put ≡ Some ss → is_sealed put ≡ true → (s : SealedPieces put)
    → nesting s.us ≡ Closed → (ys : List Token) → until stops.Block (s.us ++ ys) ≡ length s.us + until stops.Block ys
us_pass put ss found sealed s closed ys =
    passes stops.Block s.us ys [] (by s.either)
    ∙ ap (λ (bs : List Bracket). length s.us + until_in stops.Block bs ys) (closed_opens [] s.us closed)
  where
    all : (rest : List Token) → until stops.Block (s.own ++ rest) ≡ length s.own + until stops.Block rest
    all rest = subst (λ (ts : List Token). until stops.Block (ts ++ rest) ≡ length ts + until stops.Block rest) (sealed_own put s)
        (selectors_pass put ss found (sealed_nesting put sealed) rest)

    by : (s.own ≡ s.us) ⊎ ((w : Token) × (s.own ≡ s.us ++ w ∷ []) × (w.kind ≡ tokens.WhiteSpace))
        → length s.us ≤ until stops.Block (s.us ++ ys)
    by (inl e) = subst (λ (ts : List Token). length ts ≤ until stops.Block (ts ++ ys)) e (let h = all ys in omega (arith, h))
    by (inr w) =
        let h = all [] in
        let cut : until stops.Block (s.own ++ []) ≡ until stops.Block (s.us ++ (w.0 ∷ [])) =
        ap (λ (ts : List Token). until stops.Block ts) (append-nil s.own ∙ w.1) in
        reaches stops.Block s.us (w.0 ∷ []) ys []
        (omega (arith, h, cut, ap (λ (ts : List Token). length ts) w.1, length-append s.us (w.0 ∷ [])))

-- the words of its pieces are those of all of them
us_words : (put : List ℕ) (ss : List SelectorForm) → selectors_of put ≡ Some ss → (s : SealedPieces put)
    → selector_list_of (word_reading put (words_after put false s.us)) ≡ Some ss
us_words put ss found s =
    sym (ap (λ (ws : List Word). selector_list_of (word_reading put ws)) (by s.either)) ∙ found
  where
    by : (s.own ≡ s.us) ⊎ ((w : Token) × (s.own ≡ s.us ++ w ∷ []) × (w.kind ≡ tokens.WhiteSpace))
        → words_after put false (pieces put) ≡ words_after put false s.us
    by (inl e) = ap (words_after put false) (sealed_own put s ∙ e)
    by (inr w) = ap (words_after put false) (sealed_own put s ∙ w.1)
        ∙ trail_words put false s.us (w.0 ∷ []) (ap (is_passed Inner) w.2, tt)

no_empty_list : (put : List ℕ) → selector_list_of (word_reading put []) ≡ None
unfolding segments selectors_in selector_of
no_empty_list put = refl

no_words_list : (put : List ℕ) (ss : List SelectorForm) (ts : List Token) → AllPassed Inner ts
    → selector_list_of (word_reading put (words_after put false ts)) ≡ Some ss → ⊥
no_words_list put ss ts all e =
    by (sym (no_empty_list put) ∙ sym (ap (λ (ws : List Word). selector_list_of (word_reading put ws)) (passed_words put ts all)) ∙ e)
  where
    by : ◌≡◌ {A = Option (List SelectorForm)} None (Some ss) → ⊥
    by h = cc

-- cut before what stands behind it, which may lose the LF that it begins with
pub record PutSeam (put gap rest : List ℕ) : Type 0 where
  pub text : List ℕ
  pub behind : List ℕ
  pub blank : Gap Inner behind
  pub same : text ++ (behind ++ 123 ∷ rest) ≡ put ++ (gap ++ 123 ∷ rest)
  pub ss : List SelectorForm
  pub cut : PutPieces text (behind ++ 123 ∷ rest) ss (length put)

pub at_place : (n : ℕ) (xs : List Token) (y : Token) (ys : List Token) → AllByRecursion (λ t. t.start < n) (xs ++ y ∷ ys) → y.start < n
at_place n [] y ys all = all.0
at_place n (x ∷ xs) y ys all = at_place n xs y ys all.1

pub put_pieces : (put gap rest : List ℕ) (ss : List SelectorForm) → is_sealed put ≡ true → selectors_of put ≡ Some ss → Gap Inner gap
    → PutSeam put gap rest
put_pieces put gap rest ss sealed found blank = by (split_lead us)
  where
    s : SealedPieces put
    s = sealed_pieces put sealed

    c : CutBefore put gap rest s
    c = cut_before put gap rest s blank

    us : List Token
    us = map (raised c.moved) s.us

    own : IsListOf c.text us
    own = c.list ss (us_words put ss found s)

    all_closed : nesting s.us ≡ Closed
    all_closed = sym (white_last [] s.us s.white (white_is s.white.kind s.is_white)) ∙ closed_is (nesting (s.us ++ s.white ∷ [])) s.nested

    closed : nesting us ≡ Closed
    closed = nesting_raised c.moved [] s.us ∙ all_closed

    pass : (ys : List Token) → until stops.Block (us ++ ys) ≡ length us + until stops.Block ys
    pass ys =
        let same = until_front stops.Block c.moved [] s.us ys in
        let on = us_pass put ss found sealed s all_closed ys in
        omega (arith, same, on, map_length (raised c.moved) s.us)

    by : AllPassed Inner us ⊎ LeadSolid us → PutSeam put gap rest
    by (inl all) = absurd (no_words_list c.text own.ss us all own.is)
    by (inr l) =
        let v = c.behind ++ 123 ∷ rest in
        let ts = l.first ∷ l.rest in
        let w = whole_split (c.trail ++ v) 0 c.front l.lead ts (subst (IsWholeBefore (c.trail ++ v) 0 c.front) l.is c.whole) in
        let second : IsWholeBefore (c.trail ++ v) (length w.front) w.behind ts =
        subst (λ (n : ℕ). IsWholeBefore (c.trail ++ v) n w.behind ts) (omega arith) w.second in
        let b = solid_begin (c.trail ++ v) (length w.front) w.behind l.first l.rest second l.solid in
        let parted : c.text ≡ w.front ++ (w.behind ++ c.trail) =
        c.parted ∙ ap (λ (t : List ℕ). t ++ c.trail) w.is ∙ append_assoc w.front w.behind c.trail in
        let moved = lead_words c.text false l.lead ts l.passed in
        let list : selector_list_of (word_reading c.text (word_of c.text false l.first ∷ words_after c.text false l.rest)) ≡ Some own.ss =
        list_flag c.text false moved.0 l.first (words_after c.text false l.rest)
        ∙ sym (ap (λ (ws : List Word). selector_list_of (word_reading c.text ws))
        (ap (words_after c.text false) l.is ∙ moved.1 ∙ first_word c.text moved.0 l.first l.rest l.solid)) ∙ own.is in
        let closed_rest : nesting ts ≡ Closed =
        sym (passed_nesting Inner l.lead l.passed [] ts) ∙ sym (ap nesting l.is) ∙ closed in
        record {
          text = c.text;
          behind = c.behind;
          blank = c.blank;
          same = c.same;
          ss = own.ss;
          cut = record {
            lead = w.front;
            main = w.behind;
            trail = c.trail;
            parted = parted;
            gap = gap_of Inner (w.behind ++ (c.trail ++ v)) (omega (arith, b.1, length-append w.behind (c.trail ++ v))) 0 w.front l.lead
                w.first l.passed;
            blank = c.white;
            first = l.first;
            rest = l.rest;
            solid = begins_prelude c.text l.first (words_after c.text false l.rest) own.ss l.solid list;
            whole = second;
            begin = b.0;
            closed = closed_rest;
            ends = λ ys.
                let on = passed_until Inner l.lead l.passed [] (ts ++ ys) in
                let all = pass ys in
                let cut : until stops.Block (us ++ ys) ≡ until stops.Block (l.lead ++ (ts ++ ys)) =
                ap (λ (xs : List Token). until stops.Block (xs ++ ys)) l.is ∙ ap (until stops.Block) (append_assoc l.lead ts ys) in
                let size : length us ≡ length l.lead + length ts = ap (λ (xs : List Token). length xs) l.is ∙ length-append l.lead ts in
                omega (arith, on, all, cut, size);
            words = ap (λ (ws : List Word). selector_list_of (word_reading c.text ws)) (first_word c.text false l.first l.rest l.solid)
                ∙ list;
            inside = widen (length w.front) (length w.front + length w.behind) 0 (length c.text) ts (omega arith)
                (omega (arith, ap length parted, length-append w.front (w.behind ++ c.trail), length-append w.behind c.trail))
                (whole_tokens (c.trail ++ v) (length w.front) w.behind ts second);
            starts = at_place (length put) l.lead l.first l.rest (subst (AllByRecursion (λ t. t.start < length put)) l.is c.early);
          };
        }
