-- The prelude of a media rule in the text of its sheet, and its pieces.
use Rattle.std.proofs.Common.{◌≡◌, ◌⊎◌, inl, inr, ℕ, ◌+◌, ◌<◌, Bool, true, false, List, [], ◌∷◌, ◌++◌, length, take, drop, Some}
use Rattle.std.proofs.Common.{refl, sym, ap, subst, ◌∙◌, append_assoc, length-append, arith}
use Rattle.std.proofs.lemmas.List.{append-nil, take-append-drop, length-take-le}
use Rattle.css_tokens.specs.declared.token.Range.{Range}
use Rattle.css_tokens.specs.declared.token.Token.{Token}
use Rattle.css_tokens.specs.declared.token.TokenKind.TheVariants as tokens
use Rattle.css_tokens.specs.Pieces.{pieces, pieces_after}
use Rattle.css_tokens.specs.Rows.{piece, first_piece}
use Rattle.css_tokens.specs.Seams.{IsWholeBefore}
use Rattle.selectors.specs.Words.{word_of, words_after}
use Rattle.selectors.specs.Reading.{range_of}
use Rattle.sheet_reader.specs.declared.parts.Level.TheVariants.{Inner}
use Rattle.sheet_reader.specs.Forms.{range}
use Rattle.sheet_reader.specs.Layout.{prelude_range}
use Rattle.sheet_reader.specs.Parts.{is_passed}
use Rattle.sheet_reader.proofs.Gaps.{AllPassed, Gap, no_gap, gap_of}
use Rattle.sheet_reader.proofs.PreludeWords.{trail_words, lead_words, range_some, first_word}
use Rattle.sheet_reader.proofs.PutPieces.{starts_there, ends_there, LeadSolid, split_lead, TrailSolid, split_trail, passed_words}
use Rattle.sheet_reader.proofs.PutPieces.{words_end_by}
use Rattle.sheet_reader.proofs.ReadMoves.{AllTokens}
use Rattle.sheet_reader.proofs.SealedCuts.{first_of, split_at, open_first}
use Rattle.sheet_reader.proofs.TextMoves.{whole_tokens, widen}

-- the pieces of a text stand in it
pub pieces_in : (place : ℕ) (text : List ℕ) → AllTokens place (place + length text) (pieces_after place 0 text)
pieces_in place text =
    let ts = pieces_after place 0 text in
    let s = split_at ts [] place text (sym (append-nil ts)) in
    widen place (place + length s.front) place (place + length text) ts (omega arith)
    (omega (arith, ap length s.is, length-append s.front s.after)) (whole_tokens s.after place s.front ts s.whole)

-- what stands behind the keyword, up to the `{`
record BehindKey (place : ℕ) (r : Range) (after : List ℕ) (prelude_pieces : List Token) (brace : Token) (zs : List Token) : Type 0 where
  lead : List ℕ
  prelude : List ℕ
  gap : List ℕ
  rest : List ℕ
  is : after ≡ lead ++ (prelude ++ (gap ++ 123 ∷ rest))
  start : r.start ≡ place + length lead
  end : r.end ≡ place + length lead + length prelude
  open_lead : Gap Inner lead
  blank : Gap Inner gap
  brace_end : brace.end ≡ place + length lead + length prelude + length gap + 1
  left : zs ≡ pieces_after (place + length lead + length prelude + length gap + 1) 0 rest
  -- the pieces that are passed over, and those that stand behind
  blanks : List Token
  others : List Token
  cut : prelude_pieces ++ brace ∷ zs ≡ blanks ++ others
  passed : AllPassed Inner blanks
  behind : AllTokens (place + length lead) (place + length after) others

-- where the prelude has no words
no_words_behind : (text : List ℕ) (place : ℕ) (keyword : Token) (prelude : List Token) (brace : Token) (zs : List Token) (after : List ℕ)
    → keyword.end ≡ place → AllPassed Inner prelude → brace.kind ≡ tokens.OpenCurly
    → prelude ++ brace ∷ zs ≡ pieces_after place 0 after
    → BehindKey place (prelude_range keyword (range_of (words_after text false prelude))) after prelude brace zs
no_words_behind text place keyword prelude brace zs after at all kind left =
    let s = split_at prelude (brace ∷ zs) place after (sym left) in
    let m = open_first s.after (place + length s.front) brace zs kind (sym s.left) in
    let none : prelude_range keyword (range_of (words_after text false prelude)) ≡ range keyword.end keyword.end =
    ap (prelude_range keyword) (ap range_of (passed_words text prelude all)) in
    let size : place ≡ place + 0 = omega arith in
    let seam : place + length s.front + 1 ≡ place + 0 + 0 + length s.front + 1 = omega arith in
    record {
      lead = [];
      prelude = [];
      gap = s.front;
      rest = m.behind;
      is = s.is ∙ ap (λ (x : List ℕ). s.front ++ x) m.is;
      start = ap (λ (r : Range). r.start) none ∙ at ∙ size;
      end = ap (λ (r : Range). r.end) none ∙ at ∙ omega arith;
      open_lead = no_gap;
      blank = gap_of Inner s.after (omega (arith, ap length m.is)) place s.front prelude s.whole all;
      brace_end = m.end ∙ seam;
      left = sym m.more ∙ ap (λ (n : ℕ). pieces_after n 0 m.behind) seam;
      blanks = prelude;
      others = brace ∷ zs;
      cut = refl;
      passed = all;
      behind = subst (AllTokens (place + 0) (place + length after)) (sym s.left)
          (widen (place + length s.front) (place + length s.front + length s.after) (place + 0) (place + length after)
          (pieces_after (place + length s.front) 0 s.after) (omega arith)
          (omega (arith, ap length s.is, length-append s.front s.after)) (pieces_in (place + length s.front) s.after));
    }

-- where it has some
words_behind : (text : List ℕ) (place : ℕ) (keyword : Token) (prelude : List Token) (brace : Token) (zs : List Token) (after : List ℕ)
    (l : LeadSolid prelude) (t : TrailSolid (l.first ∷ l.rest)) → brace.kind ≡ tokens.OpenCurly
    → prelude ++ brace ∷ zs ≡ pieces_after place 0 after
    → BehindKey place (prelude_range keyword (range_of (words_after text false prelude))) after prelude brace zs
words_behind text place keyword prelude brace zs after l t kind left =
    let ms = t.main ++ t.last ∷ [] in
    let behind = brace ∷ zs in
    let s = split_at l.lead ((l.first ∷ l.rest) ++ behind) place after
    (sym left ∙ ap (λ (x : List Token). x ++ behind) l.is ∙ append_assoc l.lead (l.first ∷ l.rest) behind) in
    let p = split_at ms (t.trail ++ behind) (place + length s.front) s.after
    (sym s.left ∙ ap (λ (x : List Token). x ++ behind) t.is ∙ append_assoc ms t.trail behind) in
    let g = split_at t.trail behind (place + length s.front + length p.front) p.after (sym p.left) in
    let m = open_first g.after (place + length s.front + length p.front + length g.front) brace zs kind (sym g.left) in
    let words = lead_words text false l.lead (l.first ∷ l.rest) l.passed in
    let own = range_some (word_of text words.0 l.first) (words_after text false l.rest) in
    let ranged : range_of (words_after text false prelude) ≡ Some own.0 =
    ap range_of (ap (words_after text false) l.is ∙ words.1 ∙ first_word text words.0 l.first l.rest l.solid) ∙ own.1 in
    let last_is : (own.0).end ≡ t.last.end = words_end_by text words.0 t.main t.last own.0 t.solid
    (sym (ap range_of (ap (words_after text words.0) t.is ∙ trail_words text words.0 (t.main ++ t.last ∷ []) t.trail t.passed))
    ∙ ap range_of (first_word text words.0 l.first l.rest l.solid) ∙ own.1) in
    let place_is : prelude_range keyword (range_of (words_after text false prelude)) ≡ own.0 = ap (prelude_range keyword) ranged in
    record {
      lead = s.front;
      prelude = p.front;
      gap = g.front;
      rest = m.behind;
      is = s.is ∙ ap (λ (x : List ℕ). s.front ++ x)
          (p.is ∙ ap (λ (x : List ℕ). p.front ++ x) (g.is ∙ ap (λ (x : List ℕ). g.front ++ x) m.is));
      start = ap (λ (r : Range). r.start) place_is ∙ own.2
          ∙ first_is (place + length s.front) p.front p.after t.main t.last t.trail t.is p.whole;
      end = ap (λ (r : Range). r.end) place_is ∙ last_is
          ∙ ends_there p.after (place + length s.front) p.front t.main t.last p.whole;
      open_lead = gap_of Inner s.after (omega (
        arith,
        ap length p.is,
        ap length g.is,
        ap length m.is,
        length-append p.front p.after,
        length-append g.front g.after,
      )) place s.front l.lead s.whole l.passed;
      blank = gap_of Inner g.after (omega (arith, ap length m.is)) (place + length s.front + length p.front) g.front t.trail g.whole
          t.passed;
      brace_end = m.end;
      left = sym m.more;
      blanks = l.lead;
      others = (l.first ∷ l.rest) ++ brace ∷ zs;
      cut = ap (λ (x : List Token). x ++ brace ∷ zs) l.is ∙ append_assoc l.lead (l.first ∷ l.rest) (brace ∷ zs);
      passed = l.passed;
      behind = subst (AllTokens (place + length s.front) (place + length after)) (sym s.left)
          (widen (place + length s.front) (place + length s.front + length s.after) (place + length s.front) (place + length after)
          (pieces_after (place + length s.front) 0 s.after) (omega arith)
          (omega (arith, ap length s.is, length-append s.front s.after)) (pieces_in (place + length s.front) s.after));
    }
  where
    first_is : (place : ℕ) (front after : List ℕ) (main : List Token) (last : Token) (trail : List Token)
        → l.first ∷ l.rest ≡ (main ++ last ∷ []) ++ trail → IsWholeBefore after place front (main ++ last ∷ []) → l.first.start ≡ place
    first_is place front after [] last trail is whole =
        let same : l.first ≡ last = cc in ap (λ (u : Token). u.start) same ∙ starts_there after place front last [] whole
    first_is place front after (x ∷ main) last trail is whole =
        let same : l.first ≡ x = cc in ap (λ (u : Token). u.start) same ∙ starts_there after place front x (main ++ last ∷ []) whole

behind_key : (text : List ℕ) (place : ℕ) (keyword : Token) (prelude : List Token) (brace : Token) (zs : List Token) (after : List ℕ)
    → keyword.end ≡ place → brace.kind ≡ tokens.OpenCurly → prelude ++ brace ∷ zs ≡ pieces_after place 0 after
    → BehindKey place (prelude_range keyword (range_of (words_after text false prelude))) after prelude brace zs
behind_key text place keyword prelude brace zs after at kind left = by (split_lead prelude)
  where
    both : (b : Bool) → b ≡ true → b ≡ false → ⊥
    both true e g = cc
    both false e g = cc

    solid : (l : LeadSolid prelude) → AllPassed Inner (l.first ∷ l.rest) ⊎ TrailSolid (l.first ∷ l.rest)
        → BehindKey place (prelude_range keyword (range_of (words_after text false prelude))) after prelude brace zs
    solid l (inl all) = absurd (both (is_passed Inner l.first.kind) all.0 l.solid)
    solid l (inr t) = words_behind text place keyword prelude brace zs after l t kind left

    by : AllPassed Inner prelude ⊎ LeadSolid prelude
        → BehindKey place (prelude_range keyword (range_of (words_after text false prelude))) after prelude brace zs
    by (inl all) = no_words_behind text place keyword prelude brace zs after at all kind left
    by (inr l) = solid l (split_trail (l.first ∷ l.rest))

-- the text taken apart around the prelude, from the keyword up to the `{`
pub record MediaText (text : List ℕ) (r : Range) (xs : List Token) (keyword brace : Token) (zs : List Token) : Type 0 where
  pub front : List ℕ
  pub key : List ℕ
  pub lead : List ℕ
  pub prelude : List ℕ
  pub gap : List ℕ
  pub rest : List ℕ
  pub is : text ≡ front ++ (key ++ (lead ++ (prelude ++ (gap ++ 123 ∷ rest))))
  pub start : r.start ≡ length front + length key + length lead
  pub end : r.end ≡ length front + length key + length lead + length prelude
  pub open_lead : Gap Inner lead
  pub blank : Gap Inner gap
  pub whole : IsWholeBefore (key ++ (lead ++ (prelude ++ (gap ++ 123 ∷ rest)))) 0 front xs
  pub key_start : keyword.start ≡ length front
  pub key_end : keyword.end ≡ length front + length key
  pub found : first_piece (key ++ (lead ++ (prelude ++ (gap ++ 123 ∷ rest)))) ≡ Some (piece keyword.kind (length key))
  pub some : 0 < length key
  pub brace_end : brace.end ≡ length front + length key + length lead + length prelude + length gap + 1
  pub left : zs ≡ pieces_after (length front + length key + length lead + length prelude + length gap + 1) 0 rest
  pub blanks : List Token
  pub others : List Token
  pub cut : pieces text ≡ xs ++ keyword ∷ (blanks ++ others)
  pub passed : AllPassed Inner blanks
  pub hi : ℕ
  pub behind : AllTokens (length front + length key + length lead) hi others

pub media_text : (text : List ℕ) (xs : List Token) (keyword : Token) (prelude : List Token) (brace : Token) (zs : List Token)
    → pieces text ≡ xs ++ (keyword ∷ (prelude ++ brace ∷ zs)) → brace.kind ≡ tokens.OpenCurly
    → MediaText text (prelude_range keyword (range_of (words_after text false prelude))) xs keyword brace zs
media_text text xs keyword prelude brace zs cut kind =
    let tail = prelude ++ brace ∷ zs in
    let f = split_at xs (keyword ∷ tail) 0 text cut in
    let k = first_of f.after (0 + length f.front) keyword tail (sym f.left) in
    let n = k.p.len in
    let key = take n f.after in
    let after = drop n f.after in
    let parted : f.after ≡ key ++ after = sym (take-append-drop n f.after) in
    let size : length key ≡ n = length-take-le n f.after k.fits in
    let end : keyword.end ≡ 0 + length f.front + n = sym (ap (λ (u : Token). u.end) k.head) in
    let b = behind_key text (0 + length f.front + n) keyword prelude brace zs after end kind (sym k.more) in
    let behind : f.after ≡ key ++ (b.lead ++ (b.prelude ++ (b.gap ++ 123 ∷ b.rest))) = parted ∙ ap (λ (x : List ℕ). key ++ x) b.is in
    let seam : 0 + length f.front + n + length b.lead + length b.prelude + length b.gap + 1
    ≡ length f.front + length key + length b.lead + length b.prelude + length b.gap + 1 = omega (arith, size) in
    record {
      front = f.front;
      key = key;
      lead = b.lead;
      prelude = b.prelude;
      gap = b.gap;
      rest = b.rest;
      is = f.is ∙ ap (λ (x : List ℕ). f.front ++ x) behind;
      start = b.start ∙ omega (arith, size);
      end = b.end ∙ omega (arith, size);
      open_lead = b.open_lead;
      blank = b.blank;
      whole = subst (λ (x : List ℕ). IsWholeBefore x 0 f.front xs) behind f.whole;
      key_start = sym (ap (λ (u : Token). u.start) k.head) ∙ omega arith;
      key_end = omega (arith, end, size);
      found = ap first_piece (sym behind) ∙ k.found
          ∙ (λ x. Some (piece (ap (λ (u : Token). u.kind) k.head x) (sym size x)));
      some = omega (arith, size, k.some);
      brace_end = b.brace_end ∙ seam;
      left = b.left ∙ ap (λ (m : ℕ). pieces_after m 0 b.rest) seam;
      blanks = b.blanks;
      others = b.others;
      cut = cut ∙ ap (λ (ys : List Token). xs ++ keyword ∷ ys) b.cut;
      passed = b.passed;
      hi = 0 + length f.front + n + length after;
      behind = widen (0 + length f.front + n + length b.lead) (0 + length f.front + n + length after)
          (length f.front + length key + length b.lead) (0 + length f.front + n + length after) b.others (omega (arith, size))
          (omega arith) b.behind;
    }
