-- A sealed text before white space, comments and a `{`: cut as it is before a space, alone or with the LF that stands behind it.
use Rattle.std.proofs.Common.{◌≡◌, ◌⊎◌, inl, inr, ℕ, suc, ◌+◌, ◌-◌, ◌<◌, ◌≤◌, ◌==◌, Bool, true, false, List, [], ◌∷◌, ◌++◌, map, length}
use Rattle.std.proofs.Common.{take}
use Rattle.std.proofs.Common.{drop, Option, Some, None, refl, sym, ap, subst, ◌∙◌, append_assoc, append-nil, length-append, arith}
use Rattle.std.specs.List.{AllByRecursion}
use Rattle.std.specs.Prelude.{slice_index, option_map}
use Rattle.std.proofs.lemmas.Bool.Decides.{nat_tests}
use Rattle.std.proofs.lemmas.List.{drop-drop}
use Rattle.std.proofs.Math.Seq.{drop-append_seam, take-append_seam}
use Rattle.css_tokens.specs.declared.token.Token.{Token}
use Rattle.css_tokens.specs.declared.token.TokenKind.{TokenKind}
use Rattle.css_tokens.specs.declared.token.TokenKind.TheVariants as tokens
use Rattle.css_tokens.specs.Escapes.{unescaped}
use Rattle.css_tokens.specs.Seams.{IsWholeBefore}
use Rattle.selectors.specs.declared.words.Word.{Word}
use Rattle.selectors.specs.declared.words.WordKind.TheVariants as words
use Rattle.selectors.specs.Forms.{SelectorForm}
use Rattle.selectors.specs.Moves.{placed_selector}
use Rattle.selectors.specs.Reading.{selector_list_of, word_value, hash_value, function_of, string_of}
use Rattle.selectors.specs.Words.{between, word_kind, word_of, word_reading, words_after, words_by, passed_over}
use Rattle.sheet_reader.specs.declared.parts.Level.TheVariants.{Inner}
use Rattle.sheet_reader.proofs.Gaps.{Gap, no_gap, gap_white, gap_comment, gap_mark, facts_gap}
use Rattle.sheet_reader.proofs.LineEnds.{past_line, below_line, at_line, LastCodes, StandsIn, TakesOne, sealed_near}
use Rattle.sheet_reader.proofs.Raised.{raised, raised_word}
use Rattle.sheet_reader.proofs.ReadMoves.{AllTokens}
use Rattle.sheet_reader.proofs.SealedCuts.{SealedPieces, AllWhite}
use Rattle.sheet_reader.proofs.SpaceRows.{ends_in_name, less}
use Rattle.sheet_reader.proofs.TextMoves.{same_part, whole_tokens}
use Rattle.sheet_reader.proofs.WordMoves.{SamePart, SameWords, AllWords, part_words, words_list}

-- ---- the last word

tail_text : (before own x : List ℕ) (a b : ℕ) → x ≡ before ++ own → a ≡ length before → b ≡ length x → between x a b ≡ own
tail_text before own x a b is start end =
    let size : b - a ≡ length own = omega (arith, start, end, ap length is, length-append before own) in
    let behind : drop a x ≡ own = (λ i. drop (start i) (is i)) ∙ drop-append_seam before own in
    (λ i. take (size i) (behind i)) ∙ ap (take (length own)) (sym (append-nil own)) ∙ take-append_seam own []

tail_more : (before own x : List ℕ) (a b : ℕ) → x ≡ before ++ own → a ≡ length before → b ≡ length x → 0 < length own
    → between x (a + 1) b ≡ drop 1 own
tail_more before own x a b is start end some =
    by own some (omega (arith, start, end, ap length is, length-append before own))
    (sym (ap (λ (t : List ℕ). drop 1 t) ((λ i. drop (start i) (is i)) ∙ drop-append_seam before own)) ∙ one a x)
  where
    one : (a : ℕ) (x : List ℕ) → drop 1 (drop a x) ≡ drop (a + 1) x
    one a x = drop-drop 1 a x

    by : (own : List ℕ) → 0 < length own → b - (a + 1) ≡ length own - 1 → drop 1 own ≡ drop (a + 1) x → between x (a + 1) b ≡ drop 1 own
    by [] some size behind = absurd (omega (arith, some))
    by (c ∷ own) some size behind =
        let left : b - (a + 1) ≡ length own = omega (arith, size) in
        (λ i. take (left i) (sym behind i)) ∙ ap (take (length own)) (sym (append-nil own)) ∙ take-append_seam own []

-- a word at the text's end reads the same with the LF
pub record LastWord (put : List ℕ) (w : Word) : Type 0 where
  pub value : w.kind ≡ words.Ident
      → word_value put w ≡ word_value (put ++ 10 ∷ []) (raised_word (past_line (length put)) w)
  pub hash : w.kind ≡ words.Id → hash_value put w ≡ hash_value (put ++ 10 ∷ []) (raised_word (past_line (length put)) w)
  pub no_function : w.kind ≡ words.Function → ⊥
  pub no_string : w.kind ≡ words.Str → ⊥

pub record InLine (put : List ℕ) (w : Word) : Type 0 where
  pub some : w.start < w.end
  pub high : w.end ≤ length put
  pub last : w.end ≡ length put → LastWord put w

ident_of : (k : TokenKind) (c : ℕ) → word_kind k c ≡ words.Ident → k ≡ tokens.Ident
ident_of tokens.Ident c e = refl
ident_of (tokens.Hash true) c e = absurd (cc)
ident_of (tokens.Hash false) c e = absurd (cc)
ident_of _ c e = absurd (cc)

id_of : (k : TokenKind) (c : ℕ) → word_kind k c ≡ words.Id → k ≡ tokens.Hash true
id_of (tokens.Hash true) c e = refl
id_of (tokens.Hash false) c e = absurd (cc)
id_of _ c e = absurd (cc)

no_function : (k : TokenKind) (c : ℕ) → ends_in_name k ≡ true → word_kind k c ≡ words.Function → ⊥
no_function (tokens.Hash true) c name e = absurd (cc)
no_function (tokens.Hash false) c name e = absurd (cc)
no_function tokens.Ident c name e = absurd (cc)
no_function tokens.AtKeyword c name e = absurd (cc)
no_function tokens.Dimension c name e = absurd (cc)
no_function _ c name e = absurd (cc)

no_string : (k : TokenKind) (c : ℕ) → ends_in_name k ≡ true → word_kind k c ≡ words.Str → ⊥
no_string (tokens.Hash true) c name e = absurd (cc)
no_string (tokens.Hash false) c name e = absurd (cc)
no_string tokens.Ident c name e = absurd (cc)
no_string tokens.AtKeyword c name e = absurd (cc)
no_string tokens.Dimension c name e = absurd (cc)
no_string _ c name e = absurd (cc)

last_word : (put : List ℕ) (spaced : Bool) (t : Token) → t.start < t.end → t.end ≡ length put → LastCodes 0 put t
    → LastWord put (word_of put spaced t)
last_word put spaced t some e l =
    let start : t.start ≡ length l.before = omega (arith, l.start) in
    let n = length put in
    let size : length l.own + length l.before ≡ n = omega (arith, ap length l.is, length-append l.before l.own) in
    let own_some : 0 < length l.own = omega (arith, size, start, some, e) in
    let long_is : put ++ 10 ∷ [] ≡ l.before ++ (l.own ++ 10 ∷ []) =
    ap (λ (x : List ℕ). x ++ 10 ∷ []) l.is ∙ append_assoc l.before l.own (10 ∷ []) in
    let f_start : past_line n t.start ≡ t.start = below_line n t.start (omega (arith, some, e)) in
    let f_end : past_line n t.end ≡ length (put ++ 10 ∷ []) = at_line n t.end e ∙ omega (arith, length-append put (10 ∷ [])) in
    let old = tail_text l.before l.own put t.start t.end l.is start e in
    let new = tail_text l.before (l.own ++ 10 ∷ []) (put ++ 10 ∷ []) (past_line n t.start) (past_line n t.end) long_is
    (f_start ∙ start) f_end in
    let old_more = tail_more l.before l.own put t.start t.end l.is start e own_some in
    let new_more = tail_more l.before (l.own ++ 10 ∷ []) (put ++ 10 ∷ []) (past_line n t.start) (past_line n t.end) long_is
    (f_start ∙ start) f_end
    (omega (arith, length-append l.own (10 ∷ []))) in
    record {
      value = λ k. ap unescaped old ∙ sym (l.says.value (ident_of t.kind _ k)) ∙ sym (ap unescaped new);
      hash = λ k. ap unescaped old_more ∙ sym (l.says.hash (id_of t.kind _ k)) ∙ sym (ap unescaped new_more);
      no_function = λ k. no_function t.kind _ l.says.name k;
      no_string = λ k. no_string t.kind _ l.says.name k;
    }

in_line : (put : List ℕ) (spaced : Bool) (t : Token) → StandsIn 0 put t → InLine put (word_of put spaced t)
in_line put spaced t h = record {
  some = h.some;
  high = omega (arith, h.high);
  last = λ e. last_word put spaced t h.some e (h.last (omega (arith, e)));
}

-- ---- all the words

apart_places : (a b : ℕ) → a < b → (a == b) ≡ false
apart_places a b less = grind (arith, nat_tests, less)

with_line : (put : List ℕ) → SamePart put (put ++ 10 ∷ []) (λ x. x) 0 (length put)
with_line put =
    let both : SamePart ([] ++ (put ++ [])) ([] ++ (put ++ 10 ∷ [])) (λ x. x) 0 (0 + length put) =
    same_part [] put [] [] (10 ∷ []) (λ x. x) (λ x fits. refl) in
    let at : 0 + length put ≡ length put = omega arith in
    subst (λ (n : ℕ). SamePart put (put ++ 10 ∷ []) (λ x. x) 0 n) at
    (subst (λ (t : List ℕ). SamePart t (put ++ 10 ∷ []) (λ x. x) 0 (0 + length put)) (append-nil put) both)

line_words : (put : List ℕ) → SameWords put (put ++ 10 ∷ []) (past_line (length put)) (InLine put)
line_words put = record {
  value = λ w i k. by w i (λ less. own.value w (within w i) k ∙ ap (word_value other) (sym (stays w i less))) (λ e. (i.last e).value k);
  hash = λ w i k. by w i (λ less. own.hash w (within w i) k ∙ ap (hash_value other) (sym (stays w i less))) (λ e. (i.last e).hash k);
  function = λ w i k. by w i (λ less. own.function w (within w i) k ∙ ap (function_of other) (sym (stays w i less)))
      (λ e. absurd ((i.last e).no_function k));
  string = λ w i k. by w i (λ less. own.string w (within w i) k ∙ ap (string_of other) (sym (stays w i less)))
      (λ e. absurd ((i.last e).no_string k));
  inner = λ v w i j k. by v i
      (λ less. own.inner v w (within v i) (within w j) k ∙ (λ x. between other (sym (below_line n v.end less) x)
      (sym (below_line n w.start (omega (arith, j.some, j.high))) x)))
      (λ e. absurd ((i.last e).no_function k));
  tight = λ e w j i. by w i
      (λ less. λ x. sym (below_line n e.start (omega (arith, j.some, j.high))) x == sym (below_line n w.end less) x)
      (λ same.
      let at : past_line n w.end ≡ suc n = at_line n w.end same in
      let start : past_line n e.start ≡ e.start = below_line n e.start (omega (arith, j.some, j.high)) in
      apart_places e.start w.end (omega (arith, same, j.some, j.high))
      ∙ sym (apart_places (past_line n e.start) (past_line n w.end) (omega (arith, at, start, j.some, j.high))));
}
  where
    n : ℕ
    n = length put

    other : List ℕ
    other = put ++ 10 ∷ []

    own : SameWords put other (λ x. x) (λ w. (0 ≤ w.start) × (w.start < w.end) × (w.end ≤ n))
    own = part_words put other (λ x. x) 0 n (with_line put)

    within : (w : Word) → InLine put w → (0 ≤ w.start) × (w.start < w.end) × (w.end ≤ n)
    within w i = (omega arith, i.some, i.high)

    stays : (w : Word) → InLine put w → w.end < n → raised_word (past_line n) w ≡ w
    stays w i less = λ x. record {
      kind = w.kind;
      start = below_line n w.start (omega (arith, i.some, less)) x;
      end = below_line n w.end less x;
      spaced = w.spaced;
    }

    by : {A : Type 0} (w : Word) → InLine put w → (w.end < n → A) → (w.end ≡ n → A) → A
    by w i inside last = elim (less w.end n) [ inl a ↦ inside a | inr b ↦ last (omega (arith, b, i.high)) ]

words_in_line : (put : List ℕ) (spaced : Bool) (ts : List Token) → AllByRecursion (StandsIn 0 put) ts
    → AllWords (InLine put) (words_after put spaced ts)
unfolding words_after
words_in_line put spaced [] all = tt
words_in_line put spaced (t ∷ ts) all = by (passed_over t.kind spaced) (λ s. words_in_line put s ts all.1)
  where
    by : (o : Option Bool) → ((s : Bool) → AllWords (InLine put) (words_after put s ts))
        → AllWords (InLine put) (words_by o (word_of put spaced t) (λ s. words_after put s ts))
    by None more = (in_line put spaced t all.0, more false)
    by (Some s) more = more s

line_words_are : (put : List ℕ) (spaced : Bool) (ts : List Token) → AllByRecursion (StandsIn 0 put) ts
    → words_after (put ++ 10 ∷ []) spaced (map (raised (past_line (length put))) ts)
    ≡ map (raised_word (past_line (length put))) (words_after put spaced ts)
unfolding words_after
line_words_are put spaced [] all = refl
line_words_are put spaced (t ∷ ts) all =
    ap (λ (w : Word). words_by (passed_over t.kind spaced) w (λ s. words_after other s (map (raised f) ts))) word_is
    ∙ by (passed_over t.kind spaced) (λ s. line_words_are put s ts all.1)
  where
    f : ℕ → ℕ
    f = past_line (length put)

    other : List ℕ
    other = put ++ 10 ∷ []

    less_than : t.start < length put
    less_than = let h = all.0 in omega (arith, h.some, h.high)

    word_is : word_of other spaced (raised f t) ≡ raised_word f (word_of put spaced t)
    word_is =
        let code : slice_index other (f t.start) ≡ slice_index put t.start =
        ap (slice_index other) (below_line (length put) t.start less_than)
        ∙ sym ((with_line put).code t.start (omega arith) less_than) in
        λ i. record { kind = word_kind t.kind (code i); start = f t.start; end = f t.end; spaced = spaced }

    by : (o : Option Bool) → ((s : Bool) → words_after other s (map (raised f) ts) ≡ map (raised_word f) (words_after put s ts))
        → words_by o (raised_word f (word_of put spaced t)) (λ s. words_after other s (map (raised f) ts))
        ≡ map (raised_word f) (words_by o (word_of put spaced t) (λ s. words_after put s ts))
    by None more = ap (λ (ws : List Word). raised_word f (word_of put spaced t) ∷ ws) (more false)
    by (Some s) more = more s

line_list : (put : List ℕ) (ts : List Token) (ss : List SelectorForm) → AllByRecursion (StandsIn 0 put) ts
    → selector_list_of (word_reading put (words_after put false ts)) ≡ Some ss
    → selector_list_of (word_reading (put ++ 10 ∷ []) (words_after (put ++ 10 ∷ []) false (map (raised (past_line (length put))) ts)))
    ≡ Some (map (placed_selector (past_line (length put))) ss)
line_list put ts ss all e =
    let f = past_line (length put) in
    ap (λ (ws : List Word). selector_list_of (word_reading (put ++ 10 ∷ []) ws)) (line_words_are put false ts all)
    ∙ words_list put (put ++ 10 ∷ []) f (InLine put) (line_words put) (words_after put false ts) (words_in_line put false ts all)
    ∙ ap (option_map (map (placed_selector f))) e

-- ---- the text as it is cut

-- a selector list that these pieces are
pub record IsListOf (text : List ℕ) (ts : List Token) : Type 0 where
  pub ss : List SelectorForm
  pub is : selector_list_of (word_reading text (words_after text false ts)) ≡ Some ss

-- The sealed text, or the text with the LF behind it; what stands behind that; and its pieces, which are those that it has before a space,
-- but for the places of the last
pub record CutBefore (put gap rest : List ℕ) (s : SealedPieces put) : Type 0 where
  pub text : List ℕ
  pub behind : List ℕ
  pub blank : Gap Inner behind
  pub same : text ++ (behind ++ 123 ∷ rest) ≡ put ++ (gap ++ 123 ∷ rest)
  pub front : List ℕ
  pub trail : List ℕ
  pub parted : text ≡ front ++ trail
  pub white : AllWhite trail
  pub moved : ℕ → ℕ
  pub whole : IsWholeBefore (trail ++ (behind ++ 123 ∷ rest)) 0 front (map (raised moved) s.us)
  pub early : AllByRecursion (λ t. t.start < length put) (map (raised moved) s.us)
  pub long : length put ≤ length text
  pub list : (ss : List SelectorForm) → selector_list_of (word_reading put (words_after put false s.us)) ≡ Some ss
      → IsListOf text (map (raised moved) s.us)

-- what stands behind an LF
record BehindLine (x rest : List ℕ) : Type 0 where
  gap : List ℕ
  blank : Gap Inner gap
  is : x ≡ gap ++ 123 ∷ rest

behind_line : (gap rest x : List ℕ) → Gap Inner gap → gap ++ 123 ∷ rest ≡ 10 ∷ x → BehindLine x rest
behind_line _ rest x no_gap e = absurd (cc)
behind_line _ rest x (gap_white c z w g) e = record { gap = z; blank = g; is = cc }
behind_line all rest x (gap_comment inner z _ is own g) e =
    let first : 47 ∷ ((42 ∷ (inner ++ z)) ++ 123 ∷ rest) ≡ 10 ∷ x = sym (ap (λ (t : List ℕ). t ++ 123 ∷ rest) is) ∙ e in absurd (cc)
behind_line all rest x (gap_mark first inner z _ k is top over solid own g) e = absurd (cc)

raised_none : (ts : List Token) → map (raised (λ x. x)) ts ≡ ts
raised_none [] = refl
raised_none (t ∷ ts) = ap (λ (xs : List Token). t ∷ xs) (raised_none ts)

early_tokens : (n hi : ℕ) (ts : List Token) → hi ≤ n → AllTokens 0 hi ts → AllByRecursion (λ t. t.start < n) (map (raised (λ x. x)) ts)
early_tokens n hi [] fits all = tt
early_tokens n hi (t ∷ ts) fits all = (let h = all.0 in omega (arith, fits, h.1, h.2), early_tokens n hi ts fits all.1)

early_line : (put : List ℕ) (ts : List Token) → AllByRecursion (StandsIn 0 put) ts
    → AllByRecursion (λ t. t.start < length put) (map (raised (past_line (length put))) ts)
early_line put [] all = tt
early_line put (t ∷ ts) all = (one all.0, early_line put ts all.1)
  where
    one : StandsIn 0 put t → past_line (length put) t.start < length put
    one h =
        let less : t.start < length put = omega (arith, h.some, h.high) in
        omega (arith, less, below_line (length put) t.start less)

pub cut_before : (put gap rest : List ℕ) (s : SealedPieces put) → Gap Inner gap → CutBefore put gap rest s
cut_before put gap rest s blank = by (sealed_near put s (gap ++ 123 ∷ rest) (facts_gap gap rest blank))
  where
    v : List ℕ
    v = gap ++ 123 ∷ rest

    size : length s.front ≤ length put
    size = omega (arith, ap length s.parted, length-append s.front s.trail)

    by : IsWholeBefore (s.trail ++ v) 0 s.front s.us ⊎ TakesOne v s.trail 0 s.front s.us → CutBefore put gap rest s
    by (inl whole) = record {
      text = put;
      behind = gap;
      blank = blank;
      same = refl;
      front = s.front;
      trail = s.trail;
      parted = s.parted;
      white = s.blank;
      moved = λ x. x;
      whole = subst (IsWholeBefore (s.trail ++ v) 0 s.front) (sym (raised_none s.us)) whole;
      long = omega arith;
      early = early_tokens (length put) (0 + length s.front) s.us (omega (arith, size)) (whole_tokens (s.trail ++ v) 0 s.front s.us whole);
      list = λ ss e. record {
        ss = ss;
        is = ap (λ (ts : List Token). selector_list_of (word_reading put (words_after put false ts))) (raised_none s.us) ∙ e;
      };
    }
    by (inr t) =
        let b = behind_line gap rest t.rest blank t.is in
        let all : s.front ≡ put = sym (s.parted ∙ ap (λ (x : List ℕ). s.front ++ x) t.none ∙ append-nil s.front) in
        let stand = subst (λ (x : List ℕ). AllByRecursion (StandsIn 0 x) s.us) all t.stand in
        let at : 0 + length s.front ≡ length put = omega (arith, ap length all) in
        let whole : IsWholeBefore t.rest 0 (put ++ 10 ∷ []) (map (raised (past_line (length put))) s.us) =
        subst (λ (n : ℕ). IsWholeBefore t.rest 0 (put ++ 10 ∷ []) (map (raised (past_line n)) s.us)) at
        (subst (λ (x : List ℕ). IsWholeBefore t.rest 0 (x ++ 10 ∷ []) (map (raised (past_line (0 + length s.front))) s.us)) all t.whole) in
        record {
          text = put ++ 10 ∷ [];
          behind = b.gap;
          blank = b.blank;
          same = append_assoc put (10 ∷ []) (b.gap ++ 123 ∷ rest)
              ∙ ap (λ (x : List ℕ). put ++ x) (ap (λ (x : List ℕ). 10 ∷ x) (sym b.is) ∙ sym t.is);
          front = put ++ 10 ∷ [];
          trail = [];
          parted = sym (append-nil (put ++ 10 ∷ []));
          white = refl;
          moved = past_line (length put);
          whole = subst (λ (x : List ℕ). IsWholeBefore x 0 (put ++ 10 ∷ []) (map (raised (past_line (length put))) s.us)) b.is whole;
          early = early_line put s.us stand;
          long = omega (arith, length-append put (10 ∷ []));
          list = λ ss e. record {
            ss = map (placed_selector (past_line (length put))) ss;
            is = line_list put s.us ss stand e;
          };
        }
