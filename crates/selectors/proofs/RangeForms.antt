-- Pieces, words and selectors stand one behind the other.
use Rattle.std.proofs.Common.{◌≡◌, ℕ, zero, suc, ◌+◌, ◌-◌, ◌≤◌, Bool, true, false, cond, List, [], ◌∷◌, ◌++◌, length, take, drop, map}
use Rattle.std.proofs.Common.{Option, Some, None, refl, sym, ap, ◌∙◌, subst, length-drop, arith}
use Rattle.std.specs.Prelude.{slice_get}
use Rattle.std.specs.Str.{IsUtf8, IsCharBoundary}
use Rattle.std.proofs.lemmas.List.{drop-drop}
use Rattle.std.proofs.lemmas.Str.{IsCharBoundary-start}
use Rattle.css_tokens.specs.declared.token.Range.{Range}
use Rattle.css_tokens.specs.declared.token.Token.{Token}
use Rattle.css_tokens.specs.declared.token.TokenKind.{TokenKind}
use Rattle.css_tokens.specs.Rows.{piece, first_piece}
use Rattle.css_tokens.specs.Pieces.{pieces, pieces_after, IsCutAt}
use Rattle.css_tokens.proofs.Cuts.{none_at_end, token_end, piece_first}
use Rattle.css_tokens.proofs.RunSteps.{between_to_end}
use Rattle.css_tokens.proofs.TableForms.{first_fits}
use Rattle.selectors.specs.declared.words.Word.{Word}
use Rattle.selectors.specs.Words.{word_reading, passed_over, word_of, words_by, words_after, words_of, is_mark}
use Rattle.selectors.specs.Forms.{SelectorForm, ◌>>=◌}
use Rattle.selectors.specs.Reading.{range_by, range_of, segments, put_first, selector_of, selectors_in, selector_before, selector_list_of}
use Rattle.selectors.specs.Reading.{selectors_of, joined_of, selector_form}
use Rattle.selectors.specs.Ranges.{IsRangeOf, AreBetween, AreTiles, ranges_of}
use Rattle.selectors.proofs.Choices.{none_some, some_is, bind_some}

-- ---- pieces

tiles_end : (text : List ℕ) (place : ℕ) → place ≤ length text → first_piece (drop place text) ≡ None
    → AreTiles text place (length text) (pieces_after place 0 (drop place text))
unfolding pieces_after
tiles_end text place within e =
    let end : drop place text ≡ [] = none_at_end (drop place text) e in
    rw end (omega (arith, ap length end, length-drop place text))

tiles_more : (text : List ℕ) (place : ℕ) (kind : TokenKind) (n : ℕ) → IsUtf8 text → IsCharBoundary text place
    → first_piece (drop place text) ≡ Some (piece kind n)
    → (IsCharBoundary text (place + n) → AreTiles text (place + n) (length text) (pieces_after (place + n) 0 (drop (place + n) text)))
    → AreTiles text place (length text) (pieces_after place 0 (drop place text))
tiles_more text place kind n utf8 edge e more =
    let fits = first_fits text place (piece kind n) edge.0 e in
    let whole : take (length text - place) (drop place text) ≡ drop place text = between_to_end text place (length text) refl in
    let end = token_end text text place (piece kind n) refl utf8 edge.0 (ap first_piece whole ∙ e) (rw whole (fits.0, fits.1)) in
    subst (AreTiles text place (length text)) (sym (piece_first (drop place text) place (piece kind n) e fits.0 fits.1)) (
      refl,
      (omega (arith, fits.0), edge, end),
      subst (λ (x : List ℕ). AreTiles text (place + n) (length text) (pieces_after (place + n) 0 x)) (sym (drop-drop n place text))
          (more end),
    )

tiles_from : (k : ℕ) (text : List ℕ) (place : ℕ) → IsUtf8 text → length text ≤ place + k → IsCharBoundary text place
    → AreTiles text place (length text) (pieces_after place 0 (drop place text))
tiles_from zero text place utf8 near edge =
    elim (first_piece (drop place text)) as
    (λ o. first_piece (drop place text) ≡ o → AreTiles text place (length text) (pieces_after place 0 (drop place text))) [
      | None ↦ λ e. tiles_end text place edge.0 e
      | Some p ↦ λ e. let fits = first_fits text place p edge.0 e in absurd (omega (arith, fits.0, fits.2))
    ] refl
tiles_from (suc k) text place utf8 near edge =
    elim (first_piece (drop place text)) as
    (λ o. first_piece (drop place text) ≡ o → AreTiles text place (length text) (pieces_after place 0 (drop place text))) [
      | None ↦ λ e. tiles_end text place edge.0 e
      | Some p ↦ λ e.
          let fits = first_fits text place p edge.0 e in
          tiles_more text place p.kind p.len utf8 edge e (λ end. tiles_from k text (place + p.len) utf8 (omega (arith, fits.0)) end)
    ] refl

-- the pieces of a text leave nothing out
pub tiles_whole : (text : List ℕ) → IsUtf8 text → AreTiles text 0 (length text) (pieces text)
tiles_whole text utf8 = tiles_from (length text) text 0 utf8 (omega arith) (IsCharBoundary-start text utf8)

pub tiles_order : (text : List ℕ) (from to : ℕ) (ts : List Token) → AreTiles text from to ts → from ≤ to
tiles_order text from to [] e = omega arith
tiles_order text from to (t ∷ ts) all = let more = tiles_order text t.end to ts all.2 in omega (arith, all.0, all.1.0, more)

-- pieces and those behind them
pub record AreCut (text : List ℕ) (from to : ℕ) (xs ys : List Token) : Type 0 where
  pub seam : ℕ
  pub left : AreTiles text from seam xs
  pub right : AreTiles text seam to ys

pub tiles_cut : (text : List ℕ) (from to : ℕ) (xs ys : List Token) → AreTiles text from to (xs ++ ys) → AreCut text from to xs ys
tiles_cut text from to [] ys all = record { seam = from; left = refl; right = all }
tiles_cut text from to (x ∷ xs) ys all =
    let more = tiles_cut text x.end to xs ys all.2 in
    record { seam = more.seam; left = (all.0, all.1, more.left); right = more.right }

-- a place where a piece begins or ends, or the one place where there are none
pub tiles_edge : (text : List ℕ) (from to : ℕ) (ts : List Token) → IsCharBoundary text from → AreTiles text from to ts
    → IsCharBoundary text to
tiles_edge text from to [] edge e = subst (IsCharBoundary text) e edge
tiles_edge text from to (t ∷ ts) edge all = tiles_edge text t.end to ts all.1.2 all.2

-- ---- ranges

pub between_order : (text : List ℕ) (from to : ℕ) (rs : List Range) → AreBetween text from to rs → from ≤ to
between_order text from to [] e = e
between_order text from to (r ∷ rs) all = let more = between_order text r.end to rs all.2 in omega (arith, all.0, all.1.order, more)

pub between_from : (text : List ℕ) (from other to : ℕ) (rs : List Range) → other ≤ from → AreBetween text from to rs
    → AreBetween text other to rs
between_from text from other to [] less e = omega (arith, less, e)
between_from text from other to (r ∷ rs) less all = (omega (arith, less, all.0), all.1, all.2)

-- ranges, and others behind them
pub between_append : (text : List ℕ) (from seam to : ℕ) (rs ss : List Range) → AreBetween text from seam rs → AreBetween text seam to ss
    → AreBetween text from to (rs ++ ss)
between_append text from seam to [] ss left right = between_from text seam from to ss left right
between_append text from seam to (r ∷ rs) ss left right = (left.0, left.1, between_append text r.end seam to rs ss left.2 right)

-- ---- words

abbrev pub range_at : Word → Range
range_at w = record { start = w.start; end = w.end }

abbrev pub AreWords : List ℕ → ℕ → ℕ → List Word → Type 0
AreWords text from to ws = AreBetween text from to (map range_at ws)

word_here : (text : List ℕ) (spaced : Bool) (t : Token) → IsCutAt text t → IsRangeOf text (range_at (word_of text spaced t))
word_here text spaced t cut = record { order = omega (arith, cut.0); front = cut.1; back = cut.2 }

words_one : (o : Option Bool) (text : List ℕ) (spaced : Bool) (from to : ℕ) (t : Token) (more : Bool → List Word) → t.start ≡ from
    → IsCutAt text t → ((s : Bool) → AreWords text t.end to (more s)) → AreWords text from to (words_by o (word_of text spaced t) more)
words_one None text spaced from to t more is cut rest = (omega (arith, is), word_here text spaced t cut, rest false)
words_one (Some s) text spaced from to t more is cut rest = between_from text t.end from to (map range_at (more s))
    (omega (arith, is, cut.0)) (rest s)

-- the words among pieces stand one behind the other
pub words_between : (text : List ℕ) (spaced : Bool) (from to : ℕ) (ts : List Token) → AreTiles text from to ts
    → AreWords text from to (words_after text spaced ts)
unfolding words_after
words_between text spaced from to [] e = omega arith
words_between text spaced from to (t ∷ ts) all =
    words_one (passed_over t.kind spaced) text spaced from to t (λ s. words_after text s ts) all.0 all.1
    (λ s. words_between text s t.end to ts all.2)

-- the last word, and the ranges up to it
record ToLast (text : List ℕ) (from to : ℕ) (w : Word) (ws : List Word) (last : Word) : Type 0 where
  within : AreWords text from last.end (w ∷ ws)
  back : IsCharBoundary text last.end
  fits : last.end ≤ to

to_last : (text : List ℕ) (from to : ℕ) (w : Word) (ws : List Word) (last : Word) → slice_get (w ∷ ws) (length ws) ≡ Some last
    → AreWords text from to (w ∷ ws) → ToLast text from to w ws last
to_last text from to w [] last e all =
    let same : w ≡ last = cc in
    let own : ToLast text from to w [] w = record { within = (all.0, all.1, omega arith); back = all.1.back; fits = all.2 } in
    subst (ToLast text from to w []) same own
to_last text from to w (v ∷ vs) last e all =
    let more = to_last text w.end to v vs last e all.2 in
    record { within = (all.0, all.1, more.within); back = more.back; fits = more.fits }

-- the range from the first to the last of some words, and the words in it
pub record Spans (text : List ℕ) (from to : ℕ) (ws : List Word) (r : Range) : Type 0 where
  pub starts : from ≤ r.start
  pub ends : r.end ≤ to
  pub is : IsRangeOf text r
  pub words : AreWords text r.start r.end ws

pub range_spans : (text : List ℕ) (from to : ℕ) (ws : List Word) (r : Range) → range_of ws ≡ Some r → AreWords text from to ws
    → Spans text from to ws r
range_spans text from to [] r e all = absurd (cc)
range_spans text from to (w ∷ ws) r e all =
    let count : length (w ∷ ws) - 1 ≡ length ws = omega arith in
    let last_is : range_by (Some w) (slice_get (w ∷ ws) (length ws))
    ≡ Some r = ap (λ (n : ℕ). range_by (Some w) (slice_get (w ∷ ws) n)) (sym count) ∙ e in
    by (slice_get (w ∷ ws) (length ws)) refl last_is
  where
    spans : (last : Word) → ToLast text from to w ws last → Spans text from to (w ∷ ws) (record { start = w.start; end = last.end })
    spans last l =
        let order = between_order text w.end last.end (map range_at ws) l.within.2 in
        record {
          starts = l.within.0;
          ends = l.fits;
          is = record { order = omega (arith, l.within.1.order, order); front = l.within.1.front; back = l.back };
          words = (omega arith, l.within.1, l.within.2);
        }

    by : (o : Option Word) → slice_get (w ∷ ws) (length ws) ≡ o → range_by (Some w) o ≡ Some r → Spans text from to (w ∷ ws) r
    by None is e = absurd (none_some r e)
    by (Some last) is e =
        let same : (record { start = w.start; end = last.end })
        ≡ r = some_is {A = Range} (record { start = w.start; end = last.end }) r e in
        subst (Spans text from to (w ∷ ws)) same (spans last (to_last text from to w ws last is all))

-- ---- selectors

-- what stands between commas, one behind the other
abbrev AreSegments : List ℕ → ℕ → ℕ → List (List Word) → Type 0
AreSegments text from to [] = from ≤ to
AreSegments text from to (own ∷ others) = (seam : ℕ) × AreWords text from seam own × AreSegments text seam to others

put_between : (text : List ℕ) (from to : ℕ) (w : Word) (segs : List (List Word)) → from ≤ w.start → IsRangeOf text (range_at w)
    → AreSegments text w.end to segs → AreSegments text from to (put_first w segs)
put_between text from to w [] low is e = (w.end, (low, is, omega arith), e)
put_between text from to w (own ∷ others) low is all = (all.0, (low, is, all.1), all.2)

segments_between : (text : List ℕ) (from to : ℕ) (ws : List Word) → AreWords text from to ws → AreSegments text from to (segments ws)
unfolding segments
segments_between text from to [] e = (from, omega arith, e)
segments_between text from to (w ∷ ws) all = by (is_mark 44 w.kind) (segments_between text w.end to ws all.2)
  where
    by : (b : Bool) → AreSegments text w.end to (segments ws)
        → AreSegments text from to (cond b ([] ∷ segments ws) (put_first w (segments ws)))
    by true more = (w.end, omega (arith, all.0, all.1.order), more)
    by false more = put_between text from to w (segments ws) all.0 all.1 more

selector_range : (text : List ℕ) (own : List Word) (s : SelectorForm) → selector_of (word_reading text own) ≡ Some s
    → range_of own ≡ Some s.range
unfolding selector_of
selector_range text own s e =
    let a = bind_some (range_of own) (λ range. joined_of (word_reading text own) >>= λ whole. Some (selector_form range whole.0)) s e in
    let b = bind_some (joined_of (word_reading text own)) (λ whole. Some (selector_form a.0 whole.0)) s a.2 in
    let same = some_is {A = SelectorForm} (selector_form a.0 b.0.0) s b.2 in
    a.1 ∙ ap (λ (x : SelectorForm). Some x.range) same

selectors_between : (text : List ℕ) (from to : ℕ) (segs : List (List Word)) (ss : List SelectorForm) → selectors_in text segs ≡ Some ss
    → AreSegments text from to segs → AreBetween text from to (ranges_of ss)
unfolding selectors_in
selectors_between text from to [] ss e order =
    let same : [] ≡ ss = some_is {A = List SelectorForm} [] ss e in
    subst (λ (xs : List SelectorForm). AreBetween text from to (ranges_of xs)) same order
selectors_between text from to (own ∷ others) ss e all =
    let a = bind_some (selector_of (word_reading text own)) (λ s. selector_before s (selectors_in text others)) ss e in
    let spans = range_spans text from all.0 own a.0.range (selector_range text own a.0 a.1) all.1 in
    by a.0 spans (selectors_in text others) a.2 (λ tail is. selectors_between text all.0 to others tail is all.2)
  where
    by : (s : SelectorForm) → Spans text from all.0 own s.range → (o : Option (List SelectorForm)) → selector_before s o ≡ Some ss
        → ((tail : List SelectorForm) → o ≡ Some tail → AreBetween text all.0 to (ranges_of tail)) → AreBetween text from to (ranges_of ss)
    by s spans None none more = absurd (none_some ss none)
    by s spans (Some tail) is more =
        let same : s ∷ tail ≡ ss = some_is {A = List SelectorForm} (s ∷ tail) ss is in
        subst (λ (xs : List SelectorForm). AreBetween text from to (ranges_of xs)) same
        (spans.starts, spans.is, between_from text all.0 s.range.end to (ranges_of tail) spans.ends (more tail refl))

-- the selectors of a list stand one behind the other, where its words do
pub list_between : (text : List ℕ) (from to : ℕ) (ws : List Word) (ss : List SelectorForm)
    → selector_list_of (word_reading text ws) ≡ Some ss → AreWords text from to ws → AreBetween text from to (ranges_of ss)
list_between text from to ws ss e all = selectors_between text from to (segments ws) ss e (segments_between text from to ws all)

pub selectors_whole : (text : List ℕ) (ss : List SelectorForm) → IsUtf8 text → selectors_of text ≡ Some ss
    → AreBetween text 0 (length text) (ranges_of ss)
selectors_whole text ss utf8 e = list_between text 0 (length text) (words_of text) ss e
    (words_between text false 0 (length text) (pieces text) (tiles_whole text utf8))
