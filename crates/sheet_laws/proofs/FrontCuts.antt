-- The text up to a place of its sheet: it ends in a whole part, and a text that begins with no white space is cut behind it as it is
-- cut alone.
use Rattle.std.proofs.Common.{◌≡◌, ◌⊎◌, inl, inr, ℕ, ◌+◌, ◌-◌, ◌<◌, ◌≤◌, true, false, List, [], ◌∷◌, ◌++◌, length}
use Rattle.std.proofs.Common.{take, drop, Contains, Some, None, refl, sym, ap, subst, ◌∙◌, append_assoc, append-nil, length-append, arith}
use Rattle.std.specs.Prelude.{slice_index}
use Rattle.std.proofs.lemmas.List.{take-append-drop, length-take-le}
use Rattle.css_tokens.specs.declared.token.Token.{Token}
use Rattle.css_tokens.specs.declared.token.TokenKind.{TokenKind}
use Rattle.css_tokens.specs.declared.token.TokenKind.TheVariants as tokens
use Rattle.css_tokens.specs.Codes.{is_white, begins}
use Rattle.css_tokens.specs.Pieces.{pieces, pieces_after}
use Rattle.css_tokens.specs.Rows.{piece, first_piece}
use Rattle.css_tokens.specs.Seams.{IsWholeBefore, no_more, piece_and}
use Rattle.css_tokens.proofs.SeamPieces.{pieces_at}
use Rattle.css_tokens.proofs.TableForms.{first_fits}
use Rattle.sheet_reader.specs.Grammar.{outside, IsEnding, at_text_end, at_semicolon, in_block, in_open_block, IsRule, IsPart}
use Rattle.sheet_reader.specs.Grammar.{passed_part, at_rule_part, qualified_part}
use Rattle.sheet_reader.specs.Layout.{level_of}
use Rattle.sheet_reader.specs.Parts.{EndingForm, semicolon, block, PartForm, passed, at_rule, qualified, ending_pieces}
use Rattle.sheet_reader.specs.Parts.{part_pieces, parts}
use Rattle.sheet_reader.specs.Sheets.{sheet_of}
use Rattle.sheet_reader.specs.Solids.{StandBetween}
use Rattle.sheet_reader.proofs.GrammarForms.{parts_only, parts_spelled}
use Rattle.sheet_reader.proofs.JoinForms.{some_piece, flat_append}
use Rattle.sheet_reader.proofs.MarkTexts.{Marked, mark_part, semi_piece, semi_first}
use Rattle.sheet_reader.proofs.PartMoves.{AreFlat, flat_of, flat_parts, cons_follows, values_rest}
use Rattle.sheet_reader.proofs.PassedTexts.{PassedForm, a_comment, white, an_opening, a_closing, over, piece_form, comment_closed}
use Rattle.sheet_reader.proofs.PassedTexts.{comment_piece, white_piece, opening_piece, closing_piece}
use Rattle.sheet_reader.proofs.Raised.{flat}
use Rattle.sheet_reader.proofs.SealedCuts.{first_of, close_first, close_piece, one_more}
use Rattle.sheet_reader.proofs.TextMoves.{same_part}
use Rattle.sheet_laws.specs.Places.{IsWholeEnding, whole_semicolon, whole_block, is_comment_kind, EndsComment, IsWholePart, whole_passed}
use Rattle.sheet_laws.specs.Places.{whole_comment, whole_at_rule, whole_qualified, IsBetweenParts}
use Rattle.sheet_laws.proofs.PlaceCuts.{places_between, stand_last}

-- ---- parts behind which something may stand

-- the end of the text does not end it
abbrev pub IsEnded : PartForm → Type 0
IsEnded (passed t) = Unit {0}
IsEnded (at_rule keyword prelude ending) = IsWholeEnding ending
IsEnded (qualified prelude ending) = IsWholeEnding ending

abbrev pub AreEnded : List PartForm → Type 0
AreEnded [] = Unit {0}
AreEnded (p ∷ ps) = IsEnded p × AreEnded ps

pub whole_ended : (text : List ℕ) (p : PartForm) → IsWholePart text p → IsEnded p
whole_ended text _ (whole_passed t e) = tt
whole_ended text _ (whole_comment t e c) = tt
whole_ended text _ (whole_at_rule keyword prelude ending w) = w
whole_ended text _ (whole_qualified prelude ending w) = w

ending_ended : (ending : EndingForm) (rest : List Token) → (rest ≡ [] → ⊥) → IsEnding ending rest → IsWholeEnding ending
ending_ended _ rest some (at_text_end none) = absurd (some none)
ending_ended _ rest some (at_semicolon t e) = whole_semicolon t
ending_ended _ rest some (in_block first close within e vs closed) = whole_block first close within
ending_ended _ rest some (in_open_block first within e vs none) = absurd (some none)

-- a part with something behind it
pub rest_ended : (level : _) (p : PartForm) (rest : List Token) → (rest ≡ [] → ⊥) → IsPart level p rest → IsEnded p
rest_ended level _ rest some (passed_part t e) = tt
rest_ended level _ rest some (at_rule_part keyword prelude ending e r) = ending_ended ending rest some r.ends
rest_ended level _ rest some (qualified_part prelude ending begins r) = ending_ended ending rest some r.ends

ended_rule : (stop : _) (prelude : List Token) (ending : EndingForm) (rest other : List Token) → IsWholeEnding ending
    → IsRule stop prelude ending rest → IsRule stop prelude ending other
ended_rule stop prelude _ rest other (whole_semicolon t) r = record {
  values = values_rest (outside stop) prelude (t ∷ rest) (t ∷ other) (cons_follows t rest) r.values;
  stopped = r.stopped;
  ends = again r.ends;
}
  where
    again : IsEnding (semicolon t) rest → IsEnding (semicolon t) other
    again (at_semicolon _ e) = at_semicolon t e
ended_rule stop prelude _ rest other (whole_block first close within) r = record {
  values = values_rest (outside stop) prelude (first ∷ ((within ++ close ∷ []) ++ rest)) (first ∷ ((within ++ close ∷ []) ++ other))
      (cons_follows first _) r.values;
  stopped = r.stopped;
  ends = again r.ends;
}
  where
    again : IsEnding (block first within (Some close)) rest → IsEnding (block first within (Some close)) other
    again (in_block _ _ _ e own closed) = in_block first close within e
        (values_rest _ within (close ∷ rest) (close ∷ other) (cons_follows close rest) own) closed

-- it is a part whatever stands behind it
pub ended_rest : (level : _) (p : PartForm) (rest other : List Token) → IsEnded p → IsPart level p rest → IsPart level p other
ended_rest level _ rest other ended (passed_part t e) = passed_part t e
ended_rest level _ rest other ended (at_rule_part keyword prelude ending e r) =
    at_rule_part keyword prelude ending e (ended_rule _ prelude ending rest other ended r)
ended_rest level _ rest other ended (qualified_part prelude ending begins r) =
    qualified_part prelude ending begins (ended_rule _ prelude ending rest other ended r)

-- parts have pieces
pub some_behind : (level : _) (before : List PartForm) (p : PartForm) (behind : List PartForm) → AreFlat level (before ++ p ∷ behind)
    → flat (before ++ p ∷ behind) ≡ [] → ⊥
some_behind level [] p behind all = some_piece level p (flat behind) (flat behind) all.0
some_behind level (y ∷ before) p behind all = some_piece level y (flat (before ++ p ∷ behind)) (flat (before ++ p ∷ behind)) all.0

-- parts up to one that is ended, without what stands behind
front_flat : (level : _) (before : List PartForm) (p : PartForm) (behind : List PartForm) → IsEnded p
    → AreFlat level (before ++ p ∷ behind) → AreFlat level (before ++ p ∷ []) × AreEnded (before ++ p ∷ [])
front_flat level [] p behind ended all = ((ended_rest level p (flat behind) [] ended all.0, tt), (ended, tt))
front_flat level (x ∷ before) p behind ended all =
    let more = front_flat level before p behind ended all.1 in
    let own = rest_ended level x (flat (before ++ p ∷ behind)) (some_behind level before p behind all.1) all.0 in
    ((ended_rest level x (flat (before ++ p ∷ behind)) (flat (before ++ p ∷ [])) own all.0, more.0), (own, more.1))

-- ended parts, and others behind them
pub ended_join : (level : _) (ps qs : List PartForm) → AreEnded ps → AreFlat level ps → AreFlat level qs → AreFlat level (ps ++ qs)
ended_join level [] qs ended all others = others
ended_join level (p ∷ ps) qs ended all others =
    (ended_rest level p (flat ps) (flat (ps ++ qs)) ended.0 all.0, ended_join level ps qs ended.1 all.1 others)

-- ---- a text whose front is cut into these pieces, whatever stands behind it but white space that goes on

pub record FrontCut (text : List ℕ) (us more : List Token) : Type 0 where
  pub front : List ℕ
  pub after : List ℕ
  pub is : text ≡ front ++ after
  pub left : more ≡ pieces_after (length front) 0 after
  pub whole : (other : List ℕ) → (begins is_white after ≡ false → begins is_white other ≡ false) → IsWholeBefore other 0 front us

begins_same : (own x y : List ℕ) → 0 < length own → begins is_white (own ++ x) ≡ false → begins is_white (own ++ y) ≡ false
begins_same [] x y some e = absurd (omega (arith, some))
begins_same (c ∷ own) x y some e = e

-- a piece that is passed over stays what it is
pub passed_piece : (own after other : List ℕ) (k : TokenKind) → first_piece (own ++ after) ≡ Some (piece k (length own)) → over k ≡ true
    → (k ≡ tokens.Comment → after ≡ []
    → (4 ≤ length own) × (slice_index own (length own - 2) ≡ 42) × (slice_index own (length own - 1) ≡ 47))
    → (begins is_white after ≡ false → begins is_white other ≡ false) → first_piece (own ++ other) ≡ Some (piece k (length own))
passed_piece own after other k found passes at_end apart =
    let g = piece_form own after k found passes in by g.0 g.1 g.2
  where
    named : (kind : TokenKind) → k ≡ kind → first_piece (own ++ other) ≡ Some (piece kind (length own))
        → first_piece (own ++ other) ≡ Some (piece k (length own))
    named kind e same = same ∙ ap (λ (n : TokenKind). Some (piece n (length own))) (sym e)

    by : (behind : List ℕ) → behind ≡ after → PassedForm k own behind → first_piece (own ++ other) ≡ Some (piece k (length own))
    by behind same (a_comment f) =
        let c = comment_closed own after k found passes at_end f.named in
        named tokens.Comment f.named (comment_piece k own behind other c.0 f c.1)
    by behind same (white f) =
        named tokens.WhiteSpace f.named (white_piece own other f.run.0 f.some (apart (ap (begins is_white) (sym same) ∙ f.run.1)))
    by behind same (an_opening f) =
        named tokens.Cdo f.named (subst (λ (x : List ℕ). first_piece (x ++ other) ≡ Some (piece tokens.Cdo (length x))) (sym f.is)
        (opening_piece other))
    by behind same (a_closing f) =
        named tokens.Cdc f.named (subst (λ (x : List ℕ). first_piece (x ++ other) ≡ Some (piece tokens.Cdc (length x))) (sym f.is)
        (closing_piece other))

-- no pieces: no text
none_here : (place : ℕ) (x : List ℕ) (more : List Token) → pieces_after place 0 x ≡ more → x ≡ [] → more ≡ []
unfolding pieces_after
none_here place x more e none = sym e ∙ ap (pieces_after place 0) none

-- the last codes of a comment, in the comment itself
comment_marks : (text front own after : List ℕ) (t : Token) → text ≡ front ++ (own ++ after) → t.start ≡ length front
    → t.end ≡ length front + length own → EndsComment text t
    → (4 ≤ length own) × (slice_index own (length own - 2) ≡ 42) × (slice_index own (length own - 1) ≡ 47)
comment_marks text front own after t is start end e =
    let long : 4 ≤ length own = omega (arith, e.long, start, end) in
    let two : length front + (length own - 2) ≡ t.end - 2 = omega (arith, long, end) in
    let one : length front + (length own - 1) ≡ t.end - 1 = omega (arith, long, end) in
    let same = same_part front own after [] [] (λ (x : ℕ). x - length front) (λ x fits. omega arith) in
    let at : (i j : ℕ) → length front + i ≡ j → i < length own → slice_index own i ≡ slice_index text j = λ i j sum less.
    let back : j - length front ≡ i = omega (arith, sum) in
    (λ k. slice_index (sym (append-nil own) k) (sym back k))
    ∙ sym (same.code j (omega (arith, sum)) (omega (arith, sum, less))) ∙ ap (λ (x : List ℕ). slice_index x j) (sym is) in (
      long,
      at (length own - 2) (t.end - 2) two (omega (arith, long)) ∙ e.star,
      at (length own - 1) (t.end - 1) one (omega (arith, long)) ∙ e.slash,
    )

-- one more piece that is passed over
cut_passed : (text : List ℕ) (us : List Token) (t : Token) (more : List Token) → FrontCut text us (t ∷ more) → over t.kind ≡ true
    → (more ≡ [] → IsWholePart text (passed t)) → FrontCut text (us ++ t ∷ []) more
cut_passed text us t more c passes last =
    let n = length c.front in
    let f = first_of c.after n t more (sym c.left) in
    let own = take f.p.len c.after in
    let after = drop f.p.len c.after in
    let parted : own ++ after ≡ c.after = take-append-drop f.p.len c.after in
    let size : length own ≡ f.p.len = length-take-le f.p.len c.after f.fits in
    let kind : f.p.kind ≡ t.kind = ap (λ (u : Token). u.kind) f.head in
    let start : n ≡ t.start = ap (λ (u : Token). u.start) f.head in
    let end : n + f.p.len ≡ t.end = ap (λ (u : Token). u.end) f.head in
    let found : first_piece (own ++ after) ≡ Some (piece t.kind (length own)) =
    ap first_piece parted ∙ f.found ∙ (λ i. Some (piece (kind i) (sym size i))) in
    let is : text ≡ c.front ++ (own ++ after) = c.is ∙ ap (λ (x : List ℕ). c.front ++ x) (sym parted) in
    let marks = λ (k : t.kind ≡ tokens.Comment) (none : after ≡ []).
    comment_marks text c.front own after t is (sym start) (omega (arith, end, size))
    (comment_ends t k (last (none_here (n + f.p.len) after more f.more none))) in
    let some : 0 < length own = omega (arith, size, f.some) in
    let token : ◌≡◌ {A = Token} (record { kind = t.kind; start = 0 + n; end = 0 + n + length own }) t =
    by_places t n (length own) start (omega (arith, end, size)) in
    record {
      front = c.front ++ own;
      after = after;
      is = is ∙ sym (append_assoc c.front own after);
      left = sym f.more ∙ ap (λ (m : ℕ). pieces_after m 0 after) (omega (arith, size, length-append c.front own));
      whole = λ other apart. subst (λ (u : Token). IsWholeBefore other 0 (c.front ++ own) (us ++ u ∷ [])) token
          (one_more other own (piece t.kind (length own)) 0 c.front us
          (c.whole (own ++ other) (λ e. begins_same own after other some (ap (begins is_white) parted ∙ e))) refl
          (passed_piece own after other t.kind found passes marks apart));
    }
  where
    comment_ends : (t : Token) → t.kind ≡ tokens.Comment → IsWholePart text (passed t) → EndsComment text t
    comment_ends t k (whole_comment _ e ends) = ends
    comment_ends t k (whole_passed _ e) = let wrong : true ≡ false = ap is_comment_kind (sym k) ∙ e in absurd (cc)

    by_places : (t : Token) (n size : ℕ) → n ≡ t.start → n + size ≡ t.end
        → ◌≡◌ {A = Token} (record { kind = t.kind; start = 0 + n; end = 0 + n + size }) t
    by_places t n size start end =
        let a : 0 + n ≡ t.start = omega (arith, start) in
        let b : 0 + n + size ≡ t.end = omega (arith, end) in
        λ i. record { kind = t.kind; start = a i; end = b i }

-- the text up to a `;` or a `}`
of_mark : (text : List ℕ) (us : List Token) (t : Token) (more : List Token) → Marked text us t more → FrontCut text (us ++ t ∷ []) more
of_mark text us t more m = record {
  front = m.front;
  after = m.after;
  is = m.is;
  left = m.left;
  whole = λ other apart. m.whole other;
}

cut_semicolon : (text : List ℕ) (us : List Token) (t : Token) (more : List Token) → pieces text ≡ us ++ t ∷ more
    → t.kind ≡ tokens.Semicolon → FrontCut text (us ++ t ∷ []) more
cut_semicolon text us t more cuts kind =
    of_mark text us t more (mark_part 59 tokens.Semicolon refl semi_piece semi_first text us t more cuts kind)

cut_close : (text : List ℕ) (us : List Token) (t : Token) (more : List Token) → pieces text ≡ us ++ t ∷ more
    → t.kind ≡ tokens.CloseCurly → FrontCut text (us ++ t ∷ []) more
cut_close text us t more cuts kind =
    of_mark text us t more (mark_part 125 tokens.CloseCurly refl close_piece close_first text us t more cuts kind)

-- one more ending
cut_ending : (text : List ℕ) (us : List Token) (ending : EndingForm) (more : List Token) → IsWholeEnding ending → IsEnding ending more
    → pieces text ≡ us ++ (ending_pieces ending ++ more) → FrontCut text (us ++ ending_pieces ending) more
cut_ending text us _ more (whole_semicolon t) ends cuts = cut_semicolon text us t more cuts (by ends)
  where
    by : IsEnding (semicolon t) more → t.kind ≡ tokens.Semicolon
    by (at_semicolon _ e) = e
cut_ending text us _ more (whole_block first close within) ends cuts =
    let front = us ++ first ∷ within in
    subst (λ (ts : List Token). FrontCut text ts more) (append_assoc us (first ∷ within) (close ∷ []))
    (cut_close text front close more (cuts
    ∙ ap (λ (ts : List Token). us ++ ts) (append_assoc (first ∷ within) (close ∷ []) more)
    ∙ sym (append_assoc us (first ∷ within) (close ∷ more))) (by ends))
  where
    by : IsEnding (block first within (Some close)) more → close.kind ≡ tokens.CloseCurly
    by (in_block _ _ _ e own closed) = closed

cut_rule : (text : List ℕ) (us front : List Token) (ending : EndingForm) (more : List Token) → IsWholeEnding ending → IsEnding ending more
    → pieces text ≡ us ++ ((front ++ ending_pieces ending) ++ more) → FrontCut text (us ++ (front ++ ending_pieces ending)) more
cut_rule text us front ending more whole ends cuts =
    subst (λ (ts : List Token). FrontCut text ts more) (append_assoc us front (ending_pieces ending))
    (cut_ending text (us ++ front) ending more whole ends (cuts
    ∙ ap (λ (ts : List Token). us ++ ts) (append_assoc front (ending_pieces ending) more)
    ∙ sym (append_assoc us front (ending_pieces ending ++ more))))

-- one more part: the last one is whole
pub cut_part : (text : List ℕ) (us : List Token) (p : PartForm) (more : List Token) → IsPart (level_of None) p more → IsEnded p
    → (more ≡ [] → IsWholePart text p) → pieces text ≡ us ++ (part_pieces p ++ more) → FrontCut text us (part_pieces p ++ more)
    → FrontCut text (us ++ part_pieces p) more
cut_part text us _ more (passed_part t e) ended last cuts c = cut_passed text us t more c e last
cut_part text us _ more (at_rule_part keyword prelude ending e r) ended last cuts c =
    cut_rule text us (keyword ∷ prelude) ending more ended r.ends cuts
cut_part text us _ more (qualified_part prelude ending begins r) ended last cuts c =
    cut_rule text us prelude ending more ended r.ends cuts

-- parts one after the other, up to a whole one
cut_parts : (text : List ℕ) (us : List Token) (before : List PartForm) (p : PartForm) (behind : List PartForm)
    → AreFlat (level_of None) (before ++ p ∷ behind) → IsWholePart text p → pieces text ≡ us ++ flat (before ++ p ∷ behind)
    → FrontCut text us (flat (before ++ p ∷ behind)) → FrontCut text (us ++ flat (before ++ p ∷ [])) (flat behind)
cut_parts text us [] p behind all whole cuts c =
    subst (λ (ts : List Token). FrontCut text (us ++ ts) (flat behind)) (sym (append-nil (part_pieces p)))
    (cut_part text us p (flat behind) all.0 (whole_ended text p whole) (λ none. whole) cuts c)
cut_parts text us (x ∷ before) p behind all whole cuts c =
    let rest = flat (before ++ p ∷ behind) in
    let some = some_behind (level_of None) before p behind all.1 in
    let next = cut_part text us x rest all.0 (rest_ended (level_of None) x rest some all.0) (λ none. absurd (some none)) cuts c in
    subst (λ (ts : List Token). FrontCut text ts (flat behind)) (append_assoc us (part_pieces x) (flat (before ++ p ∷ [])))
    (cut_parts text (us ++ part_pieces x) before p behind all.1 whole
    (cuts ∙ sym (append_assoc us (part_pieces x) rest)) next)

-- ---- the text up to a place

pub record FrontAt (text : List ℕ) (place : ℕ) : Type 0 where
  pub front : List ℕ
  pub after : List ℕ
  pub is : text ≡ front ++ after
  pub size : length front ≡ place
  pub ps : List PartForm
  pub are : AreFlat (level_of None) ps
  pub ended : AreEnded ps
  pub whole : (other : List ℕ) → (begins is_white after ≡ false → begins is_white other ≡ false) → IsWholeBefore other 0 front (flat ps)

-- whole pieces stand one behind the other
whole_stand : (after : List ℕ) (place : ℕ) (text : List ℕ) (ts : List Token) → IsWholeBefore after place text ts
    → StandBetween place (place + length text) ts
whole_stand after place _ _ no_more = omega arith
whole_stand after place text _ (piece_and {ts = more} p front rest is len found whole) =
    let fits = first_fits (text ++ after) 0 p (omega arith) found in
    let size : place + p.len + length rest ≡ place + length text = omega (arith, len, ap length is, length-append front rest) in (
      refl,
      omega (arith, fits.0),
      subst (λ (n : ℕ). StandBetween (place + p.len) n more) size
          (whole_stand after (place + p.len) rest more whole),
    )

front_behind : (text : List ℕ) (place : ℕ) → IsBetweenParts text (parts (level_of None) (pieces text)) place → FrontAt text place
unfolding pieces_after
front_behind text place b =
    let ps = b.before ++ b.part ∷ [] in
    let both = flat_of (level_of None) (parts (level_of None) (pieces text)) (pieces text) (parts_spelled (level_of None) (pieces text)) in
    let all : AreFlat (level_of None) (b.before ++ b.part ∷ b.behind) = subst (AreFlat (level_of None)) b.is both.1 in
    let cuts : pieces text ≡ flat (b.before ++ b.part ∷ b.behind) = both.0 ∙ ap flat b.is in
    let c = cut_parts text [] b.before b.part b.behind all b.ends.whole cuts
    (record { front = []; after = text; is = refl; left = sym cuts; whole = λ other apart. no_more }) in
    let own = front_flat (level_of None) b.before b.part b.behind (whole_ended text b.part b.ends.whole) all in
    let last : flat ps ≡ (flat b.before ++ b.ends.front) ++ b.ends.last ∷ [] =
    flat_append b.before (b.part ∷ [])
    ∙ ap (λ (ts : List Token). flat b.before ++ ts) (append-nil (part_pieces b.part) ∙ b.ends.is)
    ∙ sym (append_assoc (flat b.before) b.ends.front (b.ends.last ∷ [])) in
    let stands = stand_last 0 (0 + length c.front) (flat b.before ++ b.ends.front) b.ends.last
    (subst (StandBetween 0 (0 + length c.front)) last (whole_stand c.after 0 c.front (flat ps) (c.whole c.after (λ e. e)))) in
    record {
      front = c.front;
      after = c.after;
      is = c.is;
      size = omega (arith, stands.1, b.ends.ends);
      ps = ps;
      are = own.0;
      ended = own.1;
      whole = c.whole;
    }

pub front_at : (text : List ℕ) (place : ℕ) → Contains (sheet_of text).places place → FrontAt text place
front_at text place there = by (places_between text place there)
  where
    by : (place ≡ 0) ⊎ IsBetweenParts text (parts (level_of None) (pieces text)) place → FrontAt text place
    by (inl e) = record {
      front = [];
      after = text;
      is = refl;
      size = sym e;
      ps = [];
      are = tt;
      ended = tt;
      whole = λ other apart. no_more;
    }
    by (inr b) = front_behind text place b

-- its pieces, and its parts
pub front_pieces : (text : List ℕ) (place : ℕ) (f : FrontAt text place) → pieces f.front ≡ flat f.ps
unfolding pieces_after
front_pieces text place f =
    sym (ap pieces (append-nil f.front)) ∙ pieces_at [] f.front (flat f.ps) (f.whole [] (λ e. refl)) ∙ append-nil (flat f.ps)

pub front_parts : (text : List ℕ) (place : ℕ) (f : FrontAt text place) → f.ps ≡ parts (level_of None) (pieces f.front)
front_parts text place f =
    parts_only (level_of None) f.ps (flat f.ps) (flat_parts (level_of None) f.ps f.are)
    ∙ ap (parts (level_of None)) (sym (front_pieces text place f))
