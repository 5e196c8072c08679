-- Marks of a text of which a part was replaced.
use Rattle.std.proofs.Common.{◌≡◌, ℕ, zero, suc, ◌+◌, ◌-◌, ◌*◌, ◌<◌, ◌≤◌, ◌⊎◌, inl, inr, Bool, true, false, cond, ◌==◌, List}
use Rattle.std.proofs.Common.{[], ◌∷◌, ◌++◌, All, length, take, drop, get_or, refl, sym, ap, ◌∙◌, subst, arith, append_assoc}
use Rattle.std.proofs.Math.Seq.{drop-append_seam, take-append_seam}
use Rattle.std.proofs.lemmas.Bool.{eqb-true, eqb-false, cases_lt}
use Rattle.std.proofs.lemmas.List.{get_or-drop, length-take, length-drop, length-append, take-take}
use Rattle.css_tokens.specs.declared.token.Range.{Range}
use Rattle.selectors.specs.Ranges.{IsRangeOf}
use Rattle.sheet_reader.specs.declared.marks.Mark.{Mark}
use Rattle.sheet_reader.specs.declared.place.Position.{Position}
use Rattle.sheet_reader.specs.Marks.{IsMark, AreMarks, moved_position, moved_mark, CanMoveMark}
use Rattle.sheet_reader.specs.Moves.{replaced}
use Rattle.sheet_reader.specs.Positions.{is_line_feed, units_at, position, position_behind, position_of, behind_byte}
use Rattle.sheet_reader.proofs.MarkForms.{Reaches, ascend, next_position}
use Rattle.sheet_reader.proofs.PositionLemmas.{line_within, column_within}

-- ---- how a position moves

-- on the line of the end of the edit
on_line : (before after p : Position) → p.line ≡ before.line
    → moved_position before after p ≡ position after.line (after.column + (p.column - before.column))
on_line before after p e =
    ap (λ (b : Bool). cond b (position after.line (after.column + (p.column - before.column)))
    (position (after.line + (p.line - before.line)) p.column)) (eqb-refl p.line before.line e)
  where
    eqb-refl : (m n : ℕ) → m ≡ n → (m == n) ≡ true
    eqb-refl m n e = grind (arith, e)

-- on a later one
on_later : (before after p : Position) → before.line < p.line
    → moved_position before after p ≡ position (after.line + (p.line - before.line)) p.column
on_later before after p e =
    ap (λ (b : Bool). cond b (position after.line (after.column + (p.column - before.column)))
    (position (after.line + (p.line - before.line)) p.column)) (not_eqb p.line before.line e)
  where
    not_eqb : (m n : ℕ) → n < m → (m == n) ≡ false
    not_eqb m n e = grind (arith, e)

same_position : (a b c d : ℕ) → a ≡ c → b ≡ d → position a b ≡ position c d
same_position a b c d p q = λ i. position (p i) (q i)

-- the line moves as lines do, wherever it is
line_moved : (before after p : Position) → before.line ≤ p.line → (moved_position before after p).line ≡ after.line + (p.line - before.line)
line_moved before after p low = by (cases_lt before.line p.line)
  where
    by : (before.line < p.line) ⊎ (p.line ≤ before.line) → (moved_position before after p).line ≡ after.line + (p.line - before.line)
    by (inl less) = ap (λ (q : Position). q.line) (on_later before after p less)
    by (inr least) =
        let e : p.line ≡ before.line = omega (arith, low, least) in
        ap (λ (q : Position). q.line) (on_line before after p e) ∙ omega (arith, e)

column_moved : (before after p : Position) → p.line ≡ before.line
    → (moved_position before after p).column ≡ after.column + (p.column - before.column)
column_moved before after p e = ap (λ (q : Position). q.column) (on_line before after p e)

-- a mark that was moved has a line and a column within the text's length
pub moved_fits : (text : List ℕ) (from to m : Mark) → CanMoveMark text from to m
    → (to.place.line + (m.place.line - from.place.line) ≤ length text)
    × (m.place.line ≡ from.place.line → to.place.column + (m.place.column - from.place.column) ≤ 2 * length text)
moved_fits text from to m can =
    let at = moved_mark from to m in
    let low = line_within text at.byte at.place can.is.place in
    let line = line_moved from.place to.place m.place can.line in
    let inside = can.is.inside in (
      omega (arith, low, line, inside),
      λ same. let few = column_within text at.byte at.place can.is.place in
          let column = column_moved from.place to.place m.place same in
          omega (arith, few, column, inside),
    )

-- behind the same byte a position that was moved is that of the other text
move_behind_by : (before after p : Position) (c : ℕ) (b : Bool) → is_line_feed c ≡ b → Reaches before p
    → moved_position before after (cond b (position (p.line + 1) 0) (position p.line (p.column + units_at c)))
    ≡ cond b (position ((moved_position before after p).line + 1) 0)
    (position (moved_position before after p).line ((moved_position before after p).column + units_at c))
move_behind_by before after p c true e r =
    let low : before.line ≤ p.line = low_by r in
    let line = line_moved before after p low in
    on_later before after (position (p.line + 1) 0) (omega (arith, low))
    ∙ same_position (after.line + (p.line + 1 - before.line)) 0 ((moved_position before after p).line + 1) 0
    (omega (arith, line, low)) refl
  where
    low_by : Reaches before p → before.line ≤ p.line
    low_by (inl a) = omega (arith, a)
    low_by (inr a) = omega (arith, a.0)
move_behind_by before after p c false e (inl later) =
    let is = on_later before after p later in
    on_later before after (position p.line (p.column + units_at c)) later
    ∙ sym (ap (λ (q : Position). position q.line (q.column + units_at c)) is)
move_behind_by before after p c false e (inr on) =
    let is = on_line before after p (sym on.0) in
    let up = on.1 in
    on_line before after (position p.line (p.column + units_at c)) (sym on.0)
    ∙ same_position after.line (after.column + (p.column + units_at c - before.column))
    after.line (after.column + (p.column - before.column) + units_at c) refl (omega (arith, up))
    ∙ sym (ap (λ (q : Position). position q.line (q.column + units_at c)) is)

move_behind : (before after p : Position) (c : ℕ) → Reaches before p
    → moved_position before after (behind_byte p c) ≡ behind_byte (moved_position before after p) c
move_behind before after p c r =
    ap (λ (b : Bool). moved_position before after (cond b (position (p.line + 1) 0) (position p.line (p.column + units_at c)))) feed
    ∙ move_behind_by before after p c (is_line_feed c) refl r
  where
    feed : is_line_feed c ≡ is_line_feed c
    feed = refl

-- ---- two texts with the same bytes behind two places

-- the bytes from a place of one text on are those from a place of the other on
pub record SameBehind (old new : List ℕ) (from to : ℕ) : Type 0 where
  pub behind : drop from old ≡ drop to new
  pub inside : from ≤ length old
  pub there : to ≤ length new

same_byte : (old new : List ℕ) (from to n : ℕ) → SameBehind old new from to → get_or old (from + n) 0 ≡ get_or new (to + n) 0
same_byte old new from to n same =
    sym (get_or-drop from old n 0) ∙ ap (λ xs. get_or xs n 0) same.behind ∙ get_or-drop to new n 0

same_length : (old new : List ℕ) (from to : ℕ) → SameBehind old new from to → length old - from ≡ length new - to
same_length old new from to same = sym (length-drop from old) ∙ ap length same.behind ∙ length-drop to new

positions_move : (old new : List ℕ) (from to n : ℕ) → SameBehind old new from to → from + n ≤ length old
    → moved_position (position_of old from) (position_of new to) (position_of old (from + n)) ≡ position_of new (to + n)
positions_move old new from to zero same inside =
    let before = position_of old from in
    let after = position_of new to in
    let here : from + 0 ≡ from = omega arith in
    let there : to + 0 ≡ to = omega arith in
    ap (λ k. moved_position before after (position_of old k)) here
    ∙ on_line before after before refl
    ∙ same_position after.line (after.column + (before.column - before.column)) after.line after.column refl (omega arith)
    ∙ ap (position_of new) (sym there)
positions_move old new from to (suc n) same inside =
    let before = position_of old from in
    let after = position_of new to in
    let here : from + suc n ≡ (from + n) + 1 = omega arith in
    let there : (to + n) + 1 ≡ to + suc n = omega arith in
    let len = same_length old new from to same in
    let bounds = same.there in
    ap (λ k. moved_position before after (position_of old k)) here
    ∙ ap (moved_position before after) (sym (next_position old (from + n) (omega arith)))
    ∙ move_behind before after (position_of old (from + n)) (get_or old (from + n) 0)
    (ascend old from (from + n) (omega arith) (omega arith))
    ∙ ap (λ c. behind_byte (moved_position before after (position_of old (from + n))) c) (same_byte old new from to n same)
    ∙ ap (λ p. behind_byte p (get_or new (to + n) 0)) (positions_move old new from to n same (omega arith))
    ∙ next_position new (to + n) (omega (arith, len, bounds))
    ∙ ap (position_of new) there

-- a mark behind the place moves with it
mark_moves : (old new : List ℕ) (from to m : Mark) → IsMark old from → IsMark new to → SameBehind old new from.byte to.byte → IsMark old m
    → from.byte ≤ m.byte → CanMoveMark new from to m
mark_moves old new from to m is_from is_to same is low =
    let n = m.byte - from.byte in
    let at : from.byte + n ≡ m.byte = omega (arith, low) in
    let len = same_length old new from.byte to.byte same in
    let up = is.inside in
    let over = same.inside in
    let bounds = same.there in
    let reach : Reaches from.place m.place = subst (λ p. Reaches p m.place) (sym is_from.place)
    (subst (Reaches (position_of old from.byte)) (sym is.place) (ascend old from.byte m.byte low is.inside)) in
    record {
      line = line_by reach;
      column = column_by reach;
      is = record {
        inside = omega (arith, len, low, up, over, bounds);
        place = ap (λ p. moved_position p to.place m.place) is_from.place
            ∙ ap (λ p. moved_position (position_of old from.byte) p m.place) is_to.place
            ∙ ap (λ p. moved_position (position_of old from.byte) (position_of new to.byte) p) (is.place ∙ ap (position_of old) (sym at))
            ∙ positions_move old new from.byte to.byte n same (omega (arith, at, up));
      };
    }
  where
    line_by : Reaches from.place m.place → from.place.line ≤ m.place.line
    line_by (inl a) = omega (arith, a)
    line_by (inr a) = omega (arith, a.0)

    column_by : Reaches from.place m.place → m.place.line ≡ from.place.line → from.place.column ≤ m.place.column
    column_by (inl a) e = absurd (omega (arith, a, e))
    column_by (inr a) e = a.1

-- ---- a part replaced

range_inside : (text : List ℕ) (r : Range) → IsRangeOf text r → r.end ≤ length text
range_inside text r is = is.back.0

front_len : (text : List ℕ) (r : Range) → IsRangeOf text r → length (take r.start text) ≡ r.start
front_len text r is = let len = length-take r.start text in omega (arith, len, is.order, is.back.0)

-- what stands before the part stays
pub front_stays : (text put : List ℕ) (r : Range) → IsRangeOf text r → take r.start (replaced text r put) ≡ take r.start text
front_stays text put r is =
    ap (λ n. take n (take r.start text ++ (put ++ drop r.end text))) (sym (front_len text r is))
    ∙ take-append_seam (take r.start text) (put ++ drop r.end text)

new_len : (text put : List ℕ) (r : Range) → IsRangeOf text r
    → length (replaced text r put) ≡ r.start + (length put + (length text - r.end))
new_len text put r is =
    let whole = length-append (take r.start text) (put ++ drop r.end text) in
    let rest = length-append put (drop r.end text) in
    let last = length-drop r.end text in
    let front = front_len text r is in
    omega (arith, whole, rest, last, front)

-- what stands behind it too
pub behind_stays : (text put : List ℕ) (r : Range) → IsRangeOf text r
    → SameBehind text (replaced text r put) r.end (r.start + length put)
behind_stays text put r is =
    let front = take r.start text in
    let at : r.start + length put ≡ length (front ++ put) =
    sym (length-append front put ∙ ap (λ n. n + length put) (front_len text r is)) in
    let len = new_len text put r is in
    record {
      behind = sym (ap (drop (r.start + length put)) (sym (append_assoc front put (drop r.end text)))
          ∙ ap (λ n. drop n ((front ++ put) ++ drop r.end text)) at
          ∙ drop-append_seam (front ++ put) (drop r.end text));
      inside = range_inside text r is;
      there = omega (arith, len);
    }

front_mark : (text put : List ℕ) (r : Range) (m : Mark) → IsRangeOf text r → IsMark text m → m.byte ≤ r.start
    → IsMark (replaced text r put) m
front_mark text put r m is own low =
    let len = new_len text put r is in
    record {
      inside = omega (arith, len, low);
      place = own.place
          ∙ ap position_behind (sym (take-take m.byte r.start text low) ∙ ap (take m.byte) (sym (front_stays text put r is))
          ∙ take-take m.byte r.start (replaced text r put) low);
    }

-- the marks up to the part are marks of the new text
pub front_marks : (text put : List ℕ) (r : Range) (ms : List Mark) → IsRangeOf text r → AreMarks text ms
    → All (λ m. m.byte ≤ r.start → IsMark (replaced text r put) m) ms
front_marks text put r ms is own k d inside low = front_mark text put r (get_or ms k d) is (own k d inside) low

-- and those behind it are, moved
pub behind_marks : (text put : List ℕ) (r : Range) (ms : List Mark) (from to : Mark) → IsRangeOf text r → AreMarks text ms
    → IsMark text from → from.byte ≡ r.end → IsMark (replaced text r put) to → to.byte ≡ r.start + length put
    → All (λ m. from.byte < m.byte → CanMoveMark (replaced text r put) from to m) ms
behind_marks text put r ms from to is own is_from at is_to there k d inside low =
    let same : SameBehind text (replaced text r put) from.byte to.byte =
    subst (λ n. SameBehind text (replaced text r put) n to.byte) (sym at)
    (subst (SameBehind text (replaced text r put) r.end) (sym there) (behind_stays text put r is)) in
    mark_moves text (replaced text r put) from to (get_or ms k d) is_from is_to same (own k d inside) (omega (arith, low))

-- the position in front of the part stays
pub start_stays : (text put : List ℕ) (r : Range) → IsRangeOf text r → position_of (replaced text r put) r.start ≡ position_of text r.start
start_stays text put r is = ap position_behind (front_stays text put r is)

-- the marks behind a part that was replaced, where `from` is its end and `to` the end of what stands there now
pub behind_replaced : (text put new : List ℕ) (r : Range) (ms : List Mark) (from to : Mark) → new ≡ replaced text r put → IsRangeOf text r
    → AreMarks text ms → IsMark text from → from.byte ≡ r.end → to.byte ≡ r.start + length put → to.place ≡ position_of new to.byte
    → All (λ m. from.byte < m.byte → CanMoveMark new from to m) ms
behind_replaced text put new r ms from to e is own is_from at there place =
    let len = new_len text put r is in
    let is_to : IsMark (replaced text r put) to = record {
      inside = omega (arith, len, there);
      place = place ∙ ap (λ t. position_of t to.byte) e;
    } in
    subst (λ t. All (λ (m : Mark). from.byte < m.byte → CanMoveMark t from to m) ms) (sym e)
    (behind_marks text put r ms from to is own is_from at is_to there)
