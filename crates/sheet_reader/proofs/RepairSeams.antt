-- A text taken apart at the seams around a part of it.
use Rattle.std.proofs.Common.{◌≡◌, ◌⊎◌, inl, inr, ℕ, zero, suc, ◌+◌, ◌-◌, ◌<◌, ◌≤◌, true, List, [], ◌∷◌, ◌++◌, map, take, drop}
use Rattle.std.proofs.Common.{length, Option, Some, None, refl, sym, ap, subst, ◌∙◌, length-append, arith}
use Rattle.std.specs.Prelude.{slice_get, slice_range}
use Rattle.std.proofs.lemmas.List.{append-nil, take-append-drop, length-take-le, drop-drop}
use Rattle.std.proofs.lemmas.List.{take-append-le}
use Rattle.std.proofs.lemmas.Option.{slice_get_within}
use Rattle.std.proofs.Math.Seq.{drop-append_seam, take-append_seam}
use Rattle.css_tokens.specs.declared.token.Range.{Range}
use Rattle.css_tokens.specs.Pieces.{pieces, pieces_after}
use Rattle.sheet_reader.specs.declared.parts.Level.TheVariants.{Top}
use Rattle.sheet_reader.specs.declared.sheet.Sheet.{Sheet}
use Rattle.sheet_reader.specs.Parts.{parts, parts_after}
use Rattle.sheet_reader.specs.Layout.{media_in, laid_to}
use Rattle.sheet_reader.specs.Joins.{is_shut_text, behind_rule, behind_media, joined}
use Rattle.sheet_reader.specs.Repairs.{IsShutPlace, IsSeam, IsSecondSeam}
use Rattle.sheet_reader.specs.Moves.{replaced}
use Rattle.sheet_reader.specs.Sheets.{rules_in, places_in, sheet_of}
use Rattle.sheet_reader.proofs.JoinedLaw.{joined_holds}
use Rattle.sheet_reader.proofs.RepairBounds.{AreFrom, places_from}
use Rattle.sheet_reader.proofs.SeamForms.{SeamAt, seam_at, no_element, got_behind}

-- ---- an empty text says nothing
pub empty_rules : (sheet_of []).rules ≡ []
unfolding pieces_after parts_after laid_to rules_in
empty_rules = refl

pub empty_media : (sheet_of []).media ≡ []
unfolding pieces_after parts_after laid_to media_in
empty_media = refl

pub empty_places : (sheet_of []).places ≡ 0 ∷ []
unfolding pieces_after parts_after places_in
empty_places = refl

empty_shut : is_shut_text [] ≡ true
unfolding pieces_after parts_after
empty_shut = refl

-- ---- a text taken apart at a seam
pub apart : (text : List ℕ) (place : ℕ) → IsSeam text (sheet_of text).places place → SeamAt text place
apart text place (inl start) = record { front = []; behind = text; is = refl; size = sym start; shut = empty_shut }
apart text place (inr s) = seam_at text s.number place s.there s.some s.shut

-- a text that a seam ends
pub ends_there : (text : List ℕ) → IsShutPlace text (sheet_of text).places (length text) → is_shut_text text ≡ true
ends_there text s =
    let a = seam_at text s.number (length text) s.there s.some s.shut in
    let none : a.behind ≡ [] = nothing a.behind (omega (arith, ap length a.is, length-append a.front a.behind, a.size)) in
    let same : a.front ≡ text = sym (append-nil a.front) ∙ sym (ap (λ (x : List ℕ). a.front ++ x) none) ∙ sym a.is in
    sym (ap is_shut_text same) ∙ a.shut
  where
    nothing : (x : List ℕ) → length x ≡ 0 → x ≡ []
    nothing [] e = refl
    nothing (c ∷ x) e = absurd (omega (arith, e))

-- a text that ends with a rule, or the last one
pub joined_or : (text other : List ℕ) → (is_shut_text text ≡ true) ⊎ (other ≡ [])
    → sheet_of (text ++ other) ≡ joined (length text) (sheet_of text) (sheet_of other)
joined_or text other (inl shut) = joined_holds text other shut
joined_or text other (inr none) =
    let rules : (sheet_of other).rules ≡ [] = ap (λ (x : List ℕ). (sheet_of x).rules) none ∙ empty_rules in
    let media : (sheet_of other).media ≡ [] = ap (λ (x : List ℕ). (sheet_of x).media) none ∙ empty_media in
    let places : drop 1 (sheet_of other).places ≡ [] = ap (λ (x : List ℕ). drop 1 (sheet_of x).places) none ∙ ap (drop 1) empty_places in
    let s = sheet_of text in
    let n = length text in
    let k = length s.media in
    let alone : ◌≡◌ {A = Sheet} (record { rules = s.rules ++ []; places = s.places ++ []; media = s.media ++ [] }) s =
    λ i. record { rules = append-nil s.rules i; places = append-nil s.places i; media = append-nil s.media i } in
    ap sheet_of (ap (λ (x : List ℕ). text ++ x) none ∙ append-nil text) ∙ sym alone
    ∙ (λ i. record {
      rules = s.rules ++ map (behind_rule n k) (sym rules i);
      places = s.places ++ map (λ x. n + x) (sym places i);
      media = s.media ++ map (behind_media n k) (sym media i);
    })

-- ---- and at two seams
pub record Between (text : List ℕ) (start end : ℕ) : Type 0 where
  pub front : List ℕ
  pub own : List ℕ
  pub behind : List ℕ
  pub is : text ≡ front ++ (own ++ behind)
  pub size : length front ≡ start
  pub stop : start + length own ≡ end
  pub front_shut : is_shut_text front ≡ true
  pub own_shut : (is_shut_text own ≡ true) ⊎ (behind ≡ [])
  pub some : (0 < length front + length own) ⊎ (behind ≡ [])

record Mapped {X Y : Type 0} (f : X → Y) (xs : List X) (k : ℕ) (y : Y) : Type 0 where
  x : X
  there : slice_get xs k ≡ Some x
  is : f x ≡ y

mapped : {X Y : Type 0} (f : X → Y) (xs : List X) (k : ℕ) (y : Y) → slice_get (map f xs) k ≡ Some y → Mapped f xs k y
mapped f [] k y e = absurd (no_element k y e)
mapped f (x ∷ xs) zero y e = record { x = x; there = refl; is = cc }
mapped f (x ∷ xs) (suc k) y e =
    let m = mapped f xs k y e in record { x = m.x; there = m.there; is = m.is }

-- an element of two lists is one of the second, or one of the first
got_of : {X : Type 0} (xs ys : List X) (k : ℕ) (x : X) → slice_get (xs ++ ys) k ≡ Some x
    → (slice_get xs k ≡ Some x) ⊎ (length xs ≤ k)
got_of [] ys k x e = inr (omega arith)
got_of (y ∷ xs) ys zero x e = inl e
got_of (y ∷ xs) ys (suc k) x e = elim (got_of xs ys k x e) [ inl there ↦ inl there | inr past ↦ inr (omega (arith, past)) ]

place_bound : (lo hi : ℕ) (xs : List ℕ) (k x : ℕ) → AreFrom lo hi xs → slice_get xs k ≡ Some x → x ≤ hi
place_bound lo hi [] k x all e = absurd (no_element k x e)
place_bound lo hi (y ∷ xs) zero x all e = let same : y ≡ x = cc in omega (arith, same, all.1)
place_bound lo hi (y ∷ xs) (suc k) x all e = place_bound lo hi xs k x all.2 e

-- a place behind a text that ends with a `}` is one of what stands behind it
place_behind : (front behind : List ℕ) → is_shut_text front ≡ true → (place : ℕ) → length front < place
    → IsShutPlace (front ++ behind) (sheet_of (front ++ behind)).places place
    → IsShutPlace behind (sheet_of behind).places (place - length front)
place_behind front behind shut place past s =
    by (got_of own moved s.number place there)
  where
    own : List ℕ
    own = (sheet_of front).places

    others : List ℕ
    others = places_in behind (parts Top (pieces behind))

    moved : List ℕ
    moved = map (λ x. length front + x) others

    there : slice_get (own ++ moved) s.number ≡ Some place
    there = sym (ap (λ (t : Sheet). slice_get t.places s.number) (joined_holds front behind shut)) ∙ s.there

    bound : (k : ℕ) → slice_get own k ≡ Some place → place ≤ length front
    bound zero e = let same : 0 ≡ place = cc in omega (arith, same)
    bound (suc k) e = place_bound 0 (length front) (places_in front (parts Top (pieces front))) k place (places_from front) e

    by : (slice_get own s.number ≡ Some place) ⊎ (length own ≤ s.number)
        → IsShutPlace behind (sheet_of behind).places (place - length front)
    by (inl e) = let fits = bound s.number e in absurd (omega (arith, fits, past))
    by (inr late) =
        let m = mapped (λ (x : ℕ). length front + x) others (s.number - length own) place
        (sym (got_behind own moved s.number late) ∙ there) in
        let sum : length front + m.x ≡ place = m.is in
        let at : place - length front ≡ m.x = omega (arith, sum) in
        let less : length front + (place - length front - 1) ≡ place - 1 = omega (arith, past) in
        let back : length front + (place - length front - 1) - length front ≡ place - length front - 1 = omega arith in
        record {
          number = suc (s.number - length own);
          there = m.there ∙ ap (λ (k : ℕ). Some k) (sym at);
          some = omega (arith, past);
          shut = sym (ap (slice_get behind) back) ∙ sym (got_behind front behind (length front + (place - length front - 1)) (omega arith))
              ∙ ap (slice_get (front ++ behind)) less ∙ s.shut;
        }

-- the second seam behind the first
second : (front behind : List ℕ) (start end : ℕ) → is_shut_text front ≡ true → length front ≡ start → start ≤ end
    → IsSecondSeam (front ++ behind) (sheet_of (front ++ behind)).places end → Between (front ++ behind) start end
second front behind start end shut size order (inl last) = record {
  front = front;
  own = behind;
  behind = [];
  is = ap (λ (x : List ℕ). front ++ x) (sym (append-nil behind));
  size = size;
  stop = omega (arith, size, last, length-append front behind);
  front_shut = shut;
  own_shut = inr refl;
  some = inr refl;
}
second front behind start end shut size order (inr s) = by (end - start) refl
  where
    by : (k : ℕ) → end - start ≡ k → Between (front ++ behind) start end
    by zero e =
        let some = s.some in
        record {
          front = front;
          own = [];
          behind = behind;
          is = refl;
          size = size;
          stop = omega (arith, e, order);
          front_shut = shut;
          own_shut = inl empty_shut;
          some = inl (omega (arith, some, e, order, size));
        }
    by (suc k) e =
        let there = place_behind front behind shut end (omega (arith, e, size)) s in
        let b = seam_at behind there.number (end - length front) there.there there.some there.shut in
        record {
          front = front;
          own = b.front;
          behind = b.behind;
          is = ap (λ (x : List ℕ). front ++ x) b.is;
          size = size;
          stop = omega (arith, b.size, size, e);
          front_shut = shut;
          own_shut = inl b.shut;
          some = inl (omega (arith, b.size, size, e));
        }

pub between : (text : List ℕ) (start end : ℕ) → start ≤ end → IsSeam text (sheet_of text).places start
    → IsSecondSeam text (sheet_of text).places end → Between text start end
between text start end order seam back =
    let a = apart text start seam in
    subst (λ (t : List ℕ). IsSecondSeam t (sheet_of t).places end → Between t start end) (sym a.is)
    (second a.front a.behind start end a.shut a.size order) back

-- ---- the new text
-- where a range of a part is replaced, the text is the same before the part and behind it
pub new_between : (front own behind put new_text : List ℕ) (part : Range) → new_text ≡ replaced (front ++ (own ++ behind)) part put
    → length front ≤ part.start → part.start ≤ part.end → part.end ≤ length front + length own → (stop : ℕ)
    → stop ≡ length front + length own - (part.end - part.start) + length put
    → new_text ≡ front ++ (slice_range new_text (length front) stop ++ behind)
new_between front own behind put new_text part is starts order ends stop stop_is =
    let n = length front in
    let text = front ++ (own ++ behind) in
    let lead = take part.start text in
    let rest = drop part.end text in
    let total = length-append front (own ++ behind) in
    let two = length-append own behind in
    let lead_size : length lead ≡ part.start = length-take-le part.start text (omega (arith, order, ends, total, two)) in
    let first : take n lead ≡ front = taken n part.start text starts ∙ take-append_seam front (own ++ behind) in
    let one : take n new_text ≡ front =
    ap (take n) is ∙ take-append-le n lead (put ++ rest) (omega (arith, lead_size, starts)) ∙ first in
    let stop_at : stop ≡ length lead + (length put + (n + length own - part.end)) =
    omega (arith, stop_is, lead_size, order, ends, starts) in
    let past : part.end + (n + length own - part.end) ≡ n + length own = omega (arith, ends) in
    let whole : n + (stop - n) ≡ stop = omega (arith, stop_at, lead_size, starts) in
    let last : drop stop new_text ≡ behind =
    (λ i. drop (stop_at i) (is i))
    ∙ sym (drop-drop (length put + (n + length own - part.end)) (length lead) (lead ++ (put ++ rest)))
    ∙ ap (drop (length put + (n + length own - part.end))) (drop-append_seam lead (put ++ rest))
    ∙ sym (drop-drop (n + length own - part.end) (length put) (put ++ rest))
    ∙ ap (drop (n + length own - part.end)) (drop-append_seam put rest)
    ∙ drop-drop (n + length own - part.end) part.end text
    ∙ ap (λ (k : ℕ). drop k text) past
    ∙ sym (drop-drop (length own) n text)
    ∙ ap (drop (length own)) (drop-append_seam front (own ++ behind)) ∙ drop-append_seam own behind in
    sym (take-append-drop n new_text)
    ∙ (λ i. one i ++ sym (take-append-drop (stop - n) (drop n new_text)) i)
    ∙ ap (λ (x : List ℕ). front ++ (slice_range new_text n stop ++ x))
    (drop-drop (stop - n) n new_text ∙ ap (λ (k : ℕ). drop k new_text) whole ∙ last)
  where
    taken : (a b : ℕ) (xs : List ℕ) → a ≤ b → take a (take b xs) ≡ take a xs
    taken zero b xs fits = refl
    taken (suc a) zero xs fits = absurd (omega (arith, fits))
    taken (suc a) (suc b) [] fits = refl
    taken (suc a) (suc b) (x ∷ xs) fits = ap (λ (ys : List ℕ). x ∷ ys) (taken a b xs (omega (arith, fits)))
