-- Texts that are passed over between parts, and in front of a prelude's words: white space, comments that have their `*/`, and at top
-- level `<!--` and `-->`.
use Rattle.std.proofs.Common.{◌≡◌, ℕ, suc, ◌+◌, ◌-◌, ◌<◌, ◌==◌, Bool, true, false, ◌&&◌, List, [], ◌∷◌}
use Rattle.std.proofs.Common.{◌++◌, length, drop, Some, refl, sym, ap, subst, ◌∙◌, append_assoc, length-append, arith}
use Rattle.std.proofs.Math.Seq.{drop-append_seam}
use Rattle.std.specs.List.{list_all}
use Rattle.std.proofs.lemmas.Bool.{eqb-true}
use Rattle.std.proofs.lemmas.Bool.Decides.{nat_tests}
use Rattle.css_tokens.specs.declared.token.Token.{Token}
use Rattle.css_tokens.specs.declared.token.TokenKind.{TokenKind}
use Rattle.css_tokens.specs.declared.token.TokenKind.TheVariants as tokens
use Rattle.css_tokens.specs.Codes.{is_white, is_quote, begins}
use Rattle.css_tokens.specs.Pieces.{pieces_after}
use Rattle.css_tokens.specs.Rows.{piece, first_piece, white_space}
use Rattle.css_tokens.specs.Runs.{white_run}
use Rattle.css_tokens.specs.Seams.{IsWholeBefore, no_more, piece_and}
use Rattle.css_tokens.proofs.Cuts.{piece_first}
use Rattle.sheet_reader.specs.declared.parts.Level.{Level}
use Rattle.sheet_reader.specs.declared.parts.Level.TheVariants.{Top, Inner}
use Rattle.sheet_reader.specs.Parts.{is_passed}
use Rattle.sheet_reader.proofs.Behind.{at_stop}
use Rattle.sheet_reader.proofs.PassedTexts.{PassedForm, a_comment, white, an_opening, a_closing, no_comment, opening_piece, closing_piece}
use Rattle.sheet_reader.proofs.PassedTexts.{piece_form, comment_closed, comment_piece, over}
use Rattle.sheet_reader.proofs.SpaceUnits.{Facts, facts_behind, facts_space, facts_tab, facts_line, facts_feed, facts_return, facts_comment}

-- all are passed over
abbrev pub AllPassed : Level → List Token → Type 0
AllPassed level [] = Unit {0}
AllPassed level (t ∷ ts) = (is_passed level t.kind ≡ true) × AllPassed level ts

pub passed_anywhere : (level other : Level) (k : TokenKind) → is_passed Inner k ≡ true → is_passed other k ≡ true
passed_anywhere level other tokens.Comment e = refl
passed_anywhere level other tokens.WhiteSpace e = refl
passed_anywhere level other _ e = absurd (cc)

pub passed_top : (level : Level) (k : TokenKind) → is_passed level k ≡ true → is_passed Top k ≡ true
passed_top Top k e = e
passed_top Inner k e = passed_anywhere Inner Top k e

-- ---- such texts
pub data Gap (level : Level) : List ℕ → Type 0 where
  no_gap : Gap level []
  gap_white : (c : ℕ) (z : List ℕ) → is_white c ≡ true → Gap level z → Gap level (c ∷ z)
  gap_comment : (inner z all : List ℕ) → all ≡ (47 ∷ 42 ∷ inner) ++ z
      → ((other : List ℕ) → first_piece ((47 ∷ 42 ∷ inner) ++ other) ≡ Some (piece tokens.Comment (length (47 ∷ 42 ∷ inner))))
      → Gap level z → Gap level all
  gap_mark : (first : ℕ) (inner z all : List ℕ) (k : TokenKind) → all ≡ (first ∷ inner) ++ z → level ≡ Top → is_passed Top k ≡ true
      → is_white first ≡ false
      → ((other : List ℕ) → first_piece ((first ∷ inner) ++ other) ≡ Some (piece k (length (first ∷ inner))))
      → Gap level z → Gap level all

pub gap_append : (level : Level) (x y : List ℕ) → Gap level x → Gap level y → Gap level (x ++ y)
gap_append level _ y no_gap g = g
gap_append level _ y (gap_white c z w f) g = gap_white c (z ++ y) w (gap_append level z y f g)
gap_append level x y (gap_comment inner z _ is own f) g =
    gap_comment inner (z ++ y) (x ++ y) (ap (λ (t : List ℕ). t ++ y) is ∙ append_assoc (47 ∷ 42 ∷ inner) z y) own (gap_append level z y f g)
gap_append level x y (gap_mark first inner z _ k is top over solid own f) g =
    gap_mark first inner (z ++ y) (x ++ y) k (ap (λ (t : List ℕ). t ++ y) is ∙ append_assoc (first ∷ inner) z y) top over solid own
    (gap_append level z y f g)

pub gap_anywhere : (level : Level) (x : List ℕ) → Gap Inner x → Gap level x
gap_anywhere level _ no_gap = no_gap
gap_anywhere level _ (gap_white c z w f) = gap_white c z w (gap_anywhere level z f)
gap_anywhere level x (gap_comment inner z _ is own f) = gap_comment inner z x is own (gap_anywhere level z f)
gap_anywhere level x (gap_mark first inner z _ k is top over solid own f) = absurd (cc)

pub gap_whites : (level : Level) (x : List ℕ) → list_all is_white x ≡ true → Gap level x
gap_whites level [] all = no_gap
gap_whites level (c ∷ x) all = by (is_white c) refl all (λ h. gap_whites level x h)
  where
    by : (b : Bool) → is_white c ≡ b → (b && list_all is_white x) ≡ true → (list_all is_white x ≡ true → Gap level x) → Gap level (c ∷ x)
    by true e h more = gap_white c x e (more h)
    by false e h more = absurd (cc)

-- ---- they are cut into pieces that are passed over

-- pieces that are passed over, and those that are left
pub record LeadIs (level : Level) (ts more : List Token) : Type 0 where
  pub lead : List Token
  pub is : ts ≡ lead ++ more
  pub passed : AllPassed level lead

-- the same with one more in front
lead_more : (level : Level) (t : Token) (all ts more : List Token) → all ≡ t ∷ ts → is_passed level t.kind ≡ true → LeadIs level ts more
    → LeadIs level all more
lead_more level t all ts more e over l = record {
  lead = t ∷ l.lead;
  is = e ∙ ap (λ (xs : List Token). t ∷ xs) l.is;
  passed = (over, l.passed);
}

no_run : (Y : List ℕ) → begins is_white Y ≡ false → white_run Y ≡ 0
no_run [] e = refl
no_run (c ∷ Y) e = rw e refl

-- white space at the front of a text is one piece
pub white_first : (c : ℕ) (t : List ℕ) → is_white c ≡ true
    → first_piece (c ∷ t) ≡ Some (piece tokens.WhiteSpace (1 + white_run t))
unfolding first_piece white_space
white_first c t e = rw (no_comment c t e, e) refl

-- a piece at the front, and what stands behind it
piece_then_rest : (m : ℕ) (front rest : List ℕ) (k : TokenKind) → 0 < length front
    → first_piece (front ++ rest) ≡ Some (piece k (length front))
    → pieces_after m 0 (front ++ rest) ≡ (record { kind = k; start = m; end = m + length front }) ∷ pieces_after (m + length front) 0 rest
piece_then_rest m front rest k some found =
    piece_first (front ++ rest) m (piece k (length front)) found some (omega (arith, length-append front rest))
    ∙ ap (λ (t : List ℕ). (record { kind = k; start = m; end = m + length front }) ∷ pieces_after (m + length front) 0 t)
    (drop-append_seam front rest)

-- from its start, and from within white space that goes on
pub record Skips (level : Level) (z Y : List ℕ) (m : ℕ) : Type 0 where
  pub start : LeadIs level (pieces_after m 0 (z ++ Y)) (pieces_after (m + length z) 0 Y)
  pub midst : LeadIs level (pieces_after m (white_run (z ++ Y)) (z ++ Y)) (pieces_after (m + length z) 0 Y)

-- a piece of its own in front
solid_skips : (level : Level) (first : ℕ) (inner z all Y : List ℕ) (k : TokenKind) (m : ℕ) → all ≡ (first ∷ inner) ++ z
    → is_passed level k ≡ true → is_white first ≡ false
    → ((other : List ℕ) → first_piece ((first ∷ inner) ++ other) ≡ Some (piece k (length (first ∷ inner))))
    → Skips level z Y (m + length (first ∷ inner)) → Skips level all Y m
solid_skips level first inner z all Y k m is over solid own more =
    subst (λ (t : List ℕ). Skips level t Y m) (sym is) (record { start = here; midst = there })
  where
    front : List ℕ
    front = first ∷ inner

    whole : (front ++ z) ++ Y ≡ front ++ (z ++ Y)
    whole = append_assoc front z Y

    size : m + length front + length z ≡ m + length (front ++ z)
    size = omega (arith, length-append front z)

    here : LeadIs level (pieces_after m 0 ((front ++ z) ++ Y)) (pieces_after (m + length (front ++ z)) 0 Y)
    here = subst (λ (n : ℕ). LeadIs level (pieces_after m 0 ((front ++ z) ++ Y)) (pieces_after n 0 Y)) size
        (lead_more level (record { kind = k; start = m; end = m + length front }) (pieces_after m 0 ((front ++ z) ++ Y))
        (pieces_after (m + length front) 0 (z ++ Y)) (pieces_after (m + length front + length z) 0 Y)
        (ap (pieces_after m 0) whole ∙ piece_then_rest m front (z ++ Y) k (omega arith) (own (z ++ Y))) over more.start)

    none : white_run ((front ++ z) ++ Y) ≡ 0
    none = rw solid refl

    there : LeadIs level (pieces_after m (white_run ((front ++ z) ++ Y)) ((front ++ z) ++ Y)) (pieces_after (m + length (front ++ z)) 0 Y)
    there = subst (λ (n : ℕ). LeadIs level (pieces_after m n ((front ++ z) ++ Y)) (pieces_after (m + length (front ++ z)) 0 Y))
        (sym none) here

pub skips : (level : Level) (Y : List ℕ) → begins is_white Y ≡ false → (z : List ℕ) → Gap level z → (m : ℕ) → Skips level z Y m
unfolding pieces_after
skips level Y e _ no_gap m =
    let at : m + 0 ≡ m = omega arith in
    let same = ap (λ (n : ℕ). pieces_after n 0 Y) (sym at) in
    record {
      start = record { lead = []; is = same; passed = tt };
      midst = record { lead = []; is = ap (λ (n : ℕ). pieces_after m n Y) (no_run Y e) ∙ same; passed = tt };
    }
skips level Y e _ (gap_white c z w g) m =
    let more = skips level Y e z g (m + 1) in
    let r = white_run (z ++ Y) in
    let size : m + 1 + length z ≡ m + length (c ∷ z) = omega arith in
    let back : 1 + r - 1 ≡ r = omega arith in
    let one : 1 + r ≡ suc r = omega arith in
    let midst = subst (λ (n : ℕ). LeadIs level (pieces_after (m + 1) r (z ++ Y)) (pieces_after n 0 Y)) size more.midst in
    let first : pieces_after m 0 (c ∷ (z ++ Y))
    ≡ (record { kind = tokens.WhiteSpace; start = m; end = m + (1 + r) }) ∷ pieces_after (m + 1) r (z ++ Y) =
    rw (white_first c (z ++ Y) w)
    (ap (λ (n : ℕ). (record { kind = tokens.WhiteSpace; start = m; end = m + (1 + r) }) ∷ pieces_after (m + 1) n (z ++ Y)) back) in
    let run : white_run (c ∷ (z ++ Y)) ≡ suc r = rw w one in
    record {
      start = lead_more level (record { kind = tokens.WhiteSpace; start = m; end = m + (1 + r) }) (pieces_after m 0 (c ∷ (z ++ Y)))
          (pieces_after (m + 1) r (z ++ Y)) (pieces_after (m + length (c ∷ z)) 0 Y) first refl midst;
      midst = subst (λ (n : ℕ). LeadIs level (pieces_after m n (c ∷ (z ++ Y))) (pieces_after (m + length (c ∷ z)) 0 Y)) (sym run) midst;
    }
skips level Y e all (gap_comment inner z _ is own g) m =
    solid_skips level 47 (42 ∷ inner) z all Y tokens.Comment m is refl refl own
    (skips level Y e z g (m + length (47 ∷ 42 ∷ inner)))
skips level Y e all (gap_mark first inner z _ k is top over solid own g) m =
    solid_skips level first inner z all Y k m is (subst (λ (l : Level). is_passed l k ≡ true) (sym top) over) solid own
    (skips level Y e z g (m + length (first ∷ inner)))

-- ---- whole pieces that are passed over are such a text, where something stands behind
pub gap_of : (level : Level) (after : List ℕ) → 0 < length after → (place : ℕ) (text : List ℕ) (ts : List Token)
    → IsWholeBefore after place text ts → AllPassed level ts → Gap level text
gap_of level after some place text ts no_more all = no_gap
gap_of level after some place text _ (piece_and {ts = more} p front rest is len found whole) all =
    subst (Gap level) (sym is) (by (gap_of level after some (place + p.len) rest more whole all.1) g.0 g.1 g.2)
  where
    k : TokenKind
    k = p.kind

    top : is_passed Top k ≡ true
    top = passed_top level k all.0

    here : first_piece (front ++ (rest ++ after)) ≡ Some (piece k (length front))
    here = ap first_piece (sym (append_assoc front rest after) ∙ ap (λ (x : List ℕ). x ++ after) (sym is)) ∙ found
        ∙ ap (λ (n : ℕ). Some (piece k n)) len

    g : (behind : List ℕ) × (behind ≡ rest ++ after) × PassedForm k front behind
    g = piece_form front (rest ++ after) k here top

    top_level : (named : TokenKind) (l : Level) → is_passed Inner named ≡ false → is_passed l named ≡ true → l ≡ Top
    top_level named Top only h = refl
    top_level named Inner only h = absurd (clash (is_passed Inner named) h only)
      where
        clash : (b : Bool) → b ≡ true → b ≡ false → ⊥
        clash true a c = cc
        clash false a c = cc

    marked : Gap level rest → (first : ℕ) (inner : List ℕ) (named : TokenKind) → k ≡ named → front ≡ first ∷ inner
        → is_passed Top named ≡ true → is_white first ≡ false → is_passed Inner named ≡ false
        → ((other : List ℕ) → first_piece ((first ∷ inner) ++ other) ≡ Some (piece named (length (first ∷ inner))))
        → Gap level (front ++ rest)
    marked others first inner named e form over solid only own =
        subst (λ (x : List ℕ). Gap level (x ++ rest)) (sym form)
        (gap_mark first inner rest ((first ∷ inner) ++ rest) named refl
        (top_level named level only (ap (is_passed level) (sym e) ∙ all.0)) over solid own others)

    by : Gap level rest → (behind : List ℕ) → behind ≡ rest ++ after → PassedForm k front behind → Gap level (front ++ rest)
    by others behind same (a_comment f) =
        let c = comment_closed front (rest ++ after) k here top
        (λ named none. absurd (omega (arith, ap length none, length-append rest after, some))) f.named in
        subst (λ (x : List ℕ). Gap level (x ++ rest)) (sym c.1)
        (gap_comment (c.0 ++ 42 ∷ 47 ∷ []) rest ((47 ∷ 42 ∷ (c.0 ++ 42 ∷ 47 ∷ [])) ++ rest) refl
        (λ other. subst (λ (x : List ℕ). first_piece (x ++ other) ≡ Some (piece tokens.Comment (length x))) c.1
        (comment_piece k front behind other c.0 f c.1)) others)
    by others behind same (white f) = gap_append level front rest (gap_whites level front f.run.0) others
    by others behind same (an_opening f) = marked others 60 (33 ∷ 45 ∷ 45 ∷ []) tokens.Cdo f.named f.is refl refl refl opening_piece
    by others behind same (a_closing f) = marked others 45 (45 ∷ 62 ∷ []) tokens.Cdc f.named f.is refl refl refl closing_piece

-- ---- what is known of such a text before a `{`

-- the codes of white space
pub white_codes : (P : ℕ → Type 0) → P 32 → P 9 → P 10 → P 12 → P 13 → (c : ℕ) → is_white c ≡ true → P c
white_codes P space tab line feed back c e =
    by (c == 32) (c == 9) (c == 10) (c == 12) (c == 13) refl refl refl refl refl
  where
    no : (c == 32) ≡ false → (c == 9) ≡ false → (c == 10) ≡ false → (c == 12) ≡ false → (c == 13) ≡ false → ⊥
    no a b d f g = grind (arith, nat_tests)

    is : (k : ℕ) → (c == k) ≡ true → P k → P c
    is k h own = subst P (sym (eqb-true c k h)) own

    by : (b1 b2 b3 b4 b5 : Bool) → (c == 32) ≡ b1 → (c == 9) ≡ b2 → (c == 10) ≡ b3 → (c == 12) ≡ b4 → (c == 13) ≡ b5 → P c
    by true b2 b3 b4 b5 e1 e2 e3 e4 e5 = is 32 e1 space
    by false true b3 b4 b5 e1 e2 e3 e4 e5 = is 9 e2 tab
    by false false true b4 b5 e1 e2 e3 e4 e5 = is 10 e3 line
    by false false false true b5 e1 e2 e3 e4 e5 = is 12 e4 feed
    by false false false false true e1 e2 e3 e4 e5 = is 13 e5 back
    by false false false false false e1 e2 e3 e4 e5 = absurd (no e1 e2 e3 e4 e5)

-- no quote behind white space
unquoted : (z rest : List ℕ) → Gap Inner z → begins is_quote (drop (white_run (z ++ 123 ∷ rest)) (z ++ 123 ∷ rest)) ≡ false
unquoted _ rest no_gap = refl
unquoted _ rest (gap_white c z w g) =
    let one : 1 + white_run (z ++ 123 ∷ rest) ≡ suc (white_run (z ++ 123 ∷ rest)) = omega arith in
    rw (w, one) (unquoted z rest g)
unquoted all rest (gap_comment inner z _ is own g) =
    subst (λ (t : List ℕ). begins is_quote (drop (white_run (t ++ 123 ∷ rest)) (t ++ 123 ∷ rest)) ≡ false) (sym is) refl
unquoted all rest (gap_mark first inner z _ k is top over solid own g) = absurd (cc)

pub facts_gap : (z rest : List ℕ) → Gap Inner z → Facts (z ++ 123 ∷ rest)
facts_gap _ rest no_gap = facts_behind (123 ∷ rest) (at_stop 123 rest refl)
facts_gap _ rest (gap_white c z w g) =
    let f = facts_gap z rest g in
    white_codes (λ (d : ℕ). begins is_quote (drop (white_run (d ∷ (z ++ 123 ∷ rest))) (d ∷ (z ++ 123 ∷ rest))) ≡ false
    → Facts (d ∷ (z ++ 123 ∷ rest))) (facts_space (z ++ 123 ∷ rest)) (facts_tab (z ++ 123 ∷ rest)) (facts_line
    (z ++ 123 ∷ rest) f.name f.round)
    (facts_feed (z ++ 123 ∷ rest)) (facts_return (z ++ 123 ∷ rest)) c w (unquoted (c ∷ z) rest (gap_white c z w g))
facts_gap all rest (gap_comment inner z _ is own g) =
    subst (λ (t : List ℕ). Facts (t ++ 123 ∷ rest)) (sym is) (facts_comment ((inner ++ z) ++ 123 ∷ rest))
facts_gap all rest (gap_mark first inner z _ k is top over solid own g) = absurd (cc)
