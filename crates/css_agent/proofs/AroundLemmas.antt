-- The media rules around something, one after the other.
use Rattle.std.proofs.Common.{◌≡◌, ℕ, zero, suc, ◌+◌, ◌<◌, ◌≤◌, All, List, [], ◌∷◌, ◌++◌, map, reverse, length, Option, Some, None, refl}
use Rattle.std.proofs.Common.{sym, ap, subst, ◌∙◌, arith}
use Rattle.std.specs.List.{slice_get}
use Rattle.std.proofs.lemmas.List.{append_assoc, map-append, reverse-append, reverse-reverse}
use Rattle.std.proofs.lemmas.List.Elements.{All-nil, All-cons, All-head, All-tail, All-append}
use Rattle.std.specs.Prelude.{IfSome}
use Rattle.std.specs.Str.{IsUtf8}
use Rattle.selectors.specs.Ranges.{IsRangeOf}
use Rattle.sheet_reader.specs.declared.book.SheetEntry.{SheetEntry}
use Rattle.sheet_reader.specs.declared.sheet.MediaRule.{MediaRule}
use Rattle.sheet_reader.specs.Around.{IsBelow, AreBelow}
use Rattle.sheet_reader.specs.Forms.{RuleForm}
use Rattle.sheet_reader.specs.Sheets.{sheet_of}
use Rattle.sheet_reader.proofs.AroundForms.{sheet_there}
use Rattle.cascade_match.proofs.HeldForms.{entry-cut}
use Rattle.css_agent.specs.MediaAround.{outwards, climbed, media_around, AreAround, none_around, innermost, EachIsAround}
use Rattle.css_agent.proofs.StyleLemmas.{all-at}

-- how many media rules stand up to a place
abbrev pub up_to : Option ℕ → ℕ
up_to None = 0
up_to (Some place) = suc place

up-below : (n : ℕ) (around : Option ℕ) → up_to around ≤ n → IsBelow n around
up-below n None up = tt
up-below n (Some place) up = up

below-up : (n : ℕ) (around : Option ℕ) → IsBelow n around → up_to around ≤ n
below-up n None below = omega arith
below-up n (Some place) below = below

-- the one around a media rule stands before it
inside-below : (k : ℕ) (ms : List MediaRule) (place : ℕ) (m : MediaRule) → AreBelow k ms → slice_get ms place ≡ Some m
    → up_to m.inside ≤ k + place
inside-below k [] place m below at = absurd cc
inside-below k (x ∷ xs) zero m below at =
    let same : x ≡ m = cc in
    let own = subst (λ (y : MediaRule). up_to y.inside ≤ k) same (below-up k x.inside below.0) in
    omega (arith, own)
inside-below k (x ∷ xs) (suc place) m below at = let more = inside-below (suc k) xs place m below.1 at in omega (arith, more)

at-below : (ms : List MediaRule) (place : ℕ) (m : MediaRule) → slice_get ms place ≡ Some m → place < length ms
at-below [] place m at = absurd cc
at-below (x ∷ xs) zero m at = omega arith
at-below (x ∷ xs) (suc place) m at = let more = at-below xs place m at in omega (arith, more)

-- more steps than there are places find no more
climbs-same : (ms : List MediaRule) (n p : ℕ) (around : Option ℕ) → AreBelow 0 ms → up_to around ≤ n → n ≤ p
    → climbed p ms around ≡ climbed n ms around
unfolding climbed
climbs-same ms zero zero around below up less = refl
climbs-same ms zero (suc p) None below up less = refl
climbs-same ms zero (suc p) (Some place) below up less = absurd (omega (arith, up))
climbs-same ms (suc n) zero around below up less = absurd (omega (arith, less))
climbs-same ms (suc n) (suc p) None below up less = refl
climbs-same ms (suc n) (suc p) (Some place) below up less = at (slice_get ms place) refl
    (λ o h. climbs-same ms n p o below h (omega (arith, less)))
  where
    at : (o : Option MediaRule) → slice_get ms place ≡ o
        → ((o : Option ℕ) → up_to o ≤ n → climbed p ms o ≡ climbed n ms o)
        → outwards (climbed p ms) o ≡ outwards (climbed n ms) o
    at None is more = refl
    at (Some m) is more =
        let own = inside-below 0 ms place m below is in
        ap (λ (l : List MediaRule). m ∷ l) (more m.inside (omega (arith, own, up)))

-- the one at a place, and then those around it
pub around-step : (ms : List MediaRule) (place : ℕ) (m : MediaRule) → AreBelow 0 ms → slice_get ms place ≡ Some m
    → media_around ms (Some place) ≡ m ∷ media_around ms m.inside
unfolding climbed
around-step [] place m below is = absurd cc
around-step (x ∷ xs) place m below is =
    let own = inside-below 0 (x ∷ xs) place m below is in
    let low = at-below (x ∷ xs) place m is in
    ap (outwards (climbed (length xs) (x ∷ xs))) is
    ∙ ap (λ (l : List MediaRule). m ∷ l)
    (sym (climbs-same (x ∷ xs) (length xs) (suc (length xs)) m.inside below (omega (arith, own, low)) (omega arith)))

pub around-none : (ms : List MediaRule) → media_around ms None ≡ []
unfolding climbed
around-none [] = refl
around-none (m ∷ ms) = refl

-- a place from which the way goes on is there
pub place-there : (n : ℕ) (at : Option ℕ) (place : ℕ) → at ≡ Some place → IsBelow n at → place < n
place-there n at place is there = subst (IsBelow n) is there

-- the way goes on from before it, and from a place that is there
pub step-smaller : (ms : List MediaRule) (at : Option ℕ) (place : ℕ) (m : MediaRule) → AreBelow 0 ms → at ≡ Some place
    → slice_get ms place ≡ Some m → up_to m.inside < up_to at
step-smaller ms at place m below is found =
    let own = inside-below 0 ms place m below found in
    subst (λ (o : Option ℕ). up_to m.inside < up_to o) (sym is) (omega (arith, own))

pub inside-there : (ms : List MediaRule) (place : ℕ) (m : MediaRule) → AreBelow 0 ms → slice_get ms place ≡ Some m
    → IsBelow (length ms) m.inside
inside-there ms place m below found =
    let own = inside-below 0 ms place m below found in
    let low = at-below ms place m found in
    up-below (length ms) m.inside (omega (arith, own, low))

-- one more is found, and the way goes on from the one around it
pub around-turn : (ms : List MediaRule) (place : ℕ) (m : MediaRule) (before after : List MediaRule) → AreBelow 0 ms
    → slice_get ms place ≡ Some m → after ≡ before ++ m ∷ []
    → after ++ media_around ms m.inside ≡ before ++ media_around ms (Some place)
around-turn ms place m before after below is made =
    ap (λ (l : List MediaRule). l ++ media_around ms m.inside) made ∙ append_assoc before (m ∷ []) (media_around ms m.inside)
    ∙ sym (ap (λ (l : List MediaRule). before ++ l) (around-step ms place m below is))

-- what all media rules are, those around something are
climbed-all : (P : MediaRule → Type 0) (ms : List MediaRule) (n : ℕ) (around : Option ℕ) → All P ms → All P (climbed n ms around)
unfolding climbed
climbed-all P ms zero around all = All-nil P
climbed-all P ms (suc n) None all = All-nil P
climbed-all P ms (suc n) (Some place) all = at (slice_get ms place) refl (λ o. climbed-all P ms n o all)
  where
    at : (o : Option MediaRule) → slice_get ms place ≡ o → ((o : Option ℕ) → All P (climbed n ms o)) → All P (outwards (climbed n ms) o)
    at None is more = All-nil P
    at (Some m) is more = All-cons P m (climbed n ms m.inside) (all-at P ms place m is all) (more m.inside)

pub around-all : (P : MediaRule → Type 0) (ms : List MediaRule) (around : Option ℕ) → All P ms → All P (media_around ms around)
around-all P ms around all = climbed-all P ms (length ms) around all

-- the one at a place of a sheet of a book can be cut out of the sheet's text
pub media-usable : (e : SheetEntry) (text : List ℕ) (media : List MediaRule) (i : ℕ) (o : Option MediaRule) → text ≡ e.text
    → media ≡ e.reading.media → e.reading ≡ sheet_of e.text → IsUtf8 text → o ≡ slice_get media i
    → IfSome o (λ r. IsRangeOf e.text r.prelude)
media-usable e text media i None is said read utf8 at = tt
media-usable e text media i (Some m) is said read utf8 at =
    all-at (λ (r : MediaRule). IsRangeOf e.text r.prelude) media i m (sym at)
    (subst (λ (t : List ℕ). All (λ r. IsRangeOf t r.prelude) media) is (entry-cut e text media is said read utf8))

-- ---- told from the last one on

turned : {X Y : Type 0} (f : X → Y) (xs : List X) → map f (reverse xs) ≡ reverse (map f xs)
turned f [] = refl
turned {X} {Y} f (x ∷ xs) =
    ap (map f) (reverse-append (x ∷ []) xs) ∙ map-append f (reverse xs) (x ∷ [])
    ∙ ap (λ (l : List Y). l ++ f x ∷ []) (turned f xs) ∙ sym (reverse-append (f x ∷ []) (map f xs))

-- told the last one first, and then turned, they are told in their order
pub told-turned : {X Y : Type 0} (f : X → Y) (xs back : List X) (told out : List Y) → back ≡ reverse xs → told ≡ map f back
    → out ≡ reverse told → out ≡ map f xs
told-turned {X} {Y} f xs back told out is made turn =
    turn ∙ ap (λ (l : List Y). reverse l) (made ∙ ap (map f) is ∙ turned f xs) ∙ reverse-reverse (map f xs)

pub all-turned : {X : Type 0} (P : X → Type 0) (xs back : List X) → back ≡ reverse xs → All P xs → All P back
all-turned {X} P xs back is all = subst (λ (l : List X). All P l) (sym is) (at xs all)
  where
    at : (xs : List X) → All P xs → All P (reverse xs)
    at [] all = All-nil P
    at (x ∷ xs) all =
        subst (λ (l : List X). All P l) (sym (reverse-append (x ∷ []) xs))
        (All-append P (reverse xs) (x ∷ []) (at xs (All-tail P x xs all)) (All-cons P x [] (All-head P x xs all) (All-nil P)))

-- ---- the law

is-there : (ms : List MediaRule) (place : ℕ) → place < length ms → (m : MediaRule) × (slice_get ms place ≡ Some m)
is-there [] place low = absurd (omega (arith, low))
is-there (x ∷ xs) zero low = (x, refl)
is-there (x ∷ xs) (suc place) low = is-there xs place (omega (arith, low))

climbed-around : (ms : List MediaRule) (n : ℕ) (around : Option ℕ) → AreBelow 0 ms → IsBelow (length ms) around → up_to around ≤ n
    → AreAround ms around (climbed n ms around)
unfolding climbed
climbed-around ms zero None below there up = none_around
climbed-around ms (suc n) None below there up = none_around
climbed-around ms zero (Some place) below there up = absurd (omega (arith, up))
climbed-around ms (suc n) (Some place) below there up =
    let found = is-there ms place there in
    let m = found.0 in
    let own = inside-below 0 ms place m below found.1 in
    let more = climbed-around ms n m.inside below (inside-there ms place m below found.1) (omega (arith, own, up)) in
    subst (λ (o : Option MediaRule). AreAround ms (Some place) (outwards (climbed n ms) o)) (sym found.1)
    (innermost place m (climbed n ms m.inside) found.1 more)

rules-around : (ms : List MediaRule) (rs : List RuleForm) → AreBelow 0 ms → All (λ r. IsBelow (length ms) r.media) rs
    → All (λ r. AreAround ms r.media (media_around ms r.media)) rs
rules-around ms [] below all = All-nil (λ (r : RuleForm). AreAround ms r.media (media_around ms r.media))
rules-around ms (r ∷ rs) below all =
    let own = All-head (λ (x : RuleForm). IsBelow (length ms) x.media) r rs all in
    All-cons (λ (x : RuleForm). AreAround ms x.media (media_around ms x.media)) r rs
    (climbed-around ms (length ms) r.media below own (below-up (length ms) r.media own))
    (rules-around ms rs below (All-tail (λ (x : RuleForm). IsBelow (length ms) x.media) r rs all))

pub each-around : EachIsAround
each-around text = rules-around (sheet_of text).media (sheet_of text).rules (sheet_there text).media (sheet_there text).rules
