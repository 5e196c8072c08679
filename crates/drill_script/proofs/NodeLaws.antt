-- The nodes of a drill's page may be held by a page, and their texts are UTF-8.
use Rattle.std.proofs.Common.{◌≡◌, ℕ, zero, suc, ◌+◌, ◌*◌, ◌<◌, ◌≤◌, ◌==◌, Bool, true, false, cond}
use Rattle.std.proofs.Common.{List, [], ◌∷◌, ◌++◌, length, map}
use Rattle.std.proofs.Common.{decimal, refl, sym, ap, ◌∙◌, subst, arith, append_assoc}
use Rattle.std.specs.Prelude.{IsUtf8, ◌^◌}
use Rattle.std.proofs.lemmas.Bool.{eqb-true}
use Rattle.std.proofs.lemmas.Fmt.{IsAscii-decimal}
use Rattle.std.proofs.lemmas.Str.{IsUtf8-append, IsUtf8-from_ascii}
use Rattle.std.proofs.Math.Seq.{get_or-append_seam}
use Rattle.std.proofs.Math.ListN.{get_or-append}
use Rattle.node_tree.specs.Nodes.{node, node_count, height}
use Rattle.page_tree.specs.Forms.{CanLoad, are_formed, are_named}
use Rattle.drill_script.specs.declared.divs.Div.{Div}
use Rattle.drill_script.specs.Draws.{next_number, drawn}
use Rattle.drill_script.specs.Divs.{body_level, last_level, level_at, next_div, next_divs, page_divs, AreLevels}
use Rattle.drill_script.specs.Hanging.{AreDivsNumbered}
use Rattle.drill_script.specs.DrillNodes.{div_label, below, drill_nodes}
use Rattle.drill_script.proofs.DrawLemmas.{drawn-below}
use Rattle.drill_script.proofs.DivLemmas.{place-below, place-low, levels-next, levels-first, page-numbered, page-many}

-- ---- formed and named

formed-step : (d : Div) (ds : List Div) (j : ℕ) (t : Bool) → are_formed false (below d.number ds) ≡ true
    → are_formed false (below j ds) ≡ true
    → are_formed false (cond t (node (div_label d.digit) (below d.number ds) (below j ds)) (below j ds)) ≡ true
formed-step d ds j true c t = rw (c, t) refl
formed-step d ds j false c t = t

below-formed : (j : ℕ) (divs : List Div) → are_formed false (below j divs) ≡ true
below-formed j [] = refl
below-formed j (d ∷ ds) = formed-step d ds j (d.up == j) (below-formed d.number ds) (below-formed j ds)

named-step : (d : Div) (ds : List Div) (j : ℕ) (t : Bool) → are_named (below d.number ds) ≡ true → are_named (below j ds) ≡ true
    → are_named (cond t (node (div_label d.digit) (below d.number ds) (below j ds)) (below j ds)) ≡ true
named-step d ds j true c t = rw (c, t) refl
named-step d ds j false c t = t

below-named : (j : ℕ) (divs : List Div) → are_named (below j divs) ≡ true
below-named j [] = refl
below-named j (d ∷ ds) = named-step d ds j (d.up == j) (below-named d.number ds) (below-named j ds)

-- ---- levels

-- each of the divs stands one level below what it is put into, and none beyond the last level
abbrev pub AreLow : (ℕ → ℕ) → List Div → Type 0
AreLow level [] = Unit {0}
AreLow level (d ∷ ds) = (level d.number ≡ suc (level d.up)) × (level d.number ≤ last_level) × AreLow level ds

low-step : (level : ℕ → ℕ) (d : Div) (ds : List Div) (j : ℕ) (t : Bool) → (d.up == j) ≡ t → level d.number ≡ suc (level d.up)
    → height (below d.number ds) + level d.number ≤ last_level → height (below j ds) + level j ≤ last_level
    → height (cond t (node (div_label d.digit) (below d.number ds) (below j ds)) (below j ds)) + level j ≤ last_level
low-step level d ds j true e one first others =
    let same : level d.up ≡ level j = ap level (eqb-true d.up j e) in omega arith
low-step level d ds j false e one first others = others

below-low : (level : ℕ → ℕ) (j : ℕ) (divs : List Div) → AreLow level divs → level j ≤ last_level
    → height (below j divs) + level j ≤ last_level
below-low level j [] r h = omega arith
below-low level j (d ∷ ds) r h =
    low-step level d ds j (d.up == j) refl r.0 (below-low level d.number ds r.2 r.1) (below-low level j ds r.2 h)

-- the level of a div by those of all
next-low : (n : ℕ) (levels : List ℕ) (x : ℕ) → AreLevels levels
    → AreLow (level_at (levels ++ map (λ (d : Div). d.level) (next_divs n levels x))) (next_divs n levels x)
next-low zero levels x r = tt
next-low (suc n) levels x r =
    let d = next_div levels x in
    let ds = next_divs n (levels ++ d.level ∷ []) (next_number (next_number x)) in
    let all : List ℕ = levels ++ d.level ∷ map (λ (d : Div). d.level) ds in
    let own : level_at all (length levels) ≡ d.level = get_or-append_seam levels d.level (map (λ (d : Div). d.level) ds) 0 in
    let inside = place-below levels (drawn x (length levels)) (drawn-below x (length levels) r.some) in
    let up : level_at all d.up ≡ level_at levels d.up = get_or-append levels (d.level ∷ map (λ (d : Div). d.level) ds) 0 d.up inside in
    let low = place-low levels (drawn x (length levels)) r in (
      own ∙ ap suc (sym up),
      omega (arith, own, low),
      subst (λ ls. AreLow (level_at ls) ds) (append_assoc levels (d.level ∷ []) (map (λ (d : Div). d.level) ds))
          (next-low n (levels ++ d.level ∷ []) (next_number (next_number x)) (levels-next levels x r)),
    )

-- the divs of a page are on 48 levels below the body
page-low : (n : ℕ) → height (below 0 (page_divs n)) + body_level ≤ last_level
unfolding page_divs
page-low n = below-low (level_at (body_level ∷ map (λ (d : Div). d.level) (next_divs n (body_level ∷ []) n))) 0
    (next_divs n (body_level ∷ []) n) (next-low n (body_level ∷ []) n levels-first) (omega arith)

-- ---- how many

-- how often a number stands in a list
abbrev pub times_in : ℕ → List ℕ → ℕ
times_in x [] = 0
times_in x (y ∷ ys) = cond {A = ℕ} (x == y) 1 0 + times_in x ys

-- how many nodes stand below these numbers
abbrev pub count_below : List ℕ → List Div → ℕ
count_below [] divs = 0
count_below (j ∷ js) divs = node_count (below j divs) + count_below js divs

count-one : (d : Div) (ds : List Div) (j others less times : ℕ) (t : Bool)
    → others ≡ less + times * suc (node_count (below d.number ds))
    → node_count (cond t (node (div_label d.digit) (below d.number ds) (below j ds)) (below j ds)) + others
    ≡ node_count (below j ds) + less + (cond {A = ℕ} t 1 0 + times) * suc (node_count (below d.number ds))
count-one d ds j others less times true e =
    let more : (1 + times) * suc (node_count (below d.number ds))
    ≡ suc (node_count (below d.number ds)) + times * suc (node_count (below d.number ds)) = grind arith in
    omega (arith, e, more)
count-one d ds j others less times false e =
    let same : (0 + times) * suc (node_count (below d.number ds)) ≡ times * suc (node_count (below d.number ds)) = grind arith in
    omega (arith, e, same)

count-step : (js : List ℕ) (d : Div) (ds : List Div)
    → count_below js (d ∷ ds) ≡ count_below js ds + times_in d.up js * suc (node_count (below d.number ds))
count-step [] d ds = let e : 0 ≡ 0 + 0 * suc (node_count (below d.number ds)) = omega arith in e
count-step (j ∷ js) d ds =
    count-one d ds j (count_below js (d ∷ ds)) (count_below js ds) (times_in d.up js) (d.up == j) (count-step js d ds)

-- numbers that stand in a list once at most, and all of them before the divs'
pub record AreBefore (number : ℕ) (js : List ℕ) : Type 0 where
  pub once : (x : ℕ) → times_in x js ≤ 1
  pub none_there : (x : ℕ) → number ≤ x → times_in x js ≡ 0

before-more : (number : ℕ) (js : List ℕ) → AreBefore number js → AreBefore (suc number) (number ∷ js)
before-more number js b = record {
  once = λ x. at x (x == number) refl;
  none_there = λ x h. other x h (x == number) refl;
} where
  at : (x : ℕ) (t : Bool) → (x == number) ≡ t → cond {A = ℕ} t 1 0 + times_in x js ≤ 1
  at x true e = let same : x ≡ number = eqb-true x number e in omega (arith, b.none_there x)
  at x false e = omega (arith, b.once x)

  other : (x : ℕ) → suc number ≤ x → (t : Bool) → (x == number) ≡ t → cond {A = ℕ} t 1 0 + times_in x js ≡ 0
  other x h true e = let same : x ≡ number = eqb-true x number e in absurd (omega arith)
  other x h false e = omega (arith, b.none_there x)

before-less : (number : ℕ) (js : List ℕ) → AreBefore number js → AreBefore (suc number) js
before-less number js b = record { once = b.once; none_there = λ x h. b.none_there x (omega arith) }

few-step : (number : ℕ) (js : List ℕ) (d : Div) (ds : List Div) (k : ℕ) → times_in d.up js ≡ k → k ≤ 1
    → count_below js ds ≤ length ds → count_below (d.number ∷ js) ds ≤ length ds → count_below js (d ∷ ds) ≤ suc (length ds)
few-step number js d ds zero e h others with-own =
    let step : count_below js (d ∷ ds) ≡ count_below js ds + 0 * suc (node_count (below d.number ds))
    = subst (λ k. count_below js (d ∷ ds) ≡ count_below js ds + k * suc (node_count (below d.number ds))) e (count-step js d ds) in
    omega (arith, step)
few-step number js d ds (suc zero) e h others with-own =
    let step : count_below js (d ∷ ds) ≡ count_below js ds + 1 * suc (node_count (below d.number ds))
    = subst (λ k. count_below js (d ∷ ds) ≡ count_below js ds + k * suc (node_count (below d.number ds))) e (count-step js d ds) in
    omega (arith, step)
few-step number js d ds (suc (suc k)) e h others with-own = absurd (omega arith)

few-none : (js : List ℕ) → count_below js [] ≡ 0
few-none [] = refl
few-none (j ∷ js) = let e : 0 + count_below js [] ≡ 0 = omega (arith, few-none js) in e

few-below : (number : ℕ) (js : List ℕ) (divs : List Div) → AreDivsNumbered number divs → AreBefore number js
    → count_below js divs ≤ length divs
few-below number js [] n b = omega (arith, few-none js)
few-below number js (d ∷ ds) n b =
    few-step number js d ds (times_in d.up js) refl (b.once d.up) (few-below (suc number) js ds n.2 (before-less number js b))
    (subst (λ k. count_below (k ∷ js) ds ≤ length ds) (sym n.0)
    (few-below (suc number) (number ∷ js) ds n.2 (before-more number js b)))

-- no more nodes stand below the body than there are divs
page-few : (n : ℕ) → node_count (below 0 (page_divs n)) ≤ n
page-few n =
    let all = few-below 1 (0 ∷ []) (page_divs n) (page-numbered n) (record { once = once; none_there = later }) in
    omega (arith, all, page-many n)
  where
    at-most : (t : Bool) → cond {A = ℕ} t 1 0 + 0 ≤ 1
    at-most true = omega arith
    at-most false = omega arith

    once : (x : ℕ) → times_in x (0 ∷ []) ≤ 1
    once x = at-most (x == 0)

    at-none : (x : ℕ) (t : Bool) → 1 ≤ x → (x == 0) ≡ t → cond {A = ℕ} t 1 0 + 0 ≡ 0
    at-none x true h e = let same : x ≡ 0 = eqb-true x 0 e in absurd (omega arith)
    at-none x false h e = refl

    later : (x : ℕ) → 1 ≤ x → times_in x (0 ∷ []) ≡ 0
    later x h = at-none x (x == 0) h refl

-- ---- a page may hold them

pub nodes-load : (n : ℕ) → n ≤ 50000 → CanLoad (drill_nodes (page_divs n))
nodes-load n h = record {
  formed = rw (below-formed 0 (page_divs n)) refl;
  named = rw (below-named 0 (page_divs n)) refl;
  levels = omega (arith, page-low n);
  room = omega (arith, page-few n);
}

-- ---- texts

-- each digit is below 8
abbrev pub AreDigits : List Div → Type 0
AreDigits [] = Unit {0}
AreDigits (d ∷ ds) = (d.digit < 8) × AreDigits ds

next-digits : (n : ℕ) (levels : List ℕ) (x : ℕ) → AreDigits (next_divs n levels x)
next-digits zero levels x = tt
next-digits (suc n) levels x = (
  drawn-below (next_number x) 8 (omega arith),
  next-digits n (levels ++ (next_div levels x).level ∷ []) (next_number (next_number x)),
)

pub page-digits : (n : ℕ) → AreDigits (page_divs n)
unfolding page_divs
page-digits n = next-digits n (body_level ∷ []) n

-- a word and a number are UTF-8
pub numbered-utf8 : (word : List ℕ) (n : ℕ) → IsUtf8 word → n < 2 ^ 64 → IsUtf8 (word ++ decimal n)
numbered-utf8 word n u h = IsUtf8-append word (decimal n) u (IsUtf8-from_ascii (decimal n) (IsAscii-decimal n h))
