-- A media rule is judged once, with what is said of the one around it.
use Rattle.std.proofs.Common.{◌≡◌, ℕ, zero, suc, ◌+◌, ◌<◌, ◌≤◌, Bool, true, false, ltb, ◌&&◌, List, [], ◌∷◌, ◌++◌, length, All}
use Rattle.std.proofs.Common.{Option, Some, None, refl, sym, ap, subst, ◌∙◌, append_assoc, append-nil, length-append, arith}
use Rattle.std.specs.Prelude.{slice_get, option_to_list}
use Rattle.std.proofs.lemmas.List.Elements.{All-nil, All-cons, All-head, All-tail, All-append}
use Rattle.css_tokens.specs.declared.token.Token.{Token}
use Rattle.css_tokens.specs.declared.token.Range.{Range}
use Rattle.selectors.specs.declared.words.Word.{Word}
use Rattle.selectors.specs.Words.{word_reading, words_after}
use Rattle.selectors.specs.Forms.{SelectorForm, ◌>>=◌}
use Rattle.selectors.specs.Reading.{range_of, selector_list_of}
use borrow.Author.Tests.{ltb-true, ltb-false}
use Rattle.css_tokens.specs.Pieces.{pieces}
use Rattle.selectors.proofs.Choices.{none_some, some_is, bind_some}
use Rattle.sheet_reader.specs.declared.sheet.MediaRule.{MediaRule}
use Rattle.sheet_reader.specs.declared.parts.Level.TheVariants.{Top}
use Rattle.sheet_reader.specs.Forms.{range, RuleForm}
use Rattle.sheet_reader.specs.Parts.{text_end, semicolon, block, PartForm, passed, at_rule, qualified, parts}
use Rattle.sheet_reader.specs.Declarations.{declarations}
use Rattle.sheet_reader.specs.Layout.{media_rule, media_in, Laid, laid, laid_out, AreLaid, none_laid, part_laid, media_laid}
use Rattle.sheet_reader.specs.Sheets.{body_end, style_rule, rule_of, rules_in, sheet_of}
use Rattle.sheet_reader.proofs.LayoutForms.{laid_spelled}
use Rattle.sheet_reader.proofs.FrameForms.{media_append, media_cons}
use Rattle.sheet_reader.proofs.UsableForms.{rules_append}
use Rattle.sheet_reader.specs.Around.{IsBelow, AreBelow, AreThere, AllHold, none_around, holds_and, said, held_at, held_from, held}

get_left : {A : Type 0} → (xs ys : List A) (j : ℕ) → j < length xs → slice_get (xs ++ ys) j ≡ slice_get xs j
get_left [] ys j less = absurd (omega (arith, less))
get_left (x ∷ xs) ys zero less = refl
get_left (x ∷ xs) ys (suc j) less = get_left xs ys j (omega (arith, less))

get_seam : {A : Type 0} → (xs : List A) (y : A) (ys : List A) → slice_get (xs ++ y ∷ ys) (length xs) ≡ Some y
get_seam [] y ys = refl
get_seam (x ∷ xs) y ys = get_seam xs y ys

-- what is said of a place is right
record IsRight (holds : MediaRule → Bool) (ms : List MediaRule) (b : Bool) (around : Option ℕ) : Type 0 where
  pub yes : b ≡ true → AllHold holds ms around
  pub whole : AllHold holds ms around → b ≡ true

AreRight : (MediaRule → Bool) → List MediaRule → List Bool → Type 0
AreRight holds ms before = (j : ℕ) → j < length before → IsRight holds ms (said (slice_get before j)) (Some j)

right_at : (holds : MediaRule → Bool) (ms : List MediaRule) (before : List Bool) (around : Option ℕ) → AreRight holds ms before
    → IsBelow (length before) around → IsRight holds ms (held_at before around) around
unfolding AreRight
right_at holds ms before None right below = record { yes = λ e. none_around; whole = λ a. refl }
right_at holds ms before (Some j) right below = right j below

record Held (holds : MediaRule → Bool) (ms : List MediaRule) (place : ℕ) : Type 0 where
  m : MediaRule
  there : slice_get ms place ≡ Some m
  own : holds m ≡ true
  outer : AllHold holds ms m.inside

held_is : (holds : MediaRule → Bool) (ms : List MediaRule) (place : ℕ) → AllHold holds ms (Some place) → Held holds ms place
held_is holds ms place (holds_and _ m there own outer) = record { m = m; there = there; own = own; outer = outer }

both_true : (a b : Bool) → (a && b) ≡ true → (a ≡ true) × (b ≡ true)
both_true true true e = (refl, refl)
both_true true false e = absurd (cc)
both_true false b e = absurd (cc)

true_both : (a b : Bool) → a ≡ true → b ≡ true → (a && b) ≡ true
true_both a b e f = (λ i. e i && b) ∙ f

right_here : (holds : MediaRule → Bool) (ms : List MediaRule) (before : List Bool) (m : MediaRule) → AreRight holds ms before
    → slice_get ms (length before) ≡ Some m → IsBelow (length before) m.inside
    → IsRight holds ms (holds m && held_at before m.inside) (Some (length before))
right_here holds ms before m right there below =
    let outer = right_at holds ms before m.inside right below in
    record {
      yes = λ e. let both = both_true (holds m) (held_at before m.inside) e in
          holds_and (length before) m there both.0 (outer.yes both.1);
      whole = λ a.
          let h = held_is holds ms (length before) a in
          let same : h.m ≡ m = some_is h.m m (sym h.there ∙ there) in
          true_both (holds m) (held_at before m.inside) (subst (λ (x : MediaRule). holds x ≡ true) same h.own)
          (outer.whole (subst (λ (x : MediaRule). AllHold holds ms x.inside) same h.outer));
    }

right_more : (holds : MediaRule → Bool) (ms : List MediaRule) (before : List Bool) (b : Bool) → AreRight holds ms before
    → IsRight holds ms b (Some (length before)) → AreRight holds ms (before ++ b ∷ [])
unfolding AreRight
right_more holds ms before b right own j less = by (ltb j (length before)) refl
  where
    by : (x : Bool) → ltb j (length before) ≡ x → IsRight holds ms (said (slice_get (before ++ b ∷ []) j)) (Some j)
    by true e = subst (λ (o : Option Bool). IsRight holds ms (said o) (Some j))
        (sym (get_left before (b ∷ []) j (ltb-true j (length before) e))) (right j (ltb-true j (length before) e))
    by false e =
        let n = length-append before (b ∷ []) in
        let past = ltb-false j (length before) e in
        let same : length before ≡ j = omega (arith, n, past, less) in
        subst (λ (k : ℕ). IsRight holds ms (said (slice_get (before ++ b ∷ []) k)) (Some k)) same
        (subst (λ (o : Option Bool). IsRight holds ms (said o) (Some (length before))) (sym (get_seam before b [])) own)

right_from : (holds : MediaRule → Bool) (all front ms : List MediaRule) (before : List Bool) → all ≡ front ++ ms
    → length before ≡ length front → AreBelow (length before) ms → AreRight holds all before
    → AreRight holds all (held_from holds before ms) × (length (held_from holds before ms) ≡ length all)
right_from holds all front [] before is same below right =
    (right, same ∙ sym (ap (λ (xs : List MediaRule). length xs) (is ∙ append-nil front)))
right_from holds all front (m ∷ ms) before is same below right =
    let b = holds m && held_at before m.inside in
    let there : slice_get all (length before) ≡ Some m =
    (λ i. slice_get (is i) (same i)) ∙ get_seam front m ms in
    let more = length-append before (b ∷ []) in
    let others = length-append front (m ∷ []) in
    let count : suc (length before) ≡ length (before ++ b ∷ []) = omega (arith, more) in
    right_from holds all (front ++ m ∷ []) ms (before ++ b ∷ []) (is ∙ sym (append_assoc front (m ∷ []) ms))
    (omega (arith, more, others, same)) (subst (λ (n : ℕ). AreBelow n ms) count below.1)
    (right_more holds all before b right (right_here holds all before m right there below.0))

none_right : (holds : MediaRule → Bool) (ms : List MediaRule) → AreRight holds ms []
unfolding AreRight
none_right holds ms j less = absurd (omega (arith, less))

-- what is said in the end of a place that is there is right
pub held_right : (holds : MediaRule → Bool) (ms : List MediaRule) (around : Option ℕ) → AreBelow 0 ms → IsBelow (length ms) around
    → (held_at (held holds ms) around ≡ true → AllHold holds ms around) × (AllHold holds ms around → held_at (held holds ms) around ≡ true)
held_right holds ms around below there =
    let r = right_from holds ms [] ms [] refl refl below (none_right holds ms) in
    let a = right_at holds ms (held holds ms) around r.0 (subst (λ (n : ℕ). IsBelow n around) (sym r.1) there) in
    (a.yes, a.whole)

-- ---- the media rules that a sheet's rules have around them are there

below_more : (n k : ℕ) (around : Option ℕ) → n ≤ k → IsBelow n around → IsBelow k around
below_more n k None less below = tt
below_more n k (Some place) less below = omega (arith, less, below)

below_append : (n : ℕ) (xs ys : List MediaRule) → AreBelow n xs → AreBelow (n + length xs) ys → AreBelow n (xs ++ ys)
below_append n [] ys a b = let none : n + 0 ≡ n = omega arith in subst (λ (k : ℕ). AreBelow k ys) none b
below_append n (x ∷ xs) ys a b =
    let same : n + suc (length xs) ≡ suc n + length xs = omega arith in
    (a.0, below_append (suc n) xs ys a.1 (subst (λ (k : ℕ). AreBelow k ys) same b))

rules_more : (n k : ℕ) (rs : List RuleForm) → n ≤ k → All (λ r. IsBelow n r.media) rs → All (λ r. IsBelow k r.media) rs
rules_more n k [] less all = All-nil (λ (r : RuleForm). IsBelow k r.media)
rules_more n k (r ∷ rs) less all =
    All-cons (λ (x : RuleForm). IsBelow k x.media) r rs
    (below_more n k r.media less (All-head (λ (x : RuleForm). IsBelow n x.media) r rs all))
    (rules_more n k rs less (All-tail (λ (x : RuleForm). IsBelow n x.media) r rs all))

style_media : (text : List ℕ) (around : Option ℕ) (words : List Word) (body : Range) (within : List Token) (r : RuleForm)
    → style_rule text around words body within ≡ Some r → r.media ≡ around
style_media text around words body within r e =
    let of : Range → List SelectorForm
    → RuleForm = λ prelude selectors. record {
      prelude = prelude;
      selectors = selectors;
      body = body;
      properties = declarations text within;
      media = around;
    } in
    let a = bind_some (range_of words)
    (λ prelude. selector_list_of (word_reading text words) >>= λ selectors. Some (of prelude selectors)) r e in
    let b = bind_some (selector_list_of (word_reading text words)) (λ selectors. Some (of a.0 selectors)) r a.2 in
    sym (ap (λ (x : RuleForm). x.media) (some_is {A = RuleForm} (of a.0 b.0) r b.2))

rule_media : (text : List ℕ) (around : Option ℕ) (p : PartForm) (r : RuleForm) → rule_of text around p ≡ Some r → r.media ≡ around
unfolding rule_of
rule_media text around (passed t) r e = absurd (none_some r e)
rule_media text around (at_rule keyword prelude ending) r e = absurd (none_some r e)
rule_media text around (qualified prelude text_end) r e = absurd (none_some r e)
rule_media text around (qualified prelude (semicolon t)) r e = absurd (none_some r e)
rule_media text around (qualified prelude (block first within close)) r e =
    style_media text around (words_after text false prelude) (range first.end (body_end text close)) within r e

own_rules : (n : ℕ) (around : Option ℕ) (o : Option RuleForm) → ((r : RuleForm) → o ≡ Some r → r.media ≡ around) → IsBelow n around
    → All (λ r. IsBelow n r.media) (option_to_list o)
own_rules n around None own below = All-nil (λ (r : RuleForm). IsBelow n r.media)
own_rules n around (Some r) own below =
    All-cons (λ (x : RuleForm). IsBelow n x.media) r [] (subst (IsBelow n) (sym (own r refl)) below)
    (All-nil (λ (x : RuleForm). IsBelow n x.media))

record Known (text : List ℕ) (k : ℕ) (ls : List Laid) : Type 0 where
  media : AreBelow k (media_in text ls)
  rules : All (λ r. IsBelow (k + length (media_in text ls)) r.media) (rules_in text ls)

part_known : (text : List ℕ) (around : Option ℕ) (k n : ℕ) (p : PartForm) (ls : List Laid)
    → n ≡ k + length (media_in text (laid around p ∷ ls))
    → IsBelow k around → All (λ r. IsBelow n r.media) (rules_in text ls) → All (λ r. IsBelow n r.media) (rules_in text (laid around p ∷ ls))
unfolding rules_in
part_known text around k n p ls is below all =
    All-append (λ (r : RuleForm). IsBelow n r.media) (option_to_list (rule_of text around p)) (rules_in text ls)
    (own_rules n around (rule_of text around p) (rule_media text around p) (below_more k n around (omega (arith, is)) below)) all

laid_known : (text : List ℕ) (around : Option ℕ) (k : ℕ) (ps : List PartForm) (ls : List Laid) → AreLaid text around k ps ls
    → IsBelow k around → Known text k ls
unfolding rules_in media_in
laid_known text around k _ _ none_laid below = record { media = tt; rules = All-nil (λ (r : RuleForm). IsBelow (k + 0) r.media) }
laid_known text around k _ _ (part_laid p ps ls e others) below =
    let more = laid_known text around k ps ls others below in
    let same = media_cons text around p ls None e in
    let n = ap (λ (ms : List MediaRule). length ms) same in
    record {
      media = subst (AreBelow k) (sym same) more.media;
      rules = part_known text around k (k + length (media_in text (laid around p ∷ ls))) p ls refl below
          (rules_more (k + length (media_in text ls)) (k + length (media_in text (laid around p ∷ ls))) (rules_in text ls)
          (omega (arith, n)) more.rules);
    }
laid_known text around k _ _ (media_laid p m inner ps within ls e is_inner own others) below =
    let w = media_in text within in
    let inside = laid_known text (Some k) (suc k) inner within own (omega arith) in
    let more = laid_known text around (suc k + length w) ps ls others (below_more k (suc k + length w) around (omega arith) below) in
    let same = media_cons text around p (within ++ ls) (Some m) e
    ∙ ap (λ (ms : List MediaRule). media_rule text around m ∷ ms) (media_append text within ls) in
    let count = ap (λ (ms : List MediaRule). length ms) same in
    let both = length-append w (media_in text ls) in
    let total = k + length (media_in text (laid around p ∷ (within ++ ls))) in
    record {
      media = subst (AreBelow k) (sym same) (below, below_append (suc k) w (media_in text ls) inside.media more.media);
      rules = part_known text around k total p (within ++ ls) refl below
          (subst (λ (rs : List RuleForm). All (λ r. IsBelow total r.media) rs) (sym (rules_append text within ls))
          (All-append (λ (r : RuleForm). IsBelow total r.media) (rules_in text within) (rules_in text ls)
          (rules_more (suc k + length w) total (rules_in text within) (omega (arith, count, both)) inside.rules)
          (rules_more (suc k + length w + length (media_in text ls)) total (rules_in text ls) (omega (arith, count, both)) more.rules)));
    }

pub sheet_there : (text : List ℕ) → AreThere (sheet_of text)
sheet_there text =
    let k =
    laid_known text None 0 (parts Top (pieces text)) (laid_out text None 0 (pieces text)) (laid_spelled text None 0 (pieces text)) tt in
    record {
      media = k.media;
      rules = rules_more (0 + length (media_in text (laid_out text None 0 (pieces text))))
          (length (media_in text (laid_out text None 0 (pieces text)))) (rules_in text (laid_out text None 0 (pieces text)))
          (omega arith) k.rules;
    }
