-- Rules found and ancestors walked, one after the other.
use Rattle.std.proofs.Common.{◌≡◌, ℕ, zero, suc, ◌+◌, ◌<◌, subst, All, Bool, true, false, cond, List, [], ◌∷◌, ◌++◌, map, take, drop}
use Rattle.std.proofs.Common.{length, get_or, arith, Option, Some, None, refl, sym, ap, ◌∙◌}
use Rattle.std.specs.List.{filter_map, cons_option, slice_get}
use Rattle.std.specs.Borrow.{Bor}
use Rattle.std.specs.Option.{option_to_list, option_map}
use Rattle.std.proofs.lemmas.Option.{slice_get-map}
use Rattle.std.proofs.lemmas.List.{drop_more, append_assoc, map-append}
use Rattle.std.proofs.lemmas.List.Elements.{All-nil, All-cons, All-head, All-tail}
use Rattle.std.specs.Prelude.{IfSome}
use Rattle.std.specs.Str.{IsUtf8}
use Rattle.selectors.specs.Forms.{SelectorForm}
use Rattle.sheet_reader.specs.declared.sheet.StyleRule.{StyleRule}
use Rattle.sheet_reader.specs.declared.sheet.Sheet.{Sheet}
use Rattle.sheet_reader.specs.Around.{IsBelow}
use Rattle.sheet_reader.specs.Books.{IsEntry}
use Rattle.sheet_reader.specs.Forms.{RuleForm, rule_seen}
use Rattle.sheet_reader.specs.Sheets.{sheet_of}
use Rattle.sheet_reader.specs.Usable.{IsRuleOf}
use Rattle.sheet_reader.proofs.AroundForms.{sheet_there}
use Rattle.sheet_reader.proofs.UsableForms.{sheet_usable}
use Rattle.selectors.specs.Ranges.{IsRangeOf, AreBetween, ranges_of}
use Rattle.page_tree.specs.Zippers.{Zipper, ancestors, parent_of}
use Rattle.select_match.specs.Elements.{is_element_node, elements}
use Rattle.select_match.proofs.WalkLemmas.{from, ancestors-from, walk-step}
use Rattle.sheet_reader.specs.declared.book.SheetEntry.{SheetEntry}
use Rattle.css_objects.specs.declared.rules.Inherited.{Inherited}
use Rattle.media_rules.specs.declared.medium.Medium.{Medium}
use Rattle.css_agent.specs.MatchedStyles.{told_inherited}

one-found : {Y : Type 0} (o : Option Y) (front rest : List Y) → (front ++ option_to_list o) ++ rest ≡ front ++ cons_option o rest
one-found None front rest = append_assoc front [] rest
one-found (Some y) front rest = append_assoc front (y ∷ []) rest

-- what the element at a place gives, and then what those behind it give
pub found-turn : {X Y : Type 0} (f : X → Option Y) (xs : List X) (i : ℕ) (x : X) (before after : List Y) → i < length xs
    → x ≡ get_or xs i x → after ≡ before ++ option_to_list (f x)
    → after ++ filter_map f (drop (i + 1) xs) ≡ before ++ filter_map f (drop i xs)
found-turn {X = X} {Y = Y} f xs i x before after inside is e =
    ap (λ (l : List Y). l ++ filter_map f (drop (i + 1) xs)) e ∙ one-found (f x) before (filter_map f (drop (i + 1) xs))
    ∙ sym (ap (λ (l : List X). before ++ filter_map f l) (drop_more xs i x inside ∙ ap (λ (y : X). y ∷ drop (i + 1) xs) (sym is)))

one-more : (m : Medium) (book : List SheetEntry) (b : Bool) (front : List Inherited) (z : Zipper) (rest : List Zipper)
    → (front ++ cond b (told_inherited m book z ∷ []) []) ++ map (told_inherited m book) rest
    ≡ front ++ map (told_inherited m book) (cond b (z ∷ rest) rest)
one-more m book true front z rest = append_assoc front (told_inherited m book z ∷ []) (map (told_inherited m book) rest)
one-more m book false front z rest = append_assoc front [] (map (told_inherited m book) rest)

-- an ancestor, and then those above it
pub ancestors-turn : (m : Medium) (book : List SheetEntry) (at : Option Zipper) (q : Zipper) (next : Option Zipper)
    (before after : List Inherited) → at ≡ Some q → next ≡ parent_of q
    → after ≡ before ++ cond (is_element_node q) (told_inherited m book q ∷ []) []
    → after ++ map (told_inherited m book) (elements (from ancestors next))
    ≡ before ++ map (told_inherited m book) (elements (from ancestors at))
ancestors-turn m book at q next before after e f made =
    ap (λ (l : List Inherited). l ++ map (told_inherited m book) (elements (from ancestors next))) made
    ∙ one-more m book (is_element_node q) before q (elements (from ancestors next))
    ∙ sym (ap (λ (l : List Zipper). before ++ map (told_inherited m book) (elements l)) (walk-step ancestors ancestors-from at q next e f))

-- the selectors of a rule stand each where the text can be cut
pub each-between : (text : List ℕ) (from to : ℕ) (ss : List SelectorForm) → AreBetween text from to (ranges_of ss)
    → All (λ s. IsRangeOf text s.range) ss
each-between text from to [] b = All-nil (λ s. IsRangeOf text s.range)
each-between text from to (s ∷ ss) b = All-cons (λ s. IsRangeOf text s.range) s ss b.1 (each-between text s.range.end to ss b.2)

-- what all elements are, the one at a place is
pub all-at : {X : Type 0} (P : X → Type 0) (xs : List X) (i : ℕ) (x : X) → slice_get xs i ≡ Some x → All P xs → P x
all-at P [] i x e all = absurd (cc)
all-at P (y ∷ ys) zero x e all = let same : y ≡ x = cc in subst P same (All-head P y ys all)
all-at P (y ∷ ys) (suc i) x e all = all-at P ys i x e (All-tail P y ys all)

twice : (o : Option (Bor StyleRule)) → option_map (λ r. rule_seen r.now) o ≡ option_map rule_seen (option_map (λ r. r.now) o)
twice None = refl
twice (Some r) = refl

-- the rule at a place of a sheet of a book
pub rule-here : (e : SheetEntry) (xs : List StyleRule) (i : ℕ) (o : Option (Bor StyleRule)) → IsEntry e
    → map rule_seen xs ≡ e.reading.rules → option_map (λ r. r.now) o ≡ slice_get xs i
    → option_map (λ r. rule_seen r.now) o ≡ slice_get (sheet_of e.text).rules i
rule-here e xs i o own read at =
    twice o ∙ ap (λ (p : Option StyleRule). option_map rule_seen p) at ∙ sym (slice_get-map rule_seen xs i)
    ∙ ap (λ (rs : List RuleForm). slice_get rs i) (read ∙ ap (λ (s : Sheet). s.rules) own.read)

-- and it can be cut out of the sheet's text
pub rule-usable : (e : SheetEntry) (text : List ℕ) (i : ℕ) (o : Option (Bor StyleRule)) → text ≡ e.text → IsUtf8 text
    → option_map (λ r. rule_seen r.now) o ≡ slice_get (sheet_of e.text).rules i
    → IfSome o (λ r. IsRuleOf e.text (rule_seen r.now))
rule-usable e text i None is utf8 at = tt
rule-usable e text i (Some r) is utf8 at = all-at (IsRuleOf e.text) (sheet_of e.text).rules i (rule_seen r.now) (sym at)
    (sheet_usable e.text (subst IsUtf8 is utf8)).each

-- and the media rule around it is there
pub rule-there : (e : SheetEntry) (i : ℕ) (o : Option (Bor StyleRule))
    → option_map (λ r. rule_seen r.now) o ≡ slice_get (sheet_of e.text).rules i
    → IfSome o (λ r. IsBelow (length (sheet_of e.text).media) r.now.media)
rule-there e i None at = tt
rule-there e i (Some r) at =
    all-at (λ (x : RuleForm). IsBelow (length (sheet_of e.text).media) x.media) (sheet_of e.text).rules i (rule_seen r.now) (sym at)
    (sheet_there e.text).rules

take-suc : {X : Type 0} (xs : List X) (i : ℕ) (x : X) → slice_get xs i ≡ Some x → take (suc i) xs ≡ take i xs ++ x ∷ []
take-suc [] i x e = absurd (cc)
take-suc (y ∷ ys) zero x e = let same : y ≡ x = cc in ap (λ w. w ∷ []) same
take-suc (y ∷ ys) (suc i) x e = ap (λ w. y ∷ w) (take-suc ys i x e)

-- one more is told, that at a place
pub told-at : {X Y : Type 0} (f : X → Y) (xs : List X) (i : ℕ) (x : X) (before after : List Y) → slice_get xs i ≡ Some x
    → before ≡ map f (take i xs) → after ≡ before ++ f x ∷ []
    → after ≡ map f (take (i + 1) xs)
told-at {X = X} {Y = Y} f xs i x before after at is e =
    let one : suc i ≡ i + 1 = omega arith in
    e ∙ ap (λ (l : List Y). l ++ f x ∷ []) is ∙ sym (map-append f (take i xs) (x ∷ [])) ∙ ap (λ (l : List X). map f l)
    (sym (take-suc xs i x at)) ∙ ap (λ (n : ℕ). map f (take n xs)) one
