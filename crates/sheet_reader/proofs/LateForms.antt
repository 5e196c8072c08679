-- Rules of which the last ones are moved later.
use Rattle.std.proofs.Common.{◌≡◌, ◌⊎◌, inl, inr, ℕ, zero, suc, ◌+◌, ◌-◌, ◌<◌, ◌≤◌, List, [], ◌∷◌, ◌++◌, All, map, take, drop, set}
use Rattle.std.proofs.Common.{length, get_or, refl, sym, ap, subst, ◌∙◌, append_assoc, arith, Some}
use Rattle.std.specs.Prelude.{slice_get, Option, IfSome, IsSomeAnd}
use Rattle.std.proofs.lemmas.List.{length-map, length-take-le, length-drop, take-append-drop, take_all, drop_all, append-nil, length-append}
use Rattle.std.proofs.lemmas.List.Elements.{All-nil, All-cons, All-head, All-tail, All-weaker, All-take, All-drop}
use Rattle.std.proofs.lemmas.List.{drop-drop}
use Rattle.std.proofs.lemmas.List.{get_or-map, get_or-drop}
use Rattle.std.proofs.Math.Seq.{take-append_seam, drop-append_seam}
use borrow.Rule.Slice.PartMut.{put_mid}
use Rattle.node_tree.specs.Numbers.{number_limit}
use Rattle.css_tokens.specs.declared.token.Range.{Range}
use Rattle.selectors.specs.Forms.{SelectorForm}
use Rattle.selectors.specs.Moves.{Cut, cut, moved_place, placed_range, placed_selector, CanPlaceRange}
use Rattle.sheet_reader.specs.declared.sheet.Property.{Property}
use Rattle.sheet_reader.specs.Forms.{RuleForm}
use Rattle.sheet_reader.specs.Moves.{placed_property, placed_rule, rebodied, moved_rules, CanPlaceProperty, CanPlaceRule, CanPlaceHead}
use Rattle.sheet_reader.specs.Late.{EachEnd, EachEndOf, EachPlace, late_rules, IsLate, AreLate, StandsBehind, StandsBefore, CanRebody}
use Rattle.sheet_reader.specs.Late.{HasOther}
use Rattle.sheet_reader.specs.Rereads.{HasBody}
use Rattle.sheet_reader.proofs.LaidMoves.{stays, goes}
use Rattle.sheet_reader.proofs.PartMoves.{map_append}
use Rattle.sheet_reader.proofs.MoveAround.{suc_is, seam_set, seam_take, seam_drop, map_front, map_back, found_is}
use Rattle.sheet_reader.proofs.MoveForms.{map_set}

-- ---- what holds of each place of a rule

end_weaker : (P Q : ℕ → Type 0) → ((b : ℕ) → P b → Q b) → (r : Range) → EachEnd P r → EachEnd Q r
end_weaker P Q f r e = record { start = f r.start e.start; end = f r.end e.end }

pub each_weaker : (P Q : ℕ → Type 0) → ((b : ℕ) → P b → Q b) → (r : RuleForm) → EachPlace P r → EachPlace Q r
each_weaker P Q f r e = record {
  prelude = end_weaker P Q f r.prelude e.prelude;
  selectors = All-weaker (λ (s : SelectorForm). EachEnd P s.range) (λ (s : SelectorForm). EachEnd Q s.range)
      (λ s h. end_weaker P Q f s.range h) r.selectors e.selectors;
  body = end_weaker P Q f r.body e.body;
  properties = All-weaker (EachEndOf P) (EachEndOf Q)
      (λ p h. record { value = end_weaker P Q f p.value h.value; whole = end_weaker P Q f p.whole h.whole }) r.properties e.properties;
}

pub all_both : {X : Type 0} (P Q R : X → Type 0) → ((x : X) → P x → Q x → R x) → (xs : List X) → All P xs → All Q xs → All R xs
all_both {X = X} P Q R f xs a b k d lt = f (get_or xs k d) (a k d lt) (b k d lt)

end_both : (P Q R : ℕ → Type 0) → ((b : ℕ) → P b → Q b → R b) → (r : Range) → EachEnd P r → EachEnd Q r → EachEnd R r
end_both P Q R f r e h = record { start = f r.start e.start h.start; end = f r.end e.end h.end }

pub each_both : (P Q R : ℕ → Type 0) → ((b : ℕ) → P b → Q b → R b) → (r : RuleForm) → EachPlace P r → EachPlace Q r → EachPlace R r
each_both P Q R f r e h = record {
  prelude = end_both P Q R f r.prelude e.prelude h.prelude;
  selectors = all_both (λ (s : SelectorForm). EachEnd P s.range) (λ (s : SelectorForm). EachEnd Q s.range)
      (λ (s : SelectorForm). EachEnd R s.range) (λ s a b. end_both P Q R f s.range a b) r.selectors e.selectors h.selectors;
  body = end_both P Q R f r.body e.body h.body;
  properties = all_both (EachEndOf P) (EachEndOf Q) (EachEndOf R)
      (λ p a b. record { value = end_both P Q R f p.value a.value b.value; whole = end_both P Q R f p.whole a.whole b.whole })
      r.properties e.properties h.properties;
}

pub rules_both : (P Q R : ℕ → Type 0) → ((b : ℕ) → P b → Q b → R b) → (rs : List RuleForm) → All (EachPlace P) rs → All (EachPlace Q) rs
    → All (EachPlace R) rs
rules_both P Q R f rs a b = all_both (EachPlace P) (EachPlace Q) (EachPlace R) (each_both P Q R f) rs a b

-- what holds of each moved place holds of where each place is moved to
pub all_back : {X Y : Type 0} (P : Y → Type 0) (f : X → Y) (xs : List X) → All P (map f xs) → All (λ x. P (f x)) xs
all_back {X = X} P f [] a = All-nil (λ (x : X). P (f x))
all_back {X = X} P f (x ∷ xs) a = All-cons (λ (x : X). P (f x)) x xs (All-head P (f x) (map f xs) a)
    (all_back P f xs (All-tail P (f x) (map f xs) a))

pub each_back : (P : ℕ → Type 0) (f : ℕ → ℕ) (r : RuleForm) → EachPlace P (placed_rule f r) → EachPlace (λ b. P (f b)) r
each_back P f r e = record {
  prelude = record { start = e.prelude.start; end = e.prelude.end };
  selectors = All-weaker (λ (s : SelectorForm). EachEnd P (placed_range f s.range)) (λ (s : SelectorForm). EachEnd (λ b. P (f b)) s.range)
      (λ s h. record { start = h.start; end = h.end }) r.selectors
      (all_back (λ (s : SelectorForm). EachEnd P s.range) (placed_selector f) r.selectors e.selectors);
  body = record { start = e.body.start; end = e.body.end };
  properties = All-weaker (λ (p : Property). EachEndOf P (placed_property f p)) (EachEndOf (λ b. P (f b)))
      (λ p h. record {
        value = record { start = h.value.start; end = h.value.end };
        whole = record { start = h.whole.start; end = h.whole.end };
      }) r.properties (all_back (EachEndOf P) (placed_property f) r.properties e.properties);
}

pub rules_back : (P : ℕ → Type 0) (f : ℕ → ℕ) (rs : List RuleForm) → All (EachPlace P) (map (placed_rule f) rs)
    → All (EachPlace (λ b. P (f b))) rs
rules_back P f rs a =
    All-weaker (λ (r : RuleForm). EachPlace P (placed_rule f r)) (EachPlace (λ b. P (f b))) (each_back P f) rs
    (all_back (EachPlace P) (placed_rule f) rs a)

-- rules whose places can be placed
pub late_can : (c : Cut) (r : RuleForm) → EachPlace (IsLate c) r → CanPlaceRule c r
late_can c r e = record {
  head = record {
    prelude = one r.prelude e.prelude;
    selectors = All-weaker (λ (s : SelectorForm). EachEnd (IsLate c) s.range) (λ (s : SelectorForm). CanPlaceRange c s.range)
        (λ s h. one s.range h) r.selectors e.selectors;
  };
  body = one r.body e.body;
  properties = All-weaker (EachEndOf (IsLate c)) (CanPlaceProperty c)
      (λ p h. record { value = one p.value h.value; whole = one p.whole h.whole }) r.properties e.properties;
}
  where
    one : (r : Range) → EachEnd (IsLate c) r → CanPlaceRange c r
    one r h = record { front = h.start.can; back = h.end.can }

-- ---- rules that are moved alike

all_same : {X Y : Type 0} (P : X → Type 0) (f g : X → Y) → ((x : X) → P x → f x ≡ g x) → (xs : List X) → All P xs → map f xs ≡ map g xs
all_same P f g e [] a = refl
all_same P f g e (x ∷ xs) a =
    let one = e x (All-head P x xs a) in
    let more = all_same P f g e xs (All-tail P x xs a) in
    λ i. one i ∷ more i

all_twice : {X Y Z : Type 0} (P : X → Type 0) (f : Y → Z) (h : X → Y) (g : X → Z) → ((x : X) → P x → f (h x) ≡ g x) → (xs : List X)
    → All P xs → map f (map h xs) ≡ map g xs
all_twice P f h g e [] a = refl
all_twice P f h g e (x ∷ xs) a =
    let one = e x (All-head P x xs a) in
    let more = all_twice P f h g e xs (All-tail P x xs a) in
    λ i. one i ∷ more i

range_same : (P : ℕ → Type 0) (f g : ℕ → ℕ) → ((b : ℕ) → P b → f b ≡ g b) → (r : Range) → EachEnd P r → placed_range f r ≡ placed_range g r
range_same P f g e r h = let a = e r.start h.start in let b = e r.end h.end in λ i. record { start = a i; end = b i }

pub rule_same : (P : ℕ → Type 0) (f g : ℕ → ℕ) → ((b : ℕ) → P b → f b ≡ g b) → (r : RuleForm) → EachPlace P r
    → placed_rule f r ≡ placed_rule g r
rule_same P f g e r h =
    let a = range_same P f g e r.prelude h.prelude in
    let b = all_same (λ (s : SelectorForm). EachEnd P s.range) (placed_selector f) (placed_selector g)
    (λ s k. let one = range_same P f g e s.range k in
    λ i. record { compounds = s.compounds; pseudo_element = s.pseudo_element; range = one i }) r.selectors h.selectors in
    let c = range_same P f g e r.body h.body in
    let d = all_same (EachEndOf P) (placed_property f) (placed_property g)
    (λ p k. let value = range_same P f g e p.value k.value in let whole = range_same P f g e p.whole k.whole in
    λ i. record { name = p.name; value = value i; important = p.important; whole = whole i }) r.properties h.properties in
    λ i. record { prelude = a i; selectors = b i; body = c i; properties = d i; media = r.media }

range_twice : (P : ℕ → Type 0) (f h g : ℕ → ℕ) → ((b : ℕ) → P b → f (h b) ≡ g b) → (r : Range) → EachEnd P r
    → placed_range f (placed_range h r) ≡ placed_range g r
range_twice P f h g e r k = let a = e r.start k.start in let b = e r.end k.end in λ i. record { start = a i; end = b i }

pub rule_twice : (P : ℕ → Type 0) (f h g : ℕ → ℕ) → ((b : ℕ) → P b → f (h b) ≡ g b) → (r : RuleForm) → EachPlace P r
    → placed_rule f (placed_rule h r) ≡ placed_rule g r
rule_twice P f h g e r k =
    let a = range_twice P f h g e r.prelude k.prelude in
    let b = all_twice (λ (s : SelectorForm). EachEnd P s.range) (placed_selector f) (placed_selector h) (placed_selector g)
    (λ s x. let one = range_twice P f h g e s.range x in
    λ i. record { compounds = s.compounds; pseudo_element = s.pseudo_element; range = one i }) r.selectors k.selectors in
    let c = range_twice P f h g e r.body k.body in
    let d = all_twice (EachEndOf P) (placed_property f) (placed_property h) (placed_property g)
    (λ p x. let value = range_twice P f h g e p.value x.value in let whole = range_twice P f h g e p.whole x.whole in
    λ i. record { name = p.name; value = value i; important = p.important; whole = whole i }) r.properties k.properties in
    λ i. record { prelude = a i; selectors = b i; body = c i; properties = d i; media = r.media }

-- a rule whose places stay
range_stays : (P : ℕ → Type 0) (f : ℕ → ℕ) → ((b : ℕ) → P b → f b ≡ b) → (r : Range) → EachEnd P r → placed_range f r ≡ r
range_stays P f e r h = let a = e r.start h.start in let b = e r.end h.end in λ i. record { start = a i; end = b i }

all_stay : {X : Type 0} (P : X → Type 0) (f : X → X) → ((x : X) → P x → f x ≡ x) → (xs : List X) → All P xs → map f xs ≡ xs
all_stay P f e [] a = refl
all_stay P f e (x ∷ xs) a =
    let one = e x (All-head P x xs a) in
    let more = all_stay P f e xs (All-tail P x xs a) in
    λ i. one i ∷ more i

pub rule_stays : (P : ℕ → Type 0) (f : ℕ → ℕ) → ((b : ℕ) → P b → f b ≡ b) → (r : RuleForm) → EachPlace P r → placed_rule f r ≡ r
rule_stays P f e r h =
    let a = range_stays P f e r.prelude h.prelude in
    let b = all_stay (λ (s : SelectorForm). EachEnd P s.range) (placed_selector f)
    (λ s k. let one = range_stays P f e s.range k in
    λ i. record { compounds = s.compounds; pseudo_element = s.pseudo_element; range = one i }) r.selectors h.selectors in
    let c = range_stays P f e r.body h.body in
    let d = all_stay (EachEndOf P) (placed_property f)
    (λ p k. let value = range_stays P f e p.value k.value in let whole = range_stays P f e p.whole k.whole in
    λ i. record { name = p.name; value = value i; important = p.important; whole = whole i }) r.properties h.properties in
    λ i. record { prelude = a i; selectors = b i; body = c i; properties = d i; media = r.media }

-- ---- places

less : (a b : ℕ) → (a < b) ⊎ (b ≤ a)
less a b = grind arith

-- where a cut is made anew from so far behind, and so many bytes are before it then
abbrev pub later : ℕ → Cut → Cut
later from g = cut 0 from (g.start + g.size)

pub behind_moves : (g : Cut) (b : ℕ) → g.start ≤ g.end → 0 < g.end → StandsBehind g b → moved_place g b ≡ moved_place (later g.end g) b
behind_moves g b order some h =
    let new = goes (later g.end g) b (omega (arith, h.past, some)) in
    elim (less g.start b) [
      | inl past ↦ let old = goes g b past in omega (arith, old, new)
      | inr most ↦ let old = stays g b most in omega (arith, old, new, h.past, h.moved, order, most)
    ]

-- the same of a place that is moved before
pub late_moves : (c g : Cut) (from b : ℕ) → g.start ≤ g.end → 0 < g.end → IsLate c from → moved_place c from ≡ g.end → IsLate c b
    → StandsBehind g (moved_place c b) → moved_place g (moved_place c b) ≡ moved_place (later from g) b
late_moves c g from b order some own is late h =
    let one = behind_moves g (moved_place c b) order some h in
    let at = goes c from own.past in
    let to = goes c b late.past in
    let reach = own.can.outside own.past in
    let more = late.can.outside late.past in
    let first = goes (later g.end g) (moved_place c b) (omega (arith, h.past, some)) in
    let past : 0 < b = omega (arith, late.past) in
    let new = goes (later from g) b past in
    omega (arith, one, at, to, reach, more, first, new, is, h.past)

-- the places behind the body are late by the new cut
late_anew : (g : Cut) (from b : ℕ) → 0 < b → from ≤ b → moved_place (later from g) b < number_limit → IsLate (later from g) b
late_anew g from b some past fits = record { past = some; can = record { outside = λ _. past; fits = fits } }

pub behind_late : (g : Cut) (b : ℕ) → g.start ≤ g.end → 0 < g.end → StandsBehind g b → IsLate (later g.end g) b
behind_late g b order some h =
    let same = behind_moves g b order some h in
    late_anew g g.end b (omega (arith, h.past, some)) h.past (subst (λ (n : ℕ). n < number_limit) same h.fits)

pub late_late : (c g : Cut) (from b : ℕ) → g.start ≤ g.end → 0 < g.end → IsLate c from → moved_place c from ≡ g.end → IsLate c b
    → StandsBehind g (moved_place c b) → IsLate (later from g) b
late_late c g from b order some own is late h =
    let same = late_moves c g from b order some own is late h in
    let at = goes c from own.past in
    let to = goes c b late.past in
    let reach = own.can.outside own.past in
    let more = late.can.outside late.past in
    late_anew g from b (omega (arith, late.past)) (omega (arith, at, to, reach, more, is, h.past))
    (subst (λ (n : ℕ). n < number_limit) same h.fits)

-- ---- lists

pub moved_split : (c : Cut) (ps : List Property) (k : ℕ) (rs : List RuleForm) (d : RuleForm) → k < length rs
    → moved_rules c ps k rs
    ≡ map (placed_rule (moved_place c)) (take k rs) ++ rebodied c ps (get_or rs k d) ∷ map (placed_rule (moved_place c)) (drop (suc k) rs)
moved_split c ps k [] d inside = absurd (omega (arith, inside))
moved_split c ps zero (r ∷ rs) d inside = refl
moved_split c ps (suc k) (r ∷ rs) d inside =
    ap (λ (zs : List RuleForm). placed_rule (moved_place c) r ∷ zs) (moved_split c ps k rs d (omega (arith, inside)))

-- what stands before a seam, at a place before it and behind that
record AtSeam {X : Type 0} (xs ys : List X) (k : ℕ) (d : X) : Type 0 where
  front : take k (xs ++ ys) ≡ take k xs
  here : get_or (xs ++ ys) k d ≡ get_or xs k d
  behind : drop (suc k) (xs ++ ys) ≡ drop (suc k) xs ++ ys

at_seam : {X : Type 0} (xs ys : List X) (k : ℕ) (d : X) → k < length xs → AtSeam xs ys k d
at_seam [] ys k d inside = absurd (omega (arith, inside))
at_seam (x ∷ xs) ys zero d inside = record { front = refl; here = refl; behind = refl }
at_seam {X = X} (x ∷ xs) ys (suc k) d inside =
    let more = at_seam xs ys k d (omega (arith, inside)) in
    record { front = ap (λ (zs : List X). x ∷ zs) more.front; here = more.here; behind = more.behind }

-- the same of a list that is taken up to that place, and of the whole
record UpTo {X : Type 0} (xs : List X) (to k : ℕ) (d : X) : Type 0 where
  front : take k (take to xs) ≡ take k xs
  here : get_or (take to xs) k d ≡ get_or xs k d

up_to : {X : Type 0} (xs : List X) (to k : ℕ) (d : X) → k < to → to ≤ length xs → UpTo xs to k d
up_to xs zero k d before inside = absurd (omega (arith, before))
up_to [] (suc to) k d before inside = absurd (omega (arith, inside))
up_to (x ∷ xs) (suc to) zero d before inside = record { front = refl; here = refl }
up_to {X = X} (x ∷ xs) (suc to) (suc k) d before inside =
    let more = up_to xs to k d (omega (arith, before)) (omega (arith, inside)) in
    record { front = ap (λ (zs : List X). x ∷ zs) more.front; here = more.here }

last_taken : {X : Type 0} (xs : List X) (k : ℕ) → drop (suc k) (take (suc k) xs) ≡ []
last_taken xs k = drop_all (suc k) (take (suc k) xs) (omega (arith, length_take xs (suc k)))
  where
    length_take : {X : Type 0} (xs : List X) (n : ℕ) → length (take n xs) ≤ n
    length_take xs zero = omega arith
    length_take [] (suc n) = omega arith
    length_take (x ∷ xs) (suc n) = omega (arith, length_take xs n)

-- rules of which none is moved later
pub none_late : (c : Cut) (n : ℕ) (rules : List RuleForm) → n ≡ length rules → late_rules c n rules ≡ rules
none_late c n rules is =
    (λ i. take_all n rules (omega (arith, is)) i ++ map (placed_rule (moved_place c)) (drop_all n rules (omega (arith, is)) i))
    ∙ append-nil rules

pub none_late_all : (c : Cut) (n : ℕ) (rules : List RuleForm) → n ≡ length rules → AreLate c n rules
none_late_all c n rules is =
    subst (All (EachPlace (IsLate c))) (sym (drop_all n rules (omega (arith, is)))) (All-nil (EachPlace (IsLate c)))

-- how many of n rules are moved before rule k gets another body, and where its old one ends, as it is and as it is seen
pub data Reached (c : Cut) (to k from n end : ℕ) : Type 0 where
  whole : to ≡ n → from ≡ end → Reached c to k from n end
  up_to_own : to ≡ suc k → IsLate c from → moved_place c from ≡ end → Reached c to k from n end

record Anew (g c : Cut) (ps : List Property) (k from : ℕ) (d : RuleForm) (rules : List RuleForm) (seen : List RuleForm) : Type 0 where
  front : take k seen ≡ take k rules
  here : get_or seen k d ≡ get_or rules k d
  behind : map (placed_rule (moved_place g)) (drop (suc k) seen) ≡ map (placed_rule (moved_place (later from g))) (drop (suc k) rules)
  late : All (EachPlace (IsLate (later from g))) (drop (suc k) rules)

anew : (g c : Cut) (ps : List Property) (to k from : ℕ) (d : RuleForm) (rules : List RuleForm) → k < to → to ≤ length rules
    → AreLate c to rules → CanRebody g k (late_rules c to rules) → Reached c to k from (length rules) g.end
    → Anew g c ps k from d rules (late_rules c to rules)
anew g c ps to k from d rules before inside late can (whole all at) =
    let rest : late_rules c to rules ≡ rules = none_late c to rules all in
    let behind : All (EachPlace (StandsBehind g)) (drop (suc k) rules) =
    subst (λ (rs : List RuleForm). All (EachPlace (StandsBehind g)) (drop (suc k) rs)) rest can.behind in
    let f = placed_rule (moved_place g) in
    subst (λ (end : ℕ). Anew g c ps k end d rules (late_rules c to rules)) (sym at) (record {
      front = ap (take k) rest;
      here = ap (λ (rs : List RuleForm). get_or rs k d) rest;
      behind = ap (λ (rs : List RuleForm). map f (drop (suc k) rs)) rest
          ∙ all_same (EachPlace (StandsBehind g)) f (placed_rule (moved_place (later g.end g)))
          (rule_same (StandsBehind g) (moved_place g) (moved_place (later g.end g)) (λ b h. behind_moves g b can.order can.some h))
          (drop (suc k) rules) behind;
      late = All-weaker (EachPlace (StandsBehind g)) (EachPlace (IsLate (later g.end g)))
          (each_weaker (StandsBehind g) (IsLate (later g.end g)) (λ b h. behind_late g b can.order can.some h)) (drop (suc k) rules) behind;
    })
anew g c ps to k from d rules before inside late can (up_to_own next own at) =
    let f = placed_rule (moved_place g) in
    let lift = placed_rule (moved_place c) in
    let rest = drop (suc k) rules in
    let size : k < length (take to rules) = omega (arith, length-take-le to rules inside, before) in
    let seam = at_seam (take to rules) (map lift (drop to rules)) k d size in
    let part = up_to rules to k d before inside in
    let behind_is : drop (suc k) (late_rules c to rules) ≡ map lift rest =
    seam.behind ∙ (λ i. drop (suc k) (take (next i) rules) ++ map lift (drop (next i) rules))
    ∙ ap (λ (zs : List RuleForm). zs ++ map lift rest) (last_taken rules k) in
    let seen : All (EachPlace (λ b. StandsBehind g (moved_place c b))) rest =
    rules_back (StandsBehind g) (moved_place c) rest (subst (All (EachPlace (StandsBehind g))) behind_is can.behind) in
    let lately : All (EachPlace (IsLate c)) rest = subst (λ (n : ℕ). AreLate c n rules) next late in
    let both : All (EachPlace (λ b. IsLate c b × StandsBehind g (moved_place c b))) rest =
    rules_both (IsLate c) (λ b. StandsBehind g (moved_place c b)) (λ b. IsLate c b × StandsBehind g (moved_place c b))
    (λ b x y. (x, y)) rest
    lately seen in
    record {
      front = seam.front ∙ part.front;
      here = seam.here ∙ part.here;
      behind = ap (map f) behind_is
          ∙ all_twice (EachPlace (λ b. IsLate c b × StandsBehind g (moved_place c b))) f lift (placed_rule (moved_place (later from g)))
          (rule_twice (λ b. IsLate c b × StandsBehind g (moved_place c b)) (moved_place g) (moved_place c) (moved_place (later from g))
          (λ b h. late_moves c g from b can.order can.some own at h.0 h.1)) rest both;
      late = All-weaker (EachPlace (λ b. IsLate c b × StandsBehind g (moved_place c b))) (EachPlace (IsLate (later from g)))
          (each_weaker (λ b. IsLate c b × StandsBehind g (moved_place c b)) (IsLate (later from g))
          (λ b h. late_late c g from b can.order can.some own at h.0 h.1)) rest both;
    }

-- ---- a rule that gets another body

pub record Rebodied (g : Cut) (ps : List Property) (k from : ℕ) (new seen : List RuleForm) : Type 0 where
  pub rules_are : late_rules (later from g) (k + 1) new ≡ moved_rules g ps k seen
  pub late : AreLate (later from g) (k + 1) new

pub late_rebodied : (g c : Cut) (ps : List Property) (to k from : ℕ) (d : RuleForm) (rules : List RuleForm) → k < to → to ≤ length rules
    → AreLate c to rules → CanRebody g k (late_rules c to rules) → Reached c to k from (length rules) g.end
    → Rebodied g ps k from (set rules k (rebodied g ps (get_or rules k d))) (late_rules c to rules)
late_rebodied g c ps to k from d rules before inside late can reached =
    let n = anew g c ps to k from d rules before inside late can reached in
    let f = placed_rule (moved_place g) in
    let h = placed_rule (moved_place (later from g)) in
    let x = rebodied g ps (get_or rules k d) in
    let seen = late_rules c to rules in
    let there : k < length rules = omega (arith, before, inside) in
    let front_len : length (take k rules) ≡ k = length-take-le k rules (omega (arith, there)) in
    let whole : set rules k x ≡ take k rules ++ x ∷ drop (k + 1) rules =
    ap (λ (zs : List RuleForm). set zs k x) (sym (take-append-drop k rules)) ∙ seam_set (take k rules) rules k x front_len there in
    let next = suc_is k in
    let split : take (k + 1) (set rules k x) ≡ take k rules ++ x ∷ [] =
    ap (take (k + 1)) whole ∙ seam_take (take k rules) x (drop (k + 1) rules) k front_len in
    let rest : drop (k + 1) (set rules k x) ≡ drop (suc k) rules =
    ap (drop (k + 1)) whole ∙ seam_drop (take k rules) x (drop (k + 1) rules) k front_len
    ∙ ap (λ (m : ℕ). drop m rules) (sym (suc_is k)) in
    let still : map f (take k seen) ≡ take k rules =
    all_stay (EachPlace (StandsBefore g)) f (rule_stays (StandsBefore g) (moved_place g) (λ b e. stays g b e)) (take k seen) can.before
    ∙ n.front in
    let long : k < length seen = omega (
      arith,
      length-append (take to rules) (map (placed_rule (moved_place c)) (drop to rules)),
      length-take-le to rules inside,
      before,
    ) in
    let old : moved_rules g ps k seen ≡ take k rules ++ x ∷ map h (drop (suc k) rules) =
    moved_split g ps k seen d long ∙ (λ i. still i ++ rebodied g ps (n.here i) ∷ n.behind i) in
    record {
      rules_are = (λ i. split i ++ map h (rest i)) ∙ append_assoc (take k rules) (x ∷ []) (map h (drop (suc k) rules)) ∙ sym old;
      late = subst (All (EachPlace (IsLate (later from g)))) (sym rest) n.late;
    }

-- ---- rules that are moved up to a place

pub record Settled {X : Type 0} (see : X → RuleForm) (c : Cut) (moved to : ℕ) (old new : List X) : Type 0 where
  pub same : late_rules c to (map see new) ≡ late_rules c moved (map see old)
  pub rest : drop to (map see new) ≡ drop to (map see old)

pub settled : {X : Type 0} (see : X → RuleForm) (c : Cut) (moved to : ℕ) (old mid : List X) → moved ≤ to → to ≤ length old
    → map see mid ≡ map (placed_rule (moved_place c)) (map see (take (to - moved) (drop moved old)))
    → Settled see c moved to old (put_mid moved (to - moved) old mid)
settled {X = X} see c moved to old mid order inside is =
    let lift = placed_rule (moved_place c) in
    let a = map see (take moved old) in
    let left = drop moved old in
    let b = map see (take (to - moved) left) in
    let rest = map see (drop (to - moved) left) in
    let a_len : length a ≡ moved = length-map (take moved old) see ∙ length-take-le moved old (omega (arith, order, inside)) in
    let left_len = length-drop moved old in
    let b_len : length b ≡ to - moved =
    length-map (take (to - moved) left) see ∙ length-take-le (to - moved) left (omega (arith, left_len, order, inside)) in
    let m_len : length (map see mid) ≡ to - moved = ap length is ∙ length-map b lift ∙ b_len in
    let left_is : map see left ≡ b ++ rest =
    ap (map see) (sym (take-append-drop (to - moved) left)) ∙ map_append see (take (to - moved) left) (drop (to - moved) left) in
    let old_is : map see old ≡ a ++ map see left =
    ap (map see) (sym (take-append-drop moved old)) ∙ map_append see (take moved old) left in
    let old_apart : map see old ≡ (a ++ b) ++ rest =
    old_is ∙ ap (λ (zs : List RuleForm). a ++ zs) left_is ∙ sym (append_assoc a b rest) in
    let new_apart : map see (put_mid moved (to - moved) old mid) ≡ (a ++ map see mid) ++ rest =
    map_append see (take moved old) (mid ++ drop (to - moved) left)
    ∙ ap (λ (zs : List RuleForm). a ++ zs) (map_append see mid (drop (to - moved) left))
    ∙ sym (append_assoc a (map see mid) rest) in
    let fit : (length (a ++ b) ≡ to) × (length (a ++ map see mid) ≡ to) =
    (omega (arith, length-append a b, a_len, b_len, order), omega (arith, length-append a (map see mid), a_len, m_len, order)) in
    let old_rest : drop to (map see old) ≡ rest = ap (drop to) old_apart ∙ seam_behind (a ++ b) rest to fit.0 in
    let new_rest : drop to (map see (put_mid moved (to - moved) old mid)) ≡ rest =
    ap (drop to) new_apart ∙ seam_behind (a ++ map see mid) rest to fit.1 in
    let new_front : take to (map see (put_mid moved (to - moved) old mid)) ≡ a ++ map see mid =
    ap (take to) new_apart ∙ seam_front (a ++ map see mid) rest to fit.1 in
    let old_front : take moved (map see old) ≡ a = ap (take moved) old_is ∙ seam_front a (map see left) moved a_len in
    let old_left : drop moved (map see old) ≡ b ++ rest = ap (drop moved) old_is ∙ seam_behind a (map see left) moved a_len ∙ left_is in
    record {
      same = (λ i. new_front i ++ map lift (new_rest i)) ∙ append_assoc a (map see mid) (map lift rest)
          ∙ (λ i. a ++ (is i ++ map lift rest))
          ∙ ap (λ (zs : List RuleForm). a ++ zs) (sym (map_append lift b rest))
          ∙ sym (λ i. old_front i ++ map lift (old_left i));
      rest = new_rest ∙ sym old_rest;
    }
  where
    seam_front : {Y : Type 0} (xs ys : List Y) (n : ℕ) → length xs ≡ n → take n (xs ++ ys) ≡ xs
    seam_front xs ys n e = ap (λ (m : ℕ). take m (xs ++ ys)) (sym e) ∙ take-append_seam xs ys

    seam_behind : {Y : Type 0} (xs ys : List Y) (n : ℕ) → length xs ≡ n → drop n (xs ++ ys) ≡ ys
    seam_behind xs ys n e = ap (λ (m : ℕ). drop m (xs ++ ys)) (sym e) ∙ drop-append_seam xs ys

-- where rules are late, those behind are
pub late_rest : (c : Cut) (moved to : ℕ) (rules : List RuleForm) → moved ≤ to → AreLate c moved rules → AreLate c to rules
late_rest c moved to rules order late =
    subst (All (EachPlace (IsLate c))) (drop-drop (to - moved) moved rules ∙ ap (λ (n : ℕ). drop n rules) (omega (arith, order)))
    (All-drop (EachPlace (IsLate c)) (to - moved) (drop moved rules) late)

-- rules that are late can be placed, those of a stretch too
pub stretch_can : {X : Type 0} (see : X → RuleForm) (c : Cut) (moved n : ℕ) (rules : List X) → AreLate c moved (map see rules)
    → All (CanPlaceRule c) (map see (take n (drop moved rules)))
stretch_can see c moved n rules late =
    subst (All (CanPlaceRule c)) (sym (map_front see n (drop moved rules) ∙ ap (take n) (map_back see moved rules)))
    (All-weaker (EachPlace (IsLate c)) (CanPlaceRule c) (late_can c) (take n (drop moved (map see rules)))
    (All-take (EachPlace (IsLate c)) n (drop moved (map see rules)) late))

-- ---- a rule as it is, and as it is seen

-- a rule as it is seen: among those that are moved, or moved later
pub late_at : (c : Cut) (moved : ℕ) (rules : List RuleForm) (i : ℕ) (d : RuleForm) → i < length rules
    → ((i < moved) × (slice_get (late_rules c moved rules) i ≡ Some (get_or rules i d)))
    ⊎ ((moved ≤ i) × (slice_get (late_rules c moved rules) i ≡ Some (placed_rule (moved_place c) (get_or rules i d))))
late_at c zero rules i d inside = inr (omega arith, found_is (placed_rule (moved_place c)) rules i d inside)
late_at c (suc moved) [] i d inside = absurd (omega (arith, inside))
late_at c (suc moved) (r ∷ rules) zero d inside = inl (omega arith, refl)
late_at c (suc moved) (r ∷ rules) (suc i) d inside = elim (late_at c moved rules i d (omega (arith, inside))) [
  | inl e ↦ inl (omega (arith, e.0), e.1)
  | inr e ↦ inr (omega (arith, e.0), e.1)
]

pub raw_late : (c : Cut) (moved : ℕ) (rules : List RuleForm) (i : ℕ) (d : RuleForm) → moved ≤ i → i < length rules → AreLate c moved rules
    → EachPlace (IsLate c) (get_or rules i d)
raw_late c moved rules i d past inside late =
    subst (EachPlace (IsLate c)) (get_or-drop moved rules (i - moved) d ∙ ap (λ (k : ℕ). get_or rules k d) (omega (arith, past)))
    (late (i - moved) d (omega (arith, length-drop moved rules, past, inside)))

-- the rule that was found, before the rules up to it are moved
end_is : (o : Option RuleForm) (r : RuleForm) (end : ℕ) → o ≡ Some r → IfSome o (λ x. x.body.end ≡ end) → r.body.end ≡ end
end_is o r end e h = subst (λ (p : Option RuleForm). IfSome p (λ x. x.body.end ≡ end)) e h

pub reached : {X : Type 0} (see : X → RuleForm) (g c : Cut) (own moved to : ℕ) (rules : List X) (d : X) → own < length rules
    → AreLate c moved (map see rules) → CanRebody g own (late_rules c moved (map see rules))
    → ((own < moved) × (to ≡ length rules)) ⊎ ((moved ≤ own) × (to ≡ own + 1))
    → Reached c to own ((see (get_or rules own d)).body.end) (length rules) g.end
reached {X = X} see g c own moved to rules d inside late can goes_to =
    let seen = map see rules in
    let size : own < length seen = omega (arith, length-map rules see, inside) in
    let r = get_or seen own (see d) in
    let at : r ≡ see (get_or rules own d) = get_or-map see rules own d (see d) inside in
    subst (λ (x : RuleForm). Reached c to own x.body.end (length rules) g.end) at
    (by r (late_at c moved seen own (see d) size) (λ past. raw_late c moved seen own (see d) past size late) goes_to)
  where
    by : (r : RuleForm)
        → ((own < moved) × (slice_get (late_rules c moved (map see rules)) own ≡ Some r))
        ⊎ ((moved ≤ own) × (slice_get (late_rules c moved (map see rules)) own ≡ Some (placed_rule (moved_place c) r)))
        → (moved ≤ own → EachPlace (IsLate c) r) → ((own < moved) × (to ≡ length rules)) ⊎ ((moved ≤ own) × (to ≡ own + 1))
        → Reached c to own r.body.end (length rules) g.end
    by r (inl a) lately (inl e) = whole e.1 (end_is (slice_get (late_rules c moved (map see rules)) own) r g.end a.1 can.body)
    by r (inl a) lately (inr e) = absurd (omega (arith, a.0, e.0))
    by r (inr a) lately (inl e) = absurd (omega (arith, a.0, e.0))
    by r (inr a) lately (inr e) = up_to_own (e.1 ∙ sym (suc_is own)) (lately e.0).body.end
        (end_is (slice_get (late_rules c moved (map see rules)) own) (placed_rule (moved_place c) r) g.end a.1 can.body)

-- the head of the rule that gets another body
pub head_late : {X : Type 0} (see : X → RuleForm) (g c : Cut) (own moved to : ℕ) (old mid : List X) (e : X) → own < length old
    → CanRebody g own (late_rules c moved (map see old)) → ((own < moved) × (to ≡ length old)) ⊎ ((moved ≤ own) × (to ≡ own + 1))
    → late_rules c to (map see mid) ≡ late_rules c moved (map see old) → length mid ≡ length old → CanPlaceHead g (see (get_or mid own e))
head_late see g c own moved to old mid e inside can goes_to same size =
    let fit : own < length mid = omega (arith, size, inside) in
    let before : own < to = elim goes_to [ inl a ↦ omega (arith, a.1, inside) | inr a ↦ omega (arith, a.1) ] in
    let at = get_or-map see mid own e (see e) fit in
    elim (late_at c to (map see mid) own (see e) (omega (arith, length-map mid see, fit))) [
      | inl a ↦ subst (CanPlaceHead g) at (head_is (slice_get (late_rules c moved (map see old)) own) (get_or (map see mid) own (see e))
          (ap (λ (rs : List RuleForm). slice_get rs own) (sym same) ∙ a.1) can.head)
      | inr a ↦ absurd (omega (arith, a.0, before))
    ]
  where
    head_is : (o : Option RuleForm) (r : RuleForm) → o ≡ Some r → IfSome o (CanPlaceHead g) → CanPlaceHead g r
    head_is o r is h = subst (λ (p : Option RuleForm). IfSome p (CanPlaceHead g)) is h

-- a rule gets another body: the rules up to it are moved, it is changed, and the others wait
pub rebodied_late : {X : Type 0} (see : X → RuleForm) (g c : Cut) (ps : List Property) (own moved to : ℕ) (old mid : List X) (d e x : X)
    → own < length old → moved ≤ length old → AreLate c moved (map see old) → CanRebody g own (late_rules c moved (map see old))
    → ((own < moved) × (to ≡ length old)) ⊎ ((moved ≤ own) × (to ≡ own + 1))
    → late_rules c to (map see mid) ≡ late_rules c moved (map see old) → AreLate c to (map see mid) → length mid ≡ length old
    → see x ≡ rebodied g ps (see (get_or mid own e))
    → Rebodied g ps own ((see (get_or old own d)).body.end) (map see (set mid own x)) (late_rules c moved (map see old))
rebodied_late see g c ps own moved to old mid d e x inside within late can goes_to same mid_late size is =
    let from = (see (get_or old own d)).body.end in
    let there = reached see g c own moved to old d inside late can goes_to in
    let len = length-map mid see in
    let fit : (own < to) × (to ≤ length (map see mid)) = reach_fits goes_to (omega (arith, len, size)) inside within in
    let n = late_rebodied g c ps to own from (see e) (map see mid) fit.0 fit.1 mid_late
    (subst (CanRebody g own) (sym same) can)
    (subst (λ (m : ℕ). Reached c to own from m g.end) (omega (arith, len, size)) there) in
    let new : map see (set mid own x) ≡ set (map see mid) own (rebodied g ps (get_or (map see mid) own (see e))) =
    map_set see mid own x ∙ ap (set (map see mid) own) (is ∙ ap (rebodied g ps) (sym (get_or-map see mid own e (see e)
    (omega (arith, size, inside))))) in
    subst (λ (rs : List RuleForm). Rebodied g ps own from rs (late_rules c moved (map see old))) (sym new)
    (subst (Rebodied g ps own from (set (map see mid) own (rebodied g ps (get_or (map see mid) own (see e))))) same n)
  where
    reach_fits : {own moved to len n : ℕ} → ((own < moved) × (to ≡ n)) ⊎ ((moved ≤ own) × (to ≡ own + 1)) → len ≡ n → own < n → moved ≤ n
        → (own < to) × (to ≤ len)
    reach_fits (inl e) same inside within = (omega (arith, e.1, inside), omega (arith, e.1, same))
    reach_fits (inr e) same inside within = (omega (arith, e.1), omega (arith, e.1, same, inside))

-- ---- the rule that has a body

-- what the code finds as the body of a rule
pub body_seen : {X : Type 0} (see : X → RuleForm) (c : Cut) (moved : ℕ) (rules : List X) (i : ℕ) (x : X) (b : Range) → i < length rules
    → x ≡ get_or rules i x → (i < moved → b ≡ (see x).body) → (moved ≤ i → b ≡ placed_range (moved_place c) (see x).body)
    → IsSomeAnd (slice_get (late_rules c moved (map see rules)) i) (HasBody b)
body_seen see c moved rules i x b inside is front rest =
    let at : get_or (map see rules) i (see x) ≡ see x = get_or-map see rules i x (see x) inside ∙ ap see (sym is) in
    elim (late_at c moved (map see rules) i (see x) (omega (arith, length-map rules see, inside))) [
      | inl e ↦ there (slice_get (late_rules c moved (map see rules)) i) (see x) (e.1 ∙ ap Some at) (front e.0)
      | inr e ↦ there (slice_get (late_rules c moved (map see rules)) i) (placed_rule (moved_place c) (see x))
          (e.1 ∙ ap (λ (r : RuleForm). Some (placed_rule (moved_place c) r)) at) (rest e.0)
    ]
  where
    there : (o : Option RuleForm) (r : RuleForm) → o ≡ Some r → b ≡ r.body → IsSomeAnd o (HasBody b)
    there o r e same = subst (λ (p : Option RuleForm). IsSomeAnd p (HasBody b)) (sym e) (sym same)

-- one more rule has another body
pub other_more : (body b : Range) (rules : List RuleForm) (i : ℕ) → IsSomeAnd (slice_get rules i) (HasBody b) → (b ≡ body → ⊥)
    → All (HasOther body) (take i rules) → All (HasOther body) (take (i + 1) rules)
other_more body b rules i there other so_far =
    subst (λ (n : ℕ). All (HasOther body) (take n rules)) (suc_is i) (more rules i there so_far)
  where
    more : (rules : List RuleForm) (i : ℕ) → IsSomeAnd (slice_get rules i) (HasBody b) → All (HasOther body) (take i rules)
        → All (HasOther body) (take (suc i) rules)
    more [] i there all = absurd there
    more (r ∷ rules) zero there all = All-cons (HasOther body) r [] (λ e. other (sym there ∙ e)) (All-nil (HasOther body))
    more (r ∷ rules) (suc i) there all = All-cons (HasOther body) r (take (suc i) rules) (All-head (HasOther body) r (take i rules) all)
        (more rules i there (All-tail (HasOther body) r (take i rules) all))

-- as many as there are
pub late_length : (c : Cut) (n : ℕ) (rules : List RuleForm) → length (late_rules c n rules) ≡ length rules
late_length c n rules =
    let whole = ap length (take-append-drop n rules) in
    omega (
      arith,
      length-append (take n rules) (map (placed_rule (moved_place c)) (drop n rules)),
      length-map (drop n rules) (placed_rule (moved_place c)),
      whole,
      length-append (take n rules) (drop n rules),
    )

pub others_all : (body : Range) (c : Cut) (moved n : ℕ) (rules : List RuleForm) → length rules ≤ n
    → All (HasOther body) (take n (late_rules c moved rules)) → All (HasOther body) (late_rules c moved rules)
others_all body c moved n rules over all =
    subst (All (HasOther body)) (take_all n (late_rules c moved rules) (omega (arith, over, late_length c moved rules))) all
