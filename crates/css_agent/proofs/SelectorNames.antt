-- The names of classes that selectors ask for are UTF-8, where the text is that they are read from.
use Rattle.std.proofs.Common.{◌≡◌, ℕ, zero, suc, Bool, true, false, cond, List, [], ◌∷◌, ◌++◌, length, Option, Some, None, refl, sym, ap}
use Rattle.std.proofs.Common.{◌∙◌, subst}
use Rattle.std.specs.Prelude.{IfSome, codes}
use Rattle.std.specs.List.{AllByRecursion}
use Rattle.std.specs.Str.{IsUtf8}
use Rattle.std.proofs.lemmas.Str.{IsUtf8-between}
use Rattle.selectors.specs.declared.words.Word.{Word}
use Rattle.selectors.specs.declared.selector.Joint.{Joint}
use Rattle.selectors.specs.declared.selector.Joint.TheVariants as joints
use Rattle.selectors.specs.declared.selector.NthKind.{NthKind}
use Rattle.selectors.specs.declared.selector.NthKind.TheVariants as nths
use Rattle.selectors.specs.Words.{WordReading, word_reading, is_mark}
use Rattle.selectors.specs.Forms.{TestForm, root, empty, only_child, only_of_type, never, SimpleForm, CompoundForm, compound_form}
use Rattle.selectors.specs.Forms.{SelectorForm, ◌>>=◌}
use Rattle.selectors.specs.Grammar.{IsTest, by_id, by_class, by_exists, by_compare, by_pseudo, by_nth, by_lang, IsArgument, a_tag, a_any}
use Rattle.selectors.specs.Grammar.{a_test, IsCompoundItem, item_test, item_not, item_element, IsFirst, first_tag, first_any, first_item}
use Rattle.selectors.specs.Reading.{word_value, first_child, pseudo_class, lower_of, is_never, is_named, Item, Joined, compound_item_at}
use Rattle.selectors.specs.Reading.{first_part_at, tests_at, ends_compound, compound_of, compound_at, combinator_of, joint_of, joint_at}
use Rattle.selectors.specs.Reading.{joined_at, ends_selector, compounds_at, selector_form, range_of, joined_of, selector_of, segments}
use Rattle.selectors.specs.Reading.{put_first, selector_before, selectors_in, selector_list_of}
use Rattle.selectors.specs.Parts.{with_front, many_in}
use Rattle.selectors.specs.Ranges.{IsRangeOf}
use Rattle.selectors.specs.Weight.{test_of}
use Rattle.selectors.proofs.Choices.{none_some, some_is, bind_some}
use Rattle.selectors.proofs.PartTakes.{item_takes, first_takes}
use Rattle.selectors.proofs.RangeForms.{range_at}
use Rattle.css_agent.specs.ClassNames.{class_in}
use Rattle.css_agent.proofs.UnescapedTexts.{unescaped-utf8}

-- ---- lists

pub all-left : {A : Type 0} (P : A → Type 0) (xs ys : List A) → AllByRecursion P (xs ++ ys) → AllByRecursion P xs
all-left P [] ys all = tt
all-left P (x ∷ xs) ys all = (all.0, all-left P xs ys all.1)

pub all-right : {A : Type 0} (P : A → Type 0) (xs ys : List A) → AllByRecursion P (xs ++ ys) → AllByRecursion P ys
all-right P [] ys all = all
all-right P (x ∷ xs) ys all = all-right P xs ys all.1

pub all-append : {A : Type 0} (P : A → Type 0) (xs ys : List A) → AllByRecursion P xs → AllByRecursion P ys → AllByRecursion P (xs ++ ys)
all-append P [] ys left right = right
all-append P (x ∷ xs) ys left right = (left.0, all-append P xs ys left.1 right)

-- ---- words

-- the word can be cut out of the text
abbrev pub IsCutOut : List ℕ → Word → Type 0
IsCutOut text w = IsRangeOf text (range_at w)

abbrev pub AreCutOut : List ℕ → List Word → Type 0
AreCutOut text ws = AllByRecursion (IsCutOut text) ws

pub value-utf8 : (text : List ℕ) (w : Word) → IsUtf8 text → IsCutOut text w → IsUtf8 (word_value text w)
value-utf8 text w utf8 cut = unescaped-utf8 _ (IsUtf8-between text w.start w.end utf8 cut.order cut.front cut.back)

-- ---- simple selectors

-- the class that a test asks for has a UTF-8 name
abbrev pub TestHasName : TestForm → Type 0
TestHasName t = IfSome (class_in t) IsUtf8

abbrev pub NamesAre : List SimpleForm → Type 0
NamesAre tests = AllByRecursion (λ s. TestHasName (test_of s)) tests

pseudo-named : (name : List ℕ) → IfSome (pseudo_class name) TestHasName
unfolding pseudo_class
pseudo-named name =
    at nths.Child nths.LastChild nths.OfType nths.LastOfType
    (is_named (codes "root") name) (is_named (codes "empty") name) (is_named (codes "first-child") name)
    (is_named (codes "last-child") name) (is_named (codes "only-child") name)
    (is_named (codes "first-of-type") name) (is_named (codes "last-of-type") name) (is_named (codes "only-of-type") name) (is_never name)
  where
    at : (k l m n : NthKind) (a b c d f g h i j : Bool)
        → IfSome (cond a (Some root) (cond b (Some empty)
        (cond c (Some (first_child k)) (cond d (Some (first_child l)) (cond f (Some only_child)
        (cond g (Some (first_child m))
        (cond h (Some (first_child n)) (cond i (Some only_of_type) (cond j (Some never) None))))))))) TestHasName
    at k l m n true b c d f g h i j = tt
    at k l m n false true c d f g h i j = tt
    at k l m n false false true d f g h i j = tt
    at k l m n false false false true f g h i j = tt
    at k l m n false false false false true g h i j = tt
    at k l m n false false false false false true h i j = tt
    at k l m n false false false false false false true i j = tt
    at k l m n false false false false false false false true j = tt
    at k l m n false false false false false false false false true = tt
    at k l m n false false false false false false false false false = tt

test-named : (text : List ℕ) (ws : List Word) (t : TestForm) → IsUtf8 text → AreCutOut text ws → IsTest text ws t → TestHasName t
test-named text _ _ utf8 cut (by_id _ w k) = tt
test-named text _ _ utf8 cut (by_class _ dot name k l m) = value-utf8 text name utf8 cut.1.0
test-named text _ _ utf8 cut (by_exists _ o name c k l m) = tt
test-named text ws _ utf8 cut (by_compare _ o name value c operator _ op operand e k l m n p) = tt
test-named text _ t utf8 cut (by_pseudo _ colon name _ k l m e) = subst (λ o. IfSome o TestHasName) e (pseudo-named (lower_of text name))
test-named text ws _ utf8 cut (by_nth _ colon function c argument _ kind step offset e k l m n p q r) = tt
test-named text _ _ utf8 cut (by_lang _ colon function language c k l m n p q r s) = tt

argument-named : (text : List ℕ) (ws : List Word) (t : TestForm) → IsUtf8 text → AreCutOut text ws → IsArgument text ws t → TestHasName t
argument-named text _ _ utf8 cut (a_tag _ w k) = tt
argument-named text _ _ utf8 cut (a_any _ w k) = tt
argument-named text ws t utf8 cut (a_test _ _ _ h) = test-named text ws t utf8 cut h

item-named : (text : List ℕ) (ws : List Word) (x : Item) → IsUtf8 text → AreCutOut text ws → IsCompoundItem text ws x → NamesAre x.0
item-named text ws _ utf8 cut (item_test _ _ t h) = (test-named text ws t utf8 cut h, tt)
item-named text ws _ utf8 cut (item_not _ colon function c argument _ t e k l m n h p) =
    let all = subst (AreCutOut text) e cut in
    (argument-named text argument t utf8 (all-left (IsCutOut text) argument (c ∷ []) all.1.1) h, tt)
item-named text ws _ utf8 cut (item_element _ _ h) = tt

first-named : (text : List ℕ) (ws : List Word) (x : Item) → IsUtf8 text → AreCutOut text ws → IsFirst text ws x → NamesAre x.0
first-named text _ _ utf8 cut (first_tag _ w k) = (tt, tt)
first-named text _ _ utf8 cut (first_any _ w k) = (tt, tt)
first-named text ws x utf8 cut (first_item _ _ _ h) = item-named text ws x utf8 cut h

-- ---- parts one behind the other

-- what was read, and that what is still to be read can be cut out
record Took {X : Type 0} (P : X → Type 0) (text : List ℕ) (x : List X) (r : WordReading) : Type 0 where
  pub are : AllByRecursion P x
  pub rest : List Word
  pub goes_on : r ≡ word_reading text rest
  pub cut : AreCutOut text rest

-- a reader of parts
abbrev Takes : {X : Type 0} → (X → Type 0) → List ℕ → (WordReading → Option ((List X × Bool) × WordReading)) → Type 0
Takes {X} P text read = (ws : List Word) (x : List X × Bool) (r : WordReading) → AreCutOut text ws
    → read (word_reading text ws) ≡ Some (x, r) → Took P text x.0 r

with-front-some : {X : Type 0} (front : List X) (o : Option ((List X × Bool) × WordReading)) (x : List X × Bool) (r : WordReading)
    → with_front front o ≡ Some (x, r)
    → (z : (List X × Bool) × WordReading) × (o ≡ Some z) × ((front ++ z.0.0, z.0.1) ≡ x) × (z.1 ≡ r)
with-front-some front None x r e = absurd (none_some (x, r) e)
with-front-some {X = X} front (Some z) x r e =
    let same = some_is {A = (List X × Bool) × WordReading} ((front ++ z.0.0, z.0.1), z.1) (x, r) e in
    (z, refl, ap (λ (p : (List X × Bool) × WordReading). p.0) same, ap (λ (p : (List X × Bool) × WordReading). p.1) same)

-- what stands in front, and what follows it
joined-took : {X : Type 0} (P : X → Type 0) (text : List ℕ) (front : List X) (o : Option ((List X × Bool) × WordReading))
    (x : List X × Bool) (r : WordReading) → AllByRecursion P front
    → ((y : List X × Bool) (s : WordReading) → o ≡ Some (y, s) → Took P text y.0 s) → with_front front o ≡ Some (x, r) → Took P text x.0 r
joined-took {X = X} P text front o x r own later e =
    let z = with-front-some front o x r e in
    let more = later z.0.0 z.0.1 z.1 in
    record {
      are = subst (AllByRecursion P) (ap (λ (p : List X × Bool). p.0) z.2) (all-append P front z.0.0.0 own more.are);
      rest = more.rest;
      goes_on = sym z.3 ∙ more.goes_on;
      cut = more.cut;
    }

many-took : {X : Type 0} (P : X → Type 0) (text : List ℕ) (ends : WordReading → Bool)
    (read : WordReading → Option ((List X × Bool) × WordReading)) → Takes P text read
    → (fuel : ℕ) (element : Bool) (ws : List Word) (x : List X × Bool) (r : WordReading) → AreCutOut text ws
    → many_in ends read fuel element (word_reading text ws) ≡ Some (x, r) → Took P text x.0 r
unfolding many_in
many-took P text ends read takes zero element ws x r cut e = absurd (none_some (x, r) e)
many-took {X = X} P text ends read takes (suc n) element ws x r cut e = at (ends (word_reading text ws)) element e
    (λ el vs y s c h. many-took P text ends read takes n el vs y s c h)
  where
    at : (a b : Bool) → cond a (Some (([], element), word_reading text ws))
        (cond b None (read (word_reading text ws) >>= λ y. with_front y.0.0 (many_in ends read n y.0.1 y.1))) ≡ Some (x, r)
        → ((el : Bool) (vs : List Word) (y : List X × Bool) (s : WordReading) → AreCutOut text vs
        → many_in ends read n el (word_reading text vs) ≡ Some (y, s) → Took P text y.0 s) → Took P text x.0 r
    at true b e later =
        let same = some_is {A = (List X × Bool) × WordReading} (([], element), word_reading text ws) (x, r) e in
        record {
          are = subst (AllByRecursion P) (ap (λ (p : (List X × Bool) × WordReading). p.0.0) same) tt;
          rest = ws;
          goes_on = sym (ap (λ (p : (List X × Bool) × WordReading). p.1) same);
          cut = cut;
        }
    at false true e later = absurd (none_some (x, r) e)
    at false false e later =
        let b = bind_some (read (word_reading text ws)) (λ y. with_front y.0.0 (many_in ends read n y.0.1 y.1)) (x, r) e in
        let own = takes ws b.0.0 b.0.1 cut b.1 in
        joined-took P text b.0.0.0 (many_in ends read n b.0.0.1 b.0.1) x r own.are
        (λ y s h. later b.0.0.1 own.rest y s own.cut (ap (many_in ends read n b.0.0.1) (sym own.goes_on) ∙ h)) b.2

-- ---- compounds

abbrev IsNamed : SimpleForm → Type 0
IsNamed s = TestHasName (test_of s)

item-took : (text : List ℕ) → IsUtf8 text → Takes IsNamed text compound_item_at
item-took text utf8 [] x r cut e = absurd (none_some (x, r) e)
item-took text utf8 (w ∷ ws) x r cut e =
    let f = item_takes text w ws x r e in
    let rest_cut = all-right (IsCutOut text) f.front f.rest (subst (AreCutOut text) f.words cut.1) in
    let front_cut = all-left (IsCutOut text) f.front f.rest (subst (AreCutOut text) f.words cut.1) in
    record { are = item-named text (w ∷ f.front) x utf8 (cut.0, front_cut) f.form; rest = f.rest; goes_on = f.goes_on; cut = rest_cut }

first-took : (text : List ℕ) → IsUtf8 text → Takes IsNamed text first_part_at
first-took text utf8 ws x r cut e =
    let f = first_takes text ws x r e in
    let all = subst (AreCutOut text) f.words cut in
    record {
      are = first-named text f.front x utf8 (all-left (IsCutOut text) f.front f.rest all) f.form;
      rest = f.rest;
      goes_on = f.goes_on;
      cut = all-right (IsCutOut text) f.front f.rest all;
    }

-- a compound's classes have UTF-8 names
abbrev pub CompoundNamed : CompoundForm → Type 0
CompoundNamed c = NamesAre c.tests

compound-took : (text : List ℕ) (joint : Joint) → IsUtf8 text → Takes CompoundNamed text (compound_at joint)
unfolding compound_at tests_at
compound-took text joint utf8 ws x r cut e =
    let b = bind_some (first_part_at (word_reading text ws))
    (λ first. compound_of joint (with_front first.0.0 (tests_at first.0.1 first.1))) (x, r) e in
    let own = first-took text utf8 ws b.0.0 b.0.1 cut b.1 in
    at (with_front b.0.0.0 (tests_at b.0.0.1 b.0.1)) b.0.0.0 b.0.0.1 b.0.1 refl b.2 own
  where
    at : (o : Option (Item × WordReading)) (f : List SimpleForm) (element : Bool) (s : WordReading) → with_front f (tests_at element s) ≡ o
        → compound_of joint o ≡ Some (x, r) → Took IsNamed text f s → Took CompoundNamed text x.0 r
    at None f element s made e own = absurd (none_some (x, r) e)
    at (Some z) f element s made e own =
        let took : Took IsNamed text z.0.0 z.1 =
        joined-took IsNamed text f (tests_at element s) z.0 z.1 own.are
        (λ y q h. many-took IsNamed text ends_compound compound_item_at (item-took text utf8)
        (suc (length own.rest)) element own.rest y q own.cut
        (ap (λ (p : WordReading). tests_at element p) (sym own.goes_on) ∙ h)) made in
        let same = some_is {A = Joined × WordReading} ((compound_form joint z.0.0 ∷ [], z.0.1), z.1) (x, r) e in
        record {
          are = subst (AllByRecursion CompoundNamed) (ap (λ (p : Joined × WordReading). p.0.0) same) (took.are, tt);
          rest = took.rest;
          goes_on = sym (ap (λ (p : Joined × WordReading). p.1) same) ∙ took.goes_on;
          cut = took.cut;
        }

-- the reading behind a combinator
joint-rest : (text : List ℕ) (ws : List Word) (joint : Joint) (r : WordReading) → AreCutOut text ws
    → joint_at (word_reading text ws) ≡ Some (joint, r)
    → (rest : List Word) × (r ≡ word_reading text rest) × AreCutOut text rest
unfolding joint_at
joint-rest text [] joint r cut e = absurd (none_some (joint, r) e)
joint-rest text (w ∷ ws) joint r cut e = at (combinator_of w.kind) w.spaced e where
  at : (o : Option Joint) (b : Bool) → joint_of (word_reading text (w ∷ ws)) (word_reading text ws) o b ≡ Some (joint, r)
      → (rest : List Word) × (r ≡ word_reading text rest) × AreCutOut text rest
  at (Some j) b e = let same = some_is {A = Joint × WordReading} (j, word_reading text ws) (joint, r) e in
      (ws, sym (ap (λ (p : Joint × WordReading). p.1) same), cut.1)
  at None true e = let same = some_is {A = Joint × WordReading} (joints.Descendant, word_reading text (w ∷ ws)) (joint, r) e in
      (w ∷ ws, sym (ap (λ (p : Joint × WordReading). p.1) same), cut)
  at None false e = absurd (none_some (joint, r) e)

joined-at-took : (text : List ℕ) → IsUtf8 text → Takes CompoundNamed text joined_at
unfolding joined_at
joined-at-took text utf8 ws x r cut e =
    let b = bind_some (joint_at (word_reading text ws)) (λ j. compound_at j.0 j.1) (x, r) e in
    let j = joint-rest text ws b.0.0 b.0.1 cut b.1 in
    compound-took text b.0.0 utf8 j.0 x r j.2 (ap (compound_at b.0.0) (sym j.1) ∙ b.2)

-- ---- selectors

-- a selector's classes have UTF-8 names
abbrev pub SelectorNamed : SelectorForm → Type 0
SelectorNamed s = AllByRecursion CompoundNamed s.compounds

selector-named : (text : List ℕ) (ws : List Word) (s : SelectorForm) → IsUtf8 text → AreCutOut text ws
    → selector_of (word_reading text ws) ≡ Some s → SelectorNamed s
unfolding selector_of joined_of compounds_at
selector-named text ws s utf8 cut e =
    let a = bind_some (range_of ws) (λ range. joined_of (word_reading text ws) >>= λ whole. Some (selector_form range whole.0)) s e in
    let b = bind_some (joined_of (word_reading text ws)) (λ whole. Some (selector_form a.0 whole.0)) s a.2 in
    let same = some_is {A = SelectorForm} (selector_form a.0 b.0.0) s b.2 in
    let c = bind_some (compound_at joints.Descendant (word_reading text ws))
    (λ first. with_front first.0.0 (compounds_at first.0.1 first.1)) b.0 b.1 in
    let own = compound-took text joints.Descendant utf8 ws c.0.0 c.0.1 cut c.1 in
    let took : Took CompoundNamed text b.0.0.0 b.0.1 =
    joined-took CompoundNamed text c.0.0.0 (compounds_at c.0.0.1 c.0.1) b.0.0 b.0.1 own.are
    (λ y q h. many-took CompoundNamed text ends_selector joined_at (joined-at-took text utf8)
    (suc (length own.rest)) c.0.0.1 own.rest y q own.cut
    (ap (λ (p : WordReading). compounds_at c.0.0.1 p) (sym own.goes_on) ∙ h)) c.2 in
    subst SelectorNamed same took.are

put-cut : (text : List ℕ) (w : Word) (segs : List (List Word)) → IsCutOut text w → AllByRecursion (AreCutOut text) segs
    → AllByRecursion (AreCutOut text) (put_first w segs)
put-cut text w [] own all = ((own, tt), tt)
put-cut text w (s ∷ ss) own all = ((own, all.0), all.1)

segments-cut : (text : List ℕ) (ws : List Word) → AreCutOut text ws → AllByRecursion (AreCutOut text) (segments ws)
unfolding segments
segments-cut text [] cut = (tt, tt)
segments-cut text (w ∷ ws) cut = at (is_mark 44 w.kind) (segments-cut text ws cut.1) where
  at : (b : Bool) → AllByRecursion (AreCutOut text) (segments ws)
      → AllByRecursion (AreCutOut text) (cond b ([] ∷ segments ws) (put_first w (segments ws)))
  at true all = (tt, all)
  at false all = put-cut text w (segments ws) cut.0 all

selectors-named : (text : List ℕ) (segs : List (List Word)) (ss : List SelectorForm) → IsUtf8 text → AllByRecursion (AreCutOut text) segs
    → selectors_in text segs ≡ Some ss → AllByRecursion SelectorNamed ss
unfolding selectors_in
selectors-named text [] ss utf8 cut e = subst (AllByRecursion SelectorNamed) (some_is {A = List SelectorForm} [] ss e) tt
selectors-named text (own ∷ others) ss utf8 cut e =
    let a = bind_some (selector_of (word_reading text own)) (λ s. selector_before s (selectors_in text others)) ss e in
    at a.0 (selector-named text own a.0 utf8 cut.0 a.1) (selectors_in text others) a.2
    (λ tail h. selectors-named text others tail utf8 cut.1 h)
  where
    at : (s : SelectorForm) → SelectorNamed s → (o : Option (List SelectorForm)) → selector_before s o ≡ Some ss
        → ((tail : List SelectorForm) → o ≡ Some tail → AllByRecursion SelectorNamed tail) → AllByRecursion SelectorNamed ss
    at s own None e more = absurd (none_some ss e)
    at s own (Some tail) e more = subst (AllByRecursion SelectorNamed) (some_is {A = List SelectorForm} (s ∷ tail) ss e)
        (own, more tail refl)

-- the classes of a list of selectors have UTF-8 names
pub list-named : (text : List ℕ) (ws : List Word) (ss : List SelectorForm) → IsUtf8 text → AreCutOut text ws
    → selector_list_of (word_reading text ws) ≡ Some ss → AllByRecursion SelectorNamed ss
list-named text ws ss utf8 cut e = selectors-named text (segments ws) ss utf8 (segments-cut text ws cut) e
