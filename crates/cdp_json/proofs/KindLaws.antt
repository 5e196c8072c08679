-- Each kind spells and reads the same.
use Rattle.std.proofs.Common.{◌≡◌, ℕ, ◌^◌, ◌<◌, pos, negsuc, List, [], ◌∷◌, map, Bool, true, false, nat_lt, Option, Some, None, option_map}
use Rattle.std.proofs.Common.{option_and_then, bytes_eq, refl, sym, ap, ap₂, ◌∙◌, subst, arith, ltb-true, lt-ltb}
use Rattle.std.proofs.lemmas.Slice.Eq.{bytes_eq-Decides}
use Rattle.std.specs.Prelude.{if◌then◌else◌, ⊤, ℤ}
use Rattle.std.specs.List.{list_all}
use Rattle.serde_json.specs.Data.{unsigned, negative, float, Data, null, boolean, number, string, array, object, Items, no_items, item}
use Rattle.serde_json.specs.Data.{Members}
use Rattle.serde_json.specs.Find.{of_integer}
use Rattle.serde_json.specs.View.{items_of}
use Rattle.cdp_json.specs.Plain.{is_plain, items_are_plain}
use Rattle.cdp_json.specs.Kinds.{Kind, passes, if_holds, is_counted, as_whole, is_signed, as_signed, as_true, whole, signed, text, flag}
use Rattle.cdp_json.specs.Kinds.{only_true, anything, any_items, any_object, refined, through, named, choice, only_text, and_first}
use Rattle.cdp_json.specs.Kinds.{read_items, list_of}
use Rattle.cdp_json.specs.Lawful.{LawfulKind}
use Rattle.cdp_json.specs.Faithful.{FaithfulKind}
use Rattle.cdp_json.proofs.Options.{both, both_parts, if_some, and_then_some, map_some}

-- ---- the kinds that stand alone

lt_within : (n a b : ℕ) → a < b → nat_lt n a ≡ true → nat_lt n b ≡ true
lt_within n a b within h = let below : n < a = ltb-true n a h in lt-ltb n b (omega arith)

counted_fits : (n : ℕ) → is_counted n ≡ true → nat_lt n (2 ^ 64) ≡ true
counted_fits n h = lt_within n (2 ^ 53) (2 ^ 64) (omega arith) h

whole_takes : (d : Data) (x : ℕ) → as_whole d ≡ Some x → (number (unsigned x) ≡ d) × (is_counted x ≡ true)
whole_takes (number (unsigned n)) x e =
    let p = if_some (is_counted n) n x e in
    (ap (λ m. number (unsigned m)) (sym p.1), subst (λ m. is_counted m ≡ true) p.1 p.0)
whole_takes (number (negative z)) x e = absurd cc
whole_takes (number (float f)) x e = absurd cc
whole_takes null x e = absurd cc
whole_takes (boolean b) x e = absurd cc
whole_takes (string s) x e = absurd cc
whole_takes (array ds) x e = absurd cc
whole_takes (object ms) x e = absurd cc

pub whole_lawful : LawfulKind whole
whole_lawful = record { takes = whole_takes; again = λ n f. rw f; plain = λ n f l. counted_fits n f }

signed_takes : (d : Data) (x : ℤ) → as_signed d ≡ Some x → (number (of_integer x) ≡ d) × (is_signed x ≡ true)
signed_takes (number (unsigned n)) x e =
    let p = if_some (is_signed (pos n)) (pos n) x e in
    (ap (λ z. number (of_integer z)) (sym p.1), subst (λ z. is_signed z ≡ true) p.1 p.0)
signed_takes (number (negative (pos n))) x e = absurd cc
signed_takes (number (negative (negsuc n))) x e =
    let p = if_some (is_signed (negsuc n)) (negsuc n) x e in
    (ap (λ z. number (of_integer z)) (sym p.1), subst (λ z. is_signed z ≡ true) p.1 p.0)
signed_takes (number (float f)) x e = absurd cc
signed_takes null x e = absurd cc
signed_takes (boolean b) x e = absurd cc
signed_takes (string s) x e = absurd cc
signed_takes (array ds) x e = absurd cc
signed_takes (object ms) x e = absurd cc

signed_again : (x : ℤ) → is_signed x ≡ true → as_signed (number (of_integer x)) ≡ Some x
signed_again (pos n) f = rw f
signed_again (negsuc n) f = rw f

signed_plain : (x : ℤ) → is_signed x ≡ true → is_plain (number (of_integer x)) ≡ true
signed_plain (pos n) f = lt_within n (2 ^ 63) (2 ^ 64) (omega arith) f
signed_plain (negsuc n) f = f

pub signed_lawful : LawfulKind signed
signed_lawful = record { takes = signed_takes; again = signed_again; plain = λ x f l. signed_plain x f }

text_takes : (d : Data) (x : List ℕ) → text.reads d ≡ Some x → (string x ≡ d) × (text.fits x ≡ true)
text_takes (string s) x e = let same : s ≡ x = cc in (ap string (sym same), refl)
text_takes (number n) x e = absurd cc
text_takes null x e = absurd cc
text_takes (boolean b) x e = absurd cc
text_takes (array ds) x e = absurd cc
text_takes (object ms) x e = absurd cc

pub text_lawful : LawfulKind text
text_lawful = record { takes = text_takes; again = λ x f. refl; plain = λ x f l. refl }

flag_takes : (d : Data) (x : Bool) → flag.reads d ≡ Some x → (boolean x ≡ d) × (flag.fits x ≡ true)
flag_takes (boolean b) x e = let same : b ≡ x = cc in (ap boolean (sym same), refl)
flag_takes (string s) x e = absurd cc
flag_takes (number n) x e = absurd cc
flag_takes null x e = absurd cc
flag_takes (array ds) x e = absurd cc
flag_takes (object ms) x e = absurd cc

pub flag_lawful : LawfulKind flag
flag_lawful = record { takes = flag_takes; again = λ x f. refl; plain = λ x f l. refl }

only_true_takes : (d : Data) (x : ⊤) → as_true d ≡ Some x → (boolean true ≡ d) × (only_true.fits x ≡ true)
only_true_takes (boolean true) x e = (refl, refl)
only_true_takes (boolean false) x e = absurd cc
only_true_takes (string s) x e = absurd cc
only_true_takes (number n) x e = absurd cc
only_true_takes null x e = absurd cc
only_true_takes (array ds) x e = absurd cc
only_true_takes (object ms) x e = absurd cc

pub only_true_lawful : LawfulKind only_true
only_true_lawful = record { takes = only_true_takes; again = λ x f. refl; plain = λ x f l. refl }

anything_takes : (d x : Data) → anything.reads d ≡ Some x → (x ≡ d) × (anything.fits x ≡ true)
anything_takes d x e = (cc, refl)

pub anything_lawful : LawfulKind anything
anything_lawful = record { takes = anything_takes; again = λ x f. refl; plain = λ x f l. l }

any_items_takes : (d : Data) (x : Items) → any_items.reads d ≡ Some x → (array x ≡ d) × (any_items.fits x ≡ true)
any_items_takes (array ds) x e = let same : ds ≡ x = cc in (ap array (sym same), refl)
any_items_takes (boolean b) x e = absurd cc
any_items_takes (string s) x e = absurd cc
any_items_takes (number n) x e = absurd cc
any_items_takes null x e = absurd cc
any_items_takes (object ms) x e = absurd cc

pub any_items_lawful : LawfulKind any_items
any_items_lawful = record { takes = any_items_takes; again = λ x f. refl; plain = λ x f l. l }

pub any_object_takes : (d : Data) (x : Members) → any_object.reads d ≡ Some x → (object x ≡ d) × (any_object.fits x ≡ true)
any_object_takes (object ms) x e = let same : ms ≡ x = cc in (ap object (sym same), refl)
any_object_takes (boolean b) x e = absurd cc
any_object_takes (string s) x e = absurd cc
any_object_takes (number n) x e = absurd cc
any_object_takes null x e = absurd cc
any_object_takes (array ds) x e = absurd cc

-- ---- kinds made of a kind

pub refined_lawful : {T : Type 0} {k : Kind T} (test : T → Bool) → LawfulKind k → LawfulKind (refined k test)
refined_lawful {T} {k} test law = record {
  takes = λ d x e.
      let p = and_then_some (if_holds test) (k.reads d) x e in
      let q = if_some (test p.0) p.0 x p.2 in
      let r = law.takes d x (p.1 ∙ ap Some q.1) in
      (r.0, both r.1 (subst (λ z. test z ≡ true) q.1 q.0));
  again = λ x f.
      let p = both_parts (k.fits x) (test x) f in
      ap (option_and_then (if_holds test)) (law.again x p.0) ∙ ap (λ b. if b then Some x else None) p.1;
  plain = λ x f l. law.plain x (both_parts (k.fits x) (test x) f).0 l;
}

passes-through : {S T : Type 0} (o : Option (S → Bool)) (to : T → S) (x : T)
    → passes (option_map (λ test y. test (to y)) o) x ≡ passes o (to x)
passes-through None to x = refl
passes-through (Some test) to x = refl

-- `from` takes back what `to` gives, and nothing else
pub through_lawful : {S T : Type 0} {k : Kind S} (to : T → S) (from : S → Option T)
    → ((s : S) (x : T) → from s ≡ Some x → to x ≡ s) → ((x : T) → from (to x) ≡ Some x)
    → LawfulKind k → LawfulKind (through k to from)
through_lawful {S} {T} {k} to from only back law = record {
  takes = λ d x e.
      let p = and_then_some from (k.reads d) x e in
      let same : to x ≡ p.0 = only p.0 x p.2 in
      let r = law.takes d p.0 p.1 in
      (ap k.spell same ∙ r.0, ap k.fits same ∙ r.1);
  again = λ x f. ap (option_and_then from) (law.again (to x) f) ∙ back x;
  plain = λ x f l. law.plain (to x) f (sym (passes-through k.loose to x) ∙ l);
}

named_at : {T : Type 0} (name : T → List ℕ) (y : T) (xs : List T) (s : List ℕ) (x : T) (b : Bool) → bytes_eq (name y) s ≡ b
    → (named name xs s ≡ Some x → name x ≡ s) → (if b then Some y else named name xs s) ≡ Some x → name x ≡ s
named_at name y xs s x true is later e = let same : y ≡ x = cc in ap name (sym same) ∙ (bytes_eq-Decides (name y) s).0 is
named_at name y xs s x false is later e = later e

pub named_is : {T : Type 0} (name : T → List ℕ) (xs : List T) (s : List ℕ) (x : T) → named name xs s ≡ Some x → name x ≡ s
named_is name [] s x e = absurd cc
named_is name (y ∷ xs) s x e = named_at name y xs s x _ refl (named_is name xs s x) e

-- each value is the first of its name
pub choice_lawful : {T : Type 0} (name : T → List ℕ) (all : List T) → ((x : T) → named name all (name x) ≡ Some x)
    → LawfulKind (choice name all)
choice_lawful name all first = through_lawful name (named name all) (named_is name all) first text_lawful

apart : (k s : List ℕ) (b : Bool) → bytes_eq k s ≡ b → (s ≡ k → ⊥) → b ≡ false
apart k s true e other = absurd (other (sym ((bytes_eq-Decides k s).0 e)))
apart k s false e other = refl

-- the text is none of these names
abbrev pub IsNoName : {T : Type 0} → (T → List ℕ) → List T → List ℕ → Type 0
IsNoName name [] s = ⊤
IsNoName name (x ∷ xs) s = (s ≡ name x → ⊥) × IsNoName name xs s

-- for the last arm of a `match` on a text
pub named_absent : {T : Type 0} (name : T → List ℕ) (xs : List T) (s : List ℕ) → IsNoName name xs s → named name xs s ≡ None
named_absent name [] s other = refl
named_absent name (x ∷ xs) s other = rw (apart (name x) s _ refl other.0) (named_absent name xs s other.1)

pub same_name : (s : List ℕ) → bytes_eq s s ≡ true
same_name s = (bytes_eq-Decides s s).1 refl

pub only_text_lawful : (s : List ℕ) → LawfulKind (only_text s)
only_text_lawful s = choice_lawful (λ _. s) (tt ∷ []) (λ x. rw (same_name s))

-- ---- lists

items_take : {T : Type 0} {k : Kind T} → LawfulKind k → (ds : Items) (xs : List T) → read_items k.reads ds ≡ Some xs
    → (items_of (map k.spell xs) ≡ ds) × (list_all k.fits xs ≡ true)
items_take {T} {k} law no_items xs e =
    let same : [] ≡ xs = cc in
    subst (λ (ys : List T). (items_of (map k.spell ys) ≡ no_items) × (list_all k.fits ys ≡ true)) same (refl, refl)
items_take {T} {k} law (item d ds) xs e =
    let p = and_then_some (λ x. and_first x (read_items k.reads ds)) (k.reads d) xs e in
    let q = map_some (λ ys. p.0 ∷ ys) (read_items k.reads ds) xs p.2 in
    let first = law.takes d p.0 p.1 in
    let rest = items_take law ds q.0 q.1 in
    subst (λ (ys : List T). (items_of (map k.spell ys) ≡ item d ds) × (list_all k.fits ys ≡ true)) q.2
    (ap₂ item first.0 rest.0, both first.1 rest.1)

items_again : {T : Type 0} (k : Kind T) → ((x : T) → k.fits x ≡ true → k.reads (k.spell x) ≡ Some x) → (xs : List T)
    → list_all k.fits xs ≡ true → read_items k.reads (items_of (map k.spell xs)) ≡ Some xs
items_again k again [] f = refl
items_again k again (x ∷ xs) f =
    let p = both_parts (k.fits x) (list_all k.fits xs) f in
    rw (again x p.0, items_again k again xs p.1)

items_plain : {T : Type 0} (k : Kind T) → ((x : T) → k.fits x ≡ true → passes k.loose x ≡ true → is_plain (k.spell x) ≡ true)
    → (loose : Option (T → Bool)) → k.loose ≡ loose
    → (xs : List T) → list_all k.fits xs ≡ true → passes (option_map list_all loose) xs ≡ true
    → items_are_plain (items_of (map k.spell xs)) ≡ true
items_plain k plain loose is [] f l = refl
items_plain k plain None is (x ∷ xs) f l =
    let p = both_parts (k.fits x) (list_all k.fits xs) f in
    both (plain x p.0 (ap (λ o. passes o x) is)) (items_plain k plain None is xs p.1 refl)
items_plain k plain (Some test) is (x ∷ xs) f l =
    let p = both_parts (k.fits x) (list_all k.fits xs) f in
    let q = both_parts (test x) (list_all test xs) l in
    both (plain x p.0 (ap (λ o. passes o x) is ∙ q.0)) (items_plain k plain (Some test) is xs p.1 q.1)

pub list_lawful : {T : Type 0} {k : Kind T} → LawfulKind k → LawfulKind (list_of k)
list_lawful {T} {k} law = record {
  takes = λ d xs e.
      let p = and_then_some (read_items k.reads) (any_items.reads d) xs e in
      let whole = any_items_takes d p.0 p.1 in
      let all = items_take law p.0 xs p.2 in
      (ap array all.0 ∙ whole.0, all.1);
  again = λ xs f. items_again k law.again xs f;
  plain = λ xs f l. items_plain k law.plain k.loose refl xs f l;
}

-- ---- kinds that read more than they spell

pub faithful : {T : Type 0} {k : Kind T} → LawfulKind k → FaithfulKind k
faithful law = record { fit = λ d x e. (law.takes d x e).1; again = law.again; plain = law.plain }

items_fit : {T : Type 0} (k : Kind T) → ((d : Data) (x : T) → k.reads d ≡ Some x → k.fits x ≡ true) → (ds : Items) (xs : List T)
    → read_items k.reads ds ≡ Some xs → list_all k.fits xs ≡ true
items_fit {T} k fit no_items xs e = let same : [] ≡ xs = cc in subst (λ (ys : List T). list_all k.fits ys ≡ true) same refl
items_fit {T} k fit (item d ds) xs e =
    let p = and_then_some (λ x. and_first x (read_items k.reads ds)) (k.reads d) xs e in
    let q = map_some (λ ys. p.0 ∷ ys) (read_items k.reads ds) xs p.2 in
    subst (λ (ys : List T). list_all k.fits ys ≡ true) q.2 (both (fit d p.0 p.1) (items_fit k fit ds q.0 q.1))

pub list_faithful : {T : Type 0} {k : Kind T} → FaithfulKind k → FaithfulKind (list_of k)
list_faithful {T} {k} law = record {
  fit = λ d xs e.
      let p = and_then_some (read_items k.reads) (any_items.reads d) xs e in
      items_fit k law.fit p.0 xs p.2;
  again = λ xs f. items_again k law.again xs f;
  plain = λ xs f l. items_plain k law.plain k.loose refl xs f l;
}

pub through_faithful : {S T : Type 0} {k : Kind S} (to : T → S) (from : S → Option T)
    → ((s : S) (x : T) → from s ≡ Some x → to x ≡ s) → ((x : T) → from (to x) ≡ Some x)
    → FaithfulKind k → FaithfulKind (through k to from)
through_faithful {S} {T} {k} to from only back law = record {
  fit = λ d x e.
      let p = and_then_some from (k.reads d) x e in
      let same : to x ≡ p.0 = only p.0 x p.2 in
      ap k.fits same ∙ law.fit d p.0 p.1;
  again = λ x f. ap (option_and_then from) (law.again (to x) f) ∙ back x;
  plain = λ x f l. law.plain (to x) f (sym (passes-through k.loose to x) ∙ l);
}
