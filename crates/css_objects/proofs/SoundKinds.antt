-- Kinds that are sound, made of kinds that are.
use Rattle.std.proofs.Common.{◌≡◌, ℕ, suc, ◌≤◌, List, [], ◌∷◌, map, Bool, true, false, ◌||◌, Option, Some, None, option_map, refl, sym, ap}
use Rattle.std.proofs.Common.{◌∙◌, arith, max, option_and_then}
use Rattle.std.specs.Prelude.{IfSome, IsUtf8, ⊤}
use Rattle.std.specs.List.{AllByRecursion, list_all}
use Rattle.json.proofs.Printed.Utf8.{are_ascii, IsUtf8-are_ascii}
use Rattle.serde_json.specs.Data.{Data, boolean, Members, member, depth, items_depth, members_depth}
use Rattle.serde_json.specs.View.{items_of}
use Rattle.serde_json.specs.Written.{has_float, items_have_float, members_have_float}
use Rattle.cdp_json.specs.Plain.{HasUtf8, ItemsHaveUtf8, MembersHaveUtf8}
use Rattle.cdp_json.specs.Kinds.{Kind, passes, holds_of_some, whole, text, only_true, refined, list_of}
use Rattle.cdp_json.specs.Rows.{Row, unit_if, maybe_member, members_of, ends, and_need, and_may, and_true, object_of, both_loose}
use Rattle.cdp_json.specs.Lawful.{LawfulKind, LawfulRow, is_before_all}
use Rattle.cdp_json.proofs.KindLaws.{whole_lawful, text_lawful, refined_lawful, through_lawful, list_lawful}
use Rattle.cdp_json.proofs.RowLaws.{ends_lawful, and_need_lawful, and_may_lawful, and_true_lawful, object_lawful}
use Rattle.css_objects.proofs.Options.{both_parts, and_then_some}
use Rattle.css_objects.specs.Made.{by_fields}
use Rattle.css_objects.specs.Laws.{IsSoundKind}

-- ---- kinds

pub sound : {T : Type 0} {k : Kind T} {P : T → Type 0} {n : ℕ} → LawfulKind k → k.loose ≡ None
    → ((x : T) → k.fits x ≡ true → P x → HasUtf8 (k.spell x)) → ((x : T) → depth (k.spell x) ≤ n)
    → ((x : T) → has_float (k.spell x) ≡ false)
    → IsSoundKind k P n
sound {T} {k} law tight utf8 shallow no_float = record {
  lawful = law;
  tight = tight;
  one = λ x y fx fy e. same x y (sym (law.again x fx) ∙ ap k.reads e ∙ law.again y fy);
  utf8 = utf8;
  shallow = shallow;
  no_float = no_float;
} where
  same : (x y : T) → ◌≡◌ {A = Option T} (Some x) (Some y) → x ≡ y
  same x y e = cc

pub whole_sound : IsSoundKind whole (λ _. ⊤) 0
whole_sound = sound whole_lawful refl (λ n f u. tt) (λ n. omega arith) (λ n. refl)

pub text_sound : IsSoundKind text IsUtf8 0
text_sound = sound text_lawful refl (λ s f u. u) (λ s. omega arith) (λ s. refl)

pub refined_sound : {T : Type 0} {k : Kind T} {P : T → Type 0} {n : ℕ} (test : T → Bool) → IsSoundKind k P n
    → IsSoundKind (refined k test) P n
refined_sound {T} {k} test s = sound (refined_lawful test s.lawful) s.tight
    (λ x f u. s.utf8 x (both_parts (k.fits x) (test x) f).0 u) s.shallow s.no_float

pub fields_sound : {S T : Type 0} {k : Kind S} {P : S → Type 0} {n : ℕ} (fields : T → S) (of : S → T) → ((s : S) → fields (of s) ≡ s)
    → ((x : T) → of (fields x) ≡ x) → IsSoundKind k P n
    → IsSoundKind (by_fields k fields of) (λ x. P (fields x)) n
fields_sound {S} {T} {k} fields of there back s =
    sound (through_lawful fields (λ f. Some (of f)) only (λ x. ap Some (back x)) s.lawful)
    (ap (option_map (λ test x. test (fields x))) s.tight) (λ x f u. s.utf8 (fields x) f u) (λ x. s.shallow (fields x))
    (λ x. s.no_float (fields x)) where
      only : (f : S) (x : T) → ◌≡◌ {A = Option T} (Some (of f)) (Some x) → fields x ≡ f
      only f x e = let same : of f ≡ x = cc in ap fields (sym same) ∙ there f

-- the same where only what fits comes back from its fields
pub fitting_sound : {S T : Type 0} {k : Kind S} {P : S → Type 0} {n : ℕ} (fields : T → S) (of : S → T)
    → ((s : S) → k.fits s ≡ true → fields (of s) ≡ s) → ((x : T) → of (fields x) ≡ x) → IsSoundKind k P n
    → IsSoundKind (by_fields k fields of) (λ x. P (fields x)) n
fitting_sound {S} {T} {k} fields of there back s =
    sound lawful (ap (option_map (λ test x. test (fields x))) s.tight) (λ x f u. s.utf8 (fields x) f u) (λ x. s.shallow (fields x))
    (λ x. s.no_float (fields x)) where
      tight : (x : T) → passes k.loose (fields x) ≡ true
      tight x = ap (λ (o : Option (S → Bool)). passes o (fields x)) s.tight

      lawful : LawfulKind (by_fields k fields of)
      lawful = record {
        takes = λ d x e.
            let p = and_then_some (λ f. Some (of f)) (k.reads d) x e in
            let r = s.lawful.takes d p.0 p.1 in
            let from : of p.0 ≡ x = cc in
            let same : fields x ≡ p.0 = ap fields (sym from) ∙ there p.0 r.1 in
            (ap k.spell same ∙ r.0, ap k.fits same ∙ r.1);
        again = λ x f. ap (option_and_then (λ s. Some (of s))) (s.lawful.again (fields x) f) ∙ ap Some (back x);
        plain = λ x f l. s.lawful.plain (fields x) f (tight x);
      }

pub weaker : {T : Type 0} {k : Kind T} {P Q : T → Type 0} {n : ℕ} → ((x : T) → Q x → P x) → IsSoundKind k P n → IsSoundKind k Q n
weaker enough s = sound s.lawful s.tight (λ x f u. s.utf8 x f (enough x u)) s.shallow s.no_float

items_utf8 : {T : Type 0} (k : Kind T) {P : T → Type 0} → ((x : T) → k.fits x ≡ true → P x → HasUtf8 (k.spell x)) → (xs : List T)
    → list_all k.fits xs ≡ true → AllByRecursion P xs → ItemsHaveUtf8 (items_of (map k.spell xs))
items_utf8 k each [] f u = tt
items_utf8 k each (x ∷ xs) f u = let p = both_parts (k.fits x) (list_all k.fits xs) f in (each x p.0 u.0, items_utf8 k each xs p.1 u.1)

items_shallow : {T : Type 0} (k : Kind T) {n : ℕ} → ((x : T) → depth (k.spell x) ≤ n) → (xs : List T)
    → items_depth (items_of (map k.spell xs)) ≤ n
items_shallow k each [] = omega arith
items_shallow {T} k {n} each (x ∷ xs) = larger (depth (k.spell x)) (items_depth (items_of (map k.spell xs))) (each x)
    (items_shallow k each xs) where
      larger : (a b : ℕ) → a ≤ n → b ≤ n → max a b ≤ n
      larger a b p q = omega arith

neither : {a b : Bool} → a ≡ false → b ≡ false → (a || b) ≡ false
neither p q = rw (p, q)

items_whole : {T : Type 0} (k : Kind T) → ((x : T) → has_float (k.spell x) ≡ false) → (xs : List T)
    → items_have_float (items_of (map k.spell xs)) ≡ false
items_whole k each [] = refl
items_whole k each (x ∷ xs) = neither (each x) (items_whole k each xs)

pub list_sound : {T : Type 0} {k : Kind T} {P : T → Type 0} {n : ℕ} → IsSoundKind k P n → IsSoundKind (list_of k) (AllByRecursion P) (suc n)
list_sound {T} {k} {P} {n} s =
    sound (list_lawful s.lawful) (ap (option_map list_all) s.tight) (λ xs f u. items_utf8 k s.utf8 xs f u)
    (λ xs. up (items_depth (items_of (map k.spell xs))) (items_shallow k s.shallow xs))
    (items_whole k s.no_float) where
      up : (d : ℕ) → d ≤ n → suc d ≤ suc n
      up d h = omega arith

-- ---- rows

pub record SoundRow {T : Type 0} (row : Row T) (HasTexts : T → Type 0) (levels : ℕ) : Type 0 where
  pub lawful : LawfulRow row
  pub tight : row.loose ≡ None
  pub utf8 : (x : T) → row.fits x ≡ true → HasTexts x → MembersHaveUtf8 (members_of (row.writes x))
  pub shallow : (x : T) → members_depth (members_of (row.writes x)) ≤ levels
  pub no_float : (x : T) → members_have_float (members_of (row.writes x)) ≡ false

pub no_more : (n : ℕ) → SoundRow ends (λ _. ⊤) n
no_more n = record { lawful = ends_lawful; tight = refl; utf8 = λ x f u. tt; shallow = λ x. omega arith; no_float = λ x. refl }

both_tight : {A B : Type 0} (f : Option (A → Bool)) (g : Option (B → Bool)) → f ≡ None → g ≡ None → both_loose f g ≡ None
both_tight None None p q = refl
both_tight None (Some g) p q = absurd cc
both_tight (Some f) g p q = absurd cc

member_shallow : (n : ℕ) (name : List ℕ) (d : Data) (ms : Members) → depth d ≤ n → members_depth ms ≤ n
    → members_depth (member name d ms) ≤ n
member_shallow n name d ms p q = omega arith

pub needed : {A B : Type 0} {k : Kind A} {row : Row B} {P : A → Type 0} {Q : B → Type 0} {m n : ℕ} (name : List ℕ) → IsSoundKind k P m
    → SoundRow row Q n → is_before_all name row.names ≡ true → are_ascii name ≡ true → m ≤ n
    → SoundRow (and_need name k row) (λ x. P x.0 × Q x.1) n
needed {A} {B} {k} {row} {P} {Q} {m} {n} name s later before plain less = record {
  lawful = and_need_lawful name s.lawful later.lawful before;
  tight = both_tight k.loose row.loose s.tight later.tight;
  utf8 = λ x f u.
      let p = both_parts (k.fits x.0) (row.fits x.1) f in
      (IsUtf8-are_ascii name plain, s.utf8 x.0 p.0 u.0, later.utf8 x.1 p.1 u.1);
  shallow = λ x. member_shallow n name (k.spell x.0) (members_of (row.writes x.1)) (within (depth (k.spell x.0)) (s.shallow x.0))
      (later.shallow x.1);
  no_float = λ x. neither (s.no_float x.0) (later.no_float x.1);
} where
  within : (d : ℕ) → d ≤ m → d ≤ n
  within d h = omega arith

maybe_tight : {A : Type 0} (f : Option (A → Bool)) → f ≡ None → option_map holds_of_some f ≡ None
maybe_tight None e = refl
maybe_tight (Some f) e = absurd cc

maybe_utf8 : {A : Type 0} (k : Kind A) {P : A → Type 0} → ((x : A) → k.fits x ≡ true → P x → HasUtf8 (k.spell x))
    → (name : List ℕ) (o : Option A) (ms : Members) → IsUtf8 name → holds_of_some k.fits o ≡ true → IfSome o P
    → MembersHaveUtf8 ms → MembersHaveUtf8 (maybe_member name (option_map k.spell o) ms)
maybe_utf8 k each name None ms n f u r = r
maybe_utf8 k each name (Some x) ms n f u r = (n, each x f u, r)

maybe_whole : {A : Type 0} (k : Kind A) → ((x : A) → has_float (k.spell x) ≡ false) → (name : List ℕ) (o : Option A) (ms : Members)
    → members_have_float ms ≡ false
    → members_have_float (maybe_member name (option_map k.spell o) ms) ≡ false
maybe_whole k each name None ms r = r
maybe_whole k each name (Some x) ms r = neither (each x) r

maybe_shallow : {A : Type 0} (k : Kind A) {m : ℕ} (n : ℕ) → ((x : A) → depth (k.spell x) ≤ m) → m ≤ n
    → (name : List ℕ) (o : Option A) (ms : Members) → members_depth ms ≤ n
    → members_depth (maybe_member name (option_map k.spell o) ms) ≤ n
maybe_shallow k n each less name None ms r = r
maybe_shallow {A} k {m} n each less name (Some x) ms r = member_shallow n name (k.spell x) ms (within (depth (k.spell x)) (each x)) r where
  within : (d : ℕ) → d ≤ m → d ≤ n
  within d h = omega arith

pub optional : {A B : Type 0} {k : Kind A} {row : Row B} {P : A → Type 0} {Q : B → Type 0} {m n : ℕ} (name : List ℕ) → IsSoundKind k P m
    → SoundRow row Q n → is_before_all name row.names ≡ true → are_ascii name ≡ true → m ≤ n
    → SoundRow (and_may name k row) (λ x. IfSome x.0 P × Q x.1) n
optional {A} {B} {k} {row} {P} {Q} {m} {n} name s later before plain less = record {
  lawful = and_may_lawful name s.lawful later.lawful before;
  tight = both_tight (option_map holds_of_some k.loose) row.loose (maybe_tight k.loose s.tight) later.tight;
  utf8 = λ x f u.
      let p = both_parts (holds_of_some k.fits x.0) (row.fits x.1) f in
      maybe_utf8 k s.utf8 name x.0 (members_of (row.writes x.1)) (IsUtf8-are_ascii name plain) p.0 u.0 (later.utf8 x.1 p.1 u.1);
  shallow = λ x. maybe_shallow k n s.shallow less name x.0 (members_of (row.writes x.1)) (later.shallow x.1);
  no_float = λ x. maybe_whole k s.no_float name x.0 (members_of (row.writes x.1)) (later.no_float x.1);
}

flag_utf8 : (name : List ℕ) (b : Bool) (ms : Members) → IsUtf8 name → MembersHaveUtf8 ms
    → MembersHaveUtf8 (maybe_member name (option_map only_true.spell (unit_if b)) ms)
flag_utf8 name true ms n r = (n, tt, r)
flag_utf8 name false ms n r = r

flag_shallow : (n : ℕ) (name : List ℕ) (b : Bool) (ms : Members) → members_depth ms ≤ n
    → members_depth (maybe_member name (option_map only_true.spell (unit_if b)) ms) ≤ n
flag_shallow n name true ms r = member_shallow n name (boolean true) ms (omega arith) r
flag_shallow n name false ms r = r

flag_whole : (name : List ℕ) (b : Bool) (ms : Members) → members_have_float ms ≡ false
    → members_have_float (maybe_member name (option_map only_true.spell (unit_if b)) ms) ≡ false
flag_whole name true ms r = r
flag_whole name false ms r = r

pub flagged : {B : Type 0} {row : Row B} {Q : B → Type 0} {n : ℕ} (name : List ℕ) → SoundRow row Q n → is_before_all name row.names ≡ true
    → are_ascii name ≡ true → SoundRow (and_true name row) (λ x. Q x.1) n
flagged {B} {row} {Q} {n} name later before plain = record {
  lawful = and_true_lawful name later.lawful before;
  tight = both_tight None row.loose refl later.tight;
  utf8 = λ x f u. flag_utf8 name x.0 (members_of (row.writes x.1)) (IsUtf8-are_ascii name plain) (later.utf8 x.1 f u);
  shallow = λ x. flag_shallow n name x.0 (members_of (row.writes x.1)) (later.shallow x.1);
  no_float = λ x. flag_whole name x.0 (members_of (row.writes x.1)) (later.no_float x.1);
}

pub object_sound : {T : Type 0} {row : Row T} {P : T → Type 0} {n : ℕ} → SoundRow row P n → IsSoundKind (object_of row) P (suc n)
object_sound {T} {row} {P} {n} s = sound (object_lawful s.lawful) s.tight s.utf8
    (λ x. up (members_depth (members_of (row.writes x))) (s.shallow x)) s.no_float where
      up : (d : ℕ) → d ≤ n → suc d ≤ suc n
      up d h = omega arith
