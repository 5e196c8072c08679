-- The kinds of parameters are read as they are written, and so is one of two.
use Rattle.std.proofs.Common.{◌≡◌, ℕ, ◌^◌, ◌<◌, ℤ, pos, negsuc, List, Bool, true, false, ◌||◌, not, cond, nat_lt, Option, Some, None}
use Rattle.std.proofs.Common.{option_and_then, Result, Ok, Err, bytes_eq, refl, sym, ap, subst, arith, ltb-true, lt-ltb}
use Rattle.std.proofs.lemmas.Bool.Decides.{Decides-int_eq}
use Rattle.std.specs.Ordering.{int_eq}
use Rattle.std.specs.Prelude.{int_lt, is_some, ⊤}
use Rattle.serde_json.specs.Data.{Data, number}
use Rattle.serde_json.specs.Find.{of_integer, as_i64, as_number, get_member}
use Rattle.serde_json.proofs.Views.{get_member-put_other}
use Rattle.cdp_json.specs.Plain.{is_plain}
use Rattle.cdp_json.specs.Fields.{field_from}
use Rattle.cdp_json.specs.Kinds.{Kind, named, if_holds, is_depth, as_depth, whole, text}
use Rattle.cdp_json.specs.Lookups.{then_ok, optional, Lookups, no_lookups}
use Rattle.cdp_json.specs.Faithful.{FaithfulKind, FaithfulLookups}
use Rattle.cdp_json.proofs.KindLaws.{whole_lawful, text_lawful, through_faithful, faithful, choice_lawful}
use Rattle.cdp_json.proofs.LookupLaws.{same_ok, other_name, no_lookups_faithful, look_for_faithful, object_with_faithful}
use Rattle.cdp_messages.specs.declared.command.Param.{Param}
use Rattle.cdp_messages.specs.declared.command.Why.{Why}
use Rattle.cdp_messages.specs.declared.command.Why.TheVariants.{BadParam}
use Rattle.cdp_messages.specs.declared.edits.TextEdit.{TextEdit}
use Rattle.css_objects.specs.declared.ranges.SourceRange.{SourceRange}
use Rattle.cdp_messages.specs.Parameters.{depth_number, place_fields, place_parts, place_from, range_parameter, edit_fields, edit_parts}
use Rattle.cdp_messages.specs.Parameters.{edit_from, text_edit, allowed, one_there, one_of}
use Rattle.cdp_messages.specs.Events.{watch}
use Rattle.cdp_messages.specs.Refusals.{param_name}
use Rattle.cdp_json.proofs.Options.{both, both_parts, and_then_some}
use Rattle.cdp_messages.proofs.NewsLaws.{watch_lawful}
use Rattle.cdp_messages.specs.declared.command.WhitespaceWord.{WhitespaceWord}
use Rattle.cdp_messages.specs.declared.command.WhitespaceWord.TheVariants.{Hidden, Shown}
use Rattle.cdp_messages.specs.Whitespace.{whitespace_name, all_whitespace, whitespace}

-- ---- depths

small_depth : (n : ℕ) → is_depth (pos n) ≡ true → n < 2 ^ 53
small_depth n e = ltb-true n (2 ^ 53) (both_parts (int_lt (pos 0) (pos n)) (nat_lt n (2 ^ 53)) e).1

depth_again : (z : ℤ) → is_depth z ≡ true → as_depth (number (of_integer z)) ≡ Some z
depth_again (pos n) e = let small = small_depth n e in let fits : nat_lt n (2 ^ 63) ≡ true = lt-ltb n (2 ^ 63) (omega arith) in rw (fits, e)
depth_again (negsuc n) e = rw e

held : {T : Type 0} (test : T → Bool) (x y : T) (b : Bool) → test x ≡ b → cond b (Some x) None ≡ Some y → test y ≡ true
held test x y true is e = let same : x ≡ y = cc in subst (λ z. test z ≡ true) same is
held test x y false is e = absurd cc

depth_fit : (d : Data) (z : ℤ) → as_depth d ≡ Some z → is_depth z ≡ true
depth_fit d z e =
    let p = and_then_some (if_holds is_depth) (option_and_then as_i64 (as_number d)) z e in
    held is_depth p.0 z (is_depth p.0) refl p.2

only_first : (a b : Bool) → (a || b) ≡ true → b ≡ false → a ≡ true
only_first true b e f = refl
only_first false true e f = absurd cc
only_first false false e f = absurd cc

depth_plain : (z : ℤ) → is_depth z ≡ true → is_plain (number (of_integer z)) ≡ true
depth_plain (pos n) e = let small = small_depth n e in lt-ltb n (2 ^ 64) (omega arith)
depth_plain (negsuc n) e =
    let same : negsuc n ≡ negsuc 0 = (Decides-int_eq (negsuc n) (negsuc 0)).0 (only_first (int_eq (negsuc n) (negsuc 0)) false e refl) in
    subst (λ z. is_plain (number (of_integer z)) ≡ true) (sym same) refl

pub depth_faithful : FaithfulKind depth_number
depth_faithful = record { fit = depth_fit; again = depth_again; plain = λ z f l. depth_plain z f }

-- ---- places, edits and watches

pub nothing_more : {E : Type 0} → FaithfulLookups (no_lookups {E = E})
nothing_more = no_lookups_faithful

pub whole_faithful : FaithfulKind whole
whole_faithful = faithful whole_lawful

pub text_faithful : FaithfulKind text
text_faithful = faithful text_lawful

place_fields_faithful : FaithfulLookups place_fields
place_fields_faithful =
    look_for_faithful _ _ refl whole_faithful
    (look_for_faithful _ _ refl whole_faithful
    (look_for_faithful _ _ refl whole_faithful (look_for_faithful _ _ refl whole_faithful nothing_more refl) refl) refl) refl

place_only : (s : ℕ × (ℕ × (ℕ × (ℕ × ⊤)))) (x : SourceRange) → place_from s ≡ Some x → place_parts x ≡ s
place_only s x e = ap place_parts (same_place _ x e) where
  same_place : (a b : SourceRange) → Some a ≡ Some b → b ≡ a
  same_place a b h = cc

pub place_faithful : FaithfulKind range_parameter
place_faithful = through_faithful place_parts place_from place_only (λ x. refl) (object_with_faithful place_fields_faithful)

edit_fields_faithful : FaithfulLookups edit_fields
edit_fields_faithful = look_for_faithful _ _ refl text_faithful
    (look_for_faithful _ _ refl place_faithful (look_for_faithful _ _ refl text_faithful nothing_more refl) refl) refl

edit_only : (s : List ℕ × (SourceRange × (List ℕ × ⊤))) (x : TextEdit) → edit_from s ≡ Some x → edit_parts x ≡ s
edit_only s x e = ap edit_parts (same_edit _ x e) where
  same_edit : (a b : TextEdit) → Some a ≡ Some b → b ≡ a
  same_edit a b h = cc

pub edit_faithful : FaithfulKind text_edit
edit_faithful = through_faithful edit_parts edit_from edit_only (λ x. refl) (object_with_faithful edit_fields_faithful)

pub watch_faithful : FaithfulKind watch
watch_faithful = faithful watch_lawful

first_whitespace : (w : WhitespaceWord) → named whitespace_name all_whitespace (whitespace_name w) ≡ Some w
first_whitespace Hidden = refl
first_whitespace Shown = refl

pub whitespace_faithful : FaithfulKind whitespace
whitespace_faithful = faithful (choice_lawful whitespace_name all_whitespace first_whitespace)

-- ---- one of two parameters

-- what is read of the two, and of the others
abbrev one_gets : {A B C : Type 0} → Param → Result (Option A) Why → Result (Option B) Why → Result C Why
    → Result (Option A × (Option B × C)) Why
one_gets p ra rb rc = then_ok ra (λ a. then_ok rb (λ b. then_ok (one_there p a b) (λ _. then_ok rc (λ c. Ok (a, (b, c))))))

abbrev both_gets : {A B C : Type 0} → Result (Option A) Why → Result (Option B) Why → Result C Why → Result (Option A × (Option B × C)) Why
both_gets ra rb rc = then_ok ra (λ a. then_ok (then_ok rb (λ b. then_ok rc (λ c. Ok (b, c)))) (λ y. Ok (a, y)))

abbrev one_is : {A B C : Type 0} → Option A × (Option B × C) → Bool
one_is x = is_some x.0 || is_some x.1.0

pub no_ok : {T P : Type 0} (why : Why) (x : T) → ◌≡◌ {A = Result T Why} (Err why) (Ok x) → P
no_ok {T} {P} why x e = let no : ◌≡◌ {A = Result T Why} (Err why) (Ok x) = e in absurd cc

one_down : {A B C : Type 0} (p : Param) (ra : Result (Option A) Why) (rb : Result (Option B) Why) (rc : Result C Why)
    (x : Option A × (Option B × C)) → one_gets p ra rb rc ≡ Ok x → (both_gets ra rb rc ≡ Ok x) × (one_is x ≡ true)
one_down p (Err why) rb rc x e = no_ok why x e
one_down p (Ok a) (Err why) rc x e = no_ok why x e
one_down p (Ok None) (Ok None) rc x e = no_ok (BadParam p) x e
one_down p (Ok None) (Ok (Some b)) (Err why) x e = no_ok why x e
one_down p (Ok (Some a)) (Ok b) (Err why) x e = no_ok why x e
one_down {A} {B} {C} p (Ok None) (Ok (Some b)) (Ok c) x e =
    (e, subst (λ (y : Option A × (Option B × C)). one_is y ≡ true) (same_ok (None, (Some b, c)) x e) refl)
one_down {A} {B} {C} p (Ok (Some a)) (Ok b) (Ok c) x e =
    (e, subst (λ (y : Option A × (Option B × C)). one_is y ≡ true) (same_ok (Some a, (b, c)) x e) refl)

one_up : {A B C : Type 0} (p : Param) (ra : Result (Option A) Why) (rb : Result (Option B) Why) (rc : Result C Why)
    (x : Option A × (Option B × C)) → both_gets ra rb rc ≡ Ok x → one_is x ≡ true → one_gets p ra rb rc ≡ Ok x
one_up p (Err why) rb rc x e t = no_ok why x e
one_up p (Ok a) (Err why) rc x e t = no_ok why x e
one_up p (Ok a) (Ok b) (Err why) x e t = no_ok why x e
one_up {A} {B} {C} p (Ok None) (Ok None) (Ok c) x e t =
    let no : false ≡ true = subst (λ (y : Option A × (Option B × C)). one_is y ≡ true) (sym (same_ok (None, (None, c)) x e)) t in absurd cc
one_up p (Ok None) (Ok (Some b)) (Ok c) x e t = e
one_up p (Ok (Some a)) (Ok b) (Ok c) x e t = e

pub one_of_faithful : {A B C : Type 0} {later : Lookups Why C} (p : Param) (k : Kind A) (q : Param) (l : Kind B)
    → FaithfulLookups (allowed p k (allowed q l later)) → FaithfulLookups later → FaithfulLookups (one_of p k q l later)
one_of_faithful {A} {B} {C} {later} p k q l law laws = record {
  fit = λ ms x e.
      let r = one_down p (optional (BadParam p) (field_from k.reads (get_member (param_name p) ms)))
      (optional (BadParam q) (field_from l.reads (get_member (param_name q) ms))) (later.gets ms) x e in
      both r.1 (law.fit ms x r.0);
  again = λ x f.
      let t = both_parts (one_is x) _ f in
      let ms = (allowed p k (allowed q l later)).puts x in
      one_up p (optional (BadParam p) (field_from k.reads (get_member (param_name p) ms)))
      (optional (BadParam q) (field_from l.reads (get_member (param_name q) ms))) (later.gets ms) x (law.again x t.1) t.0;
  plain = λ x f. law.plain x (both_parts (one_is x) _ f).1;
  skips = λ other d ms n.
      let n1 = both_parts (not (bytes_eq other (param_name p))) _ n in
      let n2 = both_parts (not (bytes_eq other (param_name q))) _ n1.1 in
      let ga = get_member-put_other (param_name p) other d ms (other_name other (param_name p) n1.0) in
      let gb = get_member-put_other (param_name q) other d ms (other_name other (param_name q) n2.0) in
      let gc = laws.skips other d ms n2.1 in
      λ i. one_gets p (optional (BadParam p) (field_from k.reads (ga i))) (optional (BadParam q) (field_from l.reads (gb i))) (gc i);
  absent = λ other x n. law.absent other x n;
}
