-- Fields that are looked up say what was put, and no field is in another's way.
use Rattle.std.proofs.Common.{◌≡◌, ℕ, List, true, false, not, ◌&&◌, Option, Some, None, Result, Ok, Err, Ordering, Less, Equal, Greater}
use Rattle.std.proofs.Common.{bytes_eq, nat_cmp, refl, sym, ap, ◌∙◌, subst}
use Rattle.std.proofs.lemmas.Cmp.{nat_list_cmp_total}
use Rattle.std.proofs.lemmas.Slice.Eq.{bytes_eq-Decides}
use Rattle.std.specs.Cmp.Lexicographic.{slice_cmp}
use Rattle.std.specs.Ordering.{match_ordering, ordering_reverse, is_lt}
use Rattle.serde_json.specs.Data.{Data, Members, no_members, member, put}
use Rattle.serde_json.specs.Find.{get_member}
use Rattle.serde_json.proofs.Views.{get_member-put, get_member-put_other}
use Rattle.cdp_json.specs.Plain.{starts_after, is_plain, members_are_plain}
use Rattle.node_tree.specs.Labels.{is_before}
use Rattle.cdp_json.specs.Kinds.{Kind, passes, holds_of_some, any_object}
use Rattle.cdp_json.specs.Fields.{field_from, field_if}
use Rattle.cdp_json.specs.Lookups.{then_ok, optional, required, Lookups, no_lookups, with_later, look_for, may_look_for, ok_value}
use Rattle.cdp_json.specs.Lookups.{object_with, is_none_of}
use Rattle.cdp_json.specs.Faithful.{FaithfulKind, FaithfulLookups}
use Rattle.cdp_json.proofs.Options.{both, both_parts, and_then_some}

-- ---- what is put keeps the order

starts_put_at : (l k m : List ℕ) (d e : Data) (ms rest : Members) (o : Ordering) → is_before l k ≡ true → is_before l m ≡ true
    → starts_after l (match_ordering o (member k d (member m e ms)) (member m d ms) (member m e rest)) ≡ true
starts_put_at l k m d e ms rest Less p q = p
starts_put_at l k m d e ms rest Equal p q = q
starts_put_at l k m d e ms rest Greater p q = q

starts_put : (l k : List ℕ) (d : Data) (ms : Members) → is_before l k ≡ true → starts_after l ms ≡ true → starts_after l (put k d ms) ≡ true
starts_put l k d no_members p q = p
starts_put l k d (member m e ms) p q = starts_put_at l k m d e ms (put k d ms) (slice_cmp nat_cmp k m) p q

put_plain_at : (k l : List ℕ) (d e : Data) (ms : Members) (o : Ordering) → slice_cmp nat_cmp k l ≡ o → is_plain d ≡ true
    → is_plain e ≡ true → starts_after l ms ≡ true → members_are_plain ms ≡ true
    → members_are_plain (put k d ms) ≡ true
    → members_are_plain (match_ordering o (member k d (member l e ms)) (member l d ms) (member l e (put k d ms))) ≡ true
put_plain_at k l d e ms Less is p q s r later = both p (both (ap is_lt is) (both q (both s r)))
put_plain_at k l d e ms Equal is p q s r later = both p (both s r)
put_plain_at k l d e ms Greater is p q s r later =
    let above : slice_cmp nat_cmp l k ≡ Less = nat_list_cmp_total.antisymm l k ∙ ap ordering_reverse is in
    both q (both (starts_put l k d ms (ap is_lt above) s) later)

pub put_plain : (k : List ℕ) (d : Data) (ms : Members) → is_plain d ≡ true → members_are_plain ms ≡ true
    → members_are_plain (put k d ms) ≡ true
put_plain k d no_members p r = both p (both refl refl)
put_plain k d (member l e ms) p r =
    let q = both_parts (is_plain e) _ r in
    let s = both_parts (starts_after l ms) (members_are_plain ms) q.1 in
    put_plain_at k l d e ms (slice_cmp nat_cmp k l) refl p q.0 s.0 s.1 (put_plain k d ms p s.1)

-- ---- one after the other

pub then_ok_some : {A B E : Type 0} (r : Result A E) (f : A → Result B E) (y : B) → then_ok r f ≡ Ok y → (x : A) × (r ≡ Ok x) × (f x ≡ Ok y)
then_ok_some (Ok x) f y e = (x, refl, e)
then_ok_some {A} {B} {E} (Err why) f y e = let no : ◌≡◌ {A = Result B E} (Err why) (Ok y) = e in absurd cc

pub same_ok : {A E : Type 0} (x y : A) → ◌≡◌ {A = Result A E} (Ok x) (Ok y) → x ≡ y
same_ok x y e = cc

pub other_name : (a b : List ℕ) → not (bytes_eq a b) ≡ true → b ≡ a → ⊥
other_name a b e same = let is : bytes_eq a b ≡ true = (bytes_eq-Decides a b).1 (sym same) in let no : false
    ≡ true = sym (ap not is) ∙ e in absurd cc

required_is : {A E : Type 0} (k : Kind A) (e : E) (o : Option Data) (x : A) → required e (field_from k.reads o) ≡ Ok x
    → (d : Data) × (k.reads d ≡ Some x)
required_is {A} {E} k e None x h = let no : ◌≡◌ {A = Result A E} (Err e) (Ok x) = h in absurd cc
required_is {A} {E} k e (Some d) x h = at (k.reads d) refl h where
  at : (o : Option A) → k.reads d ≡ o → required e (field_if o) ≡ Ok x → (d : Data) × (k.reads d ≡ Some x)
  at None is g = let no : ◌≡◌ {A = Result A E} (Err e) (Ok x) = g in absurd cc
  at (Some y) is g = (d, is ∙ ap Some (same_ok y x g))

optional_fits : {A E : Type 0} (k : Kind A) → ((d : Data) (x : A) → k.reads d ≡ Some x → k.fits x ≡ true)
    → (e : E) (o : Option Data) (x : Option A) → optional e (field_from k.reads o) ≡ Ok x → holds_of_some k.fits x ≡ true
optional_fits {A} {E} k fit e None x h = let same : None
    ≡ x = same_ok None x h in subst (λ (y : Option A). holds_of_some k.fits y ≡ true) same refl
optional_fits {A} {E} k fit e (Some d) x h = at (k.reads d) refl h where
  at : (o : Option A) → k.reads d ≡ o → optional e (field_if o) ≡ Ok x → holds_of_some k.fits x ≡ true
  at None is g = let no : ◌≡◌ {A = Result (Option A) E} (Err e) (Ok x) = g in absurd cc
  at (Some y) is g = subst (λ (z : Option A). holds_of_some k.fits z ≡ true) (same_ok (Some y) x g) (fit d y is)

-- ---- the fields

pub no_lookups_faithful : {E : Type 0} → FaithfulLookups (no_lookups {E = E})
no_lookups_faithful = record {
  fit = λ ms x e. refl;
  again = λ x f. refl;
  plain = λ x f. refl;
  skips = λ name d ms n. refl;
  absent = λ name x n. refl;
}

pub look_for_faithful : {E A B : Type 0} {k : Kind A} {later : Lookups E B} (name : List ℕ) (e : E) → k.loose ≡ None → FaithfulKind k
    → FaithfulLookups later → is_none_of name later.names ≡ true
    → FaithfulLookups (look_for name e k later)
look_for_faithful {E} {A} {B} {k} {later} name e tight law laws apart = record {
  fit = λ ms x h.
      let p = then_ok_some (required e (field_from k.reads (get_member name ms))) (with_later later.gets ms) x h in
      let q = then_ok_some (later.gets ms) (λ b. Ok (p.0, b)) x p.2 in
      let r = required_is k e (get_member name ms) p.0 p.1 in
      subst (λ (y : A × B). (k.fits y.0 && later.fits y.1) ≡ true) (same_ok (p.0, q.0) x q.2)
      (both (law.fit r.0 p.0 r.1) (laws.fit ms q.0 q.1));
  again = λ x f.
      let p = both_parts (k.fits x.0) (later.fits x.1) f in
      let ms = put name (k.spell x.0) (later.puts x.1) in
      ap (λ o. then_ok (required e (field_from k.reads o)) (with_later later.gets ms)) (get_member-put name (k.spell x.0) (later.puts x.1))
      ∙ ap (λ o. then_ok (required e (field_if o)) (with_later later.gets ms)) (law.again x.0 p.0)
      ∙ ap (λ r. then_ok r (λ b. Ok (x.0, b))) (laws.skips name (k.spell x.0) (later.puts x.1) apart ∙ laws.again x.1 p.1);
  plain = λ x f.
      let p = both_parts (k.fits x.0) (later.fits x.1) f in
      put_plain name (k.spell x.0) (later.puts x.1) (law.plain x.0 p.0 (ap (λ o. passes o x.0) tight)) (laws.plain x.1 p.1);
  skips = λ other d ms n.
      let p = both_parts (not (bytes_eq other name)) _ n in
      ap (λ o. then_ok (required e (field_from k.reads o)) (with_later later.gets (put other d ms)))
      (get_member-put_other name other d ms (other_name other name p.0))
      ∙ ap (λ r. then_ok (required e (field_from k.reads (get_member name ms))) (λ a. then_ok r (λ b. Ok (a, b))))
      (laws.skips other d ms p.1);
  absent = λ other x n.
      let p = both_parts (not (bytes_eq other name)) _ n in
      get_member-put_other other name (k.spell x.0) (later.puts x.1)
      (λ same. other_name other name p.0 (sym same)) ∙ laws.absent other x.1 p.1;
}

may_again : {E A B : Type 0} (k : Kind A) (later : Lookups E B) (name : List ℕ) (e : E) → FaithfulKind k → FaithfulLookups later
    → is_none_of name later.names ≡ true
    → (x : Option A) (b : B) → holds_of_some k.fits x ≡ true → later.fits b ≡ true
    → (may_look_for name e k later).gets ((may_look_for name e k later).puts (x, b)) ≡ Ok (x, b)
may_again k later name e law laws apart None b f g =
    ap (λ o. then_ok (optional e (field_from k.reads o)) (with_later later.gets (later.puts b))) (laws.absent name b apart)
    ∙ ap (λ r. then_ok r (λ c. Ok (None, c))) (laws.again b g)
may_again k later name e law laws apart (Some a) b f g =
    let ms = put name (k.spell a) (later.puts b) in
    ap (λ o. then_ok (optional e (field_from k.reads o)) (with_later later.gets ms)) (get_member-put name (k.spell a) (later.puts b))
    ∙ ap (λ o. then_ok (optional e (field_if o)) (with_later later.gets ms)) (law.again a f)
    ∙ ap (λ r. then_ok r (λ c. Ok (Some a, c))) (laws.skips name (k.spell a) (later.puts b) apart ∙ laws.again b g)

may_plain : {E A B : Type 0} (k : Kind A) (later : Lookups E B) (name : List ℕ) (e : E) → k.loose ≡ None → FaithfulKind k
    → FaithfulLookups later
    → (x : Option A) (b : B) → holds_of_some k.fits x ≡ true → later.fits b ≡ true
    → members_are_plain ((may_look_for name e k later).puts (x, b)) ≡ true
may_plain k later name e tight law laws None b f g = laws.plain b g
may_plain k later name e tight law laws (Some a) b f g = put_plain name (k.spell a) (later.puts b)
    (law.plain a f (ap (λ o. passes o a) tight)) (laws.plain b g)

may_absent : {E A B : Type 0} (k : Kind A) (later : Lookups E B) (name : List ℕ) (e : E) → FaithfulLookups later
    → (other : List ℕ) (x : Option A) (b : B) → not (bytes_eq other name) ≡ true
    → is_none_of other later.names ≡ true → get_member other ((may_look_for name e k later).puts (x, b)) ≡ None
may_absent k later name e laws other None b n m = laws.absent other b m
may_absent k later name e laws other (Some a) b n m = get_member-put_other other name (k.spell a) (later.puts b)
    (λ same. other_name other name n (sym same)) ∙ laws.absent other b m

pub may_look_for_faithful : {E A B : Type 0} {k : Kind A} {later : Lookups E B} (name : List ℕ) (e : E) → k.loose ≡ None → FaithfulKind k
    → FaithfulLookups later → is_none_of name later.names ≡ true
    → FaithfulLookups (may_look_for name e k later)
may_look_for_faithful {E} {A} {B} {k} {later} name e tight law laws apart = record {
  fit = λ ms x h.
      let p = then_ok_some (optional e (field_from k.reads (get_member name ms))) (with_later later.gets ms) x h in
      let q = then_ok_some (later.gets ms) (λ b. Ok (p.0, b)) x p.2 in
      subst (λ (y : Option A × B). (holds_of_some k.fits y.0 && later.fits y.1) ≡ true) (same_ok (p.0, q.0) x q.2)
      (both (optional_fits k law.fit e (get_member name ms) p.0 p.1) (laws.fit ms q.0 q.1));
  again = λ x f.
      let p = both_parts (holds_of_some k.fits x.0) (later.fits x.1) f in
      may_again k later name e law laws apart x.0 x.1 p.0 p.1;
  plain = λ x f.
      let p = both_parts (holds_of_some k.fits x.0) (later.fits x.1) f in
      may_plain k later name e tight law laws x.0 x.1 p.0 p.1;
  skips = λ other d ms n.
      let p = both_parts (not (bytes_eq other name)) _ n in
      ap (λ o. then_ok (optional e (field_from k.reads o)) (with_later later.gets (put other d ms)))
      (get_member-put_other name other d ms (other_name other name p.0))
      ∙ ap (λ r. then_ok (optional e (field_from k.reads (get_member name ms))) (λ a. then_ok r (λ b. Ok (a, b))))
      (laws.skips other d ms p.1);
  absent = λ other x n.
      let p = both_parts (not (bytes_eq other name)) _ n in
      may_absent k later name e laws other x.0 x.1 p.0 p.1;
}

value_of_some : {A E : Type 0} (r : Result A E) (x : A) → ok_value r ≡ Some x → r ≡ Ok x
value_of_some (Ok y) x e = let same : y ≡ x = cc in ap (λ z. Ok z) same
value_of_some (Err why) x e = absurd cc

pub object_with_faithful : {E T : Type 0} {l : Lookups E T} → FaithfulLookups l → FaithfulKind (object_with l)
object_with_faithful {E} {T} {l} law = record {
  fit = λ d x e.
      let p = and_then_some (λ ms. ok_value (l.gets ms)) (any_object.reads d) x e in
      law.fit p.0 x (value_of_some (l.gets p.0) x p.2);
  again = λ x f. ap ok_value (law.again x f);
  plain = λ x f loose. law.plain x f;
}
