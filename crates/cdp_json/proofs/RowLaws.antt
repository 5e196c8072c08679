-- The fields of an object spell and read the same, field by field.
use Rattle.std.proofs.Common.{◌≡◌, ℕ, List, Bool, true, false, ◌&&◌, Option, Some, None, option_map, option_and_then, bytes_eq, Ordering}
use Rattle.std.proofs.Common.{Less, Equal, Greater, is_eq, nat_cmp, refl, sym, ap, ap₂, ◌∙◌, subst}
use Rattle.std.proofs.lemmas.Map.Text.{is_eq-slice_cmp}
use Rattle.std.proofs.lemmas.Slice.Eq.{bytes_eq-Decides}
use Rattle.std.specs.Cmp.Lexicographic.{slice_cmp}
use Rattle.std.specs.Ordering.{is_lt}
use Rattle.std.specs.Prelude.{if◌then◌else◌, is_some, ⊤}
use Rattle.serde_json.specs.Data.{Data, object, Members, no_members, member}
use Rattle.cdp_json.specs.Plain.{starts_after, is_plain, members_are_plain}
use Rattle.node_tree.specs.Labels.{is_before}
use Rattle.cdp_json.specs.Kinds.{Kind, passes, holds_of_some, only_true, any_object}
use Rattle.cdp_json.specs.Rows.{Row, left_with, first_at, after_first, need, some_beside, may_from, may, is_there, may_true, is_done}
use Rattle.cdp_json.specs.Rows.{maybe_member, members_of, unit_if, ends, and_then, both_loose, and_need, and_may, and_true, object_of}
use Rattle.cdp_json.specs.Lawful.{LawfulKind, LawfulRow, is_before_all}
use Rattle.cdp_json.proofs.Options.{both, both_parts, and_then_some, map_some}
use Rattle.cdp_json.proofs.KindLaws.{same_name, any_object_takes, only_true_lawful}

pub ends_lawful : LawfulRow ends
ends_lawful = record { takes = ends_take; again = λ x f. refl; plain = λ x f l. refl; starts = λ k x b. refl } where
  ends_take : (ms : Members) (x : ⊤) → unit_if (is_done ms) ≡ Some x → (no_members ≡ ms) × (ends.fits x ≡ true)
  ends_take no_members x e = (refl, refl)
  ends_take (member k d ms) x e = absurd cc

loose_parts : {A B : Type 0} (f : Option (A → Bool)) (g : Option (B → Bool)) (p : A × B) → passes (both_loose f g) p ≡ true
    → (passes f p.0 ≡ true) × (passes g p.1 ≡ true)
loose_parts None None p l = (refl, refl)
loose_parts None (Some g) p l = (refl, l)
loose_parts (Some f) None p l = (l, refl)
loose_parts (Some f) (Some g) p l = both_parts (f p.0) (g p.1) l

member_plain : (name : List ℕ) (d : Data) (ms : Members) → is_plain d ≡ true → starts_after name ms ≡ true → members_are_plain ms ≡ true
    → members_are_plain (member name d ms) ≡ true
member_plain name d ms p s r = both p (both s r)

-- ---- a field that has to be there

first_at_is : (name k : List ℕ) (d e : Data) (ms : Members) (b : Bool) → bytes_eq name k ≡ b → (if b then Some d else None) ≡ Some e
    → member name e ms ≡ member k d ms
first_at_is name k d e ms true is found = let same : e ≡ d = cc in ap₂ (λ n v. member n v ms) ((bytes_eq-Decides name k).0 is) same
first_at_is name k d e ms false is found = absurd cc

first_at_takes : (name : List ℕ) (ms : Members) (d : Data) → first_at name ms ≡ Some d → member name d (after_first ms) ≡ ms
first_at_takes name no_members d e = absurd cc
first_at_takes name (member k v ms) d e = first_at_is name k v d ms _ refl e

first_at_again : (name : List ℕ) (d : Data) (ms : Members) → first_at name (member name d ms) ≡ Some d
first_at_again name d ms = rw (same_name name)

need_takes : {T : Type 0} (reads : Data → Option T) (name : List ℕ) (ms : Members) (p : T × Members) → need reads name ms ≡ Some p
    → (d : Data) × (member name d p.1 ≡ ms) × (reads d ≡ Some p.0)
need_takes reads name ms p e =
    let q = map_some (left_with (after_first ms)) (option_and_then reads (first_at name ms)) p e in
    let r = and_then_some reads (first_at name ms) q.0 q.1 in
    (r.0, ap (member name r.0) (sym (ap (λ z. z.1) q.2)) ∙ first_at_takes name ms r.0 r.1, r.2 ∙ ap (λ z. Some z.0) q.2)

pub need_again : {T : Type 0} (reads : Data → Option T) (name : List ℕ) (d : Data) (ms : Members) (x : T) → reads d ≡ Some x
    → need reads name (member name d ms) ≡ Some (x, ms)
need_again reads name d ms x e = rw (same_name name) (ap (option_map (left_with ms)) e)

pub and_need_lawful : {A B : Type 0} {k : Kind A} {row : Row B} (name : List ℕ) → LawfulKind k → LawfulRow row
    → is_before_all name row.names ≡ true → LawfulRow (and_need name k row)
and_need_lawful {A} {B} {k} {row} name law later before = record {
  takes = λ ms x e.
      let p = and_then_some (λ q. option_map (λ b. (q.0, b)) (row.gets q.1)) (need k.reads name ms) x e in
      let q = map_some (λ b. (p.0.0, b)) (row.gets p.0.1) x p.2 in
      let found = need_takes k.reads name ms p.0 p.1 in
      let first = law.takes found.0 p.0.0 found.2 in
      let rest = later.takes p.0.1 q.0 q.1 in
      subst (λ (y : A × B). (member name (k.spell y.0) (members_of (row.writes y.1)) ≡ ms) × ((k.fits y.0 && row.fits y.1) ≡ true)) q.2
      (ap₂ (member name) first.0 rest.0 ∙ found.1, both first.1 rest.1);
  again = λ x f.
      let p = both_parts (k.fits x.0) (row.fits x.1) f in
      ap (and_then row.gets) (need_again k.reads name (k.spell x.0) (members_of (row.writes x.1)) x.0 (law.again x.0 p.0))
      ∙ ap (option_map (λ b. (x.0, b))) (later.again x.1 p.1);
  plain = λ x f l.
      let p = both_parts (k.fits x.0) (row.fits x.1) f in
      let q = loose_parts k.loose row.loose x l in
      member_plain name (k.spell x.0) (members_of (row.writes x.1)) (law.plain x.0 p.0 q.0) (later.starts name x.1 before)
      (later.plain x.1 p.1 q.1);
  starts = λ l x b. (both_parts (is_before l name) (is_before_all l row.names) b).0;
}

-- ---- a field that may be absent

-- what was found is spelled again
abbrev IsSpelled : {A : Type 0} → Kind A → List ℕ → Members → Option A × Members → Type 0
IsSpelled k name ms p = (maybe_member name (option_map k.spell p.0) p.1 ≡ ms) × (holds_of_some k.fits p.0 ≡ true)

may_at : {A : Type 0} {k : Kind A} → LawfulKind k → (name : List ℕ) (ms : Members) (p : Option A × Members) (o : Option Data)
    → first_at name ms ≡ o → may_from k.reads ms o ≡ Some p → IsSpelled k name ms p
may_at {A} {k} law name ms p None is e =
    let absent : Option A × Members = (None, ms) in
    let same : absent ≡ p = cc in
    subst (IsSpelled k name ms) same (refl, refl)
may_at {A} {k} law name ms p (Some d) is e =
    let q = map_some (some_beside (after_first ms)) (k.reads d) p e in
    let first = law.takes d q.0 q.1 in
    subst (IsSpelled k name ms) q.2 (ap (λ v. member name v (after_first ms)) first.0 ∙ first_at_takes name ms d is, first.1)

may_takes : {A : Type 0} {k : Kind A} → LawfulKind k → (name : List ℕ) (ms : Members) (p : Option A × Members)
    → may k.reads name ms ≡ Some p → IsSpelled k name ms p
may_takes law name ms p e = may_at law name ms p _ refl e

less_apart : (o : Ordering) → is_lt o ≡ true → is_eq o ≡ false
less_apart Less e = refl
less_apart Equal e = absurd cc
less_apart Greater e = refl

before_apart : (k l : List ℕ) → is_before k l ≡ true → bytes_eq k l ≡ false
before_apart k l e = sym (is_eq-slice_cmp k l) ∙ less_apart (slice_cmp nat_cmp k l) e

first_at_absent : (name : List ℕ) (ms : Members) → starts_after name ms ≡ true → first_at name ms ≡ None
first_at_absent name no_members s = refl
first_at_absent name (member l d ms) s = rw (before_apart name l s)

may_again : {A : Type 0} {k : Kind A} → LawfulKind k → (name : List ℕ) (x : Option A) (ms : Members) → holds_of_some k.fits x ≡ true
    → starts_after name ms ≡ true
    → may k.reads name (maybe_member name (option_map k.spell x) ms) ≡ Some (x, ms)
may_again {A} {k} law name None ms f s = ap (may_from k.reads ms) (first_at_absent name ms s)
may_again {A} {k} law name (Some x) ms f s =
    let all = member name (k.spell x) ms in
    ap (may_from k.reads all) (first_at_again name (k.spell x) ms) ∙ ap (option_map (some_beside ms)) (law.again x f)

may_loose : {A : Type 0} (o : Option (A → Bool)) (x : A) → passes (option_map holds_of_some o) (Some x) ≡ passes o x
may_loose None x = refl
may_loose (Some test) x = refl

maybe_plain : {A : Type 0} {k : Kind A} → LawfulKind k → (name : List ℕ) (x : Option A) (ms : Members) → holds_of_some k.fits x ≡ true
    → passes (option_map holds_of_some k.loose) x ≡ true
    → starts_after name ms ≡ true → members_are_plain ms ≡ true → members_are_plain (maybe_member name (option_map k.spell x) ms) ≡ true
maybe_plain law name None ms f l s r = r
maybe_plain {A} {k} law name (Some x) ms f l s r = member_plain name (k.spell x) ms (law.plain x f (sym (may_loose k.loose x) ∙ l)) s r

maybe_starts : (l name : List ℕ) (o : Option Data) (ms : Members) → is_before l name ≡ true → starts_after l ms ≡ true
    → starts_after l (maybe_member name o ms) ≡ true
maybe_starts l name None ms b s = s
maybe_starts l name (Some d) ms b s = b

pub and_may_lawful : {A B : Type 0} {k : Kind A} {row : Row B} (name : List ℕ) → LawfulKind k → LawfulRow row
    → is_before_all name row.names ≡ true → LawfulRow (and_may name k row)
and_may_lawful {A} {B} {k} {row} name law later before = record {
  takes = λ ms x e.
      let p = and_then_some (λ q. option_map (λ b. (q.0, b)) (row.gets q.1)) (may k.reads name ms) x e in
      let q = map_some (λ b. (p.0.0, b)) (row.gets p.0.1) x p.2 in
      let found = may_takes law name ms p.0 p.1 in
      let rest = later.takes p.0.1 q.0 q.1 in
      subst (λ (y : Option A × B). (maybe_member name (option_map k.spell y.0) (members_of (row.writes y.1)) ≡ ms)
      × ((holds_of_some k.fits y.0 && row.fits y.1) ≡ true)) q.2
      (ap (maybe_member name (option_map k.spell p.0.0)) rest.0 ∙ found.0, both found.1 rest.1);
  again = λ x f.
      let p = both_parts (holds_of_some k.fits x.0) (row.fits x.1) f in
      ap (and_then row.gets) (may_again law name x.0 (members_of (row.writes x.1)) p.0 (later.starts name x.1 before))
      ∙ ap (option_map (λ b. (x.0, b))) (later.again x.1 p.1);
  plain = λ x f l.
      let p = both_parts (holds_of_some k.fits x.0) (row.fits x.1) f in
      let q = loose_parts (option_map holds_of_some k.loose) row.loose x l in
      maybe_plain law name x.0 (members_of (row.writes x.1)) p.0 q.0 (later.starts name x.1 before) (later.plain x.1 p.1 q.1);
  starts = λ l x b.
      let p = both_parts (is_before l name) (is_before_all l row.names) b in
      maybe_starts l name (option_map k.spell x.0) (members_of (row.writes x.1)) p.0 (later.starts l x.1 p.1);
}

-- ---- a field that is true or absent

unit_if-is_some : (o : Option ⊤) → unit_if (is_some o) ≡ o
unit_if-is_some None = refl
unit_if-is_some (Some x) = refl

is_some-unit_if : (b : Bool) → is_some (unit_if b) ≡ b
is_some-unit_if true = refl
is_some-unit_if false = refl

any_true_fits : (o : Option ⊤) → holds_of_some only_true.fits o ≡ true
any_true_fits None = refl
any_true_fits (Some x) = refl

may_true_takes : (name : List ℕ) (ms : Members) (p : Bool × Members) → may_true name ms ≡ Some p
    → maybe_member name (option_map only_true.spell (unit_if p.0)) p.1 ≡ ms
may_true_takes name ms p e =
    let q = map_some is_there (may only_true.reads name ms) p e in
    let found = may_takes only_true_lawful name ms q.0 q.1 in
    subst (λ (r : Bool × Members). maybe_member name (option_map only_true.spell (unit_if r.0)) r.1 ≡ ms) q.2
    (ap (λ o. maybe_member name (option_map only_true.spell o) q.0.1) (unit_if-is_some q.0.0) ∙ found.0)

may_true_again : (name : List ℕ) (b : Bool) (ms : Members) → starts_after name ms ≡ true
    → may_true name (maybe_member name (option_map only_true.spell (unit_if b)) ms) ≡ Some (b, ms)
may_true_again name b ms s =
    ap (option_map is_there) (may_again only_true_lawful name (unit_if b) ms (any_true_fits (unit_if b)) s) ∙ ap (λ c. Some (c, ms))
    (is_some-unit_if b)

passes_none : (o : Option ⊤) → passes (option_map holds_of_some only_true.loose) o ≡ true
passes_none o = refl

pub and_true_lawful : {B : Type 0} {row : Row B} (name : List ℕ) → LawfulRow row → is_before_all name row.names ≡ true
    → LawfulRow (and_true name row)
and_true_lawful {B} {row} name later before = record {
  takes = λ ms x e.
      let p = and_then_some (λ q. option_map (λ b. (q.0, b)) (row.gets q.1)) (may_true name ms) x e in
      let q = map_some (λ b. (p.0.0, b)) (row.gets p.0.1) x p.2 in
      let found = may_true_takes name ms p.0 p.1 in
      let rest = later.takes p.0.1 q.0 q.1 in
      subst (λ (y : Bool × B). (maybe_member name (option_map only_true.spell (unit_if y.0)) (members_of (row.writes y.1)) ≡ ms)
      × (row.fits y.1 ≡ true)) q.2
      (ap (maybe_member name (option_map only_true.spell (unit_if p.0.0))) rest.0 ∙ found, rest.1);
  again = λ x f.
      ap (and_then row.gets) (may_true_again name x.0 (members_of (row.writes x.1)) (later.starts name x.1 before))
      ∙ ap (option_map (λ b. (x.0, b))) (later.again x.1 f);
  plain = λ x f l.
      let q = loose_parts None row.loose x l in
      maybe_plain only_true_lawful name (unit_if x.0) (members_of (row.writes x.1)) (any_true_fits (unit_if x.0))
      (passes_none (unit_if x.0)) (later.starts name x.1 before) (later.plain x.1 f q.1);
  starts = λ l x b.
      let p = both_parts (is_before l name) (is_before_all l row.names) b in
      maybe_starts l name (option_map only_true.spell (unit_if x.0)) (members_of (row.writes x.1)) p.0 (later.starts l x.1 p.1);
}

pub object_lawful : {T : Type 0} {row : Row T} → LawfulRow row → LawfulKind (object_of row)
object_lawful {T} {row} law = record {
  takes = λ d x e.
      let p = and_then_some row.gets (any_object.reads d) x e in
      let whole = any_object_takes d p.0 p.1 in
      let all = law.takes p.0 x p.2 in
      (ap object all.0 ∙ whole.0, all.1);
  again = λ x f. law.again x f;
  plain = λ x f l. law.plain x f l;
}
