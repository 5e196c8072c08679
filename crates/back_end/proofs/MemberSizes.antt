-- How large a member is that is found among others, and what is read of it.
use Rattle.std.proofs.Common.{◌≡◌, ℕ, suc, ◌+◌, ◌≤◌, List, [], ◌∷◌, length, Option, Some, None, Result, Ok, Err, refl, sym, ap, ◌∙◌, arith}
use Rattle.std.specs.Ordering.{nat_cmp, match_ordering}
use Rattle.std.specs.declared.cmp.Ordering.{Ordering}
use Rattle.std.specs.declared.cmp.Ordering.TheVariants.{Less, Equal, Greater}
use Rattle.std.specs.Cmp.Lexicographic.{slice_cmp}
use Rattle.std.proofs.lemmas.Map.Lookups.{exact_bytes}
use Rattle.serde_json.specs.Data.{Data, null, boolean, number, string, array, object, Items, no_items, item, Members, no_members, member}
use Rattle.serde_json.specs.Find.{get_member, as_object, as_array}
use Rattle.cdp_json.specs.Kinds.{Kind, and_first, read_items}
use Rattle.cdp_json.specs.declared.fields.Field.{Field}
use Rattle.cdp_json.specs.declared.fields.Field.TheVariants.{Is, Missing, WrongKind}
use Rattle.cdp_json.specs.Fields.{field_if, field_from, field_of}
use Rattle.cdp_json.specs.Lookups.{then_ok, required, Lookups, with_later}
use Rattle.cdp_json.proofs.Options.{and_then_some}
use Rattle.cdp_messages.specs.declared.command.Param.{Param}
use Rattle.cdp_messages.specs.declared.command.Why.{Why}
use Rattle.cdp_messages.specs.declared.command.Why.TheVariants.{BadParam}
use Rattle.cdp_messages.specs.Refusals.{param_name}
use Rattle.cdp_messages.specs.Parameters.{needed}
use Rattle.back_end.proofs.FrameSizes.{data_size, items_size, members_size}

-- ---- members

pub data_size-one : (d : Data) → 1 ≤ data_size d
data_size-one null = omega arith
data_size-one (boolean b) = omega arith
data_size-one (number n) = omega arith
data_size-one (string s) = omega arith
data_size-one (array ds) = omega arith
data_size-one (object ms) = omega arith

member_at : (o : Ordering) (e d : Data) (rest : Option Data) (n : ℕ) → (rest ≡ Some d → 2 + data_size d ≤ n)
    → match_ordering o rest (Some e) rest ≡ Some d
    → 2 + data_size d ≤ 2 + (data_size e + n)
member_at Less e d rest n later is = let h = later is in omega arith
member_at Equal e d rest n later is = let same : e ≡ d = cc in let h : data_size e ≡ data_size d = ap data_size same in omega arith
member_at Greater e d rest n later is = let h = later is in omega arith

-- a member that is found is within all of them
pub member-size : (k : List ℕ) (ms : Members) (d : Data) → get_member k ms ≡ Some d → 2 + data_size d ≤ members_size ms
member-size k no_members d e = absurd cc
member-size k (member l e ms) d is = member_at (slice_cmp nat_cmp k l) e d (get_member k ms) (members_size ms) (member-size k ms d) is

-- where two that are found have other names, both are
two_at : (o p : Ordering) (e c d : Data) (more_c more_d : Option Data) (n : ℕ) → ((o ≡ Equal) × (p ≡ Equal) → ⊥)
    → (more_c ≡ Some c → 2 + data_size c ≤ n) → (more_d ≡ Some d → 2 + data_size d ≤ n)
    → (more_c ≡ Some c → more_d ≡ Some d → 6 ≤ n)
    → match_ordering o more_c (Some e) more_c ≡ Some c → match_ordering p more_d (Some e) more_d ≡ Some d → 6 ≤ 2 + (data_size e + n)
two_at Equal Equal e c d more_c more_d n other fc fd both ic id = absurd (other (refl, refl))
two_at Equal Less e c d more_c more_d n other fc fd both ic id = let h = fd id in let a = data_size-one e in let b = data_size-one d in
    omega arith
two_at Equal Greater e c d more_c more_d n other fc fd both ic id = let h = fd id in let a = data_size-one e in let b = data_size-one d in
    omega arith
two_at Less Equal e c d more_c more_d n other fc fd both ic id = let h = fc ic in let a = data_size-one e in let b = data_size-one c in
    omega arith
two_at Less Less e c d more_c more_d n other fc fd both ic id = let h = both ic id in omega arith
two_at Less Greater e c d more_c more_d n other fc fd both ic id = let h = both ic id in omega arith
two_at Greater Equal e c d more_c more_d n other fc fd both ic id = let h = fc ic in let a = data_size-one e in let b = data_size-one c in
    omega arith
two_at Greater Less e c d more_c more_d n other fc fd both ic id = let h = both ic id in omega arith
two_at Greater Greater e c d more_c more_d n other fc fd both ic id = let h = both ic id in omega arith

-- two members of other names have six bytes at least
pub two-members : (k l : List ℕ) (ms : Members) (c d : Data) → (k ≡ l → ⊥) → get_member k ms ≡ Some c → get_member l ms ≡ Some d
    → 6 ≤ members_size ms
two-members k l no_members c d other is_c is_d = absurd cc
two-members k l (member m e ms) c d other is_c is_d =
    two_at (slice_cmp nat_cmp k m) (slice_cmp nat_cmp l m) e c d (get_member k ms) (get_member l ms) (members_size ms)
    (λ both. other (exact_bytes k m both.0 ∙ sym (exact_bytes l m both.1)))
    (member-size k ms c) (member-size l ms d) (two-members k l ms c d other) is_c is_d

-- ---- parameters

-- an array is as large as the list that is read of it at least
first-few : {T : Type 0} (x : T) (rest : Option (List T)) (xs : List T) (n : ℕ) → ((ys : List T) → rest ≡ Some ys → length ys ≤ n)
    → and_first x rest ≡ Some xs → length xs ≤ suc n
first-few x None xs n few is = absurd cc
first-few x (Some ys) xs n few is = let same : x ∷ ys ≡ xs = cc in let h = few ys refl in let e : suc (length ys)
    ≡ length xs = ap length same in omega arith

pub items-few : {T : Type 0} (reads : Data → Option T) (ds : Items) (xs : List T) → read_items reads ds ≡ Some xs
    → length xs ≤ items_size ds
items-few {T} reads no_items xs is = let same : ◌≡◌ {A = List T} [] xs = cc in let e : 0 ≡ length xs = ap length same in omega arith
items-few reads (item d ds) xs is =
    let p = and_then_some (λ x. and_first x (read_items reads ds)) (reads d) xs is in
    let h = first-few p.0 (read_items reads ds) xs (items_size ds) (items-few reads ds) p.2 in
    let one = data_size-one d in
    omega arith

pub array-size : (d : Data) (ds : Items) → as_array d ≡ Some ds → data_size d ≡ 2 + items_size ds
array-size null ds e = absurd cc
array-size (boolean b) ds e = absurd cc
array-size (number n) ds e = absurd cc
array-size (string s) ds e = absurd cc
array-size (array es) ds e = let same : es ≡ ds = cc in ap (λ is. 2 + items_size is) same
array-size (object ms) ds e = absurd cc

pub object-size : (d : Data) (ms : Members) → as_object d ≡ Some ms → data_size d ≡ 2 + members_size ms
object-size null ms e = absurd cc
object-size (boolean b) ms e = absurd cc
object-size (number n) ms e = absurd cc
object-size (string s) ms e = absurd cc
object-size (array ds) ms e = absurd cc
object-size (object ns) ms e = let same : ns ≡ ms = cc in ap (λ os. 2 + members_size os) same

-- what comes of a result that is no refusal
pub then-is : {A B E : Type 0} (r : Result A E) (f : A → Result B E) (y : B) → then_ok r f ≡ Ok y → (x : A) × (r ≡ Ok x) × (f x ≡ Ok y)
then-is (Ok x) f y e = (x, refl, e)
then-is {A} {B} {E} (Err why) f y e = let no : ◌≡◌ {A = Result B E} (Err why) (Ok y) = e in absurd cc

-- a field that is there was read of a member
pub field-is : {T : Type 0} (reads : Data → Option T) (o : Option Data) (x : T) → field_from reads o ≡ Is x
    → (d : Data) × (o ≡ Some d) × (reads d ≡ Some x)
field-is reads None x e = let no : ◌≡◌ {A = Field _} Missing (Is x) = e in absurd cc
field-is reads (Some d) x e = (d, refl, there (reads d) e)
  where
    there : (o : Option _) → field_if o ≡ Is x → o ≡ Some x
    there None e = absurd cc
    there (Some y) e = let same : y ≡ x = cc in ap Some same

pub required-is : {T E : Type 0} (why : E) (f : Field T) (x : T) → required why f ≡ Ok x → f ≡ Is x
required-is {T} {E} why Missing x e = let no : ◌≡◌ {A = Result T E} (Err why) (Ok x) = e in absurd cc
required-is {T} {E} why WrongKind x e = let no : ◌≡◌ {A = Result T E} (Err why) (Ok x) = e in absurd cc
required-is why (Is y) x e = let same : y ≡ x = cc in ap Is same

-- a first parameter that has to be there
pub needs-one : {A B C : Type 0} (p : Param) (k : Kind A) (later : Lookups Why B) (makes : A × B → C) (ms : Members) (c : C)
    → then_ok ((needed p k later).gets ms) (λ x. Ok (makes x)) ≡ Ok c
    → (d : Data) × (x : A × B) × (get_member (param_name p) ms ≡ Some d) × (k.reads d ≡ Some x.0) × (makes x ≡ c)
needs-one {A} {B} {C} p k later makes ms c is =
    let all = then-is ((needed p k later).gets ms) (λ x. Ok (makes x)) c is in
    let first = then-is (required (BadParam p) (field_of k.reads (param_name p) ms)) (with_later later.gets ms) all.0 all.1 in
    let rest = then-is (later.gets ms) (λ b. Ok (first.0, b)) all.0 first.2 in
    let pair : ◌≡◌ {A = A × B} (first.0, rest.0) all.0 = cc in
    let found = field-is k.reads (get_member (param_name p) ms) first.0
    (required-is (BadParam p) (field_of k.reads (param_name p) ms) first.0 first.1) in
    let made : makes all.0 ≡ c = cc in
    (found.0, all.0, found.1, found.2 ∙ ap (λ (x : A × B). Some x.0) pair, made)
