-- Members that go in with ascending names stand in that order.
use Rattle.std.proofs.Common.{◌≡◌, ℕ, List, [], ◌∷◌, ◌++◌, map, Bool, true, ◌&&◌, Option, Some, None, Ordering, Less, Equal, Greater}
use Rattle.std.proofs.Common.{nat_cmp, refl, ap, ◌∙◌}
use Rattle.std.proofs.lemmas.Cmp.{nat_list_cmp_total}
use Rattle.std.specs.Cmp.Lexicographic.{slice_cmp}
use Rattle.std.specs.Ordering.{is_lt, ordering_reverse}
use Rattle.serde_json.specs.Data.{Data, Members, no_members, member, put}
use Rattle.node_tree.specs.Labels.{is_before}
use Rattle.cdp_json.specs.Rows.{maybe_member, Written, members_of}
use Rattle.cdp_json.specs.Lawful.{is_before_all}
use Rattle.cdp_json.specs.Writes.{names_ascend, put_some, put_all}
use Rattle.cdp_json.proofs.Options.{both, both_parts}

-- the members of both, one after another
abbrev pub joined : Members → Members → Members
joined no_members ns = ns
joined (member k d ms) ns = member k d (joined ms ns)

pub joined-assoc : (ms ns os : Members) → joined (joined ms ns) os ≡ joined ms (joined ns os)
joined-assoc no_members ns os = refl
joined-assoc (member k d ms) ns os = ap (member k d) (joined-assoc ms ns os)

is_less : (o : Ordering) → is_lt o ≡ true → o ≡ Less
is_less Less e = refl
is_less Equal e = absurd cc
is_less Greater e = absurd cc

before_less : (k l : List ℕ) → is_before k l ≡ true → slice_cmp nat_cmp k l ≡ Less
before_less k l e = is_less (slice_cmp nat_cmp k l) e

pub before_through : (k l m : List ℕ) → is_before k l ≡ true → is_before l m ≡ true → is_before k m ≡ true
before_through k l m p q = ap is_lt (nat_list_cmp_total.trans k l m (before_less k l p) (before_less l m q))

-- each name comes before k
abbrev pub all_before : Members → List ℕ → Bool
all_before no_members k = true
all_before (member l d ms) k = is_before l k && all_before ms k

pub put_last : (k : List ℕ) (d : Data) (ms : Members) → all_before ms k ≡ true → put k d ms ≡ joined ms (member k d no_members)
put_last k d no_members h = refl
put_last k d (member l e ms) h =
    let p = both_parts (is_before l k) (all_before ms k) h in
    let above : slice_cmp nat_cmp k l ≡ Greater = nat_list_cmp_total.antisymm k l ∙ ap ordering_reverse (before_less l k p.0) in
    rw above (ap (member l e) (put_last k d ms p.1))

-- ---- fields that are written one after another

-- each name comes before all of these
abbrev before_names : Members → List (List ℕ) → Bool
before_names no_members ks = true
before_names (member l d ms) ks = is_before_all l ks && before_names ms ks

names_head : (ms : Members) (k : List ℕ) (ks : List (List ℕ)) → before_names ms (k ∷ ks) ≡ true → all_before ms k ≡ true
names_head no_members k ks h = refl
names_head (member l d ms) k ks h =
    let p = both_parts (is_before_all l (k ∷ ks)) (before_names ms (k ∷ ks)) h in
    both (both_parts (is_before l k) (is_before_all l ks) p.0).0 (names_head ms k ks p.1)

names_tail : (ms : Members) (k : List ℕ) (ks : List (List ℕ)) → before_names ms (k ∷ ks) ≡ true → before_names ms ks ≡ true
names_tail no_members k ks h = refl
names_tail (member l d ms) k ks h =
    let p = both_parts (is_before_all l (k ∷ ks)) (before_names ms (k ∷ ks)) h in
    both (both_parts (is_before l k) (is_before_all l ks) p.0).1 (names_tail ms k ks p.1)

before_names-joined : (ms ns : Members) (ks : List (List ℕ)) → before_names ms ks ≡ true → before_names ns ks ≡ true
    → before_names (joined ms ns) ks ≡ true
before_names-joined no_members ns ks p q = q
before_names-joined (member l d ms) ns ks p q =
    let r = both_parts (is_before_all l ks) (before_names ms ks) p in
    both r.0 (before_names-joined ms ns ks r.1 q)

abbrev names_of : List Written → List (List ℕ)
names_of fs = map (λ g. g.0) fs

pub joined_none : (ms : Members) → ms ≡ joined ms no_members
joined_none no_members = refl
joined_none (member k d ms) = ap (member k d) (joined_none ms)

-- what is to be shown of the fields fs, after the members that stand already
abbrev GoInOrder : List Written → Type 0
GoInOrder fs = (done : Members) → names_ascend fs ≡ true → before_names done (names_of fs) ≡ true
    → put_all fs done ≡ joined done (members_of fs)

put_one : (k : List ℕ) (o : Option Data) (fs : List Written) → GoInOrder fs → (done : Members)
    → (is_before_all k (names_of fs) && names_ascend fs) ≡ true → before_names done (k ∷ names_of fs) ≡ true
    → put_all fs (put_some k o done) ≡ joined done (maybe_member k o (members_of fs))
put_one k None fs rest done a b = rest done (both_parts (is_before_all k (names_of fs)) (names_ascend fs) a).1
    (names_tail done k (names_of fs) b)
put_one k (Some d) fs rest done a b =
    let p = both_parts (is_before_all k (names_of fs)) (names_ascend fs) a in
    let longer = joined done (member k d no_members) in
    let before = before_names-joined done (member k d no_members) (names_of fs) (names_tail done k (names_of fs) b) (both p.0 refl) in
    ap (put_all fs) (put_last k d done (names_head done k (names_of fs) b)) ∙ rest longer p.1 before ∙ joined-assoc done
    (member k d no_members) (members_of fs)

put_all-joined : (fs : List Written) → GoInOrder fs
put_all-joined [] done a b = joined_none done
put_all-joined (f ∷ fs) done a b = put_one f.0 f.1 fs (put_all-joined fs) done a b

pub put_all-members_of : (fs : List Written) → names_ascend fs ≡ true → put_all fs no_members ≡ members_of fs
put_all-members_of fs a = put_all-joined fs no_members a refl

pub put_all-append : (fs : List Written) (f : Written) (ms : Members) → put_all (fs ++ f ∷ []) ms ≡ put_some f.0 f.1 (put_all fs ms)
put_all-append [] f ms = refl
put_all-append (g ∷ fs) f ms = put_all-append fs f (put_some g.0 g.1 ms)
