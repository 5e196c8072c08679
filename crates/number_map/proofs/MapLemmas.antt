-- The map that a row and the entries of a tree come to, and the set of a map's keys: what a change of them comes to.
use Rattle.std.proofs.Common.{◌≡◌, ℕ, suc, ◌==◌, Bool, true, false, cond, not, ◌&&◌, ◌||◌, List, [], ◌∷◌, ◌++◌}
use Rattle.std.proofs.Common.{Option, Some, None, is_some, refl, sym, ap, ◌∙◌, arith}
use Rattle.std.proofs.lemmas.Bool.Decides.{nat_tests}
use Rattle.std.specs.Ordering.{nat_cmp, eq_by_cmp}
use Rattle.std.specs.Cmp.{nat_cmp_total, unsigned_tied}
use Rattle.std.specs.Map.{lookup}
use Rattle.std.specs.Option.{option_or}
use Rattle.std.specs.FinMap as map
use Rattle.std.specs.FinSet as set
use Rattle.number_map.specs.Rows.{row_at, row_pairs}
use Rattle.number_map.proofs.RowLemmas.{none_either, option_or-assoc}

-- ---- entries

find-lookup : (es : List (ℕ × ℕ)) (q : ℕ) → map.find nat_cmp q es ≡ lookup (eq_by_cmp nat_cmp q) es
find-lookup [] q = refl
find-lookup (e ∷ es) q = ap (cond (eq_by_cmp nat_cmp q e.0) (Some e.1)) (find-lookup es q)

get-lookup : (es : List (ℕ × ℕ)) (q : ℕ) → map.get (map.from_entries {R = nat_cmp} es) q ≡ lookup (eq_by_cmp nat_cmp q) es
get-lookup es q = map.get-from_entries nat_cmp_total es q ∙ find-lookup es q

-- ---- a row beside the entries of a tree

seen_first : (v : ℕ) (b : Bool) (x : Option ℕ) → cond b (Some v) x ≡ option_or (cond b (Some v) None) x
seen_first v true x = refl
seen_first v false x = refl

pub lookup-pairs : (first : ℕ) (row : List (Option ℕ)) (es : List (ℕ × ℕ)) (key : ℕ)
    → lookup (eq_by_cmp nat_cmp key) (row_pairs first row ++ es) ≡ option_or (row_at first row key) (lookup (eq_by_cmp nat_cmp key) es)
lookup-pairs first [] es key = refl
lookup-pairs first (None ∷ row) es key =
    lookup-pairs (suc first) row es key
    ∙ ap (λ o. option_or (option_or o (row_at (suc first) row key)) (lookup (eq_by_cmp nat_cmp key) es)) (sym (none_either (key == first)))
lookup-pairs first (Some v ∷ row) es key =
    ap (λ b. cond b (Some v) (lookup (eq_by_cmp nat_cmp key) (row_pairs (suc first) row ++ es))) (unsigned_tied key first)
    ∙ ap (cond (key == first) (Some v)) (lookup-pairs (suc first) row es key)
    ∙ seen_first v (key == first) _
    ∙ sym (option_or-assoc (cond (key == first) (Some v) None) (row_at (suc first) row key) _)

-- the map of a row and of the entries of a tree
abbrev pub both : ℕ → List (Option ℕ) → List (ℕ × ℕ) → map.FinMap nat_cmp ℕ
both first row es = map.from_entries {R = nat_cmp} (row_pairs first row ++ es)

pub get-both : (first : ℕ) (row : List (Option ℕ)) (es : List (ℕ × ℕ)) (key : ℕ)
    → map.get (both first row es) key ≡ option_or (row_at first row key) (lookup (eq_by_cmp nat_cmp key) es)
get-both first row es key = get-lookup (row_pairs first row ++ es) key ∙ lookup-pairs first row es key

-- ---- a map with a key more, and with one less

pub inserted : (new old : map.FinMap nat_cmp ℕ) (key v : ℕ)
    → ((q : ℕ) → map.get new q ≡ cond (q == key) (Some v) (map.get old q)) → new ≡ map.insert old key v
inserted new old key v alike =
    map.same_map nat_cmp_total map.nat_cmp-IsAntisymmetric _ _
    (λ q. alike q ∙ ap (λ b. cond b (Some v) (map.get old q)) (sym (unsigned_tied q key)) ∙ sym (map.get-insert nat_cmp_total old key v q))

pub removed : (new old : map.FinMap nat_cmp ℕ) (key : ℕ)
    → ((q : ℕ) → map.get new q ≡ cond (q == key) None (map.get old q)) → new ≡ map.remove old key
removed new old key alike =
    map.same_map nat_cmp_total map.nat_cmp-IsAntisymmetric _ _
    (λ q. alike q ∙ ap (λ b. cond b None (map.get old q)) (sym (unsigned_tied q key)) ∙ sym (map.get-remove nat_cmp_total old key q))

-- ---- changes

into_row : (v : Option ℕ) (b : Bool) (x rest : Option ℕ) → is_some v ≡ true → option_or (cond b v x) rest ≡ cond b v (option_or x rest)
into_row None b x rest e = cc
into_row (Some n) true x rest e = refl
into_row (Some n) false x rest e = refl

-- put into the row
pub put-row : (f g : ℕ) (old new : List (Option ℕ)) (es : List (ℕ × ℕ)) (key v : ℕ)
    → ((q : ℕ) → row_at g new q ≡ cond (q == key) (Some v) (row_at f old q)) → both g new es ≡ map.insert (both f old es) key v
put-row f g old new es key v alike =
    inserted _ _ key v (λ q. get-both g new es q
    ∙ ap (λ o. option_or o (lookup (eq_by_cmp nat_cmp q) es)) (alike q)
    ∙ into_row (Some v) (q == key) (row_at f old q) _ refl
    ∙ ap (cond (q == key) (Some v)) (sym (get-both f old es q)))

beside : (v : ℕ) (b : Bool) (x rest : Option ℕ) → (b ≡ true → x ≡ None)
    → option_or x (cond b (Some v) rest) ≡ cond b (Some v) (option_or x rest)
beside v true x rest nothing = ap (λ o. option_or o (Some v)) (nothing refl)
beside v false x rest nothing = refl

turned : (a b : ℕ) → (a == b) ≡ (b == a)
turned a b = grind (arith, nat_tests)

-- put into the tree, where the row has nothing under the key
pub put-tree : (f g : ℕ) (old new : List (Option ℕ)) (es fs : List (ℕ × ℕ)) (key v : ℕ)
    → ((q : ℕ) → row_at g new q ≡ row_at f old q) → row_at f old key ≡ None
    → ((q : ℕ) → lookup (eq_by_cmp nat_cmp q) fs ≡ cond (eq_by_cmp nat_cmp key q) (Some v) (lookup (eq_by_cmp nat_cmp q) es))
    → both g new fs ≡ map.insert (both f old es) key v
put-tree f g old new es fs key v same nothing alike =
    inserted _ _ key v (λ q. get-both g new fs q
    ∙ ap (λ o. option_or o (lookup (eq_by_cmp nat_cmp q) fs)) (same q)
    ∙ ap (option_or (row_at f old q)) (alike q)
    ∙ ap (λ b. option_or (row_at f old q) (cond b (Some v) (lookup (eq_by_cmp nat_cmp q) es))) (unsigned_tied key q ∙ turned key q)
    ∙ beside v (q == key) (row_at f old q) _
    (λ is. (let e : q ≡ key = grind (arith, nat_tests) in ap (row_at f old) e ∙ nothing))
    ∙ ap (cond (q == key) (Some v)) (sym (get-both f old es q)))

out_of : (b : Bool) (x rest : Option ℕ) → option_or (cond b None x) (cond b None rest) ≡ cond b None (option_or x rest)
out_of true x rest = refl
out_of false x rest = refl

-- taken out of both
pub take-both : (f g : ℕ) (old new : List (Option ℕ)) (es fs : List (ℕ × ℕ)) (key : ℕ)
    → ((q : ℕ) → row_at g new q ≡ cond (q == key) None (row_at f old q))
    → ((q : ℕ) → lookup (eq_by_cmp nat_cmp q) fs ≡ cond (eq_by_cmp nat_cmp key q) None (lookup (eq_by_cmp nat_cmp q) es))
    → both g new fs ≡ map.remove (both f old es) key
take-both f g old new es fs key same alike =
    removed _ _ key (λ q. get-both g new fs q
    ∙ ap (λ o. option_or o (lookup (eq_by_cmp nat_cmp q) fs)) (same q)
    ∙ ap (option_or (cond (q == key) None (row_at f old q))) (alike q
    ∙ ap (λ b. cond b None (lookup (eq_by_cmp nat_cmp q) es)) (unsigned_tied key q ∙ turned key q))
    ∙ out_of (q == key) (row_at f old q) _
    ∙ ap (cond (q == key) None) (sym (get-both f old es q)))

-- nothing put: another row, in which the same stands under each key, beside the same entries
pub same-both : (f g : ℕ) (old new : List (Option ℕ)) (es fs : List (ℕ × ℕ))
    → ((q : ℕ) → row_at g new q ≡ row_at f old q) → fs ≡ es → both g new fs ≡ both f old es
same-both f g old new es fs same is =
    map.same_map nat_cmp_total map.nat_cmp-IsAntisymmetric _ _
    (λ q. get-both g new fs q
    ∙ ap (λ o. option_or o (lookup (eq_by_cmp nat_cmp q) fs)) (same q)
    ∙ ap (λ xs. option_or (row_at f old q) (lookup (eq_by_cmp nat_cmp q) xs)) is
    ∙ sym (get-both f old es q))

-- a row without numbers beside a tree without entries
pub blank-both : (first : ℕ) (row : List (Option ℕ)) (es : List (ℕ × ℕ)) → ((q : ℕ) → row_at first row q ≡ None) → es ≡ []
    → both first row es ≡ map.empty
blank-both first row es blank none =
    map.same_map nat_cmp_total map.nat_cmp-IsAntisymmetric _ _
    (λ q. get-both first row es q
    ∙ ap (λ o. option_or o (lookup (eq_by_cmp nat_cmp q) es)) (blank q)
    ∙ ap (lookup (eq_by_cmp nat_cmp q)) none
    ∙ sym (map.get-empty nat_cmp q))

-- ---- the keys of a map as a set

or-cond : (b x : Bool) → cond b true x ≡ (b || x)
or-cond true x = refl
or-cond false x = refl

abbrev pub keys_set : map.FinMap nat_cmp ℕ → set.FinSet nat_cmp
keys_set m = set.from_list (map.keys m)

pub keys-contains : (m : map.FinMap nat_cmp ℕ) (q : ℕ) → set.contains (keys_set m) q ≡ is_some (map.get m q)
keys-contains m q = set.contains-from_list nat_cmp_total (map.keys m) q ∙ sym (map.contains_key-keys m q)

some-put : (v : ℕ) (b : Bool) (x : Option ℕ) → is_some (cond b (Some v) x) ≡ cond b true (is_some x)
some-put v true x = refl
some-put v false x = refl

-- the set of the keys of a map that has a key more, and of one that has a key less
pub keys-put : (old : map.FinMap nat_cmp ℕ) (key v : ℕ) → keys_set (map.insert old key v) ≡ set.insert (keys_set old) key
keys-put old key v =
    set.same_set nat_cmp_total set.nat_cmp-IsAntisymmetric _ _
    (λ q. keys-contains (map.insert old key v) q
    ∙ ap is_some (map.get-insert nat_cmp_total old key v q)
    ∙ some-put v (eq_by_cmp nat_cmp q key) (map.get old q)
    ∙ or-cond (eq_by_cmp nat_cmp q key) (is_some (map.get old q))
    ∙ ap (λ b. eq_by_cmp nat_cmp q key || b) (sym (keys-contains old q))
    ∙ sym (set.contains-insert nat_cmp_total (keys_set old) key q))

some-taken : (b : Bool) (x : Option ℕ) → is_some (cond b None x) ≡ (not b && is_some x)
some-taken true x = refl
some-taken false x = refl

pub keys-taken : (old : map.FinMap nat_cmp ℕ) (key : ℕ) → keys_set (map.remove old key) ≡ set.remove (keys_set old) key
keys-taken old key =
    set.same_set nat_cmp_total set.nat_cmp-IsAntisymmetric _ _
    (λ q. keys-contains (map.remove old key) q
    ∙ ap is_some (map.get-remove nat_cmp_total old key q)
    ∙ some-taken (eq_by_cmp nat_cmp q key) (map.get old q)
    ∙ ap (λ b. not (eq_by_cmp nat_cmp q key) && b) (sym (keys-contains old q))
    ∙ sym (set.contains-remove nat_cmp_total (keys_set old) key q))

-- the set of the keys of the map without keys
pub keys-none : (m : map.FinMap nat_cmp ℕ) → m ≡ map.empty → keys_set m ≡ set.empty
keys-none m none =
    set.same_set nat_cmp_total set.nat_cmp-IsAntisymmetric _ _
    (λ q. keys-contains m q
    ∙ ap (λ n. is_some (map.get n q)) none
    ∙ ap is_some (map.get-empty nat_cmp q)
    ∙ sym (set.contains-empty nat_cmp q))
