-- The class names of a sheet: they ascend, and are those that its selectors ask for.
use Rattle.std.proofs.Common.{◌≡◌, ℕ, Bool, true, false, ◌||◌, List, [], ◌∷◌, bytes_eq, refl, sym, ap, ◌∙◌}
use Rattle.std.specs.Ordering.{nat_cmp, match_ordering, ordering_reverse}
use Rattle.std.specs.declared.cmp.Ordering.{Ordering}
use Rattle.std.specs.declared.cmp.Ordering.TheVariants.{Less, Equal, Greater}
use Rattle.std.specs.Cmp.Lexicographic.{slice_cmp, nat_list_cmp_total}
use Rattle.std.specs.FinMap.{slice_cmp-IsAntisymmetric, nat_cmp-IsAntisymmetric}
use Rattle.sheet_reader.specs.Sheets.{sheet_of}
use Rattle.css_agent.specs.ClassNames.{classes_of_rules, with_name, with_names, class_names, IsBeforeAll, NamesAscend, has_class_name}

-- ---- they ascend

before-later : (name x : List ℕ) (ns : List (List ℕ)) → slice_cmp nat_cmp name x ≡ Less → IsBeforeAll x ns → IsBeforeAll name ns
before-later name x [] less all = tt
before-later name x (n ∷ ns) less all = (nat_list_cmp_total.trans name x n less all.0, before-later name x ns less all.1)

before-put : (x : List ℕ) (ns : List (List ℕ)) (name : List ℕ) → IsBeforeAll x ns → slice_cmp nat_cmp x name ≡ Less
    → IsBeforeAll x (with_name ns name)
before-put x [] name all less = (less, tt)
before-put x (n ∷ ns) name all less = by (slice_cmp nat_cmp name n) (before-put x ns name all.1 less)
  where
    by : (o : Ordering) → IsBeforeAll x (with_name ns name)
        → IsBeforeAll x (match_ordering o (name ∷ n ∷ ns) (n ∷ ns) (n ∷ with_name ns name))
    by Less put = (less, all)
    by Equal put = all
    by Greater put = (all.0, put)

ascend-put : (ns : List (List ℕ)) (name : List ℕ) → NamesAscend ns → NamesAscend (with_name ns name)
ascend-put [] name ascend = (tt, tt)
ascend-put (n ∷ ns) name ascend = by (slice_cmp nat_cmp name n) refl (ascend-put ns name ascend.1)
  where
    by : (o : Ordering) → slice_cmp nat_cmp name n ≡ o → NamesAscend (with_name ns name)
        → NamesAscend (match_ordering o (name ∷ n ∷ ns) (n ∷ ns) (n ∷ with_name ns name))
    by Less e put = ((e, before-later name n ns e ascend.0), ascend)
    by Equal e put = ascend
    by Greater e put = (before-put n ns name ascend.0 (nat_list_cmp_total.antisymm n name ∙ ap ordering_reverse e), put)

ascend-all : (ns more : List (List ℕ)) → NamesAscend ns → NamesAscend (with_names ns more)
ascend-all ns [] ascend = ascend
ascend-all ns (name ∷ more) ascend = ascend-all (with_name ns name) more (ascend-put ns name ascend)

pub names-ascend : (text : List ℕ) → NamesAscend (class_names text)
names-ascend text = ascend-all [] (classes_of_rules (sheet_of text).rules) tt

-- ---- they are those

twice : (a b : Bool) → (a || b) ≡ (a || (a || b))
twice true b = refl
twice false b = refl

swapped : (a b c : Bool) → (a || (b || c)) ≡ (b || (a || c))
swapped true true c = refl
swapped true false c = refl
swapped false b c = refl

or-none : (a : Bool) → a ≡ (a || false)
or-none true = refl
or-none false = refl

or-moved : (a b c : Bool) → ((a || b) || c) ≡ (b || (a || c))
or-moved true true c = refl
or-moved true false c = refl
or-moved false b c = refl

has-put : (ns : List (List ℕ)) (name q : List ℕ) → has_class_name q (with_name ns name) ≡ (bytes_eq q name || has_class_name q ns)
has-put [] name q = refl
has-put (n ∷ ns) name q = by (slice_cmp nat_cmp name n) refl (has-put ns name q)
  where
    by : (o : Ordering) → slice_cmp nat_cmp name n ≡ o → has_class_name q (with_name ns name) ≡ (bytes_eq q name || has_class_name q ns)
        → has_class_name q (match_ordering o (name ∷ n ∷ ns) (n ∷ ns) (n ∷ with_name ns name))
        ≡ (bytes_eq q name || has_class_name q (n ∷ ns))
    by Less e put = refl
    by Equal e put =
        let same : name ≡ n = slice_cmp-IsAntisymmetric nat_cmp-IsAntisymmetric name n e in
        twice (bytes_eq q n) (has_class_name q ns) ∙ ap (λ x. bytes_eq q x || has_class_name q (n ∷ ns)) (sym same)
    by Greater e put = ap (λ b. bytes_eq q n || b) put ∙ swapped (bytes_eq q n) (bytes_eq q name) (has_class_name q ns)

has-all : (ns more : List (List ℕ)) (q : List ℕ) → has_class_name q (with_names ns more) ≡ (has_class_name q ns || has_class_name q more)
has-all ns [] q = or-none (has_class_name q ns)
has-all ns (name ∷ more) q =
    has-all (with_name ns name) more q ∙ ap (λ b. b || has_class_name q more) (has-put ns name q)
    ∙ or-moved (bytes_eq q name) (has_class_name q ns) (has_class_name q more)

pub names-are : (text name : List ℕ) → has_class_name name (class_names text) ≡ has_class_name name (classes_of_rules (sheet_of text).rules)
names-are text name = has-all [] (classes_of_rules (sheet_of text).rules) name
