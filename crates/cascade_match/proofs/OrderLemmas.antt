-- The matched rules ascend by their keys.
use Rattle.std.proofs.Common.{◌≡◌, List, [], ◌∷◌, map, refl, ap, ◌∙◌}
use Rattle.std.specs.declared.cmp.Ordering.{Ordering}
use Rattle.std.specs.declared.cmp.Ordering.TheVariants.{Less, Equal, Greater}
use Rattle.std.specs.Ordering.{match_ordering, ordering_reverse}
use Rattle.std.specs.Cmp.{IsTotalOrder}
use Rattle.std.proofs.lemmas.Cmp.{then_total, on_total, nat_cmp_total}
use Rattle.std.specs.List.{AllByRecursion}
use Rattle.std.specs.List.Sorted.{IsStrictlySortedBy}
use Rattle.std.specs.Map.{keys_of}
use Rattle.std.specs.BTreeMap.{insert_entry}
use Rattle.page_tree.specs.Zippers.{Zipper}
use Rattle.sheet_reader.specs.declared.book.SheetEntry.{SheetEntry}
use Rattle.media_rules.specs.declared.medium.Medium.{Medium}
use Rattle.cascade_match.specs.declared.keys.Key.{Key}
use Rattle.cascade_match.specs.declared.hits.Hit.{Hit}
use Rattle.cascade_match.specs.Precedence.{key_cmp}
use Rattle.cascade_match.specs.Matched.{all_entered, entries_of_sheets, matched_entries}

key_total : IsTotalOrder key_cmp
key_total =
    then_total (on_total (λ (k : Key). k.origin) nat_cmp_total)
    (then_total (on_total (λ (k : Key). k.a) nat_cmp_total)
    (then_total (on_total (λ (k : Key). k.b) nat_cmp_total)
    (then_total (on_total (λ (k : Key). k.c) nat_cmp_total)
    (then_total (on_total (λ (k : Key). k.sheet) nat_cmp_total) (on_total (λ (k : Key). k.rule) nat_cmp_total)))))

weaker : (P Q : Key → Type 0) (ks : List Key) → ((k : Key) → P k → Q k) → AllByRecursion P ks → AllByRecursion Q ks
weaker P Q [] each h = h
weaker P Q (k ∷ ks) each h = (each k h.0, weaker P Q ks each h.1)

all_by : (P : Key → Type 0) (e : Key × Hit) (es rest : List (Key × Hit)) (k : Key) (v : Hit) → AllByRecursion P (keys_of (e ∷ es)) → P k
    → AllByRecursion P (keys_of rest) → (r : Ordering)
    → AllByRecursion P (keys_of (match_ordering r ((k, v) ∷ e ∷ es) ((e.0, v) ∷ es) (e ∷ rest)))
all_by P e es rest k v h p more Less = (p, h)
all_by P e es rest k v h p more Equal = h
all_by P e es rest k v h p more Greater = (h.0, more)

all-insert : (P : Key → Type 0) (es : List (Key × Hit)) (k : Key) (v : Hit) → AllByRecursion P (keys_of es) → P k
    → AllByRecursion P (keys_of (insert_entry key_cmp es k v))
all-insert P [] k v h p = (p, h)
all-insert P (e ∷ es) k v h p = all_by P e es (insert_entry key_cmp es k v) k v h p (all-insert P es k v h.1 p) (key_cmp k e.0)

sorted_by : (e : Key × Hit) (es rest : List (Key × Hit)) (k : Key) (v : Hit) → IsStrictlySortedBy key_cmp (keys_of (e ∷ es))
    → (key_cmp e.0 k ≡ Less → AllByRecursion (λ y. key_cmp e.0 y ≡ Less) (keys_of rest)) → IsStrictlySortedBy key_cmp (keys_of rest)
    → (r : Ordering) → key_cmp k e.0 ≡ r
    → IsStrictlySortedBy key_cmp (keys_of (match_ordering r ((k, v) ∷ e ∷ es) ((e.0, v) ∷ es) (e ∷ rest)))
unfolding IsStrictlySortedBy
sorted_by e es rest k v s above more Less is =
    ((is, weaker (λ y. key_cmp e.0 y ≡ Less) (λ y. key_cmp k y ≡ Less) (keys_of es) (λ y below. key_total.trans k e.0 y is below) s.0), s)
sorted_by e es rest k v s above more Equal is = s
sorted_by e es rest k v s above more Greater is = (above (key_total.antisymm e.0 k ∙ ap ordering_reverse is), more)

sorted-insert : (es : List (Key × Hit)) (k : Key) (v : Hit) → IsStrictlySortedBy key_cmp (keys_of es)
    → IsStrictlySortedBy key_cmp (keys_of (insert_entry key_cmp es k v))
unfolding IsStrictlySortedBy
sorted-insert [] k v s = (s, s)
sorted-insert (e ∷ es) k v s = sorted_by e es (insert_entry key_cmp es k v) k v s (all-insert (λ y. key_cmp e.0 y ≡ Less) es k v s.0)
    (sorted-insert es k v s.1) (key_cmp k e.0) refl

sorted-put_all : (sorted es : List (Key × Hit)) → IsStrictlySortedBy key_cmp (keys_of sorted)
    → IsStrictlySortedBy key_cmp (keys_of (all_entered sorted es))
sorted-put_all sorted [] s = s
sorted-put_all sorted (e ∷ es) s = sorted-put_all (insert_entry key_cmp sorted e.0 e.1) es (sorted-insert sorted e.0 e.1 s)

no_keys : IsStrictlySortedBy key_cmp []
unfolding IsStrictlySortedBy
no_keys = tt

pub sorted-matched : (m : Medium) (book : List SheetEntry) (z : Zipper)
    → IsStrictlySortedBy key_cmp (map (λ e. e.0) (matched_entries m book z))
sorted-matched m book z = sorted-put_all [] (entries_of_sheets m 0 book z) no_keys
