-- Names put among others, one list after the other.
use Rattle.std.proofs.Common.{◌≡◌, ℕ, ◌+◌, ◌<◌, List, [], ◌∷◌, map, drop, length, get_or, Some, refl, sym, ap, ◌∙◌}
use Rattle.std.specs.Borrow.{Bor}
use Rattle.std.specs.List.{flat_map, slice_get}
use Rattle.std.specs.Ordering.{nat_cmp, match_ordering}
use Rattle.std.specs.declared.cmp.Ordering.{Ordering}
use Rattle.std.specs.declared.cmp.Ordering.TheVariants.{Less, Equal, Greater}
use Rattle.std.specs.Cmp.Lexicographic.{slice_cmp}
use Rattle.std.specs.BTreeSet.{insert_key}
use Rattle.std.proofs.lemmas.List.{drop_more}
use Rattle.std.proofs.lemmas.List.Sums.{fold-append}
use Rattle.cascade_match.proofs.MatchLemmas.{drop-at}
use Rattle.css_agent.specs.ClassNames.{with_name, with_names}

-- texts as they are seen
abbrev pub texts : List (Bor (List ℕ)) → List (List ℕ)
texts ks = map (λ k. k.now) ks

by_order : (o : Ordering) (a b c : List (Bor (List ℕ))) → texts (match_ordering o a b c) ≡ match_ordering o (texts a) (texts b) (texts c)
by_order Less a b c = refl
by_order Equal a b c = refl
by_order Greater a b c = refl

-- a text put among borrowed ones is seen as put among those seen
pub insert-seen : (ks : List (Bor (List ℕ))) (k : Bor (List ℕ))
    → texts (insert_key (λ x y. slice_cmp nat_cmp x.now y.now) ks k) ≡ with_name (texts ks) k.now
insert-seen [] k = refl
insert-seen (x ∷ xs) k =
    by_order (slice_cmp nat_cmp k.now x.now) (k ∷ x ∷ xs) (x ∷ xs) (x ∷ insert_key (λ x y. slice_cmp nat_cmp x.now y.now) xs k)
    ∙ ap (λ (l : List (List ℕ)). match_ordering (slice_cmp nat_cmp k.now x.now) (k.now ∷ x.now ∷ texts xs) (x.now ∷ texts xs) (x.now ∷ l))
    (insert-seen xs k)

-- those of the element at a place, and then of those behind it
pub names-at : {Y : Type 0} (own : Y → List (List ℕ)) (ys : List Y) (i : ℕ) (y : Y) (before after : List (List ℕ))
    → slice_get ys i ≡ Some y → after ≡ with_names before (own y)
    → with_names after (flat_map own (drop (i + 1) ys)) ≡ with_names before (flat_map own (drop i ys))
names-at {Y = Y} own ys i y before after at e =
    let rest = flat_map own (drop (i + 1) ys) in
    ap (λ (b : List (List ℕ)). with_names b rest) e ∙ sym (fold-append with_name before (own y) rest)
    ∙ sym (ap (λ (l : List Y). with_names before (flat_map own l)) (drop-at ys i y at))

-- the same, of elements as they are seen
pub names-turn : {X Y : Type 0} (v : X → Y) (own : Y → List (List ℕ)) (xs : List X) (i : ℕ) (x : X) (before after : List (List ℕ))
    → i < length xs → x ≡ get_or xs i x
    → after ≡ with_names before (own (v x))
    → with_names after (flat_map own (map v (drop (i + 1) xs))) ≡ with_names before (flat_map own (map v (drop i xs)))
names-turn {X = X} v own xs i x before after inside is e =
    let rest = flat_map own (map v (drop (i + 1) xs)) in
    ap (λ (b : List (List ℕ)). with_names b rest) e ∙ sym (fold-append with_name before (own (v x)) rest)
    ∙ sym (ap (λ (l : List X). with_names before (flat_map own (map v l)))
    (drop_more xs i x inside ∙ ap (λ (y : X). y ∷ drop (i + 1) xs) (sym is)))
