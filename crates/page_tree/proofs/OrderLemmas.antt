-- Pairs that ascend already are in order.
use Rattle.std.proofs.Common.{◌≡◌, ℕ, List, [], ◌∷◌, ◌++◌, append-nil, append_assoc, Bool, true, false, ◌&&◌, Some, nat_cmp, Less, Greater}
use Rattle.std.proofs.Common.{refl, sym, ap, ◌∙◌}
use Rattle.std.specs.Ordering.{ordering_reverse}
use Rattle.std.specs.Cmp.Lexicographic.{slice_cmp}
use Rattle.std.proofs.lemmas.Cmp.{nat_list_cmp_total}
use Rattle.node_tree.specs.Labels.{Pair, is_ascending, is_below, is_before}
use Rattle.node_tree.proofs.PairLemmas.{both, left, right, same_name, lt_less, before_trans}
use Rattle.page_tree.specs.Loads.{placed, is_taken, in_order}

-- each of these names is before the other
abbrev all_before : List Pair → List ℕ → Bool
all_before [] name = true
all_before (q ∷ qs) name = is_before q.0 name && all_before qs name

-- a pair behind all others is placed last
placed_last : (done : List Pair) (p : Pair) → all_before done p.0 ≡ true → placed p done ≡ done ++ p ∷ []
placed_last [] p h = refl
placed_last (q ∷ qs) p h =
    let later : slice_cmp nat_cmp p.0 q.0
    ≡ Greater = nat_list_cmp_total.antisymm p.0 q.0 ∙ ap ordering_reverse
    (lt_less _ (left (is_before q.0 p.0) (all_before qs p.0) h)) in
    rw later (ap (λ ps. q ∷ ps) (placed_last qs p (right (is_before q.0 p.0) (all_before qs p.0) h)))

not_taken : (done : List Pair) (name : List ℕ) → all_before done name ≡ true → is_taken name done ≡ false
not_taken [] name h = refl
not_taken (q ∷ qs) name h =
    rw (same_name q.0 name Less (lt_less _ (left (is_before q.0 name) (all_before qs name) h)))
    (not_taken qs name (right (is_before q.0 name) (all_before qs name) h))

one_more : (done : List Pair) (p : Pair) (name : List ℕ) → all_before done p.0 ≡ true → is_before p.0 name ≡ true
    → all_before (done ++ p ∷ []) name ≡ true
one_more [] p name h e = both _ _ e refl
one_more (q ∷ qs) p name h e =
    both _ _ (before_trans q.0 p.0 name (left (is_before q.0 p.0) (all_before qs p.0) h) e)
    (one_more qs p name (right (is_before q.0 p.0) (all_before qs p.0) h) e)

-- each of the first is before the first of the others
abbrev start_after : List Pair → List Pair → Bool
start_after done [] = true
start_after done (p ∷ ps) = all_before done p.0

next_after : (done : List Pair) (p : Pair) (ps : List Pair) → all_before done p.0 ≡ true → is_below p.0 ps ≡ true
    → start_after (done ++ p ∷ []) ps ≡ true
next_after done p [] h e = refl
next_after done p (q ∷ qs) h e = one_more done p q.0 h e

ordered_after : (done ps : List Pair) → is_ascending ps ≡ true → start_after done ps ≡ true → in_order done ps ≡ Some (done ++ ps)
ordered_after done [] h b = ap Some (sym (append-nil done))
ordered_after done (p ∷ ps) h b =
    let rest = ordered_after (done ++ p ∷ []) ps (right (is_below p.0 ps) (is_ascending ps) h)
    (next_after done p ps b (left (is_below p.0 ps) (is_ascending ps) h)) in
    rw (not_taken done p.0 b, placed_last done p b) (rest ∙ ap Some (append_assoc done (p ∷ []) ps))

none_before : (ps : List Pair) → start_after [] ps ≡ true
none_before [] = refl
none_before (p ∷ ps) = refl

pub ascending_ordered : (ps : List Pair) → is_ascending ps ≡ true → in_order [] ps ≡ Some ps
ascending_ordered ps h = ordered_after [] ps h (none_before ps)
