-- The openings of a deal, in order, open what one opening would.
use Rattle.std.proofs.Common.{◌≡◌, ◌⊎◌, ℕ, zero, suc, ◌+◌, ◌<◌, ◌≤◌, ◌==◌, Bool, true, false, cond, not, ◌&&◌, ◌||◌, List, [], ◌∷◌, ◌++◌}
use Rattle.std.proofs.Common.{append_assoc, append-nil, Option, Some, None, inl, inr, refl, sym, ap, subst, ◌∙◌, arith}
use Rattle.std.proofs.lemmas.Bool.{and_parts}
use Rattle.node_tree.specs.Nodes.{Nodes, none, node, Branch, alone, height}
use Rattle.node_tree.specs.Seen.{Seen}
use Rattle.node_tree.specs.Keys.{tally}
use Rattle.node_tree.specs.Labels.{holds}
use Rattle.page_tree.specs.Pages.{PageRow, row_serial}
use Rattle.node_binding.specs.Counts.{times, stands_in}
use Rattle.node_binding.specs.Cuts.{opens, cut}
use Rattle.node_binding.specs.Openings.{less, is_spent, containers_within, above, opened_also, is_unopened, is_closed}
use Rattle.node_binding.specs.Sessions.{CanOpen, IsSession, session_of}
use Rattle.node_binding.proofs.OpeningLemmas.{goes_on, AreDistinct, Agrees, self_times, in_children, in_rest, all_unopened}
use Rattle.node_binding.proofs.OpeningLemmas.{opens_is, agrees_rest, agrees_children, reached-tally, times-reached}
use Rattle.node_binding.proofs.InViewLemmas.{root, child, later, InView, AreInView, in_view-can_open, in_view-grows, children_in_view}
use Rattle.node_binding.proofs.InViewLemmas.{are_in_view-grows}
use Rattle.node_binding.proofs.InViewLemmas.{opened-grows, opened-outside, opened_now, agrees_below, can_open-in_view, roots_in_view}
use Rattle.node_binding.proofs.InViewLemmas.{in_view-tally, in_view}
use Rattle.node_binding.proofs.AnewLemmas.{unopened-at, and-first, and-second, closed_below, is_opened_row}
use Rattle.node_binding.proofs.Places.{is_in-times}
use Rattle.std.proofs.lemmas.Bool.Decides.{eqb_tells}
use Rattle.node_binding.specs.Cuts.{known}
use Rattle.node_binding.proofs.StartLemmas.{distinct-alone}
use Rattle.node_binding.specs.Deals.{Opening, smaller, capped, less_by, containers_at, dealt, deal, deals, asked, AreOpenings, opened_all}
use Rattle.node_binding.specs.DealLaws.{DealIsDeals, Deals, StartDeals, AskDeals, IsPiece, ArePieces}
use Rattle.node_binding.specs.DealLaws.{DealtInPieces, ShownLow, RootLow}

-- ---- numbers of levels

pub less-capped : (k : ℕ) (d : Option ℕ) → less (capped (suc k) d) ≡ capped k (less d)
less-capped k None = refl
less-capped zero (Some zero) = refl
less-capped (suc k) (Some zero) = refl
less-capped k (Some (suc d)) = refl

pub spent-capped : (k : ℕ) (d : Option ℕ) → is_spent (capped (suc k) d) ≡ is_spent d
spent-capped k None = refl
spent-capped k (Some zero) = refl
spent-capped k (Some (suc d)) = refl

pub capped-zero : (d : Option ℕ) → capped 0 d ≡ Some 0
capped-zero None = refl
capped-zero (Some d) = refl

-- ---- a deal in its pieces

no_part : {A : Type 0} (h : Bool) (xs : List A) → cond (h && false) xs [] ≡ []
no_part true xs = refl
no_part false xs = refl

module _ (m : ℕ) where
  dealt-spent : (left : ℕ) (n : Nodes PageRow) → dealt m left (Some 0) n ≡ []
  dealt-spent left none = refl
  dealt-spent zero (node r c t) = rw (no_part (holds r.label.kind)
      (record { levels = capped (suc m) (Some 0); node = record { row = r; children = c } } ∷ dealt m m (Some 0) c)) (dealt-spent zero t)
  dealt-spent (suc k) (node r c t) = rw (no_part (holds r.label.kind) (dealt m k (Some 0) c)) (dealt-spent (suc k) t)

  deals-append : (d : Option ℕ) (xs ys : List (Branch PageRow)) → deals m d (xs ++ ys) ≡ deals m d xs ++ deals m d ys
  deals-append d [] ys = refl
  deals-append d (x ∷ xs) ys = ap (λ l. deal m d x ++ l) (deals-append d xs ys)
      ∙ sym (append_assoc (deal m d x) (deals m d xs) (deals m d ys))

  deals-spent : (xs : List (Branch PageRow)) → deals m (Some 0) xs ≡ []
  deals-spent [] = refl
  deals-spent (x ∷ xs) = ap (λ l. l ++ deals m (Some 0) xs) (dealt-spent 0 (alone x)) ∙ deals-spent xs

  less_by-spent : (k : ℕ) (d : Option ℕ) → is_spent d ≡ true → less_by k d ≡ Some 0
  less_by-spent k None e = absurd (cc)
  less_by-spent zero (Some zero) e = refl
  less_by-spent (suc k) (Some zero) e = less_by-spent k (Some 0) refl
  less_by-spent k (Some (suc d)) e = absurd (cc)

  -- one of these trees
  one_zero : (d : Option ℕ) (r : PageRow) (c : Nodes PageRow) (h s : Bool) → holds r.label.kind ≡ h → is_spent d ≡ s
      → cond (h && not s) (record { levels = capped (suc m) d; node = record { row = r; children = c } } ∷ dealt m m (less d) c) []
      ≡ deals m d (cond h (record { row = r; children = c } ∷ []) [])
  one_zero d r c true true e f = rw (e, f) refl
  one_zero d r c true false e f =
      rw (e, f) (sym (append-nil _ ∙ append-nil (record { levels = capped (suc m) d; node = record { row = r; children = c } }
      ∷ dealt m m (less d) c)))
  one_zero d r c false s e f = refl

  one_more : (k : ℕ) (d : Option ℕ) (c : Nodes PageRow) (h s : Bool) → is_spent d ≡ s
      → dealt m k (less d) c ≡ deals m (less_by k (less d)) (containers_at k c)
      → cond (h && not s) (dealt m k (less d) c) [] ≡ deals m (less_by k (less d)) (cond h (containers_at k c) [])
  one_more k d c true true f g = sym (ap (λ e. deals m e (containers_at k c)) (less_by-spent (suc k) d f) ∙ deals-spent (containers_at k c))
  one_more k d c true false f g = g
  one_more k d c false s f g = refl

  pub dealt-deals : (left : ℕ) (d : Option ℕ) (n : Nodes PageRow) → dealt m left d n ≡ deals m (less_by left d) (containers_at left n)
  dealt-deals left d none = refl
  dealt-deals zero d (node r c t) =
      ap (λ l. l ++ dealt m 0 d t) (one_zero d r c (holds r.label.kind) (is_spent d) refl refl)
      ∙ ap (λ l. deals m d (cond (holds r.label.kind) (record { row = r; children = c } ∷ []) []) ++ l) (dealt-deals zero d t)
      ∙ sym (deals-append d (cond (holds r.label.kind) (record { row = r; children = c } ∷ []) []) (containers_at 0 t))
  dealt-deals (suc k) d (node r c t) =
      ap (λ l. l ++ dealt m (suc k) d t) (one_more k d c (holds r.label.kind) (is_spent d) refl (dealt-deals k (less d) c))
      ∙ ap (λ l. deals m (less_by k (less d)) (cond (holds r.label.kind) (containers_at k c) []) ++ l) (dealt-deals (suc k) d t)
      ∙ sym (deals-append (less_by k (less d)) (cond (holds r.label.kind) (containers_at k c) []) (containers_at (suc k) t))

pub deal-is_deals : DealIsDeals
deal-is_deals m d x container left =
    let below = dealt-deals m m (less d) x.children in
    rw (container, left)
    (ap (λ l. record { levels = capped (suc m) d; node = x } ∷ l)
    (append-nil (dealt m m (less d) x.children) ∙ below ∙ ap (deals m (less_by m (less d)))
    (sym (append-nil (containers_at m x.children)))))

-- ---- lists of openings

pub opened_all-append : (o : ℕ → Bool) (xs ys : List Opening) → opened_all o (xs ++ ys) ≡ opened_all (opened_all o xs) ys
opened_all-append o [] ys = refl
opened_all-append o (x ∷ xs) ys = opened_all-append (opened_also x.levels x.node o) xs ys

pub opened_all-grows : (o : ℕ → Bool) (xs : List Opening) (s : ℕ) → o s ≡ true → opened_all o xs s ≡ true
opened_all-grows o [] s e = e
opened_all-grows o (x ∷ xs) s e = opened_all-grows (opened_also x.levels x.node o) xs s (opened-grows o x.levels x.node s e)

AreOpenings-append : (n : Nodes PageRow) (o : ℕ → Bool) (xs ys : List Opening) → AreOpenings n o xs → AreOpenings n (opened_all o xs) ys
    → AreOpenings n o (xs ++ ys)
AreOpenings-append n o [] ys h k = k
AreOpenings-append n o (x ∷ xs) ys h k = (h.0, h.1, AreOpenings-append n (opened_also x.levels x.node o) xs ys h.2 k)

-- ---- counts of one tree

-- of one tree: the root, and what is below it
times-alone : (d : Option ℕ) (s : ℕ) (r : PageRow) (c : Nodes PageRow)
    → times s (containers_within d (node r c none))
    ≡ cond {A = ℕ} (goes_on d r) (cond {A = ℕ} (r.serial == s) 1 0 + times s (containers_within (less d) c)) 0
times-alone d s r c = let e = times-reached d s r c none in omega arith

-- of one tree and others
times-with : (d : Option ℕ) (s : ℕ) (r : PageRow) (c t : Nodes PageRow)
    → times s (containers_within d (node r c t)) ≡ times s (containers_within d (node r c none)) + times s (containers_within d t)
times-with d s r c t = let e = times-reached d s r c t in let f = times-alone d s r c in omega arith

is_there : (a b : ℕ) → a ≡ b → not (a == 0) ≡ not (b == 0)
is_there a b e = ap (λ n. not (n == 0)) e

nothing_there : (a : ℕ) → a ≡ 0 → not (a == 0) ≡ false
nothing_there a e = ap (λ n. not (n == 0)) e

zero_or : (k : ℕ) → (k ≡ 0) ⊎ (0 < k)
zero_or zero = inl refl
zero_or (suc k) = inr (omega arith)

same_none : (g : Bool) (a : ℕ) → g ≡ false → cond {A = ℕ} g a 0 ≡ 0
same_none true a e = absurd (cc)
same_none false a e = refl

same_some : (g : Bool) (a : ℕ) → g ≡ true → cond {A = ℕ} g a 0 ≡ a
same_some true a e = refl
same_some false a e = absurd (cc)

not_on : (h : Bool) → (h && false) ≡ false
not_on true = refl
not_on false = refl

-- ---- the deal of some trees

module _ (m : ℕ) (n : Nodes PageRow) (distinct : AreDistinct n) where
  -- a node outside the trees is opened as before
  first_outside : (p : ℕ → Bool) (s : ℕ) (b : Bool) (xs : List Opening) → (b ≡ true → p s ≡ opened_all p xs s)
      → p s ≡ opened_all p (cond b xs []) s
  first_outside p s true xs f = f refl
  first_outside p s false xs f = refl

  dealt-outside : (left : ℕ) (d : Option ℕ) (k : Nodes PageRow) (p : ℕ → Bool) (s : ℕ) → tally row_serial s k ≡ 0
      → p s ≡ opened_all p (dealt m left d k) s
  dealt-outside left d none p s h = refl
  dealt-outside zero d (node r c t) p s h =
      let x : Branch PageRow = record { row = r; children = c } in
      let y : Opening = record { levels = capped (suc m) d; node = x } in
      let xs : List Opening = cond (holds r.label.kind && not (is_spent d)) (y ∷ dealt m m (less d) c) [] in
      first_outside p s (holds r.label.kind && not (is_spent d)) (y ∷ dealt m m (less d) c)
      (λ _. opened-outside p (capped (suc m) d) x s (omega arith)
      ∙ dealt-outside m (less d) c (opened_also (capped (suc m) d) x p) s (omega arith))
      ∙ dealt-outside zero d t (opened_all p xs) s (omega arith)
      ∙ sym (ap (λ (q : ℕ → Bool). q s) (opened_all-append p xs (dealt m 0 d t)))
  dealt-outside (suc k) d (node r c t) p s h =
      let xs : List Opening = cond (holds r.label.kind && not (is_spent d)) (dealt m k (less d) c) [] in
      first_outside p s (holds r.label.kind && not (is_spent d)) (dealt m k (less d) c)
      (λ _. dealt-outside k (less d) c p s (omega arith))
      ∙ dealt-outside (suc k) d t (opened_all p xs) s (omega arith)
      ∙ sym (ap (λ (q : ℕ → Bool). q s) (opened_all-append p xs (dealt m (suc k) d t)))

  -- they can be made one after another, and open d levels
  pub record Dealt (p : ℕ → Bool) (xs : List Opening) (d : Option ℕ) (k : Nodes PageRow) : Type 0 where
    pub are : AreOpenings n p xs
    pub agrees : Agrees (opened_all p xs) d k
    pub outside : (s : ℕ) → tally row_serial s k ≡ 0 → p s ≡ opened_all p xs s

  -- of the first tree, and then of the others
  joined : (l d : Option ℕ) (r : PageRow) (c t : Nodes PageRow) (p : ℕ → Bool) (xs ys : List Opening) → AreDistinct (node r c t)
      → AreInView p n t → Agrees p l t → Dealt p xs d (node r c none)
      → ((q : ℕ → Bool) → AreInView q n t → Agrees q l t → Dealt q ys d t)
      → Dealt p (xs ++ ys) d (node r c t)
  joined l d r c t p xs ys apart v was first then =
      let q : ℕ → Bool = opened_all p xs in
      let rest = then (opened_all p xs) (are_in_view-grows p (opened_all p xs) (opened_all-grows p xs) n t v)
      (λ s h. sym (first.outside s (omega (arith, apart s))) ∙ was s h) in
      let all = opened_all-append p xs ys in
      record {
        are = AreOpenings-append n p xs ys first.are rest.are;
        agrees = λ s h. ap (λ (f : ℕ → Bool). f s) all ∙ elim (zero_or (tally row_serial s t)) [
          | inl gone ↦ sym (rest.outside s gone) ∙ first.agrees s (omega arith)
              ∙ is_there _ _ (let e = times-with d s r c t in let b = reached-tally d s t in omega arith)
          | inr there ↦ rest.agrees s there ∙ is_there _ _ (sym (in_rest d r c t apart s there))
        ];
        outside = λ s h. first.outside s (omega arith) ∙ rest.outside s (omega arith) ∙ sym (ap (λ (f : ℕ → Bool). f s) all);
      }

  -- a tree that is not opened
  closed_tree : (l d : Option ℕ) (r : PageRow) (c : Nodes PageRow) (p : ℕ → Bool) → goes_on d r ≡ false → goes_on l r ≡ false
      → Agrees p l (node r c none) → Dealt p [] d (node r c none)
  closed_tree l d r c p shut shut_l was = record {
    are = tt;
    agrees = λ s h. was s h ∙ is_there _ _
        (times-alone l s r c ∙ same_none (goes_on l r) _ shut_l ∙ sym (times-alone d s r c ∙ same_none (goes_on d r) _ shut));
    outside = λ s h. refl;
  }

  -- one that is opened already
  opened_tree : (l d : Option ℕ) (r : PageRow) (c : Nodes PageRow) (p : ℕ → Bool) (xs : List Opening) → goes_on d r ≡ true
      → goes_on l r ≡ true → AreDistinct (node r c none) → Agrees p l (node r c none) → Dealt p xs (less d) c
      → Dealt p xs d (node r c none)
  opened_tree l d r c p xs on on_l apart was below = record {
    are = below.are;
    agrees = λ s h. elim (zero_or (tally row_serial s c)) [
      | inl gone ↦ sym (below.outside s gone) ∙ was s h ∙ is_there _ _
          (let a = reached-tally (less l) s c in
          let b = reached-tally (less d) s c in
          let e = times-alone l s r c ∙ same_some (goes_on l r) _ on_l in
          let f = times-alone d s r c ∙ same_some (goes_on d r) _ on in
          omega arith)
      | inr there ↦ below.agrees s there ∙ is_there _ _
          (let e = in_children d r c none apart s there ∙ same_some (goes_on d r) _ on in sym e)
    ];
    outside = λ s h. below.outside s (omega arith);
  }

  -- one that is opened by a piece
  new_tree : (d : Option ℕ) (r : PageRow) (c : Nodes PageRow) (p : ℕ → Bool) (xs : List Opening) → goes_on d r ≡ true
      → AreDistinct (node r c none) → Agrees p (Some 0) (node r c none) → AreInView p n (node r c none)
      → ((q : ℕ → Bool) → AreInView q n c → Agrees q (capped m (less d)) c → Dealt q xs (less d) c)
      → Dealt p (record { levels = capped (suc m) d; node = record { row = r; children = c } } ∷ xs) d (node r c none)
  new_tree d r c p xs on apart was v then =
      let x : Branch PageRow = record { row = r; children = c } in
      let e : Option ℕ = capped (suc m) d in
      let q : ℕ → Bool = opened_also (capped (suc m) d) x p in
      let parts = and_parts (holds r.label.kind) (not (is_spent d)) on in
      let left : is_spent (capped (suc m) d) ≡ false = spent-capped m d ∙ not_spent (is_spent d) parts.1 in
      let on_e : goes_on (capped (suc m) d) r ≡ true = ap (λ b. holds r.label.kind && not b) (spent-capped m d) ∙ on in
      let shut_all : (s : ℕ) → 0 < tally row_serial s (node r c none) → p s ≡ false =
      λ s h. was s h ∙ nothing_there _ (times-alone (Some 0) s r c ∙ same_none (goes_on (Some 0) r) _ (not_on (holds r.label.kind))) in
      let shut : p r.serial ≡ false = shut_all r.serial (omega (arith, self_times r.serial)) in
      let bare : is_unopened p c ≡ true = all_unopened p c (λ s h. shut_all s (omega arith)) in
      let is_open : opens q r ≡ true = open_row (holds r.label.kind) (q r.serial) parts.0
      (opened_now p (capped (suc m) d) x left parts.0 apart) in
      let w : AreInView q n c = children_in_view q x n (in_view-grows p q (opened-grows p (capped (suc m) d) x) v.0) is_open in
      let agrees : Agrees q (less (capped (suc m) d)) c = agrees_below p (capped (suc m) d) x left parts.0 apart bare in
      let below = then q w (subst (λ (l : Option ℕ). Agrees q l c) (less-capped m d) agrees) in
      record {
        are = (left, in_view-can_open p x n distinct v.0 parts.0 shut, below.are);
        agrees = λ s h. elim (zero_or (tally row_serial s c)) [
          | inl gone ↦ sym (below.outside s gone)
              ∙ ap (λ b. b || stands_in s (containers_within (capped (suc m) d) (alone x))) (shut_all s h)
              ∙ is_there _ _
              (let a = reached-tally (less (capped (suc m) d)) s c in
              let b = reached-tally (less d) s c in
              let e = times-alone (capped (suc m) d) s r c ∙ same_some (goes_on (capped (suc m) d) r) _ on_e in
              let f = times-alone d s r c ∙ same_some (goes_on d r) _ on in
              omega arith)
          | inr there ↦ below.agrees s there ∙ is_there _ _
              (let e = in_children d r c none apart s there ∙ same_some (goes_on d r) _ on in sym e)
        ];
        outside = λ s h. opened-outside p (capped (suc m) d) x s (omega arith) ∙ below.outside s (omega arith);
      }
    where
      not_spent : (b : Bool) → not b ≡ true → b ≡ false
      not_spent true e = cc
      not_spent false e = refl

      open_row : (h b : Bool) → h ≡ true → b ≡ true → cond h b false ≡ true
      open_row h b e f = rw (e, f) refl

  by_row : (P : List Opening → Type 0) (g : Bool) (xs : List Opening) → (g ≡ true → P xs) → (g ≡ false → P []) → P (cond g xs [])
  by_row P true xs f h = f refl
  by_row P false xs f h = h refl

  first_agrees : (l : Option ℕ) (r : PageRow) (c t : Nodes PageRow) (p : ℕ → Bool) → AreDistinct (node r c t) → Agrees p l (node r c t)
      → Agrees p l (node r c none)
  first_agrees l r c t p apart was s h =
      was s (omega arith) ∙ is_there _ _ (let e = times-with l s r c t in let b = reached-tally l s t in let a = apart s in omega arith)

  goes_down : (p : ℕ → Bool) (l d : Option ℕ) (r : PageRow) (c : Nodes PageRow) → AreDistinct (node r c none)
      → Agrees p l (node r c none) → goes_on l r ≡ true → AreInView p n (node r c none) → AreInView p n c
  goes_down p l d r c apart was on v =
      children_in_view p (record { row = r; children = c }) n v.0 (opens_is p l r c none apart was ∙ on)

  pub dealt-good : (left : ℕ) (d : Option ℕ) (k : Nodes PageRow) (p : ℕ → Bool) → AreDistinct k → AreInView p n k
      → Agrees p (capped left d) k → Dealt p (dealt m left d k) d k
  dealt-good left d none p apart v was = record { are = tt; agrees = λ s h. absurd (omega arith); outside = λ s h. refl }
  dealt-good zero d (node r c t) p apart v was =
      let apart_x : AreDistinct (node r c none) = λ s. omega (arith, apart s) in
      let apart_t : AreDistinct t = λ s. omega (arith, apart s) in
      let here : Agrees p (capped 0 d) (node r c none) = first_agrees (capped 0 d) r c t p apart was in
      let first : Dealt p (cond (goes_on d r) (record { levels = capped (suc m) d; node = record { row = r; children = c } }
      ∷ dealt m m (less d) c) []) d (node r c none) =
      by_row (λ xs. Dealt p xs d (node r c none)) (goes_on d r)
      (record { levels = capped (suc m) d; node = record { row = r; children = c } } ∷ dealt m m (less d) c)
      (λ on. new_tree d r c p (dealt m m (less d) c) on apart_x
      (subst (λ (l : Option ℕ). Agrees p l (node r c none)) (capped-zero d) here) (v.0, tt)
      (λ q w a. dealt-good m (less d) c q (λ s. omega (arith, apart s)) w a))
      (λ off. closed_tree (capped 0 d) d r c p off
      (ap (λ (l : Option ℕ). goes_on l r) (capped-zero d) ∙ not_on (holds r.label.kind)) here) in
      joined (capped 0 d) d r c t p _ (dealt m 0 d t) apart v.1 (agrees_rest p (capped 0 d) r c t apart was) first
      (λ q w a. dealt-good zero d t q apart_t w a)
  dealt-good (suc k) d (node r c t) p apart v was =
      let apart_x : AreDistinct (node r c none) = λ s. omega (arith, apart s) in
      let apart_c : AreDistinct c = λ s. omega (arith, apart s) in
      let apart_t : AreDistinct t = λ s. omega (arith, apart s) in
      let here : Agrees p (capped (suc k) d) (node r c none) = first_agrees (capped (suc k) d) r c t p apart was in
      let same : goes_on (capped (suc k) d) r ≡ goes_on d r = ap (λ b. holds r.label.kind && not b) (spent-capped k d) in
      let first : Dealt p (cond (goes_on d r) (dealt m k (less d) c) []) d (node r c none) =
      by_row (λ xs. Dealt p xs d (node r c none)) (goes_on d r) (dealt m k (less d) c)
      (λ on. opened_tree (capped (suc k) d) d r c p (dealt m k (less d) c) on (same ∙ on) apart_x here
      (dealt-good k (less d) c p apart_c (goes_down p (capped (suc k) d) d r c apart_x here (same ∙ on) (v.0, tt))
      (subst (λ (l : Option ℕ). Agrees p l c) (less-capped k d) (agrees_children p (capped (suc k) d) r c none apart_x here (same ∙ on)))))
      (λ off. closed_tree (capped (suc k) d) d r c p off (same ∙ off) here) in
      joined (capped (suc k) d) d r c t p _ (dealt m (suc k) d t) apart v.1 (agrees_rest p (capped (suc k) d) r c t apart was) first
      (λ q w a. dealt-good (suc k) d t q apart_t w a)

-- ---- a container that a session can open

-- what is below a node that is known and not opened is not opened
unopened_here : (b : Bool) (o : ℕ → Bool) (c t : Nodes PageRow) → b ≡ false
    → (cond b (is_closed o c) (is_unopened o c) && is_closed o t) ≡ true → is_unopened o c ≡ true
unopened_here true o c t e h = absurd (cc)
unopened_here false o c t e h = and-first (is_unopened o c) (is_closed o t) h

unopened-below : (o : ℕ → Bool) (x : Branch PageRow) {n : Nodes PageRow} → InView o x n → o x.row.serial ≡ false → is_closed o n ≡ true
    → is_unopened o x.children ≡ true
unopened-below o x (root t) shut closed = unopened_here (o x.row.serial) o x.children t shut closed
unopened-below o x (child r c t e v) shut closed =
    unopened-below o x v shut (closed_below (o r.serial) (is_closed o c) (is_unopened o c) (is_closed o t)
    (is_opened_row (holds r.label.kind) (o r.serial) e) closed)
unopened-below o x (later r c t v) shut closed = unopened-below o x v shut (and-second _ (is_closed o t) closed)

-- a node of which nothing is opened
shut_tree : (o : ℕ → Bool) (x : Branch PageRow) → o x.row.serial ≡ false → is_unopened o x.children ≡ true → (s : ℕ)
    → 0 < tally row_serial s (alone x) → o s ≡ false
shut_tree o x shut bare s h = unopened-at o (alone x) (rw (shut, bare) refl) s h

agrees_shut : (o : ℕ → Bool) (d : Option ℕ) (x : Branch PageRow) → ((s : ℕ) → 0 < tally row_serial s (alone x) → o s ≡ false)
    → Agrees o (capped 0 d) (alone x)
agrees_shut o d x shut =
    subst (λ (l : Option ℕ). Agrees o l (alone x)) (sym (capped-zero d))
    (λ s h. shut s h ∙ sym (nothing_there _
    (times-alone (Some 0) s x.row x.children ∙ same_none (goes_on (Some 0) x.row) _ (not_on (holds x.row.label.kind)))))

pub deals-open : Deals
deals-open m page o pushed since d x valid session left can =
    let n : Nodes PageRow = alone page.tree in
    let distinct = distinct-alone page valid in
    let v : InView o x (alone page.tree) = can_open-in_view o x (alone page.tree) distinct can in
    let apart : AreDistinct (alone x) = λ s. let a = in_view-tally o x v s in let b = distinct s in omega arith in
    let shut = shut_tree o x can.shut (unopened-below o x v can.shut session.opened_set.closed) in
    let good = dealt-good m (alone page.tree) distinct 0 d (alone x) o apart (v, tt) (agrees_shut o d x shut) in
    record {
      are = good.are;
      opens = λ s. elim (zero_or (tally row_serial s (alone x))) [
        | inl gone ↦ sym (good.outside s gone) ∙ opened-outside o d x s gone
        | inr there ↦ good.agrees s there ∙ sym (ap (λ b. b || stands_in s (containers_within d (alone x))) (shut s there))
      ];
    }

pub start-deals : StartDeals
start-deals m page d valid left =
    let n : Nodes PageRow = alone page.tree in
    let distinct = distinct-alone page valid in
    let p : ℕ → Bool = above (capped (suc m) d) (alone page.tree) in
    let good = dealt-good m (alone page.tree) distinct (suc m) d (alone page.tree) p distinct (roots_in_view p (alone page.tree))
    (λ s h. refl) in
    record {
      are = good.are;
      opens = λ s. elim (zero_or (tally row_serial s (alone page.tree))) [
        | inl gone ↦ sym (good.outside s gone) ∙ is_there _ _
            (let a = reached-tally (capped (suc m) d) s (alone page.tree) in let b = reached-tally d s (alone page.tree) in omega arith)
        | inr there ↦ good.agrees s there
      ];
    }

-- ---- a request

row_only : (x s k : ℕ) → 0 < cond {A = ℕ} (x == s) 1 0 + k + 0 → k ≡ 0 → x ≡ s
row_only x s k h e = elim (eqb_tells x s) [
  | inl p ↦ p.1
  | inr p ↦ absurd (let f = ap (λ (b : Bool). cond {A = ℕ} b 1 0) p.0 in omega arith)
]

or_true : (b c : Bool) → b ≡ true → b ≡ (b || c)
or_true true c e = refl
or_true false c e = absurd (cc)

or_none : (b c : Bool) → c ≡ false → b ≡ (b || c)
or_none true c e = refl
or_none false c e = sym e

module _ (m : ℕ) (n : Nodes PageRow) (distinct : AreDistinct n) (o : ℕ → Bool) where
  -- they can be made one after another, and open d levels more
  pub record Asked (p : ℕ → Bool) (xs : List Opening) (d : Option ℕ) (k : Nodes PageRow) : Type 0 where
    pub are : AreOpenings n p xs
    pub opens : (s : ℕ) → 0 < tally row_serial s k → opened_all p xs s ≡ (p s || stands_in s (containers_within d k))
    pub outside : (s : ℕ) → tally row_serial s k ≡ 0 → p s ≡ opened_all p xs s

  joined_asks : (d : Option ℕ) (r : PageRow) (c t : Nodes PageRow) (p : ℕ → Bool) (xs ys : List Opening) → AreDistinct (node r c t)
      → AreInView p n t → ((s : ℕ) → 0 < tally row_serial s t → p s ≡ o s) → Asked p xs d (node r c none)
      → ((q : ℕ → Bool) → AreInView q n t → ((s : ℕ) → 0 < tally row_serial s t → q s ≡ o s) → Asked q ys d t)
      → Asked p (xs ++ ys) d (node r c t)
  joined_asks d r c t p xs ys apart v was first then =
      let same : (s : ℕ) → 0 < tally row_serial s t → opened_all p xs s ≡ p s = λ s h. sym (first.outside s (omega (arith, apart s))) in
      let rest = then (opened_all p xs) (are_in_view-grows p (opened_all p xs) (opened_all-grows p xs) n t v)
      (λ s h. same s h ∙ was s h) in
      let all = opened_all-append p xs ys in
      record {
        are = AreOpenings-append n p xs ys first.are rest.are;
        opens = λ s h. ap (λ (f : ℕ → Bool). f s) all ∙ elim (zero_or (tally row_serial s t)) [
          | inl gone ↦ sym (rest.outside s gone) ∙ first.opens s (omega arith)
              ∙ ap (λ b. p s || b) (is_there _ _ (let e = times-with d s r c t in let b = reached-tally d s t in omega arith))
          | inr there ↦ rest.opens s there ∙ ap (λ b. b || stands_in s (containers_within d t)) (same s there)
              ∙ ap (λ b. p s || b) (is_there _ _ (sym (in_rest d r c t apart s there)))
        ];
        outside = λ s h. first.outside s (omega arith) ∙ rest.outside s (omega arith) ∙ sym (ap (λ (f : ℕ → Bool). f s) all);
      }

  two_ways : (P : List Opening → Type 0) (g a : Bool) (xs ys : List Opening) → (g ≡ true → a ≡ true → P xs) → (g ≡ true → a ≡ false → P ys)
      → (g ≡ false → P []) → P (cond g (cond a xs ys) [])
  two_ways P true true xs ys f h k = f refl refl
  two_ways P true false xs ys f h k = h refl refl
  two_ways P false a xs ys f h k = k refl

  unopened_if : (b u v w : Bool) → ((cond b u v) && w) ≡ true → b ≡ false → v ≡ true
  unopened_if true u v w h e = absurd (cc)
  unopened_if false u v w h e = and-first v w h

  closed_if : (b u v w : Bool) → ((cond b u v) && w) ≡ true → b ≡ true → u ≡ true
  closed_if true u v w h e = and-first u w h
  closed_if false u v w h e = absurd (cc)

  opens_row : (h b : Bool) → h ≡ true → b ≡ true → cond h b false ≡ true
  opens_row h b e f = rw (e, f) refl

  pub asked-good : (d : Option ℕ) (k : Nodes PageRow) (p : ℕ → Bool) → AreDistinct k → AreInView p n k
      → ((s : ℕ) → 0 < tally row_serial s k → p s ≡ o s) → is_closed o k ≡ true → Asked p (asked m o d k) d k
  asked-good d none p apart v was closed = record { are = tt; opens = λ s h. absurd (omega arith); outside = λ s h. refl }
  asked-good d (node r c t) p apart v was closed =
      let x : Branch PageRow = record { row = r; children = c } in
      let apart_x : AreDistinct (node r c none) = λ s. omega (arith, apart s) in
      let apart_c : AreDistinct c = λ s. omega (arith, apart s) in
      let apart_t : AreDistinct t = λ s. omega (arith, apart s) in
      let at : p r.serial ≡ o r.serial = was r.serial (omega (arith, self_times r.serial)) in
      let first : Asked p (cond (goes_on d r) (cond (o r.serial) (asked m o (less d) c) (deal m d x)) []) d (node r c none) =
      two_ways (λ xs. Asked p xs d (node r c none)) (goes_on d r) (o r.serial) (asked m o (less d) c) (deal m d x)
      (λ on is.
      (let holder = (and_parts (holds r.label.kind) (not (is_spent d)) on).0 in
      let below = asked-good (less d) c p apart_c
      (children_in_view p x n v.0 (opens_row (holds r.label.kind) (p r.serial) holder (at ∙ is))) (λ s h. was s (omega arith))
      (closed_if (o r.serial) (is_closed o c) (is_unopened o c) (is_closed o t) closed is) in
      record {
        are = below.are;
        opens = λ s h. elim (zero_or (tally row_serial s c)) [
          | inl gone ↦ sym (below.outside s gone) ∙ or_true (p s) _
              (subst (λ (y : ℕ). p y ≡ true) (row_only r.serial s (tally row_serial s c) h gone) (at ∙ is))
          | inr there ↦ below.opens s there ∙ ap (λ b. p s || b) (is_there _ _
              (let e = in_children d r c none apart_x s there ∙ same_some (goes_on d r) _ on in sym e))
        ];
        outside = λ s h. below.outside s (omega arith);
      }))
      (λ on is.
      (let bare = unopened_if (o r.serial) (is_closed o c) (is_unopened o c) (is_closed o t) closed is in
      let shut : (s : ℕ) → 0 < tally row_serial s (alone x) → p s
      ≡ false = λ s h. was s (omega arith) ∙ shut_tree o x is bare s h in
      let good = dealt-good m n distinct 0 d (alone x) p apart_x (v.0, tt) (agrees_shut p d x shut) in
      record {
        are = good.are;
        opens = λ s h. good.agrees s h ∙ sym (ap (λ b. b || stands_in s (containers_within d (alone x))) (shut s h));
        outside = good.outside;
      }))
      (λ off. record {
        are = tt;
        opens = λ s h. or_none (p s) _ (nothing_there _ (times-alone d s r c ∙ same_none (goes_on d r) _ off));
        outside = λ s h. refl;
      }) in
      joined_asks d r c t p _ (asked m o d t) apart v.1 (λ s h. was s (omega arith)) first
      (λ q w a. asked-good d t q apart_t w a (and-second _ (is_closed o t) closed))

closed_view : (o : ℕ → Bool) (x : Branch PageRow) {n : Nodes PageRow} → InView o x n → is_closed o n ≡ true
    → is_closed o (alone x) ≡ true
closed_view o x (root t) closed = and-true _ (and-first _ (is_closed o t) closed)
  where
    and-true : (b : Bool) → b ≡ true → (b && true) ≡ true
    and-true b e = rw e refl
closed_view o x (child r c t e v) closed = closed_view o x v
    (closed_below (o r.serial) (is_closed o c) (is_unopened o c) (is_closed o t) (is_opened_row (holds r.label.kind) (o r.serial) e) closed)
closed_view o x (later r c t v) closed = closed_view o x v (and-second _ (is_closed o t) closed)

pub ask-deals : AskDeals
ask-deals m page o pushed since d x valid session found known_x =
    let n : Nodes PageRow = alone page.tree in
    let distinct = distinct-alone page valid in
    let v : InView o x (alone page.tree) = in_view o x (alone page.tree) distinct found
    (is_in-times (known o (alone page.tree)) x.row.serial known_x) in
    let apart : AreDistinct (alone x) = λ s. let a = in_view-tally o x v s in let b = distinct s in omega arith in
    let good = asked-good m (alone page.tree) distinct o d (alone x) o apart (v, tt) (λ s h. refl)
    (closed_view o x v session.opened_set.closed) in
    record {
      are = good.are;
      opens = λ s. elim (zero_or (tally row_serial s (alone x))) [
        | inl gone ↦ sym (good.outside s gone) ∙ opened-outside o d x s gone
        | inr there ↦ good.opens s there
      ];
    }

-- ---- the size of pieces

smaller_first : (k d : ℕ) → smaller k d ≤ k
smaller_first zero d = omega arith
smaller_first (suc k) zero = omega arith
smaller_first (suc k) (suc d) = let h = smaller_first k d in omega arith

capped-piece : (m : ℕ) (d : Option ℕ) → IsPiece m (capped (suc m) d)
capped-piece m None = omega arith
capped-piece m (Some d) = smaller_first (suc m) d

pieces-append : (m : ℕ) (xs ys : List Opening) → ArePieces m xs → ArePieces m ys → ArePieces m (xs ++ ys)
pieces-append m [] ys h k = k
pieces-append m (x ∷ xs) ys h k = (h.0, pieces-append m xs ys h.1 k)

pieces_if : (m : ℕ) (b : Bool) (xs : List Opening) → ArePieces m xs → ArePieces m (cond b xs [])
pieces_if m true xs h = h
pieces_if m false xs h = tt

pub dealt-pieces : DealtInPieces
dealt-pieces m left d none = tt
dealt-pieces m zero d (node r c t) =
    pieces-append m _ (dealt m 0 d t)
    (pieces_if m (holds r.label.kind && not (is_spent d))
    (record { levels = capped (suc m) d; node = record { row = r; children = c } } ∷ dealt m m (less d) c)
    (capped-piece m d, dealt-pieces m m (less d) c))
    (dealt-pieces m zero d t)
dealt-pieces m (suc k) d (node r c t) =
    pieces-append m _ (dealt m (suc k) d t)
    (pieces_if m (holds r.label.kind && not (is_spent d)) (dealt m k (less d) c) (dealt-pieces m k (less d) c))
    (dealt-pieces m (suc k) d t)

asked_if : (m : ℕ) (g a : Bool) (xs ys : List Opening) → ArePieces m xs → ArePieces m ys → ArePieces m (cond g (cond a xs ys) [])
asked_if m true true xs ys h k = h
asked_if m true false xs ys h k = k
asked_if m false a xs ys h k = tt

-- and so are those of a request
pub asked-pieces : (m : ℕ) (o : ℕ → Bool) (d : Option ℕ) (n : Nodes PageRow) → ArePieces m (asked m o d n)
asked-pieces m o d none = tt
asked-pieces m o d (node r c t) =
    pieces-append m _ (asked m o d t)
    (asked_if m (holds r.label.kind && not (is_spent d)) (o r.serial) (asked m o (less d) c)
    (deal m d (record { row = r; children = c })) (asked-pieces m o (less d) c)
    (dealt-pieces m 0 d (alone (record { row = r; children = c }))))
    (asked-pieces m o d t)

low_if : (b : Bool) (v : Nodes Seen) (k : ℕ) → (b ≡ true → height v ≤ k) → height (cond b v none) ≤ k
low_if true v k h = h refl
low_if false v k h = omega arith

height-cut : (j : ℕ) (q : ℕ → Bool) (i : ℕ → ℕ) (n : Nodes PageRow) → AreDistinct n → Agrees q (Some j) n
    → height (cut q i n) ≤ suc j
height-cut j q i none apart agrees = omega arith
height-cut zero q i (node r c t) apart agrees =
    let rest = height-cut zero q i t (λ s. omega (arith, apart s)) (agrees_rest q (Some 0) r c t apart agrees) in
    let below = low_if (opens q r) (cut q i c) 0
    (λ e. absurd (let f : true ≡ false = sym e ∙ opens_is q (Some 0) r c t apart agrees ∙ not_on (holds r.label.kind) in cc)) in
    omega arith
height-cut (suc k) q i (node r c t) apart agrees =
    let rest = height-cut (suc k) q i t (λ s. omega (arith, apart s)) (agrees_rest q (Some (suc k)) r c t apart agrees) in
    let below = low_if (opens q r) (cut q i c) (suc k)
    (λ e. height-cut k q i c (λ s. omega (arith, apart s))
    (agrees_children q (Some (suc k)) r c t apart agrees (sym (opens_is q (Some (suc k)) r c t apart agrees) ∙ e))) in
    omega arith

-- of any trees
shown_low_in : (n : Nodes PageRow) → AreDistinct n → (o : ℕ → Bool) (pushed : List ℕ) (since j : ℕ) (x : Branch PageRow) (i : ℕ → ℕ)
    → IsSession n (session_of o pushed since) → CanOpen n o x → height (cut (opened_also (Some (suc j)) x o) i x.children) ≤ suc j
shown_low_in n distinct o pushed since j x i session can =
    let v : InView o x n = can_open-in_view o x n distinct can in
    let apart : AreDistinct (alone x) = λ s. let a = in_view-tally o x v s in let b = distinct s in omega arith in
    let bare = unopened-below o x v can.shut session.opened_set.closed in
    height-cut j (opened_also (Some (suc j)) x o) i x.children (λ s. let a = apart s in omega arith)
    (agrees_below o (Some (suc j)) x refl can.container apart bare)

pub shown-low : ShownLow
shown-low page o pushed since j x i valid session can =
    shown_low_in (alone page.tree) (distinct-alone page valid) o pushed since j x i session can

-- by a piece
pub piece-low : (m : ℕ) (n : Nodes PageRow) → AreDistinct n → (o : ℕ → Bool) (pushed : List ℕ) (since : ℕ) (d : Option ℕ)
    (x : Branch PageRow) (i : ℕ → ℕ) → is_spent d ≡ false → IsPiece m d → IsSession n (session_of o pushed since) → CanOpen n o x
    → height (cut (opened_also d x o) i x.children) ≤ suc m
piece-low m n distinct o pushed since None x i left small session can = absurd small
piece-low m n distinct o pushed since (Some zero) x i left small session can = absurd cc
piece-low m n distinct o pushed since (Some (suc j)) x i left small session can =
    let h = shown_low_in n distinct o pushed since j x i session can in omega arith

pub capped_some : (m : ℕ) (d : Option ℕ) → (j : ℕ) × (capped (suc m) d ≡ Some j) × (j ≤ suc m)
capped_some m None = (suc m, refl, omega arith)
capped_some m (Some d) = (smaller (suc m) d, refl, smaller_first (suc m) d)

pub root-low : RootLow
root-low m page d i valid =
    let c = capped_some m d in
    let h = height-cut c.0 (above (Some c.0) (alone page.tree)) i (alone page.tree) (distinct-alone page valid) (λ s h. refl) in
    subst (λ (e : Option ℕ). height (cut (above e (alone page.tree)) i (alone page.tree)) ≤ suc (suc m)) (sym c.1)
    (let k = c.2 in omega arith)
