-- What a query finds are exactly the nodes that it finds, each once, in document order.
use Rattle.std.proofs.Common.{◌≡◌, ◌⊎◌, ℕ, ◌+◌, ◌≤◌, ◌==◌, Bool, true, false, cond, ◌||◌, List, [], ◌∷◌, ◌++◌, map, length, Option, Some}
use Rattle.std.proofs.Common.{None, inl, inr, refl, sym, ap, subst, ◌∙◌, arith, append-nil}
use Rattle.std.specs.Prelude.{◌≢◌, ◌↔◌}
use Rattle.std.proofs.lemmas.Bool.{eq-eqb, eqb-true}
use Rattle.std.specs.List.{filter, list_any, find}
use Rattle.node_tree.specs.Nodes.{none, Branch, alone}
use Rattle.page_tree.specs.Members.{IsIn, at_head, in_tail}
use Rattle.page_tree.specs.Pages.{PageRow, PageValue, IsValid}
use Rattle.page_tree.specs.Zippers.{Zipper, serial_of, has_serial, zippers, find_zipper, below, root_of, zipper_at}
use Rattle.page_tree.proofs.ZipperLemmas.{times, times-append, count-found, IsIn-append_left, IsIn-find, find-only}
use Rattle.selectors.specs.Forms.{SelectorForm}
use Rattle.selectors.specs.Reading.{selectors_of}
use Rattle.select_match.specs.Texts.{has_no_byte}
use Rattle.select_match.specs.Matches.{selector_matches, list_matches}
use Rattle.dom_search.specs.Found.{lowered, has_lowered, has_query, texts_of, has_text, some_selects, selects, finds, searched_nodes}
use Rattle.dom_search.specs.Found.{found_in}
use Rattle.dom_search.specs.FoundLaws.{FindsBy, by_text, by_selector, IsFound, IsOutOf, at_end, passes, takes, FindsExactly}
use Rattle.dom_search.specs.Merged.{merged}
use Rattle.dom_search.proofs.MergedLemmas.{AreApartNodes, merged-filter}

-- ---- the nodes of a page

-- the document is the first node, and the others are below it
pub zippers-root : (tree : Branch PageRow) → zippers tree ≡ root_of tree ∷ below (root_of tree)
zippers-root tree = ap (λ (l : List Zipper). root_of tree ∷ l) (append-nil (below (root_of tree)))

all-apart : (page : PageValue) → IsValid page → AreApartNodes (zippers page.tree)
all-apart page valid x = omega (arith, count-found x [] [] (alone page.tree), valid.distinct x)

pub nodes-apart : (page : PageValue) → IsValid page → AreApartNodes (searched_nodes page.tree)
nodes-apart page valid x =
    let all : times (has_serial x) (root_of page.tree ∷ searched_nodes page.tree) ≤ 1
    = subst (λ (l : List Zipper). times (has_serial x) l ≤ 1) (zippers-root page.tree) (all-apart page valid x) in
    omega (arith, all)

-- the document is found by its serial
pub root-at : (tree : Branch PageRow) → zipper_at tree.row.serial tree ≡ root_of tree
root-at tree = rw (eq-eqb tree.row.serial tree.row.serial refl) refl

-- ---- lists

module _ {A : Type 0} (test : A → Bool) where
  or_true : (a b : Bool) → b ≡ true → (a || b) ≡ true
  or_true true b e = refl
  or_true false b e = e

  any-in : (x : A) (xs : List A) → IsIn x xs → test x ≡ true → list_any test xs ≡ true
  any-in x [] i e = elim i [ ]
  any-in x (y ∷ xs) (at_head _) e = ap (λ (b : Bool). b || list_any test xs) e
  any-in x (y ∷ xs) (in_tail _ _ i) e = or_true (test y) (list_any test xs) (any-in x xs i e)

  -- some element passes
  abbrev SomePasses : List A → Type 0
  SomePasses xs = (x : A) × IsIn x xs × (test x ≡ true)

  any-step : (y : A) (xs : List A) → (list_any test xs ≡ true → SomePasses xs) → (b : Bool) → test y ≡ b → (b || list_any test xs) ≡ true
      → SomePasses (y ∷ xs)
  any-step y xs later true is e = (y, at_head xs, is)
  any-step y xs later false is e = let r = later e in (r.0, in_tail y xs r.1, r.2)

  in-any : (xs : List A) → list_any test xs ≡ true → SomePasses xs
  in-any [] e = absurd (cc)
  in-any (y ∷ xs) e = any-step y xs (in-any xs) (test y) refl e

  passes-step : (x y : A) (xs : List A) → (IsIn x (filter test xs) → IsIn x xs × (test x ≡ true)) → (b : Bool) → test y ≡ b
      → IsIn x (cond b (y ∷ filter test xs) (filter test xs)) → IsIn x (y ∷ xs) × (test x ≡ true)
  passes-step x y xs later true is (at_head _) = (at_head xs, is)
  passes-step x y xs later true is (in_tail _ _ i) = let r = later i in (in_tail y xs r.0, r.1)
  passes-step x y xs later false is i = let r = later i in (in_tail y xs r.0, r.1)

  pub passes-in : (x : A) (xs : List A) → IsIn x (filter test xs) → IsIn x xs × (test x ≡ true)
  passes-in x [] i = elim i [ ]
  passes-in x (y ∷ xs) i = passes-step x y xs (passes-in x xs) (test y) refl i

  further : (x y : A) (xs : List A) (b : Bool) → IsIn x (filter test xs) → IsIn x (cond b (y ∷ filter test xs) (filter test xs))
  further x y xs true i = in_tail y _ i
  further x y xs false i = i

  pub in-passes : (x : A) (xs : List A) → IsIn x xs → test x ≡ true → IsIn x (filter test xs)
  in-passes x [] i e = elim i [ ]
  in-passes x (y ∷ xs) (at_head _) e = subst (λ (b : Bool). IsIn x (cond b (x ∷ filter test xs) (filter test xs))) (sym e) (at_head _)
  in-passes x (y ∷ xs) (in_tail _ _ i) e = further x y xs (test y) (in-passes x xs i e)

  has-step : (x y : A) (o : Option A) → (o ≡ Some x → test x ≡ true) → (b : Bool) → test y ≡ b → cond b (Some y) o ≡ Some x → test x ≡ true
  has-step x y o later true is e = let same : y ≡ x = cc in subst (λ (w : A). test w ≡ true) same is
  has-step x y o later false is e = later e

  found-has : (xs : List A) (x : A) → find test xs ≡ Some x → test x ≡ true
  found-has [] x e = absurd (cc)
  found-has (y ∷ xs) x e = has-step x y (find test xs) (found-has xs x) (test y) refl e

in-map : (z : Zipper) (zs : List Zipper) → IsIn z zs → IsIn (serial_of z) (map serial_of zs)
in-map z [] i = elim i [ ]
in-map z (y ∷ zs) (at_head _) = at_head _
in-map z (y ∷ zs) (in_tail _ _ i) = in_tail (serial_of y) _ (in-map z zs i)

map-in : (s : ℕ) (zs : List Zipper) → IsIn s (map serial_of zs) → (z : Zipper) × IsIn z zs × (serial_of z ≡ s)
map-in s [] i = elim i [ ]
map-in s (y ∷ zs) (at_head _) = (y, at_head zs, refl)
map-in s (y ∷ zs) (in_tail _ _ i) = let r = map-in s zs i in (r.0, in_tail y zs r.1, r.2)

-- ---- what a query finds

module _ (query : List ℕ) (z : Zipper) where
  either-holds : (a b : Bool) → (a || b) ≡ true → (a ≡ true) ⊎ (b ≡ true)
  either-holds true b e = inl refl
  either-holds false b e = inr e

  found-by : finds query z ≡ true → FindsBy query z
  found-by e = elim (either-holds (has_text (lowered query) z) (selects query z) e) as (λ _. FindsBy query z) [
    | inl t ↦ let r = in-any (has_lowered (lowered query)) (texts_of z.branch.row.label) t in by_text r.0 r.1 r.2
    | inr s ↦ selected (selectors_of query) refl s
  ] where
    selected : (o : Option (List SelectorForm)) → selectors_of query ≡ o → some_selects o z ≡ true → FindsBy query z
    selected None is s = absurd (cc)
    selected (Some l) is s = let r = in-any (λ s. selector_matches s z) l s in by_selector l r.0 is r.1 r.2

  or_first : (a b : Bool) → a ≡ true → (a || b) ≡ true
  or_first a b e = ap (λ (x : Bool). x || b) e

  or_second : (a b : Bool) → b ≡ true → (a || b) ≡ true
  or_second true b e = refl
  or_second false b e = e

  by-found : FindsBy query z → finds query z ≡ true
  by-found (by_text text i h) =
      or_first (has_text (lowered query) z) (selects query z) (any-in (has_lowered (lowered query)) text (texts_of z.branch.row.label) i h)
  by-found (by_selector l s is i h) =
      or_second (has_text (lowered query) z) (selects query z)
      (ap (λ (o : Option (List SelectorForm)). some_selects o z) is ∙ any-in (λ s. selector_matches s z) s l i h)

none-pass : (zs : List Zipper) → map serial_of (filter (some_selects None) zs) ≡ []
none-pass [] = refl
none-pass (z ∷ zs) = none-pass zs

-- without a selector list nothing is selected
pub none-selected : (zs : List Zipper) (o : Option (List SelectorForm)) → o ≡ None → map serial_of (filter (some_selects o) zs) ≡ []
none-selected zs o is = ap (λ (o : Option (List SelectorForm)). map serial_of (filter (some_selects o) zs)) is ∙ none-pass zs

-- ---- the law

module _ (page : PageValue) (valid : IsValid page) (query : List ℕ) where
  abbrev nodes : List Zipper
  nodes = searched_nodes page.tree

  abbrev by_test : Bool → List ℕ
  by_test b = cond b [] (map serial_of (filter (finds query) nodes))

  -- a node below the document is one of the page
  node-live : (z : Zipper) → IsIn z nodes → find_zipper (serial_of z) page.tree ≡ Some z
  node-live z i =
      let there : IsIn z (zippers page.tree)
      = subst (λ (l : List Zipper). IsIn z l) (sym (zippers-root page.tree)) (in_tail (root_of page.tree) nodes i) in
      find-only (has_serial (serial_of z)) there (eq-eqb (serial_of z) (serial_of z) refl) (all-apart page valid (serial_of z))

  some_passes : (x : ℕ) (z : Zipper) (zs : List Zipper) → IsIn z zs → serial_of z ≡ x → 1 ≤ times (has_serial x) zs
  some_passes x z [] i e = elim i [ ]
  some_passes x z (y ∷ zs) (at_head _) e =
      let one : cond {A = ℕ} (serial_of y == x) 1 0 ≡ 1 = ap (λ (b : Bool). cond {A = ℕ} b 1 0) (eq-eqb (serial_of y) x e) in
      omega (arith, one)
  some_passes x z (y ∷ zs) (in_tail _ _ i) e = omega (arith, some_passes x z zs i e)

  -- and it is not the document
  no-root : (z : Zipper) → IsIn z nodes → serial_of z ≢ page.tree.row.serial
  no-root z i e =
      let s = page.tree.row.serial in
      let all : times (has_serial s) (root_of page.tree ∷ nodes) ≤ 1
      = subst (λ (l : List Zipper). times (has_serial s) l ≤ 1) (zippers-root page.tree) (all-apart page valid s) in
      let one : cond {A = ℕ} (s == s) 1 0 ≡ 1 = ap (λ (b : Bool). cond {A = ℕ} b 1 0) (eq-eqb s s refl) in
      absurd (omega (arith, all, one, some_passes s z nodes i e))

  in-found : (s : ℕ) (b : Bool) → has_no_byte query ≡ b → IsIn s (by_test b) → IsFound page query s
  in-found s true is i = elim i [ ]
  in-found s false is i =
      let r = map-in s (filter (finds query) nodes) i in
      let t = passes-in (finds query) r.0 nodes r.1 in
      subst (IsFound page query) r.2 (record {
        node = r.0;
        live = node-live r.0 t.0;
        no_document = no-root r.0 t.0;
        asked = is;
        found = found-by query r.0 t.1;
      })

  -- a node of the page that is not the document is below it
  below-root : (s : ℕ) (z : Zipper) → find_zipper s page.tree ≡ Some z → s ≢ page.tree.row.serial → IsIn z nodes × (serial_of z ≡ s)
  below-root s z live other =
      at (page.tree.row.serial == s) refl (subst (λ (l : List Zipper). find (has_serial s) l ≡ Some z) (zippers-root page.tree) live)
    where
      at : (b : Bool) → (page.tree.row.serial == s) ≡ b → cond b (Some (root_of page.tree)) (find (has_serial s) nodes) ≡ Some z
          → IsIn z nodes × (serial_of z ≡ s)
      at true is e = absurd (other (sym (eqb-true page.tree.row.serial s is)))
      at false is e = (IsIn-find (has_serial s) nodes z e, eqb-true (serial_of z) s (found-has (has_serial s) nodes z e))

  found-in : (s : ℕ) → IsFound page query s → IsIn s (found_in page.tree query)
  found-in s f =
      let b = below-root s f.node f.live f.no_document in
      let i : IsIn s (by_test false)
      = subst (λ (n : ℕ). IsIn n (by_test false)) b.1
      (in-map f.node _ (in-passes (finds query) f.node nodes b.0 (by-found query f.node f.found))) in
      subst (λ (c : Bool). IsIn s (by_test c)) (sym f.asked) i

  -- ---- once, and in order

  abbrev serials_found : List Zipper → List ℕ
  serials_found zs = map serial_of (filter (finds query) zs)

  once-step : (s : ℕ) (z : Zipper) (zs : List Zipper) → length (filter (λ n. n == s) (serials_found zs)) ≤ times (has_serial s) zs
      → (b c : Bool) → (serial_of z == s) ≡ c
      → length (filter (λ n. n == s) (map serial_of (cond b (z ∷ filter (finds query) zs) (filter (finds query) zs))))
      ≤ cond {A = ℕ} (serial_of z == s) 1 0 + times (has_serial s) zs
  once-step s z zs rest true true is = rw is (omega (arith, rest))
  once-step s z zs rest true false is = rw is (omega (arith, rest))
  once-step s z zs rest false c is = omega (arith, rest)

  once-by : (s : ℕ) (zs : List Zipper) → length (filter (λ n. n == s) (serials_found zs)) ≤ times (has_serial s) zs
  once-by s [] = omega arith
  once-by s (z ∷ zs) = once-step s z zs (once-by s zs) (finds query z) (serial_of z == s) refl

  once-in : (s : ℕ) (b : Bool) → length (filter (λ n. n == s) (by_test b)) ≤ 1
  once-in s true = omega arith
  once-in s false = omega (arith, once-by s nodes, nodes-apart page valid s)

  order-step : (z : Zipper) (zs : List Zipper) (b : Bool) → IsOutOf (serials_found zs) (map serial_of zs)
      → IsOutOf (map serial_of (cond b (z ∷ filter (finds query) zs) (filter (finds query) zs))) (serial_of z ∷ map serial_of zs)
  order-step z zs true rest = takes (serial_of z) _ _ rest
  order-step z zs false rest = passes (serial_of z) _ _ rest

  order-by : (zs : List Zipper) → IsOutOf (serials_found zs) (map serial_of zs)
  order-by [] = at_end
  order-by (z ∷ zs) = order-step z zs (finds query z) (order-by zs)

  none-order : (xs : List ℕ) → IsOutOf [] xs
  none-order [] = at_end
  none-order (x ∷ xs) = passes x [] xs (none-order xs)

  order-in : (b : Bool) → IsOutOf (by_test b) (map serial_of nodes)
  order-in true = none-order _
  order-in false = order-by nodes

  pub finds-exactly : FindsExactly page query
  finds-exactly = record {
    members = λ s. (in-found s (has_no_byte query) refl, found-in s);
    once = λ s. once-in s (has_no_byte query);
    in_order = subst (λ (l : List Zipper). IsOutOf (found_in page.tree query) (map serial_of l)) (sym (zippers-root page.tree))
        (passes page.tree.row.serial _ _ (order-in (has_no_byte query)));
  }

  -- ---- what a walk finds

  -- a walk over the page beside the list of what the query selects
  pub walk-found : (part serials items : List ℕ) (z : Zipper) → z ≡ root_of page.tree → part ≡ lowered query
      → serials ≡ map serial_of (filter (selects query) nodes) → has_no_byte query ≡ false
      → items ≡ merged (has_text part) serials (below z) → items ≡ found_in page.tree query
  walk-found part serials items z root lower listed asked walked =
      walked ∙ (λ i. merged (has_text (lower i)) (listed i) (below (root i)))
      ∙ merged-filter (selects query) (has_text (lowered query)) nodes (nodes-apart page valid)
      ∙ sym (ap (λ (b : Bool). by_test b) asked)
