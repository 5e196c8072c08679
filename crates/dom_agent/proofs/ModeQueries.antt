-- What a query finds in a page stands in the shown page: it is an element, and no mode hides one.
use Rattle.std.proofs.Common.{◌≡◌, ℕ, not, Bool, true, false, cond, List, [], ◌∷◌, reverse, find}
use Rattle.std.proofs.Common.{Option, Some, None, IsSome}
use Rattle.std.proofs.Common.{option_map, inl, inr, subst, refl, sym, ap, ◌∙◌}
use Rattle.std.proofs.lemmas.Bool.{and_parts}
use Rattle.node_tree.specs.Nodes.{alone}
use Rattle.node_tree.specs.Keys.{has}
use Rattle.node_tree.specs.Labels.{holds, is_element}
use Rattle.node_tree.specs.declared.Kind.{Kind}
use Rattle.node_tree.specs.declared.Kind.TheVariants.{Document, Element, Text, Comment, Doctype}
use Rattle.page_tree.specs.Pages.{row_serial, PageValue, IsValid, find_in}
use Rattle.page_tree.specs.Zippers.{Zipper, serial_of, below, zipper_at}
use Rattle.page_tree.proofs.ZipperLemmas.{IsIn-find}
use Rattle.selectors.specs.Forms.{SelectorForm, CompoundForm}
use Rattle.select_match.specs.Elements.{is_element_node}
use Rattle.select_match.specs.Matches.{compound_holds, chain_holds, selector_matches, list_matches}
use Rattle.shown_pages.specs.declared.modes.Mode.{Mode}
use Rattle.shown_pages.specs.ShownPages.{shown_page}
use Rattle.shown_pages.proofs.HiddenLemmas.{holder-shown}
use Rattle.shown_pages.proofs.FoundLemmas.{below-shown}
use Rattle.dom_agent.specs.ModeEdits.{FindsShown}
use Rattle.dom_agent.proofs.SetLemmas.{or_split}

-- ---- what matches is an element

chain_element : (cs : List CompoundForm) (z : Zipper) → chain_holds cs z ≡ true → is_element_node z ≡ true
chain_element [] z e = e
chain_element (c ∷ cs) z e = (and_parts (is_element_node z) _ (and_parts (compound_holds c z) _ e).0).0

matched_element : (l : List SelectorForm) (z : Zipper) → list_matches l z ≡ true → is_element_node z ≡ true
matched_element [] z e = absurd (cc)
matched_element (s ∷ l) z e = elim (or_split (selector_matches s z) (list_matches l z) e) [
  | inl h ↦ chain_element (reverse s.compounds) z (and_parts (not s.pseudo_element) _ h).1
  | inr h ↦ matched_element l z h
]

element_holds : (k : Kind) → is_element k ≡ true → holds k ≡ true
element_holds Document e = absurd (cc)
element_holds Element e = refl
element_holds Text e = absurd (cc)
element_holds Comment e = absurd (cc)
element_holds Doctype e = absurd (cc)

-- ---- what is found passes

passes_step : {A : Type 0} (p : A → Bool) (y x : A) (xs : List A) (b : Bool) → p y ≡ b → cond b (Some y) (find p xs) ≡ Some x
    → (find p xs ≡ Some x → p x ≡ true) → p x ≡ true
passes_step p y x xs true is e k = let same : y ≡ x = cc in ap p (sym same) ∙ is
passes_step p y x xs false is e k = k e

find_passes : {A : Type 0} (p : A → Bool) (xs : List A) (x : A) → find p xs ≡ Some x → p x ≡ true
find_passes p [] x e = absurd (cc)
find_passes p (y ∷ xs) x e = passes_step p y x xs (p y) refl e (λ f. find_passes p xs x f)

-- ---- so it is shown

found_shown : (mode : Mode) (page : PageValue) (l : List SelectorForm) (root s : ℕ) → IsValid page
    → IsSome (find_in root (shown_page mode page).tree) → (o : Option Zipper) → find (list_matches l) (below (zipper_at root page.tree)) ≡ o
    → option_map serial_of o ≡ Some s → has row_serial s (alone (shown_page mode page).tree) ≡ true
found_shown mode page l root s valid live None found is = absurd (cc)
found_shown mode page l root s valid live (Some z) found is =
    let same : serial_of z ≡ s = cc in
    let zs : List Zipper = below (zipper_at root page.tree) in
    let element = matched_element l z (find_passes (list_matches l) (below (zipper_at root page.tree)) z found) in
    let open_to_all = holder-shown mode z.branch.row.label (element_holds z.branch.row.label.kind element) in
    subst (λ (k : ℕ). has row_serial k (alone (shown_page mode page).tree) ≡ true) same
    (below-shown mode page root z valid live (IsIn-find (list_matches l) (below (zipper_at root page.tree)) z found) open_to_all)

pub finds_shown : FindsShown
finds_shown mode page valid l root s live found =
    found_shown mode page l root s valid live (find (list_matches l) (below (zipper_at root page.tree))) refl found
