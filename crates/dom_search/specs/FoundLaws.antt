-- What a query finds, in the words of the field.
use Rattle.std.specs.Prelude.{◌≡◌, ◌≢◌, ℕ, ◌≤◌, ◌==◌, true, false, List, [], ◌∷◌, filter, map, length, ◌↔◌, Some}
use Rattle.page_tree.specs.Members.{IsIn}
use Rattle.page_tree.specs.Pages.{PageValue, IsValid}
use Rattle.page_tree.specs.Zippers.{Zipper, serial_of, zippers, find_zipper}
use Rattle.selectors.specs.Forms.{SelectorForm}
use Rattle.selectors.specs.Reading.{selectors_of}
use Rattle.select_match.specs.Texts.{has_no_byte}
use Rattle.select_match.specs.Matches.{selector_matches}
use Rattle.dom_search.specs.Found.{texts_of, has_query, found_in}

-- A query finds a node by one of its texts, of which the query is a part; or, where it is a selector list, by one of the selectors,
-- which matches the node.
pub data FindsBy (query : List ℕ) (z : Zipper) : Type 0 where
  by_text : (text : List ℕ) → IsIn text (texts_of z.branch.row.label) → has_query query text ≡ true → FindsBy query z
  by_selector : (l : List SelectorForm) (s : SelectorForm) → selectors_of query ≡ Some l → IsIn s l → selector_matches s z ≡ true
      → FindsBy query z

-- a node of the page has the serial; it is not the document, and the query, which is not empty, finds it
pub record IsFound (page : PageValue) (query : List ℕ) (serial : ℕ) : Type 0 where
  pub node : Zipper
  pub live : find_zipper serial page.tree ≡ Some node
  pub no_document : serial ≢ page.tree.row.serial
  pub asked : has_no_byte query ≡ false
  pub found : FindsBy query node

-- the first list is the second without some of its elements
pub data IsOutOf {A : Type 0} : List A → List A → Type 0 where
  at_end : IsOutOf [] []
  passes : (y : A) (xs ys : List A) → IsOutOf xs ys → IsOutOf xs (y ∷ ys)
  takes : (x : A) (xs ys : List A) → IsOutOf xs ys → IsOutOf (x ∷ xs) (x ∷ ys)

-- what is found: the serials of exactly these nodes, each once, in document order
pub record FindsExactly (page : PageValue) (query : List ℕ) : Type 0 where
  pub members : (serial : ℕ) → IsIn serial (found_in page.tree query) ↔ IsFound page query serial
  pub once : (serial : ℕ) → length (filter (λ s. s == serial) (found_in page.tree query)) ≤ 1
  pub in_order : IsOutOf (found_in page.tree query) (map serial_of (zippers page.tree))
