-- What a query finds: the nodes that have it as a part of one of their texts, and the elements that it selects.
use Rattle.std.specs.Prelude.{ℕ, Bool, false, ◌||◌, cond, List, [], ◌∷◌, filter, map, Option, Some, None}
use Rattle.std.specs.Char.{to_ascii_lowercase}
use Rattle.std.specs.List.{list_any}
use Rattle.node_tree.specs.Nodes.{Branch}
use Rattle.node_tree.specs.Labels.{Label, Pair}
use Rattle.page_tree.specs.Pages.{PageRow}
use Rattle.page_tree.specs.Zippers.{Zipper, root_of, below, serial_of}
use Rattle.selectors.specs.Forms.{SelectorForm}
use Rattle.selectors.specs.Reading.{selectors_of}
use Rattle.select_match.specs.Texts.{has_part, has_no_byte}
use Rattle.select_match.specs.Matches.{list_matches}

-- a text with ASCII letters in lower case
abbrev pub lowered : List ℕ → List ℕ
lowered text = map to_ascii_lowercase text

-- the part, which is in lower case, stands somewhere in the text, but for the case of ASCII letters
abbrev pub has_lowered : List ℕ → List ℕ → Bool
has_lowered part text = has_part part (lowered text)

-- the query stands somewhere in the text, but for the case of ASCII letters
abbrev pub has_query : List ℕ → List ℕ → Bool
has_query query text = has_lowered (lowered query) text

-- names and values of attributes
abbrev pub pair_texts : List Pair → List (List ℕ)
pair_texts [] = []
pair_texts (p ∷ ps) = p.0 ∷ p.1 ∷ pair_texts ps

-- The texts of a node: the name of an element or a doctype, the value of a text or a comment, the names and the values of
-- attributes. What a node has not of these is empty, so that only the empty query would be a part of it.
abbrev pub texts_of : Label → List (List ℕ)
texts_of l = l.name ∷ l.value ∷ pair_texts l.attributes

-- the part, which is in lower case, stands in one of the node's texts
abbrev pub has_text : List ℕ → Zipper → Bool
has_text part z = list_any (has_lowered part) (texts_of z.branch.row.label)

-- a selector of the list matches, if there is a list
abbrev pub some_selects : Option (List SelectorForm) → Zipper → Bool
some_selects None z = false
some_selects (Some l) z = list_matches l z

-- the query is a selector list, and a selector of it matches the node, an element
abbrev pub selects : List ℕ → Zipper → Bool
selects query z = some_selects (selectors_of query) z

-- the query finds the node
abbrev pub finds : List ℕ → Zipper → Bool
finds query z = has_text (lowered query) z || selects query z

-- the nodes of a page but the document, in document order
abbrev pub searched_nodes : Branch PageRow → List Zipper
searched_nodes document = below (root_of document)

-- the serials of the nodes that a query finds, in document order; an empty query finds none
abbrev pub found_in : Branch PageRow → List ℕ → List ℕ
found_in document query = cond (has_no_byte query) [] (map serial_of (filter (finds query) (searched_nodes document)))
