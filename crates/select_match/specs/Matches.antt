-- Which elements a selector matches (Selectors 3, sections 6 and 8).
use Rattle.std.specs.Prelude.{Bool, true, false, not, ◌&&◌, ◌==◌, List, [], ◌∷◌, filter, take, reverse, codes}
use Rattle.std.specs.Str.{bytes_eq}
use Rattle.std.specs.List.{list_any, list_all}
use Rattle.selectors.specs.declared.selector.Joint.{Joint}
use Rattle.selectors.specs.declared.selector.Joint.TheVariants.{Descendant, Child, Next, Later}
use Rattle.selectors.specs.declared.selector.NthKind.TheVariants as sides
use Rattle.selectors.specs.Forms.{TestForm, any, tag, id, class, attr, root, empty, nth, only_child, only_of_type, never, SimpleForm, is}
use Rattle.selectors.specs.Forms.{is_not, CompoundForm, SelectorForm}
use Rattle.node_tree.specs.Labels.{value_of}
use Rattle.page_tree.specs.Zippers.{Zipper, ancestors, earlier, children_of, parent_of, below}
use Rattle.select_match.specs.Texts.{same_name, has_word, compares, has_attribute, value_passes}
use Rattle.select_match.specs.Elements.{is_element_node, elements, zipper_name, attributes_of, fills, is_root_by, index, is_nth}

-- what a simple selector asks of an element
abbrev pub test_holds : TestForm → Zipper → Bool
test_holds any z = true
test_holds (tag name) z = same_name (zipper_name z) name
test_holds (id value) z = value_passes (λ v. bytes_eq v value) (value_of (codes "id") (attributes_of z))
test_holds (class word) z = value_passes (has_word word) (value_of (codes "class") (attributes_of z))
test_holds (attr name op operand) z = has_attribute name (compares op operand) (attributes_of z)
test_holds root z = is_root_by (parent_of z)
test_holds empty z = not (list_any fills (children_of z))
test_holds (nth kind step offset) z = is_nth step offset (index kind z)
test_holds only_child z = index sides.Child z == 1 && index sides.LastChild z == 1
test_holds only_of_type z = index sides.OfType z == 1 && index sides.LastOfType z == 1
test_holds never z = false

-- what a simple selector asks of an element, whether it stands alone or inside `:not()`
abbrev pub simple_holds : SimpleForm → Zipper → Bool
simple_holds (is t) z = test_holds t z
simple_holds (is_not t) z = not (test_holds t z)

-- an element that is as each part of a compound asks
abbrev pub compound_holds : CompoundForm → Zipper → Bool
compound_holds c z = is_element_node z && list_all (λ s. simple_holds s z) c.tests

-- the nodes that a combinator leads to on the left
abbrev pub reached : Joint → Zipper → List Zipper
reached Descendant z = ancestors z
reached Child z = take 1 (ancestors z)
reached Next z = take 1 (elements (earlier z))
reached Later z = earlier z

-- some chain of elements to the left is as the compounds ask, which stand from right to left; the joint ties them to z
abbrev pub left_holds : List CompoundForm → Joint → Zipper → Bool
left_holds [] joint z = true
left_holds (c ∷ cs) joint z = list_any (λ q. compound_holds c q && left_holds cs c.joint q) (reached joint z)

-- z is as the first of the compounds asks, and what is left of it as the others do; they stand from right to left
abbrev pub chain_holds : List CompoundForm → Zipper → Bool
chain_holds [] z = is_element_node z
chain_holds (c ∷ cs) z = compound_holds c z && left_holds cs c.joint z

-- a selector matches an element; one with a pseudo-element matches none
abbrev pub selector_matches : SelectorForm → Zipper → Bool
selector_matches s z = not s.pseudo_element && chain_holds (reverse s.compounds) z

-- some selector of a list does
abbrev pub list_matches : List SelectorForm → Zipper → Bool
list_matches l z = list_any (λ s. selector_matches s z) l

-- the elements below a node that a list matches, in document order
abbrev pub matching_below : List SelectorForm → Zipper → List Zipper
matching_below l z = filter (list_matches l) (below z)
