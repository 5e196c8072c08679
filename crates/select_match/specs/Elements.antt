-- Elements of a page and the places that they have among their siblings.
use Rattle.std.specs.Prelude.{ℕ, zero, suc, ◌+◌, ◌%◌, ℤ, pos, negsuc, ◌-ℤ◌, Bool, true, false, not, ◌&&◌, ◌==◌, List, filter, length}
use Rattle.std.specs.Prelude.{Option, Some, None}
use Rattle.std.specs.Str.{bytes_eq}
use Rattle.node_tree.specs.declared.Kind.{Kind}
use Rattle.node_tree.specs.declared.Kind.TheVariants.{Document, Element, Text, Comment, Doctype}
use Rattle.node_tree.specs.Labels.{Label, Pair, is_document}
use Rattle.node_tree.specs.Labels as labels
use Rattle.page_tree.specs.Zippers.{Zipper, earlier, later}
use Rattle.selectors.specs.declared.selector.NthKind.{NthKind}
use Rattle.selectors.specs.declared.selector.NthKind.TheVariants.{Child, LastChild, OfType, LastOfType}
use Rattle.select_match.specs.Texts.{has_no_byte}

-- the label of a node
abbrev pub label_of : Zipper → Label
label_of z = z.branch.row.label

-- the kind of a node
abbrev pub kind_of : Zipper → Kind
kind_of z = (label_of z).kind

-- the name of a node
abbrev pub zipper_name : Zipper → List ℕ
zipper_name z = (label_of z).name

-- the attributes of a node
abbrev pub attributes_of : Zipper → List Pair
attributes_of z = (label_of z).attributes

-- the node is an element
abbrev pub is_element_node : Zipper → Bool
is_element_node z = labels.is_element (kind_of z)

-- those of some nodes that are elements
abbrev pub elements : List Zipper → List Zipper
elements zs = filter is_element_node zs

-- a text with something in it
abbrev pub fills_by : Kind → List ℕ → Bool
fills_by Element value = true
fills_by Text value = not (has_no_byte value)
fills_by Document value = false
fills_by Comment value = false
fills_by Doctype value = false

-- an element, or a text with something in it: what `:empty` finds no child to be
abbrev pub fills : Zipper → Bool
fills z = fills_by (kind_of z) (label_of z).value

-- an element's parent is the document
abbrev pub is_root_by : Option Zipper → Bool
is_root_by None = false
is_root_by (Some parent) = is_document (kind_of parent)

-- elements of one name
abbrev pub has_name_of : Zipper → Zipper → Bool
has_name_of z other = bytes_eq (zipper_name other) (zipper_name z)

-- the siblings on the side from which the index is counted
abbrev pub side : NthKind → Zipper → List Zipper
side Child z = earlier z
side LastChild z = later z
side OfType z = earlier z
side LastOfType z = later z

-- elements count; where the type is asked for, those of z's name
abbrev pub counts : NthKind → Zipper → Zipper → Bool
counts Child z other = is_element_node other
counts LastChild z other = is_element_node other
counts OfType z other = is_element_node other && has_name_of z other
counts LastOfType z other = is_element_node other && has_name_of z other

-- the place of an element among its siblings, counted from 1
abbrev pub index : NthKind → Zipper → ℕ
index kind z = length (filter (counts kind z) (side kind z)) + 1

-- d is a whole number of steps, at least none
abbrev pub is_reached : ℤ → ℤ → Bool
is_reached (pos zero) (pos d) = d == 0
is_reached (pos zero) (negsuc d) = false
is_reached (pos (suc a)) (pos d) = d % suc a == 0
is_reached (pos (suc a)) (negsuc d) = false
is_reached (negsuc a) (pos d) = d == 0
is_reached (negsuc a) (negsuc d) = suc d % suc a == 0

-- the index is step * n + offset for some whole n from 0 on
abbrev pub is_nth : ℤ → ℤ → ℕ → Bool
is_nth step offset i = is_reached step (pos i -ℤ offset)
