-- Edits of one small page, worked out by the definitions.
use Rattle.std.proofs.Common.{◌≡◌, ℕ, List, [], ◌∷◌, Some, None, codes, refl}
use Rattle.node_tree.specs.Nodes.{Nodes, none, node, Branch}
use Rattle.node_tree.specs.Labels.{Pair, Label}
use Rattle.node_tree.specs.declared.Kind.TheVariants.{Element, Text, Doctype}
use Rattle.page_tree.specs.Pages.{PageRow, document_label}
use Rattle.page_tree.specs.Edits.{after_all, after_tree, back_tree, moved_before, copy_edits, move_edits}
use Rattle.page_tree.specs.EditFaults.{first_fault, insert_fault, move_fault, copy_fault}
use Rattle.page_tree.specs.declared.edits.TreeEdit.TheVariants.{SetAttr, DropAttr, SetText, Attach, Detach}
use Rattle.page_tree.specs.declared.edit_faults.EditFault.TheVariants.{NoNode, NotElement, NotText, IsDocument, NotChild, Inside, BadName}
use Rattle.page_tree.specs.declared.edit_faults.EditFault.TheVariants.{NoAttr, NotContainer}

abbrev text : Label
text = record { kind = Text; name = []; value = codes "T"; attributes = [] }

abbrev element : List Pair → Label
element attributes = record { kind = Element; name = codes "p"; value = []; attributes = attributes }

abbrev doctype : Label
doctype = record { kind = Doctype; name = codes "html"; value = []; attributes = [] }

abbrev b_is_1 : List Pair
b_is_1 = (codes "b", codes "1") ∷ []

abbrev page_of : Nodes PageRow → Branch PageRow
page_of nodes = record { row = record { serial = 1; label = document_label }; children = nodes }

abbrev at : ℕ → Label → PageRow
at serial l = record { serial = serial; label = l }

-- a doctype 2, an element 3 with a text 4 and an element 5, and a text 6
abbrev page : Branch PageRow
page = page_of (node (at 2 doctype) none
    (node (at 3 (element b_is_1)) (node (at 4 text) none (node (at 5 (element [])) none none)) (node (at 6 text) none none)))

-- ---- inverses

a_new_attribute_is_dropped : back_tree (SetAttr 3 (codes "a") (codes "2")) page ≡ DropAttr 3 (codes "a")
a_new_attribute_is_dropped = refl

a_set_attribute_is_set_back : back_tree (SetAttr 3 (codes "b") (codes "2")) page ≡ SetAttr 3 (codes "b") (codes "1")
a_set_attribute_is_set_back = refl

a_node_goes_back_before_its_sibling : back_tree (Detach 4) page ≡ Attach 3 5 (record { row = at 4 text; children = none })
a_node_goes_back_before_its_sibling = refl

the_last_goes_back_last : back_tree (Detach 6) page ≡ Attach 1 0 (record { row = at 6 text; children = none })
the_last_goes_back_last = refl

attributes_stand_in_order : after_tree (SetAttr 3 (codes "a") []) page
    ≡ page_of (node (at 2 doctype) none
    (node (at 3 (element ((codes "a", []) ∷ b_is_1))) (node (at 4 text) none (node (at 5 (element [])) none none))
    (node (at 6 text) none none)))
attributes_stand_in_order = refl

-- ---- moves

before_itself_is_before_its_sibling : moved_before 4 3 4 page ≡ 5
before_itself_is_before_its_sibling = refl

the_last_before_itself_is_last : moved_before 6 1 6 page ≡ 0
the_last_before_itself_is_last = refl

before_itself_elsewhere_is_no_place : move_fault 4 1 4 page ≡ Some NotChild
before_itself_elsewhere_is_no_place = refl

to_the_end : after_all (move_edits 4 3 0 page) (record { tree = page; next = 7 })
    ≡ record {
      tree = page_of (node (at 2 doctype) none
          (node (at 3 (element b_is_1)) (node (at 5 (element [])) none (node (at 4 text) none none)) (node (at 6 text) none none)));
      next = 7;
    }
to_the_end = refl

a_copy_has_new_serials : after_all (copy_edits 3 1 6 (record { tree = page; next = 7 })) (record { tree = page; next = 7 })
    ≡ record {
      tree = page_of (node (at 2 doctype) none
          (node (at 3 (element b_is_1)) (node (at 4 text) none (node (at 5 (element [])) none none))
          (node (at 7 (element b_is_1)) (node (at 8 text) none (node (at 9 (element [])) none none)) (node (at 6 text) none none))));
      next = 10;
    }
a_copy_has_new_serials = refl

-- ---- two faults at once: the first by number

no_node_before_bad_name : first_fault (SetAttr 9 (codes "A") []) page ≡ Some NoNode
no_node_before_bad_name = refl

no_element_before_bad_name : first_fault (SetAttr 4 (codes "A") []) page ≡ Some NotElement
no_element_before_bad_name = refl

bad_name_before_no_attribute : first_fault (DropAttr 3 (codes "A")) page ≡ Some BadName
bad_name_before_no_attribute = refl

nothing_to_drop : first_fault (DropAttr 3 (codes "a")) page ≡ Some NoAttr
nothing_to_drop = refl

no_text : first_fault (SetText 3 []) page ≡ Some NotText
no_text = refl

no_child_before_inside : move_fault 3 5 6 page ≡ Some NotChild
no_child_before_inside = refl

inside_before_no_container : move_fault 3 4 0 page ≡ Some Inside
inside_before_no_container = refl

into_itself : move_fault 3 3 0 page ≡ Some Inside
into_itself = refl

a_copy_goes_into_itself : copy_fault 3 3 0 page ≡ None
a_copy_goes_into_itself = refl

the_document_stays : first_fault (Detach 1) page ≡ Some IsDocument
the_document_stays = refl

a_doctype_stays_at_the_top : move_fault 2 3 0 page ≡ Some NotContainer
a_doctype_stays_at_the_top = refl

no_doctype_below_an_element : insert_fault 3 0 (record { row = doctype; children = none }) page ≡ Some NotContainer
no_doctype_below_an_element = refl

a_bad_name_before_no_container : insert_fault 4 0 (record { row = record doctype { name = [] }; children = none }) page ≡ Some BadName
a_bad_name_before_no_container = refl
