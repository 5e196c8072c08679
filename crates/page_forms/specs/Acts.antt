-- The acts of a script, as JSON spells them: objects with exactly these properties. A letter is a whole number from 0 to 2^53-1.
use Rattle.std.specs.Prelude.{ℕ, List, [], ◌∷◌, codes, Option, None, option_map, option_and_then, ⊤}
use Rattle.serde_json.specs.Data.{Data}
use Rattle.cdp_json.specs.Kinds.{whole, text, anything, only_text}
use Rattle.cdp_json.specs.Rows.{Row, ends, and_need, object_of}
use Rattle.node_tree.specs.Keys.{first_of}
use Rattle.page_tree.specs.Loads.{node_in}
use Rattle.page_tree.specs.EditFaults.{CanInsert}
use Rattle.page_forms.specs.declared.acts.Act.{Act}
use Rattle.page_forms.specs.declared.acts.Act.TheVariants.{SetAttr, DropAttr, SetText, Insert, Remove, Move, AddSheet, DropSheet}
use Rattle.page_forms.specs.declared.acts.Act.TheVariants.{ReplaceSheet, Medium as SetMedium}
use Rattle.page_forms.specs.SheetActs.{add_sheet_row, drop_sheet_row, replace_sheet_row}
use Rattle.page_forms.specs.Mediums.{medium_act_row}

-- an object of this row
abbrev pub fields_in : {T : Type 0} → Row T → Data → Option T
fields_in row d = (object_of row).reads d

-- `{"do":"setAttr","name":NAME,"node":s,"value":VALUE}`
abbrev pub set_attr_row : Row (⊤ × (List ℕ × (ℕ × (List ℕ × ⊤))))
set_attr_row =
    and_need (codes "do") (only_text (codes "setAttr"))
    (and_need (codes "name") text
    (and_need (codes "node") whole
    (and_need (codes "value") text ends)))

-- an attribute that is set
abbrev pub set_attr_in : Data → Option Act
set_attr_in d = option_map (λ f. SetAttr f.1.1.0 f.1.0 f.1.1.1.0) (fields_in set_attr_row d)

-- `{"do":"dropAttr","name":NAME,"node":s}`
abbrev pub drop_attr_row : Row (⊤ × (List ℕ × (ℕ × ⊤)))
drop_attr_row = and_need (codes "do") (only_text (codes "dropAttr")) (and_need (codes "name") text (and_need (codes "node") whole ends))

-- an attribute that is taken away
abbrev pub drop_attr_in : Data → Option Act
drop_attr_in d = option_map (λ f. DropAttr f.1.1.0 f.1.0) (fields_in drop_attr_row d)

-- `{"do":"setText","node":s,"value":VALUE}`
abbrev pub set_text_row : Row (⊤ × (ℕ × (List ℕ × ⊤)))
set_text_row = and_need (codes "do") (only_text (codes "setText")) (and_need (codes "node") whole (and_need (codes "value") text ends))

-- a value that is set
abbrev pub set_text_in : Data → Option Act
set_text_in d = option_map (λ f. SetText f.1.0 f.1.1.0) (fields_in set_text_row d)

-- `{"before":b,"do":"insert","node":NODE,"parent":p}`
abbrev pub insert_row : Row (ℕ × (⊤ × (Data × (ℕ × ⊤))))
insert_row =
    and_need (codes "before") whole
    (and_need (codes "do") (only_text (codes "insert"))
    (and_need (codes "node") anything
    (and_need (codes "parent") whole ends)))

-- new nodes, where NODE is one
abbrev pub insert_in : Data → Option Act
insert_in d = option_and_then (λ f. option_map (Insert f.1.1.1.0 f.0) (node_in f.1.1.0)) (fields_in insert_row d)

-- `{"do":"remove","node":s}`
abbrev pub remove_row : Row (⊤ × (ℕ × ⊤))
remove_row = and_need (codes "do") (only_text (codes "remove")) (and_need (codes "node") whole ends)

-- a node that is taken out
abbrev pub remove_in : Data → Option Act
remove_in d = option_map (λ f. Remove f.1.0) (fields_in remove_row d)

-- `{"before":b,"do":"move","node":s,"parent":p}`
abbrev pub move_row : Row (ℕ × (⊤ × (ℕ × (ℕ × ⊤))))
move_row =
    and_need (codes "before") whole
    (and_need (codes "do") (only_text (codes "move"))
    (and_need (codes "node") whole
    (and_need (codes "parent") whole ends)))

-- a node that is moved
abbrev pub move_in : Data → Option Act
move_in d = option_map (λ f. Move f.1.1.0 f.1.1.1.0 f.0) (fields_in move_row d)

-- a new sheet, last
abbrev pub add_sheet_in : Data → Option Act
add_sheet_in d = option_map (λ f. AddSheet f.1.0 f.1.1.0) (fields_in add_sheet_row d)

-- a sheet that is taken out
abbrev pub drop_sheet_in : Data → Option Act
drop_sheet_in d = option_map (λ f. DropSheet f.1.0) (fields_in drop_sheet_row d)

-- a sheet that is taken out, and one of the same origin with this text put last
abbrev pub replace_sheet_in : Data → Option Act
replace_sheet_in d = option_map (λ f. ReplaceSheet f.1.0 f.1.1.0) (fields_in replace_sheet_row d)

-- another medium
abbrev pub medium_act_in : Data → Option Act
medium_act_in d = option_map (λ f. SetMedium (record { kind = f.1.0; width = f.1.1.0 })) (fields_in medium_act_row d)

-- the first of these that is there
abbrev pub first_act : List (Option Act) → Option Act
first_act [] = None
first_act (act ∷ acts) = first_of act (first_act acts)

-- the act that a value spells; none where it has none of the forms
abbrev pub act_in : Data → Option Act
act_in d =
    first_act (set_attr_in d ∷ drop_attr_in d ∷ set_text_in d ∷ insert_in d ∷ remove_in d ∷ move_in d
    ∷ add_sheet_in d ∷ drop_sheet_in d ∷ replace_sheet_in d ∷ medium_act_in d ∷ [])

-- the new nodes of an insert have the form that an insert asks for
abbrev pub IsInsertable : Act → Type 0
IsInsertable (SetAttr node name value) = ⊤
IsInsertable (DropAttr node name) = ⊤
IsInsertable (SetText node value) = ⊤
IsInsertable (Insert parent before form) = CanInsert form
IsInsertable (Remove node) = ⊤
IsInsertable (Move node parent before) = ⊤
IsInsertable (AddSheet origin bytes) = ⊤
IsInsertable (DropSheet sheet) = ⊤
IsInsertable (ReplaceSheet sheet bytes) = ⊤
IsInsertable (SetMedium medium) = ⊤
