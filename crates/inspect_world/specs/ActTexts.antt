-- What a line prints whose act is refused.
use Rattle.std.specs.Prelude.{ℕ, List, [], ◌∷◌, ◌++◌, codes, decimal, Option, Some, None}
use Rattle.page_tree.specs.declared.edit_faults.EditFault.{EditFault}
use Rattle.page_tree.specs.declared.edit_faults.EditFault.TheVariants.{NoNode, NotElement, NotText, IsDocument, NotChild, Inside, TooDeep}
use Rattle.page_tree.specs.declared.edit_faults.EditFault.TheVariants.{TooMany, BadName, NoAttr, NotContainer}
use Rattle.style_edits.specs.declared.faults.SheetFault.{SheetFault}
use Rattle.style_edits.specs.declared.faults.SheetFault.TheVariants as sheet_fault
use Rattle.back_end.specs.declared.faults.ActFault.{ActFault}
use Rattle.back_end.specs.declared.faults.ActFault.TheVariants.{Edit, Sheet}

-- the name of a fault of an edit of the nodes
abbrev pub edit_fault_name : EditFault → List ℕ
edit_fault_name NoNode = codes "NoNode"
edit_fault_name NotElement = codes "NotElement"
edit_fault_name NotText = codes "NotText"
edit_fault_name IsDocument = codes "IsDocument"
edit_fault_name NotChild = codes "NotChild"
edit_fault_name Inside = codes "Inside"
edit_fault_name TooDeep = codes "TooDeep"
edit_fault_name TooMany = codes "TooMany"
edit_fault_name BadName = codes "BadName"
edit_fault_name NoAttr = codes "NoAttr"
edit_fault_name NotContainer = codes "NotContainer"

-- the name of a fault of a change of the sheets
abbrev pub sheet_fault_name : SheetFault → List ℕ
sheet_fault_name sheet_fault.NoSheet = codes "NoSheet"
sheet_fault_name sheet_fault.NotMutable = codes "NotMutable"
sheet_fault_name sheet_fault.BadRange = codes "BadRange"
sheet_fault_name sheet_fault.BadText = codes "BadText"
sheet_fault_name sheet_fault.BadSelector = codes "BadSelector"
sheet_fault_name sheet_fault.BadPlace = codes "BadPlace"
sheet_fault_name sheet_fault.TooBig = codes "TooBig"

-- the name of what refuses an act
abbrev pub act_fault_name : ActFault → List ℕ
act_fault_name (Edit fault) = edit_fault_name fault
act_fault_name (Sheet fault) = sheet_fault_name fault

-- `line N: act refused: NAME`, by the number of the line
abbrev pub refused_line : ℕ → ActFault → List ℕ
refused_line number fault = codes "line " ++ decimal number ++ codes ": act refused: " ++ act_fault_name fault ++ 10 ∷ []

-- an act that is not refused prints nothing
abbrev pub act_text : ℕ → Option ActFault → List ℕ
act_text number None = []
act_text number (Some fault) = refused_line number fault
