-- The texts of edits of a page and of commands; those of loads and acts stand where these are read.
use Rattle.std.specs.Prelude.{ℕ, ⊤}
use Rattle.std.specs.Str.{IsUtf8}
use Rattle.node_tree.specs.Nodes.{Branch, alone}
use Rattle.page_tree.specs.Pages.{PageRow}
use Rattle.page_tree.specs.EditFaults.{IsReady}
use Rattle.page_tree.specs.declared.edits.TreeEdit.{TreeEdit}
use Rattle.page_tree.specs.declared.edits.TreeEdit.TheVariants.{SetAttr, DropAttr, SetText, Attach, Detach}
use Rattle.cdp_json.specs.Plain.{HasUtf8}
use Rattle.cdp_messages.specs.declared.command.Command.{Command}
use Rattle.cdp_messages.specs.declared.command.Command.TheVariants.{DomEnable, DomDisable, AskDom, EditDom, MarkUndoableState, Undo, Redo}
use Rattle.cdp_messages.specs.declared.command.Command.TheVariants.{CssEnable, CssDisable, AskCss, EditCss, SetBreakpoint, RemoveBreakpoint}
use Rattle.cdp_messages.specs.declared.command.Command.TheVariants.{ReplayLoad, ReplayAct, AskSearch}
use Rattle.cdp_messages.specs.declared.dom_edit.DomEdit.{DomEdit}
use Rattle.cdp_messages.specs.declared.dom_edit.DomEdit.TheVariants as dom
use Rattle.back_end.specs.declared.node_edits.TreeWish.{TreeWish}
use Rattle.back_end.specs.declared.node_edits.TreeWish.TheVariants.{One, MoveNode, CopyNode}
use Rattle.css_agent.specs.EditLaws.{HasEditTexts}
use Rattle.dom_agent.specs.Laws.{RowsHaveUtf8}
use Rattle.undo_marks.specs.declared.inverse_lists.Inverse.{Inverse}
use Rattle.undo_marks.specs.declared.inverse_lists.Inverse.TheVariants.{Tree, Sheet}
pub use Rattle.page_forms.specs.Texts.{HaveTexts, FormHasTexts, SheetsHaveTexts, PageHasTexts, ActHasTexts}

-- the texts of an edit of the page are UTF-8
abbrev pub EditHasTexts : TreeEdit → Type 0
EditHasTexts (SetAttr serial name value) = IsUtf8 name × IsUtf8 value
EditHasTexts (DropAttr serial name) = IsUtf8 name
EditHasTexts (SetText serial value) = IsUtf8 value
EditHasTexts (Attach parent before tree) = RowsHaveUtf8 (alone tree)
EditHasTexts (Detach serial) = ⊤

-- the texts of an edit out of a history are; a splice that a page takes has such a text
abbrev pub KeptHasTexts : Inverse → Type 0
KeptHasTexts (Tree e) = EditHasTexts e
KeptHasTexts (Sheet s) = IsUtf8 s.text

-- the texts of a client's edit of the tree are
abbrev pub HasTreeTexts : DomEdit → Type 0
HasTreeTexts (dom.SetAttributeValue node name value) = IsUtf8 name × IsUtf8 value
HasTreeTexts (dom.RemoveAttribute node name) = IsUtf8 name
HasTreeTexts (dom.SetNodeValue node value) = IsUtf8 value
HasTreeTexts (dom.RemoveNode node) = ⊤
HasTreeTexts (dom.MoveTo node target before) = ⊤
HasTreeTexts (dom.CopyTo node target before) = ⊤

-- the texts that a command brings into the page are
abbrev pub HasServedTexts : Command → Type 0
HasServedTexts (DomEnable word) = ⊤
HasServedTexts DomDisable = ⊤
HasServedTexts (AskDom ask) = ⊤
HasServedTexts (EditDom edit) = HasTreeTexts edit
HasServedTexts (AskSearch ask) = ⊤
HasServedTexts MarkUndoableState = ⊤
HasServedTexts Undo = ⊤
HasServedTexts Redo = ⊤
HasServedTexts CssEnable = ⊤
HasServedTexts CssDisable = ⊤
HasServedTexts (AskCss ask) = ⊤
HasServedTexts (EditCss edit) = HasEditTexts edit
HasServedTexts (SetBreakpoint node kind) = ⊤
HasServedTexts (RemoveBreakpoint node kind) = ⊤
HasServedTexts (ReplayLoad params) = HasUtf8 params
HasServedTexts (ReplayAct params) = HasUtf8 params

-- An edit with nodes by their serials: one alone attaches no tree of its own, and its texts are UTF-8.
abbrev pub IsPlainEdit : TreeWish → Type 0
IsPlainEdit (One edit) = EditHasTexts edit × ((next : ℕ) (tree : Branch PageRow) → IsReady next edit tree)
IsPlainEdit (MoveNode node parent before) = ⊤
IsPlainEdit (CopyNode node parent before) = ⊤
