-- The parameters of each command, in the order in which they are looked up. What is read and what is written stands here alone.
use Rattle.std.specs.Prelude.{ℕ, ℤ, List, codes, Bool, ◌&&◌, ◌||◌, is_some, Option, Some, None, Result, Ok, Err, ⊤}
use Rattle.serde_json.specs.Data.{Data, number, object, Members}
use Rattle.serde_json.specs.Find.{of_integer}
use Rattle.cdp_json.specs.Kinds.{Kind, whole, text, flag, through, list_of, as_depth, is_depth}
use Rattle.cdp_json.specs.Fields.{field_of}
use Rattle.cdp_json.specs.Lookups.{then_ok, optional, Lookups, no_lookups, look_for, may_look_for, object_with}
use Rattle.cdp_messages.specs.declared.command.Command.{Command}
use Rattle.cdp_messages.specs.declared.command.WhitespaceWord.{WhitespaceWord}
use Rattle.cdp_messages.specs.declared.command.Command.TheVariants.{DomEnable, DomDisable, CssEnable, CssDisable, AskDom, EditDom, AskCss}
use Rattle.cdp_messages.specs.declared.command.Command.TheVariants.{EditCss, MarkUndoableState, Undo, Redo, SetBreakpoint, RemoveBreakpoint}
use Rattle.cdp_messages.specs.declared.command.Command.TheVariants.{ReplayLoad, ReplayAct, AskSearch}
use Rattle.cdp_messages.specs.declared.dom_ask.DomAsk.{DomAsk}
use Rattle.cdp_messages.specs.declared.dom_ask.DomAsk.TheVariants as ask
use Rattle.cdp_messages.specs.declared.dom_edit.DomEdit.{DomEdit}
use Rattle.cdp_messages.specs.declared.dom_edit.DomEdit.TheVariants as tree
use Rattle.cdp_messages.specs.declared.css_ask.CssAsk.{CssAsk}
use Rattle.cdp_messages.specs.declared.css_ask.CssAsk.TheVariants as css
use Rattle.cdp_messages.specs.declared.css_edit.CssEdit.{CssEdit}
use Rattle.cdp_messages.specs.declared.search_ask.SearchAsk.{SearchAsk}
use Rattle.cdp_messages.specs.declared.search_ask.SearchAsk.TheVariants as search
use Rattle.cdp_messages.specs.declared.css_edit.CssEdit.TheVariants as style
use Rattle.cdp_messages.specs.declared.command.Param.{Param}
use Rattle.cdp_messages.specs.declared.command.Param.TheVariants as param
use Rattle.cdp_messages.specs.declared.command.Why.{Why}
use Rattle.cdp_messages.specs.declared.command.Why.TheVariants.{BadParam}
use Rattle.node_tree.specs.declared.watches.WatchKind.{WatchKind}
use Rattle.cdp_messages.specs.declared.edits.TextEdit.{TextEdit}
use Rattle.cdp_messages.specs.declared.method.Method.{Method}
use Rattle.cdp_messages.specs.declared.method.Method.TheVariants as method
use Rattle.css_objects.specs.declared.ranges.SourceRange.{SourceRange}
use Rattle.cdp_messages.specs.Events.{is_object, watch}
use Rattle.cdp_messages.specs.Refusals.{param_name}
use Rattle.cdp_messages.specs.Whitespace.{whitespace}

-- ---- kinds of parameters

-- -1, or a whole number from 1 to 2^53-1
abbrev pub depth_number : Kind ℤ
depth_number = record { spell = λ z. number (of_integer z); reads = as_depth; fits = is_depth; loose = None }

-- a range in a sheet's text; where it is read, further fields count for nothing
abbrev pub place_fields : Lookups ⊤ (ℕ × (ℕ × (ℕ × (ℕ × ⊤))))
place_fields = look_for (codes "startLine") tt whole
    (look_for (codes "startColumn") tt whole (look_for (codes "endLine") tt whole (look_for (codes "endColumn") tt whole no_lookups)))

-- a range as its fields
abbrev pub place_parts : SourceRange → ℕ × (ℕ × (ℕ × (ℕ × ⊤)))
place_parts r = (r.start_line, (r.start_column, (r.end_line, (r.end_column, tt))))

-- the range of these fields
abbrev pub place_from : ℕ × (ℕ × (ℕ × (ℕ × ⊤))) → Option SourceRange
place_from x = Some (record { start_line = x.0; start_column = x.1.0; end_line = x.1.1.0; end_column = x.1.1.1.0 })

-- a range as JSON
abbrev pub range_parameter : Kind SourceRange
range_parameter = through (object_with place_fields) place_parts place_from

-- one edit of a sheet; further fields count for nothing
abbrev pub edit_fields : Lookups ⊤ (List ℕ × (SourceRange × (List ℕ × ⊤)))
edit_fields = look_for (param_name param.StyleSheetId) tt text
    (look_for (param_name param.Range) tt range_parameter (look_for (param_name param.Text) tt text no_lookups))

-- an edit as its fields
abbrev pub edit_parts : TextEdit → List ℕ × (SourceRange × (List ℕ × ⊤))
edit_parts e = (e.sheet, (e.range, (e.text, tt)))

-- the edit of these fields
abbrev pub edit_from : List ℕ × (SourceRange × (List ℕ × ⊤)) → Option TextEdit
edit_from x = Some (record { sheet = x.0; range = x.1.0; text = x.1.1.0 })

-- an edit as JSON
abbrev pub text_edit : Kind TextEdit
text_edit = through (object_with edit_fields) edit_parts edit_from

-- ---- the parameters, in the order shown

-- a parameter that has to be there, before the others
abbrev pub needed : {A B : Type 0} → Param → Kind A → Lookups Why B → Lookups Why (A × B)
needed p k later = look_for (param_name p) (BadParam p) k later

-- a parameter that may be absent, before the others
abbrev pub allowed : {A B : Type 0} → Param → Kind A → Lookups Why B → Lookups Why (Option A × B)
allowed p k later = may_look_for (param_name p) (BadParam p) k later

-- one of both is there
abbrev pub one_there : {A B : Type 0} → Param → Option A → Option B → Result ⊤ Why
one_there p None None = Err (BadParam p)
one_there p None (Some b) = Ok tt
one_there p (Some a) b = Ok tt

-- the second of two, and then what follows, where one of both is there
abbrev pub with_second : {A B C : Type 0} → Param → Param → Kind B → Lookups Why C → Members → Option A
    → Result (Option A × (Option B × C)) Why
with_second p q l later ms a =
    then_ok (optional (BadParam q) (field_of l.reads (param_name q) ms))
    (λ b. then_ok (one_there p a b) (λ _. then_ok (later.gets ms) (λ c. Ok (a, (b, c)))))

-- one of two parameters, or both, before the others; where neither is there, the first is refused
abbrev pub one_of : {A B C : Type 0} → Param → Kind A → Param → Kind B → Lookups Why C → Lookups Why (Option A × (Option B × C))
one_of p k q l later = record {
  names = (allowed p k (allowed q l later)).names;
  gets = λ ms. then_ok (optional (BadParam p) (field_of k.reads (param_name p) ms)) (with_second p q l later ms);
  puts = (allowed p k (allowed q l later)).puts;
  fits = λ x. (is_some x.0 || is_some x.1.0) && (allowed p k (allowed q l later)).fits x;
}

-- of `DOM.enable`: which texts of white space alone are shown
abbrev pub enable_fields : Lookups Why (Option WhitespaceWord × ⊤)
enable_fields = allowed param.IncludeWhitespace whitespace no_lookups

-- of `DOM.getDocument`: how many levels, and a flag without effect
abbrev pub depth_fields : Lookups Why (Option ℤ × (Option Bool × ⊤))
depth_fields = allowed param.Depth depth_number (allowed param.Pierce flag no_lookups)

-- of `DOM.requestChildNodes`
abbrev pub children_fields : Lookups Why (ℕ × (Option ℤ × (Option Bool × ⊤)))
children_fields = needed param.NodeId whole depth_fields

-- of `DOM.pushNodeByPathToFrontend`
abbrev pub path_field : Lookups Why (List ℕ × ⊤)
path_field = needed param.Path text no_lookups

-- of `DOM.pushNodesByBackendIdsToFrontend`
abbrev pub serials_field : Lookups Why (List ℕ × ⊤)
serials_field = needed param.BackendNodeIds (list_of whole) no_lookups

-- a node alone: of `DOM.getAttributes`, `DOM.removeNode` and `CSS.getMatchedStylesForNode`
abbrev pub node_field : Lookups Why (ℕ × ⊤)
node_field = needed param.NodeId whole no_lookups

-- of `DOM.querySelector` and `DOM.querySelectorAll`
abbrev pub query_fields : Lookups Why (ℕ × (List ℕ × ⊤))
query_fields = needed param.NodeId whole (needed param.Selector text no_lookups)

-- of `DOM.describeNode`: the node by its id, or by its serial
abbrev pub describe_fields : Lookups Why (Option ℕ × (Option ℕ × (Option ℤ × (Option Bool × ⊤))))
describe_fields = one_of param.NodeId whole param.BackendNodeId whole depth_fields

-- of `DOM.setAttributeValue`
abbrev pub attribute_fields : Lookups Why (ℕ × (List ℕ × (List ℕ × ⊤)))
attribute_fields = needed param.NodeId whole (needed param.Name text (needed param.Value text no_lookups))

-- of `DOM.removeAttribute`
abbrev pub name_fields : Lookups Why (ℕ × (List ℕ × ⊤))
name_fields = needed param.NodeId whole (needed param.Name text no_lookups)

-- of `DOM.setNodeValue`
abbrev pub value_fields : Lookups Why (ℕ × (List ℕ × ⊤))
value_fields = needed param.NodeId whole (needed param.Value text no_lookups)

-- of `DOM.moveTo` and `DOM.copyTo`
abbrev pub move_fields : Lookups Why (ℕ × (ℕ × (Option ℕ × ⊤)))
move_fields = needed param.NodeId whole (needed param.TargetNodeId whole (allowed param.InsertBeforeNodeId whole no_lookups))

-- a sheet alone: of `CSS.getStyleSheetText` and `CSS.collectClassNames`
abbrev pub sheet_field : Lookups Why (List ℕ × ⊤)
sheet_field = needed param.StyleSheetId text no_lookups

-- of `CSS.setStyleTexts`
abbrev pub edits_field : Lookups Why (List TextEdit × ⊤)
edits_field = needed param.Edits (list_of text_edit) no_lookups

-- of `CSS.setRuleSelector`
abbrev pub set_selector_fields : Lookups Why (List ℕ × (SourceRange × (List ℕ × ⊤)))
set_selector_fields = needed param.StyleSheetId text (needed param.Range range_parameter (needed param.Selector text no_lookups))

-- of `CSS.setMediaText`
abbrev pub set_media_fields : Lookups Why (List ℕ × (SourceRange × (List ℕ × ⊤)))
set_media_fields = needed param.StyleSheetId text (needed param.Range range_parameter (needed param.Text text no_lookups))

-- of `CSS.setStyleSheetText`
abbrev pub sheet_text_fields : Lookups Why (List ℕ × (List ℕ × ⊤))
sheet_text_fields = needed param.StyleSheetId text (needed param.Text text no_lookups)

-- of `CSS.addRule`
abbrev pub add_rule_fields : Lookups Why (List ℕ × (List ℕ × (SourceRange × ⊤)))
add_rule_fields = needed param.StyleSheetId text (needed param.RuleText text (needed param.Location range_parameter no_lookups))

-- of `DOM.performSearch`: the query, and a flag without effect
abbrev pub search_fields : Lookups Why (List ℕ × (Option Bool × ⊤))
search_fields = needed param.Query text (allowed param.IncludeUserAgentShadowDom flag no_lookups)

-- of `DOM.getSearchResults`
abbrev pub results_fields : Lookups Why (List ℕ × (ℕ × (ℕ × ⊤)))
results_fields = needed param.SearchId text (needed param.FromIndex whole (needed param.ToIndex whole no_lookups))

-- a search alone: of `DOM.discardSearchResults`
abbrev pub search_field : Lookups Why (List ℕ × ⊤)
search_field = needed param.SearchId text no_lookups

-- of `DOMDebugger.setDOMBreakpoint` and `DOMDebugger.removeDOMBreakpoint`
abbrev pub watch_fields : Lookups Why (ℕ × (WatchKind × ⊤))
watch_fields = needed param.NodeId whole (needed param.Type watch no_lookups)

-- ---- read

-- the command that is made of the parameters
abbrev pub reads_with : {T : Type 0} → Lookups Why T → (T → Command) → Members → Result Command Why
reads_with fields makes ms = then_ok (fields.gets ms) (λ x. Ok (makes x))

-- the command of a method with these parameters, or the first refusal; what our own two methods are given is not looked into
abbrev pub command_by : Method → Members → Result Command Why
command_by method.DomEnable ms = reads_with enable_fields (λ x. DomEnable x.0) ms
command_by method.DomDisable ms = Ok DomDisable
command_by method.GetDocument ms = reads_with depth_fields (λ x. AskDom (ask.GetDocument x.0 x.1.0)) ms
command_by method.RequestChildNodes ms = reads_with children_fields (λ x. AskDom (ask.RequestChildNodes x.0 x.1.0 x.1.1.0)) ms
command_by method.PushByPath ms = reads_with path_field (λ x. AskDom (ask.PushByPath x.0)) ms
command_by method.PushBySerials ms = reads_with serials_field (λ x. AskDom (ask.PushBySerials x.0)) ms
command_by method.QuerySelector ms = reads_with query_fields (λ x. AskDom (ask.QuerySelector x.0 x.1.0)) ms
command_by method.QuerySelectorAll ms = reads_with query_fields (λ x. AskDom (ask.QuerySelectorAll x.0 x.1.0)) ms
command_by method.GetAttributes ms = reads_with node_field (λ x. AskDom (ask.GetAttributes x.0)) ms
command_by method.DescribeNode ms = reads_with describe_fields (λ x. AskDom (ask.DescribeNode x.0 x.1.0 x.1.1.0 x.1.1.1.0)) ms
command_by method.SetAttributeValue ms = reads_with attribute_fields (λ x. EditDom (tree.SetAttributeValue x.0 x.1.0 x.1.1.0)) ms
command_by method.RemoveAttribute ms = reads_with name_fields (λ x. EditDom (tree.RemoveAttribute x.0 x.1.0)) ms
command_by method.SetNodeValue ms = reads_with value_fields (λ x. EditDom (tree.SetNodeValue x.0 x.1.0)) ms
command_by method.RemoveNode ms = reads_with node_field (λ x. EditDom (tree.RemoveNode x.0)) ms
command_by method.MoveTo ms = reads_with move_fields (λ x. EditDom (tree.MoveTo x.0 x.1.0 x.1.1.0)) ms
command_by method.CopyTo ms = reads_with move_fields (λ x. EditDom (tree.CopyTo x.0 x.1.0 x.1.1.0)) ms
command_by method.MarkUndoableState ms = Ok MarkUndoableState
command_by method.Undo ms = Ok Undo
command_by method.Redo ms = Ok Redo
command_by method.CssEnable ms = Ok CssEnable
command_by method.CssDisable ms = Ok CssDisable
command_by method.GetMatchedStyles ms = reads_with node_field (λ x. AskCss (css.GetMatchedStyles x.0)) ms
command_by method.GetStyleSheetText ms = reads_with sheet_field (λ x. AskCss (css.GetStyleSheetText x.0)) ms
command_by method.CollectClassNames ms = reads_with sheet_field (λ x. AskCss (css.CollectClassNames x.0)) ms
command_by method.SetStyleTexts ms = reads_with edits_field (λ x. EditCss (style.SetStyleTexts x.0)) ms
command_by method.SetRuleSelector ms = reads_with set_selector_fields (λ x. EditCss (style.SetRuleSelector x.0 x.1.0 x.1.1.0)) ms
command_by method.SetStyleSheetText ms = reads_with sheet_text_fields (λ x. EditCss (style.SetStyleSheetText x.0 x.1.0)) ms
command_by method.AddRule ms = reads_with add_rule_fields (λ x. EditCss (style.AddRule x.0 x.1.0 x.1.1.0)) ms
command_by method.SetMediaText ms = reads_with set_media_fields (λ x. EditCss (style.SetMediaText x.0 x.1.0 x.1.1.0)) ms
command_by method.PerformSearch ms = reads_with search_fields (λ x. AskSearch (search.PerformSearch x.0 x.1.0)) ms
command_by method.GetSearchResults ms = reads_with results_fields (λ x. AskSearch (search.GetSearchResults x.0 x.1.0 x.1.1.0)) ms
command_by method.DiscardSearchResults ms = reads_with search_field (λ x. AskSearch (search.DiscardSearchResults x.0)) ms
command_by method.SetBreakpoint ms = reads_with watch_fields (λ x. SetBreakpoint x.0 x.1.0) ms
command_by method.RemoveBreakpoint ms = reads_with watch_fields (λ x. RemoveBreakpoint x.0 x.1.0) ms
command_by method.ReplayLoad ms = Ok (ReplayLoad (object ms))
command_by method.ReplayAct ms = Ok (ReplayAct (object ms))

-- ---- written

-- a command as it is written: its method, its parameters, and whether each is in its range
pub record Form : Type 0 where
  pub method : Method
  pub parameters : Data
  pub fits : Bool

-- a command of that method with these parameters, as it is written
abbrev pub form : {T : Type 0} → Method → Lookups Why T → T → Form
form m fields x = record { method = m; parameters = object (fields.puts x); fits = fields.fits x }

-- what the DOM agent is asked, as it is written
abbrev pub dom_ask_form : DomAsk → Form
dom_ask_form (ask.GetDocument depth pierce) = form method.GetDocument depth_fields (depth, (pierce, tt))
dom_ask_form (ask.RequestChildNodes node depth pierce) = form method.RequestChildNodes children_fields (node, (depth, (pierce, tt)))
dom_ask_form (ask.PushByPath path) = form method.PushByPath path_field (path, tt)
dom_ask_form (ask.PushBySerials serials) = form method.PushBySerials serials_field (serials, tt)
dom_ask_form (ask.QuerySelector node selector) = form method.QuerySelector query_fields (node, (selector, tt))
dom_ask_form (ask.QuerySelectorAll node selector) = form method.QuerySelectorAll query_fields (node, (selector, tt))
dom_ask_form (ask.GetAttributes node) = form method.GetAttributes node_field (node, tt)
dom_ask_form (ask.DescribeNode id serial depth pierce) = form method.DescribeNode describe_fields (id, (serial, (depth, (pierce, tt))))

-- a client's edit of the tree, as it is written
abbrev pub dom_edit_form : DomEdit → Form
dom_edit_form (tree.SetAttributeValue node name value) = form method.SetAttributeValue attribute_fields (node, (name, (value, tt)))
dom_edit_form (tree.RemoveAttribute node name) = form method.RemoveAttribute name_fields (node, (name, tt))
dom_edit_form (tree.SetNodeValue node value) = form method.SetNodeValue value_fields (node, (value, tt))
dom_edit_form (tree.RemoveNode node) = form method.RemoveNode node_field (node, tt)
dom_edit_form (tree.MoveTo node target before) = form method.MoveTo move_fields (node, (target, (before, tt)))
dom_edit_form (tree.CopyTo node target before) = form method.CopyTo move_fields (node, (target, (before, tt)))

-- what the CSS agent is asked, as it is written
abbrev pub css_ask_form : CssAsk → Form
css_ask_form (css.GetMatchedStyles node) = form method.GetMatchedStyles node_field (node, tt)
css_ask_form (css.GetStyleSheetText sheet) = form method.GetStyleSheetText sheet_field (sheet, tt)
css_ask_form (css.CollectClassNames sheet) = form method.CollectClassNames sheet_field (sheet, tt)

-- a client's edit of sheets, as it is written
abbrev pub css_edit_form : CssEdit → Form
css_edit_form (style.SetStyleTexts edits) = form method.SetStyleTexts edits_field (edits, tt)
css_edit_form (style.SetRuleSelector sheet range selector) =
    form method.SetRuleSelector set_selector_fields (sheet, (range, (selector, tt)))
css_edit_form (style.SetStyleSheetText sheet text) = form method.SetStyleSheetText sheet_text_fields (sheet, (text, tt))
css_edit_form (style.AddRule sheet rule_text location) = form method.AddRule add_rule_fields (sheet, (rule_text, (location, tt)))
css_edit_form (style.SetMediaText sheet range text) = form method.SetMediaText set_media_fields (sheet, (range, (text, tt)))

-- what is asked of searches, as it is written
abbrev pub search_ask_form : SearchAsk → Form
search_ask_form (search.PerformSearch query shadow) = form method.PerformSearch search_fields (query, (shadow, tt))
search_ask_form (search.GetSearchResults id from to) = form method.GetSearchResults results_fields (id, (from, (to, tt)))
search_ask_form (search.DiscardSearchResults id) = form method.DiscardSearchResults search_field (id, tt)

-- each command, as it is written
abbrev pub parameters_form : Command → Form
parameters_form (DomEnable shown) = form method.DomEnable enable_fields (shown, tt)
parameters_form DomDisable = form method.DomDisable no_lookups tt
parameters_form (AskDom a) = dom_ask_form a
parameters_form (EditDom e) = dom_edit_form e
parameters_form (AskSearch a) = search_ask_form a
parameters_form MarkUndoableState = form method.MarkUndoableState no_lookups tt
parameters_form Undo = form method.Undo no_lookups tt
parameters_form Redo = form method.Redo no_lookups tt
parameters_form CssEnable = form method.CssEnable no_lookups tt
parameters_form CssDisable = form method.CssDisable no_lookups tt
parameters_form (AskCss a) = css_ask_form a
parameters_form (EditCss e) = css_edit_form e
parameters_form (SetBreakpoint node kind) = form method.SetBreakpoint watch_fields (node, (kind, tt))
parameters_form (RemoveBreakpoint node kind) = form method.RemoveBreakpoint watch_fields (node, (kind, tt))
parameters_form (ReplayLoad params) = record { method = method.ReplayLoad; parameters = params; fits = is_object params }
parameters_form (ReplayAct params) = record { method = method.ReplayAct; parameters = params; fits = is_object params }
