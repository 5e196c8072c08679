-- What is asked by a command that was written, and what holds of each command, by cases.
use Rattle.std.proofs.Common.{◌≡◌, ℕ, ℤ, List, Bool, true, false, ◌&&◌, not, cond, Option, Some, None, option_and_then, Result, Ok, Err}
use Rattle.std.proofs.Common.{refl, sym, ap, subst, ◌∙◌}
use Rattle.std.specs.Prelude.{codes, IfOk, bytes_eq, ⊤}
use Rattle.serde_json.specs.Data.{Data, null, boolean, number, string, array, object, Members}
use Rattle.serde_json.specs.Find.{as_str, get_member, as_object}
use Rattle.cdp_json.specs.Plain.{is_plain}
use Rattle.cdp_json.specs.Fields.{field_from, field_if}
use Rattle.cdp_json.specs.Kinds.{as_whole, is_counted, holds_of_some, whole, text, flag}
use Rattle.cdp_json.specs.Lawful.{LawfulKind}
use Rattle.cdp_json.specs.Lookups.{then_ok, Lookups}
use Rattle.cdp_json.specs.Faithful.{FaithfulKind, FaithfulLookups}
use Rattle.cdp_json.proofs.KindLaws.{named_is, whole_lawful, text_lawful, flag_lawful, anything_lawful, list_faithful, faithful}
use Rattle.cdp_json.proofs.LookupLaws.{then_ok_some, same_ok, look_for_faithful, may_look_for_faithful}
use Rattle.cdp_json.proofs.RowLaws.{ends_lawful, and_need_lawful, and_may_lawful, object_lawful}
use Rattle.cdp_messages.specs.declared.command.Command.{Command}
use Rattle.cdp_messages.specs.declared.command.Command.TheVariants.{DomEnable, DomDisable, CssEnable, CssDisable, AskDom, EditDom, AskCss}
use Rattle.cdp_messages.specs.declared.command.Command.TheVariants.{EditCss, MarkUndoableState, Undo, Redo, SetBreakpoint, RemoveBreakpoint}
use Rattle.cdp_messages.specs.declared.command.Command.TheVariants.{ReplayLoad, ReplayAct, AskSearch}
use Rattle.cdp_messages.specs.declared.dom_ask.DomAsk.TheVariants as ask
use Rattle.cdp_messages.specs.declared.dom_edit.DomEdit.TheVariants as tree
use Rattle.cdp_messages.specs.declared.css_ask.CssAsk.TheVariants as css
use Rattle.cdp_messages.specs.declared.css_edit.CssEdit.TheVariants as style
use Rattle.cdp_messages.specs.declared.search_ask.SearchAsk.TheVariants as search
use Rattle.cdp_messages.specs.declared.command.Asked.{Asked}
use Rattle.cdp_messages.specs.declared.command.Refused.{Refused}
use Rattle.cdp_messages.specs.declared.command.Param.TheVariants as param
use Rattle.cdp_messages.specs.declared.command.Why.{Why}
use Rattle.cdp_messages.specs.declared.command.Why.TheVariants.{NotJson, NoId, NoSession, NoMethod}
use Rattle.cdp_messages.specs.declared.method.Method.{Method}
use Rattle.cdp_messages.specs.declared.method.Method.TheVariants as method
use Rattle.cdp_messages.specs.Methods.{name_of, all_methods, method_named, is_own, if_known, known_method, domains_of, needs_both}
use Rattle.cdp_messages.specs.Methods.{turns_dom_on}
use Rattle.cdp_messages.specs.Parameters.{depth_fields, children_fields, path_field, serials_field, node_field, query_fields}
use Rattle.cdp_messages.specs.Parameters.{describe_fields, attribute_fields, name_fields, value_fields, move_fields, sheet_field}
use Rattle.cdp_messages.specs.Parameters.{edits_field, set_selector_fields, sheet_text_fields, add_rule_fields, set_media_fields}
use Rattle.cdp_messages.specs.Parameters.{search_fields, results_fields, search_field, watch_fields, enable_fields, reads_with, command_by}
use Rattle.cdp_messages.specs.Parameters.{Form, form, parameters_form, dom_ask_form, dom_edit_form, css_ask_form, css_edit_form}
use Rattle.cdp_messages.specs.Parameters.{search_ask_form}
use Rattle.cdp_messages.specs.Asked.{refusal, of_method, command_for, params_of, unless_session, command_of, method_in, command_in, with_id}
use Rattle.cdp_messages.specs.Asked.{asked_in, asked_value, asked_by, json_of, method_of, method_name, parameters, fits_command}
use Rattle.cdp_messages.specs.Asked.{command_value, request}
use Rattle.cdp_messages.specs.Laws.{AsksAreAsked, CommandsAreAsked, ParametersAreRead, ParametersArePlain, CommandsAreNamed, AsksFit}
use Rattle.cdp_messages.specs.Laws.{answers}
use Rattle.cdp_messages.specs.Answers.{ReadsAsked}
use Rattle.cdp_messages.specs.Events.{is_object}
use Rattle.cdp_messages.specs.declared.command.ReadErr.{ReadErr}
use Rattle.cdp_json.proofs.Options.{both, and_then_some}
use Rattle.cdp_messages.proofs.Messages.{json_of-compact_text}
use Rattle.css_objects.specs.declared.rules.Matched.{Matched}
use Rattle.node_tree.specs.Nodes.{Branch}
use Rattle.dom_objects.specs.Told.{Told}
use Rattle.cdp_messages.specs.declared.dom_ask.DomAsk.{DomAsk}
use Rattle.cdp_messages.specs.declared.dom_edit.DomEdit.{DomEdit}
use Rattle.cdp_messages.specs.declared.css_ask.CssAsk.{CssAsk}
use Rattle.cdp_messages.specs.declared.css_edit.CssEdit.{CssEdit}
use Rattle.cdp_messages.specs.declared.search_ask.SearchAsk.{SearchAsk}
use Rattle.cdp_messages.specs.declared.down.ReplyBody.TheVariants as body
use Rattle.cdp_messages.specs.declared.method.Domains.TheVariants.{Dom, DomAndCss}
use Rattle.cdp_messages.proofs.ParameterKinds.{depth_faithful, nothing_more, whole_faithful, text_faithful, place_faithful, edit_faithful}
use Rattle.cdp_messages.proofs.ParameterKinds.{watch_faithful, whitespace_faithful, one_of_faithful, no_ok}

-- ---- the parameters of each command

flag_faithful : FaithfulKind flag
flag_faithful = faithful flag_lawful

depth_fields_faithful : FaithfulLookups depth_fields
depth_fields_faithful = may_look_for_faithful _ _ refl depth_faithful (may_look_for_faithful _ _ refl flag_faithful nothing_more refl) refl

children_fields_faithful : FaithfulLookups children_fields
children_fields_faithful = look_for_faithful _ _ refl whole_faithful depth_fields_faithful refl

path_field_faithful : FaithfulLookups path_field
path_field_faithful = look_for_faithful _ _ refl text_faithful nothing_more refl

serials_field_faithful : FaithfulLookups serials_field
serials_field_faithful = look_for_faithful _ _ refl (list_faithful whole_faithful) nothing_more refl

node_field_faithful : FaithfulLookups node_field
node_field_faithful = look_for_faithful _ _ refl whole_faithful nothing_more refl

query_fields_faithful : FaithfulLookups query_fields
query_fields_faithful = look_for_faithful _ _ refl whole_faithful (look_for_faithful _ _ refl text_faithful nothing_more refl) refl

describe_fields_faithful : FaithfulLookups describe_fields
describe_fields_faithful =
    one_of_faithful param.NodeId whole param.BackendNodeId whole
    (may_look_for_faithful _ _ refl whole_faithful
    (may_look_for_faithful _ _ refl whole_faithful depth_fields_faithful refl) refl) depth_fields_faithful

search_fields_faithful : FaithfulLookups search_fields
search_fields_faithful = look_for_faithful _ _ refl text_faithful (may_look_for_faithful _ _ refl flag_faithful nothing_more refl) refl

results_fields_faithful : FaithfulLookups results_fields
results_fields_faithful = look_for_faithful _ _ refl text_faithful
    (look_for_faithful _ _ refl whole_faithful (look_for_faithful _ _ refl whole_faithful nothing_more refl) refl) refl

search_field_faithful : FaithfulLookups search_field
search_field_faithful = look_for_faithful _ _ refl text_faithful nothing_more refl

attribute_fields_faithful : FaithfulLookups attribute_fields
attribute_fields_faithful = look_for_faithful _ _ refl whole_faithful
    (look_for_faithful _ _ refl text_faithful (look_for_faithful _ _ refl text_faithful nothing_more refl) refl) refl

name_fields_faithful : FaithfulLookups name_fields
name_fields_faithful = look_for_faithful _ _ refl whole_faithful (look_for_faithful _ _ refl text_faithful nothing_more refl) refl

value_fields_faithful : FaithfulLookups value_fields
value_fields_faithful = look_for_faithful _ _ refl whole_faithful (look_for_faithful _ _ refl text_faithful nothing_more refl) refl

move_fields_faithful : FaithfulLookups move_fields
move_fields_faithful = look_for_faithful _ _ refl whole_faithful
    (look_for_faithful _ _ refl whole_faithful (may_look_for_faithful _ _ refl whole_faithful nothing_more refl) refl) refl

sheet_field_faithful : FaithfulLookups sheet_field
sheet_field_faithful = look_for_faithful _ _ refl text_faithful nothing_more refl

edits_field_faithful : FaithfulLookups edits_field
edits_field_faithful = look_for_faithful _ _ refl (list_faithful edit_faithful) nothing_more refl

selector_fields_faithful : FaithfulLookups set_selector_fields
selector_fields_faithful = look_for_faithful _ _ refl text_faithful
    (look_for_faithful _ _ refl place_faithful (look_for_faithful _ _ refl text_faithful nothing_more refl) refl) refl

media_fields_faithful : FaithfulLookups set_media_fields
media_fields_faithful = look_for_faithful _ _ refl text_faithful
    (look_for_faithful _ _ refl place_faithful (look_for_faithful _ _ refl text_faithful nothing_more refl) refl) refl

sheet_text_fields_faithful : FaithfulLookups sheet_text_fields
sheet_text_fields_faithful = look_for_faithful _ _ refl text_faithful (look_for_faithful _ _ refl text_faithful nothing_more refl) refl

rule_fields_faithful : FaithfulLookups add_rule_fields
rule_fields_faithful = look_for_faithful _ _ refl text_faithful
    (look_for_faithful _ _ refl text_faithful (look_for_faithful _ _ refl place_faithful nothing_more refl) refl) refl

enable_fields_faithful : FaithfulLookups enable_fields
enable_fields_faithful = may_look_for_faithful _ _ refl whitespace_faithful nothing_more refl

watch_fields_faithful : FaithfulLookups watch_fields
watch_fields_faithful = look_for_faithful _ _ refl whole_faithful (look_for_faithful _ _ refl watch_faithful nothing_more refl) refl

-- ---- a command that is written is read

read_again : {T : Type 0} {fields : Lookups Why T} → FaithfulLookups fields → (makes : T → Command) (x : T) → fields.fits x ≡ true
    → reads_with fields makes (fields.puts x) ≡ Ok (makes x)
read_again law makes x f = ap (λ r. then_ok r (λ y. Ok (makes y))) (law.again x f)

-- an object that a command keeps as it is
kept_again : (m : Method) (makes : Data → Command) → ((ms : Members) → command_by m ms ≡ Ok (makes (object ms))) → (d : Data)
    → is_object d ≡ true → then_ok (params_of (Some d)) (command_by m) ≡ Ok (makes d)
kept_again m makes is (object ms) f = is ms
kept_again m makes is null f = absurd cc
kept_again m makes is (boolean b) f = absurd cc
kept_again m makes is (number n) f = absurd cc
kept_again m makes is (string s) f = absurd cc
kept_again m makes is (array ds) f = absurd cc

command_again : (c : Command) → fits_command c ≡ true → then_ok (params_of (Some (parameters c))) (command_by (method_of c)) ≡ Ok c
command_again (DomEnable shown) f = read_again enable_fields_faithful (λ x. DomEnable x.0) (shown, tt) f
command_again DomDisable f = refl
command_again (AskDom (ask.GetDocument depth pierce)) f =
    read_again depth_fields_faithful (λ x. AskDom (ask.GetDocument x.0 x.1.0)) (depth, (pierce, tt)) f
command_again (AskDom (ask.RequestChildNodes node depth pierce)) f =
    read_again children_fields_faithful (λ x. AskDom (ask.RequestChildNodes x.0 x.1.0 x.1.1.0))
    (node, (depth, (pierce, tt))) f
command_again (AskDom (ask.PushByPath path)) f = read_again path_field_faithful (λ x. AskDom (ask.PushByPath x.0)) (path, tt) f
command_again (AskDom (ask.PushBySerials serials)) f =
    read_again serials_field_faithful (λ x. AskDom (ask.PushBySerials x.0)) (serials, tt) f
command_again (AskDom (ask.QuerySelector node selector)) f =
    read_again query_fields_faithful (λ x. AskDom (ask.QuerySelector x.0 x.1.0)) (node, (selector, tt)) f
command_again (AskDom (ask.QuerySelectorAll node selector)) f =
    read_again query_fields_faithful (λ x. AskDom (ask.QuerySelectorAll x.0 x.1.0))
    (node, (selector, tt)) f
command_again (AskDom (ask.GetAttributes node)) f = read_again node_field_faithful (λ x. AskDom (ask.GetAttributes x.0)) (node, tt) f
command_again (AskDom (ask.DescribeNode id serial depth pierce)) f =
    read_again describe_fields_faithful (λ x. AskDom (ask.DescribeNode x.0 x.1.0 x.1.1.0 x.1.1.1.0))
    (id, (serial, (depth, (pierce, tt)))) f
command_again (EditDom (tree.SetAttributeValue node name value)) f =
    read_again attribute_fields_faithful (λ x. EditDom (tree.SetAttributeValue x.0 x.1.0 x.1.1.0))
    (node, (name, (value, tt))) f
command_again (EditDom (tree.RemoveAttribute node name)) f =
    read_again name_fields_faithful (λ x. EditDom (tree.RemoveAttribute x.0 x.1.0)) (node, (name, tt)) f
command_again (EditDom (tree.SetNodeValue node value)) f =
    read_again value_fields_faithful (λ x. EditDom (tree.SetNodeValue x.0 x.1.0)) (node, (value, tt)) f
command_again (EditDom (tree.RemoveNode node)) f = read_again node_field_faithful (λ x. EditDom (tree.RemoveNode x.0)) (node, tt) f
command_again (EditDom (tree.MoveTo node target before)) f = read_again move_fields_faithful (λ x. EditDom (tree.MoveTo x.0 x.1.0 x.1.1.0))
    (node, (target, (before, tt))) f
command_again (EditDom (tree.CopyTo node target before)) f = read_again move_fields_faithful (λ x. EditDom (tree.CopyTo x.0 x.1.0 x.1.1.0))
    (node, (target, (before, tt))) f
command_again (AskSearch (search.PerformSearch query shadow)) f =
    read_again search_fields_faithful (λ x. AskSearch (search.PerformSearch x.0 x.1.0)) (query, (shadow, tt)) f
command_again (AskSearch (search.GetSearchResults id from to)) f =
    read_again results_fields_faithful (λ x. AskSearch (search.GetSearchResults x.0 x.1.0 x.1.1.0)) (id, (from, (to, tt))) f
command_again (AskSearch (search.DiscardSearchResults id)) f =
    read_again search_field_faithful (λ x. AskSearch (search.DiscardSearchResults x.0)) (id, tt) f
command_again MarkUndoableState f = refl
command_again Undo f = refl
command_again Redo f = refl
command_again CssEnable f = refl
command_again CssDisable f = refl
command_again (AskCss (css.GetMatchedStyles node)) f = read_again node_field_faithful (λ x. AskCss (css.GetMatchedStyles x.0)) (node, tt) f
command_again (AskCss (css.GetStyleSheetText sheet)) f =
    read_again sheet_field_faithful (λ x. AskCss (css.GetStyleSheetText x.0)) (sheet, tt) f
command_again (AskCss (css.CollectClassNames sheet)) f =
    read_again sheet_field_faithful (λ x. AskCss (css.CollectClassNames x.0)) (sheet, tt) f
command_again (EditCss (style.SetStyleTexts edits)) f =
    read_again edits_field_faithful (λ x. EditCss (style.SetStyleTexts x.0)) (edits, tt) f
command_again (EditCss (style.SetRuleSelector sheet range selector)) f =
    read_again selector_fields_faithful (λ x. EditCss (style.SetRuleSelector x.0 x.1.0 x.1.1.0))
    (sheet, (range, (selector, tt))) f
command_again (EditCss (style.SetStyleSheetText sheet text)) f =
    read_again sheet_text_fields_faithful (λ x. EditCss (style.SetStyleSheetText x.0 x.1.0))
    (sheet, (text, tt)) f
command_again (EditCss (style.AddRule sheet rule_text location)) f =
    read_again rule_fields_faithful (λ x. EditCss (style.AddRule x.0 x.1.0 x.1.1.0))
    (sheet, (rule_text, (location, tt))) f
command_again (EditCss (style.SetMediaText sheet range text)) f =
    read_again media_fields_faithful (λ x. EditCss (style.SetMediaText x.0 x.1.0 x.1.1.0))
    (sheet, (range, (text, tt))) f
command_again (SetBreakpoint node kind) f = read_again watch_fields_faithful (λ x. SetBreakpoint x.0 x.1.0) (node, (kind, tt)) f
command_again (RemoveBreakpoint node kind) f = read_again watch_fields_faithful (λ x. RemoveBreakpoint x.0 x.1.0) (node, (kind, tt)) f
command_again (ReplayLoad params) f = kept_again method.ReplayLoad ReplayLoad (λ ms. refl) params f
command_again (ReplayAct params) f = kept_again method.ReplayAct ReplayAct (λ ms. refl) params f

named_again : (m : Method) → method_named (name_of m) ≡ Some m
named_again method.DomEnable = refl
named_again method.DomDisable = refl
named_again method.GetDocument = refl
named_again method.RequestChildNodes = refl
named_again method.PushByPath = refl
named_again method.PushBySerials = refl
named_again method.QuerySelector = refl
named_again method.QuerySelectorAll = refl
named_again method.GetAttributes = refl
named_again method.DescribeNode = refl
named_again method.SetAttributeValue = refl
named_again method.RemoveAttribute = refl
named_again method.SetNodeValue = refl
named_again method.RemoveNode = refl
named_again method.MoveTo = refl
named_again method.CopyTo = refl
named_again method.MarkUndoableState = refl
named_again method.Undo = refl
named_again method.Redo = refl
named_again method.CssEnable = refl
named_again method.CssDisable = refl
named_again method.GetMatchedStyles = refl
named_again method.GetStyleSheetText = refl
named_again method.CollectClassNames = refl
named_again method.SetStyleTexts = refl
named_again method.SetRuleSelector = refl
named_again method.SetStyleSheetText = refl
named_again method.AddRule = refl
named_again method.SetMediaText = refl
named_again method.PerformSearch = refl
named_again method.GetSearchResults = refl
named_again method.DiscardSearchResults = refl
named_again method.SetBreakpoint = refl
named_again method.RemoveBreakpoint = refl
named_again method.ReplayLoad = refl
named_again method.ReplayAct = refl

known_again : (own : Bool) (m : Method) → (is_own m && not own) ≡ false → known_method own (name_of m) ≡ Some m
known_again own m open_to = ap (option_and_then (if_known own)) (named_again m) ∙ ap (λ b. cond b None (Some m)) open_to

pub parameters_are_read : ParametersAreRead
parameters_are_read own c f open_to = ap (λ o. then_ok (params_of (Some (parameters c))) (of_method o))
    (known_again own (method_of c) open_to) ∙ command_again c f

-- ---- what is read fits

-- a command of this method, whose parameters are in their ranges
pub record IsOf (m : Method) (c : Command) : Type 0 where
  pub method_is : method_of c ≡ m
  pub fits : fits_command c ≡ true

read_fits : {T : Type 0} {fields : Lookups Why T} → FaithfulLookups fields → (m : Method) (makes : T → Command)
    → ((x : T) → parameters_form (makes x) ≡ form m fields x) → (ms : Members) (c : Command) → reads_with fields makes ms ≡ Ok c → IsOf m c
read_fits {T} {fields} law m makes is ms c e =
    let p = then_ok_some (fields.gets ms) (λ x. Ok (makes x)) c e in
    subst (IsOf m) (same_ok (makes p.0) c p.2)
    (record { method_is = ap (λ (f : Form). f.method) (is p.0); fits = ap (λ (f : Form). f.fits) (is p.0) ∙ law.fit ms p.0 p.1 })

made : (m : Method) (k c : Command) → IsOf m k → ◌≡◌ {A = Result Command Why} (Ok k) (Ok c) → IsOf m c
made m k c is e = subst (IsOf m) (same_ok k c e) is

command_fits : (m : Method) (ms : Members) (c : Command) → command_by m ms ≡ Ok c → IsOf m c
command_fits method.DomEnable ms c e = read_fits enable_fields_faithful method.DomEnable (λ x. DomEnable x.0) (λ x. refl) ms c e
command_fits method.DomDisable ms c e = made method.DomDisable DomDisable c (record { method_is = refl; fits = refl }) e
command_fits method.GetDocument ms c e =
    read_fits depth_fields_faithful method.GetDocument (λ x. AskDom (ask.GetDocument x.0 x.1.0)) (λ x. refl) ms c e
command_fits method.RequestChildNodes ms c e = read_fits children_fields_faithful method.RequestChildNodes
    (λ x. AskDom (ask.RequestChildNodes x.0 x.1.0 x.1.1.0)) (λ x. refl) ms c e
command_fits method.PushByPath ms c e =
    read_fits path_field_faithful method.PushByPath (λ x. AskDom (ask.PushByPath x.0)) (λ x. refl) ms c e
command_fits method.PushBySerials ms c e =
    read_fits serials_field_faithful method.PushBySerials (λ x. AskDom (ask.PushBySerials x.0)) (λ x. refl) ms c e
command_fits method.QuerySelector ms c e = read_fits query_fields_faithful method.QuerySelector (λ x. AskDom (ask.QuerySelector x.0 x.1.0))
    (λ x. refl) ms c e
command_fits method.QuerySelectorAll ms c e =
    read_fits query_fields_faithful method.QuerySelectorAll (λ x. AskDom (ask.QuerySelectorAll x.0 x.1.0))
    (λ x. refl) ms c e
command_fits method.GetAttributes ms c e =
    read_fits node_field_faithful method.GetAttributes (λ x. AskDom (ask.GetAttributes x.0)) (λ x. refl) ms c e
command_fits method.DescribeNode ms c e = read_fits describe_fields_faithful method.DescribeNode
    (λ x. AskDom (ask.DescribeNode x.0 x.1.0 x.1.1.0 x.1.1.1.0)) (λ x. refl) ms c e
command_fits method.SetAttributeValue ms c e = read_fits attribute_fields_faithful method.SetAttributeValue
    (λ x. EditDom (tree.SetAttributeValue x.0 x.1.0 x.1.1.0)) (λ x. refl) ms c e
command_fits method.RemoveAttribute ms c e =
    read_fits name_fields_faithful method.RemoveAttribute (λ x. EditDom (tree.RemoveAttribute x.0 x.1.0))
    (λ x. refl) ms c e
command_fits method.SetNodeValue ms c e = read_fits value_fields_faithful method.SetNodeValue (λ x. EditDom (tree.SetNodeValue x.0 x.1.0))
    (λ x. refl) ms c e
command_fits method.RemoveNode ms c e =
    read_fits node_field_faithful method.RemoveNode (λ x. EditDom (tree.RemoveNode x.0)) (λ x. refl) ms c e
command_fits method.MoveTo ms c e =
    read_fits move_fields_faithful method.MoveTo (λ x. EditDom (tree.MoveTo x.0 x.1.0 x.1.1.0)) (λ x. refl) ms c e
command_fits method.CopyTo ms c e =
    read_fits move_fields_faithful method.CopyTo (λ x. EditDom (tree.CopyTo x.0 x.1.0 x.1.1.0)) (λ x. refl) ms c e
command_fits method.MarkUndoableState ms c e = made method.MarkUndoableState MarkUndoableState c
    (record { method_is = refl; fits = refl }) e
command_fits method.Undo ms c e = made method.Undo Undo c (record { method_is = refl; fits = refl }) e
command_fits method.Redo ms c e = made method.Redo Redo c (record { method_is = refl; fits = refl }) e
command_fits method.CssEnable ms c e = made method.CssEnable CssEnable c (record { method_is = refl; fits = refl }) e
command_fits method.CssDisable ms c e = made method.CssDisable CssDisable c (record { method_is = refl; fits = refl }) e
command_fits method.GetMatchedStyles ms c e = read_fits node_field_faithful method.GetMatchedStyles (λ x. AskCss (css.GetMatchedStyles x.0))
    (λ x. refl) ms c e
command_fits method.GetStyleSheetText ms c e =
    read_fits sheet_field_faithful method.GetStyleSheetText (λ x. AskCss (css.GetStyleSheetText x.0))
    (λ x. refl) ms c e
command_fits method.CollectClassNames ms c e =
    read_fits sheet_field_faithful method.CollectClassNames (λ x. AskCss (css.CollectClassNames x.0))
    (λ x. refl) ms c e
command_fits method.SetStyleTexts ms c e =
    read_fits edits_field_faithful method.SetStyleTexts (λ x. EditCss (style.SetStyleTexts x.0)) (λ x. refl) ms c e
command_fits method.SetRuleSelector ms c e = read_fits selector_fields_faithful method.SetRuleSelector
    (λ x. EditCss (style.SetRuleSelector x.0 x.1.0 x.1.1.0)) (λ x. refl) ms c e
command_fits method.SetStyleSheetText ms c e = read_fits sheet_text_fields_faithful method.SetStyleSheetText
    (λ x. EditCss (style.SetStyleSheetText x.0 x.1.0)) (λ x. refl) ms c e
command_fits method.AddRule ms c e =
    read_fits rule_fields_faithful method.AddRule (λ x. EditCss (style.AddRule x.0 x.1.0 x.1.1.0)) (λ x. refl) ms c e
command_fits method.SetMediaText ms c e = read_fits media_fields_faithful method.SetMediaText
    (λ x. EditCss (style.SetMediaText x.0 x.1.0 x.1.1.0)) (λ x. refl) ms c e
command_fits method.PerformSearch ms c e =
    read_fits search_fields_faithful method.PerformSearch (λ x. AskSearch (search.PerformSearch x.0 x.1.0)) (λ x. refl) ms c e
command_fits method.GetSearchResults ms c e = read_fits results_fields_faithful method.GetSearchResults
    (λ x. AskSearch (search.GetSearchResults x.0 x.1.0 x.1.1.0)) (λ x. refl) ms c e
command_fits method.DiscardSearchResults ms c e =
    read_fits search_field_faithful method.DiscardSearchResults (λ x. AskSearch (search.DiscardSearchResults x.0)) (λ x. refl) ms c e
command_fits method.SetBreakpoint ms c e = read_fits watch_fields_faithful method.SetBreakpoint (λ x. SetBreakpoint x.0 x.1.0)
    (λ x. refl) ms c e
command_fits method.RemoveBreakpoint ms c e = read_fits watch_fields_faithful method.RemoveBreakpoint (λ x. RemoveBreakpoint x.0 x.1.0)
    (λ x. refl) ms c e
command_fits method.ReplayLoad ms c e = made method.ReplayLoad (ReplayLoad (object ms)) c (record { method_is = refl; fits = refl }) e
command_fits method.ReplayAct ms c e = made method.ReplayAct (ReplayAct (object ms)) c (record { method_is = refl; fits = refl }) e

of_method_fits : (o : Option Method) (ms : Members) (c : Command) → of_method o ms ≡ Ok c → (m : Method) × (o ≡ Some m) × IsOf m c
of_method_fits None ms c e = no_ok NoMethod c e
of_method_fits (Some m) ms c e = (m, refl, command_fits m ms c e)

known_some : (own : Bool) (n m : Method) → if_known own n ≡ Some m → n ≡ m
known_some own n m e = at (is_own n && not own) refl e where
  at : (b : Bool) → (is_own n && not own) ≡ b → cond b None (Some n) ≡ Some m → n ≡ m
  at true is h = absurd cc
  at false is h = cc

command_for_fits : (own : Bool) (name : List ℕ) (ms : Members) (c : Command) → command_for own name ms ≡ Ok c
    → (name ≡ method_name c) × (fits_command c ≡ true)
command_for_fits own name ms c e =
    let r = of_method_fits (known_method own name) ms c e in
    let p = and_then_some (if_known own) (method_named name) r.0 r.1 in
    let same : p.0 ≡ r.0 = known_some own p.0 r.0 p.2 in
    (sym (named_is name_of all_methods name p.0 p.1) ∙ ap name_of (same ∙ sym r.2.method_is), r.2.fits)

unless_parts : {A : Type 0} (s : Option Data) (r : Result A Why) (c : A) → unless_session s r ≡ Ok c → r ≡ Ok c
unless_parts None r c e = e
unless_parts (Some s) r c e = no_ok NoSession c e

pub commands_are_named : CommandsAreNamed
commands_are_named own name params session c e =
    let p = then_ok_some (params_of params) (λ ps. unless_session session (command_for own name ps)) c e in
    command_for_fits own name p.0 c (unless_parts session (command_for own name p.0) c p.2)

command_in_fits : (own : Bool) (frame : Members) (c : Command) → command_in own frame ≡ Ok c → fits_command c ≡ true
command_in_fits own frame c e =
    let rest = λ (name : List ℕ). command_of own name (get_member (codes "params") frame) (get_member (codes "sessionId") frame) in
    let p = then_ok_some (method_in (field_from as_str (get_member (codes "method") frame))) rest c e in
    (commands_are_named own p.0 (get_member (codes "params") frame) (get_member (codes "sessionId") frame) c p.2).1

-- what is asked has an id below 2^53, and a command that fits
abbrev AskFits : Asked → Type 0
AskFits a = (is_counted a.id ≡ true) × (fits_command a.command ≡ true)

no_asked : {P : Type 0} (r : Refused) (a : Asked) → ◌≡◌ {A = Result Asked Refused} (Err r) (Ok a) → P
no_asked r a e = let no : ◌≡◌ {A = Result Asked Refused} (Err r) (Ok a) = e in absurd cc

asked_by_fits : (id : ℕ) (r : Result Command Why) (a : Asked) → is_counted id ≡ true → ((c : Command) → r ≡ Ok c → fits_command c ≡ true)
    → asked_by id r ≡ Ok a → AskFits a
asked_by_fits id (Ok c) a counted fits e = subst AskFits (same_ok (record { id = id; command = c }) a e) (counted, fits c refl)
asked_by_fits id (Err why) a counted fits e = no_asked (refusal (Some id) why) a e

with_id_fits : (o : Option Data) (r : Result Command Why) (a : Asked) → ((c : Command) → r ≡ Ok c → fits_command c ≡ true)
    → with_id (field_from as_whole o) r ≡ Ok a → AskFits a
with_id_fits None r a fits e = no_asked (refusal None NoId) a e
with_id_fits (Some d) r a fits e = at (as_whole d) refl e where
  at : (o : Option ℕ) → as_whole d ≡ o → with_id (field_if o) r ≡ Ok a → AskFits a
  at None is h = no_asked (refusal None NoId) a h
  at (Some id) is h = asked_by_fits id r a (whole_lawful.takes d id is).1 fits h

asked_in_fits : (own : Bool) (o : Option Members) (a : Asked) → asked_in own o ≡ Ok a → AskFits a
asked_in_fits own None a e = no_asked (refusal None NoId) a e
asked_in_fits own (Some frame) a e = with_id_fits (get_member (codes "id") frame) (command_in own frame) a (command_in_fits own frame) e

asked_value_fits : (own : Bool) (o : Option Data) (a : Asked) → asked_value own o ≡ Ok a → AskFits a
asked_value_fits own None a e = no_asked (refusal None NotJson) a e
asked_value_fits own (Some d) a e = asked_in_fits own (as_object d) a e

pub asks_fit : AsksFit
asks_fit own bytes a e = asked_value_fits own (json_of bytes) a e

pub answers_fit : (own : Bool) (o : Option Data) (r : Result Asked ReadErr) → ReadsAsked r (asked_value own o)
    → IfOk r (λ a. fits_command a.command ≡ true)
answers_fit own o (Ok a) is = (asked_value_fits own o a is).1
answers_fit own o (Err e) is = tt

-- ---- frames

request_lawful : LawfulKind request
request_lawful = object_lawful
    (and_need_lawful _ whole_lawful
    (and_need_lawful _ text_lawful (and_may_lawful _ anything_lawful (and_may_lawful _ anything_lawful ends_lawful refl) refl) refl) refl)

any_fits : (o : Option Data) → holds_of_some (λ (d : Data). true) o ≡ true
any_fits None = refl
any_fits (Some d) = refl

-- a frame is plain where its parameters and its session are
pub ask_plain : (id : ℕ) (method : List ℕ) (params session : Option Data) → is_counted id ≡ true → holds_of_some is_plain params ≡ true
    → holds_of_some is_plain session ≡ true
    → is_plain (command_value id method params session) ≡ true
ask_plain id method params session c p s =
    request_lawful.plain (id, (method, (params, (session, tt)))) (both c (both (any_fits params) (both (any_fits session) refl))) (both p s)

pub value_asked : (own : Bool) (id : ℕ) (method : List ℕ) (params session : Option Data) → is_counted id ≡ true
    → asked_value own (Some (command_value id method params session)) ≡ asked_by id (command_of own method params session)
value_asked own id method None None c = rw c
value_asked own id method None (Some s) c = rw c
value_asked own id method (Some p) None c = rw c
value_asked own id method (Some p) (Some s) c = rw c

pub asks_are_asked : AsksAreAsked
asks_are_asked own id method params session c p s shallow utf8 =
    ap (asked_value own) (json_of-compact_text (command_value id method params session)
    (ask_plain id method params session c p s) shallow utf8) ∙ value_asked own id method params session c

-- ---- whole commands

pub parameters_are_plain : ParametersArePlain
parameters_are_plain (DomEnable shown) f other = enable_fields_faithful.plain (shown, tt) f
parameters_are_plain DomDisable f other = refl
parameters_are_plain (AskDom (ask.GetDocument depth pierce)) f other = depth_fields_faithful.plain (depth, (pierce, tt)) f
parameters_are_plain (AskDom (ask.RequestChildNodes node depth pierce)) f other =
    children_fields_faithful.plain (node, (depth, (pierce, tt))) f
parameters_are_plain (AskDom (ask.PushByPath path)) f other = path_field_faithful.plain (path, tt) f
parameters_are_plain (AskDom (ask.PushBySerials serials)) f other = serials_field_faithful.plain (serials, tt) f
parameters_are_plain (AskDom (ask.QuerySelector node selector)) f other = query_fields_faithful.plain (node, (selector, tt)) f
parameters_are_plain (AskDom (ask.QuerySelectorAll node selector)) f other = query_fields_faithful.plain (node, (selector, tt)) f
parameters_are_plain (AskDom (ask.GetAttributes node)) f other = node_field_faithful.plain (node, tt) f
parameters_are_plain (AskDom (ask.DescribeNode id serial depth pierce)) f other =
    describe_fields_faithful.plain (id, (serial, (depth, (pierce, tt)))) f
parameters_are_plain (EditDom (tree.SetAttributeValue node name value)) f other =
    attribute_fields_faithful.plain (node, (name, (value, tt))) f
parameters_are_plain (EditDom (tree.RemoveAttribute node name)) f other = name_fields_faithful.plain (node, (name, tt)) f
parameters_are_plain (EditDom (tree.SetNodeValue node value)) f other = value_fields_faithful.plain (node, (value, tt)) f
parameters_are_plain (EditDom (tree.RemoveNode node)) f other = node_field_faithful.plain (node, tt) f
parameters_are_plain (EditDom (tree.MoveTo node target before)) f other = move_fields_faithful.plain (node, (target, (before, tt))) f
parameters_are_plain (EditDom (tree.CopyTo node target before)) f other = move_fields_faithful.plain (node, (target, (before, tt))) f
parameters_are_plain (AskSearch (search.PerformSearch query shadow)) f other = search_fields_faithful.plain (query, (shadow, tt)) f
parameters_are_plain (AskSearch (search.GetSearchResults id from to)) f other = results_fields_faithful.plain (id, (from, (to, tt))) f
parameters_are_plain (AskSearch (search.DiscardSearchResults id)) f other = search_field_faithful.plain (id, tt) f
parameters_are_plain MarkUndoableState f other = refl
parameters_are_plain Undo f other = refl
parameters_are_plain Redo f other = refl
parameters_are_plain CssEnable f other = refl
parameters_are_plain CssDisable f other = refl
parameters_are_plain (AskCss (css.GetMatchedStyles node)) f other = node_field_faithful.plain (node, tt) f
parameters_are_plain (AskCss (css.GetStyleSheetText sheet)) f other = sheet_field_faithful.plain (sheet, tt) f
parameters_are_plain (AskCss (css.CollectClassNames sheet)) f other = sheet_field_faithful.plain (sheet, tt) f
parameters_are_plain (EditCss (style.SetStyleTexts edits)) f other = edits_field_faithful.plain (edits, tt) f
parameters_are_plain (EditCss (style.SetRuleSelector sheet range selector)) f other =
    selector_fields_faithful.plain (sheet, (range, (selector, tt))) f
parameters_are_plain (EditCss (style.SetStyleSheetText sheet text)) f other = sheet_text_fields_faithful.plain (sheet, (text, tt)) f
parameters_are_plain (EditCss (style.AddRule sheet rule_text location)) f other =
    rule_fields_faithful.plain (sheet, (rule_text, (location, tt))) f
parameters_are_plain (EditCss (style.SetMediaText sheet range text)) f other =
    media_fields_faithful.plain (sheet, (range, (text, tt))) f
parameters_are_plain (SetBreakpoint node kind) f other = watch_fields_faithful.plain (node, (kind, tt)) f
parameters_are_plain (RemoveBreakpoint node kind) f other = watch_fields_faithful.plain (node, (kind, tt)) f
parameters_are_plain (ReplayLoad params) f other = absurd cc
parameters_are_plain (ReplayAct params) f other = absurd cc

pub commands_are_asked : CommandsAreAsked
commands_are_asked own id c counted f open_to plain shallow utf8 =
    asks_are_asked own id (method_name c) (Some (parameters c)) None counted plain refl shallow utf8 ∙ ap (asked_by id)
    (parameters_are_read own c f open_to)

-- ---- what each part needs on

pub asks-without-css : (a : DomAsk) → needs_both (domains_of (dom_ask_form a).method) ≡ false
asks-without-css (ask.GetDocument depth pierce) = refl
asks-without-css (ask.RequestChildNodes node depth pierce) = refl
asks-without-css (ask.PushByPath path) = refl
asks-without-css (ask.PushBySerials serials) = refl
asks-without-css (ask.QuerySelector node selector) = refl
asks-without-css (ask.QuerySelectorAll node selector) = refl
asks-without-css (ask.GetAttributes node) = refl
asks-without-css (ask.DescribeNode id serial depth pierce) = refl

pub edits-need-dom : (e : DomEdit) → domains_of (dom_edit_form e).method ≡ Dom
edits-need-dom (tree.SetAttributeValue node name value) = refl
edits-need-dom (tree.RemoveAttribute node name) = refl
edits-need-dom (tree.SetNodeValue node value) = refl
edits-need-dom (tree.RemoveNode node) = refl
edits-need-dom (tree.MoveTo node target before) = refl
edits-need-dom (tree.CopyTo node target before) = refl

pub styles-need-both : (a : CssAsk) → domains_of (css_ask_form a).method ≡ DomAndCss
styles-need-both (css.GetMatchedStyles node) = refl
styles-need-both (css.GetStyleSheetText sheet) = refl
styles-need-both (css.CollectClassNames sheet) = refl

pub style_edits-need-both : (e : CssEdit) → domains_of (css_edit_form e).method ≡ DomAndCss
style_edits-need-both (style.SetStyleTexts edits) = refl
style_edits-need-both (style.SetRuleSelector sheet range selector) = refl
style_edits-need-both (style.SetStyleSheetText sheet said) = refl
style_edits-need-both (style.AddRule sheet rule_text location) = refl
style_edits-need-both (style.SetMediaText sheet range text) = refl

-- a search needs no more than DOM
pub searches-need-dom : (a : SearchAsk) → domains_of (search_ask_form a).method ≡ Dom
searches-need-dom (search.PerformSearch query shadow) = refl
searches-need-dom (search.GetSearchResults id from to) = refl
searches-need-dom (search.DiscardSearchResults id) = refl

-- ---- matched styles are the result of one method

-- the results of a method are others
abbrev pub TellsNoStyles : List ℕ → Type 0
TellsNoStyles method = (m : Matched) → answers method (body.Matched m) ≡ true → ⊥

pub asks-tell-no_styles : (a : DomAsk) → TellsNoStyles (method_name (AskDom a))
asks-tell-no_styles (ask.GetDocument depth pierce) m e = absurd cc
asks-tell-no_styles (ask.RequestChildNodes node depth pierce) m e = absurd cc
asks-tell-no_styles (ask.PushByPath path) m e = absurd cc
asks-tell-no_styles (ask.PushBySerials serials) m e = absurd cc
asks-tell-no_styles (ask.QuerySelector node selector) m e = absurd cc
asks-tell-no_styles (ask.QuerySelectorAll node selector) m e = absurd cc
asks-tell-no_styles (ask.GetAttributes node) m e = absurd cc
asks-tell-no_styles (ask.DescribeNode id serial depth pierce) m e = absurd cc

pub edits-tell-no_styles : (e : DomEdit) → TellsNoStyles (method_name (EditDom e))
edits-tell-no_styles (tree.SetAttributeValue node name value) m e = absurd cc
edits-tell-no_styles (tree.RemoveAttribute node name) m e = absurd cc
edits-tell-no_styles (tree.SetNodeValue node value) m e = absurd cc
edits-tell-no_styles (tree.RemoveNode node) m e = absurd cc
edits-tell-no_styles (tree.MoveTo node target before) m e = absurd cc
edits-tell-no_styles (tree.CopyTo node target before) m e = absurd cc

pub searches-tell-no_styles : (a : SearchAsk) → TellsNoStyles (method_name (AskSearch a))
searches-tell-no_styles (search.PerformSearch query shadow) m e = absurd cc
searches-tell-no_styles (search.GetSearchResults id from to) m e = absurd cc
searches-tell-no_styles (search.DiscardSearchResults id) m e = absurd cc

pub sheet_edits-tell-no_styles : (e : CssEdit) → TellsNoStyles (method_name (EditCss e))
sheet_edits-tell-no_styles (style.SetStyleTexts edits) m e = absurd cc
sheet_edits-tell-no_styles (style.SetRuleSelector sheet range selector) m e = absurd cc
sheet_edits-tell-no_styles (style.SetStyleSheetText sheet text) m e = absurd cc
sheet_edits-tell-no_styles (style.AddRule sheet rule_text location) m e = absurd cc
sheet_edits-tell-no_styles (style.SetMediaText sheet range text) m e = absurd cc

-- ---- what the DOM agent is asked

-- an ask, but not for the document
abbrev pub IsOther : DomAsk → Type 0
IsOther (ask.GetDocument depth pierce) = ⊥
IsOther (ask.RequestChildNodes node depth pierce) = ⊤
IsOther (ask.PushByPath path) = ⊤
IsOther (ask.PushBySerials serials) = ⊤
IsOther (ask.QuerySelector node selector) = ⊤
IsOther (ask.QuerySelectorAll node selector) = ⊤
IsOther (ask.GetAttributes node) = ⊤
IsOther (ask.DescribeNode id serial depth pierce) = ⊤

-- what holds of the ask for the document, and of all others
pub either_ask : (P : DomAsk → Type 0) → ((depth : Option ℤ) (pierce : Option Bool) → P (ask.GetDocument depth pierce))
    → ((a : DomAsk) → IsOther a → P a) → (a : DomAsk) → P a
either_ask P document others (ask.GetDocument depth pierce) = document depth pierce
either_ask P document others (ask.RequestChildNodes node depth pierce) = others (ask.RequestChildNodes node depth pierce) tt
either_ask P document others (ask.PushByPath path) = others (ask.PushByPath path) tt
either_ask P document others (ask.PushBySerials serials) = others (ask.PushBySerials serials) tt
either_ask P document others (ask.QuerySelector node selector) = others (ask.QuerySelector node selector) tt
either_ask P document others (ask.QuerySelectorAll node selector) = others (ask.QuerySelectorAll node selector) tt
either_ask P document others (ask.GetAttributes node) = others (ask.GetAttributes node) tt
either_ask P document others (ask.DescribeNode id serial depth pierce) = others (ask.DescribeNode id serial depth pierce) tt

-- what holds of the ask for the document, of a description, which needs nothing on, and of all asks that need DOM on
pub ask_by_need : (P : DomAsk → Type 0) → ((depth : Option ℤ) (pierce : Option Bool) → P (ask.GetDocument depth pierce))
    → ((id serial : Option ℕ) (depth : Option ℤ) (pierce : Option Bool) → P (ask.DescribeNode id serial depth pierce))
    → ((a : DomAsk) → domains_of (dom_ask_form a).method ≡ Dom → P a) → (a : DomAsk) → P a
ask_by_need P document described others (ask.GetDocument depth pierce) = document depth pierce
ask_by_need P document described others (ask.RequestChildNodes node depth pierce) = others (ask.RequestChildNodes node depth pierce) refl
ask_by_need P document described others (ask.PushByPath path) = others (ask.PushByPath path) refl
ask_by_need P document described others (ask.PushBySerials serials) = others (ask.PushBySerials serials) refl
ask_by_need P document described others (ask.QuerySelector node selector) = others (ask.QuerySelector node selector) refl
ask_by_need P document described others (ask.QuerySelectorAll node selector) = others (ask.QuerySelectorAll node selector) refl
ask_by_need P document described others (ask.GetAttributes node) = others (ask.GetAttributes node) refl
ask_by_need P document described others (ask.DescribeNode id serial depth pierce) = described id serial depth pierce

-- no other ask turns a domain on
pub others-turn-none_on : (a : DomAsk) → IsOther a → turns_dom_on (domains_of (dom_ask_form a).method) ≡ false
others-turn-none_on (ask.GetDocument depth pierce) other = absurd other
others-turn-none_on (ask.RequestChildNodes node depth pierce) other = refl
others-turn-none_on (ask.PushByPath path) other = refl
others-turn-none_on (ask.PushBySerials serials) other = refl
others-turn-none_on (ask.QuerySelector node selector) other = refl
others-turn-none_on (ask.QuerySelectorAll node selector) other = refl
others-turn-none_on (ask.GetAttributes node) other = refl
others-turn-none_on (ask.DescribeNode id serial depth pierce) other = refl

-- the results of a method are neither a document nor the text of a sheet
abbrev pub TellsNoView : List ℕ → Type 0
TellsNoView method = ((b : Branch Told) → answers method (body.Root b) ≡ false)
    × ((said : List ℕ) → answers method (body.SheetText said) ≡ false)

pub others-tell-no_view : (a : DomAsk) → IsOther a → TellsNoView (method_name (AskDom a))
others-tell-no_view (ask.GetDocument depth pierce) other = absurd other
others-tell-no_view (ask.RequestChildNodes node depth pierce) other = (λ b. refl, λ said. refl)
others-tell-no_view (ask.PushByPath path) other = (λ b. refl, λ said. refl)
others-tell-no_view (ask.PushBySerials serials) other = (λ b. refl, λ said. refl)
others-tell-no_view (ask.QuerySelector node selector) other = (λ b. refl, λ said. refl)
others-tell-no_view (ask.QuerySelectorAll node selector) other = (λ b. refl, λ said. refl)
others-tell-no_view (ask.GetAttributes node) other = (λ b. refl, λ said. refl)
others-tell-no_view (ask.DescribeNode id serial depth pierce) other = (λ b. refl, λ said. refl)

-- a method is none of the two that end what is told
abbrev pub EndsNothing : List ℕ → Type 0
EndsNothing method = (bytes_eq method (codes "DOM.disable") ≡ false) × (bytes_eq method (codes "CSS.disable") ≡ false)

pub asks-end-nothing : (a : DomAsk) → EndsNothing (method_name (AskDom a))
asks-end-nothing (ask.GetDocument depth pierce) = (refl, refl)
asks-end-nothing (ask.RequestChildNodes node depth pierce) = (refl, refl)
asks-end-nothing (ask.PushByPath path) = (refl, refl)
asks-end-nothing (ask.PushBySerials serials) = (refl, refl)
asks-end-nothing (ask.QuerySelector node selector) = (refl, refl)
asks-end-nothing (ask.QuerySelectorAll node selector) = (refl, refl)
asks-end-nothing (ask.GetAttributes node) = (refl, refl)
asks-end-nothing (ask.DescribeNode id serial depth pierce) = (refl, refl)
