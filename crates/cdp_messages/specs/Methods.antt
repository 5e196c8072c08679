-- The methods, and their names.
use Rattle.std.specs.Prelude.{ℕ, List, [], ◌∷◌, codes, Bool, true, false, not, ◌&&◌, cond, Option, Some, None, option_and_then}
use Rattle.cdp_json.specs.Kinds.{named}
use Rattle.cdp_messages.specs.declared.method.Server.{Server}
use Rattle.cdp_messages.specs.declared.method.Server.TheVariants as server
use Rattle.cdp_messages.specs.declared.method.Domains.{Domains}
use Rattle.cdp_messages.specs.declared.method.Domains.TheVariants as domains
use Rattle.cdp_messages.specs.declared.method.MethodRow.{MethodRow}
use Rattle.cdp_messages.specs.declared.method.ResultForm.{ResultForm}
use Rattle.cdp_messages.specs.declared.method.ResultForm.TheVariants as form
use Rattle.cdp_messages.specs.declared.method.Method.{Method}
use Rattle.cdp_messages.specs.declared.method.Method.TheVariants.{DomEnable, DomDisable, GetDocument, RequestChildNodes, PushByPath}
use Rattle.cdp_messages.specs.declared.method.Method.TheVariants.{PushBySerials, QuerySelector, QuerySelectorAll, GetAttributes}
use Rattle.cdp_messages.specs.declared.method.Method.TheVariants.{DescribeNode, SetAttributeValue, RemoveAttribute, SetNodeValue}
use Rattle.cdp_messages.specs.declared.method.Method.TheVariants.{RemoveNode, MoveTo, CopyTo, MarkUndoableState, Undo, Redo, CssEnable}
use Rattle.cdp_messages.specs.declared.method.Method.TheVariants.{CssDisable, GetMatchedStyles, GetStyleSheetText, CollectClassNames}
use Rattle.cdp_messages.specs.declared.method.Method.TheVariants.{SetStyleTexts, SetRuleSelector, SetStyleSheetText, AddRule, SetMediaText}
use Rattle.cdp_messages.specs.declared.method.Method.TheVariants.{PerformSearch, GetSearchResults, DiscardSearchResults}
use Rattle.cdp_messages.specs.declared.method.Method.TheVariants.{SetBreakpoint, RemoveBreakpoint, ReplayLoad, ReplayAct}

-- what is said of a method, once
pub record MethodSaid : Type 0 where
  pub name : List ℕ
  pub server : Server
  pub domains : Domains
  pub form : ResultForm

-- a row of the table
abbrev pub said : List ℕ → Server → Domains → ResultForm → MethodSaid
said n s d f = record { name = n; server = s; domains = d; form = f }

-- a row as code holds it
abbrev pub row_seen : MethodRow → MethodSaid
row_seen r = said r.name.now r.server r.domains r.form

-- The table: the name of each method, whose it is, the domains that it needs on or turns on, and the form of its result.
abbrev pub row_of : Method → MethodSaid
row_of DomEnable = said (codes "DOM.enable") server.Seat domains.TurnsDomOn form.Nothing
row_of DomDisable = said (codes "DOM.disable") server.Seat domains.Dom form.Nothing
row_of GetDocument = said (codes "DOM.getDocument") server.DomAgent domains.TurnsDomOn form.Root
row_of RequestChildNodes = said (codes "DOM.requestChildNodes") server.DomAgent domains.Dom form.Nothing
row_of PushByPath = said (codes "DOM.pushNodeByPathToFrontend") server.DomAgent domains.Dom form.NodeId
row_of PushBySerials = said (codes "DOM.pushNodesByBackendIdsToFrontend") server.DomAgent domains.Dom form.NodeIds
row_of QuerySelector = said (codes "DOM.querySelector") server.DomAgent domains.Dom form.NodeId
row_of QuerySelectorAll = said (codes "DOM.querySelectorAll") server.DomAgent domains.Dom form.NodeIds
row_of GetAttributes = said (codes "DOM.getAttributes") server.DomAgent domains.Dom form.Attributes
row_of DescribeNode = said (codes "DOM.describeNode") server.DomAgent domains.Any form.Node
row_of SetAttributeValue = said (codes "DOM.setAttributeValue") server.Seat domains.Dom form.Nothing
row_of RemoveAttribute = said (codes "DOM.removeAttribute") server.Seat domains.Dom form.Nothing
row_of SetNodeValue = said (codes "DOM.setNodeValue") server.Seat domains.Dom form.Nothing
row_of RemoveNode = said (codes "DOM.removeNode") server.Seat domains.Dom form.Nothing
row_of MoveTo = said (codes "DOM.moveTo") server.Seat domains.Dom form.NodeId
row_of CopyTo = said (codes "DOM.copyTo") server.Seat domains.Dom form.NodeId
row_of MarkUndoableState = said (codes "DOM.markUndoableState") server.Seat domains.Dom form.Nothing
row_of Undo = said (codes "DOM.undo") server.Seat domains.Dom form.Nothing
row_of Redo = said (codes "DOM.redo") server.Seat domains.Dom form.Nothing
row_of CssEnable = said (codes "CSS.enable") server.Seat domains.Dom form.Nothing
row_of CssDisable = said (codes "CSS.disable") server.Seat domains.DomAndCss form.Nothing
row_of GetMatchedStyles = said (codes "CSS.getMatchedStylesForNode") server.CssAgent domains.DomAndCss form.Matched
row_of GetStyleSheetText = said (codes "CSS.getStyleSheetText") server.CssAgent domains.DomAndCss form.SheetText
row_of CollectClassNames = said (codes "CSS.collectClassNames") server.CssAgent domains.DomAndCss form.ClassNames
row_of SetStyleTexts = said (codes "CSS.setStyleTexts") server.CssAgent domains.DomAndCss form.Styles
row_of SetRuleSelector = said (codes "CSS.setRuleSelector") server.CssAgent domains.DomAndCss form.Selectors
row_of SetStyleSheetText = said (codes "CSS.setStyleSheetText") server.CssAgent domains.DomAndCss form.Nothing
row_of AddRule = said (codes "CSS.addRule") server.CssAgent domains.DomAndCss form.Rule
row_of SetMediaText = said (codes "CSS.setMediaText") server.CssAgent domains.DomAndCss form.Media
row_of PerformSearch = said (codes "DOM.performSearch") server.Seat domains.Dom form.Search
row_of GetSearchResults = said (codes "DOM.getSearchResults") server.Seat domains.Dom form.NodeIds
row_of DiscardSearchResults = said (codes "DOM.discardSearchResults") server.Seat domains.Dom form.Nothing
row_of SetBreakpoint = said (codes "DOMDebugger.setDOMBreakpoint") server.Seat domains.Dom form.Nothing
row_of RemoveBreakpoint = said (codes "DOMDebugger.removeDOMBreakpoint") server.Seat domains.Dom form.Nothing
row_of ReplayLoad = said (codes "Replay.load") server.Replay domains.Any form.Nothing
row_of ReplayAct = said (codes "Replay.act") server.Replay domains.Any form.Nothing

-- a method's name
abbrev pub name_of : Method → List ℕ
name_of m = (row_of m).name

-- the form of its result
abbrev pub result_form : Method → ResultForm
result_form m = (row_of m).form

-- the domains that it needs on
abbrev pub domains_of : Method → Domains
domains_of m = (row_of m).domains

-- each method once
abbrev pub all_methods : List Method
all_methods =
    DomEnable ∷ DomDisable ∷ GetDocument ∷ RequestChildNodes ∷ PushByPath ∷ PushBySerials
    ∷ QuerySelector ∷ QuerySelectorAll ∷ GetAttributes ∷ DescribeNode ∷ SetAttributeValue ∷ RemoveAttribute
    ∷ SetNodeValue ∷ RemoveNode ∷ MoveTo ∷ CopyTo ∷ MarkUndoableState ∷ Undo
    ∷ Redo ∷ CssEnable ∷ CssDisable ∷ GetMatchedStyles ∷ GetStyleSheetText ∷ CollectClassNames
    ∷ SetStyleTexts ∷ SetRuleSelector ∷ SetStyleSheetText ∷ AddRule ∷ SetMediaText ∷ PerformSearch
    ∷ GetSearchResults ∷ DiscardSearchResults ∷ SetBreakpoint ∷ RemoveBreakpoint ∷ ReplayLoad ∷ ReplayAct ∷ []

-- the method that has the name
abbrev pub method_named : List ℕ → Option Method
method_named = named name_of all_methods

-- our own two methods are served for `Replay`
abbrev pub is_replay : Server → Bool
is_replay server.DomAgent = false
is_replay server.CssAgent = false
is_replay server.Seat = false
is_replay server.Replay = true

-- the methods that are no part of the protocol
abbrev pub is_own : Method → Bool
is_own m = is_replay (row_of m).server

-- DOM has to be on
abbrev pub needs_dom : Domains → Bool
needs_dom domains.Any = false
needs_dom domains.TurnsDomOn = false
needs_dom domains.Dom = true
needs_dom domains.DomAndCss = true

-- CSS has to be on too
abbrev pub needs_both : Domains → Bool
needs_both domains.Any = false
needs_both domains.TurnsDomOn = false
needs_both domains.Dom = false
needs_both domains.DomAndCss = true

-- DOM is on afterwards
abbrev pub turns_dom_on : Domains → Bool
turns_dom_on domains.Any = false
turns_dom_on domains.TurnsDomOn = true
turns_dom_on domains.Dom = false
turns_dom_on domains.DomAndCss = false

-- one of the protocol, or of our own where these are known
abbrev pub if_known : Bool → Method → Option Method
if_known own m = cond (is_own m && not own) None (Some m)

-- the method that has the name, where it is known
abbrev pub known_method : Bool → List ℕ → Option Method
known_method own name = option_and_then (if_known own) (method_named name)
