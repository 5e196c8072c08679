-- What each command keeps and brings, by its method: no more edits than its parameters are large, and texts that are UTF-8.
use Rattle.std.proofs.Common.{◌≡◌, ℕ, ◌≤◌, List, length, Result, Ok, Err, ap, subst, arith}
use Rattle.std.specs.Str.{IsUtf8}
use Rattle.serde_json.specs.Data.{object, Members}
use Rattle.serde_json.specs.Find.{as_array}
use Rattle.cdp_json.specs.Kinds.{Kind, whole, text, list_of, read_items}
use Rattle.cdp_json.specs.Lookups.{then_ok, Lookups, no_lookups}
use Rattle.cdp_json.proofs.Options.{and_then_some}
use Rattle.cdp_messages.specs.declared.command.Command.{Command}
use Rattle.cdp_messages.specs.declared.command.Command.TheVariants.{DomEnable, DomDisable, CssEnable, CssDisable, AskDom, EditDom, AskCss}
use Rattle.cdp_messages.specs.declared.command.Command.TheVariants.{EditCss, MarkUndoableState, Undo, Redo, SetBreakpoint, RemoveBreakpoint}
use Rattle.cdp_messages.specs.declared.command.Command.TheVariants.{ReplayLoad, ReplayAct, AskSearch}
use Rattle.cdp_messages.specs.declared.dom_ask.DomAsk.TheVariants as ask
use Rattle.cdp_messages.specs.declared.dom_edit.DomEdit.TheVariants as tree
use Rattle.cdp_messages.specs.declared.css_ask.CssAsk.TheVariants as css
use Rattle.cdp_messages.specs.declared.css_edit.CssEdit.TheVariants as style
use Rattle.cdp_messages.specs.declared.search_ask.SearchAsk.TheVariants as search
use Rattle.cdp_messages.specs.declared.command.Param.{Param}
use Rattle.cdp_messages.specs.declared.command.Param.TheVariants as param
use Rattle.cdp_messages.specs.declared.command.Why.{Why}
use Rattle.cdp_messages.specs.declared.command.Why.TheVariants.{BadParam}
use Rattle.cdp_messages.specs.declared.method.Method.{Method}
use Rattle.cdp_messages.specs.declared.method.Method.TheVariants as method
use Rattle.cdp_messages.specs.Refusals.{param_name}
use Rattle.cdp_messages.specs.Parameters.{enable_fields, text_edit, range_parameter, needed, allowed, depth_fields, children_fields}
use Rattle.cdp_messages.specs.Parameters.{path_field, serials_field, node_field, query_fields, describe_fields, sheet_field, edits_field}
use Rattle.cdp_messages.specs.Parameters.{watch_fields, search_fields, results_fields, search_field, reads_with, command_by}
use Rattle.cdp_messages.specs.Parameters.{attribute_fields, name_fields, value_fields, set_selector_fields, sheet_text_fields}
use Rattle.cdp_messages.specs.Parameters.{add_rule_fields, set_media_fields}
use Rattle.back_end.specs.Laws.{most_edits}
use Rattle.back_end.proofs.FrameSizes.{members_size}
use Rattle.std.specs.Prelude.{⊤}
use Rattle.std.specs.List.{All}
use Rattle.cdp_json.specs.Plain.{MembersHaveUtf8}
use Rattle.css_objects.specs.declared.ranges.SourceRange.{SourceRange}
use Rattle.css_agent.specs.EditLaws.{HasEditText}
use Rattle.back_end.proofs.CommandTexts.{Any, reads-any, reads-text, reads-list, IfGiven, Gives, gives-all, gives-field, reads-edit}
use Rattle.back_end.specs.Texts.{HasServedTexts}
use Rattle.back_end.proofs.MemberSizes.{member-size, items-few, array-size, then-is, needs-one}

-- ---- how many edits a command keeps

-- how many edits a command comes to at most
abbrev pub edits_of : Command → ℕ
edits_of c = most_edits c

-- a command that keeps two edits at most
edits-two : {A B : Type 0} (p : Param) (k : Kind A) (later : Lookups Why B) (makes : A × B → Command) (ms : Members) (c : Command)
    → ((x : A × B) → edits_of (makes x) ≤ 2) → then_ok ((needed p k later).gets ms) (λ x. Ok (makes x)) ≡ Ok c
    → edits_of c ≤ members_size ms
edits-two p k later makes ms c few is =
    let all = needs-one p k later makes ms c is in
    let size = member-size (param_name p) ms all.0 all.2 in
    let two = subst (λ e. edits_of e ≤ 2) all.4 (few all.1) in
    omega arith

-- one that keeps none
edits-none : {T : Type 0} (fields : Lookups Why T) (makes : T → Command) (ms : Members) (c : Command)
    → ((x : T) → edits_of (makes x) ≤ 0) → reads_with fields makes ms ≡ Ok c → edits_of c ≤ members_size ms
edits-none fields makes ms c none is =
    let all = then-is (fields.gets ms) (λ x. Ok (makes x)) c is in
    let made : makes all.0 ≡ c = cc in
    let zero = subst (λ e. edits_of e ≤ 0) made (none all.0) in
    omega arith

-- and one that is read of nothing
edits-bare : (made c : Command) (ms : Members) → edits_of made ≤ 0 → ◌≡◌ {A = Result Command Why} (Ok made) (Ok c)
    → edits_of c ≤ members_size ms
edits-bare made c ms none is = let same : made ≡ c = cc in let zero = subst (λ e. edits_of e ≤ 0) same none in omega arith

edits-texts : (ms : Members) (c : Command) → reads_with edits_field (λ x. EditCss (style.SetStyleTexts x.0)) ms ≡ Ok c → edits_of c ≤
    members_size ms
edits-texts ms c is =
    let all = needs-one param.Edits (list_of text_edit) no_lookups (λ x. EditCss (style.SetStyleTexts x.0)) ms c is in
    let size = member-size (param_name param.Edits) ms all.0 all.2 in
    let found = and_then_some (read_items text_edit.reads) (as_array all.0) all.1.0 all.3 in
    let few = items-few text_edit.reads found.0 all.1.0 found.2 in
    let whole = array-size all.0 found.0 found.1 in
    let same : length all.1.0 ≡ edits_of c = ap edits_of all.4 in
    omega arith

-- a command keeps no more edits than its parameters are large
pub edits-by : (m : Method) (ms : Members) (c : Command) → command_by m ms ≡ Ok c → edits_of c ≤ members_size ms
edits-by method.DomEnable ms c is = edits-none enable_fields (λ x. DomEnable x.0) ms c (λ x. omega arith) is
edits-by method.DomDisable ms c is = edits-bare DomDisable c ms (omega arith) is
edits-by method.GetDocument ms c is = edits-none depth_fields (λ x. AskDom (ask.GetDocument x.0 x.1.0)) ms c (λ x. omega arith) is
edits-by method.RequestChildNodes ms c is =
    edits-none children_fields (λ x. AskDom (ask.RequestChildNodes x.0 x.1.0 x.1.1.0)) ms c (λ x. omega arith) is
edits-by method.PushByPath ms c is = edits-none path_field (λ x. AskDom (ask.PushByPath x.0)) ms c (λ x. omega arith) is
edits-by method.PushBySerials ms c is = edits-none serials_field (λ x. AskDom (ask.PushBySerials x.0)) ms c (λ x. omega arith) is
edits-by method.QuerySelector ms c is = edits-none query_fields (λ x. AskDom (ask.QuerySelector x.0 x.1.0)) ms c (λ x. omega arith) is
edits-by method.QuerySelectorAll ms c is = edits-none query_fields (λ x. AskDom (ask.QuerySelectorAll x.0 x.1.0)) ms c (λ x. omega arith) is
edits-by method.GetAttributes ms c is = edits-none node_field (λ x. AskDom (ask.GetAttributes x.0)) ms c (λ x. omega arith) is
edits-by method.DescribeNode ms c is =
    edits-none describe_fields (λ x. AskDom (ask.DescribeNode x.0 x.1.0 x.1.1.0 x.1.1.1.0)) ms c (λ x. omega arith) is
edits-by method.SetAttributeValue ms c is = edits-two param.NodeId whole (needed param.Name text (needed param.Value text no_lookups))
    (λ x. EditDom (tree.SetAttributeValue x.0 x.1.0 x.1.1.0)) ms c (λ x. omega arith) is
edits-by method.RemoveAttribute ms c is = edits-two param.NodeId whole (needed param.Name text no_lookups)
    (λ x. EditDom (tree.RemoveAttribute x.0 x.1.0)) ms c (λ x. omega arith) is
edits-by method.SetNodeValue ms c is =
    edits-two param.NodeId whole (needed param.Value text no_lookups) (λ x. EditDom (tree.SetNodeValue x.0 x.1.0)) ms c
    (λ x. omega arith) is
edits-by method.RemoveNode ms c is = edits-two param.NodeId whole no_lookups (λ x. EditDom (tree.RemoveNode x.0)) ms c (λ x. omega arith) is
edits-by method.MoveTo ms c is = edits-two param.NodeId whole
    (needed param.TargetNodeId whole (allowed param.InsertBeforeNodeId whole no_lookups)) (λ x. EditDom (tree.MoveTo x.0 x.1.0 x.1.1.0)) ms
    c
    (λ x. omega arith) is
edits-by method.CopyTo ms c is = edits-two param.NodeId whole
    (needed param.TargetNodeId whole (allowed param.InsertBeforeNodeId whole no_lookups)) (λ x. EditDom (tree.CopyTo x.0 x.1.0 x.1.1.0)) ms
    c
    (λ x. omega arith) is
edits-by method.MarkUndoableState ms c is = edits-bare MarkUndoableState c ms (omega arith) is
edits-by method.Undo ms c is = edits-bare Undo c ms (omega arith) is
edits-by method.Redo ms c is = edits-bare Redo c ms (omega arith) is
edits-by method.CssEnable ms c is = edits-bare CssEnable c ms (omega arith) is
edits-by method.CssDisable ms c is = edits-bare CssDisable c ms (omega arith) is
edits-by method.GetMatchedStyles ms c is = edits-none node_field (λ x. AskCss (css.GetMatchedStyles x.0)) ms c (λ x. omega arith) is
edits-by method.GetStyleSheetText ms c is = edits-none sheet_field (λ x. AskCss (css.GetStyleSheetText x.0)) ms c (λ x. omega arith) is
edits-by method.CollectClassNames ms c is = edits-none sheet_field (λ x. AskCss (css.CollectClassNames x.0)) ms c (λ x. omega arith) is
edits-by method.SetStyleTexts ms c is = edits-texts ms c is
edits-by method.SetRuleSelector ms c is = edits-two param.StyleSheetId text
    (needed param.Range range_parameter (needed param.Selector text no_lookups)) (λ x. EditCss (style.SetRuleSelector x.0 x.1.0 x.1.1.0))
    ms c
    (λ x. omega arith) is
edits-by method.SetStyleSheetText ms c is = edits-two param.StyleSheetId text (needed param.Text text no_lookups)
    (λ x. EditCss (style.SetStyleSheetText x.0 x.1.0)) ms c (λ x. omega arith) is
edits-by method.AddRule ms c is = edits-two param.StyleSheetId text
    (needed param.RuleText text (needed param.Location range_parameter no_lookups)) (λ x. EditCss (style.AddRule x.0 x.1.0 x.1.1.0)) ms c
    (λ x. omega arith) is
edits-by method.SetMediaText ms c is = edits-two param.StyleSheetId text
    (needed param.Range range_parameter (needed param.Text text no_lookups)) (λ x. EditCss (style.SetMediaText x.0 x.1.0 x.1.1.0))
    ms c
    (λ x. omega arith) is
edits-by method.PerformSearch ms c is =
    edits-none search_fields (λ x. AskSearch (search.PerformSearch x.0 x.1.0)) ms c (λ x. omega arith) is
edits-by method.GetSearchResults ms c is =
    edits-none results_fields (λ x. AskSearch (search.GetSearchResults x.0 x.1.0 x.1.1.0)) ms c (λ x. omega arith) is
edits-by method.DiscardSearchResults ms c is =
    edits-none search_field (λ x. AskSearch (search.DiscardSearchResults x.0)) ms c (λ x. omega arith) is
edits-by method.SetBreakpoint ms c is = edits-none watch_fields (λ x. SetBreakpoint x.0 x.1.0) ms c (λ x. omega arith) is
edits-by method.RemoveBreakpoint ms c is = edits-none watch_fields (λ x. RemoveBreakpoint x.0 x.1.0) ms c (λ x. omega arith) is
edits-by method.ReplayLoad ms c is = edits-bare (ReplayLoad (object ms)) c ms (omega arith) is
edits-by method.ReplayAct ms c is = edits-bare (ReplayAct (object ms)) c ms (omega arith) is

-- ---- which texts a command brings

-- what is asked, if anything is, has UTF-8 texts where it is one of our own two methods
abbrev pub CommandTexts : Result Command Why → Type 0
CommandTexts (Ok c) = HasServedTexts c
CommandTexts (Err why) = ⊤

-- one whose parameters bring none
brings-none : {T : Type 0} (r : Result T Why) (makes : T → Command) → ((x : T) → HasServedTexts (makes x))
    → CommandTexts (then_ok r (λ x. Ok (makes x)))
brings-none (Ok x) makes has = has x
brings-none (Err why) makes has = tt

-- one whose parameters bring texts
given : {T : Type 0} (fields : Lookups Why T) (makes : T → Command) (P : T → Type 0) (ms : Members) → MembersHaveUtf8 ms → Gives fields P
    → ((x : T) → P x → HasServedTexts (makes x))
    → CommandTexts (reads_with fields makes ms)
given fields makes P ms u gives has = at (fields.gets ms) (gives ms u) where
  at : (r : Result _ Why) → IfGiven P r → CommandTexts (then_ok r (λ x. Ok (makes x)))
  at (Ok x) g = has x g
  at (Err why) g = tt

needed-text : {B : Type 0} (p : Param) (later : Lookups Why B) (Q : B → Type 0) → Gives later Q
    → Gives (needed p text later) (λ x. IsUtf8 x.0 × Q x.1)
needed-text p later Q rest = gives-field (param_name p) (BadParam p) text later IsUtf8 Q reads-text rest

needed-any : {A B : Type 0} (p : Param) (k : Kind A) (later : Lookups Why B) (Q : B → Type 0) → Gives later Q
    → Gives (needed p k later) (λ x. Any x.0 × Q x.1)
needed-any p k later Q rest = gives-field (param_name p) (BadParam p) k later Any Q (reads-any k.reads) rest

-- what the parameters of each give
abbrev OneText : List ℕ × ⊤ → Type 0
OneText x = IsUtf8 x.0 × Any x.1

abbrev TwoTexts : List ℕ × (List ℕ × ⊤) → Type 0
TwoTexts x = IsUtf8 x.0 × OneText x.1

last-text : (p : Param) → Gives (needed p text no_lookups) OneText
last-text p = needed-text p no_lookups Any (gives-all Why)

attribute-gives : Gives attribute_fields (λ x. Any x.0 × TwoTexts x.1)
attribute-gives =
    needed-any param.NodeId whole (needed param.Name text (needed param.Value text no_lookups)) TwoTexts
    (needed-text param.Name (needed param.Value text no_lookups) OneText (last-text param.Value))

edits-give : Gives edits_field (λ x. All HasEditText x.0 × Any x.1)
edits-give = gives-field (param_name param.Edits) (BadParam param.Edits) (list_of text_edit) no_lookups (All HasEditText) Any
    (reads-list text_edit HasEditText reads-edit) (gives-all Why)

selector-gives : Gives set_selector_fields (λ x. IsUtf8 x.0 × (Any x.1.0 × OneText x.1.1))
selector-gives =
    needed-text param.StyleSheetId (needed param.Range range_parameter (needed param.Selector text no_lookups))
    (λ (x : SourceRange × (List ℕ × ⊤)). Any x.0 × OneText x.1)
    (needed-any param.Range range_parameter (needed param.Selector text no_lookups) OneText (last-text param.Selector))

media-gives : Gives set_media_fields (λ x. IsUtf8 x.0 × (Any x.1.0 × OneText x.1.1))
media-gives =
    needed-text param.StyleSheetId (needed param.Range range_parameter (needed param.Text text no_lookups))
    (λ (x : SourceRange × (List ℕ × ⊤)). Any x.0 × OneText x.1)
    (needed-any param.Range range_parameter (needed param.Text text no_lookups) OneText (last-text param.Text))

rule-gives : Gives add_rule_fields (λ x. IsUtf8 x.0 × (IsUtf8 x.1.0 × (Any x.1.1.0 × Any x.1.1.1)))
rule-gives =
    needed-text param.StyleSheetId (needed param.RuleText text (needed param.Location range_parameter no_lookups))
    (λ (x : List ℕ × (SourceRange × ⊤)). IsUtf8 x.0 × (Any x.1.0 × Any x.1.1))
    (needed-text param.RuleText (needed param.Location range_parameter no_lookups) (λ (x : SourceRange × ⊤). Any x.0 × Any x.1)
    (needed-any param.Location range_parameter no_lookups Any (gives-all Why)))

-- a command that is read of UTF-8 texts has such texts
pub by-method : (m : Method) (ms : Members) → MembersHaveUtf8 ms → CommandTexts (command_by m ms)
by-method method.DomEnable ms u = brings-none _ (λ x. DomEnable x.0) (λ x. tt)
by-method method.DomDisable ms u = tt
by-method method.GetDocument ms u = brings-none _ (λ x. AskDom (ask.GetDocument x.0 x.1.0)) (λ x. tt)
by-method method.RequestChildNodes ms u = brings-none _ (λ x. AskDom (ask.RequestChildNodes x.0 x.1.0 x.1.1.0))
    (λ x. tt)
by-method method.PushByPath ms u = brings-none _ (λ x. AskDom (ask.PushByPath x.0)) (λ x. tt)
by-method method.PushBySerials ms u = brings-none _ (λ x. AskDom (ask.PushBySerials x.0)) (λ x. tt)
by-method method.QuerySelector ms u = brings-none _ (λ x. AskDom (ask.QuerySelector x.0 x.1.0)) (λ x. tt)
by-method method.QuerySelectorAll ms u = brings-none _ (λ x. AskDom (ask.QuerySelectorAll x.0 x.1.0))
    (λ x. tt)
by-method method.GetAttributes ms u = brings-none _ (λ x. AskDom (ask.GetAttributes x.0)) (λ x. tt)
by-method method.DescribeNode ms u = brings-none _ (λ x. AskDom (ask.DescribeNode x.0 x.1.0 x.1.1.0 x.1.1.1.0))
    (λ x. tt)
by-method method.SetAttributeValue ms u = given attribute_fields (λ x. EditDom (tree.SetAttributeValue x.0 x.1.0 x.1.1.0))
    (λ x. Any x.0 × TwoTexts x.1) ms u attribute-gives (λ x g. (g.1.0, g.1.1.0))
by-method method.RemoveAttribute ms u = given name_fields (λ x. EditDom (tree.RemoveAttribute x.0 x.1.0)) (λ x. Any x.0 × OneText x.1) ms u
    (needed-any param.NodeId whole (needed param.Name text no_lookups) OneText (last-text param.Name)) (λ x g. g.1.0)
by-method method.SetNodeValue ms u = given value_fields (λ x. EditDom (tree.SetNodeValue x.0 x.1.0)) (λ x. Any x.0 × OneText x.1) ms u
    (needed-any param.NodeId whole (needed param.Value text no_lookups) OneText (last-text param.Value)) (λ x g. g.1.0)
by-method method.RemoveNode ms u = brings-none _ (λ x. EditDom (tree.RemoveNode x.0)) (λ x. tt)
by-method method.MoveTo ms u = brings-none _ (λ x. EditDom (tree.MoveTo x.0 x.1.0 x.1.1.0)) (λ x. tt)
by-method method.CopyTo ms u = brings-none _ (λ x. EditDom (tree.CopyTo x.0 x.1.0 x.1.1.0)) (λ x. tt)
by-method method.MarkUndoableState ms u = tt
by-method method.Undo ms u = tt
by-method method.Redo ms u = tt
by-method method.CssEnable ms u = tt
by-method method.CssDisable ms u = tt
by-method method.GetMatchedStyles ms u = brings-none _ (λ x. AskCss (css.GetMatchedStyles x.0)) (λ x. tt)
by-method method.GetStyleSheetText ms u = brings-none _ (λ x. AskCss (css.GetStyleSheetText x.0)) (λ x. tt)
by-method method.CollectClassNames ms u = brings-none _ (λ x. AskCss (css.CollectClassNames x.0)) (λ x. tt)
by-method method.SetStyleTexts ms u =
    given edits_field (λ x. EditCss (style.SetStyleTexts x.0)) (λ x. All HasEditText x.0 × Any x.1) ms u edits-give
    (λ x g. g.0)
by-method method.SetRuleSelector ms u = given set_selector_fields (λ x. EditCss (style.SetRuleSelector x.0 x.1.0 x.1.1.0))
    (λ x. IsUtf8 x.0 × (Any x.1.0 × OneText x.1.1)) ms u selector-gives (λ x g. g.1.1.0)
by-method method.SetStyleSheetText ms u = given sheet_text_fields (λ x. EditCss (style.SetStyleSheetText x.0 x.1.0)) TwoTexts ms u
    (needed-text param.StyleSheetId (needed param.Text text no_lookups) OneText (last-text param.Text)) (λ x g. g.1.0)
by-method method.AddRule ms u = given add_rule_fields (λ x. EditCss (style.AddRule x.0 x.1.0 x.1.1.0))
    (λ x. IsUtf8 x.0 × (IsUtf8 x.1.0 × (Any x.1.1.0 × Any x.1.1.1))) ms u rule-gives (λ x g. g.1.0)
by-method method.SetMediaText ms u = given set_media_fields (λ x. EditCss (style.SetMediaText x.0 x.1.0 x.1.1.0))
    (λ x. IsUtf8 x.0 × (Any x.1.0 × OneText x.1.1)) ms u media-gives (λ x g. g.1.1.0)
by-method method.PerformSearch ms u = brings-none _ (λ x. AskSearch (search.PerformSearch x.0 x.1.0)) (λ x. tt)
by-method method.GetSearchResults ms u = brings-none _ (λ x. AskSearch (search.GetSearchResults x.0 x.1.0 x.1.1.0)) (λ x. tt)
by-method method.DiscardSearchResults ms u = brings-none _ (λ x. AskSearch (search.DiscardSearchResults x.0)) (λ x. tt)
by-method method.SetBreakpoint ms u = brings-none _ (λ x. SetBreakpoint x.0 x.1.0) (λ x. tt)
by-method method.RemoveBreakpoint ms u = brings-none _ (λ x. RemoveBreakpoint x.0 x.1.0) (λ x. tt)
by-method method.ReplayLoad ms u = u
by-method method.ReplayAct ms u = u
