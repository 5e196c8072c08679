-- The results of the methods, one row each: their kinds where they are of the DOM domain (those of the CSS domain stand with its objects),
-- their forms, how they are spelled and read, what they tell, their texts and their levels.
use Rattle.std.specs.Prelude.{◌≡◌, ℕ, List, [], ◌∷◌, codes, Bool, true, ◌&&◌, Option, None, option_map, bytes_eq, ⊤, IsUtf8}
use Rattle.std.specs.List.{list_all, AllByRecursion}
use Rattle.serde_json.specs.Data.{Data, object, no_members}
use Rattle.cdp_json.specs.Kinds.{Kind, whole, refined, list_of}
use Rattle.cdp_json.specs.Rows.{ends, and_need, object_of, unit_if}
use Rattle.node_tree.specs.Labels.{Pair, is_ascending, PairsHaveUtf8}
use Rattle.node_tree.specs.Names.{is_attribute_name}
use Rattle.node_tree.specs.Nodes.{Branch, alone, height}
use Rattle.css_objects.specs.declared.rules.Matched.{Matched as MatchedStyles}
use Rattle.css_objects.specs.declared.styles.Style.{Style}
use Rattle.css_objects.specs.Results.{sheet_text_result, class_names_result, styles_result, selectors_result, rule_result, media_result}
use Rattle.css_objects.specs.Rules.{matched_kind}
use Rattle.css_objects.specs.Laws.{SelectorsHaveUtf8, StyleHasUtf8, RuleHasUtf8, MediaHasUtf8, MatchedHaveUtf8}
use Rattle.dom_objects.specs.Told.{Told}
use Rattle.dom_objects.specs.NodeObject.{attribute_list}
use Rattle.dom_objects.specs.NodeKinds.{document_kind, described_kind}
use Rattle.dom_objects.specs.NodeData.{fits_tree, fits_described_tree}
use Rattle.dom_objects.specs.NodeTexts.{NodesHaveUtf8}
use Rattle.cdp_messages.specs.declared.down.ReplyBody.{ReplyBody}
use Rattle.cdp_messages.specs.declared.down.ReplyBody.TheVariants.{Nothing, Root, Node, NodeId, NodeIds, Attributes, ClassNames, SheetText}
use Rattle.cdp_messages.specs.declared.down.ReplyBody.TheVariants.{Styles, Selectors, Rule, Media, Matched, Search}
use Rattle.cdp_messages.specs.declared.method.ResultForm.{ResultForm}
use Rattle.cdp_messages.specs.declared.method.ResultForm.TheVariants as form
use Rattle.cdp_messages.specs.Events.{is_object}
use Rattle.cdp_messages.specs.SearchIds.{search_kind}

-- ---- kinds

-- the empty result, which is read from any object
abbrev pub nothing_kind : Kind ⊤
nothing_kind = record { spell = λ _. object no_members; reads = λ d. unit_if (is_object d); fits = λ _. true; loose = None }

-- of `DOM.getDocument`: the document
abbrev pub root_kind : Kind (Branch Told × ⊤)
root_kind = object_of (and_need (codes "root") document_kind ends)

-- of `DOM.describeNode`: the node
abbrev pub node_kind : Kind (Branch Told × ⊤)
node_kind = object_of (and_need (codes "node") described_kind ends)

-- the id of a node, or 0
abbrev pub id_kind : Kind (ℕ × ⊤)
id_kind = object_of (and_need (codes "nodeId") whole ends)

-- ids, 0 for each node that is not there
abbrev pub ids_kind : Kind (List ℕ × ⊤)
ids_kind = object_of (and_need (codes "nodeIds") (list_of whole) ends)

-- attributes of an element: their names have their forms, are distinct and ascend by bytes
abbrev pub are_attributes : List Pair → Bool
are_attributes ps = is_ascending ps && list_all (λ p. is_attribute_name p.0) ps

-- of `DOM.getAttributes`: names and values in turn
abbrev pub attributes_kind : Kind (List Pair × ⊤)
attributes_kind = object_of (and_need (codes "attributes") (refined attribute_list are_attributes) ends)

-- of `DOM.performSearch`: how many nodes were found, and the search
abbrev pub search_result_kind : Kind (ℕ × (ℕ × ⊤))
search_result_kind = object_of (and_need (codes "resultCount") whole (and_need (codes "searchId") search_kind ends))

-- ---- forms

-- the first field of a result of that form; the empty result has none
abbrev pub first_field : ResultForm → List ℕ
first_field form.Nothing = []
first_field form.Root = codes "root"
first_field form.Node = codes "node"
first_field form.NodeId = codes "nodeId"
first_field form.NodeIds = codes "nodeIds"
first_field form.Attributes = codes "attributes"
first_field form.Search = codes "resultCount"
first_field form.ClassNames = codes "classNames"
first_field form.SheetText = codes "text"
first_field form.Styles = codes "styles"
first_field form.Selectors = codes "selectorList"
first_field form.Rule = codes "rule"
first_field form.Media = codes "media"
first_field form.Matched = codes "inherited"

-- each form once
abbrev pub all_forms : List ResultForm
all_forms =
    form.Nothing ∷ form.Root ∷ form.Node ∷ form.NodeId ∷ form.NodeIds ∷ form.Attributes
    ∷ form.Search ∷ form.ClassNames ∷ form.SheetText ∷ form.Styles ∷ form.Selectors ∷ form.Rule
    ∷ form.Media ∷ form.Matched ∷ []

-- the two forms are the same: no two have the same first field
abbrev pub is_form : ResultForm → ResultForm → Bool
is_form a b = bytes_eq (first_field a) (first_field b)

-- ---- results

-- the value that spells a result
abbrev pub body_data : ReplyBody → Data
body_data Nothing = nothing_kind.spell tt
body_data (Root tree) = root_kind.spell (tree, tt)
body_data (Node tree) = node_kind.spell (tree, tt)
body_data (NodeId id) = id_kind.spell (id, tt)
body_data (NodeIds ids) = ids_kind.spell (ids, tt)
body_data (Attributes pairs) = attributes_kind.spell (pairs, tt)
body_data (Search search count) = search_result_kind.spell (count, (search, tt))
body_data (ClassNames names) = class_names_result.spell names
body_data (SheetText said) = sheet_text_result.spell said
body_data (Styles styles) = styles_result.spell styles
body_data (Selectors selectors) = selectors_result.spell selectors
body_data (Rule rule) = rule_result.spell rule
body_data (Media media) = media_result.spell media
body_data (Matched matched) = matched_kind.spell matched

-- a result that is spelled
abbrev pub fits_body : ReplyBody → Bool
fits_body Nothing = true
fits_body (Root tree) = fits_tree true tree
fits_body (Node tree) = fits_described_tree tree
fits_body (NodeId id) = id_kind.fits (id, tt)
fits_body (NodeIds ids) = ids_kind.fits (ids, tt)
fits_body (Attributes pairs) = are_attributes pairs
fits_body (Search search count) = search_result_kind.fits (count, (search, tt))
fits_body (ClassNames names) = class_names_result.fits names
fits_body (SheetText said) = sheet_text_result.fits said
fits_body (Styles styles) = styles_result.fits styles
fits_body (Selectors selectors) = selectors_result.fits selectors
fits_body (Rule rule) = rule_result.fits rule
fits_body (Media media) = media_result.fits media
fits_body (Matched matched) = matched_kind.fits matched

-- the form of a result
abbrev pub form_of_body : ReplyBody → ResultForm
form_of_body Nothing = form.Nothing
form_of_body (Root tree) = form.Root
form_of_body (Node tree) = form.Node
form_of_body (NodeId id) = form.NodeId
form_of_body (NodeIds ids) = form.NodeIds
form_of_body (Attributes pairs) = form.Attributes
form_of_body (Search search count) = form.Search
form_of_body (ClassNames names) = form.ClassNames
form_of_body (SheetText said) = form.SheetText
form_of_body (Styles styles) = form.Styles
form_of_body (Selectors selectors) = form.Selectors
form_of_body (Rule rule) = form.Rule
form_of_body (Media media) = form.Media
form_of_body (Matched matched) = form.Matched

-- the result of that form that a value spells
abbrev pub result_by : ResultForm → Data → Option ReplyBody
result_by form.Nothing d = option_map (λ _. Nothing) (nothing_kind.reads d)
result_by form.Root d = option_map (λ x. Root x.0) (root_kind.reads d)
result_by form.Node d = option_map (λ x. Node x.0) (node_kind.reads d)
result_by form.NodeId d = option_map (λ x. NodeId x.0) (id_kind.reads d)
result_by form.NodeIds d = option_map (λ x. NodeIds x.0) (ids_kind.reads d)
result_by form.Attributes d = option_map (λ x. Attributes x.0) (attributes_kind.reads d)
result_by form.Search d = option_map (λ x. Search x.1.0 x.0) (search_result_kind.reads d)
result_by form.ClassNames d = option_map (λ x. ClassNames x) (class_names_result.reads d)
result_by form.SheetText d = option_map (λ x. SheetText x) (sheet_text_result.reads d)
result_by form.Styles d = option_map (λ x. Styles x) (styles_result.reads d)
result_by form.Selectors d = option_map (λ x. Selectors x) (selectors_result.reads d)
result_by form.Rule d = option_map (λ x. Rule x) (rule_result.reads d)
result_by form.Media d = option_map (λ x. Media x) (media_result.reads d)
result_by form.Matched d = option_map (λ x. Matched x) (matched_kind.reads d)

-- the value spells the result; any object spells the empty one
abbrev pub Spells : ReplyBody → Data → Type 0
Spells Nothing d = is_object d ≡ true
Spells (Root b) d = d ≡ body_data (Root b)
Spells (Node b) d = d ≡ body_data (Node b)
Spells (NodeId id) d = d ≡ body_data (NodeId id)
Spells (NodeIds ids) d = d ≡ body_data (NodeIds ids)
Spells (Attributes pairs) d = d ≡ body_data (Attributes pairs)
Spells (Search search count) d = d ≡ body_data (Search search count)
Spells (ClassNames names) d = d ≡ body_data (ClassNames names)
Spells (SheetText text) d = d ≡ body_data (SheetText text)
Spells (Styles styles) d = d ≡ body_data (Styles styles)
Spells (Selectors selectors) d = d ≡ body_data (Selectors selectors)
Spells (Rule rule) d = d ≡ body_data (Rule rule)
Spells (Media media) d = d ≡ body_data (Media media)
Spells (Matched matched) d = d ≡ body_data (Matched matched)

-- ---- what a result tells

-- what a result tells a client beside the answer to what it asked
pub data Tale : Type 0 where
  no_result : Tale
  document : Branch Told → Tale
  sheet_text : List ℕ → Tale
  new_styles : List Style → Tale
  matched_styles : MatchedStyles → Tale
  answer_alone : Tale

-- the tale of a result: most tell nothing more
abbrev pub tale_of : ReplyBody → Tale
tale_of Nothing = no_result
tale_of (Root tree) = document tree
tale_of (Node tree) = answer_alone
tale_of (NodeId id) = answer_alone
tale_of (NodeIds ids) = answer_alone
tale_of (Attributes pairs) = answer_alone
tale_of (Search search count) = answer_alone
tale_of (ClassNames names) = answer_alone
tale_of (SheetText said) = sheet_text said
tale_of (Styles styles) = new_styles styles
tale_of (Selectors selectors) = answer_alone
tale_of (Rule rule) = answer_alone
tale_of (Media media) = answer_alone
tale_of (Matched matched) = matched_styles matched

-- ---- texts and levels

-- what a result tells has UTF-8 texts
abbrev pub BodyHasUtf8 : ReplyBody → Type 0
BodyHasUtf8 Nothing = ⊤
BodyHasUtf8 (Root b) = NodesHaveUtf8 (alone b)
BodyHasUtf8 (Node b) = NodesHaveUtf8 (alone b)
BodyHasUtf8 (NodeId id) = ⊤
BodyHasUtf8 (NodeIds ids) = ⊤
BodyHasUtf8 (Attributes pairs) = PairsHaveUtf8 pairs
BodyHasUtf8 (Search search count) = ⊤
BodyHasUtf8 (ClassNames names) = AllByRecursion IsUtf8 names
BodyHasUtf8 (SheetText text) = IsUtf8 text
BodyHasUtf8 (Styles styles) = AllByRecursion StyleHasUtf8 styles
BodyHasUtf8 (Selectors selectors) = SelectorsHaveUtf8 selectors
BodyHasUtf8 (Rule rule) = RuleHasUtf8 rule
BodyHasUtf8 (Media media) = MediaHasUtf8 media
BodyHasUtf8 (Matched matched) = MatchedHaveUtf8 matched

-- how many levels of nodes a result tells
abbrev pub body_height : ReplyBody → ℕ
body_height Nothing = 0
body_height (Root b) = height (alone b)
body_height (Node b) = height (alone b)
body_height (NodeId id) = 0
body_height (NodeIds ids) = 0
body_height (Attributes pairs) = 0
body_height (Search search count) = 0
body_height (ClassNames names) = 0
body_height (SheetText text) = 0
body_height (Styles styles) = 0
body_height (Selectors selectors) = 0
body_height (Rule rule) = 0
body_height (Media media) = 0
body_height (Matched matched) = 0
