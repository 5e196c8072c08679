-- What holds of each result, by cases: it is read as it is spelled, its JSON is plain, is not deep, has no number that is not whole, and
-- has UTF-8 texts; and what it tells.
use Rattle.std.proofs.Common.{◌≡◌, ℕ, ◌≤◌, List, Bool, true, false, Option, Some, option_map, refl, sym, ap, ◌∙◌, subst, arith, suc, ◌*◌}
use Rattle.std.proofs.Common.{max, [], ◌∷◌, map}
use Rattle.std.specs.Prelude.{codes, ⊤}
use Rattle.json.proofs.Printed.Utf8.{IsUtf8-are_ascii}
use Rattle.serde_json.specs.Data.{Data, null, boolean, number, string, array, object, Members, no_members, member, depth, items_depth}
use Rattle.serde_json.specs.Written.{has_float, items_have_float}
use Rattle.cdp_json.specs.Plain.{is_plain, HasUtf8, ItemsHaveUtf8}
use Rattle.cdp_json.specs.Kinds.{Kind, passes, named, whole}
use Rattle.css_objects.specs.Laws.{IsSoundKind}
use Rattle.cdp_json.specs.Lawful.{LawfulKind}
use Rattle.cdp_json.specs.Rows.{unit_if}
use Rattle.cdp_json.proofs.KindLaws.{same_name, whole_lawful, refined_lawful, list_lawful}
use Rattle.cdp_json.proofs.RowLaws.{ends_lawful, and_need_lawful, object_lawful}
use Rattle.css_objects.proofs.Objects.{class_names_sound, sheet_text_sound, styles_sound, new_selectors_sound, new_rule_sound}
use Rattle.css_objects.proofs.Objects.{new_media_sound, matched_sound}
use Rattle.css_objects.specs.Results.{sheet_text_result, class_names_result, styles_result, selectors_result, rule_result, media_result}
use Rattle.css_objects.specs.Rules.{matched_kind}
use Rattle.cdp_messages.specs.declared.down.ReplyBody.{ReplyBody}
use Rattle.cdp_messages.specs.declared.down.ReplyBody.TheVariants.{Nothing, Root, Node, NodeId, NodeIds, Attributes, ClassNames, SheetText}
use Rattle.cdp_messages.specs.declared.down.ReplyBody.TheVariants.{Styles, Selectors, Rule, Media, Matched, Search}
use Rattle.cdp_messages.specs.declared.method.ResultForm.{ResultForm}
use Rattle.cdp_messages.specs.declared.method.ResultForm.TheVariants as form
use Rattle.node_tree.specs.Labels.{Pair}
use Rattle.dom_objects.specs.declared.node_rules.Manner.TheVariants.{Pushed, Described}
use Rattle.dom_objects.specs.NodeData.{fits_tree, fits_described_tree, tree_data}
use Rattle.cdp_messages.specs.Events.{is_object}
use Rattle.cdp_messages.specs.Replies.{reply, message_data}
use Rattle.cdp_messages.specs.Results.{nothing_kind, root_kind, node_kind, id_kind, ids_kind, are_attributes, attributes_kind, body_data}
use Rattle.cdp_messages.specs.Results.{fits_body, form_of_body, result_by, Spells, first_field, all_forms, is_form, search_result_kind}
use Rattle.cdp_messages.specs.Results.{BodyHasUtf8, Tale, no_result, document, sheet_text, new_styles, matched_styles, answer_alone}
use Rattle.cdp_messages.specs.Results.{tale_of}
use Rattle.dom_objects.specs.NodeObject.{flat}
use Rattle.cdp_messages.specs.Laws.{RepliesAreShallow}
use Rattle.cdp_json.proofs.Options.{both, both_parts, map_some}
use Rattle.cdp_messages.proofs.SearchIds.{search_lawful, search_text-utf8}
use Rattle.dom_objects.proofs.NodeObjects.{attributes_lawful, flat_fits}
use Rattle.dom_objects.proofs.NodeTrees.{document_lawful, described_lawful, tree_plain}
use Rattle.serde_json.specs.View.{items_of}
use Rattle.node_tree.specs.Nodes.{alone, height}
use Rattle.node_tree.specs.Levels.{most_told_root}
use Rattle.dom_objects.proofs.NodeDepths.{texts_depth, tree_depth}
use Rattle.dom_objects.proofs.NodeFloats.{either, texts_free, tree_free}
use Rattle.dom_objects.proofs.NodeUtf8.{pairs_utf8, tree_utf8}

-- ---- the kinds are lawful

pub root_lawful : LawfulKind root_kind
root_lawful = object_lawful (and_need_lawful _ document_lawful ends_lawful refl)

pub id_lawful : LawfulKind id_kind
id_lawful = object_lawful (and_need_lawful _ whole_lawful ends_lawful refl)

node_lawful : LawfulKind node_kind
node_lawful = object_lawful (and_need_lawful _ described_lawful ends_lawful refl)

attribute_result_lawful : LawfulKind attributes_kind
attribute_result_lawful = object_lawful (and_need_lawful _ (refined_lawful are_attributes attributes_lawful) ends_lawful refl)

search_result_lawful : LawfulKind search_result_kind
search_result_lawful = object_lawful (and_need_lawful _ whole_lawful (and_need_lawful _ search_lawful ends_lawful refl) refl)

pub ids_lawful : LawfulKind ids_kind
ids_lawful = object_lawful (and_need_lawful _ (list_lawful whole_lawful) ends_lawful refl)

-- ---- forms

-- the fields of one member fit where its value does
attributes_there : (pairs : List Pair) → are_attributes pairs ≡ true → attributes_kind.fits (pairs, tt) ≡ true
attributes_there pairs f = both (both (flat_fits (flat pairs)) f) refl

form_again : (f : ResultForm) → named first_field all_forms (first_field f) ≡ Some f
form_again form.Nothing = refl
form_again form.Root = refl
form_again form.Node = refl
form_again form.NodeId = refl
form_again form.NodeIds = refl
form_again form.Attributes = refl
form_again form.Search = refl
form_again form.ClassNames = refl
form_again form.SheetText = refl
form_again form.Styles = refl
form_again form.Selectors = refl
form_again form.Rule = refl
form_again form.Media = refl
form_again form.Matched = refl

pub same_form : (f g : ResultForm) → first_field f ≡ first_field g → f ≡ g
same_form f g e = let same : ◌≡◌ {A = Option ResultForm} (Some f) (Some g) = sym (form_again f) ∙ ap
    (named first_field all_forms) e ∙ form_again g in cc

pub form_itself : (f : ResultForm) → is_form f f ≡ true
form_itself f = same_name (first_field f)

-- each result is read by its form
pub by_again : (body : ReplyBody) → fits_body body ≡ true → result_by (form_of_body body) (body_data body) ≡ Some body
by_again Nothing f = refl
by_again (Root tree) f = ap (option_map (λ x. Root x.0)) (root_lawful.again (tree, tt) (both f refl))
by_again (Node tree) f = ap (option_map (λ x. Node x.0)) (node_lawful.again (tree, tt) (both f refl))
by_again (NodeId id) f = ap (option_map (λ x. NodeId x.0)) (id_lawful.again (id, tt) f)
by_again (NodeIds ids) f = ap (option_map (λ x. NodeIds x.0)) (ids_lawful.again (ids, tt) f)
by_again (Attributes pairs) f = ap (option_map (λ x. Attributes x.0)) (attribute_result_lawful.again (pairs, tt) (attributes_there pairs f))
by_again (Search search count) f = ap (option_map (λ x. Search x.1.0 x.0)) (search_result_lawful.again (count, (search, tt)) f)
by_again (ClassNames names) f = ap (option_map (λ x. ClassNames x)) (class_names_sound.lawful.again names f)
by_again (SheetText text) f = ap (option_map (λ x. SheetText x)) (sheet_text_sound.lawful.again text f)
by_again (Styles styles) f = ap (option_map (λ x. Styles x)) (styles_sound.lawful.again styles f)
by_again (Selectors selectors) f = ap (option_map (λ x. Selectors x)) (new_selectors_sound.lawful.again selectors f)
by_again (Rule rule) f = ap (option_map (λ x. Rule x)) (new_rule_sound.lawful.again rule f)
by_again (Media media) f = ap (option_map (λ x. Media x)) (new_media_sound.lawful.again media f)
by_again (Matched matched) f = ap (option_map (λ x. Matched x)) (matched_sound.lawful.again matched f)

-- what a form reads is a result of that form
pub record IsRead (f : ResultForm) (d : Data) (body : ReplyBody) : Type 0 where
  pub spells : Spells body d
  pub fits : fits_body body ≡ true
  pub form : form_of_body body ≡ f

unit_is : (b : Bool) (x : ⊤) → unit_if b ≡ Some x → b ≡ true
unit_is true x e = refl
unit_is false x e = absurd cc

pub by_takes : (f : ResultForm) (d : Data) (body : ReplyBody) → result_by f d ≡ Some body → IsRead f d body
by_takes form.Nothing d body e =
    let p = map_some (λ _. Nothing) (nothing_kind.reads d) body e in
    subst (IsRead form.Nothing d) p.2 (record { spells = unit_is (is_object d) p.0 p.1; fits = refl; form = refl })
by_takes form.Root d body e =
    let p = map_some (λ x. Root x.0) (root_kind.reads d) body e in
    let t = root_lawful.takes d p.0 p.1 in
    subst (IsRead form.Root d) p.2 (record { spells = sym t.0; fits = (both_parts (fits_tree true p.0.0) true t.1).0; form = refl })
by_takes form.Node d body e =
    let p = map_some (λ x. Node x.0) (node_kind.reads d) body e in
    let t = node_lawful.takes d p.0 p.1 in
    subst (IsRead form.Node d) p.2 (record { spells = sym t.0; fits = (both_parts (fits_described_tree p.0.0) true t.1).0; form = refl })
by_takes form.NodeId d body e =
    let p = map_some (λ x. NodeId x.0) (id_kind.reads d) body e in
    let t = id_lawful.takes d p.0 p.1 in
    subst (IsRead form.NodeId d) p.2 (record { spells = sym t.0; fits = t.1; form = refl })
by_takes form.NodeIds d body e =
    let p = map_some (λ x. NodeIds x.0) (ids_kind.reads d) body e in
    let t = ids_lawful.takes d p.0 p.1 in
    subst (IsRead form.NodeIds d) p.2 (record { spells = sym t.0; fits = t.1; form = refl })
by_takes form.Attributes d body e =
    let p = map_some (λ x. Attributes x.0) (attributes_kind.reads d) body e in
    let t = attribute_result_lawful.takes d p.0 p.1 in
    subst (IsRead form.Attributes d) p.2
    (record { spells = sym t.0; fits = (both_parts _ (are_attributes p.0.0) (both_parts _ true t.1).0).1; form = refl })
by_takes form.Search d body e =
    let p = map_some (λ x. Search x.1.0 x.0) (search_result_kind.reads d) body e in
    let t = search_result_lawful.takes d p.0 p.1 in
    subst (IsRead form.Search d) p.2 (record { spells = sym t.0; fits = t.1; form = refl })
by_takes form.ClassNames d body e =
    let p = map_some (λ x. ClassNames x) (class_names_result.reads d) body e in
    let t = class_names_sound.lawful.takes d p.0 p.1 in
    subst (IsRead form.ClassNames d) p.2 (record { spells = sym t.0; fits = t.1; form = refl })
by_takes form.SheetText d body e =
    let p = map_some (λ x. SheetText x) (sheet_text_result.reads d) body e in
    let t = sheet_text_sound.lawful.takes d p.0 p.1 in
    subst (IsRead form.SheetText d) p.2 (record { spells = sym t.0; fits = t.1; form = refl })
by_takes form.Styles d body e =
    let p = map_some (λ x. Styles x) (styles_result.reads d) body e in
    let t = styles_sound.lawful.takes d p.0 p.1 in
    subst (IsRead form.Styles d) p.2 (record { spells = sym t.0; fits = t.1; form = refl })
by_takes form.Selectors d body e =
    let p = map_some (λ x. Selectors x) (selectors_result.reads d) body e in
    let t = new_selectors_sound.lawful.takes d p.0 p.1 in
    subst (IsRead form.Selectors d) p.2 (record { spells = sym t.0; fits = t.1; form = refl })
by_takes form.Rule d body e =
    let p = map_some (λ x. Rule x) (rule_result.reads d) body e in
    let t = new_rule_sound.lawful.takes d p.0 p.1 in
    subst (IsRead form.Rule d) p.2 (record { spells = sym t.0; fits = t.1; form = refl })
by_takes form.Media d body e =
    let p = map_some (λ x. Media x) (media_result.reads d) body e in
    let t = new_media_sound.lawful.takes d p.0 p.1 in
    subst (IsRead form.Media d) p.2 (record { spells = sym t.0; fits = t.1; form = refl })
by_takes form.Matched d body e =
    let p = map_some (λ x. Matched x) (matched_kind.reads d) body e in
    let t = matched_sound.lawful.takes d p.0 p.1 in
    subst (IsRead form.Matched d) p.2 (record { spells = sym t.0; fits = t.1; form = refl })

-- the name of an object's first member
abbrev first_name : Members → List ℕ
first_name no_members = []
first_name (member k d ms) = k

abbrev pub first_name_in : Data → List ℕ
first_name_in null = []
first_name_in (boolean b) = []
first_name_in (number n) = []
first_name_in (string s) = []
first_name_in (array ds) = []
first_name_in (object ms) = first_name ms

pub told_by_name : (body : ReplyBody) → first_name_in (body_data body) ≡ first_field (form_of_body body)
told_by_name Nothing = refl
told_by_name (Root tree) = refl
told_by_name (Node tree) = refl
told_by_name (NodeId id) = refl
told_by_name (NodeIds ids) = refl
told_by_name (Attributes pairs) = refl
told_by_name (Search search count) = refl
told_by_name (ClassNames names) = refl
told_by_name (SheetText text) = refl
told_by_name (Styles styles) = refl
told_by_name (Selectors selectors) = refl
told_by_name (Rule rule) = refl
told_by_name (Media media) = refl
told_by_name (Matched matched) = refl

-- ---- what a result tells

-- the result that has this tale
abbrev pub IsTaleOf : ReplyBody → Tale → Type 0
IsTaleOf body no_result = body ≡ Nothing
IsTaleOf body (document tree) = body ≡ Root tree
IsTaleOf body (sheet_text said) = body ≡ SheetText said
IsTaleOf body (new_styles styles) = body ≡ Styles styles
IsTaleOf body (matched_styles matched) = body ≡ Matched matched
IsTaleOf body answer_alone = ⊤

pub tale_is : (body : ReplyBody) → IsTaleOf body (tale_of body)
tale_is Nothing = refl
tale_is (Root tree) = refl
tale_is (Node tree) = tt
tale_is (NodeId id) = tt
tale_is (NodeIds ids) = tt
tale_is (Attributes pairs) = tt
tale_is (Search search count) = tt
tale_is (ClassNames names) = tt
tale_is (SheetText text) = refl
tale_is (Styles styles) = refl
tale_is (Selectors selectors) = tt
tale_is (Rule rule) = tt
tale_is (Media media) = tt
tale_is (Matched matched) = refl

-- ---- its JSON

sound_plain : {T : Type 0} {k : Kind T} {P : T → Type 0} {n : ℕ} → IsSoundKind k P n → (x : T) → k.fits x ≡ true
    → is_plain (k.spell x) ≡ true
sound_plain {T} {k} s x f = s.lawful.plain x f (ap (λ o. passes o x) s.tight)

pub body_plain : (body : ReplyBody) → fits_body body ≡ true → is_plain (body_data body) ≡ true
body_plain Nothing f = refl
body_plain (Root tree) f = both (tree_plain Pushed true tree f) refl
body_plain (Node tree) f = both (tree_plain Described true tree f) refl
body_plain (NodeId id) f = id_lawful.plain (id, tt) f refl
body_plain (NodeIds ids) f = ids_lawful.plain (ids, tt) f refl
body_plain (Attributes pairs) f = attribute_result_lawful.plain (pairs, tt) (attributes_there pairs f) refl
body_plain (Search search count) f = search_result_lawful.plain (count, (search, tt)) f refl
body_plain (ClassNames names) f = sound_plain class_names_sound names f
body_plain (SheetText text) f = sound_plain sheet_text_sound text f
body_plain (Styles styles) f = sound_plain styles_sound styles f
body_plain (Selectors selectors) f = sound_plain new_selectors_sound selectors f
body_plain (Rule rule) f = sound_plain new_rule_sound rule f
body_plain (Media media) f = sound_plain new_media_sound media f
body_plain (Matched matched) f = sound_plain matched_sound matched f

pub body_object : (body : ReplyBody) → is_object (body_data body) ≡ true
body_object Nothing = refl
body_object (Root tree) = refl
body_object (Node tree) = refl
body_object (NodeId id) = refl
body_object (NodeIds ids) = refl
body_object (Attributes pairs) = refl
body_object (Search search count) = refl
body_object (ClassNames names) = refl
body_object (SheetText text) = refl
body_object (Styles styles) = refl
body_object (Selectors selectors) = refl
body_object (Rule rule) = refl
body_object (Media media) = refl
body_object (Matched matched) = refl

numbers_depth : (ns : List ℕ) → items_depth (items_of (map whole.spell ns)) ≤ 0
numbers_depth [] = omega arith
numbers_depth (n ∷ ns) = omega (arith, numbers_depth ns)

-- a reply over a result
result_above : (d n : ℕ) → d ≤ n → n ≤ 10 → suc (max 0 (max d 0)) ≤ 127
result_above d n p q = omega arith

pub replies_are_shallow : RepliesAreShallow
replies_are_shallow id Nothing h = omega arith
replies_are_shallow id (Root b) h = shallow (depth (tree_data b)) (height (alone b)) (tree_depth b) h where
  shallow : (d g : ℕ) → d ≤ 2 * g → g ≤ most_told_root → suc (max 0 (max (suc (max d 0)) 0)) ≤ 127
  shallow d g p q = omega arith
replies_are_shallow id (Node b) h = shallow (depth (tree_data b)) (height (alone b)) (tree_depth b) h where
  shallow : (d g : ℕ) → d ≤ 2 * g → g ≤ most_told_root → suc (max 0 (max (suc (max d 0)) 0)) ≤ 127
  shallow d g p q = omega arith
replies_are_shallow id (NodeId n) h = omega arith
replies_are_shallow id (NodeIds ns) h = shallow (items_depth (items_of (map whole.spell ns))) (numbers_depth ns) where
  shallow : (d : ℕ) → d ≤ 0 → suc (max 0 (max (suc (max (suc d) 0)) 0)) ≤ 127
  shallow d p = omega arith
replies_are_shallow id (Attributes pairs) h = shallow (items_depth (items_of (map string (flat pairs)))) (texts_depth (flat pairs)) where
  shallow : (d : ℕ) → d ≤ 0 → suc (max 0 (max (suc (max (suc d) 0)) 0)) ≤ 127
  shallow d p = omega arith
replies_are_shallow id (Search search count) h = omega arith
replies_are_shallow id (ClassNames names) h = result_above (depth (class_names_result.spell names)) 2 (class_names_sound.shallow names)
    (omega arith)
replies_are_shallow id (SheetText text) h = result_above (depth (sheet_text_result.spell text)) 1 (sheet_text_sound.shallow text)
    (omega arith)
replies_are_shallow id (Styles styles) h = result_above (depth (styles_result.spell styles)) 6 (styles_sound.shallow styles) (omega arith)
replies_are_shallow id (Selectors selectors) h = result_above (depth (selectors_result.spell selectors)) 5
    (new_selectors_sound.shallow selectors) (omega arith)
replies_are_shallow id (Rule rule) h = result_above (depth (rule_result.spell rule)) 6 (new_rule_sound.shallow rule) (omega arith)
replies_are_shallow id (Media media) h = result_above (depth (media_result.spell media)) 3 (new_media_sound.shallow media) (omega arith)
replies_are_shallow id (Matched matched) h = result_above (depth (matched_kind.spell matched)) 10 (matched_sound.shallow matched)
    (omega arith)

numbers_free : (ns : List ℕ) → items_have_float (items_of (map whole.spell ns)) ≡ false
numbers_free [] = refl
numbers_free (n ∷ ns) = numbers_free ns

pub has_float-reply : (id : ℕ) (body : ReplyBody) → has_float (message_data (reply id (body_data body))) ≡ false
has_float-reply id Nothing = refl
has_float-reply id (Root tree) = either (either (tree_free tree) refl) refl
has_float-reply id (Node tree) = either (either (tree_free tree) refl) refl
has_float-reply id (NodeId n) = refl
has_float-reply id (NodeIds ns) = either (either (numbers_free ns) refl) refl
has_float-reply id (Attributes pairs) = either (either (texts_free (flat pairs)) refl) refl
has_float-reply id (Search search count) = refl
has_float-reply id (ClassNames names) = either (class_names_sound.no_float names) refl
has_float-reply id (SheetText text) = either (sheet_text_sound.no_float text) refl
has_float-reply id (Styles styles) = either (styles_sound.no_float styles) refl
has_float-reply id (Selectors selectors) = either (new_selectors_sound.no_float selectors) refl
has_float-reply id (Rule rule) = either (new_rule_sound.no_float rule) refl
has_float-reply id (Media media) = either (new_media_sound.no_float media) refl
has_float-reply id (Matched matched) = either (matched_sound.no_float matched) refl

numbers_utf8 : (ns : List ℕ) → ItemsHaveUtf8 (items_of (map whole.spell ns))
numbers_utf8 [] = tt
numbers_utf8 (n ∷ ns) = (tt, numbers_utf8 ns)

pub body_utf8 : (body : ReplyBody) → fits_body body ≡ true → BodyHasUtf8 body → HasUtf8 (body_data body)
body_utf8 Nothing f u = tt
body_utf8 (Root b) f u = (IsUtf8-are_ascii (codes "root") refl, tree_utf8 Pushed true b f u, tt)
body_utf8 (Node b) f u = (IsUtf8-are_ascii (codes "node") refl, tree_utf8 Described true b f u, tt)
body_utf8 (NodeId n) f u = (IsUtf8-are_ascii (codes "nodeId") refl, tt, tt)
body_utf8 (NodeIds ns) f u = (IsUtf8-are_ascii (codes "nodeIds") refl, numbers_utf8 ns, tt)
body_utf8 (Attributes pairs) f u = (IsUtf8-are_ascii (codes "attributes") refl, pairs_utf8 pairs u, tt)
body_utf8 (Search search count) f u =
    let id = search_text-utf8 search (both_parts _ _ (both_parts _ _ f).1).0 in
    (IsUtf8-are_ascii (codes "resultCount") refl, tt, (IsUtf8-are_ascii (codes "searchId") refl, id, tt))
body_utf8 (ClassNames names) f u = class_names_sound.utf8 names f u
body_utf8 (SheetText text) f u = sheet_text_sound.utf8 text f u
body_utf8 (Styles styles) f u = styles_sound.utf8 styles f u
body_utf8 (Selectors selectors) f u = new_selectors_sound.utf8 selectors f u
body_utf8 (Rule rule) f u = new_rule_sound.utf8 rule f u
body_utf8 (Media media) f u = new_media_sound.utf8 media f u
body_utf8 (Matched matched) f u = matched_sound.utf8 matched f u
