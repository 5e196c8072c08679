-- Events are read as they are written.
use Rattle.std.proofs.Common.{◌≡◌, ℕ, Bool, true, Option, Some, None, option_map, option_and_then, refl, sym, ap, ◌∙◌, subst, lt-ltb}
use Rattle.std.specs.Prelude.{nat_lt, ⊤}
use Rattle.serde_json.specs.Data.{Data, Items, no_items, item}
use Rattle.node_tree.specs.Names.{is_attribute_name}
use Rattle.cdp_json.specs.Plain.{is_plain}
use Rattle.cdp_json.specs.Kinds.{Kind, named}
use Rattle.cdp_json.specs.Rows.{unit_if}
use Rattle.cdp_json.specs.Lawful.{LawfulKind}
use Rattle.cdp_json.proofs.KindLaws.{named_is, whole_lawful, text_lawful, flag_lawful, anything_lawful, any_items_lawful, refined_lawful}
use Rattle.cdp_json.proofs.KindLaws.{through_lawful, choice_lawful, only_text_lawful}
use Rattle.cdp_json.proofs.RowLaws.{ends_lawful, and_need_lawful, and_may_lawful, object_lawful}
use Rattle.css_objects.proofs.Objects.{sheet_sound, header_sound}
use Rattle.node_tree.specs.declared.watches.WatchKind.{WatchKind}
use Rattle.node_tree.specs.declared.watches.WatchKind.TheVariants.{Subtree, Attribute, Removed}
use Rattle.cdp_messages.specs.declared.down.PauseData.{PauseData}
use Rattle.cdp_messages.specs.declared.down.PauseData.TheVariants as pause
use Rattle.cdp_messages.specs.declared.event_names.EventName.{EventName}
use Rattle.cdp_messages.specs.declared.event_names.EventName.TheVariants as name
use Rattle.cdp_messages.specs.Events.{News, attribute_modified, attribute_removed, text_modified, count_updated, inserted, removed}
use Rattle.cdp_messages.specs.Events.{set_children, document_updated, sheet_added, sheet_changed, sheet_removed, paused, event_name}
use Rattle.cdp_messages.specs.Events.{all_events, event_named, node_id, attribute_name, modified_kind, dropped_kind}
use Rattle.dom_objects.specs.NodeKinds.{shows_no_children}
use Rattle.cdp_messages.specs.Events.{data_kind, count_kind, inserted_kind, removed_kind, children_kind, added_kind, sheet_id_kind}
use Rattle.cdp_messages.specs.Events.{empty_kind, all_watches, watch, pause_fields, pause_by, pause_from, pause_kind}
use Rattle.node_tree.specs.Watches.{watch_name}
use Rattle.cdp_messages.specs.Events.{paused_kind, NewsForm, news_form_of, news_form, envelope, news_data, fits_news, news_by, news_of_name}
use Rattle.cdp_messages.specs.Events.{news_inside, news_in, no_call_frames}
use Rattle.css_objects.specs.Styles.{has_none}
use Rattle.cdp_json.proofs.Options.{and_then_some, map_some, both}
use Rattle.dom_objects.proofs.NodeTrees.{nodes_lawful, tree_lawful}
use Rattle.dom_objects.specs.Told.{told_nodes}
use Rattle.cdp_messages.specs.Laws.{ShownChildrenFit}
use Rattle.dom_objects.proofs.TellableLaws.{fits-told_nodes}

-- ---- the parameters

same_some : {A : Type 0} (x y : A) → Some x ≡ Some y → x ≡ y
same_some x y e = cc

node_id_lawful : LawfulKind node_id
node_id_lawful = refined_lawful (nat_lt 0) whole_lawful

attribute_name_lawful : LawfulKind attribute_name
attribute_name_lawful = refined_lawful is_attribute_name text_lawful

modified_lawful : LawfulKind modified_kind
modified_lawful = object_lawful
    (and_need_lawful _ attribute_name_lawful (and_need_lawful _ node_id_lawful (and_need_lawful _ text_lawful ends_lawful refl) refl) refl)

dropped_lawful : LawfulKind dropped_kind
dropped_lawful = object_lawful (and_need_lawful _ attribute_name_lawful (and_need_lawful _ node_id_lawful ends_lawful refl) refl)

data_lawful : LawfulKind data_kind
data_lawful = object_lawful (and_need_lawful _ text_lawful (and_need_lawful _ node_id_lawful ends_lawful refl) refl)

count_lawful : LawfulKind count_kind
count_lawful = object_lawful (and_need_lawful _ whole_lawful (and_need_lawful _ node_id_lawful ends_lawful refl) refl)

inserted_lawful : LawfulKind inserted_kind
inserted_lawful = object_lawful
    (and_need_lawful _ (refined_lawful shows_no_children tree_lawful)
    (and_need_lawful _ node_id_lawful (and_need_lawful _ whole_lawful ends_lawful refl) refl) refl)

removed_lawful : LawfulKind removed_kind
removed_lawful = object_lawful (and_need_lawful _ node_id_lawful (and_need_lawful _ node_id_lawful ends_lawful refl) refl)

children_lawful : LawfulKind children_kind
children_lawful = object_lawful (and_need_lawful _ nodes_lawful (and_need_lawful _ node_id_lawful ends_lawful refl) refl)

empty_lawful : LawfulKind empty_kind
empty_lawful = object_lawful ends_lawful

added_lawful : LawfulKind added_kind
added_lawful = object_lawful (and_need_lawful _ header_sound.lawful ends_lawful refl)

sheet_id_lawful : LawfulKind sheet_id_kind
sheet_id_lawful = object_lawful (and_need_lawful _ sheet_sound.lawful ends_lawful refl)

pub first_watch : (w : WatchKind) → named watch_name all_watches (watch_name w) ≡ Some w
first_watch Subtree = refl
first_watch Attribute = refl
first_watch Removed = refl

pub watch_lawful : LawfulKind watch
watch_lawful = choice_lawful watch_name all_watches first_watch

pause_only : (w : WatchKind) (insertion : Option Bool) (target : Option ℕ) (node : ℕ) (x : PauseData)
    → pause_by w insertion target node ≡ Some x → pause_fields x ≡ (insertion, (node, (target, (w, tt))))
pause_only Subtree (Some b) (Some t) node x e = ap pause_fields (sym (same_some (pause.Subtree node t b) x e))
pause_only Subtree (Some b) None node x e = absurd cc
pause_only Subtree None t node x e = absurd cc
pause_only Attribute None None node x e = ap pause_fields (sym (same_some (pause.Attribute node) x e))
pause_only Attribute None (Some t) node x e = absurd cc
pause_only Attribute (Some b) t node x e = absurd cc
pause_only Removed None None node x e = ap pause_fields (sym (same_some (pause.Removed node) x e))
pause_only Removed None (Some t) node x e = absurd cc
pause_only Removed (Some b) t node x e = absurd cc

pause_back : (x : PauseData) → pause_from (pause_fields x) ≡ Some x
pause_back (pause.Subtree node target insertion) = refl
pause_back (pause.Attribute node) = refl
pause_back (pause.Removed node) = refl

pause_lawful : LawfulKind pause_kind
pause_lawful =
    through_lawful pause_fields pause_from (λ f x e. pause_only f.1.1.1.0 f.0 f.1.1.0 f.1.0 x e) pause_back
    (object_lawful (and_may_lawful _ flag_lawful
    (and_need_lawful _ node_id_lawful
    (and_may_lawful _ whole_lawful (and_need_lawful _ watch_lawful ends_lawful refl) refl) refl) refl))

no_items_only : (ds : Items) (x : ⊤) → unit_if (has_none ds) ≡ Some x → no_items ≡ ds
no_items_only no_items x e = refl
no_items_only (item d ds) x e = absurd cc

no_frames_lawful : LawfulKind no_call_frames
no_frames_lawful = through_lawful (λ _. no_items) (λ ds. unit_if (has_none ds)) no_items_only (λ x. refl) any_items_lawful

paused_lawful : LawfulKind paused_kind
paused_lawful = object_lawful (and_need_lawful _ no_frames_lawful
    (and_need_lawful _ pause_lawful (and_need_lawful _ (only_text_lawful _) ends_lawful refl) refl) refl)

-- ---- by name

named_again : (n : EventName) → event_named (event_name n) ≡ Some n
named_again name.AttributeModified = refl
named_again name.AttributeRemoved = refl
named_again name.CharacterDataModified = refl
named_again name.ChildNodeCountUpdated = refl
named_again name.ChildNodeInserted = refl
named_again name.ChildNodeRemoved = refl
named_again name.SetChildNodes = refl
named_again name.DocumentUpdated = refl
named_again name.StyleSheetAdded = refl
named_again name.StyleSheetChanged = refl
named_again name.StyleSheetRemoved = refl
named_again name.Paused = refl

by_again : (n : News) → fits_news n ≡ true → news_by (news_form n).name (news_form n).params ≡ Some n
by_again (attribute_modified node m value) f = ap (option_map (λ x. attribute_modified x.1.0 x.0 x.1.1.0))
    (modified_lawful.again (m, (node, (value, tt))) f)
by_again (attribute_removed node m) f = ap (option_map (λ x. attribute_removed x.1.0 x.0)) (dropped_lawful.again (m, (node, tt)) f)
by_again (text_modified node value) f = ap (option_map (λ x. text_modified x.1.0 x.0)) (data_lawful.again (value, (node, tt)) f)
by_again (count_updated node count) f = ap (option_map (λ x. count_updated x.1.0 x.0)) (count_lawful.again (count, (node, tt)) f)
by_again (inserted parent previous node) f = ap (option_map (λ x. inserted x.1.0 x.1.1.0 x.0))
    (inserted_lawful.again (node, (parent, (previous, tt))) f)
by_again (removed parent node) f = ap (option_map (λ x. removed x.1.0 x.0)) (removed_lawful.again (node, (parent, tt)) f)
by_again (set_children parent nodes) f = ap (option_map (λ x. set_children x.1.0 x.0)) (children_lawful.again (nodes, (parent, tt)) f)
by_again document_updated f = refl
by_again (sheet_added header) f = ap (option_map (λ x. sheet_added x.0)) (added_lawful.again (header, tt) f)
by_again (sheet_changed sheet) f = ap (option_map (λ x. sheet_changed x.0)) (sheet_id_lawful.again (sheet, tt) f)
by_again (sheet_removed sheet) f = ap (option_map (λ x. sheet_removed x.0)) (sheet_id_lawful.again (sheet, tt) f)
by_again (paused why) f = ap (option_map (λ x. paused x.1.0)) (paused_lawful.again (tt, (why, (tt, tt))) f)

pub news_params_plain : (n : News) → fits_news n ≡ true → is_plain (news_form n).params ≡ true
news_params_plain (attribute_modified node m value) f = modified_lawful.plain (m, (node, (value, tt))) f refl
news_params_plain (attribute_removed node m) f = dropped_lawful.plain (m, (node, tt)) f refl
news_params_plain (text_modified node value) f = data_lawful.plain (value, (node, tt)) f refl
news_params_plain (count_updated node count) f = count_lawful.plain (count, (node, tt)) f refl
news_params_plain (inserted parent previous node) f = inserted_lawful.plain (node, (parent, (previous, tt))) f refl
news_params_plain (removed parent node) f = removed_lawful.plain (node, (parent, tt)) f refl
news_params_plain (set_children parent nodes) f = children_lawful.plain (nodes, (parent, tt)) f refl
news_params_plain document_updated f = refl
news_params_plain (sheet_added header) f = added_lawful.plain (header, tt) f refl
news_params_plain (sheet_changed sheet) f = sheet_id_lawful.plain (sheet, tt) f refl
news_params_plain (sheet_removed sheet) f = sheet_id_lawful.plain (sheet, tt) f refl
news_params_plain (paused why) f = paused_lawful.plain (tt, (why, (tt, tt))) f refl

-- an event is of that name with these parameters, and fits
pub record IsForm (n : EventName) (d : Data) (x : News) : Type 0 where
  pub name_is : (news_form x).name ≡ n
  pub params_are : (news_form x).params ≡ d
  pub fits : fits_news x ≡ true

taken : {T : Type 0} {k : Kind T} → LawfulKind k → (n : EventName) (makes : T → News)
    → ((y : T) → news_form (makes y) ≡ news_form_of n k y) → (d : Data) (x : News) → option_map makes (k.reads d) ≡ Some x → IsForm n d x
taken {T} {k} law n makes is d x e =
    let p = map_some makes (k.reads d) x e in
    let t = law.takes d p.0 p.1 in
    subst (IsForm n d) p.2
    (record {
      name_is = ap (λ (f : NewsForm). f.name) (is p.0);
      params_are = ap (λ (f : NewsForm). f.params) (is p.0) ∙ t.0;
      fits = ap (λ (f : NewsForm). f.fits) (is p.0) ∙ t.1;
    })

by_takes : (n : EventName) (d : Data) (x : News) → news_by n d ≡ Some x → IsForm n d x
by_takes name.AttributeModified d x e = taken modified_lawful name.AttributeModified (λ y. attribute_modified y.1.0 y.0 y.1.1.0)
    (λ y. refl) d x e
by_takes name.AttributeRemoved d x e = taken dropped_lawful name.AttributeRemoved (λ y. attribute_removed y.1.0 y.0) (λ y. refl) d x e
by_takes name.CharacterDataModified d x e = taken data_lawful name.CharacterDataModified (λ y. text_modified y.1.0 y.0) (λ y. refl) d x e
by_takes name.ChildNodeCountUpdated d x e = taken count_lawful name.ChildNodeCountUpdated (λ y. count_updated y.1.0 y.0) (λ y. refl) d x e
by_takes name.ChildNodeInserted d x e = taken inserted_lawful name.ChildNodeInserted (λ y. inserted y.1.0 y.1.1.0 y.0) (λ y. refl) d x e
by_takes name.ChildNodeRemoved d x e = taken removed_lawful name.ChildNodeRemoved (λ y. removed y.1.0 y.0) (λ y. refl) d x e
by_takes name.SetChildNodes d x e = taken children_lawful name.SetChildNodes (λ y. set_children y.1.0 y.0) (λ y. refl) d x e
by_takes name.DocumentUpdated d x e = taken empty_lawful name.DocumentUpdated (λ y. document_updated) (λ y. refl) d x e
by_takes name.StyleSheetAdded d x e = taken added_lawful name.StyleSheetAdded (λ y. sheet_added y.0) (λ y. refl) d x e
by_takes name.StyleSheetChanged d x e = taken sheet_id_lawful name.StyleSheetChanged (λ y. sheet_changed y.0) (λ y. refl) d x e
by_takes name.StyleSheetRemoved d x e = taken sheet_id_lawful name.StyleSheetRemoved (λ y. sheet_removed y.0) (λ y. refl) d x e
by_takes name.Paused d x e = taken paused_lawful name.Paused (λ y. paused y.1.0) (λ y. refl) d x e

-- ---- the whole event

envelope_lawful : LawfulKind envelope
envelope_lawful = object_lawful (and_need_lawful _ text_lawful (and_need_lawful _ anything_lawful ends_lawful refl) refl)

pub news_again : (n : News) → fits_news n ≡ true → news_in (news_data n) ≡ Some n
news_again n f =
    ap (option_and_then news_inside) (envelope_lawful.again (event_name (news_form n).name, ((news_form n).params, tt)) refl)
    ∙ ap (λ o. news_of_name o (news_form n).params) (named_again (news_form n).name) ∙ by_again n f

named_takes : (o : Option EventName) (d : Data) (x : News) → news_of_name o d ≡ Some x → (n : EventName) × (o ≡ Some n) × IsForm n d x
named_takes None d x e = absurd cc
named_takes (Some n) d x e = (n, refl, by_takes n d x e)

pub news_take : (d : Data) (n : News) → news_in d ≡ Some n → (news_data n ≡ d) × (fits_news n ≡ true)
news_take d n e =
    let p = and_then_some news_inside (envelope.reads d) n e in
    let q = named_takes (event_named p.0.0) p.0.1.0 n p.2 in
    let method : event_name (news_form n).name ≡ p.0.0 = ap event_name q.2.name_is ∙ named_is event_name all_events p.0.0 q.0 q.1 in
    let params : (news_form n).params ≡ p.0.1.0 = q.2.params_are in
    ((λ i. envelope.spell (method i, (params i, tt))) ∙ (envelope_lawful.takes d p.0 p.1).0, q.2.fits)

pub news_plain : (n : News) → fits_news n ≡ true → is_plain (news_data n) ≡ true
news_plain n f = envelope_lawful.plain (event_name (news_form n).name, ((news_form n).params, tt)) refl (news_params_plain n f)

pub shown_children_fit : ShownChildrenFit
shown_children_fit p n c z s =
    let positive : nat_lt 0 p ≡ true = lt-ltb 0 p z in
    both (fits-told_nodes p n c positive s) (both (both c positive) refl)
