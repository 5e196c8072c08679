-- The objects of the CSS domain are sound.
use Rattle.std.proofs.Common.{◌≡◌, ℕ, List, [], ◌∷◌, true, Option, Some, None, refl, sym, ap, arith}
use Rattle.std.specs.Prelude.{IfSome, IsUtf8, codes, ⊤}
use Rattle.std.specs.List.{AllByRecursion}
use Rattle.json.proofs.Printed.Utf8.{IsUtf8-are_ascii}
use Rattle.serde_json.specs.Data.{Data, null, boolean, number, string, array, object, no_items, item}
use Rattle.cdp_json.specs.Lawful.{LawfulKind}
use Rattle.cdp_json.specs.Kinds.{holds_of_some, only_text}
use Rattle.cdp_json.specs.Rows.{object_of}
use Rattle.cdp_json.proofs.KindLaws.{choice_lawful, only_text_lawful}
use Rattle.css_objects.specs.declared.media.Media.{Media}
use Rattle.css_objects.specs.declared.rules.Rule.{Rule}
use Rattle.node_tree.specs.Origins.{all_origins, origin_name}
use Rattle.node_tree.specs.declared.origins.Origin.{Origin}
use Rattle.node_tree.specs.declared.origins.Origin.TheVariants.{UserAgent, Regular}
use Rattle.css_objects.specs.Ranges.{range_fields, range_from, range_kind}
use Rattle.css_objects.specs.Sheets.{is_sheet, sheet_kind, origin_named, origin_kind, header_fields, header_from, header_kind}
use Rattle.css_objects.specs.Media.{media_fields, media_from, media_kind, has_media, some_media_kind, written_media, media_written}
use Rattle.css_objects.specs.Selectors.{weight_fields, weight_from, weight_kind, selector_fields, selector_from, selector_kind}
use Rattle.css_objects.specs.Selectors.{selectors_fields, selectors_from, selectors_kind}
use Rattle.css_objects.specs.Styles.{property_fields, property_from, property_kind, empty_list, style_fields, style_from, style_kind}
use Rattle.css_objects.specs.Styles.{is_inline, is_in_sheet, inline_kind, rule_style_kind}
use Rattle.css_objects.specs.Rules.{RuleFields, rule_row, rule_fields, rule_from, rule_kind, ascend, match_fields, match_from, match_kind}
use Rattle.css_objects.specs.Rules.{inherited_fields}
use Rattle.css_objects.specs.Rules.{inherited_from, inherited_kind, matched_fields, matched_from, matched_kind}
use Rattle.css_objects.specs.Results.{sheet_text_result, class_names_result, styles_result, selectors_result, rule_result}
use Rattle.css_objects.specs.Results.{media_result}
use Rattle.css_objects.specs.Laws.{MediaHasUtf8}
use Rattle.css_objects.specs.Laws.{IsSoundKind, SelectorHasUtf8, SelectorsHaveUtf8, PropertyHasUtf8, StyleHasUtf8, RuleHasUtf8}
use Rattle.css_objects.specs.Laws.{MatchHasUtf8, InheritedHasUtf8, MatchedHaveUtf8}
use Rattle.css_objects.proofs.Options.{both_parts}
use Rattle.css_objects.proofs.SheetIds.{the_sheet, sheet_read, sheet_text-utf8}
use Rattle.css_objects.proofs.SoundKinds.{sound, whole_sound, text_sound, refined_sound, fields_sound, fitting_sound, weaker, list_sound}
use Rattle.css_objects.proofs.SoundKinds.{no_more, needed}
use Rattle.css_objects.proofs.SoundKinds.{optional, flagged, object_sound}

-- ---- ids, origins and the empty list

sheet_take : (d : Data) (n : ℕ) → sheet_kind.reads d ≡ Some n → (sheet_kind.spell n ≡ d) × (is_sheet n ≡ true)
sheet_take null n e = absurd cc
sheet_take (boolean b) n e = absurd cc
sheet_take (number m) n e = absurd cc
sheet_take (string s) n e = let p = sheet_read s n e in (ap string p.0, p.1)
sheet_take (array ds) n e = absurd cc
sheet_take (object ms) n e = absurd cc

sheet_lawful : LawfulKind sheet_kind
sheet_lawful = record { takes = sheet_take; again = λ n f. sym (the_sheet n f); plain = λ n f l. refl }

pub sheet_sound : IsSoundKind sheet_kind (λ _. ⊤) 0
sheet_sound = sound sheet_lawful refl (λ n f u. sheet_text-utf8 n f) (λ n. omega arith) (λ n. refl)

origin_again : (o : Origin) → origin_named (origin_name o) ≡ Some o
origin_again UserAgent = refl
origin_again Regular = refl

origin_utf8 : (o : Origin) → IsUtf8 (origin_name o)
origin_utf8 UserAgent = IsUtf8-are_ascii (codes "user-agent") refl
origin_utf8 Regular = IsUtf8-are_ascii (codes "regular") refl

pub origin_sound : IsSoundKind origin_kind (λ _. ⊤) 0
origin_sound = sound (choice_lawful origin_name all_origins origin_again) refl (λ o f u. origin_utf8 o) (λ o. omega arith)
    (λ o. refl)

empty_take : (d : Data) (x : ⊤) → empty_list.reads d ≡ Some x → (empty_list.spell x ≡ d) × (empty_list.fits x ≡ true)
empty_take null x e = absurd cc
empty_take (boolean b) x e = absurd cc
empty_take (number m) x e = absurd cc
empty_take (string s) x e = absurd cc
empty_take (array no_items) x e = (refl, refl)
empty_take (array (item d ds)) x e = absurd cc
empty_take (object ms) x e = absurd cc

pub empty_sound : IsSoundKind empty_list (λ _. ⊤) 1
empty_sound = sound (record { takes = empty_take; again = λ x f. refl; plain = λ x f l. refl }) refl (λ x f u. tt) (λ x. omega arith)
    (λ x. refl)

-- ---- objects

any_some : {A : Type 0} (o : Option A) → IfSome o (λ _. ⊤)
any_some None = tt
any_some (Some x) = tt

pub range_sound : IsSoundKind range_kind (λ _. ⊤) 1
range_sound =
    weaker (λ r u. (tt, (tt, (tt, (tt, tt))))) (fields_sound range_fields range_from (λ f. refl) (λ r. refl) (object_sound
    (needed (codes "endColumn") whole_sound
    (needed (codes "endLine") whole_sound
    (needed (codes "startColumn") whole_sound
    (needed (codes "startLine") whole_sound (no_more 0) refl refl (omega arith)) refl refl (omega arith)) refl refl (omega arith)) refl
    refl (omega arith))))

pub header_sound : IsSoundKind header_kind (λ _. ⊤) 1
header_sound =
    weaker (λ h u. (tt, (tt, (tt, tt)))) (fields_sound header_fields header_from (λ f. refl) (λ h. refl) (object_sound
    (needed (codes "length") whole_sound
    (needed (codes "origin") origin_sound
    (needed (codes "styleSheetId") sheet_sound (no_more 0) refl refl (omega arith)) refl refl (omega arith)) refl refl (omega arith))))

pub weight_sound : IsSoundKind weight_kind (λ _. ⊤) 1
weight_sound =
    weaker (λ w u. (tt, (tt, (tt, tt)))) (fields_sound weight_fields weight_from (λ f. refl) (λ w. refl) (object_sound
    (needed (codes "a") whole_sound
    (needed (codes "b") whole_sound
    (needed (codes "c") whole_sound (no_more 0) refl refl (omega arith)) refl refl (omega arith)) refl refl (omega arith))))

pub selector_sound : IsSoundKind selector_kind SelectorHasUtf8 2
selector_sound =
    weaker (λ v u. (tt, (tt, (u, tt)))) (fields_sound selector_fields selector_from (λ f. refl) (λ v. refl) (object_sound
    (needed (codes "range") range_sound
    (needed (codes "specificity") weight_sound
    (needed (codes "text") text_sound (no_more 1) refl refl (omega arith)) refl refl (omega arith)) refl refl (omega arith))))

pub selectors_sound : IsSoundKind selectors_kind SelectorsHaveUtf8 4
selectors_sound =
    weaker (λ s u. (u.0, (u.1, tt))) (fields_sound selectors_fields selectors_from (λ f. refl) (λ s. refl) (object_sound
    (needed (codes "selectors") (list_sound selector_sound)
    (needed (codes "text") text_sound (no_more 3) refl refl (omega arith)) refl refl (omega arith))))

pub property_sound : IsSoundKind property_kind PropertyHasUtf8 2
property_sound =
    weaker (λ p u. (u.0, (any_some p.range, (u.1, (u.2, tt)))))
    (fields_sound property_fields property_from (λ f. refl) (λ p. refl) (object_sound
    (flagged (codes "important")
    (needed (codes "name") text_sound
    (optional (codes "range") range_sound
    (needed (codes "text") text_sound
    (needed (codes "value") text_sound (no_more 1) refl refl (omega arith)) refl refl (omega arith)) refl refl (omega arith)) refl refl
    (omega arith)) refl refl)))

pub style_sound : IsSoundKind style_kind StyleHasUtf8 4
style_sound =
    weaker (λ s u. (u.0, (u.1, (any_some s.range, (tt, (any_some s.sheet, tt))))))
    (fields_sound style_fields style_from (λ f. refl) (λ s. refl) (object_sound
    (needed (codes "cssProperties") (list_sound property_sound)
    (needed (codes "cssText") text_sound
    (optional (codes "range") range_sound
    (needed (codes "shorthandEntries") empty_sound
    (optional (codes "styleSheetId") sheet_sound (no_more 3) refl refl (omega arith)) refl refl (omega arith)) refl refl (omega arith))
    refl refl (omega arith)) refl refl (omega arith))))

pub inline_sound : IsSoundKind inline_kind StyleHasUtf8 4
inline_sound = refined_sound is_inline style_sound

pub rule_style_sound : IsSoundKind rule_style_kind StyleHasUtf8 4
rule_style_sound = refined_sound is_in_sheet style_sound

source_sound : IsSoundKind (only_text (codes "mediaRule")) (λ _. ⊤) 0
source_sound = sound (only_text_lawful (codes "mediaRule")) refl (λ x f u. IsUtf8-are_ascii (codes "mediaRule") refl) (λ x. omega arith)
    (λ x. refl)

pub media_sound : IsSoundKind media_kind MediaHasUtf8 2
media_sound =
    weaker (λ m u. (tt, (tt, (tt, (u, tt))))) (fields_sound media_fields media_from (λ f. refl) (λ m. refl) (object_sound
    (needed (codes "range") range_sound
    (needed (codes "source") source_sound
    (needed (codes "styleSheetId") sheet_sound
    (needed (codes "text") text_sound (no_more 1) refl refl (omega arith)) refl refl (omega arith)) refl refl (omega arith)) refl refl
    (omega arith))))

-- media rules that are written have texts, where all have
written-utf8 : (ms : List Media) → AllByRecursion MediaHasUtf8 ms → IfSome (written_media ms) (AllByRecursion MediaHasUtf8)
written-utf8 [] u = tt
written-utf8 (m ∷ ms) u = u

written-back : (ms : List Media) → media_written (written_media ms) ≡ ms
written-back [] = refl
written-back (m ∷ ms) = refl

back-written : (o : Option (List Media)) → holds_of_some some_media_kind.fits o ≡ true → written_media (media_written o) ≡ o
back-written None f = refl
back-written (Some []) f = absurd cc
back-written (Some (m ∷ ms)) f = refl

rule-there : (f : RuleFields) → (object_of rule_row).fits f ≡ true → rule_fields (rule_from f) ≡ f
rule-there f fits =
    ap (λ (o : Option (List Media)). (o, f.1)) (back-written f.0 (both_parts (holds_of_some some_media_kind.fits f.0) _ fits).0)

rule-back : (r : Rule) → rule_from (rule_fields r) ≡ r
rule-back r = ap (λ (ms : List Media).
    record { origin = r.origin; selectors = r.selectors; style = r.style; sheet = r.sheet; media = ms }) (written-back r.media)

pub rule_sound : IsSoundKind rule_kind RuleHasUtf8 5
rule_sound =
    weaker (λ r u. (written-utf8 r.media u.2, (tt, (u.0, (u.1, (tt, tt))))))
    (fitting_sound rule_fields rule_from rule-there rule-back (object_sound
    (optional (codes "media") (refined_sound has_media (list_sound media_sound))
    (needed (codes "origin") origin_sound
    (needed (codes "selectorList") selectors_sound
    (needed (codes "style") rule_style_sound
    (needed (codes "styleSheetId") sheet_sound (no_more 4) refl refl (omega arith)) refl refl (omega arith)) refl refl (omega arith)) refl
    refl (omega arith)) refl refl (omega arith))))

each_whole : (ns : List ℕ) → AllByRecursion (λ _. ⊤) ns
each_whole [] = tt
each_whole (n ∷ ns) = (tt, each_whole ns)

pub match_sound : IsSoundKind match_kind MatchHasUtf8 6
match_sound =
    weaker (λ m u. (each_whole m.matching, (u, tt))) (fields_sound match_fields match_from (λ f. refl) (λ m. refl) (object_sound
    (needed (codes "matchingSelectors") (refined_sound ascend (list_sound whole_sound))
    (needed (codes "rule") rule_sound (no_more 5) refl refl (omega arith)) refl refl (omega arith))))

pub inherited_sound : IsSoundKind inherited_kind InheritedHasUtf8 8
inherited_sound =
    weaker (λ i u. (u.0, (u.1, tt))) (fields_sound inherited_fields inherited_from (λ f. refl) (λ i. refl) (object_sound
    (optional (codes "inlineStyle") inline_sound
    (needed (codes "matchedCSSRules") (list_sound match_sound) (no_more 7) refl refl (omega arith)) refl refl (omega arith))))

pub matched_sound : IsSoundKind matched_kind MatchedHaveUtf8 10
matched_sound =
    weaker (λ m u. (u.0, (u.1, (u.2, tt)))) (fields_sound matched_fields matched_from (λ f. refl) (λ m. refl) (object_sound
    (needed (codes "inherited") (list_sound inherited_sound)
    (optional (codes "inlineStyle") inline_sound
    (needed (codes "matchedCSSRules") (list_sound match_sound) (no_more 9) refl refl (omega arith)) refl refl (omega arith)) refl refl
    (omega arith))))

-- ---- results

pub sheet_text_sound : IsSoundKind sheet_text_result IsUtf8 1
sheet_text_sound = weaker (λ s u. (u, tt))
    (fields_sound _ _ (λ f. refl) (λ s. refl) (object_sound (needed (codes "text") text_sound (no_more 0) refl refl (omega arith))))

pub class_names_sound : IsSoundKind class_names_result (AllByRecursion IsUtf8) 2
class_names_sound = weaker (λ ss u. (u, tt))
    (fields_sound _ _ (λ f. refl) (λ ss. refl)
    (object_sound (needed (codes "classNames") (list_sound text_sound) (no_more 1) refl refl (omega arith))))

pub styles_sound : IsSoundKind styles_result (AllByRecursion StyleHasUtf8) 6
styles_sound = weaker (λ ss u. (u, tt))
    (fields_sound _ _ (λ f. refl) (λ ss. refl)
    (object_sound (needed (codes "styles") (list_sound rule_style_sound) (no_more 5) refl refl (omega arith))))

pub new_selectors_sound : IsSoundKind selectors_result SelectorsHaveUtf8 5
new_selectors_sound = weaker (λ s u. (u, tt))
    (fields_sound _ _ (λ f. refl) (λ s. refl)
    (object_sound (needed (codes "selectorList") selectors_sound (no_more 4) refl refl (omega arith))))

pub new_rule_sound : IsSoundKind rule_result RuleHasUtf8 6
new_rule_sound = weaker (λ r u. (u, tt))
    (fields_sound _ _ (λ f. refl) (λ r. refl) (object_sound (needed (codes "rule") rule_sound (no_more 5) refl refl (omega arith))))

pub new_media_sound : IsSoundKind media_result MediaHasUtf8 3
new_media_sound = weaker (λ m u. (u, tt))
    (fields_sound _ _ (λ f. refl) (λ m. refl) (object_sound (needed (codes "media") media_sound (no_more 2) refl refl (omega arith))))
