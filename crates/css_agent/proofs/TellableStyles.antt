-- What the domain tells can be spelled: numbers of messages, UTF-8 texts, and the forms of its objects.
use Rattle.std.proofs.Common.{◌≡◌, ℕ, zero, suc, ◌+◌, ◌*◌, ◌^◌, ◌<◌, ◌≤◌, ◌==◌, Bool, true, false, cond, not, ◌&&◌, nat_lt, nat_cmp, codes}
use Rattle.std.proofs.Common.{List, [], ◌∷◌, ◌++◌, length, map, take, reverse, Option, Some, None, Ordering, Less, Equal, Greater, refl}
use Rattle.std.proofs.Common.{subst, arith}
use Rattle.std.specs.Prelude.{⊤, All, IfSome, slice_get, option_map, option_to_list, option_and_then, unwrap_or}
use Rattle.std.specs.List.{AllByRecursion, list_all, filter_map, cons_option, sum_by, prefix_len, find}
use Rattle.std.specs.Ordering.{match_ordering}
use Rattle.std.specs.Cmp.Lexicographic.{slice_cmp}
use Rattle.std.specs.BTreeMap.{insert_entry}
use Rattle.std.specs.Str.{IsUtf8, bytes_eq}
use Rattle.std.proofs.lemmas.Str.{IsUtf8-between}
use Rattle.std.proofs.lemmas.List.{length-take, length-reverse}
use Rattle.std.proofs.lemmas.List.Sums.{sum_by-cons, count_by-le-length}
use Rattle.std.proofs.lemmas.List.Elements.{All-head, All-tail}
use Rattle.std.proofs.lemmas.Bool.Decides.{nat_tests}
use Rattle.cdp_json.specs.Kinds.{is_counted, holds_of_some}
use Rattle.node_tree.specs.Nodes.{Nodes, none, node, Branch, alone}
use Rattle.node_tree.specs.Labels.{Pair, value_of}
use Rattle.page_tree.specs.Pages.{PageRow}
use Rattle.page_tree.specs.Zippers.{Generation, Zipper, ancestors, ancestors_in, all_in, zippers, root_of, has_serial, zipper_at}
use Rattle.css_tokens.specs.declared.token.Range.{Range}
use Rattle.css_objects.specs.declared.ranges.SourceRange.{SourceRange}
use Rattle.css_objects.specs.declared.styles.Style.{Style}
use Rattle.css_objects.specs.declared.rules.RuleMatch.{RuleMatch}
use Rattle.css_objects.specs.declared.rules.Inherited.{Inherited}
use Rattle.css_objects.specs.Sheets.{is_sheet}
use Rattle.css_objects.specs.declared.media.Media.{Media}
use Rattle.css_objects.specs.Ranges.{range_kind}
use Rattle.css_objects.specs.Media.{media_kind, some_media_kind, written_media}
use Rattle.css_objects.specs.Selectors.{weight_kind, selector_kind, selectors_kind}
use Rattle.css_objects.specs.Styles.{property_kind, is_ranged, is_rangeless, inline_kind, rule_style_kind}
use Rattle.css_objects.specs.Rules.{rule_kind, starts_above, ascend, match_kind, inherited_kind, matched_kind}
use Rattle.css_objects.specs.Laws.{SelectorHasUtf8, PropertyHasUtf8, StyleHasUtf8, RuleHasUtf8, MatchHasUtf8, InheritedHasUtf8}
use Rattle.css_objects.specs.Laws.{MediaHasUtf8, MatchedHaveUtf8}
use Rattle.selectors.specs.declared.weight.Spec.{Spec}
use Rattle.selectors.specs.Forms.{SimpleForm, CompoundForm, SelectorForm}
use Rattle.selectors.specs.Weight.{ids, classes, types, in_compounds, bounded, element_count as pseudo, specificity_of}
use Rattle.selectors.specs.Ranges.{IsRangeOf, AreBetween, ranges_of}
use Rattle.sheet_reader.specs.declared.sheet.Property.{Property}
use Rattle.sheet_reader.specs.declared.sheet.MediaRule.{MediaRule}
use Rattle.sheet_reader.specs.declared.book.SheetEntry.{SheetEntry}
use Rattle.sheet_reader.specs.Forms.{RuleForm}
use Rattle.sheet_reader.specs.Positions.{units_at, is_line_feed, line_back, line_of, column_of, position_of}
use Rattle.sheet_reader.specs.Declarations.{style_of}
use Rattle.sheet_reader.specs.Sheets.{sheet_of}
use Rattle.sheet_reader.specs.Usable.{IsPropertyOf, IsRuleOf}
use Rattle.sheet_reader.specs.Books.{IsStored, entry_of}
use Rattle.sheet_reader.proofs.UsableForms.{sheet_usable, style_usable}
use Rattle.select_match.specs.Matches.{selector_matches}
use Rattle.select_match.specs.Elements.{attributes_of, is_element_node, elements}
use Rattle.sheet_reader.specs.Around.{held_at}
use Rattle.media_rules.specs.declared.medium.Medium.{Medium}
use Rattle.cascade_match.proofs.HeldForms.{preludes-cut}
use Rattle.cascade_match.specs.declared.keys.Key.{Key}
use Rattle.cascade_match.specs.declared.hits.Hit.{Hit}
use Rattle.cascade_match.specs.Precedence.{key_cmp}
use Rattle.cascade_match.specs.Matched.{places_from, Source, source_of, entry_by, entries_of_rules, entries_of_sheets, all_entered}
use Rattle.cascade_match.specs.Matched.{matched_entries, matched_of, greatest, places_matching}
use Rattle.css_agent.specs.ClassNames.{class_of, classes_of_tests, classes_of_compounds, classes_of_selectors, classes_of_rules, with_name}
use Rattle.css_agent.specs.ClassNames.{with_names, class_names}
use Rattle.css_agent.specs.Texts.{source_range, told_part}
use Rattle.css_agent.specs.MediaAround.{media_around, told_media, told_around}
use Rattle.css_agent.specs.RuleObjects.{property_with, sheet_property, inline_property, inline_style, told_weight, told_selector, told_rule}
use Rattle.css_agent.specs.MatchedStyles.{told_inline, told_match, told_hit, told_matches, told_inherited, matched_styles}
use Rattle.css_agent.proofs.AroundLemmas.{around-all}
use Rattle.css_agent.proofs.SelectorNames.{all-append, NamesAre, CompoundNamed, SelectorNamed}
use Rattle.css_agent.proofs.SheetNames.{PropertyNamed, style-named, RuleNamed, rules-named}

-- ---- tests

pub both : {a b : Bool} → a ≡ true → b ≡ true → (a && b) ≡ true
both {a} {b} e f = at a b e f where
  at : (a b : Bool) → a ≡ true → b ≡ true → (a && b) ≡ true
  at true b e f = f
  at false b e f = absurd cc

pub counted : (n : ℕ) → n < 2 ^ 53 → is_counted n ≡ true
counted n low = grind (arith, nat_tests)

pub sheet-number : (n : ℕ) → 0 < n → n < 2 ^ 53 → is_sheet n ≡ true
sheet-number n some low = both (positive n some) (counted n low) where
  positive : (n : ℕ) → 0 < n → nat_lt 0 n ≡ true
  positive n some = grind (arith, nat_tests)

-- ---- places of a text

units-low : (c : ℕ) → units_at c ≤ 2
units-low c = at (nat_lt c 128) (nat_lt c 192) (nat_lt c 240) where
  at : (a b d : Bool) → cond a 1 (cond b 0 (cond d 1 2)) ≤ 2
  at true b d = omega arith
  at false true d = omega arith
  at false false true = omega arith
  at false false false = omega arith

pub units-few : (xs : List ℕ) → sum_by units_at xs ≤ 2 * length xs
units-few [] = omega arith
units-few (x ∷ xs) = let step = sum_by-cons units_at x xs in let low = units-low x in let more = units-few xs in omega
    (arith, step, low, more)

-- a text of at most 2^24 bytes has few lines and columns
line-low : (text : List ℕ) (n : ℕ) → length text ≤ 2 ^ 24 → is_counted (position_of text n).line ≡ true
unfolding line_of
line-low text n short =
    let few = count_by-le-length is_line_feed (take n text) in
    let less = length-take n text in
    counted _ (omega (arith, few, less, short))

column-low : (text : List ℕ) (n : ℕ) → length text ≤ 2 ^ 24 → is_counted (position_of text n).column ≡ true
unfolding column_of
column-low text n short =
    let front = take n text in
    let back = line_back front in
    let few = units-few back in
    let part = length-take (prefix_len (λ c. not (is_line_feed c)) (reverse front)) (reverse front) in
    let same = length-reverse front in
    let less = length-take n text in
    counted _ (omega (arith, few, part, same, less, short))

range-fits : (text : List ℕ) (r : Range) → length text ≤ 2 ^ 24 → range_kind.fits (source_range text r) ≡ true
range-fits text r short =
    both (column-low text r.end short)
    (both (line-low text r.end short) (both (column-low text r.start short) (both (line-low text r.start short) refl)))

part-utf8 : (text : List ℕ) (r : Range) → IsUtf8 text → IsRangeOf text r → IsUtf8 (told_part text r)
part-utf8 text r utf8 is = IsUtf8-between text r.start r.end utf8 is.order is.front is.back

-- ---- declarations

abbrev ArePropertiesOf : List ℕ → List Property → Type 0
ArePropertiesOf text ps = All (IsPropertyOf text) ps

property-utf8 : (o : Option SourceRange) (text : List ℕ) (p : Property) → IsUtf8 text → IsPropertyOf text p → PropertyNamed p
    → PropertyHasUtf8 (property_with o text p)
property-utf8 o text p utf8 is named = (named, part-utf8 text p.whole utf8 is.whole, part-utf8 text p.value utf8 is.value)

properties-utf8 : (o : Property → Option SourceRange) (text : List ℕ) (ps : List Property) → IsUtf8 text → ArePropertiesOf text ps
    → AllByRecursion PropertyNamed ps
    → AllByRecursion PropertyHasUtf8 (map (λ p. property_with (o p) text p) ps)
properties-utf8 o text [] utf8 all named = tt
properties-utf8 o text (p ∷ ps) utf8 all named = (
  property-utf8 (o p) text p utf8 (All-head (IsPropertyOf text) p ps all) named.0,
  properties-utf8 o text ps utf8
      (All-tail (IsPropertyOf text) p ps all) named.1,
)

sheet-properties-fit : (text : List ℕ) (ps : List Property) → length text ≤ 2 ^ 24
    → (list_all property_kind.fits (map (sheet_property text) ps) ≡ true) × (list_all is_ranged (map (sheet_property text) ps) ≡ true)
sheet-properties-fit text [] short = (refl, refl)
sheet-properties-fit text (p ∷ ps) short =
    let more = sheet-properties-fit text ps short in
    (both (both (range-fits text p.whole short) refl) more.0, more.1)

inline-properties-fit : (text : List ℕ) (ps : List Property)
    → (list_all property_kind.fits (map (inline_property text) ps) ≡ true) × (list_all is_rangeless (map (inline_property text) ps) ≡ true)
inline-properties-fit text [] = (refl, refl)
inline-properties-fit text (p ∷ ps) = inline-properties-fit text ps

inline-fits : (text : List ℕ) → inline_kind.fits (inline_style text) ≡ true
inline-fits text = let all = inline-properties-fit text (style_of text) in both (both all.0 refl) all.1

inline-utf8 : (text : List ℕ) → IsUtf8 text → StyleHasUtf8 (inline_style text)
inline-utf8 text utf8 = (properties-utf8 (λ _. None) text (style_of text) utf8 (style_usable text utf8).each (style-named text utf8), utf8)

-- ---- rules

weight-fits : (s : SelectorForm) → weight_kind.fits (told_weight (specificity_of s)) ≡ true
weight-fits s = both (low (in_compounds ids s.compounds))
    (both (low (in_compounds classes s.compounds)) (both (low (in_compounds types s.compounds + pseudo s.pseudo_element)) refl)) where
      low : (n : ℕ) → is_counted (bounded n) ≡ true
      low n = counted (bounded n) (omega arith)

selectors-fit : (text : List ℕ) (ss : List SelectorForm) → length text ≤ 2 ^ 24
    → list_all selector_kind.fits (map (told_selector text) ss) ≡ true
selectors-fit text [] short = refl
selectors-fit text (s ∷ ss) short = both (both (range-fits text s.range short) (both (weight-fits s) refl)) (selectors-fit text ss short)

selectors-utf8 : (text : List ℕ) (from to : ℕ) (ss : List SelectorForm) → IsUtf8 text → AreBetween text from to (ranges_of ss)
    → AllByRecursion SelectorHasUtf8 (map (told_selector text) ss)
selectors-utf8 text from to [] utf8 all = tt
selectors-utf8 text from to (s ∷ ss) utf8 all = (part-utf8 text s.range utf8 all.1, selectors-utf8 text s.range.end to ss utf8 all.2)

-- what is needed of an entry of the book
pub record IsTold (e : SheetEntry) : Type 0 where
  some : 0 < e.id
  low : e.id < 2 ^ 53
  short : length e.text ≤ 2 ^ 24
  utf8 : IsUtf8 e.text

pub prelude-fits : (e : SheetEntry) (r : RuleForm) → IsTold e → selectors_kind.fits (told_rule e r).selectors ≡ true
prelude-fits e r is = both (selectors-fit e.text r.selectors is.short) refl

pub style-fits : (e : SheetEntry) (r : RuleForm) → IsTold e → rule_style_kind.fits (told_rule e r).style ≡ true
style-fits e r is =
    let number = sheet-number e.id is.some is.low in
    let all = sheet-properties-fit e.text r.properties is.short in
    both (both all.0 (both (range-fits e.text r.body is.short) (both number refl))) all.1

pub media-fits : (e : SheetEntry) (m : MediaRule) → IsTold e → media_kind.fits (told_media e.id e.text m) ≡ true
media-fits e m is = both (range-fits e.text m.prelude is.short) (both (sheet-number e.id is.some is.low) refl)

media-fit : (e : SheetEntry) (ms : List MediaRule) → IsTold e → list_all media_kind.fits (map (told_media e.id e.text) ms) ≡ true
media-fit e [] is = refl
media-fit e (m ∷ ms) is = both (media-fits e m is) (media-fit e ms is)

written-fit : (ms : List Media) → list_all media_kind.fits ms ≡ true → holds_of_some some_media_kind.fits (written_media ms) ≡ true
written-fit [] all = refl
written-fit (m ∷ ms) all = both all refl

-- a media rule whose prelude can be cut out has a text
pub media-utf8 : (e : SheetEntry) (m : MediaRule) → IsTold e → IsRangeOf e.text m.prelude → MediaHasUtf8 (told_media e.id e.text m)
media-utf8 e m is cut = part-utf8 e.text m.prelude is.utf8 cut

media-have-utf8 : (e : SheetEntry) (ms : List MediaRule) → IsTold e → All (λ m. IsRangeOf e.text m.prelude) ms
    → AllByRecursion MediaHasUtf8 (map (told_media e.id e.text) ms)
media-have-utf8 e [] is all = tt
media-have-utf8 e (m ∷ ms) is all = (
  media-utf8 e m is (All-head (λ (x : MediaRule). IsRangeOf e.text x.prelude) m ms all),
  media-have-utf8 e ms is (All-tail (λ (x : MediaRule). IsRangeOf e.text x.prelude) m ms all),
)

around-utf8 : (e : SheetEntry) (around : Option ℕ) → IsTold e → AllByRecursion MediaHasUtf8 (told_around e.id e.text around)
around-utf8 e around is =
    let ms = (sheet_of e.text).media in
    media-have-utf8 e (media_around ms around) is
    (around-all (λ (x : MediaRule). IsRangeOf e.text x.prelude) ms around (preludes-cut e.text is.utf8))

pub rule-fits : (e : SheetEntry) (r : RuleForm) → IsTold e → rule_kind.fits (told_rule e r) ≡ true
rule-fits e r is =
    both (written-fit (told_around e.id e.text r.media) (media-fit e (media_around (sheet_of e.text).media r.media) is))
    (both (prelude-fits e r is) (both (style-fits e r is) (both (sheet-number e.id is.some is.low) refl)))

pub rule-utf8 : (e : SheetEntry) (r : RuleForm) → IsTold e → IsRuleOf e.text r → AllByRecursion PropertyNamed r.properties
    → RuleHasUtf8 (told_rule e r)
rule-utf8 e r is own named = (
  (selectors-utf8 e.text r.prelude.start r.prelude.end r.selectors is.utf8 own.selectors, part-utf8 e.text r.prelude is.utf8 own.prelude),
  (
    properties-utf8 (λ p. Some (source_range e.text p.whole)) e.text r.properties is.utf8 own.each named,
    part-utf8 e.text r.body is.utf8
        own.body,
  ),
  around-utf8 e r.media is,
)

-- ---- hits

-- the places of the selectors that match ascend, and are numbers of messages
abbrev HitFits : Hit → Type 0
HitFits h = (list_all is_counted h.matching ≡ true) × (ascend h.matching ≡ true)

places-fit : (i : ℕ) (ss : List SelectorForm) (z : Zipper) → i + length ss < 2 ^ 53
    → (list_all is_counted (places_from i ss z) ≡ true) × (ascend (places_from i ss z) ≡ true)
    × ((n : ℕ) → n < i → starts_above n (places_from i ss z) ≡ true)
places-fit i [] z low = (refl, refl, λ n less. refl)
places-fit i (s ∷ ss) z low = at (selector_matches s z) (places-fit (i + 1) ss z (omega (arith, low))) where
  at : (b : Bool) → (list_all is_counted (places_from (i + 1) ss z) ≡ true) × (ascend (places_from (i + 1) ss z) ≡ true)
      × ((n : ℕ) → n < i + 1 → starts_above n (places_from (i + 1) ss z) ≡ true)
      → (list_all is_counted (cond b (i ∷ places_from (i + 1) ss z) (places_from (i + 1) ss z)) ≡ true)
      × (ascend (cond b (i ∷ places_from (i + 1) ss z) (places_from (i + 1) ss z)) ≡ true)
      × ((n : ℕ) → n < i → starts_above n (cond b (i ∷ places_from (i + 1) ss z) (places_from (i + 1) ss z)) ≡ true)
  at true more = (both (counted i (omega (arith, low))) more.0, both (more.2 i (omega arith)) more.1, λ n less. below n i less)
    where
      below : (n i : ℕ) → n < i → nat_lt n i ≡ true
      below n i less = grind (arith, nat_tests)
  at false more = (more.0, more.1, λ n less. more.2 n (omega (arith, less)))

abbrev EntryFits : Key × Hit → Type 0
EntryFits e = HitFits e.1

found-fits : (from : Source) (rule : ℕ) (weight : Spec) (ps : List ℕ) (rest : List (Key × Hit))
    → (list_all is_counted ps ≡ true) × (ascend ps ≡ true) → AllByRecursion EntryFits rest
    → AllByRecursion EntryFits (option_to_list (entry_by from rule weight ps) ++ rest)
found-fits from rule weight [] rest own all = all
found-fits from rule weight (p ∷ ps) rest own all = (own, all)

if-fits : (b : Bool) (o : Option (Key × Hit)) (rest : List (Key × Hit)) → AllByRecursion EntryFits (option_to_list o ++ rest)
    → AllByRecursion EntryFits rest → AllByRecursion EntryFits (option_to_list (cond b o None) ++ rest)
if-fits true o rest own all = own
if-fits false o rest own all = all

rules-fit : (from : Source) (i most : ℕ) (rs : List RuleForm) (z : Zipper) → most + 1 < 2 ^ 53 → AllByRecursion (RuleNamed most) rs
    → AllByRecursion EntryFits (entries_of_rules from i rs z)
rules-fit from i most [] z low all = tt
rules-fit from i most (r ∷ rs) z low all =
    let few = all.0.few in
    let own = places-fit 0 r.selectors z (omega (arith, low, few)) in
    let more = rules-fit from (i + 1) most rs z low all.1 in
    let weight = greatest r.selectors z in
    let rest = entries_of_rules from (i + 1) rs z in
    if-fits (held_at from.held r.media) (entry_by from i weight (places_matching r.selectors z)) rest
    (found-fits from i weight (places_matching r.selectors z) rest (own.0, own.1) more) more

pub stored-told : (e : SheetEntry) → IsStored e → IsTold e
stored-told e is = record { some = is.entry.some; low = is.entry.id; short = is.entry.short; utf8 = is.utf8 }

sheets-fit : (m : Medium) (place : ℕ) (es : List SheetEntry) (z : Zipper) → AllByRecursion IsStored es
    → AllByRecursion EntryFits (entries_of_sheets m place es z)
sheets-fit m place [] z all = tt
sheets-fit m place (e ∷ es) z all =
    let short = all.0.entry.short in
    let from = source_of m place e in
    all-append EntryFits (entries_of_rules from 0 (sheet_of e.text).rules z) (entries_of_sheets m (place + 1) es z)
    (rules-fit from 0 (length e.text) (sheet_of e.text).rules z (omega (arith, short)) (rules-named e.text all.0.utf8))
    (sheets-fit m (place + 1) es z all.1)

put-fits : (sorted : List (Key × Hit)) (k : Key) (h : Hit) → HitFits h → AllByRecursion EntryFits sorted
    → AllByRecursion EntryFits (insert_entry key_cmp sorted k h)
put-fits [] k h own all = (own, tt)
put-fits (e ∷ es) k h own all = at (key_cmp k e.0) (put-fits es k h own all.1) where
  at : (o : Ordering) → AllByRecursion EntryFits (insert_entry key_cmp es k h)
      → AllByRecursion EntryFits (match_ordering o ((k, h) ∷ e ∷ es) ((e.0, h) ∷ es) (e ∷ insert_entry key_cmp es k h))
  at Less more = (own, (all.0, all.1))
  at Equal more = (own, all.1)
  at Greater more = (all.0, more)

all-fit : (sorted es : List (Key × Hit)) → AllByRecursion EntryFits sorted → AllByRecursion EntryFits es
    → AllByRecursion EntryFits (all_entered sorted es)
all-fit sorted [] own all = own
all-fit sorted (e ∷ es) own all = all-fit (insert_entry key_cmp sorted e.0 e.1) es (put-fits sorted e.0 e.1 all.0 own) all.1

hits-of : (es : List (Key × Hit)) → AllByRecursion EntryFits es → AllByRecursion HitFits (map (λ e. e.1) es)
hits-of [] all = tt
hits-of (e ∷ es) all = (all.0, hits-of es all.1)

hits-fit : (m : Medium) (book : List SheetEntry) (z : Zipper) → AllByRecursion IsStored book → AllByRecursion HitFits (matched_of m book z)
hits-fit m book z all = hits-of (matched_entries m book z) (all-fit [] (entries_of_sheets m 0 book z) tt (sheets-fit m 0 book z all))

-- ---- matches

-- a match that can be told
abbrev MatchTold : RuleMatch → Type 0
MatchTold m = (match_kind.fits m ≡ true) × MatchHasUtf8 m

pub entry-stored : (id : ℕ) (book : List SheetEntry) (e : SheetEntry) → AllByRecursion IsStored book → entry_of id book ≡ Some e
    → IsStored e
entry-stored id [] e all h = absurd cc
entry-stored id (x ∷ xs) e all h = at (id == x.id) h (λ k. entry-stored id xs e all.1 k) where
  at : (b : Bool) → cond b (Some x) (entry_of id xs) ≡ Some e → (entry_of id xs ≡ Some e → IsStored e) → IsStored e
  at true k more = let same : x ≡ e = cc in subst IsStored same all.0
  at false k more = more k

pub rule-at : {most : ℕ} (text : List ℕ) (rs : List RuleForm) (i : ℕ) (r : RuleForm) → All (IsRuleOf text) rs
    → AllByRecursion (RuleNamed most) rs → slice_get rs i ≡ Some r → IsRuleOf text r × RuleNamed most r
rule-at text [] i r all named e = absurd cc
rule-at {most} text (x ∷ xs) zero r all named e = let same : x
    ≡ r = cc in subst (λ y. IsRuleOf text y × RuleNamed most y) same (All-head (IsRuleOf text) x xs all, named.0)
rule-at text (x ∷ xs) (suc i) r all named e = rule-at text xs i r (All-tail (IsRuleOf text) x xs all) named.1 e

hit-told : (book : List SheetEntry) (h : Hit) → AllByRecursion IsStored book → HitFits h → IfSome (told_hit book h) MatchTold
hit-told book h all fits = by-sheet (entry_of h.sheet book) refl where
  by-rule : (e : SheetEntry) → IsStored e → (o : Option RuleForm) → slice_get (sheet_of e.text).rules h.rule ≡ o
      → IfSome (option_map (told_match e h.matching) o) MatchTold
  by-rule e is None k = tt
  by-rule e is (Some r) k =
      let own = rule-at e.text (sheet_of e.text).rules h.rule r (sheet_usable e.text is.utf8).each (rules-named e.text is.utf8) k in
      let told = stored-told e is in
      (both (both fits.0 fits.1) (both (rule-fits e r told) refl), rule-utf8 e r told own.0 own.1.properties)

  by-sheet : (o : Option SheetEntry) → entry_of h.sheet book ≡ o
      → IfSome (option_and_then (λ e. option_map (told_match e h.matching) (slice_get (sheet_of e.text).rules h.rule)) o) MatchTold
  by-sheet None k = tt
  by-sheet (Some e) k = by-rule e (entry-stored h.sheet book e all k) (slice_get (sheet_of e.text).rules h.rule) refl

among-told : (book : List SheetEntry) (hs : List Hit) → AllByRecursion IsStored book → AllByRecursion HitFits hs
    → AllByRecursion MatchTold (filter_map (told_hit book) hs)
among-told book [] all fits = tt
among-told book (h ∷ hs) all fits = at (told_hit book h) (hit-told book h all fits.0) (among-told book hs all fits.1) where
  at : (o : Option RuleMatch) → IfSome o MatchTold → AllByRecursion MatchTold (filter_map (told_hit book) hs)
      → AllByRecursion MatchTold (cons_option o (filter_map (told_hit book) hs))
  at None own more = more
  at (Some m) own more = (own, more)

matches-told : (m : Medium) (book : List SheetEntry) (z : Zipper) → AllByRecursion IsStored book
    → AllByRecursion MatchTold (told_matches m book z)
matches-told m book z all = among-told book (matched_of m book z) all (hits-fit m book z all)

matches-fit : (ms : List RuleMatch) → AllByRecursion MatchTold ms → list_all match_kind.fits ms ≡ true
matches-fit [] all = refl
matches-fit (m ∷ ms) all = both all.0.0 (matches-fit ms all.1)

matches-utf8 : (ms : List RuleMatch) → AllByRecursion MatchTold ms → AllByRecursion MatchHasUtf8 ms
matches-utf8 [] all = tt
matches-utf8 (m ∷ ms) all = (all.0.1, matches-utf8 ms all.1)

-- ---- an element and its ancestors

-- the values of attributes are UTF-8
abbrev pub ValuesAre : List Pair → Type 0
ValuesAre ps = AllByRecursion (λ p. IsUtf8 p.1) ps

abbrev pub RowHasValues : PageRow → Type 0
RowHasValues r = ValuesAre r.label.attributes

-- those of a node and of its ancestors
pub record HasValues (z : Zipper) : Type 0 where
  pub own : RowHasValues z.branch.row
  pub above : AllByRecursion (λ g. RowHasValues g.branch.row) z.above

value-found : (name : List ℕ) (ps : List Pair) → ValuesAre ps → IfSome (value_of name ps) IsUtf8
value-found name [] all = tt
value-found name (p ∷ ps) all = at (bytes_eq p.0 name) (value-found name ps all.1) where
  at : (b : Bool) → IfSome (value_of name ps) IsUtf8 → IfSome (cond b (Some p.1) (value_of name ps)) IsUtf8
  at true more = all.0
  at false more = more

inline-told : (z : Zipper) → RowHasValues z.branch.row → IfSome (told_inline z) (λ s. (inline_kind.fits s ≡ true) × StyleHasUtf8 s)
inline-told z own = at (value_of (codes "style") (attributes_of z)) (value-found (codes "style") (attributes_of z) own) where
  at : (o : Option (List ℕ)) → IfSome o IsUtf8 → IfSome (option_map inline_style o) (λ s. (inline_kind.fits s ≡ true) × StyleHasUtf8 s)
  at None utf8 = tt
  at (Some text) utf8 = (inline-fits text, inline-utf8 text utf8)

-- an optional style and a list of matches, as both objects have them
abbrev InheritedTold : Inherited → Type 0
InheritedTold i = (inherited_kind.fits i ≡ true) × InheritedHasUtf8 i

entry-told : (o : Option Style) (ms : List RuleMatch) → IfSome o (λ s. (inline_kind.fits s ≡ true) × StyleHasUtf8 s)
    → AllByRecursion MatchTold ms → InheritedTold (record { inline = o; rules = ms })
entry-told None ms own all = (both (matches-fit ms all) refl, (tt, matches-utf8 ms all))
entry-told (Some s) ms own all = (both own.0 (both (matches-fit ms all) refl), (own.1, matches-utf8 ms all))

matched-told : (o : Option Style) (ms : List RuleMatch) (is : List Inherited)
    → IfSome o (λ s. (inline_kind.fits s ≡ true) × StyleHasUtf8 s) → AllByRecursion MatchTold ms
    → (list_all inherited_kind.fits is ≡ true) × AllByRecursion InheritedHasUtf8 is
    → (matched_kind.fits (record { inline = o; rules = ms; inherited = is }) ≡ true)
    × MatchedHaveUtf8 (record { inline = o; rules = ms; inherited = is })
matched-told None ms is own all above = (both above.0 (both (matches-fit ms all) refl), (above.1, tt, matches-utf8 ms all))
matched-told (Some s) ms is own all above =
    (both above.0 (both own.0 (both (matches-fit ms all) refl)), (above.1, own.1, matches-utf8 ms all))

above-told : (m : Medium) (book : List SheetEntry) (gs : List Generation) → AllByRecursion IsStored book
    → AllByRecursion (λ g. RowHasValues g.branch.row) gs
    → (list_all inherited_kind.fits (map (told_inherited m book) (elements (ancestors_in gs))) ≡ true)
    × AllByRecursion InheritedHasUtf8 (map (told_inherited m book) (elements (ancestors_in gs)))
above-told m book [] all values = (refl, tt)
above-told m book (g ∷ gs) all values = at (is_element_node z) (above-told m book gs all values.1) where
  z : Zipper
  z = record { branch = g.branch; before = g.before; after = g.after; above = gs }

  at : (b : Bool)
      → (list_all inherited_kind.fits (map (told_inherited m book) (elements (ancestors_in gs))) ≡ true)
      × AllByRecursion InheritedHasUtf8 (map (told_inherited m book) (elements (ancestors_in gs)))
      → (list_all inherited_kind.fits (map (told_inherited m book) (cond b (z ∷ elements (ancestors_in gs)) (elements (ancestors_in gs))))
      ≡ true)
      × AllByRecursion InheritedHasUtf8 (map (told_inherited m book) (cond b (z ∷ elements (ancestors_in gs)) (elements (ancestors_in gs))))
  at true more =
      let own = entry-told (told_inline z) (told_matches m book z) (inline-told z values.0) (matches-told m book z all) in
      (both own.0 more.0, (own.1, more.1))
  at false more = more

-- matched styles can be told
pub styles-told : (m : Medium) (book : List SheetEntry) (z : Zipper) → AllByRecursion IsStored book → HasValues z
    → (matched_kind.fits (matched_styles m book z) ≡ true) × MatchedHaveUtf8 (matched_styles m book z)
styles-told m book z all values =
    matched-told (told_inline z) (told_matches m book z) (map (told_inherited m book) (elements (ancestors z))) (inline-told z values.own)
    (matches-told m book z all) (above-told m book z.above all values.above)

-- ---- the nodes of a page

-- the values of the attributes of all nodes
abbrev pub NodesHaveValues : Nodes PageRow → Type 0
NodesHaveValues none = ⊤
NodesHaveValues (node r c t) = RowHasValues r × NodesHaveValues c × NodesHaveValues t

nodes-have : (above : List Generation) (before : List (Branch PageRow)) (n : Nodes PageRow)
    → AllByRecursion (λ g. RowHasValues g.branch.row) above → NodesHaveValues n → AllByRecursion HasValues (all_in above before n)
nodes-have above before none high has = tt
nodes-have above before (node r c t) high has =
    let g : Generation = record { branch = record { row = r; children = c }; before = before; after = t } in (
      record { own = has.0; above = high },
      all-append HasValues (all_in (g ∷ above) [] c) (all_in above (record { row = r; children = c } ∷ before) t)
          (nodes-have (g ∷ above) [] c (has.0, high) has.1) (nodes-have above (record { row = r; children = c } ∷ before) t high has.2),
    )

found-has : (p : Zipper → Bool) (zs : List Zipper) → AllByRecursion HasValues zs → IfSome (find p zs) HasValues
found-has p [] all = tt
found-has p (z ∷ zs) all = at (p z) (found-has p zs all.1) where
  at : (b : Bool) → IfSome (find p zs) HasValues → IfSome (cond b (Some z) (find p zs)) HasValues
  at true more = all.0
  at false more = more

-- each node of a page has them where all nodes have
pub zipper-has : (serial : ℕ) (tree : Branch PageRow) → NodesHaveValues (alone tree) → HasValues (zipper_at serial tree)
zipper-has serial tree has = at (find (has_serial serial) (zippers tree))
    (found-has (has_serial serial) (zippers tree) (nodes-have [] [] (alone tree) tt has)) where
      at : (o : Option Zipper) → IfSome o HasValues → HasValues (unwrap_or o (root_of tree))
      at None own = record { own = has.0; above = tt }
      at (Some z) own = own

-- ---- names of classes

names-utf8 : (names : List (List ℕ)) (name : List ℕ) → AllByRecursion IsUtf8 names → IsUtf8 name
    → AllByRecursion IsUtf8 (with_name names name)
names-utf8 [] name all own = (own, tt)
names-utf8 (x ∷ xs) name all own = at (slice_cmp nat_cmp name x) (names-utf8 xs name all.1 own) where
  at : (o : Ordering) → AllByRecursion IsUtf8 (with_name xs name)
      → AllByRecursion IsUtf8 (match_ordering o (name ∷ x ∷ xs) (x ∷ xs) (x ∷ with_name xs name))
  at Less more = (own, (all.0, all.1))
  at Equal more = all
  at Greater more = (all.0, more)

more-utf8 : (names more : List (List ℕ)) → AllByRecursion IsUtf8 names → AllByRecursion IsUtf8 more
    → AllByRecursion IsUtf8 (with_names names more)
more-utf8 names [] all later = all
more-utf8 names (n ∷ ns) all later = more-utf8 (with_name names n) ns (names-utf8 names n all later.0) later.1

one-name : (o : Option (List ℕ)) (rest : List (List ℕ)) → IfSome o IsUtf8 → AllByRecursion IsUtf8 rest
    → AllByRecursion IsUtf8 (option_to_list o ++ rest)
one-name None rest own all = all
one-name (Some n) rest own all = (own, all)

tests-utf8 : (tests : List SimpleForm) → NamesAre tests → AllByRecursion IsUtf8 (classes_of_tests tests)
tests-utf8 [] all = tt
tests-utf8 (s ∷ ss) all = one-name (class_of s) (classes_of_tests ss) all.0 (tests-utf8 ss all.1)

compounds-utf8 : (cs : List CompoundForm) → AllByRecursion CompoundNamed cs → AllByRecursion IsUtf8 (classes_of_compounds cs)
compounds-utf8 [] all = tt
compounds-utf8 (c ∷ cs) all = all-append IsUtf8 (classes_of_tests c.tests) (classes_of_compounds cs) (tests-utf8 c.tests all.0)
    (compounds-utf8 cs all.1)

classes-utf8 : (ss : List SelectorForm) → AllByRecursion SelectorNamed ss → AllByRecursion IsUtf8 (classes_of_selectors ss)
classes-utf8 [] all = tt
classes-utf8 (s ∷ ss) all = all-append IsUtf8 (classes_of_compounds s.compounds) (classes_of_selectors ss)
    (compounds-utf8 s.compounds all.0) (classes-utf8 ss all.1)

rules-utf8 : (most : ℕ) (rs : List RuleForm) → AllByRecursion (RuleNamed most) rs → AllByRecursion IsUtf8 (classes_of_rules rs)
rules-utf8 most [] all = tt
rules-utf8 most (r ∷ rs) all = all-append IsUtf8 (classes_of_selectors r.selectors) (classes_of_rules rs)
    (classes-utf8 r.selectors all.0.selectors) (rules-utf8 most rs all.1)

-- the names of a sheet's classes are UTF-8
pub class-names-utf8 : (text : List ℕ) → IsUtf8 text → AllByRecursion IsUtf8 (class_names text)
class-names-utf8 text utf8 = more-utf8 [] (classes_of_rules (sheet_of text).rules) tt
    (rules-utf8 (length text) (sheet_of text).rules (rules-named text utf8))
