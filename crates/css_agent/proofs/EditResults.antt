-- The result of an edit can be spelled.
use Rattle.std.proofs.Common.{◌≡◌, ℕ, suc, Bool, true, ◌&&◌, List, [], ◌∷◌, All, length, map, Option, Some, None, Result, Ok, Err, refl}
use Rattle.std.proofs.Common.{sym, ap, subst, ◌∙◌, arith}
use Rattle.std.specs.Prelude.{slice_get, option_map, option_and_then, unwrap_or}
use Rattle.std.specs.List.{AllByRecursion, list_all}
use Rattle.std.proofs.lemmas.Str.{IsUtf8-nil}
use Rattle.std.proofs.lemmas.List.{length-map}
use Rattle.std.proofs.lemmas.List.Elements.{All-head, All-tail}
use Rattle.cdp_json.specs.Kinds.{is_counted}
use Rattle.css_objects.specs.declared.styles.Style.{Style}
use Rattle.css_objects.specs.declared.rules.Rule.{Rule}
use Rattle.css_objects.specs.declared.media.Media.{Media}
use Rattle.css_objects.specs.Sheets.{is_sheet}
use Rattle.css_objects.specs.Media.{media_kind}
use Rattle.css_objects.specs.Selectors.{selectors_kind}
use Rattle.css_objects.specs.Styles.{rule_style_kind}
use Rattle.css_objects.specs.Rules.{rule_kind}
use Rattle.css_objects.specs.Laws.{StyleHasUtf8, RuleHasUtf8, MediaHasUtf8}
use Rattle.selectors.specs.Ranges.{IsRangeOf}
use Rattle.sheet_reader.specs.declared.sheet.MediaRule.{MediaRule}
use Rattle.sheet_reader.specs.declared.book.SheetEntry.{SheetEntry}
use Rattle.sheet_reader.specs.Forms.{RuleForm}
use Rattle.sheet_reader.specs.Sheets.{sheet_of}
use Rattle.sheet_reader.specs.Books.{IsStored, entry_of}
use Rattle.sheet_reader.proofs.UsableForms.{sheet_usable}
use Rattle.style_edits.specs.declared.edits.StyleEdit.{StyleEdit}
use Rattle.style_edits.specs.declared.rule_places.RulePlace.{RulePlace}
use Rattle.style_edits.specs.declared.splice.Splice.{Splice}
use Rattle.style_edits.specs.Splices.{after_splice, back_by, back_splice, TakesSplice}
use Rattle.style_edits.specs.Edits.{Found, HasText, style_splice, selector_splice, text_splice, rule_splice, edited, styles_edited}
use Rattle.style_edits.specs.EditedRules.{place_by, edited_rule, rules_on, edited_rules}
use Rattle.style_edits.specs.MediaEdits.{media_splice, edited_media}
use Rattle.cascade_match.proofs.HeldForms.{preludes-cut}
use Rattle.style_edits.proofs.BookForms.{entry_id}
use Rattle.style_edits.proofs.SpliceForms.{stored_after}
use Rattle.style_edits.proofs.FoundForms.{style_found, selector_found, text_found, rule_found, media_splice_found}
use Rattle.cdp_messages.specs.declared.down.ReplyBody.{ReplyBody}
use Rattle.cdp_messages.specs.declared.down.ReplyBody.TheVariants as body
use Rattle.cdp_messages.specs.declared.edits.TextEdit.{TextEdit}
use Rattle.cdp_messages.specs.Laws.{answers}
use Rattle.client_views.specs.Moves.{IsPlainReply}
use Rattle.cdp_messages.specs.declared.css_edit.CssEdit.{CssEdit}
use Rattle.cdp_messages.specs.declared.css_edit.CssEdit.TheVariants as edit
use Rattle.css_agent.specs.MediaAround.{told_media}
use Rattle.css_agent.specs.RuleObjects.{told_rule}
use Rattle.css_agent.specs.Edits.{number_named, line_range, style_edit, found_at, empty_rule, told_at, CssDone, css_done, one_done}
use Rattle.css_agent.specs.Edits.{empty_media, media_told, media_done, css_edited, splices_on, style_splices, css_splices}
use Rattle.css_agent.specs.EditLaws.{HasEditTexts, css_edit_name, edit_count, TellsStyles, IsDone, EditsAreDone}
use Rattle.css_agent.proofs.SheetNames.{rules-named}
use Rattle.css_agent.proofs.RulesTold.{rules-told}
use Rattle.css_agent.proofs.TellableStyles.{both, sheet-number, IsTold, prelude-fits, style-fits, rule-fits, rule-utf8, stored-told}
use Rattle.css_agent.proofs.StyleLemmas.{all-at}
use Rattle.css_agent.proofs.TellableStyles.{entry-stored, rule-at, media-fits, media-utf8}
use Rattle.css_agent.proofs.DoneLemmas.{stored-all, texts-all, StylesDone, styles-are-done, css-leads, css-takes, splices-stored}

-- ---- the rule that an edit made

-- all of it, its style and its selectors can be told
record RuleTold (r : Rule) : Type 0 where
  whole : rule_kind.fits r ≡ true
  style : rule_style_kind.fits r.style ≡ true
  selectors : selectors_kind.fits r.selectors ≡ true
  utf8 : RuleHasUtf8 r

empty-told : (sheet : ℕ) → is_sheet sheet ≡ true → RuleTold (empty_rule sheet)
empty-told sheet is =
    let style : rule_style_kind.fits (empty_rule sheet).style ≡ true = both (both is refl) refl in
    record {
      whole = both style (both is refl);
      style = style;
      selectors = refl;
      utf8 = ((tt, IsUtf8-nil), (tt, IsUtf8-nil), tt);
    }

found-told : (book : List SheetEntry) (p : RulePlace) → AllByRecursion IsStored book → is_sheet p.sheet ≡ true → RuleTold (told_at book p)
found-told book p all number = by-sheet (entry_of p.sheet book) refl
  where
    by-rule : (e : SheetEntry) → IsStored e → (o : Option RuleForm) → slice_get (sheet_of e.text).rules p.rule ≡ o
        → RuleTold (unwrap_or (option_map (told_rule e) o) (empty_rule p.sheet))
    by-rule e is None k = empty-told p.sheet number
    by-rule e is (Some r) k =
        let own = rule-at e.text (sheet_of e.text).rules p.rule r (sheet_usable e.text is.utf8).each (rules-named e.text is.utf8) k in
        let told = stored-told e is in
        record {
          whole = rule-fits e r told;
          style = style-fits e r told;
          selectors = prelude-fits e r told;
          utf8 = rule-utf8 e r told own.0 own.1.properties;
        }

    by-sheet : (o : Option SheetEntry) → entry_of p.sheet book ≡ o
        → RuleTold (unwrap_or (option_and_then (λ e. option_map (told_rule e) (slice_get (sheet_of e.text).rules p.rule)) o)
        (empty_rule p.sheet))
    by-sheet None k = empty-told p.sheet number
    by-sheet (Some e) k = by-rule e (entry-stored p.sheet book e all k) (slice_get (sheet_of e.text).rules p.rule) refl

-- the place of the rule is in the sheet of the splice
place-sheet : (back : Splice) (o : Option SheetEntry) → (place_by back o).sheet ≡ back.sheet
place-sheet back None = refl
place-sheet back (Some e) = refl

-- and that has a number that a message can tell
back-number : (s : Splice) (book : List SheetEntry) → TakesSplice s book → is_sheet (back_splice s book).sheet ≡ true
back-number s book take =
    let own : is_sheet take.sheet.id ≡ true = sheet-number take.sheet.id take.stored.entry.some take.stored.entry.id in
    let id : take.sheet.id ≡ s.sheet = entry_id s.sheet book take.sheet take.found in
    let back : (back_splice s book).sheet ≡ s.sheet = ap (λ (o : Option SheetEntry). (back_by s o).sheet) take.found in
    ap (λ (n : ℕ). is_sheet n) (back ∙ sym id) ∙ own

splice-number : (s : Splice) (book : List SheetEntry) → TakesSplice s book
    → is_sheet (edited_rule (after_splice s book) (back_splice s book)).sheet ≡ true
splice-number s book take =
    let back = back_splice s book in
    ap (λ (n : ℕ). is_sheet n) (place-sheet back (entry_of back.sheet (after_splice s book))) ∙ back-number s book take

one-told : (s : Splice) (book : List SheetEntry) → All IsStored book → TakesSplice s book
    → RuleTold (told_at (after_splice s book) (edited_rule (after_splice s book) (back_splice s book)))
one-told s book all take =
    let next = after_splice s book in
    found-told next (edited_rule next (back_splice s book)) (stored-all next (stored_after s book take all)) (splice-number s book take)

-- ---- the media rule whose prelude an edit made

-- it can be told
record MediaTold (m : Media) : Type 0 where
  fits : media_kind.fits m ≡ true
  utf8 : MediaHasUtf8 m

media-found-told : (book : List SheetEntry) (back : Splice) → AllByRecursion IsStored book → is_sheet back.sheet ≡ true
    → MediaTold (media_told book back)
media-found-told book back all number = by-sheet (entry_of back.sheet book) refl
  where
    place : ℕ
    place = edited_media book back

    nothing : MediaTold (empty_media back.sheet)
    nothing = record { fits = both number refl; utf8 = IsUtf8-nil }

    by-rule : (e : SheetEntry) → IsStored e → (o : Option MediaRule) → slice_get (sheet_of e.text).media place ≡ o
        → MediaTold (unwrap_or (option_map (told_media e.id e.text) o) (empty_media back.sheet))
    by-rule e is None k = nothing
    by-rule e is (Some m) k =
        let told = stored-told e is in
        let cut = all-at (λ (x : MediaRule). IsRangeOf e.text x.prelude) (sheet_of e.text).media place m k (preludes-cut e.text is.utf8) in
        record { fits = media-fits e m told; utf8 = media-utf8 e m told cut }

    by-sheet : (o : Option SheetEntry) → entry_of back.sheet book ≡ o
        → MediaTold (unwrap_or (option_and_then (λ e. option_map (told_media e.id e.text) (slice_get (sheet_of e.text).media place)) o)
        (empty_media back.sheet))
    by-sheet None k = nothing
    by-sheet (Some e) k = by-rule e (entry-stored back.sheet book e all k) (slice_get (sheet_of e.text).media place) refl

media-one-told : (s : Splice) (book : List SheetEntry) → All IsStored book → TakesSplice s book
    → MediaTold (media_told (after_splice s book) (back_splice s book))
media-one-told s book all take =
    let next = after_splice s book in
    media-found-told next (back_splice s book) (stored-all next (stored_after s book take all)) (back-number s book take)

-- ---- those of several edits

-- places in sheets whose numbers a message can tell
abbrev AreNumbered : List RulePlace → Type 0
AreNumbered ps = AllByRecursion (λ p. is_sheet p.sheet ≡ true) ps

rules-numbered : (xs : List StyleEdit) (book : List SheetEntry) → All IsStored book → All HasText xs → AreNumbered (edited_rules xs book)
unfolding edited_rules
rules-numbered [] book all texts = tt
rules-numbered (x ∷ xs) book all texts = by (style_splice x book) refl
    (λ next stored. rules-numbered xs next stored (All-tail HasText x xs texts))
  where
    by : (found : Found) → style_splice x book ≡ found → ((next : List SheetEntry) → All IsStored next → AreNumbered (edited_rules xs next))
        → AreNumbered (rules_on (edited book found) (λ next. edited_rules xs next))
    by (Err f) is more = tt
    by (Ok s) is more =
        let take = style_found x book s all (All-head HasText x xs texts) is in
        (splice-number s book take, more (after_splice s book) (stored_after s book take all))

-- styles that can be told
record StylesTold (ss : List Style) : Type 0 where
  fits : list_all rule_style_kind.fits ss ≡ true
  utf8 : AllByRecursion StyleHasUtf8 ss

styles-told : (book : List SheetEntry) (ps : List RulePlace) → AllByRecursion IsStored book → AreNumbered ps
    → StylesTold (map (λ p. (told_at book p).style) ps)
styles-told book [] all numbered = record { fits = refl; utf8 = tt }
styles-told book (p ∷ ps) all numbered =
    let own = found-told book p all numbered.0 in
    let more = styles-told book ps all numbered.1 in
    record { fits = both own.style more.fits; utf8 = (own.utf8.1, more.utf8) }

rules-count : (xs : List StyleEdit) (book : List SheetEntry) → length (edited_rules xs book) ≡ length (style_splices xs book)
unfolding edited_rules style_splices
rules-count [] book = refl
rules-count (x ∷ xs) book = by (style_splice x book) (λ next. rules-count xs next)
  where
    by : (found : Found) → ((next : List SheetEntry) → length (edited_rules xs next) ≡ length (style_splices xs next))
        → length (rules_on (edited book found) (λ next. edited_rules xs next))
        ≡ length (splices_on found book (λ next. style_splices xs next))
    by (Err f) more = refl
    by (Ok s) more = ap (λ (n : ℕ). suc n) (more (after_splice s book))

-- ---- the result of each command

-- the result of this edit can be told
pub record ResultTold (x : CssEdit) (result : ReplyBody) : Type 0 where
  pub plain : (id : ℕ) → is_counted id ≡ true → IsPlainReply id result
  pub answers : answers (css_edit_name x) result ≡ true
  pub styles : TellsStyles (edit_count x) result

one-result : (x : CssEdit) (told : Rule → ReplyBody) (found : Found) (book : List SheetEntry) (d : CssDone) → All IsStored book
    → ((s : Splice) → found ≡ Ok s → TakesSplice s book)
    → ((r : Rule) → RuleTold r → ResultTold x (told r)) → one_done told (edited book found) ≡ Ok d → ResultTold x d.body
one-result x told (Err f) book d all takes can h = absurd (cc)
one-result x told (Ok s) book d all takes can h =
    let next = after_splice s book in
    let back = back_splice s book in
    let rule = told_at next (edited_rule next back) in
    let same : css_done next (back ∷ []) (told rule) ≡ d = cc in
    subst (λ (y : CssDone). ResultTold x y.body) same (can rule (one-told s book all (takes s refl)))

media-result : (x : CssEdit) (found : Found) (book : List SheetEntry) (d : CssDone) → All IsStored book
    → ((s : Splice) → found ≡ Ok s → TakesSplice s book)
    → ((m : Media) → MediaTold m → ResultTold x (body.Media m)) → media_done (edited book found) ≡ Ok d → ResultTold x d.body
media-result x (Err f) book d all takes can h = absurd (cc)
media-result x (Ok s) book d all takes can h =
    let next = after_splice s book in
    let back = back_splice s book in
    let media = media_told next back in
    let same : css_done next (back ∷ []) (body.Media media) ≡ d = cc in
    subst (λ (y : CssDone). ResultTold x y.body) same (can media (media-one-told s book all (takes s refl)))

pub result-told : (x : CssEdit) (book : List SheetEntry) (d : CssDone) → All IsStored book → HasEditTexts x → css_edited book x ≡ Ok d
    → ResultTold x d.body
result-told (edit.SetStyleTexts edits) book d all texts h =
    let x = edit.SetStyleTexts edits in
    let xs = map style_edit edits in
    let is = styles-are-done edits book d h in
    let ss = map (λ p. (told_at d.book p).style) (edited_rules xs book) in
    let led = css-leads x book d h in
    let new : All IsStored d.book = subst (λ (b : List SheetEntry). All IsStored b) (sym led.there)
    (splices-stored (css_splices book x) book all (css-takes x book all texts)) in
    let told = styles-told d.book (edited_rules xs book) (stored-all d.book new) (rules-numbered xs book all (texts-all edits texts)) in
    let own : ResultTold x (body.Styles ss) = record {
      plain = λ id small. record { id_fits = small; plain = refl; fits = both told.fits refl; texts = told.utf8; levels = omega arith };
      answers = refl;
      styles = length-map (edited_rules xs book) (λ p. (told_at d.book p).style) ∙ rules-count xs book ∙ led.each;
    } in
    subst (λ (b : ReplyBody). ResultTold x b) (sym is.told) own
result-told (edit.SetRuleSelector sheet range selector) book d all utf8 h =
    one-result (edit.SetRuleSelector sheet range selector) (λ r. body.Selectors r.selectors)
    (selector_splice (number_named sheet) (line_range range) selector book) book d all
    (λ s k. selector_found (number_named sheet) (line_range range) selector book s all utf8 k)
    (λ r told. record {
      plain = λ id small. record {
        id_fits = small;
        plain = refl;
        fits = both told.selectors refl;
        texts = told.utf8.0;
        levels = omega arith;
      };
      answers = refl;
      styles = tt;
    }) h
result-told (edit.SetStyleSheetText sheet text) book d all utf8 h =
    one-result (edit.SetStyleSheetText sheet text) (λ r. body.Nothing) (text_splice (number_named sheet) text book) book d all
    (λ s k. text_found (number_named sheet) text book s all utf8 k)
    (λ r told. record {
      plain = λ id small. record { id_fits = small; plain = refl; fits = refl; texts = tt; levels = omega arith };
      answers = refl;
      styles = tt;
    }) h
result-told (edit.AddRule sheet rule_text location) book d all utf8 h =
    one-result (edit.AddRule sheet rule_text location) (λ r. body.Rule r)
    (rule_splice (number_named sheet) (line_range location) rule_text book) book d all
    (λ s k. rule_found (number_named sheet) (line_range location) rule_text book s all utf8 k)
    (λ r told. record {
      plain = λ id small. record { id_fits = small; plain = refl; fits = both told.whole refl; texts = told.utf8; levels = omega arith };
      answers = refl;
      styles = tt;
    }) h
result-told (edit.SetMediaText sheet range text) book d all utf8 h =
    media-result (edit.SetMediaText sheet range text) (media_splice (number_named sheet) (line_range range) text book) book d all
    (λ s k. media_splice_found (number_named sheet) (line_range range) text book s all utf8 k)
    (λ m told. record {
      plain = λ id small. record { id_fits = small; plain = refl; fits = both told.fits refl; texts = told.utf8; levels = omega arith };
      answers = refl;
      styles = tt;
    }) h

-- ---- the law

pub edits-done : EditsAreDone
edits-done book x d all texts h =
    let led = css-leads x book d h in
    let take = css-takes x book all texts in
    let told = result-told x book d all texts h in
    record {
      taken = take;
      leads = led.there;
      stored = subst (λ (b : List SheetEntry). All IsStored b) (sym led.there) (splices-stored (css_splices book x) book all take);
      backs = led.back;
      each = led.each;
      plain = told.plain;
      answers = told.answers;
      styles = told.styles;
      rules = rules-told x book d all texts h;
    }
