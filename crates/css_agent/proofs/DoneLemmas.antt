-- What an edit comes to is what its splices do.
use Rattle.std.proofs.Common.{◌≡◌, ℕ, suc, List, [], ◌∷◌, All, length, map, Result, Ok, Err, refl, sym, ap, subst, ◌∙◌}
use Rattle.std.specs.List.{AllByRecursion}
use Rattle.std.specs.Str.{IsUtf8}
use Rattle.std.proofs.lemmas.List.{length-map}
use Rattle.std.proofs.lemmas.List.Elements.{All-head, All-tail, All-nil, All-cons}
use Rattle.css_objects.specs.declared.rules.Rule.{Rule}
use Rattle.sheet_reader.specs.declared.book.SheetEntry.{SheetEntry}
use Rattle.sheet_reader.specs.Books.{IsStored}
use Rattle.style_edits.specs.declared.edits.StyleEdit.{StyleEdit}
use Rattle.style_edits.specs.declared.faults.SheetFault.{SheetFault}
use Rattle.style_edits.specs.declared.rule_places.RulePlace.{RulePlace}
use Rattle.style_edits.specs.declared.splice.Splice.{Splice}
use Rattle.style_edits.specs.Splices.{after_splice, back_splice, after_splices, TakesSplice}
use Rattle.style_edits.specs.Edits.{Found, EditsOutcome, HasText, style_splice, selector_splice, text_splice, rule_splice, edited}
use Rattle.style_edits.specs.Edits.{with_back, go_on, styles_edited}
use Rattle.style_edits.specs.EditedRules.{edited_rule, edited_rules}
use Rattle.style_edits.specs.MediaEdits.{media_splice}
use Rattle.style_edits.proofs.SpliceForms.{stored_after}
use Rattle.style_edits.proofs.FoundForms.{style_found, selector_found, text_found, rule_found, media_splice_found}
use Rattle.cdp_messages.specs.declared.down.ReplyBody.{ReplyBody}
use Rattle.cdp_messages.specs.declared.down.ReplyBody.TheVariants as body
use Rattle.cdp_messages.specs.declared.edits.TextEdit.{TextEdit}
use Rattle.cdp_messages.specs.declared.css_edit.CssEdit.{CssEdit}
use Rattle.cdp_messages.specs.declared.css_edit.CssEdit.TheVariants as edit
use Rattle.css_agent.specs.Edits.{number_named, line_range, style_edit, told_at, CssDone, css_done, styles_done, one_done, css_edited}
use Rattle.css_agent.specs.Edits.{media_told, media_done, one_splice, splices_on, style_splices, css_splices}
use Rattle.css_agent.specs.EditLaws.{HasEditText, HasEditTexts, edit_count, AllTake, back_splices}

-- ---- lists whose elements all have a property

pub stored-all : (book : List SheetEntry) → All IsStored book → AllByRecursion IsStored book
stored-all [] all = tt
stored-all (e ∷ es) all = (All-head IsStored e es all, stored-all es (All-tail IsStored e es all))

pub all-stored : (book : List SheetEntry) → AllByRecursion IsStored book → All IsStored book
all-stored [] all = All-nil IsStored
all-stored (e ∷ es) all = All-cons IsStored e es all.0 (all-stored es all.1)

pub texts-all : (edits : List TextEdit) → All HasEditText edits → All HasText (map style_edit edits)
texts-all [] all = All-nil HasText
texts-all (x ∷ xs) all = All-cons HasText (style_edit x) (map style_edit xs) (All-head HasEditText x xs all)
    (texts-all xs (All-tail HasEditText x xs all))

-- ---- the book after splices, and those that lead back

-- the book after these splices is this one, and these lead back; there are so many
pub record Leads (ss backs : List Splice) (count : ℕ) (book new : List SheetEntry) : Type 0 where
  pub there : new ≡ after_splices ss book
  pub back : backs ≡ back_splices ss book
  pub each : length ss ≡ count

style-leads : (xs : List StyleEdit) (book new : List SheetEntry) (backs : List Splice) → styles_edited xs book ≡ Ok (new, backs)
    → Leads (style_splices xs book) backs (length xs) book new
unfolding styles_edited style_splices
style-leads [] book new backs h =
    let same : ◌≡◌ {A = List SheetEntry × List Splice} (book, []) (new, backs) = cc in
    record {
      there = ap (λ (p : List SheetEntry × List Splice). p.0) (sym same);
      back = ap (λ (p : List SheetEntry × List Splice). p.1) (sym same);
      each = refl;
    }
style-leads (x ∷ xs) book new backs h = by (style_splice x book) h (λ next end bs e. style-leads xs next end bs e)
  where
    Led : Type 0
    Led = (next end : List SheetEntry) (bs : List Splice) → styles_edited xs next ≡ Ok (end, bs)
        → Leads (style_splices xs next) bs (length xs) next end

    rest : (s : Splice) (o : EditsOutcome) → styles_edited xs (after_splice s book) ≡ o
        → with_back (back_splice s book) o ≡ Ok (new, backs) → Led
        → Leads (s ∷ style_splices xs (after_splice s book)) backs (length (x ∷ xs)) book new
    rest s (Err f) is k more = absurd (cc)
    rest s (Ok r) is k more =
        let same : ◌≡◌ {A = List SheetEntry × List Splice} (r.0, back_splice s book ∷ r.1) (new, backs) = cc in
        let led = more (after_splice s book) r.0 r.1 is in
        record {
          there = ap (λ (p : List SheetEntry × List Splice). p.0) (sym same) ∙ led.there;
          back = ap (λ (p : List SheetEntry × List Splice). p.1) (sym same) ∙ ap (λ (bs : List Splice). back_splice s book ∷ bs) led.back;
          each = ap (λ (n : ℕ). suc n) led.each;
        }

    by : (found : Found) → go_on (edited book found) (λ next. styles_edited xs next) ≡ Ok (new, backs) → Led
        → Leads (splices_on found book (λ next. style_splices xs next)) backs (length (x ∷ xs)) book new
    by (Err f) k more = absurd (cc)
    by (Ok s) k more = rest s (styles_edited xs (after_splice s book)) refl k more

one-leads : (told : Rule → ReplyBody) (found : Found) (book : List SheetEntry) (d : CssDone) → one_done told (edited book found) ≡ Ok d
    → Leads (one_splice found) d.backs 1 book d.book
one-leads told (Err f) book d h = absurd (cc)
one-leads told (Ok s) book d h =
    let next = after_splice s book in
    let back = back_splice s book in
    let same : css_done next (back ∷ []) (told (told_at next (edited_rule next back))) ≡ d = cc in
    record {
      there = ap (λ (x : CssDone). x.book) (sym same);
      back = ap (λ (x : CssDone). x.backs) (sym same);
      each = refl;
    }

media-leads : (found : Found) (book : List SheetEntry) (d : CssDone) → media_done (edited book found) ≡ Ok d
    → Leads (one_splice found) d.backs 1 book d.book
media-leads (Err f) book d h = absurd (cc)
media-leads (Ok s) book d h =
    let next = after_splice s book in
    let back = back_splice s book in
    let same : css_done next (back ∷ []) (body.Media (media_told next back)) ≡ d = cc in
    record {
      there = ap (λ (x : CssDone). x.book) (sym same);
      back = ap (λ (x : CssDone). x.backs) (sym same);
      each = refl;
    }

-- what edits of the bodies of rules come to, where they have no fault
pub record StylesDone (edits : List TextEdit) (book : List SheetEntry) (d : CssDone) : Type 0 where
  pub done : styles_edited (map style_edit edits) book ≡ Ok (d.book, d.backs)
  pub told : d.body ≡ body.Styles (map (λ p. (told_at d.book p).style) (edited_rules (map style_edit edits) book))

pub styles-are-done : (edits : List TextEdit) (book : List SheetEntry) (d : CssDone) → css_edited book (edit.SetStyleTexts edits) ≡ Ok d
    → StylesDone edits book d
styles-are-done edits book d h = by (styles_edited (map style_edit edits) book) refl h
  where
    rules : List RulePlace
    rules = edited_rules (map style_edit edits) book

    by : (o : EditsOutcome) → styles_edited (map style_edit edits) book ≡ o → styles_done rules o ≡ Ok d → StylesDone edits book d
    by (Err f) is k = absurd (cc)
    by (Ok made) is k =
        let same : css_done made.0 made.1 (body.Styles (map (λ p. (told_at made.0 p).style) rules)) ≡ d = cc in
        subst (λ (x : CssDone). StylesDone edits book x) same (record { done = is; told = refl })

pub css-leads : (x : CssEdit) (book : List SheetEntry) (d : CssDone) → css_edited book x ≡ Ok d
    → Leads (css_splices book x) d.backs (edit_count x) book d.book
css-leads (edit.SetStyleTexts edits) book d h =
    subst (λ (n : ℕ). Leads (style_splices (map style_edit edits) book) d.backs n book d.book) (length-map edits style_edit)
    (style-leads (map style_edit edits) book d.book d.backs (styles-are-done edits book d h).done)
css-leads (edit.SetRuleSelector sheet range selector) book d h =
    one-leads (λ r. body.Selectors r.selectors) (selector_splice (number_named sheet) (line_range range) selector book) book d h
css-leads (edit.SetStyleSheetText sheet text) book d h = one-leads (λ r. body.Nothing) (text_splice (number_named sheet) text book) book d h
css-leads (edit.AddRule sheet rule_text location) book d h =
    one-leads (λ r. body.Rule r) (rule_splice (number_named sheet) (line_range location) rule_text book) book d h
css-leads (edit.SetMediaText sheet range text) book d h =
    media-leads (media_splice (number_named sheet) (line_range range) text book) book d h

-- ---- splices that can be made

pub splices-stored : (ss : List Splice) (book : List SheetEntry) → All IsStored book → AllTake ss book
    → All IsStored (after_splices ss book)
splices-stored [] book all take = all
splices-stored (s ∷ ss) book all take = splices-stored ss (after_splice s book) (stored_after s book take.0 all) take.1

styles-take : (xs : List StyleEdit) (book : List SheetEntry) → All IsStored book → All HasText xs → AllTake (style_splices xs book) book
unfolding style_splices
styles-take [] book all texts = tt
styles-take (x ∷ xs) book all texts = by (style_splice x book) refl
    (λ next stored. styles-take xs next stored (All-tail HasText x xs texts))
  where
    by : (found : Found) → style_splice x book ≡ found
        → ((next : List SheetEntry) → All IsStored next → AllTake (style_splices xs next) next)
        → AllTake (splices_on found book (λ next. style_splices xs next)) book
    by (Err f) is more = tt
    by (Ok s) is more =
        let take = style_found x book s all (All-head HasText x xs texts) is in
        (take, more (after_splice s book) (stored_after s book take all))

one-takes : (found : Found) (book : List SheetEntry) → ((s : Splice) → found ≡ Ok s → TakesSplice s book) → AllTake (one_splice found) book
one-takes (Err f) book takes = tt
one-takes (Ok s) book takes = (takes s refl, tt)

pub css-takes : (x : CssEdit) (book : List SheetEntry) → All IsStored book → HasEditTexts x → AllTake (css_splices book x) book
css-takes (edit.SetStyleTexts edits) book all texts = styles-take (map style_edit edits) book all (texts-all edits texts)
css-takes (edit.SetRuleSelector sheet range selector) book all utf8 =
    one-takes (selector_splice (number_named sheet) (line_range range) selector book) book
    (λ s h. selector_found (number_named sheet) (line_range range) selector book s all utf8 h)
css-takes (edit.SetStyleSheetText sheet text) book all utf8 =
    one-takes (text_splice (number_named sheet) text book) book (λ s h. text_found (number_named sheet) text book s all utf8 h)
css-takes (edit.AddRule sheet rule_text location) book all utf8 =
    one-takes (rule_splice (number_named sheet) (line_range location) rule_text book) book
    (λ s h. rule_found (number_named sheet) (line_range location) rule_text book s all utf8 h)
css-takes (edit.SetMediaText sheet range text) book all utf8 =
    one-takes (media_splice (number_named sheet) (line_range range) text book) book
    (λ s h. media_splice_found (number_named sheet) (line_range range) text book s all utf8 h)
