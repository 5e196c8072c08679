-- The style rules and the media rules that a reply tells of are there.
use Rattle.std.proofs.Common.{◌≡◌, ℕ, List, [], All, map, Option, Some, None, Ok, Err, refl}
use Rattle.std.specs.Prelude.{slice_get, option_map, option_and_then, unwrap_or, IsSome, IsSomeAnd}
use Rattle.std.proofs.lemmas.List.Elements.{All-nil, All-cons, All-weaker}
use Rattle.css_objects.specs.declared.media.Media.{Media}
use Rattle.css_objects.specs.declared.rules.Rule.{Rule}
use Rattle.sheet_reader.specs.declared.book.SheetEntry.{SheetEntry}
use Rattle.sheet_reader.specs.declared.sheet.MediaRule.{MediaRule}
use Rattle.sheet_reader.specs.Books.{IsStored, entry_of}
use Rattle.sheet_reader.specs.Forms.{RuleForm}
use Rattle.sheet_reader.specs.Preludes.{BeginsIn}
use Rattle.sheet_reader.specs.Sheets.{sheet_of}
use Rattle.style_edits.specs.declared.rule_places.RulePlace.{RulePlace}
use Rattle.style_edits.specs.declared.splice.Splice.{Splice}
use Rattle.style_edits.specs.Splices.{after_splice, back_splice}
use Rattle.style_edits.specs.Edits.{Found, selector_splice, rule_splice}
use Rattle.style_edits.specs.EditedRules.{edited_rule, edited_rules, IsRuleThere, made_rule, new_range, StandsIn}
use Rattle.style_edits.specs.MediaEdits.{media_splice, edited_media, MakesMedia}
use Rattle.style_edits.proofs.MadeMedia.{media_made}
use Rattle.style_edits.proofs.MadeRules.{is_there, styles_made}
use Rattle.style_edits.proofs.AddedRules.{rule_made}
use Rattle.style_edits.proofs.NewPreludes.{prelude_made}
use Rattle.cdp_messages.specs.declared.css_edit.CssEdit.{CssEdit}
use Rattle.cdp_messages.specs.declared.css_edit.CssEdit.TheVariants as edit
use Rattle.css_agent.specs.Edits.{number_named, line_range, style_edit, empty_rule, empty_media, CssDone, css_edited, one_splice}
use Rattle.css_agent.specs.EditLaws.{HasEditTexts, IsRuleTold, TellsMade, TellsMedia, TellsRules}
use Rattle.css_agent.specs.MediaAround.{told_media}
use Rattle.css_agent.specs.RuleObjects.{told_rule}
use Rattle.css_agent.proofs.DoneLemmas.{texts-all, styles-are-done}

-- a rule that is there is told
pub rule-told : (book : List SheetEntry) (p : RulePlace) → IsRuleThere book p → IsRuleTold book p
rule-told book p there = by-sheet (entry_of p.sheet book) there
  where
    told : Option Rule → Rule
    told o = unwrap_or o (empty_rule p.sheet)

    by-rule : (e : SheetEntry) (o : Option RuleForm) → IsSome o → option_map (told_rule e) o ≡ Some (told (option_map (told_rule e) o))
    by-rule e None h = absurd (cc)
    by-rule e (Some r) h = refl

    by-sheet : (o : Option SheetEntry) → IsSome (option_and_then (λ e. slice_get (sheet_of e.text).rules p.rule) o)
        → option_and_then (λ e. option_map (told_rule e) (slice_get (sheet_of e.text).rules p.rule)) o
        ≡ Some (told (option_and_then (λ e. option_map (told_rule e) (slice_get (sheet_of e.text).rules p.rule)) o))
    by-sheet None h = absurd (cc)
    by-sheet (Some e) h = by-rule e (slice_get (sheet_of e.text).rules p.rule) h

-- and so is the rule that a splice made
made-told : (book : List SheetEntry) (s : Splice) (P : RuleForm → Type 0) → IsSomeAnd (made_rule book s) P → TellsMade book s
made-told book s P there = rule-told (after_splice s book) (edited_rule (after_splice s book) (back_splice s book))
    (is_there (made_rule book s) P there)

-- where the one splice of an edit is so
one-tells : (found : Found) (book : List SheetEntry) → ((s : Splice) → found ≡ Ok s → TellsMade book s)
    → All (TellsMade book) (one_splice found)
one-tells (Err f) book each = All-nil (TellsMade book)
one-tells (Ok s) book each = All-cons (TellsMade book) s [] (each s refl) (All-nil (TellsMade book))

-- a media rule that is there is told
media-told : (book : List SheetEntry) (s : Splice) → MakesMedia book s → TellsMedia book s
media-told book s made = by-sheet (entry_of back.sheet next) made.there
  where
    next : List SheetEntry
    next = after_splice s book

    back : Splice
    back = back_splice s book

    place : ℕ
    place = edited_media next back

    told : Option Media → Media
    told o = unwrap_or o (empty_media back.sheet)

    by-rule : (e : SheetEntry) (o : Option MediaRule) → IsSome o
        → option_map (told_media e.id e.text) o ≡ Some (told (option_map (told_media e.id e.text) o))
    by-rule e None h = absurd (cc)
    by-rule e (Some r) h = refl

    by-sheet : (o : Option SheetEntry) → IsSome (option_and_then (λ e. slice_get (sheet_of e.text).media place) o)
        → option_and_then (λ e. option_map (told_media e.id e.text) (slice_get (sheet_of e.text).media place)) o
        ≡ Some (told (option_and_then (λ e. option_map (told_media e.id e.text) (slice_get (sheet_of e.text).media place)) o))
    by-sheet None h = absurd (cc)
    by-sheet (Some e) h = by-rule e (slice_get (sheet_of e.text).media place) h

one-tells-media : (found : Found) (book : List SheetEntry) → ((s : Splice) → found ≡ Ok s → TellsMedia book s)
    → All (TellsMedia book) (one_splice found)
one-tells-media (Err f) book each = All-nil (TellsMedia book)
one-tells-media (Ok s) book each = All-cons (TellsMedia book) s [] (each s refl) (All-nil (TellsMedia book))

pub rules-told : (x : CssEdit) (book : List SheetEntry) (d : CssDone) → All IsStored book → HasEditTexts x → css_edited book x ≡ Ok d
    → TellsRules book x d
rules-told (edit.SetStyleTexts edits) book d all texts h =
    let xs = map style_edit edits in
    All-weaker (IsRuleThere d.book) (IsRuleTold d.book) (λ p there. rule-told d.book p there) (edited_rules xs book)
    (styles_made xs book d.book d.backs all (texts-all edits texts) (styles-are-done edits book d h).done)
rules-told (edit.SetRuleSelector sheet range selector) book d all texts h =
    one-tells (selector_splice (number_named sheet) (line_range range) selector book) book
    (λ s found. made-told book s (BeginsIn (new_range s))
    (prelude_made (number_named sheet) (line_range range) selector texts book s all found))
rules-told (edit.SetStyleSheetText sheet text) book d all texts h = tt
rules-told (edit.AddRule sheet rule_text location) book d all texts h =
    one-tells (rule_splice (number_named sheet) (line_range location) rule_text book) book
    (λ s found. made-told book s (StandsIn (new_range s))
    (rule_made (number_named sheet) (line_range location) rule_text texts book s all found))
rules-told (edit.SetMediaText sheet range text) book d all texts h =
    one-tells-media (media_splice (number_named sheet) (line_range range) text book) book
    (λ s found. media-told book s (media_made (number_named sheet) (line_range range) text texts book s all found))
