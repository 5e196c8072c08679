-- A sheet that is taken apart, and a body of it that is made another text.
use Rattle.std.proofs.Common.{◌≡◌, ℕ, ◌+◌, ◌<◌, ◌≤◌, true, All, List, ◌++◌, map, take, drop, length}
use Rattle.std.proofs.Common.{Option, Some, None, refl, sym, ap, subst}
use Rattle.std.proofs.Common.{◌∙◌, arith, length-append}
use Rattle.std.specs.Prelude.{slice_get, IsSomeAnd}
use Rattle.std.specs.Str.{IsUtf8}
use Rattle.std.proofs.lemmas.Option.{slice_get_within}
use Rattle.node_tree.specs.Numbers.{number_limit, max_sheet_bytes}
use Rattle.css_tokens.specs.declared.token.Range.{Range}
use Rattle.selectors.specs.Moves.{Cut, cut, moved_place, CanPlace}
use Rattle.sheet_reader.specs.declared.book.SheetEntry.{SheetEntry}
use Rattle.sheet_reader.specs.declared.sheet.MediaRule.{MediaRule}
use Rattle.sheet_reader.specs.declared.sheet.Sheet.{Sheet}
use Rattle.sheet_reader.specs.Books.{IsEntry, IsStored}
use Rattle.sheet_reader.specs.Declarations.{style_of}
use Rattle.sheet_reader.specs.Forms.{RuleForm, range}
use Rattle.sheet_reader.specs.Late.{CanRebody}
use Rattle.sheet_reader.specs.Moves.{body_cut, moved_by, moved_rules, placed_media, replaced, CanPlaceMedia, IsPropertyWithin}
use Rattle.sheet_reader.specs.Opened.{entry_with, reading_with}
use Rattle.sheet_reader.specs.Rereads.{HasBody, retold}
use Rattle.sheet_reader.specs.Sealing.{is_sealed}
use Rattle.sheet_reader.specs.Sheets.{sheet_of}
use Rattle.sheet_reader.proofs.BodyOrder.{body_apart, new_rule}
use Rattle.sheet_reader.proofs.ClearBodies.{style_within, body_clear}
use Rattle.sheet_reader.proofs.MovedLaw.{moved_holds}

-- the sheet that was taken apart
pub opened_is : (e : SheetEntry) (text : List ℕ) (rules : List RuleForm) → text ≡ e.text → rules ≡ e.reading.rules
    → entry_with e.id e.origin text (reading_with rules e.reading.places e.reading.media) ≡ e
opened_is e text rules is same =
    λ i. record {
      id = e.id;
      origin = e.origin;
      text = is i;
      reading = record { rules = same i; places = e.reading.places; media = e.reading.media };
    }

pub opened_stored : (e : SheetEntry) (text : List ℕ) (rules : List RuleForm) → IsEntry e → IsUtf8 text → text ≡ e.text
    → rules ≡ e.reading.rules → IsStored (entry_with e.id e.origin text (reading_with rules e.reading.places e.reading.media))
opened_stored e text rules own utf8 is same =
    subst IsStored (sym (opened_is e text rules is same)) (record { entry = own; utf8 = subst IsUtf8 is utf8 })

-- what a body that becomes another text asks for, and leaves
pub record BodySet (e : SheetEntry) (k : ℕ) (c : Cut) (put new_text : List ℕ) : Type 0 where
  pub there : k < length e.reading.rules
  pub can : CanRebody c k e.reading.rules
  pub within : All (IsPropertyWithin c.size) (style_of put)
  pub places : All (CanPlace c) e.reading.places
  pub media : All (CanPlaceMedia c) e.reading.media
  pub read : sheet_of new_text ≡ reading_with (moved_rules c (style_of put) k e.reading.rules) (map (moved_place c) e.reading.places)
      (map (placed_media (moved_place c)) e.reading.media)
  pub stored : IsStored (retold new_text e)
  pub own : IsSomeAnd (slice_get (moved_rules c (style_of put) k e.reading.rules) k) (HasBody (range c.start (c.start + length put)))

replaced_over : (text put : List ℕ) (r : Range) → length put ≤ length (replaced text r put)
replaced_over text put r =
    omega (arith, length-append (take r.start text) (put ++ drop r.end text), length-append put (drop r.end text))

-- of the text of a sheet with this reading
body_of : (text put : List ℕ) (k : ℕ) (r : RuleForm) (e : SheetEntry) → e.text ≡ text → e.reading ≡ sheet_of text → IsStored e
    → slice_get (sheet_of text).rules k ≡ Some r → IsUtf8 (replaced text r.body put) → length (replaced text r.body put) ≤ max_sheet_bytes
    → is_sealed put ≡ true → BodySet e k (body_cut r (length put)) put (replaced text r.body put)
body_of text put k r e text_is read own there new_utf8 short sealed =
    let n = length put in
    let c = body_cut r n in
    let ps = style_of put in
    let old_short : length text ≤ max_sheet_bytes = subst (λ (t : List ℕ). length t ≤ max_sheet_bytes) text_is own.entry.short in
    let over = replaced_over text put r.body in
    let small : length text + n + length text < number_limit = omega (arith, old_short, over, short) in
    let clear = body_clear text k r ps n there (style_within put) (omega (arith, small)) in
    let utf8 : IsUtf8 text = subst IsUtf8 text_is own.utf8 in
    let is = moved_holds text put k r there sealed ∙ ap (moved_by (sheet_of text) k ps n) there in
    record {
      there = subst (λ (s : Sheet). k < length s.rules) (sym read) (slice_get_within (sheet_of text).rules k r there);
      can = subst (λ (s : Sheet). CanRebody c k s.rules) (sym read) (body_apart text put k r utf8 new_utf8 sealed there small);
      within = style_within put;
      places = subst (λ (s : Sheet). All (CanPlace c) s.places) (sym read) clear.places;
      media = subst (λ (s : Sheet). All (CanPlaceMedia c) s.media) (sym read) clear.media;
      read = is ∙ ap (λ (s : Sheet). reading_with (moved_rules c ps k s.rules) (map (moved_place c) s.places)
          (map (placed_media (moved_place c)) s.media)) (sym read);
      stored = record {
        entry = record { read = refl; some = own.entry.some; id = own.entry.id; short = short };
        utf8 = new_utf8;
      };
      own = subst (λ (s : Sheet). IsSomeAnd (slice_get (moved_rules c ps k s.rules) k) (HasBody (range c.start (c.start + c.size))))
          (sym read)
          (subst (λ (o : Option RuleForm). IsSomeAnd o (HasBody (range c.start (c.start + c.size))))
          (sym (new_rule c ps k (sheet_of text).rules r there)) refl);
    }

pub body_set : (e : SheetEntry) (put : List ℕ) (k : ℕ) (body : Range) → IsStored e → IsSomeAnd (slice_get e.reading.rules k) (HasBody body)
    → IsUtf8 (replaced e.text body put) → length (replaced e.text body put) ≤ max_sheet_bytes → is_sealed put ≡ true
    → BodySet e k (cut body.start body.end (length put)) put (replaced e.text body put)
body_set e put k body own has new_utf8 short sealed =
    by (slice_get (sheet_of e.text).rules k) refl (subst (λ (s : Sheet). IsSomeAnd (slice_get s.rules k) (HasBody body)) own.entry.read has)
  where
    by : (o : Option RuleForm) → slice_get (sheet_of e.text).rules k ≡ o → IsSomeAnd o (HasBody body)
        → BodySet e k (cut body.start body.end (length put)) put (replaced e.text body put)
    by None there has = absurd has
    by (Some r) there has =
        subst (λ (b : Range). BodySet e k (cut b.start b.end (length put)) put (replaced e.text b put)) has
        (body_of e.text put k r e refl own.entry.read own there (subst (λ (b : Range). IsUtf8 (replaced e.text b put)) (sym has) new_utf8)
        (subst (λ (b : Range). length (replaced e.text b put) ≤ max_sheet_bytes) (sym has) short) sealed)

-- the same of the sheet as it was taken apart, whose text is edited in place
pub set_asks : (v e : SheetEntry) (put new_text : List ℕ) (n k : ℕ) (body : Range) → v ≡ e → IsStored v
    → IsSomeAnd (slice_get e.reading.rules k) (HasBody body) → is_sealed put ≡ true
    → length (replaced e.text body put) ≤ max_sheet_bytes → n ≡ length put → new_text ≡ replaced v.text body put → IsUtf8 new_text
    → BodySet v k (cut body.start body.end n) put (replaced v.text body put)
set_asks v e put new_text n k body same own has sealed short size is utf8 =
    subst (λ (m : ℕ). BodySet v k (cut body.start body.end m) put (replaced v.text body put)) (sym size)
    (body_set v put k body own (subst (λ (x : SheetEntry). IsSomeAnd (slice_get x.reading.rules k) (HasBody body)) (sym same) has)
    (subst IsUtf8 is utf8) (subst (λ (x : SheetEntry). length (replaced x.text body put) ≤ max_sheet_bytes) (sym same) short) sealed)

-- what is left is that sheet
pub set_is : (e : SheetEntry) (k : ℕ) (c : Cut) (put new_text text : List ℕ) (rules : List RuleForm) (places : List ℕ)
    (media : List MediaRule) → BodySet e k c put new_text → text ≡ new_text → rules ≡ moved_rules c (style_of put) k e.reading.rules
    → places ≡ map (moved_place c) e.reading.places → media ≡ map (placed_media (moved_place c)) e.reading.media
    → entry_with e.id e.origin text (reading_with rules places media) ≡ retold new_text e
set_is e k c put new_text text rules places media s is rules_are places_are media_are =
    (λ i. entry_with e.id e.origin (is i) (reading_with (rules_are i) (places_are i) (media_are i)))
    ∙ ap (entry_with e.id e.origin new_text) (sym s.read)
