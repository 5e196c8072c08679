-- What is said of the media rules around a rule of a sheet, and their preludes as parts of its text.
use Rattle.std.proofs.Common.{◌≡◌, ℕ, ◌≤◌, Bool, true, List, [], ◌∷◌, map, length, Some, All, sym, ap, subst, ◌∙◌}
use Rattle.std.specs.List.{slice_get}
use Rattle.std.specs.Str.{IsUtf8}
use Rattle.std.proofs.lemmas.Option.{slice_get_within, get_or_from_slice_get}
use Rattle.std.proofs.lemmas.List.Elements.{All-nil, All-cons, All-get_or}
use Rattle.selectors.specs.Ranges.{IsRangeOf, AreBetween}
use Rattle.sheet_reader.specs.declared.sheet.MediaRule.{MediaRule}
use Rattle.sheet_reader.specs.declared.sheet.Sheet.{Sheet}
use Rattle.sheet_reader.specs.declared.book.SheetEntry.{SheetEntry}
use Rattle.sheet_reader.specs.Forms.{RuleForm}
use Rattle.sheet_reader.specs.Sheets.{sheet_of}
use Rattle.sheet_reader.specs.Around.{IsBelow, AllHold, held_at}
use Rattle.sheet_reader.proofs.AroundForms.{held_right, sheet_there}
use Rattle.sheet_reader.proofs.UsableForms.{sheet_usable}
use Rattle.media_rules.specs.declared.medium.Medium.{Medium}
use Rattle.cascade_match.specs.MediaHeld.{media_holds, media_held}

module _ (m : Medium) (text : List ℕ) (i : ℕ) (r : RuleForm) (at : slice_get (sheet_of text).rules i ≡ Some r) where
  -- the media rule around a rule of a sheet is there
  rule_there : IsBelow (length (sheet_of text).media) r.media
  rule_there =
      let rs = (sheet_of text).rules in
      let P : RuleForm → Type 0 = λ x. IsBelow (length (sheet_of text).media) x.media in
      subst P (get_or_from_slice_get rs i r r at) (All-get_or P rs i r (slice_get_within rs i r at) (sheet_there text).rules)

  pub held-all : held_at (media_held m text) r.media ≡ true → AllHold (media_holds text m) (sheet_of text).media r.media
  held-all said = (held_right (media_holds text m) (sheet_of text).media r.media (sheet_there text).media rule_there).0 said

  pub all-held : AllHold (media_holds text m) (sheet_of text).media r.media → held_at (media_held m text) r.media ≡ true
  all-held all = (held_right (media_holds text m) (sheet_of text).media r.media (sheet_there text).media rule_there).1 all

between-each : (text : List ℕ) (from to : ℕ) (ms : List MediaRule) → AreBetween text from to (map (λ r. r.prelude) ms)
    → All (λ r. IsRangeOf text r.prelude) ms
between-each text from to [] between = All-nil (λ (r : MediaRule). IsRangeOf text r.prelude)
between-each text from to (r ∷ ms) between =
    All-cons (λ (x : MediaRule). IsRangeOf text x.prelude) r ms between.1 (between-each text r.prelude.end to ms between.2)

-- the preludes of the media rules of a text can be cut out of it
pub preludes-cut : (text : List ℕ) → IsUtf8 text → All (λ r. IsRangeOf text r.prelude) (sheet_of text).media
preludes-cut text utf8 = between-each text 0 (length text) (sheet_of text).media (sheet_usable text utf8).media

-- those of the media rules of an entry, whose reading is that of its text
pub entry-cut : (e : SheetEntry) (text : List ℕ) (media : List MediaRule) → text ≡ e.text → media ≡ e.reading.media
    → e.reading ≡ sheet_of e.text → IsUtf8 text → All (λ r. IsRangeOf text r.prelude) media
entry-cut e text media is said read utf8 =
    subst (λ (ms : List MediaRule). All (λ r. IsRangeOf text r.prelude) ms)
    (sym (said ∙ ap (λ (s : Sheet). s.media) read ∙ ap (λ (t : List ℕ). (sheet_of t).media) (sym is))) (preludes-cut text utf8)
