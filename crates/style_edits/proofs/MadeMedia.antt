-- After an edit of a media rule's prelude that media rule is at the place that is answered.
use Rattle.std.proofs.Common.{◌≡◌, ℕ, suc, ◌+◌, Bool, true, false, cond, All, List, [], ◌∷◌, ◌++◌, map, length}
use Rattle.std.proofs.Common.{Option, Some, None, Ok, Err, refl, sym, ap, subst, ◌∙◌, arith}
use Rattle.std.specs.Prelude.{slice_get, option_and_then, IsSome, IsSomeAnd}
use Rattle.std.specs.Str.{IsUtf8}
use Rattle.std.specs.List.{find}
use Rattle.css_tokens.specs.declared.token.Range.{Range}
use Rattle.node_tree.specs.declared.origins.Origin.{Origin}
use Rattle.node_tree.specs.declared.origins.Origin.TheVariants as origins
use Rattle.sheet_reader.specs.declared.book.SheetEntry.{SheetEntry}
use Rattle.sheet_reader.specs.declared.sheet.MediaRule.{MediaRule}
use Rattle.sheet_reader.specs.Books.{IsStored, entry_of}
use Rattle.sheet_reader.specs.Forms.{range}
use Rattle.sheet_reader.specs.Preludes.{KeepsMedia, spaces_at}
use Rattle.sheet_reader.specs.Sealing.{is_sealed_prelude}
use Rattle.sheet_reader.specs.Sheets.{sheet_of}
use Rattle.sheet_reader.proofs.NewMedia.{media_stays}
use Rattle.style_edits.specs.declared.faults.SheetFault.TheVariants.{BadText, TooBig}
use Rattle.style_edits.specs.declared.lines.LineRange.{LineRange}
use Rattle.style_edits.specs.declared.splice.Splice.{Splice}
use Rattle.style_edits.specs.Splices.{spliced, spliced_entry, back_in, after_splice}
use Rattle.style_edits.specs.Edits.{Found, is_at, splice_at, mutable, client_by, found_by}
use Rattle.style_edits.specs.MediaEdits.{media_at, media_by, media_in, media_splice, media_place_by, edited_media}
use Rattle.style_edits.specs.MediaEdits.{media_rule_at}
use Rattle.style_edits.specs.MediaEdits.{made_media, MakesMedia}
use Rattle.style_edits.proofs.BookForms.{entry_again}
use Rattle.style_edits.proofs.FoundForms.{stored_of, media_splice_found}
use Rattle.style_edits.proofs.SpliceForms.{made, stored_after}

-- the splice puts a sealed text in the place of the prelude of media rule k of its sheet
record Remedia (book : List SheetEntry) (text : List ℕ) (s : Splice) : Type 0 where
  sheet : SheetEntry
  found : entry_of s.sheet book ≡ Some sheet
  k : ℕ
  rule : MediaRule
  there : slice_get (sheet_of sheet.text).media k ≡ Some rule
  prelude : rule.prelude ≡ range s.start s.end
  own : s.text ≡ spaces_at sheet.text s.start ++ text
  sealed : is_sealed_prelude text ≡ true

-- one of these media rules has this prelude
record HasOne (rules : List MediaRule) (prelude : Range) : Type 0 where
  k : ℕ
  rule : MediaRule
  there : slice_get rules k ≡ Some rule
  own : rule.prelude ≡ prelude

find_media : (p : Range → Bool) (rules : List MediaRule) (prelude : Range) → find p (map (λ m. m.prelude) rules) ≡ Some prelude
    → HasOne rules prelude
find_media p [] prelude e = absurd (cc)
find_media p (x ∷ rules) prelude e = by (p x.prelude) e (λ h. find_media p rules prelude h)
  where
    by : (b : Bool) → cond b (Some x.prelude) (find p (map (λ m. m.prelude) rules)) ≡ Some prelude
        → (find p (map (λ m. m.prelude) rules) ≡ Some prelude → HasOne rules prelude) → HasOne (x ∷ rules) prelude
    by true h rest = let same : x.prelude ≡ prelude = cc in record { k = 0; rule = x; there = refl; own = same }
    by false h rest = let o = rest h in record { k = suc o.k; rule = o.rule; there = o.there; own = o.own }

media_remedia : (id : ℕ) (lines : LineRange) (text : List ℕ) (book : List SheetEntry) (s : Splice)
    → media_splice id lines text book ≡ Ok s → Remedia book text s
media_remedia id lines text book s h = by (entry_of id book) refl h
  where
    put : (e : SheetEntry) (part : Range) (b c : Bool) → entry_of id book ≡ Some e → HasOne (sheet_of e.text).media part
        → is_sealed_prelude text ≡ b
        → ◌≡◌ {A = Found} (cond b (cond c (Ok (splice_at e part (spaces_at e.text part.start ++ text))) (Err TooBig)) (Err BadText)) (Ok s)
        → Remedia book text s
    put e part false c found one sealed k = absurd (cc)
    put e part true false found one sealed k = absurd (cc)
    put e part true true found one sealed k =
        let same : splice_at e part (spaces_at e.text part.start ++ text) ≡ s = cc in
        subst (Remedia book text) same (record {
          sheet = e;
          found = entry_again id book e found;
          k = one.k;
          rule = one.rule;
          there = one.there;
          prelude = one.own;
          own = refl;
          sealed = sealed;
        })

    part_by : (e : SheetEntry) (o : Option Range) → entry_of id book ≡ Some e → media_at e.text lines ≡ o → media_by text e o ≡ Ok s
        → Remedia book text s
    part_by e None found is k = absurd (cc)
    part_by e (Some part) found is k =
        put e part (is_sealed_prelude text) _ found (find_media (is_at e.text lines) (sheet_of e.text).media part is) refl k

    at : (e : SheetEntry) (origin : Origin) → entry_of id book ≡ Some e → found_by (media_in lines text) (mutable e origin) ≡ Ok s
        → Remedia book text s
    at e origins.UserAgent found k = absurd (cc)
    at e origins.Regular found k = part_by e (media_at e.text lines) found refl k

    by : (o : Option SheetEntry) → entry_of id book ≡ o → found_by (media_in lines text) (client_by o) ≡ Ok s → Remedia book text s
    by None found k = absurd (cc)
    by (Some e) found k = at e e.origin found k

pub media_made : (id : ℕ) (lines : LineRange) (text : List ℕ) → IsUtf8 text → (book : List SheetEntry) (s : Splice) → All IsStored book
    → media_splice id lines text book ≡ Ok s → MakesMedia book s
media_made id lines text utf8 book s all h =
    let m = media_remedia id lines text book s h in
    let d = made s book m.sheet m.found in
    let takes = media_splice_found id lines text book s all utf8 h in
    let next = after_splice s book in
    let entry : entry_of s.sheet next ≡ Some (spliced_entry s m.sheet) = ap (entry_of s.sheet) d.after ∙ d.there in
    let stored = stored_of s.sheet next (spliced_entry s m.sheet) entry (stored_after s book takes all) in
    let new = spliced m.sheet.text s.start s.end s.text in
    let keeps : KeepsMedia m.k (s.start + length s.text) (sheet_of new).media =
    subst (λ (put : List ℕ). IsUtf8 (spliced m.sheet.text s.start s.end put)
    → KeepsMedia m.k (s.start + length put) (sheet_of (spliced m.sheet.text s.start s.end put)).media) (sym m.own)
    (subst (λ (part : Range). IsUtf8 (spliced m.sheet.text part.start part.end (spaces_at m.sheet.text part.start ++ text))
    → KeepsMedia m.k (part.start + length (spaces_at m.sheet.text part.start ++ text))
    (sheet_of (spliced m.sheet.text part.start part.end (spaces_at m.sheet.text part.start ++ text))).media) m.prelude
    (λ whole. media_stays m.sheet.text text m.k m.rule m.there m.sealed whole)) stored.utf8 in
    let back = back_in s m.sheet in
    let last = keeps.last in
    let answered : edited_media next back ≡ m.k = ap (media_place_by back) entry ∙ omega (arith, last) in
    record {
      own = subst (λ (o : Option MediaRule). IsSomeAnd o (λ (x : MediaRule). x.prelude ≡ range s.start s.end))
          (sym (ap (λ (b : Splice). media_rule_at book s.sheet (edited_media next b)) d.back ∙ ap (media_rule_at book s.sheet) answered
          ∙ ap (option_and_then (λ (x : SheetEntry). slice_get (sheet_of x.text).media m.k)) m.found ∙ m.there)) m.prelude;
      there = subst (λ (o : Option MediaRule). IsSome o)
          (sym (ap (made_media next) d.back ∙ ap (media_rule_at next s.sheet) answered
          ∙ ap (option_and_then (λ (x : SheetEntry). slice_get (sheet_of x.text).media m.k)) entry)) keeps.there;
    }
