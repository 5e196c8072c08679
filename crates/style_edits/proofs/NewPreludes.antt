-- The style rule whose prelude an edit made is there.
use Rattle.std.proofs.Common.{◌≡◌, ℕ, suc, ◌+◌, Bool, true, false, cond, All, List, [], ◌∷◌, map, length}
use Rattle.std.proofs.Common.{Option, Some, None, Ok, Err, refl, sym, ap, subst, ◌∙◌}
use Rattle.std.specs.Prelude.{slice_get, is_some, IsSomeAnd}
use Rattle.std.specs.Str.{IsUtf8}
use Rattle.std.specs.List.{find}
use Rattle.css_tokens.specs.declared.token.Range.{Range}
use Rattle.selectors.specs.Forms.{SelectorForm}
use Rattle.selectors.specs.Reading.{selectors_of}
use Rattle.node_tree.specs.declared.origins.Origin.{Origin}
use Rattle.node_tree.specs.declared.origins.Origin.TheVariants as origins
use Rattle.sheet_reader.specs.declared.book.SheetEntry.{SheetEntry}
use Rattle.sheet_reader.specs.Books.{IsStored, entry_of}
use Rattle.sheet_reader.specs.Forms.{range, RuleForm}
use Rattle.sheet_reader.specs.Preludes.{BeginsIn, HasPreludeIn}
use Rattle.sheet_reader.specs.Sealing.{is_sealed}
use Rattle.sheet_reader.specs.Sheets.{sheet_of}
use Rattle.sheet_reader.proofs.MadePreludes.{prelude_there}
use Rattle.style_edits.specs.declared.faults.SheetFault.TheVariants.{BadText, BadSelector, TooBig}
use Rattle.style_edits.specs.declared.lines.LineRange.{LineRange}
use Rattle.style_edits.specs.declared.splice.Splice.{Splice}
use Rattle.style_edits.specs.Splices.{spliced, spliced_entry, after_splice}
use Rattle.style_edits.specs.Edits.{Found, is_at, splice_at, prelude_at, placed_text, selector_by, selector_in, mutable, client_by}
use Rattle.style_edits.specs.Edits.{found_by}
use Rattle.style_edits.specs.Edits.{selector_splice}
use Rattle.style_edits.specs.EditedRules.{rules_before, new_range, MakesPrelude}
use Rattle.style_edits.proofs.BookForms.{entry_again}
use Rattle.style_edits.proofs.SpliceForms.{made, stored_after}
use Rattle.style_edits.proofs.FoundForms.{stored_of, selector_found}
use Rattle.style_edits.proofs.MadeRules.{made_at}

-- the splice puts a sealed list of selectors in the place of the prelude of rule k of its sheet
record Repreludes (book : List SheetEntry) (text : List ℕ) (s : Splice) : Type 0 where
  sheet : SheetEntry
  found : entry_of s.sheet book ≡ Some sheet
  k : ℕ
  rule : RuleForm
  there : slice_get (sheet_of sheet.text).rules k ≡ Some rule
  prelude : rule.prelude ≡ range s.start s.end
  own : s.text ≡ text
  sealed : is_sealed text ≡ true
  ss : List SelectorForm
  listed : selectors_of text ≡ Some ss

-- one of these rules has this prelude
record HasOne (rules : List RuleForm) (prelude : Range) : Type 0 where
  k : ℕ
  rule : RuleForm
  there : slice_get rules k ≡ Some rule
  own : rule.prelude ≡ prelude

find_prelude : (p : Range → Bool) (rules : List RuleForm) (prelude : Range) → find p (map (λ r. r.prelude) rules) ≡ Some prelude
    → HasOne rules prelude
find_prelude p [] prelude e = absurd (cc)
find_prelude p (x ∷ rules) prelude e = by (p x.prelude) e (λ h. find_prelude p rules prelude h)
  where
    by : (b : Bool) → cond b (Some x.prelude) (find p (map (λ r. r.prelude) rules)) ≡ Some prelude
        → (find p (map (λ r. r.prelude) rules) ≡ Some prelude → HasOne rules prelude) → HasOne (x ∷ rules) prelude
    by true h rest = let same : x.prelude ≡ prelude = cc in record { k = 0; rule = x; there = refl; own = same }
    by false h rest = let o = rest h in record { k = suc o.k; rule = o.rule; there = o.there; own = o.own }

selector_repreludes : (id : ℕ) (lines : LineRange) (text : List ℕ) (book : List SheetEntry) (s : Splice)
    → selector_splice id lines text book ≡ Ok s → Repreludes book text s
selector_repreludes id lines text book s h = by (entry_of id book) refl h
  where
    put : (e : SheetEntry) (part : Range) (c : Bool) (ss : List SelectorForm) → entry_of id book ≡ Some e
        → HasOne (sheet_of e.text).rules part → is_sealed text ≡ true → selectors_of text ≡ Some ss
        → ◌≡◌ {A = Found} (cond c (Ok (splice_at e part text)) (Err TooBig)) (Ok s) → Repreludes book text s
    put e part false ss found one sealed listed k = absurd (cc)
    put e part true ss found one sealed listed k =
        let same : splice_at e part text ≡ s = cc in
        subst (Repreludes book text) same (record {
          sheet = e;
          found = entry_again id book e found;
          k = one.k;
          rule = one.rule;
          there = one.there;
          prelude = one.own;
          own = refl;
          sealed = sealed;
          ss = ss;
          listed = listed;
        })

    listed_by : (e : SheetEntry) (part : Range) (o : Option (List SelectorForm)) → entry_of id book ≡ Some e
        → HasOne (sheet_of e.text).rules part → is_sealed text ≡ true → selectors_of text ≡ o
        → ◌≡◌ {A = Found} (cond (is_some o) (placed_text e part text) (Err BadSelector)) (Ok s) → Repreludes book text s
    listed_by e part None found one sealed is k = absurd (cc)
    listed_by e part (Some ss) found one sealed is k = put e part _ ss found one sealed is k

    sealed_by : (e : SheetEntry) (part : Range) (b : Bool) → entry_of id book ≡ Some e → HasOne (sheet_of e.text).rules part
        → is_sealed text ≡ b
        → ◌≡◌ {A = Found} (cond b (cond (is_some (selectors_of text)) (placed_text e part text) (Err BadSelector)) (Err BadText)) (Ok s)
        → Repreludes book text s
    sealed_by e part false found one sealed k = absurd (cc)
    sealed_by e part true found one sealed k = listed_by e part (selectors_of text) found one sealed refl k

    part_by : (e : SheetEntry) (o : Option Range) → entry_of id book ≡ Some e → prelude_at e.text lines ≡ o
        → selector_by text e o ≡ Ok s → Repreludes book text s
    part_by e None found is k = absurd (cc)
    part_by e (Some part) found is k =
        sealed_by e part (is_sealed text) found (find_prelude (is_at e.text lines) (sheet_of e.text).rules part is) refl k

    at : (e : SheetEntry) (origin : Origin) → entry_of id book ≡ Some e → found_by (selector_in lines text) (mutable e origin) ≡ Ok s
        → Repreludes book text s
    at e origins.UserAgent found k = absurd (cc)
    at e origins.Regular found k = part_by e (prelude_at e.text lines) found refl k

    by : (o : Option SheetEntry) → entry_of id book ≡ o → found_by (selector_in lines text) (client_by o) ≡ Ok s → Repreludes book text s
    by None found k = absurd (cc)
    by (Some e) found k = at e e.origin found k

pub prelude_made : (id : ℕ) (lines : LineRange) (text : List ℕ) → IsUtf8 text → (book : List SheetEntry) (s : Splice)
    → All IsStored book → selector_splice id lines text book ≡ Ok s → MakesPrelude book s
prelude_made id lines text utf8 book s all h =
    let m = selector_repreludes id lines text book s h in
    let d = made s book m.sheet m.found in
    let takes = selector_found id lines text book s all utf8 h in
    let next = after_splice s book in
    let new = stored_of s.sheet next (spliced_entry s m.sheet) (ap (entry_of s.sheet) d.after ∙ d.there) (stored_after s book takes all) in
    let there = subst (λ (part : Range). IsUtf8 (spliced m.sheet.text part.start part.end s.text)
    → HasPreludeIn (range part.start (part.start + length s.text))
    (sheet_of (spliced m.sheet.text part.start part.end s.text)).rules) m.prelude
    (subst (λ (put : List ℕ). IsUtf8 (spliced m.sheet.text m.rule.prelude.start m.rule.prelude.end put)
    → HasPreludeIn (range m.rule.prelude.start (m.rule.prelude.start + length put))
    (sheet_of (spliced m.sheet.text m.rule.prelude.start m.rule.prelude.end put)).rules) (sym m.own)
    (λ whole. prelude_there m.sheet.text text m.k m.rule m.ss m.there m.sealed m.listed whole)) new.utf8 in
    subst (λ (o : Option RuleForm). IsSomeAnd o (BeginsIn (new_range s)))
    (sym (made_at book s m.sheet (rules_before (sheet_of (spliced m.sheet.text s.start s.end s.text)).rules s.start) m.found refl)) there
