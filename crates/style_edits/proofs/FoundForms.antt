-- What an edit finds can be made, and the splices that edits answer lead back.
use Rattle.std.proofs.Common.{◌≡◌, ℕ, ◌≤◌, ◌^◌, nat_le, nat_eq, Bool, true, false, cond, List, [], ◌∷◌, ◌++◌, length, All, Option, Some}
use Rattle.std.proofs.Common.{lit<, None, Ok, Err, refl, sym, ap, subst, ◌∙◌, arith}
use Rattle.std.specs.Prelude.{IfSome, is_some, reverse}
use Rattle.std.specs.Str.{IsUtf8}
use Rattle.std.specs.List.{find}
use Rattle.std.proofs.lemmas.Str.{IsUtf8-append, IsUtf8-nil, IsUtf8-from_ascii}
use Rattle.std.proofs.lemmas.Str.Ascii.{IsAscii-cons, IsAscii-nil}
use Rattle.css_tokens.specs.declared.token.Token.{Token}
use Rattle.css_tokens.specs.Pieces.{pieces}
use Rattle.selectors.specs.Words.{between}
use Rattle.std.proofs.lemmas.Bool.Decides.{nat_tests}
use Rattle.std.proofs.lemmas.List.{reverse-append}
use Rattle.std.proofs.lemmas.List.Elements.{All-head, All-tail}
use Rattle.css_tokens.specs.declared.token.Range.{Range}
use Rattle.selectors.specs.Ranges.{IsRangeOf}
use Rattle.selectors.specs.Reading.{selectors_of}
use Rattle.node_tree.specs.declared.origins.Origin.{Origin}
use Rattle.node_tree.specs.declared.origins.Origin.TheVariants as origins
use Rattle.sheet_reader.specs.declared.book.SheetEntry.{SheetEntry}
use Rattle.sheet_reader.specs.declared.lone.LoneRule.{LoneRule}
use Rattle.sheet_reader.specs.declared.lone.LoneRule.TheVariants as lone
use Rattle.sheet_reader.specs.Books.{IsStored, entry_of}
use Rattle.sheet_reader.specs.Sealing.{is_sealed, is_sealed_prelude}
use Rattle.sheet_reader.specs.Lone.{lone_rule}
use Rattle.style_edits.specs.declared.edits.StyleEdit.{StyleEdit}
use Rattle.style_edits.specs.declared.faults.SheetFault.{SheetFault}
use Rattle.style_edits.specs.declared.faults.SheetFault.TheVariants.{BadText, BadSelector, TooBig}
use Rattle.style_edits.specs.declared.lines.LineRange.{LineRange}
use Rattle.style_edits.specs.declared.splice.Splice.{Splice}
use Rattle.style_edits.specs.Splices.{spliced, after_splice, back_splice, after_splices, TakesSplice}
use Rattle.style_edits.specs.Edits.{HasText, Found, EditsOutcome, splice_at, placed_text, body_at, prelude_at, place_at, style_by, style_in}
use Rattle.style_edits.specs.Edits.{selector_by, selector_in, whole_range, text_in, put_by, added_by, rule_in, mutable, client_by}
use Rattle.style_edits.specs.Edits.{client_sheet, found_by, style_splice, selector_splice, text_splice, rule_splice, edited, with_back}
use Rattle.style_edits.specs.Edits.{go_on, styles_edited}
use Rattle.sheet_reader.specs.Preludes.{ends_keyword, takes_space, spaces_by, spaces_at}
use Rattle.style_edits.specs.MediaEdits.{media_at, media_by, media_in, media_splice}
use Rattle.style_edits.proofs.BookForms.{entry_again}
use Rattle.style_edits.proofs.LineForms.{body_range, prelude_range, place_range, media_range, whole_usable}
use Rattle.style_edits.proofs.SpliceForms.{leads_back, stored_after}

no_splice : (f : SheetFault) (s : Splice) → ◌≡◌ {A = Found} (Err f) (Ok s) → ⊥
no_splice f s e = absurd (cc)

pub stored_of : (id : ℕ) (book : List SheetEntry) (e : SheetEntry) → entry_of id book ≡ Some e → All IsStored book → IsStored e
stored_of id [] e h all = let wrong : ◌≡◌ {A = Option SheetEntry} None (Some e) = h in absurd (cc)
stored_of id (x ∷ book) e h all = by (nat_eq id x.id) h (All-head IsStored x book all)
    (λ k. stored_of id book e k (All-tail IsStored x book all))
  where
    by : (b : Bool) → cond b (Some x) (entry_of id book) ≡ Some e → IsStored x → (entry_of id book ≡ Some e → IsStored e) → IsStored e
    by true k own rest = let same : x ≡ e = cc in subst IsStored same own
    by false k own rest = rest k

-- a text that goes into the place of a part
placed_takes : (book : List SheetEntry) (e : SheetEntry) (part : Range) (text : List ℕ) (s : Splice) → entry_of e.id book ≡ Some e
    → IsStored e → IsRangeOf e.text part → IsUtf8 text → placed_text e part text ≡ Ok s → TakesSplice s book
placed_takes book e part text s found stored r utf8 h = by (nat_le (length (spliced e.text part.start part.end text)) (2 ^ 24)) refl h
  where
    short : nat_le (length (spliced e.text part.start part.end text)) (2 ^ 24) ≡ true
        → length (spliced e.text part.start part.end text) ≤ 2 ^ 24
    short is = grind (arith, nat_tests, is)

    by : (b : Bool) → nat_le (length (spliced e.text part.start part.end text)) (2 ^ 24) ≡ b
        → ◌≡◌ {A = Found} (cond b (Ok (splice_at e part text)) (Err TooBig)) (Ok s) → TakesSplice s book
    by true is k =
        let same : splice_at e part text ≡ s = cc in
        let own : TakesSplice (splice_at e part text) book = record {
          sheet = e;
          found = found;
          stored = stored;
          fits = record { is = r; short = short is };
          text = utf8;
        } in
        subst (λ (x : Splice). TakesSplice x book) same own
    by false is k = absurd (no_splice TooBig s k)

pub sealed_takes : (b : Bool) (rest : Found) (f : SheetFault) (s : Splice) → ◌≡◌ {A = Found} (cond b rest (Err f)) (Ok s) → rest ≡ Ok s
sealed_takes true rest f s e = e
sealed_takes false rest f s e = absurd (no_splice f s e)

-- what an edit of one sheet finds can be made
abbrev Takes : (SheetEntry → Found) → Type 0
Takes edit = (book : List SheetEntry) (e : SheetEntry) (s : Splice) → entry_of e.id book ≡ Some e → IsStored e → edit e ≡ Ok s
    → TakesSplice s book

style_takes : (x : StyleEdit) → IsUtf8 x.text → Takes (style_in x)
style_takes x utf8 book e s found stored h = by (body_at e.text x.range)
    (body_range e x.range (body_at e.text x.range) stored.utf8 refl) h
  where
    by : (o : Option Range) → IfSome o (IsRangeOf e.text) → style_by x e o ≡ Ok s → TakesSplice s book
    by None r k = absurd (cc)
    by (Some part) r k = placed_takes book e part x.text s found stored r utf8
        (sealed_takes (is_sealed x.text) (placed_text e part x.text) BadText s k)

selector_takes : (lines : LineRange) (text : List ℕ) → IsUtf8 text → Takes (selector_in lines text)
selector_takes lines text utf8 book e s found stored h = by (prelude_at e.text lines)
    (prelude_range e lines (prelude_at e.text lines) stored.utf8 refl) h
  where
    by : (o : Option Range) → IfSome o (IsRangeOf e.text) → selector_by text e o ≡ Ok s → TakesSplice s book
    by None r k = absurd (cc)
    by (Some part) r k =
        let inside = sealed_takes (is_sealed text)
        (cond (is_some (selectors_of text)) (placed_text e part text) (Err BadSelector)) BadText s k in
        placed_takes book e part text s found stored r utf8
        (sealed_takes (is_some (selectors_of text)) (placed_text e part text) BadSelector s inside)

text_takes : (text : List ℕ) → IsUtf8 text → Takes (text_in text)
text_takes text utf8 book e s found stored h = placed_takes book e (whole_range e.text) text s found stored
    (whole_usable e.text e.text (whole_range e.text) refl stored.utf8 refl) utf8 h

rule_takes : (lines : LineRange) (text : List ℕ) → IsUtf8 text → Takes (rule_in lines text)
rule_takes lines text utf8 book e s found stored h =
    by (lone_rule text) (place_at e.text lines) (place_range e lines (place_at e.text lines) stored.utf8 refl)
    (sealed_takes (is_sealed text) (added_by text e (place_at e.text lines) (lone_rule text)) BadText s h)
  where
    put : (o : Option Range) → IfSome o (IsRangeOf e.text) → put_by text e o ≡ Ok s → TakesSplice s book
    put None r k = absurd (cc)
    put (Some part) r k = placed_takes book e part text s found stored r utf8 k

    by : (l : LoneRule) (o : Option Range) → IfSome o (IsRangeOf e.text) → added_by text e o l ≡ Ok s → TakesSplice s book
    by lone.Other o r k = absurd (cc)
    by lone.Dropped o r k = absurd (cc)
    by lone.Style o r k = put o r k

-- what goes before the text is one or two spaces, or nothing
spaces_utf8 : (text : List ℕ) (place : ℕ) → IsUtf8 (spaces_at text place)
spaces_utf8 text place = by (find (ends_keyword place) (pieces text))
  where
    behind : (b : Bool) → IsUtf8 (cond b (32 ∷ 32 ∷ []) (32 ∷ []))
    behind true = IsUtf8-from_ascii (32 ∷ 32 ∷ []) (IsAscii-cons 32 (32 ∷ []) (lit< tt) (IsAscii-cons 32 [] (lit< tt) IsAscii-nil))
    behind false = IsUtf8-from_ascii (32 ∷ []) (IsAscii-cons 32 [] (lit< tt) IsAscii-nil)

    by : (o : Option Token) → IsUtf8 (spaces_by text o)
    by None = IsUtf8-nil
    by (Some t) = behind (takes_space (between text t.start t.end))

media_takes : (lines : LineRange) (text : List ℕ) → IsUtf8 text → Takes (media_in lines text)
media_takes lines text utf8 book e s found stored h = by (media_at e.text lines)
    (media_range e lines (media_at e.text lines) stored.utf8 refl) h
  where
    by : (o : Option Range) → IfSome o (IsRangeOf e.text) → media_by text e o ≡ Ok s → TakesSplice s book
    by None r k = absurd (cc)
    by (Some part) r k = placed_takes book e part (spaces_at e.text part.start ++ text) s found stored r
        (IsUtf8-append (spaces_at e.text part.start) text (spaces_utf8 e.text part.start) utf8)
        (sealed_takes (is_sealed_prelude text) (placed_text e part (spaces_at e.text part.start ++ text)) BadText s k)

-- and so what it finds in a book
client_takes : (edit : SheetEntry → Found) (id : ℕ) (book : List SheetEntry) (s : Splice) → Takes edit → All IsStored book
    → found_by edit (client_sheet id book) ≡ Ok s → TakesSplice s book
client_takes edit id book s takes all h = by (entry_of id book) refl h
  where
    at : (e : SheetEntry) (origin : Origin) → entry_of id book ≡ Some e → found_by edit (mutable e origin) ≡ Ok s → TakesSplice s book
    at e origins.UserAgent found k = absurd (cc)
    at e origins.Regular found k = takes book e s (entry_again id book e found) (stored_of id book e found all) k

    by : (o : Option SheetEntry) → entry_of id book ≡ o → found_by edit (client_by o) ≡ Ok s → TakesSplice s book
    by None found k = absurd (cc)
    by (Some e) found k = at e e.origin found k

pub style_found : (x : StyleEdit) (book : List SheetEntry) (s : Splice) → All IsStored book → IsUtf8 x.text → style_splice x book ≡ Ok s
    → TakesSplice s book
style_found x book s all utf8 h = client_takes (style_in x) x.sheet book s (style_takes x utf8) all h

pub selector_found : (id : ℕ) (lines : LineRange) (text : List ℕ) (book : List SheetEntry) (s : Splice) → All IsStored book → IsUtf8 text
    → selector_splice id lines text book ≡ Ok s → TakesSplice s book
selector_found id lines text book s all utf8 h = client_takes (selector_in lines text) id book s (selector_takes lines text utf8) all h

pub text_found : (id : ℕ) (text : List ℕ) (book : List SheetEntry) (s : Splice) → All IsStored book → IsUtf8 text
    → text_splice id text book ≡ Ok s → TakesSplice s book
text_found id text book s all utf8 h = client_takes (text_in text) id book s (text_takes text utf8) all h

pub rule_found : (id : ℕ) (lines : LineRange) (text : List ℕ) (book : List SheetEntry) (s : Splice) → All IsStored book → IsUtf8 text
    → rule_splice id lines text book ≡ Ok s → TakesSplice s book
rule_found id lines text book s all utf8 h = client_takes (rule_in lines text) id book s (rule_takes lines text utf8) all h

pub media_splice_found : (id : ℕ) (lines : LineRange) (text : List ℕ) (book : List SheetEntry) (s : Splice) → All IsStored book
    → IsUtf8 text → media_splice id lines text book ≡ Ok s → TakesSplice s book
media_splice_found id lines text book s all utf8 h = client_takes (media_in lines text) id book s (media_takes lines text utf8) all h

-- ---- edits one after the other

splices_append : (ss ts : List Splice) (book : List SheetEntry) → after_splices (ss ++ ts) book ≡ after_splices ts (after_splices ss book)
splices_append [] ts book = refl
splices_append (s ∷ ss) ts book = splices_append ss ts (after_splice s book)

pub styles_back : (xs : List StyleEdit) (book new : List SheetEntry) (backs : List Splice) → All IsStored book → All HasText xs
    → styles_edited xs book ≡ Ok (new, backs) → after_splices (reverse backs) new ≡ book
unfolding styles_edited
styles_back [] book new backs all texts h =
    let same : ◌≡◌ {A = List SheetEntry × List Splice} (book, []) (new, backs) = cc in
    ap (λ (p : List SheetEntry × List Splice). after_splices (reverse p.1) p.0) (sym same)
styles_back (x ∷ xs) book new backs all texts h =
    by (style_splice x book) refl h (λ next b stored e. styles_back xs next new b stored (All-tail HasText x xs texts) e)
  where
    rest_back : (s : Splice) → TakesSplice s book → (o : EditsOutcome) → styles_edited xs (after_splice s book) ≡ o
        → with_back (back_splice s book) o ≡ Ok (new, backs)
        → ((b : List Splice) → styles_edited xs (after_splice s book) ≡ Ok (new, b) → after_splices (reverse b) new ≡ after_splice s book)
        → after_splices (reverse backs) new ≡ book
    rest_back s takes (Err f) is k more = absurd (cc)
    rest_back s takes (Ok r) is k more =
        let same : ◌≡◌ {A = List SheetEntry × List Splice} (r.0, back_splice s book ∷ r.1) (new, backs) = cc in
        let book_is = ap (λ (p : List SheetEntry × List Splice). p.0) same in
        let backs_is = ap (λ (p : List SheetEntry × List Splice). p.1) same in
        let ends = more r.1 (is ∙ ap (λ (b : List SheetEntry). done b r.1) book_is) in
        ap (λ (bs : List Splice). after_splices (reverse bs) new) (sym backs_is)
        ∙ ap (λ (bs : List Splice). after_splices bs new) (reverse-append (back_splice s book ∷ []) r.1)
        ∙ splices_append (reverse r.1) (back_splice s book ∷ []) new
        ∙ ap (λ (b : List SheetEntry). after_splice (back_splice s book) b) ends
        ∙ leads_back s book takes
      where
        done : List SheetEntry → List Splice → EditsOutcome
        done b bs = Ok (b, bs)

    by : (found : Found) → style_splice x book ≡ found → go_on (edited book found) (λ next. styles_edited xs next) ≡ Ok (new, backs)
        → ((next : List SheetEntry) (b : List Splice) → All IsStored next → styles_edited xs next ≡ Ok (new, b)
        → after_splices (reverse b) new ≡ next) → after_splices (reverse backs) new ≡ book
    by (Err f) is k more = absurd (cc)
    by (Ok s) is k more =
        let takes = style_found x book s all (All-head HasText x xs texts) is in
        rest_back s takes (styles_edited xs (after_splice s book)) refl k
        (λ b e. more (after_splice s book) b (stored_after s book takes all) e)
