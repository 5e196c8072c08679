-- The style rules that edits made are there.
use Rattle.std.proofs.Common.{◌≡◌, ℕ, zero, suc, ◌+◌, nat_eq, Bool, true, false, cond, All, List, [], ◌∷◌, map, length}
use Rattle.std.proofs.Common.{Option, Some, None, Ok, Err, refl, sym, ap, subst, ◌∙◌}
use Rattle.std.specs.Prelude.{slice_get, option_and_then, IsSome, IsSomeAnd}
use Rattle.std.specs.Str.{IsUtf8}
use Rattle.std.specs.List.{find}
use Rattle.std.proofs.lemmas.Bool.{eqb-true}
use Rattle.std.proofs.lemmas.List.Elements.{All-head, All-tail, All-nil, All-cons}
use Rattle.css_tokens.specs.declared.token.Range.{Range}
use Rattle.node_tree.specs.declared.origins.Origin.{Origin}
use Rattle.node_tree.specs.declared.origins.Origin.TheVariants as origins
use Rattle.sheet_reader.specs.declared.book.SheetEntry.{SheetEntry}
use Rattle.sheet_reader.specs.declared.sheet.Property.{Property}
use Rattle.sheet_reader.specs.declared.sheet.Sheet.{Sheet}
use Rattle.selectors.specs.Moves.{Cut, moved_place}
use Rattle.sheet_reader.specs.Books.{IsStored, entry_of, book_changed}
use Rattle.sheet_reader.specs.Declarations.{style_of}
use Rattle.sheet_reader.specs.Forms.{range, RuleForm}
use Rattle.sheet_reader.specs.Moves.{placed_rule, rebodied, moved_rules, body_cut, moved_by}
use Rattle.sheet_reader.specs.Rereads.{HasBody}
use Rattle.sheet_reader.specs.Sealing.{is_sealed}
use Rattle.sheet_reader.specs.Sheets.{sheet_of}
use Rattle.sheet_reader.proofs.MovedLaw.{moved_holds}
use Rattle.style_edits.specs.declared.edits.StyleEdit.{StyleEdit}
use Rattle.style_edits.specs.declared.faults.SheetFault.TheVariants.{BadText, TooBig}
use Rattle.style_edits.specs.declared.rule_places.RulePlace.{RulePlace}
use Rattle.style_edits.specs.declared.splice.Splice.{Splice}
use Rattle.style_edits.specs.Splices.{spliced, spliced_entry, back_in, after_splice, back_splice}
use Rattle.style_edits.specs.Edits.{HasText, Found, EditsOutcome, is_at, splice_at, body_at, style_by, style_in, mutable}
use Rattle.style_edits.specs.Edits.{client_by, found_by, style_splice, edited, with_back, go_on, styles_edited}
use Rattle.style_edits.specs.EditedRules.{rules_before, place_by, edited_rule, rules_on, edited_rules, rule_at, IsRuleThere, made_rule}
use Rattle.style_edits.specs.EditedRules.{new_range, MakesBody}
use Rattle.style_edits.proofs.BookForms.{entry_again}
use Rattle.style_edits.proofs.SpliceForms.{made, stored_after}
use Rattle.style_edits.proofs.FoundForms.{stored_of, style_found}
use Rattle.style_edits.proofs.RuleOrder.{own_place}

-- ---- where a splice leads

-- the rule that a splice made, by how many rules of the new text stand before the splice
pub made_at : (book : List SheetEntry) (s : Splice) (e : SheetEntry) (k : ℕ) → entry_of s.sheet book ≡ Some e
    → rules_before (sheet_of (spliced e.text s.start s.end s.text)).rules s.start ≡ k
    → made_rule book s ≡ slice_get (sheet_of (spliced e.text s.start s.end s.text)).rules k
made_at book s e k found count =
    let m = made s book e found in
    let next = after_splice s book in
    let rules = (sheet_of (spliced e.text s.start s.end s.text)).rules in
    let there : entry_of s.sheet next ≡ Some (spliced_entry s e) = ap (entry_of s.sheet) m.after ∙ m.there in
    let place : edited_rule next (back_splice s book) ≡ record { sheet = s.sheet; rule = k } =
    ap (edited_rule next) m.back ∙ ap (place_by (back_in s e)) there ∙ ap (λ (n : ℕ). at n) count in
    ap (rule_at next) place ∙ ap (option_and_then (λ (x : SheetEntry). slice_get (sheet_of x.text).rules k)) there
  where
    at : ℕ → RulePlace
    at n = record { sheet = s.sheet; rule = n }

-- ---- the body of a style rule

-- the splice puts a sealed text in the place of the body of rule k of its sheet
record Rebodies (book : List SheetEntry) (s : Splice) : Type 0 where
  sheet : SheetEntry
  found : entry_of s.sheet book ≡ Some sheet
  k : ℕ
  rule : RuleForm
  there : slice_get (sheet_of sheet.text).rules k ≡ Some rule
  body : rule.body ≡ range s.start s.end
  sealed : is_sealed s.text ≡ true

-- one of these rules has this body
record HasOne (rules : List RuleForm) (body : Range) : Type 0 where
  k : ℕ
  rule : RuleForm
  there : slice_get rules k ≡ Some rule
  own : rule.body ≡ body

find_body : (p : Range → Bool) (rules : List RuleForm) (body : Range) → find p (map (λ r. r.body) rules) ≡ Some body → HasOne rules body
find_body p [] body e = absurd (cc)
find_body p (x ∷ rules) body e = by (p x.body) e (λ h. find_body p rules body h)
  where
    by : (b : Bool) → cond b (Some x.body) (find p (map (λ r. r.body) rules)) ≡ Some body
        → (find p (map (λ r. r.body) rules) ≡ Some body → HasOne rules body) → HasOne (x ∷ rules) body
    by true h rest = let same : x.body ≡ body = cc in record { k = 0; rule = x; there = refl; own = same }
    by false h rest = let o = rest h in record { k = suc o.k; rule = o.rule; there = o.there; own = o.own }

style_rebodies : (x : StyleEdit) (book : List SheetEntry) (s : Splice) → style_splice x book ≡ Ok s → Rebodies book s
style_rebodies x book s h = by (entry_of x.sheet book) refl h
  where
    put : (e : SheetEntry) (part : Range) (b c : Bool) → entry_of x.sheet book ≡ Some e → HasOne (sheet_of e.text).rules part
        → is_sealed x.text ≡ b
        → ◌≡◌ {A = Found} (cond b (cond c (Ok (splice_at e part x.text)) (Err TooBig)) (Err BadText)) (Ok s) → Rebodies book s
    put e part false c found one sealed k = absurd (cc)
    put e part true false found one sealed k = absurd (cc)
    put e part true true found one sealed k =
        let same : splice_at e part x.text ≡ s = cc in
        subst (Rebodies book) same (record {
          sheet = e;
          found = entry_again x.sheet book e found;
          k = one.k;
          rule = one.rule;
          there = one.there;
          body = one.own;
          sealed = sealed;
        })

    part_by : (e : SheetEntry) (o : Option Range) → entry_of x.sheet book ≡ Some e → body_at e.text x.range ≡ o → style_by x e o ≡ Ok s
        → Rebodies book s
    part_by e None found is k = absurd (cc)
    part_by e (Some part) found is k =
        put e part (is_sealed x.text) _ found (find_body (is_at e.text x.range) (sheet_of e.text).rules part is) refl k

    at : (e : SheetEntry) (origin : Origin) → entry_of x.sheet book ≡ Some e → found_by (style_in x) (mutable e origin) ≡ Ok s
        → Rebodies book s
    at e origins.UserAgent found k = absurd (cc)
    at e origins.Regular found k = part_by e (body_at e.text x.range) found refl k

    by : (o : Option SheetEntry) → entry_of x.sheet book ≡ o → found_by (style_in x) (client_by o) ≡ Ok s → Rebodies book s
    by None found k = absurd (cc)
    by (Some e) found k = at e e.origin found k

-- the rule has the new body
rebodied_at : (c : Cut) (ps : List Property) (k : ℕ) (rules : List RuleForm) (r : RuleForm) → slice_get rules k ≡ Some r
    → slice_get (moved_rules c ps k rules) k ≡ Some (rebodied c ps r)
rebodied_at c ps k [] r e = absurd (cc)
rebodied_at c ps zero (x ∷ rules) r e = let same : x ≡ r = cc in ap (λ (y : RuleForm). Some (rebodied c ps y)) same
rebodied_at c ps (suc k) (x ∷ rules) r e = rebodied_at c ps k rules r e

-- the new text, and its rule k
record NewBody (book : List SheetEntry) (s : Splice) (m : Rebodies book s) : Type 0 where
  rules : (sheet_of (spliced m.sheet.text s.start s.end s.text)).rules
      ≡ moved_rules (body_cut m.rule (length s.text)) (style_of s.text) m.k (sheet_of m.sheet.text).rules
  rule : RuleForm
  there : slice_get (sheet_of (spliced m.sheet.text s.start s.end s.text)).rules m.k ≡ Some rule
  own : rule.body ≡ new_range s

new_body : (book : List SheetEntry) (s : Splice) (m : Rebodies book s) → NewBody book s m
new_body book s m =
    let c = body_cut m.rule (length s.text) in
    let ps = style_of s.text in
    let old = sheet_of m.sheet.text in
    let moves = ap (λ (b : Range). sheet_of (spliced m.sheet.text b.start b.end s.text)) (sym m.body)
    ∙ moved_holds m.sheet.text s.text m.k m.rule m.there m.sealed
    ∙ ap (moved_by old m.k ps (length s.text)) m.there in
    let rules = ap (λ (t : Sheet). t.rules) moves in
    record {
      rules = rules;
      rule = rebodied c ps m.rule;
      there = ap (λ (rs : List RuleForm). slice_get rs m.k) rules ∙ rebodied_at c ps m.k old.rules m.rule m.there;
      own = ap (λ (b : Range). range b.start (b.start + length s.text)) m.body;
    }

pub style_made : (x : StyleEdit) → IsUtf8 x.text → (book : List SheetEntry) (s : Splice) → All IsStored book → style_splice x book ≡ Ok s
    → MakesBody book s
style_made x utf8 book s all h =
    let m = style_rebodies x book s h in
    let n = new_body book s m in
    let d = made s book m.sheet m.found in
    let takes = style_found x book s all utf8 h in
    let next = after_splice s book in
    let new = stored_of s.sheet next (spliced_entry s m.sheet) (ap (entry_of s.sheet) d.after ∙ d.there) (stored_after s book takes all) in
    let start = ap (λ (b : Range). b.start) n.own in
    let count = ap (rules_before (sheet_of (spliced m.sheet.text s.start s.end s.text)).rules) (sym start)
    ∙ own_place (spliced m.sheet.text s.start s.end s.text) new.utf8 m.k n.rule n.there in
    subst (λ (o : Option RuleForm). IsSomeAnd o (HasBody (new_range s))) (sym (made_at book s m.sheet m.k m.found count ∙ n.there)) n.own

-- ---- rules that were there stay

-- where there is a rule, and a sheet gets as many
map_there : (f : RuleForm → RuleForm) (rules : List RuleForm) (n : ℕ) → IsSome (slice_get rules n) → IsSome (slice_get (map f rules) n)
map_there f [] n there = there
map_there f (x ∷ rules) zero there = refl
map_there f (x ∷ rules) (suc n) there = map_there f rules n there

moved_there : (c : Cut) (ps : List Property) (k : ℕ) (rules : List RuleForm) (n : ℕ) → IsSome (slice_get rules n)
    → IsSome (slice_get (moved_rules c ps k rules) n)
moved_there c ps k [] n there = there
moved_there c ps zero (x ∷ rules) zero there = refl
moved_there c ps zero (x ∷ rules) (suc n) there = map_there (placed_rule (moved_place c)) rules n there
moved_there c ps (suc k) (x ∷ rules) zero there = refl
moved_there c ps (suc k) (x ∷ rules) (suc n) there = moved_there c ps k rules n there

-- a sheet is changed, and has a rule with that number still
changed_stays : (old new : SheetEntry) (p : RulePlace) (book : List SheetEntry) → new.id ≡ old.id → entry_of old.id book ≡ Some old
    → (IsSome (slice_get (sheet_of old.text).rules p.rule) → IsSome (slice_get (sheet_of new.text).rules p.rule))
    → IsRuleThere book p → IsRuleThere (book_changed new book) p
changed_stays old new p [] same found keeps there = there
changed_stays old new p (x ∷ book) same found keeps there =
    by (nat_eq new.id x.id) refl (subst (λ (n : ℕ). cond (nat_eq n x.id) (Some x) (entry_of n book) ≡ Some old) (sym same) found) there
    (λ h t. changed_stays old new p book same (subst (λ (n : ℕ). entry_of n book ≡ Some old) same h) keeps t)
  where
    rule : SheetEntry → Option RuleForm
    rule e = slice_get (sheet_of e.text).rules p.rule

    own : (c : Bool) → x ≡ old → IsSome (option_and_then rule (cond c (Some x) (entry_of p.sheet book)))
        → IsSome (option_and_then rule (cond c (Some new) (entry_of p.sheet book)))
    own true is t = keeps (subst (λ (e : SheetEntry). IsSome (rule e)) is t)
    own false is t = t

    other : (c : Bool) → IsSome (option_and_then rule (cond c (Some x) (entry_of p.sheet book)))
        → (IsRuleThere book p → IsRuleThere (book_changed new book) p)
        → IsSome (option_and_then rule (cond c (Some x) (entry_of p.sheet (book_changed new book))))
    other true t rest = t
    other false t rest = rest t

    by : (b : Bool) → nat_eq new.id x.id ≡ b → cond b (Some x) (entry_of new.id book) ≡ Some old → IsRuleThere (x ∷ book) p
        → (entry_of new.id book ≡ Some old → IsRuleThere book p → IsRuleThere (book_changed new book) p)
        → IsRuleThere (cond b (new ∷ book) (x ∷ book_changed new book)) p
    by true id f t rest =
        let first : x ≡ old = cc in
        subst (λ (n : ℕ). IsSome (option_and_then rule (cond (nat_eq p.sheet n) (Some new) (entry_of p.sheet book))))
        (sym (eqb-true new.id x.id id)) (own (nat_eq p.sheet x.id) first t)
    by false id f t rest = other (nat_eq p.sheet x.id) t (λ u. rest f u)

style_stays : (x : StyleEdit) (book : List SheetEntry) (s : Splice) (p : RulePlace) → style_splice x book ≡ Ok s → IsRuleThere book p
    → IsRuleThere (after_splice s book) p
style_stays x book s p h there =
    let m = style_rebodies x book s h in
    let n = new_body book s m in
    let d = made s book m.sheet m.found in
    subst (λ (b : List SheetEntry). IsRuleThere b p) (sym d.after)
    (changed_stays m.sheet (spliced_entry s m.sheet) p book refl (entry_again s.sheet book m.sheet m.found)
    (λ t. subst (λ (rs : List RuleForm). IsSome (slice_get rs p.rule)) (sym n.rules)
    (moved_there (body_cut m.rule (length s.text)) (style_of s.text) m.k (sheet_of m.sheet.text).rules p.rule t)) there)

styles_stay : (xs : List StyleEdit) (book new : List SheetEntry) (backs : List Splice) (p : RulePlace)
    → styles_edited xs book ≡ Ok (new, backs) → IsRuleThere book p → IsRuleThere new p
unfolding styles_edited
styles_stay [] book new backs p h there =
    let same : ◌≡◌ {A = List SheetEntry × List Splice} (book, []) (new, backs) = cc in
    subst (λ (b : List SheetEntry). IsRuleThere b p) (ap (λ (q : List SheetEntry × List Splice). q.0) same) there
styles_stay (x ∷ xs) book new backs p h there =
    by (style_splice x book) refl h (λ next bs e t. styles_stay xs next new bs p e t)
  where
    rest : (s : Splice) (o : EditsOutcome) → styles_edited xs (after_splice s book) ≡ o
        → with_back (back_splice s book) o ≡ Ok (new, backs) → IsRuleThere (after_splice s book) p
        → ((bs : List Splice) → styles_edited xs (after_splice s book) ≡ Ok (new, bs) → IsRuleThere (after_splice s book) p
        → IsRuleThere new p)
        → IsRuleThere new p
    rest s (Err f) is k t more = absurd (cc)
    rest s (Ok r) is k t more =
        let same : ◌≡◌ {A = List SheetEntry × List Splice} (r.0, back_splice s book ∷ r.1) (new, backs) = cc in
        more r.1 (is ∙ ap (λ (b : List SheetEntry). done b) (ap (λ (q : List SheetEntry × List Splice). q.0) same)) t
      where
        done : List SheetEntry → EditsOutcome
        done b = Ok (b, r.1)

    by : (found : Found) → style_splice x book ≡ found → go_on (edited book found) (λ next. styles_edited xs next) ≡ Ok (new, backs)
        → ((next : List SheetEntry) (bs : List Splice) → styles_edited xs next ≡ Ok (new, bs) → IsRuleThere next p → IsRuleThere new p)
        → IsRuleThere new p
    by (Err f) is k more = absurd (cc)
    by (Ok s) is k more =
        rest s (styles_edited xs (after_splice s book)) refl k (style_stays x book s p is there) (λ bs e t. more
        (after_splice s book) bs e t)

pub is_there : (o : Option RuleForm) (P : RuleForm → Type 0) → IsSomeAnd o P → IsSome o
is_there None P there = absurd there
is_there (Some r) P there = refl

pub styles_made : (xs : List StyleEdit) (book new : List SheetEntry) (backs : List Splice) → All IsStored book → All HasText xs
    → styles_edited xs book ≡ Ok (new, backs) → All (IsRuleThere new) (edited_rules xs book)
unfolding styles_edited edited_rules
styles_made [] book new backs all texts h = All-nil (IsRuleThere new)
styles_made (x ∷ xs) book new backs all texts h =
    by (style_splice x book) refl h (λ next bs stored e. styles_made xs next new bs stored (All-tail HasText x xs texts) e)
  where
    rest : (s : Splice) (o : EditsOutcome) → styles_edited xs (after_splice s book) ≡ o
        → with_back (back_splice s book) o ≡ Ok (new, backs) → MakesBody book s
        → ((bs : List Splice) → styles_edited xs (after_splice s book) ≡ Ok (new, bs)
        → All (IsRuleThere new) (edited_rules xs (after_splice s book)))
        → All (IsRuleThere new) (edited_rule (after_splice s book) (back_splice s book) ∷ edited_rules xs (after_splice s book))
    rest s (Err f) is k own more = absurd (cc)
    rest s (Ok r) is k own more =
        let next = after_splice s book in
        let first = edited_rule next (back_splice s book) in
        let same : ◌≡◌ {A = List SheetEntry × List Splice} (r.0, back_splice s book ∷ r.1) (new, backs) = cc in
        let e = is ∙ ap (λ (b : List SheetEntry). done b) (ap (λ (q : List SheetEntry × List Splice). q.0) same) in
        All-cons (IsRuleThere new) first (edited_rules xs next)
        (styles_stay xs next new r.1 first e (is_there (made_rule book s) (HasBody (new_range s)) own)) (more r.1 e)
      where
        done : List SheetEntry → EditsOutcome
        done b = Ok (b, r.1)

    by : (found : Found) → style_splice x book ≡ found → go_on (edited book found) (λ next. styles_edited xs next) ≡ Ok (new, backs)
        → ((next : List SheetEntry) (bs : List Splice) → All IsStored next → styles_edited xs next ≡ Ok (new, bs)
        → All (IsRuleThere new) (edited_rules xs next))
        → All (IsRuleThere new) (rules_on (edited book found) (λ next. edited_rules xs next))
    by (Err f) is k more = absurd (cc)
    by (Ok s) is k more =
        let takes = style_found x book s all (All-head HasText x xs texts) is in
        rest s (styles_edited xs (after_splice s book)) refl k (style_made x (All-head HasText x xs texts) book s all is)
        (λ bs e. more (after_splice s book) bs (stored_after s book takes all) e)
