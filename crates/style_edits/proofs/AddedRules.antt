-- A rule that was put behind another one is there.
use Rattle.std.proofs.Common.{◌≡◌, inl, inr, ℕ, zero, suc, ◌+◌, ◌<◌, ◌≤◌, nat_lt, Bool, true, false, cond, All, List, [], ◌∷◌, ◌++◌, map}
use Rattle.std.proofs.Common.{length, take, drop, Option, Some, None, Ok, Err, refl, sym, ap, subst, ◌∙◌, append_assoc}
use Rattle.std.proofs.Common.{length-take, arith}
use Rattle.std.specs.Prelude.{slice_get, IsSomeAnd}
use Rattle.std.specs.Str.{IsUtf8}
use Rattle.std.specs.List.{find}
use Rattle.std.proofs.lemmas.Bool.Decides.{nat_tests}
use Rattle.std.proofs.lemmas.List.Elements.{All-head, All-tail}
use Rattle.node_tree.specs.Numbers.{number_limit}
use Rattle.css_tokens.specs.declared.token.Range.{Range}
use Rattle.node_tree.specs.declared.origins.Origin.{Origin}
use Rattle.node_tree.specs.declared.origins.Origin.TheVariants as origins
use Rattle.sheet_reader.specs.declared.book.SheetEntry.{SheetEntry}
use Rattle.sheet_reader.specs.declared.lone.LoneRule.{LoneRule}
use Rattle.sheet_reader.specs.declared.lone.LoneRule.TheVariants as lone
use Rattle.sheet_reader.specs.declared.sheet.Sheet.{Sheet}
use Rattle.selectors.specs.Ranges.{IsRangeOf}
use Rattle.sheet_reader.specs.Books.{IsStored, entry_of}
use Rattle.sheet_reader.specs.Forms.{range, RuleForm}
use Rattle.sheet_reader.specs.Joins.{behind_rule}
use Rattle.sheet_reader.specs.Lone.{lone_rule}
use Rattle.sheet_reader.specs.Sealing.{is_sealed}
use Rattle.sheet_reader.specs.Sheets.{sheet_of}
use Rattle.sheet_reader.proofs.JoinedLaw.{joined_holds}
use Rattle.sheet_reader.proofs.ShutForms.{shut_at}
use Rattle.style_edits.specs.declared.faults.SheetFault.TheVariants.{BadText, TooBig}
use Rattle.style_edits.specs.declared.lines.LineRange.{LineRange}
use Rattle.style_edits.specs.declared.splice.Splice.{Splice}
use Rattle.style_edits.specs.Splices.{spliced}
use Rattle.style_edits.specs.Edits.{Found, splice_at, place_at, put_by, added_by, rule_in, mutable, client_by, found_by, rule_splice, is_at}
use Rattle.style_edits.specs.EditedRules.{rules_before, made_rule, new_range, StandsIn, MakesRule}
use Rattle.style_edits.proofs.BookForms.{entry_again}
use Rattle.style_edits.proofs.FoundForms.{rule_found}
use Rattle.style_edits.proofs.LoneRules.{OneRule, just_one}
use Rattle.style_edits.proofs.MadeRules.{made_at}
use Rattle.style_edits.proofs.PlaceFronts.{Among, place_fronts}
use Rattle.style_edits.proofs.Fronts.{Moved, AreMoved, StartsBefore, Fronts}

-- ---- what the text of a rule says before another text

-- the first rule of both is that of the first
record Begins (put behind : List ℕ) (r : RuleForm) : Type 0 where
  rules : List RuleForm
  is : (sheet_of (put ++ behind)).rules ≡ r ∷ rules

-- one rule, where there is one more than none
first_is : (n k : ℕ) (rs qs : List RuleForm) (r : RuleForm) → length rs ≡ suc zero → r ∷ [] ≡ rs ++ map (behind_rule n k) qs → rs ≡ r ∷ []
first_is n k [] qs r size e = absurd (cc)
first_is n k (x ∷ []) qs r size e = let same : r ≡ x = cc in ap (λ (y : RuleForm). y ∷ []) (sym same)
first_is n k (x ∷ y ∷ rs) qs r size e = absurd (cc)

begins : (put behind : List ℕ) (o : OneRule put) → Begins put behind o.rule
begins put behind o =
    let there : slice_get (sheet_of put).rules 0 ≡ Some o.rule = ap (λ (rs : List RuleForm). slice_get rs 0) o.rules in
    let s = shut_at put 0 o.rule there o.top o.ends in
    let own = ap (λ (t : Sheet). t.rules) (joined_holds s.front s.behind s.shut) in
    let first : (sheet_of s.front).rules ≡ o.rule ∷ [] =
    first_is (length s.front) (length (sheet_of s.front).media) (sheet_of s.front).rules (sheet_of s.behind).rules o.rule s.number
    (sym o.rules ∙ ap (λ (t : List ℕ). (sheet_of t).rules) s.is ∙ own) in
    let rest = map (behind_rule (length s.front) (length (sheet_of s.front).media)) (sheet_of (s.behind ++ behind)).rules in
    record {
      rules = rest;
      is = ap (λ (t : List ℕ). (sheet_of (t ++ behind)).rules) s.is
          ∙ ap (λ (t : List ℕ). (sheet_of t).rules) (append_assoc s.front s.behind behind)
          ∙ ap (λ (t : Sheet). t.rules) (joined_holds s.front (s.behind ++ behind) s.shut)
          ∙ ap (λ (rs : List RuleForm). rs ++ rest) first;
    }

-- ---- the rule that was put in

-- so many rules stand before a place
count_all : (place : ℕ) (xs : List RuleForm) (y : RuleForm) (ys : List RuleForm) → All (StartsBefore place) xs → place ≤ y.body.start
    → rules_before (xs ++ y ∷ ys) place ≡ length xs
count_all place [] y ys all behind =
    let over : nat_lt y.body.start place ≡ false = grind (arith, nat_tests, behind) in
    ap (λ (b : Bool). cond b (1 + rules_before ys place) 0) over
count_all place (x ∷ xs) y ys all behind =
    let order = All-head (StartsBefore place) x xs all in
    let before : nat_lt x.body.start place ≡ true = grind (arith, nat_tests, order) in
    let one : 1 + length xs ≡ suc (length xs) = omega arith in
    ap (λ (b : Bool). cond b (1 + rules_before (xs ++ y ∷ ys) place) 0) before
    ∙ ap (λ (n : ℕ). 1 + n) (count_all place xs y ys (All-tail (StartsBefore place) x xs all) behind) ∙ one

get_behind : (xs : List RuleForm) (y : RuleForm) (ys : List RuleForm) → slice_get (xs ++ y ∷ ys) (length xs) ≡ Some y
get_behind [] y ys = refl
get_behind (x ∷ xs) y ys = get_behind xs y ys

-- what a text says with a rule put in
record Added (front put behind : List ℕ) (r : RuleForm) : Type 0 where
  rule : RuleForm
  count : ℕ
  before : rules_before (sheet_of (front ++ (put ++ behind))).rules (length front) ≡ count
  there : slice_get (sheet_of (front ++ (put ++ behind))).rules count ≡ Some rule
  moved : Moved (length front) r rule

added : (front put behind : List ℕ) → Fronts front (put ++ behind) → (o : OneRule put) → Added front put behind o.rule
added front put behind f o =
    let b = begins put behind o in
    by f.rest f.is (subst (λ (rs : List RuleForm). AreMoved (length front) rs f.rest) b.is f.moved)
  where
    by : (rest : List RuleForm) → (sheet_of (front ++ (put ++ behind))).rules ≡ f.own ++ rest
        → AreMoved (length front) (o.rule ∷ (begins put behind o).rules) rest → Added front put behind o.rule
    by [] is moved = absurd moved
    by (q ∷ rest) is moved = record {
      rule = q;
      count = length f.own;
      before = ap (λ (rs : List RuleForm). rules_before rs (length front)) is
          ∙ count_all (length front) f.own q rest f.starts (omega (arith, moved.0.start));
      there = ap (λ (rs : List RuleForm). slice_get rs (length f.own)) is ∙ get_behind f.own q rest;
      moved = moved.0;
    }

-- ---- the edit

-- the splice puts in a sealed text that is one style rule, at a place
record Puts (book : List SheetEntry) (s : Splice) : Type 0 where
  sheet : SheetEntry
  found : entry_of s.sheet book ≡ Some sheet
  place : Among s.start (sheet_of sheet.text).places
  sealed : is_sealed s.text ≡ true
  style : lone_rule s.text ≡ lone.Style

-- what is found among the empty ranges of places stands at one
find_place : (p : Range → Bool) (places : List ℕ) (r : Range) → find p (map (λ n. range n n) places) ≡ Some r → Among r.start places
find_place p [] r e = absurd (cc)
find_place p (x ∷ places) r e = by (p (range x x)) e (λ h. find_place p places r h)
  where
    by : (b : Bool) → cond b (Some (range x x)) (find p (map (λ n. range n n) places)) ≡ Some r
        → (find p (map (λ n. range n n) places) ≡ Some r → Among r.start places) → Among r.start (x ∷ places)
    by true h rest = let same : range x x ≡ r = cc in inl (sym (ap (λ (y : Range). y.start) same))
    by false h rest = inr (rest h)

rule_puts : (id : ℕ) (lines : LineRange) (text : List ℕ) (book : List SheetEntry) (s : Splice) → rule_splice id lines text book ≡ Ok s
    → Puts book s
rule_puts id lines text book s h = by (entry_of id book) refl h
  where
    put : (e : SheetEntry) (part : Range) (c : Bool) → entry_of id book ≡ Some e → Among part.start (sheet_of e.text).places
        → is_sealed text ≡ true → lone_rule text ≡ lone.Style
        → ◌≡◌ {A = Found} (cond c (Ok (splice_at e part text)) (Err TooBig)) (Ok s) → Puts book s
    put e part false found place sealed style k = absurd (cc)
    put e part true found place sealed style k =
        let same : splice_at e part text ≡ s = cc in
        subst (Puts book) same
        (record { sheet = e; found = entry_again id book e found; place = place; sealed = sealed; style = style })

    place_by : (e : SheetEntry) (o : Option Range) → entry_of id book ≡ Some e → place_at e.text lines ≡ o → is_sealed text ≡ true
        → lone_rule text ≡ lone.Style → put_by text e o ≡ Ok s → Puts book s
    place_by e None found at sealed style k = absurd (cc)
    place_by e (Some part) found at sealed style k =
        put e part _ found (find_place (is_at e.text lines) (sheet_of e.text).places part at) sealed style k

    rule_by : (e : SheetEntry) (l : LoneRule) → entry_of id book ≡ Some e → is_sealed text ≡ true → lone_rule text ≡ l
        → added_by text e (place_at e.text lines) l ≡ Ok s → Puts book s
    rule_by e lone.Other found sealed is k = absurd (cc)
    rule_by e lone.Dropped found sealed is k = absurd (cc)
    rule_by e lone.Style found sealed is k = place_by e (place_at e.text lines) found refl sealed is k

    sealed_by : (e : SheetEntry) (b : Bool) → entry_of id book ≡ Some e → is_sealed text ≡ b
        → ◌≡◌ {A = Found} (cond b (added_by text e (place_at e.text lines) (lone_rule text)) (Err BadText)) (Ok s) → Puts book s
    sealed_by e false found is k = absurd (cc)
    sealed_by e true found is k = rule_by e (lone_rule text) found is refl k

    at : (e : SheetEntry) (origin : Origin) → entry_of id book ≡ Some e → found_by (rule_in lines text) (mutable e origin) ≡ Ok s
        → Puts book s
    at e origins.UserAgent found k = absurd (cc)
    at e origins.Regular found k = sealed_by e (is_sealed text) found refl k

    by : (o : Option SheetEntry) → entry_of id book ≡ o → found_by (rule_in lines text) (client_by o) ≡ Ok s → Puts book s
    by None found k = absurd (cc)
    by (Some e) found k = at e e.origin found k

-- the sheet is read with the rule in it
added_there : (book : List SheetEntry) (s : Splice) (p : Puts book s) → IsStored p.sheet → IsUtf8 s.text
    → IsRangeOf p.sheet.text (range s.start s.end) → IsSomeAnd (made_rule book s) (StandsIn (new_range s))
added_there book s p stored utf8 cut =
    let text = p.sheet.text in
    let front = take s.start text in
    let size : length front ≡ s.start = omega (arith, length-take s.start text, cut.front.0) in
    let o = just_one s.text utf8 p.style in
    let small : length text + 0 < number_limit = omega (arith, stored.entry.short) in
    let a = added front s.text (drop s.end text) (place_fronts s.text o p.sealed text small s.start p.place
    (s.text ++ drop s.end text)) o in
    let before = ap (rules_before (sheet_of (spliced text s.start s.end s.text)).rules) (sym size) ∙ a.before in
    let stands : StandsIn (new_range s) a.rule = record {
      starts = omega (arith, a.moved.prelude, size);
      ends = omega (arith, a.moved.end, size, o.ends);
    } in
    subst (λ (x : Option RuleForm). IsSomeAnd x (StandsIn (new_range s))) (sym (made_at book s p.sheet a.count p.found before ∙ a.there))
    stands

pub rule_made : (id : ℕ) (lines : LineRange) (text : List ℕ) → IsUtf8 text → (book : List SheetEntry) (s : Splice) → All IsStored book
    → rule_splice id lines text book ≡ Ok s → MakesRule book s
rule_made id lines text utf8 book s all h =
    let t = rule_found id lines text book s all utf8 h in
    let p = rule_puts id lines text book s h in
    let same : t.sheet ≡ p.sheet = some_sheet t.sheet p.sheet (sym t.found ∙ p.found) in
    added_there book s p (subst IsStored same t.stored) t.text
    (subst (λ (x : SheetEntry). IsRangeOf x.text (range s.start s.end)) same t.fits.is)
  where
    some_sheet : (a b : SheetEntry) → ◌≡◌ {A = Option SheetEntry} (Some a) (Some b) → a ≡ b
    some_sheet a b e = cc
