-- The rules that apply are those that stand in the matched list.
use Rattle.std.proofs.Common.{◌≡◌, ◌⊎◌, ℕ, zero, suc, ◌+◌, Bool, true, false, cond, ◌||◌, List, [], ◌∷◌, Option, Some, None, subst, refl}
use Rattle.std.proofs.Common.{sym, ap, ◌∙◌, inl, inr, arith}
use Rattle.std.specs.declared.cmp.Ordering.{Ordering}
use Rattle.std.specs.declared.cmp.Ordering.TheVariants.{Less, Equal, Greater}
use Rattle.std.specs.Ordering.{nat_cmp, match_ordering, ordering_then}
use Rattle.std.proofs.lemmas.Map.Lookups.{exact_unsigned}
use Rattle.std.specs.List.{slice_get}
use Rattle.std.specs.Option.{option_to_list}
use Rattle.std.specs.BTreeMap.{insert_entry}
use Rattle.page_tree.specs.Zippers.{Zipper}
use Rattle.page_tree.specs.Members.{IsIn, at_head, in_tail}
use Rattle.page_tree.proofs.ZipperLemmas.{IsIn-append, IsIn-append_left, IsIn-append_right}
use Rattle.selectors.specs.declared.weight.Spec.{Spec}
use Rattle.selectors.specs.Forms.{SelectorForm}
use Rattle.select_match.specs.Matches.{selector_matches, list_matches}
use Rattle.sheet_reader.specs.declared.book.SheetEntry.{SheetEntry}
use Rattle.sheet_reader.specs.Forms.{RuleForm}
use Rattle.sheet_reader.specs.Sheets.{sheet_of}
use Rattle.sheet_reader.specs.Around.{held_at, AllHold}
use Rattle.media_rules.specs.declared.medium.Medium.{Medium}
use Rattle.cascade_match.specs.declared.keys.Key.{Key}
use Rattle.cascade_match.specs.declared.hits.Hit.{Hit}
use Rattle.cascade_match.specs.Precedence.{key_of, key_cmp}
use Rattle.cascade_match.specs.Matched.{places_from, places_matching, greatest, Source, source_of, entry_by, keyed_rule, entries_of_rules}
use Rattle.cascade_match.specs.Matched.{entries_of_sheets, all_entered, matched_entries}
use Rattle.cascade_match.specs.MediaHeld.{media_holds, media_held}
use Rattle.cascade_match.specs.Standing.{PlacedRule, Applies, standing}
use Rattle.cascade_match.proofs.HeldForms.{held-all, all-held}

-- ---- places of selectors

-- a matching selector of those from a place on
pub record PlacedFrom (i : ℕ) (ss : List SelectorForm) (z : Zipper) (p : ℕ) : Type 0 where
  pub offset : ℕ
  pub selector : SelectorForm
  pub there : slice_get ss offset ≡ Some selector
  pub is : p ≡ i + offset
  pub matches : selector_matches selector z ≡ true

further : (i : ℕ) (s : SelectorForm) (ss : List SelectorForm) (z : Zipper) (p : ℕ) → PlacedFrom (i + 1) ss z p → PlacedFrom i (s ∷ ss) z p
further i s ss z p h = record {
  offset = suc h.offset;
  selector = h.selector;
  there = h.there;
  is = (let at : p ≡ i + 1 + h.offset = h.is in omega arith);
  matches = h.matches;
}

one_place : (i : ℕ) (s : SelectorForm) (ss : List SelectorForm) (z : Zipper) (p : ℕ)
    → (IsIn p (places_from (i + 1) ss z) → PlacedFrom (i + 1) ss z p)
    → (b : Bool) → selector_matches s z ≡ b → IsIn p (cond b (i ∷ places_from (i + 1) ss z) (places_from (i + 1) ss z))
    → PlacedFrom i (s ∷ ss) z p
one_place i s ss z p rest true e (at_head _) = record { offset = 0; selector = s; there = refl; is = omega arith; matches = e }
one_place i s ss z p rest true e (in_tail _ _ j) = further i s ss z p (rest j)
one_place i s ss z p rest false e j = further i s ss z p (rest j)

pub places-from : (i : ℕ) (ss : List SelectorForm) (z : Zipper) (p : ℕ) → IsIn p (places_from i ss z) → PlacedFrom i ss z p
places-from i [] z p there = elim there [ ]
places-from i (s ∷ ss) z p there = one_place i s ss z p (λ j. places-from (i + 1) ss z p j) (selector_matches s z) refl there

pub places-of : (i k p : ℕ) (ss : List SelectorForm) (z : Zipper) (s : SelectorForm) → p ≡ i + k → slice_get ss k ≡ Some s
    → selector_matches s z ≡ true → IsIn p (places_from i ss z)
places-of i k p [] z s is at e = absurd (cc)
places-of i zero p (x ∷ ss) z s is at e =
    let same : x ≡ s = cc in
    let here : i ≡ p = omega arith in
    by (selector_matches x z) (ap (λ (t : SelectorForm). selector_matches t z) same ∙ e) here
  where
    by : (b : Bool) → b ≡ true → i ≡ p → IsIn p (cond b (i ∷ places_from (i + 1) ss z) (places_from (i + 1) ss z))
    by true t here = subst (λ (n : ℕ). IsIn n (i ∷ places_from (i + 1) ss z)) here (at_head _)
    by false t here = absurd (cc)
places-of i (suc k) p (x ∷ ss) z s is at e = by (selector_matches x z) (places-of (i + 1) k p ss z s (omega arith) at e)
  where
    by : (b : Bool) → IsIn p (places_from (i + 1) ss z) → IsIn p (cond b (i ∷ places_from (i + 1) ss z) (places_from (i + 1) ss z))
    by true j = in_tail i _ j
    by false j = j

-- ---- one rule

-- there is one
abbrev pub has_some : List ℕ → Bool
has_some [] = false
has_some (p ∷ ps) = true

-- some selector matches where there is a place of one
pub some_place : (i : ℕ) (ss : List SelectorForm) (z : Zipper) → list_matches ss z ≡ has_some (places_from i ss z)
some_place i [] z = refl
some_place i (s ∷ ss) z = by (selector_matches s z) (some_place (i + 1) ss z)
  where
    by : (b : Bool) → list_matches ss z ≡ has_some (places_from (i + 1) ss z)
        → (b || list_matches ss z) ≡ has_some (cond b (i ∷ places_from (i + 1) ss z) (places_from (i + 1) ss z))
    by true h = refl
    by false h = h

made : (from : Source) (rule : ℕ) (weight : Spec) (ps : List ℕ) → has_some ps ≡ true
    → entry_by from rule weight ps
    ≡ Some (key_of from.origin weight from.place rule, record { sheet = from.id; rule = rule; matching = ps })
made from rule weight [] e = absurd (cc)
made from rule weight (p ∷ ps) e = refl

has_made : (from : Source) (rule : ℕ) (weight : Spec) (ps : List ℕ) (e : Key × Hit) → entry_by from rule weight ps ≡ Some e
    → has_some ps ≡ true
has_made from rule weight [] e at = absurd (cc)
has_made from rule weight (p ∷ ps) e at = refl

-- a rule that some selector matches, and around which every media rule holds, has an entry
pub entry-made : (m : Medium) (place rule : ℕ) (s : SheetEntry) (r : RuleForm) (z : Zipper) → held_at (media_held m s.text) r.media ≡ true
    → list_matches r.selectors z ≡ true
    → keyed_rule (source_of m place s) rule r z ≡ Some (standing (record { sheet = place; entry = s; rule = rule; form = r }) z)
entry-made m place rule s r z held e =
    let from = source_of m place s in
    ap (λ (b : Bool). cond b (entry_by from rule (greatest r.selectors z) (places_matching r.selectors z)) None) held
    ∙ made from rule (greatest r.selectors z) (places_matching r.selectors z) (sym (some_place 0 r.selectors z) ∙ e)

if_some : (b : Bool) (o : Option (Key × Hit)) (e : Key × Hit) → cond b o None ≡ Some e → (b ≡ true) × (o ≡ Some e)
if_some true o e at = (refl, at)
if_some false o e at = absurd (cc)

-- an entry's rule has media rules around it that hold, and a selector that matches
entry_says : (from : Source) (rule : ℕ) (r : RuleForm) (z : Zipper) (e : Key × Hit) → keyed_rule from rule r z ≡ Some e
    → (held_at from.held r.media ≡ true) × (list_matches r.selectors z ≡ true)
entry_says from rule r z e at =
    let weight = greatest r.selectors z in
    let ps = places_matching r.selectors z in
    let both = if_some (held_at from.held r.media) (entry_by from rule weight ps) e at in
    (both.0, some_place 0 r.selectors z ∙ has_made from rule weight ps e both.1)

same_some : {A : Type 0} (x y : A) → Some x ≡ Some y → x ≡ y
same_some x y e = cc

-- ---- the rules of a sheet, the sheets of a book

module _ {A : Type 0} where
  in_option : (o : Option A) (x : A) → IsIn x (option_to_list o) → o ≡ Some x
  in_option None x j = elim j [ ]
  in_option (Some y) x (at_head _) = refl
  in_option (Some y) x (in_tail _ _ j) = elim j [ ]

  option_in : (o : Option A) (x : A) → o ≡ Some x → IsIn x (option_to_list o)
  option_in None x e = absurd (cc)
  option_in (Some y) x e = subst (λ (w : A). IsIn w (y ∷ [])) (same_some y x e) (at_head [])

pub record RuleFrom (from : Source) (i : ℕ) (rs : List RuleForm) (z : Zipper) (e : Key × Hit) : Type 0 where
  pub offset : ℕ
  pub form : RuleForm
  pub there : slice_get rs offset ≡ Some form
  pub entry : keyed_rule from (i + offset) form z ≡ Some e

further_rule : (from : Source) (i : ℕ) (r : RuleForm) (rs : List RuleForm) (z : Zipper) (e : Key × Hit) → RuleFrom from (i + 1) rs z e
    → RuleFrom from i (r ∷ rs) z e
further_rule from i r rs z e h =
    let at : i + 1 + h.offset ≡ i + suc h.offset = omega arith in
    record { offset = suc h.offset; form = h.form; there = h.there; entry = sym (ap (λ (n : ℕ). keyed_rule from n h.form z) at) ∙ h.entry }

first_rule : (from : Source) (i : ℕ) (r : RuleForm) (rs : List RuleForm) (z : Zipper) (e : Key × Hit)
    → IsIn e (option_to_list (keyed_rule from i r z)) → RuleFrom from i (r ∷ rs) z e
first_rule from i r rs z e j =
    let first : i ≡ i + 0 = omega arith in
    record {
      offset = 0;
      form = r;
      there = refl;
      entry = sym (ap (λ (n : ℕ). keyed_rule from n r z) first) ∙ in_option (keyed_rule from i r z) e j;
    }

rules-from : (from : Source) (i : ℕ) (rs : List RuleForm) (z : Zipper) (e : Key × Hit) → IsIn e (entries_of_rules from i rs z)
    → RuleFrom from i rs z e
rules-from from i [] z e there = elim there [ ]
rules-from from i (r ∷ rs) z e there =
    elim (IsIn-append (option_to_list (keyed_rule from i r z)) (entries_of_rules from (i + 1) rs z) there) [
      | inl j ↦ first_rule from i r rs z e j
      | inr j ↦ further_rule from i r rs z e (rules-from from (i + 1) rs z e j)
    ]

rules-of : (from : Source) (i k n : ℕ) (rs : List RuleForm) (z : Zipper) (r : RuleForm) (e : Key × Hit) → n ≡ i + k
    → slice_get rs k ≡ Some r → keyed_rule from n r z ≡ Some e → IsIn e (entries_of_rules from i rs z)
rules-of from i k n [] z r e is at made = absurd (cc)
rules-of from i zero n (x ∷ rs) z r e is at made =
    let same : x ≡ r = cc in
    let here : i ≡ n = omega arith in
    IsIn-append_left _ (option_in (keyed_rule from i x z) e
    (ap (λ (m : ℕ). keyed_rule from m x z) here ∙ ap (λ (t : RuleForm). keyed_rule from n t z) same ∙ made))
rules-of from i (suc k) n (x ∷ rs) z r e is at made = IsIn-append_right (option_to_list (keyed_rule from i x z))
    (rules-of from (i + 1) k n rs z r e (omega arith) at made)

pub record SheetFrom (m : Medium) (i : ℕ) (book : List SheetEntry) (z : Zipper) (e : Key × Hit) : Type 0 where
  pub offset : ℕ
  pub entry : SheetEntry
  pub there : slice_get book offset ≡ Some entry
  pub rules : IsIn e (entries_of_rules (source_of m (i + offset) entry) 0 (sheet_of entry.text).rules z)

further_sheet : (m : Medium) (i : ℕ) (s : SheetEntry) (book : List SheetEntry) (z : Zipper) (e : Key × Hit) → SheetFrom m (i + 1) book z e
    → SheetFrom m i (s ∷ book) z e
further_sheet m i s book z e h =
    let at : i + 1 + h.offset ≡ i + suc h.offset = omega arith in
    record {
      offset = suc h.offset;
      entry = h.entry;
      there = h.there;
      rules = subst (λ (n : ℕ). IsIn e (entries_of_rules (source_of m n h.entry) 0 (sheet_of h.entry.text).rules z)) at h.rules;
    }

first_sheet : (m : Medium) (i : ℕ) (s : SheetEntry) (book : List SheetEntry) (z : Zipper) (e : Key × Hit)
    → IsIn e (entries_of_rules (source_of m i s) 0 (sheet_of s.text).rules z) → SheetFrom m i (s ∷ book) z e
first_sheet m i s book z e j =
    let first : i ≡ i + 0 = omega arith in
    record {
      offset = 0;
      entry = s;
      there = refl;
      rules = subst (λ (n : ℕ). IsIn e (entries_of_rules (source_of m n s) 0 (sheet_of s.text).rules z)) first j;
    }

sheets-from : (m : Medium) (i : ℕ) (book : List SheetEntry) (z : Zipper) (e : Key × Hit) → IsIn e (entries_of_sheets m i book z)
    → SheetFrom m i book z e
sheets-from m i [] z e there = elim there [ ]
sheets-from m i (s ∷ book) z e there =
    elim (IsIn-append (entries_of_rules (source_of m i s) 0 (sheet_of s.text).rules z) (entries_of_sheets m (i + 1) book z) there) [
      | inl j ↦ first_sheet m i s book z e j
      | inr j ↦ further_sheet m i s book z e (sheets-from m (i + 1) book z e j)
    ]

sheets-of : (m : Medium) (i k n : ℕ) (book : List SheetEntry) (z : Zipper) (s : SheetEntry) (e : Key × Hit) → n ≡ i + k
    → slice_get book k ≡ Some s
    → IsIn e (entries_of_rules (source_of m n s) 0 (sheet_of s.text).rules z) → IsIn e (entries_of_sheets m i book z)
sheets-of m i k n [] z s e is at made = absurd (cc)
sheets-of m i zero n (x ∷ book) z s e is at made =
    let same : s ≡ x = cc in
    let here : n ≡ i = omega arith in
    IsIn-append_left _ (subst (λ (t : SheetEntry). IsIn e (entries_of_rules (source_of m i t) 0 (sheet_of t.text).rules z)) same
    (subst (λ (k : ℕ). IsIn e (entries_of_rules (source_of m k s) 0 (sheet_of s.text).rules z)) here made))
sheets-of m i (suc k) n (x ∷ book) z s e is at made = IsIn-append_right (entries_of_rules (source_of m i x) 0 (sheet_of x.text).rules z)
    (sheets-of m (i + 1) k n book z s e (omega arith) at made)

-- the rule of which an entry is
pub record Stands (m : Medium) (book : List SheetEntry) (z : Zipper) (e : Key × Hit) : Type 0 where
  pub placed : PlacedRule
  pub applies : Applies m book z placed
  pub is : e ≡ standing placed z

pub stands-from : (m : Medium) (book : List SheetEntry) (z : Zipper) (e : Key × Hit) → IsIn e (entries_of_sheets m 0 book z)
    → Stands m book z e
stands-from m book z e there =
    let s = sheets-from m 0 book z e there in
    let r = rules-from (source_of m (0 + s.offset) s.entry) 0 (sheet_of s.entry.text).rules z e s.rules in
    let sheet : 0 + s.offset ≡ s.offset = omega arith in
    let rule : 0 + r.offset ≡ r.offset = omega arith in
    let says = entry_says (source_of m (0 + s.offset) s.entry) (0 + r.offset) r.form z e r.entry in
    let entry = sym (ap (λ (n : ℕ). keyed_rule (source_of m n s.entry) (0 + r.offset) r.form z) sheet ∙ ap
    (λ (n : ℕ). keyed_rule (source_of m s.offset s.entry) n r.form z) rule) ∙ r.entry in
    record {
      placed = record { sheet = s.offset; entry = s.entry; rule = r.offset; form = r.form };
      applies = record {
        sheet = s.there;
        rule = r.there;
        matches = says.1;
        media = held-all m s.entry.text r.offset r.form r.there says.0;
      };
      is = same_some e _ (sym entry ∙ entry-made m s.offset r.offset s.entry r.form z says.0 says.1);
    }

pub stands-of : (m : Medium) (book : List SheetEntry) (z : Zipper) (p : PlacedRule) → Applies m book z p
    → IsIn (standing p z) (entries_of_sheets m 0 book z)
stands-of m book z p applies =
    sheets-of m 0 p.sheet p.sheet book z p.entry (standing p z) (omega arith) applies.sheet
    (rules-of (source_of m p.sheet p.entry) 0 p.rule p.rule (sheet_of p.entry.text).rules z p.form (standing p z) (omega arith) applies.rule
    (entry-made m p.sheet p.rule p.entry p.form z (all-held m p.entry.text p.rule p.form applies.rule applies.media) applies.matches))

-- ---- an entry put in its place

then_equal : (x y : ℕ) (rest : Ordering) → ordering_then (nat_cmp x y) rest ≡ Equal → (x ≡ y) × (rest ≡ Equal)
then_equal x y rest e = by (nat_cmp x y) refl e
  where
    by : (o : Ordering) → nat_cmp x y ≡ o → ordering_then o rest ≡ Equal → (x ≡ y) × (rest ≡ Equal)
    by Less is h = absurd (cc)
    by Equal is h = (exact_unsigned x y is, h)
    by Greater is h = absurd (cc)

-- keys that compare equal are the same
key-exact : (x y : Key) → key_cmp x y ≡ Equal → x ≡ y
key-exact x y e =
    let origin = then_equal x.origin y.origin _ e in
    let a = then_equal x.a y.a _ origin.1 in
    let b = then_equal x.b y.b _ a.1 in
    let c = then_equal x.c y.c _ b.1 in
    let sheet = then_equal x.sheet y.sheet _ c.1 in
    let rule : x.rule ≡ y.rule = exact_unsigned x.rule y.rule sheet.1 in
    λ i. record { origin = origin.0 i; a = a.0 i; b = b.0 i; c = c.0 i; sheet = sheet.0 i; rule = rule i }

module _ (k : Key) (v : Hit) where
  -- the entries with this one before, in place of or behind the first
  abbrev beside : (Key × Hit) → List (Key × Hit) → Ordering → List (Key × Hit)
  beside e es o = match_ordering o ((k, v) ∷ e ∷ es) ((e.0, v) ∷ es) (e ∷ insert_entry key_cmp es k v)

  put_beside : (e : Key × Hit) (es : List (Key × Hit)) → IsIn (k, v) (insert_entry key_cmp es k v) → (o : Ordering) → key_cmp k e.0 ≡ o
      → IsIn (k, v) (beside e es o)
  put_beside e es rest Less is = at_head _
  put_beside e es rest Equal is = subst (λ (w : Key). IsIn (k, v) ((w, v) ∷ es)) (key-exact k e.0 is) (at_head es)
  put_beside e es rest Greater is = in_tail e _ rest

  put-in : (es : List (Key × Hit)) → IsIn (k, v) (insert_entry key_cmp es k v)
  put-in [] = at_head []
  put-in (e ∷ es) = put_beside e es (put-in es) (key_cmp k e.0) refl

  head_stays : (e : Key × Hit) (es : List (Key × Hit)) → (e.0 ≡ k → e ≡ (k, v)) → (o : Ordering) → key_cmp k e.0 ≡ o
      → IsIn e (beside e es o)
  head_stays e es same Less is = in_tail (k, v) _ (at_head es)
  head_stays e es same Equal is = subst (λ (w : Hit). IsIn e ((e.0, w) ∷ es))
      (ap (λ (w : Key × Hit). w.1) (same (sym (key-exact k e.0 is)))) (at_head es)
  head_stays e es same Greater is = at_head _

  tail_stays : (e x : Key × Hit) (es : List (Key × Hit)) → IsIn x es → IsIn x (insert_entry key_cmp es k v) → (o : Ordering)
      → IsIn x (beside e es o)
  tail_stays e x es there rest Less = in_tail (k, v) _ (in_tail e es there)
  tail_stays e x es there rest Equal = in_tail (e.0, v) _ there
  tail_stays e x es there rest Greater = in_tail e _ rest

  -- what was there stays, unless it has the key and another value
  put-keeps : (es : List (Key × Hit)) (x : Key × Hit) → IsIn x es → (x.0 ≡ k → x ≡ (k, v)) → IsIn x (insert_entry key_cmp es k v)
  put-keeps [] x there same = elim there [ ]
  put-keeps (e ∷ es) x (at_head _) same = head_stays e es same (key_cmp k e.0) refl
  put-keeps (e ∷ es) x (in_tail _ _ j) same = tail_stays e x es j (put-keeps es x j same) (key_cmp k e.0)

  behind_first : (e x : Key × Hit) (es : List (Key × Hit)) → IsIn x ((k, v) ∷ es) → IsIn x ((k, v) ∷ e ∷ es)
  behind_first e x es (at_head _) = at_head _
  behind_first e x es (in_tail _ _ j) = in_tail (k, v) _ (in_tail e _ j)

  from_beside : (e x : Key × Hit) (es : List (Key × Hit)) → (IsIn x (insert_entry key_cmp es k v) → IsIn x ((k, v) ∷ es)) → (o : Ordering)
      → key_cmp k e.0 ≡ o → IsIn x (beside e es o) → IsIn x ((k, v) ∷ e ∷ es)
  from_beside e x es rest Less is j = j
  from_beside e x es rest Equal is j = behind_first e x es (subst (λ (w : Key). IsIn x ((w, v) ∷ es)) (sym (key-exact k e.0 is)) j)
  from_beside e x es rest Greater is (at_head _) = in_tail (k, v) _ (at_head es)
  from_beside e x es rest Greater is (in_tail _ _ j) = behind_first e x es (rest j)

  put-from : (es : List (Key × Hit)) (x : Key × Hit) → IsIn x (insert_entry key_cmp es k v) → IsIn x ((k, v) ∷ es)
  put-from [] x there = there
  put-from (e ∷ es) x there = from_beside e x es (λ j. put-from es x j) (key_cmp k e.0) refl there

put_before : (x e : Key × Hit) (sorted es : List (Key × Hit)) → IsIn x (e ∷ sorted) → IsIn x sorted ⊎ IsIn x (e ∷ es)
put_before x e sorted es (at_head _) = inr (at_head es)
put_before x e sorted es (in_tail _ _ j) = inl j

pub all-from : (sorted es : List (Key × Hit)) (x : Key × Hit) → IsIn x (all_entered sorted es) → IsIn x sorted ⊎ IsIn x es
all-from sorted [] x there = inl there
all-from sorted (e ∷ es) x there =
    elim (all-from (insert_entry key_cmp sorted e.0 e.1) es x there) [
      | inl j ↦ put_before x e sorted es (put-from e.0 e.1 sorted x j)
      | inr j ↦ inr (in_tail e _ j)
    ]

-- entries of one key are the same
abbrev pub ApartFrom : (Key × Hit) → List (Key × Hit) → Type 0
ApartFrom x es = (y : Key × Hit) → IsIn y es → x.0 ≡ y.0 → x ≡ y

pub all-keeps : (sorted es : List (Key × Hit)) (x : Key × Hit) → ApartFrom x es → IsIn x sorted → IsIn x (all_entered sorted es)
all-keeps sorted [] x apart there = there
all-keeps sorted (e ∷ es) x apart there = all-keeps (insert_entry key_cmp sorted e.0 e.1) es x (λ y j. apart y (in_tail e _ j))
    (put-keeps e.0 e.1 sorted x there (λ same. apart e (at_head es) same))

pub all-of : (sorted es : List (Key × Hit)) (x : Key × Hit) → ApartFrom x es → IsIn x es → IsIn x (all_entered sorted es)
all-of sorted [] x apart there = elim there [ ]
all-of sorted (e ∷ es) x apart (at_head _) = all-keeps (insert_entry key_cmp sorted e.0 e.1) es e (λ y j. apart y (in_tail e _ j))
    (put-in e.0 e.1 sorted)
all-of sorted (e ∷ es) x apart (in_tail _ _ j) = all-of (insert_entry key_cmp sorted e.0 e.1) es x (λ y i. apart y (in_tail e _ i)) j

-- ---- the whole

same_sheet : (m : Medium) (book : List SheetEntry) (z : Zipper) (p q : PlacedRule) → Applies m book z p → Applies m book z q
    → p.sheet ≡ q.sheet
    → p.entry ≡ q.entry
same_sheet m book z p q one other e = same_some p.entry q.entry (sym one.sheet ∙ ap (λ (n : ℕ). slice_get book n) e ∙ other.sheet)

-- the key tells the places, and so the rule
pub apart-standing : (m : Medium) (book : List SheetEntry) (z : Zipper) (p q : PlacedRule) → Applies m book z p → Applies m book z q
    → (standing p z).0 ≡ (standing q z).0 → standing p z ≡ standing q z
apart-standing m book z p q one other e =
    let sheet : p.sheet ≡ q.sheet = ap (λ (k : Key). k.sheet) e in
    let rule : p.rule ≡ q.rule = ap (λ (k : Key). k.rule) e in
    let entry : p.entry ≡ q.entry = same_sheet m book z p q one other sheet in
    let form : p.form ≡ q.form = same_some p.form q.form
    (sym one.rule ∙ ap (λ (s : SheetEntry). slice_get (sheet_of s.text).rules p.rule) entry ∙ ap
    (λ (n : ℕ). slice_get (sheet_of q.entry.text).rules n) rule ∙ other.rule) in
    λ i. standing (record { sheet = sheet i; entry = entry i; rule = rule i; form = form i }) z

pub each-applied : (m : Medium) (book : List SheetEntry) (z : Zipper) (p : PlacedRule) → Applies m book z p
    → IsIn (standing p z) (matched_entries m book z)
each-applied m book z p applies = all-of [] (entries_of_sheets m 0 book z) (standing p z) apart (stands-of m book z p applies)
  where
    apart : ApartFrom (standing p z) (entries_of_sheets m 0 book z)
    apart y j e =
        let s = stands-from m book z y j in
        apart-standing m book z p s.placed applies s.applies (e ∙ ap (λ (w : Key × Hit). w.0) s.is) ∙ sym s.is

pub only-applied : (m : Medium) (book : List SheetEntry) (z : Zipper) (e : Key × Hit) → IsIn e (matched_entries m book z)
    → Stands m book z e
only-applied m book z e there = by (all-from [] (entries_of_sheets m 0 book z) e there)
  where
    by : IsIn e [] ⊎ IsIn e (entries_of_sheets m 0 book z) → Stands m book z e
    by (inl j) = elim j [ ]
    by (inr j) = stands-from m book z e j
