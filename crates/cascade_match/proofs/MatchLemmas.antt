-- One selector, one rule, one sheet after the other.
use Rattle.std.proofs.Common.{◌≡◌, ℕ, zero, suc, ◌+◌, ◌<◌, Bool, true, false, cond, List, [], ◌∷◌, ◌++◌, map, drop, length, get_or, fold}
use Rattle.std.proofs.Common.{Some, sym, refl, ap, ◌∙◌, arith}
use Rattle.std.proofs.lemmas.List.{append_assoc, drop_more, drop-map}
use Rattle.std.specs.List.{slice_get, filter}
use Rattle.std.specs.Option.{option_to_list}
use Rattle.page_tree.specs.Zippers.{Zipper}
use Rattle.selectors.specs.declared.weight.Spec.{Spec}
use Rattle.selectors.specs.Forms.{SelectorForm}
use Rattle.selectors.specs.Weight.{specificity_of}
use Rattle.select_match.specs.Matches.{selector_matches}
use Rattle.sheet_reader.specs.declared.book.SheetEntry.{SheetEntry}
use Rattle.sheet_reader.specs.declared.sheet.StyleRule.{StyleRule}
use Rattle.sheet_reader.specs.Forms.{RuleForm, rule_seen}
use Rattle.sheet_reader.specs.Sheets.{sheet_of}
use Rattle.media_rules.specs.declared.medium.Medium.{Medium}
use Rattle.cascade_match.specs.declared.keys.Key.{Key}
use Rattle.cascade_match.specs.declared.hits.Hit.{Hit}
use Rattle.cascade_match.specs.Precedence.{key_cmp, greater}
use Rattle.cascade_match.specs.Matched.{places_from, Source, source_of, keyed_rule, entries_of_rules, entries_of_sheets, all_entered}
use Rattle.std.specs.BTreeMap.{insert_entry}

drop-suc : {A : Type 0} (xs : List A) (i : ℕ) (x : A) → slice_get xs i ≡ Some x → drop i xs ≡ x ∷ drop (suc i) xs
drop-suc [] i x e = absurd (cc)
drop-suc (y ∷ xs) zero x e = let same : y ≡ x = cc in ap (λ w. w ∷ xs) same
drop-suc (y ∷ xs) (suc i) x e = drop-suc xs i x e

-- the element at a place, and those behind it
pub drop-at : {A : Type 0} (xs : List A) (i : ℕ) (x : A) → slice_get xs i ≡ Some x → drop i xs ≡ x ∷ drop (i + 1) xs
drop-at xs i x e = let one : suc i ≡ i + 1 = omega arith in drop-suc xs i x e ∙ ap (λ n. x ∷ drop n xs) one

push_one : (b : Bool) (front : List ℕ) (i : ℕ) (rest : List ℕ) → (front ++ cond b (i ∷ []) []) ++ rest ≡ front ++ cond b (i ∷ rest) rest
push_one true front i rest = append_assoc front (i ∷ []) rest
push_one false front i rest = append_assoc front [] rest

module _ (ss : List SelectorForm) (z : Zipper) (i : ℕ) (s : SelectorForm) (at : slice_get ss i ≡ Some s) where
  -- the selector at a place matches or does not
  pub places-step : (old new : List ℕ) (test : Bool) → new ≡ old ++ cond test (i ∷ []) [] → test ≡ selector_matches s z
      → new ++ places_from (i + 1) (drop (i + 1) ss) z ≡ old ++ places_from i (drop i ss) z
  places-step old new test e is =
      ap (λ (l : List ℕ). l ++ places_from (i + 1) (drop (i + 1) ss) z) (e ∙ ap (λ (b : Bool). old ++ cond b (i ∷ []) []) is)
      ∙ push_one (selector_matches s z) old i (places_from (i + 1) (drop (i + 1) ss) z)
      ∙ sym (ap (λ (l : List SelectorForm). old ++ places_from i l z) (drop-at ss i s at))

  kept_weight : (b : Bool) (best : Spec) (rest : List SelectorForm)
      → fold (λ best s. greater best (specificity_of s)) (cond b (greater best (specificity_of s)) best) rest
      ≡ fold (λ best s. greater best (specificity_of s)) best (cond b (s ∷ rest) rest)
  kept_weight true best rest = refl
  kept_weight false best rest = refl

  pub weight-step : (best next other : Spec) (test : Bool) → next ≡ cond test (greater best other) best → test ≡ selector_matches s z
      → other ≡ specificity_of s
      → fold (λ best s. greater best (specificity_of s)) next (filter (λ s. selector_matches s z) (drop (i + 1) ss))
      ≡ fold (λ best s. greater best (specificity_of s)) best (filter (λ s. selector_matches s z) (drop i ss))
  weight-step best next other test e is weighs =
      let rest = filter (λ s. selector_matches s z) (drop (i + 1) ss) in
      ap (λ (w : Spec). fold (λ best s. greater best (specificity_of s)) w rest)
      (e ∙ ap (λ (b : Bool). cond b (greater best other) best) is ∙ ap
      (λ (w : Spec). cond (selector_matches s z) (greater best w) best) weighs)
      ∙ kept_weight (selector_matches s z) best rest
      ∙ sym (ap (λ (l : List SelectorForm). fold (λ best s. greater best (specificity_of s)) best (filter (λ s. selector_matches s z) l))
      (drop-at ss i s at))

pub put_all-append : (es xs ys : List (Key × Hit)) → all_entered es (xs ++ ys) ≡ all_entered (all_entered es xs) ys
put_all-append es [] ys = refl
put_all-append es (x ∷ xs) ys = put_all-append (insert_entry key_cmp es x.0 x.1) xs ys

-- the rule at a place of a sheet
pub rules-at : (xs : List StyleRule) (rs : List RuleForm) (i : ℕ) (x : StyleRule) → map rule_seen xs ≡ rs → i < length xs
    → x ≡ get_or xs i x → drop i rs ≡ rule_seen x ∷ drop (i + 1) rs
rules-at xs rs i x seen inside is =
    ap (λ (l : List RuleForm). drop i l) (sym seen) ∙ drop-map rule_seen i xs ∙ ap (λ (l : List StyleRule). map rule_seen l)
    (drop_more xs i x inside) ∙ ap (λ (y : StyleRule). rule_seen y ∷ map rule_seen (drop (i + 1) xs)) (sym is)
    ∙ ap (λ (l : List RuleForm). rule_seen x ∷ l) (sym (drop-map rule_seen (i + 1) xs) ∙ ap (λ (l : List RuleForm). drop (i + 1) l) seen)

pub rules-step : (from : Source) (rs : List RuleForm) (z : Zipper) (i : ℕ) (r : RuleForm) (old new : List (Key × Hit))
    → drop i rs ≡ r ∷ drop (i + 1) rs → new ≡ all_entered old (option_to_list (keyed_rule from i r z))
    → all_entered new (entries_of_rules from (i + 1) (drop (i + 1) rs) z) ≡ all_entered old (entries_of_rules from i (drop i rs) z)
rules-step from rs z i r old new at e =
    let rest = entries_of_rules from (i + 1) (drop (i + 1) rs) z in
    ap (λ (l : List (Key × Hit)). all_entered l rest) e ∙ sym (put_all-append old (option_to_list (keyed_rule from i r z)) rest) ∙ sym
    (ap (λ (l : List RuleForm). all_entered old (entries_of_rules from i l z)) at)

pub sheets-step : (m : Medium) (book : List SheetEntry) (z : Zipper) (i : ℕ) (s : SheetEntry) (old new : List (Key × Hit))
    → slice_get book i ≡ Some s
    → new ≡ all_entered old (entries_of_rules (source_of m i s) 0 (sheet_of s.text).rules z)
    → all_entered new (entries_of_sheets m (i + 1) (drop (i + 1) book) z) ≡ all_entered old (entries_of_sheets m i (drop i book) z)
sheets-step m book z i s old new at e =
    let rest = entries_of_sheets m (i + 1) (drop (i + 1) book) z in
    ap (λ (l : List (Key × Hit)). all_entered l rest) e ∙ sym
    (put_all-append old (entries_of_rules (source_of m i s) 0 (sheet_of s.text).rules z) rest)
    ∙ sym (ap (λ (l : List SheetEntry). all_entered old (entries_of_sheets m i l z)) (drop-at book i s at))
