-- A rule put in at a place of a sheet: the reading of the new text is the old one, and the rule's in it.
use Rattle.std.proofs.Common.{◌≡◌, ℕ, ◌+◌, ◌<◌, ◌≤◌, true, false, List, [], ◌∷◌, ◌++◌, map, length, take, drop, Contains, Option, Some}
use Rattle.std.proofs.Common.{None, refl, sym, ap, subst, ◌∙◌, arith}
use Rattle.std.specs.List.{AllByRecursion}
use Rattle.std.specs.Prelude.{nat_lt, nat_le, option_map}
use Rattle.std.proofs.lemmas.Bool.Decides.{nat_tests}
use Rattle.std.proofs.Math.Seq.{drop-append_seam, take-append_seam}
use Rattle.css_tokens.specs.Codes.{is_white, begins}
use Rattle.css_tokens.specs.Pieces.{pieces}
use Rattle.selectors.specs.Forms.{SelectorForm}
use Rattle.selectors.specs.Moves.{placed_selector}
use Rattle.sheet_reader.specs.declared.sheet.MediaRule.{MediaRule}
use Rattle.sheet_reader.specs.declared.sheet.Property.{Property}
use Rattle.sheet_reader.specs.declared.sheet.Sheet.{Sheet}
use Rattle.sheet_reader.specs.Forms.{range, RuleForm}
use Rattle.sheet_reader.specs.Joins.{behind_rule, behind_media, joined}
use Rattle.sheet_reader.specs.Layout.{level_of}
use Rattle.sheet_reader.specs.Moves.{placed_property, placed_media, placed_rule, replaced}
use Rattle.sheet_reader.specs.Parts.{parts}
use Rattle.sheet_reader.specs.Sheets.{places_in, sheet_of}
use Rattle.sheet_reader.proofs.JoinedLaw.{joined_holds}
use Rattle.sheet_reader.proofs.JoinForms.{map_append}
use Rattle.sheet_reader.proofs.RepairBounds.{AreFrom, places_from}
use Rattle.sheet_laws.specs.Inserted.{inserted, IsOneRule, put_between}
use Rattle.sheet_laws.proofs.FrontCuts.{FrontAt, front_at}
use Rattle.sheet_laws.proofs.FrontJoins.{joined_at}
use Rattle.sheet_laws.proofs.HeadBounds.{rules_before, medias_before}
use Rattle.sheet_laws.proofs.InsertedLists.{put_here, all_mapped, all_anyway, map_swapped}
use Rattle.sheet_laws.proofs.OneRules.{one_shut, one_solid, one_media, one_places, one_rules, one_some}

-- ---- tests of places

starts_before : (a b : ℕ) → a < b → nat_lt a b ≡ true
starts_before a b less = grind (arith, nat_tests)

starts_behind : (a b : ℕ) → nat_lt (b + a) b ≡ false
starts_behind a b = grind (arith, nat_tests)

is_up_to : (a b : ℕ) → a ≤ b → nat_le a b ≡ true
is_up_to a b less = grind (arith, nat_tests)

is_past : (a b : ℕ) → 0 < a → nat_le (b + a) b ≡ false
is_past a b some = grind (arith, nat_tests)

-- ---- what is behind one text and another is behind both, in either order

in_order : (x n place : ℕ) → n + (x + place) ≡ x + (n + place)
in_order x n place = omega arith

same_number : (k : ℕ) (o : Option ℕ) → option_map (λ m. k + m) o ≡ option_map (λ m. k + m) (option_map (λ m. 0 + m) o)
same_number k None = refl
same_number k (Some m) = let e : k + m ≡ k + (0 + m) = omega arith in ap (λ (j : ℕ). Some j) e

rule_swapped : (x n k : ℕ) (r : RuleForm) → placed_rule (λ place. n + place) (behind_rule x k r) ≡ behind_rule x k (behind_rule n 0 r)
rule_swapped x n k r =
    let f = in_order x n in
    let ss = map_swapped (placed_selector (λ place. n + place)) (placed_selector (λ place. x + place))
    (placed_selector (λ place. x + place)) (placed_selector (λ place. n + place)) (λ (s : SelectorForm). λ i. record {
      compounds = s.compounds;
      pseudo_element = s.pseudo_element;
      range = range (f s.range.start i) (f s.range.end i);
    }) r.selectors in
    let ps = map_swapped (placed_property (λ place. n + place)) (placed_property (λ place. x + place))
    (placed_property (λ place. x + place)) (placed_property (λ place. n + place)) (λ (p : Property). λ i. record {
      name = p.name;
      value = range (f p.value.start i) (f p.value.end i);
      important = p.important;
      whole = range (f p.whole.start i) (f p.whole.end i);
    }) r.properties in
    let m = same_number k r.media in
    λ i. record {
      prelude = range (f r.prelude.start i) (f r.prelude.end i);
      selectors = ss i;
      body = range (f r.body.start i) (f r.body.end i);
      properties = ps i;
      media = m i;
    }

media_swapped : (x n k : ℕ) (m : MediaRule) → placed_media (λ place. n + place) (behind_media x k m) ≡ behind_media x k (behind_media n 0 m)
media_swapped x n k m =
    let f = in_order x n in
    let i = same_number k m.inside in
    λ j. record { prelude = range (f m.prelude.start j) (f m.prelude.end j); inside = i j }

-- ---- two sheets, and a rule between them

-- what stands before a place
record IsBefore (x : ℕ) (s : Sheet) : Type 0 where
  rules : AllByRecursion (λ r. nat_lt r.prelude.start x ≡ true) s.rules
  places : AllByRecursion (λ place. nat_le place x ≡ true) s.places
  media : AllByRecursion (λ m. nat_lt m.prelude.start x ≡ true) s.media

module _ (x n : ℕ) (s own t : Sheet) (before : IsBefore x s) where
  put_rules : map (behind_rule x (length s.media)) own.rules ≡ map (placed_rule (λ place. x + place)) own.rules
      → s.rules ++ map (behind_rule x (length s.media)) (own.rules ++ map (behind_rule n 0) t.rules)
      ≡ put_between (λ r. nat_lt r.prelude.start x) (placed_rule (λ place. n + place)) (map (placed_rule (λ place. x + place)) own.rules)
      (s.rules ++ map (behind_rule x (length s.media)) t.rules)
  put_rules no_around =
      let f = behind_rule x (length s.media) in
      let behind = all_mapped (λ (r : RuleForm). Unit {0}) (λ (r : RuleForm). nat_lt r.prelude.start x ≡ false) f
      (λ r any. starts_behind r.prelude.start x) t.rules (all_anyway (λ (r : RuleForm). Unit {0}) (λ r. tt) t.rules) in
      let swapped = map_swapped (placed_rule (λ place. n + place)) f f (behind_rule n 0) (rule_swapped x n (length s.media)) t.rules in
      ap (λ (rs : List RuleForm). s.rules ++ rs) (map_append f own.rules (map (behind_rule n 0) t.rules)
      ∙ (λ i. no_around i ++ sym swapped i))
      ∙ sym (put_here (λ (r : RuleForm). nat_lt r.prelude.start x) (placed_rule (λ place. n + place))
      (map (placed_rule (λ place. x + place)) own.rules) s.rules (map f t.rules) before.rules behind)

  put_media : s.media ++ map (behind_media x (length s.media)) (map (behind_media n 0) t.media)
      ≡ put_between (λ m. nat_lt m.prelude.start x) (placed_media (λ place. n + place)) []
      (s.media ++ map (behind_media x (length s.media)) t.media)
  put_media =
      let f = behind_media x (length s.media) in
      let behind = all_mapped (λ (m : MediaRule). Unit {0}) (λ (m : MediaRule). nat_lt m.prelude.start x ≡ false) f
      (λ m any. starts_behind m.prelude.start x) t.media (all_anyway (λ (m : MediaRule). Unit {0}) (λ m. tt) t.media) in
      let swapped = map_swapped (placed_media (λ place. n + place)) f f (behind_media n 0) (media_swapped x n (length s.media)) t.media in
      ap (λ (ms : List MediaRule). s.media ++ ms) (sym swapped)
      ∙ sym (put_here (λ (m : MediaRule). nat_lt m.prelude.start x) (placed_media (λ place. n + place)) [] s.media (map f t.media)
      before.media behind)

  put_places : (others : List ℕ) → AllByRecursion (λ place. 0 < place) others
      → s.places ++ map (λ place. x + place) (n ∷ map (λ place. n + place) others)
      ≡ put_between (λ place. nat_le place x) (λ place. n + place) ((x + n) ∷ []) (s.places ++ map (λ place. x + place) others)
  put_places others some =
      let behind = all_mapped (λ (place : ℕ). 0 < place) (λ (place : ℕ). nat_le place x ≡ false) (λ (place : ℕ). x + place)
      (λ place less. is_past place x less) others some in
      let swapped = map_swapped (λ (place : ℕ). n + place) (λ (place : ℕ). x + place) (λ (place : ℕ). x + place)
      (λ (place : ℕ). n + place) (in_order x n) others in
      ap (λ (ns : List ℕ). s.places ++ ((x + n) ∷ ns)) (sym swapped)
      ∙ sym (put_here (λ (place : ℕ). nat_le place x) (λ (place : ℕ). n + place) ((x + n) ∷ []) s.places
      (map (λ (place : ℕ). x + place) others) before.places behind)

  inserted_joined : own.media ≡ [] → own.places ≡ 0 ∷ (n ∷ [])
      → map (behind_rule x (length s.media)) own.rules ≡ map (placed_rule (λ place. x + place)) own.rules
      → AllByRecursion (λ place. 0 < place) (drop 1 t.places)
      → joined x s (joined n own t) ≡ inserted (joined x s t) x own n
  inserted_joined no_media ends no_around some =
      let count : length own.media ≡ 0 = ap length no_media in
      let rules = ap (λ (j : ℕ). s.rules ++ map (behind_rule x (length s.media)) (own.rules ++ map (behind_rule n j) t.rules)) count
      ∙ put_rules no_around in
      let media = (λ i. s.media ++ map (behind_media x (length s.media)) (no_media i ++ map (behind_media n (count i)) t.media))
      ∙ put_media in
      let others = map (λ (place : ℕ). n + place) (drop 1 t.places) in
      let places = ap (λ (ns : List ℕ). s.places ++ map (λ place. x + place) (drop 1 (ns ++ others))) ends
      ∙ put_places (drop 1 t.places) some in
      λ i. record { rules = rules i; places = places i; media = media i }

-- ---- the law

all_up_to : (n : ℕ) (xs : List ℕ) → AreFrom 0 n xs → AllByRecursion (λ place. nat_le place n ≡ true) xs
all_up_to n [] all = tt
all_up_to n (x ∷ xs) all = (is_up_to x n all.1, all_up_to n xs all.2)

all_some : (n : ℕ) (xs : List ℕ) → AreFrom 0 n xs → AllByRecursion (λ place. 0 < place) xs
all_some n [] all = tt
all_some n (x ∷ xs) all = (all.0, all_some n xs all.2)

-- all that a text says is before its end
sheet_before : (text : List ℕ) → IsBefore (length text) (sheet_of text)
sheet_before text =
    let n = length text in
    record {
      rules = each (λ (r : RuleForm). r.prelude.start) n (sheet_of text).rules (rules_before text);
      places = (is_up_to 0 n (omega arith), all_up_to n (places_in text (parts (level_of None) (pieces text))) (places_from text));
      media = each (λ (m : MediaRule). m.prelude.start) n (sheet_of text).media (medias_before text);
    }
  where
    each : {A : Type 0} (start : A → ℕ) (n : ℕ) (xs : List A) → AllByRecursion (λ x. start x < n) xs
        → AllByRecursion (λ x. nat_lt (start x) n ≡ true) xs
    each start n [] all = tt
    each start n (x ∷ xs) all = (starts_before (start x) n all.0, each start n xs all.1)

inserted_at : (text put : List ℕ) (x : ℕ) (f : FrontAt text x) → IsOneRule put
    → sheet_of (f.front ++ (put ++ f.after)) ≡ inserted (sheet_of text) (length f.front) (sheet_of put) (length put)
inserted_at text put x f one =
    let front = f.front in
    let s = sheet_of front in
    let t = sheet_of f.after in
    let n = length front in
    let solid : begins is_white (put ++ f.after) ≡ false = front_solid put f.after (one_solid put one) (one_some put one) in
    joined_at text x f (put ++ f.after) (λ e. solid)
    ∙ ap (joined n s) (joined_holds put f.after (one_shut put one))
    ∙ inserted_joined n (length put) s (sheet_of put) t (sheet_before front) (one_media put one) (one_places put one)
    (one_rules put one n (length s.media))
    (all_some (length f.after) (places_in f.after (parts (level_of None) (pieces f.after))) (places_from f.after))
    ∙ ap (λ (a : Sheet). inserted a n (sheet_of put) (length put))
    (sym (joined_at text x f f.after (λ e. e)) ∙ ap sheet_of (sym f.is))
  where
    front_solid : (own other : List ℕ) → begins is_white own ≡ false → 0 < length own → begins is_white (own ++ other) ≡ false
    front_solid [] other e some = absurd (omega (arith, some))
    front_solid (c ∷ own) other e some = e

pub inserted_holds : (text put : List ℕ) (x : ℕ) → Contains (sheet_of text).places x → IsOneRule put
    → sheet_of (replaced text (range x x) put) ≡ inserted (sheet_of text) x (sheet_of put) (length put)
inserted_holds text put x there one =
    let f = front_at text x there in
    let whole = inserted_at text put x f one in
    let here : replaced text (range (length f.front) (length f.front)) put ≡ f.front ++ (put ++ f.after) =
    let first = ap (take (length f.front)) f.is ∙ take-append_seam f.front f.after in
    let last = ap (drop (length f.front)) f.is ∙ drop-append_seam f.front f.after in
    λ i. first i ++ (put ++ last i) in
    subst (λ (m : ℕ). sheet_of (replaced text (range m m) put) ≡ inserted (sheet_of text) m (sheet_of put) (length put)) f.size
    (ap sheet_of here ∙ whole)
