-- An element that a selector matches has what the selector is filed under, and so the number of that is one of its own.
use Rattle.std.proofs.Common.{◌≡◌, ℕ, zero, suc, ◌+◌, ◌*◌, ◌%◌, ◌<◌, ◌==◌, Bool, true, false, cond, not, ◌&&◌, ◌||◌, List, [], ◌∷◌, ◌++◌}
use Rattle.std.proofs.Common.{length, map, drop, reverse, fold, filter, slice_get, Option, Some, None, option_map, option_to_list, codes}
use Rattle.std.proofs.Common.{IfSome, bytes_eq, refl, sym, ap, ◌∙◌, subst, eq-eqb, eqb-true, arith}
use Rattle.std.proofs.lemmas.Slice.Eq.{bytes_eq-Decides}
use Rattle.std.specs.Char.{is_ascii_whitespace, to_ascii_lowercase}
use Rattle.std.specs.List.{list_any, list_all, slice_split}
use Rattle.std.specs.Option.{option_or}
use Rattle.node_tree.specs.Labels.{value_of}
use Rattle.page_tree.specs.Zippers.{Zipper}
use Rattle.selectors.specs.Forms.{TestForm, any, tag, id, class, attr, root, empty, nth, only_child, only_of_type, never, SimpleForm, is}
use Rattle.selectors.specs.Forms.{is_not, CompoundForm, SelectorForm}
use Rattle.select_match.specs.Texts.{same_name, has_word, has_no_byte, value_passes}
use Rattle.select_match.specs.Elements.{is_element_node, zipper_name, attributes_of}
use Rattle.select_match.specs.Matches.{test_holds, simple_holds, compound_holds, left_holds, chain_holds, selector_matches, list_matches}
use Rattle.select_match.specs.Subjects.{pieces_in, element_id, class_pieces}
use Rattle.sheet_reader.specs.declared.filings.NameKind.{NameKind}
use Rattle.sheet_reader.specs.declared.filings.NameKind.TheVariants.{Tag, Id, Class}
use Rattle.sheet_reader.specs.Forms.{RuleForm}
use Rattle.sheet_reader.specs.Filings.{Filing, named, test_filing, simple_filing, last_filing, first_filing, filing}
use Rattle.sheet_reader.specs.Filings.{digest_base, digest_limit, kind_digit, with_digit, name_digest, filing_digest, selector_digest}
use Rattle.sheet_reader.specs.Filings.{agreed, list_digest, rule_digest}
use Rattle.sheet_reader.specs.Around.{held_at}
use Rattle.cascade_match.specs.declared.keys.Key.{Key}
use Rattle.cascade_match.specs.declared.hits.Hit.{Hit}
use Rattle.cascade_match.specs.Matched.{places_matching, greatest, Source, entry_by, keyed_rule, entries_of_rules, all_entered}
use Rattle.cascade_match.specs.ElementNames.{has_named, has_filing, element_digests, may_match}
use Rattle.cascade_match.proofs.MatchLemmas.{drop-at, rules-step}
use Rattle.cascade_match.proofs.StandingLemmas.{has_some, some_place}

-- ---- tests of two and more

both : (a b : Bool) → (a && b) ≡ true → (a ≡ true) × (b ≡ true)
both true b e = (refl, e)
both false b e = absurd (cc)

or_left : (a b : Bool) → a ≡ true → (a || b) ≡ true
or_left true b e = refl
or_left false b e = absurd (cc)

or_right : (a b : Bool) → b ≡ true → (a || b) ≡ true
or_right true b e = refl
or_right false b e = e

either : {C : Type 0} (a b : Bool) → (a ≡ true → C) → (b ≡ true → C) → (a || b) ≡ true → C
either true b left right e = left refl
either false b left right e = right e

module _ {A : Type 0} (p : A → Bool) where
  any-left : (xs ys : List A) → list_any p xs ≡ true → list_any p (xs ++ ys) ≡ true
  any-left [] ys e = absurd (cc)
  any-left (x ∷ xs) ys e =
      either (p x) (list_any p xs) (or_left (p x) (list_any p (xs ++ ys)))
      (λ more. or_right (p x) (list_any p (xs ++ ys)) (any-left xs ys more)) e

  any-right : (xs ys : List A) → list_any p ys ≡ true → list_any p (xs ++ ys) ≡ true
  any-right [] ys e = e
  any-right (x ∷ xs) ys e = or_right (p x) (list_any p (xs ++ ys)) (any-right xs ys e)

  any-of : (keep : A → Bool) (xs : List A) → list_any p (filter keep xs) ≡ true → list_any p xs ≡ true
  any-of keep [] e = e
  any-of keep (x ∷ xs) e = by (keep x) (any-of keep xs) e
    where
      by : (b : Bool) → (list_any p (filter keep xs) ≡ true → list_any p xs ≡ true)
          → list_any p (cond b (x ∷ filter keep xs) (filter keep xs)) ≡ true → (p x || list_any p xs) ≡ true
      by true rest h =
          either (p x) (list_any p (filter keep xs)) (or_left (p x) (list_any p xs)) (λ more. or_right (p x) (list_any p xs) (rest more)) h
      by false rest h = or_right (p x) (list_any p xs) (rest h)

-- ---- what a selector is filed under

test_has : (t : TestForm) (f : Filing) (z : Zipper) → test_filing t ≡ Some f → test_holds t z ≡ true → has_filing f z ≡ true
test_has any f z e h = absurd (cc)
test_has (tag name) f z e h = let same : named Tag name ≡ f = cc in subst (λ (g : Filing). has_filing g z ≡ true) same h
test_has (id name) f z e h = let same : named Id name ≡ f = cc in subst (λ (g : Filing). has_filing g z ≡ true) same h
test_has (class name) f z e h = let same : named Class name ≡ f = cc in subst (λ (g : Filing). has_filing g z ≡ true) same h
test_has (attr name op operand) f z e h = absurd (cc)
test_has root f z e h = absurd (cc)
test_has empty f z e h = absurd (cc)
test_has (nth kind step offset) f z e h = absurd (cc)
test_has only_child f z e h = absurd (cc)
test_has only_of_type f z e h = absurd (cc)
test_has never f z e h = absurd (cc)

simple_has : (s : SimpleForm) (f : Filing) (z : Zipper) → simple_filing s ≡ Some f → simple_holds s z ≡ true → has_filing f z ≡ true
simple_has (is t) f z e h = test_has t f z e h
simple_has (is_not t) f z e h = absurd (cc)

one_has : (s : SimpleForm) (f : Filing) (z : Zipper) (o : Option Filing) → (o ≡ Some f → has_filing f z ≡ true)
    → simple_holds s z ≡ true → option_or o (simple_filing s) ≡ Some f → has_filing f z ≡ true
one_has s f z None rest h e = simple_has s f z e h
one_has s f z (Some g) rest h e = rest e

last_has : (tests : List SimpleForm) (f : Filing) (z : Zipper) → last_filing tests ≡ Some f
    → list_all (λ s. simple_holds s z) tests ≡ true → has_filing f z ≡ true
last_has [] f z e h = absurd (cc)
last_has (s ∷ tests) f z e h =
    let each = both (simple_holds s z) (list_all (λ t. simple_holds t z) tests) h in
    one_has s f z (last_filing tests) (λ w. last_has tests f z w each.1) each.0 e

first_has : (cs : List CompoundForm) (f : Filing) (z : Zipper) → first_filing cs ≡ Some f → chain_holds cs z ≡ true → has_filing f z ≡ true
first_has [] f z e h = absurd (cc)
first_has (c ∷ cs) f z e h =
    let holds = both (compound_holds c z) (left_holds cs c.joint z) h in
    let tests = both (is_element_node z) (list_all (λ s. simple_holds s z) c.tests) holds.0 in
    last_has c.tests f z e tests.1

-- an element that a selector matches has what the selector is filed under
pub selector-has : (s : SelectorForm) (f : Filing) (z : Zipper) → filing s ≡ Some f → selector_matches s z ≡ true → has_filing f z ≡ true
selector-has s f z e h =
    first_has (reverse s.compounds) f z e ((both (not s.pseudo_element) (chain_holds (reverse s.compounds) z) h).1)

-- ---- numbers of names

abbrev plain_digit : ℕ → ℕ → ℕ
plain_digit n b = (n * digest_base + b) % digest_limit

fold-lower : (n : ℕ) (bs : List ℕ) → fold with_digit n bs ≡ fold plain_digit n (map to_ascii_lowercase bs)
fold-lower n [] = refl
fold-lower n (b ∷ bs) = fold-lower (with_digit n b) bs

same-digest : (kind : NameKind) (a b : List ℕ) → same_name a b ≡ true → name_digest kind a ≡ name_digest kind b
same-digest kind a b e =
    fold-lower (kind_digit kind) a
    ∙ ap (fold plain_digit (kind_digit kind)) ((bytes_eq-Decides (map to_ascii_lowercase a) (map to_ascii_lowercase b)).0 e)
    ∙ sym (fold-lower (kind_digit kind) b)

equal-digest : (kind : NameKind) (a b : List ℕ) → bytes_eq a b ≡ true → (name_digest kind a == name_digest kind b) ≡ true
equal-digest kind a b e = eq-eqb (name_digest kind a) (name_digest kind b) (ap (name_digest kind) ((bytes_eq-Decides a b).0 e))

id-there : (o : Option (List ℕ)) (name : List ℕ) → value_passes (λ v. bytes_eq v name) o ≡ true
    → list_any (λ d. d == name_digest Id name) (option_to_list (option_map (name_digest Id) o)) ≡ true
id-there None name h = absurd (cc)
id-there (Some v) name h = or_left (name_digest Id v == name_digest Id name) false (equal-digest Id v name h)

piece-there : (ps : List (List ℕ)) (name : List ℕ) → list_any (λ w. bytes_eq w name) ps ≡ true
    → list_any (λ d. d == name_digest Class name) (map (name_digest Class) ps) ≡ true
piece-there [] name h = absurd (cc)
piece-there (p ∷ ps) name h =
    let first = name_digest Class p == name_digest Class name in
    let rest = list_any (λ d. d == name_digest Class name) (map (name_digest Class) ps) in
    either (bytes_eq p name) (list_any (λ w. bytes_eq w name) ps) (λ e. or_left first rest (equal-digest Class p name e))
    (λ more. or_right first rest (piece-there ps name more)) h

class-there : (o : Option (List ℕ)) (name : List ℕ) → value_passes (has_word name) o ≡ true
    → list_any (λ d. d == name_digest Class name) (map (name_digest Class) (pieces_in o)) ≡ true
class-there None name h = absurd (cc)
class-there (Some value) name h =
    let pieces = slice_split is_ascii_whitespace value in
    piece-there pieces name (any-of (λ w. bytes_eq w name) (λ piece. not (has_no_byte piece)) pieces h)

abbrev ids_of : Zipper → List ℕ
ids_of z = option_to_list (option_map (name_digest Id) (element_id z))

abbrev classes_of : Zipper → List ℕ
classes_of z = map (name_digest Class) (class_pieces z)

name-there : (kind : NameKind) (name : List ℕ) (z : Zipper) → has_named kind name z ≡ true
    → list_any (λ d. d == name_digest kind name) (element_digests z) ≡ true
name-there Tag name z h =
    let rest = list_any (λ d. d == name_digest Tag name) (ids_of z ++ classes_of z) in
    or_left (name_digest Tag (zipper_name z) == name_digest Tag name) rest
    (eq-eqb (name_digest Tag (zipper_name z)) (name_digest Tag name) (same-digest Tag (zipper_name z) name h))
name-there Id name z h =
    let rest = list_any (λ d. d == name_digest Id name) (ids_of z ++ classes_of z) in
    or_right (name_digest Tag (zipper_name z) == name_digest Id name) rest
    (any-left (λ d. d == name_digest Id name) (ids_of z) (classes_of z) (id-there (element_id z) name h))
name-there Class name z h =
    let rest = list_any (λ d. d == name_digest Class name) (ids_of z ++ classes_of z) in
    or_right (name_digest Tag (zipper_name z) == name_digest Class name) rest
    (any-right (λ d. d == name_digest Class name) (ids_of z) (classes_of z)
    (class-there (value_of (codes "class") (attributes_of z)) name h))

-- ---- selectors, lists, rules

abbrev is_told : ℕ → Zipper → Bool
is_told n z = list_any (λ d. d == n) (element_digests z)

selector-told : (s : SelectorForm) (n : ℕ) (z : Zipper) → selector_digest s ≡ Some n → selector_matches s z ≡ true → is_told n z ≡ true
selector-told s n z e h = by (filing s) (λ f at. selector-has s f z at h) e
  where
    by : (o : Option Filing) → ((f : Filing) → o ≡ Some f → has_filing f z ≡ true) → option_map filing_digest o ≡ Some n
        → is_told n z ≡ true
    by None has at = absurd (cc)
    by (Some f) has at =
        let same : filing_digest f ≡ n = cc in
        subst (λ (m : ℕ). is_told m z ≡ true) same (name-there f.kind f.name z (has f refl))

agreed-pick : (x y n : ℕ) (b : Bool) → (b ≡ true → x ≡ y) → cond b (Some x) None ≡ Some n → (Some x ≡ Some n) × (Some y ≡ Some n)
agreed-pick x y n true same e = (e, ap (λ (m : ℕ). Some m) (sym (same refl)) ∙ e)
agreed-pick x y n false same e = absurd (cc)

agreed-both : (a b : Option ℕ) (n : ℕ) → agreed a b ≡ Some n → (a ≡ Some n) × (b ≡ Some n)
agreed-both None b n e = absurd (cc)
agreed-both (Some x) None n e = absurd (cc)
agreed-both (Some x) (Some y) n e = agreed-pick x y n (x == y) (eqb-true x y) e

all-told : (ss : List SelectorForm) (a : Option ℕ) (n : ℕ) (z : Zipper) → fold (λ n t. agreed n (selector_digest t)) a ss ≡ Some n
    → (a ≡ Some n) × (list_matches ss z ≡ true → is_told n z ≡ true)
all-told [] a n z e = (e, λ h. absurd (cc))
all-told (s ∷ ss) a n z e =
    let rest = all-told ss (agreed a (selector_digest s)) n z e in
    let pair = agreed-both a (selector_digest s) n rest.0 in
    (pair.0, λ h. either (selector_matches s z) (list_matches ss z) (selector-told s n z pair.1) rest.1 h)

list-told : (ss : List SelectorForm) (z : Zipper) → list_matches ss z ≡ true → may_match (list_digest ss) (element_digests z) ≡ true
list-told [] z h = absurd (cc)
list-told (s ∷ ss) z h = by (list_digest (s ∷ ss)) refl
  where
    by : (o : Option ℕ) → list_digest (s ∷ ss) ≡ o → may_match o (element_digests z) ≡ true
    by None e = refl
    by (Some n) e =
        let rest = all-told ss (selector_digest s) n z e in
        either (selector_matches s z) (list_matches ss z) (selector-told s n z rest.0) rest.1 h

-- no selector of a rule matches that has none of the element's numbers
pub rule-unmatched : (r : RuleForm) (z : Zipper) → may_match (rule_digest r) (element_digests z) ≡ false
    → list_matches r.selectors z ≡ false
rule-unmatched r z e = by (list_matches r.selectors z) (list-told r.selectors z)
  where
    by : (b : Bool) → (b ≡ true → may_match (rule_digest r) (element_digests z) ≡ true) → b ≡ false
    by true told = let wrong : true ≡ false = sym (told refl) ∙ e in absurd (cc)
    by false told = refl

none-some : (ps : List ℕ) → has_some ps ≡ false → ps ≡ []
none-some [] e = refl
none-some (p ∷ ps) e = absurd (cc)

no-entry : (b : Bool) → cond {A = Option (Key × Hit)} b None None ≡ None
no-entry true = refl
no-entry false = refl

-- such a rule has no entry
pub unmatched-entry : (from : Source) (i : ℕ) (r : RuleForm) (z : Zipper) → may_match (rule_digest r) (element_digests z) ≡ false
    → keyed_rule from i r z ≡ None
unmatched-entry from i r z e =
    let none = none-some (places_matching r.selectors z) (sym (some_place 0 r.selectors z) ∙ rule-unmatched r z e) in
    ap (λ (ps : List ℕ). cond (held_at from.held r.media) (entry_by from i (greatest r.selectors z) ps) None) none
    ∙ no-entry (held_at from.held r.media)

digest-rule : (rs : List RuleForm) (i : ℕ) (d : Option ℕ) → i < length rs → IfSome (slice_get rs i) (λ r. d ≡ rule_digest r)
    → (r : RuleForm) × (slice_get rs i ≡ Some r) × (d ≡ rule_digest r)
digest-rule [] i d inside told = absurd (omega (arith, inside))
digest-rule (x ∷ rs) zero d inside told = (x, refl, told)
digest-rule (x ∷ rs) (suc i) d inside told = digest-rule rs i d (omega (arith, inside)) told

-- a rule that has none of the element's numbers is passed over
pub untried-step : (from : Source) (rs : List RuleForm) (z : Zipper) (i : ℕ) (d : Option ℕ) (names : List ℕ) (entries : List (Key × Hit))
    → i < length rs → IfSome (slice_get rs i) (λ r. d ≡ rule_digest r) → names ≡ element_digests z → may_match d names ≡ false
    → all_entered entries (entries_of_rules from (i + 1) (drop (i + 1) rs) z)
    ≡ all_entered entries (entries_of_rules from i (drop i rs) z)
untried-step from rs z i d names entries inside told are e =
    let p = digest-rule rs i d inside told in
    let none : may_match (rule_digest p.0) (element_digests z) ≡ false = (λ j. may_match (sym p.2 j) (sym are j)) ∙ e in
    rules-step from rs z i p.0 entries entries (drop-at rs i p.0 p.1)
    (ap (λ (o : Option (Key × Hit)). all_entered entries (option_to_list o)) (sym (unmatched-entry from i p.0 z none)))
