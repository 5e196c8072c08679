-- In which order the bodies of a sheet's style rules stand.
use Rattle.std.proofs.Common.{◌≡◌, ℕ, zero, suc, ◌+◌, ◌<◌, ◌≤◌, nat_lt, Bool, true, false, cond, All, List, [], ◌∷◌, ◌++◌, map, length}
use Rattle.std.proofs.Common.{Option, Some, None, refl, sym, ap, subst, ◌∙◌, append_assoc, arith}
use Rattle.std.specs.Prelude.{slice_get, option_to_list}
use Rattle.std.specs.Str.{IsUtf8}
use Rattle.std.proofs.lemmas.Bool.Decides.{nat_tests}
use Rattle.std.proofs.lemmas.List.Elements.{All-head, All-tail}
use Rattle.css_tokens.specs.declared.token.Range.{Range}
use Rattle.css_tokens.specs.declared.token.Token.{Token}
use Rattle.css_tokens.specs.Pieces.{pieces}
use Rattle.selectors.specs.Words.{words_after}
use Rattle.selectors.specs.Reading.{range_of}
use Rattle.selectors.specs.Ranges.{AreBetween, AreTiles}
use Rattle.selectors.proofs.RangeForms.{tiles_whole, tiles_cut, words_between, range_spans}
use Rattle.sheet_reader.specs.Forms.{range, RuleForm}
use Rattle.sheet_reader.specs.Parts.{PartForm, part_pieces, parts}
use Rattle.sheet_reader.specs.Layout.{Laid, level_of, laid_out, media_in}
use Rattle.sheet_reader.specs.Sheets.{body_end, rule_of, sheet_of}
use Rattle.sheet_reader.specs.Usable.{IsRuleOf, rule_range}
use Rattle.sheet_reader.proofs.GrammarForms.{parts_spelled}
use Rattle.sheet_reader.proofs.LayoutForms.{laid_spelled}
use Rattle.sheet_reader.proofs.UsableForms.{sheet_usable}
use Rattle.sheet_reader.proofs.PartMoves.{flat_of}
use Rattle.sheet_reader.proofs.RulePaths.{RulePart, Path, here, past_part, past_media, in_media, find, path_flat}
use Rattle.sheet_reader.proofs.MovedLaw.{head_of, path_body}
use Rattle.style_edits.specs.EditedRules.{rules_before}

-- ---- a rule's prelude ends before its `{`

-- the last ones of these pieces are the rule's prelude
record Ends (text : List ℕ) (r : RuleForm) (q : RulePart) (xs : List Token) : Type 0 where
  front : List Token
  parted : xs ≡ front ++ q.prelude
  prelude : range_of (words_after text false q.prelude) ≡ Some r.prelude

ends_behind : (text : List ℕ) (r : RuleForm) (q : RulePart) (ts xs : List Token) → Ends text r q xs → Ends text r q (ts ++ xs)
ends_behind text r q ts xs e = record {
  front = ts ++ e.front;
  parted = ap (λ (ys : List Token). ts ++ ys) e.parted ∙ sym (append_assoc ts e.front q.prelude);
  prelude = e.prelude;
}

path_prelude : (text : List ℕ) (r : RuleForm) (q : RulePart) (around : Option ℕ) (k : ℕ) (ps : List PartForm) (ls : List Laid)
    (rs : List RuleForm) (xs more : List Token) → Path text r q around k ps ls rs xs more → Ends text r q xs
unfolding rule_of
path_prelude text r q around k _ _ _ _ _ (here ps ls are e) = record {
  front = [];
  parted = refl;
  prelude = (head_of text around (words_after text false q.prelude) (range q.brace.end (body_end text q.close)) q.body r e).prelude;
}
path_prelude text r q around k _ _ _ _ _ (past_part p ps ls rs xs more none path) =
    ends_behind text r q (part_pieces p) xs (path_prelude text r q around k ps ls rs xs more path)
path_prelude text r q around k _ _ _ _ _ (past_media p m inner ps within ls rs xs more is own inner_are path) =
    ends_behind text r q (part_pieces p) xs
    (path_prelude text r q around (suc k + length (media_in text within)) ps ls rs xs more path)
path_prelude text r q around k _ _ _ _ _ (in_media m first last inner ps within ls rs xs more is own path are) =
    subst (λ (ys : List Token). Ends text r q (m.keyword ∷ ys)) (append_assoc m.prelude (first ∷ []) xs)
    (ends_behind text r q (m.keyword ∷ (m.prelude ++ first ∷ [])) xs
    (path_prelude text r q (Some k) (suc k) inner within rs xs more path))

pub prelude_before : (text : List ℕ) → IsUtf8 text → (k : ℕ) (r : RuleForm) → slice_get (sheet_of text).rules k ≡ Some r
    → r.prelude.end < r.body.start
prelude_before text utf8 k r e =
    let ps = parts (level_of None) (pieces text) in
    let ls = laid_out text None 0 (pieces text) in
    let f = find text r None 0 ps ls (laid_spelled text None 0 (pieces text)) k e in
    let q = f.q in
    let behind = q.brace ∷ (q.body ++ (option_to_list q.close ++ f.more)) in
    let own = path_prelude text r q None 0 ps ls f.rs f.xs f.more f.path in
    let cut_is : pieces text ≡ (own.front ++ q.prelude) ++ behind =
    (flat_of (level_of None) ps (pieces text) (parts_spelled (level_of None) (pieces text))).0
    ∙ path_flat text r q None 0 ps ls f.rs f.xs f.more f.path
    ∙ ap (λ (ys : List Token). ys ++ behind) own.parted in
    let whole = tiles_cut text 0 (length text) (own.front ++ q.prelude) behind
    (subst (AreTiles text 0 (length text)) cut_is (tiles_whole text utf8)) in
    let head = tiles_cut text 0 whole.seam own.front q.prelude whole.left in
    let spans = range_spans text head.seam whole.seam (words_after text false q.prelude) r.prelude own.prelude
    (words_between text false head.seam whole.seam q.prelude head.right) in
    let body = ap (λ (b : Range). b.start) (path_body text r q None 0 ps ls f.rs f.xs f.more f.path) in
    omega (arith, spans.ends, whole.right.0, whole.right.1.0, body)

-- ---- so each body starts behind those of the rules before

abbrev Starts : RuleForm → Type 0
Starts r = r.prelude.end < r.body.start

-- a later rule's prelude starts at or behind the place where rules begin
prelude_from : (text : List ℕ) (from to : ℕ) (rules : List RuleForm) (k : ℕ) (r : RuleForm)
    → AreBetween text from to (map rule_range rules) → All (IsRuleOf text) rules → slice_get rules k ≡ Some r → from ≤ r.prelude.start
prelude_from text from to [] k r all each e = absurd (cc)
prelude_from text from to (x ∷ rules) zero r all each e =
    let same : x ≡ r = cc in subst (λ (y : RuleForm). from ≤ y.prelude.start) same all.0
prelude_from text from to (x ∷ rules) (suc k) r all each e =
    let later = prelude_from text x.body.end to rules k r all.2 (All-tail (IsRuleOf text) x rules each) e in
    let own = All-head (IsRuleOf text) x rules each in
    omega (arith, all.0, own.prelude.order, own.behind, own.body.order, later)

-- as many rules stand before a place as there are, where that place is behind the starts of their bodies, and not behind that of the next
count_to : (text : List ℕ) (from to : ℕ) (rules : List RuleForm) (k : ℕ) (r : RuleForm) (place : ℕ)
    → AreBetween text from to (map rule_range rules) → All (IsRuleOf text) rules → slice_get rules k ≡ Some r → Starts r
    → place ≡ r.body.start → rules_before rules place ≡ k
count_to text from to [] k r place all each e starts at = absurd (cc)
count_to text from to (x ∷ rules) zero r place all each e starts at =
    let same : x ≡ r = cc in
    let first = ap (λ (y : RuleForm). y.body.start) same in
    let behind : nat_lt x.body.start place ≡ false = grind (arith, nat_tests, first, at) in
    ap (λ (b : Bool). cond b (1 + rules_before rules place) 0) behind
count_to text from to (x ∷ rules) (suc k) r place all each e starts at =
    let others = All-tail (IsRuleOf text) x rules each in
    let later = prelude_from text x.body.end to rules k r all.2 others e in
    let own = All-head (IsRuleOf text) x rules each in
    let order : x.body.start < place = omega (arith, own.body.order, later, starts, at, (range_order text rules k r others e)) in
    let before : nat_lt x.body.start place ≡ true = grind (arith, nat_tests, order) in
    let one : 1 + k ≡ suc k = omega arith in
    ap (λ (b : Bool). cond b (1 + rules_before rules place) 0) before
    ∙ ap (λ (n : ℕ). 1 + n) (count_to text x.body.end to rules k r place all.2 others e starts at) ∙ one
  where
    range_order : (text : List ℕ) (rules : List RuleForm) (k : ℕ) (r : RuleForm) → All (IsRuleOf text) rules → slice_get rules k ≡ Some r
        → r.prelude.start ≤ r.prelude.end
    range_order text [] k r each e = absurd (cc)
    range_order text (x ∷ rules) zero r each e =
        let same : x ≡ r = cc in
        subst (λ (y : RuleForm). y.prelude.start ≤ y.prelude.end) same (All-head (IsRuleOf text) x rules each).prelude.order
    range_order text (x ∷ rules) (suc k) r each e = range_order text rules k r (All-tail (IsRuleOf text) x rules each) e

-- just so many rules of a sheet have a body that starts before that of rule k
pub own_place : (text : List ℕ) → IsUtf8 text → (k : ℕ) (r : RuleForm) → slice_get (sheet_of text).rules k ≡ Some r
    → rules_before (sheet_of text).rules r.body.start ≡ k
own_place text utf8 k r e =
    let usable = sheet_usable text utf8 in
    count_to text 0 (length text) (sheet_of text).rules k r r.body.start usable.rules usable.each e (prelude_before text utf8 k r e) refl
