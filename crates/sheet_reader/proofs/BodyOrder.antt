-- The rules of a sheet stand before and behind the body of each of them.
use Rattle.std.proofs.Common.{◌≡◌, ℕ, zero, suc, ◌+◌, ◌<◌, ◌≤◌, true, All, List, [], ◌∷◌, ◌++◌, map, take, drop, length}
use Rattle.std.proofs.Common.{Option, Some, None, refl, sym, ap, subst, ◌∙◌, arith, length-append, length-take, length-drop}
use Rattle.std.specs.Prelude.{slice_get, option_to_list, IfSome}
use Rattle.std.specs.Str.{IsUtf8}
use Rattle.std.proofs.lemmas.List.Elements.{All-nil, All-cons, All-head, All-tail, All-weaker}
use Rattle.node_tree.specs.Numbers.{number_limit}
use Rattle.css_tokens.specs.declared.token.Range.{Range}
use Rattle.css_tokens.specs.Pieces.{pieces}
use Rattle.selectors.specs.Forms.{SelectorForm}
use Rattle.selectors.specs.Moves.{Cut, moved_place}
use Rattle.selectors.specs.Ranges.{AreBetween}
use Rattle.selectors.proofs.RangeForms.{between_order}
use Rattle.sheet_reader.specs.declared.sheet.Property.{Property}
use Rattle.sheet_reader.specs.declared.sheet.Sheet.{Sheet}
use Rattle.sheet_reader.specs.declared.parts.Level.TheVariants.{Top}
use Rattle.sheet_reader.specs.Declarations.{style_of}
use Rattle.sheet_reader.specs.Forms.{RuleForm}
use Rattle.sheet_reader.specs.Late.{EachEnd, EachEndOf, EachPlace, StandsBehind, StandsBefore, CanRebody}
use Rattle.sheet_reader.specs.Layout.{laid_out}
use Rattle.sheet_reader.specs.Moves.{body_cut, moved_by, moved_rules, placed_rule, rebodied, replaced, CanPlaceHead}
use Rattle.sheet_reader.specs.Parts.{parts}
use Rattle.sheet_reader.specs.Sealing.{is_sealed}
use Rattle.sheet_reader.specs.Sheets.{sheet_of}
use Rattle.sheet_reader.specs.Usable.{IsPropertyOf, IsRuleOf, rule_range, wholes_of}
use Rattle.sheet_reader.proofs.ClearBodies.{style_within, body_clear}
use Rattle.sheet_reader.proofs.GrammarForms.{parts_spelled}
use Rattle.sheet_reader.proofs.LateForms.{all_back, all_both, each_weaker, rules_back, rules_both}
use Rattle.sheet_reader.proofs.LayoutForms.{laid_spelled}
use Rattle.sheet_reader.proofs.MovedLaw.{moved_holds, path_body, apart}
use Rattle.sheet_reader.proofs.PartMoves.{flat_of}
use Rattle.sheet_reader.proofs.RulePaths.{find, path_flat, path_ends}
use Rattle.sheet_reader.proofs.UsableForms.{sheet_usable}

-- ---- what holds of all places between two

abbrev Between : ℕ → ℕ → ℕ → Type 0
Between lo hi place = (lo ≤ place) × (place ≤ hi)

range_each : (lo hi : ℕ) (r : Range) → lo ≤ r.start → r.start ≤ r.end → r.end ≤ hi → EachEnd (Between lo hi) r
range_each lo hi r from order to = record {
  start = (from, omega (arith, order, to));
  end = (omega (arith, from, order), to);
}

between_each : (text : List ℕ) (lo hi from to : ℕ) (rs : List Range) → lo ≤ from → to ≤ hi → AreBetween text from to rs
    → All (EachEnd (Between lo hi)) rs
between_each text lo hi from to [] a b all = All-nil (EachEnd (Between lo hi))
between_each text lo hi from to (r ∷ rs) a b all =
    let order = between_order text r.end to rs all.2 in
    All-cons (EachEnd (Between lo hi)) r rs (range_each lo hi r (omega (arith, a, all.0)) all.1.order (omega (arith, order, b)))
    (between_each text lo hi r.end to rs (omega (arith, a, all.0, all.1.order)) b all.2)

property_each : (text : List ℕ) (lo hi : ℕ) (p : Property) → EachEnd (Between lo hi) p.whole → IsPropertyOf text p
    → EachEndOf (Between lo hi) p
property_each text lo hi p whole own = record {
  value = range_each lo hi p.value (omega (arith, whole.start.0, own.starts)) own.value.order (omega (arith, own.ends, whole.end.1));
  whole = whole;
}

rule_each : (text : List ℕ) (lo hi : ℕ) (r : RuleForm) → IsRuleOf text r → lo ≤ r.prelude.start → r.body.end ≤ hi
    → EachPlace (Between lo hi) r
rule_each text lo hi r own from to = record {
  prelude = range_each lo hi r.prelude from own.prelude.order (omega (arith, own.behind, own.body.order, to));
  selectors = all_back (EachEnd (Between lo hi)) (λ (s : SelectorForm). s.range) r.selectors
      (between_each text lo hi r.prelude.start r.prelude.end (map (λ (s : SelectorForm). s.range) r.selectors) from
      (omega (arith, own.behind, own.body.order, to)) own.selectors);
  body = range_each lo hi r.body (omega (arith, from, own.prelude.order, own.behind)) own.body.order to;
  properties = all_both (λ (p : Property). EachEnd (Between lo hi) p.whole) (IsPropertyOf text) (EachEndOf (Between lo hi))
      (property_each text lo hi) r.properties
      (all_back (EachEnd (Between lo hi)) (λ (p : Property). p.whole) r.properties
      (between_each text lo hi r.body.start r.body.end (wholes_of r.properties)
      (omega (arith, from, own.prelude.order, own.behind)) to own.properties))
      own.each;
}

rules_each : (text : List ℕ) (lo hi from to : ℕ) (rs : List RuleForm) → lo ≤ from → to ≤ hi → AreBetween text from to (map rule_range rs)
    → All (IsRuleOf text) rs → All (EachPlace (Between lo hi)) rs
rules_each text lo hi from to [] a b all each = All-nil (EachPlace (Between lo hi))
rules_each text lo hi from to (r ∷ rs) a b all each =
    let order = between_order text r.body.end to (map rule_range rs) all.2 in
    let own = All-head (IsRuleOf text) r rs each in
    All-cons (EachPlace (Between lo hi)) r rs
    (rule_each text lo hi r own (omega (arith, a, all.0)) (omega (arith, order, b)))
    (rules_each text lo hi r.body.end to rs
    (omega (arith, a, all.0, own.prelude.order, own.behind, own.body.order)) b all.2 (All-tail (IsRuleOf text) r rs each))

-- ---- the rules before and behind one

-- a rule of a sheet, where it stands and what stands around it
record Placed (text : List ℕ) (from to k : ℕ) (rs : List RuleForm) (r : RuleForm) : Type 0 where
  starts : from ≤ r.prelude.start
  own : IsRuleOf text r
  before : All (EachPlace (Between 0 r.body.start)) (take k rs)
  behind : AreBetween text r.body.end to (map rule_range (drop (suc k) rs))
  each : All (IsRuleOf text) (drop (suc k) rs)

placed : (text : List ℕ) (from to k : ℕ) (rs : List RuleForm) (r : RuleForm) → AreBetween text from to (map rule_range rs)
    → All (IsRuleOf text) rs → slice_get rs k ≡ Some r → Placed text from to k rs r
placed text from to k [] r all each e = absurd (cc)
placed text from to zero (x ∷ rs) r all each e =
    let same : x ≡ r = cc in
    subst (λ (y : RuleForm). Placed text from to 0 (x ∷ rs) y) same (record {
      starts = all.0;
      own = All-head (IsRuleOf text) x rs each;
      before = All-nil (EachPlace (Between 0 x.body.start));
      behind = all.2;
      each = All-tail (IsRuleOf text) x rs each;
    })
placed text from to (suc k) (x ∷ rs) r all each e =
    let first = All-head (IsRuleOf text) x rs each in
    let more = placed text x.body.end to k rs r all.2 (All-tail (IsRuleOf text) x rs each) e in
    let own = more.own in
    record {
      starts = omega (arith, all.0, first.prelude.order, first.behind, first.body.order, more.starts);
      own = own;
      before = All-cons (EachPlace (Between 0 r.body.start)) x (take k rs)
          (rule_each text 0 r.body.start x first (omega arith) (omega (arith, more.starts, own.prelude.order, own.behind))) more.before;
      behind = more.behind;
      each = more.each;
    }

-- ---- a rule that gets another body

pub new_rule : (c : Cut) (ps : List Property) (k : ℕ) (rs : List RuleForm) (r : RuleForm) → slice_get rs k ≡ Some r
    → slice_get (moved_rules c ps k rs) k ≡ Some (rebodied c ps r)
new_rule c ps k [] r e = absurd (cc)
new_rule c ps zero (x ∷ rs) r e = let same : x ≡ r = cc in ap (λ (y : RuleForm). Some (rebodied c ps y)) same
new_rule c ps (suc k) (x ∷ rs) r e = new_rule c ps k rs r e

rules_behind : (c : Cut) (ps : List Property) (k : ℕ) (rs : List RuleForm)
    → drop (suc k) (moved_rules c ps k rs) ≡ map (placed_rule (moved_place c)) (drop (suc k) rs)
rules_behind c ps k [] = refl
rules_behind c ps zero (x ∷ rs) = refl
rules_behind c ps (suc k) (x ∷ rs) = rules_behind c ps k rs

-- a brace stands before the body of a rule
brace_before : (text : List ℕ) (k : ℕ) (r : RuleForm) → slice_get (sheet_of text).rules k ≡ Some r → 0 < r.body.start
brace_before text k r e =
    let top = parts Top (pieces text) in
    let ls = laid_out text None 0 (pieces text) in
    let f = find text r None 0 top ls (laid_spelled text None 0 (pieces text)) k e in
    let q = f.q in
    let both = flat_of Top top (pieces text) (parts_spelled Top (pieces text)) in
    let is = both.0 ∙ path_flat text r q None 0 top ls f.rs f.xs f.more f.path in
    let ends = path_ends text r q None 0 top ls f.rs f.xs f.more f.path Top both.1 in
    let a = apart text f.xs q.brace q.body (option_to_list q.close ++ f.more) is ends.kind in
    let own = path_body text r q None 0 top ls f.rs f.xs f.more f.path in
    let starts = ap (λ b. b.start) own ∙ ap (λ t. t.end) a.brace_is in
    omega (arith, starts)

replaced_len : (text put : List ℕ) (r : Range) → length (replaced text r put) ≤ length text + length put + length text
replaced_len text put r =
    omega (
      arith,
      length-append (take r.start text) (put ++ drop r.end text),
      length-append put (drop r.end text),
      length-take r.start text,
      length-drop r.end text,
    )

-- in every reading all other rules stand before or behind the body of a rule, and a sealed text may take its place
pub body_apart : (text put : List ℕ) (k : ℕ) (r : RuleForm) → IsUtf8 text → IsUtf8 (replaced text r.body put) → is_sealed put ≡ true
    → slice_get (sheet_of text).rules k ≡ Some r → length text + length put + length text < number_limit
    → CanRebody (body_cut r (length put)) k (sheet_of text).rules
body_apart text put k r utf8 new_utf8 sealed e small =
    let n = length put in
    let c = body_cut r n in
    let f = moved_place c in
    let ps = style_of put in
    let rules = (sheet_of text).rules in
    let new_text = replaced text r.body put in
    let usable = sheet_usable text utf8 in
    let old = placed text 0 (length text) k rules r usable.rules usable.each e in
    let clear = body_clear text k r ps n e (style_within put) (omega (arith, small)) in
    let new_is : (sheet_of new_text).rules ≡ moved_rules c ps k rules =
    ap (λ (s : Sheet). s.rules) (moved_holds text put k r e sealed ∙ ap (moved_by (sheet_of text) k ps n) e) in
    let there : slice_get (sheet_of new_text).rules k ≡ Some (rebodied c ps r) =
    ap (λ (rs : List RuleForm). slice_get rs k) new_is ∙ new_rule c ps k rules r e in
    let new_usable = sheet_usable new_text new_utf8 in
    let new = placed new_text 0 (length new_text) k (sheet_of new_text).rules (rebodied c ps r) new_usable.rules new_usable.each there in
    let size = replaced_len text put r.body in
    let behind_is : drop (suc k) (sheet_of new_text).rules ≡ map (placed_rule f) (drop (suc k) rules) =
    ap (drop (suc k)) new_is ∙ rules_behind c ps k rules in
    let moved : All (EachPlace (λ b. Between (c.start + c.size) (length new_text) (f b))) (drop (suc k) rules) =
    rules_back (Between (c.start + c.size) (length new_text)) f (drop (suc k) rules)
    (subst (All (EachPlace (Between (c.start + c.size) (length new_text)))) behind_is
    (rules_each new_text (c.start + c.size) (length new_text) (c.start + c.size) (length new_text) (drop (suc k) (sheet_of new_text).rules)
    (omega arith) (omega arith) new.behind new.each)) in
    let past : All (EachPlace (Between c.end (length text))) (drop (suc k) rules) =
    rules_each text c.end (length text) c.end (length text) (drop (suc k) rules) (omega arith) (omega arith) old.behind old.each in
    record {
      order = clear.order;
      some = omega (arith, brace_before text k r e, clear.order);
      fits = clear.fits;
      head = subst (λ (o : Option RuleForm). IfSome o (CanPlaceHead c)) (sym e) clear.head;
      body = subst (λ (o : Option RuleForm). IfSome o (λ x. x.body.end ≡ c.end)) (sym e) refl;
      before = All-weaker (EachPlace (Between 0 c.start)) (EachPlace (StandsBefore c)) (each_weaker (Between 0 c.start) (StandsBefore c)
          (λ b h. h.1)) (take k rules) old.before;
      behind = rules_both (Between c.end (length text)) (λ b. Between (c.start + c.size) (length new_text) (f b)) (StandsBehind c)
          (λ b x y. record { past = x.0; moved = y.0; fits = omega (arith, y.1, size, small) }) (drop (suc k) rules) past moved;
    }
