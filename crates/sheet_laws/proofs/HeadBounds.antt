-- The preludes of the rules and media rules of a text start before its end.
use Rattle.std.proofs.Common.{◌≡◌, ℕ, suc, ◌+◌, ◌<◌, ◌≤◌, false, List, [], ◌∷◌, ◌++◌, length, Contains, Option, Some, None, refl, sym, ap}
use Rattle.std.proofs.Common.{subst, append_assoc, append-nil, arith}
use Rattle.std.specs.List.{AllByRecursion}
use Rattle.std.specs.Prelude.{option_to_list}
use Rattle.css_tokens.specs.declared.token.Range.{Range}
use Rattle.css_tokens.specs.declared.token.Token.{Token}
use Rattle.css_tokens.specs.Pieces.{pieces}
use Rattle.selectors.specs.Words.{words_after}
use Rattle.selectors.specs.Reading.{range_of}
use Rattle.sheet_reader.specs.declared.sheet.MediaRule.{MediaRule}
use Rattle.sheet_reader.specs.Forms.{RuleForm}
use Rattle.sheet_reader.specs.Grammar.{AreParts}
use Rattle.sheet_reader.specs.Layout.{level_of, MediaForm, media_rule, media_in, prelude_range, Laid, laid_out, AreLaid}
use Rattle.sheet_reader.specs.Layout.{none_laid, part_laid, media_laid}
use Rattle.sheet_reader.specs.Parts.{PartForm, part_pieces, parts}
use Rattle.sheet_reader.specs.Sheets.{sheet_of}
use Rattle.sheet_reader.specs.Solids.{Covers, StandBetween}
use Rattle.sheet_reader.proofs.Cutting.{pieces_stand}
use Rattle.sheet_reader.proofs.FrameForms.{media_append, media_cons}
use Rattle.sheet_reader.proofs.GrammarForms.{parts_spelled}
use Rattle.sheet_reader.proofs.LayoutForms.{laid_spelled}
use Rattle.sheet_reader.proofs.UsableForms.{MediaIs, media_is}
use Rattle.sheet_reader.proofs.WordCuts.{covers_words}
use Rattle.sheet_laws.specs.Readings.{HasPrelude}
use Rattle.sheet_laws.proofs.InsertedLists.{all_append}
use Rattle.sheet_laws.proofs.PlaceCuts.{stand_order}
use Rattle.sheet_laws.proofs.RuleCuts.{stand_cut, StandsIn, left_stands, right_stands, inside_stands, rules_have_preludes}

-- a piece among others
stand_at : (from to : ℕ) (xs : List Token) (t : Token) (ys : List Token) → StandBetween from to (xs ++ t ∷ ys)
    → (from ≤ t.start) × (t.start < to)
stand_at from to xs t ys all =
    let c = stand_cut from to xs (t ∷ ys) all in
    let before = stand_order from c.seam xs c.left in
    let behind = stand_order t.end to ys c.right.2 in
    let start = c.right.0 in
    let some = c.right.1 in
    (omega (arith, before, start), omega (arith, behind, some))

-- what covers pieces starts where one of them does
covered : (from to : ℕ) (xs ts ys : List Token) (r : Range) → StandBetween from to (xs ++ (ts ++ ys)) → Covers ts r → r.start < to
covered from to xs ts ys r all c =
    let f = c.is_first in
    let right = (stand_cut from to xs (ts ++ ys) all).right in
    let seam = (stand_cut from to xs (ts ++ ys) all).seam in
    let left = stand_cut seam to ts ys right in
    let own = stand_at seam left.seam f.before c.first f.behind (subst (StandBetween seam left.seam) f.is left.left) in
    let start : r.start ≡ c.first.start = ap (λ (x : Range). x.start) c.is in
    omega (arith, own.1, start, stand_order left.seam to ys left.right)

-- ---- style rules

rule_before : (text : List ℕ) (r : RuleForm) → HasPrelude text r → r.prelude.start < length text
rule_before text r h =
    covered 0 (length text) h.before h.prelude h.behind r.prelude (subst (StandBetween 0 (length text)) h.is (pieces_stand text)) h.span

each_contained : {A : Type 0} (P : A → Type 0) (xs : List A) → ((x : A) → Contains xs x → P x) → AllByRecursion P xs
each_contained P [] each = tt
each_contained P (x ∷ xs) each =
    (each x (0, omega arith, refl), each_contained P xs (λ y there. each y (suc there.0, omega (arith, there.1), there.2)))

pub rules_before : (text : List ℕ) → AllByRecursion (λ r. r.prelude.start < length text) (sheet_of text).rules
rules_before text =
    each_contained (λ (r : RuleForm). r.prelude.start < length text) (sheet_of text).rules
    (λ r there. rule_before text r (rules_have_preludes text r there))

-- ---- media rules

prelude_before : (text : List ℕ) (keyword : Token) (prelude : List Token) (first : Token) (others : List Token) (from : ℕ)
    → StandBetween from (length text) (keyword ∷ (prelude ++ first ∷ others))
    → (prelude_range keyword (range_of (words_after text false prelude))).start < length text
prelude_before text keyword prelude first others from stands =
    by (range_of (words_after text false prelude)) refl
  where
    by : (o : Option Range) → range_of (words_after text false prelude) ≡ o → (prelude_range keyword o).start < length text
    by None e =
        let at = stand_at keyword.end (length text) prelude first others stands.2 in omega (arith, at.0, at.1)
    by (Some r) e = covered keyword.end (length text) [] prelude (first ∷ others) r stands.2 (covers_words text false prelude r e)

media_before : (text : List ℕ) (around : Option ℕ) (p : PartForm) (m : MediaForm) → MediaIs p m → StandsIn text (part_pieces p)
    → (media_rule text around m).prelude.start < length text
media_before text around p m i s =
    let whole = subst (λ (q : PartForm). StandsIn text (part_pieces q)) i.is s in
    let rest = m.inside ++ option_to_list i.close in
    prelude_before text m.keyword m.prelude i.first (rest ++ whole.back) whole.from
    (subst (λ (ts : List Token). StandBetween whole.from (length text) (m.keyword ∷ ts))
    (append_assoc m.prelude (i.first ∷ rest) whole.back) whole.stands)

all_before : (text : List ℕ) (around : Option ℕ) (k : ℕ) (ps : List PartForm) (ls : List Laid) → AreLaid text around k ps ls
    → (outside : Option ℕ) (ts : List Token) → AreParts (level_of outside) ps ts → StandsIn text ts
    → AllByRecursion (λ m. m.prelude.start < length text) (media_in text ls)
unfolding media_in
all_before text around k _ _ none_laid outside ts are stands = tt
all_before text around k _ _ (part_laid p ps ls e others) outside ts are stands =
    let whole = subst (StandsIn text) are.1 stands in
    subst (AllByRecursion (λ (m : MediaRule). m.prelude.start < length text)) (sym (media_cons text around p ls None e))
    (all_before text around k ps ls others outside are.0 are.3 (right_stands text (part_pieces p) are.0 whole))
all_before text around k _ _ (media_laid p m inner ps inside ls e is_inner own others) outside ts are stands =
    let form = media_is text p m e in
    let whole = subst (StandsIn text) are.1 stands in
    let head = left_stands text (part_pieces p) are.0 whole in
    let Before = λ (m : MediaRule). m.prelude.start < length text in
    subst (AllByRecursion Before) (sym (media_cons text around p (inside ++ ls) (Some m) e)) (
      media_before text around p m form head,
      subst (AllByRecursion Before) (sym (media_append text inside ls))
          (all_append Before (media_in text inside) (media_in text ls)
          (all_before text (Some k) (suc k) inner inside own (Some k) m.inside is_inner (inside_stands text p m form head))
          (all_before text around (suc k + length (media_in text inside)) ps ls others outside are.0 are.3
          (right_stands text (part_pieces p) are.0 whole))),
    )

pub medias_before : (text : List ℕ) → AllByRecursion (λ m. m.prelude.start < length text) (sheet_of text).media
medias_before text =
    all_before text None 0 (parts (level_of None) (pieces text)) (laid_out text None 0 (pieces text))
    (laid_spelled text None 0 (pieces text)) None (pieces text) (parts_spelled (level_of None) (pieces text)) (record {
      front = [];
      back = [];
      from = 0;
      is = sym (append-nil (pieces text));
      stands = subst (StandBetween 0 (length text)) (sym (append-nil (pieces text))) (pieces_stand text);
    })
