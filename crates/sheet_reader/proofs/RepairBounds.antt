-- Where the ranges and places of a reading stand: at or before the end of its text.
use Rattle.std.proofs.Common.{◌≡◌, ℕ, ◌+◌, ◌<◌, ◌≤◌, Bool, true, false, cond, ◌-◌, zero, suc, List, [], ◌∷◌, ◌++◌, map, length, All}
use Rattle.std.proofs.Common.{Option, Some, None, refl, ap, subst, arith}
use Rattle.std.specs.Prelude.{option_to_list}
use Rattle.std.proofs.lemmas.List.Elements.{All-nil, All-cons}
use Rattle.css_tokens.specs.declared.token.Range.{Range}
use Rattle.css_tokens.specs.declared.token.Token.{Token}
use Rattle.css_tokens.specs.declared.token.TokenKind.{TokenKind}
use Rattle.css_tokens.specs.declared.token.TokenKind.TheVariants as tokens
use Rattle.css_tokens.specs.Pieces.{pieces}
use Rattle.selectors.specs.Forms.{SelectorForm}
use Rattle.selectors.specs.Moves.{placed_range, placed_selector}
use Rattle.sheet_reader.specs.declared.parts.Level.TheVariants.{Top}
use Rattle.sheet_reader.specs.declared.sheet.MediaRule.{MediaRule}
use Rattle.sheet_reader.specs.Forms.{range, RuleForm}
use Rattle.selectors.specs.declared.words.Word.{Word}
use Rattle.selectors.specs.Words.{words_after}
use Rattle.selectors.specs.Reading.{range_by, range_of}
use Rattle.std.specs.Prelude.{option_map, slice_get}
use Rattle.std.specs.List.{AllByRecursion}
use Rattle.std.proofs.lemmas.List.Elements.{All-head, All-tail}
use Rattle.sheet_reader.specs.Parts.{EndingForm, text_end, semicolon, block, PartForm, passed, at_rule, qualified, part_pieces}
use Rattle.sheet_reader.specs.Parts.{ending_pieces, parts}
use Rattle.sheet_reader.specs.Layout.{MediaForm, media_form, media_rule, media_in, prelude_range, Laid, laid_out}
use Rattle.sheet_reader.specs.Moves.{placed_media, placed_rule, IsWithin}
use Rattle.sheet_reader.specs.Repairs.{IsRuleWithin, body_starts, prelude_ends}
use Rattle.sheet_reader.specs.Sheets.{is_closed_comment, passed_place, ending_place, body_end, rule_of, place_of, rules_in, places_in}
use Rattle.sheet_reader.specs.Sheets.{sheet_of}
use Rattle.sheet_reader.proofs.Raised.{flat}
use Rattle.sheet_reader.proofs.GrammarForms.{parts_spelled}
use Rattle.sheet_reader.proofs.LayoutForms.{laid_spelled}
use Rattle.sheet_reader.proofs.PartMoves.{flat_of}
use Rattle.sheet_reader.proofs.ReadMoves.{InToken, AllTokens, tokens_split, LaidIn, words_in}
use Rattle.sheet_reader.proofs.MovedLaw.{head_of}
use Rattle.sheet_reader.proofs.UsableForms.{media_is}
use Rattle.sheet_reader.proofs.WordMoves.{InWord, AllIn}
use Rattle.sheet_reader.proofs.LaidMoves.{laid_in}
use Rattle.sheet_reader.proofs.ClearBodies.{same_self, rules_kept, media_kept, up_to, up_to_keeps, up_to_fixed, properties_within}
use Rattle.sheet_reader.proofs.JoinedLaw.{all_there, whole_alone}

-- ---- the pieces of a text
pub tokens_of : (text : List ℕ) → AllTokens 0 (length text) (flat (parts Top (pieces text)))
tokens_of text =
    subst (AllTokens 0 (length text)) (flat_of Top (parts Top (pieces text)) (pieces text) (parts_spelled Top (pieces text))).0
    (all_there [] text (whole_alone text))

pub laid_of : (text : List ℕ) → LaidIn 0 (length text) (laid_out text None 0 (pieces text))
laid_of text = laid_in 0 (length text) text None 0 (parts Top (pieces text)) (laid_out text None 0 (pieces text))
    (laid_spelled text None 0 (pieces text)) (tokens_of text)

-- ---- rules and media rules
range_within : (n : ℕ) (r : Range) → r ≡ placed_range (up_to n) r → IsWithin n r
range_within n r e = record {
  front = up_to_fixed n r.start (ap (λ (x : Range). x.start) e);
  back = up_to_fixed n r.end (ap (λ (x : Range). x.end) e);
}

selectors_within : (n : ℕ) (ss : List SelectorForm) → ss ≡ map (placed_selector (up_to n)) ss → All (λ s. IsWithin n s.range) ss
selectors_within n [] e = All-nil (λ (s : SelectorForm). IsWithin n s.range)
selectors_within n (s ∷ ss) e =
    let one : s ≡ placed_selector (up_to n) s = cc in
    All-cons (λ (s : SelectorForm). IsWithin n s.range) s ss (range_within n s.range (ap (λ (x : SelectorForm). x.range) one))
    (selectors_within n ss (cc))

rules_within : (n : ℕ) (rs : List RuleForm) → rs ≡ map (placed_rule (up_to n)) rs → All (IsRuleWithin n) rs
rules_within n [] e = All-nil (IsRuleWithin n)
rules_within n (r ∷ rs) e =
    let one : r ≡ placed_rule (up_to n) r = cc in
    All-cons (IsRuleWithin n) r rs (record {
      prelude = range_within n r.prelude (ap (λ (x : RuleForm). x.prelude) one);
      selectors = selectors_within n r.selectors (ap (λ (x : RuleForm). x.selectors) one);
      body = range_within n r.body (ap (λ (x : RuleForm). x.body) one);
      properties = properties_within n r.properties (ap (λ (x : RuleForm). x.properties) one);
    }) (rules_within n rs (cc))

media_within : (n : ℕ) (ms : List MediaRule) → ms ≡ map (placed_media (up_to n)) ms → All (λ m. IsWithin n m.prelude) ms
media_within n [] e = All-nil (λ (m : MediaRule). IsWithin n m.prelude)
media_within n (m ∷ ms) e =
    let one : m ≡ placed_media (up_to n) m = cc in
    All-cons (λ (m : MediaRule). IsWithin n m.prelude) m ms (range_within n m.prelude (ap (λ (x : MediaRule). x.prelude) one))
    (media_within n ms (cc))

pub all_within : (text : List ℕ) → All (IsRuleWithin (length text)) (sheet_of text).rules
all_within text =
    let n = length text in
    rules_within n (sheet_of text).rules (rules_kept text (up_to n) 0 n (up_to_keeps n) (up_to_keeps n n (omega arith) (omega arith))
    (laid_out text None 0 (pieces text)) (laid_of text))

pub medias_within : (text : List ℕ) → All (λ m. IsWithin (length text) m.prelude) (sheet_of text).media
medias_within text =
    let n = length text in
    media_within n (sheet_of text).media (media_kept text (up_to n) 0 n (up_to_keeps n) (up_to_keeps n n (omega arith) (omega arith))
    (laid_out text None 0 (pieces text)) (laid_of text))

-- ---- places
-- places behind one, and at or before another
abbrev pub AreFrom : ℕ → ℕ → List ℕ → Type 0
AreFrom lo hi [] = Unit {0}
AreFrom lo hi (x ∷ xs) = (lo < x) × (x ≤ hi) × AreFrom lo hi xs

one_from : (hi : ℕ) (o : Option ℕ) (xs : List ℕ) → ((x : ℕ) → o ≡ Some x → (0 < x) × (x ≤ hi)) → AreFrom 0 hi xs
    → AreFrom 0 hi (option_to_list o ++ xs)
one_from hi None xs own all = all
one_from hi (Some x) xs own all = let b = own x refl in (b.0, b.1, all)

token_from : (hi : ℕ) (t : Token) → InToken 0 hi t → (x : ℕ) → t.end ≡ x → (0 < x) × (x ≤ hi)
token_from hi t i x e = (omega (arith, i.0, i.1, e), omega (arith, i.2, e))

passed_from : (text : List ℕ) (hi : ℕ) (t : Token) (k : TokenKind) → InToken 0 hi t → (x : ℕ) → passed_place text t k ≡ Some x
    → (0 < x) × (x ≤ hi)
passed_from text hi t tokens.Comment i x e = by (is_closed_comment text t) e
  where
    by : (b : Bool) → cond b (Some t.end) None ≡ Some x → (0 < x) × (x ≤ hi)
    by true e = token_from hi t i x (cc)
    by false e = absurd (cc)
passed_from text hi t _ i x e = token_from hi t i x (cc)

ending_from : (hi : ℕ) (e : EndingForm) → AllTokens 0 hi (ending_pieces e) → (x : ℕ) → ending_place e ≡ Some x → (0 < x) × (x ≤ hi)
ending_from hi text_end all x e = absurd (cc)
ending_from hi (semicolon t) all x e = token_from hi t all.0 x (cc)
ending_from hi (block first within None) all x e = absurd (cc)
ending_from hi (block first within (Some c)) all x e =
    let both = tokens_split 0 hi within (c ∷ []) all.1 in token_from hi c both.1.0 x (cc)

part_from : (text : List ℕ) (hi : ℕ) (p : PartForm) → AllTokens 0 hi (part_pieces p) → (x : ℕ) → place_of text p ≡ Some x
    → (0 < x) × (x ≤ hi)
unfolding place_of
part_from text hi (passed t) all x e = passed_from text hi t t.kind all.0 x e
part_from text hi (at_rule keyword prelude ending) all x e =
    ending_from hi ending (tokens_split 0 hi prelude (ending_pieces ending) all.1).1 x e
part_from text hi (qualified prelude ending) all x e = ending_from hi ending (tokens_split 0 hi prelude (ending_pieces ending) all).1 x e

parts_from : (text : List ℕ) (hi : ℕ) (ps : List PartForm) → AllTokens 0 hi (flat ps) → AreFrom 0 hi (places_in text ps)
unfolding places_in
parts_from text hi [] all = tt
parts_from text hi (p ∷ ps) all =
    let both = tokens_split 0 hi (part_pieces p) (flat ps) all in
    one_from hi (place_of text p) (places_in text ps) (part_from text hi p both.0) (parts_from text hi ps both.1)

-- all but the first, which is 0, stand behind the beginning
pub places_from : (text : List ℕ) → AreFrom 0 (length text) (places_in text (parts Top (pieces text)))
places_from text = parts_from text (length text) (parts Top (pieces text)) (tokens_of text)

pub raised_from : (n lo hi : ℕ) (xs : List ℕ) → AreFrom lo hi xs → AreFrom (n + lo) (n + hi) (map (λ x. n + x) xs)
raised_from n lo hi [] all = tt
raised_from n lo hi (x ∷ xs) all = (omega (arith, all.0), omega (arith, all.1), raised_from n lo hi xs all.2)

-- ---- where bodies start, and preludes of media rules end: behind the beginning

body_from : (text : List ℕ) (n : ℕ) (around : Option ℕ) (p : PartForm) → AllTokens 0 n (part_pieces p) → (r : RuleForm)
    → rule_of text around p ≡ Some r → 0 < r.body.start
unfolding rule_of
body_from text n around (passed t) all r e = absurd (cc)
body_from text n around (at_rule keyword prelude ending) all r e = absurd (cc)
body_from text n around (qualified prelude text_end) all r e = absurd (cc)
body_from text n around (qualified prelude (semicolon t)) all r e = absurd (cc)
body_from text n around (qualified prelude (block first within close)) all r e =
    let h = head_of text around (words_after text false prelude) (range first.end (body_end text close)) within r e in
    let own = (tokens_split 0 n prelude (ending_pieces (block first within close)) all).1.0 in
    let start : first.end ≡ r.body.start = ap (λ (x : Range). x.start) h.body in
    omega (arith, own.0, own.1, start)

bodies_from : (text : List ℕ) (n : ℕ) (ls : List Laid) → LaidIn 0 n ls → AllByRecursion (λ r. 0 < r.body.start) (rules_in text ls)
unfolding rules_in
bodies_from text n [] all = tt
bodies_from text n (l ∷ ls) all = by (rule_of text l.around l.part) refl (bodies_from text n ls all.1)
  where
    by : (o : Option RuleForm) → rule_of text l.around l.part ≡ o → AllByRecursion (λ r. 0 < r.body.start) (rules_in text ls)
        → AllByRecursion (λ r. 0 < r.body.start) (option_to_list o ++ rules_in text ls)
    by None e others = others
    by (Some r) e others = (body_from text n l.around l.part all.0 r e, others)

-- the places where the bodies of a text start
pub starts_from : (text : List ℕ) → AreFrom 0 (length text) (body_starts (sheet_of text).rules)
starts_from text =
    each (sheet_of text).rules (bodies_from text (length text) (laid_out text None 0 (pieces text)) (laid_of text)) (all_within text)
  where
    each : (rs : List RuleForm) → AllByRecursion (λ r. 0 < r.body.start) rs → All (IsRuleWithin (length text)) rs
        → AreFrom 0 (length text) (body_starts rs)
    each [] some all = tt
    each (r ∷ rs) some all =
        let w = All-head (IsRuleWithin (length text)) r rs all in
        (some.0, w.body.front, each rs some.1 (All-tail (IsRuleWithin (length text)) r rs all))

word_behind : (lo hi : ℕ) (ws : List Word) (k : ℕ) (w : Word) → AllIn lo hi ws → slice_get ws k ≡ Some w → 0 < w.end
word_behind lo hi [] zero w all e = absurd (cc)
word_behind lo hi [] (suc k) w all e = absurd (cc)
word_behind lo hi (v ∷ ws) zero w all e =
    let same : v ≡ w = cc in
    let end : v.end ≡ w.end = ap (λ (x : Word). x.end) same in
    let own : InWord lo hi v = all.0 in
    omega (arith, own.1, end)
word_behind lo hi (v ∷ ws) (suc k) w all e = word_behind lo hi ws k w all.1 e

prelude_behind : (text : List ℕ) (n : ℕ) (keyword : Token) (ts : List Token) → AllTokens 0 n (keyword ∷ ts)
    → 0 < (prelude_range keyword (range_of (words_after text false ts))).end
prelude_behind text n keyword ts all =
    by (slice_get (words_after text false ts) 0) (slice_get (words_after text false ts) (length (words_after text false ts) - 1)) refl
  where
    keyword_behind : 0 < keyword.end
    keyword_behind = let own = all.0 in omega (arith, own.0, own.1)

    by : (a b : Option Word) → slice_get (words_after text false ts) (length (words_after text false ts) - 1) ≡ b
        → 0 < (prelude_range keyword (range_by a b)).end
    by None b e = keyword_behind
    by (Some w) None e = keyword_behind
    by (Some w) (Some v) e =
        word_behind 0 n (words_after text false ts) (length (words_after text false ts) - 1) v
        (words_in text text (λ x. x) 0 n (same_self text (λ x. x) 0 n (λ x a b. refl)) false ts all.1) e

preludes_behind : (text : List ℕ) (n : ℕ) (ls : List Laid) → LaidIn 0 n ls → AllByRecursion (λ m. 0 < m.prelude.end) (media_in text ls)
unfolding media_in
preludes_behind text n [] all = tt
preludes_behind text n (l ∷ ls) all = by (media_form text l.part) refl (preludes_behind text n ls all.1)
  where
    by : (o : Option MediaForm) → media_form text l.part ≡ o → AllByRecursion (λ m. 0 < m.prelude.end) (media_in text ls)
        → AllByRecursion (λ m. 0 < m.prelude.end) (option_to_list (option_map (media_rule text l.around) o) ++ media_in text ls)
    by None e others = others
    by (Some m) e others =
        let i = media_is text l.part m e in
        let within : AllTokens 0 n (m.keyword ∷ (m.prelude ++ i.first ∷ (m.inside ++ option_to_list i.close))) =
        subst (λ (q : PartForm). AllTokens 0 n (part_pieces q)) i.is all.0 in
        let own = (tokens_split 0 n m.prelude (i.first ∷ (m.inside ++ option_to_list i.close)) within.1).0 in
        (prelude_behind text n m.keyword m.prelude (within.0, own), others)

-- the places where the preludes of the media rules of a text end
pub ends_from : (text : List ℕ) → AreFrom 0 (length text) (prelude_ends (sheet_of text).media)
ends_from text =
    each (sheet_of text).media (preludes_behind text (length text) (laid_out text None 0 (pieces text)) (laid_of text)) (medias_within text)
  where
    each : (ms : List MediaRule) → AllByRecursion (λ m. 0 < m.prelude.end) ms → All (λ m. IsWithin (length text) m.prelude) ms
        → AreFrom 0 (length text) (prelude_ends ms)
    each [] some all = tt
    each (m ∷ ms) some all =
        let w = All-head (λ (m : MediaRule). IsWithin (length text) m.prelude) m ms all in
        (some.0, w.back, each ms some.1 (All-tail (λ (m : MediaRule). IsWithin (length text) m.prelude) m ms all))
