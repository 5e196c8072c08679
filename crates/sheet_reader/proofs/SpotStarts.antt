-- The bodies of the rules before a place between parts start before it.
use Rattle.std.proofs.Common.{◌≡◌, inl, ℕ, suc, ◌+◌, ◌<◌, ◌≤◌, false, All, List, [], ◌∷◌, ◌++◌, map, length, Option, Some, None}
use Rattle.std.proofs.Common.{refl, sym, ap, subst, ◌∙◌, append_assoc, length-append, arith}
use Rattle.std.specs.List.{AllByRecursion}
use Rattle.std.specs.Prelude.{option_to_list}
use Rattle.std.specs.Str.{IsCharBoundary}
use Rattle.std.proofs.lemmas.List.Elements.{All-head, All-tail}
use Rattle.css_tokens.specs.declared.token.Range.{Range}
use Rattle.css_tokens.specs.declared.token.Token.{Token}
use Rattle.css_tokens.specs.Seams.{IsWholeBefore, no_more, piece_and}
use Rattle.selectors.specs.Ranges.{AreBetween, AreTiles}
use Rattle.selectors.specs.Words.{words_after}
use Rattle.selectors.proofs.RangeForms.{tiles_cut, tiles_edge, tiles_order}
use Rattle.sheet_reader.specs.declared.parts.Level.{Level}
use Rattle.sheet_reader.specs.declared.parts.Level.TheVariants.{Inner}
use Rattle.sheet_reader.specs.Forms.{range, RuleForm}
use Rattle.sheet_reader.specs.Parts.{block, PartForm, at_rule, part_pieces}
use Rattle.sheet_reader.specs.Layout.{MediaForm, media_form, Laid, laid, level_of, AreLaid}
use Rattle.sheet_reader.specs.Grammar.{IsEnding, in_block, in_open_block, IsPart, at_rule_part, qualified_part, AreParts, AreShut}
use Rattle.sheet_reader.specs.Sheets.{body_end, rule_of, rules_in}
use Rattle.sheet_reader.specs.Usable.{IsRuleOf, rule_range}
use Rattle.sheet_reader.proofs.LaidMoves.{part_shut, media_shut}
use Rattle.sheet_reader.proofs.MovedLaw.{head_of}
use Rattle.sheet_reader.proofs.RulePaths.{RulePart, rule_part, as_block}
use Rattle.sheet_reader.proofs.SpotEnds.{any_token}
use Rattle.sheet_reader.proofs.Spots.{Spot, at_spot, past_part, past_media, in_media}
use Rattle.sheet_reader.proofs.UsableForms.{media_is, no_rule, tiles_some, laid_say}

-- the body starts before the place
abbrev pub StartsBy : ℕ → RuleForm → Type 0
StartsBy place r = r.body.start < place

pub all_by : (low high : ℕ) → low ≤ high → (rs : List RuleForm) → AllByRecursion (StartsBy low) rs → AllByRecursion (StartsBy high) rs
all_by low high less [] all = tt
all_by low high less (r ∷ rs) all = (omega (arith, less, all.0), all_by low high less rs all.1)

both_by : (place : ℕ) (xs ys : List RuleForm) → AllByRecursion (StartsBy place) xs → AllByRecursion (StartsBy place) ys
    → AllByRecursion (StartsBy place) (xs ++ ys)
both_by place [] ys a b = b
both_by place (x ∷ xs) ys a b = (a.0, both_by place xs ys a.1 b)

-- whole pieces end where their text does
pub whole_seam : (text after : List ℕ) (place hi : ℕ) (front : List ℕ) (ts : List Token) → IsWholeBefore after place front ts
    → AreTiles text place hi ts → hi ≡ place + length front
whole_seam text after place hi front ts no_more tiles = omega (arith, tiles)
whole_seam text after place hi front _ (piece_and {ts = more} p own rest is len found whole) tiles =
    let e = whole_seam text after (place + p.len) hi rest more whole tiles.2 in
    omega (arith, e, len, ap length is, length-append own rest)

-- a rule in a block that is closed
closed_block : (q : RulePart) → IsEnding (block q.brace q.body q.close) (any_token ∷ []) → (c : Token) × (q.close ≡ Some c)
closed_block q e = by e
  where
    by : {close : Option Token} → IsEnding (block q.brace q.body close) (any_token ∷ []) → (c : Token) × (close ≡ Some c)
    by (in_block _ c _ kind own closed) = (c, refl)
    by (in_open_block _ _ kind own over) = absurd (cc)

rule_ending : (level : Level) (q : RulePart) → IsPart level (rule_part q) (any_token ∷ [])
    → IsEnding (block q.brace q.body q.close) (any_token ∷ [])
rule_ending level q (qualified_part _ _ begins r) = r.ends

body_of : (text : List ℕ) (around : Option ℕ) (q : RulePart) (r : RuleForm) → rule_of text around (rule_part q) ≡ Some r
    → r.body.start ≡ q.brace.end
unfolding rule_of
body_of text around q r e =
    sym (ap (λ (b : Range). b.start)
    (head_of text around (words_after text false q.prelude) (range q.brace.end (body_end text q.close)) q.body r e).body)

part_starts : (text : List ℕ) (around : Option ℕ) (level : Level) (p : PartForm) (lo hi : ℕ) → IsPart level p (any_token ∷ [])
    → AreTiles text lo hi (part_pieces p) → (o : Option RuleForm) → rule_of text around p ≡ o
    → AllByRecursion (StartsBy hi) (option_to_list o ++ [])
part_starts text around level p lo hi is_part tiles None e = tt
part_starts text around level p lo hi is_part tiles (Some r) e =
    let b = as_block text around p r e in (
      by b.q (subst (λ (x : PartForm). IsPart level x (any_token ∷ [])) b.is is_part)
          (subst (λ (x : PartForm). AreTiles text lo hi (part_pieces x)) b.is tiles) (ap (rule_of text around) (sym b.is) ∙ e),
      tt,
    )
  where
    by : (q : RulePart) → IsPart level (rule_part q) (any_token ∷ []) → AreTiles text lo hi (part_pieces (rule_part q))
        → rule_of text around (rule_part q) ≡ Some r → r.body.start < hi
    by q part tiles found =
        let c = closed_block q (rule_ending level q part) in
        let head = tiles_cut text lo hi q.prelude (q.brace ∷ (q.body ++ option_to_list q.close)) tiles in
        let some : 0 < length (q.body ++ option_to_list q.close) =
        omega (arith, length-append q.body (option_to_list q.close), ap (λ (o : Option Token). length (option_to_list o)) c.1) in
        let over = tiles_some text q.brace.end hi (q.body ++ option_to_list q.close) some head.right.2 in
        omega (arith, over, body_of text around q r found)

between_starts : (text : List ℕ) (from to : ℕ) (rs : List RuleForm) → AreBetween text from to (map rule_range rs) → All (IsRuleOf text) rs
    → (hi : ℕ) → to < hi → AllByRecursion (StartsBy hi) rs
between_starts text from to [] between each hi less = tt
between_starts text from to (r ∷ rs) between each hi less =
    let own = All-head (IsRuleOf text) r rs each in
    let later = between_starts text r.body.end to rs between.2 (All-tail (IsRuleOf text) r rs each) hi less in
    let order = between_order text r.body.end to (map rule_range rs) between.2 in
    (omega (arith, own.body.order, order, less), later)
  where
    between_order : (text : List ℕ) (from to : ℕ) (ranges : List Range) → AreBetween text from to ranges → from ≤ to
    between_order text from to [] e = e
    between_order text from to (x ∷ ranges) e = let more = between_order text x.end to ranges e.2 in omega (arith, e.0, e.1.order, more)

-- the rules of a media rule that is closed
media_starts : (text : List ℕ) (k : ℕ) (level : Level) (p : PartForm) (m : MediaForm) (inner : List PartForm) (within : List Laid)
    (lo hi : ℕ)
    → IsPart level p (any_token ∷ []) → media_form text p ≡ Some m → AreParts Inner inner m.inside
    → AreLaid text (Some k) (suc k) inner within → IsCharBoundary text lo → AreTiles text lo hi (part_pieces p)
    → AllByRecursion (StartsBy hi) (rules_in text within)
media_starts text k level p m inner within lo hi is_part is own are edge tiles =
    let shut = media_shut level text p m inner (any_token ∷ []) is own is_part (part_shut level p (any_token ∷ []) none is_part) in
    let i = media_is text p m is in
    by i.first i.close shut (subst (λ (x : PartForm). IsPart level x (any_token ∷ [])) i.is is_part)
    (subst (λ (x : PartForm). AreTiles text lo hi (part_pieces x)) i.is tiles)
  where
    none : any_token ∷ [] ≡ [] → ⊥
    none e = cc

    closed : (first : Token) (close : Option Token)
        → IsPart level (at_rule m.keyword m.prelude (block first m.inside close)) (any_token ∷ [])
        → (c : Token) × (close ≡ Some c)
    closed first close (at_rule_part _ _ _ at r) = ended r.ends
      where
        ended : {close : Option Token} → IsEnding (block first m.inside close) (any_token ∷ []) → (c : Token) × (close ≡ Some c)
        ended (in_block _ c _ kind vs e) = (c, refl)
        ended (in_open_block _ _ kind vs over) = absurd (cc)

    by : (first : Token) (close : Option Token) → AreShut inner
        → IsPart level (at_rule m.keyword m.prelude (block first m.inside close)) (any_token ∷ [])
        → AreTiles text lo hi (part_pieces (at_rule m.keyword m.prelude (block first m.inside close)))
        → AllByRecursion (StartsBy hi) (rules_in text within)
    by first close shut part all =
        let c = closed first close part in
        let lead = m.keyword ∷ (m.prelude ++ first ∷ []) in
        let whole : AreTiles text lo hi (lead ++ (m.inside ++ option_to_list close)) =
        subst (λ (ts : List Token). AreTiles text lo hi (m.keyword ∷ ts))
        (sym (append_assoc m.prelude (first ∷ []) (m.inside ++ option_to_list close)))
        all in
        let head = tiles_cut text lo hi lead (m.inside ++ option_to_list close) whole in
        let body = tiles_cut text head.seam hi m.inside (option_to_list close) head.right in
        let over = tiles_some text body.seam hi (option_to_list close)
        (omega (arith, ap (λ (o : Option Token). length (option_to_list o)) c.1)) body.right in
        let says = laid_say text (Some k) (suc k) inner within are Inner m.inside head.seam body.seam own
        (tiles_edge text lo head.seam lead edge head.left) body.left (inl shut) in
        between_starts text head.seam body.seam (rules_in text within) says.ranges says.each hi over

pub spot_starts : (text : List ℕ) {around a : Option ℕ} {k j : ℕ} (rs : List RuleForm) (xs : List Token) → Spot text around k a j rs xs
    → (lo hi : ℕ) → IsCharBoundary text lo → AreTiles text lo hi xs → AllByRecursion (StartsBy hi) rs
unfolding rules_in
spot_starts text _ _ at_spot lo hi edge tiles = tt
spot_starts text {around = around} {k = k} _ _ (past_part p rs xs part plain spot) lo hi edge tiles =
    let cut = tiles_cut text lo hi (part_pieces p) xs tiles in
    let more = spot_starts text rs xs spot cut.seam hi (tiles_edge text lo cut.seam (part_pieces p) edge cut.left) cut.right in
    let less = tiles_order text cut.seam hi xs cut.right in
    let own = part_starts text around (level_of around) p lo cut.seam (part (any_token ∷ [])) cut.left (rule_of text around p) refl in
    both_by hi (rules_in text (laid around p ∷ [])) rs (all_by cut.seam hi less (rules_in text (laid around p ∷ [])) own) more
spot_starts text {around = around} {k = k} _ _ (past_media p m inner within rs xs part is own are spot) lo hi edge tiles =
    let cut = tiles_cut text lo hi (part_pieces p) xs tiles in
    let more = spot_starts text rs xs spot cut.seam hi (tiles_edge text lo cut.seam (part_pieces p) edge cut.left) cut.right in
    let less = tiles_order text cut.seam hi xs cut.right in
    let inside = media_starts text k (level_of around) p m inner within lo cut.seam (part (any_token ∷ [])) is own are edge cut.left in
    let rules = no_rule text around p m within (media_is text p m is) in
    both_by hi (rules_in text (laid around p ∷ within)) rs
    (subst (AllByRecursion (StartsBy hi)) (sym rules) (all_by cut.seam hi less (rules_in text within) inside)) more
spot_starts text {around = around} {k = k} _ _
    (in_media keyword prelude first rs xs at named values curly over_front spot) lo hi edge tiles =
    let lead = keyword ∷ (prelude ++ first ∷ []) in
    let whole : AreTiles text lo hi (lead ++ xs) =
    subst (λ (ts : List Token). AreTiles text lo hi (keyword ∷ ts)) (sym (append_assoc prelude (first ∷ []) xs)) tiles in
    let cut = tiles_cut text lo hi lead xs whole in
    spot_starts text rs xs spot cut.seam hi (tiles_edge text lo cut.seam lead edge cut.left) cut.right
