-- The reading of a sheet where the selector list of a rule is replaced by a sealed one is the old reading with its places moved.
use Rattle.std.proofs.Common.{◌≡◌, ℕ, suc, ◌+◌, Bool, true, false, List, [], ◌∷◌, ◌++◌, map, take, drop}
use Rattle.std.proofs.Common.{length, Option, Some, None, refl, sym, ap, subst, ◌∙◌, append_assoc, length-append, arith}
use Rattle.std.specs.Prelude.{option_map, option_to_list, slice_get}
use Rattle.std.proofs.Math.Seq.{drop-append_seam, take-append_seam}
use Rattle.css_tokens.specs.declared.token.Range.{Range}
use Rattle.css_tokens.specs.declared.token.Token.{Token}
use Rattle.css_tokens.specs.declared.token.TokenKind.{TokenKind}
use Rattle.css_tokens.specs.declared.token.TokenKind.TheVariants as tokens
use Rattle.css_tokens.specs.Codes.{begins, is_white}
use Rattle.css_tokens.specs.Pieces.{pieces, pieces_after}
use Rattle.css_tokens.specs.Seams.{IsWholeBefore}
use Rattle.css_tokens.proofs.SeamPieces.{pieces_at}
use Rattle.selectors.specs.declared.words.Word.{Word}
use Rattle.selectors.specs.Words.{word_reading, words_after, words_of}
use Rattle.selectors.specs.Forms.{SelectorForm, ◌>>=◌}
use Rattle.selectors.specs.Reading.{range_of, selector_list_of, selectors_of}
use Rattle.selectors.specs.Moves.{Cut, moved_place, placed_range, placed_selector}
use Rattle.sheet_reader.specs.declared.sheet.MediaRule.{MediaRule}
use Rattle.sheet_reader.specs.Brackets.{stops_at, until}
use Rattle.sheet_reader.specs.Declarations.{declarations}
use Rattle.sheet_reader.specs.Forms.{range, RuleForm}
use Rattle.sheet_reader.specs.Grammar.{IsEnding, in_block, in_open_block, IsPart, qualified_part, is_at_keyword, BeginsQualified}
use Rattle.sheet_reader.specs.Layout.{media_form, media_rule, media_in, Laid, laid, laid_out, level_of, AreLaid, part_laid}
use Rattle.sheet_reader.specs.Moves.{placed_property, placed_media, placed_rule, replaced}
use Rattle.sheet_reader.specs.Parts.{block, PartForm, qualified, is_passed, ending_pieces, part_pieces, parts}
use Rattle.sheet_reader.specs.Sealing.{is_sealed}
use Rattle.sheet_reader.specs.Sheets.{body_end, style_rule, rule_of, place_of, rules_in, places_in, sheet_of}
use Rattle.sheet_reader.proofs.FrameForms.{media_cons}
use Rattle.sheet_reader.proofs.Gaps.{AllPassed, passed_top, facts_gap}
use Rattle.sheet_reader.proofs.GrammarForms.{parts_only, parts_spelled}
use Rattle.sheet_reader.proofs.LaidMoves.{laid_in, laid_again, flat_raised, flat_again, stays, any_moved}
use Rattle.sheet_reader.proofs.LayoutForms.{laid_spelled, laid_only}
use Rattle.sheet_reader.proofs.MediaTexts.{pieces_in}
use Rattle.sheet_reader.proofs.OpenForms.{opens, values_shut}
use Rattle.sheet_reader.proofs.PartMoves.{AreFlat, flat_of, flat_parts, to_list_raised, map_append}
use Rattle.sheet_reader.proofs.PutPieces.{inner_solid, solid_begin, no_range}
use Rattle.sheet_reader.proofs.Raised.{raised, raised_part, raised_laid, flat}
use Rattle.sheet_reader.proofs.ReadMoves.{AllTokens, tokens_split, declarations_same, rules_same, media_same, places_same}
use Rattle.sheet_reader.proofs.ReadMoves.{ending_place_same}
use Rattle.sheet_reader.proofs.RulePaths.{RulePart, rule_part, Path, here, past_part, past_media, in_media, find}
use Rattle.sheet_reader.proofs.Spots.{values_at}
use Rattle.sheet_reader.proofs.TextMoves.{whole_tokens, widen}
use Rattle.sheet_reader.proofs.ValueForms.{until_is}
use Rattle.sheet_reader.proofs.WordMoves.{SamePart}
use Rattle.sheet_laws.specs.Heads.{starts_solid, ends_in_return, range_cut, changed_at, reheaded, moved_head, head_moved_by}
use Rattle.sheet_laws.proofs.HeadPaths as paths
use Rattle.sheet_laws.proofs.HeadPaths.{plain_before, media_before, Way, past, into, Exchanged, SpotAt, way_flat, spot_at, exchange}
use Rattle.sheet_laws.proofs.HeadCuts.{front_again, brace_at, put_pieces, pieces_there, put_in_both, with_head, behind_brace}
use Rattle.sheet_laws.proofs.HeadCuts.{head_cut, moves, ends_move, front_stands, end_stands}
use Rattle.sheet_laws.proofs.HeadTexts.{HeadText, head_text}
use Rattle.sheet_laws.proofs.HeadPuts.{SolidPut, solid_put, new_head, head_nested, head_ends, head_read}
use Rattle.sheet_reader.proofs.Names.{Level, top_level, block_level, at_block}

-- ---- the rule on its way

-- the rule is the first part, with these pieces behind its `{`
data RuleHere (text : List ℕ) (r : RuleForm) (q : RulePart) : Option ℕ → ℕ → List PartForm → List Laid → List Token → Type 0 where
  rule_here : {around : Option ℕ} {k : ℕ} (ps : List PartForm) (ls : List Laid) → AreLaid text around k ps ls
      → rule_of text around (rule_part q) ≡ Some r
      → RuleHere text r q around k (rule_part q ∷ ps) (laid around (rule_part q) ∷ ls) (q.body ++ (option_to_list q.close ++ flat ps))

record RuleWay (text : List ℕ) (r : RuleForm) (q : RulePart) (around : Option ℕ) (k : ℕ) (ps : List PartForm) (ls : List Laid)
    (rs : List RuleForm) : Type 0 where
  ms : List MediaRule
  xs : List Token
  zs : List Token
  way : Way text (RuleHere text r q) around k ps ls rs ms xs zs

rule_way : (text : List ℕ) (r : RuleForm) (q : RulePart) (around : Option ℕ) (k : ℕ) (ps : List PartForm) (ls : List Laid)
    (rs : List RuleForm) (xs more : List Token) → Path text r q around k ps ls rs xs more → RuleWay text r q around k ps ls rs
rule_way text r q around k _ _ _ _ _ (here ps ls are e) = record {
  ms = [];
  xs = [];
  zs = q.body ++ (option_to_list q.close ++ flat ps);
  way = paths.here (rule_part q ∷ ps) (laid around (rule_part q) ∷ ls) (q.body ++ (option_to_list q.close ++ flat ps))
      (rule_here ps ls are e);
}
rule_way text r q around k _ _ _ _ _ (past_part p ps ls rs xs more none path) =
    let w = rule_way text r q around k ps ls rs xs more path in
    record {
      ms = media_in text (laid around p ∷ []) ++ w.ms;
      xs = part_pieces p ++ w.xs;
      zs = w.zs;
      way = past p ps [] ls rs w.ms w.xs w.zs (plain_before p none) w.way;
    }
rule_way text r q around k _ _ _ _ _ (past_media p m inner ps within ls rs xs more is own are path) =
    let w = rule_way text r q around (suc k + length (media_in text within)) ps ls rs xs more path in
    record {
      ms = media_in text (laid around p ∷ within) ++ w.ms;
      xs = part_pieces p ++ w.xs;
      zs = w.zs;
      way = past p ps within ls rs w.ms w.xs w.zs (media_before p m inner within is own are) w.way;
    }
rule_way text r q around k _ _ _ _ _ (in_media m first last inner ps within ls rs xs more is own path are) =
    let w = rule_way text r q (Some k) (suc k) inner within rs xs more path in
    record {
      ms = media_rule text around m ∷ w.ms;
      xs = m.keyword ∷ (m.prelude ++ first ∷ w.xs);
      zs = w.zs ++ (option_to_list last ++ flat ps);
      way = into m first last inner ps within ls rs w.ms w.xs w.zs is own w.way are;
    }

rule_starts : (text : List ℕ) (r : RuleForm) (q : RulePart) (around : Option ℕ) (k : ℕ) (ps : List PartForm) (ls : List Laid)
    (zs : List Token) → RuleHere text r q around k ps ls zs → flat ps ≡ q.prelude ++ q.brace ∷ zs
rule_starts text r q around k _ _ _ (rule_here ps ls are e) =
    append_assoc q.prelude (q.brace ∷ (q.body ++ option_to_list q.close)) (flat ps)
    ∙ ap (λ (ys : List Token). q.prelude ++ q.brace ∷ ys) (append_assoc q.body (option_to_list q.close) (flat ps))

-- what a style rule says
record Said (text : List ℕ) (around : Option ℕ) (ws : List Word) (b : Range) (within : List Token) (r : RuleForm) : Type 0 where
  prelude : range_of ws ≡ Some r.prelude
  body : b ≡ r.body
  properties : declarations text within ≡ r.properties
  media : around ≡ r.media

said_of : (text : List ℕ) (around : Option ℕ) (ws : List Word) (b : Range) (within : List Token) (r : RuleForm)
    → style_rule text around ws b within ≡ Some r → Said text around ws b within r
said_of text around ws b within r e = by (range_of ws) (selector_list_of (word_reading text ws)) refl e
  where
    by : (o : Option Range) (l : Option (List SelectorForm)) → range_of ws ≡ o
        → (o >>= λ prelude. l >>= λ selectors.
        Some (record { prelude = prelude; selectors = selectors; body = b; properties = declarations text within; media = around }))
        ≡ Some r
        → Said text around ws b within r
    by None l a e = absurd (cc)
    by (Some p) None a e = absurd (cc)
    by (Some p) (Some ss) a e =
        let same : (record { prelude = p; selectors = ss; body = b; properties = declarations text within; media = around }) ≡ r = cc in
        record {
          prelude = a ∙ ap (λ (x : RuleForm). Some x.prelude) same;
          body = ap (λ (x : RuleForm). x.body) same;
          properties = ap (λ (x : RuleForm). x.properties) same;
          media = ap (λ (x : RuleForm). x.media) same;
        }

-- what is known of its prelude
record RuleHead (text : List ℕ) (r : RuleForm) (q : RulePart) : Type 0 where
  first : Token
  others : List Token
  is : q.prelude ≡ first ∷ others
  solid : is_passed block_level first.kind ≡ false
  curly : q.brace.kind ≡ tokens.OpenCurly
  none : opens [] q.prelude ≡ []
  ranged : range_of (words_after text false q.prelude) ≡ Some r.prelude

rule_said : (text : List ℕ) (around : Option ℕ) (q : RulePart) (r : RuleForm) → rule_of text around (rule_part q) ≡ Some r
    → Said text around (words_after text false q.prelude) (range q.brace.end (body_end text q.close)) q.body r
unfolding rule_of
rule_said text around q r e = said_of text around (words_after text false q.prelude) (range q.brace.end (body_end text q.close)) q.body r e

rule_head : (text : List ℕ) (r : RuleForm) (q : RulePart) (a : Option ℕ) (level : Level) (rest : List Token)
    → rule_of text a (rule_part q) ≡ Some r → IsPart level (rule_part q) rest → RuleHead text r q
rule_head text r q a level rest e (qualified_part _ _ starts rule) = by q.prelude refl starts
  where
    ranged : range_of (words_after text false q.prelude) ≡ Some r.prelude
    ranged = (rule_said text a q r e).prelude

    curly_of : {close : Option Token} → IsEnding (block q.brace q.body close) rest → q.brace.kind ≡ tokens.OpenCurly
    curly_of (in_block _ c _ k vs closed) = k
    curly_of (in_open_block _ _ k vs over) = k

    by : (ts : List Token) → q.prelude ≡ ts → BeginsQualified level (ts ++ ending_pieces (block q.brace q.body q.close)) → RuleHead text r q
    by [] is b = absurd (no_range text [] r.prelude tt (ap (λ (ts : List Token). range_of (words_after text false ts)) (sym is) ∙ ranged))
    by (t ∷ ts) is b = record {
      first = t;
      others = ts;
      is = is;
      solid = inner_solid level t.kind b.0;
      curly = curly_of rule.ends;
      none = values_shut at_block q.prelude q.brace ((q.body ++ option_to_list q.close) ++ rest)
          (until_is at_block q.prelude (q.brace ∷ ((q.body ++ option_to_list q.close) ++ rest)) rule.values rule.stopped);
      ranged = ranged;
    }

-- where its way ends
rule_there : (text : List ℕ) (r : RuleForm) (q : RulePart) (around : Option ℕ) (k : ℕ) (xs : List Token)
    → SpotAt text (RuleHere text r q) around k xs → RuleHead text r q
rule_there text r q around k xs s = by s.is s.all
  where
    by : {a : Option ℕ} {j : ℕ} {ps : List PartForm} {ls : List Laid} {zs : List Token} → RuleHere text r q a j ps ls zs
        → AreFlat (level_of a) ps → RuleHead text r q
    by {a = a} (rule_here ps ls are e) all = rule_head text r q a (level_of a) (flat ps) e all.0

-- ---- the rule with another prelude

not_passed : (level : Level) (k : TokenKind) → is_passed top_level k ≡ false → is_passed level k ≡ false
not_passed level k e = by (is_passed level k) refl
  where
    clash : (b : Bool) → b ≡ true → b ≡ false → ⊥
    clash true g h = cc
    clash false g h = cc

    by : (b : Bool) → is_passed level k ≡ b → is_passed level k ≡ false
    by true h = absurd (clash (is_passed top_level k) (passed_top level k h) e)
    by false h = h

-- an ending with another `{`
pub rebraced : (first first2 : Token) (within : List Token) (close : Option Token) (rest : List Token) → first2.kind ≡ tokens.OpenCurly
    → IsEnding (block first within close) rest → IsEnding (block first2 within close) rest
rebraced first first2 within _ rest curly (in_block _ c _ k vs closed) = in_block first2 c within curly vs closed
rebraced first first2 within _ rest curly (in_open_block _ _ k vs over) = in_open_block first2 within curly vs over

-- a rule's part with its ending moved, behind another prelude
part_again : (level : Level) (f : ℕ → ℕ) (q : RulePart) (ps : List PartForm) (first : Token) (others : List Token) (brace : Token)
    → is_passed top_level first.kind ≡ false → is_at_keyword first.kind ≡ false → brace.kind ≡ tokens.OpenCurly
    → ((rest : List Token) → until at_block ((first ∷ others) ++ brace ∷ rest) ≡ length (first ∷ others))
    → AreFlat level (rule_part q ∷ ps)
    → AreFlat level
    (qualified (first ∷ others) (block brace (map (raised f) q.body) (option_map (raised f) q.close)) ∷ map (raised_part f) ps)
part_again level f q ps first others brace solid no_at curly ends all =
    let moved = flat_again level f (rule_part q ∷ ps) all in
    (by moved.0, moved.1)
  where
    within : List Token
    within = map (raised f) q.body

    close : Option Token
    close = option_map (raised f) q.close

    rest : List Token
    rest = flat (map (raised_part f) ps)

    by : IsPart level (raised_part f (rule_part q)) rest → IsPart level (qualified (first ∷ others) (block brace within close)) rest
    by (qualified_part _ _ starts r) =
        qualified_part (first ∷ others) (block brace within close) (not_passed level first.kind solid, no_at)
        (record {
          values = values_at at_block (first ∷ others) (brace ∷ ((within ++ option_to_list close) ++ rest))
              (ends ((within ++ option_to_list close) ++ rest));
          stopped = ap (stops_at at_block) curly;
          ends = rebraced (raised f q.brace) brace within close rest curly r.ends;
        })

module _ (text other put : List ℕ) (r : RuleForm) (q : RulePart) (n lo hi : ℕ) (c : Cut) (start_is : c.start ≡ n)
    (back : SamePart text other (moved_place c) lo hi) (ended : moved_place c (length text) ≡ length other)
    (own : SamePart put other (λ x. n + x) 0 (length put)) (p : SolidPut put) (tail : List Token) (passed : AllPassed block_level tail)
    (head : Range) (ss : List SelectorForm) (spans : range_of (words_of put) ≡ Some head) (found : selectors_of put ≡ Some ss)
    (brace : Token)
    (curly : brace.kind ≡ tokens.OpenCurly) (opened : moved_place c q.brace.end ≡ brace.end) where
  close_moved : (close : Option Token) → body_end other (option_map (raised (moved_place c)) close) ≡ moved_place c (body_end text close)
  close_moved None = sym ended
  close_moved (Some t) = refl

  rule_again : (around : Option ℕ) → rule_of text around (rule_part q) ≡ Some r → AllTokens lo hi q.body
      → rule_of other around (qualified (new_head put p n tail passed)
      (block brace (map (raised (moved_place c)) q.body) (option_map (raised (moved_place c)) q.close)))
      ≡ Some (reheaded c head ss r)
  unfolding rule_of
  rule_again around e within =
      let h = rule_said text around q r e in
      let k = head_read put p n tail passed other head ss own spans found in
      let at : ◌≡◌ {A = ℕ → ℕ} (λ x. n + x) (λ x. c.start + x) = ap (λ (m : ℕ). λ (x : ℕ). m + x) (sym start_is) in
      let ranged = k.ranged ∙ ap (λ (g : ℕ → ℕ). Some (placed_range g head)) at in
      let listed = k.listed ∙ ap (λ (g : ℕ → ℕ). Some (map (placed_selector g) ss)) at in
      let body : range brace.end (body_end other (option_map (raised (moved_place c)) q.close)) ≡ placed_range (moved_place c) r.body =
      (λ i. range (sym opened i) (close_moved q.close i)) ∙ ap (placed_range (moved_place c)) h.body in
      let declared : declarations other (map (raised (moved_place c)) q.body) ≡ map (placed_property (moved_place c)) r.properties =
      declarations_same text other (moved_place c) lo hi back q.body within ∙ ap (map (placed_property (moved_place c))) h.properties in
      λ i. ranged i >>= λ prelude. listed i >>= λ selectors.
      Some (record { prelude = prelude; selectors = selectors; body = body i; properties = declared i; media = h.media i })

  rule_target : (around : Option ℕ) (k : ℕ) (ps : List PartForm) (ls : List Laid) (zs : List Token) → RuleHere text r q around k ps ls zs
      → AreFlat (level_of around) ps → AllTokens lo hi zs
      → Exchanged text other (moved_place c) (new_head put p n tail passed) brace (r ∷ []) (reheaded c head ss r ∷ []) [] [] around k ps ls
      [] [] [] zs
  unfolding rules_in places_in place_of media_form
  rule_target around k _ _ _ (rule_here ps ls are e) all more =
      let first = raised (λ x. n + x) p.first in
      let others = map (raised (λ x. n + x)) p.others ++ tail in
      let q2 = qualified (first ∷ others)
      (block brace (map (raised (moved_place c)) q.body) (option_map (raised (moved_place c)) q.close)) in
      let ps2 = map (raised_part (moved_place c)) ps in
      let ls2 = map (raised_laid (moved_place c)) ls in
      let halves = tokens_split lo hi q.body (option_to_list q.close ++ flat ps) more in
      let behind = (tokens_split lo hi (option_to_list q.close) (flat ps) halves.1).1 in
      let in_tail = laid_in lo hi text around k ps ls are behind in
      let rules = rules_same text other (moved_place c) lo hi back ls in_tail (any_moved text other (moved_place c) ended ls) in
      let media = media_same text other (moved_place c) lo hi back ls in_tail in
      let places = places_same text other (moved_place c) lo hi back ps behind in
      let new = rule_again around e halves.0 in
      let place = ending_place_same text other (moved_place c) lo hi back (block q.brace q.body q.close) in
      let flat_ps2 = flat_raised (moved_place c) ps in
      let close2 = to_list_raised (moved_place c) q.close in
      let tail_is : map (raised (moved_place c)) (q.body ++ (option_to_list q.close ++ flat ps))
      ≡ map (raised (moved_place c)) q.body
      ++ (map (raised (moved_place c)) (option_to_list q.close) ++ map (raised (moved_place c)) (flat ps)) =
      map_append (raised (moved_place c)) q.body (option_to_list q.close ++ flat ps)
      ∙ ap (λ (ys : List Token). map (raised (moved_place c)) q.body ++ ys)
      (map_append (raised (moved_place c)) (option_to_list q.close) (flat ps)) in
      record {
        parts = q2 ∷ ps2;
        out = laid around q2 ∷ ls2;
        rules = rules_in text ls;
        media = media_in text ls;
        flat_is = append_assoc (first ∷ others)
            (brace ∷ (map (raised (moved_place c)) q.body ++ option_to_list (option_map (raised (moved_place c)) q.close))) (flat ps2)
            ∙ ap (λ (ys : List Token). (first ∷ others) ++ brace ∷ ys)
            (append_assoc (map (raised (moved_place c)) q.body) (option_to_list (option_map (raised (moved_place c)) q.close)) (flat ps2)
            ∙ (λ i. map (raised (moved_place c)) q.body ++ (close2 i ++ flat_ps2 i)) ∙ sym tail_is);
        all = part_again (level_of around) (moved_place c) q ps first others brace p.begins.solid p.begins.no_at curly
            (λ rest. head_ends put p n tail passed brace rest curly) all;
        are_laid = part_laid q2 ps2 ls2 refl (laid_again text other (moved_place c) lo hi back around k ps ls are behind);
        old_rules = ap (λ (o : Option RuleForm). option_to_list o ++ rules_in text ls) e;
        new_rules = λ i. option_to_list (new i) ++ rules i;
        old_media = media_cons text around (rule_part q) ls None refl;
        new_media = media_cons other around q2 ls2 None refl ∙ media;
        new_places = (λ i. option_to_list (place i) ++ places i) ∙ joined (place_of text (rule_part q)) (places_in text ps);
      }
    where
      joined : (o : Option ℕ) (xs : List ℕ) → option_to_list (option_map (moved_place c) o) ++ map (moved_place c) xs
          ≡ map (moved_place c) (option_to_list o ++ xs)
      joined None xs = refl
      joined (Some x) xs = refl

-- ---- the sheet

pub changed_append : {A : Type 0} (own other : A → A) (xs : List A) (x : A) (ys : List A)
    → changed_at own other (length xs) (xs ++ x ∷ ys) ≡ map other xs ++ own x ∷ map other ys
changed_append own other [] x ys = refl
changed_append {A = A} own other (z ∷ xs) x ys = ap (λ (zs : List A). other z ∷ zs) (changed_append own other xs x ys)

-- the sheet of the new text, by what it is laid out in
reading_is : (text other : List ℕ) (c : Cut) (new : List Token) (brace : Token) (r : RuleForm) (k size : ℕ) (head : Range)
    (ss : List SelectorForm) (rs : List RuleForm) (ms : List MediaRule) (xs zs : List Token)
    → (x : Exchanged text other (moved_place c) new brace (r ∷ []) (reheaded c head ss r ∷ []) [] [] None 0 (parts top_level (pieces text))
    (laid_out text None 0 (pieces text)) rs ms xs zs) → pieces other ≡ xs ++ (new ++ brace ∷ map (raised (moved_place c)) zs)
    → length rs ≡ k → c ≡ range_cut r.prelude size
    → sheet_of other ≡ head_moved_by (sheet_of text) k head ss size (Some r)
reading_is text other c new brace r k size head ss rs ms xs zs x is number cuts =
    let ls = laid_out text None 0 (pieces text) in
    let parts_new : x.parts ≡ parts top_level (pieces other) =
    parts_only top_level x.parts (flat x.parts) (flat_parts top_level x.parts x.all) ∙ ap (parts top_level) (x.flat_is ∙ sym is) in
    let out_new : x.out ≡ laid_out other None 0 (pieces other) =
    laid_only other None 0 (pieces other) x.out (subst (λ (ps : List PartForm). AreLaid other None 0 ps x.out) parts_new x.are_laid) in
    let rules_new : rules_in other (laid_out other None 0 (pieces other))
    ≡ changed_at (reheaded c head ss) (placed_rule (moved_place c)) k (rules_in text ls) =
    sym (ap (rules_in other) out_new) ∙ x.new_rules
    ∙ sym (changed_append (reheaded c head ss) (placed_rule (moved_place c)) rs r x.rules)
    ∙ (λ i. changed_at (reheaded c head ss) (placed_rule (moved_place c)) (number i) (sym x.old_rules i)) in
    let media_new : media_in other (laid_out other None 0 (pieces other)) ≡ map (placed_media (moved_place c)) (media_in text ls) =
    sym (ap (media_in other) out_new) ∙ x.new_media ∙ sym (map_append (placed_media (moved_place c)) ms x.media)
    ∙ ap (map (placed_media (moved_place c))) (sym x.old_media) in
    let places_new : places_in other (parts top_level (pieces other))
    ≡ map (moved_place c) (places_in text (parts top_level (pieces text))) =
    sym (ap (places_in other) parts_new) ∙ x.new_places in
    let zero_stays : 0 ≡ moved_place c 0 = sym (stays c 0 (omega arith)) in
    (λ i. record { rules = rules_new i; places = zero_stays i ∷ places_new i; media = media_new i })
    ∙ ap (λ (d : Cut). record {
      rules = changed_at (reheaded d head ss) (placed_rule (moved_place d)) k (rules_in text ls);
      places = map (moved_place d) (0 ∷ places_in text (parts top_level (pieces text)));
      media = map (placed_media (moved_place d)) (media_in text ls);
    }) cuts

-- ---- the law

-- the new text at the place of a prelude
pub replaced_at : (front old behind put text : List ℕ) (r : Range) → text ≡ front ++ (old ++ behind) → r.start ≡ length front
    → r.end ≡ length front + length old → replaced text r put ≡ front ++ (put ++ behind)
replaced_at front old behind put text r is start end =
    let before : take r.start text ≡ front = (λ i. take (start i) (is i)) ∙ take-append_seam front (old ++ behind) in
    let size : length (front ++ old) ≡ r.end = omega (arith, length-append front old, end) in
    let left : drop r.end text ≡ behind =
    (λ i. drop (sym size i) ((is ∙ sym (append_assoc front old behind)) i)) ∙ drop-append_seam (front ++ old) behind in
    λ i. before i ++ (put ++ left i)

-- at a rule whose way is known
head_at : (text put : List ℕ) (k : ℕ) (r : RuleForm) (head : Range) (ss : List SelectorForm) (q : RulePart) (rs : List RuleForm)
    (ms : List MediaRule) (xs zs : List Token)
    → Way text (RuleHere text r q) None 0 (parts top_level (pieces text)) (laid_out text None 0 (pieces text)) rs ms xs zs → length rs ≡ k
    → is_sealed put ≡ true → starts_solid put ≡ true → ends_in_return put ≡ false → range_of (words_of put) ≡ Some head
    → selectors_of put ≡ Some ss
    → sheet_of (replaced text r.prelude put) ≡ head_moved_by (sheet_of text) k head ss (length put) (Some r)
head_at text put k r head ss q rs ms xs zs way number sealed solid no_return spans found =
    ap sheet_of (replaced_at h.front h.prelude v put text r.prelude h.is h.start h.end)
    ∙ reading_is text other c new brace r k (length put) head ss rs ms xs zs exchanged pieces_are number cuts
  where
    ps : List PartForm
    ps = parts top_level (pieces text)

    ls : List Laid
    ls = laid_out text None 0 (pieces text)

    both : (pieces text ≡ flat ps) × AreFlat top_level ps
    both = flat_of top_level ps (pieces text) (parts_spelled top_level (pieces text))

    spot : SpotAt text (RuleHere text r q) None 0 xs
    spot = spot_at text (RuleHere text r q) q.prelude q.brace (rule_starts text r q) None 0 ps ls rs ms xs zs way both.1

    known : RuleHead text r q
    known = rule_there text r q None 0 xs spot

    old_pieces : pieces text ≡ xs ++ (q.prelude ++ q.brace ∷ zs)
    old_pieces = both.0 ∙ way_flat text (RuleHere text r q) q.prelude q.brace (rule_starts text r q) None 0 ps ls rs ms xs zs way

    h : HeadText text r.prelude xs q.brace zs
    h = head_text text r.prelude xs known.first known.others q.brace zs
        (old_pieces ∙ ap (λ (ys : List Token). xs ++ (ys ++ q.brace ∷ zs)) known.is) known.solid known.curly
        (ap (λ (ys : List Token). range_of (words_after text false ys)) (sym known.is) ∙ known.ranged)

    v : List ℕ
    v = h.gap ++ 123 ∷ h.rest

    p : SolidPut put
    p = solid_put put ss sealed solid no_return found

    n : ℕ
    n = length h.front

    other : List ℕ
    other = with_head h.front put h.gap h.rest

    c : Cut
    c = head_cut h.front h.prelude put

    cuts : c ≡ range_cut r.prelude (length put)
    cuts = λ i. record { start = sym h.start i; end = sym h.end i; size = length put }

    put_whole : IsWholeBefore (p.trail ++ v) 0 p.front (p.first ∷ p.others)
    put_whole = p.whole v (facts_gap h.gap h.rest h.blank)

    put_is : put ++ v ≡ p.front ++ (p.trail ++ v)
    put_is = ap (λ (x : List ℕ). x ++ v) p.parted ∙ append_assoc p.front p.trail v

    no_white : begins is_white (put ++ v) ≡ false
    no_white = ap (begins is_white) put_is ∙ (solid_begin (p.trail ++ v) 0 p.front p.first p.others put_whole p.solid).0

    front_whole : IsWholeBefore (put ++ v) 0 h.front xs
    front_whole = front_again text h.front (h.prelude ++ v) spot.a spot.j spot.rs xs h.is
        (omega (arith, h.some, length-append h.prelude v)) h.whole spot.spot (put ++ v) no_white

    brace : Token
    brace = brace_at (n + length put + length h.gap)

    old_end : ℕ
    old_end = behind_brace h.front h.prelude h.gap

    new_end : ℕ
    new_end = behind_brace h.front put h.gap

    at_brace : n + (0 + length p.front) + length (p.trail ++ h.gap) ≡ n + length put + length h.gap
    at_brace = omega (arith, ap length p.parted, length-append p.front p.trail, length-append p.trail h.gap)

    cut_new : (tail : List Token) × AllPassed block_level tail × (pieces_after (n + 0) 0 (p.front ++ (p.trail ++ v))
        ≡ (map (raised (λ x. n + x)) (p.first ∷ p.others) ++ tail) ++ brace ∷ pieces_after new_end 0 h.rest)
    cut_new = put_pieces put p.front p.trail h.gap h.rest n 0 (n + length put + length h.gap) (p.first ∷ p.others) at_brace p.blank h.blank
        put_whole

    tail : List Token
    tail = cut_new.0

    new : List Token
    new = map (raised (λ x. n + x)) (p.first ∷ p.others) ++ tail

    back : SamePart text other (moved_place c) old_end (old_end + length h.rest)
    back = subst (λ (t : List ℕ). SamePart t other (moved_place c) old_end (old_end + length h.rest)) (sym h.is)
        (end_stands h.front h.prelude put h.gap h.rest)

    same : SamePart text other (moved_place c) 0 n
    same = subst (λ (t : List ℕ). SamePart t other (moved_place c) 0 n) (sym h.is) (front_stands h.front h.prelude put h.gap h.rest)

    ended : moved_place c (length text) ≡ length other
    ended = ap (λ (t : List ℕ). moved_place c (length t)) h.is ∙ ends_move h.front h.prelude put h.gap h.rest

    left : pieces_after new_end 0 h.rest ≡ map (raised (moved_place c)) zs
    left = pieces_there (moved_place c) old_end new_end h.rest (moves h.front h.prelude put h.gap h.rest)
        ∙ ap (map (raised (moved_place c))) (sym h.left)

    pieces_are : pieces other ≡ xs ++ (new ++ brace ∷ map (raised (moved_place c)) zs)
    pieces_are =
        let place : n ≡ n + 0 = omega arith in
        pieces_at (put ++ v) h.front xs front_whole
        ∙ ap (λ (ys : List Token). xs ++ ys)
        ((λ i. pieces_after (place i) 0 (put_is i)) ∙ cut_new.2 ∙ ap (λ (ys : List Token). new ++ brace ∷ ys) left)

    opened : moved_place c q.brace.end ≡ brace.end
    opened =
        let whole : q.brace.end ≡ old_end + 0 = omega (arith, h.brace_end) in
        ap (moved_place c) whole ∙ moves h.front h.prelude put h.gap h.rest 0 ∙ omega arith

    lead : AllTokens 0 n xs
    lead = widen 0 (0 + n) 0 n xs (omega arith) (omega arith) (whole_tokens (h.prelude ++ v) 0 h.front xs h.whole)

    behind : AllTokens old_end (old_end + length h.rest) zs
    behind = subst (AllTokens old_end (old_end + length h.rest)) (sym h.left) (pieces_in old_end h.rest)

    exchanged : Exchanged text other (moved_place c) new brace (r ∷ []) (reheaded c head ss r ∷ []) [] [] None 0 ps ls rs ms xs zs
    exchanged =
        exchange text other c old_end (old_end + length h.rest) same back ended (RuleHere text r q) q.prelude new q.brace brace
        (rule_starts text r q) known.curly refl known.none (head_nested put p n tail cut_new.1) (r ∷ [])
        (reheaded c head ss r ∷ []) [] [] refl
        (rule_target text other put r q n old_end (old_end + length h.rest) c refl back ended (put_in_both h.front put v) p tail cut_new.1
        head ss spans found brace refl opened) None 0 ps ls rs ms xs zs way both.1 lead behind

pub head_holds : (text put : List ℕ) (k : ℕ) (r : RuleForm) (head : Range) (ss : List SelectorForm)
    → slice_get (sheet_of text).rules k ≡ Some r
    → is_sealed put ≡ true → starts_solid put ≡ true → ends_in_return put ≡ false → range_of (words_of put) ≡ Some head
    → selectors_of put ≡ Some ss
    → sheet_of (replaced text r.prelude put) ≡ moved_head (sheet_of text) k head ss (length put)
head_holds text put k r head ss e sealed solid no_return spans found =
    let ps = parts top_level (pieces text) in
    let ls = laid_out text None 0 (pieces text) in
    let f = find text r None 0 ps ls (laid_spelled text None 0 (pieces text)) k e in
    let w = rule_way text r f.q None 0 ps ls f.rs f.xs f.more f.path in
    head_at text put k r head ss f.q f.rs w.ms w.xs w.zs w.way f.number sealed solid no_return spans found
    ∙ ap (head_moved_by (sheet_of text) k head ss (length put)) (sym e)
