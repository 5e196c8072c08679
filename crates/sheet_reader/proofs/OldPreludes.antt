-- A style rule's prelude in the text of its sheet: what stands before it and behind it.
use Rattle.std.proofs.Common.{◌≡◌, ◌⊎◌, inl, inr, ℕ, ◌+◌, ◌<◌, false, List, [], ◌∷◌, ◌++◌, length, take, Option, Some, None}
use Rattle.std.proofs.Common.{refl, sym, ap, subst, ◌∙◌, append_assoc, length-append, arith}
use Rattle.std.specs.Prelude.{slice_get, option_to_list}
use Rattle.std.proofs.Math.Seq.{take-append_seam}
use Rattle.css_tokens.specs.declared.token.Range.{Range}
use Rattle.css_tokens.specs.declared.token.Token.{Token}
use Rattle.css_tokens.specs.declared.token.TokenKind.TheVariants as tokens
use Rattle.css_tokens.specs.Pieces.{pieces, pieces_after}
use Rattle.css_tokens.specs.Seams.{IsWholeBefore}
use Rattle.selectors.specs.Words.{words_after}
use Rattle.selectors.specs.Reading.{range_of}
use Rattle.sheet_reader.specs.declared.parts.Level.{Level}
use Rattle.sheet_reader.specs.declared.parts.Level.TheVariants.{Top, Inner}
use Rattle.sheet_reader.specs.Forms.{range, RuleForm}
use Rattle.sheet_reader.specs.Parts.{block, ending_pieces, parts}
use Rattle.sheet_reader.specs.Layout.{level_of, laid_out}
use Rattle.sheet_reader.specs.Grammar.{BeginsQualified, IsPart, qualified_part}
use Rattle.sheet_reader.specs.Sheets.{body_end, rule_of, sheet_of}
use Rattle.sheet_reader.proofs.Gaps.{AllPassed, Gap, gap_of}
use Rattle.sheet_reader.proofs.GrammarForms.{parts_spelled}
use Rattle.sheet_reader.proofs.JoinedLaw.{all_there, whole_alone}
use Rattle.sheet_reader.proofs.LayoutForms.{laid_spelled}
use Rattle.sheet_reader.proofs.MovedLaw.{head_of}
use Rattle.sheet_reader.proofs.PartMoves.{AreFlat, flat_of}
use Rattle.sheet_reader.proofs.PutPieces.{starts_there, ends_there, inner_solid, TrailSolid, split_trail, words_end, words_start, no_range}
use Rattle.sheet_reader.proofs.PreludeWords.{trail_words}
use Rattle.sheet_reader.proofs.ReadMoves.{AllTokens, tokens_split}
use Rattle.sheet_reader.proofs.RulePaths.{RulePart, rule_part, Path, find, path_flat, path_ends}
use Rattle.sheet_reader.proofs.SealedCuts.{split_at, open_first}
use Rattle.sheet_reader.proofs.SpotPaths.{spot_of}
use Rattle.sheet_reader.proofs.WordMoves.{SamePart}

-- the text, its prelude between these, and the way to it
pub record OldPrelude (text : List ℕ) (r : RuleForm) : Type 0 where
  pub front : List ℕ
  pub prelude : List ℕ
  pub gap : List ℕ
  pub rest : List ℕ
  pub is : text ≡ front ++ (prelude ++ (gap ++ 123 ∷ rest))
  pub start : r.prelude.start ≡ length front
  pub end : r.prelude.end ≡ length front + length prelude
  pub blank : Gap Inner gap
  pub q : RulePart
  pub rs : List RuleForm
  pub xs : List Token
  pub more : List Token
  pub path : Path text r q None 0 (parts Top (pieces text)) (laid_out text None 0 (pieces text)) rs xs more
  pub flat : AreFlat Top (parts Top (pieces text))
  pub before : List Token
  pub parted : xs ≡ before ++ q.prelude
  pub whole : IsWholeBefore (prelude ++ (gap ++ 123 ∷ rest)) 0 front before

-- of two lists with one end the fronts are one
pub same_front : (xs ys end : List Token) → xs ++ end ≡ ys ++ end → xs ≡ ys
same_front xs ys end e =
    let size : length xs ≡ length ys =
    omega (arith, ap (λ (l : List Token). length l) e, length-append xs end, length-append ys end) in
    sym (take-append_seam xs end) ∙ (λ i. take (size i) (e i)) ∙ take-append_seam ys end

begin_of : (text : List ℕ) (level : Level) (ts ending : List Token) (r : Range) → BeginsQualified level (ts ++ ending)
    → range_of (words_after text false ts) ≡ Some r → (after : List ℕ) (place : ℕ) (own : List ℕ) (xs ys : List Token) → ts ≡ xs ++ ys
    → 0 < length xs → IsWholeBefore after place own xs → r.start ≡ place
begin_of text level [] ending r begins e after place own xs ys is some whole = absurd (no_range text [] r tt e)
begin_of text level (t ∷ ts) ending r begins e after place own [] ys is some whole = absurd (omega (arith, some))
begin_of text level (t ∷ ts) ending r begins e after place own (x ∷ xs) ys is some whole =
    let same : t ≡ x = cc in
    words_start text t ts r (inner_solid level t.kind begins.0) e ∙ ap (λ (u : Token). u.start) same
    ∙ starts_there after place own x xs whole

part_begins : (level : Level) (q : RulePart) (rest : List Token) → IsPart level (rule_part q) rest
    → BeginsQualified level (q.prelude ++ ending_pieces (block q.brace q.body q.close))
part_begins level q rest (qualified_part _ _ begins r) = begins

rule_prelude : (text : List ℕ) (a : Option ℕ) (q : RulePart) (r : RuleForm) → rule_of text a (rule_part q) ≡ Some r
    → range_of (words_after text false q.prelude) ≡ Some r.prelude
unfolding rule_of
rule_prelude text a q r e =
    (head_of text a (words_after text false q.prelude) (range q.brace.end (body_end text q.close)) q.body r e).prelude

unmoved : (text : List ℕ) (hi : ℕ) → SamePart text text (λ x. x) 0 hi
unmoved text hi = record { cut = λ a b i j k l. refl; code = λ i a b. refl; shift = λ x k a b. refl }

-- what stands behind the front, up to the `{`
record Behind (text : List ℕ) (r : Range) (front : List ℕ) (after : List ℕ) : Type 0 where
  prelude : List ℕ
  gap : List ℕ
  rest : List ℕ
  is : after ≡ prelude ++ (gap ++ 123 ∷ rest)
  start : r.start ≡ length front
  end : r.end ≡ length front + length prelude
  blank : Gap Inner gap

behind_front : (text : List ℕ) (level : Level) (q : RulePart) (r : Range) (front after : List ℕ) (more rest : List Token)
    → IsPart level (rule_part q) rest → q.brace.kind ≡ tokens.OpenCurly → range_of (words_after text false q.prelude) ≡ Some r
    → q.prelude ++ q.brace ∷ more ≡ pieces_after (0 + length front) 0 after → Behind text r front after
behind_front text level q r front after more rest part kind ranged left = by (split_trail q.prelude)
  where
    by : AllPassed Inner q.prelude ⊎ TrailSolid q.prelude → Behind text r front after
    by (inl all) = absurd (no_range text q.prelude r all ranged)
    by (inr l) =
        let ms = l.main ++ l.last ∷ [] in
        let behind = q.brace ∷ more in
        let place = 0 + length front in
        let sp = split_at ms (l.trail ++ behind) place after
        (sym left ∙ ap (λ (x : List Token). x ++ behind) l.is ∙ append_assoc ms l.trail behind) in
        let sg = split_at l.trail behind (place + length sp.front) sp.after (sym sp.left) in
        let m = open_first sg.after (place + length sp.front + length sg.front) q.brace more kind (sym sg.left) in
        let own : range_of (words_after text false ms) ≡ Some r =
        sym (ap range_of (ap (words_after text false) l.is ∙ trail_words text false ms l.trail l.passed)) ∙ ranged in
        let last = words_end text l.main l.last r l.solid own in
        let at = ends_there sp.after place sp.front l.main l.last sp.whole in
        let first = begin_of text level q.prelude (ending_pieces (block q.brace q.body q.close)) r (part_begins level q rest part) ranged
        sp.after place sp.front ms l.trail l.is (omega (arith, length-append l.main (l.last ∷ []))) sp.whole in
        record {
          prelude = sp.front;
          gap = sg.front;
          rest = m.behind;
          is = sp.is ∙ ap (λ (x : List ℕ). sp.front ++ x) (sg.is ∙ ap (λ (x : List ℕ). sg.front ++ x) m.is);
          start = omega (arith, first);
          end = omega (arith, last, at);
          blank = gap_of Inner sg.after (omega (arith, ap length m.is)) (place + length sp.front) sg.front l.trail sg.whole l.passed;
        }

pub old_prelude : (text : List ℕ) (k : ℕ) (r : RuleForm) → slice_get (sheet_of text).rules k ≡ Some r → OldPrelude text r
old_prelude text k r e =
    let ps = parts Top (pieces text) in
    let ls = laid_out text None 0 (pieces text) in
    let f = find text r None 0 ps ls (laid_spelled text None 0 (pieces text)) k e in
    let q = f.q in
    let both = flat_of Top ps (pieces text) (parts_spelled Top (pieces text)) in
    let more = q.body ++ (option_to_list q.close ++ f.more) in
    let behind = q.brace ∷ more in
    let cut : pieces text ≡ f.xs ++ behind = both.0 ∙ path_flat text r q None 0 ps ls f.rs f.xs f.more f.path in
    let all = all_there [] text (whole_alone text) in
    let o = spot_of text text (length text) (unmoved text (length text)) r q None 0 ps ls f.rs f.xs f.more f.path both.1
    (λ front e. (tokens_split 0 (length text) front (q.prelude ++ behind)
    (subst (AllTokens 0 (length text)) (cut ∙ ap (λ (l : List Token). l ++ behind) e ∙ append_assoc front q.prelude behind) all)).0) in
    let s = split_at o.front (q.prelude ++ behind) 0 text
    (cut ∙ ap (λ (l : List Token). l ++ behind) o.parted ∙ append_assoc o.front q.prelude behind) in
    let kind = (path_ends text r q None 0 ps ls f.rs f.xs f.more f.path Top both.1).kind in
    let b =
    behind_front text (level_of o.a) q r.prelude s.front s.after more o.rest o.part kind (rule_prelude text o.a q r o.rule) s.left in
    record {
      front = s.front;
      prelude = b.prelude;
      gap = b.gap;
      rest = b.rest;
      is = s.is ∙ ap (λ (x : List ℕ). s.front ++ x) b.is;
      start = b.start;
      end = b.end;
      blank = b.blank;
      q = q;
      rs = f.rs;
      xs = f.xs;
      more = f.more;
      path = f.path;
      flat = both.1;
      before = o.front;
      parted = o.parted;
      whole = subst (λ (x : List ℕ). IsWholeBefore x 0 s.front o.front) b.is s.whole;
    }
