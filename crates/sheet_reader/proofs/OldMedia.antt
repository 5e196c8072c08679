-- A media rule's prelude in the text of its sheet: what stands before it and behind it.
use Rattle.std.proofs.Common.{◌≡◌, ℕ, ◌+◌, true, false, List, ◌∷◌, ◌++◌, length, Option, Some, None, sym, ap, ◌∙◌, arith}
use Rattle.std.specs.Prelude.{slice_get}
use Rattle.css_tokens.specs.declared.token.Range.{Range}
use Rattle.css_tokens.specs.declared.token.Token.{Token}
use Rattle.css_tokens.specs.declared.token.TokenKind.TheVariants as tokens
use Rattle.css_tokens.specs.Pieces.{pieces}
use Rattle.css_tokens.specs.Rows.{piece, first_piece}
use Rattle.css_tokens.specs.Seams.{IsWholeBefore}
use Rattle.selectors.specs.Words.{words_after}
use Rattle.selectors.specs.Reading.{range_of}
use Rattle.sheet_reader.specs.declared.parts.Level.TheVariants.{Top, Inner}
use Rattle.sheet_reader.specs.declared.sheet.MediaRule.{MediaRule}
use Rattle.sheet_reader.specs.Forms.{RuleForm}
use Rattle.sheet_reader.specs.Parts.{parts}
use Rattle.sheet_reader.specs.Layout.{names_media, prelude_range, laid_out}
use Rattle.sheet_reader.specs.Sheets.{sheet_of}
use Rattle.sheet_reader.proofs.Gaps.{Gap}
use Rattle.sheet_reader.proofs.GrammarForms.{parts_spelled}
use Rattle.sheet_reader.proofs.LayoutForms.{laid_spelled}
use Rattle.sheet_reader.proofs.MediaSpots.{media_spot}
use Rattle.sheet_reader.proofs.MediaTexts.{media_text}
use Rattle.sheet_reader.proofs.PartMoves.{flat_of}
use Rattle.sheet_reader.proofs.Spots.{Spot}

-- the prelude of the media rule, between what stands before it and behind it
pub record OldMedia (text : List ℕ) (i : ℕ) (rule : MediaRule) : Type 0 where
  pub front : List ℕ
  pub key : List ℕ
  pub lead : List ℕ
  pub prelude : List ℕ
  pub gap : List ℕ
  pub rest : List ℕ
  pub is : text ≡ front ++ (key ++ (lead ++ (prelude ++ (gap ++ 123 ∷ rest))))
  pub start : rule.prelude.start ≡ length front + length key + length lead
  pub end : rule.prelude.end ≡ length front + length key + length lead + length prelude
  pub open_lead : Gap Inner lead
  pub blank : Gap Inner gap
  pub a : Option ℕ
  pub j : ℕ
  pub number : j ≡ i
  pub rs : List RuleForm
  pub before : List Token
  pub spot : Spot text None 0 a j rs before
  pub whole : IsWholeBefore (key ++ (lead ++ (prelude ++ (gap ++ 123 ∷ rest)))) 0 front before
  pub keyword : Token
  pub at : keyword.kind ≡ tokens.AtKeyword
  pub named : names_media text keyword keyword.kind ≡ true
  pub key_start : keyword.start ≡ length front
  pub key_end : keyword.end ≡ length front + length key
  pub found : first_piece (key ++ (lead ++ (prelude ++ (gap ++ 123 ∷ rest)))) ≡ Some (piece keyword.kind (length key))
  pub more : List Token
  pub pieces_are : pieces text ≡ before ++ keyword ∷ more

-- it is there
pub old_media : (text : List ℕ) (i : ℕ) (rule : MediaRule) → slice_get (sheet_of text).media i ≡ Some rule → OldMedia text i rule
old_media text i rule e =
    let ps = parts Top (pieces text) in
    let both = flat_of Top ps (pieces text) (parts_spelled Top (pieces text)) in
    let s = media_spot text rule None 0 ps (laid_out text None 0 (pieces text)) (laid_spelled text None 0 (pieces text)) both.1 i e in
    let tail = s.m.prelude ++ s.first ∷ s.rest in
    let cut : pieces text ≡ s.front ++ s.m.keyword ∷ tail = both.0 ∙ s.is in
    let prelude_is : prelude_range s.m.keyword (range_of (words_after text false s.m.prelude)) ≡ rule.prelude =
    ap (λ (x : MediaRule). x.prelude) s.own in
    let t = media_text text s.front s.m.keyword s.m.prelude s.first s.rest cut s.curly in
    record {
      front = t.front;
      key = t.key;
      lead = t.lead;
      prelude = t.prelude;
      gap = t.gap;
      rest = t.rest;
      is = t.is;
      start = sym (ap (λ (r : Range). r.start) prelude_is) ∙ t.start;
      end = sym (ap (λ (r : Range). r.end) prelude_is) ∙ t.end;
      open_lead = t.open_lead;
      blank = t.blank;
      a = s.a;
      j = s.j;
      number = omega (arith, s.number);
      rs = s.rs;
      before = s.front;
      spot = s.spot;
      whole = t.whole;
      keyword = s.m.keyword;
      at = s.at;
      named = s.named;
      key_start = t.key_start;
      key_end = t.key_end;
      found = t.found;
      more = tail;
      pieces_are = cut;
    }
