-- A text that is one style rule, but for white space and comments, has just that rule.
use Rattle.std.proofs.Common.{◌≡◌, ℕ, ◌<◌, Bool, true, false, not, cond, List, [], ◌∷◌, ◌++◌, map, length}
use Rattle.std.proofs.Common.{Option, Some, None, refl, sym, ap, subst, ◌∙◌, arith}
use Rattle.std.specs.Prelude.{is_some, option_to_list}
use Rattle.std.specs.Str.{IsUtf8}
use Rattle.css_tokens.specs.declared.token.Range.{Range}
use Rattle.css_tokens.specs.declared.token.Token.{Token}
use Rattle.css_tokens.specs.Pieces.{pieces}
use Rattle.selectors.specs.Words.{words_after}
use Rattle.selectors.specs.Ranges.{AreTiles}
use Rattle.selectors.proofs.RangeForms.{tiles_whole, tiles_order, tiles_cut}
use Rattle.sheet_reader.specs.declared.lone.LoneRule.TheVariants.{Other, Dropped, Style}
use Rattle.sheet_reader.specs.Forms.{range, RuleForm}
use Rattle.sheet_reader.specs.Parts.{EndingForm, text_end, semicolon, block, PartForm, passed, at_rule, qualified, part_pieces, parts}
use Rattle.sheet_reader.specs.Layout.{media_form, Laid, laid, level_of, AreLaid, none_laid, part_laid}
use Rattle.sheet_reader.specs.Lone.{is_blank_piece, solid_parts, lone_by, lone_of, lone_rule}
use Rattle.sheet_reader.specs.Sheets.{rule_of, rules_in, sheet_of}
use Rattle.sheet_reader.proofs.GrammarForms.{parts_spelled}
use Rattle.sheet_reader.proofs.LayoutForms.{laid_only}
use Rattle.sheet_reader.proofs.Raised.{flat}
use Rattle.sheet_reader.proofs.PartMoves.{flat_of}
use Rattle.sheet_reader.proofs.MovedLaw.{head_of}

-- parts at top level, none of which is a media rule
abbrev plain : List PartForm → List Laid
plain ps = map (laid None) ps

other_style : Other ≡ Style → ⊥
other_style e = absurd (cc)

dropped_style : Dropped ≡ Style → ⊥
dropped_style e = absurd (cc)

-- the one rule of these parts, which ends before a place
record Lone (text : List ℕ) (to : ℕ) (ps : List PartForm) : Type 0 where
  rule : RuleForm
  top : rule.media ≡ None
  ends : rule.body.end < to
  rules : rules_in text (plain ps) ≡ rule ∷ []
  are : AreLaid text None 0 ps (plain ps)

-- parts that are white space and comments have no rules
record Blank (text : List ℕ) (ps : List PartForm) : Type 0 where
  rules : rules_in text (plain ps) ≡ []
  are : AreLaid text None 0 ps (plain ps)

blank : (text : List ℕ) (ps : List PartForm) → solid_parts ps ≡ [] → Blank text ps
unfolding rules_in rule_of media_form
blank text [] e = record { rules = refl; are = none_laid }
blank text (passed t ∷ ps) e = by (is_blank_piece t) e (λ h. blank text ps h)
  where
    by : (b : Bool) → cond (not b) (passed t ∷ solid_parts ps) (solid_parts ps) ≡ [] → (solid_parts ps ≡ [] → Blank text ps)
        → Blank text (passed t ∷ ps)
    by true h rest = let r = rest h in record { rules = r.rules; are = part_laid (passed t) ps (plain ps) refl r.are }
    by false h rest = absurd (cc)
blank text (at_rule keyword prelude ending ∷ ps) e = absurd (cc)
blank text (qualified prelude ending ∷ ps) e = absurd (cc)

-- a rule with a block that has its `}`
record Block (text : List ℕ) (prelude : List Token) (ending : EndingForm) (to : ℕ) : Type 0 where
  rule : RuleForm
  is : rule_of text None (qualified prelude ending) ≡ Some rule
  top : rule.media ≡ None
  ends : rule.body.end < to

style_block : (text : List ℕ) (from to : ℕ) (prelude : List Token) (ending : EndingForm)
    → AreTiles text from to (part_pieces (qualified prelude ending)) → lone_by text (qualified prelude ending) ≡ Style
    → Block text prelude ending to
unfolding rule_of
style_block text from to prelude text_end tiles e = absurd (other_style e)
style_block text from to prelude (semicolon t) tiles e = absurd (other_style e)
style_block text from to prelude (block first inside None) tiles e = absurd (other_style e)
style_block text from to prelude (block first inside (Some close)) tiles e =
    by (rule_of text None (qualified prelude (block first inside (Some close)))) refl e
  where
    by : (o : Option RuleForm) → rule_of text None (qualified prelude (block first inside (Some close))) ≡ o
        → cond (is_some o) Style Dropped ≡ Style → Block text prelude (block first inside (Some close)) to
    by None is k = absurd (dropped_style k)
    by (Some r) is k =
        let head = head_of text None (words_after text false prelude) (range first.end close.start) inside r is in
        let front = tiles_cut text from to prelude (first ∷ (inside ++ close ∷ [])) tiles in
        let back = tiles_cut text first.end to inside (close ∷ []) front.right.2 in
        let end = ap (λ (b : Range). b.end) head.body in
        record {
          rule = r;
          is = is;
          top = sym head.media;
          ends = omega (arith, end, back.right.1.0, back.right.2);
        }

lone_at : (text : List ℕ) (from to : ℕ) (ps : List PartForm) → AreTiles text from to (flat ps) → lone_of text (solid_parts ps) ≡ Style
    → Lone text to ps
unfolding rules_in rule_of media_form
lone_at text from to [] tiles e = absurd (other_style e)
lone_at text from to (passed t ∷ ps) tiles e =
    by (is_blank_piece t) e (λ h. lone_at text t.end to ps tiles.2 h)
  where
    others : (qs : List PartForm) → lone_of text (passed t ∷ qs) ≡ Style → ⊥
    others [] k = other_style k
    others (q ∷ qs) k = other_style k

    by : (b : Bool) → lone_of text (cond (not b) (passed t ∷ solid_parts ps) (solid_parts ps)) ≡ Style
        → (lone_of text (solid_parts ps) ≡ Style → Lone text to ps) → Lone text to (passed t ∷ ps)
    by true h rest =
        let r = rest h in
        record { rule = r.rule; top = r.top; ends = r.ends; rules = r.rules; are = part_laid (passed t) ps (plain ps) refl r.are }
    by false h rest = absurd (others (solid_parts ps) h)
lone_at text from to (at_rule keyword prelude ending ∷ ps) tiles e = absurd (by (solid_parts ps) e)
  where
    by : (qs : List PartForm) → lone_of text (at_rule keyword prelude ending ∷ qs) ≡ Style → ⊥
    by [] k = other_style k
    by (q ∷ qs) k = other_style k
lone_at text from to (qualified prelude ending ∷ ps) tiles e = by (solid_parts ps) refl e
  where
    by : (qs : List PartForm) → solid_parts ps ≡ qs → lone_of text (qualified prelude ending ∷ qs) ≡ Style
        → Lone text to (qualified prelude ending ∷ ps)
    by (q ∷ qs) is k = absurd (other_style k)
    by [] is k =
        let none = blank text ps is in
        let cut = tiles_cut text from to (part_pieces (qualified prelude ending)) (flat ps) tiles in
        let own = style_block text from cut.seam prelude ending cut.left k in
        let less = tiles_order text cut.seam to (flat ps) cut.right in
        let more : rules_in text (plain (qualified prelude ending ∷ ps)) ≡ own.rule ∷ [] =
        ap (λ (o : Option RuleForm). option_to_list o ++ rules_in text (plain ps)) own.is
        ∙ ap (λ (rs : List RuleForm). own.rule ∷ rs) none.rules in
        record {
          rule = own.rule;
          top = own.top;
          ends = omega (arith, own.ends, less);
          rules = more;
          are = part_laid (qualified prelude ending) ps (plain ps) refl none.are;
        }

-- the one rule of a text, which has its `}`
pub record OneRule (text : List ℕ) : Type 0 where
  pub rule : RuleForm
  pub top : rule.media ≡ None
  pub ends : rule.body.end < length text
  pub rules : (sheet_of text).rules ≡ rule ∷ []

pub just_one : (text : List ℕ) → IsUtf8 text → lone_rule text ≡ Style → OneRule text
just_one text utf8 e =
    let ps = parts (level_of None) (pieces text) in
    let both = flat_of (level_of None) ps (pieces text) (parts_spelled (level_of None) (pieces text)) in
    let l = lone_at text 0 (length text) ps (subst (AreTiles text 0 (length text)) both.0 (tiles_whole text utf8)) e in
    record {
      rule = l.rule;
      top = l.top;
      ends = l.ends;
      rules = ap (rules_in text) (sym (laid_only text None 0 (pieces text) (plain ps) l.are)) ∙ l.rules;
    }
