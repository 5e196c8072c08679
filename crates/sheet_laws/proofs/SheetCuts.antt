-- What a sheet says is what is read from it.
use Rattle.std.proofs.Common.{◌≡◌, ℕ, List, [], ◌∷◌, ◌++◌, Option, Some, None, refl, sym, ap, subst, ◌∙◌}
use Rattle.std.specs.List.{AllByRecursion}
use Rattle.std.specs.Prelude.{option_to_list, false}
use Rattle.css_tokens.specs.Pieces.{pieces}
use Rattle.css_tokens.proofs.TableForms.{cuts_whole}
use Rattle.selectors.proofs.Choices.{none_some}
use Rattle.sheet_reader.specs.declared.sheet.Sheet.{Sheet}
use Rattle.sheet_reader.specs.Forms.{RuleForm}
use Rattle.sheet_reader.specs.declared.sheet.MediaRule.{MediaRule}
use Rattle.sheet_reader.specs.Layout.{level_of, Laid, media_of, media_in, laid_out, AreLaid}
use Rattle.sheet_reader.proofs.LayoutForms.{laid_spelled, laid_only}
use Rattle.sheet_reader.specs.Parts.{PartForm, passed, at_rule, qualified, parts}
use Rattle.sheet_reader.specs.Sheets.{rule_of, place_of, rules_in, places_in, sheet_of}
use Rattle.sheet_reader.proofs.GrammarForms.{parts_spelled, parts_only}
use Rattle.sheet_laws.specs.Said.{AreSaid}
use Rattle.sheet_laws.specs.Values.{AreDeclarations}
use Rattle.sheet_laws.specs.Places.{IsPlaceBehind}
use Rattle.sheet_laws.specs.Readings.{IsStyleRule, IsMediaRule, IsReading}
use Rattle.sheet_reader.proofs.Cutting.{cuts_only}
use Rattle.sheet_reader.proofs.WordCuts.{covers_words, words_cover}
use Rattle.sheet_reader.proofs.ListCuts.{prelude_reads, prelude_spells}
use Rattle.sheet_laws.proofs.RuleCuts.{rule_is, rule_again}
use Rattle.sheet_laws.proofs.SaidLists.{listed, Tells, said_is, said_only}
use Rattle.sheet_laws.proofs.BodyCuts.{body_spelled, body_only}
use Rattle.sheet_laws.proofs.PlaceCuts.{AnyPart, any_parts, places_tell, places_listed, places_said}

pub rule_spelled : (text : List ℕ) (around : Option ℕ) (p : PartForm) (r : RuleForm) → rule_of text around p ≡ Some r
    → IsStyleRule text around p r
unfolding rule_of
rule_spelled text around (passed t) r e = absurd (none_some r e)
rule_spelled text around (at_rule keyword prelude ending) r e = absurd (none_some r e)
rule_spelled text around (qualified prelude ending) r e =
    let f = rule_is text around prelude ending r e in
    record {
      prelude = prelude;
      brace = f.brace;
      inside = f.inside;
      close = f.close;
      is = ap (qualified prelude) f.is;
      selectors = prelude_spells text prelude r.selectors f.selectors;
      span = covers_words text false prelude r.prelude f.span;
      body = f.body;
      properties = subst (AreDeclarations text f.inside) (sym f.properties) (body_spelled text f.inside);
      media = f.media;
    }

pub rule_reads : (text : List ℕ) (around : Option ℕ) (p : PartForm) (r : RuleForm) → IsStyleRule text around p r
    → rule_of text around p ≡ Some r
unfolding rule_of
rule_reads text around p r s =
    ap (rule_of text around) s.is
    ∙ rule_again text around s.prelude _ r (record {
      brace = s.brace;
      inside = s.inside;
      close = s.close;
      is = refl;
      span = words_cover text false s.prelude r.prelude s.span;
      selectors = prelude_reads text s.prelude r.selectors s.selectors;
      body = s.body;
      properties = body_only text s.inside r.properties s.properties;
      media = s.media;
    })

-- what is laid out says as a style rule, and as a media rule
abbrev SaysRule : List ℕ → Laid → RuleForm → Type 0
SaysRule text l r = IsStyleRule text l.around l.part r

abbrev rule_at : List ℕ → Laid → Option RuleForm
rule_at text l = rule_of text l.around l.part

abbrev AnyLaid : Laid → Type 0
AnyLaid l = Unit {0}

any_laid : (ls : List Laid) → AllByRecursion AnyLaid ls
any_laid [] = tt
any_laid (l ∷ ls) = (tt, any_laid ls)

rules_tell : (text : List ℕ) → Tells AnyLaid (SaysRule text) (rule_at text)
rules_tell text = record {
  sound = λ l r well e. rule_spelled text l.around l.part r e;
  whole = λ l r s. rule_reads text l.around l.part r s;
}

media_tell : (text : List ℕ) → Tells AnyLaid (IsMediaRule text) (media_of text)
media_tell text = record { sound = λ l r well e. e; whole = λ l r e. e }

rules_listed : (text : List ℕ) (ls : List Laid) → rules_in text ls ≡ listed (rule_at text) ls
unfolding rules_in listed
rules_listed text [] = refl
rules_listed text (l ∷ ls) = ap (λ (rs : List RuleForm). option_to_list (rule_at text l) ++ rs) (rules_listed text ls)

media_listed : (text : List ℕ) (ls : List Laid) → media_in text ls ≡ listed (media_of text) ls
unfolding media_in listed
media_listed text [] = refl
media_listed text (l ∷ ls) = ap (λ (ms : List MediaRule). option_to_list (media_of text l) ++ ms) (media_listed text ls)

rules_said : (text : List ℕ) (ls : List Laid) → AreSaid (SaysRule text) ls (rules_in text ls)
rules_said text ls = subst (AreSaid (SaysRule text) ls) (sym (rules_listed text ls))
    (said_is AnyLaid (SaysRule text) (rule_at text) (rules_tell text) ls (any_laid ls))

media_said : (text : List ℕ) (ls : List Laid) → AreSaid (IsMediaRule text) ls (media_in text ls)
media_said text ls = subst (AreSaid (IsMediaRule text) ls) (sym (media_listed text ls))
    (said_is AnyLaid (IsMediaRule text) (media_of text) (media_tell text) ls (any_laid ls))

pub sheet_spelled : (text : List ℕ) → IsReading text (sheet_of text)
sheet_spelled text =
    let ps = parts (level_of None) (pieces text) in
    let ls = laid_out text None 0 (pieces text) in
    record {
      tokens = pieces text;
      parts = ps;
      laid = ls;
      places = places_in text ps;
      cut = cuts_whole text;
      are_parts = parts_spelled (level_of None) (pieces text);
      are_laid = laid_spelled text None 0 (pieces text);
      rules = rules_said text ls;
      media = media_said text ls;
      all_places = refl;
      behind = places_said text ps;
    }

pub sheet_only : (text : List ℕ) (s : Sheet) → IsReading text s → s ≡ sheet_of text
sheet_only text s f =
    let ls = laid_out text None 0 (pieces text) in
    let parts_are : f.parts ≡ parts (level_of None) (pieces text) = parts_only (level_of None) f.parts f.tokens f.are_parts ∙ ap
    (parts (level_of None)) (cuts_only text f.tokens f.cut) in
    let laid_are : f.laid ≡ ls = laid_only text None 0 (pieces text) f.laid
    (subst (λ (ps : List PartForm). AreLaid text None 0 ps f.laid) parts_are f.are_laid) in
    let rules_are : s.rules ≡ rules_in text ls =
    said_only AnyLaid (SaysRule text) (rule_at text) (rules_tell text) f.laid s.rules (any_laid f.laid) f.rules ∙ sym
    (rules_listed text f.laid) ∙ ap (rules_in text) laid_are in
    let media_are : s.media ≡ media_in text ls =
    said_only AnyLaid (IsMediaRule text) (media_of text) (media_tell text) f.laid s.media (any_laid f.laid) f.media ∙ sym
    (media_listed text f.laid) ∙ ap (media_in text) laid_are in
    let places_are : f.places ≡ places_in text (parts (level_of None) (pieces text)) =
    said_only AnyPart (IsPlaceBehind text) (place_of text) (places_tell text) f.parts f.places (any_parts f.parts) f.behind ∙ sym
    (places_listed text f.parts) ∙ ap (places_in text) parts_are in
    let all_are : s.places ≡ 0 ∷ places_in text (parts (level_of None) (pieces text)) =
    f.all_places ∙ ap (λ (ns : List ℕ). 0 ∷ ns) places_are in
    λ i. record { rules = rules_are i; places = all_are i; media = media_are i }
