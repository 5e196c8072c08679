-- What a text says that is one rule.
use Rattle.std.proofs.Common.{◌≡◌, ℕ, ◌+◌, ◌<◌, Bool, true, false, List, [], ◌∷◌, ◌++◌, map, length, Option, Some, None, refl, sym, ap}
use Rattle.std.proofs.Common.{subst, ◌∙◌, append_assoc, append-nil}
use Rattle.std.specs.Prelude.{option_map, option_to_list}
use Rattle.css_tokens.specs.declared.token.Token.{Token}
use Rattle.css_tokens.specs.declared.token.TokenKind.TheVariants as tokens
use Rattle.css_tokens.specs.Codes.{is_white, begins}
use Rattle.css_tokens.specs.Pieces.{pieces}
use Rattle.css_tokens.specs.Rows.{piece}
use Rattle.css_tokens.specs.Runs.{white_run}
use Rattle.selectors.specs.Moves.{placed_range, placed_selector}
use Rattle.sheet_reader.specs.Forms.{RuleForm}
use Rattle.sheet_reader.specs.Grammar.{BeginsQualified, IsPart, qualified_part}
use Rattle.sheet_reader.specs.Joins.{is_shut_text, ends_shut, behind_rule}
use Rattle.sheet_reader.specs.Layout.{level_of, media_form, media_in, Laid, laid, laid_out, AreLaid, none_laid, part_laid}
use Rattle.sheet_reader.specs.Moves.{placed_property, placed_rule}
use Rattle.sheet_reader.specs.Parts.{block, PartForm, qualified, is_passed, part_pieces, parts}
use Rattle.sheet_reader.specs.Sheets.{rule_of, place_of, rules_in, places_in, sheet_of}
use Rattle.sheet_reader.specs.Solids.{StandBetween}
use Rattle.sheet_reader.proofs.Cutting.{pieces_stand}
use Rattle.sheet_reader.proofs.Gaps.{white_first}
use Rattle.sheet_reader.proofs.GrammarForms.{parts_spelled}
use Rattle.sheet_reader.proofs.LayoutForms.{laid_only}
use Rattle.sheet_reader.proofs.PartMoves.{AreFlat, flat_of}
use Rattle.sheet_reader.proofs.Raised.{flat}
use Rattle.sheet_reader.proofs.SealedCuts.{first_of}
use Rattle.sheet_laws.specs.Inserted.{IsOneRule}
use Rattle.sheet_laws.proofs.PlaceCuts.{stand_last}
use Rattle.sheet_laws.proofs.SheetCuts.{rule_spelled}

-- the first piece of a qualified rule
begins_first : (ts : List Token) → BeginsQualified (level_of None) ts
    → (t : Token) × (us : List Token) × (ts ≡ t ∷ us) × (is_passed (level_of None) t.kind ≡ false)
begins_first [] b = absurd b
begins_first (t ∷ ts) b = (t, ts, refl, b.0)

-- no white space stands before a first piece that is not passed over
no_white : (text : List ℕ) (t : Token) (ts : List Token) → pieces text ≡ t ∷ ts → is_passed (level_of None) t.kind ≡ false
    → begins is_white text ≡ false
no_white [] t ts e solid = refl
no_white (c ∷ rest) t ts e solid = by (is_white c) refl
  where
    by : (b : Bool) → is_white c ≡ b → is_white c ≡ false
    by false w = w
    by true w =
        let f = first_of (c ∷ rest) 0 t ts e in
        let same : Some f.p ≡ Some (piece tokens.WhiteSpace (1 + white_run rest)) = sym f.found ∙ white_first c rest w in
        let kind : f.p.kind ≡ tokens.WhiteSpace = cc in
        let head : f.p.kind ≡ t.kind = ap (λ (u : Token). u.kind) f.head in
        let wrong : true ≡ false = ap (is_passed (level_of None)) (sym kind ∙ head) ∙ solid in
        absurd (cc)

module _ (put : List ℕ) (one : IsOneRule put) where
  -- the rule
  abbrev rule : PartForm
  rule = qualified one.prelude (block one.first one.inside (Some one.close))

  spelled : (pieces put ≡ part_pieces rule) × IsPart (level_of None) rule []
  spelled =
      let b = flat_of (level_of None) (parts (level_of None) (pieces put)) (pieces put) (parts_spelled (level_of None) (pieces put)) in
      let all : AreFlat (level_of None) (rule ∷ []) = subst (AreFlat (level_of None)) one.is b.1 in
      (b.0 ∙ ap flat one.is ∙ append-nil (part_pieces rule), all.0)

  -- it ends with its `}`, and begins with no white space
  pub one_shut : is_shut_text put ≡ true
  one_shut = ap ends_shut one.is

  pub one_solid : begins is_white put ≡ false
  one_solid = by spelled.1
    where
      by : IsPart (level_of None) rule [] → begins is_white put ≡ false
      by (qualified_part _ _ begins r) =
          let f = begins_first (part_pieces rule) begins in no_white put f.0 f.1 (spelled.0 ∙ f.2) f.3

  last : (0 < length put) × (one.close.end ≡ length put)
  last =
      let front = one.prelude ++ one.first ∷ one.inside in
      let is : pieces put ≡ front ++ one.close ∷ [] =
      spelled.0 ∙ sym (append_assoc one.prelude (one.first ∷ one.inside) (one.close ∷ [])) in
      stand_last 0 (length put) front one.close (subst (StandBetween 0 (length put)) is (pieces_stand put))

  pub one_some : 0 < length put
  one_some = last.0

  -- what it says
  laid_is : laid None rule ∷ [] ≡ laid_out put None 0 (pieces put)
  unfolding media_form
  laid_is = laid_only put None 0 (pieces put) (laid None rule ∷ [])
      (subst (λ (ps : List PartForm). AreLaid put None 0 ps (laid None rule ∷ [])) (sym one.is) (part_laid rule [] [] refl none_laid))

  pub one_media : (sheet_of put).media ≡ []
  unfolding media_in media_form
  one_media = sym (ap (media_in put) laid_is)

  pub one_places : (sheet_of put).places ≡ 0 ∷ (length put ∷ [])
  unfolding places_in place_of
  one_places = ap (λ (ps : List PartForm). 0 ∷ places_in put ps) one.is ∙ ap (λ (n : ℕ). 0 ∷ (n ∷ [])) last.1

  -- no media rule is around it
  pub one_rules : (n k : ℕ) → map (behind_rule n k) (sheet_of put).rules ≡ map (placed_rule (λ place. n + place)) (sheet_of put).rules
  unfolding rules_in
  one_rules n k =
      subst (λ (ls : List Laid). map (behind_rule n k) (rules_in put ls) ≡ map (placed_rule (λ place. n + place)) (rules_in put ls)) laid_is
      (by (rule_of put None rule) refl)
    where
      by : (o : Option RuleForm) → rule_of put None rule ≡ o
          → map (behind_rule n k) (option_to_list o ++ []) ≡ map (placed_rule (λ place. n + place)) (option_to_list o ++ [])
      by None e = refl
      by (Some r) e =
          let s = rule_spelled put None rule r e in
          let m : option_map (λ m. k + m) r.media ≡ r.media = ap (option_map (λ m. k + m)) s.media ∙ sym s.media in
          λ i. (record {
            prelude = placed_range (λ place. n + place) r.prelude;
            selectors = map (placed_selector (λ place. n + place)) r.selectors;
            body = placed_range (λ place. n + place) r.body;
            properties = map (placed_property (λ place. n + place)) r.properties;
            media = m i;
          }) ∷ []
