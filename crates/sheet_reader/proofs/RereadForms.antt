-- The rule that has a body is found, and the reading is moved.
use Rattle.std.proofs.Common.{◌≡◌, ℕ, ◌<◌, ◌+◌, ◌-◌, true, List, All, map, length}
use Rattle.std.proofs.Common.{Option, Some, None, refl, sym, ap, subst, ◌∙◌, arith}
use Rattle.std.specs.Prelude.{nat_lt, slice_get, option_map, IfSome, IsSomeAnd}
use Rattle.std.proofs.lemmas.Bool.Decides.{nat_tests}
use Rattle.std.proofs.lemmas.Option.{slice_get-map, slice_get_within}
use Rattle.node_tree.specs.Numbers.{number_limit}
use Rattle.css_tokens.specs.declared.token.Range.{Range}
use Rattle.sheet_reader.specs.declared.rereads.NewBody.{NewBody}
use Rattle.sheet_reader.specs.declared.rereads.Rereading.TheVariants.{Body}
use Rattle.sheet_reader.specs.declared.sheet.Property.{Property}
use Rattle.sheet_reader.specs.declared.sheet.Sheet.{Sheet}
use Rattle.sheet_reader.specs.declared.sheet.StyleRule.{StyleRule}
use Rattle.sheet_reader.specs.Declarations.{style_of}
use Rattle.sheet_reader.specs.Forms.{range, RuleForm, rule_seen}
use Rattle.sheet_reader.specs.Moves.{moved_sheet, replaced, CanMoveBody, IsPropertyWithin}
use Rattle.sheet_reader.specs.Rereads.{HasBody, LeadsTo}
use Rattle.sheet_reader.specs.Sealing.{is_sealed}
use Rattle.sheet_reader.specs.Sheets.{sheet_of}
use Rattle.sheet_reader.proofs.MovedLaw.{moved_holds}
use Rattle.sheet_reader.proofs.ClearBodies.{style_within, body_clear}

-- the rule that was found has the body
pub body_found : (rules : List StyleRule) (k : ℕ) (r : StyleRule) (wanted : Range) → slice_get rules k ≡ Some r
    → r.body.start ≡ wanted.start → r.body.end ≡ wanted.end → IsSomeAnd (slice_get (map rule_seen rules) k) (HasBody wanted)
body_found rules k r wanted e start end =
    subst (λ (o : Option RuleForm). IsSomeAnd o (HasBody wanted)) (sym (slice_get-map rule_seen rules k ∙ ap (option_map rule_seen) e))
    (λ i. range (start i) (end i))

-- the plan for a rule that was found, of which the body becomes a sealed text
pub body_leads : (text put new_text : List ℕ) (old : Sheet) (body : Range) (new : NewBody) → old ≡ sheet_of text
    → new_text ≡ replaced text body put → IsSomeAnd (slice_get old.rules new.rule) (HasBody body) → is_sealed put ≡ true
    → new.properties.items ≡ style_of put → new.size ≡ length put
    → nat_lt (length text + length put) (number_limit - 1) ≡ true → LeadsTo (sheet_of new_text) old (Body new)
body_leads text put new_text old body new read is there sealed properties size short =
    subst (λ (s : Sheet). LeadsTo (sheet_of new_text) s (Body new)) (sym read)
    (own (slice_get (sheet_of text).rules k) refl (subst (λ (s : Sheet). IsSomeAnd (slice_get s.rules k) (HasBody body)) read there))
  where
    k : ℕ
    k = new.rule

    within : All (IsPropertyWithin new.size) new.properties.items
    within = subst (λ (m : ℕ). All (IsPropertyWithin m) new.properties.items) (sym size)
        (subst (λ (qs : List Property). All (IsPropertyWithin (length put)) qs) (sym properties) (style_within put))

    small : length text + length put < number_limit
    small = grind (arith, nat_tests, short)

    own : (o : Option RuleForm) → slice_get (sheet_of text).rules k ≡ o → IsSomeAnd o (HasBody body)
        → LeadsTo (sheet_of new_text) (sheet_of text) (Body new)
    own None e there = absurd there
    own (Some r) e there = record {
      can = subst (λ (o : Option RuleForm). IsSomeAnd o (CanMoveBody (sheet_of text) k new.properties.items new.size)) (sym e)
          (body_clear text k r new.properties.items new.size e within
          (subst (λ (m : ℕ). length text + m < number_limit) (sym size) small));
      is = (λ i. moved_sheet (sheet_of text) k (properties i) (size i)) ∙ sym (moved_holds text put k r e sealed)
          ∙ ap (λ (b : Range). sheet_of (replaced text b put)) there ∙ ap sheet_of (sym is);
    }
