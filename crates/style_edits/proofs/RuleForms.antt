-- The rules that edits made, one after the other.
use Rattle.std.proofs.Common.{◌≡◌, ℕ, suc, ◌+◌, ◌<◌, ◌≤◌, nat_lt, List, [], ◌∷◌, ◌++◌, length, map, drop, get_or, cond, Result, Ok, refl}
use Rattle.std.proofs.Common.{sym, ap, ◌∙◌, append_assoc, append-nil, arith}
use Rattle.std.specs.List.{prefix_len}
use Rattle.std.proofs.Math.Seq.{drop-cons}
use Rattle.std.proofs.lemmas.List.{drop_all}
use Rattle.sheet_reader.specs.declared.book.SheetEntry.{SheetEntry}
use Rattle.sheet_reader.specs.declared.sheet.Sheet.{Sheet}
use Rattle.sheet_reader.specs.declared.sheet.StyleRule.{StyleRule}
use Rattle.sheet_reader.specs.Books.{IsEntry}
use Rattle.sheet_reader.specs.Forms.{RuleForm, rule_seen}
use Rattle.sheet_reader.specs.Sheets.{sheet_of}
use Rattle.style_edits.specs.declared.edits.StyleEdit.{StyleEdit}
use Rattle.style_edits.specs.declared.faults.SheetFault.{SheetFault}
use Rattle.style_edits.specs.declared.rule_places.RulePlace.{RulePlace}
use Rattle.style_edits.specs.declared.splice.Splice.{Splice}
use Rattle.style_edits.specs.Edits.{style_splice, edited}
use Rattle.style_edits.specs.EditedRules.{rules_before, edited_rule, rules_on, edited_rules}

-- what the code counts among a sheet's rules
seen_before : (rules : List StyleRule) (byte : ℕ)
    → prefix_len (λ r. nat_lt r.body.start byte) rules ≡ rules_before (map rule_seen rules) byte
seen_before [] byte = refl
seen_before (r ∷ rules) byte = ap (λ (n : ℕ). cond (nat_lt r.body.start byte) (1 + n) 0) (seen_before rules byte)

pub counted_before : (e : SheetEntry) (rules : List StyleRule) (byte : ℕ) → IsEntry e → map rule_seen rules ≡ e.reading.rules
    → prefix_len (λ r. nat_lt r.body.start byte) rules ≡ rules_before (sheet_of e.text).rules byte
counted_before e rules byte own seen = seen_before rules byte ∙ ap (λ (rs : List RuleForm). rules_before rs byte)
    (seen ∙ ap (λ (s : Sheet). s.rules) own.read)

step : (x : StyleEdit) (xs : List StyleEdit) (book next : List SheetEntry) (back : Splice)
    → edited book (style_splice x book) ≡ Ok (next, back) → edited_rules (x ∷ xs) book ≡ edited_rule next back ∷ edited_rules xs next
unfolding edited_rules
step x xs book next back done = ap (λ (r : Result (List SheetEntry × Splice) SheetFault). rules_on r (λ b. edited_rules xs b)) done

-- an edit more is made
pub rules_more : (edits : List StyleEdit) (i : ℕ) (x : StyleEdit) (rules more : List RulePlace) (book next : List SheetEntry)
    (back : Splice) (total : List RulePlace) → i < length edits → x ≡ get_or edits i x
    → edited book (style_splice x book) ≡ Ok (next, back) → more ≡ rules ++ edited_rule next back ∷ []
    → rules ++ edited_rules (drop i edits) book ≡ total → more ++ edited_rules (drop (i + 1) edits) next ≡ total
rules_more edits i x rules more book next back total within is done pushed so_far =
    let cut : drop i edits ≡ x ∷ drop (suc i) edits = drop-cons edits i x within ∙ ap (λ (y : StyleEdit). y ∷ drop (suc i) edits)
    (sym is) in
    let one : i + 1 ≡ suc i = omega arith in
    ap (λ (n : ℕ). more ++ edited_rules (drop n edits) next) one
    ∙ ap (λ (ps : List RulePlace). ps ++ edited_rules (drop (suc i) edits) next) pushed
    ∙ append_assoc rules (edited_rule next back ∷ []) (edited_rules (drop (suc i) edits) next)
    ∙ sym (ap (λ (ps : List RulePlace). rules ++ ps)
    (ap (λ (xs : List StyleEdit). edited_rules xs book) cut ∙ step x (drop (suc i) edits) book next back done))
    ∙ so_far

pub rules_none : (edits : List StyleEdit) (i : ℕ) (rules : List RulePlace) (book : List SheetEntry) (total : List RulePlace)
    → length edits ≤ i → rules ++ edited_rules (drop i edits) book ≡ total → rules ≡ total
unfolding edited_rules
rules_none edits i rules book total over so_far =
    sym (append-nil rules) ∙ ap (λ (xs : List StyleEdit). rules ++ edited_rules xs book) (sym (drop_all i edits over)) ∙ so_far

-- the rule of a single edit
pub one_rule : (x : StyleEdit) (rules more : List RulePlace) (book next : List SheetEntry) (back : Splice)
    → edited book (style_splice x book) ≡ Ok (next, back) → more ≡ rules ++ edited_rule next back ∷ []
    → more ≡ rules ++ edited_rules (x ∷ []) book
unfolding edited_rules
one_rule x rules more book next back done pushed =
    pushed ∙ sym (ap (λ (ps : List RulePlace). rules ++ ps) (step x [] book next back done))
