-- What a text in front of another says, where the other is read as it is alone.
use Rattle.std.proofs.Common.{◌≡◌, ℕ, ◌+◌, ◌<◌, true, false, All, List, [], ◌∷◌, ◌++◌, map, length}
use Rattle.std.proofs.Common.{Option, Some, None, refl, sym, ap, subst, ◌∙◌, append_assoc, append-nil, length-append, arith}
use Rattle.std.specs.List.{list_all}
use Rattle.std.specs.Prelude.{option_to_list}
use Rattle.std.proofs.lemmas.List.Elements.{All-nil}
use Rattle.css_tokens.specs.declared.token.Token.{Token}
use Rattle.css_tokens.specs.declared.token.TokenKind.{TokenKind}
use Rattle.css_tokens.specs.declared.token.TokenKind.TheVariants.{WhiteSpace}
use Rattle.css_tokens.specs.Codes.{is_white, begins}
use Rattle.css_tokens.specs.Rows.{piece, first_piece}
use Rattle.css_tokens.specs.Pieces.{pieces}
use Rattle.css_tokens.specs.Seams.{IsWholeBefore, no_more, piece_and}
use Rattle.css_tokens.proofs.SeamPieces.{pieces_at}
use Rattle.css_tokens.proofs.RowForms.{passes_cut}
use Rattle.sheet_reader.specs.Forms.{RuleForm}
use Rattle.sheet_reader.specs.Parts.{is_passed, PartForm, passed, part_pieces, parts}
use Rattle.sheet_reader.specs.Grammar.{IsPart, passed_part}
use Rattle.sheet_reader.specs.Layout.{media_form, laid, level_of, laid_out, AreLaid, part_laid}
use Rattle.sheet_reader.specs.Moves.{placed_rule}
use Rattle.sheet_reader.specs.Sheets.{rule_of, rules_in, sheet_of}
use Rattle.sheet_reader.proofs.GrammarForms.{parts_only, parts_spelled}
use Rattle.sheet_reader.proofs.LayoutForms.{laid_spelled, laid_only}
use Rattle.sheet_reader.proofs.Raised.{raised, raised_part, raised_laid, flat}
use Rattle.sheet_reader.proofs.PartMoves.{flat_of, flat_parts}
use Rattle.sheet_reader.proofs.WordMoves.{SamePart}
use Rattle.sheet_reader.proofs.ReadMoves.{AllTokens, rules_same}
use Rattle.sheet_reader.proofs.TextMoves.{pieces_from, same_part}
use Rattle.sheet_reader.proofs.LaidMoves.{laid_in, laid_again, flat_raised, flat_again, any_moved}
use Rattle.sheet_reader.proofs.JoinedLaw.{all_there, whole_alone}
use Rattle.sheet_reader.proofs.PassedTexts.{white_piece, all_both}

-- ---- rules that stand further back

-- a rule stands n bytes behind another
pub record Moved (n : ℕ) (r moved : RuleForm) : Type 0 where
  pub prelude : moved.prelude.start ≡ n + r.prelude.start
  pub start : moved.body.start ≡ n + r.body.start
  pub end : moved.body.end ≡ n + r.body.end

-- and so do rules, in their order
abbrev pub AreMoved : ℕ → List RuleForm → List RuleForm → Type 0
AreMoved n [] [] = Unit {0}
AreMoved n [] (q ∷ qs) = ⊥
AreMoved n (r ∷ rs) [] = ⊥
AreMoved n (r ∷ rs) (q ∷ qs) = Moved n r q × AreMoved n rs qs

pub map_moved : (n : ℕ) (g : RuleForm → RuleForm) → ((r : RuleForm) → Moved n r (g r)) → (rs : List RuleForm) → AreMoved n rs (map g rs)
map_moved n g each [] = tt
map_moved n g each (r ∷ rs) = (each r, map_moved n g each rs)

-- what stands n and m bytes behind, and what stands m bytes behind
moved_less : (n m k : ℕ) (rs qs xs : List RuleForm) → n + m ≡ k → AreMoved m rs qs → AreMoved k rs xs → AreMoved n qs xs
moved_less n m k [] [] [] sum a b = tt
moved_less n m k [] [] (x ∷ xs) sum a b = absurd b
moved_less n m k [] (q ∷ qs) xs sum a b = absurd a
moved_less n m k (r ∷ rs) [] xs sum a b = absurd a
moved_less n m k (r ∷ rs) (q ∷ qs) [] sum a b = absurd b
moved_less n m k (r ∷ rs) (q ∷ qs) (x ∷ xs) sum a b = (
  record {
    prelude = omega (arith, sum, a.0.prelude, b.0.prelude);
    start = omega (arith, sum, a.0.start, b.0.start);
    end = omega (arith, sum, a.0.end, b.0.end);
  },
  moved_less n m k rs qs xs sum a.1 b.1,
)

pub moved_more : (n m k : ℕ) (rs qs xs : List RuleForm) → n + m ≡ k → AreMoved m rs qs → AreMoved n qs xs → AreMoved k rs xs
moved_more n m k [] [] [] sum a b = tt
moved_more n m k [] [] (x ∷ xs) sum a b = absurd b
moved_more n m k [] (q ∷ qs) xs sum a b = absurd a
moved_more n m k (r ∷ rs) [] xs sum a b = absurd a
moved_more n m k (r ∷ rs) (q ∷ qs) [] sum a b = absurd b
moved_more n m k (r ∷ rs) (q ∷ qs) (x ∷ xs) sum a b = (
  record {
    prelude = omega (arith, sum, a.0.prelude, b.0.prelude);
    start = omega (arith, sum, a.0.start, b.0.start);
    end = omega (arith, sum, a.0.end, b.0.end);
  },
  moved_more n m k rs qs xs sum a.1 b.1,
)

-- ---- texts in front

-- the body of a rule starts before a place
abbrev pub StartsBefore : ℕ → RuleForm → Type 0
StartsBefore n r = r.body.start < n

-- a text in front of another has rules, whose bodies start in it, and behind them stand those of the other
pub record Fronts (front other : List ℕ) : Type 0 where
  pub own : List RuleForm
  pub starts : All (StartsBefore (length front)) own
  pub rest : List RuleForm
  pub is : (sheet_of (front ++ other)).rules ≡ own ++ rest
  pub moved : AreMoved (length front) (sheet_of other).rules rest

-- a text in front of another has no rules, and behind it stand those of the other
abbrev pub IsPassedFront : List ℕ → List ℕ → Type 0
IsPassedFront front other = AreMoved (length front) (sheet_of other).rules (sheet_of (front ++ other)).rules

-- so such a text is in front of it
pub passed_fronts : (front other : List ℕ) → IsPassedFront front other → Fronts front other
passed_fronts front other moved = record {
  own = [];
  starts = All-nil (StartsBefore (length front));
  rest = (sheet_of (front ++ other)).rules;
  is = refl;
  moved = moved;
}

-- nothing in front of a text
pub nothing_front : (other : List ℕ) → IsPassedFront [] other
nothing_front other = each (sheet_of other).rules
  where
    each : (rs : List RuleForm) → AreMoved 0 rs rs
    each [] = tt
    each (r ∷ rs) = (record { prelude = omega arith; start = omega arith; end = omega arith }, each rs)

-- the other in the whole text
pub behind_same : (front other : List ℕ) → SamePart other (front ++ other) (λ x. length front + x) 0 (length other)
behind_same front other =
    let both : SamePart ([] ++ (other ++ [])) (front ++ (other ++ [])) (λ x. length front + x) 0 (0 + length other) =
    same_part [] other [] front [] (λ x. length front + x) (λ x fits. let z : 0 + x
    ≡ x = omega arith in ap (λ (m : ℕ). length front + m) z) in
    let at : 0 + length other ≡ length other = omega arith in
    subst (λ (n : ℕ). SamePart other (front ++ other) (λ x. length front + x) 0 n) at
    (subst (λ (t : List ℕ). SamePart t (front ++ other) (λ x. length front + x) 0 (0 + length other)) (append-nil other)
    (subst (λ (t : List ℕ). SamePart (other ++ []) (front ++ t) (λ x. length front + x) 0 (0 + length other)) (append-nil other) both))

-- a whole part that is no rule has none, and what stands behind it is read as it is alone
pub part_front : (front other : List ℕ) (p : PartForm) → IsWholeBefore other 0 front (part_pieces p)
    → ((rest : List Token) → IsPart (level_of None) p rest) → media_form (front ++ other) p ≡ None → rule_of (front ++ other) None p ≡ None
    → IsPassedFront front other
unfolding rules_in
part_front front other p is_whole is_part no_media no_rule =
    let n = length front in
    let whole = front ++ other in
    let f = λ (x : ℕ). n + x in
    let ps = parts (level_of None) (pieces other) in
    let ls = laid_out other None 0 (pieces other) in
    let more = map (raised_part f) ps in
    let both = flat_of (level_of None) ps (pieces other) (parts_spelled (level_of None) (pieces other)) in
    let tokens : pieces whole ≡ part_pieces p ++ flat more =
    pieces_at other front (part_pieces p) is_whole
    ∙ ap (λ (ts : List Token). part_pieces p ++ ts)
    (pieces_from n other ∙ ap (map (raised f)) both.0 ∙ sym (flat_raised f ps)) in
    let new_parts : p ∷ more ≡ parts (level_of None) (pieces whole) =
    parts_only (level_of None) (p ∷ more) (part_pieces p ++ flat more)
    (flat_parts (level_of None) (p ∷ more) (is_part (flat more), flat_again (level_of None) f ps both.1))
    ∙ ap (parts (level_of None)) (sym tokens) in
    let all : AllTokens 0 (length other) (flat ps) = subst (AllTokens 0 (length other)) both.0 (all_there [] other (whole_alone other)) in
    let same = behind_same front other in
    let are = laid_spelled other None 0 (pieces other) in
    let there = laid_again other whole f 0 (length other) same None 0 ps ls are all in
    let new_laid : laid None p ∷ map (raised_laid f) ls ≡ laid_out whole None 0 (pieces whole) =
    laid_only whole None 0 (pieces whole) (laid None p ∷ map (raised_laid f) ls)
    (subst (λ (qs : List PartForm). AreLaid whole None 0 qs (laid None p ∷ map (raised_laid f) ls)) new_parts
    (part_laid p more (map (raised_laid f) ls) no_media there)) in
    subst (AreMoved n (sheet_of other).rules)
    (sym (rules_same other whole f 0 (length other) same ls (laid_in 0 (length other) other None 0 ps ls are all)
    (any_moved other whole f (sym (length-append front other)) ls))
    ∙ sym (ap (λ (o : Option RuleForm). option_to_list o ++ rules_in whole (map (raised_laid f) ls)) no_rule)
    ∙ ap (rules_in whole) new_laid)
    (map_moved n (placed_rule f) (λ r. record { prelude = refl; start = refl; end = refl }) (sheet_of other).rules)

-- a piece that is passed over is such a part
pub passed_front : (front other : List ℕ) (kind : TokenKind) → first_piece (front ++ other) ≡ Some (piece kind (length front))
    → is_passed (level_of None) kind ≡ true → IsPassedFront front other
unfolding rule_of media_form
passed_front front other kind found over =
    let t : Token = record { kind = kind; start = 0; end = 0 + length front } in
    part_front front other (passed t) (piece_and (piece kind (length front)) front [] (sym (append-nil front)) refl found no_more)
    (λ rest. passed_part t over) refl refl

-- ---- white space

-- white space has no rules, whatever stands behind it
pub white_front : (front other : List ℕ) → list_all is_white front ≡ true → 0 < length front → IsPassedFront front other
white_front front other all some =
    let k = passes_cut is_white other in by k.front k.rest k.is k.form.0 k.form.1
  where
    by : (w rest : List ℕ) → other ≡ w ++ rest → list_all is_white w ≡ true → begins is_white rest ≡ false → IsPassedFront front other
    by [] rest same white stops =
        passed_front front other WhiteSpace (white_piece front other all some (ap (begins is_white) same ∙ stops)) refl
    by (c ∷ w) rest same white stops =
        let both = front ++ c ∷ w in
        let sum : length front + length (c ∷ w) ≡ length both = sym (length-append front (c ∷ w)) in
        let whole = passed_front both rest WhiteSpace
        (white_piece both rest (all_both front (c ∷ w) all white) (omega (arith, some, sum)) stops) refl in
        let own = passed_front (c ∷ w) rest WhiteSpace (white_piece (c ∷ w) rest white (omega arith) stops) refl in
        subst (IsPassedFront front) (sym same)
        (moved_less (length front) (length (c ∷ w)) (length both) (sheet_of rest).rules (sheet_of ((c ∷ w) ++ rest)).rules
        (sheet_of (front ++ ((c ∷ w) ++ rest))).rules sum own
        (subst (λ (t : List ℕ). AreMoved (length both) (sheet_of rest).rules (sheet_of t).rules) (append_assoc front (c ∷ w) rest) whole))
