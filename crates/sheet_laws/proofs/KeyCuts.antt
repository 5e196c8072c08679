-- The at-keyword that ends at a place or before it, among the pieces of a text.
use Rattle.std.proofs.Common.{◌≡◌, ℕ, ◌<◌, ◌≤◌, nat_le, ◌==◌, ◌&&◌, Bool, true, false, cond, List, [], ◌∷◌, ◌++◌}
use Rattle.std.proofs.Common.{None, refl, ap, ◌∙◌, arith}
use Rattle.std.specs.Prelude.{fold}
use Rattle.std.specs.List.{find}
use Rattle.std.proofs.lemmas.Bool.Decides.{nat_tests}
use Rattle.std.proofs.lemmas.List.Sums.{fold-append}
use Rattle.css_tokens.specs.declared.token.Token.{Token}
use Rattle.css_tokens.specs.declared.token.TokenKind.{TokenKind}
use Rattle.css_tokens.specs.declared.token.TokenKind.TheVariants as tokens
use Rattle.sheet_reader.specs.Grammar.{is_at_keyword}
use Rattle.sheet_reader.specs.Parts.{is_passed}
use Rattle.sheet_reader.specs.Preludes.{ends_keyword}
use Rattle.sheet_reader.proofs.Gaps.{AllPassed}
use Rattle.sheet_reader.proofs.MediaPreludes.{and_no}
use Rattle.sheet_reader.proofs.Names.{block_level}
use Rattle.sheet_reader.proofs.ReadMoves.{AllTokens}
use Rattle.sheet_laws.specs.Keywords.{last_end}

-- ---- what is found

far : (a b : ℕ) → a < b → (a == b) ≡ false
far a b e = grind (arith, nat_tests)

beyond : (a b : ℕ) → a < b → (b == a) ≡ false
beyond a b e = grind (arith, nat_tests)

late : (a b : ℕ) → a < b → nat_le b a ≡ false
late a b e = grind (arith, nat_tests)

early : (a b : ℕ) → a ≤ b → nat_le a b ≡ true
early a b e = grind (arith, nat_tests)

quiet_kind : (k : TokenKind) → is_passed block_level k ≡ true → is_at_keyword k ≡ false
quiet_kind tokens.Comment e = refl
quiet_kind tokens.WhiteSpace e = refl
quiet_kind _ e = absurd (cc)

-- no keyword ends at a place where pieces that are passed over end
find_before : (place lo : ℕ) (before rest : List Token) → AllTokens 0 lo before → lo < place
    → find (ends_keyword place) (before ++ rest) ≡ find (ends_keyword place) rest
find_before place lo [] rest all less = refl
find_before place lo (t ∷ before) rest all less =
    let none : ends_keyword place t ≡ false =
    ap (λ (b : Bool). is_at_keyword t.kind && b) (far t.end place (omega (arith, all.0.2, less)))
    ∙ and_no (is_at_keyword t.kind) false refl in
    rw none (find_before place lo before rest all.1 less)

find_passed : (place : ℕ) (blanks rest : List Token) → AllPassed block_level blanks
    → find (ends_keyword place) (blanks ++ rest) ≡ find (ends_keyword place) rest
find_passed place [] rest all = refl
find_passed place (t ∷ blanks) rest all =
    let none : ends_keyword place t ≡ false = ap (λ (b : Bool). b && t.end == place) (quiet_kind t.kind all.0) in
    rw none (find_passed place blanks rest all.1)

find_behind : (place hi : ℕ) (others : List Token) → AllTokens place hi others → find (ends_keyword place) others ≡ None
find_behind place hi [] all = refl
find_behind place hi (t ∷ others) all =
    let none : ends_keyword place t ≡ false =
    ap (λ (b : Bool). is_at_keyword t.kind && b) (beyond place t.end (omega (arith, all.0.0, all.0.1)))
    ∙ and_no (is_at_keyword t.kind) false refl in
    rw none (find_behind place hi others all.1)

pub find_none : (place lo hi : ℕ) (before : List Token) (keyword : Token) (blanks others : List Token) → AllTokens 0 lo before → lo < place
    → keyword.end < place → AllPassed block_level blanks → AllTokens place hi others
    → find (ends_keyword place) (before ++ keyword ∷ (blanks ++ others)) ≡ None
find_none place lo hi before keyword blanks others all less end passed behind =
    let none : ends_keyword place keyword ≡ false =
    ap (λ (b : Bool). is_at_keyword keyword.kind && b) (far keyword.end place end) ∙ and_no (is_at_keyword keyword.kind) false refl in
    find_before place lo before (keyword ∷ (blanks ++ others)) all less
    ∙ rw none (find_passed place blanks others passed ∙ find_behind place hi others behind)

-- ---- the last keyword

end_passed : (place end : ℕ) (blanks : List Token) → AllPassed block_level blanks → fold (last_end place) end blanks ≡ end
end_passed place end [] all = refl
end_passed place end (t ∷ blanks) all =
    let none : (is_at_keyword t.kind && nat_le t.end place) ≡ false =
    ap (λ (b : Bool). b && nat_le t.end place) (quiet_kind t.kind all.0) in
    rw none (end_passed place end blanks all.1)

end_behind : (place hi end : ℕ) (others : List Token) → AllTokens place hi others → fold (last_end place) end others ≡ end
end_behind place hi end [] all = refl
end_behind place hi end (t ∷ others) all =
    let none : (is_at_keyword t.kind && nat_le t.end place) ≡ false =
    ap (λ (b : Bool). is_at_keyword t.kind && b) (late place t.end (omega (arith, all.0.0, all.0.1)))
    ∙ and_no (is_at_keyword t.kind) false refl in
    rw none (end_behind place hi end others all.1)

pub end_found : (place hi : ℕ) (before : List Token) (keyword : Token) (blanks others : List Token) → keyword.kind ≡ tokens.AtKeyword
    → keyword.end ≤ place → AllPassed block_level blanks → AllTokens place hi others
    → fold (last_end place) 0 (before ++ keyword ∷ (blanks ++ others)) ≡ keyword.end
end_found place hi before keyword blanks others at within passed behind =
    let here : (is_at_keyword keyword.kind && nat_le keyword.end place) ≡ true =
    (λ i. is_at_keyword (at i) && early keyword.end place within i) in
    fold-append (last_end place) 0 before (keyword ∷ (blanks ++ others))
    ∙ ap (λ (b : Bool). fold (last_end place) (cond b keyword.end (fold (last_end place) 0 before)) (blanks ++ others)) here
    ∙ fold-append (last_end place) keyword.end blanks others
    ∙ ap (λ (e : ℕ). fold (last_end place) e others) (end_passed place keyword.end blanks passed)
    ∙ end_behind place hi keyword.end others behind
