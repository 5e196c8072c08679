-- Before a place between parts stand pieces that are passed over, and before these a mark, or nothing.
use Rattle.std.proofs.Common.{◌≡◌, ℕ, suc, ◌+◌, Bool, true, false, List, [], ◌∷◌, ◌++◌, length, Option, Some, None}
use Rattle.std.proofs.Common.{refl, sym, ap, subst, ◌∙◌, append_assoc, append-nil, length-append, arith}
use Rattle.css_tokens.specs.declared.token.Token.{Token}
use Rattle.css_tokens.specs.declared.token.TokenKind.{TokenKind}
use Rattle.css_tokens.specs.declared.token.TokenKind.TheVariants as tokens
use Rattle.sheet_reader.specs.declared.brackets.Stop.TheVariants as stops
use Rattle.sheet_reader.specs.declared.parts.Level.{Level}
use Rattle.sheet_reader.specs.Brackets.{until}
use Rattle.sheet_reader.specs.Forms.{RuleForm}
use Rattle.sheet_reader.specs.Parts.{EndingForm, PartForm, passed, at_rule, qualified, is_passed, ending_pieces}
use Rattle.sheet_reader.specs.Parts.{part_pieces}
use Rattle.sheet_reader.specs.Layout.{MediaForm, media_form, media_in, laid, level_of}
use Rattle.sheet_reader.specs.Sheets.{rules_in}
use Rattle.sheet_reader.specs.Grammar.{IsEnding, at_text_end, at_semicolon, in_block, in_open_block, IsPart, passed_part, at_rule_part}
use Rattle.sheet_reader.specs.Grammar.{qualified_part}
use Rattle.sheet_reader.proofs.ExchangeForms.{reaches}
use Rattle.sheet_reader.proofs.Gaps.{AllPassed}
use Rattle.sheet_reader.proofs.Spots.{Spot, at_spot, past_part, past_media, in_media}

-- a `{`, a `}` or a `;`
abbrev pub is_mark_kind : TokenKind → Bool
is_mark_kind tokens.OpenCurly = true
is_mark_kind tokens.CloseCurly = true
is_mark_kind tokens.Semicolon = true
is_mark_kind _ = false

-- pieces that end in a mark
pub record EndsMarked (ts : List Token) : Type 0 where
  pub before : List Token
  pub last : Token
  pub is : ts ≡ before ++ last ∷ []
  pub kind : is_mark_kind last.kind ≡ true

marked_behind : (xs ts : List Token) → EndsMarked ts → EndsMarked (xs ++ ts)
marked_behind xs ts e = record {
  before = xs ++ e.before;
  last = e.last;
  is = ap (λ (l : List Token). xs ++ l) e.is ∙ sym (append_assoc xs e.before (e.last ∷ []));
  kind = e.kind;
}

-- a part that is one whatever stands behind it is a piece that is passed over, or ends in a mark
data PartEnd (level : Level) : PartForm → Type 0 where
  over : (t : Token) → is_passed level t.kind ≡ true → PartEnd level (passed t)
  closed : (p : PartForm) → EndsMarked (part_pieces p) → PartEnd level p

pub any_token : Token
any_token = record { kind = tokens.Comment; start = 0; end = 0 }

ending_marked : (e : EndingForm) → IsEnding e (any_token ∷ []) → EndsMarked (ending_pieces e)
ending_marked _ (at_text_end none) = absurd (cc)
ending_marked _ (at_semicolon t kind) = record { before = []; last = t; is = refl; kind = ap is_mark_kind kind }
ending_marked _ (in_block first close within curly own kind) =
    record { before = first ∷ within; last = close; is = refl; kind = ap is_mark_kind kind }
ending_marked _ (in_open_block first within curly own none) = absurd (cc)

part_end : (level : Level) (p : PartForm) → IsPart level p (any_token ∷ []) → PartEnd level p
part_end level _ (passed_part t e) = over t e
part_end level _ (at_rule_part keyword prelude ending e r) =
    closed (at_rule keyword prelude ending)
    (marked_behind (keyword ∷ prelude) (ending_pieces ending) (ending_marked ending r.ends))
part_end level _ (qualified_part prelude ending begins r) =
    closed (qualified prelude ending) (marked_behind prelude (ending_pieces ending) (ending_marked ending r.ends))

-- the pieces before the place taken apart: either all are passed over, or a mark stands before those that are
pub data Strip (text : List ℕ) : Option ℕ → ℕ → Option ℕ → ℕ → List Token → Type 0 where
  bare : {around : Option ℕ} {k : ℕ} (front : List Token) → AllPassed (level_of around) front → Strip text around k around k front
  marked : {around a : Option ℕ} {k j : ℕ} (front own lead : List Token) (rs : List RuleForm) → front ≡ own ++ lead → EndsMarked own
      → Spot text around k a j rs own → AllPassed (level_of a) lead → Strip text around k a j front

no_media : (text : List ℕ) (t : Token) (m : MediaForm) → media_form text (passed t) ≡ Some m → ⊥
unfolding media_form
no_media text t m e = cc

pub strip : (text : List ℕ) {around a : Option ℕ} {k j : ℕ} (rs : List RuleForm) (xs : List Token) → Spot text around k a j rs xs
    → Strip text around k a j xs
strip text _ _ at_spot = bare [] tt
strip text {around = around} {k = k} _ _ (past_part {a = a} {j = j} p rs xs part none spot) = by (strip text rs xs spot)
  where
    by : {a : Option ℕ} {j : ℕ} → Strip text around k a j xs → Strip text around k a j (part_pieces p ++ xs)
    by (marked _ own lead qs is ends here all) =
        marked (part_pieces p ++ xs) (part_pieces p ++ own) lead (rules_in text (laid around p ∷ []) ++ qs)
        (ap (λ (l : List Token). part_pieces p ++ l) is ∙ sym (append_assoc (part_pieces p) own lead))
        (marked_behind (part_pieces p) own ends)
        (past_part p qs own part none here) all
    by (bare _ all) = ended (part_end (level_of around) p (part (any_token ∷ []))) part none
      where
        ended : {p : PartForm} → PartEnd (level_of around) p → ((rest : List Token) → IsPart (level_of around) p rest)
            → media_form text p ≡ None → Strip text around k around k (part_pieces p ++ xs)
        ended (over t e) is_part plain = bare (t ∷ xs) (e, all)
        ended (closed q e) is_part plain =
            marked (part_pieces q ++ xs) (part_pieces q ++ []) xs (rules_in text (laid around q ∷ []) ++ [])
            (ap (λ (l : List Token). l ++ xs) (sym (append-nil (part_pieces q)))) (subst EndsMarked (sym (append-nil (part_pieces q))) e)
            (past_part q [] [] is_part plain at_spot) all
strip text {around = around} {k = k} _ _ (past_media {a = a} {j = j} p m inner within rs xs part is own are spot) = by refl
    (strip text rs xs spot)
  where
    i : ℕ
    i = suc k + length (media_in text within)

    by : {a : Option ℕ} {j n : ℕ} → n ≡ i → Strip text around n a j xs → Strip text around k a j (part_pieces p ++ xs)
    by same (marked {a = b} {j = g} _ front lead qs e ends here all) =
        marked (part_pieces p ++ xs) (part_pieces p ++ front) lead (rules_in text (laid around p ∷ within) ++ qs)
        (ap (λ (l : List Token). part_pieces p ++ l) e ∙ sym (append_assoc (part_pieces p) front lead))
        (marked_behind (part_pieces p) front ends)
        (past_media p m inner within qs front part is own are (subst (λ (n : ℕ). Spot text around n b g qs front) same here)) all
    by {n = n} same (bare _ all) = ended (part_end (level_of around) p (part (any_token ∷ [])))
      where
        block_end : EndsMarked (part_pieces p) → Strip text around k around n (part_pieces p ++ xs)
        block_end e =
            marked (part_pieces p ++ xs) (part_pieces p ++ []) xs (rules_in text (laid around p ∷ within) ++ [])
            (ap (λ (l : List Token). l ++ xs) (sym (append-nil (part_pieces p)))) (subst EndsMarked (sym (append-nil (part_pieces p))) e)
            (past_media p m inner within [] [] part is own are (subst (λ (z : ℕ). Spot text around z around n [] []) same at_spot)) all

        ended : PartEnd (level_of around) p → Strip text around k around n (part_pieces p ++ xs)
        ended e = which e is block_end
          where
            which : {q : PartForm} {G : Type 0} → PartEnd (level_of around) q → media_form text q ≡ Some m
                → (EndsMarked (part_pieces q) → G) → G
            which (over t h) form give = absurd (no_media text t m form)
            which (closed q h) form give = give h
strip text {around = around} {k = k} _ _ (in_media {a = a} {j = j} keyword prelude first rs xs at named values curly over_front spot) =
    by (strip text rs xs spot)
  where
    by : {a : Option ℕ} {j : ℕ} → Strip text (Some k) (suc k) a j xs → Strip text around k a j (keyword ∷ (prelude ++ first ∷ xs))
    by (marked _ own lead qs is ends here all) =
        marked (keyword ∷ (prelude ++ first ∷ xs)) (keyword ∷ (prelude ++ first ∷ own)) lead qs
        (ap (λ (l : List Token). keyword ∷ (prelude ++ first ∷ l)) is
        ∙ ap (λ (l : List Token). keyword ∷ l) (sym (append_assoc prelude (first ∷ own) lead)))
        (subst EndsMarked (ap (λ (l : List Token). keyword ∷ l) (append_assoc prelude (first ∷ []) own))
        (marked_behind (keyword ∷ (prelude ++ first ∷ [])) own ends))
        (in_media keyword prelude first qs own at named values curly
        (λ rest. reaches stops.BlockEnd own (lead ++ []) rest []
        (let whole = over_front [] in
        let cut : until stops.BlockEnd (xs ++ []) ≡ until stops.BlockEnd (own ++ (lead ++ [])) =
        ap (λ (l : List Token). until stops.BlockEnd (l ++ [])) is ∙ ap (until stops.BlockEnd) (append_assoc own lead []) in
        omega (arith, whole, cut, ap (λ (l : List Token). length l) is, length-append own lead))) here)
        all
    by (bare _ all) =
        marked (keyword ∷ (prelude ++ first ∷ xs)) (keyword ∷ (prelude ++ first ∷ [])) xs []
        (ap (λ (l : List Token). keyword ∷ l) (sym (append_assoc prelude (first ∷ []) xs)))
        (record { before = keyword ∷ prelude; last = first; is = refl; kind = ap is_mark_kind curly })
        (in_media keyword prelude first [] [] at named values curly (λ rest. omega arith) at_spot) all
