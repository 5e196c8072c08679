-- The parts of a text that are neither white space nor comments.
use Rattle.std.proofs.Common.{◌≡◌, ℕ, suc, ◌+◌, ◌<◌, Bool, true, false, cond, not, List, [], ◌∷◌, length, drop, get_or, refl, sym, ap}
use Rattle.std.proofs.Common.{subst, ◌∙◌, arith}
use Rattle.std.specs.List.{prefix_len}
use Rattle.css_tokens.specs.declared.token.Token.{Token}
use Rattle.css_tokens.specs.declared.token.TokenKind.{TokenKind}
use Rattle.css_tokens.specs.declared.token.TokenKind.TheVariants as tokens
use Rattle.css_tokens.specs.Pieces.{pieces}
use Rattle.sheet_reader.specs.declared.lone.LoneRule.TheVariants.{Other}
use Rattle.sheet_reader.specs.declared.parts.Level.TheVariants.{Top}
use Rattle.sheet_reader.specs.Parts.{PartForm, passed, qualified_at, is_passed, part_by, part_at, part_pieces, parts, parts_after}
use Rattle.sheet_reader.specs.Lone.{is_blank_kind, is_blank_piece, skip_blank, is_blank_part, solid_parts, lone_by, lone_of, lone_rule}
use Rattle.sheet_reader.proofs.PartLemmas.{parts_step}

-- a blank piece is a part, which is passed over
blank_part : (kind : TokenKind) (t : Token) (ts : List Token) → is_blank_kind kind ≡ true → part_by Top t ts kind ≡ passed t
blank_part tokens.Comment t ts e = refl
blank_part tokens.WhiteSpace t ts e = refl
blank_part _ t ts e = absurd (cc)

by_passed_solid : (b : Bool) (t : Token) (ts : List Token) → is_blank_piece t ≡ false
    → is_blank_part (cond b (passed t) (qualified_at (t ∷ ts))) ≡ false
by_passed_solid true t ts e = e
by_passed_solid false t ts e = refl

solid_by : (kind : TokenKind) (t : Token) (ts : List Token) → is_blank_piece t ≡ false → is_blank_part (part_by Top t ts kind) ≡ false
solid_by tokens.AtKeyword t ts e = refl
solid_by kind t ts e = by_passed_solid (is_passed Top kind) t ts e

-- any other piece begins a part that is not
solid_part : (t : Token) (ts : List Token) → is_blank_piece t ≡ false → is_blank_part (part_at Top t ts) ≡ false
unfolding part_at
solid_part t ts e = solid_by t.kind t ts e

abbrev Kept : Bool → PartForm → List PartForm → List PartForm
Kept b p ps = cond (not b) (p ∷ ps) ps

blank_first : (t : Token) (ts : List Token) → is_blank_piece t ≡ true → solid_parts (parts Top (t ∷ ts)) ≡ solid_parts (parts Top ts)
unfolding part_at
blank_first t ts e =
    let is : part_at Top t ts ≡ passed t = blank_part t.kind t ts e in
    ap solid_parts (parts_step Top t ts)
    ∙ ap (λ (p : PartForm). solid_parts (p ∷ parts Top (drop (length (part_pieces p)) (t ∷ ts)))) is
    ∙ ap (λ (b : Bool). Kept b (passed t) (solid_parts (parts Top ts))) e

solid_first : (t : Token) (ts : List Token) → is_blank_piece t ≡ false
    → solid_parts (parts Top (t ∷ ts))
    ≡ part_at Top t ts ∷ solid_parts (parts Top (drop (length (part_pieces (part_at Top t ts))) (t ∷ ts)))
solid_first t ts e =
    ap solid_parts (parts_step Top t ts)
    ∙ ap (λ (b : Bool). Kept b (part_at Top t ts) (solid_parts (parts Top (drop (length (part_pieces (part_at Top t ts))) (t ∷ ts)))))
    (solid_part t ts e)

-- what stands first where blank pieces are skipped
record Skipped (ts left : List Token) : Type 0 where
  same : solid_parts (parts Top ts) ≡ solid_parts (parts Top left)
  solid : (t : Token) (more : List Token) → left ≡ t ∷ more → is_blank_piece t ≡ false

skipped : (ts : List Token) → Skipped ts (skip_blank ts)
skipped [] = record { same = refl; solid = λ t more e. absurd (cc) }
skipped (t ∷ ts) = by (is_blank_piece t) refl (skipped ts)
  where
    by : (b : Bool) → is_blank_piece t ≡ b → Skipped ts (skip_blank ts)
        → Skipped (t ∷ ts) (drop (cond b (1 + prefix_len is_blank_piece ts) 0) (t ∷ ts))
    by true e more =
        let one : suc (prefix_len is_blank_piece ts) ≡ 1 + prefix_len is_blank_piece ts = omega arith in
        subst (λ (n : ℕ). Skipped (t ∷ ts) (drop n (t ∷ ts))) one (record { same = blank_first t ts e ∙ more.same; solid = more.solid })
    by false e more = record { same = refl; solid = λ u us is. let first : t ≡ u = cc in ap is_blank_piece (sym first) ∙ e }

pub lone_none : (text : List ℕ) (ts left : List Token) → ts ≡ pieces text → left ≡ skip_blank ts → length left < 1 → Other ≡ lone_rule text
unfolding parts_after
lone_none text ts [] is_ts is_left none =
    let s = skipped ts in
    let same : solid_parts (parts Top (pieces text))
    ≡ [] = ap (λ (xs : List Token). solid_parts (parts Top xs)) (sym is_ts) ∙ s.same ∙ ap (λ (xs : List Token). solid_parts (parts Top xs))
    (sym is_left) in
    ap (lone_of text) (sym same)
lone_none text ts (t ∷ left) is_ts is_left none = absurd (omega (arith, none))

-- the first part that is not blank, and what stands behind it
lone_first : (text : List ℕ) (ts left rest : List Token) (t : Token) (more : List Token) (n : ℕ) → ts ≡ pieces text → left ≡ skip_blank ts
    → left ≡ t ∷ more → n ≡ length (part_pieces (part_at Top t more)) → rest ≡ skip_blank (drop n left)
    → lone_rule text ≡ lone_of text (part_at Top t more ∷ solid_parts (parts Top rest))
lone_first text ts left rest t more n is_ts is_left first is_n is_rest =
    let s = skipped ts in
    let solid = s.solid t more (sym is_left ∙ first) in
    let behind = skipped (drop n left) in
    let cut : drop n left ≡ drop (length (part_pieces (part_at Top t more))) (t ∷ more) = (λ i. drop (is_n i) (first i)) in
    ap (lone_of text)
    (ap (λ (xs : List Token). solid_parts (parts Top xs)) (sym is_ts) ∙ s.same ∙ ap (λ (xs : List Token). solid_parts (parts Top xs))
    (sym is_left ∙ first)
    ∙ solid_first t more solid
    ∙ ap (λ (xs : List PartForm). part_at Top t more ∷ xs)
    (ap (λ (xs : List Token). solid_parts (parts Top xs)) (sym cut) ∙ behind.same ∙ ap (λ (xs : List Token). solid_parts (parts Top xs))
    (sym is_rest)))

pub lone_many : (text : List ℕ) (ts left rest : List Token) (d : Token) (part : PartForm) (n : ℕ) → ts ≡ pieces text → left ≡ skip_blank ts
    → 0 < length left → part ≡ part_at Top (get_or left 0 d) (drop 1 left)
    → n ≡ length (part_pieces part) → rest ≡ skip_blank (drop n left) → 0 < length rest → Other ≡ lone_rule text
lone_many text ts [] rest d part n is_ts is_left some e is_n is_rest others = absurd (omega (arith, some))
lone_many text ts (t ∷ more) [] d part n is_ts is_left some e is_n is_rest others = absurd (omega (arith, others))
lone_many text ts (t ∷ more) (u ∷ us) d part n is_ts is_left some e is_n is_rest others =
    let count = is_n ∙ ap (λ (x : PartForm). length (part_pieces x)) e in
    let whole = lone_first text ts (t ∷ more) (u ∷ us) t more n is_ts is_left refl count is_rest in
    let solid = (skipped (drop n (t ∷ more))).solid u us (sym is_rest) in
    sym (whole ∙ ap (λ (ps : List PartForm). lone_of text (part_at Top t more ∷ ps)) (solid_first u us solid))

pub lone_one : (text : List ℕ) (ts left rest : List Token) (d : Token) (part : PartForm) (n : ℕ) → ts ≡ pieces text → left ≡ skip_blank ts
    → 0 < length left → part ≡ part_at Top (get_or left 0 d) (drop 1 left)
    → n ≡ length (part_pieces part) → rest ≡ skip_blank (drop n left) → length rest < 1 → lone_by text part ≡ lone_rule text
unfolding parts_after
lone_one text ts [] rest d part n is_ts is_left some e is_n is_rest none = absurd (omega (arith, some))
lone_one text ts (t ∷ more) (u ∷ us) d part n is_ts is_left some e is_n is_rest none = absurd (omega (arith, none))
lone_one text ts (t ∷ more) [] d part n is_ts is_left some e is_n is_rest none =
    let count = is_n ∙ ap (λ (x : PartForm). length (part_pieces x)) e in
    let whole = lone_first text ts (t ∷ more) [] t more n is_ts is_left refl count is_rest in
    ap (lone_by text) e ∙ sym whole
