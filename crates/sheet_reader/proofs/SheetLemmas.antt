-- One part more of a sheet.
use Rattle.std.proofs.Common.{◌≡◌, ℕ, ◌<◌, ◌≤◌, List, [], ◌∷◌, length, take, drop, get_or, All, sym, ap, subst, ◌∙◌}
use Rattle.std.proofs.Common.{length-drop, arith}
use Rattle.std.proofs.Math.Seq.{take-append_seam}
use Rattle.css_tokens.specs.declared.token.Token.{Token}
use Rattle.sheet_reader.specs.declared.parts.Level.{Level}
use Rattle.sheet_reader.specs.Parts.{PartForm, part_at, part_pieces}
use Rattle.sheet_reader.proofs.PartLemmas.{part_front, part_some, front_fits, front_all}

pub part_all : (level : Level) (P : Token → Type 0) (left : List Token) (d : Token) (part : PartForm) → 0 < length left
    → part ≡ part_at level (get_or left 0 d) (drop 1 left) → All P left → All P (part_pieces part)
part_all level P [] d part some e all = absurd (omega (arith, some))
part_all level P (t ∷ ts) d part some e all = subst (λ (x : PartForm). All P (part_pieces x)) (sym e)
    (front_all P (part_pieces (part_at level t ts)) (t ∷ ts) (part_front level t ts) all)

pub part_fits : (level : Level) (left : List Token) (d : Token) (part : PartForm) → 0 < length left
    → part ≡ part_at level (get_or left 0 d) (drop 1 left) → length (part_pieces part) ≤ length left
part_fits level [] d part some e = absurd (omega (arith, some))
part_fits level (t ∷ ts) d part some e =
    let fits = front_fits (part_pieces (part_at level t ts)) (t ∷ ts) (part_front level t ts) in
    let same = ap (λ (x : PartForm). length (part_pieces x)) e in
    omega (arith, fits, same)

pub part_first : (level : Level) (left : List Token) (d : Token) (part : PartForm) → 0 < length left
    → part ≡ part_at level (get_or left 0 d) (drop 1 left) → take (length (part_pieces part)) left ≡ part_pieces part
part_first level [] d part some e = absurd (omega (arith, some))
part_first level (t ∷ ts) d part some e =
    let p = part_at level t ts in
    let f = part_front level t ts in
    subst (λ (x : PartForm). take (length (part_pieces x)) (t ∷ ts) ≡ part_pieces x) (sym e)
    (ap (take (length (part_pieces p))) f.is ∙ take-append_seam (part_pieces p) f.rest)

pub part_smaller : (level : Level) (left rest : List Token) (d : Token) (part : PartForm) (n : ℕ) → 0 < length left
    → part ≡ part_at level (get_or left 0 d) (drop 1 left) → n ≡ length (part_pieces part) → rest ≡ drop n left → length rest < length left
part_smaller level [] rest d part n some e is_n is_rest = absurd (omega (arith, some))
part_smaller level (t ∷ ts) rest d part n some e is_n is_rest =
    let own = part_some level t ts in
    let same = ap (λ (x : PartForm). length (part_pieces x)) e in
    let cut = ap (λ (x : List Token). length x) is_rest ∙ length-drop n (t ∷ ts) in
    omega (arith, own, same, is_n, cut)
