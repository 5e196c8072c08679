use Rattle.std.proofs.Common.{◌≡◌, ◌+◌, ℕ, List, sym, ap, ◌∙◌, subst, arith}
use Rattle.std.specs.Str.{IsUtf8, IsCharBoundary}
use Rattle.css_tokens.specs.Pieces.{Reading}
use Rattle.css_tokens.specs.Marks.{HasMarks, IsCutInside}
use Rattle.css_tokens.proofs.Cuts.{next_token, no_token, fits_in, token_end, token_marks, cut_inside}
use Rattle.css_tokens.proofs.tokens.Tokens.next.Goals as goal

pub returns-in_default-clause-first : goal.returns-in_default-clause-first
returns-in_default-clause-first c =
    let none = no_token c.self.inside.text.now c.as_bytes.result.now c.self.inside.place c.as_bytes.ensures.value
    (sym c.first_piece.ensures.value ∙ c.in_default.is) in
    let left = sym (ap (λ (r : Reading). r.left) c.self.view_is) ∙ none in
    (left, left)

pub invariant_of-self : goal.invariant_of-self
invariant_of-self c =
    token_end c.self.inside.text.now c.as_bytes.result.now c.self.inside.place c.in-Some.piece c.as_bytes.ensures.value
    (subst IsUtf8 c.as_bytes.ensures.value c.as_bytes.ensures.utf8) c.self.invariant.0
    (sym c.first_piece.ensures.value ∙ c.in-Some.is) c.in-Some.ensures.fits

pub returns-clause-first : goal.returns-clause-first
returns-clause-first c =
    sym (ap (λ (r : Reading). r.left) c.self.view_is)
    ∙ next_token c.self.inside.text.now c.as_bytes.result.now c.self.inside.place c.in-Some.piece c.as_bytes.ensures.value
    c.self.invariant.0 (sym c.first_piece.ensures.value ∙ c.in-Some.is) c.in-Some.ensures.fits

pub returns-clause-cut : goal.returns-clause-cut
returns-clause-cut c =
    let text : c.self.inside.text.now ≡ c.args.self.now.text = ap (λ (r : Reading). r.text) c.self.view_is in
    let start = c.self.inside.place in
    let end = token_end c.self.inside.text.now c.as_bytes.result.now start c.in-Some.piece c.as_bytes.ensures.value
    (subst IsUtf8 c.as_bytes.ensures.value c.as_bytes.ensures.utf8) c.self.invariant.0
    (sym c.first_piece.ensures.value ∙ c.in-Some.is) c.in-Some.ensures.fits in (
      omega (arith, c.in-Some.ensures.fits.0),
      subst (λ (t : List ℕ). IsCharBoundary t start) text c.self.invariant,
      subst (λ (t : List ℕ). IsCharBoundary t (start + c.in-Some.piece.len)) text end,
    )

pub returns-clause-marks : goal.returns-clause-marks
returns-clause-marks c =
    let text : c.self.inside.text.now ≡ c.args.self.now.text = ap (λ (r : Reading). r.text) c.self.view_is in
    let start = c.self.inside.place in
    subst (λ (t : List ℕ). HasMarks c.in-Some.piece.kind t start (start + c.in-Some.piece.len)) text
    (token_marks c.self.inside.text.now c.as_bytes.result.now start c.in-Some.piece c.as_bytes.ensures.value c.self.invariant.0
    (sym c.first_piece.ensures.value ∙ c.in-Some.is) c.in-Some.ensures.fits)

pub returns-clause-inside : goal.returns-clause-inside
returns-clause-inside c =
    let text : c.self.inside.text.now ≡ c.args.self.now.text = ap (λ (r : Reading). r.text) c.self.view_is in
    let start = c.self.inside.place in
    let found = sym c.first_piece.ensures.value ∙ c.in-Some.is in
    let fits = fits_in c.self.inside.text.now c.as_bytes.result.now start c.in-Some.piece c.as_bytes.ensures.value c.self.invariant.0
    c.in-Some.ensures.fits in
    subst (λ (t : List ℕ). IsCutInside c.in-Some.piece.kind t start (start + c.in-Some.piece.len)) text
    (cut_inside c.in-Some.piece.kind c.self.inside.text.now start (start + c.in-Some.piece.len)
    (subst IsUtf8 c.as_bytes.ensures.value c.as_bytes.ensures.utf8) (omega (arith, c.in-Some.ensures.fits.0)) fits
    (token_marks c.self.inside.text.now c.as_bytes.result.now start c.in-Some.piece c.as_bytes.ensures.value c.self.invariant.0 found
    c.in-Some.ensures.fits))
