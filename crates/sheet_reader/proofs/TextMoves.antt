-- The pieces of a text behind another front, and what stands in both texts.
use Rattle.std.proofs.Common.{◌≡◌, ℕ, zero, suc, ◌+◌, ◌-◌, ◌<◌, ◌≤◌, List, [], ◌∷◌, ◌++◌, map, take, drop}
use Rattle.std.proofs.Common.{length, Option, Some, None, refl, ap, sym, ◌∙◌, length-append, arith}
use Rattle.std.specs.Prelude.{slice_index}
use Rattle.std.proofs.lemmas.List.{drop-append-le, take-append-le, length-drop, drop-drop}
use Rattle.std.proofs.Math.Seq.{drop-append_seam}
use Rattle.css_tokens.specs.declared.token.Token.{Token}
use Rattle.css_tokens.specs.Rows.{first_piece}
use Rattle.css_tokens.specs.Pieces.{pieces, pieces_after, piece_then}
use Rattle.css_tokens.specs.Seams.{IsWholeBefore, no_more, piece_and}
use Rattle.css_tokens.proofs.Ends.{first_of_rest}
use Rattle.css_tokens.proofs.TableForms.{first_fits}
use Rattle.selectors.specs.Words.{between}
use Rattle.sheet_reader.proofs.Behind.{Piece}
use Rattle.sheet_reader.proofs.Raised.{raised}
use Rattle.sheet_reader.proofs.WordMoves.{SamePart}
use Rattle.sheet_reader.proofs.ReadMoves.{AllTokens}

-- ---- pieces further back
pub pieces_moved : (d place skip : ℕ) (text : List ℕ) → pieces_after (d + place) skip text
    ≡ map (raised (λ x. d + x)) (pieces_after place skip text)
unfolding pieces_after
pieces_moved d place skip [] = refl
pieces_moved d place (suc skip) (c ∷ rest) =
    let plus : d + place + 1 ≡ d + (place + 1) = omega arith in
    ap (λ (n : ℕ). pieces_after n skip rest) plus ∙ pieces_moved d (place + 1) skip rest
pieces_moved d place zero (c ∷ rest) =
    let plus : d + place + 1 ≡ d + (place + 1) = omega arith in
    by (first_piece (c ∷ rest)) (λ skip. ap (λ (n : ℕ). pieces_after n skip rest) plus ∙ pieces_moved d (place + 1) skip rest)
  where
    by : (o : Option Piece) → ((skip : ℕ) → pieces_after (d + place + 1) skip rest
        ≡ map (raised (λ x. d + x)) (pieces_after (place + 1) skip rest))
        → piece_then (d + place) o (λ skip. pieces_after (d + place + 1) skip rest)
        ≡ map (raised (λ x. d + x)) (piece_then place o (λ skip. pieces_after (place + 1) skip rest))
    by None more = refl
    by (Some p) more =
        let assoc : d + place + p.len ≡ d + (place + p.len) = omega arith in
        λ i. (record { kind = p.kind; start = d + place; end = assoc i }) ∷ more (p.len - 1) i

pub pieces_from : (d : ℕ) (text : List ℕ) → pieces_after d 0 text ≡ map (raised (λ x. d + x)) (pieces text)
pieces_from d text =
    let plain : d ≡ d + 0 = omega arith in
    ap (λ (n : ℕ). pieces_after n 0 text) plain ∙ pieces_moved d 0 0 text

-- ---- where pieces stand
pub widen : (lo hi lo2 hi2 : ℕ) (ts : List Token) → lo2 ≤ lo → hi ≤ hi2 → AllTokens lo hi ts → AllTokens lo2 hi2 ts
widen lo hi lo2 hi2 [] a b all = tt
widen lo hi lo2 hi2 (t ∷ ts) a b all =
    let i = all.0 in
    ((omega (arith, a, i.0), i.1, omega (arith, b, i.2)), widen lo hi lo2 hi2 ts a b all.1)

pub whole_tokens : (after : List ℕ) (place : ℕ) (text : List ℕ) (ts : List Token) → IsWholeBefore after place text ts
    → AllTokens place (place + length text) ts
whole_tokens after place text ts no_more = tt
whole_tokens after place text ts (piece_and {ts = more} p front rest is len found whole) =
    let fits = first_fits (text ++ after) 0 p (omega arith) found in
    let size : length text ≡ p.len + length rest = omega (arith, len, ap length is, length-append front rest) in (
      (omega arith, omega (arith, fits.0), omega (arith, size)),
      widen (place + p.len) (place + p.len + length rest) place (place + length text) more (omega arith) (omega (arith, size))
          (whole_tokens after (place + p.len) rest more whole),
    )

-- ---- the same part of two texts
between_front : (p x : List ℕ) (a b : ℕ) → between (p ++ x) (length p + a) (length p + b) ≡ between x a b
between_front p x a b =
    let size : length p + b - (length p + a) ≡ b - a = omega arith in
    let behind : drop (length p + a) (p ++ x) ≡ drop a x = sym (drop-drop a (length p) (p ++ x)) ∙ ap (drop a) (drop-append_seam p x) in
    ap (λ (n : ℕ). take n (drop (length p + a) (p ++ x))) size ∙ ap (take (b - a)) behind

between_back : (m q : List ℕ) (a b : ℕ) → a ≤ length m → b ≤ length m → between (m ++ q) a b ≡ between m a b
between_back m q a b i j =
    ap (take (b - a)) (drop-append-le a m q i) ∙ take-append-le (b - a) (drop a m) q (omega (arith, length-drop a m, i, j))

code_front : (p x : List ℕ) (i : ℕ) → slice_index (p ++ x) (length p + i) ≡ slice_index x i
code_front p x i =
    sym (first_of_rest (p ++ x) (length p + i))
    ∙ ap (λ (t : List ℕ). slice_index t 0) (sym (drop-drop i (length p) (p ++ x)) ∙ ap (drop i) (drop-append_seam p x))
    ∙ first_of_rest x i

code_back : (m q : List ℕ) (i : ℕ) → i < length m → slice_index (m ++ q) i ≡ slice_index m i
code_back m q i inside =
    sym (first_of_rest (m ++ q) i) ∙ ap (λ (t : List ℕ). slice_index t 0) (drop-append-le i m q (omega (arith, inside)))
    ∙ head (drop i m) (omega (arith, length-drop i m, inside)) ∙ first_of_rest m i
  where
    head : (x : List ℕ) → 0 < length x → slice_index (x ++ q) 0 ≡ slice_index x 0
    head [] some = absurd (omega (arith, some))
    head (c ∷ x) some = refl

pub same_part : (p m q p2 q2 : List ℕ) (f : ℕ → ℕ) → ((x : ℕ) → x ≤ length m → f (length p + x) ≡ length p2 + x)
    → SamePart (p ++ (m ++ q)) (p2 ++ (m ++ q2)) f (length p) (length p + length m)
same_part p m q p2 q2 f at = record { cut = cut; code = code; shift = shift }
  where
    cut : (a b : ℕ) → length p ≤ a → a ≤ length p + length m → length p ≤ b → b ≤ length p + length m
        → between (p ++ (m ++ q)) a b ≡ between (p2 ++ (m ++ q2)) (f a) (f b)
    cut a b la ah lb bh =
        let a_is : length p + (a - length p) ≡ a = omega (arith, la) in
        let b_is : length p + (b - length p) ≡ b = omega (arith, lb) in
        let fa : f a ≡ length p2 + (a - length p) = sym (ap f a_is) ∙ at (a - length p) (omega (arith, la, ah)) in
        let fb : f b ≡ length p2 + (b - length p) = sym (ap f b_is) ∙ at (b - length p) (omega (arith, lb, bh)) in
        (λ i. between (p ++ (m ++ q)) (sym a_is i) (sym b_is i))
        ∙ between_front p (m ++ q) (a - length p) (b - length p)
        ∙ between_back m q (a - length p) (b - length p) (omega (arith, la, ah)) (omega (arith, lb, bh))
        ∙ sym (between_back m q2 (a - length p) (b - length p) (omega (arith, la, ah)) (omega (arith, lb, bh)))
        ∙ sym (between_front p2 (m ++ q2) (a - length p) (b - length p))
        ∙ (λ i. between (p2 ++ (m ++ q2)) (sym fa i) (sym fb i))

    code : (i : ℕ) → length p ≤ i → i < length p + length m → slice_index (p ++ (m ++ q)) i ≡ slice_index (p2 ++ (m ++ q2)) (f i)
    code a la ah =
        let a_is : length p + (a - length p) ≡ a = omega (arith, la) in
        let fa : f a ≡ length p2 + (a - length p) = sym (ap f a_is) ∙ at (a - length p) (omega (arith, la, ah)) in
        ap (slice_index (p ++ (m ++ q))) (sym a_is) ∙ code_front p (m ++ q) (a - length p)
        ∙ code_back m q (a - length p) (omega (arith, la, ah))
        ∙ sym (code_back m q2 (a - length p) (omega (arith, la, ah))) ∙ sym (code_front p2 (m ++ q2) (a - length p))
        ∙ ap (slice_index (p2 ++ (m ++ q2))) (sym fa)

    shift : (x k : ℕ) → length p ≤ x → x + k ≤ length p + length m → f (x + k) ≡ f x + k
    shift x k la ah =
        let x_is : length p + (x - length p) ≡ x = omega (arith, la) in
        let k_is : length p + (x - length p + k) ≡ x + k = omega (arith, la) in
        let fx : f x ≡ length p2 + (x - length p) = sym (ap f x_is) ∙ at (x - length p) (omega (arith, la, ah)) in
        let fk : f (x + k) ≡ length p2 + (x - length p + k) = sym (ap f k_is) ∙ at (x - length p + k) (omega (arith, la, ah)) in
        omega (arith, fx, fk)
