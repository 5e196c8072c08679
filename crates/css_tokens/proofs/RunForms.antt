-- Runs of units by the form of a unit, where a function computes how long the unit at the front is.
use Rattle.std.proofs.Common.{◌≡◌, ℕ, zero, suc, ◌+◌, ◌<◌, ◌≤◌, List, [], ◌∷◌, ◌++◌, length, refl, ap, sym, ◌∙◌, subst, append_assoc}
use Rattle.std.proofs.Common.{length-append, arith}
use Rattle.std.proofs.Math.Seq.{drop-append_seam}
use Rattle.css_tokens.specs.Runs.{run}
use Rattle.css_tokens.specs.Forms.{Units, no_units, unit_and, NoUnit, IsRun}
use Rattle.css_tokens.proofs.RunSteps.{run_more, run_none}

-- the first n codes of a text are of a form, together with what follows them
pub record Cut (Form : List ℕ → List ℕ → Type 0) (text : List ℕ) (n : ℕ) : Type 0 where
  pub front : List ℕ
  pub rest : List ℕ
  pub is : text ≡ front ++ rest
  pub len : n ≡ length front
  pub form : Form front rest

-- `unit` gives the length of the unit of form U that a text begins with, and 0 where it begins with none
pub record Computes (U : List ℕ → List ℕ → Type 0) (unit : List ℕ → ℕ) : Type 0 where
  pub at_end : unit [] ≡ 0
  pub form : (text : List ℕ) → 0 < unit text → Cut U text (unit text)
  pub only : (front rest : List ℕ) → U front rest → (0 < length front) × (unit (front ++ rest) ≡ length front)

run_step : (unit : List ℕ → ℕ) (front rest : List ℕ) → 0 < length front → unit (front ++ rest) ≡ length front
    → run unit (front ++ rest) ≡ length front + run unit rest
run_step unit front rest some is =
    run_more unit (front ++ rest) (length front) is some (omega (arith, length-append front rest))
    ∙ ap (λ more. length front + run unit more) (drop-append_seam front rest)

-- units before a place where none begins are the whole run
pub units_run : (U : List ℕ → List ℕ → Type 0) (unit : List ℕ → ℕ) → Computes U unit → (piece rest : List ℕ) → Units U piece rest
    → unit rest ≡ 0 → run unit (piece ++ rest) ≡ length piece
units_run U unit law piece rest (no_units) none = run_none unit rest none
units_run U unit law piece rest (unit_and {first = u} {others = us} e first more) none =
    let one = law.only u (us ++ rest) first in
    subst (λ (all : List ℕ). run unit (all ++ rest) ≡ length all) (sym e)
    (ap (run unit) (append_assoc u us rest) ∙ run_step unit u (us ++ rest) one.0 one.1
    ∙ ap (λ (n : ℕ). length u + n) (units_run U unit law us rest more none) ∙ sym (length-append u us))

pub none_at : (U : List ℕ → List ℕ → Type 0) (unit : List ℕ → ℕ) → Computes U unit → (text : List ℕ) → NoUnit U text → unit text ≡ 0
none_at U unit law text none =
    elim (unit text) as (λ n. unit text ≡ n → unit text ≡ 0) [
      | zero ↦ λ e. e
      | suc n ↦ λ e. let c = law.form text (omega (arith, e)) in absurd (none c.front c.rest c.is c.form)
    ] refl

pub no_unit : (U : List ℕ → List ℕ → Type 0) (unit : List ℕ → ℕ) → Computes U unit → (text : List ℕ) → unit text ≡ 0 → NoUnit U text
no_unit U unit law text none front rest is one =
    let only = law.only front rest one in
    let same : unit text ≡ unit (front ++ rest) = ap unit is in
    absurd (omega (arith, only.0, only.1))

-- a run, cut from the text
abbrev pub RunCut : (List ℕ → List ℕ → Type 0) → (List ℕ → ℕ) → List ℕ → Type 0
RunCut U unit text = Cut (λ piece rest. Units U piece rest × (unit rest ≡ 0)) text (run unit text)

join_cut : (U : List ℕ → List ℕ → Type 0) (unit : List ℕ → ℕ) → Computes U unit → (text : List ℕ) (c : Cut U text (unit text))
    → 0 < unit text → RunCut U unit c.rest → RunCut U unit text
join_cut U unit law text c some more =
    let here : unit (c.front ++ c.rest) ≡ length c.front = ap unit (sym c.is) ∙ c.len in
    record {
      front = c.front ++ more.front;
      rest = more.rest;
      is = c.is ∙ ap (λ (x : List ℕ). c.front ++ x) more.is ∙ sym (append_assoc c.front more.front more.rest);
      len = ap (run unit) c.is ∙ run_step unit c.front c.rest (omega (arith, c.len)) here ∙ ap
          (λ (n : ℕ). length c.front + n) more.len ∙ sym (length-append c.front more.front);
      form = (unit_and refl (subst (U c.front) more.is c.form) more.form.0, more.form.1);
    }

run_cut_in : (U : List ℕ → List ℕ → Type 0) (unit : List ℕ → ℕ) → Computes U unit → (k : ℕ) (text : List ℕ) → length text ≤ k
    → RunCut U unit text
run_cut_in U unit law zero [] fits = record {
  front = [];
  rest = [];
  is = refl;
  len = run_none unit [] law.at_end;
  form = (no_units, law.at_end);
}
run_cut_in U unit law zero (c ∷ rest) fits = absurd (omega arith)
run_cut_in U unit law (suc k) text fits =
    elim (unit text) as (λ n. unit text ≡ n → RunCut U unit text) [
      | zero ↦ λ e. record { front = []; rest = text; is = refl; len = run_none unit text e; form = (no_units, e) }
      | suc n ↦ λ e.
          let c = law.form text (omega (arith, e)) in
          let shorter : length c.rest ≤ k = omega (arith, ap length c.is, length-append c.front c.rest, c.len) in
          join_cut U unit law text c (omega (arith, e)) (run_cut_in U unit law k c.rest shorter)
    ] refl

pub run_cut : (U : List ℕ → List ℕ → Type 0) (unit : List ℕ → ℕ) → Computes U unit → (text : List ℕ) → RunCut U unit text
run_cut U unit law text = run_cut_in U unit law (length text) text (omega arith)

-- a maximal run, and its length
pub is_run : (U : List ℕ → List ℕ → Type 0) (unit : List ℕ → ℕ) → Computes U unit → (piece rest : List ℕ) → Units U piece rest
    → unit rest ≡ 0 → IsRun U piece rest
is_run U unit law piece rest units none = record { units = units; maximal = no_unit U unit law rest none }

pub run_is : (U : List ℕ → List ℕ → Type 0) (unit : List ℕ → ℕ) → Computes U unit → (piece rest : List ℕ) → IsRun U piece rest
    → run unit (piece ++ rest) ≡ length piece
run_is U unit law piece rest h = units_run U unit law piece rest h.units (none_at U unit law rest h.maximal)
