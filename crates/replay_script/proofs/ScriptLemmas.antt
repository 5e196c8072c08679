-- Lemmas on the lines of a script up to the first that is refused.
use Rattle.std.proofs.Common.{◌≡◌, ℕ, suc, ◌+◌, ◌-◌, ◌≤◌, List, [], ◌∷◌, ◌++◌, map, take, Option, Some, None, MatchOption, refl, ap, subst}
use Rattle.std.proofs.Common.{sym, ◌∙◌, arith}
use Rattle.std.specs.Option.{option_to_list}
use Rattle.replay_script.specs.Lines.{lines_of}
use Rattle.replay_script.specs.Forms.{LineForm, line_form}
use Rattle.replay_script.specs.Faults.{line_fault}
use Rattle.replay_script.specs.Script.{numbered_or, first_bad, unless_bad, good_lines, fault_of_lines, StopsBefore, ScriptLaw}
use Rattle.replay_script.proofs.FaultLemmas.{line_form-good}
use Rattle.replay_script.specs.declared.faults.LineFault.{LineFault}

-- ---- a step over one line

pub first_bad-good : (number : ℕ) (line : List ℕ) (more : List (List ℕ)) → line_fault number line ≡ None
    → first_bad number (line ∷ more) ≡ first_bad (number + 1) more
first_bad-good number line more h = ap (λ (f : Option LineFault). numbered_or number f (first_bad (number + 1) more)) h

pub first_bad-bad : (number : ℕ) (line : List ℕ) (more : List (List ℕ)) (fault : LineFault) → line_fault number line ≡ Some fault
    → first_bad number (line ∷ more) ≡ Some (number, fault)
first_bad-bad number line more fault h = ap (λ (f : Option LineFault). numbered_or number f (first_bad (number + 1) more)) h

pub good_lines-good : (number : ℕ) (line : List ℕ) (more : List (List ℕ)) (form : LineForm)
    → line_fault number line ≡ None → line_form line ≡ Some form
    → good_lines number (line ∷ more) ≡ form ∷ good_lines (number + 1) more
good_lines-good number line more form good is =
    let rest : List LineForm = good_lines (number + 1) more in
    ap (λ (f : Option LineFault). unless_bad f (option_to_list (line_form line) ++ rest)) good ∙ ap
    (λ (o : Option LineForm). option_to_list o ++ rest) is

pub good_lines-bad : (number : ℕ) (line : List ℕ) (more : List (List ℕ)) (fault : LineFault)
    → line_fault number line ≡ Some fault → good_lines number (line ∷ more) ≡ []
good_lines-bad number line more fault h =
    ap (λ (f : Option LineFault). unless_bad f (option_to_list (line_form line) ++ good_lines (number + 1) more)) h

-- ---- the law

-- the forms are those of the lines before the bad one, if there is one; the first line has this number
abbrev Walks : ℕ → Option (ℕ × LineFault) → List LineForm → List (List ℕ) → Type 0
Walks number bad forms lines = MatchOption bad (map Some forms ≡ map line_form lines)
    (λ at. (number ≤ at.0) × (map Some forms ≡ map line_form (take (at.0 - number) lines)))

walks-good : (number : ℕ) (bad : Option (ℕ × LineFault)) (forms : List LineForm) (line : List ℕ) (more : List (List ℕ)) (form : LineForm)
    → line_form line ≡ Some form → Walks (number + 1) bad forms more → Walks number bad (form ∷ forms) (line ∷ more)
walks-good number None forms line more form is h = rw (is, h) refl
walks-good number (Some at) forms line more form is h =
    let less : number + 1 ≤ at.0 = h.0 in
    let one : at.0 - number ≡ suc (at.0 - (number + 1)) = omega (arith, less) in
    (omega (arith, less), rw (one, is, h.1) refl)

walks-bad : (number : ℕ) (fault : LineFault) (line : List ℕ) (more : List (List ℕ)) → Walks number (Some (number, fault)) [] (line ∷ more)
walks-bad number fault line more = let none_left : number - number ≡ 0 = omega arith in (omega arith, rw none_left refl)

walks : (number : ℕ) (lines : List (List ℕ)) → Walks number (first_bad number lines) (good_lines number lines) lines
walks number [] = refl
walks number (line ∷ more) =
    let later = walks (number + 1) more in
    let rest : List LineForm = good_lines (number + 1) more in
    (elim (line_fault number line) as (λ f. line_fault number line ≡ f
    → Walks number (numbered_or number f (first_bad (number + 1) more)) (unless_bad f (option_to_list (line_form line) ++ rest))
    (line ∷ more)) [
      | None ↦ λ e.
          let form = line_form-good number line e in
          subst (λ (o : Option LineForm). Walks number (first_bad (number + 1) more) (option_to_list o ++ rest) (line ∷ more)) (sym form.1)
          (walks-good number _ rest line more form.0 form.1 later)
      | Some fault ↦ λ e. walks-bad number fault line more
    ]) refl

law-walk : (bad : Option (ℕ × LineFault)) (forms : List LineForm) (lines : List (List ℕ)) → Walks 1 bad forms lines
    → MatchOption bad (map Some forms ≡ map line_form lines) (λ at. StopsBefore forms lines at.0)
law-walk None forms lines h = h
law-walk (Some at) forms lines h = record { least = h.0; before = h.1 }

law-lines : (lines : List (List ℕ))
    → MatchOption (fault_of_lines lines) (map Some (good_lines 1 lines) ≡ map line_form lines)
    (λ bad. StopsBefore (good_lines 1 lines) lines bad.0)
law-lines [] = record { least = omega arith; before = refl }
law-lines (line ∷ more) = law-walk (first_bad 1 (line ∷ more)) (good_lines 1 (line ∷ more)) (line ∷ more) (walks 1 (line ∷ more))

pub script_law : ScriptLaw
script_law input = law-lines (lines_of input)
