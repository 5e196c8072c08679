-- The lines of a script with two front ends, up to the first that is refused by its form.
use Rattle.std.specs.Prelude.{ℕ, ◌+◌, List, [], ◌∷◌, ◌++◌, Option, Some, None}
use Rattle.std.specs.Option.{option_to_list}
use Rattle.replay_script.specs.Lines.{lines_of}
use Rattle.replay_script.specs.Script.{numbered_or}
use Rattle.replay_script.specs.PairLines.{PairForm, pair_line_form, pair_line_fault}
use Rattle.replay_script.specs.declared.faults.LineFault.{LineFault}
use Rattle.replay_script.specs.declared.faults.LineFault.TheVariants.{NotLoad}

-- the number and the fault of the first line that is refused, where the first of these has this number
abbrev pub pair_first_bad : ℕ → List (List ℕ) → Option (ℕ × LineFault)
pair_first_bad number [] = None
pair_first_bad number (line ∷ more) = numbered_or number (pair_line_fault number line) (pair_first_bad (number + 1) more)

-- no forms where the line is refused
abbrev pub pairs_unless_bad : Option LineFault → List PairForm → List PairForm
pairs_unless_bad None forms = forms
pairs_unless_bad (Some fault) forms = []

-- the forms of the lines before it
abbrev pub pair_good_lines : ℕ → List (List ℕ) → List PairForm
pair_good_lines number [] = []
pair_good_lines number (line ∷ more) =
    pairs_unless_bad (pair_line_fault number line) (option_to_list (pair_line_form line) ++ pair_good_lines (number + 1) more)

-- An input without a line has no load.
abbrev pub pair_fault_of_lines : List (List ℕ) → Option (ℕ × LineFault)
pair_fault_of_lines [] = Some (1, NotLoad)
pair_fault_of_lines (line ∷ more) = pair_first_bad 1 (line ∷ more)

-- the number and the fault of the first line of an input that is refused by its form
abbrev pub pair_script_fault : List ℕ → Option (ℕ × LineFault)
pair_script_fault input = pair_fault_of_lines (lines_of input)

-- the forms of the lines before it
abbrev pub pair_script_forms : List ℕ → List PairForm
pair_script_forms input = pair_good_lines 1 (lines_of input)
