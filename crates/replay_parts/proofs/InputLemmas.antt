-- How many lines stand behind the first of an input, and how many bytes are in them.
use Rattle.std.proofs.Common.{◌≡◌, ◌≤◌, ◌+◌, ℕ, suc, List, ◌∷◌, length, ap, arith}
use Rattle.replay_script.specs.Lines.{lines_of}
use Rattle.inspect_world.specs.Costs.{line_bytes}
use Rattle.inspect_world.proofs.Inputs.{length-lines_of, bytes-lines_of}

-- there are no more lines than bytes in the input
pub few-lines : (input first : List ℕ) (more : List (List ℕ)) (limit : ℕ) → lines_of input ≡ first ∷ more → length input ≤ limit
    → length more ≤ limit
few-lines input first more limit lines few =
    let all : length (lines_of input) ≤ length input = length-lines_of input in
    let count : length (lines_of input) ≡ suc (length more) = ap length lines in
    omega (arith, all, count, few)

-- nor more bytes in them
pub few-bytes : (input first : List ℕ) (more : List (List ℕ)) (limit : ℕ) → lines_of input ≡ first ∷ more → length input ≤ limit
    → line_bytes more ≤ limit
few-bytes input first more limit lines few =
    let all : line_bytes (lines_of input) ≤ length input = bytes-lines_of input in
    let count : line_bytes (lines_of input) ≡ line_bytes more + length first = ap line_bytes lines in
    omega (arith, all, count, few)
