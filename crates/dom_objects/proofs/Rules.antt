-- The tests of a node, as code makes them.
use Rattle.std.proofs.Common.{◌≡◌, ℕ, ◌==◌, List, Bool, true, ◌&&◌, Option, Some, None, Bor, sym, ap, ◌∙◌}
use Rattle.std.specs.Prelude.{is_some, unwrap_or}
use Rattle.node_tree.specs.Labels.{Pair, is_below, is_ascending}
use Rattle.dom_objects.specs.Told.{hold_of}
use Rattle.dom_objects.specs.NodeObject.{fits_hold}

-- the test of what is shown, for so many children or none
abbrev pub fits_shown : Option ℕ → Bool → ℕ → Bool
fits_shown o container count = fits_hold (hold_of (is_some o) container count) container count (unwrap_or o 0)

pub fits_shown-some : (o : Option ℕ) (width : ℕ) (container : Bool) (count : ℕ) → Some width ≡ o → container ≡ true
    → (count == width) ≡ fits_shown o container count
fits_shown-some o width container count e t = ap (λ b. b && (count == width)) (sym t) ∙ ap (λ p. fits_shown p container count) e

-- pairs that follow one of this name, if any, in order
abbrev pub follows : Option (Bor (List ℕ)) → List Pair → Bool
follows None ps = is_ascending ps
follows (Some name) ps = is_below name.now ps && is_ascending ps
