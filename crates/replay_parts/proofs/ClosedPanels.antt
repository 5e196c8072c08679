-- Places of panels as a script and a front end find them, and what comes of a line that drops a panel.
use Rattle.std.proofs.Common.{◌≡◌, ℕ, zero, suc, List, [], ◌∷◌, Bool, true, false, Option, None, Result, refl, sym, ap, subst}
use Rattle.std.proofs.Common.{arith, is_some}
use Rattle.node_tree.specs.Keys.{first_of}
use Rattle.front_mirror.specs.declared.panels.PanelKind.{PanelKind}
use Rattle.front_mirror.specs.Places.{slot_at, emptied_at, open_at, closed_at}
use Rattle.replay_script.specs.Script.{standing, stands_open, without, dropped, numbered_or, panel_missing}
use Rattle.replay_parts.specs.declared.stop.Stop.{Stop}
use Rattle.replay_parts.specs.Reads.{drops}
use Rattle.replay_parts.specs.Stops.{HasRunCause}
use Rattle.replay_parts.specs.Answers.{RunTells}

-- ---- places

standing-is : (i : ℕ) (panels : List (Option PanelKind)) → standing i panels ≡ slot_at i panels
standing-is i [] = refl
standing-is zero (panel ∷ panels) = refl
standing-is (suc i) (panel ∷ panels) = standing-is i panels

-- a panel stands open at a place as the front end finds it
pub stands-open : (place : ℕ) (panels : List (Option PanelKind)) → is_some (open_at place panels) ≡ stands_open place panels
stands-open zero panels = refl
stands-open (suc i) panels = ap is_some (sym (standing-is i panels))

without-is : (i : ℕ) (panels : List (Option PanelKind)) → emptied_at i panels ≡ without i panels
without-is i [] = refl
without-is zero (panel ∷ panels) = refl
without-is (suc i) (panel ∷ panels) = ap (λ ps. panel ∷ ps) (without-is i panels)

-- and is dropped there as the front end does it
pub dropped-is : (place : ℕ) (panels : List (Option PanelKind)) → closed_at place panels ≡ dropped place panels
dropped-is zero panels = refl
dropped-is (suc i) panels = without-is i panels

-- ---- a line that drops a panel

-- it fails nothing outside
pub panel-cause : (result : Result (Unit {0}) Stop) (number sink link : ℕ) (there : Bool) → result ≡ drops number there
    → HasRunCause sink sink link link result
panel-cause result number sink link there is = subst (λ r. HasRunCause sink sink link link r) (sym is) (at there) where
  at : (b : Bool) → HasRunCause sink sink link link (drops number b)
  at true = record { sink_later = omega arith; link_later = omega arith; rose = tt; others = (refl, refl, refl) }
  at false = record { sink_later = omega arith; link_later = omega arith; rose = tt; others = (refl, refl, refl) }

-- it is refused where none stands open, and tells nothing else
pub dropped-tells : (number : ℕ) (there : Bool) → RunTells (drops number there)
    (numbered_or number (first_of (panel_missing there) None) None)
dropped-tells number true = refl
dropped-tells number false = refl
