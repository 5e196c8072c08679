-- What the parts of a run keep, one after the other.
use Rattle.std.proofs.Common.{ℕ, zero, suc, List, [], ◌∷◌, take}
use Rattle.session_runs.specs.World.{World}
use Rattle.session_runs.specs.Fold.{Machine, Laws, Fits}
use Rattle.session_runs.specs.Passages.{Passage, sending, turning, delivering_up, delivering_down, settling, after_passage, after_passages}
use Rattle.session_runs.specs.Passages.{MayPass, MayPassAll}
use Rattle.session_runs.proofs.Worlds.{fits-sent_up, fits-turned, fits-delivered_up, fits-delivered_down, fits-settled}

module _ {S F E X N L : Type 0} (machine : Machine S F E X N) (HasRoom : S → Type 0) (IsNext : N → S → List (List ℕ) → List ℕ → N → Type 0)
    (IsTurn : N → X → Type 0) (Fit : N → F → S → List (List ℕ) → Type 0) (laws : Laws machine HasRoom IsNext IsTurn Fit) where
  -- that the streams fit the state
  pub passage-fits : (start : F) (p : Passage X N) (w : World S N L) → MayPass machine HasRoom IsNext IsTurn p w
      → Fits machine.take machine.join Fit start w → Fits machine.take machine.join Fit start (after_passage machine p w)
  passage-fits start (sending text more) w may fits =
      fits-sent_up machine HasRoom IsNext IsTurn Fit laws start text more w may.0 may.1 fits
  passage-fits start (turning x) w may fits = fits-turned machine HasRoom IsNext IsTurn Fit laws start x w may.0 may.1 fits
  passage-fits start (delivering_up n) w may fits = fits-delivered_up machine HasRoom IsNext IsTurn Fit laws start n w may fits
  passage-fits start (delivering_down n) w may fits = fits-delivered_down machine HasRoom IsNext IsTurn Fit laws start n w fits
  passage-fits start settling w may fits = fits-settled machine HasRoom IsNext IsTurn Fit laws start w may fits

  pub passages-fit : (start : F) (n : ℕ) (ps : List (Passage X N)) (w : World S N L) → MayPassAll machine HasRoom IsNext IsTurn ps w
      → Fits machine.take machine.join Fit start w → Fits machine.take machine.join Fit start (after_passages machine (take n ps) w)
  passages-fit start zero ps w may fits = fits
  passages-fit start (suc n) [] w may fits = fits
  passages-fit start (suc n) (p ∷ ps) w may fits =
      passages-fit start n ps (after_passage machine p w) may.1 (passage-fits start p w may.0 fits)
