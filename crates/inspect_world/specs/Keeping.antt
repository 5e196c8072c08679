-- What a front end keeps of the frames that it took.
use Rattle.std.specs.Prelude.{◌≡◌, ℕ, List, [], ◌∷◌, ◌++◌, Result, Ok}

-- what the frames tell, one after the other
abbrev pub all_told_by : {R : Type 0} → (List ℕ → List R) → List (List ℕ) → List R
all_told_by tells [] = []
all_told_by tells (frame ∷ frames) = tells frame ++ all_told_by tells frames

-- A front end that waits for plain asks alone keeps all that frames tell. `IsPlain ask` says that an ask is none whose answer is
-- left out, and `WaitsPlainly front` that a front end waits for such asks alone.
pub record KeepLaws {F E R : Type 0} (take : F → List ℕ → Result F E) (join : F → List ℕ → F) (kept : F → List R) (tells : List ℕ → List R)
    (WaitsPlainly : F → Type 0) (IsPlain : List ℕ → Type 0) : Type 0 where
  -- a frame that is taken
  pub takes : (v w : F) (frame : List ℕ) → WaitsPlainly v → take v frame ≡ Ok w → WaitsPlainly w × (kept w ≡ kept v ++ tells frame)
  -- a plain ask that is sent
  pub joins : (v : F) (ask : List ℕ) → WaitsPlainly v → IsPlain ask → WaitsPlainly (join v ask) × (kept (join v ask) ≡ kept v)
