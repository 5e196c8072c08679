-- Folding over frames that come in parts.
use Rattle.std.proofs.Common.{◌≡◌, ℕ, List, [], ◌∷◌, ◌++◌, refl, sym, ◌∙◌, ap, Result, Ok, Err}
use Rattle.cdp_json.specs.Lookups.{then_ok}
use Rattle.session_runs.specs.Fold.{folded, asks_joined}

then-then : {F E G H : Type 0} (result : Result F E) (first : F → Result G E) (second : G → Result H E)
    → then_ok result (λ value. then_ok (first value) second) ≡ then_ok (then_ok result first) second
then-then (Ok value) first second = refl
then-then (Err fault) first second = refl

then-same : {F E G : Type 0} (result : Result F E) (first second : F → Result G E)
    → ((value : F) → first value ≡ second value) → then_ok result first ≡ then_ok result second
then-same (Ok value) first second same = same value
then-same (Err fault) first second same = refl

-- frames in two parts
pub folded-append : {F E : Type 0} (take : F → List ℕ → Result F E) (front : F) (first second : List (List ℕ))
    → folded take front (first ++ second) ≡ then_ok (folded take front first) (λ next. folded take next second)
folded-append take front [] second = refl
folded-append take front (frame ∷ first) second =
    then-same (take front frame) (λ next. folded take next (first ++ second))
    (λ next. then_ok (folded take next first) (λ last. folded take last second))
    (λ next. folded-append take next first second)
    ∙ then-then (take front frame) (λ next. folded take next first) (λ last. folded take last second)

-- asks in two parts
pub joined-append : {F : Type 0} (join : F → List ℕ → F) (front : F) (first second : List (List ℕ))
    → asks_joined join front (first ++ second) ≡ asks_joined join (asks_joined join front first) second
joined-append join front [] second = refl
joined-append join front (frame ∷ first) second = joined-append join (join front frame) first second

-- frames whose fold meets no fault, cut in two
pub record Halves {F E : Type 0} (take : F → List ℕ → Result F E) (front last : F) (first second : List (List ℕ)) : Type 0 where
  pub middle : F
  pub before : folded take front first ≡ Ok middle
  pub after : folded take middle second ≡ Ok last

then-halves : {F E : Type 0} (take : F → List ℕ → Result F E) (front last : F) (first second : List (List ℕ)) (result : Result F E)
    → folded take front first ≡ result → then_ok result (λ next. folded take next second) ≡ Ok last
    → Halves take front last first second
then-halves take front last first second (Ok middle) is e = record { middle = middle; before = is; after = e }
then-halves {F} {E} take front last first second (Err fault) is e =
    let no : ◌≡◌ {A = Result F E} (Err fault) (Ok last) = e in cc

pub folded-halves : {F E : Type 0} (take : F → List ℕ → Result F E) (front last : F) (first second : List (List ℕ))
    → folded take front (first ++ second) ≡ Ok last → Halves take front last first second
folded-halves take front last first second e =
    then-halves take front last first second (folded take front first) refl (sym (folded-append take front first second) ∙ e)

-- where the first half is known
pub folded-rest : {F E : Type 0} (take : F → List ℕ → Result F E) (front middle last : F) (first second : List (List ℕ))
    → folded take front first ≡ Ok middle → folded take front (first ++ second) ≡ Ok last → folded take middle second ≡ Ok last
folded-rest take front middle last first second is e =
    sym (ap (λ result. then_ok result (λ next. folded take next second)) is) ∙ sym (folded-append take front first second) ∙ e
