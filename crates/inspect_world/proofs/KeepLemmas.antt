-- A front end that sends no fetch keeps the replies among the frames that it took.
use Rattle.std.proofs.Common.{◌≡◌, ℕ, List, [], ◌∷◌, ◌++◌, refl, sym, ◌∙◌, ap, append_assoc, append-nil, Result, Ok, Err}
use Rattle.std.specs.List.{All}
use Rattle.std.proofs.lemmas.List.Elements.{All-head, All-tail}
use Rattle.cdp_json.specs.Lookups.{then_ok}
use Rattle.session_runs.specs.Fold.{folded, asks_joined}
use Rattle.inspect_world.specs.Keeping.{all_told_by, KeepLaws}

module _ {F E R : Type 0} (take : F → List ℕ → Result F E) (join : F → List ℕ → F) (kept : F → List R) (tells : List ℕ → List R)
    (WaitsPlainly : F → Type 0) (IsPlain : List ℕ → Type 0) (keeps : KeepLaws take join kept tells WaitsPlainly IsPlain) where
  kept-joined : (asks : List (List ℕ)) (v : F) → All IsPlain asks → WaitsPlainly v
      → WaitsPlainly (asks_joined join v asks) × (kept (asks_joined join v asks) ≡ kept v)
  kept-joined [] v all waits = (waits, refl)
  kept-joined (ask ∷ asks) v all waits =
      let one = keeps.joins v ask waits (All-head IsPlain ask asks all) in
      let rest = kept-joined asks (join v ask) (All-tail IsPlain ask asks all) one.0 in
      (rest.0, rest.1 ∙ one.1)

  kept-folded : (frames : List (List ℕ)) (v w : F) → WaitsPlainly v → folded take v frames ≡ Ok w
      → kept w ≡ kept v ++ all_told_by tells frames
  kept-folded [] v w waits e = sym (ap kept (ok-same v w e)) ∙ sym (append-nil (kept v))
    where
      ok-same : (a b : F) → ◌≡◌ {A = Result F E} (Ok a) (Ok b) → a ≡ b
      ok-same a b e = cc
  kept-folded (frame ∷ frames) v w waits e =
      (elim (take v frame) as (λ (r : Result F E). take v frame ≡ r
      → then_ok r (λ next. folded take next frames) ≡ Ok w → kept w ≡ kept v ++ (tells frame ++ all_told_by tells frames)) [
        | Ok next ↦ λ is rest.
            let one = keeps.takes v next frame waits is in
            kept-folded frames next w one.0 rest
            ∙ ap (λ ts. ts ++ all_told_by tells frames) one.1
            ∙ append_assoc (kept v) (tells frame) (all_told_by tells frames)
        | Err fault ↦ λ is rest. let no : ◌≡◌ {A = Result F E} (Err fault) (Ok w) = rest in absurd cc
      ]) refl e

  -- from the start, where nothing is kept
  pub replies-kept : (start front : F) (asks frames : List (List ℕ)) → WaitsPlainly start → kept start ≡ [] → All IsPlain asks
      → folded take (asks_joined join start asks) frames ≡ Ok front → kept front ≡ all_told_by tells frames
  replies-kept start front asks frames waits empty all is =
      let joins = kept-joined asks start all waits in
      kept-folded frames (asks_joined join start asks) front joins.0 is ∙ ap (λ ts. ts ++ all_told_by tells frames) (joins.1 ∙ empty)
