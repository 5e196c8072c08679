use Rattle.std.proofs.Common.{◌≡◌, ℕ, ◌+◌, ap, ◌∙◌, arith}
use Rattle.std.specs.List.{slice_get}
use Rattle.cascade_match.proofs.StandingLemmas.{places-from, places-of}
use Rattle.cascade_match.proofs.laws.places_law.Goals as goal

pub returns : goal.returns
returns c = record {
  each = λ ss z i s at matches. places-of 0 i i ss z s (omega arith) at matches;
  only = λ ss z i there.
      let p = places-from 0 ss z i there in
      let at : i ≡ p.offset = (let is : i ≡ 0 + p.offset = p.is in omega arith) in
      (p.selector, ap (λ (n : ℕ). slice_get ss n) at ∙ p.there, p.matches);
}
