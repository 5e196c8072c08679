use Rattle.std.proofs.Common.{◌≡◌, length, map, All}
use Rattle.std.specs.Prelude.{option_map, IfSome}
use Rattle.front_mirror.specs.Panels.{face}
use Rattle.front_mirror.specs.Front.{front_folded}
use Rattle.front_mirror.specs.Known.{known_value}
use Rattle.front_mirror.proofs.folding.fold_whole.Given as goal

abbrev pub decreases-loop-frame : goal.decreases-loop-frame
decreases-loop-frame g l = length l.splitter.whole

abbrev pub invariant-loop-frame : goal.invariant-loop-frame
invariant-loop-frame g l = record {
  same : front_folded (known_value l.known) l.splitter.whole ≡ front_folded (known_value l.initial.known) l.initial.splitter.whole;
  rest : l.splitter.rest ≡ l.initial.splitter.rest;
  kinds : map (option_map g.P.Panel.kind_of) l.places ≡ map (option_map g.P.Panel.kind_of) l.initial.places;
  shows : All (λ o. IfSome o (λ p. g.P.Panel.shown p ≡ face (g.P.Panel.kind_of p) (known_value l.initial.known).tree)) l.initial.places
      → All (λ o. IfSome o (λ p. g.P.Panel.shown p ≡ face (g.P.Panel.kind_of p) (known_value l.known).tree)) l.places;
}
