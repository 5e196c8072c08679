use Rattle.std.proofs.Common.{◌≡◌, map, take}
use Rattle.selectors.specs.Forms.{compound_seen}
use Rattle.selectors.specs.Weight.{ids, classes, types, in_compounds, spec_of}
use Rattle.selectors.proofs.weight.compounds_weight.Given as goal

abbrev pub invariant-loop-compound : goal.invariant-loop-compound
invariant-loop-compound l = let cs = map compound_seen (take l.compound-index l.compounds) in l.total
    ≡ spec_of (in_compounds ids cs) (in_compounds classes cs) (in_compounds types cs)
