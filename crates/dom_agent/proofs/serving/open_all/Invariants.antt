use Rattle.dom_agent.proofs.ServingLemmas.{Opens}
use Rattle.std.proofs.Common.{map, drop}
use Rattle.dom_agent.specs.Openings.{opening_of}
use Rattle.dom_agent.proofs.serving.open_all.Given as goal

abbrev pub invariant-loop-opening : goal.invariant-loop-opening
invariant-loop-opening l = Opens (map opening_of (drop l.opening-index l.openings)) l.binding l.out.items
    (map opening_of l.initial.openings) l.initial.binding l.initial.out.items
