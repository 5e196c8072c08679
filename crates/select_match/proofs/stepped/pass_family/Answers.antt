-- A sibling further.
use Rattle.std.proofs.Common.{List, [], ◌++◌, map, ap, ◌∙◌}
use Rattle.select_match.specs.declared.steps.Around.{Around}
use Rattle.select_match.specs.Steps.{step_seen, chains_in, beside_of}
use Rattle.select_match.proofs.StepLemmas.{passing-fits, passing-step, faces-further}
use Rattle.select_match.proofs.stepped.pass_family.Goals as goal

pub visit-requires-clause-around : goal.visit-requires-clause-around
visit-requires-clause-around c =
    c.as_slice.ensures.value
    ∙ passing-fits c.args.node.now (chains_in [] (map step_seen c.args.steps.now)) c.loop-other.before.items c.pop.new.self.items
    c.in-Some.other c.loop-other.around.items c.loop-other.invariant.passing c.in-Some.ensures.items

pub loop-other-preserved : goal.loop-other-preserved
loop-other-preserved c =
    let chains = chains_in [] (map step_seen c.args.steps.now) in
    record {
      passing = passing-step c.args.node.now chains c.loop-other.before.items c.pop.new.self.items
          c.in-Some.other c.loop-other.around.items c.loop-other.invariant.passing c.in-Some.ensures.items c.visit.new.beside.items
          (c.in_ok-_found.ensures.beside
          ∙ ap (λ (l : List Around). l ++ map (beside_of c.in-Some.other) chains) c.new-beside.ensures.items);
      faces = faces-further c.args.node.now chains c.loop-other.before.items c.pop.new.self.items c.in-Some.other c.loop-other.around.items
          c.loop-other.invariant.passing c.in-Some.ensures.items c.next_places.new.self c.in_ok-places.ensures.next;
    }

pub next_places-requires : goal.next_places-requires
next_places-requires c = c.loop-other.invariant.faces c.pop.new.self.items c.in-Some.other c.in-Some.ensures.items
