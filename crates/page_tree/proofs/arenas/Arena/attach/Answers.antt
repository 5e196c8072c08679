-- After want of memory what came in goes out again.
use Rattle.node_tree.specs.Nodes.{alone}
use Rattle.node_tree.proofs.ArenaLemmas.{grows-undone}
use Rattle.page_tree.specs.Arenas.{page_slots, slots_in, listed}
use Rattle.page_tree.proofs.ArenaSteps.{listing_of}
use Rattle.page_tree.proofs.arenas.Arena.attach.Goals as goal

pub returns-clause-err : goal.returns-clause-err
returns-clause-err c =
    grows-undone page_slots (slots_in c.args.self.now) (slots_in c.graft.new.self) (slots_in c.remove_all.new.self) (alone c.args.tree)
    (λ x. listed x c.deref.result.now)
    (λ x. listing_of x c.deref.result.now c.list_serials.new.serials.items c.new-serials.result.items c.from_ref.result.now c.args.tree
    c.deref.ensures.value c.new-serials.ensures.items c.from_ref.ensures.value ((c.in_ok-list_serials.ensures {u = tt}).listed x))
    c.requires.fresh ((c.in-Err.ensures {u = tt}).err) c.remove_all.ensures.shrunk
