-- The child goes from those behind to those before.
use Rattle.select_match.specs.declared.families.Family.{Family}
use Rattle.select_match.proofs.FamilyLemmas.{taken, added, faces-next}
use Rattle.select_match.proofs.families.Family.next_places.Goals as goal

pub returns-clause-next : goal.returns-clause-next
returns-clause-next c =
    let f : Family = record { before = c.add.new.self; after = c.take.new.self } in
    let z = c.args.child.now in
    faces-next f z
    (added f z c.args.self.now.before c.requires.before c.are_few.ensures.earlier c.add.new.self (c.in_ok-add.ensures {u = tt}))
    (taken f z c.args.self.now.after c.requires.after c.take.new.self (c.in_ok-take.ensures {u = tt}))
