-- The place of the child, and how many nodes leave with it.
use Rattle.front_mirror.proofs.EditTurns.{child_known, removal_is}
use Rattle.front_mirror.proofs.mirror.Mirror.removal.Goals as goal

pub size-known-requires : goal.size-known-requires
size-known-requires c = record {
  known = child_known c.args.self.now c.valid.ensures c.args.id c.args.child c.requires.known
      c.requires.child;
}

pub returns : goal.returns
returns c = removal_is c.args.self.now c.valid.ensures c.args.id c.args.child c.requires.known c.requires.child c.at.result.now.children
    c.place-place.result c.size-known.result c.at.ensures.children c.place-place.ensures c.size-known.ensures
