-- The child that leaves is known.
use Rattle.std.proofs.Common.{◌≡◌, true, subst}
use Rattle.client_views.specs.Moves.{suits_change}
use Rattle.front_mirror.specs.declared.edits.NodeChange.{NodeChange}
use Rattle.front_mirror.specs.Edits.{edit_change}
use Rattle.front_mirror.specs.Shown.{known_at}
use Rattle.front_mirror.proofs.EditTurns.{child_known}
use Rattle.front_mirror.proofs.RankedIds.{child_there}
use Rattle.front_mirror.proofs.mirror.Mirror.span_of.Goals as goal

pub rank-requires : goal.rank-requires
rank-requires c = record {
  known = child_known c.args.self.now c.valid.ensures c.args.id c.in-Remove.child c.requires.known
      (child_there (known_at c.args.id c.args.self.now) c.in-Remove.child
      (subst (λ (e : NodeChange). suits_change (edit_change e) (known_at c.args.id c.args.self.now) ≡ true) c.in-Remove.is
      c.requires.suits));
}

pub size-requires : goal.size-requires
size-requires c = record {
  known = child_known c.args.self.now c.valid.ensures c.args.id c.in-Remove.child c.requires.known
      (child_there (known_at c.args.id c.args.self.now) c.in-Remove.child
      (subst (λ (e : NodeChange). suits_change (edit_change e) (known_at c.args.id c.args.self.now) ≡ true) c.in-Remove.is
      c.requires.suits));
}
