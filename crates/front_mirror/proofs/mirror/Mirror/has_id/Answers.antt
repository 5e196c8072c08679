use Rattle.std.proofs.Common.{sym, ◌∙◌}
use Rattle.node_tree.specs.Seen.{seen_id}
use Rattle.node_tree.proofs.KeyLemmas.{has-find}
use Rattle.front_mirror.proofs.mirror.Mirror.has_id.Goals as goal

pub returns : goal.returns
returns c = c.known.ensures ∙ sym (has-find seen_id c.args.id c.args.self.now)
