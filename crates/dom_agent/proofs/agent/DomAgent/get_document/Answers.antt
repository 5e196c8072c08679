use Rattle.std.proofs.Common.{unwrap_or, pos, ap, ◌∙◌}
use Rattle.node_binding.specs.Openings.{is_spent}
use Rattle.node_binding.proofs.StartLemmas.{levels-left}
use Rattle.dom_agent.proofs.agent.DomAgent.get_document.Goals as goal

pub open_document-requires-clause-left : goal.open_document-requires-clause-left
open_document-requires-clause-left c =
    ap is_spent c.levels_asked.ensures ∙ levels-left (unwrap_or c.args.depth (pos 1)) c.requires.depth
