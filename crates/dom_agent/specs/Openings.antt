-- Openings, as code lists them.
use Rattle.node_tree.specs.Labels.{holds}
use Rattle.std.specs.Prelude.{◌≡◌, true}
pub use Rattle.node_binding.specs.Pieces.{opening_of}
use Rattle.dom_agent.specs.Requests.{Opening}

-- only a container is opened
abbrev pub IsOfContainer : Opening → Type 0
IsOfContainer x = holds x.node.row.label.kind ≡ true
