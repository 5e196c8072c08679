-- The lines one after the other.
use Rattle.std.proofs.Common.{ℕ, List, ◌++◌, ap, ◌∙◌}
use Rattle.std.specs.List.{concat}
use Rattle.node_tree.specs.Keys.{level_of}
use Rattle.node_tree.specs.Seen.{seen_id}
use Rattle.front_mirror.specs.Shown.{known_at}
use Rattle.front_mirror.specs.Walks.{walk_in}
use Rattle.panels.specs.Lines.{outline_line}
use Rattle.panels.proofs.OutlineLemmas.{known_low, same_level}
use Rattle.panels.proofs.outline.lines_of.Goals as goal

pub push_node-requires-clause-low : goal.push_node-requires-clause-low
push_node-requires-clause-low c =
    known_low c.args.id c.level.result c.args.mirror.now c.valid.ensures c.requires.known c.level.ensures.level

pub returns : goal.returns
returns c = λ level at.
    let node = known_at c.args.id c.args.mirror.now in
    c.in_ok-push_lines.ensures {u = tt} ∙ (λ i. c.new-text.ensures.bytes i ++ concat (c.as_slice.ensures.value i))
    ∙ ap (λ (l : List (List ℕ)). concat l)
    (c.in_ok-push_node.ensures {u = tt} ∙ ap (λ (l : List (List ℕ)). l ++ walk_in outline_line c.level.result node)
    c.new-lines.ensures.items)
    ∙ ap (λ (l : ℕ). concat (walk_in outline_line l node))
    (same_level (level_of seen_id c.args.id 0 c.args.mirror.now) c.level.result level c.level.ensures.level at)
