use Rattle.std.proofs.Common.{ap, ◌∙◌, w64}
use Rattle.std.proofs.lemmas.Int.{to_z-of_z}
use Rattle.node_tree.specs.Nodes.{alone}
use Rattle.node_binding.specs.Openings.{levels_of, is_spent}
use Rattle.shown_pages.specs.ShownPages.{shown_page}
use Rattle.node_binding.specs.Bindings.{BindingValue, started, in_mode}
use Rattle.node_binding.proofs.StartLemmas.{levels-left}
use Rattle.node_binding.proofs.binding.Binding.start.Goals as goal

pub begin-requires-clause-left : goal.begin-requires-clause-left
begin-requires-clause-left c =
    ap is_spent (c.levels_of.ensures ∙ ap levels_of (to_z-of_z w64 c.args.depth c.ranges.depth))
    ∙ levels-left c.args.depth c.requires.depth

pub returns : goal.returns
returns c =
    c.in_ok-begin.ensures
    ∙ ap (λ (b : BindingValue). started c.levels_of.result (alone (shown_page b.mode c.args.page.now).tree) b) c.change_mode.ensures
    ∙ ap (λ d. started d (alone (shown_page c.args.mode c.args.page.now).tree) (in_mode c.args.mode c.args.self.now))
    (c.levels_of.ensures ∙ ap levels_of (to_z-of_z w64 c.args.depth c.ranges.depth))
