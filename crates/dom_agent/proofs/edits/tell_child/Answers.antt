use Rattle.std.proofs.Common.{◌≡◌, ℕ, [], ◌∷◌, ◌++◌, None, sym, ap, ◌∙◌}
use Rattle.node_tree.specs.Nodes.{Branch}
use Rattle.page_tree.specs.Pages.{PageRow, node_at, parent_at}
use Rattle.page_tree.specs.Edits.{children_at}
use Rattle.page_tree.proofs.EditLemmas.{serial-live}
use Rattle.shown_pages.specs.declared.modes.Mode.{Mode}
use Rattle.shown_pages.specs.ShownPages.{shown_page}
use Rattle.shown_pages.specs.Walks.{serial_before}
use Rattle.node_binding.specs.Bindings.{BindingValue, with_bound}
use Rattle.client_views.specs.Moves.{frames_of_moves}
use Rattle.dom_agent.specs.Keepers.{binding_keeper}
use Rattle.dom_agent.specs.Edits.{Edited, family, told_count, insertion}
use Rattle.dom_agent.proofs.EditCode.{came_shut, came_open, inserted_sent}
use Rattle.dom_agent.proofs.edits.tell_child.Goals as goal

pub returns-then-not-is_opened-clause-known : goal.returns-then-not-is_opened-clause-known
returns-then-not-is_opened-clause-known c =
    let b = c.args.binding.now in
    let tree : Branch PageRow = (shown_page b.mode c.args.page.now).tree in
    λ n. ap (λ (d : Edited BindingValue). d.state)
    (sym (came_shut n b c.args.parent (node_at c.args.serial tree) (children_at c.args.parent tree)
    (sym (c.if-not-is_opened.ensures {u = tt}))))

pub returns-then-not-is_opened-clause-sent : goal.returns-then-not-is_opened-clause-sent
returns-then-not-is_opened-clause-sent c =
    let b = c.args.binding.now in
    let tree : Branch PageRow = (shown_page b.mode c.args.page.now).tree in
    let above_is : c.at-above.result ≡ node_at c.args.parent (shown_page c.args.binding.now.mode c.args.page.now).tree =
    c.at-above.ensures ∙ ap (λ (m : Mode). node_at c.args.parent (shown_page m c.args.page.now).tree) c.mode-mode.ensures in
    λ n. c.in_ok-tell.ensures {u = tt}
    ∙ ap (λ l. c.args.out.now.items ++ l)
    (c.count_of_known-event.ensures n
    ∙ ap (λ (x : Branch PageRow). frames_of_moves (told_count (binding_keeper n) x.row.serial x.children b)) above_is
    ∙ ap (λ (s : ℕ). frames_of_moves (told_count (binding_keeper n) s (children_at c.args.parent tree) b))
    (serial-live c.args.parent tree c.requires.parent)
    ∙ ap (λ (d : Edited BindingValue). frames_of_moves d.moves)
    (sym (came_shut n b c.args.parent (node_at c.args.serial tree) (children_at c.args.parent tree)
    (sym (c.if-not-is_opened.ensures {u = tt})))))

pub tell_came-requires : goal.tell_came-requires
tell_came-requires c =
    let tree : Branch PageRow = (shown_page c.args.binding.now.mode c.args.page.now).tree in
    let above_is : c.at-above.result ≡ node_at c.args.parent (shown_page c.args.binding.now.mode c.args.page.now).tree =
    c.at-above.ensures ∙ ap (λ (m : Mode). node_at c.args.parent (shown_page m c.args.page.now).tree) c.mode-mode.ensures in
    let node_is : c.at-node.result ≡ node_at c.args.serial (shown_page c.args.binding.now.mode c.args.page.now).tree =
    c.at-node.ensures ∙ ap (λ (m : Mode). node_at c.args.serial (shown_page m c.args.page.now).tree) c.mode-mode.ensures in
    let serial_is : c.at-node.result.row.serial ≡ c.args.serial =
    ap (λ (x : Branch PageRow). x.row.serial) node_is ∙ serial-live c.args.serial tree c.requires.child in
    c.shown_before-before.ensures
    ∙ ap (λ (m : Mode). serial_before None c.args.serial
    (children_at (parent_at c.args.serial (shown_page m c.args.page.now).tree) (shown_page m c.args.page.now).tree)) c.mode-mode.ensures
    ∙ ap (λ (p : ℕ). serial_before None c.args.serial (children_at p tree)) c.requires.below
    ∙ sym (λ i. serial_before None (serial_is i) (above_is i).children)

pub returns-clause-known : goal.returns-clause-known
returns-clause-known c =
    let b = c.args.binding.now in
    let tree : Branch PageRow = (shown_page b.mode c.args.page.now).tree in
    λ n. c.in_ok-bind_child.ensures.known
    ∙ ap (λ (s : ℕ). with_bound s b) (sym (serial-live c.args.serial tree c.requires.child))
    ∙ ap (λ (d : Edited BindingValue). d.state)
    (sym (came_open n b c.args.parent (node_at c.args.serial tree) (children_at c.args.parent tree)
    (sym (c.if-not-is_opened.ensures {u = tt}))))

pub returns-clause-sent : goal.returns-clause-sent
returns-clause-sent c =
    let b = c.args.binding.now in
    let tree : Branch PageRow = (shown_page b.mode c.args.page.now).tree in
    let above_is : c.at-above.result ≡ node_at c.args.parent (shown_page c.args.binding.now.mode c.args.page.now).tree =
    c.at-above.ensures ∙ ap (λ (m : Mode). node_at c.args.parent (shown_page m c.args.page.now).tree) c.mode-mode.ensures in
    let node_is : c.at-node.result ≡ node_at c.args.serial (shown_page c.args.binding.now.mode c.args.page.now).tree =
    c.at-node.ensures ∙ ap (λ (m : Mode). node_at c.args.serial (shown_page m c.args.page.now).tree) c.mode-mode.ensures in
    λ n. inserted_sent n b c.bind_child.new.self c.args.parent c.args.serial (node_at c.args.serial tree) c.at-node.result
    (children_at c.args.parent tree) c.at-above.result.children c.args.out.now.items _ node_is
    (ap (λ (x : Branch PageRow). x.children) above_is)
    (sym (serial-live c.args.serial tree c.requires.child) ∙ ap (λ (x : Branch PageRow). x.row.serial) (sym node_is))
    c.in_ok-bind_child.ensures.known (sym (c.if-not-is_opened.ensures {u = tt}))
    (c.in_ok-tell_came.ensures n
    ∙ ap (λ (s : ℕ). c.args.out.now.items ++ frames_of_moves
    (insertion (binding_keeper n) (family s c.at-node.result c.at-above.result.children) c.bind_child.new.self ∷ []))
    (ap (λ (x : Branch PageRow). x.row.serial) above_is ∙ serial-live c.args.parent tree c.requires.parent))
