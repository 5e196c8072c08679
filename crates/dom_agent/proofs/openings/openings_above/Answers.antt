-- What is climbed to, turned.
use Rattle.std.proofs.Common.{◌≡◌, Bool, true, false, cond, Option, Some, None, sym, ap, ◌∙◌, map, List, ◌++◌, arith}
use Rattle.node_tree.specs.Nodes.{alone}
use Rattle.node_tree.specs.Keys.{has}
use Rattle.node_tree.proofs.KeyLemmas.{has-find}
use Rattle.page_tree.specs.Pages.{row_serial}
use Rattle.page_tree.specs.Zippers.{ancestors, zipper_at}
use Rattle.shown_pages.specs.ShownPages.{shown_page}
use Rattle.shown_pages.proofs.ShownTrees.{shown-valid}
use Rattle.node_binding.specs.Bindings.{opened_in}
use Rattle.dom_agent.specs.Requests.{Opening, pushing}
use Rattle.dom_agent.specs.Openings.{opening_of}
use Rattle.dom_agent.specs.Climbs.{up_openings}
use Rattle.dom_agent.proofs.OpeningLemmas.{climbed_all, listed}
use Rattle.dom_agent.proofs.ClimbLemmas.{climbed-turned}
use Rattle.dom_agent.proofs.openings.openings_above.Goals as goal

pub returns : goal.returns
returns c =
    let tree = (shown_page c.args.mode c.args.page.now).tree in
    let o = opened_in c.args.binding.now in
    let all : List Opening = pushing (opened_in c.args.binding.now) c.args.serial (alone (shown_page c.args.mode c.args.page.now).tree) in
    let there : has row_serial c.args.serial (alone (shown_page c.args.mode c.args.page.now).tree) ≡ true =
    has-find row_serial c.args.serial (alone tree) ∙ sym c.has_shown.ensures ∙ c.if-not-has_shown.false in
    listed _ _ all there
    (climbed_all opening_of _ _ all
    ((c.in_ok-climb.ensures {u = tt})
    ∙ ap (λ l. map opening_of l ++ up_openings (opened_in c.args.binding.now)
    (ancestors (zipper_at c.args.serial (shown_page c.args.mode c.args.page.now).tree)))
    c.new-openings.ensures.items
    ∙ climbed-turned o c.args.serial tree there
    (omega (arith, (shown-valid c.args.mode c.args.page.now c.valid.ensures).distinct c.args.serial))) c.reverse.ensures.items)

pub returns-then-not-has_shown : goal.returns-then-not-has_shown
returns-then-not-has_shown c =
    let all : List Opening = pushing (opened_in c.args.binding.now) c.args.serial (alone (shown_page c.args.mode c.args.page.now).tree) in
    let absent : has row_serial c.args.serial (alone (shown_page c.args.mode c.args.page.now).tree) ≡ false =
    has-find row_serial c.args.serial (alone (shown_page c.args.mode c.args.page.now).tree)
    ∙ sym c.has_shown.ensures ∙ c.if-not-has_shown.true in
    sym (ap (λ (b : Bool). cond {A = Option (List Opening)} b (Some all) None) absent)
