-- Each panel that is written is the next, and at the end none is left.
use Rattle.std.proofs.Common.{◌∷◌, ◌++◌, ◌<◌, codes, length, arith}
use Rattle.inspect_world.specs.PanelTexts.{panels_text}
use Rattle.replay_parts.proofs.PanelLineLemmas.{panels-turn, panels-end}
use Rattle.replay_parts.proofs.panel_lines.panels_text.Goals as goal

pub loop-before-preserved : goal.loop-before-preserved
loop-before-preserved g c =
    let inside : c.loop-before.before < length c.args.front.now.panels =
    omega (arith, c.loop-before-test.true, c.panel_places-before-end.ensures) in
    λ alive. panels-turn c.args.front.now.value.tree c.loop-before.text.items c.write_panel.new.text.items
    (codes "# panels" ++ 10 ∷ panels_text c.args.front.now.panels c.args.front.now.value.tree) c.loop-before.before
    c.args.front.now.panels inside (c.in_ok-write_panel.ensures alive) (c.loop-before.invariant alive)

pub returns : goal.returns
returns g c = λ alive.
    panels-end c.args.front.now.value.tree c.loop-before.text.items
    (codes "# panels" ++ 10 ∷ panels_text c.args.front.now.panels c.args.front.now.value.tree) c.loop-before.before
    c.args.front.now.panels (omega (arith, c.loop-before-test.false, c.panel_places-before-end.ensures)) (c.loop-before.invariant alive)
