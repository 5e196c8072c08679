use Rattle.std.proofs.Common.{◌≡◌, length, arith}
use Rattle.dom_objects.proofs.ScannedNodes.{shown_width}
use Rattle.dom_objects.proofs.scan.count_of.Goals as goal

pub returns-in-Some : goal.returns-in-Some
returns-in-Some c =
    let n : c.len.result ≡ length c.in-Some.trees.items = omega (arith, c.in-Some.trees.ok, c.len.ensures) in
    shown_width c.args.children.now c.in-Some.trees c.len.result c.in-Some.is n
