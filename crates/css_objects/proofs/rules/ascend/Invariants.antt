use Rattle.std.proofs.Common.{◌≡◌, drop}
use Rattle.css_objects.specs.Rules.{ascend}
use Rattle.css_objects.proofs.Ascending.{follows}
use Rattle.css_objects.proofs.rules.ascend.Given as goal

abbrev pub invariant-loop-number : goal.invariant-loop-number
invariant-loop-number l = follows l.last (drop l.number-index l.numbers) ≡ ascend l.numbers
