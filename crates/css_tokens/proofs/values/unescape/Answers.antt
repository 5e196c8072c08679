use Rattle.std.proofs.Common.{sym, ◌∙◌}
use Rattle.std.specs.String.{string_bytes}
use Rattle.css_tokens.proofs.Unescaping.{all_said, same_code}
use Rattle.css_tokens.proofs.values.unescape.Goals as goal

pub returns : goal.returns
returns c = all_said (string_bytes c.loop-rest.out) c.loop-rest.rest.now _
    (same_code _ 0 (sym c.is_empty.ensures ∙ c.loop-rest-test.false)) c.loop-rest.invariant.1
