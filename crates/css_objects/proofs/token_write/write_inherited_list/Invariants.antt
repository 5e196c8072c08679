use Rattle.std.proofs.Common.{◌≡◌}
use Rattle.css_objects.specs.Rules.{inherited_kind}
use Rattle.cdp_json.proofs.WrittenTokens.{ListBegun}
use Rattle.css_objects.proofs.token_write.write_inherited_list.Given as goal

abbrev pub invariant-loop-entry : goal.invariant-loop-entry
invariant-loop-entry l = record {
  tokens : ListBegun inherited_kind l.fn.out.tokens l.out.tokens l.entries l.entry-index;
  before : l.out.before ≡ l.fn.out.before;
}
