use Rattle.std.proofs.Common.{◌≡◌}
use Rattle.css_objects.specs.Styles.{property_kind}
use Rattle.cdp_json.proofs.WrittenTokens.{ListBegun}
use Rattle.css_objects.proofs.token_write.write_property_list.Given as goal

abbrev pub invariant-loop-property : goal.invariant-loop-property
invariant-loop-property l = record {
  tokens : ListBegun property_kind l.fn.out.tokens l.out.tokens l.properties l.property-index;
  before : l.out.before ≡ l.fn.out.before;
}
