use Rattle.std.proofs.Common.{◌≡◌}
use Rattle.css_objects.specs.Selectors.{selector_kind}
use Rattle.cdp_json.proofs.WrittenTokens.{ListBegun}
use Rattle.css_objects.proofs.token_write.write_selector_list.Given as goal

abbrev pub invariant-loop-selector : goal.invariant-loop-selector
invariant-loop-selector l = record {
  tokens : ListBegun selector_kind l.fn.out.tokens l.out.tokens l.selectors l.selector-index;
  before : l.out.before ≡ l.fn.out.before;
}
