use Rattle.std.proofs.Common.{◌≡◌}
use Rattle.css_objects.specs.Rules.{match_kind}
use Rattle.cdp_json.proofs.WrittenTokens.{ListBegun}
use Rattle.css_objects.proofs.token_write.write_match_list.Given as goal

abbrev pub invariant-loop-found : goal.invariant-loop-found
invariant-loop-found l = record {
  tokens : ListBegun match_kind l.fn.out.tokens l.out.tokens l.matches l.found-index;
  before : l.out.before ≡ l.fn.out.before;
}
