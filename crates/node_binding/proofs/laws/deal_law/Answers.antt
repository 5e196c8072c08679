-- A deal, in its lemmas.
use Rattle.node_binding.proofs.DealLemmas.{deal-is_deals, deals-open, start-deals, ask-deals, dealt-pieces, shown-low, root-low}
use Rattle.node_binding.proofs.BindLemmas.{opens-deal, starts-deal}
use Rattle.node_binding.proofs.laws.deal_law.Goals as goal

pub returns : goal.returns
returns c = record {
  pieces = deal-is_deals;
  deals = deals-open;
  start = start-deals;
  ask = ask-deals;
  small = dealt-pieces;
  low = shown-low;
  root = root-low;
  binds = opens-deal;
  starts = starts-deal;
}
