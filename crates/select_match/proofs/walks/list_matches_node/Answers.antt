-- One selector after the other.
use Rattle.std.proofs.Common.{◌+◌, Bool, ◌||◌, drop, ap, sym, ◌∙◌}
use Rattle.selectors.specs.Forms.{SelectorForm, selector_seen}
use Rattle.selectors.specs.Lists.{list_seen}
use Rattle.select_match.specs.Matches.{selector_matches, list_matches}
use Rattle.select_match.proofs.WalkLemmas.{any-at}
use Rattle.select_match.proofs.walks.list_matches_node.Goals as goal

pub returns-then-matches_node : goal.returns-then-matches_node
returns-then-matches_node c =
    let step = any-at (λ (s : SelectorForm). selector_matches s c.args.node.now) (list_seen c.args.l.now) c.loop-i.i
    (selector_seen c.at.result.now) c.at.ensures in
    let rest = list_matches (drop (c.loop-i.i + 1) (list_seen c.args.l.now)) c.args.node.now in
    sym (ap (λ (b : Bool). b || rest) (sym c.matches_node.ensures ∙ c.if-matches_node.true)) ∙ sym step ∙ c.loop-i.invariant

pub loop-i-preserved : goal.loop-i-preserved
loop-i-preserved c =
    let step = any-at (λ (s : SelectorForm). selector_matches s c.args.node.now) (list_seen c.args.l.now) c.loop-i.i
    (selector_seen c.at.result.now) c.at.ensures in
    let rest = list_matches (drop (c.loop-i.i + 1) (list_seen c.args.l.now)) c.args.node.now in
    sym (ap (λ (b : Bool). b || rest) (sym c.matches_node.ensures ∙ c.if-matches_node.false)) ∙ sym step ∙ c.loop-i.invariant
