use Rattle.page_tree.proofs.RelationLemmas.{child-parent, parent-child, below-ancestor, ancestor-below, later-earlier, earlier-later}
use Rattle.page_tree.proofs.relations.relation_law.Goals as goal

pub returns : goal.returns
returns c = record {
  child = child-parent;
  parent = parent-child;
  below = below-ancestor;
  ancestor = ancestor-below;
  later = later-earlier;
  earlier = earlier-later;
}
