-- The compounds of selectors, one after the other, and where the chains that end with them hold around a node.
use Rattle.std.specs.Prelude.{ℕ, Bool, true, false, not, cond, ◌||◌, ◌&&◌, ◌==◌, List, [], ◌∷◌, ◌++◌, map, take, length, Option, Some, None}
use Rattle.std.specs.List.{list_any, list_all}
use Rattle.selectors.specs.declared.selector.Joint.{Joint}
use Rattle.selectors.specs.declared.selector.Joint.TheVariants.{Descendant, Child, Next, Later}
use Rattle.selectors.specs.Forms.{CompoundForm, SelectorForm, compound_seen}
use Rattle.page_tree.specs.Zippers.{Zipper, ancestors, earlier}
use Rattle.select_match.specs.declared.steps.Step.{Step}
use Rattle.select_match.specs.declared.steps.Around.{Around}
use Rattle.select_match.specs.Elements.{elements}
use Rattle.select_match.specs.Matches.{chain_holds}

-- a compound, and whether it is the last of its selector
pub record StepForm : Type 0 where
  pub compound : CompoundForm
  pub ends : Bool

-- a step as the code has it, without where it lies in memory
abbrev pub step_seen : Step → StepForm
step_seen s = record { compound = compound_seen s.compound.now; ends = s.ends }

-- the steps of a chain of compounds, from left to right
abbrev pub steps_of_chain : List CompoundForm → List StepForm
steps_of_chain [] = []
steps_of_chain (c ∷ cs) = record { compound = c; ends = length cs == 0 } ∷ steps_of_chain cs

-- the steps of a selector; one with a pseudo-element matches nothing
abbrev pub steps_of_selector : SelectorForm → List StepForm
steps_of_selector s = cond s.pseudo_element [] (steps_of_chain s.compounds)

-- the steps of a list of selectors
abbrev pub steps_of : List SelectorForm → List StepForm
steps_of [] = []
steps_of (s ∷ l) = steps_of_selector s ++ steps_of l

-- a selector has a compound
abbrev pub is_stepped : SelectorForm → Bool
is_stepped s = not (length s.compounds == 0)

-- each selector of a list has one
abbrev pub all_stepped : List SelectorForm → Bool
all_stepped l = list_all is_stepped l

-- what stands to the left of the next step, from right to left: nothing after the last step of a selector
abbrev pub left_after : List CompoundForm → StepForm → List CompoundForm
left_after left s = cond s.ends [] (s.compound ∷ left)

-- the chains that end with each step, from right to left
abbrev pub chains_in : List CompoundForm → List StepForm → List (List CompoundForm)
chains_in left [] = []
chains_in left (s ∷ steps) = (s.compound ∷ left) ∷ chains_in (left_after left s) steps

-- the chain that ends with some last step holds
abbrev pub any_ends : List CompoundForm → List StepForm → Zipper → Bool
any_ends left [] z = false
any_ends left (s ∷ steps) z = (s.ends && chain_holds (s.compound ∷ left) z) || any_ends (left_after left s) steps z

-- where around a node a chain holds
abbrev pub around_of : Zipper → List CompoundForm → Around
around_of z chain = record {
  above = list_any (chain_holds chain) (ancestors z);
  parent = list_any (chain_holds chain) (take 1 (ancestors z));
  previous = list_any (chain_holds chain) (take 1 (elements (earlier z)));
  earlier = list_any (chain_holds chain) (earlier z);
}

-- where around a node a chain holds, where these siblings stand before the node, the nearest first
abbrev pub around_by : Zipper → List Zipper → List CompoundForm → Around
around_by z before chain = record {
  above = list_any (chain_holds chain) (ancestors z);
  parent = list_any (chain_holds chain) (take 1 (ancestors z));
  previous = list_any (chain_holds chain) (take 1 (elements before));
  earlier = list_any (chain_holds chain) before;
}

-- nowhere
abbrev pub nothing : Around
nothing = record { above = false; parent = false; previous = false; earlier = false }

-- where around a node's next sibling a chain holds, if it has one
abbrev pub beside_of : Zipper → List CompoundForm → Around
beside_of z chain = record {
  above = list_any (chain_holds chain) (ancestors z);
  parent = list_any (chain_holds chain) (take 1 (ancestors z));
  previous = list_any (chain_holds chain) (take 1 (elements (z ∷ earlier z)));
  earlier = list_any (chain_holds chain) (z ∷ earlier z);
}

-- where around a node's first child a chain holds, if it has one
abbrev pub inside_of : Zipper → List CompoundForm → Around
inside_of z chain = record {
  above = list_any (chain_holds chain) (z ∷ ancestors z);
  parent = list_any (chain_holds chain) (z ∷ []);
  previous = false;
  earlier = false;
}

-- what is around the next sibling, where a test holds or does not hold at the node
abbrev pub passed : Around → Bool → Bool → Around
passed a holds element = record {
  above = a.above;
  parent = a.parent;
  previous = cond element holds a.previous;
  earlier = holds || a.earlier;
}

-- what is around the first child
abbrev pub entered : Around → Bool → Around
entered a holds = record { above = holds || a.above; parent = holds; previous = false; earlier = false }

-- the combinator leads to a node where the test holds
abbrev pub leads_by : Joint → Around → Bool
leads_by Descendant a = a.above
leads_by Child a = a.parent
leads_by Next a = a.previous
leads_by Later a = a.earlier

-- the combinator leads to a node where the test holds, or nothing is asked on the left
abbrev pub leads : Joint → Option Around → Bool
leads joint None = true
leads joint (Some a) = leads_by joint a

-- what is known of the chain on the left
abbrev pub left_of : Zipper → List CompoundForm → Option Around
left_of z [] = None
left_of z (c ∷ cs) = Some (around_of z (c ∷ cs))
