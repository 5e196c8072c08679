-- The serials stay those of the slots.
use Rattle.std.proofs.Common.{[], ◌∷◌, ◌++◌, refl, ap, ◌∙◌}
use Rattle.node_tree.specs.Seen.{seen_id}
use Rattle.node_tree.specs.Levels.{most_levels}
use Rattle.client_views.specs.Views.{keys}
use Rattle.front_mirror.specs.Tables.{without_child_id, without_slots, table_slots, table_trees}
use Rattle.front_mirror.proofs.TurnLemmas.{listed_turned}
use Rattle.front_mirror.proofs.table.Table.cut.Goals as goal

pub remove_all-requires : goal.remove_all-requires
remove_all-requires c =
    listed_turned c.args.self.now c.remove_child.new.self c.args.id (without_child_id c.args.child) c.requires.listed c.requires.there
    (λ s. refl) c.remove_child.ensures.slots c.remove_child.ensures.ids

pub returns : goal.returns
returns c =
    record {
      mid = c.remove_child.new.self;
      turned = c.remove_child.ensures.slots;
      ids_are = c.remove_child.ensures.ids;
      files = c.remove_all.ensures.listed;
      slots_are =
          c.remove_all.ensures.slots
          ∙ ap (λ ids. without_slots ids (table_slots c.remove_child.new.self))
          (c.deref.ensures.value ∙ c.in_ok-list_one.ensures
          ∙ ap (λ ids. ids ++ keys seen_id (table_trees c.args.self.now most_levels (c.args.child ∷ []))) c.new-ids.ensures.items);
    }
