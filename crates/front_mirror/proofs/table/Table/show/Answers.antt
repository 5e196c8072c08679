use Rattle.std.proofs.Common.{ℕ, List, ap, subst, ◌∙◌}
use Rattle.front_mirror.specs.Tables.{TableTurned, opened_slot, root_ids}
use Rattle.front_mirror.specs.Shown.{shown_of}
use Rattle.front_mirror.proofs.table.Table.show.Goals as goal

pub returns : goal.returns
returns c =
    record {
      mid = c.open.new.self;
      turned =
          subst (λ (ids : List ℕ). TableTurned c.args.self.now c.open.new.self c.args.id (opened_slot ids))
          (c.in_ok-ids.ensures ∙ ap (λ nodes. root_ids (shown_of nodes)) c.deref.ensures.value) c.open.ensures.slots;
      ids_are = c.open.ensures.ids;
      slots_are = c.in_ok-plant_all.ensures.slots;
      listing = c.in_ok-plant_all.ensures.ids;
    }
