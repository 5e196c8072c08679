use Rattle.std.proofs.Common.{rules, sym, ◌∙◌}
use Rattle.front_mirror.specs.Known.{known_value}
use Rattle.front_mirror.specs.Edits.{edit_told, edit_change}
use Rattle.front_mirror.proofs.EditLemmas.{edit_kept, edit_ready}
use Rattle.front_mirror.proofs.EditTurns.{ready_known, ready_suits, ready_turns}
use Rattle.front_mirror.proofs.known.Known.take_edit.Goals as goal

pub told-told-requires-clause-known : goal.told-told-requires-clause-known
told-told-requires-clause-known c =
    ready_known c.args.self.now.mirror c.args.id (edit_change c.args.edit)
    (edit_ready c.args.self.now.mirror c.args.id c.args.edit c.valid.ensures c.requires (sym (c.in_ok-kind.ensures {u = tt})
    ∙ c.in_default.is))

pub told-told-requires-clause-suits : goal.told-told-requires-clause-suits
told-told-requires-clause-suits c =
    ready_suits c.args.self.now.mirror c.args.id (edit_change c.args.edit)
    (edit_ready c.args.self.now.mirror c.args.id c.args.edit c.valid.ensures c.requires (sym (c.in_ok-kind.ensures {u = tt})
    ∙ c.in_default.is))

pub returns : goal.returns
returns c = (
  edit_kept (known_value c.args.self.now) (edit_told c.args.id c.args.edit) _ _ _ (c.in_ok-kind.ensures {u = tt}) c.in_default.is
      (c.in_ok-change.ensures {u = tt}) (search rules),
  ready_turns c.args.self.now.mirror c.args.id (edit_change c.args.edit)
      (edit_ready c.args.self.now.mirror c.args.id c.args.edit c.valid.ensures c.requires (sym (c.in_ok-kind.ensures {u = tt})
      ∙ c.in_default.is))
      c.told-told.result c.change.new.self c.told-told.ensures (c.in_ok-change.ensures {u = tt}),
)
