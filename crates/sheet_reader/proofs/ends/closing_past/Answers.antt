use Rattle.std.proofs.Common.{sym, ap, ◌∙◌}
use Rattle.std.proofs.lemmas.Option.{slice_get_within}
use Rattle.sheet_reader.specs.Ends.{closing_of, closing_past}
use Rattle.sheet_reader.proofs.EndForms.{all_closings, told_is, at_bracket, left_within, left_told, none_behind}
use Rattle.sheet_reader.proofs.ends.closing_past.Goals as goal

pub told_at-requires : goal.told_at-requires
told_at-requires c =
    slice_get_within c.args.table.now _ (closing_of c.args.rest.now) (all_closings c.args.table.now c.args.rest.now c.requires)

pub told_at-requires-in-Some : goal.told_at-requires-in-Some
told_at-requires-in-Some c =
    left_within c.args.table.now c.args.bracket c.args.rest.now c.in-Some.left c.requires
    (sym (at_bracket c.args.bracket c.args.rest.now c.told_at.result
    (told_is c.args.table.now c.args.rest.now c.told_at.result c.requires c.told_at.ensures))
    ∙ sym c.at.ensures ∙ c.in-Some.is)

pub returns-in-Some : goal.returns-in-Some
returns-in-Some c =
    left_told c.args.table.now c.args.bracket c.args.rest.now c.in-Some.left c.told_at-in-Some.result c.requires
    (sym (at_bracket c.args.bracket c.args.rest.now c.told_at.result
    (told_is c.args.table.now c.args.rest.now c.told_at.result c.requires c.told_at.ensures))
    ∙ sym c.at.ensures ∙ c.in-Some.is) c.told_at-in-Some.ensures

pub returns-in-None : goal.returns-in-None
returns-in-None c =
    c.no_closing.ensures
    ∙ sym (ap closing_past (none_behind c.args.bracket c.args.rest.now
    (sym (at_bracket c.args.bracket c.args.rest.now c.told_at.result
    (told_is c.args.table.now c.args.rest.now c.told_at.result c.requires c.told_at.ensures))
    ∙ sym c.at.ensures ∙ c.in-None.is)))
