use Rattle.std.proofs.Common.{length, sym, ap, ◌∙◌}
use Rattle.std.proofs.lemmas.Option.{slice_get_within}
use Rattle.sheet_reader.specs.declared.ends.Closing.{Closing}
use Rattle.sheet_reader.specs.Ends.{closing_of, closing_with}
use Rattle.sheet_reader.proofs.EndForms.{all_closings, told_is, before_opener, before_closer, before_plain}
use Rattle.sheet_reader.proofs.ends.closing_before.Goals as goal

pub returns-in-Some : goal.returns-in-Some
returns-in-Some c =
    c.closing_past.ensures
    ∙ before_opener c.args.piece c.args.rest.now c.in-Some.bracket (sym c.opened_by.ensures ∙ c.in-Some.is)

pub told_at-next-requires : goal.told_at-next-requires
told_at-next-requires c =
    slice_get_within c.args.table.now _ (closing_of c.args.rest.now) (all_closings c.args.table.now c.args.rest.now c.requires)

pub returns-in-Some-closed_by : goal.returns-in-Some-closed_by
returns-in-Some-closed_by c =
    c.with.ensures
    ∙ ap (λ (x : Closing). closing_with x c.in-Some-closed_by.bracket (length c.args.rest.now))
    (told_is c.args.table.now c.args.rest.now c.told_at-next.result c.requires c.told_at-next.ensures)
    ∙ before_closer c.args.piece c.args.rest.now c.in-Some-closed_by.bracket (sym c.opened_by.ensures ∙ c.in_default.is)
    (sym c.closed_by.ensures ∙ c.in-Some-closed_by.is)

pub returns-in-None : goal.returns-in-None
returns-in-None c =
    told_is c.args.table.now c.args.rest.now c.told_at-next.result c.requires c.told_at-next.ensures
    ∙ before_plain c.args.piece c.args.rest.now (sym c.opened_by.ensures ∙ c.in_default.is) (sym c.closed_by.ensures ∙ c.in-None.is)
