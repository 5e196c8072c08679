use Rattle.std.proofs.Common.{refl, subst}
use Rattle.std.specs.Str.{IsUtf8}
use Rattle.sheet_reader.proofs.OpenedForms.{opened_is, opened_stored}
use Rattle.sheet_reader.proofs.opened.OpenSheet.new.Goals as goal

pub invariant_of-result : goal.invariant_of-result
invariant_of-result c =
    opened_stored c.args.entry c.args.entry.text c.new.result c.requires (subst IsUtf8 c.as_str-text.ensures c.as_str-text.utf8) refl
    c.new.ensures

pub returns : goal.returns
returns c = opened_is c.args.entry c.args.entry.text c.new.result refl c.new.ensures
