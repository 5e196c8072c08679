use Rattle.std.proofs.Common.{◌∷◌, ap}
use Rattle.page_forms.specs.NodeForms.{next_token, attribute_field}
use Rattle.page_forms.proofs.SpeltObjects.{field_moved}
use Rattle.page_forms.proofs.row_scan.attributes_alone.Goals as goal

pub returns-in-End : goal.returns-in-End
returns-in-End c =
    field_moved attribute_field c.in_ok-attributes.attributes c.in_ok-first.ensures
    (ap (λ n. next_token n ∷ c.attributes_at.new.reader) c.in-End.is) c.in_ok-attributes.ensures
