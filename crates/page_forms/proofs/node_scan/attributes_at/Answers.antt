use Rattle.std.proofs.Common.{◌∷◌, ap}
use Rattle.page_forms.specs.NodeForms.{next_token, attribute_field}
use Rattle.page_forms.proofs.SpeltObjects.{field_there}
use Rattle.page_forms.proofs.node_scan.attributes_at.Goals as goal

pub returns-in_ok-behind-in-Attributes : goal.returns-in_ok-behind-in-Attributes
returns-in_ok-behind-in-Attributes c =
    field_there attribute_field (next_token c.args.next) c.args.reader.now c.take_begin_array.new.reader c.scan_attributes.new.reader
    (next_token c.in_ok-behind-in-Attributes.behind ∷ c.take_next.new.reader)
    c.in_ok-attributes-in-Attributes.attributes
    (ap next_token c.in-Attributes.is) c.in_ok-take_begin_array-in-Attributes.ensures c.in_ok-attributes-in-Attributes.ensures
    c.in_ok-behind-in-Attributes.ensures
