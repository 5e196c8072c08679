use Rattle.std.proofs.Common.{rules, ◌≡◌, ◌∷◌, codes, ap, ap₂, ◌∙◌}
use Rattle.json.specs.Token.{begin_array, key}
use Rattle.page_forms.specs.PageForms.{nested, in_rows}
use Rattle.page_forms.proofs.page_scan.scan_first_field.Goals as goal

pub returns-in_ok-nodes : goal.returns-in_ok-nodes
returns-in_ok-nodes c =
    let is : c.in_ok-name.name.now ≡ codes "document" = search rules in
    nested c.take_begin_array.new.reader
    (c.in_ok-name.ensures ∙ ap₂ (λ n ts. key n ∷ ts) is c.in_ok-take_begin_array.ensures) c.in_ok-nodes.ensures

pub returns-in_ok-nodes-2 : goal.returns-in_ok-nodes-2
returns-in_ok-nodes-2 c =
    let is : c.in_ok-name.name.now ≡ codes "flat" = search rules in
    in_rows c.take_begin_array.new.reader
    (c.in_ok-name.ensures ∙ ap₂ (λ n ts. key n ∷ ts) is c.in_ok-take_begin_array.ensures) c.in_ok-nodes-2.ensures
