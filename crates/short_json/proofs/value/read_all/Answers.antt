use Rattle.std.proofs.Common.{Some, sym, ap, ◌∙◌}
use Rattle.json.specs.Json.{value}
use Rattle.json.specs.Lex.{tokens}
use Rattle.serde_json.specs.Read.{of_json, converted, max_depth}
use Rattle.serde_json.specs.View.{view}
use Rattle.short_json.proofs.Converted.{whole_read}
use Rattle.short_json.proofs.value.read_all.Goals as goal

pub returns : goal.returns
returns c =
    whole_read (value max_depth (tokens c.args.text.now)) (view c.in_ok-found.found)
    (ap (λ ts. converted of_json (value max_depth ts)) (sym c.new-reader.ensures) ∙ c.in_ok-found.ensures.ok
    ∙ ap (λ ts. Some (view c.in_ok-found.found, ts)) (c.is_over.ensures c.if-not-is_over.false))
