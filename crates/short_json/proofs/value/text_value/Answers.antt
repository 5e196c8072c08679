use Rattle.std.proofs.Common.{◌≡◌, Some, rules, sym, ap, ◌∙◌}
use Rattle.serde_json.specs.Data.{string}
use Rattle.serde_json.specs.View.{view}
use Rattle.serde_json.specs.declared.value.Value.{String, the_lemmas}
use Rattle.short_json.proofs.Converted.{text_read}
use Rattle.short_json.proofs.value.text_value.Goals as goal

pub returns-clause-ok : goal.returns-clause-ok
returns-clause-ok c =
    λ depth. let seen : view (String c.in_ok-text.text) ≡ string c.in-Some.text.now = search (rules, the_lemmas) in
    text_read depth c.args.reader.now c.text.new.self c.in-Some.text.now c.in-Some.ensures.some
    ∙ ap (λ d. Some (d, c.text.new.self)) (sym seen)
