use Rattle.std.proofs.Common.{string_bytes, sym, ap, ◌∙◌}
use Rattle.std.proofs.lemmas.Slice.Eq.{bytes_eq-Decides}
use Rattle.json.specs.Print.{quoted}
use Rattle.short_json.proofs.Taken.{written_taken}
use Rattle.short_json.proofs.escapes.escaped_in.Goals as goal

pub returns-then-eq : goal.returns-then-eq
returns-then-eq c =
    let text = c.args.text.now in
    let found = string_bytes c.in_ok-found.found in
    written_taken text c.in-Some-split_at_checked.front.now c.in-Some-split_at_checked.rest.now found _
    c.in-Some-split_at_checked.ensures.front c.in-Some-split_at_checked.ensures.back
    (sym c.as_bytes.ensures.value ∙ (bytes_eq-Decides c.as_bytes.result.now c.as_slice.result.now).0 (sym c.eq.ensures ∙ c.if-eq.true)
    ∙ c.as_slice.ensures.value ∙ c.in_ok-spelled.ensures ∙ ap quoted c.as_str.ensures.value)
