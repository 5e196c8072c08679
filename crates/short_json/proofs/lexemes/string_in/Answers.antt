use Rattle.std.proofs.Common.{ap, ◌∙◌}
use Rattle.std.specs.List.{prefix_len}
use Rattle.json.specs.Run.{is_plain}
use Rattle.short_json.proofs.Taken.{string_taken}
use Rattle.short_json.proofs.lexemes.string_in.Goals as goal

pub returns : goal.returns
returns c =
    string_taken c.args.text.now c.in_ok-inner.inner.now c.in_ok-content.content.now c.in_ok-content.closing.now c.in_ok-rest.rest.now
    c.plain_end-end.result c.in_ok-inner.ensures (c.plain_end-end.ensures ∙ ap (prefix_len is_plain) c.as_bytes.ensures.value)
    c.in_ok-content.ensures.front c.in_ok-content.ensures.back c.in_ok-rest.ensures
