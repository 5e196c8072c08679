use Rattle.std.proofs.Common.{take, refl, sym, ap, ◌∙◌}
use Rattle.short_json.proofs.Taken.{whole_taken}
use Rattle.short_json.proofs.lexemes.whole_in.Goals as goal

pub returns : goal.returns
returns c =
    whole_taken c.args.text.now (take c.in_ok-whole.end c.args.text.now) c.in_ok-rest.rest.now c.in_ok-whole.end c.in_ok-whole.whole
    refl c.in_ok-rest.ensures.back (ap (take c.in_ok-whole.end) (sym c.as_bytes.ensures.value) ∙ c.in_ok-whole.ensures.0)
    c.in_ok-whole.ensures.2 (c.value_ends.ensures.word c.if-not-value_ends.false)
