use Rattle.std.proofs.Common.{Some, sym, ap, ◌∙◌, arith}
use Rattle.short_json.proofs.Converted.{whole_number_read}
use Rattle.short_json.proofs.value.whole_value.Goals as goal

pub returns-clause-ok : goal.returns-clause-ok
returns-clause-ok c =
    λ depth. whole_number_read depth c.args.reader.now c.whole.new.self c.in-Some.whole (omega arith) c.in-Some.ensures.some
    ∙ ap (λ d. Some (d, c.whole.new.self)) (sym c.from.ensures)
