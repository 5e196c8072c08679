use Rattle.std.proofs.Common.{refl, ◌∙◌, sym, rules}
use Rattle.cdp_json.proofs.NumberTokens.{none_counted}
use Rattle.cdp_json.proofs.tokens.take_counted_field.Goals as goal

pub returns-else-is_counted-clause-other : goal.returns-else-is_counted-clause-other
returns-else-is_counted-clause-other c = (
  refl,
  none_counted c.args.name.now c.args.reader.now c.take_whole_field.new.reader c.in_ok-number.number
      (search rules) c.in_ok-number.ensures (sym c.is_counted.ensures ∙ c.if-is_counted.false),
)
