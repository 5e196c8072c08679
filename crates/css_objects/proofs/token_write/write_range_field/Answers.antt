use Rattle.std.proofs.Common.{[], ◌∷◌, codes}
use Rattle.json.specs.Token.{key}
use Rattle.cdp_json.specs.Tokens.{data_tokens}
use Rattle.cdp_json.proofs.WrittenTokens.{after_last}
use Rattle.css_objects.specs.Ranges.{range_kind}
use Rattle.css_objects.proofs.token_write.write_range_field.Goals as goal

pub returns-clause-ok : goal.returns-clause-ok
returns-clause-ok c =
    after_last c.args.out.now.tokens (key (codes "range") ∷ []) (data_tokens (range_kind.spell c.args.range)) c.write_range.result
    c.write_range.new.out.tokens c.in_ok-key.ensures.ok c.write_range.ensures.ok
