use Rattle.std.proofs.Common.{[], ◌∷◌, codes}
use Rattle.json.specs.Token.{key}
use Rattle.cdp_json.specs.Tokens.{data_tokens}
use Rattle.cdp_json.proofs.WrittenTokens.{after_last}
use Rattle.css_objects.specs.Styles.{inline_kind}
use Rattle.css_objects.proofs.token_write.write_inline_field.Goals as goal

pub returns-clause-ok : goal.returns-clause-ok
returns-clause-ok c =
    after_last c.args.out.now.tokens (key (codes "inlineStyle") ∷ [])
    (data_tokens (inline_kind.spell c.args.style.now)) c.write_style.result
    c.write_style.new.out.tokens c.in_ok-key.ensures.ok c.write_style.ensures.ok
