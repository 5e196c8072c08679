use Rattle.std.proofs.Common.{[], ◌∷◌, codes}
use Rattle.json.specs.Token.{key}
use Rattle.cdp_json.specs.Tokens.{data_tokens}
use Rattle.cdp_json.proofs.WrittenTokens.{after_last}
use Rattle.css_objects.specs.Media.{some_media_kind}
use Rattle.css_objects.proofs.token_write.write_media_field.Goals as goal

pub returns-clause-ok : goal.returns-clause-ok
returns-clause-ok c =
    after_last c.args.out.now.tokens (key (codes "media") ∷ [])
    (data_tokens (some_media_kind.spell c.args.list.now)) c.write_media_list.result
    c.write_media_list.new.out.tokens c.in_ok-key.ensures.ok c.write_media_list.ensures.ok
