use Rattle.std.proofs.Common.{[], ◌∷◌, codes}
use Rattle.json.specs.Token.{key, begin_array, end_array}
use Rattle.cdp_json.proofs.WrittenTokens.{after, after_last}
use Rattle.css_objects.proofs.token_write.write_shorthands_field.Goals as goal

pub returns-clause-ok : goal.returns-clause-ok
returns-clause-ok c =
    after_last c.args.out.now.tokens (key (codes "shorthandEntries") ∷ begin_array ∷ []) (end_array ∷ []) c.end_array.result
    c.end_array.new.self.tokens
    (after c.args.out.now.tokens (key (codes "shorthandEntries") ∷ []) (begin_array ∷ []) c.in_ok-key.ensures.ok
    c.in_ok-begin_array.ensures.ok)
    c.end_array.ensures.ok
