use Rattle.std.proofs.Common.{[], ◌∷◌, ◌++◌, ap, ◌∙◌}
use Rattle.json.specs.Token.{string}
use Rattle.json.specs.Print.{print}
use Rattle.short_json.proofs.Taken.{string_printed}
use Rattle.short_json.proofs.escapes.written.Goals as goal

pub returns : goal.returns
returns c =
    c.into_inner.ensures.items
    ∙ (λ i. (c.in_ok-string.ensures.room.0 ∙ c.new-out.ensures.before ∙ c.new.ensures.items) i
    ++ print ((c.in_ok-string.ensures.ok ∙ ap (λ ts. ts ++ string c.args.text.now ∷ []) c.new-out.ensures.tokens) i))
    ∙ string_printed c.args.text.now
