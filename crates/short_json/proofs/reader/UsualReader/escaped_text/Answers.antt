use Rattle.std.proofs.Common.{◌≡◌, rules, string_bytes, ◌∷◌, IfSome, sym, ap, subst, ◌∙◌}
use Rattle.json.specs.Token.{string}
use Rattle.json.specs.Lex.{token, between, lex}
use Rattle.short_json.specs.Places.{place_seen}
use Rattle.short_json.proofs.Places.{text_next}
use Rattle.short_json.proofs.reader.UsualReader.escaped_text.Goals as goal

pub returns-clause-some : goal.returns-clause-some
returns-clause-some c =
    let left = c.self.inside.left.now in
    let said =
    subst (λ o. IfSome o (λ p. lex between left ≡ token (string (string_bytes p.0)) ∷ lex between p.1.now)) c.in-Some.is
    c.in_ok-found.ensures in
    sym c.self.view_is
    ∙ text_next (place_seen c.self.inside.place) left c.in-Some.rest.now (string_bytes c.in-Some.text) said (search rules) (search rules)
    ∙ ap (λ ts. string (string_bytes c.in-Some.text) ∷ ts) (sym c.passed.ensures)
