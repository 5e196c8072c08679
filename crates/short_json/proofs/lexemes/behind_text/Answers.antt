use Rattle.std.proofs.Common.{sym, ◌∙◌}
use Rattle.std.proofs.lemmas.Slice.Eq.{bytes_eq-Decides}
use Rattle.short_json.proofs.Taken.{front_found}
use Rattle.short_json.proofs.lexemes.behind_text.Goals as goal

pub returns-then-eq : goal.returns-then-eq
returns-then-eq c =
    let text = c.args.text.now in
    let front = c.args.front.now in
    let found = c.in_ok-found.found.now in
    let rest = c.in_ok-found.rest.now in
    front_found text front found rest _ c.in_ok-found.ensures.front c.in_ok-found.ensures.back
    ((bytes_eq-Decides found front).0 (sym c.eq.ensures ∙ c.if-eq.true))
