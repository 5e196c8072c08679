use Rattle.short_json.proofs.Taken.{name_taken}
use Rattle.short_json.proofs.lexemes.behind_name.Goals as goal

pub returns : goal.returns
returns c =
    name_taken c.args.text.now c.in_ok-inner.inner.now c.args.name.now c.in_ok-closing.closing.now c.in_ok-mark.mark.now
    c.in_ok-rest.rest.now c.in_ok-inner.ensures c.in_ok-closing.ensures c.in_ok-mark.ensures c.in_ok-rest.ensures c.requires
