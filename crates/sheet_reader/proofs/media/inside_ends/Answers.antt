use Rattle.std.proofs.Common.{List, length, take, ◌+◌, sym, ap, subst, ◌∙◌, arith}
use Rattle.css_tokens.specs.declared.token.Token.{Token}
use Rattle.sheet_reader.specs.Ends.{AreEnds}
use Rattle.sheet_reader.specs.Seen.{media_seen}
use Rattle.sheet_reader.proofs.EndForms.{ends_later, begins_cut}
use Rattle.sheet_reader.proofs.media.inside_ends.Goals as goal

pub behind-left-requires : goal.behind-left-requires
behind-left-requires c = (begins_cut c.args.frame.left.now (media_seen c.args.media) c.requires.first).fits

pub front_ends-requires-clause-ends : goal.front_ends-requires-clause-ends
front_ends-requires-clause-ends c = subst (AreEnds c.args.frame.ends) (sym c.behind-left.ensures)
    (ends_later c.args.frame.ends (length c.args.media.prelude.now + 2) c.args.frame.left.now c.requires.ends)

pub front_ends-requires-clause-fits : goal.front_ends-requires-clause-fits
front_ends-requires-clause-fits c =
    let own = (begins_cut c.args.frame.left.now (media_seen c.args.media) c.requires.first).size in
    let same = ap (λ (xs : List Token). length xs) c.behind-left.ensures in
    omega (arith, own, same)

pub returns : goal.returns
returns c =
    subst (AreEnds c.front_ends.result)
    (ap (λ (xs : List Token). take (length c.args.media.inside.now) xs) c.behind-left.ensures
    ∙ (begins_cut c.args.frame.left.now (media_seen c.args.media) c.requires.first).is) c.front_ends.ensures
