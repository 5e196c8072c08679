use Rattle.cdp_json.specs.Kinds.{whole}
use Rattle.cdp_json.proofs.WrittenTokens.{ListBegun, list_end}
use Rattle.css_objects.proofs.token_write.write_places.Goals as goal

pub returns-clause-ok : goal.returns-clause-ok
returns-clause-ok c =
    let so : ListBegun whole c.args.out.now.tokens c.loop-place.out.tokens c.args.places.now c.loop-place.place-index =
    record { is = c.loop-place.invariant.tokens } in
    list_end so c.loop-place-test.false c.in_ok-end_array.ensures.ok
