use Rattle.std.proofs.Common.{sym, ◌∙◌}
use Rattle.number_map.proofs.PlaceLemmas.{held, seats-with}
use Rattle.number_map.proofs.long_lists.seat_new.Goals as goal

pub returns-in_ok-insert-clause-ok : goal.returns-in_ok-insert-clause-ok
returns-in_ok-insert-clause-ok c ks has =
    seats-with c.in-Some.seated _ ks c.args.number c.args.serial (held _ _ _ c.in-Some.is has)
    (sym (held _ _ _ c.in-Some.is c.has_seat.ensures) ∙ c.if-has_seat.false)
    (c.in_ok-insert.ensures.put)
