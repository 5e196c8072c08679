-- One seat more, or none.
use Rattle.std.proofs.Common.{◌≡◌, get_or, sym, subst}
use Rattle.std.specs.FinMap as map
use Rattle.number_map.specs.Places.{HasSeats}
use Rattle.number_map.proofs.PlaceLemmas.{either, seats-kept}
use Rattle.number_map.proofs.long_lists.seat_all.Goals as goal

pub loop-i-preserved : goal.loop-i-preserved
loop-i-preserved c = λ ks has.
    let before = c.loop-i.invariant ks has in
    let n = get_or c.args.numbers.now c.loop-i.i 0 in
    either c.insert.result (c.insert.new.self ≡ map.insert c.loop-i.seats n c.args.serial) (c.insert.new.self ≡ c.loop-i.seats)
    (HasSeats c.insert.new.self ks) c.insert.ensures.put c.insert.ensures.kept
    (λ e. subst (λ m. HasSeats m ks) (sym e) (seats-kept c.loop-i.seats ks n c.args.serial before))
    (λ e. subst (λ m. HasSeats m ks) (sym e) before)
