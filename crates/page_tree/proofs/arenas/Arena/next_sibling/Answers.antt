-- What stands behind the place.
use Rattle.std.proofs.Common.{◌≡◌, ◌≤◌, ◌+◌, ℕ, suc, length, drop, ap, ◌∙◌, arith}
use Rattle.page_tree.specs.Arenas.{place_in, first_in}
use Rattle.page_tree.proofs.ArenaSteps.{first_end, next_behind}
use Rattle.page_tree.proofs.arenas.Arena.next_sibling.Goals as goal

pub returns-then-i-len : goal.returns-then-i-len
returns-then-i-len c =
    let past : length c.args.keys.now
    ≤ suc (place_in c.args.self.now c.args.serial c.args.keys.now) = omega (arith, c.if-i-len.true, c.place-i.ensures, c.len.ensures) in
    first_end c.args.self.now c.args.keys.now _ past ∙ next_behind c.args.self.now c.args.serial c.args.keys.now

pub returns : goal.returns
returns c =
    let place : c.place-i.result + 1 ≡ suc (place_in c.args.self.now c.args.serial c.args.keys.now) = omega (arith, c.place-i.ensures) in
    c.serial_at.ensures ∙ ap (λ (i : ℕ). first_in c.args.self.now
    (drop i c.args.keys.now)) place ∙ next_behind c.args.self.now c.args.serial c.args.keys.now
