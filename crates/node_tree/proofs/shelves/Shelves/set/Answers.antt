-- The pair has another value.
use Rattle.std.proofs.Common.{suc, refl, sym, ap, ◌∙◌, subst, arith}
use Rattle.std.specs.Vec.{with_item}
use Rattle.node_tree.specs.Shelves.{all_of, number_of, IsWithin}
use Rattle.node_tree.proofs.ShelfLemmas.{within_low, within_spot, later_at, later_low, set_turn, set_count, length_set, filled_at}
use Rattle.node_tree.proofs.ShelfLemmas.{filled_set}
use Rattle.node_tree.proofs.shelves.Shelves.set.Goals as goal

pub returns-in-None-clause-set : goal.returns-in-None-clause-set
returns-in-None-clause-set c =
    λ name was there.
    let all = all_of c.args.self.now in
    let m = c.args.self.now.first in
    let q = c.index_mut-pair.result.now in
    let within = subst (λ n. IsWithin all n c.args.j) (ap number_of c.in-None.is) c.requires.within in
    set_turn all (number_of c.args.k) 0 c.args.j m (with_item m c.args.j (q.0, c.replace.new.dest)) q c.replace.new.dest
    c.replace.result name was c.args.value (ap number_of c.in-None.is) refl (within_low all 0 c.args.j m refl within)
    c.index_mut-pair.ensures.value refl c.replace.ensures.after c.replace.ensures.value there

pub returns-in-Some-clause-set : goal.returns-in-Some-clause-set
returns-in-Some-clause-set c =
    λ name was there.
    let first = c.args.self.now.first in
    let later = c.args.self.now.later.items in
    let k = c.in-Some.k in
    let m = c.index_mut.result.now in
    let q = c.index_mut-pair-in-Some.result.now in
    let spot = within_spot (all_of c.args.self.now) (number_of c.args.k) c.args.j c.requires.within in
    let at = later_at first later c.args.k k c.args.j c.in-Some.is m c.index_mut.ensures.value spot in
    let low = later_low first later c.args.k k c.args.j c.in-Some.is m c.index_mut.ensures.value c.requires.within in
    let t = with_item m c.args.j (q.0, c.replace-in-Some.new.dest) in
    set_turn (all_of c.args.self.now) (number_of c.args.k) (suc k) c.args.j m t q c.replace-in-Some.new.dest
    c.replace-in-Some.result name was c.args.value (ap number_of c.in-Some.is) at low c.index_mut-pair-in-Some.ensures.value refl
    c.replace-in-Some.ensures.after c.replace-in-Some.ensures.value there

pub returns-in-Some-clause-kept : goal.returns-in-Some-clause-kept
returns-in-Some-clause-kept c =
    let first = c.args.self.now.first in
    let later = c.args.self.now.later.items in
    let k = c.in-Some.k in
    let m = c.index_mut.result.now in
    let q = c.index_mut-pair-in-Some.result.now in
    let spot = within_spot (all_of c.args.self.now) (number_of c.args.k) c.args.j c.requires.within in
    let at = later_at first later c.args.k k c.args.j c.in-Some.is m c.index_mut.ensures.value spot in
    let low = later_low first later c.args.k k c.args.j c.in-Some.is m c.index_mut.ensures.value c.requires.within in
    let t = with_item m c.args.j (q.0, c.replace-in-Some.new.dest) in
    let some = filled_at later k m at c.requires.kept.filled in
    let as_long = length_set m.items c.args.j (q.0, c.replace-in-Some.new.dest) in
    record {
      count = c.requires.kept.count
          ∙ sym (set_count (all_of c.args.self.now) (suc k) c.args.j m t (q.0, c.replace-in-Some.new.dest) at low refl);
      filled = filled_set later k t c.requires.kept.filled (omega (arith, some, as_long));
    }
