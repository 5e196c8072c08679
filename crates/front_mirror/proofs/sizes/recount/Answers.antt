-- The numbers after the edit.
use Rattle.std.proofs.Common.{ℕ, List, ap, ◌∙◌, arith}
use Rattle.std.specs.FinMap as map
use Rattle.client_views.specs.Views.{is_in}
use Rattle.front_mirror.proofs.EditCounts.{edit_known, edit_counted, few_come, room_noted}
use Rattle.front_mirror.proofs.sizes.recount.Goals as goal

pub note_all-requires : goal.note_all-requires
note_all-requires c = record {
  few = few_come c.args.table.now c.args.roots.now c.args.id c.args.edit.now c.requires.kept c.requires.fits c.requires.clear
      c.nodes.result.now c.nodes.ensures;
}

pub shift_up-requires : goal.shift_up-requires
shift_up-requires c = record {
  kept = c.requires.kept;
  known = edit_known c.args.table.now c.args.roots.now c.args.id c.args.edit.now c.requires.kept c.requires.fits c.requires.clear;
  few = room_noted c.args.table.now c.args.roots.now c.args.id c.args.edit.now c.requires.kept c.requires.fits c.requires.clear
      c.nodes.result.now c.nodes.ensures c.in_ok-more.more c.in_ok-more.ensures.count (map.get c.args.counts.now)
      (map.get c.note_all.new.counts) c.in_ok-more.ensures.notes c.requires.counted c.requires.low;
}

pub returns : goal.returns
returns c =
    edit_counted c.args.table.now c.args.roots.now c.args.id c.args.edit.now c.requires.kept c.requires.fits c.requires.clear
    c.nodes.result.now c.nodes.ensures c.in_ok-more.more c.in_ok-more.ensures.count c.in_ok-ids.ids.items c.in_ok-ids.ensures
    c.len.result (omega (arith, c.len.ensures, c.in_ok-ids.ids.ok)) (map.get c.args.counts.now) (map.get c.note_all.new.counts)
    (map.get c.shift_up.new.counts) (map.get c.forget.new.counts)
    c.in_ok-more.ensures.notes (λ x depth o a named. c.in_ok-shift_up.ensures x depth o a named)
    (λ k out. c.forget.ensures k (ap (λ (l : List ℕ). is_in k l) c.deref.ensures.value ∙ out)) c.requires.counted
