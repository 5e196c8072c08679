-- One more pair is put among the entries, or its name is taken.
use Rattle.std.proofs.Common.{◌∙◌, true, false, sym}
use Rattle.page_tree.proofs.EntryLemmas.{gather_turn}
use Rattle.page_tree.proofs.attributes.gather.Goals as goal

pub returns-then-is_some : goal.returns-then-is_some
returns-then-is_some c =
    let insert = c.in_ok-insert.ensures {u = tt} in
    gather_turn c.loop-name.entries.entries c.in_ok-key.key c.in-Some.name c.in-Some.value c.loop-name.name-iterator.rest.items
    c.next.new.self.rest.items _ c.in_ok-insert.field-0 true (c.in-Some.ensures {u = tt}).steps.0 c.in_ok-key.ensures insert.old
    (sym c.is_some.ensures ∙ c.if-is_some.true) c.loop-name.invariant.2

pub loop-name-preserved : goal.loop-name-preserved
loop-name-preserved c =
    let insert = c.in_ok-insert.ensures {u = tt} in
    let turn = gather_turn c.loop-name.entries.entries c.in_ok-key.key c.in-Some.name c.in-Some.value
    c.loop-name.name-iterator.rest.items c.next.new.self.rest.items _ c.in_ok-insert.field-0 false
    (c.in-Some.ensures {u = tt}).steps.0 c.in_ok-key.ensures insert.old
    (sym c.is_some.ensures ∙ c.if-is_some.false) c.loop-name.invariant.2 in
    (tt, tt, rw insert.entries (turn))
