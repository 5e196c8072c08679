use Rattle.node_tree.specs.Nodes.{Nodes}
use Rattle.node_tree.specs.Seen.{Seen}
use Rattle.std.proofs.Common.{◌≡◌, map, All, drop, take}
use Rattle.std.specs.Prelude.{option_map, IfSome}
use Rattle.front_mirror.specs.Panels.{face, Turns, MayShow}
use Rattle.front_mirror.proofs.places.tell_slots.Given as goal

abbrev pub invariant-loop-slot : goal.invariant-loop-slot
invariant-loop-slot g l = record {
  kinds : map (option_map g.P.Panel.kind_of) l.slots ≡ map (option_map g.P.Panel.kind_of) l.initial.slots;
  rest : drop l.slot-index l.slots ≡ drop l.slot-index l.initial.slots;
  shows : (before : Nodes Seen) → Turns before l.change l.mirror
      → All (λ o. IfSome o (λ b. MayShow l.change (g.P.Panel.kind_of b) (g.P.Panel.shown b) before)) l.initial.slots
      → All (λ o. IfSome o (λ b. g.P.Panel.shown b ≡ face (g.P.Panel.kind_of b) l.mirror)) (take l.slot-index l.slots);
}
