-- The watches of a known node are changed; the command is refused while DOM is off, and where the node is unknown.
use Rattle.std.proofs.Common.{ℕ, Bool, true, false, refl}
use Rattle.node_tree.specs.declared.watches.WatchKind.{WatchKind}
use Rattle.back_end.specs.Steps.{watch_command, watch_change}
use Rattle.back_end.proofs.SeatLemmas.{on_ok}
use Rattle.back_end.proofs.ScriptLemmas.{in_any}
use Rattle.back_end.proofs.WatchSteps.{with-adds, without-adds}
use Rattle.back_end.proofs.WatchSeats.{Changes, unknown-sent, changed-stands}
use Rattle.back_end.proofs.desk.Desk.watch.Goals as goal

changes : (sets : Bool) (node : ℕ) (kind : WatchKind) → Changes (watch_command sets node kind) (watch_change sets kind) node
changes true node kind = record { step = λ id state. refl; plain = refl; adds = with-adds kind }
changes false node kind = record { step = λ id state. refl; plain = refl; adds = without-adds kind }

pub returns-in_default-clause-sent : goal.returns-in_default-clause-sent
returns-in_default-clause-sent c = λ state stands.
    on_ok c.refuse.result _ _ (c.refuse.ensures state)
    (unknown-sent c.args.self.now c.args.side.now state c.args.id _ _ c.args.node
    (changes c.args.sets c.args.node c.args.kind) stands c.args.out.now.items c.refuse.new.out.items c.requires.on
    c.in_default.ensures)

pub returns-clause-stands : goal.returns-clause-stands
returns-clause-stands c = λ state stands.
    in_any c.write_reply.result _
    (changed-stands c.args.self.now c.args.side.now state c.args.id _ _ c.args.node (changes c.args.sets c.args.node c.args.kind) stands
    (record { alloc = _; is_on = _; css = _; agent = _; watches = _; searches = _ })
    c.in-Some.serial c.requires.on c.in-Some.ensures refl refl
    (c.in_ok-set_or_end.ensures {u = tt}) refl refl)
