-- Room is left for the seats that there are.
use Rattle.std.proofs.Common.{◌↔◌, sym, subst}
use Rattle.std.specs.Prelude.{IsTrue}
use Rattle.inspect_replay.specs.declared.clients.Clients.{Clients}
use Rattle.inspect_replay.specs.Served.{HaveRoomLeft}
use Rattle.inspect_replay.proofs.clients.Clients.has_room.Goals as goal

pub returns-in-Alone : goal.returns-in-Alone
returns-in-Alone c = subst (λ (clients : Clients). IsTrue c.has_room.result ↔ HaveRoomLeft clients c.args.side.now) (sym c.in-Alone.is)
    c.has_room.ensures

pub returns-in-Paired : goal.returns-in-Paired
returns-in-Paired c =
    subst (λ (clients : Clients). IsTrue c.has_room-in-Paired.result ↔ HaveRoomLeft clients c.args.side.now) (sym c.in-Paired.is)
    c.has_room-in-Paired.ensures
