-- The second client is the guest of the root, who asks.
use Rattle.std.proofs.Common.{◌^◌, ◌++◌, Result, Ok, refl, ap, sym, subst, ◌∙◌, map, arith}
use Rattle.client_views.specs.Moves.{message_of}
use Rattle.cdp_messages.specs.declared.command.Asked.{Asked}
use Rattle.cdp_messages.specs.declared.command.Refused.{Refused}
use Rattle.back_end.specs.States.{State, view_of}
use Rattle.back_end.specs.Steps.{asked_step}
use Rattle.back_end.specs.Outside.{asked_outward, outside_step}
use Rattle.back_end.specs.Seats.{StandsFor, HasRoomLeft}
use Rattle.back_end.specs.Pairs.{Pair, root_state, second_state}
use Rattle.back_end.specs.PairSeats.{PairStandsFor}
use Rattle.back_end.specs.declared.seat.Seat.{Seat}
use Rattle.back_end.proofs.PairLemmas.{root-stands, root-sent, guest-told, told-messages, hears-outside, root-some, second-some}
use Rattle.back_end.proofs.PairLemmas.{guest-can-hear, command-outside, guest-of, root-kept}
use Rattle.back_end.proofs.mux.Mux.serve_command.Goals as goal

pub serve_asked-requires-clause-room : goal.serve_asked-requires-clause-room
serve_asked-requires-clause-room c =
    subst (λ (s : Seat). HasRoomLeft s c.args.side.now) (sym c.second_as_guest-guest.ensures.root) c.requires.room.0

pub serve_asked-requires-clause-seated : goal.serve_asked-requires-clause-seated
serve_asked-requires-clause-seated c = λ alive.
    subst (λ (s : Seat). ∥ ((state : State) × StandsFor s c.args.side.now state) ∥₁) (sym c.second_as_guest-guest.ensures.root)
    (root-some c.args.self.now c.args.side.now c.requires.seated)

pub serve_asked-requires-clause-can_hear : goal.serve_asked-requires-clause-can_hear
serve_asked-requires-clause-can_hear c =
    guest-can-hear (2 ^ 30) c.args.self.now.router.attached c.args.self.now.second c.args.side.now
    c.second_as_guest-guest.result (omega arith)
    c.second_as_guest-guest.ensures.guest (second-some c.args.self.now c.args.side.now c.requires.seated) c.requires.room.1

pub reseat_second-requires : goal.reseat_second-requires
reseat_second-requires c = record {
  messages =
      told-messages c.args.self.now.router.attached c.serve_asked.new.guest
      (λ (x : ((p : Pair) × PairStandsFor c.args.self.now c.args.side.now p)).
      map message_of (outside_step (asked_outward (Ok c.args.request) (root_state x.0)) (second_state x.0)).moves)
      c.requires.seated
      (λ (x : ((p : Pair) × PairStandsFor c.args.self.now c.args.side.now p)).
      let r : Result Asked Refused = Ok c.args.request in
      let other = outside_step (asked_outward r (root_state x.0)) (second_state x.0) in
      guest-told c.args.self.now.router.attached c.args.self.now.second c.args.side.now c.serve_asked.new.side
      c.second_as_guest-guest.result c.serve_asked.new.guest (second_state x.0) other (view_of (second_state x.0)) (view_of other.state)
      c.second_as_guest-guest.ensures.guest x.1.second_stands
      (hears-outside c.second_as_guest-guest.result c.serve_asked.new.guest c.args.side.now c.serve_asked.new.side (second_state x.0)
      (asked_outward r (root_state x.0))
      (λ here. (c.in_ok-serve_asked.ensures {u = tt}).told (Ok c.args.request) (root_state x.0) (second_state x.0) refl
      (root-kept c.args.side.now x.0 c.second_as_guest-guest.ensures.root x.1.root_stands) here))
      (command-outside r c.args.self.now c.args.side.now x.0 c.requires.texts x.1 c.requires.room).course);
}

pub returns-clause-stands : goal.returns-clause-stands
returns-clause-stands c = λ p stands.
    let r : Result Asked Refused = Ok c.args.request in
    let own = asked_step r (root_state p) in
    let other = outside_step (asked_outward r (root_state p)) (second_state p) in
    let here = root-kept c.args.side.now p c.second_as_guest-guest.ensures.root stands.root_stands in
    root-stands p c.args.side.now c.serve_asked.new.side c.args.self.now.second c.second_as_guest-guest.new.self.second
    c.second_as_guest-guest.result c.serve_asked.new.guest own other c.reseat_second.new.self
    (guest-of c.args.self.now.second c.second_as_guest-guest.result stands.sessions_are c.second_as_guest-guest.ensures.guest)
    c.second_as_guest-guest.ensures.unused stands.second_stands
    (hears-outside c.second_as_guest-guest.result c.serve_asked.new.guest c.args.side.now c.serve_asked.new.side (second_state p)
    (asked_outward r (root_state p))
    (λ there. (c.in_ok-serve_asked.ensures {u = tt}).told r (root_state p) (second_state p) refl here there))
    (subst (λ (s : Seat). StandsFor s c.serve_asked.new.side own.state) (sym c.reseat_second.ensures.root)
    ((c.in_ok-serve_asked.ensures {u = tt}).stands r (root_state p) refl here))
    (command-outside r c.args.self.now c.args.side.now p c.requires.texts stands c.requires.room).side_is
    c.reseat_second.ensures.second
    (c.reseat_second.ensures.router ∙ c.second_as_guest-guest.ensures.router ∙ stands.sessions_are)

pub returns-clause-sent : goal.returns-clause-sent
returns-clause-sent c = λ p stands.
    let r : Result Asked Refused = Ok c.args.request in
    let own = asked_step r (root_state p) in
    let other = outside_step (asked_outward r (root_state p)) (second_state p) in
    let here = root-kept c.args.side.now p c.second_as_guest-guest.ensures.root stands.root_stands in
    let sessions = c.second_as_guest-guest.ensures.router in
    root-sent own.moves other.moves c.new-said.result.items c.serve_asked.new.out.items c.args.out.now.items c.reseat_second.new.out.items
    c.extend_from_slice.new.self.items (sessions ∙ stands.sessions_are) c.new-said.ensures.items
    ((c.in_ok-serve_asked.ensures {u = tt}).sent r (root_state p) refl here)
    ((c.in_ok-reseat_second.ensures {u = tt}).sent (map message_of other.moves)
    (guest-told c.second_as_guest-guest.new.self.router.attached c.args.self.now.second c.args.side.now c.serve_asked.new.side
    c.second_as_guest-guest.result c.serve_asked.new.guest (second_state p) other (view_of (second_state p)) (view_of other.state)
    (guest-of c.args.self.now.second c.second_as_guest-guest.result (sym sessions) c.second_as_guest-guest.ensures.guest)
    stands.second_stands
    (hears-outside c.second_as_guest-guest.result c.serve_asked.new.guest c.args.side.now c.serve_asked.new.side (second_state p)
    (asked_outward r (root_state p))
    (λ there. (c.in_ok-serve_asked.ensures {u = tt}).told r (root_state p) (second_state p) refl here there))
    (command-outside r c.args.self.now c.args.side.now p c.requires.texts stands c.requires.room).course))
    ((c.in_ok-extend_from_slice.ensures {u = tt}).items ∙ ap (λ bs. c.reseat_second.new.out.items ++ bs) c.deref.ensures.value)
