-- Ends that differ in one field, but for the fact that the seat stands for the side, which has one proof.
use Rattle.std.proofs.Common.{◌≡◌, ℕ}
use denote.Struct.Props.{props}
use Rattle.front_mirror.specs.declared.panels.Panel.{Ghosts}
use Rattle.front_mirror.specs.Front.{FrontState}
use Rattle.back_end.specs.declared.seat.Seat.{Seat}
use Rattle.back_end.specs.declared.side.PageSide.{PageSide}
use Rattle.back_end.specs.Seats.{IsSeated}
use Rattle.inspect_replay.specs.declared.one_front.OneFront.{OneFront}

IsSeated-prop : (seat : Seat) (side : PageSide) → IsProp (IsSeated seat side)
IsSeated-prop seat side = hlevel props

-- so many replies were told
pub told-same : {P : Type 0} {g : Ghosts P} (e : OneFront P g) (s : IsSeated e.seat e.side) (m n : ℕ) → m ≡ n
    → ◌≡◌ {A = OneFront P g} (record e { told = m; seated = s }) (record e { told = n })
told-same e s m n same = λ i. record e { told = same i; seated = IsSeated-prop e.seat e.side s e.seated i }

-- so many pauses were told
pub pauses-same : {P : Type 0} {g : Ghosts P} (e : OneFront P g) (s : IsSeated e.seat e.side) (m n : ℕ) → m ≡ n
    → ◌≡◌ {A = OneFront P g} (record e { told_pauses = m; seated = s }) (record e { told_pauses = n })
pauses-same e s m n same = λ i. record e { told_pauses = same i; seated = IsSeated-prop e.seat e.side s e.seated i }

-- the front end has come to this state
pub front-same : {P : Type 0} {g : Ghosts P} (e : OneFront P g) (s : IsSeated e.seat e.side) (before after : FrontState) → before ≡ after
    → ◌≡◌ {A = OneFront P g} (record e { front = before; seated = s }) (record e { front = after })
front-same e s before after same = λ i. record e { front = same i; seated = IsSeated-prop e.seat e.side s e.seated i }
