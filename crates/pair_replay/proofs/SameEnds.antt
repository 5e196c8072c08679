-- Ends that are the same but for the fact that the seats stand for the side, which has one proof.
use Rattle.std.proofs.Common.{◌≡◌}
use denote.Struct.Props.{props}
use Rattle.front_mirror.specs.declared.panels.Panel.{Ghosts}
use Rattle.multi_replay.specs.States.{FrontsState}
use Rattle.back_end.specs.declared.mux.Mux.{Mux}
use Rattle.back_end.specs.declared.side.PageSide.{PageSide}
use Rattle.back_end.specs.PairSeats.{IsPairSeated}
use Rattle.pair_replay.specs.declared.two_fronts.TwoFronts.{TwoFronts}

IsPairSeated-prop : (mux : Mux) (side : PageSide) → IsProp (IsPairSeated mux side)
IsPairSeated-prop mux side = hlevel props

-- the seats stand for the side, by whatever proof
pub seated-same : {P : Type 0} {g : Ghosts P} (e : TwoFronts P g) (s : IsPairSeated e.mux e.side)
    → ◌≡◌ {A = TwoFronts P g} (record e { seated = s }) e
seated-same e s = λ i. record e { seated = IsPairSeated-prop e.mux e.side s e.seated i }

-- the front ends have come to this
pub fronts-same : {P : Type 0} {g : Ghosts P} (e : TwoFronts P g) (s : IsPairSeated e.mux e.side) (before after : FrontsState)
    → before ≡ after
    → ◌≡◌ {A = TwoFronts P g} (record e { fronts = before; seated = s }) (record e { fronts = after })
fronts-same e s before after same = λ i. record e { fronts = same i; seated = IsPairSeated-prop e.mux e.side s e.seated i }
