-- Each frame, each act and each load numbers one session at most.
use Rattle.std.proofs.Common.{◌≡◌, ℕ, ◌+◌, ◌≤◌, Bool, false, List, [], ◌∷◌, length, arith}
use Rattle.session_mux.specs.declared.router.Routed.{Routed}
use Rattle.session_mux.specs.declared.router.Routed.TheVariants.{Root, Attached, Answered}
use Rattle.session_mux.specs.Routes.{routing}
use Rattle.back_end.specs.Pairs.{Pair, routed_step}
use Rattle.inspect_world.specs.Links.{Happening, came, made}
use Rattle.pair_world.specs.PairLinks.{pair_happening_step, pair_happened}
use Rattle.pair_replay.specs.NumberLaws.{EachNumbersOne}
use Rattle.pair_replay.proofs.PairSteps.{few-next}

-- the step on a frame, whosever it is
pub routed-next : (own : Bool) (r : Routed) (frame : List ℕ) (p : Pair)
    → (routed_step r own frame p).state.sessions.next ≤ p.sessions.next + 1
routed-next own Root frame p = omega arith
routed-next own Attached frame p = omega arith
routed-next own Answered frame p = few-next frame p.sessions

happening-next : (h : Happening) (p : Pair) → (pair_happening_step h p).state.sessions.next ≤ p.sessions.next + 1
happening-next (came frame) p = routed-next false (routing frame p.sessions).routed frame p
happening-next (made x) p = omega arith

pub each-numbers-one : EachNumbersOne
each-numbers-one [] p = omega arith
each-numbers-one (h ∷ hs) p =
    let one = happening-next h p in
    let rest = each-numbers-one hs (pair_happening_step h p).state in
    omega (arith, one, rest)
