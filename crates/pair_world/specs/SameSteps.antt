-- The step of two clients is defined twice: by messages, as the back end makes it, and by texts, as a run over any protocol has it. Both are
-- the same.
use Rattle.std.specs.Prelude.{◌≡◌, ℕ, List, false}
use Rattle.page_forms.specs.Pages.{LoadedPage}
use Rattle.back_end.specs.Steps.{Turn}
use Rattle.back_end.specs.Laws.{IsTurn}
use Rattle.back_end.specs.Pairs as clients
use Rattle.back_end.specs.Pairs.{Pair, loaded_pair, IsPair, PairHasRoom, pair_turn}
use Rattle.session_runs.specs.World.{Stepped}
use Rattle.session_runs.specs.Pairs.{pair_step, pair_act}
use Rattle.pair_world.specs.Clients.{pair_reads, client_steps}
use Rattle.pair_world.specs.FrameLaws.{sessions_of, IsUsual}
use Rattle.pair_world.specs.PairFits.{PageSessions, pair_loaded}

-- the two clients of a run, without the styles that the run keeps of each
abbrev pub clients_of : PageSessions → Pair
clients_of s = record { side = s.side; root = s.root.client; second = s.second.client; sessions = sessions_of s }

-- both steps leave the same clients, and send the same bytes
pub record AreSame (run : Stepped PageSessions) (done : Stepped Pair) : Type 0 where
  pub state : clients_of run.state ≡ done.state
  pub sent : run.sent ≡ done.sent

-- a page that was just loaded
abbrev pub StartsAreSame : Type 0
StartsAreSame = (page : LoadedPage) → clients_of (pair_loaded page) ≡ loaded_pair page

-- the step on a frame as front ends send it, where our own two methods are unknown
abbrev pub FrameStepsAreSame : Type 0
FrameStepsAreSame =
    (frame : List ℕ) (s : PageSessions) → IsUsual frame → IsPair (clients_of s) → PairHasRoom (clients_of s)
    → AreSame (pair_step pair_reads client_steps s frame) (clients.pair_step false frame (clients_of s))

-- the step of a script
abbrev pub TurnsAreSame : Type 0
TurnsAreSame =
    (x : Turn) (s : PageSessions) → IsTurn x → IsPair (clients_of s) → PairHasRoom (clients_of s)
    → AreSame (pair_act pair_reads client_steps x s) (pair_turn x (clients_of s))
