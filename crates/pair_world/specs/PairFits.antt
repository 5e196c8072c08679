-- The law of runs with two front ends.
use Rattle.std.specs.Prelude.{◌≡◌, ℕ, List, [], take, None}
use Rattle.page_forms.specs.Pages.{LoadedPage, CanLoadPage}
use Rattle.page_forms.specs.Texts.{PageHasTexts}
use Rattle.back_end.specs.States.{Side, loaded_side}
use Rattle.back_end.specs.Steps.{Turn}
use Rattle.back_end.specs.Laws.{IsTurn}
use Rattle.session_runs.specs.Stream.{awaited}
use Rattle.session_runs.specs.World.{World, first_world, settled}
use Rattle.session_runs.specs.Passages.{RoomToSettle}
use Rattle.session_runs.specs.Pairs.{ClientPair, client_pair, pair_step}
use Rattle.session_runs.specs.PairFit.{BothHaveRoom}
use Rattle.session_runs.specs.PairRuns as runs
use Rattle.session_runs.specs.PairRuns.{PairPassage, pair_machine, after_pair_passages, MayPassPairAll}
use Rattle.pair_world.specs.Clients.{pair_reads, RunClient, fresh_client, client_steps}
use Rattle.pair_world.specs.Shown.{IsSessionNumber, HasRoomFor, MaySend, Shows}

-- two sessions over one page's side
abbrev pub PageSessions : Type 0
PageSessions = ClientPair Side RunClient

-- a run of them
abbrev pub PairWorld : Type 0 → Type 0 → Type 0
PairWorld N L = World PageSessions N L

-- a page that was just loaded; the root has asked for nothing, and none is attached beside it
abbrev pub pair_loaded : LoadedPage → PageSessions
pair_loaded page = client_pair (loaded_side 1 1 page) fresh_client fresh_client None 1

-- the run after some parts, one after the other, where a step of the script is counted so
abbrev pub after_parts : {N L : Type 0} → (N → N) → List (PairPassage Turn N) → PairWorld N L → PairWorld N L
after_parts one_turn ps w = after_pair_passages pair_reads client_steps one_turn ps w

-- each of these parts may come when its turn is, and there is room before each step
abbrev pub MayComeAll : {N L : Type 0} → (N → N) → List (PairPassage Turn N) → PairWorld N L → Type 0
MayComeAll one_turn ps w = MayPassPairAll pair_reads client_steps one_turn IsSessionNumber HasRoomFor MaySend IsTurn ps w

-- the two whole streams, folded into two front ends, meet no fault, and these show the two sessions
abbrev pub PairFits : {N L : Type 0} → PairWorld N L → Type 0
PairFits w = runs.PairFits pair_reads client_steps IsSessionNumber Shows MaySend w

-- The two whole streams, folded into two front ends, meet no fault; both show their sessions, and nothing waits for an answer.
abbrev pub BothShown : {N L : Type 0} → PairWorld N L → Type 0
BothShown w = runs.BothShown pair_reads client_steps IsSessionNumber Shows w

-- After any number of parts of a run from a loaded page, both front ends show their sessions.
abbrev pub PairsFit : Type 0 → Type 0 → Type 0
PairsFit N L = (one_turn : N → N) (nothing : N) (told : L) (page : LoadedPage) → CanLoadPage page → PageHasTexts page
    → (ps : List (PairPassage Turn N)) → MayComeAll one_turn ps (first_world nothing told (pair_loaded page))
    → (n : ℕ) → PairFits (after_parts one_turn (take n ps) (first_world nothing told (pair_loaded page)))

-- there is room for the steps on all that is on its way up
abbrev pub HasRoomToSettle : {N L : Type 0} → (N → N) → PairWorld N L → Type 0
HasRoomToSettle one_turn w =
    RoomToSettle (pair_machine pair_reads client_steps one_turn) (BothHaveRoom pair_reads client_steps IsSessionNumber HasRoomFor) w

-- Once all that was sent up was taken in, nothing waits for an answer.
abbrev pub PairsShown : Type 0 → Type 0 → Type 0
PairsShown N L = (w : PairWorld N L) → awaited w.up ≡ [] → PairFits w → BothShown w

-- It was, after a settle.
abbrev pub PairsSettle : Type 0 → Type 0 → Type 0
PairsSettle N L = (one_turn : N → N) (w : PairWorld N L) → PairFits w → HasRoomToSettle one_turn w
    → BothShown (settled (pair_step pair_reads client_steps) w)
