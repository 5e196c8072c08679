-- What a front end shows of a client, what it may send, and when a step may be made.
use Rattle.std.specs.Prelude.{◌≡◌, ℕ, ◌<◌, false, List, map, Some}
use Rattle.node_tree.specs.Numbers.{drawn_before_step}
use Rattle.front_mirror.specs.declared.replies.Ask.{Ask}
use Rattle.front_mirror.specs.Front.{FrontValue}
use Rattle.front_mirror.specs.Laws.{Has}
use Rattle.back_end.specs.States.{Side, view_of, IsState}
use Rattle.back_end.specs.Laws.{HasRoom}
use Rattle.inspect_world.specs.Fits.{ask_of_frame, Sendable, kept_styles}
use Rattle.multi_replay.specs.Incoming.{is_target_id}
use Rattle.pair_world.specs.Clients.{RunClient, state_of}

-- a number of a session: from 1 on, and so low that a message carries it
abbrev pub IsSessionNumber : ℕ → Type 0
IsSessionNumber k = (0 < k) × (k < drawn_before_step)

-- there is room for a step of the client
abbrev pub HasRoomFor : Side → RunClient → Type 0
HasRoomFor side c = HasRoom (state_of side c)

-- A frame that a front end may send: an ask, which has no id of a command that attaches or detaches, or one that names no ask.
pub record MaySend (frame : List ℕ) : Type 0 where
  pub sendable : Sendable frame
  pub no_target : (ask : Ask) → ask_of_frame frame ≡ Some ask → is_target_id ask.id ≡ false

-- The front end shows just what the client sees, has kept the matched styles that it was told, and waits for these asks; and the state
-- is valid.
pub record Shows (v : FrontValue) (side : Side) (c : RunClient) (asks : List Ask) : Type 0 where
  pub has : Has v (view_of (state_of side c))
  pub styles : map kept_styles v.matched ≡ c.styles
  pub waiting : asks ≡ v.asks
  pub is_state : IsState (state_of side c)
