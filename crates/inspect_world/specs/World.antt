-- The run of a replay: what is counted of it, who is told what, and the runs of `session_runs` with these.
use Rattle.std.specs.Prelude.{ℕ, ◌+◌, List, map, Option, Some}
use Rattle.front_mirror.specs.declared.panels.PanelKind.{PanelKind}
use Rattle.session_runs.specs.World.{Stepped, sent_up}
use Rattle.session_runs.specs.World as runs

-- What a run has spent: how many asks, how many fetches and how many other frames the front end has sent, how many steps the
-- script itself has made, and how many edits the asks may have come to.
pub record Spent : Type 0 where
  pub asks : ℕ
  pub fetches : ℕ
  pub raws : ℕ
  pub turns : ℕ
  pub edits : ℕ

-- nothing yet
abbrev pub nothing_spent : Spent
nothing_spent = record { asks = 0; fetches = 0; raws = 0; turns = 0; edits = 0 }

-- one ask more, which may come to so many edits
abbrev pub one_ask : ℕ → Spent → Spent
one_ask edits n = record n { asks = n.asks + 1; edits = n.edits + edits }

-- one fetch more
abbrev pub one_fetch : Spent → Spent
one_fetch n = record n { fetches = n.fetches + 1 }

-- one other frame more
abbrev pub one_raw : Spent → Spent
one_raw n = record n { raws = n.raws + 1 }

-- one step of the script more
abbrev pub one_turn : Spent → Spent
one_turn n = record n { turns = n.turns + 1 }

-- What a run has spent but for fetches: two runs of one script, of which one fetches, spend alike.
pub record PlainlySpent : Type 0 where
  pub asks : ℕ
  pub raws : ℕ
  pub turns : ℕ
  pub edits : ℕ

-- what was spent, without the fetches
abbrev pub plainly : Spent → PlainlySpent
plainly n = record { asks = n.asks; raws = n.raws; turns = n.turns; edits = n.edits }

-- how many of the replies and of the pauses that came were told
pub record AlreadyTold : Type 0 where
  pub replies : ℕ
  pub pauses : ℕ

-- none yet
abbrev pub nothing_told : AlreadyTold
nothing_told = record { replies = 0; pauses = 0 }

-- how much was told so far, and the kinds of the panels that are told of each change of the mirror: none where one was dropped
pub record Audience : Type 0 where
  pub so_far : AlreadyTold
  pub panels : List (Option PanelKind)

-- panels of these kinds, and nothing told so far
abbrev pub audience : List PanelKind → Audience
audience kinds = record { so_far = nothing_told; panels = map Some kinds }

-- a run of this kind over any states
abbrev pub World : Type 0 → Type 0
World S = runs.World S Spent Audience

-- before anything was sent, with panels of these kinds
abbrev pub first_world : {S : Type 0} → List PanelKind → S → World S
first_world kinds state = runs.first_world nothing_spent (audience kinds) state

-- the front end sends an ask, which may come to so many edits
abbrev pub ask_sent : {S : Type 0} → ℕ → List ℕ → World S → World S
ask_sent edits text w = sent_up text (one_ask edits) w

-- the front end sends a frame that is no ask
abbrev pub raw : {S : Type 0} → List ℕ → World S → World S
raw text w = sent_up text one_raw w

-- the script itself makes a step of the state: what it sends goes down, whatever is on its way up
abbrev pub turned : {S X : Type 0} → (X → S → Stepped S) → X → World S → World S
turned act x w = runs.turned one_turn act x w
