-- What a call that sends leads to, whatever holds of the link and its ends.
use Rattle.std.proofs.Common.{◌≡◌, ◌≤◌, ◌+◌, ℕ, List, [], ◌++◌, length, Result, Ok, Err, sym, ap, ◌∙◌, subst}
use Rattle.std.specs.Result.{OnOk, OnErr}
use Rattle.pipe_frames.specs.Pipe.{Pipe, waiting}
use Rattle.replay_parts.specs.declared.stop.Stop.{Stop}
use Rattle.replay_parts.specs.Stops.{GoesWell}
use Rattle.replay_parts.specs.LinkEnds.{LinkEnds}

-- ---- bytes go up

-- What `send_up` and `send_text` say: the bytes go up, where so many are counted as those that wait, and nothing else changes.
pub record SentUp (result : Result (Unit {0}) Stop) (up down up1 down1 : Pipe) (s s1 : LinkEnds) (bytes : List ℕ) : Type 0 where
  pub sent : OnOk result (up1.sent ≡ up.sent ++ bytes)
  pub given : up1.given ≡ up.given
  pub unsent : OnErr result (up1 ≡ up)
  pub other : down1 ≡ down
  pub count : s.up_there ≤ length (waiting up) → OnOk result (s1.up_there ≡ s.up_there + length bytes)
  pub ends : s1 ≡ record s { up_there = s1.up_there }
  pub never : GoesWell result

-- what holds then, where it went well
pub sent-up : (result : Result (Unit {0}) Stop) (up down up1 down1 : Pipe) (s s1 : LinkEnds) (bytes : List ℕ)
    → SentUp result up down up1 down1 s s1 bytes → (Holds : Pipe → Pipe → LinkEnds → Type 0) → s.up_there ≤ length (waiting up)
    → ((there : ℕ) → up1.sent ≡ up.sent ++ bytes → up1.given ≡ up.given → there ≡ s.up_there + length bytes
    → Holds up1 down (record s { up_there = there }))
    → OnOk result (Holds up1 down1 s1)
sent-up (Ok u) up down up1 down1 s s1 bytes c Holds waits goes =
    subst (λ pipe. Holds up1 pipe s1) (sym c.other)
    (subst (λ x. Holds up1 down x) (sym c.ends) (goes s1.up_there c.sent c.given (c.count waits)))
sent-up (Err stop) up down up1 down1 s s1 bytes c Holds waits goes = tt

-- where it did not, the pipes are as they were
pub unsent-up : (stop : Stop) (up down up1 down1 : Pipe) (s s1 : LinkEnds) (bytes : List ℕ)
    → SentUp (Err stop) up down up1 down1 s s1 bytes → (Holds : Pipe → Pipe → Type 0) → Holds up down → Holds up1 down1
unsent-up stop up down up1 down1 s s1 bytes c Holds here =
    subst (λ pipe. Holds up1 pipe) (sym c.other) (subst (λ pipe. Holds pipe down) (sym c.unsent) here)

-- ---- bytes go down

-- What `send_down` says: the bytes go down, where so many are counted as those that wait, and nothing else changes.
pub record SentDown (result : Result (Unit {0}) Stop) (up down up1 down1 : Pipe) (s s1 : LinkEnds) (bytes : List ℕ) : Type 0 where
  pub sent : OnOk result (down1.sent ≡ down.sent ++ bytes)
  pub given : down1.given ≡ down.given
  pub unsent : OnErr result (down1 ≡ down)
  pub other : up1 ≡ up
  pub count : s.down_there ≤ length (waiting down) → OnOk result (s1.down_there ≡ s.down_there + length bytes)
  pub ends : s1 ≡ record s { down_there = s1.down_there }
  pub never : GoesWell result

-- what holds then, where it went well
pub sent-down : (result : Result (Unit {0}) Stop) (up down up1 down1 : Pipe) (s s1 : LinkEnds) (bytes : List ℕ)
    → SentDown result up down up1 down1 s s1 bytes → (Holds : Pipe → Pipe → LinkEnds → Type 0) → s.down_there ≤ length (waiting down)
    → ((there : ℕ) → down1.sent ≡ down.sent ++ bytes → down1.given ≡ down.given → there ≡ s.down_there + length bytes
    → Holds up1 down1 (record s { down_there = there }))
    → OnOk result (Holds up1 down1 s1)
sent-down (Ok u) up down up1 down1 s s1 bytes c Holds waits goes =
    subst (λ x. Holds up1 down1 x) (sym c.ends) (goes s1.down_there c.sent c.given (c.count waits))
sent-down (Err stop) up down up1 down1 s s1 bytes c Holds waits goes = tt

-- where it did not, the pipes are as they were
pub unsent-down : (stop : Stop) (up down up1 down1 : Pipe) (s s1 : LinkEnds) (bytes : List ℕ)
    → SentDown (Err stop) up down up1 down1 s s1 bytes → (Holds : Pipe → Pipe → Type 0) → Holds up down → Holds up1 down1
unsent-down stop up down up1 down1 s s1 bytes c Holds here =
    subst (λ pipe. Holds pipe down1) (sym c.other) (subst (λ pipe. Holds up pipe) (sym c.unsent) here)

-- as many frames are whole after it
pub same-whole : (s s1 : LinkEnds) → s1 ≡ record s { down_there = s1.down_there } → s.splitter.whole ≡ [] → s1.splitter.whole ≡ []
same-whole s s1 ends none = ap (λ (x : LinkEnds). x.splitter.whole) ends ∙ none
