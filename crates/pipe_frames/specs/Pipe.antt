-- A pipe of bytes: what was put into it and what came out of it.
use Rattle.std.specs.Prelude.{◌≡◌, ℕ, ◌≤◌, List, ◌++◌, length, take, drop, Result, MatchResult, OnOk}

-- all bytes that were ever sent into a pipe, and all that it ever gave
pub record Pipe : Type 0 where
  pub sent : List ℕ
  pub given : List ℕ

-- a put sends the whole piece at `Ok`, and nothing at `Err`
abbrev pub Puts : {E : Type 0} → Pipe → Pipe → List ℕ → Result (Unit {0}) E → Type 0
Puts old new piece result =
    MatchResult result (λ _. (new.sent ≡ old.sent ++ piece) × (new.given ≡ old.given)) (λ _. new ≡ old)

-- the pipe gives a piece of n bytes, which is what a buffer grows by
pub record GivesPiece (old new : Pipe) (before after : List ℕ) (n : ℕ) : Type 0 where
  pub piece : List ℕ
  pub count : length piece ≡ n
  pub into : after ≡ before ++ piece
  pub given : new.given ≡ old.given ++ piece
  pub sent : new.sent ≡ old.sent

-- a pipe, and a buffer that takes what it gives
pub record Filling : Type 0 where
  pub pipe : Pipe
  pub into : List ℕ

-- the two of them
abbrev pub filling : Pipe → List ℕ → Filling
filling pipe into = record { pipe = pipe; into = into }

-- a get moves at most max bytes into the buffer at `Ok`, and nothing at `Err`
abbrev pub Gets : {E : Type 0} → ℕ → Filling → Filling → Result ℕ E → Type 0
Gets max old new result =
    MatchResult result (λ n. (n ≤ max) × GivesPiece old.pipe new.pipe old.into new.into n)
    (λ _. (new.pipe ≡ old.pipe) × (new.into ≡ old.into))

-- the bytes that were sent and not given, in a pipe that gives what was sent
abbrev pub waiting : Pipe → List ℕ
waiting pipe = drop (length pipe.given) pipe.sent

-- what was given is a prefix of what was sent
abbrev pub GivesPrefix : Pipe → Type 0
GivesPrefix pipe = pipe.sent ≡ pipe.given ++ waiting pipe

-- a get gives the bytes that wait, as many as were asked for and are there
abbrev pub GivesAll : {E : Type 0} → ℕ → Filling → List ℕ → Result ℕ E → Type 0
GivesAll max old after result = OnOk result (after ≡ old.into ++ take max (waiting old.pipe))

-- a pipe has nothing left to give
abbrev pub IsLevel : Pipe → Type 0
IsLevel pipe = pipe.given ≡ pipe.sent

-- what was sent since an earlier moment
abbrev pub sent_since : Pipe → Pipe → List ℕ
sent_since start now = drop (length start.sent) now.sent

-- what was given since an earlier moment
abbrev pub given_since : Pipe → Pipe → List ℕ
given_since start now = drop (length start.given) now.given

-- the pipe as it would be had it been empty at an earlier moment
abbrev pub since : Pipe → Pipe → Pipe
since start now = record { sent = sent_since start now; given = given_since start now }

-- the pipe goes on from an earlier moment: nothing that was sent or given is taken back
pub record Extends (start now : Pipe) : Type 0 where
  pub sent : now.sent ≡ start.sent ++ sent_since start now
  pub given : now.given ≡ start.given ++ given_since start now
