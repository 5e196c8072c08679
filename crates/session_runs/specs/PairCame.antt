-- What came to each of two front ends, and what they show but for what is fetched.
use Rattle.std.specs.Prelude.{◌≡◌, ℕ, Bool, true, false, cond, nat_lt, List, [], ◌∷◌, ◌++◌, Option, Some, None, option_map, Ok}
use Rattle.session_runs.specs.Pairs.{Down, bare, of_session, TargetKind, session_made, SessionAsks, FrontReads, Second, FrontPair}
use Rattle.session_runs.specs.Pairs.{front_pair}

-- ---- which frames come to which

module _ {V E A T : Type 0} (r : FrontReads V E A T) where
  -- a frame that came down is the first front end's where it has no session, and is no reply to an attach or a detach
  abbrev pub of_first : List ℕ → Down T → List (List ℕ)
  of_first frame (bare None) = frame ∷ []
  of_first frame (bare (Some id)) = cond (r.is_target id) [] (frame ∷ [])
  of_first frame (of_session t text) = []

  -- the first front end's among some frames
  abbrev pub first_came : List (List ℕ) → List (List ℕ)
  first_came [] = []
  first_came (frame ∷ frames) = of_first frame (r.down frame) ++ first_came frames

  -- a frame of the session of that text, without its session
  abbrev pub of_that : T → Down T → List (List ℕ)
  of_that t (bare id) = []
  of_that t (of_session u text) = cond (r.same u t) (text ∷ []) []

  -- those of the session of that text among some frames
  abbrev pub session_came : T → List (List ℕ) → List (List ℕ)
  session_came t [] = []
  session_came t (frame ∷ frames) = of_that t (r.down frame) ++ session_came t frames

-- ---- sessions that are still to come

-- a session is still to come where its number is greater than the greatest so far
abbrev pub is_to_come : ℕ → Option ℕ → Bool
is_to_come top None = false
is_to_come top (Some n) = nat_lt top n

-- the asks of such sessions among some, by the number that the text of a session has
abbrev pub asks_to_come : {A T : Type 0} → (T → Option ℕ) → ℕ → List (SessionAsks A T) → List (SessionAsks A T)
asks_to_come number top [] = []
asks_to_come number top (a ∷ more) = cond (is_to_come top (number a.text)) (a ∷ asks_to_come number top more) (asks_to_come number top more)

-- ---- what is seen of two front ends

-- the same of one that has a session
abbrev pub second_seen : {V U T : Type 0} → (V → U) → Second V T → Second U T
second_seen seen w = record { text = w.text; value = seen w.value }

-- What two front ends show, by what one shows: both, the commands that wait, and the asks of sessions that are still to come.
abbrev pub pair_seen : {V U A T : Type 0} → (V → U) → (T → Option ℕ) → FrontPair V A T → FrontPair U A T
pair_seen seen number p =
    front_pair (seen p.one) (option_map (second_seen seen) p.two) p.waiting (asks_to_come number p.top p.asked) p.top

-- The test tells texts of sessions apart, and each session that the reply to an attach makes is numbered as the reply says.
pub record NumberLaws {V E A T : Type 0} (r : FrontReads V E A T) (number : T → Option ℕ) : Type 0 where
  pub same_is : (t u : T) → r.same t u ≡ true → t ≡ u
  pub same_all : (t : T) → r.same t t ≡ true
  pub made : (kind : TargetKind) (frame : List ℕ) (t : T) (n : ℕ) → r.outcome kind frame ≡ Ok (session_made t n) → number t ≡ Some n
