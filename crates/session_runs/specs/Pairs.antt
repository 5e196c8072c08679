-- Two sessions on one pipe, over any protocol of one client: the state of both, its steps, the two front ends, and the fold of one stream
-- into them.
use Rattle.std.specs.Prelude.{ℕ, ◌+◌, ◌==◌, Bool, cond, ◌&&◌, nat_lt, List, [], ◌∷◌, ◌++◌, Option, Some, None, is_none, option_map}
use Rattle.std.specs.Prelude.{Result, Ok, Err}
use Rattle.std.specs.List.{flat_map}
use Rattle.cdp_json.specs.Lookups.{then_ok}
use Rattle.pipe_frames.specs.Frames.{framed, frames_of}
use Rattle.session_runs.specs.World.{Stepped}

-- ---- frames

-- What a frame that goes up is: one of the root session; one of the session of that text, with its own text without the session; a command
-- that attaches a session, or one that detaches it, by its id.
pub data Way (T : Type 0) : Type 0 where
  to_root : List ℕ → Way T
  to_session : T → List ℕ → Way T
  attaches : ℕ → Way T
  detaches : ℕ → T → Way T

-- What a frame that comes down is: one without a session, and the id of the reply, if it is one; or one of the session of that text,
-- with its own text without the session.
pub data Down (T : Type 0) : Type 0 where
  bare : Option ℕ → Down T
  of_session : T → List ℕ → Down T

-- which of the two commands waits for a reply
pub data TargetKind : Type 0 where
  attach : TargetKind
  detach : TargetKind

-- What the reply to one of them says: nothing was done; a session of that text and number was attached; it was detached.
pub data TargetOutcome (T : Type 0) : Type 0 where
  nothing_done : TargetOutcome T
  session_made : T → ℕ → TargetOutcome T
  session_dropped : TargetOutcome T

-- a command that waits for its reply
pub record WaitingTarget : Type 0 where
  pub id : ℕ
  pub kind : TargetKind

-- the asks of one frame of a session
pub record SessionAsks (A T : Type 0) : Type 0 where
  pub text : T
  pub asks : List A

-- How frames are read. `V` is a front end's value, `A` an ask, `T` the text of a session: what one front end takes and how asks join
-- those that wait for it, one that has taken nothing, whether two texts of sessions are the same, what a frame is that goes up and which
-- asks stand in it, what one is that comes down, which ids are those of commands that attach and detach, what the reply to one says; and
-- the faults of a frame of another session and of a reply that was not asked for.
pub record FrontReads (V E A T : Type 0) : Type 0 where
  pub take : V → List ℕ → Result V E
  pub join : V → List A → V
  pub begin : V
  pub same : T → T → Bool
  pub way : List ℕ → Way T
  pub asks : List ℕ → List A
  pub down : List ℕ → Down T
  pub is_target : ℕ → Bool
  pub outcome : TargetKind → List ℕ → Result (TargetOutcome T) E
  pub strange : E
  pub unasked : E

-- ---- two front ends

-- the second front end, and the text of its session
pub record Second (V T : Type 0) : Type 0 where
  pub text : T
  pub value : V

-- The values of two front ends: the first, the second if there is one, the commands that wait, all asks of sessions that were sent, and
-- the greatest number of a session so far.
pub record FrontPair (V A T : Type 0) : Type 0 where
  pub one : V
  pub two : Option (Second V T)
  pub waiting : List WaitingTarget
  pub asked : List (SessionAsks A T)
  pub top : ℕ

-- two front ends of these parts
abbrev pub front_pair : {V A T : Type 0} → V → Option (Second V T) → List WaitingTarget → List (SessionAsks A T) → ℕ → FrontPair V A T
front_pair one two waiting asked top = record { one = one; two = two; waiting = waiting; asked = asked; top = top }

-- the kind of the first command with that id
abbrev pub kind_waiting : ℕ → List WaitingTarget → Option TargetKind
kind_waiting id [] = None
kind_waiting id (w ∷ ws) = cond (w.id == id) (Some w.kind) (kind_waiting id ws)

-- the commands that wait but for the first with that id
abbrev pub without_id : ℕ → List WaitingTarget → List WaitingTarget
without_id id [] = []
without_id id (w ∷ ws) = cond (w.id == id) ws (w ∷ without_id id ws)

module _ {V E A T : Type 0} (r : FrontReads V E A T) where
  -- the asks of one session among those of all
  abbrev pub asks_of_session : T → List (SessionAsks A T) → List A
  asks_of_session t [] = []
  asks_of_session t (a ∷ more) = cond (r.same a.text t) a.asks [] ++ asks_of_session t more

  -- two front ends with another first one, or its fault
  abbrev pub with_one : Result V E → FrontPair V A T → Result (FrontPair V A T) E
  with_one result p = then_ok result (λ v. Ok (record p { one = v }))

  -- a frame of a session goes to the second front end, where that has this session
  abbrev pub take_two : T → List ℕ → Option (Second V T) → FrontPair V A T → Result (FrontPair V A T) E
  take_two t frame None p = Err r.strange
  take_two t frame (Some w) p =
      cond (r.same w.text t) (then_ok (r.take w.value frame) (λ v. Ok (record p { two = Some (record { text = w.text; value = v }) })))
      (Err r.strange)

  -- What a reply to an attach or a detach does: a second front end begins with the asks of its session that were sent already, where there
  -- is none and the number is greater than all before; or the second front end goes.
  abbrev pub target_done : TargetOutcome T → FrontPair V A T → Result (FrontPair V A T) E
  target_done nothing_done p = Ok p
  target_done (session_made t n) p =
      cond (is_none p.two && nat_lt p.top n)
      (Ok (front_pair p.one (Some (record { text = t; value = r.join r.begin (asks_of_session t p.asked) })) p.waiting p.asked n))
      (Err r.strange)
  target_done session_dropped p = Ok (record p { two = None })

  -- a reply to a command that waits, or to none
  abbrev pub take_target : ℕ → List ℕ → Option TargetKind → FrontPair V A T → Result (FrontPair V A T) E
  take_target id frame None p = Err r.unasked
  take_target id frame (Some kind) p =
      then_ok (r.outcome kind frame) (λ outcome. target_done outcome (record p { waiting = without_id id p.waiting }))

  -- a frame that came down, by what it is: without a session it goes to the first front end, but for a reply to one of the two commands
  abbrev pub take_down : Down T → List ℕ → FrontPair V A T → Result (FrontPair V A T) E
  take_down (of_session t text) frame p = take_two t text p.two p
  take_down (bare None) frame p = with_one (r.take p.one frame) p
  take_down (bare (Some id)) frame p =
      cond (r.is_target id) (take_target id frame (kind_waiting id p.waiting) p) (with_one (r.take p.one frame) p)

  -- a frame that came down
  abbrev pub take_pair : FrontPair V A T → List ℕ → Result (FrontPair V A T) E
  take_pair p frame = take_down (r.down frame) frame p

  -- asks of a session join those of the second front end that has it
  abbrev pub join_two : T → List A → Second V T → Second V T
  join_two t more w = cond (r.same t w.text) (record { text = w.text; value = r.join w.value more }) w

  -- a frame that goes up, by what it is
  abbrev pub join_way : Way T → FrontPair V A T → FrontPair V A T
  join_way (to_root text) p = record p { one = r.join p.one (r.asks text) }
  join_way (to_session t text) p =
      front_pair p.one (option_map (join_two t (r.asks text)) p.two) p.waiting
      (p.asked ++ record { text = t; asks = r.asks text } ∷ []) p.top
  join_way (attaches id) p = record p { waiting = p.waiting ++ record { id = id; kind = attach } ∷ [] }
  join_way (detaches id t) p = record p { waiting = p.waiting ++ record { id = id; kind = detach } ∷ [] }

  -- a frame that goes up
  abbrev pub join_pair : FrontPair V A T → List ℕ → FrontPair V A T
  join_pair p frame = join_way (r.way frame) p

  -- two front ends before anything came: the first alone, which has taken nothing
  abbrev pub first_pair : FrontPair V A T
  first_pair = front_pair r.begin None [] [] 0

-- ---- the two sessions

-- the page's side, two clients, the number of the attached session if there is one, and the next number
pub record ClientPair (P C : Type 0) : Type 0 where
  pub side : P
  pub root : C
  pub second : C
  pub attached : Option ℕ
  pub next : ℕ

-- two clients of these parts
abbrev pub client_pair : {P C : Type 0} → P → C → C → Option ℕ → ℕ → ClientPair P C
client_pair side root second attached next = record { side = side; root = root; second = second; attached = attached; next = next }

-- a step of one client: the side and the client after it, what it sends, and what it is to the page
pub record OwnStep (P C D : Type 0) : Type 0 where
  pub side : P
  pub client : C
  pub sent : List ℕ
  pub outward : D

-- what the step of a client is for another one: this client after it, and what it is sent
pub record OtherStep (C : Type 0) : Type 0 where
  pub client : C
  pub sent : List ℕ

-- How the back end goes on, by one client: its own step on a frame, what a step of another client is for it, and a step of the script; a
-- client that knows nothing; the text of the session of a number, and a message with it; and the messages that answer an attach, a
-- detach, an attach while a session is attached, a detach of none, and a frame of none.
pub record ClientSteps (P C D X T : Type 0) : Type 0 where
  pub own : List ℕ → P → C → OwnStep P C D
  pub outside : D → P → C → OtherStep C
  pub act : X → P → C → OwnStep P C D
  pub fresh : C
  pub text_of : ℕ → T
  pub tag : T → List ℕ → List ℕ
  pub attach_reply : ℕ → ℕ → List ℕ
  pub detach_reply : ℕ → List ℕ
  pub taken_reply : ℕ → List ℕ
  pub none_reply : ℕ → List ℕ
  pub unknown_reply : List ℕ → List ℕ

module _ {V E A P C D X T : Type 0} (r : FrontReads V E A T) (b : ClientSteps P C D X T) where
  -- the frames of some bytes, each with the session of that text
  abbrev pub tagged : T → List ℕ → List ℕ
  tagged t bytes = flat_map (λ frame. framed (b.tag t frame)) (frames_of bytes).whole

  -- what is sent to the second session, where one is attached
  abbrev pub second_sent : Option ℕ → List ℕ → List ℕ
  second_sent None bytes = []
  second_sent (Some k) bytes = tagged (b.text_of k) bytes

  -- the second client while a session is attached, and else one that knows nothing
  abbrev pub second_client : Option ℕ → C → C
  second_client None client = b.fresh
  second_client (Some k) client = client

  -- the step on a frame of the root session: what the second is told stands before what the root is told
  abbrev pub root_step : List ℕ → ClientPair P C → Stepped (ClientPair P C)
  root_step text s =
      let done = b.own text s.side s.root in
      let other = b.outside done.outward s.side s.second in
      record {
        state = client_pair done.side done.client (second_client s.attached other.client) s.attached s.next;
        sent = second_sent s.attached other.sent ++ done.sent;
      }

  -- the step on a frame of the attached session: what the root is told stands before what the second is told
  abbrev pub second_step : ℕ → List ℕ → ClientPair P C → Stepped (ClientPair P C)
  second_step k text s =
      let done = b.own text s.side s.second in
      let other = b.outside done.outward s.side s.root in
      record {
        state = client_pair done.side other.client done.client s.attached s.next;
        sent = other.sent ++ tagged (b.text_of k) done.sent;
      }

  -- a step that sends one text and changes nothing
  abbrev pub answers_with : List ℕ → ClientPair P C → Stepped (ClientPair P C)
  answers_with text s = record { state = s; sent = framed text }

  -- the step on a frame with a session
  abbrev pub session_step : Option ℕ → T → List ℕ → ClientPair P C → Stepped (ClientPair P C)
  session_step None t text s = answers_with (b.unknown_reply text) s
  session_step (Some k) t text s = cond (r.same (b.text_of k) t) (second_step k text s) (answers_with (b.unknown_reply text) s)

  -- the step on an attach
  abbrev pub attach_step : Option ℕ → ℕ → ClientPair P C → Stepped (ClientPair P C)
  attach_step None id s =
      record { state = client_pair s.side s.root b.fresh (Some s.next) (s.next + 1); sent = framed (b.attach_reply id s.next) }
  attach_step (Some k) id s = answers_with (b.taken_reply id) s

  -- the step on a detach
  abbrev pub detach_step : Option ℕ → ℕ → T → ClientPair P C → Stepped (ClientPair P C)
  detach_step None id t s = answers_with (b.none_reply id) s
  detach_step (Some k) id t s =
      cond (r.same (b.text_of k) t)
      (record { state = client_pair s.side s.root b.fresh None s.next; sent = framed (b.detach_reply id) })
      (answers_with (b.none_reply id) s)

  -- the step on a frame, by what it is
  abbrev pub way_step : Way T → ClientPair P C → Stepped (ClientPair P C)
  way_step (to_root text) s = root_step text s
  way_step (to_session t text) s = session_step s.attached t text s
  way_step (attaches id) s = attach_step s.attached id s
  way_step (detaches id t) s = detach_step s.attached id t s

  -- the step on a frame
  abbrev pub pair_step : ClientPair P C → List ℕ → Stepped (ClientPair P C)
  pair_step s frame = way_step (r.way frame) s

  -- the script's own step is one of both sessions: what the root is told stands first
  abbrev pub pair_act : X → ClientPair P C → Stepped (ClientPair P C)
  pair_act x s =
      let done = b.act x s.side s.root in
      let other = b.act x s.side s.second in
      record {
        state = client_pair done.side done.client (second_client s.attached other.client) s.attached s.next;
        sent = done.sent ++ second_sent s.attached other.sent;
      }
