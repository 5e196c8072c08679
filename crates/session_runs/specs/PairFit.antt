-- What ties two front ends to two sessions, by what ties one front end to one client.
use Rattle.std.specs.Prelude.{◌≡◌, ℕ, ◌<◌, ◌≤◌, true, false, List, [], ◌∷◌, ◌++◌, ⊤, All, Option, Some, None, Ok}
use Rattle.pipe_frames.specs.Frames.{IsText, frames_of}
use Rattle.session_runs.specs.Fold.{folded}
use Rattle.session_runs.specs.Pairs.{Way, to_root, to_session, attaches, detaches, bare, of_session, attach, detach, session_made}
use Rattle.session_runs.specs.Pairs.{session_dropped, WaitingTarget, FrontReads, Second, FrontPair, asks_of_session, ClientPair}
use Rattle.session_runs.specs.Pairs.{ClientSteps}

-- ---- frames that wait

module _ {V E A T : Type 0} (r : FrontReads V E A T) where
  -- What the fold of one front end keeps.
  pub record ReadLaws : Type 0 where
    -- an ask more that waits changes nothing of what is taken meanwhile
    pub later : (more : List A) (v w : V) (frame : List ℕ) → r.take v frame ≡ Ok w → r.take (r.join v more) frame ≡ Ok (r.join w more)
    -- asks join one after the other
    pub joins : (v : V) (first second : List A) → r.join (r.join v first) second ≡ r.join v (first ++ second)
    -- a text of a session is the same as itself
    pub same_all : (t : T) → r.same t t ≡ true

  -- an id is none of an attach or a detach
  abbrev pub IsNoTarget : Option ℕ → Type 0
  IsNoTarget None = ⊤
  IsNoTarget (Some id) = r.is_target id ≡ false

  -- the asks of a frame of the root
  abbrev pub root_asked : Way T → List A
  root_asked (to_root text) = r.asks text
  root_asked (to_session t text) = []
  root_asked (attaches id) = []
  root_asked (detaches id t) = []

  -- the asks of a frame of a session
  abbrev pub session_asked : Way T → List A
  session_asked (to_root text) = []
  session_asked (to_session t text) = r.asks text
  session_asked (attaches id) = []
  session_asked (detaches id t) = []

  -- the asks of the root among some frames
  abbrev pub root_asks : List (List ℕ) → List A
  root_asks [] = []
  root_asks (frame ∷ frames) = root_asked (r.way frame) ++ root_asks frames

  -- the asks of sessions among some frames
  abbrev pub session_asks : List (List ℕ) → List A
  session_asks [] = []
  session_asks (frame ∷ frames) = session_asked (r.way frame) ++ session_asks frames

-- ---- what may be sent

module _ {V E A P C D X T : Type 0} (r : FrontReads V E A T) (b : ClientSteps P C D X T) where
  -- An attach may be sent where no session is attached, a detach where its session is; the command waits then.
  pub data MayTarget : Option ℕ → Way T → WaitingTarget → Type 0 where
    may_attach : (id : ℕ) → r.is_target id ≡ true → MayTarget None (attaches id) (record { id = id; kind = attach })
    may_detach : (id k : ℕ) → r.is_target id ≡ true
        → MayTarget (Some k) (detaches id (b.text_of k)) (record { id = id; kind = detach })

  module _ (MaySend : List ℕ → Type 0) where
    -- A frame is the root's or the attached session's, and may be sent.
    pub data IsCalm : Option ℕ → Way T → Type 0 where
      calm_root : {attached : Option ℕ} (text : List ℕ) → MaySend text → IsCalm attached (to_root text)
      calm_second : (k : ℕ) (text : List ℕ) → MaySend text → IsCalm (Some k) (to_session (b.text_of k) text)

    -- each of some frames is the root's or the attached session's, and may be sent
    abbrev pub AreCalm : Option ℕ → List (List ℕ) → Type 0
    AreCalm attached [] = ⊤
    AreCalm attached (frame ∷ frames) = IsCalm attached (r.way frame) × AreCalm attached frames

    -- what may be sent next while such frames wait, or while none does
    pub data MaySendNext (s : ClientPair P C) (frames : List (List ℕ)) (frame : List ℕ) : Type 0 where
      next_frame : AreCalm s.attached frames → IsCalm s.attached (r.way frame) → MaySendNext s frames frame
      next_target : (waiting : WaitingTarget) → frames ≡ [] → MayTarget s.attached (r.way frame) waiting → MaySendNext s frames frame

-- ---- one client

module _ {V E A P C D X T : Type 0} (r : FrontReads V E A T) (b : ClientSteps P C D X T) (IsNumber : ℕ → Type 0) where
  -- A frame that a client is told: it has no session and answers no attach and no detach; with the session of a number it is read as that
  -- session's.
  pub record IsWritten (frame : List ℕ) : Type 0 where
    pub id : Option ℕ
    pub is_bare : r.down frame ≡ bare id
    pub no_target : IsNoTarget r id
    pub tagged : (k : ℕ) → IsNumber k → r.down (b.tag (b.text_of k) frame) ≡ of_session (b.text_of k) frame
    pub letters : (k : ℕ) → IsNumber k → IsText (b.tag (b.text_of k) frame)

  -- what is sent takes a front end along, which shows the client then
  pub record LeadsClient (Shows : V → P → C → List A → Type 0) (before : V) (sent : List ℕ) (side : P) (client : C) (asks : List A)
      : Type 0 where
    pub after : V
    pub is_fold : folded r.take before (frames_of sent).whole ≡ Ok after
    pub shows : Shows after side client asks
    pub whole : (frames_of sent).rest ≡ []
    pub written : All IsWritten (frames_of sent).whole

  -- What holds of one client. `Shows v side client asks`: the front end shows just what the client sees, and waits for the answers to
  -- these asks alone. `IsOutward side d after`: what a step is to the page leads the page's side there. `HasRoom`, `MaySend` and `IsTurn`
  -- say when a step may be made, which frames may be sent, and which steps the script may make.
  pub record ClientLaws (HasRoom : P → C → Type 0) (MaySend : List ℕ → Type 0) (IsTurn : X → Type 0) (IsOutward : P → D → P → Type 0)
      (Shows : V → P → C → List A → Type 0) : Type 0 where
    -- a client's own step takes its front end along
    pub owns : (text : List ℕ) (v : V) (side : P) (client : C) (more : List A) → HasRoom side client → MaySend text
        → Shows v side client (r.asks text ++ more)
        → let done = b.own text side client in
        LeadsClient Shows v done.sent done.side done.client more × IsOutward side done.outward done.side
    -- so does what a step of another client is for it
    pub outsides : (d : D) (v : V) (side after : P) (client : C) (asks : List A) → HasRoom side client → IsOutward side d after
        → Shows v side client asks
        → let done = b.outside d side client in LeadsClient Shows v done.sent after done.client asks
    -- and so does a step of the script, which leads the page's side to the same whoever the client is
    pub acts : (x : X) (v : V) (side : P) (client : C) (asks : List A) → HasRoom side client → IsTurn x → Shows v side client asks
        → let done = b.act x side client in LeadsClient Shows v done.sent done.side done.client asks
    pub acts_alike : (x : X) (side : P) (one two : C) → (b.act x side two).side ≡ (b.act x side one).side
    -- a front end that has taken nothing shows a client that knows nothing
    pub begins : (v : V) (side : P) (client : C) (asks : List A) → Shows v side client asks → Shows r.begin side b.fresh []
    -- asks that join are the last of those that wait
    pub joins : (v : V) (side : P) (client : C) (asks more : List A) → Shows v side client asks
        → Shows (r.join v more) side client (asks ++ more)
    -- sessions have texts of their own
    pub apart : (j k : ℕ) → IsNumber j → IsNumber k → r.same (b.text_of j) (b.text_of k) ≡ true → j ≡ k
    -- the reply to an attach has no session, and says that this session was attached
    pub attached_down : (id k : ℕ) → r.is_target id ≡ true → IsNumber k → r.down (b.attach_reply id k) ≡ bare (Some id)
    pub attached_letters : (id k : ℕ) → r.is_target id ≡ true → IsNumber k → IsText (b.attach_reply id k)
    pub attached_says : (id k : ℕ) → r.is_target id ≡ true → IsNumber k
        → r.outcome attach (b.attach_reply id k) ≡ Ok (session_made (b.text_of k) k)
    -- the reply to a detach has none, and says that the session was detached
    pub detached_down : (id : ℕ) → r.is_target id ≡ true → r.down (b.detach_reply id) ≡ bare (Some id)
    pub detached_letters : (id : ℕ) → r.is_target id ≡ true → IsText (b.detach_reply id)
    pub detached_says : (id : ℕ) → r.is_target id ≡ true → r.outcome detach (b.detach_reply id) ≡ Ok session_dropped

  -- ---- both

  -- both sessions have room, and a session more could be numbered
  abbrev pub BothHaveRoom : (P → C → Type 0) → ClientPair P C → Type 0
  BothHaveRoom HasRoom s = HasRoom s.side s.root × HasRoom s.side s.second × IsNumber s.next

  -- where no session is attached the second client knows nothing; the number of one that is attached was told
  abbrev pub AttachedIsTold : C → ℕ → Option ℕ → Type 0
  AttachedIsTold second top None = second ≡ b.fresh
  AttachedIsTold second top (Some k) = k ≤ top

  module _ (Shows : V → P → C → List A → Type 0) where
    -- A second front end stands just where a session is attached, and shows it.
    pub data TwoFit (side : P) (second : C) (next : ℕ) (asks : List A) : Option (Second V T) → Option ℕ → Type 0 where
      neither : TwoFit side second next asks None None
      both : (k : ℕ) (v : V) → IsNumber k → k < next → Shows v side second asks
          → TwoFit side second next asks (Some (record { text = b.text_of k; value = v })) (Some k)

    module _ (MaySend : List ℕ → Type 0) where
      -- No attach and no detach waits, and the two front ends show the two sessions; no ask was sent of a session that is still to come.
      pub record Calm (p : FrontPair V A T) (s : ClientPair P C) (frames : List (List ℕ)) : Type 0 where
        pub one : Shows p.one s.side s.root (root_asks r frames)
        pub two : TwoFit s.side s.second s.next (session_asks r frames) p.two s.attached
        pub calm : AreCalm r b MaySend s.attached frames
        pub none_waiting : p.waiting ≡ []
        pub top : p.top < s.next
        pub attached_told : AttachedIsTold s.second p.top s.attached
        pub asked : (k : ℕ) → IsNumber k → s.next ≤ k → asks_of_session r (b.text_of k) p.asked ≡ []

      -- An attach or a detach is all that waits, and all else is calm.
      pub record Targeting (p : FrontPair V A T) (s : ClientPair P C) (frames : List (List ℕ)) : Type 0 where
        pub frame : List ℕ
        pub frames_are : frames ≡ frame ∷ []
        pub waiting : WaitingTarget
        pub may_target : MayTarget r b s.attached (r.way frame) waiting
        pub waits : p.waiting ≡ waiting ∷ []
        pub so_far : Calm (record p { waiting = [] }) s []

      -- the front ends fit the sessions, whether a command waits or none
      pub data PairFit (p : FrontPair V A T) (s : ClientPair P C) (frames : List (List ℕ)) : Type 0 where
        is_calm : Calm p s frames → PairFit p s frames
        is_targeting : Targeting p s frames → PairFit p s frames
