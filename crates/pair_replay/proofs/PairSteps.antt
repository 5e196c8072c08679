-- What one happening more sends to two sessions, and how much it draws for each.
use Rattle.std.proofs.Common.{◌≡◌, ℕ, ◌+◌, ◌*◌, ◌^◌, ◌<◌, ◌≤◌, Bool, true, false, List, [], ◌∷◌, ◌++◌, length, map, Option, Some, None}
use Rattle.std.proofs.Common.{Result, Ok, Err, cond, bytes_eq}
use Rattle.std.proofs.Common.{refl, sym, ◌∙◌, ap, subst, append-nil, append_assoc, mul-le-mul, arith}
use Rattle.cdp_json.specs.declared.fields.Field.{Field}
use Rattle.cdp_json.specs.declared.fields.Field.TheVariants.{Is, Missing, WrongKind}
use Rattle.serde_json.specs.Data.{Members}
use Rattle.page_tree.specs.Forms.{max_nodes}
use Rattle.page_forms.specs.Sheets.{max_sheets}
use Rattle.cdp_messages.specs.declared.command.Why.{Why}
use Rattle.cdp_messages.specs.declared.command.Asked.{Asked}
use Rattle.cdp_messages.specs.declared.command.Refused.{Refused}
use Rattle.cdp_messages.specs.Asked.{asked}
use Rattle.cdp_messages.specs.SessionFrames.{session_asked}
use Rattle.client_views.specs.Moves.{frames_of_moves}
use Rattle.session_mux.specs.declared.router.Routed.{Routed}
use Rattle.session_mux.specs.declared.router.Routed.TheVariants.{Root, Attached, Answered}
use Rattle.session_mux.specs.Sessions.{Sessions, is_attached}
use Rattle.session_mux.specs.Targets.{target_named, attach_refusal, detach_refusal}
use Rattle.session_mux.specs.Routes.{Request, request_of, routing, routing_by, by_session, by_method, by_name}
use Rattle.session_mux.proofs.RouteLemmas.{attached-by-name}
use Rattle.back_end.specs.States.{Side, Client, State, IsState, new_client, view_of}
use Rattle.back_end.specs.Steps.{Step, Turn, asked_step, turn_step}
use Rattle.back_end.specs.Outside.{asked_outward, outside_step, IsOutside}
use Rattle.back_end.specs.Laws.{tree_edits, edits_kept, edits_asked, KeepsAtMost, HasRoom, StepsWell, IsTurn}
use Rattle.back_end.specs.Pairs.{Pair, root_state, second_state, second_client, PairHasRoom, attached_frames, answered_step}
use Rattle.back_end.specs.Pairs.{root_step, attached_step, routed_step, pair_step, pair_turn}
use Rattle.back_end.proofs.OwnTexts.{AskedTexts, frame-texts, session-texts}
use Rattle.back_end.proofs.AskedLemmas.{AskedFits, frame-fits, session-fits}
use Rattle.back_end.proofs.FrameLemmas.{asked-steps-well}
use Rattle.back_end.proofs.StepLemmas.{turn-steps-well}
use Rattle.back_end.proofs.OutsideSteps.{asked-outside}
use Rattle.back_end.proofs.AnswerLemmas.{turn-answers}
use Rattle.session_runs.specs.World.{Stepped}
use Rattle.inspect_world.specs.Links.{Happening, came, made, frames_among, made_among, commands_in, bytes_among}
use Rattle.inspect_world.specs.ShownReplies.{id_asked, reply_id}
use Rattle.inspect_world.proofs.TurnLemmas.{TurnKeeps, turn-keeps}
use Rattle.inspect_world.proofs.CountLemmas.{count-bytes}
use Rattle.pair_world.specs.SessionWays.{attach_method, detach_method}
use Rattle.pair_world.specs.PairLinks.{pair_happening_step, pair_happened, asked_in_session, asked_of_either}
use Rattle.pair_world.specs.PairLinks.{pair_commands_among, DrewOne, DrewBoth}
use Rattle.pair_replay.proofs.SessionSizes.{IsSmall, session-small, root-small}
use Rattle.pair_replay.proofs.OutsideCounts.{DrawsOutside, asked-draws}
use Rattle.pair_replay.proofs.ReplyIds.{IsSent, sent-both, root-sent, session-sent, told-sent, quiet-ids, answered-ids}
use Rattle.pair_replay.proofs.ReplyIds.{session-id, answered-sent, refused_by}

-- ---- the arithmetic of what two sessions draw

-- the session whose command it is
own-ids : (pushed trees pushed1 trees1 c m : ℕ) → pushed1 ≤ pushed + (500000 + trees) → trees1 ≤ trees + 2 → trees ≤ c * 2
    → pushed + trees ≤ (c + m) * 500002 + 200001 * (c * c)
    → pushed1 + trees1 ≤ (c + 1 + m) * 500002 + 200001 * ((c + 1) * (c + 1))
own-ids pushed trees pushed1 trees1 c m few more kept h =
    let square : (c + 1) * (c + 1) ≡ c * c + c * 2 + 1 = grind arith in
    by (c * c) ((c + 1) * (c + 1)) square h
  where
    by : (s t : ℕ) → t ≡ s + c * 2 + 1 → pushed + trees ≤ (c + m) * 500002 + 200001 * s
        → pushed1 + trees1 ≤ (c + 1 + m) * 500002 + 200001 * t
    by s t e h = omega (arith, e, few, more, kept, h)

-- the other session; `trees` are the first one's edits of the tree
other-ids : (before after trees c m : ℕ) → after ≤ before + (500000 + 200001 * trees) → trees ≤ c * 2
    → before ≤ (c + m) * 500002 + 200001 * (c * c)
    → after ≤ (c + 1 + m) * 500002 + 200001 * ((c + 1) * (c + 1))
other-ids before after trees c m few kept h =
    let square : (c + 1) * (c + 1) ≡ c * c + c * 2 + 1 = grind arith in
    by (c * c) ((c + 1) * (c + 1)) square h
  where
    by : (s t : ℕ) → t ≡ s + c * 2 + 1 → before ≤ (c + m) * 500002 + 200001 * s → after ≤ (c + 1 + m) * 500002 + 200001 * t
    by s t e h = omega (arith, e, few, kept, h)

-- a step of the script
turn-ids : (before after squares c m : ℕ) → after ≤ before + 500000 → before ≤ (c + m) * 500002 + squares
    → after ≤ (c + (m + 1)) * 500002 + squares
turn-ids before after squares c m few h = omega (arith, few, h)

-- ---- what one client draws

-- the same counts, written otherwise
same-one : (state : State) {c c1 m m1 b b1 : ℕ} → c1 ≡ c → m1 ≡ m → b1 ≡ b → DrewOne state c m b → DrewOne state c1 m1 b1
same-one state {c} {c1} {m} {m1} {b} {b1} p q r drew =
    subst (λ x. DrewOne state x m1 b1) (sym p) (subst (λ y. DrewOne state c y b1) (sym q) (subst (λ z. DrewOne state c m z) (sym r) drew))

-- one command more that draws nothing here
idle-more : (state : State) (c m b n : ℕ) → DrewOne state c m b → DrewOne state (c + 1) m (b + (n + 1))
idle-more state c m b n d = record {
  ids = other-ids (length state.client.session.pushed + tree_edits state) (length state.client.session.pushed + tree_edits state) 0 c m
      (omega arith) (omega arith) d.ids;
  trees = omega (arith, d.trees);
  edits = omega (arith, d.edits);
}

-- bytes more
bytes-more : (state : State) (c m b n : ℕ) → DrewOne state c m b → DrewOne state c m (b + (n + 1))
bytes-more state c m b n d = record { ids = d.ids; trees = d.trees; edits = omega (arith, d.edits) }

count-one : (c : ℕ) (r : Result Asked Refused) (k : ℕ) → commands_in r ≡ k → c + (0 + commands_in r) ≡ c + k
count-one c r k e = omega (arith, e)

count-none : (m : ℕ) → m + 0 ≡ m
count-none m = omega arith

-- so many commands more as that is, none of which draws here
frame-idle : (state : State) (r : Result Asked Refused) (c m b n : ℕ) → DrewOne state c m b
    → DrewOne state (c + (0 + commands_in r)) (m + 0) (b + (0 + (n + 1)))
frame-idle state (Ok a) c m b n d =
    same-one state (count-one c (Ok a) 1 refl) (count-none m) (count-bytes b n) (idle-more state c m b n d)
frame-idle state (Err r) c m b n d =
    same-one state (count-one c (Err r) 0 refl ∙ count-none c) (count-none m) (count-bytes b n) (bytes-more state c m b n d)

-- what is asked draws for its own client
own-drew : (state : State) (r : Result Asked Refused) (c m b n : ℕ) → AskedFits r → AskedTexts r → IsState state → HasRoom state
    → IsSmall r n
    → DrewOne state c m b → DrewOne (asked_step r state).state (c + (0 + commands_in r)) (m + 0) (b + (0 + (n + 1)))
own-drew state (Ok a) c m b n fits texts is room small d =
    let well = asked-steps-well (Ok a) state fits texts is room in
    let w : StepsWell state (asked_step (Ok a) state) = well.0 in
    let keeps : KeepsAtMost (edits_asked (Ok a)) state (asked_step (Ok a) state).state = well.2 in
    same-one (asked_step (Ok a) state).state (count-one c (Ok a) 1 refl) (count-none m) (count-bytes b n) (record {
      ids = own-ids (length state.client.session.pushed) (tree_edits state)
          (length (asked_step (Ok a) state).state.client.session.pushed) (tree_edits (asked_step (Ok a) state).state) c m w.ids w.trees
          d.trees d.ids;
      trees = omega (arith, w.trees, d.trees);
      edits = few (edits_kept state) (edits_kept (asked_step (Ok a) state).state) (edits_asked (Ok a)) keeps small.edits d.edits;
    })
  where
    few : (kept kept1 more : ℕ) → kept1 ≤ kept + more → more ≤ n → kept ≤ b → kept1 ≤ b + (n + 1)
    few kept kept1 more step some h = omega (arith, step, some, h)
own-drew state (Err r) c m b n fits texts is room small d = frame-idle state (Err r) c m b n d

-- and for the other one
other-drew : (first other : State) (r : Result Asked Refused) (c m b n : ℕ) → AskedTexts r → IsState first → HasRoom first → IsState other
    → HasRoom other → other.side ≡ first.side → DrewOne first c m b → DrewOne other c m b
    → DrewOne (outside_step (asked_outward r first) other).state (c + (0 + commands_in r)) (m + 0) (b + (0 + (n + 1)))
other-drew first other (Ok a) c m b n texts is room is2 room2 same d e =
    let done : Step = outside_step (asked_outward (Ok a) first) other in
    let draws : DrawsOutside (tree_edits first) other done = asked-draws (Ok a) first other texts is room is2 room2 same in
    same-one done.state (count-one c (Ok a) 1 refl) (count-none m) (count-bytes b n) (record {
      ids = other-ids (length other.client.session.pushed + tree_edits other)
          (length done.state.client.session.pushed + tree_edits done.state) (tree_edits first) c m draws.ids d.trees e.ids;
      trees = omega (arith, draws.kept, e.trees);
      edits = omega (arith, draws.edits, e.edits);
    })
other-drew first other (Err r) c m b n texts is room is2 room2 same d e =
    let idle = frame-idle other (Err r) c m b n e in record { ids = idle.ids; trees = idle.trees; edits = idle.edits }

-- a client that has asked for nothing yet
fresh-drew : (side : Side) (c m b : ℕ) → DrewOne (record { side = side; client = new_client }) c m b
fresh-drew side c m b = record { ids = omega arith; trees = omega arith; edits = omega arith }

second-drew : (attached : Option ℕ) (side : Side) (client : Client) (c m b : ℕ) → DrewOne (record { side = side; client = client }) c m b
    → DrewOne (record { side = side; client = second_client attached client }) c m b
second-drew None side client c m b d = fresh-drew side c m b
second-drew (Some k) side client c m b d = d

second-given : (attached : Option ℕ) (side : Side) (client : Client) (n : ℕ) → client.searches.given ≤ n
    → (second_client attached client).searches.given ≤ n
second-given None side client n few = omega arith
second-given (Some k) side client n few = few

-- ---- what a step sends

-- The frames of a step of both are whole, and hold the replies to the frames that came, of whichever session: each one reply, with the
-- frame's id.
pub record PairSends (p : Pair) (h : Happening) : Type 0 where
  pub sends : IsSent (pair_happening_step h p).sent (map reply_id (frames_among (h ∷ [])))
  pub drew : (c m b : ℕ) → DrewBoth p c m b
      → DrewBoth (pair_happening_step h p).state (c + pair_commands_among (h ∷ [])) (m + made_among (h ∷ []))
      (b + bytes_among (frames_among (h ∷ [])))
  pub serials : (pair_happening_step h p).state.side.page.next ≤ p.side.page.next + (max_nodes + 1)
  pub numbers : (pair_happening_step h p).state.side.next_sheet ≤ p.side.next_sheet + max_sheets
  pub searches : (root_state (pair_happening_step h p).state).client.searches.given ≤ (root_state p).client.searches.given + 1
  pub second_searches : (second_state (pair_happening_step h p).state).client.searches.given ≤ (second_state p).client.searches.given + 1
  pub sessions : (pair_happening_step h p).state.sessions.next ≤ p.sessions.next + 1

-- the same of any step in the place of that one
record Sending (p : Pair) (h : Happening) (done : Stepped Pair) : Type 0 where
  sends : IsSent done.sent (map reply_id (frames_among (h ∷ [])))
  drew : (c m b : ℕ) → DrewBoth p c m b
      → DrewBoth done.state (c + pair_commands_among (h ∷ [])) (m + made_among (h ∷ [])) (b + bytes_among (frames_among (h ∷ [])))
  serials : done.state.side.page.next ≤ p.side.page.next + (max_nodes + 1)
  numbers : done.state.side.next_sheet ≤ p.side.next_sheet + max_sheets
  searches : (root_state done.state).client.searches.given ≤ (root_state p).client.searches.given + 1
  second_searches : (second_state done.state).client.searches.given ≤ (second_state p).client.searches.given + 1
  sessions : done.state.sessions.next ≤ p.sessions.next + 1

as-step : (p : Pair) (h : Happening) (done : Stepped Pair) → pair_happening_step h p ≡ done → Sending p h done → PairSends p h
as-step p h done is s = by (subst (Sending p h) (sym is) s) where
  by : Sending p h (pair_happening_step h p) → PairSends p h
  by s = record {
    sends = s.sends;
    drew = s.drew;
    serials = s.serials;
    numbers = s.numbers;
    searches = s.searches;
    second_searches = s.second_searches;
    sessions = s.sessions;
  }

-- ---- whose a frame is

attach-next : (why : Option Why) (id : ℕ) (s : Sessions) → (refused_by why id attach_method s).sessions.next ≤ s.next + 1
attach-next None id s = omega arith
attach-next (Some why) id s = omega arith

detach-next : (why : Option Why) (id : ℕ) (s : Sessions) → (refused_by why id detach_method s).sessions.next ≤ s.next + 1
detach-next None id s = omega arith
detach-next (Some why) id s = omega arith

method-next : (attaching detaching : Bool) (id : ℕ) (params : Members) (s : Sessions)
    → (by_method (cond attaching (target_named attach_method) (cond detaching (target_named detach_method) None)) id params s).sessions.next
    ≤ s.next + 1
method-next true detaching id params s = attach-next (attach_refusal params s.attached) id s
method-next false true id params s = detach-next (detach_refusal params s.attached) id s
method-next false false id params s = omega arith

name-next : (b : Bool) (id : ℕ) (s : Sessions) → (by_name b id s).sessions.next ≤ s.next + 1
name-next true id s = omega arith
name-next false id s = omega arith

-- a session is numbered at most
pub few-next : (frame : List ℕ) (s : Sessions) → (routing frame s).sessions.next ≤ s.next + 1
few-next frame s = at (request_of frame) where
  by : (session : Field (List ℕ)) (r : Request) → (by_session session r.id r.method r.params s).sessions.next ≤ s.next + 1
  by Missing r = method-next (bytes_eq attach_method r.method) (bytes_eq detach_method r.method) r.id r.params s
  by WrongKind r = omega arith
  by (Is text) r = name-next (is_attached s.attached text) r.id s

  at : (o : Option Request) → (routing_by o s).sessions.next ≤ s.next + 1
  at None = omega arith
  at (Some r) = by r.session r

-- what the root serves it is asked without a session
root-asks : (frame : List ℕ) (s : Sessions) → (routing frame s).routed ≡ Root
    → asked_of_either frame (request_of frame) ≡ asked frame false
root-asks frame s is = at (request_of frame) is where
  name : (b : Bool) (id : ℕ) (text : List ℕ) → (by_name b id s).routed ≡ Root
      → asked_in_session frame (Is text) ≡ asked frame false
  name true id text e = let no : Attached ≡ Root = e in absurd cc
  name false id text e = let no : Answered ≡ Root = e in absurd cc

  by : (session : Field (List ℕ)) (r : Request) → (by_session session r.id r.method r.params s).routed ≡ Root
      → asked_in_session frame session ≡ asked frame false
  by Missing r e = refl
  by WrongKind r e = let no : Answered ≡ Root = e in absurd cc
  by (Is text) r e = name (is_attached s.attached text) r.id text e

  at : (o : Option Request) → (routing_by o s).routed ≡ Root → asked_of_either frame o ≡ asked frame false
  at None e = refl
  at (Some r) e = by r.session r e

module _ (p : Pair) (root_is : IsState (root_state p)) (second_is : IsState (second_state p)) (room : PairHasRoom p) where
  -- ---- a frame of the root

  root-sends : (frame : List ℕ) → asked_of_either frame (request_of frame) ≡ asked frame false
      → Sending p (came frame) (root_step (asked frame false) p)
  root-sends frame asks =
      let r : Result Asked Refused = asked frame false in
      let texts = frame-texts false frame in
      let well = asked-steps-well r (root_state p) (frame-fits false frame) texts root_is room.root in
      let w : StepsWell (root_state p) (asked_step r (root_state p)) = well.0 in
      let other : Step = outside_step (asked_outward r (root_state p)) (second_state p) in
      let out : IsOutside (asked_step r (root_state p)).state.side (second_state p) other =
      asked-outside r (root_state p) (second_state p) texts root_is room.root second_is room.second refl in
      let draws = asked-draws r (root_state p) (second_state p) texts root_is room.root second_is room.second refl in
      record {
        sends = sent-both (attached_frames p.sessions.attached other.moves) (frames_of_moves (asked_step r (root_state p)).moves) []
            (reply_id frame ∷ [])
            (told-sent p.sessions.attached other.moves (view_of (second_state p)) (view_of other.state) out.course
            (quiet-ids (second_state p) other out.course out.quiet))
            (root-sent (asked_step r (root_state p)).moves (view_of (root_state p)) (view_of (asked_step r (root_state p)).state)
            (reply_id frame ∷ []) w.course
            (answered-ids (root_state p) (asked_step r (root_state p)) r w.course well.1));
        drew = λ c m b d.
            let n = length frame in
            let own = own-drew (root_state p) r c m b n (frame-fits false frame) texts root_is room.root (root-small frame) d.root in
            let two = other-drew (root_state p) (second_state p) r c m b n texts root_is room.root second_is room.second refl d.root
            d.second in
            subst (λ a. DrewBoth (root_step r p).state (c + (0 + commands_in a)) (m + 0) (b + (0 + (n + 1))))
            (sym asks) (record {
              root = record { ids = own.ids; trees = own.trees; edits = own.edits };
              second = second-drew p.sessions.attached (asked_step r (root_state p)).state.side other.state.client
                  (c + (0 + commands_in r)) (m + 0) (b + (0 + (n + 1)))
                  (record { ids = two.ids; trees = two.trees; edits = two.edits });
            });
        serials = w.serials;
        numbers = w.sheets;
        searches = w.searches;
        second_searches = second-given p.sessions.attached p.side other.state.client ((second_state p).client.searches.given + 1)
            draws.searches;
        sessions = omega arith;
      }

  -- ---- a frame of the attached session

  attached-sends : (frame : List ℕ) (k : ℕ) → p.sessions.attached ≡ Some k
      → asked_of_either frame (request_of frame) ≡ session_asked frame → id_asked (session_asked frame) ≡ reply_id frame
      → Sending p (came frame) (attached_step (session_asked frame) p)
  attached-sends frame k is asks id =
      let r : Result Asked Refused = session_asked frame in
      let texts = session-texts frame in
      let own : Step = asked_step r (second_state p) in
      let well = asked-steps-well r (second_state p) (session-fits frame) texts second_is room.second in
      let w : StepsWell (second_state p) own = well.0 in
      let other : Step = outside_step (asked_outward r (second_state p)) (root_state p) in
      let out : IsOutside own.state.side (root_state p) other =
      asked-outside r (second_state p) (root_state p) texts second_is room.second root_is room.root refl in
      let draws = asked-draws r (second_state p) (root_state p) texts second_is room.second root_is room.root refl in
      record {
        sends = sent-both (frames_of_moves other.moves) (attached_frames p.sessions.attached own.moves) [] (reply_id frame ∷ [])
            (root-sent other.moves (view_of (root_state p)) (view_of other.state) [] out.course
            (quiet-ids (root_state p) other out.course out.quiet))
            (subst (λ o. IsSent (attached_frames o own.moves) (reply_id frame ∷ [])) (sym is)
            (session-sent k own.moves (view_of (second_state p)) (view_of own.state) (reply_id frame ∷ []) w.course
            (answered-ids (second_state p) own r w.course well.1 ∙ ap (λ o. o ∷ []) id)));
        drew = λ c m b d.
            let n = length frame in
            let mine = own-drew (second_state p) r c m b n (session-fits frame) texts second_is room.second (session-small frame)
            d.second in
            let two = other-drew (second_state p) (root_state p) r c m b n texts second_is room.second root_is room.root refl d.second
            d.root in
            subst (λ a. DrewBoth (attached_step r p).state (c + (0 + commands_in a)) (m + 0)
            (b + (0 + (n + 1))))
            (sym asks) (record {
              root = record { ids = two.ids; trees = two.trees; edits = two.edits };
              second = record { ids = mine.ids; trees = mine.trees; edits = mine.edits };
            });
        serials = w.serials;
        numbers = w.sheets;
        searches = draws.searches;
        second_searches = w.searches;
        sessions = omega arith;
      }

  -- ---- a frame that is answered at once

  answered-sends : (frame : List ℕ) → (routing frame p.sessions).routed ≡ Answered
      → (routing frame p.sessions).sessions.next ≤ p.sessions.next + 1
      → Sending p (came frame) (answered_step (routing frame p.sessions) p)
  answered-sends frame routed few = record {
    sends = answered-sent frame p.sessions routed;
    drew = λ c m b d.
        let r : Result Asked Refused = asked_of_either frame (request_of frame) in
        let one = frame-idle (root_state p) r c m b (length frame) d.root in
        let two = frame-idle (second_state p) r c m b (length frame) d.second in
        record {
          root = record { ids = one.ids; trees = one.trees; edits = one.edits };
          second = second-drew (routing frame p.sessions).sessions.attached p.side p.second (c + (0 + commands_in r)) (m + 0)
              (b + (0 + (length frame + 1))) (record { ids = two.ids; trees = two.trees; edits = two.edits });
        };
    serials = omega arith;
    numbers = omega arith;
    searches = omega arith;
    second_searches = second-given (routing frame p.sessions).sessions.attached p.side p.second ((second_state p).client.searches.given + 1)
        (omega arith);
    sessions = few;
  }

  -- ---- any frame

  frame-sending : (frame : List ℕ) (routed : Routed) → (routing frame p.sessions).routed ≡ routed
      → Sending p (came frame) (routed_step routed false frame p)
  frame-sending frame Root is = root-sends frame (root-asks frame p.sessions is)
  frame-sending frame Attached is =
      let by = (attached-by-name frame p.sessions).0 is in
      attached-sends frame by.number by.attached (ap (asked_of_either frame) by.is ∙ ap (asked_in_session frame) by.names)
      (session-id frame p.sessions is)
  frame-sending frame Answered is = answered-sends frame is (few-next frame p.sessions)

  pub frame-sends : (frame : List ℕ) → PairSends p (came frame)
  frame-sends frame =
      as-step p (came frame) (pair_step false frame p) refl (frame-sending frame (routing frame p.sessions).routed refl)

  -- ---- a step of the script

  turn-drew : (state : State) (x : Turn) (c m b : ℕ) → IsState state → HasRoom state → IsTurn x → DrewOne state c m b
      → DrewOne (turn_step x state).state (c + 0) (m + (0 + 1)) (b + 0)
  turn-drew state x c m b is room can d =
      let keeps : TurnKeeps state (turn_step x state).state = turn-keeps x state (turn-steps-well state x is room can).0 in
      same-one (turn_step x state).state (count-none c) (turns m) (count-none b) (record {
        ids = turn-ids (length state.client.session.pushed + tree_edits state)
            (length (turn_step x state).state.client.session.pushed + tree_edits (turn_step x state).state) (200001 * (c * c)) c m keeps.ids
            d.ids;
        trees = omega (arith, keeps.trees, d.trees);
        edits = omega (arith, keeps.edits, d.edits);
      })
    where
      turns : (m : ℕ) → m + (0 + 1) ≡ m + 1
      turns m = omega arith

  pub turn-sends : (x : Turn) → IsTurn x → PairSends p (made x)
  turn-sends x can =
      let one : Step = turn_step x (root_state p) in
      let two : Step = turn_step x (second_state p) in
      let well : StepsWell (root_state p) one = (turn-steps-well (root_state p) x root_is room.root can).0 in
      let well2 : StepsWell (second_state p) two = (turn-steps-well (second_state p) x second_is room.second can).0 in
      as-step p (made x) (pair_turn x p) refl (record {
        sends = sent-both (frames_of_moves one.moves) (attached_frames p.sessions.attached two.moves) [] []
            (root-sent one.moves (view_of (root_state p)) (view_of one.state) [] well.course
            (quiet-ids (root_state p) one well.course (turn-answers x (root_state p))))
            (told-sent p.sessions.attached two.moves (view_of (second_state p)) (view_of two.state) well2.course
            (quiet-ids (second_state p) two well2.course (turn-answers x (second_state p))));
        drew = λ c m b d.
            let r = turn-drew (root_state p) x c m b root_is room.root can d.root in
            let q = turn-drew (second_state p) x c m b second_is room.second can d.second in
            record {
              root = record { ids = r.ids; trees = r.trees; edits = r.edits };
              second = second-drew p.sessions.attached one.state.side two.state.client (c + 0) (m + (0 + 1)) (b + 0)
                  (record { ids = q.ids; trees = q.trees; edits = q.edits });
            };
        serials = well.serials;
        numbers = well.sheets;
        searches = well.searches;
        second_searches = second-given p.sessions.attached one.state.side two.state.client ((second_state p).client.searches.given + 1)
            well2.searches;
        sessions = omega arith;
      })

-- ---- one happening more

pub happened-state : (p : Pair) (hs : List Happening) (h : Happening)
    → (pair_happened p (hs ++ h ∷ [])).state ≡ (pair_happening_step h (pair_happened p hs).state).state
happened-state p [] h = refl
happened-state p (first ∷ hs) h = happened-state (pair_happening_step first p).state hs h

pub happened-sent : (p : Pair) (hs : List Happening) (h : Happening)
    → (pair_happened p (hs ++ h ∷ [])).sent ≡ (pair_happened p hs).sent ++ (pair_happening_step h (pair_happened p hs).state).sent
happened-sent p [] h = append-nil (pair_happening_step h p).sent
happened-sent p (first ∷ hs) h =
    let next = (pair_happening_step first p).state in
    ap (λ bytes. (pair_happening_step first p).sent ++ bytes) (happened-sent next hs h)
    ∙ sym (append_assoc (pair_happening_step first p).sent (pair_happened next hs).sent
    (pair_happening_step h (pair_happened next hs).state).sent)

pub commands-last : (hs : List Happening) (h : Happening)
    → pair_commands_among (hs ++ h ∷ []) ≡ pair_commands_among hs + pair_commands_among (h ∷ [])
commands-last [] h = omega arith
commands-last (came frame ∷ hs) h = more (pair_commands_among (hs ++ h ∷ [])) (pair_commands_among hs) (pair_commands_among (h ∷ []))
    (commands_in (asked_of_either frame (request_of frame))) (commands-last hs h)
  where
    more : (both all last one : ℕ) → both ≡ all + last → both + one ≡ all + one + last
    more both all last one e = omega (arith, e)
commands-last (made x ∷ hs) h = commands-last hs h

-- a command of either session has nine bytes with its zero
either-small : (frame : List ℕ) (o : Option Request) → commands_in (asked_of_either frame o) * 9 ≤ length frame + 1
either-small frame None = (root-small frame).commands
either-small frame (Some r) = by r.session where
  by : (session : Field (List ℕ)) → commands_in (asked_in_session frame session) * 9 ≤ length frame + 1
  by Missing = (root-small frame).commands
  by WrongKind = (session-small frame).commands
  by (Is text) = (session-small frame).commands

pub commands-long : (hs : List Happening) → pair_commands_among hs * 9 ≤ bytes_among (frames_among hs)
commands-long [] = omega arith
commands-long (came frame ∷ hs) = more (pair_commands_among hs) (commands_in (asked_of_either frame (request_of frame)))
    (bytes_among (frames_among hs)) (length frame + 1) (commands-long hs) (either-small frame (request_of frame))
  where
    more : (all one bytes frame_bytes : ℕ) → all * 9 ≤ bytes → one * 9 ≤ frame_bytes → (all + one) * 9 ≤ bytes + frame_bytes
    more all one bytes frame_bytes e f = omega (arith, e, f)
commands-long (made x ∷ hs) = commands-long hs

-- ---- room

square-most : (c most : ℕ) → c ≤ most → c * c ≤ most * most
square-most c most few = mul-le-mul few few

pub ids-enough : (pushed trees c m bytes : ℕ) → c * 9 ≤ bytes → bytes < 2 ^ 19 → m ≤ 2 ^ 26
    → pushed + trees ≤ (c + m) * 500002 + 200001 * (c * c) → pushed + 1 < 2 ^ 50
ids-enough pushed trees c m bytes long few few_made drawn =
    let most : c ≤ 58254 = omega (arith, long, few) in
    let square : c * c ≤ 58254 * 58254 = square-most c 58254 most in
    by (c * c) square most drawn
  where
    by : (s : ℕ) → s ≤ 58254 * 58254 → c ≤ 58254 → pushed + trees ≤ (c + m) * 500002 + 200001 * s → pushed + 1 < 2 ^ 50
    by s square most drawn = omega (arith, square, most, few_made, drawn)
