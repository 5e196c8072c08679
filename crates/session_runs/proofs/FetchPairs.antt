-- A step of one of two clients that leaves the page and both clients as they are, and tells its front end alone.
use Rattle.std.proofs.Common.{◌≡◌, ℕ, cond, List, [], ◌∷◌, ◌++◌, Option, Some, None, option_map, refl, sym, ◌∙◌, ap, Result, Ok}
use Rattle.pipe_frames.specs.Frames.{frames_of}
use Rattle.session_runs.specs.World.{Stepped}
use Rattle.session_runs.specs.Fold.{folded}
use Rattle.session_runs.specs.Pairs.{to_root, to_session, FrontReads, FrontPair, front_pair, take_pair, join_two, join_way}
use Rattle.session_runs.specs.Pairs.{join_pair, ClientPair, client_pair, ClientSteps, OtherStep, tagged, second_sent, second_client}
use Rattle.session_runs.specs.Pairs.{root_step}
use Rattle.session_runs.specs.Pairs.{second_step, answers_with, session_step, way_step, pair_step}
use Rattle.session_runs.specs.PairFit.{ReadLaws, LeadsClient, AttachedIsTold}
use Rattle.session_runs.proofs.PairLaws.{goes-one, goes-two}

module _ {V E A P C D X T : Type 0} (r : FrontReads V E A T) (b : ClientSteps P C D X T) (reads : ReadLaws r) (IsNumber : ℕ → Type 0)
    (Shows : V → P → C → List A → Type 0) where
  -- The step of a client on a text changes neither the page nor the client, and is nothing for any other one.
  pub record LeavesAll (text : List ℕ) (side : P) (client : C) : Type 0 where
    pub side_is : (b.own text side client).side ≡ side
    pub client_is : (b.own text side client).client ≡ client
    pub others : (other : C) → b.outside (b.own text side client).outward side other ≡ record { client = other; sent = [] }

  -- what that comes to: the sessions are as they were, and the front ends are these
  pub record IsTold (s : ClientPair P C) (frame : List ℕ) (after told : FrontPair V A T) : Type 0 where
    pub state_is : (pair_step r b s frame).state ≡ s
    pub front_is : after ≡ told

  same-second : (a : Option ℕ) (second : C) (top : ℕ) → AttachedIsTold r b IsNumber second top a → second_client r b a second ≡ second
  same-second None second top told = sym told
  same-second (Some k) second top told = refl

  none-sent : (a : Option ℕ) → second_sent r b a [] ≡ []
  unfolding frames_of
  none-sent None = refl
  none-sent (Some k) = refl

  root-leaves : (text : List ℕ) (s : ClientPair P C) (top : ℕ) → LeavesAll text s.side s.root
      → AttachedIsTold r b IsNumber s.second top s.attached
      → root_step r b text s ≡ record { state = s; sent = (b.own text s.side s.root).sent }
  root-leaves text s top leaves told =
      let sent = (b.own text s.side s.root).sent in
      let other = b.outside (b.own text s.side s.root).outward s.side s.second in
      let second_is : second_client r b s.attached other.client ≡ s.second =
      ap (λ (o : OtherStep C). second_client r b s.attached o.client) (leaves.others s.second) ∙ same-second s.attached s.second top told in
      let sent_is : second_sent r b s.attached other.sent ++ sent ≡ sent =
      ap (λ (o : OtherStep C). second_sent r b s.attached o.sent ++ sent) (leaves.others s.second)
      ∙ ap (λ bytes. bytes ++ sent) (none-sent s.attached) in
      λ i. record {
        state = client_pair (leaves.side_is i) (leaves.client_is i) (second_is i) s.attached s.next;
        sent = sent_is i;
      }

  second-leaves : (k : ℕ) (text : List ℕ) (s : ClientPair P C) → LeavesAll text s.side s.second
      → second_step r b k text s ≡ record { state = s; sent = tagged r b (b.text_of k) (b.own text s.side s.second).sent }
  second-leaves k text s leaves =
      let sent = tagged r b (b.text_of k) (b.own text s.side s.second).sent in
      let other_is = leaves.others s.root in
      λ i. record {
        state = client_pair (leaves.side_is i) (other_is i).client (leaves.client_is i) s.attached s.next;
        sent = (other_is i).sent ++ sent;
      }

  ok-same : (p q : FrontPair V A T) → ◌≡◌ {A = Result (FrontPair V A T) E} (Ok p) (Ok q) → p ≡ q
  ok-same p q e = cc

  -- a frame of the root
  pub root-told : (frame text : List ℕ) (p after : FrontPair V A T) (s : ClientPair P C) (side : P) (client : C) (asks : List A)
      → r.way frame ≡ to_root text → LeavesAll text s.side s.root → AttachedIsTold r b IsNumber s.second p.top s.attached
      → (leads : LeadsClient r b IsNumber Shows (r.join p.one (r.asks text)) (b.own text s.side s.root).sent side client asks)
      → folded (take_pair r) (join_pair r p frame) (frames_of (pair_step r b s frame).sent).whole ≡ Ok after
      → IsTold s frame after (record p { one = leads.after })
  root-told frame text p after s side client asks way leaves told leads taken =
      let sent = (b.own text s.side s.root).sent in
      let step_is : pair_step r b s frame ≡ record { state = s; sent = sent } =
      ap (λ way. way_step r b way s) way ∙ root-leaves text s p.top leaves told in
      let joined : FrontPair V A T = record p { one = r.join p.one (r.asks text) } in
      let goes = goes-one r b reads IsNumber Shows (r.join p.one (r.asks text)) p.two p.waiting p.asked p.top sent side client asks leads in
      record {
        state_is = ap (λ (d : Stepped (ClientPair P C)). d.state) step_is;
        front_is = ok-same after (record p { one = leads.after })
            (sym taken
            ∙ ap (λ way. folded (take_pair r) (join_way r way p) (frames_of (pair_step r b s frame).sent).whole) way
            ∙ ap (λ (d : Stepped (ClientPair P C)). folded (take_pair r) joined (frames_of d.sent).whole) step_is
            ∙ goes.is_fold);
      }

  -- a frame of the attached session
  pub second-told : (k : ℕ) (frame text : List ℕ) (p after : FrontPair V A T) (s : ClientPair P C) (v : V) (side : P) (client : C)
      (asks : List A) → IsNumber k
      → r.way frame ≡ to_session (b.text_of k) text → p.two ≡ Some (record { text = b.text_of k; value = v }) → s.attached ≡ Some k
      → LeavesAll text s.side s.second
      → (leads : LeadsClient r b IsNumber Shows (r.join v (r.asks text)) (b.own text s.side s.second).sent side client asks)
      → folded (take_pair r) (join_pair r p frame) (frames_of (pair_step r b s frame).sent).whole ≡ Ok after
      → IsTold s frame after
      (front_pair p.one (Some (record { text = b.text_of k; value = leads.after })) p.waiting
      (p.asked ++ record { text = b.text_of k; asks = r.asks text } ∷ []) p.top)
  second-told k frame text p after s v side client asks small way stands attached leaves leads taken =
      let t = b.text_of k in
      let sent = (b.own text s.side s.second).sent in
      let more = p.asked ++ record { text = t; asks = r.asks text } ∷ [] in
      let step_is : pair_step r b s frame ≡ record { state = s; sent = tagged r b t sent } =
      ap (λ way. way_step r b way s) way
      ∙ ap (λ a. session_step r b a t text s) attached
      ∙ ap (λ same. cond same (second_step r b k text s) (answers_with r b (b.unknown_reply text) s)) (reads.same_all t)
      ∙ second-leaves k text s leaves in
      let joined : FrontPair V A T =
      front_pair p.one (Some (record { text = t; value = r.join v (r.asks text) })) p.waiting more p.top in
      let join_is : join_pair r p frame ≡ joined =
      ap (λ way. join_way r way p) way
      ∙ ap (λ o. front_pair p.one (option_map (join_two r t (r.asks text)) o) p.waiting more p.top) stands
      ∙ ap (λ same. front_pair p.one
      (Some (cond same (record { text = t; value = r.join v (r.asks text) }) (record { text = t; value = v }))) p.waiting more p.top)
      (reads.same_all t) in
      let goes =
      goes-two r b reads IsNumber Shows p.one (r.join v (r.asks text)) k small p.waiting more p.top sent side client asks leads in
      record {
        state_is = ap (λ (d : Stepped (ClientPair P C)). d.state) step_is;
        front_is = ok-same after (front_pair p.one (Some (record { text = t; value = leads.after })) p.waiting more p.top)
            (sym taken
            ∙ ap (λ q. folded (take_pair r) q (frames_of (pair_step r b s frame).sent).whole) join_is
            ∙ ap (λ (d : Stepped (ClientPair P C)). folded (take_pair r) joined (frames_of d.sent).whole) step_is
            ∙ goes.is_fold);
      }
