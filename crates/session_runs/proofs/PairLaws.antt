-- Two front ends and two sessions keep the laws of a run, by those of one client.
use Rattle.std.proofs.Common.{◌≡◌, ℕ, ◌<◌, ◌≤◌, ◌==◌, Bool, true, false, cond, List, [], ◌∷◌, ◌++◌, map, All, Option, Some, None, refl, sym}
use Rattle.std.proofs.Common.{◌∙◌, ap, subst, Result, Ok, Err, append_assoc, append-nil, arith}
use Rattle.std.specs.List.{flat_map}
use Rattle.std.proofs.lemmas.List.Elements.{All-head, All-tail}
use Rattle.pipe_frames.specs.Frames.{IsText, Frames, framed, frames_of}
use Rattle.pipe_frames.proofs.FrameLemmas.{frames_of-framed, frames_of-one}
use Rattle.cdp_json.specs.Lookups.{then_ok}
use Rattle.session_runs.specs.World.{Stepped}
use Rattle.session_runs.specs.Fold.{folded, Laws, Leads}
use Rattle.session_runs.specs.Pairs.{Way, to_root, to_session, attaches, detaches, bare, TargetKind, attach, detach, WaitingTarget}
use Rattle.session_runs.specs.Pairs.{TargetOutcome, session_made, session_dropped, target_done, take_target, join_way}
use Rattle.session_runs.specs.Pairs.{SessionAsks, FrontReads, Second, FrontPair, front_pair, asks_of_session, with_one, take_down}
use Rattle.session_runs.specs.Pairs.{take_pair, join_pair}
use Rattle.session_runs.specs.Pairs.{ClientPair, client_pair, ClientSteps, tagged, root_step, second_step, way_step, answers_with}
use Rattle.session_runs.specs.Pairs.{pair_step, pair_act}
use Rattle.session_runs.specs.PairRuns.{pair_machine, NextIsCalm, NextInPair}
use Rattle.session_runs.specs.PairFit.{ReadLaws, BothHaveRoom, IsNoTarget, IsWritten, LeadsClient, ClientLaws, root_asked, session_asked}
use Rattle.session_runs.specs.PairFit.{AttachedIsTold}
use Rattle.session_runs.specs.PairFit.{root_asks, session_asks, IsCalm, calm_root, calm_second}
use Rattle.session_runs.specs.PairFit.{AreCalm, TwoFit, neither, both, Calm, MayTarget, may_attach, may_detach, PairFit, is_calm}
use Rattle.session_runs.specs.PairFit.{is_targeting, next_frame, next_target}
use Rattle.session_runs.proofs.Worlds.{whole-after, rest-after}
use Rattle.session_runs.proofs.Folds.{folded-append}
use Rattle.session_runs.proofs.PairFolds.{asks-later, later-pair}
use Rattle.std.proofs.lemmas.Bool.{eq-eqb, lt-ltb}

module _ {V E A P C D X T : Type 0} (r : FrontReads V E A T) (b : ClientSteps P C D X T) (reads : ReadLaws r) (IsNumber : ℕ → Type 0) where
  -- ---- bytes that take both front ends along

  pub record Goes (p q : FrontPair V A T) (bytes : List ℕ) : Type 0 where
    pub is_fold : folded (take_pair r) p (frames_of bytes).whole ≡ Ok q
    pub whole : (frames_of bytes).rest ≡ []

  pub goes-none : (p : FrontPair V A T) → Goes p p []
  unfolding frames_of
  goes-none p = record { is_fold = refl; whole = refl }

  pub goes-append : (p q s : FrontPair V A T) (first second : List ℕ) → Goes p q first → Goes q s second → Goes p s (first ++ second)
  goes-append p q s first second g h = record {
    is_fold =
        ap (folded (take_pair r) p) (whole-after first second g.whole)
        ∙ folded-append (take_pair r) p (frames_of first).whole (frames_of second).whole
        ∙ ap (λ result. then_ok result (λ next. folded (take_pair r) next (frames_of second).whole)) g.is_fold
        ∙ h.is_fold;
    whole = rest-after first second g.whole ∙ h.whole;
  }

  -- ---- to the first front end

  take-one : (one : V) (o : Option (Second V T)) (ws : List WaitingTarget) (xs : List (SessionAsks A T)) (top : ℕ) (frame : List ℕ)
      → IsWritten r b IsNumber frame → take_pair r (front_pair one o ws xs top) frame ≡ with_one r (r.take one frame)
      (front_pair one o ws xs top)
  take-one one o ws xs top frame written =
      ap (λ d. take_down r d frame (front_pair one o ws xs top)) written.is_bare ∙ at written.id written.no_target
    where
      at : (id : Option ℕ) → IsNoTarget r id
          → take_down r (bare id) frame (front_pair one o ws xs top) ≡ with_one r (r.take one frame) (front_pair one o ws xs top)
      at None none = refl
      at (Some id) none = rw none refl

  fold-one : (one one1 : V) (o : Option (Second V T)) (ws : List WaitingTarget) (xs : List (SessionAsks A T)) (top : ℕ)
      (frames : List (List ℕ))
      → All (IsWritten r b IsNumber) frames → folded r.take one frames ≡ Ok one1
      → folded (take_pair r) (front_pair one o ws xs top) frames ≡ Ok (front_pair one1 o ws xs top)
  fold-one one one1 o ws xs top [] written e = let same : one ≡ one1 = cc in ap (λ v. Ok (front_pair v o ws xs top)) same
  fold-one one one1 o ws xs top (frame ∷ frames) written e =
      ap (λ result. then_ok result (λ next. folded (take_pair r) next frames))
      (take-one one o ws xs top frame (All-head (IsWritten r b IsNumber) frame frames written))
      ∙ (elim (r.take one frame) as (λ (result : Result V E). then_ok result (λ next. folded r.take next frames) ≡ Ok one1
      → then_ok (with_one r result (front_pair one o ws xs top)) (λ next. folded (take_pair r) next frames) ≡ Ok
      (front_pair one1 o ws xs top)) [
        | Ok v ↦ λ h. fold-one v one1 o ws xs top frames (All-tail (IsWritten r b IsNumber) frame frames written) h
        | Err x ↦ λ h. let wrong : ◌≡◌ {A = Result V E} (Err x) (Ok one1) = h in absurd cc
      ]) e

  pub goes-one : (Shows : V → P → C → List A → Type 0) (one : V) (o : Option (Second V T)) (ws : List WaitingTarget)
      (xs : List (SessionAsks A T))
      (top : ℕ) (sent : List ℕ) (side : P) (client : C) (asks : List A) (leads : LeadsClient r b IsNumber Shows one sent side client asks)
      → Goes (front_pair one o ws xs top) (front_pair leads.after o ws xs top) sent
  goes-one Shows one o ws xs top sent side client asks leads = record {
    is_fold = fold-one one leads.after o ws xs top (frames_of sent).whole leads.written leads.is_fold;
    whole = leads.whole;
  }

  -- ---- to the second

  fold-two : (one two two1 : V) (k : ℕ) → IsNumber k → (ws : List WaitingTarget) (xs : List (SessionAsks A T)) (top : ℕ)
      (frames : List (List ℕ))
      → All (IsWritten r b IsNumber) frames → folded r.take two frames ≡ Ok two1
      → folded (take_pair r) (front_pair one (Some (record { text = b.text_of k; value = two })) ws xs top)
      (map (b.tag (b.text_of k)) frames)
      ≡ Ok (front_pair one (Some (record { text = b.text_of k; value = two1 })) ws xs top)
  fold-two one two two1 k small ws xs top [] written e =
      let same : two ≡ two1 = cc in ap (λ v. Ok (front_pair one (Some (record { text = b.text_of k; value = v })) ws xs top)) same
  fold-two one two two1 k small ws xs top (frame ∷ frames) written e =
      let t = b.text_of k in
      let p = front_pair one (Some (record { text = t; value = two })) ws xs top in
      ap (λ d. then_ok (take_down r d (b.tag t frame) p) (λ next. folded (take_pair r) next (map (b.tag t) frames)))
      ((All-head (IsWritten r b IsNumber) frame frames written).tagged k small)
      ∙ ap (λ same. then_ok
      (cond same (then_ok (r.take two frame) (λ v. Ok (front_pair one (Some (record { text = t; value = v })) ws xs top)))
      (Err r.strange)) (λ next. folded (take_pair r) next (map (b.tag t) frames))) (reads.same_all t)
      ∙ (elim (r.take two frame) as (λ (result : Result V E). then_ok result (λ next. folded r.take next frames) ≡ Ok two1
      → then_ok (then_ok result (λ v. Ok (front_pair one (Some (record { text = t; value = v })) ws xs top)))
      (λ next. folded (take_pair r) next (map (b.tag t) frames)) ≡ Ok
      (front_pair one (Some (record { text = t; value = two1 })) ws xs top)) [
        | Ok v ↦ λ h. fold-two one v two1 k small ws xs top frames (All-tail (IsWritten r b IsNumber) frame frames written) h
        | Err x ↦ λ h. let wrong : ◌≡◌ {A = Result V E} (Err x) (Ok two1) = h in absurd cc
      ]) e

  -- the frames of what is tagged
  frames_of-tagged : (k : ℕ) → IsNumber k → (frames : List (List ℕ)) → All (IsWritten r b IsNumber) frames
      → frames_of (flat_map (λ frame. framed (b.tag (b.text_of k) frame)) frames) ≡ record
      { whole = map (b.tag (b.text_of k)) frames; rest = [] }
  unfolding frames_of
  frames_of-tagged k small [] written = refl
  frames_of-tagged k small (frame ∷ frames) written =
      frames_of-framed (b.tag (b.text_of k) frame) (flat_map (λ f. framed (b.tag (b.text_of k) f)) frames)
      ((All-head (IsWritten r b IsNumber) frame frames written).letters k small)
      ∙ ap (λ (fs : Frames). record { whole = b.tag (b.text_of k) frame ∷ fs.whole; rest = fs.rest })
      (frames_of-tagged k small frames (All-tail (IsWritten r b IsNumber) frame frames written))

  pub goes-two : (Shows : V → P → C → List A → Type 0) (one two : V) (k : ℕ) → IsNumber k → (ws : List WaitingTarget)
      (xs : List (SessionAsks A T))
      (top : ℕ) (sent : List ℕ) (side : P) (client : C) (asks : List A) (leads : LeadsClient r b IsNumber Shows two sent side client asks)
      → Goes (front_pair one (Some (record { text = b.text_of k; value = two })) ws xs top)
      (front_pair one (Some (record { text = b.text_of k; value = leads.after })) ws xs top) (tagged r b (b.text_of k) sent)
  goes-two Shows one two k small ws xs top sent side client asks leads =
      let are = frames_of-tagged k small (frames_of sent).whole leads.written in
      record {
        is_fold =
            ap (λ (fs : Frames). folded (take_pair r)
            (front_pair one (Some (record { text = b.text_of k; value = two })) ws xs top) fs.whole) are
            ∙ fold-two one two leads.after k small ws xs top (frames_of sent).whole leads.written leads.is_fold;
        whole = ap (λ (fs : Frames). fs.rest) are;
      }

module _ {V E A P C D X T : Type 0} (r : FrontReads V E A T) (b : ClientSteps P C D X T) (reads : ReadLaws r)
    (HasRoom : P → C → Type 0) (IsNumber : ℕ → Type 0) (MaySend : List ℕ → Type 0) (IsTurn : X → Type 0) (IsOutward : P → D → P → Type 0)
    (Shows : V → P → C → List A → Type 0) (laws : ClientLaws r b IsNumber HasRoom MaySend IsTurn IsOutward Shows) where
  abbrev pub Fit : FrontPair V A T → ClientPair P C → List (List ℕ) → Type 0
  Fit = PairFit r b IsNumber Shows MaySend

  -- what the messages of a step come to
  pub record StepLeads (p : FrontPair V A T) (stepped : Stepped (ClientPair P C)) (frames : List (List ℕ)) : Type 0 where
    pub after : FrontPair V A T
    pub goes : Goes r b reads IsNumber p after stepped.sent
    pub fit : Calm r b IsNumber Shows MaySend after stepped.state frames

  -- ---- a frame of the root

  root-leads : (text : List ℕ) (one : V) (o : Option (Second V T)) (xs : List (SessionAsks A T)) (top : ℕ) (side : P) (root second : C)
      (a : Option ℕ) (next : ℕ) (frames : List (List ℕ)) (asks : List A) → HasRoom side root → HasRoom side second → MaySend text
      → Shows one side root (r.asks text ++ root_asks r frames) → TwoFit r b IsNumber Shows side second next asks o a
      → asks ≡ session_asks r frames → AreCalm r b MaySend a frames → top < next → AttachedIsTold r b IsNumber second top a
      → ((k : ℕ) → IsNumber k → next ≤ k → asks_of_session r (b.text_of k) xs ≡ [])
      → StepLeads (front_pair one o [] xs top) (root_step r b text (client_pair side root second a next)) frames
  root-leads text one _ xs top side root second _ next frames asks room room2 may shows neither same calm low told asked =
      let done = b.own text side root in
      let own = (laws.owns text one side root (root_asks r frames) room may shows).0 in
      record {
        after = front_pair own.after None [] xs top;
        goes = goes-one r b reads IsNumber Shows one None [] xs top done.sent done.side done.client (root_asks r frames) own;
        fit = (record {
          one = own.shows;
          two = neither;
          calm = calm;
          none_waiting = refl;
          top = low;
          attached_told = refl;
          asked = asked;
        });
      }
  root-leads text one _ xs top side root second _ next frames asks room room2 may shows (both k v number few shows2) same calm low told
      asked =
      let done = b.own text side root in
      let owns = laws.owns text one side root (root_asks r frames) room may shows in
      let own = owns.0 in
      let other = b.outside done.outward side second in
      let out = laws.outsides done.outward v side done.side second (session_asks r frames) room2 owns.1
      (subst (λ ys. Shows v side second ys) same shows2) in
      record {
        after = front_pair own.after (Some (record { text = b.text_of k; value = out.after })) [] xs top;
        goes = goes-append r b reads IsNumber (front_pair one (Some (record { text = b.text_of k; value = v })) [] xs top)
            (front_pair one (Some (record { text = b.text_of k; value = out.after })) [] xs top)
            (front_pair own.after (Some (record { text = b.text_of k; value = out.after })) [] xs top)
            (tagged r b (b.text_of k) other.sent) done.sent
            (goes-two r b reads IsNumber Shows one v k number [] xs top other.sent done.side other.client (session_asks r frames) out)
            (goes-one r b reads IsNumber Shows one (Some (record { text = b.text_of k; value = out.after }))
            [] xs top done.sent done.side done.client
            (root_asks r frames) own);
        fit = (record {
          one = own.shows;
          two = both k out.after number few out.shows;
          calm = calm;
          none_waiting = refl;
          top = low;
          attached_told = told;
          asked = asked;
        });
      }

  -- ---- a frame of the attached session

  second-leads : (k : ℕ) → IsNumber k → (text : List ℕ) (one v : V) (xs : List (SessionAsks A T)) (top : ℕ) (side : P) (root second : C)
      (next : ℕ) (frames : List (List ℕ)) → HasRoom side root → HasRoom side second → MaySend text
      → Shows one side root (root_asks r frames) → Shows v side second (r.asks text ++ session_asks r frames)
      → AreCalm r b MaySend (Some k) frames → k < next → top < next → k ≤ top
      → ((k : ℕ) → IsNumber k → next ≤ k → asks_of_session r (b.text_of k) xs ≡ [])
      → StepLeads (front_pair one (Some (record { text = b.text_of k; value = v })) [] xs top)
      (second_step r b k text (client_pair side root second (Some k) next)) frames
  second-leads k number text one v xs top side root second next frames room room2 may shows shows2 calm few low told asked =
      let done = b.own text side second in
      let owns = laws.owns text v side second (session_asks r frames) room2 may shows2 in
      let own = owns.0 in
      let other = b.outside done.outward side root in
      let out = laws.outsides done.outward one side done.side root (root_asks r frames) room owns.1 shows in
      record {
        after = front_pair out.after (Some (record { text = b.text_of k; value = own.after })) [] xs top;
        goes = goes-append r b reads IsNumber (front_pair one (Some (record { text = b.text_of k; value = v })) [] xs top)
            (front_pair out.after (Some (record { text = b.text_of k; value = v })) [] xs top)
            (front_pair out.after (Some (record { text = b.text_of k; value = own.after })) [] xs top)
            other.sent (tagged r b (b.text_of k) done.sent)
            (goes-one r b reads IsNumber Shows one (Some (record { text = b.text_of k; value = v }))
            [] xs top other.sent done.side other.client
            (root_asks r frames) out)
            (goes-two r b reads IsNumber Shows out.after v k number [] xs top done.sent done.side done.client (session_asks r frames) own);
        fit = (record {
          one = out.shows;
          two = both k own.after number few own.shows;
          calm = calm;
          none_waiting = refl;
          top = low;
          attached_told = told;
          asked = asked;
        });
      }

  -- a frame that is calm
  calm-leads : (way : Way T) (one : V) (o : Option (Second V T)) (xs : List (SessionAsks A T)) (top : ℕ) (side : P) (root second : C)
      (a : Option ℕ) (next : ℕ) (frames : List (List ℕ)) → HasRoom side root → HasRoom side second
      → IsCalm r b MaySend a way
      → Shows one side root (root_asked r way ++ root_asks r frames)
      → TwoFit r b IsNumber Shows side second next (session_asked r way ++ session_asks r frames) o a
      → AreCalm r b MaySend a frames → top < next → AttachedIsTold r b IsNumber second top a
      → ((k : ℕ) → IsNumber k → next ≤ k → asks_of_session r (b.text_of k) xs ≡ [])
      → StepLeads (front_pair one o [] xs top) (way_step r b way (client_pair side root second a next)) frames
  calm-leads _ one o xs top side root second a next frames room room2 (calm_root text may) shows two calm low told asked =
      root-leads text one o xs top side root second a next frames (session_asks r frames) room room2 may shows two refl calm low told asked
  calm-leads _ one _ xs top side root second _ next frames room room2 (calm_second k text may) shows
      (both j v number few shows2) calm low told asked =
      let leads = second-leads k number text one v xs top side root second next frames room room2 may shows shows2 calm few low told asked
      in
      subst (λ same. StepLeads (front_pair one (Some (record { text = b.text_of k; value = v })) [] xs top)
      (cond same (second_step r b k text (client_pair side root second (Some k) next))
      (answers_with r b (b.unknown_reply text) (client_pair side root second (Some k) next))) frames)
      (sym (reads.same_all (b.text_of k))) leads

  -- ---- an attach or a detach

  -- one reply is all that came
  goes-reply : (p q : FrontPair V A T) (text : List ℕ) → IsText text → take_pair r p text ≡ Ok q → Goes r b reads IsNumber p q (framed text)
  goes-reply p q text letters e = record {
    is_fold =
        ap (λ (fs : Frames). folded (take_pair r) p fs.whole) (frames_of-one text letters)
        ∙ ap (λ result. then_ok result (λ next. folded (take_pair r) next [])) e;
    whole = ap (λ (fs : Frames). fs.rest) (frames_of-one text letters);
  }

  same-id : (id : ℕ) → (id == id) ≡ true
  same-id id = eq-eqb id id refl

  -- the reply to the one command that waits
  take-reply : (one : V) (o : Option (Second V T)) (xs : List (SessionAsks A T)) (top id : ℕ) (kind : TargetKind) (text : List ℕ)
      (outcome : TargetOutcome T)
      → r.down text ≡ bare (Some id) → r.is_target id ≡ true → r.outcome kind text ≡ Ok outcome
      → take_pair r (front_pair one o (record { id = id; kind = kind } ∷ []) xs top) text ≡ target_done r outcome
      (front_pair one o [] xs top)
  take-reply one o xs top id kind text outcome down target says =
      let p = front_pair one o (record { id = id; kind = kind } ∷ []) xs top in
      ap (λ d. take_down r d text p) down
      ∙ ap (λ t. cond t (take_target r id text (cond (id == id) (Some kind) None) p) (with_one r (r.take one text) p)) target
      ∙ ap (λ same. take_target r id text (cond same (Some kind) None) p) (same-id id)
      ∙ ap (λ same. then_ok (r.outcome kind text)
      (λ x. target_done r x (front_pair one o (cond same [] (record { id = id; kind = kind } ∷ [])) xs top)))
      (same-id id)
      ∙ ap (λ result. then_ok result (λ x. target_done r x (front_pair one o [] xs top))) says

  target-leads : (way : Way T) (w : WaitingTarget) (one : V) (o : Option (Second V T)) (xs : List (SessionAsks A T)) (top : ℕ) (side : P)
      (root second : C) (a : Option ℕ) (next : ℕ) (asks : List A) → MayTarget r b a way w
      → IsNumber next → Shows one side root [] → TwoFit r b IsNumber Shows side second next asks o a → top < next
      → ((k : ℕ) → IsNumber k → next ≤ k → asks_of_session r (b.text_of k) xs ≡ [])
      → StepLeads (front_pair one o (w ∷ []) xs top) (way_step r b way (client_pair side root second a next)) []
  target-leads _ _ one _ xs top side root second _ next asks (may_attach id target) small shows neither low asked =
      let t = b.text_of next in
      let text = b.attach_reply id next in
      let v = r.join r.begin (asks_of_session r t xs) in
      let fresh : Shows v side b.fresh [] =
      subst (λ ys. Shows (r.join r.begin (asks_of_session r t xs)) side b.fresh ys) (asked next small (omega arith))
      (laws.joins r.begin side b.fresh [] (asks_of_session r t xs) (laws.begins one side root [] shows)) in
      record {
        after = front_pair one (Some (record { text = t; value = v })) [] xs next;
        goes = goes-reply (front_pair one None (record { id = id; kind = attach } ∷ []) xs top)
            (front_pair one (Some (record { text = t; value = v })) [] xs next) text (laws.attached_letters id next target small)
            (take-reply one None xs top id attach text (session_made t next) (laws.attached_down id next target small) target
            (laws.attached_says id next target small)
            ∙ ap (λ less. cond {A = Result (FrontPair V A T) E} less
            (Ok (front_pair one (Some (record { text = t; value = v })) [] xs next))
            (Err r.strange)) (lt-ltb top next low));
        fit = (record {
          one = shows;
          two = both next v small (omega arith) fresh;
          calm = tt;
          none_waiting = refl;
          top = omega arith;
          attached_told = omega arith;
          asked = λ k low more. asked k low (omega (arith, more));
        });
      }
  target-leads _ _ one _ xs top side root second _ next asks (may_detach id k target) small shows (both j v number few shows2) low asked =
      let t = b.text_of k in
      let text = b.detach_reply id in
      let p = front_pair one (Some (record { text = t; value = v })) (record { id = id; kind = detach } ∷ []) xs top in
      subst (λ same. StepLeads p (cond same (record { state = client_pair side root b.fresh None next; sent = framed text })
      (answers_with r b (b.none_reply id) (client_pair side root second (Some k) next))) [])
      (sym (reads.same_all t))
      (record {
        after = front_pair one None [] xs top;
        goes = goes-reply p (front_pair one None [] xs top) text (laws.detached_letters id target)
            (take-reply one (Some (record { text = t; value = v })) xs top id detach text session_dropped
            (laws.detached_down id target) target
            (laws.detached_says id target));
        fit = (record {
          one = shows;
          two = neither;
          calm = tt;
          none_waiting = refl;
          top = low;
          attached_told = refl;
          asked = asked;
        });
      })

  -- ---- the script's own step

  -- what a step of the script comes to, whatever waits
  record Acted (x : X) (one : V) (o : Option (Second V T)) (ws : List WaitingTarget) (xs : List (SessionAsks A T)) (top : ℕ)
      (s : ClientPair P C) (asks asks2 : List A) : Type 0 where
    one1 : V
    two1 : Option (Second V T)
    goes : Goes r b reads IsNumber (front_pair one o ws xs top) (front_pair one1 two1 ws xs top) (pair_act r b x s).sent
    shows : Shows one1 (pair_act r b x s).state.side (pair_act r b x s).state.root asks
    two : TwoFit r b IsNumber Shows (pair_act r b x s).state.side (pair_act r b x s).state.second s.next asks2 two1 s.attached
    told : AttachedIsTold r b IsNumber (pair_act r b x s).state.second top s.attached

  act-leads : (x : X) (one : V) (o : Option (Second V T)) (ws : List WaitingTarget) (xs : List (SessionAsks A T)) (top : ℕ) (side : P)
      (root second : C) (a : Option ℕ) (next : ℕ) (asks asks2 : List A) → HasRoom side root → HasRoom side second → IsTurn x
      → Shows one side root asks → TwoFit r b IsNumber Shows side second next asks2 o a → AttachedIsTold r b IsNumber second top a
      → Acted x one o ws xs top (client_pair side root second a next) asks asks2
  act-leads x one _ ws xs top side root second _ next asks asks2 room room2 turn shows neither told =
      let done = b.act x side root in
      let own = laws.acts x one side root asks room turn shows in
      record {
        one1 = own.after;
        two1 = None;
        goes = goes-append r b reads IsNumber (front_pair one None ws xs top) (front_pair own.after None ws xs top)
            (front_pair own.after None ws xs top)
            done.sent [] (goes-one r b reads IsNumber Shows one None ws xs top done.sent done.side done.client asks own)
            (goes-none r b reads IsNumber (front_pair own.after None ws xs top));
        shows = own.shows;
        two = neither;
        told = refl;
      }
  act-leads x one _ ws xs top side root second _ next asks asks2 room room2 turn shows (both k v number few shows2) told =
      let done = b.act x side root in
      let other = b.act x side second in
      let own = laws.acts x one side root asks room turn shows in
      let out = laws.acts x v side second asks2 room2 turn shows2 in
      let two : Option (Second V T) = Some (record { text = b.text_of k; value = v }) in
      let two1 : Option (Second V T) = Some (record { text = b.text_of k; value = out.after }) in
      record {
        one1 = own.after;
        two1 = two1;
        goes = goes-append r b reads IsNumber (front_pair one two ws xs top) (front_pair own.after two ws xs top)
            (front_pair own.after two1 ws xs top)
            done.sent (tagged r b (b.text_of k) other.sent)
            (goes-one r b reads IsNumber Shows one two ws xs top done.sent done.side done.client asks own)
            (goes-two r b reads IsNumber Shows own.after v k number ws xs top other.sent other.side other.client asks2 out);
        shows = own.shows;
        two = both k out.after number few
            (subst (λ side. Shows out.after side other.client asks2) (laws.acts_alike x side root second) out.shows);
        told = told;
      }

  -- ---- what is sent up

  root_asks-last : (frames : List (List ℕ)) (frame : List ℕ)
      → root_asks r (frames ++ frame ∷ []) ≡ root_asks r frames ++ root_asked r (r.way frame)
  root_asks-last [] frame = append-nil (root_asked r (r.way frame))
  root_asks-last (x ∷ frames) frame =
      ap (λ ys. root_asked r (r.way x) ++ ys) (root_asks-last frames frame)
      ∙ sym (append_assoc (root_asked r (r.way x)) (root_asks r frames) (root_asked r (r.way frame)))

  session_asks-last : (frames : List (List ℕ)) (frame : List ℕ)
      → session_asks r (frames ++ frame ∷ []) ≡ session_asks r frames ++ session_asked r (r.way frame)
  session_asks-last [] frame = append-nil (session_asked r (r.way frame))
  session_asks-last (x ∷ frames) frame =
      ap (λ ys. session_asked r (r.way x) ++ ys) (session_asks-last frames frame)
      ∙ sym (append_assoc (session_asked r (r.way x)) (session_asks r frames) (session_asked r (r.way frame)))

  calm-last : (a : Option ℕ) (frames : List (List ℕ)) (frame : List ℕ) → AreCalm r b MaySend a frames
      → IsCalm r b MaySend a (r.way frame) → AreCalm r b MaySend a (frames ++ frame ∷ [])
  calm-last a [] frame calm is = (is, tt)
  calm-last a (x ∷ frames) frame calm is = (calm.0, calm-last a frames frame calm.1 is)

  -- no session that is still to come is asked
  still-none : (k next : ℕ) (more : List A) (xs : List (SessionAsks A T)) → IsNumber k → k < next
      → ((j : ℕ) → IsNumber j → next ≤ j → asks_of_session r (b.text_of j) xs ≡ [])
      → (j : ℕ) → IsNumber j → next ≤ j → asks_of_session r (b.text_of j) (xs ++ record { text = b.text_of k; asks = more } ∷ []) ≡ []
  still-none k next more xs number few asked j small later =
      asks-later r reads (b.text_of j) (b.text_of k) more xs
      ∙ ap (λ ys. ys ++ cond (r.same (b.text_of k) (b.text_of j)) more []) (asked j small later)
      ∙ (elim (r.same (b.text_of k) (b.text_of j)) as (λ (same : Bool).
      r.same (b.text_of k) (b.text_of j) ≡ same → cond same more [] ≡ []) [
        | true ↦ λ is. let e : k ≡ j = laws.apart k j number small is in absurd (omega (arith, e, few, later))
        | false ↦ λ is. refl
      ]) refl

  -- the front ends after it
  record Joined (way : Way T) (p : FrontPair V A T) (s : ClientPair P C) (asks asks2 : List A) : Type 0 where
    one : Shows (join_way r way p).one s.side s.root (asks ++ root_asked r way)
    two : TwoFit r b IsNumber Shows s.side s.second s.next (asks2 ++ session_asked r way) (join_way r way p).two s.attached
    waiting : (join_way r way p).waiting ≡ p.waiting
    top : (join_way r way p).top ≡ p.top
    asked : (k : ℕ) → IsNumber k → s.next ≤ k → asks_of_session r (b.text_of k) (join_way r way p).asked ≡ []

  two-more : (side : P) (second : C) (next : ℕ) (asks : List A) (o : Option (Second V T)) (a : Option ℕ)
      → TwoFit r b IsNumber Shows side second next asks o a → TwoFit r b IsNumber Shows side second next (asks ++ []) o a
  two-more side second next asks o a fit = subst (λ ys. TwoFit r b IsNumber Shows side second next ys o a) (sym (append-nil asks)) fit

  joined-calm : (way : Way T) (one : V) (o : Option (Second V T)) (ws : List WaitingTarget) (xs : List (SessionAsks A T)) (top : ℕ)
      (side : P)
      (root second : C) (a : Option ℕ) (next : ℕ) (asks asks2 : List A) → IsCalm r b MaySend a way
      → Shows one side root asks → TwoFit r b IsNumber Shows side second next asks2 o a
      → ((k : ℕ) → IsNumber k → next ≤ k → asks_of_session r (b.text_of k) xs ≡ [])
      → Joined way (front_pair one o ws xs top) (client_pair side root second a next) asks asks2
  joined-calm _ one o ws xs top side root second a next asks asks2 (calm_root text may) shows two asked = record {
    one = laws.joins one side root asks (r.asks text) shows;
    two = two-more side second next asks2 o a two;
    waiting = refl;
    top = refl;
    asked = asked;
  }
  joined-calm _ one _ ws xs top side root second _ next asks asks2 (calm_second k text may) shows
      (both j v number few shows2) asked = record {
        one = subst (λ ys. Shows one side root ys) (sym (append-nil asks)) shows;
        two = subst (λ same. TwoFit r b IsNumber Shows side second next (asks2 ++ r.asks text)
            (Some (cond same (record { text = b.text_of k; value = r.join v (r.asks text) }) (record { text = b.text_of k; value = v })))
            (Some k))
            (sym (reads.same_all (b.text_of k)))
            (both k (r.join v (r.asks text)) number few (laws.joins v side second asks2 (r.asks text) shows2));
        waiting = refl;
        top = refl;
        asked = still-none k next (r.asks text) xs number few asked;
      }

  abbrev is_frame : Way T → Bool
  is_frame (to_root text) = true
  is_frame (to_session t text) = true
  is_frame (attaches id) = false
  is_frame (detaches id t) = false

  calm-frame : (a : Option ℕ) (way : Way T) → IsCalm r b MaySend a way → is_frame way ≡ true
  calm-frame _ _ (calm_root text may) = refl
  calm-frame _ _ (calm_second k text may) = refl

  target-frame : (a : Option ℕ) (way : Way T) (w : WaitingTarget) → MayTarget r b a way w → is_frame way ≡ false
  target-frame _ _ _ (may_attach id target) = refl
  target-frame _ _ _ (may_detach id k target) = refl

  calm-target : {a : Option ℕ} {way : Way T} {w : WaitingTarget} {Q : Type 0} → IsCalm r b MaySend a way → MayTarget r b a way w → Q
  calm-target {a} {way} {w} c t = let wrong : true ≡ false = sym (calm-frame a way c) ∙ target-frame a way w t in absurd cc

  -- a command that waits
  target-joins : (way : Way T) (w : WaitingTarget) (a : Option ℕ) (p : FrontPair V A T) → MayTarget r b a way w
      → join_way r way p ≡ record p { waiting = p.waiting ++ w ∷ [] }
  target-joins _ _ _ p (may_attach id target) = refl
  target-joins _ _ _ p (may_detach id k target) = refl

  -- ---- the laws of a run

  module _ {N : Type 0} (one_turn : N → N) where
    fit-asks : (n m : N) (ask : List ℕ) (p : FrontPair V A T) (s : ClientPair P C) (frames : List (List ℕ))
        → NextInPair r b one_turn IsNumber HasRoom MaySend IsTurn n s frames ask m → Fit p s frames
        → Fit (join_pair r p ask) s (frames ++ ask ∷ [])
    fit-asks n m ask p s frames (next_frame are is) (is_calm c) =
        let j = joined-calm (r.way ask) p.one p.two p.waiting p.asked p.top s.side s.root s.second s.attached s.next (root_asks r frames)
        (session_asks r frames) is c.one c.two c.asked in
        is_calm (record {
          one = subst (λ ys. Shows (join_pair r p ask).one s.side s.root ys) (sym (root_asks-last frames ask)) j.one;
          two = subst (λ ys. TwoFit r b IsNumber Shows s.side s.second s.next ys (join_pair r p ask).two s.attached)
              (sym (session_asks-last frames ask)) j.two;
          calm = calm-last s.attached frames ask c.calm is;
          none_waiting = j.waiting ∙ c.none_waiting;
          top = subst (λ n. n < s.next) (sym j.top) c.top;
          attached_told = subst (λ n. AttachedIsTold r b IsNumber s.second n s.attached) (sym j.top) c.attached_told;
          asked = j.asked;
        })
    fit-asks n m ask p s frames (next_frame are is) (is_targeting t) =
        let here : AreCalm r b MaySend s.attached (t.frame ∷ []) = subst (AreCalm r b MaySend s.attached) t.frames_are are in
        calm-target here.0 t.may_target
    fit-asks n m ask p s frames (next_target w none is) (is_calm c) =
        let c0 : Calm r b IsNumber Shows MaySend p s [] = subst (λ fs. Calm r b IsNumber Shows MaySend p s fs) none c in
        let joins = target-joins (r.way ask) w s.attached p is in
        is_targeting (record {
          frame = ask;
          frames_are = ap (λ fs. fs ++ ask ∷ []) none;
          waiting = w;
          may_target = is;
          waits = ap (λ (q : FrontPair V A T). q.waiting) joins ∙ ap (λ ws. ws ++ w ∷ []) c.none_waiting;
          so_far = subst (λ (q : FrontPair V A T). Calm r b IsNumber Shows MaySend (record q { waiting = [] }) s []) (sym joins)
              (record {
                one = c0.one;
                two = c0.two;
                calm = c0.calm;
                none_waiting = refl;
                top = c0.top;
                attached_told = c0.attached_told;
                asked = c0.asked;
              });
        })
    fit-asks n m ask p s frames (next_target w none is) (is_targeting t) =
        let wrong : t.frame ∷ [] ≡ [] = sym t.frames_are ∙ none in absurd cc

    as-leads : (p : FrontPair V A T) (stepped : Stepped (ClientPair P C)) (frames : List (List ℕ)) → StepLeads p stepped frames
        → Leads (take_pair r) Fit p stepped frames
    as-leads p stepped frames leads =
        record { after = leads.after; is_fold = leads.goes.is_fold; fit = is_calm leads.fit; whole = leads.goes.whole }

    fit-answers : (n : N) (frame : List ℕ) (p : FrontPair V A T) (s : ClientPair P C) (frames : List (List ℕ))
        → BothHaveRoom r b IsNumber HasRoom s
        → Fit p s (frame ∷ frames) → Leads (take_pair r) Fit p (pair_step r b s frame) frames
    fit-answers n frame p s frames room (is_calm c) =
        subst (λ ws. Leads (take_pair r) Fit (front_pair p.one p.two ws p.asked p.top) (pair_step r b s frame) frames) (sym c.none_waiting)
        (as-leads (front_pair p.one p.two [] p.asked p.top) (pair_step r b s frame) frames
        (calm-leads (r.way frame) p.one p.two p.asked p.top s.side s.root s.second s.attached s.next frames room.0 room.1 c.calm.0 c.one
        c.two c.calm.1 c.top c.attached_told c.asked))
    fit-answers n frame p s frames room (is_targeting t) =
        let same : frame ≡ t.frame = cons-head t.frames_are in
        let none : frames ≡ [] = cons-tail t.frames_are in
        subst (λ fs. Leads (take_pair r) Fit p (pair_step r b s frame) fs) (sym none)
        (subst (λ f. Leads (take_pair r) Fit p (pair_step r b s f) []) (sym same)
        (subst (λ ws. Leads (take_pair r) Fit (front_pair p.one p.two ws p.asked p.top) (pair_step r b s t.frame) []) (sym t.waits)
        (as-leads (front_pair p.one p.two (t.waiting ∷ []) p.asked p.top) (pair_step r b s t.frame) []
        (target-leads (r.way t.frame) t.waiting p.one p.two p.asked p.top s.side s.root s.second s.attached s.next [] t.may_target room.2
        t.so_far.one t.so_far.two t.so_far.top t.so_far.asked))))
      where
        cons-head : {x y : List ℕ} {xs ys : List (List ℕ)} → x ∷ xs ≡ y ∷ ys → x ≡ y
        cons-head e = cc

        cons-tail : {x y : List ℕ} {xs ys : List (List ℕ)} → x ∷ xs ≡ y ∷ ys → xs ≡ ys
        cons-tail e = cc

    fit-turns : (n : N) (x : X) (p : FrontPair V A T) (s : ClientPair P C) (frames : List (List ℕ)) → BothHaveRoom r b IsNumber HasRoom s
        → IsTurn x → Fit p s frames
        → Leads (take_pair r) Fit p (pair_act r b x s) frames
    fit-turns n x p s frames room turn (is_calm c) =
        let acted = act-leads x p.one p.two p.waiting p.asked p.top s.side s.root s.second s.attached s.next (root_asks r frames)
        (session_asks r frames) room.0 room.1 turn c.one c.two c.attached_told in
        record {
          after = front_pair acted.one1 acted.two1 p.waiting p.asked p.top;
          is_fold = acted.goes.is_fold;
          whole = acted.goes.whole;
          fit = is_calm (record {
            one = acted.shows;
            two = acted.two;
            calm = c.calm;
            none_waiting = c.none_waiting;
            top = c.top;
            attached_told = acted.told;
            asked = c.asked;
          });
        }
    fit-turns n x p s frames room turn (is_targeting t) =
        let c = t.so_far in
        let acted = act-leads x p.one p.two p.waiting p.asked p.top s.side s.root s.second s.attached s.next []
        [] room.0 room.1 turn c.one c.two c.attached_told in
        record {
          after = front_pair acted.one1 acted.two1 p.waiting p.asked p.top;
          is_fold = acted.goes.is_fold;
          whole = acted.goes.whole;
          fit = is_targeting (record {
            frame = t.frame;
            frames_are = t.frames_are;
            waiting = t.waiting;
            may_target = t.may_target;
            waits = t.waits;
            so_far = record {
              one = acted.shows;
              two = acted.two;
              calm = tt;
              none_waiting = refl;
              top = c.top;
              attached_told = acted.told;
              asked = c.asked;
            };
          });
        }

    -- Two sessions on one pipe keep the laws of a run.
    pub pair_laws : Laws (pair_machine r b one_turn) (BothHaveRoom r b IsNumber HasRoom)
        (NextInPair r b one_turn IsNumber HasRoom MaySend IsTurn) (λ n. IsTurn) (λ n. Fit)
    pair_laws = record { later = later-pair r reads; asks = fit-asks; answers = fit-answers; turns = fit-turns }

    -- ---- the same while no attach and no detach is on its way

    abbrev pub CalmFit : FrontPair V A T → ClientPair P C → List (List ℕ) → Type 0
    CalmFit = Calm r b IsNumber Shows MaySend

    calm-asks : (n m : N) (ask : List ℕ) (p : FrontPair V A T) (s : ClientPair P C) (frames : List (List ℕ))
        → NextIsCalm r b one_turn IsNumber HasRoom MaySend IsTurn n s frames ask m
        → CalmFit p s frames
        → CalmFit (join_pair r p ask) s (frames ++ ask ∷ [])
    calm-asks n m ask p s frames is c =
        let j = joined-calm (r.way ask) p.one p.two p.waiting p.asked p.top s.side s.root s.second s.attached s.next (root_asks r frames)
        (session_asks r frames) is c.one c.two c.asked in
        record {
          one = subst (λ ys. Shows (join_pair r p ask).one s.side s.root ys) (sym (root_asks-last frames ask)) j.one;
          two = subst (λ ys. TwoFit r b IsNumber Shows s.side s.second s.next ys (join_pair r p ask).two s.attached)
              (sym (session_asks-last frames ask)) j.two;
          calm = calm-last s.attached frames ask c.calm is;
          none_waiting = j.waiting ∙ c.none_waiting;
          top = subst (λ n. n < s.next) (sym j.top) c.top;
          attached_told = subst (λ n. AttachedIsTold r b IsNumber s.second n s.attached) (sym j.top) c.attached_told;
          asked = j.asked;
        }

    as-calm : (p : FrontPair V A T) (stepped : Stepped (ClientPair P C)) (frames : List (List ℕ)) → StepLeads p stepped frames
        → Leads (take_pair r) CalmFit p stepped frames
    as-calm p stepped frames leads =
        record { after = leads.after; is_fold = leads.goes.is_fold; fit = leads.fit; whole = leads.goes.whole }

    calm-answers : (n : N) (frame : List ℕ) (p : FrontPair V A T) (s : ClientPair P C) (frames : List (List ℕ))
        → BothHaveRoom r b IsNumber HasRoom s
        → CalmFit p s (frame ∷ frames) → Leads (take_pair r) CalmFit p (pair_step r b s frame) frames
    calm-answers n frame p s frames room c =
        subst (λ ws. Leads (take_pair r) CalmFit (front_pair p.one p.two ws p.asked p.top) (pair_step r b s frame) frames)
        (sym c.none_waiting)
        (as-calm (front_pair p.one p.two [] p.asked p.top) (pair_step r b s frame) frames
        (calm-leads (r.way frame) p.one p.two p.asked p.top s.side s.root s.second s.attached s.next frames room.0 room.1 c.calm.0 c.one
        c.two c.calm.1 c.top c.attached_told c.asked))

    calm-turns : (n : N) (x : X) (p : FrontPair V A T) (s : ClientPair P C) (frames : List (List ℕ)) → BothHaveRoom r b IsNumber HasRoom s
        → IsTurn x → CalmFit p s frames
        → Leads (take_pair r) CalmFit p (pair_act r b x s) frames
    calm-turns n x p s frames room turn c =
        let acted = act-leads x p.one p.two p.waiting p.asked p.top s.side s.root s.second s.attached s.next (root_asks r frames)
        (session_asks r frames) room.0 room.1 turn c.one c.two c.attached_told in
        record {
          after = front_pair acted.one1 acted.two1 p.waiting p.asked p.top;
          is_fold = acted.goes.is_fold;
          whole = acted.goes.whole;
          fit = record {
            one = acted.shows;
            two = acted.two;
            calm = c.calm;
            none_waiting = c.none_waiting;
            top = c.top;
            attached_told = acted.told;
            asked = c.asked;
          };
        }

    pub calm_laws : Laws (pair_machine r b one_turn) (BothHaveRoom r b IsNumber HasRoom)
        (NextIsCalm r b one_turn IsNumber HasRoom MaySend IsTurn) (λ n. IsTurn) (λ n. CalmFit)
    calm_laws = record { later = later-pair r reads; asks = calm-asks; answers = calm-answers; turns = calm-turns }
