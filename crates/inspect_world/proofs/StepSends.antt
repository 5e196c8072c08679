-- What one happening more sends, and pipes and folds that go on.
use Rattle.std.proofs.Common.{Option, ◌≡◌, refl, true, false, ℕ, ◌+◌, ◌-◌, ◌*◌, ◌≤◌, List, [], ◌∷◌, ◌++◌, length, map, drop}
use Rattle.std.proofs.Common.{Some, None, sym, ◌∙◌, ap, subst, append_assoc, append-nil, length-append, length-drop, Result, Ok, Err, arith}
use Rattle.std.specs.List.{flat_map}
use Rattle.std.proofs.Math.Seq.{drop-append_seam}
use Rattle.pipe_frames.specs.Pipe.{Pipe, waiting, sent_since, given_since}
use Rattle.pipe_frames.specs.Frames.{frames_of}
use Rattle.cdp_messages.specs.declared.command.Asked.{Asked}
use Rattle.cdp_messages.specs.declared.command.Refused.{Refused}
use Rattle.cdp_messages.specs.Asked.{asked, method_name}
use Rattle.client_views.specs.Views.{ShownSheet}
use Rattle.client_views.specs.Moves.{failed}
use Rattle.front_mirror.specs.declared.replies.Ask.{Ask}
use Rattle.front_mirror.specs.Front.{FrontValue, first_value, fold}
use Rattle.front_mirror.specs.Laws as front_laws
use Rattle.front_mirror.specs.Laws.{KnowsSheets, InTurn, rests, meets}
use Rattle.front_mirror.specs.declared.sheets.KnownSheet.{KnownSheet}
use Rattle.back_end.specs.States.{State, IsState, view_of}
use Rattle.back_end.specs.Steps.{Step, Turn, asked_step, frame_step, turn_step}
use Rattle.session_runs.specs.World.{Stepped}
use Rattle.inspect_world.specs.StepBytes.{as_bytes}
use Rattle.back_end.specs.Laws.{tree_edits, edits_kept, edits_asked, KeepsAtMost, HasRoom, StepsWell, IsAnswered, IsTurn, reply_ids}
use Rattle.page_tree.specs.Forms.{max_nodes}
use Rattle.page_forms.specs.Sheets.{max_sheets}
use Rattle.inspect_world.specs.Fits.{ask_with, asks_among}
use Rattle.inspect_world.specs.Links.{fold_of, Happening, came, made, happening_step, happened, frames_among, made_among}
use Rattle.inspect_world.specs.Links.{commands_in, commands_among, bytes_among, Drew, PipeGoesOn}
use Rattle.inspect_world.specs.ShownReplies.{ShownReply, reply_shown, replies_among, id_asked, reply_id}
use Rattle.front_mirror.proofs.FoldLemmas.{fold-more}
use Rattle.back_end.proofs.FrameLemmas.{frame-steps-well}
use Rattle.back_end.proofs.StepLemmas.{turn-steps-well}
use Rattle.back_end.proofs.AnswerLemmas.{turn-answers}
use Rattle.inspect_world.proofs.PlainAsks.{ArePlain}
use Rattle.inspect_world.proofs.Replies.{replies-folded}
use Rattle.inspect_world.proofs.StepsTaken.{course-quiet, Taken, taken, tells-all, meets-one, by-refusal, ids-kept}
use Rattle.inspect_world.proofs.AskLemmas.{asks_among-append}
use Rattle.session_runs.proofs.Worlds.{whole-after}
use Rattle.inspect_world.proofs.CountLemmas.{command-ids, command-trees, command-edits, count-bytes, more-bytes, no-more}
use Rattle.inspect_world.proofs.CountLemmas.{made-ids}
use Rattle.inspect_world.proofs.TurnLemmas.{TurnKeeps, turn-keeps}
use Rattle.back_end.proofs.EditSizes.{edits-few}

-- ---- what a step sends

-- The frames of a step are whole, and hold the replies to the frames that came: each one reply, with the frame's id.
pub record Sends (state : State) (h : Happening) : Type 0 where
  pub texts : List (List ℕ)
  pub frames_are : frames_of (happening_step h state).sent ≡ record { whole = texts; rest = [] }
  pub ids_are : map (λ (t : ShownReply). t.id) (replies_among texts) ≡ map reply_id (frames_among (h ∷ []))
  pub drew : (c m b : ℕ) → Drew state c m b
      → Drew (happening_step h state).state (c + commands_among (h ∷ [])) (m + made_among (h ∷ []))
      (b + bytes_among (frames_among (h ∷ [])))
  pub serials : (happening_step h state).state.side.page.next ≤ state.side.page.next + (max_nodes + 1)
  pub numbers : (happening_step h state).state.side.next_sheet ≤ state.side.next_sheet + max_sheets
  pub searches : (happening_step h state).state.client.searches.given ≤ state.client.searches.given + 1

-- sheets whose texts are not known
abbrev unread : List ShownSheet → List KnownSheet
unread ss = map (λ (s : ShownSheet). record { number = s.number; origin = s.origin; text = None; stale = true }) ss

knows-unread : (ss : List ShownSheet) → KnowsSheets (unread ss) ss
knows-unread [] = tt
knows-unread (s ∷ ss) = (record { number = refl; origin = refl; text = λ fresh. absurd cc }, knows-unread ss)

-- a front end that shows what the client sees, and waits for these
abbrev waiting_front : State → List Ask → FrontValue
waiting_front state asks = record (first_value asks) { tree = (view_of state).tree; sheets = unread (view_of state).sheets }

-- the same counts, written otherwise
pub same-drew : (state : State) {c c1 m m1 b b1 : ℕ} → c1 ≡ c → m1 ≡ m → b1 ≡ b → Drew state c m b → Drew state c1 m1 b1
same-drew state {c} {c1} {m} {m1} {b} {b1} p q r drew =
    subst (λ x. Drew state x m1 b1) (sym p) (subst (λ y. Drew state c y b1) (sym q) (subst (λ z. Drew state c m z) (sym r) drew))

-- what the moves of a step send
sends-moves : (state : State) (h : Happening) (done : Step) (asks rest : List Ask) → StepsWell state done
    → happening_step h state ≡ as_bytes done
    → ArePlain asks → InTurn done.moves asks rest → flat_map reply_ids done.moves ≡ map reply_id (frames_among (h ∷ []))
    → ((c m b : ℕ) → Drew state c m b
    → Drew done.state (c + commands_among (h ∷ [])) (m + made_among (h ∷ [])) (b + bytes_among (frames_among (h ∷ []))))
    → Sends state h
sends-moves state h done asks rest well is_step plain in_turn ids drew =
    let t : Taken done (waiting_front state asks) rest = taken state done (waiting_front state asks) rest well.course
    (record { tree = refl; sheets = knows-unread (view_of state).sheets }) in_turn in
    let among : map reply_shown t.after.replies
    ≡ replies_among t.texts = replies-folded t.texts (waiting_front state asks) t.after plain t.is_fold in
    record {
      texts = t.texts;
      frames_are = ap (λ (d : Stepped State). frames_of d.sent) is_step ∙ t.frames_are;
      ids_are =
          ap (map (λ (x : ShownReply). x.id)) (sym among ∙ ap (map reply_shown) t.replies)
          ∙ ids-kept done.moves asks plain ∙ ids;
      drew = λ c m b before.
          subst (λ (d : Stepped State). Drew d.state (c + commands_among (h ∷ [])) (m + made_among (h ∷ []))
          (b + bytes_among (frames_among (h ∷ [])))) (sym is_step) (drew c m b before);
      serials = subst (λ (d : Stepped State). d.state.side.page.next ≤ state.side.page.next + (max_nodes + 1)) (sym is_step) well.serials;
      numbers = subst (λ (d : Stepped State). d.state.side.next_sheet ≤ state.side.next_sheet + max_sheets) (sym is_step) well.sheets;
      searches = subst (λ (d : Stepped State). d.state.client.searches.given ≤ state.client.searches.given + 1) (sym is_step) well.searches;
    }

count-one : (c n : ℕ) → n ≡ 1 → c + (0 + n) ≡ c + 1
count-one c n e = omega (arith, e)

count-none : (c n : ℕ) → n ≡ 0 → c + (0 + n) ≡ c
count-none c n e = omega (arith, e)

-- a command draws, and may keep edits
command-drew : (state : State) (frame : List ℕ) (done : Step) (r : Result Asked Refused) → StepsWell state done
    → KeepsAtMost (edits_asked (asked frame false)) state done.state
    → commands_in r ≡ 1 → asked frame false ≡ r → (c m b : ℕ) → Drew state c m b
    → Drew done.state (c + commands_among (came frame ∷ [])) (m + made_among (came frame ∷ []))
    (b + bytes_among (frames_among (came frame ∷ [])))
command-drew state frame done r well keeps command asks c m b before =
    let one : commands_in (asked frame false) ≡ 1 = ap commands_in asks ∙ command in
    let few : edits_asked (asked frame false) ≤ length frame = edits-few false frame in
    same-drew done.state (count-one c (commands_in (asked frame false)) one) (count-none m 0 refl) (count-bytes b (length frame)) (record {
      ids = command-ids (length state.client.session.pushed) (tree_edits state) (length done.state.client.session.pushed)
          (tree_edits done.state) c m well.ids well.trees before.trees before.ids;
      trees = command-trees (tree_edits state) (tree_edits done.state) c well.trees before.trees;
      edits = command-edits (edits_kept state) (edits_kept done.state) (edits_asked (asked frame false)) b
          (length frame) keeps few before.edits;
    })

-- a frame that is refused changes nothing
refused-drew : (state : State) (frame : List ℕ) (done : Step) → done.state ≡ state → commands_in (asked frame false) ≡ 0 → (c m b : ℕ)
    → Drew state c m b
    → Drew done.state (c + commands_among (came frame ∷ [])) (m + made_among (came frame ∷ []))
    (b + bytes_among (frames_among (came frame ∷ [])))
refused-drew state frame done same none c m b before =
    subst (λ s. Drew s (c + commands_among (came frame ∷ [])) (m + made_among (came frame ∷ []))
    (b + bytes_among (frames_among (came frame ∷ [])))) (sym same)
    (same-drew state (count-none c (commands_in (asked frame false)) none) (count-none m 0 refl) (count-bytes b (length frame))
    (record { ids = before.ids; trees = before.trees; edits = more-bytes (edits_kept state) b (length frame) before.edits }))

-- a step of the script leaves no edit, or changes nothing
made-drew : (state : State) (x : Turn) → StepsWell state (turn_step x state) → (c m b : ℕ) → Drew state c m b
    → Drew (turn_step x state).state (c + commands_among (made x ∷ [])) (m + made_among (made x ∷ []))
    (b + bytes_among (frames_among (made x ∷ [])))
made-drew state x well c m b before =
    let keeps : TurnKeeps state (turn_step x state).state = turn-keeps x state well in
    same-drew (turn_step x state).state (count-none c 0 refl) (count-one m 1 refl) (count-none b 0 refl) (record {
      ids = made-ids (length state.client.session.pushed + tree_edits state)
          (length (turn_step x state).state.client.session.pushed + tree_edits (turn_step x state).state)
          (c * c + c) c m keeps.ids before.ids;
      trees = no-more (tree_edits state) (tree_edits (turn_step x state).state) (c * 2) keeps.trees before.trees;
      edits = no-more (edits_kept state) (edits_kept (turn_step x state).state) b keeps.edits before.edits;
    })

sends-frame : (state : State) (frame : List ℕ) (done : Step) → frame_step false frame state ≡ done → StepsWell state done
    → (r : Result Asked Refused) → asked frame false ≡ r
    → IsAnswered r done.moves → KeepsAtMost (edits_asked (asked frame false)) state done.state → Sends state (came frame)
sends-frame state frame done is well (Ok a) asks answered keeps =
    sends-moves state (came frame) done (ask_with (method_name a.command) a.id ∷ []) [] well (ap as_bytes is) (refl, tt)
    (meets-one done.moves (method_name a.command) a.id [] answered.0 answered.1
    (course-quiet done.moves (view_of state) (view_of done.state) well.course))
    (answered.0 ∙ ap (λ o. id_asked o ∷ []) (sym asks))
    (command-drew state frame done (Ok a) well keeps refl asks)
sends-frame state frame done is well (Err r) asks answered keeps = at r.id refl where
  drew : (c m b : ℕ) → Drew state c m b
      → Drew done.state (c + commands_among (came frame ∷ [])) (m + made_among (came frame ∷ []))
      (b + bytes_among (frames_among (came frame ∷ [])))
  drew = refused-drew state frame done (sym (ap (λ (d : Step). d.state) is) ∙ ap (λ x. (asked_step x state).state) asks)
      (ap commands_in asks)

  ids : flat_map reply_ids done.moves ≡ reply_id frame ∷ []
  ids = ap (flat_map reply_ids) answered ∙ ap (λ o. id_asked o ∷ []) (sym asks)

  at : (o : Option ℕ) → r.id ≡ o → Sends state (came frame)
  at None none = sends-moves state (came frame) done [] [] well (ap as_bytes is) tt (by-refusal [] done.moves r none answered) ids drew
  at (Some id) some =
      sends-moves state (came frame) done (ask_with [] id ∷ []) [] well (ap as_bytes is) (refl, tt)
      (subst (λ ms. InTurn ms (ask_with [] id ∷ []) []) (sym answered)
      (meets (failed r) [] (ask_with [] id) [] [] some (rests []))) ids drew

pub frame-sends : (state : State) (frame : List ℕ) → IsState state → HasRoom state → Sends state (came frame)
frame-sends state frame is room =
    let well = frame-steps-well false state frame is room in
    sends-frame state frame (frame_step false frame state) refl well.0 (asked frame false) refl well.1 well.2

-- a step that the script made
pub turn-sends : (state : State) (x : Turn) → IsState state → HasRoom state → IsTurn x → Sends state (made x)
turn-sends state x is room is_turn =
    let none = turn-answers x state in
    let well = (turn-steps-well state x is room is_turn).0 in
    sends-moves state (made x) (turn_step x state) [] [] well refl tt (tells-all (turn_step x state).moves [] none) none
    (made-drew state x well)

-- ---- one happening more

pub happened-state : (state : State) (hs : List Happening) (h : Happening)
    → (happened state (hs ++ h ∷ [])).state ≡ (happening_step h (happened state hs).state).state
happened-state state [] h = refl
happened-state state (first ∷ hs) h = happened-state (happening_step first state).state hs h

pub happened-sent : (state : State) (hs : List Happening) (h : Happening)
    → (happened state (hs ++ h ∷ [])).sent ≡ (happened state hs).sent ++ (happening_step h (happened state hs).state).sent
happened-sent state [] h = append-nil (happening_step h state).sent
happened-sent state (first ∷ hs) h =
    let next = (happening_step first state).state in
    ap (λ bytes. (happening_step first state).sent ++ bytes) (happened-sent next hs h)
    ∙ sym (append_assoc (happening_step first state).sent (happened next hs).sent (happening_step h (happened next hs).state).sent)

pub frames-last : (hs : List Happening) (h : Happening) → frames_among (hs ++ h ∷ []) ≡ frames_among hs ++ frames_among (h ∷ [])
frames-last [] h = refl
frames-last (came frame ∷ hs) h = ap (λ frames. frame ∷ frames) (frames-last hs h)
frames-last (made x ∷ hs) h = frames-last hs h

-- ---- pipes that go on

pub goes-start : (start : Pipe) → length start.given ≤ length start.sent → PipeGoesOn start start [] []
goes-start start within = record { within = within; sent_is = sym (append-nil start.sent); given_is = sym (append-nil start.given) }

pub goes-put : (start old new : Pipe) (sent given piece : List ℕ) → PipeGoesOn start old sent given → new.sent ≡ old.sent ++ piece
    → new.given ≡ old.given
    → PipeGoesOn start new (sent ++ piece) given
goes-put start old new sent given piece goes sent_is given_is = record {
  within = goes.within;
  sent_is = sent_is ∙ ap (λ bytes. bytes ++ piece) goes.sent_is ∙ append_assoc start.sent sent piece;
  given_is = given_is ∙ goes.given_is;
}

pub goes-get : (start old new : Pipe) (sent given piece : List ℕ) → PipeGoesOn start old sent given → new.sent ≡ old.sent
    → new.given ≡ old.given ++ piece
    → PipeGoesOn start new sent (given ++ piece)
goes-get start old new sent given piece goes sent_is given_is = record {
  within = goes.within;
  sent_is = sent_is ∙ goes.sent_is;
  given_is = given_is ∙ ap (λ bytes. bytes ++ piece) goes.given_is ∙ append_assoc start.given given piece;
}

-- what was sent and not given waits in the pipe
pub goes-waits : (start now : Pipe) (sent given : List ℕ) (there : ℕ) → PipeGoesOn start now sent given
    → there + length given ≡ length sent → there ≤ length (waiting now)
goes-waits start now sent given there goes left =
    let left_there : length (waiting now) ≡ length now.sent - length now.given = length-drop (length now.given) now.sent in
    let sent_all : length now.sent ≡ length start.sent + length sent = ap length goes.sent_is ∙ length-append start.sent sent in
    let given_all : length now.given ≡ length start.given + length given = ap length goes.given_is ∙ length-append start.given given in
    omega (arith, left_there, sent_all, given_all, goes.within, left)

-- what was sent and given since then
pub sent_since-is : (start now : Pipe) (sent given : List ℕ) → PipeGoesOn start now sent given → sent_since start now ≡ sent
sent_since-is start now sent given goes = ap (drop (length start.sent)) goes.sent_is ∙ drop-append_seam start.sent sent

pub given_since-is : (start now : Pipe) (sent given : List ℕ) → PipeGoesOn start now sent given → given_since start now ≡ given
given_since-is start now sent given goes = ap (drop (length start.given)) goes.given_is ∙ drop-append_seam start.given given

-- ---- asks

-- asks more change nothing of what is folded meanwhile
pub record Folds (waiting : List Ask) (down : List ℕ) : Type 0 where
  pub value : FrontValue
  pub is_fold : fold waiting down ≡ Ok value

folds-more : (waiting more : List Ask) (down : List ℕ) (v : FrontValue) → fold waiting down ≡ Ok v → Folds (waiting ++ more) down
folds-more waiting [] down v e = record { value = v; is_fold = ap (λ asks. fold asks down) (append-nil waiting) ∙ e }
folds-more waiting (ask ∷ more) down v e =
    subst (λ asks. Folds asks down) (append_assoc waiting (ask ∷ []) more)
    (folds-more (waiting ++ ask ∷ []) more down (front_laws.ask_joined v ask) (fold-more waiting ask down v e))

-- whatever more is sent up after whole frames, the fold meets no fault
pub folds-sent : (sent_up more given_down : List ℕ) (v : FrontValue) → (frames_of sent_up).rest ≡ [] → fold_of sent_up given_down ≡ Ok v
    → Folds (asks_among (frames_of (sent_up ++ more)).whole) given_down
folds-sent sent_up more given_down v whole e =
    subst (λ asks. Folds asks given_down)
    (sym (asks_among-append (frames_of sent_up).whole (frames_of more).whole) ∙ ap asks_among (sym (whole-after sent_up more whole)))
    (folds-more (asks_among (frames_of sent_up).whole) (asks_among (frames_of more).whole) given_down v e)
