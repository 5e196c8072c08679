-- What the messages of a step make of a front end that has the view before it: the front has the view after it.
use Rattle.std.proofs.Common.{◌≡◌, Bool, true, false, ℕ, ◌+◌, List, [], ◌∷◌, ◌++◌, map, Option, Some, None, refl, sym, ◌∙◌, ap, subst}
use Rattle.std.proofs.Common.{Result, Ok, Err}
use Rattle.std.specs.Prelude.{⊤}
use Rattle.std.specs.List.{flat_map}
use Rattle.std.specs.Option.{option_to_list}
use Rattle.std.proofs.lemmas.List.{map-append}
use Rattle.pipe_frames.specs.Frames.{Frames, frames_of}
use Rattle.pipe_frames.proofs.FrameLemmas.{frames_of-framed}
use Rattle.cdp_messages.specs.declared.command.Asked.{Asked}
use Rattle.cdp_messages.specs.declared.command.Refused.{Refused}
use Rattle.cdp_messages.specs.declared.command.Why.{Why}
use Rattle.cdp_messages.specs.Asked.{method_name}
use Rattle.cdp_messages.specs.declared.down.ReplyBody.{ReplyBody}
use Rattle.cdp_messages.specs.Results.{Tale, no_result, document, sheet_text, new_styles, matched_styles, answer_alone, tale_of}
use Rattle.client_views.specs.declared.effects.Effect.TheVariants.{NothingElse}
use Rattle.client_views.specs.Effects.{effect_of_method, effect_by, effect_of}
use Rattle.client_views.specs.Views.{View}
use Rattle.client_views.specs.Moves.{Move, change, clear, met, added, dropped, rewritten, root, texted, replied, all_off, sheets_off}
use Rattle.client_views.specs.Moves.{failed, move_text, frames_of_moves, is_of_view, tells_view, Moves, Course, ends, goes, answered_by}
use Rattle.front_mirror.specs.declared.replies.Ask.{Ask}
use Rattle.front_mirror.specs.declared.replies.Kept.{Kept}
use Rattle.front_mirror.specs.declared.faults.FrontKind.{FrontKind}
use Rattle.front_mirror.specs.declared.faults.FrontFault.{FrontFault}
use Rattle.front_mirror.specs.Front as front
use Rattle.front_mirror.specs.Front.{FrontValue, kept_reply, take_frame, after_message, fold_result, fold_frames}
use Rattle.front_mirror.specs.Laws.{Has, AreAwaited, asks_after, asks_after_all, AreTaken, matched_after, kept_fault, kept_after}
use Rattle.front_mirror.specs.Laws.{kept_after_all, is_quiet, InTurn, rests, tells, meets}
use Rattle.back_end.specs.States.{State, view_of}
use Rattle.back_end.specs.Steps.{Step}
use Rattle.back_end.specs.Laws.{reply_ids, MayAnswerAll, IsAnswered}
use Rattle.cdp_json.specs.Lookups.{then_ok}
use Rattle.session_runs.specs.Fold.{folded}
use Rattle.inspect_world.specs.Fits.{ask_with}
use Rattle.inspect_world.specs.ShownReplies.{ShownReply, reply_shown}
use Rattle.inspect_world.proofs.Messages.{AskedAs, commanded, refused_as}
use Rattle.front_mirror.proofs.MoveLemmas.{course_gives, turns_are_awaited}
use Rattle.client_views.proofs.MoveTexts.{AreTexts, course-texts}
use Rattle.inspect_world.proofs.PlainAsks.{ArePlain, kept-plain, without_all-plain}

-- ---- the frames of moves

pub frames_of-moves : (ms : List Move) → AreTexts ms → frames_of (frames_of_moves ms) ≡ record { whole = map move_text ms; rest = [] }
unfolding frames_of
frames_of-moves [] texts = refl
frames_of-moves (m ∷ ms) texts =
    frames_of-framed (move_text m) (frames_of_moves ms) texts.0
    ∙ ap (λ (fs : Frames). record { whole = move_text m ∷ fs.whole; rest = fs.rest }) (frames_of-moves ms texts.1)

-- a reply that leaves the view as it is tells neither a document nor the text of a sheet
abbrev pub IsQuiet : Move → Type 0
IsQuiet (change id c) = ⊤
IsQuiet clear = ⊤
IsQuiet (met why) = ⊤
IsQuiet (added s) = ⊤
IsQuiet (dropped n) = ⊤
IsQuiet (rewritten n text) = ⊤
IsQuiet (root id b) = ⊤
IsQuiet (texted id n text) = ⊤
IsQuiet (replied id body) = tells_view body ≡ false
IsQuiet (all_off id) = ⊤
IsQuiet (sheets_off id) = ⊤
IsQuiet (failed r) = ⊤

abbrev pub AreQuiet : List Move → Type 0
AreQuiet [] = ⊤
AreQuiet (m ∷ ms) = IsQuiet m × AreQuiet ms

move-quiet : (m : Move) (u w : View) → Moves m u w → IsQuiet m
move-quiet (change id c) u w moves = tt
move-quiet clear u w moves = tt
move-quiet (met why) u w moves = tt
move-quiet (added s) u w moves = tt
move-quiet (dropped n) u w moves = tt
move-quiet (rewritten n text) u w moves = tt
move-quiet (root id b) u w moves = tt
move-quiet (texted id n text) u w moves = tt
move-quiet (replied id body) u w moves = moves.1.plain
move-quiet (all_off id) u w moves = tt
move-quiet (sheets_off id) u w moves = tt
move-quiet (failed r) u w moves = tt

pub course-quiet : (ms : List Move) (u w : View) → Course ms u w → AreQuiet ms
course-quiet _ _ _ (ends v here) = tt
course-quiet _ _ _ (goes m ms u v w here moves later) = (move-quiet m u v moves, course-quiet ms v w later)

quiet-effect : (method : List ℕ) (body : ReplyBody) → tells_view body ≡ false → effect_of_method method ≡ NothingElse
    → is_quiet (effect_of method body) ≡ true
quiet-effect method body plain e = at (tale_of body) plain where
  at : (t : Tale) → is_of_view t ≡ false → is_quiet (effect_by method t) ≡ true
  at no_result quiet = ap is_quiet e
  at (document tree) quiet = absurd cc
  at (sheet_text text) quiet = absurd cc
  at (new_styles styles) quiet = refl
  at (matched_styles matched) quiet = refl
  at answer_alone quiet = refl

-- ---- the fold of frames

abbrev taken_well : FrontValue → Result FrontValue FrontKind
taken_well v = Ok v

-- a fold that meets no fault
pub folded-fold : (frames : List (List ℕ)) (v w : FrontValue) → fold_frames v frames ≡ Ok w → folded take_frame v frames ≡ Ok w
folded-fold [] v w e = let same : v ≡ w = cc in ap (λ (x : FrontValue). taken_well x) same
folded-fold (frame ∷ frames) v w e =
    (elim (take_frame v frame) as (λ (r : Result FrontValue FrontKind).
    fold_result (after_message v (λ u. front.front_folded u frames) r).value (after_message v (λ u. front.front_folded u
    frames) r).fault ≡ Ok w
    → then_ok r (λ next. folded take_frame next frames) ≡ Ok w) [
      | Ok next ↦ λ rest. folded-fold frames next w rest
      | Err kind ↦ λ rest. let no : ◌≡◌ {A = Result FrontValue FrontFault} (Err (record { place = v.taken + 1; kind = kind }))
          (Ok w) = rest in absurd cc
    ]) e

-- ---- the asks that moves answer

nothing-joined : {A : Type 0} (xs ys : List A) → xs ++ ys ≡ [] → (xs ≡ []) × (ys ≡ [])
nothing-joined [] ys e = (refl, e)
nothing-joined (x ∷ xs) ys e = absurd cc

-- moves that are no replies answer no ask
no-reply : (m : Move) → reply_ids m ≡ [] → answered_by m ≡ []
no-reply (change id c) e = refl
no-reply clear e = refl
no-reply (met why) e = refl
no-reply (added s) e = refl
no-reply (dropped n) e = refl
no-reply (rewritten n text) e = refl
no-reply (root id b) e = absurd cc
no-reply (texted id n text) e = absurd cc
no-reply (replied id body) e = absurd cc
no-reply (all_off id) e = absurd cc
no-reply (sheets_off id) e = absurd cc
no-reply (failed r) e = absurd cc

pub tells-all : (ms : List Move) (asks : List Ask) → flat_map reply_ids ms ≡ [] → InTurn ms asks asks
tells-all [] asks e = rests asks
tells-all (m ∷ ms) asks e =
    let p = nothing-joined (reply_ids m) (flat_map reply_ids ms) e in
    tells m ms asks asks (no-reply m p.0) (tells-all ms asks p.1)

head-is : (x y : Option ℕ) (xs ys : List (Option ℕ)) → x ∷ xs ≡ y ∷ ys → (x ≡ y) × (xs ≡ ys)
head-is x y xs ys e = (cc, cc)

id-is : (x y : ℕ) → ◌≡◌ {A = Option ℕ} (Some x) (Some y) → x ≡ y
id-is x y e = cc

-- moves with one reply answer the one ask of its method
pub meets-one : (ms : List Move) (method : List ℕ) (id : ℕ) (rest : List Ask) → flat_map reply_ids ms ≡ Some id ∷ []
    → MayAnswerAll method ms → AreQuiet ms
    → InTurn ms (ask_with method id ∷ rest) rest
meets-one [] method id rest e may quiet = absurd cc
meets-one (change node c ∷ ms) method id rest e may quiet = tells (change node c) ms _ rest refl
    (meets-one ms method id rest e may.1 quiet.1)
meets-one (clear ∷ ms) method id rest e may quiet = tells clear ms _ rest refl (meets-one ms method id rest e may.1 quiet.1)
meets-one (met why ∷ ms) method id rest e may quiet = tells (met why) ms _ rest refl (meets-one ms method id rest e may.1 quiet.1)
meets-one (added s ∷ ms) method id rest e may quiet = tells (added s) ms _ rest refl (meets-one ms method id rest e may.1 quiet.1)
meets-one (dropped n ∷ ms) method id rest e may quiet = tells (dropped n) ms _ rest refl (meets-one ms method id rest e may.1 quiet.1)
meets-one (rewritten n text ∷ ms) method id rest e may quiet = tells (rewritten n text) ms _ rest refl
    (meets-one ms method id rest e may.1 quiet.1)
meets-one (texted found n text ∷ ms) method id rest e may quiet =
    let p = head-is (Some found) (Some id) (flat_map reply_ids ms) [] e in
    meets (texted found n text) ms (ask_with method id) rest rest (sym (id-is found id p.0), may.0, tt) (tells-all ms rest p.1)
meets-one (root found b ∷ ms) method id rest e may quiet =
    let p = head-is (Some found) (Some id) (flat_map reply_ids ms) [] e in
    meets (root found b) ms (ask_with method id) rest rest (sym (id-is found id p.0), may.0) (tells-all ms rest p.1)
meets-one (replied found body ∷ ms) method id rest e may quiet =
    let p = head-is (Some found) (Some id) (flat_map reply_ids ms) [] e in
    meets (replied found body) ms (ask_with method id) rest rest
    (sym (id-is found id p.0), may.0.0, quiet-effect method body quiet.0 may.0.1) (tells-all ms rest p.1)
meets-one (all_off found ∷ ms) method id rest e may quiet =
    let p = head-is (Some found) (Some id) (flat_map reply_ids ms) [] e in
    meets (all_off found) ms (ask_with method id) rest rest (sym (id-is found id p.0), may.0) (tells-all ms rest p.1)
meets-one (sheets_off found ∷ ms) method id rest e may quiet =
    let p = head-is (Some found) (Some id) (flat_map reply_ids ms) [] e in
    meets (sheets_off found) ms (ask_with method id) rest rest (sym (id-is found id p.0), may.0) (tells-all ms rest p.1)
meets-one (failed r ∷ ms) method id rest e may quiet =
    let p = head-is r.id (Some id) (flat_map reply_ids ms) [] e in
    meets (failed r) ms (ask_with method id) rest rest p.0 (tells-all ms rest p.1)

-- what answers an ask answers the first that waits
pub by-asked : (ask : Ask) (rest : List Ask) (moves : List Move) (result : Result Asked Refused) → ask.sheet ≡ None → AskedAs ask result
    → IsAnswered result moves → AreQuiet moves
    → InTurn moves (ask ∷ rest) rest
by-asked ask rest moves _ plain (commanded command method_is) answered quiet =
    let same : ask_with ask.method ask.id
    ≡ ask = ap (λ (sheet : Option ℕ). record { id = ask.id; method = ask.method; sheet = sheet }) (sym plain) in
    subst (λ (a : Ask). InTurn moves (a ∷ rest) rest) same
    (subst (λ method. InTurn moves (ask_with method ask.id ∷ rest) rest) (sym method_is)
    (meets-one moves (method_name command) ask.id rest answered.0 answered.1 quiet))
by-asked ask rest moves _ plain (refused_as why) answered quiet =
    let r : Refused = record { id = Some ask.id; why = why } in
    subst (λ ms. InTurn ms (ask ∷ rest) rest) (sym answered) (meets (failed r) [] ask rest rest refl (rests rest))

-- an error reply under its id answers an ask, which may be a fetch
pub by-failed : (ask : Ask) (rest : List Ask) (moves : List Move) (why : Why)
    → moves ≡ failed (record { id = Some ask.id; why = why }) ∷ [] → InTurn moves (ask ∷ rest) rest
by-failed ask rest moves why is = subst (λ ms. InTurn ms (ask ∷ rest) rest) (sym is)
    (meets (failed (record { id = Some ask.id; why = why })) [] ask rest rest refl (rests rest))

-- an error reply without an id answers none
pub by-refusal : (asks : List Ask) (moves : List Move) (r : Refused) → r.id ≡ None → moves ≡ failed r ∷ [] → InTurn moves asks asks
by-refusal asks moves r none is = subst (λ ms. InTurn ms asks asks) (sym is)
    (tells (failed r) [] asks asks (ap option_to_list none) (rests asks))

-- ---- the messages of a step

-- a front that has taken them: it has the view after the step, waits for what is left, and has kept the replies and the matched styles
pub record Taken (done : Step) (v : FrontValue) (rest : List Ask) : Type 0 where
  pub texts : List (List ℕ)
  pub frames_are : frames_of (frames_of_moves done.moves) ≡ record { whole = texts; rest = [] }
  pub after : FrontValue
  pub is_fold : folded take_frame v texts ≡ Ok after
  pub has : Has after (view_of done.state)
  pub asks : after.asks ≡ rest
  pub replies : after.replies ≡ v.replies ++ kept_after_all done.moves v.asks
  pub matched : after.matched ≡ v.matched ++ flat_map matched_after done.moves

pub taken : (before : State) (done : Step) (v : FrontValue) (rest : List Ask)
    → Course done.moves (view_of before) (view_of done.state) → Has v (view_of before) → InTurn done.moves v.asks rest → Taken done v rest
taken before done v rest course has turn =
    let p : AreAwaited done.moves v.asks × (asks_after_all done.moves v.asks ≡ rest) = turns_are_awaited done.moves v.asks rest turn in
    let t : AreTaken done.moves v (view_of done.state) = course_gives done.moves (view_of before) (view_of done.state) v course has p.0 in
    record {
      texts = map move_text done.moves;
      frames_are = frames_of-moves done.moves (course-texts done.moves (view_of before) (view_of done.state) course);
      after = t.after;
      is_fold = folded-fold (map move_text done.moves) v t.after t.are_taken;
      has = t.has;
      asks = t.asks ∙ p.1;
      replies = t.replies;
      matched = t.matched;
    }

-- the ids of the replies that are kept, where no ask is a fetch
ids-one : (id : ℕ) (asks : List Ask) (frame : List ℕ) (good : Bool) → ArePlain asks
    → map (λ (t : ShownReply). t.id) (map reply_shown (kept_reply id asks frame good)) ≡ Some id ∷ []
ids-one id asks frame good plain = ap (λ (ks : List Kept). map (λ (t : ShownReply). t.id) (map reply_shown ks))
    (kept-plain id asks frame good plain)

ids-fault : (o : Option ℕ) (asks : List Ask) (frame : List ℕ) → ArePlain asks
    → map (λ (t : ShownReply). t.id) (map reply_shown (kept_fault o asks frame)) ≡ o ∷ []
ids-fault None asks frame plain = refl
ids-fault (Some id) asks frame plain = ids-one id asks frame false plain

ids-move : (m : Move) (asks : List Ask) → ArePlain asks → map (λ (t : ShownReply). t.id) (map reply_shown (kept_after m asks)) ≡ reply_ids m
ids-move (change id c) asks plain = refl
ids-move clear asks plain = refl
ids-move (met why) asks plain = refl
ids-move (added s) asks plain = refl
ids-move (dropped n) asks plain = refl
ids-move (rewritten n text) asks plain = refl
ids-move (root id b) asks plain = ids-one id asks (move_text (root id b)) true plain
ids-move (texted id n text) asks plain = ids-one id asks (move_text (texted id n text)) true plain
ids-move (replied id body) asks plain = ids-one id asks (move_text (replied id body)) true plain
ids-move (all_off id) asks plain = ids-one id asks (move_text (all_off id)) true plain
ids-move (sheets_off id) asks plain = ids-one id asks (move_text (sheets_off id)) true plain
ids-move (failed r) asks plain = ids-fault r.id asks (move_text (failed r)) plain

pub ids-kept : (ms : List Move) (asks : List Ask) → ArePlain asks
    → map (λ (t : ShownReply). t.id) (map reply_shown (kept_after_all ms asks)) ≡ flat_map reply_ids ms
ids-kept [] asks plain = refl
ids-kept (m ∷ ms) asks plain =
    let later = kept_after_all ms (asks_after m asks) in
    ap (map (λ (t : ShownReply). t.id)) (map-append reply_shown (kept_after m asks) later)
    ∙ map-append (λ (t : ShownReply). t.id) (map reply_shown (kept_after m asks)) (map reply_shown later)
    ∙ ap (λ ids. ids ++ map (λ (t : ShownReply). t.id) (map reply_shown later)) (ids-move m asks plain)
    ∙ ap (λ ids. reply_ids m ++ ids) (ids-kept ms (asks_after m asks) (without_all-plain (answered_by m) asks plain))
