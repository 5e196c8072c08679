-- The front end and the state of the page keep fitting: what a run needs of the messages.
use Rattle.std.proofs.Common.{◌≡◌, ℕ, ◌+◌, ◌*◌, ◌^◌, ◌<◌, ◌≤◌, List, [], ◌∷◌, ◌++◌, length, map, codes, Option, Some, None, option_and_then}
use Rattle.std.proofs.Common.{false, refl, sym, ◌∙◌, ap, subst, Result, Ok, Err, arith, append-nil}
use Rattle.std.specs.List.{flat_map}
use Rattle.std.specs.Option.{option_to_list}
use Rattle.std.proofs.lemmas.List.{map-append}
use Rattle.page_tree.specs.Forms.{max_nodes}
use Rattle.page_forms.specs.Sheets.{max_sheets}
use Rattle.pipe_frames.specs.Frames.{Frames}
use Rattle.cdp_messages.specs.Asked.{asked, refusal}
use Rattle.front_mirror.specs.declared.replies.Ask.{Ask}
use Rattle.front_mirror.specs.declared.replies.MatchedReply.{MatchedReply}
use Rattle.front_mirror.specs.declared.faults.FrontKind.{FrontKind}
use Rattle.front_mirror.specs.Front.{FrontValue, fetch_ask, take_frame}
use Rattle.client_views.specs.Moves.{texted}
use Rattle.front_mirror.specs.Laws.{Has, matched_after, IsOfSheet, InTurn, rests, meets}
use Rattle.back_end.specs.States.{State, view_of}
use Rattle.back_end.specs.Steps.{Step, Turn, frame_step, turn_step}
use Rattle.client_views.specs.Moves.{frames_of_moves}
use Rattle.inspect_world.specs.RunStates.{RunState, ToldStyles, styles_answered, run_step, run_turn}
use Rattle.back_end.specs.Laws.{most_ids, tree_edits, edits_kept, edits_asked, KeepsAtMost, HasRoom, StepsWell, IsAnswered}
use Rattle.inspect_world.specs.World.{Spent, one_turn}
use Rattle.cdp_json.specs.Lookups.{then_ok}
use Rattle.session_runs.specs.Fold.{folded, Laws, Leads, RoomThroughout}
use Rattle.session_runs.proofs.Worlds.{always-room}
use Rattle.inspect_world.specs.Fits.{join, ask_of_frame, ask_with, sheet_fetched, IsPlainFrame, edits_of_frame, drawing, asking, with_ask}
use Rattle.inspect_world.specs.Fits.{Sendable, is_ask, is_bare, AreSendable, asks_among, most_bytes, most_frames, most_trees, IsNext}
use Rattle.inspect_world.specs.Fits.{next_ask, next_fetch, next_raw, IsNextTurn, most_drawn, most_serials, most_numbers, most_searches}
use Rattle.inspect_world.specs.Fits.{kept_styles, IsFit}
use Rattle.inspect_world.specs.Fits.{AlwaysRoom, IsNextIn, replay}
use Rattle.front_mirror.proofs.FoldLemmas.{take_frame-more}
use Rattle.inspect_world.proofs.AskLemmas.{asks_among-append, sendable-last, draws-one, draws-none, drawing-last, drawing-fetch, asks-edits}
use Rattle.inspect_world.proofs.AskLemmas.{asks-none, asking-last, asking-fetch}
use Rattle.inspect_world.proofs.TurnLemmas.{TurnKeeps, turn-keeps}
use Rattle.inspect_world.proofs.Messages.{asked-ask, fetch-method}
use Rattle.inspect_world.proofs.FetchTold.{FetchAnswered, not_told, is_told, fetch-answered}
use Rattle.inspect_world.proofs.StepsTaken.{AreQuiet, course-quiet, Taken, taken, tells-all, by-asked, by-failed, by-refusal}
use Rattle.inspect_world.proofs.StylesTold.{styles-told, quiet-styles}
use Rattle.back_end.proofs.FrameLemmas.{frame-steps-well}
use Rattle.back_end.proofs.StepLemmas.{turn-steps-well}
use Rattle.back_end.proofs.AnswerLemmas.{turn-answers}

-- an ask more that waits changes nothing of what is folded meanwhile
taken-with_ask : (v w : FrontValue) (ask : Option Ask) (frame : List ℕ) → take_frame v frame ≡ Ok w
    → take_frame (with_ask v ask) frame ≡ Ok (with_ask w ask)
taken-with_ask v w None frame e = e
taken-with_ask v w (Some ask) frame e = take_frame-more v w ask frame e

folded-join : (ask : List ℕ) (before after : FrontValue) (frames : List (List ℕ))
    → folded take_frame before frames ≡ Ok after → folded take_frame (join before ask) frames ≡ Ok (join after ask)
folded-join ask before after [] e = let same : before ≡ after = cc in ap (λ v. Ok (join v ask)) same
folded-join ask before after (frame ∷ frames) e =
    (elim (take_frame before frame) as (λ (r : Result FrontValue FrontKind). take_frame before frame ≡ r
    → then_ok r (λ next. folded take_frame next frames) ≡ Ok after
    → then_ok (take_frame (join before ask) frame) (λ next. folded take_frame next frames) ≡ Ok (join after ask)) [
      | Ok next ↦ λ is rest.
          ap (λ result. then_ok result (λ next. folded take_frame next frames)) (taken-with_ask before next (ask_of_frame ask) frame is)
          ∙ folded-join ask next after frames rest
      | Err kind ↦ λ is rest. let no : ◌≡◌ {A = Result FrontValue FrontKind} (Err kind) (Ok after) = rest in cc
    ]) refl e

-- ---- how much is drawn

-- one frame more may be answered
one_more_ids : (all before after sent sent1 turns : ℕ) → after ≤ before + 1 → sent1 ≡ sent + 1
    → all + before * 34054432 ≤ sent * 34054432 + turns * 500000
    → all + after * 34054432 ≤ sent1 * 34054432 + turns * 500000
one_more_ids all before after sent sent1 turns more step h = omega (arith, more, step, h)

one_more_trees : (all before after sent sent1 : ℕ) → after ≤ before + 1 → sent1 ≡ sent + 1 → all + before * 2 ≤ sent * 2
    → all + after * 2 ≤ sent1 * 2
one_more_trees all before after sent sent1 more step h = omega (arith, more, step, h)

one_more_edits : (kept before after one more edits : ℕ) → after ≤ before + one → one ≤ more → kept + before ≤ edits
    → kept + after ≤ edits + more
one_more_edits kept before after one more edits step few h = omega (arith, step, few, h)

no_more_edits : (kept before after one edits : ℕ) → after ≤ before + one → one ≡ 0 → kept + before ≤ edits → kept + after ≤ edits
no_more_edits kept before after one edits step none h = omega (arith, step, none, h)

one_more_serials : (all before after steps steps1 : ℕ) → after ≤ before + 1 → steps1 ≡ steps + 1 → all + before * 100001 ≤ steps * 100001
    → all + after * 100001 ≤ steps1 * 100001
one_more_serials all before after steps steps1 more step h = omega (arith, more, step, h)

one_more_numbers : (all before after steps steps1 : ℕ) → after ≤ before + 1 → steps1 ≡ steps + 1 → all + before * 1000 ≤ steps * 1000 + 1
    → all + after * 1000 ≤ steps1 * 1000 + 1
one_more_numbers all before after steps steps1 more step h = omega (arith, more, step, h)

one_more_searches : (all before after steps steps1 : ℕ) → after ≤ before + 1 → steps1 ≡ steps + 1 → all + before ≤ steps
    → all + after ≤ steps1
one_more_searches all before after steps steps1 more step h = omega (arith, more, step, h)

-- an answer draws no more than was kept for it
answered_ids : (before after trees trees1 frames others sent all : ℕ) → frames ≡ 1 + others → after ≤ before + (500000 + trees)
    → trees1 ≤ trees + 2
    → trees + frames * 2 ≤ sent * 2 → sent ≤ 2 ^ 24 → before + trees + frames * 34054432 ≤ all → after + trees1 + others * 34054432 ≤ all
answered_ids before after trees trees1 frames others sent all one few more kept most h = omega (arith, one, few, more, kept, most, h)

answered_trees : (trees trees1 frames others all : ℕ) → frames ≡ 1 + others → trees1 ≤ trees + 2 → trees + frames * 2 ≤ all
    → trees1 + others * 2 ≤ all
answered_trees trees trees1 frames others all one more h = omega (arith, one, more, h)

answered_edits : (kept kept1 frames others one all : ℕ) → frames ≡ one + others → kept1 ≤ kept + one → kept + frames ≤ all
    → kept1 + others ≤ all
answered_edits kept kept1 frames others one all is more h = omega (arith, is, more, h)

answered_serials : (before after frames others all : ℕ) → frames ≡ 1 + others → after ≤ before + 100001 → before + frames * 100001 ≤ all
    → after + others * 100001 ≤ all
answered_serials before after frames others all one few h = omega (arith, one, few, h)

answered_numbers : (before after frames others all : ℕ) → frames ≡ 1 + others → after ≤ before + 1000 → before + frames * 1000 ≤ all
    → after + others * 1000 ≤ all
answered_numbers before after frames others all one few h = omega (arith, one, few, h)

answered_searches : (before after frames others all : ℕ) → frames ≡ 1 + others → after ≤ before + 1 → before + frames ≤ all
    → after + others ≤ all
answered_searches before after frames others all one few h = omega (arith, one, few, h)

-- and that to a fetch draws nothing
fetched_ids : (before after frames others all : ℕ) → frames ≡ 0 + others → after ≡ before → before + frames * 34054432 ≤ all
    → after + others * 34054432 ≤ all
fetched_ids before after frames others all none same h = omega (arith, none, same, h)

fetched_trees : (before after frames others all : ℕ) → frames ≡ 0 + others → after ≡ before → before + frames * 2 ≤ all
    → after + others * 2 ≤ all
fetched_trees before after frames others all none same h = omega (arith, none, same, h)

fetched_edits : (before after frames others all : ℕ) → frames ≡ 0 + others → after ≡ before → before + frames ≤ all → after + others ≤ all
fetched_edits before after frames others all none same h = omega (arith, none, same, h)

fetched_serials : (before after frames others all : ℕ) → frames ≡ 0 + others → after ≡ before → before + frames * 100001 ≤ all
    → after + others * 100001 ≤ all
fetched_serials before after frames others all none same h = omega (arith, none, same, h)

fetched_numbers : (before after frames others all : ℕ) → frames ≡ 0 + others → after ≡ before → before + frames * 1000 ≤ all
    → after + others * 1000 ≤ all
fetched_numbers before after frames others all none same h = omega (arith, none, same, h)

-- and the script's own step no more than one step may
turned_ids : (before after others sent turns : ℕ) → after ≤ before + 500000 → before + others * 34054432 ≤ sent * 34054432 + turns * 500000
    → after + others * 34054432 ≤ sent * 34054432 + (turns + 1) * 500000
turned_ids before after others sent turns few h = omega (arith, few, h)

turned_less : (before after others all : ℕ) → after ≤ before → before + others ≤ all → after + others ≤ all
turned_less before after others all less h = omega (arith, less, h)

turned_serials : (before after others asks raws turns : ℕ) → after ≤ before + 100001
    → before + others * 100001 ≤ (asks + raws + turns + 1) * 100001
    → after + others * 100001 ≤ (asks + raws + (turns + 1) + 1) * 100001
turned_serials before after others asks raws turns few h = omega (arith, few, h)

turned_numbers : (before after others asks raws turns : ℕ) → after ≤ before + 1000
    → before + others * 1000 ≤ (asks + raws + turns + 1) * 1000 + 1
    → after + others * 1000 ≤ (asks + raws + (turns + 1) + 1) * 1000 + 1
turned_numbers before after others asks raws turns few h = omega (arith, few, h)

turned_searches : (before after others asks raws turns : ℕ) → after ≤ before + 1 → before + others ≤ asks + raws + turns
    → after + others ≤ asks + raws + (turns + 1)
turned_searches before after others asks raws turns few h = omega (arith, few, h)

-- a run is too short to use all ids, all serials, all numbers of sheets and searches and all places in the history
ids_left : (pushed trees others sent turns : ℕ) → sent ≤ 2 ^ 24 → turns ≤ 2 ^ 26
    → pushed + trees + others * 34054432 ≤ sent * 34054432 + turns * 500000 → pushed + 1 < 2 ^ 50
ids_left pushed trees others sent turns few few_turns h = omega (arith, few, few_turns, h)

serials_left : (next others sent turns : ℕ) → sent ≤ 2 ^ 24 → turns ≤ 2 ^ 26 → next + others * 100001 ≤ (sent + turns + 1) * 100001
    → next < 2 ^ 50
serials_left next others sent turns few few_turns h = omega (arith, few, few_turns, h)

numbers_left : (next others sent turns : ℕ) → sent ≤ 2 ^ 24 → turns ≤ 2 ^ 26 → next + others * 1000 ≤ (sent + turns + 1) * 1000 + 1
    → next < 2 ^ 50
numbers_left next others sent turns few few_turns h = omega (arith, few, few_turns, h)

searches_left : (given others sent turns : ℕ) → sent ≤ 2 ^ 24 → turns ≤ 2 ^ 26 → given + others ≤ sent + turns → given + 1 < 2 ^ 50
searches_left given others sent turns few few_turns h = omega (arith, few, few_turns, h)

edits_left : (kept others edits : ℕ) → edits ≤ 2 ^ 26 → kept + others ≤ edits → kept < 2 ^ 30
edits_left kept others edits few h = omega (arith, few, h)

pub fit-room : (n : Spent) (front : FrontValue) (s : RunState) (frames : List (List ℕ)) → IsFit n front s frames → HasRoom s.back
fit-room n front s frames fit = record {
  ids = ids_left (length s.back.client.session.pushed) (tree_edits s.back) (drawing frames)
      (n.asks + n.raws) n.turns fit.few fit.few_turns fit.drawn;
  serials = serials_left s.back.side.page.next (drawing frames) (n.asks + n.raws) n.turns fit.few fit.few_turns fit.serials;
  sheets = numbers_left s.back.side.next_sheet (drawing frames) (n.asks + n.raws) n.turns fit.few fit.few_turns fit.numbers;
  edits = edits_left (edits_kept s.back) (asking frames) n.edits fit.few_edits fit.edits;
  searches = searches_left s.back.client.searches.given (drawing frames) (n.asks + n.raws) n.turns fit.few fit.few_turns fit.searches;
}

-- ---- a frame is sent

-- how many edits a frame comes to
edits_in-is : (frame : List ℕ) → edits_of_frame frame ≡ edits_asked (asked frame false)
unfolding edits_of_frame
edits_in-is frame = refl

more-frames : (asks raws sent : ℕ) → sent ≡ asks + raws + 1 → asks + raws + 1 ≤ most_frames → sent ≤ most_frames
more-frames asks raws sent is few = omega (arith, is, few)

-- a frame that is sent is the last of those that wait
fit-asked : (n m : Spent) (text : List ℕ) (front : FrontValue) (s : RunState) (frames : List (List ℕ))
    → IsNext n text m → IsFit n front s frames → IsFit m (join front text) s (frames ++ text ∷ [])
fit-asked n _ text front s frames (next_ask method edits is asks few few_edits) fit =
    let joins : join front text ≡ with_ask front (Some (ask_with method (n.asks + 1))) = ap (with_ask front) is in
    record {
      has = subst (λ v. Has v (view_of s.back)) (sym joins) (record { tree = fit.has.tree; sheets = fit.has.sheets });
      styles = ap (λ (v : FrontValue). map kept_styles v.matched) joins ∙ fit.styles;
      asks =
          asks_among-append frames (text ∷ [])
          ∙ ap (λ asks. asks ++ (option_to_list (ask_of_frame text) ++ [])) fit.asks
          ∙ ap (λ o. front.asks ++ (option_to_list o ++ [])) is
          ∙ ap (λ (v : FrontValue). v.asks) (sym joins);
      sendable = sendable-last frames text fit.sendable (is_ask (ask_with method (n.asks + 1)) is);
      is_state = fit.is_state;
      few = more-frames n.asks n.raws (n.asks + 1 + n.raws) (omega arith) few;
      few_turns = fit.few_turns;
      few_edits = few_edits;
      drawn = one_more_ids (length s.back.client.session.pushed + tree_edits s.back) (drawing frames) (drawing (frames ++ text ∷ []))
          (n.asks + n.raws) (n.asks + 1 + n.raws) n.turns (drawing-last frames text) (omega arith) fit.drawn;
      trees = one_more_trees (tree_edits s.back) (drawing frames) (drawing (frames ++ text ∷ [])) (n.asks + n.raws) (n.asks + 1 + n.raws)
          (drawing-last frames text) (omega arith) fit.trees;
      edits = one_more_edits (edits_kept s.back) (asking frames) (asking (frames ++ text ∷ [])) (edits_of_frame text) edits n.edits
          (asking-last frames text) asks fit.edits;
      serials = one_more_serials s.back.side.page.next (drawing frames) (drawing (frames ++ text ∷ [])) (n.asks + n.raws + n.turns + 1)
          (n.asks + 1 + n.raws + n.turns + 1) (drawing-last frames text) (omega arith) fit.serials;
      numbers = one_more_numbers s.back.side.next_sheet (drawing frames) (drawing (frames ++ text ∷ [])) (n.asks + n.raws + n.turns + 1)
          (n.asks + 1 + n.raws + n.turns + 1) (drawing-last frames text) (omega arith) fit.numbers;
      searches = one_more_searches s.back.client.searches.given (drawing frames) (drawing (frames ++ text ∷ [])) (n.asks + n.raws + n.turns)
          (n.asks + 1 + n.raws + n.turns) (drawing-last frames text) (omega arith) fit.searches;
    }
fit-asked n _ text front s frames (next_fetch sheet is few) fit =
    let joins : join front text ≡ with_ask front (Some (fetch_ask n.fetches sheet)) = ap (with_ask front) is in
    let fetches : sheet_fetched text ≡ Some sheet = ap (option_and_then (λ (ask : Ask). ask.sheet)) is in
    let drawn : drawing (frames ++ text ∷ []) ≡ drawing frames = drawing-fetch frames text sheet fetches in
    record {
      has = subst (λ v. Has v (view_of s.back)) (sym joins) (record { tree = fit.has.tree; sheets = fit.has.sheets });
      styles = ap (λ (v : FrontValue). map kept_styles v.matched) joins ∙ fit.styles;
      asks =
          asks_among-append frames (text ∷ [])
          ∙ ap (λ asks. asks ++ (option_to_list (ask_of_frame text) ++ [])) fit.asks
          ∙ ap (λ o. front.asks ++ (option_to_list o ++ [])) is
          ∙ ap (λ (v : FrontValue). v.asks) (sym joins);
      sendable = sendable-last frames text fit.sendable (is_ask (fetch_ask n.fetches sheet) is);
      is_state = fit.is_state;
      few = fit.few;
      few_turns = fit.few_turns;
      few_edits = fit.few_edits;
      drawn = subst (λ k. length s.back.client.session.pushed + tree_edits s.back + k * (most_ids + most_trees) ≤ most_drawn n)
          (sym drawn) fit.drawn;
      trees = subst (λ k. tree_edits s.back + k * 2 ≤ (n.asks + n.raws) * 2) (sym drawn) fit.trees;
      edits = subst (λ k. edits_kept s.back + k ≤ n.edits) (sym (asking-fetch frames text sheet fetches)) fit.edits;
      serials = subst (λ k. s.back.side.page.next + k * (max_nodes + 1) ≤ most_serials n) (sym drawn) fit.serials;
      numbers = subst (λ k. s.back.side.next_sheet + k * max_sheets ≤ most_numbers n) (sym drawn) fit.numbers;
      searches = subst (λ k. s.back.client.searches.given + k ≤ most_searches n) (sym drawn) fit.searches;
    }
fit-asked n _ text front s frames (next_raw bare few) fit =
    let joins : join front text ≡ front = ap (with_ask front) bare.no_ask in
    record {
      has = subst (λ v. Has v (view_of s.back)) (sym joins) fit.has;
      styles = ap (λ (v : FrontValue). map kept_styles v.matched) joins ∙ fit.styles;
      asks =
          asks_among-append frames (text ∷ [])
          ∙ ap (λ asks. asks ++ (option_to_list (ask_of_frame text) ++ [])) fit.asks
          ∙ ap (λ o. front.asks ++ (option_to_list o ++ [])) bare.no_ask
          ∙ append-nil front.asks
          ∙ ap (λ (v : FrontValue). v.asks) (sym joins);
      sendable = sendable-last frames text fit.sendable (is_bare bare);
      is_state = fit.is_state;
      few = more-frames n.asks n.raws (n.asks + (n.raws + 1)) (omega arith) few;
      few_turns = fit.few_turns;
      few_edits = fit.few_edits;
      drawn = one_more_ids (length s.back.client.session.pushed + tree_edits s.back) (drawing frames) (drawing (frames ++ text ∷ []))
          (n.asks + n.raws) (n.asks + (n.raws + 1)) n.turns (drawing-last frames text) (omega arith) fit.drawn;
      trees = one_more_trees (tree_edits s.back) (drawing frames) (drawing (frames ++ text ∷ [])) (n.asks + n.raws) (n.asks + (n.raws + 1))
          (drawing-last frames text) (omega arith) fit.trees;
      edits = no_more_edits (edits_kept s.back) (asking frames) (asking (frames ++ text ∷ [])) (edits_of_frame text) n.edits
          (asking-last frames text) (edits_in-is text ∙ ap edits_asked bare.refused) fit.edits;
      serials = one_more_serials s.back.side.page.next (drawing frames) (drawing (frames ++ text ∷ [])) (n.asks + n.raws + n.turns + 1)
          (n.asks + (n.raws + 1) + n.turns + 1) (drawing-last frames text) (omega arith) fit.serials;
      numbers = one_more_numbers s.back.side.next_sheet (drawing frames) (drawing (frames ++ text ∷ [])) (n.asks + n.raws + n.turns + 1)
          (n.asks + (n.raws + 1) + n.turns + 1) (drawing-last frames text) (omega arith) fit.numbers;
      searches = one_more_searches s.back.client.searches.given (drawing frames) (drawing (frames ++ text ∷ [])) (n.asks + n.raws + n.turns)
          (n.asks + (n.raws + 1) + n.turns) (drawing-last frames text) (omega arith) fit.searches;
    }

-- ---- a step is made

-- what was spent, and how much of ids and serials may be drawn after a step
record Enough (m : Spent) (state : State) (frames : List (List ℕ)) : Type 0 where
  few : m.asks + m.raws ≤ most_frames
  few_turns : m.turns ≤ most_bytes
  few_edits : m.edits ≤ most_bytes
  drawn : length state.client.session.pushed + tree_edits state + drawing frames * (most_ids + most_trees) ≤ most_drawn m
  trees : tree_edits state + drawing frames * 2 ≤ (m.asks + m.raws) * 2
  edits : edits_kept state + asking frames ≤ m.edits
  serials : state.side.page.next + drawing frames * (max_nodes + 1) ≤ most_serials m
  numbers : state.side.next_sheet + drawing frames * max_sheets ≤ most_numbers m
  searches : state.client.searches.given + drawing frames ≤ most_searches m

-- what is told of matched styles is kept
kept-more : (v w : FrontValue) (styles told : List ToldStyles) (more : List MatchedReply) → map kept_styles v.matched ≡ styles
    → w.matched ≡ v.matched ++ more
    → map kept_styles more ≡ told → map kept_styles w.matched ≡ styles ++ told
kept-more v w styles told more kept after is =
    ap (map kept_styles) after ∙ map-append kept_styles v.matched more ∙ ap (λ ts. ts ++ map kept_styles more) kept ∙ ap
    (λ ts. styles ++ ts) is

-- the messages of a step, which tell these matched styles, take the front along
leads-on : (n m : Spent) (s : RunState) (done : Step) (told after : List ToldStyles) (front : FrontValue) (frames more : List (List ℕ))
    → IsFit n front s frames → StepsWell s.back done → InTurn done.moves front.asks (asks_among more) → AreSendable more
    → Enough m done.state more
    → map kept_styles (flat_map matched_after done.moves) ≡ told → s.styles ++ told ≡ after
    → Leads take_frame (IsFit m) front
    (record { state = record { back = done.state; styles = after }; sent = frames_of_moves done.moves }) more
leads-on n m s done told after front frames more fit well in_turn sendable enough tells goes =
    let t : Taken done front (asks_among more) = taken s.back done front (asks_among more) well.course fit.has in_turn in
    record {
      after = t.after;
      is_fold = ap (λ (fs : Frames). folded take_frame front fs.whole) t.frames_are ∙ t.is_fold;
      fit = record {
        has = t.has;
        styles = kept-more front t.after s.styles told (flat_map matched_after done.moves) fit.styles t.matched tells ∙ goes;
        asks = sym t.asks;
        sendable = sendable;
        is_state = well.is_state;
        few = enough.few;
        few_turns = enough.few_turns;
        few_edits = enough.few_edits;
        drawn = enough.drawn;
        trees = enough.trees;
        edits = enough.edits;
        serials = enough.serials;
        numbers = enough.numbers;
        searches = enough.searches;
      };
      whole = ap (λ (fs : Frames). fs.rest) t.frames_are;
    }

-- the asks that wait, where the first frame is an ask, and where it is none
first-asks : (frame : List ℕ) (frames : List (List ℕ)) (asks : List Ask) (o : Option Ask) → asks_among (frame ∷ frames) ≡ asks
    → ask_of_frame frame ≡ o
    → option_to_list o ++ asks_among frames ≡ asks
first-asks frame frames asks o e is = ap (λ p. option_to_list p ++ asks_among frames) (sym is) ∙ e

-- what a step on the first frame answers, and how much it draws
record Answer (n : Spent) (state : State) (asks : List Ask) (frames : List (List ℕ)) (done : Step) : Type 0 where
  in_turn : InTurn done.moves asks (asks_among frames)
  drawn : length done.state.client.session.pushed + tree_edits done.state + drawing frames * (most_ids + most_trees) ≤ most_drawn n
  trees : tree_edits done.state + drawing frames * 2 ≤ (n.asks + n.raws) * 2
  edits : edits_kept done.state + asking frames ≤ n.edits
  serials : done.state.side.page.next + drawing frames * (max_nodes + 1) ≤ most_serials n
  numbers : done.state.side.next_sheet + drawing frames * max_sheets ≤ most_numbers n
  searches : done.state.client.searches.given + drawing frames ≤ most_searches n

-- the step on a frame that is no fetch
answer-plain : (n : Spent) (frame : List ℕ) (front : FrontValue) (s : RunState) (frames : List (List ℕ)) (done : Step)
    → IsFit n front s (frame ∷ frames) → StepsWell s.back done → KeepsAtMost (edits_asked (asked frame false)) s.back done.state
    → IsPlainFrame frame → InTurn done.moves front.asks (asks_among frames)
    → Answer n s.back front.asks frames done
answer-plain n frame front s frames done fit well keeps plain in_turn =
    let one : drawing (frame ∷ frames) ≡ 1 + drawing frames = draws-one frame frames plain in
    record {
      in_turn = in_turn;
      drawn = answered_ids (length s.back.client.session.pushed) (length done.state.client.session.pushed) (tree_edits s.back)
          (tree_edits done.state) (drawing (frame ∷ frames)) (drawing frames) (n.asks + n.raws) (most_drawn n) one well.ids well.trees
          fit.trees fit.few fit.drawn;
      trees = answered_trees (tree_edits s.back) (tree_edits done.state) (drawing (frame ∷ frames)) (drawing frames)
          ((n.asks + n.raws) * 2) one well.trees fit.trees;
      edits = answered_edits (edits_kept s.back) (edits_kept done.state) (asking (frame ∷ frames)) (asking frames)
          (edits_asked (asked frame false)) n.edits
          (asks-edits frame frames plain ∙ ap (λ k. k + asking frames) (edits_in-is frame)) keeps fit.edits;
      serials = answered_serials s.back.side.page.next done.state.side.page.next (drawing (frame ∷ frames)) (drawing frames)
          (most_serials n) one well.serials fit.serials;
      numbers = answered_numbers s.back.side.next_sheet done.state.side.next_sheet (drawing (frame ∷ frames)) (drawing frames)
          (most_numbers n) one well.sheets fit.numbers;
      searches = answered_searches s.back.client.searches.given done.state.client.searches.given (drawing (frame ∷ frames))
          (drawing frames) (most_searches n) one well.searches fit.searches;
    }

-- the reply to a fetch answers the ask that it is
fetch-turn : (ask : Ask) (rest : List Ask) (sheet : ℕ) (state : State) (done : Step) → ask.sheet ≡ Some sheet
    → ask.method ≡ codes "CSS.getStyleSheetText"
    → FetchAnswered ask.id sheet state done → InTurn done.moves (ask ∷ rest) rest
fetch-turn ask rest sheet state _ fetches method (not_told why) = by-failed ask rest _ why refl
fetch-turn ask rest sheet state _ fetches method (is_told text) =
    meets (texted ask.id sheet text) [] ask rest rest (refl, method, subst (IsOfSheet sheet) (sym fetches) refl) (rests rest)

fetch-same : (id sheet : ℕ) (state : State) (done : Step) → FetchAnswered id sheet state done → done.state ≡ state
fetch-same id sheet state _ (not_told why) = refl
fetch-same id sheet state _ (is_told text) = refl

-- the step on a fetch
answer-fetch : (n : Spent) (frame : List ℕ) (front : FrontValue) (s : RunState) (frames : List (List ℕ)) (ask : Ask) (sheet : ℕ)
    → IsFit n front s (frame ∷ frames) → ask_of_frame frame ≡ Some ask → ask.sheet ≡ Some sheet
    → Answer n s.back front.asks frames (frame_step false frame s.back)
answer-fetch n frame front s frames ask sheet fit is fetches =
    let state : State = s.back in
    let done : Step = frame_step false frame state in
    let answered : FetchAnswered ask.id sheet state done = fetch-answered frame ask sheet state is fetches in
    let same : done.state ≡ state = fetch-same ask.id sheet state done answered in
    let sheet_is : sheet_fetched frame ≡ Some sheet = ap (option_and_then (λ (a : Ask). a.sheet)) is ∙ fetches in
    let none : drawing (frame ∷ frames) ≡ 0 + drawing frames = draws-none frame frames sheet sheet_is in
    record {
      in_turn =
          subst (λ asks. InTurn done.moves asks (asks_among frames)) (first-asks frame frames front.asks (Some ask) fit.asks is)
          (fetch-turn ask (asks_among frames) sheet state done fetches (fetch-method frame ask sheet is fetches) answered);
      drawn = fetched_ids (length state.client.session.pushed + tree_edits state)
          (length done.state.client.session.pushed + tree_edits done.state) (drawing (frame ∷ frames)) (drawing frames) (most_drawn n) none
          (ap (λ (s : State). length s.client.session.pushed + tree_edits s) same) fit.drawn;
      trees = fetched_trees (tree_edits state) (tree_edits done.state) (drawing (frame ∷ frames)) (drawing frames)
          ((n.asks + n.raws) * 2) none (ap tree_edits same) fit.trees;
      edits = fetched_edits (edits_kept state) (edits_kept done.state) (asking (frame ∷ frames)) (asking frames) n.edits
          (asks-none frame frames sheet sheet_is) (ap edits_kept same) fit.edits;
      serials = fetched_serials state.side.page.next done.state.side.page.next (drawing (frame ∷ frames)) (drawing frames)
          (most_serials n) none
          (ap (λ (s : State). s.side.page.next) same) fit.serials;
      numbers = fetched_numbers state.side.next_sheet done.state.side.next_sheet (drawing (frame ∷ frames)) (drawing frames)
          (most_numbers n) none
          (ap (λ (s : State). s.side.next_sheet) same) fit.numbers;
      searches = fetched_edits state.client.searches.given done.state.client.searches.given (drawing (frame ∷ frames)) (drawing frames)
          (most_searches n) none
          (ap (λ (s : State). s.client.searches.given) same) fit.searches;
    }

-- what a step on a frame sends takes the front along
fit-answered : (n : Spent) (frame : List ℕ) (front : FrontValue) (s : RunState) (frames : List (List ℕ))
    → IsFit n front s (frame ∷ frames) → Leads take_frame (IsFit n) front (run_step s frame) frames
fit-answered n frame front s frames fit =
    let state : State = s.back in
    let well = frame-steps-well false state frame fit.is_state (fit-room n front s (frame ∷ frames) fit) in
    let done : Step = frame_step false frame state in
    let quiet : AreQuiet done.moves = course-quiet done.moves (view_of state) (view_of done.state) well.0.course in
    let answer : Answer n state front.asks frames done = by-sendable well.0 well.1 well.2 quiet fit.sendable.0 in
    leads-on n n s done (styles_answered frame state) (s.styles ++ styles_answered frame state) front
    (frame ∷ frames) frames fit well.0 answer.in_turn fit.sendable.1 (record {
      few = fit.few;
      few_turns = fit.few_turns;
      few_edits = fit.few_edits;
      drawn = answer.drawn;
      trees = answer.trees;
      edits = answer.edits;
      serials = answer.serials;
      numbers = answer.numbers;
      searches = answer.searches;
    }) (styles-told frame state well.1) refl
  where
    by-sheet : (ask : Ask) (o : Option ℕ) → StepsWell s.back (frame_step false frame s.back)
        → IsAnswered (asked frame false) (frame_step false frame s.back).moves
        → KeepsAtMost (edits_asked (asked frame false)) s.back (frame_step false frame s.back).state
        → AreQuiet (frame_step false frame s.back).moves → ask_of_frame frame ≡ Some ask → ask.sheet ≡ o
        → Answer n s.back front.asks frames (frame_step false frame s.back)
    by-sheet ask (Some sheet) well answered keeps quiet is fetches = answer-fetch n frame front s frames ask sheet fit is fetches
    by-sheet ask None well answered keeps quiet is plain =
        let done : Step = frame_step false frame s.back in
        answer-plain n frame front s frames done fit well keeps (ap (option_and_then (λ (a : Ask). a.sheet)) is ∙ plain)
        (subst (λ asks. InTurn done.moves asks (asks_among frames)) (first-asks frame frames front.asks (Some ask) fit.asks is)
        (by-asked ask (asks_among frames) done.moves (asked frame false) plain (asked-ask frame ask is) answered quiet))

    by-sendable : StepsWell s.back (frame_step false frame s.back) → IsAnswered (asked frame false) (frame_step false frame s.back).moves
        → KeepsAtMost (edits_asked (asked frame false)) s.back (frame_step false frame s.back).state
        → AreQuiet (frame_step false frame s.back).moves → Sendable frame
        → Answer n s.back front.asks frames (frame_step false frame s.back)
    by-sendable well answered keeps quiet (is_ask ask is) = by-sheet ask ask.sheet well answered keeps quiet is refl
    by-sendable well answered keeps quiet (is_bare bare) =
        let done : Step = frame_step false frame s.back in
        answer-plain n frame front s frames done fit well keeps (ap (option_and_then (λ (a : Ask). a.sheet)) bare.no_ask)
        (subst (λ asks. InTurn done.moves asks (asks_among frames)) (first-asks frame frames front.asks None fit.asks bare.no_ask)
        (by-refusal (asks_among frames) done.moves (refusal None bare.why) refl
        (subst (λ r. IsAnswered r done.moves) bare.refused answered)))

-- and so does what the script's own step sends
fit-turned : (n : Spent) (x : Turn) (front : FrontValue) (s : RunState) (frames : List (List ℕ))
    → IsNextTurn n x → IsFit n front s frames → Leads take_frame (IsFit (one_turn n)) front (run_turn x s) frames
fit-turned n x front s frames next fit =
    let state : State = s.back in
    let well : StepsWell state (turn_step x state) =
    (turn-steps-well state x fit.is_state (fit-room n front s frames fit) next.is_turn).0 in
    let done : Step = turn_step x state in
    let keeps : TurnKeeps state done.state = turn-keeps x state well in
    leads-on n (one_turn n) s done [] s.styles front frames frames fit well
    (subst (λ asks. InTurn done.moves asks (asks_among frames)) fit.asks
    (tells-all done.moves (asks_among frames) (turn-answers x state))) fit.sendable (record {
      few = fit.few;
      few_turns = next.few;
      few_edits = fit.few_edits;
      drawn = turned_ids (length state.client.session.pushed + tree_edits state)
          (length done.state.client.session.pushed + tree_edits done.state) (drawing frames) (n.asks + n.raws) n.turns keeps.ids fit.drawn;
      trees = turned_less (tree_edits state) (tree_edits done.state) (drawing frames * 2) ((n.asks + n.raws) * 2) keeps.trees fit.trees;
      edits = turned_less (edits_kept state) (edits_kept done.state) (asking frames) n.edits keeps.edits fit.edits;
      serials = turned_serials state.side.page.next done.state.side.page.next
          (drawing frames) n.asks n.raws n.turns well.serials fit.serials;
      numbers = turned_numbers state.side.next_sheet done.state.side.next_sheet
          (drawing frames) n.asks n.raws n.turns well.sheets fit.numbers;
      searches = turned_searches state.client.searches.given done.state.client.searches.given
          (drawing frames) n.asks n.raws n.turns well.searches fit.searches;
    }) (ap (map kept_styles) (quiet-styles done.moves (turn-answers x state))) (append-nil s.styles)

-- the laws of a run, of a replay
pub world_laws : Laws replay AlwaysRoom IsNextIn IsNextTurn IsFit
world_laws = record {
  later = folded-join;
  asks = λ n m ask front state frames is_next. fit-asked n m ask front state frames is_next;
  answers = λ n frame front state frames room. fit-answered n frame front state frames;
  turns = λ n x front state frames room. fit-turned n x front state frames;
}

-- there is room throughout
pub room-always : (s : RunState) (frames : List (List ℕ)) → RoomThroughout run_step AlwaysRoom s frames
room-always s frames = always-room run_step AlwaysRoom (λ state. tt) s frames
