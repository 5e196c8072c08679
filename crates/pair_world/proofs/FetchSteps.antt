-- The fetch of a text that one of two front ends lacks: the page and both clients are as they were, and its own front end has the text.
use Rattle.std.proofs.Common.{◌≡◌, ℕ, ◌+◌, ◌^◌, ◌<◌, ◌≤◌, Bool, true, false, not, ◌&&◌, cond, List, [], ◌∷◌, ◌++◌, Some, None, Ok, refl}
use Rattle.std.proofs.Common.{sym}
use Rattle.std.proofs.Common.{◌∙◌, ap, subst, append-nil, arith}
use Rattle.std.specs.Option.{option_to_list}
use Rattle.std.specs.Prelude.{IsUtf8}
use Rattle.node_tree.specs.Numbers.{first_fetch}
use Rattle.pipe_frames.specs.Frames.{Frames, frames_of}
use Rattle.cdp_json.specs.Kinds.{is_counted}
use Rattle.cdp_json.specs.Lookups.{then_ok}
use Rattle.css_objects.specs.Sheets.{sheet_text}
use Rattle.cdp_messages.specs.declared.command.Command.TheVariants.{AskCss}
use Rattle.cdp_messages.specs.declared.css_ask.CssAsk.TheVariants as css
use Rattle.client_views.specs.Moves.{Move, texted, move_text, frames_of_moves}
use Rattle.front_mirror.specs.declared.replies.Ask.{Ask}
use Rattle.front_mirror.specs.Front.{FrontValue, fetch_ask, take_frame}
use Rattle.front_mirror.specs.Sheets.{stale_of}
use Rattle.back_end.specs.States.{Side, State, sheets_shown}
use Rattle.back_end.specs.Steps.{Step, frame_step, needs_on, needs_css}
use Rattle.back_end.specs.Outside.{Outward, unchanged, asked_outward, frame_outward}
use Rattle.session_runs.specs.Fold.{folded}
use Rattle.session_runs.specs.PairFit.{LeadsClient}
use Rattle.session_runs.proofs.AgreeLemmas.{ok-one}
use Rattle.session_runs.proofs.FetchPairs.{LeavesAll}
use Rattle.multi_replay.specs.Folds.{asks_more}
use Rattle.multi_replay.specs.Incoming.{is_target_id}
use Rattle.inspect_world.specs.RunStates.{styles_asked, styles_answered}
use Rattle.inspect_world.specs.Fits.{ask_of_frame, is_ask, most_fetches}
use Rattle.inspect_world.specs.FreshRuns.{unstyled}
use Rattle.inspect_world.proofs.FetchForms.{fetcher-asks, fetcher-asked}
use Rattle.inspect_world.proofs.FetchesFit.{IsShownSheet, stale-is-shown, texted-is-text, fetch-step, fetched-front}
use Rattle.inspect_world.proofs.ShownSheets.{shown-below, are-apart, shown-utf8}
use Rattle.inspect_world.proofs.StaleLemmas.{AreApart, stale-fetched}
use Rattle.inspect_world.proofs.StepsTaken.{frames_of-moves}
use Rattle.pair_world.specs.Clients.{pair_reads, RunClient, state_of, client_steps}
use Rattle.pair_world.specs.Shown.{IsSessionNumber, HasRoomFor, MaySend, Shows}
use Rattle.pair_world.specs.PairFresh.{fetch_in}
use Rattle.pair_world.proofs.ClientLemmas.{read_laws, client_laws}
use Rattle.pair_world.proofs.DeedLemmas.{ask-id}

-- the text of a fetch, without a session
abbrev pub fetch_frame : ℕ → ℕ → List ℕ
fetch_frame count number = fetch_in None count number

-- the asks that stand in it
abbrev pub fetch_asks : ℕ → ℕ → List Ask
fetch_asks count number = option_to_list (ask_of_frame (fetch_frame count number))

-- The fetch leaves the page and all clients as they are; the front end that waits for its answer takes it, and lacks the other texts alone.
pub record FetchTold (v : FrontValue) (side : Side) (c : RunClient) (count number : ℕ) (numbers : List ℕ) : Type 0 where
  pub leaves : LeavesAll pair_reads client_steps read_laws IsSessionNumber Shows (fetch_frame count number) side c
  pub leads : LeadsClient pair_reads client_steps IsSessionNumber Shows (asks_more v (fetch_asks count number))
      (client_steps.own (fetch_frame count number) side c).sent (client_steps.own (fetch_frame count number) side c).side
      (client_steps.own (fetch_frame count number) side c).client []
  pub left : stale_of leads.after.sheets ≡ numbers
  pub same : unstyled leads.after ≡ unstyled v

-- whichever of the two tests holds, it is the same
either-same : {A : Type 0} (a b : Bool) (x : A) → cond a x (cond b x x) ≡ x
either-same true b x = refl
either-same false true x = refl
either-same false false x = refl

-- ids of fetches are none of attaches and detaches
pub fetch-id : (count : ℕ) → count + 1 ≤ most_fetches
    → (is_counted (first_fetch + count) ≡ true) × (is_target_id (first_fetch + count) ≡ false)
fetch-id count few = ask-id (first_fetch + count) (omega (arith, few))

module _ (v : FrontValue) (side : Side) (c : RunClient) (count number : ℕ) (numbers : List ℕ) (shows : Shows v side c [])
    (room : HasRoomFor side c) (first : stale_of v.sheets ≡ number ∷ numbers) (few : count + 1 ≤ most_fetches) where
  abbrev state : State
  state = state_of side c

  abbrev frame : List ℕ
  frame = fetch_frame count number

  sheet : IsShownSheet state number
  sheet = stale-is-shown state v.sheets number numbers shows.is_state room shows.has.sheets first

  fits : number < 2 ^ 64
  fits = let high : number < 2 ^ 53 = sheet.high in omega (arith, high)

  asks_is : ask_of_frame frame ≡ Some (fetch_ask count number)
  asks_is = fetcher-asks count number few fits

  done : frame_step false frame state ≡ record { state = state; moves = texted (first_fetch + count) number sheet.text ∷ [] }
  done = fetch-step count number state few sheet

  -- it may be sent
  may : MaySend frame
  may = record {
    sendable = is_ask (fetch_ask count number) asks_is;
    no_target = λ ask e.
        subst (λ (a : Ask). is_target_id a.id ≡ false) (same (fetch_ask count number) ask (sym asks_is ∙ e)) (fetch-id count few).1;
  } where
    same : (a b : Ask) → Some a ≡ Some b → a ≡ b
    same a b e = cc

  outward_is : frame_outward false frame state ≡ unchanged state
  outward_is =
      let command = AskCss (css.GetStyleSheetText (sheet_text number)) in
      ap (λ r. asked_outward r state) (fetcher-asked count number few fits)
      ∙ either-same (needs_on command && not state.client.dom_on) (needs_css command && not state.client.css_on) (unchanged state)

  leaves : LeavesAll pair_reads client_steps read_laws IsSessionNumber Shows frame side c
  leaves = record {
    side_is = ap (λ (d : Step). d.state.side) done;
    client_is =
        let none : styles_answered frame state ≡ [] = ap (λ r. styles_asked r state) (fetcher-asked count number few fits) in
        λ i. record {
          client = (done i).state.client;
          styles = (ap (λ ts. c.styles ++ ts) none ∙ append-nil c.styles) i;
        };
    others = λ other. ap (λ (d : Outward). client_steps.outside d side other) outward_is;
  }

  abbrev waits : FrontValue
  waits = asks_more v (fetch_asks count number)

  shows-waiting : Shows waits side c (fetch_asks count number ++ [])
  shows-waiting =
      subst (Shows waits side c) (sym (append-nil (fetch_asks count number)))
      (client_laws.joins v side c [] (fetch_asks count number) shows)

  leads : LeadsClient pair_reads client_steps IsSessionNumber Shows waits (client_steps.own frame side c).sent
      (client_steps.own frame side c).side (client_steps.own frame side c).client []
  leads = (client_laws.owns frame waits side c [] room may shows-waiting).0

  -- the front end after the answer
  pub fetch-told : FetchTold v side c count number numbers
  fetch-told =
      let counted : is_counted (first_fetch + count) ≡ true = (fetch-id count few).0 in
      let move : Move = texted (first_fetch + count) number sheet.text in
      let utf8 : IsUtf8 sheet.text = shown-utf8 number sheet.text side.sheets shows.is_state.now.sheets.texts sheet.shown in
      let v1 : FrontValue = asks_more v (fetch_ask count number ∷ []) in
      let joins : waits ≡ v1 = ap (λ o. asks_more v (option_to_list o)) asks_is in
      let asks : v1.asks ≡ fetch_ask count number ∷ [] =
      ap (λ (asks : List Ask). asks ++ fetch_ask count number ∷ []) (sym shows.waiting) in
      let f = fetched-front v1 count number sheet.text asks counted utf8 in
      let sent = (client_steps.own frame side c).sent in
      let frames : (frames_of sent).whole ≡ move_text move ∷ [] =
      ap (λ (d : Step). (frames_of (frames_of_moves d.moves)).whole) done
      ∙ ap (λ (fs : Frames). fs.whole)
      (frames_of-moves (move ∷ []) (texted-is-text (first_fetch + count) number sheet.text counted, tt)) in
      let is : leads.after ≡ f.0 =
      ok-one (folded take_frame waits (frames_of sent).whole) leads.after f.0 leads.is_fold
      (ap (λ u. folded take_frame u (frames_of sent).whole) joins ∙ ap (folded take_frame v1) frames
      ∙ ap (λ r. then_ok r (λ (next : FrontValue). Ok next)) f.1) in
      let apart : AreApart v.sheets =
      are-apart 1 side.next_sheet v.sheets (sheets_shown state) shows.has.sheets (shown-below state shows.is_state).numbers in
      record {
        leaves = leaves;
        leads = leads;
        left =
            ap (λ (u : FrontValue). stale_of u.sheets) is ∙ ap stale_of f.2
            ∙ stale-fetched v.sheets number numbers sheet.text apart first;
        same = ap unstyled is ∙ f.3 ∙ ap (λ (asks : List Ask). record (unstyled v) { asks = asks }) shows.waiting;
      }
