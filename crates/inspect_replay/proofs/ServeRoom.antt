-- There is room for each frame of one client in an input that is not too long.
use Rattle.std.proofs.Common.{◌≡◌, ℕ, ◌+◌, ◌*◌, ◌^◌, ◌<◌, ◌≤◌, true, List, [], ◌∷◌, length, Option, None, Result, Ok, Err, refl, sym, ◌∙◌}
use Rattle.std.proofs.Common.{ap, subst, arith}
use Rattle.page_tree.specs.Forms.{max_nodes}
use Rattle.page_forms.specs.Sheets.{max_sheets}
use Rattle.pipe_frames.specs.Frames.{frames_of}
use Rattle.cdp_messages.specs.Asked.{asked}
use Rattle.cdp_messages.specs.declared.command.Asked.{Asked}
use Rattle.cdp_messages.specs.declared.command.Refused.{Refused}
use Rattle.back_end.specs.States.{State, IsState, loaded_state}
use Rattle.back_end.specs.Steps.{Step, frame_step, asked_step}
use Rattle.back_end.specs.Laws.{tree_edits, edits_kept, edits_asked, KeepsAtMost, HasRoom, StepsWell}
use Rattle.back_end.specs.Seats.{first_page}
use Rattle.back_end.proofs.EditSizes.{frame-long, edits-few}
use Rattle.back_end.proofs.FrameLemmas.{frame-steps-well}
use Rattle.session_runs.specs.World.{steps}
use Rattle.inspect_world.specs.Links.{bytes_among}
use Rattle.inspect_world.proofs.CountLemmas.{command-ids, ids-left, few-edits, frames-within, bytes-append}
use Rattle.back_end.proofs.StartLemmas.{IsState-first}
use Rattle.replay_parts.specs.declared.stop.Stop.TheVariants.{NoRoom}
use Rattle.inspect_replay.specs.Served.{Served, alone, paired, first_alone, served_step, HasRoomFor}
use Rattle.inspect_replay.specs.Serving.{HaltedIn}
use Rattle.inspect_replay.proofs.ServeLemmas.{nothing-loaded, no-texts}

-- ---- what the frames draw

-- what is true of the state after frames of so many bytes
record Drawn (state : State) (bytes : ℕ) : Type 0 where
  is_state : IsState state
  commands : ℕ
  frames : ℕ
  ids : length state.client.session.pushed + tree_edits state ≤ (commands + 0) * 500000 + (commands * commands + commands)
  trees : tree_edits state ≤ commands * 2
  edits : edits_kept state ≤ bytes
  serials : state.side.page.next ≤ (frames + 1) * (max_nodes + 1)
  numbers : state.side.next_sheet ≤ (frames + 1) * max_sheets + 1
  searches : state.client.searches.given ≤ frames
  long : commands * 9 ≤ bytes
  few : frames ≤ bytes

first-drawn : Drawn (loaded_state (first_page None)) 0
first-drawn = record {
  is_state = IsState-first (first_page None) nothing-loaded no-texts;
  commands = 0;
  frames = 0;
  ids = omega arith;
  trees = omega arith;
  edits = omega arith;
  serials = omega arith;
  numbers = omega arith;
  searches = omega arith;
  long = omega arith;
  few = omega arith;
}

serials-few : (next frames bytes : ℕ) → frames ≤ bytes → bytes ≤ 2 ^ 26 → next ≤ (frames + 1) * 100001 → next < 2 ^ 50
serials-few next frames bytes few small drawn = omega (arith, few, small, drawn)

numbers-few : (next frames bytes : ℕ) → frames ≤ bytes → bytes ≤ 2 ^ 26 → next ≤ (frames + 1) * 1000 + 1 → next < 2 ^ 50
numbers-few next frames bytes few small drawn = omega (arith, few, small, drawn)

searches-few : (given frames bytes : ℕ) → frames ≤ bytes → bytes ≤ 2 ^ 26 → given ≤ frames → given + 1 < 2 ^ 50
searches-few given frames bytes few small drawn = omega (arith, few, small, drawn)

has-room : (state : State) (bytes : ℕ) → Drawn state bytes → bytes ≤ 2 ^ 26 → HasRoom state
has-room state bytes d small =
    let less : bytes < 2 ^ 28 = omega (arith, small) in
    record {
      ids = ids-left (length state.client.session.pushed) (tree_edits state) d.commands 0 bytes d.long less (omega arith) d.ids;
      serials = serials-few state.side.page.next d.frames bytes d.few small d.serials;
      sheets = numbers-few state.side.next_sheet d.frames bytes d.few small d.numbers;
      edits = few-edits (edits_kept state) bytes less d.edits;
      searches = searches-few state.client.searches.given d.frames bytes d.few small d.searches;
    }

more-serials : (before after n : ℕ) → before ≤ (n + 1) * 100001 → after ≤ before + 100001 → after ≤ (n + 1 + 1) * 100001
more-serials before after n few more = omega (arith, few, more)

more-numbers : (before after n : ℕ) → before ≤ (n + 1) * 1000 + 1 → after ≤ before + 1000 → after ≤ (n + 1 + 1) * 1000 + 1
more-numbers before after n few more = omega (arith, few, more)

-- one frame more: a command, or one that is refused and changes nothing
frame-drawn : (frame : List ℕ) (state : State) (bytes : ℕ) → Drawn state bytes → HasRoom state
    → Drawn (frame_step true frame state).state (length frame + 1 + bytes)
frame-drawn frame state bytes d room = at (asked frame true) refl where
  at : (r : Result Asked Refused) → asked frame true ≡ r → Drawn (frame_step true frame state).state (length frame + 1 + bytes)
  at (Ok a) e =
      let done : Step = frame_step true frame state in
      let all = frame-steps-well true state frame d.is_state room in
      let well : StepsWell state done = all.0 in
      let keeps : KeepsAtMost (edits_asked (asked frame true)) state done.state = all.2 in
      let few : edits_asked (asked frame true) ≤ length frame = edits-few true frame in
      let long : 8 ≤ length frame = frame-long true frame a e in
      record {
        is_state = well.is_state;
        commands = d.commands + 1;
        frames = d.frames + 1;
        ids = command-ids (length state.client.session.pushed) (tree_edits state) (length done.state.client.session.pushed)
            (tree_edits done.state) d.commands 0 well.ids well.trees d.trees d.ids;
        trees = omega (arith, well.trees, d.trees);
        edits = omega (arith, keeps, few, d.edits);
        serials = more-serials state.side.page.next done.state.side.page.next d.frames d.serials well.serials;
        numbers = more-numbers state.side.next_sheet done.state.side.next_sheet d.frames d.numbers well.sheets;
        searches = omega (arith, well.searches, d.searches);
        long = omega (arith, d.long, long);
        few = omega (arith, d.few);
      }
  at (Err r) e =
      let same : (frame_step true frame state).state ≡ state = ap (λ x. (asked_step x state).state) e in
      subst (λ (s : State). Drawn s (length frame + 1 + bytes)) (sym same) (record {
        is_state = d.is_state;
        commands = d.commands;
        frames = d.frames;
        ids = d.ids;
        trees = d.trees;
        edits = omega (arith, d.edits);
        serials = d.serials;
        numbers = d.numbers;
        searches = d.searches;
        long = omega (arith, d.long);
        few = omega (arith, d.few);
      })

-- the same of what is served, where it is one client
abbrev DrawnBy : Served → ℕ → Type 0
DrawnBy (alone state) bytes = Drawn state bytes
DrawnBy (paired pair) bytes = ⊥

served-room : (now : Served) (bytes : ℕ) → DrawnBy now bytes → bytes ≤ 2 ^ 26 → HasRoomFor now
served-room (alone state) bytes d small = has-room state bytes d small
served-room (paired pair) bytes d small = absurd d

served-drawn : (now : Served) (frame : List ℕ) (bytes : ℕ) → DrawnBy now bytes → bytes ≤ 2 ^ 26
    → DrawnBy (served_step now frame).state (length frame + 1 + bytes)
served-drawn (alone state) frame bytes d small = frame-drawn frame state bytes d (has-room state bytes d small)
served-drawn (paired pair) frame bytes d small = absurd d

frames-drawn : (frames : List (List ℕ)) (now : Served) (bytes : ℕ) → DrawnBy now bytes → bytes_among frames + bytes ≤ 2 ^ 26
    → DrawnBy (steps served_step now frames).state (bytes_among frames + bytes)
frames-drawn [] now bytes d small = let same : bytes ≡ 0 + bytes = omega arith in subst (λ n. DrawnBy now n) same d
frames-drawn (frame ∷ frames) now bytes d small =
    let next = (served_step now frame).state in
    let one : DrawnBy next (length frame + 1 + bytes) = served-drawn now frame bytes d (omega (arith, small)) in
    let sum : bytes_among frames + (length frame + 1 + bytes) ≡ bytes_among (frame ∷ frames) + bytes = omega arith in
    subst (λ n. DrawnBy (steps served_step next frames).state n) sum
    (frames-drawn frames next (length frame + 1 + bytes) one (omega (arith, small)))

-- Answering one client never stops for want of room within so many bytes as an input may have.
pub never-full : (bytes : List ℕ) (before after : Option (List ℕ)) → length bytes ≤ 2 ^ 26
    → HaltedIn NoRoom first_alone (frames_of bytes).whole before after → ⊥
never-full bytes before after few halted =
    let within : bytes_among (frames_of bytes).whole ≤ length bytes = frames-within bytes in
    let cut : bytes_among (frames_of bytes).whole ≡ bytes_among halted.answered + bytes_among halted.others =
    ap bytes_among halted.cut ∙ bytes-append halted.answered halted.others in
    let end = (steps served_step first_alone halted.answered).state in
    let drawn : DrawnBy end (bytes_among halted.answered + 0) =
    frames-drawn halted.answered first_alone 0 first-drawn (omega (arith, few, within, cut)) in
    halted.ends.0.full (served-room end (bytes_among halted.answered + 0) drawn (omega (arith, few, within, cut)))
