-- A guest that is told of another client's edit stands for the step that this is for it.
use Rattle.std.proofs.Common.{◌≡◌, ℕ, ◌+◌, ◌^◌, ◌<◌, ◌≤◌, ◌++◌, List, [], ◌∷◌, length, Option, Some, None, sym, ap, subst, ◌∙◌}
use Rattle.std.proofs.Common.{false, ◌*◌, Result, Ok, Err, append-nil, append_assoc, arith}
use Rattle.std.specs.Result.{OnOk}
use Rattle.std.proofs.lemmas.List.Concat.{flat_map-append}
use Rattle.pipe_frames.specs.Frames.{framed}
use Rattle.node_tree.specs.Nodes.{none}
use Rattle.page_forms.specs.Mediums.{usual_medium}
use Rattle.page_tree.specs.Pages.{PageValue}
use Rattle.page_tree.specs.Edits.{after}
use Rattle.page_tree.specs.EditFaults.{CanApply}
use Rattle.page_tree.specs.declared.edits.TreeEdit.{TreeEdit}
use Rattle.client_views.specs.Moves.{Move, move_text, frames_of_moves}
use Rattle.dom_agent.specs.ModeEdits.{shown_binding_edited}
use Rattle.undo_marks.specs.Marks.{Marks, crossed_over, no_marks}
use Rattle.undo_marks.specs.declared.inverse_lists.Inverse.{Inverse}
use Rattle.undo_marks.specs.declared.inverse_lists.Inverse.TheVariants.{Tree}
use Rattle.back_end.specs.States.{State, Keeps, loaded_state}
use Rattle.back_end.specs.Steps.{Step, idle, followed_by, crossing, with_crossed, pause_before, script_step, edit_step, watches_left}
use Rattle.back_end.specs.Texts.{EditHasTexts}
use Rattle.back_end.specs.Seats.{DeskStandsFor, BothStandFor, StandsFor}
use Rattle.back_end.specs.Guests.{heard_one, GuestStands, Hears, IsTold, CanHear, HasLeft, IsAsBefore, leaving, LeavesPage, ComesToPage}
use Rattle.sheet_reader.specs.declared.book.SheetEntry.{SheetEntry}
use Rattle.cdp_messages.specs.Replies.{message_frames}
use Rattle.css_agent.specs.Told.{turn_messages}
use Rattle.back_end.specs.declared.guest.Guest.{Guest}
use Rattle.back_end.specs.declared.desk.Desk.{Desk}
use Rattle.back_end.specs.declared.side.PageSide.{PageSide}
use Rattle.std.proofs.Math.Logic.{∥∥₁_elim, ∥∥₁_map}
use Rattle.std.proofs.Props.{props}
use Rattle.back_end.proofs.WellSteps.{Well, HasNumbers}
use Rattle.back_end.proofs.StepLemmas.{script-well}
use Rattle.back_end.proofs.PauseSteps.{Pauses, edit-pauses}
use Rattle.back_end.proofs.ScriptLemmas.{edit-stands, edit-sent, crossed-stands, in_any}
use Rattle.back_end.proofs.HistoryLemmas.{keeps-crossed}
use Rattle.back_end.proofs.HeardLemmas.{outside-marks}

-- ---- an edit of the tree

-- after the pause there are ids left for the edit
paused-low : (d d1 : Desk) (s : PageSide) (state : State) (e : TreeEdit) → DeskStandsFor d s state
    → CanApply s.page.next e s.page.tree → d.agent.next + 200001 < 2 ^ 51 → s.page.next < 2 ^ 51 → s.sheets.next < 2 ^ 51
    → DeskStandsFor d1 s (pause_before e state).state → d1.agent.next < 2 ^ 51
paused-low d d1 s state e stands can ids serials sheets paused =
    let same : s.page ≡ state.side.page = stands.page_is in
    let can_here : CanApply state.side.page.next e state.side.page.tree = subst (λ (p : PageValue). CanApply p.next e p.tree) same can in
    let next : d.agent.next ≡ length state.client.session.pushed + 1 = stands.stands.next_is in
    let low : s.page.next ≡ state.side.page.next = ap (λ (p : PageValue). p.next) same in
    let last : s.sheets.next ≡ state.side.next_sheet = stands.next_is in
    let numbers : HasNumbers state = record {
      ids = omega (arith, next, ids);
      serials = omega (arith, low, serials);
      sheets = omega (arith, last, sheets);
    } in
    let pauses : Pauses state (pause_before e state) = edit-pauses state e stands.now numbers (omega (arith, next, ids)) can_here in
    let now : d1.agent.next ≡ length (pause_before e state).state.client.session.pushed + 1 = paused.stands.next_is in
    omega (arith, next, ids, now, pauses.well.few_ids)

pub heard-stands : (d d1 d2 : Desk) (h h2 : Marks Inverse) (s s2 : PageSide) (state : State) (e : TreeEdit) → BothStandFor d h s state
    → CanApply s.page.next e s.page.tree → EditHasTexts e
    → d.agent.next + 200001 < 2 ^ 51 → s.page.next < 2 ^ 51 → s.sheets.next < 2 ^ 51
    → DeskStandsFor d1 s (pause_before e state).state
    → s2.page ≡ after e s.page → s2.sheets ≡ s.sheets → d2.is_on ≡ d1.is_on → d2.css ≡ d1.css
    → d2.watches ≡ watches_left d1.agent.mode e s.page.tree d1.watches → d2.searches ≡ d1.searches
    → d2.agent ≡ (shown_binding_edited d1.agent.mode e s.page d1.agent).state
    → h2 ≡ crossed_over h
    → BothStandFor d2 h2 s2 (heard_one (Tree e) state).state
heard-stands d d1 d2 h h2 s s2 state e both can texts ids serials sheets paused page sheets_is on css watches searches agent crossed =
    let low : d1.agent.next < 2 ^ 51 = paused-low d d1 s state e both.stands can ids serials sheets paused in
    let done : Step = script_step e state in
    record {
      stands = crossed-stands d2 s2 done.state
          (edit-stands d1 d2 s s2 (pause_before e state).state e paused can texts low serials sheets page sheets_is on css watches
          searches agent);
      kept = subst (λ (x : Marks Inverse). Keeps x (heard_one (Tree e) state).state) (sym crossed)
          (keeps-crossed h state done.state both.kept (outside-marks (Tree e ∷ []) state));
    }

pub heard-sent : (d1 : Desk) (s : PageSide) (state : State) (e : TreeEdit) (old middle new : List ℕ)
    → DeskStandsFor d1 s (pause_before e state).state → CanApply s.page.next e s.page.tree
    → middle ≡ old ++ frames_of_moves (pause_before e state).moves
    → new ≡ middle ++ frames_of_moves (shown_binding_edited d1.agent.mode e s.page d1.agent).moves
    → new ≡ old ++ frames_of_moves (heard_one (Tree e) state).moves
heard-sent d1 s state e old middle new paused can first last =
    let one : List Move = (pause_before e state).moves in
    let two : List Move = (edit_step e (pause_before e state).state).moves in
    edit-sent d1 s (pause_before e state).state e middle new paused can last
    ∙ ap (λ (bs : List ℕ). bs ++ frames_of_moves two) first
    ∙ append_assoc old (frames_of_moves one) (frames_of_moves two)
    ∙ ap (λ (bs : List ℕ). old ++ bs) (sym (flat_map-append (λ (m : Move). framed (move_text m)) one two))

-- ---- what is heard, by steps

-- where nothing is told, nothing changes
pub hears-nothing : (g : Option Guest) (s : PageSide) (state : State) → GuestStands g s state → Hears g g s (idle state)
hears-nothing None s state stands = tt
hears-nothing (Some g) s state stands = (stands, sym (append-nil g.out.items))

-- the guest stands for the state after what it heard
pub hears-stands : (a b : Option Guest) (s : PageSide) (done : Step) → Hears a b s done → GuestStands b s done.state
hears-stands None None s done h = tt
hears-stands None (Some y) s done h = absurd h
hears-stands (Some x) None s done h = absurd h
hears-stands (Some x) (Some y) s done h = h.0

-- one step, and then another
pub hears-then : (a b c : Option Guest) (s1 s2 : PageSide) (first : Step) (later : State → Step) → Hears a b s1 first
    → Hears b c s2 (later first.state) → Hears a c s2 (followed_by first later)
hears-then None None None s1 s2 first later h k = tt
hears-then None None (Some z) s1 s2 first later h k = absurd k
hears-then None (Some y) c s1 s2 first later h k = absurd h
hears-then (Some x) None c s1 s2 first later h k = absurd h
hears-then (Some x) (Some y) None s1 s2 first later h k = absurd k
hears-then (Some x) (Some y) (Some z) s1 s2 first later h k = (
  k.0,
  k.1 ∙ ap (λ (bs : List ℕ). bs ++ frames_of_moves (later first.state).moves) h.1
      ∙ append_assoc x.out.items (frames_of_moves first.moves) (frames_of_moves (later first.state).moves)
      ∙ ap (λ (bs : List ℕ). x.out.items ++ bs)
      (sym (flat_map-append (λ (m : Move). framed (move_text m)) first.moves (later first.state).moves)),
)

-- fewer edits can be heard too
pub hear-fewer : (n m : ℕ) (g : Option Guest) (s : PageSide) → m ≤ n → CanHear n g s → CanHear m g s
hear-fewer n m None s less can = tt
hear-fewer n m (Some g) s less can = let low = can.1 in (can.0, omega (arith, less, low))

-- what holds where a call answers Ok, twice
both_ok : {T E : Type 0} (result : Result T E) (P Q : Type 0) → OnOk result P → OnOk result Q → OnOk result (P × Q)
both_ok (Ok value) P Q p q = (p, q)
both_ok (Err fault) P Q p q = tt

-- a guest that stands for the state after the step, to which the step's frames were sent, heard it
pub guest-hears : {T E : Type 0} (result : Result T E) (o : Option Guest) (g h : Guest) (s s1 : PageSide) (state : State) (done : Step)
    → o ≡ Some g → GuestStands o s state → (StandsFor g.seat s state → OnOk result (StandsFor h.seat s1 done.state))
    → (StandsFor g.seat s state → OnOk result (h.out.items ≡ g.out.items ++ frames_of_moves done.moves))
    → OnOk result (Hears o (Some h) s1 done)
guest-hears result o g h s s1 state done is stands one two =
    let here : StandsFor g.seat s state = subst (λ (x : Option Guest). GuestStands x s state) is stands in
    subst (λ (x : Option Guest). OnOk result (Hears x (Some h) s1 done)) (sym is) (both_ok result _ _ (one here) (two here))

-- where there is no guest, none hears anything
pub none-hears : {T E : Type 0} (result : Result T E) (o : Option Guest) (s : PageSide) (done : Step) → o ≡ None
    → OnOk result (Hears o o s done)
none-hears result o s done is = subst (λ (x : Option Guest). OnOk result (Hears x x s done)) (sym is) (in_any result _ tt)

-- one edit can be heard
pub one-left : (o : Option Guest) (g : Guest) (s : PageSide) → o ≡ Some g → CanHear 1 o s → g.seat.desk.agent.next + 200001 < 2 ^ 51
one-left o g s is can =
    let here : CanHear 1 (Some g) s = subst (λ (x : Option Guest). CanHear 1 x s) is can in
    let low : g.seat.desk.agent.next + 200001 * 1 < 2 ^ 51 = here.1 in
    omega (arith, low)

-- ---- after an edit another can be heard

-- ids are left for the others
left-after : (n : ℕ) (g h : Guest) (s s1 : PageSide) (state : State) (e : TreeEdit) → StandsFor g.seat s state
    → CanApply s.page.next e s.page.tree → EditHasTexts e → g.seat.desk.agent.next + 200001 * (n + 1) < 2 ^ 51
    → s.page.next < 2 ^ 51 → s.sheets.next < 2 ^ 51
    → StandsFor h.seat s1 (heard_one (Tree e) state).state → h.seat.desk.agent.next + 200001 * n < 2 ^ 51
left-after n g h s s1 state e both can texts ids serials sheets after =
    let stands = both.stands in
    let same : s.page ≡ state.side.page = stands.page_is in
    let can_here : CanApply state.side.page.next e state.side.page.tree = subst (λ (p : PageValue). CanApply p.next e p.tree) same can in
    let next : g.seat.desk.agent.next ≡ length state.client.session.pushed + 1 = stands.stands.next_is in
    let low : s.page.next ≡ state.side.page.next = ap (λ (p : PageValue). p.next) same in
    let last : s.sheets.next ≡ state.side.next_sheet = stands.next_is in
    let numbers : HasNumbers state = record {
      ids = omega (arith, next, ids);
      serials = omega (arith, low, serials);
      sheets = omega (arith, last, sheets);
    } in
    let well : Well state (script_step e state) 200001 0 0 =
    (script-well state e stands.now numbers (omega (arith, next, ids)) can_here texts).0 in
    let now : h.seat.desk.agent.next ≡ length (script_step e state).state.client.session.pushed + 1 = after.stands.stands.next_is in
    omega (arith, next, ids, now, well.few_ids)

pub can-hear-on : (n : ℕ) (e : TreeEdit) (a b : Option Guest) (s s1 : PageSide) → CanHear (n + 1) a s
    → CanApply s.page.next e s.page.tree → EditHasTexts e → s.page.next < 2 ^ 51 → s.sheets.next < 2 ^ 51
    → ((state : State) → GuestStands a s state → Hears a b s1 (heard_one (Tree e) state)) → CanHear n b s1
can-hear-on n e None None s s1 can takes texts serials sheets told = tt
can-hear-on n e None (Some h) s s1 can takes texts serials sheets told =
    absurd (told (loaded_state (record { nodes = none; medium = usual_medium; sheets = [] })) tt)
can-hear-on n e (Some g) None s s1 can takes texts serials sheets told = absurd (∥∥₁_elim can.0 (hlevel props) (λ p. told p.0 p.1))
can-hear-on n e (Some g) (Some h) s s1 can takes texts serials sheets told = (
  ∥∥₁_map can.0 (λ p. ((heard_one (Tree e) p.0).state, (told p.0 p.1).0)),
  ∥∥₁_elim can.0 (hlevel props)
      (λ p. left-after n g h s s1 p.0 e p.1 takes texts can.1 serials sheets (told p.0 p.1).0),
)

-- ---- a change of sheets, or of the medium

-- the guest is told of it, and its history is empty then
pub told-hears : (a b : Option Guest) (bytes : Guest → List ℕ) (s s1 : PageSide) (state : State) (done : Step) → GuestStands a s state
    → IsTold a b bytes → done.state.client.marks ≡ state.client.marks
    → ((g : Guest) → StandsFor g.seat s state → DeskStandsFor g.seat.desk s1 done.state)
    → ((g : Guest) → StandsFor g.seat s state → (old : List ℕ) → old ++ bytes g ≡ old ++ frames_of_moves done.moves)
    → Hears a b s1 (crossing done)
told-hears None None bytes s s1 state done stands told marks desks sent = tt
told-hears None (Some h) bytes s s1 state done stands told marks desks sent = absurd told
told-hears (Some g) None bytes s s1 state done stands told marks desks sent = absurd told
told-hears (Some g) (Some h) bytes s s1 state done stands told marks desks sent = (
  record {
    stands = crossed-stands h.seat.desk s1 done.state
        (subst (λ (d : Desk). DeskStandsFor d s1 done.state) (sym told.0) (desks g stands));
    kept = subst (λ (x : Marks Inverse). Keeps x (with_crossed done.state)) (sym told.1)
        (keeps-crossed g.seat.history state done.state stands.kept marks);
  },
  told.2 ∙ sent g stands g.out.items,
)

-- ---- a guest that is told, by what became of it

pub told-as : (o : Option Guest) (g h : Guest) (bytes : Guest → List ℕ) → o ≡ Some g → h.seat.desk ≡ g.seat.desk
    → h.seat.history ≡ crossed_over g.seat.history → h.out.items ≡ g.out.items ++ bytes g → IsTold o (Some h) bytes
told-as o g h bytes is desk history out = subst (λ (x : Option Guest). IsTold x (Some h) bytes) (sym is) (desk, history, out)

pub told-none : (o : Option Guest) (bytes : Guest → List ℕ) → o ≡ None → IsTold o o bytes
told-none o bytes is = subst (λ (x : Option Guest). IsTold x x bytes) (sym is) tt

pub left-none : (o : Option Guest) (book : List SheetEntry) → o ≡ None → LeavesPage o o book
left-none o book is = subst (λ (x : Option Guest). LeavesPage x x book) (sym is) tt
