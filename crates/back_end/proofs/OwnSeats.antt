-- What a seat does on one of our own two methods is the step of the state.
use Rattle.std.proofs.Common.{◌≡◌, ℕ, List, [], ◌∷◌, ◌++◌, Option, Some, None, Result, Ok, Err, sym, ◌∙◌, ap, subst, append-nil}
use Rattle.std.proofs.Common.{append_assoc}
use Rattle.std.specs.Prelude.{option_map}
use Rattle.std.proofs.lemmas.List.Concat.{flat_map-append}
use Rattle.serde_json.specs.Data.{Data}
use Rattle.cdp_json.specs.Lookups.{then_ok}
use Rattle.page_tree.specs.Pages.{PageValue}
use Rattle.page_forms.specs.Pages.{LoadedPage}
use Rattle.page_forms.specs.declared.acts.Act.{Act}
use Rattle.cdp_messages.specs.declared.command.CommandErr.{CommandErr}
use Rattle.cdp_messages.specs.declared.command.CommandErr.TheVariants as command_err
use Rattle.cdp_messages.specs.declared.command.Why.{Why}
use Rattle.cdp_messages.specs.declared.down.ReplyBody.TheVariants.{Nothing}
use Rattle.cdp_messages.specs.Answers.{Commands}
use Rattle.pipe_frames.specs.Frames.{framed}
use Rattle.client_views.specs.Moves.{Move, replied, frames_of_moves, move_text}
use Rattle.cdp_messages.specs.Replies.{reply_text}
use Rattle.back_end.specs.declared.faults.ActFault.{ActFault}
use Rattle.back_end.specs.States.{State, book_in, Keeps}
use Rattle.back_end.specs.Plans.{act_fault, act_plan}
use Rattle.back_end.specs.OwnMethods.{act_why, unless_why, load_asked, act_read, act_judged, Finds}
use Rattle.back_end.specs.Steps.{Step, acts, loads, planned_step, act_step, load_step, refusing, answering, own_step, judged_step}
use Rattle.back_end.specs.Steps.{command_step}
use Rattle.cdp_messages.specs.declared.command.Command.TheVariants.{ReplayLoad, ReplayAct}
use Rattle.back_end.specs.Seats.{DeskStandsFor, BothStandFor}
use Rattle.undo_marks.specs.Marks.{Marks, no_marks, crossed_over}
use Rattle.undo_marks.specs.declared.inverse_lists.Inverse.{Inverse}
use Rattle.back_end.proofs.KeepSeats.{acted-kept, unacted-kept, loaded-kept}
use Rattle.back_end.specs.declared.desk.Desk.{Desk}
use Rattle.back_end.specs.declared.side.PageSide.{PageSide}

-- the reply comes after what a step tells
pub answered-sent : (id : ℕ) (ms : List Move) (old middle new : List ℕ) → middle ≡ old ++ frames_of_moves ms
    → new ≡ middle ++ framed (reply_text id Nothing)
    → new ≡ old ++ frames_of_moves (ms ++ replied id Nothing ∷ [])
answered-sent id ms old middle new first last =
    last ∙ ap (λ bs. middle ++ bs) (sym (append-nil (framed (reply_text id Nothing))))
    ∙ ap (λ bs. bs ++ frames_of_moves (replied id Nothing ∷ [])) first
    ∙ append_assoc old (frames_of_moves ms) (frames_of_moves (replied id Nothing ∷ []))
    ∙ ap (λ bs. old ++ bs) (sym (flat_map-append (λ (m : Move). framed (move_text m)) ms (replied id Nothing ∷ [])))

-- ---- a refusal that a reader found

pub finds-why : {X T : Type 0} (seen : X → T) (e : CommandErr) (why : Why) (found : Result T Why) → e ≡ command_err.Refused why
    → Finds seen (Err e) found → found ≡ Err why
finds-why seen e why found is finds = subst (λ x. Finds seen (Err x) found) is finds

pub commands-why : {T : Type 0} (e : CommandErr) (why : Why) (found : Result T Why) → e ≡ command_err.Refused why
    → Commands {T = T} (Err e) found → found ≡ Err why
commands-why {T} e why found is finds = subst (λ x. Commands {T = T} (Err x) found) is finds

-- ---- a load

pub loaded-sent : (state : State) (id : ℕ) (params : Data) (page : LoadedPage) (old middle new : List ℕ) → load_asked params ≡ Ok page
    → middle ≡ old ++ frames_of_moves (load_step page state).moves → new ≡ middle ++ framed (reply_text id Nothing)
    → new ≡ old ++ frames_of_moves (command_step id (ReplayLoad params) state).moves
loaded-sent state id params page old middle new is first last =
    answered-sent id (load_step page state).moves old middle new first last
    ∙ ap (λ r. old ++ frames_of_moves (own_step loads id r state).moves) (sym is)

pub unloaded-sent : (state : State) (id : ℕ) (params : Data) (why : Why) (old new : List ℕ) → load_asked params ≡ Err why
    → new ≡ old ++ frames_of_moves (refusing (Some id) why state).moves
    → new ≡ old ++ frames_of_moves (command_step id (ReplayLoad params) state).moves
unloaded-sent state id params why old new is sent = sent ∙ ap (λ r. old ++ frames_of_moves (own_step loads id r state).moves) (sym is)

-- a desk and a history that stand for the state after a load
pub loaded-both : (d : Desk) (h : Marks Inverse) (s : PageSide) (state : State) (id : ℕ) (params : Data) (page : LoadedPage)
    → load_asked params ≡ Ok page → h ≡ no_marks
    → DeskStandsFor d s (load_step page state).state → BothStandFor d h s (command_step id (ReplayLoad params) state).state
loaded-both d h s state id params page is none stands =
    subst (λ (r : Result LoadedPage Why). BothStandFor d h s (own_step loads id r state).state) (sym is)
    (record {
      stands = stands;
      kept = subst (λ (x : Marks Inverse). Keeps x (load_step page state).state) (sym none)
          (loaded-kept page state);
    })

pub unloaded-both : (d : Desk) (h : Marks Inverse) (s : PageSide) (state : State) (id : ℕ) (params : Data) (why : Why)
    → load_asked params ≡ Err why
    → BothStandFor d h s state → BothStandFor d h s (command_step id (ReplayLoad params) state).state
unloaded-both d h s state id params why is both = subst
    (λ (r : Result LoadedPage Why). BothStandFor d h s (own_step loads id r state).state) (sym is) both

-- ---- an act

-- the step on an act with parameters that were read
judged-is : (state : State) (id : ℕ) (params : Data) (r : Result Act Why) → act_read params ≡ r
    → command_step id (ReplayAct params) state ≡ own_step acts id (then_ok r (act_judged state.side.page (book_in state))) state
judged-is state id params r is = ap (λ found. own_step acts id (then_ok found (act_judged state.side.page (book_in state))) state) is

pub changed-sent : (state : State) (id : ℕ) (params : Data) (act : Act) (old new : List ℕ) → act_read params ≡ Ok act
    → new ≡ old ++ frames_of_moves (judged_step id act state).moves
    → new ≡ old ++ frames_of_moves (command_step id (ReplayAct params) state).moves
changed-sent state id params act old new is sent = sent ∙ ap (λ (done : Step). old ++ frames_of_moves done.moves)
    (sym (judged-is state id params (Ok act) is))

pub unread-sent : (state : State) (id : ℕ) (params : Data) (why : Why) (old new : List ℕ) → act_read params ≡ Err why
    → new ≡ old ++ frames_of_moves (refusing (Some id) why state).moves
    → new ≡ old ++ frames_of_moves (command_step id (ReplayAct params) state).moves
unread-sent state id params why old new is sent = sent ∙ ap (λ (done : Step). old ++ frames_of_moves done.moves)
    (sym (judged-is state id params (Err why) is))

-- the fault of an act is that which the state's page has
pub fault-here : (d : Desk) (s : PageSide) (state : State) (act : Act) (o : Option ActFault) → DeskStandsFor d s state
    → o ≡ act_fault act s.page s.sheets.entries
    → act_fault act state.side.page (book_in state) ≡ o
fault-here d s state act o stands is =
    sym (is ∙ ap (λ (p : PageValue). act_fault act p s.sheets.entries) stands.page_is ∙ ap
    (act_fault act state.side.page) stands.sheets_are)

-- what the page takes is carried out
taken-is : (state : State) (id : ℕ) (act : Act) → act_fault act state.side.page (book_in state) ≡ None
    → judged_step id act state ≡ answering id (act_step act state)
taken-is state id act none = ap (λ o. own_step acts id (unless_why (option_map act_why o) act) state) none

pub taken-sent : (d : Desk) (s : PageSide) (state : State) (id : ℕ) (act : Act) (old middle new : List ℕ) → DeskStandsFor d s state
    → None ≡ act_fault act s.page s.sheets.entries
    → middle ≡ old ++ frames_of_moves (act_step act state).moves → new ≡ middle ++ framed (reply_text id Nothing)
    → new ≡ old ++ frames_of_moves (judged_step id act state).moves
taken-sent d s state id act old middle new before none first last =
    answered-sent id (act_step act state).moves old middle new first last
    ∙ ap (λ (done : Step). old ++ frames_of_moves done.moves) (sym (taken-is state id act (fault-here d s state act None before none)))

-- what the page refuses changes nothing
faulty-is : (state : State) (id : ℕ) (act : Act) (f : ActFault) → act_fault act state.side.page (book_in state) ≡ Some f
    → judged_step id act state ≡ refusing (Some id) (act_why f) state
faulty-is state id act f some = ap (λ o. own_step acts id (unless_why (option_map act_why o) act) state) some

unmoved-is : (state : State) (act : Act) (f : ActFault) → act_fault act state.side.page (book_in state) ≡ Some f
    → act_step act state ≡ record { state = state; moves = [] }
unmoved-is state act f some = ap (λ o. planned_step o (act_plan act state.side.page (book_in state)) state) some

pub faulty-stands : (d d1 : Desk) (s s1 : PageSide) (state : State) (id : ℕ) (act : Act) (f : ActFault) → DeskStandsFor d s state
    → Some f ≡ act_fault act s.page s.sheets.entries
    → DeskStandsFor d1 s1 (act_step act state).state → DeskStandsFor d1 s1 (judged_step id act state).state
faulty-stands d d1 s s1 state id act f before some stands =
    let here : act_fault act state.side.page (book_in state) ≡ Some f = fault-here d s state act (Some f) before some in
    subst (λ (done : Step). DeskStandsFor d1 s1 done.state) (sym (faulty-is state id act f here))
    (subst (λ (done : Step). DeskStandsFor d1 s1 done.state) (unmoved-is state act f here) stands)

pub faulty-sent : (d : Desk) (s : PageSide) (state : State) (id : ℕ) (act : Act) (f : ActFault) (why : Why) (old middle new : List ℕ)
    → DeskStandsFor d s state
    → Some f ≡ act_fault act s.page s.sheets.entries → why ≡ act_why f → middle ≡ old ++ frames_of_moves (act_step act state).moves
    → new ≡ middle ++ frames_of_moves (refusing (Some id) why state).moves
    → new ≡ old ++ frames_of_moves (judged_step id act state).moves
faulty-sent d s state id act f why old middle new before some why_is first last =
    let here : act_fault act state.side.page (book_in state) ≡ Some f = fault-here d s state act (Some f) before some in
    let same : middle ≡ old = first ∙ ap (λ (done : Step). old ++ frames_of_moves done.moves)
    (unmoved-is state act f here) ∙ append-nil old in
    last ∙ ap (λ w. middle ++ frames_of_moves (refusing (Some id) w state).moves) why_is
    ∙ ap (λ bs. bs ++ frames_of_moves (refusing (Some id) (act_why f) state).moves) same
    ∙ ap (λ (done : Step). old ++ frames_of_moves done.moves) (sym (faulty-is state id act f here))

-- ---- with the history

pub changed-both : (d : Desk) (h : Marks Inverse) (s : PageSide) (state : State) (id : ℕ) (params : Data) (act : Act)
    → act_read params ≡ Ok act
    → BothStandFor d h s (judged_step id act state).state → BothStandFor d h s (command_step id (ReplayAct params) state).state
changed-both d h s state id params act is both = subst (λ (done : Step). BothStandFor d h s done.state)
    (sym (judged-is state id params (Ok act) is)) both

pub unread-both : (d : Desk) (h : Marks Inverse) (s : PageSide) (state : State) (id : ℕ) (params : Data) (why : Why)
    → act_read params ≡ Err why
    → BothStandFor d h s state → BothStandFor d h s (command_step id (ReplayAct params) state).state
unread-both d h s state id params why is both = subst (λ (done : Step). BothStandFor d h s done.state)
    (sym (judged-is state id params (Err why) is)) both

pub taken-both : (d d1 : Desk) (h h1 : Marks Inverse) (s s1 : PageSide) (state : State) (id : ℕ) (act : Act) → BothStandFor d h s state
    → None ≡ act_fault act s.page s.sheets.entries → h1 ≡ crossed_over h
    → DeskStandsFor d1 s1 (act_step act state).state → BothStandFor d1 h1 s1 (judged_step id act state).state
taken-both d d1 h h1 s s1 state id act both none crossed stands =
    let here : act_fault act state.side.page (book_in state) ≡ None = fault-here d s state act None both.stands none in
    subst (λ (done : Step). BothStandFor d1 h1 s1 done.state) (sym (taken-is state id act here))
    (record {
      stands = stands;
      kept = subst (λ (x : Marks Inverse). Keeps x (act_step act state).state) (sym crossed)
          (acted-kept h state act here both.kept);
    })

pub faulty-both : (d d1 : Desk) (h : Marks Inverse) (s s1 : PageSide) (state : State) (id : ℕ) (act : Act) (f : ActFault)
    → BothStandFor d h s state → Some f ≡ act_fault act s.page s.sheets.entries
    → DeskStandsFor d1 s1 (act_step act state).state → BothStandFor d1 h s1 (judged_step id act state).state
faulty-both d d1 h s s1 state id act f both some stands =
    let here : act_fault act state.side.page (book_in state) ≡ Some f = fault-here d s state act (Some f) both.stands some in
    record {
      stands = faulty-stands d d1 s s1 state id act f both.stands some stands;
      kept = subst (λ (done : Step). Keeps h done.state) (sym (faulty-is state id act f here)) both.kept;
    }

-- what a script does
pub acted-both : (d d1 : Desk) (h h1 : Marks Inverse) (s s1 : PageSide) (state : State) (act : Act) → BothStandFor d h s state
    → None ≡ act_fault act s.page s.sheets.entries → h1 ≡ crossed_over h
    → DeskStandsFor d1 s1 (act_step act state).state → BothStandFor d1 h1 s1 (act_step act state).state
acted-both d d1 h h1 s s1 state act both none crossed stands = record {
  stands = stands;
  kept = subst (λ (x : Marks Inverse). Keeps x (act_step act state).state) (sym crossed)
      (acted-kept h state act (fault-here d s state act None both.stands none) both.kept);
}

pub unacted-both : (d d1 : Desk) (h : Marks Inverse) (s s1 : PageSide) (state : State) (act : Act) (f : ActFault)
    → BothStandFor d h s state → Some f ≡ act_fault act s.page s.sheets.entries
    → DeskStandsFor d1 s1 (act_step act state).state → BothStandFor d1 h s1 (act_step act state).state
unacted-both d d1 h s s1 state act f both some stands = record {
  stands = stands;
  kept = unacted-kept h state act f (fault-here d s state act (Some f) both.stands some) both.kept;
}

pub load-both : (d : Desk) (h : Marks Inverse) (s : PageSide) (state : State) (page : LoadedPage) → h ≡ no_marks
    → DeskStandsFor d s (load_step page state).state
    → BothStandFor d h s (load_step page state).state
load-both d h s state page none stands = record {
  stands = stands;
  kept = subst (λ (x : Marks Inverse). Keeps x (load_step page state).state) (sym none) (loaded-kept page state);
}
