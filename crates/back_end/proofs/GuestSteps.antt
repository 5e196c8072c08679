-- What a guest hears of whole plans, acts and loads, and of a frame that leaves the page alone.
use Rattle.std.proofs.Common.{◌≡◌, ℕ, ◌+◌, ◌^◌, ◌<◌, ◌&&◌, Bool, true, false, not, cond, List, [], ◌∷◌, ◌++◌, length, map as mapped, Option}
use Rattle.std.proofs.Common.{Some, None}
use Rattle.std.proofs.Common.{refl, sym, ap, subst, ◌∙◌, append_assoc, arith, Result, Ok, Err}
use Rattle.std.specs.Result.{OnOk}
use Rattle.std.specs.Prelude.{option_map}
use Rattle.std.specs.FinMap as map
use Rattle.std.proofs.lemmas.List.Concat.{flat_map-append}
use Rattle.std.proofs.Math.Logic.{∥∥₁_map}
use Rattle.pipe_frames.specs.Frames.{framed}
use Rattle.node_tree.specs.Nodes.{Branch}
use Rattle.node_tree.specs.Labels.{Label}
use Rattle.page_tree.specs.Pages.{PageRow, PageValue, node_at, loaded}
use Rattle.page_tree.specs.Edits.{drawn, form_at, numbered_branch, moved_before}
use Rattle.page_tree.specs.EditFaults.{CanApply, first_fault}
use Rattle.page_tree.specs.declared.edits.TreeEdit.{TreeEdit}
use Rattle.page_tree.specs.declared.edits.TreeEdit.TheVariants.{Attach, Detach}
use Rattle.page_tree.specs.declared.edit_faults.EditFault.{EditFault}
use Rattle.page_forms.specs.declared.acts.Act.{Act}
use Rattle.page_forms.specs.declared.acts.Act.TheVariants.{Medium as SetMedium}
use Rattle.media_rules.specs.declared.medium.Medium.{Medium}
use Rattle.page_forms.specs.Pages.{LoadedPage, CanLoadPage}
use Rattle.page_forms.specs.Texts.{PageHasTexts}
use Rattle.sheet_reader.specs.declared.book.SheetEntry.{SheetEntry}
use Rattle.cdp_messages.specs.Replies.{message_frames}
use Rattle.cdp_messages.specs.declared.command.Command.{Command}
use Rattle.cdp_messages.specs.declared.command.Command.TheVariants.{EditDom, ReplayLoad, ReplayAct}
use Rattle.cdp_messages.specs.declared.command.Why.{Why}
use Rattle.cdp_messages.specs.declared.dom_edit.DomEdit.{DomEdit}
use Rattle.cdp_messages.specs.declared.method.Domains.{Domains}
use Rattle.cdp_messages.specs.Methods.{needs_both}
use Rattle.cdp_messages.proofs.Commands.{edits-need-dom}
use Rattle.cdp_json.specs.Lookups.{then_ok}
use Rattle.serde_json.specs.Data.{Data}
use Rattle.css_agent.specs.Told.{turn_messages}
use Rattle.client_views.specs.Moves.{Move, clear, dropped, move_text, frames_of_moves}
use Rattle.undo_marks.specs.declared.inverse_lists.Inverse.{Inverse}
use Rattle.undo_marks.specs.declared.inverse_lists.Inverse.TheVariants.{Tree}
use Rattle.back_end.specs.declared.faults.ActFault.{ActFault}
use Rattle.back_end.specs.declared.node_edits.TreeWish.{TreeWish}
use Rattle.back_end.specs.declared.node_edits.TreeWish.TheVariants.{MoveNode}
use Rattle.back_end.specs.declared.desk.Desk.{Desk}
use Rattle.back_end.specs.declared.guest.Guest.{Guest}
use Rattle.back_end.specs.declared.side.PageSide.{PageSide}
use Rattle.back_end.specs.States.{State, book_in}
use Rattle.back_end.specs.Plans.{Deed, edits, one_edit, edit_fault, act_fault, act_plan, node_edit_fault, node_edit_plan}
use Rattle.back_end.specs.Sheets.{as_book, numbered_sheets}
use Rattle.back_end.specs.Steps.{Step, idle, with_page, crossing, deed_step, planned_step, act_step, lone_step}
use Rattle.back_end.specs.Steps.{on_medium, acts, loads, load_step, needs_on, needs_css, lowered, edit_named}
use Rattle.back_end.specs.OwnMethods.{act_why, unless_why, load_asked, act_read, act_judged}
use Rattle.back_end.specs.Outside.{Outward, made, unchanged, plan_outward, tree_outward, own_outward, served_outward, command_outward}
use Rattle.back_end.specs.Texts.{EditHasTexts}
use Rattle.back_end.specs.Seats.{DeskStandsFor, StandsFor}
use Rattle.back_end.specs.Guests.{heard_one, heard_all, heard_plan, heard_step, GuestHasTexts, GuestStands, Hears, CanHear, IsTold}
use Rattle.back_end.specs.Guests.{LeavesPage, ComesToPage, leaving}
use Rattle.back_end.proofs.ScriptLemmas.{drawn-form, moved-texts, in_any}
use Rattle.back_end.proofs.StepLemmas.{medium-is}
use Rattle.back_end.proofs.TreeSeats.{copied-texts, named-here, fault-here}
use Rattle.back_end.proofs.SheetSeats.{dom-on, load-stands, load-sent}
use Rattle.back_end.proofs.OwnSeats.{load-both}
use Rattle.back_end.proofs.HistoryLemmas.{keeps-same}
use Rattle.back_end.proofs.HeardLemmas.{heard-is, scripts-are}
use Rattle.back_end.proofs.GuestSeats.{hears-nothing, hears-stands, hears-then, can-hear-on, told-hears}

-- ---- what the guest's state has

-- the guest's state says which step it is
pub hears-as : (a b : Option Guest) (s s1 : PageSide) (other : State) (done meant : Step) → GuestStands a s other
    → ((g : Guest) → StandsFor g.seat s other → done ≡ meant) → Hears a b s1 done → Hears a b s1 meant
hears-as None None s s1 other done meant stands same told = tt
hears-as None (Some h) s s1 other done meant stands same told = absurd told
hears-as (Some g) None s s1 other done meant stands same told = absurd told
hears-as (Some g) (Some h) s s1 other done meant stands same told =
    subst (λ (x : Step). Hears (Some g) (Some h) s1 x) (same g stands) told

-- the page of the guest's state is that of the side
here-page : (g : Guest) (s : PageSide) (other : State) → StandsFor g.seat s other → other ≡ with_page s.page other
here-page g s other both = λ i. with_page (sym both.stands.page_is i) other

-- ---- plans

pub hears-one : (a b : Option Guest) (s : PageSide) (e : Inverse) (state : State) → Hears a b s (heard_one e state)
    → Hears a b s (heard_all (e ∷ []) state)
hears-one a b s e state told =
    let done : Step = heard_one e state in
    hears-then a b b s s done (λ (x : State). idle x) told (hears-nothing b s done.state (hears-stands a b s done told))

pub hears-two : (a b c : Option Guest) (s1 s2 : PageSide) (e f : Inverse) (state : State) → Hears a b s1 (heard_one e state)
    → Hears b c s2 (heard_one f (heard_one e state).state) → Hears a c s2 (heard_all (e ∷ f ∷ []) state)
hears-two a b c s1 s2 e f state first second =
    hears-then a b c s1 s2 (heard_one e state) (heard_all (f ∷ [])) first (hears-one b c s2 f (heard_one e state).state second)

-- one edit
pub lone-hears : (a b : Option Guest) (s s1 : PageSide) (other : State) (e : TreeEdit) → GuestStands a s other
    → Hears a b s1 (heard_one (Tree e) other) → Hears a b s1 (heard_plan (record { page = s.page; edits = e ∷ [] }) other)
lone-hears a b s s1 other e stands told =
    hears-as a b s s1 other (heard_all (Tree e ∷ []) other) (heard_plan (record { page = s.page; edits = e ∷ [] }) other) stands
    (λ g both. ap (heard_all (Tree e ∷ [])) (here-page g s other both)) (hears-one a b s1 (Tree e) other told)

-- a move
pub moved-hears : (a b c : Option Guest) (s s1 s2 : PageSide) (other : State) (serial parent before there : ℕ) (tree : Branch PageRow)
    → GuestStands a s other → there ≡ moved_before serial parent before s.page.tree → tree ≡ node_at serial s.page.tree
    → Hears a b s1 (heard_one (Tree (Detach serial)) other)
    → Hears b c s2 (heard_one (Tree (Attach parent there tree)) (heard_one (Tree (Detach serial)) other).state)
    → Hears a c s2 (heard_plan (node_edit_plan (MoveNode serial parent before) s.page) other)
moved-hears a b c s s1 s2 other serial parent before there tree stands there_is tree_is first second =
    let two : ℕ → Branch PageRow → List Inverse = λ b t. Tree (Detach serial) ∷ Tree (Attach parent b t) ∷ [] in
    hears-as a c s s2 other (heard_all (two there tree) other)
    (heard_plan (node_edit_plan (MoveNode serial parent before) s.page) other) stands
    (λ g both. (λ i. heard_all (two (there_is i) (tree_is i)) (here-page g s other both i)))
    (hears-two a b c s1 s2 (Tree (Detach serial)) (Tree (Attach parent there tree)) other first second)

-- new nodes, whose serials are drawn
pub drawn-hears : (a b : Option Guest) (s1 : PageSide) (other : State) (parent before : ℕ) (form : Branch Label) (tree : Branch PageRow)
    (page : PageValue) → tree ≡ numbered_branch page.next form
    → Hears a b s1 (heard_one (Tree (Attach parent before tree)) (with_page (drawn form page) other))
    → Hears a b s1 (heard_plan
    (record { page = drawn form page; edits = Attach parent before (numbered_branch page.next form) ∷ [] }) other)
drawn-hears a b s1 other parent before form tree page tree_is told =
    let from : State = with_page (drawn form page) other in
    hears-one a b s1 (Tree (Attach parent before (numbered_branch page.next form))) from
    (subst (λ (t : Branch PageRow). Hears a b s1 (heard_one (Tree (Attach parent before t)) from)) tree_is told)

-- the guest stands for the page with drawn serials
pub guest-drawn : (a : Option Guest) (s s1 : PageSide) (other : State) (form : Branch Label) → s1.page ≡ drawn form s.page
    → s1.sheets ≡ s.sheets → GuestStands a s other → GuestStands a s1 (with_page (drawn form s.page) other)
guest-drawn None s s1 other form page_is sheets_is stands = tt
guest-drawn (Some g) s s1 other form page_is sheets_is both =
    let same : other.side.page ≡ s.page = sym both.stands.page_is in
    let later : State = with_page (drawn form other.side.page) other in
    subst (λ (p : PageValue). StandsFor g.seat s1 (with_page (drawn form p) other)) same
    (record {
      stands = drawn-form g.seat.desk s s1 other form both.stands page_is sheets_is;
      kept = keeps-same g.seat.history other later both.kept refl refl (omega arith);
    })

pub can-hear-drawn : (n : ℕ) (a : Option Guest) (s s1 : PageSide) (form : Branch Label) → s1.page ≡ drawn form s.page
    → s1.sheets ≡ s.sheets → CanHear n a s → CanHear n a s1
can-hear-drawn n None s s1 form page_is sheets_is can = tt
can-hear-drawn n (Some g) s s1 form page_is sheets_is can = (
  ∥∥₁_map can.0 (λ p. (with_page (drawn form s.page) p.0, guest-drawn (Some g) s s1 p.0 form page_is sheets_is p.1)),
  can.1,
)

-- ---- acts

-- what is heard of an act's edits is the act's step
act-heard : (e : TreeEdit) (es : List TreeEdit) (page : PageValue) (state : State)
    → heard_plan (record { page = page; edits = e ∷ es }) state ≡ deed_step (edits (record { page = page; edits = e ∷ es })) state
act-heard e es page state =
    heard-is (mapped (λ x. Tree x) (e ∷ es)) (with_page page state)
    ∙ ap (λ (d : Step). crossing d) (scripts-are (e ∷ es) (with_page page state))

act-here : (g : Guest) (s : PageSide) (other : State) (act : Act) → StandsFor g.seat s other
    → planned_step (act_fault act s.page s.sheets.entries) (act_plan act s.page s.sheets.entries) other ≡ act_step act other
act-here g s other act both =
    λ i. planned_step (act_fault act (both.stands.page_is i) (both.stands.sheets_are i))
    (act_plan act (both.stands.page_is i) (both.stands.sheets_are i)) other

-- an act that the page takes, by what it comes to
pub deed-hears : (a b : Option Guest) (s s1 : PageSide) (other : State) (act : Act) (deed : Deed) → GuestStands a s other
    → act_fault act s.page s.sheets.entries ≡ None → act_plan act s.page s.sheets.entries ≡ deed
    → Hears a b s1 (deed_step deed other) → Hears a b s1 (act_step act other)
deed-hears a b s s1 other act deed stands fits plan told =
    hears-as a b s s1 other (deed_step deed other) (act_step act other) stands
    (λ g both. (λ i. planned_step (sym fits i) (sym plan i) other) ∙ act-here g s other act both) told

-- by edits
pub act-hears : (a b : Option Guest) (s s1 : PageSide) (other : State) (act : Act) (e : TreeEdit) (es : List TreeEdit) (page : PageValue)
    → GuestStands a s other → act_fault act s.page s.sheets.entries ≡ None
    → act_plan act s.page s.sheets.entries ≡ edits (record { page = page; edits = e ∷ es })
    → Hears a b s1 (heard_plan (record { page = page; edits = e ∷ es }) other) → Hears a b s1 (act_step act other)
act-hears a b s s1 other act e es page stands fits plan told =
    deed-hears a b s s1 other act (edits (record { page = page; edits = e ∷ es })) stands fits plan
    (subst (λ (d : Step). Hears a b s1 d) (act-heard e es page other) told)

-- one that the page refuses
pub unacted-hears : (a : Option Guest) (s : PageSide) (other : State) (act : Act) (f : ActFault) → GuestStands a s other
    → act_fault act s.page s.sheets.entries ≡ Some f → Hears a a s (act_step act other)
unacted-hears a s other act f stands is =
    hears-as a a s s other (idle other) (act_step act other) stands
    (λ g both. ap (λ o. planned_step o (act_plan act s.page s.sheets.entries) other) (sym is) ∙ act-here g s other act both)
    (hears-nothing a s other stands)

-- one edit by a script
lone-here : (g : Guest) (s : PageSide) (other : State) (e : TreeEdit) → StandsFor g.seat s other
    → planned_step (edit_fault (first_fault e s.page.tree)) (one_edit e s.page) other ≡ lone_step e other
lone-here g s other e both =
    λ i. planned_step (edit_fault (first_fault e (both.stands.page_is i).tree)) (one_edit e (both.stands.page_is i)) other

pub lone-acted : (a b : Option Guest) (s s1 : PageSide) (other : State) (e : TreeEdit) → GuestStands a s other
    → first_fault e s.page.tree ≡ None → Hears a b s1 (heard_one (Tree e) other) → Hears a b s1 (lone_step e other)
lone-acted a b s s1 other e stands fits told =
    hears-as a b s s1 other (heard_plan (record { page = s.page; edits = e ∷ [] }) other) (lone_step e other) stands
    (λ g both. act-heard e [] s.page other
    ∙ ap (λ o. planned_step (edit_fault o) (one_edit e s.page) other) (sym fits) ∙ lone-here g s other e both)
    (lone-hears a b s s1 other e stands told)

pub lone-unacted : (a : Option Guest) (s : PageSide) (other : State) (e : TreeEdit) (f : EditFault) → GuestStands a s other
    → first_fault e s.page.tree ≡ Some f → Hears a a s (lone_step e other)
lone-unacted a s other e f stands is =
    hears-as a a s s other (idle other) (lone_step e other) stands
    (λ g both. ap (λ o. planned_step (edit_fault o) (one_edit e s.page) other) (sym is) ∙ lone-here g s other e both)
    (hears-nothing a s other stands)

-- ---- loads

-- what is told as the page goes, in two parts
pub left-out : (d : Desk) (book : List SheetEntry) (old new : List ℕ) → new ≡ old ++ frames_of_moves (leaving d book)
    → new ≡ (old ++ frames_of_moves (cond d.is_on (clear ∷ []) []))
    ++ frames_of_moves (cond d.css (mapped (λ e. dropped e.id) book) [])
left-out d book old new sent =
    let top : List Move = cond d.is_on (clear ∷ []) [] in
    let gone : List Move = cond d.css (mapped (λ e. dropped e.id) book) [] in
    sent ∙ ap (λ (bs : List ℕ). old ++ bs) (flat_map-append (λ (m : Move). framed (move_text m)) top gone)
    ∙ sym (append_assoc old (frames_of_moves top) (frames_of_moves gone))

pub left-joined : (d : Desk) (book : List SheetEntry) (old middle new : List ℕ)
    → middle ≡ old ++ frames_of_moves (cond d.is_on (clear ∷ []) [])
    → new ≡ middle ++ frames_of_moves (cond d.css (mapped (λ e. dropped e.id) book) []) → new ≡ old ++ frames_of_moves (leaving d book)
left-joined d book old middle new first last =
    let top : List Move = cond d.is_on (clear ∷ []) [] in
    let gone : List Move = cond d.css (mapped (λ e. dropped e.id) book) [] in
    last ∙ ap (λ (bs : List ℕ). bs ++ frames_of_moves gone) first ∙ append_assoc old (frames_of_moves top) (frames_of_moves gone)
    ∙ ap (λ (bs : List ℕ). old ++ bs) (sym (flat_map-append (λ (m : Move). framed (move_text m)) top gone))

pub load-hears : (a b c : Option Guest) (s s1 : PageSide) (other : State) (page : LoadedPage) (old_book new_book : List SheetEntry)
    → GuestStands a s other → CanLoadPage page → PageHasTexts page
    → s1.page ≡ loaded s.page.next page.nodes → s1.sheets.entries ≡ as_book (numbered_sheets s.sheets.next page.sheets)
    → s1.sheets.next ≡ s.sheets.next + length page.sheets → s1.sheets.medium ≡ page.medium
    → old_book ≡ s.sheets.entries → new_book ≡ as_book (numbered_sheets s.sheets.next page.sheets)
    → LeavesPage a b old_book → ComesToPage b c new_book → Hears a c s1 (load_step page other)
load-hears None None None s s1 other page old_book new_book stands can texts page_is sheets_are next_is medium_is old_is new_is left came =
    tt
load-hears None None (Some k) s s1 other page old_book new_book stands can texts page_is sheets_are next_is medium_is old_is new_is left
    came = absurd came
load-hears None (Some h) c s s1 other page old_book new_book stands can texts page_is sheets_are next_is medium_is old_is new_is left came =
    absurd left
load-hears (Some g) None c s s1 other page old_book new_book stands can texts page_is sheets_are next_is medium_is old_is new_is left came =
    absurd left
load-hears (Some g) (Some h) None s s1 other page old_book new_book stands can texts page_is sheets_are next_is medium_is old_is new_is left
    came = absurd came
load-hears (Some g) (Some h) (Some k) s s1 other page old_book new_book both can texts page_is sheets_are next_is medium_is old_is new_is
    left came =
    let d : Desk = g.seat.desk in
    let top : List Move = cond d.is_on (clear ∷ []) [] in (
      load-both k.seat.desk k.seat.history s1 other page (came.1 ∙ left.1)
          (load-stands d k.seat.desk s s1 other page both.stands can texts page_is sheets_are next_is medium_is
          (came.0.on_is ∙ left.0.on_is) (came.0.css_is ∙ left.0.css_is) (came.0.watches_are ∙ left.0.watches_are)
          (came.0.searches_are ∙ left.0.searches_are) (came.0.agent_is ∙ left.0.agent_is)),
      load-sent d s other page old_book new_book g.out.items (g.out.items ++ frames_of_moves top) h.out.items k.out.items both.stands
          old_is new_is refl (left-out d old_book g.out.items h.out.items left.2)
          (came.2 ∙ ap (λ (b : Bool). h.out.items ++ message_frames (turn_messages false b new_book)) left.0.css_is),
    )

-- ---- frames that leave the page alone

-- what a command is to the page where the domains are on that it needs
pub outward-is : (command : Command) (state : State) → (needs_on command && not state.client.dom_on) ≡ false
    → (needs_css command && not state.client.css_on) ≡ false → command_outward command state ≡ served_outward command state
outward-is command state on css_on =
    ap (λ (b : Bool). cond b (unchanged state)
    (cond (needs_css command && not state.client.css_on) (unchanged state) (served_outward command state))) on
    ∙ ap (λ (b : Bool). cond b (unchanged state) (served_outward command state)) css_on

-- one that leaves the page alone where it is served leaves it alone
pub plain-outward : (command : Command) (state : State) → served_outward command state ≡ unchanged state
    → command_outward command state ≡ unchanged state
plain-outward command state is =
    at (needs_on command && not state.client.dom_on) (needs_css command && not state.client.css_on)
  where
    at : (a b : Bool) → cond a (unchanged state) (cond b (unchanged state) (served_outward command state)) ≡ unchanged state
    at true b = refl
    at false true = refl
    at false false = is

-- edits that were heard from a page that both states have
pub made-hears : (a b : Option Guest) (d : Desk) (s s1 : PageSide) (state other : State) (out : Outward) (es : List Inverse)
    → DeskStandsFor d s state → GuestStands a s other → out ≡ made state.side.page es
    → Hears a b s1 (heard_all es other) → Hears a b s1 (heard_step out other)
made-hears a b d s s1 state other out es first stands is told =
    hears-as a b s s1 other (heard_all es other) (heard_step out other) stands
    (λ g both. ap (heard_all es) (here-page g s other both)
    ∙ (λ i. heard_all es (with_page (first.page_is i) other)) ∙ ap (λ (o : Outward). heard_step o other) (sym is)) told

-- nothing becomes of the page
pub unchanged-hears : (a : Option Guest) (d : Desk) (s : PageSide) (state other : State) (out : Outward) → DeskStandsFor d s state
    → GuestStands a s other → out ≡ unchanged state → Hears a a s (heard_step out other)
unchanged-hears a d s state other out first stands is =
    made-hears a a d s s state other out [] first stands is (hears-nothing a s other stands)

-- a command that leaves the page alone where it is served
pub plain-hears : {T E : Type 0} (result : Result T E) (a : Option Guest) (d : Desk) (s : PageSide) (state other : State)
    (p command : Command) → command ≡ p → served_outward p state ≡ unchanged state → DeskStandsFor d s state → GuestStands a s other
    → OnOk result (Hears a a s (heard_step (command_outward command state) other))
plain-hears result a d s state other p command is plain first stands =
    in_any result _ (unchanged-hears a d s state other (command_outward command state) first stands
    (ap (λ (c : Command). command_outward c state) is ∙ plain-outward p state plain))

-- one that was heard as its variant
pub part-hears : {T E : Type 0} (result : Result T E) (a b : Option Guest) (s : PageSide) (state other : State) (p command : Command)
    → p ≡ command → OnOk result (Hears a b s (heard_step (command_outward p state) other))
    → OnOk result (Hears a b s (heard_step (command_outward command state) other))
part-hears result a b s state other p command is told =
    subst (λ (c : Command). OnOk result (Hears a b s (heard_step (command_outward c state) other))) is told

-- ---- one of our own two methods

pub loaded-hears : (a b : Option Guest) (s : PageSide) (state other : State) (params : Data) (page : LoadedPage)
    → load_asked params ≡ Ok page → Hears a b s (load_step page other)
    → Hears a b s (heard_step (command_outward (ReplayLoad params) state) other)
loaded-hears a b s state other params page is told =
    subst (λ (r : Result LoadedPage Why). Hears a b s (heard_step (own_outward loads r state) other)) (sym is) told

pub unloaded-hears : (a : Option Guest) (d : Desk) (s : PageSide) (state other : State) (params : Data) (why : Why)
    → DeskStandsFor d s state → GuestStands a s other → load_asked params ≡ Err why
    → Hears a a s (heard_step (command_outward (ReplayLoad params) state) other)
unloaded-hears a d s state other params why first stands is =
    unchanged-hears a d s state other (command_outward (ReplayLoad params) state) first stands
    (ap (λ (r : Result LoadedPage Why). own_outward loads r state) is)

-- an act that was read, which the page may refuse
pub judged-hears : (a b : Option Guest) (d : Desk) (s s1 : PageSide) (state other : State) (params : Data) (act : Act)
    → DeskStandsFor d s state → GuestStands a s other → act_read params ≡ Ok act
    → Hears a b s1 (heard_step (own_outward acts (act_judged s.page s.sheets.entries act) other) other)
    → Hears a b s1 (heard_step (command_outward (ReplayAct params) state) other)
judged-hears a b d s s1 state other params act first stands is told =
    hears-as a b s s1 other (heard_step (own_outward acts (act_judged s.page s.sheets.entries act) other) other)
    (heard_step (command_outward (ReplayAct params) state) other) stands
    (λ g both. at (act_judged s.page s.sheets.entries act) g both
    ∙ (λ i. heard_step (own_outward acts (act_judged (first.page_is i) (first.sheets_are i) act) state) other)
    ∙ ap (λ (r : Result Act Why). heard_step (own_outward acts (then_ok r (act_judged state.side.page (book_in state))) state) other)
    (sym is)) told
  where
    at : (r : Result Act Why) (g : Guest) → StandsFor g.seat s other
        → heard_step (own_outward acts r other) other ≡ heard_step (own_outward acts r state) other
    at (Ok x) g both = refl
    at (Err why) g both = ap idle (here-page g s other both ∙ (λ i. with_page (first.page_is i) other))

pub unread-hears : (a : Option Guest) (d : Desk) (s : PageSide) (state other : State) (params : Data) (why : Why) → DeskStandsFor d s state
    → GuestStands a s other → act_read params ≡ Err why
    → Hears a a s (heard_step (command_outward (ReplayAct params) state) other)
unread-hears a d s state other params why first stands is =
    unchanged-hears a d s state other (command_outward (ReplayAct params) state) first stands
    (ap (λ (r : Result Act Why). own_outward acts (then_ok r (act_judged state.side.page (book_in state))) state) is)

-- an act that the page takes, or refuses
pub taken-hears : (a b : Option Guest) (s s1 : PageSide) (other : State) (act : Act) → None ≡ act_fault act s.page s.sheets.entries
    → Hears a b s1 (act_step act other)
    → Hears a b s1 (heard_step (own_outward acts (act_judged s.page s.sheets.entries act) other) other)
taken-hears a b s s1 other act fits told =
    subst (λ (o : Option ActFault). Hears a b s1 (heard_step (own_outward acts (unless_why (option_map act_why o) act) other) other))
    fits told

pub faulty-hears : (a b : Option Guest) (s s1 : PageSide) (other : State) (act : Act) (f : ActFault) → GuestStands a s other
    → Some f ≡ act_fault act s.page s.sheets.entries → Hears a b s1 (act_step act other)
    → Hears a b s1 (heard_step (own_outward acts (act_judged s.page s.sheets.entries act) other) other)
faulty-hears a b s s1 other act f stands is told =
    subst (λ (o : Option ActFault). Hears a b s1 (heard_step (own_outward acts (unless_why (option_map act_why o) act) other) other)) is
    (hears-as a b s s1 other (act_step act other) (idle other) stands
    (λ g both. sym (act-here g s other act both) ∙ ap (λ o. planned_step o (act_plan act s.page s.sheets.entries) other) (sym is)) told)

-- ---- a client's edit of the tree

-- what the page takes of it
pub edited-hears : (a b : Option Guest) (s s1 : PageSide) (state other : State) (e : TreeWish) → s.page ≡ state.side.page
    → node_edit_fault e s.page ≡ None → Hears a b s1 (heard_plan (node_edit_plan e s.page) other)
    → Hears a b s1 (heard_step (tree_outward (Ok e) state) other)
edited-hears a b s s1 state other e same fits told =
    let here : node_edit_fault e state.side.page ≡ None = fault-here s state e None same fits in
    subst (λ (o : Option EditFault). Hears a b s1 (heard_step (plan_outward o e state) other)) (sym here)
    (subst (λ (p : PageValue). Hears a b s1 (heard_plan (node_edit_plan e p) other)) same told)

pub unedited-hears : (a : Option Guest) (d : Desk) (s : PageSide) (state other : State) (e : TreeWish) (f : EditFault)
    → DeskStandsFor d s state → GuestStands a s other → node_edit_fault e s.page ≡ Some f
    → Hears a a s (heard_step (tree_outward (Ok e) state) other)
unedited-hears a d s state other e f first stands fault =
    unchanged-hears a d s state other (tree_outward (Ok e) state) first stands
    (ap (λ (o : Option EditFault). plan_outward o e state) (fault-here s state e (Some f) first.page_is fault))

-- what the command is to the page, while DOM is on
pub named-outward : (d : Desk) (s : PageSide) (state : State) (edit : DomEdit) (r : Result TreeWish Why) → DeskStandsFor d s state
    → d.is_on ≡ true → r ≡ edit_named (map.get d.agent.serials) (lowered edit)
    → command_outward (EditDom edit) state ≡ tree_outward r state
named-outward d s state edit r stands on is =
    outward-is (EditDom edit) state (dom-on (EditDom edit) d s state stands on)
    (ap (λ (w : Domains). needs_both w && not state.client.css_on) (edits-need-dom edit))
    ∙ ap (λ (x : Result TreeWish Why). tree_outward x state) (named-here d s state edit r stands is)

pub named-hears : {T E : Type 0} (result : Result T E) (a b : Option Guest) (d : Desk) (s s1 : PageSide) (state other : State)
    (edit : DomEdit) (e : TreeWish) → DeskStandsFor d s state → d.is_on ≡ true
    → Ok e ≡ edit_named (map.get d.agent.serials) (lowered edit)
    → OnOk result (Hears a b s1 (heard_step (tree_outward (Ok e) state) other))
    → OnOk result (Hears a b s1 (heard_step (command_outward (EditDom edit) state) other))
named-hears result a b d s s1 state other edit e stands on is told =
    subst (λ (out : Outward). OnOk result (Hears a b s1 (heard_step out other)))
    (sym (named-outward d s state edit (Ok e) stands on is)) told

-- ---- texts that the guest is told

pub guest-texts : (a : Option Guest) (e : TreeEdit) → EditHasTexts e → GuestHasTexts a e
guest-texts None e texts = tt
guest-texts (Some g) e texts = texts

-- of the tree that moves
pub moved-guest-texts : (a b : Option Guest) (s s1 : PageSide) (other : State) (done : Step) (serial parent there : ℕ)
    (tree : Branch PageRow) → GuestStands a s other → Hears a b s1 done → tree ≡ node_at serial s.page.tree
    → GuestHasTexts b (Attach parent there tree)
moved-guest-texts None None s s1 other done serial parent there tree stands told is = tt
moved-guest-texts None (Some h) s s1 other done serial parent there tree stands told is = absurd told
moved-guest-texts (Some g) None s s1 other done serial parent there tree stands told is = tt
moved-guest-texts (Some g) (Some h) s s1 other done serial parent there tree both told is =
    moved-texts g.seat.desk s other serial tree both.stands is

-- of a copy
pub copied-guest-texts : (a : Option Guest) (s : PageSide) (other : State) (serial parent before : ℕ) (tree : Branch PageRow)
    → GuestStands a s other → tree ≡ numbered_branch s.page.next (form_at serial s.page.tree) → GuestHasTexts a (Attach parent before tree)
copied-guest-texts None s other serial parent before tree stands is = tt
copied-guest-texts (Some g) s other serial parent before tree both is = copied-texts g.seat.desk s other serial tree both.stands is

-- after a node was taken out as many edits can be heard but one
pub can-hear-detached : (n serial : ℕ) (a b : Option Guest) (s s1 : PageSide) → CanHear (n + 1) a s
    → CanApply s.page.next (Detach serial) s.page.tree → s.page.next < 2 ^ 51 → s.sheets.next < 2 ^ 51
    → ((state : State) → GuestStands a s state → GuestHasTexts a (Detach serial) → Hears a b s1 (heard_one (Tree (Detach serial)) state))
    → CanHear n b s1
can-hear-detached n serial a b s s1 can takes serials sheets told =
    can-hear-on n (Detach serial) a b s s1 can takes tt serials sheets
    (λ state stands. told state stands (guest-texts a (Detach serial) tt))

-- ---- the medium

-- another medium is told to none, but it empties the history
pub medium-hears : (a b : Option Guest) (s : PageSide) (other : State) (medium : Medium) → GuestStands a s other → IsTold a b (λ g. [])
    → Hears a b (record { page = s.page; sheets = record s.sheets { medium = medium } }) (act_step (SetMedium medium) other)
medium-hears a b s other medium stands told =
    let s1 : PageSide = record { page = s.page; sheets = record s.sheets { medium = medium } } in
    told-hears a b (λ g. []) s s1 other (idle (on_medium medium other)) stands told refl
    (λ g both. record {
      now = medium-is other medium both.stands.now;
      page_is = both.stands.page_is;
      sheets_are = both.stands.sheets_are;
      next_is = both.stands.next_is;
      medium_is = refl;
      on_is = both.stands.on_is;
      css_is = both.stands.css_is;
      mode_is = both.stands.mode_is;
      stands = both.stands.stands;
      watches_are = both.stands.watches_are;
      searches_are = both.stands.searches_are;
    })
    (λ g both old. refl)
