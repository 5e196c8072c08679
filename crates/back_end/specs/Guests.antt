-- The other client of the page, who is told what becomes of it while a frame of the first is served, or a script changes it.
use Rattle.std.specs.Prelude.{◌≡◌, ◌<◌, ℕ, ◌+◌, ◌*◌, Bool, false, cond, List, [], ◌∷◌, ◌++◌, map, ⊤, Option, Some, None, IfSome}
use Rattle.std.specs.List.{flat_map}
use Rattle.node_tree.specs.Numbers.{drawn_before_edit}
use Rattle.page_tree.specs.Forms.{max_nodes}
use Rattle.page_tree.specs.declared.edits.TreeEdit.{TreeEdit}
use Rattle.node_binding.specs.Bindings.{cleared}
use Rattle.dom_breakpoints.specs.Watched.{unwatched}
use Rattle.dom_search.specs.Searches.{forgotten}
use Rattle.client_views.specs.Moves.{Move, clear, dropped, frames_of_moves}
use Rattle.sheet_reader.specs.declared.book.SheetEntry.{SheetEntry}
use Rattle.cdp_messages.specs.Events.{News, sheet_changed}
use Rattle.cdp_messages.specs.Replies.{message_frames}
use Rattle.css_agent.specs.Told.{event_messages, turn_messages}
use Rattle.style_edits.specs.declared.splice.Splice.{Splice}
use Rattle.undo_marks.specs.Marks.{crossed_over, no_marks}
use Rattle.undo_marks.specs.declared.inverse_lists.Inverse.{Inverse}
use Rattle.undo_marks.specs.declared.inverse_lists.Inverse.TheVariants as kept
use Rattle.back_end.specs.declared.desk.Desk.{Desk}
use Rattle.back_end.specs.declared.guest.Guest.{Guest}
use Rattle.back_end.specs.declared.side.PageSide.{PageSide}
use Rattle.back_end.specs.States.{State}
use Rattle.back_end.specs.Plans.{Plan}
use Rattle.back_end.specs.Steps.{Step, idle, followed_by, with_page, crossing, turn_step}
use Rattle.back_end.specs.Outside.{Outward, made, turned, outside_one, outside_step}
use Rattle.back_end.specs.Texts.{EditHasTexts}
use Rattle.back_end.specs.Seats.{StandsFor}

-- ---- what is heard

-- An edit that is not the client's, as it is told: it empties the history.
abbrev pub heard_one : Inverse → State → Step
heard_one e state = crossing (outside_one e state)

-- edits, one after the other
abbrev pub heard_all : List Inverse → State → Step
heard_all [] state = idle state
heard_all (e ∷ es) state = followed_by (heard_one e state) (heard_all es)

-- what a frame of another client is to the page, as it is told: the outside step
abbrev pub heard_step : Outward → State → Step
heard_step (made page es) state = heard_all es (with_page page state)
heard_step (turned x) state = turn_step x state

-- the edits of a plan, the page first being the plan's
abbrev pub heard_plan : Plan → State → Step
heard_plan plan state = heard_step (made plan.page (map (λ e. kept.Tree e) plan.edits)) state

-- the outside step is what is heard
abbrev pub OutsideIsHeard : Type 0
OutsideIsHeard = (d : Outward) (state : State) → heard_step d state ≡ outside_step d state

-- ---- guests

-- the guest, if there is one, stands for that state
abbrev pub GuestStands : Option Guest → PageSide → State → Type 0
GuestStands guest side state = IfSome guest (λ g. StandsFor g.seat side state)

-- the texts of an edit that the guest, if there is one, is told of are UTF-8
abbrev pub GuestHasTexts : Option Guest → TreeEdit → Type 0
GuestHasTexts guest e = IfSome guest (λ g. EditHasTexts e)

-- The guest, if there is one, was told that step: it stands for the state after it, and the step's frames were appended to what it was
-- told. No guest comes or goes.
abbrev pub Hears : Option Guest → Option Guest → PageSide → Step → Type 0
Hears None None side done = ⊤
Hears None (Some h) side done = ⊥
Hears (Some g) None side done = ⊥
Hears (Some g) (Some h) side done = StandsFor h.seat side done.state × (h.out.items ≡ g.out.items ++ frames_of_moves done.moves)

-- The guest, if there is one, has the desk that it had, what it kept of its edits is gone, and these bytes were appended to what it was
-- told. No guest comes or goes.
abbrev pub IsTold : Option Guest → Option Guest → (Guest → List ℕ) → Type 0
IsTold None None bytes = ⊤
IsTold None (Some h) bytes = ⊥
IsTold (Some g) None bytes = ⊥
IsTold (Some g) (Some h) bytes =
    (h.seat.desk ≡ g.seat.desk) × (h.seat.history ≡ crossed_over g.seat.history) × (h.out.items ≡ g.out.items ++ bytes g)

-- what the guest is told of an event of a sheet: while its CSS is on, the event
abbrev pub sheet_news : News → Guest → List ℕ
sheet_news news g = message_frames (event_messages g.seat.desk.css news)

-- what is told of splices, while CSS is on or off so: of each that its sheet has changed
abbrev pub changed_frames : Bool → List Splice → List ℕ
changed_frames css splices = flat_map (λ s. message_frames (event_messages css (sheet_changed s.sheet))) splices

-- what the guest is told of them
abbrev pub splice_news : List Splice → Guest → List ℕ
splice_news splices g = changed_frames g.seat.desk.css splices

-- The same of splices; where there are none, nothing changes.
abbrev pub HearsSplices : Option Guest → Option Guest → List Splice → Type 0
HearsSplices old new [] = new ≡ old
HearsSplices old new (s ∷ ss) = IsTold old new (splice_news (s ∷ ss))

-- The desk after its page is gone: nothing is known any more, no node is watched, and nothing found is kept.
pub record HasLeft (before after : Desk) : Type 0 where
  pub on_is : after.is_on ≡ before.is_on
  pub css_is : after.css ≡ before.css
  pub agent_is : after.agent ≡ cleared before.agent
  pub watches_are : after.watches ≡ unwatched
  pub searches_are : after.searches ≡ forgotten before.searches

-- the desk is as it was before
pub record IsAsBefore (before after : Desk) : Type 0 where
  pub on_is : after.is_on ≡ before.is_on
  pub css_is : after.css ≡ before.css
  pub agent_is : after.agent ≡ before.agent
  pub watches_are : after.watches ≡ before.watches
  pub searches_are : after.searches ≡ before.searches

-- what a client is told as its page goes: that it is gone while DOM is on, and while CSS is on that each sheet is
abbrev pub leaving : Desk → List SheetEntry → List Move
leaving desk book = cond desk.is_on (clear ∷ []) [] ++ cond desk.css (map (λ e. dropped e.id) book) []

-- The guest, if there is one, was told that its page goes, and nothing is kept of its edits. No guest comes or goes.
abbrev pub LeavesPage : Option Guest → Option Guest → List SheetEntry → Type 0
LeavesPage None None book = ⊤
LeavesPage None (Some h) book = ⊥
LeavesPage (Some g) None book = ⊥
LeavesPage (Some g) (Some h) book =
    HasLeft g.seat.desk h.seat.desk × (h.seat.history ≡ no_marks)
    × (h.out.items ≡ g.out.items ++ frames_of_moves (leaving g.seat.desk book))

-- The guest, if there is one, was told of the sheets of the page that came. No guest comes or goes.
abbrev pub ComesToPage : Option Guest → Option Guest → List SheetEntry → Type 0
ComesToPage None None book = ⊤
ComesToPage None (Some h) book = ⊥
ComesToPage (Some g) None book = ⊥
ComesToPage (Some g) (Some h) book =
    IsAsBefore g.seat.desk h.seat.desk × (h.seat.history ≡ g.seat.history)
    × (h.out.items ≡ g.out.items ++ message_frames (turn_messages false g.seat.desk.css book))

-- Ids that one edit of another client may draw: a pause makes two nodes known, each with up to all nodes of the page, and the edit one.
abbrev pub drawn_by_outside : ℕ
drawn_by_outside = 2 * max_nodes + 1

-- the guest, if there is one, stands for some state, and has ids for so many edits
abbrev pub CanHear : ℕ → Option Guest → PageSide → Type 0
CanHear edits guest side = IfSome guest (λ g.
    ∥ ((state : State) × StandsFor g.seat side state) ∥₁ × (g.seat.desk.agent.next + drawn_by_outside * edits < drawn_before_edit))
