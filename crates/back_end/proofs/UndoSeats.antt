-- What a seat does on an undo and a redo is the step of the state.
use Rattle.std.proofs.Common.{◌≡◌, ◌≤◌, ℕ, ◌+◌, ◌^◌, ◌<◌, Bool, true, false, cond, not, ◌&&◌, List, [], ◌∷◌, ◌++◌, length, map, reverse}
use Rattle.std.proofs.Common.{Option, Some, None, refl, sym, ap, ◌∙◌, subst, append-nil, append_assoc, arith}
use Rattle.std.proofs.Math.Logic.{∥∥₁_map}
use Rattle.std.proofs.lemmas.List.{length-reverse}
use Rattle.std.proofs.lemmas.List.Concat.{flat_map-append}
use Rattle.page_tree.specs.Pages.{PageValue}
use Rattle.page_tree.specs.Edits.{after, back_tree}
use Rattle.page_tree.specs.EditFaults.{CanApply}
use Rattle.page_tree.specs.declared.edits.TreeEdit.{TreeEdit}
use Rattle.page_tree.proofs.InsertLemmas.{next-stays}
use Rattle.sheet_reader.specs.declared.book.SheetEntry.{SheetEntry}
use Rattle.style_edits.specs.declared.splice.Splice.{Splice}
use Rattle.style_edits.specs.Splices.{FitsSplice, TakesSplice, after_splice, back_splice}
use Rattle.cdp_messages.specs.declared.command.Why.TheVariants.{Crossed}
use Rattle.cdp_messages.specs.declared.down.ReplyBody.TheVariants.{Nothing}
use Rattle.pipe_frames.specs.Frames.{framed}
use Rattle.cdp_messages.specs.Events.{sheet_changed}
use Rattle.cdp_messages.specs.Replies.{reply_text, message_frames}
use Rattle.client_views.specs.Moves.{Move, rewritten, frames_of_moves, move_text}
use Rattle.css_agent.specs.Told.{event_messages}
use Rattle.css_agent.specs.Edits.{text_under}
use Rattle.undo_marks.specs.Marks.{Marks, entry_count, handed_out, marked, groups_of, group_moved, group_popped, group_pushed}
use Rattle.undo_marks.specs.declared.histories.Direction.{Direction}
use Rattle.undo_marks.specs.declared.histories.Direction.TheVariants as directions
use Rattle.undo_marks.specs.Changes.{after_all, back_all, AllTaken}
use Rattle.undo_marks.specs.Saved.{Saved}
use Rattle.undo_marks.specs.SavedEdits.{saved_sheet, saved_of, page_after, way_back, TakesSheet}
use Rattle.undo_marks.specs.declared.inverse_lists.Inverse.{Inverse}
use Rattle.undo_marks.specs.declared.inverse_lists.Inverse.TheVariants.{Tree, Sheet}
use Rattle.undo_marks.proofs.SheetLemmas.{after-saved, back-saved, fits-saved}
use Rattle.back_end.specs.declared.desk.Desk.{Desk}
use Rattle.back_end.specs.declared.side.PageSide.{PageSide}
use Rattle.back_end.specs.Sheets.{NumberedBook}
use Rattle.back_end.specs.States.{State, book_in, TakesWell, saved_now, Keeps}
use Rattle.cdp_messages.specs.declared.command.Command.TheVariants.{MarkUndoableState}
use Rattle.back_end.specs.Steps.{Step, telling_first, idle, refusing, answering, with_marks, kept_step, kept_steps, splice_step}
use Rattle.back_end.specs.Steps.{taken_edits, taken_step, taking_command, needs_css, served_step, command_step}
use Rattle.back_end.specs.Outside.{taken_outward, served_outward}
use Rattle.back_end.specs.Seats.{DeskStandsFor, BothStandFor, edits_in}
use Rattle.back_end.proofs.HistoryLemmas.{keeps-marked, taken-out, hands-group, hands-none}
use Rattle.back_end.proofs.SpliceSteps.{restyled}
use Rattle.back_end.proofs.OneProof.{can-apply, fits-splice}
use Rattle.back_end.proofs.UndoSteps.{takes-splice, none-taken}
use Rattle.back_end.proofs.SeatLemmas.{marks-stands, on-is}
use Rattle.back_end.proofs.SheetSeats.{dom-on, told-frames}
use Rattle.back_end.proofs.OwnSeats.{answered-sent}

-- ---- a loop over edits out of a history

-- the page's side as a history saves it
abbrev pub saved_at : PageSide → Saved
saved_at s = saved_of s.page.tree s.sheets.entries

-- of a state that the desk stood for: where its steps have come to, and what of them was told
pub record Reached (all rest : List Inverse) (d : Desk) (s : PageSide) (old out : List ℕ) (state : State) : Type 0 where
  pub mid : State
  pub told : List Move
  pub stands : DeskStandsFor d s mid
  pub taken : AllTaken page_after (TakesWell s.page.next) rest (saved_at s)
  pub whole : kept_steps all state ≡ telling_first told (kept_steps rest mid)
  pub sent : out ≡ old ++ frames_of_moves told

-- the page at the desk takes these edits, one after the other
abbrev pub TakesAll : PageSide → List Inverse → Type 0
TakesAll s es = AllTaken page_after (TakesWell s.page.next) es (saved_at s)

-- what the loop has come to, with these edits left
pub record Way (all rest : List Inverse) (d0 d : Desk) (s0 s : PageSide) (backs : List Inverse) (old out : List ℕ) : Type 0 where
  pub ids : d.agent.next + length rest ≤ d0.agent.next + length all
  pub next : s.page.next ≡ s0.page.next
  pub numbers : s.sheets.next ≡ s0.sheets.next
  pub taken : ∥ TakesAll s rest ∥₁
  pub backs_are : backs ++ back_all page_after way_back rest (saved_at s) ≡ back_all page_after way_back all (saved_at s0)
  pub saved : after_all page_after rest (saved_at s) ≡ after_all page_after all (saved_at s0)
  pub steps : (state : State) → DeskStandsFor d0 s0 state → TakesAll s0 all → Reached all rest d s old out state

way-start : (all : List Inverse) (d : Desk) (s : PageSide) (out : List ℕ) → ∥ TakesAll s all ∥₁ → Way all all d d s s [] out out
way-start all d s out taken = record {
  ids = omega arith;
  next = refl;
  numbers = refl;
  taken = taken;
  backs_are = refl;
  saved = refl;
  steps = λ state stands takes. record {
    mid = state;
    told = [];
    stands = stands;
    taken = takes;
    whole = refl;
    sent = sym (append-nil out);
  };
}

pub way-begin : (all rest backs : List Inverse) (d : Desk) (s : PageSide) (out : List ℕ) → rest ≡ all → backs ≡ [] → ∥ TakesAll s all ∥₁
    → Way all rest d d s s backs out out
way-begin all rest backs d s out rest_is empty taken =
    subst (λ (l : List Inverse). Way all l d d s s backs out out) (sym rest_is)
    (subst (λ (l : List Inverse). Way all all d d s s l out out) (sym empty) (way-start all d s out taken))

frames-append : (ms ks : List Move) → frames_of_moves (ms ++ ks) ≡ frames_of_moves ms ++ frames_of_moves ks
frames-append ms ks = flat_map-append (λ (m : Move). framed (move_text m)) ms ks

-- what one edit of the loop came to
pub record Turned (e back : Inverse) (d d1 : Desk) (s s1 : PageSide) (out new : List ℕ) : Type 0 where
  pub few : d1.agent.next < d.agent.next + 2
  pub saved : saved_at s1 ≡ page_after e (saved_at s)
  pub next : s1.page.next ≡ s.page.next
  pub numbers : s1.sheets.next ≡ s.sheets.next
  pub back_is : back ≡ way_back e (saved_at s)
  pub stands : (state : State) → DeskStandsFor d s state → TakesWell s.page.next e (saved_at s)
      → DeskStandsFor d1 s1 (kept_step e state).state
  pub sent : (state : State) → DeskStandsFor d s state → new ≡ out ++ frames_of_moves (kept_step e state).moves

-- the rest is taken then
pub rest-taken : (e back : Inverse) (rest : List Inverse) (d d1 : Desk) (s s1 : PageSide) (out new : List ℕ)
    → Turned e back d d1 s s1 out new → TakesAll s (e ∷ rest) → TakesAll s1 rest
rest-taken e back rest d d1 s s1 out new t takes =
    subst (λ (n : ℕ). AllTaken page_after (TakesWell n) rest (saved_at s1)) (sym t.next)
    (subst (λ (p : Saved). AllTaken page_after (TakesWell s.page.next) rest p) (sym t.saved) takes.1)

-- one more
way-on : (all rest : List Inverse) (e : Inverse) (d0 d d1 : Desk) (s0 s s1 : PageSide) (backs backs1 : List Inverse) (back : Inverse)
    (old out new : List ℕ)
    → Way all (e ∷ rest) d0 d s0 s backs old out → Turned e back d d1 s s1 out new → backs1 ≡ backs ++ back ∷ []
    → Way all rest d0 d1 s0 s1 backs1 old new
way-on all rest e d0 d d1 s0 s s1 backs backs1 back old out new w t pushed = record {
  ids = omega (arith, w.ids, t.few);
  next = t.next ∙ w.next;
  numbers = t.numbers ∙ w.numbers;
  taken = ∥∥₁_map w.taken (rest-taken e back rest d d1 s s1 out new t);
  backs_are =
      ap (λ (l : List Inverse). l ++ back_all page_after way_back rest (saved_at s1)) pushed
      ∙ append_assoc backs (back ∷ []) (back_all page_after way_back rest (saved_at s1))
      ∙ ap (λ (p : Saved). backs ++ back ∷ back_all page_after way_back rest p) t.saved
      ∙ ap (λ (b : Inverse). backs ++ b ∷ back_all page_after way_back rest (page_after e (saved_at s))) t.back_is
      ∙ w.backs_are;
  saved = ap (λ (p : Saved). after_all page_after rest p) t.saved ∙ w.saved;
  steps = λ state before takes.
      let r = w.steps state before takes in
      let one = kept_step e r.mid in
      let later = kept_steps rest one.state in
      record {
        mid = one.state;
        told = r.told ++ one.moves;
        stands = t.stands r.mid r.stands r.taken.0;
        taken = rest-taken e back rest d d1 s s1 out new t r.taken;
        whole = r.whole ∙ (λ i. record { state = later.state; moves = sym (append_assoc r.told one.moves later.moves) i });
        sent = t.sent r.mid r.stands ∙ ap (λ (bs : List ℕ). bs ++ frames_of_moves one.moves) r.sent
            ∙ append_assoc old (frames_of_moves r.told) (frames_of_moves one.moves)
            ∙ ap (λ (bs : List ℕ). old ++ bs) (sym (frames-append r.told one.moves));
      };
}

-- a step of the loop, by what is left
pub way-turn : (all rest later : List Inverse) (e : Inverse) (d0 d d1 : Desk) (s0 s s1 : PageSide) (backs backs1 : List Inverse)
    (back : Inverse) (old out new : List ℕ)
    → rest ≡ e ∷ later → Way all rest d0 d s0 s backs old out → Turned e back d d1 s s1 out new → backs1 ≡ backs ++ back ∷ []
    → Way all later d0 d1 s0 s1 backs1 old new
way-turn all rest later e d0 d d1 s0 s s1 backs backs1 back old out new is w t pushed =
    way-on all later e d0 d d1 s0 s s1 backs backs1 back old out new
    (subst (λ (l : List Inverse). Way all l d0 d s0 s backs old out) is w) t pushed

-- the page takes the next edit, and ids are left for it
pub way-next : (all rest later : List Inverse) (e : Inverse) (d0 d : Desk) (s0 s : PageSide) (backs : List Inverse) (old out : List ℕ)
    → rest ≡ e ∷ later → Way all rest d0 d s0 s backs old out → ∥ TakesWell s.page.next e (saved_at s) ∥₁
way-next all rest later e d0 d s0 s backs old out is w =
    ∥∥₁_map (subst (λ (l : List Inverse). ∥ TakesAll s l ∥₁) is w.taken) (λ (takes : TakesAll s (e ∷ later)). takes.0)

pub way-ids : (all rest : List Inverse) (d0 d : Desk) (s0 s : PageSide) (backs : List Inverse) (old out : List ℕ)
    → Way all rest d0 d s0 s backs old out → d0.agent.next + length all < 2 ^ 51 → d.agent.next < 2 ^ 51
way-ids all rest d0 d s0 s backs old out w low = omega (arith, w.ids, low)

-- at its end
pub record Ended (all : List Inverse) (d0 d : Desk) (s0 s : PageSide) (backs : List Inverse) (old out : List ℕ) : Type 0 where
  pub saved : saved_at s ≡ after_all page_after all (saved_at s0)
  pub next : s.page.next ≡ s0.page.next
  pub backs_are : backs ≡ back_all page_after way_back all (saved_at s0)
  pub stands : (state : State) → DeskStandsFor d0 s0 state → TakesAll s0 all → DeskStandsFor d s (kept_steps all state).state
  pub sent : (state : State) → DeskStandsFor d0 s0 state → TakesAll s0 all → out ≡ old ++ frames_of_moves (kept_steps all state).moves

pub way-end : (all rest : List Inverse) (d0 d : Desk) (s0 s : PageSide) (backs : List Inverse) (old out : List ℕ) → length rest ≡ 0
    → Way all rest d0 d s0 s backs old out
    → Ended all d0 d s0 s backs old out
way-end all (e ∷ rest) d0 d s0 s backs old out empty w = absurd (omega arith)
way-end all [] d0 d s0 s backs old out empty w = record {
  saved = w.saved;
  next = w.next;
  backs_are = sym (append-nil backs) ∙ w.backs_are;
  stands = λ state before takes. let r = w.steps state before takes in subst (λ (done : Step). DeskStandsFor d s done.state)
      (sym r.whole) r.stands;
  sent = λ state before takes.
      let r = w.steps state before takes in
      r.sent ∙ ap (λ (ms : List Move). old ++ frames_of_moves ms) (sym (append-nil r.told)) ∙ ap
      (λ (done : Step). old ++ frames_of_moves done.moves) (sym r.whole);
}

-- ---- one edit

pub tree-taken : (next : ℕ) (e : Inverse) (t : TreeEdit) (page : Saved) → e ≡ Tree t → TakesWell next e page → TakesWell next (Tree t) page
tree-taken next e t page is takes = subst (λ (x : Inverse). TakesWell next x page) is takes

pub sheet-taken : (next : ℕ) (e : Inverse) (s : Splice) (page : Saved) → e ≡ Sheet s → TakesWell next e page → TakesWell next (Sheet s) page
sheet-taken next e s page is takes = subst (λ (x : Inverse). TakesWell next x page) is takes

pub tree-can : (s : PageSide) (e : Inverse) (t : TreeEdit) → e ≡ Tree t → ∥ TakesWell s.page.next e (saved_at s) ∥₁
    → CanApply s.page.next t s.page.tree
tree-can s e t is takes =
    can-apply s.page.next t s.page.tree
    (∥∥₁_map takes (λ (x : TakesWell s.page.next e (saved_at s)). (tree-taken s.page.next e t (saved_at s) is x).taken.taken))

pub sheet-fits : (s : PageSide) (e : Inverse) (x : Splice) → e ≡ Sheet x → ∥ TakesWell s.page.next e (saved_at s) ∥₁
    → FitsSplice x s.sheets.entries
sheet-fits s e x is takes =
    fits-splice x s.sheets.entries
    (∥∥₁_map takes (λ (t : TakesWell s.page.next e (saved_at s)). fits-saved x s.sheets.entries
    (sheet-taken s.page.next e x (saved_at s) is t).taken))

pub tree-saved : (s s1 : PageSide) (e : Inverse) (t : TreeEdit) → e ≡ Tree t → s1.page ≡ after t s.page → s1.sheets ≡ s.sheets
    → saved_at s1 ≡ page_after e (saved_at s)
tree-saved s s1 e t is page_is sheets_is =
    ap (λ (p : PageValue). saved_of p.tree s1.sheets.entries) page_is
    ∙ ap (λ (b : NumberedBook). saved_of (after t s.page).tree b.entries) sheets_is
    ∙ ap (λ (x : Inverse). page_after x (saved_at s)) (sym is)

pub tree-next : (s s1 : PageSide) (t : TreeEdit) → CanApply s.page.next t s.page.tree → s1.page ≡ after t s.page
    → s1.page.next ≡ s.page.next
tree-next s s1 t can page_is = ap (λ (p : PageValue). p.next) page_is ∙ next-stays s.page t can

pub tree-back : (s : PageSide) (e : Inverse) (t back : TreeEdit) → e ≡ Tree t → back ≡ back_tree t s.page.tree
    → Tree back ≡ way_back e (saved_at s)
tree-back s e t back is back_is = ap (λ (x : TreeEdit). Tree x) back_is ∙ ap (λ (x : Inverse). way_back x (saved_at s)) (sym is)

pub sheet-saved : (s s1 : PageSide) (e : Inverse) (x : Splice) → e ≡ Sheet x → s1.page ≡ s.page
    → s1.sheets.entries ≡ after_splice x s.sheets.entries → saved_at s1 ≡ page_after e (saved_at s)
sheet-saved s s1 e x is page_is entries =
    ap (λ (p : PageValue). saved_of p.tree s1.sheets.entries) page_is
    ∙ ap (λ (b : List SheetEntry). saved_of s.page.tree b) entries
    ∙ (λ i. record { tree = s.page.tree; sheets = sym (after-saved x s.sheets.entries) i })
    ∙ ap (λ (y : Inverse). page_after y (saved_at s)) (sym is)

pub sheet-back : (s : PageSide) (e : Inverse) (x back : Splice) → e ≡ Sheet x → back ≡ back_splice x s.sheets.entries
    → Sheet back ≡ way_back e (saved_at s)
sheet-back s e x back is back_is =
    ap (λ (y : Splice). Sheet y) (back_is ∙ sym (back-saved x s.sheets.entries)) ∙ ap (λ (y : Inverse). way_back y (saved_at s)) (sym is)

pub step-stands : (d : Desk) (s : PageSide) (state : State) (e f : Inverse) → e ≡ f → DeskStandsFor d s (kept_step f state).state
    → DeskStandsFor d s (kept_step e state).state
step-stands d s state e f is stands = subst (λ (x : Inverse). DeskStandsFor d s (kept_step x state).state) (sym is) stands

pub step-sent : (state : State) (e f : Inverse) (old new : List ℕ) → e ≡ f → new ≡ old ++ frames_of_moves (kept_step f state).moves
    → new ≡ old ++ frames_of_moves (kept_step e state).moves
step-sent state e f old new is sent = sent ∙ ap (λ (x : Inverse). old ++ frames_of_moves (kept_step x state).moves) (sym is)

-- ---- a splice

takes-here : (d : Desk) (s : PageSide) (state : State) (x : Splice) → DeskStandsFor d s state
    → TakesSheet x (map saved_sheet s.sheets.entries) → TakesSplice x (book_in state)
takes-here d s state x stands t =
    takes-splice x state.side.sheets (subst (λ (book : List SheetEntry). TakesSheet x (map saved_sheet book)) stands.sheets_are t)

pub put-stands : (d : Desk) (s s1 : PageSide) (state : State) (x : Splice) → DeskStandsFor d s state
    → TakesSheet x (map saved_sheet s.sheets.entries)
    → s1.page ≡ s.page → s1.sheets ≡ record s.sheets { entries = after_splice x s.sheets.entries }
    → DeskStandsFor d s1 (splice_step x state).state
put-stands d s s1 state x stands t page_is sheets_is =
    let after = restyled (x ∷ []) state stands.now (takes-here d s state x stands t, tt) in
    record {
      now = after.now;
      page_is = page_is ∙ stands.page_is;
      sheets_are = ap (λ (b : NumberedBook). b.entries) sheets_is ∙ ap (after_splice x) stands.sheets_are ∙ sym after.book;
      next_is = ap (λ (b : NumberedBook). b.next) sheets_is ∙ stands.next_is;
      medium_is = ap (λ (b : NumberedBook). b.medium) sheets_is ∙ stands.medium_is;
      on_is = stands.on_is;
      css_is = stands.css_is;
      mode_is = stands.mode_is;
      watches_are = stands.watches_are;
      searches_are = stands.searches_are;
      stands = stands.stands;
    }

pub put-sent : (d : Desk) (s : PageSide) (state : State) (x : Splice) (old new : List ℕ) → DeskStandsFor d s state
    → new ≡ old ++ message_frames (event_messages d.css (sheet_changed x.sheet)) → new ≡ old ++ frames_of_moves (splice_step x state).moves
put-sent d s state x old new stands sent =
    sent ∙ ap (λ (b : Bool). old ++ message_frames (event_messages b (sheet_changed x.sheet))) stands.css_is
    ∙ ap (λ (bs : List ℕ). old ++ bs)
    (told-frames state.client.css_on (rewritten x.sheet (text_under x.sheet (after_splice x (book_in state)))) (sheet_changed x.sheet) refl)

-- ---- undo and redo

-- what is handed out is a part of what is kept
some-few : (gs : List (List Inverse)) (es : List Inverse) → handed_out gs ≡ Some es → length es ≤ entry_count gs
some-few [] es out = let no : ◌≡◌ {A = Option (List Inverse)} None (Some es) = out in absurd cc
some-few (g ∷ gs) es out =
    let same : reverse g ≡ es = cc in
    let count : length es ≡ length g = ap (λ (l : List Inverse). length l) (sym same) ∙ length-reverse g in
    omega (arith, count)

pub handed-few : (way : Direction) (h : Marks Inverse) (es : List Inverse) → handed_out (groups_of way h) ≡ Some es → length es ≤ edits_in h
handed-few directions.Undo h es out = omega (arith, some-few h.past es out)
handed-few directions.Redo h es out = omega (arith, some-few h.future es out)

-- the page at the desk is the state's
here-saved : (d : Desk) (s : PageSide) (state : State) → DeskStandsFor d s state → saved_at s ≡ saved_now state
here-saved d s state stands = ap (λ (p : PageValue). saved_of p.tree s.sheets.entries) stands.page_is ∙ ap
    (saved_of state.side.page.tree) stands.sheets_are

-- at the desk the edits are taken
taken-here : (d : Desk) (s : PageSide) (state : State) (es : List Inverse) → DeskStandsFor d s state
    → AllTaken page_after (TakesWell state.side.page.next) es (saved_now state)
    → AllTaken page_after (TakesWell s.page.next) es (saved_at s)
taken-here d s state es stands taken =
    let next : state.side.page.next ≡ s.page.next = ap (λ (p : PageValue). p.next) (sym stands.page_is) in
    subst (λ (n : ℕ). AllTaken page_after (TakesWell n) es (saved_at s)) next
    (subst (λ (p : Saved). AllTaken page_after (TakesWell state.side.page.next) es p) (sym (here-saved d s state stands)) taken)

-- a command of these that is carried out
pub record IsTaking (way : Direction) (state : State) : Type 0 where
  pub plain : needs_css (taking_command way) ≡ false
  pub step : (id : ℕ) → served_step id (taking_command way) state
      ≡ taken_step id (taken_edits way state.client.marks) (group_moved way state.client.marks) state
  pub outward : served_outward (taking_command way) state ≡ taken_outward (taken_edits way state.client.marks) state

pub is-taking : (way : Direction) (state : State) → IsTaking way state
is-taking directions.Undo state = record { plain = refl; step = λ id. refl; outward = refl }
is-taking directions.Redo state = record { plain = refl; step = λ id. refl; outward = refl }

module _ (way : Direction) (d : Desk) (h : Marks Inverse) (s : PageSide) where
  -- the page takes the edits that are handed out
  pub group-takes : (state : State) (es : List Inverse) → handed_out (groups_of way h) ≡ Some es → BothStandFor d h s state → TakesAll s es
  group-takes state es out both = taken-here d s state es both.stands (hands-group way h es state both.kept out).taken

  pub group-taken : (es : List Inverse) → handed_out (groups_of way h) ≡ Some es → ∥ ((state : State) × BothStandFor d h s state) ∥₁
      → ∥ TakesAll s es ∥₁
  group-taken es out standing =
      ∥∥₁_map standing (λ (x : ((state : State) × BothStandFor d h s state)). group-takes x.0 es out x.1)

  module _ (state : State) (id : ℕ) (both : BothStandFor d h s state) (on : d.is_on ≡ true) where
    -- what the command does, by what is handed out
    taking : (o : Option (List Inverse)) → handed_out (groups_of way h) ≡ o
        → command_step id (taking_command way) state ≡ taken_step id o (group_moved way state.client.marks) state
    taking o out =
        on-is id (taking_command way) state (dom-on (taking_command way) d s state both.stands on)
        (ap (λ b. b && not state.client.css_on) (is-taking way state).plain)
        ∙ (is-taking way state).step id
        ∙ ap (λ (x : Option (List Inverse)). taken_step id x (group_moved way state.client.marks) state)
        (taken-out way h o state both.kept out)

    -- with nothing handed out the state stays; what is told is the answer, or that the history was emptied
    pub none-both : (h1 : Marks Inverse) → handed_out (groups_of way h) ≡ None → h1 ≡ group_popped way h
        → BothStandFor d h1 s (command_step id (taking_command way) state).state
    none-both h1 out is =
        subst (λ (after : State). BothStandFor d h1 s after)
        (sym (ap (λ (done : Step). done.state) (taking None out) ∙ none-taken id (group_moved way state.client.marks) state))
        (record {
          stands = both.stands;
          kept = subst (λ (x : Marks Inverse). Keeps x state) (sym is) (hands-none way h state both.kept out).kept;
        })

    none-is : (crossed : Bool) → handed_out (groups_of way h) ≡ None → h.crossed ≡ crossed
        → command_step id (taking_command way) state ≡ cond crossed (refusing (Some id) Crossed state) (answering id (idle state))
    none-is crossed out is =
        taking None out
        ∙ ap (λ b. cond b (refusing (Some id) Crossed state) (answering id (idle state)))
        (sym (hands-none way h state both.kept out).crossed ∙ is)

    pub nothing-sent : (old new : List ℕ) → handed_out (groups_of way h) ≡ None → h.crossed ≡ false
        → new ≡ old ++ framed (reply_text id Nothing)
        → new ≡ old ++ frames_of_moves (command_step id (taking_command way) state).moves
    nothing-sent old new out free sent =
        sent ∙ ap (λ bs. old ++ bs) (sym (append-nil (framed (reply_text id Nothing)))) ∙ ap
        (λ (done : Step). old ++ frames_of_moves done.moves) (sym (none-is false out free))

    pub crossed-sent : (old new : List ℕ) → handed_out (groups_of way h) ≡ None → h.crossed ≡ true
        → new ≡ old ++ frames_of_moves (refusing (Some id) Crossed state).moves
        → new ≡ old ++ frames_of_moves (command_step id (taking_command way) state).moves
    crossed-sent old new out crossed sent =
        sent ∙ ap (λ (done : Step). old ++ frames_of_moves done.moves) (sym (none-is true out crossed))

    pub group-sent : (es : List Inverse) (old middle new : List ℕ) → handed_out (groups_of way h) ≡ Some es
        → middle ≡ old ++ frames_of_moves (kept_steps es state).moves → new ≡ middle ++ framed (reply_text id Nothing)
        → new ≡ old ++ frames_of_moves (command_step id (taking_command way) state).moves
    group-sent es old middle new out first last =
        answered-sent id (kept_steps es state).moves old middle new first last ∙ ap (λ (done : Step). old ++ frames_of_moves done.moves)
        (sym (taking (Some es) out))

    -- where the edits led, which are carried out
    pub group-both : (d1 : Desk) (h1 : Marks Inverse) (s1 : PageSide) (es backs : List Inverse) → handed_out (groups_of way h) ≡ Some es
        → DeskStandsFor d1 s1 (kept_steps es state).state → saved_at s1 ≡ after_all page_after es (saved_at s)
        → s1.page.next ≡ s.page.next → backs ≡ back_all page_after way_back es (saved_at s)
        → h1 ≡ group_pushed way backs (group_popped way h)
        → BothStandFor d1 h1 s1 (command_step id (taking_command way) state).state
    group-both d1 h1 s1 es backs out stands saved next backs_is h_is =
        let after = (kept_steps es state).state in
        let marks = group_moved way state.client.marks in
        let now : s1.page.next ≡ after.side.page.next = ap (λ (p : PageValue). p.next) stands.page_is in
        let then : s.page.next ≡ state.side.page.next = ap (λ (p : PageValue). p.next) both.stands.page_is in
        let led : saved_now after ≡ after_all page_after es (saved_now state) =
        sym (here-saved d1 s1 after stands) ∙ saved ∙ ap (λ (p : Saved). after_all page_after es p) (here-saved d s state both.stands) in
        let same : h1 ≡ group_pushed way (back_all page_after way_back es (saved_now state)) (group_popped way h) =
        h_is ∙ ap (λ (l : List Inverse). group_pushed way l (group_popped way h))
        (backs_is ∙ ap (λ (p : Saved). back_all page_after way_back es p) (here-saved d s state both.stands)) in
        subst (λ (done : Step). BothStandFor d1 h1 s1 done.state) (sym (taking (Some es) out))
        (record {
          stands = marks-stands marks d1 s1 after stands;
          kept = subst (λ (x : Marks Inverse). Keeps x (with_marks marks after)) (sym same)
              ((hands-group way h es state both.kept out).kept after led (omega (arith, now, then, next)));
        })

-- ---- a mark

pub marked-both : (d : Desk) (h h1 : Marks Inverse) (s : PageSide) (state : State) (id : ℕ) → BothStandFor d h s state → d.is_on ≡ true
    → h1 ≡ marked h → BothStandFor d h1 s (command_step id MarkUndoableState state).state
marked-both d h h1 s state id both on is =
    let marks = marked state.client.marks in
    subst (λ (done : Step). BothStandFor d h1 s done.state)
    (sym (on-is id MarkUndoableState state (dom-on MarkUndoableState d s state both.stands on) refl))
    (record {
      stands = marks-stands marks d s state both.stands;
      kept = subst (λ (x : Marks Inverse). Keeps x (with_marks marks state)) (sym is) (keeps-marked h state both.kept);
    })

pub marked-sent : (d : Desk) (s : PageSide) (state : State) (id : ℕ) (old new : List ℕ) → DeskStandsFor d s state → d.is_on ≡ true
    → new ≡ old ++ framed (reply_text id Nothing)
    → new ≡ old ++ frames_of_moves (command_step id MarkUndoableState state).moves
marked-sent d s state id old new stands on sent =
    sent ∙ ap (λ bs. old ++ bs) (sym (append-nil (framed (reply_text id Nothing))))
    ∙ ap (λ (done : Step). old ++ frames_of_moves done.moves)
    (sym (on-is id MarkUndoableState state (dom-on MarkUndoableState d s state stands on) refl))
