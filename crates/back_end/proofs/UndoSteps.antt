-- An undo and a redo: each edit out of the history is made, the page is the saved one then, and the step is well.
use Rattle.std.proofs.Common.{◌≡◌, ℕ, suc, ◌+◌, ◌^◌, ◌<◌, ◌≤◌, ◌==◌, Bool, true, false, cond, List, [], ◌∷◌, length, map, Option, Some}
use Rattle.std.proofs.Common.{None, refl, sym, ap, ◌∙◌, subst, arith}
use Rattle.std.specs.Prelude.{IfSome}
use Rattle.std.specs.Str.{IsUtf8}
use Rattle.cdp_json.specs.Kinds.{is_counted}
use Rattle.page_tree.proofs.InsertLemmas.{next-stays}
use Rattle.selectors.specs.Ranges.{IsRangeOf}
use Rattle.sheet_reader.specs.Forms.{range}
use Rattle.sheet_reader.specs.Sheets.{sheet_of}
use Rattle.sheet_reader.specs.declared.book.SheetEntry.{SheetEntry}
use Rattle.sheet_reader.specs.Books.{entry_of}
use Rattle.style_edits.specs.declared.splice.Splice.{Splice}
use Rattle.style_edits.specs.Splices.{spliced, TakesSplice}
use Rattle.style_edits.proofs.BookForms.{entry_id}
use Rattle.cdp_messages.specs.declared.down.ReplyBody.TheVariants.{Nothing}
use Rattle.cdp_messages.specs.declared.command.Why.TheVariants.{Crossed}
use Rattle.client_views.specs.Views.{ShownSheet}
use Rattle.client_views.specs.Moves.{replied}
use Rattle.undo_marks.specs.Marks.{Marks, handed_out, marked, groups_of, group_moved}
use Rattle.undo_marks.specs.declared.histories.Direction.{Direction}
use Rattle.undo_marks.specs.declared.histories.Direction.TheVariants as directions
use Rattle.undo_marks.specs.Changes.{HistoryEntry as Entry, after_all, AllTaken}
use Rattle.undo_marks.specs.Saved.{SavedSheet, Saved}
use Rattle.undo_marks.specs.SavedEdits.{saved_sheet, sheet_at, page_after, TakesSheet, MeetsNoFault}
use Rattle.undo_marks.specs.declared.inverse_lists.Inverse.{Inverse}
use Rattle.undo_marks.specs.declared.inverse_lists.Inverse.TheVariants.{Tree, Sheet}
use Rattle.back_end.specs.Sheets.{entry_of_sheet, as_book}
use Rattle.back_end.specs.States.{State, saved_now, HoldsNow, TakesWell, HasHistory, IsState}
use Rattle.back_end.specs.Steps.{Step, with_marks, refusing, answering, idle, kept_step, kept_steps, taken_edits, taken_step}
use Rattle.back_end.specs.Steps.{mark_step}
use Rattle.back_end.specs.Laws.{HasRoom, MayAnswer, UndoRestores}
use Rattle.back_end.proofs.WellSteps.{Well, HasNumbers, room-numbers, stays, then-well, more, well-marked, well-answered}
use Rattle.back_end.proofs.StepLemmas.{edit-is, edit-well}
use Rattle.back_end.proofs.SpliceSteps.{splice-is, splice-well, splice-events, splice-saved}
use Rattle.back_end.proofs.TurnAnswers.{AreEvents, events-append, shown-edit-events}
use Rattle.back_end.proofs.HistoryLemmas.{kept_in, history-kept, page_led, Hands, HandsNone, hands-group, hands-none}
use Rattle.back_end.proofs.GroupCounts.{trees_in, trees-in-length, SameCounts, moved-counts, FewEdits, few-taken}
use Rattle.back_end.proofs.KeptSteps.{Recalls, recalls-same, recalls-marked, steps-well}
use Rattle.back_end.proofs.AnsweredSteps.{Answered, reply-answered, refusal-answered}

-- ---- a splice that the saved sheets take is one that the book takes

record Found (n : ℕ) (ss : List ShownSheet) (x : SavedSheet) : Type 0 where
  entry : SheetEntry
  found : entry_of n (as_book ss) ≡ Some entry
  saved : saved_sheet entry ≡ x
  read : entry.reading ≡ sheet_of entry.text

found-saved : (n : ℕ) (ss : List ShownSheet) (x : SavedSheet) → sheet_at n (map saved_sheet (as_book ss)) ≡ Some x → Found n ss x
found-saved n [] x h = let no : ◌≡◌ {A = Option SavedSheet} None (Some x) = h in absurd cc
found-saved n (s ∷ ss) x h = at (n == s.number) refl h (λ k. found-saved n ss x k) where
  at : (b : Bool) → (n == s.number) ≡ b
      → cond b (Some (saved_sheet (entry_of_sheet s))) (sheet_at n (map saved_sheet (as_book ss))) ≡ Some x
      → (sheet_at n (map saved_sheet (as_book ss)) ≡ Some x → Found n ss x) → Found n (s ∷ ss) x
  at true t k later = record {
    entry = entry_of_sheet s;
    found = ap (λ (b : Bool). cond b (Some (entry_of_sheet s)) (entry_of n (as_book ss))) t;
    saved = let same : saved_sheet (entry_of_sheet s) ≡ x = cc in same;
    read = refl;
  }
  at false t k later =
      let rest = later k in
      record {
        entry = rest.entry;
        found = ap (λ (b : Bool). cond b (Some (entry_of_sheet s)) (entry_of n (as_book ss))) t ∙ rest.found;
        saved = rest.saved;
        read = rest.read;
      }

pub takes-splice : (s : Splice) (ss : List ShownSheet) → TakesSheet s (map saved_sheet (as_book ss)) → TakesSplice s (as_book ss)
takes-splice s ss t =
    let f = found-saved s.sheet ss t.sheet t.found in
    let same : t.sheet ≡ saved_sheet f.entry = sym f.saved in
    record {
      sheet = f.entry;
      found = f.found;
      stored = record {
        entry = record {
          read = f.read;
          some = subst (λ (x : SavedSheet). 0 < x.number) same t.saved.some;
          id = subst (λ (x : SavedSheet). x.number < 2 ^ 53) same t.saved.below;
          short = subst (λ (x : SavedSheet). length x.text ≤ 2 ^ 24) same t.saved.short;
        };
        utf8 = subst (λ (x : SavedSheet). IsUtf8 x.text) same t.saved.utf8;
      };
      fits = record {
        is = subst (λ (x : SavedSheet). IsRangeOf x.text (range s.start s.end)) same t.is;
        short = subst (λ (x : SavedSheet). length (spliced x.text s.start s.end s.text) ≤ 2 ^ 24) same t.short;
      };
      text = t.text;
    }

-- ---- one edit out of a history

-- after an edit the page is the one that the history says, and all else is as it was
pub record Kept (es : List Inverse) (before after : State) : Type 0 where
  pub now : HoldsNow after
  pub saved : saved_now after ≡ after_all page_after es (saved_now before)
  pub next : after.side.page.next ≡ before.side.page.next
  pub sheets : after.side.next_sheet ≡ before.side.next_sheet
  pub marks : after.client.marks ≡ before.client.marks
  pub dom : after.client.dom_on ≡ before.client.dom_on
  pub css : after.client.css_on ≡ before.client.css_on

-- the page takes an edit out of its history
abbrev pub TakenIn : Inverse → State → Type 0
TakenIn e state = TakesWell state.side.page.next e (saved_now state)

-- and edits, one after the other
abbrev pub AllTakenIn : List Inverse → State → Type 0
AllTakenIn es state = AllTaken page_after (TakesWell state.side.page.next) es (saved_now state)

pub kept-one : (e : Inverse) (state : State) → HoldsNow state → TakenIn e state → Kept (e ∷ []) state (kept_step e state).state
kept-one (Tree e) state is t = record {
  now = edit-is state e is t.taken.taken t.own;
  saved = refl;
  next = next-stays state.side.page e t.taken.taken;
  sheets = refl;
  marks = refl;
  dom = refl;
  css = refl;
}
kept-one (Sheet s) state is t =
    let takes = takes-splice s state.side.sheets t.taken in
    record {
      now = splice-is s state is takes;
      saved = splice-saved s state takes;
      next = refl;
      sheets = refl;
      marks = refl;
      dom = refl;
      css = refl;
    }

-- the others are taken where it led
pub taken-rest : (e : Inverse) (es : List Inverse) (state : State) → HoldsNow state → AllTakenIn (e ∷ es) state
    → AllTakenIn es (kept_step e state).state
taken-rest e es state is all =
    let one = kept-one e state is all.0 in
    subst (λ (n : ℕ). AllTaken page_after (TakesWell n) es (saved_now (kept_step e state).state)) (sym one.next)
    (subst (λ (p : Saved). AllTaken page_after (TakesWell state.side.page.next) es p) (sym one.saved) all.1)

pub kept-steps : (es : List Inverse) (state : State) → HoldsNow state → AllTakenIn es state → Kept es state (kept_steps es state).state
kept-steps [] state is all = record { now = is; saved = refl; next = refl; sheets = refl; marks = refl; dom = refl; css = refl }
kept-steps (e ∷ es) state is all =
    let one = kept-one e state is all.0 in
    let rest = kept-steps es (kept_step e state).state one.now (taken-rest e es state is all) in
    record {
      now = rest.now;
      saved = rest.saved ∙ ap (λ (p : Saved). after_all page_after es p) one.saved;
      next = rest.next ∙ one.next;
      sheets = rest.sheets ∙ one.sheets;
      marks = rest.marks ∙ one.marks;
      dom = rest.dom ∙ one.dom;
      css = rest.css ∙ one.css;
    }

-- ---- it is well

one-well : (e : Inverse) (state : State) → HoldsNow state → HasNumbers state → suc (length state.client.session.pushed) < 2 ^ 52
    → TakenIn e state
    → Well state (kept_step e state) (trees_in (e ∷ [])) 0 0
one-well (Tree e) state is low ids t = edit-well state e is low ids t.taken.taken t.own
one-well (Sheet s) state is low ids t = splice-well s state is low (takes-splice s state.side.sheets t.taken)

pub kept-well : (es : List Inverse) (state : State) → HoldsNow state → HasNumbers state
    → length es + length state.client.session.pushed < 2 ^ 52 → AllTakenIn es state
    → Well state (kept_steps es state) (trees_in es) 0 0
kept-well [] state is low ids all = stays state is low
kept-well (e ∷ es) state is low ids all =
    let few = trees-in-length (e ∷ []) in
    let first : Well state (kept_step e state) (trees_in (e ∷ [])) 0 0 = one-well e state is low (omega (arith, ids)) all.0 in
    let next : HasNumbers (kept_step e state).state = record {
      ids = omega (arith, ids, few, first.few_ids);
      serials = omega (arith, low.serials, first.few_serials);
      sheets = omega (arith, low.sheets, first.few_sheets);
    } in
    more (omega arith) (omega arith) (omega arith)
    (then-well first (kept-well es (kept_step e state).state first.now next (omega (arith, ids, few, first.few_ids))
    (taken-rest e es state is all)))

one-events : (e : Inverse) (state : State) → AreEvents (kept_step e state).moves
one-events (Tree e) state = shown-edit-events state.client.mode e state.side.page state.client.session
one-events (Sheet s) state = splice-events s state

pub kept-events : (es : List Inverse) (state : State) → AreEvents (kept_steps es state).moves
kept-events [] state = tt
kept-events (e ∷ es) state =
    events-append (kept_step e state).moves (kept_steps es (kept_step e state).state).moves (one-events e state)
    (kept-events es (kept_step e state).state)

-- ---- what is carried out, and the history then

-- either there is nothing to take back or to do again, or edits are handed out
pub taken-either : (way : Direction) (P : Option (List Inverse) → Type 0) (state : State) → HasHistory state
    → (HandsNone way (kept_in state) state → P None) → ((es : List Inverse) → Hands way (kept_in state) es state → P (Some es))
    → P (taken_edits way state.client.marks)
taken-either way P state h nothing some = at (handed_out (groups_of way (kept_in state))) refl where
  at : (o : Option (List Inverse)) → handed_out (groups_of way (kept_in state)) ≡ o → P (taken_edits way state.client.marks)
  at None out = let u = hands-none way (kept_in state) state (history-kept state h) out in subst P (sym u.edits) (nothing u)
  at (Some es) out = let u = hands-group way (kept_in state) es state (history-kept state h) out in subst P (sym u.edits) (some es u)

-- where nothing is handed out, nothing changes
pub none-taken : (id : ℕ) (marks : Marks (Entry Saved Inverse)) (state : State) → (taken_step id None marks state).state ≡ state
none-taken id marks state = at state.client.marks.crossed where
  at : (b : Bool) → (cond b (refusing (Some id) Crossed state) (answering id (idle state))).state ≡ state
  at true = refl
  at false = refl

-- ---- the steps

taken-answered : (method : List ℕ) (sheet : Option ℕ) (way : Direction) (id : ℕ) (es : List Inverse) (state : State)
    → MayAnswer method (replied 0 Nothing)
    → IsState state → HasRoom state → is_counted id ≡ true → Hands way (kept_in state) es state
    → Answered method sheet id 0 state (taken_step id (Some es) (group_moved way state.client.marks) state)
taken-answered method sheet way id es state can is room small hands =
    let marks = group_moved way state.client.marks in
    let few : FewEdits es state.client.marks = few-taken way state.client.marks es hands.edits in
    let counts : SameCounts state.client.marks marks = moved-counts way state.client.marks in
    let low : HasNumbers state = room-numbers state room in
    let k : Kept es state (kept_steps es state).state = kept-steps es state is.now hands.taken in
    let made : Well state (kept_steps es state) (trees_in es) 0 0 = kept-well es state is.now low
    (omega (arith, room.ids, room.edits, few.count)) hands.taken in
    let done : Step = record { state = with_marks marks (kept_steps es state).state; moves = (kept_steps es state).moves } in
    let well : Well state done (trees_in es) 0 0 = well-marked marks made in
    let later : HasNumbers done.state = record {
      ids = omega (arith, room.ids, room.edits, few.count, trees-in-length es, made.few_ids);
      serials = omega (arith, low.serials, made.few_serials);
      sheets = omega (arith, low.sheets, made.few_sheets);
    } in
    let recalls : Recalls state done.state 0 0 = record {
      history = (hands.kept (kept_steps es state).state k.saved (omega (arith, k.next))).history;
      few_trees = omega (arith, counts.trees);
      few_edits = omega (arith, counts.count);
    } in
    reply-answered method sheet id 0 Nothing state done can (kept-events es state)
    (steps-well {ids = trees_in es} (omega (arith, few.trees)) (omega arith)
    (more (omega arith) (omega arith) (omega arith) (well-answered id small later well)) recalls) recalls.few_edits

-- where there are none
nothing-answered : (method : List ℕ) (sheet : Option ℕ) (id : ℕ) (marks : Marks (Entry Saved Inverse)) (state : State)
    → MayAnswer method (replied 0 Nothing)
    → IsState state → HasRoom state → is_counted id ≡ true → Answered method sheet id 0 state (taken_step id None marks state)
nothing-answered method sheet id marks state can is room small = at state.client.marks.crossed where
  low : HasNumbers state
  low = room-numbers state room

  recalls : Recalls state state 0 0
  recalls = recalls-same state state is.history refl refl (omega arith)

  at : (b : Bool) → Answered method sheet id 0 state (cond b (refusing (Some id) Crossed state) (answering id (idle state)))
  at true = refusal-answered method sheet id 0 Crossed state is room small
  at false =
      reply-answered method sheet id 0 Nothing state (idle state) can tt
      (steps-well {ids = 0} (omega arith) (omega arith)
      (more (omega arith) (omega arith) (omega arith) (well-answered id small low (stays state is.now low))) recalls) recalls.few_edits

pub group-answered : (method : List ℕ) (sheet : Option ℕ) (way : Direction) (id : ℕ) (state : State) → MayAnswer method (replied 0 Nothing)
    → IsState state → HasRoom state → is_counted id ≡ true
    → Answered method sheet id 0 state (taken_step id (taken_edits way state.client.marks) (group_moved way state.client.marks) state)
group-answered method sheet way id state can is room small =
    let marks = group_moved way state.client.marks in
    taken-either way (λ o. Answered method sheet id 0 state (taken_step id o marks state)) state is.history
    (λ u. nothing-answered method sheet id marks state can is room small)
    (λ es u. taken-answered method sheet way id es state can is room small u)

pub mark-answered : (method : List ℕ) (sheet : Option ℕ) (id : ℕ) (state : State) → MayAnswer method (replied 0 Nothing) → IsState state
    → HasRoom state → is_counted id ≡ true
    → Answered method sheet id 0 state (mark_step id state)
mark-answered method sheet id state can is room small =
    let low : HasNumbers state = room-numbers state room in
    let done : Step = idle (with_marks (marked state.client.marks) state) in
    let well : Well state done 0 0 0 = well-marked (marked state.client.marks) (stays state is.now low) in
    let later : HasNumbers done.state = record { ids = low.ids; serials = low.serials; sheets = low.sheets } in
    let recalls : Recalls state done.state 0 0 = recalls-marked state is.history in
    reply-answered method sheet id 0 Nothing state done can tt
    (steps-well {ids = 0} (omega arith) (omega arith)
    (more (omega arith) (omega arith) (omega arith) (well-answered id small later well)) recalls) recalls.few_edits

-- ---- the law

faultless : (next : ℕ) (es : List Inverse) (page : Saved) → AllTaken page_after (TakesWell next) es page
    → AllTaken page_after MeetsNoFault es page
faultless next [] page all = tt
faultless next (Tree e ∷ es) page all = (all.0.taken.taken.fits, faultless next es (page_after (Tree e) page) all.1)
faultless next (Sheet s ∷ es) page all = (all.0.taken, faultless next es (page_after (Sheet s) page) all.1)

-- the page is the saved one, and the history the one after it
led-page : (way : Direction) (state : State) → IsState state → (id : ℕ)
    → saved_now (taken_step id (taken_edits way state.client.marks) (group_moved way state.client.marks) state).state
    ≡ page_led way state.client.marks (saved_now state)
led-page way state is id =
    let marks = group_moved way state.client.marks in
    taken-either way (λ o. saved_now (taken_step id o marks state).state ≡ page_led way state.client.marks (saved_now state)) state
    is.history
    (λ u. ap saved_now (none-taken id marks state) ∙ sym u.ends)
    (λ es u. (kept-steps es state is.now u.taken).saved ∙ u.ends)

led-marks : (way : Direction) (state : State) → IsState state → (id : ℕ)
    → (taken_step id (taken_edits way state.client.marks) (group_moved way state.client.marks) state).state.client.marks
    ≡ group_moved way state.client.marks
led-marks way state is id =
    let marks = group_moved way state.client.marks in
    taken-either way (λ o. (taken_step id o marks state).state.client.marks ≡ marks) state is.history
    (λ u. ap (λ (after : State). after.client.marks) (none-taken id marks state) ∙ sym u.stays)
    (λ es u. refl)

led-faultless : (way : Direction) (state : State) → IsState state
    → IfSome (taken_edits way state.client.marks) (λ es. AllTaken page_after MeetsNoFault es (saved_now state))
led-faultless way state is =
    taken-either way (λ o. IfSome o (λ es. AllTaken page_after MeetsNoFault es (saved_now state))) state is.history (λ u. tt)
    (λ es u. faultless state.side.page.next es (saved_now state) u.taken)

pub undo-restores : UndoRestores
undo-restores state is = record {
  undone_page = led-page directions.Undo state is;
  undone_marks = led-marks directions.Undo state is;
  undo_faultless = led-faultless directions.Undo state is;
  redone_page = led-page directions.Redo state is;
  redone_marks = led-marks directions.Redo state is;
  redo_faultless = led-faultless directions.Redo state is;
}
