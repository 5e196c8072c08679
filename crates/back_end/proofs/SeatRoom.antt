-- A seat has the room that its state has.
use Rattle.std.proofs.Common.{◌≡◌, refl, ◌+◌, ◌^◌, ◌<◌, List, [], ◌∷◌, length, map, sym, ◌∙◌, ap, subst, arith}
use Rattle.std.proofs.lemmas.List.{length-map, length-reverse}
use Rattle.page_tree.specs.Pages.{PageValue}
use Rattle.undo_marks.specs.Marks.{Marks, entry_count}
use Rattle.undo_marks.specs.Changes.{HistoryEntry as Entry, backs_of, again_of}
use Rattle.undo_marks.specs.Saved.{Saved}
use Rattle.undo_marks.specs.SavedEdits.{way_back}
use Rattle.undo_marks.specs.declared.inverse_lists.Inverse.{Inverse}
use Rattle.dom_search.specs.Searches.{Kept as Searched, next_search}
use Rattle.back_end.specs.declared.seat.Seat.{Seat}
use Rattle.back_end.specs.declared.side.PageSide.{PageSide}
use Rattle.back_end.specs.States.{State, IsState, Keeps}
use Rattle.back_end.specs.Laws.{edits_kept, HasRoom}
use Rattle.back_end.specs.Seats.{StandsFor, edits_in, HasRoomLeft}

-- what is kept in place of the pages of a history has as many edits
backs-count : (gs : List (List (Entry Saved Inverse))) → entry_count (map (backs_of way_back) gs) ≡ entry_count gs
backs-count [] = refl
backs-count (g ∷ gs) =
    let one : length (backs_of way_back g) ≡ length g = length-map g (λ (e : Entry Saved Inverse). way_back e.edit e.before) in
    let more : entry_count (map (backs_of way_back) gs) ≡ entry_count gs = backs-count gs in
    omega (arith, one, more)

again-count : (gs : List (List (Entry Saved Inverse))) → entry_count (map (again_of way_back) gs) ≡ entry_count gs
again-count [] = refl
again-count (g ∷ gs) =
    let one : length (again_of way_back g) ≡ length g =
    length-reverse (map (λ (e : Entry Saved Inverse). e.edit) g) ∙ length-map g (λ (e : Entry Saved Inverse). e.edit) in
    let more : entry_count (map (again_of way_back) gs) ≡ entry_count gs = again-count gs in
    omega (arith, one, more)

kept-count : (kept : Marks Inverse) (state : State) → Keeps kept state → edits_in kept ≡ edits_kept state
kept-count kept state keeps =
    ap edits_in keeps.edits
    ∙ ap (λ n. n + entry_count (map (again_of way_back) state.client.marks.future)) (backs-count state.client.marks.past)
    ∙ ap (λ n. entry_count state.client.marks.past + n) (again-count state.client.marks.future)

-- a seat has the room that its state has
pub has-room-left : (seat : Seat) (side : PageSide) (state : State) → StandsFor seat side state → HasRoom state → HasRoomLeft seat side
has-room-left seat side state stands room =
    let next : seat.desk.agent.next ≡ length state.client.session.pushed + 1 = stands.stands.stands.next_is in
    let ids : length state.client.session.pushed + 1 < 2 ^ 50 = room.ids in
    record {
      numbers = record {
        ids = omega (arith, next, ids);
        serials = subst (λ (page : PageValue). page.next < 2 ^ 50) (sym stands.stands.page_is) room.serials;
        sheets = subst (λ n. n < 2 ^ 50) (sym stands.stands.next_is) room.sheets;
        searches = subst (λ (k : Searched). next_search k < 2 ^ 50) (sym stands.stands.searches_are) room.searches;
      };
      edits = subst (λ n. n < 2 ^ 30) (sym (kept-count seat.history state stands.kept)) room.edits;
    }

-- and the state has the room that the seat has
pub room-of : (seat : Seat) (side : PageSide) (state : State) → StandsFor seat side state → HasRoomLeft seat side → HasRoom state
room-of seat side state stands left =
    let next : seat.desk.agent.next ≡ length state.client.session.pushed + 1 = stands.stands.stands.next_is in
    let ids : seat.desk.agent.next < 2 ^ 50 = left.numbers.ids in
    record {
      ids = omega (arith, next, ids);
      serials = subst (λ (page : PageValue). page.next < 2 ^ 50) stands.stands.page_is left.numbers.serials;
      sheets = subst (λ n. n < 2 ^ 50) stands.stands.next_is left.numbers.sheets;
      edits = subst (λ n. n < 2 ^ 30) (kept-count seat.history state stands.kept) left.edits;
      searches = subst (λ (k : Searched). next_search k < 2 ^ 50) stands.stands.searches_are left.numbers.searches;
    }

-- the state that a seat stands for is one that can be
pub seated-state : (seat : Seat) (side : PageSide) (state : State) → StandsFor seat side state → IsState state
seated-state seat side state stands = record { now = stands.stands.now; history = stands.kept.history }
