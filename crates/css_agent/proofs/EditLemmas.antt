-- Edits that are told.
use Rattle.std.proofs.Common.{◌≡◌, ℕ, ◌+◌, ◌<◌, List, [], ◌∷◌, ◌++◌, map, take, drop, length, get_or, Option, Some, None, Ok, refl, sym, ap}
use Rattle.std.proofs.Common.{◌∙◌, append-nil}
use Rattle.std.proofs.lemmas.Grind.{take_at_read}
use Rattle.std.proofs.lemmas.List.{drop_more, append_assoc, map-append}
use Rattle.std.proofs.lemmas.List.Concat.{flat_map-append}
use Rattle.sheet_reader.specs.declared.book.SheetEntry.{SheetEntry}
use Rattle.sheet_reader.specs.Books.{entry_of}
use Rattle.style_edits.specs.declared.splice.Splice.{Splice}
use Rattle.style_edits.specs.Splices.{after_splice, back_by, back_splice}
use Rattle.pipe_frames.specs.Frames.{framed}
use Rattle.cdp_messages.specs.Events.{sheet_changed}
use Rattle.client_views.specs.Moves.{Move, replied, move_text, frames_of_moves}
use Rattle.cdp_messages.specs.Replies.{event, message_frame, message_frames}
use Rattle.cdp_messages.specs.declared.css_edit.CssEdit.{CssEdit}
use Rattle.css_agent.specs.Told.{changed_message}
use Rattle.css_agent.specs.Edits.{CssDone, CssEdited, css_edited, css_splices, splice_moves, moves_with_reply, edit_moves}
use Rattle.css_agent.specs.EditLaws.{back_splices}
use Rattle.css_agent.proofs.DoneLemmas.{css-leads}

-- the edit at a place is told, and those behind it are left
pub change-turn : (backs : List Splice) (i : ℕ) (b : Splice) (before after : List ℕ) → i < length backs → b ≡ get_or backs i b
    → after ≡ before ++ message_frames (changed_message b ∷ [])
    → after ++ message_frames (map changed_message (drop (i + 1) backs)) ≡ before ++ message_frames (map changed_message (drop i backs))
change-turn backs i b before after inside is sent =
    let rest = message_frames (map changed_message (drop (i + 1) backs)) in
    ap (λ (xs : List ℕ). xs ++ rest) (sent ∙ ap (λ (f : List ℕ). before ++ f) (append-nil (message_frame (changed_message b))))
    ∙ append_assoc before (message_frame (changed_message b)) rest
    ∙ sym (ap (λ (l : List Splice). before ++ message_frames (map changed_message l))
    (drop_more backs i b inside ∙ ap (λ (x : Splice). x ∷ drop (i + 1) backs) (sym is)))

-- a splice and the one that leads back are of one sheet
back-sheet : (s : Splice) (book : List SheetEntry) → (back_splice s book).sheet ≡ s.sheet
back-sheet s book = at (entry_of s.sheet book)
  where
    at : (o : Option SheetEntry) → (back_by s o).sheet ≡ s.sheet
    at None = refl
    at (Some e) = refl

-- what tells splices is what tells those that lead back
splices-told : (ss : List Splice) (book : List SheetEntry)
    → frames_of_moves (splice_moves ss book) ≡ message_frames (map changed_message (back_splices ss book))
splices-told [] book = refl
splices-told (s ∷ ss) book =
    let next = after_splice s book in
    ap (λ (rest : List ℕ). message_frame (event (sheet_changed s.sheet)) ++ rest) (splices-told ss next)
    ∙ ap (λ (n : ℕ). message_frame (event (sheet_changed n)) ++ message_frames (map changed_message (back_splices ss next)))
    (sym (back-sheet s book))

-- the frames of an edit and of its reply are those of its moves
pub edit_told : (x : CssEdit) (book : List SheetEntry) (d : CssDone) (id : ℕ) (front : List ℕ) → css_edited book x ≡ Ok d
    → (front ++ message_frames (map changed_message d.backs)) ++ frames_of_moves (replied id d.body ∷ [])
    ≡ front ++ frames_of_moves (edit_moves id book x)
edit_told x book d id front done =
    let own = frames_of_moves (replied id d.body ∷ []) in
    let ss = css_splices book x in
    append_assoc front (message_frames (map changed_message d.backs)) own
    ∙ ap (λ (bs : List Splice). front ++ (message_frames (map changed_message bs) ++ own)) (css-leads x book d done).back
    ∙ ap (λ (xs : List ℕ). front ++ (xs ++ own)) (sym (splices-told ss book))
    ∙ ap (λ (xs : List ℕ). front ++ xs)
    (sym (flat_map-append (λ (m : Move). framed (move_text m)) (splice_moves ss book) (replied id d.body ∷ [])))
    ∙ sym (ap (λ (o : CssEdited). front ++ frames_of_moves (moves_with_reply id (splice_moves ss book) o)) done)

-- one more is made, of that at a place
pub made-turn : {X Y : Type 0} (f : X → Y) (xs : List X) (i : ℕ) (x : X) (before after : List Y) → i < length xs → x ≡ get_or xs i x
    → before ≡ map f (take i xs) → after ≡ before ++ f x ∷ []
    → after ≡ map f (take (i + 1) xs)
made-turn {X = X} {Y = Y} f xs i x before after inside is so_far made =
    let more = (take_at_read xs i x inside).1 ∙ ap (λ (y : X). take i xs ++ y ∷ []) (sym is) in
    made ∙ ap (λ (l : List Y). l ++ f x ∷ []) so_far ∙ sym (map-append f (take i xs) (x ∷ [])) ∙ sym (ap (map f) more)
