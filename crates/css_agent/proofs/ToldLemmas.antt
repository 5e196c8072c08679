-- Sheets told one after the other.
use Rattle.std.proofs.Common.{◌≡◌, ℕ, ◌+◌, List, [], ◌∷◌, ◌++◌, map, drop, Some, sym, ap, ◌∙◌, append-nil}
use Rattle.std.specs.List.{slice_get}
use Rattle.std.proofs.lemmas.List.{append_assoc}
use Rattle.sheet_reader.specs.declared.book.SheetEntry.{SheetEntry}
use Rattle.cascade_match.proofs.MatchLemmas.{drop-at}
use Rattle.css_agent.specs.Told.{added_message}
use Rattle.cdp_messages.specs.Replies.{message_frames, message_frame}

-- the sheet at a place is told, and those behind it are left
pub told-turn : (book : List SheetEntry) (i : ℕ) (e : SheetEntry) (before after : List ℕ) → slice_get book i ≡ Some e
    → after ≡ before ++ message_frames (added_message e ∷ [])
    → after ++ message_frames (map added_message (drop (i + 1) book)) ≡ before ++ message_frames (map added_message (drop i book))
told-turn book i e before after at sent =
    let rest = message_frames (map added_message (drop (i + 1) book)) in
    ap (λ (b : List ℕ). b ++ rest) (sent ∙ ap (λ (f : List ℕ). before ++ f) (append-nil (message_frame (added_message e))))
    ∙ append_assoc before (message_frame (added_message e)) rest
    ∙ sym (ap (λ (l : List SheetEntry). before ++ message_frames (map added_message l)) (drop-at book i e at))
