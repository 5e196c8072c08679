-- The message of each move of a course is a text without a zero byte.
use Rattle.std.proofs.Common.{◌≡◌, ℕ, zero, suc, true, false, refl, ap, sym, subst, List, [], ◌∷◌}
use Rattle.std.specs.Prelude.{⊤}
use Rattle.cdp_json.specs.Kinds.{is_counted}
use Rattle.cdp_json.specs.Plain.{is_plain}
use Rattle.node_tree.specs.Nodes.{Nodes, Branch, alone}
use Rattle.node_tree.specs.Seen.{Seen}
use Rattle.pipe_frames.specs.Frames.{IsText}
use Rattle.cdp_messages.specs.declared.down.ReplyBody.TheVariants.{Nothing, Root, SheetText}
use Rattle.cdp_messages.specs.declared.down.PauseData.{PauseData}
use Rattle.cdp_messages.specs.declared.down.PauseData.TheVariants as pause
use Rattle.cdp_messages.specs.Events.{paused, document_updated, sheet_added, sheet_changed, sheet_removed, fits_news}
use Rattle.cdp_messages.specs.Replies.{message_data}
use Rattle.dom_objects.specs.Tellable.{suits_tree}
use Rattle.dom_objects.specs.Told.{told_branch}
use Rattle.client_views.specs.Views.{AreSheets, sheet_header, View}
use Rattle.client_views.specs.Moves as move
use Rattle.client_views.specs.Moves.{Move, change_news, message_of, move_text, paused_nodes, AreShown, suits_view, IsTellable, CanBeTold}
use Rattle.client_views.specs.Moves.{target_nodes, Moves, Course, ends, goes}
use Rattle.cdp_messages.proofs.Messages.{reply_plain, refusal_plain}
use Rattle.cdp_messages.proofs.NewsLaws.{news_plain}
use Rattle.dom_objects.proofs.TellableLaws.{shown_trees_fit}
use Rattle.cdp_messages.proofs.ZeroFree.{texts_have_no_zero}
use Rattle.client_views.proofs.BoolLemmas.{and_left, both}
use Rattle.client_views.proofs.ToldChanges.{told_change_news, shown_id}
use Rattle.client_views.proofs.ToldSheets.{last_is_sheet, shown_is_sheet, added_news_fit, changed_news_fit, removed_news_fit}

target_fits : (target : ℕ) (u : Nodes Seen) → AreShown (target_nodes target) u → suits_view u ≡ true → is_counted target ≡ true
target_fits zero u are s = refl
target_fits (suc n) u are s = (shown_id (suc n) u are.0 s).counted

pub pause_fits : (why : PauseData) (u : Nodes Seen) → AreShown (paused_nodes why) u → suits_view u ≡ true → fits_news (paused why) ≡ true
pause_fits (pause.Subtree watched target true) u are s =
    let a = shown_id watched u are.0 s in
    both (both (both a.counted a.positive) (both (target_fits target u are.1 s) refl)) refl
pause_fits (pause.Subtree watched target false) u are s =
    let a = shown_id watched u are.0 s in
    both (both (both a.counted a.positive) (both (target_fits target u are.1 s) refl)) refl
pause_fits (pause.Attribute watched) u are s = let a = shown_id watched u are.0 s in both (both (both a.counted a.positive) refl) refl
pause_fits (pause.Removed watched) u are s = let a = shown_id watched u are.0 s in both (both (both a.counted a.positive) refl) refl

root-suits : (b : Branch Seen) (w : View) → CanBeTold w → alone b ≡ w.tree → suits_tree true b ≡ true
root-suits b w there is =
    let can : IsTellable (alone b) = subst IsTellable (sym is) there.tree in
    and_left (suits_tree true b) true can.forms

move-plain : (m : Move) (u w : View) → CanBeTold u → CanBeTold w → Moves m u w → is_plain (message_data (message_of m)) ≡ true
move-plain (move.change id c) u w here there moves = news_plain (change_news id c)
    (told_change_news u.tree w.tree id c here.tree there.tree moves.0).fits
move-plain move.clear u w here there moves = news_plain document_updated refl
move-plain (move.met why) u w here there moves = news_plain (paused why) (pause_fits why u.tree moves.1 here.tree.forms)
move-plain (move.added s) u w here there moves =
    news_plain (sheet_added (sheet_header s))
    (added_news_fit s (last_is_sheet u.sheets s (subst AreSheets (ap (λ (x : View). x.sheets) moves.0) there.sheets)) moves.1)
move-plain (move.dropped n) u w here there moves = news_plain (sheet_removed n)
    (removed_news_fit n (shown_is_sheet n u.sheets here.sheets moves.1))
move-plain (move.rewritten n text) u w here there moves = news_plain (sheet_changed n)
    (changed_news_fit n (shown_is_sheet n u.sheets here.sheets moves.1))
move-plain (move.texted id n text) u w here there moves = reply_plain id (SheetText text) moves.2 refl
move-plain (move.root id b) u w here there moves =
    reply_plain id (Root (told_branch 0 b)) moves.1 (shown_trees_fit b (root-suits b w there (ap (λ (x : View). x.tree) (sym moves.0))))
move-plain (move.replied id body) u w here there moves = reply_plain id body moves.1.id_fits moves.1.fits
move-plain (move.all_off id) u w here there moves = reply_plain id Nothing moves.1 refl
move-plain (move.sheets_off id) u w here there moves = reply_plain id Nothing moves.1 refl
move-plain (move.failed r) u w here there moves = refusal_plain r moves.1

pub move-is-text : (m : Move) (u w : View) → CanBeTold u → CanBeTold w → Moves m u w → IsText (move_text m)
move-is-text m u w here there moves = texts_have_no_zero (message_data (message_of m)) (move-plain m u w here there moves)

-- the messages of moves are texts without a zero byte
abbrev pub AreTexts : List Move → Type 0
AreTexts [] = ⊤
AreTexts (m ∷ ms) = IsText (move_text m) × AreTexts ms

course-start : (ms : List Move) (u w : View) → Course ms u w → CanBeTold u
course-start _ _ _ (ends v here) = here
course-start _ _ _ (goes m ms u v w here moves later) = here

pub course-texts : (ms : List Move) (u w : View) → Course ms u w → AreTexts ms
course-texts _ _ _ (ends v here) = tt
course-texts _ _ _ (goes m ms u v w here moves later) =
    (move-is-text m u v here (course-start ms v w later) moves, course-texts ms v w later)
