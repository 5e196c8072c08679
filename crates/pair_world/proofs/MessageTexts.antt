-- The message of each move of a course is read again as what it is.
use Rattle.std.proofs.Common.{◌≡◌, ◌≤◌, ℕ, zero, suc, Bool, true, false, cond, List, [], ◌∷◌, ◌++◌, Option, Some, None, refl, ap}
use Rattle.std.proofs.Common.{subst}
use Rattle.std.proofs.Common.{arith}
use Rattle.std.specs.Prelude.{IsUtf8, option_and_then}
use Rattle.std.specs.Str.{is_utf8}
use Rattle.std.proofs.lemmas.Str.{IsUtf8-from_is_utf8}
use Rattle.serde_json.specs.Data.{Data, depth}
use Rattle.serde_json.specs.Read.{read, max_depth}
use Rattle.serde_json.specs.Written.{compact_text}
use Rattle.cdp_json.specs.Kinds.{is_counted, holds_of_some}
use Rattle.cdp_json.specs.Plain.{is_plain, HasUtf8}
use Rattle.cdp_json.proofs.Options.{both, both_parts}
use Rattle.cdp_json.proofs.ReadBack.{read-compact_text}
use Rattle.cdp_json.proofs.ReadTexts.{read_utf8}
use Rattle.node_tree.specs.Nodes.{Nodes, alone}
use Rattle.node_tree.specs.Seen.{Seen}
use Rattle.node_tree.specs.Levels.{most_told_root}
use Rattle.dom_objects.specs.Told.{told_branch}
use Rattle.dom_objects.specs.Tellable.{suits_tree}
use Rattle.dom_objects.proofs.TellableLaws.{shown_trees_fit}
use Rattle.cdp_messages.specs.declared.command.Refused.{Refused}
use Rattle.cdp_messages.specs.declared.down.ReplyBody.{ReplyBody}
use Rattle.cdp_messages.specs.declared.down.ReplyBody.TheVariants.{Nothing, Root, SheetText}
use Rattle.cdp_messages.specs.declared.down.PauseData.{PauseData}
use Rattle.cdp_messages.specs.declared.down.PauseData.TheVariants as pause
use Rattle.cdp_messages.specs.Asked.{json_of}
use Rattle.cdp_messages.specs.Refusals.{code_of, refusal_words}
use Rattle.cdp_messages.specs.Events.{News, fits_news, document_updated, paused, sheet_added, sheet_changed, sheet_removed}
use Rattle.cdp_messages.specs.Replies.{Message, reply, fault, event, message_data, message_in, down_of}
use Rattle.cdp_messages.specs.Results.{body_data, fits_body, BodyHasUtf8, body_height}
use Rattle.cdp_messages.specs.Replies.{refusal_message, refused_text}
use Rattle.cdp_messages.proofs.Depths.{events_are_shallow}
use Rattle.cdp_messages.proofs.Results.{replies_are_shallow}
use Rattle.cdp_messages.proofs.Messages.{json_of-compact_text, reply_plain, refusal_plain, refusals_are_read}
use Rattle.cdp_messages.proofs.NewsLaws.{news_plain}
use Rattle.cdp_messages.proofs.TextsUtf8.{replies_are_utf8, events_are_utf8}
use Rattle.client_views.specs.Views.{View, AreSheets, sheet_header}
use Rattle.client_views.specs.Moves as move
use Rattle.client_views.specs.Moves.{Move, Moves, change_news, message_of, paused_nodes, target_nodes, AreShown, suits_view, IsTellable}
use Rattle.client_views.specs.Moves.{CanBeTold}
use Rattle.client_views.proofs.ToldChanges.{height-told}
use Rattle.client_views.proofs.ToldChanges.{CanTellNews, told_change_news, texts-told, shown_id}
use Rattle.client_views.proofs.ToldSheets.{last_is_sheet, shown_is_sheet, shown_utf8, added_news_fit, changed_news_fit, removed_news_fit}

-- a value whose text is read as it again
pub record ReadsAgain (d : Data) : Type 0 where
  pub plain : is_plain d ≡ true
  pub shallow : depth d ≤ max_depth
  pub utf8 : IsUtf8 (compact_text d)

pub read-again : (d : Data) → ReadsAgain d → json_of (compact_text d) ≡ Some d
read-again d r = json_of-compact_text d r.plain r.shallow r.utf8

-- its texts and names are UTF-8
pub texts-of : (d : Data) → ReadsAgain d → HasUtf8 d
texts-of d r = read_utf8 (compact_text d) d r.utf8 (read-compact_text d r.plain r.shallow)

-- ---- events

news-again : (n : News) → CanTellNews n → ReadsAgain (message_data (event n))
news-again n can = record {
  plain = news_plain n can.fits;
  shallow = events_are_shallow n can.levels;
  utf8 = events_are_utf8 n can.fits can.texts;
}

-- a pause names shown nodes
pause-tells : (why : PauseData) (u : Nodes Seen) → AreShown (paused_nodes why) u → suits_view u ≡ true → CanTellNews (paused why)
pause-tells why u are suits = record { fits = by-kind why are; texts = tt; levels = omega arith } where
  target : (id : ℕ) → AreShown (target_nodes id) u → is_counted id ≡ true
  target zero shown = refl
  target (suc n) shown = (shown_id (suc n) u shown.0 suits).counted

  by-kind : (why : PauseData) → AreShown (paused_nodes why) u → fits_news (paused why) ≡ true
  by-kind (pause.Subtree watched id true) shown =
      let a = shown_id watched u shown.0 suits in both (both (both a.counted a.positive) (both (target id shown.1) refl)) refl
  by-kind (pause.Subtree watched id false) shown =
      let a = shown_id watched u shown.0 suits in both (both (both a.counted a.positive) (both (target id shown.1) refl)) refl
  by-kind (pause.Attribute watched) shown = let a = shown_id watched u shown.0 suits in both (both (both a.counted a.positive) refl) refl
  by-kind (pause.Removed watched) shown = let a = shown_id watched u shown.0 suits in both (both (both a.counted a.positive) refl) refl

-- ---- replies

pub body-again : (id : ℕ) (body : ReplyBody) → is_counted id ≡ true → fits_body body ≡ true → BodyHasUtf8 body
    → body_height body ≤ most_told_root
    → ReadsAgain (message_data (reply id (body_data body)))
body-again id body counted fits texts levels = record {
  plain = reply_plain id body counted fits;
  shallow = replies_are_shallow id body levels;
  utf8 = replies_are_utf8 id body counted fits texts;
}

-- a text that is read as a message is UTF-8
message-utf8 : (bytes : List ℕ) (m : Message) → down_of bytes ≡ Some m → IsUtf8 bytes
message-utf8 bytes m e = at (is_utf8 bytes) refl e where
  at : (b : Bool) → is_utf8 bytes ≡ b → option_and_then message_in (cond b (read bytes) None) ≡ Some m → IsUtf8 bytes
  at true is h = IsUtf8-from_is_utf8 bytes is
  at false is h = absurd cc

pub refusal-again : (r : Refused) → holds_of_some is_counted r.id ≡ true → ReadsAgain (message_data (refusal_message r))
refusal-again r counted = record {
  plain = refusal_plain r counted;
  shallow = low r.id;
  utf8 = message-utf8 (refused_text r) (refusal_message r) (refusals_are_read r counted);
} where
  low : (id : Option ℕ) → depth (message_data (fault id (code_of r.why) (refusal_words r.why))) ≤ max_depth
  low None = omega arith
  low (Some id) = omega arith

-- ---- moves

pub move-again : (m : Move) (u w : View) → CanBeTold u → CanBeTold w → Moves m u w → ReadsAgain (message_data (message_of m))
move-again (move.change id c) u w here there moves =
    news-again (change_news id c) (told_change_news u.tree w.tree id c here.tree there.tree moves.0)
move-again move.clear u w here there moves = news-again document_updated (record { fits = refl; texts = tt; levels = omega arith })
move-again (move.met why) u w here there moves = news-again (paused why) (pause-tells why u.tree moves.1 here.tree.forms)
move-again (move.added s) u w here there moves =
    let are : AreSheets (u.sheets ++ s ∷ []) = subst AreSheets (ap (λ (x : View). x.sheets) moves.0) there.sheets in
    news-again (sheet_added (sheet_header s))
    (record { fits = added_news_fit s (last_is_sheet u.sheets s are) moves.1; texts = tt; levels = omega arith })
move-again (move.dropped n) u w here there moves =
    news-again (sheet_removed n)
    (record { fits = removed_news_fit n (shown_is_sheet n u.sheets here.sheets moves.1); texts = tt; levels = omega arith })
move-again (move.rewritten n text) u w here there moves =
    news-again (sheet_changed n)
    (record { fits = changed_news_fit n (shown_is_sheet n u.sheets here.sheets moves.1); texts = tt; levels = omega arith })
move-again (move.root id b) u w here there moves =
    let can : IsTellable (alone b) = subst IsTellable (ap (λ (x : View). x.tree) moves.0) there.tree in
    let suits : suits_tree true b ≡ true = (both_parts (suits_tree true b) true can.forms).0 in
    let levels : body_height (Root (told_branch 0 b)) ≤ most_told_root = rw (height-told 0 (alone b)) moves.2 in
    body-again id (Root (told_branch 0 b)) moves.1 (shown_trees_fit b suits) (texts-told 0 (alone b) can.texts) levels
move-again (move.texted id n text) u w here there moves =
    body-again id (SheetText text) moves.2 refl (shown_utf8 n text u.sheets here.sheets moves.1) (omega arith)
move-again (move.replied id body) u w here there moves =
    body-again id body moves.1.id_fits moves.1.fits moves.1.texts moves.1.levels
move-again (move.all_off id) u w here there moves = body-again id Nothing moves.1 refl tt (omega arith)
move-again (move.sheets_off id) u w here there moves = body-again id Nothing moves.1 refl tt (omega arith)
move-again (move.failed r) u w here there moves = refusal-again r moves.1
