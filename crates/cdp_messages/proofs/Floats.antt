-- What has no number that is not whole.
use Rattle.std.proofs.Common.{◌≡◌, ℕ, List, Bool, true, false, not, Option, Some, None, refl, IsTrue}
use Rattle.serde_json.specs.Data.{Data}
use Rattle.serde_json.specs.Written.{has_float}
use Rattle.cdp_messages.specs.Asked.{command_value, is_whole_where_there}
use Rattle.cdp_messages.specs.Events.{News, attribute_modified, attribute_removed, text_modified, count_updated, inserted, removed}
use Rattle.cdp_messages.specs.Events.{set_children, document_updated, sheet_added, sheet_changed, sheet_removed, paused, news_data}
use Rattle.cdp_messages.specs.declared.down.PauseData.TheVariants as pause
use Rattle.dom_objects.proofs.NodeFloats.{either, trees_free, tree_free}

not_true : (b : Bool) → IsTrue (not b) → b ≡ false
not_true true h = absurd cc
not_true false h = refl

pub has_float-command_value : (id : ℕ) (method : List ℕ) (params session : Option Data) → IsTrue (is_whole_where_there params)
    → IsTrue (is_whole_where_there session)
    → has_float (command_value id method params session) ≡ false
has_float-command_value id method None None p s = refl
has_float-command_value id method None (Some d) p s = either (not_true (has_float d) s) refl
has_float-command_value id method (Some d) None p s = either (not_true (has_float d) p) refl
has_float-command_value id method (Some d) (Some e) p s = either (not_true (has_float d) p) (either (not_true (has_float e) s) refl)

pub has_float-news : (n : News) → has_float (news_data n) ≡ false
has_float-news (attribute_modified id m value) = refl
has_float-news (attribute_removed id m) = refl
has_float-news (text_modified id value) = refl
has_float-news (count_updated id count) = refl
has_float-news (inserted parent previous b) = either (either (tree_free b) refl) refl
has_float-news (removed parent id) = refl
has_float-news (set_children parent nodes) = either (either (trees_free nodes) refl) refl
has_float-news document_updated = refl
has_float-news (sheet_added header) = refl
has_float-news (sheet_changed sheet) = refl
has_float-news (sheet_removed sheet) = refl
has_float-news (paused (pause.Subtree id target insertion)) = refl
has_float-news (paused (pause.Attribute id)) = refl
has_float-news (paused (pause.Removed id)) = refl
