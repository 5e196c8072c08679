-- After a settle the numbers of what a front end shows are those of the page and of the messages.
use Rattle.std.proofs.Common.{◌≡◌, ℕ, suc, ◌+◌, Bool, true, false, not, cond, List}
use Rattle.std.proofs.Common.{[], ◌∷◌, ◌++◌, length, map, Option, Some, None, Result, Ok, Err}
use Rattle.std.proofs.Common.{refl, sym, ap, ◌∙◌, subst}
use Rattle.std.specs.Prelude.{⊤}
use Rattle.std.specs.List.{list_all}
use Rattle.std.proofs.lemmas.List.{length-map}
use Rattle.node_tree.specs.Nodes.{Nodes, none, Branch, alone}
use Rattle.node_tree.specs.Keys.{Spot, spot}
use Rattle.node_tree.specs.Seen.{Seen, seen_id}
use Rattle.serde_json.specs.Data.{Data}
use Rattle.cdp_json.specs.Lookups.{then_ok}
use Rattle.cdp_messages.specs.declared.down.ReplyBody.{ReplyBody}
use Rattle.cdp_messages.specs.Events.{News, set_children, document_updated, attribute_modified, attribute_removed, text_modified}
use Rattle.cdp_messages.specs.Events.{count_updated, inserted, removed, paused, sheet_added, sheet_changed, sheet_removed}
use Rattle.cdp_messages.specs.Replies.{Message, reply, fault, event, down_of, result_of}
use Rattle.client_views.specs.Effects.{effect_of}
use Rattle.client_views.specs.Moves.{shows, inserts, removes, counts, sets, drops, says, paused_nodes}
use Rattle.client_views.specs.Views.{ShownSheet}
use Rattle.client_views.specs.declared.effects.Effect.{Effect}
use Rattle.client_views.specs.declared.effects.Effect.TheVariants as effect
use Rattle.dom_objects.specs.Told.{seen_nodes, seen_branch}
use Rattle.dom_objects.specs.Told as told
use Rattle.front_mirror.specs.declared.replies.Kept.{Kept}
use Rattle.front_mirror.specs.declared.faults.FrontKind.{FrontKind}
use Rattle.front_mirror.specs.declared.faults.FrontKind.TheVariants.{NotMessage, UnknownNode, IdTaken, UnknownSheet}
use Rattle.front_mirror.specs.declared.sheets.KnownSheet.{KnownSheet}
use Rattle.front_mirror.specs.Sheets.{told_sheet, has_sheet, marked_old, without_sheet}
use Rattle.front_mirror.specs.Laws.{KnowsSheets}
use Rattle.front_mirror.specs.Front.{FrontValue, reply_frame, first_value, take_frame}
use Rattle.front_mirror.specs.Front.{method_waiting, fetched_sheet, reply_kept, kept_reply}
use Rattle.front_mirror.specs.Front.{unless_fetch, refused, with_root}
use Rattle.front_mirror.specs.Front.{root_fault, matched_told, with_matched, with_effect, with_body}
use Rattle.front_mirror.specs.Front.{with_reply, with_fault, with_tree, ToldChange, told_change, at_spot, change_fault, with_change, halted}
use Rattle.front_mirror.specs.Front.{is_shown, told_sheets, with_news, with_message, seen_pause}
use Rattle.session_runs.specs.Fold.{folded, asks_joined}
use Rattle.inspect_world.specs.Fits.{join}
use Rattle.inspect_world.specs.ShownReplies.{reply_shown}
use Rattle.session_runs.specs.World.{settled}
use Rattle.inspect_world.specs.World.{World}
use Rattle.inspect_world.specs.RunStates.{RunState, run_step}
use Rattle.inspect_world.specs.ShownPauses.{pauses_in}
use Rattle.inspect_world.specs.ShownReplies.{replies_in}
use Rattle.inspect_world.proofs.FetchesFit.{ShownThen}
use Rattle.inspect_world.proofs.Replies.{replies-joined}
use Rattle.back_end.specs.States.{view_of}
use Rattle.inspect_replay.specs.Tallies.{how_many, is_good, is_bad, is_ok, is_error, is_reply, known_in, tally_of, tally_in}
use Rattle.front_mirror.specs.Panels.{one_where}

-- ---- sheets

-- the front end knows as many as there are
pub known-long : (ks : List KnownSheet) (ss : List ShownSheet) → KnowsSheets ks ss → length ks ≡ length ss
known-long [] [] h = refl
known-long [] (s ∷ ss) h = absurd h
known-long (k ∷ ks) [] h = absurd h
known-long (k ∷ ks) (s ∷ ss) h = ap suc (known-long ks ss h.1)

-- ---- replies are marked as their frames say

-- each reply that is kept is good just where its frame is an Ok reply
abbrev pub AreMarked : List Kept → Type 0
AreMarked [] = ⊤
AreMarked (k ∷ ks) = (k.good ≡ is_ok (reply_shown k)) × AreMarked ks

marked-append : (xs ys : List Kept) → AreMarked xs → AreMarked ys → AreMarked (xs ++ ys)
marked-append [] ys a b = b
marked-append (x ∷ xs) ys a b = (a.0, marked-append xs ys a.1 b)

pub good-many : (ks : List Kept) → AreMarked ks → how_many is_good ks ≡ how_many is_ok (map reply_shown ks)
good-many [] a = refl
good-many (k ∷ ks) a = λ i. one_where (a.0 i) + good-many ks a.1 i

pub bad-many : (ks : List Kept) → AreMarked ks → how_many is_bad ks ≡ how_many is_error (map reply_shown ks)
bad-many [] a = refl
bad-many (k ∷ ks) a = λ i. one_where (not (a.0 i)) + bad-many ks a.1 i

refuses : {P : Type 0} (kind : FrontKind) (w : FrontValue) → ◌≡◌ {A = Result FrontValue FrontKind} (Err kind) (Ok w) → P
refuses kind w e = absurd cc

unless-marked : (o : Option ℕ) (k : Kept) → k.good ≡ is_ok (reply_shown k) → AreMarked (unless_fetch o k)
unless-marked None k e = (e, tt)
unless-marked (Some sheet) k e = tt

-- a reply more
marked-like : (v : FrontValue) (id : ℕ) (frame : List ℕ) (good : Bool) (x w : FrontValue)
    → x.replies ≡ v.replies ++ kept_reply id v.asks frame good → good ≡ is_reply (down_of frame) → AreMarked v.replies
    → ◌≡◌ {A = Result FrontValue FrontKind} (Ok x) (Ok w) → AreMarked w.replies
marked-like v id frame good x w same is marked e =
    let like : x ≡ w = cc e in
    subst AreMarked (sym same ∙ ap (λ (y : FrontValue). y.replies) like)
    (marked-append v.replies (kept_reply id v.asks frame good) marked
    (unless-marked (fetched_sheet id v.asks) (reply_kept (Some id) (method_waiting id v.asks) frame good) is))

-- nothing is kept
marked-same : (v x w : FrontValue) → x.replies ≡ v.replies → AreMarked v.replies
    → ◌≡◌ {A = Result FrontValue FrontKind} (Ok x) (Ok w) → AreMarked w.replies
marked-same v x w same marked e =
    let like : x ≡ w = cc e in subst AreMarked (sym same ∙ ap (λ (y : FrontValue). y.replies) like) marked

marked-root : (v : FrontValue) (id : ℕ) (frame : List ℕ) (root : Branch told.Told) (o : Option FrontKind) (w : FrontValue)
    → true ≡ is_reply (down_of frame) → AreMarked v.replies → with_root v (reply_frame id frame) root o ≡ Ok w → AreMarked w.replies
marked-root v id frame root None w is marked e = marked-like v id frame true _ w refl is marked e
marked-root v id frame root (Some kind) w is marked e = refuses kind w e

marked-effect : (v : FrontValue) (id : ℕ) (frame : List ℕ) (x : Effect) (w : FrontValue) → true ≡ is_reply (down_of frame)
    → AreMarked v.replies → with_effect v (reply_frame id frame) x ≡ Ok w → AreMarked w.replies
marked-effect v id frame (effect.Document tree) w is marked e = marked-root v id frame tree (root_fault tree) w is marked e
marked-effect v id frame (effect.SheetText text) w is marked e = marked-like v id frame true _ w refl is marked e
marked-effect v id frame effect.AllOff w is marked e = marked-like v id frame true _ w refl is marked e
marked-effect v id frame effect.SheetsOff w is marked e = marked-like v id frame true _ w refl is marked e
marked-effect v id frame effect.NothingElse w is marked e = marked-like v id frame true _ w refl is marked e

marked-body : (v : FrontValue) (id : ℕ) (frame method : List ℕ) (o : Option ReplyBody) (w : FrontValue) → true ≡ is_reply (down_of frame)
    → AreMarked v.replies → with_body v (reply_frame id frame) method o ≡ Ok w → AreMarked w.replies
marked-body v id frame method None w is marked e = refuses NotMessage w e
marked-body v id frame method (Some body) w is marked e =
    marked-effect (with_matched v (matched_told id body)) id frame (effect_of method body) w is marked e

marked-reply : (v : FrontValue) (id : ℕ) (frame : List ℕ) (result : Data) (o : Option (List ℕ)) (w : FrontValue)
    → true ≡ is_reply (down_of frame) → AreMarked v.replies → with_reply v (reply_frame id frame) result o ≡ Ok w → AreMarked w.replies
marked-reply v id frame result None w is marked e = refuses NotMessage w e
marked-reply v id frame result (Some method) w is marked e = marked-body v id frame method (result_of method result) w is marked e

marked-fault : (v : FrontValue) (id : ℕ) (frame : List ℕ) (o : Option (List ℕ)) (w : FrontValue) → false ≡ is_reply (down_of frame)
    → AreMarked v.replies → with_fault v (reply_frame id frame) o ≡ Ok w → AreMarked w.replies
marked-fault v id frame None w is marked e = refuses NotMessage w e
marked-fault v id frame (Some method) w is marked e = marked-like v id frame false _ w refl is marked e

marked-tree : (v : FrontValue) (tree : Nodes Seen) (o : Option FrontKind) (w : FrontValue) → AreMarked v.replies
    → with_tree v tree o ≡ Ok w → AreMarked w.replies
marked-tree v tree None w marked e = marked-same v _ w refl marked e
marked-tree v tree (Some kind) w marked e = refuses kind w e

marked-spot : (v : FrontValue) (t : ToldChange) (o : Option (Spot Seen)) (w : FrontValue) → AreMarked v.replies → at_spot v t o ≡ Ok w
    → AreMarked w.replies
marked-spot v t None w marked e = refuses UnknownNode w e
marked-spot v t (Some s) w marked e = marked-tree v _ (change_fault v.tree t s) w marked e

marked-change : (v : FrontValue) (t : ToldChange) (w : FrontValue) → AreMarked v.replies → with_change v t ≡ Ok w → AreMarked w.replies
marked-change v t w marked e = marked-spot v t (spot seen_id t.node 0 v.tree) w marked e

marked-where : (b : Bool) (kind : FrontKind) (v x w : FrontValue) → x.replies ≡ v.replies → AreMarked v.replies
    → cond {A = Result FrontValue FrontKind} b (Ok x) (Err kind) ≡ Ok w → AreMarked w.replies
marked-where true kind v x w same marked e = marked-same v x w same marked e
marked-where false kind v x w same marked e = refuses kind w e

marked-unless : (b : Bool) (kind : FrontKind) (v x w : FrontValue) → x.replies ≡ v.replies → AreMarked v.replies
    → cond {A = Result FrontValue FrontKind} b (Err kind) (Ok x) ≡ Ok w → AreMarked w.replies
marked-unless true kind v x w same marked e = refuses kind w e
marked-unless false kind v x w same marked e = marked-same v x w same marked e

marked-news : (v : FrontValue) (n : News) (w : FrontValue) → AreMarked v.replies → with_news v n ≡ Ok w → AreMarked w.replies
marked-news v (set_children parent nodes) w marked e = marked-change v (told_change parent (shows (seen_nodes nodes)) nodes) w marked e
marked-news v (inserted parent previous b) w marked e =
    marked-change v (told_change parent (inserts previous (seen_branch b)) (alone b)) w marked e
marked-news v (removed parent id) w marked e = marked-change v (told_change parent (removes id) none) w marked e
marked-news v (count_updated id count) w marked e = marked-change v (told_change id (counts count) none) w marked e
marked-news v (attribute_modified id name value) w marked e = marked-change v (told_change id (sets name value) none) w marked e
marked-news v (attribute_removed id name) w marked e = marked-change v (told_change id (drops name) none) w marked e
marked-news v (text_modified id value) w marked e = marked-change v (told_change id (says value) none) w marked e
marked-news v document_updated w marked e = marked-same v _ w refl marked e
marked-news v (paused why) w marked e =
    marked-where (list_all (is_shown v.tree) (paused_nodes why)) UnknownNode v (halted v why) w refl marked e
marked-news v (sheet_added header) w marked e =
    marked-unless (has_sheet header.sheet v.sheets) IdTaken v (told_sheets v (v.sheets ++ told_sheet header ∷ [])) w refl marked e
marked-news v (sheet_changed number) w marked e =
    marked-where (has_sheet number v.sheets) UnknownSheet v (told_sheets v (marked_old number v.sheets)) w refl marked e
marked-news v (sheet_removed number) w marked e =
    marked-where (has_sheet number v.sheets) UnknownSheet v (told_sheets v (without_sheet number v.sheets)) w refl marked e

marked-message : (v : FrontValue) (frame : List ℕ) (o : Option Message) (w : FrontValue) → down_of frame ≡ o → AreMarked v.replies
    → with_message v frame o ≡ Ok w → AreMarked w.replies
marked-message v frame None w is marked e = refuses NotMessage w e
marked-message v frame (Some (event n)) w is marked e = marked-news v n w marked e
marked-message v frame (Some (reply id result)) w is marked e =
    marked-reply v id frame result (method_waiting id v.asks) w (ap is_reply (sym is)) marked e
marked-message v frame (Some (fault None code text)) w is marked e =
    let like : refused v frame ≡ w = cc e in
    subst AreMarked (ap (λ (y : FrontValue). y.replies) like)
    (marked-append v.replies (reply_kept None None frame false ∷ []) marked (ap is_reply (sym is), tt))
marked-message v frame (Some (fault (Some id) code text)) w is marked e =
    marked-fault v id frame (method_waiting id v.asks) w (ap is_reply (sym is)) marked e

-- all of some frames
marked-folded : (frames : List (List ℕ)) (v w : FrontValue) → AreMarked v.replies → folded take_frame v frames ≡ Ok w → AreMarked w.replies
marked-folded [] v w marked e = marked-same v v w refl marked e
marked-folded (frame ∷ frames) v w marked e =
    (elim (take_frame v frame) as (λ (r : Result FrontValue FrontKind). take_frame v frame ≡ r
    → then_ok r (λ next. folded take_frame next frames) ≡ Ok w → AreMarked w.replies) [
      | Ok next ↦ λ is rest. marked-folded frames next w (marked-message v frame (down_of frame) next refl marked is) rest
      | Err kind ↦ λ is rest. refuses kind w rest
    ]) refl e

-- a front end that began with no reply
pub marked-all : (sent_frames frames : List (List ℕ)) (w : FrontValue)
    → folded take_frame (asks_joined join (first_value []) sent_frames) frames ≡ Ok w → AreMarked w.replies
marked-all sent_frames frames w e =
    marked-folded frames (asks_joined join (first_value []) sent_frames) w
    (subst AreMarked (sym (replies-joined (first_value []) sent_frames)) tt) e

-- ---- the numbers

-- after a settle the numbers are those of the run
pub tally-told : (w : World RunState) (v : FrontValue) → ShownThen w v → AreMarked v.replies → tally_of v ≡ tally_in (settled run_step w)
tally-told w v s marked =
    let sheets : length v.sheets ≡ length (view_of (settled run_step w).state.back).sheets
    = known-long v.sheets (view_of (settled run_step w).state.back).sheets s.has.sheets in
    let replies : how_many is_good v.replies ≡ how_many is_ok (replies_in (settled run_step w).down.given)
    = good-many v.replies marked ∙ ap (how_many is_ok) s.told in
    let errors : how_many is_bad v.replies ≡ how_many is_error (replies_in (settled run_step w).down.given)
    = bad-many v.replies marked ∙ ap (how_many is_error) s.told in
    let pauses : length v.pauses ≡ length (pauses_in (settled run_step w).down.given)
    = ap length s.pauses ∙ length-map (pauses_in (settled run_step w).down.given) seen_pause in
    λ i. record { known = known_in (s.has.tree i); sheets = sheets i; replies = replies i; errors = errors i; pauses = pauses i }
