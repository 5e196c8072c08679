-- The replies that a front end keeps are those among the frames that it took.
use Rattle.std.specs.List.{All, list_all}
use Rattle.cdp_messages.specs.declared.down.PauseData.{PauseData}
use Rattle.client_views.specs.Moves.{shows, inserts, removes, counts, sets, drops, says, paused_nodes}
use Rattle.dom_objects.specs.Told.{seen_nodes, seen_branch}
use Rattle.std.proofs.Common.{◌≡◌, Bool, true, false, cond, ℕ, List, [], ◌∷◌, ◌++◌, map, Option, Some, None, refl, sym, ◌∙◌, ap, subst}
use Rattle.std.proofs.Common.{append-nil, append_assoc, Result, Ok, Err}
use Rattle.std.proofs.lemmas.List.{map-append}
use Rattle.serde_json.specs.Data.{Data}
use Rattle.node_tree.specs.Nodes.{Nodes, none, Branch, alone}
use Rattle.node_tree.specs.Keys.{Spot, spot}
use Rattle.node_tree.specs.Seen.{Seen, seen_id}
use Rattle.cdp_messages.specs.declared.down.ReplyBody.{ReplyBody}
use Rattle.client_views.specs.Effects.{effect_of}
use Rattle.client_views.specs.declared.effects.Effect.{Effect}
use Rattle.client_views.specs.declared.effects.Effect.TheVariants as effect
use Rattle.cdp_messages.specs.Events.{News, set_children, document_updated, attribute_modified, attribute_removed, text_modified}
use Rattle.cdp_messages.specs.Events.{count_updated, inserted, removed, paused, sheet_added, sheet_changed, sheet_removed}
use Rattle.cdp_messages.specs.Replies.{Message, reply, fault, event, down_of, result_of}
use Rattle.dom_objects.specs.Told as told
use Rattle.front_mirror.specs.declared.replies.Ask.{Ask}
use Rattle.front_mirror.specs.declared.replies.Kept.{Kept}
use Rattle.front_mirror.specs.declared.faults.FrontKind.{FrontKind}
use Rattle.front_mirror.specs.declared.faults.FrontKind.TheVariants.{NotMessage, UnknownNode, IdTaken, UnknownSheet}
use Rattle.front_mirror.specs.declared.sheets.KnownSheet.{KnownSheet}
use Rattle.front_mirror.specs.Sheets.{told_sheet, has_sheet, marked_old, without_sheet}
use Rattle.front_mirror.specs.Front.{FrontValue, reply_frame, first_value, take_frame, method_waiting, asks_without, reply_kept, kept_reply}
use Rattle.front_mirror.specs.Front.{replied}
use Rattle.front_mirror.specs.Front.{refused, with_root, root_fault, matched_told, with_matched, with_effect, with_body, with_reply}
use Rattle.front_mirror.specs.Front.{with_fault, with_tree, ToldChange, told_change, at_spot, change_fault, with_change, halted, is_shown}
use Rattle.front_mirror.specs.Front.{told_sheets, with_news, with_message}
use Rattle.cdp_json.specs.Lookups.{then_ok}
use Rattle.session_runs.specs.Fold.{folded, asks_joined}
use Rattle.inspect_world.specs.Fits.{join, with_ask, ask_of_frame, IsPlainFrame}
use Rattle.inspect_world.specs.ShownReplies.{ShownReply, reply_shown, replies_in_frame, replies_among}
use Rattle.inspect_world.proofs.PlainAsks.{ArePlain, kept-plain, without-plain, joined-plain}

-- the front has kept these replies more, and still none of the asks that wait is a fetch
record Keeps (v : FrontValue) (ts : List ShownReply) (w : FrontValue) : Type 0 where
  replies : map reply_shown w.replies ≡ map reply_shown v.replies ++ ts
  plain : ArePlain w.asks

refuses : {P : Type 0} (kind : FrontKind) (w : FrontValue) → ◌≡◌ {A = Result FrontValue FrontKind} (Err kind) (Ok w) → P
refuses kind w e = absurd cc

-- a reply more
keeps-like : (v : FrontValue) (id : ℕ) (frame : List ℕ) (good : Bool) (x w : FrontValue)
    → x.replies ≡ v.replies ++ kept_reply id v.asks frame good → x.asks ≡ asks_without id v.asks → ArePlain v.asks
    → ◌≡◌ {A = Result FrontValue FrontKind} (Ok x) (Ok w) → Keeps v (record { id = Some id; text = frame } ∷ []) w
keeps-like v id frame good x w same asks plain e =
    let is : x ≡ w = cc e in
    record {
      replies =
          ap (λ (y : FrontValue). map reply_shown y.replies) (sym is) ∙ ap (map reply_shown) same ∙ map-append reply_shown v.replies
          (kept_reply id v.asks frame good)
          ∙ ap (λ (ks : List Kept). map reply_shown v.replies ++ map reply_shown ks) (kept-plain id v.asks frame good plain);
      plain = subst ArePlain (sym asks ∙ ap (λ (y : FrontValue). y.asks) is) (without-plain id v.asks plain);
    }

keeps-replied : (v : FrontValue) (id : ℕ) (frame : List ℕ) (good : Bool) (tree : Nodes Seen) (w : FrontValue) → ArePlain v.asks
    → ◌≡◌ {A = Result FrontValue FrontKind} (Ok (replied v (reply_frame id frame) good tree)) (Ok w)
    → Keeps v (record { id = Some id; text = frame } ∷ []) w
keeps-replied v id frame good tree w plain e = keeps-like v id frame good (replied v (reply_frame id frame) good tree) w refl refl plain e

-- nothing is kept
keeps-none : (v x w : FrontValue) → x.replies ≡ v.replies → x.asks ≡ v.asks → ArePlain v.asks
    → ◌≡◌ {A = Result FrontValue FrontKind} (Ok x) (Ok w) → Keeps v [] w
keeps-none v x w same asks plain e =
    let is : x ≡ w = cc e in
    record {
      replies = ap (λ (y : FrontValue). map reply_shown y.replies) (sym is) ∙ ap (map reply_shown) same ∙ sym (append-nil
          (map reply_shown v.replies));
      plain = subst ArePlain (sym asks ∙ ap (λ (y : FrontValue). y.asks) is) plain;
    }

keeps-root : (v : FrontValue) (id : ℕ) (frame : List ℕ) (root : Branch told.Told) (o : Option FrontKind) (w : FrontValue) → ArePlain v.asks
    → with_root v (reply_frame id frame) root o ≡ Ok w → Keeps v (record { id = Some id; text = frame } ∷ []) w
keeps-root v id frame root None w plain e = keeps-replied v id frame _ _ w plain e
keeps-root v id frame root (Some kind) w plain e = refuses kind w e

keeps-effect : (v : FrontValue) (id : ℕ) (frame : List ℕ) (x : Effect) (w : FrontValue) → ArePlain v.asks
    → with_effect v (reply_frame id frame) x ≡ Ok w → Keeps v (record { id = Some id; text = frame } ∷ []) w
keeps-effect v id frame (effect.Document tree) w plain e = keeps-root v id frame tree (root_fault tree) w plain e
keeps-effect v id frame (effect.SheetText text) w plain e = keeps-like v id frame true _ w refl refl plain e
keeps-effect v id frame effect.AllOff w plain e = keeps-like v id frame true _ w refl refl plain e
keeps-effect v id frame effect.SheetsOff w plain e = keeps-like v id frame true _ w refl refl plain e
keeps-effect v id frame effect.NothingElse w plain e = keeps-replied v id frame _ _ w plain e

keeps-body : (v : FrontValue) (id : ℕ) (frame method : List ℕ) (o : Option ReplyBody) (w : FrontValue) → ArePlain v.asks
    → with_body v (reply_frame id frame) method o ≡ Ok w → Keeps v (record { id = Some id; text = frame } ∷ []) w
keeps-body v id frame method None w plain e = refuses NotMessage w e
keeps-body v id frame method (Some body) w plain e = keeps-more
    (keeps-effect (with_matched v (matched_told id body)) id frame (effect_of method body) w plain e)
  where
    keeps-more : {ts : List ShownReply} → Keeps (with_matched v (matched_told id body)) ts w → Keeps v ts w
    keeps-more k = record { replies = k.replies; plain = k.plain }

keeps-reply : (v : FrontValue) (id : ℕ) (frame : List ℕ) (result : Data) (o : Option (List ℕ)) (w : FrontValue) → ArePlain v.asks
    → with_reply v (reply_frame id frame) result o ≡ Ok w → Keeps v (record { id = Some id; text = frame } ∷ []) w
keeps-reply v id frame result None w plain e = refuses NotMessage w e
keeps-reply v id frame result (Some method) w plain e = keeps-body v id frame method (result_of method result) w plain e

keeps-fault : (v : FrontValue) (id : ℕ) (frame : List ℕ) (o : Option (List ℕ)) (w : FrontValue) → ArePlain v.asks
    → with_fault v (reply_frame id frame) o ≡ Ok w → Keeps v (record { id = Some id; text = frame } ∷ []) w
keeps-fault v id frame None w plain e = refuses NotMessage w e
keeps-fault v id frame (Some method) w plain e = keeps-replied v id frame _ _ w plain e

keeps-tree : (v : FrontValue) (tree : Nodes Seen) (o : Option FrontKind) (w : FrontValue) → ArePlain v.asks → with_tree v tree o ≡ Ok w
    → Keeps v [] w
keeps-tree v tree None w plain e = keeps-none v _ w refl refl plain e
keeps-tree v tree (Some kind) w plain e = refuses kind w e

keeps-spot : (v : FrontValue) (t : ToldChange) (o : Option (Spot Seen)) (w : FrontValue) → ArePlain v.asks → at_spot v t o ≡ Ok w
    → Keeps v [] w
keeps-spot v t None w plain e = refuses UnknownNode w e
keeps-spot v t (Some s) w plain e = keeps-tree v _ (change_fault v.tree t s) w plain e

keeps-change : (v : FrontValue) (t : ToldChange) (w : FrontValue) → ArePlain v.asks → with_change v t ≡ Ok w → Keeps v [] w
keeps-change v t w plain e = keeps-spot v t (spot seen_id t.node 0 v.tree) w plain e

keeps-pause : (v : FrontValue) (why : PauseData) (shown : Bool) (w : FrontValue) → ArePlain v.asks
    → ◌≡◌ {A = Result FrontValue FrontKind} (cond shown (Ok (halted v why)) (Err UnknownNode)) (Ok w) → Keeps v [] w
keeps-pause v why true w plain e = keeps-none v _ w refl refl plain e
keeps-pause v why false w plain e = refuses UnknownNode w e

keeps-sheet : (v : FrontValue) (known : Bool) (sheets : List KnownSheet) (w : FrontValue) → ArePlain v.asks
    → ◌≡◌ {A = Result FrontValue FrontKind} (cond known (Ok (told_sheets v sheets)) (Err UnknownSheet)) (Ok w) → Keeps v [] w
keeps-sheet v true sheets w plain e = keeps-none v _ w refl refl plain e
keeps-sheet v false sheets w plain e = refuses UnknownSheet w e

keeps-added : (v : FrontValue) (known : Bool) (sheets : List KnownSheet) (w : FrontValue) → ArePlain v.asks
    → ◌≡◌ {A = Result FrontValue FrontKind} (cond known (Err IdTaken) (Ok (told_sheets v sheets))) (Ok w) → Keeps v [] w
keeps-added v true sheets w plain e = refuses IdTaken w e
keeps-added v false sheets w plain e = keeps-none v _ w refl refl plain e

keeps-news : (v : FrontValue) (n : News) (w : FrontValue) → ArePlain v.asks → with_news v n ≡ Ok w → Keeps v [] w
keeps-news v (set_children parent nodes) w plain e = keeps-change v (told_change parent (shows (seen_nodes nodes)) nodes) w plain e
keeps-news v document_updated w plain e = keeps-none v _ w refl refl plain e
keeps-news v (attribute_modified id name value) w plain e = keeps-change v (told_change id (sets name value) none) w plain e
keeps-news v (attribute_removed id name) w plain e = keeps-change v (told_change id (drops name) none) w plain e
keeps-news v (text_modified id value) w plain e = keeps-change v (told_change id (says value) none) w plain e
keeps-news v (count_updated id count) w plain e = keeps-change v (told_change id (counts count) none) w plain e
keeps-news v (inserted parent previous b) w plain e = keeps-change v
    (told_change parent (inserts previous (seen_branch b)) (alone b)) w plain e
keeps-news v (removed parent id) w plain e = keeps-change v (told_change parent (removes id) none) w plain e
keeps-news v (sheet_added header) w plain e = keeps-added v (has_sheet header.sheet v.sheets) (v.sheets ++ told_sheet header ∷ []) w plain e
keeps-news v (sheet_changed number) w plain e = keeps-sheet v (has_sheet number v.sheets) (marked_old number v.sheets) w plain e
keeps-news v (sheet_removed number) w plain e = keeps-sheet v (has_sheet number v.sheets) (without_sheet number v.sheets) w plain e
keeps-news v (paused why) w plain e = keeps-pause v why (list_all (is_shown v.tree) (paused_nodes why)) w plain e

keeps-message : (v : FrontValue) (frame : List ℕ) (o : Option Message) (w : FrontValue) → ArePlain v.asks → with_message v frame o ≡ Ok w
    → Keeps v (replies_in_frame frame o) w
keeps-message v frame None w plain e = refuses NotMessage w e
keeps-message v frame (Some (event n)) w plain e = keeps-news v n w plain e
keeps-message v frame (Some (reply id result)) w plain e = keeps-reply v id frame result (method_waiting id v.asks) w plain e
keeps-message v frame (Some (fault None code text)) w plain e =
    let same : refused v frame ≡ w = cc e in
    record {
      replies = ap (λ (x : FrontValue). map reply_shown x.replies) (sym same) ∙ map-append reply_shown v.replies
          (reply_kept None None frame false ∷ []);
      plain = subst ArePlain (ap (λ (x : FrontValue). x.asks) same) plain;
    }
keeps-message v frame (Some (fault (Some id) code text)) w plain e = keeps-fault v id frame (method_waiting id v.asks) w plain e

-- all of some frames
keeps-folded : (frames : List (List ℕ)) (v w : FrontValue) → ArePlain v.asks → folded take_frame v frames ≡ Ok w
    → Keeps v (replies_among frames) w
keeps-folded [] v w plain e = keeps-none v v w refl refl plain e
keeps-folded (frame ∷ frames) v w plain e =
    (elim (take_frame v frame) as (λ (r : Result FrontValue FrontKind). take_frame v frame ≡ r
    → then_ok r (λ next. folded take_frame next frames) ≡ Ok w → Keeps v (replies_in_frame frame (down_of frame) ++
    replies_among frames) w) [
      | Ok next ↦ λ is rest.
          let one : Keeps v (replies_in_frame frame (down_of frame)) next = keeps-message v frame (down_of frame) next plain is in
          let later : Keeps next (replies_among frames) w = keeps-folded frames next w one.plain rest in
          record {
            replies =
                later.replies ∙ ap (λ ts. ts ++ replies_among frames) one.replies
                ∙ append_assoc (map reply_shown v.replies) (replies_in_frame frame (down_of frame)) (replies_among frames);
            plain = later.plain;
          }
      | Err kind ↦ λ is rest. refuses kind w rest
    ]) refl e

pub replies-folded : (frames : List (List ℕ)) (v w : FrontValue) → ArePlain v.asks → folded take_frame v frames ≡ Ok w
    → map reply_shown w.replies ≡ map reply_shown v.replies ++ replies_among frames
replies-folded frames v w plain e = (keeps-folded frames v w plain e).replies

-- asks that wait are no replies
replies-with_ask : (v : FrontValue) (o : Option Ask) → (with_ask v o).replies ≡ v.replies
replies-with_ask v None = refl
replies-with_ask v (Some ask) = refl

pub replies-joined : (v : FrontValue) (frames : List (List ℕ)) → (asks_joined join v frames).replies ≡ v.replies
replies-joined v [] = refl
replies-joined v (frame ∷ frames) = replies-joined (join v frame) frames ∙ replies-with_ask v (ask_of_frame frame)

-- a front end that began with no reply, and sent no fetch, has those among the frames
pub replies-of : (sent_frames frames : List (List ℕ)) (w : FrontValue) → All IsPlainFrame sent_frames
    → folded take_frame (asks_joined join (first_value []) sent_frames) frames ≡ Ok w
    → map reply_shown w.replies ≡ replies_among frames
replies-of sent_frames frames w all e =
    replies-folded frames (asks_joined join (first_value []) sent_frames) w (joined-plain (first_value []) sent_frames all tt) e
    ∙ ap (λ ks. map reply_shown ks ++ replies_among frames) (replies-joined (first_value []) sent_frames)

pub replies_among-append : (first second : List (List ℕ)) → replies_among (first ++ second) ≡ replies_among first ++ replies_among second
replies_among-append [] second = refl
replies_among-append (frame ∷ first) second =
    ap (λ ts. replies_in_frame frame (down_of frame) ++ ts) (replies_among-append first second)
    ∙ sym (append_assoc (replies_in_frame frame (down_of frame)) (replies_among first) (replies_among second))
