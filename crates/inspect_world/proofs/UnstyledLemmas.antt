-- What a front end makes of a message does not turn on its sheets, but for the sheets themselves and for whether it refuses it.
use Rattle.std.proofs.Common.{◌≡◌, Bool, true, false, cond, ℕ, List, [], ◌∷◌, ◌++◌, Option, Some, None, refl, sym, ◌∙◌, ap, Result, Ok, Err}
use Rattle.std.specs.List.{list_all}
use Rattle.serde_json.specs.Data.{Data}
use Rattle.node_tree.specs.Nodes.{Nodes, none, Branch, alone}
use Rattle.node_tree.specs.Keys.{Spot, spot}
use Rattle.node_tree.specs.Seen.{Seen, seen_id}
use Rattle.cdp_messages.specs.declared.down.PauseData.{PauseData}
use Rattle.cdp_messages.specs.declared.down.ReplyBody.{ReplyBody}
use Rattle.client_views.specs.declared.effects.Effect.{Effect}
use Rattle.client_views.specs.declared.effects.Effect.TheVariants as effect
use Rattle.client_views.specs.Effects.{effect_of}
use Rattle.cdp_messages.specs.Events.{News, set_children, document_updated, attribute_modified, attribute_removed, text_modified}
use Rattle.cdp_messages.specs.Events.{count_updated, inserted, removed, paused, sheet_added, sheet_changed, sheet_removed}
use Rattle.client_views.specs.Moves.{shows, inserts, removes, counts, sets, drops, says, paused_nodes}
use Rattle.cdp_messages.specs.Replies.{Message, reply, fault, event, down_of, result_of}
use Rattle.dom_objects.specs.Told as told
use Rattle.dom_objects.specs.Told.{seen_nodes, seen_branch}
use Rattle.front_mirror.specs.declared.replies.Ask.{Ask}
use Rattle.front_mirror.specs.declared.replies.MatchedReply.{MatchedReply}
use Rattle.front_mirror.specs.declared.faults.FrontKind.{FrontKind}
use Rattle.front_mirror.specs.declared.faults.FrontKind.TheVariants.{NotMessage, UnknownNode, IdTaken, UnknownSheet}
use Rattle.front_mirror.specs.declared.sheets.KnownSheet.{KnownSheet}
use Rattle.front_mirror.specs.Sheets.{told_sheet, has_sheet, marked_old, without_sheet}
use Rattle.front_mirror.specs.Front.{FrontValue, reply_frame, take_frame, method_waiting, with_root, root_fault, matched_told, with_matched}
use Rattle.front_mirror.specs.Front.{with_effect}
use Rattle.front_mirror.specs.Front.{with_body, with_reply, with_fault, with_tree, ToldChange, told_change, at_spot, change_fault}
use Rattle.front_mirror.specs.Front.{with_change, halted, is_shown, told_sheets, with_news, with_message}
use Rattle.inspect_world.specs.Fits.{ask_of_frame, with_ask, join}
use Rattle.inspect_world.specs.FreshRuns.{Unstyled, unstyled}

-- the front with other sheets, and another count of messages
abbrev restyled : FrontValue → List KnownSheet → ℕ → FrontValue
restyled v sheets taken = record {
  tree = v.tree;
  sheets = sheets;
  asks = v.asks;
  replies = v.replies;
  pauses = v.pauses;
  matched = v.matched;
  taken = taken;
}

-- two results that are taken
both-ok : (x y v1 w1 : FrontValue) → unstyled x ≡ unstyled y → ◌≡◌ {A = Result FrontValue FrontKind} (Ok x) (Ok v1)
    → ◌≡◌ {A = Result FrontValue FrontKind} (Ok y) (Ok w1)
    → unstyled v1 ≡ unstyled w1
both-ok x y v1 w1 same e f =
    let p : x ≡ v1 = cc e in
    let q : y ≡ w1 = cc f in
    sym (ap unstyled p) ∙ same ∙ ap unstyled q

-- one that is refused is none
not-ok : {P : Type 0} (kind : FrontKind) (w : FrontValue) → ◌≡◌ {A = Result FrontValue FrontKind} (Err kind) (Ok w) → P
not-ok kind w e = absurd cc

module _ (v : FrontValue) (ss : List KnownSheet) (t : ℕ) (v1 w1 : FrontValue) where
  same-root : (id : ℕ) (frame : List ℕ) (found : List MatchedReply) (root : Branch told.Told) (o : Option FrontKind)
      → with_root (with_matched v found) (reply_frame id frame) root o ≡ Ok v1
      → with_root (with_matched (restyled v ss t) found) (reply_frame id frame) root o ≡ Ok w1 → unstyled v1 ≡ unstyled w1
  same-root id frame found root None e f = both-ok _ _ v1 w1 refl e f
  same-root id frame found root (Some kind) e f = not-ok kind v1 e

  same-effect : (id : ℕ) (frame : List ℕ) (found : List MatchedReply) (x : Effect)
      → with_effect (with_matched v found) (reply_frame id frame) x ≡ Ok v1
      → with_effect (with_matched (restyled v ss t) found) (reply_frame id frame) x ≡ Ok w1 → unstyled v1 ≡ unstyled w1
  same-effect id frame found (effect.Document tree) e f = same-root id frame found tree (root_fault tree) e f
  same-effect id frame found (effect.SheetText text) e f = both-ok _ _ v1 w1 refl e f
  same-effect id frame found effect.AllOff e f = both-ok _ _ v1 w1 refl e f
  same-effect id frame found effect.SheetsOff e f = both-ok _ _ v1 w1 refl e f
  same-effect id frame found effect.NothingElse e f = both-ok _ _ v1 w1 refl e f

  same-body : (id : ℕ) (frame method : List ℕ) (o : Option ReplyBody) → with_body v (reply_frame id frame) method o ≡ Ok v1
      → with_body (restyled v ss t) (reply_frame id frame) method o ≡ Ok w1
      → unstyled v1 ≡ unstyled w1
  same-body id frame method None e f = not-ok NotMessage v1 e
  same-body id frame method (Some body) e f = same-effect id frame (matched_told id body) (effect_of method body) e f

  same-reply : (id : ℕ) (frame : List ℕ) (result : Data) (o : Option (List ℕ)) → with_reply v (reply_frame id frame) result o ≡ Ok v1
      → with_reply (restyled v ss t) (reply_frame id frame) result o ≡ Ok w1
      → unstyled v1 ≡ unstyled w1
  same-reply id frame result None e f = not-ok NotMessage v1 e
  same-reply id frame result (Some method) e f = same-body id frame method (result_of method result) e f

  same-fault : (id : ℕ) (frame : List ℕ) (o : Option (List ℕ)) → with_fault v (reply_frame id frame) o ≡ Ok v1
      → with_fault (restyled v ss t) (reply_frame id frame) o ≡ Ok w1 → unstyled v1 ≡ unstyled w1
  same-fault id frame None e f = not-ok NotMessage v1 e
  same-fault id frame (Some method) e f = both-ok _ _ v1 w1 refl e f

  same-tree : (tree : Nodes Seen) (o : Option FrontKind) → with_tree v tree o ≡ Ok v1 → with_tree (restyled v ss t) tree o ≡ Ok w1
      → unstyled v1 ≡ unstyled w1
  same-tree tree None e f = both-ok _ _ v1 w1 refl e f
  same-tree tree (Some kind) e f = not-ok kind v1 e

  same-spot : (c : ToldChange) (o : Option (Spot Seen)) → at_spot v c o ≡ Ok v1 → at_spot (restyled v ss t) c o ≡ Ok w1
      → unstyled v1 ≡ unstyled w1
  same-spot c None e f = not-ok UnknownNode v1 e
  same-spot c (Some s) e f = same-tree _ (change_fault v.tree c s) e f

  same-change : (c : ToldChange) → with_change v c ≡ Ok v1 → with_change (restyled v ss t) c ≡ Ok w1 → unstyled v1 ≡ unstyled w1
  same-change c e f = same-spot c (spot seen_id c.node 0 v.tree) e f

  same-pause : (why : PauseData) (shown : Bool)
      → ◌≡◌ {A = Result FrontValue FrontKind} (cond shown (Ok (halted v why)) (Err UnknownNode)) (Ok v1)
      → ◌≡◌ {A = Result FrontValue FrontKind} (cond shown (Ok (halted (restyled v ss t) why)) (Err UnknownNode)) (Ok w1)
      → unstyled v1 ≡ unstyled w1
  same-pause why true e f = both-ok _ _ v1 w1 refl e f
  same-pause why false e f = not-ok UnknownNode v1 e

  same-added : (b c : Bool) (ks ls : List KnownSheet)
      → ◌≡◌ {A = Result FrontValue FrontKind} (cond b (Err IdTaken) (Ok (told_sheets v ks))) (Ok v1)
      → ◌≡◌ {A = Result FrontValue FrontKind} (cond c (Err IdTaken) (Ok (told_sheets (restyled v ss t) ls))) (Ok w1)
      → unstyled v1 ≡ unstyled w1
  same-added true c ks ls e f = not-ok IdTaken v1 e
  same-added false true ks ls e f = not-ok IdTaken w1 f
  same-added false false ks ls e f = both-ok _ _ v1 w1 refl e f

  same-sheet : (b c : Bool) (ks ls : List KnownSheet)
      → ◌≡◌ {A = Result FrontValue FrontKind} (cond b (Ok (told_sheets v ks)) (Err UnknownSheet)) (Ok v1)
      → ◌≡◌ {A = Result FrontValue FrontKind} (cond c (Ok (told_sheets (restyled v ss t) ls)) (Err UnknownSheet)) (Ok w1)
      → unstyled v1 ≡ unstyled w1
  same-sheet false c ks ls e f = not-ok UnknownSheet v1 e
  same-sheet true false ks ls e f = not-ok UnknownSheet w1 f
  same-sheet true true ks ls e f = both-ok _ _ v1 w1 refl e f

  same-news : (n : News) → with_news v n ≡ Ok v1 → with_news (restyled v ss t) n ≡ Ok w1 → unstyled v1 ≡ unstyled w1
  same-news (set_children parent nodes) e f = same-change (told_change parent (shows (seen_nodes nodes)) nodes) e f
  same-news document_updated e f = both-ok _ _ v1 w1 refl e f
  same-news (attribute_modified id name value) e f = same-change (told_change id (sets name value) none) e f
  same-news (attribute_removed id name) e f = same-change (told_change id (drops name) none) e f
  same-news (text_modified id value) e f = same-change (told_change id (says value) none) e f
  same-news (count_updated id count) e f = same-change (told_change id (counts count) none) e f
  same-news (inserted parent previous b) e f = same-change (told_change parent (inserts previous (seen_branch b)) (alone b)) e f
  same-news (removed parent id) e f = same-change (told_change parent (removes id) none) e f
  same-news (sheet_added header) e f =
      same-added (has_sheet header.sheet v.sheets) (has_sheet header.sheet ss) (v.sheets ++ told_sheet header ∷ [])
      (ss ++ told_sheet header ∷ []) e f
  same-news (sheet_changed number) e f = same-sheet (has_sheet number v.sheets) (has_sheet number ss) (marked_old number v.sheets)
      (marked_old number ss) e f
  same-news (sheet_removed number) e f = same-sheet (has_sheet number v.sheets) (has_sheet number ss) (without_sheet number v.sheets)
      (without_sheet number ss) e f
  same-news (paused why) e f = same-pause why (list_all (is_shown v.tree) (paused_nodes why)) e f

  same-message : (frame : List ℕ) (o : Option Message) → with_message v frame o ≡ Ok v1 → with_message (restyled v ss t) frame o ≡ Ok w1
      → unstyled v1 ≡ unstyled w1
  same-message frame None e f = not-ok NotMessage v1 e
  same-message frame (Some (event n)) e f = same-news n e f
  same-message frame (Some (reply id result)) e f = same-reply id frame result (method_waiting id v.asks) e f
  same-message frame (Some (fault None code text)) e f = both-ok _ _ v1 w1 refl e f
  same-message frame (Some (fault (Some id) code text)) e f = same-fault id frame (method_waiting id v.asks) e f

-- fronts that show the same, and both take a message, show the same then
pub unstyled-takes : (v w v1 w1 : FrontValue) (frame : List ℕ) → unstyled v ≡ unstyled w → take_frame v frame ≡ Ok v1
    → take_frame w frame ≡ Ok w1 → unstyled v1 ≡ unstyled w1
unstyled-takes v w v1 w1 frame same e f =
    let is : restyled v w.sheets w.taken ≡ w =
    λ i. record {
      tree = (same i).tree;
      sheets = w.sheets;
      asks = (same i).asks;
      replies = (same i).replies;
      pauses = (same i).pauses;
      matched = (same i).matched;
      taken = w.taken;
    } in
    same-message v w.sheets w.taken v1 w1 frame (down_of frame) e (ap (λ x. take_frame x frame) is ∙ f)

unstyled-with_ask : (v w : FrontValue) (o : Option Ask) → unstyled v ≡ unstyled w → unstyled (with_ask v o) ≡ unstyled (with_ask w o)
unstyled-with_ask v w None same = same
unstyled-with_ask v w (Some ask) same = ap
    (λ (u : Unstyled). record {
      tree = u.tree;
      asks = u.asks ++ ask ∷ [];
      replies = u.replies;
      pauses = u.pauses;
      matched = u.matched;
    }) same

-- and so do those that send the same
pub unstyled-joins : (v w : FrontValue) (frame : List ℕ) → unstyled v ≡ unstyled w → unstyled (join v frame) ≡ unstyled (join w frame)
unstyled-joins v w frame same = unstyled-with_ask v w (ask_of_frame frame) same
