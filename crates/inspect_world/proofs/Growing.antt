-- What a front end keeps for good of the messages that it takes: the pauses among them, and matched styles.
use Rattle.std.specs.List.{list_all, flat_map}
use Rattle.cdp_messages.specs.declared.down.PauseData.{PauseData}
use Rattle.client_views.specs.Moves.{shows, inserts, removes, counts, sets, drops, says, paused_nodes}
use Rattle.dom_objects.specs.Told.{seen_nodes, seen_branch}
use Rattle.std.proofs.Common.{◌≡◌, Bool, true, false, cond, ℕ, ◌==◌, is_some, List, [], ◌∷◌, ◌++◌, map, Option, Some, None, refl, sym, ◌∙◌}
use Rattle.std.proofs.Common.{ap, subst, append-nil, append_assoc, Result, Ok, Err}
use Rattle.std.proofs.lemmas.List.{map-append}
use Rattle.serde_json.specs.Data.{Data}
use Rattle.node_tree.specs.Nodes.{Nodes, none, Branch, alone}
use Rattle.node_tree.specs.Keys.{Spot, spot}
use Rattle.node_tree.specs.Seen.{Seen, seen_id}
use Rattle.cdp_messages.specs.declared.down.ReplyBody.{ReplyBody}
use Rattle.client_views.specs.Effects.{effect_of}
use Rattle.client_views.specs.declared.effects.Effect.{Effect}
use Rattle.client_views.specs.declared.effects.Effect.TheVariants as effect
use Rattle.cdp_messages.specs.Events.{News, set_children, document_updated, attribute_modified, attribute_removed, text_modified}
use Rattle.cdp_messages.specs.Events.{count_updated, inserted, removed, paused, sheet_added, sheet_changed, sheet_removed}
use Rattle.cdp_messages.specs.Replies.{Message, reply, fault, event, down_of, result_of}
use Rattle.dom_objects.specs.Told as told
use Rattle.front_mirror.specs.declared.replies.Ask.{Ask}
use Rattle.front_mirror.specs.declared.replies.MatchedReply.{MatchedReply}
use Rattle.front_mirror.specs.declared.faults.FrontKind.{FrontKind}
use Rattle.front_mirror.specs.declared.faults.FrontKind.TheVariants.{NotMessage, UnknownNode, IdTaken, UnknownSheet}
use Rattle.front_mirror.specs.declared.sheets.KnownSheet.{KnownSheet}
use Rattle.front_mirror.specs.Sheets.{told_sheet, has_sheet, marked_old, without_sheet}
use Rattle.front_mirror.specs.Front.{FrontValue, reply_frame, first_value, take_frame, method_waiting, with_root, root_fault, matched_told}
use Rattle.front_mirror.specs.Front.{matched_in}
use Rattle.front_mirror.specs.Front.{with_matched, with_effect, with_body, with_reply, with_fault, with_tree, ToldChange, told_change}
use Rattle.front_mirror.specs.Front.{at_spot, change_fault, with_change, seen_pause, halted, is_shown, told_sheets, with_news, with_message}
use Rattle.cdp_json.specs.Lookups.{then_ok}
use Rattle.session_runs.specs.Fold.{folded, asks_joined}
use Rattle.inspect_world.specs.Fits.{join, with_ask, ask_of_frame}
use Rattle.inspect_world.specs.Links.{knows_styles}
use Rattle.inspect_world.specs.ShownPauses.{pause_told, pauses_of_message, pauses_in_frame}

-- the front has kept these pauses more, and perhaps some matched styles
pub record Grows (v : FrontValue) (ps : List PauseData) (w : FrontValue) : Type 0 where
  pub pauses : w.pauses ≡ v.pauses ++ map seen_pause ps
  pub more : List MatchedReply
  pub matched : w.matched ≡ v.matched ++ more

refuses : {P : Type 0} (kind : FrontKind) (w : FrontValue) → ◌≡◌ {A = Result FrontValue FrontKind} (Err kind) (Ok w) → P
refuses kind w e = absurd cc

-- no pause more
grows-none : (v x w : FrontValue) (more : List MatchedReply) → x.pauses ≡ v.pauses → x.matched ≡ v.matched ++ more
    → ◌≡◌ {A = Result FrontValue FrontKind} (Ok x) (Ok w) → Grows v [] w
grows-none v x w more pauses matched e =
    let is : x ≡ w = cc e in
    record {
      pauses = ap (λ (y : FrontValue). y.pauses) (sym is) ∙ pauses ∙ sym (append-nil v.pauses);
      more = more;
      matched = ap (λ (y : FrontValue). y.matched) (sym is) ∙ matched;
    }

-- and no matched styles
grows-same : (v x w : FrontValue) → x.pauses ≡ v.pauses → x.matched ≡ v.matched → ◌≡◌ {A = Result FrontValue FrontKind} (Ok x) (Ok w)
    → Grows v [] w
grows-same v x w pauses matched e = grows-none v x w [] pauses (matched ∙ sym (append-nil v.matched)) e

grows-root : (v : FrontValue) (id : ℕ) (frame : List ℕ) (more : List MatchedReply) (root : Branch told.Told) (o : Option FrontKind)
    (w : FrontValue)
    → with_root (with_matched v more) (reply_frame id frame) root o ≡ Ok w → Grows v [] w
grows-root v id frame more root None w e = grows-none v _ w more refl refl e
grows-root v id frame more root (Some kind) w e = refuses kind w e

grows-effect : (v : FrontValue) (id : ℕ) (frame : List ℕ) (more : List MatchedReply) (x : Effect) (w : FrontValue)
    → with_effect (with_matched v more) (reply_frame id frame) x ≡ Ok w → Grows v [] w
grows-effect v id frame more (effect.Document tree) w e = grows-root v id frame more tree (root_fault tree) w e
grows-effect v id frame more (effect.SheetText text) w e = grows-none v _ w more refl refl e
grows-effect v id frame more effect.AllOff w e = grows-none v _ w more refl refl e
grows-effect v id frame more effect.SheetsOff w e = grows-none v _ w more refl refl e
grows-effect v id frame more effect.NothingElse w e = grows-none v _ w more refl refl e

grows-body : (v : FrontValue) (id : ℕ) (frame method : List ℕ) (o : Option ReplyBody) (w : FrontValue)
    → with_body v (reply_frame id frame) method o ≡ Ok w → Grows v [] w
grows-body v id frame method None w e = refuses NotMessage w e
grows-body v id frame method (Some body) w e = grows-effect v id frame (matched_told id body) (effect_of method body) w e

grows-reply : (v : FrontValue) (id : ℕ) (frame : List ℕ) (result : Data) (o : Option (List ℕ)) (w : FrontValue)
    → with_reply v (reply_frame id frame) result o ≡ Ok w → Grows v [] w
grows-reply v id frame result None w e = refuses NotMessage w e
grows-reply v id frame result (Some method) w e = grows-body v id frame method (result_of method result) w e

grows-fault : (v : FrontValue) (id : ℕ) (frame : List ℕ) (o : Option (List ℕ)) (w : FrontValue)
    → with_fault v (reply_frame id frame) o ≡ Ok w
    → Grows v [] w
grows-fault v id frame None w e = refuses NotMessage w e
grows-fault v id frame (Some method) w e = grows-same v _ w refl refl e

grows-tree : (v : FrontValue) (tree : Nodes Seen) (o : Option FrontKind) (w : FrontValue) → with_tree v tree o ≡ Ok w → Grows v [] w
grows-tree v tree None w e = grows-same v _ w refl refl e
grows-tree v tree (Some kind) w e = refuses kind w e

grows-spot : (v : FrontValue) (t : ToldChange) (o : Option (Spot Seen)) (w : FrontValue) → at_spot v t o ≡ Ok w → Grows v [] w
grows-spot v t None w e = refuses UnknownNode w e
grows-spot v t (Some s) w e = grows-tree v _ (change_fault v.tree t s) w e

grows-change : (v : FrontValue) (t : ToldChange) (w : FrontValue) → with_change v t ≡ Ok w → Grows v [] w
grows-change v t w e = grows-spot v t (spot seen_id t.node 0 v.tree) w e

grows-pause : (v : FrontValue) (why : PauseData) (shown : Bool) (w : FrontValue)
    → ◌≡◌ {A = Result FrontValue FrontKind} (cond shown (Ok (halted v why)) (Err UnknownNode)) (Ok w) → Grows v (why ∷ []) w
grows-pause v why true w e =
    let is : halted v why ≡ w = cc e in
    record {
      pauses = ap (λ (y : FrontValue). y.pauses) (sym is);
      more = [];
      matched = ap (λ (y : FrontValue). y.matched) (sym is) ∙ sym (append-nil v.matched);
    }
grows-pause v why false w e = refuses UnknownNode w e

grows-sheet : (v : FrontValue) (known : Bool) (sheets : List KnownSheet) (w : FrontValue)
    → ◌≡◌ {A = Result FrontValue FrontKind} (cond known (Ok (told_sheets v sheets)) (Err UnknownSheet)) (Ok w) → Grows v [] w
grows-sheet v true sheets w e = grows-same v _ w refl refl e
grows-sheet v false sheets w e = refuses UnknownSheet w e

grows-added : (v : FrontValue) (known : Bool) (sheets : List KnownSheet) (w : FrontValue)
    → ◌≡◌ {A = Result FrontValue FrontKind} (cond known (Err IdTaken) (Ok (told_sheets v sheets))) (Ok w) → Grows v [] w
grows-added v true sheets w e = refuses IdTaken w e
grows-added v false sheets w e = grows-same v _ w refl refl e

grows-news : (v : FrontValue) (n : News) (w : FrontValue) → with_news v n ≡ Ok w → Grows v (pause_told n) w
grows-news v (set_children parent nodes) w e = grows-change v (told_change parent (shows (seen_nodes nodes)) nodes) w e
grows-news v document_updated w e = grows-same v _ w refl refl e
grows-news v (attribute_modified id name value) w e = grows-change v (told_change id (sets name value) none) w e
grows-news v (attribute_removed id name) w e = grows-change v (told_change id (drops name) none) w e
grows-news v (text_modified id value) w e = grows-change v (told_change id (says value) none) w e
grows-news v (count_updated id count) w e = grows-change v (told_change id (counts count) none) w e
grows-news v (inserted parent previous b) w e = grows-change v (told_change parent (inserts previous (seen_branch b)) (alone b)) w e
grows-news v (removed parent id) w e = grows-change v (told_change parent (removes id) none) w e
grows-news v (sheet_added header) w e = grows-added v (has_sheet header.sheet v.sheets) (v.sheets ++ told_sheet header ∷ []) w e
grows-news v (sheet_changed number) w e = grows-sheet v (has_sheet number v.sheets) (marked_old number v.sheets) w e
grows-news v (sheet_removed number) w e = grows-sheet v (has_sheet number v.sheets) (without_sheet number v.sheets) w e
grows-news v (paused why) w e = grows-pause v why (list_all (is_shown v.tree) (paused_nodes why)) w e

grows-message : (v : FrontValue) (frame : List ℕ) (o : Option Message) (w : FrontValue) → with_message v frame o ≡ Ok w
    → Grows v (pauses_of_message o) w
grows-message v frame None w e = refuses NotMessage w e
grows-message v frame (Some (event n)) w e = grows-news v n w e
grows-message v frame (Some (reply id result)) w e = grows-reply v id frame result (method_waiting id v.asks) w e
grows-message v frame (Some (fault None code text)) w e = grows-same v _ w refl refl e
grows-message v frame (Some (fault (Some id) code text)) w e = grows-fault v id frame (method_waiting id v.asks) w e

pub grows-frame : (v w : FrontValue) (frame : List ℕ) → take_frame v frame ≡ Ok w → Grows v (pauses_in_frame frame) w
grows-frame v w frame e = grows-message v frame (down_of frame) w e

-- all of some frames
pub grows-folded : (frames : List (List ℕ)) (v w : FrontValue) → folded take_frame v frames ≡ Ok w
    → Grows v (flat_map pauses_in_frame frames) w
grows-folded [] v w e = grows-same v v w refl refl e
grows-folded (frame ∷ frames) v w e =
    (elim (take_frame v frame) as (λ (r : Result FrontValue FrontKind). take_frame v frame ≡ r
    → then_ok r (λ next. folded take_frame next frames) ≡ Ok w → Grows v (pauses_in_frame frame ++ flat_map pauses_in_frame frames) w) [
      | Ok next ↦ λ is rest.
          let one : Grows v (pauses_in_frame frame) next = grows-frame v next frame is in
          let later : Grows next (flat_map pauses_in_frame frames) w = grows-folded frames next w rest in
          record {
            pauses =
                later.pauses ∙ ap (λ ps. ps ++ map seen_pause (flat_map pauses_in_frame frames)) one.pauses
                ∙ append_assoc v.pauses (map seen_pause (pauses_in_frame frame)) (map seen_pause (flat_map pauses_in_frame frames))
                ∙ ap (λ ps. v.pauses ++ ps) (sym (map-append seen_pause (pauses_in_frame frame) (flat_map pauses_in_frame frames)));
            more = one.more ++ later.more;
            matched = later.matched ∙ ap (λ rs. rs ++ later.more) one.matched ∙ append_assoc v.matched one.more later.more;
          }
      | Err kind ↦ λ is rest. refuses kind w rest
    ]) refl e

-- ---- from the start

-- asks that are sent add nothing
joined-pauses : (v : FrontValue) (frames : List (List ℕ)) → (asks_joined join v frames).pauses ≡ v.pauses
joined-pauses v [] = refl
joined-pauses v (frame ∷ frames) = joined-pauses (join v frame) frames ∙ with-ask v (ask_of_frame frame) where
  with-ask : (v : FrontValue) (o : Option Ask) → (with_ask v o).pauses ≡ v.pauses
  with-ask v None = refl
  with-ask v (Some ask) = refl

-- the pauses that a front end has kept are those among the frames that it took
pub pauses-of : (sent frames : List (List ℕ)) (front : FrontValue) → folded take_frame (asks_joined join (first_value [])
    sent) frames ≡ Ok front
    → front.pauses ≡ map seen_pause (flat_map pauses_in_frame frames)
pauses-of sent frames front e =
    let start = asks_joined join (first_value []) sent in
    (grows-folded frames start front e).pauses ∙ ap (λ ps. ps ++ map seen_pause (flat_map pauses_in_frame frames))
    (joined-pauses (first_value []) sent)

-- ---- matched styles that came are there for good

in-more : (ask : ℕ) (rs more : List MatchedReply) → is_some (matched_in ask rs) ≡ true → is_some (matched_in ask (rs ++ more)) ≡ true
in-more ask [] more e = absurd cc
in-more ask (r ∷ rs) more e = by (r.ask == ask) (in-more ask rs more) e where
  by : (here : Bool) → (is_some (matched_in ask rs) ≡ true → is_some (matched_in ask (rs ++ more)) ≡ true)
      → is_some (cond here (Some r.matched) (matched_in ask rs)) ≡ true
      → is_some (cond here (Some r.matched) (matched_in ask (rs ++ more))) ≡ true
  by true later e = refl
  by false later e = later e

pub styles-stay : (v w : FrontValue) (ps : List PauseData) (ask : ℕ) → Grows v ps w → knows_styles v ask ≡ true → knows_styles w ask ≡ true
styles-stay v w ps ask grows e = subst (λ rs. is_some (matched_in ask rs) ≡ true) (sym grows.matched) (in-more ask v.matched grows.more e)
