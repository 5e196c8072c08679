-- How a fold goes on, and that an ask more only waits.
use Rattle.std.proofs.Common.{◌≡◌, ℕ, ◌==◌, Bool, true, false, cond, List, [], ◌∷◌, ◌++◌, Option, Some, None, option_map, option_and_then}
use Rattle.std.proofs.Common.{Result, Ok, Err, refl, sym, ap, ◌∙◌}
use Rattle.serde_json.specs.Data.{Data}
use Rattle.node_tree.specs.Nodes.{Nodes, none, Branch, alone}
use Rattle.node_tree.specs.Keys.{Spot, spot, put}
use Rattle.node_tree.specs.Seen.{Seen, seen_id}
use Rattle.pipe_frames.specs.Frames.{Frames, frames_of, frames_from, held_after}
use Rattle.pipe_frames.proofs.FrameLemmas.{frames_of-append}
use Rattle.cdp_messages.specs.declared.down.ReplyBody.{ReplyBody}
use Rattle.client_views.specs.declared.effects.Effect.{Effect}
use Rattle.client_views.specs.declared.effects.Effect.TheVariants as effect
use Rattle.client_views.specs.Effects.{effect_of}
use Rattle.dom_objects.specs.Told.{Told, seen_nodes, seen_branch}
use Rattle.cdp_messages.specs.Events.{News, attribute_modified, attribute_removed, text_modified, count_updated, inserted, removed}
use Rattle.cdp_messages.specs.Events.{set_children, document_updated, paused, sheet_added, sheet_changed, sheet_removed}
use Rattle.cdp_messages.specs.Replies.{Message, reply, fault, event, down_of, result_of}
use Rattle.std.specs.List.{list_all}
use Rattle.cdp_messages.specs.declared.down.PauseData.{PauseData}
use Rattle.client_views.specs.Moves.{changed, shows, inserts, removes, counts, sets, drops, says, paused_nodes}
use Rattle.front_mirror.specs.declared.replies.Ask.{Ask}
use Rattle.front_mirror.specs.declared.replies.Kept.{Kept}
use Rattle.front_mirror.specs.declared.faults.FrontKind.TheVariants.{UnknownNode, IdTaken, UnknownSheet}
use Rattle.front_mirror.specs.declared.faults.FrontKind.{FrontKind}
use Rattle.front_mirror.specs.declared.faults.FrontFault.{FrontFault}
use Rattle.front_mirror.specs.Front.{FrontValue, reply_frame, first_value, plain_ask, fetch_ask, ask_under, method_waiting, fetched_sheet}
use Rattle.front_mirror.specs.Front.{reply_kept}
use Rattle.front_mirror.specs.Front.{unless_fetch, sheets_fetched, asks_without, root_fault, matched_told, with_matched, replied, refused}
use Rattle.front_mirror.specs.Front.{told, halted, told_sheets, is_shown, ToldChange, told_change, change_fault, with_root, with_effect}
use Rattle.front_mirror.specs.Front.{with_body, with_reply, with_fault, with_tree, at_spot, with_change, with_news, with_message}
use Rattle.front_mirror.specs.Front.{take_frame, Folded, after_message, front_folded, fold_result, fold_frames, fold, FrontState}
use Rattle.front_mirror.specs.declared.panels.PanelKind.{PanelKind}
use Rattle.front_mirror.specs.Front.{first_state}
use Rattle.front_mirror.specs.Front.{after_bytes, unless_refused, after_take, after_ask, after_fetch}
use Rattle.front_mirror.specs.declared.sheets.KnownSheet.{KnownSheet}
use Rattle.front_mirror.specs.Sheets.{told_sheet, has_sheet, marked_old, without_sheet}
use Rattle.front_mirror.specs.Laws.{ask_joined, IsFold}

-- ---- one fold after another

abbrev gone_on : List (List ℕ) → FrontValue → Option FrontFault → Folded
gone_on frames v None = front_folded v frames
gone_on frames v (Some f) = record { value = v; fault = Some f }

after_message-append : (v : FrontValue) (first more : List (List ℕ)) (r : Result FrontValue FrontKind)
    → ((w : FrontValue) → front_folded w (first ++ more) ≡ gone_on more (front_folded w first).value (front_folded w first).fault)
    → after_message v (λ w. front_folded w (first ++ more)) r
    ≡ gone_on more (after_message v (λ w. front_folded w first) r).value (after_message v (λ w. front_folded w first) r).fault
after_message-append v first more (Ok w) rest = rest w
after_message-append v first more (Err kind) rest = refl

folded-append : (first more : List (List ℕ)) (v : FrontValue)
    → front_folded v (first ++ more) ≡ gone_on more (front_folded v first).value (front_folded v first).fault
folded-append [] more v = refl
folded-append (frame ∷ first) more v = after_message-append v first more (take_frame v frame) (folded-append first more)

outcome_ok : (v w : FrontValue) (f : Option FrontFault) → fold_result v f ≡ Ok w → (v ≡ w) × (f ≡ None)
outcome_ok v w None e = (cc, refl)
outcome_ok v w (Some f) e = absurd cc

-- a fold that met no fault goes on from its value
pub fold_frames-append : (first more : List (List ℕ)) (v w : FrontValue) → fold_frames v first ≡ Ok w
    → fold_frames v (first ++ more) ≡ fold_frames w more
fold_frames-append first more v w e =
    let p = outcome_ok (front_folded v first).value w (front_folded v first).fault e in
    ap (λ (end : Folded). fold_result end.value end.fault)
    (folded-append first more v ∙ ap (gone_on more (front_folded v first).value) p.1 ∙ ap (λ (u : FrontValue). front_folded u more) p.0)

pub frames_from-append : (first more : List ℕ)
    → frames_from [] (first ++ more) ≡ frames_from [] first ++ frames_from (held_after [] first) more
frames_from-append first more = ap (λ (frames : Frames). frames.whole) (frames_of-append first more)

pub held_after-append : (first more : List ℕ) → held_after [] (first ++ more) ≡ held_after (held_after [] first) more
held_after-append first more = ap (λ (frames : Frames). frames.rest) (frames_of-append first more)

-- a fold goes on with the bytes that come after
pub fold-append : (waiting : List Ask) (down more : List ℕ) (v : FrontValue) → fold waiting down ≡ Ok v
    → fold waiting (down ++ more) ≡ fold_frames v (frames_from (held_after [] down) more)
fold-append waiting down more v e =
    ap (fold_frames (first_value waiting)) (frames_from-append down more)
    ∙ fold_frames-append (frames_from [] down) (frames_from (held_after [] down) more) (first_value waiting) v e

-- ---- an ask more

-- the first ask of an id is found among more asks, where it waits
ask_under-here : (v : Bool) (a : Ask) (m : List ℕ) (o p : Option Ask) → (option_map (λ (x : Ask). x.method) o ≡ Some m → p ≡ o)
    → option_map (λ (x : Ask). x.method) (cond v (Some a) o) ≡ Some m → cond v (Some a) p ≡ cond v (Some a) o
ask_under-here true a m o p rest e = refl
ask_under-here false a m o p rest e = rest e

ask_under-more : (id : ℕ) (asks : List Ask) (ask : Ask) (m : List ℕ) → method_waiting id asks ≡ Some m
    → ask_under id (asks ++ ask ∷ []) ≡ ask_under id asks
ask_under-more id [] ask m e = cc
ask_under-more id (a ∷ asks) ask m e =
    ask_under-here (a.id == id) a m (ask_under id asks) (ask_under id (asks ++ ask ∷ [])) (ask_under-more id asks ask m) e

method_of-more : (id : ℕ) (asks : List Ask) (ask : Ask) (m : List ℕ) → method_waiting id asks ≡ Some m
    → method_waiting id (asks ++ ask ∷ []) ≡ Some m
method_of-more id asks ask m e = ap (option_map (λ (x : Ask). x.method)) (ask_under-more id asks ask m e) ∙ e

without-here : (v : Bool) (a ask : Ask) (m : List ℕ) (o : Option Ask) (asks less more : List Ask)
    → (option_map (λ (x : Ask). x.method) o ≡ Some m → more ≡ less ++ ask ∷ [])
    → option_map (λ (x : Ask). x.method) (cond v (Some a) o) ≡ Some m
    → cond v (asks ++ ask ∷ []) (a ∷ more) ≡ cond v asks (a ∷ less) ++ ask ∷ []
without-here true a ask m o asks less more rest e = refl
without-here false a ask m o asks less more rest e = ap (λ (later : List Ask). a ∷ later) (rest e)

without-more : (id : ℕ) (asks : List Ask) (ask : Ask) (m : List ℕ) → method_waiting id asks ≡ Some m
    → asks_without id (asks ++ ask ∷ []) ≡ asks_without id asks ++ ask ∷ []
without-more id [] ask m e = cc
without-more id (a ∷ asks) ask m e =
    without-here (a.id == id) a ask m (ask_under id asks) asks (asks_without id asks) (asks_without id (asks ++ ask ∷ []))
    (without-more id asks ask m) e

abbrev taken_well : FrontValue → Result FrontValue FrontKind
taken_well v = Ok v

abbrev folded_well : FrontValue → Result FrontValue FrontFault
folded_well v = Ok v

-- what is kept of a reply to this ask
abbrev kept_to : ℕ → Option Ask → List ℕ → Bool → List Kept
kept_to id o frame good = unless_fetch (option_and_then (λ (x : Ask). x.sheet) o)
    (reply_kept (Some id) (option_map (λ (x : Ask). x.method) o) frame good)

replied-joined : (v : FrontValue) (ask : Ask) (id : ℕ) (frame : List ℕ) (good : Bool) (tree : Nodes Seen) (m : List ℕ)
    → method_waiting id v.asks ≡ Some m
    → replied (ask_joined v ask) (reply_frame id frame) good tree ≡ ask_joined (replied v (reply_frame id frame) good tree) ask
replied-joined v ask id frame good tree m waits =
    ap (λ (o : Option Ask).
    record (replied (ask_joined v ask) (reply_frame id frame) good tree) { replies = v.replies ++ kept_to id o frame good })
    (ask_under-more id v.asks ask m waits)
    ∙ ap (λ (asks : List Ask). record (replied v (reply_frame id frame) good tree) { asks = asks }) (without-more id v.asks ask m waits)

replied-more : (v w : FrontValue) (ask : Ask) (id : ℕ) (frame : List ℕ) (good : Bool) (tree : Nodes Seen) (m : List ℕ)
    → method_waiting id v.asks ≡ Some m
    → taken_well (replied v (reply_frame id frame) good tree) ≡ Ok w
    → taken_well (replied (ask_joined v ask) (reply_frame id frame) good tree) ≡ Ok (ask_joined w ask)
replied-more v w ask id frame good tree m waits e =
    let same : replied v (reply_frame id frame) good tree ≡ w = cc in
    ap (λ (u : FrontValue). taken_well u) (replied-joined v ask id frame good tree m waits)
    ∙ ap (λ (u : FrontValue). taken_well (ask_joined u ask)) same

with_root-more : (v w : FrontValue) (ask : Ask) (id : ℕ) (frame : List ℕ) (root : Branch Told) (m : List ℕ) (wrong : Option FrontKind)
    → method_waiting id v.asks ≡ Some m
    → with_root v (reply_frame id frame) root wrong ≡ Ok w
    → with_root (ask_joined v ask) (reply_frame id frame) root wrong ≡ Ok (ask_joined w ask)
with_root-more v w ask id frame root m None waits e = replied-more v w ask id frame true (seen_nodes (alone root)) m waits e
with_root-more v w ask id frame root m (Some kind) waits e = cc

abbrev sheetless : FrontValue → FrontValue
sheetless v = record v { sheets = [] }

bare-more : (v w : FrontValue) (ask : Ask) (id : ℕ) (frame : List ℕ) (tree : Nodes Seen) (m : List ℕ) → method_waiting id v.asks ≡ Some m
    → taken_well (sheetless (replied v (reply_frame id frame) true tree)) ≡ Ok w
    → taken_well (sheetless (replied (ask_joined v ask) (reply_frame id frame) true tree)) ≡ Ok (ask_joined w ask)
bare-more v w ask id frame tree m waits e =
    let same : sheetless (replied v (reply_frame id frame) true tree) ≡ w = cc in
    ap (λ (u : FrontValue). taken_well (sheetless u)) (replied-joined v ask id frame true tree m waits)
    ∙ ap (λ (u : FrontValue). taken_well (ask_joined u ask)) same

-- the front, where the text of that sheet was fetched, if it was
abbrev freshened : FrontValue → Option ℕ → List ℕ → FrontValue
freshened v o text = record v { sheets = sheets_fetched o text v.sheets }

text-more : (v w : FrontValue) (ask : Ask) (id : ℕ) (frame text : List ℕ) (m : List ℕ) → method_waiting id v.asks ≡ Some m
    → taken_well (freshened (replied v (reply_frame id frame) true v.tree) (fetched_sheet id v.asks) text) ≡ Ok w
    → taken_well (freshened (replied (ask_joined v ask) (reply_frame id frame) true v.tree) (fetched_sheet id (v.asks ++ ask ∷ [])) text)
    ≡ Ok (ask_joined w ask)
text-more v w ask id frame text m waits e =
    let same : freshened (replied v (reply_frame id frame) true v.tree) (fetched_sheet id v.asks) text ≡ w = cc in
    ap (λ (o : Option Ask). taken_well
    (freshened (replied (ask_joined v ask) (reply_frame id frame) true v.tree) (option_and_then (λ (x : Ask). x.sheet) o) text))
    (ask_under-more id v.asks ask m waits)
    ∙ ap (λ (u : FrontValue). taken_well (freshened u (fetched_sheet id v.asks) text)) (replied-joined v ask id frame true v.tree m waits)
    ∙ ap (λ (u : FrontValue). taken_well (ask_joined u ask)) same

with_effect-more : (v w : FrontValue) (ask : Ask) (id : ℕ) (frame : List ℕ) (m : List ℕ) (x : Effect) → method_waiting id v.asks ≡ Some m
    → with_effect v (reply_frame id frame) x ≡ Ok w → with_effect (ask_joined v ask) (reply_frame id frame) x ≡ Ok (ask_joined w ask)
with_effect-more v w ask id frame m (effect.Document tree) waits e = with_root-more v w ask id frame tree m (root_fault tree) waits e
with_effect-more v w ask id frame m (effect.SheetText text) waits e = text-more v w ask id frame text m waits e
with_effect-more v w ask id frame m effect.AllOff waits e = bare-more v w ask id frame none m waits e
with_effect-more v w ask id frame m effect.SheetsOff waits e = bare-more v w ask id frame v.tree m waits e
with_effect-more v w ask id frame m effect.NothingElse waits e = replied-more v w ask id frame true v.tree m waits e

with_body-more : (v w : FrontValue) (ask : Ask) (id : ℕ) (frame : List ℕ) (m : List ℕ) (body : Option ReplyBody)
    → method_waiting id v.asks ≡ Some m
    → with_body v (reply_frame id frame) m body ≡ Ok w → with_body (ask_joined v ask) (reply_frame id frame) m body ≡ Ok (ask_joined w ask)
with_body-more v w ask id frame m None waits e = cc
with_body-more v w ask id frame m (Some body) waits e = with_effect-more (with_matched v (matched_told id body)) w ask id frame m
    (effect_of m body) waits e

with_reply-more : (v w : FrontValue) (ask : Ask) (id : ℕ) (frame : List ℕ) (result : Data) (o : Option (List ℕ))
    → method_waiting id v.asks ≡ o
    → with_reply v (reply_frame id frame) result o ≡ Ok w
    → with_reply (ask_joined v ask) (reply_frame id frame) result (method_waiting id (v.asks ++ ask ∷ [])) ≡ Ok (ask_joined w ask)
with_reply-more v w ask id frame result None waits e = cc
with_reply-more v w ask id frame result (Some m) waits e =
    ap (with_reply (ask_joined v ask) (reply_frame id frame) result) (method_of-more id v.asks ask m waits)
    ∙ with_body-more v w ask id frame m (result_of m result) waits e

with_fault-more : (v w : FrontValue) (ask : Ask) (id : ℕ) (frame : List ℕ) (o : Option (List ℕ)) → method_waiting id v.asks ≡ o
    → with_fault v (reply_frame id frame) o ≡ Ok w
    → with_fault (ask_joined v ask) (reply_frame id frame) (method_waiting id (v.asks ++ ask ∷ [])) ≡ Ok (ask_joined w ask)
with_fault-more v w ask id frame None waits e = cc
with_fault-more v w ask id frame (Some m) waits e =
    ap (with_fault (ask_joined v ask) (reply_frame id frame)) (method_of-more id v.asks ask m waits)
    ∙ replied-more v w ask id frame false v.tree m waits e

told-more : (v w : FrontValue) (ask : Ask) (tree : Nodes Seen) → taken_well (told v tree) ≡ Ok w
    → taken_well (told (ask_joined v ask) tree) ≡ Ok (ask_joined w ask)
told-more v w ask tree e = let same : told v tree ≡ w = cc in ap (λ (u : FrontValue). taken_well (ask_joined u ask)) same

with_tree-more : (v w : FrontValue) (ask : Ask) (tree : Nodes Seen) (wrong : Option FrontKind) → with_tree v tree wrong ≡ Ok w
    → with_tree (ask_joined v ask) tree wrong ≡ Ok (ask_joined w ask)
with_tree-more v w ask tree None e = told-more v w ask tree e
with_tree-more v w ask tree (Some kind) e = cc

at_spot-more : (v w : FrontValue) (ask : Ask) (t : ToldChange) (o : Option (Spot Seen)) → at_spot v t o ≡ Ok w
    → at_spot (ask_joined v ask) t o ≡ Ok (ask_joined w ask)
at_spot-more v w ask t None e = cc
at_spot-more v w ask t (Some s) e = with_tree-more v w ask (put seen_id t.node (changed t.change s.branch) v.tree)
    (change_fault v.tree t s) e

with_change-more : (v w : FrontValue) (ask : Ask) (t : ToldChange) → with_change v t ≡ Ok w
    → with_change (ask_joined v ask) t ≡ Ok (ask_joined w ask)
with_change-more v w ask t e = at_spot-more v w ask t (spot seen_id t.node 0 v.tree) e

pause-more : (v w : FrontValue) (ask : Ask) (why : PauseData) (b : Bool) → cond b (taken_well (halted v why)) (Err UnknownNode) ≡ Ok w
    → cond b (taken_well (halted (ask_joined v ask) why)) (Err UnknownNode) ≡ Ok (ask_joined w ask)
pause-more v w ask why true e = let same : halted v why ≡ w = cc in ap (λ (u : FrontValue). taken_well (ask_joined u ask)) same
pause-more v w ask why false e = cc

sheets-more : (v w : FrontValue) (ask : Ask) (b : Bool) (kind : FrontKind) (sheets : List KnownSheet)
    → cond b (taken_well (told_sheets v sheets)) (Err kind) ≡ Ok w
    → cond b (taken_well (told_sheets (ask_joined v ask) sheets)) (Err kind) ≡ Ok (ask_joined w ask)
sheets-more v w ask true kind sheets e = let same : told_sheets v sheets
    ≡ w = cc in ap (λ (u : FrontValue). taken_well (ask_joined u ask)) same
sheets-more v w ask false kind sheets e = cc

added-more : (v w : FrontValue) (ask : Ask) (b : Bool) (kind : FrontKind) (sheets : List KnownSheet)
    → cond b (Err kind) (taken_well (told_sheets v sheets)) ≡ Ok w
    → cond b (Err kind) (taken_well (told_sheets (ask_joined v ask) sheets)) ≡ Ok (ask_joined w ask)
added-more v w ask true kind sheets e = cc
added-more v w ask false kind sheets e = let same : told_sheets v sheets
    ≡ w = cc in ap (λ (u : FrontValue). taken_well (ask_joined u ask)) same

with_news-more : (v w : FrontValue) (ask : Ask) (n : News) → with_news v n ≡ Ok w → with_news (ask_joined v ask) n ≡ Ok (ask_joined w ask)
with_news-more v w ask (set_children parent nodes) e = with_change-more v w ask (told_change parent (shows (seen_nodes nodes)) nodes) e
with_news-more v w ask document_updated e = told-more v w ask none e
with_news-more v w ask (attribute_modified id name value) e = with_change-more v w ask (told_change id (sets name value) none) e
with_news-more v w ask (attribute_removed id name) e = with_change-more v w ask (told_change id (drops name) none) e
with_news-more v w ask (text_modified id value) e = with_change-more v w ask (told_change id (says value) none) e
with_news-more v w ask (count_updated id count) e = with_change-more v w ask (told_change id (counts count) none) e
with_news-more v w ask (inserted parent previous b) e = with_change-more v w ask
    (told_change parent (inserts previous (seen_branch b)) (alone b)) e
with_news-more v w ask (removed parent id) e = with_change-more v w ask (told_change parent (removes id) none) e
with_news-more v w ask (paused why) e = pause-more v w ask why (list_all (is_shown v.tree) (paused_nodes why)) e
with_news-more v w ask (sheet_added header) e = added-more v w ask (has_sheet header.sheet v.sheets) IdTaken
    (v.sheets ++ told_sheet header ∷ []) e
with_news-more v w ask (sheet_changed number) e = sheets-more v w ask (has_sheet number v.sheets) UnknownSheet
    (marked_old number v.sheets) e
with_news-more v w ask (sheet_removed number) e = sheets-more v w ask (has_sheet number v.sheets) UnknownSheet
    (without_sheet number v.sheets) e

with_message-more : (v w : FrontValue) (ask : Ask) (frame : List ℕ) (message : Option Message)
    → with_message v frame message ≡ Ok w → with_message (ask_joined v ask) frame message ≡ Ok (ask_joined w ask)
with_message-more v w ask frame None e = cc
with_message-more v w ask frame (Some (event n)) e = with_news-more v w ask n e
with_message-more v w ask frame (Some (reply id result)) e = with_reply-more v w ask id frame result (method_waiting id v.asks) refl e
with_message-more v w ask frame (Some (fault None code text)) e =
    let same : refused v frame ≡ w = cc in ap (λ (u : FrontValue). taken_well (ask_joined u ask)) same
with_message-more v w ask frame (Some (fault (Some id) code text)) e = with_fault-more v w ask id frame (method_waiting id v.asks) refl e

pub take_frame-more : (v w : FrontValue) (ask : Ask) (frame : List ℕ) → take_frame v frame ≡ Ok w
    → take_frame (ask_joined v ask) frame ≡ Ok (ask_joined w ask)
take_frame-more v w ask frame e = with_message-more v w ask frame (down_of frame) e

more_step : (v w : FrontValue) (ask : Ask) (frame : List ℕ) (frames : List (List ℕ)) (r : Result FrontValue FrontKind)
    → take_frame v frame ≡ r
    → ((u : FrontValue) → fold_frames u frames ≡ Ok w → fold_frames (ask_joined u ask) frames ≡ Ok (ask_joined w ask))
    → fold_result (after_message v (λ u. front_folded u frames) r).value (after_message v (λ u. front_folded u frames) r).fault ≡ Ok w
    → fold_frames (ask_joined v ask) (frame ∷ frames) ≡ Ok (ask_joined w ask)
more_step v w ask frame frames (Ok u) is rest e =
    ap (λ (r : Result FrontValue FrontKind). fold_result (after_message (ask_joined v ask) (λ u. front_folded u frames) r).value
    (after_message (ask_joined v ask) (λ u. front_folded u frames) r).fault)
    (take_frame-more v u ask frame is)
    ∙ rest u e
more_step v w ask frame frames (Err kind) is rest e = cc

-- an ask more only joins those that wait
pub fold_frames-more : (frames : List (List ℕ)) (ask : Ask) (v w : FrontValue) → fold_frames v frames ≡ Ok w
    → fold_frames (ask_joined v ask) frames ≡ Ok (ask_joined w ask)
fold_frames-more [] ask v w e = let same : v ≡ w = cc in ap (λ (u : FrontValue). folded_well (ask_joined u ask)) same
fold_frames-more (frame ∷ frames) ask v w e =
    more_step v w ask frame frames (take_frame v frame) refl (λ u. fold_frames-more frames ask u w) e

pub fold-more : (waiting : List Ask) (ask : Ask) (down : List ℕ) (v : FrontValue) → fold waiting down ≡ Ok v
    → fold (waiting ++ ask ∷ []) down ≡ Ok (ask_joined v ask)
fold-more waiting ask down v e = fold_frames-more (frames_from [] down) ask (first_value waiting) v e

-- ---- a front that runs

pub fold_begins : (kinds : List PanelKind) → IsFold [] [] (first_state kinds)
unfolding frames_of
fold_begins kinds = record { value = refl; rest = refl; well = refl }

taken_on : (s : FrontState) (piece : List ℕ) → s.fault ≡ None → after_take s piece ≡ after_bytes s piece
taken_on s piece well = ap (λ (f : Option FrontFault). unless_refused f s (after_bytes s piece)) well

pub fold_takes : (waiting : List Ask) (down piece : List ℕ) (s : FrontState) → IsFold waiting down s
    → fold waiting (down ++ piece) ≡ fold_result (after_take s piece).value (after_take s piece).fault
fold_takes waiting down piece s is =
    fold-append waiting down piece s.value is.value
    ∙ ap (λ (rest : List ℕ). fold_frames s.value (frames_from rest piece)) (sym is.rest)
    ∙ ap (λ (after : FrontState). fold_result after.value after.fault) (sym (taken_on s piece is.well))

pub fold_stays : (waiting : List Ask) (down piece : List ℕ) (s : FrontState) → IsFold waiting down s
    → (after_take s piece).fault ≡ None → IsFold waiting (down ++ piece) (after_take s piece)
fold_stays waiting down piece s is well = record {
  value = fold_takes waiting down piece s is ∙ ap (fold_result (after_take s piece).value) well;
  rest =
      ap (λ (after : FrontState). after.rest) (taken_on s piece is.well)
      ∙ ap (λ (rest : List ℕ). held_after rest piece) is.rest
      ∙ sym (held_after-append down piece);
  well = well;
}

pub fold_asks : (waiting : List Ask) (down method : List ℕ) (s : FrontState) → IsFold waiting down s
    → IsFold (waiting ++ plain_ask s.next method ∷ []) down (after_ask s method)
fold_asks waiting down method s is = record {
  value = fold-more waiting (plain_ask s.next method) down s.value is.value;
  rest = is.rest;
  well = is.well;
}

pub fold_fetches : (waiting : List Ask) (down : List ℕ) (sheet : ℕ) (s : FrontState) → IsFold waiting down s
    → IsFold (waiting ++ fetch_ask s.fetches sheet ∷ []) down (after_fetch s sheet)
fold_fetches waiting down sheet s is = record {
  value = fold-more waiting (fetch_ask s.fetches sheet) down s.value is.value;
  rest = is.rest;
  well = is.well;
}
