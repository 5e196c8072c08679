-- What each move makes of a front: from one view to the next, and over a course.
use Rattle.std.proofs.Common.{◌≡◌, ◌≤◌, ℕ, Bool, true, false, cond, codes, List, [], ◌∷◌, ◌++◌, map, Option, Some, None, Result}
use Rattle.std.proofs.Common.{Ok, Err}
use Rattle.std.proofs.Common.{refl, sym, ap, ◌∙◌, subst, append_assoc, append-nil, arith}
use Rattle.std.specs.List.{flat_map, list_all}
use Rattle.std.specs.Option.{option_to_list}
use Rattle.std.proofs.lemmas.Bool.{eq-eqb}
use Rattle.cdp_json.specs.Kinds.{is_counted, holds_of_some}
use Rattle.node_tree.specs.Levels.{most_told_root}
use Rattle.node_tree.specs.Nodes.{Nodes, none, Branch, alone, height}
use Rattle.node_tree.specs.Seen.{Seen}
use Rattle.cdp_messages.specs.declared.command.Refused.{Refused}
use Rattle.cdp_messages.specs.declared.down.ReplyBody.{ReplyBody}
use Rattle.cdp_messages.specs.declared.down.ReplyBody.TheVariants.{Nothing, Root, SheetText}
use Rattle.cdp_messages.specs.declared.down.PauseData.{PauseData}
use Rattle.cdp_messages.specs.declared.down.PauseData.TheVariants as pause
use Rattle.client_views.specs.declared.effects.Effect.{Effect}
use Rattle.client_views.specs.declared.effects.Effect.TheVariants as effect
use Rattle.client_views.specs.Effects.{effect_of}
use Rattle.dom_objects.specs.Told.{told_branch, seen-told}
use Rattle.cdp_messages.specs.Events.{News, document_updated, paused, sheet_added, sheet_changed, sheet_removed}
use Rattle.cdp_messages.specs.Refusals.{code_of, refusal_words}
use Rattle.cdp_messages.specs.Replies.{fault, event, down_of, reply_text, event_text, refused_text}
use Rattle.cdp_messages.specs.Results.{body_data, fits_body, BodyHasUtf8, body_height}
use Rattle.dom_objects.specs.Tellable.{suits_tree}
use Rattle.cdp_messages.specs.Laws.{answers}
use Rattle.client_views.specs.Moves as move
use Rattle.client_views.specs.Moves.{Move, change_news, move_text, answered_by, paused_nodes, AreShown, IsTellable, CanBeTold}
use Rattle.client_views.specs.Moves.{ChangesNode, IsPlainReply, Course, ends, goes}
use Rattle.css_objects.specs.Sheets.{is_sheet}
use Rattle.client_views.specs.Views.{ShownSheet, sheet_number, AreSheets, text_units, sheet_header, shows_sheet, shown_text, sheets_without}
use Rattle.client_views.specs.Views.{sheets_with_text, is_distinct, View}
use Rattle.cdp_messages.proofs.Depths.{events_are_shallow}
use Rattle.cdp_messages.proofs.Results.{replies_are_shallow}
use Rattle.cdp_messages.proofs.Messages.{replies_are_read, results_are_read, events_are_read, refusals_are_read}
use Rattle.dom_objects.proofs.TellableLaws.{shown_trees_fit}
use Rattle.cdp_messages.proofs.TextsUtf8.{replies_are_utf8, events_are_utf8}
use Rattle.front_mirror.specs.declared.replies.Ask.{Ask}
use Rattle.front_mirror.specs.declared.faults.FrontKind.{FrontKind}
use Rattle.front_mirror.specs.declared.faults.FrontKind.TheVariants.{UnknownNode, IdTaken, UnknownSheet}
use Rattle.front_mirror.specs.declared.sheets.KnownSheet.{KnownSheet}
use Rattle.front_mirror.specs.Sheets.{told_sheet, has_sheet, marked_old, without_sheet}
use Rattle.front_mirror.specs.Front.{FrontValue, reply_frame, fetched_sheet, sheets_fetched, asks_without, matched_told, with_matched}
use Rattle.front_mirror.specs.Front.{replied, refused}
use Rattle.front_mirror.specs.Front.{told, told_sheets, with_sheet, halted, is_shown, with_root, with_effect, with_body, with_reply}
use Rattle.front_mirror.specs.Front.{with_fault, with_message, take_frame, after_message, front_folded, fold_result}
use Rattle.front_mirror.specs.Laws.{KnowsSheets, Has, IsAskOf, is_quiet, IsReplyAlone, IsOfSheet, IsTextAsked, Waits, IsAwaited}
use Rattle.front_mirror.specs.Laws.{without_all, asks_after, kept_fault, kept_after, kept_after_all, pauses_after, matched_after, IsTaken}
use Rattle.front_mirror.specs.Laws.{MoveGives, AreAwaited, asks_after_all, AreTaken, CourseGives, IsAnswer, InTurn, rests, tells, meets}
use Rattle.front_mirror.specs.Laws.{TurnsAreAwaited}
use Rattle.client_views.proofs.ToldChanges.{height-told, CanTellNews, told_change_news, texts-told}
use Rattle.client_views.proofs.ToldSheets.{apart_last, last_is_sheet, shown_is_sheet, shown_utf8, added_news_fit, changed_news_fit}
use Rattle.client_views.proofs.ToldSheets.{removed_news_fit}
use Rattle.client_views.proofs.MoveTexts.{pause_fits}
use Rattle.front_mirror.proofs.ViewLemmas.{root_fault-told}
use Rattle.front_mirror.proofs.FollowLemmas.{changed_news}
use Rattle.front_mirror.proofs.KnownSheets.{known-has, known-added, known-without, known-rewritten, known-fetched}
use Rattle.client_views.proofs.BoolLemmas.{and_left, both}

abbrev taken_well : FrontValue → Result FrontValue FrontKind
taken_well v = Ok v

-- what a message can tell is read as that event
news_read : (n : News) → CanTellNews n → down_of (event_text n) ≡ Some (event n)
news_read n can = events_are_read n can.fits (events_are_shallow n can.levels) (events_are_utf8 n can.fits can.texts)

-- ---- events

same_nothing : {A : Type 0} (xs : List A) → xs ≡ xs ++ []
same_nothing xs = sym (append-nil xs)

gives_change : (id : ℕ) (c : move.Change) (u w : View) (v : FrontValue) → CanBeTold u → CanBeTold w → ChangesNode id c u.tree w.tree
    → w.sheets ≡ u.sheets → Has v u
    → IsTaken (move.change id c) v w
gives_change id c u w v before after moves same has =
    let here : ChangesNode id c v.tree w.tree = subst (λ (n : Nodes Seen). ChangesNode id c n w.tree) (sym has.tree) moves in
    let told_before : IsTellable v.tree = subst IsTellable (sym has.tree) before.tree in
    let can = told_change_news v.tree w.tree id c told_before after.tree here in
    record {
      after = told v w.tree;
      is_taken = ap (with_message v (move_text (move.change id c)))
          (news_read (change_news id c) can) ∙ changed_news v w.tree id c told_before.view after.tree.view here;
      has = record { tree = refl; sheets = subst (KnowsSheets v.sheets) (sym same) has.sheets };
      asks = refl;
      replies = same_nothing v.replies;
      pauses = same_nothing v.pauses;
      matched = same_nothing v.matched;
      taken = refl;
    }

updated : CanTellNews document_updated
updated = record { fits = refl; texts = tt; levels = omega arith }

gives_clear : (w : View) (v : FrontValue) → none ≡ w.tree → KnowsSheets v.sheets w.sheets → IsTaken move.clear v w
gives_clear w v is knows = record {
  after = told v none;
  is_taken = ap (with_message v (move_text move.clear)) (news_read document_updated updated);
  has = record { tree = is; sheets = knows };
  asks = refl;
  replies = same_nothing v.replies;
  pauses = same_nothing v.pauses;
  matched = same_nothing v.matched;
  taken = refl;
}

all_shown : (ids : List ℕ) (u : Nodes Seen) → AreShown ids u → list_all (is_shown u) ids ≡ true
all_shown [] u are = refl
all_shown (id ∷ ids) u are = both are.0 (all_shown ids u are.1)

gives_pause : (why : PauseData) (u : View) (v : FrontValue) → CanBeTold u → AreShown (paused_nodes why) u.tree → Has v u
    → IsTaken (move.met why) v u
gives_pause why u v before are has =
    let shown : AreShown (paused_nodes why) v.tree = subst (AreShown (paused_nodes why)) (sym has.tree) are in
    let can : CanTellNews (paused why) = record { fits = pause_fits why u.tree are before.tree.forms; texts = tt; levels = omega arith } in
    record {
      after = halted v why;
      is_taken =
          ap (with_message v (move_text (move.met why))) (news_read (paused why) can)
          ∙ ap (λ (b : Bool). cond b (taken_well (halted v why)) (Err UnknownNode)) (all_shown (paused_nodes why) v.tree shown);
      has = record { tree = has.tree; sheets = has.sheets };
      asks = refl;
      replies = same_nothing v.replies;
      pauses = refl;
      matched = same_nothing v.matched;
      taken = refl;
    }

-- ---- replies

-- a reply that is written is read as one of its method
reply_taken : (v : FrontValue) (id : ℕ) (body : ReplyBody) (method : List ℕ) → is_counted id ≡ true → fits_body body ≡ true
    → BodyHasUtf8 body → body_height body ≤ most_told_root
    → IsAskOf id method v.asks → answers method body ≡ true
    → take_frame v (reply_text id body)
    ≡ with_effect (with_matched v (matched_told id body)) (reply_frame id (reply_text id body)) (effect_of method body)
reply_taken v id body method counted fits texts levels waits is =
    ap (with_message v (reply_text id body))
    (replies_are_read id body counted fits (replies_are_shallow id body levels) (replies_are_utf8 id body counted fits texts))
    ∙ ap (with_reply v (reply_frame id (reply_text id body)) (body_data body)) waits
    ∙ ap (with_body v (reply_frame id (reply_text id body)) method) (results_are_read method body is fits)

gives_root : (id : ℕ) (b : Branch Seen) (w : View) (v : FrontValue) → CanBeTold w → alone b ≡ w.tree → KnowsSheets v.sheets w.sheets
    → is_counted id ≡ true → height (alone b) ≤ most_told_root
    → IsAskOf id (codes "DOM.getDocument") v.asks → IsTaken (move.root id b) v w
gives_root id b w v after is knows counted low waits =
    let can : IsTellable (alone b) = subst IsTellable (sym is) after.tree in
    let body = Root (told_branch 0 b) in
    let fits = shown_trees_fit b (and_left (suits_tree true b) true can.forms) in
    let levels : body_height body ≤ most_told_root = rw (height-told 0 (alone b)) low in
    let same = with_matched v [] in
    record {
      after = replied same (reply_frame id (reply_text id body)) true (alone b);
      is_taken =
          reply_taken v id body (codes "DOM.getDocument") counted fits (texts-told 0 (alone b) can.texts) levels waits refl
          ∙ ap (with_root same (reply_frame id (reply_text id body)) (told_branch 0 b)) (root_fault-told b can.view)
          ∙ ap (λ (tree : Nodes Seen). taken_well (replied same (reply_frame id (reply_text id body)) true tree)) (seen-told 0 (alone b));
      has = record { tree = is; sheets = knows };
      asks = refl;
      replies = refl;
      pauses = same_nothing v.pauses;
      matched = refl;
      taken = refl;
    }

quiet_stays : (v : FrontValue) (id : ℕ) (frame : List ℕ) (x : Effect) → is_quiet x ≡ true
    → with_effect v (reply_frame id frame) x ≡ Ok (replied v (reply_frame id frame) true v.tree)
quiet_stays v id frame (effect.Document tree) e = absurd cc
quiet_stays v id frame (effect.SheetText text) e = absurd cc
quiet_stays v id frame effect.AllOff e = absurd cc
quiet_stays v id frame effect.SheetsOff e = absurd cc
quiet_stays v id frame effect.NothingElse e = refl

gives_reply : (id : ℕ) (body : ReplyBody) (w : View) (v : FrontValue) → IsPlainReply id body → IsReplyAlone id body v.asks → Has v w
    → IsTaken (move.replied id body) v w
gives_reply id body w v plain is has = record {
  after = replied (with_matched v (matched_told id body)) (reply_frame id (reply_text id body)) true v.tree;
  is_taken =
      reply_taken v id body is.method plain.id_fits plain.fits plain.texts plain.levels is.waits is.answers
      ∙ quiet_stays (with_matched v (matched_told id body)) id (reply_text id body) (effect_of is.method body) is.quiet;
  has = record { tree = has.tree; sheets = has.sheets };
  asks = refl;
  replies = refl;
  pauses = same_nothing v.pauses;
  matched = refl;
  taken = refl;
}

nothing_levels : body_height Nothing ≤ most_told_root
nothing_levels = omega arith

gives_end : (id : ℕ) (w : View) (v : FrontValue) → none ≡ w.tree → w.sheets ≡ [] → is_counted id ≡ true
    → IsAskOf id (codes "DOM.disable") v.asks → IsTaken (move.all_off id) v w
gives_end id w v is bare counted waits = record {
  after = record (replied (with_matched v []) (reply_frame id (reply_text id Nothing)) true none) { sheets = [] };
  is_taken = reply_taken v id Nothing (codes "DOM.disable") counted refl tt nothing_levels waits refl;
  has = record { tree = is; sheets = subst (KnowsSheets []) (sym bare) tt };
  asks = refl;
  replies = refl;
  pauses = same_nothing v.pauses;
  matched = refl;
  taken = refl;
}

gives_sheets_end : (id : ℕ) (w : View) (v : FrontValue) → v.tree ≡ w.tree → w.sheets ≡ [] → is_counted id ≡ true
    → IsAskOf id (codes "CSS.disable") v.asks → IsTaken (move.sheets_off id) v w
gives_sheets_end id w v is bare counted waits = record {
  after = record (replied (with_matched v []) (reply_frame id (reply_text id Nothing)) true v.tree) { sheets = [] };
  is_taken = reply_taken v id Nothing (codes "CSS.disable") counted refl tt nothing_levels waits refl;
  has = record { tree = is; sheets = subst (KnowsSheets []) (sym bare) tt };
  asks = refl;
  replies = refl;
  pauses = same_nothing v.pauses;
  matched = refl;
  taken = refl;
}

-- a refusal, with an id or without one
gives_refusal : (r : Refused) (w : View) (v : FrontValue) (o : Option ℕ) → r.id ≡ o → Has v w → holds_of_some is_counted r.id ≡ true
    → Waits o v.asks → IsTaken (move.failed r) v w
gives_refusal r w v None no_id has fits waits = record {
  after = refused v (refused_text r);
  is_taken =
      ap (with_message v (refused_text r)) (refusals_are_read r fits)
      ∙ ap (λ (o : Option ℕ). with_message v (refused_text r) (Some (fault o (code_of r.why) (refusal_words r.why)))) no_id;
  has = record { tree = has.tree; sheets = has.sheets };
  asks = sym (ap (λ (o : Option ℕ). without_all (option_to_list o) v.asks) no_id);
  replies = sym (ap (λ (o : Option ℕ). v.replies ++ kept_fault o v.asks (refused_text r)) no_id);
  pauses = same_nothing v.pauses;
  matched = same_nothing v.matched;
  taken = refl;
}
gives_refusal r w v (Some id) has_id has fits waits = record {
  after = replied v (reply_frame id (refused_text r)) false v.tree;
  is_taken =
      ap (with_message v (refused_text r)) (refusals_are_read r fits)
      ∙ ap (λ (o : Option ℕ). with_message v (refused_text r) (Some (fault o (code_of r.why) (refusal_words r.why)))) has_id
      ∙ ap (with_fault v (reply_frame id (refused_text r))) waits.1;
  has = record { tree = has.tree; sheets = has.sheets };
  asks = sym (ap (λ (o : Option ℕ). without_all (option_to_list o) v.asks) has_id);
  replies = sym (ap (λ (o : Option ℕ). v.replies ++ kept_fault o v.asks (refused_text r)) has_id);
  pauses = same_nothing v.pauses;
  matched = same_nothing v.matched;
  taken = refl;
}

-- ---- sheets

-- the tree stays, and these sheets are known
told_sheets_has : (v : FrontValue) (u w : View) (sheets : List KnownSheet) → Has v u → w.tree ≡ u.tree → KnowsSheets sheets w.sheets
    → Has (told_sheets v sheets) w
told_sheets_has v u w sheets has same knows = record { tree = has.tree ∙ sym same; sheets = knows }

gives_added : (s : ShownSheet) (u w : View) (v : FrontValue) → CanBeTold w → w ≡ record { tree = u.tree; sheets = u.sheets ++ s ∷ [] }
    → is_counted (text_units s.text) ≡ true
    → Has v u → IsTaken (move.added s) v w
gives_added s u w v after is counted has =
    let sheets_are : w.sheets ≡ u.sheets ++ s ∷ [] = ap (λ (x : View). x.sheets) is in
    let number : is_sheet s.number ≡ true = last_is_sheet u.sheets s (subst AreSheets sheets_are after.sheets) in
    let new : has_sheet s.number v.sheets ≡ false =
    known-has s.number v.sheets u.sheets has.sheets
    ∙ apart_last u.sheets s (subst (λ (ss : List ShownSheet). is_distinct (map sheet_number ss) ≡ true) sheets_are after.apart) in
    let sheets = v.sheets ++ told_sheet (sheet_header s) ∷ [] in
    let can : CanTellNews (sheet_added (sheet_header s)) = record {
      fits = added_news_fit s number counted;
      texts = tt;
      levels = omega arith;
    } in
    record {
      after = told_sheets v sheets;
      is_taken =
          ap (with_message v (move_text (move.added s))) (news_read (sheet_added (sheet_header s)) can)
          ∙ ap (λ (b : Bool). cond b (Err IdTaken) (taken_well (told_sheets v sheets))) new;
      has = told_sheets_has v u w sheets has (ap (λ (x : View). x.tree) is)
          (subst (KnowsSheets sheets) (sym sheets_are) (known-added v.sheets u.sheets s has.sheets));
      asks = refl;
      replies = same_nothing v.replies;
      pauses = same_nothing v.pauses;
      matched = same_nothing v.matched;
      taken = refl;
    }

-- an event names a sheet that is known
known_sheet : (n : ℕ) (u : View) (v : FrontValue) → shows_sheet n u.sheets ≡ true → Has v u → (sheets : List KnownSheet)
    → with_sheet v n sheets ≡ Ok (told_sheets v sheets)
known_sheet n u v shown has sheets =
    ap (λ (b : Bool). cond b (taken_well (told_sheets v sheets)) (Err UnknownSheet)) (known-has n v.sheets u.sheets has.sheets ∙ shown)

gives_dropped : (n : ℕ) (u w : View) (v : FrontValue) → CanBeTold u → w ≡ record { tree = u.tree; sheets = sheets_without n u.sheets }
    → shows_sheet n u.sheets ≡ true
    → Has v u → IsTaken (move.dropped n) v w
gives_dropped n u w v before is shown has =
    let sheets = without_sheet n v.sheets in
    let can : CanTellNews (sheet_removed n) = record {
      fits = removed_news_fit n (shown_is_sheet n u.sheets before.sheets shown);
      texts = tt;
      levels = omega arith;
    } in
    record {
      after = told_sheets v sheets;
      is_taken = ap (with_message v (move_text (move.dropped n))) (news_read (sheet_removed n) can) ∙ known_sheet n u v shown has sheets;
      has = told_sheets_has v u w sheets has (ap (λ (x : View). x.tree) is)
          (subst (KnowsSheets sheets) (sym (ap (λ (x : View). x.sheets) is)) (known-without n v.sheets u.sheets has.sheets));
      asks = refl;
      replies = same_nothing v.replies;
      pauses = same_nothing v.pauses;
      matched = same_nothing v.matched;
      taken = refl;
    }

gives_rewritten : (n : ℕ) (text : List ℕ) (u w : View) (v : FrontValue) → CanBeTold u
    → w ≡ record { tree = u.tree; sheets = sheets_with_text n text u.sheets }
    → shows_sheet n u.sheets ≡ true → Has v u → IsTaken (move.rewritten n text) v w
gives_rewritten n text u w v before is shown has =
    let sheets = marked_old n v.sheets in
    let can : CanTellNews (sheet_changed n) = record {
      fits = changed_news_fit n (shown_is_sheet n u.sheets before.sheets shown);
      texts = tt;
      levels = omega arith;
    } in
    record {
      after = told_sheets v sheets;
      is_taken = ap (with_message v (move_text (move.rewritten n text)))
          (news_read (sheet_changed n) can) ∙ known_sheet n u v shown has sheets;
      has = told_sheets_has v u w sheets has (ap (λ (x : View). x.tree) is)
          (subst (KnowsSheets sheets) (sym (ap (λ (x : View). x.sheets) is)) (known-rewritten n text v.sheets u.sheets has.sheets));
      asks = refl;
      replies = same_nothing v.replies;
      pauses = same_nothing v.pauses;
      matched = same_nothing v.matched;
      taken = refl;
    }

text_levels : (text : List ℕ) → body_height (SheetText text) ≤ most_told_root
text_levels text = omega arith

gives_text : (id n : ℕ) (text : List ℕ) (u : View) (v : FrontValue) → CanBeTold u → shown_text n u.sheets ≡ Some text → is_counted id ≡ true
    → IsTextAsked id n v.asks → Has v u → IsTaken (move.texted id n text) v u
gives_text id n text u v can shown counted asked has =
    let frame = reply_text id (SheetText text) in record {
      after =
          record (replied (with_matched v []) (reply_frame id frame) true v.tree) {
            sheets = sheets_fetched (fetched_sheet id v.asks) text v.sheets;
          };
      is_taken =
          reply_taken v id (SheetText text) (codes "CSS.getStyleSheetText") counted refl (shown_utf8 n text u.sheets can.sheets shown)
          (text_levels text) asked.waits refl;
      has = record {
        tree = has.tree;
        sheets = known-fetched n (fetched_sheet id v.asks) text v.sheets u.sheets asked.of_sheet shown has.sheets;
      };
      asks = refl;
      replies = refl;
      pauses = same_nothing v.pauses;
      matched = refl;
      taken = refl;
    }

-- ---- every move

-- a view that stays as it is
still_has : (v : FrontValue) (u w : View) → w ≡ u → Has v u → Has v w
still_has v u w e has = subst (Has v) (sym e) has

-- its sheets stay
still_knows : (v : FrontValue) (u w : View) → w.sheets ≡ u.sheets → Has v u → KnowsSheets v.sheets w.sheets
still_knows v u w e has = subst (KnowsSheets v.sheets) (sym e) has.sheets

-- each move leads a front from the one view to the other
pub move_gives : MoveGives
move_gives (move.change id c) u w v before after moves has waits = gives_change id c u w v before after moves.0 moves.1 has
move_gives move.clear u w v before after moves has waits =
    gives_clear w v (ap (λ (x : View). x.tree) (sym moves)) (still_knows v u w (ap (λ (x : View). x.sheets) moves) has)
move_gives (move.met why) u w v before after moves has waits = subst (IsTaken (move.met why) v) (sym moves.0)
    (gives_pause why u v before moves.1 has)
move_gives (move.added s) u w v before after moves has waits = gives_added s u w v after moves.0 moves.1 has
move_gives (move.dropped n) u w v before after moves has waits = gives_dropped n u w v before moves.0 moves.1 has
move_gives (move.rewritten n text) u w v before after moves has waits = gives_rewritten n text u w v before moves.0 moves.1 has
move_gives (move.root id b) u w v before after moves has waits =
    gives_root id b w v after (ap (λ (x : View). x.tree) (sym moves.0))
    (still_knows v u w (ap (λ (x : View). x.sheets) moves.0) has) moves.1 moves.2 waits
move_gives (move.texted id n text) u w v before after moves has waits =
    subst (IsTaken (move.texted id n text) v) (sym moves.0) (gives_text id n text u v before moves.1 moves.2 waits has)
move_gives (move.replied id body) u w v before after moves has waits = gives_reply id body w v moves.1 waits (still_has v u w moves.0 has)
move_gives (move.all_off id) u w v before after moves has waits =
    gives_end id w v (ap (λ (x : View). x.tree) (sym moves.0)) (ap (λ (x : View). x.sheets) moves.0) moves.1 waits
move_gives (move.sheets_off id) u w v before after moves has waits =
    gives_sheets_end id w v (has.tree ∙ ap (λ (x : View). x.tree) (sym moves.0)) (ap (λ (x : View). x.sheets) moves.0) moves.1 waits
move_gives (move.failed r) u w v before after moves has waits = gives_refusal r w v r.id refl (still_has v u w moves.0 has) moves.1 waits

-- ---- a course

course_begins : {ms : List Move} {u w : View} → Course ms u w → CanBeTold u
course_begins (ends v can) = can
course_begins (goes m ms u v w can moves course) = can

more_taken : (m : Move) (ms : List Move) (u w : View) (v : FrontValue) → (one : IsTaken m v u) → AreTaken ms one.after w
    → AreTaken (m ∷ ms) v w
more_taken m ms u w v one rest = record {
  after = rest.after;
  are_taken =
      ap (λ (r : Result FrontValue FrontKind). fold_result (after_message v (λ x. front_folded x (map move_text ms)) r).value
      (after_message v (λ x. front_folded x (map move_text ms)) r).fault) one.is_taken
      ∙ rest.are_taken;
  has = rest.has;
  asks = rest.asks ∙ ap (asks_after_all ms) one.asks;
  replies =
      rest.replies ∙ ap (λ (asks : List Ask). one.after.replies ++ kept_after_all ms asks) one.asks
      ∙ ap (λ (ks : List _). ks ++ kept_after_all ms (asks_after m v.asks)) one.replies
      ∙ append_assoc v.replies (kept_after m v.asks) (kept_after_all ms (asks_after m v.asks));
  pauses = rest.pauses ∙ ap (λ (ps : List _). ps ++ flat_map pauses_after ms) one.pauses ∙ append_assoc v.pauses (pauses_after m)
      (flat_map pauses_after ms);
  matched = rest.matched ∙ ap (λ (rs : List _). rs ++ flat_map matched_after ms) one.matched ∙ append_assoc v.matched (matched_after m)
      (flat_map matched_after ms);
  taken = let a = one.taken in let b = rest.taken in omega arith;
}

course_from : (ms : List Move) (u w : View) → Course ms u w → (v : FrontValue) → Has v u → AreAwaited ms v.asks → AreTaken ms v w
course_from [] u _ (ends _ can) v has waits = record {
  after = v;
  are_taken = refl;
  has = has;
  asks = refl;
  replies = same_nothing v.replies;
  pauses = same_nothing v.pauses;
  matched = same_nothing v.matched;
  taken = omega arith;
}
course_from (m ∷ ms) u w (goes _ _ _ x _ can moves course) v has waits =
    let one = move_gives m u x v can (course_begins course) moves has waits.0 in
    more_taken m ms x w v one (course_from ms x w course one.after one.has (subst (AreAwaited ms) (sym one.asks) waits.1))

pub course_gives : CourseGives
course_gives ms u w v course has waits = course_from ms u w course v has waits

-- ---- moves that answer the first asks

waits_none : (o : Option ℕ) (asks : List Ask) → option_to_list o ≡ [] → Waits o asks
waits_none None asks e = tt
waits_none (Some id) asks e = absurd cc

awaited_none : (m : Move) (asks : List Ask) → answered_by m ≡ [] → IsAwaited m asks
awaited_none (move.change id c) asks e = tt
awaited_none move.clear asks e = tt
awaited_none (move.met why) asks e = tt
awaited_none (move.added s) asks e = tt
awaited_none (move.dropped n) asks e = tt
awaited_none (move.rewritten n text) asks e = tt
awaited_none (move.root id b) asks e = absurd cc
awaited_none (move.texted id n text) asks e = absurd cc
awaited_none (move.replied id body) asks e = absurd cc
awaited_none (move.all_off id) asks e = absurd cc
awaited_none (move.sheets_off id) asks e = absurd cc
awaited_none (move.failed r) asks e = waits_none r.id asks e

first_asks : (id : ℕ) (ask : Ask) (asks : List Ask) → ask.id ≡ id → IsAskOf id ask.method (ask ∷ asks)
first_asks id ask asks e = rw (eq-eqb ask.id id e) refl

first_of_sheet : (id n : ℕ) (ask : Ask) (asks : List Ask) → ask.id ≡ id → IsOfSheet n ask.sheet
    → IsOfSheet n (fetched_sheet id (ask ∷ asks))
first_of_sheet id n ask asks e of_sheet = rw (eq-eqb ask.id id e) of_sheet

first_gone : (id : ℕ) (ask : Ask) (asks : List Ask) → ask.id ≡ id → asks_without id (ask ∷ asks) ≡ asks
first_gone id ask asks e = rw (eq-eqb ask.id id e) refl

first_waits : (o : Option ℕ) (ask : Ask) (asks : List Ask) → o ≡ Some ask.id → Waits o (ask ∷ asks)
first_waits None ask asks e = absurd cc
first_waits (Some id) ask asks e = (ask.method, first_asks id ask asks cc)

failed_gone : (o : Option ℕ) (ask : Ask) (asks : List Ask) → o ≡ Some ask.id → without_all (option_to_list o) (ask ∷ asks) ≡ asks
failed_gone None ask asks e = absurd cc
failed_gone (Some id) ask asks e = first_gone id ask asks cc

abbrev Answered : Move → Ask → List Ask → Type 0
Answered m ask asks = IsAwaited m (ask ∷ asks) × (asks_after m (ask ∷ asks) ≡ asks)

first_answered : (m : Move) (ask : Ask) (asks : List Ask) → IsAnswer m ask → Answered m ask asks
first_answered (move.change id c) ask asks is = absurd is
first_answered move.clear ask asks is = absurd is
first_answered (move.met why) ask asks is = absurd is
first_answered (move.added s) ask asks is = absurd is
first_answered (move.dropped n) ask asks is = absurd is
first_answered (move.rewritten n text) ask asks is = absurd is
first_answered (move.root id b) ask asks is = (first_asks id ask asks is.0 ∙ ap (λ (m : List ℕ). Some m) is.1, first_gone id ask asks is.0)
first_answered (move.texted id n text) ask asks is = (
  record {
    waits = first_asks id ask asks is.0 ∙ ap (λ (m : List ℕ). Some m) is.1;
    of_sheet = first_of_sheet id n ask asks is.0 is.2;
  },
  first_gone id ask asks is.0,
)
first_answered (move.replied id body) ask asks is =
    (record { method = ask.method; waits = first_asks id ask asks is.0; answers = is.1; quiet = is.2 }, first_gone id ask asks is.0)
first_answered (move.all_off id) ask asks is = (first_asks id ask asks is.0 ∙ ap (λ (m : List ℕ). Some m) is.1, first_gone id ask asks is.0)
first_answered (move.sheets_off id) ask asks is =
    (first_asks id ask asks is.0 ∙ ap (λ (m : List ℕ). Some m) is.1, first_gone id ask asks is.0)
first_answered (move.failed r) ask asks is = (first_waits r.id ask asks is, failed_gone r.id ask asks is)

abbrev Ready : List Move → List Ask → List Ask → Type 0
Ready ms asks rest = AreAwaited ms asks × (asks_after_all ms asks ≡ rest)

turn_more : (m : Move) (ms : List Move) (asks left rest : List Ask) → IsAwaited m asks → asks_after m asks ≡ left → Ready ms left rest
    → Ready (m ∷ ms) asks rest
turn_more m ms asks left rest waits is ready =
    ((waits, subst (AreAwaited ms) (sym is) ready.0), ap (asks_after_all ms) is ∙ ready.1)

turns : {ms : List Move} {asks rest : List Ask} → InTurn ms asks rest → Ready ms asks rest
turns (rests asks) = (tt, refl)
turns (tells m ms asks rest e t) = turn_more m ms asks asks rest (awaited_none m asks e) (ap (λ (ids : List ℕ). without_all ids asks) e)
    (turns t)
turns (meets m ms ask asks rest is t) =
    let a = first_answered m ask asks is in
    turn_more m ms (ask ∷ asks) asks rest a.0 a.1 (turns t)

pub turns_are_awaited : TurnsAreAwaited
turns_are_awaited ms asks rest t = turns t
