-- What the fold keeps.
use Rattle.std.specs.Prelude.{◌≡◌, ℕ, ◌+◌, Bool, List, [], ◌∷◌, ◌++◌, map, length, codes, true, false, Option, Some, None, Ok, ⊤}
use Rattle.std.specs.List.{flat_map}
use Rattle.pipe_frames.specs.Frames.{frames_from, held_after}
use Rattle.cdp_messages.specs.declared.down.ReplyBody.{ReplyBody}
use Rattle.client_views.specs.declared.effects.Effect.{Effect}
use Rattle.client_views.specs.declared.effects.Effect.TheVariants as effect
use Rattle.client_views.specs.Effects.{effect_of}
use Rattle.client_views.specs.Moves.{Move, change, clear, met, added, dropped, rewritten, root, texted, replied, all_off, sheets_off}
use Rattle.client_views.specs.Moves.{failed, move_text, CanBeTold, Moves, Course, answered_by}
use Rattle.cdp_messages.specs.Laws.{answers}
use Rattle.client_views.specs.Views.{ShownSheet, View}
use Rattle.front_mirror.specs.declared.replies.Ask.{Ask}
use Rattle.front_mirror.specs.declared.replies.Kept.{Kept}
use Rattle.front_mirror.specs.declared.replies.MatchedReply.{MatchedReply}
use Rattle.front_mirror.specs.declared.panels.PanelKind.{PanelKind}
use Rattle.front_mirror.specs.declared.pauses.SeenPause.{SeenPause}
use Rattle.front_mirror.specs.declared.sheets.KnownSheet.{KnownSheet}
use Rattle.front_mirror.specs.Front.{FrontValue, plain_ask, fetch_ask, method_waiting, fetched_sheet, asks_without, reply_kept, kept_reply}
use Rattle.front_mirror.specs.Front.{matched_told, seen_pause, take_frame, fold_result, fold_frames, fold, FrontState}
use Rattle.front_mirror.specs.Front.{first_state, after_take}
use Rattle.front_mirror.specs.Front.{after_ask, after_fetch}

-- the front with one ask more that waits
abbrev pub ask_joined : FrontValue → Ask → FrontValue
ask_joined v ask = record v { asks = v.asks ++ ask ∷ [] }

-- the fold of a longer stream goes on from the fold of the shorter one
abbrev pub FoldGoesOn : Type 0
FoldGoesOn =
    (waiting : List Ask) (down more : List ℕ) (v : FrontValue) → fold waiting down ≡ Ok v
    → fold waiting (down ++ more) ≡ fold_frames v (frames_from (held_after [] down) more)

-- an ask more only joins those that wait
abbrev pub AskJoins : Type 0
AskJoins =
    (waiting : List Ask) (ask : Ask) (down : List ℕ) (v : FrontValue) → fold waiting down ≡ Ok v
    → fold (waiting ++ ask ∷ []) down ≡ Ok (ask_joined v ask)

-- ---- a front that runs

-- The state of a front is that of the fold: of the bytes that it took, in whatever pieces, and the asks that it sent.
pub record IsFold (waiting : List Ask) (down : List ℕ) (s : FrontState) : Type 0 where
  pub value : fold waiting down ≡ Ok s.value
  pub rest : s.rest ≡ held_after [] down
  pub well : s.fault ≡ None

-- a new front is the fold of nothing
abbrev pub FrontBegins : Type 0
FrontBegins = (kinds : List PanelKind) → IsFold [] [] (first_state kinds)

-- after more bytes it has the value of the fold of them all, or the fault that this fold meets
abbrev pub TakesFold : Type 0
TakesFold =
    (waiting : List Ask) (down piece : List ℕ) (s : FrontState) → IsFold waiting down s
    → fold waiting (down ++ piece) ≡ fold_result (after_take s piece).value (after_take s piece).fault

-- a front in which there was no fault stays the fold of what it took
abbrev pub StaysFold : Type 0
StaysFold =
    (waiting : List Ask) (down piece : List ℕ) (s : FrontState) → IsFold waiting down s
    → (after_take s piece).fault ≡ None → IsFold waiting (down ++ piece) (after_take s piece)

-- after an ask it is the fold that waits for this one too
abbrev pub AsksFold : Type 0
AsksFold =
    (waiting : List Ask) (down method : List ℕ) (s : FrontState) → IsFold waiting down s
    → IsFold (waiting ++ plain_ask s.next method ∷ []) down (after_ask s method)

-- a front after a fetch is the fold that waits for this one too
abbrev pub FetchesFold : Type 0
FetchesFold =
    (waiting : List Ask) (down : List ℕ) (sheet : ℕ) (s : FrontState) → IsFold waiting down s
    → IsFold (waiting ++ fetch_ask s.fetches sheet ∷ []) down (after_fetch s sheet)

-- ---- the moves of a view

-- the front knows the sheet: its number and its origin, and its text where it has one that is not old
pub record KnowsSheet (k : KnownSheet) (s : ShownSheet) : Type 0 where
  pub number : k.number ≡ s.number
  pub origin : k.origin ≡ s.origin
  pub text : k.stale ≡ false → k.text ≡ Some s.text

-- the front knows these sheets, one by one, and no others
abbrev pub KnowsSheets : List KnownSheet → List ShownSheet → Type 0
KnowsSheets [] [] = ⊤
KnowsSheets [] (s ∷ ss) = ⊥
KnowsSheets (k ∷ ks) [] = ⊥
KnowsSheets (k ∷ ks) (s ∷ ss) = KnowsSheet k s × KnowsSheets ks ss

-- the front shows what the view has
pub record Has (v : FrontValue) (w : View) : Type 0 where
  pub tree : v.tree ≡ w.tree
  pub sheets : KnowsSheets v.sheets w.sheets

-- the first ask of that id is one of that method
abbrev pub IsAskOf : ℕ → List ℕ → List Ask → Type 0
IsAskOf id method asks = method_waiting id asks ≡ Some method

-- the view stays as it is
abbrev pub is_quiet : Effect → Bool
is_quiet (effect.Document tree) = false
is_quiet (effect.SheetText text) = false
is_quiet effect.AllOff = false
is_quiet effect.SheetsOff = false
is_quiet effect.NothingElse = true

-- an ask of that id waits, the result is one of its method, and the view stays as it is
pub record IsReplyAlone (id : ℕ) (body : ReplyBody) (asks : List Ask) : Type 0 where
  pub method : List ℕ
  pub waits : IsAskOf id method asks
  pub answers : answers method body ≡ true
  pub quiet : is_quiet (effect_of method body) ≡ true

-- where it is a fetch, it is one of that sheet
abbrev pub IsOfSheet : ℕ → Option ℕ → Type 0
IsOfSheet n None = ⊤
IsOfSheet n (Some sheet) = sheet ≡ n

-- an ask of that id for the text of a sheet waits; where it is a fetch, it is one of that sheet
pub record IsTextAsked (id n : ℕ) (asks : List Ask) : Type 0 where
  pub waits : IsAskOf id (codes "CSS.getStyleSheetText") asks
  pub of_sheet : IsOfSheet n (fetched_sheet id asks)

-- an ask of that id waits, where there is an id
abbrev pub Waits : Option ℕ → List Ask → Type 0
Waits None asks = ⊤
Waits (Some id) asks = (method : List ℕ) × IsAskOf id method asks

-- what a move answers waits for it; events wait for nothing
abbrev pub IsAwaited : Move → List Ask → Type 0
IsAwaited (change id c) asks = ⊤
IsAwaited clear asks = ⊤
IsAwaited (met why) asks = ⊤
IsAwaited (added s) asks = ⊤
IsAwaited (dropped n) asks = ⊤
IsAwaited (rewritten n text) asks = ⊤
IsAwaited (root id b) asks = IsAskOf id (codes "DOM.getDocument") asks
IsAwaited (texted id n text) asks = IsTextAsked id n asks
IsAwaited (replied id body) asks = IsReplyAlone id body asks
IsAwaited (all_off id) asks = IsAskOf id (codes "DOM.disable") asks
IsAwaited (sheets_off id) asks = IsAskOf id (codes "CSS.disable") asks
IsAwaited (failed r) asks = Waits r.id asks

-- the asks without the first of each of these ids
abbrev pub without_all : List ℕ → List Ask → List Ask
without_all [] asks = asks
without_all (id ∷ ids) asks = without_all ids (asks_without id asks)

-- the asks that wait after a move
abbrev pub asks_after : Move → List Ask → List Ask
asks_after m asks = without_all (answered_by m) asks

-- what a front keeps of an error reply
abbrev pub kept_fault : Option ℕ → List Ask → List ℕ → List Kept
kept_fault None asks frame = reply_kept None None frame false ∷ []
kept_fault (Some id) asks frame = kept_reply id asks frame false

-- the reply that a front keeps of a move, where these asks wait, if it is one; a reply to a fetch is not kept
abbrev pub kept_after : Move → List Ask → List Kept
kept_after (change id c) asks = []
kept_after clear asks = []
kept_after (met why) asks = []
kept_after (added s) asks = []
kept_after (dropped n) asks = []
kept_after (rewritten n text) asks = []
kept_after (root id b) asks = kept_reply id asks (move_text (root id b)) true
kept_after (texted id n text) asks = kept_reply id asks (move_text (texted id n text)) true
kept_after (replied id body) asks = kept_reply id asks (move_text (replied id body)) true
kept_after (all_off id) asks = kept_reply id asks (move_text (all_off id)) true
kept_after (sheets_off id) asks = kept_reply id asks (move_text (sheets_off id)) true
kept_after (failed r) asks = kept_fault r.id asks (move_text (failed r))

-- the pause that a front keeps of a move, if it is one
abbrev pub pauses_after : Move → List SeenPause
pauses_after (change id c) = []
pauses_after clear = []
pauses_after (met why) = seen_pause why ∷ []
pauses_after (added s) = []
pauses_after (dropped n) = []
pauses_after (rewritten n text) = []
pauses_after (root id b) = []
pauses_after (texted id n text) = []
pauses_after (replied id body) = []
pauses_after (all_off id) = []
pauses_after (sheets_off id) = []
pauses_after (failed r) = []

-- the matched styles that a front keeps of a move, if it tells some
abbrev pub matched_after : Move → List MatchedReply
matched_after (change id c) = []
matched_after clear = []
matched_after (met why) = []
matched_after (added s) = []
matched_after (dropped n) = []
matched_after (rewritten n text) = []
matched_after (root id b) = []
matched_after (texted id n text) = []
matched_after (replied id body) = matched_told id body
matched_after (all_off id) = []
matched_after (sheets_off id) = []
matched_after (failed r) = []

-- The message of the move is taken: the front has the view then, what the move answers waits no longer, and a reply, a
-- pause or matched styles are kept.
pub record IsTaken (m : Move) (v : FrontValue) (w : View) : Type 0 where
  pub after : FrontValue
  pub is_taken : take_frame v (move_text m) ≡ Ok after
  pub has : Has after w
  pub asks : after.asks ≡ asks_after m v.asks
  pub replies : after.replies ≡ v.replies ++ kept_after m v.asks
  pub pauses : after.pauses ≡ v.pauses ++ pauses_after m
  pub matched : after.matched ≡ v.matched ++ matched_after m
  pub taken : after.taken ≡ v.taken + 1

-- a front that has the view before a move has the view after it, once it took the message
abbrev pub MoveGives : Type 0
MoveGives = (m : Move) (u w : View) (v : FrontValue) → CanBeTold u → CanBeTold w → Moves m u w → Has v u → IsAwaited m v.asks
    → IsTaken m v w

-- ---- many moves

-- each move is awaited when its turn comes
abbrev pub AreAwaited : List Move → List Ask → Type 0
AreAwaited [] asks = ⊤
AreAwaited (m ∷ ms) asks = IsAwaited m asks × AreAwaited ms (asks_after m asks)

-- the asks that wait after the moves
abbrev pub asks_after_all : List Move → List Ask → List Ask
asks_after_all [] asks = asks
asks_after_all (m ∷ ms) asks = asks_after_all ms (asks_after m asks)

-- the replies that a front keeps of the moves
abbrev pub kept_after_all : List Move → List Ask → List Kept
kept_after_all [] asks = []
kept_after_all (m ∷ ms) asks = kept_after m asks ++ kept_after_all ms (asks_after m asks)

-- the messages of the moves are taken one after another
pub record AreTaken (ms : List Move) (v : FrontValue) (w : View) : Type 0 where
  pub after : FrontValue
  pub are_taken : fold_frames v (map move_text ms) ≡ Ok after
  pub has : Has after w
  pub asks : after.asks ≡ asks_after_all ms v.asks
  pub replies : after.replies ≡ v.replies ++ kept_after_all ms v.asks
  pub pauses : after.pauses ≡ v.pauses ++ flat_map pauses_after ms
  pub matched : after.matched ≡ v.matched ++ flat_map matched_after ms
  pub taken : after.taken ≡ v.taken + length ms

-- the messages of a course of moves are taken one after another
abbrev pub CourseGives : Type 0
CourseGives = (ms : List Move) (u w : View) (v : FrontValue) → Course ms u w → Has v u → AreAwaited ms v.asks → AreTaken ms v w

-- the move answers the ask
abbrev pub IsAnswer : Move → Ask → Type 0
IsAnswer (change id c) ask = ⊥
IsAnswer clear ask = ⊥
IsAnswer (met why) ask = ⊥
IsAnswer (added s) ask = ⊥
IsAnswer (dropped n) ask = ⊥
IsAnswer (rewritten n text) ask = ⊥
IsAnswer (root id b) ask = (ask.id ≡ id) × (ask.method ≡ codes "DOM.getDocument")
IsAnswer (texted id n text) ask = (ask.id ≡ id) × (ask.method ≡ codes "CSS.getStyleSheetText") × IsOfSheet n ask.sheet
IsAnswer (replied id body) ask = (ask.id ≡ id) × (answers ask.method body ≡ true) × (is_quiet (effect_of ask.method body) ≡ true)
IsAnswer (all_off id) ask = (ask.id ≡ id) × (ask.method ≡ codes "DOM.disable")
IsAnswer (sheets_off id) ask = (ask.id ≡ id) × (ask.method ≡ codes "CSS.disable")
IsAnswer (failed r) ask = r.id ≡ Some ask.id

-- The moves answer the first of these asks one by one, in the order of the asks; the rest waits after them.
pub data InTurn : List Move → List Ask → List Ask → Type 0 where
  rests : (asks : List Ask) → InTurn [] asks asks
  tells : (m : Move) (ms : List Move) (asks rest : List Ask) → answered_by m ≡ [] → InTurn ms asks rest → InTurn (m ∷ ms) asks rest
  meets : (m : Move) (ms : List Move) (ask : Ask) (asks rest : List Ask) → IsAnswer m ask → InTurn ms asks rest
      → InTurn (m ∷ ms) (ask ∷ asks) rest

-- moves that answer the first asks one by one are awaited, and the rest waits after them
abbrev pub TurnsAreAwaited : Type 0
TurnsAreAwaited = (ms : List Move) (asks rest : List Ask) → InTurn ms asks rest → AreAwaited ms asks × (asks_after_all ms asks ≡ rest)
