-- A front end that shows the state of the page, and waits for the answers that are to come.
use Rattle.std.specs.Prelude.{⊤, map, ◌≡◌, ◌≤◌, ℕ, ◌+◌, ◌*◌, ◌^◌, List, [], ◌∷◌, ◌++◌, length, drop, Option, Some, None, is_some}
use Rattle.std.specs.Prelude.{option_and_then, codes, false, cond, nat_lt, bytes_eq, Err}
use Rattle.node_tree.specs.Numbers.{first_fetch, max_input}
use Rattle.serde_json.specs.Data.{Data, Members}
use Rattle.serde_json.specs.Find.{get_member, as_str, as_object}
use Rattle.std.specs.Str.Parse.{digits_value}
use Rattle.cdp_json.specs.Kinds.{as_whole, if_holds}
use Rattle.css_objects.specs.Sheets.{sheet_text}
use Rattle.page_tree.specs.Forms.{max_nodes}
use Rattle.page_forms.specs.Sheets.{max_sheets}
use Rattle.cdp_messages.specs.declared.command.Why.{Why}
use Rattle.cdp_messages.specs.Asked.{json_of, refusal, asked}
use Rattle.std.specs.Option.{option_to_list}
use Rattle.front_mirror.specs.declared.replies.Ask.{Ask}
use Rattle.front_mirror.specs.declared.faults.FrontKind.{FrontKind}
use Rattle.front_mirror.specs.Front.{FrontValue, first_value, plain_ask, fetch_ask, take_frame}
use Rattle.front_mirror.specs.Laws.{Has}
use Rattle.inspect_world.specs.World.{World, Spent, one_ask, one_fetch, one_raw, one_turn}
use Rattle.back_end.specs.States.{IsState, view_of}
use Rattle.back_end.specs.Steps.{Turn}
use Rattle.inspect_world.specs.RunStates.{RunState, ToldStyles, told_styles, run_step, run_turn}
use Rattle.front_mirror.specs.declared.replies.MatchedReply.{MatchedReply}
use Rattle.back_end.specs.Laws.{most_ids, tree_edits, edits_kept, edits_asked, IsTurn}
use Rattle.session_runs.specs.Fold.{Machine}
use Rattle.session_runs.specs.Fold as fold

-- ---- the asks that stand in frames

-- an ask of that method and id, which is no fetch
abbrev pub ask_with : List ℕ → ℕ → Ask
ask_with method id = plain_ask id method

-- the number of the sheet whose id has this text
abbrev pub sheet_told : List ℕ → Option ℕ
sheet_told text = if_holds (λ n. bytes_eq (sheet_text n) text) (digits_value 10 (drop 1 text))

-- the sheet that parameters name
abbrev pub sheet_in_params : Data → Option ℕ
sheet_in_params params =
    option_and_then (λ ms. option_and_then sheet_told (option_and_then as_str (get_member (codes "styleSheetId") ms))) (as_object params)

-- The sheet that an ask fetches, by its id, its method and its parameters. The ids of fetches are from 2^30 on, and no other ask
-- has one of them.
abbrev pub sheet_asked : ℕ → List ℕ → Option Data → Option ℕ
sheet_asked id method params =
    cond (nat_lt id first_fetch) None (cond (bytes_eq method (codes "CSS.getStyleSheetText")) (option_and_then sheet_in_params params) None)

-- the ask that an object with this id and this method is
abbrev pub ask_by : Members → ℕ → List ℕ → Ask
ask_by frame id method = record { id = id; method = method; sheet = sheet_asked id method (get_member (codes "params") frame) }

-- the ask that an object is
abbrev pub ask_of : Members → Option Ask
ask_of frame =
    option_and_then (λ id. option_and_then (λ method. Some (ask_by frame id method))
    (option_and_then as_str (get_member (codes "method") frame)))
    (option_and_then as_whole (get_member (codes "id") frame))

-- the ask that a frame is: an object with an id and a method
abbrev pub ask_of_frame : List ℕ → Option Ask
ask_of_frame frame = option_and_then ask_of (option_and_then as_object (json_of frame))

-- the front waits for one more reply
abbrev pub with_ask : FrontValue → Option Ask → FrontValue
with_ask v None = v
with_ask v (Some ask) = record v { asks = v.asks ++ ask ∷ [] }

-- the front after a frame was sent
abbrev pub join : FrontValue → List ℕ → FrontValue
join v frame = with_ask v (ask_of_frame frame)

-- ---- what may be sent and done

-- how many bytes a script has at most
abbrev pub most_bytes : ℕ
most_bytes = max_input

-- how many asks and other frames it can come to at most: each is a line of four bytes at least
abbrev pub most_frames : ℕ
most_frames = 2 ^ 24

-- how many edits of the tree a history has at most: each frame comes to two
abbrev pub most_trees : ℕ
most_trees = 2 ^ 25

-- how many sheets a page has at most
abbrev pub most_sheets : ℕ
most_sheets = max_sheets

-- how many fetches a script can come to at most: in each settle, and in the closing one, one for each sheet of a page
abbrev pub most_fetches : ℕ
most_fetches = (most_bytes + 1) * most_sheets

-- a frame that names no ask, and to which the back end answers with an error reply without an id
pub record IsBare (frame : List ℕ) : Type 0 where
  pub no_ask : ask_of_frame frame ≡ None
  pub why : Why
  pub refused : asked frame false ≡ Err (refusal None why)

-- a frame that a front end may send: an ask, or a bare one
pub data Sendable (frame : List ℕ) : Type 0 where
  is_ask : (ask : Ask) → ask_of_frame frame ≡ Some ask → Sendable frame
  is_bare : IsBare frame → Sendable frame

-- the sheet whose text a frame fetches, if it is a fetch
abbrev pub sheet_fetched : List ℕ → Option ℕ
sheet_fetched frame = option_and_then (λ (ask : Ask). ask.sheet) (ask_of_frame frame)

-- the frame is no fetch
abbrev pub IsPlainFrame : List ℕ → Type 0
IsPlainFrame frame = sheet_fetched frame ≡ None

-- how many edits a frame comes to at most
unfoldable pub edits_of_frame : List ℕ → ℕ
edits_of_frame frame = edits_asked (asked frame false)

-- how many of these frames are no fetches: those alone may draw ids and serials
abbrev pub drawing : List (List ℕ) → ℕ
drawing [] = 0
drawing (frame ∷ frames) = cond (is_some (sheet_fetched frame)) 0 1 + drawing frames

-- frames each of which may be sent
abbrev pub AreSendable : List (List ℕ) → Type 0
AreSendable [] = ⊤
AreSendable (frame ∷ frames) = Sendable frame × AreSendable frames

-- how many edits these frames ask for, but for fetches
abbrev pub asking : List (List ℕ) → ℕ
asking [] = 0
asking (frame ∷ frames) = cond (is_some (sheet_fetched frame)) 0 (edits_of_frame frame) + asking frames

-- the asks that stand in frames
abbrev pub asks_among : List (List ℕ) → List Ask
asks_among [] = []
asks_among (frame ∷ frames) = option_to_list (ask_of_frame frame) ++ asks_among frames

-- After n the text may be sent, as the next ask, as the next fetch or as a bare frame, and m is then spent.
pub data IsNext (n : Spent) (text : List ℕ) : Spent → Type 0 where
  next_ask : (method : List ℕ) (edits : ℕ) → ask_of_frame text ≡ Some (ask_with method (n.asks + 1)) → edits_of_frame text ≤ edits
      → n.asks + n.raws + 1 ≤ most_frames → n.edits + edits ≤ most_bytes → IsNext n text (one_ask edits n)
  next_fetch : (sheet : ℕ) → ask_of_frame text ≡ Some (fetch_ask n.fetches sheet) → n.fetches + 1 ≤ most_fetches
      → IsNext n text (one_fetch n)
  next_raw : IsBare text → n.asks + n.raws + 1 ≤ most_frames → IsNext n text (one_raw n)

-- after n the script may make this step by itself
pub record IsNextTurn (n : Spent) (x : Turn) : Type 0 where
  pub is_turn : IsTurn x
  pub few : n.turns + 1 ≤ most_bytes

-- Lines of so many bytes more may be carried out. Each line of four bytes sends a frame, makes a step of the script or fetches the
-- texts of a page at most, and each byte may come to an edit; and after them the texts may be fetched once more.
pub record HasLeft (n : Spent) (bytes : ℕ) : Type 0 where
  pub frames : (n.asks + n.raws) * 4 + bytes ≤ most_bytes
  pub fetches : n.fetches + (bytes + 1) * most_sheets ≤ most_fetches
  pub turns : n.turns + bytes ≤ most_bytes
  pub edits : n.edits + bytes ≤ most_bytes

-- ---- fits

-- How many ids may have been drawn, with those that an undo of all edits of the tree would draw: by a frame that is no fetch as many
-- as the history has such edits at most, and by it and by a step of the script as many as any step draws at most.
abbrev pub most_drawn : Spent → ℕ
most_drawn n = (n.asks + n.raws) * (most_ids + most_trees) + n.turns * most_ids

-- how far the serials may have come: the load, a frame that is no fetch and a step of the script draw those of one page at most
abbrev pub most_serials : Spent → ℕ
most_serials n = (n.asks + n.raws + n.turns + 1) * (max_nodes + 1)

-- how far the numbers of sheets may have come: as far, by the sheets of one page at most
abbrev pub most_numbers : Spent → ℕ
most_numbers n = (n.asks + n.raws + n.turns + 1) * max_sheets + 1

-- how many searches there may have been: a frame that is no fetch makes one at most
abbrev pub most_searches : Spent → ℕ
most_searches n = n.asks + n.raws + n.turns

-- matched styles that a front end has kept
abbrev pub kept_styles : MatchedReply → ToldStyles
kept_styles r = told_styles r.ask r.matched

-- After n was spent the front shows exactly what the state's client sees, has kept just the matched styles that it was told, and
-- waits for the asks among these frames alone. Enough ids, serials, numbers of sheets and searches and places in the history are left
-- for these answers.
pub record IsFit (n : Spent) (v : FrontValue) (s : RunState) (frames : List (List ℕ)) : Type 0 where
  pub has : Has v (view_of s.back)
  pub styles : map kept_styles v.matched ≡ s.styles
  pub asks : asks_among frames ≡ v.asks
  pub sendable : AreSendable frames
  pub is_state : IsState s.back
  pub few : n.asks + n.raws ≤ most_frames
  pub few_turns : n.turns ≤ most_bytes
  pub few_edits : n.edits ≤ most_bytes
  pub drawn : length s.back.client.session.pushed + tree_edits s.back + drawing frames * (most_ids + most_trees) ≤ most_drawn n
  pub trees : tree_edits s.back + drawing frames * 2 ≤ (n.asks + n.raws) * 2
  pub edits : edits_kept s.back + asking frames ≤ n.edits
  pub serials : s.back.side.page.next + drawing frames * (max_nodes + 1) ≤ most_serials n
  pub numbers : s.back.side.next_sheet + drawing frames * max_sheets ≤ most_numbers n
  pub searches : s.back.client.searches.given + drawing frames ≤ most_searches n

-- A step of a replay asks for no room: a front end that fits leaves enough.
abbrev pub AlwaysRoom : RunState → Type 0
AlwaysRoom s = ⊤

-- What a replay may send next turns on what was spent alone.
abbrev pub IsNextIn : Spent → RunState → List (List ℕ) → List ℕ → Spent → Type 0
IsNextIn n s frames text m = IsNext n text m

-- how the run of a replay goes on
abbrev pub replay : Machine RunState FrontValue FrontKind Turn Spent
replay = record { step = run_step; act = run_turn; take = take_frame; join = join; one_turn = one_turn }

-- the two whole streams of a run, folded, fit its state
abbrev pub FitsWith : World RunState → List (List ℕ) → Type 0
FitsWith w frames = fold.FitsWith take_frame join IsFit (first_value []) w frames

-- the two whole streams of a run, folded, fit its state, where all whole frames are answered
abbrev pub Fits : World RunState → Type 0
Fits w = fold.Fits take_frame join IsFit (first_value []) w
