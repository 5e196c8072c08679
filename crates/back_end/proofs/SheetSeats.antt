-- What a seat does with sheets, and with the domain CSS, is the step of the state.
use Rattle.std.proofs.Common.{◌≡◌, ◌⊎◌, inl, inr, ℕ, ◌+◌, ◌-◌, ◌==◌, Bool, true, false, cond, not, ◌&&◌, List, [], ◌∷◌, ◌++◌, length, map}
use Rattle.std.proofs.Common.{drop, Option, Some, None, Result, Ok, Err, refl, sym, ap, ◌∙◌, subst, append-nil, append_assoc, arith}
use Rattle.std.specs.Prelude.{IsSome, is_some, slice_get, option_and_then}
use Rattle.std.specs.FinMap as finite
use Rattle.std.specs.Str.{IsUtf8}
use Rattle.std.proofs.lemmas.List.Concat.{flat_map-append}
use Rattle.css_objects.specs.Sheets.{sheet_in}
use Rattle.node_tree.specs.Nodes.{Branch, alone}
use Rattle.node_tree.specs.Labels.{is_element}
use Rattle.node_tree.proofs.KeyLemmas.{found_key}
use Rattle.page_tree.specs.Pages.{PageRow, row_serial, PageValue, IsValid, find_in, loaded}
use Rattle.node_binding.specs.Bindings.{BindingValue, Stands, cleared}
use Rattle.node_binding.specs.Sessions.{Session, serial_at, reset}
use Rattle.node_binding.proofs.StandsLemmas.{Stands-reset}
use Rattle.node_tree.specs.declared.origins.Origin.{Origin}
use Rattle.sheet_reader.specs.declared.book.SheetEntry.{SheetEntry}
use Rattle.sheet_reader.specs.Books.{entry_of, removed}
use Rattle.style_edits.specs.Edits.{is_too_big, new_sheet}
use Rattle.page_forms.specs.Pages.{LoadedPage, CanLoadPage}
use Rattle.page_forms.specs.declared.acts.Act.TheVariants as act
use Rattle.cdp_messages.specs.declared.command.Why.{Why}
use Rattle.cdp_messages.specs.declared.command.Why.TheVariants.{NotElement}
use Rattle.cdp_messages.specs.declared.down.ReplyBody.TheVariants.{Nothing, SheetText}
use Rattle.pipe_frames.specs.Frames.{framed}
use Rattle.cdp_messages.specs.Events.{News, sheet_added, sheet_removed}
use Rattle.cdp_messages.specs.Replies.{Message, event, event_text, reply_text, message_frame, message_frames}
use Rattle.client_views.specs.Views.{ShownSheet, sheet_header}
use Rattle.client_views.specs.Moves.{Move, clear, added, dropped, replied, message_of, move_text, frames_of_moves}
use Rattle.cascade_match.proofs.MatchLemmas.{drop-at}
use Rattle.cdp_messages.specs.declared.css_ask.CssAsk.{CssAsk}
use Rattle.cdp_messages.specs.declared.css_ask.CssAsk.TheVariants as css
use Rattle.css_agent.specs.Told.{told_header, added_message, turn_messages, event_messages}
use Rattle.css_agent.specs.Asks.{sheet_named, if_sheet, styled_page, css_outcome, answer_move}
use Rattle.dom_agent.specs.Keepers.{session_keeper, binding_keeper}
use Rattle.dom_agent.specs.Requests.{known_node}
use Rattle.back_end.specs.declared.desk.Desk.{Desk}
use Rattle.back_end.specs.declared.side.PageSide.{PageSide}
use Rattle.back_end.specs.declared.faults.ActFault.{ActFault}
use Rattle.back_end.specs.declared.faults.ActFault.TheVariants.{Sheet}
use Rattle.style_edits.specs.declared.faults.SheetFault.TheVariants.{TooBig}
use Rattle.back_end.specs.Sheets.{entry_of_sheet, as_book, numbered_sheets, SheetChange, leaves, comes, NumberedBook}
use Rattle.media_rules.specs.declared.medium.Medium.{Medium}
use Rattle.shown_pages.specs.declared.modes.Mode.{Mode}
use Rattle.shown_pages.specs.ShownPages.{shown_page}
use Rattle.shown_pages.specs.ShownLaws.{FoundShown, shown_if}
use Rattle.back_end.specs.States.{State, page_shown, nodes_shown, book_in, styled_in}
use Rattle.back_end.specs.Plans.{Deed, restyles, size_fault, drop_fault, replace_fault, dropping, replacing}
use Rattle.dom_breakpoints.specs.Watched.{unwatched}
use Rattle.dom_search.specs.Searches.{forgotten}
use Rattle.cdp_messages.specs.declared.command.Command.{Command}
use Rattle.cdp_messages.specs.declared.command.Command.TheVariants.{CssEnable, CssDisable, AskCss}
use Rattle.back_end.specs.Steps.{Step, refusing, with_crossed, planned_step, act_step, sheet_step, sheet_move, moves_gone, moves_come}
use Rattle.back_end.specs.Steps.{load_step, needs_on, needs_css, element_serial, element_named, node_answer, text_answer, css_step}
use Rattle.back_end.specs.Steps.{command_step}
use Rattle.back_end.specs.Seats.{DeskStandsFor}
use Rattle.back_end.specs.Texts.{PageHasTexts}
use Rattle.back_end.proofs.SheetLemmas.{own-test, book-last, book-without, fits-beside, entry-stands}
use Rattle.back_end.proofs.SheetSteps.{change-is, css-on-is, css-off-is}
use Rattle.undo_marks.specs.Marks.{crossed_over}
use Rattle.back_end.proofs.StepLemmas.{load-is}
use Rattle.back_end.proofs.SeatLemmas.{marks-stands, on-is}

-- ---- frames of messages

header-is : (s : ShownSheet) → told_header (entry_of_sheet s) ≡ sheet_header s
header-is s = refl

-- each sheet comes
pub come-frames : (ss : List ShownSheet) → message_frames (map added_message (as_book ss)) ≡ frames_of_moves (moves_come ss)
come-frames [] = refl
come-frames (s ∷ ss) =
    ap (λ h. message_frame (event (sheet_added h)) ++ message_frames (map added_message (as_book ss))) (header-is s)
    ∙ ap (λ (bs : List ℕ). framed (move_text (added s)) ++ bs) (come-frames ss)

-- each sheet goes
pub gone-frames : (ss : List ShownSheet) → map (λ e. dropped e.id) (as_book ss) ≡ moves_gone ss
gone-frames [] = refl
gone-frames (s ∷ ss) = ap (λ (ms : List Move). dropped s.number ∷ ms) (gone-frames ss)

-- an event that tells a move, while the domain is on
pub told-frames : (on : Bool) (m : Move) (n : News) → message_of m ≡ event n
    → message_frames (event_messages on n) ≡ frames_of_moves (cond on (m ∷ []) [])
told-frames true m n is = ap (λ (t : Message). message_frame t ++ []) (sym is)
told-frames false m n is = refl

comes-on : (was : Bool) (ss : List ShownSheet)
    → message_frames (turn_messages was true (as_book ss)) ≡ frames_of_moves (cond was [] (moves_come ss))
comes-on true ss = refl
comes-on false ss = come-frames ss

comes-anew : (on : Bool) (ss : List ShownSheet)
    → message_frames (turn_messages false on (as_book ss)) ≡ frames_of_moves (cond on (moves_come ss) [])
comes-anew true ss = come-frames ss
comes-anew false ss = refl

frames-append : (ms ks : List Move) → frames_of_moves (ms ++ ks) ≡ frames_of_moves ms ++ frames_of_moves ks
frames-append ms ks = flat_map-append (λ (m : Move). framed (move_text m)) ms ks

-- ---- commands that are refused

pub dom-on : (command : Command) (d : Desk) (s : PageSide) (state : State) → DeskStandsFor d s state → d.is_on ≡ true
    → (needs_on command && not state.client.dom_on) ≡ false
dom-on command d s state stands was = ap (λ b. needs_on command && not b) (sym stands.on_is ∙ was) ∙ at (needs_on command) where
  at : (a : Bool) → (a && false) ≡ false
  at true = refl
  at false = refl

pub css-taken : (command : Command) (d : Desk) (s : PageSide) (state : State) → DeskStandsFor d s state → d.css ≡ true
    → (needs_css command && not state.client.css_on) ≡ false
css-taken command d s state stands was = ap (λ b. needs_css command && not b) (sym stands.css_is ∙ was) ∙ at (needs_css command) where
  at : (a : Bool) → (a && false) ≡ false
  at true = refl
  at false = refl

-- ---- `CSS.enable` and `CSS.disable`

pub css-enabled-sent : (d : Desk) (s : PageSide) (state : State) (id : ℕ) (book : List SheetEntry) (old middle new : List ℕ)
    → DeskStandsFor d s state → d.is_on ≡ true → book ≡ s.sheets.entries
    → middle ≡ old ++ message_frames (turn_messages d.css true book) → new ≡ middle ++ framed (reply_text id Nothing)
    → new ≡ old ++ frames_of_moves (command_step id CssEnable state).moves
css-enabled-sent d s state id book old middle new stands was book_is first last =
    let ms = cond state.client.css_on [] (moves_come state.side.sheets) in
    let same : middle ≡ old ++ frames_of_moves ms =
    first ∙ ap (λ (b : List SheetEntry). old ++ message_frames (turn_messages d.css true b)) (book_is ∙ stands.sheets_are)
    ∙ ap (λ (b : Bool). old ++ message_frames (turn_messages b true (book_in state))) stands.css_is
    ∙ ap (λ (bs : List ℕ). old ++ bs) (comes-on state.client.css_on state.side.sheets) in
    last ∙ ap (λ bs. middle ++ bs) (sym (append-nil (framed (reply_text id Nothing))))
    ∙ ap (λ bs. bs ++ frames_of_moves (replied id Nothing ∷ [])) same
    ∙ append_assoc old (frames_of_moves ms) (frames_of_moves (replied id Nothing ∷ []))
    ∙ ap (λ bs. old ++ bs) (sym (frames-append ms (replied id Nothing ∷ [])))
    ∙ ap (λ (done : Step). old ++ frames_of_moves done.moves)
    (sym (on-is id CssEnable state (dom-on CssEnable d s state stands was) refl))

-- ---- what the CSS agent is asked

-- the text of a sheet, as a reply and as the move that it is
text-frames : (id : ℕ) (o : Option SheetEntry)
    → frames_of_moves (answer_move id (if_sheet (λ e. SheetText e.text) o) ∷ []) ≡ frames_of_moves (text_answer id o ∷ [])
text-frames id None = refl
text-frames id (Some e) = refl

same-node : (page : PageValue) (w : Session) (b : BindingValue) (o : Option ℕ)
    → known_node (binding_keeper (alone page.tree)) page.tree b o ≡ known_node (session_keeper (alone page.tree)) page.tree w o
same-node page w b None = refl
same-node page w b (Some serial) = refl

-- an ask that names no node
plain-asked : (d : Desk) (s : PageSide) (state : State) (id : ℕ) (ask : CssAsk) (page : PageValue) (book : List SheetEntry)
    (medium : Medium) (old new : List ℕ) → DeskStandsFor d s state
    → page ≡ s.page → book ≡ s.sheets.entries → medium ≡ s.sheets.medium → new ≡ old ++ frames_of_moves
    (answer_move id (css_outcome (styled_page page.tree book medium) 0 ask) ∷ [])
    → new ≡ old ++ frames_of_moves (answer_move id (css_outcome (styled_in state) 0 ask) ∷ [])
plain-asked d s state id ask page book medium old new stands page_is book_is medium_is sent =
    sent ∙ ap (λ (p : PageValue). old ++ frames_of_moves
    (answer_move id (css_outcome (styled_page p.tree book medium) 0 ask) ∷ [])) (page_is ∙ stands.page_is)
    ∙ ap (λ (b : List SheetEntry). old ++ frames_of_moves
    (answer_move id (css_outcome (styled_page state.side.page.tree b medium) 0 ask) ∷ []))
    (book_is ∙ stands.sheets_are)
    ∙ ap (λ (m : Medium). old ++ frames_of_moves
    (answer_move id (css_outcome (styled_page state.side.page.tree (book_in state) m) 0 ask) ∷ []))
    (medium_is ∙ stands.medium_is)

-- the ask names no node
abbrev NamesNone : CssAsk → Type 0
NamesNone (css.GetMatchedStyles target) = ⊥
NamesNone (css.GetStyleSheetText sheet) = Unit {0}
NamesNone (css.CollectClassNames sheet) = Unit {0}

plain-frames : (id : ℕ) (ask : CssAsk) (state : State) → NamesNone ask
    → frames_of_moves (answer_move id (css_outcome (styled_in state) 0 ask) ∷ [])
    ≡ frames_of_moves (css_step id ask state).moves
plain-frames id (css.GetMatchedStyles target) state none = absurd none
plain-frames id (css.GetStyleSheetText sheet) state none = text-frames id (sheet_named sheet (book_in state))
plain-frames id (css.CollectClassNames sheet) state none = refl

pub plain-sent : (d : Desk) (s : PageSide) (state : State) (id : ℕ) (ask : CssAsk) (page : PageValue) (book : List SheetEntry)
    (medium : Medium) (old new : List ℕ) → DeskStandsFor d s state
    → ((x : List ℕ) × (ask ≡ css.GetStyleSheetText x)) ⊎ ((x : List ℕ) × (ask ≡ css.CollectClassNames x)) → page ≡ s.page
    → book ≡ s.sheets.entries → medium ≡ s.sheets.medium
    → new ≡ old ++ frames_of_moves (answer_move id (css_outcome (styled_page page.tree book medium) 0 ask) ∷ [])
    → new ≡ old ++ frames_of_moves (css_step id ask state).moves
plain-sent d s state id ask page book medium old new stands is page_is book_is medium_is sent =
    plain-asked d s state id ask page book medium old new stands page_is book_is medium_is sent ∙ ap (λ (bs : List ℕ). old ++ bs)
    (plain-frames id ask state (names is))
  where
    names : ((x : List ℕ) × (ask ≡ css.GetStyleSheetText x)) ⊎ ((x : List ℕ) × (ask ≡ css.CollectClassNames x)) → NamesNone ask
    names (inl h) = subst NamesNone (sym h.1) tt
    names (inr h) = subst NamesNone (sym h.1) tt

-- a node that is found in the shown page is found in the page
pub found-stands : (mode : Mode) (page : PageValue) (serial : ℕ) (x : Branch PageRow) → IsValid page → FoundShown
    → find_in serial (shown_page mode page).tree ≡ Some x → IsSome (find_in serial page.tree)
found-stands mode page serial x valid found is = at (find_in serial page.tree) (sym (found mode page serial valid) ∙ is) where
  at : (o : Option (Branch PageRow)) → option_and_then (shown_if mode) o ≡ Some x → IsSome o
  at None e = absurd cc
  at (Some b) e = refl

-- the node that is named
pub element-is : (d : Desk) (s : PageSide) (state : State) (page : PageValue) (named : ℕ) (r : Result ℕ Why) → DeskStandsFor d s state
    → page ≡ s.page
    → let shown : PageValue = shown_page d.agent.mode page in
    r ≡ element_serial (known_node (binding_keeper (alone shown.tree)) shown.tree d.agent (finite.get d.agent.serials named))
    → element_named named state ≡ r
element-is d s state page named r stands page_is is =
    let w = state.client.session in
    let b = d.agent in
    sym (is ∙ ap (λ (p : PageValue). element_serial (known_node (binding_keeper (alone p.tree)) p.tree b (finite.get b.serials named)))
    (ap (λ m. shown_page m page) stands.mode_is ∙ ap (shown_page state.client.mode) (page_is ∙ stands.page_is))
    ∙ ap (λ (o : Option ℕ). element_serial (known_node (binding_keeper (nodes_shown state)) (page_shown state).tree b o))
    (stands.stands.serials_are named)
    ∙ ap element_serial (same-node (page_shown state) w b (serial_at w (nodes_shown state) named)))

pub node-refused : (state : State) (id named : ℕ) (why : Why) (old new : List ℕ) → element_named named state ≡ Err why
    → new ≡ old ++ frames_of_moves (refusing (Some id) why state).moves
    → new ≡ old ++ frames_of_moves (css_step id (css.GetMatchedStyles named) state).moves
node-refused state id named why old new is sent = sent ∙ ap
    (λ (r : Result ℕ Why). old ++ frames_of_moves (node_answer id (css.GetMatchedStyles named) r state ∷ [])) (sym is)

-- ---- one change of the sheets

pub came-stands : (d : Desk) (s s1 : PageSide) (state : State) (origin : Origin) (text : List ℕ) → DeskStandsFor d s state → IsUtf8 text
    → is_too_big text s.sheets.entries ≡ false
    → s1.page ≡ s.page → s1.sheets
    ≡ record s.sheets { entries = s.sheets.entries ++ new_sheet s.sheets.next origin text ∷ []; next = s.sheets.next + 1 }
    → DeskStandsFor d s1 (sheet_step (comes origin text) state).state
came-stands d s s1 state origin text stands utf8 fits page_is sheets_is =
    let here : is_too_big text (book_in state) ≡ false = ap (is_too_big text) (sym stands.sheets_are) ∙ fits in
    record {
      now = change-is (comes origin text) state stands.now (fits-beside text state.side.sheets utf8 here);
      page_is = page_is ∙ stands.page_is;
      sheets_are = ap (λ (b : NumberedBook). b.entries) sheets_is ∙ ap
          (λ (es : List SheetEntry). es ++ new_sheet s.sheets.next origin text ∷ []) stands.sheets_are
          ∙ ap (λ n. book_in state ++ new_sheet n origin text ∷ []) stands.next_is ∙ sym
          (book-last state.side.next_sheet origin text state.side.sheets);
      next_is = ap (λ (b : NumberedBook). b.next) sheets_is ∙ ap (λ n. n + 1) stands.next_is;
      medium_is = ap (λ (b : NumberedBook). b.medium) sheets_is ∙ stands.medium_is;
      on_is = stands.on_is;
      css_is = stands.css_is;
      mode_is = stands.mode_is;
      watches_are = stands.watches_are;
      searches_are = stands.searches_are;
      stands = stands.stands;
    }

last-at : (es : List SheetEntry) (e : SheetEntry) → slice_get (es ++ e ∷ []) (length es) ≡ Some e
last-at [] e = refl
last-at (x ∷ es) e = last-at es e

-- the sheet that came last
pub last-is : (es old : List SheetEntry) (e : SheetEntry) → es ≡ old ++ e ∷ [] → slice_get es (length es - 1) ≡ Some e
last-is es old e is =
    let count : length (old ++ e ∷ []) - 1 ≡ length old = at old in
    ap (λ (xs : List SheetEntry). slice_get xs (length xs - 1)) is ∙ ap (slice_get (old ++ e ∷ [])) count ∙ last-at old e
  where
    at : (xs : List SheetEntry) → length (xs ++ e ∷ []) - 1 ≡ length xs
    at xs = let one = length-last xs in omega (arith, one)
      where
        length-last : (xs : List SheetEntry) → length (xs ++ e ∷ []) ≡ length xs + 1
        length-last [] = refl
        length-last (x ∷ xs) = let more = length-last xs in omega (arith, more)

pub came-sent : (d : Desk) (s : PageSide) (state : State) (origin : Origin) (text old new : List ℕ) → DeskStandsFor d s state
    → new ≡ old ++ message_frames (event_messages d.css (sheet_added (told_header (new_sheet s.sheets.next origin text))))
    → new ≡ old ++ frames_of_moves (sheet_step (comes origin text) state).moves
came-sent d s state origin text old new stands sent =
    sent ∙ ap (λ (b : Bool). old ++ message_frames
    (event_messages b (sheet_added (told_header (new_sheet s.sheets.next origin text))))) stands.css_is
    ∙ ap (λ n. old ++ message_frames
    (event_messages state.client.css_on (sheet_added (told_header (new_sheet n origin text))))) stands.next_is
    ∙ ap (λ (bs : List ℕ). old ++ bs)
    (told-frames state.client.css_on (sheet_move (comes origin text) state.side)
    (sheet_added (told_header (new_sheet state.side.next_sheet origin text))) refl)

pub left-stands : (d : Desk) (s s1 : PageSide) (state : State) (number : ℕ) → DeskStandsFor d s state
    → IsSome (entry_of number s.sheets.entries)
    → s1.page ≡ s.page → s1.sheets ≡ record s.sheets { entries = removed number s.sheets.entries }
    → DeskStandsFor d s1 (sheet_step (leaves number) state).state
left-stands d s s1 state number stands there page_is sheets_is = at (entry_of number (book_in state)) refl
    (subst (λ (es : List SheetEntry). IsSome (entry_of number es)) stands.sheets_are there) where
      at : (o : Option SheetEntry) → entry_of number (book_in state) ≡ o → IsSome o
          → DeskStandsFor d s1 (sheet_step (leaves number) state).state
      at None e some = absurd cc
      at (Some x) e some = record {
        now = change-is (leaves number) state stands.now (entry-stands number state.side.sheets x e).shows;
        page_is = page_is ∙ stands.page_is;
        sheets_are = ap (λ (b : NumberedBook). b.entries) sheets_is ∙ ap
            (removed number) stands.sheets_are ∙ book-without number state.side.sheets;
        next_is = ap (λ (b : NumberedBook). b.next) sheets_is ∙ stands.next_is;
        medium_is = ap (λ (b : NumberedBook). b.medium) sheets_is ∙ stands.medium_is;
        on_is = stands.on_is;
        css_is = stands.css_is;
        mode_is = stands.mode_is;
        watches_are = stands.watches_are;
        searches_are = stands.searches_are;
        stands = stands.stands;
      }

pub left-sent : (d : Desk) (s : PageSide) (state : State) (number : ℕ) (old new : List ℕ) → DeskStandsFor d s state
    → new ≡ old ++ message_frames (event_messages d.css (sheet_removed number))
    → new ≡ old ++ frames_of_moves (sheet_step (leaves number) state).moves
left-sent d s state number old new stands sent =
    sent ∙ ap (λ (b : Bool). old ++ message_frames (event_messages b (sheet_removed number))) stands.css_is
    ∙ ap (λ (bs : List ℕ). old ++ bs) (told-frames state.client.css_on (dropped number) (sheet_removed number) refl)

-- ---- acts

crossed : (d : Desk) (s : PageSide) (state : State) → DeskStandsFor d s state → DeskStandsFor d s (with_crossed state)
crossed d s state stands = marks-stands (crossed_over state.client.marks) d s state stands

-- one change, where there is no fault
once-stands : (d : Desk) (s : PageSide) (state : State) (o : Option ActFault) (c : SheetChange) → o ≡ None
    → DeskStandsFor d s (sheet_step c state).state
    → DeskStandsFor d s (planned_step o (restyles (c ∷ [])) state).state
once-stands d s state o c fits stands =
    subst (λ (f : Option ActFault). DeskStandsFor d s (planned_step f (restyles (c ∷ [])) state).state) (sym fits)
    (crossed d s (sheet_step c state).state stands)

-- a fault changes nothing
faulty-stands : (d : Desk) (s : PageSide) (state : State) (o : Option ActFault) (f : ActFault) (deed : Deed) → o ≡ Some f
    → DeskStandsFor d s state → DeskStandsFor d s (planned_step o deed state).state
faulty-stands d s state o f deed is stands = subst (λ (g : Option ActFault). DeskStandsFor d s (planned_step g deed state).state)
    (sym is) stands

faulty-sent : (state : State) (o : Option ActFault) (f : ActFault) (deed : Deed) (old : List ℕ) → o ≡ Some f
    → old ≡ old ++ frames_of_moves (planned_step o deed state).moves
faulty-sent state o f deed old is = sym (append-nil old) ∙ ap
    (λ (g : Option ActFault). old ++ frames_of_moves (planned_step g deed state).moves) (sym is)

big-is : (text : List ℕ) (es : List SheetEntry) → is_too_big text es ≡ true → size_fault text es ≡ Some (Sheet TooBig)
big-is text es e = ap (λ (b : Bool). cond b (Some (Sheet TooBig)) None) e

small-is : (text : List ℕ) (es : List SheetEntry) → is_too_big text es ≡ false → size_fault text es ≡ None
small-is text es e = ap (λ (b : Bool). cond b (Some (Sheet TooBig)) None) e

-- a sheet is added
pub added-stands : (d d1 : Desk) (s s1 : PageSide) (state : State) (origin : Origin) (text : List ℕ) → DeskStandsFor d s state
    → is_too_big text s.sheets.entries ≡ false
    → DeskStandsFor d1 s1 (sheet_step (comes origin text) state).state
    → DeskStandsFor d1 s1 (act_step (act.AddSheet origin text) state).state
added-stands d d1 s s1 state origin text before fits stands =
    once-stands d1 s1 state (size_fault text (book_in state)) (comes origin text)
    (small-is text (book_in state) (ap (is_too_big text) (sym before.sheets_are) ∙ fits)) stands

-- the sheet that is meant is that of the state
named-here : (d : Desk) (s : PageSide) (state : State) (sheet : List ℕ) (o : Option SheetEntry) → DeskStandsFor d s state
    → sheet_named sheet s.sheets.entries ≡ o → sheet_named sheet (book_in state) ≡ o
named-here d s state sheet o stands is = ap (sheet_named sheet) (sym stands.sheets_are) ∙ is

-- ---- a sheet in the place of another

pub replaced-stands : (d d1 : Desk) (s s1 : PageSide) (state : State) (sheet text : List ℕ) (e : SheetEntry) → DeskStandsFor d s state
    → sheet_named sheet s.sheets.entries ≡ Some e
    → is_too_big text (removed e.id s.sheets.entries) ≡ false
    → DeskStandsFor d1 s1 (sheet_step (comes e.origin text) (sheet_step (leaves e.id) state).state).state
    → DeskStandsFor d1 s1 (act_step (act.ReplaceSheet sheet text) state).state
replaced-stands d d1 s s1 state sheet text e before is fits stands =
    let here : size_fault text (removed e.id (book_in state))
    ≡ None = small-is text (removed e.id (book_in state))
    (ap (λ (es : List SheetEntry). is_too_big text (removed e.id es)) (sym before.sheets_are) ∙ fits) in
    subst (λ (o : Option SheetEntry). DeskStandsFor d1 s1
    (planned_step (replace_fault text (book_in state) o) (restyles (replacing text o)) state).state)
    (sym (named-here d s state sheet (Some e) before is))
    (subst (λ (f : Option ActFault). DeskStandsFor d1 s1 (planned_step f (restyles (leaves e.id ∷ comes e.origin text ∷ [])) state).state)
    (sym here)
    (crossed d1 s1 (sheet_step (comes e.origin text) (sheet_step (leaves e.id) state).state).state stands))

pub replaced-sent : (d : Desk) (s : PageSide) (state : State) (sheet text : List ℕ) (e : SheetEntry) (old middle new : List ℕ)
    → DeskStandsFor d s state → sheet_named sheet s.sheets.entries ≡ Some e
    → is_too_big text (removed e.id s.sheets.entries) ≡ false → middle ≡ old ++ frames_of_moves (sheet_step (leaves e.id) state).moves
    → new ≡ middle ++ frames_of_moves (sheet_step (comes e.origin text) (sheet_step (leaves e.id) state).state).moves
    → new ≡ old ++ frames_of_moves (act_step (act.ReplaceSheet sheet text) state).moves
replaced-sent d s state sheet text e old middle new before is fits first second =
    let here : size_fault text (removed e.id (book_in state))
    ≡ None = small-is text (removed e.id (book_in state))
    (ap (λ (es : List SheetEntry). is_too_big text (removed e.id es)) (sym before.sheets_are) ∙ fits) in
    let one = (sheet_step (leaves e.id) state).moves in
    let last = (sheet_step (comes e.origin text) (sheet_step (leaves e.id) state).state).moves in
    second ∙ ap (λ (bs : List ℕ). bs ++ frames_of_moves last) first
    ∙ append_assoc old (frames_of_moves one) (frames_of_moves last)
    ∙ ap (λ (bs : List ℕ). old ++ bs) (sym (frames-append one last))
    ∙ ap (λ (ms : List Move). old ++ frames_of_moves (one ++ ms)) (sym (append-nil last))
    ∙ ap (λ (f : Option ActFault). old ++ frames_of_moves (planned_step f (restyles (leaves e.id ∷ comes e.origin text ∷ [])) state).moves)
    (sym here)
    ∙ ap (λ (o : Option SheetEntry). old
    ++ frames_of_moves (planned_step (replace_fault text (book_in state) o) (restyles (replacing text o)) state).moves)
    (sym (named-here d s state sheet (Some e) before is))

-- the fault of one that does not fit, and of one that does
pub big-fault : (sheet text : List ℕ) (es : List SheetEntry) (e : SheetEntry) → sheet_named sheet es ≡ Some e
    → is_too_big text (removed e.id es) ≡ true
    → Some (Sheet TooBig) ≡ replace_fault text es (sheet_named sheet es)
big-fault sheet text es e is big = sym (ap (replace_fault text es) is ∙ big-is text (removed e.id es) big)

pub fits-fault : (sheet text : List ℕ) (es : List SheetEntry) (e : SheetEntry) → sheet_named sheet es ≡ Some e
    → is_too_big text (removed e.id es) ≡ false
    → None ≡ replace_fault text es (sheet_named sheet es)
fits-fault sheet text es e is fits = sym (ap (replace_fault text es) is ∙ small-is text (removed e.id es) fits)

-- the sheet that was found in the book
pub named-found : (sheet : List ℕ) (book entries : List SheetEntry) (e : SheetEntry) → Some e ≡ sheet_named sheet book → book ≡ entries
    → sheet_named sheet entries ≡ Some e
named-found sheet book entries e found same = ap (sheet_named sheet) (sym same) ∙ sym found

-- where none was found, none is there
pub named-none : (sheet : List ℕ) (book entries : List SheetEntry) → None ≡ sheet_named sheet book → book ≡ entries
    → sheet_named sheet entries ≡ None
named-none sheet book entries found same = ap (sheet_named sheet) (sym same) ∙ sym found

found-there : (id : ℕ) (es : List SheetEntry) (e : SheetEntry) → entry_of id es ≡ Some e → IsSome (entry_of e.id es)
found-there id [] e k = absurd cc
found-there id (x ∷ xs) e k = at (id == x.id) k (λ r. found-there id xs e r) where
  either : (b : Bool) → IsSome (entry_of e.id xs) → IsSome (cond b (Some x) (entry_of e.id xs))
  either true r = refl
  either false r = r

  at : (b : Bool) → cond b (Some x) (entry_of id xs) ≡ Some e → (entry_of id xs ≡ Some e → IsSome (entry_of e.id xs))
      → IsSome (entry_of e.id (x ∷ xs))
  at true r more =
      let same : x ≡ e = cc in
      subst (λ (y : SheetEntry). IsSome (cond (y.id == x.id) (Some x) (entry_of y.id xs))) same
      (ap (λ (b : Bool). is_some (cond b (Some x) (entry_of x.id xs))) (own-test x.id))
  at false r more = either (e.id == x.id) (more r)

pub named-there : (sheet : List ℕ) (es : List SheetEntry) (e : SheetEntry) → sheet_named sheet es ≡ Some e → IsSome (entry_of e.id es)
named-there sheet es e h = at (sheet_in sheet) h where
  at : (o : Option ℕ) → option_and_then (λ id. entry_of id es) o ≡ Some e → IsSome (entry_of e.id es)
  at None k = absurd cc
  at (Some id) k = found-there id es e k

-- ---- loads

pub load-stands : (d d1 : Desk) (s s1 : PageSide) (state : State) (page : LoadedPage) → DeskStandsFor d s state → CanLoadPage page
    → PageHasTexts page
    → s1.page ≡ loaded s.page.next page.nodes → s1.sheets.entries ≡ as_book (numbered_sheets s.sheets.next page.sheets)
    → s1.sheets.next ≡ s.sheets.next + length page.sheets → s1.sheets.medium ≡ page.medium
    → d1.is_on ≡ d.is_on → d1.css ≡ d.css → d1.watches ≡ unwatched → d1.searches ≡ forgotten d.searches → d1.agent ≡ cleared d.agent
    → DeskStandsFor d1 s1 (load_step page state).state
load-stands d d1 s s1 state page stands can texts page_is sheets_are next_is medium_is on_is css_is watches_is
    searches_is agent_is = record {
      now = load-is state page stands.now can texts;
      page_is = page_is ∙ ap (λ (p : PageValue). loaded p.next page.nodes) stands.page_is;
      sheets_are = sheets_are ∙ ap (λ n. as_book (numbered_sheets n page.sheets)) stands.next_is;
      next_is = next_is ∙ ap (λ n. n + length page.sheets) stands.next_is;
      medium_is = medium_is;
      on_is = on_is ∙ stands.on_is;
      mode_is = ap (λ (b : BindingValue). b.mode) agent_is ∙ stands.mode_is;
      css_is = css_is ∙ stands.css_is ∙ both-on state.client.css_on state.client.dom_on stands.now.css_off;
      watches_are = watches_is;
      searches_are = searches_is ∙ ap forgotten stands.searches_are;
      stands = subst (λ a. Stands (nodes_shown (load_step page state).state) (reset state.client.session) a) (sym agent_is)
          (Stands-reset (nodes_shown state) (nodes_shown (load_step page state).state) state.client.session d.agent stands.stands);
    }
  where
    both-on : (c on : Bool) → (on ≡ false → c ≡ false) → c ≡ (c && on)
    both-on true true off = refl
    both-on true false off = off refl
    both-on false on off = refl

pub load-sent : (d : Desk) (s : PageSide) (state : State) (page : LoadedPage) (old_book new_book : List SheetEntry)
    (out first second last : List ℕ) → DeskStandsFor d s state
    → old_book ≡ s.sheets.entries → new_book ≡ as_book (numbered_sheets s.sheets.next page.sheets)
    → first ≡ out ++ frames_of_moves (cond d.is_on (clear ∷ []) [])
    → second ≡ first ++ frames_of_moves (cond d.css (map (λ e. dropped e.id) old_book) [])
    → last ≡ second ++ message_frames (turn_messages false d.css new_book)
    → last ≡ out ++ frames_of_moves (load_step page state).moves
load-sent d s state page old_book new_book out first second last stands old_is new_is one two three =
    let on = state.client.dom_on in
    let css_on = state.client.css_on in
    let gone = moves_gone state.side.sheets in
    let come = moves_come (load_step page state).state.side.sheets in
    let top : List Move = cond on (clear ∷ []) [] in
    let first_is : first ≡ out ++ frames_of_moves top = one ∙ ap
    (λ (b : Bool). out ++ frames_of_moves (cond b (clear ∷ []) [])) stands.on_is in
    let second_is : second ≡ first ++ frames_of_moves (cond css_on gone []) =
    two ∙ ap (λ (b : Bool). first ++ frames_of_moves (cond b (map (λ e. dropped e.id) old_book) [])) stands.css_is
    ∙ ap (λ (ms : List Move). first ++ frames_of_moves (cond css_on ms []))
    (ap (λ (es : List SheetEntry). map (λ e. dropped e.id) es) (old_is ∙ stands.sheets_are) ∙ gone-frames state.side.sheets) in
    let new_here : new_book ≡ as_book (load_step page state).state.side.sheets = new_is ∙ ap
    (λ n. as_book (numbered_sheets n page.sheets)) stands.next_is in
    let last_is : last ≡ second ++ frames_of_moves (cond css_on come []) =
    three ∙ ap (λ (b : Bool). second ++ message_frames (turn_messages false b new_book)) stands.css_is
    ∙ ap (λ (es : List SheetEntry). second ++ message_frames (turn_messages false css_on es)) new_here
    ∙ ap (λ (bs : List ℕ). second ++ bs) (comes-anew css_on (load_step page state).state.side.sheets) in
    last_is ∙ ap (λ (bs : List ℕ). bs ++ frames_of_moves (cond css_on come [])) second_is
    ∙ append_assoc first (frames_of_moves (cond css_on gone [])) (frames_of_moves (cond css_on come []))
    ∙ ap (λ (bs : List ℕ). first ++ bs) (sheets-told css_on gone come)
    ∙ ap (λ (bs : List ℕ). bs ++ frames_of_moves (cond css_on (gone ++ come) [])) first_is
    ∙ append_assoc out (frames_of_moves top) (frames_of_moves (cond css_on (gone ++ come) []))
    ∙ ap (λ (bs : List ℕ). out ++ bs) (sym (frames-append top (cond css_on (gone ++ come) [])))
  where
    sheets-told : (b : Bool) (gone come : List Move)
        → frames_of_moves (cond b gone []) ++ frames_of_moves (cond b come []) ≡ frames_of_moves (cond b (gone ++ come) [])
    sheets-told true gone come = sym (frames-append gone come)
    sheets-told false gone come = refl

-- ---- sheets that go, in code

-- the sheet at a place goes, and those behind it are left
pub gone-turn : (book : List SheetEntry) (i : ℕ) (e : SheetEntry) (before after : List ℕ) → slice_get book i ≡ Some e
    → after ≡ before ++ framed (event_text (sheet_removed e.id))
    → after ++ frames_of_moves (map (λ e. dropped e.id) (drop (i + 1) book))
    ≡ before ++ frames_of_moves (map (λ e. dropped e.id) (drop i book))
gone-turn book i e before after at sent =
    let rest = frames_of_moves (map (λ e. dropped e.id) (drop (i + 1) book)) in
    ap (λ (bs : List ℕ). bs ++ rest) sent
    ∙ append_assoc before (framed (event_text (sheet_removed e.id))) rest
    ∙ sym (ap (λ (l : List SheetEntry). before ++ frames_of_moves (map (λ e. dropped e.id) l)) (drop-at book i e at))

-- ---- the node that an ask names, in code

pub element-found : (b : BindingValue) (tree : Branch PageRow) (o : Option ℕ) (serial : ℕ) (found : Branch PageRow) → o ≡ Some serial
    → find_in serial tree ≡ Some found → is_element found.row.label.kind ≡ true
    → ◌≡◌ {A = Result ℕ Why} (Ok serial) (element_serial (known_node (binding_keeper (alone tree)) tree b o))
element-found b tree o serial found named is element =
    let own : found.row.serial ≡ serial = found_key row_serial serial (alone tree) found is in
    let serial_is : ◌≡◌ {A = Result ℕ Why} (Ok serial) (Ok found.row.serial) = ap (λ (n : ℕ). Ok n) (sym own) in
    serial_is
    ∙ sym (ap (λ (t : Bool). cond {A = Result ℕ Why} t (Ok found.row.serial) (Err NotElement)) element)
    ∙ ap element_serial (sym is)
    ∙ ap (λ (p : Option ℕ). element_serial (known_node (binding_keeper (alone tree)) tree b p)) (sym named)
