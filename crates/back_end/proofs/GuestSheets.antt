-- What a guest hears of changes of the page's sheets, by a script or another client.
use Rattle.std.proofs.Common.{◌≡◌, ℕ, ◌+◌, ◌^◌, ◌<◌, Bool, true, false, cond, List, [], ◌∷◌, ◌++◌, map, Option, Some, None, Ok, Err}
use Rattle.std.proofs.Common.{refl, sym, ap, subst, ◌∙◌, append-nil, append_assoc, drop, length, get_or, zero, suc, arith}
use Rattle.std.specs.Str.{IsUtf8}
use Rattle.std.specs.Prelude.{IsSome, slice_get}
use Rattle.std.proofs.lemmas.List.Concat.{flat_map-append}
use Rattle.pipe_frames.specs.Frames.{framed}
use Rattle.page_forms.specs.declared.acts.Act.{Act}
use Rattle.node_tree.specs.declared.origins.Origin.{Origin}
use Rattle.sheet_reader.specs.declared.book.SheetEntry.{SheetEntry}
use Rattle.sheet_reader.specs.Books.{entry_of, removed}
use Rattle.style_edits.specs.Edits.{is_too_big, new_sheet}
use Rattle.style_edits.specs.declared.faults.SheetFault.{SheetFault}
use Rattle.style_edits.specs.declared.splice.Splice.{Splice}
use Rattle.style_edits.specs.Splices.{back_by, after_splice}
use Rattle.cdp_messages.specs.Events.{News, sheet_added, sheet_changed, sheet_removed}
use Rattle.cdp_messages.specs.Replies.{message_frames}
use Rattle.cdp_messages.specs.declared.css_edit.CssEdit.{CssEdit}
use Rattle.cdp_messages.specs.declared.command.Command.TheVariants.{EditCss}
use Rattle.css_agent.specs.Edits.{CssEdited, css_edited, css_splices, edit_splices, text_under}
use Rattle.css_agent.specs.EditLaws.{HasEditTexts, back_splices}
use Rattle.css_agent.specs.Told.{told_header, event_messages}
use Rattle.client_views.specs.Moves.{Move, move_text, rewritten, frames_of_moves}
use Rattle.undo_marks.specs.declared.inverse_lists.Inverse.TheVariants.{Sheet}
use Rattle.style_edits.specs.declared.faults.SheetFault.TheVariants.{TooBig}
use Rattle.back_end.specs.declared.faults.ActFault.TheVariants.{Sheet as ActSheet}
use Rattle.back_end.specs.declared.desk.Desk.{Desk}
use Rattle.back_end.specs.declared.guest.Guest.{Guest}
use Rattle.back_end.specs.declared.side.PageSide.{PageSide}
use Rattle.back_end.specs.Sheets.{SheetChange, leaves, comes}
use Rattle.back_end.specs.States.{State, book_in}
use Rattle.back_end.specs.Plans.{act_fault, act_plan, restyles, size_fault}
use Rattle.back_end.specs.Steps.{Step, idle, with_marks, with_crossed, crossing, sheet_step, splice_step, splice_steps, act_step}
use Rattle.back_end.specs.Outside.{outside_all, sheet_outward, command_outward}
use Rattle.back_end.specs.Seats.{DeskStandsFor, StandsFor}
use Rattle.back_end.specs.Guests.{heard_all, heard_step, GuestStands, Hears, IsTold, HearsSplices, sheet_news, splice_news}
use Rattle.back_end.specs.Guests.{changed_frames}
use Rattle.back_end.proofs.SheetSeats.{dom-on, css-taken, told-frames, came-stands, came-sent, left-stands, left-sent}
use Rattle.cascade_match.proofs.MatchLemmas.{drop-at}
use Rattle.back_end.proofs.SpliceSeats.{restyled-desk}
use Rattle.back_end.proofs.HeardLemmas.{crossed-twice, heard-is}
use Rattle.back_end.proofs.GuestSeats.{hears-then, told-hears}
use Rattle.back_end.proofs.GuestSteps.{deed-hears, outward-is, made-hears, unchanged-hears}

-- ---- one change

-- a sheet came, and its event was told
pub came-hears : (a b : Option Guest) (s s1 : PageSide) (other : State) (origin : Origin) (text : List ℕ) (news : News)
    → GuestStands a s other → IsUtf8 text → is_too_big text s.sheets.entries ≡ false → s1.page ≡ s.page
    → s1.sheets ≡ record s.sheets { entries = s.sheets.entries ++ new_sheet s.sheets.next origin text ∷ []; next = s.sheets.next + 1 }
    → news ≡ sheet_added (told_header (new_sheet s.sheets.next origin text)) → IsTold a b (sheet_news news)
    → Hears a b s1 (crossing (sheet_step (comes origin text) other))
came-hears a b s s1 other origin text news stands utf8 fits page_is sheets_is news_is told =
    told-hears a b (sheet_news news) s s1 other (sheet_step (comes origin text) other) stands told refl
    (λ g both. came-stands g.seat.desk s s1 other origin text both.stands utf8 fits page_is sheets_is)
    (λ g both old. came-sent g.seat.desk s other origin text old (old ++ sheet_news news g) both.stands
    (ap (λ (n : News). old ++ sheet_news n g) news_is))

-- a sheet went, and its event was told
pub left-hears : (a b : Option Guest) (s s1 : PageSide) (other : State) (number : ℕ) → GuestStands a s other
    → IsSome (entry_of number s.sheets.entries) → s1.page ≡ s.page
    → s1.sheets ≡ record s.sheets { entries = removed number s.sheets.entries } → IsTold a b (sheet_news (sheet_removed number))
    → Hears a b s1 (crossing (sheet_step (leaves number) other))
left-hears a b s s1 other number stands there page_is sheets_is told =
    told-hears a b (sheet_news (sheet_removed number)) s s1 other (sheet_step (leaves number) other) stands told refl
    (λ g both. left-stands g.seat.desk s s1 other number both.stands there page_is sheets_is)
    (λ g both old. left-sent g.seat.desk s other number old (old ++ sheet_news (sheet_removed number) g) both.stands refl)

-- ---- acts

-- one change, as an act
pub once-hears : (a b : Option Guest) (s s1 : PageSide) (other : State) (x : Act) (c : SheetChange) → GuestStands a s other
    → act_fault x s.page s.sheets.entries ≡ None → act_plan x s.page s.sheets.entries ≡ restyles (c ∷ [])
    → Hears a b s1 (crossing (sheet_step c other)) → Hears a b s1 (act_step x other)
once-hears a b s s1 other x c stands fits plan told =
    let done : Step = sheet_step c other in
    deed-hears a b s s1 other x (restyles (c ∷ [])) stands fits plan
    (subst (λ (d : Step). Hears a b s1 d)
    (λ i. record { state = with_crossed done.state; moves = sym (append-nil done.moves) i }) told)

-- two changes
pub twice-hears : (a b c : Option Guest) (s s1 s2 : PageSide) (other : State) (x : Act) (one two : SheetChange) → GuestStands a s other
    → act_fault x s.page s.sheets.entries ≡ None → act_plan x s.page s.sheets.entries ≡ restyles (one ∷ two ∷ [])
    → Hears a b s1 (crossing (sheet_step one other))
    → Hears b c s2 (crossing (sheet_step two (with_crossed (sheet_step one other).state)))
    → Hears a c s2 (act_step x other)
twice-hears a b c s s1 s2 other x one two stands fits plan first second =
    let before : Step = sheet_step one other in
    let after : Step = sheet_step two before.state in
    deed-hears a c s s2 other x (restyles (one ∷ two ∷ [])) stands fits plan
    (subst (λ (d : Step). Hears a c s2 d)
    (λ i. record {
      state = with_marks (crossed-twice before.state.client.marks i) after.state;
      moves = before.moves ++ sym (append-nil after.moves) i;
    })
    (hears-then a b c s1 s2 (crossing before) (λ (state : State). crossing (sheet_step two state)) first second))

-- ---- splices

-- what is heard of splices is their step, after which the history is empty
splices-are : (ss : List Splice) (state : State) → outside_all (map (λ s. Sheet s) ss) state ≡ splice_steps ss state
splices-are [] state = refl
splices-are (s ∷ ss) state =
    let first : Step = splice_step s state in
    ap (λ (later : Step). record later { moves = first.moves ++ later.moves }) (splices-are ss first.state)

splices-heard : (s : Splice) (ss : List Splice) (state : State)
    → crossing (splice_steps (s ∷ ss) state) ≡ heard_all (map (λ x. Sheet x) (s ∷ ss)) state
splices-heard s ss state =
    sym (heard-is (map (λ x. Sheet x) (s ∷ ss)) state ∙ ap (λ (d : Step). crossing d) (splices-are (s ∷ ss) state))

-- splices leave the history as it is
splices-marks : (ss : List Splice) (state : State) → (splice_steps ss state).state.client.marks ≡ state.client.marks
splices-marks [] state = refl
splices-marks (s ∷ ss) state = splices-marks ss (splice_step s state).state

-- the splice that leads back is one of the same sheet
back-sheet : (s : Splice) (o : Option SheetEntry) → (back_by s o).sheet ≡ s.sheet
back-sheet s None = refl
back-sheet s (Some e) = refl

-- the events of splices, told by those that lead back
splices-news : (css : Bool) (ss : List Splice) (state : State) (book : List SheetEntry) → css ≡ state.client.css_on
    → changed_frames css (back_splices ss book)
    ≡ frames_of_moves (splice_steps ss state).moves
splices-news css [] state book same = refl
splices-news css (s ∷ ss) state book same =
    let rest : List ℕ = changed_frames css (back_splices ss (after_splice s book)) in
    let first : Step = splice_step s state in
    let later : List Move = (splice_steps ss first.state).moves in
    ap (λ (n : ℕ). message_frames (event_messages css (sheet_changed n)) ++ rest) (back-sheet s (entry_of s.sheet book))
    ∙ ap (λ (b : Bool). message_frames (event_messages b (sheet_changed s.sheet)) ++ rest) same
    ∙ ap (λ (bs : List ℕ). bs ++ rest)
    (told-frames state.client.css_on (rewritten s.sheet (text_under s.sheet (after_splice s (book_in state)))) (sheet_changed s.sheet) refl)
    ∙ ap (λ (bs : List ℕ). frames_of_moves first.moves ++ bs) (splices-news css ss first.state (after_splice s book) same)
    ∙ sym (flat_map-append (λ (m : Move). framed (move_text m)) first.moves later)

-- what the guest hears of splices, where its desk stands for the state after them
spliced-hears : (a b : Option Guest) (s s1 : PageSide) (other : State) (ss backs : List Splice) (book : List SheetEntry)
    → GuestStands a s other → backs ≡ back_splices ss book
    → ((g : Guest) → StandsFor g.seat s other → DeskStandsFor g.seat.desk s1 (splice_steps ss other).state)
    → HearsSplices a b backs → Hears a b s1 (heard_all (map (λ x. Sheet x) ss) other)
spliced-hears a b s s1 other ss backs book stands backs_are desks told =
    at ss desks (subst (λ (l : List Splice). HearsSplices a b l) backs_are told)
  where
    unheard : (x : Option Guest) → GuestStands x s other
        → ((g : Guest) → StandsFor g.seat s other → DeskStandsFor g.seat.desk s1 other) → Hears x x s1 (idle other)
    unheard None first now = tt
    unheard (Some g) first now = (record { stands = now g first; kept = first.kept }, sym (append-nil g.out.items))

    at : (l : List Splice) → ((g : Guest) → StandsFor g.seat s other → DeskStandsFor g.seat.desk s1 (splice_steps l other).state)
        → HearsSplices a b (back_splices l book) → Hears a b s1 (heard_all (map (λ x. Sheet x) l) other)
    at [] now same = subst (λ (x : Option Guest). Hears a x s1 (idle other)) (sym same) (unheard a stands now)
    at (x ∷ xs) now heard =
        subst (λ (d : Step). Hears a b s1 d) (splices-heard x xs other)
        (told-hears a b (splice_news (back_splices (x ∷ xs) book)) s s1 other (splice_steps (x ∷ xs) other) stands heard
        (splices-marks (x ∷ xs) other) now
        (λ g both old. ap (λ (bs : List ℕ). old ++ bs) (splices-news g.seat.desk.css (x ∷ xs) other book both.stands.css_is)))

-- ---- a client's edit of sheets

-- what the command is to the page, while both domains are on
restyled-outward : (d : Desk) (s : PageSide) (state : State) (x : CssEdit) (r : CssEdited) → DeskStandsFor d s state → d.is_on ≡ true
    → d.css ≡ true → css_edited (book_in state) x ≡ r
    → command_outward (EditCss x) state ≡ sheet_outward r (css_splices (book_in state) x) state
restyled-outward d s state x r stands on css is =
    outward-is (EditCss x) state (dom-on (EditCss x) d s state stands on) (css-taken (EditCss x) d s state stands css)
    ∙ ap (λ (e : CssEdited). sheet_outward e (css_splices (book_in state) x) state) is

pub restyled-hears : (a b : Option Guest) (d : Desk) (s s1 : PageSide) (state other : State) (x : CssEdit) (backs : List Splice)
    → DeskStandsFor d s state → GuestStands a s other → s.sheets.next < 2 ^ 50 → HasEditTexts x → d.is_on ≡ true → d.css ≡ true
    → edit_splices (css_edited s.sheets.entries x) ≡ Ok (s1.sheets.entries, backs) → s1.page ≡ s.page
    → s1.sheets.next ≡ s.sheets.next → s1.sheets.medium ≡ s.sheets.medium → HearsSplices a b backs
    → Hears a b s1 (heard_step (command_outward (EditCss x) state) other)
restyled-hears a b d s s1 state other x backs first stands room texts on css edited page_is next_is medium_is told =
    let r = restyled-desk d s s1 state x backs first room texts edited page_is next_is medium_is in
    let ss : List Splice = css_splices (book_in state) x in
    let desks : (g : Guest) → StandsFor g.seat s other → DeskStandsFor g.seat.desk s1 (splice_steps ss other).state =
    λ g both. subst (λ (book : List SheetEntry). DeskStandsFor g.seat.desk s1 (splice_steps (css_splices book x) other).state)
    (sym both.stands.sheets_are ∙ first.sheets_are)
    (restyled-desk g.seat.desk s s1 other x backs both.stands room texts edited page_is next_is medium_is).stands in
    made-hears a b d s s1 state other (command_outward (EditCss x) state) (map (λ y. Sheet y) ss) first stands
    (restyled-outward d s state x (Ok r.done) first on css r.is)
    (spliced-hears a b s s1 other ss backs (book_in state) stands r.backs_are desks told)

pub unrestyled-hears : (a : Option Guest) (d : Desk) (s : PageSide) (state other : State) (x : CssEdit) (f : SheetFault)
    → DeskStandsFor d s state → GuestStands a s other → d.is_on ≡ true → d.css ≡ true → css_edited s.sheets.entries x ≡ Err f
    → Hears a a s (heard_step (command_outward (EditCss x) state) other)
unrestyled-hears a d s state other x f first stands on css is =
    unchanged-hears a d s state other (command_outward (EditCss x) state) first stands
    (restyled-outward d s state x (Err f) first on css
    (ap (λ (es : List SheetEntry). css_edited es x) (sym first.sheets_are) ∙ is))

-- a sheet that fits has no fault, and one that does not
pub small-fault : (text : List ℕ) (es : List SheetEntry) → is_too_big text es ≡ false → size_fault text es ≡ None
small-fault text es e = ap (λ (b : Bool). cond b (Some (ActSheet TooBig)) None) e

pub too-big-fault : (text : List ℕ) (es : List SheetEntry) → is_too_big text es ≡ true → size_fault text es ≡ Some (ActSheet TooBig)
too-big-fault text es e = ap (λ (b : Bool). cond b (Some (ActSheet TooBig)) None) e

got : (bs : List Splice) (i : ℕ) (b : Splice) → i < length bs → b ≡ get_or bs i b → slice_get bs i ≡ Some b
got [] i b inside is = absurd (omega (arith, inside))
got (x ∷ xs) zero b inside is = ap (λ (y : Splice). Some y) (sym is)
got (x ∷ xs) (suc i) b inside is = got xs i b (omega (arith, inside)) is

-- a splice is told, and those behind it are left
pub splices-turn : (css : Bool) (backs : List Splice) (i : ℕ) (b : Splice) (before after : List ℕ) → i < length backs
    → b ≡ get_or backs i b → after ≡ before ++ message_frames (event_messages css (sheet_changed b.sheet))
    → after ++ changed_frames css (drop (i + 1) backs) ≡ before ++ changed_frames css (drop i backs)
splices-turn css backs i b before after inside is sent =
    let one : List ℕ = message_frames (event_messages css (sheet_changed b.sheet)) in
    let rest : List ℕ = changed_frames css (drop (i + 1) backs) in
    ap (λ (bs : List ℕ). bs ++ rest) sent ∙ append_assoc before one rest
    ∙ sym (ap (λ (l : List Splice). before ++ changed_frames css l) (drop-at backs i b (got backs i b inside is)))
