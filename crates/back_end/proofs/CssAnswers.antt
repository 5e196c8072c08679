-- What the CSS agent is asked changes nothing, and is answered once, by what its method answers.
use Rattle.std.proofs.Common.{◌≡◌, ℕ, Bool, true, cond, codes, List, [], ◌∷◌, Option, Some, None, Result, Ok, Err, refl, ap, ◌∙◌, arith}
use Rattle.std.specs.List.{flat_map, list_all, AllByRecursion}
use Rattle.cdp_json.specs.Kinds.{is_counted, text}
use Rattle.node_tree.specs.Nodes.{Nodes, none, node, alone}
use Rattle.node_tree.specs.Labels.{Pair}
use Rattle.page_tree.specs.Pages.{PageRow}
use Rattle.page_tree.specs.Zippers.{zipper_at}
use Rattle.sheet_reader.specs.declared.book.SheetEntry.{SheetEntry}
use Rattle.sheet_reader.specs.Books.{IsStored}
use Rattle.css_objects.specs.Results.{class_names_result}
use Rattle.cdp_messages.specs.declared.command.Command.TheVariants.{AskCss}
use Rattle.cdp_messages.specs.declared.command.Why.{Why}
use Rattle.cdp_messages.specs.declared.down.ReplyBody.TheVariants.{ClassNames}
use Rattle.cdp_messages.specs.Asked.{method_name}
use Rattle.node_tree.specs.Labels.{PairsHaveUtf8}
use Rattle.client_views.specs.Views.{shown_text}
use Rattle.client_views.specs.Moves.{Moves}
use Rattle.cdp_messages.specs.declared.css_ask.CssAsk.{CssAsk}
use Rattle.cdp_messages.specs.declared.css_ask.CssAsk.TheVariants as css
use Rattle.css_agent.specs.Asks.{sheet_named, if_sheet, answer_move}
use Rattle.css_agent.specs.ClassNames.{class_names}
use Rattle.css_agent.proofs.TellableStyles.{both, entry-stored, ValuesAre, NodesHaveValues, zipper-has, styles-told, class-names-utf8}
use Rattle.dom_agent.specs.Laws.{RowsHaveUtf8}
use Rattle.back_end.specs.States.{State, book_in, view_of, HoldsNow}
use Rattle.back_end.specs.Steps.{element_named, node_answer, text_answer, css_answer, css_step}
use Rattle.back_end.specs.Laws.{MayAnswer, MayAnswerAll, TellsTextOf, TellTextOf, text_asked, reply_ids}
use Rattle.back_end.proofs.SheetLemmas.{book-stored, named-is}
use Rattle.back_end.proofs.WellSteps.{Well, HasNumbers, stays-with}

-- ---- the move that answers it

values-are : (ps : List Pair) → PairsHaveUtf8 ps → ValuesAre ps
values-are [] texts = tt
values-are (p ∷ ps) texts = (texts.1, values-are ps texts.2)

rows-have : (n : Nodes PageRow) → RowsHaveUtf8 n → NodesHaveValues n
rows-have none texts = tt
rows-have (node r c t) texts = (values-are r.label.attributes texts.0.2, rows-have c texts.1, rows-have t texts.2)

any-texts : (names : List (List ℕ)) → list_all text.fits names ≡ true
any-texts [] = refl
any-texts (n ∷ ns) = any-texts ns

names-fit : (names : List (List ℕ)) → class_names_result.fits names ≡ true
names-fit names = both (any-texts names) refl

stored : (state : State) → HoldsNow state → HasNumbers state → AllByRecursion IsStored (book_in state)
stored state is low = book-stored state.side.next_sheet state.side.sheets (omega (arith, low.sheets)) is.sheets

styles-answer : (id : ℕ) (ask : CssAsk) (target : ℕ) (r : Result ℕ Why) (state : State) → ask ≡ css.GetMatchedStyles target
    → HoldsNow state → HasNumbers state → is_counted id ≡ true
    → Moves (node_answer id (css.GetMatchedStyles target) r state) (view_of state) (view_of state)
styles-answer id ask target (Err why) state same is low small = (refl, small)
styles-answer id ask target (Ok serial) state same is low small =
    let tree = state.side.page.tree in
    let told = styles-told state.side.medium (book_in state) (zipper_at serial tree) (stored state is low)
    (zipper-has serial tree (rows-have (alone tree) is.texts)) in
    (refl, record { id_fits = small; plain = refl; fits = told.0; texts = told.1; levels = omega arith })

text-answer : (id : ℕ) (sheet : List ℕ) (o : Option SheetEntry) (state : State) → sheet_named sheet (book_in state) ≡ o
    → state.client.css_on ≡ true → is_counted id ≡ true
    → Moves (text_answer id o) (view_of state) (view_of state)
text-answer id sheet None state e on small = (refl, small)
text-answer id sheet (Some x) state e on small =
    (refl, ap (λ (b : Bool). shown_text x.id (cond b state.side.sheets [])) on ∙ (named-is sheet state.side.sheets x e).text, small)

names-answer : (id : ℕ) (sheet : List ℕ) (o : Option SheetEntry) (state : State) → sheet_named sheet (book_in state) ≡ o → HoldsNow state
    → HasNumbers state → is_counted id ≡ true
    → Moves (answer_move id (if_sheet (λ e. ClassNames (class_names e.text)) o)) (view_of state) (view_of state)
names-answer id sheet None state e is low small = (refl, small)
names-answer id sheet (Some x) state e is low small =
    let own : IsStored x = entry-stored x.id (book_in state) x (stored state is low) (named-is sheet state.side.sheets x e).found in (
      refl,
      record {
        id_fits = small;
        plain = refl;
        fits = names-fit (class_names x.text);
        texts = class-names-utf8 x.text own.utf8;
        levels = omega arith;
      },
    )

css-moves : (id : ℕ) (ask : CssAsk) (state : State) → HoldsNow state → HasNumbers state → state.client.css_on ≡ true → is_counted id ≡ true
    → Moves (css_answer id ask state) (view_of state) (view_of state)
css-moves id (css.GetMatchedStyles target) state is low on small = styles-answer id (css.GetMatchedStyles target) target
    (element_named target state) state refl is low small
css-moves id (css.GetStyleSheetText sheet) state is low on small = text-answer id sheet
    (sheet_named sheet (book_in state)) state refl on small
css-moves id (css.CollectClassNames sheet) state is low on small = names-answer id sheet
    (sheet_named sheet (book_in state)) state refl is low small

pub css-well : (id : ℕ) (ask : CssAsk) (state : State) → HoldsNow state → HasNumbers state → state.client.css_on ≡ true
    → is_counted id ≡ true → Well state (css_step id ask state) 0 0 0
css-well id ask state is low on small = stays-with (css_answer id ask state) state is low (css-moves id ask state is low on small)

-- ---- what it answers

node-once : (id : ℕ) (target : ℕ) (r : Result ℕ Why) (state : State)
    → reply_ids (node_answer id (css.GetMatchedStyles target) r state) ≡ Some id ∷ []
node-once id target (Err why) state = refl
node-once id target (Ok serial) state = refl

text-once : (id : ℕ) (o : Option SheetEntry) → reply_ids (text_answer id o) ≡ Some id ∷ []
text-once id None = refl
text-once id (Some x) = refl

names-once : (id : ℕ) (o : Option SheetEntry)
    → reply_ids (answer_move id (if_sheet (λ e. ClassNames (class_names e.text)) o)) ≡ Some id ∷ []
names-once id None = refl
names-once id (Some x) = refl

answer-once : (id : ℕ) (ask : CssAsk) (state : State) → reply_ids (css_answer id ask state) ≡ Some id ∷ []
answer-once id (css.GetMatchedStyles target) state = node-once id target (element_named target state) state
answer-once id (css.GetStyleSheetText sheet) state = text-once id (sheet_named sheet (book_in state))
answer-once id (css.CollectClassNames sheet) state = names-once id (sheet_named sheet (book_in state))

pub css-once : (id : ℕ) (ask : CssAsk) (state : State) → flat_map reply_ids (css_step id ask state).moves ≡ Some id ∷ []
css-once id ask state = rw (answer-once id ask state) refl

node-may : (id : ℕ) (target : ℕ) (r : Result ℕ Why) (state : State)
    → MayAnswer (codes "CSS.getMatchedStylesForNode") (node_answer id (css.GetMatchedStyles target) r state)
node-may id target (Err why) state = tt
node-may id target (Ok serial) state = (refl, refl)

text-may : (id : ℕ) (o : Option SheetEntry) → MayAnswer (codes "CSS.getStyleSheetText") (text_answer id o)
text-may id None = tt
text-may id (Some x) = refl

names-may : (id : ℕ) (o : Option SheetEntry)
    → MayAnswer (codes "CSS.collectClassNames") (answer_move id (if_sheet (λ e. ClassNames (class_names e.text)) o))
names-may id None = tt
names-may id (Some x) = (refl, refl)

pub css-may : (id : ℕ) (ask : CssAsk) (state : State) → MayAnswerAll (method_name (AskCss ask)) (css_step id ask state).moves
css-may id (css.GetMatchedStyles target) state = (node-may id target (element_named target state) state, tt)
css-may id (css.GetStyleSheetText sheet) state = (text-may id (sheet_named sheet (book_in state)), tt)
css-may id (css.CollectClassNames sheet) state = (names-may id (sheet_named sheet (book_in state)), tt)

node-text : (sheet : Option ℕ) (id : ℕ) (target : ℕ) (r : Result ℕ Why) (state : State)
    → TellsTextOf sheet (node_answer id (css.GetMatchedStyles target) r state)
node-text sheet id target (Err why) state = tt
node-text sheet id target (Ok serial) state = tt

text-text : (id : ℕ) (sheet : List ℕ) (o : Option SheetEntry) (state : State) → sheet_named sheet (book_in state) ≡ o
    → TellsTextOf (text_asked (AskCss (css.GetStyleSheetText sheet))) (text_answer id o)
text-text id sheet None state e = tt
text-text id sheet (Some x) state e = (named-is sheet state.side.sheets x e).told

names-text : (sheet : Option ℕ) (id : ℕ) (o : Option SheetEntry)
    → TellsTextOf sheet (answer_move id (if_sheet (λ e. ClassNames (class_names e.text)) o))
names-text sheet id None = tt
names-text sheet id (Some x) = tt

pub css-text : (id : ℕ) (ask : CssAsk) (state : State) → TellTextOf (text_asked (AskCss ask)) (css_step id ask state).moves
css-text id (css.GetMatchedStyles target) state =
    (node-text (text_asked (AskCss (css.GetMatchedStyles target))) id target (element_named target state) state, tt)
css-text id (css.GetStyleSheetText sheet) state = (text-text id sheet (sheet_named sheet (book_in state)) state refl, tt)
css-text id (css.CollectClassNames sheet) state =
    (names-text (text_asked (AskCss (css.CollectClassNames sheet))) id (sheet_named sheet (book_in state)), tt)
