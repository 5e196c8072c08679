-- What the back end makes of the fetch of a sheet's text: the state is as it was, and one reply answers, with the text or a refusal.
use Rattle.std.proofs.Common.{◌≡◌, ℕ, ◌^◌, ◌<◌, Bool, true, false, not, ◌&&◌, cond, nat_lt, bytes_eq, List, [], ◌∷◌, drop, codes}
use Rattle.std.proofs.Common.{Option, Some, None, option_and_then, Ok, refl, sym, ◌∙◌, ap, subst, arith}
use Rattle.std.specs.Prelude.{if◌then◌else◌, decimal}
use Rattle.std.specs.Str.Parse.{digits_value}
use Rattle.std.proofs.lemmas.Fmt.{decimal_is_IsNumeral}
use Rattle.std.proofs.lemmas.Slice.Eq.{bytes_eq-Decides}
use Rattle.serde_json.specs.Data.{Data, Members}
use Rattle.serde_json.specs.Find.{get_member, as_str, as_object}
use Rattle.cdp_json.specs.Kinds.{if_holds, as_whole}
use Rattle.cdp_json.specs.Fields.{field_of}
use Rattle.cdp_json.specs.declared.fields.Field.TheVariants.{Is}
use Rattle.cdp_json.specs.Lookups.{then_ok, required, with_later}
use Rattle.css_objects.specs.Sheets.{sheet_text, is_sheet, is_text_of, sheet_in}
use Rattle.cdp_messages.specs.declared.command.Command.TheVariants.{AskCss}
use Rattle.cdp_messages.specs.declared.command.Why.{Why}
use Rattle.cdp_messages.specs.declared.command.Param.TheVariants as param
use Rattle.cdp_messages.specs.declared.command.Why.TheVariants.{BadParam, NoSession, DomOff, CssOff, NoSheet}
use Rattle.cdp_messages.specs.Asked.{json_of, or_bad_request, params_of, unless_session, command_for, command_of, method_in, command_in}
use Rattle.cdp_messages.specs.Asked.{with_id, asked_by, asked_in, asked_value, asked}
use Rattle.client_views.specs.Moves.{texted}
use Rattle.client_views.specs.Views.{shown_text}
use Rattle.sheet_reader.specs.declared.book.SheetEntry.{SheetEntry}
use Rattle.sheet_reader.specs.Books.{entry_of}
use Rattle.css_agent.specs.Asks.{sheet_named}
use Rattle.cdp_messages.specs.declared.css_ask.CssAsk.TheVariants as css
use Rattle.front_mirror.specs.declared.replies.Ask.{Ask}
use Rattle.back_end.specs.States.{State, book_in}
use Rattle.back_end.specs.Steps.{Step, refusing, text_answer, command_step, asked_step, frame_step}
use Rattle.inspect_world.specs.Fits as fits
use Rattle.inspect_world.specs.Fits.{sheet_told, ask_of, ask_of_frame}
use Rattle.inspect_world.proofs.Messages.{id_method, there}
use Rattle.inspect_world.proofs.ShownSheets.{IsEntryOf, book-entry, entry-id}
use Rattle.cdp_json.proofs.Options.{and_then_some}

-- ---- the sheet that a text names

holds-is : (P : ℕ → Bool) (m n : ℕ) (b : Bool) → P m ≡ b → (if b then Some m else None) ≡ Some n → (m ≡ n) × (P m ≡ true)
holds-is P m n true is e = (cc, is)
holds-is P m n false is e = absurd cc

told-by : (n sheet m : ℕ) (text : List ℕ) → m ≡ n → bytes_eq (sheet_text m) text ≡ true
    → if_holds (λ k. bytes_eq (sheet_text k) text) m ≡ Some sheet → n ≡ sheet
told-by n sheet m text same is e = let first : m ≡ sheet = cc (sym (ap (λ b. if b then Some m else None) is) ∙ e) in sym same ∙ first

and-parts : (a b : Bool) → (a && b) ≡ true → (a ≡ true) × (b ≡ true)
and-parts true b e = (refl, e)
and-parts false b e = absurd cc

told-digits : (m n sheet : ℕ) (text : List ℕ) → if_holds (is_text_of text) m ≡ Some n
    → if_holds (λ k. bytes_eq (sheet_text k) text) m ≡ Some sheet → n ≡ sheet
told-digits m n sheet text e told =
    let p = holds-is (is_text_of text) m n (is_text_of text m) refl e in
    told-by n sheet m text p.0 (and-parts (is_sheet m) (bytes_eq (sheet_text m) text) p.1).1 told

-- the sheet whose id it is, is the one that the front end reads
told-same : (n sheet : ℕ) (text : List ℕ) → sheet_in text ≡ Some n → sheet_told text ≡ Some sheet → n ≡ sheet
told-same n sheet text e told = told-digits (digits_value 10 (drop 1 text)) n sheet text e told

-- a sheet's own id
pub own-id : (sheet : ℕ) → sheet < 2 ^ 53 → is_sheet sheet ≡ true → sheet_in (sheet_text sheet) ≡ Some sheet
own-id sheet small is =
    let value : digits_value 10 (decimal sheet) ≡ sheet = (decimal_is_IsNumeral sheet (omega (arith, small))).1 in
    ap (λ m. if (is_sheet m && bytes_eq (sheet_text m) (sheet_text sheet)) then Some m else None) value
    ∙ ap (λ b. if (b && bytes_eq (sheet_text sheet) (sheet_text sheet)) then Some sheet else None) is
    ∙ ap (λ b. if b then Some sheet else None) ((bytes_eq-Decides (sheet_text sheet) (sheet_text sheet)).1 refl)

-- ---- what a fetch asks

-- the text of the sheet that it names, unless it names a session
pub record TextAsked (frame : List ℕ) (id sheet : ℕ) : Type 0 where
  pub text : List ℕ
  pub names : sheet_told text ≡ Some sheet
  pub session : Option Data
  pub asks : asked frame false ≡ asked_by id (unless_session session (Ok (AskCss (css.GetStyleSheetText text))))

-- the method and the parameters of a fetch
record FetchParts (id : ℕ) (method : List ℕ) (params : Option Data) (sheet : ℕ) : Type 0 where
  method_is : method ≡ codes "CSS.getStyleSheetText"
  members : Members
  params_are : params_of params ≡ Ok members
  text : List ℕ
  text_is : field_of as_str (codes "styleSheetId") members ≡ Is text
  names : sheet_told text ≡ Some sheet

fetch-object : (d : Data) (sheet : ℕ) (id : ℕ) (method : List ℕ) → method ≡ codes "CSS.getStyleSheetText"
    → fits.sheet_in_params d ≡ Some sheet → FetchParts id method (Some d) sheet
fetch-object d sheet id method is e =
    let o = and_then_some (λ ms. option_and_then sheet_told (option_and_then as_str (get_member (codes "styleSheetId") ms)))
    (as_object d) sheet e in
    let t = and_then_some sheet_told (option_and_then as_str (get_member (codes "styleSheetId") o.0)) sheet o.2 in
    record {
      method_is = is;
      members = o.0;
      params_are = ap or_bad_request o.1;
      text = t.0;
      text_is = there as_str (get_member (codes "styleSheetId") o.0) t.0 t.1;
      names = t.2;
    }

fetch-parts : (id : ℕ) (method : List ℕ) (params : Option Data) (sheet : ℕ) (low named : Bool)
    → bytes_eq method (codes "CSS.getStyleSheetText") ≡ named
    → cond low None (cond named (option_and_then fits.sheet_in_params params) None) ≡ Some sheet → FetchParts id method params sheet
fetch-parts id method params sheet true named is e = absurd cc
fetch-parts id method None sheet false true is e = absurd cc
fetch-parts id method (Some d) sheet false true is e = fetch-object d sheet id method
    ((bytes_eq-Decides method (codes "CSS.getStyleSheetText")).0 is) e
fetch-parts id method params sheet false false is e = absurd cc

-- the command that they are
fetch-command : (id : ℕ) (method : List ℕ) (params session : Option Data) (sheet : ℕ) → (p : FetchParts id method params sheet)
    → command_of false method params session ≡ unless_session session (Ok (AskCss (css.GetStyleSheetText p.text)))
fetch-command id method params session sheet p =
    ap (λ m. command_of false m params session) p.method_is
    ∙ ap (λ ps. then_ok ps (λ ms. unless_session session (command_for false (codes "CSS.getStyleSheetText") ms))) p.params_are
    ∙ ap (λ f. unless_session session
    (then_ok (then_ok (required (BadParam param.StyleSheetId) f) (with_later (λ _. Ok tt) p.members))
    (λ x. Ok (AskCss (css.GetStyleSheetText x.0))))) p.text_is

pub text-asked : (frame : List ℕ) (ask : Ask) (sheet : ℕ) → ask_of_frame frame ≡ Some ask → ask.sheet ≡ Some sheet
    → TextAsked frame ask.id sheet
text-asked frame ask sheet is fetches =
    let o = and_then_some ask_of (option_and_then as_object (json_of frame)) ask is in
    let d = and_then_some as_object (json_of frame) o.0 o.1 in
    let ms = o.0 in
    let params = get_member (codes "params") ms in
    let session = get_member (codes "sessionId") ms in
    let p = id_method ms (option_and_then as_whole (get_member (codes "id") ms))
    (option_and_then as_str (get_member (codes "method") ms)) ask o.2 in
    let parts : FetchParts ask.id ask.method params sheet =
    fetch-parts ask.id ask.method params sheet (nat_lt ask.id (2 ^ 30)) (bytes_eq ask.method (codes "CSS.getStyleSheetText")) refl
    (sym p.2 ∙ fetches) in
    let id_is : field_of as_whole (codes "id") ms ≡ Is ask.id = there as_whole (get_member (codes "id") ms) ask.id p.0 in
    let method_is : field_of as_str (codes "method") ms ≡ Is ask.method = there as_str (get_member (codes "method") ms) ask.method p.1 in
    record {
      text = parts.text;
      names = parts.names;
      session = session;
      asks =
          ap (asked_value false) d.1
          ∙ ap (asked_in false) d.2
          ∙ ap (λ f. with_id f (command_in false ms)) id_is
          ∙ ap (λ f. asked_by ask.id (then_ok (method_in f) (λ method. command_of false method params session))) method_is
          ∙ ap (asked_by ask.id) (fetch-command ask.id ask.method params session sheet parts);
    }

-- ---- what the step comes to

-- the state is as it was; the reply is a refusal, or tells the sheet's text
pub data FetchAnswered (id sheet : ℕ) (state : State) : Step → Type 0 where
  not_told : (why : Why) → FetchAnswered id sheet state (refusing (Some id) why state)
  is_told : (text : List ℕ) → FetchAnswered id sheet state (record { state = state; moves = texted id sheet text ∷ [] })

answered-entry : (id sheet : ℕ) (state : State) (o : Option SheetEntry) → ((e : SheetEntry) → o ≡ Some e → e.id ≡ sheet)
    → FetchAnswered id sheet state (record { state = state; moves = text_answer id o ∷ [] })
answered-entry id sheet state None same = not_told NoSheet
answered-entry id sheet state (Some e) same =
    subst (λ n. FetchAnswered id sheet state (record { state = state; moves = texted id n e.text ∷ [] })) (sym (same e refl))
    (is_told e.text)

answered-on : (id sheet : ℕ) (dom css : Bool) (state : State) (served : Step) → FetchAnswered id sheet state served
    → FetchAnswered id sheet state
    (cond (not dom) (refusing (Some id) DomOff state) (cond (not css) (refusing (Some id) CssOff state) served))
answered-on id sheet false css state served answered = not_told DomOff
answered-on id sheet true false state served answered = not_told CssOff
answered-on id sheet true true state served answered = answered

named-id : (text : List ℕ) (sheet : ℕ) (book : List SheetEntry) (e : SheetEntry) → sheet_told text ≡ Some sheet
    → sheet_named text book ≡ Some e → e.id ≡ sheet
named-id text sheet book e told named =
    let n = and_then_some (λ id. entry_of id book) (sheet_in text) e named in
    entry-id n.0 book e n.2 ∙ told-same n.0 sheet text n.1 told

answered-asked : (id sheet : ℕ) (state : State) (text : List ℕ) (session : Option Data) → sheet_told text ≡ Some sheet
    → FetchAnswered id sheet state (asked_step (asked_by id (unless_session session (Ok (AskCss (css.GetStyleSheetText text))))) state)
answered-asked id sheet state text (Some session) told = not_told NoSession
answered-asked id sheet state text None told =
    answered-on id sheet state.client.dom_on state.client.css_on state
    (record { state = state; moves = text_answer id (sheet_named text (book_in state)) ∷ [] })
    (answered-entry id sheet state (sheet_named text (book_in state)) (λ e named. named-id text sheet (book_in state) e told named))

pub fetch-answered : (frame : List ℕ) (ask : Ask) (sheet : ℕ) (state : State) → ask_of_frame frame ≡ Some ask → ask.sheet ≡ Some sheet
    → FetchAnswered ask.id sheet state (frame_step false frame state)
fetch-answered frame ask sheet state is fetches =
    let a : TextAsked frame ask.id sheet = text-asked frame ask sheet is fetches in
    subst (λ r. FetchAnswered ask.id sheet state (asked_step r state)) (sym a.asks)
    (answered-asked ask.id sheet state a.text a.session a.names)

-- a sheet that the client sees is told
pub shown-told : (id sheet : ℕ) (text : List ℕ) (state : State) → state.client.dom_on ≡ true → state.client.css_on ≡ true → sheet < 2 ^ 53
    → is_sheet sheet ≡ true
    → shown_text sheet state.side.sheets ≡ Some text
    → command_step id (AskCss (css.GetStyleSheetText (sheet_text sheet))) state
    ≡ record { state = state; moves = texted id sheet text ∷ [] }
shown-told id sheet text state dom css small is shown =
    let e : IsEntryOf sheet text (book_in state) = book-entry sheet text state.side.sheets shown in
    let named : sheet_named (sheet_text sheet) (book_in state)
    ≡ Some e.entry = ap (option_and_then (λ n. entry_of n (book_in state))) (own-id sheet small is) ∙ e.found in
    let served : Step = record { state = state; moves = text_answer id (sheet_named (sheet_text sheet) (book_in state)) ∷ [] } in
    ap (λ on. cond (not on) (refusing (Some id) DomOff state) (cond (not state.client.css_on) (refusing (Some id) CssOff state) served)) dom
    ∙ ap (λ on. cond (not on) (refusing (Some id) CssOff state) served) css
    ∙ ap (λ o. record { state = state; moves = text_answer id o ∷ [] }) named
    ∙ ap (λ n. record { state = state; moves = texted id n e.entry.text ∷ [] }) e.id_is
    ∙ ap (λ t. record { state = state; moves = texted id sheet t ∷ [] }) e.text_is
