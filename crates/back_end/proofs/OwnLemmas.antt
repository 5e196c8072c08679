-- What our own two methods come to is a step that a script may make, and then the reply.
use Rattle.std.proofs.Common.{◌≡◌, ◌∙◌, ℕ, Bool, true, false, not, cond, List, [], ◌∷◌, ◌++◌, Option, Some, None, Result, Ok, Err}
use Rattle.std.proofs.Common.{refl, sym, ap}
use Rattle.std.proofs.Common.{arith}
use Rattle.std.specs.Prelude.{option_map}
use Rattle.std.specs.List.{flat_map}
use Rattle.serde_json.specs.Data.{Data}
use Rattle.serde_json.specs.Written.{has_float}
use Rattle.cdp_json.specs.Kinds.{is_counted}
use Rattle.cdp_json.specs.Lookups.{then_ok}
use Rattle.cdp_json.specs.Plain.{HasUtf8}
use Rattle.page_tree.specs.Pages.{PageValue}
use Rattle.page_tree.specs.declared.faults.LoadFault.{LoadFault}
use Rattle.page_tree.specs.declared.faults.LoadFault.TheVariants as load_fault
use Rattle.sheet_reader.specs.declared.book.SheetEntry.{SheetEntry}
use Rattle.page_forms.specs.declared.acts.Act.{Act}
use Rattle.page_forms.specs.Acts.{act_in}
use Rattle.page_forms.specs.Pages.{LoadedPage, page_in, first_page_fault, page_fault}
use Rattle.page_forms.proofs.ActLemmas.{act-insertable, acts_have_texts}
use Rattle.page_forms.proofs.PageLemmas.{can_load_page, pages_have_texts}
use Rattle.cdp_messages.specs.declared.command.Param.TheVariants.{Params}
use Rattle.cdp_messages.specs.declared.command.Why.{Why}
use Rattle.cdp_messages.specs.declared.command.Why.TheVariants.{BadParam}
use Rattle.cdp_messages.specs.declared.down.ReplyBody.TheVariants.{Nothing}
use Rattle.client_views.specs.Moves.{replied, CanBeTold, ends, goes}
use Rattle.dom_agent.proofs.StepLemmas.{course-join}
use Rattle.back_end.specs.States.{State, IsState, view_of}
use Rattle.back_end.specs.Plans.{act_fault}
use Rattle.back_end.specs.OwnMethods.{load_why, act_why, unless_why, if_whole, load_form, load_asked, act_form, act_judged, act_asked}
use Rattle.back_end.specs.Steps.{Turn, acts, loads, turn_step, answering}
use Rattle.back_end.specs.Laws.{HasRoom, StepsWell, KeepsAtMost, IsTurn, reply_ids}
use Rattle.back_end.proofs.AnswerLemmas.{flat-append, turn-answers}
use Rattle.back_end.proofs.WellSteps.{told-view}
use Rattle.back_end.proofs.KeptSteps.{after-numbers}
use Rattle.back_end.proofs.StepLemmas.{turn-steps-well}

-- ---- a load that is refused

-- a load that is refused with this
abbrev pub refused_with : Why → Result LoadedPage Why
refused_with why = Err why

-- the fault of what is no page, or of a page that has one
fault-refused : (o : Option LoadedPage) (f : LoadFault) → first_page_fault o ≡ Some f → load_form o ≡ Err (load_why f)
fault-refused None f e = let same : load_fault.BadForm ≡ f = cc in ap (λ (g : LoadFault). refused_with (load_why g)) same
fault-refused (Some page) f e = ap (λ (o : Option LoadFault). unless_why (option_map load_why o) page) e

-- of parameters whose numbers are whole
pub load-refused : (params : Data) (f : LoadFault) (whole : Bool) → whole ≡ not (has_float params) → whole ≡ true
    → page_fault params ≡ Some f → load_asked params ≡ Err (load_why f)
load-refused params f whole is all fault = at (has_float params) (sym is ∙ all) where
  at : (b : Bool) → not b ≡ true → cond b (Err (BadParam Params)) (load_form (page_in params)) ≡ Err (load_why f)
  at true e = absurd cc
  at false e = fault-refused (page_in params) f fault

-- ---- what is found

no-ok : {A : Type 0} {P : Type 0} (why : Why) (a : A) → ◌≡◌ {A = Result A Why} (Err why) (Ok a) → P
no-ok {A} why a e = let no : ◌≡◌ {A = Result A Why} (Err why) (Ok a) = e in absurd cc

whole-is : {A : Type 0} (params : Data) (r : Result A Why) (a : A) → if_whole params r ≡ Ok a → r ≡ Ok a
whole-is {A} params r a e = at (has_float params) e where
  at : (b : Bool) → cond b (Err (BadParam Params)) r ≡ Ok a → r ≡ Ok a
  at true h = no-ok _ a h
  at false h = h

unless-is : {A : Type 0} (why : Option Why) (x a : A) → unless_why why x ≡ Ok a → (why ≡ None) × (x ≡ a)
unless-is None x a e = (refl, cc)
unless-is (Some why) x a e = no-ok why a e

unmapped : {A B : Type 0} (f : A → B) (o : Option A) → option_map f o ≡ None → o ≡ None
unmapped f None e = refl
unmapped f (Some a) e = absurd cc

-- ---- a load

form-turn : (params : Data) (o : Option LoadedPage) (page : LoadedPage) → HasUtf8 params → page_in params ≡ o → load_form o ≡ Ok page
    → IsTurn (loads page)
form-turn params None page u is e = no-ok _ page e
form-turn params (Some found) page u is e =
    let p = unless-is (option_map load_why (first_page_fault (Some found))) found page e in
    let spelt : page_in params ≡ Some page = is ∙ ap (λ n. Some n) p.1 in
    let clear : first_page_fault (Some page)
    ≡ None = ap (λ n. first_page_fault (Some n)) (sym p.1) ∙ unmapped load_why (first_page_fault (Some found)) p.0 in
    (can_load_page params page spelt (ap first_page_fault spelt ∙ clear), pages_have_texts params page u spelt)

pub load-turn : (params : Data) (page : LoadedPage) → HasUtf8 params → load_asked params ≡ Ok page → IsTurn (loads page)
load-turn params page u e = form-turn params (page_in params) page u refl (whole-is params (load_form (page_in params)) page e)

-- ---- an act

spelt-turn : (params : Data) (o : Option Act) (page : PageValue) (book : List SheetEntry) (act : Act) → HasUtf8 params → act_in params ≡ o
    → then_ok (act_form o) (act_judged page book) ≡ Ok act
    → IsTurn (acts act)
spelt-turn params None page book act u is e = no-ok _ act e
spelt-turn params (Some found) page book act u is e =
    let p = unless-is (option_map act_why (act_fault found page book)) found act e in
    let spelt : act_in params ≡ Some act = is ∙ ap (λ a. Some a) p.1 in
    (act-insertable params act spelt, acts_have_texts params act u spelt)

pub act-turn : (params : Data) (page : PageValue) (book : List SheetEntry) (act : Act) → HasUtf8 params
    → act_asked params page book ≡ Ok act → IsTurn (acts act)
act-turn params page book act u e = at (has_float params) e where
  at : (b : Bool) → then_ok (cond b (Err (BadParam Params)) (act_form (act_in params))) (act_judged page book) ≡ Ok act → IsTurn (acts act)
  at true h = no-ok _ act h
  at false h = spelt-turn params (act_in params) page book act u refl h

-- ---- the step, and the reply

pub answering-well : (id : ℕ) (x : Turn) (state : State) → IsState state → HasRoom state → is_counted id ≡ true → IsTurn x
    → StepsWell state (answering id (turn_step x state)) × KeepsAtMost 0 state (answering id (turn_step x state)).state
answering-well id x state is room small can =
    let turn = turn-steps-well state x is room can in
    let done : StepsWell state (turn_step x state) = turn.0 in
    let after : State = (turn_step x state).state in
    let told : CanBeTold (view_of after) = told-view after done.is_state.now (after-numbers state (turn_step x state) room done) in (
      record {
        is_state = done.is_state;
        course = course-join done.course (goes (replied id Nothing) [] (view_of after) (view_of after) (view_of after) told
            (refl, record { id_fits = small; plain = refl; fits = refl; texts = tt; levels = omega arith }) (ends (view_of after) told));
        ids = done.ids;
        serials = done.serials;
        sheets = done.sheets;
        trees = done.trees;
        searches = done.searches;
      },
      turn.1,
    )

pub answering-once : (id : ℕ) (x : Turn) (state : State) → flat_map reply_ids (answering id (turn_step x state)).moves ≡ Some id ∷ []
answering-once id x state =
    let quiet : flat_map reply_ids (turn_step x state).moves ≡ [] = turn-answers x state in
    flat-append (turn_step x state).moves (replied id Nothing ∷ []) quiet ∙ ap (λ ids. ids ++ Some id ∷ []) quiet
