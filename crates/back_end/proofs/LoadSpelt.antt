-- A frame that loads a page, by its tokens.
use Rattle.std.proofs.Common.{◌≡◌, ℕ, ◌<◌, ◌^◌, List, [], ◌∷◌, ◌++◌, append-nil, codes, decimal, Bool, true, cond, if◌then◌else◌}
use Rattle.std.proofs.Common.{Some, None, Ok, Err, option_and_then, option_map, IsUtf8, refl, sym, ap, ap₂, ◌∙◌, subst, arith, ltb-true}
use Rattle.std.proofs.lemmas.Str.{is_utf8-from_IsUtf8}
use Rattle.json.specs.Token.{Token, end_object}
use Rattle.json.specs.Json as json
use Rattle.json.specs.Lex.{tokens}
use Rattle.json.specs.Tree.{json_tokens}
use Rattle.json.proofs.Printed.Trees.{value-json_tokens}
use Rattle.serde_json.specs.Data as datum
use Rattle.serde_json.specs.Data.{Data, unsigned, put}
use Rattle.serde_json.specs.Read.{read, of_json, max_depth, number_of}
use Rattle.serde_json.proofs.Numbers.{number_of-decimal}
use Rattle.cdp_json.specs.Kinds.{is_counted, as_whole}
use Rattle.cdp_json.specs.Fields.{field_of, field_from}
use Rattle.cdp_json.specs.declared.fields.Field.TheVariants.{Is}
use Rattle.cdp_messages.specs.Asked.{json_of, asked, asked_value, with_id, command_in}
use Rattle.cdp_messages.specs.declared.command.Command.TheVariants.{ReplayLoad}
use Rattle.cdp_messages.specs.declared.command.Why.TheVariants.{BadParam}
use Rattle.cdp_messages.specs.declared.command.Param.TheVariants.{Params}
use Rattle.page_forms.specs.Pages.{LoadedPage, page_in, first_page_fault, CanLoadPage}
use Rattle.page_forms.specs.PageForms.{page_form}
use Rattle.page_forms.specs.Spelt.{ReadsAs}
use Rattle.page_forms.proofs.PageLemmas.{can_load_page}
use Rattle.back_end.specs.States.{State}
use Rattle.back_end.specs.Steps.{asked_step, frame_step, command_step}
use Rattle.back_end.specs.Outside.{command_outward, asked_outward, frame_outward}
use Rattle.back_end.specs.OwnMethods.{load_form, load_why, unless_why}
use Rattle.back_end.specs.LoadFrames.{load_tokens, load_members, SpellsLoad, AsksLoad}

-- ---- its tokens

-- an id, read again
id_read : (id : ℕ) → is_counted id ≡ true → number_of (decimal id) ≡ Some (unsigned id)
id_read id small =
    let below : id < 2 ^ 53 = ltb-true id (2 ^ 53) small in
    number_of-decimal id (omega arith)

pub load_spelt : (id : ℕ) (old from new : List Token) (page : LoadedPage) → is_counted id ≡ true → old ≡ load_tokens id from
    → ReadsAs page_form from page new → new ≡ end_object ∷ [] → SpellsLoad old id page
load_spelt id old from new page small e s f = record {
  json = json.object (json.member (codes "id") (json.number (decimal id))
      (json.member (codes "method") (json.string (codes "Replay.load")) (json.member (codes "params") s.json json.no_members)));
  params = s.value;
  tokens =
      e ∙ ap (load_tokens id)
      (s.tokens ∙ ap (λ ts. json_tokens s.json ++ ts) f ∙ sym (append-nil (json_tokens s.json ++ end_object ∷ [])));
  means =
      ap₂ (λ o p. option_map datum.object (option_and_then (λ a. option_and_then
      (λ d. Some (put (codes "params") d
      (put (codes "method") (datum.string (codes "Replay.load")) (put (codes "id") a datum.no_members)))) p)
      (option_map datum.number o)))
      (id_read id small) s.means;
  shallow = omega (arith, s.shallow);
  whole = s.whole;
  reads = s.reads;
  counted = small;
}

-- a text is the value that its tokens spell
load_read : (text : List ℕ) (id : ℕ) (page : LoadedPage) (s : SpellsLoad (tokens text) id page)
    → read text ≡ Some (datum.object (load_members id s.params))
load_read text id page s =
    ap (λ ts. option_and_then of_json (option_and_then (λ p. json.if_last p.0 p.1) (json.value max_depth ts))) s.tokens
    ∙ ap (λ o. option_and_then of_json (option_and_then (λ p. json.if_last p.0 p.1) o))
    (value-json_tokens s.json max_depth [] (omega (arith, s.shallow)))
    ∙ s.means

-- ---- what it asks

id_found : (id : ℕ) (d : Data) → is_counted id ≡ true → field_of as_whole (codes "id") (load_members id d) ≡ Is id
id_found id d small = ap (λ (b : Bool). field_from (λ (x : Data). if b then Some id else None) (Some d)) small

-- parameters that are a page are an object, and are kept
load_found : (id : ℕ) (d : Data) (page : LoadedPage) → page_in d ≡ Some page → command_in true (load_members id d) ≡ Ok (ReplayLoad d)
load_found id datum.null page e = absurd cc
load_found id (datum.boolean b) page e = absurd cc
load_found id (datum.number n) page e = absurd cc
load_found id (datum.string s) page e = absurd cc
load_found id (datum.array ds) page e = absurd cc
load_found id (datum.object ms) page e = refl

module _ (frame text : List ℕ) (id : ℕ) (page : LoadedPage) (same : text ≡ frame) (utf8 : IsUtf8 frame)
    (spelt : SpellsLoad (tokens text) id page) (sound : first_page_fault (Some page) ≡ None) where
  frame_spelt : SpellsLoad (tokens frame) id page
  frame_spelt = subst (λ t. SpellsLoad (tokens t) id page) same spelt

  frame_is : json_of frame ≡ Some (datum.object (load_members id frame_spelt.params))
  frame_is = rw (is_utf8-from_IsUtf8 frame utf8) (load_read frame id page frame_spelt)

  pub frame_asks : AsksLoad frame id page
  frame_asks = record {
    params = frame_spelt.params;
    asks =
        ap (asked_value true) frame_is
        ∙ ap (λ f. with_id f (command_in true (load_members id frame_spelt.params))) (id_found id frame_spelt.params frame_spelt.counted)
        ∙ ap (λ c. with_id (Is id) c) (load_found id frame_spelt.params page frame_spelt.reads);
    loads =
        ap₂ (λ (b : Bool) o. cond b (Err (BadParam Params)) (load_form o)) frame_spelt.whole frame_spelt.reads
        ∙ ap (λ f. unless_why (option_map load_why f) page) sound;
  }

  pub frame_can : CanLoadPage page
  frame_can = can_load_page frame_spelt.params page frame_spelt.reads (ap first_page_fault frame_spelt.reads ∙ sound)

-- the step on such a frame
pub load_step_is : (own : Bool) (frame : List ℕ) (id : ℕ) (page : LoadedPage) → own ≡ true → (e : AsksLoad frame id page) → (state : State)
    → command_step id (ReplayLoad e.params) state ≡ frame_step own frame state
load_step_is own frame id page is e state = sym (ap (λ a. asked_step a state) (ap (asked frame) is ∙ e.asks))

-- and what the frame is to the page
pub load_outward_is : (own : Bool) (frame : List ℕ) (id : ℕ) (page : LoadedPage) → own ≡ true → (e : AsksLoad frame id page)
    → (state : State) → command_outward (ReplayLoad e.params) state ≡ frame_outward own frame state
load_outward_is own frame id page is e state = sym (ap (λ a. asked_outward a state) (ap (asked frame) is ∙ e.asks))
