-- Lines that load a page in its usual form.
use Rattle.std.proofs.Common.{◌≡◌, ℕ, ◌≤◌, ◌==◌, List, [], ◌∷◌, ◌++◌, append-nil, codes, Bool, true, false, ◌&&◌, ◌||◌, Option, Some, None}
use Rattle.std.proofs.Common.{is_none, option_map, option_and_then, IsUtf8, refl, sym, ap, ◌∙◌, subst, arith}
use Rattle.json.specs.Token.{Token, begin_object, end_object, key}
use Rattle.json.specs.Json as json
use Rattle.json.specs.Lex.{tokens}
use Rattle.json.specs.Tree.{json_tokens}
use Rattle.json.proofs.Printed.Trees.{value-json_tokens}
use Rattle.serde_json.specs.Data as datum
use Rattle.serde_json.specs.Data.{Data, put}
use Rattle.serde_json.specs.Read.{read, of_json, max_depth}
use Rattle.serde_json.specs.Written.{has_float}
use Rattle.node_tree.specs.Keys.{first_of, first_true}
use Rattle.page_forms.specs.Pages.{LoadedPage, page_in, first_page_fault}
use Rattle.page_forms.specs.PageForms.{page_form}
use Rattle.page_forms.specs.Spelt.{ValueForm, ReadsAs}
use Rattle.cdp_messages.specs.Asked.{json_of}
use Rattle.replay_script.specs.declared.faults.LineFault.TheVariants.{NotJson, BadLoad}
use Rattle.replay_script.specs.declared.line_kinds.LineKind.{LineKind}
use Rattle.replay_script.specs.declared.line_kinds.LineKind.TheVariants as kind
use Rattle.replay_script.specs.Kinds.{said}
use Rattle.replay_script.specs.Forms.{load, form_by, form_of}
use Rattle.replay_script.specs.Faults.{page_by, fault_of_data}
use Rattle.replay_script.specs.Loads.{load_line_form, Loads}
use Rattle.replay_script.proofs.FaultLemmas.{json-some, fault_said}

-- ---- the tokens of a line

neither : (a b : Bool) → a ≡ false → b ≡ false → (a || b) ≡ false
neither true b e f = absurd cc
neither false b e f = f

-- a page under the name of a load, and nothing behind it
pub load_spelt : (old from new : List Token) (page : LoadedPage) → old ≡ begin_object ∷ (key (codes "load") ∷ from)
    → ReadsAs page_form from page new → new ≡ end_object ∷ [] → ReadsAs load_line_form old page []
load_spelt old from new page e s f = record {
  json = json.object (json.member (codes "load") s.json json.no_members);
  value = datum.object (datum.member (codes "load") s.value datum.no_members);
  tokens = e ∙ ap (λ ts. begin_object ∷ (key (codes "load") ∷ ts))
      (s.tokens ∙ ap (λ ts. json_tokens s.json ++ ts) f ∙ sym (append-nil (json_tokens s.json ++ end_object ∷ [])));
  means = ap (λ o. option_map datum.object (option_and_then (λ d. Some (put (codes "load") d datum.no_members)) o)) s.means;
  shallow = omega (arith, s.shallow);
  whole = neither _ _ s.whole refl;
  reads = s.reads;
}

-- a text is the value that its tokens spell
read_spelt : {A : Type 0} (form : ValueForm A) (text : List ℕ) (x : A) → form.levels ≤ max_depth → (s : ReadsAs form (tokens text) x [])
    → read text ≡ Some s.value
read_spelt form text x low s =
    ap (λ ts. option_and_then of_json (option_and_then (λ p. json.if_last p.0 p.1) (json.value max_depth ts))) s.tokens
    ∙ ap (λ o. option_and_then of_json (option_and_then (λ p. json.if_last p.0 p.1) o))
    (value-json_tokens s.json max_depth [] (omega (arith, low, s.shallow)))
    ∙ s.means

-- ---- what it says

-- a line whose value is that of a load, with its page
record IsLoad (s : Option (LineKind × Data)) (page : LoadedPage) : Type 0 where
  value : Data
  is : s ≡ Some (kind.Load, value)
  spells : page_in value ≡ Some page

is_load_line : (s : Option (LineKind × Data)) (page : LoadedPage)
    → option_and_then page_in (option_and_then (λ t. page_by t.0 t.1) s) ≡ Some page → IsLoad s page
is_load_line None page e = absurd cc
is_load_line (Some (kind.Load, v)) page e = record { value = v; is = refl; spells = e }
is_load_line (Some (kind.Act, v)) page e = absurd cc
is_load_line (Some (kind.Ask, v)) page e = absurd cc
is_load_line (Some (kind.Raw, v)) page e = absurd cc
is_load_line (Some (kind.Up, v)) page e = absurd cc
is_load_line (Some (kind.Down, v)) page e = absurd cc
is_load_line (Some (kind.Settle, v)) page e = absurd cc
is_load_line (Some (kind.Show, v)) page e = absurd cc
is_load_line (Some (kind.Close, v)) page e = absurd cc
is_load_line (Some (kind.Styles, v)) page e = absurd cc

and_false : (b : Bool) → (b && false) ≡ false
and_false true = refl
and_false false = refl

-- a page without a fault is loaded by a line without one
load_clear : (number : ℕ) (d v : Data) (page : LoadedPage) → said d ≡ Some (kind.Load, v) → has_float d ≡ false → page_in v ≡ Some page
    → first_page_fault (Some page) ≡ None → fault_of_data number d ≡ None
load_clear number d v page is whole spells sound =
    fault_said number d kind.Load v is whole (and_false (number == 1)) ∙ ap
    (λ o. first_of (option_map BadLoad (first_page_fault o)) None) spells ∙ ap (λ f. first_of (option_map BadLoad f) None) sound

pub line_loads : (line text : List ℕ) (page : LoadedPage) → text ≡ line → IsUtf8 line → ReadsAs load_line_form (tokens text) page []
    → first_page_fault (Some page) ≡ None → Loads line page
line_loads line text page same u s sound =
    let here : ReadsAs load_line_form (tokens line) page [] = subst (λ t. ReadsAs load_line_form (tokens t) page []) same s in
    let d = here.value in
    let is : json_of line ≡ Some d = json-some line d u (read_spelt load_line_form line page (omega arith) here) in
    let l = is_load_line (said d) page here.reads in
    record {
      form = ap (option_and_then form_of) is ∙ ap (option_and_then (λ t. form_by t.0 t.1)) l.is ∙ ap (option_map load) l.spells;
      clear = λ number.
          ap (λ o. first_of (first_true ((NotJson, is_none o) ∷ [])) (option_and_then (fault_of_data number) o)) is
          ∙ load_clear number d l.value page l.is here.whole l.spells sound;
    }
