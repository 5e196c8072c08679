-- Lemmas on the faults of a line.
use Rattle.std.proofs.Common.{◌≡◌, ℕ, ◌==◌, List, [], ◌∷◌, Bool, true, false, not, ◌&&◌, ◌||◌, if◌then◌else◌, Option, Some, None}
use Rattle.std.proofs.Common.{is_none, is_some, option_map, option_and_then, IsUtf8, refl, ap, subst, ◌∙◌}
use Rattle.std.specs.Option.{option_map_or}
use Rattle.std.proofs.lemmas.Str.{is_utf8-from_IsUtf8}
use Rattle.serde_json.specs.Data.{Data}
use Rattle.serde_json.specs.Read.{read}
use Rattle.serde_json.specs.Written.{has_float}
use Rattle.node_tree.specs.Keys.{first_of, first_true}
use Rattle.page_tree.specs.declared.faults.LoadFault.{LoadFault}
use Rattle.page_forms.specs.Pages.{LoadedPage, page_in, first_page_fault, page_fault}
use Rattle.cdp_messages.specs.Asked.{json_of}
use Rattle.replay_script.specs.declared.faults.LineFault.{LineFault}
use Rattle.replay_script.specs.declared.faults.LineFault.TheVariants.{NotJson, NotLoad, BadForm, BadLoad, BadRaw}
use Rattle.replay_script.specs.declared.line_kinds.LineKind.{LineKind}
use Rattle.replay_script.specs.declared.line_kinds.LineKind.TheVariants as kind
use Rattle.replay_script.specs.Kinds.{is_load, said}
use Rattle.replay_script.specs.Forms.{LineForm, load, form_by, form_of, line_form}
use Rattle.replay_script.specs.Faults.{has_form, is_no_frame, page_by, raw_by, fault_by, fault_of_data, line_fault}

-- ---- a line's JSON

pub json-some : (line : List ℕ) (d : Data) → IsUtf8 line → read line ≡ Some d → json_of line ≡ Some d
json-some line d text is = rw (is_utf8-from_IsUtf8 line text) is

-- ---- the first of some faults

-- none of both is none of each
pub first_none : {A : Type 0} (o p : Option A) → first_of o p ≡ None → (o ≡ None) × (p ≡ None)
first_none None p e = (refl, e)
first_none (Some x) p e = absurd cc

-- no test holds
pub none_true : {F : Type 0} (f : F) (b : Bool) (xs : List (F × Bool)) → first_true ((f, b) ∷ xs) ≡ None
    → (b ≡ false) × (first_true xs ≡ None)
none_true f true xs e = absurd cc
none_true f false xs e = (refl, e)

pub true_from_not : (b : Bool) → not b ≡ false → b ≡ true
true_from_not true e = refl
true_from_not false e = absurd cc

or_neither : (a b : Bool) → (a || b) ≡ false → (a ≡ false) × (b ≡ false)
or_neither true b e = absurd cc
or_neither false b e = (refl, e)

pub some_there : {A : Type 0} (o : Option A) → is_some o ≡ true → (x : A) × (o ≡ Some x)
some_there None e = absurd cc
some_there (Some x) e = (x, refl)

-- ---- what a line says, without a fault

-- the value of a line of that kind has no fault
pub record IsClear (k : LineKind) (v : Data) : Type 0 where
  pub formed : has_form k v ≡ true
  pub page : option_and_then page_fault (page_by k v) ≡ None
  pub frame : option_map_or is_no_frame (raw_by k v) false ≡ false

map_none : (o : Option LoadFault) → option_map BadLoad o ≡ None → o ≡ None
map_none None e = refl
map_none (Some x) e = absurd cc

pub is_clear : (k : LineKind) (v : Data) → fault_by k v ≡ None → IsClear k v
is_clear k v e =
    let halves = first_none (first_true ((BadForm, not (has_form k v)) ∷ [])) _ e in
    let forms = none_true BadForm (not (has_form k v)) [] halves.0 in
    let others = first_none (option_map BadLoad (option_and_then page_fault (page_by k v))) _ halves.1 in
    record {
      formed = true_from_not _ forms.0;
      page = map_none _ others.0;
      frame = (none_true BadRaw (option_map_or is_no_frame (raw_by k v) false) [] others.1).0;
    }

page_there : (o : Option LoadedPage) → first_page_fault o ≡ None → (page : LoadedPage) × (o ≡ Some page)
page_there None e = absurd cc
page_there (Some page) e = (page, refl)

-- what has no fault has a form
pub clear_form : (k : LineKind) (v : Data) → IsClear k v → (form : LineForm) × (form_by k v ≡ Some form)
clear_form kind.Load v c = let p = page_there (page_in v) c.page in (load p.0, ap (option_map load) p.1)
clear_form kind.Act v c = some_there (form_by kind.Act v) c.formed
clear_form kind.Ask v c = some_there (form_by kind.Ask v) c.formed
clear_form kind.Raw v c = some_there (form_by kind.Raw v) c.formed
clear_form kind.Up v c = some_there (form_by kind.Up v) c.formed
clear_form kind.Down v c = some_there (form_by kind.Down v) c.formed
clear_form kind.Settle v c = some_there (form_by kind.Settle v) c.formed
clear_form kind.Show v c = some_there (form_by kind.Show v) c.formed
clear_form kind.Close v c = some_there (form_by kind.Close v) c.formed
clear_form kind.Styles v c = some_there (form_by kind.Styles v) c.formed

-- ---- whole lines

pub whole_not : (b v : Bool) → v ≡ not b → v ≡ true → b ≡ false
whole_not true v e h = absurd cc
whole_not false v e h = refl

-- the fault of a line of that kind, whose numbers are whole, and that loads a page where it is the first
pub fault_said : (number : ℕ) (d : Data) (k : LineKind) (v : Data) → said d ≡ Some (k, v) → has_float d ≡ false
    → (number == 1 && not (is_load k)) ≡ false
    → fault_of_data number d ≡ fault_by k v
fault_said number d k v is whole first = rw (is, whole, not_load (number == 1) (is_load k) v first) refl where
  not_load : (n b : Bool) (v : Data) → (n && not b) ≡ false → (n && is_none (if b then Some v else None)) ≡ false
  not_load true true v e = refl
  not_load true false v e = absurd cc
  not_load false b v e = refl

-- a line without a fault, by what it says
pub record IsGood (number : ℕ) (float : Bool) (s : Option (LineKind × Data)) : Type 0 where
  pub kind : LineKind
  pub value : Data
  pub is : s ≡ Some (kind, value)
  pub whole : float ≡ false
  pub first : (number == 1 && not (is_load kind)) ≡ false
  pub clear : fault_by kind value ≡ None

-- the fault of a line by what it says
abbrev fault_from : ℕ → Bool → Option (LineKind × Data) → Option LineFault
fault_from number float s =
    first_of (first_true ((NotLoad, number == 1 && is_none (option_and_then (λ t. page_by t.0 t.1) s))
    ∷ (BadForm, float || not (option_map_or (λ t. has_form t.0 t.1) s false))
    ∷ []))
    (first_of (option_map BadLoad (option_and_then page_fault (option_and_then (λ t. page_by t.0 t.1) s)))
    (first_true ((BadRaw, option_map_or is_no_frame (option_and_then (λ t. raw_by t.0 t.1) s) false) ∷ [])))

good_kind : (n float loads formed : Bool) (k : LineKind) (v : Data) (rest : Option LineFault) → is_load k ≡ loads
    → has_form k v ≡ formed
    → first_of (first_true ((NotLoad, n && is_none (page_by k v)) ∷ (BadForm, float || not formed) ∷ [])) rest ≡ None
    → (float ≡ false) × ((n && not loads) ≡ false) × (first_of (first_true ((BadForm, not formed) ∷ [])) rest ≡ None)
good_kind n float loads formed k v rest is_l is_f e =
    let halves = first_none (first_true
    ((NotLoad, n && is_none (page_by k v)) ∷ (BadForm, float || not formed) ∷ [])) rest e in
    let paged = none_true NotLoad (n && is_none (page_by k v)) ((BadForm, float || not formed) ∷ []) halves.0 in
    let forms = none_true BadForm (float || not formed) [] paged.1 in
    let both = or_neither float (not formed) forms.0 in (
      both.0,
      first_page n loads (subst (λ b. (n && is_none (if b then Some v else None)) ≡ false) is_l paged.0),
      rw both.1 halves.1,
    ) where
      first_page : (n b : Bool) → (n && is_none (if b then Some v else None)) ≡ false → (n && not b) ≡ false
      first_page true true e = refl
      first_page true false e = absurd cc
      first_page false b e = refl

good_from : (number : ℕ) (float : Bool) (s : Option (LineKind × Data)) → fault_from number float s ≡ None → IsGood number float s
good_from number float None e = absurd (no_kind (number == 1) float e) where
  no_kind : (n float : Bool) → first_of (first_true ((NotLoad, n && true) ∷ (BadForm, float || true) ∷ [])) None ≡ None
      → ⊥
  no_kind true float e = cc
  no_kind false true e = cc
  no_kind false false e = cc
good_from number float (Some (k, v)) e =
    let p = good_kind (number == 1) float (is_load k) (has_form k v) k v _ refl refl e in
    record { kind = k; value = v; is = refl; whole = p.0; first = p.1; clear = p.2 }

-- what a line without a fault says
pub line_good : (number : ℕ) (d : Data) → fault_of_data number d ≡ None → IsGood number (has_float d) (said d)
line_good number d e = good_from number (has_float d) (said d) e

-- the JSON of a line without a fault
pub json_good : (number : ℕ) (o : Option Data)
    → first_of (first_true ((NotJson, is_none o) ∷ [])) (option_and_then (fault_of_data number) o) ≡ None
    → (d : Data) × (o ≡ Some d) × (fault_of_data number d ≡ None)
json_good number None e = absurd cc
json_good number (Some d) e = (d, refl, e)

form_good : (number : ℕ) (d : Data) → fault_of_data number d ≡ None → (form : LineForm) × (form_of d ≡ Some form)
form_good number d e =
    let good = line_good number d e in
    let form = clear_form good.kind good.value (is_clear good.kind good.value good.clear) in
    (form.0, ap (option_and_then (λ s. form_by s.0 s.1)) good.is ∙ form.1)

-- a line that is not refused has a form
pub line_form-good : (number : ℕ) (line : List ℕ) → line_fault number line ≡ None → (form : LineForm) × (line_form line ≡ Some form)
line_form-good number line e =
    let json = json_good number (json_of line) e in
    let form = form_good number json.0 json.2 in
    (form.0, ap (option_and_then form_of) json.1 ∙ form.1)
