-- What the lines of an input are that is carried out: a load that a page may hold, and then lines that may come after it.
use Rattle.std.proofs.Common.{◌≡◌, ◌⊎◌, inl, inr, ℕ, suc, ◌+◌, ◌≤◌, cond, List, [], ◌∷◌, length, Bool, true, false, bytes_eq, codes, Option}
use Rattle.std.proofs.Common.{Some, None, option_map, option_and_then, if◌then◌else◌, refl, sym, ◌∙◌, ap, subst, arith}
use Rattle.serde_json.specs.Data.{Data, null, boolean, number, string, array, object, Members, no_members, member, depth}
use Rattle.serde_json.specs.Find.{as_str}
use Rattle.serde_json.specs.Read.{read, max_depth}
use Rattle.serde_json.specs.Written.{has_float}
use Rattle.serde_json.proofs.Nesting.{depth-read}
use Rattle.cdp_json.specs.Kinds.{as_whole, as_true, named}
use Rattle.cdp_json.specs.Plain.{is_plain, HasUtf8}
use Rattle.std.specs.Str.{is_utf8}
use Rattle.std.proofs.lemmas.Str.{IsUtf8-from_is_utf8}
use Rattle.node_tree.specs.Keys.{first_of}
use Rattle.page_forms.specs.Acts.{act_in}
use Rattle.page_forms.specs.Pages.{LoadedPage, CanLoadPage, page_in}
use Rattle.page_forms.proofs.ActLemmas.{act-insertable, acts_have_texts}
use Rattle.page_forms.proofs.PageLemmas.{can_load_page, pages_have_texts}
use Rattle.cdp_messages.specs.Asked.{json_of}
use Rattle.replay_script.specs.declared.line_kinds.LineKind.{LineKind}
use Rattle.replay_script.specs.declared.line_kinds.LineKind.TheVariants as kind
use Rattle.std.specs.List.{onto_first}
use Rattle.sheet_reader.specs.Positions.{is_line_feed}
use Rattle.replay_script.specs.Lines.{lines_of}
use Rattle.replay_script.specs.Kinds.{line_kind_name, all_line_kinds, sole_member, sole, styles_in, kind_said}
use Rattle.replay_script.specs.Forms as forms
use Rattle.replay_script.specs.Forms.{LineForm, load, ask, up, down, settle, show_front, show_page, show_sheets, show_replies, show_pauses}
use Rattle.replay_script.specs.Forms.{show_panels, show_styles, close, ask_in, show_from, form_by, form_of, line_form}
use Rattle.std.specs.Option.{option_map_or}
use Rattle.replay_script.specs.Faults.{is_no_frame, fault_of_data, line_fault}
use Rattle.replay_script.specs.Script.{script_forms, good_lines}
use Rattle.page_forms.specs.Texts.{PageHasTexts}
use Rattle.inspect_world.specs.Costs.{line_cost, lines_cost, line_bytes}
use Rattle.inspect_world.specs.ScriptsFit.{IsLater, AreLater, InputsFit}
use Rattle.replay_script.proofs.FaultLemmas.{line_form-good, line_good, is_clear, IsClear, json_good}
use Rattle.replay_script.proofs.ScriptLemmas.{good_lines-good, good_lines-bad}
use Rattle.cdp_json.proofs.ReadPlain.{read_plain}
use Rattle.inspect_world.proofs.SendForms.{can_send}
use Rattle.inspect_world.proofs.BareFrames.{raw_is_frame}
use Rattle.cdp_json.proofs.Options.{both_parts, and_then_some, map_some}
use Rattle.cdp_json.proofs.ReadTexts.{IfSome, read_utf8}
use Rattle.inspect_world.proofs.LineSizes.{line-long}
use Rattle.inspect_world.proofs.Scripts.{lines-fit}

-- ---- the value of a line

-- the value of an object's one property is plain and UTF-8 as the object is, and nests less deep
record Within (q d : Data) : Type 0 where
  pub plain : is_plain d ≡ true → is_plain q ≡ true
  pub texts : HasUtf8 d → HasUtf8 q
  pub deep : suc (depth q) ≤ depth d

within-sole_member : (ms : Members) (p : List ℕ × Data) → sole_member ms ≡ Some p → Within p.1 (object ms)
within-sole_member no_members p e = absurd cc
within-sole_member (member k d no_members) p e =
    let same : (k, d) ≡ p = cc e in
    subst (λ (q : List ℕ × Data). Within q.1 (object (member k d no_members))) same
    (record { plain = λ h. (both_parts (is_plain d) true h).0; texts = λ u. u.1; deep = omega arith })
within-sole_member (member k d (member l e ms)) p h = absurd cc

within-sole : (d : Data) (p : List ℕ × Data) → sole d ≡ Some p → Within p.1 d
within-sole null p e = absurd cc
within-sole (boolean b) p e = absurd cc
within-sole (number n) p e = absurd cc
within-sole (string s) p e = absurd cc
within-sole (array ds) p e = absurd cc
within-sole (object ms) p e = within-sole_member ms p e

-- what a line says stands under its one property, but for a show of styles
within-said : (styles : Option Data) (o : Option (List ℕ × Data)) (d : Data) (k : LineKind) (v : Data) → sole d ≡ o
    → first_of (option_map (λ asked. (kind.Styles, asked)) styles) (option_and_then kind_said o) ≡ Some (k, v)
    → (k ≡ kind.Styles) ⊎ Within v d
within-said (Some asked) o d k v is e =
    let same : ◌≡◌ {A = LineKind × Data} (kind.Styles, asked) (k, v) = cc e in inl (sym (ap (λ (t : LineKind × Data). t.0) same))
within-said None o d k v is e =
    let p = and_then_some kind_said o (k, v) e in
    let q = map_some (λ (name : LineKind). (name, p.0.1)) (named line_kind_name all_line_kinds p.0.0) (k, v) p.2 in
    inr (subst (λ (x : Data). Within x d) (ap (λ (t : LineKind × Data). t.1) q.2) (within-sole d p.0 (is ∙ p.1)))

-- ---- a line that is not refused

-- a value that is read: plain, UTF-8, and not too deep
record IsPlainRead (v : Data) : Type 0 where
  plain : is_plain v ≡ true
  texts : HasUtf8 v
  levels : depth v ≤ max_depth

later_load : (v : Data) (form : LineForm) → IsClear kind.Load v → IsPlainRead v → option_map load (page_in v) ≡ Some form → IsLater form
later_load v form clear read is =
    let p = map_some load (page_in v) form is in
    subst IsLater p.2 (can_load_page v p.0 p.1 clear.page, pages_have_texts v p.0 read.texts p.1)

later_act : (v : Data) (form : LineForm) → IsPlainRead v → option_map forms.act (act_in v) ≡ Some form → IsLater form
later_act v form read is =
    let p = map_some forms.act (act_in v) form is in
    subst IsLater p.2 (act-insertable v p.0 p.1, acts_have_texts v p.0 read.texts p.1)

later_ask : (v : Data) (form : LineForm) → IsPlainRead v → option_map ask (ask_in v) ≡ Some form → IsLater form
later_ask v form read is =
    let p = map_some ask (ask_in v) form is in
    subst IsLater p.2 (can_send v p.0 p.1 read.plain read.texts read.levels)

later_raw : (v : Data) (form : LineForm) → IsClear kind.Raw v → option_map forms.raw (as_str v) ≡ Some form → IsLater form
later_raw v form clear is =
    let p = map_some forms.raw (as_str v) form is in
    subst IsLater p.2 (raw_is_frame p.0 (sym (ap (λ o. option_map_or is_no_frame o false) p.1) ∙ clear.frame))

later_show : (b c s d p q : Bool) (form : LineForm)
    → (if b then Some show_front else if c then Some show_page else if s then Some show_sheets else if d then Some show_replies else if p
    then Some show_pauses else if q then Some show_panels else None) ≡ Some form → IsLater form
later_show true c s d p q form is = let same : show_front ≡ form = cc is in subst IsLater same tt
later_show false true s d p q form is = let same : show_page ≡ form = cc is in subst IsLater same tt
later_show false false true d p q form is = let same : show_sheets ≡ form = cc is in subst IsLater same tt
later_show false false false true p q form is = let same : show_replies ≡ form = cc is in subst IsLater same tt
later_show false false false false true q form is = let same : show_pauses ≡ form = cc is in subst IsLater same tt
later_show false false false false false true form is = let same : show_panels ≡ form = cc is in subst IsLater same tt
later_show false false false false false false form is = absurd cc

later_styles : (v : Data) (form : LineForm) → form_by kind.Styles v ≡ Some form → IsLater form
later_styles v form is = let p = map_some show_styles (as_whole v) form is in subst IsLater p.2 tt

later_by : (k : LineKind) (v : Data) (form : LineForm) → IsClear k v → IsPlainRead v → form_by k v ≡ Some form → IsLater form
later_by kind.Load v form clear read is = later_load v form clear read is
later_by kind.Act v form clear read is = later_act v form read is
later_by kind.Ask v form clear read is = later_ask v form read is
later_by kind.Raw v form clear read is = later_raw v form clear is
later_by kind.Up v form clear read is = let p = map_some up (as_whole v) form is in subst IsLater p.2 tt
later_by kind.Down v form clear read is = let p = map_some down (as_whole v) form is in subst IsLater p.2 tt
later_by kind.Settle v form clear read is = let p = map_some (λ _. settle) (as_true v) form is in subst IsLater p.2 tt
later_by kind.Show v form clear read is =
    let p = and_then_some show_from (as_str v) form is in
    later_show (bytes_eq p.0 (codes "front")) (bytes_eq p.0 (codes "page")) (bytes_eq p.0 (codes "sheets"))
    (bytes_eq p.0 (codes "replies")) (bytes_eq p.0 (codes "pauses")) (bytes_eq p.0 (codes "panels")) form p.2
later_by kind.Close v form clear read is = let p = map_some close (as_whole v) form is in subst IsLater p.2 tt
later_by kind.Styles v form clear read is = later_styles v form is

-- a line that is read: plain but for floats, UTF-8, and not too deep
pub record IsRead (d : Data) : Type 0 where
  pub plain : has_float d ≡ false → is_plain d ≡ true
  pub texts : HasUtf8 d
  pub levels : depth d ≤ max_depth

line-read : (line : List ℕ) → IfSome IsRead (json_of line)
line-read line = at (is_utf8 line) (read line) refl refl where
  at : (b : Bool) (o : Option Data) → is_utf8 line ≡ b → read line ≡ o → IfSome IsRead (cond b o None)
  at false o is e = tt
  at true None is e = tt
  at true (Some d) is e = record {
    plain = read_plain line d e;
    texts = read_utf8 line d (IsUtf8-from_is_utf8 line is) e;
    levels = depth-read line d e;
  }

later_data : (nth : ℕ) (d : Data) (form : LineForm) → IsRead d → fault_of_data nth d ≡ None → form_of d ≡ Some form → IsLater form
later_data nth d form read e is =
    let good = line_good nth d e in
    let by : form_by good.kind good.value
    ≡ Some form = sym (ap (option_and_then (λ (s : LineKind × Data). form_by s.0 s.1)) good.is) ∙ is in
    by_kind good.kind good.value (is_clear good.kind good.value good.clear) good.whole by
    (within-said (styles_in d) (sole d) d good.kind good.value refl good.is)
  where
    by_kind : (k : LineKind) (v : Data) → IsClear k v → has_float d ≡ false → form_by k v ≡ Some form → (k ≡ kind.Styles) ⊎ Within v d
        → IsLater form
    by_kind k v clear whole by (inl styles) = later_styles v form (sym (ap (λ at. form_by at v) styles) ∙ by)
    by_kind k v clear whole by (inr within) =
        let levels : depth d ≤ max_depth = read.levels in
        let deep : suc (depth v) ≤ depth d = within.deep in
        later_by k v form clear (record {
          plain = within.plain (read.plain whole);
          texts = within.texts read.texts;
          levels = omega (arith, levels, deep);
        }) by

-- a line that is not refused may be carried out
pub later_line : (nth : ℕ) (line : List ℕ) (form : LineForm) → line_fault nth line ≡ None → line_form line ≡ Some form → IsLater form
later_line nth line form e is =
    let json = json_good nth (json_of line) e in
    later_data nth json.0 form (subst (IfSome IsRead) json.1 (line-read line)) json.2 (sym (ap (option_and_then form_of) json.1) ∙ is)

-- ---- all lines

-- the forms of lines that are carried out after the load
pub record Later (forms : List LineForm) (most : ℕ) : Type 0 where
  pub later : AreLater forms
  pub few : lines_cost forms ≤ most

later_cons : (form : LineForm) (forms : List LineForm) (line most : ℕ) → IsLater form → line_cost form ≤ line → Later forms most
    → Later (form ∷ forms) (most + line)
later_cons form forms line most is cost rest = record {
  later = (is, rest.later);
  few = let h : lines_cost forms ≤ most = rest.few in omega (arith, h, cost);
}

later_lines : (nth : ℕ) (lines : List (List ℕ)) → Later (good_lines nth lines) (line_bytes lines)
later_lines nth [] = record { later = tt; few = omega arith }
later_lines nth (line ∷ more) =
    (elim (line_fault nth line) as (λ f. line_fault nth line ≡ f → Later (good_lines nth (line ∷ more)) (line_bytes more + length line)) [
      | None ↦ λ e.
          let form = line_form-good nth line e in
          subst (λ forms. Later forms (line_bytes more + length line)) (sym (good_lines-good nth line more form.0 e form.1))
          (later_cons form.0 (good_lines (nth + 1) more) (length line) (line_bytes more)
          (later_line nth line form.0 e form.1) (line-long line form.0 form.1)
          (later_lines (nth + 1) more))
      | Some fault ↦ λ e.
          subst (λ forms. Later forms (line_bytes more + length line)) (sym (good_lines-bad nth line more fault e))
          (record { later = tt; few = omega arith })
    ]) refl

-- a script whose first line is a load
pub record Script (page : LoadedPage) (forms : List LineForm) (most : ℕ) : Type 0 where
  pub can : CanLoadPage page
  pub texts : PageHasTexts page
  pub rest : Later forms most

script_of : (lines : List (List ℕ)) (page : LoadedPage) (forms : List LineForm) → good_lines 1 lines ≡ load page ∷ forms
    → Script page forms (line_bytes lines)
script_of [] page forms is = let no : ◌≡◌ {A = List LineForm} [] (load page ∷ forms) = is in absurd cc
script_of (line ∷ more) page forms is =
    (elim (line_fault 1 line) as (λ f. line_fault 1 line ≡ f → Script page forms (line_bytes more + length line)) [
      | None ↦ λ e.
          let form = line_form-good 1 line e in
          let later = good_lines (1 + 1) more in
          let all : ◌≡◌ {A = List LineForm} (form.0 ∷ later) (load page ∷ forms) = sym (good_lines-good 1 line more form.0 e form.1) ∙ is in
          let head : form.0 ≡ load page = cc all in
          let tail : later ≡ forms = cc all in
          let rest : Later later (line_bytes more) = later_lines 2 more in
          let same : Later forms (line_bytes more) = subst (λ fs. Later fs (line_bytes more)) tail rest in
          let first : IsLater (load page) = later_line 1 line (load page) e (form.1 ∙ ap Some head) in
          record {
            can = first.0;
            texts = first.1;
            rest = record { later = same.later; few = let h : lines_cost forms ≤ line_bytes more = same.few in omega arith };
          }
      | Some fault ↦ λ e.
          let no : ◌≡◌ {A = List LineForm} [] (load page ∷ forms) = sym (good_lines-bad 1 line more fault e) ∙ is in absurd cc
    ]) refl

-- no more lines than bytes
length-onto_first : (b : ℕ) (lines : List (List ℕ)) (n : ℕ) → length lines ≤ n → length (onto_first b lines) ≤ suc n
length-onto_first b [] n h = omega arith
length-onto_first b (line ∷ lines) n h = omega arith

length-cut : (cuts : Bool) (b : ℕ) (lines : List (List ℕ)) (n : ℕ) → length lines ≤ n
    → length (if cuts then [] ∷ lines else onto_first b lines) ≤ suc n
length-cut true b lines n h = omega arith
length-cut false b lines n h = length-onto_first b lines n h

pub length-lines_of : (input : List ℕ) → length (lines_of input) ≤ length input
length-lines_of [] = omega arith
length-lines_of (b ∷ more) = length-cut (is_line_feed b) b (lines_of more) (length more) (length-lines_of more)

-- and no more in them
bytes-onto_first : (b : ℕ) (lines : List (List ℕ)) (n : ℕ) → line_bytes lines ≤ n → line_bytes (onto_first b lines) ≤ suc n
bytes-onto_first b [] n h = omega arith
bytes-onto_first b (line ∷ lines) n h = omega (arith, h)

bytes-cut : (cuts : Bool) (b : ℕ) (lines : List (List ℕ)) (n : ℕ) → line_bytes lines ≤ n
    → line_bytes (if cuts then [] ∷ lines else onto_first b lines) ≤ suc n
bytes-cut true b lines n h = omega (arith, h)
bytes-cut false b lines n h = bytes-onto_first b lines n h

pub bytes-lines_of : (input : List ℕ) → line_bytes (lines_of input) ≤ length input
bytes-lines_of [] = omega arith
bytes-lines_of (b ∷ more) = bytes-cut (is_line_feed b) b (lines_of more) (length more) (bytes-lines_of more)

-- what the lines of an input are that is carried out
pub input-script : (input : List ℕ) (page : LoadedPage) (lines : List LineForm) → script_forms input ≡ load page ∷ lines
    → Script page lines (length input)
input-script input page lines is =
    let script : Script page lines (line_bytes (lines_of input)) = script_of (lines_of input) page lines is in
    let a : lines_cost lines ≤ line_bytes (lines_of input) = script.rest.few in
    let b : line_bytes (lines_of input) ≤ length input = bytes-lines_of input in
    record { can = script.can; texts = script.texts; rest = record { later = script.rest.later; few = omega (arith, a, b) } }

pub inputs-fit : InputsFit
inputs-fit input page lines is few =
    let script : Script page lines (length input) = input-script input page lines is in
    let a : lines_cost lines ≤ length input = script.rest.few in
    lines-fit page lines script.can script.texts script.rest.later (omega (arith, a, few))
