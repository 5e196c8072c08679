-- Lemmas on the lines of a script with two front ends.
use Rattle.std.proofs.Common.{◌≡◌, ℕ, ◌==◌, List, [], ◌∷◌, Bool, true, false, not, ◌||◌, Option, Some, None, is_none, is_some}
use Rattle.std.proofs.Common.{option_map, option_and_then, bytes_eq, codes, Result, Ok, Err, IfOk, refl, ap, sym, subst, ◌∙◌, arith}
use Rattle.std.proofs.Common.{if◌then◌else◌}
use Rattle.std.specs.Prelude.{⊤}
use Rattle.serde_json.specs.Data.{Data, null, boolean, number, string, array, object, Members, no_members, member}
use Rattle.serde_json.specs.Written.{has_float}
use Rattle.node_tree.specs.Keys.{first_of, first_true}
use Rattle.cdp_json.specs.Kinds.{as_true, if_holds, named}
use Rattle.cdp_json.specs.Lawful.{LawfulKind}
use Rattle.cdp_json.specs.Plain.{is_plain}
use Rattle.cdp_json.proofs.KindLaws.{anything_lawful, whole_lawful, refined_lawful, named_is}
use Rattle.cdp_json.proofs.RowLaws.{ends_lawful, and_need_lawful, object_lawful}
use Rattle.cdp_json.proofs.Options.{both_parts, if_some, and_then_some, map_some}
use Rattle.page_forms.specs.Pages.{LoadedPage}
use Rattle.cdp_messages.specs.Asked.{json_of}
use Rattle.replay_script.specs.declared.faults.LineErr.{LineErr}
use Rattle.replay_script.specs.declared.faults.LineErr.TheVariants.{Fault, Memory}
use Rattle.replay_script.specs.declared.faults.LineFault.{LineFault}
use Rattle.replay_script.specs.declared.faults.LineFault.TheVariants.{NotJson, NotLoad, BadForm}
use Rattle.replay_script.specs.declared.forms.Line.{Line}
use Rattle.replay_script.specs.declared.pair_lines.PairLine.{PairLine}
use Rattle.replay_script.specs.declared.pair_lines.PairLine.TheVariants as line
use Rattle.replay_script.specs.declared.line_kinds.LineKind.{LineKind}
use Rattle.replay_script.specs.declared.line_kinds.LineKind.TheVariants as kind
use Rattle.replay_script.specs.Kinds.{line_kind_name, all_line_kinds, is_load, sole_member, sole, styles_in, kind_said, said}
use Rattle.replay_script.specs.Forms.{LineForm, load, ask, ask_in, form_by, form_of}
use Rattle.replay_script.specs.Faults.{fault_of_data}
use Rattle.replay_script.specs.Loads.{Loads}
use Rattle.replay_script.specs.Seen.{RefusesLine}
use Rattle.replay_script.specs.Sound.{IsSound, FitsPage, AreWhole}
use Rattle.replay_script.specs.PairLines.{PairForm, attach_session, detach_session, of_first, of_second, target_said, target_in}
use Rattle.replay_script.specs.PairLines.{is_two, ask_on_two, show_on_two, styles_on_two, said_on_two, may_be_first, may_be_second}
use Rattle.replay_script.specs.PairLines.{first_form, second_form, form_with, pair_form_of, pair_line_form, bad_form}
use Rattle.replay_script.specs.PairLines.{second_fault, fault_with, pair_fault_of_data, pair_line_fault}
use Rattle.replay_script.specs.PairSeen.{pair_seen, HoldsOfLine, IsPairSound, PairFormsAreSound, PairFirstIsLoad}
use Rattle.replay_script.proofs.FaultLemmas.{first_none, none_true, line_good}
use Rattle.replay_script.proofs.SoundLemmas.{IsRead, line_read, ask_sound, shown_sound, styles_sound, data_sound, load_first}
use Rattle.replay_script.proofs.SoundLemmas.{fits_line, whole_line}

-- ---- what is no line

-- a line that has no fault but that it has no form
abbrev plain_fault : Option LineForm → Option LineFault
plain_fault o = first_of (first_true ((BadForm, not (is_some o)) ∷ [])) None

-- a line that is not read is none of the second front
pub second_refused : (e : LineErr) (o : Option LineForm) → RefusesLine {T = Line} (Err e) (plain_fault o)
    → RefusesLine {T = PairLine} (Err e) (bad_form (option_and_then (if_holds may_be_second) o))
second_refused (Fault f) None h = h
second_refused (Fault f) (Some form) h = absurd cc
second_refused Memory o h = tt

-- ---- forms that a front may have

-- a form that passes a test
record Passed (test : LineForm → Bool) (o : Option LineForm) (form : LineForm) : Type 0 where
  pub is : o ≡ Some form
  pub may : test form ≡ true

passed : (test : LineForm → Bool) (o : Option LineForm) (form : LineForm) → option_and_then (if_holds test) o ≡ Some form
    → Passed test o form
passed test o form e =
    let found = and_then_some (if_holds test) o form e in
    let held = if_some (test found.0) found.0 form found.2 in
    record { is = found.1 ∙ ap (λ (x : LineForm). Some x) held.1; may = subst (λ (x : LineForm). test x ≡ true) held.1 held.0 }

-- ---- an ask of the second front

ask_lawful : LawfulKind ask_on_two
ask_lawful =
    object_lawful (and_need_lawful (codes "ask") anything_lawful
    (and_need_lawful (codes "on") (refined_lawful is_two whole_lawful) ends_lawful refl) refl)

-- what an ask of the second front asks is a value within the line
ask_read : (d : Data) (f : Data × (ℕ × ⊤)) → IsRead d → ask_on_two.reads d ≡ Some f → IsRead f.0
ask_read d f r is =
    let spelled : ask_on_two.spell f ≡ d = (ask_lawful.takes d f is).0 in
    let line : IsRead (ask_on_two.spell f) = subst IsRead (sym spelled) r in
    let levels = line.levels in
    record { plain = (both_parts (is_plain f.0) _ line.plain).0; texts = line.texts.1; levels = omega (arith, levels) }

-- a line of the second front says what its form says
said_sound : (d : Data) (s : LineKind × Data) (form : LineForm) → IsRead d → said_on_two d ≡ Some s → form_by s.0 s.1 ≡ Some form
    → IsSound form
said_sound d s form r is by = styles (styles_on_two.reads d) (ask_on_two.reads d) refl is where
  shows : (o : Option (ℕ × (Data × ⊤))) → option_map (λ (f : ℕ × (Data × ⊤)). (kind.Show, f.1.0)) o ≡ Some s → IsSound form
  shows o e =
      let p = map_some (λ (f : ℕ × (Data × ⊤)). (kind.Show, f.1.0)) o s e in
      shown_sound p.0.1.0 form (ap (λ (t : LineKind × Data). form_by t.0 t.1) p.2 ∙ by)

  asks : (o : Option (Data × (ℕ × ⊤))) → ask_on_two.reads d ≡ o
      → first_of (option_map (λ (f : Data × (ℕ × ⊤)). (kind.Ask, f.0)) o)
      (option_map (λ (f : ℕ × (Data × ⊤)). (kind.Show, f.1.0)) (show_on_two.reads d)) ≡ Some s
      → IsSound form
  asks None found e = shows (show_on_two.reads d) e
  asks (Some f) found e =
      let same : ◌≡◌ {A = LineKind × Data} (kind.Ask, f.0) s = cc in
      let p = map_some ask (ask_in f.0) form (ap (λ (t : LineKind × Data). form_by t.0 t.1) same ∙ by) in
      subst IsSound p.2 (ask_sound f.0 p.0 (ask_read d f r found) p.1)

  styles : (o : Option (Data × (ℕ × (⊤ × ⊤)))) (a : Option (Data × (ℕ × ⊤))) → ask_on_two.reads d ≡ a
      → first_of (option_map (λ (f : Data × (ℕ × (⊤ × ⊤))). (kind.Styles, f.0)) o)
      (first_of (option_map (λ (f : Data × (ℕ × ⊤)). (kind.Ask, f.0)) a)
      (option_map (λ (f : ℕ × (Data × ⊤)). (kind.Show, f.1.0)) (show_on_two.reads d))) ≡ Some s
      → IsSound form
  styles None a found e = asks a found e
  styles (Some f) a found e =
      let same : ◌≡◌ {A = LineKind × Data} (kind.Styles, f.0) s = cc in
      styles_sound f.0 form (ap (λ (t : LineKind × Data). form_by t.0 t.1) same ∙ by)

-- ---- what each form keeps

target_sound : (p : List ℕ × Data) (form : PairForm) → target_said p ≡ Some form → IsPairSound form
target_sound p form e = at (bytes_eq p.0 (codes "attach")) (bytes_eq p.0 (codes "detach")) e where
  at : (a b : Bool)
      → (if a then option_map (λ _. attach_session) (as_true p.1) else if b then option_map (λ _. detach_session) (as_true p.1) else None)
      ≡ Some form
      → IsPairSound form
  at true b e = let q = map_some (λ _. attach_session) (as_true p.1) form e in subst IsPairSound q.2 tt
  at false true e = let q = map_some (λ _. detach_session) (as_true p.1) form e in subst IsPairSound q.2 tt
  at false false e = absurd cc

or_neither : (a b : Bool) → (a || b) ≡ false → (a ≡ false) × (b ≡ false)
or_neither true b e = absurd cc
or_neither false b e = (refl, e)

-- a line of the second front without a fault
second_whole : (n : ℕ) (d : Data) (s : LineKind × Data) → second_fault n d s ≡ None
    → ((n == 1) ≡ false) × (has_float d ≡ false)
second_whole n d s e =
    let first = none_true NotLoad (n == 1) ((BadForm, has_float d || is_none (second_form s)) ∷ []) e in
    let whole = none_true BadForm (has_float d || is_none (second_form s)) [] first.1 in
    (first.0, (or_neither (has_float d) (is_none (second_form s)) whole.0).0)

form_sound : (n : ℕ) (text : List ℕ) (d : Data) (form : PairForm) (t : Option PairForm) (s : Option (LineKind × Data))
    → json_of text ≡ Some d
    → target_in d ≡ t → said_on_two d ≡ s → fault_with t s n d ≡ None → form_with t s d ≡ Some form → IsPairSound form
form_sound n text d form (Some target) s json is told e f =
    let p = and_then_some target_said (sole d) target is in
    let same : ◌≡◌ {A = PairForm} target form = cc in
    subst IsPairSound same (target_sound p.0 target p.2)
form_sound n text d form None (Some s) json is told e f =
    let whole = (second_whole n d s e).1 in
    let p = map_some of_second (second_form s) form f in
    let held = passed may_be_second (form_by s.0 s.1) p.0 p.1 in
    subst IsPairSound p.2 (said_sound d s p.0 (line_read text d json whole) told held.is, held.may)
form_sound n text d form None None json is told e f =
    let faults = first_none (fault_of_data n d) (bad_form (first_form d)) e in
    let p = map_some of_first (first_form d) form f in
    let held = passed may_be_first (form_of d) p.0 p.1 in
    subst IsPairSound p.2 (data_sound n text d p.0 json faults.0 held.is, held.may)

-- the JSON of a line without a fault
json_good : (n : ℕ) (o : Option Data)
    → first_of (first_true ((NotJson, is_none o) ∷ [])) (option_and_then (pair_fault_of_data n) o) ≡ None
    → (d : Data) × (o ≡ Some d) × (pair_fault_of_data n d ≡ None)
json_good n None e = absurd cc
json_good n (Some d) e = (d, refl, e)

pub pair_forms_are_sound : PairFormsAreSound
pair_forms_are_sound n text form e f =
    let json = json_good n (json_of text) e in
    form_sound n text json.0 form (target_in json.0) (said_on_two json.0) json.1 refl refl json.2
    (sym (ap (option_and_then pair_form_of) json.1) ∙ f)

-- ---- the first line

first_load : (d : Data) (form : PairForm) (t : Option PairForm) (s : Option (LineKind × Data))
    → fault_with t s 1 d ≡ None → form_with t s d ≡ Some form → (page : LoadedPage) × (form ≡ of_first (load page))
first_load d form (Some target) s e f = absurd cc
first_load d form None (Some s) e f = absurd cc
first_load d form None None e f =
    let faults = first_none (fault_of_data 1 d) (bad_form (first_form d)) e in
    let p = map_some of_first (first_form d) form f in
    let held = passed may_be_first (form_of d) p.0 p.1 in
    let page = load_first d p.0 faults.0 held.is in
    (page.0, sym p.2 ∙ ap of_first page.1)

pub pair_first_is_load : PairFirstIsLoad
pair_first_is_load text form e f =
    let json = json_good 1 (json_of text) e in
    first_load json.0 form (target_in json.0) (said_on_two json.0) json.2 (sym (ap (option_and_then pair_form_of) json.1) ∙ f)

-- ---- what is read of a line

pair_fits : (read : PairLine) → IsPairSound (pair_seen read) → HoldsOfLine FitsPage read
pair_fits line.Attach s = tt
pair_fits line.Detach s = tt
pair_fits (line.First read) s = fits_line read s.0
pair_fits (line.Second read) s = fits_line read s.0

pair_whole : (read : PairLine) → IsPairSound (pair_seen read) → HoldsOfLine AreWhole read
pair_whole line.Attach s = tt
pair_whole line.Detach s = tt
pair_whole (line.First read) s = whole_line read s.0
pair_whole (line.Second read) s = whole_line read s.0

-- each line that is read has a form that is sound
pub pair_sound_ok : (n : ℕ) (text : List ℕ) (r : Result PairLine LineErr) → RefusesLine r (pair_line_fault n text)
    → IfOk r (λ read. pair_line_form text ≡ Some (pair_seen read)) → IfOk r (λ read. IsPairSound (pair_seen read))
pair_sound_ok n text (Ok read) e f = pair_forms_are_sound n text (pair_seen read) e f
pair_sound_ok n text (Err x) e f = f

pub pair_fits_ok : (r : Result PairLine LineErr) → IfOk r (λ read. IsPairSound (pair_seen read)) → IfOk r (HoldsOfLine FitsPage)
pair_fits_ok (Ok read) s = pair_fits read s
pair_fits_ok (Err x) s = s

pub pair_whole_ok : (r : Result PairLine LineErr) → IfOk r (λ read. IsPairSound (pair_seen read)) → IfOk r (HoldsOfLine AreWhole)
pair_whole_ok (Ok read) s = pair_whole read s
pair_whole_ok (Err x) s = s

-- ---- a line that loads a page

load_kind : (k : LineKind) → not (is_load k) ≡ false → k ≡ kind.Load
load_kind kind.Load e = refl
load_kind kind.Act e = absurd cc
load_kind kind.Ask e = absurd cc
load_kind kind.Raw e = absurd cc
load_kind kind.Up e = absurd cc
load_kind kind.Down e = absurd cc
load_kind kind.Settle e = absurd cc
load_kind kind.Show e = absurd cc
load_kind kind.Close e = absurd cc
load_kind kind.Styles e = absurd cc

-- the object of one member
alone_member : (ms : Members) (p : List ℕ × Data) → sole_member ms ≡ Some p → ms ≡ member p.0 p.1 no_members
alone_member no_members p e = absurd cc
alone_member (member k d (member l x ms)) p e = absurd cc
alone_member (member k d no_members) p e =
    let same : ◌≡◌ {A = List ℕ × Data} (k, d) p = cc in ap (λ (q : List ℕ × Data). member q.0 q.1 no_members) same

alone_object : (d : Data) (p : List ℕ × Data) → sole d ≡ Some p → d ≡ object (member p.0 p.1 no_members)
alone_object (object ms) p e = ap object (alone_member ms p e)
alone_object null p e = absurd cc
alone_object (boolean b) p e = absurd cc
alone_object (number n) p e = absurd cc
alone_object (string s) p e = absurd cc
alone_object (array ds) p e = absurd cc

-- the one member of a line that loads a page
load_member : (o : Option Data) (s : Option (List ℕ × Data)) (v : Data)
    → first_of (option_map (λ a. (kind.Styles, a)) o) (option_and_then kind_said s) ≡ Some (kind.Load, v)
    → (w : Data) × (s ≡ Some (codes "load", w))
load_member (Some a) s v e =
    let same : ◌≡◌ {A = LineKind × Data} (kind.Styles, a) (kind.Load, v) = cc in
    let other : kind.Styles ≡ kind.Load = ap (λ (t : LineKind × Data). t.0) same in
    absurd cc
load_member None s v e =
    let p = and_then_some kind_said s (kind.Load, v) e in
    let q = map_some (λ found. (found, p.0.1)) (named line_kind_name all_line_kinds p.0.0) (kind.Load, v) p.2 in
    let is : q.0 ≡ kind.Load = ap (λ (t : LineKind × Data). t.0) q.2 in
    let name : codes "load" ≡ p.0.0 = sym (ap line_kind_name is) ∙ named_is line_kind_name all_line_kinds p.0.0 q.0 q.1 in
    (p.0.1, p.1 ∙ ap (λ (n : List ℕ). Some (n, p.0.1)) (sym name))

-- a line that loads a page is none of the lines that a script with two front ends has besides
record IsPlainLoad (d : Data) : Type 0 where
  pub target : target_in d ≡ None
  pub second : said_on_two d ≡ None

plain_load : (d : Data) → fault_of_data 1 d ≡ None → IsPlainLoad d
plain_load d e =
    let good = line_good 1 d e in
    let is : said d ≡ Some (kind.Load, good.value) = good.is ∙ ap (λ k. Some (k, good.value)) (load_kind good.kind good.first) in
    let only = load_member (styles_in d) (sole d) good.value is in
    subst IsPlainLoad (sym (alone_object d (codes "load", only.0) only.1)) (record { target = refl; second = refl })

first_of_load : (d : Data) (page : LoadedPage) → IsPlainLoad d → form_of d ≡ Some (load page)
    → (pair_form_of d ≡ Some (of_first (load page)))
    × ((n : ℕ) → fault_of_data n d ≡ None → pair_fault_of_data n d ≡ None)
first_of_load d page is form = (rw (is.target, is.second, form) refl, λ n e. rw (is.target, is.second, e, form) refl)

-- such a line is read so, and is not refused
pub load_read : (n : ℕ) (line : List ℕ) (page : LoadedPage) → Loads line page
    → (pair_line_fault n line ≡ None) × (pair_line_form line ≡ Some (of_first (load page)))
load_read n line page l =
    let there = and_then_some form_of (json_of line) (load page) l.form in
    let d = there.0 in
    let clear : (n : ℕ) → fault_of_data n d ≡ None =
    λ n. sym (ap (λ o. first_of (first_true ((NotJson, is_none o) ∷ [])) (option_and_then (fault_of_data n) o)) there.1) ∙ l.clear n in
    let both = first_of_load d page (plain_load d (clear 1)) there.2 in (
      ap (λ o. first_of (first_true ((NotJson, is_none o) ∷ [])) (option_and_then (pair_fault_of_data n) o)) there.1
          ∙ both.1 n (clear n),
      ap (option_and_then pair_form_of) there.1 ∙ both.0,
    )
