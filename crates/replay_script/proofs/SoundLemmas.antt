-- What each form of a line that is not refused keeps.
use Rattle.std.proofs.Common.{◌≡◌, ◌⊎◌, inl, inr, if◌then◌else◌, ℕ, suc, ◌≤◌, List, [], ◌∷◌, Bool, true, false, not, ◌&&◌, ◌||◌, cond}
use Rattle.std.proofs.Common.{bytes_eq, codes, Option, Some, None, is_some, option_map, option_and_then, Result, Ok, Err, IfOk, IsTrue}
use Rattle.std.proofs.Common.{refl, ap, subst, sym, ◌∙◌, arith}
use Rattle.std.specs.Prelude.{◌≢◌}
use Rattle.std.specs.Str.{is_utf8}
use Rattle.std.specs.List.{list_any, AllByRecursion}
use Rattle.std.specs.Option.{option_map_or}
use Rattle.std.proofs.lemmas.List.Elements.{All-from_recursion}
use Rattle.std.proofs.lemmas.Bool.Decides.{nat_tests}
use Rattle.std.proofs.lemmas.Str.{IsUtf8-from_is_utf8}
use Rattle.json.proofs.Printed.Utf8.{IsUtf8-are_ascii}
use Rattle.serde_json.specs.Data.{Num, unsigned, negative, float, Data, null, boolean, number, string, array, object, Members, no_members}
use Rattle.serde_json.specs.Data.{member, depth}
use Rattle.serde_json.specs.Find.{get_member, as_object, as_number, as_str}
use Rattle.serde_json.specs.Read.{read, max_depth}
use Rattle.serde_json.specs.Written.{has_float}
use Rattle.serde_json.proofs.Nesting.{depth-read}
use Rattle.cdp_json.specs.Kinds.{as_whole, as_true, holds_of_some, named}
use Rattle.cdp_json.specs.Lawful.{LawfulKind}
use Rattle.cdp_json.specs.Plain.{is_plain, HasUtf8}
use Rattle.cdp_json.proofs.KindLaws.{text_lawful, anything_lawful}
use Rattle.cdp_json.proofs.RowLaws.{ends_lawful, and_need_lawful, and_may_lawful, object_lawful}
use Rattle.cdp_json.proofs.ReadBack.{IsUtf8-compact_text, has_float-is_plain}
use Rattle.cdp_json.proofs.ReadPlain.{read_plain}
use Rattle.cdp_json.proofs.ReadTexts.{read_utf8}
use Rattle.cdp_json.proofs.Options.{both_parts, and_then_some, map_some}
use Rattle.node_tree.specs.Keys.{first_of}
use Rattle.page_forms.specs.Acts.{act_in}
use Rattle.page_forms.specs.Pages.{LoadedPage, page_in, page_fault}
use Rattle.page_forms.specs.declared.acts.Act.{Act}
use Rattle.page_forms.proofs.ActLemmas.{act-insertable, acts_have_texts}
use Rattle.page_forms.proofs.PageLemmas.{can_load_page, pages_have_texts}
use Rattle.cdp_messages.specs.Asked.{json_of, asked_value, asked_in, refusal, command_value, is_whole_where_there}
use Rattle.cdp_messages.specs.declared.command.Why.TheVariants.{NotJson, NoId}
use Rattle.cdp_messages.proofs.Commands.{ask_plain}
use Rattle.replay_script.specs.declared.faults.LineErr.{LineErr}
use Rattle.replay_script.specs.declared.forms.Line.{Line}
use Rattle.replay_script.specs.declared.forms.Line.TheVariants as line
use Rattle.replay_script.specs.declared.line_kinds.LineKind.{LineKind}
use Rattle.replay_script.specs.declared.line_kinds.LineKind.TheVariants as kind
use Rattle.replay_script.specs.Kinds.{line_kind_name, all_line_kinds, is_load, sole_member, sole, styles_in, kind_said, said}
use Rattle.replay_script.specs.Forms.{AskForm, LineForm, load, act, ask, raw, up, down, settle, show_front, show_page, show_sheets}
use Rattle.replay_script.specs.Forms.{show_replies, show_pauses, show_panels, show_styles, close, AskParts, ask_kind, ask_from, ask_in}
use Rattle.replay_script.specs.Forms.{show_from}
use Rattle.replay_script.specs.Forms.{form_by, form_of, line_form}
use Rattle.replay_script.specs.Faults.{is_zero, is_whole_number, has_whole_id, is_no_frame, fault_of_data, line_fault}
use Rattle.replay_script.specs.Seen.{seen, seen_ask, RefusesLine}
use Rattle.replay_script.specs.Sound.{IsSoundLoad, IsSoundAct, CanSend, NamesNoAsk, IsSoundFrame, IsSound, FormsAreSound, FirstIsLoad}
use Rattle.replay_script.specs.Sound.{FitsPage, AreWhole}
use Rattle.replay_script.proofs.FaultLemmas.{IsClear, is_clear, line_good, json_good}

-- ---- a value that is read, and the values in it

-- plain but for floats, UTF-8, and not too deep
pub record IsRead (d : Data) : Type 0 where
  pub plain : is_plain d ≡ true
  pub texts : HasUtf8 d
  pub levels : depth d ≤ max_depth

-- what is read of a line whose numbers are whole
pub line_read : (text : List ℕ) (d : Data) → json_of text ≡ Some d → has_float d ≡ false → IsRead d
line_read text d is whole = at (is_utf8 text) refl is where
  at : (b : Bool) → is_utf8 text ≡ b → cond b (read text) None ≡ Some d → IsRead d
  at false u e = absurd cc
  at true u e = record {
    plain = read_plain text d e whole;
    texts = read_utf8 text d (IsUtf8-from_is_utf8 text u) e;
    levels = depth-read text d e;
  }

-- a value within an object is plain and UTF-8 as the object is, and nests less deep
record Within (q d : Data) : Type 0 where
  pub plain : is_plain d ≡ true → is_plain q ≡ true
  pub texts : HasUtf8 d → HasUtf8 q
  pub deep : suc (depth q) ≤ depth d

within_sole : (ms : Members) (p : List ℕ × Data) → sole_member ms ≡ Some p → Within p.1 (object ms)
within_sole no_members p e = absurd cc
within_sole (member k d (member l x ms)) p e = absurd cc
within_sole (member k d no_members) p e =
    let same : ◌≡◌ {A = List ℕ × Data} (k, d) p = cc in
    subst (λ (q : List ℕ × Data). Within q.1 (object (member k d no_members))) same
    (record { plain = λ h. (both_parts (is_plain d) true h).0; texts = λ u. u.1; deep = omega arith })

within_object : (d : Data) (p : List ℕ × Data) → sole d ≡ Some p → Within p.1 d
within_object (object ms) p e = within_sole ms p e
within_object null p e = absurd cc
within_object (boolean b) p e = absurd cc
within_object (number n) p e = absurd cc
within_object (string s) p e = absurd cc
within_object (array ds) p e = absurd cc

-- ---- a load and an act

load_sound : (d : Data) (page : LoadedPage) → HasUtf8 d → page_in d ≡ Some page → page_fault d ≡ None → IsSoundLoad page
load_sound d page u is none = record { can = can_load_page d page is none; texts = pages_have_texts d page u is }

act_sound : (v : Data) (a : Act) → HasUtf8 v → act_in v ≡ Some a → IsSoundAct a
act_sound v a u is = record { insertable = act-insertable v a is; texts = acts_have_texts v a u is }

-- ---- an ask

ask_lawful : LawfulKind ask_kind
ask_lawful =
    object_lawful (and_need_lawful (codes "method") text_lawful
    (and_may_lawful (codes "params") anything_lawful (and_may_lawful (codes "sessionId") anything_lawful ends_lawful refl) refl) refl)

parts_plain : (p : AskParts) → is_plain (ask_kind.spell p) ≡ true
    → (holds_of_some is_plain p.1.0 ≡ true) × (holds_of_some is_plain p.1.1.0 ≡ true)
parts_plain (m, (None, (None, end))) h = (refl, refl)
parts_plain (m, (Some d, (None, end))) h = ((both_parts (is_plain d) true h).0, refl)
parts_plain (m, (None, (Some s, end))) h = (refl, (both_parts (is_plain s) true h).0)
parts_plain (m, (Some d, (Some s, end))) h = let p = both_parts (is_plain d) (is_plain s && true) h in
    (p.0, (both_parts (is_plain s) true p.1).0)

value_shallow : (id : ℕ) (p : AskParts) → depth (ask_kind.spell p) ≤ max_depth → depth (command_value id p.0 p.1.0 p.1.1.0) ≤ max_depth
value_shallow id (m, (None, (None, end))) h = omega arith
value_shallow id (m, (Some d, (None, end))) h = omega (arith, h)
value_shallow id (m, (None, (Some s, end))) h = omega (arith, h)
value_shallow id (m, (Some d, (Some s, end))) h = omega (arith, h)

value_texts : (id : ℕ) (p : AskParts) → HasUtf8 (ask_kind.spell p) → HasUtf8 (command_value id p.0 p.1.0 p.1.1.0)
value_texts id (m, (None, (None, end))) u = (IsUtf8-are_ascii (codes "id") refl, tt, u)
value_texts id (m, (Some d, (None, end))) u = (IsUtf8-are_ascii (codes "id") refl, tt, u)
value_texts id (m, (None, (Some s, end))) u = (IsUtf8-are_ascii (codes "id") refl, tt, u)
value_texts id (m, (Some d, (Some s, end))) u = (IsUtf8-are_ascii (codes "id") refl, tt, u)

pub ask_sound : (v : Data) (a : AskForm) → IsRead v → ask_in v ≡ Some a → CanSend a
ask_sound v a r is =
    let parts = map_some ask_from (ask_kind.reads v) a is in
    let spelled : ask_kind.spell parts.0 ≡ v = (ask_lawful.takes v parts.0 parts.1).0 in
    let plain = parts_plain parts.0 (ap is_plain spelled ∙ r.plain) in
    let texts : HasUtf8 (ask_kind.spell parts.0) = subst HasUtf8 (sym spelled) r.texts in
    let levels : depth (ask_kind.spell parts.0) ≤ max_depth = subst (λ d. depth d ≤ max_depth) (sym spelled) r.levels in
    subst CanSend parts.2 (record {
      params = plain.0;
      session = plain.1;
      shallow = λ id. value_shallow id parts.0 levels;
      texts = λ id c.
          IsUtf8-compact_text (command_value id parts.0.0 parts.0.1.0 parts.0.1.1.0)
          (ask_plain id parts.0.0 parts.0.1.0 parts.0.1.1.0 c plain.0 plain.1) (value_texts id parts.0 texts);
    })

-- ---- a raw text

no_whole : (n : Num) → (is_some (as_number (number n)) && not (has_float (number n))) ≡ false → as_whole (number n) ≡ None
no_whole (unsigned n) e = absurd cc
no_whole (negative z) e = refl
no_whole (float x) e = refl

-- what is no whole number is none from 0 to 2^53-1
not_whole : (d : Data) → is_whole_number d ≡ false → as_whole d ≡ None
not_whole (number n) e = no_whole n e
not_whole null e = refl
not_whole (boolean b) e = refl
not_whole (string s) e = refl
not_whole (array ds) e = refl
not_whole (object ms) e = refl

-- what an object without such an id asks
record IsRefused (d : Data) : Type 0 where
  pub no_id : option_and_then (λ ms. option_and_then as_whole (get_member (codes "id") ms)) (as_object d) ≡ None
  pub refused : (own : Bool) → asked_in own (as_object d) ≡ Err (refusal None NoId)

members_refused : (ms : Members) (id : Option Data) → get_member (codes "id") ms ≡ id → option_map_or is_whole_number id false ≡ false
    → IsRefused (object ms)
members_refused ms None is e = record { no_id = rw is refl; refused = λ own. rw is refl }
members_refused ms (Some d) is e = let other = not_whole d e in record { no_id = rw (is, other) refl; refused = λ own. rw (is, other) refl }

value_refused : (d : Data) → has_whole_id d ≡ false → IsRefused d
value_refused (object ms) e = members_refused ms (get_member (codes "id") ms) refl e
value_refused null e = record { no_id = refl; refused = λ own. refl }
value_refused (boolean b) e = record { no_id = refl; refused = λ own. refl }
value_refused (number n) e = record { no_id = refl; refused = λ own. refl }
value_refused (string s) e = record { no_id = refl; refused = λ own. refl }
value_refused (array ds) e = record { no_id = refl; refused = λ own. refl }

frame_refused : (text : List ℕ) (o : Option Data) → json_of text ≡ o → option_map_or has_whole_id o false ≡ false → NamesNoAsk text
frame_refused text None is e = record { no_id = rw is refl; why = NotJson; refused = λ own. rw is refl }
frame_refused text (Some d) is e =
    let r = value_refused d e in
    record {
      no_id = ap (λ o. option_and_then (λ ms. option_and_then as_whole (get_member (codes "id") ms))
          (option_and_then as_object o)) is ∙ r.no_id;
      why = NoId;
      refused = λ own. ap (asked_value own) is ∙ r.refused own;
    }

none_zero : (text : List ℕ) → list_any is_zero text ≡ false → AllByRecursion (λ byte. byte ≢ 0) text
none_zero [] e = tt
none_zero (b ∷ bs) e = let p = neither (is_zero b) (list_any is_zero bs) e in (apart b p.0, none_zero bs p.1) where
  neither : (x y : Bool) → (x || y) ≡ false → (x ≡ false) × (y ≡ false)
  neither true y h = absurd cc
  neither false y h = (refl, h)

  apart : (b : ℕ) → is_zero b ≡ false → b ≢ 0
  apart b h = grind (arith, nat_tests)

raw_sound : (text : List ℕ) → is_no_frame text ≡ false → IsSoundFrame text
raw_sound text e = let p = parts
    (list_any is_zero text) _ e in record {
      no_zero = All-from_recursion (λ byte. byte ≢ 0) text (none_zero text p.0);
      no_ask = frame_refused text (json_of text) refl p.1;
    } where
      parts : (x y : Bool) → (x || y) ≡ false → (x ≡ false) × (y ≡ false)
      parts true y h = absurd cc
      parts false y h = (refl, h)

-- ---- a form by the kind of its line

show_sound : (a b c d e f : Bool) (form : LineForm)
    → (if a then Some show_front else if b then Some show_page else if c then Some show_sheets else if d then Some show_replies else if e
    then Some show_pauses else if f then Some show_panels else None) ≡ Some form
    → IsSound form
show_sound true b c d e f form is = let same : ◌≡◌ {A = LineForm} show_front form = cc in subst IsSound same tt
show_sound false true c d e f form is = let same : ◌≡◌ {A = LineForm} show_page form = cc in subst IsSound same tt
show_sound false false true d e f form is = let same : ◌≡◌ {A = LineForm} show_sheets form = cc in subst IsSound same tt
show_sound false false false true e f form is = let same : ◌≡◌ {A = LineForm} show_replies form = cc in subst IsSound same tt
show_sound false false false false true f form is = let same : ◌≡◌ {A = LineForm} show_pauses form = cc in subst IsSound same tt
show_sound false false false false false true form is = let same : ◌≡◌ {A = LineForm} show_panels form = cc in subst IsSound same tt
show_sound false false false false false false form is = absurd cc

-- a show has no condition
pub shown_sound : (v : Data) (form : LineForm) → form_by kind.Show v ≡ Some form → IsSound form
shown_sound v form e =
    let p = and_then_some show_from (as_str v) form e in
    show_sound (bytes_eq p.0 (codes "front")) (bytes_eq p.0 (codes "page")) (bytes_eq p.0 (codes "sheets"))
    (bytes_eq p.0 (codes "replies")) (bytes_eq p.0 (codes "pauses")) (bytes_eq p.0 (codes "panels")) form p.2

-- a show of styles has no condition
pub styles_sound : (v : Data) (form : LineForm) → form_by kind.Styles v ≡ Some form → IsSound form
styles_sound v form e = let p = map_some show_styles (as_whole v) form e in subst IsSound p.2 tt

form_sound : (k : LineKind) (v : Data) (form : LineForm) → IsRead v → IsClear k v → form_by k v ≡ Some form → IsSound form
form_sound kind.Load v form r c e =
    let p = map_some load (page_in v) form e in
    subst IsSound p.2 (load_sound v p.0 r.texts p.1 c.page)
form_sound kind.Act v form r c e = let p = map_some act (act_in v) form e in subst IsSound p.2 (act_sound v p.0 r.texts p.1)
form_sound kind.Ask v form r c e = let p = map_some ask (ask_in v) form e in subst IsSound p.2 (ask_sound v p.0 r p.1)
form_sound kind.Raw v form r c e =
    let p = map_some raw (as_str v) form e in
    subst IsSound p.2 (raw_sound p.0 (sym (ap (λ o. option_map_or is_no_frame o false) p.1) ∙ c.frame))
form_sound kind.Up v form r c e = let p = map_some up (as_whole v) form e in subst IsSound p.2 tt
form_sound kind.Down v form r c e = let p = map_some down (as_whole v) form e in subst IsSound p.2 tt
form_sound kind.Settle v form r c e = let p = map_some (λ _. settle) (as_true v) form e in subst IsSound p.2 tt
form_sound kind.Show v form r c e = shown_sound v form e
form_sound kind.Close v form r c e = let p = map_some close (as_whole v) form e in subst IsSound p.2 tt
form_sound kind.Styles v form r c e = styles_sound v form e

-- ---- whole lines

-- what a line says is the value of its one property, but for a show of styles
said_value : (o : Option Data) (s : Option (List ℕ × Data)) (k : LineKind) (v : Data)
    → first_of (option_map (λ a. (kind.Styles, a)) o) (option_and_then kind_said s) ≡ Some (k, v)
    → (k ≡ kind.Styles) ⊎ ((p : List ℕ × Data) × (s ≡ Some p) × (p.1 ≡ v))
said_value (Some a) s k v e = let same : ◌≡◌ {A = LineKind × Data} (kind.Styles, a) (k, v) = cc in inl
    (sym (ap (λ (t : LineKind × Data). t.0) same))
said_value None s k v e =
    let p = and_then_some kind_said s (k, v) e in
    let q = map_some (λ found. (found, p.0.1)) (named line_kind_name all_line_kinds p.0.0) (k, v) p.2 in
    inr (p.0, p.1, ap (λ (t : LineKind × Data). t.1) q.2)

read_within : (q d : Data) → Within q d → IsRead d → IsRead q
read_within q d w r =
    let deep : suc (depth q) ≤ depth d = w.deep in
    let levels : depth d ≤ max_depth = r.levels in
    record { plain = w.plain r.plain; texts = w.texts r.texts; levels = omega (arith, deep, levels) }

said_read : (d : Data) (k : LineKind) (v : Data) → IsRead d → said d ≡ Some (k, v) → (k ≡ kind.Styles) ⊎ IsRead v
said_read d k v r is = at (said_value (styles_in d) (sole d) k v is) where
  at : (k ≡ kind.Styles) ⊎ ((p : List ℕ × Data) × (sole d ≡ Some p) × (p.1 ≡ v)) → (k ≡ kind.Styles) ⊎ IsRead v
  at (inl styles) = inl styles
  at (inr p) = inr (subst IsRead p.2 (read_within p.0.1 d (within_object d p.0 p.1) r))

form_said : (d : Data) (k : LineKind) (v : Data) (form : LineForm) → said d ≡ Some (k, v) → form_of d ≡ Some form → form_by k v ≡ Some form
form_said d k v form is e = sym (ap (option_and_then (λ s. form_by s.0 s.1)) is) ∙ e

-- the form of a line without a fault, by its JSON
pub data_sound : (n : ℕ) (text : List ℕ) (d : Data) (form : LineForm) → json_of text ≡ Some d → fault_of_data n d ≡ None
    → form_of d ≡ Some form → IsSound form
data_sound n text d form is e f =
    let good = line_good n d e in
    let by = form_said d good.kind good.value form good.is f in
    by_kind good.kind good.value (is_clear good.kind good.value good.clear) by
    (said_read d good.kind good.value (line_read text d is good.whole) good.is)
  where
    by_kind : (k : LineKind) (v : Data) → IsClear k v → form_by k v ≡ Some form → (k ≡ kind.Styles) ⊎ IsRead v → IsSound form
    by_kind k v clear by (inl styles) = styles_sound v form (sym (ap (λ at. form_by at v) styles) ∙ by)
    by_kind k v clear by (inr read) = form_sound k v form read clear by

pub forms_are_sound : FormsAreSound
forms_are_sound n text form e f =
    let json = json_good n (json_of text) e in
    data_sound n text json.0 form json.1 json.2 (sym (ap (option_and_then form_of) json.1) ∙ f)

-- ---- the first line

load_form : (k : LineKind) (v : Data) (form : LineForm) → not (is_load k) ≡ false → form_by k v ≡ Some form
    → (page : LoadedPage) × (form ≡ load page)
load_form kind.Load v form e f = let p = map_some load (page_in v) form f in (p.0, sym p.2)
load_form kind.Act v form e f = absurd cc
load_form kind.Ask v form e f = absurd cc
load_form kind.Raw v form e f = absurd cc
load_form kind.Up v form e f = absurd cc
load_form kind.Down v form e f = absurd cc
load_form kind.Settle v form e f = absurd cc
load_form kind.Show v form e f = absurd cc
load_form kind.Close v form e f = absurd cc
load_form kind.Styles v form e f = absurd cc

-- the same by the line's JSON
pub load_first : (d : Data) (form : LineForm) → fault_of_data 1 d ≡ None → form_of d ≡ Some form
    → (page : LoadedPage) × (form ≡ load page)
load_first d form e f =
    let good = line_good 1 d e in
    load_form good.kind good.value form good.first (form_said d good.kind good.value form good.is f)

pub first_is_load : FirstIsLoad
first_is_load text form e f =
    let json = json_good 1 (json_of text) e in
    load_first json.0 form json.2 (sym (ap (option_and_then form_of) json.1) ∙ f)

-- ---- what is read of a line

ask_whole : (a : AskForm) → CanSend a → IsTrue (is_whole_where_there a.params) × IsTrue (is_whole_where_there a.session)
ask_whole a c = (there a.params c.params, there a.session c.session) where
  there : (o : Option Data) → holds_of_some is_plain o ≡ true → IsTrue (is_whole_where_there o)
  there None e = refl
  there (Some d) e = rw (has_float-is_plain d e) refl

pub fits_line : (read : Line) → IsSound (seen read) → FitsPage read
fits_line (line.Load page) s = s.can
fits_line (line.Act a) s = s.insertable
fits_line (line.Ask a) s = tt
fits_line (line.Raw text) s = tt
fits_line (line.Up n) s = tt
fits_line (line.Down n) s = tt
fits_line line.Settle s = tt
fits_line line.ShowFront s = tt
fits_line line.ShowPage s = tt
fits_line line.ShowSheets s = tt
fits_line line.ShowReplies s = tt
fits_line line.ShowPauses s = tt
fits_line line.ShowPanels s = tt
fits_line (line.ShowStyles k) s = tt
fits_line (line.Close k) s = tt

pub whole_line : (read : Line) → IsSound (seen read) → AreWhole read
whole_line (line.Load page) s = tt
whole_line (line.Act a) s = tt
whole_line (line.Ask a) s = ask_whole (seen_ask a) s
whole_line (line.Raw text) s = tt
whole_line (line.Up n) s = tt
whole_line (line.Down n) s = tt
whole_line line.Settle s = tt
whole_line line.ShowFront s = tt
whole_line line.ShowPage s = tt
whole_line line.ShowSheets s = tt
whole_line line.ShowReplies s = tt
whole_line line.ShowPauses s = tt
whole_line line.ShowPanels s = tt
whole_line (line.ShowStyles k) s = tt
whole_line (line.Close k) s = tt

-- each line that is read has a form that is sound
pub sound_ok : (n : ℕ) (text : List ℕ) (r : Result Line LineErr) → RefusesLine r (line_fault n text)
    → IfOk r (λ read. line_form text ≡ Some (seen read)) → IfOk r (λ read. IsSound (seen read))
sound_ok n text (Ok read) e f = forms_are_sound n text (seen read) e f
sound_ok n text (Err x) e f = f

pub fits_ok : (r : Result Line LineErr) → IfOk r (λ read. IsSound (seen read)) → IfOk r FitsPage
fits_ok (Ok read) s = fits_line read s
fits_ok (Err x) s = s

pub whole_ok : (r : Result Line LineErr) → IfOk r (λ read. IsSound (seen read)) → IfOk r AreWhole
whole_ok (Ok read) s = whole_line read s
whole_ok (Err x) s = s
