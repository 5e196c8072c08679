-- The texts that a command's parameters give are UTF-8, where those of the frame are.
use Rattle.std.proofs.Common.{ℕ, List, Option, Some, None, option_and_then, Result, Ok, Err, Ordering, Less, Equal, Greater, nat_cmp}
use Rattle.std.specs.Prelude.{⊤}
use Rattle.std.specs.List.{All}
use Rattle.std.specs.Str.{IsUtf8}
use Rattle.std.specs.Ordering.{match_ordering}
use Rattle.std.specs.Cmp.Lexicographic.{slice_cmp}
use Rattle.std.proofs.lemmas.List.Elements.{All-nil, All-cons}
use Rattle.serde_json.specs.Data.{Data, null, boolean, number, string, array, object, Items, no_items, item, Members, no_members, member}
use Rattle.serde_json.specs.Find.{get_member, as_str, as_object, as_array}
use Rattle.cdp_json.specs.Kinds.{Kind, text, list_of, and_first, read_items}
use Rattle.cdp_json.specs.Fields.{field_from}
use Rattle.cdp_json.specs.Lookups.{then_ok, required, Lookups, no_lookups, with_later, look_for, ok_value}
use Rattle.cdp_json.specs.Plain.{HasUtf8, ItemsHaveUtf8, MembersHaveUtf8}
use Rattle.cdp_json.proofs.ReadTexts.{IfSome}
use Rattle.page_forms.proofs.NodeTexts.{array_utf8, object_utf8}
use Rattle.cdp_messages.specs.declared.command.Param.TheVariants as param
use Rattle.cdp_messages.specs.Refusals.{param_name}
use Rattle.cdp_messages.specs.Parameters.{edit_fields, edit_from, text_edit, range_parameter}
use Rattle.css_objects.specs.declared.ranges.SourceRange.{SourceRange}
use Rattle.css_agent.specs.EditLaws.{HasEditText}

-- ---- kinds

-- what a kind reads of UTF-8 JSON is such a value
abbrev pub Reads : {T : Type 0} → (Data → Option T) → (T → Type 0) → Type 0
Reads {T} reads P = (d : Data) → HasUtf8 d → IfSome P (reads d)

-- of any value nothing is asked
abbrev pub Any : {T : Type 0} → T → Type 0
Any x = ⊤

pub reads-any : {T : Type 0} (reads : Data → Option T) → Reads reads Any
reads-any {T} reads d u = at (reads d) where
  at : (o : Option T) → IfSome Any o
  at None = tt
  at (Some x) = tt

pub reads-text : Reads as_str IsUtf8
reads-text null u = tt
reads-text (boolean b) u = tt
reads-text (number n) u = tt
reads-text (string s) u = u
reads-text (array ds) u = tt
reads-text (object ms) u = tt

first-of : {T : Type 0} (P : T → Type 0) (x : T) (rest : Option (List T)) → P x → IfSome (All P) rest → IfSome (All P) (and_first x rest)
first-of P x None p all = tt
first-of P x (Some xs) p all = All-cons P x xs p all

one-item : {T : Type 0} (P : T → Type 0) (o : Option T) (rest : Option (List T)) → IfSome P o → IfSome (All P) rest
    → IfSome (All P) (option_and_then (λ x. and_first x rest) o)
one-item P None rest p all = tt
one-item P (Some x) rest p all = first-of P x rest p all

items-read : {T : Type 0} (reads : Data → Option T) (P : T → Type 0) → Reads reads P → (ds : Items) → ItemsHaveUtf8 ds
    → IfSome (All P) (read_items reads ds)
items-read reads P good no_items u = All-nil P
items-read reads P good (item d ds) u = one-item P (reads d) (read_items reads ds) (good d u.0) (items-read reads P good ds u.1)

pub reads-list : {T : Type 0} (k : Kind T) (P : T → Type 0) → Reads k.reads P → Reads (list_of k).reads (All P)
reads-list k P good d u = at (as_array d) (array_utf8 d u) where
  at : (o : Option Items) → IfSome ItemsHaveUtf8 o → IfSome (All P) (option_and_then (read_items k.reads) o)
  at None v = tt
  at (Some ds) v = items-read k.reads P good ds v

-- ---- parameters

-- what a look-up gives, where it gives something
abbrev pub IfGiven : {E T : Type 0} → (T → Type 0) → Result T E → Type 0
IfGiven P (Ok x) = P x
IfGiven P (Err e) = ⊤

abbrev pub Gives : {E T : Type 0} → Lookups E T → (T → Type 0) → Type 0
Gives l P = (ms : Members) → MembersHaveUtf8 ms → IfGiven P (l.gets ms)

found : (o : Ordering) (here : Data) (later : Option Data) → HasUtf8 here → IfSome HasUtf8 later
    → IfSome HasUtf8 (match_ordering o later (Some here) later)
found Less here later u v = v
found Equal here later u v = u
found Greater here later u v = v

pub member-texts : (k : List ℕ) (ms : Members) → MembersHaveUtf8 ms → IfSome HasUtf8 (get_member k ms)
member-texts k no_members u = tt
member-texts k (member l e ms) u = found (slice_cmp nat_cmp k l) e (get_member k ms) u.1 (member-texts k ms u.2)

pub gives-all : (E : Type 0) → Gives (no_lookups {E = E}) Any
gives-all E ms u = tt

pub gives-field : {E A B : Type 0} (name : List ℕ) (e : E) (k : Kind A) (later : Lookups E B) (P : A → Type 0) (Q : B → Type 0)
    → Reads k.reads P → Gives later Q
    → Gives (look_for name e k later) (λ x. P x.0 × Q x.1)
gives-field {E} {A} {B} name e k later P Q good rest ms u = at (get_member name ms) (member-texts name ms u) where
  last : (a : A) → P a → (r : Result B E) → IfGiven Q r → IfGiven (λ (x : A × B). P x.0 × Q x.1) (then_ok r (λ b. Ok (a, b)))
  last a p (Ok b) q = (p, q)
  last a p (Err f) q = tt

  here : (o : Option A) → IfSome P o
      → IfGiven (λ (x : A × B). P x.0 × Q x.1) (then_ok (required e (field_from (λ d. o) (Some null))) (with_later later.gets ms))
  here None p = tt
  here (Some a) p = last a p (later.gets ms) (rest ms u)

  at : (o : Option Data) → IfSome HasUtf8 o
      → IfGiven (λ (x : A × B). P x.0 × Q x.1) (then_ok (required e (field_from k.reads o)) (with_later later.gets ms))
  at None v = tt
  at (Some d) v = here (k.reads d) (good d v)

-- ---- one edit of a sheet

-- its sheet, and its text
abbrev EditTexts : List ℕ × (SourceRange × (List ℕ × ⊤)) → Type 0
EditTexts x = IsUtf8 x.0 × (Any x.1.0 × (IsUtf8 x.1.1.0 × Any x.1.1.1))

edit-gives : Gives edit_fields EditTexts
edit-gives =
    gives-field (param_name param.StyleSheetId) tt text
    (look_for (param_name param.Range) tt range_parameter (look_for (param_name param.Text) tt text no_lookups)) IsUtf8
    (λ (x : SourceRange × (List ℕ × ⊤)). Any x.0 × (IsUtf8 x.1.0 × Any x.1.1)) reads-text
    (gives-field (param_name param.Range) tt range_parameter (look_for (param_name param.Text) tt text no_lookups) Any
    (λ (x : List ℕ × ⊤). IsUtf8 x.0 × Any x.1) (reads-any range_parameter.reads)
    (gives-field (param_name param.Text) tt text no_lookups IsUtf8 Any reads-text (gives-all ⊤)))

pub reads-edit : Reads text_edit.reads HasEditText
reads-edit d u = at (as_object d) (object_utf8 d u) where
  made : (r : Result (List ℕ × (SourceRange × (List ℕ × ⊤))) ⊤) → IfGiven EditTexts r
      → IfSome HasEditText (option_and_then edit_from (ok_value r))
  made (Ok x) g = g.1.1.0
  made (Err e) g = tt

  at : (o : Option Members) → IfSome MembersHaveUtf8 o
      → IfSome HasEditText (option_and_then edit_from (option_and_then (λ ms. ok_value (edit_fields.gets ms)) o))
  at None v = tt
  at (Some ms) v = made (edit_fields.gets ms) (edit-gives ms v)
