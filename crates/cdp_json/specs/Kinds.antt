-- A kind of value: how it is spelled as JSON, and how it is read. A larger kind is made of smaller ones.
use Rattle.std.specs.Prelude.{ℕ, ◌^◌, ℤ, pos, negsuc, List, [], ◌∷◌, map, Bool, true, false, ◌&&◌, ◌||◌, nat_lt, int_lt, if◌then◌else◌}
use Rattle.std.specs.Prelude.{Option, Some, None, option_map, option_and_then, bytes_eq, ⊤}
use Rattle.std.specs.Ordering.{int_eq}
use Rattle.std.specs.List.{list_all}
use Rattle.node_tree.specs.Numbers.{counted_limit, memory_limit}
use Rattle.serde_json.specs.Data.{Num, unsigned, negative, float, Data, boolean, number, string, array, object, Items, no_items, item}
use Rattle.serde_json.specs.Data.{Members}
use Rattle.serde_json.specs.Find.{as_bool, as_number, as_str, as_array, as_object, as_i64, of_integer}
use Rattle.serde_json.specs.View.{items_of}
use Rattle.cdp_json.specs.Plain.{is_plain, items_are_plain, members_are_plain}

-- `T` is what a message says, as numbers, texts, lists and pairs. `fits` holds of what has a spelling.
-- `loose` is a test of those parts that keep JSON of any form, if there are any.
pub record Kind (T : Type 0) : Type 0 where
  pub spell : T → Data
  pub reads : Data → Option T
  pub fits : T → Bool
  pub loose : Option (T → Bool)

-- the loose parts of x pass their test
abbrev pub passes : {T : Type 0} → Option (T → Bool) → T → Bool
passes None x = true
passes (Some test) x = test x

-- there is no value, or it passes the test
abbrev pub holds_of_some : {T : Type 0} → (T → Bool) → Option T → Bool
holds_of_some test None = true
holds_of_some test (Some x) = test x

-- x, where it passes the test
abbrev pub if_holds : {T : Type 0} → (T → Bool) → T → Option T
if_holds test x = if test x then Some x else None

-- ---- what a value is

-- from 0 to 2^53-1
abbrev pub is_counted : ℕ → Bool
is_counted n = nat_lt n counted_limit

-- the whole number that a JSON number is, where it is from 0 to 2^53-1
abbrev pub unsigned_from : Num → Option ℕ
unsigned_from (unsigned n) = if_holds is_counted n
unsigned_from (negative z) = None
unsigned_from (float x) = None

-- a whole number from 0 to 2^53-1
abbrev pub as_whole : Data → Option ℕ
as_whole d = option_and_then unsigned_from (as_number d)

-- -1, or from 1 to 2^53-1
abbrev pub is_depth : ℤ → Bool
is_depth z = int_eq z (negsuc 0) || (int_lt (pos 0) z && int_lt z (pos counted_limit))

-- -1, or a whole number from 1 to 2^53-1
abbrev pub as_depth : Data → Option ℤ
as_depth d = option_and_then (if_holds is_depth) (option_and_then as_i64 (as_number d))

-- from -2^63 to 2^63-1
abbrev pub is_signed : ℤ → Bool
is_signed (pos n) = nat_lt n memory_limit
is_signed (negsuc n) = nat_lt n memory_limit

-- the whole number that a JSON number is, where it is from -2^63 to 2^63-1
abbrev pub signed_from : Num → Option ℤ
signed_from (unsigned n) = if_holds is_signed (pos n)
signed_from (negative (pos n)) = None
signed_from (negative (negsuc n)) = if_holds is_signed (negsuc n)
signed_from (float x) = None

-- a whole number from -2^63 to 2^63-1
abbrev pub as_signed : Data → Option ℤ
as_signed d = option_and_then signed_from (as_number d)

-- ---- the kinds that stand alone

-- a number: a whole one from 0 to 2^53-1
abbrev pub whole : Kind ℕ
whole = record { spell = λ n. number (unsigned n); reads = as_whole; fits = is_counted; loose = None }

-- a number: a whole one from -2^63 to 2^63-1
abbrev pub signed : Kind ℤ
signed = record { spell = λ z. number (of_integer z); reads = as_signed; fits = is_signed; loose = None }

-- a string, as bytes
abbrev pub text : Kind (List ℕ)
text = record { spell = string; reads = as_str; fits = λ _. true; loose = None }

-- a boolean
abbrev pub flag : Kind Bool
flag = record { spell = boolean; reads = as_bool; fits = λ _. true; loose = None }

-- a boolean that is true
abbrev pub true_from : Bool → Option ⊤
true_from true = Some tt
true_from false = None

-- the JSON value `true`
abbrev pub as_true : Data → Option ⊤
as_true d = option_and_then true_from (as_bool d)

-- the one value `true`
abbrev pub only_true : Kind ⊤
only_true = record { spell = λ _. boolean true; reads = as_true; fits = λ _. true; loose = None }

-- JSON of any form
abbrev pub anything : Kind Data
anything = record { spell = λ d. d; reads = Some; fits = λ _. true; loose = Some is_plain }

-- an array with items of any form
abbrev pub any_items : Kind Items
any_items = record { spell = array; reads = as_array; fits = λ _. true; loose = Some items_are_plain }

-- an object with members of any form
abbrev pub any_object : Kind Members
any_object = record { spell = object; reads = as_object; fits = λ _. true; loose = Some members_are_plain }

-- ---- kinds made of a kind

-- the values of k that pass a test, as a rule across the fields of an object
abbrev pub refined : {T : Type 0} → Kind T → (T → Bool) → Kind T
refined k test = record {
  spell = k.spell;
  reads = λ d. option_and_then (if_holds test) (k.reads d);
  fits = λ x. k.fits x && test x;
  loose = k.loose;
}

-- a value that is spelled as another
abbrev pub through : {S T : Type 0} → Kind S → (T → S) → (S → Option T) → Kind T
through k to from =
    record {
      spell = λ x. k.spell (to x);
      reads = λ d. option_and_then from (k.reads d);
      fits = λ x. k.fits (to x);
      loose = option_map (λ test x. test (to x)) k.loose;
    }

-- the first of a list that has this name
abbrev pub named : {T : Type 0} → (T → List ℕ) → List T → List ℕ → Option T
named name [] s = None
named name (x ∷ xs) s = if bytes_eq (name x) s then Some x else named name xs s

-- one of a list, spelled as a text by its name
abbrev pub choice : {T : Type 0} → (T → List ℕ) → List T → Kind T
choice name all = through text name (named name all)

-- this text
abbrev pub only_text : List ℕ → Kind ⊤
only_text s = choice (λ _. s) (tt ∷ [])

-- the list with x in front, where there is a list
abbrev pub and_first : {T : Type 0} → T → Option (List T) → Option (List T)
and_first x rest = option_map (λ xs. x ∷ xs) rest

-- the values of all items of an array; None where one of them cannot be read
abbrev pub read_items : {T : Type 0} → (Data → Option T) → Items → Option (List T)
read_items reads no_items = Some []
read_items reads (item d ds) = option_and_then (λ x. and_first x (read_items reads ds)) (reads d)

-- an array of these
abbrev pub list_of : {T : Type 0} → Kind T → Kind (List T)
list_of k = record {
  spell = λ xs. array (items_of (map k.spell xs));
  reads = λ d. option_and_then (read_items k.reads) (as_array d);
  fits = list_all k.fits;
  loose = option_map list_all k.loose;
}
