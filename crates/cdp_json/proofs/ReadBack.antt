-- The text of a plain value is UTF-8, and is read as that value.
use Rattle.std.proofs.Common.{◌≡◌, ℕ, ◌^◌, ◌<◌, ◌≤◌, pos, negsuc, List, [], ◌∷◌, ◌++◌, Bool, true, false, ◌&&◌, ◌||◌, Some, option_map}
use Rattle.std.proofs.Common.{option_and_then, IsUtf8, decimal, refl, sym, ap, ◌∙◌, arith, append-nil, ltb-true}
use Rattle.std.proofs.lemmas.Fmt.{IsAscii-decimal, IsAscii-signed}
use Rattle.std.proofs.lemmas.Str.{IsUtf8-append, IsUtf8-nil, IsUtf8-from_ascii}
use Rattle.json.specs.Json as json
use Rattle.json.specs.Lex.{tokens}
use Rattle.json.specs.Print.{quoted}
use Rattle.json.specs.Tree as tree
use Rattle.json.proofs.Printed.Decimals.{IsNumber-decimal, IsNumber-signed_decimal}
use Rattle.json.proofs.Printed.Tokens.{tokens-print}
use Rattle.json.proofs.Printed.Trees.{value-json_tokens, ArePrintable-json_tokens}
use Rattle.json.proofs.Printed.Utf8.{IsUtf8-are_ascii, IsUtf8-quoted, IsUtf8-boolean}
use Rattle.serde_json.specs.Data.{Num, unsigned, negative, float, Data, null, boolean, number, string, array, object, Items, no_items, item}
use Rattle.serde_json.specs.Data.{Members, no_members, member, put, depth, items_depth, members_depth}
use Rattle.serde_json.specs.Find.{is_float}
use Rattle.serde_json.specs.Read.{number_of, of_json, of_items, of_members, max_depth}
use Rattle.serde_json.specs.Written.{number_text, outline, items_outline, members_outline, has_float, items_have_float, members_have_float}
use Rattle.serde_json.specs.Written.{comma_if, compact_text, items_text, members_text}
use Rattle.serde_json.proofs.Numbers.{number_of-decimal, number_of-negative}
use Rattle.serde_json.proofs.Texts.{print-outline}
use Rattle.cdp_json.specs.Plain.{starts_after, number_is_plain, is_plain, items_are_plain, members_are_plain, HasUtf8, ItemsHaveUtf8}
use Rattle.cdp_json.specs.Plain.{MembersHaveUtf8, ReadsBack, KeepsUtf8}
use Rattle.node_tree.specs.Labels.{is_before}
use Rattle.cdp_json.proofs.Options.{both, both_parts}
use Rattle.cdp_json.proofs.Order.{joined, joined-assoc, joined_none, before_through, all_before, put_last}

-- ---- numbers

number_reads : (n : Num) → number_is_plain n ≡ true → number_of (number_text n) ≡ Some n
number_reads (unsigned n) p = number_of-decimal n (ltb-true n (2 ^ 64) p)
number_reads (negative (pos n)) p = absurd cc
number_reads (negative (negsuc n)) p = number_of-negative n (ltb-true n (2 ^ 63) p)
number_reads (float x) p = absurd cc

-- ---- the members go in with ascending names

-- each of these names comes before the first of those
abbrev all_start : Members → Members → Bool
all_start no_members ms = true
all_start (member l d done) ms = starts_after l ms && all_start done ms

all_start-head : (done : Members) (k : List ℕ) (d : Data) (ms : Members) → all_start done (member k d ms) ≡ true → all_before done k ≡ true
all_start-head no_members k d ms h = refl
all_start-head (member l e done) k d ms h =
    let p = both_parts (is_before l k) (all_start done (member k d ms)) h in
    both p.0 (all_start-head done k d ms p.1)

starts_later : (l k : List ℕ) (ms : Members) → is_before l k ≡ true → starts_after k ms ≡ true → starts_after l ms ≡ true
starts_later l k no_members p q = refl
starts_later l k (member m d ms) p q = before_through l k m p q

all_start-later : (done : Members) (k : List ℕ) (d : Data) (ms : Members) → all_start done (member k d ms) ≡ true
    → starts_after k ms ≡ true → all_start (joined done (member k d no_members)) ms ≡ true
all_start-later no_members k d ms h s = both s refl
all_start-later (member l e done) k d ms h s =
    let p = both_parts (is_before l k) (all_start done (member k d ms)) h in
    both (starts_later l k ms p.0 s) (all_start-later done k d ms p.1 s)

mutual
  reads_outline : (d : Data) → is_plain d ≡ true → of_json (outline d) ≡ Some d
  reads_outline null p = refl
  reads_outline (boolean b) p = refl
  reads_outline (number n) p = ap (option_map number) (number_reads n p)
  reads_outline (string s) p = refl
  reads_outline (array ds) p = ap (option_map array) (reads_items ds p)
  reads_outline (object ms) p = ap (option_map object) (reads_members ms no_members p refl)

  reads_items : (ds : Items) → items_are_plain ds ≡ true → of_items (items_outline ds) ≡ Some ds
  reads_items no_items p = refl
  reads_items (item d ds) p =
      let q = both_parts (is_plain d) (items_are_plain ds) p in
      rw (reads_outline d q.0, reads_items ds q.1)

  reads_members : (ms done : Members) → members_are_plain ms ≡ true → all_start done ms ≡ true
      → of_members (members_outline ms) done ≡ Some (joined done ms)
  reads_members no_members done p s = ap Some (joined_none done)
  reads_members (member k d ms) done p s =
      let q = both_parts (is_plain d) (starts_after k ms && members_are_plain ms) p in
      let r = both_parts (starts_after k ms) (members_are_plain ms) q.1 in
      let longer = joined done (member k d no_members) in
      ap (option_and_then (λ e. of_members (members_outline ms) (put k e done))) (reads_outline d q.0)
      ∙ ap (of_members (members_outline ms)) (put_last k d done (all_start-head done k d ms s))
      ∙ reads_members ms longer r.1 (all_start-later done k d ms s r.0) ∙ ap Some (joined-assoc done (member k d no_members) ms)

-- ---- the text

number_is_number : (n : Num) → number_is_plain n ≡ true → tree.HasNumbers (json.number (number_text n))
number_is_number (unsigned n) p = IsNumber-decimal n (ltb-true n (2 ^ 64) p)
number_is_number (negative (pos n)) p = absurd cc
number_is_number (negative (negsuc n)) p = let below : n < 2 ^ 63 = ltb-true n (2 ^ 63) p in IsNumber-signed_decimal (negsuc n) below
number_is_number (float x) p = absurd cc

mutual
  has_numbers : (d : Data) → is_plain d ≡ true → tree.HasNumbers (outline d)
  has_numbers null p = tt
  has_numbers (boolean b) p = tt
  has_numbers (number n) p = number_is_number n p
  has_numbers (string s) p = tt
  has_numbers (array ds) p = items_have_numbers ds p
  has_numbers (object ms) p = members_have_numbers ms p

  items_have_numbers : (ds : Items) → items_are_plain ds ≡ true → tree.ItemsHaveNumbers (items_outline ds)
  items_have_numbers no_items p = tt
  items_have_numbers (item d ds) p =
      let q = both_parts (is_plain d) (items_are_plain ds) p in
      (has_numbers d q.0, items_have_numbers ds q.1)

  members_have_numbers : (ms : Members) → members_are_plain ms ≡ true → tree.MembersHaveNumbers (members_outline ms)
  members_have_numbers no_members p = tt
  members_have_numbers (member k d ms) p =
      let q = both_parts (is_plain d) (starts_after k ms && members_are_plain ms) p in
      (has_numbers d q.0, members_have_numbers ms (both_parts (starts_after k ms) (members_are_plain ms) q.1).1)

mutual
  depth-outline : (d : Data) → tree.depth (outline d) ≤ depth d
  depth-outline null = omega arith
  depth-outline (boolean b) = omega arith
  depth-outline (number n) = omega arith
  depth-outline (string s) = omega arith
  depth-outline (array ds) = omega (arith, items_depth-outline ds)
  depth-outline (object ms) = omega (arith, members_depth-outline ms)

  items_depth-outline : (ds : Items) → tree.items_depth (items_outline ds) ≤ items_depth ds
  items_depth-outline no_items = omega arith
  items_depth-outline (item d ds) = omega (arith, depth-outline d, items_depth-outline ds)

  members_depth-outline : (ms : Members) → tree.members_depth (members_outline ms) ≤ members_depth ms
  members_depth-outline no_members = omega arith
  members_depth-outline (member k d ms) = omega (arith, depth-outline d, members_depth-outline ms)

pub tokens-compact_text : (d : Data) → is_plain d ≡ true → tokens (compact_text d) ≡ tree.json_tokens (outline d)
tokens-compact_text d p = ap tokens (sym (print-outline d)) ∙ tokens-print (tree.json_tokens (outline d))
    (ArePrintable-json_tokens (outline d) (has_numbers d p))

pub read-compact_text : ReadsBack
read-compact_text d p shallow =
    let whole = value-json_tokens (outline d) max_depth [] (omega (arith, depth-outline d)) in
    ap (λ ts. option_and_then of_json (option_and_then (λ r. json.if_last r.0 r.1) (json.value max_depth ts)))
    (tokens-compact_text d p ∙ sym (append-nil (tree.json_tokens (outline d))))
    ∙ ap (λ r. option_and_then of_json (option_and_then (λ q. json.if_last q.0 q.1) r)) whole
    ∙ reads_outline d p

-- ---- UTF-8

utf8_number : (n : Num) → number_is_plain n ≡ true → IsUtf8 (number_text n)
utf8_number (unsigned n) p = IsUtf8-from_ascii (decimal n) (IsAscii-decimal n (ltb-true n (2 ^ 64) p))
utf8_number (negative (pos n)) p = absurd cc
utf8_number (negative (negsuc n)) p = let below : n < 2 ^ 63 = ltb-true n (2 ^ 63) p in IsUtf8-from_ascii _
    (IsAscii-signed (negsuc n) below)
utf8_number (float x) p = absurd cc

utf8_comma : (later : Bool) → IsUtf8 (comma_if later)
utf8_comma true = IsUtf8-are_ascii (44 ∷ []) refl
utf8_comma false = IsUtf8-nil

utf8_after : (x : ℕ) (xs : List ℕ) → IsUtf8 (x ∷ []) → IsUtf8 xs → IsUtf8 (x ∷ xs)
utf8_after x xs first rest = IsUtf8-append (x ∷ []) xs first rest

mutual
  IsUtf8-compact : (d : Data) → is_plain d ≡ true → HasUtf8 d → IsUtf8 (compact_text d)
  IsUtf8-compact null p u = IsUtf8-are_ascii (compact_text null) refl
  IsUtf8-compact (boolean b) p u = IsUtf8-boolean b
  IsUtf8-compact (number n) p u = utf8_number n p
  IsUtf8-compact (string s) p u = IsUtf8-quoted s u
  IsUtf8-compact (array ds) p u = utf8_after 91 (items_text false ds) (IsUtf8-are_ascii (91 ∷ []) refl) (IsUtf8-items false ds p u)
  IsUtf8-compact (object ms) p u = utf8_after 123 (members_text false ms) (IsUtf8-are_ascii (123 ∷ []) refl) (IsUtf8-members false ms p u)

  IsUtf8-items : (later : Bool) (ds : Items) → items_are_plain ds ≡ true → ItemsHaveUtf8 ds → IsUtf8 (items_text later ds)
  IsUtf8-items later no_items p u = IsUtf8-are_ascii (93 ∷ []) refl
  IsUtf8-items later (item d ds) p u =
      let q = both_parts (is_plain d) (items_are_plain ds) p in
      IsUtf8-append (comma_if later) (compact_text d ++ items_text true ds) (utf8_comma later)
      (IsUtf8-append (compact_text d) (items_text true ds) (IsUtf8-compact d q.0 u.0) (IsUtf8-items true ds q.1 u.1))

  IsUtf8-members : (later : Bool) (ms : Members) → members_are_plain ms ≡ true → MembersHaveUtf8 ms → IsUtf8 (members_text later ms)
  IsUtf8-members later no_members p u = IsUtf8-are_ascii (125 ∷ []) refl
  IsUtf8-members later (member k d ms) p u =
      let q = both_parts (is_plain d) (starts_after k ms && members_are_plain ms) p in
      let r = both_parts (starts_after k ms) (members_are_plain ms) q.1 in
      let rest = compact_text d ++ members_text true ms in
      IsUtf8-append (comma_if later) (quoted k ++ 58 ∷ rest) (utf8_comma later)
      (IsUtf8-append (quoted k) (58 ∷ rest) (IsUtf8-quoted k u.0)
      (utf8_after 58 rest (IsUtf8-are_ascii (58 ∷ []) refl)
      (IsUtf8-append (compact_text d) (members_text true ms) (IsUtf8-compact d q.0 u.1) (IsUtf8-members true ms r.1 u.2))))

pub IsUtf8-compact_text : KeepsUtf8
IsUtf8-compact_text = IsUtf8-compact

-- ---- a plain value has no float

number_whole : (n : Num) → number_is_plain n ≡ true → is_float n ≡ false
number_whole (unsigned n) p = refl
number_whole (negative z) p = refl
number_whole (float x) p = absurd cc

neither : {a b : Bool} → a ≡ false → b ≡ false → (a || b) ≡ false
neither p q = rw p q

mutual
  pub has_float-is_plain : (d : Data) → is_plain d ≡ true → has_float d ≡ false
  has_float-is_plain null p = refl
  has_float-is_plain (boolean b) p = refl
  has_float-is_plain (number n) p = number_whole n p
  has_float-is_plain (string s) p = refl
  has_float-is_plain (array ds) p = items_have_float-are_plain ds p
  has_float-is_plain (object ms) p = members_have_float-are_plain ms p

  items_have_float-are_plain : (ds : Items) → items_are_plain ds ≡ true → items_have_float ds ≡ false
  items_have_float-are_plain no_items p = refl
  items_have_float-are_plain (item d ds) p =
      let q = both_parts (is_plain d) (items_are_plain ds) p in
      neither (has_float-is_plain d q.0) (items_have_float-are_plain ds q.1)

  members_have_float-are_plain : (ms : Members) → members_are_plain ms ≡ true → members_have_float ms ≡ false
  members_have_float-are_plain no_members p = refl
  members_have_float-are_plain (member k d ms) p =
      let q = both_parts (is_plain d) (starts_after k ms && members_are_plain ms) p in
      let r = both_parts (starts_after k ms) (members_are_plain ms) q.1 in
      neither (has_float-is_plain d q.0) (members_have_float-are_plain ms r.1)
