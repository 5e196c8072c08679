-- The value that is read from a text: where its numbers are whole, it is plain, so its own text gives it back.
use Rattle.std.proofs.Common.{◌≡◌, ℕ, zero, suc, ◌^◌, ◌==◌, List, drop, Bool, true, false, ◌&&◌, ◌||◌, nat_lt, nat_le, cond, pos, Option}
use Rattle.std.proofs.Common.{Some, None, option_and_then, option_map, Ordering, Less, Equal, Greater, nat_cmp, refl, ◌∙◌, ap, subst, arith}
use Rattle.std.proofs.Common.{lt-ltb}
use Rattle.std.specs.Prelude.{⊤, Float, slice_index}
use Rattle.std.specs.Float.{binary64, float_is_finite}
use Rattle.std.specs.Float.Numeral.{minus, Parts, scan_numeral as scan, numeral_digits as digits_of, nearest_float as nearest}
use Rattle.std.proofs.Math.IntN.{neg_ℤ}
use Rattle.std.specs.Ordering.{match_ordering, is_lt, ordering_reverse}
use Rattle.std.specs.Cmp.Lexicographic.{slice_cmp}
use Rattle.std.proofs.lemmas.Bool.Decides.{nat_tests}
use Rattle.std.proofs.lemmas.Cmp.{nat_list_cmp_total}
use Rattle.json.specs.Json as json
use Rattle.json.specs.Json.{Json}
use Rattle.json.specs.Lex.{tokens}
use Rattle.serde_json.specs.Data as values
use Rattle.serde_json.specs.Data.{Num, unsigned, negative, float, Data, Items, Members, no_members, member, put}
use Rattle.serde_json.specs.Find.{is_float}
use Rattle.serde_json.specs.Read.{is_integer, number_from, number_of, of_json, of_items, of_members, max_depth, read}
use Rattle.serde_json.specs.Written.{has_float, items_have_float, members_have_float}
use Rattle.cdp_json.specs.Plain.{starts_after, number_is_plain, is_plain, items_are_plain, members_are_plain}
use Rattle.node_tree.specs.Labels.{is_before}
use Rattle.cdp_json.proofs.Options.{both, both_parts}
use Rattle.cdp_json.proofs.ReadTexts.{IfSome, map_keeps, then_keeps}

-- ---- numbers

-- a number that is whole is one of 64 bits
abbrev TameNumber : Num → Type 0
TameNumber n = (is_float n || number_is_plain n) ≡ true

below_signed : (n : ℕ) → nat_lt 0 n ≡ true → nat_le n (2 ^ 63) ≡ true → number_is_plain (negative (neg_ℤ (pos n))) ≡ true
below_signed zero e f = absurd cc
below_signed (suc n) e f = lt-ltb n (2 ^ 63) (grind (arith, nat_tests))

tame_float : (b : Bool) (x : Float) → IfSome TameNumber (cond b (Some (float x)) None)
tame_float true x = refl
tame_float false x = tt

tame_choice : (b c : Bool) (n : Num) (x : Float) → (b ≡ true → number_is_plain n ≡ true) → is_float n ≡ false
    → IfSome TameNumber (cond b (Some n) (cond c (Some (float x)) None))
tame_choice true c n x is whole = ap (λ f. f || number_is_plain n) whole ∙ is refl
tame_choice false c n x is whole = tame_float c x

tame_from : (sign : Bool) (p : Parts) → IfSome TameNumber (number_from sign p)
tame_from false p =
    tame_choice (is_integer p && nat_lt (digits_of p) (2 ^ 64)) (float_is_finite (nearest binary64 false p)) (unsigned (digits_of p))
    (nearest binary64 false p)
    (λ e. (both_parts (is_integer p) (nat_lt (digits_of p) (2 ^ 64)) e).1) refl
tame_from true p =
    tame_choice (is_integer p && nat_lt 0 (digits_of p) && nat_le (digits_of p) (2 ^ 63)) (float_is_finite (nearest binary64 true p))
    (negative (neg_ℤ (pos (digits_of p)))) (nearest binary64 true p)
    (λ e.
    let q = both_parts (is_integer p && nat_lt 0 (digits_of p)) (nat_le (digits_of p) (2 ^ 63)) e in
    below_signed (digits_of p) (both_parts (is_integer p) (nat_lt 0 (digits_of p)) q.0).1 q.1) refl

tame_either : (b : Bool) (x y : Option Num) → IfSome TameNumber x → IfSome TameNumber y → IfSome TameNumber (cond b x y)
tame_either true x y p q = p
tame_either false x y p q = q

tame_number : (s : List ℕ) → IfSome TameNumber (number_of s)
unfolding number_of
tame_number s =
    tame_either (slice_index s 0 == minus) (number_from true (scan (drop 1 s))) (number_from false (scan s))
    (tame_from true (scan (drop 1 s))) (tame_from false (scan s))

-- ---- values

-- its whole numbers are of 64 bits, and its names ascend
abbrev mutual
  pub Tame : Data → Type 0
  Tame values.null = ⊤
  Tame (values.boolean b) = ⊤
  Tame (values.number n) = TameNumber n
  Tame (values.string s) = ⊤
  Tame (values.array ds) = ItemsTame ds
  Tame (values.object ms) = MembersTame ms

  pub ItemsTame : Items → Type 0
  ItemsTame values.no_items = ⊤
  ItemsTame (values.item d ds) = Tame d × ItemsTame ds

  pub MembersTame : Members → Type 0
  MembersTame no_members = ⊤
  MembersTame (member k d ms) = Tame d × (starts_after k ms ≡ true) × MembersTame ms

-- a name that comes after l, put among members that do
starts_at : (o : Ordering) (l k m : List ℕ) (d e : Data) (ms later : Members) → is_before l k ≡ true → is_before l m ≡ true
    → starts_after l (match_ordering o (member k d (member m e ms)) (member m d ms) (member m e later)) ≡ true
starts_at Less l k m d e ms later p q = p
starts_at Equal l k m d e ms later p q = q
starts_at Greater l k m d e ms later p q = q

starts_put : (l k : List ℕ) (d : Data) (ms : Members) → is_before l k ≡ true → starts_after l ms ≡ true → starts_after l (put k d ms) ≡ true
starts_put l k d no_members p q = p
starts_put l k d (member m e ms) p q = starts_at (slice_cmp nat_cmp k m) l k m d e ms (put k d ms) p q

-- what is not before comes after
before_turned : (k l : List ℕ) → slice_cmp nat_cmp k l ≡ Greater → is_before l k ≡ true
before_turned k l e = ap is_lt (nat_list_cmp_total.antisymm l k ∙ ap ordering_reverse e)

put_at : (o : Ordering) (k l : List ℕ) (d e : Data) (ms later : Members) → slice_cmp nat_cmp k l ≡ o → Tame d → Tame e
    → starts_after l ms ≡ true → MembersTame ms
    → (is_before l k ≡ true → starts_after l later ≡ true) → MembersTame later
    → MembersTame (match_ordering o (member k d (member l e ms)) (member l d ms) (member l e later))
put_at Less k l d e ms later is td te s tm starts tl = (td, ap is_lt is, (te, s, tm))
put_at Equal k l d e ms later is td te s tm starts tl = (td, s, tm)
put_at Greater k l d e ms later is td te s tm starts tl = (te, starts (before_turned k l is), tl)

put_tame : (k : List ℕ) (d : Data) (ms : Members) → Tame d → MembersTame ms → MembersTame (put k d ms)
put_tame k d no_members td tm = (td, refl, tt)
put_tame k d (member l e ms) td tm =
    put_at (slice_cmp nat_cmp k l) k l d e ms (put k d ms) refl td tm.0 tm.1 tm.2 (λ p. starts_put l k d ms p tm.1)
    (put_tame k d ms td tm.2)

mutual
  json_tame : (j : Json) → IfSome Tame (of_json j)
  json_tame json.null = tt
  json_tame (json.boolean b) = tt
  json_tame (json.number s) = map_keeps TameNumber Tame values.number (λ n t. t) (number_of s) (tame_number s)
  json_tame (json.string s) = tt
  json_tame (json.array js) = map_keeps ItemsTame Tame values.array (λ ds t. t) (of_items js) (items_tame js)
  json_tame (json.object ms) = map_keeps MembersTame Tame values.object (λ ds t. t) (of_members ms no_members)
      (members_tame ms no_members tt)

  items_tame : (js : json.Items) → IfSome ItemsTame (of_items js)
  items_tame json.no_items = tt
  items_tame (json.item j js) =
      then_keeps Tame ItemsTame (λ d. option_map (values.item d) (of_items js))
      (λ d t. map_keeps ItemsTame ItemsTame (values.item d) (λ ds u. (t, u)) (of_items js) (items_tame js)) (of_json j) (json_tame j)

  members_tame : (ms : json.Members) (found : Members) → MembersTame found → IfSome MembersTame (of_members ms found)
  members_tame json.no_members found t = t
  members_tame (json.member k j ms) found t =
      then_keeps Tame MembersTame (λ d. of_members ms (put k d found))
      (λ d u. members_tame ms (put k d found) (put_tame k d found u t)) (of_json j) (json_tame j)

read_tame : (o : Option Json) → IfSome Tame (option_and_then of_json o)
read_tame None = tt
read_tame (Some j) = json_tame j

-- ---- where no number is a float

neither : (a b : Bool) → (a || b) ≡ false → (a ≡ false) × (b ≡ false)
neither true b e = absurd cc
neither false b e = (refl, e)

second : (a b : Bool) → (a || b) ≡ true → a ≡ false → b ≡ true
second true b e f = absurd cc
second false b e f = e

mutual
  plain : (d : Data) → Tame d → has_float d ≡ false → is_plain d ≡ true
  plain values.null t w = refl
  plain (values.boolean b) t w = refl
  plain (values.number n) t w = second (is_float n) (number_is_plain n) t w
  plain (values.string s) t w = refl
  plain (values.array ds) t w = items_plain ds t w
  plain (values.object ms) t w = members_plain ms t w

  items_plain : (ds : Items) → ItemsTame ds → items_have_float ds ≡ false → items_are_plain ds ≡ true
  items_plain values.no_items t w = refl
  items_plain (values.item d ds) t w =
      let p = neither (has_float d) (items_have_float ds) w in
      both (plain d t.0 p.0) (items_plain ds t.1 p.1)

  members_plain : (ms : Members) → MembersTame ms → members_have_float ms ≡ false → members_are_plain ms ≡ true
  members_plain no_members t w = refl
  members_plain (member k d ms) t w =
      let p = neither (has_float d) (members_have_float ms) w in
      both (plain d t.0 p.0) (both t.1 (members_plain ms t.2 p.1))

-- a value that is read, and whose numbers are whole
pub read_plain : (text : List ℕ) (d : Data) → read text ≡ Some d → has_float d ≡ false → is_plain d ≡ true
read_plain text d e whole =
    plain d (subst (IfSome Tame) e (read_tame (option_and_then (λ p. json.if_last p.0 p.1) (json.value max_depth (tokens text))))) whole
