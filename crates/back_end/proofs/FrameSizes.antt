-- How large JSON is, and that a value is no larger than its text is long.
use Rattle.std.proofs.Common.{◌≡◌, ℕ, zero, suc, ◌+◌, ◌≤◌, Bool, true, false, List, [], ◌∷◌, length, Option, Some, None, option_map}
use Rattle.std.proofs.Common.{option_and_then, refl, subst, arith}
use Rattle.std.specs.Prelude.{⊤}
use Rattle.std.specs.Ordering.{nat_cmp, match_ordering}
use Rattle.std.specs.declared.cmp.Ordering.{Ordering}
use Rattle.std.specs.declared.cmp.Ordering.TheVariants.{Less, Equal, Greater}
use Rattle.std.specs.Cmp.Lexicographic.{slice_cmp}
use Rattle.json.specs.Token.{Token, begin_object, end_object, begin_array, end_array, key, string, number, boolean, null, bad}
use Rattle.json.specs.Lex.{Lexeme, token, comma, colon, Class, quote, backslash, operator, space, other, class, Mode, between, in_word}
use Rattle.json.specs.Lex.{in_string, in_escape, lex_byte, lex}
use Rattle.json.specs.Lex.{Place, fresh, after_value, after_comma, after_key, begins_colon, may_begin, may_close, if_allowed, place_token}
use Rattle.json.specs.Lex.{punctuate, tokens}
use Rattle.json.specs.Json.{Json, array, object, Items, no_items, item, Members, no_members, member, Parse, parse_map, after_end_array}
use Rattle.json.specs.Json.{read_key, items_step, members_step, items, members, value_with, value, if_last}
use Rattle.serde_json.specs.Data as kept
use Rattle.serde_json.specs.Read.{of_json, of_items, of_members, number_of, max_depth, read}

-- ---- sizes

-- one for each value and each bracket, and two for the name of a member and its colon
abbrev mutual
  pub data_size : kept.Data → ℕ
  data_size kept.null = 1
  data_size (kept.boolean b) = 1
  data_size (kept.number n) = 1
  data_size (kept.string s) = 1
  data_size (kept.array ds) = 2 + items_size ds
  data_size (kept.object ms) = 2 + members_size ms

  pub items_size : kept.Items → ℕ
  items_size kept.no_items = 0
  items_size (kept.item d ds) = data_size d + items_size ds

  pub members_size : kept.Members → ℕ
  members_size kept.no_members = 0
  members_size (kept.member k d ms) = 2 + (data_size d + members_size ms)

-- ---- lexemes against bytes

marked : (m : Mode) (c : Class) (x : ℕ) (xs : List ℕ) (k : Mode → List Lexeme) (n : ℕ) → ((next : Mode) → length (k next) ≤ n)
    → length (lex_byte m c x xs k) ≤ suc n
marked between quote x xs k n h = let e = h in_string in omega arith
marked between backslash x xs k n h = let e = h in_word in omega arith
marked between operator x xs k n h = let e = h between in omega arith
marked between space x xs k n h = let e = h between in omega arith
marked between other x xs k n h = let e = h in_word in omega arith
marked in_word quote x xs k n h = let e = h in_word in omega arith
marked in_word backslash x xs k n h = let e = h in_word in omega arith
marked in_word operator x xs k n h = let e = h between in omega arith
marked in_word space x xs k n h = let e = h between in omega arith
marked in_word other x xs k n h = let e = h in_word in omega arith
marked in_string quote x xs k n h = let e = h between in omega arith
marked in_string backslash x xs k n h = let e = h in_escape in omega arith
marked in_string operator x xs k n h = let e = h in_string in omega arith
marked in_string space x xs k n h = let e = h in_string in omega arith
marked in_string other x xs k n h = let e = h in_string in omega arith
marked in_escape c x xs k n h = let e = h in_string in omega arith

lex-few : (xs : List ℕ) (m : Mode) → length (lex m xs) ≤ length xs
unfolding lex
lex-few [] m = omega arith
lex-few (x ∷ xs) m = marked m (class x) x xs (λ n. lex n xs) (length xs) (lex-few xs)

-- ---- tokens against lexemes

-- a key takes its colon along, and the token of a fault is never read
abbrev weight : Token → ℕ
weight begin_object = 1
weight end_object = 1
weight begin_array = 1
weight end_array = 1
weight (key s) = 2
weight (string s) = 1
weight (number s) = 1
weight (boolean v) = 1
weight null = 1
weight bad = 0

abbrev weights : List Token → ℕ
weights [] = 0
weights (t ∷ ts) = weight t + weights ts

if_allowed-light : (b : Bool) (t : Token) (k : Place → List Token) (next : Place) (n : ℕ) → weight t + weights (k next) ≤ n
    → weights (if_allowed b t k next) ≤ n
if_allowed-light true t k next n h = h
if_allowed-light false t k next n h = omega arith

-- what the places behind a list of lexemes come to; a key goes on at a colon
record Light (ls : List Lexeme) : Type 0 where
  each : (p : Place) → weights (punctuate p ls) ≤ length ls
  keyed : begins_colon ls ≡ true → suc (weights (punctuate after_key ls)) ≤ length ls

placed : (p : Place) (t : Token) (b : Bool) (ls : List Lexeme) → begins_colon ls ≡ b → Light ls
    → weights (place_token p t b (λ n. punctuate n ls)) ≤ suc (length ls)
placed p begin_object b ls is h = if_allowed-light (may_begin p) begin_object _ fresh _ (let e = h.each fresh in omega arith)
placed p end_object b ls is h = if_allowed-light (may_close p) end_object _ after_value _ (let e = h.each after_value in omega arith)
placed p begin_array b ls is h = if_allowed-light (may_begin p) begin_array _ fresh _ (let e = h.each fresh in omega arith)
placed p end_array b ls is h = if_allowed-light (may_close p) end_array _ after_value _ (let e = h.each after_value in omega arith)
placed p (key s) b ls is h = omega arith
placed p (string s) true ls is h = if_allowed-light (may_begin p) (key s) _ after_key _ (let e = h.keyed is in omega arith)
placed p (string s) false ls is h = if_allowed-light (may_begin p) (string s) _ after_value _ (let e = h.each after_value in omega arith)
placed p (number s) b ls is h = if_allowed-light (may_begin p) (number s) _ after_value _ (let e = h.each after_value in omega arith)
placed p (boolean v) b ls is h = if_allowed-light (may_begin p) (boolean v) _ after_value _ (let e = h.each after_value in omega arith)
placed p null b ls is h = if_allowed-light (may_begin p) null _ after_value _ (let e = h.each after_value in omega arith)
placed p bad b ls is h = omega arith

behind_comma : (ls : List Lexeme) → Light ls → (p : Place) → weights (punctuate p (comma ∷ ls)) ≤ suc (length ls)
unfolding punctuate
behind_comma ls h fresh = omega arith
behind_comma ls h after_value = let e = h.each after_comma in omega arith
behind_comma ls h after_comma = omega arith
behind_comma ls h after_key = omega arith

behind_colon : (ls : List Lexeme) → Light ls → (p : Place) → weights (punctuate p (colon ∷ ls)) ≤ suc (length ls)
unfolding punctuate
behind_colon ls h fresh = omega arith
behind_colon ls h after_value = omega arith
behind_colon ls h after_comma = omega arith
behind_colon ls h after_key = let e = h.each fresh in omega arith

at_end : (p : Place) → weights (punctuate p []) ≤ 0
unfolding punctuate
at_end fresh = omega arith
at_end after_value = omega arith
at_end after_comma = omega arith
at_end after_key = omega arith

no_colon : {X : Type 0} → false ≡ true → X
no_colon e = absurd cc

keyed-colon : (ls : List Lexeme) → Light ls → suc (weights (punctuate after_key (colon ∷ ls))) ≤ suc (length ls)
unfolding punctuate
keyed-colon ls h = let e = h.each fresh in omega arith

token-light : (t : Token) (ls : List Lexeme) → Light ls → (p : Place) → weights (punctuate p (token t ∷ ls)) ≤ suc (length ls)
unfolding punctuate
token-light t ls h p = placed p t (begins_colon ls) ls refl h

punctuate-light : (ls : List Lexeme) → Light ls
punctuate-light [] = record { each = at_end; keyed = no_colon }
punctuate-light (token t ∷ ls) = record { each = token-light t ls (punctuate-light ls); keyed = no_colon }
punctuate-light (comma ∷ ls) = record { each = behind_comma ls (punctuate-light ls); keyed = no_colon }
punctuate-light (colon ∷ ls) = record { each = behind_colon ls (punctuate-light ls); keyed = λ e. keyed-colon ls (punctuate-light ls) }

tokens-light : (text : List ℕ) → weights (tokens text) ≤ length text
tokens-light text = let a = (punctuate-light (lex between text)).each fresh in let b = lex-few text between in omega arith

-- ---- values against tokens

abbrev mutual
  json_size : Json → ℕ
  json_size Json.null = 1
  json_size (Json.boolean b) = 1
  json_size (Json.number s) = 1
  json_size (Json.string s) = 1
  json_size (array js) = 2 + json_items js
  json_size (object ms) = 2 + json_members ms

  json_items : Items → ℕ
  json_items no_items = 0
  json_items (item j js) = json_size j + json_items js

  json_members : Members → ℕ
  json_members no_members = 0
  json_members (member k j ms) = 2 + (json_size j + json_members ms)

-- what is read and what is left weigh no more than what was there
abbrev Gives : {A : Type 0} → (A → ℕ) → ℕ → Option (A × List Token) → Type 0
Gives size n None = ⊤
Gives size n (Some p) = size p.0 + weights p.1 ≤ n

abbrev Keeps : {A : Type 0} → (A → ℕ) → Parse A → Type 0
Keeps size p = (ts : List Token) → Gives size (weights ts) (p ts)

mapped : {A B : Type 0} (sa : A → ℕ) (sb : B → ℕ) (f : A → B) (extra m n : ℕ) → ((a : A) → sb (f a) ≤ extra + sa a) → extra + m ≤ n
    → (o : Option (A × List Token)) → Gives sa m o → Gives sb n (parse_map f o)
mapped sa sb f extra m n g le None h = tt
mapped sa sb f extra m n g le (Some p) h = let e = g p.0 in omega arith

and_more : {B : Type 0} (sb : B → ℕ) (f : Json → B → B) (extra m n : ℕ) → ((j : Json) (b : B) → sb (f j b) ≤ extra + (json_size j + sb b))
    → extra + m ≤ n → (more : Parse B) → Keeps sb more
    → (o : Option (Json × List Token)) → Gives json_size m o → Gives sb n (option_and_then (λ q. parse_map (f q.0) (more q.1)) o)
and_more sb f extra m n g le more keeps None h = tt
and_more sb f extra m n g le more keeps (Some q) h = mapped sb sb (f q.0) (extra + json_size q.0) (weights q.1) n
    (λ b. let e = g q.0 b in omega arith) (omega arith) _ (keeps q.1)

abbrev Rest : ℕ → Option (List Token) → Type 0
Rest n None = ⊤
Rest n (Some r) = 1 + weights r ≤ n

closing : (ts : List Token) → Rest (weights ts) (after_end_array ts)
closing [] = tt
closing (begin_object ∷ ts) = tt
closing (end_object ∷ ts) = tt
closing (begin_array ∷ ts) = tt
closing (end_array ∷ ts) = omega arith
closing (key s ∷ ts) = tt
closing (string s ∷ ts) = tt
closing (number s ∷ ts) = tt
closing (boolean v ∷ ts) = tt
closing (null ∷ ts) = tt
closing (bad ∷ ts) = tt

abbrev key_size : Option (List ℕ) → ℕ
key_size None = 1
key_size (Some k) = 2

naming : Keeps key_size read_key
naming [] = tt
naming (begin_object ∷ ts) = tt
naming (end_object ∷ ts) = omega arith
naming (begin_array ∷ ts) = tt
naming (end_array ∷ ts) = tt
naming (key s ∷ ts) = omega arith
naming (string s ∷ ts) = tt
naming (number s ∷ ts) = tt
naming (boolean v ∷ ts) = tt
naming (null ∷ ts) = tt
naming (bad ∷ ts) = tt

-- items with the bracket behind them, and members with theirs
abbrev closed_items : Items → ℕ
closed_items js = 1 + json_items js

abbrev closed_members : Members → ℕ
closed_members ms = 1 + json_members ms

module _ (p : Parse Json) (keeps : Keeps json_size p) where
  item_turn : (more : Parse Items) → Keeps closed_items more → (ts : List Token) → (o : Option (List Token)) → Rest (weights ts) o
      → Gives closed_items (weights ts) (items_step p more ts o)
  item_turn more again ts (Some r) q = q
  item_turn more again ts None q = and_more closed_items item 0 (weights ts) (weights ts) (λ j b. omega arith) (omega arith) more again
      (p ts) (keeps ts)

  Keeps-items : (n : ℕ) → Keeps closed_items (items p n)
  unfolding items
  Keeps-items zero ts = tt
  Keeps-items (suc n) ts = item_turn (items p n) (Keeps-items n) ts (after_end_array ts) (closing ts)

  member_turn : (more : Parse Members) (n : ℕ) → Keeps closed_members more → (o : Option (Option (List ℕ) × List Token))
      → Gives key_size n o
      → Gives closed_members n (option_and_then (λ q. members_step p more q.0 q.1) o)
  member_turn more n again None h = tt
  member_turn more n again (Some (None, s)) h = h
  member_turn more n again (Some (Some k, s)) h = and_more closed_members (member k) 2 (weights s) n (λ j b. omega arith)
      (omega arith) more again (p s) (keeps s)

  Keeps-members : (n : ℕ) → Keeps closed_members (members p n)
  unfolding members
  Keeps-members zero ts = tt
  Keeps-members (suc n) ts = member_turn (members p n) (weights ts) (Keeps-members n) (read_key ts) (naming ts)

Keeps-value_with : (a : Parse Items) (o : Parse Members) → Keeps closed_items a → Keeps closed_members o → Keeps json_size (value_with a o)
Keeps-value_with a o p q [] = tt
Keeps-value_with a o p q (begin_object ∷ ts) = mapped closed_members json_size object 1 (weights ts) _ (λ m. omega arith) (omega arith) _
    (q ts)
Keeps-value_with a o p q (end_object ∷ ts) = tt
Keeps-value_with a o p q (begin_array ∷ ts) = mapped closed_items json_size array 1 (weights ts) _ (λ m. omega arith) (omega arith) _ (p ts)
Keeps-value_with a o p q (end_array ∷ ts) = tt
Keeps-value_with a o p q (key s ∷ ts) = tt
Keeps-value_with a o p q (string s ∷ ts) = omega arith
Keeps-value_with a o p q (number s ∷ ts) = omega arith
Keeps-value_with a o p q (boolean v ∷ ts) = omega arith
Keeps-value_with a o p q (null ∷ ts) = omega arith
Keeps-value_with a o p q (bad ∷ ts) = tt

Keeps-value : (depth : ℕ) → Keeps json_size (value depth)
unfolding value
Keeps-value zero = Keeps-value_with (λ ts. None) (λ ts. None) (λ ts. tt) (λ ts. tt)
Keeps-value (suc d) =
    Keeps-value_with (λ ts. items (value d) (length ts) ts) (λ ts. members (value d) (length ts) ts)
    (λ ts. Keeps-items (value d) (Keeps-value d) (length ts) ts) (λ ts. Keeps-members (value d) (Keeps-value d) (length ts) ts)

-- ---- data against values

put_at : (o : Ordering) (k l : List ℕ) (d e : kept.Data) (ms : kept.Members)
    → members_size (kept.put k d ms) ≤ 2 + (data_size d + members_size ms)
    → members_size (match_ordering o (kept.member k d (kept.member l e ms)) (kept.member l d ms) (kept.member l e (kept.put k d ms)))
    ≤ 2 + (data_size d + members_size (kept.member l e ms))
put_at Less k l d e ms h = omega arith
put_at Equal k l d e ms h = omega arith
put_at Greater k l d e ms h = omega arith

put-size : (k : List ℕ) (d : kept.Data) (ms : kept.Members) → members_size (kept.put k d ms) ≤ 2 + (data_size d + members_size ms)
put-size k d kept.no_members = omega arith
put-size k d (kept.member l e ms) = put_at (slice_cmp nat_cmp k l) k l d e ms (put-size k d ms)

-- what is found has at most this size
abbrev Within : {A : Type 0} → (A → ℕ) → ℕ → Option A → Type 0
Within size n None = ⊤
Within size n (Some x) = size x ≤ n

map_within : {A B : Type 0} (sa : A → ℕ) (sb : B → ℕ) (f : A → B) (extra n : ℕ) → ((a : A) → sb (f a) ≤ extra + sa a) → (o : Option A)
    → Within sa n o → Within sb (extra + n) (option_map f o)
map_within sa sb f extra n g None h = tt
map_within sa sb f extra n g (Some a) h = let e = g a in omega arith

numbered : (o : Option kept.Num) → Within data_size 1 (option_map kept.number o)
numbered None = tt
numbered (Some n) = omega arith

then_items : (js : Items) (n : ℕ) → Within items_size (json_items js) (of_items js) → (o : Option kept.Data) → Within data_size n o
    → Within items_size (n + json_items js) (option_and_then (λ d. option_map (kept.item d) (of_items js)) o)
then_items js n rest None h = tt
then_items js n rest (Some d) h = widen (of_items js) rest
  where
    widen : (o : Option kept.Items) → Within items_size (json_items js) o
        → Within items_size (n + json_items js) (option_map (kept.item d) o)
    widen None w = tt
    widen (Some ds) w = omega arith

then_members : (ms : Members) (k : List ℕ) (n : ℕ) (found : kept.Members)
    → ((f : kept.Members) → Within members_size (json_members ms + members_size f) (of_members ms f)) → (o : Option kept.Data)
    → Within data_size n o
    → Within members_size ((2 + (n + json_members ms)) + members_size found) (option_and_then (λ d. of_members ms (kept.put k d found)) o)
then_members ms k n found rest None h = tt
then_members ms k n found rest (Some d) h = widen (of_members ms (kept.put k d found)) (rest (kept.put k d found))
  where
    widen : (o : Option kept.Members) → Within members_size (json_members ms + members_size (kept.put k d found)) o
        → Within members_size ((2 + (n + json_members ms)) + members_size found) o
    widen None w = tt
    widen (Some x) w = let e = put-size k d found in omega arith

plain_members : (ms : Members) → Within members_size (json_members ms + 0) (of_members ms kept.no_members)
    → Within members_size (json_members ms) (of_members ms kept.no_members)
plain_members ms h = subst (λ n. Within members_size n (of_members ms kept.no_members)) (omega arith) h

mutual
  of_json-size : (j : Json) → Within data_size (json_size j) (of_json j)
  of_json-size Json.null = omega arith
  of_json-size (Json.boolean b) = omega arith
  of_json-size (Json.number s) = numbered (number_of s)
  of_json-size (Json.string s) = omega arith
  of_json-size (array js) = map_within items_size data_size kept.array 2 (json_items js) (λ a. omega arith) (of_items js) (of_items-size js)
  of_json-size (object ms) = map_within members_size data_size kept.object 2 (json_members ms) (λ a. omega arith)
      (of_members ms kept.no_members) (plain_members ms (of_members-size ms kept.no_members))

  of_items-size : (js : Items) → Within items_size (json_items js) (of_items js)
  of_items-size no_items = omega arith
  of_items-size (item j js) = then_items js (json_size j) (of_items-size js) (of_json j) (of_json-size j)

  of_members-size : (ms : Members) (found : kept.Members) → Within members_size (json_members ms + members_size found) (of_members ms found)
  of_members-size no_members found = omega arith
  of_members-size (member k j ms) found = then_members ms k (json_size j) found (of_members-size ms) (of_json j) (of_json-size j)

last : (n : ℕ) (o : Option (Json × List Token)) → Gives json_size n o → Within json_size n (option_and_then (λ p. if_last p.0 p.1) o)
last n None h = tt
last n (Some (j, [])) h = omega arith
last n (Some (j, t ∷ ts)) h = tt

then_data : (n : ℕ) (o : Option Json) → Within json_size n o → Within data_size n (option_and_then of_json o)
then_data n None h = tt
then_data n (Some j) h = widen (of_json j) (of_json-size j)
  where
    widen : (o : Option kept.Data) → Within data_size (json_size j) o → Within data_size n o
    widen None w = tt
    widen (Some d) w = omega arith

within-is : {A : Type 0} (size : A → ℕ) (n : ℕ) (o : Option A) (x : A) → Within size n o → o ≡ Some x → size x ≤ n
within-is size n o x h e = subst (Within size n) e h

-- a value is no larger than its text is long
pub read-long : (text : List ℕ) (d : kept.Data) → read text ≡ Some d → data_size d ≤ length text
read-long text d e =
    let light = tokens-light text in
    let small = within-is data_size (weights (tokens text)) (read text) d
    (then_data (weights (tokens text)) _ (last _ _ (Keeps-value max_depth (tokens text)))) e in
    omega arith
