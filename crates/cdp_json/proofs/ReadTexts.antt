-- The value that is read from UTF-8: each of its texts and names is UTF-8.
use Rattle.std.proofs.Common.{◌≡◌, ℕ, zero, suc, List, [], ◌∷◌, length, Option, Some, None, option_and_then, option_map, Ordering, Less}
use Rattle.std.proofs.Common.{Equal, Greater, nat_cmp, IsUtf8, subst}
use Rattle.std.specs.Prelude.{⊤}
use Rattle.std.specs.Ordering.{match_ordering}
use Rattle.std.specs.Cmp.Lexicographic.{slice_cmp}
use Rattle.json.specs.Token.{Token, begin_object, end_object, begin_array, end_array, key, string, number, boolean, null, bad}
use Rattle.json.specs.Lex.{tokens}
use Rattle.json.specs.Json as json
use Rattle.json.specs.Json.{Json, Parse, parse_map, after_end_array, read_key, items_step, members_step, items, members, value_with, value}
use Rattle.json.specs.Json.{if_last}
use Rattle.serde_json.specs.Data as values
use Rattle.serde_json.specs.Data.{Data, Items, Members, no_members, member, put}
use Rattle.serde_json.specs.Read.{number_of, of_json, of_items, of_members, max_depth, read}
use Rattle.cdp_json.specs.Plain.{HasUtf8, ItemsHaveUtf8, MembersHaveUtf8}
use Rattle.cdp_json.proofs.TokenTexts.{TextTokens, tokens_utf8}

-- ---- what is parsed

abbrev mutual
  TextJson : Json → Type 0
  TextJson json.null = ⊤
  TextJson (json.boolean b) = ⊤
  TextJson (json.number s) = ⊤
  TextJson (json.string s) = IsUtf8 s
  TextJson (json.array js) = TextItems js
  TextJson (json.object ms) = TextMembers ms

  TextItems : json.Items → Type 0
  TextItems json.no_items = ⊤
  TextItems (json.item j js) = TextJson j × TextItems js

  TextMembers : json.Members → Type 0
  TextMembers json.no_members = ⊤
  TextMembers (json.member k j ms) = IsUtf8 k × TextJson j × TextMembers ms

abbrev Gives : {A : Type 0} → (A → Type 0) → Option (A × List Token) → Type 0
Gives Q None = ⊤
Gives Q (Some p) = Q p.0 × TextTokens p.1

abbrev Keeps : {A : Type 0} → (A → Type 0) → Parse A → Type 0
Keeps Q p = (ts : List Token) → TextTokens ts → Gives Q (p ts)

mapped : {A B : Type 0} (P : A → Type 0) (Q : B → Type 0) (f : A → B) → ((a : A) → P a → Q (f a)) → (o : Option (A × List Token))
    → Gives P o → Gives Q (parse_map f o)
mapped P Q f g None h = tt
mapped P Q f g (Some p) h = (g p.0 h.0, h.1)

and_more : {B : Type 0} (Q : B → Type 0) (f : Json → B → B) → ((j : Json) (b : B) → TextJson j → Q b → Q (f j b)) → (more : Parse B)
    → Keeps Q more
    → (o : Option (Json × List Token)) → Gives TextJson o → Gives Q (option_and_then (λ q. parse_map (f q.0) (more q.1)) o)
and_more Q f g more keeps None h = tt
and_more Q f g more keeps (Some q) h = mapped Q Q (f q.0) (λ b. g q.0 b h.0) _ (keeps q.1 h.1)

abbrev Rest : Option (List Token) → Type 0
Rest None = ⊤
Rest (Some r) = TextTokens r

closing : (ts : List Token) → TextTokens ts → Rest (after_end_array ts)
closing [] h = tt
closing (begin_object ∷ ts) h = tt
closing (end_object ∷ ts) h = tt
closing (begin_array ∷ ts) h = tt
closing (end_array ∷ ts) h = h.1
closing (key s ∷ ts) h = tt
closing (string s ∷ ts) h = tt
closing (number s ∷ ts) h = tt
closing (boolean v ∷ ts) h = tt
closing (null ∷ ts) h = tt
closing (bad ∷ ts) h = tt

-- a name, if any
abbrev Name : Option (List ℕ) → Type 0
Name None = ⊤
Name (Some k) = IsUtf8 k

naming : Keeps Name read_key
naming [] h = tt
naming (begin_object ∷ ts) h = tt
naming (end_object ∷ ts) h = (tt, h.1)
naming (begin_array ∷ ts) h = tt
naming (end_array ∷ ts) h = tt
naming (key s ∷ ts) h = h
naming (string s ∷ ts) h = tt
naming (number s ∷ ts) h = tt
naming (boolean v ∷ ts) h = tt
naming (null ∷ ts) h = tt
naming (bad ∷ ts) h = tt

module _ (p : Parse Json) (keeps : Keeps TextJson p) where
  item_turn : (more : Parse json.Items) → Keeps TextItems more → (ts : List Token) → TextTokens ts → (o : Option (List Token)) → Rest o
      → Gives TextItems (items_step p more ts o)
  item_turn more again ts h (Some r) q = (tt, q)
  item_turn more again ts h None q = and_more TextItems json.item (λ j b x y. (x, y)) more again (p ts) (keeps ts h)

  Keeps-items : (n : ℕ) → Keeps TextItems (items p n)
  unfolding items
  Keeps-items zero ts h = tt
  Keeps-items (suc n) ts h = item_turn (items p n) (Keeps-items n) ts h (after_end_array ts) (closing ts h)

  member_turn : (more : Parse json.Members) → Keeps TextMembers more → (o : Option (Option (List ℕ) × List Token)) → Gives Name o
      → Gives TextMembers (option_and_then (λ q. members_step p more q.0 q.1) o)
  member_turn more again None h = tt
  member_turn more again (Some (None, s)) h = (tt, h.1)
  member_turn more again (Some (Some k, s)) h = and_more TextMembers (json.member k) (λ j b x y. (h.0, x, y)) more again (p s) (keeps s h.1)

  Keeps-members : (n : ℕ) → Keeps TextMembers (members p n)
  unfolding members
  Keeps-members zero ts h = tt
  Keeps-members (suc n) ts h = member_turn (members p n) (Keeps-members n) (read_key ts) (naming ts h)

Keeps-value_with : (a : Parse json.Items) (o : Parse json.Members) → Keeps TextItems a → Keeps TextMembers o
    → Keeps TextJson (value_with a o)
Keeps-value_with a o p q [] h = tt
Keeps-value_with a o p q (begin_object ∷ ts) h = mapped TextMembers TextJson json.object (λ m x. x) _ (q ts h.1)
Keeps-value_with a o p q (end_object ∷ ts) h = tt
Keeps-value_with a o p q (begin_array ∷ ts) h = mapped TextItems TextJson json.array (λ m x. x) _ (p ts h.1)
Keeps-value_with a o p q (end_array ∷ ts) h = tt
Keeps-value_with a o p q (key s ∷ ts) h = tt
Keeps-value_with a o p q (string s ∷ ts) h = h
Keeps-value_with a o p q (number s ∷ ts) h = h
Keeps-value_with a o p q (boolean v ∷ ts) h = h
Keeps-value_with a o p q (null ∷ ts) h = h
Keeps-value_with a o p q (bad ∷ ts) h = tt

Keeps-value : (depth : ℕ) → Keeps TextJson (value depth)
unfolding value
Keeps-value zero = Keeps-value_with (λ ts. None) (λ ts. None) (λ ts h. tt) (λ ts h. tt)
Keeps-value (suc d) =
    Keeps-value_with (λ ts. items (value d) (length ts) ts) (λ ts. members (value d) (length ts) ts)
    (λ ts. Keeps-items (value d) (Keeps-value d) (length ts) ts) (λ ts. Keeps-members (value d) (Keeps-value d) (length ts) ts)

-- ---- what it is as a value

abbrev pub IfSome : {A : Type 0} → (A → Type 0) → Option A → Type 0
IfSome Q None = ⊤
IfSome Q (Some x) = Q x

pub map_keeps : {A B : Type 0} (P : A → Type 0) (Q : B → Type 0) (f : A → B) → ((a : A) → P a → Q (f a)) → (o : Option A) → IfSome P o
    → IfSome Q (option_map f o)
map_keeps P Q f g None h = tt
map_keeps P Q f g (Some x) h = g x h

pub then_keeps : {A B : Type 0} (P : A → Type 0) (Q : B → Type 0) (f : A → Option B) → ((a : A) → P a → IfSome Q (f a)) → (o : Option A)
    → IfSome P o → IfSome Q (option_and_then f o)
then_keeps P Q f g None h = tt
then_keeps P Q f g (Some x) h = g x h

any_number : (o : Option values.Num) → IfSome HasUtf8 (option_map values.number o)
any_number None = tt
any_number (Some n) = tt

put_at : (o : Ordering) (k l : List ℕ) (d e : Data) (ms : Members) → IsUtf8 k → HasUtf8 d → IsUtf8 l → HasUtf8 e → MembersHaveUtf8 ms
    → MembersHaveUtf8 (put k d ms)
    → MembersHaveUtf8 (match_ordering o (member k d (member l e ms)) (member l d ms) (member l e (put k d ms)))
put_at Less k l d e ms uk ud ul ue um up = (uk, ud, (ul, ue, um))
put_at Equal k l d e ms uk ud ul ue um up = (ul, ud, um)
put_at Greater k l d e ms uk ud ul ue um up = (ul, ue, up)

put_utf8 : (k : List ℕ) (d : Data) (ms : Members) → IsUtf8 k → HasUtf8 d → MembersHaveUtf8 ms → MembersHaveUtf8 (put k d ms)
put_utf8 k d no_members uk ud um = (uk, ud, tt)
put_utf8 k d (member l e ms) uk ud um = put_at (slice_cmp nat_cmp k l) k l d e ms uk ud um.0 um.1 um.2 (put_utf8 k d ms uk ud um.2)

mutual
  json_utf8 : (j : Json) → TextJson j → IfSome HasUtf8 (of_json j)
  json_utf8 json.null h = tt
  json_utf8 (json.boolean b) h = tt
  json_utf8 (json.number s) h = any_number (number_of s)
  json_utf8 (json.string s) h = h
  json_utf8 (json.array js) h = map_keeps ItemsHaveUtf8 HasUtf8 values.array (λ ds u. u) (of_items js) (items_utf8 js h)
  json_utf8 (json.object ms) h = map_keeps MembersHaveUtf8 HasUtf8 values.object (λ ds u. u) (of_members ms no_members)
      (members_utf8 ms no_members h tt)

  items_utf8 : (js : json.Items) → TextItems js → IfSome ItemsHaveUtf8 (of_items js)
  items_utf8 json.no_items h = tt
  items_utf8 (json.item j js) h =
      then_keeps HasUtf8 ItemsHaveUtf8 (λ d. option_map (values.item d) (of_items js))
      (λ d u. map_keeps ItemsHaveUtf8 ItemsHaveUtf8 (values.item d) (λ ds v. (u, v)) (of_items js) (items_utf8 js h.1)) (of_json j)
      (json_utf8 j h.0)

  members_utf8 : (ms : json.Members) (found : Members) → TextMembers ms → MembersHaveUtf8 found
      → IfSome MembersHaveUtf8 (of_members ms found)
  members_utf8 json.no_members found h u = u
  members_utf8 (json.member k j ms) found h u =
      then_keeps HasUtf8 MembersHaveUtf8 (λ d. of_members ms (put k d found))
      (λ d v. members_utf8 ms (put k d found) h.2 (put_utf8 k d found h.0 v u)) (of_json j) (json_utf8 j h.1)

last : (o : Option (Json × List Token)) → Gives TextJson o → IfSome TextJson (option_and_then (λ p. if_last p.0 p.1) o)
last None h = tt
last (Some (j, [])) h = h.0
last (Some (j, t ∷ ts)) h = tt

-- a value that is read from UTF-8
pub read_utf8 : (text : List ℕ) (d : Data) → IsUtf8 text → read text ≡ Some d → HasUtf8 d
read_utf8 text d u e =
    subst (IfSome HasUtf8) e
    (then_keeps TextJson HasUtf8 of_json json_utf8 (option_and_then (λ p. if_last p.0 p.1) (value max_depth (tokens text)))
    (last (value max_depth (tokens text)) (Keeps-value max_depth (tokens text) (tokens_utf8 text u))))
