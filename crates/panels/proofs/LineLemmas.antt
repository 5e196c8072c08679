-- Lines: what ends with a line feed and has none before; a text is cut into its lines in one way.
use Rattle.std.proofs.Common.{◌≡◌, ℕ, zero, suc, ◌+◌, ◌/◌, ◌%◌, ◌≤◌, ◌==◌, ◌&&◌, nat_le, nat_lt, Bool, true, false, cond}
use Rattle.std.proofs.Common.{if◌then◌else◌, List, [], ◌∷◌, ◌++◌, take, drop, refl, arith, decimal, length}
use Rattle.std.specs.Prelude.{codes}
use Rattle.std.specs.List.{list_all, flat_map}
use Rattle.std.specs.Char.{digit_char}
use Rattle.std.specs.Fmt.{digit_glyph, digits_onto, digits}
use Rattle.std.proofs.lemmas.Bool.Decides.{nat_tests}
use Rattle.json.specs.Print.{escape_letter, escape_byte, escape}
use Rattle.node_tree.specs.declared.Kind.{Kind}
use Rattle.node_tree.specs.declared.Kind.TheVariants.{Document, Element, Text, Comment, Doctype}
use Rattle.node_tree.specs.Nodes.{Nodes, none, node}
use Rattle.node_tree.specs.Names.{is_letter, is_name_byte, is_element_name, is_attribute_byte, is_attribute_name}
use Rattle.node_tree.specs.Labels.{Pair, Label, is_named_label, has_name}
use Rattle.node_tree.specs.Seen.{Seen}
use Rattle.front_mirror.specs.Outline.{indent, quoted, attribute_text, label_text_of, label_text, unshown_text, unshown_of, seen_line}
use Rattle.front_mirror.specs.Walks.{walk, spliced}
use Rattle.client_views.specs.Views.{has_formed_labels}
use Rattle.node_tree.specs.Labels.{is_formed_label}
use Rattle.panels.specs.Lines.{is_line, outline_line, shown_lines}

pub and_true : (a b : Bool) → (a && b) ≡ true → (a ≡ true) × (b ≡ true)
and_true true true e = (refl, refl)
and_true true false e = absurd cc
and_true false b e = absurd cc

pub both_true : (a b : Bool) → a ≡ true → b ≡ true → (a && b) ≡ true
both_true true true e f = refl
both_true true false e f = absurd cc
both_true false b e f = absurd cc

module _ {A : Type 0} (p : A → Bool) where
  pub all-append : (xs ys : List A) → list_all p xs ≡ true → list_all p ys ≡ true → list_all p (xs ++ ys) ≡ true
  all-append [] ys e f = f
  all-append (x ∷ xs) ys e f =
      let s = and_true (p x) (list_all p xs) e in
      both_true (p x) (list_all p (xs ++ ys)) s.0 (all-append xs ys s.1 f)

  pub all-take : (i : ℕ) (xs : List A) → list_all p xs ≡ true → list_all p (take i xs) ≡ true
  all-take zero xs e = refl
  all-take (suc i) [] e = refl
  all-take (suc i) (x ∷ xs) e =
      let s = and_true (p x) (list_all p xs) e in
      both_true (p x) (list_all p (take i xs)) s.0 (all-take i xs s.1)

  pub all-drop : (i : ℕ) (xs : List A) → list_all p xs ≡ true → list_all p (drop i xs) ≡ true
  all-drop zero xs e = e
  all-drop (suc i) [] e = refl
  all-drop (suc i) (x ∷ xs) e = all-drop i xs (and_true (p x) (list_all p xs) e).1

  pub all-spliced : (i k : ℕ) (more xs : List A) → list_all p more ≡ true → list_all p xs ≡ true → list_all p (spliced i k more xs) ≡ true
  all-spliced i k more xs e f = all-append (take i xs) (more ++ drop (i + k) xs) (all-take i xs f)
      (all-append more (drop (i + k) xs) e (all-drop (i + k) xs f))

-- ---- bytes from 32 on

abbrev pub is_printed : List ℕ → Bool
is_printed = list_all (nat_le 32)

printed-append : (xs ys : List ℕ) → is_printed xs ≡ true → is_printed ys ≡ true → is_printed (xs ++ ys) ≡ true
printed-append xs ys e f = all-append (nat_le 32) xs ys e f

le-true : (x : ℕ) → 32 ≤ x → nat_le 32 x ≡ true
le-true x h = grind (arith, nat_tests, h)

glyph_printed : (d : ℕ) → nat_le 32 (digit_glyph false d) ≡ true
glyph_printed d = at (nat_lt d 10) where
  at : (b : Bool) → nat_le 32 (if b then 48 + d else 87 + d) ≡ true
  at true = le-true (48 + d) (omega arith)
  at false = le-true (87 + d) (omega arith)

onto_printed : (k base n : ℕ) (acc : List ℕ) → is_printed acc ≡ true → is_printed (digits_onto k base false n acc) ≡ true
onto_printed zero base n acc e = e
onto_printed (suc k) base n acc e =
    let more : is_printed (digit_glyph false (n % base) ∷ acc) ≡ true =
    both_true (nat_le 32 (digit_glyph false (n % base))) (is_printed acc) (glyph_printed (n % base)) e
    in
    at (n / base == 0) (digit_glyph false (n % base) ∷ acc) (digits_onto k base false (n / base) (digit_glyph false (n % base) ∷ acc)) more
    (onto_printed k base (n / base) (digit_glyph false (n % base) ∷ acc) more)
  where
    at : (b : Bool) (xs ys : List ℕ) → is_printed xs ≡ true → is_printed ys ≡ true → is_printed (if b then xs else ys) ≡ true
    at true xs ys e f = e
    at false xs ys e f = f

decimal_printed : (n : ℕ) → is_printed (decimal n) ≡ true
unfolding digits
decimal_printed n = onto_printed 64 10 n [] refl

letter_printed : (x : ℕ) → nat_lt 0 (escape_letter x) ≡ true → nat_le 32 (escape_letter x) ≡ true
letter_printed x e = grind (arith, nat_tests, e)

hex_printed : (d : ℕ) → nat_le 32 (digit_char d) ≡ true
hex_printed d = at (nat_lt d 10) where
  at : (b : Bool) → nat_le 32 (cond b (48 + d) (87 + d)) ≡ true
  at true = le-true (48 + d) (omega arith)
  at false = le-true (87 + d) (omega arith)

escape_printed : (x : ℕ) → is_printed (escape_byte x) ≡ true
unfolding escape_byte
escape_printed x = at (nat_lt 0 (escape_letter x)) (nat_lt x 32) refl refl where
  at : (b c : Bool) → nat_lt 0 (escape_letter x) ≡ b → nat_lt x 32 ≡ c
      → is_printed (cond b (92 ∷ escape_letter x ∷ []) (cond c (92 ∷ 117 ∷ 48 ∷ 48 ∷ digit_char (x / 16) ∷ digit_char (x % 16) ∷ [])
      (x ∷ []))) ≡ true
  at true c e f = both_true (nat_le 32 (escape_letter x)) true (letter_printed x e) refl
  at false true e f = both_true (nat_le 32 (digit_char (x / 16))) (nat_le 32 (digit_char (x % 16)) && true) (hex_printed (x / 16))
      (both_true (nat_le 32 (digit_char (x % 16))) true (hex_printed (x % 16)) refl)
  at false false e f = both_true (nat_le 32 x) true (grind (arith, nat_tests, f)) refl

escaped_printed : (s : List ℕ) → is_printed (escape s) ≡ true
escaped_printed [] = refl
escaped_printed (x ∷ s) = printed-append (escape_byte x) (escape s) (escape_printed x) (escaped_printed s)

quoted_printed : (s : List ℕ) → is_printed (quoted s) ≡ true
quoted_printed s = printed-append (escape s) (34 ∷ []) (escaped_printed s) refl

-- ---- names

name_byte : (b : ℕ) → is_name_byte b ≡ true → nat_le 32 b ≡ true
name_byte b e = grind (arith, nat_tests, e)

letter : (b : ℕ) → is_letter b ≡ true → nat_le 32 b ≡ true
letter b e = grind (arith, nat_tests, e)

attribute_byte : (b : ℕ) → is_attribute_byte b ≡ true → nat_le 32 b ≡ true
attribute_byte b e = grind (arith, nat_tests, e)

all_turn : (p q : ℕ → Bool) → ((b : ℕ) → p b ≡ true → q b ≡ true) → (xs : List ℕ) → list_all p xs ≡ true → list_all q xs ≡ true
all_turn p q f [] e = refl
all_turn p q f (x ∷ xs) e =
    let s = and_true (p x) (list_all p xs) e in
    both_true (q x) (list_all q xs) (f x s.0) (all_turn p q f xs s.1)

element_printed : (name : List ℕ) → is_element_name name ≡ true → is_printed name ≡ true
element_printed [] e = refl
element_printed (b ∷ bs) e =
    let s = and_three (is_letter b) (nat_le (length (b ∷ bs)) 64) (list_all is_name_byte bs) e in
    both_true (nat_le 32 b) (is_printed bs) (letter b s.0) (all_turn is_name_byte (nat_le 32) name_byte bs s.1)
  where
    and_three : (a b c : Bool) → (a && b && c) ≡ true → (a ≡ true) × (c ≡ true)
    and_three true true true e = (refl, refl)
    and_three true true false e = absurd cc
    and_three true false c e = absurd cc
    and_three false b c e = absurd cc

attribute_printed : (name : List ℕ) → is_attribute_name name ≡ true → is_printed name ≡ true
attribute_printed name e = all_turn is_attribute_byte (nat_le 32) attribute_byte name
    (and_last (nat_le 1 (length name)) (nat_le (length name) 256) (list_all is_attribute_byte name) e)
  where
    and_last : (a b c : Bool) → (a && b && c) ≡ true → c ≡ true
    and_last true true true e = refl
    and_last true true false e = absurd cc
    and_last true false c e = absurd cc
    and_last false b c e = absurd cc

pairs_printed : (ps : List Pair) → list_all (λ (p : Pair). is_attribute_name p.0) ps ≡ true → is_printed (flat_map attribute_text ps) ≡ true
pairs_printed [] e = refl
pairs_printed (p ∷ ps) e =
    let s = and_true (is_attribute_name p.0) (list_all (λ (p : Pair). is_attribute_name p.0) ps) e in
    printed-append (attribute_text p) (flat_map attribute_text ps)
    (printed-append (codes " " ++ p.0 ++ codes "=") (quoted p.1)
    (printed-append (codes " " ++ p.0) (codes "=") (printed-append (codes " ") p.0 refl (attribute_printed p.0 s.0)) refl)
    (quoted_printed p.1))
    (pairs_printed ps s.1)

label_printed : (k : Kind) (l : Label) → (cond (has_name k) (is_element_name l.name) true
    && list_all (λ (p : Pair). is_attribute_name p.0) l.attributes) ≡ true → is_printed (label_text_of k l) ≡ true
label_printed Document l e = refl
label_printed Element l e =
    let s = and_true (is_element_name l.name) _ e in
    printed-append (codes "<" ++ l.name ++ flat_map attribute_text l.attributes) (codes ">")
    (printed-append (codes "<" ++ l.name) (flat_map attribute_text l.attributes)
    (printed-append (codes "<") l.name refl (element_printed l.name s.0)) (pairs_printed l.attributes s.1)) refl
label_printed Text l e = quoted_printed l.value
label_printed Comment l e =
    printed-append (codes "<!--" ++ quoted l.value) (codes "-->") (printed-append (codes "<!--") (quoted l.value) refl
    (quoted_printed l.value)) refl
label_printed Doctype l e =
    let s = and_true (is_element_name l.name) _ e in
    printed-append (codes "<!" ++ l.name) (codes ">") (printed-append (codes "<!") l.name refl (element_printed l.name s.0)) refl

unshown_printed : (n : ℕ) → is_printed (unshown_text n) ≡ true
unshown_printed n = at (n == 0) where
  at : (b : Bool) → is_printed (cond b [] (codes " +" ++ decimal n)) ≡ true
  at true = refl
  at false = printed-append (codes " +") (decimal n) refl (decimal_printed n)

pub line_printed : (r : Seen) → is_named_label r.label ≡ true → is_printed (seen_line r) ≡ true
line_printed r e =
    printed-append (decimal r.id ++ codes " " ++ label_text r.label) (unshown_text (unshown_of r.hold))
    (printed-append (decimal r.id ++ codes " ") (label_text r.label) (printed-append (decimal r.id) (codes " ") (decimal_printed r.id) refl)
    (label_printed r.label.kind r.label e))
    (unshown_printed (unshown_of r.hold))

indent_printed : (level : ℕ) → is_printed (indent level) ≡ true
indent_printed zero = refl
indent_printed (suc k) = indent_printed k

-- ---- lines

line_ends : (xs : List ℕ) → is_printed xs ≡ true → is_line (xs ++ 10 ∷ []) ≡ true
line_ends [] e = refl
line_ends (x ∷ []) e = both_true (nat_le 32 x) true (and_true (nat_le 32 x) true e).0 refl
line_ends (x ∷ y ∷ xs) e =
    let s = and_true (nat_le 32 x) (is_printed (y ∷ xs)) e in
    both_true (nat_le 32 x) (is_line ((y ∷ xs) ++ 10 ∷ [])) s.0 (line_ends (y ∷ xs) s.1)

pub line_of : (level : ℕ) (r : Seen) → is_named_label r.label ≡ true → is_line (outline_line level r) ≡ true
line_of level r e =
    line_ends (indent level ++ seen_line r) (printed-append (indent level) (seen_line r) (indent_printed level) (line_printed r e))

pub lines_of : (level : ℕ) (n : Nodes Seen) → has_formed_labels n ≡ true → list_all is_line (walk outline_line level n) ≡ true
lines_of level none e = refl
lines_of level (node r c t) e =
    let s = and_parts (is_formed_label r.label) (is_named_label r.label) (has_formed_labels c) (has_formed_labels t) e in
    both_true (is_line (outline_line level r)) _ (line_of level r s.0)
    (all-append is_line (walk outline_line (suc level) c) (walk outline_line level t) (lines_of (suc level) c s.1) (lines_of level t s.2))
  where
    and_parts : (o a b c : Bool) → (o && a && b && c) ≡ true → (a ≡ true) × (b ≡ true) × (c ≡ true)
    and_parts true true true true e = (refl, refl, refl)
    and_parts true true true false e = absurd cc
    and_parts true true false c e = absurd cc
    and_parts true false b c e = absurd cc
    and_parts false a b c e = absurd cc

-- all lines of an outline are lines
pub all_shown : (n : Nodes Seen) → has_formed_labels n ≡ true → list_all is_line (shown_lines n) ≡ true
all_shown none e = refl
all_shown (node r c t) e = lines_of 0 (node r c t) e
