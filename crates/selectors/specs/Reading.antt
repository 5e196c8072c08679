-- Which selector list, if any, a text spells, read from left to right.
use Rattle.std.specs.Prelude.{ℕ, ◌+◌, ◌-◌, nat_lt, pos, Bool, true, false, ◌&&◌, ◌||◌, ◌==◌, not, List, [], ◌∷◌, map, slice_index}
use Rattle.std.specs.Prelude.{slice_get, length, Option, Some, None, is_some, codes, if◌then◌else◌}
use Rattle.std.specs.Char.{to_ascii_lowercase}
use Rattle.std.specs.Str.{bytes_eq}
use Rattle.css_tokens.specs.Escapes.{unescaped}
use Rattle.css_tokens.specs.declared.token.Range.{Range}
use Rattle.selectors.specs.declared.words.Word.{Word}
use Rattle.selectors.specs.declared.words.WordKind.{WordKind}
use Rattle.selectors.specs.declared.words.WordKind.TheVariants.{Ident, Function, Str, Id, Mark}
use Rattle.selectors.specs.declared.selector.Joint.{Joint}
use Rattle.selectors.specs.declared.selector.Joint.TheVariants as joints
use Rattle.selectors.specs.declared.selector.AttrOp.{AttrOp}
use Rattle.selectors.specs.declared.selector.AttrOp.TheVariants as ops
use Rattle.selectors.specs.declared.selector.Simple.{Simple}
use Rattle.selectors.specs.declared.selector.Compound.{Compound}
use Rattle.selectors.specs.declared.selector.NthKind.{NthKind}
use Rattle.selectors.specs.declared.selector.NthKind.TheVariants as nths
use Rattle.selectors.specs.Words.{WordReading, word_reading, next_word, head, is_mark, words_of, between}
use Rattle.selectors.specs.Forms.{simple_seen, compound_seen, TestForm, any, tag, id, class, attr, root, empty, nth, only_child}
use Rattle.selectors.specs.Forms.{only_of_type, never, SimpleForm, is, is_not, CompoundForm, compound_form, SelectorForm, ◌>>=◌}
use Rattle.selectors.specs.Nth.{nth_of}
use Rattle.selectors.specs.Parts.{with_front, many}

-- ---- words

-- a name's value, and the value of a hash
abbrev pub word_value : List ℕ → Word → List ℕ
word_value text w = unescaped (between text w.start w.end)

-- the value of a hash, without its `#`
abbrev pub hash_value : List ℕ → Word → List ℕ
hash_value text w = unescaped (between text (w.start + 1) w.end)

-- where the inside of a string ends: before its second quote, if it is there
abbrev pub string_end : List ℕ → Word → ℕ
string_end text w = if nat_lt (w.start + 1) w.end && slice_index text (w.end - 1) == slice_index text w.start then w.end - 1 else w.end

-- the value of a string, without its quotes
abbrev pub string_of : List ℕ → Word → List ℕ
string_of text w = unescaped (between text (w.start + 1) (string_end text w))

-- a name in lower case, of an ident and of a function
abbrev pub lower_of : List ℕ → Word → List ℕ
lower_of text w = map to_ascii_lowercase (word_value text w)

-- a function's name in lower case, without its `(`
abbrev pub function_of : List ℕ → Word → List ℕ
function_of text w = map to_ascii_lowercase (unescaped (between text w.start (w.end - 1)))

-- there is a first word, and p holds of it
abbrev pub first_is : (Word → Bool) → List Word → Bool
first_is p [] = false
first_is p (w ∷ ws) = p w

-- the next word stands with no white space before it
abbrev pub is_tight : WordReading → Bool
is_tight r = first_is (λ w. not w.spaced) r.words

-- what follows this mark, if it is the next word
abbrev pub take_mark : ℕ → WordReading → Option WordReading
take_mark c r = next_word r >>= λ w. if is_mark c w.0.kind then Some w.1 else None

-- the value of an ident, none for a word of another kind
abbrev pub ident_value : List ℕ → WordKind → Option (List ℕ)
ident_value value Ident = Some value
ident_value value _ = None

-- a value together with what is still to be read, if there is a value
abbrev pub with_rest : {A : Type 0} → Option A → WordReading → Option (A × WordReading)
with_rest None r = None
with_rest (Some x) r = Some (x, r)

-- an ident's value
unfoldable pub ident_at : WordReading → Option (List ℕ × WordReading)
ident_at r = next_word r >>= λ w. with_rest (ident_value (word_value r.text w.0) w.0.kind) w.1

-- an ident's value, with no white space before the ident
abbrev pub tight_ident_at : WordReading → Option (List ℕ × WordReading)
tight_ident_at r = if is_tight r then ident_at r else None

-- ---- attribute selectors

-- the attribute operator that a mark begins: `~`, `|`, `^`, `$` or `*`
abbrev pub operator_of : WordKind → Option AttrOp
operator_of (Mark c) =
    if c == 126 then Some ops.Word else (if c == 124 then Some ops.Dash else (if c == 94 then Some ops.Prefix
    else (if c == 36 then Some ops.Suffix else (if c == 42 then Some ops.Part else None))))
operator_of _ = None

-- the operator op, if `=` stands right behind its first mark w
abbrev pub equals_at : Word → AttrOp → WordReading → Option (AttrOp × WordReading)
equals_at w op r = next_word r >>= λ e. if is_mark 61 e.0.kind && e.0.start == w.end then Some (op, e.1) else None

-- an attribute operator, of which w is the first word
abbrev pub operator_from : Word → WordReading → Option (AttrOp × WordReading)
operator_from w r = if is_mark 61 w.kind then Some (ops.Equal, r) else (operator_of w.kind >>= λ op. equals_at w op r)

-- `=`, or one of five characters and `=` right behind it
unfoldable pub operator_at : WordReading → Option (AttrOp × WordReading)
operator_at r = next_word r >>= λ w. operator_from w.0 w.1

-- an attribute selector's operand: an ident's value or a string's, none for a word of another kind
abbrev pub operand_by : List ℕ → List ℕ → WordKind → Option (List ℕ)
operand_by name string Ident = Some name
operand_by name string Str = Some string
operand_by name string _ = None

-- the operand of an attribute selector
unfoldable pub operand_at : WordReading → Option (List ℕ × WordReading)
operand_at r = next_word r >>= λ w. with_rest (operand_by (word_value r.text w.0) (string_of r.text w.0) w.0.kind) w.1

-- after the name, `]`: the element has the attribute
abbrev pub exists_at : List ℕ → WordReading → Option (TestForm × WordReading)
exists_at name r = take_mark 93 r >>= λ rest. Some (attr name ops.Exists [], rest)

-- after the name, an operator, an operand and `]`
abbrev pub compare_at : List ℕ → WordReading → Option (TestForm × WordReading)
compare_at name r = operator_at r >>= λ op. operand_at op.1 >>= λ operand. take_mark 93 operand.1 >>= λ rest. Some
    (attr name op.0 operand.0, rest)

-- after the name
abbrev pub attribute_after : List ℕ → WordReading → Option (TestForm × WordReading)
attribute_after name r = if first_is (λ w. is_mark 93 w.kind) r.words then exists_at name r else compare_at name r

-- after `[`
unfoldable pub attribute_at : WordReading → Option (TestForm × WordReading)
attribute_at r = ident_at r >>= λ name. attribute_after name.0 name.1

-- ---- pseudo-classes

-- position 1 by this kind of counting: an+b with step 0 and offset 1
abbrev pub first_child : NthKind → TestForm
first_child kind = nth kind (pos 0) (pos 1)

-- the name is this word
abbrev pub is_named : List ℕ → List ℕ → Bool
is_named word name = bytes_eq name word

-- matched by no element here
unfoldable pub is_never : List ℕ → Bool
is_never name =
    is_named (codes "hover") name || is_named (codes "active") name || is_named (codes "focus") name
    || is_named (codes "link") name || is_named (codes "visited") name || is_named (codes "target") name
    || is_named (codes "enabled") name || is_named (codes "disabled") name || is_named (codes "checked") name

-- the test of a pseudo-class without an argument, by its name in lower case
unfoldable pub pseudo_class : List ℕ → Option TestForm
pseudo_class name =
    if is_named (codes "root") name then Some root
    else (if is_named (codes "empty") name then Some empty
    else (if is_named (codes "first-child") name then Some (first_child nths.Child)
    else (if is_named (codes "last-child") name then Some (first_child nths.LastChild)
    else (if is_named (codes "only-child") name then Some only_child
    else (if is_named (codes "first-of-type") name then Some (first_child nths.OfType)
    else (if is_named (codes "last-of-type") name then Some (first_child nths.LastOfType)
    else (if is_named (codes "only-of-type") name then Some only_of_type
    else (if is_never name then Some never else None))))))))

-- the names of the pseudo-elements
unfoldable pub is_pseudo_element : List ℕ → Bool
is_pseudo_element name =
    is_named (codes "before") name || is_named (codes "after") name
    || is_named (codes "first-line") name || is_named (codes "first-letter") name

-- what a pseudo-class with an argument an+b counts, by its name in lower case
unfoldable pub nth_kind : List ℕ → Option NthKind
nth_kind name =
    if is_named (codes "nth-child") name then Some nths.Child
    else (if is_named (codes "nth-last-child") name then Some nths.LastChild
    else (if is_named (codes "nth-of-type") name then Some nths.OfType
    else (if is_named (codes "nth-last-of-type") name then Some nths.LastOfType else None)))

-- the first `)` and what follows it
unfoldable pub closing : List Word → Option (Word × List Word)
closing [] = None
closing (w ∷ ws) = if is_mark 41 w.kind then Some (w, ws) else closing ws

-- the first `)`, and the reading behind it
abbrev pub closing_at : WordReading → Option (Word × WordReading)
closing_at r = closing r.words >>= λ x. Some (x.0, word_reading r.text x.1)

-- the text up to the first `)`, which is an+b
unfoldable pub nth_at : NthKind → ℕ → WordReading → Option (TestForm × WordReading)
nth_at kind start r = closing_at r >>= λ close. nth_of (between r.text start close.0.start) >>= λ v. Some (nth kind v.0 v.1, close.1)

-- what follows this mark, if it is the next word with no white space before it
abbrev pub tight_mark_at : ℕ → WordReading → Option WordReading
tight_mark_at c r = if is_tight r then take_mark c r else None

-- an ident and `)`
unfoldable pub lang_at : WordReading → Option (TestForm × WordReading)
lang_at r = tight_ident_at r >>= λ i. tight_mark_at 41 i.1 >>= λ rest. Some (never, rest)

-- after a function but `not`
unfoldable pub function_at : List ℕ → ℕ → WordReading → Option (TestForm × WordReading)
function_at name start r =
    if is_named (codes "lang") name then lang_at r
    else nth_kind name >>= λ kind. nth_at kind start r

-- ---- simple selectors

-- after `.`, an ident with no white space before it
abbrev pub class_at : WordReading → Option (TestForm × WordReading)
class_at r = tight_ident_at r >>= λ n. Some (class n.0, n.1)

-- an id, a class or an attribute selector, by the kind of its first word w
abbrev pub plain_by : Word → WordReading → WordKind → Option (TestForm × WordReading)
plain_by w r Id = Some (id (hash_value r.text w), r)
plain_by w r (Mark c) = if c == 46 then class_at r else (if c == 91 then attribute_at r else None)
plain_by w r _ = None

-- an id, a class or an attribute selector, of which w is the first word
unfoldable pub plain_from : Word → WordReading → Option (TestForm × WordReading)
plain_from w r = plain_by w r w.kind

-- a pseudo-class without argument, and one with it
abbrev pub named_at : Word → WordReading → Option (TestForm × WordReading)
named_at w r = with_rest (pseudo_class (lower_of r.text w)) r

-- a pseudo-class with an argument but `:not`, of which w is the function
abbrev pub called_at : Word → WordReading → Option (TestForm × WordReading)
called_at w r = function_at (function_of r.text w) w.end r

-- after `:`, a pseudo-class but `:not`, by the kind of the word w
abbrev pub pseudo_by : Word → WordReading → WordKind → Option (TestForm × WordReading)
pseudo_by w r Ident = named_at w r
pseudo_by w r Function = called_at w r
pseudo_by w r _ = None

-- after `:`, a pseudo-class but `:not`
unfoldable pub pseudo_at : WordReading → Option (TestForm × WordReading)
pseudo_at r = next_word r >>= λ w. if w.0.spaced then None else pseudo_by w.0 w.1 w.0.kind

-- the argument of `:not`, by the kind of its first word w: a type, `*`, or another simple selector but `:not`
abbrev pub argument_by : Word → WordReading → WordKind → Option (TestForm × WordReading)
argument_by w r Ident = Some (tag (word_value r.text w), r)
argument_by w r (Mark c) = if c == 42 then Some (any, r) else (if c == 58 then pseudo_at r else plain_from w r)
argument_by w r _ = plain_from w r

-- the argument of `:not`
unfoldable pub argument_from : Word → WordReading → Option (TestForm × WordReading)
argument_from w r = argument_by w r w.kind

-- the argument of `:not`, from the next word on
abbrev pub argument_at : WordReading → Option (TestForm × WordReading)
argument_at r = next_word r >>= λ w. argument_from w.0 w.1

-- after `:not(`
unfoldable pub not_at : WordReading → Option (TestForm × WordReading)
not_at r = argument_at r >>= λ t. take_mark 41 t.1 >>= λ rest. Some (t.0, rest)

-- Part of a compound: a simple selector, or none where it is a pseudo-element, and whether it is one.
abbrev pub Item : Type 0
Item = List SimpleForm × Bool

-- a part as the code has it: no simple selector stands for a pseudo-element
abbrev pub compound_item_seen : Option Simple → Item
compound_item_seen None = ([], true)
compound_item_seen (Some s) = (simple_seen s ∷ [], false)

-- a test that was read, as a part of a compound
abbrev pub item_is : Option (TestForm × WordReading) → Option (Item × WordReading)
item_is None = None
item_is (Some x) = Some ((is x.0 ∷ [], false), x.1)

-- the argument of `:not` that was read, negated, as a part of a compound
abbrev pub item_is_not : Option (TestForm × WordReading) → Option (Item × WordReading)
item_is_not None = None
item_is_not (Some x) = Some ((is_not x.0 ∷ [], false), x.1)

-- after `::`
unfoldable pub element_at : WordReading → Option (Item × WordReading)
element_at r = tight_ident_at r >>= λ n. if is_pseudo_element (map to_ascii_lowercase n.0) then Some (([], true), n.1) else None

-- a pseudo-element with one colon, or a pseudo-class without argument
abbrev pub colon_named : Word → WordReading → Option (Item × WordReading)
colon_named w r = if is_pseudo_element (lower_of r.text w) then Some (([], true), r) else item_is (named_at w r)

-- `:not`, or another pseudo-class with an argument
abbrev pub colon_called : Word → WordReading → Option (Item × WordReading)
colon_called w r = if is_named (codes "not") (function_of r.text w) then item_is_not (not_at r) else item_is (called_at w r)

-- after `:`, a pseudo-class or a pseudo-element, by the kind of the word w
abbrev pub colon_by : Word → WordReading → WordKind → Option (Item × WordReading)
colon_by w r Ident = colon_named w r
colon_by w r Function = colon_called w r
colon_by w r (Mark c) = if c == 58 then element_at r else None
colon_by w r _ = None

-- after `:`
unfoldable pub colon_at : WordReading → Option (Item × WordReading)
colon_at r = next_word r >>= λ w. if w.0.spaced then None else colon_by w.0 w.1 w.0.kind

-- a part of a compound that begins with this word
unfoldable pub item_from : Word → WordReading → Option (Item × WordReading)
item_from w r = if is_mark 58 w.kind then colon_at r else item_is (plain_from w r)

-- a compound's part from the next word on, neither a type nor `*`
abbrev pub compound_item_at : WordReading → Option (Item × WordReading)
compound_item_at r = next_word r >>= λ w. item_from w.0 w.1

-- a compound's first part, by the kind of its first word w: a type, `*`, or any other part
abbrev pub first_by : Word → WordReading → WordKind → Option (Item × WordReading)
first_by w r Ident = Some ((is (tag (word_value r.text w)) ∷ [], false), r)
first_by w r (Mark c) = if c == 42 then Some ((is any ∷ [], false), r) else item_from w r
first_by w r _ = item_from w r

-- a compound's first part may be a type or `*`
unfoldable pub first_from : Word → WordReading → Option (Item × WordReading)
first_from w r = first_by w r w.kind

-- a compound's first part, from the next word on
abbrev pub first_part_at : WordReading → Option (Item × WordReading)
first_part_at r = next_word r >>= λ w. first_from w.0 w.1

-- ---- compounds and selectors

-- the combinator that a mark is: `>`, `+` or `~`
abbrev pub combinator_of : WordKind → Option Joint
combinator_of (Mark c) = if c == 62 then Some joints.Child else
    (if c == 43 then Some joints.Next else (if c == 126 then Some joints.Later else None))
combinator_of _ = None

-- a compound ends before this word: there is none, white space stands before it, or it is a combinator
abbrev pub ends_by : Option Word → Bool
ends_by None = true
ends_by (Some w) = w.spaced || is_some (combinator_of w.kind)

-- no part of the same compound follows
abbrev pub ends_compound : WordReading → Bool
ends_compound r = ends_by (head r)

-- the parts that follow in the same compound
unfoldable pub tests_at : Bool → WordReading → Option (Item × WordReading)
tests_at element r = many ends_compound compound_item_at element r

-- Compounds, each with the combinator on its left, and whether the last ends in a pseudo-element.
abbrev pub Joined : Type 0
Joined = List CompoundForm × Bool

-- a compound as the code has it, and whether it ends in a pseudo-element
abbrev pub joined_seen : Compound × Bool → Joined
joined_seen x = (compound_seen x.0 ∷ [], x.1)

-- the parts that were read, as one compound with this combinator on its left
abbrev pub compound_of : Joint → Option (Item × WordReading) → Option (Joined × WordReading)
compound_of joint None = None
compound_of joint (Some x) = Some ((compound_form joint x.0.0 ∷ [], x.0.1), x.1)

-- a compound with this combinator on its left
unfoldable pub compound_at : Joint → WordReading → Option (Joined × WordReading)
compound_at joint r = first_part_at r >>= λ first. compound_of joint (with_front first.0.0 (tests_at first.0.1 first.1))

-- the combinator that the next word is, or else the descendant combinator where white space stands before that word
abbrev pub joint_of : WordReading → WordReading → Option Joint → Bool → Option (Joint × WordReading)
joint_of r rest (Some joint) spaced = Some (joint, rest)
joint_of r rest None true = Some (joints.Descendant, r)
joint_of r rest None false = None

-- a combinator: a mark, or the white space before the next word
unfoldable pub joint_at : WordReading → Option (Joint × WordReading)
joint_at r = next_word r >>= λ w. joint_of r w.1 (combinator_of w.0.kind) w.0.spaced

-- a combinator and the compound behind it
unfoldable pub joined_at : WordReading → Option (Joined × WordReading)
joined_at r = joint_at r >>= λ j. compound_at j.0 j.1

-- no words are left
abbrev pub is_over : List Word → Bool
is_over [] = true
is_over (w ∷ ws) = false

-- the selector ends here: no words are left to read
abbrev pub ends_selector : WordReading → Bool
ends_selector r = is_over r.words

-- the compounds up to the end, each with its combinator
unfoldable pub compounds_at : Bool → WordReading → Option (Joined × WordReading)
compounds_at element r = many ends_selector joined_at element r

-- from the first to the last word
abbrev pub range_by : Option Word → Option Word → Option Range
range_by (Some first) (Some last) = Some (record { start = first.start; end = last.end })
range_by _ _ = None

-- the range from the first word to the last, none where there are no words
abbrev pub range_of : List Word → Option Range
range_of ws = range_by (slice_get ws 0) (slice_get ws (length ws - 1))

-- the selector with this range, these compounds and this pseudo-element flag
abbrev pub selector_form : Range → Joined → SelectorForm
selector_form range x = record { compounds = x.0; pseudo_element = x.1; range = range }

-- a first compound and those behind it
unfoldable pub joined_of : WordReading → Option (Joined × WordReading)
joined_of r = compound_at joints.Descendant r >>= λ first. with_front first.0.0 (compounds_at first.0.1 first.1)

-- the selector that all of the words spell
unfoldable pub selector_of : WordReading → Option SelectorForm
selector_of r = range_of r.words >>= λ range. joined_of r >>= λ whole. Some (selector_form range whole.0)

-- ---- lists

-- what stands between the commas
abbrev pub put_first : Word → List (List Word) → List (List Word)
put_first w [] = (w ∷ []) ∷ []
put_first w (own ∷ others) = (w ∷ own) ∷ others

-- the words between the commas, one list more than there are commas
unfoldable pub segments : List Word → List (List Word)
segments [] = [] ∷ []
segments (w ∷ ws) = if is_mark 44 w.kind then [] ∷ segments ws else put_first w (segments ws)

-- a selector in front of those that were read, if they were
abbrev pub selector_before : SelectorForm → Option (List SelectorForm) → Option (List SelectorForm)
selector_before s None = None
selector_before s (Some ss) = Some (s ∷ ss)

-- the selectors that these lists of words spell, if each spells one
unfoldable pub selectors_in : List ℕ → List (List Word) → Option (List SelectorForm)
selectors_in text [] = Some []
selectors_in text (own ∷ others) = selector_of (word_reading text own) >>= λ s. selector_before s (selectors_in text others)

-- the selector list that the words still to come spell, if there is one
abbrev pub selector_list_of : WordReading → Option (List SelectorForm)
selector_list_of r = selectors_in r.text (segments r.words)

-- the selector list that a text spells, if there is one
abbrev pub selectors_of : List ℕ → Option (List SelectorForm)
selectors_of text = selector_list_of (word_reading text (words_of text))
