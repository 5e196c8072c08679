-- Selectors without where they lie in memory.
use Rattle.std.specs.Prelude.{◌≡◌, ℕ, ℤ, Bool, List, map, Option, Some, None, Result, Ok, Err}
use Rattle.css_tokens.specs.declared.token.Range.{Range}
use Rattle.selectors.specs.declared.selector.SelErr.{SelErr}
use Rattle.selectors.specs.declared.selector.SelErr.TheVariants.{Invalid, Memory}
use Rattle.selectors.specs.declared.selector.Joint.{Joint}
use Rattle.selectors.specs.declared.selector.AttrOp.{AttrOp}
use Rattle.selectors.specs.declared.selector.NthKind.{NthKind}
use Rattle.selectors.specs.declared.selector.Test.{Test}
use Rattle.selectors.specs.declared.selector.Test.TheVariants as tests
use Rattle.selectors.specs.declared.selector.Simple.{Simple}
use Rattle.selectors.specs.declared.selector.Simple.TheVariants as simples
use Rattle.selectors.specs.declared.selector.Compound.{Compound}
use Rattle.selectors.specs.declared.selector.Selector.{Selector}

-- a simple selector apart from a negation, with its names as lists of bytes
pub data TestForm : Type 0 where
  any : TestForm
  tag : List ℕ → TestForm
  id : List ℕ → TestForm
  class : List ℕ → TestForm
  attr : List ℕ → AttrOp → List ℕ → TestForm
  root : TestForm
  empty : TestForm
  nth : NthKind → ℤ → ℤ → TestForm
  only_child : TestForm
  only_of_type : TestForm
  never : TestForm

-- a simple selector: a test, or its negation
pub data SimpleForm : Type 0 where
  is : TestForm → SimpleForm
  is_not : TestForm → SimpleForm

-- a compound selector with the combinator on its left
pub record CompoundForm : Type 0 where
  pub joint : Joint
  pub tests : List SimpleForm

-- a complex selector, whether it ends in a pseudo-element, and its range in the text
pub record SelectorForm : Type 0 where
  pub compounds : List CompoundForm
  pub pseudo_element : Bool
  pub range : Range

-- a test as the code has it, with its names as their bytes
abbrev pub test_seen : Test → TestForm
test_seen tests.Any = any
test_seen (tests.Tag name) = tag name
test_seen (tests.Id name) = id name
test_seen (tests.Class name) = class name
test_seen (tests.Attr name op operand) = attr name op operand
test_seen tests.Root = root
test_seen tests.Empty = empty
test_seen (tests.Nth kind step offset) = nth kind step offset
test_seen tests.OnlyChild = only_child
test_seen tests.OnlyOfType = only_of_type
test_seen tests.Never = never

-- a simple selector as the code has it, without where it lies in memory
abbrev pub simple_seen : Simple → SimpleForm
simple_seen (simples.Is t) = is (test_seen t)
simple_seen (simples.Not t) = is_not (test_seen t)

-- the compound with this combinator on its left and these simple selectors
abbrev pub compound_form : Joint → List SimpleForm → CompoundForm
compound_form joint tests = record { joint = joint; tests = tests }

-- a compound as the code has it, without where it lies in memory
abbrev pub compound_seen : Compound → CompoundForm
compound_seen c = compound_form c.joint (map simple_seen c.tests.items)

-- a selector as the code has it, without where it lies in memory
abbrev pub selector_seen : Selector → SelectorForm
selector_seen s = record { compounds = map compound_seen s.compounds.items; pseudo_element = s.pseudo_element; range = s.range }

infixl 10 ◌>>=◌
-- what f gives for the value on the left, none where there is no value
abbrev pub ◌>>=◌ : {A B : Type 0} → Option A → (A → Option B) → Option B
None >>= f = None
(Some x) >>= f = f x

-- What a function returned, seen by view, is what reading gives, unless memory ran out.
abbrev pub Fails : {Y : Type 0} → SelErr → Option Y → Type 0
Fails Memory read = Unit {0}
Fails Invalid read = read ≡ None

-- A function and reading agree: a value, seen by view, is what reading gives; an error is one that fits what reading gives.
abbrev pub GivesRead : {X Y : Type 0} → (X → Y) → Result X SelErr → Option Y → Type 0
GivesRead view (Ok x) read = read ≡ Some (view x)
GivesRead view (Err e) read = Fails e read
