-- A binding: the opened set and the ids as tables, and what its client is shown of the page.
use Rattle.std.specs.Prelude.{◌≡◌, ℕ, ◌+◌, Bool, List, [], ◌∷◌, length, Option, Some, None, unwrap_or, refl}
use Rattle.std.specs.Ordering.{nat_cmp}
use Rattle.std.specs.FinSet as set
use Rattle.std.specs.FinMap as map
use Rattle.std.specs.Coded.{Coded, code_by, coded×, coded_ℕ}
use Rattle.node_tree.specs.Nodes.{Nodes, none, node, Branch, alone}
use Rattle.page_tree.specs.Pages.{PageRow}
use Rattle.shown_pages.specs.declared.modes.Mode.{Mode}
use Rattle.shown_pages.specs.declared.modes.Mode.TheVariants.{All}
use Rattle.shown_pages.specs.contracts.modes.Mode as the_mode
use Rattle.node_binding.specs.Cuts.{known}
use Rattle.node_binding.specs.Openings.{less, containers_within, levelled, above}
use Rattle.node_binding.specs.Sessions.{Session, is_open, id_at, serial_at}

-- The serials that are opened; the ids by serial and the serials by id; the id that comes next; the mode in which the client sees
-- the page.
pub record BindingValue : Type 0 where
  pub opened : set.FinSet nat_cmp
  pub ids : map.FinMap nat_cmp ℕ
  pub serials : map.FinMap nat_cmp ℕ
  pub next : ℕ
  pub mode : Mode

-- a binding by its parts
abbrev pub coded_bound : Coded BindingValue
coded_bound =
    code_by (((set.FinSet nat_cmp × map.FinMap nat_cmp ℕ) × map.FinMap nat_cmp ℕ) × (ℕ × Mode))
    (coded× (coded× (coded× (set.code coded_ℕ) (map.code coded_ℕ coded_ℕ)) (map.code coded_ℕ coded_ℕ))
    (coded× coded_ℕ the_mode.the_row.coded))
    (λ b. (((b.opened, b.ids), b.serials), (b.next, b.mode)))
    (λ p. record { opened = p.0.0.0; ids = p.0.0.1; serials = p.0.1; next = p.1.0; mode = p.1.1 })
    (λ _. refl)

-- the opened set as a test
abbrev pub opened_in : BindingValue → ℕ → Bool
opened_in b s = set.contains b.opened s

-- the id of a node; 0 where it is not known
abbrev pub id_in : BindingValue → ℕ → ℕ
id_in b s = unwrap_or (map.get b.ids s) 0

-- with nothing in its tables
abbrev pub empty_in : Mode → ℕ → BindingValue
empty_in mode next = record { opened = set.empty; ids = map.empty; serials = map.empty; next = next; mode = mode }

-- the same where nothing is hidden
abbrev pub empty_from : ℕ → BindingValue
empty_from next = empty_in All next

-- in another mode
abbrev pub in_mode : Mode → BindingValue → BindingValue
in_mode mode b = record { opened = b.opened; ids = b.ids; serials = b.serials; next = b.next; mode = mode }

-- no node has an id
abbrev pub KnowsNothing : BindingValue → Type 0
KnowsNothing b = (s : ℕ) → map.get b.ids s ≡ None

-- s gets the next id
abbrev pub with_bound : ℕ → BindingValue → BindingValue
with_bound s b = record {
  opened = b.opened;
  ids = map.insert b.ids s b.next;
  serials = map.insert b.serials b.next s;
  next = b.next + 1;
  mode = b.mode;
}

-- each gets the next id, in turn
abbrev pub all_bound : List ℕ → BindingValue → BindingValue
all_bound [] b = b
all_bound (s ∷ ss) b = all_bound ss (with_bound s b)

-- s is opened
abbrev pub with_opened : ℕ → BindingValue → BindingValue
with_opened s b = record { opened = set.insert b.opened s; ids = b.ids; serials = b.serials; next = b.next; mode = b.mode }

-- each of these containers is opened
abbrev pub all_opened : List ℕ → BindingValue → BindingValue
all_opened [] b = b
all_opened (s ∷ ss) b = all_opened ss (with_opened s b)

-- no serial has that id, if there is one
abbrev pub ids_without : Option ℕ → map.FinMap nat_cmp ℕ → map.FinMap nat_cmp ℕ
ids_without None m = m
ids_without (Some id) m = map.remove m id

-- nothing is known; the mode stays
abbrev pub cleared : BindingValue → BindingValue
cleared b = empty_in b.mode b.next

-- after a reset, the containers of a level below d are opened, and the nodes that are known then get their ids
abbrev pub started : Option ℕ → Nodes PageRow → BindingValue → BindingValue
started d n b = all_bound (known (above d n) n) (all_opened (containers_within d n) (cleared b))

-- trees of which nothing is known become known, level by level, and their containers are opened to d levels
abbrev pub revealed : Option ℕ → Nodes PageRow → BindingValue → BindingValue
revealed d n b = all_bound (levelled d n) (all_opened (containers_within d n) b)

-- the containers at or below x at a distance below d are opened, and the nodes below x that are known then get their ids
abbrev pub opened_down : Option ℕ → Branch PageRow → BindingValue → BindingValue
opened_down d x b = all_bound (levelled (less d) x.children) (all_opened (containers_within d (alone x)) b)

-- s has no id, and is not opened
abbrev pub forgotten : ℕ → BindingValue → BindingValue
forgotten s b = record {
  opened = set.remove b.opened s;
  ids = map.remove b.ids s;
  serials = ids_without (map.get b.ids s) b.serials;
  next = b.next;
  mode = b.mode;
}

-- none of these nodes is known any more
abbrev pub all_forgotten : Nodes PageRow → BindingValue → BindingValue
all_forgotten none b = b
all_forgotten (node r c t) b = all_forgotten t (all_forgotten c (forgotten r.serial b))

-- The binding has the opened set, the ids and the serials of a session with the page n.
pub record Stands (n : Nodes PageRow) (w : Session) (b : BindingValue) : Type 0 where
  pub opened_is : (s : ℕ) → set.contains b.opened s ≡ is_open w.opened s
  pub ids_are : (s : ℕ) → map.get b.ids s ≡ id_at w n s
  pub serials_are : (id : ℕ) → map.get b.serials id ≡ serial_at w n id
  pub next_is : b.next ≡ length w.pushed + 1
