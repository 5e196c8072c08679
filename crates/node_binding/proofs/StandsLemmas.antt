-- A binding that stands for a session goes on to stand for it.
use Rattle.std.proofs.Common.{◌≡◌, ℕ, ◌+◌, ◌≤◌, ◌==◌, Bool, true, false, cond, not, ◌||◌, List, [], ◌∷◌, ◌++◌, length, length-append, drop}
use Rattle.std.proofs.Common.{find, Option, Some, None, refl, sym, ap, ◌∙◌, arith}
use Rattle.std.specs.Ordering.{nat_cmp}
use Rattle.std.specs.FinSet as set
use Rattle.std.specs.FinMap as map
use Rattle.node_tree.specs.Nodes.{Nodes}
use Rattle.node_tree.specs.Keys.{tally, first_of}
use Rattle.page_tree.specs.Pages.{PageRow, row_serial}
use Rattle.node_binding.specs.Counts.{stands_in, last_standing}
use Rattle.node_binding.specs.Cuts.{known}
use Rattle.node_binding.specs.Openings.{containers_within, above}
use Rattle.node_binding.specs.Sessions.{Session, begun, reset, document_opened}
use Rattle.shown_pages.specs.declared.modes.Mode.{Mode}
use Rattle.shown_pages.specs.declared.modes.Mode.TheVariants.{All}
use Rattle.node_binding.specs.Bindings.{BindingValue, empty_in, empty_from, all_opened, cleared, started, Stands}
use Rattle.node_binding.proofs.Places.{is_in-place}
use Rattle.node_binding.proofs.BoundLemmas.{opened-ids, opened-serials, opened-next, opened-opened, bound-opened, bound-next, bound-ids}
use Rattle.node_binding.proofs.BoundLemmas.{bound-serials}
use Rattle.node_binding.proofs.Known.{known-tally}

-- empty tables stand for each session in which nothing is known
pub Stands-empty_in : (mode : Mode) (n : Nodes PageRow) (pushed : List ℕ) (since next : ℕ) → next ≡ length pushed + 1
    → Stands n (record { opened = None; pushed = pushed; since = since }) (empty_in mode next)
Stands-empty_in mode n pushed since next e = record {
  opened_is = λ s. set.contains-empty nat_cmp s;
  ids_are = λ s. map.get-empty nat_cmp s;
  serials_are = λ id. map.get-empty nat_cmp id;
  next_is = e;
}

pub Stands-begun : (n : Nodes PageRow) → Stands n begun (empty_from 1)
Stands-begun n = Stands-empty_in All n [] 0 1 refl

pub Stands-reset : (n m : Nodes PageRow) (w : Session) (b : BindingValue) → Stands n w b → Stands m (reset w) (cleared b)
Stands-reset n m w b stands = Stands-empty_in b.mode m w.pushed (length w.pushed) b.next stands.next_is

pub drop-length : (xs ys : List ℕ) → drop (length xs) (xs ++ ys) ≡ ys
drop-length [] ys = refl
drop-length (x ∷ xs) ys = drop-length xs ys

or-nothing : (b : Bool) → (b || false) ≡ b
or-nothing true = refl
or-nothing false = refl

not-cond : {A : Type 0} (b : Bool) (x y : A) → cond b x y ≡ cond (not b) y x
not-cond true x y = refl
not-cond false x y = refl

first_of-None : {A : Type 0} (o : Option A) → first_of o None ≡ o
first_of-None None = refl
first_of-None (Some x) = refl

module _ (d : Option ℕ) (n : Nodes PageRow) (b : BindingValue) where
  abbrev ks : List ℕ
  ks = known (above d n) n

  abbrev opened_first : BindingValue
  opened_first = all_opened (containers_within d n) (cleared b)

  started-opened : (s : ℕ) → set.contains (started d n b).opened s ≡ above d n s
  started-opened s =
      ap (λ o. set.contains o s) (bound-opened ks opened_first)
      ∙ opened-opened (containers_within d n) (cleared b) s
      ∙ ap (λ v. stands_in s (containers_within d n) || v) (set.contains-empty nat_cmp s)
      ∙ or-nothing _

  started-ids : (k : ℕ) → b.next ≡ k + 1 → (s : ℕ)
      → map.get (started d n b).ids s ≡ cond (stands_in s ks) (Some (k + last_standing ks s)) None
  started-ids k e s =
      bound-ids ks opened_first k (opened-next (containers_within d n) (cleared b) ∙ e) s
      ∙ ap (λ o. cond (last_standing ks s == 0) o (Some (k + last_standing ks s)))
      (ap (λ m. map.get m s) (opened-ids (containers_within d n) (cleared b)) ∙ map.get-empty nat_cmp s)
      ∙ not-cond (last_standing ks s == 0) _ _
      ∙ ap (λ v. cond v (Some (k + last_standing ks s)) None) (sym (is_in-place ks s))

  started-serials : (k : ℕ) → b.next ≡ k + 1 → ((x : ℕ) → tally row_serial x n ≤ 1) → (id : ℕ)
      → map.get (started d n b).serials id ≡ find (λ s. (k + last_standing ks s) == id) ks
  started-serials k e distinct id =
      bound-serials ks opened_first k (opened-next (containers_within d n) (cleared b) ∙ e)
      (λ s. omega (arith, known-tally (above d n) s n, distinct s)) id
      ∙ ap (first_of (find (λ s. (k + last_standing ks s) == id) ks))
      (ap (λ m. map.get m id) (opened-serials (containers_within d n) (cleared b)) ∙ map.get-empty nat_cmp id)
      ∙ first_of-None _

  started-next : (started d n b).next ≡ b.next + length ks
  started-next = bound-next ks opened_first ∙ ap (λ m. m + length ks) (opened-next (containers_within d n) (cleared b))

pub Stands-document_opened : (d : Option ℕ) (n : Nodes PageRow) (w : Session) (b : BindingValue) → ((x : ℕ) → tally row_serial x n ≤ 1)
    → b.next ≡ length w.pushed + 1 → Stands n (document_opened d n w) (started d n b)
Stands-document_opened d n w b distinct e =
    let ks : List ℕ = known (above d n) n in
    let now : drop (length w.pushed) (w.pushed ++ ks) ≡ ks = drop-length w.pushed ks in
    record {
      opened_is = started-opened d n b;
      ids_are = λ s. started-ids d n b (length w.pushed) e s ∙ ap
          (λ xs. cond (stands_in s ks) (Some (length w.pushed + last_standing xs s)) None) (sym now);
      serials_are = λ id. started-serials d n b (length w.pushed) e distinct id ∙ ap
          (λ xs. find (λ s. (length w.pushed + last_standing xs s) == id) ks) (sym now);
      next_is = started-next d n b ∙ omega (arith, e, length-append w.pushed ks);
    }
