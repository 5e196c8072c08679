-- A binding goes on to stand for its session as nodes go.
use Rattle.std.proofs.Common.{◌≡◌, ℕ, ◌==◌, Bool, true, false, cond, not, ◌&&◌, ◌||◌, List, Option, Some, None, refl, sym, ap, ◌∙◌}
use Rattle.std.proofs.lemmas.Bool.{cases_eq}
use Rattle.std.proofs.Math.Logic.{⊎_elim}
use Rattle.std.specs.Ordering.{nat_cmp}
use Rattle.std.specs.Cmp.{nat_cmp_total, unsigned_tied}
use Rattle.std.specs.FinSet as set
use Rattle.std.specs.FinMap as map
use Rattle.node_tree.specs.Nodes.{Nodes, none, node, Branch, alone}
use Rattle.node_tree.specs.Keys.{has}
use Rattle.page_tree.specs.Pages.{PageRow, row_serial}
use Rattle.node_binding.specs.Counts.{times}
use Rattle.node_binding.specs.Cuts.{known}
use Rattle.node_binding.specs.Openings.{opened_without}
use Rattle.node_binding.specs.Sessions.{Session, IsSession, detached, id_at, session_ids}
use Rattle.node_binding.specs.Bindings.{BindingValue, ids_without, forgotten, all_forgotten, Stands}
use Rattle.node_binding.proofs.Places.{turned}
use Rattle.node_binding.proofs.PairLemmas.{IsPaired, IsPaired-stands, serials-paired, if_same, if_other, no_id, some_is}

get-remove : (m : map.FinMap nat_cmp ℕ) (k q : ℕ) → map.get (map.remove m k) q ≡ cond (k == q) None (map.get m q)
get-remove m k q = map.get-remove nat_cmp_total m k q ∙ ap (λ b. cond b None (map.get m q)) (unsigned_tied q k ∙ turned q k)

contains-remove : (m : set.FinSet nat_cmp) (k q : ℕ) → set.contains (set.remove m k) q ≡ (not (k == q) && set.contains m q)
contains-remove m k q = set.contains-remove nat_cmp_total m k q ∙ ap (λ b. not b && set.contains m q) (unsigned_tied q k ∙ turned q k)

-- ---- one node

module _ (s : ℕ) (b : BindingValue) (paired : IsPaired b) where
  ids_now : (x : ℕ) → map.get (forgotten s b).ids x ≡ cond (s == x) None (map.get b.ids x)
  ids_now x = get-remove b.ids s x

  still : (x id : ℕ) → map.get (forgotten s b).ids x ≡ Some id → (map.get b.ids x ≡ Some id) × ¬ (s ≡ x)
  still x id e =
      ⊎_elim
      (λ same. absurd (no_id (sym (if_same s x None (map.get b.ids x) same) ∙ sym (ids_now x) ∙ e)))
      (λ other. (sym (if_other s x None (map.get b.ids x) other) ∙ sym (ids_now x) ∙ e, other))
      (cases_eq s x)

  gone_from : (gone x id : ℕ) → map.get (map.remove b.serials gone) id ≡ Some x → (map.get b.serials id ≡ Some x) × ¬ (gone ≡ id)
  gone_from gone x id e =
      ⊎_elim
      (λ same. absurd (no_id (sym (if_same gone id None (map.get b.serials id) same) ∙ sym (get-remove b.serials gone id) ∙ e)))
      (λ other. (sym (if_other gone id None (map.get b.serials id) other) ∙ sym (get-remove b.serials gone id) ∙ e, other))
      (cases_eq gone id)

  there_after : (old : Option ℕ) → map.get b.ids s ≡ old → (id x : ℕ) → map.get (ids_without old b.serials) id ≡ Some x
      → map.get (map.remove b.ids s) x ≡ Some id
  there_after None was id x e =
      let had : map.get b.ids x ≡ Some id = paired.there id x e in
      get-remove b.ids s x ∙ if_other s x None (map.get b.ids x) (λ is. no_id (sym was ∙ ap (map.get b.ids) is ∙ had)) ∙ had
  there_after (Some gone) was id x e =
      let left = gone_from gone x id e in
      let had : map.get b.ids x ≡ Some id = paired.there id x left.0 in
      get-remove b.ids s x ∙ if_other s x None (map.get b.ids x)
      (λ is. left.1 (some_is gone id (sym was ∙ ap (map.get b.ids) is ∙ had))) ∙ had

  back_after : (old : Option ℕ) → map.get b.ids s ≡ old → (id x : ℕ) → map.get (map.remove b.ids s) x ≡ Some id
      → map.get (ids_without old b.serials) id ≡ Some x
  back_after None was id x e = paired.back id x (still x id e).0
  back_after (Some gone) was id x e =
      let left = still x id e in
      let had : map.get b.serials id ≡ Some x = paired.back id x left.0 in
      get-remove b.serials gone id ∙ if_other gone id None (map.get b.serials id)
      (λ is. left.1 (some_is s x (sym (paired.back gone s was) ∙ ap (map.get b.serials) is ∙ had))) ∙ had

  pub IsPaired-forgotten : IsPaired (forgotten s b)
  IsPaired-forgotten = record {
    there = there_after (map.get b.ids s) refl;
    back = back_after (map.get b.ids s) refl;
    below = λ id x e. paired.below id x (still x id e).0;
  }

-- ---- all nodes of some trees

pub IsPaired-all_forgotten : (n : Nodes PageRow) (b : BindingValue) → IsPaired b → IsPaired (all_forgotten n b)
IsPaired-all_forgotten none b paired = paired
IsPaired-all_forgotten (node r c t) b paired =
    IsPaired-all_forgotten t _ (IsPaired-all_forgotten c _ (IsPaired-forgotten r.serial b paired))

gone_joined : {A : Type 0} (x y z : Bool) (o : Option A) → cond z None (cond y None (cond x None o)) ≡ cond ((x || y) || z) None o
gone_joined true true true o = refl
gone_joined true true false o = refl
gone_joined true false true o = refl
gone_joined true false false o = refl
gone_joined false true true o = refl
gone_joined false true false o = refl
gone_joined false false true o = refl
gone_joined false false false o = refl

pub forgotten-ids : (n : Nodes PageRow) (b : BindingValue) (s : ℕ)
    → map.get (all_forgotten n b).ids s ≡ cond (has row_serial s n) None (map.get b.ids s)
forgotten-ids none b s = refl
forgotten-ids (node r c t) b s =
    forgotten-ids t _ s
    ∙ ap (cond (has row_serial s t) None)
    (forgotten-ids c (forgotten r.serial b) s ∙ ap (cond (has row_serial s c) None) (get-remove b.ids r.serial s))
    ∙ gone_joined (r.serial == s) (has row_serial s c) (has row_serial s t) (map.get b.ids s)

out_joined : (x y z o : Bool) → (not z && (not y && (not x && o))) ≡ (not ((x || y) || z) && o)
out_joined true true true o = refl
out_joined true true false o = refl
out_joined true false true o = refl
out_joined true false false o = refl
out_joined false true true o = refl
out_joined false true false o = refl
out_joined false false true o = refl
out_joined false false false o = refl

pub forgotten-opened : (n : Nodes PageRow) (b : BindingValue) (s : ℕ)
    → set.contains (all_forgotten n b).opened s ≡ (not (has row_serial s n) && set.contains b.opened s)
forgotten-opened none b s = refl
forgotten-opened (node r c t) b s =
    forgotten-opened t _ s
    ∙ ap (λ v. not (has row_serial s t) && v)
    (forgotten-opened c (forgotten r.serial b) s ∙ ap (λ v. not (has row_serial s c) && v) (contains-remove b.opened r.serial s))
    ∙ out_joined (r.serial == s) (has row_serial s c) (has row_serial s t) (set.contains b.opened s)

pub forgotten-next : (n : Nodes PageRow) (b : BindingValue) → (all_forgotten n b).next ≡ b.next
forgotten-next none b = refl
forgotten-next (node r c t) b = forgotten-next t _ ∙ forgotten-next c (forgotten r.serial b)

-- the mode stays
pub forgotten-mode : (n : Nodes PageRow) (b : BindingValue) → (all_forgotten n b).mode ≡ b.mode
forgotten-mode none b = refl
forgotten-mode (node r c t) b = forgotten-mode t _ ∙ forgotten-mode c (forgotten r.serial b)

and-swap : (a b : Bool) → (not a && b) ≡ (b && not a)
and-swap true true = refl
and-swap true false = refl
and-swap false true = refl
and-swap false false = refl

left_known : (gone : Bool) (old now : ℕ) (i : ℕ) → now ≡ cond {A = ℕ} gone 0 old
    → cond gone None (cond (not (old == 0)) (Some i) None) ≡ cond (not (now == 0)) (Some i) None
left_known true old now i e = sym (ap (λ m. cond (not (m == 0)) (Some i) None) e)
left_known false old now i e = sym (ap (λ m. cond (not (m == 0)) (Some i) None) e)

-- the tree x is gone from the page n, which is m now
pub Stands-detached : (n m : Nodes PageRow) (x : Branch PageRow) (o : ℕ → Bool) (pushed : List ℕ) (since : ℕ) (b : BindingValue)
    → ((s : ℕ) → times s (known (opened_without x o) m) ≡ cond {A = ℕ} (has row_serial s (alone x)) 0 (times s (known o n)))
    → IsSession n (record { opened = Some o; pushed = pushed; since = since })
    → Stands n (record { opened = Some o; pushed = pushed; since = since }) b
    → Stands m (detached x (record { opened = Some o; pushed = pushed; since = since })) (all_forgotten (alone x) b)
Stands-detached n m x o pushed since b less_known session stands =
    let before : Session = record { opened = Some o; pushed = pushed; since = since } in
    let ids : (s : ℕ) → map.get (all_forgotten (alone x) b).ids s ≡ id_at (detached x before) m s =
    λ s. forgotten-ids (alone x) b s ∙ ap (cond (has row_serial s (alone x)) None) (stands.ids_are s) ∙ left_known
    (has row_serial s (alone x)) (times s (known o n)) (times s (known (opened_without x o) m)) (session_ids before s) (less_known s) in
    record {
      opened_is = λ s. forgotten-opened (alone x) b s ∙ ap (λ v. not (has row_serial s (alone x)) && v) (stands.opened_is s) ∙ and-swap
          (has row_serial s (alone x)) (o s);
      ids_are = ids;
      serials_are = serials-paired m (detached x before) (all_forgotten (alone x) b) ids
          (IsPaired-all_forgotten (alone x) b (IsPaired-stands n before session b stands));
      next_is = forgotten-next (alone x) b ∙ stands.next_is;
    }
