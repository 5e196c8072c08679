-- The ids and the serials of a binding are paired.
use Rattle.std.proofs.Common.{◌≡◌, ℕ, ◌+◌, ◌<◌, ◌≤◌, ◌==◌, Bool, true, false, cond, List, [], ◌∷◌, length, length-drop, drop, find, Option}
use Rattle.std.proofs.Common.{Some, None, unwrap_or, refl, sym, ap, subst, ◌∙◌, arith}
use Rattle.std.proofs.lemmas.Bool.{cases_eq}
use Rattle.std.proofs.Math.Logic.{⊎_elim}
use Rattle.std.proofs.lemmas.Bool.Decides.{nat_tests}
use Rattle.std.specs.FinMap as map
use Rattle.node_tree.specs.Nodes.{Nodes}
use Rattle.page_tree.specs.Pages.{PageRow}
use Rattle.node_binding.specs.Counts.{times, last_standing}
use Rattle.node_binding.specs.Sessions.{Session, IsSession, known_by, session_ids, id_at, serial_at, knows}
use Rattle.node_binding.specs.Bindings.{BindingValue, with_bound, all_bound, with_opened, all_opened, Stands}
use Rattle.node_binding.proofs.Places.{is_in-times, times-is_in, place-le, first, once}
use Rattle.node_binding.proofs.SessionLemmas.{standing, standing-place}
use Rattle.node_binding.proofs.BoundLemmas.{get-insert}

-- ---- a search of which at most one is found

pub find-there : (q : ℕ → Bool) (xs : List ℕ) (s : ℕ) → find q xs ≡ Some s → (0 < times s xs) × (q s ≡ true)
find-there q [] s e = cc
find-there q (x ∷ xs) s e =
    elim (q x) as (λ b. q x ≡ b → cond b (Some x) (find q xs) ≡ Some s → (0 < times s (x ∷ xs)) × (q s ≡ true)) [
      | true ↦ λ t e. (let is : x ≡ s = cc in
          (let at : 0 < cond {A = ℕ} (x == s) 1 0 = grind (arith, nat_tests) in omega arith, ap q (sym is) ∙ t))
      | false ↦ λ _ e. (omega (arith, (find-there q xs s e).0), (find-there q xs s e).1)
    ] refl e

pub find-some : (q : ℕ → Bool) (xs : List ℕ) (s : ℕ) → 0 < times s xs → q s ≡ true → (x : ℕ) × (find q xs ≡ Some x)
find-some q [] s h t = absurd (omega arith)
find-some q (x ∷ xs) s h t =
    elim (q x) as (λ b. q x ≡ b → (y : ℕ) × (cond b (Some x) (find q xs) ≡ Some y)) [
      | true ↦ λ _. (x, refl)
      | false ↦ λ f. find-some q xs s (later (x == s) refl f) t
    ] refl
  where
    later : (b : Bool) → (x == s) ≡ b → q x ≡ false → 0 < times s xs
    later true e f = (let is : x ≡ s = grind (arith, nat_tests) in let bad : true ≡ false = sym t ∙ ap q (sym is) ∙ f in cc)
    later false e f = (let none_here : cond {A = ℕ} (x == s) 1 0 ≡ 0 = ap (λ b. cond {A = ℕ} b 1 0) e in omega (arith, h))

-- an answer that is in the list and passes, and is each that does, is what the search finds
pub find-is : (q : ℕ → Bool) (xs : List ℕ) (r : Option ℕ) → ((s : ℕ) → r ≡ Some s → (0 < times s xs) × (q s ≡ true))
    → ((s : ℕ) → 0 < times s xs → q s ≡ true → r ≡ Some s) → r ≡ find q xs
find-is q xs r sound complete =
    elim (find q xs) as (λ f. find q xs ≡ f → r ≡ f) [
      | Some s ↦ λ e. complete s (find-there q xs s e).0 (find-there q xs s e).1
      | None ↦ λ e. elim r as (λ r. ((s : ℕ) → r ≡ Some s → (0 < times s xs) × (q s ≡ true)) → r ≡ None) [
        | None ↦ λ _. refl
        | Some s ↦ λ sound. (let found = find-some q xs s (sound s refl).0 (sound s refl).1 in cc (found.1, e))
      ] sound
    ] refl

-- ---- pairs

-- each id in the table of ids leads back, and the other way round; ids are below the next one
pub record IsPaired (b : BindingValue) : Type 0 where
  pub there : (id s : ℕ) → map.get b.serials id ≡ Some s → map.get b.ids s ≡ Some id
  pub back : (id s : ℕ) → map.get b.ids s ≡ Some id → map.get b.serials id ≡ Some s
  pub below : (id s : ℕ) → map.get b.ids s ≡ Some id → id < b.next

known_id : (b : Bool) (x id : ℕ) → cond b (Some x) None ≡ Some id → (b ≡ true) × (x ≡ id)
known_id true x id e = (refl, cc)
known_id false x id e = cc

is_known : {A : Type 0} (b : Bool) (x : A) → b ≡ true → cond b (Some x) None ≡ Some x
is_known true x e = refl
is_known false x e = cc

same_number : (a b : ℕ) → (a == b) ≡ true → a ≡ b
same_number a b e = grind (arith, nat_tests)

equal_number : (a b : ℕ) → a ≡ b → (a == b) ≡ true
equal_number a b e = grind (arith, nat_tests)

module _ (n : Nodes PageRow) (w : Session) (session : IsSession n w) where
  -- the id of a known node leads back to it
  same_id : (s x : ℕ) → knows w n s ≡ true → knows w n x ≡ true → session_ids w s ≡ session_ids w x → s ≡ x
  same_id s x s_known x_known e =
      let places : last_standing (drop w.since w.pushed) s ≡ last_standing (drop w.since w.pushed) x = omega arith in
      sym (standing-place (drop w.since w.pushed) s (session.known_stand s s_known)) ∙ ap
      (standing (drop w.since w.pushed)) places ∙ standing-place (drop w.since w.pushed) x (session.known_stand x x_known)

  id_bound : (s : ℕ) → session_ids w s < length w.pushed + 1
  id_bound s = omega (arith, session.since_then, place-le (drop w.since w.pushed) s, length-drop w.since w.pushed)

  pub IsPaired-stands : (b : BindingValue) → Stands n w b → IsPaired b
  IsPaired-stands b stands = record {
    there = λ id s e. (let found = find-there (λ x. session_ids w x == id) (known_by w.opened n) s (sym (stands.serials_are id) ∙ e) in
        stands.ids_are s ∙ is_known (knows w n s) (session_ids w s) (times-is_in (known_by w.opened n) s found.0) ∙ ap Some
        (same_number (session_ids w s) id found.1));
    back = λ id s e. (let at = known_id (knows w n s) (session_ids w s) id (sym (stands.ids_are s) ∙ e) in
        let found = find-some (λ x. session_ids w x == id) (known_by w.opened n) s (is_in-times (known_by w.opened n) s at.0)
        (equal_number (session_ids w s) id at.1) in
        let x = find-there (λ x. session_ids w x == id) (known_by w.opened n) found.0 found.1 in
        stands.serials_are id ∙ found.1 ∙ ap Some
        (same_id found.0 s (times-is_in (known_by w.opened n) found.0 x.0) at.0
        (same_number (session_ids w found.0) id x.1 ∙ sym at.1)));
    below = λ id s e. (let at = known_id (knows w n s) (session_ids w s) id (sym (stands.ids_are s) ∙ e) in omega
        (arith, stands.next_is, id_bound s, at.1));
  }

-- pairs that have the session's ids have its serials
pub serials-paired : (n : Nodes PageRow) (w : Session) (b : BindingValue) → ((s : ℕ) → map.get b.ids s ≡ id_at w n s) → IsPaired b
    → (id : ℕ) → map.get b.serials id ≡ serial_at w n id
serials-paired n w b ids_are paired id =
    find-is (λ x. session_ids w x == id) (known_by w.opened n) (map.get b.serials id)
    (λ s e. (let at = known_id (knows w n s) (session_ids w s) id (sym (ids_are s) ∙ paired.there id s e) in
    (is_in-times (known_by w.opened n) s at.0, equal_number (session_ids w s) id at.1)))
    (λ s h t. paired.back id s (ids_are s ∙ is_known (knows w n s) (session_ids w s) (times-is_in (known_by w.opened n) s h) ∙ ap Some
    (same_number (session_ids w s) id t)))

-- ---- what keeps pairs

pub some_is : {A : Type 0} (x y : A) → Some x ≡ Some y → x ≡ y
some_is x y e = ap (λ o. unwrap_or o x) e

pub no_id : {id : ℕ} → ¬ (None ≡ Some id)
no_id e = cc

pub if_same : {A : Type 0} (a b : ℕ) (x y : A) → a ≡ b → cond (a == b) x y ≡ x
if_same a b x y e = ap (λ t. cond t x y) (equal_number a b e)

pub if_other : {A : Type 0} (a b : ℕ) (x y : A) → ¬ (a ≡ b) → cond (a == b) x y ≡ y
if_other a b x y ne = ap (λ t. cond t x y) (let e : (a == b) ≡ false = grind (arith, nat_tests) in e)

module _ (b : BindingValue) (s : ℕ) (paired : IsPaired b) (fresh : map.get b.ids s ≡ None) where
  pub IsPaired-with_bound : IsPaired (with_bound s b)
  IsPaired-with_bound = record {
    there = λ id x e. (⊎_elim
        (λ same. (let is : s ≡ x = some_is s x
        (sym (if_same b.next id (Some s) (map.get b.serials id) same) ∙ sym (get-insert b.serials b.next s id) ∙ e) in
        get-insert b.ids s b.next x ∙ if_same s x (Some b.next) (map.get b.ids x) is ∙ ap Some same))
        (λ other. (let was : map.get b.serials id
        ≡ Some x = sym (if_other b.next id (Some s) (map.get b.serials id) other) ∙ sym (get-insert b.serials b.next s id) ∙ e in
        let had : map.get b.ids x ≡ Some id = paired.there id x was in
        get-insert b.ids s b.next x ∙ if_other s x (Some b.next) (map.get b.ids x)
        (λ is. no_id (sym fresh ∙ ap (map.get b.ids) is ∙ had)) ∙ had))
        (cases_eq b.next id));
    back = λ id x e. (⊎_elim
        (λ same. (let is : b.next ≡ id = some_is b.next id
        (sym (if_same s x (Some b.next) (map.get b.ids x) same) ∙ sym (get-insert b.ids s b.next x) ∙ e) in
        get-insert b.serials b.next s id ∙ if_same b.next id (Some s) (map.get b.serials id) is ∙ ap Some same))
        (λ other. (let had : map.get b.ids x
        ≡ Some id = sym (if_other s x (Some b.next) (map.get b.ids x) other) ∙ sym (get-insert b.ids s b.next x) ∙ e in
        get-insert b.serials b.next s id ∙ if_other b.next id (Some s) (map.get b.serials id)
        (λ is. let small : id < b.next = paired.below id x had in absurd (omega arith)) ∙ paired.back id x had))
        (cases_eq s x));
    below = λ id x e. (⊎_elim
        (λ same. (let is : b.next ≡ id = some_is b.next id
        (sym (if_same s x (Some b.next) (map.get b.ids x) same) ∙ sym (get-insert b.ids s b.next x) ∙ e) in omega arith))
        (λ other. (let small : id < b.next = paired.below id x
        (sym (if_other s x (Some b.next) (map.get b.ids x) other) ∙ sym (get-insert b.ids s b.next x) ∙ e) in omega arith))
        (cases_eq s x));
  }

pub IsPaired-all_bound : (ss : List ℕ) (b : BindingValue) → IsPaired b → ((s : ℕ) → times s ss ≤ 1)
    → ((s : ℕ) → 0 < times s ss → map.get b.ids s ≡ None) → IsPaired (all_bound ss b)
IsPaired-all_bound [] b paired distinct fresh = paired
IsPaired-all_bound (x ∷ xs) b paired distinct fresh =
    IsPaired-all_bound xs (with_bound x b) (IsPaired-with_bound b x paired (fresh x (first x xs))) (λ s. omega (arith, distinct s))
    (λ s h. get-insert b.ids x b.next s ∙ if_other x s (Some b.next) (map.get b.ids s)
    (λ is. let more : 0 < times x xs = ap_times is h in absurd (omega (arith, once x xs (distinct x)))) ∙ fresh s (omega arith))
  where
    ap_times : {s : ℕ} → x ≡ s → 0 < times s xs → 0 < times x xs
    ap_times e h = subst (λ (y : ℕ). 0 < times y xs) (sym e) h

pub IsPaired-all_opened : (os : List ℕ) (b : BindingValue) → IsPaired b → IsPaired (all_opened os b)
IsPaired-all_opened [] b paired = paired
IsPaired-all_opened (s ∷ ss) b paired = IsPaired-all_opened ss (with_opened s b)
    (record { there = paired.there; back = paired.back; below = paired.below })
