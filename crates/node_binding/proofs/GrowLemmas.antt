-- A binding goes on to stand for its session as more becomes known.
use Rattle.std.proofs.Common.{◌≡◌, ℕ, zero, suc, ◌+◌, ◌<◌, ◌≤◌, ◌==◌, Bool, true, false, cond, not, ◌||◌, List, [], ◌∷◌, ◌++◌, length}
use Rattle.std.proofs.Common.{length-append, length-drop, drop, Option, Some, None, refl, sym, ap, ◌∙◌, arith}
use Rattle.std.proofs.lemmas.Bool.Decides.{nat_tests}
use Rattle.std.proofs.lemmas.List.{drop-append-le}
use Rattle.std.specs.FinSet as set
use Rattle.std.specs.FinMap as map
use Rattle.node_tree.specs.Nodes.{Nodes, none, node}
use Rattle.page_tree.specs.Pages.{PageRow}
use Rattle.node_binding.specs.Counts.{times, stands_in, last_standing}
use Rattle.node_binding.specs.Cuts.{opens, known, shown_anew}
use Rattle.node_binding.specs.Sessions.{Session, IsSession, id_at}
use Rattle.node_binding.specs.Bindings.{BindingValue, all_bound, all_opened, Stands}
use Rattle.node_binding.proofs.Places.{suc-is_zero, times-append, times-is_in, place-none, place-some}
use Rattle.node_binding.proofs.BoundLemmas.{opened-ids, opened-next, opened-opened, bound-opened, bound-next, bound-ids}
use Rattle.node_binding.proofs.SessionLemmas.{times-known}
use Rattle.node_binding.proofs.PairLemmas.{IsPaired, IsPaired-stands, IsPaired-all_bound, IsPaired-all_opened, serials-paired}

-- ---- what becomes known

times-anew_part : (a b : Bool) (s : ℕ) (xs ys : List ℕ)
    → times s (cond a xs (cond b ys [])) ≡ cond {A = ℕ} a (times s xs) (cond {A = ℕ} b (times s ys) 0)
times-anew_part true b s xs ys = refl
times-anew_part false true s xs ys = refl
times-anew_part false false s xs ys = refl

pub grow_step : (a b : Bool) (here kp ko an tp to at : ℕ) → (a ≡ true → b ≡ true) → kp ≡ ko + an → tp ≡ to + at
    → here + (cond {A = ℕ} b kp 0 + tp) ≡ here + (cond {A = ℕ} a ko 0 + to) + (cond {A = ℕ} a an (cond {A = ℕ} b kp 0) + at)
grow_step true true here kp ko an tp to at grows e f = omega arith
grow_step true false here kp ko an tp to at grows e f = cc (grows refl)
grow_step false true here kp ko an tp to at grows e f = omega arith
grow_step false false here kp ko an tp to at grows e f = omega arith

pub if_holds : (h a b : Bool) → (a ≡ true → b ≡ true) → cond h a false ≡ true → cond h b false ≡ true
if_holds true a b grows e = grows e
if_holds false a b grows e = e

module _ (o p : ℕ → Bool) (grows : (s : ℕ) → o s ≡ true → p s ≡ true) where
  -- what is known is what was known and what becomes known
  pub times-anew : (s : ℕ) (n : Nodes PageRow) → times s (known p n) ≡ times s (known o n) + times s (shown_anew o p n)
  times-anew s none = omega arith
  times-anew s (node r c t) =
      times-known p (λ x. x) s r c t
      ∙ grow_step (opens o r) (opens p r) _ _ _ _ _ _ _ (if_holds _ (o r.serial) (p r.serial) (grows r.serial)) (times-anew s c)
      (times-anew s t)
      ∙ ap (λ m. m + (cond {A = ℕ} (opens o r) (times s (shown_anew o p c)) (cond {A = ℕ} (opens p r) (times s (known p c)) 0)
      + times s (shown_anew o p t))) (sym (times-known o (λ x. x) s r c t))
      ∙ ap (λ m. times s (known o (node r c t)) + (m + times s (shown_anew o p t)))
      (sym (times-anew_part (opens o r) (opens p r) s (shown_anew o p c) (known p c)))
      ∙ ap (λ m. times s (known o (node r c t)) + m)
      (sym (times-append s (cond (opens o r) (shown_anew o p c) (cond (opens p r) (known p c) [])) (shown_anew o p t)))

-- ---- places in a longer list

place_first : (q : ℕ) → q ≡ cond {A = ℕ} (q == 0) 0 (0 + q)
place_first zero = refl
place_first (suc k) = rw (suc-is_zero k) (omega arith)

place_step : (q both px len : ℕ) (t : Bool) → both ≡ cond {A = ℕ} (q == 0) px (len + q)
    → cond {A = ℕ} (both == 0) (cond {A = ℕ} t 1 0) (suc both)
    ≡ cond {A = ℕ} (q == 0) (cond {A = ℕ} (px == 0) (cond {A = ℕ} t 1 0) (suc px)) (suc len + q)
place_step zero both px len t e = ap (λ m. cond {A = ℕ} (m == 0) (cond {A = ℕ} t 1 0) (suc m)) e
place_step (suc k) both px len t e =
    let long : both ≡ len + suc k = e ∙ ap (λ b. cond {A = ℕ} b px (len + suc k)) (suc-is_zero k) in
    let there : (both == 0) ≡ false = grind (arith, nat_tests) in
    ap (λ b. cond {A = ℕ} b (cond {A = ℕ} t 1 0) (suc both)) there
    ∙ omega arith
    ∙ sym (ap (λ b. cond {A = ℕ} b (cond {A = ℕ} (px == 0) (cond {A = ℕ} t 1 0) (suc px)) (suc len + suc k)) (suc-is_zero k))

pub place-append : (xs ys : List ℕ) (s : ℕ)
    → last_standing (xs ++ ys) s ≡ cond {A = ℕ} (last_standing ys s == 0) (last_standing xs s) (length xs + last_standing ys s)
place-append [] ys s = place_first (last_standing ys s)
place-append (x ∷ xs) ys s = place_step (last_standing ys s) (last_standing (xs ++ ys) s) (last_standing xs s) (length xs) (x == s)
    (place-append xs ys s)

-- ---- ids

ids_old : (q : ℕ) (was old : Option ℕ) (k px len since : ℕ) (known_now : Bool) → q ≡ 0 → was ≡ cond known_now (Some (since + px)) None
    → cond (q == 0) was (Some (k + q)) ≡ cond known_now (Some (since + cond {A = ℕ} (q == 0) px (len + q))) None
ids_old q was old k px len since known_now nowhere is = rw nowhere is

ids_new : (q : ℕ) (was : Option ℕ) (k px len since : ℕ) (known_now : Bool) → 0 < q → known_now ≡ true → k ≡ since + len
    → cond (q == 0) was (Some (k + q)) ≡ cond known_now (Some (since + cond {A = ℕ} (q == 0) px (len + q))) None
ids_new zero was k px len since known_now some is at = absurd (omega arith)
ids_new (suc j) was k px len since known_now some is at = rw (is, suc-is_zero j) (ap Some (omega arith))

or-swap : (a b : Bool) → (a || b) ≡ (b || a)
or-swap true true = refl
or-swap true false = refl
or-swap false true = refl
or-swap false false = refl

-- the session with the opened set o becomes one of the page m with the opened set p, in which the nodes ks are known too
module _ (n m : Nodes PageRow) (o p : ℕ → Bool) (pushed : List ℕ) (since : ℕ) (os ks : List ℕ)
    (more : (s : ℕ) → times s (known p m) ≡ times s (known o n) + times s ks) (distinct : (s : ℕ) → times s (known p m) ≤ 1)
    (opened_more : (s : ℕ) → p s ≡ (o s || stands_in s os)) where
  abbrev before : Session
  before = record { opened = Some o; pushed = pushed; since = since }

  abbrev after : Session
  after = record { opened = Some p; pushed = pushed ++ ks; since = since }

  module _ (b : BindingValue) (session : IsSession n before) (stands : Stands n before b) where
    now : drop since (pushed ++ ks) ≡ drop since pushed ++ ks
    now = drop-append-le since pushed ks session.since_then

    ids_after : (s : ℕ) → map.get (all_bound ks (all_opened os b)).ids s ≡ id_at after m s
    ids_after s =
        bound-ids ks (all_opened os b) (length pushed) (opened-next os b ∙ stands.next_is) s
        ∙ ap (λ was. cond (last_standing ks s == 0) was (Some (length pushed + last_standing ks s)))
        (ap (λ t. map.get t s) (opened-ids os b))
        ∙ (elim (times s ks) as (λ t. times s ks ≡ t
        → cond (last_standing ks s == 0) (map.get b.ids s) (Some (length pushed + last_standing ks s))
        ≡ cond (stands_in s (known p m))
        (Some (since + cond {A = ℕ} (last_standing ks s == 0) (last_standing (drop since pushed) s)
        (length (drop since pushed) + last_standing ks s))) None) [
          | zero ↦ λ e. ids_old (last_standing ks s) (map.get b.ids s) None (length pushed) (last_standing (drop since pushed) s)
              (length (drop since pushed)) since (stands_in s (known p m)) (place-none ks s e)
              (stands.ids_are s ∙ ap (λ c. cond (not (c == 0)) (Some (since + last_standing (drop since pushed) s)) None)
              (let same : times s (known o n) ≡ times s (known p m) = omega (arith, more s) in same))
          | suc j ↦ λ e. ids_new (last_standing ks s) (map.get b.ids s) (length pushed) (last_standing (drop since pushed) s)
              (length (drop since pushed)) since (stands_in s (known p m)) (place-some ks s (omega arith))
              (times-is_in (known p m) s (omega (arith, more s))) (omega (arith, length-drop since pushed, session.since_then))
        ] refl)
        ∙ ap (λ q. cond (stands_in s (known p m)) (Some (since + q)) None) (sym (place-append (drop since pushed) ks s))
        ∙ ap (λ xs. cond (stands_in s (known p m)) (Some (since + last_standing xs s)) None) (sym now)

    fresh : (s : ℕ) → 0 < times s ks → map.get (all_opened os b).ids s ≡ None
    fresh s h =
        ap (λ t. map.get t s) (opened-ids os b)
        ∙ stands.ids_are s
        ∙ ap (λ c. cond (not (c == 0)) (Some (since + last_standing (drop since pushed) s)) None)
        (let gone : times s (known o n) ≡ 0 = omega (arith, more s, distinct s) in gone)

    pub Stands-more : Stands m after (all_bound ks (all_opened os b))
    Stands-more =
        let paired : IsPaired (all_bound ks (all_opened os b)) =
        IsPaired-all_bound ks (all_opened os b) (IsPaired-all_opened os b (IsPaired-stands n before session b stands))
        (λ s. omega (arith, more s, distinct s)) fresh in
        record {
          opened_is = λ s. ap (λ t. set.contains t s) (bound-opened ks (all_opened os b)) ∙ opened-opened os b s ∙ ap
              (λ v. stands_in s os || v) (stands.opened_is s) ∙ or-swap (stands_in s os) (o s) ∙ sym (opened_more s);
          ids_are = ids_after;
          serials_are = serials-paired m after (all_bound ks (all_opened os b)) ids_after paired;
          next_is = bound-next ks (all_opened os b) ∙ omega (arith, opened-next os b, stands.next_is, length-append pushed ks);
        }
