-- A known node is opened: the session stays one, few ids are drawn, and the view changes at that node alone.
use Rattle.std.proofs.Common.{◌≡◌, ℕ, zero, suc, ◌+◌, ◌<◌, ◌≤◌, ◌==◌, Bool, true, false, cond, List, [], ◌++◌, length, length-append, drop}
use Rattle.std.proofs.Common.{Option, refl, sym, ap, subst, ◌∙◌, arith}
use Rattle.std.proofs.lemmas.List.{drop-append-le}
use Rattle.node_tree.specs.Nodes.{Nodes, none, node, Branch, alone, width}
use Rattle.node_tree.specs.Keys.{tally, At, here, within, past}
use Rattle.node_tree.specs.Labels.{holds}
use Rattle.node_tree.specs.Seen.{Seen, Hold, leaf, counted, opened}
use Rattle.page_tree.specs.Pages.{PageRow, row_serial}
use Rattle.node_binding.specs.Counts.{times, last_standing}
use Rattle.node_binding.specs.Cuts.{opens, known, shown_anew, seen_of, cut}
use Rattle.node_binding.specs.Ids.{id_of}
use Rattle.node_binding.specs.Openings.{is_spent, opened_also}
use Rattle.node_binding.specs.Sessions.{IsSession, CanOpen, session_of, grown}
use Rattle.node_binding.proofs.Places.{suc-is_zero, is_in-times, times-is_in, place-none, place-some}
use Rattle.node_binding.proofs.Known.{known-tally}
use Rattle.node_binding.proofs.GrowLemmas.{if_holds, grow_step, times-anew, place-append}
use Rattle.node_binding.proofs.CutLemmas.{cut-same}
use Rattle.node_binding.proofs.OpeningLemmas.{AreDistinct, self_times}
use Rattle.node_binding.proofs.InViewLemmas.{InView, root, child, later, in_view-tally, can_open-in_view, opened-grows, opened-outside}
use Rattle.node_binding.proofs.InViewLemmas.{opened_now, IsOpenedSet-opened}

-- ---- how many become known

length_shown : (b : Bool) (xs : List ℕ) → length (cond b xs []) ≡ cond {A = ℕ} b (length xs) 0
length_shown true xs = refl
length_shown false xs = refl

length_anew : (a b : Bool) (xs ys : List ℕ) → length (cond a xs (cond b ys [])) ≡ cond {A = ℕ} a (length xs) (cond {A = ℕ} b (length ys) 0)
length_anew true b xs ys = refl
length_anew false true xs ys = refl
length_anew false false xs ys = refl

length-known_node : (o : ℕ → Bool) (r : PageRow) (c t : Nodes PageRow)
    → length (known o (node r c t)) ≡ 1 + (cond {A = ℕ} (opens o r) (length (known o c)) 0 + length (known o t))
length-known_node o r c t = omega (arith, length-append (cond (opens o r) (known o c) []) (known o t), length_shown (opens o r) (known o c))

pub length-anew : (o p : ℕ → Bool) → ((s : ℕ) → o s ≡ true → p s ≡ true) → (n : Nodes PageRow)
    → length (known p n) ≡ length (known o n) + length (shown_anew o p n)
length-anew o p grows none = omega arith
length-anew o p grows (node r c t) =
    length-known_node p r c t
    ∙ grow_step (opens o r) (opens p r) 1 _ _ _ _ _ _ (if_holds (holds r.label.kind) (o r.serial) (p r.serial) (grows r.serial))
    (length-anew o p grows c) (length-anew o p grows t)
    ∙ ap (λ m. m + (cond {A = ℕ} (opens o r) (length (shown_anew o p c)) (cond {A = ℕ} (opens p r) (length (known p c)) 0)
    + length (shown_anew o p t))) (sym (length-known_node o r c t))
    ∙ ap (λ m. length (known o (node r c t)) + (m + length (shown_anew o p t)))
    (sym (length_anew (opens o r) (opens p r) (shown_anew o p c) (known p c)))
    ∙ ap (λ m. length (known o (node r c t)) + m)
    (sym (length-append (cond (opens o r) (shown_anew o p c) (cond (opens p r) (known p c) [])) (shown_anew o p t)))

-- ---- the session

pub stand_more : (q a len : ℕ) → (q ≡ 0 → 0 < a) → 0 < cond {A = ℕ} (q == 0) a (len + q)
stand_more zero a len h = h refl
stand_more (suc k) a len h = rw (suc-is_zero k) (omega arith)

pub not_there : (m n q : ℕ) → 0 < m + n → (0 < n → 0 < q) → q ≡ 0 → 0 < m
not_there (suc m) n q h f e = omega arith
not_there zero n q h f e = let g : 0 < q = f (omega arith) in absurd (omega arith)

module _ (d : Option ℕ) (n : Nodes PageRow) (x : Branch PageRow) (o : ℕ → Bool) (pushed : List ℕ) (since : ℕ) (distinct : AreDistinct n)
    (left : is_spent d ≡ false) (can : CanOpen n o x) (session : IsSession n (session_of o pushed since)) where
  abbrev p : ℕ → Bool
  p = opened_also d x o

  abbrev ks : List ℕ
  ks = shown_anew o p n

  grows : (s : ℕ) → o s ≡ true → p s ≡ true
  grows = opened-grows o d x

  pub known_where : InView o x n
  known_where = can_open-in_view o x n distinct can

  distinct_x : AreDistinct (alone x)
  distinct_x s = omega (arith, in_view-tally o x known_where s, distinct s)

  pub open_afterwards : p x.row.serial ≡ true
  open_afterwards = opened_now o d x left can.container distinct_x

  pub IsSession-opened : IsSession n (grown o p n (session_of o pushed since))
  IsSession-opened = record {
    opened_set = IsOpenedSet-opened o d x left can.container distinct_x n distinct can.shut known_where session.opened_set;
    since_then = omega (arith, length-append pushed ks, session.since_then);
    known_stand = λ s h. rw (drop-append-le since pushed ks session.since_then, place-append (drop since pushed) ks s)
        (stand_more (last_standing ks s) (last_standing (drop since pushed) s) (length (drop since pushed))
        (λ e. session.known_stand s (times-is_in (known o n) s
        (not_there (times s (known o n)) (times s ks) (last_standing ks s)
        (omega (arith, times-anew o p grows s n, is_in-times (known p n) s h)) (place-some ks s) e))));
  }

  -- the ids of the nodes that were known stay
  pub ids-stay : (s : ℕ) → 0 < times s (known o n) → id_of pushed since s ≡ id_of (pushed ++ ks) since s
  ids-stay s h =
      ap (λ m. since + m) (old_place (last_standing ks s) (last_standing (drop since pushed) s) (length (drop since pushed))
      (place-none ks s (omega (arith, times-anew o p grows s n, known-tally p s n, distinct s, h)))
      ∙ sym (place-append (drop since pushed) ks s)
      ∙ ap (λ xs. last_standing xs s) (sym (drop-append-le since pushed ks session.since_then)))
    where
      old_place : (q a len : ℕ) → q ≡ 0 → a ≡ cond {A = ℕ} (q == 0) a (len + q)
      old_place q a len e = rw e refl

  pub length-opened : length (pushed ++ ks) + length (known o n) ≡ length pushed + length (known p n)
  length-opened = omega (arith, length-append pushed ks, length-anew o p grows n)

-- ---- the view

module _ (o p : ℕ → Bool) (j : ℕ → ℕ) where
  seen-same : (r : PageRow) (c : Nodes PageRow) → o r.serial ≡ p r.serial → seen_of o j r c ≡ seen_of p j r c
  seen-same r c e =
      λ k. record {
        id = j r.serial;
        serial = r.serial;
        label = r.label;
        hold = cond (holds r.label.kind) (cond (e k) opened (counted (width c))) leaf;
      }

  pub cut-local : (n : Nodes PageRow) → ((s : ℕ) → 0 < tally row_serial s n → o s ≡ p s) → cut o j n ≡ cut p j n
  cut-local none h = refl
  cut-local (node r c t) h =
      let at : o r.serial ≡ p r.serial = h r.serial (omega (arith, self_times r.serial)) in
      ap (λ v. node v (cond (opens o r) (cut o j c) none) (cut o j t)) (seen-same r c at)
      ∙ ap (λ b. node (seen_of p j r c) (cond (cond (holds r.label.kind) b false) (cut o j c) none) (cut o j t)) at
      ∙ ap (λ m. node (seen_of p j r c) (cond (opens p r) m none) (cut o j t)) (cut-local c (λ s k. h s (omega arith)))
      ∙ ap (λ m. node (seen_of p j r c) (cond (opens p r) (cut p j c) none) m) (cut-local t (λ s k. h s (omega arith)))

at-by : {old new : Branch Seen} {depth : ℕ} {u v m w : Nodes Seen} → u ≡ v → m ≡ w → At old new depth v w → At old new depth u m
at-by {old = old} {new = new} {depth = depth} {v = v} {m = m} e f at = subst (λ (y : Nodes Seen). At old new depth y m) (sym e)
    (subst (λ (y : Nodes Seen). At old new depth v y) (sym f) at)

-- a row as it is seen, by its kind and whether it is opened
abbrev seen_as : (h a : Bool) → ℕ → PageRow → ℕ → Seen
seen_as h a id r w = record { id = id; serial = r.serial; label = r.label; hold = cond h (cond a opened (counted w)) leaf }

shut_node : (h a : Bool) (id : ℕ) (r : PageRow) (w : ℕ) (c t : Nodes Seen) → h ≡ true → a ≡ false
    → node (seen_as h a id r w) (cond (cond h a false) c none) t
    ≡ node (record { id = id; serial = r.serial; label = r.label; hold = counted w }) none t
shut_node h a id r w c t e f = rw (e, f) refl

open_node : (h a : Bool) (id : ℕ) (r : PageRow) (w : ℕ) (c t : Nodes Seen) → h ≡ true → a ≡ true
    → node (seen_as h a id r w) (cond (cond h a false) c none) t
    ≡ node (record { id = id; serial = r.serial; label = r.label; hold = opened }) c t
open_node h a id r w c t e f = rw (e, f) refl

module _ (o : ℕ → Bool) (d : Option ℕ) (x : Branch PageRow) (j : ℕ → ℕ) where
  abbrev q : ℕ → Bool
  q = opened_also d x o

  -- the node as it is seen, but for what is below it
  abbrev pub bare_row : Hold → Seen
  bare_row h = record { id = j x.row.serial; serial = x.row.serial; label = x.row.label; hold = h }

  -- it has its children in place of their number
  abbrev pub Changed : ℕ → Nodes Seen → Nodes Seen → Type 0
  Changed depth v w = At (record { row = bare_row (counted (width x.children)); children = none })
      (record { row = bare_row opened; children = cut q j x.children }) depth v w

  module _ (container : holds x.row.label.kind ≡ true) (shut : o x.row.serial ≡ false) (open_after : q x.row.serial ≡ true) where
    pub cut-opened : {n : Nodes PageRow} → AreDistinct n → InView o x n → (depth : ℕ) × Changed depth (cut o j n) (cut q j n)
    cut-opened distinct (root t) =
        let rest : cut o j t ≡ cut q j t = cut-local o q j t (λ s h. opened-outside o d x s (omega (arith, distinct s))) in (
          0,
          at-by
              (shut_node (holds x.row.label.kind) (o x.row.serial) (j x.row.serial) x.row (width x.children) (cut o j x.children)
              (cut o j t) container shut
              ∙ ap (node (bare_row (counted (width x.children))) none) rest)
              (open_node (holds x.row.label.kind) (q x.row.serial) (j x.row.serial) x.row (width x.children) (cut q j x.children)
              (cut q j t) container open_after)
              (here (cut q j t)),
        )
    cut-opened distinct (child r c t e v) =
        let there : (s : ℕ) → tally row_serial s (alone x) ≤ tally row_serial s c = in_view-tally o x v in
        let rest : cut o j t ≡ cut q j t = cut-local o q j t (λ s h. opened-outside o d x s (omega (arith, distinct s, there s))) in
        let row : o r.serial ≡ q r.serial = opened-outside o d x r.serial
        (omega (arith, distinct r.serial, there r.serial, self_times r.serial)) in
        let inner = cut-opened (λ s. omega (arith, distinct s)) v in
        let open_row : opens q r ≡ true = ap (λ b. cond (holds r.label.kind) b false) (sym row) ∙ e in (
          suc inner.0,
          at-by
              (ap (λ b. node (seen_of o j r c) (cond b (cut o j c) none) (cut o j t)) e
              ∙ ap (λ (y : Seen). node y (cut o j c) (cut o j t)) (seen-same o q j r c row)
              ∙ ap (node (seen_of q j r c) (cut o j c)) rest)
              (ap (λ b. node (seen_of q j r c) (cond b (cut q j c) none) (cut q j t)) open_row)
              (within inner.0 (seen_of q j r c) (cut o j c) (cut q j c) (cut q j t) inner.1),
        )
    cut-opened distinct (later r c t v) =
        let there : (s : ℕ) → tally row_serial s (alone x) ≤ tally row_serial s t = in_view-tally o x v in
        let row : o r.serial ≡ q r.serial = opened-outside o d x r.serial
        (omega (arith, distinct r.serial, there r.serial, self_times r.serial)) in
        let below : cut o j c ≡ cut q j c = cut-local o q j c (λ s h. opened-outside o d x s (omega (arith, distinct s, there s))) in
        let inner = cut-opened (λ s. omega (arith, distinct s)) v in
        let kids = cond (opens q r) (cut q j c) none in (
          inner.0,
          at-by
              (ap (λ (y : Seen). node y (cond (opens o r) (cut o j c) none) (cut o j t)) (seen-same o q j r c row)
              ∙ ap (λ b. node (seen_of q j r c) (cond (cond (holds r.label.kind) b false) (cut o j c) none) (cut o j t)) row
              ∙ ap (λ m. node (seen_of q j r c) (cond (opens q r) m none) (cut o j t)) below)
              refl
              (past inner.0 (seen_of q j r c) kids (cut o j t) (cut q j t) inner.1),
        )

-- the views before and after
pub view-opened : (d : Option ℕ) (n : Nodes PageRow) (x : Branch PageRow) (o : ℕ → Bool) (pushed : List ℕ) (since : ℕ) → AreDistinct n
    → is_spent d ≡ false → CanOpen n o x → IsSession n (session_of o pushed since)
    → (depth : ℕ) × Changed o d x (id_of (pushed ++ shown_anew o (opened_also d x o) n) since) depth (cut o (id_of pushed since) n)
    (cut (opened_also d x o) (id_of (pushed ++ shown_anew o (opened_also d x o) n) since) n)
view-opened d n x o pushed since distinct left can session =
    let j : ℕ → ℕ = id_of (pushed ++ shown_anew o (opened_also d x o) n) since in
    let at = cut-opened o d x j can.container can.shut (open_afterwards d n x o pushed since distinct left can session) distinct
    (known_where d n x o pushed since distinct left can session) in
    (at.0, at-by (cut-same o o (id_of pushed since) j (λ s. refl) n (ids-stay d n x o pushed since distinct left can session)) refl at.1)
