-- What is shown by the tables of a binding is what the session shows.
use Rattle.std.proofs.Common.{◌≡◌, ℕ, ◌+◌, ◌<◌, ◌==◌, Bool, true, false, cond, List, Some, None, unwrap_or, refl, ap, ◌∙◌, arith}
use Rattle.std.proofs.lemmas.Bool.Decides.{nat_tests}
use Rattle.node_tree.specs.Nodes.{Nodes, none, node, width}
use Rattle.node_tree.specs.Labels.{holds}
use Rattle.node_tree.specs.Seen.{Seen, leaf, counted, opened}
use Rattle.page_tree.specs.Pages.{PageRow}
use Rattle.node_binding.specs.Counts.{times}
use Rattle.node_binding.specs.Cuts.{opens, known, seen_of, cut}
use Rattle.node_binding.specs.Sessions.{session_ids}
use Rattle.node_binding.specs.Bindings.{BindingValue, opened_in, id_in, Stands}
use Rattle.node_binding.proofs.Places.{times-is_in}
use Rattle.node_binding.proofs.SessionLemmas.{times-known, known_below}

-- ---- a cut by other tests and ids that answer alike

module _ (o p : ℕ → Bool) (i j : ℕ → ℕ) (same : (s : ℕ) → o s ≡ p s) where
  pub opens-same : (r : PageRow) → opens o r ≡ opens p r
  opens-same r = ap (λ b. cond (holds r.label.kind) b false) (same r.serial)

  pub seen_of-same : (r : PageRow) (c : Nodes PageRow) → i r.serial ≡ j r.serial → seen_of o i r c ≡ seen_of p j r c
  seen_of-same r c e =
      λ k. record {
        id = e k;
        serial = r.serial;
        label = r.label;
        hold = cond (holds r.label.kind) (cond (same r.serial k) opened (counted (width c))) leaf;
      }

  part : (b : Bool) (m n : Nodes Seen) → (b ≡ true → m ≡ n) → cond b m none ≡ cond b n none
  part true m n h = h refl
  part false m n h = refl

  self_known : (r : PageRow) (c t : Nodes PageRow) → 0 < times r.serial (known p (node r c t))
  self_known r c t = rw (times-known p j r.serial r c t) (at_root r.serial _)
    where
      at_root : (s m : ℕ) → 0 < cond {A = ℕ} (s == s) 1 0 + m
      at_root s m = grind (arith, nat_tests)

  pub cut-same : (n : Nodes PageRow) → ((s : ℕ) → 0 < times s (known p n) → i s ≡ j s) → cut o i n ≡ cut p j n
  cut-same none h = refl
  cut-same (node r c t) h =
      let rest : cut o i t ≡ cut p j t = cut-same t (λ s k. h s (rw (times-known p j s r c t) (omega arith))) in
      let below : opens p r ≡ true → cut o i c
      ≡ cut p j c = λ e. cut-same c (λ s k. h s (rw (times-known p j s r c t) (known_below p j (opens p r) _ s _ _ e k))) in
      ap (λ x. node x (cond (opens o r) (cut o i c) none) (cut o i t)) (seen_of-same r c (h r.serial (self_known r c t)))
      ∙ ap (λ b. node (seen_of p j r c) (cond b (cut o i c) none) (cut o i t)) (opens-same r)
      ∙ ap (λ m. node (seen_of p j r c) m (cut o i t)) (part (opens p r) _ _ below)
      ∙ ap (node (seen_of p j r c) (cond (opens p r) (cut p j c) none)) rest

-- ---- by the tables

module _ (n : Nodes PageRow) (o : ℕ → Bool) (pushed : List ℕ) (since : ℕ) (b : BindingValue)
    (stands : Stands n (record { opened = Some o; pushed = pushed; since = since }) b) where
  pub ids-stands : (s : ℕ) → 0 < times s (known o n)
      → id_in b s ≡ session_ids (record { opened = Some o; pushed = pushed; since = since }) s
  ids-stands s h =
      ap (λ x. unwrap_or x 0) (stands.ids_are s)
      ∙ ap (λ v. unwrap_or (cond v (Some (session_ids (record { opened = Some o; pushed = pushed; since = since }) s)) None) 0)
      (times-is_in (known o n) s h)

  pub cut-stands : cut (opened_in b) (id_in b) n ≡ cut o (session_ids (record { opened = Some o; pushed = pushed; since = since })) n
  cut-stands = cut-same (opened_in b) o (id_in b) _ stands.opened_is n ids-stands
