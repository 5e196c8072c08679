-- A session stays one, and what it shows is fit to be seen.
use Rattle.std.proofs.Common.{◌≡◌, ℕ, zero, suc, ◌+◌, ◌-◌, ◌<◌, ◌≤◌, ◌==◌, Bool, true, false, cond, List, [], ◌∷◌, ◌++◌, length}
use Rattle.std.proofs.Common.{length-append, drop, Option, Some, None, refl, sym, ap, ◌∙◌, arith}
use Rattle.std.proofs.lemmas.Bool.Decides.{nat_tests}
use Rattle.node_tree.specs.Nodes.{Nodes, none, node, height}
use Rattle.node_tree.specs.Keys.{tally}
use Rattle.node_tree.specs.Labels.{holds}
use Rattle.node_tree.specs.Seen.{Seen, seen_id, seen_serial}
use Rattle.page_tree.specs.Pages.{PageRow, row_serial}
use Rattle.node_binding.specs.Counts.{times, stands_in, last_standing}
use Rattle.node_binding.specs.Cuts.{opens, known, cut}
use Rattle.node_binding.specs.Openings.{is_spent, above}
use Rattle.node_binding.specs.Ids.{id_of}
use Rattle.node_binding.specs.Sessions.{Session, IsSession, begun, reset, document_opened, view}
use Rattle.node_binding.proofs.Places.{suc-is_zero, times-append, is_in-times, times-is_in, place-some}
use Rattle.node_binding.proofs.Known.{known-tally}
use Rattle.node_binding.proofs.StandsLemmas.{drop-length}
use Rattle.node_binding.proofs.OpeningLemmas.{IsOpenedSet-above}

-- ---- sessions

nothing_known : (s : ℕ) → stands_in s [] ≡ true → 0 < 0
nothing_known s h = cc

pub IsSession-begun : (n : Nodes PageRow) → IsSession n begun
IsSession-begun n = record { opened_set = tt; since_then = omega arith; known_stand = λ s h. absurd (omega (arith, nothing_known s h)) }

pub IsSession-reset : (n : Nodes PageRow) (w : Session) → IsSession n (reset w)
IsSession-reset n w = record { opened_set = tt; since_then = omega arith; known_stand = λ s h. absurd (omega (arith, nothing_known s h)) }

pub IsSession-document_opened : (d : Option ℕ) (r : PageRow) (c : Nodes PageRow) (w : Session)
    → ((s : ℕ) → tally row_serial s (node r c none) ≤ 1) → holds r.label.kind ≡ true → is_spent d ≡ false
    → IsSession (node r c none) (document_opened d (node r c none) w)
IsSession-document_opened d r c w distinct holds_it left =
    let n : Nodes PageRow = node r c none in
    let ks : List ℕ = known (above d n) n in
    let now : drop (length w.pushed) (w.pushed ++ ks) ≡ ks = drop-length w.pushed ks in
    record {
      opened_set = IsOpenedSet-above d r c distinct holds_it left;
      since_then = omega (arith, length-append w.pushed ks);
      known_stand = λ s h. rw now (place-some ks s (is_in-times ks s h));
    }

-- ---- what is seen

module _ (o : ℕ → Bool) (i : ℕ → ℕ) where
  shown_tally : (b : Bool) (key : Seen → ℕ) (x : ℕ) (c : Nodes Seen) → tally key x (cond b c none) ≡ cond {A = ℕ} b (tally key x c) 0
  shown_tally true key x c = refl
  shown_tally false key x c = refl

  shown_times : (b : Bool) (x : ℕ) (xs : List ℕ) → times x (cond b xs []) ≡ cond {A = ℕ} b (times x xs) 0
  shown_times true x xs = refl
  shown_times false x xs = refl

  pub times-known : (x : ℕ) (r : PageRow) (c t : Nodes PageRow)
      → times x (known o (node r c t))
      ≡ cond {A = ℕ} (r.serial == x) 1 0 + (cond {A = ℕ} (opens o r) (times x (known o c)) 0 + times x (known o t))
  times-known x r c t = ap (λ n. cond {A = ℕ} (r.serial == x) 1 0 + n)
      (times-append x (cond (opens o r) (known o c) []) (known o t) ∙ ap (λ n. n + times x (known o t))
      (shown_times (opens o r) x (known o c)))

  alike : (b : Bool) (k m n x y : ℕ) → m ≡ n → x ≡ y → k + cond {A = ℕ} b m 0 + x ≡ k + (cond {A = ℕ} b n 0 + y)
  alike true k m n x y e f = omega arith
  alike false k m n x y e f = omega arith

  -- a serial is seen as often as it is known
  pub cut-serials : (x : ℕ) (n : Nodes PageRow) → tally seen_serial x (cut o i n) ≡ times x (known o n)
  cut-serials x none = refl
  cut-serials x (node r c t) =
      ap (λ m. cond {A = ℕ} (r.serial == x) 1 0 + m + tally seen_serial x (cut o i t)) (shown_tally (opens o r) seen_serial x (cut o i c))
      ∙ alike (opens o r) (cond {A = ℕ} (r.serial == x) 1 0) _ _ _ _ (cut-serials x c) (cut-serials x t)
      ∙ sym (times-known x r c t)

  at_most : (b : Bool) (k l m n x y : ℕ) → k ≤ l → (b ≡ true → m ≤ n) → x ≤ y → k + cond {A = ℕ} b m 0 + x ≤ l + (cond {A = ℕ} b n 0 + y)
  at_most true k l m n x y h f g = let f2 : m ≤ n = f refl in omega arith
  at_most false k l m n x y h f g = omega arith

  pub known_below : (b : Bool) (k s n m : ℕ) → b ≡ true → 0 < n → 0 < k + (cond {A = ℕ} b n 0 + m)
  known_below true k s n m e h = omega arith
  known_below false k s n m e h = cc

  -- an id is seen at most as often as the serial that it gives back is known
  pub cut-ids : (back : ℕ → ℕ) (x : ℕ) (n : Nodes PageRow) → ((s : ℕ) → 0 < times s (known o n) → back (i s) ≡ s)
      → tally seen_id x (cut o i n) ≤ times (back x) (known o n)
  cut-ids back x none h = omega arith
  cut-ids back x (node r c t) h =
      rw (times-known (back x) r c t, shown_tally (opens o r) seen_id x (cut o i c))
      (at_most (opens o r) _ _ _ _ _ _ (row_at_most r.serial (h r.serial (rw (times-known r.serial r c t) (self_known r.serial))))
      (λ e. cut-ids back x c (λ s k. h s (rw (times-known s r c t) (known_below (opens o r) _ s _ _ e k))))
      (cut-ids back x t (λ s k. h s (rw (times-known s r c t) (omega arith)))))
    where
      row_at_most : (s : ℕ) → back (i s) ≡ s → cond {A = ℕ} (i s == x) 1 0 ≤ cond {A = ℕ} (s == back x) 1 0
      row_at_most s e = elim (i s == x) as (λ b. (i s == x) ≡ b → cond {A = ℕ} b 1 0 ≤ cond {A = ℕ} (s == back x) 1 0) [
        | true ↦ λ same. (let is : i s ≡ x = grind (arith, nat_tests) in let at : s
            ≡ back x = sym e ∙ ap back is in grind (arith, nat_tests))
        | false ↦ λ _. omega arith
      ] refl

      self_known : (s : ℕ) → 0 < cond {A = ℕ} (s == s) 1 0 + (cond {A = ℕ} (opens o r) (times s (known o c)) 0 + times s (known o t))
      self_known s = grind (arith, nat_tests)

  -- no id is 0 where none of a known node is
  pub cut-above : (n : Nodes PageRow) → ((s : ℕ) → 0 < times s (known o n) → 0 < i s) → tally seen_id 0 (cut o i n) ≡ 0
  cut-above none h = refl
  cut-above (node r c t) h =
      rw (shown_tally (opens o r) seen_id 0 (cut o i c))
      (nothing (opens o r) _ _ _ (row_none (i r.serial) (h r.serial (rw (times-known r.serial r c t) (self_known r.serial))))
      (λ e. cut-above c (λ s k. h s (rw (times-known s r c t) (known_below (opens o r) _ s _ _ e k))))
      (cut-above t (λ s k. h s (rw (times-known s r c t) (omega arith)))))
    where
      row_none : (m : ℕ) → 0 < m → cond {A = ℕ} (m == 0) 1 0 ≡ 0
      row_none m h = grind (arith, nat_tests)

      self_known : (s : ℕ) → 0 < cond {A = ℕ} (s == s) 1 0 + (cond {A = ℕ} (opens o r) (times s (known o c)) 0 + times s (known o t))
      self_known s = grind (arith, nat_tests)

      nothing : (b : Bool) (k m x : ℕ) → k ≡ 0 → (b ≡ true → m ≡ 0) → x ≡ 0 → k + cond {A = ℕ} b m 0 + x ≡ 0
      nothing true k m x e f g = let f2 : m ≡ 0 = f refl in omega arith
      nothing false k m x e f g = omega arith

  shown_height : (b : Bool) (c : Nodes Seen) (m : ℕ) → height c ≤ m → height (cond b c none) ≤ m
  shown_height true c m h = h
  shown_height false c m h = omega arith

  pub height-cut : (n : Nodes PageRow) → height (cut o i n) ≤ height n
  height-cut none = omega arith
  height-cut (node r c t) = omega (arith, shown_height (opens o r) (cut o i c) _ (height-cut c), height-cut t)

-- the number at a place, counted from 1
abbrev pub standing : List ℕ → ℕ → ℕ
standing [] k = 0
standing (x ∷ xs) k = cond (k == 1) x (standing xs (k - 1))

pub standing-place : (xs : List ℕ) (s : ℕ) → 0 < last_standing xs s → standing xs (last_standing xs s) ≡ s
standing-place [] s h = absurd (omega arith)
standing-place (x ∷ xs) s h =
    elim (last_standing xs s) as (λ p. (0 < p → standing xs p ≡ s) → 0 < cond {A = ℕ} (p == 0) (cond {A = ℕ} (x == s) 1 0) (suc p)
    → standing (x ∷ xs) (cond {A = ℕ} (p == 0) (cond {A = ℕ} (x == s) 1 0) (suc p)) ≡ s) [
      | zero ↦ λ _. elim (x == s) as
          (λ b. (x == s) ≡ b → 0 < cond {A = ℕ} b 1 0
          → standing (x ∷ xs) (cond {A = ℕ} b 1 0)
          ≡ s) [ true ↦ λ e _. grind (arith, nat_tests) | false ↦ λ _ h. absurd (omega arith) ] refl
      | suc p ↦ λ rest _. rw (suc-is_zero p) (later p (rest (omega arith)))
    ] (standing-place xs s) h
  where
    later : (p : ℕ) → standing xs (suc p) ≡ s → standing (x ∷ xs) (suc (suc p)) ≡ s
    later p e = ap (λ b. cond b x (standing xs (suc (suc p) - 1)))
        (let f : (suc (suc p) == 1) ≡ false = grind (arith, nat_tests) in f) ∙ ap (standing xs)
        (let g : suc (suc p) - 1 ≡ suc p = omega arith in g) ∙ e

module _ (n : Nodes PageRow) (pushed : List ℕ) (since : ℕ) (distinct : (s : ℕ) → tally row_serial s n ≤ 1) where
  known_place : (o : ℕ → Bool) → IsSession n (record { opened = Some o; pushed = pushed; since = since }) → (s : ℕ)
      → 0 < times s (known o n) → 0 < last_standing (drop since pushed) s
  known_place o session s h = session.known_stand s (times-is_in (known o n) s h)

  pub view-ids : (o : Option (ℕ → Bool)) → IsSession n (record { opened = o; pushed = pushed; since = since }) → (x : ℕ)
      → tally seen_id x (view (record { opened = o; pushed = pushed; since = since }) n) ≤ 1
  view-ids None session x = omega arith
  view-ids (Some o) session x =
      omega (
        arith,
        cut-ids o (id_of pushed since) (λ id. standing (drop since pushed) (id - since)) x n
            (λ s h. gives_back s (known_place o session s h)),
        known-tally o (standing (drop since pushed) (x - since)) n,
        distinct
            (standing (drop since pushed) (x - since)),
      )
    where
      gives_back : (s : ℕ) → 0 < last_standing (drop since pushed) s → standing (drop since pushed) (id_of pushed since s - since) ≡ s
      gives_back s h = ap (standing (drop since pushed))
          (let e : id_of pushed since s - since ≡ last_standing (drop since pushed) s = omega arith in e) ∙ standing-place
          (drop since pushed) s h

  pub view-serials : (o : Option (ℕ → Bool)) → (x : ℕ)
      → tally seen_serial x (view (record { opened = o; pushed = pushed; since = since }) n) ≤ 1
  view-serials None x = omega arith
  view-serials (Some o) x = omega (arith, cut-serials o (id_of pushed since) x n, known-tally o x n, distinct x)

  pub view-above : (o : Option (ℕ → Bool)) → IsSession n (record { opened = o; pushed = pushed; since = since })
      → tally seen_id 0 (view (record { opened = o; pushed = pushed; since = since }) n) ≡ 0
  view-above None session = refl
  view-above (Some o) session = cut-above o (id_of pushed since) n (λ s h. omega (arith, known_place o session s h))

  pub height-view : (o : Option (ℕ → Bool)) → height (view (record { opened = o; pushed = pushed; since = since }) n) ≤ height n
  height-view None = omega arith
  height-view (Some o) = height-cut o (id_of pushed since) n
