-- What openings make known.
use Rattle.std.proofs.Common.{◌≡◌, ℕ, ◌+◌, ◌<◌, ◌==◌, Bool, true, false, cond, not, ◌&&◌, List, [], ◌∷◌, ◌++◌, append-nil}
use Rattle.std.proofs.Common.{append_assoc, refl, sym, ap, ◌∙◌, arith}
use Rattle.std.specs.List.{filter}
use Rattle.node_tree.specs.Nodes.{Nodes, none, node, Branch, alone}
use Rattle.node_tree.specs.Labels.{holds}
use Rattle.page_tree.specs.Pages.{PageRow, PageValue, IsValid}
use Rattle.node_binding.specs.Counts.{times, stands_in}
use Rattle.node_binding.specs.Cuts.{opens, known, shown_anew}
use Rattle.node_binding.specs.Openings.{less, levelled, opened_also, is_unopened, is_closed}
use Rattle.node_binding.specs.Sessions.{IsSession, CanOpen, session_of}
use Rattle.node_binding.proofs.Places.{first, is_in-times, times-is_in}
use Rattle.node_binding.proofs.Known.{known-tally}
use Rattle.node_binding.proofs.SessionLemmas.{times-known}
use Rattle.node_binding.proofs.GrowLemmas.{if_holds}
use Rattle.node_binding.proofs.OpeningLemmas.{AreDistinct}
use Rattle.node_binding.proofs.AnewLemmas.{anew-opened, closed_below, is_opened_row, and-first}
use Rattle.node_binding.proofs.AnewLemmas.{and-second}
use Rattle.node_binding.proofs.OpenedLemmas.{IsSession-opened}
use Rattle.node_binding.proofs.InViewLemmas.{InView, root, child, later, opened-grows}
use Rattle.node_binding.proofs.StartLemmas.{distinct-alone}
use Rattle.dom_agent.specs.Keepers.{session_keeper}
use Rattle.dom_agent.specs.Requests.{Opening, all_opened}
use Rattle.dom_agent.specs.Sets.{known_in_turn}
use Rattle.dom_agent.proofs.OpeningsLemmas.{AreOpenings}

-- ---- the new nodes are those that are known and were not

filter_on : (p q : ℕ → Bool) (xs : List ℕ) → ((s : ℕ) → 0 < times s xs → p s ≡ q s) → filter p xs ≡ filter q xs
filter_on p q [] h = refl
filter_on p q (x ∷ xs) h =
    ap (λ b. cond b (x ∷ filter p xs) (filter p xs)) (h x (first x xs)) ∙ ap (λ l. cond (q x) (x ∷ l) l)
    (filter_on p q xs (λ s k. h s (omega arith)))

filter_whole : (p : ℕ → Bool) (xs : List ℕ) → ((s : ℕ) → 0 < times s xs → p s ≡ true) → filter p xs ≡ xs
filter_whole p [] h = refl
filter_whole p (x ∷ xs) h =
    ap (λ b. cond b (x ∷ filter p xs) (filter p xs)) (h x (first x xs)) ∙ ap (λ l. x ∷ l) (filter_whole p xs (λ s k. h s (omega arith)))

filter_append : (p : ℕ → Bool) (xs ys : List ℕ) → filter p (xs ++ ys) ≡ filter p xs ++ filter p ys
filter_append p [] ys = refl
filter_append p (x ∷ xs) ys = ap (λ l. cond (p x) (x ∷ l) l) (filter_append p xs ys) ∙ kept (p x)
  where
    kept : (b : Bool) → cond b (x ∷ (filter p xs ++ filter p ys)) (filter p xs ++ filter p ys)
        ≡ cond b (x ∷ filter p xs) (filter p xs) ++ filter p ys
    kept true = refl
    kept false = refl

as_often : (s : ℕ) (xs ys : List ℕ) → times s xs ≡ times s ys → not (stands_in s xs) ≡ not (stands_in s ys)
as_often s xs ys e = ap (λ m. not (not (m == 0))) e

if_none : (g : Bool) (k : ℕ) → k ≡ 0 → cond {A = ℕ} g k 0 ≡ 0
if_none true k e = e
if_none false k e = refl

module _ (o q : ℕ → Bool) (grows : (s : ℕ) → o s ≡ true → q s ≡ true) where
  abbrev fresh : Nodes PageRow → ℕ → Bool
  fresh n s = not (stands_in s (known o n))

  children_new : (a b : Bool) (p : ℕ → Bool) (old new : List ℕ) (shown : List ℕ) → (a ≡ true → b ≡ true)
      → (a ≡ true → filter p new ≡ shown) → (a ≡ false → filter p new ≡ new) → filter p (cond b new []) ≡ cond a shown (cond b new [])
  children_new true true p old new shown up f g = f refl
  children_new true false p old new shown up f g = let no : false ≡ true = up refl in cc
  children_new false true p old new shown up f g = g refl
  children_new false false p old new shown up f g = refl

  pub anew-filter : (n : Nodes PageRow) → AreDistinct n → shown_anew o q n ≡ filter (fresh n) (known q n)
  anew-filter none distinct = refl
  anew-filter (node r c t) distinct =
      let n : Nodes PageRow = node r c t in
      let p : ℕ → Bool = fresh n in
      let kids : List ℕ = cond (opens q r) (known q c) [] in
      let root_known : p r.serial ≡ false = ap not (times-is_in (known o n) r.serial (first r.serial _)) in
      let in_t : (s : ℕ) → 0 < times s (known q t) → p s ≡ fresh t s = λ s h.
      as_often s (known o n) (known o t)
      (times-known o (λ k. k) s r c t ∙ zeros (opens o r) _ (times s (known o c)) _ (omega (arith, known-tally q s t, distinct s))
      (omega (arith, known-tally q s t, known-tally o s c, distinct s))) in
      let opened_c : opens o r ≡ true → (s : ℕ) → 0 < times s (known q c) → p s ≡ fresh c s = λ e s h.
      as_often s (known o n) (known o c)
      (times-known o (λ k. k) s r c t ∙ open_kids (opens o r) _ (times s (known o c)) _ e
      (omega (arith, known-tally q s c, distinct s)) (omega (arith, known-tally q s c, known-tally o s t, distinct s))) in
      let shut_c : opens o r ≡ false → (s : ℕ) → 0 < times s (known q c) → p s ≡ true = λ e s h.
      ap (λ m. not (not (m == 0))) (times-known o (λ k. k) s r c t ∙ shut_kids (opens o r) _ (times s (known o c)) _ e
      (omega (arith, known-tally q s c, distinct s)) (omega (arith, known-tally q s c, known-tally o s t, distinct s))) in
      let first_part : filter p kids ≡ cond (opens o r) (shown_anew o q c) (cond (opens q r) (known q c) []) =
      children_new (opens o r) (opens q r) p (known o c) (known q c) (shown_anew o q c)
      (if_holds (holds r.label.kind) (o r.serial) (q r.serial) (grows r.serial))
      (λ e. filter_on p (fresh c) (known q c) (opened_c e) ∙ sym (anew-filter c (λ s. omega (arith, distinct s))))
      (λ e. filter_whole p (known q c) (shut_c e)) in
      sym (ap (λ b. cond b (r.serial ∷ filter p (kids ++ known q t)) (filter p (kids ++ known q t))) root_known
      ∙ filter_append p kids (known q t)
      ∙ ap (λ l. l ++ filter p (known q t)) first_part
      ∙ ap (λ l. cond (opens o r) (shown_anew o q c) (cond (opens q r) (known q c) []) ++ l)
      (filter_on p (fresh t) (known q t) in_t ∙ sym (anew-filter t (λ s. omega (arith, distinct s)))))
    where
      zeros : (g : Bool) (a b k : ℕ) → a ≡ 0 → b ≡ 0 → a + (cond {A = ℕ} g b 0 + k) ≡ k
      zeros g a b k e f = omega (arith, if_none g b f)

      open_kids : (g : Bool) (a b k : ℕ) → g ≡ true → a ≡ 0 → k ≡ 0 → a + (cond {A = ℕ} g b 0 + k) ≡ b
      open_kids true a b k g_is e f = omega arith
      open_kids false a b k g_is e f = cc

      shut_kids : (g : Bool) (a b k : ℕ) → g ≡ false → a ≡ 0 → k ≡ 0 → a + (cond {A = ℕ} g b 0 + k) ≡ 0
      shut_kids true a b k g_is e f = cc
      shut_kids false a b k g_is e f = omega arith

-- ---- what one opening after the other makes known

abbrev pub anew_all : Nodes PageRow → (ℕ → Bool) → List Opening → List ℕ
anew_all n o [] = []
anew_all n o (x ∷ xs) = shown_anew o (opened_also x.levels x.node o) n ++ anew_all n (opened_also x.levels x.node o) xs

abbrev pub all_levelled : List Opening → List ℕ
all_levelled [] = []
all_levelled (x ∷ xs) = levelled (less x.levels) x.node.children ++ all_levelled xs

module _ (n : Nodes PageRow) (document : Branch PageRow) where
  pub pushed-all : (xs : List Opening) (o : ℕ → Bool) (pushed : List ℕ) (since : ℕ)
      → (all_opened (session_keeper n) document xs (session_of o pushed since)).state.pushed ≡ pushed ++ anew_all n o xs
  pushed-all [] o pushed since = sym (append-nil pushed)
  pushed-all (x ∷ xs) o pushed since =
      let p : ℕ → Bool = opened_also x.levels x.node o in
      pushed-all xs p (pushed ++ shown_anew o p n) since ∙ append_assoc pushed (shown_anew o p n) (anew_all n p xs)

  pub anew-all : (xs : List Opening) (o : ℕ → Bool) (pushed : List ℕ) (since : ℕ) → AreDistinct n → AreOpenings n o xs
      → IsSession n (session_of o pushed since) → anew_all n o xs ≡ all_levelled xs
  anew-all [] o pushed since distinct are session = refl
  anew-all (x ∷ xs) o pushed since distinct are session =
      let p : ℕ → Bool = opened_also x.levels x.node o in
      let can : CanOpen n o x.node = are.1 in
      let after = IsSession-opened x.levels n x.node o pushed since distinct are.0 can session in
      ap (λ l. l ++ anew_all n p xs)
      (anew-opened o x.levels are.0 x.node n distinct can.stands
      (is_in-times (known o n) x.node.row.serial can.known_now) can.shut can.container session.opened_set.closed)
      ∙ ap (λ l. levelled (less x.levels) x.node.children ++ l) (anew-all xs p (pushed ++ shown_anew o p n) since distinct are.2 after)

-- ---- what openings make known, one after another

-- by each those that are known and were not
pub known-in-turn : (page : PageValue) → IsValid page → (xs : List Opening) (o : ℕ → Bool) (pushed : List ℕ) (since : ℕ)
    → anew_all (alone page.tree) o xs ≡ known_in_turn page xs (session_of o pushed since)
known-in-turn page valid [] o pushed since = refl
known-in-turn page valid (x ∷ xs) o pushed since =
    let n : Nodes PageRow = alone page.tree in
    let p : ℕ → Bool = opened_also x.levels x.node o in
    ap (λ l. l ++ anew_all n p xs) (anew-filter o p (opened-grows o x.levels x.node) n (distinct-alone page valid))
    ∙ ap (λ l. filter (λ s. not (stands_in s (known o n))) (known p n) ++ l)
    (known-in-turn page valid xs p (pushed ++ shown_anew o p n) since)

pub closed-in_view : (o : ℕ → Bool) (x : Branch PageRow) {n : Nodes PageRow} → InView o x n → is_closed o n ≡ true
    → is_closed o (alone x) ≡ true
closed-in_view o x (root t) e = ap (λ b. b && true)
    (and-first (cond (o x.row.serial) (is_closed o x.children) (is_unopened o x.children)) (is_closed o t) e)
closed-in_view o x (child r c t open_row v) e = closed-in_view o x v
    (closed_below (o r.serial) (is_closed o c) (is_unopened o c) (is_closed o t)
    (is_opened_row (holds r.label.kind) (o r.serial) open_row) e)
closed-in_view o x (later r c t v) e = closed-in_view o x v
    (and-second (cond (o r.serial) (is_closed o c) (is_unopened o c)) (is_closed o t) e)
