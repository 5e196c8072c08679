-- The commands open these sets.
use Rattle.std.proofs.Common.{◌≡◌, ℕ, ℤ, ◌==◌, Bool, true, false, cond, not, ◌||◌, ◌⊎◌, ◌↔◌, inl, inr, List, [], ◌∷◌, ◌++◌, Option, Some}
use Rattle.std.proofs.Common.{None, Result, ◌&&◌, map, refl, sym, ap, subst, ◌∙◌, arith}
use Rattle.std.proofs.Math.Logic.{⊎_elim}
use Rattle.std.specs.List.{filter}
use Rattle.std.proofs.lemmas.Bool.{eq-eqb, eqb-true}
use Rattle.node_tree.proofs.KeyLemmas.{has-there}
use Rattle.node_tree.specs.Nodes.{Nodes, none, node, Branch, alone}
use Rattle.node_tree.specs.Levels.{most_told}
use Rattle.node_tree.specs.Keys.{has, find}
use Rattle.node_tree.specs.Labels.{holds}
use Rattle.page_tree.specs.Pages.{PageRow, row_serial, PageValue, IsValid}
use Rattle.node_binding.specs.Counts.{stands_in}
use Rattle.node_binding.specs.Openings.{containers_within, levelled, above}
use Rattle.node_binding.specs.Deals.{capped, dealt, more_told}
use Rattle.node_binding.specs.Sessions.{Session, IsSession, session_of, is_open, serial_at, document_opened}
use Rattle.node_binding.proofs.InViewLemmas.{roots_in_view}
use Rattle.dom_agent.proofs.NewlyLemmas.{all_levelled, pushed-all, anew-all, known-in-turn}
use Rattle.node_binding.proofs.StartLemmas.{distinct-alone}
use Rattle.node_binding.proofs.BoundLemmas.{is_in-cons}
use Rattle.node_binding.proofs.AnewLemmas.{at_or_other, found_here, found_later}
use Rattle.cdp_messages.specs.declared.command.Why.{Why}
use Rattle.cdp_messages.specs.declared.command.Why.TheVariants.{NotPushed}
use Rattle.dom_agent.specs.Keepers.{session_keeper}
use Rattle.dom_agent.specs.Paths.{node_at_path}
use Rattle.dom_agent.specs.Requests.{Opening, Outcome, refused, Pushes, requested, ancestors_down, pushing, known_node, of_children}
use Rattle.dom_agent.specs.Queries.{Query, all_matching}
use Rattle.dom_agent.specs.Requests.{of_query, first_asked, with_first, all_asked}
use Rattle.dom_agent.specs.Requests.{of_path, with_ids, all_opened, all_pushed, pushed as push_of, state_after}
use Rattle.dom_agent.specs.Distances.{IsReached, IsAncestor, OpensAlso}
use Rattle.dom_agent.specs.Sets.{levels_asked, DocumentOpens, RequestOpens, known_in_turn, RequestPushes, PathOpens, IsAncestorOfOne}
use Rattle.dom_agent.specs.Sets.{SerialsOpen, row_serials, children_in_turn, shut_ancestors, PathPushes, FirstFoundOpens, FoundOpen}
use Rattle.dom_agent.proofs.OpeningsLemmas.{AreContainers, by_one, pushing-are}
use Rattle.dom_agent.proofs.KnownLemmas.{opened_after}
use Rattle.dom_agent.proofs.OutcomeLemmas.{containers-page}
use Rattle.dom_agent.proofs.SetLemmas.{there_once, stands-below, or_split, or_joined, opened_all-set, requested-set, reached-set}
use Rattle.dom_agent.proofs.SetLemmas.{dealt-set}
use Rattle.cdp_messages.specs.declared.dom_ask.DomAsk.TheVariants.{GetDocument}
use Rattle.dom_agent.specs.Laws.{session_outcome}
use Rattle.dom_agent.proofs.SetLemmas.{pushing-set, ancestors-hold, ancestors-set, serials_of}

-- a test that is another or a set's
by_test : (a b c : Bool) {P : Type 0} → c ≡ (a || b) → (b ≡ true) ↔ P → (c ≡ true) ↔ ((a ≡ true) ⊎ P)
by_test a b c {P} e set = (
  λ is. ⊎_elim (λ h. inl h) (λ h. inr (set.0 h)) (or_split a b (sym e ∙ is)),
  λ is. e ∙ or_joined a b (⊎_elim (λ h. inl h) (λ h. inr (set.1 h)) is),
)

pub document_opens : DocumentOpens
document_opens page whole depth pierce w valid s =
    let n : Nodes PageRow = alone page.tree in
    let d : Option ℕ = levels_asked depth in
    let z : Session = document_opened (capped most_told d) n w in
    let xs : List Opening = dealt more_told most_told d n in
    let o : ℕ → Bool = above (capped most_told d) n in
    let is : is_open (state_after w (session_outcome page whole (GetDocument depth pierce) w)).opened s
    ≡ stands_in s (containers_within d n) =
    ap (λ (q : Option (ℕ → Bool)). is_open q s) (opened_after n page.tree xs o z.pushed z.since)
    ∙ opened_all-set xs o s
    ∙ dealt-set more_told s most_told d n in
    subst (λ (b : Bool). (b ≡ true) ↔ IsReached d page.tree s) (sym is)
    (reached-set d page.tree (containers-page page valid) s)

-- what is found among containers is one
containers-found : (k : ℕ) (n : Nodes PageRow) (x : Branch PageRow) → find row_serial k n ≡ Some x → AreContainers n
    → AreContainers (alone x)
containers-found k none x e are = cc
containers-found k (node r c t) x e are =
    at_or_other r.serial k
    (λ here. subst (λ (y : Branch PageRow). AreContainers (alone y)) (found_here k r c t x here e) (are.0, are.1, tt))
    (λ other. ⊎_elim (λ in_c. containers-found k c x in_c are.1) (λ in_t. containers-found k t x in_t are.2)
    (found_later k r c t x other e))

module _ (page : PageValue) (valid : IsValid page) where
  abbrev n : Nodes PageRow
  n = alone page.tree

  containers-known : (w : Session) (serial : Option ℕ) (x : Branch PageRow) → known_node (session_keeper n) page.tree w serial ≡ Some x
      → AreContainers (alone x)
  containers-known w None x e = cc
  containers-known w (Some s) x e = containers-found s n x e (containers-page page valid)

  request_by : (depth : Option ℤ) (opened : Option (ℕ → Bool)) (pushed : List ℕ) (since id : ℕ) (x : Branch PageRow)
      → known_node (session_keeper n) page.tree (record { opened = opened; pushed = pushed; since = since })
      (serial_at (record { opened = opened; pushed = pushed; since = since }) n id) ≡ Some x
      → OpensAlso (record { opened = opened; pushed = pushed; since = since })
      (all_opened (session_keeper n) page.tree (requested (is_open opened) (levels_asked depth) (alone x))
      (record { opened = opened; pushed = pushed; since = since })).state (IsReached (levels_asked depth) x)
  request_by depth None pushed since id x found s = cc
  request_by depth (Some o) pushed since id x found s =
      by_test (o s) (stands_in s (containers_within (levels_asked depth) (alone x))) _
      (ap (λ (q : Option (ℕ → Bool)). is_open q s) (opened_after n page.tree (requested o (levels_asked depth) (alone x)) o pushed since)
      ∙ opened_all-set (requested o (levels_asked depth) (alone x)) o s
      ∙ requested-set o s (levels_asked depth) (alone x))
      (reached-set (levels_asked depth) x
      (containers-known (session_of o pushed since) (serial_at (session_of o pushed since) n id) x found) s)

  push_by : (s : ℕ) (o : ℕ → Bool) (pushed : List ℕ) (since : ℕ)
      → OpensAlso (session_of o pushed since) (push_of (session_keeper n) page.tree s (session_of o pushed since)).state
      (IsAncestor page.tree s)
  push_by s o pushed since t =
      by_test (o t) (stands_in t (serials_of (ancestors_down s n))) _
      (ap (λ (q : Option (ℕ → Bool)). is_open q t) (opened_after n page.tree (pushing o s n) o pushed since)
      ∙ opened_all-set (pushing o s n) o t
      ∙ pushing-set o t (ancestors_down s n) (ancestors-hold s n (containers-page page valid)))
      (ancestors-set page.tree s t (distinct-alone page valid s))

pub request_opens : RequestOpens
request_opens page whole id depth pierce w x valid found s =
    subst (λ (f : Option (Branch PageRow)).
    (is_open (state_after w (of_children (session_keeper (alone page.tree)) page.tree depth f w)).opened s ≡ true)
    ↔ ((is_open w.opened s ≡ true) ⊎ IsReached (levels_asked depth) x s)) (sym found)
    (request_by page valid depth w.opened w.pushed w.since id x found s)

path_by : (page : PageValue) → IsValid page → (opened : Option (ℕ → Bool)) (pushed : List ℕ) (since : ℕ) (s : ℕ)
    → is_open opened page.tree.row.serial ≡ true
    → OpensAlso (record { opened = opened; pushed = pushed; since = since })
    (push_of (session_keeper (alone page.tree)) page.tree s (record { opened = opened; pushed = pushed; since = since })).state
    (IsAncestor page.tree s)
path_by page valid None pushed since s begun t = cc
path_by page valid (Some o) pushed since s begun t = push_by page valid s o pushed since t

pub path_opens : PathOpens
path_opens page whole path w x valid begun found t =
    let n : Nodes PageRow = alone page.tree in
    let P : Outcome Session → Type 0 = λ y. (is_open (state_after w y).opened t ≡ true)
    ↔ ((is_open w.opened t ≡ true) ⊎ IsAncestor page.tree x.row.serial t) in
    subst (λ (b : Bool). P (cond b (of_path (session_keeper n) page.tree (node_at_path path page.tree) w) (refused NotPushed))) (sym begun)
    (subst (λ (f : Option (Branch PageRow)). P (of_path (session_keeper n) page.tree f w)) (sym found)
    (path_by page valid w.opened w.pushed w.since x.row.serial begun t))

-- ---- what becomes known by a push

-- with no level left, the nodes side by side alone
side_by_side : (n : Nodes PageRow) → levelled (Some 0) n ≡ row_serials n
side_by_side none = refl
side_by_side (node r c t) = ap (λ l. r.serial ∷ l) (alone_now (holds r.label.kind) ∙ side_by_side t)
  where
    alone_now : (h : Bool) → cond (h && false) (levelled (Some 0) c) [] ++ levelled (Some 0) t ≡ levelled (Some 0) t
    alone_now true = refl
    alone_now false = refl

pub one_level_each : (xs : List (Branch PageRow)) → all_levelled (map by_one xs) ≡ children_in_turn xs
one_level_each [] = refl
one_level_each (x ∷ xs) =
    ap (λ l. l ++ all_levelled (map by_one xs)) (side_by_side x.children) ∙ ap (λ l. row_serials x.children ++ l) (one_level_each xs)

push_pushes : (page : PageValue) → IsValid page → (opened : Option (ℕ → Bool)) (pushed : List ℕ) (since s : ℕ)
    → IsSession (alone page.tree) (record { opened = opened; pushed = pushed; since = since })
    → is_open opened page.tree.row.serial ≡ true
    → (push_of (session_keeper (alone page.tree)) page.tree s (record { opened = opened; pushed = pushed; since = since })).state.pushed
    ≡ pushed ++ children_in_turn (shut_ancestors page (record { opened = opened; pushed = pushed; since = since }) s)
push_pushes page valid None pushed since s session begun = cc
push_pushes page valid (Some o) pushed since s session begun =
    let n : Nodes PageRow = alone page.tree in
    let distinct = distinct-alone page valid in
    let are = pushing-are n distinct o s n o (containers-page page valid) distinct (roots_in_view o n) (λ k h. refl) in
    pushed-all n page.tree (pushing o s n) o pushed since
    ∙ ap (λ l. pushed ++ l)
    (anew-all n page.tree (pushing o s n) o pushed since distinct are session
    ∙ one_level_each (filter (λ (x : Branch PageRow). not (o x.row.serial)) (ancestors_down s n)))

pub path_pushes : PathPushes
path_pushes page whole path w x valid session begun found =
    let n : Nodes PageRow = alone page.tree in
    let P : Outcome Session → Type 0 = λ y. (state_after w y).pushed ≡ w.pushed ++ children_in_turn (shut_ancestors page w x.row.serial) in
    subst (λ (b : Bool). P (cond b (of_path (session_keeper n) page.tree (node_at_path path page.tree) w) (refused NotPushed))) (sym begun)
    (subst (λ (f : Option (Branch PageRow)). P (of_path (session_keeper n) page.tree f w)) (sym found)
    (push_pushes page valid w.opened w.pushed w.since x.row.serial session begun))

-- ---- several pushes

either : {A : Type 0} (P : A → Type 0) (b : Bool) (x y : A) → (b ≡ true → P x) → (b ≡ false → P y) → P (cond b x y)
either P true x y f g = f refl
either P false x y f g = g refl

module _ (page : PageValue) (valid : IsValid page) where
  -- an ancestor of the first or of one of the others
  first_or : (s : ℕ) (ss : List ℕ) (t : ℕ) → IsAncestorOfOne page.tree (s ∷ ss) t
      → IsAncestor page.tree s t ⊎ IsAncestorOfOne page.tree ss t
  first_or s ss t one =
      elim (or_split (s == one.serial) (stands_in one.serial ss) (sym (is_in-cons s one.serial ss) ∙ one.listed)) [
        | inl is ↦ inl (subst (λ (k : ℕ). IsAncestor page.tree k t) (sym (eqb-true s one.serial is)) one.above)
        | inr is ↦ inr (record { serial = one.serial; listed = is; above = one.above })
      ]

  of_first : (s : ℕ) (ss : List ℕ) (t : ℕ) → IsAncestor page.tree s t → IsAncestorOfOne page.tree (s ∷ ss) t
  of_first s ss t above = record {
    serial = s;
    listed = is_in-cons s s ss ∙ or_joined (s == s) (stands_in s ss) (inl (eq-eqb s s refl));
    above = above;
  }

  of_others : (s : ℕ) (ss : List ℕ) (t : ℕ) → IsAncestorOfOne page.tree ss t → IsAncestorOfOne page.tree (s ∷ ss) t
  of_others s ss t one = record {
    serial = one.serial;
    listed = is_in-cons s one.serial ss ∙ or_joined (s == one.serial) (stands_in one.serial ss) (inr one.listed);
    above = one.above;
  }

  no_ancestor : (s t : ℕ) → has row_serial s (alone page.tree) ≡ false → IsAncestor page.tree s t → ⊥
  no_ancestor s t absent at =
      let there : has row_serial s (alone page.tree)
      ≡ true = has-there row_serial s (alone page.tree)
      (omega (arith, there_once s at.ancestor.children at.above, stands-below at.ancestor at.stands s)) in
      let no : false ≡ true = sym absent ∙ there in
      absurd (cc)

  serials_by : (ss : List ℕ) (opened : Option (ℕ → Bool)) (pushed : List ℕ) (since : ℕ) → is_open opened page.tree.row.serial ≡ true
      → OpensAlso (record { opened = opened; pushed = pushed; since = since })
      (all_pushed (session_keeper (alone page.tree)) page.tree ss
      (record { opened = opened; pushed = pushed; since = since })).progress.state (IsAncestorOfOne page.tree ss)
  serials_by [] opened pushed since begun t = (λ e. inl e, λ is. ⊎_elim (λ e. e) (λ one. let no : false ≡ true = one.listed in cc) is)
  serials_by (s ∷ ss) None pushed since begun t = cc
  serials_by (s ∷ ss) (Some o) pushed since begun t =
      let n : Nodes PageRow = alone page.tree in
      let w : Session = session_of o pushed since in
      let z : Session = (push_of (session_keeper n) page.tree s w).state in
      let one = push_by page valid s o pushed since in
      either (λ (q : Pushes Session). (is_open q.progress.state.opened t ≡ true) ↔ ((o t ≡ true) ⊎ IsAncestorOfOne page.tree (s ∷ ss) t))
      (has row_serial s n) _ _
      (λ _.
      let rest = serials_by ss z.opened z.pushed z.since ((one page.tree.row.serial).1 (inl begun)) t in (
        λ e. ⊎_elim (λ h. ⊎_elim (λ k. inl k) (λ a. inr (of_first s ss t a)) ((one t).0 h)) (λ a. inr (of_others s ss t a)) (rest.0 e),
        λ is. rest.1 (⊎_elim (λ k. inl ((one t).1 (inl k)))
            (λ a. ⊎_elim (λ f. inl ((one t).1 (inr f))) (λ r. inr r) (first_or s ss t a)) is),
      ))
      (λ absent.
      let rest = serials_by ss (Some o) pushed since begun t in (
        λ e. ⊎_elim (λ k. inl k) (λ a. inr (of_others s ss t a)) (rest.0 e),
        λ is. rest.1 (⊎_elim (λ k. inl k) (λ a. ⊎_elim (λ f. absurd (no_ancestor s t absent f)) (λ r. inr r) (first_or s ss t a)) is),
      ))

pub serials_open : SerialsOpen
serials_open page whole serials w valid begun t =
    let n : Nodes PageRow = alone page.tree in
    subst (λ (b : Bool). (is_open (state_after w
    (cond b (with_ids (session_keeper n) page.tree (all_pushed (session_keeper n) page.tree serials w)) (refused NotPushed))).opened t
    ≡ true) ↔ ((is_open w.opened t ≡ true) ⊎ IsAncestorOfOne page.tree serials t)) (sym begun)
    (serials_by page valid serials w.opened w.pushed w.since begun t)

-- ---- what a query opens

pub first_found_opens : FirstFoundOpens
first_found_opens page whole id text w q s valid begun asked found t =
    let n : Nodes PageRow = alone page.tree in
    let P : Outcome Session → Type 0 = λ y. (is_open (state_after w y).opened t ≡ true)
    ↔ ((is_open w.opened t ≡ true) ⊎ IsAncestor page.tree s t) in
    subst (λ (r : Result Query Why). P (of_query (session_keeper n) page.tree (first_asked (session_keeper n) page.tree whole) r w))
    (sym asked)
    (subst (λ (f : Option ℕ). P (with_first (session_keeper n) page.tree f w)) (sym found)
    (path_by page valid w.opened w.pushed w.since s begun t))

pub found_open : FoundOpen
found_open page whole id text w q valid begun asked t =
    let n : Nodes PageRow = alone page.tree in
    subst (λ (r : Result Query Why).
    (is_open (state_after w (of_query (session_keeper n) page.tree (all_asked (session_keeper n) page.tree whole) r w)).opened t ≡ true)
    ↔ ((is_open w.opened t ≡ true) ⊎ IsAncestorOfOne page.tree (all_matching q.selectors q.root whole) t)) (sym asked)
    (serials_by page valid (all_matching q.selectors q.root whole) w.opened w.pushed w.since begun t)

-- ---- what becomes known by a request

request_pushes_by : (page : PageValue) → IsValid page → (depth : Option ℤ) (opened : Option (ℕ → Bool)) (pushed : List ℕ) (since id : ℕ)
    (x : Branch PageRow)
    → known_node (session_keeper (alone page.tree)) page.tree (record { opened = opened; pushed = pushed; since = since })
    (serial_at (record { opened = opened; pushed = pushed; since = since }) (alone page.tree) id) ≡ Some x
    → (all_opened (session_keeper (alone page.tree)) page.tree (requested (is_open opened) (levels_asked depth) (alone x))
    (record { opened = opened; pushed = pushed; since = since })).state.pushed
    ≡ pushed ++ known_in_turn page (requested (is_open opened) (levels_asked depth) (alone x))
    (record { opened = opened; pushed = pushed; since = since })
request_pushes_by page valid depth None pushed since id x found = cc
request_pushes_by page valid depth (Some o) pushed since id x found =
    let xs : List Opening = requested o (levels_asked depth) (alone x) in
    pushed-all (alone page.tree) page.tree xs o pushed since ∙ ap (λ l. pushed ++ l) (known-in-turn page valid xs o pushed since)

pub request_pushes : RequestPushes
request_pushes page whole id depth pierce w x valid session found =
    let n : Nodes PageRow = alone page.tree in
    subst (λ (f : Option (Branch PageRow)). (state_after w (of_children (session_keeper n) page.tree depth f w)).pushed
    ≡ w.pushed ++ known_in_turn page (requested (is_open w.opened) (levels_asked depth) (alone x)) w) (sym found)
    (request_pushes_by page valid depth w.opened w.pushed w.since id x found)
