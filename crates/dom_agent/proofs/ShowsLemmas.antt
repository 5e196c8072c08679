-- The events of a request show the levels that are left.
use Rattle.std.proofs.Common.{◌≡◌, ℕ, ℤ, zero, suc, ◌==◌, Bool, true, false, cond, not, ◌&&◌, List, [], ◌∷◌, ◌++◌, append-nil, Option}
use Rattle.std.proofs.Common.{Some, None, refl, sym, ap, subst, ◌∙◌, arith}
use Rattle.std.specs.List.{All}
use Rattle.std.proofs.lemmas.List.Elements.{All-cons, All-nil}
use Rattle.node_tree.specs.Nodes.{Nodes, none, node, Branch, alone, width}
use Rattle.node_tree.specs.Levels.{most_told}
use Rattle.node_tree.specs.Labels.{holds}
use Rattle.node_tree.specs.Seen.{Seen, leaf, counted, opened}
use Rattle.page_tree.specs.Pages.{PageRow, PageValue, IsValid}
use Rattle.node_binding.specs.Cuts.{opens, known, cut}
use Rattle.node_binding.specs.Openings.{less, is_spent, opened_also, is_unopened, is_closed}
use Rattle.node_binding.specs.Deals.{capped, dealt, deal, more_told}
use Rattle.node_binding.specs.Sessions.{Session, IsSession, CanOpen, session_of, is_open, session_ids, grown, serial_at}
use Rattle.node_binding.proofs.StartLemmas.{distinct-alone}
use Rattle.node_binding.proofs.PairLemmas.{find-there}
use Rattle.node_binding.proofs.AnewLemmas.{and-first, and-second}
use Rattle.node_binding.proofs.OpeningLemmas.{AreDistinct, Agrees, goes_on, root_is, opens_is, agrees_rest, agrees_children}
use Rattle.node_binding.proofs.OpenedLemmas.{IsSession-opened}
use Rattle.node_binding.proofs.InViewLemmas.{InView, in_view-tally, can_open-in_view, agrees_below}
use Rattle.dom_agent.specs.Keepers.{session_keeper}
use Rattle.dom_agent.specs.Requests.{Opening, Showing, requested, known_node, of_children, all_opened}
use Rattle.dom_agent.specs.Distances.{StandsAt, root, below, beside, IsWithin}
use Rattle.dom_agent.specs.Sets.{levels_asked}
use Rattle.dom_agent.specs.Described.{shown_to}
use Rattle.dom_agent.specs.Shows.{levels_left, TellsLevels, shown_by_outcome, RequestTells}
use Rattle.dom_agent.proofs.OpeningsLemmas.{AreOpenings, request-are}
use Rattle.dom_agent.proofs.OutcomeLemmas.{known-found}
use Rattle.dom_agent.proofs.NewlyLemmas.{closed-in_view}
use Rattle.dom_agent.proofs.SetLemmas.{near_here, near_below, unspent}

-- ---- a cut by levels

kids_same : (g : Bool) (a b : Nodes Seen) → (g ≡ true → a ≡ b) → cond g a none ≡ cond g b none
kids_same true a b f = f refl
kids_same false a b f = refl

pub cut-levels : (o : ℕ → Bool) (i : ℕ → ℕ) (d : Option ℕ) (n : Nodes PageRow) → AreDistinct n → Agrees o d n → cut o i n ≡ shown_to i d n
cut-levels o i d none distinct agrees = refl
cut-levels o i d (node r c t) distinct agrees =
    let g : Bool = goes_on d r in
    let seen : (b : Bool) → Seen = λ b. record {
      id = i r.serial;
      serial = r.serial;
      label = r.label;
      hold = cond (holds r.label.kind) (cond b opened (counted (width c))) leaf;
    } in
    ap (λ b. node (seen b) (cond (opens o r) (cut o i c) none) (cut o i t)) (root_is o d r c t distinct agrees)
    ∙ ap (λ b. node (seen g) (cond b (cut o i c) none) (cut o i t)) (opens_is o d r c t distinct agrees)
    ∙ ap (λ m. node (seen g) m (cut o i t))
    (kids_same g (cut o i c) (shown_to i (less d) c)
    (λ e. cut-levels o i (less d) c (λ s. omega (arith, distinct s)) (agrees_children o d r c t distinct agrees e)))
    ∙ ap (λ m. node (seen g) (cond g (shown_to i (less d) c) none) m)
    (cut-levels o i d t (λ s. omega (arith, distinct s)) (agrees_rest o d r c t distinct agrees))

-- ---- what is requested

pub record IsRequested (d : Option ℕ) (n : Nodes PageRow) (o : ℕ → Bool) (y : Opening) : Type 0 where
  pub distance : ℕ
  pub stands : StandsAt y.node distance n
  pub near : IsWithin distance d
  pub can_hold : holds y.node.row.label.kind ≡ true
  pub shut : o y.node.row.serial ≡ false
  pub levels : y.levels ≡ capped most_told (levels_left distance d)

abbrev pub AreRequested : Option ℕ → Nodes PageRow → (ℕ → Bool) → List Opening → Type 0
AreRequested d n o [] = Unit {0}
AreRequested d n o (y ∷ ys) = IsRequested d n o y × AreRequested d n o ys

requested_join : (d : Option ℕ) (n : Nodes PageRow) (o : ℕ → Bool) (xs ys : List Opening) → AreRequested d n o xs → AreRequested d n o ys
    → AreRequested d n o (xs ++ ys)
requested_join d n o [] ys h k = k
requested_join d n o (x ∷ xs) ys h k = (h.0, requested_join d n o xs ys h.1 k)

left-here : (d : Option ℕ) → d ≡ levels_left 0 d
left-here None = refl
left-here (Some d) = ap Some (omega arith)

left-below : (d : Option ℕ) (k : ℕ) → levels_left k (less d) ≡ levels_left (suc k) d
left-below None k = refl
left-below (Some zero) k = ap Some (omega arith)
left-below (Some (suc d)) k = ap Some (omega arith)

module _ (o : ℕ → Bool) where
  all_below : (d : Option ℕ) (r : PageRow) (c t : Nodes PageRow) (ys : List Opening) → is_spent d ≡ false → AreRequested (less d) c o ys
      → AreRequested d (node r c t) o ys
  all_below d r c t [] left h = tt
  all_below d r c t (y ∷ ys) left h = (
    record {
      distance = suc h.0.distance;
      stands = below h.0.distance r c t h.0.stands;
      near = near_below d h.0.distance left h.0.near;
      can_hold = h.0.can_hold;
      shut = h.0.shut;
      levels = h.0.levels ∙ ap (capped most_told) (left-below d h.0.distance);
    },
    all_below d r c t ys left h.1,
  )

  all_beside : (d : Option ℕ) (r : PageRow) (c t : Nodes PageRow) (ys : List Opening) → AreRequested d t o ys
      → AreRequested d (node r c t) o ys
  all_beside d r c t [] h = tt
  all_beside d r c t (y ∷ ys) h = (
    record {
      distance = h.0.distance;
      stands = beside h.0.distance r c t h.0.stands;
      near = h.0.near;
      can_hold = h.0.can_hold;
      shut = h.0.shut;
      levels = h.0.levels;
    },
    all_beside d r c t ys h.1,
  )

  -- further pieces: below a container that is not opened none is
  dealt_first : (d : Option ℕ) (r : PageRow) (c t : Nodes PageRow) (g : Bool) → (holds r.label.kind && not (is_spent d)) ≡ g
      → o r.serial ≡ false → AreRequested (less d) c o (dealt more_told more_told (less d) c)
      → AreRequested d (node r c t) o (cond g
      (record { levels = capped most_told d; node = record { row = r; children = c } } ∷ dealt more_told more_told (less d) c) [])
  dealt_first d r c t true is shut h = (
    record {
      distance = 0;
      stands = root t;
      near = near_here d (unspent (is_spent d) (and-second (holds r.label.kind) (not (is_spent d)) is));
      can_hold = and-first (holds r.label.kind) (not (is_spent d)) is;
      shut = shut;
      levels = ap (capped most_told) (left-here d);
    },
    all_below d r c t (dealt more_told more_told (less d) c)
        (unspent (is_spent d) (and-second (holds r.label.kind) (not (is_spent d)) is)) h,
  )
  dealt_first d r c t false is shut h = tt

  dealt_later : (k : ℕ) (d : Option ℕ) (r : PageRow) (c t : Nodes PageRow) (g : Bool) → (holds r.label.kind && not (is_spent d)) ≡ g
      → AreRequested (less d) c o (dealt more_told k (less d) c) → AreRequested d (node r c t) o (cond g (dealt more_told k (less d) c) [])
  dealt_later k d r c t true is h = all_below d r c t (dealt more_told k (less d) c)
      (unspent (is_spent d) (and-second (holds r.label.kind) (not (is_spent d)) is)) h
  dealt_later k d r c t false is h = tt

  dealt-at : (left : ℕ) (d : Option ℕ) (n : Nodes PageRow) → is_unopened o n ≡ true → AreRequested d n o (dealt more_told left d n)
  dealt-at left d none bare = tt
  dealt-at zero d (node r c t) bare =
      let first = and-first (not (o r.serial) && is_unopened o c) (is_unopened o t) bare in
      requested_join d (node r c t) o _ (dealt more_told 0 d t)
      (dealt_first d r c t (goes_on d r) refl (unspent (o r.serial) (and-first (not (o r.serial)) (is_unopened o c) first))
      (dealt-at more_told (less d) c (and-second (not (o r.serial)) (is_unopened o c) first)))
      (all_beside d r c t (dealt more_told 0 d t)
      (dealt-at zero d t (and-second (not (o r.serial) && is_unopened o c) (is_unopened o t) bare)))
  dealt-at (suc k) d (node r c t) bare =
      let first = and-first (not (o r.serial) && is_unopened o c) (is_unopened o t) bare in
      requested_join d (node r c t) o _ (dealt more_told (suc k) d t)
      (dealt_later k d r c t (goes_on d r) refl (dealt-at k (less d) c (and-second (not (o r.serial)) (is_unopened o c) first)))
      (all_beside d r c t (dealt more_told (suc k) d t)
      (dealt-at (suc k) d t (and-second (not (o r.serial) && is_unopened o c) (is_unopened o t) bare)))

  twice : (g : Bool) (ys : List Opening) → cond g (cond g ys [] ++ []) [] ≡ cond g ys []
  twice true ys = append-nil ys
  twice false ys = refl

  pub requested-at : (d : Option ℕ) (n : Nodes PageRow) → is_closed o n ≡ true → AreRequested d n o (requested o d n)
  requested-at d none closed = tt
  requested-at d (node r c t) closed =
      requested_join d (node r c t) o
      (cond (goes_on d r) (cond (o r.serial) (requested o (less d) c) (deal more_told d (record { row = r; children = c }))) [])
      (requested o d t)
      (by_row (o r.serial) refl (λ h. requested-at (less d) c h))
      (all_beside d r c t (requested o d t)
      (requested-at d t (and-second (cond (o r.serial) (is_closed o c) (is_unopened o c)) (is_closed o t) closed)))
    where
      by_row : (a : Bool) → o r.serial ≡ a → (is_closed o c ≡ true → AreRequested (less d) c o (requested o (less d) c))
          → AreRequested d (node r c t) o
          (cond (goes_on d r) (cond a (requested o (less d) c) (deal more_told d (record { row = r; children = c }))) [])
      by_row true is in_c = later (goes_on d r) refl (in_c (sym (ap (λ b. cond b (is_closed o c) (is_unopened o c)) is)
          ∙ and-first (cond (o r.serial) (is_closed o c) (is_unopened o c)) (is_closed o t) closed))
        where
          later : (g : Bool) → (holds r.label.kind && not (is_spent d)) ≡ g → AreRequested (less d) c o (requested o (less d) c)
              → AreRequested d (node r c t) o (cond g (requested o (less d) c) [])
          later true e h = all_below d r c t (requested o (less d) c)
              (unspent (is_spent d) (and-second (holds r.label.kind) (not (is_spent d)) e)) h
          later false e h = tt
      by_row false is in_c =
          let bare : is_unopened o c ≡ true = sym (ap (λ b. cond b (is_closed o c) (is_unopened o c)) is)
          ∙ and-first (cond (o r.serial) (is_closed o c) (is_unopened o c)) (is_closed o t) closed in
          subst (AreRequested d (node r c t) o)
          (sym (twice (goes_on d r) (record { levels = capped most_told d; node = record { row = r; children = c } }
          ∷ dealt more_told more_told (less d) c)))
          (dealt_first d r c t (goes_on d r) refl is (dealt-at more_told (less d) c bare))

-- ---- what is told of it

module _ (n : Nodes PageRow) (document : Branch PageRow) (distinct : AreDistinct n) (d : Option ℕ) (x : Branch PageRow) (before : ℕ → Bool)
    (w : Session) (was : (s : ℕ) → is_open w.opened s ≡ before s) where
  pub tells-all : (xs : List Opening) (o : ℕ → Bool) (pushed : List ℕ) (since : ℕ) → AreOpenings n o xs
      → AreRequested d (alone x) before xs → IsSession n (session_of o pushed since)
      → All (TellsLevels d x w) (all_opened (session_keeper n) document xs (session_of o pushed since)).shown
  tells-all [] o pushed since are at session = All-nil (TellsLevels d x w)
  tells-all (y ∷ ys) o pushed since are at session =
      let p : ℕ → Bool = opened_also y.levels y.node o in
      let z : Session = grown o p n (session_of o pushed since) in
      let can : CanOpen n o y.node = are.1 in
      let v : InView o y.node n = can_open-in_view o y.node n distinct can in
      let distinct_y : AreDistinct (alone y.node) = λ s. omega (arith, in_view-tally o y.node v s, distinct s) in
      let closed = closed-in_view o y.node v session.opened_set.closed in
      let unopened : is_unopened o y.node.children
      ≡ true = ap (λ b. cond b (is_closed o y.node.children) (is_unopened o y.node.children)) (sym can.shut) ∙ and-first
      (cond (o y.node.row.serial) (is_closed o y.node.children) (is_unopened o y.node.children)) true closed in
      let agrees : Agrees p (less y.levels) y.node.children = agrees_below o y.levels y.node are.0 can.container distinct_y unopened in
      let told : Showing = record { parent = session_ids z y.node.row.serial; children = cut p (session_ids z) y.node.children } in
      All-cons (TellsLevels d x w) told (all_opened (session_keeper n) document ys z).shown
      (record {
        container = y.node;
        distance = at.0.distance;
        stands = at.0.stands;
        near = at.0.near;
        can_hold = at.0.can_hold;
        shut = was y.node.row.serial ∙ at.0.shut;
        ids = session_ids z;
        parent = refl;
        shows = cut-levels p (session_ids z) (less y.levels) y.node.children (λ s. omega (arith, distinct_y s)) agrees ∙ ap
            (λ l. shown_to (session_ids z) (less l) y.node.children) at.0.levels;
      })
      (tells-all ys p z.pushed z.since are.2 at.1 (IsSession-opened y.levels n y.node o pushed since distinct are.0 can session))

tells_by : (page : PageValue) → IsValid page
    → (depth : Option ℤ) (opened : Option (ℕ → Bool)) (pushed : List ℕ) (since id : ℕ) (x : Branch PageRow)
    → IsSession (alone page.tree) (record { opened = opened; pushed = pushed; since = since })
    → known_node (session_keeper (alone page.tree)) page.tree (record { opened = opened; pushed = pushed; since = since })
    (serial_at (record { opened = opened; pushed = pushed; since = since }) (alone page.tree) id) ≡ Some x
    → All (TellsLevels (levels_asked depth) x (record { opened = opened; pushed = pushed; since = since }))
    (all_opened (session_keeper (alone page.tree)) page.tree (requested (is_open opened) (levels_asked depth) (alone x))
    (record { opened = opened; pushed = pushed; since = since })).shown
tells_by page valid depth None pushed since id x session found = cc
tells_by page valid depth (Some o) pushed since id x session found =
    let n : Nodes PageRow = alone page.tree in
    let d : Option ℕ = levels_asked depth in
    let w : Session = session_of o pushed since in
    let distinct = distinct-alone page valid in
    let v : InView o x n = known-found page valid o pushed since (serial_at w n id)
    (λ s e. (find-there (λ s. session_ids w s == id) (known o n) s e).0) x found in
    tells-all n page.tree distinct d x o w (λ s. refl) (requested o d (alone x)) o pushed since
    (request-are page valid o pushed since session d x v)
    (requested-at o d (alone x) (closed-in_view o x v session.opened_set.closed)) session

pub request_tells : RequestTells
request_tells page whole id depth pierce w x valid session found =
    let n : Nodes PageRow = alone page.tree in
    subst (λ (f : Option (Branch PageRow)). All (TellsLevels (levels_asked depth) x w)
    (shown_by_outcome (of_children (session_keeper n) page.tree depth f w))) (sym found)
    (tells_by page valid depth w.opened w.pushed w.since id x session found)
