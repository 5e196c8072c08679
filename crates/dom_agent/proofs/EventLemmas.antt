-- What openings show, all together.
use Rattle.std.proofs.Common.{◌≡◌, ℕ, zero, suc, ◌+◌, ◌<◌, ◌≤◌, ◌==◌, Bool, true, false, cond, not, ◌&&◌, List, [], ◌∷◌, ◌++◌, map}
use Rattle.std.proofs.Common.{length, length-append, length-drop, drop, append_assoc, append-nil, Option, Some, None, refl, sym, ap, ◌∙◌}
use Rattle.std.proofs.Common.{arith}
use Rattle.std.proofs.lemmas.List.{map-append, drop-append-le}
use Rattle.std.proofs.lemmas.List.Concat.{flat_map-append}
use Rattle.node_tree.specs.Nodes.{Nodes, none, node, Branch, alone}
use Rattle.node_tree.specs.Seen.{Seen}
use Rattle.page_tree.specs.Pages.{PageRow}
use Rattle.node_binding.specs.Counts.{times, last_standing}
use Rattle.node_binding.specs.Cuts.{opens, known, shown_anew, cut}
use Rattle.node_binding.specs.Ids.{id_of}
use Rattle.node_binding.specs.Openings.{less, is_spent, levelled, above, opened_also, is_unopened, is_closed}
use Rattle.node_binding.specs.Sessions.{Session, IsSession, CanOpen, session_of, session_ids, known_by, grown, reset, document_opened}
use Rattle.node_binding.proofs.Places.{suc-is_zero, times-append, is_in-times, place-head, place-later, place-some, first, once}
use Rattle.node_binding.proofs.Known.{known-tally}
use Rattle.node_binding.proofs.GrowLemmas.{times-anew, place-append}
use Rattle.node_binding.proofs.AnewLemmas.{and-first, anew-opened}
use Rattle.node_binding.proofs.OpeningLemmas.{AreDistinct, Agrees, known-levelled}
use Rattle.node_binding.proofs.OpenedLemmas.{IsSession-opened, ids-stay}
use Rattle.node_binding.proofs.InViewLemmas.{InView, in_view-tally, can_open-in_view, agrees_below, opened-grows}
use Rattle.dom_agent.specs.Keepers.{session_keeper}
use Rattle.dom_agent.specs.Requests.{Opening, Showing, Progress, all_opened}
use Rattle.dom_agent.specs.Sets.{row_serials}
use Rattle.dom_agent.specs.Events.{serials_in, ids_in, serials_shown, ids_shown, following, ShowsNew, children_told, top_serials}
use Rattle.dom_agent.specs.Events.{TellsBelow, AreTold}
use Rattle.dom_agent.proofs.OpeningsLemmas.{AreOpenings}
use Rattle.dom_agent.proofs.NewlyLemmas.{all_levelled, closed-in_view}

-- ---- nodes as they are shown

kids_serials : (b : Bool) (c : Nodes Seen) (xs : List ℕ) → serials_in c ≡ xs → serials_in (cond b c none) ≡ cond b xs []
kids_serials true c xs e = e
kids_serials false c xs e = refl

kids_ids : (b : Bool) (c : Nodes Seen) (f : ℕ → ℕ) (xs : List ℕ) → ids_in c ≡ map f xs → ids_in (cond b c none) ≡ map f (cond b xs [])
kids_ids true c f xs e = e
kids_ids false c f xs e = refl

module _ (o : ℕ → Bool) (i : ℕ → ℕ) where
  -- in a cut the known nodes are shown
  pub cut-serials_in : (n : Nodes PageRow) → serials_in (cut o i n) ≡ known o n
  cut-serials_in none = refl
  cut-serials_in (node r c t) =
      ap (λ xs. r.serial ∷ (xs ++ serials_in (cut o i t))) (kids_serials (opens o r) (cut o i c) (known o c) (cut-serials_in c))
      ∙ ap (λ xs. r.serial ∷ (cond (opens o r) (known o c) [] ++ xs)) (cut-serials_in t)

  -- under their ids
  pub cut-ids_in : (n : Nodes PageRow) → ids_in (cut o i n) ≡ map i (known o n)
  cut-ids_in none = refl
  cut-ids_in (node r c t) =
      ap (λ xs. i r.serial ∷ (xs ++ ids_in (cut o i t))) (kids_ids (opens o r) (cut o i c) i (known o c) (cut-ids_in c))
      ∙ ap (λ xs. i r.serial ∷ (map i (cond (opens o r) (known o c) []) ++ xs)) (cut-ids_in t)
      ∙ ap (λ xs. i r.serial ∷ xs) (sym (map-append i (cond (opens o r) (known o c) []) (known o t)))

  -- each at its level
  pub cut-top : (n : Nodes PageRow) → top_serials (cut o i n) ≡ row_serials n
  cut-top none = refl
  cut-top (node r c t) = ap (λ xs. r.serial ∷ xs) (cut-top t)

-- ---- ids that follow

following-append : (k : ℕ) (xs ys : List ℕ) → following k (xs ++ ys) ≡ following k xs ++ following (k + length xs) ys
following-append k [] ys = let same : k ≡ k + 0 = omega arith in ap (λ m. following m ys) same
following-append k (x ∷ xs) ys =
    let same : suc k + length xs ≡ k + suc (length xs) = omega arith in
    ap (λ l. suc k ∷ l) (following-append (suc k) xs ys ∙ ap (λ m. following (suc k) xs ++ following m ys) same)

places-follow : (k : ℕ) (xs : List ℕ) (f : ℕ → ℕ) → ((s : ℕ) → times s xs ≤ 1) → ((s : ℕ) → 0 < times s xs → f s ≡ k + last_standing xs s)
    → map f xs ≡ following k xs
places-follow k [] f single is = refl
places-follow k (x ∷ xs) f single is =
    let head : f x ≡ suc k = is x (first x xs) ∙ ap (λ m. k + m) (place-head x xs (once x xs (single x)))
    ∙ (let one : k + 1 ≡ suc k = omega arith in one) in
    let tail : map f xs ≡ following (suc k) xs = places-follow (suc k) xs f (λ s. omega (arith, single s))
    (λ s h. is s (omega (arith, h)) ∙ ap (λ m. k + m) (place-later x xs s (place-some xs s h)) ∙ more (last_standing xs s)) in
    λ i. head i ∷ tail i
  where
    more : (m : ℕ) → k + suc m ≡ suc k + m
    more m = omega arith

-- nodes that become known get the ids that follow
pub ids-follow : (pushed ks : List ℕ) (since : ℕ) → since ≤ length pushed → ((s : ℕ) → times s ks ≤ 1)
    → map (id_of (pushed ++ ks) since) ks ≡ following (length pushed) ks
ids-follow pushed ks since before single =
    places-follow (length pushed) ks (id_of (pushed ++ ks) since) single
    (λ s h. ap (λ xs. since + last_standing xs s) (drop-append-le since pushed ks before)
    ∙ ap (λ m. since + m) (place-append (drop since pushed) ks s)
    ∙ at (last_standing ks s) (last_standing (drop since pushed) s) (length (drop since pushed)) (place-some ks s h)
    (omega (arith, length-drop since pushed, before)))
  where
    at : (q a len : ℕ) → 0 < q → since + len ≡ length pushed → since + cond {A = ℕ} (q == 0) a (len + q) ≡ length pushed + q
    at zero a len h e = absurd (omega (arith, h))
    at (suc q) a len h e = rw (suc-is_zero q) (omega (arith, e))

-- ---- what is shown from one state to another

-- What is shown becomes known, with the ids that follow; and the ids that are known stay.
pub record Shows (n : Nodes PageRow) (w z : Session) (xs : List (Nodes Seen)) : Type 0 where
  pub pushed : z.pushed ≡ w.pushed ++ serials_shown xs
  pub ids : ids_shown xs ≡ following (length w.pushed) (serials_shown xs)
  pub counts : (s : ℕ) → times s (known_by z.opened n) ≡ times s (known_by w.opened n) + times s (serials_shown xs)
  pub stay : (s : ℕ) → 0 < times s (known_by w.opened n) → session_ids w s ≡ session_ids z s

pub shows-none : (n : Nodes PageRow) (w : Session) → Shows n w w []
shows-none n w = record { pushed = sym (append-nil w.pushed); ids = refl; counts = λ s. omega arith; stay = λ s h. refl }

pub shows-on : (n : Nodes PageRow) (w v z : Session) (xs ys : List (Nodes Seen)) → Shows n w v xs → Shows n v z ys
    → Shows n w z (xs ++ ys)
shows-on n w v z xs ys g h =
    let all : serials_shown (xs ++ ys) ≡ serials_shown xs ++ serials_shown ys = flat_map-append serials_in xs ys in
    let len : length v.pushed ≡ length w.pushed + length (serials_shown xs) =
    ap (λ l. length l) g.pushed ∙ length-append w.pushed (serials_shown xs) in
    record {
      pushed =
          h.pushed
          ∙ ap (λ l. l ++ serials_shown ys) g.pushed
          ∙ append_assoc w.pushed (serials_shown xs) (serials_shown ys)
          ∙ ap (λ l. w.pushed ++ l) (sym all);
      ids =
          flat_map-append ids_in xs ys
          ∙ ap (λ l. l ++ ids_shown ys) g.ids
          ∙ ap (λ l. following (length w.pushed) (serials_shown xs) ++ l) (h.ids ∙ ap (λ m. following m (serials_shown ys)) len)
          ∙ sym (following-append (length w.pushed) (serials_shown xs) (serials_shown ys))
          ∙ ap (following (length w.pushed)) (sym all);
      counts = λ s. omega (
        arith,
        h.counts s,
        g.counts s,
        times-append s (serials_shown xs) (serials_shown ys),
        ap (times s) all,
      );
      stay = λ s k. g.stay s k ∙ h.stay s (omega (arith, k, g.counts s));
    }

exactly_is : (a b c : ℕ) → a ≡ b + c → a ≤ 1 → not (c == 0) ≡ (not (a == 0) && not (not (b == 0)))
exactly_is a zero zero e h = let gone : a ≡ 0 = omega (arith, e) in rw gone refl
exactly_is a zero (suc c) e h = let same : a ≡ suc c = omega (arith, e) in rw (same, suc-is_zero c) refl
exactly_is a (suc b) c e h =
    let gone : c ≡ 0 = omega (arith, e, h) in
    let none_more : b ≡ 0 = omega (arith, e, h) in
    let one : a ≡ 1 = omega (arith, e, h) in
    rw (gone, none_more, one) refl

known_once : (n : Nodes PageRow) → AreDistinct n → (o : Option (ℕ → Bool)) (s : ℕ) → times s (known_by o n) ≤ 1
known_once n distinct None s = omega arith
known_once n distinct (Some o) s = let h : times s (known o n) ≤ 1 = omega (arith, known-tally o s n, distinct s) in h

pub shows-new : (n : Nodes PageRow) → AreDistinct n → (w z : Session) (xs : List (Nodes Seen)) → Shows n w z xs → ShowsNew n w z xs
shows-new n distinct w z xs g = record {
  pushed = g.pushed;
  ids = g.ids;
  exactly = λ s. exactly_is (times s (known_by z.opened n)) (times s (known_by w.opened n)) (times s (serials_shown xs)) (g.counts s)
      (known_once n distinct z.opened s);
  once = λ s. omega (arith, g.counts s, known_once n distinct z.opened s);
}

-- ---- below which containers

-- the event tells of the container, which is known
pub record ToldKnown (n : Nodes PageRow) (z : Session) (x : Branch PageRow) (e : Showing) : Type 0 where
  pub told : TellsBelow z x e
  pub is_known : 0 < times x.row.serial (known_by z.opened n)

abbrev pub AllTold : Nodes PageRow → Session → List (Branch PageRow) → List Showing → Type 0
AllTold n z [] [] = Unit {0}
AllTold n z [] (e ∷ es) = ⊥
AllTold n z (x ∷ xs) [] = ⊥
AllTold n z (x ∷ xs) (e ∷ es) = ToldKnown n z x e × AllTold n z xs es

pub told-later : (n : Nodes PageRow) (v z : Session) (ys : List (Nodes Seen)) → Shows n v z ys → (xs : List (Branch PageRow))
    (es : List Showing) → AllTold n v xs es → AllTold n z xs es
told-later n v z ys h [] [] all = tt
told-later n v z ys h [] (e ∷ es) all = all
told-later n v z ys h (x ∷ xs) [] all = all
told-later n v z ys h (x ∷ xs) (e ∷ es) all = (
  record {
    told = record {
      parent = all.0.told.parent ∙ h.stay x.row.serial all.0.is_known;
      children = all.0.told.children;
    };
    is_known = omega (arith, all.0.is_known, h.counts x.row.serial);
  },
  told-later n v z ys h xs es all.1,
)

pub told-join : (n : Nodes PageRow) (z : Session) (xs ys : List (Branch PageRow)) (es fs : List Showing) → AllTold n z xs es
    → AllTold n z ys fs → AllTold n z (xs ++ ys) (es ++ fs)
told-join n z [] ys [] fs a b = b
told-join n z [] ys (e ∷ es) fs a b = absurd a
told-join n z (x ∷ xs) ys [] fs a b = absurd a
told-join n z (x ∷ xs) ys (e ∷ es) fs a b = (a.0, told-join n z xs ys es fs a.1 b)

pub are-told : (n : Nodes PageRow) (z : Session) (xs : List (Branch PageRow)) (es : List Showing) → AllTold n z xs es → AreTold z xs es
are-told n z [] [] all = tt
are-told n z [] (e ∷ es) all = all
are-told n z (x ∷ xs) [] all = all
are-told n z (x ∷ xs) (e ∷ es) all = (all.0.told, are-told n z xs es all.1)

-- the containers of openings
abbrev pub nodes_of : List Opening → List (Branch PageRow)
nodes_of xs = map (λ (y : Opening). y.node) xs

-- ---- one opening after the other

module _ (n : Nodes PageRow) (distinct : AreDistinct n) where
  module _ (y : Opening) (o : ℕ → Bool) (pushed : List ℕ) (since : ℕ) (left : is_spent y.levels ≡ false) (can : CanOpen n o y.node)
      (session : IsSession n (session_of o pushed since)) where
    abbrev p : ℕ → Bool
    p = opened_also y.levels y.node o

    abbrev after : Session
    after = grown o p n (session_of o pushed since)

    abbrev below : Nodes Seen
    below = cut p (session_ids after) y.node.children

    known_below : known p y.node.children ≡ levelled (less y.levels) y.node.children
    known_below =
        let v : InView o y.node n = can_open-in_view o y.node n distinct can in
        let distinct_y : AreDistinct (alone y.node) = λ s. omega (arith, in_view-tally o y.node v s, distinct s) in
        let closed = closed-in_view o y.node v session.opened_set.closed in
        let unopened : is_unopened o y.node.children
        ≡ true = ap (λ b. cond b (is_closed o y.node.children) (is_unopened o y.node.children)) (sym can.shut) ∙ and-first
        (cond (o y.node.row.serial) (is_closed o y.node.children) (is_unopened o y.node.children)) true closed in
        let agrees : Agrees p (less y.levels) y.node.children = agrees_below o y.levels y.node left can.container distinct_y unopened in
        known-levelled p (less y.levels) y.node.children (λ s. omega (arith, distinct_y s)) agrees

    becomes : shown_anew o p n ≡ levelled (less y.levels) y.node.children
    becomes = anew-opened o y.levels left y.node n distinct can.stands (is_in-times (known o n) y.node.row.serial can.known_now) can.shut
        can.container session.opened_set.closed

    one_shown : serials_shown (below ∷ []) ≡ shown_anew o p n
    one_shown = append-nil (serials_in below) ∙ cut-serials_in p (session_ids after) y.node.children ∙ known_below ∙ sym becomes

    pub shows-one : Shows n (session_of o pushed since) after (below ∷ [])
    shows-one =
        let ks : List ℕ = shown_anew o p n in
        record {
          pushed = ap (λ l. pushed ++ l) (sym one_shown);
          ids =
              append-nil (ids_in below)
              ∙ cut-ids_in p (session_ids after) y.node.children
              ∙ ap (map (session_ids after)) (known_below ∙ sym becomes)
              ∙ ids-follow pushed ks since session.since_then
              (λ s. omega (arith, times-anew o p (opened-grows o y.levels y.node) s n, known-tally p s n, distinct s))
              ∙ ap (following (length pushed)) (sym one_shown);
          counts = λ s. times-anew o p (opened-grows o y.levels y.node) s n
              ∙ ap (λ l. times s (known o n) + times s l) (sym one_shown);
          stay = ids-stay y.levels n y.node o pushed since distinct left can session;
        }

    pub told-one : ToldKnown n after y.node (record { parent = session_ids after y.node.row.serial; children = below })
    told-one =
        let there : 0 < times y.node.row.serial (known p n) =
        omega (
          arith,
          times-anew o p (opened-grows o y.levels y.node) y.node.row.serial n,
          is_in-times (known o n) y.node.row.serial can.known_now,
        ) in
        record { told = record { parent = refl; children = cut-top p (session_ids after) y.node.children }; is_known = there }

    pub levels-one : serials_in below ≡ levelled (less y.levels) y.node.children
    levels-one = cut-serials_in p (session_ids after) y.node.children ∙ known_below

    pub session-one : IsSession n after
    session-one = IsSession-opened y.levels n y.node o pushed since distinct left can session

  -- what openings come to
  pub record ToldAll (w : Session) (p : Progress Session) (xs : List Opening) : Type 0 where
    pub session : IsSession n p.state
    pub shows : Shows n w p.state (children_told p.shown)
    pub told : AllTold n p.state (nodes_of xs) p.shown
    pub levels : serials_shown (children_told p.shown) ≡ all_levelled xs

  module _ (document : Branch PageRow) where
    pub told-openings : (xs : List Opening) (o : ℕ → Bool) (pushed : List ℕ) (since : ℕ) → IsSession n (session_of o pushed since)
        → AreOpenings n o xs
        → ToldAll (session_of o pushed since) (all_opened (session_keeper n) document xs (session_of o pushed since)) xs
    told-openings [] o pushed since session are = record {
      session = session;
      shows = shows-none n (session_of o pushed since);
      told = tt;
      levels = refl;
    }
    told-openings (y ∷ ys) o pushed since session are =
        let w : Session = session_of o pushed since in
        let q : ℕ → Bool = opened_also y.levels y.node o in
        let z : Session = grown o q n w in
        let c : Nodes Seen = cut q (session_ids z) y.node.children in
        let rest : Progress Session = all_opened (session_keeper n) document ys z in
        let more = told-openings ys q z.pushed z.since (session-one y o pushed since are.0 are.1 session) are.2 in
        let one = told-one y o pushed since are.0 are.1 session in
        let told : Showing = record { parent = session_ids z y.node.row.serial; children = c } in
        let here : AllTold n rest.state (y.node ∷ []) (told ∷ []) =
        told-later n z rest.state (children_told rest.shown) more.shows (y.node ∷ []) (told ∷ []) (one, tt) in
        record {
          session = more.session;
          shows = shows-on n w z rest.state (c ∷ []) (children_told rest.shown) (shows-one y o pushed since are.0 are.1 session)
              more.shows;
          told = (here.0, more.told);
          levels = ap (λ l. l ++ serials_shown (children_told rest.shown)) (levels-one y o pushed since are.0 are.1 session)
              ∙ ap (λ l. levelled (less y.levels) y.node.children ++ l) more.levels;
        }

  -- the document is opened, and shown in the reply
  pub shows-start : (d : Option ℕ) (w : Session)
      → Shows n (reset w) (document_opened d n w) (cut (above d n) (session_ids (document_opened d n w)) n ∷ [])
  shows-start d w =
      let o : ℕ → Bool = above d n in
      let z : Session = document_opened d n w in
      let c : Nodes Seen = cut o (session_ids z) n in
      let whole : serials_shown (c ∷ []) ≡ known o n = append-nil (serials_in c) ∙ cut-serials_in o (session_ids z) n in
      record {
        pushed = ap (λ l. w.pushed ++ l) (sym whole);
        ids =
            append-nil (ids_in c)
            ∙ cut-ids_in o (session_ids z) n
            ∙ ids-follow w.pushed (known o n) (length w.pushed) (omega arith) (λ s. omega (arith, known-tally o s n, distinct s))
            ∙ ap (following (length w.pushed)) (sym whole);
        counts = λ s. let sum : times s (known o n) ≡ 0 + times s (serials_shown (c ∷ [])) = omega (arith, ap (times s) whole) in sum;
        stay = λ s h. let bad : 0 < 0 = h in absurd (omega (arith, bad));
      }
