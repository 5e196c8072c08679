-- What a list of openings comes to for a session.
use Rattle.std.proofs.Common.{◌≡◌, ℕ, ◌+◌, ◌<◌, ◌≤◌, ◌^◌, Bool, true, false, cond, not, nat_lt, map, filter, List, [], ◌∷◌, ◌++◌, length}
use Rattle.std.proofs.Common.{length-append}
use Rattle.std.proofs.Common.{length-drop, drop, Option, Some, None, refl, sym, subst, arith, lt-ltb}
use Rattle.std.specs.List.{list_all}
use Rattle.std.proofs.lemmas.Bool.{and_from}
use Rattle.std.proofs.lemmas.List.{map-append}
use Rattle.node_tree.specs.Nodes.{Nodes, none, Branch, alone, width, node_count}
use Rattle.node_tree.specs.Levels.{most_told_root}
use Rattle.node_tree.specs.Keys.{has}
use Rattle.node_tree.specs.Seen.{counted}
use Rattle.page_tree.specs.Pages.{PageRow, row_serial}
use Rattle.node_binding.specs.Cuts.{shown_anew, cut}
use Rattle.node_binding.specs.Openings.{is_spent, opened_also}
use Rattle.node_binding.specs.Sessions.{Session, IsSession, CanOpen, session_of, is_open, known_by, session_ids, view, grown}
use Rattle.node_binding.specs.Deals.{more_told}
use Rattle.node_binding.specs.DealLaws.{IsPiece, ArePieces}
use Rattle.node_binding.proofs.DealLemmas.{piece-low}
use Rattle.node_binding.proofs.Places.{place-le}
use Rattle.node_binding.proofs.Known.{length-known}
use Rattle.node_binding.proofs.OpeningLemmas.{AreDistinct}
use Rattle.node_binding.proofs.InViewLemmas.{roots_in_view, opened-grows}
use Rattle.node_binding.proofs.OpenedLemmas.{IsSession-opened, length-opened, bare_row, view-opened}
use Rattle.cdp_messages.specs.declared.down.ReplyBody.{ReplyBody}
use Rattle.cdp_messages.specs.Results.{BodyHasUtf8, body_height, fits_body}
use Rattle.client_views.specs.Views.{ShownSheet, View}
use Rattle.client_views.specs.Moves.{Move, CanBeTold, Course, ends, goes}
use Rattle.dom_agent.specs.Keepers.{session_keeper}
use Rattle.dom_agent.specs.Requests.{Opening, Showing, Progress, Pushes, ancestors_down, pushing, all_opened, pushed as push_of}
use Rattle.dom_agent.specs.Requests.{all_pushed, opening_move}
use Rattle.dom_agent.specs.Requests.{opening_moves}
use Rattle.dom_agent.proofs.OpeningsLemmas.{AreOpenings, AreContainers, pushing-are, by_one, closed_of}

-- what a client sees, beside these sheets
abbrev pub seen_by : Nodes PageRow → List ShownSheet → Session → View
seen_by n sheets w = record { tree = view w n; sheets = sheets }

-- messages can tell what any session shows that has pushed no more than that
abbrev pub CanSay : Nodes PageRow → ℕ → List ShownSheet → Type 0
CanSay n most sheets = (v : Session) → IsSession n v → length v.pushed ≤ most → CanBeTold (seen_by n sheets v)

-- From w to z, with these openings told: z is a session, nothing is shut, each id is one of a node that became known, and
-- the moves lead from the one view to the other.
pub record Goes (n : Nodes PageRow) (w z : Session) (xs : List Showing) : Type 0 where
  pub session : IsSession n z
  pub grows : (s : ℕ) → is_open w.opened s ≡ true → is_open z.opened s ≡ true
  pub counts : length z.pushed + length (known_by w.opened n) ≡ length w.pushed + length (known_by z.opened n)
  pub longer : length w.pushed ≤ length z.pushed
  pub course : (most : ℕ) (sheets : List ShownSheet) → CanSay n most sheets → length z.pushed ≤ most
      → Course (opening_moves xs) (seen_by n sheets w) (seen_by n sheets z)

-- A result that a message can spell.
pub record CanSpell (body : ReplyBody) : Type 0 where
  pub fits : fits_body body ≡ true
  pub texts : BodyHasUtf8 body
  pub levels : body_height body ≤ most_told_root

pub course-join : {ms ks : List Move} {u v w : View} → Course ms u v → Course ks v w → Course (ms ++ ks) u w
course-join (ends v t) d = d
course-join {ks = ks} {w = x} (goes m ms u v w t moved c) d = goes m (ms ++ ks) u v x t moved (course-join c d)

pub length-known_by : (o : Option (ℕ → Bool)) (n : Nodes PageRow) → length (known_by o n) ≤ node_count n
length-known_by None n = omega arith
length-known_by (Some o) n = length-known o n

module _ (n : Nodes PageRow) where
  pub goes-none : (w : Session) → IsSession n w → Goes n w w []
  goes-none w session = record {
    session = session;
    grows = λ s e. e;
    counts = refl;
    longer = omega arith;
    course = λ most sheets say few. ends (seen_by n sheets w) (say w session few);
  }

  pub goes-on : (w v z : Session) (xs ys : List Showing) → Goes n w v xs → Goes n v z ys → Goes n w z (xs ++ ys)
  goes-on w v z xs ys g h = record {
    session = h.session;
    grows = λ s e. h.grows s (g.grows s e);
    counts = omega (arith, g.counts, h.counts);
    longer = omega (arith, g.longer, h.longer);
    course = λ most sheets say few. subst (λ (ms : List Move). Course ms (seen_by n sheets w) (seen_by n sheets z))
        (sym (map-append opening_move xs ys))
        (course-join (g.course most sheets say (omega (arith, h.longer, few))) (h.course most sheets say few));
  }

  -- no more ids are drawn than there are nodes
  pub goes-few : (w z : Session) (xs : List Showing) → Goes n w z xs → length z.pushed ≤ length w.pushed + node_count n
  goes-few w z xs g = omega (arith, g.counts, length-known_by z.opened n)

  module _ (distinct : AreDistinct n) where
    abbrev told : (z : Session) → Branch PageRow → Showing
    told z x = record { parent = session_ids z x.row.serial; children = cut (is_open z.opened) (session_ids z) x.children }

    abbrev told_move : (z : Session) → Branch PageRow → Move
    told_move z x = opening_move (told z x)

    -- one opening
    pub goes-one : (y : Opening) (o : ℕ → Bool) (pushed : List ℕ) (since : ℕ) → is_spent y.levels ≡ false → IsPiece more_told y.levels
        → CanOpen n o y.node → IsSession n (session_of o pushed since)
        → Goes n (session_of o pushed since) (grown o (opened_also y.levels y.node o) n (session_of o pushed since))
        (told (grown o (opened_also y.levels y.node o) n (session_of o pushed since)) y.node ∷ [])
    goes-one y o pushed since left small can session =
        let d : Option ℕ = y.levels in
        let x : Branch PageRow = y.node in
        let w : Session = session_of o pushed since in
        let z : Session = grown o (opened_also d x o) n w in
        let after : IsSession n z = IsSession-opened d n x o pushed since distinct left can session in
        let more : length pushed ≤ length (pushed ++ shown_anew o (opened_also d x o) n) = omega
        (arith, length-append pushed (shown_anew o (opened_also d x o) n)) in
        let at = view-opened d n x o pushed since distinct left can session in
        record {
          session = after;
          grows = opened-grows o d x;
          counts = length-opened d n x o pushed since distinct left can session;
          longer = more;
          course = λ most sheets say few. goes (told_move z x) [] (seen_by n sheets w) (seen_by n sheets z) (seen_by n sheets z)
              (say w session (omega (arith, more, few))) (
                record {
                  old = record { row = bare_row o d x (session_ids z) (counted (width x.children)); children = none };
                  depth = at.0;
                  is = refl;
                  suits = refl;
                  named = refl;
                  low = piece-low more_told n distinct o pushed since d x (session_ids z) left small session can;
                  at = at.1;
                },
                refl,
              )
              (ends (seen_by n sheets z) (say z after few));
        }

    module _ (document : Branch PageRow) where
      -- several
      pub goes-openings : (xs : List Opening) (o : ℕ → Bool) (pushed : List ℕ) (since : ℕ) → IsSession n (session_of o pushed since)
          → AreOpenings n o xs → ArePieces more_told xs
          → Goes n (session_of o pushed since) (all_opened (session_keeper n) document xs (session_of o pushed since)).state
          (all_opened (session_keeper n) document xs (session_of o pushed since)).shown
      goes-openings [] o pushed since session are small = goes-none (session_of o pushed since) session
      goes-openings (y ∷ ys) o pushed since session are small =
          let w : Session = session_of o pushed since in
          let p : ℕ → Bool = opened_also y.levels y.node o in
          let z : Session = grown o p n w in
          let first = goes-one y o pushed since are.0 small.0 are.1 session in
          let rest : Progress Session = all_opened (session_keeper n) document ys z in
          goes-on w z rest.state (told z y.node ∷ []) rest.shown first (goes-openings ys p z.pushed z.since first.session are.2 small.1)

-- ---- pushes

-- each opens one level
pub small-pushes : (o : ℕ → Bool) (ys : List (Branch PageRow)) → ArePieces more_told (closed_of o ys)
small-pushes o [] = tt
small-pushes o (y ∷ ys) = step (not (o y.row.serial)) (small-pushes o ys)
  where
    step : (b : Bool) → ArePieces more_told (closed_of o ys)
        → ArePieces more_told (map by_one (cond b (y ∷ filter (λ (x : Branch PageRow). not (o x.row.serial)) ys)
        (filter (λ (x : Branch PageRow). not (o x.row.serial)) ys)))
    step true rest = (omega arith, rest)
    step false rest = rest

-- an id that a reply can tell
abbrev pub is_small : ℕ → Bool
is_small id = nat_lt id (2 ^ 53)

-- what several pushes come to, with their ids
pub record GoesPushing (n : Nodes PageRow) (w : Session) (q : Pushes Session) : Type 0 where
  pub goes : Goes n w q.progress.state q.progress.shown
  pub ids : length q.progress.state.pushed < 2 ^ 53 → list_all is_small q.ids ≡ true

either : {A : Type 0} (P : A → Type 0) (b : Bool) (x y : A) → P x → P y → P (cond b x y)
either P true x y f g = f
either P false x y f g = g

-- no id is above the number of serials pushed
pub ids-below : (n : Nodes PageRow) (w : Session) (s : ℕ) → IsSession n w → session_ids w s ≤ length w.pushed
ids-below n w s session = omega (arith, place-le (drop w.since w.pushed) s, length-drop w.since w.pushed, session.since_then)

module _ (document : Branch PageRow) (distinct : AreDistinct (alone document)) (containers : AreContainers (alone document)) where
  abbrev n : Nodes PageRow
  n = alone document

  -- one push
  pub goes-pushed : (s : ℕ) (o : ℕ → Bool) (pushed : List ℕ) (since : ℕ) → IsSession n (session_of o pushed since)
      → Goes n (session_of o pushed since) (push_of (session_keeper n) document s (session_of o pushed since)).state
      (push_of (session_keeper n) document s (session_of o pushed since)).shown
  goes-pushed s o pushed since session =
      goes-openings n distinct document (pushing o s n) o pushed since session
      (pushing-are n distinct o s n o containers distinct (roots_in_view o n) (λ k h. refl)) (small-pushes o (ancestors_down s n))

  pub goes-all_pushed : (ss : List ℕ) (opened : Option (ℕ → Bool)) (pushed : List ℕ) (since : ℕ)
      → is_open opened document.row.serial ≡ true → IsSession n (record { opened = opened; pushed = pushed; since = since })
      → GoesPushing n (record { opened = opened; pushed = pushed; since = since })
      (all_pushed (session_keeper n) document ss (record { opened = opened; pushed = pushed; since = since }))
  goes-all_pushed [] opened pushed since begun session = record {
    goes = goes-none n
        (record { opened = opened; pushed = pushed; since = since }) session;
    ids = λ _. refl;
  }
  goes-all_pushed (s ∷ ss) None pushed since begun session = cc
  goes-all_pushed (s ∷ ss) (Some o) pushed since begun session =
      let w : Session = session_of o pushed since in
      let first : Progress Session = push_of (session_keeper n) document s w in
      let one : Goes n w first.state first.shown = goes-pushed s o pushed since session in
      let rest : Pushes Session = all_pushed (session_keeper n) document ss first.state in
      let more : GoesPushing n first.state rest = goes-all_pushed ss first.state.opened first.state.pushed first.state.since
      (one.grows document.row.serial begun) one.session in
      let others : Pushes Session = all_pushed (session_keeper n) document ss w in
      let past : GoesPushing n w others = goes-all_pushed ss (Some o) pushed since begun session in
      either (GoesPushing n w) (has row_serial s n)
      (record {
        progress = record { state = rest.progress.state; shown = first.shown ++ rest.progress.shown };
        ids = session_ids first.state s ∷ rest.ids;
      })
      (record { progress = record { state = others.progress.state; shown = others.progress.shown }; ids = 0 ∷ others.ids })
      (record {
        goes = goes-on n w first.state rest.progress.state first.shown rest.progress.shown one more.goes;
        ids = λ few. and_from (is_small (session_ids first.state s)) (list_all is_small rest.ids)
            (lt-ltb (session_ids first.state s) (2 ^ 53) (omega (arith, ids-below n first.state s one.session, more.goes.longer, few)))
            (more.ids few);
      })
      (record { goes = past.goes; ids = λ few. past.ids few })
