-- What the events of each ask show.
use Rattle.std.proofs.Common.{◌≡◌, ℕ, ℤ, pos, ◌==◌, Bool, true, false, cond, List, [], ◌∷◌, append-nil, Option, Some, None, unwrap_or}
use Rattle.std.proofs.Common.{Result, Ok, Err, refl, sym, ap, subst, ◌∙◌}
use Rattle.node_tree.specs.Nodes.{Nodes, Branch, alone}
use Rattle.node_tree.specs.Levels.{most_told}
use Rattle.node_tree.specs.Labels.{is_element}
use Rattle.node_tree.specs.Seen.{Seen}
use Rattle.page_tree.specs.Pages.{PageRow, PageValue, IsValid}
use Rattle.node_binding.specs.Cuts.{known, cut}
use Rattle.node_binding.specs.Deals.{capped, dealt, more_told}
use Rattle.node_binding.specs.Openings.{levels_of, is_spent, above}
use Rattle.node_binding.specs.Sessions.{Session, IsSession, session_of, session_ids, is_open, serial_at, reset, document_opened}
use Rattle.node_binding.proofs.DealLemmas.{start-deals, spent-capped}
use Rattle.node_binding.proofs.StartLemmas.{root_holds, distinct-alone}
use Rattle.node_binding.proofs.SessionLemmas.{IsSession-document_opened}
use Rattle.node_binding.proofs.PairLemmas.{find-there}
use Rattle.node_binding.proofs.InViewLemmas.{InView}
use Rattle.cdp_messages.specs.declared.command.Why.{Why}
use Rattle.cdp_messages.specs.declared.command.Why.TheVariants.{NotPushed}
use Rattle.cdp_messages.specs.declared.dom_ask.DomAsk.{DomAsk}
use Rattle.cdp_messages.specs.declared.dom_ask.DomAsk.TheVariants.{GetDocument, RequestChildNodes, PushByPath, PushBySerials, QuerySelector}
use Rattle.cdp_messages.specs.declared.dom_ask.DomAsk.TheVariants.{QuerySelectorAll, GetAttributes, DescribeNode}
use Rattle.cdp_messages.specs.declared.down.ReplyBody.TheVariants.{Attributes, NodeIds}
use Rattle.dom_agent.specs.Keepers.{Keeper, session_keeper}
use Rattle.dom_agent.specs.Paths.{node_at_path}
use Rattle.dom_agent.specs.Queries.{Query, query_of, first_matching, all_matching}
use Rattle.dom_agent.specs.Requests.{Outcome, refused, Progress, Pushes, requested, named_serial}
use Rattle.dom_agent.specs.Requests.{known_node, ancestors_down}
use Rattle.dom_agent.specs.Requests.{of_children, all_opened, all_pushed, pushed as push_of, of_path, with_id, with_ids, with_first}
use Rattle.dom_agent.specs.Requests.{first_asked}
use Rattle.dom_agent.specs.Requests.{all_asked, of_query, of_attributes, of_description, only_replied, state_after}
use Rattle.dom_agent.specs.Laws.{session_outcome, has_depth}
use Rattle.dom_agent.specs.Sets.{levels_asked}
use Rattle.dom_agent.specs.Shows.{shown_by_outcome}
use Rattle.dom_agent.specs.Events.{ShowsNew, OutcomeShowsNew, children_told, AsksShowNew, TellsInOrder, RequestTellsInOrder}
use Rattle.dom_agent.specs.Events.{PushesOne, PushesAll, PathTells, SerialsTell, FirstFoundTells, FoundTell}
use Rattle.dom_agent.proofs.OpeningsLemmas.{request-are}
use Rattle.dom_agent.proofs.NewlyLemmas.{closed-in_view}
use Rattle.dom_agent.proofs.ShowsLemmas.{requested-at}
use Rattle.dom_agent.proofs.OutcomeLemmas.{document-left, containers-page, known-found, root-opened}
use Rattle.cdp_messages.proofs.Commands.{IsOther, either_ask}
use Rattle.dom_agent.proofs.EventLemmas.{shows-none, shows-on, shows-new, are-told, nodes_of, ToldAll, told-openings, shows-start}
use Rattle.dom_agent.proofs.EventOrder.{requested-among, requested-shut}
use Rattle.dom_agent.proofs.EventPushes.{ToldPushes, told-pushed, told-all_pushed, ids-all_pushed, pushes-told}

begun_or : (P : Outcome Session → Type 0) (b : Bool) (x y : Outcome Session) → (b ≡ true → P x) → P y → P (cond b x y)
begun_or P true x y f g = f refl
begun_or P false x y f g = g

module _ (page : PageValue) (valid : IsValid page) where
  abbrev n : Nodes PageRow
  n = alone page.tree

  abbrev keeper : Keeper Session
  keeper = session_keeper n

  -- what an ask shows becomes known
  abbrev Shown : Session → Outcome Session → Type 0
  Shown w out = OutcomeShowsNew n w out

  -- ---- each kind of ask

  -- the node whose children are asked for is known
  asked-there : (o : ℕ → Bool) (pushed : List ℕ) (since id : ℕ) (x : Branch PageRow)
      → known_node keeper page.tree (session_of o pushed since) (serial_at (session_of o pushed since) n id) ≡ Some x → InView o x n
  asked-there o pushed since id x found =
      let w : Session = session_of o pushed since in
      known-found page valid o pushed since (serial_at w n id)
      (λ s e. (find-there (λ s. session_ids w s == id) (known o n) s e).0) x found

  children-told : (depth : Option ℤ) (o : ℕ → Bool) (pushed : List ℕ) (since : ℕ) → IsSession n (session_of o pushed since)
      → (x : Branch PageRow) → InView o x n
      → ToldAll n (distinct-alone page valid) (session_of o pushed since)
      (all_opened keeper page.tree (requested o (levels_asked depth) (alone x)) (session_of o pushed since))
      (requested o (levels_asked depth) (alone x))
  children-told depth o pushed since session x v =
      told-openings n (distinct-alone page valid) page.tree (requested o (levels_asked depth) (alone x)) o pushed since session
      (request-are page valid o pushed since session (levels_asked depth) x v)

  children-shown : (depth : Option ℤ) (o : ℕ → Bool) (pushed : List ℕ) (since : ℕ) → IsSession n (session_of o pushed since)
      → (found : Option (Branch PageRow)) → ((x : Branch PageRow) → found ≡ Some x → InView o x n)
      → Shown (session_of o pushed since) (of_children keeper page.tree depth found (session_of o pushed since))
  children-shown depth o pushed since session None there = tt
  children-shown depth o pushed since session (Some x) there =
      let w : Session = session_of o pushed since in
      let p : Progress Session = all_opened keeper page.tree (requested o (levels_asked depth) (alone x)) w in
      shows-new n (distinct-alone page valid) w p.state (children_told p.shown)
      (children-told depth o pushed since session x (there x refl)).shows

  request-shown : (id : ℕ) (depth : Option ℤ) (o : Option (ℕ → Bool)) (pushed : List ℕ) (since : ℕ)
      → IsSession n (record { opened = o; pushed = pushed; since = since })
      → (let w : Session = record { opened = o; pushed = pushed; since = since } in
      Shown w (of_children keeper page.tree depth (known_node keeper page.tree w (serial_at w n id)) w))
  request-shown id depth None pushed since session = tt
  request-shown id depth (Some o) pushed since session =
      let w : Session = session_of o pushed since in
      children-shown depth o pushed since session (known_node keeper page.tree w (serial_at w n id)) (asked-there o pushed since id)

  push-shown : (s : ℕ) (o : ℕ → Bool) (pushed : List ℕ) (since : ℕ) → IsSession n (session_of o pushed since)
      → Shown (session_of o pushed since) (with_id keeper page.tree s (push_of keeper page.tree s (session_of o pushed since)))
  push-shown s o pushed since session =
      let w : Session = session_of o pushed since in
      let p : Progress Session = push_of keeper page.tree s w in
      shows-new n (distinct-alone page valid) w p.state (children_told p.shown)
      (told-pushed page.tree (distinct-alone page valid) (containers-page page valid) s o pushed since session).shows

  path-found : (o : ℕ → Bool) (pushed : List ℕ) (since : ℕ) → IsSession n (session_of o pushed since) → (found : Option (Branch PageRow))
      → Shown (session_of o pushed since) (of_path keeper page.tree found (session_of o pushed since))
  path-found o pushed since session None = tt
  path-found o pushed since session (Some x) = push-shown x.row.serial o pushed since session

  path-shown : (path : List ℕ) (o : Option (ℕ → Bool)) (pushed : List ℕ) (since : ℕ)
      → IsSession n (record { opened = o; pushed = pushed; since = since })
      → (let w : Session = record { opened = o; pushed = pushed; since = since } in
      Shown w (cond (is_open o page.tree.row.serial) (of_path keeper page.tree (node_at_path path page.tree) w) (refused NotPushed)))
  path-shown path None pushed since session = tt
  path-shown path (Some o) pushed since session =
      let w : Session = session_of o pushed since in
      begun_or (Shown w) (o page.tree.row.serial) (of_path keeper page.tree (node_at_path path page.tree) w) (refused NotPushed)
      (λ _. path-found o pushed since session (node_at_path path page.tree)) tt

  pushes-shown : (serials : List ℕ) (o : ℕ → Bool) (pushed : List ℕ) (since : ℕ) → IsSession n (session_of o pushed since)
      → o page.tree.row.serial ≡ true
      → Shown (session_of o pushed since) (with_ids keeper page.tree (all_pushed keeper page.tree serials (session_of o pushed since)))
  pushes-shown serials o pushed since session begun =
      let w : Session = session_of o pushed since in
      let q : Pushes Session = all_pushed keeper page.tree serials w in
      shows-new n (distinct-alone page valid) w q.progress.state (children_told q.progress.shown)
      (told-all_pushed page.tree (distinct-alone page valid) (containers-page page valid) serials (Some o) pushed since begun session).shows

  serials-shown : (serials : List ℕ) (o : Option (ℕ → Bool)) (pushed : List ℕ) (since : ℕ)
      → IsSession n (record { opened = o; pushed = pushed; since = since })
      → (let w : Session = record { opened = o; pushed = pushed; since = since } in
      Shown w (cond (is_open o page.tree.row.serial) (with_ids keeper page.tree (all_pushed keeper page.tree serials w))
      (refused NotPushed)))
  serials-shown serials None pushed since session = tt
  serials-shown serials (Some o) pushed since session =
      let w : Session = session_of o pushed since in
      begun_or (Shown w) (o page.tree.row.serial) (with_ids keeper page.tree (all_pushed keeper page.tree serials w)) (refused NotPushed)
      (λ begun. pushes-shown serials o pushed since session begun) tt

  -- a reply alone shows nothing
  none-shown : (w : Session) → ShowsNew n w w []
  none-shown w = shows-new n (distinct-alone page valid) w w [] (shows-none n w)

  attributes-shown : (w : Session) (found : Option (Branch PageRow)) → Shown w (of_attributes keeper page.tree found w)
  attributes-shown w None = tt
  attributes-shown w (Some x) =
      begun_or (Shown w) (is_element x.row.label.kind) (only_replied keeper page.tree (Attributes x.row.label.attributes) w) (refused _)
      (λ _. none-shown w) tt

  description-shown : (depth : Option ℤ) (w : Session) (found : Option (Branch PageRow))
      → Shown w (of_description keeper page.tree depth found w)
  description-shown depth w None = tt
  description-shown depth w (Some x) = none-shown w

  first-shown : (found : Option ℕ) (o : ℕ → Bool) (pushed : List ℕ) (since : ℕ) → IsSession n (session_of o pushed since)
      → Shown (session_of o pushed since) (with_first keeper page.tree found (session_of o pushed since))
  first-shown None o pushed since session = none-shown (session_of o pushed since)
  first-shown (Some s) o pushed since session = push-shown s o pushed since session

  query-shown : (w : Session) (asks : Query → Session → Outcome Session) → ((q : Query) → Shown w (asks q w)) → (q : Result Query Why)
      → Shown w (of_query keeper page.tree asks q w)
  query-shown w asks go (Err why) = tt
  query-shown w asks go (Ok q) = go q

  module _ (whole : Branch PageRow) where
    first-queried : (id : ℕ) (text : List ℕ) (o : Option (ℕ → Bool)) (pushed : List ℕ) (since : ℕ)
        → IsSession n (record { opened = o; pushed = pushed; since = since })
        → (let w : Session = record { opened = o; pushed = pushed; since = since } in
        Shown w (session_outcome page whole (QuerySelector id text) w))
    first-queried id text None pushed since session = tt
    first-queried id text (Some o) pushed since session =
        let w : Session = session_of o pushed since in
        query-shown w (first_asked keeper page.tree whole)
        (λ q. first-shown (first_matching q.selectors q.root whole) o pushed since session)
        (query_of (known_node keeper page.tree w (serial_at w n id)) text)

    all-queried : (id : ℕ) (text : List ℕ) (o : Option (ℕ → Bool)) (pushed : List ℕ) (since : ℕ)
        → IsSession n (record { opened = o; pushed = pushed; since = since })
        → (let w : Session = record { opened = o; pushed = pushed; since = since } in
        Shown w (session_outcome page whole (QuerySelectorAll id text) w))
    all-queried id text None pushed since session = tt
    all-queried id text (Some o) pushed since session =
        let w : Session = session_of o pushed since in
        query-shown w (all_asked keeper page.tree whole)
        (λ q. pushes-shown (all_matching q.selectors q.root whole) o pushed since session
        (root-opened page valid whole o pushed since session))
        (query_of (known_node keeper page.tree w (serial_at w n id)) text)

    -- each ask but that for the document
    others-shown : (c : DomAsk) → IsOther c → (w : Session) → IsSession n w → Shown w (session_outcome page whole c w)
    others-shown (GetDocument depth pierce) other w session = absurd other
    others-shown (RequestChildNodes id depth pierce) other w session = request-shown id depth w.opened w.pushed w.since session
    others-shown (PushByPath path) other w session = path-shown path w.opened w.pushed w.since session
    others-shown (PushBySerials serials) other w session = serials-shown serials w.opened w.pushed w.since session
    others-shown (QuerySelector id text) other w session = first-queried id text w.opened w.pushed w.since session
    others-shown (QuerySelectorAll id text) other w session = all-queried id text w.opened w.pushed w.since session
    others-shown (GetAttributes id) other w session = attributes-shown w (known_node keeper page.tree w (serial_at w n id))
    others-shown (DescribeNode id serial depth pierce) other w session =
        description-shown depth w (known_node keeper page.tree w (named_serial keeper w id serial))

    -- the document, and then further pieces
    document-shown : (depth : Option ℤ) (pierce : Option Bool) → has_depth (GetDocument depth pierce) ≡ true → (w : Session)
        → Shown w (session_outcome page whole (GetDocument depth pierce) w)
    document-shown depth pierce fits w =
        let d : Option ℕ = levels_of (unwrap_or depth (pos 1)) in
        let left : is_spent d ≡ false = document-left depth pierce fits in
        let e : Option ℕ = capped most_told d in
        let distinct = distinct-alone page valid in
        let z : Session = document_opened e n w in
        let begun : IsSession n z = IsSession-document_opened e page.tree.row page.tree.children w distinct (root_holds page valid)
        (spent-capped more_told d ∙ left) in
        let p : Progress Session = all_opened keeper page.tree (dealt more_told most_told d n) z in
        let pieces = told-openings n distinct page.tree (dealt more_told most_told d n) (above e n) z.pushed z.since begun
        (start-deals more_told page d valid left).are in
        let c : Nodes Seen = cut (above e n) (session_ids z) n in
        shows-new n distinct (reset w) p.state (c ∷ children_told p.shown)
        (shows-on n (reset w) z p.state (c ∷ []) (children_told p.shown) (shows-start n distinct e w) pieces.shows)

pub asks_show_new : AsksShowNew
asks_show_new page whole ask w valid fits session =
    either_ask (λ c. has_depth c ≡ true → OutcomeShowsNew (alone page.tree) w (session_outcome page whole c w))
    (λ depth pierce h. document-shown page valid whole depth pierce h w)
    (λ c other h. others-shown page valid whole c other w session)
    ask fits

-- ---- the events of a request

in_order_by : (page : PageValue) → IsValid page → (depth : Option ℤ) (opened : Option (ℕ → Bool)) (pushed : List ℕ) (since id : ℕ)
    (x : Branch PageRow) → IsSession (alone page.tree) (record { opened = opened; pushed = pushed; since = since })
    → known_node (session_keeper (alone page.tree)) page.tree (record { opened = opened; pushed = pushed; since = since })
    (serial_at (record { opened = opened; pushed = pushed; since = since }) (alone page.tree) id) ≡ Some x
    → (let w : Session = record { opened = opened; pushed = pushed; since = since } in
    let p = all_opened (session_keeper (alone page.tree)) page.tree (requested (is_open opened) (levels_asked depth) (alone x)) w in
    TellsInOrder (levels_asked depth) x w p.state p.shown)
in_order_by page valid depth None pushed since id x session found = cc
in_order_by page valid depth (Some o) pushed since id x session found =
    let d : Option ℕ = levels_asked depth in
    let w : Session = session_of o pushed since in
    let p : Progress Session = all_opened (session_keeper (alone page.tree)) page.tree (requested o d (alone x)) w in
    let v = asked-there page valid o pushed since id x found in
    let all = children-told page valid depth o pushed since session x v in
    record {
      containers = nodes_of (requested o d (alone x));
      told = are-told (alone page.tree) p.state (nodes_of (requested o d (alone x))) p.shown all.told;
      shut = requested-shut d (alone x) o (requested o d (alone x))
          (requested-at o d (alone x) (closed-in_view o x v session.opened_set.closed));
      order = requested-among o d (alone x);
    }

pub request_tells_in_order : RequestTellsInOrder
request_tells_in_order page whole id depth pierce w x valid session found =
    subst (λ (f : Option (Branch PageRow)). TellsInOrder (levels_asked depth) x w
    (state_after w (of_children (session_keeper (alone page.tree)) page.tree depth f w))
    (shown_by_outcome (of_children (session_keeper (alone page.tree)) page.tree depth f w))) (sym found)
    (in_order_by page valid depth w.opened w.pushed w.since id x session found)

-- ---- those of pushes

module _ (page : PageValue) (valid : IsValid page) where
  abbrev m : Nodes PageRow
  m = alone page.tree

  push-tells : (opened : Option (ℕ → Bool)) (pushed : List ℕ) (since s : ℕ)
      → IsSession m (record { opened = opened; pushed = pushed; since = since }) → is_open opened page.tree.row.serial ≡ true
      → (let w : Session = record { opened = opened; pushed = pushed; since = since } in
      PushesOne page.tree s w (with_id (session_keeper m) page.tree s (push_of (session_keeper m) page.tree s w)))
  push-tells None pushed since s session begun = cc
  push-tells (Some o) pushed since s session begun =
      let w : Session = session_of o pushed since in
      let p : Progress Session = push_of (session_keeper m) page.tree s w in
      record {
        events = pushes-told page.tree (s ∷ []) w p
            (subst (λ (l : List (Branch PageRow)). ToldPushes m w p l) (sym (append-nil (ancestors_down s m)))
            (told-pushed page.tree (distinct-alone page valid) (containers-page page valid) s o pushed since session));
        answered = refl;
      }

  serials-tell : (ss : List ℕ) (w : Session) → IsSession m w → is_open w.opened page.tree.row.serial ≡ true
      → PushesAll page.tree ss w (with_ids (session_keeper m) page.tree (all_pushed (session_keeper m) page.tree ss w))
  serials-tell ss w session begun =
      let distinct = distinct-alone page valid in
      let containers = containers-page page valid in
      record {
        events = pushes-told page.tree ss w (all_pushed (session_keeper m) page.tree ss w).progress
            (told-all_pushed page.tree distinct containers ss w.opened w.pushed w.since begun session);
        answered = ap (λ (ids : List ℕ). Some (NodeIds ids))
            (ids-all_pushed page.tree distinct containers ss w.opened w.pushed w.since begun session);
      }

pub path_tells : PathTells
path_tells page whole path w x valid session begun found =
    let k : Keeper Session = session_keeper (alone page.tree) in
    let P : Outcome Session → Type 0 = PushesOne page.tree x.row.serial w in
    subst (λ (b : Bool). P (cond b (of_path k page.tree (node_at_path path page.tree) w) (refused NotPushed))) (sym begun)
    (subst (λ (f : Option (Branch PageRow)). P (of_path k page.tree f w)) (sym found)
    (push-tells page valid w.opened w.pushed w.since x.row.serial session begun))

pub serials_tell : SerialsTell
serials_tell page whole serials w valid session begun =
    let k : Keeper Session = session_keeper (alone page.tree) in
    subst (λ (b : Bool). PushesAll page.tree serials w
    (cond b (with_ids k page.tree (all_pushed k page.tree serials w)) (refused NotPushed))) (sym begun)
    (serials-tell page valid serials w session begun)

pub first_found_tells : FirstFoundTells
first_found_tells page whole id text w q s valid session begun asked found =
    let k : Keeper Session = session_keeper (alone page.tree) in
    let P : Outcome Session → Type 0 = PushesOne page.tree s w in
    subst (λ (r : Result Query Why). P (of_query k page.tree (first_asked k page.tree whole) r w)) (sym asked)
    (subst (λ (f : Option ℕ). P (with_first k page.tree f w)) (sym found)
    (push-tells page valid w.opened w.pushed w.since s session begun))

pub found_tell : FoundTell
found_tell page whole id text w q valid session begun asked =
    let k : Keeper Session = session_keeper (alone page.tree) in
    let ss : List ℕ = all_matching q.selectors q.root whole in
    subst (λ (r : Result Query Why). PushesAll page.tree ss w (of_query k page.tree (all_asked k page.tree whole) r w)) (sym asked)
    (serials-tell page valid ss w session begun)
