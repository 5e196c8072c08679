-- What each command comes to for a session.
use Rattle.std.proofs.Common.{◌≡◌, ℕ, zero, suc, ℤ, pos, negsuc, ◌+◌, ◌<◌, ◌≤◌, ◌^◌, ◌==◌, Bool, true, false, ◌&&◌, ◌||◌, cond, List}
use Rattle.std.proofs.Common.{length, length-append, Option, Some, None, unwrap_or, Result, Ok, Err, refl, sym, ap, subst, ◌∙◌, arith}
use Rattle.std.proofs.Common.{lt-ltb}
use Rattle.std.proofs.lemmas.Bool.{and_parts, and_from}
use Rattle.node_tree.specs.Nodes.{Nodes, none, node, Branch, alone, node_count, map_rows, is_no_node}
use Rattle.node_tree.specs.Levels.{most_told}
use Rattle.node_tree.specs.Keys.{has, find}
use Rattle.node_tree.specs.Labels.{is_element, holds, is_formed_label}
use Rattle.node_tree.proofs.KeyLemmas.{found_key}
use Rattle.page_tree.specs.Forms.{may_stand, are_formed}
use Rattle.page_tree.specs.Pages.{PageRow, PageValue, IsValid, row_serial, row_label}
use Rattle.node_binding.specs.Counts.{times}
use Rattle.node_binding.specs.Cuts.{known}
use Rattle.node_binding.specs.Openings.{levels_of, is_spent, above}
use Rattle.node_binding.specs.Sessions.{Session, IsSession, session_of, session_ids, serial_at, document_opened}
use Rattle.node_binding.specs.Deals.{capped, dealt, more_told}
use Rattle.node_binding.proofs.DealLemmas.{asked-pieces, dealt-pieces, start-deals, spent-capped}
use Rattle.node_binding.proofs.StartLemmas.{root_holds, distinct-alone}
use Rattle.node_binding.proofs.SessionLemmas.{IsSession-document_opened}
use Rattle.node_binding.proofs.PairLemmas.{find-there}
use Rattle.node_binding.proofs.InViewLemmas.{InView, in_view}
use Rattle.cdp_messages.specs.declared.dom_ask.DomAsk.{DomAsk}
use Rattle.cdp_messages.specs.declared.dom_ask.DomAsk.TheVariants.{GetDocument, RequestChildNodes, PushByPath, PushBySerials, QuerySelector}
use Rattle.cdp_messages.specs.declared.dom_ask.DomAsk.TheVariants.{QuerySelectorAll, GetAttributes, DescribeNode}
use Rattle.cdp_messages.specs.declared.down.ReplyBody.{ReplyBody}
use Rattle.cdp_messages.specs.declared.down.ReplyBody.TheVariants.{Nothing, NodeId, NodeIds, Attributes, Node as ReplyNode}
use Rattle.cdp_messages.specs.DomAsks.{fits_ask, ask_name}
use Rattle.cdp_messages.proofs.Commands.{IsOther, either_ask}
use Rattle.cdp_messages.specs.Laws.{answers}
use Rattle.cdp_messages.specs.Results.{BodyHasUtf8, body_height, fits_body}
use Rattle.dom_agent.specs.Keepers.{Keeper, session_keeper}
use Rattle.dom_agent.specs.Paths.{node_at_path}
use Rattle.dom_agent.specs.Requests.{Outcome, shows_root, served, refused, Progress, Pushes, requested, known_node, named_serial}
use Rattle.dom_agent.specs.Requests.{of_children, all_opened}
use Rattle.dom_agent.specs.Requests.{of_path, of_attributes, of_description, only_replied, with_first, first_asked, all_asked, of_query}
use Rattle.dom_agent.specs.Requests.{with_id, with_ids, all_pushed, pushed as push_of, state_after}
use Rattle.dom_agent.specs.Described.{described}
use Rattle.dom_agent.specs.Queries.{Query, query_of, first_matching, all_matching}
use Rattle.cdp_messages.specs.declared.command.Why.{Why}
use Rattle.dom_agent.specs.Laws.{session_outcome, CanTell, has_depth, StaysSession, DrawsFew}
use Rattle.dom_agent.proofs.OpeningsLemmas.{AreContainers, request-are}
use Rattle.dom_agent.proofs.DescribedLemmas.{described-spells, attributes-spell}
use Rattle.dom_agent.proofs.StepLemmas.{Goes, CanSpell, goes-none, goes-few, goes-openings, goes-pushed, goes-all_pushed, is_small}
use Rattle.dom_agent.proofs.StepLemmas.{ids-below, length-known_by}

-- ---- depths

pub document-left : (depth : Option ℤ) (pierce : Option Bool) → fits_ask (GetDocument depth pierce) ≡ true
    → is_spent (levels_of (unwrap_or depth (pos 1))) ≡ false
document-left None pierce h = refl
document-left (Some (pos zero)) pierce h = let bad : false ≡ true = h in cc
document-left (Some (pos (suc d))) pierce h = refl
document-left (Some (negsuc d)) pierce h = refl

-- ---- pages

holds_above : (h : Bool) (c : Nodes PageRow) → (h || is_no_node (map_rows row_label c)) ≡ true → (s : ℕ) → has row_serial s c ≡ true
    → h ≡ true
holds_above true c e s there = refl
holds_above false none e s there = cc
holds_above false (node r c t) e s there = cc

containers-formed : (top : Bool) (n : Nodes PageRow) → are_formed top (map_rows row_label n) ≡ true → AreContainers n
containers-formed top none e = tt
containers-formed top (node r c t) e =
    let p4 = and_parts (is_formed_label r.label && may_stand top r.label.kind && (holds r.label.kind || is_no_node (map_rows row_label c))
    && are_formed false (map_rows row_label c)) (are_formed top (map_rows row_label t)) e in
    let p3 = and_parts (is_formed_label r.label && may_stand top r.label.kind && (holds r.label.kind || is_no_node (map_rows row_label c)))
    (are_formed false (map_rows row_label c)) p4.0 in
    let p2 = and_parts (is_formed_label r.label && may_stand top r.label.kind)
    (holds r.label.kind || is_no_node (map_rows row_label c)) p3.0 in
    (holds_above (holds r.label.kind) c p2.1, containers-formed false c p3.1, containers-formed top t p4.1)

pub containers-page : (page : PageValue) → IsValid page → AreContainers (alone page.tree)
containers-page page valid = (λ s there. root_holds page valid, containers-formed true page.tree.children valid.nodes.formed, tt)

-- ---- commands

-- what is served goes from the session as it was, and the reply is one of the command's, and no document
abbrev pub OutcomeGoes : PageValue → DomAsk → Session → Outcome Session → Type 0
OutcomeGoes page c w (shows_root b p) = ⊥
OutcomeGoes page c w (served p body) = Goes (alone page.tree) w p.state p.shown × (CanTell page w → CanSpell body)
    × (answers (ask_name c) body ≡ true)
OutcomeGoes page c w (refused why) = Unit {0}

-- a result without nodes and texts
number_spells : (body : ReplyBody) → fits_body body ≡ true → BodyHasUtf8 body → body_height body ≡ 0 → CanSpell body
number_spells body fits texts none_told = record { fits = fits; texts = texts; levels = omega (arith, none_told) }

begun_or : (P : Outcome Session → Type 0) (b : Bool) (x y : Outcome Session) → (b ≡ true → P x) → P y → P (cond b x y)
begun_or P true x y f g = f refl
begun_or P false x y f g = g

module _ (page : PageValue) (valid : IsValid page) where
  abbrev n : Nodes PageRow
  n = alone page.tree

  abbrev keeper : Keeper Session
  keeper = session_keeper n

  -- a known node that is found by its id
  pub known-found : (o : ℕ → Bool) (pushed : List ℕ) (since : ℕ) (serial : Option ℕ)
      → ((s : ℕ) → serial ≡ Some s → 0 < times s (known o n)) → (x : Branch PageRow)
      → known_node keeper page.tree (session_of o pushed since) serial ≡ Some x → InView o x n
  known-found o pushed since None there x e = cc
  known-found o pushed since (Some s) there x e =
      let is : x.row.serial ≡ s = found_key row_serial s n x e in
      in_view o x n (distinct-alone page valid) (ap (λ (k : ℕ). find row_serial k n) is ∙ e)
      (subst (λ (k : ℕ). 0 < times k (known o n)) (sym is) (there s refl))

  children-go : (c : DomAsk) (depth : Option ℤ) (o : ℕ → Bool) (pushed : List ℕ) (since : ℕ) → IsSession n (session_of o pushed since)
      → answers (ask_name c) Nothing ≡ true → (found : Option (Branch PageRow)) → ((x : Branch PageRow) → found ≡ Some x → InView o x n)
      → OutcomeGoes page c (session_of o pushed since) (of_children keeper page.tree depth found (session_of o pushed since))
  children-go c depth o pushed since session one None there = tt
  children-go c depth o pushed since session one (Some x) there =
      let v : InView o x n = there x refl in (
        goes-openings n (distinct-alone page valid) page.tree
            (requested o (levels_of (unwrap_or depth (pos 1))) (alone x)) o pushed since session
            (request-are page valid o pushed since session (levels_of (unwrap_or depth (pos 1))) x v)
            (asked-pieces more_told o (levels_of (unwrap_or depth (pos 1))) (alone x)),
        λ can. number_spells Nothing refl tt refl,
        one,
      )

  -- the id of a node
  pushed-spells : (z : Session) (s : ℕ) → IsSession n z → length z.pushed < 2 ^ 53 → CanSpell (NodeId (session_ids z s))
  pushed-spells z s session few =
      number_spells (NodeId (session_ids z s))
      (and_from (is_small (session_ids z s)) true
      (lt-ltb (session_ids z s) (2 ^ 53) (omega (arith, ids-below n z s session, few))) refl) tt refl

  -- a node is pushed, and its id is the reply
  push-goes : (c : DomAsk) → ((id : ℕ) → answers (ask_name c) (NodeId id) ≡ true) → (s : ℕ) (o : ℕ → Bool) (pushed : List ℕ) (since : ℕ)
      → IsSession n (session_of o pushed since)
      → OutcomeGoes page c (session_of o pushed since) (with_id keeper page.tree s (push_of keeper page.tree s (session_of o pushed since)))
  push-goes c one s o pushed since session =
      let w : Session = session_of o pushed since in
      let first : Progress Session = push_of keeper page.tree s w in
      let g = goes-pushed page.tree (distinct-alone page valid) (containers-page page valid) s o pushed since session in (
        g,
        λ can. pushed-spells first.state s g.session (omega (arith, goes-few n w first.state first.shown g, can.ids)),
        one
            (session_ids first.state s),
      )

  path-goes : (path : List ℕ) (o : ℕ → Bool) (pushed : List ℕ) (since : ℕ) → IsSession n (session_of o pushed since)
      → (found : Option (Branch PageRow))
      → OutcomeGoes page (PushByPath path) (session_of o pushed since) (of_path keeper page.tree found (session_of o pushed since))
  path-goes path o pushed since session None = tt
  path-goes path o pushed since session (Some x) = push-goes (PushByPath path) (λ id. refl) x.row.serial o pushed since session

  serials-go : (c : DomAsk) → ((ids : List ℕ) → answers (ask_name c) (NodeIds ids) ≡ true)
      → (serials : List ℕ) (o : ℕ → Bool) (pushed : List ℕ) (since : ℕ) → IsSession n (session_of o pushed since)
      → o page.tree.row.serial ≡ true
      → OutcomeGoes page c (session_of o pushed since)
      (with_ids keeper page.tree (all_pushed keeper page.tree serials (session_of o pushed since)))
  serials-go c one serials o pushed since session begun =
      let w : Session = session_of o pushed since in
      let p : Pushes Session = all_pushed keeper page.tree serials w in
      let g = goes-all_pushed page.tree (distinct-alone page valid) (containers-page page valid) serials
      (Some o) pushed since begun session in (
        g.goes,
        λ can. number_spells (NodeIds p.ids)
            (and_from _ true (g.ids (omega (arith, goes-few n w p.progress.state p.progress.shown g.goes, can.ids))) refl) tt refl,
        one p.ids,
      )

  module _ (whole : Branch PageRow) where
    -- each command but `DOM.getDocument`
    abbrev pub Asks : DomAsk → Session → Type 0
    Asks c w = OutcomeGoes page c w (session_outcome page whole c w)

    pub request-goes : (id : ℕ) (depth : Option ℤ) (pierce : Option Bool) (o : Option (ℕ → Bool)) (pushed : List ℕ) (since : ℕ)
        → IsSession n (record { opened = o; pushed = pushed; since = since })
        → Asks (RequestChildNodes id depth pierce) (record { opened = o; pushed = pushed; since = since })
    request-goes id depth pierce None pushed since session = tt
    request-goes id depth pierce (Some o) pushed since session =
        let w : Session = session_of o pushed since in
        children-go (RequestChildNodes id depth pierce) depth o pushed since session refl (known_node keeper page.tree w (serial_at w n id))
        (known-found o pushed since (serial_at w n id) (λ s e. (find-there (λ s. session_ids w s == id) (known o n) s e).0))

    pub path-pushed : (path : List ℕ) (o : Option (ℕ → Bool)) (pushed : List ℕ) (since : ℕ)
        → IsSession n (record { opened = o; pushed = pushed; since = since })
        → Asks (PushByPath path) (record { opened = o; pushed = pushed; since = since })
    path-pushed path None pushed since session = tt
    path-pushed path (Some o) pushed since session =
        let w : Session = session_of o pushed since in
        begun_or (OutcomeGoes page (PushByPath path) w) (o page.tree.row.serial) (of_path keeper page.tree (node_at_path path page.tree) w)
        (refused _)
        (λ _. path-goes path o pushed since session (node_at_path path page.tree)) tt

    pub serials-pushed : (serials : List ℕ) (o : Option (ℕ → Bool)) (pushed : List ℕ) (since : ℕ)
        → IsSession n (record { opened = o; pushed = pushed; since = since })
        → Asks (PushBySerials serials) (record { opened = o; pushed = pushed; since = since })
    serials-pushed serials None pushed since session = tt
    serials-pushed serials (Some o) pushed since session =
        let w : Session = session_of o pushed since in
        begun_or (OutcomeGoes page (PushBySerials serials) w) (o page.tree.row.serial)
        (with_ids keeper page.tree (all_pushed keeper page.tree serials w)) (refused _)
        (λ begun. serials-go (PushBySerials serials) (λ ids. refl) serials o pushed since session begun) tt

    -- ---- what changes nothing

    -- a reply alone
    reply-goes : (c : DomAsk) (w : Session) (body : ReplyBody) → IsSession n w → (CanTell page w → CanSpell body)
        → answers (ask_name c) body ≡ true → OutcomeGoes page c w (only_replied keeper page.tree body w)
    reply-goes c w body session spells one = (goes-none n w session, spells, one)

    -- a node that is found stands in the page
    named-found : (w : Session) (serial : Option ℕ) (x : Branch PageRow) → known_node keeper page.tree w serial ≡ Some x
        → (s : ℕ) × (find row_serial s n ≡ Some x)
    named-found w None x e = cc
    named-found w (Some s) x e = (s, e)

    named-there : (w : Session) (id serial : Option ℕ) (x : Branch PageRow)
        → known_node keeper page.tree w (named_serial keeper w id serial) ≡ Some x
        → (s : ℕ) × (find row_serial s n ≡ Some x)
    named-there w None serial x e = named-found w serial x e
    named-there w (Some id) serial x e = named-found w (serial_at w n id) x e

    attributes-go : (id : ℕ) (w : Session) → IsSession n w → (found : Option (Branch PageRow))
        → ((x : Branch PageRow) → found ≡ Some x → (s : ℕ) × (find row_serial s n ≡ Some x))
        → OutcomeGoes page (GetAttributes id) w (of_attributes keeper page.tree found w)
    attributes-go id w session None there = tt
    attributes-go id w session (Some x) there =
        begun_or (OutcomeGoes page (GetAttributes id) w) (is_element x.row.label.kind)
        (only_replied keeper page.tree (Attributes x.row.label.attributes) w) (refused _)
        (λ element. (let at = there x refl in reply-goes (GetAttributes id) w (Attributes x.row.label.attributes) session
        (attributes-spell page w valid at.0 x at.1 element) refl)) tt

    description-goes : (id serial : Option ℕ) (depth : Option ℤ) (pierce : Option Bool) (w : Session) → IsSession n w
        → (found : Option (Branch PageRow)) → ((x : Branch PageRow) → found ≡ Some x → (s : ℕ) × (find row_serial s n ≡ Some x))
        → OutcomeGoes page (DescribeNode id serial depth pierce) w (of_description keeper page.tree depth found w)
    description-goes id serial depth pierce w session None there = tt
    description-goes id serial depth pierce w session (Some x) there =
        let levels : Option ℕ = levels_of (unwrap_or depth (pos 1)) in
        let at = there x refl in
        reply-goes (DescribeNode id serial depth pierce) w (ReplyNode (described (capped most_told levels) x)) session
        (described-spells page w valid at.0 x at.1 levels) refl

    -- ---- queries

    -- the document is opened where anything is
    pub root-opened : (o : ℕ → Bool) (pushed : List ℕ) (since : ℕ) → IsSession n (session_of o pushed since) → o page.tree.row.serial ≡ true
    root-opened o pushed since session = (and_parts (o page.tree.row.serial) true session.opened_set.rooted).0

    first-goes : (c : DomAsk) → ((id : ℕ) → answers (ask_name c) (NodeId id) ≡ true)
        → (found : Option ℕ) (o : ℕ → Bool) (pushed : List ℕ) (since : ℕ) → IsSession n (session_of o pushed since)
        → OutcomeGoes page c (session_of o pushed since) (with_first keeper page.tree found (session_of o pushed since))
    first-goes c one None o pushed since session = reply-goes c (session_of o pushed since) (NodeId 0) session
        (λ can. number_spells (NodeId 0) refl tt refl) (one 0)
    first-goes c one (Some s) o pushed since session = push-goes c one s o pushed since session

    query-goes : (c : DomAsk) (w : Session) (asks : Query → Session → Outcome Session)
        → ((q : Query) → OutcomeGoes page c w (asks q w)) → (q : Result Query Why)
        → OutcomeGoes page c w (of_query keeper page.tree asks q w)
    query-goes c w asks go (Err why) = tt
    query-goes c w asks go (Ok q) = go q

    first-queried : (id : ℕ) (text : List ℕ) (o : Option (ℕ → Bool)) (pushed : List ℕ) (since : ℕ)
        → IsSession n (record { opened = o; pushed = pushed; since = since })
        → Asks (QuerySelector id text) (record { opened = o; pushed = pushed; since = since })
    first-queried id text None pushed since session = tt
    first-queried id text (Some o) pushed since session =
        let w : Session = session_of o pushed since in
        query-goes (QuerySelector id text) w (first_asked keeper page.tree whole)
        (λ q. first-goes (QuerySelector id text) (λ k. refl) (first_matching q.selectors q.root whole) o pushed since session)
        (query_of (known_node keeper page.tree w (serial_at w n id)) text)

    all-queried : (id : ℕ) (text : List ℕ) (o : Option (ℕ → Bool)) (pushed : List ℕ) (since : ℕ)
        → IsSession n (record { opened = o; pushed = pushed; since = since })
        → Asks (QuerySelectorAll id text) (record { opened = o; pushed = pushed; since = since })
    all-queried id text None pushed since session = tt
    all-queried id text (Some o) pushed since session =
        let w : Session = session_of o pushed since in
        query-goes (QuerySelectorAll id text) w (all_asked keeper page.tree whole)
        (λ q. serials-go (QuerySelectorAll id text) (λ ids. refl) (all_matching q.selectors q.root whole) o pushed since session
        (root-opened o pushed since session)) (query_of (known_node keeper page.tree w (serial_at w n id)) text)

    -- each ask but that for the document
    pub asks-go : (c : DomAsk) → IsOther c → (w : Session) → IsSession n w → Asks c w
    asks-go (GetDocument depth pierce) other w session = absurd other
    asks-go (RequestChildNodes id depth pierce) other w session = request-goes id depth pierce w.opened w.pushed w.since session
    asks-go (PushByPath path) other w session = path-pushed path w.opened w.pushed w.since session
    asks-go (PushBySerials serials) other w session = serials-pushed serials w.opened w.pushed w.since session
    asks-go (QuerySelector id text) other w session = first-queried id text w.opened w.pushed w.since session
    asks-go (QuerySelectorAll id text) other w session = all-queried id text w.opened w.pushed w.since session
    asks-go (GetAttributes id) other w session = attributes-go id w session (known_node keeper page.tree w (serial_at w n id))
        (named-found w (serial_at w n id))
    asks-go (DescribeNode id serial depth pierce) other w session =
        description-goes id serial depth pierce w session (known_node keeper page.tree w (named_serial keeper w id serial))
        (named-there w id serial)

-- ---- laws

-- a parameter that is in its range is a depth that is
pub depth-fits : (c : DomAsk) → fits_ask c ≡ true → has_depth c ≡ true
depth-fits (GetDocument depth pierce) fits = fits
depth-fits (RequestChildNodes id depth pierce) fits = refl
depth-fits (PushByPath path) fits = refl
depth-fits (PushBySerials serials) fits = refl
depth-fits (QuerySelector id text) fits = refl
depth-fits (QuerySelectorAll id text) fits = refl
depth-fits (GetAttributes id) fits = refl
depth-fits (DescribeNode id serial depth pierce) fits = refl

goes_session : (page : PageValue) (c : DomAsk) (w : Session) (out : Outcome Session) → IsSession (alone page.tree) w
    → OutcomeGoes page c w out → IsSession (alone page.tree) (state_after w out)
goes_session page c w (shows_root b p) session g = absurd g
goes_session page c w (served p body) session g = g.0.session
goes_session page c w (refused why) session g = session

goes_few : (page : PageValue) (c : DomAsk) (w : Session) (out : Outcome Session) → OutcomeGoes page c w out
    → length (state_after w out).pushed ≤ length w.pushed + node_count (alone page.tree)
goes_few page c w (shows_root b p) g = absurd g
goes_few page c w (served p body) g = goes-few (alone page.tree) w p.state p.shown g.0
goes_few page c w (refused why) g = omega arith

-- what further pieces of the document come to, from the session in which the first is opened
pub document-goes : (page : PageValue) → IsValid page → (d : Option ℕ) → is_spent d ≡ false → (w : Session)
    → (let z = document_opened (capped most_told d) (alone page.tree) w in
    let p = all_opened (session_keeper (alone page.tree)) page.tree (dealt more_told most_told d (alone page.tree)) z in
    Goes (alone page.tree) z p.state p.shown)
document-goes page valid d left w =
    let n : Nodes PageRow = alone page.tree in
    let z : Session = document_opened (capped most_told d) n w in
    let begun : IsSession n z = IsSession-document_opened (capped most_told d) page.tree.row page.tree.children w
    (distinct-alone page valid) (root_holds page valid) (spent-capped more_told d ∙ left) in
    goes-openings n (distinct-alone page valid) page.tree (dealt more_told most_told d n) (above (capped most_told d) n) z.pushed z.since
    begun (start-deals more_told page d valid left).are (dealt-pieces more_told most_told d n)

-- these draw no more ids than the page has nodes
pub document-few : (page : PageValue) → IsValid page → (d : Option ℕ) → is_spent d ≡ false → (w : Session)
    → (let z = document_opened (capped most_told d) (alone page.tree) w in
    length (all_opened (session_keeper (alone page.tree)) page.tree (dealt more_told most_told d (alone page.tree)) z).state.pushed
    ≤ length w.pushed + node_count (alone page.tree))
document-few page valid d left w =
    let n : Nodes PageRow = alone page.tree in
    let z : Session = document_opened (capped most_told d) n w in
    let p : Progress Session = all_opened (session_keeper n) page.tree (dealt more_told most_told d n) z in
    omega (
      arith,
      (document-goes page valid d left w).counts,
      length-known_by p.state.opened n,
      length-append w.pushed (known (above (capped most_told d) n) n),
    )

pub stays_session : StaysSession
stays_session page whole ask w valid fits session =
    either_ask (λ c. has_depth c ≡ true → IsSession (alone page.tree) (state_after w (session_outcome page whole c w)))
    (λ depth pierce h. (document-goes page valid (levels_of (unwrap_or depth (pos 1))) (document-left depth pierce h) w).session)
    (λ c other h. goes_session page c w (session_outcome page whole c w) session (asks-go page valid whole c other w session))
    ask fits

pub draws_few : DrawsFew
draws_few page whole ask w valid fits session =
    let n : Nodes PageRow = alone page.tree in
    either_ask (λ c. has_depth c ≡ true → length (state_after w (session_outcome page whole c w)).pushed ≤ length w.pushed + node_count n)
    (λ depth pierce h. document-few page valid (levels_of (unwrap_or depth (pos 1))) (document-left depth pierce h) w)
    (λ c other h. goes_few page c w (session_outcome page whole c w) (asks-go page valid whole c other w session))
    ask fits
