-- By a binding that stands for a session each command comes to the same.
use Rattle.std.proofs.Common.{◌≡◌, ℕ, ℤ, pos, ◌<◌, ◌==◌, Bool, true, false, cond, List, [], ◌∷◌, ◌++◌, Option, Some, None, unwrap_or}
use Rattle.std.proofs.Common.{Result, Ok, Err, refl, sym, ap, subst, ◌∙◌}
use Rattle.node_tree.specs.Nodes.{Nodes, none, node, Branch, alone}
use Rattle.node_tree.specs.Keys.{has}
use Rattle.node_tree.specs.Labels.{is_element, holds}
use Rattle.node_tree.specs.Seen.{Seen, leaf}
use Rattle.page_tree.specs.Pages.{PageRow, PageValue, IsValid, row_serial}
use Rattle.node_binding.specs.Counts.{times, stands_in}
use Rattle.node_binding.specs.Cuts.{opens, known, cut}
use Rattle.node_binding.specs.Openings.{levels_of, is_spent, opened_also, above}
use Rattle.node_binding.specs.Sessions.{Session, IsSession, CanOpen, session_of, is_open, known_by, knows, session_ids, serial_at}
use Rattle.node_binding.specs.Sessions.{document_opened, grown}
use Rattle.node_binding.specs.Bindings.{BindingValue, Stands, opened_in, id_in, started, opened_down}
use Rattle.node_binding.proofs.Places.{times-is_in}
use Rattle.node_binding.specs.Deals.{capped, dealt, more_told}
use Rattle.node_binding.proofs.DealLemmas.{start-deals, spent-capped}
use Rattle.node_binding.proofs.SessionLemmas.{IsSession-document_opened}
use Rattle.node_binding.proofs.StartLemmas.{distinct-alone, root_holds}
use Rattle.node_tree.specs.Levels.{most_told}
use Rattle.node_binding.proofs.StandsLemmas.{Stands-document_opened}
use Rattle.node_binding.proofs.CutLemmas.{cut-same, ids-stands, cut-stands}
use Rattle.node_binding.proofs.PairLemmas.{find-there}
use Rattle.node_binding.proofs.OpeningLemmas.{AreDistinct}
use Rattle.node_binding.proofs.LawLemmas.{Stands-open_down}
use Rattle.node_binding.proofs.InViewLemmas.{InView, in_view-known, in_view-grows, can_open-in_view, known-in_view}
use Rattle.node_binding.proofs.InViewLemmas.{roots_in_view, opened-grows}
use Rattle.node_binding.proofs.OpenedLemmas.{IsSession-opened, open_afterwards}
use Rattle.cdp_messages.specs.declared.dom_ask.DomAsk.{DomAsk}
use Rattle.cdp_messages.specs.declared.dom_ask.DomAsk.TheVariants.{GetDocument, RequestChildNodes, PushByPath, PushBySerials, QuerySelector}
use Rattle.cdp_messages.specs.declared.dom_ask.DomAsk.TheVariants.{QuerySelectorAll, GetAttributes, DescribeNode}
use Rattle.cdp_messages.specs.declared.command.Why.TheVariants.{NotPushed}
use Rattle.cdp_messages.specs.declared.down.ReplyBody.TheVariants.{NodeId, NodeIds}
use Rattle.client_views.specs.Moves.{root, replied, failed}
use Rattle.dom_agent.specs.Keepers.{Keeper, session_keeper, binding_keeper}
use Rattle.dom_agent.specs.Paths.{node_at_path}
use Rattle.dom_agent.specs.Requests.{Opening, Showing, Progress, Pushes, Outcome, shows_root, served, refused, requested, pushing}
use Rattle.dom_agent.specs.Requests.{all_opened, pushed as push_of, all_pushed, known_node, named_serial, of_children, of_path}
use Rattle.dom_agent.specs.Requests.{of_attributes}
use Rattle.dom_agent.specs.Requests.{of_description, with_first, first_asked, all_asked, of_query, with_id, with_ids, state_after}
use Rattle.dom_agent.specs.Requests.{opening_moves, moves_of}
use Rattle.dom_agent.specs.Laws.{FindsInside, session_outcome, binding_outcome, has_depth, StaysBound, SameMoves}
use Rattle.dom_agent.proofs.OpeningsLemmas.{AreOpenings, AreContainers, opened_all, request-are, pushing-are}
use Rattle.dom_agent.proofs.StepLemmas.{Goes, goes-pushed}
use Rattle.dom_agent.proofs.OutcomeLemmas.{containers-page, known-found, root-opened, document-left}
use Rattle.dom_agent.proofs.QueryLemmas.{query-live}
use Rattle.dom_agent.specs.Queries.{Query, query_of, first_matching, all_matching}
use Rattle.cdp_messages.specs.declared.command.Why.{Why}
use Rattle.dom_agent.proofs.KnownLemmas.{opened_after, pushed-known, path-there}

-- the binding stands for the session, and the same is told
pub record Alike (n : Nodes PageRow) (p : Progress Session) (q : Progress BindingValue) : Type 0 where
  pub stands : Stands n p.state q.state
  pub shown : q.shown ≡ p.shown

pub record AlikePushes (n : Nodes PageRow) (p : Pushes Session) (q : Pushes BindingValue) : Type 0 where
  pub progress : Alike n p.progress q.progress
  pub ids : q.ids ≡ p.ids

-- the id of a known node
id-known : (n : Nodes PageRow) (w : Session) (b : BindingValue) → Stands n w b → (s : ℕ) → knows w n s ≡ true → id_in b s ≡ session_ids w s
id-known n w b stands s e =
    ap (λ x. unwrap_or x 0) (stands.ids_are s) ∙ ap (λ v. unwrap_or (cond v (Some (session_ids w s)) None) 0) e

opens_row : (h a : Bool) → h ≡ true → a ≡ true → cond h a false ≡ true
opens_row h a e f = rw (e, f) refl

either_both : {A B : Type 0} (P : A → B → Type 0) (b : Bool) (x y : A) (u v : B) → (b ≡ true → P x u) → P y v → P (cond b x y) (cond b u v)
either_both P true x y u v f g = f refl
either_both P false x y u v f g = g

module _ (n : Nodes PageRow) (distinct : AreDistinct n) (document : Branch PageRow) where
  abbrev of_session : Keeper Session
  of_session = session_keeper n

  abbrev of_binding : Keeper BindingValue
  of_binding = binding_keeper n

  -- what is told of an opening
  told_alike : (d : Option ℕ) (x : Branch PageRow) (o : ℕ → Bool) (pushed : List ℕ) (since : ℕ) (b : BindingValue) → is_spent d ≡ false
      → CanOpen n o x → IsSession n (session_of o pushed since) → Stands n (grown o (opened_also d x o) n (session_of o pushed since)) b
      → ◌≡◌ {A = Showing} (record { parent = id_in b x.row.serial; children = cut (opened_in b) (id_in b) x.children })
      (record {
        parent = session_ids (grown o (opened_also d x o) n (session_of o pushed since)) x.row.serial;
        children = cut (opened_also d x o) (session_ids (grown o (opened_also d x o) n (session_of o pushed since))) x.children;
      })
  told_alike d x o pushed since b left can session stands =
      let p : ℕ → Bool = opened_also d x o in
      let z : Session = grown o p n (session_of o pushed since) in
      let v : InView p x n = in_view-grows o p (opened-grows o d x) (can_open-in_view o x n distinct can) in
      let open_now : opens p x.row ≡ true = opens_row (holds x.row.label.kind) (p x.row.serial) can.container
      (open_afterwards d n x o pushed since distinct left can session) in
      let ids : (s : ℕ) → 0 < times s (known p n) → id_in b s ≡ session_ids z s = ids-stands n p z.pushed z.since b stands in
      let parent : id_in b x.row.serial ≡ session_ids z x.row.serial = ids x.row.serial (in_view-known p x v) in
      let children : cut (opened_in b) (id_in b) x.children ≡ cut p (session_ids z) x.children =
      cut-same (opened_in b) p (id_in b) (session_ids z) stands.opened_is x.children (λ s h. ids s (known-in_view p x v open_now s h)) in
      λ i. record { parent = parent i; children = children i }

  pub alike-openings : (xs : List Opening) (o : ℕ → Bool) (pushed : List ℕ) (since : ℕ) (b : BindingValue)
      → IsSession n (session_of o pushed since) → Stands n (session_of o pushed since) b → AreOpenings n o xs
      → Alike n (all_opened of_session document xs (session_of o pushed since)) (all_opened of_binding document xs b)
  alike-openings [] o pushed since b session stands are = record { stands = stands; shown = refl }
  alike-openings (y ∷ ys) o pushed since b session stands are =
      let d : Option ℕ = y.levels in
      let x : Branch PageRow = y.node in
      let p : ℕ → Bool = opened_also d x o in
      let z : Session = grown o p n (session_of o pushed since) in
      let after : Stands n z (opened_down d x b) = Stands-open_down d n x o pushed since b distinct are.0 are.1 session stands in
      let rest = alike-openings ys p z.pushed z.since (opened_down d x b)
      (IsSession-opened d n x o pushed since distinct are.0 are.1 session) after are.2 in
      let told = told_alike d x o pushed since (opened_down d x b) are.0 are.1 session after in
      record { stands = rest.stands; shown = λ i. told i ∷ rest.shown i }

-- ---- pushes

module _ (document : Branch PageRow) (distinct : AreDistinct (alone document)) (containers : AreContainers (alone document)) where
  abbrev n : Nodes PageRow
  n = alone document

  abbrev by_session : Keeper Session
  by_session = session_keeper n

  abbrev by_binding : Keeper BindingValue
  by_binding = binding_keeper n

  -- the tests of the opened set are one
  same_tests : (o : ℕ → Bool) (pushed : List ℕ) (since : ℕ) (b : BindingValue) → Stands n (session_of o pushed since) b → opened_in b ≡ o
  same_tests o pushed since b stands = λ i s. stands.opened_is s i

  pub alike-pushed : (s : ℕ) (o : ℕ → Bool) (pushed : List ℕ) (since : ℕ) (b : BindingValue) → IsSession n (session_of o pushed since)
      → Stands n (session_of o pushed since) b
      → Alike n (push_of by_session document s (session_of o pushed since)) (push_of by_binding document s b)
  alike-pushed s o pushed since b session stands =
      subst (λ (q : ℕ → Bool). Alike n (push_of by_session document s (session_of o pushed since))
      (all_opened by_binding document (pushing q s n) b)) (sym (same_tests o pushed since b stands))
      (alike-openings n distinct document (pushing o s n) o pushed since b session stands
      (pushing-are n distinct o s n o containers distinct (roots_in_view o n) (λ k h. refl)))

  -- a node that was pushed has the same id
  pub pushed-id : (s : ℕ) (o : ℕ → Bool) (pushed : List ℕ) (since : ℕ) (b : BindingValue) → IsSession n (session_of o pushed since)
      → Stands n (session_of o pushed since) b → has row_serial s n ≡ true
      → id_in (push_of by_binding document s b).state s ≡ session_ids (push_of by_session document s (session_of o pushed since)).state s
  pushed-id s o pushed since b session stands there =
      let xs : List Opening = pushing o s n in
      let z : Session = (push_of by_session document s (session_of o pushed since)).state in
      let is : z.opened ≡ Some (opened_all o xs) = opened_after n document xs o pushed since in
      let found : 0 < times s (known (opened_all o xs) n) = pushed-known o s (opened_all o xs) n o containers distinct (λ k h. refl)
      (λ k e. e) there in
      id-known n z (push_of by_binding document s b).state (alike-pushed s o pushed since b session stands).stands s
      (ap (λ (q : Option (ℕ → Bool)). stands_in s (known_by q n)) is ∙ times-is_in (known (opened_all o xs) n) s found)

  pub alike-all_pushed : (ss : List ℕ) (opened : Option (ℕ → Bool)) (pushed : List ℕ) (since : ℕ) (b : BindingValue)
      → is_open opened document.row.serial ≡ true → IsSession n (record { opened = opened; pushed = pushed; since = since })
      → Stands n (record { opened = opened; pushed = pushed; since = since }) b
      → AlikePushes n (all_pushed by_session document ss (record { opened = opened; pushed = pushed; since = since }))
      (all_pushed by_binding document ss b)
  alike-all_pushed [] opened pushed since b begun session stands = record {
    progress = record { stands = stands; shown = refl };
    ids = refl;
  }
  alike-all_pushed (s ∷ ss) None pushed since b begun session stands = cc
  alike-all_pushed (s ∷ ss) (Some o) pushed since b begun session stands =
      let w : Session = session_of o pushed since in
      let first : Progress Session = push_of by_session document s w in
      let second : Progress BindingValue = push_of by_binding document s b in
      let goes : Goes n w first.state first.shown = goes-pushed document distinct containers s o pushed since session in
      let alike : Alike n first second = alike-pushed s o pushed since b session stands in
      let rest : Pushes Session = all_pushed by_session document ss first.state in
      let rest_b : Pushes BindingValue = all_pushed by_binding document ss second.state in
      let more : AlikePushes n rest rest_b = alike-all_pushed ss first.state.opened first.state.pushed first.state.since second.state
      (goes.grows document.row.serial begun) goes.session alike.stands in
      let others : Pushes Session = all_pushed by_session document ss w in
      let others_b : Pushes BindingValue = all_pushed by_binding document ss b in
      let past : AlikePushes n others others_b = alike-all_pushed ss (Some o) pushed since b begun session stands in
      either_both (AlikePushes n) (has row_serial s n)
      (record {
        progress = record { state = rest.progress.state; shown = first.shown ++ rest.progress.shown };
        ids = session_ids first.state s ∷ rest.ids;
      })
      (record { progress = record { state = others.progress.state; shown = others.progress.shown }; ids = 0 ∷ others.ids })
      (record {
        progress = record { state = rest_b.progress.state; shown = second.shown ++ rest_b.progress.shown };
        ids = id_in second.state s ∷ rest_b.ids;
      })
      (record { progress = record { state = others_b.progress.state; shown = others_b.progress.shown }; ids = 0 ∷ others_b.ids })
      (λ there. (let id = pushed-id s o pushed since b session stands there in
      record {
        progress = record { stands = more.progress.stands; shown = λ i. alike.shown i ++ more.progress.shown i };
        ids = λ i. id i ∷ more.ids i;
      }))
      (record { progress = record { stands = past.progress.stands; shown = past.progress.shown }; ids = λ i. 0 ∷ past.ids i })

-- ---- commands

abbrev pub AlikeOutcomes : Nodes PageRow → Outcome Session → Outcome BindingValue → Type 0
AlikeOutcomes n (shows_root b p) (shows_root d q) = Stands n p.state q.state × (q.shown ≡ p.shown) × (d ≡ b)
AlikeOutcomes n (shows_root b p) (served q other) = ⊥
AlikeOutcomes n (shows_root b p) (refused other) = ⊥
AlikeOutcomes n (served p body) (shows_root d q) = ⊥
AlikeOutcomes n (served p body) (served q other) = Stands n p.state q.state × (q.shown ≡ p.shown) × (other ≡ body)
AlikeOutcomes n (served p body) (refused other) = ⊥
AlikeOutcomes n (refused why) (shows_root d q) = ⊥
AlikeOutcomes n (refused why) (served q other) = ⊥
AlikeOutcomes n (refused why) (refused other) = other ≡ why

alike_begun : (n : Nodes PageRow) (a c : Bool) (x : Outcome Session) (y : Outcome BindingValue) → c ≡ a → (a ≡ true → AlikeOutcomes n x y)
    → AlikeOutcomes n (cond a x (refused NotPushed)) (cond c y (refused NotPushed))
alike_begun n a c x y e f =
    subst (λ (t : Bool). AlikeOutcomes n (cond a x (refused NotPushed)) (cond t y (refused NotPushed))) (sym e)
    (either_both (AlikeOutcomes n) a x (refused NotPushed) y (refused NotPushed) f refl)

-- the first tree
abbrev root_of : Branch Seen → Nodes Seen → Branch Seen
root_of d none = d
root_of d (node r c t) = record { row = r; children = c }

module _ (page : PageValue) (valid : IsValid page) where
  abbrev m : Nodes PageRow
  m = alone page.tree

  abbrev keeper : Keeper Session
  keeper = session_keeper m

  abbrev binder : Keeper BindingValue
  binder = binding_keeper m

  same_node : (w : Session) (b : BindingValue) (serial : Option ℕ)
      → known_node binder page.tree b serial ≡ known_node keeper page.tree w serial
  same_node w b None = refl
  same_node w b (Some s) = refl

  children_alike : (depth : Option ℤ) (o : ℕ → Bool) (pushed : List ℕ) (since : ℕ) (b : BindingValue)
      → IsSession m (session_of o pushed since) → Stands m (session_of o pushed since) b → (found : Option (Branch PageRow))
      → ((x : Branch PageRow) → found ≡ Some x → InView o x m)
      → AlikeOutcomes m (of_children keeper page.tree depth found (session_of o pushed since)) (of_children binder page.tree depth found b)
  children_alike depth o pushed since b session stands None there = refl
  children_alike depth o pushed since b session stands (Some x) there =
      let d : Option ℕ = levels_of (unwrap_or depth (pos 1)) in
      let v : InView o x m = there x refl in
      let distinct : AreDistinct m = distinct-alone page valid in
      let are : AreOpenings m o (requested o d (alone x)) = request-are page valid o pushed since session d x v in
      let alike = subst (λ (q : ℕ → Bool). Alike m (all_opened keeper page.tree (requested o d (alone x)) (session_of o pushed since))
      (all_opened binder page.tree (requested q d (alone x)) b))
      (sym (same_tests page.tree distinct (containers-page page valid) o pushed since b stands))
      (alike-openings m distinct page.tree (requested o d (alone x)) o pushed since b session stands are) in
      (alike.stands, alike.shown, refl)

  module _ (whole : Branch PageRow) (inside : FindsInside whole page.tree) where
    request_alike : (id : ℕ) (depth : Option ℤ) (pierce : Option Bool) (o : Option (ℕ → Bool)) (pushed : List ℕ) (since : ℕ)
        (b : BindingValue) → IsSession m (record { opened = o; pushed = pushed; since = since })
        → Stands m (record { opened = o; pushed = pushed; since = since }) b
        → AlikeOutcomes m
        (session_outcome page whole (RequestChildNodes id depth pierce) (record { opened = o; pushed = pushed; since = since }))
        (binding_outcome page whole (RequestChildNodes id depth pierce) b)
    request_alike id depth pierce None pushed since b session stands =
        subst (λ (serial : Option ℕ). AlikeOutcomes m
        (session_outcome page whole (RequestChildNodes id depth pierce) (record { opened = None; pushed = pushed; since = since }))
        (of_children binder page.tree depth (known_node binder page.tree b serial) b)) (sym (stands.serials_are id)) refl
    request_alike id depth pierce (Some o) pushed since b session stands =
        let w : Session = session_of o pushed since in
        let found : Option (Branch PageRow) = known_node keeper page.tree w (serial_at w m id) in
        subst (λ (f : Option (Branch PageRow)). AlikeOutcomes m (of_children keeper page.tree depth found w)
        (of_children binder page.tree depth f b))
        (sym (ap (known_node binder page.tree b) (stands.serials_are id) ∙ same_node w b (serial_at w m id)))
        (children_alike depth o pushed since b session stands found
        (known-found page valid o pushed since (serial_at w m id) (λ s e. (find-there (λ s. session_ids w s == id) (known o m) s e).0)))

    push_alike : (s : ℕ) (o : ℕ → Bool) (pushed : List ℕ) (since : ℕ) (b : BindingValue) → IsSession m (session_of o pushed since)
        → Stands m (session_of o pushed since) b → has row_serial s m ≡ true
        → AlikeOutcomes m (with_id keeper page.tree s (push_of keeper page.tree s (session_of o pushed since)))
        (with_id binder page.tree s (push_of binder page.tree s b))
    push_alike s o pushed since b session stands there =
        let alike = alike-pushed page.tree (distinct-alone page valid) (containers-page page valid) s o pushed since b session stands in
        let id = pushed-id page.tree (distinct-alone page valid) (containers-page page valid) s o pushed since b session stands there in
        (alike.stands, alike.shown, ap NodeId id)

    path_alike : (o : ℕ → Bool) (pushed : List ℕ) (since : ℕ) (b : BindingValue) → IsSession m (session_of o pushed since)
        → Stands m (session_of o pushed since) b → (found : Option (Branch PageRow))
        → ((x : Branch PageRow) → found ≡ Some x → has row_serial x.row.serial m ≡ true)
        → AlikeOutcomes m (of_path keeper page.tree found (session_of o pushed since)) (of_path binder page.tree found b)
    path_alike o pushed since b session stands None there = refl
    path_alike o pushed since b session stands (Some x) there = push_alike x.row.serial o pushed since b session stands (there x refl)

    by_path_alike : (path : List ℕ) (o : Option (ℕ → Bool)) (pushed : List ℕ) (since : ℕ) (b : BindingValue)
        → IsSession m (record { opened = o; pushed = pushed; since = since })
        → Stands m (record { opened = o; pushed = pushed; since = since }) b
        → AlikeOutcomes m (session_outcome page whole (PushByPath path) (record { opened = o; pushed = pushed; since = since }))
        (binding_outcome page whole (PushByPath path) b)
    by_path_alike path None pushed since b session stands =
        alike_begun m false (opened_in b page.tree.row.serial)
        (of_path keeper page.tree (node_at_path path page.tree) (record { opened = None; pushed = pushed; since = since }))
        (of_path binder page.tree (node_at_path path page.tree) b)
        (stands.opened_is page.tree.row.serial) (λ e. cc)
    by_path_alike path (Some o) pushed since b session stands =
        alike_begun m (o page.tree.row.serial) (opened_in b page.tree.row.serial)
        (of_path keeper page.tree (node_at_path path page.tree) (session_of o pushed since))
        (of_path binder page.tree (node_at_path path page.tree) b)
        (stands.opened_is page.tree.row.serial)
        (λ _. path_alike o pushed since b session stands (node_at_path path page.tree) (λ x e. path-there path page.tree x e))

    all_alike : (serials : List ℕ) (o : ℕ → Bool) (pushed : List ℕ) (since : ℕ) (b : BindingValue) → IsSession m (session_of o pushed since)
        → Stands m (session_of o pushed since) b → o page.tree.row.serial ≡ true
        → AlikeOutcomes m (with_ids keeper page.tree (all_pushed keeper page.tree serials (session_of o pushed since)))
        (with_ids binder page.tree (all_pushed binder page.tree serials b))
    all_alike serials o pushed since b session stands begun =
        let alike = alike-all_pushed page.tree (distinct-alone page valid) (containers-page page valid) serials
        (Some o) pushed since b begun session stands in
        (alike.progress.stands, alike.progress.shown, ap NodeIds alike.ids)

    by_serials_alike : (serials : List ℕ) (o : Option (ℕ → Bool)) (pushed : List ℕ) (since : ℕ) (b : BindingValue)
        → IsSession m (record { opened = o; pushed = pushed; since = since })
        → Stands m (record { opened = o; pushed = pushed; since = since }) b
        → AlikeOutcomes m (session_outcome page whole (PushBySerials serials) (record { opened = o; pushed = pushed; since = since }))
        (binding_outcome page whole (PushBySerials serials) b)
    by_serials_alike serials None pushed since b session stands =
        alike_begun m false (opened_in b page.tree.row.serial)
        (with_ids keeper page.tree (all_pushed keeper page.tree serials (record { opened = None; pushed = pushed; since = since })))
        (with_ids binder page.tree (all_pushed binder page.tree serials b))
        (stands.opened_is page.tree.row.serial) (λ e. cc)
    by_serials_alike serials (Some o) pushed since b session stands =
        alike_begun m (o page.tree.row.serial) (opened_in b page.tree.row.serial)
        (with_ids keeper page.tree (all_pushed keeper page.tree serials (session_of o pushed since)))
        (with_ids binder page.tree (all_pushed binder page.tree serials b))
        (stands.opened_is page.tree.row.serial)
        (λ begun. all_alike serials o pushed since b session stands begun)

    -- what changes nothing, of a node that both name
    same_known : (w : Session) (b : BindingValue) → Stands m w b → (id : ℕ)
        → known_node binder page.tree b (binder.serial_of b id) ≡ known_node keeper page.tree w (serial_at w m id)
    same_known w b stands id = ap (known_node binder page.tree b) (stands.serials_are id) ∙ same_node w b (serial_at w m id)

    attributes_alike : (w : Session) (b : BindingValue) → Stands m w b → (found : Option (Branch PageRow))
        → AlikeOutcomes m (of_attributes keeper page.tree found w) (of_attributes binder page.tree found b)
    attributes_alike w b stands None = refl
    attributes_alike w b stands (Some x) = either_both (AlikeOutcomes m) (is_element x.row.label.kind) _ (refused _) _ (refused _)
        (λ _. (stands, refl, refl)) refl

    description_alike : (depth : Option ℤ) (w : Session) (b : BindingValue) → Stands m w b → (found : Option (Branch PageRow))
        → AlikeOutcomes m (of_description keeper page.tree depth found w) (of_description binder page.tree depth found b)
    description_alike depth w b stands None = refl
    description_alike depth w b stands (Some x) = (stands, refl, refl)

    same_named : (w : Session) (b : BindingValue) → Stands m w b → (id serial : Option ℕ)
        → known_node binder page.tree b (named_serial binder b id serial) ≡ known_node keeper page.tree w (named_serial keeper w id serial)
    same_named w b stands None serial = same_node w b serial
    same_named w b stands (Some id) serial = same_known w b stands id

    -- ---- queries

    first_alike : (found : Option ℕ) (o : ℕ → Bool) (pushed : List ℕ) (since : ℕ) (b : BindingValue)
        → IsSession m (session_of o pushed since) → Stands m (session_of o pushed since) b
        → ((s : ℕ) → found ≡ Some s → has row_serial s m ≡ true)
        → AlikeOutcomes m (with_first keeper page.tree found (session_of o pushed since)) (with_first binder page.tree found b)
    first_alike None o pushed since b session stands there = (stands, refl, refl)
    first_alike (Some s) o pushed since b session stands there = push_alike s o pushed since b session stands (there s refl)

    query_alike : (w : Session) (b : BindingValue) (asks : Query → Session → Outcome Session)
        (others : Query → BindingValue → Outcome BindingValue) (q : Result Query Why)
        → ((r : Query) → q ≡ Ok r → AlikeOutcomes m (asks r w) (others r b))
        → AlikeOutcomes m (of_query keeper page.tree asks q w) (of_query binder page.tree others q b)
    query_alike w b asks others (Err why) alike = refl
    query_alike w b asks others (Ok q) alike = alike q refl

    abbrev query_found : (id : ℕ) (text : List ℕ) → Session → Result Query Why
    query_found id text w = query_of (known_node keeper page.tree w (serial_at w m id)) text

    first_queried : (id : ℕ) (text : List ℕ) (o : Option (ℕ → Bool)) (pushed : List ℕ) (since : ℕ) (b : BindingValue)
        → IsSession m (record { opened = o; pushed = pushed; since = since })
        → Stands m (record { opened = o; pushed = pushed; since = since }) b
        → (let w : Session = record { opened = o; pushed = pushed; since = since } in AlikeOutcomes m
        (of_query keeper page.tree (first_asked keeper page.tree whole) (query_found id text w) w)
        (of_query binder page.tree (first_asked binder page.tree whole) (query_found id text w) b))
    first_queried id text None pushed since b session stands = refl
    first_queried id text (Some o) pushed since b session stands =
        let w : Session = session_of o pushed since in
        query_alike w b (first_asked keeper page.tree whole) (first_asked binder page.tree whole) (query_found id text w)
        (λ q is. first_alike (first_matching q.selectors q.root whole) o pushed since b session stands
        (λ s e. inside q.selectors q.root s (query-live keeper page.tree w (serial_at w m id) text q is) e))

    all_queried : (id : ℕ) (text : List ℕ) (o : Option (ℕ → Bool)) (pushed : List ℕ) (since : ℕ) (b : BindingValue)
        → IsSession m (record { opened = o; pushed = pushed; since = since })
        → Stands m (record { opened = o; pushed = pushed; since = since }) b
        → (let w : Session = record { opened = o; pushed = pushed; since = since } in AlikeOutcomes m
        (of_query keeper page.tree (all_asked keeper page.tree whole) (query_found id text w) w)
        (of_query binder page.tree (all_asked binder page.tree whole) (query_found id text w) b))
    all_queried id text None pushed since b session stands = refl
    all_queried id text (Some o) pushed since b session stands =
        let w : Session = session_of o pushed since in
        query_alike w b (all_asked keeper page.tree whole) (all_asked binder page.tree whole) (query_found id text w)
        (λ q is. all_alike (all_matching q.selectors q.root whole) o pushed since b session stands
        (root-opened page valid whole o pushed since session))

    document_alike : (depth : Option ℤ) (pierce : Option Bool) (w : Session) (b : BindingValue)
        → is_spent (levels_of (unwrap_or depth (pos 1))) ≡ false → Stands m w b
        → AlikeOutcomes m (session_outcome page whole (GetDocument depth pierce) w)
        (binding_outcome page whole (GetDocument depth pierce) b)
    document_alike depth pierce w b left stands =
        let d : Option ℕ = levels_of (unwrap_or depth (pos 1)) in
        let e : Option ℕ = capped most_told d in
        let after : Session = document_opened e m w in
        let now : Stands m after (started e m b) = Stands-document_opened e m w b (distinct-alone page valid) stands.next_is in
        let same = cut-stands m (above e m) after.pushed after.since (started e m b) now in
        let begun : IsSession m after = IsSession-document_opened e page.tree.row page.tree.children w (distinct-alone page valid)
        (root_holds page valid) (spent-capped more_told d ∙ left) in
        let alike = alike-openings m (distinct-alone page valid) page.tree (dealt more_told most_told d m) (above e m) after.pushed
        after.since (started e m b) begun now (start-deals more_told page d valid left).are in (
          alike.stands,
          alike.shown,
          ap (root_of (record { row = record { id = 0; serial = 0; label = page.tree.row.label; hold = leaf }; children = none })) same,
        )

    pub outcomes_alike : (c : DomAsk) (w : Session) (b : BindingValue) → has_depth c ≡ true → IsSession m w → Stands m w b
        → AlikeOutcomes m (session_outcome page whole c w) (binding_outcome page whole c b)
    outcomes_alike (GetDocument depth pierce) w b fits session stands =
        document_alike depth pierce w b (document-left depth pierce fits) stands
    outcomes_alike (RequestChildNodes id depth pierce) w b fits session stands =
        request_alike id depth pierce w.opened w.pushed w.since b session stands
    outcomes_alike (PushByPath path) w b fits session stands = by_path_alike path w.opened w.pushed w.since b session stands
    outcomes_alike (PushBySerials serials) w b fits session stands = by_serials_alike serials w.opened w.pushed w.since b session stands
    outcomes_alike (QuerySelector id text) w b fits session stands =
        subst (λ (f : Option (Branch PageRow)). AlikeOutcomes m (session_outcome page whole (QuerySelector id text) w)
        (of_query binder page.tree (first_asked binder page.tree whole) (query_of f text) b)) (sym (same_known w b stands id))
        (first_queried id text w.opened w.pushed w.since b session stands)
    outcomes_alike (QuerySelectorAll id text) w b fits session stands =
        subst (λ (f : Option (Branch PageRow)). AlikeOutcomes m (session_outcome page whole (QuerySelectorAll id text) w)
        (of_query binder page.tree (all_asked binder page.tree whole) (query_of f text) b)) (sym (same_known w b stands id))
        (all_queried id text w.opened w.pushed w.since b session stands)
    outcomes_alike (GetAttributes id) w b fits session stands =
        subst (λ (f : Option (Branch PageRow)). AlikeOutcomes m (session_outcome page whole (GetAttributes id) w)
        (of_attributes binder page.tree f b)) (sym (same_known w b stands id))
        (attributes_alike w b stands (known_node keeper page.tree w (serial_at w m id)))
    outcomes_alike (DescribeNode id serial depth pierce) w b fits session stands =
        subst (λ (f : Option (Branch PageRow)). AlikeOutcomes m (session_outcome page whole (DescribeNode id serial depth pierce) w)
        (of_description binder page.tree depth f b)) (sym (same_named w b stands id serial))
        (description_alike depth w b stands (known_node keeper page.tree w (named_serial keeper w id serial)))

-- ---- laws

alike_states : (n : Nodes PageRow) (w : Session) (b : BindingValue) (x : Outcome Session) (y : Outcome BindingValue) → Stands n w b
    → AlikeOutcomes n x y → Stands n (state_after w x) (state_after b y)
alike_states n w b (shows_root t p) (shows_root d q) stands h = h.0
alike_states n w b (shows_root t p) (served q other) stands h = absurd h
alike_states n w b (shows_root t p) (refused other) stands h = absurd h
alike_states n w b (served p body) (shows_root d q) stands h = absurd h
alike_states n w b (served p body) (served q other) stands h = h.0
alike_states n w b (served p body) (refused other) stands h = absurd h
alike_states n w b (refused why) (shows_root d q) stands h = absurd h
alike_states n w b (refused why) (served q other) stands h = absurd h
alike_states n w b (refused why) (refused other) stands h = stands

alike_moves : (n : Nodes PageRow) (id : ℕ) (x : Outcome Session) (y : Outcome BindingValue) → AlikeOutcomes n x y
    → moves_of id y ≡ moves_of id x
alike_moves n id (shows_root t p) (shows_root d q) h = λ i. root id (h.2 i) ∷ opening_moves (h.1 i)
alike_moves n id (shows_root t p) (served q other) h = absurd h
alike_moves n id (shows_root t p) (refused other) h = absurd h
alike_moves n id (served p body) (shows_root d q) h = absurd h
alike_moves n id (served p body) (served q other) h = λ i. opening_moves (h.1 i) ++ replied id (h.2 i) ∷ []
alike_moves n id (served p body) (refused other) h = absurd h
alike_moves n id (refused why) (shows_root d q) h = absurd h
alike_moves n id (refused why) (served q other) h = absurd h
alike_moves n id (refused why) (refused other) h = λ i. failed (record { id = Some id; why = h i }) ∷ []

pub stays_bound : StaysBound
stays_bound page whole c w b inside valid fits session stands =
    alike_states (alone page.tree) w b (session_outcome page whole c w) (binding_outcome page whole c b) stands
    (outcomes_alike page valid whole inside c w b fits session stands)

pub same_moves : SameMoves
same_moves page whole c w b id inside valid fits session stands =
    alike_moves (alone page.tree) id (session_outcome page whole c w) (binding_outcome page whole c b)
    (outcomes_alike page valid whole inside c w b fits session stands)
