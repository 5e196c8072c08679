-- A step is a list of moves, and its reply is one of the command's.
use Rattle.std.proofs.Common.{◌≡◌, ℕ, ◌+◌, ◌≤◌, pos, true, false, List, [], ◌∷◌, length, Option, unwrap_or, refl, sym}
use Rattle.std.proofs.Common.{◌∙◌, ap, arith}
use Rattle.cdp_json.specs.Kinds.{is_counted}
use Rattle.node_tree.specs.Nodes.{Nodes, Branch, alone, node_count, height}
use Rattle.node_tree.specs.Levels.{most_told, most_told_root}
use Rattle.node_tree.specs.Seen.{Seen}
use Rattle.page_tree.specs.Pages.{PageRow, PageValue}
use Rattle.node_binding.specs.Openings.{levels_of}
use Rattle.node_binding.specs.Deals.{capped, dealt, more_told}
use Rattle.node_binding.specs.Sessions.{Session, IsSession, document_opened, session_ids}
use Rattle.node_binding.proofs.DealLemmas.{root-low, spent-capped}
use Rattle.node_binding.proofs.StartLemmas.{distinct-alone, root_holds}
use Rattle.node_binding.proofs.SessionLemmas.{IsSession-document_opened}
use Rattle.cdp_messages.specs.declared.dom_ask.DomAsk.{DomAsk}
use Rattle.cdp_messages.specs.declared.dom_ask.DomAsk.TheVariants.{GetDocument}
use Rattle.cdp_messages.specs.declared.down.ReplyBody.{ReplyBody}
use Rattle.cdp_messages.specs.DomAsks.{ask_name}
use Rattle.cdp_messages.specs.Laws.{answers}
use Rattle.cdp_messages.specs.Results.{Tale, no_result, document, sheet_text, new_styles, matched_styles, answer_alone, tale_of}
use Rattle.cdp_messages.proofs.Results.{IsTaleOf, tale_is}
use Rattle.cdp_messages.proofs.Commands.{TellsNoView, others-tell-no_view, either_ask}
use Rattle.client_views.specs.Views.{ShownSheet, View}
use Rattle.client_views.specs.Moves.{root, replied, failed, is_of_view, tells_view, IsPlainReply, CanBeTold, Course, ends, goes}
use Rattle.dom_agent.specs.Requests.{Outcome, shows_root, served, refused, Progress, Showing, all_opened, opening_moves, state_after}
use Rattle.dom_agent.specs.Requests.{moves_of}
use Rattle.dom_agent.specs.Keepers.{session_keeper}
use Rattle.dom_agent.specs.Laws.{session_outcome, CanTell, has_depth, session_view, IsReplyTo, StepsAreMoves, RepliesAnswer}
use Rattle.dom_agent.proofs.StepLemmas.{Goes, CanSay, CanSpell, course-join, goes-few}
use Rattle.dom_agent.proofs.OutcomeLemmas.{OutcomeGoes, asks-go, document-left, document-goes, document-few}
use Rattle.dom_agent.proofs.TellableLemmas.{can_say}

-- a reply that is neither
is_no_view : (c : DomAsk) (body : ReplyBody) → TellsNoView (ask_name c) → answers (ask_name c) body ≡ true → tells_view body ≡ false
is_no_view c body other is = at (tale_of body) (tale_is body) where
  at : (t : Tale) → IsTaleOf body t → is_of_view t ≡ false
  at no_result e = refl
  at (document b) e = let told : false ≡ true = sym (other.0 b) ∙ ap (answers (ask_name c)) (sym e) ∙ is in absurd cc
  at (sheet_text text) e = let told : false ≡ true = sym (other.1 text) ∙ ap (answers (ask_name c)) (sym e) ∙ is in absurd cc
  at (new_styles styles) e = refl
  at (matched_styles matched) e = refl
  at answer_alone e = refl

plain : (c : DomAsk) (id : ℕ) (body : ReplyBody) → TellsNoView (ask_name c) → is_counted id ≡ true → CanSpell body
    → answers (ask_name c) body ≡ true → IsPlainReply id body
plain c id body other small spells is = record {
  id_fits = small;
  plain = is_no_view c body other is;
  fits = spells.fits;
  texts = spells.texts;
  levels = spells.levels;
}

-- a reply alone
replied_course : (id : ℕ) (body : ReplyBody) (v : View) → IsPlainReply id body → CanBeTold v → Course (replied id body ∷ []) v v
replied_course id body v is told = goes (replied id body) [] v v v told (refl, is) (ends v told)

module _ (page : PageValue) (c : DomAsk) (w : Session) (id : ℕ) (sheets : List ShownSheet) (session : IsSession (alone page.tree) w)
    (can : CanTell page w) (small : is_counted id ≡ true)
    (say : CanSay (alone page.tree) (length w.pushed + node_count (alone page.tree)) sheets) where
  moved : (out : Outcome Session) → TellsNoView (ask_name c) → OutcomeGoes page c w out
      → Course (moves_of id out) (session_view w page sheets) (session_view (state_after w out) page sheets)
  moved (shows_root b p) other g = absurd g
  moved (served p body) other g =
      let few : length p.state.pushed ≤ length w.pushed + node_count (alone page.tree) = goes-few (alone page.tree) w p.state p.shown g.0 in
      course-join (g.0.course _ sheets say few)
      (replied_course id body (session_view p.state page sheets) (plain c id body other small (g.1 can) g.2) (say p.state g.0.session few))
  moved (refused why) other g =
      let told = say w session (omega arith) in
      goes (failed _) [] (session_view w page sheets) (session_view w page sheets) (session_view w page sheets) told (refl, small)
      (ends (session_view w page sheets) told)

  -- the document, and then further pieces
  document_moved : (z y : Session) (b : Branch Seen) (xs : List Showing) → Goes (alone page.tree) z y xs
      → CanBeTold (session_view z page sheets)
      → session_view z page sheets ≡ record { tree = alone b; sheets = sheets } → height (alone b) ≤ most_told_root
      → length y.pushed ≤ length w.pushed + node_count (alone page.tree)
      → Course (root id b ∷ opening_moves xs) (session_view w page sheets) (session_view y page sheets)
  document_moved z y b xs g told is low few =
      goes (root id b) (opening_moves xs) (session_view w page sheets) (session_view z page sheets) (session_view y page sheets)
      (say w session (omega arith)) (is, small, low) (g.course _ sheets say few)

pub steps_are_moves : StepsAreMoves
steps_are_moves page whole ask w id sheets valid fits session can small can_sheets =
    let n : Nodes PageRow = alone page.tree in
    let say = can_say page w sheets valid can can_sheets in
    either_ask (λ c. has_depth c ≡ true
    → (let o = session_outcome page whole c w in Course (moves_of id o) (session_view w page sheets)
    (session_view (state_after w o) page sheets)))
    (λ depth pierce h. (let d : Option ℕ = levels_of (unwrap_or depth (pos 1)) in
    let left = document-left depth pierce h in
    let z : Session = document_opened (capped most_told d) n w in
    let p : Progress Session = all_opened (session_keeper n) page.tree (dealt more_told most_told d n) z in
    let g = document-goes page valid d left w in
    let few = document-few page valid d left w in
    document_moved page (GetDocument depth pierce) w id sheets session can small say z p.state _ p.shown g
    (say z (IsSession-document_opened (capped most_told d) page.tree.row page.tree.children w (distinct-alone page valid)
    (root_holds page valid) (spent-capped more_told d ∙ left)) (omega (arith, g.longer, few))) refl
    (root-low more_told page d (session_ids z) valid) few))
    (λ c other h. moved page c w id sheets session can small say (session_outcome page whole c w) (others-tell-no_view c other)
    (asks-go page valid whole c other w session))
    ask fits

-- ---- the reply

answered : (page : PageValue) (c : DomAsk) (w : Session) (out : Outcome Session) → OutcomeGoes page c w out → IsReplyTo c out
answered page c w (shows_root b p) g = absurd g
answered page c w (served p body) g = g.2
answered page c w (refused why) g = tt

pub replies_answer : RepliesAnswer
replies_answer page whole ask w valid fits session =
    either_ask (λ c. IsReplyTo c (session_outcome page whole c w)) (λ depth pierce. refl)
    (λ c other. answered page c w (session_outcome page whole c w) (asks-go page valid whole c other w session)) ask
