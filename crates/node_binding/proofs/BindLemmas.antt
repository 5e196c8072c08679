-- A binding that opens in pieces.
use Rattle.std.proofs.Common.{ℕ, suc, Bool, List, [], ◌∷◌, ◌∙◌}
use Rattle.node_tree.specs.Nodes.{alone}
use Rattle.page_tree.specs.Pages.{PageValue, IsValid}
use Rattle.node_binding.specs.Openings.{above, opened_also}
use Rattle.node_binding.specs.Sessions.{Session, session_of, grown, document_opened}
use Rattle.node_binding.specs.Bindings.{BindingValue, opened_down, started}
use Rattle.node_binding.specs.Changes.{BindingStandsFor}
use Rattle.node_binding.proofs.ChangesLemmas.{starts, opens_down}
use Rattle.node_binding.specs.Deals.{Opening, capped, dealt, deal, AreOpenings}
use Rattle.node_binding.specs.DealBindings.{grown_all, bound_all, OpensDeal, StartsDeal}
use Rattle.node_binding.proofs.DealLemmas.{spent-capped, deals-open, start-deals}

bound-all : (page : PageValue) → IsValid page → (xs : List Opening) (o : ℕ → Bool) (pushed : List ℕ) (since : ℕ) (b : BindingValue)
    → AreOpenings (alone page.tree) o xs → BindingStandsFor page (session_of o pushed since) b
    → BindingStandsFor page (grown_all (alone page.tree) xs o pushed since) (bound_all xs b)
bound-all page valid [] o pushed since b are stands = stands
bound-all page valid (x ∷ xs) o pushed since b are stands =
    bound-all page valid xs (opened_also x.levels x.node o)
    (grown o (opened_also x.levels x.node o) (alone page.tree) (session_of o pushed since)).pushed since
    (opened_down x.levels x.node b) are.2
    (opens_down x.levels page x.node o pushed since b are.0 valid are.1 stands)

pub opens-deal : OpensDeal
opens-deal m page o pushed since d x b valid left can stands =
    bound-all page valid (deal m d x) o pushed since b (deals-open m page o pushed since d x valid stands.session left can).are stands

pub starts-deal : StartsDeal
starts-deal m d page other w b left valid stands =
    let z : Session = document_opened (capped (suc m) d) (alone other.tree) w in
    bound-all other valid (dealt m (suc m) d (alone other.tree)) (above (capped (suc m) d) (alone other.tree)) z.pushed z.since
    (started (capped (suc m) d) (alone other.tree) b) (start-deals m other d valid left).are
    (starts (capped (suc m) d) page other w b (spent-capped m d ∙ left) valid stands)
