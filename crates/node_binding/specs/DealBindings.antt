-- A binding that opens in pieces stands for the session that does.
use Rattle.std.specs.Prelude.{◌≡◌, ℕ, suc, Bool, false, List, [], ◌∷◌, Option}
use Rattle.node_tree.specs.Nodes.{Nodes, Branch, alone}
use Rattle.page_tree.specs.Pages.{PageRow, PageValue, IsValid}
use Rattle.node_binding.specs.Openings.{is_spent, above, opened_also}
use Rattle.node_binding.specs.Sessions.{Session, CanOpen, session_of, grown, document_opened}
use Rattle.node_binding.specs.Bindings.{BindingValue, opened_down, started}
use Rattle.node_binding.specs.Changes.{BindingStandsFor}
use Rattle.node_binding.specs.Deals.{Opening, capped, dealt, deal}

-- the session after openings, one after another: each appends what it makes known
abbrev pub grown_all : Nodes PageRow → List Opening → (ℕ → Bool) → List ℕ → ℕ → Session
grown_all n [] o pushed since = session_of o pushed since
grown_all n (x ∷ xs) o pushed since =
    grown_all n xs (opened_also x.levels x.node o) (grown o (opened_also x.levels x.node o) n (session_of o pushed since)).pushed since

-- and the binding
abbrev pub bound_all : List Opening → BindingValue → BindingValue
bound_all [] b = b
bound_all (x ∷ xs) b = bound_all xs (opened_down x.levels x.node b)

-- a container is opened by its deal
abbrev pub OpensDeal : Type 0
OpensDeal = (m : ℕ) (page : PageValue) (o : ℕ → Bool) (pushed : List ℕ) (since : ℕ) (d : Option ℕ) (x : Branch PageRow) (b : BindingValue)
    → IsValid page → is_spent d ≡ false → CanOpen (alone page.tree) o x → BindingStandsFor page (session_of o pushed since) b
    → BindingStandsFor page (grown_all (alone page.tree) (deal m d x) o pushed since) (bound_all (deal m d x) b)

-- the document is opened by its deal, also of another page than the one before
abbrev pub StartsDeal : Type 0
StartsDeal = (m : ℕ) (d : Option ℕ) (page other : PageValue) (w : Session) (b : BindingValue) → is_spent d ≡ false → IsValid other
    → BindingStandsFor page w b
    → (let z = document_opened (capped (suc m) d) (alone other.tree) w in
    BindingStandsFor other
    (grown_all (alone other.tree) (dealt m (suc m) d (alone other.tree)) (above (capped (suc m) d) (alone other.tree)) z.pushed z.since)
    (bound_all (dealt m (suc m) d (alone other.tree)) (started (capped (suc m) d) (alone other.tree) b)))
