-- A frame that loads a page in its usual form: `{"id":ID,"method":"Replay.load","params":PAGE}`.
use Rattle.std.specs.Prelude.{◌≡◌, ℕ, ◌≤◌, List, [], ◌∷◌, ◌++◌, true, false, codes, decimal, Some, Ok}
use Rattle.json.specs.Token.{Token, begin_object, key, string, number}
use Rattle.json.specs.Json.{Json}
use Rattle.json.specs.Tree.{json_tokens, depth}
use Rattle.serde_json.specs.Data as datum
use Rattle.serde_json.specs.Data.{Data, Members, unsigned}
use Rattle.serde_json.specs.Read.{of_json}
use Rattle.serde_json.specs.Written.{has_float}
use Rattle.cdp_json.specs.Kinds.{is_counted}
use Rattle.cdp_messages.specs.Asked.{asked}
use Rattle.cdp_messages.specs.declared.command.Command.TheVariants.{ReplayLoad}
use Rattle.page_forms.specs.Pages.{LoadedPage, page_in}
use Rattle.back_end.specs.OwnMethods.{load_asked}

-- the tokens of such a frame up to its page, before the rest
abbrev pub load_tokens : ℕ → List Token → List Token
load_tokens id rest =
    begin_object
    ∷ (key (codes "id") ∷ (number (decimal id) ∷ (key (codes "method") ∷ (string (codes "Replay.load") ∷ (key (codes "params") ∷ rest)))))

-- the members of such a frame's object
abbrev pub load_members : ℕ → Data → Members
load_members id params =
    datum.member (codes "id") (datum.number (unsigned id)) (datum.member (codes "method") (datum.string (codes "Replay.load"))
    (datum.member (codes "params") params datum.no_members))

-- the tokens are those of JSON that is such a frame, and of nothing more
pub record SpellsLoad (old : List Token) (id : ℕ) (page : LoadedPage) : Type 0 where
  pub json : Json
  pub params : Data
  pub tokens : old ≡ json_tokens json ++ []
  pub means : of_json json ≡ Some (datum.object (load_members id params))
  pub shallow : depth json ≤ 123
  pub whole : has_float params ≡ false
  pub reads : page_in params ≡ Some page
  pub counted : is_counted id ≡ true

-- the frame asks under that id for a load of the page, which has no fault
pub record AsksLoad (frame : List ℕ) (id : ℕ) (page : LoadedPage) : Type 0 where
  pub params : Data
  pub asks : asked frame true ≡ Ok (record { id = id; command = ReplayLoad params })
  pub loads : load_asked params ≡ Ok page
