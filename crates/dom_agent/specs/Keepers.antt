-- Who keeps what a client has opened, and the ids: the session, as it is defined, and a binding, as code has it.
use Rattle.std.specs.Prelude.{ℕ, Bool, Option, Some, None, is_some}
use Rattle.std.specs.FinMap as map
use Rattle.node_tree.specs.Nodes.{Nodes, Branch, alone}
use Rattle.page_tree.specs.Pages.{PageRow}
use Rattle.node_binding.specs.Openings.{opened_also}
use Rattle.node_binding.specs.Sessions.{Session, is_open, knows, session_ids, serial_at, document_opened, grown, attached, detached}
use Rattle.node_binding.specs.Bindings.{BindingValue, opened_in, id_in, started, opened_down, with_bound, all_forgotten}

-- What is needed of it: which containers are opened, which nodes are known, the id of a known node, the known node of an id.
-- How it is after a reset and an opening of the document by some levels; after a container that is known and not opened was
-- opened; after a node became known; after a tree went.
pub record Keeper (S : Type 0) : Type 0 where
  pub is_open : S → ℕ → Bool
  pub knows : S → ℕ → Bool
  pub id_of : S → ℕ → ℕ
  pub serial_of : S → ℕ → Option ℕ
  pub started : Option ℕ → S → S
  pub opened : Option ℕ → Branch PageRow → S → S
  pub bound : ℕ → S → S
  pub forgot : Branch PageRow → S → S

-- the opened set grows by the containers at or below x at a distance below d; nothing grows where nothing is known
abbrev pub grown_by : Option ℕ → Branch PageRow → Nodes PageRow → Session → Option (ℕ → Bool) → Session
grown_by d x n w None = w
grown_by d x n w (Some o) = grown o (opened_also d x o) n w

-- the session with the page n
abbrev pub session_keeper : Nodes PageRow → Keeper Session
session_keeper n = record {
  is_open = λ w. is_open w.opened;
  knows = λ w. knows w n;
  id_of = session_ids;
  serial_of = λ w. serial_at w n;
  started = λ d w. document_opened d n w;
  opened = λ d x w. grown_by d x n w w.opened;
  bound = attached;
  forgot = detached;
}

-- a binding with the page n
abbrev pub binding_keeper : Nodes PageRow → Keeper BindingValue
binding_keeper n = record {
  is_open = opened_in;
  knows = λ b s. is_some (map.get b.ids s);
  id_of = id_in;
  serial_of = λ b. map.get b.serials;
  started = λ d b. started d n b;
  opened = opened_down;
  bound = with_bound;
  forgot = λ x. all_forgotten (alone x);
}
