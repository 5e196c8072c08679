-- That a description spells and reads the same: nothing more is read, and what was spelled is read again.
use Rattle.std.specs.Prelude.{◌≡◌, ℕ, List, [], ◌∷◌, Bool, true, ◌&&◌, Some}
use Rattle.serde_json.specs.Data.{Data, Members}
use Rattle.cdp_json.specs.Plain.{starts_after, is_plain, members_are_plain}
use Rattle.node_tree.specs.Labels.{is_before}
use Rattle.cdp_json.specs.Kinds.{Kind, passes}
use Rattle.cdp_json.specs.Rows.{Row, members_of}

-- What is read is spelled just so, and what was spelled is read again.
pub record LawfulKind {T : Type 0} (k : Kind T) : Type 0 where
  -- what is read is spelled so
  pub takes : (d : Data) (x : T) → k.reads d ≡ Some x → (k.spell x ≡ d) × (k.fits x ≡ true)
  -- what was spelled is read
  pub again : (x : T) → k.fits x ≡ true → k.reads (k.spell x) ≡ Some x
  -- what is spelled is plain, if the loose parts are
  pub plain : (x : T) → k.fits x ≡ true → passes k.loose x ≡ true → is_plain (k.spell x) ≡ true

-- the name comes before each of these
abbrev pub is_before_all : List ℕ → List (List ℕ) → Bool
is_before_all k [] = true
is_before_all k (l ∷ ls) = is_before k l && is_before_all k ls

-- The fields of an object: what is read is written just so, and what was written is read again.
pub record LawfulRow {T : Type 0} (row : Row T) : Type 0 where
  pub takes : (ms : Members) (x : T) → row.gets ms ≡ Some x → (members_of (row.writes x) ≡ ms) × (row.fits x ≡ true)
  pub again : (x : T) → row.fits x ≡ true → row.gets (members_of (row.writes x)) ≡ Some x
  pub plain : (x : T) → row.fits x ≡ true → passes row.loose x ≡ true → members_are_plain (members_of (row.writes x)) ≡ true
  -- a name before all of the row's comes before the first member
  pub starts : (k : List ℕ) (x : T) → is_before_all k row.names ≡ true → starts_after k (members_of (row.writes x)) ≡ true
