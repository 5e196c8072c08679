-- That a description reads what it spells, where it also reads what it does not spell: an object with further fields.
use Rattle.std.specs.Prelude.{◌≡◌, ℕ, List, true, Some, None, Ok}
use Rattle.serde_json.specs.Data.{Data, Members, put}
use Rattle.serde_json.specs.Find.{get_member}
use Rattle.cdp_json.specs.Plain.{is_plain, members_are_plain}
use Rattle.cdp_json.specs.Kinds.{Kind, passes}
use Rattle.cdp_json.specs.Lookups.{Lookups, is_none_of}

-- What is read fits, and what was spelled is read again.
pub record FaithfulKind {T : Type 0} (k : Kind T) : Type 0 where
  pub fit : (d : Data) (x : T) → k.reads d ≡ Some x → k.fits x ≡ true
  pub again : (x : T) → k.fits x ≡ true → k.reads (k.spell x) ≡ Some x
  -- what is spelled is plain, if the loose parts are
  pub plain : (x : T) → k.fits x ≡ true → passes k.loose x ≡ true → is_plain (k.spell x) ≡ true

-- What is read fits, what was put is read again and is plain, and further fields count for nothing.
pub record FaithfulLookups {E T : Type 0} (l : Lookups E T) : Type 0 where
  pub fit : (ms : Members) (x : T) → l.gets ms ≡ Ok x → l.fits x ≡ true
  pub again : (x : T) → l.fits x ≡ true → l.gets (l.puts x) ≡ Ok x
  pub plain : (x : T) → l.fits x ≡ true → members_are_plain (l.puts x) ≡ true
  -- a further field is not looked at, and is not written
  pub skips : (name : List ℕ) (d : Data) (ms : Members) → is_none_of name l.names ≡ true → l.gets (put name d ms) ≡ l.gets ms
  pub absent : (name : List ℕ) (x : T) → is_none_of name l.names ≡ true → get_member name (l.puts x) ≡ None
