use Rattle.std.proofs.Common.{◌≡◌, [], ◌∷◌, ◌++◌, take}
use Rattle.std.specs.Prelude.{flat_map}
use Rattle.json.specs.Token.{begin_array}
use Rattle.cdp_json.specs.Kinds.{whole}
use Rattle.cdp_json.proofs.WrittenTokens.{kind_tokens}
use Rattle.css_objects.proofs.token_write.write_places.Given as goal

abbrev pub invariant-loop-place : goal.invariant-loop-place
invariant-loop-place l = record {
  tokens : l.out.tokens ≡ (l.fn.out.tokens ++ begin_array ∷ []) ++ flat_map (kind_tokens whole) (take l.place-index l.places);
  before : l.out.before ≡ l.fn.out.before;
}
