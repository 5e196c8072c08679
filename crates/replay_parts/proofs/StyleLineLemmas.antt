-- The lines of matched styles.
use Rattle.std.proofs.Common.{◌≡◌, ℕ, zero, suc, ◌≤◌, ◌==◌, min, length, drop, List, [], ◌∷◌, ◌++◌, map, Bool, cond, Some}
use Rattle.std.proofs.Common.{refl, ap, subst, arith}
use Rattle.css_objects.specs.declared.rules.RuleMatch.{RuleMatch}
use Rattle.css_objects.specs.declared.styles.StyleProperty.{StyleProperty}
use Rattle.front_mirror.specs.declared.replies.MatchedReply.{MatchedReply}
use Rattle.front_mirror.specs.Front.{matched_in}
use Rattle.inspect_world.specs.RunStates.{styles_under}
use Rattle.inspect_world.specs.Fits.{kept_styles}
use Rattle.inspect_world.specs.StylesTexts.{ShownBlock, rule_block, competing, property_lines}

-- past the end of the marks or of the properties nothing is left
no-properties : (marks : List Bool) → property_lines marks [] ≡ []
no-properties [] = refl
no-properties (won ∷ marks) = refl

pub properties-end : (marks : List Bool) (ps : List StyleProperty) (i end : ℕ) → end ≡ min (length marks) (length ps) → end ≤ i
    → property_lines (drop i marks) (drop i ps) ≡ []
properties-end [] ps zero end is past = refl
properties-end [] ps (suc i) end is past = refl
properties-end (won ∷ marks) [] zero end is past = refl
properties-end (won ∷ marks) [] (suc i) end is past = no-properties (drop i marks)
properties-end (won ∷ marks) (p ∷ ps) zero end is past =
    let least : min (suc (length marks)) (suc (length ps))
    ≤ 0 = subst (λ n. n ≤ 0) is past in absurd (no-least (length marks) (length ps) least)
  where
    no-least : (m n : ℕ) → min (suc m) (suc n) ≤ 0 → ⊥
    no-least m n h = omega (arith, h)
properties-end (won ∷ marks) (p ∷ ps) (suc i) end is past = properties-end marks ps i (min (length marks) (length ps)) refl
    (omega (arith, is, past))

-- the blocks, rules first
pub blocks_are : (rules : List RuleMatch) (more : List ShownBlock)
    → map competing (map rule_block rules ++ more) ≡ map (λ m. competing (rule_block m)) rules ++ map competing more
blocks_are [] more = refl
blocks_are (r ∷ rules) more = ap (λ bs. competing (rule_block r) ∷ bs) (blocks_are rules more)

-- what a front end has kept, and what its client was told
pub under-kept : (ask : ℕ) (rs : List MatchedReply) → styles_under ask (map kept_styles rs) ≡ matched_in ask rs
under-kept ask [] = refl
under-kept ask (r ∷ rs) = ap (λ o. cond (r.ask == ask) (Some r.matched) o) (under-kept ask rs)
