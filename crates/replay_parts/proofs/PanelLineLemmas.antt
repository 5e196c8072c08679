-- The lines of a show of the panels.
use Rattle.std.proofs.Common.{◌≡◌, ℕ, zero, suc, ◌+◌, ◌<◌, ◌≤◌, List, [], ◌∷◌, ◌++◌, length, drop, Option}
use Rattle.std.proofs.Common.{refl, sym, ◌∙◌, ap, arith, append_assoc, append-nil}
use Rattle.std.proofs.lemmas.List.{drop_all}
use Rattle.node_tree.specs.Nodes.{Nodes}
use Rattle.node_tree.specs.Seen.{Seen}
use Rattle.front_mirror.specs.declared.panels.PanelKind.{PanelKind}
use Rattle.front_mirror.specs.Places.{slot_at, open_at}
use Rattle.inspect_world.specs.PanelTexts.{panel_text, panels_after}

-- the next panel
pub panels-step : (tree : Nodes Seen) (before i : ℕ) (panels : List (Option PanelKind)) → i < length panels
    → panels_after before (drop i panels) tree
    ≡ panel_text (before + 1) (slot_at i panels) tree ++ panels_after (before + 1) (drop (suc i) panels) tree
panels-step tree before i [] less = absurd (no-less i less) where
  no-less : (i : ℕ) → i < 0 → ⊥
  no-less i less = omega (arith, less)
panels-step tree before zero (panel ∷ panels) less = refl
panels-step tree before (suc i) (panel ∷ panels) less =
    let fewer : suc i < suc (length panels) = less in panels-step tree before i panels (omega (arith, fewer))

-- what is written so far and what is left are the whole
pub panels-turn : (tree : Nodes Seen) (old new whole : List ℕ) (i : ℕ) (panels : List (Option PanelKind)) → i < length panels
    → new ≡ old ++ panel_text (i + 1) (open_at (i + 1) panels) tree → old ++ panels_after i (drop i panels) tree ≡ whole
    → new ++ panels_after (i + 1) (drop (i + 1) panels) tree ≡ whole
panels-turn tree old new whole i panels less is h =
    let one : suc i ≡ i + 1 = omega arith in
    let at : open_at (i + 1) panels ≡ slot_at i panels = ap (λ n. open_at n panels) (sym one) in
    ap (λ text. text ++ panels_after (i + 1) (drop (i + 1) panels) tree) (is ∙ ap (λ o. old ++ panel_text (i + 1) o tree) at)
    ∙ append_assoc old (panel_text (i + 1) (slot_at i panels) tree) (panels_after (i + 1) (drop (i + 1) panels) tree)
    ∙ ap (λ n. old ++ (panel_text (i + 1) (slot_at i panels) tree ++ panels_after (i + 1) (drop n panels) tree)) (sym one)
    ∙ ap (λ text. old ++ text) (sym (panels-step tree i i panels less)) ∙ h

-- no panel is left
pub panels-end : (tree : Nodes Seen) (text whole : List ℕ) (i : ℕ) (panels : List (Option PanelKind)) → length panels ≤ i
    → text ++ panels_after i (drop i panels) tree ≡ whole → text ≡ whole
panels-end tree text whole i panels all h =
    sym (append-nil text) ∙ ap (λ ps. text ++ panels_after i ps tree) (sym (drop_all i panels all)) ∙ h
