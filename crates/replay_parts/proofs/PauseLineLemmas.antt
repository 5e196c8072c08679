-- The lines of the pauses.
use Rattle.std.proofs.Common.{◌≡◌, List, [], ◌∷◌, ◌++◌, map, refl, ◌∙◌, ap, append-nil}
use Rattle.node_tree.specs.Watches.{watch_name}
use Rattle.node_tree.specs.declared.watches.WatchKind.TheVariants as watch
use Rattle.cdp_messages.specs.declared.down.PauseData.{PauseData}
use Rattle.cdp_messages.specs.declared.down.PauseData.TheVariants as pause
use Rattle.front_mirror.specs.Front.{seen_pause}
use Rattle.inspect_world.specs.ShownPauses.{watched_text, pause_line, pause_lines, seen_pause_line, seen_pause_lines}

-- the line of a pause is the same as a front end keeps it
same-pause : (p : PauseData) → seen_pause_line (seen_pause p) ≡ pause_line p
same-pause (pause.Subtree node target insertion) = refl
same-pause (pause.Attribute node) = ap (λ text. text ++ 10 ∷ []) (append-nil (watched_text (watch_name watch.Attribute) node))
same-pause (pause.Removed node) = ap (λ text. text ++ 10 ∷ []) (append-nil (watched_text (watch_name watch.Removed) node))

-- so are the lines of all
pub same-pauses : (ps : List PauseData) → seen_pause_lines (map seen_pause ps) ≡ pause_lines ps
same-pauses [] = refl
same-pauses (p ∷ ps) = ap (λ text. text ++ seen_pause_lines (map seen_pause ps)) (same-pause p) ∙ ap (λ text. pause_line p ++ text)
    (same-pauses ps)
