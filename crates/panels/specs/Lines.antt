-- The lines of an outline, one for each known node.
use Rattle.std.specs.Prelude.{◌≡◌, ℕ, suc, ◌+◌, ◌==◌, ◌^◌, ◌&&◌, nat_le, Bool, true, false, List, [], ◌∷◌, ◌++◌, codes, Result, IfOk}
use Rattle.std.specs.declared.alloc.AllocError.{AllocError}
use Rattle.node_tree.specs.Nodes.{Nodes, none, node}
use Rattle.node_tree.specs.Seen.{Seen, seen_id}
use Rattle.front_mirror.specs.declared.panels.Change.{Change}
use Rattle.front_mirror.specs.Outline.{indent, seen_line, outline_text}
use Rattle.front_mirror.specs.Panels.{Turns}
use Rattle.front_mirror.specs.Shown.{known_at}
use Rattle.front_mirror.specs.Walks.{walk, rank_of, count_first}

-- the level of a line stays below this, so that the next one is a number too
abbrev pub level_limit : ℕ
level_limit = 2 ^ 60

-- the line of a node in an outline, with its end
abbrev pub outline_line : ℕ → Seen → List ℕ
outline_line level r = indent level ++ seen_line r ++ 10 ∷ []

-- the lines of an outline
abbrev pub outline_lines : Nodes Seen → List (List ℕ)
outline_lines tree = walk outline_line 0 tree

-- the lines that are shown: those of an outline, or one that says that there is no document
abbrev pub shown_lines : Nodes Seen → List (List ℕ)
shown_lines none = (codes "no document" ++ 10 ∷ []) ∷ []
shown_lines (node r c t) = outline_lines (node r c t)

-- a text of bytes from 32 on, and a line feed at its end
abbrev pub is_line : List ℕ → Bool
is_line [] = false
is_line (b ∷ []) = b == 10
is_line (b ∷ c ∷ bs) = nat_le 32 b && is_line (c ∷ bs)

-- where the lines of a child that went stood, as the tree after tells it
abbrev pub place_left : ℕ → ℕ → Nodes Seen → ℕ
place_left parent place after = rank_of seen_id parent after + suc (count_first place (known_at parent after).children)

-- the text after a change, where the text before was the outline before and the call says that it is done
abbrev pub TextTurned : Change → List ℕ → List ℕ → Nodes Seen → Result Bool AllocError → Type 0
TextTurned change old new after result =
    (before : Nodes Seen) → Turns before change after → old ≡ outline_text seen_line before
    → IfOk result (λ done. done ≡ true → new ≡ outline_text seen_line after)
