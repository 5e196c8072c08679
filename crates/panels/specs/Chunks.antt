-- A text cut into chunks, of which each knows how many lines end in it, and where lines end.
use Rattle.std.specs.Prelude.{◌≡◌, ◌≤◌, ◌==◌, cond, ℕ, zero, suc, Bool, List, [], ◌∷◌, length, take, drop}
use Rattle.std.specs.List.{count_by}
use Rattle.panels.specs.declared.chunks.Chunk.{Chunk}

-- the byte that ends a line
abbrev pub is_feed : ℕ → Bool
is_feed b = b == 10

-- the chunks are the parts of the text, one behind the other
abbrev pub AreChunks : List ℕ → List Chunk → Type 0
AreChunks text [] = text ≡ []
AreChunks text (b ∷ bs) = (b.bytes ≤ length text) × (b.lines ≡ count_by is_feed (take b.bytes text)) × AreChunks (drop b.bytes text) bs

-- So many chunks of a text that is cut end at that byte.
pub record IsEdge (text : List ℕ) (chunks : List Chunk) (chunk byte : ℕ) : Type 0 where
  pub inside : byte ≤ length text
  pub known : chunk ≤ length chunks
  pub front : AreChunks (take byte text) (take chunk chunks)
  pub rest : AreChunks (drop byte text) (drop chunk chunks)

-- how many bytes so many lines have with which a text begins, each up to its line feed
abbrev pub lines_length : ℕ → List ℕ → ℕ
lines_length zero text = 0
lines_length (suc count) [] = 0
lines_length (suc count) (b ∷ bs) = suc (cond (is_feed b) (lines_length count bs) (lines_length (suc count) bs))
