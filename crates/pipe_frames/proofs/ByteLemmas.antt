-- The front of what a source has left, and a piece that a sink takes.
use Rattle.std.proofs.Common.{◌≡◌, ℕ, ◌+◌, ◌-◌, ◌≤◌, ◌<◌, List, [], ◌++◌, length, take, drop, min, sym, arith}
use Rattle.std.proofs.lemmas.List.{take-append-drop, drop-drop, take_rest, drop_all}

-- the count bytes that came into a buffer are the front of what was left
pub read_front : (bytes buf : List ℕ) (at count : ℕ)
    → take count buf ≡ take count (take (length bytes - at) (drop at bytes))
    → drop at bytes ≡ take count buf ++ drop (at + count) bytes
read_front bytes buf at count front =
    rw (front, take_rest bytes at, ← drop-drop count at bytes) (sym (take-append-drop count (drop at bytes)))

-- a step that gives nothing, where there is room, is at the end
pub read_end : (bytes : List ℕ) (at count step room : ℕ) → at ≤ length bytes
    → count ≡ min step (min room (length bytes - at)) → 1 ≤ step → 0 < room → count ≡ 0
    → drop (at + count) bytes ≡ []
read_end bytes at count step room within is some place none = drop_all (at + count) bytes (omega arith)
