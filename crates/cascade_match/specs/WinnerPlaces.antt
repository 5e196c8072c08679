-- Declarations by their places, and which of them is the greatest of its name.
use Rattle.std.specs.Prelude.{◌≡◌, ◌⊎◌, ℕ, ◌+◌, ◌<◌, true, List, length, take, Some}
use Rattle.std.specs.List.{slice_get, flat_map}
use Rattle.cascade_match.specs.declared.blocks.Decl.{Decl}
use Rattle.cascade_match.specs.declared.blocks.Block.{Block}
use Rattle.cascade_match.specs.Winning.{rank_of, wins}

-- a declaration, with its block's place among the blocks and its own place in the block, each counted from 0
pub record PlacedDecl : Type 0 where
  pub block : ℕ
  pub place : ℕ
  pub name : List ℕ
  pub rank : ℕ

-- a declaration by its place is one of the blocks: they have a block at that place, which has a declaration of that name and rank at its
-- place
pub record IsDeclared (blocks : List Block) (d : PlacedDecl) : Type 0 where
  pub among : Block
  pub decl : Decl
  pub block : slice_get blocks d.block ≡ Some among
  pub place : slice_get among.declarations d.place ≡ Some decl
  pub name : d.name ≡ decl.name
  pub rank : d.rank ≡ rank_of among.origin decl.important

-- one declaration is below another: by rank, then by block, then by the place in the block
abbrev pub IsBelow : PlacedDecl → PlacedDecl → Type 0
IsBelow d e = (d.rank < e.rank) ⊎ ((d.rank ≡ e.rank) × ((d.block < e.block) ⊎ ((d.block ≡ e.block) × (d.place < e.place))))

-- each other declaration of its name in all blocks is below it
abbrev pub IsGreatest : List Block → PlacedDecl → Type 0
IsGreatest blocks d = (e : PlacedDecl) → IsDeclared blocks e → e.name ≡ d.name → (e ≡ d) ⊎ IsBelow e d

-- a declaration's number, counted from 0, among all declarations, one block behind the other
abbrev pub number_of : List Block → PlacedDecl → ℕ
number_of blocks d = length (flat_map (λ b. b.declarations) (take d.block blocks)) + d.place

-- a declaration of the blocks that was told to win
pub record IsWinner (blocks : List Block) (d : PlacedDecl) : Type 0 where
  pub declared : IsDeclared blocks d
  pub told : slice_get (wins blocks) (number_of blocks d) ≡ Some true
