-- The usual form of rows: `{"up":i,"e":NAME,"a":[..]}`, where `a` may be absent, and the same with one text in place of the element's.
use Rattle.std.specs.Prelude.{◌≡◌, ℕ, suc, ◌+◌, ◌≤◌, ◌==◌, true, List, ◌∷◌, ◌++◌, length, codes, decimal, Option, Some, None}
use Rattle.std.specs.Prelude.{option_and_then}
use Rattle.json.specs.Token.{Token, begin_object, end_array, key, number as number_token}
use Rattle.node_tree.specs.Nodes.{Nodes, node_count}
use Rattle.node_tree.specs.Labels.{Label}
use Rattle.page_tree.specs.Flat.{FlatRow, flat_rows, are_held, flat_formed}
use Rattle.page_tree.specs.FlatRows.{row_spelled, rows_of}
use Rattle.page_forms.specs.Spelt.{ValueForm, ListForm, SpellsItems}
use Rattle.page_forms.specs.declared.row_scan.Ahead.{Ahead}

-- a row; its attributes nest one level more
abbrev pub row_form : ValueForm FlatRow
row_form = record { levels = 2; reads = row_spelled }

-- rows
abbrev pub rows_form : ListForm (List FlatRow)
rows_form = record { levels = 2; reads = rows_of }

-- the nodes of rows
abbrev pub flat_form : ListForm (Nodes Label)
flat_form = record { levels = 2; reads = λ ds. option_and_then flat_formed (rows_of ds) }

-- ---- places between rows

-- the start of a row whose parent has that number, before its other tokens; where there is no parent, the end of the list
abbrev pub row_start : Option ℕ → List Token → List Token
row_start None rest = end_array ∷ rest
row_start (Some up) rest = begin_object ∷ (key (codes "up") ∷ (number_token (decimal up) ∷ rest))

-- where the reading of rows stands: the tokens that are left, and the number of the last row before them
pub record Place : Type 0 where
  pub tokens : List Token
  pub last : ℕ

-- as code holds it, with the tokens behind the start of the next row
abbrev pub place : Ahead → List Token → Place
place ahead tokens = record { tokens = row_start ahead.up tokens; last = ahead.last }

-- The tokens `old` up to `new` are those of these rows: what is left of the list, read as `rest`, makes the whole of it read as
-- these rows and then `rest`.
abbrev pub SpellsRows : List Token → List FlatRow → List Token → Type 0
SpellsRows old rows new = (rest : List FlatRow) (behind : List Token) → SpellsItems rows_form new rest behind
    → SpellsItems rows_form old (rows ++ rest) behind

-- The rows from one place to another are those of these nodes, below the row `up`, or below the document where that is 0. Each node
-- may stand where it does, and has taken a token at least.
pub record SpellsBelow (up : ℕ) (old : Place) (n : Nodes Label) (new : Place) : Type 0 where
  pub rows : SpellsRows old.tokens (flat_rows up (suc old.last) n) new.tokens
  pub held : are_held (up == 0) n ≡ true
  pub last : new.last ≡ old.last + node_count n
  pub passed : length new.tokens + node_count n ≤ length old.tokens
