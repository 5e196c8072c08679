-- The empty text is no word; another one is sought among the pieces.
use Rattle.std.proofs.Common.{◌≡◌, ℕ, List, codes, map, sym, ap, ◌∙◌}
use Rattle.std.specs.Str.{bytes_eq}
use Rattle.std.specs.List.{list_any}
use Rattle.node_tree.specs.Labels.{value_of}
use Rattle.page_tree.specs.Zippers.{Zipper}
use Rattle.select_match.specs.Elements.{attributes_of}
use Rattle.select_match.specs.Subjects.{class_pieces}
use Rattle.select_match.proofs.SubjectLemmas.{some_piece, no_piece}
use Rattle.select_match.proofs.subjects.Subject.has_class.Goals as goal

pub returns-then-is_empty : goal.returns-then-is_empty
returns-then-is_empty c = no_piece c.args.word.now (value_of (codes "class") (attributes_of c.args.self.now))
    (sym (c.if-is_empty.ensures {u = tt}))

pub returns : goal.returns
returns c =
    let pieces : map (λ p. p.now) c.as_slice.result.now
    ≡ class_pieces c.args.self.now = ap (λ l. map (λ p. p.now) l) c.as_slice.ensures.value ∙ c.self.invariant.1 ∙ ap
    (λ (z : Zipper). class_pieces z) c.self.view_is in
    c.is_one_of.ensures
    ∙ ap (λ (w : List ℕ). list_any (λ p. bytes_eq p w) (map (λ p. p.now) c.as_slice.result.now)) c.as_bytes.ensures.value
    ∙ ap (λ (l : List (List ℕ)). list_any (λ p. bytes_eq p c.args.word.now) l) pieces
    ∙ some_piece c.args.word.now (value_of (codes "class") (attributes_of c.args.self.now)) (sym (c.if-is_empty.ensures {u = tt}))
