use Rattle.std.proofs.Common.{refl, ap, ◌∙◌, ◌&&◌, ◌==◌, cond, Some}
use Rattle.std.specs.FinMap as map
use Rattle.number_map.specs.Rows.{row_at}
use Rattle.number_map.proofs.MapLemmas.{put-row, put-tree, same-both}
use Rattle.number_map.proofs.RowLemmas.{on_err}
use Rattle.number_map.proofs.maps.NumberMap.insert.Goals as goal

pub returns-then-branch-clause-put : goal.returns-then-branch-clause-put
returns-then-branch-clause-put c =
    let old = c.self.inside.row in
    let new = c.put.new.self in
    put-row old.first new.first old.numbers.items new.numbers.items _ c.args.key c.args.number
    (λ q. c.in_ok-put.ensures.put q
    ∙ ap (λ b. cond (b && q == c.args.key) (Some c.args.number) (row_at old.first old.numbers.items q)) c.if-branch.true)
    ∙ ap (λ m. map.insert m c.args.key c.args.number) c.self.view_is

pub returns-clause-put : goal.returns-clause-put
returns-clause-put c =
    let old = c.self.inside.row in
    let new = c.put.new.self in
    put-tree old.first new.first old.numbers.items new.numbers.items _ _ c.args.key c.args.number
    (λ q. c.in_ok-put.ensures.put q
    ∙ ap (λ b. cond (b && q == c.args.key) (Some c.args.number) (row_at old.first old.numbers.items q)) c.if-branch.false)
    (c.in_ok-put.ensures.far c.if-branch.false)
    (λ q. c.in_ok-insert.ensures.updates.0 q)
    ∙ ap (λ m. map.insert m c.args.key c.args.number) c.self.view_is

pub returns-in_err-put-clause-kept : goal.returns-in_err-put-clause-kept
returns-in_err-put-clause-kept c =
    let old = c.self.inside.row in
    let new = c.put.new.self in
    on_err _ _ (same-both old.first new.first old.numbers.items new.numbers.items _ _ c.in_err-put.ensures.kept refl ∙ c.self.view_is)

pub returns-in_err-insert-clause-kept : goal.returns-in_err-insert-clause-kept
returns-in_err-insert-clause-kept c =
    let old = c.self.inside.row in
    let new = c.put.new.self in
    on_err _ _ (same-both old.first new.first old.numbers.items new.numbers.items _ _
    (λ q. c.in_ok-put.ensures.put q
    ∙ ap (λ b. cond (b && q == c.args.key) (Some c.args.number) (row_at old.first old.numbers.items q)) c.if-branch.false)
    c.in_err-insert.ensures.err ∙ c.self.view_is)
