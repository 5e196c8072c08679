use Rattle.std.proofs.Common.{arith, ℕ, ◌≡◌, ◌≤◌, ◌+◌, ◌-◌, ◌++◌, length, take, replicate, None, sym, ap, ◌∙◌}
use Rattle.number_map.proofs.RowLemmas.{row-set, row-push, row-wide, row-long, row-behind, on_err}
use Rattle.number_map.specs.Rows.{row_at}
use Rattle.number_map.proofs.rows.Row.put_at.Goals as goal

pub returns-then-place-len-clause-put : goal.returns-then-place-len-clause-put
returns-then-place-len-clause-put c other =
    row-set _ _ c.args.place _ other (omega (arith, c.if-place-len.true, c.args.self.now.numbers.ok, c.len-len.ensures))

pub returns-then-is_far-clause-far : goal.returns-then-is_far-clause-far
returns-then-is_far-clause-far c e =
    let long : length c.args.self.now.numbers.items ≤ c.args.place =
    omega (arith, c.if-place-len.false, c.args.self.now.numbers.ok, c.len-len.ensures) in
    row-behind c.args.self.now.first c.args.self.now.numbers.items (c.args.self.now.first + c.args.place) (omega (arith, long))

pub returns-clause-put : goal.returns-clause-put
returns-clause-put c other =
    let same : c.len-len.result ≡ length c.args.self.now.numbers.items = omega (arith, c.args.self.now.numbers.ok, c.len-len.ensures) in
    let long : c.len-len.result ≤ c.args.place = omega (arith, c.if-place-len.false) in
    let wide : length c.resize.new.self.items ≡ c.args.place = omega (arith, c.in_ok-resize.ensures.len, c.resize.new.self.ok) in
    ap (λ xs. row_at c.args.self.now.first xs other) c.in_ok-push.ensures.items
    ∙ row-push c.args.self.now.first c.args.self.now.numbers.items c.resize.new.self.items c.args.place _ other
    (omega (arith, same, long))
    (row-wide c.args.self.now.numbers.items c.resize.new.self.items c.args.place c.len-len.result same long
    (c.in_ok-resize.ensures.items ∙ ap (λ n. take c.args.place c.args.self.now.numbers.items ++ replicate (c.args.place - n) None)
    (sym c.len-len.ensures)))
    wide

pub returns-in_err-push-clause-kept : goal.returns-in_err-push-clause-kept
returns-in_err-push-clause-kept c =
    let same : c.len-len.result ≡ length c.args.self.now.numbers.items = omega (arith, c.args.self.now.numbers.ok, c.len-len.ensures) in
    let long : c.len-len.result ≤ c.args.place = omega (arith, c.if-place-len.false) in
    let wide : c.resize.new.self.items
    ≡ c.args.self.now.numbers.items ++ replicate (c.args.place - length c.args.self.now.numbers.items) None =
    row-wide c.args.self.now.numbers.items c.resize.new.self.items c.args.place c.len-len.result same long
    (c.in_ok-resize.ensures.items ∙ ap (λ n. take c.args.place c.args.self.now.numbers.items ++ replicate (c.args.place - n) None)
    (sym c.len-len.ensures)) in
    let kept : (other : ℕ) → row_at c.args.self.now.first c.push.new.self.items other
    ≡ row_at c.args.self.now.first c.args.self.now.numbers.items other =
    λ other. row-long c.args.self.now.first c.args.self.now.numbers.items c.resize.new.self.items c.push.new.self.items
    c.args.place other c.in_err-push.ensures.items wide in
    on_err _ _ kept
