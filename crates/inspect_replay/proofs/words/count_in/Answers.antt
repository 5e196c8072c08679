use Rattle.std.proofs.Common.{true≢false, sym, ◌∙◌, arith}
use Rattle.std.proofs.lemmas.Str.Pattern.{starts_char}
use Rattle.inspect_replay.proofs.WordLemmas.{count_low, count_none, count_read, count_other}
use Rattle.inspect_replay.proofs.words.count_in.Goals as goal

pub returns-then-starts_with : goal.returns-then-starts_with
returns-then-starts_with c =
    let first = (starts_char 48 c.args.text.now c.starts_with.result c.starts_with.ensures.cases (omega arith) (omega arith)).0
    c.if-starts_with.true in
    count_low c.args.text.now (omega (arith, first))

pub returns-then-starts_with-2 : goal.returns-then-starts_with-2
returns-then-starts_with-2 c =
    let first = (starts_char 43 c.args.text.now c.starts_with-2.result c.starts_with-2.ensures.cases (omega arith) (omega arith)).0
    c.if-starts_with-2.true in
    count_low c.args.text.now (omega (arith, first))

pub returns-in-Err : goal.returns-in-Err
returns-in-Err c = count_none c.args.text.now c.parse.result c.in-Err.field-0 c.in-Err.is c.parse.ensures.value.0

pub returns-then-is_drill : goal.returns-then-is_drill
returns-then-is_drill c =
    count_read c.args.text.now c.parse.result c.in-Ok.divs c.in-Ok.is c.parse.ensures.value.0
    (λ e. true≢false (sym ((starts_char 48 c.args.text.now c.starts_with.result c.starts_with.ensures.cases (omega arith)
    (omega arith)).1 e) ∙ c.if-starts_with.false))
    (λ e. true≢false (sym ((starts_char 43 c.args.text.now c.starts_with-2.result c.starts_with-2.ensures.cases (omega arith)
    (omega arith)).1 e) ∙ c.if-starts_with-2.false))
    (sym c.is_drill.ensures ∙ c.if-is_drill.true)

pub returns-else-is_drill : goal.returns-else-is_drill
returns-else-is_drill c = count_other c.args.text.now c.parse.result c.in-Ok.divs c.in-Ok.is c.parse.ensures.value.0
    (sym c.is_drill.ensures ∙ c.if-is_drill.false)
