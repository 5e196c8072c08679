use Rattle.std.proofs.Common.{◌∷◌, refl, arith, true≢false, sym, ◌∙◌}
use Rattle.std.proofs.lemmas.Str.Pattern.{starts_char}
use Rattle.css_objects.proofs.SheetIds.{read_low, read_no_number, read_number}
use Rattle.css_objects.proofs.sheets.number_in.Goals as goal

pub returns-then-starts_with : goal.returns-then-starts_with
returns-then-starts_with c =
    let first = (starts_char 48 c.args.digits.now c.starts_with.result c.starts_with.ensures.cases (omega arith)
    (omega arith)).0 c.if-starts_with.true in
    read_low (115 ∷ c.args.digits.now) c.args.digits.now
    refl
    (omega (arith, first))

pub returns-then-starts_with-2 : goal.returns-then-starts_with-2
returns-then-starts_with-2 c =
    let first = (starts_char 43 c.args.digits.now c.starts_with-2.result c.starts_with-2.ensures.cases (omega arith)
    (omega arith)).0 c.if-starts_with-2.true in
    read_low (115 ∷ c.args.digits.now) c.args.digits.now
    refl
    (omega (arith, first))

pub returns-in-Err : goal.returns-in-Err
returns-in-Err c =
    read_no_number (115 ∷ c.args.digits.now) c.args.digits.now c.parse.result c.in-Err.field-0
    refl c.in-Err.is
    c.parse.ensures.value.0

pub returns-then-number-lt-COUNTED_LIMIT : goal.returns-then-number-lt-COUNTED_LIMIT
returns-then-number-lt-COUNTED_LIMIT c =
    read_number (115 ∷ c.args.digits.now) c.args.digits.now c.parse.result c.in-Ok.number
    refl c.in-Ok.is
    c.parse.ensures.value.0
    (λ e. true≢false (sym ((starts_char 48 c.args.digits.now c.starts_with.result c.starts_with.ensures.cases (omega arith)
    (omega arith)).1 e) ∙ c.if-starts_with.false))
    (λ e. true≢false (sym ((starts_char 43 c.args.digits.now c.starts_with-2.result c.starts_with-2.ensures.cases (omega arith)
    (omega arith)).1 e) ∙ c.if-starts_with-2.false))
    c.if-number-lt-COUNTED_LIMIT.true
