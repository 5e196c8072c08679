use Rattle.std.proofs.Common.{◌∙◌, map, ap, subst, sym, arith}
use Rattle.std.specs.Prelude.{slice_get, IsSomeAnd}
use Rattle.std.proofs.lemmas.List.{length-map, get_or-map}
use Rattle.css_tokens.specs.declared.token.Range.{Range}
use Rattle.sheet_reader.specs.Forms.{rule_seen}
use Rattle.sheet_reader.specs.Late.{cut_at, late_rules, EachPlace, IsLate}
use Rattle.sheet_reader.specs.Rereads.{HasBody}
use Rattle.sheet_reader.proofs.LateForms.{raw_late, late_can, body_seen, other_more, others_all}
use Rattle.sheet_reader.proofs.late.number_among.Goals as goal

pub late_body-requires : goal.late_body-requires
late_body-requires c past =
    let rules = c.args.rules.now in
    let i = c.loop-i.i in
    let x = c.index-rules-i.result in
    let r = rule_seen x in
    let inside = c.loop-i-test.true in
    let len = length-map rules rule_seen in
    let raw = raw_late (cut_at c.args.late) c.args.moved (map rule_seen rules) i r past (omega (arith, len, inside)) c.requires.late in
    (late_can (cut_at c.args.late) r (subst (EachPlace (IsLate (cut_at c.args.late)))
    (get_or-map rule_seen rules i x r (omega (arith, inside)) ∙ ap rule_seen (sym c.index-rules-i.is)) raw)).body

pub returns-then-is_same-clause-some : goal.returns-then-is_same-clause-some
returns-then-is_same-clause-some c =
    subst (λ (b : Range). IsSomeAnd (slice_get (late_rules (cut_at c.args.late) c.args.moved (map rule_seen c.args.rules.now)) c.loop-i.i)
    (HasBody b)) (c.is_same.ensures.yes c.if-is_same.true)
    (body_seen rule_seen (cut_at c.args.late) c.args.moved c.args.rules.now c.loop-i.i c.index-rules-i.result c.late_body.result
    (omega (arith, c.loop-i-test.true)) c.index-rules-i.is c.late_body.ensures.front c.late_body.ensures.rest)

pub returns-then-is_same-clause-first : goal.returns-then-is_same-clause-first
returns-then-is_same-clause-first c = c.loop-i.invariant

pub loop-i-preserved : goal.loop-i-preserved
loop-i-preserved c =
    other_more c.args.body c.late_body.result (late_rules (cut_at c.args.late) c.args.moved (map rule_seen c.args.rules.now)) c.loop-i.i
    (body_seen rule_seen (cut_at c.args.late) c.args.moved c.args.rules.now c.loop-i.i c.index-rules-i.result c.late_body.result
    (omega (arith, c.loop-i-test.true)) c.index-rules-i.is c.late_body.ensures.front c.late_body.ensures.rest)
    (c.is_same.ensures.no c.if-is_same.false) c.loop-i.invariant

pub returns-clause-none : goal.returns-clause-none
returns-clause-none c =
    others_all c.args.body (cut_at c.args.late) c.args.moved c.loop-i.i (map rule_seen c.args.rules.now)
    (omega (arith, c.loop-i-test.false, length-map c.args.rules.now rule_seen)) c.loop-i.invariant
