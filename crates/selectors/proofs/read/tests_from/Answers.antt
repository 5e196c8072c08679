use Rattle.std.proofs.Common.{◌≡◌, Bool, true, false, List, map, ◌++◌, sym, subst, ◌∙◌, arith, rules}
use Rattle.std.proofs.lemmas.Result.{err_from_is_err_and}
use Rattle.selectors.specs.Forms.{simple_seen, SimpleForm}
use Rattle.selectors.specs.Parts.{with_front}
use Rattle.selectors.specs.Reading.{compound_item_seen, compound_item_at, ends_compound, tests_at}
use Rattle.selectors.proofs.PartForms.{IsRest, rest_start, rest_more, rest_fails, rest_misplaced, rest_done, fails_too}
use Rattle.selectors.proofs.read.tests_from.Goals as goal

pub parts-init : goal.parts-init
unfolding tests_at
parts-init c = record {
  rest = rest_start ends_compound compound_item_at (map simple_seen c.args.tests.now.items) c.args.first c.args.words.now;
  shorter = omega arith;
}

pub returns-then-element-clause-reads : goal.returns-then-element-clause-reads
returns-then-element-clause-reads c =
    let total = with_front (map simple_seen c.args.tests.now.items) (tests_at c.args.first c.args.words.now) in
    let front = map simple_seen c.parts.tests.items in
    let go : c.ends_compound.result ≡ false = first_of (search rules, grind (arith, c.parts-test.true), cc) in
    let P : Bool → Type 0 = λ b. IsRest ends_compound compound_item_at front b c.parts.words total in
    rest_misplaced ends_compound compound_item_at front c.parts.words total (subst P c.if-element.true c.parts.invariant.rest)
    (sym c.ends_compound.ensures ∙ go)

pub returns-in_err-item-clause-reads : goal.returns-in_err-item-clause-reads
returns-in_err-item-clause-reads c =
    let total = with_front (map simple_seen c.args.tests.now.items) (tests_at c.args.first c.args.words.now) in
    let front = map simple_seen c.parts.tests.items in
    let go : c.ends_compound.result ≡ false = first_of (search rules, grind (arith, c.parts-test.true), cc) in
    let P : Bool → Type 0 = λ b. IsRest ends_compound compound_item_at front b c.parts.words total in
    let p = err_from_is_err_and c.from_residual.result c.from_residual.ensures.1 in
    rw (p.1, p.2) (fails_too c.in_err-item.field-0.0 (compound_item_at c.parts.words) total
    (λ none. rest_fails ends_compound compound_item_at front c.parts.words total (subst P c.if-element.false c.parts.invariant.rest)
    (sym c.ends_compound.ensures ∙ go) none) c.in_err-item.ensures.reads)

pub parts-preserved : goal.parts-preserved
parts-preserved c =
    let total = with_front (map simple_seen c.args.tests.now.items) (tests_at c.args.first c.args.words.now) in
    let front = map simple_seen c.parts.tests.items in
    let item = compound_item_seen c.in_ok-item.item in
    let go : c.ends_compound.result ≡ false = first_of (search rules, grind (arith, c.parts-test.true), cc) in
    let P : Bool → Type 0 = λ b. IsRest ends_compound compound_item_at front b c.parts.words total in
    let next = rest_more ends_compound compound_item_at front c.parts.words total (item, c.item_at.new.words)
    (subst P c.if-element.false c.parts.invariant.rest)
    (sym c.ends_compound.ensures ∙ go) c.in_ok-item.ensures.reads c.in_ok-item.ensures.shorter in
    let F : List SimpleForm → Type 0 = λ xs. IsRest ends_compound compound_item_at xs c.in_ok-element.element c.item_at.new.words total in
    let E : Bool → Type 0 = λ b. IsRest ends_compound compound_item_at (front ++ item.0) b c.item_at.new.words total in
    record {
      rest = subst F (sym c.in_ok-element.ensures.tests) (subst E (sym c.in_ok-element.ensures.element) next);
      shorter = omega (arith, c.in_ok-item.ensures.shorter, c.parts.invariant.shorter);
    }

pub returns-clause-reads : goal.returns-clause-reads
returns-clause-reads c =
    let total = with_front (map simple_seen c.args.tests.now.items) (tests_at c.args.first c.args.words.now) in
    let stop : c.ends_compound.result ≡ true = first_of (search rules, grind (arith, c.parts-test.false), cc) in
    rest_done ends_compound compound_item_at
    (map simple_seen c.parts.tests.items) c.parts.element c.parts.words total c.parts.invariant.rest
    (sym c.ends_compound.ensures ∙ stop)
