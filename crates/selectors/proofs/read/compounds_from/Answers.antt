use Rattle.std.proofs.Common.{◌≡◌, Bool, true, false, List, [], ◌∷◌, map, sym, subst, ◌∙◌, arith, rules}
use Rattle.std.proofs.lemmas.Result.{err_from_is_err_and}
use Rattle.selectors.specs.Forms.{compound_seen, CompoundForm}
use Rattle.selectors.specs.Parts.{with_front}
use Rattle.selectors.specs.Reading.{joined_at, ends_selector, compounds_at}
use Rattle.selectors.proofs.PartForms.{IsRest, rest_start, rest_more, rest_fails, rest_misplaced, rest_done, fails_too}
use Rattle.selectors.proofs.read.compounds_from.Goals as goal

pub compounds-init : goal.compounds-init
unfolding compounds_at
compounds-init c = record {
  rest = rest_start ends_selector joined_at (map compound_seen c.args.compounds.now.items) c.args.first c.args.words.now;
  shorter = omega arith;
}

pub returns-then-element-clause-reads : goal.returns-then-element-clause-reads
returns-then-element-clause-reads c =
    let total = with_front (map compound_seen c.args.compounds.now.items) (compounds_at c.args.first c.args.words.now) in
    let front = map compound_seen c.compounds.compounds.items in
    let go : c.is_over.result ≡ false = first_of (search rules, grind (arith, c.compounds-test.true), cc) in
    let P : Bool → Type 0 = λ b. IsRest ends_selector joined_at front b c.compounds.words total in
    rest_misplaced ends_selector joined_at front c.compounds.words total (subst P c.if-element.true c.compounds.invariant.rest)
    (sym c.is_over.ensures ∙ go)

pub returns-in_err-compound-clause-reads : goal.returns-in_err-compound-clause-reads
returns-in_err-compound-clause-reads c =
    let total = with_front (map compound_seen c.args.compounds.now.items) (compounds_at c.args.first c.args.words.now) in
    let front = map compound_seen c.compounds.compounds.items in
    let go : c.is_over.result ≡ false = first_of (search rules, grind (arith, c.compounds-test.true), cc) in
    let P : Bool → Type 0 = λ b. IsRest ends_selector joined_at front b c.compounds.words total in
    let p = err_from_is_err_and c.from_residual.result c.from_residual.ensures.1 in
    rw (p.1, p.2) (fails_too c.in_err-compound.field-0.0 (joined_at c.compounds.words) total
    (λ none. rest_fails ends_selector joined_at front c.compounds.words total (subst P c.if-element.false c.compounds.invariant.rest)
    (sym c.is_over.ensures ∙ go) none) c.in_err-compound.ensures.reads)

pub returns-clause-reads : goal.returns-clause-reads
returns-clause-reads c =
    let total = with_front (map compound_seen c.args.compounds.now.items) (compounds_at c.args.first c.args.words.now) in
    let stop : c.is_over.result ≡ true = first_of (search rules, grind (arith, c.compounds-test.false), cc) in
    rest_done ends_selector joined_at
    (map compound_seen c.compounds.compounds.items) c.compounds.element c.compounds.words total c.compounds.invariant.rest
    (sym c.is_over.ensures ∙ stop)

pub compounds-preserved : goal.compounds-preserved
compounds-preserved c =
    let total = with_front (map compound_seen c.args.compounds.now.items) (compounds_at c.args.first c.args.words.now) in
    let front = map compound_seen c.compounds.compounds.items in
    let go : c.is_over.result ≡ false = first_of (search rules, grind (arith, c.compounds-test.true), cc) in
    let P : Bool → Type 0 = λ b. IsRest ends_selector joined_at front b c.compounds.words total in
    let next = rest_more ends_selector joined_at front c.compounds.words total
    ((compound_seen c.in_ok-compound.compound ∷ [], c.in_ok-compound.is_element), c.joined_at.new.words)
    (subst P c.if-element.false c.compounds.invariant.rest)
    (sym c.is_over.ensures ∙ go) c.in_ok-compound.ensures.reads c.in_ok-compound.ensures.shorter in
    let F : List CompoundForm → Type 0 = λ xs. IsRest ends_selector joined_at xs c.in_ok-compound.is_element c.joined_at.new.words total in
    record {
      rest = subst F (sym c.in_ok-push_compound.ensures) next;
      shorter = omega (arith, c.in_ok-compound.ensures.shorter, c.compounds.invariant.shorter);
    }
