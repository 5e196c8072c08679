use Rattle.std.proofs.Common.{◌≡◌, List, Some, map, subst, sym}
use Rattle.std.proofs.lemmas.Result.{err_from_is_err_and}
use Rattle.selectors.specs.Forms.{SelectorForm, selector_seen}
use Rattle.selectors.specs.Reading.{selector_of, selector_list_of}
use Rattle.selectors.proofs.PartForms.{fails_too}
use Rattle.selectors.proofs.ListForms.{list_fails, list_done, list_more, list_shorter}
use Rattle.selectors.proofs.read.read_list.Goals as goal

pub returns-in_err-selector : goal.returns-in_err-selector
returns-in_err-selector c =
    let total = selector_list_of c.args.words.now in
    let own = c.until_comma-own.result in
    let p = err_from_is_err_and c.from_residual.result c.from_residual.ensures.1 in
    record {
      exact = rw (p.1, p.2) (fails_too c.in_err-selector.field-0.0 (selector_of own) total
          (λ none. list_fails c.selectors.words own
          (map selector_seen c.selectors.list.items) total c.until_comma-own.ensures.own none c.selectors.invariant.so_far)
          c.in_err-selector.ensures);
    }

pub selectors-smaller : goal.selectors-smaller
selectors-smaller c = list_shorter c.selectors.words c.until_comma-own.new.self c.next.new.self c.in-Some._comma
    c.until_comma-own.ensures.rest (sym c.in-Some.ensures.first)

pub selectors-preserved : goal.selectors-preserved
selectors-preserved c = record {
  so_far = list_more c.selectors.words c.until_comma-own.result c.until_comma-own.new.self c.next.new.self c.in-Some._comma
      (selector_seen c.in_ok-selector.selector)
      (map selector_seen c.selectors.list.items) (map selector_seen c.push_selector.new.list.items) (selector_list_of c.args.words.now)
      c.until_comma-own.ensures.own c.until_comma-own.ensures.rest c.in_ok-selector.ensures
      (sym c.in-Some.ensures.first) c.in_ok-push_selector.ensures c.selectors.invariant.so_far;
}

pub returns-in_default : goal.returns-in_default
returns-in_default c = record {
  exact = subst (λ (all : List SelectorForm). selector_list_of c.args.words.now ≡ Some all) (sym c.fitted.ensures)
      (list_done c.selectors.words c.until_comma-own.result c.until_comma-own.new.self (selector_seen c.in_ok-selector.selector)
      (map selector_seen c.selectors.list.items) (map selector_seen c.push_selector.new.list.items) (selector_list_of c.args.words.now)
      c.until_comma-own.ensures.own c.until_comma-own.ensures.rest c.in_ok-selector.ensures
      (sym c.in_default.ensures.first) c.in_ok-push_selector.ensures c.selectors.invariant.so_far);
}
