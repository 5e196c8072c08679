-- The quick tests and the others are all tests.
use Rattle.std.proofs.Common.{Bool, List, map, sym, ap, ◌∙◌, ◌||◌, not}
use Rattle.std.specs.List.{list_all}
use Rattle.selectors.specs.Forms.{simple_seen, SimpleForm}
use Rattle.selectors.specs.declared.selector.Simple.{Simple}
use Rattle.page_tree.specs.Zippers.{Zipper}
use Rattle.select_match.specs.Elements.{is_element_node}
use Rattle.select_match.specs.Matches.{simple_holds}
use Rattle.select_match.specs.Subjects.{is_quick}
use Rattle.select_match.proofs.SubjectLemmas.{quick-fail, quick-hold}
use Rattle.select_match.proofs.subjects.compound_holds_on.Goals as goal

pub returns-then-not-all_quick_hold-clause-value : goal.returns-then-not-all_quick_hold-clause-value
returns-then-not-all_quick_hold-clause-value c =
    let z = c.args.subject.now in
    let same = ap (λ (l : List Simple). list_all (λ s. not (is_quick s) || simple_holds s z)
    (map simple_seen l)) c.as_slice.ensures.value in
    quick-fail is_quick (λ s. simple_holds s z) (map simple_seen c.args.compound.now.tests.items)
    (is_element_node z) c.all_quick_hold.result (c.all_quick_hold.ensures ∙ same) c.if-not-all_quick_hold.true

pub returns-clause-value : goal.returns-clause-value
returns-clause-value c =
    let z = c.args.subject.now in
    let same = ap (λ (l : List Simple). list_all (λ s. not (is_quick s) || simple_holds s z)
    (map simple_seen l)) c.as_slice.ensures.value in
    let others = ap (λ (l : List Simple). list_all (λ s. is_quick s || simple_holds s z) (map simple_seen l)) c.as_slice-2.ensures.value in
    let element = sym (c.is_element.ensures ∙ ap (λ (w : Zipper). is_element_node w) c.node.ensures) ∙ c.if-not-is_element.false in
    quick-hold is_quick (λ s. simple_holds s z) (map simple_seen c.args.compound.now.tests.items)
    (is_element_node z) c.all_quick_hold.result c.all_others_hold.result element
    (c.all_quick_hold.ensures ∙ same) c.if-not-all_quick_hold.false (c.all_others_hold.ensures.value ∙ others)
