-- One more than what is counted on each side.
use Rattle.std.proofs.Common.{◌≡◌, ℕ, ◌+◌, ◌<◌, ◌^◌, List, subst, ap, ◌∙◌}
use Rattle.select_match.specs.declared.places.ElementPlaces.{ElementPlaces}
use Rattle.select_match.specs.Families.{named_in}
use Rattle.select_match.proofs.FamilyLemmas.{knows}
use Rattle.select_match.proofs.families.Family.places.Goals as goal

pub returns : goal.returns
returns c =
    let before = c.args.self.now.before in
    let after = c.args.self.now.after in
    let e : ElementPlaces = record {
      child = c.one_more.result;
      last_child = c.one_more-2.result;
      of_type = c.one_more-3.result;
      last_of_type = c.one_more-4.result;
    } in
    let named_before = c.named_in.ensures ∙ ap (λ (k : List ℕ). named_in k c.args.self.now.before.names) c.name-name.ensures in
    let named_after = c.named_in-2.ensures ∙ ap (λ (k : List ℕ). named_in k c.args.self.now.after.names) c.name-name.ensures in
    knows c.args.child.now c.of.result e c.of.ensures before after c.requires.before c.requires.after c.are_few.ensures.earlier
    c.are_few.ensures.later c.one_more.ensures c.one_more-2.ensures
    (subst (λ (n : ℕ). n < 2 ^ 63 → c.one_more-3.result ≡ n + 1) named_before c.one_more-3.ensures)
    (subst (λ (n : ℕ). n < 2 ^ 63 → c.one_more-4.result ≡ n + 1) named_after c.one_more-4.ensures)
