use Rattle.std.proofs.Common.{ℕ, ◌+◌, ◌<◌, ◌≤◌, ◌^◌, List, Bool, refl, sym, ap, subst, ◌∙◌, ◌++◌, All, map, sum_by, arith}
use Rattle.std.specs.Option.{option_map}
use Rattle.node_tree.specs.Nodes.{alone}
use Rattle.shown_pages.specs.ShownPages.{shown_page}
use Rattle.shown_pages.proofs.ShownTrees.{shown-valid}
use Rattle.node_binding.specs.Bindings.{opened_in}
use Rattle.dom_agent.specs.Keepers.{binding_keeper}
use Rattle.dom_agent.specs.Openings.{opening_of, IsOfContainer}
use Rattle.dom_agent.specs.Requests.{Opening, all_opened, frames_told}
use Rattle.dom_agent.proofs.RoomLemmas.{below, pushing_containers, pushing_room, pushing_few}
use Rattle.dom_agent.proofs.PushLemmas.{listed_above}
use Rattle.dom_agent.proofs.pushes.open_above.Goals as goal

pub open_all-requires-clause-containers : goal.open_all-requires-clause-containers
open_all-requires-clause-containers c =
    let o : ℕ → Bool = opened_in c.args.binding.now in
    let listed = listed_above _ o c.args.serial (shown_page c.args.mode c.args.page.now).tree
    (shown_page c.args.mode c.args.page.now).tree refl
    (ap (option_map (λ v. map opening_of v.items)) (sym c.in-Some.is) ∙ c.in_ok-openings.ensures) in
    subst (All IsOfContainer) (sym (ap (map opening_of) c.deref.ensures.value ∙ listed.1))
    (pushing_containers (shown_page c.args.mode c.args.page.now) (shown-valid c.args.mode c.args.page.now c.valid.ensures) o c.args.serial)

pub open_all-requires-clause-room : goal.open_all-requires-clause-room
open_all-requires-clause-room c =
    let o : ℕ → Bool = opened_in c.args.binding.now in
    let listed = listed_above _ o c.args.serial (shown_page c.args.mode c.args.page.now).tree
    (shown_page c.args.mode c.args.page.now).tree refl
    (ap (option_map (λ v. map opening_of v.items)) (sym c.in-Some.is) ∙ c.in_ok-openings.ensures) in
    subst (λ (os : List Opening). c.args.binding.now.next + sum_by below os < 2 ^ 63)
    (sym (ap (map opening_of) c.deref.ensures.value ∙ listed.1))
    (pushing_room (shown_page c.args.mode c.args.page.now) (shown-valid c.args.mode c.args.page.now c.valid.ensures) o c.args.serial
    c.args.binding.now.next c.requires)

pub returns-clause-known : goal.returns-clause-known
returns-clause-known c =
    let tree = (shown_page c.args.mode c.args.page.now).tree in
    let listed = listed_above _ (opened_in c.args.binding.now) c.args.serial (shown_page c.args.mode c.args.page.now).tree tree refl
    (ap (option_map (λ v. map opening_of v.items)) (sym c.in-Some.is) ∙ c.in_ok-openings.ensures) in
    c.in_ok-open_all.ensures.known (alone tree) tree
    ∙ ap (λ os. (all_opened (binding_keeper (alone tree)) tree os c.args.binding.now).state)
    (ap (map opening_of) c.deref.ensures.value ∙ listed.1)

pub returns-clause-sent : goal.returns-clause-sent
returns-clause-sent c =
    let tree = (shown_page c.args.mode c.args.page.now).tree in
    let listed = listed_above _ (opened_in c.args.binding.now) c.args.serial (shown_page c.args.mode c.args.page.now).tree tree refl
    (ap (option_map (λ v. map opening_of v.items)) (sym c.in-Some.is) ∙ c.in_ok-openings.ensures) in
    c.in_ok-open_all.ensures.sent (alone tree) tree
    ∙ ap (λ os. c.args.out.now.items ++ frames_told (all_opened (binding_keeper (alone tree)) tree os c.args.binding.now).shown)
    (ap (map opening_of) c.deref.ensures.value ∙ listed.1)

pub returns-clause-few : goal.returns-clause-few
returns-clause-few c =
    let o : ℕ → Bool = opened_in c.args.binding.now in
    let listed = listed_above _ o c.args.serial (shown_page c.args.mode c.args.page.now).tree
    (shown_page c.args.mode c.args.page.now).tree refl
    (ap (option_map (λ v. map opening_of v.items)) (sym c.in-Some.is) ∙ c.in_ok-openings.ensures) in
    let all : sum_by below (map opening_of c.deref.result.now) ≤ 2 ^ 34 = subst (λ (os : List Opening). sum_by below os ≤ 2 ^ 34)
    (sym (ap (map opening_of) c.deref.ensures.value ∙ listed.1))
    (pushing_few (shown_page c.args.mode c.args.page.now) (shown-valid c.args.mode c.args.page.now c.valid.ensures) o c.args.serial) in
    omega (arith, all, c.in_ok-open_all.ensures.few)
