use Rattle.std.proofs.Common.{◌≡◌, List, [], ◌∷◌, map, Option, String, rules, sym, ap, ◌∙◌, map-id}
use Rattle.std.specs.declared.alloc.Global.{Global}
use Rattle.std.proofs.lemmas.Iterator.Adapters.{YieldsList-from_vec}
use Rattle.std.proofs.lemmas.Iterator.Consumers.{YieldsList-end}
use Rattle.std.proofs.lemmas.List.{map-append}
use Rattle.serde_json.specs.Data.{object, no_members}
use Rattle.serde_json.specs.declared.value.Value.{Value}
use Rattle.serde_json.proofs.Views.{view-Object}
use Rattle.cdp_json.specs.Builders.{written}
use Rattle.cdp_json.specs.Writes.{put_some, put_all}
use Rattle.cdp_json.proofs.Order.{put_all-append, put_all-members_of}
use Rattle.cdp_json.proofs.write.ObjectBuilder.build.Goals as goal

pub loop-name-preserved : goal.loop-name-preserved
loop-name-preserved c =
    let now = written (c.in-Some.name, c.in-Some.value) in
    let so_far = map written c.loop-name.yielded in
    c.in_ok-put_some.ensures ∙ ap (put_some now.0 now.1) c.loop-name.invariant ∙ sym (put_all-append so_far now no_members)
    ∙ sym (ap (λ fs. put_all fs no_members) (map-append written c.loop-name.yielded ((c.in-Some.name, c.in-Some.value) ∷ [])))

pub returns : goal.returns
returns c =
    let items = c.args.self.list.items in
    let end = YieldsList-end (YieldsList-from_vec {s = c.into_iter-name-iterator.result} items (search rules) (search rules))
    c.loop-name.yielded c.loop-name.name-iterator c.loop-name.yielded_by c.next.result c.next.new.self c.in-None.is c.next.ensures.steps in
    let all : c.loop-name.yielded ≡ c.args.self.list.items = sym (map-id c.loop-name.yielded) ∙ end.0 in
    view-Object c.loop-name.members
    ∙ ap object (c.loop-name.invariant ∙ ap
    (λ (fs : List (String Global × Option Value)). put_all (map written fs) no_members) all ∙ put_all-members_of
    (map written c.args.self.list.items) c.requires)
