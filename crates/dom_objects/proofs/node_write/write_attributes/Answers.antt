-- One attribute more, and the bracket behind the last.
use Rattle.std.proofs.Common.{◌≡◌, ◌++◌, [], ◌∷◌, ◌∙◌, append_assoc}
use Rattle.std.specs.Prelude.{flat_map}
use Rattle.json.specs.Token.{begin_array}
use Rattle.node_tree.proofs.WalkLemmas.{walk_turn, walk_end}
use Rattle.dom_objects.proofs.TokenLists.{pair_tokens, pairs_end}
use Rattle.dom_objects.proofs.node_write.write_attributes.Goals as goal

pub loop-pair-preserved : goal.loop-pair-preserved
loop-pair-preserved c =
    let wrote : c.string-in-loop-pair.new.self.tokens ≡ c.loop-pair.out.tokens ++ pair_tokens c.in-Some.pair.now =
    rw (c.in_ok-string-2.ensures.ok, c.in_ok-string.ensures.ok, c.as_str.ensures, c.as_str-in-loop-pair.ensures) (simp append_assoc) in
    record {
      tokens = walk_turn pair_tokens ((c.args.out.now.tokens ++ begin_array ∷ []) ++ flat_map pair_tokens c.args.attributes.now)
          c.loop-pair.out.tokens c.loop-pair.pair-iterator c.loop-pair.invariant.tokens c.string-in-loop-pair.new.self.tokens
          c.next.new.self c.in-Some.pair.now (c.in-Some.ensures {u = tt}).steps wrote;
      before = c.in_ok-string-2.ensures.room.0 ∙ c.in_ok-string.ensures.room.0 ∙ c.loop-pair.invariant.before;
    }

pub returns-clause-ok : goal.returns-clause-ok
returns-clause-ok c =
    pairs_end c.args.out.now.tokens c.loop-pair.out.tokens c.end_array.new.self.tokens c.args.attributes.now
    (walk_end pair_tokens ((c.args.out.now.tokens ++ begin_array ∷ []) ++ flat_map pair_tokens c.args.attributes.now)
    c.loop-pair.out.tokens c.loop-pair.pair-iterator c.loop-pair.invariant.tokens (c.in-None.ensures {u = tt}).steps.0)
    c.in_ok-end_array.ensures.ok
