use Rattle.std.proofs.Common.{◌≡◌, List, [], ◌∷◌, ◌++◌, length, drop, ◌-◌, ◌+◌, sym, ap, subst, ◌∙◌, length-append, arith}
use Rattle.std.proofs.lemmas.List.{drop_all}
use Rattle.sheet_reader.specs.declared.ends.Closing.{Closing}
use Rattle.sheet_reader.specs.Ends.{none_closing, AreClosings}
use Rattle.sheet_reader.proofs.EndForms.{first_closings, closings_step, rest_all}
use Rattle.sheet_reader.proofs.ends.closings.Goals as goal

pub loop-n-init : goal.loop-n-init
loop-n-init c =
    let one : c.reserve.new.self.items ≡ none_closing ∷ [] =
    c.reserve.ensures.items ∙ c.in_ok-push.ensures.items
    ∙ ap (λ (xs : List Closing). xs ++ c.no_closing.result ∷ []) c.new-table.ensures.items
    ∙ ap (λ (x : Closing). x ∷ []) c.no_closing.ensures in
    record {
      size = ap (λ (xs : List Closing). length xs) one;
      told = subst (λ (xs : List Closing). AreClosings xs (drop (length c.args.pieces.now - 0) c.args.pieces.now)) (sym one)
          (subst (AreClosings (none_closing ∷ []))
          (sym (drop_all (length c.args.pieces.now - 0) c.args.pieces.now (omega arith))) first_closings);
    }

pub loop-n-preserved : goal.loop-n-preserved
loop-n-preserved c =
    let more = ap (λ (xs : List Closing). length xs) c.in_ok-push-2.ensures.items
    ∙ length-append c.loop-n.table.items (c.closing_before-closing.result ∷ []) in
    record {
      size = omega (arith, more, c.loop-n.invariant.size);
      told = closings_step c.loop-n.table.items c.push-in-loop-n.new.self.items c.args.pieces.now _ c.loop-n.n
          c.closing_before-closing.result _ (omega (arith, c.loop-n-test.true)) c.loop-n.invariant.size c.loop-n.invariant.told
          c.in_ok-push-2.ensures.items c.closing_before-closing.ensures
          (rest_all (length c.args.pieces.now - 1 - c.loop-n.n + 1) c.args.pieces.now);
    }
