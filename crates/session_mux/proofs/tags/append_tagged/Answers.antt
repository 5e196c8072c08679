use Rattle.std.proofs.Common.{◌≡◌, ◌-◌, ◌++◌, length, take, refl, ap, ◌∙◌}
use Rattle.std.specs.List.{flat_map}
use Rattle.session_mux.specs.TaggedTexts.{tagged_frame}
use Rattle.session_mux.proofs.TextLemmas.{one-more, none-left}
use Rattle.session_mux.proofs.tags.append_tagged.Goals as goal

pub loop-frame-preserved : goal.loop-frame-preserved
loop-frame-preserved c =
    let end = c.args.end.now in
    let front : c.before_last.result.now ++ end ≡ tagged_frame end c.in-Some.frame.items
    = ap (λ xs. xs ++ end) (c.before_last.ensures ∙ ap (λ text. take (length text - 1) text) c.deref.ensures.value) in
    ap (λ xs. xs ++ flat_map (tagged_frame end) c.next.new.self.whole)
    ((c.in_ok-extend_from_slice-2.ensures {u = c.in_ok-extend_from_slice-2.field-0}).items
    ∙ ap (λ xs. xs ++ end) (c.in_ok-extend_from_slice.ensures {u = c.in_ok-extend_from_slice.field-0}).items)
    ∙ one-more end c.loop-frame.out.items c.before_last.result.now _ c.in-Some.frame.items c.next.new.self.whole
    c.loop-frame.frames.whole c.in-Some.ensures.first front c.loop-frame.invariant

pub returns : goal.returns
returns c =
    none-left c.args.end.now c.loop-frame.out.items _ c.loop-frame.frames.whole ((c.in_default.ensures {u = tt}).none.0 refl)
    c.loop-frame.invariant
