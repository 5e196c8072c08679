use Rattle.std.proofs.Common.{◌^◌, ◌<◌, ◌++◌, arith, ap, ◌∙◌}
use Rattle.std.specs.List.{flat_map}
use Rattle.session_mux.specs.TaggedTexts.{session_end, tagged_frame}
use Rattle.session_mux.proofs.TextLemmas.{frames-tagged, added, end-written}
use Rattle.session_mux.proofs.tags.tag.Goals as goal

pub returns-clause-tagged : goal.returns-clause-tagged
returns-clause-tagged c = λ told.
    let small : c.args.session < 2 ^ 64 = omega (arith, c.ranges.session) in
    added c.extend_from_slice.result _ _ c.deref.result.now _ c.extend_from_slice.ensures.items
    (c.deref.ensures.value
    ∙ c.in_ok-append_tagged.ensures {u = c.in_ok-append_tagged.field-0}
    ∙ ap (λ xs. xs ++ flat_map (tagged_frame c.as_bytes.result.now) c.in_ok-frames_of.field-0.whole) c.new-tagged.ensures.items
    ∙ ap (λ end. flat_map (tagged_frame end) c.in_ok-frames_of.field-0.whole)
    (c.as_bytes.ensures.value ∙ c.in_ok-end.ensures ∙ end-written c.args.session small)
    ∙ ap (λ texts. flat_map (tagged_frame (session_end c.args.session)) texts) c.in_ok-frames_of.ensures
    ∙ frames-tagged c.args.session c.args.frames.now told)
