-- The lines begin and end where the text was cut, and the chunks behind them stay.
use Rattle.std.proofs.Common.{◌≡◌, ◌+◌, ◌-◌, ◌≤◌, ℕ, List, length, drop, string_bytes, sym, ap, ◌∙◌, subst, arith}
use Rattle.std.specs.List.{replace_range}
use Rattle.panels.specs.Chunks.{AreChunks, lines_length}
use Rattle.panels.proofs.TextLemmas.{spliced_text}
use Rattle.panels.proofs.ChunkLemmas.{around}
use Rattle.panels.proofs.line_text.splice.Goals as goal

pub mend-requires-clause-rest : goal.mend-requires-clause-rest
mend-requires-clause-rest c =
    let old = string_bytes c.args.text.now in
    let s = c.in-Some.span in
    let value = c.as_bytes.ensures.value in
    let new = replace_range old s.from s.to c.args.more.now in
    let base : AreChunks (drop s.stop.byte old) (drop s.stop.chunk c.args.chunks.now.items) =
    subst (λ b. AreChunks (drop s.stop.byte old) (drop s.stop.chunk b)) c.as_slice.ensures.value
    (subst (λ x. AreChunks (drop s.stop.byte x) (drop s.stop.chunk c.as_slice.result.now)) value c.in-Some.ensures.stop.rest)
    in
    let order : s.from ≤ s.to = let to = c.in-Some.ensures.to in omega (arith, to) in
    let low : s.stop.byte ≤ length old =
    subst (λ (x : List ℕ). s.stop.byte ≤ length x) value c.in-Some.ensures.stop.inside
    in
    let k = around old c.args.more.now s.from s.to s.start.byte s.stop.byte c.in-Some.ensures.before order c.in-Some.ensures.behind low in
    let bytes : new ≡ c.as_bytes-2.result.now = sym (c.as_bytes-2.ensures.value ∙ c.in_ok-replace_range.ensures.bytes) in
    let long = ap (λ (x : List ℕ). length x) c.in_ok-replace_range.ensures.bytes in
    let end : length new - (length old - s.stop.byte) ≡ c.len-2.result - (c.len.result - s.stop.byte) =
    omega (arith, long, c.len.ensures, c.len-2.ensures)
    in
    subst (λ x. AreChunks x (drop s.stop.chunk c.args.chunks.now.items)) (k.rest ∙ (λ i. drop (end i) (bytes i))) base

pub returns-clause-text : goal.returns-clause-text
returns-clause-text c = λ lines is all fits done.
    let old = string_bytes c.args.text.now in
    let s = c.in-Some.span in
    c.in_ok-replace_range.ensures.bytes
    ∙ spliced_text old lines c.args.place c.args.count s.from s.to c.args.more.now is all fits
    (c.in-Some.ensures.from ∙ ap (λ l. lines_length c.args.place l) c.as_bytes.ensures.value)
    (c.in-Some.ensures.to ∙ ap (λ l. s.from + lines_length c.args.count (drop s.from l)) c.as_bytes.ensures.value)
