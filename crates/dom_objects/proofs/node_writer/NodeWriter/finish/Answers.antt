use Rattle.std.proofs.Common.{◌≡◌, ◌++◌, [], OnOk, IsUtf8, refl, subst}
use Rattle.json.specs.Written.{Written}
use Rattle.serde_json.specs.Data.{Data}
use Rattle.serde_json.specs.Written.{compact_text}
use Rattle.pipe_frames.specs.Frames.{framed}
use Rattle.dom_objects.specs.Tokens.{data_tokens}
use Rattle.dom_objects.proofs.TokenLists.{frame_is, frame_utf8}
use Rattle.dom_objects.proofs.node_writer.NodeWriter.finish.Goals as goal

pub returns-clause-ok : goal.returns-clause-ok
returns-clause-ok c =
    subst (λ (w : Written). (d : Data) → OnOk c.args.written (w.tokens ≡ data_tokens d)
    → OnOk c.end_frame.result (c.end_frame.new.out.items ≡ w.before ++ framed (compact_text d))) c.self.view_is
    (λ d told. frame_is c.args.written c.end_frame.result c.self.inside.writer.before c.self.inside.writer.before c.end_frame.new.out.items
    [] c.self.inside.writer.tokens d refl told c.end_frame.ensures.whole refl
    c.end_frame.ensures.ok)

pub returns-clause-utf8 : goal.returns-clause-utf8
returns-clause-utf8 c =
    subst (λ (w : Written). (d : Data) → OnOk c.args.written (w.tokens ≡ data_tokens d)
    → OnOk c.end_frame.result (IsUtf8 (compact_text d))) c.self.view_is
    (λ d told. frame_utf8 c.args.written c.end_frame.result [] c.self.inside.writer.tokens d refl told c.end_frame.ensures.whole
    c.end_frame.ensures.utf8)
