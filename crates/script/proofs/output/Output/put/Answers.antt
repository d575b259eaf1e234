use Rattle.std.proofs.Common.{◌+◌, ◌≤◌, length, refl, arith}
use Rattle.std.proofs.lemmas.List.{length-drop}
use Rattle.script.proofs.Written.{put_before, put_after}
use Rattle.script.proofs.output.Output.put.Goals as goal

pub returns : goal.returns
returns c =
    let o = c.args.self.now in
    let h : o.at + length c.args.line.now ≤ length o.bytes.now =
    omega (arith, c.requires, o.within, length-drop o.at o.bytes.now) in
    record {
      before = put_before o.at o.bytes.now c.args.line.now h _ c.copy_from_slice.ensures.after;
      after = put_after o.at o.bytes.now c.args.line.now h _ c.copy_from_slice.ensures.after;
      same = refl;
    }
