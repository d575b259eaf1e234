use Rattle.std.proofs.Common.{length, ap, arith}
use Rattle.text.specs.Lines.{past, lines_of}
use Rattle.text.specs.Cursor.{rest}
use Rattle.script.specs.Cursor.{left}
use Rattle.script.proofs.Steps.{exit_is}
use Rattle.script.proofs.Runs.{along_line, along_more, along_stop, along_end, lines_end, past_shorter, script_short}
use Rattle.script.proofs.run.Runner.run.Goals as goal

pub returns-in_err-run_line : goal.returns-in_err-run_line
returns-in_err-run_line c =
    let t = c.in-Some.ensures in
    let s = c.loop-line.self in
    let a = along_line (rest c.loop-line.reader) _ s.card (length (left c.loop-line.output)) c.loop-line.invariant.0 t.0 t.1 in
    let b = along_stop (lines_of (past 10 (rest c.loop-line.reader))) _ _ a c.in_err-run_line.ensures in
    rw (script_short c.args.script.now c.args.self.now.card (length (left c.args.output.now)) c.if-script-gt-MAX_SCRIPT.false, exit_is c.from_residual.result c.from_residual.ensures.1) b

pub loop-line-preserved : goal.loop-line-preserved
loop-line-preserved c =
    let t = c.in-Some.ensures in
    let s = c.loop-line.self in
    let a = along_line (rest c.loop-line.reader) _ s.card (length (left c.loop-line.output)) c.loop-line.invariant.0 t.0 t.1 in
    let b = along_more (lines_of (past 10 (rest c.loop-line.reader))) _ a c.in_ok-run_line.ensures in (
      rw t.2 b,
      omega (arith, past_shorter (rest c.loop-line.reader) t.0, ap length t.2, c.loop-line.invariant.1, c.run_line.ensures.lines),
    )

pub returns : goal.returns
returns c =
    let t = c.in_default.ensures in
    let s = c.loop-line.self in
    rw (script_short c.args.script.now c.args.self.now.card (length (left c.args.output.now)) c.if-script-gt-MAX_SCRIPT.false)
    (along_end (rw (t.0, lines_end) at c.loop-line.invariant.0))
