use Rattle.std.proofs.Common.{◌+◌, ◌≤◌, length}
use Rattle.text.specs.Lines.{lines_of}
use Rattle.text.specs.Cursor.{rest}
use Rattle.script.specs.Cursor.{left}
use Rattle.script.specs.Runs.{lines_ran}
use Rattle.script.proofs.Runs.{Along}
use Rattle.script.proofs.run.Runner.run.Given as goal

abbrev pub invariant-loop-line : goal.invariant-loop-line
invariant-loop-line l =
    Along (lines_ran (lines_of l.script) l.initial.self.card (length (left l.initial.output)))
    (lines_ran (lines_of (rest l.reader)) l.self.card (length (left l.output))) l.initial.self l.self l.initial.output l.output
    × (l.self.lines + length (rest l.reader) ≤ length l.script)

abbrev pub decreases-loop-line : goal.decreases-loop-line
decreases-loop-line l = length (rest l.reader)
