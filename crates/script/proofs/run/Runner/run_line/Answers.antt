use Rattle.std.proofs.Common.{length, Ok, refl, ap, ◌∙◌}
use Rattle.card.specs.Calls.{write_done, card_after_write}
use Rattle.script.specs.Cursor.{left}
use Rattle.script.specs.Runs.{fitting, write_ran, ticked, command_ran}
use Rattle.script.proofs.Steps.{ran_quiet, line_as, fits_none, exit_is, accepted_err, accepted_ok}
use Rattle.script.proofs.run.Runner.run_line.Goals as goal

pub returns-in_err-offset : goal.returns-in_err-offset
returns-in_err-offset c =
    let s = c.args.self.now in
    ran_quiet s s.card c.args.output.now (line_as c.args.line.now s.card (length (left c.args.output.now)) c.in_err-offset.ensures)
    (exit_is c.from_residual.result c.from_residual.ensures.1) refl refl

pub returns-in_err-read-in-Read : goal.returns-in_err-read-in-Read
returns-in_err-read-in-Read c =
    let s = c.args.self.now in
    let room = length (left c.args.output.now) in
    let l = line_as c.args.line.now s.card room c.in_ok-offset.ensures ∙ ap (λ y. command_ran (Ok y) s.card room) c.in-Read.is in
    rw (l, exit_is c.from_residual-in_err-read-in-Read.result c.from_residual-in_err-read-in-Read.ensures.1) c.in_err-read-in-Read.ensures

pub returns-in_err-write-in-Write : goal.returns-in_err-write-in-Write
returns-in_err-write-in-Write c =
    let s = c.args.self.now in
    let room = length (left c.args.output.now) in
    let l = line_as c.args.line.now s.card room c.in_ok-offset.ensures ∙ ap (λ y. command_ran (Ok y) s.card room) c.in-Write.is in
    let q = accepted_err (write_done s.card c.in-Write.offset c.in-Write.value) _ c.in_err-write-in-Write.ensures.answer in
    ran_quiet s _ c.args.output.now (l ∙ ap (λ g. fitting room (write_ran g)) q)
    (exit_is c.from_residual-in_err-write-in-Write.result c.from_residual-in_err-write-in-Write.ensures.1)
    (c.in_err-write-in-Write.ensures.after ∙ ap (λ g. card_after_write s.card g) q) refl

pub returns-in_ok-read-in-Read : goal.returns-in_ok-read-in-Read
returns-in_ok-read-in-Read c =
    let s = c.args.self.now in
    let room = length (left c.args.output.now) in
    let l = line_as c.args.line.now s.card room c.in_ok-offset.ensures ∙ ap (λ y. command_ran (Ok y) s.card room) c.in-Read.is in
    rw l c.in_ok-read-in-Read.ensures

pub returns-in_ok-write-in-Write : goal.returns-in_ok-write-in-Write
returns-in_ok-write-in-Write c =
    let s = c.args.self.now in
    let room = length (left c.args.output.now) in
    let l = line_as c.args.line.now s.card room c.in_ok-offset.ensures ∙ ap (λ y. command_ran (Ok y) s.card room) c.in-Write.is in
    let q = accepted_ok (write_done s.card c.in-Write.offset c.in-Write.value) c.in_ok-write-in-Write.ensures.answer in
    ran_quiet s _ c.args.output.now (l ∙ (ap (λ g. fitting room (write_ran g)) q.1 ∙ fits_none room q.0)) refl
    (c.in_ok-write-in-Write.ensures.after ∙ ap (λ g. card_after_write s.card g) q.1) refl

pub returns-in-Tick : goal.returns-in-Tick
returns-in-Tick c =
    let s = c.args.self.now in
    let room = length (left c.args.output.now) in
    let l = line_as c.args.line.now s.card room c.in_ok-offset.ensures ∙ ap (λ y. command_ran (Ok y) s.card room) c.in-Tick.is in
    ran_quiet s _ c.args.output.now (l ∙ fits_none room (ticked c.in-Tick.count c.in-Tick.lines c.in-Tick.inputs s.card)) refl c.tick_many.ensures refl
