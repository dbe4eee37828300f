use Rattle.std.proofs.Common.{◌∙◌, Some, None, sym, codes, arith}
use Rattle.clap.specs.Words.{found_of, one_text, rows_of}
use Rattle.host_words.proofs.Ranges.{read_in_range}
use Rattle.host_words.proofs.Rows.{number_given}
use Rattle.host_words.proofs.WindowRows.{no_port, no_workers, both}
use Rattle.host_words.proofs.window.window_in.Goals as goal

pub returns-in_err-port : goal.returns-in_err-port
returns-in_err-port c =
    let f = found_of c.args.matches.now in
    c.from_residual.ensures ∙ sym (no_port (rows_of f) (number_given f (codes "window") 1 65535 None (sym c.in_err-port.was ∙ c.number_of.ensures)))

pub returns-in_err-workers : goal.returns-in_err-workers
returns-in_err-workers c =
    let f = found_of c.args.matches.now in
    c.from_residual-in_err-workers.ensures ∙ sym (no_workers (rows_of f) c.in_ok-port.port
    (number_given f (codes "window") 1 65535 (Some c.in_ok-port.port) (sym c.in_ok-port.was ∙ c.number_of.ensures))
    (number_given f (codes "workers") 1 16 None (sym c.in_err-workers.was ∙ c.number_of-2.ensures)))

pub overflow_cast-result : goal.overflow_cast-result
overflow_cast-result c =
    let f = found_of c.args.matches.now in
    let r = read_in_range 1 65535 c.in_ok-port.port (one_text f (codes "window")) (sym c.in_ok-port.was ∙ c.number_of.ensures) in
    omega (arith, r)

pub returns : goal.returns
returns c =
    let f = found_of c.args.matches.now in
    sym (both (rows_of f) c.in_ok-port.port c.in_ok-workers.workers
    (number_given f (codes "window") 1 65535 (Some c.in_ok-port.port) (sym c.in_ok-port.was ∙ c.number_of.ensures))
    (number_given f (codes "workers") 1 16 (Some c.in_ok-workers.workers) (sym c.in_ok-workers.was ∙ c.number_of-2.ensures)))
