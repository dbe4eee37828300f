use Rattle.std.proofs.Common.{◌∙◌, Some, None, sym, codes, arith}
use Rattle.clap.specs.Words.{found_of, one_text, rows_of}
use Rattle.host_words.proofs.Ranges.{read_in_range}
use Rattle.host_words.proofs.Rows.{number_given}
use Rattle.host_words.proofs.ServeRows.{no_port, no_workers, no_connections, no_sweep, all_numbers}
use Rattle.host_words.proofs.serve.numbers_in.Goals as goal

pub returns-in_err-port-clause-numbers : goal.returns-in_err-port-clause-numbers
returns-in_err-port-clause-numbers c =
    let f = found_of c.args.matches.now in
    c.from_residual.ensures ∙ sym (no_port (rows_of f) (number_given f (codes "port") 1 65535 None (sym c.in_err-port.was ∙ c.number_of.ensures)))

pub returns-in_err-workers-clause-numbers : goal.returns-in_err-workers-clause-numbers
returns-in_err-workers-clause-numbers c =
    let f = found_of c.args.matches.now in
    c.from_residual-in_err-workers.ensures ∙ sym (no_workers (rows_of f) c.in_ok-port.port
    (number_given f (codes "port") 1 65535 (Some c.in_ok-port.port) (sym c.in_ok-port.was ∙ c.number_of.ensures))
    (number_given f (codes "workers") 1 16 None (sym c.in_err-workers.was ∙ c.number_of-2.ensures)))

pub returns-in_err-connections-clause-numbers : goal.returns-in_err-connections-clause-numbers
returns-in_err-connections-clause-numbers c =
    let f = found_of c.args.matches.now in
    c.from_residual-in_err-connections.ensures ∙ sym (no_connections (rows_of f) c.in_ok-port.port c.in_ok-workers.workers
    (number_given f (codes "port") 1 65535 (Some c.in_ok-port.port) (sym c.in_ok-port.was ∙ c.number_of.ensures))
    (number_given f (codes "workers") 1 16 (Some c.in_ok-workers.workers) (sym c.in_ok-workers.was ∙ c.number_of-2.ensures))
    (number_given f (codes "connections") 1 4294967295 None (sym c.in_err-connections.was ∙ c.number_of-3.ensures)))

pub returns-in_err-sweep-clause-numbers : goal.returns-in_err-sweep-clause-numbers
returns-in_err-sweep-clause-numbers c =
    let f = found_of c.args.matches.now in
    c.from_residual-in_err-sweep.ensures ∙ sym (no_sweep (rows_of f) c.in_ok-port.port c.in_ok-workers.workers c.in_ok-connections.connections
    (number_given f (codes "port") 1 65535 (Some c.in_ok-port.port) (sym c.in_ok-port.was ∙ c.number_of.ensures))
    (number_given f (codes "workers") 1 16 (Some c.in_ok-workers.workers) (sym c.in_ok-workers.was ∙ c.number_of-2.ensures))
    (number_given f (codes "connections") 1 4294967295 (Some c.in_ok-connections.connections) (sym c.in_ok-connections.was ∙ c.number_of-3.ensures))
    (number_given f (codes "sweep") 1 86400 None (sym c.in_err-sweep.was ∙ c.number_of-4.ensures)))

pub overflow_cast-result : goal.overflow_cast-result
overflow_cast-result c =
    let f = found_of c.args.matches.now in
    let r = read_in_range 1 65535 c.in_ok-port.port (one_text f (codes "port")) (sym c.in_ok-port.was ∙ c.number_of.ensures) in
    omega (arith, r)

pub returns-clause-numbers : goal.returns-clause-numbers
returns-clause-numbers c =
    let f = found_of c.args.matches.now in
    sym (all_numbers (rows_of f) c.in_ok-port.port c.in_ok-workers.workers c.in_ok-connections.connections c.in_ok-sweep.sweep
    (number_given f (codes "port") 1 65535 (Some c.in_ok-port.port) (sym c.in_ok-port.was ∙ c.number_of.ensures))
    (number_given f (codes "workers") 1 16 (Some c.in_ok-workers.workers) (sym c.in_ok-workers.was ∙ c.number_of-2.ensures))
    (number_given f (codes "connections") 1 4294967295 (Some c.in_ok-connections.connections) (sym c.in_ok-connections.was ∙ c.number_of-3.ensures))
    (number_given f (codes "sweep") 1 86400 (Some c.in_ok-sweep.sweep) (sym c.in_ok-sweep.was ∙ c.number_of-4.ensures)))

pub returns-clause-ranges : goal.returns-clause-ranges
returns-clause-ranges c =
    let f = found_of c.args.matches.now in
    record {
      port = read_in_range 1 65535 c.in_ok-port.port (one_text f (codes "port")) (sym c.in_ok-port.was ∙ c.number_of.ensures);
      workers = read_in_range 1 16 c.in_ok-workers.workers (one_text f (codes "workers")) (sym c.in_ok-workers.was ∙ c.number_of-2.ensures);
      connections = (read_in_range 1 4294967295 c.in_ok-connections.connections (one_text f (codes "connections")) (sym c.in_ok-connections.was ∙ c.number_of-3.ensures)).0;
      sweep = read_in_range 1 86400 c.in_ok-sweep.sweep (one_text f (codes "sweep")) (sym c.in_ok-sweep.was ∙ c.number_of-4.ensures);
    }
