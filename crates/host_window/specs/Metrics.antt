-- All that the window shows of a host.
use Rattle.std.specs.Prelude.{ℕ, List, ◌++◌, codes}
use Rattle.host_window.specs.Routes.{routes_text}
use Rattle.host_window.specs.Texts.{HeadView, one_text, table_text}
use Rattle.host_window.specs.declared.family.Kind.{Kind}
use Rattle.host_window.specs.declared.family.Kind.TheVariants.{Counter, Gauge}
use Rattle.host_window.specs.declared.counts.Counts.{Counts}

abbrev pub head : List ℕ → List ℕ → Kind → HeadView
head name help kind = record { name = name; help = help; kind = kind }

abbrev pub healthy_head : HeadView
healthy_head = head (codes "sumacgate_healthy") (codes "Whether the host takes connections: 1 or 0.") Gauge

abbrev pub workers_head : HeadView
workers_head = head (codes "sumacgate_workers") (codes "How many workers there are.") Gauge

abbrev pub busy_head : HeadView
busy_head = head (codes "sumacgate_workers_busy") (codes "How many workers have a connection now.") Gauge

abbrev pub taken_head : HeadView
taken_head = head (codes "sumacgate_connections_total") (codes "Connections taken.") Counter

abbrev pub ended_head : HeadView
ended_head =
    head (codes "sumacgate_connections_ended_total")
    (codes "Connections ended: by the client, by the host, or by a read that failed or waited too long.")
    Counter

abbrev pub unwritten_head : HeadView
unwritten_head = head (codes "sumacgate_write_failures_total") (codes "Writes to a connection that failed.") Counter

abbrev pub received_head : HeadView
received_head = head (codes "sumacgate_received_bytes_total") (codes "Bytes received on connections.") Counter

abbrev pub sent_head : HeadView
sent_head = head (codes "sumacgate_sent_bytes_total") (codes "Bytes of answers written to connections.") Counter

abbrev pub answers_head : HeadView
answers_head = head (codes "sumacgate_answers_total") (codes "Answers written, by status.") Counter

abbrev pub problems_head : HeadView
problems_head = head (codes "sumacgate_problems_total") (codes "Problems answered, by code.") Counter

abbrev pub sweeps_head : HeadView
sweeps_head = head (codes "sumacgate_sweeps_total") (codes "Sweeps that were due.") Counter

abbrev pub cuts_head : HeadView
cuts_head =
    head (codes "sumacgate_journal_cuts_total")
    (codes "Pieces of the journal that were appended and kept.")
    Counter

abbrev pub kept_head : HeadView
kept_head =
    head (codes "sumacgate_journal_bytes_total")
    (codes "Bytes of the journal that were written and kept.")
    Counter

abbrev pub rewrites_head : HeadView
rewrites_head =
    head (codes "sumacgate_journal_rewrites_total")
    (codes "Times that the whole journal was written anew.")
    Counter

abbrev pub writing_head : HeadView
writing_head =
    head (codes "sumacgate_journal_write_start_seconds")
    (codes "When the write of the journal began that is under way, in seconds since 1970, or 0.")
    Gauge

abbrev pub lost_head : HeadView
lost_head = head (codes "sumacgate_journal_lost") (codes "Whether the journal is lost: 1 or 0.") Gauge

-- what it shows of whether it takes connections, and of its workers
abbrev pub health_text : Counts → List ℕ
health_text c = (one_text healthy_head c.healthy ++ one_text workers_head c.workers) ++ one_text busy_head c.busy

-- of its connections
abbrev pub streams_text : Counts → List ℕ
streams_text c =
    (((one_text taken_head c.taken ++ table_text ended_head c.ended.items) ++ one_text unwritten_head c.unwritten)
    ++ one_text received_head c.received)
    ++ one_text sent_head c.sent

-- of its answers
abbrev pub answers_text : Counts → List ℕ
answers_text c = table_text answers_head c.answers.items ++ table_text problems_head c.problems.items

-- of its sweeps and its journal
abbrev pub keeping_text : Counts → List ℕ
keeping_text c =
    ((((one_text sweeps_head c.sweeps ++ one_text cuts_head c.cuts) ++ one_text kept_head c.kept)
    ++ one_text rewrites_head c.rewrites)
    ++ one_text writing_head c.writing)
    ++ one_text lost_head c.lost

-- the whole text
unfoldable pub metrics_text : Counts → List ℕ
metrics_text c = (((health_text c ++ streams_text c) ++ answers_text c) ++ routes_text c) ++ keeping_text c
