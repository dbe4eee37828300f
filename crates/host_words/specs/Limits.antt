-- The greatest numbers that words may say.
use Rattle.std.specs.Prelude.{ℕ, ◌+◌}

abbrev pub most_port : ℕ
most_port = 65_535

-- of members that serve, and of a drill's workers
abbrev pub most_workers : ℕ
most_workers = 16

-- how many clocks serving takes: one for each member that serves, and one for the member that sweeps
abbrev pub clock_count : ℕ
clock_count = most_workers + 1

abbrev pub most_connections : ℕ
most_connections = 4_294_967_295

-- from one sweep to the next, and from one reading of a clock of words to the next: a day
abbrev pub most_seconds : ℕ
most_seconds = 86_400

-- from what number the requests of a drill are made
abbrev pub most_seed : ℕ
most_seed = 65_535

-- of one worker of a drill
abbrev pub most_requests : ℕ
most_requests = 2_000

-- of the one run of `tiny` or of a drill
abbrev pub most_run_places : ℕ
most_run_places = 1_200
