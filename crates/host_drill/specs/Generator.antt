-- What a drill is made of: its requests and its catalogue.
use Rattle.std.specs.Prelude.{ℕ, zero, suc, ◌+◌, ◌*◌, ◌%◌, List, [], ◌∷◌, ◌++◌, codes, decimal}

-- the legs of the one run
abbrev pub drill_legs : ℕ
drill_legs = 8

-- the booking rows
abbrev pub drill_rows : ℕ
drill_rows = 32768

-- the leg that request k asks for
abbrev pub drill_leg : ℕ → ℕ → ℕ
drill_leg seed k = (seed + k * k) % drill_legs

-- the digit of a number below 10
abbrev pub digit : ℕ → ℕ
digit n = 48 + n

-- what stands before, between and after the two stations of a request
abbrev pub request_front : List ℕ
request_front =
    codes "POST /reservations HTTP/1.1\r\nHost: drill\r\nRetailer-Key: drill\r\nContent-Length: 31\r\n\r\n{\"from\":\"D"

abbrev pub request_middle : List ℕ
request_middle = codes "\",\"run\":0,\"to\":\"D"

abbrev pub request_end : List ℕ
request_end = codes "\"}"

-- the request for one place on this leg, from its station to the next
abbrev pub request_bytes : ℕ → List ℕ
request_bytes leg = request_front ++ digit leg ∷ (request_middle ++ digit (leg + 1) ∷ request_end)

-- this many requests, of which the first has this number
abbrev pub requests_from : ℕ → ℕ → ℕ → List ℕ
requests_from seed first zero = []
requests_from seed first (suc n) = requests_from seed first n ++ request_bytes (drill_leg seed (first + n))

-- the requests of one worker
abbrev pub requests_of : ℕ → ℕ → ℕ → List ℕ
requests_of seed size worker = requests_from seed (worker * size) size

-- the catalogue: one run over nine stations, with one coach of this many places; its members stand in the order of
-- their names
abbrev pub catalogue_front : List ℕ
catalogue_front =
    codes "{\"currency\":\"EUR\",\"refundSteps\":[{\"before\":0,\"fee\":10000}],\"retailers\":[{\"key\":\"drill\",\"number\":1}],\"rows\":32768,\"runs\":[{\"coaches\":[{\"class\":\"SECOND\",\"coach\":1,\"places\":[{\"first\":1,\"last\":"

abbrev pub catalogue_end : List ℕ
catalogue_end =
    codes "}]}],\"fares\":{\"first\":{\"base\":100,\"perLeg\":10},\"second\":{\"base\":100,\"perLeg\":10}},\"stops\":[{\"depart\":\"2026-06-01T08:00:00Z\",\"station\":\"D0\"},{\"arrive\":\"2026-06-01T08:10:00Z\",\"depart\":\"2026-06-01T08:10:00Z\",\"station\":\"D1\"},{\"arrive\":\"2026-06-01T08:20:00Z\",\"depart\":\"2026-06-01T08:20:00Z\",\"station\":\"D2\"},{\"arrive\":\"2026-06-01T08:30:00Z\",\"depart\":\"2026-06-01T08:30:00Z\",\"station\":\"D3\"},{\"arrive\":\"2026-06-01T08:40:00Z\",\"depart\":\"2026-06-01T08:40:00Z\",\"station\":\"D4\"},{\"arrive\":\"2026-06-01T08:50:00Z\",\"depart\":\"2026-06-01T08:50:00Z\",\"station\":\"D5\"},{\"arrive\":\"2026-06-01T09:00:00Z\",\"depart\":\"2026-06-01T09:00:00Z\",\"station\":\"D6\"},{\"arrive\":\"2026-06-01T09:10:00Z\",\"depart\":\"2026-06-01T09:10:00Z\",\"station\":\"D7\"},{\"arrive\":\"2026-06-01T09:20:00Z\",\"station\":\"D8\"}],\"train\":1}],\"stations\":[{\"code\":\"D0\"},{\"code\":\"D1\"},{\"code\":\"D2\"},{\"code\":\"D3\"},{\"code\":\"D4\"},{\"code\":\"D5\"},{\"code\":\"D6\"},{\"code\":\"D7\"},{\"code\":\"D8\"}]}"

abbrev pub catalogue_text : ℕ → List ℕ
catalogue_text places = catalogue_front ++ (decimal places ++ catalogue_end)
