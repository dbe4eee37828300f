-- What a drill is counted to.
use Rattle.std.specs.Prelude.{ℕ, zero, suc, ◌+◌, ◌==◌, ◌&&◌, min, Bool, true, false, List, [], ◌∷◌, ◌++◌}
use Rattle.std.specs.Prelude.{codes, decimal}
use Rattle.history_model.specs.Phase.{is_live}
use Rattle.history_model.specs.Booking.{State, phase_of_row}
use Rattle.host_drill.specs.Generator.{drill_leg, drill_legs}

abbrev pub one_if : Bool → ℕ
one_if true = 1
one_if false = 0

-- how many of the numbers below n pass
abbrev pub count_below : (ℕ → Bool) → ℕ → ℕ
count_below test zero = 0
count_below test (suc n) = count_below test n + one_if (test n)

-- the rows, of this many, whose booking is live
abbrev pub sold_of : State → ℕ → ℕ
sold_of s rows = count_below (λ row. is_live (phase_of_row s row)) rows

-- how many of the first n requests ask for the leg
abbrev pub asked_for : ℕ → ℕ → ℕ → ℕ
asked_for seed n leg = count_below (λ k. drill_leg seed k == leg) n

-- the lesser of the requests for a leg and the places, over this many legs
abbrev pub sold_on : ℕ → ℕ → ℕ → ℕ → ℕ
sold_on seed n places zero = 0
sold_on seed n places (suc leg) = sold_on seed n places leg + min (asked_for seed n leg) places

-- the same over all legs
abbrev pub most_sold : ℕ → ℕ → ℕ → ℕ
most_sold seed n places = sold_on seed n places drill_legs

-- whether the first text begins the second
abbrev pub begins : List ℕ → List ℕ → Bool
begins [] text = true
begins (a ∷ front) [] = false
begins (a ∷ front) (b ∷ text) = (a == b) && begins front text

-- how often a line stands in a text
abbrev pub times : List ℕ → List ℕ → ℕ
times line [] = 0
times line (b ∷ rest) = one_if (begins line (b ∷ rest)) + times line rest

-- the lines with which the answers 409, 500 and 503 begin
abbrev pub refused_line : List ℕ
refused_line = codes "HTTP/1.1 409 Conflict\r\n"

abbrev pub no_memory_line : List ℕ
no_memory_line = codes "HTTP/1.1 500 Internal Server Error\r\n"

abbrev pub busy_line : List ℕ
busy_line = codes "HTTP/1.1 503 Service Unavailable\r\n"

-- how often a line stands in all that was answered
abbrev pub times_in : List ℕ → List (List ℕ) → ℕ
times_in line [] = 0
times_in line (answer ∷ more) = times line answer + times_in line more

-- what is printed
abbrev pub totals_line : ℕ → ℕ → ℕ → ℕ → ℕ → List ℕ
totals_line requests sold refused busy double =
    codes "requests " ++ (decimal requests ++ (codes " sold " ++ (decimal sold ++ (codes " refused " ++ (decimal refused
    ++ (codes " busy " ++ (decimal busy ++ (codes " double " ++ (decimal double ++ codes "\n")))))))))
