-- A search for the end of a head, byte by byte: a tool for what a text begins with.
use Rattle.std.specs.Prelude.{ℕ, ◌+◌, Bool, true, false, not, ◌&&◌, ◌||◌, ◌==◌, List, [], ◌∷◌, if◌then◌else◌}

-- what is found: the head's end after so many bytes, or 66 lines that aren't empty before any end
pub data HeadSearch : Type 0 where
  Nothing Many : HeadSearch
  Ended : ℕ → HeadSearch

-- so many bytes more
abbrev pub on : ℕ → HeadSearch → HeadSearch
on n Nothing = Nothing
on n (Ended m) = Ended (n + m)
on n Many = Many

-- `count`: how many lines that aren't empty have ended. `begun`: one has. `blank`: the line in progress has no byte,
-- or one CR. `carriage`: the last byte was a CR.
abbrev pub search_head : ℕ → Bool → Bool → Bool → List ℕ → HeadSearch
search_head count begun blank carriage [] = Nothing
search_head count begun blank carriage (b ∷ bytes) =
    if (b == 10) && blank && begun then Ended 1
    else (if (b == 10) && not blank && (count == 65) then Many
    else on 1 (search_head
    (if (b == 10) && not blank then count + 1 else count)
    (begun || (b == 10 && not blank))
    (b == 10 || (blank && not carriage && b == 13))
    (b == 13)
    bytes))

-- The bytes are empty lines. `carriage`: a CR stands before them.
abbrev pub only_ends : Bool → List ℕ → Bool
only_ends carriage [] = not carriage
only_ends carriage (b ∷ bytes) =
    if b == 10 then only_ends false bytes
    else (if b == 13 && not carriage then only_ends true bytes else false)
