-- Which label an answer has.
use Rattle.std.specs.Prelude.{ℕ, ◌==◌, ◌+◌, ◌*◌, ◌-◌, ◌≤◌, Bool, List, [], ◌∷◌, ◌++◌, Option, Some, None, codes}
use Rattle.std.specs.Prelude.{if◌then◌else◌}

-- the number of a status's label
abbrev pub status_number : ℕ → ℕ
status_number status =
    if status == 200 then 0
    else (if status == 201 then 1
    else (if status == 400 then 2
    else (if status == 401 then 3
    else (if status == 403 then 4
    else (if status == 404 then 5
    else (if status == 405 then 6
    else (if status == 409 then 7
    else (if status == 410 then 8
    else (if status == 413 then 9
    else (if status == 431 then 10
    else (if status == 500 then 11
    else (if status == 501 then 12
    else (if status == 503 then 13
    else (if status == 507 then 14
    else 15))))))))))))))
