-- The heads of answers.
use Rattle.std.specs.Prelude.{ℕ, Bool, List, [], ◌∷◌, ◌++◌, codes, decimal, ◌==◌, if◌then◌else◌}
use Rattle.std.specs.List.{list_any}

-- the statuses of answers
abbrev pub is_status : ℕ → Bool
is_status status = list_any (λ s. s == status)
    (200 ∷ 201 ∷ 400 ∷ 401 ∷ 403 ∷ 404 ∷ 405 ∷ 409 ∷ 410 ∷ 413 ∷ 431 ∷ 500 ∷ 501 ∷ 503 ∷ 507 ∷ [])

-- the reason of each; the last is that of 507
abbrev pub reason_of : ℕ → List ℕ
reason_of status =
    if status == 200 then codes "OK"
    else (if status == 201 then codes "Created"
    else (if status == 400 then codes "Bad Request"
    else (if status == 401 then codes "Unauthorized"
    else (if status == 403 then codes "Forbidden"
    else (if status == 404 then codes "Not Found"
    else (if status == 405 then codes "Method Not Allowed"
    else (if status == 409 then codes "Conflict"
    else (if status == 410 then codes "Gone"
    else (if status == 413 then codes "Content Too Large"
    else (if status == 431 then codes "Request Header Fields Too Large"
    else (if status == 500 then codes "Internal Server Error"
    else (if status == 501 then codes "Not Implemented"
    else (if status == 503 then codes "Service Unavailable"
    else codes "Insufficient Storage")))))))))))))

abbrev pub media_of : Bool → List ℕ
media_of problem = if problem then codes "application/problem+json" else codes "application/json"

-- the line that ends the connection
abbrev pub close_of : Bool → List ℕ
close_of last = if last then codes "\r\nConnection: close" else []

unfoldable pub head_text : ℕ → Bool → ℕ → Bool → List ℕ
head_text status problem size last =
    codes "HTTP/1.1 " ++ decimal status ++ codes " " ++ reason_of status
    ++ codes "\r\nContent-Type: " ++ media_of problem
    ++ codes "\r\nContent-Length: " ++ decimal size ++ close_of last ++ codes "\r\n\r\n"
