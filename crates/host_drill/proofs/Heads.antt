-- A line in the answers of a connection.
use Rattle.std.proofs.Common.{◌≡◌, ◌∙◌, ℕ, ◌+◌, ◌==◌, Bool, true, false, List, [], ◌∷◌, ◌++◌, length, codes, decimal, refl, ap, arith, append_assoc, append-nil}
use Rattle.std.proofs.lemmas.Bool.{ne_eqb}
use Rattle.std.specs.List.{AllByRecursion}
use Rattle.host_drill.specs.Totals.{one_if, times}
use Rattle.http_wire.specs.Answers.{head_text, reason_of, media_of}
use Rattle.host_drill.proofs.LineSearch.{StartsWith, has, tells_all, times_apart, times_without_first, times_without_stop}
use Rattle.host_drill.proofs.Bodies.{HasNoControl, all_both, all_digits}

-- a head up to the number of its body's length
abbrev pub front_text : ℕ → Bool → List ℕ
front_text status problem =
    codes "HTTP/1.1 " ++ decimal status ++ codes " " ++ reason_of status
    ++ codes "\r\nContent-Type: " ++ media_of problem ++ codes "\r\nContent-Length: "

ends : (front size end : List ℕ) → ((front ++ size) ++ []) ++ end ≡ front ++ (size ++ end)
ends front size end = ap (λ (text : List ℕ). text ++ end) (append-nil (front ++ size)) ∙ append_assoc front size end

head_parts : (status size : ℕ) (problem : Bool) → head_text status problem size false ≡ front_text status problem ++ (decimal size ++ codes "\r\n\r\n")
unfolding head_text
head_parts status size problem = ends (front_text status problem) (decimal size) (codes "\r\n\r\n")

answer_parts : (front size body rest : List ℕ) → ((front ++ size) ++ body) ++ rest ≡ front ++ (size ++ (body ++ rest))
answer_parts front size body rest = simp append_assoc

-- the line stands in such a front once, where the status is the wanted one, and else not
abbrev pub StandsBy : List ℕ → ℕ → ℕ → Bool → Type 0
StandsBy line wanted status problem = (tells_all line (front_text status problem) ≡ true) × (times line (front_text status problem) ≡ one_if (status == wanted))

abbrev IsNoStart : ℕ → Type 0
IsNoStart b = (72 == b) ≡ false

abbrev IsNoReturn : ℕ → Type 0
IsNoReturn b = (13 == b) ≡ false

no_start : (size : ℕ) → AllByRecursion IsNoStart (decimal size ++ codes "\r\n\r\n")
no_start size =
    all_both IsNoStart (decimal size) (codes "\r\n\r\n")
    (all_digits IsNoStart (λ d less. ne_eqb 72 (48 + d) (λ (e : 72 ≡ 48 + d). let f : ⊥ = omega arith in f)) size) (refl, (refl, (refl, (refl, tt))))

no_return : (text : List ℕ) → HasNoControl text → AllByRecursion IsNoReturn text
no_return [] h = tt
no_return (b ∷ text) h = (ne_eqb 13 b (λ (e : 13 ≡ b). let f : ⊥ = omega (arith, h.0) in f), no_return text h.1)

-- One answer and what follows it, of a line that goes on with a carriage return and no further H.
pub times_in_answer : (line : List ℕ) (wanted status : ℕ) (problem : Bool) (body rest : List ℕ) → has 13 line ≡ true → has 72 line ≡ false
    → StandsBy (72 ∷ line) wanted status problem → HasNoControl body → StartsWith 72 rest
    → times (72 ∷ line) ((head_text status problem (length body) false ++ body) ++ rest) ≡ one_if (status == wanted) + times (72 ∷ line) rest
times_in_answer line wanted status problem body rest stops lacks stands none starts =
    let size = decimal (length body) ++ codes "\r\n\r\n" in
    let parts = ap (λ (head : List ℕ). (head ++ body) ++ rest) (head_parts status (length body) problem) ∙ answer_parts (front_text status problem) size body rest in
    let front = times_apart (72 ∷ line) (front_text status problem) (size ++ (body ++ rest)) stands.0 in
    let behind = times_without_first 72 line size (body ++ rest) (no_start (length body)) in
    let inside = times_without_stop 13 72 line body rest stops lacks (no_return body none) starts in
    let e : times (72 ∷ line) (front_text status problem ++ (size ++ (body ++ rest))) ≡ one_if (status == wanted) + times (72 ∷ line) rest = omega (arith, front, behind, inside, stands.1) in
    ap (times (72 ∷ line)) parts ∙ e

-- an answer begins with an H
pub starts_answer : (status : ℕ) (problem : Bool) (body rest : List ℕ) → StartsWith 72 ((head_text status problem (length body) false ++ body) ++ rest)
unfolding head_text
starts_answer status problem body rest = refl
