-- A stream spells some list of requests and some rest.
use Rattle.std.proofs.Common.{◌≡◌, ℕ, ◌+◌, ◌<◌, zero, suc, Bool, true, false, List, [], ◌∷◌, ◌++◌, length, refl, ap, arith, inl, inr}
use Rattle.std.proofs.lemmas.List.{length-append}
use Rattle.httparse.specs.Grammar.{LineEnd, crlf, lf, print_end}
use Rattle.http_wire.specs.Heads.{IsHead, print_lines}
use Rattle.http_wire.specs.HeadLines.{is_last}
use Rattle.http_wire.specs.Requests.{RequestText, request_of, IsRequest, Rest, empty, unfinished, closed, refused, Spells}

end_some : (e : LineEnd) → 0 < length (print_end e)
end_some crlf = omega arith
end_some lf = omega arith

head_some : (head : List ℕ) → IsHead head → 0 < length head
head_some head (blank, lines, last, some, each, is) =
    omega (arith, ap length is, length-append (print_lines blank lines) (print_end last), end_some last)

-- behind a request less is left
request_shortens : (number : ℕ) (stream : List ℕ) (request : RequestText) (rest : List ℕ) → IsRequest number stream request rest
    → length rest < length stream
request_shortens number stream request rest (head, h, body, p) =
    omega (arith, ap length p.at.is, length-append head (body ++ rest), length-append body rest, head_some head p.at.ends)

module _ (number : ℕ) (stream : List ℕ) (none : (xs : List RequestText) (rest : Rest) → Spells number stream xs rest → ⊥) where
  -- no request stands there, where what would be left behind it has a reading
  no_request : (later : (rest : List ℕ) → length rest < length stream → ((xs : List RequestText) (end : Rest) → Spells (number + 1) rest xs end → ⊥) → ⊥)
      → (other : ℕ) (request : RequestText) (rest : List ℕ) → IsRequest other stream request rest → ⊥
  no_request later other request rest (head, h, body, p) = by_last (request_of h body (is_last number h)).last refl
    where
      this : IsRequest number stream (request_of h body (is_last number h)) rest
      this = (head, h, body, record { at = p.at; served = p.served; is = refl })

      by_last : (last : Bool) → (request_of h body (is_last number h)).last ≡ last → ⊥
      by_last true e = none (request_of h body (is_last number h) ∷ []) closed (rest, this, inl (e, refl, refl))
      by_last false e = later rest (request_shortens number stream (request_of h body (is_last number h)) rest this)
          (λ xs end spells. none (request_of h body (is_last number h) ∷ xs) end (rest, this, inr (e, spells)))

some_within : (n number : ℕ) (stream : List ℕ) → length stream < n
    → ((xs : List RequestText) (rest : Rest) → Spells number stream xs rest → ⊥) → ⊥
some_within zero number stream short none = absurd (omega (arith, short))
some_within (suc n) number stream short none = none [] unfinished (record {
  request = no_request number stream none (λ rest less. some_within n (number + 1) rest (omega (arith, short, less)));
  fault = λ fault f. none [] (refused fault) f;
  blank = λ b. none [] empty b;
})

-- It can't be that a stream has no reading.
pub spells_some : (number : ℕ) (stream : List ℕ) → ((xs : List RequestText) (rest : Rest) → Spells number stream xs rest → ⊥) → ⊥
spells_some number stream none = some_within (length stream + 1) number stream (omega arith) none
