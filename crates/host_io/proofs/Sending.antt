-- What is held back, after a sink got some of it, or some of what stands behind it.
use Rattle.std.proofs.Common.{◌≡◌, ℕ, zero, suc, List, [], ◌∷◌, ◌++◌, ◌+◌, ◌-◌, length, take, drop, Option, Some, None, refl, sym, ◌∙◌, ap, subst, arith, append_assoc, append-nil, take-append-drop}
use Rattle.std.proofs.Math.Seq.{drop-nil, take-append-add}
use Rattle.std.proofs.lemmas.List.{drop-drop, length-drop, take_all}
use Rattle.rail_io.specs.Told.{with_end}
use Rattle.host_io.specs.Outbox.{IsInRoom, Lies, OutboxView}

pub end_more : (told : Option (List ℕ)) (a b : List ℕ) → with_end (with_end told a) b ≡ with_end told (a ++ b)
end_more None a b = refl
end_more (Some t) a b = ap (λ (l : List ℕ). Some l) (append_assoc t a b)

pub end_none : (told : Option (List ℕ)) → with_end told [] ≡ told
end_none None = refl
end_none (Some t) = ap (λ (l : List ℕ). Some l) (append-nil t)

-- where nothing is held any more, all that was held went out
pub all_out : (told later : Option (List ℕ)) (held rest : List ℕ) → with_end later rest ≡ with_end told held → rest ≡ [] → later ≡ with_end told held
all_out told later held rest same none = sym (end_none later) ∙ ap (λ (l : List ℕ). with_end later l) (sym none) ∙ same

-- the first bytes of what was held went out, and what is held then
pub send_more : (told later : Option (List ℕ)) (items : List ℕ) (sent n : ℕ) → later ≡ with_end told (take n (drop sent items))
    → with_end later (drop (sent + n) items) ≡ with_end told (drop sent items)
send_more told later items sent n e =
    ap (λ (t : Option (List ℕ)). with_end t (drop (sent + n) items)) e
    ∙ end_more told (take n (drop sent items)) (drop (sent + n) items)
    ∙ ap (λ (l : List ℕ). with_end told (take n (drop sent items) ++ l)) (sym (drop-drop n sent items))
    ∙ ap (λ (l : List ℕ). with_end told l) (take-append-drop n (drop sent items))

-- so many bytes of what was held and of a piece behind it: with what is still held, all that was held and the first of
-- the piece
piece_more : (held piece : List ℕ) (n : ℕ) → take n (held ++ piece) ++ drop n held ≡ held ++ take (n - length held) piece
piece_more [] piece n =
    let same : n - length {A = ℕ} [] ≡ n = omega arith in
    ap (λ (l : List ℕ). take n piece ++ l) (drop-nil n) ∙ append-nil (take n piece) ∙ ap (λ (m : ℕ). take m piece) (sym same)
piece_more (x ∷ held) piece zero =
    let none : zero - length (x ∷ held) ≡ zero = omega arith in
    sym (append-nil (x ∷ held)) ∙ ap (λ (m : ℕ). (x ∷ held) ++ take m piece) (sym none)
piece_more (x ∷ held) piece (suc n) =
    let e : suc n - suc (length held) ≡ n - length held = omega arith in
    ap (λ (l : List ℕ). x ∷ l) (piece_more held piece n ∙ ap (λ (m : ℕ). held ++ take m piece) (sym e))

-- they went out, and what is held then
pub send_behind : (told later : Option (List ℕ)) (held rest piece : List ℕ) (n m : ℕ) → later ≡ with_end told (take n (rest ++ piece)) → rest ≡ held
    → m ≡ n - length held → with_end later (drop n held) ≡ with_end (with_end told held) (take m piece)
send_behind told later held rest piece n m e same count =
    ap (λ (t : Option (List ℕ)). with_end t (drop n held)) (e ∙ ap (λ (l : List ℕ). with_end told (take n (l ++ piece))) same)
    ∙ end_more told (take n (held ++ piece)) (drop n held)
    ∙ ap (λ (l : List ℕ). with_end told l) (piece_more held piece n ∙ ap (λ (k : ℕ). held ++ take k piece) (sym count))
    ∙ sym (end_more told held (take m piece))

-- a piece that was taken whole, and then the first bytes of another
pub both_more : (told later : Option (List ℕ)) (first second : List ℕ) (count more : ℕ) → later ≡ with_end (with_end told (take count first)) (take more second)
    → count ≡ length first → later ≡ with_end told (take (count + more) (first ++ second))
both_more told later first second count more e whole =
    e ∙ end_more told (take count first) (take more second)
    ∙ ap (with_end told)
    (ap (λ (l : List ℕ). l ++ take more second) (ap (λ (n : ℕ). take n first) whole ∙ take_all (length first) first (omega arith))
    ∙ sym (take-append-add first second more)
    ∙ ap (λ (n : ℕ). take (n + more) (first ++ second)) (sym whole))

-- an outbox whose bytes lie so is no fuller than its room
pub lies_in_room : (items : List ℕ) (sent taken memory : ℕ) → length items ≡ taken → Lies sent taken memory
    → IsInRoom (record { held = drop sent items; used = taken })
lies_in_room items sent taken memory many lies = (
  lies.1,
  λ none.
      let left : length items - sent ≡ 0 = sym (length-drop sent items) ∙ ap (λ (l : List ℕ). length l) none in
      lies.3 (omega (arith, left, many, lies.0)),
)

pub in_room : (o : OutboxView) (items : List ℕ) (sent taken memory : ℕ) → length items ≡ taken → Lies sent taken memory
    → record { held = drop sent items; used = taken } ≡ o → IsInRoom o
in_room o items sent taken memory many lies is = subst IsInRoom is (lies_in_room items sent taken memory many lies)
