-- What holds of each member of a crew that is counted out holds at each place of it.
use Rattle.std.proofs.Common.{◌<◌, ◌∷◌, [], ℕ, zero, suc, length, slice_index_or, arith}

pub of_one : {T : Type 0} (P : T → Type 0) (a : T) → P a
    → (k : ℕ) (d : T) → k < length (a ∷ []) → P (slice_index_or (a ∷ []) k d)
of_one P a pa zero d lt = pa
of_one P a pa (suc k) d lt = absurd (omega (arith, lt))

pub of_two : {T : Type 0} (P : T → Type 0) (a b : T) → P a → P b
    → (k : ℕ) (d : T) → k < length (a ∷ b ∷ []) → P (slice_index_or (a ∷ b ∷ []) k d)
of_two P a b pa pb zero d lt = pa
of_two P a b pa pb (suc zero) d lt = pb
of_two P a b pa pb (suc (suc k)) d lt = absurd (omega (arith, lt))

pub of_three : {T : Type 0} (P : T → Type 0) (a b c : T) → P a → P b → P c
    → (k : ℕ) (d : T) → k < length (a ∷ b ∷ c ∷ []) → P (slice_index_or (a ∷ b ∷ c ∷ []) k d)
of_three P a b c pa pb pc zero d lt = pa
of_three P a b c pa pb pc (suc zero) d lt = pb
of_three P a b c pa pb pc (suc (suc zero)) d lt = pc
of_three P a b c pa pb pc (suc (suc (suc k))) d lt = absurd (omega (arith, lt))
