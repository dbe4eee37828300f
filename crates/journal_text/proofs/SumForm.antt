-- Each sum has 64 hex digits in lower case.
use Rattle.std.proofs.Common.{◌≡◌, ℕ, zero, suc, ◌+◌, ◌*◌, ◌/◌, ◌%◌, ◌<◌, true, List, [], ◌∷◌, ◌++◌, length, slice_index, slice_index_or, refl, sym, ap, ◌∙◌, arith, w32}
use Rattle.std.specs.Int.{to_be_bytes}
use Rattle.std.specs.List.{All, AllByRecursion, AllPass}
use Rattle.hex.specs.Hex.{encode_lower, encode_with, lower_digits}
use Rattle.hex.proofs.HexLemmas.{length-encode_with}
use Rattle.sha2.specs.Sha256.{digest_bytes, sha256}
use Rattle.sha2.proofs.Facts256.{length-sha256}
use Rattle.history_model.proofs.ListLemmas.{All-append}
use Rattle.journal_text.specs.Texts.{HasSumForm, is_hex, sum_of}

nibble : (k : ℕ) → k < 16 → is_hex (slice_index lower_digits k) ≡ true
nibble zero l = refl
nibble (suc zero) l = refl
nibble (suc (suc zero)) l = refl
nibble (suc (suc (suc zero))) l = refl
nibble (suc (suc (suc (suc zero)))) l = refl
nibble (suc (suc (suc (suc (suc zero))))) l = refl
nibble (suc (suc (suc (suc (suc (suc zero)))))) l = refl
nibble (suc (suc (suc (suc (suc (suc (suc zero))))))) l = refl
nibble (suc (suc (suc (suc (suc (suc (suc (suc zero)))))))) l = refl
nibble (suc (suc (suc (suc (suc (suc (suc (suc (suc zero))))))))) l = refl
nibble (suc (suc (suc (suc (suc (suc (suc (suc (suc (suc zero)))))))))) l = refl
nibble (suc (suc (suc (suc (suc (suc (suc (suc (suc (suc (suc zero))))))))))) l = refl
nibble (suc (suc (suc (suc (suc (suc (suc (suc (suc (suc (suc (suc zero)))))))))))) l = refl
nibble (suc (suc (suc (suc (suc (suc (suc (suc (suc (suc (suc (suc (suc zero))))))))))))) l = refl
nibble (suc (suc (suc (suc (suc (suc (suc (suc (suc (suc (suc (suc (suc (suc zero)))))))))))))) l = refl
nibble (suc (suc (suc (suc (suc (suc (suc (suc (suc (suc (suc (suc (suc (suc (suc zero))))))))))))))) l = refl
nibble (suc (suc (suc (suc (suc (suc (suc (suc (suc (suc (suc (suc (suc (suc (suc (suc k)))))))))))))))) l = absurd (omega arith)

four_bytes : (n : ℕ) → AllByRecursion (λ b. b < 256) (to_be_bytes w32 n)
four_bytes n = (omega arith, (omega arith, (omega arith, (omega arith, tt))))

digest_small : (h : List ℕ) (n : ℕ) → AllByRecursion (λ b. b < 256) (digest_bytes h n)
unfolding digest_bytes
digest_small h zero = tt
digest_small h (suc n) =
    All-append (λ b. b < 256) (digest_bytes h n) (to_be_bytes w32 (slice_index h n)) (digest_small h n) (four_bytes (slice_index h n))

sha_small : (m : List ℕ) → AllByRecursion (λ b. b < 256) (sha256 m)
unfolding sha256
sha_small m = digest_small _ 8

hex_all : (bs : List ℕ) → AllByRecursion (λ b. b < 256) bs → AllByRecursion (λ c. is_hex c ≡ true) (encode_with lower_digits bs)
unfolding encode_with
hex_all [] small = tt
hex_all (b ∷ bs) small =
    (nibble (b / 16) (let l : b < 256 = small.0 in omega arith), (nibble (b % 16) (omega arith), hex_all bs small.1))

all_at : (P : ℕ → Type 0) (xs : List ℕ) → AllByRecursion P xs → (k d : ℕ) → k < length xs → P (slice_index_or xs k d)
all_at P [] all k d below = absurd (omega arith)
all_at P (x ∷ xs) all zero d below = all.0
all_at P (x ∷ xs) all (suc k) d below = all_at P xs all.1 k d (omega arith)

pub sum_form : (text : List ℕ) → HasSumForm (sum_of text)
sum_form text = (
  length-encode_with lower_digits (sha256 text) ∙ ap (λ (n : ℕ). 2 * n) (length-sha256 text),
  all_at (λ c. is_hex c ≡ true) (encode_with lower_digits (sha256 text)) (hex_all (sha256 text) (sha_small text)),
)
