-- The first line, read.
use Rattle.std.proofs.Common.{◌≡◌, ℕ, true, false, List, [], ◌∷◌, ◌++◌, codes, Option, Some, None, refl, sym, ap, ◌∙◌, append_assoc}
use Rattle.std.proofs.lemmas.List.{append_cancel_left}
use Rattle.line_text.specs.Lines.{IsNumber, first_line}
use Rattle.cold_store.specs.Reads.{ReadsFirst}
use Rattle.line_text.specs.Reads.{AreNumbers, Eats, Reads, two_fields}

abbrev pub first_word : List ℕ
first_word = codes "rail-export 1"

first_is : (places rows : ℕ) (rest : List ℕ) → first_line places rows ++ rest ≡ first_word ++ (two_fields (places, rows) ++ rest)
first_is places rows rest = append_assoc first_word (two_fields (places, rows)) rest

pub no_word : {old mid new : List ℕ} → Eats first_word old mid false → ReadsFirst old new None
no_word e =
    record {
      found = tt;
      only = λ places rows rest p r is.
          absurd ((e.none refl).1 (two_fields (places, rows) ++ 10 ∷ rest) (is ∙ first_is places rows (10 ∷ rest)));
    }

module _ {old m₁ m₂ : List ℕ} (e : Eats first_word old m₁ true) where
  sizes_known : {read : Option (ℕ × ℕ)} → Reads two_fields AreNumbers m₁ m₂ read → (places rows : ℕ) (rest : List ℕ) → IsNumber places → IsNumber rows → old ≡ first_line places rows ++ 10 ∷ rest → (read ≡ Some (places, rows)) × (m₂ ≡ 10 ∷ rest)
  sizes_known r places rows rest p q is =
      r.only (places, rows) (10 ∷ rest) (p, q) refl
      (append_cancel_left first_word m₁ (two_fields (places, rows) ++ 10 ∷ rest) (sym (e.found refl) ∙ (is ∙ first_is places rows (10 ∷ rest))))

  pub no_sizes : {new : List ℕ} → Reads two_fields AreNumbers m₁ m₂ None → ReadsFirst old new None
  no_sizes r =
      record {
        found = tt;
        only = λ places rows rest p q is. let k = sizes_known r places rows rest p q is in absurd (let h = k.0 in cc);
      }

  pub no_first_feed : {new : List ℕ} {sizes : ℕ × ℕ} → Reads two_fields AreNumbers m₁ m₂ (Some sizes) → Eats (10 ∷ []) m₂ new false → ReadsFirst old new None
  no_first_feed r last =
      record {
        found = tt;
        only = λ places rows rest p q is.
            let k = sizes_known r places rows rest p q is in absurd ((last.none refl).1 rest k.1);
      }

  pub first_read : {new : List ℕ} {sizes : ℕ × ℕ} → Reads two_fields AreNumbers m₁ m₂ (Some sizes) → Eats (10 ∷ []) m₂ new true → ReadsFirst old new (Some sizes)
  first_read {new = new} {sizes = sizes} r last =
      record {
        found = (
          r.found.0.0,
          r.found.0.1,
          e.found refl
              ∙ (ap (λ (x : List ℕ). first_word ++ x) (r.found.1 ∙ ap (λ (x : List ℕ). two_fields sizes ++ x) (last.found refl))
              ∙ sym (first_is sizes.0 sizes.1 (10 ∷ new))),
        );
        only = λ places rows rest p q is.
            let k = sizes_known r places rows rest p q is in
            (k.0, append_cancel_left (10 ∷ []) new rest (sym (last.found refl) ∙ k.1));
      }
