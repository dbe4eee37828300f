-- How a text is read part by part.
use Rattle.std.proofs.Common.{◌≡◌, ℕ, true, false, List, [], ◌++◌, Option, Some, None, refl, sym, ap, ◌∙◌, append_assoc, append-nil}
use Rattle.std.proofs.lemmas.List.{append_cancel_left}
use Rattle.line_text.specs.Reads.{Eats, IsCut, Reads}

whole : (text bytes tail rest : List ℕ) → text ≡ bytes ++ tail → text ++ rest ≡ bytes ++ (tail ++ rest)
whole text bytes tail rest parts = ap (λ (x : List ℕ). x ++ rest) parts ∙ append_assoc bytes tail rest

-- the text begins with these bytes, which were eaten
pub eat_then : {A : Type 0} {T tail : A → List ℕ} {Is : A → Type 0} {bytes old mid new : List ℕ} {read : Option A} → Eats bytes old mid true → ((a : A) → T a ≡ bytes ++ tail a) → Reads tail Is mid new read → Reads T Is old new read
eat_then {T = T} {tail = tail} {bytes = bytes} {mid = mid} {new = new} {read = Some b} eats parts r =
    let is = eats.found refl in
    record {
      found = (r.found.0, is ∙ (ap (λ (x : List ℕ). bytes ++ x) r.found.1 ∙ sym (whole (T b) bytes (tail b) new (parts b))));
      only = λ a rest isa cut e.
          r.only a rest isa cut (append_cancel_left bytes mid (tail a ++ rest) (sym is ∙ (e ∙ whole (T a) bytes (tail a) rest (parts a))));
    }
eat_then {T = T} {tail = tail} {bytes = bytes} {mid = mid} {new = new} {read = None} eats parts r =
    let is = eats.found refl in
    record {
      found = tt;
      only = λ a rest isa cut e.
          r.only a rest isa cut (append_cancel_left bytes mid (tail a ++ rest) (sym is ∙ (e ∙ whole (T a) bytes (tail a) rest (parts a))));
    }

-- and where they don't stand there, nothing is read
pub eat_fails : {A : Type 0} {T : A → List ℕ} {Is : A → Type 0} {bytes old mid new : List ℕ} → Eats bytes old mid false → ((a : A) (rest : List ℕ) → (more : List ℕ) × (T a ++ rest ≡ bytes ++ more)) → Reads T Is old new None
eat_fails eats begins =
    record {
      found = tt;
      only = λ a rest isa cut e. let b = begins a rest in absurd ((eats.none refl).1 b.0 (e ∙ b.1));
    }

-- the text begins with that of a part, and what stands behind ends it
pub record IsPart {A X : Type 0} (t : X → List ℕ) (IsX : X → Type 0) (T tail : A → List ℕ) (Is : A → Type 0) (part : A → X) : Type 0 where
  pub right : (a : A) → Is a → IsX (part a)
  pub text : (a : A) → T a ≡ t (part a) ++ tail a
  pub cut : (a : A) (rest : List ℕ) → Is a → IsCut rest → IsCut (tail a ++ rest)

module _ {A X : Type 0} {t : X → List ℕ} {IsX : X → Type 0} {T tail : A → List ℕ} {Is : A → Type 0} {part : A → X} (p : IsPart t IsX T tail Is part) where
  all : (a : A) (rest : List ℕ) → T a ++ rest ≡ t (part a) ++ (tail a ++ rest)
  all a rest = whole (T a) (t (part a)) (tail a) rest (p.text a)

  is_part : {old mid : List ℕ} {read : Option X} → Reads t IsX old mid read → (a : A) (rest : List ℕ) → Is a → IsCut rest → old ≡ T a ++ rest → (read ≡ Some (part a)) × (mid ≡ tail a ++ rest)
  is_part first a rest is cut e = first.only (part a) (tail a ++ rest) (p.right a is) (p.cut a rest is cut) (e ∙ all a rest)

  module _ {J : A → Type 0} (weaker : (a : A) → J a → Is a) where
    pub part_then : {old mid new : List ℕ} {x : X} {read : Option A} → Reads t IsX old mid (Some x) → Reads tail (λ a. J a × (part a ≡ x)) mid new read → Reads T J old new read
    part_then {new = new} {x = x} {read = Some b} first r =
        record {
          found = (
            r.found.0.0,
            first.found.1
                ∙ (ap (λ (y : List ℕ). t x ++ y) r.found.1
                ∙ (ap (λ (y : X). t y ++ (tail b ++ new)) (sym r.found.0.1) ∙ sym (all b new))),
          );
          only = λ a rest j cut e.
              let h = is_part first a rest (weaker a j) cut e in
              r.only a rest (j, (let s : part a ≡ x = let k = h.0 in cc in s)) cut h.1;
        }
    part_then {new = new} {x = x} {read = None} first r =
        record {
          found = tt;
          only = λ a rest j cut e.
              let h = is_part first a rest (weaker a j) cut e in
              r.only a rest (j, (let s : part a ≡ x = let k = h.0 in cc in s)) cut h.1;
        }

    pub part_fails : {old mid new : List ℕ} → Reads t IsX old mid None → Reads T J old new None
    part_fails first =
        record {
          found = tt;
          only = λ a rest j cut e. let h = is_part first a rest (weaker a j) cut e in absurd (let k = h.0 in cc);
        }

-- nothing is left to read, since all parts are known
pub all_read : {A : Type 0} {J : A → Type 0} {new : List ℕ} {b : A} → J b → ((a : A) → J a → a ≡ b) → Reads (λ a. []) J new new (Some b)
all_read {A = A} is known = record { found = (is, refl); only = λ a rest j cut e. (ap (λ (x : A). Some x) (sym (known a j)), e) }

-- the last part
pub at_end : {X : Type 0} (t : X → List ℕ) (x : X) → t x ≡ t x ++ []
at_end t x = sym (append-nil (t x))
