-- A cut, read.
use Rattle.std.proofs.Common.{◌≡◌, ℕ, ◌-◌, ◌<◌, true, false, List, [], ◌∷◌, ◌++◌, codes, length, take, Option, Some, None, refl, sym, ap, subst, ◌∙◌, arith, append_assoc}
use Rattle.std.proofs.lemmas.List.{append_cancel_left}
use Rattle.line_text.specs.Lines.{field}
use Rattle.line_text.specs.Reads.{Eats}
use Rattle.journal_text.specs.declared.cut.Cut.{Cut}
use Rattle.journal_text.specs.declared.cut.Opening.{Opening}
use Rattle.journal_text.specs.Texts.{IsSaidCut, SaidCut, cut_text, opening_text, own_sum, sum_of, summed_text}
use Rattle.journal_text.specs.Reads.{IsOpening, ReadsCut, ReadsWhole, said_cut, said_opening_text}
use Rattle.journal_text.proofs.Splits.{back_is, before_rest, front_is, length_of}

abbrev pub end_of : SaidCut → List ℕ
end_of c = codes "sum" ++ (field (own_sum c) ++ 10 ∷ [])

abbrev pub opening_of : SaidCut → Opening
opening_of c = record { number = c.number; count = c.count; size = length c.body; before = record { digits = c.before } }

pub parts_of : (c : SaidCut) (rest : List ℕ) → cut_text c ++ rest ≡ said_opening_text (opening_of c) ++ (c.body ++ (end_of c ++ rest))
parts_of c rest =
    append_assoc (summed_text c) (end_of c) rest ∙ append_assoc (opening_text c) c.body (end_of c ++ rest)

can_open : (c : SaidCut) → IsSaidCut c → IsOpening (opening_of c)
can_open c is = record { number = is.number; count = is.count; size = is.size; before = is.before }

opened : {old mid : List ℕ} {read : Option Opening} → ReadsWhole said_opening_text IsOpening old mid read → (c : SaidCut) (rest : List ℕ) → IsSaidCut c → old ≡ cut_text c ++ rest → (read ≡ Some (opening_of c)) × (mid ≡ c.body ++ (end_of c ++ rest))
opened r c rest is at = r.only (opening_of c) (c.body ++ (end_of c ++ rest)) (can_open c is) (at ∙ parts_of c rest)

pub no_opening : {old mid new : List ℕ} → ReadsWhole said_opening_text IsOpening old mid None → ReadsCut old new None
no_opening r =
    record { found = tt; only = λ c rest is at. let h = opened r c rest is at in absurd (let k = h.0 in cc) }

module _ {old m₁ : List ℕ} {o : Opening} (r : ReadsWhole said_opening_text IsOpening old m₁ (Some o)) where
  opening_is : (c : SaidCut) (rest : List ℕ) → IsSaidCut c → old ≡ cut_text c ++ rest → o ≡ opening_of c
  opening_is c rest is at = let h = (opened r c rest is at).0 in cc

  pub no_body : {new : List ℕ} → length m₁ < o.size → ReadsCut old new None
  no_body few =
      record {
        found = tt;
        only = λ c rest is at.
            let h = opened r c rest is at in
            let size : o.size ≡ length c.body = ap (λ (x : Opening). x.size) (opening_is c rest is at) in
            let len = length_of m₁ c.body (end_of c ++ rest) h.1 in
            absurd (omega arith);
      }

  module _ (m₂ body summed : List ℕ) (b : m₁ ≡ body ++ m₂) (size : length body ≡ o.size) (s : summed ≡ take (length old - length m₂) old) where
    all : old ≡ (said_opening_text o ++ body) ++ m₂
    all = r.found.1 ∙ (ap (λ (x : List ℕ). said_opening_text o ++ x) b ∙ sym (append_assoc (said_opening_text o) body m₂))

    pub summed_is : summed ≡ said_opening_text o ++ body
    summed_is = s ∙ before_rest old (said_opening_text o ++ body) m₂ all

    bodies : (c : SaidCut) (rest : List ℕ) → IsSaidCut c → old ≡ cut_text c ++ rest → (c.body ≡ body) × (m₂ ≡ end_of c ++ rest)
    bodies c rest is at =
        let h = opened r c rest is at in
        let same : length c.body ≡ length body = sym (size ∙ ap (λ (x : Opening). x.size) (opening_is c rest is at)) in (
          sym (front_is m₁ c.body (end_of c ++ rest) (length body) same h.1) ∙ front_is m₁ body m₂ (length body) refl b,
          sym (back_is m₁ body m₂ (length body) refl b) ∙ back_is m₁ c.body (end_of c ++ rest) (length body) same h.1,
        )

    sums : (c : SaidCut) (rest : List ℕ) → IsSaidCut c → old ≡ cut_text c ++ rest → summed ≡ summed_text c
    sums c rest is at =
        summed_is
        ∙ (ap (λ (x : Opening). said_opening_text x ++ body) (opening_is c rest is at)
        ∙ ap (λ (x : List ℕ). said_opening_text (opening_of c) ++ x) (sym (bodies c rest is at).0))

    pub no_word : {m₃ new : List ℕ} → Eats (codes "sum ") m₂ m₃ false → ReadsCut old new None
    no_word e =
        record {
          found = tt;
          only = λ c rest is at.
              absurd ((e.none refl).1 ((own_sum c ++ 10 ∷ []) ++ rest) ((bodies c rest is at).1));
        }

    module _ (m₃ sum : List ℕ) (e : Eats (codes "sum ") m₂ m₃ true) (is_sum : sum ≡ sum_of summed) where
      behind_word : (c : SaidCut) (rest : List ℕ) → IsSaidCut c → old ≡ cut_text c ++ rest → m₃ ≡ sum ++ (10 ∷ rest)
      behind_word c rest is at =
          let own : own_sum c ≡ sum = ap sum_of (sym (sums c rest is at)) ∙ sym is_sum in
          append_cancel_left (codes "sum ") m₃ ((own_sum c ++ 10 ∷ []) ++ rest) (sym (e.found refl) ∙ (bodies c rest is at).1)
          ∙ (append_assoc (own_sum c) (10 ∷ []) rest ∙ ap (λ (x : List ℕ). x ++ (10 ∷ rest)) own)

      pub no_sum : {m₄ new : List ℕ} → Eats sum m₃ m₄ false → ReadsCut old new None
      no_sum f =
          record {
            found = tt;
            only = λ c rest is at. absurd ((f.none refl).1 (10 ∷ rest) (behind_word c rest is at));
          }

      module _ (m₄ new : List ℕ) (f : Eats sum m₃ m₄ true) where
        feed : (c : SaidCut) (rest : List ℕ) → IsSaidCut c → old ≡ cut_text c ++ rest → m₄ ≡ 10 ∷ rest
        feed c rest is at = append_cancel_left sum m₄ (10 ∷ rest) (sym (f.found refl) ∙ behind_word c rest is at)

        pub no_feed : Eats (10 ∷ []) m₄ new false → ReadsCut old new None
        no_feed g =
            record { found = tt; only = λ c rest is at. absurd ((g.none refl).1 rest (feed c rest is at)) }

        -- what was read
        abbrev pub said : SaidCut
        said = record { number = o.number; count = o.count; before = o.before.digits; body = body }

        is_said : IsSaidCut said
        is_said =
            let h = r.found.0 in
            record { number = h.number; count = h.count; size = subst (λ (x : ℕ). x < 18446744073709551616) (sym size) h.size; before = h.before }

        opens_so : said_opening_text o ≡ opening_text said
        opens_so = ap (λ (x : ℕ). said_opening_text (record { number = o.number; count = o.count; size = x; before = o.before })) (sym size)

        own_is : sum ≡ own_sum said
        own_is = is_sum ∙ ap sum_of (summed_is ∙ ap (λ (x : List ℕ). x ++ body) opens_so)

        pub cut_read : Eats (10 ∷ []) m₄ new true → (k : Cut) → said_cut k ≡ said → k.sum.digits ≡ sum → ReadsCut old new (Some k)
        cut_read g k same digits =
            let tail : m₂ ≡ end_of said ++ new =
            e.found refl
            ∙ (ap (λ (x : List ℕ). codes "sum " ++ x)
            (f.found refl ∙ (ap (λ (x : List ℕ). sum ++ x) (g.found refl) ∙ ap (λ (x : List ℕ). x ++ (10 ∷ new)) own_is))
            ∙ ap (λ (x : List ℕ). codes "sum " ++ x) (sym (append_assoc (own_sum said) (10 ∷ []) new))) in
            let at : old ≡ cut_text said ++ new =
            r.found.1
            ∙ (ap (λ (x : List ℕ). said_opening_text o ++ x) (b ∙ ap (λ (x : List ℕ). body ++ x) tail)
            ∙ (ap (λ (x : List ℕ). x ++ (body ++ (end_of said ++ new))) opens_so ∙ sym (parts_of said new))) in
            record {
              found = (
                subst IsSaidCut (sym same) is_said,
                at ∙ ap (λ (x : SaidCut). cut_text x ++ new) (sym same),
                digits ∙ (own_is ∙ ap own_sum (sym same)),
              );
              only = λ c rest is at'.
                  let number = ap (λ (x : Opening). x.number) (opening_is c rest is at') in
                  let count = ap (λ (x : Opening). x.count) (opening_is c rest is at') in
                  let before = ap (λ (x : Opening). x.before.digits) (opening_is c rest is at') in
                  let bodies' = (bodies c rest is at').0 in (
                    same ∙ rw (number, count, before, ← bodies') refl,
                    append_cancel_left (10 ∷ []) new rest (sym (g.found refl) ∙ feed c rest is at'),
                  );
            }
