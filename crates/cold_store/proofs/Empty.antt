-- A draft without lines.
use Rattle.std.proofs.Common.{◌≡◌, ℕ, ◌+◌, ◌*◌, ◌<◌, List, [], length, replicate, get_or, Option, Some, None, IfSome, IfNone, refl, sym, ap, ◌∙◌, subst}
use Rattle.std.proofs.lemmas.List.{length-replicate}
use Rattle.history_model.specs.declared.word.Word.{Word}
use Rattle.history_model.specs.Lists.{Pairwise}
use Rattle.history_model.specs.Words.{AreWordsOf, IsWord, index, value}
use Rattle.history_model.proofs.Writing.{empty_value, no_word}
use Rattle.claim_rule.specs.Openings.{layout_with}
use Rattle.cold_store.specs.Drafts.{AreRisingRows, DraftView, IsDraftOf, IsDrafted, IsFirstWrongAlone}
use Rattle.cold_store.specs.Exports.{IsLeastBelow, NoneBelow}
use Rattle.cold_store.specs.Right.{IsApartAt}

no_words : (legs : List ℕ) (rows : ℕ) (words : List ℕ) → words ≡ replicate (2 * length legs + 64 * rows) 0 → AreWordsOf (layout_with legs rows []) [] words
no_words legs rows words e =
    subst (AreWordsOf (layout_with legs rows []) []) (sym e)
    (record { length_is = length-replicate (2 * length legs + 64 * rows) 0; each = λ a _. no_word (2 * length legs + 64 * rows) (index (layout_with legs rows []) a) ∙ sym (empty_value a) })

pub empty-draft : (legs : List ℕ) (rows : ℕ) (d : DraftView) → length legs ≡ d.places → d.rows ≡ rows → d.lines ≡ [] → d.follows ≡ [] → d.wrong ≡ None → d.overlap ≡ None
    → d.words ≡ replicate (2 * d.places + 64 * d.rows) 0 → IsDraftOf legs rows [] d
empty-draft legs rows d places same lines follows wrong overlap words =
    let all : d.words ≡ replicate (2 * length legs + 64 * rows) 0 = words ∙ (λ j. replicate (2 * (sym places j) + 64 * (same j)) 0) in
    let drafted : IsDrafted legs rows [] d = record {
      letters = tt;
      right = tt;
      are = no_words legs rows d.words all;
      overlap = subst (λ (o : Option ℕ). IfSome o (IsLeastBelow (length legs) (λ at. ¬ IsApartAt [] at))) (sym overlap) tt;
      none = subst (λ (o : Option ℕ). IfNone o (NoneBelow (length legs) (λ at. ¬ IsApartAt [] at))) (sym overlap) (λ n l no. no tt);
    } in
    record {
      sizes = (sym places, same);
      lines = lines;
      rising = subst AreRisingRows (sym lines) tt;
      follows = follows;
      wrong = subst (λ (o : Option ℕ). IfSome o (IsFirstWrongAlone legs rows [])) (sym wrong) tt;
      right = subst (λ (o : Option ℕ). IfNone o (IsDrafted legs rows [] d)) (sym wrong) drafted;
    }
