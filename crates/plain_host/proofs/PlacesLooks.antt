-- What a lone desk's looks at a place show, and that they leave the state as it is.
use Rattle.std.proofs.Common.{◌≡◌, ℕ, Bool, true, false, Decides, List, [], ◌∷◌, ◌++◌, refl, sym, ap, ◌∙◌, subst}
use Rattle.std.specs.Prelude.{◌↔◌, IsTrue}
use Rattle.std.proofs.lemmas.Bool.{and_parts, and_from, false_from_ne_true}
use Rattle.leg_masks.specs.Interval.{Interval, IsClear, half_of}
use Rattle.history_model.specs.declared.entry.Step.{Step}
use Rattle.history_model.specs.Looks.{look_at}
use Rattle.history_model.specs.Booking.{Layout, State}
use Rattle.history_model.specs.History.{IsLegalFrom}
use Rattle.history_model.specs.Words.{place_word}
use Rattle.availability.specs.Looks.{LooksPieces}
use Rattle.lone_desk.specs.Lone.{entries_of, after_steps}
use Rattle.lone_desk.proofs.Clear.{AllClearAt}
use Rattle.lone_desk.proofs.Looking.{after-append, legal_parts}

pub both_leave : (s : State) (desk : ℕ) (first more es : List Step) → es ≡ first ++ more → after_steps s desk first ≡ s → after_steps s desk more ≡ s → after_steps s desk es ≡ s
both_leave s desk first more es is one two =
    ap (after_steps s desk) is ∙ (after-append s desk first more ∙ (ap (λ (t : State). after_steps t desk more) one ∙ two))

pub pieces_leave : (s : State) (desk place : ℕ) (ps : List Interval) (free : Bool) (es : List Step) → LooksPieces place ps free es → after_steps s desk es ≡ s
pieces_leave s desk place [] free es did = ap (after_steps s desk) did.1
pieces_leave s desk place (p ∷ ps) free es (word, here, others, more, says, rest, both, is) = ap (after_steps s desk) is ∙ pieces_leave s desk place ps others more rest

-- steps that leave the state, and more behind them
pub two_parts : (g : Layout) (s : State) (desk : ℕ) (first more es : List Step) → es ≡ first ++ more → after_steps s desk first ≡ s → IsLegalFrom g s (entries_of desk es)
    → IsLegalFrom g s (entries_of desk first) × IsLegalFrom g s (entries_of desk more)
two_parts g s desk first more es is same legal =
    let both = legal_parts g s desk first more (subst (λ (l : List Step). IsLegalFrom g s (entries_of desk l)) is legal) in
    (both.0, subst (λ (t : State). IsLegalFrom g t (entries_of desk more)) same both.1)

pub same_answer : (a b : Bool) (P : Type 0) → Decides b P → (IsTrue a ↔ P) → a ≡ b
same_answer true b P says is = sym (says.1 (is.0 refl))
same_answer false b P says is = sym (false_from_ne_true b (λ e. let no : false ≡ true = is.1 (says.0 e) in absurd cc))

-- whether the words of all pieces are clear
pub pieces_show : (g : Layout) (s : State) (desk place : ℕ) (ps : List Interval) (free : Bool) (es : List Step) → IsLegalFrom g s (entries_of desk es) → LooksPieces place ps free es
    → IsTrue free ↔ AllClearAt s place ps
pieces_show g s desk place [] free es legal did = (λ _. tt, λ _. did.0)
pieces_show g s desk place (p ∷ ps) free es legal (word, here, others, more, says, rest, both, is) =
    let line : IsLegalFrom g s (entries_of desk (look_at place p word ∷ more)) = subst (λ (l : List Step). IsLegalFrom g s (entries_of desk l)) is legal in
    let later = pieces_show g s desk place ps others more line.1 rest in
    let now : IsTrue here ↔ IsClear (place_word s place (half_of p)) p = subst (λ (n : ℕ). IsTrue here ↔ IsClear n p) line.0.2 says in (
      λ e. let parts = and_parts here others (sym both ∙ e) in (now.0 parts.0, later.0 parts.1),
      λ all. both ∙ and_from here others (now.1 all.0) (later.1 all.1),
    )
