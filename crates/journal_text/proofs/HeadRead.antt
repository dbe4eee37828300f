-- The first line, which begins otherwise.
use Rattle.std.proofs.Common.{ℕ, false, List, [], ◌∷◌, ◌++◌, codes, None, refl, ◌∙◌, append_assoc}
use Rattle.line_text.specs.Lines.{field, number_field}
use Rattle.line_text.specs.Reads.{Eats}
use Rattle.journal_text.specs.Reads.{IsSaidHead, ReadsWhole, said_head_text}

pub no_word : {old mid new : List ℕ} → Eats (codes "rail-journal 1") old mid false → ReadsWhole said_head_text IsSaidHead old new None
no_word e =
    record {
      found = tt;
      only = λ h rest is at.
          absurd ((e.none refl).1 ((number_field h.places ++ (number_field h.rows ++ (field h.print.digits ++ 10 ∷ []))) ++ rest)
          (at ∙ append_assoc (codes "rail-journal 1") (number_field h.places ++ (number_field h.rows ++ (field h.print.digits ++ 10 ∷ []))) rest));
    }
