-- The parts of the texts that a reader reads.
use Rattle.std.proofs.Common.{◌≡◌, ℕ, List, [], ◌++◌, refl, sym, append_assoc}
use Rattle.line_text.specs.declared.heads.Head.{Head}
use Rattle.line_text.specs.declared.ends.SaidRow.{SaidRow}
use Rattle.line_text.specs.Lines.{AreRowNumbers, HasLetter, IsNumber, number_field, phase_field}
use Rattle.line_text.specs.Reads.{AreNumbers, IsHeadSaid, number_part, row_field, two_fields}
use Rattle.line_text.proofs.Steps.{IsPart, at_end}

-- two numbers

pub first_of : IsPart number_field IsNumber two_fields (λ p. number_field p.1) AreNumbers (λ p. p.0)
first_of = record { right = λ p h. h.0; text = λ p. refl; cut = λ p rest h cut. refl }

pub second_of : IsPart number_field IsNumber (λ p. number_field p.1) (λ p. []) AreNumbers (λ p. p.1)
second_of = record { right = λ p h. h.1; text = λ p. at_end number_field p.1; cut = λ p rest h cut. cut }

-- a row and a generation

pub row_of : IsPart number_field IsNumber row_field (λ s. number_part s.generation) AreRowNumbers (λ s. s.row)
row_of = record { right = λ s h. h.0; text = λ s. refl; cut = λ s rest h cut. refl }

pub generation_of : IsPart number_part IsNumber (λ (s : SaidRow). number_part s.generation) (λ s. []) AreRowNumbers (λ s. s.generation)
generation_of = record { right = λ s h. h.1; text = λ s. at_end number_part s.generation; cut = λ s rest h cut. cut }

-- the fields before the items

abbrev pub behind_word : Head → List ℕ
behind_word h =
    (number_field h.row ++ (number_field h.generation ++ phase_field h.phase))
    ++ (number_field h.retailer ++ (number_field h.limit ++ (number_field h.total ++ number_field h.count)))

abbrev pub behind_rows : Head → List ℕ
behind_rows h =
    phase_field h.phase ++ (number_field h.retailer ++ (number_field h.limit ++ (number_field h.total ++ number_field h.count)))

abbrev pub behind_phase : Head → List ℕ
behind_phase h = number_field h.retailer ++ (number_field h.limit ++ (number_field h.total ++ number_field h.count))

abbrev pub behind_limit : Head → List ℕ
behind_limit h = number_field h.total ++ number_field h.count

regroup : (a b c x : List ℕ) → (a ++ (b ++ c)) ++ x ≡ (a ++ b) ++ (c ++ x)
regroup a b c x = simp append_assoc

pub rows_of : IsPart two_fields AreNumbers behind_word behind_rows IsHeadSaid (λ h. (h.row, h.generation))
rows_of =
    record {
      right = λ h is. (is.row, is.generation);
      text = λ h. regroup (number_field h.row) (number_field h.generation) (phase_field h.phase) (behind_phase h);
      cut = λ h rest is cut. refl;
    }

pub phase_of : IsPart phase_field HasLetter behind_rows behind_phase IsHeadSaid (λ h. h.phase)
phase_of = record { right = λ h is. is.phase; text = λ h. refl; cut = λ h rest is cut. refl }

pub retailer_of : IsPart two_fields AreNumbers behind_phase behind_limit IsHeadSaid (λ h. (h.retailer, h.limit))
retailer_of =
    record {
      right = λ h is. (is.retailer, is.limit);
      text = λ h. sym (append_assoc (number_field h.retailer) (number_field h.limit) (behind_limit h));
      cut = λ h rest is cut. refl;
    }

pub total_of : IsPart two_fields AreNumbers behind_limit (λ h. []) IsHeadSaid (λ h. (h.total, h.count))
total_of =
    record {
      right = λ h is. (is.total, is.count);
      text = λ h. at_end two_fields (h.total, h.count);
      cut = λ h rest is cut. cut;
    }
