use Rattle.std.proofs.Common.{◌≡◌, ◌++◌, ℕ, List, append_assoc}
use Rattle.line_text.specs.Lines.{number_field}
use Rattle.line_text.proofs.writer.push_first_line.Goals as goal

all_fields : (t a b c d e f : List ℕ) (m n : ℕ) → a ≡ t ++ b → c ≡ a ++ number_field m → d ≡ c ++ number_field n → e ≡ d ++ f → e ≡ t ++ ((b ++ (number_field m ++ number_field n)) ++ f)
all_fields t a b c d e f m n ha hc hd he = rw (he, hd, hc, ha) (simp append_assoc)

pub returns : goal.returns
returns c =
    rw (← c.from.ensures, ← c.from-2.ensures)
    (all_fields c.args.text.now.items _ _ _ _ _ _ c.from.result c.from-2.result
    c.in_ok-extend_from_slice.ensures.items c.in_ok-push_field.ensures c.in_ok-push_field-2.ensures c.in_ok-push.ensures.items)
