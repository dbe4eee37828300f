-- What a writer has written, line by line.
use Rattle.std.proofs.Common.{◌≡◌, ◌∙◌, ℕ, List, [], ◌∷◌, ◌++◌, false, map, Some, Vec, Global, Bor, sym, ap, append_assoc, append-nil}
use Rattle.std.specs.Prelude.{flat_map}
use Rattle.std.specs.Io.KnownBytes.{append_known}
use Rattle.std.specs.Map.Iter.{deref_pair}
use Rattle.csv.specs.Writing.{default_writer, fields_written, has_written, writer_pending, writer_setup, writer_under}
use Rattle.csv.specs.declared.writer.Writer.{Writer}
use Rattle.settle_report.specs.declared.account.Account.{Account}
use Rattle.settle_report.specs.Steps.{HasText, entry_line}

-- a new writer has written nothing
pub begun : (w : Writer (Vec ℕ Global)) (v : Vec ℕ Global) → writer_under w ≡ v → v.items ≡ [] → writer_pending w ≡ [] → writer_setup w ≡ default_writer
    → fields_written w ≡ 0 → has_written w ≡ false → HasText w []
begun w v under none pending setup fields between =
    let items : w.wtr.inner.items ≡ [] = ap (λ (x : Vec ℕ Global). x.items) under ∙ none in
    record { text_is = λ i. append_known (Some (items i)) (pending i); setup = setup; fields = fields; between = between }

lines_more : (es : List (Bor ℕ × Bor Account)) (e : Bor ℕ × Bor Account)
    → flat_map entry_line (map deref_pair (es ++ e ∷ [])) ≡ flat_map entry_line (map deref_pair es) ++ entry_line (deref_pair e)
lines_more [] e = append-nil (entry_line (deref_pair e))
lines_more (x ∷ es) e =
    ap (λ (l : List ℕ). entry_line (deref_pair x) ++ l) (lines_more es e)
    ∙ sym (append_assoc (entry_line (deref_pair x)) (flat_map entry_line (map deref_pair es)) (entry_line (deref_pair e)))

-- the line of one account more
pub text_more : (head : List ℕ) (es : List (Bor ℕ × Bor Account)) (e : Bor ℕ × Bor Account)
    → head ++ flat_map entry_line (map deref_pair (es ++ e ∷ [])) ≡ (head ++ flat_map entry_line (map deref_pair es)) ++ entry_line (deref_pair e)
text_more head es e =
    ap (λ (l : List ℕ). head ++ l) (lines_more es e)
    ∙ sym (append_assoc head (flat_map entry_line (map deref_pair es)) (entry_line (deref_pair e)))

pub written : (w : Writer (Vec ℕ Global)) (text : List ℕ) → HasText w text → w.wtr.inner.items ++ w.wtr.buf ≡ text
written w text has = let same = has.text_is in cc same
