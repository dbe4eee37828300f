use Rattle.std.proofs.Common.{◌≡◌, ℕ, List, [], ◌++◌, decimal, ◌∙◌, ap}
use Rattle.std.specs.Prelude.{codes}
use Rattle.http_wire.specs.Answers.{reason_of, media_of, close_of, head_text}
use Rattle.http_wire.proofs.answer.write_head.Goals as goal

ten : (s0 s1 s2 s3 s4 s5 s6 s7 s8 s9 s10 b1 b2 b3 b4 b5 b6 b7 b8 b9 b10 : List ℕ) → s0 ≡ []
    → s1 ≡ s0 ++ b1 → s2 ≡ s1 ++ b2 → s3 ≡ s2 ++ b3 → s4 ≡ s3 ++ b4 → s5 ≡ s4 ++ b5 → s6 ≡ s5 ++ b6 → s7 ≡ s6 ++ b7
    → s8 ≡ s7 ++ b8 → s9 ≡ s8 ++ b9 → s10 ≡ s9 ++ b10
    → s10 ≡ b1 ++ b2 ++ b3 ++ b4 ++ b5 ++ b6 ++ b7 ++ b8 ++ b9 ++ b10
ten s0 s1 s2 s3 s4 s5 s6 s7 s8 s9 s10 b1 b2 b3 b4 b5 b6 b7 b8 b9 b10 e0 e1 e2 e3 e4 e5 e6 e7 e8 e9 e10 =
    let first : s1 ≡ b1 = e1 ∙ ap (λ (s : List ℕ). s ++ b1) e0 in cc

pub returns : goal.returns
unfolding head_text
returns c =
    record {
      head =
          ten _ _ _ _ _ _ _ _ _ _ _ (codes "HTTP/1.1 ") (decimal c.args.status) (codes " ") (reason_of c.args.status)
          (codes "\r\nContent-Type: ") (media_of c.args.problem) (codes "\r\nContent-Length: ") (decimal c.args.length)
          (close_of c.args.last) (codes "\r\n\r\n")
          c.new-head.ensures
          c.append.ensures.items
          (c.append_number.ensures.items ∙ ap (λ (n : ℕ). c.append.new.text.items ++ decimal n) c.from.ensures)
          c.append-2.ensures.items
          (c.append-3.ensures.items ∙ ap (λ (b : List ℕ). c.append-2.new.text.items ++ b) c.reason.ensures.reason)
          c.append-4.ensures.items
          (c.append-5.ensures.items ∙ ap (λ (b : List ℕ). c.append-4.new.text.items ++ b) c.media.ensures.media)
          c.append-6.ensures.items
          c.append_number-2.ensures.items
          (c.append-7.ensures.items ∙ ap (λ (b : List ℕ). c.append_number-2.new.text.items ++ b) c.close.ensures.close)
          c.append-8.ensures.items;
    }
