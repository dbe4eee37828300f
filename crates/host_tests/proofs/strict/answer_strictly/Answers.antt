use Rattle.std.proofs.Common.{Some, refl, ap}
use Rattle.host_tests.proofs.StrictLemmas.{next_of, held_at}
use Rattle.host_tests.proofs.strict.answer_strictly.Goals as goal

pub run_permitted-end-requires-clause-permits : goal.run_permitted-end-requires-clause-permits
run_permitted-end-requires-clause-permits g c = λ now piece m. c.requires.wanted (record {}) now.bytes.items now.cut piece
    (next_of _ _ _ _ (λ s. s.bytes.items) (λ s. s.cut) (λ before bytes after is. is) (λ before cut after is. is) (record {}) c.args.stream.items _ _ now piece
    (ap Some c.new-source.ensures.left) c.new-2.ensures.items m)
    (held_at _ _ _ _ (λ s. s.bytes.items) (λ s. s.cut) (λ before bytes after is. is) (λ before cut after is. is) (record {}) c.args.stream.items _ _ now piece
    7 (λ before cut after is. is) m)
