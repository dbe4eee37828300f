use Rattle.std.proofs.Common.{rules, ◌≡◌, ℕ, ◌∙◌, ap}
use Rattle.std.specs.Int.{bit_at}
use Rattle.history_model.specs.Words.{place_word}
use Rattle.history_model.proofs.Bits.{bit_at-place_word}
use Rattle.history_model.proofs.list_host.ListHost.occupied.Goals as goal

pub returns-clause-bits : goal.returns-clause-bits
returns-clause-bits c = λ bit h.
    let word : c.word_of_place.result ≡ place_word c.args.self.now.bookings c.args.place.0 c.args.half = search rules in
    ap (λ (w : ℕ). bit_at w bit) word ∙ bit_at-place_word c.args.self.now.bookings c.args.place.0 c.args.half bit h
