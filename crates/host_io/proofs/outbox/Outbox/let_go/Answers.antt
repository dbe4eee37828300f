use Rattle.std.proofs.Common.{◌≡◌, ◌+◌, arith, length, vec_capacity, vec_len}
use Rattle.host_io.proofs.Sending.{lies_in_room}
use Rattle.host_io.proofs.outbox.Outbox.let_go.Goals as goal

-- not all of what was held went out
pub returns-then-count-held-clause-room : goal.returns-then-count-held-clause-room
returns-then-count-held-clause-room c =
    let bytes = c.self.inside.bytes in
    let inv = c.self.invariant in
    let less = c.if-count-held.true in
    let many : length bytes.items ≡ vec_len bytes = search in
    lies_in_room bytes.items (c.self.inside.sent + c.args.count) (vec_len bytes) (vec_capacity bytes) many
    (omega (arith, less, c.len.ensures, inv.0), inv.1, inv.2, λ all. absurd (omega (arith, less, c.len.ensures, inv.0, all)))
