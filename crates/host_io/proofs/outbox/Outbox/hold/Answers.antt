use Rattle.std.proofs.Common.{◌≡◌, length, vec_len}
use Rattle.host_io.proofs.Sending.{in_room}
use Rattle.host_io.proofs.outbox.Outbox.hold.Goals as goal

pub returns-else-len-piece-clause-room : goal.returns-else-len-piece-clause-room
returns-else-len-piece-clause-room c =
    let bytes = c.self.inside.bytes in
    let many : length bytes.items ≡ vec_len bytes = search in
    in_room c.args.self.now bytes.items c.self.inside.sent _ _ many c.self.invariant c.self.view_is
