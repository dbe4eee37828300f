use Rattle.std.proofs.Common.{◌≡◌}
use Rattle.host_window.specs.Listed.{text_at}
use Rattle.host_window.proofs.run.count_replies.Given as goal

abbrev pub ghosts-count_session : goal.ghosts-count_session
ghosts-count_session g a = record {
  follows = λ r. r.replies.now ≡ a.responder.now.replies.now;
  text = λ n. text_at a.responder.now.replies.now n;
  given = λ r. r.given;
}
