-- What comes next of the answers to a stream.
use Rattle.std.specs.Prelude.{◌≡◌, List, ℕ, ◌++◌}
use Rattle.session_loop.specs.Session.{Answering, Refusing, IsCutShort}

-- what was taken, and then this piece, are the answers to the first requests of the stream, with the piece as all that
-- is left of the last answer
pub record IsNextOf {R : Type 0} (answers : Answering R) (refuses : Refusing R) (before : R)
    (stream taken piece : List ℕ) : Type 0 where
  pub read : List ℕ
  pub left : List ℕ
  pub of : stream ≡ read ++ left
  pub after : R
  pub written : List ℕ
  pub next : IsCutShort answers refuses before after read written
  pub same : taken ≡ written
  pub rest : next.more ≡ piece
