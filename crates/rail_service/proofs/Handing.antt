-- Streams that a listener hands out, some calls later.
use Rattle.std.proofs.Common.{ℕ, suc, List, Option, refl}
use Rattle.rail_service.specs.Listeners.{GivesOnly, Handing, HandingBy, HandsOn, IsGiven}

module _ {L : Type 0} (becomes : L → L → Type 0) (hands : HandingBy L) where
  -- what the listener behind a call hands out, the one before it does
  pub behind_a_call : (old new : L) → becomes old new → (stream sent : Option (List ℕ))
      → HandsOn becomes hands new stream sent → HandsOn becomes hands old stream sent
  behind_a_call old new step stream sent on =
      record { calls = suc on.calls; before = on.before; after = on.after; reaches = (new, step, on.reaches); handed = on.handed }

  module _ (Given : Handing) where
    -- what is handed out at once is of the kind of all that is to come
    pub gives_at_once : (old new : L) (stream sent : Option (List ℕ)) → GivesOnly becomes hands old Given → hands old stream sent new
        → IsGiven Given stream sent
    gives_at_once old new stream sent only handed =
        only stream sent (record { calls = 0; before = old; after = new; reaches = refl; handed = handed })

    -- the streams to come behind a call are among those before it
    pub gives_on : (old new : L) → becomes old new → GivesOnly becomes hands old Given → GivesOnly becomes hands new Given
    gives_on old new step only stream sent on = only stream sent (behind_a_call old new step stream sent on)
