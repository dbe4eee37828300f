-- Answers that are known before.
use Rattle.std.specs.Prelude.{◌≡◌, ◌+◌, ℕ, zero, suc, List, [], ◌∷◌, ◌++◌, codes, min}
use Rattle.host_window.specs.Counted.{last_number}
use Rattle.host_window.specs.declared.listed.Listed.{Listed}
use Rattle.host_window.specs.declared.listed.Reply.{Reply}

-- what stands in the place of a reply once all were given
abbrev pub no_more : List ℕ
no_more = codes "HTTP/1.1 503 Service Unavailable\r\nContent-Length: 0\r\n\r\n"

abbrev pub reply_text : Reply → List ℕ
reply_text reply = reply.head.items ++ reply.body.items

-- the text of the first of these replies, the second, and so on, counted from 0
abbrev pub text_at : List Reply → ℕ → List ℕ
text_at [] number = no_more
text_at (reply ∷ replies) zero = reply_text reply
text_at (reply ∷ replies) (suc number) = text_at replies number

-- the next reply is given
abbrev pub Gives : Listed → List ℕ → Listed → Type 0
Gives before text after =
    (text ≡ text_at before.replies.now before.given) × (after.replies ≡ before.replies)
    × (after.given ≡ min (before.given + 1) last_number)

-- the next reply stands in a request's place, and is still the next
abbrev pub Stands : Listed → List ℕ → Type 0
Stands now text = text ≡ text_at now.replies.now now.given
