-- What every answer of a responder keeps, a session keeps.
use Rattle.std.proofs.Common.{◌≡◌, ℕ, List, [], ◌∷◌, Option, sym, subst, inl, inr}
use Rattle.std.specs.Prelude.{◌⊎◌}
use Rattle.http_wire.specs.declared.request.WireFault.{WireFault}
use Rattle.http_wire.specs.Requests.{RequestText, Rest, IsRequest, IsFault}
use Rattle.session_loop.specs.declared.end.ConnEnd.{ConnEnd}
use Rattle.session_loop.specs.declared.end.ConnEnd.TheVariants.{Done, Cut, Refused, ReadFault, WriteFault, NoMemory}
use Rattle.session_loop.specs.Session.{Answering, Refusing, Chain, IsAnswered, IsEnd}

module _ {R : Type 0} (answers : Answering R) (refuses : Refusing R) (Keeps : R → Type 0)
    (kept : (before : R) (request : RequestText) (text : List ℕ) (after : R) → Keeps before → answers before request text after → Keeps after) where
  chain_keeps : (requests : List RequestText) (before after : R) (written : List ℕ) → Keeps before → Chain answers before requests written after → Keeps after
  chain_keeps [] before after written keeps (none, same) = subst Keeps (sym same) keeps
  chain_keeps (r ∷ requests) before after written keeps (next, answer, more, is, e, rest) =
      chain_keeps requests next after more (kept before r answer next keeps is) rest

  last_keeps : (number : ℕ) (tail : List ℕ) (mid after : R) (answer : List ℕ) → Keeps mid
      → ((request : RequestText) × (left : List ℕ) × IsRequest number tail request left × answers mid request answer after)
      ⊎ ((fault : WireFault) × IsFault fault tail × refuses mid fault answer × (after ≡ mid)) → Keeps after
  last_keeps number tail mid after answer keeps (inl (request, left, is, answered)) = kept mid request answer after keeps answered
  last_keeps number tail mid after answer keeps (inr (fault, is, answered, same)) = subst Keeps (sym same) keeps

  answered_keeps : (before after : R) (stream : List ℕ) (rest : Rest) (written : List ℕ) → Keeps before
      → IsAnswered answers refuses before after stream rest written → Keeps after
  answered_keeps before after stream rest written keeps a = chain_keeps a.requests before after a.replies keeps a.chain

  -- What is so before a session is so after it.
  pub end_keeps : (before after : R) (taken : List ℕ) (told : Option (List ℕ)) (written : List ℕ) (end : ConnEnd) → Keeps before
      → IsEnd answers refuses before after taken told written end → Keeps after
  end_keeps before after taken told written Done keeps (inl (at, a)) = answered_keeps before after taken _ written keeps a
  end_keeps before after taken told written Done keeps (inr a) = answered_keeps before after taken _ written keeps a
  end_keeps before after taken told written Cut keeps (at, a) = answered_keeps before after taken _ written keeps a
  end_keeps before after taken told written (Refused fault) keeps a = answered_keeps before after taken _ written keeps a
  end_keeps before after taken told written ReadFault keeps (inl a) = answered_keeps before after taken _ written keeps a
  end_keeps before after taken told written ReadFault keeps (inr a) = answered_keeps before after taken _ written keeps a
  end_keeps before after taken told written WriteFault keeps a =
      last_keeps _ a.tail a.mid after a.answer (chain_keeps a.requests before a.mid a.replies keeps a.chain) a.last
  end_keeps before after taken told written NoMemory keeps none = absurd none
