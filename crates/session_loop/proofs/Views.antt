-- A session as it is seen through a view of its responder.
use Rattle.std.proofs.Common.{◌≡◌, ℕ, ◌+◌, List, [], ◌∷◌, length, Option, refl, sym, ap, subst, inl, inr}
use Rattle.std.specs.Prelude.{◌⊎◌}
use Rattle.http_wire.specs.declared.request.WireFault.{WireFault}
use Rattle.http_wire.specs.Requests.{RequestText, Rest, empty, unfinished, closed, refused, IsRequest, IsFault}
use Rattle.session_loop.specs.declared.end.ConnEnd.{ConnEnd}
use Rattle.session_loop.specs.declared.end.ConnEnd.TheVariants.{Done, Cut, Refused, ReadFault, WriteFault, NoMemory}
use Rattle.session_loop.specs.Session.{Answering, Refusing, Chain, IsRefusal, IsAnswered, IsCutShort, IsEnd}
use Rattle.session_loop.specs.Writes.{Showing}
use Rattle.session_loop.specs.Moments.{Awaiting, MayWrite}

-- `Keeps` holds of the responder all along, and under it the view answers as other relations say.
module _ {R Q : Type 0} (answers : Answering R) (refuses : Refusing R) (replies : Answering Q) (refusals : Refusing Q)
    (view : R → Q) (Keeps : R → Type 0)
    (answer_seen : (before : R) (request : RequestText) (text : List ℕ) (after : R) → Keeps before
    → answers before request text after → Keeps after × replies (view before) request text (view after))
    (refusal_seen : (now : R) (fault : WireFault) (text : List ℕ) → Keeps now → refuses now fault text → refusals (view now) fault text) where
  chain_seen : (requests : List RequestText) (before after : R) (written : List ℕ) → Keeps before
      → Chain answers before requests written after → Keeps after × Chain replies (view before) requests written (view after)
  chain_seen [] before after written keeps (none, same) = (subst Keeps (sym same) keeps, (none, ap view same))
  chain_seen (r ∷ requests) before after written keeps (next, answer, more, is, e, rest) =
      let seen = answer_seen before r answer next keeps is in
      let later = chain_seen requests next after more seen.0 rest in
      (later.0, (view next, answer, more, seen.1, e, later.1))

  rest_seen : (after : R) (rest : Rest) (text : List ℕ) → Keeps after → IsRefusal refuses after rest text → IsRefusal refusals (view after) rest text
  rest_seen after empty text keeps e = e
  rest_seen after unfinished text keeps e = e
  rest_seen after closed text keeps e = e
  rest_seen after (refused fault) text keeps e = refusal_seen after fault text keeps e

  pub answered_seen : (before after : R) (stream : List ℕ) (rest : Rest) (written : List ℕ) → Keeps before
      → IsAnswered answers refuses before after stream rest written → IsAnswered replies refusals (view before) (view after) stream rest written
  answered_seen before after stream rest written keeps a =
      let seen = chain_seen a.requests before after a.replies keeps a.chain in
      record {
        requests = a.requests;
        spells = a.spells;
        replies = a.replies;
        chain = seen.1;
        text = a.text;
        refusal = rest_seen after rest a.text seen.0 a.refusal;
        is = a.is;
      }

  last_seen : (number : ℕ) (tail : List ℕ) (mid after : R) (answer : List ℕ) → Keeps mid
      → ((request : RequestText) × (left : List ℕ) × IsRequest number tail request left × answers mid request answer after)
      ⊎ ((fault : WireFault) × IsFault fault tail × refuses mid fault answer × (after ≡ mid))
      → ((request : RequestText) × (left : List ℕ) × IsRequest number tail request left × replies (view mid) request answer (view after))
      ⊎ ((fault : WireFault) × IsFault fault tail × refusals (view mid) fault answer × (view after ≡ view mid))
  last_seen number tail mid after answer keeps (inl (request, left, is, answered)) =
      inl (request, left, is, (answer_seen mid request answer after keeps answered).1)
  last_seen number tail mid after answer keeps (inr (fault, is, answered, same)) =
      inr (fault, is, refusal_seen mid fault answer keeps answered, ap view same)

  pub cut_seen : (before after : R) (stream written : List ℕ) → Keeps before
      → IsCutShort answers refuses before after stream written → IsCutShort replies refusals (view before) (view after) stream written
  cut_seen before after stream written keeps a =
      let seen = chain_seen a.requests before a.mid a.replies keeps a.chain in
      record {
        requests = a.requests;
        tail = a.tail;
        begins = a.begins;
        open' = a.open';
        replies = a.replies;
        mid = view a.mid;
        chain = seen.1;
        answer = a.answer;
        part = a.part;
        more = a.more;
        last = last_seen (length a.requests + 1) a.tail a.mid after a.answer seen.0 a.last;
        cut = a.cut;
        is = a.is;
      }

  -- An end of the responder's session is an end of the view's.
  pub end_seen : (before after : R) (taken : List ℕ) (told : Option (List ℕ)) (written : List ℕ) (end : ConnEnd) → Keeps before
      → IsEnd answers refuses before after taken told written end → IsEnd replies refusals (view before) (view after) taken told written end
  end_seen before after taken told written Done keeps (inl (at, a)) = inl (at, answered_seen before after taken empty written keeps a)
  end_seen before after taken told written Done keeps (inr a) = inr (answered_seen before after taken closed written keeps a)
  end_seen before after taken told written Cut keeps (at, a) = (at, answered_seen before after taken unfinished written keeps a)
  end_seen before after taken told written (Refused fault) keeps a = answered_seen before after taken (refused fault) written keeps a
  end_seen before after taken told written ReadFault keeps (inl a) = inl (answered_seen before after taken empty written keeps a)
  end_seen before after taken told written ReadFault keeps (inr a) = inr (answered_seen before after taken unfinished written keeps a)
  end_seen before after taken told written WriteFault keeps a = cut_seen before after taken written keeps a
  end_seen before after taken told written NoMemory keeps none = none

  -- What may be handed over at a moment of the responder's session may be at that moment of the view's.
  pub moment_seen : {K : Type 0} (awaits : Awaiting R) (awaiting : Awaiting Q) (shows : Showing K)
      → ((before : R) (cut : ℕ) (after : R) → Keeps before → awaits before cut after → awaiting (view before) cut (view after))
      → (start : R) (source : Option (List ℕ)) (sink now : K) (piece : List ℕ) → Keeps start
      → (m : MayWrite answers refuses awaits shows start source sink now piece)
      → (v : MayWrite replies refusals awaiting shows (view start) source sink now piece) × (v.after ≡ view m.after)
  moment_seen {K} awaits awaiting shows await_seen start source sink now piece keeps m =
      let seen = chain_seen m.next.requests start m.next.mid m.next.replies keeps m.next.chain in (
        record {
          taken = m.taken;
          left = m.left;
          reads = m.reads;
          after = view m.after;
          written = m.written;
          sent = m.sent;
          next = record {
            requests = m.next.requests;
            tail = m.next.tail;
            begins = m.next.begins;
            open' = m.next.open';
            replies = m.next.replies;
            mid = view m.next.mid;
            chain = seen.1;
            answer = m.next.answer;
            part = m.next.part;
            more = m.next.more;
            last = last_seen (length m.next.requests + 1) m.next.tail m.next.mid m.after m.next.answer seen.0 m.next.last;
            cut = m.next.cut;
            is = m.next.is;
          };
          rest = m.rest;
          cut = m.cut;
          awaited = await_seen m.next.mid m.cut m.after seen.0 m.awaited;
          turn = m.turn;
          before_it = m.before_it;
          took = m.took;
        },
        refl,
      )
