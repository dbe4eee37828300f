-- A session, step by step.
use Rattle.std.proofs.Common.{◌≡◌, ℕ, ◌+◌, ◌<◌, true, false, List, [], ◌∷◌, ◌++◌, length, Option, Some, None, refl, sym, ◌∙◌, ap, subst, arith, append_assoc, append-nil, inl, inr}
use Rattle.std.proofs.lemmas.List.{length-append}
use Rattle.rail_io.specs.Told.{with_front}
use Rattle.http_wire.specs.Requests.{RequestText, Rest, empty, unfinished, closed, refused, IsRequest, IsRest, Begins, AreOpen}
use Rattle.http_wire.proofs.StreamLemmas.{number_is_last, begins_longer, begins_more, spells_open, spells_last}
use Rattle.session_loop.specs.declared.end.ConnEnd.{ConnEnd}
use Rattle.session_loop.specs.declared.end.ConnEnd.TheVariants.{Done, Cut, Refused, ReadFault, WriteFault, NoMemory}
use Rattle.session_loop.specs.Session.{Answering, Refusing, Chain, IsRefusal, IsAnswered, IsHandled, IsStep, IsEnd}

pub front_more : (told0 told1 told2 : Option (List ℕ)) (t p : List ℕ) → told0 ≡ with_front t told1 → told1 ≡ with_front p told2
    → told0 ≡ with_front (t ++ p) told2
front_more told0 told1 None t p e f = e ∙ ap (with_front t) f
front_more told0 told1 (Some left) t p e f = e ∙ ap (with_front t) f ∙ ap (λ (l : List ℕ). Some l) (sym (append_assoc t p left))

pub front_none : (told : Option (List ℕ)) → told ≡ with_front [] told
front_none None = refl
front_none (Some left) = refl

open_more : (requests : List RequestText) (request : RequestText) → AreOpen requests → request.last ≡ false → AreOpen (requests ++ request ∷ [])
open_more [] request open' last = (last, tt)
open_more (r ∷ requests) request open' last = (open'.0, open_more requests request open'.1 last)

module _ {R : Type 0} (answers : Answering R) (refuses : Refusing R) where
  chain_more : (requests : List RequestText) (start mid after : R) (written answer : List ℕ) (request : RequestText)
      → Chain answers start requests written mid → answers mid request answer after
      → Chain answers start (requests ++ request ∷ []) (written ++ answer) after
  chain_more [] start mid after written answer request (none, same) is = (
    after,
    answer,
    [],
    subst (λ (r : R). answers r request answer after) same is,
    ap (λ (w : List ℕ). w ++ answer) none ∙ sym (append-nil answer),
    (refl, refl),
  )
  chain_more (r ∷ requests) start mid after written answer request (next, first, more, is0, e, rest) is = (
    next,
    first,
    more ++ answer,
    is0,
    ap (λ (w : List ℕ). w ++ answer) e ∙ append_assoc first more answer,
    chain_more requests next mid after more answer request rest is,
  )

  -- the bytes taken begin with the requests answered
  pub record Through (start : R) (taken : List ℕ) (given : ℕ) (unread : List ℕ) (now : R) (written : List ℕ) : Type 0 where
    pub requests : List RequestText
    pub begins : Begins 1 taken requests unread
    pub open' : AreOpen requests
    pub count : given ≡ length requests
    pub few : given < 65536
    pub chain : Chain answers start requests written now

  module _ (start : R) (taken pulled : List ℕ) (given : ℕ) (unread left : List ℕ) (before after : R) (written : List ℕ) where
    pub step_more : (answer : List ℕ) (request : RequestText) → Through start taken given unread before written
        → IsHandled answers (given + 1) (unread ++ pulled) left before after answer request → request.last ≡ false
        → Through start (taken ++ pulled) (given + 1) left after (written ++ answer)
    step_more answer request t h last = record {
      requests = t.requests ++ request ∷ [];
      begins = begins_more t.requests 1 (given + 1) (taken ++ pulled) (unread ++ pulled) request left
          (omega (arith, t.count)) (begins_longer t.requests 1 taken unread pulled t.begins) h.reads;
      open' = open_more t.requests request t.open' last;
      count = omega (arith, t.count, length-append t.requests (request ∷ []));
      few =
          let other : given + 1 ≡ 65536 → ⊥ = λ e. absurd (let yes = number_is_last (given + 1) (unread ++ pulled) request left h.reads e in cc) in
          omega (arith, t.few, other);
      chain = chain_more t.requests start before after written answer request t.chain h.replies;
    }

    thread_open : (rest : Rest) (text : List ℕ) → Through start taken given unread before written
        → IsRest (unread ++ pulled) rest → IsRefusal refuses after rest text → after ≡ before
        → IsAnswered answers refuses start after (taken ++ pulled) rest (written ++ text)
    thread_open rest text t is refusal same = record {
      requests = t.requests;
      spells = spells_open t.requests 1 (taken ++ pulled) (unread ++ pulled) rest
          (begins_longer t.requests 1 taken unread pulled t.begins) t.open' is;
      replies = written;
      chain = subst (λ (r : R). Chain answers start t.requests written r) (sym same) t.chain;
      text = text;
      refusal = refusal;
      is = refl;
    }

    thread_closed : (answer : List ℕ) (request : RequestText) → Through start taken given unread before written
        → IsHandled answers (given + 1) (unread ++ pulled) left before after answer request → request.last ≡ true
        → IsAnswered answers refuses start after (taken ++ pulled) closed (written ++ answer)
    thread_closed answer request t h last = record {
      requests = t.requests ++ request ∷ [];
      spells = spells_last t.requests 1 (given + 1) (taken ++ pulled) (unread ++ pulled) request left
          (omega (arith, t.count)) (begins_longer t.requests 1 taken unread pulled t.begins) t.open' h.reads last;
      replies = written ++ answer;
      chain = chain_more t.requests start before after written answer request t.chain h.replies;
      text = [];
      refusal = refl;
      is = sym (append-nil (written ++ answer));
    }

    pub step_end : (told : Option (List ℕ)) (answer : List ℕ) (end : ConnEnd) → Through start taken given unread before written
        → IsStep answers refuses (given + 1) (unread ++ pulled) left before after told answer (Some end)
        → IsEnd answers refuses start after (taken ++ pulled) told (written ++ answer) end
    step_end told answer Done t (inl (at, is, none, same)) = inl (at, thread_open empty answer t is none same)
    step_end told answer Done t (inr (request, h, last)) = inr (thread_closed answer request t h last)
    step_end told answer Cut t (at, is, none, same) = (at, thread_open unfinished answer t is none same)
    step_end told answer (Refused fault) t (is, text, same) =
        thread_open (refused fault) answer t is (subst (λ (r : R). refuses r fault answer) (sym same) text) same
    step_end told answer ReadFault t (inl is, none, same) = inl (thread_open empty answer t is none same)
    step_end told answer ReadFault t (inr is, none, same) = inr (thread_open unfinished answer t is none same)
    step_end told answer WriteFault t (more, inl (request, h)) = record {
      requests = t.requests;
      tail = unread ++ pulled;
      begins = begins_longer t.requests 1 taken unread pulled t.begins;
      open' = t.open';
      replies = written;
      mid = before;
      chain = t.chain;
      answer = answer ++ more;
      part = answer;
      more = more;
      last = inl (request, left, subst (λ (k : ℕ). IsRequest (k + 1) (unread ++ pulled) request left) t.count h.reads, h.replies);
      cut = refl;
      is = refl;
    }
    step_end told answer WriteFault t (more, inr (fault, is, text, same)) = record {
      requests = t.requests;
      tail = unread ++ pulled;
      begins = begins_longer t.requests 1 taken unread pulled t.begins;
      open' = t.open';
      replies = written;
      mid = before;
      chain = t.chain;
      answer = answer ++ more;
      part = answer;
      more = more;
      last = inr (fault, is, text, same);
      cut = refl;
      is = refl;
    }
    step_end told answer NoMemory t none = absurd none
