-- What was handed over, and what may be next, from a whole session down to one write.
use Rattle.std.proofs.Common.{◌≡◌, ℕ, ◌+◌, ◌<◌, true, List, [], ◌∷◌, ◌++◌, length, map, Bool, Option, refl, sym, ◌∙◌, ap, subst, arith, append_assoc, append-nil, inl, inr}
use Rattle.rail_io.specs.Told.{with_front, with_end}
use Rattle.http_wire.specs.Requests.{IsRequest}
use Rattle.http_wire.proofs.StreamLemmas.{begins_longer}
use Rattle.session_loop.specs.Session.{Answering, Refusing, IsCutShort}
use Rattle.session_loop.specs.Writes.{Showing, joined, Took, TookFor, TakesInOrder, Handed, Hands, HandsFor}
use Rattle.session_loop.specs.Moments.{Awaiting, Permitting, PermitsPiece, IsNextAnswer, MayStep, MayWrite}
use Rattle.session_loop.proofs.WriteLemmas.{end_more, end_none, told_more, took_then}
use Rattle.session_loop.proofs.Serving.{Through, front_more}

answers_then : (front rest : List (ℕ × List ℕ)) → joined (map (λ (answer : ℕ × List ℕ). answer.1) (front ++ rest))
    ≡ joined (map (λ (answer : ℕ × List ℕ). answer.1) front) ++ joined (map (λ (answer : ℕ × List ℕ). answer.1) rest)
answers_then [] rest = refl
answers_then (answer ∷ front) rest =
    ap (λ (l : List ℕ). answer.1 ++ l) (answers_then front rest)
    ∙ sym (append_assoc answer.1 (joined (map (λ (a : ℕ × List ℕ). a.1) front)) (joined (map (λ (a : ℕ × List ℕ). a.1) rest)))

module _ {K : Type 0} (shows : Showing K) where
  in_order_then : (first mid last : K) (front rest : List (ℕ × List ℕ)) → TakesInOrder shows first front mid → TakesInOrder shows mid rest last
      → TakesInOrder shows first (front ++ rest) last
  in_order_then first mid last [] rest same more = subst (λ (k : K). TakesInOrder shows k rest last) same more
  in_order_then first mid last (answer ∷ front) rest (next, one, others) more = (next, one, in_order_then next mid last front rest others more)

  -- what was told after a part of an answer
  pub told_part : (first last : K) (cut : ℕ) (bytes : List ℕ) → TookFor shows first cut bytes last → shows.told last ≡ with_end (shows.told first) bytes
  told_part first last cut bytes t = t.took.sent ∙ ap (λ (o : Option (List ℕ)). with_end o bytes) t.same

  pub handed_none : (first : K) → Handed shows first [] first
  handed_none first = record { answers = []; calls = refl; are = refl; sent = end_none (shows.told first) }

  -- an answer, or a front of one
  pub handed_one : (first last : K) (cut : ℕ) (bytes : List ℕ) → TookFor shows first cut bytes last → Handed shows first bytes last
  handed_one first last cut bytes t = record {
    answers = (cut, bytes) ∷ [];
    calls = (last, t, refl);
    are = sym (append-nil bytes);
    sent = told_part first last cut bytes t;
  }

  pub handed_then : (first mid last : K) (front rest : List ℕ) → Handed shows first front mid → Handed shows mid rest last
      → Handed shows first (front ++ rest) last
  handed_then first mid last front rest p q = record {
    answers = p.answers ++ q.answers;
    calls = in_order_then first mid last p.answers q.answers p.calls q.calls;
    are = ap (λ (l : List ℕ). l ++ rest) p.are ∙ ap (λ (l : List ℕ). joined (map (λ (a : ℕ × List ℕ). a.1) p.answers) ++ l) q.are
        ∙ sym (answers_then p.answers q.answers);
    sent = told_more (shows.told first) (shows.told mid) (shows.told last) front rest p.sent q.sent;
  }

  -- a part of an answer, taken by an outlet that was told of its cut
  pub took_part : (first between last : K) (cut : ℕ) (bytes : List ℕ) → (0 < cut → shows.held first cut between) → (cut ≡ 0 → between ≡ first)
      → shows.told between ≡ shows.told first → Took shows between bytes last → TookFor shows first cut bytes last
  took_part first between last cut bytes said unsaid same took = record { between = between; said = said; unsaid = unsaid; same = same; took = took }

  pub hands_part : (first between last : K) (cut : ℕ) (piece : List ℕ) (all : Bool) → (0 < cut → shows.held first cut between) → (cut ≡ 0 → between ≡ first)
      → shows.told between ≡ shows.told first → Hands shows between last piece all → HandsFor shows first last cut piece all
  hands_part first between last cut piece all said unsaid same h = record {
    written = h.written;
    left = h.left;
    took = took_part first between last cut h.written said unsaid same h.took;
    is = h.is;
    whole = h.whole;
  }

  -- once the first piece is handed over, what is left of the second is left of both
  pub permits_last : (permits : Permitting K) (sink mid : K) (all before rest left : List ℕ) → Took shows sink before mid
      → all ≡ before ++ (rest ++ left) → length rest ≡ 0 → PermitsPiece permits shows sink all → PermitsPiece permits shows mid left
  permits_last permits sink mid all before [] left took is none may = λ now part more took_now left_is.
      may now (before ++ part) more (took_then shows sink mid now before part took took_now)
      (is ∙ ap (λ (l : List ℕ). before ++ l) left_is ∙ sym (append_assoc before part more))
  permits_last permits sink mid all before (b ∷ rest) left took is none may = absurd (omega (arith, none))

-- what may be handed over in a step may be handed over at that moment of the session
pub may_write : {R K : Type 0} (answers : Answering R) (refuses : Refusing R) (awaits : Awaiting R) (shows : Showing K)
    (start : R) (source0 source : Option (List ℕ)) (sink0 sink : K) (taken : List ℕ) (given : ℕ) (unread : List ℕ)
    (responder : R) (written : List ℕ) → Through answers refuses start taken given unread responder written → source0 ≡ with_front taken source
    → Handed shows sink0 written sink → (now : K) (piece : List ℕ)
    → MayStep answers refuses awaits shows (given + 1) unread responder source sink now piece
    → MayWrite answers refuses awaits shows start source0 sink0 now piece
may_write {R} {K} answers refuses awaits shows start source0 source sink0 sink taken given unread responder written t pulled handed now piece m = record {
  taken = taken ++ m.pulled;
  left = m.left;
  reads = front_more source0 source m.left taken m.pulled pulled m.reads;
  after = m.after;
  written = written ++ m.part;
  sent = told_part shows sink now m.cut m.part m.took ∙ ap (λ (o : Option (List ℕ)). with_end o m.part) handed.sent
      ∙ end_more (shows.told sink0) written m.part;
  next = record {
    requests = t.requests;
    tail = unread ++ m.pulled;
    begins = begins_longer t.requests 1 taken unread m.pulled t.begins;
    open' = t.open';
    replies = written;
    mid = responder;
    chain = t.chain;
    answer = m.part ++ piece;
    part = m.part;
    more = piece;
    last = last m.next;
    cut = refl;
    is = refl;
  };
  rest = refl;
  cut = m.cut;
  awaited = m.awaited;
  turn = sink;
  before_it = handed;
  took = m.took;
}
  where
    last : IsNextAnswer answers refuses (given + 1) (unread ++ m.pulled) responder m.after (m.part ++ piece)
        → IsNextAnswer answers refuses (length t.requests + 1) (unread ++ m.pulled) responder m.after (m.part ++ piece)
    last (inl (request, left, reads, answered)) =
        inl (request, left, subst (λ (k : ℕ). IsRequest (k + 1) (unread ++ m.pulled) request left) t.count reads, answered)
    last (inr fault) = inr fault
