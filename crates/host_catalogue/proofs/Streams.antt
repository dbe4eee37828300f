-- What a connection's end says of the bytes to come, where the input tells them.
use Rattle.std.proofs.Common.{◌≡◌, ℕ, List, [], ◌++◌, Option, Some, None, refl, sym, ◌∙◌, ap, subst, arith, append-nil, inl, inr}
use Rattle.std.specs.Prelude.{◌⊎◌}
use Rattle.rail_io.specs.Told.{with_front}
use Rattle.http_wire.specs.declared.request.WireFault.{WireFault}
use Rattle.http_wire.specs.Next.{AtEnd}
use Rattle.http_wire.specs.Requests.{Rest, empty, unfinished, closed, refused}
use Rattle.http_wire.proofs.StreamLemmas.{closed_longer, spells_longer}
use Rattle.session_loop.specs.declared.end.ConnEnd.{ConnEnd}
use Rattle.session_loop.specs.declared.end.ConnEnd.TheVariants.{Done, Cut, Refused, ReadFault, WriteFault, NoMemory}
use Rattle.session_loop.specs.Session.{Answering, Refusing, IsAnswered, IsCutShort, IsEnd}
use Rattle.host_catalogue.specs.Ends.{status_of_end}

-- the bytes to come are those taken and those left
pub stream_is : (left : Option (List ℕ)) (taken stream : List ℕ) → Some stream ≡ with_front taken left
    → (l : List ℕ) × (left ≡ Some l) × (stream ≡ taken ++ l)
stream_is None taken stream e = absurd cc
stream_is (Some l) taken stream e = (l, refl, cc)

module _ {R : Type 0} (A : Answering R) (B : Refusing R) (before after : R) where
  longer_closed : (taken more written : List ℕ) → IsAnswered A B before after taken closed written → IsAnswered A B before after (taken ++ more) closed written
  longer_closed taken more written t = record {
    requests = t.requests;
    spells = closed_longer t.requests 1 taken more t.spells;
    replies = t.replies;
    chain = t.chain;
    text = t.text;
    refusal = t.refusal;
    is = t.is;
  }

  longer_refused : (taken more written : List ℕ) (fault : WireFault) → IsAnswered A B before after taken (refused fault) written
      → IsAnswered A B before after (taken ++ more) (refused fault) written
  longer_refused taken more written fault t = record {
    requests = t.requests;
    spells = spells_longer t.requests 1 taken more fault t.spells;
    replies = t.replies;
    chain = t.chain;
    text = t.text;
    refusal = t.refusal;
    is = t.is;
  }

  all_taken : (taken stream written l : List ℕ) (rest : Rest) (left : Option (List ℕ)) → left ≡ Some l → AtEnd left
      → stream ≡ taken ++ l → IsAnswered A B before after taken rest written → IsAnswered A B before after stream rest written
  all_taken taken stream written l rest left is at e t =
      let none : l ≡ [] = subst AtEnd is at in
      subst (λ (s : List ℕ). IsAnswered A B before after s rest written)
      (sym (e ∙ ap (λ (m : List ℕ). taken ++ m) none ∙ append-nil taken)) t

  pub done_from : (taken stream written : List ℕ) (left : Option (List ℕ)) (e : ConnEnd) → Some stream ≡ with_front taken left
      → IsEnd A B before after taken left written e → status_of_end e ≡ 0
      → IsAnswered A B before after stream empty written ⊎ IsAnswered A B before after stream closed written
  done_from taken stream written left Done is (inl (at, a)) zero =
      let s = stream_is left taken stream is in
      inl (all_taken taken stream written s.0 empty left s.1 at s.2 a)
  done_from taken stream written left Done is (inr a) zero =
      let s = stream_is left taken stream is in
      inr (subst (λ (m : List ℕ). IsAnswered A B before after m closed written) (sym s.2) (longer_closed taken s.0 written a))
  done_from taken stream written left Cut is t zero = absurd (omega (arith, zero))
  done_from taken stream written left (Refused fault) is t zero = absurd (omega (arith, zero))
  done_from taken stream written left ReadFault is t zero = absurd (omega (arith, zero))
  done_from taken stream written left WriteFault is t zero = absurd (omega (arith, zero))
  done_from taken stream written left NoMemory is t zero = absurd (omega (arith, zero))

  pub cut_from : (taken stream written : List ℕ) (left : Option (List ℕ)) (e : ConnEnd) → Some stream ≡ with_front taken left
      → IsEnd A B before after taken left written e → status_of_end e ≡ 6
      → IsAnswered A B before after stream unfinished written ⊎ ((fault : WireFault) × IsAnswered A B before after stream (refused fault) written)
  cut_from taken stream written left Cut is (at, a) six =
      let s = stream_is left taken stream is in
      inl (all_taken taken stream written s.0 unfinished left s.1 at s.2 a)
  cut_from taken stream written left (Refused fault) is a six =
      let s = stream_is left taken stream is in
      inr (fault, subst (λ (m : List ℕ). IsAnswered A B before after m (refused fault) written) (sym s.2) (longer_refused taken s.0 written fault a))
  cut_from taken stream written left Done is t six = absurd (omega (arith, six))
  cut_from taken stream written left ReadFault is t six = absurd (omega (arith, six))
  cut_from taken stream written left WriteFault is t six = absurd (omega (arith, six))
  cut_from taken stream written left NoMemory is t six = absurd (omega (arith, six))

  pub read_from : (taken written : List ℕ) (left : Option (List ℕ)) (e : ConnEnd)
      → IsEnd A B before after taken left written e → status_of_end e ≡ 3
      → IsAnswered A B before after taken empty written ⊎ IsAnswered A B before after taken unfinished written
  read_from taken written left ReadFault a three = a
  read_from taken written left Done t three = absurd (omega (arith, three))
  read_from taken written left Cut t three = absurd (omega (arith, three))
  read_from taken written left (Refused fault) t three = absurd (omega (arith, three))
  read_from taken written left WriteFault t three = absurd (omega (arith, three))
  read_from taken written left NoMemory t three = absurd (omega (arith, three))

  pub write_from : (taken written : List ℕ) (left : Option (List ℕ)) (e : ConnEnd)
      → IsEnd A B before after taken left written e → status_of_end e ≡ 4 → IsCutShort A B before after taken written
  write_from taken written left WriteFault a four = a
  write_from taken written left Done t four = absurd (omega (arith, four))
  write_from taken written left Cut t four = absurd (omega (arith, four))
  write_from taken written left (Refused fault) t four = absurd (omega (arith, four))
  write_from taken written left ReadFault t four = absurd (omega (arith, four))
  write_from taken written left NoMemory t four = absurd (omega (arith, four))
