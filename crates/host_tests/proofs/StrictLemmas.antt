-- What may be written at a moment of a session is the next of its answers, and waits for its cut.
use Rattle.std.proofs.Common.{◌≡◌, ◌≤◌, ℕ, List, [], ◌++◌, Option, Some, None, sym, ◌∙◌, ap, append_assoc, arith}
use Rattle.rail_io.specs.Told.{with_front}
use Rattle.session_loop.specs.Session.{Answering, Refusing}
use Rattle.session_loop.specs.Writes.{Showing}
use Rattle.session_loop.specs.Moments.{Awaiting, MayWrite}
use Rattle.session_loop.proofs.Records.{handed_recorded, part_recorded, part_held}
use Rattle.host_tests.specs.Strict.{IsNextOf}

some_same : (a b : List ℕ) → Some a ≡ Some b → a ≡ b
some_same a b e = cc

front : (stream taken : List ℕ) (left : Option (List ℕ)) → Some stream ≡ with_front taken left → (rest : List ℕ) × (stream ≡ taken ++ rest)
front stream taken None e = absurd cc
front stream taken (Some rest) e = (rest, some_same stream (taken ++ rest) e)

module _ {R K : Type 0} (answers : Answering R) (refuses : Refusing R) (awaits : Awaiting R) (shows : Showing K) (record_of : K → List ℕ) (cut_of : K → ℕ)
    (grows : (before : K) (bytes : List ℕ) (after : K) → shows.takes before bytes after → (record_of after ≡ record_of before ++ bytes) × (cut_of after ≡ cut_of before))
    (stays : (before : K) (cut : ℕ) (after : K) → shows.held before cut after → (record_of after ≡ record_of before) × (cut_of before ≤ cut_of after) × (cut ≤ cut_of after))
    (before : R) (stream : List ℕ) (source : Option (List ℕ)) (sink now : K) (piece : List ℕ) where
  -- by what the outlet keeps of its own calls: it tells nothing
  pub next_of : source ≡ Some stream → record_of sink ≡ [] → MayWrite answers refuses awaits shows before source sink now piece
      → IsNextOf answers refuses before stream (record_of now) piece
  next_of of_stream none m =
      let f = front stream m.taken m.left (sym of_stream ∙ m.reads) in
      let grown : (a : K) (bytes : List ℕ) (b : K) → shows.takes a bytes b → record_of b ≡ record_of a ++ bytes = λ a bytes b is. (grows a bytes b is).0 in
      let stayed : (a : K) (cut : ℕ) (b : K) → shows.held a cut b → record_of b ≡ record_of a = λ a cut b is. (stays a cut b is).0 in
      let earlier : record_of m.turn ≡ m.next.replies = handed_recorded shows record_of grown stayed sink m.turn m.next.replies m.before_it
      ∙ ap (λ (l : List ℕ). l ++ m.next.replies) none in
      record {
        read = m.taken;
        left = f.0;
        of = f.1;
        after = m.after;
        written = m.written;
        next = m.next;
        same = part_recorded shows record_of grown stayed m.turn now m.cut m.next.part m.took
            ∙ ap (λ (l : List ℕ). l ++ m.next.part) earlier ∙ sym m.next.is;
        rest = m.rest;
      }

  -- a cut that an answer waits for is held
  pub held_at : (least : ℕ) → ((a : R) (cut : ℕ) (b : R) → awaits a cut b → cut ≡ least) → MayWrite answers refuses awaits shows before source sink now piece
      → least ≤ cut_of now
  held_at least known m =
      let kept : (a : K) (bytes : List ℕ) (b : K) → shows.takes a bytes b → cut_of a ≤ cut_of b = λ a bytes b is. let same = (grows a bytes b is).1 in omega (arith, same) in
      let holds : (a : K) (cut : ℕ) (b : K) → shows.held a cut b → (cut_of a ≤ cut_of b) × (cut ≤ cut_of b) = λ a cut b is. ((stays a cut b is).1, (stays a cut b is).2) in
      let enough = part_held shows cut_of kept holds m.turn now m.cut m.next.part m.took in
      let is = known m.next.mid m.cut m.after m.awaited in
      omega (arith, enough.1, is)
