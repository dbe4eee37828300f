-- In a run whose answers are known before, each one is counted at its first byte.
use Rattle.std.proofs.Common.{◌≡◌, ◌≤◌, ◌<◌, ◌+◌, ◌-◌, ◌⊎◌, ◌++◌, ◌∙◌, ℕ, zero, suc, Bool, true, false, List, [], ◌∷◌, length, Option, Some, None, take, drop, inl, inr, refl, ap, sym, subst, arith, append_assoc, append-nil, take-append-drop}
use Rattle.std.proofs.lemmas.Bool.{cases_order}
use Rattle.std.proofs.lemmas.List.{append_cancel_left, length-append, length-take-le, nil_from_length}
use Rattle.rail_io.specs.Told.{Pushes, PushesBoth, taken_by, both_taken_by, with_end}
use Rattle.rail_io.specs.declared.sink.Pushed.{Pushed}
use Rattle.rail_io.specs.declared.sink.Pushed.TheVariants.{Took, Failed}
use Rattle.rail_io.specs.declared.sink.PushedBoth.{PushedBoth}
use Rattle.rail_io.specs.declared.sink.PushedBoth.TheVariants.{Took as TookBoth, Failed as FailedBoth}
use Rattle.http_wire.specs.declared.request.WireFault.{WireFault}
use Rattle.http_wire.specs.Requests.{RequestText, IsRequest, IsFault, Begins, AreOpen}
use Rattle.http_wire.proofs.StreamLemmas.{number_is_last}
use Rattle.session_loop.specs.Session.{Answering, Refusing, Chain}
use Rattle.session_loop.specs.Moments.{Awaiting, MayWrite}
use Rattle.session_loop.specs.Writes.{Showing, Takes, TakesInOrder, Handed}
use Rattle.host_window.specs.Counting.{Turns}
use Rattle.host_window.specs.Counted.{IsPlain, NotesIn, Raises, label_in, number_of_both, number_taken, raise}
use Rattle.host_window.specs.Runs.{CountingView, HaveBegun, IsRest, TookOf, first_of, raised}
use Rattle.host_window.specs.declared.noted.Noted.{Noted}

-- What every call keeps, all calls of a session keep.
module _ {K : Type 0} (shows : Showing K) (Keeps : K → Type 0)
    (takes : (before : K) (bytes : List ℕ) (after : K) → shows.takes before bytes after → Keeps before → Keeps after)
    (holds : (before : K) (cut : ℕ) (after : K) → shows.held before cut after → Keeps before → Keeps after) where
  calls_keep : (first last : K) (pieces : List (List ℕ)) → Takes shows.takes first pieces last → Keeps first → Keeps last
  calls_keep first last [] same keeps = subst Keeps (sym same) keeps
  calls_keep first last (piece ∷ pieces) (mid, one, others) keeps = calls_keep mid last pieces others (takes first piece mid one keeps)

  between_keeps : (first between : K) (cut : ℕ) → (0 < cut → shows.held first cut between) → (cut ≡ 0 → between ≡ first) → Keeps first → Keeps between
  between_keeps first between zero said unsaid keeps = subst Keeps (sym (unsaid refl)) keeps
  between_keeps first between (suc cut) said unsaid keeps = holds first (suc cut) between (said (omega arith)) keeps

  answers_keep : (first last : K) (answers : List (ℕ × List ℕ)) → TakesInOrder shows first answers last → Keeps first → Keeps last
  answers_keep first last [] same keeps = subst Keeps (sym same) keeps
  answers_keep first last (answer ∷ answers) (mid, one, others) keeps =
      answers_keep mid last answers others
      (calls_keep one.between mid one.took.pieces one.took.calls (between_keeps first one.between answer.0 one.said one.unsaid keeps))

  pub handed_keeps : (first last : K) (bytes : List ℕ) → Handed shows first bytes last → Keeps first → Keeps last
  handed_keeps first last bytes h keeps = answers_keep first last h.answers h.calls keeps

some_same : (a b : List ℕ) → Some a ≡ Some b → a ≡ b
some_same a b e = cc

module _ (text : ℕ → List ℕ) (some : (n : ℕ) → 0 < length (text n)) where
  size_more : (n : ℕ) → length (first_of text (suc n)) ≡ length (first_of text n) + length (text n)
  size_more n = length-append (first_of text n) (text n)

  grows : (n k : ℕ) → length (first_of text n) ≤ length (first_of text (k + n))
  grows n zero =
      let is : 0 + n ≡ n = omega arith in
      let same : length (first_of text (0 + n)) ≡ length (first_of text n) = ap (λ (i : ℕ). length (first_of text i)) is in
      omega (arith, same)
  grows n (suc k) =
      let a = grows n k in
      let b = size_more (k + n) in
      let is : suc k + n ≡ suc (k + n) = omega arith in
      let same : length (first_of text (suc k + n)) ≡ length (first_of text (suc (k + n))) = ap (λ (i : ℕ). length (first_of text i)) is in
      omega (arith, a, b, same)

  -- where more than these whole answers don't fit
  no_later : (m n size : ℕ) → m < n → length (first_of text n) ≤ size → size < length (first_of text (suc m)) → ⊥
  no_later m n size less at short =
      let a = grows (suc m) (n - suc m) in
      let is : n - suc m + suc m ≡ n = omega (arith, less) in
      let b : length (first_of text (n - suc m + suc m)) ≡ length (first_of text n) = ap (λ (i : ℕ). length (first_of text i)) is in
      omega (arith, a, b, at, short)

  -- so many bytes have just one number of whole answers
  one_place : (m n size : ℕ) → length (first_of text m) ≤ size → size < length (first_of text (suc m))
      → length (first_of text n) ≤ size → size < length (first_of text (suc n)) → m ≡ n
  one_place m n size at_m before_m at_n before_n = order (cases_order m n)
    where
      order : (m ≡ n) ⊎ ((m < n) ⊎ (n < m)) → m ≡ n
      order (inl same) = same
      order (inr (inl less)) = absurd (no_later m n size less at_n before_m)
      order (inr (inr more)) = absurd (no_later n m size more at_m before_n)

  -- the answers that have begun, the bytes that are told, and the bytes that are left of the last of these answers
  abbrev pub State : ℕ → List ℕ → ℕ → Type 0
  State zero bytes left = (bytes ≡ []) × (left ≡ 0)
  State (suc n) bytes left =
      (part : List ℕ) × (rest : List ℕ) × (0 < length part) × (text n ≡ part ++ rest) × (bytes ≡ first_of text n ++ part) × (left ≡ length rest)

  -- once more bytes are taken of what was offered
  abbrev Goes : Bool → ℕ → List ℕ → ℕ → List ℕ → Type 0
  Goes true begun bytes left offered = State (suc begun) bytes left × (offered ≡ text begun)
  Goes false begun bytes left offered = State begun bytes left

  stays : (begun : ℕ) (bytes piece : List ℕ) (left after : ℕ) → State begun bytes left → piece ≡ [] → after ≡ left → State begun (bytes ++ piece) after
  stays begun bytes piece left after state none same =
      subst (λ (l : List ℕ). State begun l after) (sym (ap (λ (l : List ℕ). bytes ++ l) none ∙ append-nil bytes))
      (subst (λ (k : ℕ). State begun bytes k) (sym same) state)

  -- the next answer begins
  begins : (begun : ℕ) (bytes piece more offered part : List ℕ) (after : ℕ) → bytes ≡ first_of text begun ++ part → text begun ≡ part ++ offered
      → offered ≡ piece ++ more → length part ≡ 0 → 0 < length piece → after ≡ length offered - length piece
      → State (suc begun) (bytes ++ piece) after × (offered ≡ text begun)
  begins begun bytes piece more offered part after at is parts none some_piece left =
      let empty : part ≡ [] = nil_from_length part none in
      let whole : text begun ≡ offered = is ∙ ap (λ (l : List ℕ). l ++ offered) empty in
      let size : length offered ≡ length piece + length more = ap length parts ∙ length-append piece more in (
        (
          piece,
          more,
          some_piece,
          whole ∙ parts,
          ap (λ (l : List ℕ). l ++ piece) (at ∙ ap (λ (l : List ℕ). first_of text begun ++ l) empty ∙ append-nil (first_of text begun)),
          omega (arith, left, size),
        ),
        sym whole,
      )

  -- how many bytes are told, by the place of what is offered
  placed : (n : ℕ) (bytes piece more offered part : List ℕ) → bytes ≡ first_of text n ++ part → text n ≡ part ++ offered → offered ≡ piece ++ more
      → 0 < length piece → (length bytes ≡ length (first_of text n) + length part) × (length bytes < length (first_of text (suc n)))
  placed n bytes piece more offered part at is parts some_piece =
      let size : length bytes ≡ length (first_of text n) + length part = ap length at ∙ length-append (first_of text n) part in
      let all : length (text n) ≡ length part + length offered = ap length is ∙ length-append part offered in
      let offers : length offered ≡ length piece + length more = ap length parts ∙ length-append piece more in
      let next = size_more n in
      (size, omega (arith, size, all, offers, next, some_piece))

  advance_true : (begun : ℕ) (bytes piece more offered part : List ℕ) (n left after : ℕ) → State begun bytes left
      → bytes ≡ first_of text n ++ part → text n ≡ part ++ offered → offered ≡ piece ++ more
      → left ≡ 0 → 0 < length piece → after ≡ length offered - length piece → Goes true begun (bytes ++ piece) after offered
  advance_true zero bytes piece more offered part n left after (none, idle) at is parts no_left some_piece now =
      let where_it_is = placed n bytes piece more offered part at is parts some_piece in
      let empty : length bytes ≡ 0 = ap length none in
      let first : 0 ≡ n = one_place 0 n 0 (omega arith) (let a = size_more 0 in let b = some 0 in omega (arith, a, b))
      (omega (arith, where_it_is.0, empty)) (omega (arith, where_it_is.1, empty)) in
      begins 0 bytes piece more offered part after (subst (λ (i : ℕ). bytes ≡ first_of text i ++ part) (sym first) at)
      (subst (λ (i : ℕ). text i ≡ part ++ offered) (sym first) is) parts (omega (arith, where_it_is.0, empty)) some_piece now
  advance_true (suc m) bytes piece more offered part n left after (old, rest, some_old, all, told, left_is) at is parts no_left some_piece now =
      let where_it_is = placed n bytes piece more offered part at is parts some_piece in
      let size : length bytes ≡ length (first_of text m) + length old = ap length told ∙ length-append (first_of text m) old in
      let whole : length (text m) ≡ length old + length rest = ap length all ∙ length-append old rest in
      let next = size_more m in
      let later = size_more (suc m) in
      let some_later = some (suc m) in
      let same : suc m ≡ n = one_place (suc m) n (length bytes) (omega (arith, size, whole, next, left_is, no_left))
      (omega (arith, size, whole, next, later, some_later, left_is, no_left)) (omega (arith, where_it_is.0)) where_it_is.1 in
      let at_next : bytes ≡ first_of text (suc m) ++ part = subst (λ (i : ℕ). bytes ≡ first_of text i ++ part) (sym same) at in
      let size_next : length bytes ≡ length (first_of text (suc m)) + length part = ap length at_next ∙ length-append (first_of text (suc m)) part in
      begins (suc m) bytes piece more offered part after at_next (subst (λ (i : ℕ). text i ≡ part ++ offered) (sym same) is) parts
      (omega (arith, size_next, size, whole, next, left_is, no_left)) some_piece now

  advance_false : (begun : ℕ) (bytes piece more offered part : List ℕ) (n left after : ℕ) → State begun bytes left
      → bytes ≡ first_of text n ++ part → text n ≡ part ++ offered → offered ≡ piece ++ more
      → 0 < left → 0 < length piece → after ≡ left - length piece → State begun (bytes ++ piece) after
  advance_false zero bytes piece more offered part n left after (none, idle) at is parts some_left some_piece now = absurd (omega (arith, idle, some_left))
  advance_false (suc m) bytes piece more offered part n left after (old, rest, some_old, all, told, left_is) at is parts some_left some_piece now =
      let where_it_is = placed n bytes piece more offered part at is parts some_piece in
      let size : length bytes ≡ length (first_of text m) + length old = ap length told ∙ length-append (first_of text m) old in
      let whole : length (text m) ≡ length old + length rest = ap length all ∙ length-append old rest in
      let next = size_more m in
      let same : m ≡ n = one_place m n (length bytes) (omega (arith, size)) (omega (arith, size, whole, next, left_is, some_left))
      (omega (arith, where_it_is.0)) where_it_is.1 in
      let at_it : bytes ≡ first_of text m ++ part = subst (λ (i : ℕ). bytes ≡ first_of text i ++ part) (sym same) at in
      let is_it : text m ≡ part ++ offered = subst (λ (i : ℕ). text i ≡ part ++ offered) (sym same) is in
      let parted : part ≡ old = append_cancel_left (first_of text m) part old (sym at_it ∙ told) in
      let rests : offered ≡ rest = append_cancel_left old offered rest (ap (λ (l : List ℕ). l ++ offered) (sym parted) ∙ sym is_it ∙ all) in
      let offers : length offered ≡ length piece + length more = ap length parts ∙ length-append piece more in
      let lengths : length offered ≡ length rest = ap length rests in
      let longer : length (old ++ piece) ≡ length old + length piece = length-append old piece in (
        old ++ piece,
        more,
        omega (arith, longer, some_old),
        all ∙ ap (λ (l : List ℕ). old ++ l) (sym rests ∙ parts) ∙ sym (append_assoc old piece more),
        ap (λ (l : List ℕ). l ++ piece) told ∙ append_assoc (first_of text m) old piece,
        omega (arith, now, left_is, offers, lengths),
      )

  advance : (begun : ℕ) (bytes piece more offered part : List ℕ) (n left after : ℕ) (b : Bool) → State begun bytes left
      → bytes ≡ first_of text n ++ part → text n ≡ part ++ offered → offered ≡ piece ++ more
      → Turns left (length offered) (length piece) b after → Goes b begun (bytes ++ piece) after offered
  advance begun bytes piece more offered part n left after true state at is parts turns =
      advance_true begun bytes piece more offered part n left after state at is parts turns.0 turns.1 turns.2
  advance begun bytes piece more offered part n left after false state at is parts (inl none) =
      stays begun bytes piece left after state (nil_from_length piece none.0) none.1
  advance begun bytes [] more offered part n left after false state at is parts (inr goes) =
      stays begun bytes [] left after state refl (omega (arith, goes.1))
  advance begun bytes (x ∷ piece) more offered part n left after false state at is parts (inr goes) =
      advance_false begun bytes (x ∷ piece) more offered part n left after state at is parts goes.0 (omega arith) goes.1

  module _ (start : List ℕ) where
    -- the counts are raised by the answers that have begun
    abbrev pub Tells : CountingView → Type 0
    Tells v =
        (begun : ℕ) × (bytes : List ℕ) × (v.told ≡ Some bytes) × State begun bytes v.left × IsPlain v.counts (raised text begun start)

    counted : (b : Bool) (begun : ℕ) (bytes : List ℕ) (left : ℕ) (offered more : List ℕ) (v : CountingView) → v.told ≡ Some bytes → v.left ≡ left
        → Goes b begun bytes left offered → Raises b offered (raised text begun start) more → IsPlain v.counts more → Tells v
    counted true begun bytes left offered more v told same goes raises plain = (
      suc begun,
      bytes,
      told,
      subst (λ (k : ℕ). State (suc begun) bytes k) (sym same) goes.0,
      subst (λ (l : List ℕ). IsPlain v.counts l) (raises ∙ ap (λ (l : List ℕ). raise (label_in l) (raised text begun start)) goes.1) plain,
    )
    counted false begun bytes left offered more v told same goes raises plain = (
      begun,
      bytes,
      told,
      subst (λ (k : ℕ). State begun bytes k) (sym same) goes,
      subst (λ (l : List ℕ). IsPlain v.counts l) raises plain,
    )

    pub took_of : (before : CountingView) (piece : List ℕ) (after : CountingView) → TookOf text before piece after → Tells before → Tells after
    took_of before piece after t (begun, bytes, told, state, plain) =
        let noted = t.noted (raised text begun start) plain in
        let at : bytes ≡ first_of text t.rest.0 ++ t.rest.1 = some_same bytes (first_of text t.rest.0 ++ t.rest.1) (sym told ∙ t.rest.2) in
        counted noted.0 begun (bytes ++ piece) after.left t.offered noted.1 after
        (t.told ∙ ap (λ (o : Option (List ℕ)). with_end o piece) told) refl
        (advance begun bytes piece t.more t.offered t.rest.1 t.rest.0 before.left after.left noted.0 state at t.rest.3 t.is noted.2)
        noted.3 noted.4

    pub at_first : (v : CountingView) → v.told ≡ Some [] → v.left ≡ 0 → IsPlain v.counts start → Tells v
    at_first v told idle plain = (0, [], told, (refl, idle), plain)

    begun_so : (begun : ℕ) (bytes : List ℕ) (left : ℕ) → State begun bytes left → HaveBegun text begun bytes
    begun_so zero bytes left state = state.0
    begun_so (suc n) bytes left (part, rest, some_part, all, told, left_is) = (part, rest, some_part, all, told)

    pub at_last : (v : CountingView) → Tells v
        → (begun : ℕ) × (bytes : List ℕ) × (v.told ≡ Some bytes) × HaveBegun text begun bytes × IsPlain v.counts (raised text begun start)
    at_last v (begun, bytes, told, state, plain) = (begun, bytes, told, begun_so begun bytes v.left state, plain)

    pub tells_same : (v w : CountingView) → w.told ≡ v.told → w.left ≡ v.left → w.counts ≡ v.counts → Tells v → Tells w
    tells_same v w same_told same_left same_counts (begun, bytes, told, state, plain) = (
      begun,
      bytes,
      same_told ∙ told,
      subst (λ (k : ℕ). State begun bytes k) (sym same_left) state,
      subst (λ (n : Noted). IsPlain n (raised text begun start)) (sym same_counts) plain,
    )

-- a session has no more requests that leave it open
few_open : (requests : List RequestText) (number : ℕ) (stream tail : List ℕ) → number ≤ 65536 → Begins number stream requests tail → AreOpen requests
    → number + length requests ≤ 65536
few_open [] number stream tail few begins open' = omega (arith, few)
few_open (request ∷ requests) number stream tail few (next, reads, others) open' =
    let other : number ≡ 65536 → ⊥ = λ e. absurd (let yes = number_is_last number stream request next reads e in let no = open'.0 in cc) in
    let later = few_open requests (number + 1) next tail (omega (arith, few, other)) others open'.1 in
    omega (arith, later)

module _ (text : ℕ → List ℕ) where
  -- a write that took that many bytes
  took : (v w : CountingView) (piece : List ℕ) (n : ℕ) → n ≤ length piece → IsRest text v.told piece → w.told ≡ with_end v.told (take n piece)
      → NotesIn v.counts v.left piece n w.counts w.left → TookOf text v (take n piece) w
  took v w piece n short rest told noted = record {
    offered = piece;
    more = drop n piece;
    is = sym (take-append-drop n piece);
    rest = rest;
    told = told;
    noted = subst (λ (k : ℕ). NotesIn v.counts v.left piece k w.counts w.left) (sym (length-take-le n piece short)) noted;
  }

  none_told : (told : Option (List ℕ)) → told ≡ with_end told []
  none_told None = refl
  none_told (Some t) = ap (λ (l : List ℕ). Some l) (sym (append-nil t))

  pub took_one : (v w : CountingView) (piece : List ℕ) (pushed : Pushed) → IsRest text v.told piece → Pushes v.told w.told piece pushed
      → NotesIn v.counts v.left piece (number_taken pushed) w.counts w.left → TookOf text v (taken_by piece pushed) w
  took_one v w piece (Took n) rest pushes noted = took v w piece n pushes.1 rest pushes.2 noted
  took_one v w piece Failed rest same noted = took v w piece 0 (omega arith) rest (same ∙ none_told v.told) noted

  pub took_both : (v w : CountingView) (pieces : List ℕ) (pushed : PushedBoth) → IsRest text v.told pieces → PushesBoth v.told w.told pieces pushed
      → NotesIn v.counts v.left pieces (number_of_both pushed) w.counts w.left → TookOf text v (both_taken_by pieces pushed) w
  took_both v w pieces (TookBoth n) rest pushes noted = took v w pieces n pushes.1 rest pushes.2 noted
  took_both v w pieces (FailedBoth n) rest pushes noted = let short = pushes.0 in took v w pieces n (omega (arith, short)) rest pushes.1 noted

  -- what a responder with this script answers
  module _ {R : Type 0} (Follows : R → Type 0) (given : R → ℕ) (answers : Answering R) (refuses : Refusing R)
      (scripted : (before : R) (request : RequestText) (reply : List ℕ) (after : R) → Follows before → given before < 65536
      → answers before request reply after → (reply ≡ text (given before)) × (given after ≡ given before + 1) × Follows after)
      (declined : (now : R) (fault : WireFault) (reply : List ℕ) → Follows now → refuses now fault reply → reply ≡ text (given now)) where
    chained : (requests : List RequestText) (before after : R) (replies : List ℕ) → Follows before → given before + length requests < 65536
        → Chain answers before requests replies after
        → (first_of text (given before) ++ replies ≡ first_of text (given after)) × (given after ≡ given before + length requests) × Follows after
    chained [] before after replies follows few (none, same) =
        let given_same : given after ≡ given before = ap given same in (
          ap (λ (l : List ℕ). first_of text (given before) ++ l) none ∙ append-nil (first_of text (given before))
              ∙ ap (λ (n : ℕ). first_of text n) (sym given_same),
          omega (arith, given_same),
          subst Follows (sym same) follows,
        )
    chained (request ∷ requests) before after replies follows few (next, answer, more, is, parts, others) =
        let so = scripted before request answer next follows (omega (arith, few)) is in
        let one_more : given next ≡ suc (given before) = omega (arith, so.1) in
        let later = chained requests next after more so.2 (omega (arith, few, one_more)) others in (
          ap (λ (l : List ℕ). first_of text (given before) ++ l) parts ∙ sym (append_assoc (first_of text (given before)) answer more)
              ∙ ap (λ (l : List ℕ). (first_of text (given before) ++ l) ++ more) so.0
              ∙ ap (λ (n : ℕ). first_of text n ++ more) (sym one_more) ∙ later.0,
          omega (arith, later.1, one_more),
          later.2,
        )

    last_text : (number : ℕ) (tail answer : List ℕ) (mid after : R) → Follows mid → given mid < 65536
        → ((request : RequestText) × (left : List ℕ) × IsRequest number tail request left × answers mid request answer after)
        ⊎ ((fault : WireFault) × IsFault fault tail × refuses mid fault answer × (after ≡ mid)) → answer ≡ text (given mid)
    last_text number tail answer mid after follows few (inl (request, left, reads, is)) = (scripted mid request answer after follows few is).0
    last_text number tail answer mid after follows few (inr (fault, stands, is, same)) = declined mid fault answer follows is

    -- What may be handed over at a moment of its session is the rest of its next answer.
    pub rest_of : {K : Type 0} (awaits : Awaiting R) (shows : Showing K) (before : R) (source : Option (List ℕ)) (sink now : K) (piece : List ℕ)
        → Follows before → given before ≡ 0 → shows.told sink ≡ Some [] → MayWrite answers refuses awaits shows before source sink now piece
        → IsRest text (shows.told now) piece
    rest_of {K} awaits shows before source sink now piece follows first empty m =
        let n = given m.next.mid in
        let fits = few_open m.next.requests 1 _ m.next.tail (omega arith) m.next.begins m.next.open' in
        let chain = chained m.next.requests before m.next.mid m.next.replies follows (omega (arith, fits, first)) m.next.chain in
        let whole : m.next.replies ≡ first_of text n = ap (λ (k : ℕ). first_of text k ++ m.next.replies) (sym first) ∙ chain.0 in (
          n,
          m.next.part,
          m.sent ∙ ap (λ (o : Option (List ℕ)). with_end o m.written) empty
              ∙ ap (λ (l : List ℕ). Some l) (m.next.is ∙ ap (λ (l : List ℕ). l ++ m.next.part) whole),
          sym (last_text _ m.next.tail m.next.answer m.next.mid m.after chain.2 (omega (arith, chain.1, fits, first)) m.next.last) ∙ m.next.cut
              ∙ ap (λ (l : List ℕ). m.next.part ++ l) m.rest,
        )
