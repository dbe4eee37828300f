-- One write after another.
use Rattle.std.proofs.Common.{◌≡◌, ℕ, Bool, true, false, List, [], ◌∷◌, ◌++◌, length, take, drop, Option, Some, None, refl, sym, ◌∙◌, ap, subst, arith, inl, inr, append_assoc, append-nil, take-append-drop}
use Rattle.rail_io.specs.Told.{with_end, TakesInTurn}
use Rattle.session_loop.specs.Writes.{Writes, Showing, joined, Takes, Took, Hands}

pub end_more : (told : Option (List ℕ)) (a b : List ℕ) → with_end (with_end told a) b ≡ with_end told (a ++ b)
end_more None a b = refl
end_more (Some t) a b = ap (λ (l : List ℕ). Some l) (append_assoc t a b)

pub end_none : (told : Option (List ℕ)) → told ≡ with_end told []
end_none None = refl
end_none (Some t) = ap (λ (l : List ℕ). Some l) (sym (append-nil t))

-- the first bytes of what was left, and what is left then
pub left_more : (all before left : List ℕ) (n : ℕ) → all ≡ before ++ left → all ≡ (before ++ take n left) ++ drop n left
left_more all before left n is =
    is ∙ ap (λ (l : List ℕ). before ++ l) (sym (take-append-drop n left)) ∙ sym (append_assoc before (take n left) (drop n left))

pub told_more : (start mid after : Option (List ℕ)) (before more : List ℕ) → mid ≡ with_end start before → after ≡ with_end mid more
    → after ≡ with_end start (before ++ more)
told_more start mid after before more e f = f ∙ ap (λ (t : Option (List ℕ)). with_end t more) e ∙ end_more start before more

joined_then : (front rest : List (List ℕ)) → joined (front ++ rest) ≡ joined front ++ joined rest
joined_then [] rest = refl
joined_then (piece ∷ front) rest =
    ap (λ (l : List ℕ). piece ++ l) (joined_then front rest) ∙ sym (append_assoc piece (joined front) (joined rest))

takes_then : {K : Type 0} (takes : K → List ℕ → K → Type 0) (first mid last : K) (front rest : List (List ℕ)) → Takes takes first front mid
    → Takes takes mid rest last → Takes takes first (front ++ rest) last
takes_then {K} takes first mid last [] rest same more = subst (λ (k : K). Takes takes k rest last) same more
takes_then {K} takes first mid last (piece ∷ front) rest (next, one, others) more = (next, one, takes_then takes next mid last front rest others more)

module _ {K : Type 0} (shows : Showing K) where
  pub took_none : (first : K) → Took shows first [] first
  took_none first = record { pieces = []; calls = refl; are = refl; sent = end_none (shows.told first) }

  -- one call
  pub took_once : (first last : K) (bytes : List ℕ) → shows.takes first bytes last → shows.told last ≡ with_end (shows.told first) bytes
      → Took shows first bytes last
  took_once first last bytes one sent = record { pieces = bytes ∷ []; calls = (last, one, refl); are = sym (append-nil bytes); sent = sent }

  -- a call for two pieces
  pub took_both : (first last : K) (bytes : List ℕ) → TakesInTurn shows.takes first bytes last → shows.told last ≡ with_end (shows.told first) bytes
      → Took shows first bytes last
  took_both first last bytes (inl one) sent = took_once first last bytes one sent
  took_both first last bytes (inr (mid, front, rest, one, two, is)) sent = record {
    pieces = front ∷ (rest ∷ []);
    calls = (mid, one, (last, two, refl));
    are = is ∙ ap (λ (l : List ℕ). front ++ l) (sym (append-nil rest));
    sent = sent;
  }

  pub took_then : (first mid last : K) (front rest : List ℕ) → Took shows first front mid → Took shows mid rest last → Took shows first (front ++ rest) last
  took_then first mid last front rest p q = record {
    pieces = p.pieces ++ q.pieces;
    calls = takes_then shows.takes first mid last p.pieces q.pieces p.calls q.calls;
    are = ap (λ (l : List ℕ). l ++ rest) p.are ∙ ap (λ (l : List ℕ). joined p.pieces ++ l) q.are ∙ sym (joined_then p.pieces q.pieces);
    sent = told_more (shows.told first) (shows.told mid) (shows.told last) front rest p.sent q.sent;
  }

  -- a call that took nothing
  pub took_failed : (first mid last : K) (bytes : List ℕ) → Took shows first bytes mid → shows.takes mid [] last → shows.told last ≡ shows.told mid
      → Took shows first bytes last
  took_failed first mid last bytes p one same =
      subst (λ (l : List ℕ). Took shows first l last) (append-nil bytes)
      (took_then first mid last bytes [] p (took_once mid last [] one (same ∙ end_none (shows.told mid))))

  -- all of a piece
  pub hands_all : (first last : K) (piece written rest : List ℕ) → Took shows first written last → piece ≡ written ++ rest → length rest ≡ 0
      → Hands shows first last piece true
  hands_all first last piece written [] took is none = record { written = written; left = []; took = took; is = is; whole = λ e. refl }
  hands_all first last piece written (b ∷ rest) took is none = absurd (omega (arith, none))

  -- a front of a piece, at which the outlet failed
  pub hands_front : (first last : K) (piece written rest : List ℕ) → Took shows first written last → piece ≡ written ++ rest
      → Hands shows first last piece false
  hands_front first last piece written rest took is = record { written = written; left = rest; took = took; is = is; whole = λ e. absurd cc }

  -- a front of both pieces, and then what was handed over of the second
  pub hands_last : (first mid last : K) (all before rest left : List ℕ) (ok : Bool) → Took shows first before mid
      → all ≡ before ++ (rest ++ left) → length rest ≡ 0 → Hands shows mid last left ok → Hands shows first last all ok
  hands_last first mid last all before [] left ok took is none h = record {
    written = before ++ h.written;
    left = h.left;
    took = took_then first mid last before h.written took h.took;
    is = is ∙ ap (λ (l : List ℕ). before ++ l) h.is ∙ sym (append_assoc before h.written h.left);
    whole = h.whole;
  }
  hands_last first mid last all before (b ∷ rest) left ok took is none h = absurd (omega (arith, none))

  -- by what the outlet tells
  pub writes_so : (first last : K) (piece : List ℕ) (all : Bool) → Hands shows first last piece all → Writes (shows.told first) (shows.told last) piece all
  writes_so first last piece all h = record { written = h.written; left = h.left; told = h.took.sent; is = h.is; whole = h.whole }
