-- A host that gives one answer.
use Rattle.std.proofs.Common.{inl, inr, List, [], ◌∷◌, ◌++◌, append-nil, refl, arith}
use Rattle.history_model.specs.declared.entry.Entry.{Entry}
use Rattle.answer_gate.specs.declared.state.Standing.{Standing}
use Rattle.answer_gate.specs.Standings.{closed, entered, fresh, left, looked_at}
use Rattle.host_journal.specs.Moments.{Moment, Passes}
use Rattle.host_journal.specs.Ahead.{IsKeptAnswer}

abbrev at_first : List Entry → Moment
at_first history =
    record { history = history; gate = fresh; cuts = record { number = 0; began = history } ∷ []; written = 0; kept = 0 }

abbrev inside : List Entry → Moment
inside history = record (at_first history) { gate = entered fresh }

abbrev changed : List Entry → Entry → Moment
changed history made = record (inside history) { history = history ++ made ∷ [] }

abbrev gone : List Entry → Entry → Moment
gone history made = record (changed history made) { gate = left (entered fresh) }

abbrev closing : List Entry → Entry → Moment
closing history made = record (gone history made) { gate = closed (left (entered fresh)) }

abbrev looking : List Entry → Entry → Moment
looking history made =
    record (closing history made) {
      gate = looked_at (closed (left (entered fresh)));
      cuts = record { number = 1; began = history ++ made ∷ [] } ∷ record { number = 0; began = history } ∷ [];
    }

abbrev written : List Entry → Entry → Moment
written history made = record (looking history made) { written = 1 }

abbrev told : List Entry → Entry → Moment
told history made = record (written history made) { kept = 1 }

closes : (s : Standing) → Passes s (closed s)
closes s = record { inside = refl; changed = refl; taken = refl; looking = λ is. cc }

pub one_answer : (history : List Entry) (made : Entry) → (later : Moment) × IsKeptAnswer later (history ++ made ∷ [])
one_answer history made = (
  told history made,
  record {
    first = at_first history;
    before = inside history ∷ changed history made ∷ [];
    answered = changed history made;
    between = gone history made ∷ closing history made ∷ looking history made ∷ written history made ∷ told history made ∷ [];
    cut = 1;
    begins = record { gate = refl; cuts = refl; written = refl; kept = refl };
    came = (inr (inl ((refl, omega arith), refl)), (inl (made, inr (omega arith), refl), refl));
    seen = ([], append-nil (history ++ made ∷ []));
    given = inl refl;
    went = (
      inr (inr (inl (omega arith, refl))),
      (
        inr (inr (inr (inl (closed (left (entered fresh)), closes (left (entered fresh)), refl)))),
        (
          inr (inr (inr (inr (inl (refl, 1, (refl, refl, refl), refl, refl, refl, refl))))),
          (
            inr (inr (inr (inr (inr (inl (1, omega arith, omega arith, refl)))))),
            (inr (inr (inr (inr (inr (inr (1, omega arith, refl)))))), refl),
          ),
        ),
      ),
    );
    kept = omega arith;
  },
)
