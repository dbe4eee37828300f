-- The wall that is handed back.
use Rattle.std.proofs.Common.{◌≡◌, ◌∙◌, ◌+◌, ◌<◌, ◌≤◌, ℕ, zero, suc, false, true, List, [], Option, Some, length, slice_index_or, refl, sym, subst, ap, arith, append-nil}
use Rattle.std.proofs.Math.Logic.{⊎_elim}
use Rattle.std.proofs.lemmas.Bool.{cases_lt}
use Rattle.std.specs.Prelude.{All}
use Rattle.leg_masks.specs.Interval.{most_legs, most_places}
use mathlib.Core.List.{IsPrefix}
use Rattle.history_model.specs.Booking.{Layout, most_rows}
use Rattle.history_model.specs.History.{IsLegal, own, state_of}
use Rattle.history_model.specs.declared.entry.Entry.{Entry}
use Rattle.history_model.specs.Words.{AreWordsOf}
use Rattle.claim_rule.specs.Rule.{BooksView, DeskView, IsWhole}
use Rattle.claim_rule.specs.Out.{IsTidy, is_look}
use Rattle.std.specs.List.{AllByRecursion}
use Rattle.claim_rule.specs.Desks.{HasMet, IsOf}
use Rattle.claim_rule.specs.Walls.{WallView, Finishes}
use Rattle.worker_pool.specs.Turns.{KeepsDesk}
use Rattle.worker_pool.specs.declared.member.Member.{Member}
use Rattle.worker_pool.proofs.Chains.{keeps_on}
use Rattle.cold_store.specs.Tidy.{AreSucceeded, IsTidyWall}
use Rattle.catalogue_contents.specs.Contents.{CatalogueView}
use Rattle.host_words.specs.declared.serve.Serving.{Serving}
use Rattle.host_serve.specs.declared.member.Post.{Post}
use Rattle.worker_pool.specs.Crews.{OnlyMet, IsCrew, HasMetAll, HasRun, Held, of_member, sum_below}
use Rattle.host_serve.specs.Crews.{AreReady}
use Rattle.host_serve.specs.Turns.{FitsBooks, HasEnded, DoesTurn, HasChain, LooksOn, Means, Readings, Stand, OneTurn, Ticks, Chain, Connection, Sweep, clock_for, clock_of, handed_of, part_of, readings_of, stand_of}
use Rattle.host_serve.specs.Serve.{AllWorked, HasWorked, IsServedWall, Left, OnlyLooks}
use Rattle.host_serve.proofs.Chaining.{all_turns, chain_on, clocked, only_looks, serving_chain, sweeping_chain, watching_chain}
use Rattle.worker_pool.proofs.Crewing.{begins, has_in, sum_more, sum_ones, sum_rest}
use Rattle.host_serve.proofs.Tidying.{IsRested, never_worked, rested, tidy_wall}

-- a layout in the limits of books
pub record IsFit (g : Layout) : Type 0 where
  pub places : length g.legs ≤ most_places
  pub legs : All (λ n. n ≤ most_legs) g.legs
  pub rows : g.rows ≤ most_rows

-- Each desk has what it did from a time between two calls of the service, so the wall is free for an export.
pub served_wall : (cat : CatalogueView) (said : Serving) (left : Left) (books : BooksView) (desk : DeskView) (wall : WallView)
    → IsOf books desk → IsTidy desk → AreSucceeded books.layout.opening → wall.layout ≡ books.layout → IsFit wall.layout
    → Finishes books.layout desk wall.words wall.history → IsWhole desk.number desk.parted desk.joined → desk.parted ≡ said.workers + 1 + left.watchers → OnlyMet desk.seen
    → AllWorked cat books said left desk.seen
    → ((n : ℕ) → said.workers + 1 < n → n ≤ said.workers + 1 + left.watchers → OnlyLooks desk.seen n)
    → ((n : ℕ) → 1 ≤ n → n ≤ said.workers + 1 + left.watchers → IsRested books.layout desk.seen n) → IsServedWall cat books.layout said left wall
served_wall cat said left books desk wall of tidy succeeded same fit ends whole made meets worked looked rests =
    let seen : desk.seen ≡ wall.history = sym (ends.whole whole) in
    record {
      books = books;
      layout = refl;
      of = record { layout = same; desk = desk; of = of; parted = made; whole = whole; seen = sym seen; finished = ends };
      closed = record {
        legal = subst (λ (l : Layout). IsLegal l wall.history) (sym same) ends.legal;
        are = subst (λ (l : Layout). AreWordsOf l (state_of l wall.history) wall.words) (sym same) ends.are;
        places = fit.places;
        legs = fit.legs;
      };
      tidy = subst (λ (l : Layout). IsTidyWall (record { layout = l; words = wall.words; history = wall.history })) (sym same)
          (tidy_wall books.layout wall.history ends.legal all wall.words succeeded (subst (λ (l : Layout). l.rows ≤ most_rows) same fit.rows));
      first = subst (λ (h : List Entry). OnlyMet h) seen meets;
      worked = subst (λ (h : List Entry). AllWorked cat books said left h) seen worked;
      watched = λ n low high. subst (λ (h : List Entry). OnlyLooks h n) seen (looked n low high);
      no_others = λ n beyond. ends.no_others whole.0 n (omega (arith, made, beyond));
    }
  where
    at : desk.seen ≡ wall.history
    at = sym (ends.whole whole)

    first : IsRested books.layout wall.history 0
    first = subst (λ (h : List Entry). IsRested books.layout h 0) at
        (rested books.layout desk.seen 0 desk of.layout whole.0 tidy ([], append-nil desk.seen) refl)

    some : (n : ℕ) → 1 ≤ n → IsRested books.layout wall.history n
    some n low = ⊎_elim
        (λ (beyond : said.workers + 1 + left.watchers < n). never_worked books.layout wall.history n ends.legal (ends.no_others whole.0 n (omega (arith, made, beyond))))
        (λ (within : n ≤ said.workers + 1 + left.watchers). subst (λ (h : List Entry). IsRested books.layout h n) at (rests n low within))
        (cases_lt (said.workers + 1 + left.watchers) n)

    all : (n : ℕ) → IsRested books.layout wall.history n
    all zero = first
    all (suc n) = some (suc n) (omega arith)

-- a member has worked, from the desk that it stood at to the one that was joined
pub has_worked : (Does : OneTurn) (books : BooksView) (n : ℕ) (clock : Readings) (count : ℕ) (old new : Stand) (history : List Entry) → IsOf books old.desk
    → IsOf books new.desk → old.desk.number ≡ n → old.clock ≡ clock → own old.desk.seen n ≡ [] → KeepsDesk old.desk new.desk
    → Chain Does count old new → own history n ≡ own new.desk.seen n → IsPrefix new.desk.seen history → HasWorked Does books history n clock count
has_worked Does books n clock count old new history began_of ended_of number started none keeps turns entries front = record {
  began = old;
  began_clock = started;
  began_of = began_of;
  number = number;
  none = none;
  began_front = begins old.desk.seen new.desk.seen history keeps.seen front;
  ended = new;
  ended_of = ended_of;
  ended_number = keeps.number ∙ number;
  ended_front = front;
  turns = turns;
  entries = entries;
}

module _ {S T C W : Type 0} (m : Means S T C) (left : Left)
    (only : (s : S) (stream sent : Option (List ℕ)) (t : S) → m.hands s stream sent t → left.hands stream sent)
    (cat : CatalogueView) (said : Serving) (ticker : T) (books : BooksView) (old : List (Member (Post S T C W))) (before after : Held) (first : DeskView) (member : Member (Post S T C W))
    (crew : IsCrew FitsBooks books old) (ready : AreReady old m.handed m.told (record { cat = cat; said = said; ticker = ticker; clocks = left.clocks })) (count : length old ≡ said.workers + 1 + left.watchers) (some : 1 ≤ said.workers)
    (run : HasRun FitsBooks (DoesTurn m) HasEnded part_of (λ w. handed_of w m.handed) books old before after first member) where
  behind : (i : ℕ) → i < length old → i < length run.crew
  behind i lt = omega (arith, lt, run.count)

  chain : (i : ℕ) → i < length old → HasChain m left.hands (slice_index_or old i member).worker (slice_index_or old i member).desk
      (slice_index_or run.crew i member).worker (slice_index_or run.crew i member).desk
  chain i lt = all_turns m left.hands only (slice_index_or old i member).worker (slice_index_or old i member).desk (slice_index_or run.crew i member).worker
      (slice_index_or run.crew i member).desk (run.turns i member lt)

  last : said.workers < length old
  last = omega (arith, count)

  swept : (sweeps : ℕ) × ((before after : T) × Ticks m.ticked said.sweep sweeps ticker before × m.ticked before said.sweep false after)
      × Chain Sweep sweeps (stand_of m.told (slice_index_or old said.workers member).worker (slice_index_or old said.workers member).desk)
      (stand_of m.told (slice_index_or run.crew said.workers member).worker (slice_index_or run.crew said.workers member).desk)
      × (part_of (slice_index_or run.crew said.workers member).worker ≡ 0) × (handed_of (slice_index_or run.crew said.workers member).worker m.handed ≡ 0)
  swept =
      let i : ℕ = said.workers in
      let w = slice_index_or old i member in
      let v = slice_index_or run.crew i member in
      sweeping_chain m left.hands cat said ticker i w.worker w.desk v.worker v.desk refl (ready i member last).post (chain i last)

  serves : (i : ℕ) → i < said.workers → (part_of (slice_index_or run.crew i member).worker ≡ 1)
      × Chain (Connection left.hands cat) (handed_of (slice_index_or run.crew i member).worker m.handed)
      (stand_of m.told (slice_index_or old i member).worker (slice_index_or old i member).desk)
      (stand_of m.told (slice_index_or run.crew i member).worker (slice_index_or run.crew i member).desk)
      × ((c : C) × (clock_of (slice_index_or run.crew i member).worker ≡ Some c) × (m.told c ≡ readings_of m.told (slice_index_or run.crew i member).worker))
  serves i less =
      let lt : i < length old = omega (arith, count, less) in
      let w = slice_index_or old i member in
      let v = slice_index_or run.crew i member in
      serving_chain m left.hands cat said ticker i w.worker w.desk v.worker v.desk less (ready i member lt).post (ready i member lt).unserved (chain i lt)

  looks : (i : ℕ) → said.workers < i → i < length old → LooksOn (slice_index_or old i member).desk (slice_index_or run.crew i member).desk
      × (part_of (slice_index_or run.crew i member).worker ≡ 0) × (handed_of (slice_index_or run.crew i member).worker m.handed ≡ 0)
  looks i low lt =
      let w = slice_index_or old i member in
      let v = slice_index_or run.crew i member in
      watching_chain m left.hands cat said ticker i w.worker w.desk v.worker v.desk low (ready i member lt).post (chain i lt)

  -- the first member has a clock
  pub has_clock : (c : C) × (clock_of member.worker ≡ Some c) × (m.told c ≡ readings_of m.told member.worker)
  has_clock =
      subst (λ (n : Member (Post S T C W)). (c : C) × (clock_of n.worker ≡ Some c) × (m.told c ≡ readings_of m.told n.worker)) (sym (run.left member))
      (serves 0 some).2

  -- the parts and the streams of all members
  parts_sum : sum_below (of_member part_of run.crew member) (length run.crew) ≡ said.workers
  parts_sum =
      let ones = sum_ones (of_member part_of run.crew member) said.workers (λ i less. (serves i less).0) in
      let none = swept.3 in
      let rest = sum_rest (of_member part_of run.crew member) (suc said.workers) (length run.crew) (omega (arith, count, run.count))
      (λ i low lt. (looks i (omega (arith, low)) (omega (arith, lt, run.count))).1) in
      omega (arith, ones, none, rest)

  handed_sum : sum_below (of_member (λ w. handed_of w m.handed) run.crew member) (length run.crew) ≡ sum_below (of_member (λ w. handed_of w m.handed) run.crew member) said.workers
  handed_sum =
      let none = swept.4 in
      let rest = sum_rest (of_member (λ w. handed_of w m.handed) run.crew member) (suc said.workers) (length run.crew) (omega (arith, count, run.count))
      (λ i low lt. (looks i (omega (arith, low)) (omega (arith, lt, run.count))).2) in
      omega (arith, none, rest)

  -- what the first member has, by its place
  first_part : sum_below (of_member part_of run.crew member) 1 ≡ part_of member.worker
  first_part =
      let this : part_of (slice_index_or run.crew 0 member).worker ≡ part_of member.worker = ap (λ (n : Member (Post S T C W)). part_of n.worker) (sym (run.left member)) in
      omega (arith, this)

  first_handed : sum_below (of_member (λ w. handed_of w m.handed) run.crew member) 1 ≡ handed_of member.worker m.handed
  first_handed =
      let this : handed_of (slice_index_or run.crew 0 member).worker m.handed ≡ handed_of member.worker m.handed =
      ap (λ (n : Member (Post S T C W)). handed_of n.worker m.handed) (sym (run.left member)) in
      omega (arith, this)

  -- whoever was given all of it has the parts of all serving members
  pub all_parts : (parts : ℕ) → before.parts ≡ 0 → parts ≡ after.parts + part_of member.worker → parts ≡ said.workers
  all_parts parts began has =
      let given = run.given.all_parts member in
      let all = parts_sum in
      let one = first_part in
      omega (arith, given, all, one, began, has)

  -- how many connections the member at a place served, the first one so many more
  abbrev served_by : ℕ → ℕ → ℕ
  served_by more zero = handed_of member.worker m.handed + more
  served_by more (suc i) = handed_of (slice_index_or run.crew (suc i) member).worker m.handed

  module _ (other new : DeskView) (clock later : Readings)
      (asked : (seconds n : ℕ) (before after : T) → Ticks m.ticked seconds n ticker before → m.ticked before seconds false after → left.asks seconds n) where
    entries : HasMet first other new → (i : ℕ) → 1 ≤ i → i < length old
        → (own new.seen (i + 1) ≡ own (slice_index_or run.crew i member).desk.seen (i + 1)) × IsPrefix (slice_index_or run.crew i member).desk.seen new.seen
    entries met i low lt = has_in books run.crew first other new run.met met i member low (behind i lt)

    -- those who watched looked
    pub all_looked : HasMet first other new → (n : ℕ) → said.workers + 1 < n → n ≤ said.workers + 1 + left.watchers → OnlyLooks new.seen n
    all_looked met zero low high = absurd (omega (arith, low))
    all_looked met (suc i) low high =
        let lt : i < length old = omega (arith, count, high) in
        let w = slice_index_or old i member in
        let v = slice_index_or run.crew i member in
        let at : i + 1 ≡ suc i = omega arith in
        let alone = only_looks (i + 1) w.desk v.desk (crew i member lt).desk.number (ready i member lt).none (looks i (omega (arith, low)) lt).0 in
        subst (λ (n : ℕ). OnlyLooks new.seen n) at
        (subst (λ (l : List Entry). AllByRecursion (λ (e : Entry). is_look e.step ≡ true) l) (sym (entries met i (omega (arith, low)) lt).0) alone)

    -- All that the members of a crew did stands in what the first desk has seen. The first member's desk served on, and
    -- was joined last. All the streams together are as many as the holder of all shares had counted, and those that
    -- were served on.
    pub all_worked : (more amount : ℕ) → before.amount ≡ 0 → amount ≡ after.amount + handed_of member.worker m.handed → left.after.handed ≡ amount + more
        → clock ≡ readings_of m.told member.worker → KeepsDesk member.desk other
        → Chain (Connection left.hands cat) more (record { desk = member.desk; clock = clock }) (record { desk = other; clock = later })
        → IsOf books other → HasMet first other new → AllWorked cat books said left new.seen
    all_worked more amount began has sums read kept behind_it of met = record {
      served = served_by more;
      serving = serving;
      together = together;
      sweeps = swept.0;
      sweeping = sweeping;
      asked = asked said.sweep swept.0 swept.1.0 swept.1.1 swept.1.2 swept.1.3;
    }
      where
        together : sum_below (served_by more) said.workers ≡ left.after.handed
        together =
            let one = first_handed in
            let first_is : served_by more 0 ≡ of_member (λ w. handed_of w m.handed) run.crew member 0 + more = omega (arith, one) in
            let plus = sum_more (of_member (λ w. handed_of w m.handed) run.crew member) (served_by more) more said.workers first_is (λ i. refl) some in
            let given = run.given.all_counted member in
            let all = handed_sum in
            omega (arith, plus, one, given, all, began, has, sums)

        sweeping : HasWorked Sweep books new.seen (said.workers + 1) (clock_for left.clocks said.workers) swept.0
        sweeping =
            let i : ℕ = said.workers in
            let w = slice_index_or old i member in
            let v = slice_index_or run.crew i member in
            has_worked Sweep books (i + 1) (clock_for left.clocks i) swept.0 (stand_of m.told w.worker w.desk) (stand_of m.told v.worker v.desk) new.seen
            (crew i member last).desk.own (run.are i member (behind i last)).desk.own (crew i member last).desk.number
            (clocked m.told left.clocks cat said ticker i w.worker (omega arith) (ready i member last).post (ready i member last).clock)
            (ready i member last).none (run.keeps i member last) swept.2 (entries met i some last).0 (entries met i some last).1

        later_one : (i : ℕ) → 1 ≤ i → i < said.workers
            → HasWorked (Connection left.hands cat) books new.seen (i + 1) (clock_for left.clocks i) (handed_of (slice_index_or run.crew i member).worker m.handed)
        later_one i low less =
            let lt : i < length old = omega (arith, count, less) in
            let w = slice_index_or old i member in
            let v = slice_index_or run.crew i member in
            has_worked (Connection left.hands cat) books (i + 1) (clock_for left.clocks i) (handed_of v.worker m.handed) (stand_of m.told w.worker w.desk) (stand_of m.told v.worker v.desk) new.seen
            (crew i member lt).desk.own (run.are i member (behind i lt)).desk.own (crew i member lt).desk.number
            (clocked m.told left.clocks cat said ticker i w.worker (omega (arith, less)) (ready i member lt).post (ready i member lt).clock)
            (ready i member lt).none (run.keeps i member lt) (serves i less).1 (entries met i low lt).0 (entries met i low lt).1

        first_one : HasWorked (Connection left.hands cat) books new.seen (0 + 1) (clock_for left.clocks 0) (handed_of member.worker m.handed + more)
        first_one =
            let lt : 0 < length old = omega (arith, count) in
            let w = slice_index_or old 0 member in
            let left_is : slice_index_or run.crew 0 member ≡ member = sym (run.left member) in
            let keeps : KeepsDesk w.desk member.desk = subst (λ (n : Member (Post S T C W)). KeepsDesk w.desk n.desk) left_is (run.keeps 0 member lt) in
            let before_it = subst (λ (n : Member (Post S T C W)). Chain (Connection left.hands cat) (handed_of n.worker m.handed) (stand_of m.told w.worker w.desk) (stand_of m.told n.worker n.desk))
            left_is (serves 0 some).1 in
            let rest = subst (λ (r : Readings). Chain (Connection left.hands cat) more (record { desk = member.desk; clock = r }) (record { desk = other; clock = later })) read behind_it in
            let number : other.number ≡ 1 = kept.number ∙ run.is.desk.number in
            has_worked (Connection left.hands cat) books (0 + 1) (clock_for left.clocks 0) (handed_of member.worker m.handed + more) (stand_of m.told w.worker w.desk)
            (record { desk = other; clock = later }) new.seen
            (crew 0 member lt).desk.own of (crew 0 member lt).desk.number
            (clocked m.told left.clocks cat said ticker 0 w.worker (omega arith) (ready 0 member lt).post (ready 0 member lt).clock) (ready 0 member lt).none
            (keeps_on w.desk member.desk other keeps kept)
            (chain_on (Connection left.hands cat) (handed_of member.worker m.handed) more (stand_of m.told w.worker w.desk) (stand_of m.told member.worker member.desk)
            (record { desk = other; clock = later }) before_it rest)
            (subst (λ (k : ℕ). own new.seen k ≡ own other.seen k) number met.theirs.0) met.other_front

        serving : (i : ℕ) → i < said.workers → HasWorked (Connection left.hands cat) books new.seen (i + 1) (clock_for left.clocks i) (served_by more i)
        serving zero less = first_one
        serving (suc i) less = later_one (suc i) (omega arith) less

-- The members' desks are tidy, and the first desk has joined them, with what each did. The first member's is another
-- one by then, and was joined last.
pub all_rested : {W : Type 0} (Fits : W → BooksView → Type 0) (books : BooksView) (crew : List (Member W)) (none : Member W) (first other new : DeskView)
    → IsCrew Fits books crew → HasMetAll books crew 1 first → IsOf books other → IsTidy other → other.number ≡ 1 → HasMet first other new
    → (n : ℕ) → 1 ≤ n → n ≤ length crew → IsRested books.layout new.seen n
all_rested Fits books crew none first other new are all of tidy number met zero low high = absurd (omega (arith, low))
all_rested Fits books crew none first other new are all of tidy number met (suc zero) low high =
    rested books.layout new.seen 1 other of.layout number tidy met.other_front
    (subst (λ (k : ℕ). own new.seen k ≡ own other.seen k) number met.theirs.0)
all_rested Fits books crew none first other new are all of tidy number met (suc (suc i)) low high =
    let at : suc i + 1 ≡ suc (suc i) = omega arith in
    let lt : suc i < length crew = omega (arith, high) in
    let desk = (slice_index_or crew (suc i) none).desk in
    let is = (are (suc i) none lt).desk in
    let has = has_in books crew first other new all met (suc i) none (omega arith) lt in
    subst (λ (n : ℕ). IsRested books.layout new.seen n) at
    (rested books.layout new.seen (suc i + 1) desk is.own.layout is.number is.tidy has.1 has.0)
