-- Chains of turns.
use Rattle.std.specs.Prelude.{not}
use Rattle.std.proofs.Common.{◌≡◌, ◌∙◌, ◌+◌, ◌<◌, ℕ, zero, suc, Bool, true, false, ap, List, [], ◌∷◌, ◌++◌, Option, Some, length, map, refl, sym, subst, arith, append-nil, append_assoc}
use Rattle.std.proofs.lemmas.List.{length-append, map-append}
use Rattle.std.specs.List.{AllByRecursion}
use Rattle.history_model.specs.History.{entry, own}
use Rattle.history_model.specs.declared.entry.Entry.{Entry}
use Rattle.history_model.specs.declared.entry.Step.{Step}
use Rattle.history_model.proofs.ListLemmas.{All-append}
use Rattle.claim_rule.specs.Calls.{AddsStepsBy}
use Rattle.claim_rule.specs.Out.{AllLooks, is_look}
use Rattle.claim_rule.specs.Rule.{DeskView}
use Rattle.catalogue_contents.specs.Contents.{CatalogueView}
use Rattle.rail_service.specs.Listeners.{Handing}
use Rattle.worker_pool.specs.Turns.{GoesOn, RunsToEnd}
use Rattle.host_words.specs.declared.serve.Serving.{Serving as Numbers}
use Rattle.host_serve.specs.Turns.{Readings, ServesOne, ServesTurn, SweepsTurn, Stand, OneTurn, Connection, Sweep, Leads, LooksOn, Chain, Asks, Counts, Ticks, TickingBy, TicksUntil, SweepsOnce, Rests, HasClock, HasEnded, DoesTurn, HasChain, HandedOut, IsPosted, Means, Passed, Passes, Passing, clock_for, clock_of, handed_of, part_of, readings_of, stand_of}
use Rattle.host_serve.specs.declared.serving.Server.{Server}
use Rattle.host_serve.specs.declared.member.Post.{Post}
use Rattle.host_serve.specs.declared.member.Post.TheVariants.{Serving, Sweeping, Watching}

-- no turn
pub no_turn : (Does : OneTurn) (at : Stand) → Chain Does 0 at at
no_turn Does at = record { stands = []; count = refl; leads = refl }

-- nothing was done
pub rests : (Does : OneTurn) (old new : Stand) → Rests old new → Chain Does 0 old new
rests Does old new did =
    subst (λ (d : DeskView). Chain Does 0 old (record { desk = d; clock = new.clock })) (sym did.same)
    (subst (λ (r : Readings). Chain Does 0 old (record { desk = old.desk; clock = r })) (sym did.unread) (no_turn Does old))

-- one turn
pub one : (Does : OneTurn) (a b : Stand) → Does a b → Chain Does 1 a b
one Does a b did = record { stands = b ∷ []; count = refl; leads = (did, refl) }

leads_on : (Does : OneTurn) (a : Stand) (l : List Stand) (b : Stand) (m : List Stand) (c : Stand) → Leads Does a l b → Leads Does b m c → Leads Does a (l ++ m) c
leads_on Does a [] b m c p q = subst (λ (s : Stand). Leads Does s m c) p q
leads_on Does a (next ∷ l) b m c p q = (p.0, leads_on Does next l b m c p.1 q)

-- a chain after another
pub chain_on : (Does : OneTurn) (k n : ℕ) (a b c : Stand) → Chain Does k a b → Chain Does n b c → Chain Does (k + n) a c
chain_on Does k n a b c p q =
    let many : length (p.stands ++ q.stands) ≡ length p.stands + length q.stands = length-append p.stands q.stands in
    record {
      stands = p.stands ++ q.stands;
      count = omega (arith, many, p.count, q.count);
      leads = leads_on Does a p.stands b q.stands c p.leads q.leads;
    }

-- what holds of each stream that was served, in other words
module _ (here there : Passing) (goes : (p : Passed) → here p → there p) (cat : CatalogueView) where
  pub one_so : (old new : Stand) → ServesOne here cat old new → ServesOne there cat old new
  one_so old new did = (did.0, goes did.0 did.1, did.2)

  turn_so : (old new : Stand) (ended : Bool) → ServesTurn here cat old new ended → ServesTurn there cat old new ended
  turn_so old new true did = did
  turn_so old new false did = one_so old new did

-- a turn is a chain
serves : (hands : Handing) (cat : CatalogueView) (old new : Stand) (ended : Bool) → ServesTurn (HandedOut hands) cat old new ended
    → (before after : ℕ) → Counts ended before after → (n : ℕ) × (after ≡ before + n) × Chain (Connection hands cat) n old new
serves hands cat old new true did before after counts = (0, (let same = counts in omega (arith, same)), rests (Connection hands cat) old new did)
serves hands cat old new false did before after counts = (1, counts, one (Connection hands cat) old new did)

-- a turn that doesn't end the one who sweeps is a sweep at a tick
swept : {T : Type 0} (ticked : TickingBy T) (seconds : ℕ) (first last : T) (old new : Stand) (ended : Bool)
    → (ended ≡ true → ⊥) → ticked first seconds (not ended) last → SweepsTurn old new ended → ticked first seconds true last × SweepsOnce old new
swept ticked seconds first last old new true on tick did = absurd (on refl)
swept ticked seconds first last old new false on tick did = (tick, did)

-- one that ends it is none, where there was no tick
stopped : {T : Type 0} (ticked : TickingBy T) (seconds : ℕ) (first last : T) (old new : Stand) (ended : Bool)
    → ended ≡ true → ticked first seconds (not ended) last → SweepsTurn old new ended → ticked first seconds false last × Rests old new
stopped ticked seconds first last old new true is tick did = (tick, did)
stopped ticked seconds first last old new false is tick did = absurd (let f = is in cc)

-- what was asked of a ticker that ends as well where something is shown
module _ {T U : Type 0} (ticked : TickingBy T) (Over : Type 0) (of : U → T) where
  until_ticks : (seconds n : ℕ) (first last : U) → Ticks (λ t s answer u. TicksUntil ticked Over (of t) s answer (of u)) seconds n first last
      → Ticks ticked seconds n (of first) (of last)
  until_ticks seconds zero first last same = ap of same
  until_ticks seconds (suc n) first last on =
      (of on.0, until_ticks seconds n first on.0 on.1, subst (λ (answer : Bool). ticked (of on.0) seconds answer (of last)) (on.2.goes_on refl) on.2.asked)

  pub until_asks : (seconds n : ℕ) (first before after : U) → Ticks (λ t s answer u. TicksUntil ticked Over (of t) s answer (of u)) seconds n first before
      → TicksUntil ticked Over (of before) seconds false (of after) → Asks ticked (of first) seconds n
  until_asks seconds n first before after on last =
      (of before, of after, last.told, until_ticks seconds n first before on, last.asked)

-- ticks after others
ticks_on : {T : Type 0} (ticked : TickingBy T) (seconds k n : ℕ) (a b c : T) → Ticks ticked seconds k a b → Ticks ticked seconds n b c
    → Ticks ticked seconds (k + n) a c
ticks_on {T} ticked seconds k zero a b c p q =
    let at : k ≡ k + 0 = omega arith in
    subst (λ (m : ℕ). Ticks ticked seconds m a c) at (subst (λ (t : T). Ticks ticked seconds k a t) (sym q) p)
ticks_on {T} ticked seconds k (suc n) a b c p q =
    let at : suc (k + n) ≡ k + suc n = omega arith in
    subst (λ (m : ℕ). Ticks ticked seconds m a c) at (q.0, ticks_on ticked seconds k n a b q.0 p q.1, q.2)

-- no look, looks that a call made, and looks after others
no_looks : (d : DeskView) → LooksOn d d
no_looks d = record { looks = []; alone = tt; number = refl; mine = sym (append-nil (own d.seen d.number)) }

looked : (old new : DeskView) → AddsStepsBy AllLooks old new → LooksOn old new
looked old new did = record { looks = did.0; alone = did.1; number = did.2.same.2; mine = did.2.mine }

looks_on : (a b c : DeskView) → LooksOn a b → LooksOn b c → LooksOn a c
looks_on a b c p q =
    let later : own c.seen a.number ≡ own b.seen a.number ++ map (entry a.number) q.looks =
    subst (λ (n : ℕ). own c.seen n ≡ own b.seen n ++ map (entry n) q.looks) p.number q.mine in
    record {
      looks = p.looks ++ q.looks;
      alone = All-append (λ (step : Step). is_look step ≡ true) p.looks q.looks p.alone q.alone;
      number = q.number ∙ p.number;
      mine = later
          ∙ (ap (λ (l : List Entry). l ++ map (entry a.number) q.looks) p.mine
          ∙ (append_assoc (own a.seen a.number) (map (entry a.number) p.looks) (map (entry a.number) q.looks)
          ∙ ap (λ (l : List Entry). own a.seen a.number ++ l) (sym (map-append (entry a.number) p.looks q.looks))));
    }

-- entries that look
are_looks : (n : ℕ) (steps : List Step) → AllLooks steps → AllByRecursion (λ (e : Entry). is_look e.step ≡ true) (map (entry n) steps)
are_looks n [] all = tt
are_looks n (step ∷ steps) all = (all.0, are_looks n steps all.1)

-- a desk that had no entry of its own, and looked, has nothing but looks
pub only_looks : (n : ℕ) (old new : DeskView) → old.number ≡ n → own old.seen n ≡ [] → LooksOn old new
    → AllByRecursion (λ (e : Entry). is_look e.step ≡ true) (own new.seen n)
only_looks n old new number none did =
    let mine : own new.seen n ≡ own old.seen n ++ map (entry n) did.looks =
    subst (λ (k : ℕ). own new.seen k ≡ own old.seen k ++ map (entry k) did.looks) number did.mine in
    let are : own new.seen n ≡ map (entry n) did.looks = mine ∙ ap (λ (l : List Entry). l ++ map (entry n) did.looks) none in
    subst (λ (l : List Entry). AllByRecursion (λ (e : Entry). is_look e.step ≡ true) l) (sym are) (are_looks n did.looks did.alone)

-- a serving member's turn is a chain
serving : {S T C : Type 0} (m : Means S T C) (hands : Handing) (only : (s : S) (stream sent : Option (List ℕ)) (t : S) → m.hands s stream sent t → hands stream sent)
    (w : Server S C) (d : DeskView) (v : Server S C) (e : DeskView)
    → (v.common.cat.now ≡ w.common.cat.now) × Counts v.ended (m.handed w.streams) (m.handed v.streams)
    × ServesTurn (Passes m.hands m.lets_go w.streams v.streams) w.common.cat.now
    (record { desk = d; clock = m.told w.clock }) (record { desk = e; clock = m.told v.clock }) v.ended
    → (v.common.cat.now ≡ w.common.cat.now) × (served : ℕ) × (m.handed v.streams ≡ m.handed w.streams + served)
    × Chain (Connection hands w.common.cat.now) served (record { desk = d; clock = m.told w.clock })
    (record { desk = e; clock = m.told v.clock })
serving m hands only w d v e did =
    let old : Stand = record { desk = d; clock = m.told w.clock } in
    let new : Stand = record { desk = e; clock = m.told v.clock } in
    let did_so = turn_so (Passes m.hands m.lets_go w.streams v.streams) (HandedOut hands) (λ p passed. only w.streams p.stream p.sent passed.0 passed.1) w.common.cat.now
    old new v.ended did.2 in
    let turn = serves hands w.common.cat.now old new v.ended did_so (m.handed w.streams) (m.handed v.streams) did.1 in
    (did.0, turn.0, turn.1, turn.2)

module _ {S T C W : Type 0} (m : Means S T C) (hands : Handing) where
  -- turns of a member that didn't end it are a chain
  abbrev HasGone : Post S T C W → DeskView → Post S T C W → DeskView → Type 0
  HasGone (Serving w) old (Serving v) new = HasChain {S = S} {T = T} {C = C} {W = W} m hands (Serving w) old (Serving v) new
  HasGone (Sweeping w) old (Sweeping v) new =
      (v.seconds ≡ w.seconds) × (sweeps : ℕ) × Ticks m.ticked w.seconds sweeps w.ticker v.ticker
      × Chain Sweep sweeps (record { desk = old; clock = m.told w.clock }) (record { desk = new; clock = m.told v.clock })
  HasGone (Watching w) old (Watching v) new = LooksOn old new
  HasGone w old v new = ⊥

  still : (w : Post S T C W) (d : DeskView) → HasGone w d w d
  still (Serving w) d = (refl, 0, omega arith, no_turn (Connection hands w.common.cat.now) (record { desk = d; clock = m.told w.clock }))
  still (Sweeping w) d = (refl, 0, refl, no_turn Sweep (record { desk = d; clock = m.told w.clock }))
  still (Watching w) d = no_looks d

  next : (a : Post S T C W) (x : DeskView) (b : Post S T C W) (y : DeskView) (c : Post S T C W) (z : DeskView) → HasGone a x b y → HasGone b y c z → HasGone a x c z
  next (Serving a) x (Serving b) y (Serving c) z p q = (
    q.0 ∙ p.0,
    p.1 + q.1,
    (let k = p.2 in let n = q.2 in omega (arith, k, n)),
    chain_on (Connection hands a.common.cat.now) p.1 q.1 (record { desk = x; clock = m.told a.clock }) (record { desk = y; clock = m.told b.clock }) (record { desk = z; clock = m.told c.clock }) p.3
        (subst (λ (cat : CatalogueView). Chain (Connection hands cat) q.1 (record { desk = y; clock = m.told b.clock }) (record { desk = z; clock = m.told c.clock })) p.0 q.3),
  )
  next (Sweeping a) x (Sweeping b) y (Sweeping c) z p q = (
    q.0 ∙ p.0,
    p.1 + q.1,
    ticks_on m.ticked a.seconds p.1 q.1 a.ticker b.ticker c.ticker p.2 (subst (λ (s : ℕ). Ticks m.ticked s q.1 b.ticker c.ticker) p.0 q.2),
    chain_on Sweep p.1 q.1 (record { desk = x; clock = m.told a.clock }) (record { desk = y; clock = m.told b.clock }) (record { desk = z; clock = m.told c.clock }) p.3 q.3,
  )
  next (Watching a) x (Watching b) y (Watching c) z p q = looks_on x y z p q
  next (Serving a) x (Sweeping b) y c z p q = absurd p
  next (Serving a) x (Watching b) y c z p q = absurd p
  next (Sweeping a) x (Serving b) y c z p q = absurd p
  next (Sweeping a) x (Watching b) y c z p q = absurd p
  next (Watching a) x (Serving b) y c z p q = absurd p
  next (Watching a) x (Sweeping b) y c z p q = absurd p
  next (Serving a) x (Serving b) y (Sweeping c) z p q = absurd q
  next (Serving a) x (Serving b) y (Watching c) z p q = absurd q
  next (Sweeping a) x (Sweeping b) y (Serving c) z p q = absurd q
  next (Sweeping a) x (Sweeping b) y (Watching c) z p q = absurd q
  next (Watching a) x (Watching b) y (Serving c) z p q = absurd q
  next (Watching a) x (Watching b) y (Sweeping c) z p q = absurd q

  module _ (only : (s : S) (stream sent : Option (List ℕ)) (t : S) → m.hands s stream sent t → hands stream sent) where
    goes : (w : Post S T C W) (d : DeskView) (v : Post S T C W) (e : DeskView) → DoesTurn m w d v e → (HasEnded v → ⊥) → HasGone w d v e
    goes (Serving w) d (Serving v) e did on = serving m hands only w d v e did
    goes (Sweeping w) d (Sweeping v) e did on =
        let turn = swept m.ticked w.seconds w.ticker v.ticker (record { desk = d; clock = m.told w.clock }) (record { desk = e; clock = m.told v.clock }) v.ended on did.1 did.2 in
        (did.0, 1, (w.ticker, refl, turn.0), one Sweep (record { desk = d; clock = m.told w.clock }) (record { desk = e; clock = m.told v.clock }) turn.1)
    goes (Watching w) d (Watching v) e did on = looked d e did
    goes (Serving w) d (Sweeping v) e did on = absurd did
    goes (Serving w) d (Watching v) e did on = absurd did
    goes (Sweeping w) d (Serving v) e did on = absurd did
    goes (Sweeping w) d (Watching v) e did on = absurd did
    goes (Watching w) d (Serving v) e did on = absurd did
    goes (Watching w) d (Sweeping v) e did on = absurd did

    -- and the last turn, which ended it
    ends : (a : Post S T C W) (x : DeskView) (b : Post S T C W) (y : DeskView) (c : Post S T C W) (z : DeskView) → HasGone a x b y
        → DoesTurn m b y c z → HasEnded c → HasChain m hands a x c z
    ends (Serving a) x (Serving b) y (Serving c) z p did ended = next (Serving a) x (Serving b) y (Serving c) z p (serving m hands only b y c z did)
    ends (Sweeping a) x (Sweeping b) y (Sweeping c) z p did ended =
        let turn = stopped m.ticked b.seconds b.ticker c.ticker (record { desk = y; clock = m.told b.clock }) (record { desk = z; clock = m.told c.clock }) c.ended ended did.1 did.2 in
        let began : Stand = record { desk = x; clock = m.told a.clock } in (
          did.0 ∙ p.0,
          p.1,
          b.ticker,
          p.2,
          subst (λ (s : ℕ). m.ticked b.ticker s false c.ticker) p.0 turn.0,
          subst (λ (d : DeskView). Chain Sweep p.1 began (record { desk = d; clock = m.told c.clock })) (sym turn.1.same)
              (subst (λ (r : Readings). Chain Sweep p.1 began (record { desk = y; clock = r })) (sym turn.1.unread) p.3),
        )
    ends (Watching a) x (Watching b) y (Watching c) z p did ended = looks_on x y z p (looked y z did)
    ends (Serving a) x (Sweeping b) y c z p did ended = absurd p
    ends (Serving a) x (Watching b) y c z p did ended = absurd p
    ends (Sweeping a) x (Serving b) y c z p did ended = absurd p
    ends (Sweeping a) x (Watching b) y c z p did ended = absurd p
    ends (Watching a) x (Serving b) y c z p did ended = absurd p
    ends (Watching a) x (Sweeping b) y c z p did ended = absurd p
    ends (Serving a) x (Serving b) y (Sweeping c) z p did ended = absurd did
    ends (Serving a) x (Serving b) y (Watching c) z p did ended = absurd did
    ends (Sweeping a) x (Sweeping b) y (Serving c) z p did ended = absurd did
    ends (Sweeping a) x (Sweeping b) y (Watching c) z p did ended = absurd did
    ends (Watching a) x (Watching b) y (Serving c) z p did ended = absurd did
    ends (Watching a) x (Watching b) y (Sweeping c) z p did ended = absurd did

    -- the turns of a member to its end are a chain
    pub all_turns : (before : Post S T C W) (old : DeskView) (after : Post S T C W) (new : DeskView)
        → RunsToEnd (DoesTurn m) HasEnded before old after new → HasChain m hands before old after new
    all_turns before old after new run =
        ends before old run.worker run.desk after new (front run.turns run.worker run.desk run.on) run.last run.ends
      where
        front : (n : ℕ) (w : Post S T C W) (d : DeskView) → GoesOn (DoesTurn m) HasEnded n before old w d → HasGone before old w d
        front zero w d on =
            subst (λ (v : Post S T C W). HasGone before old v d) (sym on.0) (subst (λ (e : DeskView). HasGone before old before e) (sym on.1) (still before old))
        front (suc n) w d on = next before old on.0 on.1 w d (front n on.0 on.1 on.2) (goes on.0 on.1 w d on.3 on.4)

  -- Of a member that serves, which was handed out no stream before: as many connections as it was handed out. It has
  -- one part of the ledger, and a clock.
  pub serving_chain : (cat : CatalogueView) (said : Numbers) (ticker : T) (i : ℕ) (w : Post S T C W) (old : DeskView) (v : Post S T C W) (new : DeskView)
      → i < said.workers → IsPosted cat said ticker i w → handed_of w m.handed ≡ 0 → HasChain m hands w old v new
      → (part_of v ≡ 1) × Chain (Connection hands cat) (handed_of v m.handed) (stand_of m.told w old) (stand_of m.told v new)
      × ((c : C) × (clock_of v ≡ Some c) × (m.told c ≡ readings_of m.told v))
  serving_chain cat said ticker i (Serving w) old (Serving v) new lt post none chain =
      let many : chain.1 ≡ m.handed v.streams = (let more = chain.2 in omega (arith, more, none)) in (
        refl,
        subst (λ (n : ℕ). Chain (Connection hands cat) n (record { desk = old; clock = m.told w.clock }) (record { desk = new; clock = m.told v.clock })) many
            (subst (λ (c : CatalogueView). Chain (Connection hands c) chain.1 (record { desk = old; clock = m.told w.clock }) (record { desk = new; clock = m.told v.clock })) post.1 chain.3),
        (v.clock, refl, refl),
      )
  serving_chain cat said ticker i (Serving w) old (Sweeping v) new lt post none chain = absurd chain
  serving_chain cat said ticker i (Serving w) old (Watching v) new lt post none chain = absurd chain
  serving_chain cat said ticker i (Sweeping w) old v new lt post none chain = (let at = post.0 in absurd (omega (arith, lt, at)))
  serving_chain cat said ticker i (Watching w) old v new lt post none chain = absurd (omega (arith, lt, post))

  -- of the one that sweeps, which has none
  pub sweeping_chain : (cat : CatalogueView) (said : Numbers) (ticker : T) (i : ℕ) (w : Post S T C W) (old : DeskView) (v : Post S T C W) (new : DeskView)
      → said.workers ≡ i → IsPosted cat said ticker i w → HasChain m hands w old v new
      → (sweeps : ℕ) × ((before after : T) × Ticks m.ticked said.sweep sweeps ticker before × m.ticked before said.sweep false after)
      × Chain Sweep sweeps (stand_of m.told w old) (stand_of m.told v new)
      × (part_of v ≡ 0) × (handed_of v m.handed ≡ 0)
  sweeping_chain cat said ticker i (Sweeping w) old (Sweeping v) new at post chain = (
    chain.1,
    (
      chain.2,
      v.ticker,
      subst (λ (s : ℕ). Ticks m.ticked s chain.1 ticker chain.2) post.1 (subst (λ (t : T). Ticks m.ticked w.seconds chain.1 t chain.2) post.2 chain.3),
      subst (λ (s : ℕ). m.ticked chain.2 s false v.ticker) post.1 chain.4,
    ),
    chain.5,
    refl,
    refl,
  )
  sweeping_chain cat said ticker i (Sweeping w) old (Serving v) new at post chain = absurd chain
  sweeping_chain cat said ticker i (Sweeping w) old (Watching v) new at post chain = absurd chain
  sweeping_chain cat said ticker i (Serving w) old v new at post chain = (let lt = post.0 in absurd (omega (arith, at, lt)))
  sweeping_chain cat said ticker i (Watching w) old v new at post chain = absurd (omega (arith, at, post))

  -- of one that watches, which has none either
  pub watching_chain : (cat : CatalogueView) (said : Numbers) (ticker : T) (i : ℕ) (w : Post S T C W) (old : DeskView) (v : Post S T C W) (new : DeskView)
      → said.workers < i → IsPosted cat said ticker i w → HasChain m hands w old v new
      → LooksOn old new × (part_of v ≡ 0) × (handed_of v m.handed ≡ 0)
  watching_chain cat said ticker i (Watching w) old (Watching v) new low post chain = (chain, refl, refl)
  watching_chain cat said ticker i (Watching w) old (Serving v) new low post chain = absurd chain
  watching_chain cat said ticker i (Watching w) old (Sweeping v) new low post chain = absurd chain
  watching_chain cat said ticker i (Serving w) old v new low post chain = (let lt = post.0 in absurd (omega (arith, low, lt)))
  watching_chain cat said ticker i (Sweeping w) old v new low post chain = (let at = post.0 in absurd (omega (arith, low, at)))

-- a member that doesn't watch has its own of the clocks
pub clocked : {S T C W : Type 0} (told : C → Readings) (clocks : List Readings) (cat : CatalogueView) (said : Numbers) (ticker : T) (i : ℕ) (w : Post S T C W)
    → i < said.workers + 1 → IsPosted cat said ticker i w → HasClock told clocks i w → readings_of told w ≡ clock_for clocks i
clocked told clocks cat said ticker i (Serving w) low post has = has
clocked told clocks cat said ticker i (Sweeping w) low post has = has
clocked told clocks cat said ticker i (Watching w) low post has = absurd (omega (arith, low, post))
