-- What is so of each step by which places are added.
use Rattle.std.proofs.Common.{ℕ, zero, suc, ◌+◌, Bool, List, [], ◌∷◌, ◌++◌, length, sym, subst}
use Rattle.std.specs.List.{AllByRecursion}
use Rattle.leg_masks.specs.Interval.{Interval, pieces, PlacedSpan as Item}
use Rattle.history_model.specs.declared.entry.Step.{Step}
use Rattle.history_model.specs.declared.entry.Step.TheVariants.{Look, Take, Give, Note}
use Rattle.history_model.proofs.ListLemmas.{All-append}
use Rattle.availability.specs.Looks.{LooksPieces}
use Rattle.hold_core.specs.declared.adds.Added.{Added}
use Rattle.hold_core.specs.declared.tries.Outcome.{Outcome}
use Rattle.hold_core.specs.declared.tries.Outcome.TheVariants as outcome
use Rattle.hold_core.specs.Tries.{Part, Try, looks_at, won_steps, part_steps, parts_steps, undone, try_steps}
use Rattle.hold_core.specs.Places.{Adds, won_by, tries_steps, gives_back}
use Rattle.party_places.specs.declared.party.PartyAdded.{PartyAdded}
use Rattle.party_places.specs.declared.party.PartyAdded.TheVariants.{Together, Apart, NoPlace, Contended}
use Rattle.party_places.specs.Searches.{Looked, LooksAtEach}
use Rattle.party_places.specs.Parties.{Party, TakesEach, gives_down, Fails, SitsTogether, SitsApart, TriesFrom, SeatsParty}

-- it is so of each look, and of each take, note and give of the row
pub record IsSoOf (P : Step → Type 0) (row : ℕ) : Type 0 where
  pub look : (place half shown : ℕ) → P (Look place half shown)
  pub take : (place : ℕ) (span : Interval) → P (Take row place span)
  pub note : (word value : ℕ) → P (Note row word value)
  pub give : (item : ℕ) → P (Give row item)

module _ (P : Step → Type 0) (row : ℕ) (so : IsSoOf P row) where
  abbrev All : List Step → Type 0
  All es = AllByRecursion P es

  looks : (place : ℕ) (piece : Interval) (shown : List ℕ) → All (looks_at place piece shown)
  looks place piece [] = tt
  looks place piece (word ∷ rest) = (so.look place _ word, looks place piece rest)

  won_all : (k place : ℕ) (piece : Interval) (o : Outcome) → All (won_steps row k place piece o)
  won_all k place piece outcome.Won = (so.take place piece, (so.note _ _, tt))
  won_all k place piece outcome.Refused = tt
  won_all k place piece outcome.Contended = tt

  parts_all : (k place : ℕ) (ts : List Part) → All (parts_steps row k place ts)
  parts_all k place [] = tt
  parts_all k place (t ∷ ts) =
      All-append P (part_steps row k place t) (parts_steps row (k + 1) place ts)
      (All-append P (looks_at place t.piece t.shown) (won_steps row k place t.piece t.outcome) (looks place t.piece t.shown) (won_all k place t.piece t.outcome))
      (parts_all (k + 1) place ts)

  undone_all : (k : ℕ) (o : Outcome) (ts : List Part) → All (undone row k o ts)
  undone_all k outcome.Won ts = tt
  undone_all k outcome.Refused [] = tt
  undone_all k outcome.Refused (t ∷ []) = tt
  undone_all k outcome.Refused (t ∷ u ∷ ts) = (so.give k, tt)
  undone_all k outcome.Contended [] = tt
  undone_all k outcome.Contended (t ∷ []) = tt
  undone_all k outcome.Contended (t ∷ u ∷ ts) = (so.give k, tt)

  tries_all : (k : ℕ) (span : Interval) (ts : List Try) → All (tries_steps row k span ts)
  tries_all k span [] = tt
  tries_all k span (t ∷ ts) =
      All-append P (try_steps row k t) (tries_steps row (k + length (won_by span t)) span ts)
      (All-append P (parts_steps row k t.place t.parts) (undone row k t.outcome t.parts) (parts_all k t.place t.parts) (undone_all k t.outcome t.parts))
      (tries_all (k + length (won_by span t)) span ts)

  -- places added one by one, and all items given back
  pub adds_all : (k : ℕ) (span : Interval) (count : ℕ) (candidates : List ℕ) (answer : Added) (won : List Item) (es : List Step)
      → Adds row k span count candidates answer won es → All es
  adds_all k span count candidates answer won es a = subst All (sym a.steps) (tries_all k span a.tries)

  pub gives_all : (n : ℕ) → All (gives_back row n)
  gives_all zero = tt
  gives_all (suc n) = (so.give n, gives_all n)

  -- the parts of a party's tries

  pieces_all : (place : ℕ) (ps : List Interval) (free : Bool) (es : List Step) → LooksPieces place ps free es → All es
  pieces_all place [] free es (is, none) = subst All (sym none) tt
  pieces_all place (piece ∷ ps) free es (word, here, others, more, shows, rest, is, are) =
      subst All (sym are) (so.look place _ word, pieces_all place ps others more rest)

  looked_all : (span : Interval) (ls : List Looked) (es : List Step) → LooksAtEach span ls es → All es
  looked_all span [] es none = subst All (sym none) tt
  looked_all span (l ∷ ls) es (mine, more, first, rest, are) =
      subst All (sym are) (All-append P mine more (pieces_all l.place (pieces span) l.free mine first) (looked_all span ls more rest))

  takes_all : (k : ℕ) (span : Interval) (ps : List ℕ) (won : List Item) (es : List Step) → TakesEach row k span ps won es → All es
  takes_all k span [] won es (none, nothing) = subst All (sym nothing) tt
  takes_all k span (p ∷ ps) won es (mine, more, first, others, adds, rest, is, are) =
      subst All (sym are) (All-append P first others (adds_all k span 1 (p ∷ []) _ mine first adds) (takes_all (k + length mine) span ps more others rest))

  down_all : (k n : ℕ) → All (gives_down row k n)
  down_all k zero = tt
  down_all k (suc n) = (so.give (k + n), down_all k n)

-- a party's tries
module _ (P : Step → Type 0) (g : Party) (so : IsSoOf P g.row) where
  fails_all : (here left : List ℕ) (es : List Step) → Fails g here left es → AllByRecursion P es
  fails_all here left es f =
      let l = f.loses in
      let tried : AllByRecursion P f.tries =
      subst (AllByRecursion P) (sym l.are)
      (All-append P l.takes l.last (takes_all P g.row so g.items g.span l.before f.won l.takes l.takes_are)
      (adds_all P g.row so (g.items + length f.won) g.span 1 (l.place ∷ []) l.answer [] l.last l.last_are)) in
      subst (AllByRecursion P) (sym f.are)
      (All-append P f.looks (f.tries ++ gives_down g.row g.items (length f.won)) (looked_all P g.row so g.span f.looked f.looks f.looks_are)
      (All-append P f.tries (gives_down g.row g.items (length f.won)) tried (down_all P g.row so g.items (length f.won))))

  apart_all : (here : List ℕ) (answer : PartyAdded) (won : List Item) (es : List Step) → SitsApart g here answer won es → AllByRecursion P es
  apart_all here answer won es s =
      subst (AllByRecursion P) (sym s.are)
      (All-append P s.looks s.adds (looked_all P g.row so g.span s.looked s.looks s.looks_are)
      (adds_all P g.row so g.items g.span g.count g.candidates s.added won s.adds s.adds_are))

  together_all : (here : List ℕ) (first : ℕ) (won : List Item) (es : List Step) → SitsTogether g here first won es → AllByRecursion P es
  together_all here first won es s =
      subst (AllByRecursion P) (sym s.are)
      (All-append P s.looks s.takes (looked_all P g.row so g.span s.looked s.looks s.looks_are)
      (takes_all P g.row so g.items g.span _ won s.takes s.takes_are))

  from_all : (here : List ℕ) (lefts : List (List ℕ)) (answer : PartyAdded) (won : List Item) (es : List Step) → TriesFrom g here lefts answer won es → AllByRecursion P es
  from_all here (left ∷ lefts) answer won es (mine, more, fails, rest, are) =
      subst (AllByRecursion P) (sym are) (All-append P mine more (fails_all here left mine fails) (from_all left lefts answer won more rest))
  from_all here [] (Together first) won es s = together_all here first.0 won es s
  from_all here [] Apart won es s = apart_all here Apart won es s
  from_all here [] (NoPlace n) won es s = apart_all here (NoPlace n) won es s
  from_all here [] (Contended p) won es s = apart_all here (Contended p) won es s

  pub party_all : (answer : PartyAdded) (won : List Item) (es : List Step) → SeatsParty g answer won es → AllByRecursion P es
  party_all answer won es (lefts, tries) = from_all g.candidates lefts answer won es tries
