-- The steps of tries for one place, by how they ended.
use Rattle.std.proofs.Common.{◌≡◌, ◌≢◌, ◌∙◌, ◌⊎◌, inl, inr, ℕ, suc, ◌+◌, ◌<◌, ◌≤◌, true, List, [], ◌∷◌, ◌++◌, length, refl, sym, ap, subst, arith, append_assoc, append-nil}
use Rattle.std.specs.List.{AllByRecursion}
use Rattle.leg_masks.specs.Interval.{Interval, IsClear, IsPiece}
use Rattle.leg_masks.proofs.HalfLegs.{pieces-whole}
use Rattle.history_model.specs.declared.entry.Step.{Step}
use Rattle.history_model.specs.declared.entry.Step.TheVariants.{Note, Take}
use Rattle.history_model.specs.Looks.{look_at}
use Rattle.history_model.proofs.ListLemmas.{All-append}
use Rattle.reservation_service.specs.Holding.{In}
use Rattle.hold_core.specs.declared.tries.Outcome.{Outcome}
use Rattle.hold_core.specs.declared.tries.Outcome.TheVariants.{Won, Refused, Contended}
use Rattle.hold_core.specs.Tries.{Part, Try, AreMoving, AreParts, IsTry, IsOutcome, items_tried, looks_at, part_steps, parts_steps, undone, won_steps, try_steps}
use Rattle.hold_core.specs.Places.{won_by, items_won, place_won, places_won, tries_steps, tried, AllSettled}
use Rattle.host_drill.specs.Parts.{Among, AllMinor, is_minor, is_start, starts_in}
use Rattle.host_drill.specs.Totals.{one_if}

-- minor steps, with so many starts

abbrev pub AreMinor : List Step → ℕ → Type 0
AreMinor es n = AllMinor es × (starts_in es ≡ n)

pub starts_append : (xs ys : List Step) → starts_in (xs ++ ys) ≡ starts_in xs + starts_in ys
starts_append [] ys = (let e : starts_in ys ≡ 0 + starts_in ys = omega arith in e)
starts_append (x ∷ xs) ys =
    let rest = starts_append xs ys in
    let e : one_if (is_start x) + starts_in (xs ++ ys) ≡ one_if (is_start x) + starts_in xs + starts_in ys = omega (arith, rest) in e

pub minor_append : (xs ys : List Step) (m n : ℕ) → AreMinor xs m → AreMinor ys n → AreMinor (xs ++ ys) (m + n)
minor_append xs ys m n a b =
    let both = starts_append xs ys in
    let left = a.1 in
    let right = b.1 in (
      All-append (λ st. is_minor st ≡ true) xs ys a.0 b.0,
      (let e : starts_in (xs ++ ys) ≡ m + n = omega (arith, both, left, right) in e),
    )

pub looks_minor : (place : ℕ) (piece : Interval) (shown : List ℕ) → AreMinor (looks_at place piece shown) 0
looks_minor place piece [] = (tt, refl)
looks_minor place piece (word ∷ shown) =
    let rest = looks_minor place piece shown in
    let none = rest.1 in
    ((refl, rest.0), (let e : 0 + starts_in (looks_at place piece shown) ≡ 0 = omega (arith, none) in e))

-- steps among others

pub among_left : (st : Step) (xs ys : List Step) → Among st xs → Among st (xs ++ ys)
among_left st [] ys at = absurd at
among_left st (x ∷ xs) ys (inl is) = inl is
among_left st (x ∷ xs) ys (inr more) = inr (among_left st xs ys more)

pub among_right : (st : Step) (xs ys : List Step) → Among st ys → Among st (xs ++ ys)
among_right st [] ys at = at
among_right st (x ∷ xs) ys at = inr (among_right st xs ys at)

last_look : (place : ℕ) (piece : Interval) (front : List ℕ) (word : ℕ) → Among (look_at place piece word) (looks_at place piece (front ++ word ∷ []))
last_look place piece [] word = inl refl
last_look place piece (a ∷ front) word = inr (last_look place piece front word)

-- a try of a span that lies in one half has one part, of the whole span

pub record IsLooked (span : Interval) (place : ℕ) (parts : List Part) (o : Outcome) : Type 0 where
  pub shown : List ℕ
  pub moving : AreMoving shown
  pub outcome : IsOutcome span shown o
  pub steps : (row k : ℕ) → parts_steps row k place parts ++ undone row k o parts ≡ looks_at place span shown ++ won_steps row k place span o

none_undone : (row k : ℕ) (o : Outcome) (p : Part) → undone row k o (p ∷ []) ≡ []
none_undone row k Won p = refl
none_undone row k Refused p = refl
none_undone row k Contended p = refl

one_end : (p : Part) (o : Outcome) → ((p.outcome ≡ Won) × (o ≡ Won)) ⊎ ((p.outcome ≢ Won) × (◌≡◌ {A = List Part} [] []) × (o ≡ p.outcome)) → p.outcome ≡ o
one_end p o (inl (one, all)) = one ∙ sym all
one_end p o (inr (lost, none, same)) = sym same

one_part : (span : Interval) (place : ℕ) (parts : List Part) (o : Outcome) → AreParts (span ∷ []) parts o → IsLooked span place parts o
one_part span place [] o are = absurd are
one_part span place (p ∷ q ∷ rest) o (is, part, inl (won, more)) = absurd more
one_part span place (p ∷ q ∷ rest) o (is, part, inr (lost, none, same)) = absurd (let e : q ∷ rest ≡ [] = none in cc)
one_part span place (p ∷ []) o (is, part, how) =
    let same = one_end p o how in
    record {
      shown = p.shown;
      moving = part.moving;
      outcome = subst (λ (e : Outcome). IsOutcome span p.shown e) same (subst (λ (s : Interval). IsOutcome s p.shown p.outcome) is part.outcome);
      steps = λ row k.
          append_assoc (part_steps row k place p) [] (undone row k o (p ∷ []))
          ∙ (ap (λ (l : List Step). part_steps row k place p ++ l) (none_undone row k o p) ∙ (append-nil (part_steps row k place p)
          ∙ (ap (λ (s : Interval). looks_at place s p.shown ++ won_steps row k place s p.outcome) is
          ∙ ap (λ (e : Outcome). looks_at place span p.shown ++ won_steps row k place span e) same)));
    }

pub looked : (span : Interval) (t : Try) → IsPiece span → IsTry span t → IsLooked span t.place t.parts t.outcome
looked span t piece is = one_part span t.place t.parts t.outcome (subst (λ (ps : List Interval). AreParts ps t.parts t.outcome) (pieces-whole span piece) is)

-- tries that won nothing

abbrev pub AllRefused : List Try → Type 0
AllRefused tries = AllByRecursion (λ t. t.outcome ≡ Refused) tries

lost_one : (o : Outcome) (place : ℕ) (more : List ℕ) → o ≢ Contended → length (place_won place o ++ more) < 1 → (o ≡ Refused) × (length more < 1)
lost_one Won place more settled few = absurd (let e : ⊥ = omega (arith, few) in e)
lost_one Refused place more settled few = (refl, few)
lost_one Contended place more settled few = absurd (settled refl)

-- where no place is won, all settled tries in front are refused
pub all_lost : (before rest : List Try) → AllSettled before → length (places_won (before ++ rest)) < 1 → AllRefused before
all_lost [] rest settled few = tt
all_lost (t ∷ before) rest settled few =
    let one = lost_one t.outcome t.place (places_won (before ++ rest)) settled.0 few in
    (one.0, all_lost before rest settled.1 one.1)

-- nor is an item
pub no_items_won : (span : Interval) (tries : List Try) → length (places_won tries) < 1 → items_won span tries ≡ []
no_items_won span [] few = refl
no_items_won span (t ∷ tries) few = by t.outcome few (no_items_won span tries)
  where
    by : (o : Outcome) → length (place_won t.place o ++ places_won tries) < 1 → (length (places_won tries) < 1 → items_won span tries ≡ []) → items_tried t.place span o ++ items_won span tries ≡ []
    by Won few rest = absurd (let e : ⊥ = omega (arith, few) in e)
    by Refused few rest = rest few
    by Contended few rest = rest few

looks_lost : (row k place : ℕ) (span : Interval) (shown : List ℕ) (o : Outcome) → o ≢ Won → AreMinor (looks_at place span shown ++ won_steps row k place span o) 0
looks_lost row k place span shown Won lost = absurd (lost refl)
looks_lost row k place span shown Refused lost = minor_append (looks_at place span shown) [] 0 0 (looks_minor place span shown) (tt, refl)
looks_lost row k place span shown Contended lost = minor_append (looks_at place span shown) [] 0 0 (looks_minor place span shown) (tt, refl)

try_minor : (row k : ℕ) (span : Interval) (t : Try) → IsPiece span → IsTry span t → t.outcome ≢ Won → AreMinor (try_steps row k t) 0
try_minor row k span t piece is lost =
    let l = looked span t piece is in
    subst (λ (es : List Step). AreMinor es 0) (sym (l.steps row k)) (looks_lost row k t.place span l.shown t.outcome lost)

not_won : (o : Outcome) → o ≡ Refused → o ≢ Won
not_won o refused won = let e : Refused ≡ Won = sym refused ∙ won in cc

pub refused_minor : (row k : ℕ) (span : Interval) (tries : List Try) → IsPiece span → AllByRecursion (IsTry span) tries → AllRefused tries → AreMinor (tries_steps row k span tries) 0
refused_minor row k span [] piece each refused = (tt, refl)
refused_minor row k span (t ∷ tries) piece each refused =
    minor_append (try_steps row k t) (tries_steps row (k + length (won_by span t)) span tries) 0 0
    (try_minor row k span t piece each.0 (not_won t.outcome refused.0))
    (refused_minor row (k + length (won_by span t)) span tries piece each.1 refused.1)

-- each place that was tried and refused was seen taken

abbrev SeenTaken : ℕ → Interval → List Step → Type 0
SeenTaken place span es = (word : ℕ) × Among (look_at place span word) es × (¬ IsClear word span)

seen_by : (place : ℕ) (span : Interval) (shown : List ℕ) (o : Outcome) → IsOutcome span shown o → o ≡ Refused → SeenTaken place span (looks_at place span shown)
seen_by place span shown o is refused =
    let taken = (subst (IsOutcome span shown) refused is).1 in (
      taken.1,
      subst (λ (words : List ℕ). Among (look_at place span taken.1) (looks_at place span words)) (sym taken.4) (last_look place span taken.0 taken.1),
      taken.3,
    )

pub seen_taken : (row k : ℕ) (span : Interval) (tries : List Try) (place : ℕ) → IsPiece span → AllByRecursion (IsTry span) tries → AllRefused tries → In place (tried tries)
    → SeenTaken place span (tries_steps row k span tries)
seen_taken row k span [] place piece each refused at = absurd at
seen_taken row k span (t ∷ tries) place piece each refused (inl is) =
    let l = looked span t piece each.0 in
    let seen = seen_by t.place span l.shown t.outcome l.outcome refused.0 in
    let look : Step = look_at t.place span seen.0 in (
      seen.0,
      subst (λ (p : ℕ). Among (look_at p span seen.0) (tries_steps row k span (t ∷ tries))) (sym is)
          (among_left look (try_steps row k t) (tries_steps row (k + length (won_by span t)) span tries)
          (subst (Among look) (sym (l.steps row k)) (among_left look (looks_at t.place span l.shown) (won_steps row k t.place span t.outcome) seen.1))),
      seen.2,
    )
seen_taken row k span (t ∷ tries) place piece each refused (inr more) =
    let seen = seen_taken row (k + length (won_by span t)) span tries place piece each.1 refused.1 more in
    (seen.0, among_right (look_at place span seen.0) (try_steps row k t) (tries_steps row (k + length (won_by span t)) span tries) seen.1, seen.2)

-- the last try is contended, and those before it are refused

pub contended_last : (row k : ℕ) (span : Interval) (before : List Try) (last : Try) (l : IsLooked span last.place last.parts last.outcome) → last.outcome ≡ Contended
    → tries_steps row k span (before ++ last ∷ []) ≡ tries_steps row k span before ++ (looks_at last.place span l.shown ++ [])
contended_last row k span [] last l contended =
    append-nil (try_steps row k last)
    ∙ (l.steps row k ∙ ap (λ (o : Outcome). looks_at last.place span l.shown ++ won_steps row k last.place span o) contended)
contended_last row k span (t ∷ before) last l contended =
    ap (λ (es : List Step). try_steps row k t ++ es) (contended_last row (k + length (won_by span t)) span before last l contended)
    ∙ sym (append_assoc (try_steps row k t) (tries_steps row (k + length (won_by span t)) span before) (looks_at last.place span l.shown ++ []))

-- the last try is won, and those before it are refused

-- one place is taken behind minor steps, and noted
pub record IsWinning (row place : ℕ) (span : Interval) (es : List Step) : Type 0 where
  pub front : List Step
  pub at : ℕ
  pub word : ℕ
  pub are : es ≡ front ++ Take row place span ∷ Note row at word ∷ []
  pub minor : AreMinor front 0

wins_one : (row k place : ℕ) (span : Interval) (shown : List ℕ) (o : Outcome) → o ≡ Won → IsWinning row place span (looks_at place span shown ++ won_steps row k place span o)
wins_one row k place span shown Won won = record {
  front = looks_at place span shown;
  at = _;
  word = _;
  are = refl;
  minor = looks_minor place span shown;
}
wins_one row k place span shown Refused won = absurd (let e : Refused ≡ Won = won in cc)
wins_one row k place span shown Contended won = absurd (let e : Contended ≡ Won = won in cc)

wins_later : (row place : ℕ) (span : Interval) (mine more : List Step) → AreMinor mine 0 → IsWinning row place span more → IsWinning row place span (mine ++ more)
wins_later row place span mine more minor w = record {
  front = mine ++ w.front;
  at = w.at;
  word = w.word;
  are = ap (λ (l : List Step). mine ++ l) w.are ∙ sym (append_assoc mine w.front (Take row place span ∷ Note row w.at w.word ∷ []));
  minor = minor_append mine w.front 0 0 minor w.minor;
}

-- a won try behind others wins some place
some_won : (before : List Try) (last : Try) → last.outcome ≡ Won → 1 ≤ length (places_won (before ++ last ∷ []))
some_won [] last won = subst (λ (o : Outcome). 1 ≤ length (place_won last.place o ++ [])) (sym won) (let e : 1 ≤ 1 = omega arith in e)
some_won (t ∷ before) last won = longer (place_won t.place t.outcome) (places_won (before ++ last ∷ [])) (some_won before last won)
  where
    longer : (xs ys : List ℕ) → 1 ≤ length ys → 1 ≤ length (xs ++ ys)
    longer [] ys some = some
    longer (x ∷ xs) ys some = let e : 1 ≤ suc (length (xs ++ ys)) = omega arith in e

won_no_more : (o : Outcome) (place : ℕ) (more : List ℕ) → o ≢ Contended → 1 ≤ length more → length (place_won place o ++ more) ≡ 1
    → (o ≡ Refused) × (length more ≡ 1)
won_no_more Won place more settled some one = absurd (let e : ⊥ = omega (arith, some, one) in e)
won_no_more Refused place more settled some one = (refl, one)
won_no_more Contended place more settled some one = absurd (settled refl)

pub wins_last : (row k : ℕ) (span : Interval) (before : List Try) (last : Try) → IsPiece span → AllByRecursion (IsTry span) (before ++ last ∷ []) → AllSettled before → last.outcome ≡ Won
    → length (places_won (before ++ last ∷ [])) ≡ 1 → IsWinning row last.place span (tries_steps row k span (before ++ last ∷ []))
wins_last row k span [] last piece each settled won one =
    let l = looked span last piece each.0 in
    subst (IsWinning row last.place span) (sym (append-nil (try_steps row k last) ∙ l.steps row k)) (wins_one row k last.place span l.shown last.outcome won)
wins_last row k span (t ∷ before) last piece each settled won one =
    let first = won_no_more t.outcome t.place (places_won (before ++ last ∷ [])) settled.0 (some_won before last won) one in
    wins_later row last.place span (try_steps row k t) (tries_steps row (k + length (won_by span t)) span (before ++ last ∷ []))
    (try_minor row k span t piece each.0 (not_won t.outcome first.0))
    (wins_last row (k + length (won_by span t)) span before last piece each.1 settled.1 won first.1)

-- the last of the tries is one of the places
pub last_tried : (before : List Try) (last : Try) (left : List ℕ) → In last.place (tried (before ++ last ∷ []) ++ left)
last_tried [] last left = inl refl
last_tried (t ∷ before) last left = inr (last_tried before last left)
