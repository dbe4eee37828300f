-- What a desk that is alone stays through a command.
use Rattle.std.proofs.Common.{◌≡◌, ◌⊎◌, inl, inr, true, false, List, [], ◌∷◌, ◌++◌, refl, sym, ap, ◌∙◌, subst, append_assoc}
use Rattle.std.specs.List.{AllByRecursion}
use Rattle.history_model.specs.declared.entry.Step.{Step}
use Rattle.history_model.specs.Phase.{is_sealed}
use Rattle.history_model.specs.Booking.{Booking, Layout, State}
use Rattle.history_model.specs.History.{IsLegal}
use Rattle.history_model.proofs.ListLemmas.{All-append, All-left, All-right}
use Rattle.claim_rule.specs.Rule.{DeskView, state_seen}
use Rattle.claim_rule.specs.Desks.{AddsSteps}
use Rattle.booking_rows.specs.SealedRows.{FitWords}
use Rattle.catalogue_contents.specs.Contents.{CatalogueView}
use Rattle.lone_desk.specs.Lone.{IsAlone}
use Rattle.lone_desk.proofs.Following.{shape_follows}
use Rattle.plain_host.specs.Settled.{IsStanding, IsEmptyRow, IsSettled}
use Rattle.plain_host.specs.Plainly.{IsLone}

-- one of a list is its last, or stands before the last

pub record IsBeforeLast (before : State) (b : Booking) (after standing : State) (last : Booking) : Type 0 where
  pub rest : State
  pub after_is : after ≡ rest ++ last ∷ []
  pub standing_is : standing ≡ before ++ b ∷ rest

pub before_last : (before after standing : State) (b last : Booking) → before ++ b ∷ after ≡ standing ++ last ∷ []
    → (b ≡ last) ⊎ IsBeforeLast before b after standing last
before_last [] after [] b last e = inl (let same : b ≡ last = cc in same)
before_last [] after (x ∷ standing) b last e =
    let same : b ≡ x = cc in
    let rest : after ≡ standing ++ last ∷ [] = cc in
    inr (record { rest = standing; after_is = rest; standing_is = ap (λ (y : Booking). y ∷ standing) (sym same) })
before_last (y ∷ []) after [] b last e = absurd cc
before_last (y ∷ z ∷ before) after [] b last e = absurd cc
before_last (y ∷ before) after (x ∷ standing) b last e =
    let same : y ≡ x = cc in
    let rest : before ++ b ∷ after ≡ standing ++ last ∷ [] = cc in
    later (before_last before after standing b last rest) same
  where
    later : (b ≡ last) ⊎ IsBeforeLast before b after standing last → y ≡ x → (b ≡ last) ⊎ IsBeforeLast (y ∷ before) b after (x ∷ standing) last
    later (inl is) same = inl is
    later (inr is) same = inr (record {
      rest = is.rest;
      after_is = is.after_is;
      standing_is = ap (λ (z : Booking). z ∷ standing) (sym same) ∙ ap (λ (l : State). y ∷ l) is.standing_is;
    })

pub standing_with : (before rest : State) (b c : Booking) → AllByRecursion IsStanding (before ++ b ∷ rest) → IsStanding c → AllByRecursion IsStanding (before ++ c ∷ rest)
standing_with before rest b c all new =
    All-append IsStanding before (c ∷ rest) (All-left IsStanding before (b ∷ rest) all) (new, (All-right IsStanding before (b ∷ rest) all).1)

-- bookings stay settled where one that is sealed becomes one that stands
pub settled_with : (before after : State) (b c : Booking) → is_sealed b.phase ≡ true → IsStanding c → IsSettled (before ++ b ∷ after) → IsSettled (before ++ c ∷ after)
settled_with before after b c sealed new settled = go settled.is where
  made_unsealed : (e : Booking) → IsEmptyRow e → b ≡ e → ⊥
  made_unsealed e empty same = let no : false ≡ true = sym (ap is_sealed empty.making) ∙ (sym (ap (λ (x : Booking). is_sealed x.phase) same) ∙ sealed) in cc

  go : (before ++ b ∷ after ≡ settled.standing) ⊎ ((e : Booking) × IsEmptyRow e × (before ++ b ∷ after ≡ settled.standing ++ e ∷ []))
      → IsSettled (before ++ c ∷ after)
  go (inl is) = record {
    standing = before ++ c ∷ after;
    each = standing_with before after b c (subst (AllByRecursion IsStanding) (sym is) settled.each) new;
    is = inl refl;
  }
  go (inr (e, empty, is)) = by (before_last before after settled.standing b e is) where
    by : (b ≡ e) ⊎ IsBeforeLast before b after settled.standing e → IsSettled (before ++ c ∷ after)
    by (inl same) = absurd (made_unsealed e empty same)
    by (inr at) = record {
      standing = before ++ c ∷ at.rest;
      each = standing_with before at.rest b c (subst (AllByRecursion IsStanding) at.standing_is settled.each) new;
      is = inr (e, empty, ap (λ (l : State). before ++ c ∷ l) at.after_is ∙ sym (append_assoc before (c ∷ at.rest) (e ∷ [])));
    }

-- the desk is alone and its history legal, at the same books
pub record StaysAlone (old new : DeskView) : Type 0 where
  pub alone : IsAlone new
  pub legal : IsLegal new.layout new.seen
  pub layout : new.layout ≡ old.layout

pub stays_by : (old new : DeskView) (steps : List Step) → IsAlone old → AddsSteps old new steps → StaysAlone old new
stays_by old new steps alone did =
    let f = shape_follows old new steps alone did in
    record { alone = f.alone; legal = did.legal; layout = f.layout }

pub stays_then : (old mid new : DeskView) → StaysAlone old mid → StaysAlone mid new → StaysAlone old new
stays_then old mid new first second = record { alone = second.alone; legal = second.legal; layout = second.layout ∙ first.layout }

pub still_lone : (cat : CatalogueView) (old new : DeskView) → IsLone cat old → StaysAlone old new → IsSettled (state_seen new) → IsLone cat new
still_lone cat old new lone stays settled = record {
  alone = stays.alone;
  legal = stays.legal;
  settled = settled;
  rows = ap (λ (g : Layout). g.rows) stays.layout ∙ lone.rows;
  legs = ap (λ (g : Layout). g.legs) stays.layout ∙ lone.legs;
  fit = subst FitWords (sym stays.layout) lone.fit;
}
