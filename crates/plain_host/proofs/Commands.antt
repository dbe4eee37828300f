-- Commands on a booking come to the outcomes of a plain host.
use Rattle.std.proofs.Common.{◌≡◌, ℕ, ◌<◌, ◌≤◌, ◌⊎◌, inl, inr, true, List, Option, Some, None, Ok, refl, sym, ap, ◌∙◌, subst}
use Rattle.history_model.specs.declared.entry.Step.{Step}
use Rattle.history_model.specs.Phase.{is_sealed}
use Rattle.history_model.specs.Booking.{Booking, State, present, word_at}
use Rattle.history_model.specs.History.{IsLegal}
use Rattle.history_model.proofs.Ranges.{ranges_all}
use Rattle.claim_rule.specs.Rule.{DeskView, state_seen}
use Rattle.claim_rule.specs.Calls.{AddsStepsBy}
use Rattle.claim_rule.proofs.Moves.{is_sound}
use Rattle.booking_rows.specs.Views.{RowSeen}
use Rattle.booking_rows.specs.SealedRows.{FitWords}
use Rattle.booking_rows.proofs.Looked.{row_looked}
use Rattle.rail_ids.specs.declared.RowNo.{RowNo}
use Rattle.catalogue_contents.specs.Contents.{CatalogueView}
use Rattle.osdm_parts.specs.declared.problem.Problem.TheVariants.{NoMemory}
use Rattle.osdm_texts.specs.Answers.{Reply, problem}
use Rattle.refund_core.specs.Quotes.{FindsBooking}
use Rattle.service_rules.specs.Ordered as order
use Rattle.booking_service.specs.Deciding.{Replying, OnBooking, shows, confirm_reply, ConfirmsFound, fulfil_reply, FulfilsFound, release_reply, ReleasesFound}
use Rattle.lone_desk.specs.Lone.{IsAlone, after_steps}
use Rattle.lone_desk.proofs.Following.{shape_follows}
use Rattle.plain_host.specs.Plain.{Plain, Outcome, own_view}
use Rattle.plain_host.specs.Outcomes.{on_view, on_own, shown, confirmed, fulfilled, released}
use Rattle.plain_host.specs.PlainOf.{view_of, plain_in, plain_of}
use Rattle.plain_host.specs.Settled.{IsSettled}
use Rattle.plain_host.specs.Plainly.{IsLone, AnswersPlainly}
use Rattle.plain_host.proofs.Staying.{StaysAlone, stays_by, stays_then, still_lone}
use Rattle.plain_host.proofs.Standings.{own_is, own_other, own_unshown, own_past}
use Rattle.plain_host.proofs.Looks.{looks_stay, none_shown}
use Rattle.plain_host.proofs.Shown.{row_shown}
use Rattle.plain_host.proofs.Decided.{ComesTo, confirm_comes, fulfil_comes, release_comes}

-- what is done with a booking that was found comes to this
abbrev pub ComesOn : ℕ → RowNo → ℕ → (RowSeen → Replying) → (Plain → RowSeen → Outcome) → Type 0
ComesOn rows row retailer Does does =
    (mid new : DeskView) (b : Booking) (reply : Reply) → IsAlone mid → IsLegal mid.layout mid.seen → present (state_seen mid) row.row ≡ Some b → b.generation ≡ row.generation
    → is_sealed b.phase ≡ true → word_at b 1 ≡ retailer → row.row < rows → IsSettled (state_seen mid) → FitWords mid.layout → Does (view_of b) mid new reply
    → ComesTo (does (plain_in (state_seen mid)) (view_of b)) (state_seen new) reply × StaysAlone mid new

-- no booking of the retailer was found, and there is none
pub unknown_comes : (cat : CatalogueView) (row : RowNo) (retailer : ℕ) (old new : DeskView) → IsLone cat old → AddsStepsBy (FindsBooking cat.rows row retailer None) old new
    → (own_view (plain_of old) row retailer ≡ None) × (state_seen new ≡ state_seen old) × StaysAlone old new
unknown_comes cat row retailer old new lone (es, inl (past, none), did) =
    let f = shape_follows old new es lone.alone did in (
      own_past old.layout (state_seen old) row retailer (ranges_all old.layout old.seen lone.legal) (subst (λ (n : ℕ). n ≤ row.row) (sym lone.rows) past),
      f.state ∙ ap (λ (l : List Step). after_steps (state_seen old) old.number l) none,
      stays_by old new es lone.alone did,
    )
unknown_comes cat row retailer old new lone (es, inr (below, inl looks), did) =
    let f = shape_follows old new es lone.alone did in
    let good = is_sound old.layout old.seen lone.legal in (
      own_unshown old.layout (state_seen old) row retailer good (none_shown old.layout (state_seen old) old.number row es looks f.legal),
      f.state ∙ looks_stay (state_seen old) old.number es (row_looked row None es looks),
      stays_by old new es lone.alone did,
    )
unknown_comes cat row retailer old new lone (es, inr (below, inr (v, other, looks)), did) =
    let f = shape_follows old new es lone.alone did in
    let good = is_sound old.layout old.seen lone.legal in
    let at = row_shown old.layout (state_seen old) old.number row v es good (ranges_all old.layout old.seen lone.legal) lone.fit looks f.legal in (
      own_other old.layout (state_seen old) row retailer at.booking good at.found at.sealed (λ e. other (ap (λ (x : RowSeen). x.retailer) at.view ∙ e)),
      f.state ∙ looks_stay (state_seen old) old.number es (row_looked row (Some v) es looks),
      stays_by old new es lone.alone did,
    )

-- What a command on a booking comes to: the outcome for the retailer's booking, or nothing changed for want of memory.
pub booking_comes : (cat : CatalogueView) (row : RowNo) (retailer : ℕ) (Does : RowSeen → Replying) (does : Plain → RowSeen → Outcome) (old new : DeskView) (reply : Reply)
    → IsLone cat old → ComesOn cat.rows row retailer Does does → OnBooking cat.rows row retailer Does old new reply
    → (ComesTo (on_own (plain_of old) row retailer (does (plain_of old))) (state_seen new) reply ⊎ ((reply ≡ problem NoMemory) × (plain_of new ≡ plain_of old))) × IsLone cat new
booking_comes cat row retailer Does does old new reply lone comes (inl (did, is)) =
    let none = unknown_comes cat row retailer old new lone did in
    let left : IsSettled (state_seen new) = subst IsSettled (sym none.1) lone.settled in (
      inl (subst (λ (o : Option RowSeen). ComesTo (on_view (does (plain_of old)) (plain_of old) o) (state_seen new) reply) (sym none.0)
          (record { reply_is = is; plain_is = ap plain_in none.1; settled = left })),
      still_lone cat old new lone none.2 left,
    )
booking_comes cat row retailer Does does old new reply lone comes (inr (v, mid, (es, (below, (mine, looks)), did), then)) =
    let s = state_seen old in
    let f = shape_follows old mid es lone.alone did in
    let good = is_sound old.layout old.seen lone.legal in
    let at = row_shown old.layout s old.number row v es good (ranges_all old.layout old.seen lone.legal) lone.fit looks f.legal in
    let b = at.booking in
    let retailers : word_at b 1 ≡ retailer = sym (ap (λ (x : RowSeen). x.retailer) at.view) ∙ mine in
    let state : state_seen mid ≡ s = f.state ∙ looks_stay s old.number es (row_looked row (Some v) es looks) in
    let owned : own_view (plain_of old) row retailer ≡ Some (view_of b) = own_is old.layout s row retailer b good at.found at.generation at.sealed retailers in
    finish mid b (stays_by old mid es lone.alone did) state at.found at.generation at.sealed retailers below owned at.view then
  where
    finish : (mid : DeskView) (b : Booking) → StaysAlone old mid → state_seen mid ≡ state_seen old → present (state_seen old) row.row ≡ Some b → b.generation ≡ row.generation
        → is_sealed b.phase ≡ true → word_at b 1 ≡ retailer → row.row < cat.rows → own_view (plain_of old) row retailer ≡ Some (view_of b) → v ≡ view_of b
        → Does v mid new reply ⊎ ((new ≡ mid) × (reply ≡ problem NoMemory))
        → (ComesTo (on_own (plain_of old) row retailer (does (plain_of old))) (state_seen new) reply ⊎ ((reply ≡ problem NoMemory) × (plain_of new ≡ plain_of old))) × IsLone cat new
    finish mid b first same at generation sealed mine below owned view (inl did) =
        let found : present (state_seen mid) row.row ≡ Some b = ap (λ (u : State). present u row.row) same ∙ at in
        let settled : IsSettled (state_seen mid) = subst IsSettled (sym same) lone.settled in
        let done = comes mid new b reply first.alone first.legal found generation sealed mine below settled (subst FitWords (sym first.layout) lone.fit) (subst (λ (x : RowSeen). Does x mid new reply) view did) in (
          inl (subst (λ (o : Option RowSeen). ComesTo (on_view (does (plain_of old)) (plain_of old) o) (state_seen new) reply) (sym owned)
              (subst (λ (u : State). ComesTo (does (plain_in u) (view_of b)) (state_seen new) reply) same done.0)),
          still_lone cat old new lone (stays_then old mid new first done.1) done.0.settled,
        )
    finish mid b first same at generation sealed mine below owned view (inr (is, none)) =
        let state : state_seen new ≡ state_seen old = ap state_seen is ∙ same in (
          inr (none, ap plain_in state),
          still_lone cat old new lone (subst (StaysAlone old) (sym is) first) (subst IsSettled (sym state) lone.settled),
        )

show_on : (rows : ℕ) (row : RowNo) (retailer : ℕ) → ComesOn rows row retailer (shows row) (shown row)
show_on rows row retailer mid new b reply alone legal at same sealed mine below settled fit (is, told) = (
  record { reply_is = told; plain_is = ap plain_of is; settled = subst IsSettled (sym (ap state_seen is)) settled },
  subst (StaysAlone mid) (sym is) (record { alone = alone; legal = legal; layout = refl }),
)

confirm_on : (rows : ℕ) (row : RowNo) (retailer now : ℕ) → ComesOn rows row retailer (ConfirmsFound rows row retailer now) (confirmed row now)
confirm_on rows row retailer now mid new b reply alone legal at same sealed mine below settled fit (a, (es, did, shape), told) =
    let f = shape_follows mid new es alone shape in
    let s = state_seen mid in (
      subst (λ (r : Reply). ComesTo (confirmed row now (plain_in s) (view_of b)) (state_seen new) r) (sym told)
          (subst (λ (t : State). ComesTo (confirmed row now (plain_in s) (view_of b)) t (confirm_reply row now (view_of b) a)) (sym f.state)
          (confirm_comes mid.layout s mid.number rows row retailer now b a es (is_sound mid.layout mid.seen legal) at same sealed mine below settled f.legal did)),
      stays_by mid new es alone shape,
    )

fulfil_on : (rows : ℕ) (row : RowNo) (retailer : ℕ) → ComesOn rows row retailer (FulfilsFound rows row retailer) (fulfilled row)
fulfil_on rows row retailer mid new b reply alone legal at same sealed mine below settled fit (a, (es, did, shape), told) =
    let f = shape_follows mid new es alone shape in
    let s = state_seen mid in (
      subst (λ (r : Reply). ComesTo (fulfilled row (plain_in s) (view_of b)) (state_seen new) r) (sym told)
          (subst (λ (t : State). ComesTo (fulfilled row (plain_in s) (view_of b)) t (fulfil_reply row (view_of b) a)) (sym f.state)
          (fulfil_comes mid.layout s mid.number rows row retailer b a es (is_sound mid.layout mid.seen legal) at same sealed mine below settled f.legal did)),
      stays_by mid new es alone shape,
    )

release_on : (rows : ℕ) (row : RowNo) (retailer now : ℕ) → ComesOn rows row retailer (ReleasesFound rows row retailer now) (released row now)
release_on rows row retailer now mid new b reply alone legal at same sealed mine below settled fit (a, (es, did, shape), told) =
    let f = shape_follows mid new es alone shape in
    let s = state_seen mid in (
      subst (λ (r : Reply). ComesTo (released row now (plain_in s) (view_of b)) (state_seen new) r) (sym told)
          (subst (λ (t : State). ComesTo (released row now (plain_in s) (view_of b)) t (release_reply row now (view_of b) a)) (sym f.state)
          (release_comes mid.layout s mid.number rows row retailer now b a es (is_sound mid.layout mid.seen legal) at same sealed mine below settled f.legal did)),
      stays_by mid new es alone shape,
    )

-- each of the commands

pub to_plainly : (cat : CatalogueView) (retailer now : ℕ) (o : Outcome) (old new : DeskView) (reply : Reply)
    → (ComesTo o (state_seen new) reply ⊎ ((reply ≡ problem NoMemory) × (plain_of new ≡ plain_of old))) × IsLone cat new
    → (((reply ≡ o.reply) × (plain_of new ≡ o.plain)) ⊎ ((reply ≡ problem NoMemory) × (plain_of new ≡ plain_of old))) × IsLone cat new
to_plainly cat retailer now o old new reply (inl comes, lone) = (inl (comes.reply_is, comes.plain_is), lone)
to_plainly cat retailer now o old new reply (inr none, lone) = (inr none, lone)

pub show_plain : (cat : CatalogueView) (retailer now : ℕ) (row : RowNo) → AnswersPlainly cat retailer now (Ok (order.show row))
show_plain cat retailer now row old new reply lone did =
    to_plainly cat retailer now (on_own (plain_of old) row retailer (shown row (plain_of old))) old new reply
    (booking_comes cat row retailer (shows row) (shown row) old new reply lone (show_on cat.rows row retailer) did)

pub confirm_plain : (cat : CatalogueView) (retailer now : ℕ) (row : RowNo) → AnswersPlainly cat retailer now (Ok (order.confirm row))
confirm_plain cat retailer now row old new reply lone did =
    to_plainly cat retailer now (on_own (plain_of old) row retailer (confirmed row now (plain_of old))) old new reply
    (booking_comes cat row retailer (ConfirmsFound cat.rows row retailer now) (confirmed row now) old new reply lone (confirm_on cat.rows row retailer now) did)

pub fulfil_plain : (cat : CatalogueView) (retailer now : ℕ) (row : RowNo) → AnswersPlainly cat retailer now (Ok (order.fulfil row))
fulfil_plain cat retailer now row old new reply lone did =
    to_plainly cat retailer now (on_own (plain_of old) row retailer (fulfilled row (plain_of old))) old new reply
    (booking_comes cat row retailer (FulfilsFound cat.rows row retailer) (fulfilled row) old new reply lone (fulfil_on cat.rows row retailer) did)

pub release_plain : (cat : CatalogueView) (retailer now : ℕ) (row : RowNo) → AnswersPlainly cat retailer now (Ok (order.release row))
release_plain cat retailer now row old new reply lone did =
    to_plainly cat retailer now (on_own (plain_of old) row retailer (released row now (plain_of old))) old new reply
    (booking_comes cat row retailer (ReleasesFound cat.rows row retailer now) (released row now) old new reply lone (release_on cat.rows row retailer now) did)
