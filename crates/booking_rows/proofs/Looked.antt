-- What a look at a booking's row adds are looks alone.
use Rattle.std.proofs.Common.{inl, inr, ℕ, List, [], ◌∷◌, Option, Some, None, refl, sym, subst}
use Rattle.rail_ids.specs.declared.RowNo.{RowNo}
use Rattle.history_model.specs.declared.booking.End.{End}
use Rattle.history_model.specs.declared.entry.Step.{Step}
use Rattle.history_model.specs.declared.entry.Step.TheVariants.{SawRow}
use Rattle.history_model.specs.declared.phase.Phase.{Phase}
use Rattle.history_model.specs.declared.phase.Phase.TheVariants.{Free, Making, Prebooked, Confirmed, Fulfilled, Ending, Ended}
use Rattle.claim_rule.specs.Endings.{item_looks}
use Rattle.claim_rule.specs.Out.{AllLooks}
use Rattle.booking_rows.specs.Views.{RowSeen, LooksRow, saw_end, saw_words, word_looks, words_read}
use Rattle.booking_rows.proofs.ViewLemmas.{looks_all, looks_append}
use Rattle.booking_rows.proofs.TurnLemmas.{items_look}

end_looked : (row : ℕ) (phase : Phase) (e : Option End) → AllLooks (saw_end row phase e)
end_looked row Free e = tt
end_looked row Making e = tt
end_looked row Prebooked e = tt
end_looked row Confirmed e = tt
end_looked row Fulfilled e = tt
end_looked row (Ending kind) e = tt
end_looked row (Ended kind) None = tt
end_looked row (Ended kind) (Some e) = (refl, (refl, (refl, tt)))

-- whether a booking was seen or not
pub row_looked : (row : RowNo) (v : Option RowSeen) (es : List Step) → LooksRow row v es → AllLooks es
row_looked row None es (inl (n, unsealed, is)) = subst AllLooks (sym is) (refl, tt)
row_looked row None es (inr (ws, last, read, free, is)) =
    let words : AllLooks (words_read row.row ws) = (refl, (refl, (refl, (refl, looks_append (word_looks row.row 8 ws.items) (word_looks row.row 5 ws.end) (looks_all row.row 8 ws.items) (looks_all row.row 5 ws.end))))) in
    subst AllLooks (sym is) (refl, looks_append (words_read row.row ws) (SawRow row.row 0 last ∷ []) words (refl, tt))
row_looked row (Some v) es (seen, (last, kept, is)) =
    let words : AllLooks (saw_words row.row v) = (refl, (refl, (refl, (refl, looks_append (item_looks row.row 8 v.items) (saw_end row.row v.phase v.ended) (items_look row.row 8 v.items) (end_looked row.row v.phase v.ended))))) in
    subst AllLooks (sym is) (refl, looks_append (saw_words row.row v) (SawRow row.row 0 last ∷ []) words (refl, tt))
