-- The lines that a drill counts are the answers with their statuses.
use Rattle.std.proofs.Common.{◌≡◌, ◌∙◌, ℕ, ◌+◌, ◌==◌, true, false, List, [], ◌∷◌, ◌++◌, codes, refl, sym, ap, subst}
use Rattle.std.specs.Fmt.{digits}
use Rattle.serde_json.specs.Written.{compact_text}
use Rattle.claim_rule.specs.Rule.{DeskView}
use Rattle.catalogue_contents.specs.Contents.{CatalogueView}
use Rattle.osdm_parts.specs.declared.problem.Problem.{Problem}
use Rattle.osdm_parts.specs.declared.problem.Problem.TheVariants.{BadHead}
use Rattle.osdm_parts.specs.Problems.{problem_line}
use Rattle.osdm_texts.specs.Answers.{Reply, offer_list, created, booking, refund_offer, exchange_offer, exchanged, place_list, swept, problem, status_of, is_problem, tree_of}
use Rattle.rail_service.specs.Bytes.{reply_bytes}
use Rattle.host_drill.specs.Totals.{one_if, times, refused_line, no_memory_line, busy_line}
use Rattle.host_drill.proofs.LineSearch.{StartsWith, has}
use Rattle.host_drill.specs.Worked.{AnswersEach, replies_with}
use Rattle.host_drill.proofs.Bodies.{none_in_text}
use Rattle.host_drill.proofs.Heads.{StandsBy, starts_answer, times_in_answer}

-- the line, with H before it, stands in the answers with this status, and else nowhere
record IsLineOf (line : List ℕ) (wanted : ℕ) : Type 0 where
  stops : has 13 line ≡ true
  lacks : has 72 line ≡ false
  stands : (reply : Reply) → StandsBy (72 ∷ line) wanted (status_of reply) (is_problem reply)

-- so of each line with these statuses
by_status : (line : List ℕ) (wanted : ℕ) → StandsBy line wanted 200 false → StandsBy line wanted 201 false
    → ((p : Problem) → StandsBy line wanted (problem_line p).status true) → (reply : Reply) → StandsBy line wanted (status_of reply) (is_problem reply)
by_status line wanted found made problems (offer_list offers) = found
by_status line wanted found made problems (created row view) = made
by_status line wanted found made problems (booking row view) = found
by_status line wanted found made problems (refund_offer code) = made
by_status line wanted found made problems (exchange_offer code) = made
by_status line wanted found made problems (exchanged row view difference replaced) = made
by_status line wanted found made problems (place_list run free) = found
by_status line wanted found made problems (swept n) = found
by_status line wanted found made problems (problem p) = problems p

refused_by_problem : (p : Problem) → StandsBy refused_line 409 (problem_line p).status true
unfolding digits
refused_by_problem BadHead = (refl, refl)
refused_by_problem _ = (refl, refl)

busy_by_problem : (p : Problem) → StandsBy busy_line 503 (problem_line p).status true
unfolding digits
busy_by_problem BadHead = (refl, refl)
busy_by_problem _ = (refl, refl)

no_memory_by_problem : (p : Problem) → StandsBy no_memory_line 500 (problem_line p).status true
unfolding digits
no_memory_by_problem BadHead = (refl, refl)
no_memory_by_problem _ = (refl, refl)

refused_lines : IsLineOf (codes "TTP/1.1 409 Conflict\r\n") 409
unfolding digits
refused_lines = record { stops = refl; lacks = refl; stands = by_status refused_line 409 (refl, refl) (refl, refl) refused_by_problem }

busy_lines : IsLineOf (codes "TTP/1.1 503 Service Unavailable\r\n") 503
unfolding digits
busy_lines = record { stops = refl; lacks = refl; stands = by_status busy_line 503 (refl, refl) (refl, refl) busy_by_problem }

no_memory_lines : IsLineOf (codes "TTP/1.1 500 Internal Server Error\r\n") 500
unfolding digits
no_memory_lines = record { stops = refl; lacks = refl; stands = by_status no_memory_line 500 (refl, refl) (refl, refl) no_memory_by_problem }

starts_reply : (cat : CatalogueView) (reply : Reply) (more : List ℕ) → StartsWith 72 (reply_bytes cat false reply ++ more)
unfolding reply_bytes
starts_reply cat reply more = starts_answer (status_of reply) (is_problem reply) (compact_text (tree_of cat reply)) more

times_in_reply : (line : List ℕ) (wanted : ℕ) → IsLineOf line wanted → (cat : CatalogueView) (reply : Reply) (rest : List ℕ) → StartsWith 72 rest
    → times (72 ∷ line) (reply_bytes cat false reply ++ rest) ≡ one_if (status_of reply == wanted) + times (72 ∷ line) rest
unfolding reply_bytes
times_in_reply line wanted is cat reply rest starts =
    times_in_answer line wanted (status_of reply) (is_problem reply) (compact_text (tree_of cat reply)) rest is.stops is.lacks (is.stands reply) (none_in_text (tree_of cat reply)) starts

module _ (cat : CatalogueView) (seed : ℕ) where
  starts_each : (k : ℕ) (old new : DeskView) (replies : List Reply) (written : List ℕ) → AnswersEach cat seed k old replies written new → StartsWith 72 written
  starts_each k old new [] written each = subst (StartsWith 72) (sym each.0) tt
  starts_each k old new (reply ∷ more) written each = subst (StartsWith 72) (sym each.6) (starts_reply cat reply each.2)

  times_in_each : (line : List ℕ) (wanted : ℕ) → IsLineOf line wanted → (k : ℕ) (old new : DeskView) (replies : List Reply) (written : List ℕ)
      → AnswersEach cat seed k old replies written new → times (72 ∷ line) written ≡ replies_with wanted replies
  times_in_each line wanted is k old new [] written each = ap (times (72 ∷ line)) each.0
  times_in_each line wanted is k old new (reply ∷ more) written each =
      ap (times (72 ∷ line)) each.6 ∙ (times_in_reply line wanted is cat reply each.2 (starts_each (k + 1) each.0 new more each.2 each.7)
      ∙ ap (λ (n : ℕ). one_if (status_of reply == wanted) + n) (times_in_each line wanted is (k + 1) each.0 new more each.2 each.7))

  -- the lines counted in what was written are the answers with status 409, with 503 and with 500
  pub lines_counted : (k : ℕ) (old new : DeskView) (replies : List Reply) (written : List ℕ) → AnswersEach cat seed k old replies written new
      → (times refused_line written ≡ replies_with 409 replies) × (times busy_line written ≡ replies_with 503 replies)
      × (times no_memory_line written ≡ replies_with 500 replies)
  lines_counted k old new replies written each = (
    times_in_each (codes "TTP/1.1 409 Conflict\r\n") 409 refused_lines k old new replies written each,
    times_in_each (codes "TTP/1.1 503 Service Unavailable\r\n") 503 busy_lines k old new replies written each,
    times_in_each (codes "TTP/1.1 500 Internal Server Error\r\n") 500 no_memory_lines k old new replies written each,
  )
