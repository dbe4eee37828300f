use Rattle.std.proofs.Common.{◌≡◌, ◌<◌, ℕ, List, length, replicate, sum, refl, ap, sym, subst, arith}
use Rattle.host_window.specs.Listed.{text_at}
use Rattle.host_window.specs.Runs.{AddUp, raised}
use Rattle.host_window.specs.declared.listed.Reply.{Reply}
use Rattle.host_window.proofs.ReplyTexts.{some_text}
use Rattle.host_window.proofs.Sums.{added}
use Rattle.host_window.proofs.run.count_replies.Goals as goal

pub count_session-requires-clause-some : goal.count_session-requires-clause-some
count_session-requires-clause-some g c =
    let same : c.of-responder.result.replies.now ≡ c.args.replies.now = ap (λ r. r.now) c.of-responder.ensures.replies in
    λ n. subst (λ (replies : List Reply). 0 < length (text_at replies n)) (sym same) (some_text c.args.replies.now n c.requires.some)

pub returns : goal.returns
returns g c =
    let same : c.of-responder.result.replies.now ≡ c.args.replies.now = ap (λ r. r.now) c.of-responder.ensures.replies in
    let text = text_at c.of-responder.result.replies.now in
    let start : List ℕ = replicate 16 0 in
    let none : sum start ≡ 0 = refl in
    let so = c.count_session.ensures.counted start c.in_ok-counting.ensures.counts in
    record {
      counted = subst (λ (replies : List Reply). AddUp (text_at replies) (g.K.Sink.told c.count_session.result.sink) c.count_session.result.counts) same (
        so.0,
        so.1,
        raised text so.0 start,
        so.2,
        so.3,
        so.4,
        refl,
        λ few. let all = added text so.0 start refl (omega (arith, few, none)) in omega (arith, all, none),
      );
    }
