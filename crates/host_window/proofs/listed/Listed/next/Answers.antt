use Rattle.std.proofs.Common.{rules, ◌≡◌, ◌++◌, ◌∙◌, ℕ, List, ap, sym}
use Rattle.session_loop.specs.Answered.{answer_bytes}
use Rattle.host_window.specs.Listed.{reply_text}
use Rattle.host_window.proofs.ReplyTexts.{gone, there}
use Rattle.host_window.proofs.listed.Listed.next.Goals as goal

pub returns-in-Some : goal.returns-in-Some
returns-in-Some c =
    let all = c.args.self.now.replies.now in
    let reply = c.in-Some.reply.now in
    let is : answer_bytes c.answer_with.result ≡ reply_text reply =
    c.answer_with.ensures
    ∙ (ap (λ (t : List ℕ). t ++ c.as_slice-in-Some.result.now) c.as_slice.ensures.value
    ∙ ap (λ (t : List ℕ). reply.head.items ++ t) c.as_slice-in-Some.ensures.value) in
    let found = c.in-Some.ensures.lookup in
    is ∙ sym (there all c.args.self.now.given reply found.3.0 found.1)

pub returns-in-None : goal.returns-in-None
returns-in-None c =
    let none = gone c.args.self.now.replies.now c.args.self.now.given c.in-None.ensures.lookup.3 in
    let is = c.answer_with-in-None.ensures in
    search rules
