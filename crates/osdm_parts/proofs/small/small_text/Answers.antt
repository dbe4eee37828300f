use Rattle.std.proofs.Common.{◌≡◌, ◌∙◌, sym, arith, append_assoc}
use Rattle.std.proofs.lemmas.Grind.{common_steps}
use Rattle.osdm_parts.specs.Problems.{problem_line}
use Rattle.osdm_parts.proofs.SmallLemmas.{line_text, compact_text-problem_tree}
use Rattle.osdm_parts.proofs.small.small_text.Goals as goal

pub returns : goal.returns
returns c =
    let pushed : c.push-7.new.text.items ≡ line_text (problem_line c.args.problem.now) = grind (arith, common_steps, append_assoc) in
    pushed ∙ sym (compact_text-problem_tree c.args.problem.now c.push_detail.ensures.moments)
