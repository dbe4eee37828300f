use Rattle.std.proofs.Common.{◌∙◌, ap₂}
use Rattle.std.proofs.lemmas.Result.{IfOk-weaker}
use Rattle.clap.specs.Words.{with_rule}
use Rattle.host_words.proofs.serve.serve_command.Goals as goal

pub returns : goal.returns
returns c =
    IfOk-weaker c.arg-10.result _ _ (λ r h. h.shape c.address_option.ensures.local ∙ ap₂ with_rule (c.in_ok-arg-9.ensures.shape c.window_option.ensures.local
    ∙ ap₂ with_rule (c.in_ok-arg-8.ensures.shape c.export_option.ensures.local
    ∙ ap₂ with_rule (c.in_ok-arg-7.ensures.shape c.journal_option.ensures.local
    ∙ ap₂ with_rule (c.in_ok-arg-6.ensures.shape c.from_option.ensures.local
    ∙ ap₂ with_rule (c.in_ok-arg-5.ensures.shape c.sweep_option.ensures.local ∙ ap₂ with_rule (c.in_ok-arg-4.ensures.shape c.connections_option.ensures.local
    ∙ ap₂ with_rule (c.in_ok-arg-3.ensures.shape c.workers_option.ensures.local ∙ ap₂ with_rule (c.in_ok-arg-2.ensures.shape c.port_option.ensures.local
    ∙ ap₂ with_rule (c.in_ok-arg.ensures.shape c.catalogue_word.ensures.local ∙ ap₂ with_rule c.new.ensures.app c.catalogue_word.ensures.rule)
    c.port_option.ensures.rule) c.workers_option.ensures.rule) c.connections_option.ensures.rule) c.sweep_option.ensures.rule)
    c.from_option.ensures.rule) c.journal_option.ensures.rule) c.export_option.ensures.rule) c.window_option.ensures.rule) c.address_option.ensures.rule) c.arg-10.ensures
