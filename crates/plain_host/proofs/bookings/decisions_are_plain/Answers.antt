use Rattle.plain_host.proofs.Commands.{show_plain, confirm_plain, fulfil_plain, release_plain}
use Rattle.plain_host.proofs.Trades.{quote_refund_plain, quote_exchange_plain}
use Rattle.plain_host.proofs.Sweeps.{sweep_plain, refused_plain}
use Rattle.plain_host.proofs.AllLaws.{refund_command_plain}
use Rattle.plain_host.proofs.bookings.decisions_are_plain.Goals as goal

pub returns : goal.returns
returns c = record {
  show = show_plain;
  confirm = confirm_plain;
  fulfil = fulfil_plain;
  release = release_plain;
  sweep = sweep_plain;
  quote_refund = quote_refund_plain;
  accept_refund = refund_command_plain;
  quote_exchange = quote_exchange_plain;
  refused = refused_plain;
}
