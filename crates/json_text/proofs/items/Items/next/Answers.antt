use Rattle.std.proofs.Common.{◌≡◌, length, None, ap, arith}
use Rattle.json.specs.Json.{after_end_array, value}
use Rattle.json_text.proofs.Listed.{first_of, ahead_one}
use Rattle.json_text.proofs.Turns.{items_over, item_refused}
use Rattle.json_text.proofs.items.Items.next.Goals as goal

pub returns-then-take_end_array-clause-ok : goal.returns-then-take_end_array-clause-ok
returns-then-take_end_array-clause-ok c =
    let ts = c.args.self.now.reader in
    ap first_of (items_over (value 125) (length ts) ts c.take_end_array.new.self (omega arith) (grind arith))

pub returns-in_err-read-clause-err : goal.returns-in_err-read-clause-err
returns-in_err-read-clause-err c refused =
    let ts = c.args.self.now.reader in
    let going : (after_end_array ts ≡ None) × (c.take_end_array.new.self ≡ ts) = grind arith in
    ap first_of (item_refused (value 125) (length ts) ts going.0 (rw (← going.1) (c.read.ensures.err (grind arith))))

pub returns-clause-ok : goal.returns-clause-ok
returns-clause-ok c =
    let ts = c.args.self.now.reader in
    let going : (after_end_array ts ≡ None) × (c.take_end_array.new.self ≡ ts) = grind arith in
    ahead_one ts _ _ going.0 (rw (← going.1) c.in_ok-read.ensures.ok) (rw (← going.1) c.in_ok-read.ensures.shorter)
