use Rattle.std.proofs.Common.{◌≡◌, ◌≤◌, length, take, inl, sym, ◌∙◌, subst, arith}
use Rattle.std.proofs.lemmas.List.{take_all}
use Rattle.http_wire.specs.Scan.{IsOpen}
use Rattle.http_wire.proofs.Fronts.{no_head_at, no_end, no_lines_in, unfinished_head}
use Rattle.http_wire.proofs.ScanLemmas.{open_of, open_search, open_is_blank, open_not_blank}
use Rattle.http_wire.proofs.intake.without_head.Goals as goal

pub returns-then-text-ge-HEAD_ROOM-clause-front : goal.returns-then-text-ge-HEAD_ROOM-clause-front
returns-then-text-ge-HEAD_ROOM-clause-front c =
    let scan = c.args.scan in
    let searched = take scan.at c.args.text.now in
    let open' = open_of scan searched c.requires.open c.requires.stage.stands in
    inl (no_end c.args.text.now scan.at c.requires.all (open_search scan searched c.requires.few open') (omega arith))

pub returns-then-is_blank-clause-front : goal.returns-then-is_blank-clause-front
returns-then-is_blank-clause-front c =
    let scan = c.args.scan in
    let text = c.args.text.now in
    let all : take scan.at text ≡ text = take_all scan.at text (omega (arith, c.requires.all)) in
    let open' : IsOpen scan text = subst (IsOpen scan) all (open_of scan (take scan.at text) c.requires.open c.requires.stage.stands) in
    open_is_blank scan text open' (sym c.is_blank.ensures ∙ c.if-is_blank.true) (omega arith)

pub returns-else-is_blank-clause-front : goal.returns-else-is_blank-clause-front
returns-else-is_blank-clause-front c =
    let scan = c.args.scan in
    let text = c.args.text.now in
    let past : length text ≤ scan.at = omega (arith, c.requires.all) in
    let searched = open_of scan (take scan.at text) c.requires.open c.requires.stage.stands in
    let nothing = open_search scan (take scan.at text) c.requires.few searched in
    let open' : IsOpen scan text = subst (IsOpen scan) (take_all scan.at text past) searched in (
      unfinished_head text (no_head_at text scan.at c.requires.all nothing) (no_lines_in text scan.at past nothing) (omega arith)
          (open_not_blank scan text open' (sym c.is_blank.ensures ∙ c.if-is_blank.false)),
      omega arith,
    )
