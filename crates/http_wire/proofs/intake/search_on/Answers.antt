use Rattle.std.proofs.Common.{◌≡◌, ℕ, List, ◌++◌, length, take, refl, subst, arith}
use Rattle.std.specs.Prelude.{slice_range, min}
use Rattle.http_wire.specs.declared.scan.HeadScan.{HeadScan}
use Rattle.http_wire.specs.Scan.{StandsFor}
use Rattle.http_wire.specs.Stages.{IsSearched}
use Rattle.http_wire.proofs.ScanLemmas.{searched_more, search_stands}
use Rattle.http_wire.proofs.intake.search_on.Goals as goal

-- the search over all of the room
fed : (text : List ℕ) (before scan : HeadScan) (room : ℕ) → room ≡ min (length text) 16384 → IsSearched text before
    → ((bytes : List ℕ) → StandsFor before bytes → StandsFor scan (bytes ++ slice_range text before.at room)) → StandsFor scan (take room text)
fed text before scan room is at stands =
    subst (StandsFor scan) (searched_more text before.at room (omega (arith, is, at.within, at.short))) (stands (take before.at text) at.stands)

pub after_search-requires : goal.after_search-requires
after_search-requires g c =
    let text = c.args.text.now in
    let room = c.min-room.result in
    let all = fed text c.args.before c.feed-scan.result room c.min-room.ensures c.requires c.feed-scan.ensures.stands in
    let found = search_stands text c.feed-scan.result room c.min-room.ensures all in
    record { stage = found.0; all = found.1; kept = refl }
