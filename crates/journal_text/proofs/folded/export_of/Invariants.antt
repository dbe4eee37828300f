use Rattle.std.proofs.Common.{◌≡◌, [], ◌∷◌, ◌++◌, flat_map, length, take, ◌≤◌}
use Rattle.line_text.specs.Lines.{first_line}
use Rattle.journal_text.specs.Rooms.{kept}
use Rattle.journal_text.proofs.folded.export_of.Given as goal

abbrev pub invariant-loop-last : goal.invariant-loop-last
invariant-loop-last l =
    record {
      text : l.text.items
          ≡ (first_line l.fn.head.places l.fn.head.rows ++ 10 ∷ []) ++ flat_map (λ line. line) (kept (take l.last-index l.fn.lasts));
      count : l.count ≡ length (kept (take l.last-index l.fn.lasts));
      end : l.last-index-end ≡ length l.fn.lasts;
      low : l.last-index ≤ length l.fn.lasts;
    }
