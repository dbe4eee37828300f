-- The first words are those so far.
use Rattle.std.proofs.Common.{◌≡◌, take}
use Rattle.cold_store.specs.Drafts.{put}
use Rattle.cold_store.proofs.draft.Draft.write.Given as goal

abbrev pub invariant-loop-k : goal.invariant-loop-k
invariant-loop-k l =
    record {
      words : l.self-inside.words.items ≡ put l.fn.self.words l.first (take l.k l.words);
      places : l.self-inside.places ≡ l.fn.self.places;
      rows : l.self-inside.rows ≡ l.fn.self.rows;
      lines : l.self-inside.lines.items ≡ l.fn.self.lines;
      follows : l.self-inside.follows.items ≡ l.fn.self.follows;
      wrong : l.self-inside.wrong ≡ l.fn.self.wrong;
      overlap : l.self-inside.overlap ≡ l.fn.self.overlap;
    }
