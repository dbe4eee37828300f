-- What contracts see of the words that were read.
use Rattle.std.specs.Prelude.{option_map}
use Rattle.host_words.specs.Replay.{ReplayView}
use Rattle.host_words.specs.declared.replay.ReplayWords.{ReplayWords}
use Rattle.host_words.specs.Serve.{ServeView}
use Rattle.host_words.specs.declared.serve.ServeWords.{ServeWords}

abbrev pub view_of : ReplayWords → ReplayView
view_of words =
    record {
      catalogue = words.catalogue.now;
      from = option_map (λ name. name.now) words.from;
      start = words.start;
      tick = words.tick;
    }

abbrev pub said_in : ServeWords → ServeView
said_in words =
    record {
      catalogue = words.catalogue.now;
      from = option_map (λ name. name.now) words.from;
      journal = option_map (λ name. name.now) words.journal;
      numbers = words.numbers;
      export = words.export;
    }
