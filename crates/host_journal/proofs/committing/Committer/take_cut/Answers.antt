use Rattle.std.proofs.lemmas.Option.{IfSome_then}
use Rattle.host_journal.proofs.committing.Committer.take_cut.Goals as goal

pub returns-in-Ok-clause-tidy : goal.returns-in-Ok-clause-tidy
returns-in-Ok-clause-tidy g c = c.look-looked.ensures.tidy c.requires.tidy

pub returns-in-Ok-clause-kept : goal.returns-in-Ok-clause-kept
returns-in-Ok-clause-kept g c = IfSome_then c.keep-kept.result c.keep-kept.ensures.kept (λ _ kept. record {
  whole = c.is_grown-is_whole.result;
  lines = c.in-Ok.looked.lines;
  looks = c.in-Ok.ensures.lines;
  kept = kept;
})

pub returns-in-Err-clause-tidy : goal.returns-in-Err-clause-tidy
returns-in-Err-clause-tidy g c = c.look-looked.ensures.tidy c.requires.tidy
